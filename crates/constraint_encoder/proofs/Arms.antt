-- What is told of a form is told of an expression that has it.
use Rattle.std.proofs.Common.{◌≡◌, ℕ, ◌<◌, Bool, true, ◌&&◌, List, sym, subst, arith}
use Rattle.std.specs.Prelude.{nat_le}
use Rattle.std.proofs.lemmas.Bool.Decides.{nat_tests}
use Rattle.bool_circuit.specs.declared.gate.Wire.{Wire}
use Rattle.bool_circuit.specs.declared.gate.Gate.{Gate}
use Rattle.clf_tree.specs.declared.scopes.Scopes.{Scopes}
use Rattle.clf_tree.specs.Core.{Core}
use Rattle.set_bits.specs.declared.layout.Layout.{Layout}
use Rattle.set_bits.specs.declared.sets.Member.{Member}
use Rattle.shown_instance.proofs.Order.{both}
use Rattle.told_constraints.specs.Formed.{is_width}
use Rattle.constraint_encoder.specs.Encoded.{IsNodesOf, IsNumberOf, IsTruthOf}

pub truth_as : {gates : List Gate} {slots : List ℕ} {w : Wire} (layout : Layout) (x y : Core) → x ≡ y →
    IsTruthOf gates layout y slots w → IsTruthOf gates layout x slots w
truth_as {gates} {slots} {w} layout x y e h = subst (λ z. IsTruthOf gates layout z slots w) (sym e) h

pub nodes_as : {gates : List Gate} {slots : List ℕ} {set : List Member} (scopes : Scopes) (layout : Layout)
    (x y : Core) → x ≡ y → IsNodesOf gates scopes layout y slots set → IsNodesOf gates scopes layout x slots set
nodes_as {gates} {slots} {set} scopes layout x y e h = subst (λ z. IsNodesOf gates scopes layout z slots set) (sym e) h

pub number_as : {gates : List Gate} {slots : List ℕ} {ws : List Wire} (scopes : Scopes) (layout : Layout)
    (x y : Core) → x ≡ y → IsNumberOf gates scopes layout y slots ws → IsNumberOf gates scopes layout x slots ws
number_as {gates} {slots} {ws} scopes layout x y e h = subst (λ z. IsNumberOf gates scopes layout z slots ws) (sym e) h

pub has_bits : (w : ℕ) (rest : Bool) → (is_width w && rest) ≡ true → 0 < w
has_bits w rest h = positive ((both (nat_le 1 w) (nat_le w 64) (both (is_width w) rest h).0).0)
  where
    positive : nat_le 1 w ≡ true → 0 < w
    positive e = grind (arith, nat_tests)
