-- Slots that are looked at, one after another.
use Rattle.std.proofs.Common.{◌≡◌, ℕ, ◌+◌, ◌-◌, ◌*◌, ◌<◌, ◌≤◌, Bool, true, false, cond, ◌&&◌, List, [], ◌∷◌, length, refl, sym, ap, ◌∙◌, arith}
use Rattle.std.specs.Prelude.{nat_eq, nat_lt}
use Rattle.std.specs.List.{filter, list_all}
use Rattle.std.proofs.lemmas.Bool.Decides.{nat_tests}
use Rattle.std.proofs.lemmas.List.Sums.{length-filter, count_by-le-length}
use Rattle.bool_circuit.specs.declared.gate.Wire.{Wire}
use Rattle.bool_circuit.specs.declared.gate.Gate.{Gate}
use Rattle.bool_circuit.specs.Circuit.{wire_value, IsWireOf, Extends}
use Rattle.bool_circuit.proofs.Extending.{extends_trans, extends_within}
use Rattle.clf_tree.specs.declared.model.Clafer.{Clafer}
use Rattle.clf_tree.specs.Lists.{numbers_below}
use Rattle.set_bits.specs.declared.layout.Edge.{Edge}
use Rattle.set_bits.specs.declared.layout.Layout.{Layout}
use Rattle.shape_encoder.proofs.Steps.{and_true, list_all-push, numbers-push}
use Rattle.canonical_encoder.specs.Slots.{edges_of, follows_slot, are_canonical, canonical_cost}
use Rattle.canonical_encoder.specs.Comparing.{walk_cost, IsWalked}
use Rattle.canonical_encoder.proofs.Edges.{and_assoc}

-- an edge begins at a slot below n + 1 where it begins below n or at n
below_more : (n : ℕ) (edges : List Edge)
    → length (filter (λ e. nat_lt e.from (n + 1)) edges)
    ≡ length (filter (λ e. nat_lt e.from n) edges) + length (filter (λ e. nat_eq e.from n) edges)
below_more n [] = refl
below_more n (e ∷ es) = by (nat_lt e.from (n + 1)) (nat_lt e.from n) (nat_eq e.from n) (only e.from n) (below_more n es)
  where
    only : (a b : ℕ) → (cond (nat_lt a (b + 1)) 1 0 ≡ cond (nat_lt a b) 1 0 + cond (nat_eq a b) 1 0)
    only a b = grind (arith, nat_tests)

    by : (p q r : Bool) → cond p 1 0 ≡ cond q 1 0 + cond r 1 0
        → length (filter (λ (x : Edge). nat_lt x.from (n + 1)) es)
        ≡ length (filter (λ (x : Edge). nat_lt x.from n) es) + length (filter (λ (x : Edge). nat_eq x.from n) es)
        → length (cond p (e ∷ filter (λ (x : Edge). nat_lt x.from (n + 1)) es) (filter (λ (x : Edge). nat_lt x.from (n + 1)) es))
        ≡ length (cond q (e ∷ filter (λ (x : Edge). nat_lt x.from n) es) (filter (λ (x : Edge). nat_lt x.from n) es)) + length
        (cond r (e ∷ filter (λ (x : Edge). nat_eq x.from n) es) (filter (λ (x : Edge). nat_eq x.from n) es))
    by true true true h rest = absurd (omega (arith, h))
    by true true false h rest = omega (arith, rest)
    by true false true h rest = omega (arith, rest)
    by true false false h rest = absurd (omega (arith, h))
    by false true r h rest = absurd (omega (arith, h))
    by false false true h rest = absurd (omega (arith, h))
    by false false false h rest = omega (arith, rest)

pub walk_more : (layout : Layout) (n : ℕ) → walk_cost layout n + (5 * length (edges_of layout n) + 3) ≡ walk_cost layout (n + 1)
walk_more layout n = let e = below_more n layout.parents in omega (arith, e)

pub walk_within : (layout : Layout) (n : ℕ) → n ≤ length layout.slots → walk_cost layout n ≤ canonical_cost layout
walk_within layout n l =
    let a = length-filter (λ (e : Edge). nat_lt e.from n) layout.parents in
    let b = count_by-le-length (λ (e : Edge). nat_lt e.from n) layout.parents in
    omega (arith, a, b, l)

pub none_walked : (old : List Gate) (clafers : List Clafer) (layout : Layout) (all : Wire) → IsWireOf old all
    → IsWalked old clafers layout all 0 old all
none_walked old clafers layout all w = record {
  extends = record { at_least = omega arith; at_most = omega arith; same_inputs = refl; keeps = λ v h bits. refl };
  is_wire = w;
  value = λ bits. sym (and_true (wire_value old all bits));
}

pub walked_more : (old mid new : List Gate) (clafers : List Clafer) (layout : Layout) (all so_far wire : Wire) (n : ℕ)
    → IsWalked old clafers layout all n mid so_far → Extends mid new (5 * length (edges_of layout n) + 3) → IsWireOf new wire
    → ((bits : List Bool) → wire_value new wire bits ≡ (wire_value mid so_far bits && follows_slot clafers layout bits n))
    → IsWalked old clafers layout all (n + 1) new wire
walked_more old mid new clafers layout all so_far wire n s x w v = record {
  extends = extends_within old new (walk_cost layout n + (5 * length (edges_of layout n) + 3)) (walk_cost layout (n + 1))
      (let e = walk_more layout n in omega (arith, e))
      (extends_trans old mid new (walk_cost layout n) (5 * length (edges_of layout n) + 3) s.extends x);
  is_wire = w;
  value = λ bits.
      v bits ∙ ap (λ b. b && follows_slot clafers layout bits n) (s.value bits)
      ∙ and_assoc (wire_value old all bits) (list_all (follows_slot clafers layout bits) (numbers_below n))
      (follows_slot clafers layout bits n)
      ∙ ap (λ b. wire_value old all bits && b)
      (sym (ap (list_all (follows_slot clafers layout bits)) (numbers-push n)
      ∙ list_all-push (follows_slot clafers layout bits) (numbers_below n) n));
}

pub all_walked : (old new : List Gate) (clafers : List Clafer) (layout : Layout) (all wire : Wire) (n : ℕ) → n ≡ length layout.slots - 1
    → IsWalked old clafers layout all n new wire
    → (bits : List Bool) → wire_value new wire bits ≡ (wire_value old all bits && are_canonical clafers layout bits)
unfolding are_canonical
all_walked old new clafers layout all wire n e s bits =
    s.value bits ∙ ap (λ k. wire_value old all bits && list_all (follows_slot clafers layout bits) (numbers_below k)) e

-- no more wires than for all slots
pub walked_within : (old mid new : List Gate) (clafers : List Clafer) (layout : Layout) (all so_far : Wire) (n : ℕ)
    → n < length layout.slots → IsWalked old clafers layout all n mid so_far → Extends mid new (5 * length (edges_of layout n) + 3)
    → Extends old new (canonical_cost layout)
walked_within old mid new clafers layout all so_far n l s x =
    extends_within old new (walk_cost layout n + (5 * length (edges_of layout n) + 3)) (canonical_cost layout)
    (let e = walk_more layout n in let w = walk_within layout (n + 1) (omega (arith, l)) in omega (arith, e, w))
    (extends_trans old mid new (walk_cost layout n) (5 * length (edges_of layout n) + 3) s.extends x)
