-- The wires of constraints and of their conjunction, one after another.
use Rattle.std.proofs.Common.{◌≡◌, ℕ, ◌+◌, ◌≤◌, ◌<◌, Bool, true, false, ◌&&◌, List, [], ◌∷◌, ◌++◌, length, take, get_or, refl, sym, ap, subst, ◌∙◌, arith}
use Rattle.std.specs.List.{list_all}
use Rattle.std.proofs.lemmas.List.{map_more, length-append, map-append}
use Rattle.std.proofs.lemmas.List.Elements.{All-nil, All-cons, All-append}
use Rattle.std.proofs.lemmas.List.Folds.{list_all_more, list_all-map}
use Rattle.std.proofs.lemmas.List.Sums.{sum_by_more, sum_by_more_le}
use Rattle.bool_circuit.specs.declared.gate.Gate.{Gate}
use Rattle.bool_circuit.specs.declared.gate.Wire.{Wire}
use Rattle.bool_circuit.specs.Circuit.{wire_value, wire_values, AreWiresOf, IsWireOf, Extends}
use Rattle.bool_circuit.proofs.Extending.{extends_trans, wires_stay, wire_values_stay}
use Rattle.clf_tree.specs.declared.core_expr.CoreExpr.{CoreExpr}
use Rattle.clf_tree.specs.declared.model.Clafer.{Clafer}
use Rattle.clf_tree.specs.declared.scopes.Scopes.{Scopes}
use Rattle.clf_tree.specs.Core.{core}
use Rattle.clf_tree.specs.CoreMeaning.{meaning, truth_in}
use Rattle.clf_tree.specs.CoreWeights.{core_weight}
use Rattle.set_bits.specs.declared.layout.Layout.{Layout}
use Rattle.shown_instance.specs.Shown.{shown}
use Rattle.told_constraints.specs.Standing.{Stands, nodes_at}
use Rattle.question_space.specs.Encoding.{all_hold}
use Rattle.question_space.specs.Wiring.{truths_cost, meanings, TellTruths, AreRulesSoFar, IsConjunctionSoFar}

extends_self : (gates : List Gate) → Extends gates gates 0
extends_self gates = record { at_least = omega arith; at_most = omega arith; same_inputs = refl; keeps = λ w h bits. refl }

-- no wire
pub rules_none : (clafers : List Clafer) (scopes : Scopes) (layout : Layout) (old : List Gate) (truths : List CoreExpr)
    (wires : List Wire) → wires ≡ [] → AreRulesSoFar clafers scopes layout old truths 0 old wires
rules_none clafers scopes layout old truths wires e =
    let P : List Wire → Type 0 = λ ws. AreRulesSoFar clafers scopes layout old truths 0 old ws in
    subst P (sym e) (record { extends = extends_self old; known = All-nil (IsWireOf old); count = refl; tell = λ bits s. refl })

-- the room for the next one
pub rules_room : (clafers : List Clafer) (scopes : Scopes) (layout : Layout) (old : List Gate) (truths : List CoreExpr) (n : ℕ)
    (new : List Gate) (wires : List Wire) (d : CoreExpr)
    → AreRulesSoFar clafers scopes layout old truths n new wires → n < length truths → length old + truths_cost scopes truths ≤ 268435456
    → length new + core_weight scopes (core (get_or truths n d)) ≤ 268435456
rules_room clafers scopes layout old truths n new wires d so_far inside room =
    let more = sum_by_more_le (λ (x : CoreExpr). core_weight scopes (core x)) truths n d inside in
    omega (arith, more, room, so_far.extends.at_most)

-- with one more
pub rules_more : (clafers : List Clafer) (scopes : Scopes) (layout : Layout) (old : List Gate) (truths : List CoreExpr) (n : ℕ)
    (new : List Gate) (wires : List Wire) (d : CoreExpr) (last : List Gate) (wire : Wire)
    → AreRulesSoFar clafers scopes layout old truths n new wires → n < length truths
    → Extends new last (core_weight scopes (core (get_or truths n d))) → IsWireOf last wire
    → ((bits : List Bool) → Stands clafers scopes layout bits [] → wire_value last wire bits ≡ truth_in
    (meaning (shown layout bits) (core (get_or truths n d)) []))
    → AreRulesSoFar clafers scopes layout old truths (n + 1) last (wires ++ wire ∷ [])
rules_more clafers scopes layout old truths n new wires d last wire so_far inside grown known value =
    let cost : ℕ = core_weight scopes (core (get_or truths n d)) in
    let more : truths_cost scopes (take (n + 1) truths) ≡ truths_cost scopes (take n truths) + cost =
    sum_by_more (λ (x : CoreExpr). core_weight scopes (core x)) truths n d inside in
    record {
      extends = subst (Extends old last) (sym more) (extends_trans old new last
          (truths_cost scopes (take n truths)) cost so_far.extends grown);
      known = All-append (IsWireOf last) wires (wire ∷ []) (wires_stay new last cost wires grown so_far.known)
          (All-cons (IsWireOf last) wire [] known (All-nil (IsWireOf last)));
      count = length-append wires (wire ∷ []) ∙ ap (λ k. k + 1) so_far.count;
      tell = told;
    }
  where
    told : TellTruths clafers scopes layout last (take (n + 1) truths) (wires ++ wire ∷ [])
    told bits s =
        let F : CoreExpr → Bool = λ (x : CoreExpr). truth_in (meaning (shown layout bits) (core x) []) in
        let older : wire_values last wires bits ≡ meanings (take n truths) (shown layout bits) =
        wire_values_stay new last (core_weight scopes (core (get_or truths n d))) wires bits grown so_far.known ∙ so_far.tell bits s in
        let here : wire_value last wire bits ≡ F (get_or truths n d) = value bits (record { shaped = s; live = refl }) in
        map-append (λ (w : Wire). wire_value last w bits) wires (wire ∷ [])
        ∙ ap (λ bs. bs ++ wire_value last wire bits ∷ []) older
        ∙ ap (λ b. meanings (take n truths) (shown layout bits) ++ b ∷ []) here
        ∙ sym (map_more F truths n d inside)

-- the same, from what a step of the loop knows
pub rules_step : (clafers : List Clafer) (scopes : Scopes) (layout : Layout) (old : List Gate) (truths : List CoreExpr) (n : ℕ)
    (new : List Gate) (wires : List Wire) (bound : List ℕ) (x : CoreExpr) (last : List Gate) (wire : Wire) (after : List Wire)
    → AreRulesSoFar clafers scopes layout old truths n new wires → bound ≡ [] → n < length truths → x ≡ get_or truths n x
    → Extends new last (core_weight scopes (core x)) → IsWireOf last wire
    → ((bits : List Bool) → Stands clafers scopes layout bits bound → wire_value last wire bits ≡ truth_in
    (meaning (shown layout bits) (core x) (nodes_at layout bound)))
    → after ≡ wires ++ wire ∷ [] → AreRulesSoFar clafers scopes layout old truths (n + 1) last after
rules_step clafers scopes layout old truths n new wires bound x last wire after so_far none inside is grown known value pushed =
    let E : CoreExpr → Type 0 = λ (y : CoreExpr). Extends new last (core_weight scopes (core y)) in
    let P : List Wire → Type 0 = λ (ws : List Wire). AreRulesSoFar clafers scopes layout old truths (n + 1) last ws in
    subst P (sym pushed) (rules_more clafers scopes layout old truths n new wires x last wire so_far inside (subst E is grown) known told)
  where
    told : (bits : List Bool) → Stands clafers scopes layout bits [] → wire_value last wire bits ≡ truth_in
        (meaning (shown layout bits) (core (get_or truths n x)) [])
    told bits s =
        value bits (subst (λ (b : List ℕ). Stands clafers scopes layout bits b) (sym none) s)
        ∙ ap (λ (b : List ℕ). truth_in (meaning (shown layout bits) (core x) (nodes_at layout b))) none
        ∙ ap (λ (y : CoreExpr). truth_in (meaning (shown layout bits) (core y) [])) is

-- the first wire alone
pub conjunction_none : (old : List Gate) (first : Wire) (others : List Wire) → IsWireOf old first
    → IsConjunctionSoFar old first others 0 old first
conjunction_none old first others known = record {
  extends = extends_self old;
  known = known;
  value = λ bits. sym (and_true (wire_value old first bits));
}
  where
    and_true : (b : Bool) → (b && true) ≡ b
    and_true true = refl
    and_true false = refl

-- with one more
pub conjunction_more : (old : List Gate) (first : Wire) (others : List Wire) (n : ℕ) (new : List Gate) (wire : Wire) (d : Wire)
    (last : List Gate) (found : Wire)
    → IsConjunctionSoFar old first others n new wire → n < length others → AreWiresOf old others → Extends new last 1 → IsWireOf last found
    → ((bits : List Bool) → wire_value last found bits ≡ (wire_value new wire bits && wire_value new (get_or others n d) bits))
    → IsConjunctionSoFar old first others (n + 1) last found
conjunction_more old first others n new wire d last found so_far inside all grown known value = record {
  extends = extends_trans old new last n 1 so_far.extends grown;
  known = known;
  value = told;
}
  where
    swap : (a b c : Bool) → ((a && b) && c) ≡ (a && (b && c))
    swap true b c = refl
    swap false b c = refl

    told : (bits : List Bool) → wire_value last found bits ≡ all_hold old first (take (n + 1) others) bits
    told bits =
        let test : Wire → Bool = λ (w : Wire). wire_value old w bits in
        let stays : wire_value new (get_or others n d) bits ≡ test (get_or others n d) =
        so_far.extends.keeps (get_or others n d) (all n d inside) bits in
        let list_is : (xs : List Wire) → list_all (λ b. b) (wire_values old xs bits) ≡ list_all test xs =
        λ xs. list_all-map (λ b. b) test xs in
        value bits ∙ ap (λ b. b && wire_value new (get_or others n d) bits) (so_far.value bits)
        ∙ ap (λ b. all_hold old first (take n others) bits && b) stays
        ∙ swap (test first) (list_all (λ b. b) (wire_values old (take n others) bits)) (test (get_or others n d))
        ∙ ap (λ b. test first && (b && test (get_or others n d))) (list_is (take n others))
        ∙ ap (λ b. test first && b) (sym (list_all_more test others n d inside))
        ∙ ap (λ b. test first && b) (sym (list_is (take (n + 1) others)))
