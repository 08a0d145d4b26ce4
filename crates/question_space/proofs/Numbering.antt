-- The numbers of goals on wires, one after another.
use Rattle.std.proofs.Common.{◌≡◌, ℕ, ◌+◌, ◌≤◌, ◌<◌, Bool, true, ◌&&◌, List, [], ◌∷◌, ◌++◌, length, take, get_or, refl, sym, ap, subst, ◌∙◌, arith, leb-true}
use Rattle.std.specs.Prelude.{ℤ, nat_le}
use Rattle.std.proofs.lemmas.Bool.{false≢true}
use Rattle.std.proofs.lemmas.List.{map_more, map-append}
use Rattle.std.proofs.lemmas.List.Elements.{All-nil, All-cons, All-append}
use Rattle.std.proofs.lemmas.List.Sums.{sum_by_more, sum_by_more_le}
use Rattle.bool_circuit.specs.declared.gate.Gate.{Gate}
use Rattle.bool_circuit.specs.declared.gate.Wire.{Wire}
use Rattle.bool_circuit.specs.Circuit.{AreWiresOf, Extends}
use Rattle.bool_circuit.proofs.Extending.{extends_trans}
use Rattle.clf_tree.specs.declared.core_expr.CoreExpr.{CoreExpr}
use Rattle.clf_tree.specs.declared.model.Clafer.{Clafer}
use Rattle.clf_tree.specs.declared.scopes.Scopes.{Scopes}
use Rattle.clf_tree.specs.Core as c
use Rattle.clf_tree.specs.Core.{Core, core}
use Rattle.clf_tree.specs.CoreMeaning.{integer_in, meaning}
use Rattle.clf_tree.specs.CoreSoundness.{IsSoundGoal, sort}
use Rattle.clf_tree.specs.CoreWeights.{bits_of, core_weight}
use Rattle.integer_bits.specs.Numbers.{integer_at, IsNumber}
use Rattle.set_bits.specs.declared.layout.Layout.{Layout}
use Rattle.shown_instance.specs.Shown.{shown}
use Rattle.told_constraints.specs.Standing.{Stands, nodes_at}
use Rattle.question_space.specs.Amounts.{AreGoals, TellAmounts, amounts}
use Rattle.question_space.specs.Comparisons.{goal_values}
use Rattle.question_space.specs.Wiring.{AreSoundGoals, truths_cost}
use Rattle.question_space.proofs.Differing.{numbers_stay, values_stay}
use Rattle.question_space.proofs.Units.{right}

-- ---- a sound number has at most 64 bits

module _ (clafers : List Clafer) (scopes : Scopes) where
  narrow : (w : ℕ) → (nat_le 1 w && nat_le w 64) ≡ true → w ≤ 64
  narrow w h = leb-true w 64 (right (nat_le 1 w) (nat_le w 64) h)

  pub sound_is_narrow : (a : Core) → IsSoundGoal clafers scopes a → bits_of scopes (sort a) ≤ 64
  sound_is_narrow (c.Bound ks i) h = absurd (false≢true h.0)
  sound_is_narrow (c.Every ks) h = absurd (false≢true h.0)
  sound_is_narrow (c.Down ks a) h = absurd (false≢true h.0)
  sound_is_narrow (c.Up ks a) h = absurd (false≢true h.0)
  sound_is_narrow (c.Follow ks a) h = absurd (false≢true h.0)
  sound_is_narrow (c.Union ks a b) h = absurd (false≢true h.0)
  sound_is_narrow (c.Minus ks a b) h = absurd (false≢true h.0)
  sound_is_narrow (c.Meet ks a b) h = absurd (false≢true h.0)
  sound_is_narrow (c.ChooseNodes ks t a b) h = absurd (false≢true h.0)
  sound_is_narrow (c.Const w z) h = narrow w h.1.well_made
  sound_is_narrow (c.Count w a) h = narrow w h.1.2.well_made
  sound_is_narrow (c.Total w a) h = narrow w h.1.2.well_made
  sound_is_narrow (c.Neg w a) h = narrow w h.1.2.well_made
  sound_is_narrow (c.Add w a b) h = narrow w h.1.4.well_made
  sound_is_narrow (c.Mul w a b) h = narrow w h.1.4.well_made
  sound_is_narrow (c.ChooseNumber w t a b) h = narrow w h.1.6.well_made
  sound_is_narrow (c.Not a) h = absurd (false≢true h.0)
  sound_is_narrow (c.And a b) h = absurd (false≢true h.0)
  sound_is_narrow (c.Or a b) h = absurd (false≢true h.0)
  sound_is_narrow (c.Xor a b) h = absurd (false≢true h.0)
  sound_is_narrow (c.ChooseTruth t a b) h = absurd (false≢true h.0)
  sound_is_narrow (c.SameNodes a b) h = absurd (false≢true h.0)
  sound_is_narrow (c.WithinNodes a b) h = absurd (false≢true h.0)
  sound_is_narrow (c.SameValues a b) h = absurd (false≢true h.0)
  sound_is_narrow (c.WithinValues a b) h = absurd (false≢true h.0)
  sound_is_narrow (c.Less a b) h = absurd (false≢true h.0)
  sound_is_narrow (c.AtLeast k a) h = absurd (false≢true h.0)
  sound_is_narrow (c.AtMost k a) h = absurd (false≢true h.0)
  sound_is_narrow (c.Exactly k a) h = absurd (false≢true h.0)
  sound_is_narrow (c.Quant word disj names over body) h = absurd (false≢true h.0)

-- ---- the loop

-- no goal
pub goals_none : (clafers : List Clafer) (scopes : Scopes) (layout : Layout) (old : List Gate) (goals : List CoreExpr)
    (numbers : List (List Wire)) → numbers ≡ [] → AreGoals clafers scopes layout old goals 0 old numbers
goals_none clafers scopes layout old goals numbers e =
    let P : List (List Wire) → Type 0 = λ ns. AreGoals clafers scopes layout old goals 0 old ns in
    subst P (sym e) (record {
      extends = record { at_least = omega arith; at_most = omega arith; same_inputs = refl; keeps = λ w h bits. refl };
      known = All-nil (IsNumber 64 old);
      tell = λ bits s. refl;
    })

-- the room for the next one
pub goals_room : (clafers : List Clafer) (scopes : Scopes) (layout : Layout) (old : List Gate) (goals : List CoreExpr) (n : ℕ)
    (new : List Gate) (numbers : List (List Wire)) (d : CoreExpr)
    → AreGoals clafers scopes layout old goals n new numbers → n < length goals → length old + truths_cost scopes goals ≤ 268435456
    → length new + core_weight scopes (core (get_or goals n d)) ≤ 268435456
goals_room clafers scopes layout old goals n new numbers d so_far inside room =
    let more = sum_by_more_le (λ (x : CoreExpr). core_weight scopes (core x)) goals n d inside in
    omega (arith, more, room, so_far.extends.at_most)

-- with one more
goals_more : (clafers : List Clafer) (scopes : Scopes) (layout : Layout) (old : List Gate) (goals : List CoreExpr) (n : ℕ)
    (new : List Gate) (numbers : List (List Wire)) (d : CoreExpr) (last : List Gate) (number : List Wire)
    → AreGoals clafers scopes layout old goals n new numbers → n < length goals
    → Extends new last (core_weight scopes (core (get_or goals n d))) → IsNumber 64 last number
    → ((bits : List Bool) → Stands clafers scopes layout bits [] → integer_at last number bits ≡ integer_in
    (meaning (shown layout bits) (core (get_or goals n d)) []))
    → AreGoals clafers scopes layout old goals (n + 1) last (numbers ++ number ∷ [])
goals_more clafers scopes layout old goals n new numbers d last number so_far inside grown known value =
    let cost : ℕ = core_weight scopes (core (get_or goals n d)) in
    let more : truths_cost scopes (take (n + 1) goals) ≡ truths_cost scopes (take n goals) + cost =
    sum_by_more (λ (x : CoreExpr). core_weight scopes (core x)) goals n d inside in
    record {
      extends = subst (Extends old last) (sym more) (extends_trans old new last
          (truths_cost scopes (take n goals)) cost so_far.extends grown);
      known = All-append (IsNumber 64 last) numbers (number ∷ []) (numbers_stay new last cost numbers grown so_far.known)
          (All-cons (IsNumber 64 last) number [] known (All-nil (IsNumber 64 last)));
      tell = told;
    }
  where
    told : TellAmounts clafers scopes layout last (take (n + 1) goals) (numbers ++ number ∷ [])
    told bits s =
        let F : CoreExpr → ℤ = λ (x : CoreExpr). integer_in (meaning (shown layout bits) (core x) []) in
        let older : goal_values last numbers bits ≡ amounts (take n goals) (shown layout bits) =
        values_stay new last (core_weight scopes (core (get_or goals n d))) numbers bits grown so_far.known ∙ so_far.tell bits s in
        let here : integer_at last number bits ≡ F (get_or goals n d) = value bits (record { shaped = s; live = refl }) in
        map-append (λ (ws : List Wire). integer_at last ws bits) numbers (number ∷ [])
        ∙ ap (λ zs. zs ++ integer_at last number bits ∷ []) older
        ∙ ap (λ z. amounts (take n goals) (shown layout bits) ++ z ∷ []) here
        ∙ sym (map_more F goals n d inside)

-- the same, from what a step of the loop knows
pub goals_step : (clafers : List Clafer) (scopes : Scopes) (layout : Layout) (old : List Gate) (goals : List CoreExpr) (n : ℕ)
    (new : List Gate) (numbers : List (List Wire)) (bound : List ℕ) (x : CoreExpr) (last : List Gate) (number : List Wire)
    (after : List (List Wire))
    → AreGoals clafers scopes layout old goals n new numbers → bound ≡ [] → n < length goals → x ≡ get_or goals n x
    → AreSoundGoals clafers scopes goals
    → Extends new last (core_weight scopes (core x)) → AreWiresOf last number → 0 < length number
    → length number ≤ bits_of scopes (sort (core x))
    → ((bits : List Bool) → Stands clafers scopes layout bits bound → integer_at last number bits ≡ integer_in
    (meaning (shown layout bits) (core x) (nodes_at layout bound)))
    → after ≡ numbers ++ number ∷ [] → AreGoals clafers scopes layout old goals (n + 1) last after
goals_step clafers scopes layout old goals n new numbers bound x last number after so_far none inside is sound grown known some few value
    pushed =
    let E : CoreExpr → Type 0 = λ (y : CoreExpr). Extends new last (core_weight scopes (core y)) in
    let P : List (List Wire) → Type 0 = λ (ns : List (List Wire)). AreGoals clafers scopes layout old goals (n + 1) last ns in
    let own : IsSoundGoal clafers scopes (core x) = subst (λ (y : CoreExpr). IsSoundGoal clafers scopes (core y)) (sym is)
    (sound n x inside) in
    let is_number : IsNumber 64 last number = record {
      wires = known;
      some = some;
      few =
          omega (arith, few, sound_is_narrow clafers scopes (core x) own);
    } in
    subst P (sym pushed) (goals_more clafers scopes layout old goals n new numbers x last number so_far inside
    (subst E is grown) is_number told)
  where
    told : (bits : List Bool) → Stands clafers scopes layout bits [] → integer_at last number bits ≡ integer_in
        (meaning (shown layout bits) (core (get_or goals n x)) [])
    told bits s =
        value bits (subst (λ (b : List ℕ). Stands clafers scopes layout bits b) (sym none) s)
        ∙ ap (λ (b : List ℕ). integer_in (meaning (shown layout bits) (core x) (nodes_at layout b))) none
        ∙ ap (λ (y : CoreExpr). integer_in (meaning (shown layout bits) (core y) [])) is
