-- Where each operand fits, nothing is refused.
use Rattle.std.proofs.Common.{◌≡◌, ◌↔◌, ℕ, Bool, true, false, cond, ◌&&◌, List, [], ◌∷◌, length, Option, Some, None, refl, ap, sym, ◌∙◌}
use Rattle.std.specs.Prelude.{is_some}
use Rattle.std.specs.Option.{option_or, option_map, option_and_then}
use Rattle.std.specs.List.{list_all}
use Rattle.std.proofs.lemmas.Bool.{true≢false}
use Rattle.clf_base.specs.declared.fault.Refusal.{Refusal}
use Rattle.clf_base.specs.declared.fault.Span.{Span}
use Rattle.clf_tree.specs.declared.kind.Kind.{Kind}
use Rattle.clf_tree.specs.declared.kind.Kind.TheVariants as kinds
use Rattle.clf_tree.specs.declared.kind.Reading.{Reading}
use Rattle.clf_tree.specs.declared.kind.Within.{Within}
use Rattle.clf_tree.specs.declared.model.Clafer.{Clafer}
use Rattle.clf_tree.specs.declared.model.Goal.{Goal}
use Rattle.clf_tree.specs.declared.model.Model.{Model}
use Rattle.clf_tree.specs.declared.model.Rule.{Rule}
use Rattle.clf_tree.specs.Kinds.{kind, clafers_of, bind_kinds, left_kind, compared_kind, branch_kind, reading}
use Rattle.clf_tree.specs.Named.{IsNamed}
use Rattle.clf_tree.specs.Numerics.{place}
use Rattle.clf_tree.specs.Tree as e
use Rattle.clf_tree.specs.Tree.{Tree, tree}
use Rattle.clf_tree.specs.Typed.{fits_truth, fits_nodes, fits_number, fits_sum, fit_together, fit_choice, fit_reading, fit_sides, is_typed, rule_is_typed, goal_is_typed, IsTyped}
use Rattle.refusal_order.specs.Order.{refused}
use Rattle.type_checker.proofs.Fitting.{typed}
use Rattle.type_checker.specs.declared.position.Position.{Position}
use Rattle.type_checker.specs.declared.position.Position.TheVariants as at
use Rattle.type_checker.specs.Refusals.{first_of, where_none, branch_position, side_position, misfit, at_position, compared, refusal, rule_refusal, goal_refusal, rules_refusal, goals_refusal, model_refusal}

left : (a b : Bool) → (a && b) ≡ true → a ≡ true
left true b h = refl
left false b h = h

right : (a b : Bool) → (a && b) ≡ true → b ≡ true
right true b h = h
right false b h = absurd (true≢false (sym h))

or_none : (a b : Option Refusal) → a ≡ None → b ≡ None → option_or a b ≡ None
or_none a b p q = ap (λ o. option_or o b) p ∙ q

first_none : (a b : Option Refusal) → a ≡ None → b ≡ None → first_of a b ≡ None
first_none a b p q = ap (λ o. first_of a o) q ∙ p

with_kind : (k : Option Kind) (code : ℕ) (at : Span) → is_some k ≡ true → where_none k code at ≡ None
with_kind (Some k) code at h = refl
with_kind None code at h = absurd (true≢false (sym h))

module _ (clafers : List Clafer) where
  in_truth : (k : Option Kind) (p : Span) → fits_truth k ≡ true → misfit clafers at.Truth k p ≡ None
  in_truth (Some kinds.Truth) p h = refl
  in_truth (Some kinds.Integer) p h = absurd (true≢false (sym h))
  in_truth (Some (kinds.Numbers ks)) p h = absurd (true≢false (sym h))
  in_truth (Some (kinds.Nodes ks)) p h = refl
  in_truth None p h = absurd (true≢false (sym h))

  in_number : (k : Option Kind) (p : Span) → fits_number clafers k ≡ true → misfit clafers at.Number k p ≡ None
  in_number (Some kinds.Truth) p h = absurd (true≢false (sym h))
  in_number (Some kinds.Integer) p h = refl
  in_number (Some (kinds.Numbers ks)) p h = refl
  in_number (Some (kinds.Nodes ks)) p h = ap (λ b. cond b None (Some (refused 73 p 0))) h
  in_number None p h = absurd (true≢false (sym h))

  in_nodes : (k : Option Kind) (p : Span) → fits_nodes k ≡ true → misfit clafers at.Nodes k p ≡ None
  in_nodes (Some kinds.Truth) p h = absurd (true≢false (sym h))
  in_nodes (Some kinds.Integer) p h = absurd (true≢false (sym h))
  in_nodes (Some (kinds.Numbers ks)) p h = absurd (true≢false (sym h))
  in_nodes (Some (kinds.Nodes ks)) p h = refl
  in_nodes None p h = absurd (true≢false (sym h))

  in_sum : (k : Option Kind) (p : Span) → fits_sum clafers k ≡ true → misfit clafers at.Sum k p ≡ None
  in_sum (Some kinds.Truth) p h = absurd (true≢false (sym h))
  in_sum (Some kinds.Integer) p h = absurd (true≢false (sym h))
  in_sum (Some (kinds.Numbers ks)) p h = absurd (true≢false (sym h))
  in_sum (Some (kinds.Nodes ks)) p h = ap (λ b. cond b None (Some (refused 73 p 0))) h
  in_sum None p h = absurd (true≢false (sym h))

  together : (a b : Option Kind) → fit_together clafers a b ≡ true → ((fits_nodes a ≡ true) × (fits_nodes b ≡ true)) ×
      (is_some (left_kind clafers a b) ≡ true)
  together (Some (kinds.Nodes ks)) (Some (kinds.Nodes ls)) h = ((refl, refl), ap (λ b. is_some (cond b (Some (kinds.Nodes ks)) None)) h)
  together (Some (kinds.Nodes ks)) (Some kinds.Truth) h = absurd (true≢false (sym h))
  together (Some (kinds.Nodes ks)) (Some kinds.Integer) h = absurd (true≢false (sym h))
  together (Some (kinds.Nodes ks)) (Some (kinds.Numbers ls)) h = absurd (true≢false (sym h))
  together (Some (kinds.Nodes ks)) None h = absurd (true≢false (sym h))
  together (Some kinds.Truth) b h = absurd (true≢false (sym h))
  together (Some kinds.Integer) b h = absurd (true≢false (sym h))
  together (Some (kinds.Numbers ks)) b h = absurd (true≢false (sym h))
  together None b h = absurd (true≢false (sym h))

  abbrev chosen_kind : Option Kind → Option Kind → Option Kind
  chosen_kind a b = option_and_then (λ k. option_map (branch_kind k) b) a

  two_truths : (a b : Option Kind) (p q : Span) → (fits_truth a && fits_truth b) ≡ true → (misfit clafers at.Truth a p ≡ None) ×
      (misfit clafers at.Truth b q ≡ None)
  two_truths a b p q h = (in_truth a p (left (fits_truth a) (fits_truth b) h), in_truth b q (right (fits_truth a) (fits_truth b) h))

  two_numbers : (a b : Option Kind) (p q : Span) → (fits_number clafers a && fits_number clafers b) ≡ true →
      (misfit clafers at.Number a p ≡ None) × (misfit clafers at.Number b q ≡ None)
  two_numbers a b p q h = (
    in_number a p (left (fits_number clafers a) (fits_number clafers b) h),
    in_number b q
        (right (fits_number clafers a) (fits_number clafers b) h),
  )

  choice : (a b : Option Kind) (p q : Span) → fit_choice clafers (chosen_kind a b) a b ≡ true →
      (misfit clafers (branch_position a b) a p ≡ None) × (misfit clafers (branch_position a b) b q ≡ None)
  choice None b p q h = absurd (true≢false (sym h))
  choice (Some a) None p q h = absurd (true≢false (sym h))
  choice (Some kinds.Truth) (Some b) p q h = two_truths (Some kinds.Truth) (Some b) p q h
  choice (Some kinds.Integer) (Some kinds.Truth) p q h = two_truths (Some kinds.Integer) (Some kinds.Truth) p q h
  choice (Some kinds.Integer) (Some kinds.Integer) p q h = two_numbers (Some kinds.Integer) (Some kinds.Integer) p q h
  choice (Some kinds.Integer) (Some (kinds.Numbers ls)) p q h = two_numbers (Some kinds.Integer) (Some (kinds.Numbers ls)) p q h
  choice (Some kinds.Integer) (Some (kinds.Nodes ls)) p q h = two_numbers (Some kinds.Integer) (Some (kinds.Nodes ls)) p q h
  choice (Some (kinds.Numbers ks)) (Some kinds.Truth) p q h = two_truths (Some (kinds.Numbers ks)) (Some kinds.Truth) p q h
  choice (Some (kinds.Numbers ks)) (Some kinds.Integer) p q h = two_numbers (Some (kinds.Numbers ks)) (Some kinds.Integer) p q h
  choice (Some (kinds.Numbers ks)) (Some (kinds.Numbers ls)) p q h = two_numbers (Some (kinds.Numbers ks)) (Some (kinds.Numbers ls)) p q h
  choice (Some (kinds.Numbers ks)) (Some (kinds.Nodes ls)) p q h = two_numbers (Some (kinds.Numbers ks)) (Some (kinds.Nodes ls)) p q h
  choice (Some (kinds.Nodes ks)) (Some kinds.Truth) p q h = two_truths (Some (kinds.Nodes ks)) (Some kinds.Truth) p q h
  choice (Some (kinds.Nodes ks)) (Some kinds.Integer) p q h = two_numbers (Some (kinds.Nodes ks)) (Some kinds.Integer) p q h
  choice (Some (kinds.Nodes ks)) (Some (kinds.Numbers ls)) p q h = two_numbers (Some (kinds.Nodes ks)) (Some (kinds.Numbers ls)) p q h
  choice (Some (kinds.Nodes ks)) (Some (kinds.Nodes ls)) p q h = (refl, refl)

  is_read : (r : Option Reading) (a b : Option Kind) → fit_reading clafers r a b ≡ true → is_some
      (option_map (λ (x : Reading). kinds.Truth) r) ≡ true
  is_read (Some r) a b h = refl
  is_read None a b h = absurd (true≢false (sym h))

  sides : (a b : Option Kind) (p q : Span) → fit_sides clafers a b ≡ true
      → ((misfit clafers (side_position a b) a p ≡ None) × (misfit clafers (side_position b a) b q ≡ None)) ×
      (is_some (compared_kind clafers a b) ≡ true)
  sides None b p q h = absurd (true≢false (sym h))
  sides (Some a) None p q h = absurd (true≢false (sym h))
  sides (Some kinds.Truth) (Some b) p q h = absurd (true≢false (sym h))
  sides (Some kinds.Integer) (Some kinds.Truth) p q h = absurd (true≢false (sym h))
  sides (Some kinds.Integer) (Some kinds.Integer) p q h = (two_numbers (Some kinds.Integer) (Some kinds.Integer) p q h, refl)
  sides (Some kinds.Integer) (Some (kinds.Numbers ls)) p q h = (two_numbers (Some kinds.Integer) (Some (kinds.Numbers ls)) p q h, refl)
  sides (Some kinds.Integer) (Some (kinds.Nodes ls)) p q h = (two_numbers (Some kinds.Integer) (Some (kinds.Nodes ls)) p q h, refl)
  sides (Some (kinds.Numbers ks)) (Some kinds.Truth) p q h = absurd (true≢false (sym h))
  sides (Some (kinds.Numbers ks)) (Some kinds.Integer) p q h = (two_numbers (Some (kinds.Numbers ks)) (Some kinds.Integer) p q h, refl)
  sides (Some (kinds.Numbers ks)) (Some (kinds.Numbers ls)) p q h =
      (two_numbers (Some (kinds.Numbers ks)) (Some (kinds.Numbers ls)) p q h, refl)
  sides (Some (kinds.Numbers ks)) (Some (kinds.Nodes ls)) p q h =
      (two_numbers (Some (kinds.Numbers ks)) (Some (kinds.Nodes ls)) p q h, refl)
  sides (Some (kinds.Nodes ks)) (Some kinds.Truth) p q h = absurd (true≢false (sym h))
  sides (Some (kinds.Nodes ks)) (Some kinds.Integer) p q h = (two_numbers (Some (kinds.Nodes ks)) (Some kinds.Integer) p q h, refl)
  sides (Some (kinds.Nodes ks)) (Some (kinds.Numbers ls)) p q h =
      (two_numbers (Some (kinds.Nodes ks)) (Some (kinds.Numbers ls)) p q h, refl)
  sides (Some (kinds.Nodes ks)) (Some (kinds.Nodes ls)) p q h =
      ((refl, refl), is_read (reading clafers (kinds.Nodes ks) (kinds.Nodes ls)) (Some (kinds.Nodes ks)) (Some (kinds.Nodes ls)) h)

  compared_none : (p : Span) (a : Option Kind) (a_at : Span) (in_a : Option Refusal) (b : Option Kind) (b_at : Span)
      (in_b : Option Refusal) → in_a ≡ None → in_b ≡ None → fit_sides clafers a b ≡ true
      → compared clafers p a a_at in_a b b_at in_b ≡ None
  unfolding compared
  compared_none p a a_at in_a b b_at in_b x y h =
      let s = sides a b a_at b_at h in
      or_none (first_of (option_or in_a (misfit clafers (side_position a b) a a_at))
      (option_or in_b (misfit clafers (side_position b a) b b_at))) (where_none (compared_kind clafers a b) 74 p)
      (first_none (option_or in_a (misfit clafers (side_position a b) a a_at)) (option_or in_b (misfit clafers (side_position b a) b b_at))
      (or_none in_a (misfit clafers (side_position a b) a a_at) x s.0.0) (or_none in_b (misfit clafers (side_position b a) b b_at) y s.0.1))
      (with_kind (compared_kind clafers a b) 74 p s.1)

  one : (position : Position) (a : Tree) (w : Within) → refusal clafers a w ≡ None → misfit clafers position (kind clafers a w)
      (place a) ≡ None → at_position clafers position a w (refusal clafers a w) ≡ None
  one position a w x y = or_none (refusal clafers a w) (misfit clafers position (kind clafers a w) (place a)) x y

  two : (left_position right_position : Position) (a b : Tree) (w : Within) → refusal clafers a w ≡ None → refusal clafers b w ≡ None
      → (misfit clafers left_position (kind clafers a w) (place a) ≡ None) ×
      (misfit clafers right_position (kind clafers b w) (place b) ≡ None)
      → first_of (at_position clafers left_position a w (refusal clafers a w))
      (at_position clafers right_position b w (refusal clafers b w)) ≡ None
  two left_position right_position a b w x y m =
      first_none (at_position clafers left_position a w (refusal clafers a w))
      (at_position clafers right_position b w (refusal clafers b w)) (one left_position a w x m.0) (one right_position b w y m.1)

  abbrev Goes : Tree → Within → Type 0
  Goes t w = is_typed clafers t w ≡ true → refusal clafers t w ≡ None

  one_nodes : (a : Tree) (w : Within) → Goes a w → (is_typed clafers a w && fits_nodes (kind clafers a w)) ≡ true
      → at_position clafers at.Nodes a w (refusal clafers a w) ≡ None
  one_nodes a w go h =
      one at.Nodes a w (go (left (is_typed clafers a w) (fits_nodes (kind clafers a w)) h))
      (in_nodes (kind clafers a w) (place a) (right (is_typed clafers a w) (fits_nodes (kind clafers a w)) h))

  one_truth : (a : Tree) (w : Within) → Goes a w → (is_typed clafers a w && fits_truth (kind clafers a w)) ≡ true
      → at_position clafers at.Truth a w (refusal clafers a w) ≡ None
  one_truth a w go h =
      one at.Truth a w (go (left (is_typed clafers a w) (fits_truth (kind clafers a w)) h))
      (in_truth (kind clafers a w) (place a) (right (is_typed clafers a w) (fits_truth (kind clafers a w)) h))

  one_number : (a : Tree) (w : Within) → Goes a w → (is_typed clafers a w && fits_number clafers (kind clafers a w)) ≡ true
      → at_position clafers at.Number a w (refusal clafers a w) ≡ None
  one_number a w go h =
      one at.Number a w (go (left (is_typed clafers a w) (fits_number clafers (kind clafers a w)) h))
      (in_number (kind clafers a w) (place a) (right (is_typed clafers a w) (fits_number clafers (kind clafers a w)) h))

  both_truths : (a b : Tree) (w : Within) → Goes a w → Goes b w →
      (is_typed clafers a w && is_typed clafers b w && fits_truth (kind clafers a w) && fits_truth (kind clafers b w)) ≡ true
      → first_of (at_position clafers at.Truth a w (refusal clafers a w)) (at_position clafers at.Truth b w (refusal clafers b w)) ≡ None
  both_truths a b w go_a go_b h =
      let typed_a = is_typed clafers a w in
      let typed_b = is_typed clafers b w in
      let truth_a = fits_truth (kind clafers a w) in
      let truth_b = fits_truth (kind clafers b w) in
      let three = left (typed_a && typed_b && truth_a) truth_b h in
      let typed_both = left (typed_a && typed_b) truth_a three in
      two at.Truth at.Truth a b w (go_a (left typed_a typed_b typed_both)) (go_b (right typed_a typed_b typed_both)) (
        in_truth (kind clafers a w) (place a) (right (typed_a && typed_b) truth_a three),
        in_truth (kind clafers b w) (place b)
            (right (typed_a && typed_b && truth_a) truth_b h),
      )

  both_numbers : (a b : Tree) (w : Within) → Goes a w → Goes b w
      → ((is_typed clafers a w && fits_number clafers (kind clafers a w)) &&
      (is_typed clafers b w && fits_number clafers (kind clafers b w))) ≡ true
      → first_of (at_position clafers at.Number a w (refusal clafers a w)) (at_position clafers at.Number b w (refusal clafers b w)) ≡ None
  both_numbers a b w go_a go_b h =
      let fit_a = is_typed clafers a w && fits_number clafers (kind clafers a w) in
      let fit_b = is_typed clafers b w && fits_number clafers (kind clafers b w) in
      first_none (at_position clafers at.Number a w (refusal clafers a w)) (at_position clafers at.Number b w (refusal clafers b w))
      (one_number a w go_a (left fit_a fit_b h)) (one_number b w go_b (right fit_a fit_b h))

  -- the operands of `--` and `**`, with what is said of the kind of both
  cut_sets : (p : Span) (a b : Tree) (w : Within) → Goes a w → Goes b w →
      (is_typed clafers a w && is_typed clafers b w && fit_together clafers (kind clafers a w) (kind clafers b w)) ≡ true
      → option_or (first_of (at_position clafers at.Nodes a w (refusal clafers a w))
      (at_position clafers at.Nodes b w (refusal clafers b w)))
      (where_none (left_kind clafers (kind clafers a w) (kind clafers b w)) 74 p) ≡ None
  cut_sets p a b w go_a go_b h =
      let typed_both = left (is_typed clafers a w && is_typed clafers b w) (fit_together clafers (kind clafers a w) (kind clafers b w)) h in
      let fit = together (kind clafers a w) (kind clafers b w)
      (right (is_typed clafers a w && is_typed clafers b w) (fit_together clafers (kind clafers a w) (kind clafers b w)) h) in
      or_none (first_of (at_position clafers at.Nodes a w (refusal clafers a w))
      (at_position clafers at.Nodes b w (refusal clafers b w)))
      (where_none (left_kind clafers (kind clafers a w) (kind clafers b w)) 74 p)
      (two at.Nodes at.Nodes a b w (go_a (left (is_typed clafers a w) (is_typed clafers b w) typed_both))
      (go_b (right (is_typed clafers a w) (is_typed clafers b w) typed_both))
      (in_nodes (kind clafers a w) (place a) fit.0.0, in_nodes (kind clafers b w) (place b) fit.0.1))
      (with_kind (left_kind clafers (kind clafers a w) (kind clafers b w)) 74 p fit.1)

  -- the sides of `=` and `in`
  both_sides : (p : Span) (a b : Tree) (w : Within) → Goes a w → Goes b w →
      (is_typed clafers a w && is_typed clafers b w && fit_sides clafers (kind clafers a w) (kind clafers b w)) ≡ true
      → compared clafers p (kind clafers a w) (place a) (refusal clafers a w) (kind clafers b w) (place b) (refusal clafers b w) ≡ None
  both_sides p a b w go_a go_b h =
      let typed_both = left (is_typed clafers a w && is_typed clafers b w) (fit_sides clafers (kind clafers a w) (kind clafers b w)) h in
      compared_none p (kind clafers a w) (place a) (refusal clafers a w) (kind clafers b w) (place b) (refusal clafers b w)
      (go_a (left (is_typed clafers a w) (is_typed clafers b w) typed_both))
      (go_b (right (is_typed clafers a w) (is_typed clafers b w) typed_both))
      (right (is_typed clafers a w && is_typed clafers b w) (fit_sides clafers (kind clafers a w) (kind clafers b w)) h)

  unrefused : (t : Tree) (w : Within) → is_typed clafers t w ≡ true → refusal clafers t w ≡ None
  unrefused (e.Literal _ n) w h = refl
  unrefused (e.This _) w h = refl
  unrefused (e.Variable _ i) w h = refl
  unrefused (e.Clafer _ c) w h = refl
  unrefused (e.Name _ _) w h = refl
  unrefused (e.Join _ _ _) w h = refl
  unrefused (e.Step _ of into follow) w h = one_nodes of w (unrefused of w) h
  unrefused (e.Parent p a) w h =
      one_nodes a w (unrefused a w)
      (left (is_typed clafers a w && fits_nodes (kind clafers a w)) (is_some (kind clafers (e.Parent p a) w)) h)
  unrefused (e.Dref p a) w h =
      or_none (at_position clafers at.Nodes a w (refusal clafers a w)) (where_none (kind clafers (e.Dref p a) w) 75 (place a))
      (one_nodes a w (unrefused a w)
      (left (is_typed clafers a w && fits_nodes (kind clafers a w)) (is_some (kind clafers (e.Dref p a) w)) h))
      (with_kind (kind clafers (e.Dref p a) w) 75 (place a)
      (right (is_typed clafers a w && fits_nodes (kind clafers a w)) (is_some (kind clafers (e.Dref p a) w)) h))
  unrefused (e.Union _ a b) w h =
      let typed_a = is_typed clafers a w in
      let typed_b = is_typed clafers b w in
      let nodes_a = fits_nodes (kind clafers a w) in
      let nodes_b = fits_nodes (kind clafers b w) in
      let three = left (typed_a && typed_b && nodes_a) nodes_b h in
      let typed_both = left (typed_a && typed_b) nodes_a three in
      two at.Nodes at.Nodes a b w (unrefused a w (left typed_a typed_b typed_both)) (unrefused b w (right typed_a typed_b typed_both)) (
        in_nodes (kind clafers a w) (place a) (right (typed_a && typed_b) nodes_a three),
        in_nodes (kind clafers b w) (place b)
            (right (typed_a && typed_b && nodes_a) nodes_b h),
      )
  unrefused (e.Minus p a b) w h = cut_sets p a b w (unrefused a w) (unrefused b w) h
  unrefused (e.Meet p a b) w h = cut_sets p a b w (unrefused a w) (unrefused b w) h
  unrefused (e.If p c a b) w h =
      let typed_c = is_typed clafers c w in
      let truth_c = fits_truth (kind clafers c w) in
      let typed_a = is_typed clafers a w in
      let typed_b = is_typed clafers b w in
      let chosen = fit_choice clafers (kind clafers (e.If p c a b) w) (kind clafers a w) (kind clafers b w) in
      let position = branch_position (kind clafers a w) (kind clafers b w) in
      let four = left (typed_c && truth_c && typed_a && typed_b) chosen h in
      let three = left (typed_c && truth_c && typed_a) typed_b four in
      let fit = choice (kind clafers a w) (kind clafers b w) (place a) (place b)
      (right (typed_c && truth_c && typed_a && typed_b) chosen h) in
      first_none (first_of (at_position clafers at.Truth c w (refusal clafers c w))
      (at_position clafers position a w (refusal clafers a w))) (at_position clafers position b w (refusal clafers b w))
      (first_none (at_position clafers at.Truth c w (refusal clafers c w)) (at_position clafers position a w (refusal clafers a w))
      (one_truth c w (unrefused c w) (left (typed_c && truth_c) typed_a three))
      (one position a w (unrefused a w (right (typed_c && truth_c) typed_a three)) fit.0))
      (one position b w (unrefused b w (right (typed_c && truth_c && typed_a) typed_b four)) fit.1)
  unrefused (e.Not _ a) w h = one_truth a w (unrefused a w) h
  unrefused (e.And _ a b) w h = both_truths a b w (unrefused a w) (unrefused b w) h
  unrefused (e.Or _ a b) w h = both_truths a b w (unrefused a w) (unrefused b w) h
  unrefused (e.Xor _ a b) w h = both_truths a b w (unrefused a w) (unrefused b w) h
  unrefused (e.Implies _ a b) w h = both_truths a b w (unrefused a w) (unrefused b w) h
  unrefused (e.Iff _ a b) w h = both_truths a b w (unrefused a w) (unrefused b w) h
  unrefused (e.Card _ a) w h = one_nodes a w (unrefused a w) h
  unrefused (e.Sum _ a) w h =
      one at.Sum a w (unrefused a w (left (is_typed clafers a w) (fits_sum clafers (kind clafers a w)) h))
      (in_sum (kind clafers a w) (place a) (right (is_typed clafers a w) (fits_sum clafers (kind clafers a w)) h))
  unrefused (e.Neg _ a) w h = one_number a w (unrefused a w) h
  unrefused (e.Add _ a b) w h = both_numbers a b w (unrefused a w) (unrefused b w) h
  unrefused (e.Sub _ a b) w h = both_numbers a b w (unrefused a w) (unrefused b w) h
  unrefused (e.Mul _ a b) w h = both_numbers a b w (unrefused a w) (unrefused b w) h
  unrefused (e.Less _ a b) w h = both_numbers a b w (unrefused a w) (unrefused b w) h
  unrefused (e.LessEqual _ a b) w h = both_numbers a b w (unrefused a w) (unrefused b w) h
  unrefused (e.Greater _ a b) w h = both_numbers a b w (unrefused a w) (unrefused b w) h
  unrefused (e.GreaterEqual _ a b) w h = both_numbers a b w (unrefused a w) (unrefused b w) h
  unrefused (e.Equal p a b) w h = both_sides p a b w (unrefused a w) (unrefused b w) h
  unrefused (e.In p a b) w h = both_sides p a b w (unrefused a w) (unrefused b w) h
  unrefused (e.Some _ a) w h = one_nodes a w (unrefused a w) h
  unrefused (e.No _ a) w h = one_nodes a w (unrefused a w) h
  unrefused (e.One _ a) w h = one_nodes a w (unrefused a w) h
  unrefused (e.Lone _ a) w h = one_nodes a w (unrefused a w) h
  unrefused (e.Quant _ word disj names over body) w h =
      let inner = bind_kinds (clafers_of (kind clafers over w)) (length names) w in
      let nodes_over = is_typed clafers over w && fits_nodes (kind clafers over w) in
      let typed_body = is_typed clafers body inner in
      let truth_body = fits_truth (kind clafers body inner) in
      let three = left (nodes_over && typed_body) truth_body h in
      first_none (at_position clafers at.Nodes over w (refusal clafers over w))
      (at_position clafers at.Truth body inner (refusal clafers body inner))
      (one_nodes over w (unrefused over w) (left nodes_over typed_body three))
      (one at.Truth body inner (unrefused body inner (right nodes_over typed_body three))
      (in_truth (kind clafers body inner) (place body) (right (nodes_over && typed_body) truth_body h)))

  rule : (r : Rule) → rule_is_typed clafers r ≡ true → rule_refusal clafers r ≡ None
  rule r h =
      let w : Within = record { this = r.context; bound = [] } in
      one_truth (tree r.body) w (unrefused (tree r.body) w) h

  goal : (g : Goal) → goal_is_typed clafers g ≡ true → goal_refusal clafers g ≡ None
  goal g h =
      let w : Within = record { this = None; bound = [] } in
      one_number (tree g.body) w (unrefused (tree g.body) w) h

  rules : (first : Option Refusal) (rs : List Rule) → first ≡ None → list_all (rule_is_typed clafers) rs ≡ true
      → rules_refusal clafers first rs ≡ None
  rules first [] p h = p
  rules first (r ∷ rs) p h =
      rules (first_of first (rule_refusal clafers r)) rs
      (first_none first (rule_refusal clafers r) p (rule r (left (rule_is_typed clafers r) (list_all (rule_is_typed clafers) rs) h)))
      (right (rule_is_typed clafers r) (list_all (rule_is_typed clafers) rs) h)

  goals : (first : Option Refusal) (gs : List Goal) → first ≡ None → list_all (goal_is_typed clafers) gs ≡ true
      → goals_refusal clafers first gs ≡ None
  goals first [] p h = p
  goals first (g ∷ gs) p h =
      goals (first_of first (goal_refusal clafers g)) gs
      (first_none first (goal_refusal clafers g) p (goal g (left (goal_is_typed clafers g) (list_all (goal_is_typed clafers) gs) h)))
      (right (goal_is_typed clafers g) (list_all (goal_is_typed clafers) gs) h)

pub typed_is_unrefused : (m : Model) → IsNamed m → IsTyped m ↔ (model_refusal m ≡ None)
typed_is_unrefused m named = (
  λ fit. goals m.clafers (rules_refusal m.clafers None m.rules) m.goals
      (rules m.clafers None m.rules refl fit.rules) fit.goals,
  λ none. typed m named none,
)
