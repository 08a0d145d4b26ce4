-- Where nothing is refused, each expression has a kind and each operand fits.
use Rattle.std.proofs.Common.{◌≡◌, ℕ, zero, suc, ◌<◌, Bool, true, false, not, ◌&&◌, ◌||◌, List, [], ◌∷◌, ◌++◌, length, Option, Some, None, refl, sym, arith}
use Rattle.std.specs.Prelude.{is_some, slice_get, nat_lt, reverse, if◌then◌else◌}
use Rattle.std.specs.Option.{option_or, option_map, option_and_then}
use Rattle.std.specs.List.{list_all}
use Rattle.std.proofs.lemmas.Grind.{common_steps}
use Rattle.std.proofs.lemmas.Bool.{true≢false}
use Rattle.std.proofs.lemmas.List.{length-reverse}
use Rattle.clf_base.specs.declared.fault.Span.{Span}
use Rattle.clf_base.specs.declared.fault.Refusal.{Refusal}
use Rattle.clf_tree.specs.declared.model.Clafer.{Clafer}
use Rattle.clf_tree.specs.declared.model.Rule.{Rule}
use Rattle.clf_tree.specs.declared.model.Goal.{Goal}
use Rattle.clf_tree.specs.declared.model.Model.{Model}
use Rattle.clf_tree.specs.declared.kind.Within.{Within}
use Rattle.clf_tree.specs.declared.kind.Kind.{Kind}
use Rattle.clf_tree.specs.declared.kind.Kind.TheVariants as kinds
use Rattle.clf_tree.specs.declared.kind.Reading.{Reading}
use Rattle.clf_tree.specs.declared.kind.Reading.TheVariants.{ByValues, ByNodes}
use Rattle.clf_tree.specs.Tree as e
use Rattle.clf_tree.specs.Tree.{Tree, tree}
use Rattle.clf_tree.specs.Lists.{from_end, each_two}
use Rattle.clf_tree.specs.Hierarchy.{refer_to_int, refers_to_int, share, is_below, targets_of}
use Rattle.clf_tree.specs.Kinds.{kind, clafers_of, bind_kinds, union_kind, left_kind, compared_kind, branch_kind, node_reading, shared}
use Rattle.clf_tree.specs.Named.{IsNamed, is_looked_up, rule_is_looked_up, goal_is_looked_up, is_quantifier, are_names, differ, is_nodes}
use Rattle.clf_tree.specs.Numerics.{place}
use Rattle.clf_tree.specs.Typed.{fits_truth, fits_nodes, fits_number, fits_sum, fit_together, fit_choice, fit_reading, fit_sides, is_typed, rule_is_typed, goal_is_typed, IsTyped}
use Rattle.refusal_order.specs.Order.{refused, with_refusal, is_before}
use Rattle.type_checker.specs.declared.position.Position.{Position}
use Rattle.type_checker.specs.declared.position.Position.TheVariants as at
use Rattle.type_checker.specs.Refusals.{first_of, where_none, branch_position, side_position, misfit, at_position, compared, refusal, rule_refusal, goal_refusal, rules_refusal, goals_refusal, model_refusal}

left : (a b : Bool) → (a && b) ≡ true → a ≡ true
left true b h = refl
left false b h = h

right : (a b : Bool) → (a && b) ≡ true → b ≡ true
right true b h = h
right false b h = absurd (true≢false (sym h))

both : (a b : Bool) → a ≡ true → b ≡ true → (a && b) ≡ true
both true b p q = q
both false b p q = absurd (true≢false (sym p))

none_found : (a : Option Refusal) (r : Refusal) → with_refusal a r ≡ None → ⊥
none_found None r h = (cc)
none_found (Some f) r h = by (is_before r f) h
  where
    by : (b : Bool) → (if b then Some r else Some f) ≡ None → ⊥
    by true k = (cc)
    by false k = (cc)

first_none : (a b : Option Refusal) → first_of a b ≡ None → (a ≡ None) × (b ≡ None)
first_none a None h = (h, refl)
first_none a (Some r) h = absurd (none_found a r h)

or_none : (a b : Option Refusal) → option_or a b ≡ None → (a ≡ None) × (b ≡ None)
or_none None b h = (refl, h)
or_none (Some r) b h = let no : ⊥ = (cc) in absurd no

has_kind : (k : Option Kind) (code : ℕ) (at : Span) → where_none k code at ≡ None → is_some k ≡ true
has_kind (Some k) code at h = refl
has_kind None code at h = let no : ⊥ = (cc) in absurd no

chosen : {X : Type 0} (b : Bool) (x : X) → (if b then None else Some x) ≡ None → b ≡ true
chosen true x h = refl
chosen false x h = let no : ⊥ = (cc) in absurd no

kept : {X : Type 0} (b : Bool) (x : X) → is_some (if b then Some x else None) ≡ true → b ≡ true
kept true x h = refl
kept false x h = absurd (true≢false (sym h))

-- an item that is counted from the end, and is not past the list
some_item : {X : Type 0} (xs : List X) (i : ℕ) → i < length xs → is_some (slice_get xs i) ≡ true
some_item [] i h = let no : ⊥ = omega (arith, h) in absurd no
some_item (x ∷ xs) zero h = refl
some_item (x ∷ xs) (suc i) h = some_item xs i (omega (arith, h))

mapped : {X Y : Type 0} (f : X → Y) (o : Option X) → is_some o ≡ true → is_some (option_map f o) ≡ true
mapped f (Some x) h = refl
mapped f None h = h

below : (m n : ℕ) → nat_lt m n ≡ true → m < n
below m n h = grind (arith, common_steps, h)

module _ (clafers : List Clafer) where
  in_truth : (k : Option Kind) (p : Span) → is_some k ≡ true → misfit clafers at.Truth k p ≡ None → fits_truth k ≡ true
  in_truth (Some kinds.Truth) p s h = refl
  in_truth (Some (kinds.Nodes ks)) p s h = refl
  in_truth (Some kinds.Integer) p s h = let no : ⊥ = (cc) in absurd no
  in_truth (Some (kinds.Numbers ks)) p s h = let no : ⊥ = (cc) in absurd no
  in_truth None p s h = absurd (true≢false (sym s))

  in_number : (k : Option Kind) (p : Span) → is_some k ≡ true → misfit clafers at.Number k p ≡ None → fits_number clafers k ≡ true
  in_number (Some kinds.Truth) p s h = let no : ⊥ = (cc) in absurd no
  in_number (Some (kinds.Nodes ks)) p s h = chosen (refer_to_int clafers ks) (refused 73 p 0) h
  in_number (Some kinds.Integer) p s h = refl
  in_number (Some (kinds.Numbers ks)) p s h = refl
  in_number None p s h = absurd (true≢false (sym s))

  in_nodes : (k : Option Kind) (p : Span) → is_some k ≡ true → misfit clafers at.Nodes k p ≡ None → fits_nodes k ≡ true
  in_nodes (Some (kinds.Nodes ks)) p s h = refl
  in_nodes (Some kinds.Truth) p s h = let no : ⊥ = (cc) in absurd no
  in_nodes (Some kinds.Integer) p s h = let no : ⊥ = (cc) in absurd no
  in_nodes (Some (kinds.Numbers ks)) p s h = let no : ⊥ = (cc) in absurd no
  in_nodes None p s h = absurd (true≢false (sym s))

  in_sum : (k : Option Kind) (p : Span) → is_some k ≡ true → misfit clafers at.Sum k p ≡ None → fits_sum clafers k ≡ true
  in_sum (Some (kinds.Nodes ks)) p s h = chosen (refer_to_int clafers ks) (refused 73 p 0) h
  in_sum (Some kinds.Truth) p s h = let no : ⊥ = (cc) in absurd no
  in_sum (Some kinds.Integer) p s h = let no : ⊥ = (cc) in absurd no
  in_sum (Some (kinds.Numbers ks)) p s h = let no : ⊥ = (cc) in absurd no
  in_sum None p s h = absurd (true≢false (sym s))

  united : (a b : Option Kind) → fits_nodes a ≡ true → fits_nodes b ≡ true → is_some (union_kind a b) ≡ true
  united (Some (kinds.Nodes ks)) (Some (kinds.Nodes ls)) p q = refl
  united (Some (kinds.Nodes ks)) (Some kinds.Truth) p q = absurd (true≢false (sym q))
  united (Some (kinds.Nodes ks)) (Some kinds.Integer) p q = absurd (true≢false (sym q))
  united (Some (kinds.Nodes ks)) (Some (kinds.Numbers ls)) p q = absurd (true≢false (sym q))
  united (Some (kinds.Nodes ks)) None p q = absurd (true≢false (sym q))
  united (Some kinds.Truth) b p q = absurd (true≢false (sym p))
  united (Some kinds.Integer) b p q = absurd (true≢false (sym p))
  united (Some (kinds.Numbers ks)) b p q = absurd (true≢false (sym p))
  united None b p q = absurd (true≢false (sym p))

  together : (a b : Option Kind) → is_some (left_kind clafers a b) ≡ true → fit_together clafers a b ≡ true
  together (Some (kinds.Nodes ks)) (Some (kinds.Nodes ls)) h = kept (share clafers ks ls) (kinds.Nodes ks) h
  together (Some (kinds.Nodes ks)) (Some kinds.Truth) h = absurd (true≢false (sym h))
  together (Some (kinds.Nodes ks)) (Some kinds.Integer) h = absurd (true≢false (sym h))
  together (Some (kinds.Nodes ks)) (Some (kinds.Numbers ls)) h = absurd (true≢false (sym h))
  together (Some (kinds.Nodes ks)) None h = absurd (true≢false (sym h))
  together (Some kinds.Truth) b h = absurd (true≢false (sym h))
  together (Some kinds.Integer) b h = absurd (true≢false (sym h))
  together (Some (kinds.Numbers ks)) b h = absurd (true≢false (sym h))
  together None b h = absurd (true≢false (sym h))

  abbrev chosen_kind : Option Kind → Option Kind → Option Kind
  chosen_kind a b = option_and_then (λ k. option_map (branch_kind k) b) a

  truths : (a b : Option Kind) (p q : Span) → is_some a ≡ true → is_some b ≡ true → misfit clafers at.Truth a p ≡ None → misfit clafers at.Truth b q ≡ None → (fits_truth a && fits_truth b) ≡ true
  truths a b p q s t g h = both (fits_truth a) (fits_truth b) (in_truth a p s g) (in_truth b q t h)

  numbers : (a b : Option Kind) (p q : Span) → is_some a ≡ true → is_some b ≡ true → misfit clafers at.Number a p ≡ None → misfit clafers at.Number b q ≡ None → (fits_number clafers a && fits_number clafers b) ≡ true
  numbers a b p q s t g h = both (fits_number clafers a) (fits_number clafers b) (in_number a p s g) (in_number b q t h)

  choice : (a b : Option Kind) (p q : Span) → is_some a ≡ true → is_some b ≡ true → misfit clafers (branch_position a b) a p ≡ None → misfit clafers (branch_position a b) b q ≡ None
      → (fit_choice clafers (chosen_kind a b) a b ≡ true) × (is_some (chosen_kind a b) ≡ true)
  choice None b p q s t g h = absurd (true≢false (sym s))
  choice (Some a) None p q s t g h = absurd (true≢false (sym t))
  choice (Some kinds.Truth) (Some b) p q s t g h = (truths (Some kinds.Truth) (Some b) p q s t g h, refl)
  choice (Some kinds.Integer) (Some kinds.Truth) p q s t g h = (truths (Some kinds.Integer) (Some kinds.Truth) p q s t g h, refl)
  choice (Some (kinds.Nodes ks)) (Some kinds.Truth) p q s t g h = (truths (Some (kinds.Nodes ks)) (Some kinds.Truth) p q s t g h, refl)
  choice (Some (kinds.Numbers ks)) (Some kinds.Truth) p q s t g h = (truths (Some (kinds.Numbers ks)) (Some kinds.Truth) p q s t g h, refl)
  choice (Some kinds.Integer) (Some kinds.Integer) p q s t g h = (numbers (Some kinds.Integer) (Some kinds.Integer) p q s t g h, refl)
  choice (Some kinds.Integer) (Some (kinds.Nodes ls)) p q s t g h = (numbers (Some kinds.Integer) (Some (kinds.Nodes ls)) p q s t g h, refl)
  choice (Some kinds.Integer) (Some (kinds.Numbers ls)) p q s t g h = (numbers (Some kinds.Integer) (Some (kinds.Numbers ls)) p q s t g h, refl)
  choice (Some (kinds.Numbers ks)) (Some kinds.Integer) p q s t g h = (numbers (Some (kinds.Numbers ks)) (Some kinds.Integer) p q s t g h, refl)
  choice (Some (kinds.Numbers ks)) (Some (kinds.Nodes ls)) p q s t g h = (numbers (Some (kinds.Numbers ks)) (Some (kinds.Nodes ls)) p q s t g h, refl)
  choice (Some (kinds.Numbers ks)) (Some (kinds.Numbers ls)) p q s t g h = (numbers (Some (kinds.Numbers ks)) (Some (kinds.Numbers ls)) p q s t g h, refl)
  choice (Some (kinds.Nodes ks)) (Some kinds.Integer) p q s t g h = (numbers (Some (kinds.Nodes ks)) (Some kinds.Integer) p q s t g h, refl)
  choice (Some (kinds.Nodes ks)) (Some (kinds.Numbers ls)) p q s t g h = (numbers (Some (kinds.Nodes ks)) (Some (kinds.Numbers ls)) p q s t g h, refl)
  choice (Some (kinds.Nodes ks)) (Some (kinds.Nodes ls)) p q s t g h = (refl, refl)

  all_first : (ks ls : List ℕ) → refer_to_int clafers (ks ++ ls) ≡ true → refer_to_int clafers ks ≡ true
  all_first [] ls h = refl
  all_first (k ∷ ks) ls h = both (refers_to_int clafers k) _ (left (refers_to_int clafers k) _ h) (all_first ks ls (right (refers_to_int clafers k) _ h))

  all_last : (ks ls : List ℕ) → refer_to_int clafers (ks ++ ls) ≡ true → refer_to_int clafers ls ≡ true
  all_last [] ls h = h
  all_last (k ∷ ks) ls h = all_last ks ls (right (refers_to_int clafers k) _ h)

  by_nodes : (p q r s : Bool) (a b : Option Kind)
      → is_some (option_map (λ (x : Reading). kinds.Truth) (if p then Some (ByNodes false false) else if q then Some (ByNodes true false) else if r then Some (ByNodes false true) else if s then Some (ByNodes true true) else None)) ≡ true
      → fit_reading clafers (if p then Some (ByNodes false false) else if q then Some (ByNodes true false) else if r then Some (ByNodes false true) else if s then Some (ByNodes true true) else None) a b ≡ true
  by_nodes true q r s a b h = refl
  by_nodes false true r s a b h = refl
  by_nodes false false true s a b h = refl
  by_nodes false false false true a b h = refl
  by_nodes false false false false a b h = absurd (true≢false (sym h))

  two_sets : (ks ls : List ℕ) (b : Bool) → refer_to_int clafers (ks ++ ls) ≡ b
      → is_some (option_map (λ (x : Reading). kinds.Truth) (if b then Some ByValues else node_reading clafers ks ls)) ≡ true
      → fit_reading clafers (if b then Some ByValues else node_reading clafers ks ls) (Some (kinds.Nodes ks)) (Some (kinds.Nodes ls)) ≡ true
  two_sets ks ls true e h = both (refer_to_int clafers ks) (refer_to_int clafers ls) (all_first ks ls e) (all_last ks ls e)
  two_sets ks ls false e h =
      by_nodes (share clafers ks ls) (shared clafers (targets_of clafers ks) (Some ls)) (shared clafers (Some ks) (targets_of clafers ls)) (shared clafers (targets_of clafers ks) (targets_of clafers ls))
      (Some (kinds.Nodes ks)) (Some (kinds.Nodes ls)) h

  sides : (a b : Option Kind) (p q : Span) → is_some a ≡ true → is_some b ≡ true → misfit clafers (side_position a b) a p ≡ None → misfit clafers (side_position b a) b q ≡ None
      → is_some (compared_kind clafers a b) ≡ true → fit_sides clafers a b ≡ true
  sides None b p q s t g h k = absurd (true≢false (sym s))
  sides (Some a) None p q s t g h k = absurd (true≢false (sym t))
  sides (Some kinds.Truth) (Some b) p q s t g h k = let no : ⊥ = (cc) in absurd no
  sides (Some kinds.Integer) (Some kinds.Truth) p q s t g h k = let no : ⊥ = (cc) in absurd no
  sides (Some (kinds.Nodes ks)) (Some kinds.Truth) p q s t g h k = let no : ⊥ = (cc) in absurd no
  sides (Some (kinds.Numbers ks)) (Some kinds.Truth) p q s t g h k = let no : ⊥ = (cc) in absurd no
  sides (Some kinds.Integer) (Some kinds.Integer) p q s t g h k = refl
  sides (Some kinds.Integer) (Some (kinds.Nodes ls)) p q s t g h k = numbers (Some kinds.Integer) (Some (kinds.Nodes ls)) p q s t g h
  sides (Some kinds.Integer) (Some (kinds.Numbers ls)) p q s t g h k = refl
  sides (Some (kinds.Numbers ks)) (Some kinds.Integer) p q s t g h k = refl
  sides (Some (kinds.Numbers ks)) (Some (kinds.Nodes ls)) p q s t g h k = numbers (Some (kinds.Numbers ks)) (Some (kinds.Nodes ls)) p q s t g h
  sides (Some (kinds.Numbers ks)) (Some (kinds.Numbers ls)) p q s t g h k = refl
  sides (Some (kinds.Nodes ks)) (Some kinds.Integer) p q s t g h k = numbers (Some (kinds.Nodes ks)) (Some kinds.Integer) p q s t g h
  sides (Some (kinds.Nodes ks)) (Some (kinds.Numbers ls)) p q s t g h k = numbers (Some (kinds.Nodes ks)) (Some (kinds.Numbers ls)) p q s t g h
  sides (Some (kinds.Nodes ks)) (Some (kinds.Nodes ls)) p q s t g h k = two_sets ks ls (refer_to_int clafers (ks ++ ls)) refl k

  compared_none : (p : Span) (a : Option Kind) (a_at : Span) (in_a : Option Refusal) (b : Option Kind) (b_at : Span) (in_b : Option Refusal) → compared clafers p a a_at in_a b b_at in_b ≡ None
      → (first_of (option_or in_a (misfit clafers (side_position a b) a a_at)) (option_or in_b (misfit clafers (side_position b a) b b_at)) ≡ None) × (where_none (compared_kind clafers a b) 74 p ≡ None)
  unfolding compared
  compared_none p a a_at in_a b b_at in_b r =
      or_none (first_of (option_or in_a (misfit clafers (side_position a b) a a_at)) (option_or in_b (misfit clafers (side_position b a) b b_at))) (where_none (compared_kind clafers a b) 74 p) r

  -- ---- expressions

  abbrev Good : Tree → Within → Type 0
  Good t w = (is_typed clafers t w ≡ true) × (is_some (kind clafers t w) ≡ true)

  abbrev Goes : Tree → Within → Type 0
  Goes t w = is_looked_up clafers t w ≡ true → refusal clafers t w ≡ None → Good t w

  abbrev Fits : Position → Tree → Within → Type 0
  Fits p t w = Good t w × (misfit clafers p (kind clafers t w) (place t) ≡ None)

  one : (p : Position) (a : Tree) (w : Within) → Goes a w → is_looked_up clafers a w ≡ true → at_position clafers p a w (refusal clafers a w) ≡ None → Fits p a w
  one p a w goes l r = let o = or_none (refusal clafers a w) (misfit clafers p (kind clafers a w) (place a)) r in (goes l o.0, o.1)

  two : (p q : Position) (a b : Tree) (w : Within) → Goes a w → Goes b w → (is_looked_up clafers a w && is_looked_up clafers b w) ≡ true
      → first_of (at_position clafers p a w (refusal clafers a w)) (at_position clafers q b w (refusal clafers b w)) ≡ None → Fits p a w × Fits q b w
  two p q a b w goes_a goes_b l r =
      let f = first_none (at_position clafers p a w (refusal clafers a w)) (at_position clafers q b w (refusal clafers b w)) r in
      (one p a w goes_a (left (is_looked_up clafers a w) (is_looked_up clafers b w) l) f.0, one q b w goes_b (right (is_looked_up clafers a w) (is_looked_up clafers b w) l) f.1)

  two_truths : (a b : Tree) (w : Within) → Fits at.Truth a w × Fits at.Truth b w
      → (is_typed clafers a w && is_typed clafers b w && fits_truth (kind clafers a w) && fits_truth (kind clafers b w)) ≡ true
  two_truths a b w f =
      both (is_typed clafers a w && is_typed clafers b w && fits_truth (kind clafers a w)) (fits_truth (kind clafers b w))
      (both (is_typed clafers a w && is_typed clafers b w) (fits_truth (kind clafers a w)) (both (is_typed clafers a w) (is_typed clafers b w) f.0.0.0 f.1.0.0) (in_truth (kind clafers a w) (place a) f.0.0.1 f.0.1))
      (in_truth (kind clafers b w) (place b) f.1.0.1 f.1.1)

  two_numbers : (a b : Tree) (w : Within) → Fits at.Number a w × Fits at.Number b w
      → ((is_typed clafers a w && fits_number clafers (kind clafers a w)) && (is_typed clafers b w && fits_number clafers (kind clafers b w))) ≡ true
  two_numbers a b w f =
      both (is_typed clafers a w && fits_number clafers (kind clafers a w)) (is_typed clafers b w && fits_number clafers (kind clafers b w))
      (both (is_typed clafers a w) (fits_number clafers (kind clafers a w)) f.0.0.0 (in_number (kind clafers a w) (place a) f.0.0.1 f.0.1))
      (both (is_typed clafers b w) (fits_number clafers (kind clafers b w)) f.1.0.0 (in_number (kind clafers b w) (place b) f.1.0.1 f.1.1))

  nodes_of_part : (a : Tree) (w : Within) → Fits at.Nodes a w → fits_nodes (kind clafers a w) ≡ true
  nodes_of_part a w f = in_nodes (kind clafers a w) (place a) f.0.1 f.1

  one_nodes : (a : Tree) (w : Within) → Fits at.Nodes a w → (is_typed clafers a w && fits_nodes (kind clafers a w)) ≡ true
  one_nodes a w f = both (is_typed clafers a w) (fits_nodes (kind clafers a w)) f.0.0 (nodes_of_part a w f)

  set_kind : (k : Option Kind) (o : Bool) → fits_nodes k ≡ true → (not (is_nodes clafers k) || o) ≡ true → o ≡ true
  set_kind (Some (kinds.Nodes ks)) o f h = h
  set_kind (Some kinds.Truth) o f h = absurd (true≢false (sym f))
  set_kind (Some kinds.Integer) o f h = absurd (true≢false (sym f))
  set_kind (Some (kinds.Numbers ks)) o f h = absurd (true≢false (sym f))
  set_kind None o f h = absurd (true≢false (sym f))

  variable : (i : ℕ) (bound : List (List ℕ)) → nat_lt i (length bound) ≡ true → is_some (option_map (λ ks. kinds.Nodes ks) (from_end bound i)) ≡ true
  variable i bound h = mapped (λ ks. kinds.Nodes ks) (from_end bound i) (some_item (reverse bound) i (omega (arith, below i (length bound) h, length-reverse bound)))

  fits : (t : Tree) (w : Within) → Goes t w
  fits (e.Literal _ n) w l r = (refl, refl)
  fits (e.This p) w l r = let k = mapped (λ c. kinds.Nodes (c ∷ [])) w.this l in (k, k)
  fits (e.Variable p i) w l r = let k = variable i w.bound l in (k, k)
  fits (e.Clafer _ c) w l r = (refl, refl)
  fits (e.Name _ _) w l r = absurd (true≢false (sym l))
  fits (e.Join _ _ _) w l r = absurd (true≢false (sym l))
  fits (e.Step _ of into follow) w l r =
      let there = left (is_looked_up clafers of w) (list_all (λ c. nat_lt c (length clafers)) into) (left (is_looked_up clafers of w && list_all (λ c. nat_lt c (length clafers)) into) _ l) in
      (one_nodes of w (one at.Nodes of w (fits of w) there r), refl)
  fits (e.Parent p a) w l r =
      let f = one at.Nodes a w (fits a w) (left (is_looked_up clafers a w) (not (is_nodes clafers (kind clafers a w)) || is_some (kind clafers (e.Parent p a) w)) l) r in
      let k = set_kind (kind clafers a w) (is_some (kind clafers (e.Parent p a) w)) (nodes_of_part a w f) (right (is_looked_up clafers a w) (not (is_nodes clafers (kind clafers a w)) || is_some (kind clafers (e.Parent p a) w)) l) in
      (both (is_typed clafers a w && fits_nodes (kind clafers a w)) (is_some (kind clafers (e.Parent p a) w)) (one_nodes a w f) k, k)
  fits (e.Dref p a) w l r =
      let o = or_none (at_position clafers at.Nodes a w (refusal clafers a w)) (where_none (kind clafers (e.Dref p a) w) 75 (place a)) r in
      let k = has_kind (kind clafers (e.Dref p a) w) 75 (place a) o.1 in
      (both (is_typed clafers a w && fits_nodes (kind clafers a w)) (is_some (kind clafers (e.Dref p a) w)) (one_nodes a w (one at.Nodes a w (fits a w) l o.0)) k, k)
  fits (e.Union _ a b) w l r =
      let f = two at.Nodes at.Nodes a b w (fits a w) (fits b w) l r in
      let m = nodes_of_part a w f.0 in
      let n = nodes_of_part b w f.1 in (
        both (is_typed clafers a w && is_typed clafers b w && fits_nodes (kind clafers a w)) (fits_nodes (kind clafers b w))
            (both (is_typed clafers a w && is_typed clafers b w) (fits_nodes (kind clafers a w)) (both (is_typed clafers a w) (is_typed clafers b w) f.0.0.0 f.1.0.0) m) n,
        united (kind clafers a w) (kind clafers b w) m n,
      )
  fits (e.Minus p a b) w l r =
      let o = or_none (first_of (at_position clafers at.Nodes a w (refusal clafers a w)) (at_position clafers at.Nodes b w (refusal clafers b w))) (where_none (kind clafers (e.Minus p a b) w) 74 p) r in
      let f = two at.Nodes at.Nodes a b w (fits a w) (fits b w) l o.0 in
      let k = has_kind (kind clafers (e.Minus p a b) w) 74 p o.1 in
      (both (is_typed clafers a w && is_typed clafers b w) (fit_together clafers (kind clafers a w) (kind clafers b w)) (both (is_typed clafers a w) (is_typed clafers b w) f.0.0.0 f.1.0.0) (together (kind clafers a w) (kind clafers b w) k), k)
  fits (e.Meet p a b) w l r =
      let o = or_none (first_of (at_position clafers at.Nodes a w (refusal clafers a w)) (at_position clafers at.Nodes b w (refusal clafers b w))) (where_none (kind clafers (e.Meet p a b) w) 74 p) r in
      let f = two at.Nodes at.Nodes a b w (fits a w) (fits b w) l o.0 in
      let k = has_kind (kind clafers (e.Meet p a b) w) 74 p o.1 in
      (both (is_typed clafers a w && is_typed clafers b w) (fit_together clafers (kind clafers a w) (kind clafers b w)) (both (is_typed clafers a w) (is_typed clafers b w) f.0.0.0 f.1.0.0) (together (kind clafers a w) (kind clafers b w) k), k)
  fits (e.If p c a b) w l r =
      let position = branch_position (kind clafers a w) (kind clafers b w) in
      let outer = first_none (first_of (at_position clafers at.Truth c w (refusal clafers c w)) (at_position clafers position a w (refusal clafers a w))) (at_position clafers position b w (refusal clafers b w)) r in
      let inner = first_none (at_position clafers at.Truth c w (refusal clafers c w)) (at_position clafers position a w (refusal clafers a w)) outer.0 in
      let l_ca = left (is_looked_up clafers c w && is_looked_up clafers a w) (is_looked_up clafers b w) l in
      let test = one at.Truth c w (fits c w) (left (is_looked_up clafers c w) (is_looked_up clafers a w) l_ca) inner.0 in
      let f = one position a w (fits a w) (right (is_looked_up clafers c w) (is_looked_up clafers a w) l_ca) inner.1 in
      let g = one position b w (fits b w) (right (is_looked_up clafers c w && is_looked_up clafers a w) (is_looked_up clafers b w) l) outer.1 in
      let k = choice (kind clafers a w) (kind clafers b w) (place a) (place b) f.0.1 g.0.1 f.1 g.1 in (
        both (is_typed clafers c w && fits_truth (kind clafers c w) && is_typed clafers a w && is_typed clafers b w) (fit_choice clafers (kind clafers (e.If p c a b) w) (kind clafers a w) (kind clafers b w))
            (both (is_typed clafers c w && fits_truth (kind clafers c w) && is_typed clafers a w) (is_typed clafers b w)
            (both (is_typed clafers c w && fits_truth (kind clafers c w)) (is_typed clafers a w)
            (both (is_typed clafers c w) (fits_truth (kind clafers c w)) test.0.0 (in_truth (kind clafers c w) (place c) test.0.1 test.1)) f.0.0) g.0.0) k.0,
        k.1,
      )
  fits (e.Not _ a) w l r = let f = one at.Truth a w (fits a w) l r in (both (is_typed clafers a w) (fits_truth (kind clafers a w)) f.0.0 (in_truth (kind clafers a w) (place a) f.0.1 f.1), refl)
  fits (e.And _ a b) w l r = (two_truths a b w (two at.Truth at.Truth a b w (fits a w) (fits b w) l r), refl)
  fits (e.Or _ a b) w l r = (two_truths a b w (two at.Truth at.Truth a b w (fits a w) (fits b w) l r), refl)
  fits (e.Xor _ a b) w l r = (two_truths a b w (two at.Truth at.Truth a b w (fits a w) (fits b w) l r), refl)
  fits (e.Implies _ a b) w l r = (two_truths a b w (two at.Truth at.Truth a b w (fits a w) (fits b w) l r), refl)
  fits (e.Iff _ a b) w l r = (two_truths a b w (two at.Truth at.Truth a b w (fits a w) (fits b w) l r), refl)
  fits (e.Card _ a) w l r = (one_nodes a w (one at.Nodes a w (fits a w) l r), refl)
  fits (e.Sum _ a) w l r = let f = one at.Sum a w (fits a w) l r in (both (is_typed clafers a w) (fits_sum clafers (kind clafers a w)) f.0.0 (in_sum (kind clafers a w) (place a) f.0.1 f.1), refl)
  fits (e.Neg _ a) w l r = let f = one at.Number a w (fits a w) l r in (both (is_typed clafers a w) (fits_number clafers (kind clafers a w)) f.0.0 (in_number (kind clafers a w) (place a) f.0.1 f.1), refl)
  fits (e.Add _ a b) w l r = (two_numbers a b w (two at.Number at.Number a b w (fits a w) (fits b w) l r), refl)
  fits (e.Sub _ a b) w l r = (two_numbers a b w (two at.Number at.Number a b w (fits a w) (fits b w) l r), refl)
  fits (e.Mul _ a b) w l r = (two_numbers a b w (two at.Number at.Number a b w (fits a w) (fits b w) l r), refl)
  fits (e.Less _ a b) w l r = (two_numbers a b w (two at.Number at.Number a b w (fits a w) (fits b w) l r), refl)
  fits (e.LessEqual _ a b) w l r = (two_numbers a b w (two at.Number at.Number a b w (fits a w) (fits b w) l r), refl)
  fits (e.Greater _ a b) w l r = (two_numbers a b w (two at.Number at.Number a b w (fits a w) (fits b w) l r), refl)
  fits (e.GreaterEqual _ a b) w l r = (two_numbers a b w (two at.Number at.Number a b w (fits a w) (fits b w) l r), refl)
  fits (e.Equal p a b) w l r =
      let ka = kind clafers a w in
      let kb = kind clafers b w in
      let o = compared_none p ka (place a) (refusal clafers a w) kb (place b) (refusal clafers b w) r in
      let f = two (side_position ka kb) (side_position kb ka) a b w (fits a w) (fits b w) l o.0 in
      let k = has_kind (kind clafers (e.Equal p a b) w) 74 p o.1 in
      (both (is_typed clafers a w && is_typed clafers b w) (fit_sides clafers ka kb) (both (is_typed clafers a w) (is_typed clafers b w) f.0.0.0 f.1.0.0) (sides ka kb (place a) (place b) f.0.0.1 f.1.0.1 f.0.1 f.1.1 k), k)
  fits (e.In p a b) w l r =
      let ka = kind clafers a w in
      let kb = kind clafers b w in
      let o = compared_none p ka (place a) (refusal clafers a w) kb (place b) (refusal clafers b w) r in
      let f = two (side_position ka kb) (side_position kb ka) a b w (fits a w) (fits b w) l o.0 in
      let k = has_kind (kind clafers (e.In p a b) w) 74 p o.1 in
      (both (is_typed clafers a w && is_typed clafers b w) (fit_sides clafers ka kb) (both (is_typed clafers a w) (is_typed clafers b w) f.0.0.0 f.1.0.0) (sides ka kb (place a) (place b) f.0.0.1 f.1.0.1 f.0.1 f.1.1 k), k)
  fits (e.Some _ a) w l r = (one_nodes a w (one at.Nodes a w (fits a w) l r), refl)
  fits (e.No _ a) w l r = (one_nodes a w (one at.Nodes a w (fits a w) l r), refl)
  fits (e.One _ a) w l r = (one_nodes a w (one at.Nodes a w (fits a w) l r), refl)
  fits (e.Lone _ a) w l r = (one_nodes a w (one at.Nodes a w (fits a w) l r), refl)
  fits (e.Quant _ word disj names over body) w l r =
      let inner = bind_kinds (clafers_of (kind clafers over w)) (length names) w in
      let own = is_quantifier clafers word && are_names names && each_two differ names in
      let l_over = left (own && is_looked_up clafers over w) (is_looked_up clafers body inner) l in
      let n = first_none (at_position clafers at.Nodes over w (refusal clafers over w)) (at_position clafers at.Truth body inner (refusal clafers body inner)) r in
      let f = one at.Nodes over w (fits over w) (right own (is_looked_up clafers over w) l_over) n.0 in
      let g = one at.Truth body inner (fits body inner) (right (own && is_looked_up clafers over w) (is_looked_up clafers body inner) l) n.1 in (
        both (is_typed clafers over w && fits_nodes (kind clafers over w) && is_typed clafers body inner) (fits_truth (kind clafers body inner))
            (both (is_typed clafers over w && fits_nodes (kind clafers over w)) (is_typed clafers body inner) (one_nodes over w f) g.0.0) (in_truth (kind clafers body inner) (place body) g.0.1 g.1),
        refl,
      )

  -- ---- models

  rule : (r : Rule) → rule_is_looked_up clafers r ≡ true → rule_refusal clafers r ≡ None → rule_is_typed clafers r ≡ true
  rule r l h =
      let w : Within = record { this = r.context; bound = [] } in
      let f = one at.Truth (tree r.body) w (fits (tree r.body) w) (right (is_below (length clafers) r.context) (is_looked_up clafers (tree r.body) w) l) h in
      both (is_typed clafers (tree r.body) w) (fits_truth (kind clafers (tree r.body) w)) f.0.0 (in_truth (kind clafers (tree r.body) w) (place (tree r.body)) f.0.1 f.1)

  goal : (g : Goal) → goal_is_looked_up clafers g ≡ true → goal_refusal clafers g ≡ None → goal_is_typed clafers g ≡ true
  goal g l h =
      let w : Within = record { this = None; bound = [] } in
      let f = one at.Number (tree g.body) w (fits (tree g.body) w) l h in
      both (is_typed clafers (tree g.body) w) (fits_number clafers (kind clafers (tree g.body) w)) f.0.0 (in_number (kind clafers (tree g.body) w) (place (tree g.body)) f.0.1 f.1)

  rules : (first : Option Refusal) (rs : List Rule) → list_all (rule_is_looked_up clafers) rs ≡ true → rules_refusal clafers first rs ≡ None → (first ≡ None) × (list_all (rule_is_typed clafers) rs ≡ true)
  rules first [] l h = (h, refl)
  rules first (r ∷ rs) l h =
      let more = rules (first_of first (rule_refusal clafers r)) rs (right (rule_is_looked_up clafers r) (list_all (rule_is_looked_up clafers) rs) l) h in
      let n = first_none first (rule_refusal clafers r) more.0 in
      (n.0, both (rule_is_typed clafers r) (list_all (rule_is_typed clafers) rs) (rule r (left (rule_is_looked_up clafers r) (list_all (rule_is_looked_up clafers) rs) l) n.1) more.1)

  goals : (first : Option Refusal) (gs : List Goal) → list_all (goal_is_looked_up clafers) gs ≡ true → goals_refusal clafers first gs ≡ None → (first ≡ None) × (list_all (goal_is_typed clafers) gs ≡ true)
  goals first [] l h = (h, refl)
  goals first (g ∷ gs) l h =
      let more = goals (first_of first (goal_refusal clafers g)) gs (right (goal_is_looked_up clafers g) (list_all (goal_is_looked_up clafers) gs) l) h in
      let n = first_none first (goal_refusal clafers g) more.0 in
      (n.0, both (goal_is_typed clafers g) (list_all (goal_is_typed clafers) gs) (goal g (left (goal_is_looked_up clafers g) (list_all (goal_is_looked_up clafers) gs) l) n.1) more.1)

-- a model of which nothing is refused is typed
pub typed : (m : Model) → IsNamed m → model_refusal m ≡ None → IsTyped m
typed m named h =
    let gs = goals m.clafers (rules_refusal m.clafers None m.rules) m.goals named.goals h in
    record { rules = (rules m.clafers None m.rules named.rules gs.0).1; goals = gs.1 }
