-- A relational expression is no heavier than its expression.
use Rattle.std.proofs.Common.{◌≡◌, ℕ, ◌+◌, ◌*◌, ◌^◌, ◌≤◌, Bool, true, false, not, cond, ◌&&◌, ◌||◌, List, [], ◌∷◌, ◌++◌, length, map, sum, Option, Some, None, refl, ap, sym, subst, ◌∙◌, arith}
use Rattle.std.specs.Prelude.{is_some, replicate, max, nat_lt}
use Rattle.std.specs.Option.{option_map, option_map_or}
use Rattle.std.specs.List.{list_all, list_any}
use Rattle.std.proofs.lemmas.Bool.{true≢false}
use Rattle.clf_tree.specs.declared.token.Word.{Word}
use Rattle.clf_tree.specs.declared.token.Word.TheVariants as word
use Rattle.clf_tree.specs.declared.model.Clafer.{Clafer}
use Rattle.clf_tree.specs.declared.scopes.Scopes.{Scopes}
use Rattle.clf_tree.specs.declared.bounds.Bounds.{Bounds}
use Rattle.clf_tree.specs.declared.kind.Within.{Within}
use Rattle.clf_tree.specs.declared.kind.Kind.{Kind}
use Rattle.clf_tree.specs.declared.kind.Kind.TheVariants as kinds
use Rattle.clf_tree.specs.declared.kind.Reading.{Reading}
use Rattle.clf_tree.specs.declared.kind.Reading.TheVariants.{ByValues, ByNodes}
use Rattle.clf_tree.specs.Tree as e
use Rattle.clf_tree.specs.Tree.{Tree}
use Rattle.clf_tree.specs.Lists.{each_two}
use Rattle.clf_tree.specs.Hierarchy.{is_closed, refer_to_int, share, target_of, targets_of}
use Rattle.clf_tree.specs.IntervalsHold.{IntervalsHold, refers_once}
use Rattle.clf_tree.specs.Nodes.{scope_of}
use Rattle.clf_tree.specs.Kinds.{kind, clafers_of, bind_kinds, parent_kind, parents_of, dref_kind, compared_kind, reading, reading_of, node_reading, shared}
use Rattle.clf_tree.specs.Named as named
use Rattle.clf_tree.specs.Named.{is_looked_up, is_quantifier, are_names, differ}
use Rattle.clf_tree.specs.Typed.{is_typed, fits_truth, fits_number, fits_nodes, fits_sum, fit_together, fit_choice, fit_reading, fit_sides}
use Rattle.clf_tree.specs.Widths.{width}
use Rattle.clf_tree.specs.Intervals.{interval, room, sum_between}
use Rattle.clf_tree.specs.Intervals as intervals
use Rattle.clf_tree.specs.Numerics.{is_integer}
use Rattle.clf_tree.specs.Core as c
use Rattle.clf_tree.specs.Core.{Core}
use Rattle.clf_tree.specs.CoreSoundness.{Sort, Nodes, Number, Truth, sort, clafers_in, is_number}
use Rattle.clf_tree.specs.CoreWeights.{core_weight, most_nodes, bits_of, range_width, count_weight, binary_digits}
use Rattle.int_widths.specs.Weight.{most, most_targets, most_values, most_through, follow_weight, tested, counted, dref_weight, choice_weight, compared_weight, bits, weight}
use Rattle.relational_core.specs.Lowered.{as_truth, as_number, negative, negated, added, multiplied, through, dref, same, part, choice, quant, kind_interval, lowered}
use Rattle.relational_core.specs.Lowered as lower
use Rattle.relational_core.proofs.Passing.{and_parts}
use Rattle.relational_core.proofs.Kept.{three, four}
use Rattle.relational_core.proofs.Made.{is_made, made, possible-made}
use Rattle.relational_core.proofs.InKinds.{Inherited, in_kind, in_kinds, found-in}
use Rattle.relational_core.proofs.CoreSorts.{sort_fits, sorted_core}
use Rattle.relational_core.proofs.Constants.{negated-sort, added-sort, multiplied-sort, negated-light, added-light, multiplied-light}
use Rattle.relational_core.proofs.WidthLaw.{sum_width, width_opposite}
use Rattle.relational_core.proofs.Sound.{Stands, within-stands, sum-nodes, together-nodes, kind_of_choice, is_by_nodes, by-nodes}
use Rattle.relational_core.proofs.Sizes.{same_most, binary_more, count_more, test_more, steps_more, values_more, less_more, all_more, one_more, power_more, list-room}

-- ---- sums of weights
leaf : (n : ℕ) → 1 ≤ n + 1
leaf n = omega arith

one-part : (p q a b : ℕ) → p ≤ q → a ≤ b → p + a ≤ q + b
one-part p q a b h k = omega (arith, h, k)

none-more : (a b : ℕ) → a ≤ b → a ≤ 0 + b
none-more a b h = omega (arith, h)

one-more : (a b : ℕ) → a ≤ b → a ≤ 1 + b
one-more a b h = omega (arith, h)

two-parts : (p q a b c d : ℕ) → p ≤ q → a ≤ c → b ≤ d → p + a + b ≤ q + c + d
two-parts p q a b c d h k i = omega (arith, h, k, i)

more-parts : (p q x y z : ℕ) → p ≤ q → x ≤ y + z → p + x ≤ q + y + z
more-parts p q x y z h k = omega (arith, h, k)

-- ---- kinds
abbrev holds_nodes : Option Kind → Bool
holds_nodes (Some (kinds.Nodes ks)) = true
holds_nodes (Some (kinds.Numbers ks)) = true
holds_nodes _ = false

nodes-hold : (k : Option Kind) → fits_nodes k ≡ true → holds_nodes k ≡ true
nodes-hold (Some (kinds.Nodes ks)) f = refl
nodes-hold None f = absurd (true≢false (sym f))
nodes-hold (Some kinds.Truth) f = absurd (true≢false (sym f))
nodes-hold (Some kinds.Integer) f = absurd (true≢false (sym f))
nodes-hold (Some (kinds.Numbers ks)) f = absurd (true≢false (sym f))

parents-fit : (ps : List ℕ) → is_some (parent_kind ps) ≡ true → fits_nodes (parent_kind ps) ≡ true
parents-fit [] h = absurd (true≢false (sym h))
parents-fit (p ∷ ps) h = refl

drefs-pick : (b : Bool) (ks : List ℕ) (o : Option (List ℕ)) → is_some (cond b (Some (kinds.Numbers ks)) (option_map (λ ts. kinds.Nodes ts) o)) ≡ true
    → holds_nodes (cond b (Some (kinds.Numbers ks)) (option_map (λ ts. kinds.Nodes ts) o)) ≡ true
drefs-pick true ks o h = refl
drefs-pick false ks (Some ts) h = refl
drefs-pick false ks None h = absurd (true≢false (sym h))

drefs-hold : (clafers : List Clafer) (k : Option Kind) → is_some (dref_kind clafers k) ≡ true → holds_nodes (dref_kind clafers k) ≡ true
drefs-hold clafers (Some (kinds.Nodes ks)) h = drefs-pick (refer_to_int clafers ks) ks (targets_of clafers ks) h
drefs-hold clafers None h = absurd (true≢false (sym h))
drefs-hold clafers (Some kinds.Truth) h = absurd (true≢false (sym h))
drefs-hold clafers (Some kinds.Integer) h = absurd (true≢false (sym h))
drefs-hold clafers (Some (kinds.Numbers ks)) h = absurd (true≢false (sym h))

-- no `dref` and no comparison is an integer
dref-pick_no_integer : (b : Bool) (ks : List ℕ) (o : Option (List ℕ)) → is_integer (cond b (Some (kinds.Numbers ks)) (option_map (λ ts. kinds.Nodes ts) o)) ≡ false
dref-pick_no_integer true ks o = refl
dref-pick_no_integer false ks None = refl
dref-pick_no_integer false ks (Some ts) = refl

dref-no_integer : (clafers : List Clafer) (k : Option Kind) → is_integer (dref_kind clafers k) ≡ false
dref-no_integer clafers (Some (kinds.Nodes ks)) = dref-pick_no_integer (refer_to_int clafers ks) ks (targets_of clafers ks)
dref-no_integer clafers None = refl
dref-no_integer clafers (Some kinds.Truth) = refl
dref-no_integer clafers (Some kinds.Integer) = refl
dref-no_integer clafers (Some (kinds.Numbers ks)) = refl

option-no_integer : (o : Option Reading) → is_integer (option_map (λ r. kinds.Truth) o) ≡ false
option-no_integer None = refl
option-no_integer (Some r) = refl

compared-no_integer : (clafers : List Clafer) (k l : Option Kind) → is_integer (compared_kind clafers k l) ≡ false
compared-no_integer clafers (Some (kinds.Nodes ks)) (Some (kinds.Nodes ls)) = option-no_integer (reading clafers (kinds.Nodes ks) (kinds.Nodes ls))
compared-no_integer clafers (Some (kinds.Nodes ks)) None = refl
compared-no_integer clafers (Some (kinds.Nodes ks)) (Some kinds.Truth) = refl
compared-no_integer clafers (Some (kinds.Nodes ks)) (Some kinds.Integer) = refl
compared-no_integer clafers (Some (kinds.Nodes ks)) (Some (kinds.Numbers ls)) = refl
compared-no_integer clafers None l = refl
compared-no_integer clafers (Some kinds.Truth) l = refl
compared-no_integer clafers (Some kinds.Integer) l = refl
compared-no_integer clafers (Some (kinds.Numbers ks)) l = refl

-- ---- where targets are taken there are some
followed-pick : (b : Bool) (ks : List ℕ) (o : Option (List ℕ)) (all : List Clafer) → named.is_nodes all (cond b (Some (kinds.Numbers ks)) (option_map (λ ts. kinds.Nodes ts) o)) ≡ true → is_some o ≡ true
followed-pick true ks o all h = absurd (true≢false (sym h))
followed-pick false ks (Some ts) all h = refl
followed-pick false ks None all h = absurd (true≢false (sym h))

followed-some : (clafers : List Clafer) (f : Bool) (k : Option Kind) → (not f || named.is_nodes clafers (dref_kind clafers k)) ≡ true → f ≡ true → is_some (targets_of clafers (clafers_of k)) ≡ true
followed-some clafers false k h e = absurd (true≢false (sym e))
followed-some clafers true (Some (kinds.Nodes ks)) h e = followed-pick (refer_to_int clafers ks) ks (targets_of clafers ks) clafers h
followed-some clafers true None h e = absurd (true≢false (sym h))
followed-some clafers true (Some kinds.Truth) h e = absurd (true≢false (sym h))
followed-some clafers true (Some kinds.Integer) h e = absurd (true≢false (sym h))
followed-some clafers true (Some (kinds.Numbers ks)) h e = absurd (true≢false (sym h))

-- of a reading, whether the targets that it takes are there
abbrev reads : Bool → Bool → Option Reading → Bool
reads x y (Some (ByNodes left right)) = (not left || x) && (not right || y)
reads x y _ = true

reads-both : (r : Option Reading) → reads true true r ≡ true
reads-both None = refl
reads-both (Some ByValues) = refl
reads-both (Some (ByNodes true true)) = refl
reads-both (Some (ByNodes true false)) = refl
reads-both (Some (ByNodes false true)) = refl
reads-both (Some (ByNodes false false)) = refl

reads-right : (b : Bool) → reads false true (cond b (Some (ByNodes false true)) None) ≡ true
reads-right true = refl
reads-right false = refl

reads-left : (b : Bool) → reads true false (cond b (Some (ByNodes true false)) None) ≡ true
reads-left true = refl
reads-left false = refl

reads-nodes : (clafers : List Clafer) (a : Bool) (ks ls : List ℕ) (o p : Option (List ℕ))
    → reads (is_some o) (is_some p)
    (cond a (Some (ByNodes false false)) (cond (shared clafers o (Some ls)) (Some (ByNodes true false)) (cond (shared clafers (Some ks) p) (Some (ByNodes false true)) (cond (shared clafers o p) (Some (ByNodes true true)) None)))) ≡ true
reads-nodes clafers true ks ls o p = refl
reads-nodes clafers false ks ls None None = refl
reads-nodes clafers false ks ls None (Some ys) = reads-right (share clafers ks ys)
reads-nodes clafers false ks ls (Some xs) None = reads-left (share clafers xs ls)
reads-nodes clafers false ks ls (Some xs) (Some ys) =
    reads-both (cond (share clafers xs ls) (Some (ByNodes true false)) (cond (share clafers ks ys) (Some (ByNodes false true)) (cond (share clafers xs ys) (Some (ByNodes true true)) None)))

reads-pick : (x y b : Bool) (r : Option Reading) → reads x y r ≡ true → reads x y (cond b (Some ByValues) r) ≡ true
reads-pick x y true r h = refl
reads-pick x y false r h = h

reads-kinds : (clafers : List Clafer) (k l : Option Kind) → reads (is_some (targets_of clafers (clafers_of k))) (is_some (targets_of clafers (clafers_of l))) (reading_of clafers k l) ≡ true
reads-kinds clafers (Some (kinds.Nodes ks)) (Some (kinds.Nodes ls)) =
    reads-pick (is_some (targets_of clafers ks)) (is_some (targets_of clafers ls)) (refer_to_int clafers (ks ++ ls)) (node_reading clafers ks ls)
    (reads-nodes clafers (share clafers ks ls) ks ls (targets_of clafers ks) (targets_of clafers ls))
reads-kinds clafers None l = refl
reads-kinds clafers (Some kinds.Truth) None = refl
reads-kinds clafers (Some kinds.Integer) None = refl
reads-kinds clafers (Some (kinds.Nodes ks)) None = refl
reads-kinds clafers (Some (kinds.Numbers ks)) None = refl
reads-kinds clafers (Some kinds.Truth) (Some j) = refl
reads-kinds clafers (Some kinds.Integer) (Some kinds.Truth) = refl
reads-kinds clafers (Some kinds.Integer) (Some kinds.Integer) = refl
reads-kinds clafers (Some kinds.Integer) (Some (kinds.Nodes ls)) = refl
reads-kinds clafers (Some kinds.Integer) (Some (kinds.Numbers ls)) = refl
reads-kinds clafers (Some (kinds.Numbers ks)) (Some kinds.Truth) = refl
reads-kinds clafers (Some (kinds.Numbers ks)) (Some kinds.Integer) = refl
reads-kinds clafers (Some (kinds.Numbers ks)) (Some (kinds.Nodes ls)) = refl
reads-kinds clafers (Some (kinds.Numbers ks)) (Some (kinds.Numbers ls)) = refl
reads-kinds clafers (Some (kinds.Nodes ks)) (Some kinds.Truth) = refl
reads-kinds clafers (Some (kinds.Nodes ks)) (Some kinds.Integer) = refl
reads-kinds clafers (Some (kinds.Nodes ks)) (Some (kinds.Numbers ls)) = refl

where-taken : (f b : Bool) → (not f || b) ≡ true → f ≡ true → b ≡ true
where-taken true b h e = h
where-taken false b h e = absurd (true≢false (sym e))

-- ---- widths
module _ (clafers : List Clafer) (scopes : Scopes) where
  -- the width of a number is that of the interval of its expression
  choice-number : (k p q : Option Kind) (z x y : Bounds) (t a b : Core) → is_integer k ≡ true → sort (choice clafers scopes k z p q x y t a b) ≡ Number (width z)
  choice-number (Some kinds.Integer) p q z x y t a b h = refl
  choice-number None p q z x y t a b h = absurd (true≢false (sym h))
  choice-number (Some kinds.Truth) p q z x y t a b h = absurd (true≢false (sym h))
  choice-number (Some (kinds.Nodes ks)) p q z x y t a b h = absurd (true≢false (sym h))
  choice-number (Some (kinds.Numbers ks)) p q z x y t a b h = absurd (true≢false (sym h))

  -- an integer has a number
  integer-sort : (k : Option Kind) (s : Sort) → is_integer k ≡ true → sort_fits k s ≡ true → is_number s ≡ true
  integer-sort (Some kinds.Integer) s h f = f
  integer-sort None s h f = absurd (true≢false (sym h))
  integer-sort (Some kinds.Truth) s h f = absurd (true≢false (sym h))
  integer-sort (Some (kinds.Nodes ks)) s h f = absurd (true≢false (sym h))
  integer-sort (Some (kinds.Numbers ks)) s h f = absurd (true≢false (sym h))

  abbrev number_of : Tree → Within → List (List ℕ) → Core
  number_of t w g = as_number (kind clafers t w) (interval clafers scopes t w) (lowered clafers scopes t w g)

  abbrev OwnWidth : Tree → Within → List (List ℕ) → Type 0
  OwnWidth t w g = sort (lowered clafers scopes t w g) ≡ Number (bits clafers scopes t w)

  never-both : {X : Type 0} (b : Bool) → b ≡ true → b ≡ false → X
  never-both b h e = absurd (true≢false (sym h ∙ e))

  own-width : (t : Tree) (w : Within) (g : List (List ℕ)) → is_integer (kind clafers t w) ≡ true → is_number (sort (lowered clafers scopes t w g)) ≡ true → OwnWidth t w g
  unfolding kind_interval
  own-width (e.Literal at n) w g h s = refl
  own-width (e.Card at a) w g h s = refl
  own-width (e.Sum at a) w g h s = refl
  own-width (e.Neg at a) w g h s = negated-sort (bits clafers scopes (e.Neg at a) w) (number_of a w g)
  own-width (e.Add at a b) w g h s = added-sort (bits clafers scopes (e.Add at a b) w) (number_of a w g) (number_of b w g)
  own-width (e.Sub at a b) w g h s = added-sort (bits clafers scopes (e.Sub at a b) w) (number_of a w g) (negated (width (negative (interval clafers scopes b w))) (number_of b w g))
  own-width (e.Mul at a b) w g h s = multiplied-sort (bits clafers scopes (e.Mul at a b) w) (number_of a w g) (number_of b w g)
  own-width (e.If at t a b) w g h s =
      choice-number (kind clafers (e.If at t a b) w) (kind clafers a w) (kind clafers b w) (interval clafers scopes (e.If at t a b) w) (interval clafers scopes a w) (interval clafers scopes b w)
      (as_truth (kind clafers t w) (lowered clafers scopes t w g)) (lowered clafers scopes a w g) (lowered clafers scopes b w g) h
  own-width (e.Dref at a) w g h s = never-both (is_integer (kind clafers (e.Dref at a) w)) h (dref-no_integer clafers (kind clafers a w))
  own-width (e.Equal at a b) w g h s = never-both (is_integer (kind clafers (e.Equal at a b) w)) h (compared-no_integer clafers (kind clafers a w) (kind clafers b w))
  own-width (e.In at a b) w g h s = never-both (is_integer (kind clafers (e.In at a b) w)) h (compared-no_integer clafers (kind clafers a w) (kind clafers b w))
  own-width (e.Quant _ _ _ _ _ _) w g h s = absurd (true≢false (sym h))
  own-width _ w g h s = absurd (true≢false (sym s))

  -- what is no integer has the interval of the sum of its nodes' integers
  choice-interval : (k : Option Kind) (x y : Bounds) → is_integer k ≡ false → intervals.choice clafers scopes k x y ≡ sum_between clafers scopes (most clafers scopes k)
  choice-interval None x y h = refl
  choice-interval (Some kinds.Truth) x y h = refl
  choice-interval (Some kinds.Integer) x y h = absurd (true≢false h)
  choice-interval (Some (kinds.Nodes ks)) x y h = refl
  choice-interval (Some (kinds.Numbers ks)) x y h = refl

  set-interval : (t : Tree) (w : Within) → is_integer (kind clafers t w) ≡ false → interval clafers scopes t w ≡ sum_between clafers scopes (most clafers scopes (kind clafers t w))
  set-interval (e.Literal at n) w h = absurd (true≢false h)
  set-interval (e.Card at a) w h = absurd (true≢false h)
  set-interval (e.Sum at a) w h = absurd (true≢false h)
  set-interval (e.Neg at a) w h = absurd (true≢false h)
  set-interval (e.Add at a b) w h = absurd (true≢false h)
  set-interval (e.Sub at a b) w h = absurd (true≢false h)
  set-interval (e.Mul at a b) w h = absurd (true≢false h)
  set-interval (e.If at t a b) w h = choice-interval (kind clafers (e.If at t a b) w) (interval clafers scopes a w) (interval clafers scopes b w) h
  set-interval _ w h = refl

  -- the width of a part in integer position
  number-width : (k : Option Kind) (b : Bounds) (a : Core) → (is_integer k ≡ true → sort a ≡ Number (width b)) → bits_of scopes (sort (as_number k b a)) ≡ width b
  number-width (Some kinds.Integer) b a h = ap (bits_of scopes) (h refl)
  number-width None b a h = refl
  number-width (Some kinds.Truth) b a h = refl
  number-width (Some (kinds.Nodes ks)) b a h = refl
  number-width (Some (kinds.Numbers ks)) b a h = refl

module _ (clafers : List Clafer) (scopes : Scopes) (closed : is_closed clafers ≡ true) (once : refers_once clafers ≡ true) (inherited : Inherited clafers) (intervals_hold : IntervalsHold) where
  abbrev In : Option Kind → List ℕ → Type 0
  In k ls = in_kind clafers scopes closed inherited k ls ≡ true

  abbrev IsMade : List ℕ → Type 0
  IsMade ls = is_made clafers scopes ls ≡ true

  abbrev Placed : Within → List (List ℕ) → Type 0
  Placed w g = Stands clafers scopes closed once inherited intervals_hold w g

  abbrev n_of : Core → ℕ
  n_of a = most_nodes scopes (sort a)

  abbrev heavy : Core → ℕ
  heavy a = core_weight scopes a

  -- ---- how many nodes
  set-most : (k : Option Kind) (s : Sort) → holds_nodes k ≡ true → sort_fits k s ≡ true → In k (clafers_in s) → IsMade (clafers_in s) → most_nodes scopes s ≤ most clafers scopes k
  set-most (Some (kinds.Nodes ks)) (Nodes ls) h f i m = list-room clafers scopes ks ls i m
  set-most (Some (kinds.Nodes ks)) (Number w) h f i m = absurd (true≢false (sym f))
  set-most (Some (kinds.Nodes ks)) Truth h f i m = absurd (true≢false (sym f))
  set-most (Some (kinds.Numbers ks)) (Nodes ls) h f i m = list-room clafers scopes ks ls i m
  set-most (Some (kinds.Numbers ks)) (Number w) h f i m = absurd (true≢false (sym f))
  set-most (Some (kinds.Numbers ks)) Truth h f i m = absurd (true≢false (sym f))
  set-most None s h f i m = absurd (true≢false (sym h))
  set-most (Some kinds.Truth) s h f i m = absurd (true≢false (sym h))
  set-most (Some kinds.Integer) s h f i m = absurd (true≢false (sym h))

  part-in : (t : Tree) (w : Within) (g : List (List ℕ)) → Placed w g → In (kind clafers t w) (clafers_in (sort (lowered clafers scopes t w g)))
  part-in t w g st = in_kinds clafers scopes closed inherited t w g st.fit

  part-made : (t : Tree) (w : Within) (g : List (List ℕ)) → Placed w g → IsMade (clafers_in (sort (lowered clafers scopes t w g)))
  part-made t w g st = made clafers scopes t w g st.all_made

  part-most : (t : Tree) (w : Within) (g : List (List ℕ)) → Placed w g → holds_nodes (kind clafers t w) ≡ true → n_of (lowered clafers scopes t w g) ≤ most clafers scopes (kind clafers t w)
  part-most t w g st h = set-most (kind clafers t w) (sort (lowered clafers scopes t w g)) h (sorted_core clafers scopes t w g) (part-in t w g st) (part-made t w g st)

  -- targets
  option-most : (o : Option (List ℕ)) (ls : List ℕ) → is_some o ≡ true → In (option_map (λ ts. kinds.Nodes ts) o) ls → IsMade ls → sum (map (scope_of scopes) ls) ≤ option_map_or (room clafers scopes) o 0
  option-most (Some ts) ls h i m = list-room clafers scopes ts ls i m
  option-most None ls h i m = absurd (true≢false (sym h))

  target-most : (k : Option Kind) (ls : List ℕ) → fits_nodes k ≡ true → is_some (targets_of clafers (clafers_of k)) ≡ true → In k ls → sum (map (scope_of scopes) (lower.targets_of clafers scopes ls)) ≤ most_targets clafers scopes k
  target-most (Some (kinds.Nodes ks)) ls f h i =
      option-most (targets_of clafers ks) (lower.targets_of clafers scopes ls) h (found-in clafers scopes closed inherited ks ls (list_all (λ c. is_some (target_of clafers c)) ks) refl i)
      (possible-made clafers scopes (λ d. list_any (λ x. lower.can_reach clafers x d) ls))
  target-most None ls f h i = absurd (true≢false (sym f))
  target-most (Some kinds.Truth) ls f h i = absurd (true≢false (sym f))
  target-most (Some kinds.Integer) ls f h i = absurd (true≢false (sym f))
  target-most (Some (kinds.Numbers ks)) ls f h i = absurd (true≢false (sym f))

  record Through (f : Bool) (k : Option Kind) (a : Core) (n : ℕ) : Type 0 where
    few : n_of (through clafers scopes f a) ≤ most_through clafers scopes f k
    light : heavy (through clafers scopes f a) ≤ follow_weight clafers scopes f k + n

  through-light : (f : Bool) (k : Option Kind) (a : Core) (n : ℕ) → fits_nodes k ≡ true → sort_fits k (sort a) ≡ true → In k (clafers_in (sort a)) → IsMade (clafers_in (sort a))
      → (f ≡ true → is_some (targets_of clafers (clafers_of k)) ≡ true) → heavy a ≤ n → Through f k a n
  through-light false k a n f s i m some h = record { few = set-most k (sort a) (nodes-hold k f) s i m; light = none-more (heavy a) n h }
  through-light true k a n f s i m some h =
      let t = target-most k (clafers_in (sort a)) f (some refl) i in
      record {
        few = t;
        light = one-part (4 * n_of a * sum (map (scope_of scopes) (lower.targets_of clafers scopes (clafers_in (sort a))))) (4 * most clafers scopes k * most_targets clafers scopes k) (heavy a) n
            (steps_more (n_of a) (sum (map (scope_of scopes) (lower.targets_of clafers scopes (clafers_in (sort a))))) (most clafers scopes k) (most_targets clafers scopes k) (set-most k (sort a) (nodes-hold k f) s i m) t) h;
      }

  -- ---- parts in their positions
  test-light : (k : Option Kind) (a : Core) (n : ℕ) → fits_truth k ≡ true → (holds_nodes k ≡ true → n_of a ≤ most clafers scopes k) → heavy a ≤ n → heavy (as_truth k a) ≤ tested clafers scopes k n
  test-light (Some kinds.Truth) a n f few h = h
  test-light (Some (kinds.Nodes ks)) a n f few h =
      one-part (16 * (n_of a + 1)) (count_weight scopes (most clafers scopes (Some (kinds.Nodes ks)))) (heavy a) n (test_more scopes (n_of a) (most clafers scopes (Some (kinds.Nodes ks))) (few refl)) h
  test-light None a n f few h = absurd (true≢false (sym f))
  test-light (Some kinds.Integer) a n f few h = absurd (true≢false (sym f))
  test-light (Some (kinds.Numbers ks)) a n f few h = absurd (true≢false (sym f))

  number-light : (k : Option Kind) (b : Bounds) (a : Core) (n : ℕ) → fits_number clafers k ≡ true → (holds_nodes k ≡ true → n_of a ≤ most clafers scopes k) → heavy a ≤ n → heavy (as_number k b a) ≤ counted clafers scopes k n
  number-light (Some kinds.Integer) b a n f few h = h
  number-light (Some (kinds.Nodes ks)) b a n f few h =
      one-part (count_weight scopes (n_of a)) (count_weight scopes (most clafers scopes (Some (kinds.Nodes ks)))) (heavy a) n (count_more scopes (n_of a) (most clafers scopes (Some (kinds.Nodes ks))) (few refl)) h
  number-light (Some (kinds.Numbers ks)) b a n f few h =
      one-part (count_weight scopes (n_of a)) (count_weight scopes (most clafers scopes (Some (kinds.Numbers ks)))) (heavy a) n (count_more scopes (n_of a) (most clafers scopes (Some (kinds.Numbers ks))) (few refl)) h
  number-light None b a n f few h = absurd (true≢false (sym f))
  number-light (Some kinds.Truth) b a n f few h = absurd (true≢false (sym f))

  -- as values
  value-most : (k : Option Kind) (s : Sort) → fits_number clafers k ≡ true → sort_fits k s ≡ true → In k (clafers_in s) → IsMade (clafers_in s) → most_nodes scopes s ≤ most_values clafers scopes k
  value-most (Some kinds.Integer) (Number w) f h i m = same_most 1
  value-most (Some kinds.Integer) (Nodes ls) f h i m = absurd (true≢false (sym h))
  value-most (Some kinds.Integer) Truth f h i m = absurd (true≢false (sym h))
  value-most (Some (kinds.Nodes ks)) s f h i m = set-most (Some (kinds.Nodes ks)) s refl h i m
  value-most (Some (kinds.Numbers ks)) s f h i m = set-most (Some (kinds.Numbers ks)) s refl h i m
  value-most None s f h i m = absurd (true≢false (sym f))
  value-most (Some kinds.Truth) s f h i m = absurd (true≢false (sym f))

  sum-bits : (ks ls : List ℕ) (b : Bounds) → sum (map (scope_of scopes) ls) ≤ room clafers scopes ks → b ≡ sum_between clafers scopes (room clafers scopes ks) → bits_of scopes (Nodes ls) ≤ width b
  sum-bits ks ls b few e = subst (λ x. bits_of scopes (Nodes ls) ≤ width x) (sym e) (sum_width [] clafers scopes (sum (map (scope_of scopes) ls)) (room clafers scopes ks) few)

  value-bits : (k : Option Kind) (s : Sort) (b : Bounds) → fits_number clafers k ≡ true → sort_fits k s ≡ true → In k (clafers_in s) → IsMade (clafers_in s)
      → (is_integer k ≡ true → s ≡ Number (width b)) → (is_integer k ≡ false → b ≡ sum_between clafers scopes (most clafers scopes k)) → bits_of scopes s ≤ width b
  value-bits (Some kinds.Integer) s b f h i m own set = subst (λ x. bits_of scopes x ≤ width b) (sym (own refl)) (same_most (width b))
  value-bits (Some (kinds.Nodes ks)) (Nodes ls) b f h i m own set = sum-bits ks ls b (list-room clafers scopes ks ls i m) (set refl)
  value-bits (Some (kinds.Numbers ks)) (Nodes ls) b f h i m own set = sum-bits ks ls b (list-room clafers scopes ks ls i m) (set refl)
  value-bits (Some (kinds.Nodes ks)) (Number w) b f h i m own set = absurd (true≢false (sym h))
  value-bits (Some (kinds.Nodes ks)) Truth b f h i m own set = absurd (true≢false (sym h))
  value-bits (Some (kinds.Numbers ks)) (Number w) b f h i m own set = absurd (true≢false (sym h))
  value-bits (Some (kinds.Numbers ks)) Truth b f h i m own set = absurd (true≢false (sym h))
  value-bits None s b f h i m own set = absurd (true≢false (sym f))
  value-bits (Some kinds.Truth) s b f h i m own set = absurd (true≢false (sym f))

  own : (t : Tree) (w : Within) (g : List (List ℕ)) → is_integer (kind clafers t w) ≡ true → sort (lowered clafers scopes t w g) ≡ Number (bits clafers scopes t w)
  own t w g h = own-width clafers scopes t w g h (integer-sort clafers scopes (kind clafers t w) (sort (lowered clafers scopes t w g)) h (sorted_core clafers scopes t w g))

  part-bits : (t : Tree) (w : Within) (g : List (List ℕ)) → bits_of scopes (sort (as_number (kind clafers t w) (interval clafers scopes t w) (lowered clafers scopes t w g))) ≡ bits clafers scopes t w
  part-bits t w g = number-width clafers scopes (kind clafers t w) (interval clafers scopes t w) (lowered clafers scopes t w g) (λ h. own t w g h)

  -- ---- comparisons, as they are read
  record Side (t : Tree) (w : Within) (g : List (List ℕ)) : Type 0 where
    sorted : sort_fits (kind clafers t w) (sort (lowered clafers scopes t w g)) ≡ true
    within : In (kind clafers t w) (clafers_in (sort (lowered clafers scopes t w g)))
    listed : IsMade (clafers_in (sort (lowered clafers scopes t w g)))
    light : heavy (lowered clafers scopes t w g) ≤ weight clafers scopes t w

  side : (t : Tree) (w : Within) (g : List (List ℕ)) → Placed w g → heavy (lowered clafers scopes t w g) ≤ weight clafers scopes t w → Side t w g
  side t w g st h = record { sorted = sorted_core clafers scopes t w g; within = part-in t w g st; listed = part-made t w g st; light = h }

  abbrev compared : Option Reading → Tree → Tree → Within → ℕ
  compared r a b w = compared_weight clafers scopes r (kind clafers a w) (bits clafers scopes a w) (kind clafers b w) (bits clafers scopes b w) + weight clafers scopes a w + weight clafers scopes b w

  values-light : (a b : Tree) (w : Within) (g : List (List ℕ)) → Side a w g → Side b w g → fits_number clafers (kind clafers a w) ≡ true → fits_number clafers (kind clafers b w) ≡ true
      → heavy (c.SameValues (lowered clafers scopes a w g) (lowered clafers scopes b w g)) ≤ compared (Some ByValues) a b w
  values-light a b w g x y f h =
      let s = sort (lowered clafers scopes a w g) in
      let t = sort (lowered clafers scopes b w g) in
      let k = kind clafers a w in
      let l = kind clafers b w in
      two-parts (6 * (most_nodes scopes s + 1) * (most_nodes scopes t + 1) * (max (range_width scopes) (max (bits_of scopes s) (bits_of scopes t)) + 1))
      (6 * (most_values clafers scopes k + 1) * (most_values clafers scopes l + 1) * (max (range_width scopes) (max (bits clafers scopes a w) (bits clafers scopes b w)) + 1))
      (heavy (lowered clafers scopes a w g)) (heavy (lowered clafers scopes b w g)) (weight clafers scopes a w) (weight clafers scopes b w)
      (values_more (range_width scopes) (most_nodes scopes s) (most_nodes scopes t) (bits_of scopes s) (bits_of scopes t) (most_values clafers scopes k) (most_values clafers scopes l) (bits clafers scopes a w) (bits clafers scopes b w)
      (value-most k s f x.sorted x.within x.listed) (value-most l t h y.sorted y.within y.listed)
      (value-bits k s (interval clafers scopes a w) f x.sorted x.within x.listed (λ q. own a w g q) (λ q. set-interval clafers scopes a w q))
      (value-bits l t (interval clafers scopes b w) h y.sorted y.within y.listed (λ q. own b w g q) (λ q. set-interval clafers scopes b w q)))
      x.light y.light

  nodes-sum : (m n p q x y z u o r : ℕ) → m ≤ p → n ≤ q → x ≤ z + o → y ≤ u + r → 16 * (m + n + 1) + x + y ≤ 16 * (p + q + 1) + z + u + o + r
  nodes-sum m n p q x y z u o r a b c d = omega (arith, a, b, c, d)

  nodes-light : (left right : Bool) (a b : Tree) (w : Within) (g : List (List ℕ)) → Side a w g → Side b w g → fits_nodes (kind clafers a w) ≡ true → fits_nodes (kind clafers b w) ≡ true
      → reads (is_some (targets_of clafers (clafers_of (kind clafers a w)))) (is_some (targets_of clafers (clafers_of (kind clafers b w)))) (Some (ByNodes left right)) ≡ true
      → heavy (c.SameNodes (through clafers scopes left (lowered clafers scopes a w g)) (through clafers scopes right (lowered clafers scopes b w g))) ≤ compared (Some (ByNodes left right)) a b w
  nodes-light left right a b w g x y f h r =
      let k = kind clafers a w in
      let l = kind clafers b w in
      let taken = and_parts (not left || is_some (targets_of clafers (clafers_of k))) (not right || is_some (targets_of clafers (clafers_of l))) r in
      let p = through-light left k (lowered clafers scopes a w g) (weight clafers scopes a w) f x.sorted x.within x.listed (λ q. where-taken left (is_some (targets_of clafers (clafers_of k))) taken.0 q) x.light in
      let q = through-light right l (lowered clafers scopes b w g) (weight clafers scopes b w) h y.sorted y.within y.listed (λ q. where-taken right (is_some (targets_of clafers (clafers_of l))) taken.1 q) y.light in
      nodes-sum (n_of (through clafers scopes left (lowered clafers scopes a w g))) (n_of (through clafers scopes right (lowered clafers scopes b w g))) (most_through clafers scopes left k) (most_through clafers scopes right l)
      (heavy (through clafers scopes left (lowered clafers scopes a w g))) (heavy (through clafers scopes right (lowered clafers scopes b w g))) (follow_weight clafers scopes left k) (follow_weight clafers scopes right l)
      (weight clafers scopes a w) (weight clafers scopes b w) p.few q.few p.light q.light

  same-light : (r : Option Reading) (a b : Tree) (w : Within) (g : List (List ℕ)) → Side a w g → Side b w g → reading_of clafers (kind clafers a w) (kind clafers b w) ≡ r
      → fit_reading clafers r (kind clafers a w) (kind clafers b w) ≡ true → heavy (same clafers scopes r (lowered clafers scopes a w g) (lowered clafers scopes b w g)) ≤ compared r a b w
  same-light None a b w g x y e f = absurd (true≢false (sym f))
  same-light (Some ByValues) a b w g x y e f =
      let h = and_parts (fits_number clafers (kind clafers a w)) (fits_number clafers (kind clafers b w)) f in values-light a b w g x y h.0 h.1
  same-light (Some (ByNodes left right)) a b w g x y e f =
      let k = kind clafers a w in
      let l = kind clafers b w in
      let h = by-nodes clafers k l (ap is_by_nodes e) in
      nodes-light left right a b w g x y h.0 h.1 (ap (reads (is_some (targets_of clafers (clafers_of k))) (is_some (targets_of clafers (clafers_of l)))) (sym e) ∙ reads-kinds clafers k l)

  part-light : (r : Option Reading) (a b : Tree) (w : Within) (g : List (List ℕ)) → heavy (same clafers scopes r (lowered clafers scopes a w g) (lowered clafers scopes b w g)) ≤ compared r a b w
      → heavy (part clafers scopes r (lowered clafers scopes a w g) (lowered clafers scopes b w g)) ≤ compared r a b w
  part-light None a b w g h = h
  part-light (Some ByValues) a b w g h = h
  part-light (Some (ByNodes left right)) a b w g h = h

  -- ---- choices
  choice-parts : (p q t u a b x y : ℕ) → p ≤ q → t ≤ u → a ≤ x → b ≤ y → 8 + p + t + a + b ≤ 8 + q + x + y + u
  choice-parts p q t u a b x y h k i j = omega (arith, h, k, i, j)

  choice-tests : (t u a b x y : ℕ) → t ≤ u → a ≤ x → b ≤ y → 8 + t + a + b ≤ 8 + x + y + u
  choice-tests t u a b x y k i j = omega (arith, k, i, j)

  choice-light : (r k l : Option Kind) (z x y : Bounds) (t a b : Core) (n m p : ℕ) → fit_choice clafers r k l ≡ true → heavy t ≤ p
      → (fits_truth k ≡ true → heavy (as_truth k a) ≤ tested clafers scopes k n) → (fits_truth l ≡ true → heavy (as_truth l b) ≤ tested clafers scopes l m)
      → (fits_number clafers k ≡ true → heavy (as_number k x a) ≤ counted clafers scopes k n) → (fits_number clafers l ≡ true → heavy (as_number l y b) ≤ counted clafers scopes l m)
      → heavy a ≤ n → heavy b ≤ m → (holds_nodes r ≡ true → n_of (choice clafers scopes r z k l x y t a b) ≤ most clafers scopes r)
      → heavy (choice clafers scopes r z k l x y t a b) ≤ choice_weight clafers scopes r (width z) k n l m + p
  choice-light (Some kinds.Truth) k l z x y t a b n m p f ht ta tb na nb ha hb few =
      let h = and_parts (fits_truth k) (fits_truth l) f in
      choice-tests (heavy t) p (heavy (as_truth k a)) (heavy (as_truth l b)) (tested clafers scopes k n) (tested clafers scopes l m) ht (ta h.0) (tb h.1)
  choice-light (Some kinds.Integer) k l z x y t a b n m p f ht ta tb na nb ha hb few =
      let h = and_parts (fits_number clafers k) (fits_number clafers l) f in
      choice-parts (4 * width z) (4 * width z) (heavy t) p (heavy (as_number k x a)) (heavy (as_number l y b)) (counted clafers scopes k n) (counted clafers scopes l m) (same_most (4 * width z)) ht (na h.0) (nb h.1)
  choice-light (Some (kinds.Nodes ks)) k l z x y t a b n m p f ht ta tb na nb ha hb few =
      choice-parts (4 * n_of (choice clafers scopes (Some (kinds.Nodes ks)) z k l x y t a b)) (4 * most clafers scopes (Some (kinds.Nodes ks))) (heavy t) p (heavy a) (heavy b) n m
      (four-times (n_of (choice clafers scopes (Some (kinds.Nodes ks)) z k l x y t a b)) (most clafers scopes (Some (kinds.Nodes ks))) (few refl)) ht ha hb
    where
      four-times : (u v : ℕ) → u ≤ v → 4 * u ≤ 4 * v
      four-times u v q = omega (arith, q)
  choice-light None k l z x y t a b n m p f ht ta tb na nb ha hb few = absurd (true≢false (sym f))
  choice-light (Some (kinds.Numbers ks)) k l z x y t a b n m p f ht ta tb na nb ha hb few = absurd (true≢false (sym f))

  -- ---- `dref`
  dref-light : (k r : Option Kind) (a : Core) (n : ℕ) → holds_nodes r ≡ true → n_of a ≤ most clafers scopes k → (holds_nodes r ≡ true → n_of (dref clafers scopes r a) ≤ most clafers scopes r) → heavy a ≤ n
      → heavy (dref clafers scopes r a) ≤ dref_weight clafers scopes k r + n
  dref-light k (Some (kinds.Numbers ks)) a n h few result light = one-more (heavy a) n light
  dref-light k (Some (kinds.Nodes ts)) a n h few result light =
      one-part (4 * n_of a * n_of (dref clafers scopes (Some (kinds.Nodes ts)) a)) (4 * most clafers scopes k * most clafers scopes (Some (kinds.Nodes ts))) (heavy a) n
      (steps_more (n_of a) (n_of (dref clafers scopes (Some (kinds.Nodes ts)) a)) (most clafers scopes k) (most clafers scopes (Some (kinds.Nodes ts))) few (result refl)) light
  dref-light k None a n h few result light = absurd (true≢false (sym h))
  dref-light k (Some kinds.Truth) a n h few result light = absurd (true≢false (sym h))
  dref-light k (Some kinds.Integer) a n h few result light = absurd (true≢false (sym h))

  -- ---- quantifiers
  less-by-one : (x y : ℕ) → 1 + x ≤ y → x ≤ y
  less-by-one x y h = omega (arith, h)

  quant-light : (v : Word) (disj : Bool) (n : ℕ) (over body : Core) (m o p : ℕ) → is_quantifier clafers v ≡ true → n_of over ≤ m → heavy over ≤ o → heavy body ≤ p
      → heavy (quant v disj n over body) ≤ m ^ n * (p + 8 * n + 16 * binary_digits (m ^ n) + 16) + 8 + o
  quant-light word.All disj n over body m o p q few ho hb =
      less-by-one (n_of over ^ n * (heavy body + 2 * n + 4) + 2 + heavy over) (m ^ n * (p + 8 * n + 16 * binary_digits (m ^ n) + 16) + 8 + o)
      (all_more (n_of over ^ n) (m ^ n) n (heavy body) p (heavy over) o (binary_digits (m ^ n)) (power_more (n_of over) m n few) hb ho)
  quant-light word.Some disj n over body m o p q few ho hb =
      less-by-one (n_of over ^ n * (heavy body + 2 * n + 4) + 2 + heavy over) (m ^ n * (p + 8 * n + 16 * binary_digits (m ^ n) + 16) + 8 + o)
      (all_more (n_of over ^ n) (m ^ n) n (heavy body) p (heavy over) o (binary_digits (m ^ n)) (power_more (n_of over) m n few) hb ho)
  quant-light word.No disj n over body m o p q few ho hb =
      all_more (n_of over ^ n) (m ^ n) n (heavy body) p (heavy over) o (binary_digits (m ^ n)) (power_more (n_of over) m n few) hb ho
  quant-light word.One disj n over body m o p q few ho hb =
      one_more (n_of over ^ n) (m ^ n) n (heavy body) p (heavy over) o (binary_digits (n_of over ^ n)) (binary_digits (m ^ n)) (power_more (n_of over) m n few) hb ho
      (binary_more (n_of over ^ n) (m ^ n) (power_more (n_of over) m n few))
  quant-light word.Lone disj n over body m o p q few ho hb =
      one_more (n_of over ^ n) (m ^ n) n (heavy body) p (heavy over) o (binary_digits (n_of over ^ n)) (binary_digits (m ^ n)) (power_more (n_of over) m n few) hb ho
      (binary_more (n_of over ^ n) (m ^ n) (power_more (n_of over) m n few))
  quant-light _ disj n over body m o p q few ho hb = absurd (true≢false (sym q))

  -- ---- the law
  abbrev Light : Tree → Within → List (List ℕ) → Type 0
  Light t w g = heavy (lowered clafers scopes t w g) ≤ weight clafers scopes t w

  abbrev as_test : Tree → Within → List (List ℕ) → Core
  as_test t w g = as_truth (kind clafers t w) (lowered clafers scopes t w g)

  abbrev as_integer : Tree → Within → List (List ℕ) → Core
  as_integer t w g = as_number (kind clafers t w) (interval clafers scopes t w) (lowered clafers scopes t w g)

  abbrev test_weight : Tree → Within → ℕ
  test_weight t w = tested clafers scopes (kind clafers t w) (weight clafers scopes t w)

  abbrev integer_weight : Tree → Within → ℕ
  integer_weight t w = counted clafers scopes (kind clafers t w) (weight clafers scopes t w)

  pub light-test : (t : Tree) (w : Within) (g : List (List ℕ)) → Placed w g → fits_truth (kind clafers t w) ≡ true → Light t w g → heavy (as_test t w g) ≤ test_weight t w
  light-test t w g st f h = test-light (kind clafers t w) (lowered clafers scopes t w g) (weight clafers scopes t w) f (λ q. part-most t w g st q) h

  pub light-number : (t : Tree) (w : Within) (g : List (List ℕ)) → Placed w g → fits_number clafers (kind clafers t w) ≡ true → Light t w g → heavy (as_integer t w g) ≤ integer_weight t w
  light-number t w g st f h = number-light (kind clafers t w) (interval clafers scopes t w) (lowered clafers scopes t w g) (weight clafers scopes t w) f (λ q. part-most t w g st q) h

  nodes-most : (t : Tree) (w : Within) (g : List (List ℕ)) → Placed w g → fits_nodes (kind clafers t w) ≡ true → n_of (lowered clafers scopes t w g) ≤ most clafers scopes (kind clafers t w)
  nodes-most t w g st f = part-most t w g st (nodes-hold (kind clafers t w) f)

  tests-light : (own : ℕ) (a b : Tree) (w : Within) (g : List (List ℕ)) → Placed w g → own ≤ 8 → fits_truth (kind clafers a w) ≡ true → fits_truth (kind clafers b w) ≡ true → Light a w g → Light b w g
      → own + heavy (as_test a w g) + heavy (as_test b w g) ≤ 8 + test_weight a w + test_weight b w
  tests-light own a b w g st few f h x y =
      two-parts own 8 (heavy (as_test a w g)) (heavy (as_test b w g)) (test_weight a w) (test_weight b w) few (light-test a w g st f x) (light-test b w g st h y)

  sums-light : (own bound : ℕ) (a b : Tree) (w : Within) (g : List (List ℕ)) → Placed w g → own ≤ bound → fits_number clafers (kind clafers a w) ≡ true → fits_number clafers (kind clafers b w) ≡ true → Light a w g → Light b w g
      → own + heavy (as_integer a w g) + heavy (as_integer b w g) ≤ bound + integer_weight a w + integer_weight b w
  sums-light own bound a b w g st few f h x y =
      two-parts own bound (heavy (as_integer a w g)) (heavy (as_integer b w g)) (integer_weight a w) (integer_weight b w) few (light-number a w g st f x) (light-number b w g st h y)

  -- an order of two numbers, also negated and turned round
  order-light : (a b : Tree) (w : Within) (g : List (List ℕ)) → Placed w g → fits_number clafers (kind clafers a w) ≡ true → fits_number clafers (kind clafers b w) ≡ true → Light a w g → Light b w g
      → 1 + heavy (c.Less (as_integer a w g) (as_integer b w g)) ≤ 16 * (bits clafers scopes a w + bits clafers scopes b w + 2) + integer_weight a w + integer_weight b w
  order-light a b w g st f h x y =
      join (8 * (max (bits_of scopes (sort (as_integer a w g))) (bits_of scopes (sort (as_integer b w g))) + 1)) (16 * (bits clafers scopes a w + bits clafers scopes b w + 2))
      (less_more (bits_of scopes (sort (as_integer a w g))) (bits_of scopes (sort (as_integer b w g))) (bits clafers scopes a w) (bits clafers scopes b w) (part-bits a w g) (part-bits b w g))
      (light-number a w g st f x) (light-number b w g st h y)
    where
      join : (p q : ℕ) → p + 1 ≤ q → heavy (as_integer a w g) ≤ integer_weight a w → heavy (as_integer b w g) ≤ integer_weight b w → 1 + (p + heavy (as_integer a w g) + heavy (as_integer b w g)) ≤ q + integer_weight a w + integer_weight b w
      join p q r i j = omega (arith, r, i, j)

  turned-light : (a b : Tree) (w : Within) (g : List (List ℕ)) → Placed w g → fits_number clafers (kind clafers a w) ≡ true → fits_number clafers (kind clafers b w) ≡ true → Light a w g → Light b w g
      → 1 + heavy (c.Less (as_integer b w g) (as_integer a w g)) ≤ 16 * (bits clafers scopes a w + bits clafers scopes b w + 2) + integer_weight a w + integer_weight b w
  turned-light a b w g st f h x y =
      turn (bits clafers scopes a w) (bits clafers scopes b w) (integer_weight a w) (integer_weight b w) (1 + heavy (c.Less (as_integer b w g) (as_integer a w g))) (order-light b a w g st h f y x)
    where
      turn : (p q m n z : ℕ) → z ≤ 16 * (q + p + 2) + n + m → z ≤ 16 * (p + q + 2) + m + n
      turn p q m n z k = omega (arith, k)

  sets-light : (a b : Tree) (w : Within) (g : List (List ℕ)) → Placed w g → fits_nodes (kind clafers a w) ≡ true → fits_nodes (kind clafers b w) ≡ true → Light a w g → Light b w g
      → 4 * (n_of (lowered clafers scopes a w g) + n_of (lowered clafers scopes b w g)) + heavy (lowered clafers scopes a w g) + heavy (lowered clafers scopes b w g)
      ≤ 4 * (most clafers scopes (kind clafers a w) + most clafers scopes (kind clafers b w)) + weight clafers scopes a w + weight clafers scopes b w
  sets-light a b w g st f h x y =
      two-parts (4 * (n_of (lowered clafers scopes a w g) + n_of (lowered clafers scopes b w g))) (4 * (most clafers scopes (kind clafers a w) + most clafers scopes (kind clafers b w)))
      (heavy (lowered clafers scopes a w g)) (heavy (lowered clafers scopes b w g)) (weight clafers scopes a w) (weight clafers scopes b w)
      (four-times (n_of (lowered clafers scopes a w g)) (n_of (lowered clafers scopes b w g)) (most clafers scopes (kind clafers a w)) (most clafers scopes (kind clafers b w)) (nodes-most a w g st f) (nodes-most b w g st h)) x y
    where
      four-times : (m n p q : ℕ) → m ≤ p → n ≤ q → 4 * (m + n) ≤ 4 * (p + q)
      four-times m n p q i j = omega (arith, i, j)

  -- a number of nodes that is compared with 0 or 1, and a count of nodes or a sum
  few-light : (a : Tree) (w : Within) (g : List (List ℕ)) → Placed w g → fits_nodes (kind clafers a w) ≡ true → Light a w g
      → 16 * (n_of (lowered clafers scopes a w g) + 1) + heavy (lowered clafers scopes a w g) ≤ count_weight scopes (most clafers scopes (kind clafers a w)) + weight clafers scopes a w
  few-light a w g st f x =
      one-part (16 * (n_of (lowered clafers scopes a w g) + 1)) (count_weight scopes (most clafers scopes (kind clafers a w))) (heavy (lowered clafers scopes a w g)) (weight clafers scopes a w)
      (test_more scopes (n_of (lowered clafers scopes a w g)) (most clafers scopes (kind clafers a w)) (nodes-most a w g st f)) x

  count-light : (a : Tree) (w : Within) (g : List (List ℕ)) → Placed w g → fits_nodes (kind clafers a w) ≡ true → Light a w g
      → count_weight scopes (n_of (lowered clafers scopes a w g)) + heavy (lowered clafers scopes a w g) ≤ count_weight scopes (most clafers scopes (kind clafers a w)) + weight clafers scopes a w
  count-light a w g st f x =
      one-part (count_weight scopes (n_of (lowered clafers scopes a w g))) (count_weight scopes (most clafers scopes (kind clafers a w))) (heavy (lowered clafers scopes a w g)) (weight clafers scopes a w)
      (count_more scopes (n_of (lowered clafers scopes a w g)) (most clafers scopes (kind clafers a w)) (nodes-most a w g st f)) x

  -- two integers, typed and looked up
  record Integers (a b : Tree) (w : Within) : Type 0 where
    typed_left : is_typed clafers a w ≡ true
    fits_left : fits_number clafers (kind clafers a w) ≡ true
    typed_right : is_typed clafers b w ≡ true
    fits_right : fits_number clafers (kind clafers b w) ≡ true
    left : is_looked_up clafers a w ≡ true
    right : is_looked_up clafers b w ≡ true

  integers : (a b : Tree) (w : Within) → ((is_typed clafers a w && fits_number clafers (kind clafers a w)) && (is_typed clafers b w && fits_number clafers (kind clafers b w))) ≡ true
      → (is_looked_up clafers a w && is_looked_up clafers b w) ≡ true → Integers a b w
  integers a b w f u =
      let h = and_parts (is_typed clafers a w && fits_number clafers (kind clafers a w)) (is_typed clafers b w && fits_number clafers (kind clafers b w)) f in
      let x = and_parts (is_typed clafers a w) (fits_number clafers (kind clafers a w)) h.0 in
      let y = and_parts (is_typed clafers b w) (fits_number clafers (kind clafers b w)) h.1 in
      let v = and_parts (is_looked_up clafers a w) (is_looked_up clafers b w) u in
      record { typed_left = x.0; fits_left = x.1; typed_right = y.0; fits_right = y.1; left = v.0; right = v.1 }

  opposite-own : (w x y : ℕ) → x ≤ y + 1 → 16 * (w + 1) + 16 * (x + 1) ≤ 16 * (w + y + 3)
  opposite-own w x y h = omega (arith, h)

  difference-parts : (p q r a b c d : ℕ) → p + q ≤ r → a ≤ c → b ≤ d → p + a + (q + b) ≤ r + c + d
  difference-parts p q r a b c d h i j = omega (arith, h, i, j)

  below-both : (x y z : ℕ) → x ≤ y → y ≤ z → x ≤ z
  below-both x y z h k = omega (arith, h, k)

  below-difference : (x own a y other b z : ℕ) → x ≤ own + a + y → y ≤ other + b → own + a + (other + b) ≤ z → x ≤ z
  below-difference x own a y other b z h k i = omega (arith, h, k, i)

  pub light : (t : Tree) (w : Within) (g : List (List ℕ)) → Placed w g → is_typed clafers t w ≡ true → is_looked_up clafers t w ≡ true → Light t w g
  light (e.Literal _ n) w g st f u = same_most 2
  light (e.This at) w g st f u = leaf (most clafers scopes (kind clafers (e.This at) w))
  light (e.Variable at i) w g st f u = leaf (most clafers scopes (kind clafers (e.Variable at i) w))
  light (e.Clafer at k) w g st f u = leaf (most clafers scopes (kind clafers (e.Clafer at k) w))
  light (e.Name at n) w g st f u = leaf (most clafers scopes None)
  light (e.Join at a n) w g st f u = leaf (most clafers scopes None)
  light (e.Step at a into follow) w g st f u =
      let h = and_parts (is_typed clafers a w) (fits_nodes (kind clafers a w)) f in
      let v = three (is_looked_up clafers a w) (list_all (λ c. nat_lt c (length clafers)) into) (not follow || named.is_nodes clafers (dref_kind clafers (kind clafers a w))) u in
      let k = kind clafers a w in
      let p = through-light follow k (lowered clafers scopes a w g) (weight clafers scopes a w) h.1 (sorted_core clafers scopes a w g) (part-in a w g st) (part-made a w g st)
      (λ q. followed-some clafers follow k v.2 q) (light a w g st h.0 v.0) in
      more-parts (4 * n_of (through clafers scopes follow (lowered clafers scopes a w g)) * n_of (lowered clafers scopes (e.Step at a into follow) w g)) (4 * most_through clafers scopes follow k * most clafers scopes (Some (kinds.Nodes into)))
      (heavy (through clafers scopes follow (lowered clafers scopes a w g))) (follow_weight clafers scopes follow k) (weight clafers scopes a w)
      (steps_more (n_of (through clafers scopes follow (lowered clafers scopes a w g))) (n_of (lowered clafers scopes (e.Step at a into follow) w g)) (most_through clafers scopes follow k) (most clafers scopes (Some (kinds.Nodes into))) p.few
      (part-most (e.Step at a into follow) w g st refl)) p.light
  light (e.Parent at a) w g st f u =
      let h = three (is_typed clafers a w) (fits_nodes (kind clafers a w)) (is_some (kind clafers (e.Parent at a) w)) f in
      let v = and_parts (is_looked_up clafers a w) (not (named.is_nodes clafers (kind clafers a w)) || is_some (kind clafers (e.Parent at a) w)) u in
      one-part (4 * n_of (lowered clafers scopes a w g) * n_of (lowered clafers scopes (e.Parent at a) w g)) (4 * most clafers scopes (kind clafers a w) * most clafers scopes (kind clafers (e.Parent at a) w))
      (heavy (lowered clafers scopes a w g)) (weight clafers scopes a w)
      (steps_more (n_of (lowered clafers scopes a w g)) (n_of (lowered clafers scopes (e.Parent at a) w g)) (most clafers scopes (kind clafers a w)) (most clafers scopes (kind clafers (e.Parent at a) w)) (nodes-most a w g st h.1)
      (nodes-most (e.Parent at a) w g st (parents-fit (parents_of clafers (clafers_of (kind clafers a w))) h.2))) (light a w g st h.0 v.0)
  light (e.Dref at a) w g st f u =
      let h = three (is_typed clafers a w) (fits_nodes (kind clafers a w)) (is_some (kind clafers (e.Dref at a) w)) f in
      dref-light (kind clafers a w) (kind clafers (e.Dref at a) w) (lowered clafers scopes a w g) (weight clafers scopes a w) (drefs-hold clafers (kind clafers a w) h.2) (nodes-most a w g st h.1)
      (λ q. part-most (e.Dref at a) w g st q) (light a w g st h.0 u)
  light (e.Union _ a b) w g st f u =
      let h = four (is_typed clafers a w) (is_typed clafers b w) (fits_nodes (kind clafers a w)) (fits_nodes (kind clafers b w)) f in
      let v = and_parts (is_looked_up clafers a w) (is_looked_up clafers b w) u in
      sets-light a b w g st h.2 h.3 (light a w g st h.0 v.0) (light b w g st h.1 v.1)
  light (e.Minus _ a b) w g st f u =
      let h = three (is_typed clafers a w) (is_typed clafers b w) (fit_together clafers (kind clafers a w) (kind clafers b w)) f in
      let v = and_parts (is_looked_up clafers a w) (is_looked_up clafers b w) u in
      let s = together-nodes clafers (kind clafers a w) (kind clafers b w) h.2 in
      sets-light a b w g st s.0 s.1 (light a w g st h.0 v.0) (light b w g st h.1 v.1)
  light (e.Meet _ a b) w g st f u =
      let h = three (is_typed clafers a w) (is_typed clafers b w) (fit_together clafers (kind clafers a w) (kind clafers b w)) f in
      let v = and_parts (is_looked_up clafers a w) (is_looked_up clafers b w) u in
      let s = together-nodes clafers (kind clafers a w) (kind clafers b w) h.2 in
      sets-light a b w g st s.0 s.1 (light a w g st h.0 v.0) (light b w g st h.1 v.1)
  light (e.If at t a b) w g st f u =
      let k = kind clafers a w in
      let l = kind clafers b w in
      let h = and_parts (is_typed clafers t w && fits_truth (kind clafers t w) && is_typed clafers a w && is_typed clafers b w) (fit_choice clafers (kind_of_choice k l) k l) f in
      let j = four (is_typed clafers t w) (fits_truth (kind clafers t w)) (is_typed clafers a w) (is_typed clafers b w) h.0 in
      let v = three (is_looked_up clafers t w) (is_looked_up clafers a w) (is_looked_up clafers b w) u in
      let x = light a w g st j.2 v.1 in
      let y = light b w g st j.3 v.2 in
      choice-light (kind_of_choice k l) k l (interval clafers scopes (e.If at t a b) w) (interval clafers scopes a w) (interval clafers scopes b w) (as_test t w g) (lowered clafers scopes a w g) (lowered clafers scopes b w g)
      (weight clafers scopes a w) (weight clafers scopes b w) (test_weight t w) h.1 (light-test t w g st j.1 (light t w g st j.0 v.0))
      (λ q. light-test a w g st q x) (λ q. light-test b w g st q y) (λ q. light-number a w g st q x) (λ q. light-number b w g st q y) x y (λ q. part-most (e.If at t a b) w g st q)
  light (e.Not _ a) w g st f u =
      let h = and_parts (is_typed clafers a w) (fits_truth (kind clafers a w)) f in
      one-part 1 8 (heavy (as_test a w g)) (test_weight a w) (omega arith) (light-test a w g st h.1 (light a w g st h.0 u))
  light (e.And _ a b) w g st f u =
      let h = four (is_typed clafers a w) (is_typed clafers b w) (fits_truth (kind clafers a w)) (fits_truth (kind clafers b w)) f in
      let v = and_parts (is_looked_up clafers a w) (is_looked_up clafers b w) u in
      tests-light 2 a b w g st (omega arith) h.2 h.3 (light a w g st h.0 v.0) (light b w g st h.1 v.1)
  light (e.Or _ a b) w g st f u =
      let h = four (is_typed clafers a w) (is_typed clafers b w) (fits_truth (kind clafers a w)) (fits_truth (kind clafers b w)) f in
      let v = and_parts (is_looked_up clafers a w) (is_looked_up clafers b w) u in
      tests-light 2 a b w g st (omega arith) h.2 h.3 (light a w g st h.0 v.0) (light b w g st h.1 v.1)
  light (e.Xor _ a b) w g st f u =
      let h = four (is_typed clafers a w) (is_typed clafers b w) (fits_truth (kind clafers a w)) (fits_truth (kind clafers b w)) f in
      let v = and_parts (is_looked_up clafers a w) (is_looked_up clafers b w) u in
      tests-light 2 a b w g st (omega arith) h.2 h.3 (light a w g st h.0 v.0) (light b w g st h.1 v.1)
  light (e.Implies _ a b) w g st f u =
      let h = four (is_typed clafers a w) (is_typed clafers b w) (fits_truth (kind clafers a w)) (fits_truth (kind clafers b w)) f in
      let v = and_parts (is_looked_up clafers a w) (is_looked_up clafers b w) u in
      implied (heavy (as_test a w g)) (heavy (as_test b w g)) (test_weight a w) (test_weight b w) (light-test a w g st h.2 (light a w g st h.0 v.0)) (light-test b w g st h.3 (light b w g st h.1 v.1))
    where
      implied : (p q m n : ℕ) → p ≤ m → q ≤ n → 2 + (1 + p) + q ≤ 8 + m + n
      implied p q m n i j = omega (arith, i, j)
  light (e.Iff _ a b) w g st f u =
      let h = four (is_typed clafers a w) (is_typed clafers b w) (fits_truth (kind clafers a w)) (fits_truth (kind clafers b w)) f in
      let v = and_parts (is_looked_up clafers a w) (is_looked_up clafers b w) u in
      both (heavy (as_test a w g)) (heavy (as_test b w g)) (test_weight a w) (test_weight b w) (light-test a w g st h.2 (light a w g st h.0 v.0)) (light-test b w g st h.3 (light b w g st h.1 v.1))
    where
      both : (p q m n : ℕ) → p ≤ m → q ≤ n → 1 + (2 + p + q) ≤ 8 + m + n
      both p q m n i j = omega (arith, i, j)
  light (e.Card _ a) w g st f u =
      let h = and_parts (is_typed clafers a w) (fits_nodes (kind clafers a w)) f in count-light a w g st h.1 (light a w g st h.0 u)
  light (e.Sum _ a) w g st f u =
      let h = and_parts (is_typed clafers a w) (fits_sum clafers (kind clafers a w)) f in count-light a w g st (sum-nodes clafers (kind clafers a w) h.1) (light a w g st h.0 u)
  light (e.Neg at a) w g st f u =
      let h = and_parts (is_typed clafers a w) (fits_number clafers (kind clafers a w)) f in
      let width_of = bits clafers scopes (e.Neg at a) w in
      below-both (heavy (negated width_of (as_integer a w g))) (16 * (width_of + 1) + heavy (as_integer a w g)) (16 * (width_of + 1) + integer_weight a w) (negated-light scopes width_of (as_integer a w g))
      (one-part (16 * (width_of + 1)) (16 * (width_of + 1)) (heavy (as_integer a w g)) (integer_weight a w) (same_most (16 * (width_of + 1))) (light-number a w g st h.1 (light a w g st h.0 u)))
  light (e.Add at a b) w g st f u =
      let i = integers a b w f u in
      let width_of = bits clafers scopes (e.Add at a b) w in
      let own = 16 * (width_of + 1) in
      below-both (heavy (added width_of (as_integer a w g) (as_integer b w g))) (own + heavy (as_integer a w g) + heavy (as_integer b w g)) (own + integer_weight a w + integer_weight b w)
      (added-light scopes width_of (as_integer a w g) (as_integer b w g))
      (sums-light own own a b w g st (same_most own) i.fits_left i.fits_right (light a w g st i.typed_left i.left) (light b w g st i.typed_right i.right))
  light (e.Sub at a b) w g st f u =
      let i = integers a b w f u in
      let width_of = bits clafers scopes (e.Sub at a b) w in
      let opposite_width = width (negative (interval clafers scopes b w)) in
      let opposite = negated opposite_width (as_integer b w g) in
      let own = 16 * (width_of + bits clafers scopes b w + 3) in
      below-difference (heavy (added width_of (as_integer a w g) opposite)) (16 * (width_of + 1)) (heavy (as_integer a w g)) (heavy opposite) (16 * (opposite_width + 1)) (heavy (as_integer b w g))
      (own + integer_weight a w + integer_weight b w)
      (added-light scopes width_of (as_integer a w g) opposite) (negated-light scopes opposite_width (as_integer b w g))
      (difference-parts (16 * (width_of + 1)) (16 * (opposite_width + 1)) own (heavy (as_integer a w g)) (heavy (as_integer b w g)) (integer_weight a w) (integer_weight b w)
      (opposite-own width_of opposite_width (bits clafers scopes b w) (width_opposite (interval clafers scopes b w)))
      (light-number a w g st i.fits_left (light a w g st i.typed_left i.left)) (light-number b w g st i.fits_right (light b w g st i.typed_right i.right)))
  light (e.Mul at a b) w g st f u =
      let i = integers a b w f u in
      let width_of = bits clafers scopes (e.Mul at a b) w in
      let own = 16 * (width_of + 1) * (width_of + 1) in
      below-both (heavy (multiplied width_of (as_integer a w g) (as_integer b w g))) (own + heavy (as_integer a w g) + heavy (as_integer b w g)) (own + integer_weight a w + integer_weight b w)
      (multiplied-light scopes width_of (as_integer a w g) (as_integer b w g))
      (sums-light own own a b w g st (same_most own) i.fits_left i.fits_right (light a w g st i.typed_left i.left) (light b w g st i.typed_right i.right))
  light (e.Less _ a b) w g st f u =
      let i = integers a b w f u in
      less-by-one (heavy (c.Less (as_integer a w g) (as_integer b w g))) (16 * (bits clafers scopes a w + bits clafers scopes b w + 2) + integer_weight a w + integer_weight b w)
      (order-light a b w g st i.fits_left i.fits_right (light a w g st i.typed_left i.left) (light b w g st i.typed_right i.right))
  light (e.LessEqual _ a b) w g st f u =
      let i = integers a b w f u in turned-light a b w g st i.fits_left i.fits_right (light a w g st i.typed_left i.left) (light b w g st i.typed_right i.right)
  light (e.Greater _ a b) w g st f u =
      let i = integers a b w f u in
      less-by-one (heavy (c.Less (as_integer b w g) (as_integer a w g))) (16 * (bits clafers scopes a w + bits clafers scopes b w + 2) + integer_weight a w + integer_weight b w)
      (turned-light a b w g st i.fits_left i.fits_right (light a w g st i.typed_left i.left) (light b w g st i.typed_right i.right))
  light (e.GreaterEqual _ a b) w g st f u =
      let i = integers a b w f u in order-light a b w g st i.fits_left i.fits_right (light a w g st i.typed_left i.left) (light b w g st i.typed_right i.right)
  light (e.Equal _ a b) w g st f u =
      let k = kind clafers a w in
      let l = kind clafers b w in
      let h = three (is_typed clafers a w) (is_typed clafers b w) (fit_sides clafers k l) f in
      let v = and_parts (is_looked_up clafers a w) (is_looked_up clafers b w) u in
      same-light (reading_of clafers k l) a b w g (side a w g st (light a w g st h.0 v.0)) (side b w g st (light b w g st h.1 v.1)) refl h.2
  light (e.In _ a b) w g st f u =
      let k = kind clafers a w in
      let l = kind clafers b w in
      let h = three (is_typed clafers a w) (is_typed clafers b w) (fit_sides clafers k l) f in
      let v = and_parts (is_looked_up clafers a w) (is_looked_up clafers b w) u in
      part-light (reading_of clafers k l) a b w g (same-light (reading_of clafers k l) a b w g (side a w g st (light a w g st h.0 v.0)) (side b w g st (light b w g st h.1 v.1)) refl h.2)
  light (e.Some _ a) w g st f u =
      let h = and_parts (is_typed clafers a w) (fits_nodes (kind clafers a w)) f in few-light a w g st h.1 (light a w g st h.0 u)
  light (e.No _ a) w g st f u =
      let h = and_parts (is_typed clafers a w) (fits_nodes (kind clafers a w)) f in few-light a w g st h.1 (light a w g st h.0 u)
  light (e.One _ a) w g st f u =
      let h = and_parts (is_typed clafers a w) (fits_nodes (kind clafers a w)) f in few-light a w g st h.1 (light a w g st h.0 u)
  light (e.Lone _ a) w g st f u =
      let h = and_parts (is_typed clafers a w) (fits_nodes (kind clafers a w)) f in few-light a w g st h.1 (light a w g st h.0 u)
  light (e.Quant _ v disj names over body) w g st f u =
      let inner = bind_kinds (clafers_of (kind clafers over w)) (length names) w in
      let lists = g ++ replicate (length names) (clafers_in (sort (lowered clafers scopes over w g))) in
      let h = four (is_typed clafers over w) (fits_nodes (kind clafers over w)) (is_typed clafers body inner) (fits_truth (kind clafers body inner)) f in
      let i = and_parts (is_quantifier clafers v && are_names names && each_two differ names && is_looked_up clafers over w) (is_looked_up clafers body inner) u in
      let j = four (is_quantifier clafers v) (are_names names) (each_two differ names) (is_looked_up clafers over w) i.0 in
      let in_body = within-stands clafers scopes closed once inherited intervals_hold over w g (length names) st h.1 in
      quant-light v disj (length names) (lowered clafers scopes over w g) (as_test body inner lists) (most clafers scopes (kind clafers over w)) (weight clafers scopes over w) (test_weight body inner) j.0
      (nodes-most over w g st h.1) (light over w g st h.0 j.3) (light-test body inner lists in_body h.3 (light body inner lists in_body h.2 i.1))
