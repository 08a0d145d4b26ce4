-- A relational expression is of the sort of the kind of its expression.
use Rattle.std.proofs.Common.{◌≡◌, ℕ, Bool, true, false, cond, List, [], ◌∷◌, ◌++◌, length, replicate, Option, Some, None, refl, ap}
use Rattle.std.specs.Option.{option_map}
use Rattle.clf_tree.specs.declared.token.Word.{Word}
use Rattle.clf_tree.specs.declared.token.Word.TheVariants as word
use Rattle.clf_tree.specs.declared.model.Clafer.{Clafer}
use Rattle.clf_tree.specs.declared.scopes.Scopes.{Scopes}
use Rattle.clf_tree.specs.declared.bounds.Bounds.{Bounds}
use Rattle.clf_tree.specs.declared.kind.Within.{Within}
use Rattle.clf_tree.specs.declared.kind.Kind.{Kind}
use Rattle.clf_tree.specs.declared.kind.Kind.TheVariants as kinds
use Rattle.clf_tree.specs.declared.kind.Reading.{Reading}
use Rattle.clf_tree.specs.declared.kind.Reading.TheVariants.{ByValues, ByNodes}
use Rattle.clf_tree.specs.Tree as e
use Rattle.clf_tree.specs.Tree.{Tree}
use Rattle.clf_tree.specs.Lists.{from_end}
use Rattle.clf_tree.specs.Hierarchy.{refer_to_int, targets_of, share}
use Rattle.clf_tree.specs.Kinds.{kind, clafers_of, bind_kinds, parent_kind, parents_of, dref_kind, union_kind, left_kind, compared_kind, reading, reading_of}
use Rattle.clf_tree.specs.Intervals.{interval}
use Rattle.clf_tree.specs.Core.{Core}
use Rattle.clf_tree.specs.CoreSoundness.{Sort, Nodes, sort, is_set, is_number, is_test, clafers_in}
use Rattle.clf_tree.specs.Widths.{width}
use Rattle.relational_core.specs.Lowered.{dref, same, part, choice, quant, negative, as_truth, as_number, negated, lowered}
use Rattle.relational_core.proofs.Constants.{negated-sort, added-sort, multiplied-sort}

abbrev pub sort_fits : Option Kind → Sort → Bool
sort_fits (Some kinds.Truth) s = is_test s
sort_fits (Some kinds.Integer) s = is_number s
sort_fits (Some (kinds.Nodes ks)) s = is_set s
sort_fits (Some (kinds.Numbers ks)) s = is_set s
sort_fits None s = true

set-option : {X : Type 0} (f : X → List ℕ) (o : Option X) (ls : List ℕ) → sort_fits (option_map (λ x. kinds.Nodes (f x)) o) (Nodes ls) ≡ true
set-option f None ls = refl
set-option f (Some x) ls = refl

set-parents : (ps ls : List ℕ) → sort_fits (parent_kind ps) (Nodes ls) ≡ true
set-parents [] ls = refl
set-parents (p ∷ ps) ls = refl

set-union : (k l : Option Kind) (ls : List ℕ) → sort_fits (union_kind k l) (Nodes ls) ≡ true
set-union (Some (kinds.Nodes ks)) (Some (kinds.Nodes ms)) ls = refl
set-union (Some (kinds.Nodes ks)) None ls = refl
set-union (Some (kinds.Nodes ks)) (Some kinds.Truth) ls = refl
set-union (Some (kinds.Nodes ks)) (Some kinds.Integer) ls = refl
set-union (Some (kinds.Nodes ks)) (Some (kinds.Numbers ms)) ls = refl
set-union None l ls = refl
set-union (Some kinds.Truth) l ls = refl
set-union (Some kinds.Integer) l ls = refl
set-union (Some (kinds.Numbers ks)) l ls = refl

set-pick : (b : Bool) (ks ls : List ℕ) → sort_fits (cond b (Some (kinds.Nodes ks)) None) (Nodes ls) ≡ true
set-pick true ks ls = refl
set-pick false ks ls = refl

set-left : (clafers : List Clafer) (k l : Option Kind) (ls : List ℕ) → sort_fits (left_kind clafers k l) (Nodes ls) ≡ true
set-left clafers (Some (kinds.Nodes ks)) (Some (kinds.Nodes ms)) ls = set-pick (share clafers ks ms) ks ls
set-left clafers (Some (kinds.Nodes ks)) None ls = refl
set-left clafers (Some (kinds.Nodes ks)) (Some kinds.Truth) ls = refl
set-left clafers (Some (kinds.Nodes ks)) (Some kinds.Integer) ls = refl
set-left clafers (Some (kinds.Nodes ks)) (Some (kinds.Numbers ms)) ls = refl
set-left clafers None l ls = refl
set-left clafers (Some kinds.Truth) l ls = refl
set-left clafers (Some kinds.Integer) l ls = refl
set-left clafers (Some (kinds.Numbers ks)) l ls = refl

test-option : (o : Option Reading) (s : Sort) → is_test s ≡ true → sort_fits (option_map (λ r. kinds.Truth) o) s ≡ true
test-option None s h = refl
test-option (Some r) s h = h

test-compared : (clafers : List Clafer) (k l : Option Kind) (s : Sort) → is_test s ≡ true → sort_fits (compared_kind clafers k l) s ≡ true
test-compared clafers (Some (kinds.Nodes ks)) (Some (kinds.Nodes ms)) s h = test-option (reading clafers (kinds.Nodes ks) (kinds.Nodes ms)) s h
test-compared clafers (Some (kinds.Nodes ks)) None s h = h
test-compared clafers (Some (kinds.Nodes ks)) (Some kinds.Truth) s h = h
test-compared clafers (Some (kinds.Nodes ks)) (Some kinds.Integer) s h = h
test-compared clafers (Some (kinds.Nodes ks)) (Some (kinds.Numbers ms)) s h = h
test-compared clafers None l s h = h
test-compared clafers (Some kinds.Truth) l s h = h
test-compared clafers (Some kinds.Integer) l s h = h
test-compared clafers (Some (kinds.Numbers ks)) l s h = h

module _ (clafers : List Clafer) (scopes : Scopes) where
  dref-pick : (b : Bool) (ks : List ℕ) (o : Option (List ℕ)) (a : Core) → is_set (sort a) ≡ true
      → sort_fits (cond b (Some (kinds.Numbers ks)) (option_map (λ ts. kinds.Nodes ts) o)) (sort (dref clafers scopes (cond b (Some (kinds.Numbers ks)) (option_map (λ ts. kinds.Nodes ts) o)) a)) ≡ true
  dref-pick true ks o a h = h
  dref-pick false ks None a h = refl
  dref-pick false ks (Some ts) a h = refl

  dref-sort : (k : Option Kind) (a : Core) → sort_fits k (sort a) ≡ true → sort_fits (dref_kind clafers k) (sort (dref clafers scopes (dref_kind clafers k) a)) ≡ true
  dref-sort (Some (kinds.Nodes ks)) a h = dref-pick (refer_to_int clafers ks) ks (targets_of clafers ks) a h
  dref-sort None a h = refl
  dref-sort (Some kinds.Truth) a h = refl
  dref-sort (Some kinds.Integer) a h = refl
  dref-sort (Some (kinds.Numbers ks)) a h = refl

  same-sort : (r : Option Reading) (a b : Core) → is_test (sort (same clafers scopes r a b)) ≡ true
  same-sort None a b = refl
  same-sort (Some ByValues) a b = refl
  same-sort (Some (ByNodes left right)) a b = refl

  part-sort : (r : Option Reading) (a b : Core) → is_test (sort (part clafers scopes r a b)) ≡ true
  part-sort None a b = refl
  part-sort (Some ByValues) a b = refl
  part-sort (Some (ByNodes left right)) a b = refl

  choice-sort : (kind k l : Option Kind) (z x y : Bounds) (t a b : Core) → sort_fits kind (sort (choice clafers scopes kind z k l x y t a b)) ≡ true
  choice-sort (Some kinds.Truth) k l z x y t a b = refl
  choice-sort (Some kinds.Integer) k l z x y t a b = refl
  choice-sort None k l z x y t a b = refl
  choice-sort (Some (kinds.Nodes ks)) k l z x y t a b = refl
  choice-sort (Some (kinds.Numbers ks)) k l z x y t a b = refl

  quant-sort : (w : Word) (disj : Bool) (n : ℕ) (over body : Core) → is_test (sort (quant w disj n over body)) ≡ true
  quant-sort word.All disj n over body = refl
  quant-sort word.Some disj n over body = refl
  quant-sort word.No disj n over body = refl
  quant-sort word.One disj n over body = refl
  quant-sort word.Lone disj n over body = refl
  quant-sort _ disj n over body = refl

  abbrev as_integer : Tree → Within → List (List ℕ) → Core
  as_integer t w g = as_number (kind clafers t w) (interval clafers scopes t w) (lowered clafers scopes t w g)

  pub sorted_core : (t : Tree) (w : Within) (g : List (List ℕ)) → sort_fits (kind clafers t w) (sort (lowered clafers scopes t w g)) ≡ true
  sorted_core (e.This at) w g = set-option (λ c. c ∷ []) w.this (clafers_in (sort (lowered clafers scopes (e.This at) w g)))
  sorted_core (e.Variable at i) w g = set-option (λ ks. ks) (from_end w.bound i) (clafers_in (sort (lowered clafers scopes (e.Variable at i) w g)))
  sorted_core (e.Parent at a) w g = set-parents (parents_of clafers (clafers_of (kind clafers a w))) (clafers_in (sort (lowered clafers scopes (e.Parent at a) w g)))
  sorted_core (e.Dref _ a) w g = dref-sort (kind clafers a w) (lowered clafers scopes a w g) (sorted_core a w g)
  sorted_core (e.Union at a b) w g = set-union (kind clafers a w) (kind clafers b w) (clafers_in (sort (lowered clafers scopes (e.Union at a b) w g)))
  sorted_core (e.Minus at a b) w g = set-left clafers (kind clafers a w) (kind clafers b w) (clafers_in (sort (lowered clafers scopes (e.Minus at a b) w g)))
  sorted_core (e.Meet at a b) w g = set-left clafers (kind clafers a w) (kind clafers b w) (clafers_in (sort (lowered clafers scopes (e.Meet at a b) w g)))
  sorted_core (e.If at t a b) w g =
      choice-sort (kind clafers (e.If at t a b) w) (kind clafers a w) (kind clafers b w) (interval clafers scopes (e.If at t a b) w) (interval clafers scopes a w) (interval clafers scopes b w)
      (as_truth (kind clafers t w) (lowered clafers scopes t w g)) (lowered clafers scopes a w g) (lowered clafers scopes b w g)
  sorted_core (e.Equal at a b) w g =
      test-compared clafers (kind clafers a w) (kind clafers b w) (sort (lowered clafers scopes (e.Equal at a b) w g))
      (same-sort (reading_of clafers (kind clafers a w) (kind clafers b w)) (lowered clafers scopes a w g) (lowered clafers scopes b w g))
  sorted_core (e.In at a b) w g =
      test-compared clafers (kind clafers a w) (kind clafers b w) (sort (lowered clafers scopes (e.In at a b) w g))
      (part-sort (reading_of clafers (kind clafers a w) (kind clafers b w)) (lowered clafers scopes a w g) (lowered clafers scopes b w g))
  sorted_core (e.Quant _ word disj names over body) w g =
      quant-sort word disj (length names) (lowered clafers scopes over w g)
      (as_truth (kind clafers body (bind_kinds (clafers_of (kind clafers over w)) (length names) w))
      (lowered clafers scopes body (bind_kinds (clafers_of (kind clafers over w)) (length names) w) (g ++ replicate (length names) (clafers_in (sort (lowered clafers scopes over w g))))))
  sorted_core (e.Neg at a) w g = ap is_number (negated-sort (width (interval clafers scopes (e.Neg at a) w)) (as_integer a w g))
  sorted_core (e.Add at a b) w g = ap is_number (added-sort (width (interval clafers scopes (e.Add at a b) w)) (as_integer a w g) (as_integer b w g))
  sorted_core (e.Sub at a b) w g =
      ap is_number (added-sort (width (interval clafers scopes (e.Sub at a b) w)) (as_integer a w g) (negated (width (negative (interval clafers scopes b w))) (as_integer b w g)))
  sorted_core (e.Mul at a b) w g = ap is_number (multiplied-sort (width (interval clafers scopes (e.Mul at a b) w)) (as_integer a w g) (as_integer b w g))
  sorted_core _ w g = refl
