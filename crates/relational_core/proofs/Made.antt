-- The clafers of a relational expression are concrete and ascending.
use Rattle.std.proofs.Common.{◌≡◌, ℕ, zero, suc, Bool, true, ◌&&◌, ◌||◌, List, [], ◌∷◌, ◌++◌, length, reverse, replicate, Option, Some, None, refl, ap, ◌∙◌}
use Rattle.std.specs.Prelude.{slice_get, nat_lt}
use Rattle.std.specs.Option.{option_map_or}
use Rattle.std.specs.List.{list_all, list_any}
use Rattle.std.proofs.lemmas.List.{reverse-append}
use Rattle.std.proofs.lemmas.List.Folds.{list_all-append}
use Rattle.clf_tree.specs.declared.token.Word.{Word}
use Rattle.clf_tree.specs.declared.token.Word.TheVariants as word
use Rattle.clf_tree.specs.declared.model.Clafer.{Clafer}
use Rattle.clf_tree.specs.declared.scopes.Scopes.{Scopes}
use Rattle.clf_tree.specs.declared.bounds.Bounds.{Bounds}
use Rattle.clf_tree.specs.declared.kind.Within.{Within}
use Rattle.clf_tree.specs.declared.kind.Kind.{Kind}
use Rattle.clf_tree.specs.declared.kind.Kind.TheVariants as kinds
use Rattle.clf_tree.specs.declared.kind.Reading.{Reading}
use Rattle.clf_tree.specs.declared.kind.Reading.TheVariants.{ByValues, ByNodes}
use Rattle.clf_tree.specs.Tree as e
use Rattle.clf_tree.specs.Tree.{Tree}
use Rattle.clf_tree.specs.Lists.{from_end, each_two, has}
use Rattle.clf_tree.specs.Hierarchy.{is_concrete, is_one_of}
use Rattle.clf_tree.specs.Kinds.{kind, clafers_of, bind_kinds, reading_of}
use Rattle.clf_tree.specs.Widths.{width}
use Rattle.clf_tree.specs.Intervals.{interval}
use Rattle.clf_tree.specs.Core.{Core}
use Rattle.clf_tree.specs.CoreSoundness.{Number, sort, clafers_in}
use Rattle.relational_core.specs.Lowered.{possible, can_hold, can_reach, dref, through, same, part, choice, quant, negative, as_truth, as_number, negated, added, multiplied, lowered}
use Rattle.relational_core.proofs.Constants.{negated-sort, added-sort, multiplied-sort}
use Rattle.relational_core.proofs.Passing.{and_parts, and_all}
use Rattle.relational_core.proofs.Possible.{concrete-possible, ascending-possible}

pub all-get : {X : Type 0} (p : X → Bool) (xs : List X) (i : ℕ) (y : X) → list_all p xs ≡ true → slice_get xs i ≡ Some y → p y ≡ true
all-get p [] i y h e = absurd (none_some e)
  where
    none_some : None ≡ Some y → ⊥
    none_some k = (cc)
all-get p (x ∷ xs) zero y h e = ap p (some_same e) ∙ (and_parts (p x) (list_all p xs) h).0
  where
    some_same : Some x ≡ Some y → y ≡ x
    some_same k = (cc)
all-get p (x ∷ xs) (suc i) y h e = all-get p xs i y (and_parts (p x) (list_all p xs) h).1 e

pub all-reverse : {X : Type 0} (p : X → Bool) (xs : List X) → list_all p xs ≡ true → list_all p (reverse xs) ≡ true
all-reverse p [] h = refl
all-reverse p (x ∷ xs) h =
    let j = and_parts (p x) (list_all p xs) h in
    ap (list_all p) (reverse-append (x ∷ []) xs) ∙ list_all-append p (reverse xs) (x ∷ [])
    ∙ and_all (list_all p (reverse xs)) (p x && true) (all-reverse p xs j.1) (and_all (p x) true j.0 refl)

module _ (clafers : List Clafer) (scopes : Scopes) where
  abbrev pub is_made : List ℕ → Bool
  is_made ks = list_all (is_concrete clafers) ks && each_two nat_lt ks

  pub possible-made : (test : ℕ → Bool) → is_made (possible clafers scopes test) ≡ true
  possible-made test =
      and_all (list_all (is_concrete clafers) (possible clafers scopes test)) (each_two nat_lt (possible clafers scopes test)) (concrete-possible clafers scopes test) (ascending-possible clafers scopes test)

  abbrev pub IsMade : Core → Type 0
  IsMade a = is_made (clafers_in (sort a)) ≡ true

  bound-made : (g : List (List ℕ)) (i : ℕ) (o : Option (List ℕ)) → list_all is_made g ≡ true → from_end g i ≡ o → is_made (option_map_or (λ ks. ks) o []) ≡ true
  bound-made g i None all e = refl
  bound-made g i (Some ks) all e = all-get is_made (reverse g) i ks (all-reverse is_made g all) e

  reached-made : (ls : List ℕ) → is_made (possible clafers scopes (λ d. list_any (λ x. can_reach clafers x d) ls)) ≡ true
  reached-made ls = possible-made (λ d. list_any (λ x. can_reach clafers x d) ls)

  dref-made : (k : Option Kind) (a : Core) → IsMade a → IsMade (dref clafers scopes k a)
  dref-made None a h = reached-made (clafers_in (sort a))
  dref-made (Some kinds.Truth) a h = reached-made (clafers_in (sort a))
  dref-made (Some kinds.Integer) a h = reached-made (clafers_in (sort a))
  dref-made (Some (kinds.Nodes ks)) a h = reached-made (clafers_in (sort a))
  dref-made (Some (kinds.Numbers ks)) a h = h

  same-made : (r : Option Reading) (a b : Core) → IsMade (same clafers scopes r a b)
  same-made None a b = refl
  same-made (Some ByValues) a b = refl
  same-made (Some (ByNodes left right)) a b = refl

  part-made : (r : Option Reading) (a b : Core) → IsMade (part clafers scopes r a b)
  part-made None a b = refl
  part-made (Some ByValues) a b = refl
  part-made (Some (ByNodes left right)) a b = refl

  quant-made : (w : Word) (disj : Bool) (n : ℕ) (over body : Core) → IsMade (quant w disj n over body)
  quant-made word.All disj n over body = refl
  quant-made word.Some disj n over body = refl
  quant-made word.No disj n over body = refl
  quant-made word.One disj n over body = refl
  quant-made word.Lone disj n over body = refl
  quant-made _ disj n over body = refl

  either-made : (ks ls : List ℕ) → is_made (possible clafers scopes (λ d. has ks d || has ls d)) ≡ true
  either-made ks ls = possible-made (λ d. has ks d || has ls d)

  choice-made : (kind k l : Option Kind) (z x y : Bounds) (t a b : Core) → IsMade (choice clafers scopes kind z k l x y t a b)
  choice-made (Some kinds.Truth) k l z x y t a b = refl
  choice-made (Some kinds.Integer) k l z x y t a b = refl
  choice-made None k l z x y t a b = either-made (clafers_in (sort a)) (clafers_in (sort b))
  choice-made (Some (kinds.Nodes ks)) k l z x y t a b = either-made (clafers_in (sort a)) (clafers_in (sort b))
  choice-made (Some (kinds.Numbers ks)) k l z x y t a b = either-made (clafers_in (sort a)) (clafers_in (sort b))

  number-made : (w : ℕ) (a : Core) → sort a ≡ Number w → IsMade a
  number-made w a h = ap (λ s. is_made (clafers_in s)) h

  abbrev as_integer : Tree → Within → List (List ℕ) → Core
  as_integer t w g = as_number (kind clafers t w) (interval clafers scopes t w) (lowered clafers scopes t w g)

  pub made : (t : Tree) (w : Within) (g : List (List ℕ)) → list_all is_made g ≡ true → IsMade (lowered clafers scopes t w g)
  made (e.This _) w g all = bound-made g (length w.bound) (from_end g (length w.bound)) all refl
  made (e.Variable _ i) w g all = bound-made g i (from_end g i) all refl
  made (e.Clafer _ k) w g all = possible-made (is_one_of clafers (k ∷ []))
  made (e.Name _ _) w g all = possible-made (is_one_of clafers [])
  made (e.Join _ _ _) w g all = possible-made (is_one_of clafers [])
  made (e.Step _ of into follow) w g all =
      possible-made (λ d. is_one_of clafers into d && list_any (λ p. can_hold clafers p d) (clafers_in (sort (through clafers scopes follow (lowered clafers scopes of w g)))))
  made (e.Parent _ a) w g all = possible-made (λ d. list_any (can_hold clafers d) (clafers_in (sort (lowered clafers scopes a w g))))
  made (e.Dref at a) w g all = dref-made (kind clafers (e.Dref at a) w) (lowered clafers scopes a w g) (made a w g all)
  made (e.Union _ a b) w g all = either-made (clafers_in (sort (lowered clafers scopes a w g))) (clafers_in (sort (lowered clafers scopes b w g)))
  made (e.Minus _ a b) w g all = made a w g all
  made (e.Meet _ a b) w g all =
      possible-made (λ d. has (clafers_in (sort (lowered clafers scopes a w g))) d && has (clafers_in (sort (lowered clafers scopes b w g))) d)
  made (e.If at t a b) w g all =
      choice-made (kind clafers (e.If at t a b) w) (kind clafers a w) (kind clafers b w) (interval clafers scopes (e.If at t a b) w) (interval clafers scopes a w) (interval clafers scopes b w)
      (as_truth (kind clafers t w) (lowered clafers scopes t w g)) (lowered clafers scopes a w g) (lowered clafers scopes b w g)
  made (e.Equal _ a b) w g all = same-made (reading_of clafers (kind clafers a w) (kind clafers b w)) (lowered clafers scopes a w g) (lowered clafers scopes b w g)
  made (e.In _ a b) w g all = part-made (reading_of clafers (kind clafers a w) (kind clafers b w)) (lowered clafers scopes a w g) (lowered clafers scopes b w g)
  made (e.Quant _ word disj names over body) w g all =
      quant-made word disj (length names) (lowered clafers scopes over w g)
      (as_truth (kind clafers body (bind_kinds (clafers_of (kind clafers over w)) (length names) w))
      (lowered clafers scopes body (bind_kinds (clafers_of (kind clafers over w)) (length names) w) (g ++ replicate (length names) (clafers_in (sort (lowered clafers scopes over w g))))))
  made (e.Neg at a) w g all =
      let bits = width (interval clafers scopes (e.Neg at a) w) in number-made bits (negated bits (as_integer a w g)) (negated-sort bits (as_integer a w g))
  made (e.Add at a b) w g all =
      let bits = width (interval clafers scopes (e.Add at a b) w) in number-made bits (added bits (as_integer a w g) (as_integer b w g)) (added-sort bits (as_integer a w g) (as_integer b w g))
  made (e.Sub at a b) w g all =
      let bits = width (interval clafers scopes (e.Sub at a b) w) in
      let opposite = negated (width (negative (interval clafers scopes b w))) (as_integer b w g) in
      number-made bits (added bits (as_integer a w g) opposite) (added-sort bits (as_integer a w g) opposite)
  made (e.Mul at a b) w g all =
      let bits = width (interval clafers scopes (e.Mul at a b) w) in
      number-made bits (multiplied bits (as_integer a w g) (as_integer b w g)) (multiplied-sort bits (as_integer a w g) (as_integer b w g))
  made _ w g all = refl
