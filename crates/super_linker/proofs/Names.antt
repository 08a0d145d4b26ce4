-- The table of names, and lists that are taken item by item.
use Rattle.std.proofs.Common.{◌≡◌, ℕ, zero, suc, ◌+◌, ◌<◌, Bool, true, false, ◌&&◌, List, [], ◌∷◌, ◌++◌, map, length, take, drop, Option, Some, None, refl, ap, sym, ◌∙◌, subst, arith, cond}
use Rattle.std.specs.Prelude.{slice_get, bytes_eq, is_some, is_none}
use Rattle.std.specs.Option.{option_map, option_and_then}
use Rattle.std.specs.List.{position_from}
use Rattle.std.specs.Cmp.Lexicographic.{nat_list_eq_equiv}
use Rattle.std.proofs.lemmas.List.{map_push}
use Rattle.clf_tree.specs.declared.token.Title.{Title}
use Rattle.clf_tree.specs.declared.model.Clafer.{Clafer}
use Rattle.clf_tree.specs.declared.plain.PlainClafer.{PlainClafer}
use Rattle.clf_tree.specs.Hierarchy.{is_below}
use Rattle.super_linker.specs.Supers.{parents_first, is_super_named, super_number, with_super, linked_clafer}

record Cut {X : Type 0} (xs : List X) (i : ℕ) (x : X) : Type 0 where
  left : drop i xs ≡ x ∷ drop (suc i) xs
  done : take (suc i) xs ≡ take i xs ++ x ∷ []

cut : {X : Type 0} (xs : List X) (i : ℕ) (x : X) → slice_get xs i ≡ Some x → Cut xs i x
cut [] i x e = (cc)
cut (y ∷ xs) zero x e = let same : y ≡ x = (cc) in record { left = ap (λ z. z ∷ xs) same; done = ap (λ z. z ∷ []) same }
cut (y ∷ xs) (suc i) x e = let rest = cut xs i x e in record { left = rest.left; done = ap (λ ys. y ∷ ys) rest.done }

pub left_from : {X : Type 0} (xs : List X) (i : ℕ) (x : X) → slice_get xs i ≡ Some x → drop i xs ≡ x ∷ drop (i + 1) xs
left_from xs i x e = let next : suc i ≡ i + 1 = omega arith in subst (λ (j : ℕ). drop i xs ≡ x ∷ drop j xs) next (cut xs i x e).left

pub done_to : {X : Type 0} (xs : List X) (i : ℕ) (x : X) → slice_get xs i ≡ Some x → take (i + 1) xs ≡ take i xs ++ x ∷ []
done_to xs i x e = let next : suc i ≡ i + 1 = omega arith in subst (λ (j : ℕ). take j xs ≡ take i xs ++ x ∷ []) next (cut xs i x e).done

-- one more clafer from the end is in the table
pub entered : (ks : List PlainClafer) (i : ℕ) (k : PlainClafer) (old new : List ℕ → Option ℕ) → slice_get ks i ≡ Some k
    → ((n : List ℕ) → old n ≡ position_from (is_super_named n) (i + 1) (drop (i + 1) ks))
    → ((n : List ℕ) → new n ≡ cond (is_super_named n k) (Some i) (old n))
    → (n : List ℕ) → new n ≡ position_from (is_super_named n) i (drop i ks)
entered ks i k old new e before more n =
    more n ∙ ap (λ r. cond (is_super_named n k) (Some i) r) (before n) ∙ ap (position_from (is_super_named n) i) (sym (left_from ks i k e))

-- the test with the names the other way round
pub flipped : (k : PlainClafer) (n name : List ℕ) (new old : Option ℕ) (i : ℕ) → k.is_abstract ≡ true → is_none k.parent ≡ true → name ≡ k.title.name → new ≡ cond (bytes_eq name n) (Some i) old
    → new ≡ cond (is_super_named n k) (Some i) old
flipped k n name new old i abstract top called e =
    let test : bytes_eq name n ≡ is_super_named n k =
    ap (λ m. bytes_eq m n) called ∙ nat_list_eq_equiv.symm k.title.name n ∙ ap (λ b. b && bytes_eq n k.title.name) (sym top) ∙ ap (λ b. b && (is_none k.parent && bytes_eq n k.title.name)) (sym abstract) in
    e ∙ ap (λ b. cond b (Some i) old) test

-- a found number is that of an abstract clafer at top level
pub record FoundAt (name : List ℕ) (b : ℕ) (ks : List PlainClafer) (s : ℕ) : Type 0 where
  pub index : ℕ
  pub clafer : PlainClafer
  pub number : s ≡ b + index
  pub within : index < length ks
  pub at : slice_get ks index ≡ Some clafer
  pub is : is_super_named name clafer ≡ true

found_by : (name : List ℕ) (b s : ℕ) (k : PlainClafer) (ks : List PlainClafer) (t : Bool) → is_super_named name k ≡ t
    → (position_from (is_super_named name) (b + 1) ks ≡ Some s → FoundAt name (b + 1) ks s) → cond t (Some b) (position_from (is_super_named name) (b + 1) ks) ≡ Some s → FoundAt name b (k ∷ ks) s
found_by name b s k ks true is rest e =
    let same : b ≡ s = (cc) in record { index = 0; clafer = k; number = omega (arith, same); within = omega arith; at = refl; is = is }
found_by name b s k ks false is rest e =
    let r = rest e in
    let number = r.number in
    let within = r.within in
    record { index = suc r.index; clafer = r.clafer; number = omega (arith, number); within = omega (arith, within); at = r.at; is = r.is }

pub found_at : (name : List ℕ) (b s : ℕ) (ks : List PlainClafer) → position_from (is_super_named name) b ks ≡ Some s → FoundAt name b ks s
found_at name b s [] e = (cc)
found_at name b s (k ∷ ks) e = found_by name b s k ks (is_super_named name k) refl (found_at name (b + 1) s ks) e

pub get-map : {X Y : Type 0} (f : X → Y) (xs : List X) (i : ℕ) → slice_get (map f xs) i ≡ option_map f (slice_get xs i)
get-map f [] i = refl
get-map f (x ∷ xs) zero = refl
get-map f (x ∷ xs) (suc i) = get-map f xs i

pub at_top : (parent : Option ℕ) → is_some parent ≡ false → is_none parent ≡ true
at_top None e = refl
at_top (Some p) e = (cc)

looked_up : (ks : List PlainClafer) (find : List ℕ → Option ℕ) (above : Option Title) → ((n : List ℕ) → find n ≡ super_number ks n)
    → option_and_then (λ t. find t.name) above ≡ option_and_then (λ t. super_number ks t.name) above
looked_up ks find None finds = refl
looked_up ks find (Some t) finds = finds t.name

-- one more clafer is linked
pub linked_more : (ks : List PlainClafer) (i : ℕ) (k : PlainClafer) (made new : List Clafer) (x : Clafer) (above : Option ℕ) (find : List ℕ → Option ℕ) → slice_get ks i ≡ Some k
    → ((n : List ℕ) → find n ≡ super_number ks n) → above ≡ option_and_then (λ t. find t.name) k.above → x ≡ with_super above k
    → made ≡ map (linked_clafer ks) (take i ks) → new ≡ made ++ x ∷ [] → new ≡ map (linked_clafer ks) (take (i + 1) ks)
linked_more ks i k made new x above find at finds up is before pushed =
    let one : x ≡ linked_clafer ks k = is ∙ ap (λ a. with_super a k) (up ∙ looked_up ks find k.above finds) in
    pushed ∙ ap (λ cs. cs ++ x ∷ []) before ∙ ap (λ z. map (linked_clafer ks) (take i ks) ++ z ∷ []) one
    ∙ sym (map_push (linked_clafer ks) (take i ks) k) ∙ ap (map (linked_clafer ks)) (sym (done_to ks i k at))

-- whether parents stand first is decided by what is left
pub parents_left : (ks : List PlainClafer) (i : ℕ) (k : PlainClafer) → slice_get ks i ≡ Some k → is_below i k.parent ≡ true → (parents_first i (drop i ks) ≡ true → parents_first 0 ks ≡ true)
    → parents_first (i + 1) (drop (i + 1) ks) ≡ true → parents_first 0 ks ≡ true
parents_left ks i k e below before rest = before (ap (parents_first i) (left_from ks i k e) ∙ ap (λ b. b && parents_first (i + 1) (drop (i + 1) ks)) below ∙ rest)
