-- The names of inherited children, by the clafers above the parent.
use Rattle.std.proofs.Common.{◌≡◌, ℕ, zero, suc, ◌+◌, Bool, true, false, ◌&&◌, ◌||◌, List, [], ◌∷◌, ◌++◌, length, take, cond, Option, Some, None, refl, ap, sym, ◌∙◌, subst, arith}
use Rattle.std.specs.Prelude.{slice_get, eqb, nat_eq, bytes_eq}
use Rattle.std.specs.Option.{option_map_or, option_and_then, option_eq}
use Rattle.std.specs.List.{list_any}
use Rattle.std.specs.Cmp.{nat_eq_equiv}
use Rattle.std.specs.Cmp.Lexicographic.{options_equiv, nat_list_eq_equiv}
use Rattle.std.proofs.lemmas.Bool.{true≢false, and_parts, and_from, and_right, eqb-true, eq-eqb}
use Rattle.std.proofs.lemmas.List.Folds.{list_any-append}
use Rattle.clf_tree.specs.declared.model.Clafer.{Clafer}
use Rattle.clf_tree.specs.Lists.{numbers_below}
use Rattle.clf_tree.specs.Hierarchy.{super_of, parent_of, with_supers, is_a}
use Rattle.clf_tree.specs.Named.{have_one_name, stands_beside_inherited, repeats_inherited}
use Rattle.family_checks.specs.Families.{stands_at}
use Rattle.family_checks.proofs.Numbers.{any-some}
use Rattle.family_checks.proofs.Found.{any_at, any_from, any_same, has_at, same_tests, got_below}

-- ---- one more name is in the set

done_suc : {X : Type 0} (xs : List X) (i : ℕ) (x : X) → slice_get xs i ≡ Some x → take (suc i) xs ≡ take i xs ++ x ∷ []
done_suc [] i x e = (cc)
done_suc (y ∷ xs) zero x e = let same : y ≡ x = (cc) in ap (λ z. z ∷ []) same
done_suc (y ∷ xs) (suc i) x e = ap (λ ys. y ∷ ys) (done_suc xs i x e)

one_more : (a b : Bool) → cond a true b ≡ (b || (a || false))
one_more true true = refl
one_more true false = refl
one_more false true = refl
one_more false false = refl

pub name_known : (cs : List Clafer) (i : ℕ) (k : Clafer) (name : List ℕ) → slice_get cs i ≡ Some k → name ≡ k.title.name → (old new : Option ℕ → List ℕ → Bool)
    → ((p : Option ℕ) (n : List ℕ) → old p n ≡ list_any (stands_at p n) (take i cs))
    → ((p : Option ℕ) (n : List ℕ) → new p n ≡ cond (option_eq nat_eq k.parent p && bytes_eq name n) true (old p n))
    → (p : Option ℕ) (n : List ℕ) → new p n ≡ list_any (stands_at p n) (take (i + 1) cs)
name_known cs i k name e called old new before more p n =
    let flip : (option_eq nat_eq k.parent p && bytes_eq name n) ≡ stands_at p n k =
    ap (λ (m : List ℕ). option_eq nat_eq k.parent p && bytes_eq m n) called
    ∙ ap (λ b. b && bytes_eq k.title.name n) ((options_equiv nat_eq_equiv).symm k.parent p) ∙ ap (λ b. option_eq nat_eq p k.parent && b) (nat_list_eq_equiv.symm k.title.name n) in
    let next : suc i ≡ i + 1 = omega arith in
    subst (λ (j : ℕ). new p n ≡ list_any (stands_at p n) (take j cs)) next
    (more p n ∙ ap (λ b. cond b true (old p n)) flip ∙ ap (λ b. cond (stands_at p n k) true b) (before p n)
    ∙ one_more (stands_at p n k) (list_any (stands_at p n) (take i cs))
    ∙ sym (list_any-append (stands_at p n) (take i cs) (k ∷ []))
    ∙ ap (λ ys. list_any (stands_at p n) ys) (sym (done_suc cs i k e)))

-- ---- a child of the name, of an inherited clafer

-- whether d has the name and is declared under s or a clafer above it
abbrev inherited : List Clafer → List ℕ → ℕ → ℕ → Bool
inherited cs name s d = option_map_or (λ l. bytes_eq name l.title.name) (slice_get cs d) false && option_map_or (is_a cs s) (parent_of cs d) false

abbrev declared : List Clafer → List ℕ → ℕ → Bool
declared cs name q = list_any (stands_at (Some q) name) cs

record Child (cs : List Clafer) (name : List ℕ) (s d : ℕ) : Type 0 where
  clafer : Clafer
  parent : ℕ
  at : slice_get cs d ≡ Some clafer
  named : bytes_eq name clafer.title.name ≡ true
  below : clafer.parent ≡ Some parent
  under : is_a cs s parent ≡ true

child_under : (cs : List Clafer) (name : List ℕ) (s d : ℕ) (l : Clafer) (q : Option ℕ) → slice_get cs d ≡ Some l → bytes_eq name l.title.name ≡ true → l.parent ≡ q → option_map_or (is_a cs s) q false ≡ true → Child cs name s d
child_under cs name s d l None at named e met = absurd (true≢false (sym met))
child_under cs name s d l (Some p) at named e met = record { clafer = l; parent = p; at = at; named = named; below = e; under = met }

child_by : (cs : List Clafer) (name : List ℕ) (s d : ℕ) (k : Option Clafer) → slice_get cs d ≡ k
    → (option_map_or (λ l. bytes_eq name l.title.name) k false && option_map_or (is_a cs s) (option_and_then (λ l. l.parent) k) false) ≡ true → Child cs name s d
child_by cs name s d None at met = absurd (true≢false (sym met))
child_by cs name s d (Some l) at met =
    let parts = and_parts (bytes_eq name l.title.name) (option_map_or (is_a cs s) l.parent false) met in
    child_under cs name s d l l.parent at parts.0 refl parts.1

outward : (cs : List Clafer) (name : List ℕ) (s : ℕ) → list_any (inherited cs name s) (numbers_below (length cs)) ≡ true → list_any (declared cs name) (with_supers cs s) ≡ true
outward cs name s met =
    let a = any_at (inherited cs name s) (numbers_below (length cs)) met in
    let c = child_by cs name s a.item (slice_get cs a.item) refl a.passes in
    let w = any_at (eqb c.parent) (with_supers cs s) c.under in
    let same : c.parent ≡ w.item = eqb-true c.parent w.item w.passes in
    let here : option_eq nat_eq (Some w.item) c.clafer.parent ≡ true = ap (option_eq nat_eq (Some w.item)) (c.below ∙ ap (λ (q : ℕ). Some q) same) ∙ eq-eqb w.item w.item refl in
    any_from (declared cs name) (with_supers cs s) w.index w.item w.at
    (any_from (stands_at (Some w.item) name) cs a.item c.clafer c.at (and_from (option_eq nat_eq (Some w.item) c.clafer.parent) (bytes_eq name c.clafer.title.name) here c.named))

parent_is : (q : ℕ) (p : Option ℕ) → option_eq nat_eq (Some q) p ≡ true → p ≡ Some q
parent_is q None e = absurd (true≢false (sym e))
parent_is q (Some r) e = ap (λ (z : ℕ). Some z) (sym (eqb-true q r e))

inward : (cs : List Clafer) (name : List ℕ) (s : ℕ) → list_any (declared cs name) (with_supers cs s) ≡ true → list_any (inherited cs name s) (numbers_below (length cs)) ≡ true
inward cs name s met =
    let w = any_at (declared cs name) (with_supers cs s) met in
    let a = any_at (stands_at (Some w.item) name) cs w.passes in
    let parts = and_parts (option_eq nat_eq (Some w.item) a.item.parent) (bytes_eq name a.item.title.name) a.passes in
    let below : a.item.parent ≡ Some w.item = parent_is w.item a.item.parent parts.0 in
    let test : inherited cs name s a.index ≡ true =
    ap (λ (k : Option Clafer). option_map_or (λ l. bytes_eq name l.title.name) k false && option_map_or (is_a cs s) (option_and_then (λ l. l.parent) k) false) a.at
    ∙ and_from (bytes_eq name a.item.title.name) (option_map_or (is_a cs s) a.item.parent false) parts.1
    (ap (λ (q : Option ℕ). option_map_or (is_a cs s) q false) below ∙ has_at (with_supers cs s) w.index w.item w.at) in
    any-some (inherited cs name s) (length cs) a.index (got_below cs a.index a.item a.at) test

test_is : (cs : List Clafer) (c p s d : ℕ) (k : Clafer) → slice_get cs c ≡ Some k → k.parent ≡ Some p → super_of cs p ≡ Some s
    → (have_one_name cs c d && stands_beside_inherited cs c d) ≡ inherited cs k.title.name s d
test_is cs c p s d k at parent above =
    let up : parent_of cs c ≡ Some p = ap (option_and_then (λ z. z.parent)) at ∙ parent in
    ap (λ (z : Option Clafer). option_map_or (λ x. option_map_or (λ l. bytes_eq x.title.name l.title.name) (slice_get cs d) false) z false && stands_beside_inherited cs c d) at
    ∙ ap (λ (z : Option ℕ). option_map_or (λ l. bytes_eq k.title.name l.title.name) (slice_get cs d) false
    && option_map_or (λ x. option_map_or (λ y. option_map_or (is_a cs y) (parent_of cs d) false) (super_of cs x) false) z false) up
    ∙ ap (λ (z : Option ℕ). option_map_or (λ l. bytes_eq k.title.name l.title.name) (slice_get cs d) false
    && option_map_or (λ y. option_map_or (is_a cs y) (parent_of cs d) false) z false) above

pub repeats_is : (cs : List Clafer) (c p s : ℕ) (k : Clafer) → slice_get cs c ≡ Some k → k.parent ≡ Some p → super_of cs p ≡ Some s
    → repeats_inherited cs c ≡ list_any (declared cs k.title.name) (with_supers cs s)
repeats_is cs c p s k at parent above =
    any_same (λ d. have_one_name cs c d && stands_beside_inherited cs c d) (inherited cs k.title.name s) (numbers_below (length cs)) (λ d. test_is cs c p s d k at parent above)
    ∙ same_tests (list_any (inherited cs k.title.name s) (numbers_below (length cs))) (list_any (declared cs k.title.name) (with_supers cs s)) (outward cs k.title.name s) (inward cs k.title.name s)

none_of : (xs : List ℕ) (p : ℕ → Bool) → ((x : ℕ) → p x ≡ false) → list_any p xs ≡ false
none_of [] p each = refl
none_of (x ∷ xs) p each = ap (λ b. b || list_any p xs) (each x) ∙ none_of xs p each

-- at top level, and where the parent inherits from nothing
pub no_parent : (cs : List Clafer) (c : ℕ) (k : Clafer) → slice_get cs c ≡ Some k → k.parent ≡ None → false ≡ repeats_inherited cs c
no_parent cs c k at parent =
    let up : parent_of cs c ≡ None = ap (option_and_then (λ z. z.parent)) at ∙ parent in
    sym (none_of (numbers_below (length cs)) (λ d. have_one_name cs c d && stands_beside_inherited cs c d)
    (λ d. and_right (have_one_name cs c d) (stands_beside_inherited cs c d)
    (ap (λ (z : Option ℕ). option_map_or (λ x. option_map_or (λ y. option_map_or (is_a cs y) (parent_of cs d) false) (super_of cs x) false) z false) up)))

pub no_super : (cs : List Clafer) (c p : ℕ) (k : Clafer) (q : Option ℕ) → slice_get cs c ≡ Some k → k.parent ≡ Some p → q ≡ super_of cs p → q ≡ None → false ≡ repeats_inherited cs c
no_super cs c p k q at parent is none =
    let up : parent_of cs c ≡ Some p = ap (option_and_then (λ z. z.parent)) at ∙ parent in
    sym (none_of (numbers_below (length cs)) (λ d. have_one_name cs c d && stands_beside_inherited cs c d)
    (λ d. and_right (have_one_name cs c d) (stands_beside_inherited cs c d)
    (ap (λ (z : Option ℕ). option_map_or (λ x. option_map_or (λ y. option_map_or (is_a cs y) (parent_of cs d) false) (super_of cs x) false) z false) up
    ∙ ap (λ (z : Option ℕ). option_map_or (λ y. option_map_or (is_a cs y) (parent_of cs d) false) z false) (sym is ∙ none))))

-- what is looked up in the set is that it repeats
pub looked_up : (cs : List Clafer) (c p s : ℕ) (k : Clafer) (name : List ℕ) (known : Option ℕ → List ℕ → Bool) (b : Bool) → slice_get cs c ≡ Some k → k.parent ≡ Some p → super_of cs p ≡ Some s
    → name ≡ k.title.name → ((q : Option ℕ) (n : List ℕ) → known q n ≡ list_any (stands_at q n) cs) → b ≡ list_any (λ q. known (Some q) name) (with_supers cs s) → b ≡ repeats_inherited cs c
looked_up cs c p s k name known b at parent above called knows is =
    is ∙ any_same (λ q. known (Some q) name) (declared cs name) (with_supers cs s) (λ q. knows (Some q) name)
    ∙ ap (λ (n : List ℕ). list_any (declared cs n) (with_supers cs s)) called ∙ sym (repeats_is cs c p s k at parent above)

pub ruleset repeat_facts = (no_parent, no_super)
