-- The numbers below one more, and the marks of the clafers below another.
use Rattle.std.proofs.Common.{◌≡◌, ℕ, zero, suc, ◌+◌, ◌<◌, ◌&&◌, ◌||◌, Bool, true, false, List, [], ◌∷◌, ◌++◌, map, cond, refl, ap, sym, subst, ◌∙◌, arith, append-nil, length, get_or}
use Rattle.std.specs.Prelude.{◌==◌}
use Rattle.std.proofs.lemmas.Bool.Decides.{nat_tests}
use Rattle.std.proofs.lemmas.Map.Views.{any-filter_same}
use Rattle.std.proofs.lemmas.List.FromFn.{get_or-map-range_with_len, length-map-range_with_len}
use Rattle.std.specs.List.{filter, list_any, range_with_len}
use Rattle.std.proofs.lemmas.List.FromFn.{map-range_with_len_more}
use Rattle.std.proofs.lemmas.List.Elements.{filter-append}
use Rattle.std.specs.Prelude.{slice_get, Some}
use Rattle.std.proofs.lemmas.Option.{get_or_from_slice_get}
use Rattle.std.proofs.lemmas.List.{get_or_read}
use Rattle.clf_tree.specs.declared.model.Clafer.{Clafer}
use Rattle.clf_tree.specs.declared.instance.Node.{Node}
use Rattle.clf_tree.specs.Hierarchy.{is_concrete, is_a, concrete_below}
use Rattle.set_bits.specs.Fitting.{slot, slot_clafer}
use Rattle.clf_tree.specs.Lists.{numbers_below, has}

map-itself : (xs : List ℕ) → map (λ x. x) xs ≡ xs
map-itself [] = refl
map-itself (x ∷ xs) = ap (λ ys. x ∷ ys) (map-itself xs)

pub range-more : (a n j : ℕ) → a + n ≡ j → range_with_len a (n + 1) ≡ range_with_len a n ++ j ∷ []
range-more a n j e = sym (map-itself (range_with_len a (n + 1))) ∙ map-range_with_len_more (λ x. x) a n j e ∙ ap (λ xs. xs ++ j ∷ []) (map-itself (range_with_len a n))

pub numbers-more : (n : ℕ) → numbers_below (n + 1) ≡ numbers_below n ++ n ∷ []
numbers-more n = range-more 0 n n (omega arith)

pub range-append : (a m n : ℕ) → range_with_len a (m + n) ≡ range_with_len a m ++ range_with_len (a + m) n
range-append a zero n = let e : a + 0 ≡ a = omega arith in let z : 0 + n ≡ n = omega arith in rw (e, z) refl
range-append a (suc m) n = let e : a + suc m ≡ (a + 1) + m = omega arith in let z : suc m + n ≡ suc (m + n) = omega arith in rw (e, z) (ap (λ xs. a ∷ xs) (range-append (a + 1) m n))

pub filter_kept : (p : ℕ → Bool) (n : ℕ) → p n ≡ true → filter p (numbers_below (n + 1)) ≡ filter p (numbers_below n) ++ n ∷ []
filter_kept p n pass = ap (filter p) (numbers-more n) ∙ filter-append p (numbers_below n) (n ∷ []) ∙ ap (λ b. filter p (numbers_below n) ++ cond b (n ∷ []) []) pass

pub filter_dropped : (p : ℕ → Bool) (n : ℕ) → p n ≡ false → filter p (numbers_below (n + 1)) ≡ filter p (numbers_below n)
filter_dropped p n fail = ap (filter p) (numbers-more n) ∙ filter-append p (numbers_below n) (n ∷ []) ∙ ap (λ b. filter p (numbers_below n) ++ cond b (n ∷ []) []) fail ∙ append-nil (filter p (numbers_below n))

pub marks_more : (p : ℕ → Bool) (n : ℕ) → map p (numbers_below (n + 1)) ≡ map p (numbers_below n) ++ p n ∷ []
marks_more p n = map-range_with_len_more p 0 n n (omega arith)

-- the filter of the numbers below n has c where c passes
same_one : (c : ℕ) → (c == c) ≡ true
same_one c = grind (arith, nat_tests)

range_has : (a n d : ℕ) → d < n → list_any (λ y. (a + d) == y) (range_with_len a n) ≡ true
range_has a zero d h = absurd (omega arith)
range_has a (suc n) zero h = let e : ((a + 0) == a) ≡ true = grind (arith, nat_tests) in ap (λ b. b || list_any (λ y. (a + 0) == y) (range_with_len (a + 1) n)) e
range_has a (suc n) (suc d) h = let e : a + suc d ≡ (a + 1) + d = omega arith in subst (λ k. list_any (λ y. k == y) (range_with_len a (suc n)) ≡ true) (sym e) (second (((a + 1) + d) == a) (range_has (a + 1) n d (omega (arith, h))))
  where
    second : {x : Bool} (b : Bool) → x ≡ true → (b || x) ≡ true
    second true e = refl
    second false e = e

pub has-filter : (p : ℕ → Bool) (n c : ℕ) → c < n → has (filter p (numbers_below n)) c ≡ p c
has-filter p n c h =
    any-filter_same (λ y. c == y) p (p c) (λ k e. let same : c ≡ k = grind (arith, nat_tests) in ap p (sym same)) (numbers_below n)
    ∙ ap (λ b. p c && b) (let z : 0 + c ≡ c = omega arith in subst (λ k. list_any (λ y. k == y) (numbers_below n) ≡ true) z (range_has 0 n c h)) ∙ and-true (p c)
  where
    and-true : (b : Bool) → (b && true) ≡ b
    and-true true = refl
    and-true false = refl

-- a mark that is read tells whether the clafer is listed
pub mark_read : (p : ℕ → Bool) (n c : ℕ) (marks : List Bool) (ks : List ℕ) → marks ≡ map p (numbers_below n) → ks ≡ filter p (numbers_below n) → c < n → get_or marks c false ≡ has ks c
mark_read p n c marks ks m k h = ap (λ xs. get_or xs c false) m ∙ get_or-map-range_with_len p 0 n c c false h (omega arith) ∙ sym (has-filter p n c h) ∙ ap (λ xs. has xs c) (sym k)

pub mark_in : (p : ℕ → Bool) (n c : ℕ) (marks : List Bool) → marks ≡ map p (numbers_below n) → c < n → c < length marks
mark_in p n c marks m h = omega (arith, h, ap length m, length-map-range_with_len p 0 n)

-- the mark of a slot's clafer
pub slot_marked : (clafers : List Clafer) (slots : List Node) (high n : ℕ) (node : Node) (marks : List Bool) (b : Bool) → marks ≡ map (λ d. is_concrete clafers d && is_a clafers d high) (numbers_below (length clafers))
    → slice_get slots n ≡ Some node → node.clafer < length clafers → b ≡ get_or marks node.clafer b → has (concrete_below clafers high) (slot_clafer slots n) ≡ b
slot_marked clafers slots high n node marks b m at l read =
    let e : slot slots n ≡ node = get_or_from_slice_get slots n node (record { clafer = 0; number = 0 }) at in
    ap (λ (x : Node). has (concrete_below clafers high) x.clafer) e ∙ sym (mark_read (λ d. is_concrete clafers d && is_a clafers d high) (length clafers) node.clafer marks (concrete_below clafers high) m refl l)
    ∙ sym (get_or_read marks node.clafer b (mark_in (λ d. is_concrete clafers d && is_a clafers d high) (length clafers) node.clafer marks m l) read false)
