-- Owners above one another are different where no clafer contains itself, so there are no more of them than clafers.
use Rattle.std.proofs.Common.{◌≡◌, ℕ, zero, suc, ◌+◌, ◌<◌, ◌≤◌, Bool, true, false, ◌||◌, eqb, List, [], ◌∷◌, length, refl, sym, ap, subst, arith}
use Rattle.std.specs.Prelude.{◌==◌, ◌&&◌, not, Option, Some, None}
use Rattle.std.specs.Option.{option_map_or}
use Rattle.std.specs.List.{list_any, IsDistinct, AllByRecursion}
use Rattle.std.proofs.lemmas.Bool.{true≢false}
use Rattle.std.proofs.lemmas.Bool.Decides.{nat_tests}
use Rattle.std.proofs.lemmas.Map.Steps.{length-le_from_distinct_below}
use Rattle.clf_tree.specs.declared.model.Clafer.{Clafer}
use Rattle.clf_tree.specs.Lists.{numbers_below, has}
use Rattle.clf_tree.specs.Hierarchy.{parent_of, is_concrete, is_a, concrete_below, owners}
use Rattle.clf_tree.specs.Named.{each, owners_of, is_outside, contains_itself}
use Rattle.scope_laws.proofs.Items.{In, first, later, or_left, or_right, found, any_in, all_in, kept, in_filter, in_range, from_range}

itself : (n : ℕ) → (n == n) ≡ true
itself n = grind (arith, nat_tests)

equal : (n m : ℕ) → (n == m) ≡ true → n ≡ m
equal n m = grind (arith, nat_tests)

different : (n m : ℕ) → (n ≡ m → ⊥) → (n == m) ≡ false
different n m = grind (arith, nat_tests)

has_in : (xs : List ℕ) (x : ℕ) → In x xs → has xs x ≡ true
has_in xs x i = any_in (λ y. x == y) xs x i (itself x)

in_has : (xs : List ℕ) (x : ℕ) → has xs x ≡ true → In x xs
in_has xs x h = let f = found (λ y. x == y) xs h in subst (λ z. In z xs) (sym (equal x f.item f.pass)) f.in_list

Within : List ℕ → List ℕ → Type 0
Within xs ys = (x : ℕ) → In x xs → In x ys

split : (a b : Bool) {P : Type 0} → (a || b) ≡ true → (a ≡ true → P) → (b ≡ true → P) → P
split true b h f g = f refl
split false b h f g = g h

module _ (clafers : List Clafer) where
  -- an owner is a clafer
  owner_there : (c o : ℕ) → In o (owners clafers c) → o < length clafers
  owner_there c o i = by_parent (parent_of clafers c) i
    where
      by_parent : (p : Option ℕ) → In o (option_map_or (concrete_below clafers) p []) → o < length clafers
      by_parent None i = elim i [ ]
      by_parent (Some p) i =
          let k = kept (λ d. is_concrete clafers d && is_a clafers d p) (numbers_below (length clafers)) o i in
          let less : o < 0 + length clafers = from_range (length clafers) 0 o k.in_list in
          omega (arith, less)

  -- ---- what is reached from more is reached from more

  more_owners : (ds es : List ℕ) → Within ds es → Within (owners_of clafers ds) (owners_of clafers es)
  unfolding Within
  more_owners ds es sub x i =
      let k = kept (λ o. list_any (λ d. has (owners clafers d) o) ds) (numbers_below (length clafers)) x i in
      let f = found (λ d. has (owners clafers d) x) ds k.pass in
      in_filter (λ o. list_any (λ d. has (owners clafers d) o) es) (numbers_below (length clafers)) x k.in_list
      (any_in (λ d. has (owners clafers d) x) es f.item (sub f.item f.in_list) f.pass)

  reaches_more : (m : ℕ) (ds es : List ℕ) (x : ℕ) → Within ds es → is_outside clafers m ds x ≡ true → is_outside clafers m es x ≡ true
  unfolding Within
  reaches_more zero ds es x sub h = has_in es x (sub x (in_has ds x h))
  reaches_more (suc m) ds es x sub h =
      split (has ds x) (is_outside clafers m (owners_of clafers ds) x) h
      (λ here. or_left (has es x) (is_outside clafers m (owners_of clafers es) x) (has_in es x (sub x (in_has ds x here))))
      (λ further. or_right (has es x) (is_outside clafers m (owners_of clafers es) x)
      (reaches_more m (owners_of clafers ds) (owners_of clafers es) x (more_owners ds es sub) further))

  owners_there : (c o : ℕ) → In o (owners clafers c) → Within (owners clafers o) (owners_of clafers (owners clafers c))
  unfolding Within
  owners_there c o i x j =
      in_filter (λ q. list_any (λ d. has (owners clafers d) q) (owners clafers c)) (numbers_below (length clafers)) x
      (subst (λ z. In z (numbers_below (length clafers))) (omega arith) (in_range (length clafers) 0 x (owner_there o x j)))
      (any_in (λ d. has (owners clafers d) x) (owners clafers c) o i (has_in (owners clafers o) x j))

  -- ---- chains of owners

  -- n owners above one another, the first an owner of c
  pub data Chain : ℕ → ℕ → List ℕ → Type 0 where
    none : {c : ℕ} → Chain zero c []
    more : {n c o : ℕ} {os : List ℕ} → In o (owners clafers c) → Chain n o os → Chain (suc n) c (o ∷ os)

  -- whether there are n owners above one another
  abbrev pub tall : ℕ → ℕ → Bool
  tall zero c = true
  tall (suc n) c = list_any (tall n) (owners clafers c)

  pub record Owners (n c : ℕ) : Type 0 where
    pub os : List ℕ
    pub chain : Chain n c os

  pub chain_of : (n c : ℕ) → tall n c ≡ true → Owners n c
  chain_of zero c h = record { os = []; chain = none }
  chain_of (suc n) c h =
      let f = found (tall n) (owners clafers c) h in
      let r = chain_of n f.item f.pass in
      record { os = f.item ∷ r.os; chain = more f.in_list r.chain }

  none_above : {n c : ℕ} {os : List ℕ} → Chain n c os → n ≤ 0 → (x : ℕ) → In x os → ⊥
  none_above none le x i = elim i [ ]
  none_above (more {n = n} j k) le x i = absurd (omega (arith, le))

  reached_at : (n c o : ℕ) (os : List ℕ) → In o (owners clafers c) → Chain n o os → ((x : ℕ) → In x os → (m : ℕ) → n ≤ m + 1 → is_outside clafers m (owners clafers o) x ≡ true)
      → (x : ℕ) → In x (o ∷ os) → (m : ℕ) → suc n ≤ m + 1 → is_outside clafers m (owners clafers c) x ≡ true
  reached_at n c o os j k rest _ (first {x = _}) zero le = has_in (owners clafers c) o j
  reached_at n c o os j k rest _ (first {x = _}) (suc m) le = or_left (has (owners clafers c) o) (is_outside clafers m (owners_of clafers (owners clafers c)) o) (has_in (owners clafers c) o j)
  reached_at n c o os j k rest x (later i) zero le = absurd (none_above k (omega (arith, le)) x i)
  reached_at n c o os j k rest x (later i) (suc m) le =
      or_right (has (owners clafers c) x) (is_outside clafers m (owners_of clafers (owners clafers c)) x)
      (reaches_more m (owners clafers o) (owners_of clafers (owners clafers c)) x (owners_there c o j) (rest x i m (omega (arith, le))))

  reached : {n c : ℕ} {os : List ℕ} → Chain n c os → (x : ℕ) → In x os → (m : ℕ) → n ≤ m + 1 → is_outside clafers m (owners clafers c) x ≡ true
  reached none x i m le = elim i [ ]
  reached (more {n = n} {c = c} {o = o} {os = os} j k) x i m le = reached_at n c o os j k (reached k) x i m le

  -- ---- no clafer contains itself

  module _ (law : each clafers (λ c. not (contains_itself clafers c)) ≡ true) where
    not_true : (b : Bool) → not b ≡ true → b ≡ true → ⊥
    not_true true h e = absurd (true≢false (sym h))
    not_true false h e = absurd (true≢false (sym e))

    not_above : (n c : ℕ) (os : List ℕ) → Chain n c os → c < length clafers → n ≤ length clafers + 1 → In c os → ⊥
    not_above n c os k there le i =
        not_true (contains_itself clafers c)
        (all_in (λ d. not (contains_itself clafers d)) (numbers_below (length clafers)) c
        (subst (λ z. In z (numbers_below (length clafers))) (omega arith) (in_range (length clafers) 0 c there)) law)
        (reached k c i (length clafers) le)

    -- an item is none of a list
    none_of : (c : ℕ) (os : List ℕ) → (In c os → ⊥) → AllByRecursion (λ y. eqb c y ≡ false) os
    none_of c [] apart = tt
    none_of c (o ∷ os) apart = (different c o (λ e. apart (subst (λ z. In z (o ∷ os)) (sym e) (first {x = o} {xs = os}))), none_of c os (λ i. apart (later i)))

    distinct : {n c : ℕ} {os : List ℕ} → Chain n c os → c < length clafers → n ≤ length clafers + 1 → IsDistinct eqb (c ∷ os)
    unfolding IsDistinct
    distinct (none {c = c}) there le = (tt, tt)
    distinct (more {n = n} {c = c} {o = o} {os = os} j k) there le =
        (none_of c (o ∷ os) (not_above (suc n) c (o ∷ os) (more j k) there le), distinct k (owner_there c o j) (omega (arith, le)))

    all_there : {n c : ℕ} {os : List ℕ} → Chain n c os → c < length clafers → (x : ℕ) → In x (c ∷ os) → x < length clafers
    all_there none there _ (first {x = _}) = there
    all_there none there x (later i) = elim i [ ]
    all_there (more j k) there _ (first {x = _}) = there
    all_there (more {c = c} {o = o} j k) there x (later i) = all_there k (owner_there c o j) x i

    as_long : {n c : ℕ} {os : List ℕ} → Chain n c os → length os ≡ n
    as_long none = refl
    as_long (more j k) = ap suc (as_long k)

    -- no clafer has as many owners above one another as there are clafers
    too_tall : (c : ℕ) → c < length clafers → tall (length clafers) c ≡ true → ⊥
    too_tall c there h =
        let r = chain_of (length clafers) c h in
        let few : length (c ∷ r.os) ≤ length clafers =
        length-le_from_distinct_below (c ∷ r.os) (length clafers) (distinct r.chain there (omega arith)) (λ q m. all_there r.chain there q (in_has (c ∷ r.os) q m)) in
        let long : length r.os ≡ length clafers = as_long r.chain in
        absurd (omega (arith, few, long))

    pub is_low : (c : ℕ) → c < length clafers → tall (length clafers) c ≡ false
    is_low c there = by_case (tall (length clafers) c) refl
      where
        by_case : (b : Bool) → tall (length clafers) c ≡ b → b ≡ false
        by_case true e = absurd (too_tall c there e)
        by_case false e = refl
