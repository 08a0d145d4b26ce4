use Rattle.std.proofs.Common.{◌≡◌, ◌≢◌, ℕ, zero, suc, ◌+◌, ◌<◌, ◌≤◌, ◌==◌, Bool, true, false, not, cond, ◌||◌, ◌&&◌, List, [], ◌∷◌, length, get_or, set, take, refl, sym, ap, ◌∙◌, inl, inr, arith, length-take, get_or-take}
use Rattle.std.proofs.lemmas.Bool.{cases_eq, eq-eqb, ne_eqb, false≢true, and_parts}
use Rattle.std.proofs.lemmas.List.{get_or_default, length-set}
use Rattle.std.proofs.lemmas.List.Folds.{list_any_more, list_any_none, list_any_at}
use Rattle.std.proofs.lemmas.List.Sums.{sum_by-set, sum_by-cons, count_by-le-length}
use Rattle.clause_store.specs.declared.clause.Literal.{Literal}
use Rattle.clause_store.specs.Literals.{LiteralSet, literals_of, IsAscending}
use Rattle.proof_checker.specs.Marks.{marked, count_of, IsClear}

any_there : (x y z : Bool) → z ≡ true → (x || (y || z)) ≡ true
any_there true y z e = refl
any_there false true z e = refl
any_there false false z e = e

any_not_there : (x y z : Bool) → z ≡ false → (x || (y || z)) ≡ (x || y)
any_not_there true y z e = refl
any_not_there false true z e = refl
any_not_there false false z e = e

none_there : (x y z : Bool) → z ≡ true → (x && not (y || z)) ≡ false
none_there false y z e = refl
none_there true true z e = refl
none_there true false z e = ap not e

none_not_there : (x y z : Bool) → z ≡ false → (x && not (y || z)) ≡ (x && not y)
none_not_there false y z e = refl
none_not_there true true z e = refl
none_not_there true false z e = ap not e

-- a write at a code, and the count
pub count_set_true : (m : List Bool) (c : ℕ) → c < length m → get_or m c false ≡ false → count_of (set m c true) ≡ count_of m + 1
count_set_true m c h e =
    let s = sum_by-set (λ (x : Bool). cond x 1 0) m c true false h in
    let t = rw e at s in
    omega arith

pub count_set_false : (m : List Bool) (c : ℕ) → c < length m → get_or m c false ≡ true → count_of (set m c false) + 1 ≡ count_of m
count_set_false m c h e =
    let s = sum_by-set (λ (x : Bool). cond x 1 0) m c false false h in
    let t = rw e at s in
    omega arith

-- a code that isn't marked leaves room for one more
pub count_room : (m : List Bool) (c : ℕ) → c < length m → get_or m c false ≡ false → count_of m + 1 ≤ length m
count_room m c h e =
    let s = count_set_true m c h e in
    let t = count_by-le-length (λ (b : Bool). b) (set m c true) in
    let u = length-set m c true in
    omega arith

-- one more literal is marked
pub marks_more : (m n : List Bool) (old : LiteralSet) (literals : List Literal) (i : ℕ) (o : Literal) → i < length literals → ((code : ℕ) → marked m code ≡ (old code || literals_of (take i literals) code)) → marked n (get_or literals i o).code ≡ true → ((code : ℕ) → code ≢ (get_or literals i o).code → marked n code ≡ marked m code) → (code : ℕ) → marked n code ≡ (old code || literals_of (take (i + 1) literals) code)
marks_more m n old literals i o within before here others code =
    let c = (get_or literals i o).code in
    let more = list_any_more (λ (l : Literal). l.code == code) literals i o within in
    elim (cases_eq code c) [
      | inl e ↦ (ap (marked n) e ∙ here) ∙ sym (ap (λ b. old code || b) more ∙ any_there (old code) (literals_of (take i literals) code) (c == code) (eq-eqb c code (sym e)))
      | inr d ↦ others code d ∙ (before code ∙ sym (ap (λ b. old code || b) more ∙ any_not_there (old code) (literals_of (take i literals) code) (c == code) (ne_eqb c code (λ q. d (sym q)))))
    ]

-- one more literal is unmarked
pub unmarks_more : (m n : List Bool) (old : LiteralSet) (literals : List Literal) (i : ℕ) (o : Literal) → i < length literals → ((code : ℕ) → marked m code ≡ (old code && not (literals_of (take i literals) code))) → marked n (get_or literals i o).code ≡ false → ((code : ℕ) → code ≢ (get_or literals i o).code → marked n code ≡ marked m code) → (code : ℕ) → marked n code ≡ (old code && not (literals_of (take (i + 1) literals) code))
unmarks_more m n old literals i o within before here others code =
    let c = (get_or literals i o).code in
    let more = list_any_more (λ (l : Literal). l.code == code) literals i o within in
    elim (cases_eq code c) [
      | inl e ↦ (ap (marked n) e ∙ here) ∙ sym (ap (λ b. old code && not b) more ∙ none_there (old code) (literals_of (take i literals) code) (c == code) (eq-eqb c code (sym e)))
      | inr d ↦ others code d ∙ (before code ∙ sym (ap (λ b. old code && not b) more ∙ none_not_there (old code) (literals_of (take i literals) code) (c == code) (ne_eqb c code (λ q. d (sym q)))))
    ]

-- one more literal was marked
pub all_more : (m : List Bool) (old : LiteralSet) (literals : List Literal) (i : ℕ) (o : Literal) → i < length literals → ((code : ℕ) → marked m code ≡ (old code && not (literals_of (take i literals) code))) → marked m (get_or literals i o).code ≡ true → ((code : ℕ) → literals_of (take i literals) code ≡ true → old code ≡ true) → (code : ℕ) → literals_of (take (i + 1) literals) code ≡ true → old code ≡ true
all_more m old literals i o within before here all code there =
    let c = (get_or literals i o).code in
    let more = list_any_more (λ (l : Literal). l.code == code) literals i o within in
    elim (cases_eq code c) [
      | inl e ↦ (and_parts (old code) (not (literals_of (take i literals) code)) (sym (before code) ∙ (ap (marked m) e ∙ here))).0
      | inr d ↦ all code (sym (any_not_there false (literals_of (take i literals) code) (c == code) (ne_eqb c code (λ q. d (sym q)))) ∙ (sym more ∙ there))
    ]

-- the literals before a place of a clause aren't the one there
pub fresh : (literals : List Literal) (i : ℕ) (o : Literal) → IsAscending literals → i < length literals → literals_of (take i literals) (get_or literals i o).code ≡ false
fresh literals i o up within =
    list_any_none (λ (l : Literal). l.code == (get_or literals i o).code) (take i literals) (λ k d h.
    let short = length-take i literals in
    let below : k < i = omega arith in
    let lower = up k i d below within in
    let here = get_or_default literals i d o within in
    let least = rw here at lower in
    rw (get_or-take i literals k d below) (ne_eqb (get_or literals k d).code (get_or literals i o).code (λ e. omega arith)))

-- a literal of a clause that isn't marked in its turn was not marked at first
pub not_all : (m : List Bool) (old : LiteralSet) (literals : List Literal) (i : ℕ) (o : Literal) → IsAscending literals → i < length literals → ((code : ℕ) → marked m code ≡ (old code && not (literals_of (take i literals) code))) → marked m (get_or literals i o).code ≡ false → ((code : ℕ) → literals_of literals code ≡ true → old code ≡ true) → ⊥
not_all m old literals i o up within before here all =
    let c = (get_or literals i o).code in
    let there = list_any_at (λ (l : Literal). l.code == c) literals i o within (eq-eqb c c refl) in
    let now = before c in
    let first = fresh literals i o up within in
    let kept : (old c && not (literals_of (take i literals) c)) ≡ true = rw (all c there, first) in
    false≢true (sym here ∙ (now ∙ kept))

count_one_more : (m : List Bool) → count_of (true ∷ m) ≡ 1 + count_of m
count_one_more m = sum_by-cons (λ (x : Bool). cond x 1 0) true m

pub clear_from_count : (m : List Bool) → count_of m ≡ 0 → IsClear m
clear_from_count [] e code = refl
clear_from_count (true ∷ m) e code =
    let a = count_one_more m in
    absurd (omega arith)
clear_from_count (false ∷ m) e zero = refl
clear_from_count (false ∷ m) e (suc code) = clear_from_count m e code

pub count_from_clear : (m : List Bool) → IsClear m → count_of m ≡ 0
count_from_clear [] h = refl
count_from_clear (true ∷ m) h = absurd (false≢true (sym (h 0)))
count_from_clear (false ∷ m) h = count_from_clear m (λ code. h (suc code))

same_bit : (x y : Bool) → (y ≡ true → x ≡ true) → (x && not y) ≡ false → x ≡ y
same_bit true true h e = refl
same_bit false false h e = refl
same_bit true false h e = e
same_bit false true h e = h refl

gone : (x y : Bool) → x ≡ y → (x && not y) ≡ false
gone true true e = refl
gone true false e = e
gone false y e = refl

-- once a clause's literals are unmarked, all of them marked before: it was exact where the counts agree
pub exact_from_count : (m n : List Bool) (literals : List Literal) → ((code : ℕ) → literals_of literals code ≡ true → marked m code ≡ true) → ((code : ℕ) → marked n code ≡ (marked m code && not (literals_of literals code))) → count_of n + length literals ≡ count_of m → length literals ≡ count_of m → (code : ℕ) → marked m code ≡ literals_of literals code
exact_from_count m n literals all marks total e code =
    let none = clear_from_count n (omega arith) in
    same_bit (marked m code) (literals_of literals code) (all code) (sym (marks code) ∙ none code)

pub count_from_exact : (m n : List Bool) (literals : List Literal) → ((code : ℕ) → marked n code ≡ (marked m code && not (literals_of literals code))) → count_of n + length literals ≡ count_of m → ((code : ℕ) → marked m code ≡ literals_of literals code) → length literals ≡ count_of m
count_from_exact m n literals marks total same =
    let none = count_from_clear n (λ code. marks code ∙ gone (marked m code) (literals_of literals code) (same code)) in
    omega arith
