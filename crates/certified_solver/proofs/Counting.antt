-- Over v variables there are at most 3 to the power v clauses that are no tautologies.
use Rattle.std.proofs.Common.{ℕ, zero, suc, Bool, true, false, cond, eqb, ◌||◌, [], ◌∷◌, ◌≡◌, ◌≢◌, ◌+◌, ◌-◌, ◌*◌, ◌/◌, ◌^◌, ◌<◌, ◌≤◌, ◌⊎◌, ◌==◌, List, All, length, get_or, take, inl, inr, arith, refl, ap, sym, ◌∙◌, get_or-append-add, get_or-take, length-append, length-take}
use Rattle.std.proofs.lemmas.Bool.{cases_eq, cases_lt, false≢true, eqb-true, eqb-false, eq-eqb}
use Rattle.std.proofs.lemmas.Grind.{pow_more}
use Rattle.std.proofs.lemmas.List.{length-map, take-map, get_or-map}
use Rattle.std.proofs.lemmas.List.Elements.{All-get_or}
use Rattle.clause_store.specs.declared.clause.Literal.{Literal}
use Rattle.clause_store.specs.declared.derivation.Chain.{Chain}
use Rattle.clause_store.specs.Literals.{LiteralSet, literals_of, HasVariablesBelow}
use Rattle.clause_store.specs.Store.{clause_at}
use Rattle.clause_store.specs.Resolution.{known_clauses, IsLawful}
use Rattle.proof_checker.specs.Checking.{IsChainWithin}
use Rattle.cdcl_search.specs.Progress.{results_of, AreNewResults}
use Rattle.certified_solver.proofs.Within.{IsBelow, clause_below, chains_within}

abbrev avoiding : (ℕ → ℕ) → ℕ → ℕ → ℕ → ℕ
avoiding f m last i = cond (eqb (f i) m) (f last) (f i)

abbrev Avoids : ℕ → ℕ → ℕ → ℕ → Type 0
Avoids x m y r = ((x ≡ m) × (r ≡ y)) ⊎ ((x ≡ m → ⊥) × (r ≡ x))

Avoids-by : (x m y : ℕ) (t : Bool) → eqb x m ≡ t → Avoids x m y (cond t y x)
Avoids-by x m y true e = inl (eqb-true x m e, refl)
Avoids-by x m y false e = inr (eqb-false x m e, refl)

avoids : (x m y : ℕ) → Avoids x m y (cond (eqb x m) y x)
avoids x m y = Avoids-by x m y (eqb x m) refl

abbrev IsInto : (ℕ → ℕ) → ℕ → ℕ → Type 0
IsInto f n m = (i : ℕ) → i < n → f i < m

abbrev IsOneToOne : (ℕ → ℕ) → ℕ → Type 0
IsOneToOne f n = (i j : ℕ) → i < n → j < n → f i ≡ f j → i ≡ j

into_less : (f : ℕ → ℕ) (n m : ℕ) → IsInto f (suc n) (suc m) → IsOneToOne f (suc n) → IsInto (avoiding f m n) n m
into_less f n m into one i p =
    let a = into i (omega arith) in
    let b = into n (omega arith) in
    let ne : f i ≡ f n → ⊥ = λ e. let z = one i n (omega arith) (omega arith) e in omega arith in
    elim (avoids (f i) m (f n)) [ inl w ↦ omega (arith, w.0, w.1) | inr w ↦ omega (arith, w.0, w.1) ]

one_less : (f : ℕ → ℕ) (n m : ℕ) → IsOneToOne f (suc n) → IsOneToOne (avoiding f m n) n
one_less f n m one i j p q e =
    elim (avoids (f i) m (f n)) [
      | inl v ↦ elim (avoids (f j) m (f n)) [
        | inl w ↦ one i j (omega arith) (omega arith) (v.0 ∙ sym w.0)
        | inr w ↦ let z = one n j (omega arith) (omega arith) (sym v.1 ∙ e ∙ w.1) in absurd (omega arith)
      ]
      | inr v ↦ elim (avoids (f j) m (f n)) [
        | inl w ↦ let z = one i n (omega arith) (omega arith) (sym v.1 ∙ e ∙ w.1) in absurd (omega arith)
        | inr w ↦ one i j (omega arith) (omega arith) (sym v.1 ∙ e ∙ w.1)
      ]
    ]

-- the pigeonhole principle
pigeonhole : (n m : ℕ) (f : ℕ → ℕ) → IsInto f n m → IsOneToOne f n → n ≤ m
pigeonhole zero m f into one = omega arith
pigeonhole (suc n) zero f into one = absurd (omega (arith, into n (omega arith)))
pigeonhole (suc n) (suc m) f into one = omega (arith, pigeonhole n m (avoiding f m n) (into_less f n m into one) (one_less f n m one))

-- whether a variable occurs in a clause, and how: not, as itself, or negated
abbrev digit : Bool → Bool → ℕ
digit true b = 1
digit false true = 2
digit false false = 0

-- the clause as a number with a digit of base 3 for each of the first v variables
abbrev number_of : ℕ → LiteralSet → ℕ
number_of zero s = 0
number_of (suc v) s = 3 * number_of v s + digit (s (2 * v)) (s (2 * v + 1))

abbrev HasNoPair : LiteralSet → Type 0
HasNoPair s = (p : ℕ) → s (2 * p) ≡ true → s (2 * p + 1) ≡ true → ⊥

digit-lt : (a b : Bool) → digit a b < 3
digit-lt true b = omega arith
digit-lt false true = omega arith
digit-lt false false = omega arith

power_more : (v : ℕ) → 3 ^ suc v ≡ 3 ^ v * 3
power_more v = let e : suc v ≡ v + 1 = omega arith in rw e (pow_more 3 v)

number_of-lt : (v : ℕ) (s : LiteralSet) → number_of v s < 3 ^ v
number_of-lt zero s = omega arith
number_of-lt (suc v) s =
    let a = number_of-lt v s in
    let d = digit-lt (s (2 * v)) (s (2 * v + 1)) in
    let p = power_more v in
    omega (arith, a, d, p)

digit_same : (a b c d : Bool) → (a ≡ true → b ≡ true → ⊥) → (c ≡ true → d ≡ true → ⊥) → digit a b ≡ digit c d → (a ≡ c) × (b ≡ d)
digit_same true true c d x y e = absurd (x refl refl)
digit_same true false true true x y e = absurd (y refl refl)
digit_same true false true false x y e = (refl, refl)
digit_same true false false true x y e = absurd (omega (arith, e))
digit_same true false false false x y e = absurd (omega (arith, e))
digit_same false true true d x y e = absurd (omega (arith, e))
digit_same false true false true x y e = (refl, refl)
digit_same false true false false x y e = absurd (omega (arith, e))
digit_same false false true d x y e = absurd (omega (arith, e))
digit_same false false false true x y e = absurd (omega (arith, e))
digit_same false false false false x y e = (refl, refl)

-- clauses with one number are the same, as far as the first v variables go
number_same : (v : ℕ) (s t : LiteralSet) → HasNoPair s → HasNoPair t → number_of v s ≡ number_of v t → (code : ℕ) → code / 2 < v → s code ≡ t code
number_same zero s t x y e code h = absurd (omega arith)
number_same (suc v) s t x y e code h =
    let d = digit-lt (s (2 * v)) (s (2 * v + 1)) in
    let f = digit-lt (t (2 * v)) (t (2 * v + 1)) in
    let rest : number_of v s ≡ number_of v t = omega (arith, e, d, f) in
    let last : digit (s (2 * v)) (s (2 * v + 1)) ≡ digit (t (2 * v)) (t (2 * v + 1)) = omega (arith, e, d, f) in
    let both = digit_same (s (2 * v)) (s (2 * v + 1)) (t (2 * v)) (t (2 * v + 1)) (x v) (y v) last in
    elim (cases_eq code (2 * v)) [
      | inl q ↦ rw q both.0
      | inr q ↦ elim (cases_eq code (2 * v + 1)) [
        | inl r ↦ rw r both.1
        | inr r ↦ number_same v s t x y rest code (omega arith)
      ]
    ]

digit_some : (a b : Bool) → (a ≡ true) ⊎ (b ≡ true) → 0 < digit a b
digit_some true b h = omega arith
digit_some false true h = omega arith
digit_some false false h = elim h [ inl e ↦ absurd (false≢true e) | inr e ↦ absurd (false≢true e) ]

-- a clause with a literal has a number above 0
number_some : (v : ℕ) (s : LiteralSet) (code : ℕ) → s code ≡ true → code / 2 < v → 0 < number_of v s
number_some zero s code e h = absurd (omega arith)
number_some (suc v) s code e h = elim (cases_eq code (2 * v)) [
  | inl q ↦ let d = digit_some (s (2 * v)) (s (2 * v + 1)) (inl (rw (← q) e)) in omega (arith, d)
  | inr q ↦ elim (cases_eq code (2 * v + 1)) [
    | inl r ↦ let d = digit_some (s (2 * v)) (s (2 * v + 1)) (inr (rw (← r) e)) in omega (arith, d)
    | inr r ↦ let d = number_some v s code e (omega arith) in omega (arith, d)
  ]
]

first_there : (x y : Bool) → x ≡ true → (x || y) ≡ true
first_there x y e = rw e refl

absent : (x y : Bool) → (x ≡ true → ⊥) → (y ≡ true → ⊥) → x ≡ y
absent true y f g = absurd (f refl)
absent false true f g = absurd (g refl)
absent false false f g = refl

some_literal : (c : List Literal) → c ≢ [] → (code : ℕ) × (literals_of c code ≡ true)
some_literal [] n = absurd (n refl)
some_literal (l ∷ c) n = (l.code, first_there (l.code == l.code) (literals_of c l.code) (eq-eqb l.code l.code refl))

same_below : (n : ℕ) (s t : LiteralSet) → IsBelow n s → IsBelow n t → HasNoPair s → HasNoPair t → number_of n s ≡ number_of n t → (code : ℕ) → s code ≡ t code
same_below n s t a b x y e code = elim (cases_lt (code / 2) n) [
  | inl h ↦ number_same n s t x y e code h
  | inr h ↦ absent (s code) (t code) (λ z. omega (arith, a code z)) (λ z. omega (arith, b code z))
]

taken_length : {X : Type 0} (xs : List X) (j : ℕ) → j ≤ length xs → length (take j xs) ≡ j
taken_length xs j h = length-take j xs ∙ omega arith

-- lawful chains with new results over clauses of n variables are fewer than 3 to the power n
module _ (given : List (List Literal)) (chains : List Chain) (n : ℕ) (lawful : IsLawful given chains) (all : All (HasVariablesBelow n) given) (new : AreNewResults given 0 chains) where
  abbrev result_at : ℕ → List Literal
  result_at j = clause_at (results_of chains) j

  abbrev place : ℕ → ℕ
  place j = number_of n (literals_of (result_at j)) - 1

  result_below : (j : ℕ) → j < length chains → IsBelow n (literals_of (result_at j))
  result_below j h =
      let c : Chain = record { start = 0; steps = []; result = [] } in
      let w = All-get_or (IsChainWithin n) chains j c h (chains_within n given chains all lawful) in
      let e : result_at j ≡ (get_or chains j c).result = get_or-map (λ (d : Chain). d.result) chains j c [] h in
      rw e (clause_below n (get_or chains j c).result w.result)

  no_pair : (j : ℕ) → j < length chains → HasNoPair (literals_of (result_at j))
  no_pair j h p x y = (new j (omega arith) h).no_tautology (p, x, y)

  some_number : (j : ℕ) → j < length chains → 0 < number_of n (literals_of (result_at j))
  some_number j h =
      let r = some_literal (result_at j) (new j (omega arith) h).some in
      number_some n (literals_of (result_at j)) r.0 r.1 (result_below j h r.0 r.1)

  earlier_known : (i j : ℕ) → i < j → j < length chains → clause_at (known_clauses given (take j chains)) (length given + i) ≡ result_at i
  earlier_known i j h k = get_or-append-add given (results_of (take j chains)) i [] ∙ ap (λ xs. get_or xs i []) (sym (take-map (λ (d : Chain). d.result) j chains)) ∙ get_or-take j (results_of chains) i [] h

  apart : (i j : ℕ) → i < j → j < length chains → place i ≡ place j → ⊥
  apart i j h k e =
      let low : i < length chains = omega arith in
      let a = some_number i low in
      let b = some_number j k in
      let same = same_below n (literals_of (result_at i)) (literals_of (result_at j)) (result_below i low) (result_below j k) (no_pair i low) (no_pair j k) (omega (arith, e, a, b)) in
      let many : length (known_clauses given (take j chains)) ≡ length given + j = length-append given (results_of (take j chains)) ∙ ap (λ m. length given + m) (length-map (take j chains) (λ (d : Chain). d.result) ∙ taken_length chains j (omega arith)) in
      (new j (omega arith) k).not_known (length given + i) (omega (arith, many)) (rw (earlier_known i j h k) same)

  pub fewer : length chains < 3 ^ n
  fewer =
      let one : IsOneToOne place (length chains) = λ i j h k e. elim (cases_lt i j) [
        | inl x ↦ absurd (apart i j x k e)
        | inr x ↦ elim (cases_eq i j) [ inl y ↦ y | inr y ↦ absurd (apart j i (omega arith) h (sym e)) ]
      ] in
      let into : IsInto place (length chains) (3 ^ n - 1) = λ i h.
      let a = number_of-lt n (literals_of (result_at i)) in
      let b = some_number i h in
      omega (arith, a, b) in
      let p = pigeonhole (length chains) (3 ^ n - 1) place into one in
      let positive = number_of-lt n (λ code. false) in
      omega (arith, p, positive)
