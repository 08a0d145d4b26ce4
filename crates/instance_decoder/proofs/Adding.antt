-- One bit more.
use Rattle.std.proofs.Common.{◌≡◌, ℕ, suc, ◌+◌, ◌-◌, ◌*◌, ◌^◌, ◌<◌, Bool, true, false, ◌&&◌, List, [], ◌∷◌, ◌++◌, length, refl, sym, ap, ◌∙◌, arith, append_assoc, append-nil}
use Rattle.std.specs.Prelude.{ℤ, pos, ◌+ℤ◌, ◌*ℤ◌, ◌≤ℤ◌, ◌<ℤ◌, int_lt, not}
use Rattle.std.specs.List.{list_all}
use Rattle.std.proofs.lemmas.Int.{ints}
use Rattle.std.proofs.lemmas.List.{length_push}
use Rattle.std.proofs.lemmas.List.Folds.{list_all-append}
use Rattle.integer_bits.specs.Numbers.{bit, integer_of, FitsBits}
use Rattle.instance_decoder.specs.Packing.{Adds, SpellsBefore}

pub none_added : (P : List Bool → Type 0) (old new : List Bool) → new ≡ old → P [] → Adds old new 0 P
none_added P old new e h = record { added = []; whole = e ∙ sym (append-nil old); size = refl; has = h }

pub false_more : (old bits new : List Bool) (n : ℕ) → Adds old bits n (λ bs. list_all not bs ≡ true) → new ≡ bits ++ false ∷ [] → Adds old new (n + 1) (λ bs. list_all not bs ≡ true)
false_more old bits new n s e = record {
  added = s.added ++ false ∷ [];
  whole = e ∙ ap (λ bs. bs ++ false ∷ []) s.whole ∙ append_assoc old s.added (false ∷ []);
  size = omega (arith, length_push s.added false, s.size);
  has = list_all-append not s.added (false ∷ []) ∙ ap (λ b. b && true) s.has;
}

integer_cons : (b : Bool) (cs : List Bool) → 0 < length cs → integer_of (b ∷ cs) ≡ pos (bit b) +ℤ pos 2 *ℤ integer_of cs
integer_cons b [] h = absurd (omega (arith, h))
integer_cons b (c ∷ cs) h = refl

pub spelled_more : (old bits new : List Bool) (n : ℕ) (value rest half : ℤ) (odd : Bool) → Adds old bits n (SpellsBefore value rest) → rest ≡ pos (bit odd) +ℤ pos 2 *ℤ half → new ≡ bits ++ odd ∷ [] → Adds old new (n + 1) (SpellsBefore value half)
spelled_more old bits new n value rest half odd s r e = record {
  added = s.added ++ odd ∷ [];
  whole = e ∙ ap (λ bs. bs ++ odd ∷ []) s.whole ∙ append_assoc old s.added (odd ∷ []);
  size = omega (arith, length_push s.added odd, s.size);
  has = λ tail h t. ap integer_of (append_assoc s.added (odd ∷ []) tail) ∙ s.has (odd ∷ tail) (omega arith) (integer_cons odd tail h ∙ ap (λ z. pos (bit odd) +ℤ pos 2 *ℤ z) t ∙ sym r);
}

pow_suc : (n : ℕ) → 2 ^ suc n ≡ 2 * 2 ^ n
pow_suc n = grind arith

half_within : (rest half : ℤ) (odd : Bool) (p h : ℕ) → rest ≡ pos (bit odd) +ℤ pos 2 *ℤ half → p ≡ 2 * h → pos 0 ≤ℤ (rest +ℤ pos p) → rest <ℤ pos p → (pos 0 ≤ℤ (half +ℤ pos h)) × (half <ℤ pos h)
half_within rest half true p h r e l g = (omega (arith, ints, r, e, l, g), omega (arith, ints, r, e, l, g))
half_within rest half false p h r e l g = (omega (arith, ints, r, e, l, g), omega (arith, ints, r, e, l, g))

pub half_fits : (n : ℕ) (rest half : ℤ) (odd : Bool) → 1 < n → FitsBits n rest → rest ≡ pos (bit odd) +ℤ pos 2 *ℤ half → FitsBits (n - 1) half
half_fits n rest half odd h f r =
    let z : n - 1 ≡ suc (n - 1 - 1) = omega (arith, h) in
    let e : 2 ^ (n - 1) ≡ 2 * 2 ^ (n - 1 - 1) = ap (λ k. 2 ^ k) z ∙ pow_suc (n - 1 - 1) in
    let w = half_within rest half odd (2 ^ (n - 1)) (2 ^ (n - 1 - 1)) r e f.low f.high in
    record { low = w.0; high = w.1 }

last_one : (rest : ℤ) (b : Bool) → b ≡ int_lt rest (pos 0) → FitsBits 1 rest → integer_of (b ∷ []) ≡ rest
last_one rest true e f = omega (arith, ints, e, f.low, f.high)
last_one rest false e f = omega (arith, ints, e, f.low, f.high)

pub spelled_last : (old bits new : List Bool) (n : ℕ) (value rest : ℤ) (b : Bool) → Adds old bits n (SpellsBefore value rest) → FitsBits 1 rest → b ≡ int_lt rest (pos 0) → new ≡ bits ++ b ∷ [] → Adds old new (n + 1) (λ bs. integer_of bs ≡ value)
spelled_last old bits new n value rest b s f i e = record {
  added = s.added ++ b ∷ [];
  whole = e ∙ ap (λ bs. bs ++ b ∷ []) s.whole ∙ append_assoc old s.added (b ∷ []);
  size = omega (arith, length_push s.added b, s.size);
  has = s.has (b ∷ []) (omega arith) (last_one rest b i f);
}
