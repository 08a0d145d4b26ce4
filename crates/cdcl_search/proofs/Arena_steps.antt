-- Clauses in one buffer.
use Rattle.std.proofs.Common.{ℕ, zero, suc, [], ◌∷◌, ◌++◌, ◌≡◌, ◌+◌, ◌-◌, ◌<◌, ◌≤◌, List, length, get_or, drop, arith, refl, ap, sym, ◌∙◌, length-drop}
use Rattle.std.proofs.lemmas.List.{take-append-le, drop-append-le}
use Rattle.std.proofs.Math.Seq.{drop-append_seam, take-length}
use Rattle.std.specs.List.{slice_range}
use Rattle.cdcl_search.specs.Arenas.{cut, AreEnds, begin}

pub length-cut : (pool : List ℕ) (from : ℕ) (ends : List ℕ) → length (cut pool from ends) ≡ length ends
length-cut pool from [] = refl
length-cut pool from (e ∷ ends) = ap suc (length-cut pool e ends)

pub ends_at_most : (from n : ℕ) (ends : List ℕ) → AreEnds from n ends → from ≤ n
ends_at_most from n [] h = omega arith
ends_at_most from n (e ∷ ends) h = omega (arith, h.0, ends_at_most e n ends h.1)

-- where the clause at an index begins, when the first begins at `from`
abbrev pub begin_from : ℕ → List ℕ → ℕ → ℕ
begin_from from ends zero = from
begin_from from ends (suc i) = get_or ends i 0

begin-rest : (from e : ℕ) (ends : List ℕ) (i : ℕ) → begin_from from (e ∷ ends) (suc i) ≡ begin_from e ends i
begin-rest from e ends zero = refl
begin-rest from e ends (suc i) = refl

pub begin_zero : (ends : List ℕ) (i : ℕ) → begin ends i ≡ begin_from 0 ends i
begin_zero ends zero = refl
begin_zero ends (suc i) = refl

pub end_within : (from n : ℕ) (ends : List ℕ) (i : ℕ) → AreEnds from n ends → i < length ends → (begin_from from ends i ≤ get_or ends i 0) × (get_or ends i 0 ≤ n)
end_within from n [] i h k = absurd (omega arith)
end_within from n (e ∷ ends) zero h k = (h.0, ends_at_most e n ends h.1)
end_within from n (e ∷ ends) (suc i) h k = let r = end_within e n ends i h.1 (omega arith) in (rw (begin-rest from e ends i) r.0, r.1)

pub clause_at : (pool : List ℕ) (from : ℕ) (ends : List ℕ) (i : ℕ) → i < length ends → get_or (cut pool from ends) i [] ≡ slice_range pool (begin_from from ends i) (get_or ends i 0)
clause_at pool from [] i k = absurd (omega arith)
clause_at pool from (e ∷ ends) zero k = refl
clause_at pool from (e ∷ ends) (suc i) k = clause_at pool e ends i (omega arith) ∙ ap (λ b. slice_range pool b (get_or ends i 0)) (sym (begin-rest from e ends i))

pub part_stays : (pool c : List ℕ) (a b : ℕ) → a ≤ b → b ≤ length pool → slice_range (pool ++ c) a b ≡ slice_range pool a b
part_stays pool c a b h k =
    let x : a ≤ length pool = omega arith in
    let y : b - a ≤ length (drop a pool) = rw length-drop (omega arith) in
    rw (drop-append-le a pool c x, take-append-le (b - a) (drop a pool) c y) refl

pub last_part : (pool c : List ℕ) → slice_range (pool ++ c) (length pool) (length pool + length c) ≡ c
last_part pool c =
    let e : length pool + length c - length pool ≡ length c = omega arith in
    rw (drop-append_seam pool c, e, take-length c) refl

pub cut-append : (pool c : List ℕ) (from : ℕ) (ends : List ℕ) → AreEnds from (length pool) ends
    → cut (pool ++ c) from (ends ++ (length pool + length c) ∷ []) ≡ cut pool from ends ++ c ∷ []
cut-append pool c from [] h = rw h (ap (λ x. x ∷ []) (last_part pool c))
cut-append pool c from (e ∷ ends) h =
    let p : slice_range (pool ++ c) from e ≡ slice_range pool from e = part_stays pool c from e h.0 (ends_at_most e (length pool) ends h.1) in
    ap (λ x. x ∷ cut (pool ++ c) e (ends ++ (length pool + length c) ∷ [])) p ∙ ap (λ x. slice_range pool from e ∷ x) (cut-append pool c e ends h.1)

pub AreEnds-push : (from n m : ℕ) (ends : List ℕ) → AreEnds from n ends → n ≤ m → AreEnds from m (ends ++ m ∷ [])
AreEnds-push from n m [] h k = (omega (arith, h), refl)
AreEnds-push from n m (e ∷ ends) h k = (h.0, AreEnds-push e n m ends h.1 k)
