-- Clauses of a choice of parts, one part after another.
use Rattle.std.proofs.Common.{◌≡◌, ℕ, ◌+◌, ◌<◌, Bool, true, false, List, [], ◌∷◌, ◌++◌, length, take, map, get_or, refl, sym, ap, ◌∙◌, arith}
use Rattle.std.specs.Prelude.{suc, zero, slice_index_or, if◌then◌else◌}
use Rattle.std.proofs.lemmas.List.{map-append, append_assoc, append-nil}
use Rattle.clause_store.specs.declared.clause.Literal.{Literal}
use Rattle.clause_store.specs.Literals.{IsAscending}
use Rattle.question_space.specs.Choices.{chosen}
use Rattle.question_space.specs.Posing.{unit}

pub ascending_unit : (a : Literal) → IsAscending (a ∷ [])
ascending_unit a = λ i j d h l. absurd (omega arith)

chosen_none : {X : Type 0} (fs : List Bool) → chosen {X = X} fs [] ≡ []
chosen_none [] = refl
chosen_none (b ∷ fs) = refl

-- what is chosen of a list with one item more
chosen_suc : {X : Type 0} (fs : List Bool) (xs : List X) (n : ℕ) (d : X) → n < length xs
    → chosen fs (take (suc n) xs) ≡ chosen fs (take n xs) ++ (if slice_index_or fs n false then get_or xs n d ∷ [] else [])
chosen_suc [] [] n d h = absurd (omega (arith, h))
chosen_suc [] (x ∷ xs) zero d h = refl
chosen_suc [] (x ∷ xs) (suc n) d h = refl
chosen_suc (b ∷ fs) [] n d h = absurd (omega (arith, h))
chosen_suc (true ∷ fs) (x ∷ xs) zero d h = ap (λ ys. x ∷ ys) (chosen_none fs)
chosen_suc (false ∷ fs) (x ∷ xs) zero d h = chosen_none fs
chosen_suc (true ∷ fs) (x ∷ xs) (suc n) d h = ap (λ ys. x ∷ ys) (chosen_suc fs xs n d (omega (arith, h)))
chosen_suc (false ∷ fs) (x ∷ xs) (suc n) d h = chosen_suc fs xs n d (omega (arith, h))

units_if : (b : Bool) (x : Literal) → map unit (if b then x ∷ [] else []) ≡ (if b then unit x ∷ [] else [])
units_if true x = refl
units_if false x = refl

pub parts_none : (base : List (List Literal)) (fs : List Bool) → base ≡ base ++ map unit (chosen fs [])
parts_none base fs = sym (ap (λ ys. base ++ map unit ys) (chosen_none fs) ∙ append-nil base)

-- a step of the loop over parts
pub parts_more : (base : List (List Literal)) (fs : List Bool) (xs : List Literal) (n : ℕ) (d : Literal) (b : Bool) (old new : List (List Literal))
    → n < length xs → b ≡ slice_index_or fs n false
    → old ≡ base ++ map unit (chosen fs (take n xs)) → new ≡ old ++ (if b then unit (get_or xs n d) ∷ [] else [])
    → new ≡ base ++ map unit (chosen fs (take (n + 1) xs))
parts_more base fs xs n d b old new inside flag before added =
    let x : Literal = get_or xs n d in
    let e : n + 1 ≡ suc n = omega arith in
    let more : chosen fs (take (suc n) xs) ≡ chosen fs (take n xs) ++ (if b then x ∷ [] else []) =
    chosen_suc fs xs n d inside ∙ ap (λ c. chosen fs (take n xs) ++ (if c then get_or xs n d ∷ [] else [])) (sym flag) in
    added
    ∙ ap (λ cs. cs ++ (if b then unit x ∷ [] else [])) before
    ∙ append_assoc base (map unit (chosen fs (take n xs))) (if b then unit x ∷ [] else [])
    ∙ ap (λ cs. base ++ (map unit (chosen fs (take n xs)) ++ cs)) (sym (units_if b x))
    ∙ ap (λ cs. base ++ cs) (sym (map-append unit (chosen fs (take n xs)) (if b then x ∷ [] else [])))
    ∙ ap (λ ys. base ++ map unit ys) (sym more)
    ∙ ap (λ k. base ++ map unit (chosen fs (take k xs))) (sym e)
