-- From equations between lists, and tests of lists, to facts of their items.
use Rattle.std.proofs.Common.{◌≡◌, ℕ, zero, suc, ◌<◌, Bool, true, false, ◌||◌, List, [], ◌∷◌, length, map, get_or, Option, Some, None, refl, sym, ap, ◌∙◌, arith}
use Rattle.std.specs.Prelude.{slice_get, is_some}
use Rattle.std.specs.Option.{option_map, option_map_or}
use Rattle.std.specs.List.{list_all, list_any, All}
use Rattle.std.proofs.lemmas.Bool.{true≢false}
use Rattle.std.proofs.lemmas.List.{get_or-map}
use Rattle.std.proofs.lemmas.Option.{slice_get-map}
use Rattle.shown_instance.proofs.Order.{both}

pub all_same : {X Y : Type 0} (f g : X → Y) (xs : List X) → map f xs ≡ map g xs → All (λ x. f x ≡ g x) xs
all_same f g xs e = λ k d l. sym (get_or-map f xs k d (f d) l) ∙ ap (λ ys. get_or ys k (f d)) e ∙ get_or-map g xs k d (f d) l

pub all_pass : {X : Type 0} (p : X → Bool) (xs : List X) → list_all p xs ≡ true → All (λ x. p x ≡ true) xs
all_pass p [] a = λ k d l. absurd (omega (arith, l))
all_pass p (x ∷ xs) a = by (all_pass p xs (both (p x) (list_all p xs) a).1)
  where
    by : All (λ y. p y ≡ true) xs → All (λ y. p y ≡ true) (x ∷ xs)
    by rest zero d l = (both (p x) (list_all p xs) a).0
    by rest (suc k) d l = rest k d (omega (arith, l))

-- an item that passes
pub record Passing {X : Type 0} (p : X → Bool) (xs : List X) : Type 0 where
  pub it : X
  pub place : ℕ
  pub within : place < length xs
  pub there : get_or xs place it ≡ it
  pub passes : p it ≡ true

pub any_passes : {X : Type 0} (p : X → Bool) (xs : List X) → list_any p xs ≡ true → Passing p xs
any_passes p [] h = absurd (true≢false (sym h))
any_passes p (x ∷ xs) h = by (p x) refl (any_passes p xs)
  where
    by : (b : Bool) → p x ≡ b → (list_any p xs ≡ true → Passing p xs) → Passing p (x ∷ xs)
    by true e rest = record { it = x; place = 0; within = omega arith; there = refl; passes = e }
    by false e rest =
        let r = rest (sym (ap (λ b. b || list_any p xs) e) ∙ h) in
        record { it = r.it; place = suc r.place; within = omega (arith, r.within); there = r.there; passes = r.passes }

pub none_passes : {X : Type 0} (p : X → Bool) (xs : List X) → list_any p xs ≡ false → All (λ x. p x ≡ false) xs
none_passes p [] h = λ k d l. absurd (omega (arith, l))
none_passes p (x ∷ xs) h = by (p x) refl (none_passes p xs)
  where
    by : (b : Bool) → p x ≡ b → (list_any p xs ≡ false → All (λ y. p y ≡ false) xs) → All (λ y. p y ≡ false) (x ∷ xs)
    by true e rest k d l = absurd (true≢false (sym (ap (λ b. b || list_any p xs) e) ∙ h))
    by false e rest zero d l = e
    by false e rest (suc k) d l = rest (sym (ap (λ b. b || list_any p xs) e) ∙ h) k d (omega (arith, l))

-- the items of two lists that tests make alike
pub test_at : {X Y : Type 0} (f : X → Bool) (g : Y → Bool) (xs : List X) (ys : List Y) (i : ℕ) (y : Y) → map f xs ≡ map g ys → slice_get ys i ≡ Some y → option_map_or f (slice_get xs i) false ≡ g y
test_at f g xs ys i y e at =
    by (slice_get xs i) refl
  where
    both_sides : option_map f (slice_get xs i) ≡ Some (g y)
    both_sides = sym (slice_get-map f xs i) ∙ ap (λ zs. slice_get zs i) e ∙ slice_get-map g ys i ∙ ap (option_map g) at

    by : (o : Option _) → slice_get xs i ≡ o → option_map_or f (slice_get xs i) false ≡ g y
    by None t = absurd (true≢false (sym (ap is_some (sym (ap (option_map f) t) ∙ both_sides))))
    by (Some x) t = ap (λ o. option_map_or f o false) t ∙ ap (λ o. option_map_or (λ b. b) o false) (sym (ap (option_map f) t) ∙ both_sides)
