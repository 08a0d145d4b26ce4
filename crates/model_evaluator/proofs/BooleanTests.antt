-- Conjunctions and lists of tests.
use Rattle.std.proofs.Common.{◌≡◌, Bool, true, false, not, cond, ◌&&◌, ◌||◌, List, [], ◌∷◌, ◌++◌, refl, ap, sym, ◌∙◌}
use Rattle.std.specs.List.{filter, list_all}
use Rattle.std.proofs.lemmas.List.Folds.{list_all-append}

pub both : {X Y Z : Type 0} {x x' : X} {y y' : Y} (f : X → Y → Z) → x ≡ x' → y ≡ y' → f x y ≡ f x' y'
both {x' = x'} {y = y} f p q = ap (λ x. f x y) p ∙ ap (f x') q

pub and_parts : (a b : Bool) → (a && b) ≡ true → (a ≡ true) × (b ≡ true)
and_parts true b h = (refl, h)
and_parts false b h = (h, (cc))

pub and_all : (a b : Bool) → a ≡ true → b ≡ true → (a && b) ≡ true
and_all a b h k = both (λ x y. x && y) h k

pub four : (a b c d : Bool) → (a && b && c && d) ≡ true → (a ≡ true) × (b ≡ true) × (c ≡ true) × (d ≡ true)
four a b c d h =
    let i = and_parts (a && b && c) d h in let j = and_parts (a && b) c i.0 in let k = and_parts a b j.0 in (k.0, k.1, j.1, i.1)

pub three : (a b c : Bool) → (a && b && c) ≡ true → (a ≡ true) × (b ≡ true) × (c ≡ true)
three a b c h = let j = and_parts (a && b) c h in let k = and_parts a b j.0 in (k.0, k.1, j.1)

pub or_left : (a b : Bool) → a ≡ true → (a || b) ≡ true
or_left a b h = ap (λ x. x || b) h

pub or_right : (a b : Bool) → b ≡ true → (a || b) ≡ true
or_right true b h = refl
or_right false b h = h

pub all_parts : {X : Type 0} (p : X → Bool) (xs ys : List X) → list_all p (xs ++ ys) ≡ true → (list_all p xs ≡ true) × (list_all p ys ≡ true)
all_parts p xs ys h = and_parts (list_all p xs) (list_all p ys) (sym (list_all-append p xs ys) ∙ h)

-- tests that agree where another one passes
pub all_agree : {X : Type 0} (given p q : X → Bool) (xs : List X) → list_all given xs ≡ true → ((x : X) → given x ≡ true → p x ≡ q x) → list_all p xs ≡ list_all q xs
all_agree given p q [] h agree = refl
all_agree given p q (x ∷ xs) h agree =
    let j = and_parts (given x) (list_all given xs) h in both (λ a b. a && b) (agree x j.0) (all_agree given p q xs j.1 agree)

-- what is left by a filter passes what all passed, and the filter
pub filter_all : {X : Type 0} (given p q : X → Bool) (xs : List X) → list_all given xs ≡ true → ((x : X) → given x ≡ true → p x ≡ true → q x ≡ true) → list_all q (filter p xs) ≡ true
filter_all given p q [] all step = refl
filter_all given p q (x ∷ xs) all step =
    let j = and_parts (given x) (list_all given xs) all in pick (p x) refl (filter_all given p q xs j.1 step) j.0
  where
    pick : (b : Bool) → p x ≡ b → list_all q (filter p xs) ≡ true → given x ≡ true → list_all q (cond b (x ∷ filter p xs) (filter p xs)) ≡ true
    pick true e rest g = and_all (q x) (list_all q (filter p xs)) (step x g e) rest
    pick false e rest g = rest

pub each_filtered : {X : Type 0} (p q : X → Bool) (xs : List X) → list_all q (filter p xs) ≡ list_all (λ x. not (p x) || q x) xs
each_filtered p q [] = refl
each_filtered p q (x ∷ xs) = pick (p x) (each_filtered p q xs)
  where
    pick : (b : Bool) → list_all q (filter p xs) ≡ list_all (λ y. not (p y) || q y) xs → list_all q (cond b (x ∷ filter p xs) (filter p xs)) ≡ ((not b || q x) && list_all (λ y. not (p y) || q y) xs)
    pick true rest = ap (λ b. q x && b) rest
    pick false rest = rest
