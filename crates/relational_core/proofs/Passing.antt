-- Tests, and lists that pass them.
use Rattle.std.proofs.Common.{◌≡◌, ◌≢◌, ℕ, Bool, true, false, cond, ◌&&◌, ◌||◌, List, [], ◌∷◌, map, refl, ap, sym, ◌∙◌, ◌⊎◌, inl, inr}
use Rattle.std.specs.Prelude.{◌==◌, eqb}
use Rattle.std.specs.List.{filter, list_any, list_all}
use Rattle.std.proofs.lemmas.Bool.Decides.{eqb_tells}
use Rattle.std.proofs.lemmas.Bool.{true≢false}

pub both : {X Y Z : Type 0} {x x' : X} {y y' : Y} (f : X → Y → Z) → x ≡ x' → y ≡ y' → f x y ≡ f x' y'
both {x' = x'} {y = y} f p q = ap (λ x. f x y) p ∙ ap (f x') q

pub and_parts : (a b : Bool) → (a && b) ≡ true → (a ≡ true) × (b ≡ true)
and_parts true b h = (refl, h)
and_parts false b h = (h, (cc))

pub and_all : (a b : Bool) → a ≡ true → b ≡ true → (a && b) ≡ true
and_all a b h k = both (λ x y. x && y) h k

pub or_left : (a b : Bool) → a ≡ true → (a || b) ≡ true
or_left a b h = ap (λ x. x || b) h

pub or_right : (a b : Bool) → b ≡ true → (a || b) ≡ true
or_right true b h = refl
or_right false b h = h

pub or_false : (b : Bool) → (b || false) ≡ b
or_false true = refl
or_false false = refl

pub and_false : (b : Bool) → (b && false) ≡ false
and_false true = refl
and_false false = refl

pub and_true : (b : Bool) → (b && true) ≡ b
and_true true = refl
and_true false = refl

pub equal : (m n : ℕ) → (m == n) ≡ true → m ≡ n
equal m n h = pick (eqb_tells m n)
  where
    pick : ((eqb m n ≡ true) × (m ≡ n)) ⊎ ((eqb m n ≡ false) × (m ≢ n)) → m ≡ n
    pick (inl k) = k.1
    pick (inr k) = absurd (true≢false (sym h ∙ k.0))

-- what passes one test passes another
pub all_implied : {X : Type 0} (p q : X → Bool) (xs : List X) → ((x : X) → p x ≡ true → q x ≡ true) → list_all p xs ≡ true → list_all q xs ≡ true
all_implied p q [] step h = refl
all_implied p q (x ∷ xs) step h =
    let j = and_parts (p x) (list_all p xs) h in and_all (q x) (list_all q xs) (step x j.0) (all_implied p q xs step j.1)

-- where all pass two tests, all pass both
pub all_both : {X : Type 0} (p q : X → Bool) (xs : List X) → list_all p xs ≡ true → list_all q xs ≡ true → list_all (λ x. p x && q x) xs ≡ true
all_both p q [] h k = refl
all_both p q (x ∷ xs) h k =
    let i = and_parts (p x) (list_all p xs) h in
    let j = and_parts (q x) (list_all q xs) k in
    and_all (p x && q x) (list_all (λ x. p x && q x) xs) (and_all (p x) (q x) i.0 j.0) (all_both p q xs i.1 j.1)

-- some item passes, and so does some other test
pub any_implied : {X : Type 0} (given p q : X → Bool) (xs : List X) → list_all given xs ≡ true → ((x : X) → given x ≡ true → p x ≡ true → q x ≡ true) → list_any p xs ≡ true → list_any q xs ≡ true
any_implied given p q [] all step h = h
any_implied given p q (x ∷ xs) all step h =
    let j = and_parts (given x) (list_all given xs) all in pick (p x) refl h (any_implied given p q xs j.1 step) j.0
  where
    pick : (b : Bool) → p x ≡ b → (b || list_any p xs) ≡ true → (list_any p xs ≡ true → list_any q xs ≡ true) → given x ≡ true → (q x || list_any q xs) ≡ true
    pick true e h rest g = or_left (q x) (list_any q xs) (step x g e)
    pick false e h rest g = or_right (q x) (list_any q xs) (rest h)

-- some item passes, which shows what each passing one would
pub any_shows : {X : Type 0} (given p : X → Bool) (b : Bool) (xs : List X) → list_all given xs ≡ true → ((x : X) → given x ≡ true → p x ≡ true → b ≡ true) → list_any p xs ≡ true → b ≡ true
any_shows given p b [] all step h = absurd (true≢false (sym h))
any_shows given p b (x ∷ xs) all step h =
    let j = and_parts (given x) (list_all given xs) all in pick (p x) refl h (any_shows given p b xs j.1 step) j.0
  where
    pick : (c : Bool) → p x ≡ c → (c || list_any p xs) ≡ true → (list_any p xs ≡ true → b ≡ true) → given x ≡ true → b ≡ true
    pick true e h rest g = step x g e
    pick false e h rest g = rest h

-- some item of a list passes where one that is listed does
pub some_passes : (p : ℕ → Bool) (xs : List ℕ) (d : ℕ) → list_any (λ y. d == y) xs ≡ true → p d ≡ true → list_any p xs ≡ true
some_passes p [] d h k = absurd (true≢false (sym h))
some_passes p (x ∷ xs) d h k = pick (d == x) refl h (some_passes p xs d)
  where
    pick : (b : Bool) → (d == x) ≡ b → (b || list_any (λ y. d == y) xs) ≡ true → (list_any (λ y. d == y) xs ≡ true → p d ≡ true → list_any p xs ≡ true) → (p x || list_any p xs) ≡ true
    pick true f j rest = or_left (p x) (list_any p xs) (ap p (sym (equal d x f)) ∙ k)
    pick false f j rest = or_right (p x) (list_any p xs) (rest j k)

-- what is left by a filter passes what all passed, and the filter
pub filter_all : {X : Type 0} (given p q : X → Bool) (xs : List X) → list_all given xs ≡ true → ((x : X) → given x ≡ true → p x ≡ true → q x ≡ true) → list_all q (filter p xs) ≡ true
filter_all given p q [] all step = refl
filter_all given p q (x ∷ xs) all step =
    let j = and_parts (given x) (list_all given xs) all in pick (p x) refl (filter_all given p q xs j.1 step) j.0
  where
    pick : (b : Bool) → p x ≡ b → list_all q (filter p xs) ≡ true → given x ≡ true → list_all q (cond b (x ∷ filter p xs) (filter p xs)) ≡ true
    pick true e rest g = and_all (q x) (list_all q (filter p xs)) (step x g e) rest
    pick false e rest g = rest

-- a filter by tests that agree where another one passes
pub filter_agree : {X : Type 0} (given p q : X → Bool) (xs : List X) → list_all given xs ≡ true → ((x : X) → given x ≡ true → p x ≡ q x) → filter p xs ≡ filter q xs
filter_agree given p q [] all agree = refl
filter_agree given p q (x ∷ xs) all agree =
    let h = and_parts (given x) (list_all given xs) all in
    both (λ b ys. cond b (x ∷ ys) ys) (agree x h.0) (filter_agree given p q xs h.1 agree)

-- maps that agree where a test passes
pub map_agree : {X Y : Type 0} (given : X → Bool) (f g : X → Y) (xs : List X) → list_all given xs ≡ true → ((x : X) → given x ≡ true → f x ≡ g x) → map f xs ≡ map g xs
map_agree given f g [] all agree = refl
map_agree given f g (x ∷ xs) all agree =
    let h = and_parts (given x) (list_all given xs) all in both (λ y ys. y ∷ ys) (agree x h.0) (map_agree given f g xs h.1 agree)

pub map_twice : {X Y Z : Type 0} (g : Y → Z) (f : X → Y) (xs : List X) → map g (map f xs) ≡ map (λ x. g (f x)) xs
map_twice g f [] = refl
map_twice g f (x ∷ xs) = ap (λ ys. g (f x) ∷ ys) (map_twice g f xs)
