-- Tuples that are one longer: each with each item behind it, rather than in front.
use Rattle.std.proofs.Common.{◌≡◌, ℕ, zero, suc, Bool, true, false, not, cond, ◌&&◌, ◌||◌, if◌then◌else◌, List, [], ◌∷◌, ◌++◌, map, refl, sym, ap, ◌∙◌}
use Rattle.std.specs.Prelude.{nat_eq}
use Rattle.std.specs.List.{filter, list_all, list_any, flat_map}
use Rattle.std.proofs.lemmas.List.{map-append}
use Rattle.std.proofs.lemmas.List.Elements.{filter-append}
use Rattle.std.proofs.lemmas.List.Folds.{list_all-append}
use Rattle.std.proofs.lemmas.Grind.{flat_map-append}
use Rattle.clf_tree.specs.Lists.{each_two, tuples}
use Rattle.told_constraints.specs.Told.{tried_slots}
use Rattle.quantifier_encoder.specs.Tuples.{may_follow, longer_tuples}

abbrev pub differ : ℕ → ℕ → Bool
differ a b = not (nat_eq a b)

-- a tuple with each slot behind it
abbrev pub behind_each : List ℕ → List ℕ → List (List ℕ)
behind_each xs t = map (λ x. t ++ x ∷ []) xs

abbrev pub in_front : ℕ → List (List ℕ) → List (List ℕ)
in_front x ts = map (λ t. x ∷ t) ts

pub join : {X : Type 0} {a b c d : List X} → a ≡ b → c ≡ d → a ++ c ≡ b ++ d
join e f = cc

in_front-behind : (x : ℕ) (xs t : List ℕ) → in_front x (behind_each xs t) ≡ behind_each xs (x ∷ t)
in_front-behind x [] t = refl
in_front-behind x (y ∷ ys) t = ap (λ l. (x ∷ (t ++ y ∷ [])) ∷ l) (in_front-behind x ys t)

fronts-behind : (x : ℕ) (xs : List ℕ) (ts : List (List ℕ)) → in_front x (flat_map (behind_each xs) ts) ≡ flat_map (behind_each xs) (in_front x ts)
fronts-behind x xs [] = refl
fronts-behind x xs (t ∷ ts) = map-append (λ s. x ∷ s) (behind_each xs t) (flat_map (behind_each xs) ts) ∙ join (in_front-behind x xs t) (fronts-behind x xs ts)

all_fronts : (xs : List ℕ) (ts : List (List ℕ)) (ys : List ℕ) → flat_map (λ y. in_front y (flat_map (behind_each xs) ts)) ys ≡ flat_map (behind_each xs) (flat_map (λ y. in_front y ts) ys)
all_fronts xs ts [] = refl
all_fronts xs ts (y ∷ ys) = join (fronts-behind y xs ts) (all_fronts xs ts ys) ∙ sym (flat_map-append (behind_each xs) (in_front y ts) (flat_map (λ z. in_front z ts) ys))

first_round : (xs : List ℕ) → flat_map (λ x. (x ∷ []) ∷ []) xs ≡ map (λ x. x ∷ []) xs ++ []
first_round [] = refl
first_round (x ∷ xs) = ap (λ l. (x ∷ []) ∷ l) (first_round xs)

pub tuples-behind : (n : ℕ) (xs : List ℕ) → tuples (suc n) xs ≡ flat_map (behind_each xs) (tuples n xs)
tuples-behind zero xs = first_round xs
tuples-behind (suc n) xs = ap (λ ts. flat_map (λ x. in_front x ts) xs) (tuples-behind n xs) ∙ all_fronts xs (tuples n xs) xs

-- ---- tuples of different slots

pub list_all-push : {X : Type 0} (p : X → Bool) (xs : List X) (x : X) → list_all p (xs ++ x ∷ []) ≡ (list_all p xs && p x)
list_all-push p xs x = list_all-append p xs (x ∷ []) ∙ ap (λ b. list_all p xs && b) (last (p x))
  where
    last : (b : Bool) → (b && true) ≡ b
    last true = refl
    last false = refl

each_two-push : {X : Type 0} (t : X → X → Bool) (xs : List X) (x : X) → each_two t (xs ++ x ∷ []) ≡ (each_two t xs && list_all (λ y. t y x) xs)
each_two-push t [] x = refl
each_two-push t (y ∷ ys) x =
    ap (λ b. b && each_two t (ys ++ x ∷ [])) (list_all-push (t y) ys x) ∙ ap (λ b. (list_all (t y) ys && t y x) && b) (each_two-push t ys x)
    ∙ shuffle (list_all (t y) ys) (t y x) (each_two t ys) (list_all (λ z. t z x) ys)
  where
    shuffle : (a b c d : Bool) → ((a && b) && (c && d)) ≡ ((a && c) && (b && d))
    shuffle false b c d = refl
    shuffle true true c d = refl
    shuffle true false true d = refl
    shuffle true false false d = refl

none_same : (t : List ℕ) (x : ℕ) → list_all (λ y. differ y x) t ≡ not (list_any (λ y. nat_eq y x) t)
none_same [] x = refl
none_same (y ∷ t) x = ap (λ b. differ y x && b) (none_same t x) ∙ neither (nat_eq y x) (list_any (λ z. nat_eq z x) t)
  where
    neither : (b d : Bool) → (not b && not d) ≡ not (b || d)
    neither true d = refl
    neither false d = refl

different-push : (t : List ℕ) (x : ℕ) → each_two differ (t ++ x ∷ []) ≡ (each_two differ t && not (list_any (λ y. nat_eq y x) t))
different-push t x = each_two-push differ t x ∙ ap (λ b. each_two differ t && b) (none_same t x)

abbrev pub nothing : List (List ℕ)
nothing = []

kept_behind : (t xs : List ℕ) → filter (each_two differ) (behind_each xs t) ≡ (if each_two differ t then longer_tuples true xs t else [])
kept_behind t [] = none (each_two differ t)
  where
    none : (b : Bool) → nothing ≡ (if b then nothing else nothing)
    none true = refl
    none false = refl
kept_behind t (x ∷ xs) =
    ap (λ b. cond b ((t ++ x ∷ []) ∷ filter (each_two differ) (behind_each xs t)) (filter (each_two differ) (behind_each xs t))) (different-push t x)
    ∙ by (each_two differ t) (list_any (λ y. nat_eq y x) t) (filter (each_two differ) (behind_each xs t)) (filter (may_follow true t) xs) (kept_behind t xs)
  where
    by : (a b : Bool) (rest : List (List ℕ)) (more : List ℕ) → rest ≡ (if a then behind_each more t else [])
        → cond (a && not b) ((t ++ x ∷ []) ∷ rest) rest ≡ (if a then behind_each (cond (not b) (x ∷ more) more) t else [])
    by true true rest more h = h
    by true false rest more h = ap (λ l. (t ++ x ∷ []) ∷ l) h
    by false b rest more h = h

kept_all : (ts : List (List ℕ)) (xs : List ℕ) → filter (each_two differ) (flat_map (behind_each xs) ts) ≡ flat_map (longer_tuples true xs) (filter (each_two differ) ts)
kept_all [] xs = refl
kept_all (t ∷ ts) xs =
    filter-append (each_two differ) (behind_each xs t) (flat_map (behind_each xs) ts) ∙ join (kept_behind t xs) (kept_all ts xs) ∙ by (each_two differ t)
  where
    by : (b : Bool) → (if b then longer_tuples true xs t else []) ++ flat_map (longer_tuples true xs) (filter (each_two differ) ts)
        ≡ flat_map (longer_tuples true xs) (cond b (t ∷ filter (each_two differ) ts) (filter (each_two differ) ts))
    by true = refl
    by false = refl

filter_all : {X : Type 0} (xs : List X) → xs ≡ filter (λ x. true) xs
filter_all [] = refl
filter_all (x ∷ xs) = ap (λ l. x ∷ l) (filter_all xs)

none_left_out : (ts : List (List ℕ)) (xs : List ℕ) → flat_map (behind_each xs) ts ≡ flat_map (longer_tuples false xs) ts
none_left_out [] xs = refl
none_left_out (t ∷ ts) xs = join (ap (λ ys. behind_each ys t) (filter_all xs)) (none_left_out ts xs)

-- the tuples that are tried of one slot more
pub tried-behind : (disj : Bool) (n : ℕ) (xs : List ℕ) → tried_slots disj (suc n) xs ≡ flat_map (longer_tuples disj xs) (tried_slots disj n xs)
tried-behind true n xs = ap (filter (each_two differ)) (tuples-behind n xs) ∙ kept_all (tuples n xs) xs
tried-behind false n xs = tuples-behind n xs ∙ none_left_out (tuples n xs) xs

-- of no slot there is one
pub tried_none : (disj : Bool) (xs : List ℕ) → tried_slots disj zero xs ≡ [] ∷ []
tried_none true xs = refl
tried_none false xs = refl
