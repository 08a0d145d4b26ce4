-- Items of lists.
use Rattle.std.proofs.Common.{◌≡◌, ℕ, zero, suc, ◌+◌, ◌<◌, ◌≤◌, Bool, true, false, ◌&&◌, ◌||◌, List, [], ◌∷◌, ◌++◌, length, map, cond, refl, sym, subst, ap, ◌∙◌, arith, true≢false}
use Rattle.std.specs.List.{filter, list_any, list_all, flat_map}

pub data In {X : Type 0} : X → List X → Type 0 where
  first : {x : X} {xs : List X} → In x (x ∷ xs)
  later : {x y : X} {xs : List X} → In x xs → In x (y ∷ xs)

pub and_left : (a b : Bool) → (a && b) ≡ true → a ≡ true
and_left true b h = refl
and_left false b h = h

pub and_right : (a b : Bool) → (a && b) ≡ true → b ≡ true
and_right true b h = h
and_right false b h = absurd (true≢false (sym h))

pub and_both : (a b : Bool) → a ≡ true → b ≡ true → (a && b) ≡ true
and_both true b g h = h
and_both false b g h = absurd (true≢false (sym g))

pub or_left : (a b : Bool) → a ≡ true → (a || b) ≡ true
or_left true b h = refl
or_left false b h = absurd (true≢false (sym h))

pub or_right : (a b : Bool) → b ≡ true → (a || b) ≡ true
or_right true b h = refl
or_right false b h = h

-- an item that passes
pub record Found {X : Type 0} (p : X → Bool) (xs : List X) : Type 0 where
  pub item : X
  pub in_list : In item xs
  pub pass : p item ≡ true

found_at : {X : Type 0} (p : X → Bool) (x : X) (xs : List X) (b : Bool) → p x ≡ b → (b || list_any p xs) ≡ true → (list_any p xs ≡ true → Found p xs) → Found p (x ∷ xs)
found_at p x xs true e h rest = record { item = x; in_list = first; pass = e }
found_at p x xs false e h rest = let r = rest h in record { item = r.item; in_list = later r.in_list; pass = r.pass }

pub found : {X : Type 0} (p : X → Bool) (xs : List X) → list_any p xs ≡ true → Found p xs
found p [] h = absurd (true≢false (sym h))
found p (x ∷ xs) h = found_at p x xs (p x) refl h (found p xs)

pub any_in : {X : Type 0} (p : X → Bool) (xs : List X) (x : X) → In x xs → p x ≡ true → list_any p xs ≡ true
any_in p _ x (first {xs = xs}) pass = or_left (p x) (list_any p xs) pass
any_in p _ x (later {y = y} {xs = xs} i) pass = or_right (p y) (list_any p xs) (any_in p xs x i pass)

pub all_in : {X : Type 0} (p : X → Bool) (xs : List X) (x : X) → In x xs → list_all p xs ≡ true → p x ≡ true
all_in p _ x (first {xs = xs}) all = and_left (p x) (list_all p xs) all
all_in p _ x (later {y = y} {xs = xs} i) all = all_in p xs x i (and_right (p y) (list_all p xs) all)

pub all_from : {X : Type 0} (p : X → Bool) (xs : List X) → ((x : X) → In x xs → p x ≡ true) → list_all p xs ≡ true
all_from p [] h = refl
all_from p (x ∷ xs) h = and_both (p x) (list_all p xs) (h x first) (all_from p xs (λ y i. h y (later i)))

pub record Kept {X : Type 0} (p : X → Bool) (xs : List X) (x : X) : Type 0 where
  pub in_list : In x xs
  pub pass : p x ≡ true

kept_more : {X : Type 0} (p : X → Bool) (y x : X) (xs : List X) → Kept p xs x → Kept p (y ∷ xs) x
kept_more p y x xs k = record { in_list = later k.in_list; pass = k.pass }

kept_first : {X : Type 0} (p : X → Bool) (y x : X) (xs : List X) → p y ≡ true → In x (y ∷ filter p xs) → (In x (filter p xs) → Kept p xs x) → Kept p (y ∷ xs) x
kept_first p _ x xs e (first {x = _}) rest = record { in_list = first; pass = e }
kept_first p y x xs e (later i) rest = kept_more p y x xs (rest i)

kept_at : {X : Type 0} (p : X → Bool) (y x : X) (xs : List X) (b : Bool) → p y ≡ b → In x (cond b (y ∷ filter p xs) (filter p xs)) → (In x (filter p xs) → Kept p xs x) → Kept p (y ∷ xs) x
kept_at p y x xs true e i rest = kept_first p y x xs e i rest
kept_at p y x xs false e i rest = kept_more p y x xs (rest i)

pub kept : {X : Type 0} (p : X → Bool) (xs : List X) (x : X) → In x (filter p xs) → Kept p xs x
kept p [] x i = elim i [ ]
kept p (y ∷ ys) x i = kept_at p y x ys (p y) refl i (kept p ys x)

in_cond : {X : Type 0} (p : X → Bool) (y x : X) (xs : List X) (b : Bool) → In x (filter p xs) → In x (cond b (y ∷ filter p xs) (filter p xs))
in_cond p y x xs true i = later i
in_cond p y x xs false i = i

pub in_filter : {X : Type 0} (p : X → Bool) (xs : List X) (x : X) → In x xs → p x ≡ true → In x (filter p xs)
in_filter p _ x (first {xs = xs}) e = subst (λ b. In x (cond b (x ∷ filter p xs) (filter p xs))) (sym e) first
in_filter p _ x (later {y = y} {xs = xs} i) e = in_cond p y x xs (p y) (in_filter p xs x i e)

pub in_map : {X Y : Type 0} (f : X → Y) (xs : List X) (x : X) → In x xs → In (f x) (map f xs)
in_map f _ x (first {xs = xs}) = first
in_map f _ x (later {y = y} {xs = xs} i) = later (in_map f xs x i)

pub record Image {X Y : Type 0} (f : X → Y) (xs : List X) (y : Y) : Type 0 where
  pub item : X
  pub in_list : In item xs
  pub same : f item ≡ y

image_first : {X Y : Type 0} (f : X → Y) (x : X) (xs : List X) (y z : Y) → f x ≡ z → In y (z ∷ map f xs) → (In y (map f xs) → Image f xs y) → Image f (x ∷ xs) y
image_first f x xs _ z e (first {x = _}) rest = record { item = x; in_list = first; same = e }
image_first f x xs y z e (later i) rest = let r = rest i in record { item = r.item; in_list = later r.in_list; same = r.same }

pub image : {X Y : Type 0} (f : X → Y) (xs : List X) (y : Y) → In y (map f xs) → Image f xs y
image f [] y i = elim i [ ]
image f (x ∷ xs) y i = image_first f x xs y (f x) refl i (image f xs y)

pub in_append_right : {X : Type 0} (xs ys : List X) (y : X) → In y ys → In y (xs ++ ys)
in_append_right [] ys y i = i
in_append_right (x ∷ xs) ys y i = later (in_append_right xs ys y i)

pub in_append_left : {X : Type 0} (xs ys : List X) (y : X) → In y xs → In y (xs ++ ys)
in_append_left _ ys y (first {xs = xs}) = first
in_append_left _ ys y (later {xs = xs} i) = later (in_append_left xs ys y i)

-- an item of one of the lists
pub in_flat_map : {X Y : Type 0} (f : X → List Y) (xs : List X) (x : X) (y : Y) → In x xs → In y (f x) → In y (flat_map f xs)
in_flat_map f _ x y (first {xs = xs}) i = in_append_left (f x) (flat_map f xs) y i
in_flat_map f _ x y (later {y = z} {xs = xs} j) i = in_append_right (f z) (flat_map f xs) y (in_flat_map f xs x y j i)

pub record FlatMapped {X Y : Type 0} (f : X → List Y) (xs : List X) (y : Y) : Type 0 where
  pub item : X
  pub in_list : In item xs
  pub in_image : In y (f item)

by_first : {X Y : Type 0} (f : X → List Y) (x : X) (xs : List X) (y w : Y) (ws : List Y) → In y (w ∷ ws) → In w (f x) → (In y ws → FlatMapped f (x ∷ xs) y) → FlatMapped f (x ∷ xs) y
by_first f x xs y _ ws (first {x = _}) here more = record { item = x; in_list = first; in_image = here }
by_first f x xs y w ws (later j) here more = more j

either_part : {X Y : Type 0} (f : X → List Y) (x : X) (xs : List X) (ys : List Y) (y : Y) → ((z : Y) → In z ys → In z (f x)) → In y (ys ++ flat_map f xs) → (In y (flat_map f xs) → FlatMapped f xs y) → FlatMapped f (x ∷ xs) y
either_part f x xs [] y part i rest = let r = rest i in record { item = r.item; in_list = later r.in_list; in_image = r.in_image }
either_part f x xs (z ∷ zs) y part i rest = by_first f x xs y z (zs ++ flat_map f xs) i (part z first) (λ j. either_part f x xs zs y (λ w k. part w (later k)) j rest)

pub flat_mapped : {X Y : Type 0} (f : X → List Y) (xs : List X) (y : Y) → In y (flat_map f xs) → FlatMapped f xs y
flat_mapped f [] y i = elim i [ ]
flat_mapped f (x ∷ xs) y i = either_part f x xs (f x) y (λ z j. j) i (flat_mapped f xs y)

-- ---- how many items pass

length_cond : {X : Type 0} (b : Bool) (x : X) (xs : List X) → length (cond b (x ∷ xs) xs) ≤ suc (length xs)
length_cond true x xs = omega arith
length_cond false x xs = omega arith

length_kept : {X : Type 0} (b : Bool) (x : X) (xs : List X) → length xs ≤ length (cond b (x ∷ xs) xs)
length_kept true x xs = omega arith
length_kept false x xs = omega arith

pub filter_few : {X : Type 0} (p : X → Bool) (xs : List X) → length (filter p xs) ≤ length xs
filter_few p [] = omega arith
filter_few p (x ∷ xs) = omega (arith, length_cond (p x) x (filter p xs), filter_few p xs)

pub filter_fewer : {X : Type 0} (p : X → Bool) (xs : List X) (x : X) → In x xs → p x ≡ false → suc (length (filter p xs)) ≤ length xs
filter_fewer p _ x (first {xs = xs}) e = subst (λ b. suc (length (cond b (x ∷ filter p xs) (filter p xs))) ≤ suc (length xs)) (sym e) (omega (arith, filter_few p xs))
filter_fewer p _ x (later {y = y} {xs = xs} i) e = omega (arith, length_cond (p y) y (filter p xs), filter_fewer p xs x i e)

module _ {X : Type 0} (p q : X → Bool) (more : (x : X) → p x ≡ true → q x ≡ true) where
  two_conds : (b c : Bool) (x : X) (us vs : List X) → (b ≡ true → c ≡ true) → length us ≤ length vs → length (cond b (x ∷ us) us) ≤ length (cond c (x ∷ vs) vs)
  two_conds true true x us vs h k = omega (arith, k)
  two_conds true false x us vs h k = absurd (true≢false (sym (h refl)))
  two_conds false true x us vs h k = omega (arith, k)
  two_conds false false x us vs h k = k

  filter_no_more : (xs : List X) → length (filter p xs) ≤ length (filter q xs)
  filter_no_more [] = omega arith
  filter_no_more (x ∷ xs) = two_conds (p x) (q x) x (filter p xs) (filter q xs) (more x) (filter_no_more xs)

  strict_conds : (b c : Bool) (x : X) (us vs : List X) → (b ≡ true → c ≡ true) → suc (length us) ≤ length vs → suc (length (cond b (x ∷ us) us)) ≤ length (cond c (x ∷ vs) vs)
  strict_conds true true x us vs h k = omega (arith, k)
  strict_conds true false x us vs h k = absurd (true≢false (sym (h refl)))
  strict_conds false true x us vs h k = omega (arith, k)
  strict_conds false false x us vs h k = k

  here_conds : (b c : Bool) (x : X) (us vs : List X) → b ≡ false → c ≡ true → length us ≤ length vs → suc (length (cond b (x ∷ us) us)) ≤ length (cond c (x ∷ vs) vs)
  here_conds true c x us vs h g k = absurd (true≢false h)
  here_conds false true x us vs h g k = omega (arith, k)
  here_conds false false x us vs h g k = absurd (true≢false (sym g))

  pub filter_less : (xs : List X) (x : X) → In x xs → p x ≡ false → q x ≡ true → suc (length (filter p xs)) ≤ length (filter q xs)
  filter_less _ x (first {xs = xs}) e g = here_conds (p x) (q x) x (filter p xs) (filter q xs) e g (filter_no_more xs)
  filter_less _ x (later {y = y} {xs = xs} i) e g = strict_conds (p y) (q y) y (filter p xs) (filter q xs) (more y) (filter_less xs x i e g)
