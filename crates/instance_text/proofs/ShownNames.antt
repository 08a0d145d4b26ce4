-- After look-up a clafer is told by how it is shown.
use Rattle.std.proofs.Common.{◌≡◌, ℕ, zero, suc, ◌+◌, ◌^◌, ◌<◌, ◌≤◌, Bool, true, false, not, ◌&&◌, ◌||◌, List, [], ◌∷◌, ◌++◌, length, map, drop, get_or, cond, Option, Some, None, refl, ap, sym, subst, ◌∙◌, arith, append_assoc, true≢false, ◌⊎◌, inl, inr}
use Rattle.std.specs.Prelude.{◌==◌, slice_get, nat_lt, nat_eq, bytes_eq, is_none, if◌then◌else◌}
use Rattle.std.specs.Char.{is_ascii_alphabetic}
use Rattle.std.specs.Option.{option_map_or, option_and_then, option_eq}
use Rattle.std.specs.List.{list_any, list_all, range_with_len}
use Rattle.std.proofs.lemmas.Grind.{common_steps}
use Rattle.clf_tree.specs.declared.model.Clafer.{Clafer}
use Rattle.clf_tree.specs.declared.model.Model.{Model}
use Rattle.clf_tree.specs.Lists.{numbers_below, each_two}
use Rattle.clf_tree.specs.Hierarchy.{parent_of, is_below}
use Rattle.clf_tree.specs.Spelling.{spelled_word}
use Rattle.clf_tree.specs.Named.{is_name_byte, is_name, has_name, are_told_apart, each, follows_parent, IsNamed}
use Rattle.instance_text.specs.Names.{name_of, path_within, path_of, has_namesake, shown_clafer}
use Rattle.instance_text.specs.Reading.{clafer_from}
use Rattle.instance_text.proofs.Items.{In, and_left, and_right, and_both, any_in, all_in}
use Rattle.instance_text.proofs.Pieces.{is_name_part, AreNames, bytes_itself, bytes_same}
use Rattle.instance_text.proofs.Reached.{in_numbers, number_is}

-- ---- items by their places

all_at : {X : Type 0} (p : X → Bool) (xs : List X) (c : ℕ) (x : X) → list_all p xs ≡ true → slice_get xs c ≡ Some x → p x ≡ true
all_at p [] c x h e = (cc)
all_at p (y ∷ ys) zero x h e = subst (λ z. p z ≡ true) (some_same y x e) (and_left (p y) (list_all p ys) h)
  where
    some_same : {X : Type 0} (a b : X) → Some a ≡ Some b → a ≡ b
    some_same a b q = (cc)
all_at p (y ∷ ys) (suc c) x h e = all_at p ys c x (and_right (p y) (list_all p ys) h) e

two_at : {X : Type 0} (t : X → X → Bool) (xs : List X) (c d : ℕ) (x y : X) → each_two t xs ≡ true → c < d → slice_get xs c ≡ Some x → slice_get xs d ≡ Some y → t x y ≡ true
two_at t [] c d x y h less e f = (cc)
two_at t (z ∷ zs) zero zero x y h less e f = let no : ⊥ = omega (arith, less) in absurd no
two_at t (z ∷ zs) zero (suc d) x y h less e f = subst (λ w. t w y ≡ true) (some_same z x e) (all_at (t z) zs d y (and_left (list_all (t z) zs) (each_two t zs) h) f)
  where
    some_same : {X : Type 0} (a b : X) → Some a ≡ Some b → a ≡ b
    some_same a b q = (cc)
two_at t (z ∷ zs) (suc c) zero x y h less e f = let no : ⊥ = omega (arith, less) in absurd no
two_at t (z ∷ zs) (suc c) (suc d) x y h less e f = two_at t zs c d x y (and_right (list_all (t z) zs) (each_two t zs) h) (omega (arith, less)) e f

record Got {X : Type 0} (xs : List X) (c : ℕ) : Type 0 where
  item : X
  there : slice_get xs c ≡ Some item

got : {X : Type 0} (xs : List X) (c : ℕ) → c < length xs → Got xs c
got [] c h = let no : ⊥ = omega (arith, h) in absurd no
got (x ∷ xs) zero h = record { item = x; there = refl }
got (x ∷ xs) (suc c) h = let g = got xs c (omega (arith, h)) in record { item = g.item; there = g.there }

-- ---- bytes of names

abbrev is_no_dot : ℕ → Bool
is_no_dot b = not (b == 46)

all_implied : (p q : ℕ → Bool) → ((b : ℕ) → p b ≡ true → q b ≡ true) → (xs : List ℕ) → list_all p xs ≡ true → list_all q xs ≡ true
all_implied p q h [] all = refl
all_implied p q h (x ∷ xs) all = and_both (q x) (list_all q xs) (h x (and_left (p x) (list_all p xs) all)) (all_implied p q h xs (and_right (p x) (list_all p xs) all))

all_two : (p : ℕ → Bool) (xs ys : List ℕ) → list_all p xs ≡ true → list_all p ys ≡ true → list_all p (xs ++ ys) ≡ true
all_two p [] ys h k = k
all_two p (x ∷ xs) ys h k = and_both (p x) (list_all p (xs ++ ys)) (and_left (p x) (list_all p xs) h) (all_two p xs ys (and_right (p x) (list_all p xs) h) k)

name_byte_part : (b : ℕ) → is_name_byte b ≡ true → is_name_part b ≡ true
name_byte_part b h = grind (arith, common_steps)

name_byte_no_dot : (b : ℕ) → is_name_byte b ≡ true → is_no_dot b ≡ true
name_byte_no_dot b h = grind (arith, common_steps)

dot_inside : (us vs : List ℕ) → list_all is_no_dot (us ++ 46 ∷ vs) ≡ true → ⊥
dot_inside [] vs h = true≢false (sym h)
dot_inside (u ∷ us) vs h = dot_inside us vs (and_right (is_no_dot u) (list_all is_no_dot (us ++ 46 ∷ vs)) h)

-- a text is cut at its last dot in one way
cut_once : (xs us ys vs : List ℕ) → list_all is_no_dot ys ≡ true → list_all is_no_dot vs ≡ true → xs ++ 46 ∷ ys ≡ us ++ 46 ∷ vs → (xs ≡ us) × (ys ≡ vs)
cut_once [] [] ys vs h k e = (refl, ap (drop 1) e)
cut_once [] (u ∷ us) ys vs h k e = absurd (dot_inside us vs (subst (λ z. list_all is_no_dot z ≡ true) (ap (drop 1) e) h))
cut_once (x ∷ xs) [] ys vs h k e = absurd (dot_inside xs ys (subst (λ z. list_all is_no_dot z ≡ true) (sym (ap (drop 1) e)) k))
cut_once (x ∷ xs) (u ∷ us) ys vs h k e =
    let rest = cut_once xs us ys vs h k (ap (drop 1) e) in
    (ap (λ z. z ∷ xs) (ap (λ l. get_or l 0 0) e) ∙ ap (λ zs. u ∷ zs) rest.0, rest.1)

module _ (clafers : List Clafer) (named : list_all has_name clafers ≡ true) where
  name_bytes : (c : ℕ) → list_all is_name_byte (name_of clafers c) ≡ true
  name_bytes c = by (slice_get clafers c) refl
    where
      by : (k : Option Clafer) → slice_get clafers c ≡ k → list_all is_name_byte (option_map_or (λ (x : Clafer). x.title.name) k []) ≡ true
      by None e = refl
      by (Some k) e =
          let bytes = k.title.name in
          and_right (is_ascii_alphabetic (Rattle.std.specs.Prelude.slice_index bytes 0)) (list_all is_name_byte bytes)
          (and_left (is_ascii_alphabetic (Rattle.std.specs.Prelude.slice_index bytes 0) && list_all is_name_byte bytes) (is_none (spelled_word bytes)) (all_at has_name clafers c k named e))

  name_parts : (c : ℕ) → list_all is_name_part (name_of clafers c) ≡ true
  name_parts c = all_implied is_name_byte is_name_part name_byte_part (name_of clafers c) (name_bytes c)

  name_no_dot : (c : ℕ) → list_all is_no_dot (name_of clafers c) ≡ true
  name_no_dot c = all_implied is_name_byte is_no_dot name_byte_no_dot (name_of clafers c) (name_bytes c)

  path_parts : (n c : ℕ) → list_all is_name_part (path_within clafers n c) ≡ true
  path_parts zero c = refl
  path_parts (suc n) c = by (parent_of clafers c) (λ p. path_parts n p)
    where
      by : (q : Option ℕ) → ((p : ℕ) → list_all is_name_part (path_within clafers n p) ≡ true) → list_all is_name_part (option_map_or (λ p. path_within clafers n p ++ 46 ∷ []) q [] ++ name_of clafers c) ≡ true
      by None h = name_parts c
      by (Some p) h = all_two is_name_part (path_within clafers n p ++ 46 ∷ []) (name_of clafers c) (all_two is_name_part (path_within clafers n p) (46 ∷ []) (h p) refl) (name_parts c)

  pub shown_parts : (c : ℕ) → list_all is_name_part (shown_clafer clafers c) ≡ true
  shown_parts c = by (has_namesake clafers c)
    where
      by : (b : Bool) → list_all is_name_part (if b then path_of clafers c else name_of clafers c) ≡ true
      by true = path_parts (length clafers) c
      by false = name_parts c

  -- ---- clafers of one parent and one name

  module _ (apart : each_two are_told_apart clafers ≡ true) (first : each clafers (follows_parent clafers) ≡ true) where
    told_less : (c d : ℕ) → c < d → d < length clafers → parent_of clafers c ≡ parent_of clafers d → name_of clafers c ≡ name_of clafers d → ⊥
    told_less c d less listed parents names =
        let k = got clafers c (omega (arith, less, listed)) in
        let l = got clafers d listed in
        let test = two_at are_told_apart clafers c d k.item l.item apart less k.there l.there in
        let same_parent : k.item.parent ≡ l.item.parent = sym (ap (option_and_then (λ (x : Clafer). x.parent)) k.there) ∙ parents ∙ ap (option_and_then (λ (x : Clafer). x.parent)) l.there in
        let same_name : k.item.title.name ≡ l.item.title.name = sym (ap (λ (o : Option Clafer). option_map_or (λ (x : Clafer). x.title.name) o []) k.there) ∙ names ∙ ap (λ (o : Option Clafer). option_map_or (λ (x : Clafer). x.title.name) o []) l.there in
        let both : (option_eq nat_eq k.item.parent l.item.parent && bytes_eq k.item.title.name l.item.title.name) ≡ true =
        and_both (option_eq nat_eq k.item.parent l.item.parent) (bytes_eq k.item.title.name l.item.title.name)
        (ap (option_eq nat_eq k.item.parent) (sym same_parent) ∙ option_itself k.item.parent) (ap (bytes_eq k.item.title.name) (sym same_name) ∙ bytes_itself k.item.title.name) in
        true≢false (sym test ∙ ap not both)
      where
        option_itself : (o : Option ℕ) → option_eq nat_eq o o ≡ true
        option_itself None = refl
        option_itself (Some n) = itself n
          where
            itself : (m : ℕ) → nat_eq m m ≡ true
            itself m = grind (arith, common_steps)

    equal_unless : (c d : ℕ) → (c < d → ⊥) → (d < c → ⊥) → c ≡ d
    equal_unless c d h k = grind (arith, common_steps, h, k)

    told : (c d : ℕ) → c < length clafers → d < length clafers → parent_of clafers c ≡ parent_of clafers d → name_of clafers c ≡ name_of clafers d → c ≡ d
    told c d low high parents names = equal_unless c d (λ less. told_less c d less high parents names) (λ less. told_less d c less low (sym parents) (sym names))

    parent_before : (c p : ℕ) → c < length clafers → parent_of clafers c ≡ Some p → p < c
    parent_before c p listed e =
        less p c (ap (is_below c) (sym e) ∙ all_in (follows_parent clafers) (numbers_below (length clafers)) c (in_numbers (length clafers) c listed) first)
      where
        less : (a b : ℕ) → nat_lt a b ≡ true → a < b
        less a b h = grind (arith, common_steps)

    abbrev front_of : ℕ → Option ℕ → List ℕ
    front_of n q = option_map_or (λ p. path_within clafers n p ++ 46 ∷ []) q []

    path_once : (n m c d : ℕ) → c < n → d < m → c < length clafers → d < length clafers → path_within clafers n c ≡ path_within clafers m d → c ≡ d
    path_once zero m c d low high listed listed' e = let no : ⊥ = omega (arith, low) in absurd no
    path_once (suc n) zero c d low high listed listed' e = let no : ⊥ = omega (arith, high) in absurd no
    path_once (suc n) (suc m) c d low high listed listed' e = by (parent_of clafers c) (parent_of clafers d) refl refl e (λ p r a b g h k. path_once n m p r a b g h k)
      where
        assoc : (us vs : List ℕ) → (us ++ 46 ∷ []) ++ vs ≡ us ++ 46 ∷ vs
        assoc us vs = append_assoc us (46 ∷ []) vs

        by : (q r : Option ℕ) → parent_of clafers c ≡ q → parent_of clafers d ≡ r → front_of n q ++ name_of clafers c ≡ front_of m r ++ name_of clafers d
            → ((p s : ℕ) → p < n → s < m → p < length clafers → s < length clafers → path_within clafers n p ≡ path_within clafers m s → p ≡ s) → c ≡ d
        by None None f g h next = told c d listed listed' (f ∙ sym g) h
        by None (Some r) f g h next = absurd (dot_inside (path_within clafers m r) (name_of clafers d) (subst (λ z. list_all is_no_dot z ≡ true) (h ∙ assoc (path_within clafers m r) (name_of clafers d)) (name_no_dot c)))
        by (Some p) None f g h next = absurd (dot_inside (path_within clafers n p) (name_of clafers c) (subst (λ z. list_all is_no_dot z ≡ true) (sym h ∙ assoc (path_within clafers n p) (name_of clafers c)) (name_no_dot d)))
        by (Some p) (Some r) f g h next =
            let below = parent_before c p listed f in
            let below' = parent_before d r listed' g in
            let cut = cut_once (path_within clafers n p) (path_within clafers m r) (name_of clafers c) (name_of clafers d) (name_no_dot c) (name_no_dot d)
            (sym (assoc (path_within clafers n p) (name_of clafers c)) ∙ h ∙ assoc (path_within clafers m r) (name_of clafers d)) in
            let same = next p r (omega (arith, below, low)) (omega (arith, below', high)) (omega (arith, below, listed)) (omega (arith, below', listed')) cut.0 in
            told c d listed listed' (f ∙ ap (λ z. Some z) same ∙ sym g) cut.1

    -- a path is the name alone, or has a dot
    record HasDot (n d : ℕ) : Type 0 where
      before : List ℕ
      is : path_within clafers n d ≡ before ++ 46 ∷ name_of clafers d

    name_or_dot : (n d : ℕ) → d < n → (path_within clafers n d ≡ name_of clafers d) ⊎ HasDot n d
    name_or_dot zero d h = let no : ⊥ = omega (arith, h) in absurd no
    name_or_dot (suc n) d h = by (parent_of clafers d) refl
      where
        by : (q : Option ℕ) → parent_of clafers d ≡ q → (path_within clafers (suc n) d ≡ name_of clafers d) ⊎ HasDot (suc n) d
        by None e = inl (ap (λ q. front_of n q ++ name_of clafers d) e)
        by (Some p) e = inr (record { before = path_within clafers n p; is = ap (λ q. front_of n q ++ name_of clafers d) e ∙ append_assoc (path_within clafers n p) (46 ∷ []) (name_of clafers d) })

    -- two clafers of one name
    namesake : (c d : ℕ) → d < length clafers → name_of clafers c ≡ name_of clafers d → has_namesake clafers c ≡ false → c ≡ d
    namesake c d listed e none = by (d == c) refl
      where
        by : (b : Bool) → (d == c) ≡ b → c ≡ d
        by true h = sym (number_is d c h)
        by false h =
            absurd (true≢false (sym (any_in (λ x. not (x == c) && bytes_eq (name_of clafers x) (name_of clafers c)) (numbers_below (length clafers)) d (in_numbers (length clafers) d listed)
            (and_both (not (d == c)) (bytes_eq (name_of clafers d) (name_of clafers c)) (ap not h) (ap (bytes_eq (name_of clafers d)) e ∙ bytes_itself (name_of clafers d)))) ∙ none))

    name_is_path : (c d : ℕ) → d < length clafers → name_of clafers c ≡ path_of clafers d → has_namesake clafers c ≡ false → c ≡ d
    name_is_path c d listed e none = by (name_or_dot (length clafers) d listed)
      where
        by : (path_of clafers d ≡ name_of clafers d) ⊎ HasDot (length clafers) d → c ≡ d
        by (inl f) = namesake c d listed (e ∙ f) none
        by (inr f) = absurd (dot_inside f.before (name_of clafers d) (subst (λ z. list_all is_no_dot z ≡ true) (e ∙ f.is) (name_no_dot c)))

    shown_once : (c d : ℕ) → c < length clafers → d < length clafers → shown_clafer clafers c ≡ shown_clafer clafers d → c ≡ d
    shown_once c d low high e = by (has_namesake clafers c) (has_namesake clafers d) refl refl e
      where
        by : (a b : Bool) → has_namesake clafers c ≡ a → has_namesake clafers d ≡ b → (if a then path_of clafers c else name_of clafers c) ≡ (if b then path_of clafers d else name_of clafers d) → c ≡ d
        by true true f g h = path_once (length clafers) (length clafers) c d low high low high h
        by true false f g h = sym (name_is_path d c low (sym h) g)
        by false true f g h = name_is_path c d high h f
        by false false f g h = namesake c d high h f

    -- ---- looked up among all

    named_from : (k a c : ℕ) → a ≤ c → c < a + k → a + k ≤ length clafers → c < 2 ^ 32 → clafer_from a (map (shown_clafer clafers) (range_with_len a k)) (shown_clafer clafers c) ≡ Some c
    unfolding clafer_from
    named_from zero a c low high all small = let no : ⊥ = omega (arith, low, high) in absurd no
    named_from (suc k) a c low high all small = by (bytes_eq (shown_clafer clafers a) (shown_clafer clafers c)) refl (λ l. named_from k (a + 1) c l (omega (arith, high)) (omega (arith, all)) small)
      where
        less : (n : ℕ) → n < 2 ^ 32 → nat_lt n (2 ^ 32) ≡ true
        less n h = grind (arith, common_steps)

        same : bytes_eq (shown_clafer clafers a) (shown_clafer clafers c) ≡ true → a ≡ c
        same h = shown_once a c (omega (arith, low, high, all)) (omega (arith, high, all)) (bytes_same (shown_clafer clafers a) (shown_clafer clafers c) h)

        above : bytes_eq (shown_clafer clafers a) (shown_clafer clafers c) ≡ false → a + 1 ≤ c
        above h = next (λ e. true≢false (sym (bytes_itself (shown_clafer clafers a)) ∙ ap (λ z. bytes_eq (shown_clafer clafers a) (shown_clafer clafers z)) e ∙ h))
          where
            next : (a ≡ c → ⊥) → a + 1 ≤ c
            next k = grind (arith, common_steps, k, low)

        by : (b : Bool) → bytes_eq (shown_clafer clafers a) (shown_clafer clafers c) ≡ b
            → (a + 1 ≤ c → clafer_from (a + 1) (map (shown_clafer clafers) (range_with_len (a + 1) k)) (shown_clafer clafers c) ≡ Some c)
            → (if b then (if nat_lt a (2 ^ 32) then Some a else None) else clafer_from (a + 1) (map (shown_clafer clafers) (range_with_len (a + 1) k)) (shown_clafer clafers c)) ≡ Some c
        by true h next = ap (λ b. if b then Some a else None) (less a (omega (arith, low, small))) ∙ ap (λ z. Some z) (same h)
        by false h next = next (above h)

    pub are_names : AreNames clafers (map (shown_clafer clafers) (numbers_below (length clafers)))
    are_names = record {
      parts = shown_parts;
      found = λ c listed small. named_from (length clafers) 0 c (omega arith) (omega (arith, listed)) (omega arith) small;
    }

pub named_names : (model : Model) → IsNamed model → AreNames model.clafers (map (shown_clafer model.clafers) (numbers_below (length model.clafers)))
named_names model h = are_names model.clafers h.named h.told_apart h.parents_first
