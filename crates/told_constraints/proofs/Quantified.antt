-- Tuples of slots against tuples of nodes.
use Rattle.std.proofs.Common.{◌≡◌, ℕ, zero, suc, ◌+◌, ◌<◌, Bool, true, false, not, cond, ◌&&◌, ◌||◌, List, [], ◌∷◌, ◌++◌, map, length, refl, sym, ap, ◌∙◌, subst, arith}
use Rattle.std.specs.Prelude.{◌==◌, nat_eq, nat_lt, nat_le, replicate}
use Rattle.std.specs.List.{filter, list_any, list_all, flat_map, count_by, AllByRecursion}
use Rattle.std.proofs.lemmas.Bool.{true≢false}
use Rattle.std.proofs.lemmas.List.{map-append}
use Rattle.std.proofs.lemmas.List.Folds.{flat_map-map}
use Rattle.clf_tree.specs.declared.core_expr.Quantifier.{Quantifier}
use Rattle.clf_tree.specs.declared.core_expr.Quantifier.TheVariants as word
use Rattle.clf_tree.specs.declared.model.Clafer.{Clafer}
use Rattle.clf_tree.specs.declared.scopes.Scopes.{Scopes}
use Rattle.clf_tree.specs.declared.instance.Node.{Node}
use Rattle.clf_tree.specs.Lists.{tuples, each_two, each_pair, has}
use Rattle.clf_tree.specs.Nodes.{same_node}
use Rattle.clf_tree.specs.Meaning.{tried}
use Rattle.clf_tree.specs.CoreMeaning.{passes}
use Rattle.set_bits.specs.declared.layout.Layout.{Layout}
use Rattle.set_bits.specs.Fitting.{slot, slot_clafer}
use Rattle.shown_instance.specs.Shown.{is_live}
use Rattle.shown_instance.proofs.Counts.{count-cons}
use Rattle.shown_instance.proofs.Differing.{implies}
use Rattle.shown_instance.proofs.Once.{each_two-map}
use Rattle.shown_instance.proofs.Order.{both, together}
use Rattle.shown_instance.proofs.Whole.{numbers_from}
use Rattle.told_constraints.specs.Told.{members, all_slots, is_listed, tried_slots, as_many}
use Rattle.told_constraints.specs.Standing.{nodes_at, stand_for}
use Rattle.told_constraints.proofs.Lists.{filter_map, all_filter}
use Rattle.told_constraints.proofs.Setting.{Setting}
use Rattle.told_constraints.proofs.Sets.{Same, slots_same, tells_below}

-- ---- what holds of each tuple

all-append : {X : Type 0} (P : X → Type 0) (xs ys : List X) → AllByRecursion P xs → AllByRecursion P ys → AllByRecursion P (xs ++ ys)
all-append P [] ys h k = k
all-append P (x ∷ xs) ys h k = (h.0, all-append P xs ys h.1 k)

all-filter : {X : Type 0} (P : X → Type 0) (p : X → Bool) (xs : List X) → AllByRecursion P xs → AllByRecursion P (filter p xs)
all-filter P p [] h = tt
all-filter P p (x ∷ xs) h = pick (p x) (all-filter P p xs h.1)
  where
    pick : (b : Bool) → AllByRecursion P (filter p xs) → AllByRecursion P (cond b (x ∷ filter p xs) (filter p xs))
    pick true k = (h.0, k)
    pick false k = k

-- a tuple has as many items as asked for, and all of them pass a test
abbrev IsTuple : (ℕ → Bool) → ℕ → List ℕ → Type 0
IsTuple p n t = (length t ≡ n) × (list_all p t ≡ true)

longer : (p : ℕ → Bool) (n x : ℕ) (ts : List (List ℕ)) → p x ≡ true → AllByRecursion (IsTuple p n) ts
    → AllByRecursion (IsTuple p (suc n)) (map (λ t. x ∷ t) ts)
longer p n x [] here h = tt
longer p n x (t ∷ ts) here h = ((ap suc h.0.0, together (p x) (list_all p t) here h.0.1), longer p n x ts here h.1)

longer_each : (p : ℕ → Bool) (n : ℕ) (xs : List ℕ) (ts : List (List ℕ)) → list_all p xs ≡ true → AllByRecursion (IsTuple p n) ts
    → AllByRecursion (IsTuple p (suc n)) (flat_map (λ x. map (λ t. x ∷ t) ts) xs)
longer_each p n [] ts all h = tt
longer_each p n (x ∷ xs) ts all h =
    let j = both (p x) (list_all p xs) all in
    all-append (IsTuple p (suc n)) (map (λ t. x ∷ t) ts) (flat_map (λ y. map (λ t. y ∷ t) ts) xs) (longer p n x ts j.0 h)
    (longer_each p n xs ts j.1 h)

tuples-pass : (p : ℕ → Bool) (n : ℕ) (xs : List ℕ) → list_all p xs ≡ true → AllByRecursion (IsTuple p n) (tuples n xs)
tuples-pass p zero xs all = ((refl, refl), tt)
tuples-pass p (suc n) xs all = longer_each p n xs (tuples n xs) all (tuples-pass p n xs all)

tried-pass : (p : ℕ → Bool) (disj : Bool) (n : ℕ) (xs : List ℕ) → list_all p xs ≡ true
    → AllByRecursion (IsTuple p n) (tried_slots disj n xs)
tried-pass p true n xs all = all-filter (IsTuple p n) (each_two (λ a b. not (nat_eq a b))) (tuples n xs) (tuples-pass p n xs all)
tried-pass p false n xs all = tuples-pass p n xs all

-- ---- tuples of images

begun : {X Y : Type 0} (f : X → Y) (x : X) (ts : List (List X)) → map (λ t. f x ∷ t) (map (map f) ts) ≡ map (map f) (map (λ t. x ∷ t) ts)
begun f x [] = refl
begun f x (t ∷ ts) = ap (λ us. (f x ∷ map f t) ∷ us) (begun f x ts)

begun_each : {X Y : Type 0} (f : X → Y) (xs : List X) (ts : List (List X))
    → flat_map (λ x. map (λ t. f x ∷ t) (map (map f) ts)) xs ≡ map (map f) (flat_map (λ x. map (λ t. x ∷ t) ts) xs)
begun_each f [] ts = refl
begun_each f (x ∷ xs) ts =
    ap (λ us. us ++ flat_map (λ y. map (λ t. f y ∷ t) (map (map f) ts)) xs) (begun f x ts)
    ∙ ap (λ us. map (map f) (map (λ t. x ∷ t) ts) ++ us) (begun_each f xs ts)
    ∙ sym (map-append (map f) (map (λ t. x ∷ t) ts) (flat_map (λ y. map (λ t. y ∷ t) ts) xs))

tuples-map : {X Y : Type 0} (f : X → Y) (n : ℕ) (xs : List X) → tuples n (map f xs) ≡ map (map f) (tuples n xs)
tuples-map f zero xs = refl
tuples-map f (suc n) xs =
    ap (λ ts. flat_map (λ y. map (λ t. y ∷ t) ts) (map f xs)) (tuples-map f n xs)
    ∙ flat_map-map (λ y. map (λ t. y ∷ t) (map (map f) (tuples n xs))) f xs
    ∙ begun_each f xs (tuples n xs)

filter_each : {X : Type 0} (P : X → Type 0) (p q : X → Bool) (xs : List X) → ((x : X) → P x → p x ≡ q x) → AllByRecursion P xs
    → filter p xs ≡ filter q xs
filter_each P p q [] h all = refl
filter_each P p q (x ∷ xs) h all = ap (λ b. cond b (x ∷ filter p xs) (filter p xs)) (h x all.0)
    ∙ ap (λ ys. cond (q x) (x ∷ ys) ys) (filter_each P p q xs h all.1)

module _ (within : ℕ → Bool) (p q : ℕ → ℕ → Bool) (h : (i j : ℕ) → within i ≡ true → within j ≡ true → p i j ≡ q i j) where
  row_same : (i : ℕ) (xs : List ℕ) → within i ≡ true → list_all within xs ≡ true → list_all (p i) xs ≡ list_all (q i) xs
  row_same i [] here all = refl
  row_same i (x ∷ xs) here all =
      let j = both (within x) (list_all within xs) all in
      ap (λ b. b && list_all (p i) xs) (h i x here j.0) ∙ ap (λ b. q i x && b) (row_same i xs here j.1)

  two_same : (xs : List ℕ) → list_all within xs ≡ true → each_two p xs ≡ each_two q xs
  two_same [] all = refl
  two_same (x ∷ xs) all =
      let j = both (within x) (list_all within xs) all in
      ap (λ b. b && each_two p xs) (row_same x xs j.0 j.1) ∙ ap (λ b. list_all (q x) xs && b) (two_same xs j.1)

-- ---- as many as a word asks for

module _ {X Y : Type 0} (P : X → Type 0) (f : X → Bool) (g : Y → Bool) (v : X → Y) (agree : (x : X) → P x → f x ≡ g (v x)) where
  each_agrees : (xs : List X) → AllByRecursion P xs → list_all f xs ≡ list_all g (map v xs)
  each_agrees [] h = refl
  each_agrees (x ∷ xs) h = ap (λ b. b && list_all f xs) (agree x h.0) ∙ ap (λ b. g (v x) && b) (each_agrees xs h.1)

  some_agrees : (xs : List X) → AllByRecursion P xs → list_any f xs ≡ list_any g (map v xs)
  some_agrees [] h = refl
  some_agrees (x ∷ xs) h = ap (λ b. b || list_any f xs) (agree x h.0) ∙ ap (λ b. g (v x) || b) (some_agrees xs h.1)

  count_agrees : (xs : List X) → AllByRecursion P xs → count_by f xs ≡ count_by g (map v xs)
  count_agrees [] h = refl
  count_agrees (x ∷ xs) h =
      count-cons f x xs ∙ ap (λ b. cond b 1 0 + count_by f xs) (agree x h.0) ∙ ap (λ n. cond (g (v x)) 1 0 + n) (count_agrees xs h.1)
      ∙ sym (count-cons g (v x) (map v xs))

many_agree : (P : List ℕ → Type 0) (f : List ℕ → Bool) (g : List Node → Bool) (v : List ℕ → List Node)
    → ((t : List ℕ) → P t → f t ≡ g (v t)) → (w : Quantifier) (ts : List (List ℕ)) → AllByRecursion P ts
    → as_many w f ts ≡ passes w g (map v ts)
unfolding as_many
many_agree P f g v agree word.All ts h = each_agrees P f g v agree ts h
many_agree P f g v agree word.Some ts h = some_agrees P f g v agree ts h
many_agree P f g v agree word.One ts h = ap (λ n. n == 1) (count_agrees P f g v agree ts h)
many_agree P f g v agree word.Lone ts h = ap (λ n. nat_le n 1) (count_agrees P f g v agree ts h)

-- ---- bound slots

pairs-append : {X Y : Type 0} (test : X → Y → Bool) (xs : List X) (ys : List Y) (us : List X) (vs : List Y)
    → each_pair test xs ys ≡ true → each_pair test us vs ≡ true → each_pair test (xs ++ us) (ys ++ vs) ≡ true
pairs-append test [] [] us vs h k = k
pairs-append test [] (y ∷ ys) us vs h k = absurd (true≢false (sym h))
pairs-append test (x ∷ xs) [] us vs h k = absurd (true≢false (sym h))
pairs-append test (x ∷ xs) (y ∷ ys) us vs h k =
    let j = both (test x y) (each_pair test xs ys) h in together (test x y) (each_pair test (xs ++ us) (ys ++ vs)) j.0
    (pairs-append test xs ys us vs j.1 k)

pairs-copies : {X Y : Type 0} (test : X → Y → Bool) (x : X) (ys : List Y) → list_all (test x) ys ≡ true
    → each_pair test (replicate (length ys) x) ys ≡ true
pairs-copies test x [] h = refl
pairs-copies test x (y ∷ ys) h =
    let j = both (test x y) (list_all (test x) ys) h in together (test x y) (each_pair test (replicate (length ys) x) ys) j.0
    (pairs-copies test x ys j.1)

-- whether a slot can be bound where nodes of listed clafers are asked for
abbrev pub may_stand : Layout → List Bool → List ℕ → ℕ → Bool
may_stand layout bits ks i = is_listed layout ks i && is_live layout bits i

pub stand_more : (layout : Layout) (bits : List Bool) (given : List (List ℕ)) (held : List ℕ) (ks : List ℕ) (n : ℕ) (t : List ℕ)
    → stand_for layout bits given held ≡ true → length t ≡ n → list_all (may_stand layout bits ks) t ≡ true
    → stand_for layout bits (given ++ replicate n ks) (held ++ t) ≡ true
stand_more layout bits given held ks n t stand long all =
    pairs-append (may_stand layout bits) given held (replicate n ks) t stand
    (subst (λ m. each_pair (may_stand layout bits) (replicate m ks) t ≡ true) long (pairs-copies (may_stand layout bits) ks t all))

-- ---- quantifiers

module _ (clafers : List Clafer) (scopes : Scopes) (layout : Layout) (bits : List Bool) (s : Setting clafers scopes layout bits) where
  members_pass : (p q : ℕ → Bool) → ((i : ℕ) → i < length layout.slots → p i ≡ true → q i ≡ true) → list_all q (members layout p) ≡ true
  unfolding members
  members_pass p q h =
      all_filter q p (all_slots layout) ∙ numbers_from (λ i. not (p i) || q i) 0 (length layout.slots)
      (λ i l u. implies (p i) (q i) (h i (omega (arith, u))))

  tried_map : (disj : Bool) (n : ℕ) (xs : List ℕ) → list_all (λ i. nat_lt i (length layout.slots)) xs ≡ true
      → tried disj n (nodes_at layout xs) ≡ map (nodes_at layout) (tried_slots disj n xs)
  tried_map false n xs all = tuples-map (slot layout.slots) n xs
  tried_map true n xs all =
      ap (filter (each_two (λ a b. not (same_node a b)))) (tuples-map (slot layout.slots) n xs)
      ∙ filter_map (each_two (λ a b. not (same_node a b))) (nodes_at layout) (tuples n xs)
      ∙ ap (map (nodes_at layout))
      (filter_each (IsTuple (λ i. nat_lt i (length layout.slots)) n) (λ t. each_two (λ a b. not (same_node a b)) (nodes_at layout t))
      (each_two (λ a b. not (nat_eq a b))) (tuples n xs)
      (λ t fit. each_two-map (λ a b. not (same_node a b)) (slot layout.slots) t
      ∙ two_same (λ i. nat_lt i (length layout.slots)) (λ i j. not (same_node (slot layout.slots i) (slot layout.slots j)))
      (λ a b. not (nat_eq a b))
      (λ i j h l. ap not (slots_same clafers scopes layout bits s i j (tells_below i (length layout.slots) h)
      (tells_below j (length layout.slots) l))) t fit.1)
      (tuples-pass (λ i. nat_lt i (length layout.slots)) n xs all))

  -- a quantifier over slots of listed clafers, whose body agrees at each tuple of them
  pub many_same : (w : Quantifier) (disj : Bool) (n : ℕ) (ks : List ℕ) (p : ℕ → Bool) (ns : List Node) (f : List ℕ → Bool)
      (g : List Node → Bool)
      → Same layout bits p ns → ((i : ℕ) → p i ≡ true → is_listed layout ks i ≡ true)
      → ((t : List ℕ) → length t ≡ n → list_all (may_stand layout bits ks) t ≡ true → f t ≡ g (nodes_at layout t))
      → as_many w f (tried_slots disj n (members layout p)) ≡ passes w g (tried disj n ns)
  unfolding is_listed
  many_same w disj n ks p ns f g same listed body =
      many_agree (IsTuple (may_stand layout bits ks) n) f g (nodes_at layout) (λ t fit. body t fit.0 fit.1) w
      (tried_slots disj n (members layout p))
      (tried-pass (may_stand layout bits ks) disj n (members layout p)
      (members_pass p (may_stand layout bits ks) (λ i l t. together (is_listed layout ks i) (is_live layout bits i) (listed i t)
      (same.live i l t))))
      ∙ ap (passes w g) (sym (tried_map disj n (members layout p)
      (members_pass p (λ i. nat_lt i (length layout.slots))
      (λ i l t. (both (nat_lt i (length layout.slots)) (listed_there i) (listed i t)).0))) ∙ ap (tried disj n) same.list)
    where
      listed_there : ℕ → Bool
      listed_there i = has ks (slot_clafer layout.slots i)
