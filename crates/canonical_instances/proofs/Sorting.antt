-- Entries put in the order of their nodes.
use Rattle.std.proofs.Common.{◌≡◌, Bool, true, false, ◌&&◌, List, [], ◌∷◌, cond, refl, ap, sym, ◌∙◌, arith}
use Rattle.std.specs.Prelude.{IsPermutation}
use Rattle.std.specs.List.{list_all, IsDistinct, AllByRecursion}
use Rattle.std.proofs.lemmas.Grind.{common_steps}
use Rattle.std.proofs.lemmas.List.Sorted.{IsPermutation-refl, IsPermutation-cons, IsPermutation-trans, IsPermutation-middle}
use Rattle.clf_tree.specs.declared.instance.Node.{Node}
use Rattle.clf_tree.specs.declared.instance.Entry.{Entry}
use Rattle.clf_tree.specs.Nodes.{same_node, is_before, is_ordered, nodes_of}
use Rattle.clf_tree.proofs.Items.{and_left, and_right}

abbrev put : Entry → List Entry → List Entry
put x [] = x ∷ []
put x (y ∷ ys) = cond (is_before y.node x.node) (y ∷ put x ys) (x ∷ y ∷ ys)

abbrev pub arranged : List Entry → List Entry
arranged [] = []
arranged (x ∷ xs) = put x (arranged xs)

-- ---- the same entries

put_permutes : (x : Entry) (ys : List Entry) → IsPermutation (x ∷ ys) (put x ys)
put_permutes x [] = IsPermutation-refl (x ∷ [])
put_permutes x (y ∷ ys) = by (is_before y.node x.node) (put_permutes x ys)
  where
    by : (b : Bool) → IsPermutation (x ∷ ys) (put x ys) → IsPermutation (x ∷ y ∷ ys) (cond b (y ∷ put x ys) (x ∷ y ∷ ys))
    by true rest =
        IsPermutation-trans (x ∷ y ∷ ys) (y ∷ x ∷ ys) (y ∷ put x ys) (IsPermutation-middle (x ∷ []) y ys)
        (IsPermutation-cons y (x ∷ ys) (put x ys) rest)
    by false rest = IsPermutation-refl (x ∷ y ∷ ys)

pub arranged_permutes : (xs : List Entry) → IsPermutation xs (arranged xs)
arranged_permutes [] = IsPermutation-refl []
arranged_permutes (x ∷ xs) =
    IsPermutation-trans (x ∷ xs) (x ∷ arranged xs) (put x (arranged xs)) (IsPermutation-cons x xs (arranged xs) (arranged_permutes xs))
    (put_permutes x (arranged xs))

three : (a b c : Bool) → (a && (b && c)) ≡ (b && (a && c))
three true b c = refl
three false true c = refl
three false false c = refl

module _ (p : Entry → Bool) where
  all_put : (x : Entry) (ys : List Entry) → list_all p (put x ys) ≡ (p x && list_all p ys)
  all_put x [] = refl
  all_put x (y ∷ ys) = by (is_before y.node x.node) (all_put x ys)
    where
      by : (b : Bool) → list_all p (put x ys) ≡ (p x && list_all p ys)
          → list_all p (cond b (y ∷ put x ys) (x ∷ y ∷ ys)) ≡ (p x && (p y && list_all p ys))
      by true rest = ap (λ b. p y && b) rest ∙ three (p y) (p x) (list_all p ys)
      by false rest = refl

  all_arranged : (xs : List Entry) → list_all p (arranged xs) ≡ list_all p xs
  all_arranged [] = refl
  all_arranged (x ∷ xs) = all_put x (arranged xs) ∙ ap (λ b. p x && b) (all_arranged xs)

-- ---- in order

before_after : (m n : Node) → is_before n m ≡ false → same_node m n ≡ false → is_before m n ≡ true
before_after m n p q = grind (arith, common_steps)

before_trans : (l m n : Node) → is_before l m ≡ true → is_before m n ≡ true → is_before l n ≡ true
before_trans l m n p q = grind (arith, common_steps)

both : (a b : Bool) → a ≡ true → b ≡ true → (a && b) ≡ true
both true true p q = refl
both true false p q = q
both false b p q = p

all_before : (l m : Node) (es : List Entry) → is_before l m ≡ true → list_all (λ (e : Entry). is_before m e.node) es ≡ true
    → list_all (λ (e : Entry). is_before l e.node) es ≡ true
all_before l m [] p h = refl
all_before l m (e ∷ es) p h =
    both (is_before l e.node) (list_all (λ (x : Entry). is_before l x.node) es)
    (before_trans l m e.node p (and_left (is_before m e.node) (list_all (λ (x : Entry). is_before m x.node) es) h))
    (all_before l m es p (and_right (is_before m e.node) (list_all (λ (x : Entry). is_before m x.node) es) h))

abbrev differs : Node → Entry → Bool
differs m e = cond (same_node m e.node) false true

not_same : (m : Node) (e : Entry) (b : Bool) → same_node m e.node ≡ b → cond b false true ≡ true → same_node m e.node ≡ false
not_same m e true s h = s ∙ sym h
not_same m e false s h = s

ordered_put : (x : Entry) (ys : List Entry) → is_ordered ys ≡ true → list_all (differs x.node) ys ≡ true → is_ordered (put x ys) ≡ true
ordered_put x [] ordered apart = refl
ordered_put x (y ∷ ys) ordered apart = by (is_before y.node x.node) refl
    (ordered_put x ys rest (and_right (differs x.node y) (list_all (differs x.node) ys) apart))
  where
    rest : is_ordered ys ≡ true
    rest = and_right (list_all (λ (e : Entry). is_before y.node e.node) ys) (is_ordered ys) ordered

    above : list_all (λ (e : Entry). is_before y.node e.node) ys ≡ true
    above = and_left (list_all (λ (e : Entry). is_before y.node e.node) ys) (is_ordered ys) ordered

    by : (b : Bool) → is_before y.node x.node ≡ b → is_ordered (put x ys) ≡ true → is_ordered (cond b (y ∷ put x ys) (x ∷ y ∷ ys)) ≡ true
    by true e more =
        both (list_all (λ (z : Entry). is_before y.node z.node) (put x ys)) (is_ordered (put x ys))
        (all_put (λ (z : Entry). is_before y.node z.node) x ys
        ∙ both (is_before y.node x.node) (list_all (λ (z : Entry). is_before y.node z.node) ys) e above) more
    by false e more =
        let here : is_before x.node y.node ≡ true =
        before_after x.node y.node e (not_same x.node y (same_node x.node y.node) refl
        (and_left (differs x.node y) (list_all (differs x.node) ys) apart)) in
        both (is_before x.node y.node && list_all (λ (z : Entry). is_before x.node z.node) ys) (is_ordered (y ∷ ys))
        (both (is_before x.node y.node) (list_all (λ (z : Entry). is_before x.node z.node) ys) here
        (all_before x.node y.node ys here above)) ordered

all_differ : (m : Node) (es : List Entry) → AllByRecursion (λ n. same_node m n ≡ false) (nodes_of es) → list_all (differs m) es ≡ true
all_differ m [] h = refl
all_differ m (e ∷ es) h = both (differs m e) (list_all (differs m) es) (ap (λ b. cond b false true) h.0) (all_differ m es h.1)

pub arranged_ordered : (xs : List Entry) → IsDistinct same_node (nodes_of xs) → is_ordered (arranged xs) ≡ true
unfolding IsDistinct
arranged_ordered [] apart = refl
arranged_ordered (x ∷ xs) apart =
    ordered_put x (arranged xs) (arranged_ordered xs apart.1) (all_arranged (differs x.node) xs ∙ all_differ x.node xs apart.0)
