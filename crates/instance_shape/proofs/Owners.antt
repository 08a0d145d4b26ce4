-- Whether a node is one of those of an instance that pass a test of their clafers.
use Rattle.std.proofs.Common.{◌≡◌, ◌≢◌, ℕ, zero, suc, ◌+◌, ◌<◌, ◌≤◌, Bool, true, false, not, cond, ◌&&◌, ◌||◌, List, [], ◌∷◌, ◌++◌, length, map, Option, Some, None, refl, ap, sym, ◌∙◌, arith, ◌⊎◌, inl, inr}
use Rattle.std.specs.Prelude.{◌==◌, eqb, slice_get}
use Rattle.std.specs.Option.{option_map_or}
use Rattle.std.specs.List.{filter, list_any}
use Rattle.std.proofs.lemmas.Grind.{common_steps}
use Rattle.std.proofs.lemmas.Bool.Decides.{eqb_tells}
use Rattle.std.proofs.lemmas.Bool.{true≢false}
use Rattle.std.proofs.lemmas.Option.{slice_get_within, slice_get_past}
use Rattle.std.proofs.lemmas.List.Folds.{list_any-append}
use Rattle.std.proofs.lemmas.List.Elements.{filter-append}
use Rattle.clf_tree.specs.declared.model.Clafer.{Clafer}
use Rattle.clf_tree.specs.declared.instance.Node.{Node}
use Rattle.clf_tree.specs.declared.instance.Entry.{Entry}
use Rattle.clf_tree.specs.Lists.{has, numbers_below}
use Rattle.clf_tree.specs.Hierarchy.{is_concrete, is_a, concrete_below}
use Rattle.clf_tree.specs.Nodes.{same_node, has_node, nodes_of}
use Rattle.clf_tree.specs.Shape.{instances}
use Rattle.instance_shape.proofs.Numbers.{numbers-more}

or_false : (b : Bool) → (b || false) ≡ b
or_false true = refl
or_false false = refl

and_false : (b : Bool) → (b && false) ≡ false
and_false true = refl
and_false false = refl

and_true : (b : Bool) → (b && true) ≡ b
and_true true = refl
and_true false = refl

same_equal : (m n : Node) → same_node m n ≡ true → m ≡ n
same_equal m n h = grind (arith, common_steps)

-- one more number
has-more : (p : ℕ → Bool) (n d : ℕ) → has (filter p (numbers_below (n + 1))) d ≡ (has (filter p (numbers_below n)) d || (p n && (d == n)))
has-more p n d =
    ap (λ xs. has (filter p xs) d) (numbers-more n) ∙ ap (λ xs. has xs d) (filter-append p (numbers_below n) (n ∷ []))
    ∙ list_any-append (λ y. d == y) (filter p (numbers_below n)) (filter p (n ∷ [])) ∙ ap (λ b. has (filter p (numbers_below n)) d || b) (last (p n))
  where
    last : (b : Bool) → has (cond b (n ∷ []) []) d ≡ (b && (d == n))
    last true = or_false (d == n)
    last false = refl

differ : (d n : ℕ) → d ≢ n → (d == n) ≡ false
differ d n ne = pick (eqb_tells d n)
  where
    pick : ((eqb d n ≡ true) × (d ≡ n)) ⊎ ((eqb d n ≡ false) × (d ≢ n)) → (d == n) ≡ false
    pick (inl h) = absurd (ne h.1)
    pick (inr h) = h.0

more : (n : ℕ) → suc n ≡ n + 1
more n = omega arith

beyond : (n d : ℕ) → suc n ≤ d → d ≢ n
beyond n d far e = omega (arith, far, e)

has-beyond : (p : ℕ → Bool) (n d : ℕ) → n ≤ d → has (filter p (numbers_below n)) d ≡ false
has-beyond p zero d far = refl
has-beyond p (suc n) d far =
    ap (λ m. has (filter p (numbers_below m)) d) (more n) ∙ has-more p n d
    ∙ ap (λ b. b || (p n && (d == n))) (has-beyond p n d (omega (arith, far)))
    ∙ ap (λ b. p n && b) (differ d n (beyond n d far)) ∙ and_false (p n)

has-within : (p : ℕ → Bool) (n d : ℕ) → d < n → has (filter p (numbers_below n)) d ≡ p d
has-within p zero d near = absurd (omega (arith, near))
has-within p (suc n) d near =
    ap (λ m. has (filter p (numbers_below m)) d) (more n) ∙ has-more p n d
    ∙ choose (eqb_tells d n) (λ near_n. has-within p n d near_n)
  where
    choose : ((eqb d n ≡ true) × (d ≡ n)) ⊎ ((eqb d n ≡ false) × (d ≢ n)) → (d < n → has (filter p (numbers_below n)) d ≡ p d)
        → (has (filter p (numbers_below n)) d || (p n && (d == n))) ≡ p d
    choose (inl h) before =
        ap (λ b. b || (p n && (d == n))) (has-beyond p n d (omega (arith, h.1))) ∙ ap (λ b. p n && b) h.0 ∙ and_true (p n) ∙ ap p (sym h.1)
    choose (inr h) before =
        ap (λ b. b || (p n && (d == n))) (before (omega (arith, near, h.1))) ∙ ap (λ b. p d || (p n && b)) h.0 ∙ ap (λ b. p d || b) (and_false (p n)) ∙ or_false (p d)

has-concrete : (clafers : List Clafer) (c d : ℕ) → has (concrete_below clafers c) d ≡ (is_concrete clafers d && is_a clafers d c)
has-concrete clafers c d = pick (slice_get clafers d) refl
  where
    test : ℕ → Bool
    test e = is_concrete clafers e && is_a clafers e c

    within : d < length clafers → has (concrete_below clafers c) d ≡ (is_concrete clafers d && is_a clafers d c)
    within near = has-within test (length clafers) d near

    outside : length clafers ≤ d → (is_concrete clafers d && is_a clafers d c) ≡ false
    outside far = ap (λ (o : Option Clafer). option_map_or (λ k. not k.is_abstract) o false && is_a clafers d c) (slice_get_past clafers d far)

    pick : (o : Option Clafer) → slice_get clafers d ≡ o → has (concrete_below clafers c) d ≡ (is_concrete clafers d && is_a clafers d c)
    pick (Some k) e = within (slice_get_within clafers d k e)
    pick None e = elim (cases (length clafers) d) [
      | inl far ↦ has-beyond test (length clafers) d far ∙ sym (outside far)
      | inr near ↦ within near
    ]
      where
        cases : (m n : ℕ) → (m ≤ n) ⊎ (n < m)
        cases zero n = inl (omega arith)
        cases (suc m) zero = inr (omega arith)
        cases (suc m) (suc n) = elim (cases m n) [
          | inl h ↦ inl (omega (arith, h))
          | inr h ↦ inr (omega (arith, h))
        ]

-- a node that passes a test is among those that pass it where it is among all
has-filter : (t : ℕ → Bool) (ns : List Node) (n : Node) → has_node (filter (λ m. t m.clafer) ns) n ≡ (t n.clafer && has_node ns n)
has-filter t [] n = sym (and_false (t n.clafer))
has-filter t (m ∷ ns) n = pick (t m.clafer) refl (same_node n m) refl (has-filter t ns n)
  where
    pick : (b : Bool) → t m.clafer ≡ b → (s : Bool) → same_node n m ≡ s → has_node (filter (λ m. t m.clafer) ns) n ≡ (t n.clafer && has_node ns n)
        → has_node (cond b (m ∷ filter (λ m. t m.clafer) ns) (filter (λ m. t m.clafer) ns)) n ≡ (t n.clafer && (s || has_node ns n))
    pick true e true f rest = ap (λ s. s || has_node (filter (λ m. t m.clafer) ns) n) f ∙ sym (ap (λ b. b && true) (ap (λ k. t k.clafer) (same_equal n m f) ∙ e))
    pick true e false f rest = ap (λ s. s || has_node (filter (λ m. t m.clafer) ns) n) f ∙ rest
    pick false e true f rest =
        rest ∙ ap (λ b. b && has_node ns n) (ap (λ k. t k.clafer) (same_equal n m f) ∙ e) ∙ sym (ap (λ b. b && true) (ap (λ k. t k.clafer) (same_equal n m f) ∙ e))
    pick false e false f rest = rest

pub live_owner : (clafers : List Clafer) (c : ℕ) (ns : List Node) (n : Node)
    → has_node (filter (λ m. has (concrete_below clafers c) m.clafer) ns) n ≡ (is_concrete clafers n.clafer && is_a clafers n.clafer c && has_node ns n)
live_owner clafers c ns n = has-filter (has (concrete_below clafers c)) ns n ∙ ap (λ b. b && has_node ns n) (has-concrete clafers c n.clafer)

nodes-filter : (t : ℕ → Bool) (xs : List Entry) → nodes_of (filter (λ e. t e.node.clafer) xs) ≡ filter (λ m. t m.clafer) (nodes_of xs)
nodes-filter t [] = refl
nodes-filter t (x ∷ xs) = pick (t x.node.clafer) (nodes-filter t xs)
  where
    pick : (b : Bool) → nodes_of (filter (λ e. t e.node.clafer) xs) ≡ filter (λ m. t m.clafer) (nodes_of xs) → nodes_of (cond b (x ∷ filter (λ e. t e.node.clafer) xs) (filter (λ e. t e.node.clafer) xs)) ≡ cond b (x.node ∷ filter (λ m. t m.clafer) (nodes_of xs)) (filter (λ m. t m.clafer) (nodes_of xs))
    pick true rest = ap (λ ns. x.node ∷ ns) rest
    pick false rest = rest

pub live_instance : (clafers : List Clafer) (entries : List Entry) (c : ℕ) (n : Node)
    → has_node (nodes_of (instances clafers entries c)) n ≡ (is_a clafers n.clafer c && has_node (nodes_of entries) n)
live_instance clafers entries c n =
    ap (λ ns. has_node ns n) (nodes-filter (λ d. is_a clafers d c) entries) ∙ has-filter (λ d. is_a clafers d c) (nodes_of entries) n
