-- Counts of children, and tests of instances.
use Rattle.std.proofs.Common.{◌≡◌, ℕ, ◌+◌, Bool, true, false, not, cond, ◌&&◌, ◌||◌, List, [], ◌∷◌, map, length, refl, ap, sym, ◌∙◌, arith}
use Rattle.std.specs.Prelude.{count_by}
use Rattle.std.specs.List.{filter, list_all, sum_by}
use Rattle.clf_tree.specs.declared.model.Clafer.{Clafer}
use Rattle.clf_tree.specs.declared.instance.Node.{Node}
use Rattle.clf_tree.specs.declared.instance.Entry.{Entry}
use Rattle.clf_tree.specs.Hierarchy.{is_a}
use Rattle.clf_tree.specs.Nodes.{nodes_of}
use Rattle.clf_tree.specs.Shape.{instances, is_child_of}
use Rattle.instance_tables.specs.Children.{children_of}
use Rattle.std.proofs.lemmas.List.Sums.{sum_by-cons, length-filter}
use Rattle.clf_tree.specs.Kinds.{is_child}

nothing : (n : ℕ) → 0 + n ≡ n
nothing n = omega arith

module _ {X : Type 0} where
  one : (p : X → Bool) (x : X) (xs : List X) → count_by p (x ∷ xs) ≡ cond (p x) 1 0 + count_by p xs
  one p x xs = sum_by-cons (λ y. cond (p y) 1 0) x xs

  of-filter : (p q : X → Bool) (xs : List X) → count_by p (filter q xs) ≡ count_by (λ x. p x && q x) xs
  of-filter p q [] = refl
  of-filter p q (x ∷ xs) = pick (p x) (q x) refl refl (of-filter p q xs) ∙ sym (one (λ y. p y && q y) x xs)
    where
      pick : (a b : Bool) → p x ≡ a → q x ≡ b → count_by p (filter q xs) ≡ count_by (λ y. p y && q y) xs
          → count_by p (cond b (x ∷ filter q xs) (filter q xs)) ≡ cond (p x && b) 1 0 + count_by (λ y. p y && q y) xs
      pick true true e f rest = one p x (filter q xs) ∙ ap (λ c. cond c 1 0 + count_by p (filter q xs)) e ∙ ap (λ n. 1 + n) rest ∙ ap (λ c. cond (c && true) 1 0 + count_by (λ y. p y && q y) xs) (sym e)
      pick false true e f rest = one p x (filter q xs) ∙ ap (λ c. cond c 1 0 + count_by p (filter q xs)) e ∙ ap (λ n. 0 + n) rest ∙ ap (λ c. cond (c && true) 1 0 + count_by (λ y. p y && q y) xs) (sym e)
      pick true false e f rest = rest ∙ sym (nothing (count_by (λ y. p y && q y) xs)) ∙ ap (λ c. cond (c && false) 1 0 + count_by (λ y. p y && q y) xs) (sym e)
      pick false false e f rest = rest ∙ sym (nothing (count_by (λ y. p y && q y) xs)) ∙ ap (λ c. cond (c && false) 1 0 + count_by (λ y. p y && q y) xs) (sym e)

  pub each_filtered : (p q : X → Bool) (xs : List X) → list_all q (filter p xs) ≡ list_all (λ x. not (p x) || q x) xs
  each_filtered p q [] = refl
  each_filtered p q (x ∷ xs) = pick (p x) (each_filtered p q xs)
    where
      pick : (b : Bool) → list_all q (filter p xs) ≡ list_all (λ y. not (p y) || q y) xs → list_all q (cond b (x ∷ filter p xs) (filter p xs)) ≡ ((not b || q x) && list_all (λ y. not (p y) || q y) xs)
      pick true rest = ap (λ b. q x && b) rest
      pick false rest = rest

of-nodes : (p : Entry → Bool) (t : Node → Bool) (xs : List Entry) → count_by t (nodes_of (filter p xs)) ≡ count_by (λ x. p x && t x.node) xs
of-nodes p t [] = refl
of-nodes p t (x ∷ xs) = pick (p x) (of-nodes p t xs) ∙ sym (one (λ y. p y && t y.node) x xs)
  where
    pick : (b : Bool) → count_by t (nodes_of (filter p xs)) ≡ count_by (λ y. p y && t y.node) xs
        → count_by t (nodes_of (cond b (x ∷ filter p xs) (filter p xs))) ≡ cond (b && t x.node) 1 0 + count_by (λ y. p y && t y.node) xs
    pick true rest = one t x.node (nodes_of (filter p xs)) ∙ ap (λ n. cond (t x.node) 1 0 + n) rest
    pick false rest = rest ∙ sym (nothing (count_by (λ y. p y && t y.node) xs))

-- the children that are instances of a clafer, and those that are declared under it
pub count_below : (clafers : List Clafer) (entries : List Entry) (e : Entry) (c : ℕ)
    → count_by (is_child_of e) (instances clafers entries c) ≡ count_by (λ n. is_a clafers n.clafer c) (children_of entries e.node)
count_below clafers entries e c =
    of-filter (is_child_of e) (λ x. is_a clafers x.node.clafer c) entries ∙ sym (of-nodes (is_child_of e) (λ n. is_a clafers n.clafer c) entries)

pub count_under : (clafers : List Clafer) (entries : List Entry) (e : Entry) (c : ℕ)
    → count_by (λ x. is_child_of e x && is_child clafers c x.node.clafer) entries ≡ count_by (λ n. is_child clafers c n.clafer) (children_of entries e.node)
count_under clafers entries e c = sym (of-nodes (is_child_of e) (λ n. is_child clafers c n.clafer) entries)

-- all instances
pub count_every : (clafers : List Clafer) (entries : List Entry) (c : ℕ) → length (instances clafers entries c) ≡ count_by (λ x. is_a clafers x.node.clafer c) entries
count_every clafers entries c = length-filter (λ x. is_a clafers x.node.clafer c) entries

pub ruleset count_steps = (count_below, count_under, count_every)
