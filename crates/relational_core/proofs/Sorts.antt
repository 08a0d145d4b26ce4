-- The value of an expression is of the sort of its kind.
use Rattle.std.proofs.Common.{◌≡◌, ℕ, Bool, true, false, List, [], ◌∷◌, Option, Some, None, refl, cond}
use Rattle.std.specs.Option.{option_map, option_map_or, option_and_then}
use Rattle.clf_tree.specs.declared.model.Clafer.{Clafer}
use Rattle.clf_tree.specs.declared.instance.Node.{Node}
use Rattle.clf_tree.specs.declared.instance.Entry.{Entry}
use Rattle.clf_tree.specs.declared.kind.Kind.{Kind}
use Rattle.clf_tree.specs.declared.kind.Kind.TheVariants as kinds
use Rattle.clf_tree.specs.declared.kind.Reading.{Reading}
use Rattle.clf_tree.specs.Tree as e
use Rattle.clf_tree.specs.Tree.{Tree}
use Rattle.clf_tree.specs.Lists.{from_end}
use Rattle.clf_tree.specs.Hierarchy.{refer_to_int, targets_of, share}
use Rattle.clf_tree.specs.Kinds.{kind, clafers_of, parent_kind, parents_of, dref_kind, union_kind, left_kind, branch_kind, compared_kind, reading, reading_of}
use Rattle.clf_tree.specs.Meaning.{Value, Truth, Integer, Nodes, Situation, value, is_true, nodes, taken_as, equal, part}

abbrev pub has_sort : Option Kind → Value → Bool
has_sort None v = true
has_sort (Some kinds.Truth) (Truth b) = true
has_sort (Some kinds.Integer) (Integer z) = true
has_sort (Some (kinds.Nodes ks)) (Nodes ns) = true
has_sort (Some (kinds.Numbers ks)) (Nodes ns) = true
has_sort _ _ = false

single : {X : Type 0} (f : X → List ℕ) (o : Option X) (ns : List Node) → has_sort (option_map (λ x. kinds.Nodes (f x)) o) (Nodes ns) ≡ true
single f None ns = refl
single f (Some x) ns = refl

parents-sort : (ps : List ℕ) (ns : List Node) → has_sort (parent_kind ps) (Nodes ns) ≡ true
parents-sort [] ns = refl
parents-sort (p ∷ ps) ns = refl

dref-pick : (b : Bool) (ks : List ℕ) (o : Option (List ℕ)) (ns : List Node) → has_sort (cond b (Some (kinds.Numbers ks)) (option_map (λ ts. kinds.Nodes ts) o)) (Nodes ns) ≡ true
dref-pick true ks o ns = refl
dref-pick false ks None ns = refl
dref-pick false ks (Some ts) ns = refl

dref-sort : (clafers : List Clafer) (k : Option Kind) (ns : List Node) → has_sort (dref_kind clafers k) (Nodes ns) ≡ true
dref-sort clafers None ns = refl
dref-sort clafers (Some kinds.Truth) ns = refl
dref-sort clafers (Some kinds.Integer) ns = refl
dref-sort clafers (Some (kinds.Nodes ks)) ns = dref-pick (refer_to_int clafers ks) ks (targets_of clafers ks) ns
dref-sort clafers (Some (kinds.Numbers ks)) ns = refl

union-sort : (a b : Option Kind) (ns : List Node) → has_sort (union_kind a b) (Nodes ns) ≡ true
union-sort (Some (kinds.Nodes ks)) (Some (kinds.Nodes ls)) ns = refl
union-sort (Some (kinds.Nodes ks)) None ns = refl
union-sort (Some (kinds.Nodes ks)) (Some _) ns = refl
union-sort None b ns = refl
union-sort (Some _) b ns = refl

left-pick : (b : Bool) (ks : List ℕ) (ns : List Node) → has_sort (cond b (Some (kinds.Nodes ks)) None) (Nodes ns) ≡ true
left-pick true ks ns = refl
left-pick false ks ns = refl

left-sort : (clafers : List Clafer) (a b : Option Kind) (ns : List Node) → has_sort (left_kind clafers a b) (Nodes ns) ≡ true
left-sort clafers (Some (kinds.Nodes ks)) (Some (kinds.Nodes ls)) ns = left-pick (share clafers ks ls) ks ns
left-sort clafers (Some (kinds.Nodes ks)) None ns = refl
left-sort clafers (Some (kinds.Nodes ks)) (Some _) ns = refl
left-sort clafers None b ns = refl
left-sort clafers (Some _) b ns = refl

option-sort : (o : Option Reading) (b : Bool) → has_sort (option_map (λ r. kinds.Truth) o) (Truth b) ≡ true
option-sort None b = refl
option-sort (Some r) b = refl

compared-sort : (clafers : List Clafer) (k l : Option Kind) (b : Bool) → has_sort (compared_kind clafers k l) (Truth b) ≡ true
compared-sort clafers (Some (kinds.Nodes ks)) (Some (kinds.Nodes ls)) b = option-sort (reading clafers (kinds.Nodes ks) (kinds.Nodes ls)) b
compared-sort clafers (Some (kinds.Nodes ks)) None b = refl
compared-sort clafers (Some (kinds.Nodes ks)) (Some _) b = refl
compared-sort clafers None l b = refl
compared-sort clafers (Some _) l b = refl

module _ (clafers : List Clafer) (entries : List Entry) where
  abbrev pub chosen : Option Kind → Bool → Value → Value → Value
  chosen k t u v = taken_as clafers entries k (cond t u v)

  choice-sort : (k l : Option Kind) (t : Bool) (u v : Value) → has_sort k u ≡ true → has_sort l v ≡ true
      → has_sort (option_and_then (λ x. option_map (branch_kind x) l) k) (chosen (option_and_then (λ x. option_map (branch_kind x) l) k) t u v) ≡ true
  choice-sort None l t u v h j = refl
  choice-sort (Some x) None t u v h j = refl
  choice-sort (Some kinds.Truth) (Some y) t u v h j = refl
  choice-sort (Some kinds.Integer) (Some kinds.Truth) t u v h j = refl
  choice-sort (Some kinds.Integer) (Some kinds.Integer) t u v h j = refl
  choice-sort (Some kinds.Integer) (Some (kinds.Nodes _)) t u v h j = refl
  choice-sort (Some kinds.Integer) (Some (kinds.Numbers _)) t u v h j = refl
  choice-sort (Some (kinds.Numbers _)) (Some kinds.Truth) t u v h j = refl
  choice-sort (Some (kinds.Numbers _)) (Some kinds.Integer) t u v h j = refl
  choice-sort (Some (kinds.Numbers _)) (Some (kinds.Nodes _)) t u v h j = refl
  choice-sort (Some (kinds.Numbers _)) (Some (kinds.Numbers _)) t u v h j = refl
  choice-sort (Some (kinds.Nodes _)) (Some kinds.Truth) t u v h j = refl
  choice-sort (Some (kinds.Nodes _)) (Some kinds.Integer) t u v h j = refl
  choice-sort (Some (kinds.Nodes _)) (Some (kinds.Numbers _)) t u v h j = refl
  choice-sort (Some (kinds.Nodes ks)) (Some (kinds.Nodes ls)) true (Nodes ns) v h j = refl
  choice-sort (Some (kinds.Nodes ks)) (Some (kinds.Nodes ls)) false u (Nodes ns) h j = refl
  choice-sort (Some (kinds.Nodes ks)) (Some (kinds.Nodes ls)) true (Truth b) v h j = (cc)
  choice-sort (Some (kinds.Nodes ks)) (Some (kinds.Nodes ls)) true (Integer b) v h j = (cc)
  choice-sort (Some (kinds.Nodes ks)) (Some (kinds.Nodes ls)) false u (Truth b) h j = (cc)
  choice-sort (Some (kinds.Nodes ks)) (Some (kinds.Nodes ls)) false u (Integer b) h j = (cc)

  pub sorted : (t : Tree) (s : Situation) → has_sort (kind clafers t s.within) (value clafers entries t s) ≡ true
  sorted (e.Literal _ n) s = refl
  sorted (e.This _) s = single (λ c. c ∷ []) s.within.this (option_map_or (λ n. n ∷ []) s.this [])
  sorted (e.Variable _ i) s = single (λ ks. ks) (from_end s.within.bound i) (option_map_or (λ n. n ∷ []) (from_end s.bound i) [])
  sorted (e.Clafer _ c) s = refl
  sorted (e.Name _ _) s = refl
  sorted (e.Join _ _ _) s = refl
  sorted (e.Step _ of into follow) s = refl
  sorted (e.Parent at a) s = parents-sort (parents_of clafers (clafers_of (kind clafers a s.within))) (nodes (value clafers entries (e.Parent at a) s))
  sorted (e.Dref at a) s = dref-sort clafers (kind clafers a s.within) (nodes (value clafers entries (e.Dref at a) s))
  sorted (e.Union at a b) s = union-sort (kind clafers a s.within) (kind clafers b s.within) (nodes (value clafers entries (e.Union at a b) s))
  sorted (e.Minus at a b) s = left-sort clafers (kind clafers a s.within) (kind clafers b s.within) (nodes (value clafers entries (e.Minus at a b) s))
  sorted (e.Meet at a b) s = left-sort clafers (kind clafers a s.within) (kind clafers b s.within) (nodes (value clafers entries (e.Meet at a b) s))
  sorted (e.If _ t a b) s =
      choice-sort (kind clafers a s.within) (kind clafers b s.within) (is_true (value clafers entries t s)) (value clafers entries a s) (value clafers entries b s) (sorted a s) (sorted b s)
  sorted (e.Equal _ a b) s = compared-sort clafers (kind clafers a s.within) (kind clafers b s.within) (equal clafers entries (reading_of clafers (kind clafers a s.within) (kind clafers b s.within)) (value clafers entries a s) (value clafers entries b s))
  sorted (e.In _ a b) s = compared-sort clafers (kind clafers a s.within) (kind clafers b s.within) (part clafers entries (reading_of clafers (kind clafers a s.within) (kind clafers b s.within)) (value clafers entries a s) (value clafers entries b s))
  sorted _ s = refl
