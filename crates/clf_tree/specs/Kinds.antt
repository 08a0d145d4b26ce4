-- The kinds of expressions.
use Rattle.std.specs.Prelude.{ℕ, ◌==◌, ◌&&◌, Bool, true, false, List, [], ◌∷◌, ◌++◌, length, replicate, Option, Some, None, if◌then◌else◌}
use Rattle.std.specs.Option.{option_map, option_map_or, option_and_then}
use Rattle.std.specs.List.{filter, list_any}
use Rattle.clf_tree.specs.declared.model.Clafer.{Clafer}
use Rattle.clf_tree.specs.declared.kind.Within.{Within}
use Rattle.clf_tree.specs.declared.kind.Kind.{Kind}
use Rattle.clf_tree.specs.declared.kind.Kind.TheVariants.{Truth, Integer, Nodes, Numbers}
use Rattle.clf_tree.specs.declared.kind.Reading.{Reading}
use Rattle.clf_tree.specs.declared.kind.Reading.TheVariants.{ByValues, ByNodes}
use Rattle.clf_tree.specs.Tree as e
use Rattle.clf_tree.specs.Tree.{Tree}
use Rattle.clf_tree.specs.Lists.{numbers_below, from_end}
use Rattle.clf_tree.specs.Hierarchy.{parent_of, is_one_of, share, refer_to_int, targets_of}

-- the clafers of a kind; other kinds than Nodes have none
abbrev pub clafers_of : Option Kind → List ℕ
clafers_of (Some (Nodes ks)) = ks
clafers_of _ = []

-- whether c is declared directly under p
abbrev pub is_child : List Clafer → ℕ → ℕ → Bool
is_child clafers p c = option_map_or (λ q. q == p) (parent_of clafers c) false

-- whether a clafer that is-a one of ks is declared directly under p
abbrev pub has_child_in : List Clafer → List ℕ → ℕ → Bool
has_child_in clafers ks p = list_any (λ c. is_child clafers p c && is_one_of clafers ks c) (numbers_below (length clafers))

-- the declaring parents of the nested clafers that are-a one of ks
abbrev pub parents_of : List Clafer → List ℕ → List ℕ
parents_of clafers ks = filter (has_child_in clafers ks) (numbers_below (length clafers))

abbrev pub parent_kind : List ℕ → Option Kind
parent_kind [] = None
parent_kind (p ∷ ps) = Some (Nodes (p ∷ ps))

-- where all refer to integers, these; where all refer to clafers, their nodes
abbrev pub dref_kind : List Clafer → Option Kind → Option Kind
dref_kind clafers (Some (Nodes ks)) =
    if refer_to_int clafers ks then Some (Numbers ks) else option_map (λ ts. Nodes ts) (targets_of clafers ks)
dref_kind clafers _ = None

abbrev pub nodes_kind : List ℕ → Option Kind → Option Kind
nodes_kind ks (Some (Nodes ls)) = Some (Nodes (ks ++ ls))
nodes_kind ks _ = None

abbrev pub union_kind : Option Kind → Option Kind → Option Kind
union_kind (Some (Nodes ks)) b = nodes_kind ks b
union_kind _ b = None

-- of two branches: Truth where one is, else Integer where one is a number, else the nodes of both
abbrev pub branch_kind : Kind → Kind → Kind
branch_kind Truth b = Truth
branch_kind a Truth = Truth
branch_kind (Nodes ks) (Nodes ls) = Nodes (ks ++ ls)
branch_kind a b = Integer

-- whether two sets of nodes, where both are there, have some clafer in common
abbrev pub shared : List Clafer → Option (List ℕ) → Option (List ℕ) → Bool
shared clafers (Some xs) (Some ys) = share clafers xs ys
shared clafers _ _ = false

-- how two sets of nodes are compared: the first of four readings whose sides have some clafer in common, which are both sides as
-- they are, the left one as its `dref`, the right one, both
abbrev pub node_reading : List Clafer → List ℕ → List ℕ → Option Reading
node_reading clafers ks ls =
    if share clafers ks ls then Some (ByNodes false false)
    else if shared clafers (targets_of clafers ks) (Some ls) then Some (ByNodes true false)
    else if shared clafers (Some ks) (targets_of clafers ls) then Some (ByNodes false true)
    else if shared clafers (targets_of clafers ks) (targets_of clafers ls) then Some (ByNodes true true)
    else None

-- how the sides of `=` and `in` are compared: by values where one is a number or both refer to integers, else by nodes
abbrev pub reading : List Clafer → Kind → Kind → Option Reading
reading clafers Truth b = None
reading clafers a Truth = None
reading clafers (Nodes ks) (Nodes ls) = if refer_to_int clafers (ks ++ ls) then Some ByValues else node_reading clafers ks ls
reading clafers a b = Some ByValues

abbrev pub reading_of : List Clafer → Option Kind → Option Kind → Option Reading
reading_of clafers (Some a) (Some b) = reading clafers a b
reading_of clafers _ _ = None

-- of `--` and `**`: the nodes of the left side, where some clafer can be on both sides
abbrev pub left_kind : List Clafer → Option Kind → Option Kind → Option Kind
left_kind clafers (Some (Nodes ks)) (Some (Nodes ls)) = if share clafers ks ls then Some (Nodes ks) else None
left_kind clafers _ _ = None

-- of `=` and `in`: a truth value, but for two sets of nodes that have no reading
abbrev pub compared_kind : List Clafer → Option Kind → Option Kind → Option Kind
compared_kind clafers (Some (Nodes ks)) (Some (Nodes ls)) = option_map (λ r. Truth) (reading clafers (Nodes ks) (Nodes ls))
compared_kind clafers _ _ = Some Truth

-- the kinds within a quantifier over nodes of ks, of so many names
abbrev pub bind_kinds : List ℕ → ℕ → Within → Within
bind_kinds ks n w = record w { bound = w.bound ++ replicate n ks }

module _ (clafers : List Clafer) where
  -- the kind of an expression, if it has one
  abbrev pub kind : Tree → Within → Option Kind
  kind (e.Literal _ n) w = Some Integer
  kind (e.This _) w = option_map (λ c. Nodes (c ∷ [])) w.this
  kind (e.Variable _ i) w = option_map (λ ks. Nodes ks) (from_end w.bound i)
  kind (e.Clafer _ c) w = Some (Nodes (c ∷ []))
  kind (e.Name _ _) w = None
  kind (e.Join _ _ _) w = None
  kind (e.Step _ of into follow) w = Some (Nodes into)
  kind (e.Parent _ a) w = parent_kind (parents_of clafers (clafers_of (kind a w)))
  kind (e.Dref _ a) w = dref_kind clafers (kind a w)
  kind (e.Union _ a b) w = union_kind (kind a w) (kind b w)
  kind (e.Minus _ a b) w = left_kind clafers (kind a w) (kind b w)
  kind (e.Meet _ a b) w = left_kind clafers (kind a w) (kind b w)
  kind (e.If _ c a b) w = option_and_then (λ k. option_map (branch_kind k) (kind b w)) (kind a w)
  kind (e.Card _ _) w = Some Integer
  kind (e.Sum _ _) w = Some Integer
  kind (e.Neg _ _) w = Some Integer
  kind (e.Add _ _ _) w = Some Integer
  kind (e.Sub _ _ _) w = Some Integer
  kind (e.Mul _ _ _) w = Some Integer
  kind (e.Equal _ a b) w = compared_kind clafers (kind a w) (kind b w)
  kind (e.In _ a b) w = compared_kind clafers (kind a w) (kind b w)
  kind _ w = Some Truth
