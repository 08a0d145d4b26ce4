-- Between which integers an expression lies.
use Rattle.std.specs.Prelude.{ℕ, ◌^◌, ◌-◌, List, [], length, sum, map, Option, Some, ℤ, pos, ◌+ℤ◌, ◌*ℤ◌, neg_ℤ}
use Rattle.std.specs.Int.{int_min, int_max}
use Rattle.std.specs.List.{filter}
use Rattle.clf_tree.specs.declared.model.Clafer.{Clafer}
use Rattle.clf_tree.specs.declared.scopes.Scopes.{Scopes}
use Rattle.clf_tree.specs.declared.kind.Within.{Within}
use Rattle.clf_tree.specs.declared.kind.Kind.{Kind}
use Rattle.clf_tree.specs.declared.kind.Kind.TheVariants as kinds
use Rattle.clf_tree.specs.Tree as e
use Rattle.clf_tree.specs.Tree.{Tree}
use Rattle.clf_tree.specs.Lists.{numbers_below}
use Rattle.clf_tree.specs.Hierarchy.{is_concrete, is_one_of}
use Rattle.clf_tree.specs.Nodes.{scope_of}
use Rattle.clf_tree.specs.Kinds.{kind}
use Rattle.clf_tree.specs.declared.bounds.Bounds.{Bounds}

abbrev pub clamped : ℤ → ℤ
clamped z = int_max (neg_ℤ (pos (2 ^ 126))) (int_min z (pos (2 ^ 126 - 1)))

abbrev pub between : ℤ → ℤ → Bounds
between low high = record { low = clamped low; high = clamped high }

-- the least and the greatest of four products
abbrev pub product : Bounds → Bounds → Bounds
product a b =
    between (int_min (int_min (a.low *ℤ b.low) (a.low *ℤ b.high)) (int_min (a.high *ℤ b.low) (a.high *ℤ b.high)))
    (int_max (int_max (a.low *ℤ b.low) (a.low *ℤ b.high)) (int_max (a.high *ℤ b.low) (a.high *ℤ b.high)))

module _ (clafers : List Clafer) (scopes : Scopes) where
  -- the concrete clafers that are-a one of ks
  abbrev pub concrete_of : List ℕ → List ℕ
  concrete_of ks = filter (is_one_of clafers ks) (filter (is_concrete clafers) (numbers_below (length clafers)))

  -- the sum of their scopes
  abbrev pub room : List ℕ → ℕ
  room ks = sum (map (scope_of scopes) (concrete_of ks))

  abbrev pub members : Option Kind → List ℕ
  members (Some (kinds.Nodes ks)) = ks
  members (Some (kinds.Numbers ks)) = ks
  members _ = []

  -- so many integers of the range, or fewer, added up
  abbrev pub sum_between : ℕ → Bounds
  sum_between n = between (pos n *ℤ int_min (pos 0) scopes.low) (pos n *ℤ int_max (pos 0) scopes.high)

  -- of a choice, by its kind
  abbrev pub choice : Option Kind → Bounds → Bounds → Bounds
  choice (Some kinds.Integer) a b = between (int_min a.low b.low) (int_max a.high b.high)
  choice k a b = sum_between (room (members k))

  -- the interval of an expression in integer position
  abbrev pub interval : Tree → Within → Bounds
  interval (e.Literal _ n) w = between (pos n) (pos n)
  interval (e.Card _ a) w = between (pos 0) (pos (room (members (kind clafers a w))))
  interval (e.Sum _ a) w = sum_between (room (members (kind clafers a w)))
  interval (e.Neg _ a) w = between (neg_ℤ (interval a w).high) (neg_ℤ (interval a w).low)
  interval (e.Add _ a b) w = between ((interval a w).low +ℤ (interval b w).low) ((interval a w).high +ℤ (interval b w).high)
  interval (e.Sub _ a b) w = between ((interval a w).low +ℤ neg_ℤ (interval b w).high) ((interval a w).high +ℤ neg_ℤ (interval b w).low)
  interval (e.Mul _ a b) w = product (interval a w) (interval b w)
  interval (e.If at c a b) w = choice (kind clafers (e.If at c a b) w) (interval a w) (interval b w)
  interval t w = sum_between (room (members (kind clafers t w)))
