-- The weight of an expression, with numbers that count no further than to the limit.
use Rattle.std.specs.Prelude.{ℕ, Bool, true, false, List, length, max, Option, Some}
use Rattle.clf_tree.specs.declared.model.Clafer.{Clafer}
use Rattle.clf_tree.specs.declared.scopes.Scopes.{Scopes}
use Rattle.clf_tree.specs.declared.kind.Within.{Within}
use Rattle.clf_tree.specs.declared.kind.Kind.{Kind}
use Rattle.clf_tree.specs.declared.kind.Kind.TheVariants as kinds
use Rattle.clf_tree.specs.declared.kind.Reading.{Reading}
use Rattle.clf_tree.specs.declared.kind.Reading.TheVariants.{ByNodes}
use Rattle.clf_tree.specs.Tree as e
use Rattle.clf_tree.specs.Tree.{Tree}
use Rattle.clf_tree.specs.Kinds.{kind, clafers_of, bind_kinds, reading_of}
use Rattle.clf_tree.specs.Widths.{width}
use Rattle.clf_tree.specs.Intervals.{interval}
use Rattle.clf_tree.specs.CoreWeights.{binary_digits, range_width}
use Rattle.model_weight.specs.Capped.{plus, times, power}
use Rattle.model_weight.specs.Measures.{nodes_in, targets_in}

-- of nodes that are counted, and of what has one part or two, with a weight of its own
abbrev pub count : Scopes → ℕ → ℕ
count scopes n = times (times 32 (plus n 1)) (plus (plus (range_width scopes) (binary_digits n)) 1)

abbrev pub moved : ℕ → ℕ → ℕ
moved n m = times (times 4 n) m

abbrev pub both : ℕ → ℕ → ℕ → ℕ
both own a b = plus (plus own a) b

-- a part in truth position, and in integer position, of this kind, with so many nodes
abbrev pub tested : Scopes → Option Kind → ℕ → ℕ → ℕ
tested scopes (Some kinds.Truth) n a = a
tested scopes k n a = plus (count scopes n) a

abbrev pub counted : Scopes → Option Kind → ℕ → ℕ → ℕ
counted scopes (Some kinds.Integer) n a = a
counted scopes k n a = plus (count scopes n) a

-- the own weight of a step, of `dref`, of a choice
abbrev pub stepped : Bool → ℕ → ℕ → ℕ → ℕ
stepped true n targets m = plus (moved targets m) (moved n targets)
stepped false n targets m = moved n m

abbrev pub taken : Option Kind → ℕ → ℕ → ℕ
taken (Some (kinds.Numbers ks)) n m = 1
taken k n m = moved n m

abbrev pub values : ℕ → Option Kind → ℕ
values n (Some kinds.Integer) = 1
values n k = n

-- a comparison of values, and of nodes as they are read
abbrev pub by_values : Scopes → ℕ → ℕ → ℕ → ℕ → ℕ
by_values scopes n m x y = times (times (times 6 (plus n 1)) (plus m 1)) (plus (max (range_width scopes) (max x y)) 1)

abbrev pub through : Bool → ℕ → ℕ → ℕ
through true n targets = targets
through false n targets = n

abbrev pub followed : Bool → ℕ → ℕ → ℕ
followed true n targets = moved n targets
followed false n targets = 0

abbrev pub by_nodes : Bool → Bool → ℕ → ℕ → ℕ → ℕ → ℕ
by_nodes left right n t m u =
    plus (plus (times 16 (plus (plus (through left n t) (through right m u)) 1)) (followed left n t)) (followed right m u)

abbrev pub tuples : ℕ → ℕ → ℕ → ℕ → ℕ
tuples n names body over =
    plus (plus (times (power n names) (plus (plus (plus body (times 8 names)) (times 16 (binary_digits (power n names)))) 16)) 8) over

module _ (clafers : List Clafer) (scopes : Scopes) where
  abbrev pub compared : Option Reading → Option Kind → ℕ → Option Kind → ℕ → ℕ
  compared (Some (ByNodes left right)) k x l y =
      by_nodes left right (nodes_in clafers scopes k) (targets_in clafers scopes k) (nodes_in clafers scopes l) (targets_in clafers scopes l)
  compared _ k x l y = by_values scopes (values (nodes_in clafers scopes k) k) (values (nodes_in clafers scopes l) l) x y

  abbrev pub chosen : Option Kind → ℕ → Option Kind → ℕ → Option Kind → ℕ → ℕ
  chosen (Some kinds.Truth) bits k a l b = both 8 (tested scopes k (nodes_in clafers scopes k) a) (tested scopes l (nodes_in clafers scopes l) b)
  chosen (Some kinds.Integer) bits k a l b =
      both (plus 8 (times 4 bits)) (counted scopes k (nodes_in clafers scopes k) a) (counted scopes l (nodes_in clafers scopes l) b)
  chosen result bits k a l b = both (plus 8 (times 4 (nodes_in clafers scopes result))) a b

  abbrev pub n_of : Tree → Within → ℕ
  n_of t w = nodes_in clafers scopes (kind clafers t w)

  abbrev pub bits_of : Tree → Within → ℕ
  bits_of t w = width (interval clafers scopes t w)

  abbrev pub light : Tree → Within → ℕ
  light (e.Literal _ n) w = 2
  light (e.Step _ a into follow) w =
      plus (stepped follow (n_of a w) (targets_in clafers scopes (kind clafers a w)) (nodes_in clafers scopes (Some (kinds.Nodes into)))) (light a w)
  light (e.Parent at a) w = plus (moved (n_of a w) (n_of (e.Parent at a) w)) (light a w)
  light (e.Dref at a) w = plus (taken (kind clafers (e.Dref at a) w) (n_of a w) (n_of (e.Dref at a) w)) (light a w)
  light (e.Union _ a b) w = both (times 4 (plus (n_of a w) (n_of b w))) (light a w) (light b w)
  light (e.Minus _ a b) w = both (times 4 (plus (n_of a w) (n_of b w))) (light a w) (light b w)
  light (e.Meet _ a b) w = both (times 4 (plus (n_of a w) (n_of b w))) (light a w) (light b w)
  light (e.If at t a b) w =
      plus (chosen (kind clafers (e.If at t a b) w) (bits_of (e.If at t a b) w) (kind clafers a w) (light a w) (kind clafers b w) (light b w))
      (tested scopes (kind clafers t w) (n_of t w) (light t w))
  light (e.Not _ a) w = plus 8 (tested scopes (kind clafers a w) (n_of a w) (light a w))
  light (e.And _ a b) w = both 8 (tested scopes (kind clafers a w) (n_of a w) (light a w)) (tested scopes (kind clafers b w) (n_of b w) (light b w))
  light (e.Or _ a b) w = both 8 (tested scopes (kind clafers a w) (n_of a w) (light a w)) (tested scopes (kind clafers b w) (n_of b w) (light b w))
  light (e.Xor _ a b) w = both 8 (tested scopes (kind clafers a w) (n_of a w) (light a w)) (tested scopes (kind clafers b w) (n_of b w) (light b w))
  light (e.Implies _ a b) w = both 8 (tested scopes (kind clafers a w) (n_of a w) (light a w)) (tested scopes (kind clafers b w) (n_of b w) (light b w))
  light (e.Iff _ a b) w = both 8 (tested scopes (kind clafers a w) (n_of a w) (light a w)) (tested scopes (kind clafers b w) (n_of b w) (light b w))
  light (e.Card _ a) w = plus (count scopes (n_of a w)) (light a w)
  light (e.Sum _ a) w = plus (count scopes (n_of a w)) (light a w)
  light (e.Neg at a) w = plus (times 16 (plus (bits_of (e.Neg at a) w) 1)) (counted scopes (kind clafers a w) (n_of a w) (light a w))
  light (e.Add at a b) w =
      both (times 16 (plus (bits_of (e.Add at a b) w) 1)) (counted scopes (kind clafers a w) (n_of a w) (light a w))
      (counted scopes (kind clafers b w) (n_of b w) (light b w))
  light (e.Sub at a b) w =
      both (times 16 (plus (plus (bits_of (e.Sub at a b) w) (bits_of b w)) 3)) (counted scopes (kind clafers a w) (n_of a w) (light a w))
      (counted scopes (kind clafers b w) (n_of b w) (light b w))
  light (e.Mul at a b) w =
      both (times (times 16 (plus (bits_of (e.Mul at a b) w) 1)) (plus (bits_of (e.Mul at a b) w) 1)) (counted scopes (kind clafers a w) (n_of a w) (light a w))
      (counted scopes (kind clafers b w) (n_of b w) (light b w))
  light (e.Less _ a b) w =
      both (times 16 (plus (plus (bits_of a w) (bits_of b w)) 2)) (counted scopes (kind clafers a w) (n_of a w) (light a w))
      (counted scopes (kind clafers b w) (n_of b w) (light b w))
  light (e.LessEqual _ a b) w =
      both (times 16 (plus (plus (bits_of a w) (bits_of b w)) 2)) (counted scopes (kind clafers a w) (n_of a w) (light a w))
      (counted scopes (kind clafers b w) (n_of b w) (light b w))
  light (e.Greater _ a b) w =
      both (times 16 (plus (plus (bits_of a w) (bits_of b w)) 2)) (counted scopes (kind clafers a w) (n_of a w) (light a w))
      (counted scopes (kind clafers b w) (n_of b w) (light b w))
  light (e.GreaterEqual _ a b) w =
      both (times 16 (plus (plus (bits_of a w) (bits_of b w)) 2)) (counted scopes (kind clafers a w) (n_of a w) (light a w))
      (counted scopes (kind clafers b w) (n_of b w) (light b w))
  light (e.Equal _ a b) w =
      both (compared (reading_of clafers (kind clafers a w) (kind clafers b w)) (kind clafers a w) (bits_of a w) (kind clafers b w) (bits_of b w)) (light a w) (light b w)
  light (e.In _ a b) w =
      both (compared (reading_of clafers (kind clafers a w) (kind clafers b w)) (kind clafers a w) (bits_of a w) (kind clafers b w) (bits_of b w)) (light a w) (light b w)
  light (e.Some _ a) w = plus (count scopes (n_of a w)) (light a w)
  light (e.No _ a) w = plus (count scopes (n_of a w)) (light a w)
  light (e.One _ a) w = plus (count scopes (n_of a w)) (light a w)
  light (e.Lone _ a) w = plus (count scopes (n_of a w)) (light a w)
  light (e.Quant _ word disj names over body) w =
      let inner = bind_kinds (clafers_of (kind clafers over w)) (length names) w in
      tuples (n_of over w) (length names) (tested scopes (kind clafers body inner) (n_of body inner) (light body inner)) (light over w)
  light t w = plus (n_of t w) 1
