-- How heavy a model is: what bounds the circuit that stands for it, known from the model and its scopes alone. Each form has a weight
-- of its own, which goes by how many nodes its operands can have and how many bits their integers need.
use Rattle.std.specs.Prelude.{ℕ, ◌+◌, ◌*◌, ◌^◌, ◌||◌, ◌&&◌, ◌==◌, Bool, true, false, not, List, [], ◌∷◌, length, map, sum, min, max, slice_get, Option, Some, None, is_some, is_none, if◌then◌else◌}
use Rattle.std.specs.Option.{option_map_or}
use Rattle.std.specs.List.{filter}
use Rattle.clf_tree.specs.declared.model.Clafer.{Clafer}
use Rattle.clf_tree.specs.declared.model.Rule.{Rule}
use Rattle.clf_tree.specs.declared.model.Goal.{Goal}
use Rattle.clf_tree.specs.declared.model.Model.{Model}
use Rattle.clf_tree.specs.declared.module.Interval.{Interval}
use Rattle.clf_tree.specs.declared.scopes.Scopes.{Scopes}
use Rattle.clf_tree.specs.declared.kind.Within.{Within}
use Rattle.clf_tree.specs.declared.kind.Kind.{Kind}
use Rattle.clf_tree.specs.declared.kind.Kind.TheVariants as kinds
use Rattle.clf_tree.specs.declared.kind.Reading.{Reading}
use Rattle.clf_tree.specs.declared.kind.Reading.TheVariants.{ByNodes}
use Rattle.clf_tree.specs.Tree as e
use Rattle.clf_tree.specs.Tree.{Tree, tree}
use Rattle.clf_tree.specs.Lists.{numbers_below}
use Rattle.clf_tree.specs.Hierarchy.{is_concrete, parent_of, owners, reference_of, targets_of}
use Rattle.clf_tree.specs.Nodes.{scope_of}
use Rattle.clf_tree.specs.Kinds.{kind, clafers_of, bind_kinds, is_child, reading_of}
use Rattle.clf_tree.specs.Widths.{width}
use Rattle.clf_tree.specs.Intervals.{interval, room, members}
use Rattle.clf_tree.specs.CoreWeights.{binary_digits, range_width, count_weight}
use Rattle.int_widths.specs.Narrow.{within_context}

-- each tuple of nodes is tried
abbrev pub tuples_weight : ℕ → ℕ → ℕ → ℕ → ℕ
tuples_weight tuples names body over = tuples * (body + 8 * names + 16 * binary_digits tuples + 16) + 8 + over

-- at most one
abbrev pub is_single : Interval → Bool
is_single times = option_map_or (λ high. (high == 0) || (high == 1)) times.high false

-- how far n instances are counted
abbrev pub counted_to : Interval → ℕ → ℕ
counted_to times n = min n (option_map_or (λ high. high) times.high times.low)

abbrev pub is_any : Interval → Bool
is_any times = (times.low == 0) && is_none times.high

module _ (clafers : List Clafer) (scopes : Scopes) where
  -- how many nodes a kind can have, and how many there can be in their `dref`
  abbrev pub most : Option Kind → ℕ
  most k = room clafers scopes (members clafers scopes k)

  abbrev pub most_targets : Option Kind → ℕ
  most_targets k = option_map_or (room clafers scopes) (targets_of clafers (clafers_of k)) 0

  -- how many values; an integer is one
  abbrev pub most_values : Option Kind → ℕ
  most_values (Some kinds.Integer) = 1
  most_values k = most k

  -- In truth position nodes are counted, and in integer position they are added up: a part of this kind and weight, with its reading.
  abbrev pub tested : Option Kind → ℕ → ℕ
  tested (Some kinds.Truth) n = n
  tested k n = count_weight scopes (most k) + n

  abbrev pub counted : Option Kind → ℕ → ℕ
  counted (Some kinds.Integer) n = n
  counted k n = count_weight scopes (most k) + n

  -- the steps to the targets, where they are taken; and the nodes where they end
  abbrev pub follow_weight : Bool → Option Kind → ℕ
  follow_weight true k = 4 * most k * most_targets k
  follow_weight false k = 0

  abbrev pub most_through : Bool → Option Kind → ℕ
  most_through true k = most_targets k
  most_through false k = most k

  -- `dref` of integers is the nodes that have them
  abbrev pub dref_weight : Option Kind → Option Kind → ℕ
  dref_weight k (Some (kinds.Numbers ks)) = 1
  dref_weight k result = 4 * most k * most result

  -- a choice, by its kind and width, of two branches with their weights
  abbrev pub choice_weight : Option Kind → ℕ → Option Kind → ℕ → Option Kind → ℕ → ℕ
  choice_weight (Some kinds.Truth) bits k m l n = 8 + tested k m + tested l n
  choice_weight (Some kinds.Integer) bits k m l n = 8 + 4 * bits + counted k m + counted l n
  choice_weight result bits k m l n = 8 + 4 * most result + m + n

  -- `=` and `in`, as their sides of these kinds and widths are read
  abbrev pub compared_weight : Option Reading → Option Kind → ℕ → Option Kind → ℕ → ℕ
  compared_weight (Some (ByNodes left right)) k x l y =
      16 * (most_through left k + most_through right l + 1) + follow_weight left k + follow_weight right l
  compared_weight _ k x l y = 6 * (most_values k + 1) * (most_values l + 1) * (max (range_width scopes) (max x y) + 1)

  -- the bits of an expression in integer position
  abbrev pub bits : Tree → Within → ℕ
  bits t w = width (interval clafers scopes t w)

  -- the weight of an expression
  abbrev pub weight : Tree → Within → ℕ
  weight (e.Literal _ n) w = 2
  weight (e.Step _ a into follow) w =
      4 * most_through follow (kind clafers a w) * most (Some (kinds.Nodes into)) + follow_weight follow (kind clafers a w) + weight a w
  weight (e.Parent at a) w = 4 * most (kind clafers a w) * most (kind clafers (e.Parent at a) w) + weight a w
  weight (e.Dref at a) w = dref_weight (kind clafers a w) (kind clafers (e.Dref at a) w) + weight a w
  weight (e.Union _ a b) w = 4 * (most (kind clafers a w) + most (kind clafers b w)) + weight a w + weight b w
  weight (e.Minus _ a b) w = 4 * (most (kind clafers a w) + most (kind clafers b w)) + weight a w + weight b w
  weight (e.Meet _ a b) w = 4 * (most (kind clafers a w) + most (kind clafers b w)) + weight a w + weight b w
  weight (e.If at t a b) w =
      choice_weight (kind clafers (e.If at t a b) w) (bits (e.If at t a b) w) (kind clafers a w) (weight a w) (kind clafers b w) (weight b w)
      + tested (kind clafers t w) (weight t w)
  weight (e.Not _ a) w = 8 + tested (kind clafers a w) (weight a w)
  weight (e.And _ a b) w = 8 + tested (kind clafers a w) (weight a w) + tested (kind clafers b w) (weight b w)
  weight (e.Or _ a b) w = 8 + tested (kind clafers a w) (weight a w) + tested (kind clafers b w) (weight b w)
  weight (e.Xor _ a b) w = 8 + tested (kind clafers a w) (weight a w) + tested (kind clafers b w) (weight b w)
  weight (e.Implies _ a b) w = 8 + tested (kind clafers a w) (weight a w) + tested (kind clafers b w) (weight b w)
  weight (e.Iff _ a b) w = 8 + tested (kind clafers a w) (weight a w) + tested (kind clafers b w) (weight b w)
  weight (e.Card _ a) w = count_weight scopes (most (kind clafers a w)) + weight a w
  weight (e.Sum _ a) w = count_weight scopes (most (kind clafers a w)) + weight a w
  weight (e.Neg at a) w = 16 * (bits (e.Neg at a) w + 1) + counted (kind clafers a w) (weight a w)
  weight (e.Add at a b) w =
      16 * (bits (e.Add at a b) w + 1) + counted (kind clafers a w) (weight a w) + counted (kind clafers b w) (weight b w)
  weight (e.Sub at a b) w =
      16 * (bits (e.Sub at a b) w + bits b w + 3) + counted (kind clafers a w) (weight a w) + counted (kind clafers b w) (weight b w)
  weight (e.Mul at a b) w =
      16 * (bits (e.Mul at a b) w + 1) * (bits (e.Mul at a b) w + 1) + counted (kind clafers a w) (weight a w) + counted (kind clafers b w) (weight b w)
  weight (e.Less _ a b) w = 16 * (bits a w + bits b w + 2) + counted (kind clafers a w) (weight a w) + counted (kind clafers b w) (weight b w)
  weight (e.LessEqual _ a b) w = 16 * (bits a w + bits b w + 2) + counted (kind clafers a w) (weight a w) + counted (kind clafers b w) (weight b w)
  weight (e.Greater _ a b) w = 16 * (bits a w + bits b w + 2) + counted (kind clafers a w) (weight a w) + counted (kind clafers b w) (weight b w)
  weight (e.GreaterEqual _ a b) w = 16 * (bits a w + bits b w + 2) + counted (kind clafers a w) (weight a w) + counted (kind clafers b w) (weight b w)
  weight (e.Equal _ a b) w =
      compared_weight (reading_of clafers (kind clafers a w) (kind clafers b w)) (kind clafers a w) (bits a w) (kind clafers b w) (bits b w)
      + weight a w + weight b w
  weight (e.In _ a b) w =
      compared_weight (reading_of clafers (kind clafers a w) (kind clafers b w)) (kind clafers a w) (bits a w) (kind clafers b w) (bits b w)
      + weight a w + weight b w
  weight (e.Some _ a) w = count_weight scopes (most (kind clafers a w)) + weight a w
  weight (e.No _ a) w = count_weight scopes (most (kind clafers a w)) + weight a w
  weight (e.One _ a) w = count_weight scopes (most (kind clafers a w)) + weight a w
  weight (e.Lone _ a) w = count_weight scopes (most (kind clafers a w)) + weight a w
  weight (e.Quant _ word disj names over body) w =
      let inner = bind_kinds (clafers_of (kind clafers over w)) (length names) w in
      tuples_weight (most (kind clafers over w) ^ length names) (length names) (tested (kind clafers body inner) (weight body inner)) (weight over w)
  weight t w = most (kind clafers t w) + 1

  -- ---- constraints and goals

  -- a constraint stands for each instance of its context
  abbrev pub rule_instances : Option ℕ → ℕ
  rule_instances context = option_map_or (λ c. room clafers scopes (c ∷ [])) context 1

  -- with the reading of its body
  abbrev pub body_weight : Option ℕ → Tree → ℕ
  body_weight context body = tested (kind clafers body (within_context context)) (weight body (within_context context))

  abbrev pub rule_weight : Rule → ℕ
  rule_weight r = rule_instances r.context * (body_weight r.context (tree r.body) + 8) + 8

  abbrev pub number_weight : Tree → ℕ
  number_weight body = counted (kind clafers body (within_context None)) (weight body (within_context None))

  abbrev pub goal_weight : Goal → ℕ
  goal_weight g = number_weight (tree g.body) + 8

  -- ---- clafers

  -- the instances that can be its parent, and the targets that it can have
  abbrev pub owner_room : ℕ → ℕ
  owner_room c = sum (map (scope_of scopes) (owners clafers c))

  abbrev pub target_room : Option ℕ → ℕ
  target_room None = range_width scopes
  target_room (Some k) = room clafers scopes (k ∷ [])

  abbrev pub target_slots : ℕ → ℕ
  target_slots c = option_map_or (λ r. target_room r.to) (reference_of clafers c) 0

  -- two instances with one parent, of a set reference, are compared
  abbrev pub has_pairs : ℕ → Clafer → Bool
  has_pairs c k = option_map_or (λ r. not r.bag) (reference_of clafers c) false && (is_none k.parent || not (is_single k.times))

  -- of a concrete clafer: its instances, pairs of them, and their number
  abbrev pub concrete_weight : ℕ → Clafer → ℕ
  concrete_weight c k =
      let s = scope_of scopes c in
      let slots = owner_room c + target_slots c + 2 in
      1 + 32 * s * slots + (if has_pairs c k then 4 * s * s * slots else 0) + 8 * max (owner_room c) 1 * s * (counted_to k.times s + 1)

  -- of an abstract one the number of all instances
  abbrev pub abstract_weight : ℕ → Clafer → ℕ
  abstract_weight c k = if is_any k.times then 0 else 8 * room clafers scopes (c ∷ []) * (counted_to k.times (room clafers scopes (c ∷ [])) + 1)

  -- the instances of the clafers that are declared under it, below each of its own
  abbrev pub child_room : ℕ → ℕ
  child_room c = sum (map (scope_of scopes) (filter (is_child clafers c) (numbers_below (length clafers))))

  abbrev pub group_weight : ℕ → Clafer → ℕ
  group_weight c k = if is_any k.group then 0 else 8 * room clafers scopes (c ∷ []) * child_room c * (counted_to k.group (child_room c) + 1)

  abbrev pub clafer_weight : ℕ → Clafer → ℕ
  clafer_weight c k = (if k.is_abstract then abstract_weight c k else concrete_weight c k) + group_weight c k

  abbrev pub weight_at : ℕ → ℕ
  weight_at c = option_map_or (clafer_weight c) (slice_get clafers c) 0

abbrev pub clafers_weight : Scopes → Model → ℕ
clafers_weight scopes model = sum (map (weight_at model.clafers scopes) (numbers_below (length model.clafers)))

-- the weight of a model, which counts no further than to 10^18
abbrev pub model_weight : Scopes → Model → ℕ
model_weight scopes model =
    min (10 ^ 18)
    (8 + clafers_weight scopes model + sum (map (rule_weight model.clafers scopes) model.rules) + sum (map (goal_weight model.clafers scopes) model.goals))
