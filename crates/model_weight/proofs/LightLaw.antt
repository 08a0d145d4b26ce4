-- The weight that is counted no further than to the limit is the weight.
use Rattle.std.proofs.Common.{◌≡◌, ℕ, ◌+◌, ◌*◌, ◌^◌, ◌≤◌, Bool, true, false, cond, List, [], ◌∷◌, length, map, sum, Option, Some, None, refl, sym, subst, ◌∙◌, arith, inl, inr}
use Rattle.std.specs.Prelude.{max, min, slice_get}
use Rattle.std.specs.Option.{option_map_or}
use Rattle.clf_tree.specs.declared.model.Clafer.{Clafer}
use Rattle.clf_tree.specs.declared.model.Rule.{Rule}
use Rattle.clf_tree.specs.declared.model.Goal.{Goal}
use Rattle.clf_tree.specs.declared.model.Model.{Model}
use Rattle.clf_tree.specs.declared.module.Interval.{Interval}
use Rattle.clf_tree.specs.declared.scopes.Scopes.{Scopes}
use Rattle.clf_tree.specs.declared.kind.Within.{Within}
use Rattle.clf_tree.specs.declared.kind.Kind.{Kind}
use Rattle.clf_tree.specs.declared.kind.Kind.TheVariants as kinds
use Rattle.clf_tree.specs.declared.kind.Reading.{Reading}
use Rattle.clf_tree.specs.declared.kind.Reading.TheVariants.{ByValues, ByNodes}
use Rattle.clf_tree.specs.Tree as e
use Rattle.clf_tree.specs.Tree.{Tree, tree}
use Rattle.clf_tree.specs.Lists.{numbers_below}
use Rattle.clf_tree.specs.Nodes.{scope_of}
use Rattle.clf_tree.specs.Kinds.{kind, clafers_of, bind_kinds, reading_of}
use Rattle.clf_tree.specs.Intervals.{room}
use Rattle.clf_tree.specs.CoreWeights.{binary_digits, range_width, count_weight}
use Rattle.int_widths.specs.Narrow.{within_context}
use Rattle.int_widths.specs.Weight as w
use Rattle.int_widths.specs.Weight.{weight, most, most_targets, most_values, bits, rule_instances, owner_room, target_slots, has_pairs, counted_to, is_any, child_room, clafers_weight, model_weight}
use Rattle.model_weight.specs.Capped.{limit, capped, plus, times, power, total}
use Rattle.model_weight.specs.Light.{count, moved, both, tested, counted, stepped, taken, values, by_values, by_nodes, through, followed, tuples, compared, chosen, light, n_of, bits_of}
use Rattle.model_weight.specs.Measures.{nodes_in, targets_in}
use Rattle.model_weight.specs.Clafers as spec
use Rattle.std.proofs.Math.Nat.{min-eq_left, min-eq_right}
use Rattle.model_weight.proofs.Same.{Same, itself, chain, capped_same, capped_limit, plus_same, times_same, power_same, digits_same, max_same, min_same, sums_same, added_same}

count_same : (scopes : Scopes) (n : ℕ) → Same (count scopes n) (count_weight scopes n)
count_same scopes n =
    times_same (times 32 (plus n 1)) (plus (plus (range_width scopes) (binary_digits n)) 1) (32 * (n + 1)) (range_width scopes + binary_digits n + 1)
    (times_same 32 (plus n 1) 32 (n + 1) (itself 32) (plus_same n 1 n 1 (itself n) (itself 1)))
    (plus_same (plus (range_width scopes) (binary_digits n)) 1 (range_width scopes + binary_digits n) 1
    (plus_same (range_width scopes) (binary_digits n) (range_width scopes) (binary_digits n) (itself (range_width scopes)) (itself (binary_digits n))) (itself 1))

moved_same : (n m : ℕ) → Same (moved n m) (4 * n * m)
moved_same n m = times_same (times 4 n) m (4 * n) m (times_same 4 n 4 n (itself 4) (itself n)) (itself m)

both_same : (p a b q x y : ℕ) → Same p q → Same a x → Same b y → Same (both p a b) (q + x + y)
both_same p a b q x y s t u = plus_same (plus p a) b (q + x) y (plus_same p a q x s t) u

sets_same : (n m a b x y : ℕ) → Same a x → Same b y → Same (both (times 4 (plus n m)) a b) (4 * (n + m) + x + y)
sets_same n m a b x y s t = both_same (times 4 (plus n m)) a b (4 * (n + m)) x y (times_same 4 (plus n m) 4 (n + m) (itself 4) (plus_same n m n m (itself n) (itself m))) s t

-- 16 times a sum of two and one number more
sixteen_same : (n m k : ℕ) → Same (times 16 (plus (plus n m) k)) (16 * (n + m + k))
sixteen_same n m k = times_same 16 (plus (plus n m) k) 16 (n + m + k) (itself 16) (plus_same (plus n m) k (n + m) k (plus_same n m n m (itself n) (itself m)) (itself k))

one_same : (n : ℕ) → Same (plus n 1) (n + 1)
one_same n = plus_same n 1 n 1 (itself n) (itself 1)

module _ (clafers : List Clafer) (scopes : Scopes) where
  nodes_are : (k : Option Kind) → nodes_in clafers scopes k ≡ most clafers scopes k
  unfolding nodes_in
  nodes_are k = refl

  targets_are : (k : Option Kind) → targets_in clafers scopes k ≡ most_targets clafers scopes k
  unfolding targets_in
  targets_are k = refl

  tested_same : (k : Option Kind) (n a x : ℕ) → n ≡ most clafers scopes k → Same a x → Same (tested scopes k n a) (w.tested clafers scopes k x)
  tested_same (Some kinds.Truth) n a x e s = s
  tested_same None n a x e s = plus_same (count scopes n) a (count_weight scopes (most clafers scopes None)) x (subst (λ z. Same (count scopes n) (count_weight scopes z)) e (count_same scopes n)) s
  tested_same (Some kinds.Integer) n a x e s =
      plus_same (count scopes n) a (count_weight scopes (most clafers scopes (Some kinds.Integer))) x (subst (λ z. Same (count scopes n) (count_weight scopes z)) e (count_same scopes n)) s
  tested_same (Some (kinds.Nodes ks)) n a x e s =
      plus_same (count scopes n) a (count_weight scopes (most clafers scopes (Some (kinds.Nodes ks)))) x (subst (λ z. Same (count scopes n) (count_weight scopes z)) e (count_same scopes n)) s
  tested_same (Some (kinds.Numbers ks)) n a x e s =
      plus_same (count scopes n) a (count_weight scopes (most clafers scopes (Some (kinds.Numbers ks)))) x (subst (λ z. Same (count scopes n) (count_weight scopes z)) e (count_same scopes n)) s

  counted_same : (k : Option Kind) (n a x : ℕ) → n ≡ most clafers scopes k → Same a x → Same (counted scopes k n a) (w.counted clafers scopes k x)
  counted_same (Some kinds.Integer) n a x e s = s
  counted_same None n a x e s = plus_same (count scopes n) a (count_weight scopes (most clafers scopes None)) x (subst (λ z. Same (count scopes n) (count_weight scopes z)) e (count_same scopes n)) s
  counted_same (Some kinds.Truth) n a x e s =
      plus_same (count scopes n) a (count_weight scopes (most clafers scopes (Some kinds.Truth))) x (subst (λ z. Same (count scopes n) (count_weight scopes z)) e (count_same scopes n)) s
  counted_same (Some (kinds.Nodes ks)) n a x e s =
      plus_same (count scopes n) a (count_weight scopes (most clafers scopes (Some (kinds.Nodes ks)))) x (subst (λ z. Same (count scopes n) (count_weight scopes z)) e (count_same scopes n)) s
  counted_same (Some (kinds.Numbers ks)) n a x e s =
      plus_same (count scopes n) a (count_weight scopes (most clafers scopes (Some (kinds.Numbers ks)))) x (subst (λ z. Same (count scopes n) (count_weight scopes z)) e (count_same scopes n)) s

  -- with the nodes of their kinds
  test_part : (k : Option Kind) (a x : ℕ) → Same a x → Same (tested scopes k (nodes_in clafers scopes k) a) (w.tested clafers scopes k x)
  test_part k a x s = tested_same k (nodes_in clafers scopes k) a x (nodes_are k) s

  number_part : (k : Option Kind) (a x : ℕ) → Same a x → Same (counted scopes k (nodes_in clafers scopes k) a) (w.counted clafers scopes k x)
  number_part k a x s = counted_same k (nodes_in clafers scopes k) a x (nodes_are k) s

  count_part : (k : Option Kind) (a x : ℕ) → Same a x → Same (plus (count scopes (nodes_in clafers scopes k)) a) (count_weight scopes (most clafers scopes k) + x)
  count_part k a x s =
      plus_same (count scopes (nodes_in clafers scopes k)) a (count_weight scopes (most clafers scopes k)) x
      (subst (λ z. Same (count scopes (nodes_in clafers scopes k)) (count_weight scopes z)) (nodes_are k) (count_same scopes (nodes_in clafers scopes k))) s

  step_same : (f : Bool) (k l : Option Kind) (a x : ℕ) → Same a x
      → Same (plus (stepped f (nodes_in clafers scopes k) (targets_in clafers scopes k) (nodes_in clafers scopes l)) a) (4 * w.most_through clafers scopes f k * most clafers scopes l + w.follow_weight clafers scopes f k + x)
  unfolding nodes_in targets_in
  step_same true k l a x s =
      plus_same (plus (moved (most_targets clafers scopes k) (most clafers scopes l)) (moved (most clafers scopes k) (most_targets clafers scopes k))) a
      (4 * most_targets clafers scopes k * most clafers scopes l + 4 * most clafers scopes k * most_targets clafers scopes k) x
      (plus_same (moved (most_targets clafers scopes k) (most clafers scopes l)) (moved (most clafers scopes k) (most_targets clafers scopes k)) (4 * most_targets clafers scopes k * most clafers scopes l)
      (4 * most clafers scopes k * most_targets clafers scopes k) (moved_same (most_targets clafers scopes k) (most clafers scopes l)) (moved_same (most clafers scopes k) (most_targets clafers scopes k))) s
  step_same false k l a x s =
      subst (λ z. Same (plus (moved (most clafers scopes k) (most clafers scopes l)) a) (z + x)) (no_more (4 * most clafers scopes k * most clafers scopes l))
      (plus_same (moved (most clafers scopes k) (most clafers scopes l)) a (4 * most clafers scopes k * most clafers scopes l) x (moved_same (most clafers scopes k) (most clafers scopes l)) s)
    where
      no_more : (n : ℕ) → n ≡ n + 0
      no_more n = omega arith

  move_same : (k l : Option Kind) (a x : ℕ) → Same a x → Same (plus (moved (nodes_in clafers scopes k) (nodes_in clafers scopes l)) a) (4 * most clafers scopes k * most clafers scopes l + x)
  unfolding nodes_in
  move_same k l a x s = plus_same (moved (most clafers scopes k) (most clafers scopes l)) a (4 * most clafers scopes k * most clafers scopes l) x (moved_same (most clafers scopes k) (most clafers scopes l)) s

  dref_same : (k r : Option Kind) (a x : ℕ) → Same a x → Same (plus (taken r (nodes_in clafers scopes k) (nodes_in clafers scopes r)) a) (w.dref_weight clafers scopes k r + x)
  dref_same k (Some (kinds.Numbers ks)) a x s = plus_same 1 a 1 x (itself 1) s
  dref_same k None a x s = move_same k None a x s
  dref_same k (Some kinds.Truth) a x s = move_same k (Some kinds.Truth) a x s
  dref_same k (Some kinds.Integer) a x s = move_same k (Some kinds.Integer) a x s
  dref_same k (Some (kinds.Nodes ks)) a x s = move_same k (Some (kinds.Nodes ks)) a x s

  union_same : (k l : Option Kind) (a b x y : ℕ) → Same a x → Same b y
      → Same (both (times 4 (plus (nodes_in clafers scopes k) (nodes_in clafers scopes l))) a b) (4 * (most clafers scopes k + most clafers scopes l) + x + y)
  unfolding nodes_in
  union_same k l a b x y s t = sets_same (most clafers scopes k) (most clafers scopes l) a b x y s t

  tests_same : (k l : Option Kind) (a b x y : ℕ) → Same a x → Same b y
      → Same (both 8 (tested scopes k (nodes_in clafers scopes k) a) (tested scopes l (nodes_in clafers scopes l) b)) (8 + w.tested clafers scopes k x + w.tested clafers scopes l y)
  tests_same k l a b x y s t =
      both_same 8 (tested scopes k (nodes_in clafers scopes k) a) (tested scopes l (nodes_in clafers scopes l) b) 8 (w.tested clafers scopes k x) (w.tested clafers scopes l y) (itself 8) (test_part k a x s) (test_part l b y t)

  numbers_same : (k l : Option Kind) (own a b own_weight x y : ℕ) → Same own own_weight → Same a x → Same b y
      → Same (both own (counted scopes k (nodes_in clafers scopes k) a) (counted scopes l (nodes_in clafers scopes l) b)) (own_weight + w.counted clafers scopes k x + w.counted clafers scopes l y)
  numbers_same k l own a b own_weight x y o s t =
      both_same own (counted scopes k (nodes_in clafers scopes k) a) (counted scopes l (nodes_in clafers scopes l) b) own_weight (w.counted clafers scopes k x) (w.counted clafers scopes l y) o (number_part k a x s) (number_part l b y t)

  -- choices
  set_choice : (r : Option Kind) (a b x y : ℕ) → Same a x → Same b y → Same (both (plus 8 (times 4 (nodes_in clafers scopes r))) a b) (8 + 4 * most clafers scopes r + x + y)
  unfolding nodes_in
  set_choice r a b x y s t =
      both_same (plus 8 (times 4 (most clafers scopes r))) a b (8 + 4 * most clafers scopes r) x y
      (plus_same 8 (times 4 (most clafers scopes r)) 8 (4 * most clafers scopes r) (itself 8) (times_same 4 (most clafers scopes r) 4 (most clafers scopes r) (itself 4) (itself (most clafers scopes r)))) s t

  choice_same : (r k l : Option Kind) (m a b x y : ℕ) → Same a x → Same b y → Same (chosen clafers scopes r m k a l b) (w.choice_weight clafers scopes r m k x l y)
  choice_same (Some kinds.Truth) k l m a b x y s t = tests_same k l a b x y s t
  choice_same (Some kinds.Integer) k l m a b x y s t =
      numbers_same k l (plus 8 (times 4 m)) a b (8 + 4 * m) x y (plus_same 8 (times 4 m) 8 (4 * m) (itself 8) (times_same 4 m 4 m (itself 4) (itself m))) s t
  choice_same None k l m a b x y s t = set_choice None a b x y s t
  choice_same (Some (kinds.Nodes ks)) k l m a b x y s t = set_choice (Some (kinds.Nodes ks)) a b x y s t
  choice_same (Some (kinds.Numbers ks)) k l m a b x y s t = set_choice (Some (kinds.Numbers ks)) a b x y s t

  -- comparisons
  values_are : (k : Option Kind) → values (nodes_in clafers scopes k) k ≡ most_values clafers scopes k
  unfolding nodes_in
  values_are None = refl
  values_are (Some kinds.Truth) = refl
  values_are (Some kinds.Integer) = refl
  values_are (Some (kinds.Nodes ks)) = refl
  values_are (Some (kinds.Numbers ks)) = refl

  by_values_same : (n m x y : ℕ) → Same (by_values scopes n m x y) (6 * (n + 1) * (m + 1) * (max (range_width scopes) (max x y) + 1))
  by_values_same n m x y =
      let b = max (range_width scopes) (max x y) in
      times_same (times (times 6 (plus n 1)) (plus m 1)) (plus b 1) (6 * (n + 1) * (m + 1)) (b + 1)
      (times_same (times 6 (plus n 1)) (plus m 1) (6 * (n + 1)) (m + 1) (times_same 6 (plus n 1) 6 (n + 1) (itself 6) (one_same n)) (one_same m)) (one_same b)

  values_same : (k l : Option Kind) (x y : ℕ) → Same (by_values scopes (values (nodes_in clafers scopes k) k) (values (nodes_in clafers scopes l) l) x y)
      (6 * (most_values clafers scopes k + 1) * (most_values clafers scopes l + 1) * (max (range_width scopes) (max x y) + 1))
  values_same k l x y =
      subst (λ n. Same (by_values scopes (values (nodes_in clafers scopes k) k) (values (nodes_in clafers scopes l) l) x y) (6 * (n + 1) * (most_values clafers scopes l + 1) * (max (range_width scopes) (max x y) + 1))) (values_are k)
      (subst (λ m. Same (by_values scopes (values (nodes_in clafers scopes k) k) (values (nodes_in clafers scopes l) l) x y) (6 * (values (nodes_in clafers scopes k) k + 1) * (m + 1) * (max (range_width scopes) (max x y) + 1))) (values_are l)
      (by_values_same (values (nodes_in clafers scopes k) k) (values (nodes_in clafers scopes l) l) x y))

  through_are : (f : Bool) (k : Option Kind) → through f (nodes_in clafers scopes k) (targets_in clafers scopes k) ≡ w.most_through clafers scopes f k
  unfolding nodes_in targets_in
  through_are true k = refl
  through_are false k = refl

  followed_same : (f : Bool) (k : Option Kind) → Same (followed f (nodes_in clafers scopes k) (targets_in clafers scopes k)) (w.follow_weight clafers scopes f k)
  unfolding nodes_in targets_in
  followed_same true k = moved_same (most clafers scopes k) (most_targets clafers scopes k)
  followed_same false k = itself 0

  nodes_same : (left right : Bool) (k l : Option Kind)
      → Same (by_nodes left right (nodes_in clafers scopes k) (targets_in clafers scopes k) (nodes_in clafers scopes l) (targets_in clafers scopes l))
      (16 * (w.most_through clafers scopes left k + w.most_through clafers scopes right l + 1) + w.follow_weight clafers scopes left k + w.follow_weight clafers scopes right l)
  nodes_same left right k l =
      let n = through left (nodes_in clafers scopes k) (targets_in clafers scopes k) in
      let m = through right (nodes_in clafers scopes l) (targets_in clafers scopes l) in
      both_same (times 16 (plus (plus n m) 1)) (followed left (nodes_in clafers scopes k) (targets_in clafers scopes k)) (followed right (nodes_in clafers scopes l) (targets_in clafers scopes l))
      (16 * (w.most_through clafers scopes left k + w.most_through clafers scopes right l + 1)) (w.follow_weight clafers scopes left k) (w.follow_weight clafers scopes right l)
      (subst (λ z. Same (times 16 (plus (plus n m) 1)) (16 * (z + w.most_through clafers scopes right l + 1))) (through_are left k)
      (subst (λ z. Same (times 16 (plus (plus n m) 1)) (16 * (n + z + 1))) (through_are right l) (sixteen_same n m 1)))
      (followed_same left k) (followed_same right l)

  compared_same : (r : Option Reading) (k l : Option Kind) (x y a b u v : ℕ) → Same a u → Same b v
      → Same (both (compared clafers scopes r k x l y) a b) (w.compared_weight clafers scopes r k x l y + u + v)
  compared_same None k l x y a b u v s t =
      both_same (by_values scopes (values (nodes_in clafers scopes k) k) (values (nodes_in clafers scopes l) l) x y) a b
      (6 * (most_values clafers scopes k + 1) * (most_values clafers scopes l + 1) * (max (range_width scopes) (max x y) + 1)) u v (values_same k l x y) s t
  compared_same (Some ByValues) k l x y a b u v s t =
      both_same (by_values scopes (values (nodes_in clafers scopes k) k) (values (nodes_in clafers scopes l) l) x y) a b
      (6 * (most_values clafers scopes k + 1) * (most_values clafers scopes l + 1) * (max (range_width scopes) (max x y) + 1)) u v (values_same k l x y) s t
  compared_same (Some (ByNodes left right)) k l x y a b u v s t =
      both_same (by_nodes left right (nodes_in clafers scopes k) (targets_in clafers scopes k) (nodes_in clafers scopes l) (targets_in clafers scopes l)) a b
      (16 * (w.most_through clafers scopes left k + w.most_through clafers scopes right l + 1) + w.follow_weight clafers scopes left k + w.follow_weight clafers scopes right l) u v (nodes_same left right k l) s t

  -- quantifiers
  tuples_same : (n m k b c o p : ℕ) → n ≡ m → Same b c → Same o p → Same (tuples n k b o) (w.tuples_weight (m ^ k) k c p)
  tuples_same n m k b c o p e s t =
      plus_same (plus (times (power n k) (plus (plus (plus b (times 8 k)) (times 16 (binary_digits (power n k)))) 16)) 8) o (m ^ k * (c + 8 * k + 16 * binary_digits (m ^ k) + 16) + 8) p
      (plus_same (times (power n k) (plus (plus (plus b (times 8 k)) (times 16 (binary_digits (power n k)))) 16)) 8 (m ^ k * (c + 8 * k + 16 * binary_digits (m ^ k) + 16)) 8
      (subst (λ z. Same (times (power n k) (plus (plus (plus b (times 8 k)) (times 16 (binary_digits (power n k)))) 16)) (z ^ k * (c + 8 * k + 16 * binary_digits (z ^ k) + 16))) e
      (chain (times (power n k) (plus (plus (plus b (times 8 k)) (times 16 (binary_digits (power n k)))) 16)) (power n k * (plus b (times 8 k) + 16 * binary_digits (power n k) + 16)) (n ^ k * (c + 8 * k + 16 * binary_digits (n ^ k) + 16))
      (times_same (power n k) (plus (plus (plus b (times 8 k)) (times 16 (binary_digits (power n k)))) 16) (power n k) (plus b (times 8 k) + 16 * binary_digits (power n k) + 16) (itself (power n k))
      (plus_same (plus (plus b (times 8 k)) (times 16 (binary_digits (power n k)))) 16 (plus b (times 8 k) + 16 * binary_digits (power n k)) 16
      (plus_same (plus b (times 8 k)) (times 16 (binary_digits (power n k))) (plus b (times 8 k)) (16 * binary_digits (power n k)) (itself (plus b (times 8 k)))
      (times_same 16 (binary_digits (power n k)) 16 (binary_digits (power n k)) (itself 16) (itself (binary_digits (power n k))))) (itself 16)))
      (digits_same (power n k) (n ^ k) (plus b (times 8 k)) (c + 8 * k) (power_same n k) (plus_same b (times 8 k) c (8 * k) s (times_same 8 k 8 k (itself 8) (itself k))))))
      (itself 8)) t

  leaf_same : (k : Option Kind) → Same (plus (nodes_in clafers scopes k) 1) (most clafers scopes k + 1)
  unfolding nodes_in
  leaf_same k = one_same (most clafers scopes k)

  -- the law
  pub light_same : (t : Tree) (v : Within) → Same (light clafers scopes t v) (weight clafers scopes t v)
  light_same (e.Literal _ n) v = itself 2
  light_same (e.This at) v = leaf_same (kind clafers (e.This at) v)
  light_same (e.Step _ a into follow) v = step_same follow (kind clafers a v) (Some (kinds.Nodes into)) (light clafers scopes a v) (weight clafers scopes a v) (light_same a v)
  light_same (e.Parent at a) v = move_same (kind clafers a v) (kind clafers (e.Parent at a) v) (light clafers scopes a v) (weight clafers scopes a v) (light_same a v)
  light_same (e.Dref at a) v = dref_same (kind clafers a v) (kind clafers (e.Dref at a) v) (light clafers scopes a v) (weight clafers scopes a v) (light_same a v)
  light_same (e.Union _ a b) v =
      union_same (kind clafers a v) (kind clafers b v) (light clafers scopes a v) (light clafers scopes b v) (weight clafers scopes a v) (weight clafers scopes b v) (light_same a v) (light_same b v)
  light_same (e.Minus _ a b) v =
      union_same (kind clafers a v) (kind clafers b v) (light clafers scopes a v) (light clafers scopes b v) (weight clafers scopes a v) (weight clafers scopes b v) (light_same a v) (light_same b v)
  light_same (e.Meet _ a b) v =
      union_same (kind clafers a v) (kind clafers b v) (light clafers scopes a v) (light clafers scopes b v) (weight clafers scopes a v) (weight clafers scopes b v) (light_same a v) (light_same b v)
  light_same (e.If at t a b) v =
      plus_same (chosen clafers scopes (kind clafers (e.If at t a b) v) (bits_of clafers scopes (e.If at t a b) v) (kind clafers a v) (light clafers scopes a v) (kind clafers b v) (light clafers scopes b v))
      (tested scopes (kind clafers t v) (n_of clafers scopes t v) (light clafers scopes t v))
      (w.choice_weight clafers scopes (kind clafers (e.If at t a b) v) (bits clafers scopes (e.If at t a b) v) (kind clafers a v) (weight clafers scopes a v) (kind clafers b v) (weight clafers scopes b v))
      (w.tested clafers scopes (kind clafers t v) (weight clafers scopes t v))
      (choice_same (kind clafers (e.If at t a b) v) (kind clafers a v) (kind clafers b v) (bits clafers scopes (e.If at t a b) v) (light clafers scopes a v) (light clafers scopes b v) (weight clafers scopes a v) (weight clafers scopes b v) (light_same a v) (light_same b v))
      (test_part (kind clafers t v) (light clafers scopes t v) (weight clafers scopes t v) (light_same t v))
  light_same (e.Not _ a) v =
      plus_same 8 (tested scopes (kind clafers a v) (n_of clafers scopes a v) (light clafers scopes a v)) 8 (w.tested clafers scopes (kind clafers a v) (weight clafers scopes a v)) (itself 8)
      (test_part (kind clafers a v) (light clafers scopes a v) (weight clafers scopes a v) (light_same a v))
  light_same (e.And _ a b) v = tests_same (kind clafers a v) (kind clafers b v) (light clafers scopes a v) (light clafers scopes b v) (weight clafers scopes a v) (weight clafers scopes b v) (light_same a v) (light_same b v)
  light_same (e.Or _ a b) v = tests_same (kind clafers a v) (kind clafers b v) (light clafers scopes a v) (light clafers scopes b v) (weight clafers scopes a v) (weight clafers scopes b v) (light_same a v) (light_same b v)
  light_same (e.Xor _ a b) v = tests_same (kind clafers a v) (kind clafers b v) (light clafers scopes a v) (light clafers scopes b v) (weight clafers scopes a v) (weight clafers scopes b v) (light_same a v) (light_same b v)
  light_same (e.Implies _ a b) v = tests_same (kind clafers a v) (kind clafers b v) (light clafers scopes a v) (light clafers scopes b v) (weight clafers scopes a v) (weight clafers scopes b v) (light_same a v) (light_same b v)
  light_same (e.Iff _ a b) v = tests_same (kind clafers a v) (kind clafers b v) (light clafers scopes a v) (light clafers scopes b v) (weight clafers scopes a v) (weight clafers scopes b v) (light_same a v) (light_same b v)
  light_same (e.Card _ a) v = count_part (kind clafers a v) (light clafers scopes a v) (weight clafers scopes a v) (light_same a v)
  light_same (e.Sum _ a) v = count_part (kind clafers a v) (light clafers scopes a v) (weight clafers scopes a v) (light_same a v)
  light_same (e.Neg at a) v =
      plus_same (times 16 (plus (bits_of clafers scopes (e.Neg at a) v) 1)) (counted scopes (kind clafers a v) (n_of clafers scopes a v) (light clafers scopes a v))
      (16 * (bits clafers scopes (e.Neg at a) v + 1)) (w.counted clafers scopes (kind clafers a v) (weight clafers scopes a v))
      (times_same 16 (plus (bits clafers scopes (e.Neg at a) v) 1) 16 (bits clafers scopes (e.Neg at a) v + 1) (itself 16) (one_same (bits clafers scopes (e.Neg at a) v)))
      (number_part (kind clafers a v) (light clafers scopes a v) (weight clafers scopes a v) (light_same a v))
  light_same (e.Add at a b) v =
      numbers_same (kind clafers a v) (kind clafers b v) (times 16 (plus (bits clafers scopes (e.Add at a b) v) 1)) (light clafers scopes a v) (light clafers scopes b v)
      (16 * ((bits clafers scopes (e.Add at a b) v) + 1)) (weight clafers scopes a v) (weight clafers scopes b v)
      (times_same 16 (plus (bits clafers scopes (e.Add at a b) v) 1) 16 ((bits clafers scopes (e.Add at a b) v) + 1) (itself 16) (one_same (bits clafers scopes (e.Add at a b) v)))
      (light_same a v) (light_same b v)
  light_same (e.Sub at a b) v =
      numbers_same (kind clafers a v) (kind clafers b v) (times 16 (plus (plus (bits clafers scopes (e.Sub at a b) v) (bits clafers scopes b v)) 3)) (light clafers scopes a v) (light clafers scopes b v)
      (16 * ((bits clafers scopes (e.Sub at a b) v) + bits clafers scopes b v + 3)) (weight clafers scopes a v) (weight clafers scopes b v)
      (sixteen_same (bits clafers scopes (e.Sub at a b) v) (bits clafers scopes b v) 3)
      (light_same a v) (light_same b v)
  light_same (e.Mul at a b) v =
      numbers_same (kind clafers a v) (kind clafers b v) (times (times 16 (plus (bits clafers scopes (e.Mul at a b) v) 1)) (plus (bits clafers scopes (e.Mul at a b) v) 1)) (light clafers scopes a v) (light clafers scopes b v)
      (16 * ((bits clafers scopes (e.Mul at a b) v) + 1) * ((bits clafers scopes (e.Mul at a b) v) + 1)) (weight clafers scopes a v) (weight clafers scopes b v)
      (times_same (times 16 (plus (bits clafers scopes (e.Mul at a b) v) 1)) (plus (bits clafers scopes (e.Mul at a b) v) 1) (16 * ((bits clafers scopes (e.Mul at a b) v) + 1)) ((bits clafers scopes (e.Mul at a b) v) + 1) (times_same 16 (plus (bits clafers scopes (e.Mul at a b) v) 1) 16 ((bits clafers scopes (e.Mul at a b) v) + 1) (itself 16) (one_same (bits clafers scopes (e.Mul at a b) v))) (one_same (bits clafers scopes (e.Mul at a b) v)))
      (light_same a v) (light_same b v)
  light_same (e.Less _ a b) v =
      numbers_same (kind clafers a v) (kind clafers b v) (times 16 (plus (plus (bits clafers scopes a v) (bits clafers scopes b v)) 2)) (light clafers scopes a v) (light clafers scopes b v)
      (16 * (bits clafers scopes a v + bits clafers scopes b v + 2)) (weight clafers scopes a v) (weight clafers scopes b v)
      (sixteen_same (bits clafers scopes a v) (bits clafers scopes b v) 2)
      (light_same a v) (light_same b v)
  light_same (e.LessEqual _ a b) v =
      numbers_same (kind clafers a v) (kind clafers b v) (times 16 (plus (plus (bits clafers scopes a v) (bits clafers scopes b v)) 2)) (light clafers scopes a v) (light clafers scopes b v)
      (16 * (bits clafers scopes a v + bits clafers scopes b v + 2)) (weight clafers scopes a v) (weight clafers scopes b v)
      (sixteen_same (bits clafers scopes a v) (bits clafers scopes b v) 2)
      (light_same a v) (light_same b v)
  light_same (e.Greater _ a b) v =
      numbers_same (kind clafers a v) (kind clafers b v) (times 16 (plus (plus (bits clafers scopes a v) (bits clafers scopes b v)) 2)) (light clafers scopes a v) (light clafers scopes b v)
      (16 * (bits clafers scopes a v + bits clafers scopes b v + 2)) (weight clafers scopes a v) (weight clafers scopes b v)
      (sixteen_same (bits clafers scopes a v) (bits clafers scopes b v) 2)
      (light_same a v) (light_same b v)
  light_same (e.GreaterEqual _ a b) v =
      numbers_same (kind clafers a v) (kind clafers b v) (times 16 (plus (plus (bits clafers scopes a v) (bits clafers scopes b v)) 2)) (light clafers scopes a v) (light clafers scopes b v)
      (16 * (bits clafers scopes a v + bits clafers scopes b v + 2)) (weight clafers scopes a v) (weight clafers scopes b v)
      (sixteen_same (bits clafers scopes a v) (bits clafers scopes b v) 2)
      (light_same a v) (light_same b v)
  light_same (e.Equal _ a b) v =
      compared_same (reading_of clafers (kind clafers a v) (kind clafers b v)) (kind clafers a v) (kind clafers b v) (bits clafers scopes a v) (bits clafers scopes b v) (light clafers scopes a v) (light clafers scopes b v) (weight clafers scopes a v) (weight clafers scopes b v) (light_same a v) (light_same b v)
  light_same (e.In _ a b) v =
      compared_same (reading_of clafers (kind clafers a v) (kind clafers b v)) (kind clafers a v) (kind clafers b v) (bits clafers scopes a v) (bits clafers scopes b v) (light clafers scopes a v) (light clafers scopes b v) (weight clafers scopes a v) (weight clafers scopes b v) (light_same a v) (light_same b v)
  light_same (e.Some _ a) v = count_part (kind clafers a v) (light clafers scopes a v) (weight clafers scopes a v) (light_same a v)
  light_same (e.No _ a) v = count_part (kind clafers a v) (light clafers scopes a v) (weight clafers scopes a v) (light_same a v)
  light_same (e.One _ a) v = count_part (kind clafers a v) (light clafers scopes a v) (weight clafers scopes a v) (light_same a v)
  light_same (e.Lone _ a) v = count_part (kind clafers a v) (light clafers scopes a v) (weight clafers scopes a v) (light_same a v)
  light_same (e.Quant _ word disj names over body) v =
      let inner = bind_kinds (clafers_of (kind clafers over v)) (length names) v in
      tuples_same (n_of clafers scopes over v) (most clafers scopes (kind clafers over v)) (length names) (tested scopes (kind clafers body inner) (n_of clafers scopes body inner) (light clafers scopes body inner))
      (w.tested clafers scopes (kind clafers body inner) (weight clafers scopes body inner)) (light clafers scopes over v) (weight clafers scopes over v) (nodes_are (kind clafers over v))
      (test_part (kind clafers body inner) (light clafers scopes body inner) (weight clafers scopes body inner) (light_same body inner)) (light_same over v)
  light_same (e.Variable at i) v = leaf_same (kind clafers (e.Variable at i) v)
  light_same (e.Clafer at k) v = leaf_same (kind clafers (e.Clafer at k) v)
  light_same (e.Name at n) v = leaf_same None
  light_same (e.Join at a n) v = leaf_same None

  -- clafers
  count_below_same : (n u p q : ℕ) → Same n p → Same u q → Same (times (times 8 n) (plus u 1)) (8 * p * (q + 1))
  count_below_same n u p q s t = times_same (times 8 n) (plus u 1) (8 * p) (q + 1) (times_same 8 n 8 p (itself 8) s) (plus_same u 1 q 1 t (itself 1))

  concrete_same : (s p q t : ℕ) (pairs : Bool) (u : ℕ) → Same p q
      → Same (spec.concrete s p t pairs u) (1 + 32 * s * (q + t + 2) + (cond pairs (4 * s * s * (q + t + 2)) 0) + 8 * max q 1 * s * (u + 1))
  concrete_same s p q t pairs u h =
      plus_same (plus (plus 1 (times (times 32 s) (plus (plus p t) 2))) (cond pairs (times (times (times 4 s) s) (plus (plus p t) 2)) 0)) (times (times (times 8 (max p 1)) s) (plus u 1))
      (1 + 32 * s * (q + t + 2) + cond pairs (4 * s * s * (q + t + 2)) 0) (8 * max q 1 * s * (u + 1))
      (plus_same (plus 1 (times (times 32 s) (plus (plus p t) 2))) (cond pairs (times (times (times 4 s) s) (plus (plus p t) 2)) 0) (1 + 32 * s * (q + t + 2)) (cond pairs (4 * s * s * (q + t + 2)) 0)
      (plus_same 1 (times (times 32 s) (plus (plus p t) 2)) 1 (32 * s * (q + t + 2)) (itself 1)
      (times_same (times 32 s) (plus (plus p t) 2) (32 * s) (q + t + 2) (times_same 32 s 32 s (itself 32) (itself s)) slots)) (pick pairs))
      (times_same (times (times 8 (max p 1)) s) (plus u 1) (8 * max q 1 * s) (u + 1)
      (times_same (times 8 (max p 1)) s (8 * max q 1) s (times_same 8 (max p 1) 8 (max q 1) (itself 8) (max_same p q 1 h)) (itself s)) (one_same u))
    where
      slots : Same (plus (plus p t) 2) (q + t + 2)
      slots = plus_same (plus p t) 2 (q + t) 2 (plus_same p t q t h (itself t)) (itself 2)

      pick : (b : Bool) → Same (cond b (times (times (times 4 s) s) (plus (plus p t) 2)) 0) (cond b (4 * s * s * (q + t + 2)) 0)
      pick true = times_same (times (times 4 s) s) (plus (plus p t) 2) (4 * s * s) (q + t + 2) (times_same (times 4 s) s (4 * s) s (times_same 4 s 4 s (itself 4) (itself s)) (itself s)) slots
      pick false = itself 0

  group_same : (d n m : ℕ) (times_of : Interval) → Same n m → Same (spec.counting_below d n (counted_to times_of n)) (8 * d * m * (counted_to times_of m + 1))
  group_same d n m times_of h =
      times_same (times (times 8 d) n) (plus (counted_to times_of n) 1) (8 * d * m) (counted_to times_of m + 1)
      (times_same (times 8 d) n (8 * d) m (times_same 8 d 8 d (itself 8) (itself d)) h)
      (plus_same (counted_to times_of n) 1 (counted_to times_of m) 1 (min_same n m (option_map_or (λ high. high) times_of.high times_of.low) h) (itself 1))

  where_not : (b : Bool) (x y : ℕ) → Same x y → Same (cond b 0 x) (cond b 0 y)
  where_not true x y h = itself 0
  where_not false x y h = h

  either : (b : Bool) (x y u v : ℕ) → Same x u → Same y v → Same (cond b x y) (cond b u v)
  either true x y u v h k = h
  either false x y u v h k = k

  clafer_same : (c : ℕ) (k : Clafer) → Same (spec.light_clafer clafers scopes c k) (w.clafer_weight clafers scopes c k)
  clafer_same c k =
      plus_same (cond k.is_abstract (spec.light_abstract clafers scopes c k) (spec.light_concrete clafers scopes c k)) (spec.light_group clafers scopes c k)
      (cond k.is_abstract (w.abstract_weight clafers scopes c k) (w.concrete_weight clafers scopes c k)) (w.group_weight clafers scopes c k)
      (either k.is_abstract (spec.light_abstract clafers scopes c k) (spec.light_concrete clafers scopes c k) (w.abstract_weight clafers scopes c k) (w.concrete_weight clafers scopes c k)
      (where_not (is_any k.times) (spec.counting (room clafers scopes (c ∷ [])) (counted_to k.times (room clafers scopes (c ∷ []))))
      (8 * room clafers scopes (c ∷ []) * (counted_to k.times (room clafers scopes (c ∷ [])) + 1))
      (count_below_same (room clafers scopes (c ∷ [])) (counted_to k.times (room clafers scopes (c ∷ []))) (room clafers scopes (c ∷ [])) (counted_to k.times (room clafers scopes (c ∷ [])))
      (itself (room clafers scopes (c ∷ []))) (itself (counted_to k.times (room clafers scopes (c ∷ []))))))
      (concrete_same (scope_of scopes c) (owner_room clafers scopes c) (owner_room clafers scopes c) (target_slots clafers scopes c) (has_pairs clafers scopes c k) (counted_to k.times (scope_of scopes c))
      (itself (owner_room clafers scopes c))))
      (where_not (is_any k.group) (spec.counting_below (room clafers scopes (c ∷ [])) (child_room clafers scopes c) (counted_to k.group (child_room clafers scopes c)))
      (8 * room clafers scopes (c ∷ []) * child_room clafers scopes c * (counted_to k.group (child_room clafers scopes c) + 1))
      (group_same (room clafers scopes (c ∷ [])) (child_room clafers scopes c) (child_room clafers scopes c) k.group (itself (child_room clafers scopes c))))

  at_same : (c : ℕ) (o : Option Clafer) → Same (option_map_or (spec.light_clafer clafers scopes c) o 0) (option_map_or (w.clafer_weight clafers scopes c) o 0)
  at_same c None = itself 0
  at_same c (Some k) = clafer_same c k

  rule_same : (r : Rule) → Same (spec.light_rule clafers scopes r) (w.rule_weight clafers scopes r)
  rule_same r =
      let t = tree r.body in
      let v = within_context r.context in
      let x = tested scopes (kind clafers t v) (n_of clafers scopes t v) (light clafers scopes t v) in
      let y = w.tested clafers scopes (kind clafers t v) (weight clafers scopes t v) in
      plus_same (times (rule_instances clafers scopes r.context) (plus x 8)) 8 (rule_instances clafers scopes r.context * (y + 8)) 8
      (times_same (rule_instances clafers scopes r.context) (plus x 8) (rule_instances clafers scopes r.context) (y + 8) (itself (rule_instances clafers scopes r.context))
      (plus_same x 8 y 8 (test_part (kind clafers t v) (light clafers scopes t v) (weight clafers scopes t v) (light_same t v)) (itself 8))) (itself 8)

  goal_same : (g : Goal) → Same (spec.light_goal clafers scopes g) (w.goal_weight clafers scopes g)
  goal_same g =
      let t = tree g.body in
      let v = within_context None in
      plus_same (counted scopes (kind clafers t v) (n_of clafers scopes t v) (light clafers scopes t v)) 8 (w.counted clafers scopes (kind clafers t v) (weight clafers scopes t v)) 8
      (number_part (kind clafers t v) (light clafers scopes t v) (weight clafers scopes t v) (light_same t v)) (itself 8)

pub model_same : (scopes : Scopes) (m : Model) → Same (spec.light_model scopes m)
    (8 + clafers_weight scopes m + sum (map (w.rule_weight m.clafers scopes) m.rules) + sum (map (w.goal_weight m.clafers scopes) m.goals))
model_same scopes m =
    let cs = sum (map (spec.light_at m.clafers scopes) (numbers_below (length m.clafers))) in
    let rs = total (spec.light_rule m.clafers scopes) 0 m.rules in
    let gs = total (spec.light_goal m.clafers scopes) 0 m.goals in
    let xs = sum (map (w.rule_weight m.clafers scopes) m.rules) in
    let ys = sum (map (w.goal_weight m.clafers scopes) m.goals) in
    plus_same (plus (plus 8 (capped cs)) rs) gs (8 + clafers_weight scopes m + xs) ys
    (plus_same (plus 8 (capped cs)) rs (8 + clafers_weight scopes m) xs
    (plus_same 8 (capped cs) 8 (clafers_weight scopes m) (itself 8)
    (chain (capped cs) cs (clafers_weight scopes m) (capped_same cs) (sums_same (spec.light_at m.clafers scopes) (w.weight_at m.clafers scopes) (numbers_below (length m.clafers)) (λ c. at_same m.clafers scopes c (slice_get m.clafers c)))))
    (added_same (spec.light_rule m.clafers scopes) (w.rule_weight m.clafers scopes) m.rules (rule_same m.clafers scopes)))
    (added_same (spec.light_goal m.clafers scopes) (w.goal_weight m.clafers scopes) m.goals (goal_same m.clafers scopes))

-- the weight is what is counted: a capped number stays as it is
capped_twice : (n m : ℕ) → Same (capped n) m → capped n ≡ min (10 ^ 18) m
capped_twice n m s = whole (capped n) m s (capped_limit n)
  where
    whole : (a b : ℕ) → Same a b → a ≤ limit → a ≡ min (10 ^ 18) b
    whole a b (inl e) h = e ∙ sym (min-eq_right (subst (λ z. z ≤ limit) e h))
    whole a b (inr k) h = most a (omega (arith, h, k.0)) ∙ sym (min-eq_left k.1)
      where
        most : (c : ℕ) → c ≡ limit → c ≡ 10 ^ 18
        most c e = e

pub model_weighs : (scopes : Scopes) (m : Model) → spec.light_model scopes m ≡ model_weight scopes m
model_weighs scopes m =
    capped_twice
    (plus (plus 8 (capped (sum (map (spec.light_at m.clafers scopes) (numbers_below (length m.clafers)))))) (total (spec.light_rule m.clafers scopes) 0 m.rules)
    + total (spec.light_goal m.clafers scopes) 0 m.goals)
    (8 + clafers_weight scopes m + sum (map (w.rule_weight m.clafers scopes) m.rules) + sum (map (w.goal_weight m.clafers scopes) m.goals)) (model_same scopes m)
