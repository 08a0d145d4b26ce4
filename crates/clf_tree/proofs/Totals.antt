-- The sum of the integers of a set of nodes.
use Rattle.std.proofs.Common.{◌≡◌, ℕ, zero, suc, ◌+◌, ◌-◌, ◌≤◌, Bool, true, false, ◌&&◌, List, [], ◌∷◌, length, map, cond, Option, Some, None, refl, sym, subst, arith, ℤ, pos, ◌+ℤ◌, ◌*ℤ◌, ◌≤ℤ◌}
use Rattle.std.specs.Prelude.{int_le, is_none}
use Rattle.std.specs.Int.{int_min, int_max}
use Rattle.std.specs.Option.{option_map_or, option_and_then}
use Rattle.std.specs.List.{find, list_all}
use Rattle.std.proofs.lemmas.Bool.{true≢false}
use Rattle.std.proofs.lemmas.Int.{ints, clamps}
use Rattle.clf_tree.specs.declared.model.Clafer.{Clafer}
use Rattle.clf_tree.specs.declared.model.Reference.{Reference}
use Rattle.clf_tree.specs.declared.instance.Node.{Node}
use Rattle.clf_tree.specs.declared.instance.Target.{Target}
use Rattle.clf_tree.specs.declared.instance.Target.TheVariants as target
use Rattle.clf_tree.specs.declared.instance.Entry.{Entry}
use Rattle.clf_tree.specs.declared.scopes.Scopes.{Scopes}
use Rattle.clf_tree.specs.Hierarchy.{reference_of}
use Rattle.clf_tree.specs.Nodes.{same_node, entry_of}
use Rattle.clf_tree.specs.Shape.{meets_reference, refers}
use Rattle.clf_tree.specs.Meaning.{total, int_in, int_of}
use Rattle.clf_tree.proofs.Items.{In, first, later, all_in, and_left, and_right}
use Rattle.clf_tree.proofs.Integers.{mul_suc}

-- between the least and the greatest integer of the range, or 0
pub record IsMiddle (scopes : Scopes) (z : ℤ) : Type 0 where
  pub least : int_min (pos 0) scopes.low ≤ℤ z
  pub most : z ≤ℤ int_max (pos 0) scopes.high

zero_middle : (scopes : Scopes) → IsMiddle scopes (pos 0)
zero_middle scopes = record { least = omega (arith, ints, clamps); most = omega (arith, ints, clamps) }

range_middle : (scopes : Scopes) (z : ℤ) → (int_le scopes.low z && int_le z scopes.high) ≡ true → IsMiddle scopes z
range_middle scopes z h =
    let low = le_of scopes.low z (and_left (int_le scopes.low z) (int_le z scopes.high) h) in
    let high = le_of z scopes.high (and_right (int_le scopes.low z) (int_le z scopes.high) h) in
    record { least = low_of scopes.low z low; most = high_of scopes.high z high }
  where
    le_of : (a b : ℤ) → int_le a b ≡ true → a ≤ℤ b
    le_of a b h = grind (arith, ints)

    low_of : (a b : ℤ) → a ≤ℤ b → int_min (pos 0) a ≤ℤ b
    low_of a b h = omega (arith, ints, clamps)

    high_of : (a b : ℤ) → b ≤ℤ a → b ≤ℤ int_max (pos 0) a
    high_of a b h = omega (arith, ints, clamps)

module _ (clafers : List Clafer) (entries : List Entry) (scopes : Scopes) where
  target_middle : (r : Option ℕ) (t : Target) → refers clafers entries scopes r t ≡ true → IsMiddle scopes (int_in t)
  target_middle None (target.Int z) h = range_middle scopes z h
  target_middle (Some c) (target.Int z) h = absurd (true≢false (sym h))
  target_middle r (target.Node n) h = zero_middle scopes

  entry_middle : (t : Option Target) (r : Option Reference) → option_map_or (λ q. option_map_or (refers clafers entries scopes q.to) t false) r (is_none t) ≡ true → IsMiddle scopes (option_map_or int_in t (pos 0))
  entry_middle None r h = zero_middle scopes
  entry_middle (Some t) None h = absurd (true≢false (sym h))
  entry_middle (Some t) (Some q) h = target_middle q.to t h

  pick_in : (p : Entry → Bool) (xs : List Entry) (x : Entry) → find p xs ≡ Some x → In x xs
  pick_in p [] x h = (cc)
  pick_in p (y ∷ ys) x h = at (p y) h (pick_in p ys x)
    where
      some_same : (a b : Entry) → Some a ≡ Some b → a ≡ b
      some_same a b q = (cc)

      at : (b : Bool) → cond b (Some y) (find p ys) ≡ Some x → (find p ys ≡ Some x → In x ys) → In x (y ∷ ys)
      at true e rest = subst (λ z. In z (y ∷ ys)) (some_same y x e) first
      at false e rest = later (rest e)

  found_middle : (n : Node) (x : Option Entry) → entry_of entries n ≡ x → list_all (meets_reference clafers entries scopes) entries ≡ true → IsMiddle scopes (option_map_or int_in (option_and_then (λ z. z.target) x) (pos 0))
  found_middle n None e all = zero_middle scopes
  found_middle n (Some x) e all = entry_middle x.target (reference_of clafers x.node.clafer) (all_in (meets_reference clafers entries scopes) entries x (pick_in (λ z. same_node n z.node) entries x e) all)

  node_middle : list_all (meets_reference clafers entries scopes) entries ≡ true → (n : Node) → IsMiddle scopes (int_of clafers entries n)
  node_middle all n = found_middle n (entry_of entries n) refl all

  -- a sum lies between so many times the ends
  pub record Spread (n : ℕ) (z : ℤ) : Type 0 where
    pub least : (pos n *ℤ int_min (pos 0) scopes.low) ≤ℤ z
    pub most : z ≤ℤ (pos n *ℤ int_max (pos 0) scopes.high)

  spread_zero : Spread 0 (pos 0)
  spread_zero = record { least = at (int_min (pos 0) scopes.low); most = to (int_max (pos 0) scopes.high) }
    where
      at : (a : ℤ) → (pos 0 *ℤ a) ≤ℤ pos 0
      at a = omega (arith, ints)

      to : (a : ℤ) → pos 0 ≤ℤ (pos 0 *ℤ a)
      to a = omega (arith, ints)

  spread_more : (n : ℕ) (y z : ℤ) → IsMiddle scopes y → Spread n z → Spread (suc n) (y +ℤ z)
  spread_more n y z m s = record {
    least = low (int_min (pos 0) scopes.low) m.least s.least;
    most = high (int_max (pos 0) scopes.high) m.most s.most;
  }
    where
      low : (a : ℤ) → a ≤ℤ y → (pos n *ℤ a) ≤ℤ z → (pos (suc n) *ℤ a) ≤ℤ (y +ℤ z)
      low a p q = omega (arith, ints, mul_suc n a)

      high : (a : ℤ) → y ≤ℤ a → z ≤ℤ (pos n *ℤ a) → (y +ℤ z) ≤ℤ (pos (suc n) *ℤ a)
      high a p q = omega (arith, ints, mul_suc n a)

  total_spread : list_all (meets_reference clafers entries scopes) entries ≡ true → (ns : List Node) → Spread (length ns) (total (map (int_of clafers entries) ns))
  total_spread all [] = spread_zero
  total_spread all (n ∷ ns) = spread_more (length ns) (int_of clafers entries n) (total (map (int_of clafers entries) ns)) (node_middle all n) (total_spread all ns)

  -- also where there may be more of them
  up_step : (m d : ℕ) (a : ℤ) → pos 0 ≤ℤ a → (pos m *ℤ a) ≤ℤ (pos (m + d) *ℤ a)
  up_step m zero a k = subst (λ z. (pos m *ℤ a) ≤ℤ (pos z *ℤ a)) (omega arith) (same (pos m *ℤ a))
    where
      same : (z : ℤ) → z ≤ℤ z
      same z = omega (arith, ints)
  up_step m (suc d) a k = subst (λ z. (pos m *ℤ a) ≤ℤ (pos z *ℤ a)) (omega arith) (more (pos m *ℤ a) (pos (m + d) *ℤ a) (pos (suc (m + d)) *ℤ a) (mul_suc (m + d) a) (up_step m d a k))
    where
      more : (x y z : ℤ) → z ≡ (a +ℤ y) → x ≤ℤ y → x ≤ℤ z
      more x y z e h = omega (arith, ints)

  down_step : (m d : ℕ) (a : ℤ) → a ≤ℤ pos 0 → (pos (m + d) *ℤ a) ≤ℤ (pos m *ℤ a)
  down_step m zero a k = subst (λ z. (pos z *ℤ a) ≤ℤ (pos m *ℤ a)) (omega arith) (same (pos m *ℤ a))
    where
      same : (z : ℤ) → z ≤ℤ z
      same z = omega (arith, ints)
  down_step m (suc d) a k = subst (λ z. (pos z *ℤ a) ≤ℤ (pos m *ℤ a)) (omega arith) (more (pos m *ℤ a) (pos (m + d) *ℤ a) (pos (suc (m + d)) *ℤ a) (mul_suc (m + d) a) (down_step m d a k))
    where
      more : (x y z : ℤ) → z ≡ (a +ℤ y) → y ≤ℤ x → z ≤ℤ x
      more x y z e h = omega (arith, ints)

  pub spread_within : (ns : List Node) (n : ℕ) → list_all (meets_reference clafers entries scopes) entries ≡ true → length ns ≤ n → Spread n (total (map (int_of clafers entries) ns))
  spread_within ns n all few =
      let s = total_spread all ns in
      record {
        least = le_trans (pos n *ℤ int_min (pos 0) scopes.low) (pos (length ns) *ℤ int_min (pos 0) scopes.low) (total (map (int_of clafers entries) ns)) (down (int_min (pos 0) scopes.low) (least_zero scopes.low)) s.least;
        most = le_trans (total (map (int_of clafers entries) ns)) (pos (length ns) *ℤ int_max (pos 0) scopes.high) (pos n *ℤ int_max (pos 0) scopes.high) s.most (up (int_max (pos 0) scopes.high) (most_zero scopes.high));
      }
    where
      le_trans : (a b c : ℤ) → a ≤ℤ b → b ≤ℤ c → a ≤ℤ c
      le_trans a b c p q = omega (arith, ints)

      least_zero : (a : ℤ) → int_min (pos 0) a ≤ℤ pos 0
      least_zero a = omega (arith, ints, clamps)

      most_zero : (a : ℤ) → pos 0 ≤ℤ int_max (pos 0) a
      most_zero a = omega (arith, ints, clamps)

      down : (a : ℤ) → a ≤ℤ pos 0 → (pos n *ℤ a) ≤ℤ (pos (length ns) *ℤ a)
      down a k = subst (λ z. (pos z *ℤ a) ≤ℤ (pos (length ns) *ℤ a)) (omega (arith, few)) (down_step (length ns) (n - length ns) a k)

      up : (a : ℤ) → pos 0 ≤ℤ a → (pos (length ns) *ℤ a) ≤ℤ (pos n *ℤ a)
      up a k = subst (λ z. (pos (length ns) *ℤ a) ≤ℤ (pos z *ℤ a)) (omega (arith, few)) (up_step (length ns) (n - length ns) a k)
