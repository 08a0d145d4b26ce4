-- The value of an integer expression lies in its interval.
use Rattle.std.proofs.Common.{◌≡◌, ℕ, ◌-◌, ◌^◌, ◌≤◌, Bool, true, false, ◌&&◌, List, [], ◌∷◌, ◌++◌, length, map, cond, Option, Some, None, refl, sym, subst, ◌∙◌, arith, ℤ, pos, ◌+ℤ◌, ◌-ℤ◌, ◌*ℤ◌, neg_ℤ, ◌≤ℤ◌, ◌<ℤ◌}
use Rattle.std.specs.Prelude.{nat_le, int_le, int_lt, if◌then◌else◌}
use Rattle.std.specs.Int.{int_min, int_max}
use Rattle.std.specs.Option.{option_map, option_map_or}
use Rattle.std.specs.List.{find, list_all, range_with_len}
use Rattle.std.proofs.lemmas.Grind.{common_steps}
use Rattle.std.proofs.lemmas.Bool.{true≢false}
use Rattle.std.proofs.lemmas.Int.{ints, clamps}
use Rattle.std.proofs.lemmas.List.Folds.{list_all-append}
use Rattle.std.proofs.Math.Nat.{pow-le-pow_right}
use Rattle.clf_tree.specs.declared.model.Clafer.{Clafer}
use Rattle.clf_tree.specs.declared.bounds.Bounds.{Bounds}
use Rattle.clf_tree.specs.Widths.{width, is_held}
use Rattle.clf_tree.specs.Intervals.{between, clamped, product, room, members, sum_between, choice, interval}
use Rattle.clf_tree.specs.Typed.{fits_truth, fits_nodes, fits_number, fits_sum, fit_choice, is_typed}
use Rattle.clf_tree.specs.Numerics.{Numeric, numeric, inside, is_narrow, all_narrow, is_integer, and_itself}
use Rattle.clf_tree.specs.Kinds.{kind, clafers_of, parents_of, dref_kind, union_kind, left_kind, compared_kind, reading, parent_kind}
use Rattle.clf_tree.specs.Meaning as meaning
use Rattle.clf_tree.specs.Meaning.{Value, Situation, value, number, total, int_of, nodes, is_true, taken_as}
use Rattle.clf_tree.specs.declared.kind.Kind.{Kind}
use Rattle.clf_tree.specs.declared.kind.Kind.TheVariants as kinds
use Rattle.clf_tree.specs.declared.kind.Reading.{Reading}
use Rattle.clf_tree.specs.declared.instance.Node.{Node}
use Rattle.clf_tree.specs.declared.instance.Entry.{Entry}
use Rattle.clf_tree.specs.declared.scopes.Scopes.{Scopes}
use Rattle.clf_tree.specs.Hierarchy.{refer_to_int, targets_of, share}
use Rattle.clf_tree.specs.Lists.{from_end}
use Rattle.clf_tree.specs.Tree as e
use Rattle.clf_tree.specs.Tree.{Tree}
use Rattle.clf_tree.proofs.Counts.{IsSet, set_count}
use Rattle.clf_tree.proofs.Integers.{product_between}
use Rattle.clf_tree.proofs.Totals.{spread_within}
use Rattle.clf_tree.proofs.SetsOfNodes.{IsSound, IsPlace, HasKind, value_has_kind}
use Rattle.clf_tree.proofs.Items.{and_left, and_right}

pub record Lies (b : Bounds) (z : ℤ) : Type 0 where
  pub least : b.low ≤ℤ z
  pub most : z ≤ℤ b.high

-- what is held by 62 bits is small
small_held : (b : Bounds) (bits : ℕ) → bits ≤ 62 → is_held b bits ≡ true → (neg_ℤ (pos (2 ^ 61)) ≤ℤ b.low) × (b.high <ℤ pos (2 ^ 61))
small_held b bits few h =
    let p = pow-le-pow_right {n = 2} (omega arith) {i = bits - 1} {j = 61} (omega (arith, few)) in
    let low = and_left (int_le (neg_ℤ (pos (2 ^ (bits - 1)))) b.low) (int_lt b.high (pos (2 ^ (bits - 1)))) h in
    let high = and_right (int_le (neg_ℤ (pos (2 ^ (bits - 1)))) b.low) (int_lt b.high (pos (2 ^ (bits - 1)))) h in
    (low_of (2 ^ (bits - 1)) b.low p low, high_of (2 ^ (bits - 1)) b.high p high)
  where
    low_of : (m : ℕ) (z : ℤ) → m ≤ 2 ^ 61 → int_le (neg_ℤ (pos m)) z ≡ true → neg_ℤ (pos (2 ^ 61)) ≤ℤ z
    low_of m z p h = grind (arith, ints)

    high_of : (m : ℕ) (z : ℤ) → m ≤ 2 ^ 61 → int_lt z (pos m) ≡ true → z <ℤ pos (2 ^ 61)
    high_of m z p h = grind (arith, ints)

pick_passes : (p : ℕ → Bool) (y x : ℕ) (rest : Option ℕ) (b : Bool) → p y ≡ b → cond b (Some y) rest ≡ Some x → (rest ≡ Some x → p x ≡ true) → p x ≡ true
pick_passes p y x rest true e h more = subst (λ z. p z ≡ true) (some_same y x h) e
  where
    some_same : (a b : ℕ) → Some a ≡ Some b → a ≡ b
    some_same a b q = (cc)
pick_passes p y x rest false e h more = more h

find_passes : (p : ℕ → Bool) (xs : List ℕ) (x : ℕ) → find p xs ≡ Some x → p x ≡ true
find_passes p [] x h = (cc)
find_passes p (y ∷ ys) x h = pick_passes p y x (find p ys) (p y) refl h (find_passes p ys x)

narrow_held : (b : Bounds) (found : Option ℕ) → find (is_held b) (range_with_len 1 126) ≡ found → nat_le (option_map_or (λ bits. bits) found 127) 62 ≡ true
    → (neg_ℤ (pos (2 ^ 61)) ≤ℤ b.low) × (b.high <ℤ pos (2 ^ 61))
narrow_held b None e h = absurd (true≢false (sym h))
narrow_held b (Some bits) e h = small_held b bits (le_from bits 62 h) (find_passes (is_held b) (range_with_len 1 126) bits e)
  where
    le_from : (m n : ℕ) → nat_le m n ≡ true → m ≤ n
    le_from m n q = grind (arith, common_steps)

-- an interval that 62 bits hold
pub narrow_small : (b : Bounds) → nat_le (width b) 62 ≡ true → (neg_ℤ (pos (2 ^ 61)) ≤ℤ b.low) × (b.high <ℤ pos (2 ^ 61))
unfolding width
narrow_small b h = narrow_held b (find (is_held b) (range_with_len 1 126)) refl h

-- where it was not clamped
pub lies_between : (low high z : ℤ) → nat_le (width (between low high)) 62 ≡ true → low ≤ℤ z → z ≤ℤ high → Lies (between low high) z
lies_between low high z narrow h k =
    let small = narrow_small (between low high) narrow in
    record { least = low_of low z small.0 h; most = high_of high z small.1 k }
  where
    low_of : (a x : ℤ) → neg_ℤ (pos (2 ^ 61)) ≤ℤ clamped a → a ≤ℤ x → clamped a ≤ℤ x
    low_of a x p q = omega (arith, ints, clamps)

    high_of : (a x : ℤ) → clamped a <ℤ pos (2 ^ 61) → x ≤ℤ a → x ≤ℤ clamped a
    high_of a x p q = omega (arith, ints, clamps)

-- ---- the law
module _ (clafers : List Clafer) (scopes : Scopes) (entries : List Entry) where
  abbrev LiesIn : Tree → Situation → Type 0
  LiesIn t s = Lies (interval clafers scopes t s.within) (number clafers entries (value clafers entries t s))

  -- a set of nodes in integer position
  set_lies : IsSound clafers scopes entries → (ks : List ℕ) (ns : List Node) → IsSet clafers entries ks ns
      → nat_le (width (sum_between clafers scopes (room clafers scopes ks))) 62 ≡ true → Lies (sum_between clafers scopes (room clafers scopes ks)) (total (map (int_of clafers entries) ns))
  set_lies sound ks ns set narrow =
      let s = spread_within clafers entries scopes ns (room clafers scopes ks) sound.references (set_count clafers scopes entries ks ns sound.within set) in
      lies_between (pos (room clafers scopes ks) *ℤ int_min (pos 0) scopes.low) (pos (room clafers scopes ks) *ℤ int_max (pos 0) scopes.high) (total (map (int_of clafers entries) ns)) narrow s.least s.most

  -- a kind of a form that has nodes
  abbrev has_nodes : Option Kind → Bool
  has_nodes (Some kinds.Truth) = false
  has_nodes (Some kinds.Integer) = false
  has_nodes _ = true

  nodes_lie : IsSound clafers scopes entries → (k : Option Kind) (v : Value) → HasKind clafers entries k v → has_nodes k ≡ true → fits_number clafers k ≡ true
      → nat_le (width (sum_between clafers scopes (room clafers scopes (members clafers scopes k)))) 62 ≡ true
      → Lies (sum_between clafers scopes (room clafers scopes (members clafers scopes k))) (number clafers entries v)
  nodes_lie sound (Some (kinds.Nodes ks)) (meaning.Nodes ns) set some fits narrow = set_lies sound ks ns set narrow
  nodes_lie sound (Some (kinds.Nodes ks)) (meaning.Truth b) set some fits narrow = absurd set
  nodes_lie sound (Some (kinds.Nodes ks)) (meaning.Integer z) set some fits narrow = absurd set
  nodes_lie sound (Some (kinds.Numbers ks)) (meaning.Nodes ns) set some fits narrow = set_lies sound ks ns set narrow
  nodes_lie sound (Some (kinds.Numbers ks)) (meaning.Truth b) set some fits narrow = absurd set
  nodes_lie sound (Some (kinds.Numbers ks)) (meaning.Integer z) set some fits narrow = absurd set
  nodes_lie sound (Some kinds.Truth) v set some fits narrow = absurd (true≢false (sym some))
  nodes_lie sound (Some kinds.Integer) v set some fits narrow = absurd (true≢false (sym some))
  nodes_lie sound None v set some fits narrow = absurd (true≢false (sym fits))

  card_lies : IsSound clafers scopes entries → (k : Option Kind) (v : Value) → HasKind clafers entries k v → fits_nodes k ≡ true
      → nat_le (width (between (pos 0) (pos (room clafers scopes (members clafers scopes k))))) 62 ≡ true
      → Lies (between (pos 0) (pos (room clafers scopes (members clafers scopes k)))) (pos (length (nodes v)) +ℤ pos 0)
  card_lies sound (Some (kinds.Nodes ks)) (meaning.Nodes ns) set fits narrow =
      let few = set_count clafers scopes entries ks ns sound.within set in
      lies_between (pos 0) (pos (room clafers scopes ks)) (pos (length ns) +ℤ pos 0) narrow (omega (arith, ints)) (omega (arith, ints, few))
  card_lies sound (Some (kinds.Nodes ks)) (meaning.Truth b) set fits narrow = absurd set
  card_lies sound (Some (kinds.Nodes ks)) (meaning.Integer z) set fits narrow = absurd set
  card_lies sound (Some (kinds.Numbers ks)) v set fits narrow = absurd (true≢false (sym fits))
  card_lies sound (Some kinds.Truth) v set fits narrow = absurd (true≢false (sym fits))
  card_lies sound (Some kinds.Integer) v set fits narrow = absurd (true≢false (sym fits))
  card_lies sound None v set fits narrow = absurd (true≢false (sym fits))

  sum_lies : IsSound clafers scopes entries → (k : Option Kind) (v : Value) → HasKind clafers entries k v → fits_sum clafers k ≡ true
      → nat_le (width (sum_between clafers scopes (room clafers scopes (members clafers scopes k)))) 62 ≡ true
      → Lies (sum_between clafers scopes (room clafers scopes (members clafers scopes k))) (number clafers entries v)
  sum_lies sound (Some (kinds.Nodes ks)) v set fits narrow = nodes_lie sound (Some (kinds.Nodes ks)) v set refl fits narrow
  sum_lies sound (Some (kinds.Numbers ks)) v set fits narrow = absurd (true≢false (sym fits))
  sum_lies sound (Some kinds.Truth) v set fits narrow = absurd (true≢false (sym fits))
  sum_lies sound (Some kinds.Integer) v set fits narrow = absurd (true≢false (sym fits))
  sum_lies sound None v set fits narrow = absurd (true≢false (sym fits))

  plus_zero : (b : Bounds) (z : ℤ) → Lies b z → Lies b (z +ℤ pos 0)
  plus_zero b z l = record { least = at b.low l.least; most = to b.high l.most }
    where
      at : (a : ℤ) → a ≤ℤ z → a ≤ℤ (z +ℤ pos 0)
      at a h = omega (arith, ints)

      to : (a : ℤ) → z ≤ℤ a → (z +ℤ pos 0) ≤ℤ a
      to a h = omega (arith, ints)

  literal_lies : (n : ℕ) → nat_le (width (between (pos n) (pos n))) 62 ≡ true → Lies (between (pos n) (pos n)) (pos n +ℤ pos 0)
  literal_lies n narrow = lies_between (pos n) (pos n) (pos n +ℤ pos 0) narrow (omega (arith, ints)) (omega (arith, ints))

  neg_lies : (a : Bounds) (x : ℤ) → nat_le (width (between (neg_ℤ a.high) (neg_ℤ a.low))) 62 ≡ true → Lies a x → Lies (between (neg_ℤ a.high) (neg_ℤ a.low)) (neg_ℤ x +ℤ pos 0)
  neg_lies a x narrow l = lies_between (neg_ℤ a.high) (neg_ℤ a.low) (neg_ℤ x +ℤ pos 0) narrow (at a.high l.most) (to a.low l.least)
    where
      at : (b : ℤ) → x ≤ℤ b → neg_ℤ b ≤ℤ (neg_ℤ x +ℤ pos 0)
      at b h = omega (arith, ints)

      to : (b : ℤ) → b ≤ℤ x → (neg_ℤ x +ℤ pos 0) ≤ℤ neg_ℤ b
      to b h = omega (arith, ints)

  add_lies : (a b : Bounds) (x y : ℤ) → nat_le (width (between (a.low +ℤ b.low) (a.high +ℤ b.high))) 62 ≡ true → Lies a x → Lies b y → Lies (between (a.low +ℤ b.low) (a.high +ℤ b.high)) ((x +ℤ y) +ℤ pos 0)
  add_lies a b x y narrow l m = lies_between (a.low +ℤ b.low) (a.high +ℤ b.high) ((x +ℤ y) +ℤ pos 0) narrow (at a.low b.low l.least m.least) (to a.high b.high l.most m.most)
    where
      at : (c d : ℤ) → c ≤ℤ x → d ≤ℤ y → (c +ℤ d) ≤ℤ ((x +ℤ y) +ℤ pos 0)
      at c d h k = omega (arith, ints)

      to : (c d : ℤ) → x ≤ℤ c → y ≤ℤ d → ((x +ℤ y) +ℤ pos 0) ≤ℤ (c +ℤ d)
      to c d h k = omega (arith, ints)

  sub_lies : (a b : Bounds) (x y : ℤ) → nat_le (width (between (a.low +ℤ neg_ℤ b.high) (a.high +ℤ neg_ℤ b.low))) 62 ≡ true → Lies a x → Lies b y → Lies (between (a.low +ℤ neg_ℤ b.high) (a.high +ℤ neg_ℤ b.low)) ((x -ℤ y) +ℤ pos 0)
  sub_lies a b x y narrow l m = lies_between (a.low +ℤ neg_ℤ b.high) (a.high +ℤ neg_ℤ b.low) ((x -ℤ y) +ℤ pos 0) narrow (at a.low b.high l.least m.most) (to a.high b.low l.most m.least)
    where
      at : (c d : ℤ) → c ≤ℤ x → y ≤ℤ d → (c +ℤ neg_ℤ d) ≤ℤ ((x -ℤ y) +ℤ pos 0)
      at c d h k = omega (arith, ints)

      to : (c d : ℤ) → x ≤ℤ c → d ≤ℤ y → ((x -ℤ y) +ℤ pos 0) ≤ℤ (c +ℤ neg_ℤ d)
      to c d h k = omega (arith, ints)

  mul_lies : (a b : Bounds) (x y : ℤ) → nat_le (width (product a b)) 62 ≡ true → Lies a x → Lies b y → Lies (product a b) ((x *ℤ y) +ℤ pos 0)
  mul_lies a b x y narrow l m =
      let p = product_between a.low a.high b.low b.high x y l.least l.most m.least m.most in
      plus_zero (product a b) (x *ℤ y)
      (lies_between (int_min (int_min (a.low *ℤ b.low) (a.low *ℤ b.high)) (int_min (a.high *ℤ b.low) (a.high *ℤ b.high)))
      (int_max (int_max (a.low *ℤ b.low) (a.low *ℤ b.high)) (int_max (a.high *ℤ b.low) (a.high *ℤ b.high))) (x *ℤ y) narrow p.0 p.1)

  has_this : (o : Option ℕ) → has_nodes (option_map (λ c. kinds.Nodes (c ∷ [])) o) ≡ true
  has_this None = refl
  has_this (Some c) = refl

  has_variable : (o : Option (List ℕ)) → has_nodes (option_map (λ ks. kinds.Nodes ks) o) ≡ true
  has_variable None = refl
  has_variable (Some ks) = refl

  has_parent : (ps : List ℕ) → has_nodes (parent_kind ps) ≡ true
  has_parent [] = refl
  has_parent (p ∷ ps) = refl

  has_dref : (k : Option Kind) → has_nodes (dref_kind clafers k) ≡ true
  has_dref None = refl
  has_dref (Some kinds.Truth) = refl
  has_dref (Some kinds.Integer) = refl
  has_dref (Some (kinds.Numbers ks)) = refl
  has_dref (Some (kinds.Nodes ks)) = at (refer_to_int clafers ks) (targets_of clafers ks)
    where
      at : (b : Bool) (ts : Option (List ℕ)) → has_nodes (if b then Some (kinds.Numbers ks) else option_map (λ us. kinds.Nodes us) ts) ≡ true
      at true ts = refl
      at false None = refl
      at false (Some us) = refl

  has_union : (a b : Option Kind) → has_nodes (union_kind a b) ≡ true
  has_union (Some (kinds.Nodes ks)) (Some (kinds.Nodes ls)) = refl
  has_union (Some (kinds.Nodes ks)) (Some (kinds.Numbers ls)) = refl
  has_union (Some (kinds.Nodes ks)) (Some kinds.Truth) = refl
  has_union (Some (kinds.Nodes ks)) (Some kinds.Integer) = refl
  has_union (Some (kinds.Nodes ks)) None = refl
  has_union (Some (kinds.Numbers ks)) b = refl
  has_union (Some kinds.Truth) b = refl
  has_union (Some kinds.Integer) b = refl
  has_union None b = refl

  has_kept : (b : Bool) (ks : List ℕ) → has_nodes (if b then Some (kinds.Nodes ks) else None) ≡ true
  has_kept true ks = refl
  has_kept false ks = refl

  has_left : (a b : Option Kind) → has_nodes (left_kind clafers a b) ≡ true
  has_left (Some (kinds.Nodes ks)) (Some (kinds.Nodes ls)) = has_kept (share clafers ks ls) ks
  has_left (Some (kinds.Nodes ks)) (Some (kinds.Numbers ls)) = refl
  has_left (Some (kinds.Nodes ks)) (Some kinds.Truth) = refl
  has_left (Some (kinds.Nodes ks)) (Some kinds.Integer) = refl
  has_left (Some (kinds.Nodes ks)) None = refl
  has_left (Some (kinds.Numbers ks)) b = refl
  has_left (Some kinds.Truth) b = refl
  has_left (Some kinds.Integer) b = refl
  has_left None b = refl

  -- a comparison is no number
  truth_unfit : (r : Option Reading) → fits_number clafers (option_map (λ x. kinds.Truth) r) ≡ false
  truth_unfit None = refl
  truth_unfit (Some r) = refl

  compared_unfit : (a b : Option Kind) → fits_number clafers (compared_kind clafers a b) ≡ false
  compared_unfit (Some (kinds.Nodes ks)) (Some (kinds.Nodes ls)) = truth_unfit (reading clafers (kinds.Nodes ks) (kinds.Nodes ls))
  compared_unfit (Some (kinds.Nodes ks)) (Some (kinds.Numbers ls)) = refl
  compared_unfit (Some (kinds.Nodes ks)) (Some kinds.Truth) = refl
  compared_unfit (Some (kinds.Nodes ks)) (Some kinds.Integer) = refl
  compared_unfit (Some (kinds.Nodes ks)) None = refl
  compared_unfit (Some (kinds.Numbers ks)) b = refl
  compared_unfit (Some kinds.Truth) b = refl
  compared_unfit (Some kinds.Integer) b = refl
  compared_unfit None b = refl

  all_left : (xs ys : List Numeric) → list_all is_narrow (xs ++ ys) ≡ true → list_all is_narrow xs ≡ true
  all_left xs ys h = and_left (list_all is_narrow xs) (list_all is_narrow ys) (sym (list_all-append is_narrow xs ys) ∙ h)

  all_right : (xs ys : List Numeric) → list_all is_narrow (xs ++ ys) ≡ true → list_all is_narrow ys ≡ true
  all_right xs ys h = and_right (list_all is_narrow xs) (list_all is_narrow ys) (sym (list_all-append is_narrow xs ys) ∙ h)

  choice_lies : IsSound clafers scopes entries → (k ka kb : Option Kind) (v w : Value) (c : Bool) (a b : Bounds) (na nb : Numeric) (ins insa insb : List Numeric)
      → HasKind clafers entries k (taken_as clafers entries k (if c then v else w)) → fits_number clafers k ≡ true → fit_choice clafers k ka kb ≡ true
      → nat_le (width (choice clafers scopes k a b)) 62 ≡ true → list_all is_narrow (ins ++ and_itself (is_integer k) na insa ++ and_itself (is_integer k) nb insb) ≡ true
      → (fits_number clafers ka ≡ true → list_all is_narrow (na ∷ insa) ≡ true → Lies a (number clafers entries v))
      → (fits_number clafers kb ≡ true → list_all is_narrow (nb ∷ insb) ≡ true → Lies b (number clafers entries w))
      → Lies (choice clafers scopes k a b) (number clafers entries (taken_as clafers entries k (if c then v else w)))
  choice_lies sound (Some kinds.Integer) ka kb v w c a b na nb ins insa insb has fits fit narrow all left right =
      let l = left (and_left (fits_number clafers ka) (fits_number clafers kb) fit) (all_right ins (na ∷ insa) (all_left (ins ++ (na ∷ insa)) (nb ∷ insb) all)) in
      let m = right (and_right (fits_number clafers ka) (fits_number clafers kb) fit) (all_right (ins ++ (na ∷ insa)) (nb ∷ insb) all) in
      at c l m
    where
      lower : (p q x : ℤ) → p ≤ℤ x → int_min p q ≤ℤ (x +ℤ pos 0)
      lower p q x h = omega (arith, ints, clamps)

      lower' : (p q x : ℤ) → q ≤ℤ x → int_min p q ≤ℤ (x +ℤ pos 0)
      lower' p q x h = omega (arith, ints, clamps)

      upper : (p q x : ℤ) → x ≤ℤ p → (x +ℤ pos 0) ≤ℤ int_max p q
      upper p q x h = omega (arith, ints, clamps)

      upper' : (p q x : ℤ) → x ≤ℤ q → (x +ℤ pos 0) ≤ℤ int_max p q
      upper' p q x h = omega (arith, ints, clamps)

      at : (d : Bool) → Lies a (number clafers entries v) → Lies b (number clafers entries w) → Lies (between (int_min a.low b.low) (int_max a.high b.high)) (number clafers entries (if d then v else w) +ℤ pos 0)
      at true l m =
          lies_between (int_min a.low b.low) (int_max a.high b.high) (number clafers entries v +ℤ pos 0) narrow (lower a.low b.low (number clafers entries v) l.least) (upper a.high b.high (number clafers entries v) l.most)
      at false l m =
          lies_between (int_min a.low b.low) (int_max a.high b.high) (number clafers entries w +ℤ pos 0) narrow (lower' a.low b.low (number clafers entries w) m.least) (upper' a.high b.high (number clafers entries w) m.most)
  choice_lies sound (Some (kinds.Nodes ks)) ka kb v w c a b na nb ins insa insb has fits fit narrow all left right =
      nodes_lie sound (Some (kinds.Nodes ks)) (if c then v else w) has refl fits narrow
  choice_lies sound (Some (kinds.Numbers ks)) ka kb v w c a b na nb ins insa insb has fits fit narrow all left right = absurd (true≢false (sym fit))
  choice_lies sound (Some kinds.Truth) ka kb v w c a b na nb ins insa insb has fits fit narrow all left right = absurd (true≢false (sym fits))
  choice_lies sound None ka kb v w c a b na nb ins insa insb has fits fit narrow all left right = absurd (true≢false (sym fits))

  pub interval_law : IsSound clafers scopes entries → (t : Tree) (s : Situation) → IsPlace clafers entries s → is_typed clafers t s.within ≡ true → fits_number clafers (kind clafers t s.within) ≡ true
      → all_narrow clafers scopes t s.within ≡ true → LiesIn t s
  interval_law sound (e.Literal at n) s place typed fits all = literal_lies n (and_left (is_narrow (numeric clafers scopes (e.Literal at n) s.within)) true all)
  interval_law sound (e.This at) s place typed fits all =
      nodes_lie sound (kind clafers (e.This at) s.within) (value clafers entries (e.This at) s) (value_has_kind clafers entries scopes sound (e.This at) s place) (has_this s.within.this) fits
      (and_left (is_narrow (numeric clafers scopes (e.This at) s.within)) true all)
  interval_law sound (e.Variable at i) s place typed fits all =
      nodes_lie sound (kind clafers (e.Variable at i) s.within) (value clafers entries (e.Variable at i) s) (value_has_kind clafers entries scopes sound (e.Variable at i) s place) (has_variable (from_end s.within.bound i)) fits
      (and_left (is_narrow (numeric clafers scopes (e.Variable at i) s.within)) true all)
  interval_law sound (e.Clafer at c) s place typed fits all =
      nodes_lie sound (kind clafers (e.Clafer at c) s.within) (value clafers entries (e.Clafer at c) s) (value_has_kind clafers entries scopes sound (e.Clafer at c) s place) refl fits
      (and_left (is_narrow (numeric clafers scopes (e.Clafer at c) s.within)) true all)
  interval_law sound (e.Name _ _) s place typed fits all = absurd (true≢false (sym fits))
  interval_law sound (e.Join _ _ _) s place typed fits all = absurd (true≢false (sym fits))
  interval_law sound (e.Step at a into follow) s place typed fits all =
      nodes_lie sound (kind clafers (e.Step at a into follow) s.within) (value clafers entries (e.Step at a into follow) s) (value_has_kind clafers entries scopes sound (e.Step at a into follow) s place) refl fits
      (and_left (is_narrow (numeric clafers scopes (e.Step at a into follow) s.within)) (list_all is_narrow (inside clafers scopes (e.Step at a into follow) s.within)) all)
  interval_law sound (e.Parent at a) s place typed fits all =
      nodes_lie sound (kind clafers (e.Parent at a) s.within) (value clafers entries (e.Parent at a) s) (value_has_kind clafers entries scopes sound (e.Parent at a) s place)
      (has_parent (parents_of clafers (clafers_of (kind clafers a s.within)))) fits
      (and_left (is_narrow (numeric clafers scopes (e.Parent at a) s.within)) (list_all is_narrow (inside clafers scopes (e.Parent at a) s.within)) all)
  interval_law sound (e.Dref at a) s place typed fits all =
      nodes_lie sound (kind clafers (e.Dref at a) s.within) (value clafers entries (e.Dref at a) s) (value_has_kind clafers entries scopes sound (e.Dref at a) s place)
      (has_dref (kind clafers a s.within)) fits
      (and_left (is_narrow (numeric clafers scopes (e.Dref at a) s.within)) (list_all is_narrow (inside clafers scopes (e.Dref at a) s.within)) all)
  interval_law sound (e.Union at a b) s place typed fits all =
      nodes_lie sound (kind clafers (e.Union at a b) s.within) (value clafers entries (e.Union at a b) s) (value_has_kind clafers entries scopes sound (e.Union at a b) s place)
      (has_union (kind clafers a s.within) (kind clafers b s.within)) fits
      (and_left (is_narrow (numeric clafers scopes (e.Union at a b) s.within)) (list_all is_narrow (inside clafers scopes (e.Union at a b) s.within)) all)
  interval_law sound (e.Minus at a b) s place typed fits all =
      nodes_lie sound (kind clafers (e.Minus at a b) s.within) (value clafers entries (e.Minus at a b) s) (value_has_kind clafers entries scopes sound (e.Minus at a b) s place)
      (has_left (kind clafers a s.within) (kind clafers b s.within)) fits
      (and_left (is_narrow (numeric clafers scopes (e.Minus at a b) s.within)) (list_all is_narrow (inside clafers scopes (e.Minus at a b) s.within)) all)
  interval_law sound (e.Meet at a b) s place typed fits all =
      nodes_lie sound (kind clafers (e.Meet at a b) s.within) (value clafers entries (e.Meet at a b) s) (value_has_kind clafers entries scopes sound (e.Meet at a b) s place)
      (has_left (kind clafers a s.within) (kind clafers b s.within)) fits
      (and_left (is_narrow (numeric clafers scopes (e.Meet at a b) s.within)) (list_all is_narrow (inside clafers scopes (e.Meet at a b) s.within)) all)
  interval_law sound (e.If at c a b) s place typed fits all =
      let w = s.within in
      let fit = and_right (is_typed clafers c w && fits_truth (kind clafers c w) && is_typed clafers a w && is_typed clafers b w) (fit_choice clafers (kind clafers (e.If at c a b) w) (kind clafers a w) (kind clafers b w)) typed in
      let four = and_left (is_typed clafers c w && fits_truth (kind clafers c w) && is_typed clafers a w && is_typed clafers b w) (fit_choice clafers (kind clafers (e.If at c a b) w) (kind clafers a w) (kind clafers b w)) typed in
      let typed_b = and_right (is_typed clafers c w && fits_truth (kind clafers c w) && is_typed clafers a w) (is_typed clafers b w) four in
      let typed_a = and_right (is_typed clafers c w && fits_truth (kind clafers c w)) (is_typed clafers a w) (and_left (is_typed clafers c w && fits_truth (kind clafers c w) && is_typed clafers a w) (is_typed clafers b w) four) in
      choice_lies sound (kind clafers (e.If at c a b) w) (kind clafers a w) (kind clafers b w) (value clafers entries a s) (value clafers entries b s) (is_true (value clafers entries c s))
      (interval clafers scopes a w) (interval clafers scopes b w) (numeric clafers scopes a w) (numeric clafers scopes b w) (inside clafers scopes c w) (inside clafers scopes a w) (inside clafers scopes b w)
      (value_has_kind clafers entries scopes sound (e.If at c a b) s place) fits fit
      (and_left (is_narrow (numeric clafers scopes (e.If at c a b) w)) (list_all is_narrow (inside clafers scopes (e.If at c a b) w)) all)
      (and_right (is_narrow (numeric clafers scopes (e.If at c a b) w)) (list_all is_narrow (inside clafers scopes (e.If at c a b) w)) all)
      (λ f n. interval_law sound a s place typed_a f n) (λ f n. interval_law sound b s place typed_b f n)
  interval_law sound (e.Card at a) s place typed fits all =
      card_lies sound (kind clafers a s.within) (value clafers entries a s) (value_has_kind clafers entries scopes sound a s place) (and_right (is_typed clafers a s.within) (fits_nodes (kind clafers a s.within)) typed)
      (and_left (is_narrow (numeric clafers scopes (e.Card at a) s.within)) (list_all is_narrow (inside clafers scopes (e.Card at a) s.within)) all)
  interval_law sound (e.Sum at a) s place typed fits all =
      plus_zero (interval clafers scopes (e.Sum at a) s.within) (number clafers entries (value clafers entries a s))
      (sum_lies sound (kind clafers a s.within) (value clafers entries a s) (value_has_kind clafers entries scopes sound a s place) (and_right (is_typed clafers a s.within) (fits_sum clafers (kind clafers a s.within)) typed)
      (and_left (is_narrow (numeric clafers scopes (e.Sum at a) s.within)) (list_all is_narrow (inside clafers scopes (e.Sum at a) s.within)) all))
  interval_law sound (e.Neg at a) s place typed fits all =
      neg_lies (interval clafers scopes a s.within) (number clafers entries (value clafers entries a s))
      (and_left (is_narrow (numeric clafers scopes (e.Neg at a) s.within)) (list_all is_narrow (inside clafers scopes (e.Neg at a) s.within)) all)
      (interval_law sound a s place (and_left (is_typed clafers a s.within) (fits_number clafers (kind clafers a s.within)) typed) (and_right (is_typed clafers a s.within) (fits_number clafers (kind clafers a s.within)) typed)
      (and_right (is_narrow (numeric clafers scopes (e.Neg at a) s.within)) (list_all is_narrow (inside clafers scopes (e.Neg at a) s.within)) all))
  interval_law sound (e.Add at a b) s place typed fits all =
      let w = s.within in
      let two = and_right (is_narrow (numeric clafers scopes (e.Add at a b) w)) (list_all is_narrow (inside clafers scopes (e.Add at a b) w)) all in
      let ta = and_left (is_typed clafers a w && fits_number clafers (kind clafers a w)) (is_typed clafers b w && fits_number clafers (kind clafers b w)) typed in
      let tb = and_right (is_typed clafers a w && fits_number clafers (kind clafers a w)) (is_typed clafers b w && fits_number clafers (kind clafers b w)) typed in
      add_lies (interval clafers scopes a w) (interval clafers scopes b w) (number clafers entries (value clafers entries a s)) (number clafers entries (value clafers entries b s))
      (and_left (is_narrow (numeric clafers scopes (e.Add at a b) w)) (list_all is_narrow (inside clafers scopes (e.Add at a b) w)) all)
      (interval_law sound a s place (and_left (is_typed clafers a w) (fits_number clafers (kind clafers a w)) ta) (and_right (is_typed clafers a w) (fits_number clafers (kind clafers a w)) ta)
      (all_left (numeric clafers scopes a w ∷ inside clafers scopes a w) (numeric clafers scopes b w ∷ inside clafers scopes b w) two))
      (interval_law sound b s place (and_left (is_typed clafers b w) (fits_number clafers (kind clafers b w)) tb) (and_right (is_typed clafers b w) (fits_number clafers (kind clafers b w)) tb)
      (all_right (numeric clafers scopes a w ∷ inside clafers scopes a w) (numeric clafers scopes b w ∷ inside clafers scopes b w) two))
  interval_law sound (e.Sub at a b) s place typed fits all =
      let w = s.within in
      let two = and_right (is_narrow (numeric clafers scopes (e.Sub at a b) w)) (list_all is_narrow (inside clafers scopes (e.Sub at a b) w)) all in
      let ta = and_left (is_typed clafers a w && fits_number clafers (kind clafers a w)) (is_typed clafers b w && fits_number clafers (kind clafers b w)) typed in
      let tb = and_right (is_typed clafers a w && fits_number clafers (kind clafers a w)) (is_typed clafers b w && fits_number clafers (kind clafers b w)) typed in
      sub_lies (interval clafers scopes a w) (interval clafers scopes b w) (number clafers entries (value clafers entries a s)) (number clafers entries (value clafers entries b s))
      (and_left (is_narrow (numeric clafers scopes (e.Sub at a b) w)) (list_all is_narrow (inside clafers scopes (e.Sub at a b) w)) all)
      (interval_law sound a s place (and_left (is_typed clafers a w) (fits_number clafers (kind clafers a w)) ta) (and_right (is_typed clafers a w) (fits_number clafers (kind clafers a w)) ta)
      (all_left (numeric clafers scopes a w ∷ inside clafers scopes a w) (numeric clafers scopes b w ∷ inside clafers scopes b w) two))
      (interval_law sound b s place (and_left (is_typed clafers b w) (fits_number clafers (kind clafers b w)) tb) (and_right (is_typed clafers b w) (fits_number clafers (kind clafers b w)) tb)
      (all_right (numeric clafers scopes a w ∷ inside clafers scopes a w) (numeric clafers scopes b w ∷ inside clafers scopes b w) two))
  interval_law sound (e.Mul at a b) s place typed fits all =
      let w = s.within in
      let two = and_right (is_narrow (numeric clafers scopes (e.Mul at a b) w)) (list_all is_narrow (inside clafers scopes (e.Mul at a b) w)) all in
      let ta = and_left (is_typed clafers a w && fits_number clafers (kind clafers a w)) (is_typed clafers b w && fits_number clafers (kind clafers b w)) typed in
      let tb = and_right (is_typed clafers a w && fits_number clafers (kind clafers a w)) (is_typed clafers b w && fits_number clafers (kind clafers b w)) typed in
      mul_lies (interval clafers scopes a w) (interval clafers scopes b w) (number clafers entries (value clafers entries a s)) (number clafers entries (value clafers entries b s))
      (and_left (is_narrow (numeric clafers scopes (e.Mul at a b) w)) (list_all is_narrow (inside clafers scopes (e.Mul at a b) w)) all)
      (interval_law sound a s place (and_left (is_typed clafers a w) (fits_number clafers (kind clafers a w)) ta) (and_right (is_typed clafers a w) (fits_number clafers (kind clafers a w)) ta)
      (all_left (numeric clafers scopes a w ∷ inside clafers scopes a w) (numeric clafers scopes b w ∷ inside clafers scopes b w) two))
      (interval_law sound b s place (and_left (is_typed clafers b w) (fits_number clafers (kind clafers b w)) tb) (and_right (is_typed clafers b w) (fits_number clafers (kind clafers b w)) tb)
      (all_right (numeric clafers scopes a w ∷ inside clafers scopes a w) (numeric clafers scopes b w ∷ inside clafers scopes b w) two))
  interval_law sound (e.Not _ _) s place typed fits all = absurd (true≢false (sym fits))
  interval_law sound (e.And _ _ _) s place typed fits all = absurd (true≢false (sym fits))
  interval_law sound (e.Or _ _ _) s place typed fits all = absurd (true≢false (sym fits))
  interval_law sound (e.Xor _ _ _) s place typed fits all = absurd (true≢false (sym fits))
  interval_law sound (e.Implies _ _ _) s place typed fits all = absurd (true≢false (sym fits))
  interval_law sound (e.Iff _ _ _) s place typed fits all = absurd (true≢false (sym fits))
  interval_law sound (e.Less _ _ _) s place typed fits all = absurd (true≢false (sym fits))
  interval_law sound (e.LessEqual _ _ _) s place typed fits all = absurd (true≢false (sym fits))
  interval_law sound (e.Greater _ _ _) s place typed fits all = absurd (true≢false (sym fits))
  interval_law sound (e.GreaterEqual _ _ _) s place typed fits all = absurd (true≢false (sym fits))
  interval_law sound (e.Equal _ a b) s place typed fits all = absurd (true≢false (sym fits ∙ compared_unfit (kind clafers a s.within) (kind clafers b s.within)))
  interval_law sound (e.In _ a b) s place typed fits all = absurd (true≢false (sym fits ∙ compared_unfit (kind clafers a s.within) (kind clafers b s.within)))
  interval_law sound (e.Some _ _) s place typed fits all = absurd (true≢false (sym fits))
  interval_law sound (e.No _ _) s place typed fits all = absurd (true≢false (sym fits))
  interval_law sound (e.One _ _) s place typed fits all = absurd (true≢false (sym fits))
  interval_law sound (e.Lone _ _) s place typed fits all = absurd (true≢false (sym fits))
  interval_law sound (e.Quant _ _ _ _ _ _) s place typed fits all = absurd (true≢false (sym fits))
