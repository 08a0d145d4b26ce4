-- Sums of scopes, clafer by clafer.
use Rattle.std.proofs.Common.{◌≡◌, ℕ, ◌+◌, ◌*◌, ◌^◌, ◌<◌, ◌≤◌, Bool, true, false, not, cond, ◌&&◌, ◌||◌, List, [], ◌∷◌, ◌++◌, take, drop, length, map, sum, get_or, nat_eq, Some, None, refl, ap, sym, subst, ◌∙◌, arith, if◌then◌else◌}
use Rattle.std.specs.Prelude.{◌==◌, slice_get}
use Rattle.std.specs.Option.{option_map_or}
use Rattle.std.specs.List.{filter}
use Rattle.std.proofs.lemmas.Grind.{common_steps}
use Rattle.std.proofs.lemmas.List.{take-append-le, take_all}
use Rattle.std.proofs.Math.Nat.{min-eq_left}
use Rattle.clf_tree.specs.declared.model.Clafer.{Clafer}
use Rattle.clf_tree.specs.declared.scopes.Scopes.{Scopes}
use Rattle.clf_tree.specs.Lists.{numbers_below, has}
use Rattle.clf_tree.specs.Hierarchy.{is_concrete, is_a, is_closed, with_supers}
use Rattle.clf_tree.specs.Named.{each, inherits_itself}
use Rattle.clf_tree.specs.Nodes.{scope_of}
use Rattle.clf_tree.specs.Kinds.{is_child}
use Rattle.clf_tree.specs.Intervals.{room}
use Rattle.clf_tree.proofs.WaysUp.{is_concrete-at, parent_of-at}
use Rattle.int_widths.proofs.ScopeSums.{room_more}
use Rattle.model_weight.specs.Sums.{held, added, room_below, children_below, AreRoomsBelow, AreChildrenBelow}
use Rattle.model_weight.proofs.Totals.{filtered, sums-append}
use Rattle.model_weight.proofs.Upwards.{once, adds_once}

-- a list of one item
pub only_one : (clafers : List Clafer) (scopes : Scopes) (ks : List ℕ) (k : ℕ) → length ks ≡ 1 → slice_get ks 0 ≡ Some k → room clafers scopes (k ∷ []) ≡ room clafers scopes ks
only_one clafers scopes ks k one first = ap (room clafers scopes) (single ks one first)
  where
    single : (xs : List ℕ) → length xs ≡ 1 → slice_get xs 0 ≡ Some k → k ∷ [] ≡ xs
    single [] one first = (cc)
    single (x ∷ []) one first = (cc)
    single (x ∷ y ∷ xs) one first = absurd (omega (arith, one))

-- a vector whose items are written as a slice
pub written : (len : ℕ) (new items : List ℕ) → length new ≡ len → take len (new ++ drop (length new) items) ≡ new
written len new items long = take-append-le len new (drop (length new) items) (omega (arith, long)) ∙ take_all len new (omega (arith, long))

held_more : (t more : ℕ) → held (held t + more) ≡ held (t + more)
held_more t more = omega arith

held_case : (b : Bool) (t s : ℕ) → (if b then held (held t + s) else held t) ≡ held (t + cond b s 0)
held_case true t s = held_more t s
held_case false t s = ap held (sym zero_more)
  where
    zero_more : t + 0 ≡ t
    zero_more = omega arith

no_more : (t : ℕ) → t ≡ t + 0
no_more t = omega arith

or_nothing : (b : Bool) → (b || false) ≡ b
or_nothing true = refl
or_nothing false = refl

same_test : (p c : ℕ) → nat_eq p c ≡ (p == c)
same_test p c = grind (arith, common_steps)

-- what is small is held as it is
held_small : (t n : ℕ) → t ≤ n * 2 ^ 32 → n < 2 ^ 32 → held t ≡ t
held_small t n small few = min-eq_left (omega (arith, small, few))

bounded : (b : Bool) (t s n : ℕ) → t ≤ n * 2 ^ 32 → s < 2 ^ 32 → t + cond b s 0 ≤ (n + 1) * 2 ^ 32
bounded true t s n small own = omega (arith, small, own)
bounded false t s n small own = omega (arith, small)

module _ (clafers : List Clafer) (scopes : Scopes) where
  -- ---- rooms
  one_room : (n c : ℕ) → room_below clafers scopes c (n + 1) ≡ room_below clafers scopes c n + cond (is_concrete clafers n && is_a clafers n c) (scope_of scopes n) 0
  one_room n c =
      room_more clafers scopes (c ∷ []) n
      ∙ ap (λ b. room_below clafers scopes c n + cond (is_concrete clafers n && b) (scope_of scopes n) 0) (or_nothing (is_a clafers n c))

  pub rooms_more : (n s : ℕ) (old new : List ℕ) (k : Clafer) → is_closed clafers ≡ true → each clafers (λ c. not (inherits_itself clafers c)) ≡ true
      → n < length clafers → slice_get clafers n ≡ Some k → k.is_abstract ≡ false → s ≡ scope_of scopes n
      → AreRoomsBelow clafers scopes n old → ((c : ℕ) → get_or new c 0 ≡ added (with_supers clafers n) s c (get_or old c 0))
      → AreRoomsBelow clafers scopes (n + 1) new
  rooms_more n s old new k closed acyclic lt found concrete own before add c =
      add c
      ∙ adds_once (with_supers clafers n) s c (get_or old c 0) (once clafers closed acyclic (length clafers) n (omega arith) lt)
      ∙ ap (λ t. if has (with_supers clafers n) c then held (t + s) else t) (before c)
      ∙ held_case (is_a clafers n c) (room_below clafers scopes c n) s
      ∙ ap (λ m. held (room_below clafers scopes c n + cond (is_a clafers n c) m 0)) own
      ∙ ap (λ b. held (room_below clafers scopes c n + cond (b && is_a clafers n c) (scope_of scopes n) 0)) (sym (is_concrete-at clafers n k found ∙ ap not concrete))
      ∙ ap held (sym (one_room n c))

  pub rooms_kept : (n : ℕ) (sums : List ℕ) (k : Clafer) → slice_get clafers n ≡ Some k → k.is_abstract ≡ true
      → AreRoomsBelow clafers scopes n sums → AreRoomsBelow clafers scopes (n + 1) sums
  rooms_kept n sums k found abs before c =
      before c
      ∙ ap held (no_more (room_below clafers scopes c n))
      ∙ ap (λ b. held (room_below clafers scopes c n + cond (b && is_a clafers n c) (scope_of scopes n) 0)) (sym (is_concrete-at clafers n k found ∙ ap not abs))
      ∙ ap held (sym (one_room n c))

  pub rooms_small : (n c : ℕ) → scope_of scopes n < 2 ^ 32 → room_below clafers scopes c n ≤ n * 2 ^ 32 → room_below clafers scopes c (n + 1) ≤ (n + 1) * 2 ^ 32
  rooms_small n c own small =
      subst (λ t. t ≤ (n + 1) * 2 ^ 32) (sym (one_room n c)) (bounded (is_concrete clafers n && is_a clafers n c) (room_below clafers scopes c n) (scope_of scopes n) n small own)

  -- ---- children
  one_child : (n c : ℕ) → children_below clafers scopes c (n + 1) ≡ children_below clafers scopes c n + cond (is_child clafers c n) (scope_of scopes n) 0
  one_child n c =
      ap (λ xs. sum (map (scope_of scopes) xs)) (filtered (is_child clafers c) n)
      ∙ sums-append (scope_of scopes) (filter (is_child clafers c) (numbers_below n)) (filter (is_child clafers c) (n ∷ []))
      ∙ ap (λ m. children_below clafers scopes c n + m) (alone (is_child clafers c n))
    where
      alone : (b : Bool) → sum (map (scope_of scopes) (cond b (n ∷ []) [])) ≡ cond b (scope_of scopes n) 0
      alone true = single (scope_of scopes n)
        where
          single : (m : ℕ) → sum (m ∷ []) ≡ m
          single m = omega arith
      alone false = refl

  pub children_more : (n s p : ℕ) (old new : List ℕ) (k : Clafer) → slice_get clafers n ≡ Some k → k.parent ≡ Some p → s ≡ scope_of scopes n
      → AreChildrenBelow clafers scopes n old → ((c : ℕ) → get_or new c 0 ≡ (if nat_eq p c then held (get_or old c 0 + s) else get_or old c 0))
      → AreChildrenBelow clafers scopes (n + 1) new
  children_more n s p old new k found parent own before add c =
      add c
      ∙ ap (λ t. if nat_eq p c then held (t + s) else t) (before c)
      ∙ held_case (nat_eq p c) (children_below clafers scopes c n) s
      ∙ ap (λ b. held (children_below clafers scopes c n + cond b s 0)) (same_test p c)
      ∙ ap (λ m. held (children_below clafers scopes c n + cond (p == c) m 0)) own
      ∙ ap (λ o. held (children_below clafers scopes c n + cond (option_map_or (λ q. q == c) o false) (scope_of scopes n) 0)) (sym (parent_of-at clafers n k found ∙ parent))
      ∙ ap held (sym (one_child n c))

  pub children_kept : (n : ℕ) (sums : List ℕ) (k : Clafer) → slice_get clafers n ≡ Some k → k.parent ≡ None
      → AreChildrenBelow clafers scopes n sums → AreChildrenBelow clafers scopes (n + 1) sums
  children_kept n sums k found parent before c =
      before c
      ∙ ap held (no_more (children_below clafers scopes c n))
      ∙ ap (λ o. held (children_below clafers scopes c n + cond (option_map_or (λ q. q == c) o false) (scope_of scopes n) 0)) (sym (parent_of-at clafers n k found ∙ parent))
      ∙ ap held (sym (one_child n c))

  pub children_small : (n c : ℕ) → scope_of scopes n < 2 ^ 32 → children_below clafers scopes c n ≤ n * 2 ^ 32 → children_below clafers scopes c (n + 1) ≤ (n + 1) * 2 ^ 32
  children_small n c own small =
      subst (λ t. t ≤ (n + 1) * 2 ^ 32) (sym (one_child n c)) (bounded (is_child clafers c n) (children_below clafers scopes c n) (scope_of scopes n) n small own)

  -- ---- all of them
  pub rooms_all : (sums : List ℕ) (n c : ℕ) → AreRoomsBelow clafers scopes n sums → room_below clafers scopes c n ≤ n * 2 ^ 32 → n ≡ length clafers → length clafers < 2 ^ 32 → get_or sums c 0 ≡ room clafers scopes (c ∷ [])
  rooms_all sums n c sofar small all few =
      sofar c ∙ held_small (room_below clafers scopes c n) n small (subst (λ m. m < 2 ^ 32) (sym all) few) ∙ ap (room_below clafers scopes c) all

  pub children_all : (sums : List ℕ) (n c : ℕ) → AreChildrenBelow clafers scopes n sums → children_below clafers scopes c n ≤ n * 2 ^ 32 → n ≡ length clafers → length clafers < 2 ^ 32 → get_or sums c 0 ≡ children_below clafers scopes c (length clafers)
  children_all sums n c sofar small all few =
      sofar c ∙ held_small (children_below clafers scopes c n) n small (subst (λ m. m < 2 ^ 32) (sym all) few) ∙ ap (children_below clafers scopes c) all
