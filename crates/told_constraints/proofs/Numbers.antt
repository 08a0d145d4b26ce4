-- Numbers that their widths hold, and the integers of slots.
use Rattle.std.proofs.Common.{◌≡◌, ℕ, ◌<◌, Bool, true, false, not, cond, ◌&&◌, ◌||◌, List, [], ◌∷◌, map, length, Option, Some, None, refl, sym, ap, ◌∙◌, arith, ℤ, pos}
use Rattle.std.specs.Prelude.{nat_le}
use Rattle.std.specs.List.{list_all}
use Rattle.std.specs.Option.{option_map_or, option_and_then}
use Rattle.std.proofs.lemmas.Bool.Decides.{nat_tests}
use Rattle.std.proofs.lemmas.List.{length-map}
use Rattle.std.proofs.lemmas.List.Folds.{list_all-map}
use Rattle.integer_bits.specs.Numbers.{cut}
use Rattle.integer_bits.proofs.Cutting.{cut_of_fitting}
use Rattle.clf_tree.specs.declared.model.Clafer.{Clafer}
use Rattle.clf_tree.specs.declared.scopes.Scopes.{Scopes}
use Rattle.clf_tree.specs.declared.instance.Node.{Node}
use Rattle.clf_tree.specs.declared.instance.Target.{Target}
use Rattle.clf_tree.specs.declared.instance.Target.TheVariants as target
use Rattle.clf_tree.specs.declared.instance.Entry.{Entry}
use Rattle.clf_tree.specs.Meaning.{int_in, int_of, same_set, all_in}
use Rattle.clf_tree.specs.Nodes.{same_node, has_node}
use Rattle.clf_tree.specs.CoreSoundness.{holds_integer}
use Rattle.bool_circuit.specs.Circuit.{bool_xor}
use Rattle.set_bits.specs.declared.layout.Layout.{Layout}
use Rattle.set_bits.specs.Fitting.{slot}
use Rattle.set_bits.specs.Showing.{integer_in}
use Rattle.set_bits.proofs.Staying.{held_fits}
use Rattle.shown_instance.specs.Shown.{shown, entry_at, is_live}
use Rattle.shown_instance.proofs.Consistent.{shown_entry}
use Rattle.shown_instance.proofs.Order.{both}
use Rattle.shown_instance.proofs.Valued.{entry_integer}
use Rattle.told_constraints.specs.Formed.{is_width}
use Rattle.told_constraints.specs.Told.{members, all_slots, slot_integer}
use Rattle.told_constraints.proofs.Lists.{map_range, all_range, all_filter, all_and}
use Rattle.told_constraints.proofs.Setting.{Setting}
use Rattle.told_constraints.proofs.Sets.{Same, told_has}

-- ---- widths

-- a width keeps the integers that it holds
pub kept_number : (w : ℕ) (y z : ℤ) → y ≡ z → is_width w ≡ true → holds_integer w z ≡ true → cut w y ≡ z
kept_number w y z e h holds = ap (cut w) e ∙ cut_of_fitting w z (some w (both (nat_le 1 w) (nat_le w 64) h).0) ((held_fits w z).0 holds)
  where
    some : (w : ℕ) → nat_le 1 w ≡ true → 0 < w
    some w h = grind (arith, nat_tests)

-- ---- how many, and which integers

map_map : {X Y Z : Type 0} (g : Y → Z) (f : X → Y) (xs : List X) → map g (map f xs) ≡ map (λ x. g (f x)) xs
map_map g f [] = refl
map_map g f (x ∷ xs) = ap (λ ys. g (f x) ∷ ys) (map_map g f xs)

pub counted : (layout : Layout) (bits : List Bool) (p : ℕ → Bool) (ns : List Node) → Same layout bits p ns
    → length (members layout p) ≡ length ns
counted layout bits p ns same = sym (length-map (members layout p) (slot layout.slots)) ∙ ap length same.list

-- the integer of a target, 0 where there is none
int_told : (t : Option Target) → option_map_or (λ z. z) (option_and_then integer_in t) (pos 0) ≡ option_map_or int_in t (pos 0)
int_told None = refl
int_told (Some (target.Int z)) = refl
int_told (Some (target.Node n)) = refl

module _ (clafers : List Clafer) (scopes : Scopes) (layout : Layout) (bits : List Bool) (s : Setting clafers scopes layout bits) where
  integer_told : (i : ℕ) → i < length layout.slots → is_live layout bits i ≡ true
      → slot_integer layout bits i ≡ int_of [] (shown layout bits) (slot layout.slots i)
  unfolding slot_integer
  integer_told i h live =
      sym (ap (λ o. option_map_or (λ z. z) o (pos 0)) (entry_integer clafers scopes layout bits i s.fits h))
      ∙ int_told (entry_at layout bits i).target
      ∙ sym (ap (λ o. option_map_or int_in (option_and_then (λ (x : Entry). x.target) o) (pos 0))
      (shown_entry layout bits i s.asc h ∙ ap (λ b. cond b (Some (entry_at layout bits i)) None) live))

  pub values_same : (p : ℕ → Bool) (ns : List Node) → Same layout bits p ns
      → map (slot_integer layout bits) (members layout p) ≡ map (int_of [] (shown layout bits)) ns
  unfolding members
  values_same p ns same =
      map_range (slot_integer layout bits) (λ i. int_of [] (shown layout bits) (slot layout.slots i)) p 0 (length layout.slots)
      (λ i l u t. let h : i < length layout.slots = omega (arith, u) in integer_told i h (same.live i h t))
      ∙ sym (map_map (int_of [] (shown layout bits)) (slot layout.slots) (members layout p))
      ∙ ap (map (int_of [] (shown layout bits))) same.list

  -- ---- comparing sets

  pub within_same : (p q : ℕ → Bool) (ms ns : List Node) → Same layout bits p ms → Same layout bits q ns
      → list_all (λ i. not (p i && not (q i))) (all_slots layout) ≡ all_in same_node ms ns
  unfolding members
  within_same p q ms ns left right =
      all_range (λ i. not (p i && not (q i))) (λ i. not (p i) || has_node ns (slot layout.slots i)) 0 (length layout.slots)
      (λ i l u. turn (p i) (q i) ∙ ap (λ b. not (p i) || b) (sym (told_has clafers scopes layout bits s q ns right i (omega (arith, u)))))
      ∙ sym (all_filter (λ i. has_node ns (slot layout.slots i)) p (all_slots layout))
      ∙ sym (list_all-map (has_node ns) (slot layout.slots) (members layout p))
      ∙ ap (list_all (has_node ns)) left.list
    where
      turn : (a b : Bool) → not (a && not b) ≡ (not a || b)
      turn true true = refl
      turn true false = refl
      turn false b = refl

  pub equal_same : (p q : ℕ → Bool) (ms ns : List Node) → Same layout bits p ms → Same layout bits q ns
      → list_all (λ i. not (bool_xor (p i) (q i))) (all_slots layout) ≡ same_set same_node ms ns
  equal_same p q ms ns left right =
      all_range (λ i. not (bool_xor (p i) (q i))) (λ i. not (p i && not (q i)) && not (q i && not (p i))) 0 (length layout.slots)
      (λ i l u. turn (p i) (q i))
      ∙ all_and (λ i. not (p i && not (q i))) (λ i. not (q i && not (p i))) (all_slots layout)
      ∙ ap (λ b. b && list_all (λ i. not (q i && not (p i))) (all_slots layout)) (within_same p q ms ns left right)
      ∙ ap (λ b. all_in same_node ms ns && b) (within_same q p ns ms right left)
    where
      turn : (a b : Bool) → not (bool_xor a b) ≡ (not (a && not b) && not (b && not a))
      turn true true = refl
      turn true false = refl
      turn false true = refl
      turn false false = refl
