-- What the bits of a layout tell of a relational expression.
use Rattle.std.specs.Prelude.{ℕ, ◌==◌, ◌&&◌, ◌||◌, Bool, false, not, List, [], ◌∷◌, ◌++◌, length, map, nat_eq, nat_lt, nat_le, count_by, ℤ, pos, ◌+ℤ◌, ◌*ℤ◌, neg_ℤ, int_lt, if◌then◌else◌}
use Rattle.std.specs.Ordering.{int_eq}
use Rattle.std.specs.Option.{option_map_or}
use Rattle.std.specs.List.{filter, list_any, list_all}
use Rattle.bool_circuit.specs.Circuit.{entry, bool_xor}
use Rattle.integer_bits.specs.Numbers.{cut}
use Rattle.clf_tree.specs.declared.core_expr.Quantifier.{Quantifier}
use Rattle.clf_tree.specs.declared.core_expr.Quantifier.TheVariants as word
use Rattle.clf_tree.specs.Lists.{has, numbers_below, from_end, each_two, tuples}
use Rattle.clf_tree.specs.Meaning.{total, same_set, all_in}
use Rattle.clf_tree.specs.Core as c
use Rattle.clf_tree.specs.Core.{Core}
use Rattle.clf_tree.specs.CoreSoundness.{holds_integer}
use Rattle.set_bits.specs.declared.layout.Edge.{Edge}
use Rattle.set_bits.specs.declared.layout.Layout.{Layout}
use Rattle.set_bits.specs.Fitting.{slot_clafer}
use Rattle.shown_instance.specs.Shown.{is_live, integer_at}

-- what is told of a form: a test of slots, an integer or a truth value
pub data Told : Type 0 where
  Set : (ℕ → Bool) → Told
  Number : ℤ → Told
  Truth : Bool → Told

-- what is told in the position of a set, of a number and of a truth value; of another sort nothing, 0 and false
abbrev pub told_set : Told → ℕ → Bool
told_set (Set p) = p
told_set _ = λ s. false

abbrev pub told_number : Told → ℤ
told_number (Number z) = z
told_number _ = pos 0

abbrev pub told_truth : Told → Bool
told_truth (Truth b) = b
told_truth _ = false

-- the slots, and those that pass a test, ascending
abbrev pub all_slots : Layout → List ℕ
all_slots layout = numbers_below (length layout.slots)

unfoldable pub members : Layout → (ℕ → Bool) → List ℕ
members layout p = filter p (all_slots layout)

-- whether a slot is there, and of one of the listed clafers
unfoldable pub is_listed : Layout → List ℕ → ℕ → Bool
is_listed layout ks s = nat_lt s (length layout.slots) && has ks (slot_clafer layout.slots s)

-- an edge turned round
abbrev pub turned : Edge → Edge
turned e = record { from = e.to; to = e.from; here = e.here }

-- whether a taken edge leads from a set to a slot
abbrev pub is_led_to : List Bool → List Edge → (ℕ → Bool) → ℕ → Bool
is_led_to bits edges p s = list_any (λ e. nat_eq e.to s && (p e.from && entry bits e.here)) edges

-- the integer of a slot, 0 where it has none
unfoldable pub slot_integer : Layout → List Bool → ℕ → ℤ
slot_integer layout bits s = option_map_or (λ z. z) (integer_at layout.values bits s) (pos 0)

-- the integers of what is told
abbrev pub values_of : Layout → List Bool → Told → List ℤ
values_of layout bits (Set p) = map (slot_integer layout bits) (members layout p)
values_of layout bits (Number z) = z ∷ []
values_of layout bits (Truth b) = []

-- the tuples of n slots that a quantifier tries
abbrev pub tried_slots : Bool → ℕ → List ℕ → List (List ℕ)
tried_slots disj n ss = if disj then filter (each_two (λ a b. not (nat_eq a b))) (tuples n ss) else tuples n ss

-- whether as many of a list pass as the word asks for
unfoldable pub as_many : {X : Type 0} → Quantifier → (X → Bool) → List X → Bool
as_many word.All test ts = list_all test ts
as_many word.Some test ts = list_any test ts
as_many word.One test ts = count_by test ts == 1
as_many word.Lone test ts = nat_le (count_by test ts) 1

module _ (layout : Layout) (bits : List Bool) where
  -- with the bound slots, the innermost last; each set keeps to its clafers, and each number to its width
  abbrev pub told : Core → List ℕ → Told
  told (c.Bound ks i) at = Set (λ s. is_listed layout ks s && option_map_or (nat_eq s) (from_end at i) false)
  told (c.Every ks) at = Set (λ s. is_listed layout ks s && is_live layout bits s)
  told (c.Down ks a) at = Set (λ s. is_listed layout ks s && is_led_to bits (map turned layout.parents) (told_set (told a at)) s)
  told (c.Up ks a) at = Set (λ s. is_listed layout ks s && is_led_to bits layout.parents (told_set (told a at)) s)
  told (c.Follow ks a) at = Set (λ s. is_listed layout ks s && is_led_to bits layout.targets (told_set (told a at)) s)
  told (c.Union ks a b) at = Set (λ s. is_listed layout ks s && (told_set (told a at) s || told_set (told b at) s))
  told (c.Minus ks a b) at = Set (λ s. is_listed layout ks s && (told_set (told a at) s && not (told_set (told b at) s)))
  told (c.Meet ks a b) at = Set (λ s. is_listed layout ks s && (told_set (told a at) s && told_set (told b at) s))
  told (c.ChooseNodes ks t a b) at =
      Set (λ s. is_listed layout ks s
      && (if told_truth (told t at) then told_set (told a at) s else told_set (told b at) s))
  told (c.Const w z) at = Number (if holds_integer w z then z else pos 0)
  told (c.Count w a) at = Number (cut w (pos (length (members layout (told_set (told a at))))))
  told (c.Total w a) at = Number (cut w (total (map (slot_integer layout bits) (members layout (told_set (told a at))))))
  told (c.Neg w a) at = Number (cut w (neg_ℤ (told_number (told a at))))
  told (c.Add w a b) at = Number (cut w (told_number (told a at) +ℤ told_number (told b at)))
  told (c.Mul w a b) at = Number (cut w (told_number (told a at) *ℤ told_number (told b at)))
  told (c.ChooseNumber w t a b) at = Number (cut w (if told_truth (told t at) then told_number (told a at) else told_number (told b at)))
  told (c.Not a) at = Truth (not (told_truth (told a at)))
  told (c.And a b) at = Truth (told_truth (told a at) && told_truth (told b at))
  told (c.Or a b) at = Truth (told_truth (told a at) || told_truth (told b at))
  told (c.Xor a b) at = Truth (bool_xor (told_truth (told a at)) (told_truth (told b at)))
  told (c.ChooseTruth t a b) at = Truth (if told_truth (told t at) then told_truth (told a at) else told_truth (told b at))
  told (c.SameNodes a b) at = Truth (list_all (λ s. not (bool_xor (told_set (told a at) s) (told_set (told b at) s))) (all_slots layout))
  told (c.WithinNodes a b) at = Truth (list_all (λ s. not (told_set (told a at) s && not (told_set (told b at) s))) (all_slots layout))
  told (c.SameValues a b) at = Truth (same_set int_eq (values_of layout bits (told a at)) (values_of layout bits (told b at)))
  told (c.WithinValues a b) at = Truth (all_in int_eq (values_of layout bits (told a at)) (values_of layout bits (told b at)))
  told (c.Less a b) at = Truth (int_lt (told_number (told a at)) (told_number (told b at)))
  told (c.AtLeast k a) at = Truth (nat_le k (length (members layout (told_set (told a at)))))
  told (c.AtMost k a) at = Truth (nat_le (length (members layout (told_set (told a at)))) k)
  told (c.Exactly k a) at = Truth (length (members layout (told_set (told a at))) == k)
  told (c.Quant word disj names over body) at =
      Truth (as_many word (λ ss. told_truth (told body (at ++ ss))) (tried_slots disj names (members layout (told_set (told over at)))))
