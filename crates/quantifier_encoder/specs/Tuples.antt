-- The tuples of a set's members, each with a wire.
use Rattle.std.specs.Prelude.{◌≡◌, ℕ, ◌+◌, ◌*◌, ◌^◌, Bool, not, ◌&&◌, List, [], ◌∷◌, ◌++◌, length, map, take, nat_eq}
use Rattle.std.specs.List.{All, filter, flat_map, list_all, list_any}
use Rattle.bool_circuit.specs.declared.gate.Gate.{Gate}
use Rattle.bool_circuit.specs.Circuit.{wire_value, IsWireOf, Extends}
use Rattle.set_bits.specs.declared.sets.Member.{Member}
use Rattle.set_bits.specs.Sets.{is_in, IsSetOf}
use Rattle.told_constraints.specs.Told.{tried_slots}
use Rattle.quantifier_encoder.specs.declared.tuples.Tuple.{Tuple}

-- the slots of members, and of tuples
abbrev pub slots_of : List Member → List ℕ
slots_of set = map (λ m. m.slot) set

abbrev pub slots_each : List Tuple → List (List ℕ)
slots_each ts = map (λ t. t.slots) ts

-- which tuples are there at given bits
abbrev pub guards : List Gate → List Tuple → List Bool → List Bool
guards gates ts bits = map (λ t. wire_value gates t.present bits) ts

-- whether a slot may come behind a tuple: where they are to differ, one that it does not have
abbrev pub may_follow : Bool → List ℕ → ℕ → Bool
may_follow disj t x = not (disj && list_any (λ y. nat_eq y x) t)

-- a tuple with each slot behind it that may come there
abbrev pub longer_tuples : Bool → List ℕ → List ℕ → List (List ℕ)
longer_tuples disj xs t = map (λ x. t ++ x ∷ []) (filter (may_follow disj t) xs)

-- the tuples that a quantifier tries of a set's slots, in order, each with a wire that is true where all its slots are in the set
pub record AreTuples (gates : List Gate) (old : List Gate) (set : List Member) (disj : Bool) (names : ℕ) (ts : List Tuple) : Type 0 where
  pub slots : slots_each ts ≡ tried_slots disj names (slots_of set)
  pub wires : All (λ t. IsWireOf gates t.present) ts
  pub present : (bits : List Bool) → guards gates ts bits ≡ map (list_all (λ s. is_in old set s bits)) (tried_slots disj names (slots_of set))

-- the tuple has a wire that is true where all its slots are in the set
pub record IsGuarded (gates : List Gate) (set : List Member) (t : Tuple) : Type 0 where
  pub wire : IsWireOf gates t.present
  pub value : (bits : List Bool) → wire_value gates t.present bits ≡ list_all (λ s. is_in gates set s bits) t.slots

-- ---- how far the loops have come

-- the tuple with each of the first i members behind it stands behind the tuples that were there
pub record AreLongerSoFar (old : List Gate) (set : List Member) (disj : Bool) (t : Tuple) (before : List Tuple) (i : ℕ) (new : List Gate) (longer : List Tuple) : Type 0 where
  pub extends : Extends old new i
  pub in_set : IsSetOf new set
  pub tuple : IsGuarded new set t
  pub guarded : All (IsGuarded new set) longer
  pub slots : slots_each longer ≡ slots_each before ++ longer_tuples disj (slots_of (take i set)) t.slots

-- each of the first i tuples has each member behind it
pub record AreExtendedSoFar (old : List Gate) (set : List Member) (disj : Bool) (ts : List Tuple) (i : ℕ) (new : List Gate) (longer : List Tuple) : Type 0 where
  pub extends : Extends old new (i * length set)
  pub in_set : IsSetOf new set
  pub tuples : All (IsGuarded new set) ts
  pub guarded : All (IsGuarded new set) longer
  pub slots : slots_each longer ≡ flat_map (longer_tuples disj (slots_of set)) (slots_each (take i ts))

-- the tuples of i slots
pub record AreTuplesSoFar (old : List Gate) (set : List Member) (disj : Bool) (i : ℕ) (new : List Gate) (ts : List Tuple) : Type 0 where
  pub extends : Extends old new (i * length set ^ i + 1)
  pub in_set : IsSetOf new set
  pub guarded : All (IsGuarded new set) ts
  pub slots : slots_each ts ≡ tried_slots disj i (slots_of set)
