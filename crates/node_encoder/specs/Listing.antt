-- Sets of slots that keep to some clafers.
use Rattle.std.specs.Prelude.{◌≡◌, ◌≤◌, ◌&&◌, ℕ, Bool, true, List, length, map, sum, nat_lt}
use Rattle.std.specs.List.{list_all}
use Rattle.bool_circuit.specs.declared.gate.Gate.{Gate}
use Rattle.clf_tree.specs.declared.scopes.Scopes.{Scopes}
use Rattle.clf_tree.specs.Nodes.{scope_of}
use Rattle.set_bits.specs.declared.sets.Member.{Member}
use Rattle.set_bits.specs.declared.layout.Layout.{Layout}
use Rattle.set_bits.specs.Sets.{is_in, IsSetOf}
use Rattle.told_constraints.specs.Told.{is_listed}

-- how many nodes clafers can have within the scopes
abbrev pub room : Scopes → List ℕ → ℕ
room scopes ks = sum (map (scope_of scopes) ks)

-- the slot of each member is there, and of one of the clafers
abbrev pub AreListed : Layout → List ℕ → List Member → Type 0
AreListed layout ks set = list_all (λ m. is_listed layout ks m.slot) set ≡ true

-- the slot of each member is below n
abbrev pub AreBelow : ℕ → List Member → Type 0
AreBelow n set = list_all (λ m. nat_lt m.slot n) set ≡ true

-- the members of a set that are of the clafers
pub record IsCutTo (layout : Layout) (ks : List ℕ) (set found : List Member) : Type 0 where
  pub sets : (gates : List Gate) → IsSetOf gates set → IsSetOf gates found
  pub value : (gates : List Gate) (bits : List Bool) (s : ℕ) → is_in gates found s bits ≡ (is_listed layout ks s && is_in gates set s bits)
  pub listed : AreListed layout ks found
  pub no_more : length found ≤ length set
