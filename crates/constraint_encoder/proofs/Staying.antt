-- What the wires of expressions tell stays so where a circuit grows.
use Rattle.std.proofs.Common.{ℕ, List, length, get_or, ap, ◌∙◌, arith}
use Rattle.bool_circuit.specs.declared.gate.Wire.{Wire}
use Rattle.bool_circuit.specs.declared.gate.Gate.{Gate}
use Rattle.bool_circuit.specs.Circuit.{Extends}
use Rattle.bool_circuit.proofs.Extending.{wires_stay, wire_values_stay}
use Rattle.integer_bits.specs.declared.totals.Part.{Part}
use Rattle.integer_bits.specs.Numbers.{integer_of}
use Rattle.clf_tree.specs.declared.scopes.Scopes.{Scopes}
use Rattle.clf_tree.specs.Core.{Core}
use Rattle.set_bits.specs.declared.layout.SlotBits.{SlotBits}
use Rattle.set_bits.specs.declared.layout.Layout.{Layout}
use Rattle.set_bits.specs.declared.sets.Member.{Member}
use Rattle.set_bits.proofs.Staying.{set_stays, set_value_stays}
use Rattle.shape_encoder.specs.Reading.{IsBit, IsLaid, IsSlotOf}
use Rattle.number_encoder.proofs.Standing.{parts_stay, present_stays}
use Rattle.constraint_encoder.specs.Encoded.{IsNodesOf, IsNumberOf, IsSideOf, IsTruthOf}

bit_stays : (old new : List Gate) (n : ℕ) (w : Wire) → Extends old new n → IsBit old w → IsBit new w
bit_stays old new n w x b = record {
  wire = let l = b.wire in omega (arith, x.at_least, l);
  value = λ bits. x.keeps w b.wire bits ∙ b.value bits;
}

slot_stays : (old new : List Gate) (n slots : ℕ) (v : SlotBits) → Extends old new n → IsSlotOf old slots v → IsSlotOf new slots v
slot_stays old new n slots v x b = record {
  known = b.known;
  some = b.some;
  bits = λ k d l. bit_stays old new n (get_or v.bits k d) x (b.bits k d l);
}

pub laid_stays : (old new : List Gate) (n : ℕ) (layout : Layout) → Extends old new n → IsLaid old layout → IsLaid new layout
laid_stays old new n layout x l = record {
  slots = l.slots;
  live = λ k d i. bit_stays old new n (get_or layout.live k d) x (l.live k d i);
  parents = λ k d i. bit_stays old new n (get_or layout.parents k d).here x (l.parents k d i);
  targets = λ k d i. bit_stays old new n (get_or layout.targets k d).here x (l.targets k d i);
  values = λ k d i. slot_stays old new n (length layout.live) (get_or layout.values k d) x (l.values k d i);
}

pub truth_stays : (old new : List Gate) (n : ℕ) (layout : Layout) (e : Core) (slots : List ℕ) (w : Wire) →
    Extends old new n → IsTruthOf old layout e slots w → IsTruthOf new layout e slots w
truth_stays old new n layout e slots w x t = record {
  wire = let l = t.wire in omega (arith, x.at_least, l);
  value = λ bits. x.keeps w t.wire bits ∙ t.value bits;
}

pub nodes_stay : (old new : List Gate) (n : ℕ) (scopes : Scopes) (layout : Layout) (e : Core) (slots : List ℕ)
    (set : List Member) → Extends old new n → IsNodesOf old scopes layout e slots set →
    IsNodesOf new scopes layout e slots set
nodes_stay old new n scopes layout e slots set x t = record {
  set = set_stays old new n set x t.set;
  listed = t.listed;
  below = t.below;
  few = t.few;
  value = λ bits s. set_value_stays old new n set s bits x t.set ∙ t.value bits s;
}

pub number_stays : (old new : List Gate) (n : ℕ) (scopes : Scopes) (layout : Layout) (e : Core) (slots : List ℕ)
    (ws : List Wire) → Extends old new n → IsNumberOf old scopes layout e slots ws →
    IsNumberOf new scopes layout e slots ws
number_stays old new n scopes layout e slots ws x t = record {
  wires = wires_stay old new n ws x t.wires;
  some = t.some;
  few = t.few;
  value = λ bits. ap integer_of (wire_values_stay old new n ws bits x t.wires) ∙ t.value bits;
}

pub side_stays : (old new : List Gate) (n : ℕ) (scopes : Scopes) (layout : Layout) (e : Core) (slots : List ℕ)
    (ps : List Part) → Extends old new n → IsSideOf old scopes layout e slots ps →
    IsSideOf new scopes layout e slots ps
side_stays old new n scopes layout e slots ps x t = record {
  parts = parts_stay old new n ps x t.parts;
  few = t.few;
  narrow = t.narrow;
  value = λ bits. present_stays old new n ps bits x t.parts ∙ t.value bits;
}
