-- When a wire says whether bits show an instance of the right shape.
use Rattle.std.specs.Prelude.{◌≡◌, ◌↔◌, Bool, IsTrue, List, length}
use Rattle.bool_circuit.specs.declared.gate.Gate.{Gate}
use Rattle.bool_circuit.specs.declared.gate.Wire.{Wire}
use Rattle.bool_circuit.specs.Circuit.{wire_value}
use Rattle.clf_tree.specs.declared.model.Clafer.{Clafer}
use Rattle.clf_tree.specs.declared.scopes.Scopes.{Scopes}
use Rattle.set_bits.specs.declared.layout.Layout.{Layout}
use Rattle.set_bits.specs.Fitting.{size}
use Rattle.shown_instance.specs.Shaped.{ShowsShaped}

-- at each list of bits, one for each input, it is true exactly where they show an instance that is a tree of the right shape
abbrev pub IsExact : List Clafer → Scopes → Layout → List Gate → Wire → Type 0
IsExact clafers scopes layout gates wire =
    (bits : List Bool) → length bits ≡ size layout → IsTrue (wire_value gates wire bits) ↔ ShowsShaped clafers scopes layout bits
