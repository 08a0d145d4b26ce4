-- A layout, an instance and its bits, which tests read: `a`, `b -> int` declared under `a`, and `c -> a`; one `a`, two `b` and one `c` at most, integers from -2 to 1.
use Rattle.std.specs.Prelude.{ℕ, Bool, true, false, List, [], ◌∷◌, Option, Some, None, pos, negsuc}
use Rattle.bool_circuit.specs.declared.gate.Wire.{Wire}
use Rattle.clf_tree.specs.declared.model.Clafer.{Clafer}
use Rattle.clf_tree.specs.declared.model.Reference.{Reference}
use Rattle.clf_tree.specs.declared.instance.Node.{Node}
use Rattle.clf_tree.specs.declared.instance.Target.TheVariants as target
use Rattle.clf_tree.specs.declared.instance.Entry.{Entry}
use Rattle.clf_tree.specs.declared.scopes.Scopes.{Scopes}
use Rattle.set_bits.specs.declared.layout.Edge.{Edge}
use Rattle.set_bits.specs.declared.layout.SlotBits.{SlotBits}
use Rattle.set_bits.specs.declared.layout.Layout.{Layout}

abbrev pub plain : Option ℕ → Option Reference → Clafer
plain p r = record {
  title = record { name = []; at = record { line = 0; column = 0 } };
  is_abstract = false;
  parent = p;
  above = None;
  group = record { low = 0; high = None };
  times = record { low = 0; high = None };
  reference = r;
}

abbrev pub refers_to : Option ℕ → Reference
refers_to t = record { at = record { line = 0; column = 0 }; bag = true; to = t }

abbrev pub clafers : List Clafer
clafers = plain None None ∷ plain (Some 0) (Some (refers_to None)) ∷ plain None (Some (refers_to (Some 0))) ∷ []

abbrev pub scopes : Scopes
scopes = record { of = 1 ∷ 2 ∷ 1 ∷ []; low = negsuc 1; high = pos 1 }

abbrev pub node : ℕ → ℕ → Node
node c n = record { clafer = c; number = n }

abbrev pub wire : ℕ → Wire
wire n = record { number = n }

abbrev pub edge : ℕ → ℕ → ℕ → Edge
edge i j w = record { from = i; to = j; here = wire w }

abbrev pub first_value : SlotBits
first_value = record { slot = 1; bits = wire 7 ∷ wire 8 ∷ [] }

abbrev pub second_value : SlotBits
second_value = record { slot = 2; bits = wire 9 ∷ wire 10 ∷ [] }

abbrev pub layout : Layout
layout = record {
  slots = node 0 0 ∷ node 1 0 ∷ node 1 1 ∷ node 2 0 ∷ [];
  live = wire 0 ∷ wire 1 ∷ wire 2 ∷ wire 3 ∷ [];
  parents = edge 1 0 4 ∷ edge 2 0 5 ∷ [];
  targets = edge 3 0 6 ∷ [];
  values = first_value ∷ second_value ∷ [];
}

-- a$0, b$1 under it with -2, and c$0 that refers to a$0
abbrev pub entries : List Entry
entries =
    record { node = node 0 0; parent = None; target = None }
    ∷ record { node = node 1 1; parent = Some (node 0 0); target = Some (target.Int (negsuc 1)) }
    ∷ record { node = node 2 0; parent = None; target = Some (target.Node (node 0 0)) } ∷ []

-- live, parents, targets, and the integers of b$0 and b$1
abbrev pub bits : List Bool
bits = true ∷ false ∷ true ∷ true ∷ false ∷ true ∷ true ∷ false ∷ false ∷ false ∷ true ∷ []
