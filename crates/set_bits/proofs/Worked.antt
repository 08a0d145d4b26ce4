-- A worked layout and instance: `a`, `b -> int` declared under `a`, and `c -> a`; one `a`, two `b` and one `c` at most, integers from -2 to 1.
use Rattle.std.proofs.Common.{◌≡◌, ℕ, Bool, true, false, List, [], ◌∷◌, length, Option, Some, None, refl}
use Rattle.std.specs.Prelude.{pos, negsuc}
use Rattle.std.proofs.lemmas.List.Elements.{All-cons, All-nil}
use Rattle.bool_circuit.specs.declared.gate.Wire.{Wire}
use Rattle.clf_tree.specs.declared.model.Clafer.{Clafer}
use Rattle.clf_tree.specs.declared.model.Reference.{Reference}
use Rattle.clf_tree.specs.declared.instance.Node.{Node}
use Rattle.clf_tree.specs.declared.instance.Target.TheVariants as target
use Rattle.clf_tree.specs.declared.instance.Entry.{Entry}
use Rattle.clf_tree.specs.declared.scopes.Scopes.{Scopes}
use Rattle.clf_tree.specs.Widths.{width}
use Rattle.set_bits.specs.declared.layout.Edge.{Edge}
use Rattle.set_bits.specs.declared.layout.SlotBits.{SlotBits}
use Rattle.set_bits.specs.declared.layout.Layout.{Layout}
use Rattle.set_bits.specs.Fitting.{Fits, value_width}
use Rattle.set_bits.specs.Showing.{Shows}

abbrev plain : Option ℕ → Option Reference → Clafer
plain p r = record {
  title = record { name = []; at = record { line = 0; column = 0 } };
  is_abstract = false;
  parent = p;
  above = None;
  group = record { low = 0; high = None };
  times = record { low = 0; high = None };
  reference = r;
}

abbrev refers_to : Option ℕ → Reference
refers_to t = record { at = record { line = 0; column = 0 }; bag = true; to = t }

abbrev clafers : List Clafer
clafers = plain None None ∷ plain (Some 0) (Some (refers_to None)) ∷ plain None (Some (refers_to (Some 0))) ∷ []

abbrev scopes : Scopes
scopes = record { of = 1 ∷ 2 ∷ 1 ∷ []; low = negsuc 1; high = pos 1 }

abbrev node : ℕ → ℕ → Node
node c n = record { clafer = c; number = n }

abbrev wire : ℕ → Wire
wire n = record { number = n }

abbrev edge : ℕ → ℕ → ℕ → Edge
edge i j w = record { from = i; to = j; here = wire w }

abbrev first_value : SlotBits
first_value = record { slot = 1; bits = wire 7 ∷ wire 8 ∷ [] }

abbrev second_value : SlotBits
second_value = record { slot = 2; bits = wire 9 ∷ wire 10 ∷ [] }

abbrev layout : Layout
layout = record {
  slots = node 0 0 ∷ node 1 0 ∷ node 1 1 ∷ node 2 0 ∷ [];
  live = wire 0 ∷ wire 1 ∷ wire 2 ∷ wire 3 ∷ [];
  parents = edge 1 0 4 ∷ edge 2 0 5 ∷ [];
  targets = edge 3 0 6 ∷ [];
  values = first_value ∷ second_value ∷ [];
}

-- a$0, b$1 under it with -2, and c$0 that refers to a$0
abbrev entries : List Entry
entries =
    record { node = node 0 0; parent = None; target = None }
    ∷ record { node = node 1 1; parent = Some (node 0 0); target = Some (target.Int (negsuc 1)) }
    ∷ record { node = node 2 0; parent = None; target = Some (target.Node (node 0 0)) } ∷ []

-- live, parents, targets, and the integers of b$0 and b$1
abbrev bits : List Bool
bits = true ∷ false ∷ true ∷ true ∷ false ∷ true ∷ true ∷ false ∷ false ∷ false ∷ true ∷ []

pub worked_fits : Fits clafers scopes layout
unfolding width
worked_fits = record {
  slots = refl;
  live = refl;
  parents = refl;
  parent_wires = refl;
  targets = refl;
  target_wires = refl;
  values = refl;
  widths = All-cons (λ v. length v.bits ≡ value_width scopes) first_value (second_value ∷ []) refl (All-cons (λ v. length v.bits ≡ value_width scopes) second_value [] refl (All-nil (λ v. length v.bits ≡ value_width scopes)));
  integer_wires = refl;
}

pub worked_shows : Shows clafers scopes layout bits entries
worked_shows = record {
  within = refl;
  in_range = refl;
  ordered = refl;
  size = refl;
  live = refl;
  parents = refl;
  has_parents = refl;
  targets = refl;
  has_targets = refl;
  values = refl;
  has_values = refl;
}

-- not with a true bit of b$0, which isn't there, nor with -1 in place of -2
pub no_dead_parent : Shows clafers scopes layout (true ∷ false ∷ true ∷ true ∷ true ∷ true ∷ true ∷ false ∷ false ∷ false ∷ true ∷ []) entries → ⊥
no_dead_parent s = (let e = s.parents in cc)

pub no_other_integer : Shows clafers scopes layout (true ∷ false ∷ true ∷ true ∷ false ∷ true ∷ true ∷ false ∷ false ∷ true ∷ true ∷ []) entries → ⊥
no_other_integer s = (let e = s.values in cc)
