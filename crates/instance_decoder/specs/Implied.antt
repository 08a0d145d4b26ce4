-- `a` with the options `b` and `c`, one of each at most, and the instance that has them all, which tests read.
use Rattle.std.specs.Prelude.{ℕ, false, List, [], ◌∷◌, Option, Some, None, pos, negsuc}
use Rattle.clf_tree.specs.declared.model.Clafer.{Clafer}
use Rattle.clf_tree.specs.declared.instance.Entry.{Entry}
use Rattle.clf_tree.specs.declared.scopes.Scopes.{Scopes}
use Rattle.set_bits.specs.declared.layout.Layout.{Layout}
use Rattle.instance_decoder.specs.Worked.{edge, node, wire}

-- so many of it under each instance of its parent
abbrev pub times : Option ℕ → ℕ → Clafer
times p low = record {
  title = record { name = []; at = record { line = 0; column = 0 } };
  is_abstract = false;
  parent = p;
  above = None;
  group = record { low = 0; high = None };
  times = record { low = low; high = Some 1 };
  reference = None;
}

abbrev pub option_clafers : List Clafer
option_clafers = times None 1 ∷ times (Some 0) 0 ∷ times (Some 0) 0 ∷ []

abbrev pub option_scopes : Scopes
option_scopes = record { of = 1 ∷ 1 ∷ 1 ∷ []; low = negsuc 2047; high = pos 2047 }

abbrev pub option_layout : Layout
option_layout = record {
  slots = node 0 0 ∷ node 1 0 ∷ node 2 0 ∷ [];
  live = wire 0 ∷ wire 1 ∷ wire 2 ∷ [];
  parents = edge 1 0 3 ∷ edge 2 0 4 ∷ [];
  targets = [];
  values = [];
}

-- a$0, and b$0 and c$0 under it
abbrev pub option_entries : List Entry
option_entries =
    record { node = node 0 0; parent = None; target = None }
    ∷ record { node = node 1 0; parent = Some (node 0 0); target = None }
    ∷ record { node = node 2 0; parent = Some (node 0 0); target = None } ∷ []
