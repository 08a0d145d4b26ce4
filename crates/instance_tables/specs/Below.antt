-- Nodes whose numbers are below the scopes of their clafers.
use Rattle.std.specs.Prelude.{Bool, List, nat_lt}
use Rattle.std.specs.List.{list_all}
use Rattle.clf_tree.specs.declared.instance.Node.{Node}
use Rattle.clf_tree.specs.declared.instance.Entry.{Entry}
use Rattle.clf_tree.specs.declared.scopes.Scopes.{Scopes}
use Rattle.clf_tree.specs.Nodes.{scope_of, named_by}

abbrev pub is_below_scope : Scopes → Node → Bool
is_below_scope scopes n = nat_lt n.number (scope_of scopes n.clafer)

-- whether each node that is named is within the scopes
abbrev pub are_below_scopes : Scopes → List Entry → Bool
are_below_scopes scopes entries = list_all (λ e. list_all (is_below_scope scopes) (named_by e)) entries
