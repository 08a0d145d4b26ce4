-- The variables that an expression sees.
use Rattle.std.specs.Prelude.{ℕ, ◌^◌, ◌&&◌, List, [], ◌∷◌, ◌++◌, length, Option, Some, None, bytes_eq, nat_lt, if◌then◌else◌}
use Rattle.std.specs.Option.{option_or}
use Rattle.clf_tree.specs.declared.token.Title.{Title}
use Rattle.clf_tree.specs.declared.kind.Kind.{Kind}
use Rattle.clf_tree.specs.Kinds.{clafers_of, bind_kinds}
use Rattle.expression_names.specs.declared.scope.Scope.{Scope}

-- how many variables stand inside of it, if it has the name; a variable is a number of 32 bits
abbrev pub if_named : List ℕ → Title → ℕ → Option ℕ
if_named name t inside = if bytes_eq t.name name && nat_lt inside (2 ^ 32) then Some inside else None

-- the innermost variable of a name, counted from the innermost one of all
abbrev pub variable : List Title → List ℕ → Option ℕ
variable [] name = None
variable (t ∷ ts) name = option_or (variable ts name) (if_named name t (length ts))

-- within a quantifier of these names over nodes of a kind
unfoldable pub bind : List Title → Option Kind → Scope → Scope
bind names k s = record { names = s.names ++ names; within = bind_kinds (clafers_of k) (length names) s.within }
