use Rattle.std.specs.Prelude.{◌≡◌, ◌≤◌, List, take, length}
use Rattle.clause_store.specs.declared.clause.Literal.{Literal}
use Rattle.clause_store.specs.declared.kept.Kept.{Kept}
use Rattle.clause_store.specs.declared.kept.Kept.TheVariants.{Short, Long}

-- the literals that are kept, wherever they are
abbrev pub kept_literals : Kept → List Literal
kept_literals (Short literals count) = take count literals
kept_literals (Long literals) = literals

-- no more literals are kept in place than there are places
abbrev pub IsSized : Kept → Type 0
IsSized (Short literals count) = (count ≤ 5) × (length literals ≡ 5)
IsSized (Long literals) = Unit {0}
