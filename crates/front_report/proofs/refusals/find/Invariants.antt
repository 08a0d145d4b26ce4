-- The entries that are left decide.
use Rattle.std.proofs.Common.{◌≡◌, ◌==◌, [], drop}
use Rattle.std.specs.Option.{option_map_or}
use Rattle.std.specs.Map.{lookup}
use Rattle.front_report.proofs.refusals.find.Given as goal

abbrev pub invariant-loop-other : goal.invariant-loop-other
invariant-loop-other l =
    option_map_or (λ text. text.now) (lookup (λ other. other == l.code) (drop l.other-index l.table)) []
    ≡ option_map_or (λ text. text.now) (lookup (λ other. other == l.code) l.table) []
