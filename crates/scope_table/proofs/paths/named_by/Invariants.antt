use Rattle.std.proofs.Common.{◌≡◌, ◌-◌, length}
use Rattle.std.specs.Prelude.{bytes_eq}
use Rattle.std.specs.List.{find, range_with_len}
use Rattle.scope_table.specs.Paths.{named_by, path_of}
use Rattle.scope_table.proofs.paths.named_by.Given as goal

abbrev pub invariant-loop-clafer : goal.invariant-loop-clafer
invariant-loop-clafer l = named_by l.clafers l.path ≡ find (λ c. bytes_eq l.path (path_of l.clafers c)) (range_with_len l.clafer (length l.clafers - l.clafer))
