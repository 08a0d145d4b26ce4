use Rattle.std.proofs.Common.{◌≡◌, map, take}
use Rattle.super_linker.specs.Supers.{linked_clafer}
use Rattle.super_linker.proofs.linking.with_supers.Given as goal

abbrev pub invariant-loop-number : goal.invariant-loop-number
invariant-loop-number l = l.made ≡ map (linked_clafer l.clafers) (take l.number l.clafers)
