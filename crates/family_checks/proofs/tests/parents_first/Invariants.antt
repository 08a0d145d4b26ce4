use Rattle.std.proofs.Common.{◌≡◌, true, drop}
use Rattle.super_linker.specs.Supers.{parents_first}
use Rattle.family_checks.proofs.tests.parents_first.Given as goal

-- what is left decides
abbrev pub invariant-loop-number : goal.invariant-loop-number
invariant-loop-number l = parents_first l.number (drop l.number l.clafers) ≡ true → parents_first 0 l.clafers ≡ true
