use Rattle.std.proofs.Common.{◌≡◌, drop, length}
use Rattle.clafer_desugar.specs.PlainModel.{with_rules}
use Rattle.clafer_desugar.proofs.walk.with_rules.Given as goal

-- what is left leads to the same
abbrev pub invariant-loop-body : goal.invariant-loop-body
invariant-loop-body l = record {
  all : with_rules l.context (drop l.body-index l.bodies) l.plain ≡ with_rules l.context l.bodies l.initial.plain;
  counted : length l.plain.clafers ≡ length l.initial.plain.clafers;
}
