use Rattle.std.proofs.Common.{◌≡◌, ◌+◌, drop, length}
use Rattle.clafer_desugar.specs.PlainModel.{with_members}
use Rattle.clafer_desugar.proofs.walk.with_members.Given as goal

-- what is left leads to the same
abbrev pub invariant-loop-title : goal.invariant-loop-title
invariant-loop-title l = record {
  all : with_members l.above (drop l.title-index l.titles) l.plain ≡ with_members l.above l.titles l.initial.plain;
  counted : length l.plain.clafers ≡ length l.initial.plain.clafers + l.title-index;
}
