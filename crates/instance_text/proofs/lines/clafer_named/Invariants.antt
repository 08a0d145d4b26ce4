use Rattle.std.proofs.Common.{◌≡◌, drop}
use Rattle.instance_text.specs.Reading.{clafer_from}
use Rattle.instance_text.proofs.lines.clafer_named.Given as goal

-- the clafers that are left lead to the one that is shown so
abbrev pub invariant-loop-clafer : goal.invariant-loop-clafer
invariant-loop-clafer l = clafer_from l.clafer (drop l.clafer l.names) l.name ≡ clafer_from 0 l.names l.name
