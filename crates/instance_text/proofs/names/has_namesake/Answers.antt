use Rattle.std.proofs.Common.{◌==◌, ◌&&◌, not, bytes_eq, length, sym}
use Rattle.instance_text.specs.Names.{name_of}
use Rattle.instance_text.proofs.Namesakes.{any-some, passes}
use Rattle.instance_text.proofs.names.has_namesake.Goals as goal

pub returns-then-eq : goal.returns-then-eq
returns-then-eq c =
    let clafers = c.args.clafers.now in
    sym (any-some (λ d. not (d == c.args.clafer) && bytes_eq (name_of clafers d) (name_of clafers c.args.clafer)) (length clafers) c.loop-other.other c.loop-other-test.true
    (passes c.loop-other.other c.args.clafer c.name_of.result.now c.name_of-then-other-clafer.result.now (name_of clafers c.loop-other.other) (name_of clafers c.args.clafer)
    c.if-other-clafer.true c.name_of.ensures c.name_of-then-other-clafer.ensures (cc)))
