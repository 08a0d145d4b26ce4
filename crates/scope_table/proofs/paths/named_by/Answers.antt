use Rattle.std.proofs.Common.{length, ◌∙◌, sym}
use Rattle.std.specs.Prelude.{bytes_eq}
use Rattle.scope_table.specs.Paths.{path_of}
use Rattle.scope_table.proofs.Firsts.{find_on}
use Rattle.scope_table.proofs.paths.named_by.Goals as goal

pub loop-clafer-preserved : goal.loop-clafer-preserved
loop-clafer-preserved c =
    c.loop-clafer.invariant
    ∙ find_on (λ x. bytes_eq c.args.path.now (path_of c.args.clafers.now x)) c.loop-clafer.clafer (length c.args.clafers.now) c.loop-clafer-test.true (sym c.is_path.ensures ∙ c.if-is_path.false)
