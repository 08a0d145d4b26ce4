use Rattle.std.proofs.Common.{arith}
use Rattle.std.proofs.lemmas.Grind.{common_steps}
use Rattle.instance_text.proofs.Rising.{all_before, risen}
use Rattle.instance_text.proofs.entries.instance_of.Goals as goal

pub add-requires : goal.add-requires
add-requires c = all_before c.loop-entry.last _ c.loop-entry.instance.entries (grind (arith, common_steps, c.rises.ensures, c.if-not-rises.false)) c.loop-entry.invariant.1

pub loop-entry-preserved : goal.loop-entry-preserved
loop-entry-preserved c =
    risen c.args.entries.now c.loop-entry.instance.entries c.add.new.self.entries c.loop-entry.last c.loop-entry.entry-index _ c.loop-entry-test.true c.loop-entry.invariant
    (grind (arith, common_steps, c.rises.ensures, c.if-not-rises.false)) c.in_ok-add.ensures.ok
