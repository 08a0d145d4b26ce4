use Rattle.std.proofs.Common.{sym, ◌∙◌}
use Rattle.super_linker.proofs.Linked.{super_in}
use Rattle.super_linker.proofs.cycles.inherits_itself.Goals as goal

pub is_a-requires-clause-low_in : goal.is_a-requires-clause-low_in
is_a-requires-clause-low_in c = super_in c.args.clafers.now c.args.clafer c.in-Some.above c.requires.closed (sym c.super_of.ensures ∙ c.in-Some.is)
