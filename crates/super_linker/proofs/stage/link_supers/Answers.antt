use Rattle.std.proofs.Common.{sym, ◌∙◌}
use Rattle.super_linker.proofs.Linked.{known_at}
use Rattle.super_linker.proofs.stage.link_supers.Goals as goal

pub returns-in-None-clause-known : goal.returns-in-None-clause-known
returns-in-None-clause-known c = known_at c.args.clafers.now c.in_ok-made.made c.in_ok-made.ensures c.requires.parents (sym c.in_ok-refusal.ensures ∙ c.in-None.is)
