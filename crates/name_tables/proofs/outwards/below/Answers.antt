use Rattle.std.proofs.Common.{ap, sym, not, ◌∙◌}
use Rattle.name_tables.proofs.Finding.{below_none, below_several, below_one, no_only, some_only}
use Rattle.name_tables.proofs.outwards.below.Goals as goal

pub returns-in_default : goal.returns-in_default
returns-in_default c = λ name is. below_none c.args.clafers.now c.args.entry.now c.args.clafer (sym c.label_below.ensures ∙ c.in_default.is) name is

pub returns-then-is_none : goal.returns-then-is_none
returns-then-is_none c = λ name is.
    below_several c.args.clafers.now c.args.entry.now c.args.clafer c.args.out c.in-Some.label (sym c.label_below.ensures ∙ c.in-Some.is)
    (no_only c.in-Some.label.only (c.is_none.ensures ∙ ap not c.if-is_none.true)) name is

pub returns : goal.returns
returns c = λ name is.
    below_one c.args.clafers.now c.args.entry.now c.args.clafer c.args.out c.in-Some.label c.in_ok-way.way (sym c.label_below.ensures ∙ c.in-Some.is)
    (some_only c.in-Some.label.only (c.is_none.ensures ∙ ap not c.if-is_none.false)) c.in_ok-way.ensures name is
