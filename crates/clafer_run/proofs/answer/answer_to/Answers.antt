-- The outcome of a text is that of what it is read as, or that of its first refusal.
use Rattle.std.proofs.Common.{rules, ◌≡◌}
use Rattle.clf_base.specs.declared.fault.Fault.TheVariants as fault
use Rattle.clafer_run.specs.Model.{ModelOutcome, TextReading}
use Rattle.clafer_run.proofs.answer.answer_to.Goals as goal

pub returns-in_ok-reply-in-Ok-clause-outcome : goal.returns-in_ok-reply-in-Ok-clause-outcome
unfolding ModelOutcome
returns-in_ok-reply-in-Ok-clause-outcome g c =
    TextReading.read c.in-Ok.read (rw c.in-Ok.is at c.read_model.ensures.read) c.in_ok-reply-in-Ok.ensures.outcome

pub returns-in_ok-reply-in-Err-Refused-clause-outcome :
    goal.returns-in_ok-reply-in-Err-Refused-clause-outcome
unfolding ModelOutcome
returns-in_ok-reply-in-Err-Refused-clause-outcome g c =
    let is : c.in-Err-Refused.field-0 ≡ fault.Refused c.in-Err-Refused.refusal = search rules in
    TextReading.refused c.in-Err-Refused.refusal (rw is at (rw c.in-Err-Refused.is at c.read_model.ensures.refused))
    c.in_ok-reply-in-Err-Refused.ensures.told
