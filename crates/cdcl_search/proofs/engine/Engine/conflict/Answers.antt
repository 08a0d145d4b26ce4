use Rattle.std.proofs.Common.{refl, sym, ◌∙◌, inl, inr}
use Rattle.std.proofs.lemmas.Bool.{false≢true}
use Rattle.cdcl_search.proofs.Run_steps.{taught_whole, refuted_whole}
use Rattle.cdcl_search.proofs.engine.Engine.conflict.Goals as goal

pub returns-then-depth-eq0-clause-whole : goal.returns-then-depth-eq0-clause-whole
returns-then-depth-eq0-clause-whole c = refuted_whole c.args.self.now _ c.requires.whole c.in_ok-refute.ensures.state c.in_ok-refute.ensures.watching (c.in_ok-refute.ensures.marks ∙ c.requires.whole.marks) (λ e. absurd (false≢true e)) refl c.in_ok-refute.ensures.refuted

pub restart_if_due-requires : goal.restart_if_due-requires
restart_if_due-requires c = record { whole = taught_whole c.args.self.now _ c.requires.whole c.in_ok-teach.ensures.state c.in_ok-teach.ensures.watching (c.in_ok-teach.ensures.marks ∙ c.in_ok-shorten.ensures.size ∙ c.in_ok-top.ensures.size ∙ c.requires.whole.marks ∙ sym c.in_ok-teach.ensures.size) (λ _. c.in_ok-teach.ensures.clear) refl c.in_ok-teach.ensures.taught }

pub returns-clause-done : goal.returns-clause-done
returns-clause-done c =
    let same = c.in_ok-restart_if_due.ensures.same in
    rw (same.same_store, same.same_chains) c.in_ok-teach.ensures.taught

pub returns-clause-step : goal.returns-clause-step
returns-clause-step c =
    let same = c.in_ok-restart_if_due.ensures.same in
    inr (inl (rw (same.same_store, same.same_chains) c.in_ok-teach.ensures.taught))

pub returns-in_err-restart_if_due-clause-step : goal.returns-in_err-restart_if_due-clause-step
returns-in_err-restart_if_due-clause-step c =
    let same = c.in_err-restart_if_due.ensures.same in
    inr (inl (rw (same.same_store, same.same_chains) c.in_ok-teach.ensures.taught))
