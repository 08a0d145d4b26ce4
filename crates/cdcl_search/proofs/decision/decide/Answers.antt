use Rattle.std.proofs.Common.{length, ◌∙◌, ap}
use Rattle.cdcl_search.proofs.Trail_steps.{zeros-with_true, opposite_open}
use Rattle.cdcl_search.proofs.State_steps.{chosen_state}
use Rattle.cdcl_search.proofs.Add_steps.{watching_chosen}
use Rattle.cdcl_search.proofs.decision.decide.Goals as goal

pub returns-clause-state : goal.returns-clause-state
returns-clause-state c =
    chosen_state c.args.arena.now c.args.trail.now c.assign.new.self c.args.literal c.requires.state c.requires.quiet c.requires.is_open c.requires.within
    c.assign.ensures.values c.assign.ensures.places c.assign.ensures.reasons c.assign.ensures.literals c.assign.ensures.count
    (ap (λ x. x.items) c.assign.ensures.limits ∙ c.in_ok-push.ensures.items)

pub returns-clause-further : goal.returns-clause-further
returns-clause-further c = rw c.assign.ensures.values (zeros-with_true c.args.trail.now.values.items c.args.literal (length c.args.trail.now.literals.items) c.requires.state.search.trail.values_len c.requires.within c.requires.is_open (opposite_open _ _ _ _ c.args.literal c.requires.state.search.trail c.requires.is_open))

pub returns-clause-watching : goal.returns-clause-watching
returns-clause-watching c =
    watching_chosen c.args.arena.now c.args.trail.now c.assign.new.self c.args.watches.now c.args.literal c.requires.state c.requires.watching c.requires.done c.requires.is_open c.requires.within
    c.assign.ensures.values c.assign.ensures.places c.assign.ensures.literals c.assign.ensures.count
    (ap (λ x. x.items) c.assign.ensures.limits ∙ c.in_ok-push.ensures.items)
