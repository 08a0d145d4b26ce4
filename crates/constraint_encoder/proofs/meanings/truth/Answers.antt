-- The wire is true exactly where the truth is.
use Rattle.std.proofs.Common.{◌∙◌, subst}
use Rattle.std.specs.Prelude.{IsTrue}
use Rattle.clf_tree.specs.Core.{core}
use Rattle.told_constraints.specs.Formed.{is_formed}
use Rattle.told_constraints.specs.Standing.{clafers_at}
use Rattle.constraint_encoder.proofs.Shown.{as_many_clafers, live_slots_stand}
use Rattle.constraint_encoder.proofs.meanings.truth.Goals as goal

pub encode_truth-requires-clause-formed : goal.encode_truth-requires-clause-formed
encode_truth-requires-clause-formed c =
    let layout = c.args.ground.now.layout.now in
    subst (λ n. IsTrue (is_formed (core c.args.expr.now) n)) (as_many_clafers layout c.args.bound.now)
    (c.sound_expressions_are_formed.ensures c.args.ground.now.core.now.clafers c.args.ground.now.scopes.now
    (core c.args.expr.now) (clafers_at layout c.args.bound.now) c.requires.sound)

pub returns-clause-value : goal.returns-clause-value
returns-clause-value c = λ bits s.
    let layout = c.args.ground.now.layout.now in
    c.in_ok-wire.ensures.truth.value bits
    ∙ c.bits_tell_the_meaning.ensures.truths c.args.ground.now.core.now.clafers c.args.ground.now.scopes.now layout
    bits (core c.args.expr.now) (clafers_at layout c.args.bound.now) c.args.bound.now c.args.ground.now.fits
    c.requires.empty s.shaped c.requires.sound (live_slots_stand layout bits c.args.bound.now s.live)
    c.requires.truth
