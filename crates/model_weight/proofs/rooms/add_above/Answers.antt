use Rattle.std.proofs.Common.{◌-◌, ◌+◌, suc, length, get_or, ◌≡◌, ap, sym, ◌∙◌, arith}
use Rattle.clf_tree.specs.Hierarchy.{way_up}
use Rattle.clf_tree.proofs.WaysUp.{super_within, super_of-at}
use Rattle.model_weight.specs.Sums.{added}
use Rattle.model_weight.proofs.Upwards.{one_up, at_top}
use Rattle.model_weight.proofs.rooms.add_above.Goals as goal

pub returns-in-None-clause-added : goal.returns-in-None-clause-added
returns-in-None-clause-added c = λ d.
    let clafers = c.args.clafers.now in
    c.add_to.ensures.value d
    ∙ sym (at_top clafers (length clafers - c.loop-step._step) c.loop-step.current c.args.more d (get_or c.loop-step.sums d 0) (super_of-at clafers c.loop-step.current c.get.result.now c.get.ensures ∙ c.in-None.is))
    ∙ c.loop-step.invariant.left d

pub loop-step-preserved : goal.loop-step-preserved
loop-step-preserved c =
    let clafers = c.args.clafers.now in
    let n = length clafers - (c.loop-step._step + 1) in
    let longer : length clafers - c.loop-step._step ≡ suc n = omega (arith, c.loop-step-test.true) in
    record {
      there = super_within clafers c.loop-step.current c.in-Some.above c.get.result.now c.requires.closed c.get.ensures c.in-Some.is;
      long = c.add_to.ensures.long ∙ c.loop-step.invariant.long;
      left = λ d.
          ap (added (way_up clafers n c.in-Some.above) c.args.more d) (c.add_to.ensures.value d)
          ∙ sym (one_up clafers n c.loop-step.current c.in-Some.above c.args.more d (get_or c.loop-step.sums d 0) (super_of-at clafers c.loop-step.current c.get.result.now c.get.ensures ∙ c.in-Some.is))
          ∙ ap (λ m. added (way_up clafers m c.loop-step.current) c.args.more d (get_or c.loop-step.sums d 0)) (sym longer)
          ∙ c.loop-step.invariant.left d;
    }
