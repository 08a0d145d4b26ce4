use Rattle.std.proofs.Common.{refl, ◌≡◌, true}
use Rattle.std.specs.Prelude.{not}
use Rattle.std.specs.List.{list_all}
use Rattle.instance_decoder.proofs.Adding.{none_added, false_more}
use Rattle.instance_decoder.proofs.numbers.push_false.Goals as goal

pub loop-at-init : goal.loop-at-init
loop-at-init c = none_added (λ bs. list_all not bs ≡ true) c.args.bits.now c.args.bits.now refl refl

pub loop-at-preserved : goal.loop-at-preserved
loop-at-preserved c = false_more c.args.bits.now c.loop-at.bits c.push.new.self c.loop-at._at c.loop-at.invariant c.in_ok-push.ensures.ok
