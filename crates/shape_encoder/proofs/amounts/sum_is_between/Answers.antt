use Rattle.std.proofs.Common.{◌+◌, ◌*◌, ◌∙◌, length}
use Rattle.shape_encoder.proofs.Allowing.{sum_told, passed_small}
use Rattle.shape_encoder.proofs.amounts.sum_is_between.Goals as goal

pub returns-clause-value : goal.returns-clause-value
returns-clause-value c =
    sum_told c.args.circuit.now c.count.new.circuit c.constant.new.circuit c.constant-2.new.circuit c.is_between.new.circuit c.args.wires.now c.in_ok-total.total c.in_ok-least.least c.in_ok-most.most c.args.low c.args.high (32 * ((length c.args.wires.now + 1) * (11 + 1))) 2 2 c.in_ok-right.right
    c.requires.wires_in c.requires.few c.in_ok-total.ensures.wires c.in_ok-least.ensures.wires c.in_ok-least.ensures.extends c.in_ok-most.ensures.extends c.in_ok-total.ensures.value (λ bits. c.in_ok-least.ensures.value bits ∙ passed_small c.args.low c.requires.low_few) (λ bits. c.in_ok-most.ensures.value bits ∙ passed_small c.args.high c.requires.high_few) c.in_ok-right.ensures.value
