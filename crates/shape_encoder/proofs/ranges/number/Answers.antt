use Rattle.std.proofs.Common.{◌<◌, ◌∙◌, ap, subst, sym}
use Rattle.integer_bits.specs.Numbers.{FitsBits}
use Rattle.clf_tree.specs.Widths.{width}
use Rattle.shape_encoder.proofs.Ranged.{own_fits, passed}
use Rattle.shape_encoder.proofs.ranges.number.Goals as goal

pub constant-requires-clause-some : goal.constant-requires-clause-some
constant-requires-clause-some c = subst (λ n. 0 < n) (sym (c.width-needed.ensures ∙ ap (λ z. width (record { low = z; high = z })) (passed c.args.value c.ranges.value))) (own_fits c.args.value c.ranges.value).0

pub constant-requires-clause-fits : goal.constant-requires-clause-fits
constant-requires-clause-fits c =
    subst (FitsBits c.width-needed.result) (sym (passed c.args.value c.ranges.value))
    (subst (λ n. FitsBits n c.args.value) (sym (c.width-needed.ensures ∙ ap (λ z. width (record { low = z; high = z })) (passed c.args.value c.ranges.value))) (own_fits c.args.value c.ranges.value).1)

pub returns-clause-number : goal.returns-clause-number
returns-clause-number c =
    let needed = c.width-needed.ensures ∙ ap (λ z. width (record { low = z; high = z })) (passed c.args.value c.ranges.value) in
    record {
      wires = c.in_ok-wires.ensures.wires;
      some = subst (λ n. 0 < n) (sym (c.in_ok-wires.ensures.width ∙ needed)) (own_fits c.args.value c.ranges.value).0;
      width = c.in_ok-wires.ensures.width ∙ needed;
      value = λ bits. c.in_ok-wires.ensures.value bits ∙ passed c.args.value c.ranges.value;
    }
