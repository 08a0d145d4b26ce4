use Rattle.instance_decoder.proofs.Widths.{width_holds}
use Rattle.instance_decoder.proofs.integers.widths_suffice.Goals as goal

pub returns : goal.returns
returns c =
    let w = width_holds c.args._low c.args._high c.ranges._low c.ranges._high in
    record { some = w.0; fits = w.1 }
