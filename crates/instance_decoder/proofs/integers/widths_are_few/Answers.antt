use Rattle.instance_decoder.proofs.Widths.{width_fits, fits_bounds}
use Rattle.instance_decoder.proofs.integers.widths_are_few.Goals as goal

pub returns : goal.returns
returns c = width_fits (record { low = c.args._low; high = c.args._high }) (fits_bounds c.args._low c.ranges._low).0 (fits_bounds c.args._high c.ranges._high).1
