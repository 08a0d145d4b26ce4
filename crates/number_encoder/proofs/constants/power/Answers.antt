use Rattle.number_encoder.proofs.Ranges.{power_is}
use Rattle.number_encoder.proofs.constants.power.Goals as goal

pub returns : goal.returns
returns c = power_is c.args.exponent c.requires
