use Rattle.instance_decoder.proofs.Worked.{fits_as}
use Rattle.instance_decoder.proofs.tests.bits_of_integers_and_targets_are_decoded_again.Goals as goal

pub pack-requires-clause-fits : goal.pack-requires-clause-fits
pack-requires-clause-fits g c = fits_as c.in_ok-clafers.clafers c.in_ok-scopes.scopes c.in_ok-layout.layout c.in_ok-clafers.ensures c.in_ok-scopes.ensures c.in_ok-layout.ensures

pub decode-requires-clause-fits : goal.decode-requires-clause-fits
decode-requires-clause-fits g c = fits_as c.in_ok-clafers.clafers c.in_ok-scopes.scopes c.in_ok-layout.layout c.in_ok-clafers.ensures c.in_ok-scopes.ensures c.in_ok-layout.ensures
