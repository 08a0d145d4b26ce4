use Rattle.instance_decoder.proofs.Worked.{fits_as, shows_as}
use Rattle.instance_decoder.proofs.tests.bits_show_nodes_parents_targets_and_integers.Goals as goal

pub decode-requires-clause-fits : goal.decode-requires-clause-fits
decode-requires-clause-fits g c = fits_as c.in_ok-clafers.clafers c.in_ok-scopes.scopes c.in_ok-layout.layout c.in_ok-clafers.ensures c.in_ok-scopes.ensures c.in_ok-layout.ensures

pub decode-requires-clause-shows : goal.decode-requires-clause-shows
decode-requires-clause-shows g c = shows_as c.in_ok-clafers.clafers c.in_ok-scopes.scopes c.in_ok-layout.layout c.in_ok-clafers.ensures c.in_ok-scopes.ensures c.in_ok-layout.ensures
