use Rattle.integer_bits.proofs.Congruent.{integer_fits}
use Rattle.integer_bits.proofs.Resizing.{fits_wider}
use Rattle.integer_bits.proofs.Cutting.{cut_of_fitting, cut_of_bits, length_spelled, spelling_of_fitting, cut_of_wider, cut_fits, cut_of_cut}
use Rattle.integer_bits.proofs.laws.what_fits_is_kept.Goals as goal

pub returns-clause-fits : goal.returns-clause-fits
returns-clause-fits c = cut_of_fitting

pub returns-clause-bits : goal.returns-clause-bits
returns-clause-bits c = cut_of_bits

pub returns-clause-size : goal.returns-clause-size
returns-clause-size c = length_spelled

pub returns-clause-spells : goal.returns-clause-spells
returns-clause-spells c = spelling_of_fitting

pub returns-clause-bits_fit : goal.returns-clause-bits_fit
returns-clause-bits_fit c = integer_fits

pub returns-clause-wider : goal.returns-clause-wider
returns-clause-wider c = fits_wider

pub returns-clause-wider_cut : goal.returns-clause-wider_cut
returns-clause-wider_cut c = cut_of_wider

pub returns-clause-cut_fits : goal.returns-clause-cut_fits
returns-clause-cut_fits c = cut_fits

pub returns-clause-cut_again : goal.returns-clause-cut_again
returns-clause-cut_again c = cut_of_cut
