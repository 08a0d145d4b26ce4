use Rattle.number_encoder.proofs.Weights.{counts_fit, totals_fit, products_fit, choices_fit, orders_fit, values_fit}
use Rattle.number_encoder.proofs.laws.numbers_stay_within_weights.Goals as goal

pub returns : goal.returns
returns c = record { counts = counts_fit; totals = totals_fit; products = products_fit; choices = choices_fit; orders = orders_fit; values = values_fit }
