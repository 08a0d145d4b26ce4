use Rattle.shown_instance.proofs.Alone.{shown_once}
use Rattle.shown_instance.proofs.laws.one_list_of_bits_shows.Goals as goal

pub returns : goal.returns
returns c = shown_once
