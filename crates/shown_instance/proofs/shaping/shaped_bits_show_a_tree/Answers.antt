use Rattle.shown_instance.proofs.Joined.{shaped_shows, shows_shaped}
use Rattle.shown_instance.proofs.shaping.shaped_bits_show_a_tree.Goals as goal

pub returns : goal.returns
returns c = λ clafers scopes layout bits f empty acyclic sized. (shaped_shows clafers scopes layout bits f empty acyclic sized, shows_shaped clafers scopes layout bits f empty acyclic)
