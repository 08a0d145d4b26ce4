-- The range of the integers of a model.
use Rattle.std.specs.Prelude.{◌||◌, Bool, not, pos, neg_ℤ, int_lt}
use Rattle.clf_tree.specs.declared.scopes.Scopes.{Scopes}

-- from its low end up, within 16 bits
abbrev pub has_range : Scopes → Bool
has_range scopes = not (int_lt scopes.high scopes.low || int_lt scopes.low (neg_ℤ (pos 32768)) || int_lt (pos 32767) scopes.high)
