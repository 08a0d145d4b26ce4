-- Groups of forms.
use Rattle.std.specs.Prelude.{Bool, true, false}
use Rattle.clf_tree.specs.Tree as e
use Rattle.clf_tree.specs.Tree.{Tree}

abbrev pub is_connective : Tree → Bool
is_connective (e.Not _ a) = true
is_connective (e.And _ a b) = true
is_connective (e.Or _ a b) = true
is_connective (e.Xor _ a b) = true
is_connective (e.Implies _ a b) = true
is_connective (e.Iff _ a b) = true
is_connective _ = false

abbrev pub is_choice : Tree → Bool
is_choice (e.If _ c a b) = true
is_choice _ = false

abbrev pub is_set_operation : Tree → Bool
is_set_operation (e.Union _ a b) = true
is_set_operation (e.Minus _ a b) = true
is_set_operation (e.Meet _ a b) = true
is_set_operation _ = false

abbrev pub is_arithmetic : Tree → Bool
is_arithmetic (e.Neg _ a) = true
is_arithmetic (e.Add _ a b) = true
is_arithmetic (e.Sub _ a b) = true
is_arithmetic (e.Mul _ a b) = true
is_arithmetic _ = false

abbrev pub is_order : Tree → Bool
is_order (e.Less _ a b) = true
is_order (e.LessEqual _ a b) = true
is_order (e.Greater _ a b) = true
is_order (e.GreaterEqual _ a b) = true
is_order _ = false

abbrev pub is_comparison : Tree → Bool
is_comparison (e.Equal _ a b) = true
is_comparison (e.In _ a b) = true
is_comparison _ = false

abbrev pub is_count : Tree → Bool
is_count (e.Card _ a) = true
is_count (e.Some _ a) = true
is_count (e.No _ a) = true
is_count (e.One _ a) = true
is_count (e.Lone _ a) = true
is_count _ = false

abbrev pub is_quantified : Tree → Bool
is_quantified (e.Quant _ word disj names over body) = true
is_quantified _ = false
