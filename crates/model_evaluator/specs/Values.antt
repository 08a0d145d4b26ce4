-- What the values that the code computes stand for.
use Rattle.clf_tree.specs.Meaning as meaning
use Rattle.model_evaluator.specs.declared.value.Value.{Value}
use Rattle.model_evaluator.specs.declared.value.Value.TheVariants as computed

abbrev pub meant : Value → meaning.Value
meant (computed.Truth b) = meaning.Truth b
meant (computed.Integer z) = meaning.Integer z
meant (computed.Nodes ns) = meaning.Nodes ns
