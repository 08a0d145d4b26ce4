-- What is known of a part of an expression.
use Rattle.std.specs.Prelude.{List}
use Rattle.clf_tree.specs.declared.model.Clafer.{Clafer}
use Rattle.clf_tree.specs.declared.kind.Within.{Within}
use Rattle.clf_tree.specs.Tree.{Tree}
use Rattle.clf_tree.specs.Kinds.{kind}
use Rattle.clf_tree.specs.Numerics.{place}
use Rattle.type_checker.specs.declared.part.Part.{Part}
use Rattle.type_checker.specs.Refusals.{refusal}

-- its place, its kind and the first refusal in it
abbrev pub part_of : List Clafer → Tree → Within → Part
part_of clafers t w = record { at = place t; kind = kind clafers t w; refused = refusal clafers t w }
