-- When a model has relational expressions: each part has a kind that fits its position.
use Rattle.std.specs.Prelude.{◌&&◌, Bool, List, None}
use Rattle.clf_tree.specs.declared.model.Clafer.{Clafer}
use Rattle.clf_tree.specs.Tree.{Tree}
use Rattle.clf_tree.specs.Kinds.{kind}
use Rattle.clf_tree.specs.Typed.{is_typed, fits_truth, fits_number}
use Rattle.clf_tree.specs.Satisfies.{Law}
use Rattle.int_widths.specs.Narrow.{within_context}

module _ (clafers : List Clafer) where
  -- each part of a constraint, or of a goal, has a kind and fits its position
  abbrev pub is_typed_law : Law → Bool
  is_typed_law (context, body) = is_typed clafers body (within_context context) && fits_truth (kind clafers body (within_context context))

  abbrev pub is_typed_goal : Tree → Bool
  is_typed_goal body = is_typed clafers body (within_context None) && fits_number clafers (kind clafers body (within_context None))
