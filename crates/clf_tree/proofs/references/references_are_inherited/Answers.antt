use Rattle.clf_tree.proofs.IsALaw.{closure_from_is_a}
use Rattle.clf_tree.proofs.SingleReference.{same_reference}
use Rattle.clf_tree.proofs.IntervalsHold.{single}
use Rattle.clf_tree.proofs.references.references_are_inherited.Goals as goal

pub returns : goal.returns
returns c = λ clafers low high own above closed once up here there. same_reference clafers low high own above (single clafers closed once) (closure_from_is_a clafers low high up) here there
