use Rattle.std.proofs.Common.{◌&&◌, length, sym, ◌∙◌, arith}
use Rattle.clf_tree.specs.Hierarchy.{is_one_of}
use Rattle.clf_tree.proofs.Numbers.{any-some}
use Rattle.clf_tree.proofs.references.share.Goals as goal

pub returns-then-is_common : goal.returns-then-is_common
returns-then-is_common c =
    let clafers = c.args.clafers.now in
    sym (any-some (λ d. is_one_of clafers c.args.ks.now d && is_one_of clafers c.args.ls.now d) (length clafers) c.loop-c.c (omega (arith, c.len-c-end.ensures)) (sym c.is_common.ensures ∙ c.if-is_common.true))
