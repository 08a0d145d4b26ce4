use Rattle.std.proofs.Common.{ap, ◌∙◌}
use Rattle.std.specs.List.{list_all}
use Rattle.clf_tree.specs.Tree.{tree}
use Rattle.model_evaluator.specs.Computed.{computed_holds}
use Rattle.clf_tree.specs.Satisfies.{laws_of}
use Rattle.int_widths.specs.Narrow.{is_narrow_law, is_narrow_goal}
use Rattle.model_evaluator.proofs.BooleanTests.{and_parts}
use Rattle.model_evaluator.proofs.Exact.{rules_same}
use Rattle.model_evaluator.proofs.evaluator.laws_hold.Goals as goal

pub returns : goal.returns
returns c =
    let m = c.args.model.now in
    let xs = c.args.tables.now.entries in
    c.in_ok-all.ensures
    ∙ ap (list_all (λ r. computed_holds c.model-plan.result.now.clafers xs (r.context, tree r.body))) c.as_slice.ensures
    ∙ ap (λ p. list_all (λ r. computed_holds p.clafers xs (r.context, tree r.body)) p.rules) c.model-plan.ensures.same
    ∙ rules_same m.clafers c.args.scopes.now xs
    (record {
      closed = c.model-plan.ensures.known.closed;
      once = c.model-plan.ensures.known.refers;
      ordered = c.args.tables.now.ordered;
      within = c.requires.within;
      trees = c.requires.trees;
      shape = c.requires.shape;
      kinds_law = c.kinds_hold.ensures;
      intervals_law = c.intervals_hold.ensures;
    })
    m.rules c.model-plan.ensures.typed.rules
    (and_parts (list_all (is_narrow_law m.clafers c.args.scopes.now) (laws_of m)) (list_all (λ g. is_narrow_goal m.clafers c.args.scopes.now (tree g.body)) m.goals) c.requires.narrow).0
