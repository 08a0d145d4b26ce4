use Rattle.std.proofs.Common.{◌<◌, length, ◌∷◌, ◌++◌, [], ap, ◌∙◌, true}
use Rattle.clause_store.specs.Store.{Store}
use Rattle.clause_store.proofs.Bounds.{pushed_to}
use Rattle.clause_store.proofs.store.Clauses.push.Goals as goal

pub invariant_of-self-2 : goal.invariant_of-self-2
invariant_of-self-2 c =
    let says = c.variables_of-variables.ensures in
    let old = c.self.inside in
    let room : length old.clauses.items < 2147483647 = rw (ap (λ (s : Store). s.clauses) c.self.view_is) c.requires in
    pushed_to old.clauses.items old.live.items old.variables c.variables_of-variables.result c.args.clause c.literals.result.now true _ _ _ c.self.invariant room says.above says.least says.few c.literals.ensures.value c.in_ok-push.ensures.items (c.in_ok-push-2.ensures.items ∙ ap (λ xs. xs ++ true ∷ []) c.reserve.ensures.items) c.max-self-inside.ensures
