use Rattle.std.proofs.Common.{◌≡◌, All, length, true, arith, ap, ◌∙◌, subst}
use Rattle.clause_store.specs.Literals.{HasVariablesBelow}
use Rattle.clause_store.specs.Satisfaction.{SatisfiesAll}
use Rattle.cdcl_search.specs.Progress.{Progress, assignment_of}
use Rattle.cdcl_search.proofs.Progress_steps.{AreValues, all_satisfied, given_within}
use Rattle.cdcl_search.proofs.search.Search.assignment.Goals as goal

pub returns : goal.returns
returns c =
    let s = c.self.inside.engine in
    let found : c.self.inside.is_satisfied ≡ true = ap (λ (p : Progress). p.is_satisfied) c.self.view_is ∙ c.requires in
    let all : c.loop-variable.variable ≡ length s.trail.literals.items = omega (arith, c.loop-variable-test.false, c.len-variables.ensures, c.loop-variable.auto.variable-end) in
    let values : AreValues s.trail.values.items (length s.trail.literals.items) c.from_vec.result = rw c.from_vec.ensures (subst (λ n. AreValues s.trail.values.items n c.loop-variable.values.items) all c.loop-variable.invariant) in
    record {
      satisfies = subst (λ (p : Progress). SatisfiesAll (assignment_of c.from_vec.result) p.given) c.self.view_is (all_satisfied s c.from_vec.result c.self.invariant.whole (c.self.invariant.satisfied found) values);
      all = subst (λ (p : Progress). All (HasVariablesBelow (length c.from_vec.result)) p.given) c.self.view_is (given_within s (length c.from_vec.result) c.self.invariant.whole values.as_many);
    }
