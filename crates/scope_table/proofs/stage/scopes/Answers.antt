use Rattle.std.proofs.Common.{rules, ◌≡◌, ◌≤◌, [], length, get_or, sum, None, ap, sym, subst, ◌∙◌}
use Rattle.std.specs.Prelude.{slice_get}
use Rattle.std.specs.List.{flat_map}
use Rattle.clf_tree.specs.declared.model.Model.{Model}
use Rattle.clf_tree.specs.Lists.{numbers_below}
use Rattle.scope_table.specs.Paths.{given_to}
use Rattle.scope_table.specs.Largest.{scope, told}
use Rattle.scope_table.specs.Refusals.{given_refusals, large_refusals, sum_refusals, all_scopes, refusals}
use Rattle.scope_table.specs.Steps.{IsGiven, AreLargest}
use Rattle.scope_table.proofs.Lists.{told_few, of_exact, none_refused}
use Rattle.scope_table.specs.Fitting.{Fit}
use Rattle.scope_table.proofs.Firsts.{none_here}
use Rattle.scope_table.proofs.Small.{they_fit}
use Rattle.scope_table.proofs.stage.scopes.Goals as goal

pub narrowed-requires : goal.narrowed-requires
narrowed-requires c =
    let clafers = c.model.result.now.clafers in
    let given = c.args.given.now in
    let of = c.in_ok-of.of.items in
    let sum_none : sum_refusals clafers given ≡ [] =
    sym (c.in_default-sum_refusal.ensures clafers given (ap length c.as_slice-7.ensures.value ∙ c.in_ok-of.ensures.long) (λ x. ap (λ xs. get_or xs x 0) c.as_slice-7.ensures.value ∙ c.in_ok-of.ensures.scopes x)) in
    record { few = subst (λ xs. told (sum xs) ≤ 2048) (sym c.as_slice-8.ensures.value) (told_few clafers given of c.in_ok-of.ensures.long c.in_ok-of.ensures.scopes sum_none) }

pub returns-clause-accepted : goal.returns-clause-accepted
returns-clause-accepted c =
    let clafers = c.model.result.now.clafers in
    let given = c.args.given.now in
    let of = c.in_ok-of.of.items in
    let sum_none : sum_refusals clafers given ≡ [] =
    sym (c.in_default-sum_refusal.ensures clafers given (ap length c.as_slice-7.ensures.value ∙ c.in_ok-of.ensures.long) (λ x. ap (λ xs. get_or xs x 0) c.as_slice-7.ensures.value ∙ c.in_ok-of.ensures.scopes x)) in
    let fine : given_refusals clafers [] given.scopes ≡ [] =
    ap (λ ks. given_refusals ks [] given.scopes) (sym c.as_slice.ensures)
    ∙ ap (given_refusals c.as_slice.result.now []) (sym c.as_slice-2.ensures)
    ∙ c.in_ok-table.ensures.accepted in
    let known : IsGiven clafers given.scopes c.in_ok-table.table.items = λ x.
    c.in_ok-table.ensures.table x
    ∙ ap (λ ks. given_to ks c.as_slice-2.result.now x) c.as_slice.ensures
    ∙ ap (λ gs. given_to clafers gs x) c.as_slice-2.ensures in
    let known_here : IsGiven c.as_slice-4.result.now given.scopes c.as_slice-5.result.now = λ x.
    ap (λ t. get_or t x None) c.as_slice-5.ensures.value ∙ known x ∙ ap (λ ks. given_to ks given.scopes x) (sym c.as_slice-4.ensures) in
    let are_here : AreLargest c.as_slice-4.result.now given c.as_slice-6.result.now = λ x.
    ap (λ xs. get_or xs x 0) c.as_slice-6.ensures.value ∙ c.in_ok-of.ensures.scopes x ∙ ap (λ ks. told (scope ks given x)) (sym c.as_slice-4.ensures) in
    let small : slice_get (flat_map (large_refusals clafers given) (numbers_below (length clafers))) 0 ≡ None =
    ap (λ ks. slice_get (flat_map (large_refusals ks given) (numbers_below (length ks))) 0) (sym c.as_slice-4.ensures) ∙ c.in_default-large_refusal.ensures given known_here are_here in
    ap (λ (m : Model). refusals m.clafers given) (sym c.model.ensures.same) ∙ none_refused clafers given (sym c.in_default.ensures) fine small sum_none

pub returns-clause-scopes : goal.returns-clause-scopes
returns-clause-scopes c =
    let clafers = c.model.result.now.clafers in
    let given = c.args.given.now in
    let of = c.in_ok-of.of.items in
    let sum_none : sum_refusals clafers given ≡ [] =
    sym (c.in_default-sum_refusal.ensures clafers given (ap length c.as_slice-7.ensures.value ∙ c.in_ok-of.ensures.long) (λ x. ap (λ xs. get_or xs x 0) c.as_slice-7.ensures.value ∙ c.in_ok-of.ensures.scopes x)) in
    record {
      of = c.in_ok-of-2.ensures ∙ c.as_slice-8.ensures.value ∙ of_exact clafers given of c.in_ok-of.ensures.long c.in_ok-of.ensures.scopes sum_none ∙ ap (λ (m : Model). all_scopes m.clafers given) c.model.ensures.same;
      low = search rules;
      high = search rules;
    }

pub returns-clause-fit : goal.returns-clause-fit
returns-clause-fit c =
    let clafers = c.model.result.now.clafers in
    let given = c.args.given.now in
    let of = c.in_ok-of.of.items in
    let sum_none : sum_refusals clafers given ≡ [] =
    sym (c.in_default-sum_refusal.ensures clafers given (ap length c.as_slice-7.ensures.value ∙ c.in_ok-of.ensures.long) (λ x. ap (λ xs. get_or xs x 0) c.as_slice-7.ensures.value ∙ c.in_ok-of.ensures.scopes x)) in
    let fine : given_refusals clafers [] given.scopes ≡ [] =
    ap (λ ks. given_refusals ks [] given.scopes) (sym c.as_slice.ensures)
    ∙ ap (given_refusals c.as_slice.result.now []) (sym c.as_slice-2.ensures)
    ∙ c.in_ok-table.ensures.accepted in
    let known : IsGiven clafers given.scopes c.in_ok-table.table.items = λ x.
    c.in_ok-table.ensures.table x
    ∙ ap (λ ks. given_to ks c.as_slice-2.result.now x) c.as_slice.ensures
    ∙ ap (λ gs. given_to clafers gs x) c.as_slice-2.ensures in
    let known_here : IsGiven c.as_slice-4.result.now given.scopes c.as_slice-5.result.now = λ x.
    ap (λ t. get_or t x None) c.as_slice-5.ensures.value ∙ known x ∙ ap (λ ks. given_to ks given.scopes x) (sym c.as_slice-4.ensures) in
    let are_here : AreLargest c.as_slice-4.result.now given c.as_slice-6.result.now = λ x.
    ap (λ xs. get_or xs x 0) c.as_slice-6.ensures.value ∙ c.in_ok-of.ensures.scopes x ∙ ap (λ ks. told (scope ks given x)) (sym c.as_slice-4.ensures) in
    let small : slice_get (flat_map (large_refusals clafers given) (numbers_below (length clafers))) 0 ≡ None =
    ap (λ ks. slice_get (flat_map (large_refusals ks given) (numbers_below (length ks))) 0) (sym c.as_slice-4.ensures) ∙ c.in_default-large_refusal.ensures given known_here are_here in
    subst (λ (m : Model). Fit m.clafers c.in_ok-of-2.of) c.model.ensures.same
    (they_fit clafers given of c.in_ok-of-2.of c.in_ok-of.ensures.long c.in_ok-of.ensures.scopes fine (none_here (flat_map (large_refusals clafers given) (numbers_below (length clafers))) small) sum_none (c.in_ok-of-2.ensures ∙ c.as_slice-8.ensures.value))
