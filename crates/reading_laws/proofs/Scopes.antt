-- The scopes of a model are the one solution of their equation.
use Rattle.std.proofs.Common.{◌≡◌, ◌↔◌, ℕ, length, ap, sym, subst, ◌∙◌}
use Rattle.std.proofs.Math.Path.{fun_ext}
use Rattle.std.specs.Prelude.{map}
use Rattle.clf_tree.specs.declared.model.Model.{Model}
use Rattle.clf_tree.specs.declared.scopes.Given.{Given}
use Rattle.clf_tree.specs.declared.scopes.Scopes.{Scopes}
use Rattle.clf_tree.specs.Lists.{numbers_below}
use Rattle.clf_tree.specs.Named.{IsNamed}
use Rattle.scope_laws.proofs.Solutions.{solved, alone}
use Rattle.scope_laws.specs.Equation.{Solves}
use Rattle.scope_table.specs.Largest.{scope}
use Rattle.scope_table.specs.Refusals.{AreScopes}

pub one_solution : (model : Model) → IsNamed model → (given : Given) (of : ℕ → ℕ) → Solves model.clafers given of ↔
    ((c : ℕ) → of c ≡ scope model.clafers given c)
one_solution model named given of = (
  λ solves. alone model.clafers given named.contains_no_cycle of solves,
  λ same. subst (Solves model.clafers given) (sym (fun_ext same)) (solved model.clafers given named.contains_no_cycle),
)

pub told_scopes : (model : Model) → IsNamed model → (given : Given) (scopes : Scopes) → AreScopes model.clafers given scopes
    → (of : ℕ → ℕ) → Solves model.clafers given of → scopes.of ≡ map of (numbers_below (length model.clafers))
told_scopes model named given scopes are of solves =
    are.of ∙ sym (ap (λ (f : ℕ → ℕ). map f (numbers_below (length model.clafers)))
    (fun_ext (alone model.clafers given named.contains_no_cycle of solves)))
