-- What is refused of a quantifier.
use Rattle.std.proofs.Common.{◌≡◌, List, Bool, Option, refl, ap, sym, ◌∙◌}
use Rattle.clf_base.specs.declared.fault.Span.{Span}
use Rattle.clf_base.specs.declared.fault.Refusal.{Refusal}
use Rattle.clf_tree.specs.declared.token.Title.{Title}
use Rattle.clf_tree.specs.declared.token.Word.{Word}
use Rattle.clf_tree.specs.declared.model.Clafer.{Clafer}
use Rattle.clf_tree.specs.declared.expr.Expr.{Expr, fold_out-Expr}
use Rattle.clf_tree.specs.declared.expr.Form.{Form, fold-Form}
use Rattle.clf_tree.specs.declared.expr.Form.TheOpen as layer
use Rattle.clf_tree.specs.declared.expr.Form.TheFolds.{fold-roll-Form}
use Rattle.clf_tree.specs.declared.expr.Form.TheVariants as form
use Rattle.clf_tree.specs.declared.kind.Kind.{Kind}
use Rattle.clf_tree.specs.Kinds.{kind}
use Rattle.clf_tree.specs.Tree as e
use Rattle.clf_tree.specs.Tree.{Tree, tree, form_tree}
use Rattle.expression_names.specs.declared.scope.Scope.{Scope}
use Rattle.expression_names.specs.LookedUp.{looked_up, refusal, sooner}
use Rattle.expression_names.specs.Scopes.{bind}

quantified_tree : (x : Expr) (word : Word) (disj : Bool) (names : List Title) (over body : Expr) → x.form ≡ form.Quant word disj names over body
    → tree x ≡ e.Quant x.at word disj names (tree over) (tree body)
quantified_tree x word disj names over body is =
    fold_out-Expr (Span → Tree) Tree form_tree (λ d. d.form d.at) x
    ∙ ap (λ (f : Form). fold-Form (Span → Tree) Tree form_tree (λ d. d.form d.at) f x.at) (is ∙ sym (form.rolls-Quant word disj names over body))
    ∙ ap (λ (g : Span → Tree). g x.at) (fold-roll-Form (Span → Tree) Tree form_tree (λ d. d.form d.at) (layer.Quant word disj names over body))

-- what is refused of what is quantified over, or else within, with the variables bound
pub quantified : (clafers : List Clafer) (s inner : Scope) (x : Expr) (word : Word) (disj : Bool) (names : List Title) (over body y z : Expr) (k : Option Kind)
    (first second : Option Refusal) → x.form ≡ form.Quant word disj names over body → y ≡ over → z ≡ body
    → first ≡ refusal clafers (tree y) s → k ≡ kind clafers (looked_up clafers (tree y) s) s.within → inner ≡ bind names k s → second ≡ refusal clafers (tree z) inner
    → sooner first second ≡ refusal clafers (tree x) s
quantified clafers s inner x word disj names over body y z k first second is p q a b i d =
    ap (λ r. sooner r second) (a ∙ ap (λ u. refusal clafers (tree u) s) p)
    ∙ ap (λ r. sooner (refusal clafers (tree over) s) r)
    (d ∙ ap (λ u. refusal clafers (tree u) inner) q ∙ ap (refusal clafers (tree body)) (i ∙ ap (λ o. bind names o s) (b ∙ ap (λ u. kind clafers (looked_up clafers (tree u) s) s.within) p)))
    ∙ ap (λ t. refusal clafers t s) (sym (quantified_tree x word disj names over body is))
