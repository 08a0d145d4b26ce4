-- The trees of expressions that are built of their parts.
use Rattle.std.proofs.Common.{◌≡◌, ℕ, Bool, List, ap, sym, ◌∙◌}
use Rattle.clf_base.specs.declared.fault.Span.{Span}
use Rattle.clf_tree.specs.declared.token.Title.{Title}
use Rattle.clf_tree.specs.declared.token.Word.{Word}
use Rattle.clf_tree.specs.declared.expr.Expr.{Expr, fold-roll-Expr}
use Rattle.clf_tree.specs.declared.expr.Form.{Form, roll-Form, map-Form, fold-Form}
use Rattle.clf_tree.specs.declared.expr.Form.TheOpen as layer
use Rattle.clf_tree.specs.declared.expr.Form.TheOpen.{Form-F}
use Rattle.clf_tree.specs.declared.expr.Form.TheFolds.{fold-roll-Form}
use Rattle.clf_tree.specs.declared.expr.Form.TheVariants as form
use Rattle.clf_tree.specs.Tree as e
use Rattle.clf_tree.specs.Tree.{Tree, tree, form_tree}
use Rattle.clafer_grammar.specs.Trees.{node}

abbrev tree_of : Form → Span → Tree
tree_of = fold-Form (Span → Tree) Tree form_tree (λ e. e.form e.at)

made : (at : Span) (f : Form) (y : Form-F Form Expr) → roll-Form y ≡ f → tree (node at f) ≡ form_tree (map-Form Form Expr (Span → Tree) Tree tree_of tree y) at
made at f y is =
    fold-roll-Expr (Span → Tree) Tree form_tree (λ e. e.form e.at) (record { at = at; form = f })
    ∙ ap (λ (g : Form). tree_of g at) (sym is)
    ∙ ap (λ (g : Span → Tree). g at) (fold-roll-Form (Span → Tree) Tree form_tree (λ e. e.form e.at) y)

pub literal : (at : Span) (n : ℕ) → tree (node at (form.Literal n)) ≡ e.Literal at n
literal at n = made at (form.Literal n) (layer.Literal n) (form.rolls-Literal n)

pub this : (at : Span) → tree (node at form.This) ≡ e.This at
this at = made at form.This layer.This form.rolls-This

pub name : (at : Span) (n : List ℕ) → tree (node at (form.Name n)) ≡ e.Name at n
name at n = made at (form.Name n) (layer.Name n) (form.rolls-Name n)

pub join : (at : Span) (x : Expr) (n : List ℕ) → tree (node at (form.Join x n)) ≡ e.Join at (tree x) n
join at x n = made at (form.Join x n) (layer.Join x n) (form.rolls-Join x n)

pub parent : (at : Span) (x : Expr) → tree (node at (form.Parent x)) ≡ e.Parent at (tree x)
parent at x = made at (form.Parent x) (layer.Parent x) (form.rolls-Parent x)

pub dref : (at : Span) (x : Expr) → tree (node at (form.Dref x)) ≡ e.Dref at (tree x)
dref at x = made at (form.Dref x) (layer.Dref x) (form.rolls-Dref x)

pub not : (at : Span) (x : Expr) → tree (node at (form.Not x)) ≡ e.Not at (tree x)
not at x = made at (form.Not x) (layer.Not x) (form.rolls-Not x)

pub card : (at : Span) (x : Expr) → tree (node at (form.Card x)) ≡ e.Card at (tree x)
card at x = made at (form.Card x) (layer.Card x) (form.rolls-Card x)

pub sum : (at : Span) (x : Expr) → tree (node at (form.Sum x)) ≡ e.Sum at (tree x)
sum at x = made at (form.Sum x) (layer.Sum x) (form.rolls-Sum x)

pub neg : (at : Span) (x : Expr) → tree (node at (form.Neg x)) ≡ e.Neg at (tree x)
neg at x = made at (form.Neg x) (layer.Neg x) (form.rolls-Neg x)

pub some : (at : Span) (x : Expr) → tree (node at (form.Some x)) ≡ e.Some at (tree x)
some at x = made at (form.Some x) (layer.Some x) (form.rolls-Some x)

pub no : (at : Span) (x : Expr) → tree (node at (form.No x)) ≡ e.No at (tree x)
no at x = made at (form.No x) (layer.No x) (form.rolls-No x)

pub one : (at : Span) (x : Expr) → tree (node at (form.One x)) ≡ e.One at (tree x)
one at x = made at (form.One x) (layer.One x) (form.rolls-One x)

pub lone : (at : Span) (x : Expr) → tree (node at (form.Lone x)) ≡ e.Lone at (tree x)
lone at x = made at (form.Lone x) (layer.Lone x) (form.rolls-Lone x)

pub union : (at : Span) (x y : Expr) → tree (node at (form.Union x y)) ≡ e.Union at (tree x) (tree y)
union at x y = made at (form.Union x y) (layer.Union x y) (form.rolls-Union x y)

pub minus : (at : Span) (x y : Expr) → tree (node at (form.Minus x y)) ≡ e.Minus at (tree x) (tree y)
minus at x y = made at (form.Minus x y) (layer.Minus x y) (form.rolls-Minus x y)

pub meet : (at : Span) (x y : Expr) → tree (node at (form.Meet x y)) ≡ e.Meet at (tree x) (tree y)
meet at x y = made at (form.Meet x y) (layer.Meet x y) (form.rolls-Meet x y)

pub and : (at : Span) (x y : Expr) → tree (node at (form.And x y)) ≡ e.And at (tree x) (tree y)
and at x y = made at (form.And x y) (layer.And x y) (form.rolls-And x y)

pub or : (at : Span) (x y : Expr) → tree (node at (form.Or x y)) ≡ e.Or at (tree x) (tree y)
or at x y = made at (form.Or x y) (layer.Or x y) (form.rolls-Or x y)

pub xor : (at : Span) (x y : Expr) → tree (node at (form.Xor x y)) ≡ e.Xor at (tree x) (tree y)
xor at x y = made at (form.Xor x y) (layer.Xor x y) (form.rolls-Xor x y)

pub implies : (at : Span) (x y : Expr) → tree (node at (form.Implies x y)) ≡ e.Implies at (tree x) (tree y)
implies at x y = made at (form.Implies x y) (layer.Implies x y) (form.rolls-Implies x y)

pub iff : (at : Span) (x y : Expr) → tree (node at (form.Iff x y)) ≡ e.Iff at (tree x) (tree y)
iff at x y = made at (form.Iff x y) (layer.Iff x y) (form.rolls-Iff x y)

pub add : (at : Span) (x y : Expr) → tree (node at (form.Add x y)) ≡ e.Add at (tree x) (tree y)
add at x y = made at (form.Add x y) (layer.Add x y) (form.rolls-Add x y)

pub sub : (at : Span) (x y : Expr) → tree (node at (form.Sub x y)) ≡ e.Sub at (tree x) (tree y)
sub at x y = made at (form.Sub x y) (layer.Sub x y) (form.rolls-Sub x y)

pub mul : (at : Span) (x y : Expr) → tree (node at (form.Mul x y)) ≡ e.Mul at (tree x) (tree y)
mul at x y = made at (form.Mul x y) (layer.Mul x y) (form.rolls-Mul x y)

pub less : (at : Span) (x y : Expr) → tree (node at (form.Less x y)) ≡ e.Less at (tree x) (tree y)
less at x y = made at (form.Less x y) (layer.Less x y) (form.rolls-Less x y)

pub less_equal : (at : Span) (x y : Expr) → tree (node at (form.LessEqual x y)) ≡ e.LessEqual at (tree x) (tree y)
less_equal at x y = made at (form.LessEqual x y) (layer.LessEqual x y) (form.rolls-LessEqual x y)

pub greater : (at : Span) (x y : Expr) → tree (node at (form.Greater x y)) ≡ e.Greater at (tree x) (tree y)
greater at x y = made at (form.Greater x y) (layer.Greater x y) (form.rolls-Greater x y)

pub greater_equal : (at : Span) (x y : Expr) → tree (node at (form.GreaterEqual x y)) ≡ e.GreaterEqual at (tree x) (tree y)
greater_equal at x y = made at (form.GreaterEqual x y) (layer.GreaterEqual x y) (form.rolls-GreaterEqual x y)

pub equal : (at : Span) (x y : Expr) → tree (node at (form.Equal x y)) ≡ e.Equal at (tree x) (tree y)
equal at x y = made at (form.Equal x y) (layer.Equal x y) (form.rolls-Equal x y)

pub within : (at : Span) (x y : Expr) → tree (node at (form.In x y)) ≡ e.In at (tree x) (tree y)
within at x y = made at (form.In x y) (layer.In x y) (form.rolls-In x y)

pub choice : (at : Span) (x y z : Expr) → tree (node at (form.If x y z)) ≡ e.If at (tree x) (tree y) (tree z)
choice at x y z = made at (form.If x y z) (layer.If x y z) (form.rolls-If x y z)

pub quant : (at : Span) (word : Word) (disj : Bool) (names : List Title) (over body : Expr)
    → tree (node at (form.Quant word disj names over body)) ≡ e.Quant at word disj names (tree over) (tree body)
quant at word disj names over body = made at (form.Quant word disj names over body) (layer.Quant word disj names over body) (form.rolls-Quant word disj names over body)
