-- An expression is known by its tree.
use Rattle.std.proofs.Common.{◌≡◌, ℕ, Bool, List, [], ◌∷◌, map, Option, refl, ap, sym, subst, ◌∙◌}
use Rattle.clf_base.specs.declared.fault.Span.{Span}
use Rattle.clf_tree.specs.declared.token.Word.{Word}
use Rattle.clf_tree.specs.declared.token.Title.{Title}
use Rattle.clf_tree.specs.declared.expr.Expr.{Expr, roll-Expr, map-Expr, fold-roll-Expr}
use Rattle.clf_tree.specs.declared.expr.Form.{Form, roll-Form, map-Form, fold-Form}
use Rattle.clf_tree.specs.declared.expr.Form.TheOpen as opened
use Rattle.clf_tree.specs.declared.expr.Form.TheOpen.{Form-F, Expr-F}
use Rattle.clf_tree.specs.declared.expr.Form.TheFolds.{ind-Expr, fold-roll-Form}
use Rattle.clf_tree.specs.declared.model.Rule.{Rule}
use Rattle.clf_tree.specs.declared.model.Goal.{Goal}
use Rattle.clf_tree.specs.Tree as e
use Rattle.clf_tree.specs.Tree.{Tree, tree, form_tree}

abbrev node : Span → Form-F Form Expr → Expr
node at layer = roll-Expr (record { at = at; form = roll-Form layer })

pub untree : Tree → Expr
untree (e.Literal at n) = node at (opened.Literal n)
untree (e.This at) = node at opened.This
untree (e.Variable at n) = node at (opened.Variable n)
untree (e.Clafer at n) = node at (opened.Clafer n)
untree (e.Name at n) = node at (opened.Name n)
untree (e.Join at a n) = node at (opened.Join (untree a) n)
untree (e.Step at a into follow) = node at (opened.Step (untree a) into follow)
untree (e.Parent at a) = node at (opened.Parent (untree a))
untree (e.Dref at a) = node at (opened.Dref (untree a))
untree (e.Union at a b) = node at (opened.Union (untree a) (untree b))
untree (e.Minus at a b) = node at (opened.Minus (untree a) (untree b))
untree (e.Meet at a b) = node at (opened.Meet (untree a) (untree b))
untree (e.If at c a b) = node at (opened.If (untree c) (untree a) (untree b))
untree (e.Not at a) = node at (opened.Not (untree a))
untree (e.And at a b) = node at (opened.And (untree a) (untree b))
untree (e.Or at a b) = node at (opened.Or (untree a) (untree b))
untree (e.Xor at a b) = node at (opened.Xor (untree a) (untree b))
untree (e.Implies at a b) = node at (opened.Implies (untree a) (untree b))
untree (e.Iff at a b) = node at (opened.Iff (untree a) (untree b))
untree (e.Card at a) = node at (opened.Card (untree a))
untree (e.Sum at a) = node at (opened.Sum (untree a))
untree (e.Neg at a) = node at (opened.Neg (untree a))
untree (e.Add at a b) = node at (opened.Add (untree a) (untree b))
untree (e.Sub at a b) = node at (opened.Sub (untree a) (untree b))
untree (e.Mul at a b) = node at (opened.Mul (untree a) (untree b))
untree (e.Less at a b) = node at (opened.Less (untree a) (untree b))
untree (e.LessEqual at a b) = node at (opened.LessEqual (untree a) (untree b))
untree (e.Greater at a b) = node at (opened.Greater (untree a) (untree b))
untree (e.GreaterEqual at a b) = node at (opened.GreaterEqual (untree a) (untree b))
untree (e.Equal at a b) = node at (opened.Equal (untree a) (untree b))
untree (e.In at a b) = node at (opened.In (untree a) (untree b))
untree (e.Some at a) = node at (opened.Some (untree a))
untree (e.No at a) = node at (opened.No (untree a))
untree (e.One at a) = node at (opened.One (untree a))
untree (e.Lone at a) = node at (opened.Lone (untree a))
untree (e.Quant at word disj names a b) = node at (opened.Quant word disj names (untree a) (untree b))

abbrev form_back : Form → Span → Tree
form_back = fold-Form (Span → Tree) Tree form_tree (λ d. d.form d.at)

abbrev FormHeld : Type 0
FormHeld = (f : Form) × ((at : Span) → untree (form_back f at) ≡ roll-Expr (record { at = at; form = f }))

abbrev ExprHeld : Type 0
ExprHeld = (x : Expr) × (untree (tree x) ≡ x)

abbrev layer_of : Form-F FormHeld ExprHeld → Form-F Form Expr
layer_of y = map-Form FormHeld ExprHeld Form Expr (λ h. h.0) (λ h. h.0) y

two : {A B C : Type 0} (f : A → B → C) {a b : A} {c d : B} → a ≡ b → c ≡ d → f a c ≡ f b d
two f {b = b} {c = c} p q = ap (λ x. f x c) p ∙ ap (f b) q

three : {A B C D : Type 0} (f : A → B → C → D) {a b : A} {c d : B} {k l : C} → a ≡ b → c ≡ d → k ≡ l → f a c k ≡ f b d l
three f {b = b} {c = c} {d = d} {k = k} p q r = ap (λ x. f x c k) p ∙ two (f b) q r

held : (y : Form-F FormHeld ExprHeld) (at : Span) → untree (form_tree (map-Form FormHeld ExprHeld (Span → Tree) Tree (λ h. form_back h.0) (λ h. tree h.0) y) at) ≡ roll-Expr (record { at = at; form = roll-Form (layer_of y) })
unfolding untree
held (opened.Literal n) at = refl
held opened.This at = refl
held (opened.Variable n) at = refl
held (opened.Clafer n) at = refl
held (opened.Name n) at = refl
held (opened.Join a n) at = ap (λ (a1 : Expr). node at (opened.Join a1 n)) a.1
held (opened.Step a into follow) at = ap (λ (a1 : Expr). node at (opened.Step a1 into follow)) a.1
held (opened.Parent a) at = ap (λ (a1 : Expr). node at (opened.Parent a1)) a.1
held (opened.Dref a) at = ap (λ (a1 : Expr). node at (opened.Dref a1)) a.1
held (opened.Union a b) at = two (λ (a1 : Expr) (b1 : Expr). node at (opened.Union a1 b1)) a.1 b.1
held (opened.Minus a b) at = two (λ (a1 : Expr) (b1 : Expr). node at (opened.Minus a1 b1)) a.1 b.1
held (opened.Meet a b) at = two (λ (a1 : Expr) (b1 : Expr). node at (opened.Meet a1 b1)) a.1 b.1
held (opened.If c a b) at = three (λ (c1 : Expr) (a1 : Expr) (b1 : Expr). node at (opened.If c1 a1 b1)) c.1 a.1 b.1
held (opened.Not a) at = ap (λ (a1 : Expr). node at (opened.Not a1)) a.1
held (opened.And a b) at = two (λ (a1 : Expr) (b1 : Expr). node at (opened.And a1 b1)) a.1 b.1
held (opened.Or a b) at = two (λ (a1 : Expr) (b1 : Expr). node at (opened.Or a1 b1)) a.1 b.1
held (opened.Xor a b) at = two (λ (a1 : Expr) (b1 : Expr). node at (opened.Xor a1 b1)) a.1 b.1
held (opened.Implies a b) at = two (λ (a1 : Expr) (b1 : Expr). node at (opened.Implies a1 b1)) a.1 b.1
held (opened.Iff a b) at = two (λ (a1 : Expr) (b1 : Expr). node at (opened.Iff a1 b1)) a.1 b.1
held (opened.Card a) at = ap (λ (a1 : Expr). node at (opened.Card a1)) a.1
held (opened.Sum a) at = ap (λ (a1 : Expr). node at (opened.Sum a1)) a.1
held (opened.Neg a) at = ap (λ (a1 : Expr). node at (opened.Neg a1)) a.1
held (opened.Add a b) at = two (λ (a1 : Expr) (b1 : Expr). node at (opened.Add a1 b1)) a.1 b.1
held (opened.Sub a b) at = two (λ (a1 : Expr) (b1 : Expr). node at (opened.Sub a1 b1)) a.1 b.1
held (opened.Mul a b) at = two (λ (a1 : Expr) (b1 : Expr). node at (opened.Mul a1 b1)) a.1 b.1
held (opened.Less a b) at = two (λ (a1 : Expr) (b1 : Expr). node at (opened.Less a1 b1)) a.1 b.1
held (opened.LessEqual a b) at = two (λ (a1 : Expr) (b1 : Expr). node at (opened.LessEqual a1 b1)) a.1 b.1
held (opened.Greater a b) at = two (λ (a1 : Expr) (b1 : Expr). node at (opened.Greater a1 b1)) a.1 b.1
held (opened.GreaterEqual a b) at = two (λ (a1 : Expr) (b1 : Expr). node at (opened.GreaterEqual a1 b1)) a.1 b.1
held (opened.Equal a b) at = two (λ (a1 : Expr) (b1 : Expr). node at (opened.Equal a1 b1)) a.1 b.1
held (opened.In a b) at = two (λ (a1 : Expr) (b1 : Expr). node at (opened.In a1 b1)) a.1 b.1
held (opened.Some a) at = ap (λ (a1 : Expr). node at (opened.Some a1)) a.1
held (opened.No a) at = ap (λ (a1 : Expr). node at (opened.No a1)) a.1
held (opened.One a) at = ap (λ (a1 : Expr). node at (opened.One a1)) a.1
held (opened.Lone a) at = ap (λ (a1 : Expr). node at (opened.Lone a1)) a.1
held (opened.Quant word disj names a b) at = two (λ (a1 : Expr) (b1 : Expr). node at (opened.Quant word disj names a1 b1)) a.1 b.1

form_held : (y : Form-F FormHeld ExprHeld) (at : Span) → untree (form_back (roll-Form (layer_of y)) at) ≡ roll-Expr (record { at = at; form = roll-Form (layer_of y) })
form_held y at = ap (λ (f : Span → Tree). untree (f at)) (rolled y) ∙ held y at
  where
    rolled : (y : Form-F FormHeld ExprHeld) → form_back (roll-Form (layer_of y)) ≡ form_tree (map-Form FormHeld ExprHeld (Span → Tree) Tree (λ h. form_back h.0) (λ h. tree h.0) y)
    rolled (opened.Literal n) = fold-roll-Form (Span → Tree) Tree form_tree (λ d. d.form d.at) (opened.Literal n)
    rolled opened.This = fold-roll-Form (Span → Tree) Tree form_tree (λ d. d.form d.at) opened.This
    rolled (opened.Variable n) = fold-roll-Form (Span → Tree) Tree form_tree (λ d. d.form d.at) (opened.Variable n)
    rolled (opened.Clafer n) = fold-roll-Form (Span → Tree) Tree form_tree (λ d. d.form d.at) (opened.Clafer n)
    rolled (opened.Name n) = fold-roll-Form (Span → Tree) Tree form_tree (λ d. d.form d.at) (opened.Name n)
    rolled (opened.Join a n) = fold-roll-Form (Span → Tree) Tree form_tree (λ d. d.form d.at) (opened.Join a.0 n)
    rolled (opened.Step a into follow) = fold-roll-Form (Span → Tree) Tree form_tree (λ d. d.form d.at) (opened.Step a.0 into follow)
    rolled (opened.Parent a) = fold-roll-Form (Span → Tree) Tree form_tree (λ d. d.form d.at) (opened.Parent a.0)
    rolled (opened.Dref a) = fold-roll-Form (Span → Tree) Tree form_tree (λ d. d.form d.at) (opened.Dref a.0)
    rolled (opened.Union a b) = fold-roll-Form (Span → Tree) Tree form_tree (λ d. d.form d.at) (opened.Union a.0 b.0)
    rolled (opened.Minus a b) = fold-roll-Form (Span → Tree) Tree form_tree (λ d. d.form d.at) (opened.Minus a.0 b.0)
    rolled (opened.Meet a b) = fold-roll-Form (Span → Tree) Tree form_tree (λ d. d.form d.at) (opened.Meet a.0 b.0)
    rolled (opened.If c a b) = fold-roll-Form (Span → Tree) Tree form_tree (λ d. d.form d.at) (opened.If c.0 a.0 b.0)
    rolled (opened.Not a) = fold-roll-Form (Span → Tree) Tree form_tree (λ d. d.form d.at) (opened.Not a.0)
    rolled (opened.And a b) = fold-roll-Form (Span → Tree) Tree form_tree (λ d. d.form d.at) (opened.And a.0 b.0)
    rolled (opened.Or a b) = fold-roll-Form (Span → Tree) Tree form_tree (λ d. d.form d.at) (opened.Or a.0 b.0)
    rolled (opened.Xor a b) = fold-roll-Form (Span → Tree) Tree form_tree (λ d. d.form d.at) (opened.Xor a.0 b.0)
    rolled (opened.Implies a b) = fold-roll-Form (Span → Tree) Tree form_tree (λ d. d.form d.at) (opened.Implies a.0 b.0)
    rolled (opened.Iff a b) = fold-roll-Form (Span → Tree) Tree form_tree (λ d. d.form d.at) (opened.Iff a.0 b.0)
    rolled (opened.Card a) = fold-roll-Form (Span → Tree) Tree form_tree (λ d. d.form d.at) (opened.Card a.0)
    rolled (opened.Sum a) = fold-roll-Form (Span → Tree) Tree form_tree (λ d. d.form d.at) (opened.Sum a.0)
    rolled (opened.Neg a) = fold-roll-Form (Span → Tree) Tree form_tree (λ d. d.form d.at) (opened.Neg a.0)
    rolled (opened.Add a b) = fold-roll-Form (Span → Tree) Tree form_tree (λ d. d.form d.at) (opened.Add a.0 b.0)
    rolled (opened.Sub a b) = fold-roll-Form (Span → Tree) Tree form_tree (λ d. d.form d.at) (opened.Sub a.0 b.0)
    rolled (opened.Mul a b) = fold-roll-Form (Span → Tree) Tree form_tree (λ d. d.form d.at) (opened.Mul a.0 b.0)
    rolled (opened.Less a b) = fold-roll-Form (Span → Tree) Tree form_tree (λ d. d.form d.at) (opened.Less a.0 b.0)
    rolled (opened.LessEqual a b) = fold-roll-Form (Span → Tree) Tree form_tree (λ d. d.form d.at) (opened.LessEqual a.0 b.0)
    rolled (opened.Greater a b) = fold-roll-Form (Span → Tree) Tree form_tree (λ d. d.form d.at) (opened.Greater a.0 b.0)
    rolled (opened.GreaterEqual a b) = fold-roll-Form (Span → Tree) Tree form_tree (λ d. d.form d.at) (opened.GreaterEqual a.0 b.0)
    rolled (opened.Equal a b) = fold-roll-Form (Span → Tree) Tree form_tree (λ d. d.form d.at) (opened.Equal a.0 b.0)
    rolled (opened.In a b) = fold-roll-Form (Span → Tree) Tree form_tree (λ d. d.form d.at) (opened.In a.0 b.0)
    rolled (opened.Some a) = fold-roll-Form (Span → Tree) Tree form_tree (λ d. d.form d.at) (opened.Some a.0)
    rolled (opened.No a) = fold-roll-Form (Span → Tree) Tree form_tree (λ d. d.form d.at) (opened.No a.0)
    rolled (opened.One a) = fold-roll-Form (Span → Tree) Tree form_tree (λ d. d.form d.at) (opened.One a.0)
    rolled (opened.Lone a) = fold-roll-Form (Span → Tree) Tree form_tree (λ d. d.form d.at) (opened.Lone a.0)
    rolled (opened.Quant word disj names a b) = fold-roll-Form (Span → Tree) Tree form_tree (λ d. d.form d.at) (opened.Quant word disj names a.0 b.0)

expr_held : (y : Expr-F FormHeld ExprHeld) → untree (tree (roll-Expr (map-Expr FormHeld ExprHeld Form Expr (λ h. h.0) (λ h. h.0) y))) ≡ roll-Expr (map-Expr FormHeld ExprHeld Form Expr (λ h. h.0) (λ h. h.0) y)
expr_held y = ap untree (fold-roll-Expr (Span → Tree) Tree form_tree (λ d. d.form d.at) (map-Expr FormHeld ExprHeld Form Expr (λ h. h.0) (λ h. h.0) y)) ∙ y.form.1 y.at

pub tree_back : (x : Expr) → untree (tree x) ≡ x
tree_back = ind-Expr (λ f. (at : Span) → untree (form_back f at) ≡ roll-Expr (record { at = at; form = f })) (λ x. untree (tree x) ≡ x)
    (λ x y is. subst (λ z. (at : Span) → untree (form_back (roll-Form z) at) ≡ roll-Expr (record { at = at; form = roll-Form z })) is (form_held y))
    (λ x y is. subst (λ z. untree (tree (roll-Expr z)) ≡ roll-Expr z) is (expr_held y))

-- lists are known by what their items are known by
pub known_by : {X Y : Type 0} (f : X → Y) (g : Y → X) → ((x : X) → g (f x) ≡ x) → (xs ys : List X) → map f xs ≡ map f ys → xs ≡ ys
known_by {X = X} f g back xs ys e = sym (all_back xs) ∙ ap (map g) e ∙ all_back ys
  where
    all_back : (zs : List X) → map g (map f zs) ≡ zs
    all_back [] = refl
    all_back (z ∷ zs) = two (λ (a : X) (b : List X). a ∷ b) (back z) (all_back zs)
