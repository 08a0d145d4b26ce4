-- The tree of each form of a relational expression.
use Rattle.std.proofs.Common.{◌≡◌, ℕ, Bool, List, ap, sym, ◌∙◌}
use Rattle.clf_tree.specs.declared.core_expr.Quantifier.{Quantifier}
use Rattle.clf_tree.specs.declared.core_expr.CoreExpr.{CoreExpr}
use Rattle.clf_tree.specs.declared.core_expr.CoreExpr.{fold-roll-CoreExpr}
use Rattle.clf_tree.specs.declared.core_expr.CoreExpr.TheVariants as form
use Rattle.clf_tree.specs.declared.core_expr.CoreExpr.TheOpen as layer
use Rattle.clf_tree.specs.Core as c
use Rattle.clf_tree.specs.Core.{Core, core, form_core}

pub core-Every : (e : CoreExpr) (ks : List ℕ) → e ≡ form.Every ks → core e ≡ c.Every ks
core-Every e ks h = ap core (h ∙ sym (form.rolls-Every ks)) ∙ fold-roll-CoreExpr Core form_core (layer.Every ks)

pub core-Down : (e : CoreExpr) (ks : List ℕ) (a : CoreExpr) → e ≡ form.Down ks a → core e ≡ c.Down ks (core a)
core-Down e ks a h = ap core (h ∙ sym (form.rolls-Down ks a)) ∙ fold-roll-CoreExpr Core form_core (layer.Down ks a)

pub core-Up : (e : CoreExpr) (ks : List ℕ) (a : CoreExpr) → e ≡ form.Up ks a → core e ≡ c.Up ks (core a)
core-Up e ks a h = ap core (h ∙ sym (form.rolls-Up ks a)) ∙ fold-roll-CoreExpr Core form_core (layer.Up ks a)

pub core-Follow : (e : CoreExpr) (ks : List ℕ) (a : CoreExpr) → e ≡ form.Follow ks a → core e ≡ c.Follow ks (core a)
core-Follow e ks a h = ap core (h ∙ sym (form.rolls-Follow ks a)) ∙ fold-roll-CoreExpr Core form_core (layer.Follow ks a)

pub core-Union : (e : CoreExpr) (ks : List ℕ) (a : CoreExpr) (b : CoreExpr) → e ≡ form.Union ks a b →
    core e ≡ c.Union ks (core a) (core b)
core-Union e ks a b h = ap core (h ∙ sym (form.rolls-Union ks a b)) ∙ fold-roll-CoreExpr Core form_core (layer.Union ks a b)

pub core-Minus : (e : CoreExpr) (ks : List ℕ) (a : CoreExpr) (b : CoreExpr) → e ≡ form.Minus ks a b →
    core e ≡ c.Minus ks (core a) (core b)
core-Minus e ks a b h = ap core (h ∙ sym (form.rolls-Minus ks a b)) ∙ fold-roll-CoreExpr Core form_core (layer.Minus ks a b)

pub core-Meet : (e : CoreExpr) (ks : List ℕ) (a : CoreExpr) (b : CoreExpr) → e ≡ form.Meet ks a b →
    core e ≡ c.Meet ks (core a) (core b)
core-Meet e ks a b h = ap core (h ∙ sym (form.rolls-Meet ks a b)) ∙ fold-roll-CoreExpr Core form_core (layer.Meet ks a b)

pub core-ChooseNodes : (e : CoreExpr) (ks : List ℕ) (t : CoreExpr) (a : CoreExpr) (b : CoreExpr) →
    e ≡ form.ChooseNodes ks t a b → core e ≡ c.ChooseNodes ks (core t) (core a) (core b)
core-ChooseNodes e ks t a b h = ap core (h ∙ sym (form.rolls-ChooseNodes ks t a b))
    ∙ fold-roll-CoreExpr Core form_core (layer.ChooseNodes ks t a b)

pub core-Count : (e : CoreExpr) (w : ℕ) (a : CoreExpr) → e ≡ form.Count w a → core e ≡ c.Count w (core a)
core-Count e w a h = ap core (h ∙ sym (form.rolls-Count w a)) ∙ fold-roll-CoreExpr Core form_core (layer.Count w a)

pub core-Total : (e : CoreExpr) (w : ℕ) (a : CoreExpr) → e ≡ form.Total w a → core e ≡ c.Total w (core a)
core-Total e w a h = ap core (h ∙ sym (form.rolls-Total w a)) ∙ fold-roll-CoreExpr Core form_core (layer.Total w a)

pub core-Add : (e : CoreExpr) (w : ℕ) (a : CoreExpr) (b : CoreExpr) → e ≡ form.Add w a b → core e ≡ c.Add w (core a) (core b)
core-Add e w a b h = ap core (h ∙ sym (form.rolls-Add w a b)) ∙ fold-roll-CoreExpr Core form_core (layer.Add w a b)

pub core-Mul : (e : CoreExpr) (w : ℕ) (a : CoreExpr) (b : CoreExpr) → e ≡ form.Mul w a b → core e ≡ c.Mul w (core a) (core b)
core-Mul e w a b h = ap core (h ∙ sym (form.rolls-Mul w a b)) ∙ fold-roll-CoreExpr Core form_core (layer.Mul w a b)

pub core-ChooseNumber : (e : CoreExpr) (w : ℕ) (t : CoreExpr) (a : CoreExpr) (b : CoreExpr) →
    e ≡ form.ChooseNumber w t a b → core e ≡ c.ChooseNumber w (core t) (core a) (core b)
core-ChooseNumber e w t a b h = ap core (h ∙ sym (form.rolls-ChooseNumber w t a b))
    ∙ fold-roll-CoreExpr Core form_core (layer.ChooseNumber w t a b)

pub core-And : (e : CoreExpr) (a : CoreExpr) (b : CoreExpr) → e ≡ form.And a b → core e ≡ c.And (core a) (core b)
core-And e a b h = ap core (h ∙ sym (form.rolls-And a b)) ∙ fold-roll-CoreExpr Core form_core (layer.And a b)

pub core-Or : (e : CoreExpr) (a : CoreExpr) (b : CoreExpr) → e ≡ form.Or a b → core e ≡ c.Or (core a) (core b)
core-Or e a b h = ap core (h ∙ sym (form.rolls-Or a b)) ∙ fold-roll-CoreExpr Core form_core (layer.Or a b)

pub core-Xor : (e : CoreExpr) (a : CoreExpr) (b : CoreExpr) → e ≡ form.Xor a b → core e ≡ c.Xor (core a) (core b)
core-Xor e a b h = ap core (h ∙ sym (form.rolls-Xor a b)) ∙ fold-roll-CoreExpr Core form_core (layer.Xor a b)

pub core-ChooseTruth : (e : CoreExpr) (t : CoreExpr) (a : CoreExpr) (b : CoreExpr) → e ≡ form.ChooseTruth t a b →
    core e ≡ c.ChooseTruth (core t) (core a) (core b)
core-ChooseTruth e t a b h = ap core (h ∙ sym (form.rolls-ChooseTruth t a b))
    ∙ fold-roll-CoreExpr Core form_core (layer.ChooseTruth t a b)

pub core-SameNodes : (e : CoreExpr) (a : CoreExpr) (b : CoreExpr) → e ≡ form.SameNodes a b →
    core e ≡ c.SameNodes (core a) (core b)
core-SameNodes e a b h = ap core (h ∙ sym (form.rolls-SameNodes a b)) ∙ fold-roll-CoreExpr Core form_core (layer.SameNodes a b)

pub core-WithinNodes : (e : CoreExpr) (a : CoreExpr) (b : CoreExpr) → e ≡ form.WithinNodes a b →
    core e ≡ c.WithinNodes (core a) (core b)
core-WithinNodes e a b h = ap core (h ∙ sym (form.rolls-WithinNodes a b))
    ∙ fold-roll-CoreExpr Core form_core (layer.WithinNodes a b)

pub core-SameValues : (e : CoreExpr) (a : CoreExpr) (b : CoreExpr) → e ≡ form.SameValues a b →
    core e ≡ c.SameValues (core a) (core b)
core-SameValues e a b h = ap core (h ∙ sym (form.rolls-SameValues a b)) ∙ fold-roll-CoreExpr Core form_core (layer.SameValues a b)

pub core-WithinValues : (e : CoreExpr) (a : CoreExpr) (b : CoreExpr) → e ≡ form.WithinValues a b →
    core e ≡ c.WithinValues (core a) (core b)
core-WithinValues e a b h = ap core (h ∙ sym (form.rolls-WithinValues a b))
    ∙ fold-roll-CoreExpr Core form_core (layer.WithinValues a b)

pub core-Less : (e : CoreExpr) (a : CoreExpr) (b : CoreExpr) → e ≡ form.Less a b → core e ≡ c.Less (core a) (core b)
core-Less e a b h = ap core (h ∙ sym (form.rolls-Less a b)) ∙ fold-roll-CoreExpr Core form_core (layer.Less a b)

pub core-AtLeast : (e : CoreExpr) (k : ℕ) (a : CoreExpr) → e ≡ form.AtLeast k a → core e ≡ c.AtLeast k (core a)
core-AtLeast e k a h = ap core (h ∙ sym (form.rolls-AtLeast k a)) ∙ fold-roll-CoreExpr Core form_core (layer.AtLeast k a)

pub core-AtMost : (e : CoreExpr) (k : ℕ) (a : CoreExpr) → e ≡ form.AtMost k a → core e ≡ c.AtMost k (core a)
core-AtMost e k a h = ap core (h ∙ sym (form.rolls-AtMost k a)) ∙ fold-roll-CoreExpr Core form_core (layer.AtMost k a)

pub core-Exactly : (e : CoreExpr) (k : ℕ) (a : CoreExpr) → e ≡ form.Exactly k a → core e ≡ c.Exactly k (core a)
core-Exactly e k a h = ap core (h ∙ sym (form.rolls-Exactly k a)) ∙ fold-roll-CoreExpr Core form_core (layer.Exactly k a)

pub core-Quant : (e : CoreExpr) (word : Quantifier) (disj : Bool) (names : ℕ) (over : CoreExpr) (body : CoreExpr) →
    e ≡ form.Quant word disj names over body → core e ≡ c.Quant word disj names (core over) (core body)
core-Quant e word disj names over body h = ap core (h ∙ sym (form.rolls-Quant word disj names over body))
    ∙ fold-roll-CoreExpr Core form_core (layer.Quant word disj names over body)
