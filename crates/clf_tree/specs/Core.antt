-- A relational expression as a tree.
use Rattle.std.specs.Prelude.{ℕ, Bool, List, ℤ}
use Rattle.clf_tree.specs.declared.core_expr.Quantifier.{Quantifier}
use Rattle.clf_tree.specs.declared.core_expr.CoreExpr.{CoreExpr, fold-CoreExpr}
use Rattle.clf_tree.specs.declared.core_expr.CoreExpr.TheOpen as form
use Rattle.clf_tree.specs.declared.core_expr.CoreExpr.TheOpen.{CoreExpr-F}

-- sets of nodes with their clafers, numbers with their width, and truth values
pub data Core : Type 0 where
  Bound : List ℕ → ℕ → Core
  Every : List ℕ → Core
  Down : List ℕ → Core → Core
  Up : List ℕ → Core → Core
  Follow : List ℕ → Core → Core
  Union : List ℕ → Core → Core → Core
  Minus : List ℕ → Core → Core → Core
  Meet : List ℕ → Core → Core → Core
  ChooseNodes : List ℕ → Core → Core → Core → Core
  Const : ℕ → ℤ → Core
  Count : ℕ → Core → Core
  Total : ℕ → Core → Core
  Neg : ℕ → Core → Core
  Add : ℕ → Core → Core → Core
  Mul : ℕ → Core → Core → Core
  ChooseNumber : ℕ → Core → Core → Core → Core
  Not : Core → Core
  And : Core → Core → Core
  Or : Core → Core → Core
  Xor : Core → Core → Core
  ChooseTruth : Core → Core → Core → Core
  SameNodes : Core → Core → Core
  WithinNodes : Core → Core → Core
  SameValues : Core → Core → Core
  WithinValues : Core → Core → Core
  Less : Core → Core → Core
  AtLeast : ℕ → Core → Core
  AtMost : ℕ → Core → Core
  Exactly : ℕ → Core → Core
  Quant : Quantifier → Bool → ℕ → Core → Core → Core

abbrev pub form_core : CoreExpr-F Core → Core
form_core (form.Bound ks i) = Bound ks i
form_core (form.Every ks) = Every ks
form_core (form.Down ks a) = Down ks a
form_core (form.Up ks a) = Up ks a
form_core (form.Follow ks a) = Follow ks a
form_core (form.Union ks a b) = Union ks a b
form_core (form.Minus ks a b) = Minus ks a b
form_core (form.Meet ks a b) = Meet ks a b
form_core (form.ChooseNodes ks c a b) = ChooseNodes ks c a b
form_core (form.Const w n) = Const w n
form_core (form.Count w a) = Count w a
form_core (form.Total w a) = Total w a
form_core (form.Neg w a) = Neg w a
form_core (form.Add w a b) = Add w a b
form_core (form.Mul w a b) = Mul w a b
form_core (form.ChooseNumber w c a b) = ChooseNumber w c a b
form_core (form.Not a) = Not a
form_core (form.And a b) = And a b
form_core (form.Or a b) = Or a b
form_core (form.Xor a b) = Xor a b
form_core (form.ChooseTruth c a b) = ChooseTruth c a b
form_core (form.SameNodes a b) = SameNodes a b
form_core (form.WithinNodes a b) = WithinNodes a b
form_core (form.SameValues a b) = SameValues a b
form_core (form.WithinValues a b) = WithinValues a b
form_core (form.Less a b) = Less a b
form_core (form.AtLeast k a) = AtLeast k a
form_core (form.AtMost k a) = AtMost k a
form_core (form.Exactly k a) = Exactly k a
form_core (form.Quant word disj names over body) = Quant word disj names over body

abbrev pub core : CoreExpr → Core
core = fold-CoreExpr Core form_core
