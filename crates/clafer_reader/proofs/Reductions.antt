-- Where a token behind an expression doesn't go on with it, the innermost construct ends.
use Rattle.std.proofs.Common.{◌≡◌, ℕ, Bool, true, false, refl, sym, ◌∙◌, ap, List, [], ◌∷◌, Option, Some, None, ◌&&◌, nat_le, if◌then◌else◌}
use Rattle.clf_base.specs.declared.fault.Span.{Span}
use Rattle.clf_tree.specs.declared.token.Sign.TheVariants as s
use Rattle.clf_tree.specs.declared.token.TokenKind.{TokenKind}
use Rattle.clf_tree.specs.declared.token.TokenKind.TheVariants as t
use Rattle.clf_tree.specs.declared.expr.Expr.{Expr}
use Rattle.clafer_grammar.specs.declared.operators.Infix.{Infix}
use Rattle.clafer_grammar.specs.declared.machine.Frame.{Frame}
use Rattle.clafer_grammar.specs.declared.machine.Frame.TheVariants as f
use Rattle.clafer_grammar.specs.declared.machine.Mode.TheVariants as m
use Rattle.clafer_grammar.specs.Operators.{infix_level, left_of}
use Rattle.clafer_grammar.specs.Machine.{State, Step, least, infix_of, after_infix, first_of_two, with_infix, goes_on, reduce, settle}
use Rattle.clafer_reader.specs.Reduction.{attaches, is_going_on}

-- what a token behind an expression ends doesn't depend on the level
levels_alike : (frames : List Frame) (x : Expr) (level : ℕ) (kind : TokenKind) (at : Span) → reduce frames x level kind at ≡ reduce frames x 0 kind at
unfolding reduce
levels_alike [] x level kind at = refl
levels_alike (f.Binary place op y ∷ below) x level kind at = refl
levels_alike (f.Unary place op ∷ below) x level kind at = refl
levels_alike (f.Paren ∷ below) x level kind at = refl
levels_alike (f.Condition place ∷ below) x level kind at = refl
levels_alike (f.Consequence place y ∷ below) x level kind at = refl
levels_alike (f.Alternative place y z ∷ below) x level kind at = refl
levels_alike (f.Range place word disj vars ∷ below) x level kind at = refl
levels_alike (f.Body place word disj vars y ∷ below) x level kind at = refl
levels_alike (f.Bracket before place parts ∷ below) x level kind at = refl
levels_alike (f.Goal before place is_least ∷ below) x level kind at = refl
levels_alike (f.Start before h place ∷ below) x level kind at = refl
levels_alike (f.Block before h start ∷ below) x level kind at = refl

infix_stops : (frames : List Frame) (x : Expr) (level : ℕ) (at : Span) (op : Option Infix) → attaches frames level op ≡ false → with_infix frames x level at op ≡ None
unfolding attaches with_infix
infix_stops frames x level at None h = refl
infix_stops frames x level at (Some op) h = rw h refl

stops : (frames : List Frame) (x : Expr) (level : ℕ) (kind : TokenKind) (at : Span) → is_going_on frames level kind ≡ false → goes_on frames x level kind at ≡ None
unfolding is_going_on goes_on
stops frames x level (t.Sign s.Dot) at h = rw h refl
stops frames x level kind at h = infix_stops frames x level at (infix_of kind) h

pub settles : (frames : List Frame) (x : Expr) (level : ℕ) (kind : TokenKind) (at : Span) → is_going_on frames level kind ≡ false →
    settle frames x level kind at ≡ reduce frames x 0 kind at
settles frames x level kind at h =
    ap (λ o. first_of_two o (reduce frames x level kind at)) (stops frames x level kind at h) ∙ levels_alike frames x level kind at

-- ---- a token that goes on

settle_first : (o other : Step) (v : State) → o ≡ Some v → first_of_two o other ≡ o
settle_first o other v h = rw h refl

infix_goes : (frames : List Frame) (x : Expr) (level : ℕ) (at : Span) (op : Option Infix) (other : Step) → attaches frames level op ≡ true →
    first_of_two (with_infix frames x level at op) other ≡ with_infix frames x level at op
unfolding attaches with_infix
infix_goes frames x level at None other h = cc
infix_goes frames x level at (Some op) other h = rw h refl

pub settles_on : (frames : List Frame) (x : Expr) (level : ℕ) (kind : TokenKind) (at : Span) → is_going_on frames level kind ≡ true →
    settle frames x level kind at ≡ goes_on frames x level kind at
unfolding is_going_on goes_on
settles_on frames x level (t.Sign s.Dot) at h = rw h refl
settles_on frames x level kind at h = infix_goes frames x level at (infix_of kind) (reduce frames x level kind at) h
