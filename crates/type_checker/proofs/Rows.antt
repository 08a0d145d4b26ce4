-- What is refused, computed on small expressions.
use Rattle.std.proofs.Common.{◌≡◌, ℕ, false, List, [], ◌∷◌, Option, Some, None, refl}
use Rattle.std.specs.Prelude.{codes}
use Rattle.clf_base.specs.declared.fault.Span.{Span}
use Rattle.clf_base.specs.declared.fault.Refusal.{Refusal}
use Rattle.clf_tree.specs.declared.token.Word.TheVariants as word
use Rattle.clf_tree.specs.declared.model.Clafer.{Clafer}
use Rattle.clf_tree.specs.declared.model.Reference.{Reference}
use Rattle.clf_tree.specs.declared.kind.Within.{Within}
use Rattle.clf_tree.specs.Tree.{Tree, Literal, Clafer as named, Card, Sum, Add, And, Minus, Equal, Dref, If, Not, Quant, Variable}
use Rattle.refusal_order.specs.Order.{refused}
use Rattle.type_checker.specs.declared.position.Position.TheVariants.{Truth, Number}
use Rattle.type_checker.specs.Refusals.{at_position, compared, refusal}

abbrev at : ℕ → Span
at column = record { line = 1; column = column }

abbrev clafer : List ℕ → Option Reference → Clafer
clafer name reference = record {
  title = record { name = name; at = at 1 };
  is_abstract = false;
  parent = None;
  above = None;
  group = record { low = 0; high = None };
  times = record { low = 0; high = None };
  reference = reference;
}

-- price -> int; part; owner -> part
shop : List Clafer
shop =
    clafer (codes "price") (Some (record { at = at 7; bag = false; to = None }))
    ∷ clafer (codes "part") None
    ∷ clafer (codes "owner") (Some (record { at = at 7; bag = false; to = Some 1 }))
    ∷ []

abbrev top : Within
top = record { this = None; bound = [] }

abbrev price : ℕ → Tree
price column = named (at column) 0

abbrev part : ℕ → Tree
part column = named (at column) 1

abbrev owner : ℕ → Tree
owner column = named (at column) 2

abbrev three : ℕ → Tree
three column = Literal (at column) 3

abbrev found : Tree → Option Refusal
found t = refusal shop t top

-- 3 is no rule, and a truth value no goal
integer_rule : at_position shop Truth (three 2) top (found (three 2)) ≡ Some (refused 70 (at 2) 0)
unfolding shop
integer_rule = refl

truth_goal : at_position shop Number (Not (at 2) (part 3)) top (found (Not (at 2) (part 3))) ≡ Some (refused 71 (at 2) 0)
unfolding shop
truth_goal = refl

-- price + 3 and part = price.dref fit
sum_fits : found (Add (at 4) (price 2) (three 6)) ≡ None
unfolding shop
sum_fits = refl

owners_fit : found (Equal (at 4) (part 2) (owner 6)) ≡ None
unfolding shop compared
owners_fit = refl

-- part + 3
no_target : found (Add (at 4) (part 2) (three 6)) ≡ Some (refused 73 (at 2) 0)
unfolding shop
no_target = refl

-- #3
no_nodes : found (Card (at 2) (three 3)) ≡ Some (refused 72 (at 3) 0)
unfolding shop
no_nodes = refl

-- sum part
no_sum : found (Sum (at 2) (part 6)) ≡ Some (refused 73 (at 6) 0)
unfolding shop
no_sum = refl

-- price -- part, at the sign
share_nothing : found (Minus (at 4) (price 2) (part 6)) ≡ Some (refused 74 (at 4) 0)
unfolding shop
share_nothing = refl

-- price = part, at the sign
no_reading : found (Equal (at 4) (price 2) (part 6)) ≡ Some (refused 74 (at 4) 0)
unfolding shop compared
no_reading = refl

-- part.dref
no_reference : found (Dref (at 6) (part 2)) ≡ Some (refused 75 (at 2) 0)
unfolding shop
no_reference = refl

-- (price -- 3) + 1: the sum is spared, since a part of it is refused
spared : found (Add (at 12) (Minus (at 5) (price 3) (three 8)) (three 14)) ≡ Some (refused 72 (at 8) 0)
unfolding shop
spared = refl

-- 3 + part && price: the sum is no truth value, and yet spared
spared_truth : found (And (at 11) (Add (at 4) (three 2) (part 6)) (price 14)) ≡ Some (refused 73 (at 6) 0)
unfolding shop
spared_truth = refl

-- if part then 3 else !part: both branches are in truth position
branches : found (If (at 2) (part 5) (three 12) (Not (at 19) (part 20))) ≡ Some (refused 70 (at 12) 0)
unfolding shop
branches = refl

-- all p : part | p = 3
bound : found (Quant (at 2) word.All false ((record { name = codes "p"; at = at 6 }) ∷ []) (part 10) (Equal (at 19) (Variable (at 17) 0) (three 21))) ≡ Some (refused 73 (at 17) 0)
unfolding shop compared
bound = refl
