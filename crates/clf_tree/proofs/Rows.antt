-- Small models, computed.
use Rattle.std.proofs.Common.{◌≡◌, ℕ, Bool, true, false, List, [], ◌∷◌, Option, Some, None, map, refl, pos, ℤ}
use Rattle.clf_base.specs.declared.fault.Span.{Span}
use Rattle.clf_tree.specs.declared.token.Title.{Title}
use Rattle.clf_tree.specs.declared.token.Word.TheVariants as word
use Rattle.clf_tree.specs.declared.module.Interval.{Interval}
use Rattle.clf_tree.specs.declared.model.Clafer.{Clafer}
use Rattle.clf_tree.specs.declared.instance.Node.{Node}
use Rattle.clf_tree.specs.declared.instance.Target.TheVariants as target
use Rattle.clf_tree.specs.declared.instance.Entry.{Entry}
use Rattle.clf_tree.specs.declared.scopes.Scopes.{Scopes}
use Rattle.clf_tree.specs.Tree as e
use Rattle.clf_tree.specs.Tree.{Tree}
use Rattle.clf_tree.specs.Hierarchy.{owners}
use Rattle.clf_tree.specs.declared.kind.Within.{Within}
use Rattle.clf_tree.specs.declared.kind.Kind.TheVariants.{Nodes}
use Rattle.clf_tree.specs.Kinds.{kind}
use Rattle.clf_tree.specs.Intervals.{interval}
use Rattle.clf_tree.specs.Satisfies.{Law, satisfies_laws, value_outside}
use Rattle.clf_tree.specs.Nodes.{is_tree}
use Rattle.clf_tree.specs.Front.{dominates, before, is_better_somewhere}
use Rattle.clf_tree.specs.Renaming.{renamed}

abbrev here : Span
here = record { line = 0; column = 0 }

abbrev called : List ℕ → Title
called name = record { name = name; at = here }

abbrev times : ℕ → ℕ → Interval
times low high = record { low = low; high = Some high }

abbrev any : Interval
any = record { low = 0; high = None }

abbrev plain : Option ℕ → ℕ → ℕ → Clafer
plain parent low high = record { title = called []; is_abstract = false; parent = parent; above = None; group = any; times = times low high; reference = None }

abbrev node : ℕ → ℕ → Node
node c n = record { clafer = c; number = n }

abbrev top : ℕ → ℕ → Entry
top c n = record { node = node c n; parent = None; target = None }

abbrev below : Node → ℕ → ℕ → Entry
below p c n = record { node = node c n; parent = Some p; target = None }

abbrev range : List ℕ → Scopes
range of = record { of = of; low = pos 0; high = pos 10 }

-- a { b ? c ? [ b => c ] [ b ] }
abbrev feature : List Clafer
feature = plain None 1 1 ∷ plain (Some 0) 0 1 ∷ plain (Some 0) 0 1 ∷ []

abbrev child : ℕ → Tree
child c = e.Step here (e.This here) (c ∷ []) false

abbrev feature_laws : List Law
feature_laws = (Some 0, e.Implies here (child 1) (child 2)) ∷ (Some 0, child 1) ∷ []

pub feature_both : satisfies_laws feature feature_laws (range (1 ∷ 1 ∷ 1 ∷ [])) (top 0 0 ∷ below (node 0 0) 1 0 ∷ below (node 0 0) 2 0 ∷ []) ≡ true
feature_both = refl

pub feature_alone : satisfies_laws feature feature_laws (range (1 ∷ 1 ∷ 1 ∷ [])) (top 0 0 ∷ []) ≡ false
feature_alone = refl

-- v ->> int 2 [ sum v = 10 ] [ v = 5 ]
abbrev numbers : Bool → List Clafer
numbers bag = (record { title = called []; is_abstract = false; parent = None; above = None; group = any; times = times 2 2; reference = Some (record { at = here; bag = bag; to = None }) }) ∷ []

abbrev number_laws : List Law
number_laws = (None, e.Equal here (e.Sum here (e.Clafer here 0)) (e.Literal here 10)) ∷ (None, e.Equal here (e.Clafer here 0) (e.Literal here 5)) ∷ []

abbrev has_int : ℕ → ℕ → ℕ → Entry
has_int c n z = record { node = node c n; parent = None; target = Some (target.Int (pos z)) }

pub two_fives : satisfies_laws (numbers true) number_laws (range (2 ∷ [])) (has_int 0 0 5 ∷ has_int 0 1 5 ∷ []) ≡ true
two_fives = refl

-- a set reference wants different targets
pub two_fives_as_set : satisfies_laws (numbers false) number_laws (range (2 ∷ [])) (has_int 0 0 5 ∷ has_int 0 1 5 ∷ []) ≡ false
two_fives_as_set = refl

pub five_and_six : satisfies_laws (numbers true) number_laws (range (2 ∷ [])) (has_int 0 0 5 ∷ has_int 0 1 6 ∷ []) ≡ false
five_and_six = refl

-- abstract Part { cost -> int }, lens : Part ?, case : Part ?
abbrev part_model : List Clafer
part_model =
    record { title = called []; is_abstract = true; parent = None; above = None; group = any; times = any; reference = None }
    ∷ record { title = called []; is_abstract = false; parent = Some 0; above = None; group = any; times = times 1 1; reference = Some (record { at = here; bag = false; to = None }) }
    ∷ record { title = called []; is_abstract = false; parent = None; above = Some 0; group = any; times = times 0 1; reference = None }
    ∷ record { title = called []; is_abstract = false; parent = None; above = Some 0; group = any; times = times 0 1; reference = None } ∷ []

pub cost_owners : owners part_model 1 ≡ 2 ∷ 3 ∷ []
cost_owners = refl

abbrev cost_below : ℕ → ℕ → ℕ → Entry
cost_below p n z = record { node = node 1 n; parent = Some (node p 0); target = Some (target.Int (pos z)) }

abbrev both_parts : List Entry
both_parts = cost_below 2 0 3 ∷ cost_below 3 1 1 ∷ top 2 0 ∷ top 3 0 ∷ []

pub parts_satisfy : satisfies_laws part_model [] (range (0 ∷ 2 ∷ 1 ∷ 1 ∷ [])) both_parts ≡ true
parts_satisfy = refl

-- sum Part.cost
pub cost_sum : value_outside part_model both_parts (e.Sum here (e.Step here (e.Clafer here 0) (1 ∷ []) false)) ≡ pos 4
cost_sum = refl

-- t 2, x ->> t 2, [ some disj p; q : x | p.dref = q.dref ], [ t in x.dref ]
abbrev refs_model : List Clafer
refs_model =
    plain None 2 2
    ∷ record { title = called []; is_abstract = false; parent = None; above = None; group = any; times = times 2 2; reference = Some (record { at = here; bag = true; to = Some 0 }) } ∷ []

abbrev same_refs : Law
same_refs = (None, e.Quant here word.Some true (called [] ∷ called [] ∷ []) (e.Clafer here 1) (e.Equal here (e.Dref here (e.Variable here 1)) (e.Dref here (e.Variable here 0))))

abbrev all_referred : Law
all_referred = (None, e.In here (e.Clafer here 0) (e.Dref here (e.Clafer here 1)))

abbrev refers_to : ℕ → ℕ → Entry
refers_to n m = record { node = node 1 n; parent = None; target = Some (target.Node (node 0 m)) }

abbrev refs_at : ℕ → ℕ → List Entry
refs_at m n = top 0 0 ∷ top 0 1 ∷ refers_to 0 m ∷ refers_to 1 n ∷ []

pub both_same : satisfies_laws refs_model (same_refs ∷ []) (range (2 ∷ 2 ∷ [])) (refs_at 0 0) ≡ true
both_same = refl

pub both_same_not_all : satisfies_laws refs_model (same_refs ∷ all_referred ∷ []) (range (2 ∷ 2 ∷ [])) (refs_at 0 0) ≡ false
both_same_not_all = refl

pub different : satisfies_laws refs_model (same_refs ∷ []) (range (2 ∷ 2 ∷ [])) (refs_at 0 1) ≡ false
different = refl

pub different_all : satisfies_laws refs_model (all_referred ∷ []) (range (2 ∷ 2 ∷ [])) (refs_at 0 1) ≡ true
different_all = refl

-- n * n in n -> int with the range 0..3
abbrev one_number : List Clafer
one_number = record { title = called []; is_abstract = false; parent = None; above = None; group = any; times = times 1 1; reference = Some (record { at = here; bag = false; to = None }) } ∷ []

abbrev no_context : Within
no_context = record { this = None; bound = [] }

pub square_ends : interval one_number (record { of = 1 ∷ []; low = pos 0; high = pos 3 }) (e.Mul here (e.Clafer here 0) (e.Clafer here 0)) no_context ≡ record { low = pos 0; high = pos 9 }
square_ends = refl

-- the kind of the child b of a, read at a
pub child_kind : kind feature (child 1) (record { this = Some 0; bound = [] }) ≡ Some (Nodes (1 ∷ []))
child_kind = refl

-- a clafer `a` without the child that its law asks for, and a child without its parent
pub feature_half : satisfies_laws feature feature_laws (range (1 ∷ 1 ∷ 1 ∷ [])) (top 0 0 ∷ below (node 0 0) 1 0 ∷ []) ≡ false
feature_half = refl

pub orphan : is_tree feature (below (node 0 0) 1 0 ∷ []) ≡ false
orphan = refl

-- xor a { b c }: exactly one of both
abbrev choice : List Clafer
choice = record { title = called []; is_abstract = false; parent = None; above = None; group = times 1 1; times = times 1 1; reference = None } ∷ plain (Some 0) 0 1 ∷ plain (Some 0) 0 1 ∷ []

pub one_chosen : satisfies_laws choice [] (range (1 ∷ 1 ∷ 1 ∷ [])) (top 0 0 ∷ below (node 0 0) 2 0 ∷ []) ≡ true
one_chosen = refl

pub both_chosen : satisfies_laws choice [] (range (1 ∷ 1 ∷ 1 ∷ [])) (top 0 0 ∷ below (node 0 0) 1 0 ∷ below (node 0 0) 2 0 ∷ []) ≡ false
both_chosen = refl

-- a { b -> int ? }: no value is not the value 0, though no values add up to 0
abbrev optional_number : List Clafer
optional_number = plain None 1 1 ∷ record { title = called []; is_abstract = false; parent = Some 0; above = None; group = any; times = times 0 1; reference = Some (record { at = here; bag = false; to = None }) } ∷ []

abbrev value_of_b : Tree
value_of_b = e.Step here (e.Clafer here 0) (1 ∷ []) false

abbrev b_is_zero : List Law
b_is_zero = (None, e.Equal here value_of_b (e.Literal here 0)) ∷ []

abbrev b_at_most_zero : List Law
b_at_most_zero = (None, e.LessEqual here value_of_b (e.Literal here 0)) ∷ []

abbrev b_with : ℕ → Entry
b_with z = record { node = node 1 0; parent = Some (node 0 0); target = Some (target.Int (pos z)) }

pub zero_equals_zero : satisfies_laws optional_number b_is_zero (range (1 ∷ 1 ∷ [])) (top 0 0 ∷ b_with 0 ∷ []) ≡ true
zero_equals_zero = refl

pub nothing_equals_no_zero : satisfies_laws optional_number b_is_zero (range (1 ∷ 1 ∷ [])) (top 0 0 ∷ []) ≡ false
nothing_equals_no_zero = refl

pub nothing_adds_up_to_zero : satisfies_laws optional_number b_at_most_zero (range (1 ∷ 1 ∷ [])) (top 0 0 ∷ []) ≡ true
nothing_adds_up_to_zero = refl

-- enum Colour = red | green, car { paint -> Colour [ paint = red ] }: the left side is read as its `dref`
abbrev colours : List Clafer
colours =
    record { title = called []; is_abstract = true; parent = None; above = None; group = any; times = any; reference = None }
    ∷ record { title = called []; is_abstract = false; parent = None; above = Some 0; group = any; times = times 1 1; reference = None }
    ∷ record { title = called []; is_abstract = false; parent = None; above = Some 0; group = any; times = times 1 1; reference = None }
    ∷ plain None 1 1
    ∷ record { title = called []; is_abstract = false; parent = Some 3; above = None; group = any; times = times 1 1; reference = Some (record { at = here; bag = false; to = Some 0 }) } ∷ []

abbrev painted_red : List Law
painted_red = (Some 3, e.Equal here (child 4) (e.Clafer here 1)) ∷ []

abbrev car_in : ℕ → List Entry
car_in colour = top 1 0 ∷ top 2 0 ∷ top 3 0 ∷ record { node = node 4 0; parent = Some (node 3 0); target = Some (target.Node (node colour 0)) } ∷ []

pub red_car : satisfies_laws colours painted_red (range (0 ∷ 1 ∷ 1 ∷ 1 ∷ 1 ∷ [])) (car_in 1) ≡ true
red_car = refl

pub green_car : satisfies_laws colours painted_red (range (0 ∷ 1 ∷ 1 ∷ 1 ∷ 1 ∷ [])) (car_in 2) ≡ false
green_car = refl

-- paint and red share no clafer, so without a reference between them nothing is compared
pub no_reading : kind feature (e.Equal here (child 1) (child 2)) (record { this = Some 0; bound = [] }) ≡ None
no_reading = refl

-- the least first goal and the greatest second one
abbrev pair : ℕ → ℕ → List ℤ
pair x y = pos x ∷ pos y ∷ []

abbrev cost_and_gain : List Bool
cost_and_gain = true ∷ false ∷ []

pub cheaper_dominates : dominates cost_and_gain (pair 4 3) (pair 5 3) ≡ true
cheaper_dominates = refl

pub dominated : dominates cost_and_gain (pair 5 3) (pair 4 3) ≡ false
dominated = refl

pub equal_ones : dominates cost_and_gain (pair 4 3) (pair 4 3) ≡ false
equal_ones = refl

pub incomparable : dominates cost_and_gain (pair 2 1) (pair 4 3) ≡ false
incomparable = refl

pub incomparable_back : dominates cost_and_gain (pair 4 3) (pair 2 1) ≡ false
incomparable_back = refl

pub cheaper_first : before cost_and_gain (pair 2 1) (pair 4 3) ≡ true
cheaper_first = refl

pub better_somewhere : is_better_somewhere cost_and_gain (pair 4 3) (pair 2 1) ≡ true
better_somewhere = refl

-- the two costs with their numbers swapped
pub swapped : map (renamed ([] ∷ (1 ∷ 0 ∷ []) ∷ (0 ∷ []) ∷ (0 ∷ []) ∷ [])) both_parts ≡ cost_below 2 1 3 ∷ cost_below 3 0 1 ∷ top 2 0 ∷ top 3 0 ∷ []
swapped = refl
