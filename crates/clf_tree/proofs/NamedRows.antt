-- What is known of a model after look-up, computed on small models.
use Rattle.std.proofs.Common.{◌≡◌, ℕ, Bool, true, false, List, [], ◌∷◌, Option, Some, None, map, refl}
use Rattle.std.specs.Prelude.{codes}
use Rattle.clf_base.specs.declared.fault.Span.{Span}
use Rattle.clf_tree.specs.declared.token.Word.TheVariants as word
use Rattle.clf_tree.specs.declared.module.Interval.{Interval}
use Rattle.clf_tree.specs.declared.model.Clafer.{Clafer}
use Rattle.clf_tree.specs.Lists.{each_two}
use Rattle.clf_tree.specs.Tree as e
use Rattle.clf_tree.specs.Tree.{Tree}
use Rattle.clf_tree.specs.Spelling.{spelled_word}
use Rattle.clf_tree.specs.Named.{is_wrong, are_told_apart, has_right_super, inherits_itself, contains_itself, repeats_inherited, is_looked_up}

abbrev here : Span
here = record { line = 1; column = 1 }

abbrev any : Interval
any = record { low = 0; high = None }

abbrev clafer : List ℕ → Bool → Option ℕ → Option ℕ → Clafer
clafer name is_abstract parent above = record {
  title = record { name = name; at = here };
  is_abstract = is_abstract;
  parent = parent;
  above = above;
  group = any;
  times = any;
  reference = None;
}

-- 3..2
bounds : is_wrong (record { low = 3; high = Some 2 }) ≡ true
bounds = refl

-- a { a } is no repetition, a beside a is one
below : each_two are_told_apart (clafer (codes "a") false None None ∷ clafer (codes "a") false (Some 0) None ∷ []) ≡ true
below = refl

beside : each_two are_told_apart (clafer (codes "a") false None None ∷ clafer (codes "a") false None None ∷ []) ≡ false
beside = refl

-- abstract A : B, abstract B : A
ring : List Clafer
ring = clafer (codes "A") true None (Some 1) ∷ clafer (codes "B") true None (Some 0) ∷ []

cycle : map (inherits_itself ring) (0 ∷ 1 ∷ []) ≡ true ∷ true ∷ []
unfolding ring
cycle = refl

-- abstract A { a : A }; b : A
nest : List Clafer
nest = clafer (codes "A") true None None ∷ clafer (codes "a") false (Some 0) (Some 0) ∷ clafer (codes "b") false None (Some 0) ∷ []

contained : map (contains_itself nest) (0 ∷ 1 ∷ 2 ∷ []) ≡ false ∷ true ∷ false ∷ []
unfolding nest
contained = refl

supers : map (has_right_super nest) (0 ∷ 1 ∷ 2 ∷ []) ≡ true ∷ true ∷ true ∷ []
unfolding nest
supers = refl

-- abstract A { x }; abstract B : A { x; y }; b : B { y; z }
family : List Clafer
family =
    clafer (codes "A") true None None ∷ clafer (codes "x") false (Some 0) None
    ∷ clafer (codes "B") true None (Some 0) ∷ clafer (codes "x") false (Some 2) None ∷ clafer (codes "y") false (Some 2) None
    ∷ clafer (codes "b") false None (Some 2) ∷ clafer (codes "y") false (Some 5) None ∷ clafer (codes "z") false (Some 5) None ∷ []

inherited : map (repeats_inherited family) (1 ∷ 3 ∷ 4 ∷ 6 ∷ 7 ∷ []) ≡ false ∷ true ∷ false ∷ true ∷ false ∷ []
unfolding family
inherited = refl

-- at top level there is no `this`; below a clafer `this.parent` needs a nested clafer
outside : is_looked_up family (e.This here) (record { this = None; bound = [] }) ≡ false
unfolding family
outside = refl

top : is_looked_up family (e.Parent here (e.This here)) (record { this = Some 5; bound = [] }) ≡ false
unfolding family
top = refl

nested : is_looked_up family (e.Parent here (e.This here)) (record { this = Some 7; bound = [] }) ≡ true
unfolding family
nested = refl

variable : is_looked_up family (e.Quant here word.Some false (record { name = codes "z"; at = here } ∷ []) (e.Clafer here 5) (e.Some here (e.Variable here 0))) (record { this = None; bound = [] }) ≡ true
unfolding family spelled_word
variable = refl
