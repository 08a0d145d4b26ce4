-- Small instances, canonical and not, computed.
use Rattle.std.proofs.Common.{◌≡◌, ℕ, Bool, true, false, List, [], ◌∷◌, Option, Some, None, refl, pos}
use Rattle.clf_tree.specs.declared.module.Interval.{Interval}
use Rattle.clf_tree.specs.declared.model.Clafer.{Clafer}
use Rattle.clf_tree.specs.declared.instance.Node.{Node}
use Rattle.clf_tree.specs.declared.instance.Target.TheVariants as target
use Rattle.clf_tree.specs.declared.instance.Entry.{Entry}
use Rattle.clf_tree.specs.declared.scopes.Scopes.{Scopes}
use Rattle.canonical_instances.specs.Canonical.{is_canonical, follows_parents}
use Rattle.canonical_instances.specs.Renumbering.{renumbering}

abbrev any : Interval
any = record { low = 0; high = None }

abbrev clafer : Bool → Option ℕ → Option ℕ → Clafer
clafer is_abstract parent above = record {
  title = record { name = []; at = record { line = 0; column = 0 } };
  is_abstract = is_abstract;
  parent = parent;
  above = above;
  group = any;
  times = any;
  reference = None;
}

abbrev node : ℕ → ℕ → Node
node c n = record { clafer = c; number = n }

abbrev top : ℕ → ℕ → Entry
top c n = record { node = node c n; parent = None; target = None }

abbrev below : Node → ℕ → ℕ → Entry
below p c n = record { node = node c n; parent = Some p; target = None }

-- a * { b * }
abbrev nested : List Clafer
nested = clafer false None None ∷ clafer false (Some 0) None ∷ []

pub nothing : is_canonical nested [] ≡ true
nothing = refl

pub below_the_second : is_canonical nested (top 0 0 ∷ top 0 1 ∷ below (node 0 1) 1 0 ∷ []) ≡ true
below_the_second = refl

-- two of one parent
pub equal_parents : is_canonical nested (top 0 0 ∷ below (node 0 0) 1 0 ∷ below (node 0 0) 1 1 ∷ []) ≡ true
equal_parents = refl

pub in_order : is_canonical nested (top 0 0 ∷ top 0 1 ∷ below (node 0 0) 1 0 ∷ below (node 0 0) 1 1 ∷ below (node 0 1) 1 2 ∷ []) ≡ true
in_order = refl

-- a number is left out
pub gap_on_top : is_canonical nested (top 0 0 ∷ top 0 2 ∷ []) ≡ false
gap_on_top = refl

pub gap_below : is_canonical nested (top 0 0 ∷ below (node 0 0) 1 1 ∷ []) ≡ false
gap_below = refl

-- the earlier one has the later parent
pub out_of_order : is_canonical nested (top 0 0 ∷ top 0 1 ∷ below (node 0 1) 1 0 ∷ below (node 0 0) 1 1 ∷ []) ≡ false
out_of_order = refl

-- those of one parent aren't neighbours
pub apart : is_canonical nested (top 0 0 ∷ top 0 1 ∷ below (node 0 0) 1 0 ∷ below (node 0 1) 1 1 ∷ below (node 0 0) 1 2 ∷ []) ≡ false
apart = refl

-- abstract Part { cost -> int }, lens : Part ?, case : Part ?
abbrev parts : List Clafer
parts = clafer true None None ∷ clafer false (Some 0) None ∷ clafer false None (Some 0) ∷ clafer false None (Some 0) ∷ []

abbrev cost : ℕ → ℕ → ℕ → Entry
cost p n z = record { node = node 1 n; parent = Some (node p 0); target = Some (target.Int (pos z)) }

pub both_costs : is_canonical parts (cost 2 0 3 ∷ cost 3 1 4 ∷ top 2 0 ∷ top 3 0 ∷ []) ≡ true
both_costs = refl

-- lens stands before case
pub costs_exchanged : is_canonical parts (cost 3 0 4 ∷ cost 2 1 3 ∷ top 2 0 ∷ top 3 0 ∷ []) ≡ false
costs_exchanged = refl

pub one_cost : is_canonical parts (cost 3 0 4 ∷ top 3 0 ∷ []) ≡ true
one_cost = refl

pub second_cost_alone : is_canonical parts (cost 3 1 4 ∷ top 3 0 ∷ []) ≡ false
second_cost_alone = refl

-- abstract Folder { sub : Folder *, file * }, root : Folder
abbrev folders : List Clafer
folders = clafer true None None ∷ clafer false (Some 0) (Some 0) ∷ clafer false (Some 0) None ∷ clafer false None (Some 0) ∷ []

-- folders in folders are free of the order of parents, and files are not
pub folders_are_free : follows_parents folders 1 ≡ false
folders_are_free = refl

pub files_are_not : follows_parents folders 2 ≡ true
files_are_not = refl

-- root is the later node
pub three_deep : is_canonical folders (below (node 3 0) 1 0 ∷ below (node 1 0) 1 1 ∷ top 3 0 ∷ []) ≡ true
three_deep = refl

pub folder_gap : is_canonical folders (below (node 3 0) 1 1 ∷ top 3 0 ∷ []) ≡ false
folder_gap = refl

pub files_in_order : is_canonical folders (below (node 3 0) 1 0 ∷ below (node 1 0) 2 0 ∷ below (node 3 0) 2 1 ∷ top 3 0 ∷ []) ≡ true
files_in_order = refl

pub files_exchanged : is_canonical folders (below (node 3 0) 1 0 ∷ below (node 3 0) 2 0 ∷ below (node 1 0) 2 1 ∷ top 3 0 ∷ []) ≡ false
files_exchanged = refl

-- ---- new numbers: of each clafer, the numbers of 0, 1, .. below its scope

abbrev within : List ℕ → Scopes
within of = record { of = of; low = pos 0; high = pos 10 }

pub costs_renumbered : renumbering (within (0 ∷ 2 ∷ 1 ∷ 1 ∷ [])) (cost 3 0 4 ∷ cost 2 1 3 ∷ top 2 0 ∷ top 3 0 ∷ [])
    ≡ [] ∷ (1 ∷ 0 ∷ []) ∷ (0 ∷ []) ∷ (0 ∷ []) ∷ []
costs_renumbered = refl

pub gap_closed : renumbering (within (3 ∷ 2 ∷ [])) (top 0 1 ∷ top 0 2 ∷ below (node 0 2) 1 0 ∷ below (node 0 1) 1 1 ∷ [])
    ≡ (2 ∷ 0 ∷ 1 ∷ []) ∷ (1 ∷ 0 ∷ []) ∷ []
gap_closed = refl
