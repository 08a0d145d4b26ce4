-- What a clafer inherits from, by name, and what is refused of it.
use Rattle.std.specs.Prelude.{ℕ, ◌≡◌, ◌+◌, ◌&&◌, Bool, true, not, List, [], ◌∷◌, ◌++◌, map, length, slice_get, bytes_eq, Option, Some, None, is_some, is_none, if◌then◌else◌, IsTrue}
use Rattle.std.specs.Option.{option_map, option_map_or, option_and_then}
use Rattle.std.specs.List.{flat_map, position_from}
use Rattle.clf_base.specs.declared.fault.Span.{Span}
use Rattle.clf_base.specs.declared.fault.Refusal.{Refusal}
use Rattle.clf_base.specs.declared.fault.Fault.{Fault}
use Rattle.clf_base.specs.declared.fault.Fault.TheVariants as fault
use Rattle.refusal_order.specs.Order.{refused, first_refusal}
use Rattle.clf_tree.specs.declared.module.Pointer.{Pointer}
use Rattle.clf_tree.specs.declared.model.Reference.{Reference}
use Rattle.clf_tree.specs.declared.model.Clafer.{Clafer}
use Rattle.clf_tree.specs.declared.plain.PlainClafer.{PlainClafer}
use Rattle.clf_tree.specs.Lists.{numbers_below}
use Rattle.clf_tree.specs.Hierarchy.{is_below, is_closed}
use Rattle.clf_tree.specs.Named.{each, follows_parent, has_right_super, inherits_itself}

-- whether the parent of each clafer stands before it, where the first of the list has number c
abbrev pub parents_first : ℕ → List PlainClafer → Bool
parents_first c [] = true
parents_first c (k ∷ ks) = is_below c k.parent && parents_first (c + 1) ks

-- whether it is an abstract clafer of this name, at top level
abbrev pub is_super_named : List ℕ → PlainClafer → Bool
is_super_named name k = k.is_abstract && (is_none k.parent && bytes_eq name k.title.name)

-- the number of the abstract clafer of a name at top level; of several the first
abbrev pub super_number : List PlainClafer → List ℕ → Option ℕ
super_number ks name = position_from (is_super_named name) 0 ks

-- the number of the super that a clafer names
abbrev pub super_named : List PlainClafer → PlainClafer → Option ℕ
super_named ks k = option_and_then (λ t. super_number ks t.name) k.above

-- a reference whose target isn't looked up yet
abbrev pub unlinked : Pointer → Reference
unlinked p = record { at = p.at; bag = p.bag; to = None }

-- a clafer whose super is known by its number
abbrev pub with_super : Option ℕ → PlainClafer → Clafer
with_super above k = record {
  title = k.title;
  is_abstract = k.is_abstract;
  parent = k.parent;
  above = above;
  group = k.group;
  times = k.times;
  reference = option_map unlinked k.reference;
}

-- a clafer whose super is looked up
abbrev pub linked_clafer : List PlainClafer → PlainClafer → Clafer
linked_clafer ks k = with_super (super_named ks k) k

-- the clafers with their supers looked up
abbrev pub linked : List PlainClafer → List Clafer
linked ks = map (linked_clafer ks) ks

abbrev pub refused_if : Bool → ℕ → Span → List Refusal
refused_if met code at = if met then refused code at 0 ∷ [] else []

-- whether it names a super, and no abstract clafer at top level has that name
abbrev pub lacks_super : List PlainClafer → PlainClafer → Bool
lacks_super ks k = is_some k.above && is_none (super_named ks k)

-- a super that isn't there, and a clafer above itself
abbrev pub super_refusals : List PlainClafer → ℕ → List Refusal
super_refusals ks c =
    option_map_or (λ k. refused_if (lacks_super ks k) 60 k.title.at ++ refused_if (inherits_itself (linked ks) c) 61 k.title.at) (slice_get ks c) []

-- all that is refused of supers
abbrev pub supers_refusals : List PlainClafer → List Refusal
supers_refusals ks = flat_map (super_refusals ks) (numbers_below (length ks))

-- what is known of clafers whose supers are looked up, and none of which is above itself
pub record InheritsWell (clafers : List Clafer) : Type 0 where
  pub closed : IsTrue (is_closed clafers)
  pub parents_first : IsTrue (each clafers (follows_parent clafers))
  pub inherits_abstract : IsTrue (each clafers (has_right_super clafers))
  pub inherits_no_cycle : IsTrue (each clafers (λ c. not (inherits_itself clafers c)))

-- why supers can't be linked
abbrev pub Explains : List PlainClafer → Fault → Type 0
Explains ks (fault.Refused r) = first_refusal (supers_refusals ks) ≡ Some r
Explains ks fault.NoMemory = Unit {0}
