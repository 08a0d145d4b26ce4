-- What is refused of clafers whose supers are linked: containment in itself, second references, and names of inherited children.
use Rattle.std.specs.Prelude.{ℕ, ◌≡◌, ◌&&◌, Bool, false, not, nat_eq, bytes_eq, List, [], ◌++◌, length, slice_get, Option, Some, None, is_some, IsTrue}
use Rattle.std.specs.Option.{option_eq, option_map, option_map_or, option_or}
use Rattle.std.specs.List.{flat_map}
use Rattle.clf_base.specs.declared.fault.Refusal.{Refusal}
use Rattle.clf_base.specs.declared.fault.Fault.{Fault}
use Rattle.clf_base.specs.declared.fault.Fault.TheVariants as fault
use Rattle.refusal_order.specs.Order.{first_refusal}
use Rattle.clf_tree.specs.declared.model.Reference.{Reference}
use Rattle.clf_tree.specs.declared.model.Clafer.{Clafer}
use Rattle.clf_tree.specs.declared.plain.PlainClafer.{PlainClafer}
use Rattle.clf_tree.specs.Lists.{numbers_below}
use Rattle.clf_tree.specs.Hierarchy.{super_of, reference_of}
use Rattle.clf_tree.specs.Named.{each, contains_itself, repeats_inherited}
use Rattle.clf_tree.specs.IntervalsHold.{refers_once}
use Rattle.super_linker.specs.Supers.{refused_if, linked, supers_refusals}

-- whether it has this parent, or none, and this name
abbrev pub stands_at : Option ℕ → List ℕ → Clafer → Bool
stands_at parent name k = option_eq nat_eq parent k.parent && bytes_eq name k.title.name

-- whether its super has a reference, of its own or inherited
abbrev pub inherits_reference : List Clafer → ℕ → Bool
inherits_reference clafers c = option_map_or (λ s. is_some (reference_of clafers s)) (super_of clafers c) false

-- a reference of a clafer that inherits one
abbrev pub reference_refusals : List Clafer → ℕ → Option Reference → List Refusal
reference_refusals clafers c reference = option_map_or (λ r. refused_if (inherits_reference clafers c) 65 r.at) reference []

-- a clafer from which going from owner to owner leads back, a second reference, and a child of the name of an inherited child
abbrev pub refusals_at : List Clafer → ℕ → Clafer → List Refusal
refusals_at clafers c k =
    refused_if (contains_itself clafers c) 64 k.title.at
    ++ (reference_refusals clafers c k.reference ++ refused_if (repeats_inherited clafers c) 68 k.title.at)

abbrev pub clafer_refusals : List Clafer → ℕ → List Refusal
clafer_refusals clafers c = option_map_or (refusals_at clafers c) (slice_get clafers c) []

-- all that is refused of containment, references and names of children
abbrev pub family_refusals : List Clafer → List Refusal
family_refusals clafers = flat_map (clafer_refusals clafers) (numbers_below (length clafers))

-- what is known where nothing of it is refused
pub record IsFamily (clafers : List Clafer) : Type 0 where
  pub contains_no_cycle : IsTrue (each clafers (λ c. not (contains_itself clafers c)))
  pub refers : IsTrue (refers_once clafers)
  pub inherits_apart : IsTrue (each clafers (λ c. not (repeats_inherited clafers c)))

-- a reference, and a clafer, that has no target yet
abbrev pub untargeted : Reference → Reference
untargeted r = record r { to = None }

abbrev pub without_target : Clafer → Clafer
without_target k = record k { reference = option_map untargeted k.reference }

-- why clafers are no family
abbrev pub Explains : List Clafer → Fault → Type 0
Explains clafers (fault.Refused r) = first_refusal (family_refusals clafers) ≡ Some r
Explains clafers fault.NoMemory = Unit {0}

-- ---- both parts

-- what is refused of supers comes before all that is refused of families
abbrev pub parts_refusal : List PlainClafer → Option Refusal
parts_refusal ks = option_or (first_refusal (supers_refusals ks)) (first_refusal (family_refusals (linked ks)))

-- why there are no linked families
abbrev pub ExplainsParts : List PlainClafer → Fault → Type 0
ExplainsParts ks (fault.Refused r) = parts_refusal ks ≡ Some r
ExplainsParts ks fault.NoMemory = Unit {0}
