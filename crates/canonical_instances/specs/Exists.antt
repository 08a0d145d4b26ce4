-- What the law of canonical instances says.
use Rattle.std.specs.Prelude.{◌≡◌, List, map, IsTrue, IsPermutation}
use Rattle.clf_tree.specs.declared.model.Model.{Model}
use Rattle.clf_tree.specs.declared.model.Clafer.{Clafer}
use Rattle.clf_tree.specs.declared.instance.Entry.{Entry}
use Rattle.clf_tree.specs.declared.scopes.Scopes.{Scopes}
use Rattle.clf_tree.specs.Nodes.{is_ordered, is_within, is_tree}
use Rattle.clf_tree.specs.Renaming.{IsIsomorphic, IsRenaming, renamed}
use Rattle.clf_tree.specs.Satisfies.{satisfies, vector_of}
use Rattle.isomorphic_instances.specs.Agree.{Agree}
use Rattle.canonical_instances.specs.Canonical.{is_canonical}
use Rattle.canonical_instances.specs.Renumbering.{renumbering}

-- a canonical instance that is isomorphic to the given one, and of which every model says the same
pub record HasCanonical (clafers : List Clafer) (scopes : Scopes) (entries : List Entry) : Type 0 where
  pub others : List Entry
  pub ordered : IsTrue (is_ordered others)
  pub isomorphic : IsIsomorphic scopes entries others
  pub canonical : IsTrue (is_canonical clafers others)
  pub agree : (model : Model) → Agree model scopes entries others

-- a canonical instance that is isomorphic to the given one and satisfies the model too, its goals having the same values
pub record SatisfiesCanonically (model : Model) (scopes : Scopes) (entries : List Entry) : Type 0 where
  pub others : List Entry
  pub ordered : IsTrue (is_ordered others)
  pub isomorphic : IsIsomorphic scopes entries others
  pub canonical : IsTrue (is_canonical model.clafers others)
  pub satisfied : IsTrue (satisfies model scopes others)
  pub goals : vector_of model entries ≡ vector_of model others

-- of the instances within the scopes that make trees
abbrev pub TreesHaveCanonical : Type 0
TreesHaveCanonical =
    (clafers : List Clafer) (scopes : Scopes) (entries : List Entry)
    → IsTrue (is_ordered entries) → IsTrue (is_within clafers scopes entries) → IsTrue (is_tree clafers entries)
    → HasCanonical clafers scopes entries

-- of the instances that satisfy a model within its scopes
abbrev pub SatisfyingHaveCanonical : Type 0
SatisfyingHaveCanonical =
    (model : Model) (scopes : Scopes) (entries : List Entry)
    → IsTrue (is_ordered entries) → IsTrue (satisfies model scopes entries) → SatisfiesCanonically model scopes entries

-- the new numbers of the nodes of an instance are a renaming
abbrev pub NewNumbersRename : Type 0
NewNumbersRename = (scopes : Scopes) (entries : List Entry) → IsRenaming scopes (renumbering scopes entries)

-- and the entries that have them are a canonical instance when they are put in order
abbrev pub NewNumbersAreCanonical : Type 0
NewNumbersAreCanonical =
    (clafers : List Clafer) (scopes : Scopes) (entries others : List Entry)
    → IsTrue (is_ordered entries) → IsTrue (is_within clafers scopes entries) → IsTrue (is_tree clafers entries)
    → IsPermutation (map (renamed (renumbering scopes entries)) entries) others → IsTrue (is_ordered others)
    → IsTrue (is_canonical clafers others)
