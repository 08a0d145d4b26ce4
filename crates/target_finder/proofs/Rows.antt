-- Small models, computed.
use Rattle.std.proofs.Common.{◌≡◌, ℕ, false, List, [], ◌∷◌, Option, Some, None, refl}
use Rattle.clf_base.specs.declared.fault.Span.{Span}
use Rattle.refusal_order.specs.Order.{refused}
use Rattle.clf_tree.specs.declared.model.Clafer.{Clafer}
use Rattle.clf_tree.specs.declared.module.Pointer.{Pointer}
use Rattle.name_resolver.specs.Meaning.{meaning_of}
use Rattle.target_finder.specs.Targets.{target_from, refusal_from}

abbrev at : ℕ → Span
at line = record { line = line; column = 1 }

abbrev clafer : ℕ → Option ℕ → Clafer
clafer name parent = record {
  title = record { name = name ∷ []; at = at 1 };
  is_abstract = false;
  parent = parent;
  above = None;
  group = record { low = 0; high = None };
  times = record { low = 1; high = Some 1 };
  reference = None;
}

abbrev to : ℕ → Option Pointer
to name = Some (record { at = at 2; bag = false; to = Some (record { name = name ∷ []; at = at 3 }) })

-- x, and a with another x
abbrev two_of_a_name : List Clafer
two_of_a_name = clafer 120 None ∷ clafer 97 None ∷ clafer 120 (Some 1) ∷ []

-- the target of a is looked up from outside of it
pub not_below_itself : target_from two_of_a_name None (to 120) ≡ Some 0
unfolding meaning_of
not_below_itself = refl

-- that of a child of a is looked up from a
pub beside_it : target_from two_of_a_name (Some 1) (to 120) ≡ Some 2
unfolding meaning_of
beside_it = refl

pub missing : refusal_from two_of_a_name (Some 1) (to 121) ≡ Some (refused 67 (at 3) 0)
unfolding meaning_of
missing = refl

-- b with c and d, each with a y
abbrev two_below : List Clafer
two_below = clafer 98 None ∷ clafer 99 (Some 0) ∷ clafer 121 (Some 1) ∷ clafer 100 (Some 0) ∷ clafer 121 (Some 3) ∷ []

pub ambiguous : refusal_from two_below (Some 0) (to 121) ≡ Some (refused 63 (at 3) 0)
unfolding meaning_of
ambiguous = refl

-- an integer target is looked up nowhere
pub integers : refusal_from two_below (Some 0) (Some (record { at = at 2; bag = false; to = None })) ≡ None
integers = refl
