-- Which of several refusals is the first.
use Rattle.std.specs.Prelude.{◌≡◌, ℕ, ◌==◌, ◌&&◌, ◌||◌, Bool, true, false, List, [], ◌∷◌, Option, Some, None, if◌then◌else◌, nat_lt, not, Contains, IsTrue}
use Rattle.std.specs.List.{list_all}
use Rattle.clf_base.specs.declared.fault.Span.{Span}
use Rattle.clf_base.specs.declared.fault.Refusal.{Refusal}

abbrev pub refused : ℕ → Span → ℕ → Refusal
refused code at value = record { code = code; at = at; value = value }

-- the earlier place, and at one place the smaller code
abbrev pub is_before : Refusal → Refusal → Bool
is_before a b =
    nat_lt a.at.line b.at.line
    || (a.at.line == b.at.line && (nat_lt a.at.column b.at.column || (a.at.column == b.at.column && nat_lt a.code b.code)))

-- the first of the one that was found so far and one more
abbrev pub with_refusal : Option Refusal → Refusal → Option Refusal
with_refusal None r = Some r
with_refusal (Some first) r = if is_before r first then Some r else Some first

-- the first of the one that was found so far and those of a list
abbrev pub with_refusals : Option Refusal → List Refusal → Option Refusal
with_refusals first [] = first
with_refusals first (r ∷ rs) = with_refusals (with_refusal first r) rs

-- the first of a list
abbrev pub first_refusal : List Refusal → Option Refusal
first_refusal rs = with_refusals None rs

-- one of the list, and none of the list is before it
pub record IsFirst (rs : List Refusal) (r : Refusal) : Type 0 where
  pub among : Contains rs r
  pub least : IsTrue (list_all (λ s. not (is_before s r)) rs)

-- what `first_refusal` finds is the first, and it finds one wherever there is one
abbrev pub FindsFirst : Type 0
FindsFirst = (rs : List Refusal) → ((r : Refusal) → first_refusal rs ≡ Some r → IsFirst rs r) × (first_refusal rs ≡ None → rs ≡ [])
