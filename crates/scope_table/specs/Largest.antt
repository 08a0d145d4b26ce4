-- The greatest number of instances of each clafer.
use Rattle.std.specs.Prelude.{ℕ, zero, suc, ◌*◌, List, length, map, sum, max, min, ◌^◌, ◌-◌, slice_get, is_none, if◌then◌else◌}
use Rattle.std.specs.Option.{option_map_or}
use Rattle.clf_tree.specs.declared.model.Clafer.{Clafer}
use Rattle.clf_tree.specs.declared.module.Interval.{Interval}
use Rattle.clf_tree.specs.declared.scopes.Given.{Given}
use Rattle.clf_tree.specs.Hierarchy.{parent_of, is_concrete, owners}
use Rattle.scope_table.specs.Paths.{given_to}

-- how often a clafer may be there: its upper bound, or the larger of its lower one and the default
abbrev pub most_times : ℕ → Interval → ℕ
most_times default times = option_map_or (λ high. high) times.high (max times.low default)

module _ (clafers : List Clafer) (given : Given) where
  abbrev pub most_of : ℕ → ℕ
  most_of c = option_map_or (λ k. most_times given.default k.times) (slice_get clafers c) 0

  -- The scope of a clafer from those of its owners: 0 of an abstract one; else the one that is given; else how often it may be
  -- there, at top level in all and else in each owner's instance.
  abbrev pub scope_over : (ℕ → ℕ) → ℕ → ℕ
  scope_over of c =
      if is_concrete clafers c
      then option_map_or (λ most. most) (given_to clafers given.scopes c) (most_of c * (if is_none (parent_of clafers c) then 1 else sum (map of (owners clafers c))))
      else 0

  -- the scope of a clafer with fewer than n owners above one another
  abbrev pub scope_within : ℕ → ℕ → ℕ
  scope_within zero c = 0
  scope_within (suc n) c = scope_over (scope_within n) c

  -- The scope of a clafer. As no clafer contains itself, no more than all clafers are owners above one another.
  abbrev pub scope : ℕ → ℕ
  scope c = scope_within (length clafers) c

-- a number, or 2 ^ 63 - 1 where it is larger
abbrev pub told : ℕ → ℕ
told n = min (2 ^ 63 - 1) n
