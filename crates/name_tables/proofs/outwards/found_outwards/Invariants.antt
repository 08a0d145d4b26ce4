use Rattle.std.proofs.Common.{◌≡◌, ℕ, ◌+◌, ◌<◌, List, length, Some}
use Rattle.std.specs.Option.{option_map_or}
use Rattle.name_resolver.specs.declared.outside.Found.{Found}
use Rattle.name_resolver.specs.Outwards.{Means}
use Rattle.name_tables.specs.Tables.{IsEntry}
use Rattle.name_tables.proofs.outwards.found_outwards.Given as goal

-- what a name means from here is what it means from the context
abbrev pub invariant-loop-current : goal.invariant-loop-current
invariant-loop-current l = record {
  leads : (name : List ℕ) (r : Found) → IsEntry l.clafers name l.entry → Means l.clafers name l.current l.out r → Means l.clafers name l.fn.context 0 r;
  within : (c : ℕ) → l.current ≡ Some c → (c < length l.clafers) × (l.out + c < length l.clafers);
}

abbrev pub decreases-loop-current : goal.decreases-loop-current
decreases-loop-current l = option_map_or (λ c. c + 1) l.current 0
