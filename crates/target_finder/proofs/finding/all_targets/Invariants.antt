use Rattle.std.proofs.Common.{◌≡◌, map, take, drop}
use Rattle.std.specs.List.{filter_map}
use Rattle.refusal_order.specs.Order.{with_refusals, first_refusal}
use Rattle.target_finder.specs.Targets.{target_of, target_refusal}
use Rattle.target_finder.proofs.finding.all_targets.Given as goal

-- the targets so far, and what is left leads on to the first refusal of all
abbrev pub invariant-loop-clafer : goal.invariant-loop-clafer
invariant-loop-clafer l = record {
  found : l.found ≡ map (target_of l.clafers) (take l.clafer-index l.plain);
  first : first_refusal (filter_map (target_refusal l.clafers) l.plain) ≡ with_refusals l.refused (filter_map (target_refusal l.clafers) (drop l.clafer-index l.plain));
}
