-- The weights of clafers, constraints and goals, with numbers that count no further than to the limit.
use Rattle.std.specs.Prelude.{ℕ, Bool, List, [], ◌∷◌, length, map, sum, max, slice_get, Option, None, if◌then◌else◌}
use Rattle.std.specs.Option.{option_map_or}
use Rattle.clf_base.specs.declared.fault.Refusal.{Refusal}
use Rattle.clf_tree.specs.declared.model.Clafer.{Clafer}
use Rattle.clf_tree.specs.declared.model.Rule.{Rule}
use Rattle.clf_tree.specs.declared.model.Goal.{Goal}
use Rattle.clf_tree.specs.declared.model.Model.{Model}
use Rattle.clf_tree.specs.declared.scopes.Scopes.{Scopes}
use Rattle.clf_tree.specs.Tree.{tree}
use Rattle.clf_tree.specs.Lists.{numbers_below}
use Rattle.clf_tree.specs.Nodes.{scope_of}
use Rattle.clf_tree.specs.Kinds.{kind}
use Rattle.clf_tree.specs.Intervals.{interval, room}
use Rattle.clf_tree.specs.Numerics.{place}
use Rattle.int_widths.specs.Narrow.{within_context}
use Rattle.int_widths.specs.Weight.{rule_instances, owner_room, child_room, target_slots, has_pairs, counted_to, is_any}
use Rattle.model_weight.specs.Capped.{capped, plus, times, total}
use Rattle.model_weight.specs.Light.{tested, counted, light, n_of}
use Rattle.model_weight.specs.Refusals.{first_of, with_own, wide_inside}

-- of a concrete clafer with s instances, p that can be the parent of one, t targets of each, and counted to u
abbrev pub concrete : ℕ → ℕ → ℕ → Bool → ℕ → ℕ
concrete s p t pairs u =
    plus (plus (plus 1 (times (times 32 s) (plus (plus p t) 2))) (if pairs then times (times (times 4 s) s) (plus (plus p t) 2) else 0))
    (times (times (times 8 (max p 1)) s) (plus u 1))

-- so many nodes, counted to u, once, and below each of d
abbrev pub counting : ℕ → ℕ → ℕ
counting m u = times (times 8 m) (plus u 1)

abbrev pub counting_below : ℕ → ℕ → ℕ → ℕ
counting_below d m u = times (times (times 8 d) m) (plus u 1)

module _ (clafers : List Clafer) (scopes : Scopes) where
  abbrev pub light_concrete : ℕ → Clafer → ℕ
  light_concrete c k =
      concrete (scope_of scopes c) (owner_room clafers scopes c) (target_slots clafers scopes c) (has_pairs clafers scopes c k)
      (counted_to k.times (scope_of scopes c))

  abbrev pub light_abstract : ℕ → Clafer → ℕ
  light_abstract c k =
      if is_any k.times then 0 else counting (room clafers scopes (c ∷ [])) (counted_to k.times (room clafers scopes (c ∷ [])))

  abbrev pub light_group : ℕ → Clafer → ℕ
  light_group c k =
      if is_any k.group then 0 else counting_below (room clafers scopes (c ∷ [])) (child_room clafers scopes c) (counted_to k.group (child_room clafers scopes c))

  abbrev pub light_clafer : ℕ → Clafer → ℕ
  light_clafer c k = plus (if k.is_abstract then light_abstract c k else light_concrete c k) (light_group c k)

  abbrev pub light_at : ℕ → ℕ
  light_at c = option_map_or (light_clafer c) (slice_get clafers c) 0

  abbrev pub light_rule : Rule → ℕ
  light_rule r =
      let t = tree r.body in
      let w = within_context r.context in
      plus (times (rule_instances clafers scopes r.context) (plus (tested scopes (kind clafers t w) (n_of clafers scopes t w) (light clafers scopes t w)) 8)) 8

  abbrev pub light_goal : Goal → ℕ
  light_goal g =
      let t = tree g.body in
      let w = within_context None in
      plus (counted scopes (kind clafers t w) (n_of clafers scopes t w) (light clafers scopes t w)) 8

  abbrev pub rule_wide : Rule → Option Refusal
  rule_wide r = wide_inside clafers scopes (tree r.body) (within_context r.context)

  abbrev pub goal_wide : Goal → Option Refusal
  goal_wide g = with_own (place (tree g.body)) (interval clafers scopes (tree g.body) (within_context None)) (wide_inside clafers scopes (tree g.body) (within_context None))

  -- the first of the one that was found so far and those of a list
  abbrev pub rules_wide : Option Refusal → List Rule → Option Refusal
  rules_wide first [] = first
  rules_wide first (r ∷ rs) = rules_wide (first_of first (rule_wide r)) rs

  abbrev pub goals_wide : Option Refusal → List Goal → Option Refusal
  goals_wide first [] = first
  goals_wide first (g ∷ gs) = goals_wide (first_of first (goal_wide g)) gs

-- of a whole model
abbrev pub light_model : Scopes → Model → ℕ
light_model scopes m =
    plus (plus (plus 8 (capped (sum (map (light_at m.clafers scopes) (numbers_below (length m.clafers)))))) (total (light_rule m.clafers scopes) 0 m.rules))
    (total (light_goal m.clafers scopes) 0 m.goals)

abbrev pub wide_model : Scopes → Model → Option Refusal
wide_model scopes m = goals_wide m.clafers scopes (rules_wide m.clafers scopes None m.rules) m.goals
