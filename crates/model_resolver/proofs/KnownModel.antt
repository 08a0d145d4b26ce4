-- A model whose names are looked up, where nothing is refused, is known to be so.
use Rattle.std.proofs.Common.{◌≡◌, ◌&&◌, Bool, true, false, List, [], ◌∷◌, ◌++◌, length, map, Option, Some, None, refl, sym, subst}
use Rattle.std.specs.Prelude.{IsTrue, if◌then◌else◌}
use Rattle.std.specs.List.{list_all, filter_map, cons_option}
use Rattle.clf_base.specs.declared.fault.Refusal.{Refusal}
use Rattle.refusal_order.specs.Order.{is_before, with_refusals, first_refusal}
use Rattle.clf_tree.specs.declared.model.Clafer.{Clafer}
use Rattle.clf_tree.specs.declared.model.Rule.{Rule}
use Rattle.clf_tree.specs.declared.model.Goal.{Goal}
use Rattle.clf_tree.specs.declared.plain.Plain.{Plain}
use Rattle.clf_tree.specs.Hierarchy.{is_below}
use Rattle.clf_tree.specs.Tree.{tree}
use Rattle.clf_tree.specs.Named.{each, follows_parent, is_looked_up, rule_is_looked_up, goal_is_looked_up, IsNamed}
use Rattle.expression_names.specs.LookedUp.{looked_up}
use Rattle.expression_names.specs.Models.{from, RuleTree, GoalTree, rule_tree, goal_tree, looked_rule, looked_goal, rule_refusal, goal_refusal, name_refusals}
use Rattle.plain_models.specs.Written.{is_written, rule_is_written, goal_is_written, IsWritten}
use Rattle.model_resolver.specs.Leaving.{LeavesNothing}
use Rattle.model_resolver.specs.Resolved.{resolved_clafers, IsModel}
use Rattle.model_resolver.proofs.Carried.{both, together, contexts_resolved}

-- ---- no refusal is found only where there is none

left_by : (f r : Refusal) (rs : List Refusal) (b : Bool) → ((x : Refusal) → with_refusals (Some x) rs ≡ None → ⊥) → with_refusals (if b then Some r else Some f) rs ≡ None → ⊥
left_by f r rs true rest h = rest r h
left_by f r rs false rest h = rest f h

some_left : (rs : List Refusal) (f : Refusal) → with_refusals (Some f) rs ≡ None → ⊥
some_left [] f h = (cc)
some_left (r ∷ rs) f h = left_by f r rs (is_before r f) (some_left rs) h

pub none_left : (rs : List Refusal) → first_refusal rs ≡ None → rs ≡ []
none_left [] h = refl
none_left (r ∷ rs) h = absurd (some_left rs r h)

nothing_before : (xs ys : List Refusal) → xs ++ ys ≡ [] → (xs ≡ []) × (ys ≡ [])
nothing_before [] ys h = (refl, h)
nothing_before (x ∷ xs) ys h = (cc)

not_refused : {X : Type 0} (f : X → Option Refusal) (x : X) (xs : List X) → filter_map f (x ∷ xs) ≡ [] → (f x ≡ None) × (filter_map f xs ≡ [])
not_refused f x xs = by_case (f x)
  where
    by_case : (o : Option Refusal) → cons_option o (filter_map f xs) ≡ [] → (o ≡ None) × (filter_map f xs ≡ [])
    by_case None h = (refl, h)
    by_case (Some r) h = (cc)

-- ---- rules and goals

rule_known : LeavesNothing → (clafers : List Clafer) → IsTrue (each clafers (follows_parent clafers)) → (r : Rule) (t : RuleTree) → t ≡ looked_rule clafers r
    → is_below (length clafers) r.context ≡ true → is_written (tree r.body) ≡ true → rule_refusal clafers r ≡ None
    → (is_below (length clafers) t.context && is_looked_up clafers t.body (record { this = t.context; bound = [] })) ≡ true
rule_known law clafers all r t same within written none =
    subst (λ (z : RuleTree). (is_below (length clafers) z.context && is_looked_up clafers z.body (record { this = z.context; bound = [] })) ≡ true) (sym same)
    (together (is_below (length clafers) r.context) (is_looked_up clafers (looked_up clafers (tree r.body) (from r.context)) (record { this = r.context; bound = [] })) within
    (law clafers r.context (tree r.body) all within written none))

pub rules_known : LeavesNothing → (clafers : List Clafer) → IsTrue (each clafers (follows_parent clafers)) → (made rules : List Rule) → map rule_tree made ≡ map (looked_rule clafers) rules
    → list_all (λ r. is_below (length clafers) r.context) rules ≡ true → list_all rule_is_written rules ≡ true → filter_map (rule_refusal clafers) rules ≡ []
    → list_all (rule_is_looked_up clafers) made ≡ true
rules_known law clafers all [] rules same within written none = refl
rules_known law clafers all (m ∷ made) [] same within written none = (cc)
rules_known law clafers all (m ∷ made) (r ∷ rules) same within written none =
    let w = both (is_below (length clafers) r.context) (list_all (λ s. is_below (length clafers) s.context) rules) within in
    let v = both (is_written (tree r.body)) (list_all rule_is_written rules) written in
    let n = not_refused (rule_refusal clafers) r rules none in
    let one : rule_tree m ≡ looked_rule clafers r = (cc) in
    let rest : map rule_tree made ≡ map (looked_rule clafers) rules = (cc) in
    together (rule_is_looked_up clafers m) (list_all (rule_is_looked_up clafers) made) (rule_known law clafers all r (rule_tree m) one w.0 v.0 n.0)
    (rules_known law clafers all made rules rest w.1 v.1 n.1)

goal_known : LeavesNothing → (clafers : List Clafer) → IsTrue (each clafers (follows_parent clafers)) → (g : Goal) (t : GoalTree) → t ≡ looked_goal clafers g
    → is_written (tree g.body) ≡ true → goal_refusal clafers g ≡ None → is_looked_up clafers t.body (record { this = None; bound = [] }) ≡ true
goal_known law clafers all g t same written none =
    subst (λ (z : GoalTree). is_looked_up clafers z.body (record { this = None; bound = [] }) ≡ true) (sym same) (law clafers None (tree g.body) all refl written none)

pub goals_known : LeavesNothing → (clafers : List Clafer) → IsTrue (each clafers (follows_parent clafers)) → (made goals : List Goal) → map goal_tree made ≡ map (looked_goal clafers) goals
    → list_all goal_is_written goals ≡ true → filter_map (goal_refusal clafers) goals ≡ [] → list_all (goal_is_looked_up clafers) made ≡ true
goals_known law clafers all [] goals same written none = refl
goals_known law clafers all (m ∷ made) [] same written none = (cc)
goals_known law clafers all (m ∷ made) (g ∷ goals) same written none =
    let v = both (is_written (tree g.body)) (list_all goal_is_written goals) written in
    let n = not_refused (goal_refusal clafers) g goals none in
    let one : goal_tree m ≡ looked_goal clafers g = (cc) in
    let rest : map goal_tree made ≡ map (looked_goal clafers) goals = (cc) in
    together (goal_is_looked_up clafers m) (list_all (goal_is_looked_up clafers) made) (goal_known law clafers all g (goal_tree m) one v.0 n.0)
    (goals_known law clafers all made goals rest v.1 n.1)

pub nothing_refused : (clafers : List Clafer) (rules : List Rule) (goals : List Goal) → first_refusal (name_refusals clafers rules goals) ≡ None
    → (filter_map (rule_refusal clafers) rules ≡ []) × (filter_map (goal_refusal clafers) goals ≡ [])
unfolding name_refusals
nothing_refused clafers rules goals h = nothing_before (filter_map (rule_refusal clafers) rules) (filter_map (goal_refusal clafers) goals) (none_left (filter_map (rule_refusal clafers) rules ++ filter_map (goal_refusal clafers) goals) h)

-- ---- all of it

pub is_named : LeavesNothing → (plain : Plain) → IsWritten plain → (clafers : List Clafer) (rules : List Rule) (goals : List Goal) → clafers ≡ resolved_clafers plain.clafers → IsModel clafers
    → first_refusal (name_refusals clafers plain.rules plain.goals) ≡ None → map rule_tree rules ≡ map (looked_rule clafers) plain.rules
    → map goal_tree goals ≡ map (looked_goal clafers) plain.goals → IsNamed (record { clafers = clafers; rules = rules; goals = goals })
is_named law plain written clafers rules goals as_all m none looked_rules looked_goals =
    let fine = nothing_refused clafers plain.rules plain.goals none in
    record {
      closed = m.inherits.closed;
      parents_first = m.inherits.parents_first;
      named = m.named;
      bounded = m.stands.bounded;
      placed = m.stands.placed;
      told_apart = m.stands.told_apart;
      inherits_abstract = m.inherits.inherits_abstract;
      inherits_no_cycle = m.inherits.inherits_no_cycle;
      contains_no_cycle = m.family.contains_no_cycle;
      refers = m.family.refers;
      inherits_apart = m.family.inherits_apart;
      rules = rules_known law clafers m.inherits.parents_first rules plain.rules looked_rules (contexts_resolved plain clafers as_all written.known) written.rules fine.0;
      goals = goals_known law clafers m.inherits.parents_first goals plain.goals looked_goals written.goals fine.1;
    }
