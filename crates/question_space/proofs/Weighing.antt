-- The wires of a model within its weight.
use Rattle.std.proofs.Common.{◌≡◌, ℕ, ◌+◌, ◌≤◌, ◌<◌, ◌^◌, true, List, [], ◌∷◌, length, map, min, sum, refl, arith, ltb-true, leb-true}
use Rattle.std.proofs.lemmas.Bool.{false≢true}
use Rattle.std.proofs.lemmas.List.Sums.{sum_by-cons}
use Rattle.clf_tree.specs.declared.core_expr.CoreExpr.{CoreExpr}
use Rattle.clf_tree.specs.declared.model.Clafer.{Clafer}
use Rattle.clf_tree.specs.declared.model.Goal.{Goal}
use Rattle.clf_tree.specs.declared.model.Model.{Model}
use Rattle.clf_tree.specs.declared.model.Rule.{Rule}
use Rattle.clf_tree.specs.declared.scopes.Scopes.{Scopes}
use Rattle.clf_tree.specs.Core.{core}
use Rattle.clf_tree.specs.CoreWeights.{core_weight}
use Rattle.clf_tree.specs.Lists.{each_pair}
use Rattle.clf_tree.specs.Tree.{tree}
use Rattle.int_widths.specs.Weight.{rule_weight, goal_weight, number_weight, clafers_weight, model_weight}
use Rattle.relational_core.specs.Light.{is_light_goal, is_light_truth}
use Rattle.question_space.specs.Wiring.{truths_cost}
use Rattle.question_space.proofs.Units.{left, right}

-- light truths, with a wire more for each, weigh no more than their constraints
pub rules_few : (clafers : List Clafer) (scopes : Scopes) (truths : List CoreExpr) (rules : List Rule)
    → each_pair (is_light_truth clafers scopes) truths rules ≡ true
    → truths_cost scopes truths + length truths ≤ sum (map (rule_weight clafers scopes) rules)
rules_few clafers scopes [] [] light = let none : 0 + 0 ≤ 0 = omega arith in none
rules_few clafers scopes [] (r ∷ rules) light = absurd (false≢true light)
rules_few clafers scopes (x ∷ truths) [] light = absurd (false≢true light)
rules_few clafers scopes (x ∷ truths) (r ∷ rules) light =
    let rest = rules_few clafers scopes truths rules (right (is_light_truth clafers scopes x r)
    (each_pair (is_light_truth clafers scopes) truths rules) light) in
    let here : core_weight scopes (core x) < rule_weight clafers scopes r =
    ltb-true (core_weight scopes (core x)) (rule_weight clafers scopes r)
    (left (is_light_truth clafers scopes x r) (each_pair (is_light_truth clafers scopes) truths rules) light) in
    let one : truths_cost scopes (x ∷ truths) ≡ core_weight scopes (core x) + truths_cost scopes truths =
    sum_by-cons (λ y. core_weight scopes (core y)) x truths in
    let two : sum (map (rule_weight clafers scopes) (r ∷ rules)) ≡ rule_weight clafers scopes r + sum
    (map (rule_weight clafers scopes) rules) = sum_by-cons (λ n. n) (rule_weight clafers scopes r)
    (map (rule_weight clafers scopes) rules) in
    omega (arith, rest, here, one, two)

-- as many truths as constraints
pub truths_count : (clafers : List Clafer) (scopes : Scopes) (truths : List CoreExpr) (rules : List Rule)
    → each_pair (is_light_truth clafers scopes) truths rules ≡ true → length truths ≡ length rules
truths_count clafers scopes [] [] light = refl
truths_count clafers scopes [] (r ∷ rules) light = absurd (false≢true light)
truths_count clafers scopes (x ∷ truths) [] light = absurd (false≢true light)
truths_count clafers scopes (x ∷ truths) (r ∷ rules) light =
    let rest = truths_count clafers scopes truths rules (right (is_light_truth clafers scopes x r)
    (each_pair (is_light_truth clafers scopes) truths rules) light) in
    omega (arith, rest)

-- what is within the weight of the clafers and the constraints is within that of the model
pub within_weight : (scopes : Scopes) (model : Model) (truths : List CoreExpr) (shape : ℕ) → shape ≤ clafers_weight scopes model + 7
    → each_pair (is_light_truth model.clafers scopes) truths model.rules ≡ true → model_weight scopes model ≤ 8000000
    → shape + (truths_cost scopes truths + length truths) ≤ model_weight scopes model
within_weight scopes model truths shape few light small =
    numbers shape (truths_cost scopes truths + length truths) (clafers_weight scopes model)
    (sum (map (rule_weight model.clafers scopes) model.rules)) (sum (map (goal_weight model.clafers scopes) model.goals))
    few (rules_few model.clafers scopes truths model.rules light) small
  where
    numbers : (s t c r g : ℕ) → s ≤ c + 7 → t ≤ r → min (10 ^ 18) (8 + c + r + g) ≤ 8000000 → s + t ≤ min (10 ^ 18) (8 + c + r + g)
    numbers s t c r g few others small = omega (arith, few, others, small)

-- numbers that are no heavier than the goals
goals_few : (clafers : List Clafer) (scopes : Scopes) (numbers : List CoreExpr) (goals : List Goal)
    → each_pair (is_light_goal clafers scopes) numbers goals ≡ true
    → truths_cost scopes numbers ≤ sum (map (goal_weight clafers scopes) goals)
goals_few clafers scopes [] [] light = let none : 0 ≤ 0 = omega arith in none
goals_few clafers scopes [] (g ∷ goals) light = absurd (false≢true light)
goals_few clafers scopes (x ∷ numbers) [] light = absurd (false≢true light)
goals_few clafers scopes (x ∷ numbers) (g ∷ goals) light =
    let rest = goals_few clafers scopes numbers goals (right (is_light_goal clafers scopes x g)
    (each_pair (is_light_goal clafers scopes) numbers goals) light) in
    let here : core_weight scopes (core x) ≤ number_weight clafers scopes (tree g.body) =
    leb-true (core_weight scopes (core x)) (number_weight clafers scopes (tree g.body))
    (left (is_light_goal clafers scopes x g) (each_pair (is_light_goal clafers scopes) numbers goals) light) in
    let one : truths_cost scopes (x ∷ numbers) ≡ core_weight scopes (core x) + truths_cost scopes numbers =
    sum_by-cons (λ y. core_weight scopes (core y)) x numbers in
    let two : sum (map (goal_weight clafers scopes) (g ∷ goals)) ≡ goal_weight clafers scopes g + sum
    (map (goal_weight clafers scopes) goals) = sum_by-cons (λ n. n) (goal_weight clafers scopes g)
    (map (goal_weight clafers scopes) goals) in
    let more : number_weight clafers scopes (tree g.body) ≤ goal_weight clafers scopes g = omega arith in
    omega (arith, rest, here, one, two, more)

-- with the numbers of goals too
pub goals_within_weight : (scopes : Scopes) (model : Model) (truths numbers : List CoreExpr) (shape : ℕ)
    → shape ≤ clafers_weight scopes model + 7
    → each_pair (is_light_truth model.clafers scopes) truths model.rules ≡ true
    → each_pair (is_light_goal model.clafers scopes) numbers model.goals ≡ true → model_weight scopes model ≤ 8000000
    → shape + (truths_cost scopes truths + length truths) + truths_cost scopes numbers ≤ model_weight scopes model
goals_within_weight scopes model truths numbers shape few light light_goals small =
    sums shape (truths_cost scopes truths + length truths) (truths_cost scopes numbers) (clafers_weight scopes model)
    (sum (map (rule_weight model.clafers scopes) model.rules)) (sum (map (goal_weight model.clafers scopes) model.goals))
    few (rules_few model.clafers scopes truths model.rules light) (goals_few model.clafers scopes numbers model.goals light_goals) small
  where
    sums : (s t n c r g : ℕ) → s ≤ c + 7 → t ≤ r → n ≤ g → min (10 ^ 18) (8 + c + r + g) ≤ 8000000
        → s + t + n ≤ min (10 ^ 18) (8 + c + r + g)
    sums s t n c r g few others numbers small = omega (arith, few, others, numbers, small)

-- within a weight, whatever it is called
pub within_same : (wires weight other : ℕ) → wires ≤ weight → other ≡ weight → wires ≤ other
within_same wires weight other few same = omega (arith, few, same)
