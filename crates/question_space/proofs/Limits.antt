-- How many wires a question can take.
use Rattle.std.proofs.Common.{◌≡◌, ℕ, ◌+◌, ◌*◌, ◌≤◌, ◌^◌, List, [], ◌∷◌, length, refl, sym, ap, arith, true≢false}
use Rattle.std.specs.Prelude.{slice_get, Option, Some, None, is_none}
use Rattle.std.specs.Option.{option_map_or, option_or}
use Rattle.std.proofs.Math.Nat.{pow-le-pow_right}
use Rattle.std.proofs.lemmas.Nat.{mul-le}
use Rattle.clf_base.specs.declared.fault.Refusal.{Refusal}
use Rattle.clf_tree.specs.declared.model.Goal.{Goal}
use Rattle.refusal_order.specs.Order.{refused}
use Rattle.int_widths.specs.Weight.{model_weight}
use Rattle.clf_tree.specs.declared.vector.Question.{Question}
use Rattle.clf_tree.specs.declared.vector.Vector.{Vector}
use Rattle.model_reader.specs.declared.reader.Read.{Read}
use Rattle.model_weight.specs.Refusals.{goals_refusal, weight_refusal, wide_refusal}
use Rattle.question_space.specs.Asking.{HasNoVectors}
use Rattle.question_space.specs.Comparisons.{tests_cost}
use Rattle.question_space.specs.Queries.{limit_of}
use Rattle.question_space.specs.Vectors.{question_cost, vector_cost}
use Rattle.question_space.proofs.Growing.{cost_is}

-- ---- a model that is read has at most four goals

first_none : {X : Type 0} (a b : Option X) → option_or a b ≡ None → a ≡ None
first_none None b e = refl
first_none (Some x) b e = e

no_fifth : (goals : List Goal) (f : Goal → Refusal) → option_map_or (λ (g : Goal). Some (f g)) (slice_get goals 4) None ≡ None
    → length goals ≤ 4
no_fifth [] f e = omega arith
no_fifth (a ∷ []) f e = omega arith
no_fifth (a ∷ b ∷ []) f e = omega arith
no_fifth (a ∷ b ∷ c ∷ []) f e = omega arith
no_fifth (a ∷ b ∷ c ∷ d ∷ []) f e = omega arith
no_fifth (a ∷ b ∷ c ∷ d ∷ g ∷ goals) f e = absurd (true≢false (sym (ap is_none e)))

pub few_goals : (read : Read) → length read.model.goals ≤ 4
few_goals read =
    no_fifth read.model.goals (λ (g : Goal). refused 92 g.at (length read.model.goals))
    (first_none (goals_refusal read.model) (wide_refusal read.scopes read.model)
    (first_none (option_or (goals_refusal read.model) (wide_refusal read.scopes read.model))
    (weight_refusal (model_weight read.scopes read.model)) read.accepted))

-- ---- what a question takes

abbrev improve_cost : Option Vector → ℕ → ℕ
improve_cost improve cost = option_map_or (λ w. cost) improve 0

improve_few : (improve : Option Vector) (cost : ℕ) → improve_cost improve cost ≤ cost
improve_few None cost = omega arith
improve_few (Some v) cost = omega arith

-- with at most four goals and 1,024 found vectors
pub question_few : (goals : ℕ) (question : Question) → goals ≤ 4 → length question.found ≤ 1024 → question_cost goals question ≤ 4300000
question_few goals question few found =
    let product : length question.found * (vector_cost goals + 1) ≤ 1024 * 4142 =
    mul-le (length question.found) (vector_cost goals + 1) 1024 4142 found (omega (arith, few)) in
    let last : improve_cost question.improve (2 * vector_cost goals + 3) ≤ 2 * vector_cost goals + 3 =
    improve_few question.improve (2 * vector_cost goals + 3) in
    omega (arith, product, last, few)

pub limit_few : (read : Read) (question : Question) (wires : ℕ) → length question.found ≤ 1024 → wires ≤ limit_of read question
    → wires ≤ 16777216
limit_few read question wires found few = omega (
  arith,
  few,
  read.light,
  question_few (length read.model.goals) question
      (few_goals read) found,
)

-- a question without vectors takes nothing
pub no_cost : (goals : ℕ) (question : Question) → HasNoVectors question → question_cost goals question ≡ 0
no_cost goals question (found, improve) = rw (found, improve) (omega arith)

-- without goals, with at most one found vector
pub small_cost : (goals : ℕ) (question : Question) → goals ≡ 0 → length question.found ≤ 1 → question_cost goals question ≤ 24
small_cost goals question none found =
    let product : length question.found * (vector_cost goals + 1) ≤ 1 * 2 =
    mul-le (length question.found) (vector_cost goals + 1) 1 2 found (omega (arith, none)) in
    let last : improve_cost question.improve (2 * vector_cost goals + 3) ≤ 2 * vector_cost goals + 3 =
    improve_few question.improve (2 * vector_cost goals + 3) in
    omega (arith, product, last, none)

-- a budget for more wires is one for fewer
power_within : (a b budget : ℕ) → a ≤ b → 3 ^ b ≤ budget → 3 ^ a ≤ budget
power_within a b budget few enough =
    let more : 3 ^ a ≤ 3 ^ b = pow-le-pow_right {n = 3} (omega arith) few in
    omega (arith, more, enough)

pub enough_plain : (read : Read) (question : Question) (budget : ℕ) → HasNoVectors question → 3 ^ read.weight ≤ budget
    → 3 ^ (limit_of read question) ≤ budget
enough_plain read question budget none enough = power_within (limit_of read question) read.weight budget
    (omega (arith, no_cost (length read.model.goals) question none)) enough

pub enough_goalless : (read : Read) (question : Question) (budget : ℕ) → read.model.goals ≡ [] → length question.found ≤ 1
    → 3 ^ (read.weight + 24) ≤ budget → 3 ^ (limit_of read question) ≤ budget
enough_goalless read question budget none found enough =
    power_within (limit_of read question) (read.weight + 24) budget (omega
    (arith, small_cost (length read.model.goals) question (ap length none) found)) enough

-- there is room for the tests
pub tests_room : (read : Read) (question : Question) (goals : List Goal) (wires : ℕ) → length question.found ≤ 1024 → wires ≤ read.weight
    → goals ≡ read.model.goals
    → wires + tests_cost (length goals) question ≤ 268435456
tests_room read question goals wires found few same =
    let many : length goals ≤ 4 = omega (arith, ap length same, few_goals read) in
    omega (arith, cost_is (length goals) question, question_few (length goals) question many found, few, read.light)

-- and for all of a question
pub limit_room : (read : Read) (question : Question) → length question.found ≤ 1024 → limit_of read question ≤ 268435456
limit_room read question found = omega (arith, read.light, question_few (length read.model.goals) question (few_goals read) found)
