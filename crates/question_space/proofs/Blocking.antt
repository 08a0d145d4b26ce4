-- The wires of the vectors of a question, one after another.
use Rattle.std.proofs.Common.{◌≡◌, ℕ, ◌+◌, ◌*◌, ◌≤◌, ◌<◌, Bool, false, List, [], ◌∷◌, ◌++◌, length, map, take, get_or, refl, sym, ap, subst, ◌∙◌, arith}
use Rattle.std.specs.Prelude.{ℤ, Option, Some, None}
use Rattle.std.specs.Option.{option_map_or}
use Rattle.std.proofs.Math.Nat.{mul-le-mul_right}
use Rattle.std.proofs.lemmas.List.{map_more, map-append, append-nil}
use Rattle.std.proofs.lemmas.List.Elements.{All-nil, All-cons, All-append}
use Rattle.bool_circuit.specs.declared.gate.Gate.{Gate}
use Rattle.bool_circuit.specs.declared.gate.Wire.{Wire}
use Rattle.bool_circuit.specs.Circuit.{wire_value, wire_values, AreWiresOf, IsWireOf, Extends}
use Rattle.bool_circuit.proofs.Extending.{extends_trans, wires_stay, wire_values_stay}
use Rattle.clf_tree.specs.declared.model.Goal.{Goal}
use Rattle.clf_tree.specs.declared.vector.Question.{Question}
use Rattle.clf_tree.specs.declared.vector.Vector.{Vector}
use Rattle.clf_tree.specs.Front.{dominates, is_better_somewhere}
use Rattle.question_space.specs.Comparisons.{AreBlocks, AreNumbers, AreTests, IsCompared, goal_values, tests_cost, ways_in}
use Rattle.question_space.specs.Vectors.{question_tests, vector_cost}
use Rattle.question_space.proofs.Differing.{compared_whole, values_stay}
use Rattle.question_space.proofs.Structuring.{take_all_of}

-- no vector
pub blocks_none : (old : List Gate) (goals : List Goal) (numbers : List (List Wire)) (found : List Vector) (wires : List Wire)
    → wires ≡ [] → AreBlocks old goals numbers found 0 old wires
blocks_none old goals numbers found wires e =
    let P : List Wire → Type 0 = λ ws. AreBlocks old goals numbers found 0 old ws in
    subst P (sym e) (record {
      extends = record { at_least = omega arith; at_most = omega arith; same_inputs = refl; keeps = λ w h bits. refl };
      known = All-nil (IsWireOf old);
      values = λ bits. refl;
    })

-- products of a number that is below another
below_product : (n all cost : ℕ) → n < all → n * cost + cost ≤ all * cost
below_product n all cost h =
    let more : (n + 1) * cost ≤ all * cost = mul-le-mul_right cost (omega (arith, h)) in
    omega (arith, more)

-- the room for the next one
pub blocks_room : (old : List Gate) (goals : List Goal) (numbers : List (List Wire)) (found : List Vector) (n : ℕ) (new : List Gate)
    (wires : List Wire)
    → AreBlocks old goals numbers found n new wires → n < length found → length old + length found * vector_cost (length goals) ≤ 268435456
    → length new + vector_cost (length goals) ≤ 268435456
blocks_room old goals numbers found n new wires so_far inside room =
    let more = below_product n (length found) (vector_cost (length goals)) inside in
    omega (arith, more, room, so_far.extends.at_most)

-- one more
pub blocks_more : (old : List Gate) (goals : List Goal) (numbers : List (List Wire)) (found : List Vector) (n : ℕ) (new : List Gate)
    (wires : List Wire) (f : Vector) (values : List ℤ) (last : List Gate) (wire : Wire) (after : List Wire)
    → AreBlocks old goals numbers found n new wires → AreNumbers old numbers → n < length found → f ≡ get_or found n f → values ≡ f.values
    → IsCompared false new goals numbers values (length goals) last wire → after ≡ wires ++ wire ∷ []
    → AreBlocks old goals numbers found (n + 1) last after
blocks_more old goals numbers found n new wires f values last wire after so_far known inside f_is values_is is pushed =
    let P : List Wire → Type 0 = λ ws. AreBlocks old goals numbers found (n + 1) last ws in
    subst P (sym pushed) (record { extends = extended; known = all_known; values = told })
  where
    cost : ℕ
    cost = vector_cost (length goals)

    all : Extends old last (n * cost + cost)
    all = extends_trans old new last (n * cost) cost so_far.extends is.extends

    extended : Extends old last ((n + 1) * cost)
    extended = let e : (n + 1) * cost ≡ n * cost + cost = omega arith in subst (Extends old last) (sym e) all

    all_known : AreWiresOf last (wires ++ wire ∷ [])
    all_known = All-append (IsWireOf last) wires (wire ∷ []) (wires_stay new last cost wires is.extends so_far.known)
        (All-cons (IsWireOf last) wire [] is.known (All-nil (IsWireOf last)))

    told : (bits : List Bool) → wire_values last (wires ++ wire ∷ []) bits ≡ map
        (λ g. is_better_somewhere (ways_in goals) (goal_values old numbers bits) g.values) (take (n + 1) found)
    told bits =
        let u : List ℤ = goal_values old numbers bits in
        let test : Vector → Bool = λ (g : Vector). is_better_somewhere (ways_in goals) u g.values in
        let older : wire_values last wires bits ≡ map test (take n found) =
        wire_values_stay new last cost wires bits is.extends so_far.known ∙ so_far.values bits in
        let here : wire_value last wire bits ≡ test (get_or found n f) =
        compared_whole false new goals numbers values last wire is bits
        ∙ ap (λ (w : List ℤ). is_better_somewhere (ways_in goals) w values)
        (values_stay old new (n * cost) numbers bits so_far.extends known)
        ∙ ap (is_better_somewhere (ways_in goals) u) values_is ∙ ap test f_is in
        map-append (λ (w : Wire). wire_value last w bits) wires (wire ∷ [])
        ∙ ap (λ bs. bs ++ wire_value last wire bits ∷ []) older ∙ ap (λ b. map test (take n found) ++ b ∷ []) here
        ∙ sym (map_more test found n f inside)

-- the numbers stand where the found vectors have wires
pub numbers_there : (old : List Gate) (goals : List Goal) (numbers : List (List Wire)) (found : List Vector) (n : ℕ) (new : List Gate)
    (wires : List Wire)
    → AreBlocks old goals numbers found n new wires → Extends old new (n * vector_cost (length goals))
numbers_there old goals numbers found n new wires are = are.extends

-- all found vectors, and none to improve
pub tests_without : (old : List Gate) (goals : List Goal) (numbers : List (List Wire)) (question : Question) (new : List Gate)
    (wires : List Wire)
    → AreBlocks old goals numbers question.found (length question.found) new wires → question.improve ≡ None
    → AreTests old goals numbers question new wires
tests_without old goals numbers question new wires are none = record { extends = extended; known = are.known; values = told }
  where
    extended : Extends old new (tests_cost (length goals) question)
    extended = record {
      at_least = are.extends.at_least;
      at_most = omega (arith, are.extends.at_most);
      same_inputs = are.extends.same_inputs;
      keeps = are.extends.keeps;
    }

    told : (bits : List Bool) → wire_values new wires bits ≡ question_tests (ways_in goals) question (goal_values old numbers bits)
    told bits =
        let u : List ℤ = goal_values old numbers bits in
        let test : Vector → Bool = λ (g : Vector). is_better_somewhere (ways_in goals) u g.values in
        are.values bits ∙ ap (map test) (take_all_of question.found) ∙ sym (append-nil (map test question.found))
        ∙ ap (λ (o : Option Vector). map test question.found ++ option_map_or (λ w. dominates (ways_in goals) u w.values ∷ []) o [])
        (sym none)

-- and the one to improve
pub tests_with : (old : List Gate) (goals : List Goal) (numbers : List (List Wire)) (question : Question) (new : List Gate)
    (wires : List Wire) (vector : Vector) (values : List ℤ) (last : List Gate) (wire : Wire) (after : List Wire)
    → AreBlocks old goals numbers question.found (length question.found) new wires → AreNumbers old numbers
    → question.improve ≡ Some vector → values ≡ vector.values
    → Extends new last (2 * vector_cost (length goals) + 2) → IsWireOf last wire
    → ((bits : List Bool) → wire_value last wire bits ≡ dominates (ways_in goals) (goal_values new numbers bits) values)
    → after ≡ wires ++ wire ∷ [] → AreTests old goals numbers question last after
tests_with old goals numbers question new wires vector values last wire after are known some values_is grown wire_in value pushed =
    let P : List Wire → Type 0 = λ ws. AreTests old goals numbers question last ws in
    subst P (sym pushed) (record { extends = extended; known = all_known; values = told })
  where
    cost : ℕ
    cost = vector_cost (length goals)

    all : Extends old last (length question.found * cost + (2 * cost + 2))
    all = extends_trans old new last (length question.found * cost) (2 * cost + 2) are.extends grown

    extended : Extends old last (tests_cost (length goals) question)
    extended =
        let e : option_map_or {U = ℕ} (λ w. 2 * cost + 2) question.improve 0 ≡ 2 * cost + 2 =
        ap (λ (o : Option Vector). option_map_or {U = ℕ} (λ w. 2 * cost + 2) o 0) some in
        subst (Extends old last) (ap (λ n. length question.found * cost + n) (sym e)) all

    all_known : AreWiresOf last (wires ++ wire ∷ [])
    all_known = All-append (IsWireOf last) wires (wire ∷ []) (wires_stay new last (2 * cost + 2) wires grown are.known)
        (All-cons (IsWireOf last) wire [] wire_in (All-nil (IsWireOf last)))

    told : (bits : List Bool) → wire_values last (wires ++ wire ∷ []) bits ≡ question_tests (ways_in goals) question
        (goal_values old numbers bits)
    told bits =
        let ways : List Bool = ways_in goals in
        let u : List ℤ = goal_values old numbers bits in
        let test : Vector → Bool = λ (g : Vector). is_better_somewhere ways u g.values in
        let older : wire_values last wires bits ≡ map test question.found =
        wire_values_stay new last (2 * cost + 2) wires bits grown are.known ∙ are.values bits
        ∙ ap (map test) (take_all_of question.found) in
        let here : wire_value last wire bits ≡ dominates ways u vector.values =
        value bits ∙ ap (λ (w : List ℤ). dominates ways w values) (values_stay old new
        (length question.found * cost) numbers bits are.extends known) ∙ ap (dominates ways u) values_is in
        map-append (λ (w : Wire). wire_value last w bits) wires (wire ∷ [])
        ∙ ap (λ bs. bs ++ wire_value last wire bits ∷ []) older ∙ ap (λ b. map test question.found ++ b ∷ []) here
        ∙ ap (λ (o : Option Vector). map test question.found ++ option_map_or (λ w. dominates ways u w.values ∷ []) o []) (sym some)
