-- The goals compared with a vector, one after another.
use Rattle.std.proofs.Common.{◌≡◌, ℕ, ◌+◌, ◌≤◌, ◌<◌, Bool, true, false, not, ◌||◌, ◌&&◌, List, [], ◌∷◌, length, map, take, get_or, min, refl, sym, ap, subst, ◌∙◌, arith}
use Rattle.std.specs.Prelude.{zero, suc, ℤ, int_lt, if◌then◌else◌}
use Rattle.std.proofs.lemmas.List.{length-map, get_or-map}
use Rattle.bool_circuit.specs.declared.gate.Gate.{Gate}
use Rattle.bool_circuit.specs.declared.gate.Wire.{Wire}
use Rattle.bool_circuit.specs.Circuit.{wire_value, IsWireOf, Extends}
use Rattle.bool_circuit.proofs.Extending.{extends_trans, wires_stay, wire_values_stay}
use Rattle.clf_tree.specs.declared.model.Goal.{Goal}
use Rattle.clf_tree.specs.Front.{better, is_better_somewhere, dominates}
use Rattle.integer_bits.specs.Numbers.{integer_at, integer_of, IsNumber}
use Rattle.question_space.specs.Comparisons.{AreNumbers, IsCompared, differs, goal_values, ways_in}
use Rattle.question_space.specs.Vectors.{vector_cost}

-- ---- vectors

or_false : (b : Bool) → (b || false) ≡ b
or_false true = refl
or_false false = refl

or_swap : (a b c : Bool) → (a || (b || c)) ≡ ((a || b) || c)
or_swap true b c = refl
or_swap false b c = refl

-- with one goal more
somewhere_more : (ways : List Bool) (u v : List ℤ) (n : ℕ) (d : Bool) (e f : ℤ) → n < length ways → n < length u → n < length v
    → is_better_somewhere (take (suc n) ways) u v ≡ (is_better_somewhere (take n ways) u v || better (get_or ways n d) (get_or u n e)
    (get_or v n f))
somewhere_more [] u v n d e f h i j = absurd (omega (arith, h))
somewhere_more (w ∷ ways) [] v n d e f h i j = absurd (omega (arith, i))
somewhere_more (w ∷ ways) (x ∷ u) [] n d e f h i j = absurd (omega (arith, j))
somewhere_more (w ∷ ways) (x ∷ u) (y ∷ v) zero d e f h i j = or_false (better w x y)
somewhere_more (w ∷ ways) (x ∷ u) (y ∷ v) (suc n) d e f h i j =
    ap (λ b. better w x y || b) (somewhere_more ways u v n d e f (omega (arith, h)) (omega (arith, i)) (omega (arith, j)))
    ∙ or_swap (better w x y) (is_better_somewhere (take n ways) u v) (better (get_or ways n d) (get_or u n e) (get_or v n f))

-- goals that not all have a value are not compared
somewhere_all : (ways : List Bool) (u v : List ℤ) (n : ℕ) → min (length ways) (min (length u) (length v)) ≤ n
    → is_better_somewhere (take n ways) u v ≡ is_better_somewhere ways u v
somewhere_all [] u v zero h = refl
somewhere_all [] u v (suc n) h = refl
somewhere_all (w ∷ ways) [] v zero h = refl
somewhere_all (w ∷ ways) [] v (suc n) h = refl
somewhere_all (w ∷ ways) (x ∷ u) [] zero h = refl
somewhere_all (w ∷ ways) (x ∷ u) [] (suc n) h = refl
somewhere_all (w ∷ ways) (x ∷ u) (y ∷ v) zero h = absurd (omega (arith, h))
somewhere_all (w ∷ ways) (x ∷ u) (y ∷ v) (suc n) h = ap (λ b. better w x y || b) (somewhere_all ways u v n (omega (arith, h)))

-- the same for either comparison
differs_more : (worse : Bool) (ways : List Bool) (u v : List ℤ) (n : ℕ) (d : Bool) (e f : ℤ) → n < length ways → n < length u → n < length v
    → differs worse (take (suc n) ways) u v
    ≡ (differs worse (take n ways) u v || better (if worse then not (get_or ways n d) else get_or ways n d) (get_or u n e) (get_or v n f))
differs_more false ways u v n d e f h i j = somewhere_more ways u v n d e f h i j
differs_more true ways u v n d e f h i j =
    somewhere_more ways v u n d f e h j i
    ∙ ap (λ b. is_better_somewhere (take n ways) v u || b) (turn (get_or ways n d) (get_or u n e) (get_or v n f))
  where
    turn : (way : Bool) (x y : ℤ) → better way y x ≡ better (not way) x y
    turn true x y = refl
    turn false x y = refl

differs_all : (worse : Bool) (ways : List Bool) (u v : List ℤ) (n : ℕ) → min (length ways) (min (length u) (length v)) ≤ n
    → differs worse (take n ways) u v ≡ differs worse ways u v
differs_all false ways u v n h = somewhere_all ways u v n h
differs_all true ways u v n h = somewhere_all ways v u n (omega (arith, h))

take_map : {X Y : Type 0} (f : X → Y) (n : ℕ) (xs : List X) → map f (take n xs) ≡ take n (map f xs)
take_map f zero xs = refl
take_map f (suc n) [] = refl
take_map f (suc n) (x ∷ xs) = ap (λ ys. f x ∷ ys) (take_map f n xs)

-- ---- numbers on wires

-- they stay where a circuit grows
pub number_stays : (old new : List Gate) (n : ℕ) (ws : List Wire) → Extends old new n → IsNumber 64 old ws → IsNumber 64 new ws
number_stays old new n ws grown number = record { wires = wires_stay old new n ws grown number.wires; some = number.some; few = number.few }

pub numbers_stay : (old new : List Gate) (n : ℕ) (numbers : List (List Wire)) → Extends old new n → AreNumbers old numbers
    → AreNumbers new numbers
numbers_stay old new n numbers grown known = λ k d inside. number_stays old new n (get_or numbers k d) grown (known k d inside)

pub integer_stays : (old new : List Gate) (n : ℕ) (ws : List Wire) (bits : List Bool) → Extends old new n → IsNumber 64 old ws
    → integer_at new ws bits ≡ integer_at old ws bits
integer_stays old new n ws bits grown number = ap integer_of (wire_values_stay old new n ws bits grown number.wires)

pub values_stay : (old new : List Gate) (n : ℕ) (numbers : List (List Wire)) (bits : List Bool) → Extends old new n → AreNumbers old numbers
    → goal_values new numbers bits ≡ goal_values old numbers bits
values_stay old new n numbers bits grown known = by numbers known
  where
    by : (xs : List (List Wire)) → AreNumbers old xs → goal_values new xs bits ≡ goal_values old xs bits
    by [] all = refl
    by (x ∷ xs) all =
        let here : integer_at new x bits ≡ integer_at old x bits = integer_stays old new n x bits grown (all 0 x (omega arith)) in
        let rest : goal_values new xs bits ≡ goal_values old xs bits = by xs (λ k d inside. all (suc k) d (omega (arith, inside))) in
        rw (here, rest) refl

-- ---- one comparison

-- below a bound where the least is wanted
pub beats_below : (old new last : List Gate) (number bound : List Wire) (value : ℤ) (least : Bool) (wire : Wire) → least ≡ true
    → IsNumber 64 old number → Extends old new 2
    → ((bits : List Bool) → integer_at new bound bits ≡ value) → ((bits : List Bool)
    → wire_value last wire bits ≡ int_lt (integer_at new number bits) (integer_at new bound bits))
    → (bits : List Bool) → wire_value last wire bits ≡ better least (integer_at old number bits) value
beats_below old new last number bound value least wire is known grown value_is told bits =
    told bits ∙ ap (λ z. int_lt z (integer_at new bound bits)) (integer_stays old new 2 number bits grown known)
    ∙ ap (int_lt (integer_at old number bits)) (value_is bits)
    ∙ ap (λ (b : Bool). better b (integer_at old number bits) value) (sym is)

-- above it where the greatest is wanted
pub beats_above : (old new last : List Gate) (number bound : List Wire) (value : ℤ) (least : Bool) (wire : Wire) → least ≡ false
    → IsNumber 64 old number → Extends old new 2
    → ((bits : List Bool) → integer_at new bound bits ≡ value) → ((bits : List Bool)
    → wire_value last wire bits ≡ int_lt (integer_at new bound bits) (integer_at new number bits))
    → (bits : List Bool) → wire_value last wire bits ≡ better least (integer_at old number bits) value
beats_above old new last number bound value least wire is known grown value_is told bits =
    told bits ∙ ap (int_lt (integer_at new bound bits)) (integer_stays old new 2 number bits grown known)
    ∙ ap (λ z. int_lt z (integer_at old number bits)) (value_is bits)
    ∙ ap (λ (b : Bool). better b (integer_at old number bits) value) (sym is)

-- ---- the loop

-- no goal is compared
pub compared_none : (worse : Bool) (old : List Gate) (goals : List Goal) (numbers : List (List Wire)) (vector : List ℤ) (new : List Gate)
    (wire : Wire)
    → Extends old new 1 → IsWireOf new wire → ((bits : List Bool) → wire_value new wire bits ≡ false)
    → IsCompared worse old goals numbers vector 0 new wire
compared_none worse old goals numbers vector new wire grown known value =
    record { extends = grown; known = known; value = λ bits. value bits ∙ by worse bits }
  where
    by : (w : Bool) (bits : List Bool) → false ≡ differs w (ways_in (take 0 goals)) (goal_values old numbers bits) vector
    by true bits = refl
    by false bits = refl

-- the room for one more
pub compared_room : (worse : Bool) (old : List Gate) (goals : List Goal) (numbers : List (List Wire)) (vector : List ℤ) (n : ℕ)
    (new : List Gate) (wire : Wire)
    → IsCompared worse old goals numbers vector n new wire → n < length goals → length old + vector_cost (length goals) ≤ 268435456
    → length new + 1035 ≤ 268435456
compared_room worse old goals numbers vector n new wire so_far inside room = omega (arith, so_far.extends.at_most, inside, room)

-- one goal more
pub compared_more : (worse : Bool) (old : List Gate) (goals : List Goal) (numbers : List (List Wire)) (vector : List ℤ) (n : ℕ)
    (new : List Gate) (wire : Wire)
    (g : Goal) (ws : List Wire) (x : ℤ) (way : Bool) (between last : List Gate) (one two : Wire)
    → IsCompared worse old goals numbers vector n new wire → AreNumbers old numbers → n < length goals → n < length numbers
    → n < length vector
    → ws ≡ get_or numbers n ws → g.least ≡ (get_or goals n g).least → x ≡ get_or vector n x → way ≡ (if worse then not g.least else g.least)
    → Extends new between 1034 → IsWireOf between one → ((bits : List Bool)
    → wire_value between one bits ≡ better way (integer_at new ws bits) x)
    → Extends between last 1 → IsWireOf last two → ((bits : List Bool)
    → wire_value last two bits ≡ (wire_value between wire bits || wire_value between one bits))
    → IsCompared worse old goals numbers vector (n + 1) last two
compared_more worse old goals numbers vector n new wire g ws x way between last one two so_far known h i j ws_is g_is x_is way_is grown
    one_in one_is grown_last two_in two_is = record {
      extends = extended;
      known = two_in;
      value = told;
    }
  where
    all : Extends old last (vector_cost n + 1034 + 1)
    all = extends_trans old between last (vector_cost n + 1034) 1 (extends_trans old new between
        (vector_cost n) 1034 so_far.extends grown) grown_last

    extended : Extends old last (vector_cost (n + 1))
    extended = record { at_least = all.at_least; at_most = omega (arith, all.at_most); same_inputs = all.same_inputs; keeps = all.keeps }

    told : (bits : List Bool) → wire_value last two bits ≡ differs worse (ways_in (take (n + 1) goals))
        (goal_values old numbers bits) vector
    told bits =
        let ways : List Bool = ways_in goals in
        let u : List ℤ = goal_values old numbers bits in
        let number : IsNumber 64 old ws = subst (IsNumber 64 old) (sym ws_is) (known n ws i) in
        let way_there : get_or ways n g.least ≡ g.least = get_or-map (λ (y : Goal). y.least) goals n g g.least h ∙ sym g_is in
        let value_there : get_or u n x ≡ integer_at old ws bits = get_or-map (λ (y : List Wire). integer_at old y bits) numbers n ws x i
        ∙ ap (λ (y : List Wire). integer_at old y bits) (sym ws_is) in
        let older : wire_value between wire bits ≡ differs worse (take n ways) u vector =
        grown.keeps wire so_far.known bits ∙ so_far.value bits ∙ ap (λ (ys : List Bool). differs worse ys u vector)
        (take_map (λ (y : Goal). y.least) n goals) in
        let here : wire_value between one bits ≡ better (if worse then not (get_or ways n g.least) else get_or ways n g.least)
        (get_or u n x) (get_or vector n x) =
        one_is bits ∙ ap (λ z. better way z x) (integer_stays old new (vector_cost n) ws bits so_far.extends number)
        ∙ ap (λ (b : Bool). better b (integer_at old ws bits) x) (way_is ∙ ap (λ (b : Bool). if worse then not b else b) (sym way_there))
        ∙ ap (λ z. better (if worse then not (get_or ways n g.least) else get_or ways n g.least) z x) (sym value_there)
        ∙ ap (λ z. better (if worse then not (get_or ways n g.least) else get_or ways n g.least) (get_or u n x) z) x_is in
        let one_more : n + 1 ≡ suc n = omega arith in
        two_is bits ∙ ap (λ b. b || wire_value between one bits) older ∙ ap (λ b. differs worse (take n ways) u vector || b) here
        ∙ sym (differs_more worse ways u vector n g.least x x (omega (arith, h, length-map goals (λ (y : Goal). y.least)))
        (omega (arith, i, length-map numbers (λ (y : List Wire). integer_at old y bits))) j)
        ∙ ap (λ k. differs worse (take k ways) u vector) (sym one_more)
        ∙ ap (λ (ys : List Bool). differs worse ys u vector) (sym (take_map (λ (y : Goal). y.least) (n + 1) goals))

-- all goals that have a number and a value
pub compared_all : (worse : Bool) (old : List Gate) (goals : List Goal) (numbers : List (List Wire)) (vector : List ℤ) (n : ℕ)
    (new : List Gate) (wire : Wire)
    → IsCompared worse old goals numbers vector n new wire → n ≡ min (length goals) (min (length numbers) (length vector))
    → IsCompared worse old goals numbers vector (length goals) new wire
compared_all worse old goals numbers vector n new wire so_far all = record {
  extends = record {
    at_least = so_far.extends.at_least;
    at_most = omega (arith, so_far.extends.at_most, all);
    same_inputs = so_far.extends.same_inputs;
    keeps = so_far.extends.keeps;
  };
  known = so_far.known;
  value = told;
}
  where
    told : (bits : List Bool) → wire_value new wire bits ≡ differs worse (ways_in (take (length goals) goals))
        (goal_values old numbers bits) vector
    told bits =
        let ways : List Bool = ways_in goals in
        let u : List ℤ = goal_values old numbers bits in
        let many : length ways ≡ length goals = length-map goals (λ (y : Goal). y.least) in
        let wide : length u ≡ length numbers = length-map numbers (λ (y : List Wire). integer_at old y bits) in
        so_far.value bits ∙ ap (λ (ys : List Bool). differs worse ys u vector) (take_map (λ (y : Goal). y.least) n goals)
        ∙ differs_all worse ways u vector n (omega (arith, all, many, wide))
        ∙ sym (differs_all worse ways u vector (length goals) (omega (arith, many)))
        ∙ ap (λ (ys : List Bool). differs worse ys u vector) (sym (take_map (λ (y : Goal). y.least) (length goals) goals))

-- then the comparison is that with all goals
pub compared_whole : (worse : Bool) (old : List Gate) (goals : List Goal) (numbers : List (List Wire)) (vector : List ℤ) (new : List Gate)
    (wire : Wire)
    → IsCompared worse old goals numbers vector (length goals) new wire
    → (bits : List Bool) → wire_value new wire bits ≡ differs worse (ways_in goals) (goal_values old numbers bits) vector
compared_whole worse old goals numbers vector new wire is bits =
    let ways : List Bool = ways_in goals in
    let many : length ways ≡ length goals = length-map goals (λ (y : Goal). y.least) in
    is.value bits ∙ ap (λ (ys : List Bool). differs worse ys (goal_values old numbers bits) vector)
    (take_map (λ (y : Goal). y.least) (length goals) goals)
    ∙ differs_all worse ways (goal_values old numbers bits) vector (length goals) (omega (arith, many))

-- none is worse, and some is better
pub improved : (old : List Gate) (goals : List Goal) (numbers : List (List Wire)) (vector : List ℤ) (one two three last : List Gate)
    (worse best no_worse both : Wire)
    → AreNumbers old numbers → IsCompared true old goals numbers vector (length goals) one worse
    → IsCompared false one goals numbers vector (length goals) two best
    → Extends two three 1 → IsWireOf three no_worse → ((bits : List Bool)
    → wire_value three no_worse bits ≡ not (wire_value two worse bits))
    → ((bits : List Bool) → wire_value last both bits ≡ (wire_value three no_worse bits && wire_value three best bits))
    → (bits : List Bool) → wire_value last both bits ≡ dominates (ways_in goals) (goal_values old numbers bits) vector
improved old goals numbers vector one two three last worse best no_worse both known is_worse is_best grown no_in no_is both_is bits =
    let u : List ℤ = goal_values old numbers bits in
    let ways : List Bool = ways_in goals in
    let worse_there : wire_value two worse bits ≡ is_better_somewhere ways vector u = is_best.extends.keeps worse is_worse.known bits
    ∙ compared_whole true old goals numbers vector one worse is_worse bits in
    let best_there : wire_value three best bits ≡ is_better_somewhere ways u vector =
    grown.keeps best is_best.known bits ∙ compared_whole false one goals numbers vector two best is_best bits
    ∙ ap (λ (w : List ℤ). is_better_somewhere ways w vector) (values_stay old one
    (vector_cost (length goals)) numbers bits is_worse.extends known) in
    both_is bits ∙ ap (λ b. b && wire_value three best bits) (no_is bits ∙ ap not worse_there)
    ∙ ap (λ b. not (is_better_somewhere ways vector u) && b) best_there
