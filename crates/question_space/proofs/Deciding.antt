-- What a verdict on the clauses of a model's wires says of its instances.
use Rattle.std.proofs.Common.{◌≡◌, ℕ, ◌+◌, ◌*◌, ◌/◌, ◌<◌, ◌≤◌, ◌^◌, Bool, true, get_or, List, [], ◌∷◌, ◌++◌, length, map, sym, ap, subst, ◌∙◌, arith}
use Rattle.std.specs.List.{All}
use Rattle.std.proofs.Math.Nat.{pow-le-pow_right}
use Rattle.std.proofs.lemmas.List.{length-append, length-map}
use Rattle.std.proofs.lemmas.List.FromFn.{length-range_with_len, map-range_with_len_more}
use Rattle.bool_circuit.specs.declared.gate.Gate.{Gate}
use Rattle.bool_circuit.specs.declared.gate.Wire.{Wire}
use Rattle.bool_circuit.specs.Circuit.{inputs, wire_value, AreWiresOf, IsWireOf}
use Rattle.canonical_instances.specs.Canonical.{is_canonical}
use Rattle.cdcl_search.specs.Progress.{assignment_of}
use Rattle.certified_solver.specs.Verdicts.{IsSpent}
use Rattle.clause_encoder.specs.Encoding.{Encodes}
use Rattle.clause_store.specs.declared.clause.Literal.{Literal}
use Rattle.clause_store.specs.declared.derivation.Chain.{Chain}
use Rattle.clause_store.specs.Literals.{HasVariablesBelow}
use Rattle.clause_store.specs.Store.{Store}
use Rattle.clf_tree.specs.declared.instance.Entry.{Entry}
use Rattle.clf_tree.specs.declared.model.Clafer.{Clafer}
use Rattle.clf_tree.specs.declared.model.Model.{Model}
use Rattle.clf_tree.specs.declared.scopes.Scopes.{Scopes}
use Rattle.clf_tree.specs.Lists.{numbers_below}
use Rattle.clf_tree.specs.declared.vector.Question.{Question}
use Rattle.clf_tree.specs.Front.{admits, ways_of}
use Rattle.clf_tree.specs.Satisfies.{laws_of, satisfies, vector_of}
use Rattle.set_bits.specs.declared.layout.Layout.{Layout}
use Rattle.set_bits.specs.Fitting.{size}
use Rattle.set_bits.specs.Showing.{Shows}
use Rattle.shown_instance.specs.Shown.{shown}
use Rattle.question_space.specs.Queries.{IsAsked}
use Rattle.question_space.specs.Spendings.{IsSpentOver}
use Rattle.question_space.proofs.Admitting.{ShowsAdmitted, all_show, all_told}
use Rattle.question_space.proofs.Shaped.{Laws, size_is}

-- ---- numbers

-- the clauses leave room for a thousand million more
pub clauses_few : (gates : List Gate) (root : Wire) (store : Store) (budget : ℕ) → Encodes gates root store → length gates ≤ 16777216
    → budget ≤ 1000000000
    → length store.clauses + budget < 2147483640
clauses_few gates root store budget encodes light few =
    let count : length store.clauses ≡ length encodes.front + 1 = ap length encodes.root_last
    ∙ length-append encodes.front ((record { code = 2 * root.number } ∷ []) ∷ []) in
    omega (arith, count, encodes.few, light, few)

pub variables_few : (gates : List Gate) (root : Wire) (store : Store) → Encodes gates root store → length gates ≤ 16777216
    → All (HasVariablesBelow 2147483647) store.clauses
variables_few gates root store encodes light = λ k d inside j e within.
    let below : (get_or (get_or store.clauses k d) j e).code / 2 < length gates = encodes.below k d inside j e within in
    omega (arith, below, light)

-- the variables are below the weight
pub variables_light : (gates : List Gate) (root : Wire) (store : Store) (weight : ℕ) → Encodes gates root store → length gates ≤ weight
    → All (HasVariablesBelow weight) store.clauses
variables_light gates root store weight encodes light = λ k d inside j e within.
    let below : (get_or (get_or store.clauses k d) j e).code / 2 < length gates = encodes.below k d inside j e within in
    omega (arith, below, light)

-- the numbers of wires are below two thousand million
pub wires_small : (gates : List Gate) (ws : List Wire) → length gates ≤ 16777216 → AreWiresOf gates ws
    → All (λ (w : Wire). w.number < 2 ^ 31) ws
wires_small gates ws light known = λ k d inside. let here : IsWireOf gates (get_or ws k d) = known k d inside in omega (arith, light, here)

-- a budget for the weight is one for the variables
pub enough_for : (variables weight budget : ℕ) → variables ≤ weight → 3 ^ weight ≤ budget → 3 ^ variables ≤ budget
enough_for variables weight budget few enough =
    let more : 3 ^ variables ≤ 3 ^ weight = pow-le-pow_right {n = 3} (omega arith) few in
    omega (arith, more, enough)

-- what is spent on a fresh search is spent over all chains
pub spent_over : (given : List (List Literal)) (chains : List Chain) (budget : ℕ) → IsSpent given chains budget
    → IsSpentOver given budget chains
spent_over given chains budget spent = record {
  lawful = spent.lawful;
  enough = omega (arith, spent.all);
  new = λ j from below. spent.new j (omega arith) below;
}

-- the values of the first variables, and of one more
pub bits_more : (values : List Bool) (at : ℕ) (bits after : List Bool) (bit : Bool) → bits ≡ map (assignment_of values) (numbers_below at)
    → bit ≡ assignment_of values at → after ≡ bits ++ bit ∷ []
    → after ≡ map (assignment_of values) (numbers_below (at + 1))
bits_more values at bits after bit so_far here pushed =
    pushed ∙ ap (λ bs. bs ++ bit ∷ []) so_far ∙ ap (λ b. map (assignment_of values) (numbers_below at) ++ b ∷ []) here
    ∙ sym (map-range_with_len_more (assignment_of values) 0 at at (omega arith))

-- ---- the instance that the values of variables show

module _ (known : Laws) (model : Model) (scopes : Scopes) (question : Question) (limit : ℕ) (layout : Layout) (gates : List Gate)
    (structure : Wire) (rules tests : List Wire) (root : Wire)
    (asked : IsAsked model scopes question limit layout gates structure rules tests root) (v : ℕ → Bool)
    (true_there : wire_value gates root (map v (numbers_below (size layout))) ≡ true) (bits : List Bool)
    (are : bits ≡ map v (numbers_below (inputs gates))) where
  all : ShowsAdmitted model scopes layout (laws_of model) (admits (ways_of model) question) bits
  all =
      let count : inputs gates ≡ size layout = size_is known model scopes layout gates structure rules asked.wires in
      let same : bits ≡ map v (numbers_below (size layout)) = are ∙ ap (λ n. map v (numbers_below n)) count in
      let long : length bits ≡ size layout = ap length same ∙ length-map (numbers_below (size layout)) v
      ∙ length-range_with_len 0 (size layout) in
      let hold : wire_value gates root bits ≡ true = ap (wire_value gates root) same ∙ true_there in
      all_show known model scopes layout gates structure rules asked.wires rules tests (laws_of model) (admits (ways_of model) question)
      (all_told known model scopes question layout gates structure rules tests asked.wires asked.tests_are) bits long
      (sym (asked.root_is bits) ∙ hold)

  pub found_shows : (cs : List Clafer) → cs ≡ model.clafers → (entries : List Entry) × Shows cs scopes layout bits entries
  found_shows cs same = (
    shown layout bits,
    subst (λ (xs : List Clafer). Shows xs scopes layout bits (shown layout bits))
        (sym same) all.lawful.shows,
  )

  -- what alone is shown is what the bits tell
  found_is : (cs : List Clafer) → cs ≡ model.clafers → (found : List Entry)
      → ((entries : List Entry) → Shows cs scopes layout bits entries → entries ≡ found) → shown layout bits ≡ found
  found_is cs same found alone = alone (shown layout bits) (subst (λ (xs : List Clafer). Shows xs scopes layout bits (shown layout bits))
      (sym same) all.lawful.shows)

  pub found_satisfies : (cs : List Clafer) → cs ≡ model.clafers → (found : List Entry)
      → ((entries : List Entry) → Shows cs scopes layout bits entries → entries ≡ found) → satisfies model scopes found ≡ true
  found_satisfies cs same found alone =
      let P : List Entry → Type 0 = λ es. satisfies model scopes es ≡ true in
      subst P (found_is cs same found alone) all.lawful.satisfied

  pub found_admitted : (cs : List Clafer) → cs ≡ model.clafers → (found : List Entry)
      → ((entries : List Entry) → Shows cs scopes layout bits entries → entries ≡ found)
      → admits (ways_of model) question (vector_of model found) ≡ true
  found_admitted cs same found alone =
      let P : List Entry → Type 0 = λ es. admits (ways_of model) question (vector_of model es) ≡ true in
      subst P (found_is cs same found alone) all.is_admitted

  pub found_canonical : (cs : List Clafer) → cs ≡ model.clafers → (found : List Entry)
      → ((entries : List Entry) → Shows cs scopes layout bits entries → entries ≡ found)
      → is_canonical model.clafers found ≡ true
  found_canonical cs same found alone =
      let P : List Entry → Type 0 = λ es. is_canonical model.clafers es ≡ true in
      subst P (found_is cs same found alone) all.lawful.canonical
