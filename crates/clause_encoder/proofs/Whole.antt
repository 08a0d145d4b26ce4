-- The clauses of all gates, and what satisfies them.
use Rattle.std.proofs.Common.{◌≡◌, ℕ, suc, zero, ◌+◌, ◌*◌, ◌<◌, Bool, true, false, ◌&&◌, List, [], ◌∷◌, ◌++◌, length, take, get_or, slice_get, Some, refl, sym, ap, ◌∙◌, subst, arith, zero-add}
use Rattle.std.specs.List.{All}
use Rattle.std.proofs.lemmas.List.{length_push, length-take-le, take_more}
use Rattle.std.proofs.lemmas.List.Elements.{All-weaker}
use Rattle.std.proofs.lemmas.List.Folds.{Any-from_list_any, list_any-from_Any}
use Rattle.std.proofs.lemmas.List.Sums.{AllPass-from_list_all, list_all-from_AllPass}
use Rattle.bool_circuit.specs.declared.gate.Wire.{Wire}
use Rattle.bool_circuit.specs.declared.gate.Gate.{Gate}
use Rattle.bool_circuit.specs.declared.gate.Gate.TheVariants.{Input, Constant, Not, And, Or, Xor, Choose}
use Rattle.bool_circuit.specs.Circuit.{gate_value, wire_value, input_wires, inputs, AreNumbered, IsCircuit, IsWireOf}
use Rattle.bool_circuit.proofs.Values.{wire_value_at, wire_value_only, IsInputAt, input_number, IsInputOf, input_at}
use Rattle.clause_store.specs.declared.clause.Literal.{Literal}
use Rattle.clause_store.specs.Literals.{HasVariablesBelow, variable_of}
use Rattle.clause_store.specs.Satisfaction.{Satisfies, SatisfiesAll, IsAbove}
use Rattle.clause_store.specs.Store.{Store}
use Rattle.clause_encoder.specs.Encoding.{literal_value, clause_value, all_true, AreLiteralsOf, SaysMore, Encodes, EncodesGates, same_bool, is_gate_kept, are_gates_kept}

same_true : (x y : Bool) → same_bool x y ≡ true → x ≡ y
same_true true true h = refl
same_true true false h = cc
same_true false true h = cc
same_true false false h = refl

same_here : (x y : Bool) → x ≡ y → same_bool x y ≡ true
same_here true true h = refl
same_here true false h = cc
same_here false true h = cc
same_here false false h = refl

and_left : (x y : Bool) → (x && y) ≡ true → x ≡ true
and_left true y h = refl
and_left false y h = cc

and_right : (x y : Bool) → (x && y) ≡ true → y ≡ true
and_right true y h = h
and_right false y h = cc

-- ---- gate by gate

pub are_gates_kept-push : (a : ℕ → Bool) (n : ℕ) (gates : List Gate) (g : Gate) → are_gates_kept a n (gates ++ g ∷ []) ≡ (are_gates_kept a n gates && is_gate_kept a (n + length gates) g)
are_gates_kept-push a n [] g = let z : n + 0 ≡ n = omega arith in rw z (by (is_gate_kept a n g))
  where
    by : (b : Bool) → (b && true) ≡ b
    by true = refl
    by false = refl
are_gates_kept-push a n (h ∷ gates) g =
    let z : n + suc (length gates) ≡ (n + 1) + length gates = omega arith in
    rw z (ap (λ b. is_gate_kept a n h && b) (are_gates_kept-push a (n + 1) gates g) ∙ by (is_gate_kept a n h) (are_gates_kept a (n + 1) gates) (is_gate_kept a ((n + 1) + length gates) g))
  where
    by : (x y z : Bool) → (x && (y && z)) ≡ ((x && y) && z)
    by true y z = refl
    by false y z = refl

pub kept_each : (a : ℕ → Bool) (n : ℕ) (gates : List Gate) → are_gates_kept a n gates ≡ true → (i : ℕ) (g : Gate) → slice_get gates i ≡ Some g → is_gate_kept a (n + i) g ≡ true
kept_each a n [] h i g at = cc
kept_each a n (f ∷ gates) h zero g at = let e : f ≡ g = grind arith in let z : n + 0 ≡ n = omega arith in rw z (rw e at (and_left (is_gate_kept a n f) (are_gates_kept a (n + 1) gates) h))
kept_each a n (f ∷ gates) h (suc i) g at = let z : n + suc i ≡ (n + 1) + i = omega arith in rw z (kept_each a (n + 1) gates (and_right (is_gate_kept a n f) (are_gates_kept a (n + 1) gates) h) i g at)

pub kept_all : (a : ℕ → Bool) (n : ℕ) (gates : List Gate) → ((i : ℕ) (g : Gate) → slice_get gates i ≡ Some g → is_gate_kept a (n + i) g ≡ true) → are_gates_kept a n gates ≡ true
kept_all a n [] each = refl
kept_all a n (f ∷ gates) each =
    let here : is_gate_kept a n f ≡ true = (let z : n + 0 ≡ n = omega arith in rw z at (each 0 f refl)) in
    let rest : are_gates_kept a (n + 1) gates ≡ true = kept_all a (n + 1) gates (λ i g at. let z : n + suc i ≡ (n + 1) + i = omega arith in rw z at (each (suc i) g at)) in
    cc

-- at an assignment above the bits a gate is kept where its wire has its value
pub gate_kept : (a : ℕ → Bool) (bits : List Bool) (n : ℕ) (g : Gate) → a n ≡ gate_value bits (λ w. a w.number) g → is_gate_kept a n g ≡ true
gate_kept a bits n (Input k) h = refl
gate_kept a bits n (Constant b) h = same_here (a n) b h
gate_kept a bits n (Not x) h = same_here (a n) _ h
gate_kept a bits n (And x y) h = same_here (a n) _ h
gate_kept a bits n (Or x y) h = same_here (a n) _ h
gate_kept a bits n (Xor x y) h = same_here (a n) _ h
gate_kept a bits n (Choose p x y) h = same_here (a n) _ h

pub kept_value : (a : ℕ → Bool) (bits : List Bool) (n : ℕ) (g : Gate) → ((k : ℕ) → g ≡ Input k → a n ≡ get_or bits k false) → is_gate_kept a n g ≡ true → a n ≡ gate_value bits (λ w. a w.number) g
kept_value a bits n (Input k) above h = above k refl
kept_value a bits n (Constant b) above h = same_true (a n) b h
kept_value a bits n (Not x) above h = same_true (a n) _ h
kept_value a bits n (And x y) above h = same_true (a n) _ h
kept_value a bits n (Or x y) above h = same_true (a n) _ h
kept_value a bits n (Xor x y) above h = same_true (a n) _ h
kept_value a bits n (Choose p x y) above h = same_true (a n) _ h

-- ---- the whole circuit

pub EncodesGates-more : (gates : List Gate) (i : ℕ) (g d : Gate) (old new : Store) → i < length gates → get_or gates i d ≡ g → EncodesGates (take i gates) old → SaysMore old new 4 (2 * i + 1) (λ v. is_gate_kept v i g) → EncodesGates (take (i + 1) gates) new
EncodesGates-more gates i g d old new h at first more =
    let e : take (i + 1) gates ≡ take i gates ++ g ∷ [] = take_more gates i d h ∙ ap (λ x. take i gates ++ x ∷ []) at in
    let l : length (take i gates) ≡ i = length-take-le i gates (omega arith) in
    let pushed : length (take i gates ++ g ∷ []) ≡ i + 1 = length_push (take i gates) g ∙ ap (λ n. n + 1) l in
    let older : All (HasVariablesBelow (i + 1)) old.clauses =
    All-weaker (HasVariablesBelow (length (take i gates))) (HasVariablesBelow (i + 1)) (λ c. All-weaker (λ x. variable_of x < length (take i gates)) (λ x. variable_of x < i + 1) (λ x b. omega (arith, l, b)) c) old.clauses first.below in
    rw e (record {
      few = omega (arith, first.few, more.few, l, pushed);
      says = λ v. more.says v ∙ ap (λ b. b && is_gate_kept v i g) (first.says v) ∙ sym (let z : 0 + length (take i gates) ≡ i = omega (arith, l) in rw z at (are_gates_kept-push v 0 (take i gates) g));
      below = subst (λ n. All (HasVariablesBelow n) new.clauses) (sym pushed) (more.below (i + 1) (omega arith) older);
      live = more.live first.live;
    })

-- an assignment above the bits gives each input its bit
above_inputs : (gates : List Gate) (bits : List Bool) (v : ℕ → Bool) → AreNumbered 0 gates → IsAbove (input_wires gates) bits v → (i k : ℕ) → slice_get gates i ≡ Some (Input k) → v i ≡ get_or bits k false
above_inputs gates bits v numbered above i k at =
    let r : IsInputAt 0 0 i gates k = input_number 0 0 i gates k numbered at in
    let wire : get_or (input_wires gates) r.more 0 ≡ i = r.wire ∙ zero-add i in
    let number : r.more ≡ k = omega (arith, r.number) in
    ap v (sym wire) ∙ above r.more r.few ∙ ap (λ n. get_or bits n false) number

-- the values of the wires are above the bits
values_above : (gates : List Gate) (bits : List Bool) → IsCircuit (inputs gates) gates → IsAbove (input_wires gates) bits (λ i. wire_value gates (record { number = i }) bits)
values_above gates bits c k h =
    let r : IsInputOf 0 0 k gates = input_at 0 0 k gates c.numbered h in
    let wire : get_or (input_wires gates) k 0 ≡ r.at = r.wire ∙ zero-add r.at in
    ap (λ i. wire_value gates (record { number = i }) bits) wire
    ∙ wire_value_at (inputs gates) gates (record { number = r.at }) (Input (0 + k)) bits c.behind r.gate
    ∙ ap (λ n. get_or bits n false) (zero-add k)

-- clauses are satisfied where they are all true
satisfied : (v : ℕ → Bool) (clauses : List (List Literal)) → all_true v clauses ≡ true → SatisfiesAll v clauses
satisfied v clauses h = All-weaker (λ c. clause_value v c ≡ true) (Satisfies v) (λ c t. Any-from_list_any (literal_value v) c t) clauses (AllPass-from_list_all (clause_value v) clauses h)

told : (v : ℕ → Bool) (clauses : List (List Literal)) → SatisfiesAll v clauses → all_true v clauses ≡ true
told v clauses h = list_all-from_AllPass (clause_value v) clauses (All-weaker (Satisfies v) (λ c. clause_value v c ≡ true) (λ c t. list_any-from_Any (literal_value v) c t) clauses h)

-- only the values of the wires satisfy the clauses of the gates above the bits
only_these : (gates : List Gate) (bits : List Bool) (v : ℕ → Bool) (front : Store) → IsCircuit (inputs gates) gates → EncodesGates gates front → IsAbove (input_wires gates) bits v → all_true v front.clauses ≡ true → (w : Wire) → w.number < length gates → v w.number ≡ wire_value gates w bits
only_these gates bits v front c first above told = wire_value_only (inputs gates) gates bits v c.behind
    (λ i g at. kept_value v bits i g (λ k e. above_inputs gates bits v c.numbered above i k (at ∙ ap Some e)) (let z : 0 + i ≡ i = omega arith in rw z at (kept_each v 0 gates (sym (first.says v) ∙ told) i g at)))

-- and they do
these_satisfy : (gates : List Gate) (bits : List Bool) (front : Store) → IsCircuit (inputs gates) gates → EncodesGates gates front → all_true (λ i. wire_value gates (record { number = i }) bits) front.clauses ≡ true
these_satisfy gates bits front c first =
    let v : ℕ → Bool = λ i. wire_value gates (record { number = i }) bits in
    first.says v ∙ kept_all v 0 gates (λ i g at. let z : 0 + i ≡ i = omega arith in rw z (gate_kept v bits i g (wire_value_at (inputs gates) gates (record { number = i }) g bits c.behind at)))

and_true : (b : Bool) → (b && true) ≡ b
and_true true = refl
and_true false = refl

pub encodes : (gates : List Gate) (root : Wire) (front store : Store) (own : Literal × Literal) → IsCircuit (inputs gates) gates → IsWireOf gates root → EncodesGates gates front → AreLiteralsOf own root.number
    → SaysMore front store 1 own.0.code (λ v. literal_value v own.0) → store.clauses ≡ front.clauses ++ (own.0 ∷ []) ∷ [] → Encodes gates root store
encodes gates root front store own c inside first own_is last e = record {
  front = front.clauses;
  root_last = e ∙ ap (λ k. front.clauses ++ (record { code = k } ∷ []) ∷ []) own_is.on_code;
  few = first.few;
  below = last.below (length gates) (omega (arith, own_is.on_code)) first.below;
  live = last.live first.live;
  satisfiable = λ bits size. ((λ i. wire_value gates (record { number = i }) bits), values_above gates bits c, satisfied (λ i. wire_value gates (record { number = i }) bits) front.clauses (these_satisfy gates bits front c first));
  only_values = λ bits size v above all. only_these gates bits v front c first above (told v front.clauses all);
  root_decides = λ bits size. (
    (λ (v, above, all).
        let t : (all_true v front.clauses && literal_value v own.0) ≡ true = sym (last.says v) ∙ told v store.clauses all in
        sym (only_these gates bits v front c first above (and_left _ _ t) root inside) ∙ sym (own_is.on v) ∙ and_right _ _ t),
    (λ yes. let v : ℕ → Bool = λ i. wire_value gates (record { number = i }) bits in (
      v,
      values_above gates bits c,
      satisfied v store.clauses
          (last.says v ∙ ap (λ b. b && literal_value v own.0) (these_satisfy gates bits front c first) ∙ own_is.on v ∙ yes),
    )),
  );
}
