-- What the gate of a wire tells of its value.
use Rattle.std.proofs.Common.{◌≡◌, ℕ, ◌+◌, ◌<◌, Bool, true, false, not, ◌&&◌, ◌||◌, List, length, get_or, slice_get, Some, refl, sym, ap, ◌∙◌, arith, IsTrue, nat_eq as eqb}
use Rattle.std.proofs.lemmas.Option.{slice_get_within, get_or_from_slice_get}
use Rattle.std.proofs.lemmas.Bool.{eqb-true}
use Rattle.bool_circuit.specs.declared.gate.Wire.{Wire}
use Rattle.bool_circuit.specs.declared.gate.Gate.{Gate}
use Rattle.bool_circuit.specs.declared.gate.Gate.TheVariants.{Constant, Not, And, Or}
use Rattle.bool_circuit.specs.Circuit.{wire_value, inputs, IsCircuit, IsGateBelow, IsNegation, IsBelow}
use Rattle.bool_circuit.proofs.Values.{wire_value_at, AreBehind_at}

pub not_not : (b : Bool) → not (not b) ≡ b
not_not true = refl
not_not false = refl

pub constant_value : (gates : List Gate) (w : Wire) (v : Bool) → IsCircuit (inputs gates) gates → slice_get gates w.number ≡ Some (Constant v) → (bits : List Bool) → wire_value gates w bits ≡ v
constant_value gates w v c at bits = wire_value_at (inputs gates) gates w (Constant v) bits c.behind at

pub negation_value : (gates : List Gate) (a b : Wire) → IsCircuit (inputs gates) gates → IsNegation gates a b → (bits : List Bool) → wire_value gates a bits ≡ not (wire_value gates b bits)
negation_value gates a b c at bits = wire_value_at (inputs gates) gates a (Not b) bits c.behind at

pub negated_value : (gates : List Gate) (a b : Wire) → IsCircuit (inputs gates) gates → IsNegation gates a b → (bits : List Bool) → wire_value gates b bits ≡ not (wire_value gates a bits)
negated_value gates a b c at bits = sym (ap not (negation_value gates a b c at bits) ∙ not_not (wire_value gates b bits))

pub negated_within : (gates : List Gate) (a b : Wire) → IsCircuit (inputs gates) gates → IsNegation gates a b → b.number < length gates
negated_within gates a b c at =
    let within : a.number < length gates = slice_get_within gates a.number (Not b) at in
    let same : get_or gates a.number (Not b) ≡ Not b = get_or_from_slice_get gates a.number (Not b) (Not b) at in
    let below : IsGateBelow (inputs gates) (0 + a.number) (Not b) = rw same at (AreBehind_at (inputs gates) 0 gates a.number (Not b) c.behind within) in
    omega (arith, below)

-- the same where a test has found the operand
pub negation_value_at : (gates : List Gate) (a b c : Wire) (same : Bool) → IsCircuit (inputs gates) gates → IsNegation gates a c → same ≡ eqb c.number b.number → IsTrue same → (bits : List Bool) → wire_value gates a bits ≡ not (wire_value gates b bits)
negation_value_at gates a b c same circuit at e t bits =
    negation_value gates a b circuit (at ∙ ap (λ (n : ℕ). Some (Not (record { number = n }))) (eqb-true c.number b.number (sym e ∙ t))) bits

-- ---- an operation and one of its operands

and_left : (x y v w : Bool) → v ≡ (x && y) → w ≡ x → (v && w) ≡ v
and_left x y v w e f = rw (e, f) (by x y)
  where
    by : (x y : Bool) → ((x && y) && x) ≡ (x && y)
    by true true = refl
    by true false = refl
    by false y = refl

and_right : (x y v w : Bool) → v ≡ (x && y) → w ≡ y → (v && w) ≡ v
and_right x y v w e f = rw (e, f) (by x y)
  where
    by : (x y : Bool) → ((x && y) && y) ≡ (x && y)
    by true true = refl
    by true false = refl
    by false y = refl

or_and_left : (x y v w : Bool) → v ≡ (x && y) → w ≡ x → (v || w) ≡ w
or_and_left x y v w e f = rw (e, f) (by x y)
  where
    by : (x y : Bool) → ((x && y) || x) ≡ x
    by true true = refl
    by true false = refl
    by false y = refl

or_and_right : (x y v w : Bool) → v ≡ (x && y) → w ≡ y → (v || w) ≡ w
or_and_right x y v w e f = rw (e, f) (by x y)
  where
    by : (x y : Bool) → ((x && y) || y) ≡ y
    by true true = refl
    by true false = refl
    by false true = refl
    by false false = refl

and_or_left : (x y v w : Bool) → v ≡ (x || y) → w ≡ x → (w && v) ≡ w
and_or_left x y v w e f = rw (e, f) (by x y)
  where
    by : (x y : Bool) → (x && (x || y)) ≡ x
    by true y = refl
    by false y = refl

and_or_right : (x y v w : Bool) → v ≡ (x || y) → w ≡ y → (w && v) ≡ w
and_or_right x y v w e f = rw (e, f) (by x y)
  where
    by : (x y : Bool) → (y && (x || y)) ≡ y
    by true true = refl
    by true false = refl
    by false true = refl
    by false false = refl

or_left : (x y v w : Bool) → v ≡ (x || y) → w ≡ x → (w || v) ≡ v
or_left x y v w e f = rw (e, f) (by x y)
  where
    by : (x y : Bool) → (x || (x || y)) ≡ (x || y)
    by true y = refl
    by false y = refl

or_right : (x y v w : Bool) → v ≡ (x || y) → w ≡ y → (w || v) ≡ v
or_right x y v w e f = rw (e, f) (by x y)
  where
    by : (x y : Bool) → (y || (x || y)) ≡ (x || y)
    by true true = refl
    by true false = refl
    by false true = refl
    by false false = refl

-- a wire's number decides its value
same_value : (gates : List Gate) (a b : Wire) → a.number ≡ b.number → (bits : List Bool) → wire_value gates b bits ≡ wire_value gates a bits
same_value gates a b e bits = sym (ap (λ (n : ℕ). wire_value gates (record { number = n }) bits) e)

pub and_below_left : (gates : List Gate) (a b x y : Wire) → IsCircuit (inputs gates) gates → slice_get gates a.number ≡ Some (And x y) → x.number ≡ b.number → IsBelow gates a b
and_below_left gates a b x y circuit at e =
    let v = λ (bits : List Bool). wire_value_at (inputs gates) gates a (And x y) bits circuit.behind at in
    record {
      both = λ bits. and_left _ _ _ _ (v bits) (same_value gates x b e bits);
      either = λ bits. or_and_left _ _ _ _ (v bits) (same_value gates x b e bits);
    }

pub and_below_right : (gates : List Gate) (a b x y : Wire) → IsCircuit (inputs gates) gates → slice_get gates a.number ≡ Some (And x y) → y.number ≡ b.number → IsBelow gates a b
and_below_right gates a b x y circuit at e =
    let v = λ (bits : List Bool). wire_value_at (inputs gates) gates a (And x y) bits circuit.behind at in
    record {
      both = λ bits. and_right _ _ _ _ (v bits) (same_value gates y b e bits);
      either = λ bits. or_and_right _ _ _ _ (v bits) (same_value gates y b e bits);
    }

pub or_above_left : (gates : List Gate) (a b x y : Wire) → IsCircuit (inputs gates) gates → slice_get gates a.number ≡ Some (Or x y) → x.number ≡ b.number → IsBelow gates b a
or_above_left gates a b x y circuit at e =
    let v = λ (bits : List Bool). wire_value_at (inputs gates) gates a (Or x y) bits circuit.behind at in
    record {
      both = λ bits. and_or_left _ _ _ _ (v bits) (same_value gates x b e bits);
      either = λ bits. or_left _ _ _ _ (v bits) (same_value gates x b e bits);
    }

pub or_above_right : (gates : List Gate) (a b x y : Wire) → IsCircuit (inputs gates) gates → slice_get gates a.number ≡ Some (Or x y) → y.number ≡ b.number → IsBelow gates b a
or_above_right gates a b x y circuit at e =
    let v = λ (bits : List Bool). wire_value_at (inputs gates) gates a (Or x y) bits circuit.behind at in
    record {
      both = λ bits. and_or_right _ _ _ _ (v bits) (same_value gates y b e bits);
      either = λ bits. or_right _ _ _ _ (v bits) (same_value gates y b e bits);
    }
