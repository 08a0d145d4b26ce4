-- A circuit of inputs alone.
use Rattle.std.proofs.Common.{◌≡◌, ℕ, ◌+◌, ◌≤◌, List, [], ◌∷◌, length, refl, sym, ap, ◌∙◌, arith}
use Rattle.std.specs.List.{range_with_len}
use Rattle.bool_circuit.specs.declared.gate.Gate.{Gate}
use Rattle.bool_circuit.specs.declared.gate.Gate.TheVariants.{Input, Constant, Not, And, Or, Xor, Choose}
use Rattle.bool_circuit.specs.Circuit.{inputs_from, input_wires, inputs}
use Rattle.clf_tree.specs.Lists.{numbers_below}

-- no more inputs than gates
inputs_few : (n : ℕ) (gates : List Gate) → length (inputs_from n gates) ≤ length gates
inputs_few n [] = omega arith
inputs_few n (Input j ∷ gates) = omega (arith, inputs_few (n + 1) gates)
inputs_few n (Constant b ∷ gates) = omega (arith, inputs_few (n + 1) gates)
inputs_few n (Not a ∷ gates) = omega (arith, inputs_few (n + 1) gates)
inputs_few n (And a b ∷ gates) = omega (arith, inputs_few (n + 1) gates)
inputs_few n (Or a b ∷ gates) = omega (arith, inputs_few (n + 1) gates)
inputs_few n (Xor a b ∷ gates) = omega (arith, inputs_few (n + 1) gates)
inputs_few n (Choose p a b ∷ gates) = omega (arith, inputs_few (n + 1) gates)

-- with as many inputs as gates each gate is one
inputs_all : (n : ℕ) (gates : List Gate) → length (inputs_from n gates) ≡ length gates
    → inputs_from n gates ≡ range_with_len n (length gates)
inputs_all n [] e = refl
inputs_all n (Input j ∷ gates) e = ap (λ ns. n ∷ ns) (inputs_all (n + 1) gates (omega (arith, e)))
inputs_all n (Constant b ∷ gates) e = absurd (omega (arith, e, inputs_few (n + 1) gates))
inputs_all n (Not a ∷ gates) e = absurd (omega (arith, e, inputs_few (n + 1) gates))
inputs_all n (And a b ∷ gates) e = absurd (omega (arith, e, inputs_few (n + 1) gates))
inputs_all n (Or a b ∷ gates) e = absurd (omega (arith, e, inputs_few (n + 1) gates))
inputs_all n (Xor a b ∷ gates) e = absurd (omega (arith, e, inputs_few (n + 1) gates))
inputs_all n (Choose p a b ∷ gates) e = absurd (omega (arith, e, inputs_few (n + 1) gates))

pub inputs_are : (gates : List Gate) (n : ℕ) → inputs gates ≡ n → length gates ≡ n → input_wires gates ≡ numbers_below n
inputs_are gates n count all = inputs_all 0 gates (count ∙ sym all) ∙ ap numbers_below all
