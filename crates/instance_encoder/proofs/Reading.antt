-- A circuit of inputs alone, and one input more.
use Rattle.std.proofs.Common.{◌≡◌, ℕ, ◌+◌, ◌<◌, Bool, false, List, [], ◌∷◌, ◌++◌, length, fold, get_or, refl, sym, ap, ◌∙◌, arith, inl, inr}
use Rattle.std.proofs.Math.Nat.{eq-or-lt_of_le}
use Rattle.std.proofs.lemmas.List.{get_or_append_left, get_or_push, length_push}
use Rattle.bool_circuit.specs.declared.gate.Wire.{Wire}
use Rattle.bool_circuit.specs.declared.gate.Gate.{Gate}
use Rattle.bool_circuit.specs.declared.gate.Gate.TheVariants.{Input, Constant, Not, And, Or, Xor, Choose}
use Rattle.bool_circuit.specs.Circuit.{wire_value, values, entry, inputs, inputs_from, gate_value}
use Rattle.set_bits.specs.Fitting.{IsRead}

-- the values of the first gates, followed by those of `gates`
abbrev more_values : List Bool → List Bool → List Gate → List Bool
more_values bits vs gates = fold (λ us g. us ++ gate_value bits (entry us) g ∷ []) vs gates

length-more_values : (bits vs : List Bool) (gates : List Gate) → length (more_values bits vs gates) ≡ length vs + length gates
length-more_values bits vs [] = omega arith
length-more_values bits vs (g ∷ gates) =
    omega (arith, length-more_values bits (vs ++ gate_value bits (entry vs) g ∷ []) gates, length_push vs (gate_value bits (entry vs) g))

length-values : (bits : List Bool) (gates : List Gate) → length (values bits gates) ≡ length gates
unfolding values
length-values bits gates = omega (arith, length-more_values bits [] gates)

values-push : (bits : List Bool) (gates : List Gate) (g : Gate) → values bits (gates ++ g ∷ []) ≡ values bits gates ++ gate_value bits (entry (values bits gates)) g ∷ []
unfolding values
values-push bits gates g = by [] gates
  where
    by : (vs : List Bool) (hs : List Gate) → more_values bits vs (hs ++ g ∷ []) ≡ more_values bits vs hs ++ gate_value bits (entry (more_values bits vs hs)) g ∷ []
    by vs [] = refl
    by vs (h ∷ hs) = by (vs ++ gate_value bits (entry vs) h ∷ []) hs

one_more : (n k : ℕ) (gates : List Gate) → length (inputs_from n (gates ++ Input k ∷ [])) ≡ length (inputs_from n gates) + 1
one_more n k [] = refl
one_more n k (Input j ∷ gates) = omega (arith, one_more (n + 1) k gates)
one_more n k (Constant b ∷ gates) = one_more (n + 1) k gates
one_more n k (Not a ∷ gates) = one_more (n + 1) k gates
one_more n k (And a b ∷ gates) = one_more (n + 1) k gates
one_more n k (Or a b ∷ gates) = one_more (n + 1) k gates
one_more n k (Xor a b ∷ gates) = one_more (n + 1) k gates
one_more n k (Choose p a b ∷ gates) = one_more (n + 1) k gates

pub none_read : IsRead [] 0
none_read = record { count = refl; within = omega arith; reads = λ w h bits. absurd (omega (arith, h)) }

read_at : (gates : List Gate) → IsRead gates (length gates) → (w : Wire) → w.number < length gates + 1 → (bits : List Bool) → wire_value (gates ++ Input (inputs gates) ∷ []) w bits ≡ entry bits w
unfolding wire_value
read_at gates r w h bits = elim (eq-or-lt_of_le {n = w.number} {m = length gates} (omega (arith, h))) [
  | inl e ↦
      rw (values-push bits gates (Input (inputs gates)))
      (get_or_push (values bits gates) (get_or bits (inputs gates) false) false w.number (length-values bits gates ∙ sym e)
      ∙ ap (λ k. get_or bits k false) (r.count ∙ sym e))
  | inr l ↦
      rw (values-push bits gates (Input (inputs gates)))
      (get_or_append_left (values bits gates) (gate_value bits (entry (values bits gates)) (Input (inputs gates)) ∷ []) false w.number (omega (arith, length-values bits gates, l))
      ∙ r.reads w l bits)
]

pub read_more : (gates new : List Gate) → IsRead gates (length gates) → new ≡ gates ++ Input (inputs gates) ∷ [] → IsRead new (length new)
read_more gates new r e = rw e (record {
  count = omega (arith, one_more 0 (inputs gates) gates, length_push gates (Input (inputs gates)), r.count);
  within = omega arith;
  reads = λ w h bits. read_at gates r w (omega (arith, h, length_push gates (Input (inputs gates)))) bits;
})
