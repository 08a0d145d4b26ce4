-- The values of the wires of a circuit that grows, and that there is one list of them.
use Rattle.std.proofs.Common.{◌≡◌, ℕ, suc, zero, ◌+◌, ◌<◌, ◌≤◌, Bool, false, not, List, [], ◌∷◌, ◌++◌, length, get_or, take, fold, slice_get, Some, refl, sym, ap, ◌∙◌, subst, arith, inl, inr, append-nil, zero-add}
use Rattle.std.proofs.lemmas.List.{get_or_append_left, get_or_push, length_push, take_more, length-take-le}
use Rattle.std.proofs.lemmas.Option.{slice_get_within, get_or_from_slice_get}
use Rattle.bool_circuit.specs.declared.gate.Wire.{Wire}
use Rattle.bool_circuit.specs.declared.gate.Gate.{Gate}
use Rattle.bool_circuit.specs.declared.gate.Gate.TheVariants.{Input, Constant, Not, And, Or, Xor, Choose}
use Rattle.bool_circuit.specs.Circuit.{entry, gate_value, values, wire_value, inputs_from, input_wires, inputs, AreNumbered, IsGateBelow, AreBehind, IsCircuit, IsWireOf, IsGateAdded, Extends}

-- the values of the first gates, followed by those of `gates`
abbrev pub more_values : List Bool → List Bool → List Gate → List Bool
more_values bits vs gates = fold (λ us g. us ++ gate_value bits (entry us) g ∷ []) vs gates

-- a gate's value looks only at its operands
pub gate_value_same : (bits : List Bool) (u v : Wire → Bool) (m n : ℕ) (g : Gate) → IsGateBelow m n g → ((w : Wire) → w.number < n → u w ≡ v w) → gate_value bits u g ≡ gate_value bits v g
gate_value_same bits u v m n (Input k) b same = refl
gate_value_same bits u v m n (Constant k) b same = refl
gate_value_same bits u v m n (Not a) b same = ap not (same a b)
gate_value_same bits u v m n (And x y) b same = (let p = same x b.0 in let q = same y b.1 in cc)
gate_value_same bits u v m n (Or x y) b same = (let p = same x b.0 in let q = same y b.1 in cc)
gate_value_same bits u v m n (Xor x y) b same = (let p = same x b.0 in let q = same y b.1 in cc)
gate_value_same bits u v m n (Choose x y z) b same = (let p = same x b.0 in let q = same y b.1 in let r = same z b.2 in cc)

pub length-more_values : (bits vs : List Bool) (gates : List Gate) → length (more_values bits vs gates) ≡ length vs + length gates
length-more_values bits vs [] = omega arith
length-more_values bits vs (g ∷ gates) =
    omega (arith, length-more_values bits (vs ++ gate_value bits (entry vs) g ∷ []) gates, length_push vs (gate_value bits (entry vs) g))

pub more_values_keeps : (bits vs : List Bool) (gates : List Gate) (i : ℕ) → i < length vs → get_or (more_values bits vs gates) i false ≡ get_or vs i false
more_values_keeps bits vs [] i h = refl
more_values_keeps bits vs (g ∷ gates) i h =
    more_values_keeps bits (vs ++ gate_value bits (entry vs) g ∷ []) gates i (omega (arith, length_push vs (gate_value bits (entry vs) g)))
    ∙ get_or_append_left vs (gate_value bits (entry vs) g ∷ []) false i h

-- each wire has the value of its gate
pub more_values_at : (bits vs : List Bool) (m n : ℕ) (gates : List Gate) (i : ℕ) (g : Gate) → length vs ≡ n → AreBehind m n gates → slice_get gates i ≡ Some g
    → get_or (more_values bits vs gates) (n + i) false ≡ gate_value bits (entry (more_values bits vs gates)) g
more_values_at bits vs m n [] i g l b at = cc
more_values_at bits vs m n (f ∷ gates) zero g l b at =
    let v : Bool = gate_value bits (entry vs) f in
    let us : List Bool = more_values bits (vs ++ v ∷ []) gates in
    let e : f ≡ g = grind arith in
    let here : get_or us (n + 0) false ≡ v =
    (let z : n + 0 ≡ n = omega arith in rw z (more_values_keeps bits (vs ++ v ∷ []) gates n (omega (arith, length_push vs v)) ∙ get_or_push vs v false n l)) in
    let same : gate_value bits (entry us) f ≡ v =
    gate_value_same bits (entry us) (entry vs) m n f b.0 (λ w h. more_values_keeps bits vs (f ∷ gates) w.number (omega arith)) in
    here ∙ sym same ∙ ap (gate_value bits (entry us)) e
more_values_at bits vs m n (f ∷ gates) (suc i) g l b at =
    let v : Bool = gate_value bits (entry vs) f in
    let k : n + suc i ≡ (n + 1) + i = omega arith in
    rw k (more_values_at bits (vs ++ v ∷ []) m (n + 1) gates i g (omega (arith, length_push vs v)) b.1 at)

-- the values are the only ones at which each wire has the value of its gate
pub more_values_only : (bits vs : List Bool) (u : ℕ → Bool) (m n : ℕ) (gates : List Gate) → length vs ≡ n → AreBehind m n gates
    → ((i : ℕ) → i < n → u i ≡ get_or vs i false)
    → ((i : ℕ) (g : Gate) → slice_get gates i ≡ Some g → u (n + i) ≡ gate_value bits (λ w. u w.number) g)
    → (i : ℕ) → i < n + length gates → u i ≡ get_or (more_values bits vs gates) i false
more_values_only bits vs u m n [] l b front each i h = front i (omega arith)
more_values_only bits vs u m n (f ∷ gates) l b front each i h =
    let v : Bool = gate_value bits (entry vs) f in
    let here : u n ≡ v = (let z : n + 0 ≡ n = omega arith in rw z at (each 0 f refl) ∙ gate_value_same bits (λ w. u w.number) (entry vs) m n f b.0 (λ w h. front w.number h)) in
    more_values_only bits (vs ++ v ∷ []) u m (n + 1) gates (omega (arith, length_push vs v)) b.1
    (λ j k. grind (arith, get_or_append_left vs (v ∷ []) false j, get_or_push vs v false n l, front j, here))
    (λ j g at. let k : (n + 1) + j ≡ n + suc j = omega arith in rw k (each (suc j) g at))
    i (omega arith)

-- ---- of a whole circuit

pub length-values : (bits : List Bool) (gates : List Gate) → length (values bits gates) ≡ length gates
unfolding values
length-values bits gates = omega (arith, length-more_values bits [] gates)

-- a gate at the end gets its value, and the others keep theirs
pub values-push : (bits : List Bool) (gates : List Gate) (g : Gate) → values bits (gates ++ g ∷ []) ≡ values bits gates ++ gate_value bits (entry (values bits gates)) g ∷ []
unfolding values
values-push bits gates g = by [] gates
  where
    by : (vs : List Bool) (hs : List Gate) → more_values bits vs (hs ++ g ∷ []) ≡ more_values bits vs hs ++ gate_value bits (entry (more_values bits vs hs)) g ∷ []
    by vs [] = refl
    by vs (h ∷ hs) = by (vs ++ gate_value bits (entry vs) h ∷ []) hs

pub values_at : (bits : List Bool) (m : ℕ) (gates : List Gate) (i : ℕ) (g : Gate) → AreBehind m 0 gates → slice_get gates i ≡ Some g → get_or (values bits gates) i false ≡ gate_value bits (entry (values bits gates)) g
unfolding values
values_at bits m gates i g b at = let z : 0 + i ≡ i = omega arith in rw z at (more_values_at bits [] m 0 gates i g refl b at)

-- ---- a circuit with one gate more

pub inputs_from-append : (n : ℕ) (gates hs : List Gate) → inputs_from n (gates ++ hs) ≡ inputs_from n gates ++ inputs_from (n + length gates) hs
inputs_from-append n [] hs = let z : n + 0 ≡ n = omega arith in rw z refl
inputs_from-append n (Input k ∷ gates) hs = let z : n + suc (length gates) ≡ (n + 1) + length gates = omega arith in rw z (ap (λ ws. n ∷ ws) (inputs_from-append (n + 1) gates hs))
inputs_from-append n (Constant b ∷ gates) hs = let z : n + suc (length gates) ≡ (n + 1) + length gates = omega arith in rw z (inputs_from-append (n + 1) gates hs)
inputs_from-append n (Not a ∷ gates) hs = let z : n + suc (length gates) ≡ (n + 1) + length gates = omega arith in rw z (inputs_from-append (n + 1) gates hs)
inputs_from-append n (And a b ∷ gates) hs = let z : n + suc (length gates) ≡ (n + 1) + length gates = omega arith in rw z (inputs_from-append (n + 1) gates hs)
inputs_from-append n (Or a b ∷ gates) hs = let z : n + suc (length gates) ≡ (n + 1) + length gates = omega arith in rw z (inputs_from-append (n + 1) gates hs)
inputs_from-append n (Xor a b ∷ gates) hs = let z : n + suc (length gates) ≡ (n + 1) + length gates = omega arith in rw z (inputs_from-append (n + 1) gates hs)
inputs_from-append n (Choose p a b ∷ gates) hs = let z : n + suc (length gates) ≡ (n + 1) + length gates = omega arith in rw z (inputs_from-append (n + 1) gates hs)

no_more_inputs : (n : ℕ) (g : Gate) → inputs (g ∷ []) ≡ 0 → inputs_from n (g ∷ []) ≡ []
no_more_inputs n (Input k) none = absurd (omega arith)
no_more_inputs n (Constant b) none = refl
no_more_inputs n (Not a) none = refl
no_more_inputs n (And a b) none = refl
no_more_inputs n (Or a b) none = refl
no_more_inputs n (Xor a b) none = refl
no_more_inputs n (Choose p a b) none = refl

-- a gate that is no input leaves the inputs as they were
pub input_wires-push : (gates : List Gate) (g : Gate) → inputs (g ∷ []) ≡ 0 → input_wires (gates ++ g ∷ []) ≡ input_wires gates
input_wires-push gates g none =
    inputs_from-append 0 gates (g ∷ []) ∙ ap (λ ws. input_wires gates ++ ws) (no_more_inputs (0 + length gates) g none) ∙ append-nil (input_wires gates)

-- an input is one more
pub inputs-input : (gates : List Gate) (k : ℕ) → inputs (gates ++ Input k ∷ []) ≡ inputs gates + 1
inputs-input gates k = ap length (inputs_from-append 0 gates (Input k ∷ [])) ∙ length_push (input_wires gates) (0 + length gates)

AreNumbered-push : (k : ℕ) (gates : List Gate) (g : Gate) → inputs (g ∷ []) ≡ 0 → AreNumbered k gates → AreNumbered k (gates ++ g ∷ [])
AreNumbered-push k [] (Input j) none h = absurd (omega arith)
AreNumbered-push k [] (Constant b) none h = tt
AreNumbered-push k [] (Not a) none h = tt
AreNumbered-push k [] (And a b) none h = tt
AreNumbered-push k [] (Or a b) none h = tt
AreNumbered-push k [] (Xor a b) none h = tt
AreNumbered-push k [] (Choose p a b) none h = tt
AreNumbered-push k (Input j ∷ gates) g none h = (h.0, AreNumbered-push (k + 1) gates g none h.1)
AreNumbered-push k (Constant b ∷ gates) g none h = AreNumbered-push k gates g none h
AreNumbered-push k (Not a ∷ gates) g none h = AreNumbered-push k gates g none h
AreNumbered-push k (And a b ∷ gates) g none h = AreNumbered-push k gates g none h
AreNumbered-push k (Or a b ∷ gates) g none h = AreNumbered-push k gates g none h
AreNumbered-push k (Xor a b ∷ gates) g none h = AreNumbered-push k gates g none h
AreNumbered-push k (Choose p a b ∷ gates) g none h = AreNumbered-push k gates g none h

AreNumbered-input : (k n : ℕ) (gates : List Gate) → AreNumbered k gates → AreNumbered k (gates ++ Input (k + length (inputs_from n gates)) ∷ [])
AreNumbered-input k n [] h = (omega arith, tt)
AreNumbered-input k n (Input j ∷ gates) h = let z : k + suc (length (inputs_from (n + 1) gates)) ≡ (k + 1) + length (inputs_from (n + 1) gates) = omega arith in (h.0, rw z (AreNumbered-input (k + 1) (n + 1) gates h.1))
AreNumbered-input k n (Constant b ∷ gates) h = AreNumbered-input k (n + 1) gates h
AreNumbered-input k n (Not a ∷ gates) h = AreNumbered-input k (n + 1) gates h
AreNumbered-input k n (And a b ∷ gates) h = AreNumbered-input k (n + 1) gates h
AreNumbered-input k n (Or a b ∷ gates) h = AreNumbered-input k (n + 1) gates h
AreNumbered-input k n (Xor a b ∷ gates) h = AreNumbered-input k (n + 1) gates h
AreNumbered-input k n (Choose p a b ∷ gates) h = AreNumbered-input k (n + 1) gates h

pub AreBehind-push : (m n : ℕ) (gates : List Gate) (g : Gate) → AreBehind m n gates → IsGateBelow m (n + length gates) g → AreBehind m n (gates ++ g ∷ [])
AreBehind-push m n [] g a b = (let z : n + 0 ≡ n = omega arith in rw z at b, tt)
AreBehind-push m n (h ∷ gates) g a b =
    (a.0, AreBehind-push m (n + 1) gates g a.1 (let z : n + suc (length gates) ≡ (n + 1) + length gates = omega arith in rw z at b))

pub IsCircuit-push : (m : ℕ) (gates : List Gate) (g : Gate) → IsCircuit m gates → inputs (g ∷ []) ≡ 0 → IsGateBelow m (length gates) g → length gates < 268435456 → IsCircuit m (gates ++ g ∷ [])
IsCircuit-push m gates g c none b room = record {
  input_count = ap length (input_wires-push gates g none) ∙ c.input_count;
  numbered = AreNumbered-push 0 gates g none c.numbered;
  behind = AreBehind-push m 0 gates g c.behind (let z : 0 + length gates ≡ length gates = omega arith in rw z b);
  few = omega (arith, length_push gates g);
}

pub extends_none : (gates : List Gate) (n : ℕ) → Extends gates gates n
extends_none gates n = record {
  at_least = omega arith;
  at_most = omega arith;
  same_inputs = refl;
  keeps = λ w h bits. refl;
}

pub Extends-push : (gates : List Gate) (g : Gate) (n : ℕ) → inputs (g ∷ []) ≡ 0 → 0 < n → Extends gates (gates ++ g ∷ []) n
unfolding wire_value
Extends-push gates g n none h = record {
  at_least = omega (arith, length_push gates g);
  at_most = omega (arith, length_push gates g);
  same_inputs = input_wires-push gates g none;
  keeps = λ w inside bits. rw (values-push bits gates g) (get_or_append_left (values bits gates) (gate_value bits (entry (values bits gates)) g ∷ []) false w.number (omega (arith, length-values bits gates)));
}

pub extends_added : (old new : List Gate) (g : Gate) (w : Wire) (n : ℕ) → IsGateAdded old new g w → inputs (g ∷ []) ≡ 0 → 0 < n → Extends old new n
extends_added old new g w n a none h = elim a.gates [ inl e ↦ subst (λ gs. Extends old gs n) (sym e) (extends_none old n) | inr e ↦ subst (λ gs. Extends old gs n) (sym e) (Extends-push old g n none h) ]

pub is_wire_added : (old new : List Gate) (g : Gate) (w : Wire) → IsGateAdded old new g w → IsWireOf new w
is_wire_added old new g w a = slice_get_within new w.number g a.at

-- the wire of an added gate has the value of the gate
pub wire_value_added : (m : ℕ) (old new : List Gate) (g : Gate) (w : Wire) → IsGateAdded old new g w → IsCircuit m new → inputs (g ∷ []) ≡ 0 → IsGateBelow m (length old) g → (bits : List Bool) → wire_value new w bits ≡ gate_value bits (λ a. wire_value old a bits) g
unfolding wire_value
wire_value_added m old new g w a c none b bits =
    values_at bits m new w.number g c.behind a.at
    ∙ gate_value_same bits (entry (values bits new)) (entry (values bits old)) m (length old) g b (λ x h. (extends_added old new g w 1 a none (omega arith)).keeps x h bits)

-- what an added gate leaves is a circuit
pub IsCircuit-added : (m : ℕ) (old new : List Gate) (g : Gate) (w : Wire) → IsGateAdded old new g w → IsCircuit m old → inputs (g ∷ []) ≡ 0 → IsGateBelow m (length old) g → length old < 268435456 → IsCircuit m new
IsCircuit-added m old new g w a c none b room = elim a.gates [ inl e ↦ subst (IsCircuit m) (sym e) c | inr e ↦ subst (IsCircuit m) (sym e) (IsCircuit-push m old g c none b room) ]

pub IsCircuit-counted : {m : ℕ} {gates : List Gate} → IsCircuit m gates → IsCircuit (inputs gates) gates
IsCircuit-counted {m} {gates} c = subst (λ k. IsCircuit k gates) (sym c.input_count) c

-- the same where the circuit is known by its fields
pub inserted : (m : ℕ) (view old new : List Gate) (g : Gate) (w : Wire) → old ≡ view → IsGateAdded old new g w → IsCircuit m old → inputs (g ∷ []) ≡ 0 → IsGateBelow (inputs view) (length view) g → length view < 268435456
    → IsCircuit m new × (inputs new ≡ inputs view)
inserted m view old new g w v a c none b room =
    let now : IsCircuit m new = IsCircuit-added m old new g w a c none (subst (λ k. IsGateBelow k (length old) g) c.input_count (subst (λ gs. IsGateBelow (inputs gs) (length gs) g) (sym v) b)) (subst (λ gs. length gs < 268435456) (sym v) room) in
    (now, now.input_count ∙ sym c.input_count ∙ ap inputs v)

-- ---- a new input

pub AreBehind_at : (m n : ℕ) (gates : List Gate) (i : ℕ) (d : Gate) → AreBehind m n gates → i < length gates → IsGateBelow m (n + i) (get_or gates i d)
AreBehind_at m n [] i d b h = absurd (omega arith)
AreBehind_at m n (g ∷ gates) zero d b h = let z : n + 0 ≡ n = omega arith in rw z b.0
AreBehind_at m n (g ∷ gates) (suc i) d b h = let z : n + suc i ≡ (n + 1) + i = omega arith in rw z (AreBehind_at m (n + 1) gates i d b.1 (omega arith))

-- no gate of a circuit with m inputs is the input m
pub no_next_input : (m n : ℕ) (gates : List Gate) (i : ℕ) → AreBehind m n gates → slice_get gates i ≡ Some (Input m) → ⊥
no_next_input m n gates i b at =
    let h : i < length gates = slice_get_within gates i (Input m) at in
    let e : get_or gates i (Input m) ≡ Input m = get_or_from_slice_get gates i (Input m) (Input m) at in
    let below : IsGateBelow m (n + i) (Input m) = rw e at (AreBehind_at m n gates i (Input m) b h) in
    omega arith

pub IsGateBelow-more : (m n : ℕ) (g : Gate) → IsGateBelow m n g → IsGateBelow (m + 1) n g
IsGateBelow-more m n (Input k) b = omega arith
IsGateBelow-more m n (Constant k) b = b
IsGateBelow-more m n (Not a) b = b
IsGateBelow-more m n (And x y) b = b
IsGateBelow-more m n (Or x y) b = b
IsGateBelow-more m n (Xor x y) b = b
IsGateBelow-more m n (Choose x y z) b = b

pub AreBehind-more : (m n : ℕ) (gates : List Gate) → AreBehind m n gates → AreBehind (m + 1) n gates
AreBehind-more m n [] b = tt
AreBehind-more m n (g ∷ gates) b = (IsGateBelow-more m n g b.0, AreBehind-more m (n + 1) gates b.1)

inputs_from_le : (n : ℕ) (gates : List Gate) → length (inputs_from n gates) ≤ length gates
inputs_from_le n [] = omega arith
inputs_from_le n (Input k ∷ gates) = omega (arith, inputs_from_le (n + 1) gates)
inputs_from_le n (Constant b ∷ gates) = omega (arith, inputs_from_le (n + 1) gates)
inputs_from_le n (Not a ∷ gates) = omega (arith, inputs_from_le (n + 1) gates)
inputs_from_le n (And a b ∷ gates) = omega (arith, inputs_from_le (n + 1) gates)
inputs_from_le n (Or a b ∷ gates) = omega (arith, inputs_from_le (n + 1) gates)
inputs_from_le n (Xor a b ∷ gates) = omega (arith, inputs_from_le (n + 1) gates)
inputs_from_le n (Choose p a b ∷ gates) = omega (arith, inputs_from_le (n + 1) gates)

pub inputs_le : (gates : List Gate) → inputs gates ≤ length gates
inputs_le gates = inputs_from_le 0 gates

-- the next input stands behind all gates
pub record IsInputAdded (m : ℕ) (old new : List Gate) (w : Wire) : Type 0 where
  pub gates : new ≡ old ++ Input m ∷ []
  pub last : w.number ≡ length old
  pub circuit : IsCircuit (m + 1) new

pub input_added : (m : ℕ) (old new : List Gate) (w : Wire) → IsGateAdded old new (Input m) w → IsCircuit m old → length old < 268435456 → IsInputAdded m old new w
input_added m old new w a c room =
    elim a.gates [
      | inl e ↦ absurd (no_next_input m 0 old w.number c.behind (subst (λ gs. slice_get gs w.number ≡ Some (Input m)) e a.at))
      | inr e ↦
          (let at : slice_get (old ++ Input m ∷ []) w.number ≡ Some (Input m) = subst (λ gs. slice_get gs w.number ≡ Some (Input m)) e a.at in
          record {
            gates = e;
            last = last_of old w.number m at (λ at. no_next_input m 0 old w.number c.behind at);
            circuit = subst (IsCircuit (m + 1)) (sym e) (record {
              input_count = inputs-input old m ∙ ap (λ k. k + 1) c.input_count;
              numbered = subst (λ k. AreNumbered 0 (old ++ Input k ∷ [])) (zero-add (inputs old) ∙ c.input_count) (AreNumbered-input 0 0 old c.numbered);
              behind = AreBehind-push (m + 1) 0 old (Input m) (AreBehind-more m 0 old c.behind) (omega arith);
              few = omega (arith, length_push old (Input m));
            });
          })
    ]
  where
    last_of : (gs : List Gate) (i m : ℕ) → slice_get (gs ++ Input m ∷ []) i ≡ Some (Input m) → (slice_get gs i ≡ Some (Input m) → ⊥) → i ≡ length gs
    last_of [] zero m at not_before = refl
    last_of [] (suc i) m at not_before = cc
    last_of (g ∷ gs) zero m at not_before = absurd (not_before at)
    last_of (g ∷ gs) (suc i) m at not_before = ap suc (last_of gs i m at not_before)

-- ---- one pass over the gates

pub values-take_more : (bits : List Bool) (gates : List Gate) (i : ℕ) (d : Gate) → i < length gates → values bits (take (i + 1) gates) ≡ values bits (take i gates) ++ gate_value bits (entry (values bits (take i gates))) (get_or gates i d) ∷ []
values-take_more bits gates i d h = rw (take_more gates i d h) (values-push bits (take i gates) (get_or gates i d))

pub length-values-take : (bits : List Bool) (gates : List Gate) (i : ℕ) → i ≤ length gates → length (values bits (take i gates)) ≡ i
length-values-take bits gates i h = length-values bits (take i gates) ∙ length-take-le i gates h

-- the same where the old circuit is known by its fields
pub record IsNextInput (m : ℕ) (view new : List Gate) (w : Wire) : Type 0 where
  pub gates_of_view : new ≡ view ++ Input (inputs view) ∷ []
  pub last_of_view : w.number ≡ length view
  pub circuit : IsCircuit (m + 1) new

pub next_input : (m : ℕ) (view old new : List Gate) (w : Wire) → old ≡ view → IsGateAdded old new (Input m) w → IsCircuit m old → length view + 1 ≤ 268435456 → IsNextInput m view new w
next_input m view old new w v a c room =
    let i : IsInputAdded m old new w = input_added m old new w a c (subst (λ gs. length gs < 268435456) (sym v) (omega arith)) in
    record {
      gates_of_view = i.gates ∙ ap (λ gs. gs ++ Input m ∷ []) v ∙ ap (λ k. view ++ Input k ∷ []) (sym c.input_count ∙ ap inputs v);
      last_of_view = i.last ∙ ap length v;
      circuit = i.circuit;
    }

-- ---- for those who look into circuits

-- each wire has the value of its gate
pub wire_value_at : (m : ℕ) (gates : List Gate) (w : Wire) (g : Gate) (bits : List Bool) → AreBehind m 0 gates → slice_get gates w.number ≡ Some g → wire_value gates w bits ≡ gate_value bits (λ a. wire_value gates a bits) g
unfolding wire_value
wire_value_at m gates w g bits b at = values_at bits m gates w.number g b at

-- and no other values have this
pub wire_value_only : (m : ℕ) (gates : List Gate) (bits : List Bool) (u : ℕ → Bool) → AreBehind m 0 gates
    → ((i : ℕ) (g : Gate) → slice_get gates i ≡ Some g → u i ≡ gate_value bits (λ w. u w.number) g)
    → (w : Wire) → w.number < length gates → u w.number ≡ wire_value gates w bits
unfolding wire_value values
wire_value_only m gates bits u b each w h =
    more_values_only bits [] u m 0 gates refl b (λ i h. absurd (omega arith)) (λ i g at. let z : 0 + i ≡ i = omega arith in rw z (each i g at)) w.number (omega arith)

-- ---- inputs and their wires

-- the wire of an input is the one that its number tells
pub record IsInputAt (n k i : ℕ) (gates : List Gate) (j : ℕ) : Type 0 where
  pub more : ℕ
  pub number : j ≡ k + more
  pub few : more < length (inputs_from n gates)
  pub wire : get_or (inputs_from n gates) more 0 ≡ n + i

later : (n k i : ℕ) (g : Gate) (gates : List Gate) (j : ℕ) → inputs_from n (g ∷ gates) ≡ inputs_from (n + 1) gates → IsInputAt (n + 1) k i gates j → IsInputAt n k (suc i) (g ∷ gates) j
later n k i g gates j e r = record {
  more = r.more;
  number = r.number;
  few = omega (arith, ap length e, r.few);
  wire = ap (λ ws. get_or ws r.more 0) e ∙ r.wire ∙ (let z : (n + 1) + i ≡ n + suc i = omega arith in z);
}

pub input_number : (n k i : ℕ) (gates : List Gate) (j : ℕ) → AreNumbered k gates → slice_get gates i ≡ Some (Input j) → IsInputAt n k i gates j
input_number n k i [] j a at = cc
input_number n k zero (Input l ∷ gates) j a at =
    let same : Input l ≡ Input j = grind arith in
    let e : l ≡ j = cc in
    record { more = 0; number = omega (arith, a.0); few = omega arith; wire = omega arith }
input_number n k (suc i) (Input l ∷ gates) j a at =
    let r : IsInputAt (n + 1) (k + 1) i gates j = input_number (n + 1) (k + 1) i gates j a.1 at in
    record { more = suc r.more; number = omega (arith, r.number); few = omega (arith, r.few); wire = r.wire ∙ (let z : (n + 1) + i ≡ n + suc i = omega arith in z) }
input_number n k zero (Constant y ∷ gates) j a at = let same : Constant y ≡ Input j = grind arith in cc
input_number n k (suc i) (Constant y ∷ gates) j a at = later n k i (Constant y) gates j refl (input_number (n + 1) k i gates j a at)
input_number n k zero (Not x ∷ gates) j a at = let same : Not x ≡ Input j = grind arith in cc
input_number n k (suc i) (Not x ∷ gates) j a at = later n k i (Not x) gates j refl (input_number (n + 1) k i gates j a at)
input_number n k zero (And x y ∷ gates) j a at = let same : And x y ≡ Input j = grind arith in cc
input_number n k (suc i) (And x y ∷ gates) j a at = later n k i (And x y) gates j refl (input_number (n + 1) k i gates j a at)
input_number n k zero (Or x y ∷ gates) j a at = let same : Or x y ≡ Input j = grind arith in cc
input_number n k (suc i) (Or x y ∷ gates) j a at = later n k i (Or x y) gates j refl (input_number (n + 1) k i gates j a at)
input_number n k zero (Xor x y ∷ gates) j a at = let same : Xor x y ≡ Input j = grind arith in cc
input_number n k (suc i) (Xor x y ∷ gates) j a at = later n k i (Xor x y) gates j refl (input_number (n + 1) k i gates j a at)
input_number n k zero (Choose z x y ∷ gates) j a at = let same : Choose z x y ≡ Input j = grind arith in cc
input_number n k (suc i) (Choose z x y ∷ gates) j a at = later n k i (Choose z x y) gates j refl (input_number (n + 1) k i gates j a at)

-- and each of these wires is driven by an input, by the one that its place tells
pub record IsInputOf (n k d : ℕ) (gates : List Gate) : Type 0 where
  pub at : ℕ
  pub wire : get_or (inputs_from n gates) d 0 ≡ n + at
  pub gate : slice_get gates at ≡ Some (Input (k + d))

beyond : (n k d : ℕ) (g : Gate) (gates : List Gate) → inputs_from n (g ∷ gates) ≡ inputs_from (n + 1) gates → IsInputOf (n + 1) k d gates → IsInputOf n k d (g ∷ gates)
beyond n k d g gates e r = record {
  at = suc r.at;
  wire = ap (λ ws. get_or ws d 0) e ∙ r.wire ∙ (let z : (n + 1) + r.at ≡ n + suc r.at = omega arith in z);
  gate = r.gate;
}

pub input_at : (n k d : ℕ) (gates : List Gate) → AreNumbered k gates → d < length (inputs_from n gates) → IsInputOf n k d gates
input_at n k d [] h l = absurd (omega arith)
input_at n k zero (Input j ∷ gates) h l = record {
  at = 0;
  wire = omega arith;
  gate = let z : j ≡ k + 0 = omega (arith, h.0) in ap (λ m. Some (Input m)) z;
}
input_at n k (suc d) (Input j ∷ gates) h l =
    let r : IsInputOf (n + 1) (k + 1) d gates = input_at (n + 1) (k + 1) d gates h.1 (omega arith) in
    record {
      at = suc r.at;
      wire = r.wire ∙ (let z : (n + 1) + r.at ≡ n + suc r.at = omega arith in z);
      gate = r.gate ∙ (let z : (k + 1) + d ≡ k + suc d = omega arith in ap (λ m. Some (Input m)) z);
    }
input_at n k d (Constant b ∷ gates) h l = beyond n k d (Constant b) gates refl (input_at (n + 1) k d gates h l)
input_at n k d (Not x ∷ gates) h l = beyond n k d (Not x) gates refl (input_at (n + 1) k d gates h l)
input_at n k d (And x y ∷ gates) h l = beyond n k d (And x y) gates refl (input_at (n + 1) k d gates h l)
input_at n k d (Or x y ∷ gates) h l = beyond n k d (Or x y) gates refl (input_at (n + 1) k d gates h l)
input_at n k d (Xor x y ∷ gates) h l = beyond n k d (Xor x y) gates refl (input_at (n + 1) k d gates h l)
input_at n k d (Choose z x y ∷ gates) h l = beyond n k d (Choose z x y) gates refl (input_at (n + 1) k d gates h l)
