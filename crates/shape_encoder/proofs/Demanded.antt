-- Demands, one after another.
use Rattle.std.proofs.Common.{◌≡◌, ℕ, zero, suc, ◌+◌, ◌*◌, ◌<◌, ◌≤◌, Bool, true, false, not, ◌&&◌, ◌||◌, List, length, replicate, set, inl, inr, Some, refl, sym, ap, ◌∙◌, subst, arith}
use Rattle.std.specs.Prelude.{slice_get}
use Rattle.std.specs.Option.{option_map_or}
use Rattle.std.specs.List.{All, list_all}
use Rattle.std.proofs.lemmas.Bool.{cases_lt}
use Rattle.std.proofs.lemmas.List.{get_or-set_same, get_or-set_other, length-set, length-replicate, get_or-replicate, get_or_past}
use Rattle.bool_circuit.specs.declared.gate.Wire.{Wire}
use Rattle.bool_circuit.specs.declared.gate.Gate.{Gate}
use Rattle.bool_circuit.specs.Circuit.{wire_value, entry, IsWireOf, Extends}
use Rattle.bool_circuit.proofs.Extending.{extends_trans, extends_within}
use Rattle.clf_tree.specs.Lists.{numbers_below}
use Rattle.set_bits.specs.declared.layout.Layout.{Layout}
use Rattle.shown_instance.specs.Shown.{is_live}
use Rattle.shape_encoder.specs.Reading.{IsBit}
use Rattle.shape_encoder.specs.Counting.{is_marked}
use Rattle.shape_encoder.specs.declared.demands.Demands.{Demands}
use Rattle.shape_encoder.specs.Demanding.{are_dead, are_met, AreDemands, IsDemanded, IsMetSoFar}
use Rattle.shape_encoder.proofs.Steps.{all_item, and_true, list_all-push, numbers-push}

-- ---- demands in a circuit that grows

pub demands_stay : (old new : List Gate) (n : ℕ) (layout : Layout) (d : Demands) → Extends old new n → AreDemands old layout d → AreDemands new layout d
demands_stay old new n layout d e a = record { wire = (let w = a.wire in omega (arith, e.at_least, w)); slots = a.slots }

met_stays : (old new : List Gate) (n : ℕ) (layout : Layout) (d : Demands) (bits : List Bool) → Extends old new n → AreDemands old layout d → are_met new layout d bits ≡ are_met old layout d bits
met_stays old new n layout d bits e a = ap (λ b. (b && d.is_possible) && are_dead layout d.dead.items bits (length layout.slots)) (e.keeps d.all a.wire bits)

-- an answer leaves the wires that it takes to demand it
pub answer_within : (old mid new : List Gate) (n k : ℕ) → Extends old mid k → length mid + n ≤ length old + k → Extends mid new n → Extends old new k
answer_within old mid new n k x few y = let whole = extends_trans old mid new k n x y in let a = y.at_most in record {
  at_least = whole.at_least;
  at_most = omega (arith, few, a);
  same_inputs = whole.same_inputs;
  keeps = whole.keeps;
}

-- ---- a test more

pub demanded_nothing : (gates : List Gate) (layout : Layout) (d : Demands) (test : List Bool → Bool) → AreDemands gates layout d → ((bits : List Bool) → test bits ≡ true) → IsDemanded gates layout d test gates d
demanded_nothing gates layout d test a h = record {
  demands = a;
  value = λ bits. sym (and_true (are_met gates layout d bits)) ∙ ap (λ b. are_met gates layout d bits && b) (sym (h bits));
}

-- a test that was demanded in a later circuit, by another name
pub demanded_later : (old mid new : List Gate) (n : ℕ) (layout : Layout) (d e : Demands) (told test : List Bool → Bool) → Extends old mid n → AreDemands old layout d → ((bits : List Bool) → told bits ≡ test bits)
    → IsDemanded mid layout d told new e → IsDemanded old layout d test new e
demanded_later old mid new n layout d e told test x a same h = record {
  demands = h.demands;
  value = λ bits. h.value bits ∙ ap (λ b. b && told bits) (met_stays old mid n layout d bits x a) ∙ ap (λ b. are_met old layout d bits && b) (same bits);
}

pub demanded_same : (old new : List Gate) (layout : Layout) (d e : Demands) (told test : List Bool → Bool) → ((bits : List Bool) → told bits ≡ test bits) → IsDemanded old layout d told new e → IsDemanded old layout d test new e
demanded_same old new layout d e told test same h = record { demands = h.demands; value = λ bits. h.value bits ∙ ap (λ b. are_met old layout d bits && b) (same bits) }

pub demanded_both : (old mid new : List Gate) (layout : Layout) (d e f : Demands) (first second : List Bool → Bool) → IsDemanded old layout d first mid e → IsDemanded mid layout e second new f → IsDemanded old layout d (λ bits. first bits && second bits) new f
demanded_both old mid new layout d e f first second g h = record {
  demands = h.demands;
  value = λ bits. h.value bits ∙ ap (λ b. b && second bits) (g.value bits) ∙ regroup (are_met old layout d bits) (first bits) (second bits);
}
  where
    regroup : (a b c : Bool) → ((a && b) && c) ≡ (a && (b && c))
    regroup true b c = refl
    regroup false b c = refl

-- ---- slots that cannot be live

pub or_false : (b : Bool) → (b || false) ≡ b
or_false true = refl
or_false false = refl

dead_push : (layout : Layout) (dead bits : List Bool) (n : ℕ) → are_dead layout dead bits (n + 1) ≡ (are_dead layout dead bits n && not (is_marked dead n && is_live layout bits n))
dead_push layout dead bits n = ap (list_all (λ s. not (is_marked dead s && is_live layout bits s))) (numbers-push n) ∙ list_all-push (λ s. not (is_marked dead s && is_live layout bits s)) (numbers_below n) n

dead_before : (layout : Layout) (dead bits : List Bool) (slot n : ℕ) → n ≤ slot → are_dead layout (set dead slot true) bits n ≡ are_dead layout dead bits n
dead_before layout dead bits slot zero l = refl
dead_before layout dead bits slot (suc n) l =
    let e : suc n ≡ n + 1 = omega arith in
    ap (are_dead layout (set dead slot true) bits) e ∙ dead_push layout (set dead slot true) bits n
    ∙ ap (λ b. b && not (is_marked (set dead slot true) n && is_live layout bits n)) (dead_before layout dead bits slot n (omega (arith, l)))
    ∙ ap (λ b. are_dead layout dead bits n && not (b && is_live layout bits n)) (get_or-set_other dead slot n true false (λ same. absurd (omega (arith, same, l))))
    ∙ sym (ap (are_dead layout dead bits) e ∙ dead_push layout dead bits n)

dead_after : (layout : Layout) (dead bits : List Bool) (slot n : ℕ) → slot < length dead → slot < n → are_dead layout (set dead slot true) bits n ≡ (are_dead layout dead bits n && not (is_live layout bits slot))
dead_after layout dead bits slot zero within l = absurd (omega (arith, l))
dead_after layout dead bits slot (suc n) within l = elim (cases_lt slot n) [
  | inl below ↦
      let e : suc n ≡ n + 1 = omega arith in
      ap (are_dead layout (set dead slot true) bits) e ∙ dead_push layout (set dead slot true) bits n
      ∙ ap (λ b. b && not (is_marked (set dead slot true) n && is_live layout bits n)) (dead_after layout dead bits slot n within below)
      ∙ ap (λ b. (are_dead layout dead bits n && not (is_live layout bits slot)) && not (b && is_live layout bits n)) (get_or-set_other dead slot n true false (λ same. absurd (omega (arith, same, below))))
      ∙ flipped (are_dead layout dead bits n) (not (is_live layout bits slot)) (not (is_marked dead n && is_live layout bits n))
      ∙ sym (ap (λ k. are_dead layout dead bits k && not (is_live layout bits slot)) e ∙ ap (λ b. b && not (is_live layout bits slot)) (dead_push layout dead bits n))
  | inr above ↦
      let e : suc n ≡ slot + 1 = omega (arith, l, above) in
      ap (are_dead layout (set dead slot true) bits) e ∙ dead_push layout (set dead slot true) bits slot
      ∙ ap (λ b. b && not (is_marked (set dead slot true) slot && is_live layout bits slot)) (dead_before layout dead bits slot slot (omega arith))
      ∙ ap (λ b. are_dead layout dead bits slot && not (b && is_live layout bits slot)) (get_or-set_same dead slot true false within)
      ∙ once (are_dead layout dead bits slot) (is_marked dead slot) (is_live layout bits slot)
      ∙ sym (ap (λ k. are_dead layout dead bits k && not (is_live layout bits slot)) e ∙ ap (λ b. b && not (is_live layout bits slot)) (dead_push layout dead bits slot))
]
  where
    flipped : (a b c : Bool) → ((a && b) && c) ≡ ((a && c) && b)
    flipped false b c = refl
    flipped true true true = refl
    flipped true true false = refl
    flipped true false true = refl
    flipped true false false = refl

    once : (a m l : Bool) → (a && not (true && l)) ≡ ((a && not (m && l)) && not l)
    once false m l = refl
    once true true true = refl
    once true true false = refl
    once true false true = refl
    once true false false = refl

pub dead_demanded : (gates : List Gate) (layout : Layout) (d e : Demands) (slot : ℕ) → slot < length layout.slots → AreDemands gates layout d → e.all ≡ d.all → e.is_possible ≡ d.is_possible → e.dead.items ≡ set d.dead.items slot true
    → IsDemanded gates layout d (λ bits. not (is_live layout bits slot)) gates e
dead_demanded gates layout d e slot within a same possible dead = record {
  demands = record { wire = subst (IsWireOf gates) (sym same) a.wire; slots = ap (λ (bs : List Bool). length bs) dead ∙ length-set d.dead.items slot true ∙ a.slots };
  value = λ bits.
      ap (λ w. (wire_value gates w bits && e.is_possible) && are_dead layout e.dead.items bits (length layout.slots)) same
      ∙ ap (λ b. (wire_value gates d.all bits && b) && are_dead layout e.dead.items bits (length layout.slots)) possible
      ∙ ap (λ b. (wire_value gates d.all bits && d.is_possible) && b) (ap (λ ms. are_dead layout ms bits (length layout.slots)) dead ∙ dead_after layout d.dead.items bits slot (length layout.slots) (omega (arith, a.slots, within)) within)
      ∙ grouped (wire_value gates d.all bits && d.is_possible) (are_dead layout d.dead.items bits (length layout.slots)) (not (is_live layout bits slot));
}
  where
    grouped : (a b c : Bool) → (a && (b && c)) ≡ ((a && b) && c)
    grouped true b c = refl
    grouped false b c = refl

-- ---- the wire at the end

live_at : (gates : List Gate) (layout : Layout) (n : ℕ) (live : Wire) (bits : List Bool) → All (IsBit gates) layout.live → slice_get layout.live n ≡ Some live → wire_value gates live bits ≡ is_live layout bits n
live_at gates layout n live bits lives get = (all_item (IsBit gates) layout.live n live lives get).value bits ∙ sym (ap (λ o. option_map_or (entry bits) o false) get)

live_wire : (gates : List Gate) (layout : Layout) (n : ℕ) (live : Wire) → All (IsBit gates) layout.live → slice_get layout.live n ≡ Some live → IsWireOf gates live
live_wire gates layout n live lives get = (all_item (IsBit gates) layout.live n live lives get).wire

pub met_more : (old mid new : List Gate) (layout : Layout) (d : Demands) (n : ℕ) (live all wire : Wire) (dead : Bool) → All (IsBit old) layout.live → slice_get layout.live n ≡ Some live → dead ≡ is_marked d.dead.items n
    → IsMetSoFar old layout d n mid all → Extends mid new 2 → IsWireOf new wire → ((bits : List Bool) → wire_value new wire bits ≡ (wire_value mid all bits && not (dead && wire_value mid live bits))) → IsMetSoFar old layout d (n + 1) new wire
met_more old mid new layout d n live all wire dead lives get is s x w v = record {
  extends = extends_within old new (2 * n + 2) (2 * (n + 1)) (omega arith) (extends_trans old mid new (2 * n) 2 s.extends x);
  is_wire = w;
  value = λ bits.
      v bits ∙ ap (λ b. b && not (dead && wire_value mid live bits)) (s.value bits)
      ∙ ap (λ b. (wire_value old d.all bits && are_dead layout d.dead.items bits n) && not (dead && b)) (s.extends.keeps live (live_wire old layout n live lives get) bits ∙ live_at old layout n live bits lives get)
      ∙ ap (λ b. (wire_value old d.all bits && are_dead layout d.dead.items bits n) && not (b && is_live layout bits n)) is
      ∙ grouped (wire_value old d.all bits) (are_dead layout d.dead.items bits n) (not (is_marked d.dead.items n && is_live layout bits n))
      ∙ ap (λ b. wire_value old d.all bits && b) (sym (dead_push layout d.dead.items bits n));
}
  where
    grouped : (a b c : Bool) → ((a && b) && c) ≡ (a && (b && c))
    grouped true b c = refl
    grouped false b c = refl

-- nothing is marked at first
none_marked : (n s : ℕ) → is_marked (replicate n false) s ≡ false
none_marked n s = elim (cases_lt s n) [
  | inl below ↦ get_or-replicate n s false false below
  | inr above ↦ get_or_past (replicate n false) s false (let l = length-replicate n false in omega (arith, l, above))
]

pub none_dead : (layout : Layout) (dead bits : List Bool) (m n : ℕ) → dead ≡ replicate m false → are_dead layout dead bits n ≡ true
none_dead layout dead bits m zero h = refl
none_dead layout dead bits m (suc n) h =
    let e : suc n ≡ n + 1 = omega arith in
    ap (are_dead layout dead bits) e ∙ dead_push layout dead bits n ∙ ap (λ b. b && not (is_marked dead n && is_live layout bits n)) (none_dead layout dead bits m n h)
    ∙ ap (λ b. not (b && is_live layout bits n)) (ap (λ ms. is_marked ms n) h ∙ none_marked m n)
