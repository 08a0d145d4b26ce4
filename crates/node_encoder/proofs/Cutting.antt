-- A set cut to some clafers.
use Rattle.std.proofs.Common.{◌≡◌, ℕ, zero, suc, ◌+◌, ◌<◌, ◌≤◌, Bool, true, false, cond, ◌&&◌, ◌||◌, List, [], ◌∷◌, length, Option, Some, None, refl, sym, ap, ◌∙◌, subst, arith}
use Rattle.std.specs.Prelude.{slice_get, nat_eq, nat_lt, if◌then◌else◌}
use Rattle.std.specs.Option.{option_map}
use Rattle.std.specs.List.{filter, list_all}
use Rattle.std.proofs.lemmas.Bool.{true≢false, eqb-true}
use Rattle.std.proofs.lemmas.Bool.Decides.{nat_tests}
use Rattle.std.proofs.lemmas.List.Elements.{All-filter}
use Rattle.std.proofs.lemmas.Option.{get_or_from_slice_get, slice_get_within}
use Rattle.bool_circuit.specs.declared.gate.Gate.{Gate}
use Rattle.bool_circuit.specs.Circuit.{wire_value, IsWireOf}
use Rattle.clf_tree.specs.declared.instance.Node.{Node}
use Rattle.clf_tree.specs.Lists.{has}
use Rattle.set_bits.specs.declared.sets.Member.{Member}
use Rattle.set_bits.specs.declared.layout.Layout.{Layout}
use Rattle.set_bits.specs.Fitting.{slot_clafer}
use Rattle.set_bits.specs.Sets.{is_in, has_slot, AscendFrom}
use Rattle.shown_instance.proofs.Order.{both, together}
use Rattle.told_constraints.specs.Told.{is_listed}
use Rattle.node_encoder.specs.Listing.{IsCutTo}

-- ---- one slot

pub there_listed : (layout : Layout) (ks : List ℕ) (s : ℕ) (n : Node) → slice_get layout.slots s ≡ Some n → has ks n.clafer ≡ is_listed layout ks s
unfolding is_listed
there_listed layout ks s n e =
    let in_slots : s < length layout.slots = slice_get_within layout.slots s n e in
    sym (ap (λ b. b && has ks (slot_clafer layout.slots s)) (less s (length layout.slots) in_slots) ∙ ap (λ (m : Node). has ks m.clafer) (get_or_from_slice_get layout.slots s n (record { clafer = 0; number = 0 }) e))
  where
    less : (a b : ℕ) → a < b → nat_lt a b ≡ true
    less a b h = grind (arith, nat_tests)

pub past_listed : (layout : Layout) (ks : List ℕ) (s : ℕ) → slice_get layout.slots s ≡ None → false ≡ is_listed layout ks s
unfolding is_listed
past_listed layout ks s e = sym (ap (λ b. b && has ks (slot_clafer layout.slots s)) (past layout.slots s e))
  where
    some_none : (n : Node) → Some n ≡ None → ⊥
    some_none n e = absurd cc

    past : (xs : List Node) (i : ℕ) → slice_get xs i ≡ None → nat_lt i (length xs) ≡ false
    past [] i e = low i
      where
        low : (i : ℕ) → nat_lt i 0 ≡ false
        low i = grind (arith, nat_tests)
    past (x ∷ xs) zero e = absurd (some_none x e)
    past (x ∷ xs) (suc i) e = next i (length xs) (past xs i e)
      where
        next : (i n : ℕ) → nat_lt i n ≡ false → nat_lt (suc i) (suc n) ≡ false
        next i n h = grind (arith, nat_tests)

-- the clafer of a slot, if it is there
pub told_listed : (layout : Layout) (ks : List ℕ) (s c : ℕ) (b : Bool) → option_map (λ n. n.clafer) (slice_get layout.slots s) ≡ Some c → b ≡ has ks c → b ≡ is_listed layout ks s
told_listed layout ks s c b e h = by (slice_get layout.slots s) refl e
  where
    by : (o : Option Node) → slice_get layout.slots s ≡ o → option_map (λ (n : Node). n.clafer) o ≡ Some c → b ≡ is_listed layout ks s
    by None f g = absurd cc
    by (Some n) f g =
        let same : n.clafer ≡ c = cc in
        h ∙ ap (has ks) (sym same) ∙ there_listed layout ks s n f

pub untold_listed : (layout : Layout) (ks : List ℕ) (s : ℕ) → option_map (λ n. n.clafer) (slice_get layout.slots s) ≡ None → false ≡ is_listed layout ks s
untold_listed layout ks s e = by (slice_get layout.slots s) refl e
  where
    by : (o : Option Node) → slice_get layout.slots s ≡ o → option_map (λ (n : Node). n.clafer) o ≡ None → false ≡ is_listed layout ks s
    by None f g = past_listed layout ks s f
    by (Some n) f g = absurd cc

-- ---- a set cut to clafers

ascend_lower : (n k : ℕ) (set : List Member) → k ≤ n → AscendFrom n set → AscendFrom k set
ascend_lower n k [] l h = tt
ascend_lower n k (m ∷ ms) l h = let a = h.0 in (omega (arith, a, l), h.1)

ascend_cut : (p : Member → Bool) (n : ℕ) (set : List Member) → AscendFrom n set → AscendFrom n (filter p set)
ascend_cut p n [] h = tt
ascend_cut p n (m ∷ ms) h = by (p m) (ascend_cut p (m.slot + 1) ms h.1)
  where
    by : (b : Bool) → AscendFrom (m.slot + 1) (filter p ms) → AscendFrom n (cond b (m ∷ filter p ms) (filter p ms))
    by true rest = (h.0, rest)
    by false rest = let a = h.0 in ascend_lower (m.slot + 1) n (filter p ms) (omega (arith, a)) rest

cut_value : (layout : Layout) (ks : List ℕ) (gates : List Gate) (bits : List Bool) (s : ℕ) (set : List Member) → is_in gates (filter (λ m. is_listed layout ks m.slot) set) s bits ≡ (is_listed layout ks s && is_in gates set s bits)
cut_value layout ks gates bits s [] = none (is_listed layout ks s)
  where
    none : (b : Bool) → false ≡ (b && false)
    none true = refl
    none false = refl
cut_value layout ks gates bits s (m ∷ ms) = by (is_listed layout ks m.slot) (nat_eq m.slot s) refl refl (cut_value layout ks gates bits s ms)
  where
    rest : List Member
    rest = filter (λ (x : Member). is_listed layout ks x.slot) ms

    spread : (a b c : Bool) → a ≡ true → (b || (a && c)) ≡ (a && (b || c))
    spread a b c h = ap (λ z. b || (z && c)) h ∙ sym (ap (λ z. z && (b || c)) h)

    out : (a c d : Bool) → a ≡ false → d ≡ (a && c) → d ≡ (a && (true && c))
    out a c d h e = e ∙ ap (λ z. z && c) h ∙ sym (ap (λ z. z && (true && c)) h)

    hidden : (a c d e : Bool) → a ≡ false → d ≡ (a && c) → d ≡ (a && e)
    hidden a c d e h f = f ∙ ap (λ z. z && c) h ∙ sym (ap (λ z. z && e) h)

    by : (b t : Bool) → is_listed layout ks m.slot ≡ b → nat_eq m.slot s ≡ t → is_in gates rest s bits ≡ (is_listed layout ks s && is_in gates ms s bits)
        → is_in gates (cond b (m ∷ rest) rest) s bits ≡ (is_listed layout ks s && ((nat_eq m.slot s && wire_value gates m.here bits) || is_in gates ms s bits))
    by true true e f h =
        ap (λ z. (nat_eq m.slot s && wire_value gates m.here bits) || z) h
        ∙ spread (is_listed layout ks s) (nat_eq m.slot s && wire_value gates m.here bits) (is_in gates ms s bits) (sym (ap (is_listed layout ks) (eqb-true m.slot s f)) ∙ e)
    by true false e f h =
        ap (λ z. (z && wire_value gates m.here bits) || is_in gates rest s bits) f ∙ h
        ∙ sym (ap (λ z. is_listed layout ks s && ((z && wire_value gates m.here bits) || is_in gates ms s bits)) f)
    by false true e f h =
        hidden (is_listed layout ks s) (is_in gates ms s bits) (is_in gates rest s bits) ((nat_eq m.slot s && wire_value gates m.here bits) || is_in gates ms s bits)
        (sym (ap (is_listed layout ks) (eqb-true m.slot s f)) ∙ e) h
    by false false e f h =
        h ∙ sym (ap (λ z. is_listed layout ks s && ((z && wire_value gates m.here bits) || is_in gates ms s bits)) f)

cut_listed : (p : Member → Bool) (set : List Member) → list_all p (filter p set) ≡ true
cut_listed p [] = refl
cut_listed p (m ∷ ms) = by (p m) refl (cut_listed p ms)
  where
    by : (b : Bool) → p m ≡ b → list_all p (filter p ms) ≡ true → list_all p (cond b (m ∷ filter p ms) (filter p ms)) ≡ true
    by true e rest = together (p m) (list_all p (filter p ms)) e rest
    by false e rest = rest

cut_few : (p : Member → Bool) (set : List Member) → length (filter p set) ≤ length set
cut_few p [] = omega arith
cut_few p (m ∷ ms) = by (p m) (cut_few p ms)
  where
    by : (b : Bool) → length (filter p ms) ≤ length ms → length (cond b (m ∷ filter p ms) (filter p ms)) ≤ length (m ∷ ms)
    by true rest = omega (arith, rest)
    by false rest = omega (arith, rest)

cut_members : (layout : Layout) (ks : List ℕ) (set : List Member) → IsCutTo layout ks set (filter (λ m. is_listed layout ks m.slot) set)
cut_members layout ks set = record {
  sets = λ gates h. record { ascending = ascend_cut (λ m. is_listed layout ks m.slot) 0 set h.ascending; wires = All-filter (λ (m : Member). is_listed layout ks m.slot) (λ (m : Member). IsWireOf gates m.here) set h.wires };
  value = λ gates bits s. cut_value layout ks gates bits s set;
  listed = cut_listed (λ m. is_listed layout ks m.slot) set;
  no_more = cut_few (λ m. is_listed layout ks m.slot) set;
}

pub cut_is : (layout : Layout) (ks : List ℕ) (set found : List Member) → found ≡ filter (λ m. is_listed layout ks m.slot) set → IsCutTo layout ks set found
cut_is layout ks set found e = subst (IsCutTo layout ks set) (sym e) (cut_members layout ks set)

-- ---- slots of sets

or_true : (a b : Bool) → b ≡ true → (a || b) ≡ true
or_true true b h = refl
or_true false b h = h

itself : (n : ℕ) → nat_eq n n ≡ true
itself n = grind (arith, nat_tests)

-- a test that each slot of a set passes
pub each_passes : (p : ℕ → Bool) (set : List Member) → ((s : ℕ) → has_slot set s ≡ true → p s ≡ true) → list_all (λ m. p m.slot) set ≡ true
each_passes p [] h = refl
each_passes p (m ∷ ms) h =
    together (p m.slot) (list_all (λ (x : Member). p x.slot) ms) (h m.slot (ap (λ b. b || has_slot ms m.slot) (itself m.slot)))
    (each_passes p ms (λ s k. h s (or_true (nat_eq m.slot s) (has_slot ms s) k)))

pub slot_passes : (p : ℕ → Bool) (set : List Member) (s : ℕ) → list_all (λ m. p m.slot) set ≡ true → has_slot set s ≡ true → p s ≡ true
slot_passes p [] s h k = absurd (true≢false (sym k))
slot_passes p (m ∷ ms) s h k = by (nat_eq m.slot s) refl k (slot_passes p ms s (both (p m.slot) (list_all (λ (x : Member). p x.slot) ms) h).1)
  where
    by : (b : Bool) → nat_eq m.slot s ≡ b → (b || has_slot ms s) ≡ true → (has_slot ms s ≡ true → p s ≡ true) → p s ≡ true
    by true e g rest = sym (ap p (eqb-true m.slot s e)) ∙ (both (p m.slot) (list_all (λ (x : Member). p x.slot) ms) h).0
    by false e g rest = rest g

-- slots of either of two sets that pass a test
pub either_passes : (p : ℕ → Bool) (a b set : List Member) → list_all (λ m. p m.slot) a ≡ true → list_all (λ m. p m.slot) b ≡ true → ((s : ℕ) → has_slot set s ≡ true → (has_slot a s || has_slot b s) ≡ true) → list_all (λ m. p m.slot) set ≡ true
either_passes p a b set h k e = each_passes p set (λ s l. by s (has_slot a s) refl (e s l))
  where
    by : (s : ℕ) (c : Bool) → has_slot a s ≡ c → (c || has_slot b s) ≡ true → p s ≡ true
    by s true f g = slot_passes p a s h f
    by s false f g = slot_passes p b s k g

-- ---- what is made of two sets and cut

-- a choice between two sets that are cut
pub chosen_cut : (l p a b : Bool) → (if p then l && a else l && b) ≡ (l && (if p then a else b))
chosen_cut l true a b = refl
chosen_cut l false a b = refl
