-- One edge, or the integer of one slot, more in a table.
use Rattle.std.proofs.Common.{◌≡◌, ◌≢◌, ℕ, zero, suc, ◌+◌, ◌<◌, ◌≤◌, Bool, true, false, ◌&&◌, List, [], ◌∷◌, ◌++◌, length, replicate, take, get_or, set, Option, Some, None, cond, ◌⊎◌, inl, inr, refl, ap, sym, subst, ◌∙◌, arith}
use Rattle.std.specs.Prelude.{◌==◌, is_none, slice_get, ℤ}
use Rattle.std.specs.Option.{option_map, option_or}
use Rattle.std.specs.List.{find}
use Rattle.std.proofs.lemmas.Bool.{true≢false}
use Rattle.std.proofs.lemmas.Bool.Decides.{eqb_tells}
use Rattle.std.proofs.lemmas.List.{get_or-set_same, get_or-set_other, get_or_read, length-set, take_more, take_all}
use Rattle.std.proofs.lemmas.Option.{get_or_from_slice_get, slice_get_within}
use Rattle.std.proofs.lemmas.List.Folds.{find-append}
use Rattle.bool_circuit.specs.Circuit.{entry}
use Rattle.integer_bits.specs.Numbers.{integer_of}
use Rattle.set_bits.specs.declared.layout.Edge.{Edge}
use Rattle.set_bits.specs.declared.layout.SlotBits.{SlotBits}
use Rattle.set_bits.specs.Showing.{value_bits}
use Rattle.shown_instance.specs.Shown.{is_taken, is_at}
use Rattle.instance_decoder.specs.Tables.{HoldsEnds, HoldsIntegers}

-- ---- a table of what is found first

-- what the table holds of items with a key, of which some pass
abbrev pub Holds : {X Y : Type 0} → (ℕ → X → Bool) → (X → Y) → List X → List (Option Y) → Type 0
Holds p f xs table = (i : ℕ) → i < length table → get_or table i None ≡ option_map f (find (p i) xs)

found_more : {X Y : Type 0} (p : X → Bool) (f : X → Y) (xs : List X) (x : X) → option_map f (find p (xs ++ x ∷ [])) ≡ option_or (option_map f (find p xs)) (cond (p x) (Some (f x)) None)
found_more p f xs x = ap (option_map f) (find-append p xs (x ∷ [])) ∙ by (find p xs) (p x)
  where
    by : (o : Option _) (b : Bool) → option_map f (option_or o (cond b (Some x) None)) ≡ option_or (option_map f o) (cond b (Some (f x)) None)
    by None true = refl
    by None false = refl
    by (Some y) b = refl

or_none : {Y : Type 0} (o : Option Y) → option_or o None ≡ o
or_none None = refl
or_none (Some y) = refl

-- an item that passes at no place of the table, or at a place that is taken, changes nothing
pub passed_over : {X Y : Type 0} (p : ℕ → X → Bool) (f : X → Y) (xs : List X) (x : X) (table : List (Option Y)) → Holds p f xs table → ((i : ℕ) → i < length table → option_or (get_or table i None) (cond (p i x) (Some (f x)) None) ≡ get_or table i None) → Holds p f (xs ++ x ∷ []) table
passed_over p f xs x table h same i l =
    sym (found_more (p i) f xs x ∙ ap (λ o. option_or o (cond (p i x) (Some (f x)) None)) (sym (h i l)) ∙ same i l)

-- an item that passes at one free place is written there
pub written : {X Y : Type 0} (p : ℕ → X → Bool) (f : X → Y) (xs : List X) (x : X) (table : List (Option Y)) (at : ℕ) → Holds p f xs table → at < length table → get_or table at None ≡ None → p at x ≡ true → ((i : ℕ) → i ≢ at → p i x ≡ false)
    → Holds p f (xs ++ x ∷ []) (set table at (Some (f x)))
written p f xs x table at h within free here others i l = by (eqb_tells i at)
  where
    size : i < length table
    size = omega (arith, l, length-set table at (Some (f x)))

    by : ((i == at) ≡ true × i ≡ at) ⊎ ((i == at) ≡ false × i ≢ at) → get_or (set table at (Some (f x))) i None ≡ option_map f (find (p i) (xs ++ x ∷ []))
    by (inl s) =
        ap (λ j. get_or (set table at (Some (f x))) j None) s.1 ∙ get_or-set_same table at (Some (f x)) None within
        ∙ sym (found_more (p i) f xs x ∙ ap (λ o. option_or o (cond (p i x) (Some (f x)) None)) (sym (h i size) ∙ ap (λ j. get_or table j None) s.1 ∙ free) ∙ ap (λ b. cond b (Some (f x)) None) (ap (λ j. p j x) s.1 ∙ here))
    by (inr o) =
        get_or-set_other table at i (Some (f x)) None o.1 ∙ h i size
        ∙ sym (found_more (p i) f xs x ∙ ap (λ b. option_or (option_map f (find (p i) xs)) (cond b (Some (f x)) None)) (others i o.1) ∙ or_none (option_map f (find (p i) xs)))

-- ---- edges

apart : (i : ℕ) (bits : List Bool) (e : Edge) → i ≢ e.from → is_taken bits i e ≡ false
apart i bits e other = by (eqb_tells e.from i)
  where
    by : ((e.from == i) ≡ true × e.from ≡ i) ⊎ ((e.from == i) ≡ false × e.from ≢ i) → is_taken bits i e ≡ false
    by (inl s) = absurd (other (sym s.1))
    by (inr s) = ap (λ b. b && entry bits e.here) s.0

taken_here : (bits : List Bool) (e : Edge) → entry bits e.here ≡ true → is_taken bits e.from e ≡ true
taken_here bits e b = by (eqb_tells e.from e.from)
  where
    by : ((e.from == e.from) ≡ true × e.from ≡ e.from) ⊎ ((e.from == e.from) ≡ false × e.from ≢ e.from) → is_taken bits e.from e ≡ true
    by (inl s) = ap (λ c. c && entry bits e.here) s.0 ∙ b
    by (inr s) = absurd (s.1 refl)

pub end_outside : (bits : List Bool) (edges : List Edge) (e : Edge) (table : List (Option ℕ)) → length table ≤ e.from → HoldsEnds bits edges table → HoldsEnds bits (edges ++ e ∷ []) table
end_outside bits edges e table out h = record {
  ends = passed_over (is_taken bits) (λ (x : Edge). x.to) edges e table h.ends
      (λ i l. ap (λ b. option_or (get_or table i None) (cond b (Some e.to) None)) (apart i bits e (λ s. omega (arith, l, out, s))) ∙ or_none (get_or table i None));
}

pub end_kept : (bits : List Bool) (edges : List Edge) (e : Edge) (table : List (Option ℕ)) (x : ℕ) → get_or table e.from None ≡ Some x → HoldsEnds bits edges table → HoldsEnds bits (edges ++ e ∷ []) table
end_kept bits edges e table x full h = record {
  ends = passed_over (is_taken bits) (λ (y : Edge). y.to) edges e table h.ends (λ i l. by i (eqb_tells i e.from));
}
  where
    by : (i : ℕ) → ((i == e.from) ≡ true × i ≡ e.from) ⊎ ((i == e.from) ≡ false × i ≢ e.from) → option_or (get_or table i None) (cond (is_taken bits i e) (Some e.to) None) ≡ get_or table i None
    by i (inl s) = let f : get_or table i None ≡ Some x = ap (λ j. get_or table j None) s.1 ∙ full in ap (λ o. option_or o (cond (is_taken bits i e) (Some e.to) None)) f ∙ sym f
    by i (inr s) = ap (λ b. option_or (get_or table i None) (cond b (Some e.to) None)) (apart i bits e s.1) ∙ or_none (get_or table i None)

pub end_false : (bits : List Bool) (edges : List Edge) (e : Edge) (table : List (Option ℕ)) → entry bits e.here ≡ false → HoldsEnds bits edges table → HoldsEnds bits (edges ++ e ∷ []) table
end_false bits edges e table b h = record {
  ends = passed_over (is_taken bits) (λ (y : Edge). y.to) edges e table h.ends
      (λ i l. ap (λ c. option_or (get_or table i None) (cond c (Some e.to) None)) (ap (λ c. (e.from == i) && c) b ∙ and_false (e.from == i)) ∙ or_none (get_or table i None));
}
  where
    and_false : (c : Bool) → (c && false) ≡ false
    and_false true = refl
    and_false false = refl

pub end_new : (bits : List Bool) (edges : List Edge) (e : Edge) (table : List (Option ℕ)) → e.from < length table → get_or table e.from None ≡ None → entry bits e.here ≡ true → HoldsEnds bits edges table → HoldsEnds bits (edges ++ e ∷ []) (set table e.from (Some e.to))
end_new bits edges e table within free b h = record {
  ends = written (is_taken bits) (λ (y : Edge). y.to) edges e table e.from h.ends within free (taken_here bits e b) (λ i other. apart i bits e other);
}

-- ---- integers

abbrev told : List Bool → SlotBits → ℤ
told bits v = integer_of (value_bits bits v)

slot_apart : (i : ℕ) (v : SlotBits) → i ≢ v.slot → is_at i v ≡ false
slot_apart i v other = by (eqb_tells v.slot i)
  where
    by : ((v.slot == i) ≡ true × v.slot ≡ i) ⊎ ((v.slot == i) ≡ false × v.slot ≢ i) → is_at i v ≡ false
    by (inl s) = absurd (other (sym s.1))
    by (inr s) = s.0

slot_here : (v : SlotBits) → is_at v.slot v ≡ true
slot_here v = by (eqb_tells v.slot v.slot)
  where
    by : ((v.slot == v.slot) ≡ true × v.slot ≡ v.slot) ⊎ ((v.slot == v.slot) ≡ false × v.slot ≢ v.slot) → is_at v.slot v ≡ true
    by (inl s) = s.0
    by (inr s) = absurd (s.1 refl)

pub integer_outside : (bits : List Bool) (values : List SlotBits) (v : SlotBits) (table : List (Option ℤ)) → length table ≤ v.slot → HoldsIntegers bits values table → HoldsIntegers bits (values ++ v ∷ []) table
integer_outside bits values v table out h = record {
  integers = passed_over is_at (told bits) values v table h.integers
      (λ i l. ap (λ b. option_or (get_or table i None) (cond b (Some (told bits v)) None)) (slot_apart i v (λ s. omega (arith, l, out, s))) ∙ or_none (get_or table i None));
}

pub integer_kept : (bits : List Bool) (values : List SlotBits) (v : SlotBits) (table : List (Option ℤ)) (x : ℤ) → get_or table v.slot None ≡ Some x → HoldsIntegers bits values table → HoldsIntegers bits (values ++ v ∷ []) table
integer_kept bits values v table x full h = record {
  integers = passed_over is_at (told bits) values v table h.integers (λ i l. by i (eqb_tells i v.slot));
}
  where
    by : (i : ℕ) → ((i == v.slot) ≡ true × i ≡ v.slot) ⊎ ((i == v.slot) ≡ false × i ≢ v.slot) → option_or (get_or table i None) (cond (is_at i v) (Some (told bits v)) None) ≡ get_or table i None
    by i (inl s) = let f : get_or table i None ≡ Some x = ap (λ j. get_or table j None) s.1 ∙ full in ap (λ o. option_or o (cond (is_at i v) (Some (told bits v)) None)) f ∙ sym f
    by i (inr s) = ap (λ b. option_or (get_or table i None) (cond b (Some (told bits v)) None)) (slot_apart i v s.1) ∙ or_none (get_or table i None)

pub integer_new : (bits : List Bool) (values : List SlotBits) (v : SlotBits) (table : List (Option ℤ)) → v.slot < length table → get_or table v.slot None ≡ None → HoldsIntegers bits values table → HoldsIntegers bits (values ++ v ∷ []) (set table v.slot (Some (told bits v)))
integer_new bits values v table within free h = record {
  integers = written is_at (told bits) values v table v.slot h.integers within free (slot_here v) (λ i other. slot_apart i v other);
}

-- ---- empty tables

none_there : {Y : Type 0} (d : Option Y) (n i : ℕ) → get_or (replicate n d) i d ≡ d
none_there d zero i = refl
none_there d (suc n) zero = refl
none_there d (suc n) (suc i) = none_there d n i

pub no_ends : (bits : List Bool) (n : ℕ) → HoldsEnds bits [] (replicate n None)
no_ends bits n = record { ends = λ i l. none_there None n i }

pub no_integers : (bits : List Bool) (n : ℕ) → HoldsIntegers bits [] (replicate n None)
no_integers bits n = record { integers = λ i l. none_there None n i }

pub free_there : {Y : Type 0} (items : List (Option Y)) (t : ℕ) (o : Option Y) → t < length items → o ≡ get_or items t o → is_none o ≡ true → get_or items t None ≡ None
free_there items t None l read free = sym (get_or_read items t None l read None)
free_there items t (Some y) l read free = absurd (true≢false (sym free))

-- ---- one item more of a slice

pub ends_more : (bits : List Bool) (all xs : List Edge) (i : ℕ) (d : Edge) (table : List (Option ℕ)) → xs ≡ all → i < length xs → HoldsEnds bits (take i all ++ get_or xs i d ∷ []) table → HoldsEnds bits (take (i + 1) all) table
ends_more bits all xs i d table e l h = subst (λ ys. HoldsEnds bits ys table) (ap (λ zs. take i all ++ get_or zs i d ∷ []) e ∙ sym (take_more all i d (omega (arith, l, ap length e)))) h

pub integers_more : (bits : List Bool) (all : List SlotBits) (i : ℕ) (v : SlotBits) (table : List (Option ℤ)) → slice_get all i ≡ Some v → HoldsIntegers bits (take i all ++ v ∷ []) table → HoldsIntegers bits (take (i + 1) all) table
integers_more bits all i v table at h =
    subst (λ ys. HoldsIntegers bits ys table) (ap (λ x. take i all ++ x ∷ []) (sym (get_or_from_slice_get all i v v at)) ∙ sym (take_more all i v (slice_get_within all i v at))) h

pub ends_all : (bits : List Bool) (all xs : List Edge) (i : ℕ) (table : List (Option ℕ)) → xs ≡ all → length xs ≤ i → HoldsEnds bits (take i all) table → HoldsEnds bits all table
ends_all bits all xs i table e l h = subst (λ ys. HoldsEnds bits ys table) (take_all i all (omega (arith, l, ap length e))) h

pub integers_all : (bits : List Bool) (all : List SlotBits) (i : ℕ) (table : List (Option ℤ)) → length all ≤ i → HoldsIntegers bits (take i all) table → HoldsIntegers bits all table
integers_all bits all i table l h = subst (λ ys. HoldsIntegers bits ys table) (take_all i all l) h
