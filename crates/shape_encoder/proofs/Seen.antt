-- For each parent and each target, whether some slot was seen that has both.
use Rattle.std.proofs.Common.{◌≡◌, ℕ, zero, suc, ◌+◌, ◌*◌, ◌<◌, ◌≤◌, Bool, true, false, not, ◌&&◌, ◌||◌, List, [], ◌∷◌, length, take, get_or, set, Option, Some, refl, sym, ap, ◌∙◌, subst, arith, inl, inr}
use Rattle.std.specs.Prelude.{slice_get, nat_eq, ◌==◌}
use Rattle.std.specs.Option.{option_map_or}
use Rattle.std.specs.List.{All, list_all, list_any}
use Rattle.std.specs.declared.vec.Vec.{Vec}
use Rattle.std.proofs.lemmas.Bool.{cases_eq}
use Rattle.std.proofs.lemmas.Grind.{common_steps}
use Rattle.std.proofs.lemmas.List.{take_all}
use Rattle.std.proofs.lemmas.List.Folds.{list_any-append}
use Rattle.std.proofs.lemmas.Option.{slice_get_within, slice_get_past, slice_get-get_or}
use Rattle.bool_circuit.specs.declared.gate.Wire.{Wire}
use Rattle.bool_circuit.specs.declared.gate.Gate.{Gate}
use Rattle.bool_circuit.specs.Circuit.{wire_value, entry, IsWireOf, Extends}
use Rattle.bool_circuit.proofs.Extending.{extends_trans, extends_within}
use Rattle.set_bits.specs.declared.layout.Edge.{Edge}
use Rattle.set_bits.specs.Sets.{is_here}
use Rattle.set_bits.specs.Reaching.{wire_at, IsTableOf}
use Rattle.set_bits.proofs.Combining.{or_false, here_stays}
use Rattle.shown_instance.specs.Shown.{is_taken}
use Rattle.shown_instance.specs.Consistent.{has_taken}
use Rattle.shape_encoder.specs.Reading.{IsBit}
use Rattle.shape_encoder.specs.Comparing.{list_at, joins, meet, row_at, is_seen, AreRowsOf, is_met, HaveMetSoFar, IsMarkedSoFar, AreMarkedSoFar, are_twins, is_below_onto, counted_cost, siblings_cost, AreCountedSoFar}
use Rattle.shape_encoder.proofs.Steps.{all_item, take_item, sum-push, sum-room}
use Rattle.shape_encoder.proofs.Compared.{any_same, table_stays}
use Rattle.shape_encoder.proofs.Paired.{alone_more, slot_is, none_alone}

-- ---- any item of a list

any_none : {X : Type 0} (xs : List X) → list_any (λ (x : X). false) xs ≡ false
any_none [] = refl
any_none (x ∷ xs) = any_none xs

any_or : {X : Type 0} (p q : X → Bool) (xs : List X) → list_any (λ x. p x || q x) xs ≡ (list_any p xs || list_any q xs)
any_or p q [] = refl
any_or p q (x ∷ xs) = ap (λ b. (p x || q x) || b) (any_or p q xs) ∙ shuffle (p x) (q x) (list_any p xs) (list_any q xs)
  where
    shuffle : (a b c d : Bool) → ((a || b) || (c || d)) ≡ ((a || c) || (b || d))
    shuffle true b c d = refl
    shuffle false true true d = refl
    shuffle false true false d = refl
    shuffle false false c d = refl

any_and : {X : Type 0} (a : Bool) (p : X → Bool) (xs : List X) → list_any (λ x. a && p x) xs ≡ (a && list_any p xs)
any_and true p xs = refl
any_and false p xs = any_none xs

-- the order of two of them plays no part
any_swap : {X Y : Type 0} (r : X → Y → Bool) (xs : List X) (ys : List Y) → list_any (λ x. list_any (r x) ys) xs ≡ list_any (λ y. list_any (λ x. r x y) xs) ys
any_swap r [] ys = sym (any_none ys)
any_swap r (x ∷ xs) ys = ap (λ b. list_any (r x) ys || b) (any_swap r xs ys) ∙ sym (any_or (r x) (λ y. list_any (λ z. r z y) xs) ys)

and_swap : (a b : Bool) → (a && b) ≡ (b && a)
and_swap true true = refl
and_swap true false = refl
and_swap false true = refl
and_swap false false = refl

same_swap : (a b : ℕ) → (a == b) ≡ (b == a)
same_swap a b = grind (arith, common_steps)

any_and_right : {X : Type 0} (p : X → Bool) (a : Bool) (xs : List X) → list_any (λ x. p x && a) xs ≡ (list_any p xs && a)
any_and_right p a xs = any_same (λ x. p x && a) (λ x. a && p x) xs (λ x. and_swap (p x) a) ∙ any_and a p xs ∙ and_swap a (list_any p xs)

-- edges of two lists meet in either order
pub meet_swap : (bits : List Bool) (es fs : List Edge) → meet bits es fs ≡ meet bits fs es
meet_swap bits es fs =
    any_same (λ (e : Edge). has_taken fs bits e.from && entry bits e.here) (λ e. list_any (λ (f : Edge). is_taken bits e.from f && entry bits e.here) fs) es (λ e. sym (any_and_right (is_taken bits e.from) (entry bits e.here) fs))
    ∙ any_swap (λ (e f : Edge). is_taken bits e.from f && entry bits e.here) es fs
    ∙ any_same (λ (f : Edge). list_any (λ (e : Edge). is_taken bits e.from f && entry bits e.here) es) (λ f. list_any (λ (e : Edge). is_taken bits f.from e && entry bits f.here) es) fs
    (λ f. any_same (λ (e : Edge). is_taken bits e.from f && entry bits e.here) (λ e. is_taken bits f.from e && entry bits f.here) es (λ e. turn e f))
    ∙ any_same (λ (f : Edge). list_any (λ (e : Edge). is_taken bits f.from e && entry bits f.here) es) (λ f. has_taken es bits f.from && entry bits f.here) fs (λ f. any_and_right (is_taken bits f.from) (entry bits f.here) es)
  where
    shuffle : (a b c : Bool) → ((a && b) && c) ≡ ((a && c) && b)
    shuffle true true true = refl
    shuffle true true false = refl
    shuffle true false true = refl
    shuffle true false false = refl
    shuffle false b c = refl

    turn : (e f : Edge) → (is_taken bits e.from f && entry bits e.here) ≡ (is_taken bits f.from e && entry bits f.here)
    turn e f = ap (λ b. (b && entry bits f.here) && entry bits e.here) (same_swap f.from e.from) ∙ shuffle (e.from == f.from) (entry bits f.here) (entry bits e.here)

none_twice : (t : ℕ → Bool) (xs : List ℕ) → not (list_any t xs) ≡ list_all (λ j. not (t j)) xs
none_twice t [] = refl
none_twice t (x ∷ xs) = by (t x) (none_twice t xs)
  where
    by : (b : Bool) → not (list_any t xs) ≡ list_all (λ j. not (t j)) xs → not (b || list_any t xs) ≡ (not b && list_all (λ j. not (t j)) xs)
    by true rest = refl
    by false rest = rest

-- ---- rows

pub no_joins : (gates : List Gate) (bits : List Bool) (ts : List Edge) → list_any (joins gates [] bits) ts ≡ false
no_joins gates bits [] = refl
no_joins gates bits (t ∷ ts) = no_joins gates bits ts

module _ {A : Type 0} where
  pub row_is : (rows : List (Vec (Option Wire) A)) (p : ℕ) (row : Vec (Option Wire) A) → slice_get rows p ≡ Some row → row_at rows p ≡ row.items
  row_is rows p row e = ap (λ o. option_map_or (λ (r : Vec (Option Wire) A). r.items) o []) e

  pub row_here : (rows : List (Vec (Option Wire) A)) (p : ℕ) (row : Vec (Option Wire) A) → p < length rows → row ≡ get_or rows p row → row_at rows p ≡ row.items
  row_here rows p row l e = row_is rows p (get_or rows p row) (slice_get-get_or rows p row l) ∙ ap (λ (r : Vec (Option Wire) A). r.items) (sym e)

  -- nothing is seen below a parent that has no row
  pub no_row : (gates : List Gate) (rows : List (Vec (Option Wire) A)) (p : ℕ) (bits : List Bool) (ts : List Edge) → length rows ≤ p → list_any (joins gates (row_at rows p) bits) ts ≡ false
  no_row gates rows p bits ts l = ap (λ o. list_any (joins gates (option_map_or (λ (r : Vec (Option Wire) A). r.items) o []) bits) ts) (slice_get_past rows p l) ∙ no_joins gates bits ts

  seen_stays : (old new : List Gate) (n : ℕ) (rows : List (Vec (Option Wire) A)) (bits : List Bool) (p t : ℕ) → Extends old new n → AreRowsOf old rows → is_seen new rows bits p t ≡ is_seen old rows bits p t
  seen_stays old new n rows bits p t x r = here_stays n old new (wire_at (row_at rows p) t) bits x ((r.at p).wires t)

  met_stays : (old new : List Gate) (n : ℕ) (rows : List (Vec (Option Wire) A)) (bits : List Bool) (targets : List Edge) (e : Edge) → Extends old new n → AreRowsOf old rows → is_met new rows bits targets e ≡ is_met old rows bits targets e
  met_stays old new n rows bits targets e x r =
      ap (λ b. b && entry bits e.here) (any_same (joins new (row_at rows e.from) bits) (joins old (row_at rows e.from) bits) targets (λ f. ap (λ b. b && entry bits f.here) (seen_stays old new n rows bits e.from f.from x r)))

  -- ---- whether a parent and a target were seen together

  pub met_more : (old mid new : List Gate) (rows : List (Vec (Option Wire) A)) (parents targets : List Edge) (n : ℕ) (e : Edge) (some wire : Wire) → AreRowsOf old rows → slice_get parents n ≡ Some e → HaveMetSoFar old rows parents targets n mid some
      → Extends mid new (2 * length targets + 3) → IsWireOf new wire → ((bits : List Bool) → wire_value new wire bits ≡ (wire_value mid some bits || is_met mid rows bits targets e)) → HaveMetSoFar old rows parents targets (n + 1) new wire
  met_more old mid new rows parents targets n e some wire r get s x w v = record {
    extends = extends_within old new ((n * (2 * length targets + 3) + 1) + (2 * length targets + 3)) ((n + 1) * (2 * length targets + 3) + 1) (omega arith) (extends_trans old mid new (n * (2 * length targets + 3) + 1) (2 * length targets + 3) s.extends x);
    is_wire = w;
    value = λ bits.
        v bits ∙ ap (λ b. b || is_met mid rows bits targets e) (s.value bits)
        ∙ ap (λ b. list_any (is_met old rows bits targets) (take n parents) || b) (met_stays old mid (n * (2 * length targets + 3) + 1) rows bits targets e s.extends r)
        ∙ sym (ap (list_any (is_met old rows bits targets)) (take_item parents n e get) ∙ list_any-append (is_met old rows bits targets) (take n parents) (e ∷ []) ∙ ap (λ b. list_any (is_met old rows bits targets) (take n parents) || b) (or_false (is_met old rows bits targets e)));
  }

-- ---- marks

or_nothing : (a b : Bool) → (a || (b && false)) ≡ a
or_nothing true b = refl
or_nothing false true = refl
or_nothing false false = refl

pub none_marked : (old : List Gate) (here : Wire) (targets : List Edge) (row : List (Option Wire)) → Extends old old 0 → IsTableOf old row → IsMarkedSoFar old here targets row 0 old row
none_marked old here targets row x t = record { extends = x; wires = t; value = λ bits k. sym (or_nothing (is_here old (wire_at row k) bits) (wire_value old here bits)) }

pub marked_more : (old mid new : List Gate) (here : Wire) (targets : List Edge) (before row next : List (Option Wire)) (n : ℕ) (e : Edge) → IsWireOf old here → All (λ x. IsBit old x.here) targets → slice_get targets n ≡ Some e → IsMarkedSoFar old here targets before n mid row
    → Extends mid new 2 → IsTableOf new next
    → ((bits : List Bool) (t : ℕ) → is_here new (wire_at next t) bits ≡ (is_here mid (wire_at row t) bits || (nat_eq e.from t && (wire_value mid here bits && wire_value mid e.here bits))))
    → IsMarkedSoFar old here targets before (n + 1) new next
marked_more old mid new here targets before row next n e w all get s x t v = record {
  extends = extends_within old new (2 * n + 2) (2 * (n + 1)) (omega arith) (extends_trans old mid new (2 * n) 2 s.extends x);
  wires = t;
  value = λ bits k.
      v bits k ∙ ap (λ b. b || (nat_eq e.from k && (wire_value mid here bits && wire_value mid e.here bits))) (s.value bits k)
      ∙ ap (λ b. old_or bits k || (nat_eq e.from k && (b && wire_value mid e.here bits))) (s.extends.keeps here w bits)
      ∙ ap (λ b. old_or bits k || (nat_eq e.from k && (wire_value old here bits && b))) (s.extends.keeps e.here mine.wire bits ∙ mine.value bits)
      ∙ shuffle (is_here old (wire_at before k) bits) (wire_value old here bits) (has_taken (take n targets) bits k) (nat_eq e.from k) (entry bits e.here)
      ∙ sym (ap (λ es. is_here old (wire_at before k) bits || (wire_value old here bits && has_taken es bits k)) (take_item targets n e get)
      ∙ ap (λ b. is_here old (wire_at before k) bits || (wire_value old here bits && b)) (list_any-append (is_taken bits k) (take n targets) (e ∷ []) ∙ ap (λ b. has_taken (take n targets) bits k || b) (or_false (is_taken bits k e))));
}
  where
    mine : IsBit old e.here
    mine = all_item (λ (y : Edge). IsBit old y.here) targets n e all get

    old_or : List Bool → ℕ → Bool
    old_or bits k = is_here old (wire_at before k) bits || (wire_value old here bits && has_taken (take n targets) bits k)

    shuffle : (a h t k e : Bool) → ((a || (h && t)) || (k && (h && e))) ≡ (a || (h && (t || (k && e))))
    shuffle true h t k e = refl
    shuffle false true true k e = refl
    shuffle false true false k e = refl
    shuffle false false t true e = refl
    shuffle false false t false e = refl

module _ {A : Type 0} where
  set_same : (rows : List (Vec (Option Wire) A)) (k : ℕ) (row : Vec (Option Wire) A) → k < length rows → row_at (set rows k row) k ≡ row.items
  set_same [] k row h = absurd (omega (arith, h))
  set_same (r ∷ rs) zero row h = refl
  set_same (r ∷ rs) (suc k) row h = set_same rs k row (omega (arith, h))

  set_other : (rows : List (Vec (Option Wire) A)) (k p : ℕ) (row : Vec (Option Wire) A) → (p ≡ k → ⊥) → row_at (set rows k row) p ≡ row_at rows p
  set_other [] k p row h = refl
  set_other (r ∷ rs) zero zero row h = absurd (h refl)
  set_other (r ∷ rs) zero (suc p) row h = refl
  set_other (r ∷ rs) (suc k) zero row h = refl
  set_other (r ∷ rs) (suc k) (suc p) row h = set_other rs k p row (λ e. h (ap suc e))

  -- a parent has its row marked
  pub record IsRowMarked (old : List Gate) (before : List (Vec (Option Wire) A)) (e : Edge) (targets : List Edge) (new : List Gate) (after : List (Vec (Option Wire) A)) : Type 0 where
    pub rows : AreRowsOf new after
    pub value : (bits : List Bool) (p t : ℕ) → is_seen new after bits p t ≡ (is_seen old before bits p t || ((nat_eq e.from p && wire_value old e.here bits) && has_taken targets bits t))

  pub row_marked : (old new : List Gate) (before mid : List (Vec (Option Wire) A)) (e : Edge) (targets : List Edge) (was row : Vec (Option Wire) A) → ((p : ℕ) → row_at mid p ≡ row_at before p) → e.from < length mid → row_at mid e.from ≡ was.items
      → AreRowsOf old before → IsMarkedSoFar old e.here targets was.items (length targets) new row.items → IsRowMarked old before e targets new (set mid e.from row)
  row_marked old new before mid e targets was row same l old_row r m = record {
    rows = record {
      at = λ p. elim (cases_eq p e.from) [
        | inl s ↦ subst (IsTableOf new) (sym (ap (row_at (set mid e.from row)) s ∙ set_same mid e.from row l)) m.wires
        | inr o ↦ subst (IsTableOf new) (sym (set_other mid e.from p row o ∙ same p)) (table_stays old new (2 * length targets) (row_at before p) m.extends (r.at p))
      ];
    };
    value = λ bits p t. elim (cases_eq p e.from) [
      | inl s ↦
          ap (λ k. is_here new (wire_at (row_at (set mid e.from row) k) t) bits) s ∙ ap (λ xs. is_here new (wire_at xs t) bits) (set_same mid e.from row l) ∙ m.value bits t
          ∙ ap (λ xs. is_here old (wire_at xs t) bits || (wire_value old e.here bits && has_taken (take (length targets) targets) bits t)) (sym old_row ∙ same e.from)
          ∙ ap (λ es. is_seen old before bits e.from t || (wire_value old e.here bits && has_taken es bits t)) (take_all (length targets) targets (omega arith))
          ∙ sym (ap (λ k. is_seen old before bits k t || ((nat_eq e.from k && wire_value old e.here bits) && has_taken targets bits t)) s ∙ ap (λ b. is_seen old before bits e.from t || ((b && wire_value old e.here bits) && has_taken targets bits t)) (itself e.from))
      | inr o ↦
          ap (λ xs. is_here new (wire_at xs t) bits) (set_other mid e.from p row o ∙ same p) ∙ here_stays (2 * length targets) old new (wire_at (row_at before p) t) bits m.extends ((r.at p).wires t)
          ∙ sym (ap (λ b. is_seen old before bits p t || ((b && wire_value old e.here bits) && has_taken targets bits t)) (apart e.from p (λ x. o (sym x))) ∙ or_false (is_seen old before bits p t))
    ];
  }
    where
      itself : (n : ℕ) → nat_eq n n ≡ true
      itself n = grind (arith, common_steps)

      apart : (m n : ℕ) → (m ≡ n → ⊥) → nat_eq m n ≡ false
      apart m n h = grind (arith, common_steps)

  pub no_marks : (old : List Gate) (parents targets : List Edge) (rows : List (Vec (Option Wire) A)) → Extends old old 0 → AreRowsOf old rows → AreMarkedSoFar old parents targets rows 0 old rows
  no_marks old parents targets rows x r = record { extends = extends_within old old 0 (0 * (2 * length targets)) (omega arith) x; wires = r; value = λ bits p t. sym (or_false (is_seen old rows bits p t)) }

  pub marks_more : (old mid new : List Gate) (parents targets : List Edge) (before rows next : List (Vec (Option Wire) A)) (n : ℕ) (e : Edge) → All (λ x. IsBit old x.here) parents → slice_get parents n ≡ Some e → AreMarkedSoFar old parents targets before n mid rows
      → Extends mid new (2 * length targets) → AreRowsOf new next
      → ((bits : List Bool) (p t : ℕ) → is_seen new next bits p t ≡ (is_seen mid rows bits p t || ((nat_eq e.from p && wire_value mid e.here bits) && has_taken targets bits t)))
      → AreMarkedSoFar old parents targets before (n + 1) new next
  marks_more old mid new parents targets before rows next n e all get s x r v = record {
    extends = extends_within old new (n * (2 * length targets) + 2 * length targets) ((n + 1) * (2 * length targets)) (omega arith) (extends_trans old mid new (n * (2 * length targets)) (2 * length targets) s.extends x);
    wires = r;
    value = λ bits p t.
        v bits p t ∙ ap (λ b. b || ((nat_eq e.from p && wire_value mid e.here bits) && has_taken targets bits t)) (s.value bits p t)
        ∙ ap (λ b. (is_seen old before bits p t || (has_taken (take n parents) bits p && has_taken targets bits t)) || ((nat_eq e.from p && b) && has_taken targets bits t)) (s.extends.keeps e.here mine.wire bits ∙ mine.value bits)
        ∙ shuffle (is_seen old before bits p t) (has_taken (take n parents) bits p) (is_taken bits p e) (has_taken targets bits t)
        ∙ sym (ap (λ es. is_seen old before bits p t || (has_taken es bits p && has_taken targets bits t)) (take_item parents n e get)
        ∙ ap (λ b. is_seen old before bits p t || (b && has_taken targets bits t)) (list_any-append (is_taken bits p) (take n parents) (e ∷ []) ∙ ap (λ b. has_taken (take n parents) bits p || b) (or_false (is_taken bits p e))));
  }
    where
      mine : IsBit old e.here
      mine = all_item (λ (y : Edge). IsBit old y.here) parents n e all get

      shuffle : (a h k t : Bool) → ((a || (h && t)) || (k && t)) ≡ (a || ((h || k) && t))
      shuffle true h k t = refl
      shuffle false true k true = refl
      shuffle false true true false = refl
      shuffle false true false false = refl
      shuffle false false k t = refl

  -- ---- slots

  -- a slot meets what is seen of others where it is their twin
  met_twins : (parents targets : List (List Edge)) (gates : List Gate) (rows : List (Vec (Option Wire) A)) (bits : List Bool) (before : List ℕ) (i : ℕ) → ((p t : ℕ) → is_seen gates rows bits p t ≡ list_any (is_below_onto parents targets bits p t) before)
      → list_any (is_met gates rows bits (list_at targets i)) (list_at parents i) ≡ list_any (λ j. are_twins parents targets bits j i) before
  met_twins parents targets gates rows bits before i seen =
      any_same (is_met gates rows bits (list_at targets i)) (λ e. list_any (λ j. (has_taken (list_at parents j) bits e.from && entry bits e.here) && meet bits (list_at targets i) (list_at targets j)) before) (list_at parents i) one
      ∙ any_swap (λ (e : Edge) (j : ℕ). (has_taken (list_at parents j) bits e.from && entry bits e.here) && meet bits (list_at targets i) (list_at targets j)) (list_at parents i) before
      ∙ any_same (λ j. list_any (λ (e : Edge). (has_taken (list_at parents j) bits e.from && entry bits e.here) && meet bits (list_at targets i) (list_at targets j)) (list_at parents i)) (λ j. are_twins parents targets bits j i) before
      (λ j. any_and_right (λ (e : Edge). has_taken (list_at parents j) bits e.from && entry bits e.here) (meet bits (list_at targets i) (list_at targets j)) (list_at parents i)
      ∙ ap (λ b. b && meet bits (list_at targets i) (list_at targets j)) (meet_swap bits (list_at parents i) (list_at parents j)) ∙ ap (λ b. meet bits (list_at parents j) (list_at parents i) && b) (meet_swap bits (list_at targets i) (list_at targets j)))
    where
      shuffle : (a b c : Bool) → ((a && b) && c) ≡ (a && (b && c))
      shuffle true b c = refl
      shuffle false b c = refl

      last : (a b c : Bool) → ((a && b) && c) ≡ ((a && c) && b)
      last true true true = refl
      last true true false = refl
      last true false true = refl
      last true false false = refl
      last false b c = refl

      -- one of its edges to a parent
      one : (e : Edge) → is_met gates rows bits (list_at targets i) e ≡ list_any (λ j. (has_taken (list_at parents j) bits e.from && entry bits e.here) && meet bits (list_at targets i) (list_at targets j)) before
      one e =
          ap (λ b. b && entry bits e.here)
          (any_same (joins gates (row_at rows e.from) bits) (λ f. list_any (λ j. is_below_onto parents targets bits e.from f.from j && entry bits f.here) before) (list_at targets i)
          (λ f. ap (λ b. b && entry bits f.here) (seen e.from f.from) ∙ sym (any_and_right (is_below_onto parents targets bits e.from f.from) (entry bits f.here) before))
          ∙ any_swap (λ (f : Edge) (j : ℕ). is_below_onto parents targets bits e.from f.from j && entry bits f.here) (list_at targets i) before
          ∙ any_same (λ j. list_any (λ (f : Edge). is_below_onto parents targets bits e.from f.from j && entry bits f.here) (list_at targets i)) (λ j. has_taken (list_at parents j) bits e.from && meet bits (list_at targets i) (list_at targets j)) before
          (λ j. any_same (λ (f : Edge). is_below_onto parents targets bits e.from f.from j && entry bits f.here) (λ f. has_taken (list_at parents j) bits e.from && (has_taken (list_at targets j) bits f.from && entry bits f.here)) (list_at targets i)
          (λ f. shuffle (has_taken (list_at parents j) bits e.from) (has_taken (list_at targets j) bits f.from) (entry bits f.here))
          ∙ any_and (has_taken (list_at parents j) bits e.from) (λ (f : Edge). has_taken (list_at targets j) bits f.from && entry bits f.here) (list_at targets i)))
          ∙ sym (any_and_right (λ j. has_taken (list_at parents j) bits e.from && meet bits (list_at targets i) (list_at targets j)) (entry bits e.here) before)
          ∙ any_same (λ j. (has_taken (list_at parents j) bits e.from && meet bits (list_at targets i) (list_at targets j)) && entry bits e.here) (λ j. (has_taken (list_at parents j) bits e.from && entry bits e.here) && meet bits (list_at targets i) (list_at targets j)) before
          (λ j. last (has_taken (list_at parents j) bits e.from) (meet bits (list_at targets i) (list_at targets j)) (entry bits e.here))

  pub none_counted : (parents targets : List (List Edge)) (old : List Gate) (kin : List ℕ) (all : Wire) (rows : List (Vec (Option Wire) A)) → rows ≡ [] → IsWireOf old all → Extends old old 0 → AreCountedSoFar parents targets old kin all 0 old rows all
  none_counted parents targets old kin all rows none w x = rw none (record { alone = none_alone parents targets old kin all w x; wires = record { at = λ p. record { wires = λ k. tt } }; seen = λ bits p t. refl })

  pub counted_more : (parents targets : List (List Edge)) (old mid new : List Gate) (kin : List ℕ) (all : Wire) (rows next : List (Vec (Option Wire) A)) (n slot : ℕ) (ps ts : List Edge) (right wire : Wire) → slice_get kin n ≡ Some slot → ps ≡ list_at parents slot → ts ≡ list_at targets slot
      → AreCountedSoFar parents targets old kin all n mid rows right → Extends mid new (length ps * (4 * length ts + 3) + 3) → IsWireOf new wire
      → ((bits : List Bool) → wire_value new wire bits ≡ (wire_value mid right bits && not (list_any (is_met mid rows bits ts) ps))) → AreRowsOf new next
      → ((bits : List Bool) (p t : ℕ) → is_seen new next bits p t ≡ (is_seen mid rows bits p t || (has_taken ps bits p && has_taken ts bits t)))
      → AreCountedSoFar parents targets old kin all (n + 1) new next wire
  counted_more parents targets old mid new kin all rows next n slot ps ts right wire get p t s x w v r m = record {
    alone = alone_more parents targets old mid new kin all n (siblings_cost parents targets (take n kin)) (length ps * (4 * length ts + 3) + 3) (siblings_cost parents targets (take (n + 1) kin)) right wire (slice_get_within kin n slot get)
        (let e = sum-push (counted_cost parents targets) kin n slot get in let f : length ps * (4 * length ts + 3) + 3 ≡ counted_cost parents targets slot = ap (λ es. length es * (4 * length ts + 3) + 3) p ∙ ap (λ es. length (list_at parents slot) * (4 * length es + 3) + 3) t in omega (arith, e, f))
        s.alone x w
        (λ bits. v bits
        ∙ ap (λ b. wire_value mid right bits && not b)
        (ap (λ es. list_any (is_met mid rows bits ts) es) p ∙ ap (λ es. list_any (is_met mid rows bits es) (list_at parents slot)) t ∙ met_twins parents targets mid rows bits (take n kin) slot (s.seen bits))
        ∙ ap (λ b. wire_value mid right bits && b) (none_twice (λ j. are_twins parents targets bits j slot) (take n kin))
        ∙ sym (ap (λ i. wire_value mid right bits && list_all (λ j. not (are_twins parents targets bits j i)) (take n kin)) (slot_is kin n slot get)));
    wires = r;
    seen = λ bits q k.
        m bits q k ∙ ap (λ b. b || (has_taken ps bits q && has_taken ts bits k)) (s.seen bits q k)
        ∙ ap (λ es. list_any (is_below_onto parents targets bits q k) (take n kin) || (has_taken es bits q && has_taken ts bits k)) p
        ∙ ap (λ es. list_any (is_below_onto parents targets bits q k) (take n kin) || (has_taken (list_at parents slot) bits q && has_taken es bits k)) t
        ∙ sym (ap (list_any (is_below_onto parents targets bits q k)) (take_item kin n slot get) ∙ list_any-append (is_below_onto parents targets bits q k) (take n kin) (slot ∷ [])
        ∙ ap (λ b. list_any (is_below_onto parents targets bits q k) (take n kin) || b) (or_false (is_below_onto parents targets bits q k slot)));
  }

-- a slot within the cost of all
pub counted_within : (parents targets : List (List Edge)) (kin : List ℕ) (n slot : ℕ) (ps ts : List Edge) → slice_get kin n ≡ Some slot → ps ≡ list_at parents slot → ts ≡ list_at targets slot
    → siblings_cost parents targets (take n kin) + (length ps * (4 * length ts + 3) + 3) ≤ siblings_cost parents targets kin
counted_within parents targets kin n slot ps ts get p t =
    let r = sum-room (counted_cost parents targets) kin n slot get in
    let f : length ps * (4 * length ts + 3) + 3 ≡ counted_cost parents targets slot = ap (λ es. length es * (4 * length ts + 3) + 3) p ∙ ap (λ es. length (list_at parents slot) * (4 * length es + 3) + 3) t in
    omega (arith, r, f)
