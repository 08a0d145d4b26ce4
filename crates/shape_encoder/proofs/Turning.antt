-- The edges of each slot, one after another, and what joins two slots.
use Rattle.std.proofs.Common.{◌≡◌, ℕ, zero, suc, ◌+◌, ◌*◌, ◌<◌, ◌≤◌, Bool, true, false, cond, ◌&&◌, ◌||◌, List, [], ◌∷◌, ◌++◌, length, map, replicate, take, get_or, set, Option, Some, refl, sym, ap, ◌∙◌, subst, arith, inl, inr, append-nil}
use Rattle.std.specs.Prelude.{slice_get, ◌==◌}
use Rattle.std.specs.List.{All, filter, list_any}
use Rattle.std.proofs.lemmas.Bool.{cases_eq}
use Rattle.std.proofs.lemmas.Grind.{common_steps}
use Rattle.std.proofs.lemmas.List.{get_or-set_same, get_or-set_other, map-append}
use Rattle.std.proofs.lemmas.List.Elements.{filter-append}
use Rattle.std.proofs.lemmas.List.Folds.{list_any-append}
use Rattle.bool_circuit.specs.declared.gate.Wire.{Wire}
use Rattle.bool_circuit.specs.declared.gate.Gate.{Gate}
use Rattle.bool_circuit.specs.Circuit.{wire_value, IsWireOf, Extends}
use Rattle.bool_circuit.proofs.Extending.{extends_trans, extends_within}
use Rattle.set_bits.specs.declared.layout.Edge.{Edge}
use Rattle.set_bits.specs.Sets.{is_here}
use Rattle.set_bits.specs.Reaching.{wire_at, IsTableOf}
use Rattle.set_bits.proofs.Combining.{or_false, here_stays}
use Rattle.shape_encoder.specs.Reading.{IsBit}
use Rattle.shape_encoder.specs.Comparing.{turned, turned_by, HoldsBy, joins, IsJoinedSoFar}
use Rattle.shape_encoder.proofs.Steps.{all_item, take_item}

-- ---- the edges of each slot

itself : (n : ℕ) → (n == n) ≡ true
itself n = grind (arith, common_steps)

others : (m n : ℕ) → (m ≡ n → ⊥) → (m == n) ≡ false
others m n h = grind (arith, common_steps)

one_more : (key : Edge → ℕ) (edges : List Edge) (e : Edge) (i : ℕ) → turned_by key (edges ++ e ∷ []) i ≡ turned_by key edges i ++ cond (key e == i) (turned e ∷ []) []
one_more key edges e i =
    ap (map turned) (filter-append (λ (x : Edge). key x == i) edges (e ∷ [])) ∙ map-append turned (filter (λ (x : Edge). key x == i) edges) (filter (λ (x : Edge). key x == i) (e ∷ []))
    ∙ ap (λ xs. turned_by key edges i ++ xs) (by (key e == i))
  where
    by : (b : Bool) → map turned (cond b (e ∷ []) []) ≡ cond b (turned e ∷ []) []
    by true = refl
    by false = refl

one_apart : (key : Edge → ℕ) (edges : List Edge) (e : Edge) (i : ℕ) → (key e ≡ i → ⊥) → turned_by key (edges ++ e ∷ []) i ≡ turned_by key edges i
one_apart key edges e i h = one_more key edges e i ∙ ap (λ b. turned_by key edges i ++ cond b (turned e ∷ []) []) (others (key e) i h) ∙ append-nil (turned_by key edges i)

-- one edge more, with a number that the table has, and with another one
pub added : (key : Edge → ℕ) (edges : List Edge) (e : Edge) (place count : ℕ) (table : List (List Edge)) (list new : List Edge) → key e ≡ place → place < length table → list ≡ get_or table place [] → new ≡ list ++ turned e ∷ []
    → HoldsBy key edges count table → HoldsBy key (edges ++ e ∷ []) count (set table place new)
added key edges e place count table list new k l was is h = record {
  len = length-set table place new ∙ h.len;
  at = λ i m. elim (cases_eq i place) [
    | inl same ↦
        let mine : place < count = (let s = h.len in omega (arith, l, s)) in
        ap (λ n. get_or (set table place new) n []) same ∙ get_or-set_same table place new [] l ∙ is ∙ ap (λ xs. xs ++ turned e ∷ []) (was ∙ h.at place mine)
        ∙ sym (ap (turned_by key (edges ++ e ∷ [])) same ∙ one_more key edges e place ∙ ap (λ b. turned_by key edges place ++ cond b (turned e ∷ []) []) (ap (λ n. n == place) k ∙ itself place))
    | inr other ↦ get_or-set_other table place i new [] other ∙ h.at i m ∙ sym (one_apart key edges e i (λ s. other (sym s ∙ k)))
  ];
}
  where
    length-set : (xs : List (List Edge)) (k : ℕ) (x : List Edge) → length (set xs k x) ≡ length xs
    length-set [] k x = refl
    length-set (y ∷ ys) zero x = refl
    length-set (y ∷ ys) (suc k) x = ap suc (length-set ys k x)

pub left_out : (key : Edge → ℕ) (edges : List Edge) (e : Edge) (place count : ℕ) (table : List (List Edge)) → key e ≡ place → length table ≤ place → HoldsBy key edges count table → HoldsBy key (edges ++ e ∷ []) count table
left_out key edges e place count table k l h = record { len = h.len; at = λ i m. h.at i m ∙ sym (one_apart key edges e i (λ s. let n = h.len in absurd (omega (arith, s, n, l, m, k)))) }

pub ruleset adding = (added, left_out)

abbrev nothing : List Edge
nothing = []

pub none_held : (key : Edge → ℕ) (count : ℕ) (table : List (List Edge)) → table ≡ replicate count [] → HoldsBy key [] count table
none_held key count table e = rw e (record { len = sized count; at = λ i l. empty count i })
  where
    sized : (n : ℕ) → length (replicate n nothing) ≡ n
    sized zero = refl
    sized (suc n) = ap suc (sized n)

    empty : (n i : ℕ) → get_or (replicate n nothing) i [] ≡ []
    empty zero i = refl
    empty (suc n) zero = refl
    empty (suc n) (suc i) = empty n i

pub held_more : (key : Edge → ℕ) (edges : List Edge) (at count : ℕ) (e : Edge) (table : List (List Edge)) → slice_get edges at ≡ Some e → HoldsBy key (take at edges ++ e ∷ []) count table → HoldsBy key (take (at + 1) edges) count table
held_more key edges at count e table get h = subst (λ xs. HoldsBy key xs count table) (sym (take_item edges at e get)) h

-- ---- edges that join two slots

pub join_more : (old mid next new : List Gate) (table : List (Option Wire)) (edges : List Edge) (n : ℕ) (e : Edge) (some taken wire : Wire) → IsTableOf old table → All (λ x. IsBit old x.here) edges → slice_get edges n ≡ Some e
    → IsJoinedSoFar old table edges n mid some → Extends mid next 1 → Extends next new 1 → IsWireOf new wire
    → ((bits : List Bool) → wire_value next taken bits ≡ (is_here mid (wire_at table e.from) bits && wire_value mid e.here bits))
    → ((bits : List Bool) → wire_value new wire bits ≡ (wire_value next some bits || wire_value next taken bits)) → IsJoinedSoFar old table edges (n + 1) new wire
join_more old mid next new table edges n e some taken wire tb all get s x y w tv wv = record {
  extends = extends_within old new ((2 * n + 1) + (1 + 1)) (2 * (n + 1) + 1) (omega arith) (extends_trans old mid new (2 * n + 1) (1 + 1) s.extends (extends_trans mid next new 1 1 x y));
  is_wire = w;
  value = λ bits.
      wv bits ∙ ap (λ b. b || wire_value next taken bits) (x.keeps some s.is_wire bits ∙ s.value bits)
      ∙ ap (λ b. list_any (joins old table bits) (take n edges) || b)
      (tv bits ∙ ap (λ b. b && wire_value mid e.here bits) (here_stays (2 * n + 1) old mid (wire_at table e.from) bits s.extends (tb.wires e.from))
      ∙ ap (λ b. is_here old (wire_at table e.from) bits && b) (s.extends.keeps e.here mine.wire bits ∙ mine.value bits))
      ∙ sym (ap (list_any (joins old table bits)) (take_item edges n e get) ∙ list_any-append (joins old table bits) (take n edges) (e ∷ []) ∙ ap (λ b. list_any (joins old table bits) (take n edges) || b) (or_false (joins old table bits e)));
}
  where
    mine : IsBit old e.here
    mine = all_item (λ (z : Edge). IsBit old z.here) edges n e all get
