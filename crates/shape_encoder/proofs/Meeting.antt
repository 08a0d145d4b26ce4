-- Top-level clafers whose instances have different targets: no two edges from them lead to one slot.
use Rattle.std.proofs.Common.{◌≡◌, ◌≢◌, ℕ, zero, suc, ◌+◌, ◌<◌, Bool, true, false, not, ◌&&◌, ◌||◌, List, [], ◌∷◌, length, get_or, Option, Some, None, refl, sym, ap, ◌∙◌, arith, ◌⊎◌, inl, inr}
use Rattle.std.specs.Prelude.{◌==◌, nat_lt, is_some, is_none}
use Rattle.std.specs.List.{filter, list_all}
use Rattle.std.proofs.lemmas.Bool.{true≢false}
use Rattle.std.proofs.lemmas.Bool.Decides.{eqb_tells, nat_tests}
use Rattle.std.proofs.lemmas.Grind.{common_steps}
use Rattle.bool_circuit.specs.declared.gate.Wire.{Wire}
use Rattle.bool_circuit.specs.declared.gate.Gate.{Gate}
use Rattle.bool_circuit.specs.Circuit.{wire_value, entry, IsWireOf, Extends}
use Rattle.clf_tree.specs.declared.model.Clafer.{Clafer}
use Rattle.clf_tree.specs.Lists.{numbers_below, each_two}
use Rattle.clf_tree.specs.Hierarchy.{parent_of}
use Rattle.set_bits.specs.declared.layout.Edge.{Edge}
use Rattle.set_bits.specs.declared.layout.Layout.{Layout}
use Rattle.set_bits.specs.Fitting.{slot_clafer}
use Rattle.shown_instance.specs.Shown.{is_taken}
use Rattle.shown_instance.specs.Consistent.{are_single}
use Rattle.shown_instance.specs.Distinct.{leads_there, lead_together, tells_apart, are_compared, targets_differ}
use Rattle.shown_instance.proofs.Order.{both, together}
use Rattle.shown_instance.proofs.Adapting.{any_passes}
use Rattle.shown_instance.proofs.Placing.{same_truth, implied, same_number}
use Rattle.shown_instance.proofs.Whole.{numbers_at, numbers_from}
use Rattle.shown_instance.proofs.Once.{is_earlier, earlier_irrefl, each_two-map, two_at}
use Rattle.shown_instance.proofs.Differing.{each_from, each_at, two_from, any_there, not_so, so_not, implies}
use Rattle.shape_encoder.specs.Comparing.{turned, turned_by, clafer_from, is_counted, is_single_at, nested_differ, leads_before, IsOrdered, NestedDiffer, AreSingleSoFar, single_cost, singles_cost}
use Rattle.shape_encoder.proofs.Steps.{and_true, kept_two, list_all-push, numbers-push}
use Rattle.shape_encoder.proofs.Compared.{cost_step, sum_below-push}

-- two edges to one slot that are taken
abbrev meet : List Bool → Edge → Edge → Bool
meet bits e f = ((e.to == f.to) && entry bits e.here) && entry bits f.here

-- no two edges of a clafer are such
abbrev apart : Layout → List Bool → ℕ → Edge → Edge → Bool
apart layout bits c e f = not ((slot_clafer layout.slots e.from == c) && (slot_clafer layout.slots f.from == c)) || not (meet bits e f)

-- what the edges of a clafer tell, turned round
single_is : (layout : Layout) (bits : List Bool) (c : ℕ) → are_single (turned_by (clafer_from layout) layout.targets c) bits ≡ each_two (apart layout bits c) layout.targets
single_is layout bits c =
    each_two-map (λ (e f : Edge). not (is_taken bits f.from e && entry bits f.here)) turned (filter (λ (e : Edge). slot_clafer layout.slots e.from == c) layout.targets)
    ∙ kept_two (λ (e : Edge). slot_clafer layout.slots e.from == c) (λ e f. not (meet bits e f)) layout.targets

less : (a b : ℕ) → nat_lt a b ≡ true → a < b
less a b h = grind (arith, nat_tests)

itself : (n : ℕ) → (n == n) ≡ true
itself n = grind (arith, common_steps)

same_item : (xs : List Edge) (i : ℕ) (c d : Edge) → i < length xs → get_or xs i c ≡ get_or xs i d
same_item [] i c d h = absurd (omega (arith, h))
same_item (x ∷ xs) zero c d h = refl
same_item (x ∷ xs) (suc i) c d h = same_item xs i c d (omega (arith, h))

abbrev earlier : Edge → Edge → Bool
earlier x y = leads_before x y

earlier_from : (a b c d : ℕ) → is_earlier (a, b) (c, d) ≡ true → (a ≡ c → b ≡ d → ⊥) → a ≡ c ⊎ a < c
earlier_from a b c d h ne = by (nat_lt a c) refl (eqb_tells a c)
  where
    by : (t : Bool) → nat_lt a c ≡ t → (((a == c) ≡ true) × (a ≡ c)) ⊎ (((a == c) ≡ false) × (a ≢ c)) → a ≡ c ⊎ a < c
    by true t s = inr (less a c t)
    by false t (inl s) = inl s.1
    by false t (inr s) = absurd (true≢false (sym h ∙ ap (λ x. x || ((a == c) && nat_lt b d)) t ∙ ap (λ x. x && nat_lt b d) s.0))

later_not : (a b c d : ℕ) → c < a → is_earlier (a, b) (c, d) ≡ false
later_not a b c d h = grind (arith, nat_tests, common_steps)

-- the edge of an earlier slot stands before that of a later one
edge_before : (edges : List Edge) (e f : Edge) (k l : ℕ) → each_two earlier edges ≡ true → k < length edges → l < length edges → get_or edges k e ≡ e → get_or edges l f ≡ f → e.from < f.from → k < l
edge_before edges e f k l asc m n at there before = by (nat_lt k l) refl (eqb_tells k l)
  where
    greater : (k l : ℕ) → nat_lt k l ≡ false → k ≢ l → l < k
    greater k l h ne = grind (arith, nat_tests, common_steps)

    by : (b : Bool) → nat_lt k l ≡ b → (((k == l) ≡ true) × (k ≡ l)) ⊎ (((k == l) ≡ false) × (k ≢ l)) → k < l
    by true t s = less k l t
    by false t (inl s) =
        let same : e ≡ f = sym at ∙ ap (λ i. get_or edges i e) s.1 ∙ same_item edges l e f n ∙ there in
        let froms : e.from ≡ f.from = ap (λ (x : Edge). x.from) same in
        absurd (omega (arith, froms, before))
    by false t (inr s) =
        let back : earlier (get_or edges l f) (get_or edges k e) ≡ true = two_at earlier edges l k f e asc (greater k l t s.1) m in
        absurd (true≢false (sym back ∙ ap (λ x. earlier x (get_or edges k e)) there ∙ ap (earlier f) at ∙ later_not f.from f.to e.from e.to before))

-- where targets differ, no two edges of a top-level clafer that has to differ meet
counted_apart : (clafers : List Clafer) (layout : Layout) (bits : List Bool) (c : ℕ) → IsOrdered clafers layout → is_counted clafers c ≡ true → each_two (targets_differ clafers layout bits) (numbers_below (length layout.slots)) ≡ true → each_two (apart layout bits c) layout.targets ≡ true
counted_apart clafers layout bits c o counted differ = two_from (apart layout bits c) layout.targets (λ k l d before high.
    let e : Edge = get_or layout.targets k d in
    let f : Edge = get_or layout.targets l d in
    implies ((slot_clafer layout.slots e.from == c) && (slot_clafer layout.slots f.from == c)) (not (meet bits e f)) (λ t.
    let p = both (slot_clafer layout.slots e.from == c) (slot_clafer layout.slots f.from == c) t in
    not_so (meet bits e f) (λ m. met e f k l (omega (arith, before, high)) high (same_item layout.targets k e d (omega (arith, before, high))) (same_item layout.targets l f d high)
    (two_at earlier layout.targets k l d d o.ascending before high) (o.from l d high) (same_number (slot_clafer layout.slots e.from) c p.0) (same_number (slot_clafer layout.slots f.from) c p.1) m)))
  where
    told : (tells_apart clafers c ≡ true) × (is_none (parent_of clafers c) ≡ true)
    told = both (tells_apart clafers c) (is_none (parent_of clafers c)) counted

    met : (e f : Edge) (k l : ℕ) → k < length layout.targets → l < length layout.targets → get_or layout.targets k e ≡ e → get_or layout.targets l f ≡ f → earlier e f ≡ true → f.from < length layout.slots → slot_clafer layout.slots e.from ≡ c → slot_clafer layout.slots f.from ≡ c → meet bits e f ≡ true → ⊥
    met e f k l hk hl at there before inside ce cf m =
        let q = both ((e.to == f.to) && entry bits e.here) (entry bits f.here) m in
        let r = both (e.to == f.to) (entry bits e.here) q.0 in
        let to : e.to ≡ f.to = same_number e.to f.to r.0 in
        elim (eqb_tells e.from f.from) [
          | inl s ↦ true≢false (sym before ∙ earlier_irrefl e.from e.to f.from f.to s.1 to)
          | inr s ↦
              let rising : e.from < f.from = risen e.from e.to f.from f.to before s.1 in
              let first : is_taken bits e.from e ≡ true = together (e.from == e.from) (entry bits e.here) (itself e.from) r.1 in
              let second : is_taken bits f.from f ≡ true = together (f.from == f.from) (entry bits f.here) (itself f.from) q.1 in
              let onto : leads_there layout.targets bits f.from e.to ≡ true = any_there (λ (x : Edge). is_taken bits f.from x && (x.to == e.to)) layout.targets f l hl there (together (is_taken bits f.from f) (f.to == e.to) second (ap (λ n. f.to == n) to ∙ itself f.to)) in
              let joined : lead_together layout.targets bits e.from f.from ≡ true = any_there (λ (x : Edge). is_taken bits e.from x && leads_there layout.targets bits f.from x.to) layout.targets e k hk at (together (is_taken bits e.from e) (leads_there layout.targets bits f.from e.to) first onto) in
              let near : are_compared clafers layout bits e.from f.from ≡ true =
              together ((slot_clafer layout.slots e.from == slot_clafer layout.slots f.from) && tells_apart clafers (slot_clafer layout.slots e.from)) (is_none (parent_of clafers (slot_clafer layout.slots e.from)) || lead_together layout.parents bits e.from f.from)
              (together (slot_clafer layout.slots e.from == slot_clafer layout.slots f.from) (tells_apart clafers (slot_clafer layout.slots e.from)) (ap (λ n. slot_clafer layout.slots e.from == n) (cf ∙ sym ce) ∙ itself (slot_clafer layout.slots e.from)) (ap (tells_apart clafers) ce ∙ told.0))
              (ap (λ b. b || lead_together layout.parents bits e.from f.from) (ap (λ n. is_none (parent_of clafers n)) ce ∙ told.1)) in
              so_not (are_compared clafers layout bits e.from f.from && lead_together layout.targets bits e.from f.from) (each_at (targets_differ clafers layout bits) 0 (length layout.slots) e.from f.from differ (omega arith) rising (omega (arith, inside)))
              (together (are_compared clafers layout bits e.from f.from) (lead_together layout.targets bits e.from f.from) near joined)
        ]
      where
        risen : (a b c d : ℕ) → is_earlier (a, b) (c, d) ≡ true → a ≢ c → a < c
        risen a b c d h ne = elim (earlier_from a b c d h (λ s t. ne s)) [
          | inl s ↦ absurd (ne s)
          | inr s ↦ s
        ]

-- and where no two such edges meet, targets of top-level clafers differ
counted_differ : (clafers : List Clafer) (layout : Layout) (bits : List Bool) → IsOrdered clafers layout → ((c : ℕ) → c < length clafers → is_counted clafers c ≡ true → each_two (apart layout bits c) layout.targets ≡ true)
    → (i j : ℕ) → i < j → j < length layout.slots → is_none (parent_of clafers (slot_clafer layout.slots i)) ≡ true → targets_differ clafers layout bits i j ≡ true
counted_differ clafers layout bits o singles i j before high top =
    not_so (are_compared clafers layout bits i j && lead_together layout.targets bits i j) (λ t.
    let p = both (are_compared clafers layout bits i j) (lead_together layout.targets bits i j) t in
    let q = both ((slot_clafer layout.slots i == slot_clafer layout.slots j) && tells_apart clafers (slot_clafer layout.slots i)) (is_none (parent_of clafers (slot_clafer layout.slots i)) || lead_together layout.parents bits i j) p.0 in
    let r = both (slot_clafer layout.slots i == slot_clafer layout.slots j) (tells_apart clafers (slot_clafer layout.slots i)) q.0 in
    let same : slot_clafer layout.slots i ≡ slot_clafer layout.slots j = same_number (slot_clafer layout.slots i) (slot_clafer layout.slots j) r.0 in
    let u = any_passes (λ (x : Edge). is_taken bits i x && leads_there layout.targets bits j x.to) layout.targets p.1 in
    let v = both (is_taken bits i u.it) (leads_there layout.targets bits j u.it.to) u.passes in
    let w = any_passes (λ (x : Edge). is_taken bits j x && (x.to == u.it.to)) layout.targets v.1 in
    let z = both (is_taken bits j w.it) (w.it.to == u.it.to) w.passes in
    let first = both (u.it.from == i) (entry bits u.it.here) v.0 in
    let second = both (w.it.from == j) (entry bits w.it.here) z.0 in
    let from_i : u.it.from ≡ i = same_number u.it.from i first.0 in
    let from_j : w.it.from ≡ j = same_number w.it.from j second.0 in
    let order : u.place < w.place = edge_before layout.targets u.it w.it u.place w.place o.ascending u.within w.within u.there w.there (omega (arith, from_i, from_j, before)) in
    let single = singles (slot_clafer layout.slots i) (o.known i (omega (arith, before, high))) (together (tells_apart clafers (slot_clafer layout.slots i)) (is_none (parent_of clafers (slot_clafer layout.slots i))) r.1 top) in
    let here : apart layout bits (slot_clafer layout.slots i) u.it w.it ≡ true =
    sym (ap (λ x. apart layout bits (slot_clafer layout.slots i) x (get_or layout.targets w.place w.it)) u.there ∙ ap (apart layout bits (slot_clafer layout.slots i) u.it) w.there)
    ∙ two_at (apart layout bits (slot_clafer layout.slots i)) layout.targets u.place w.place u.it w.it single order w.within in
    let mine : (slot_clafer layout.slots u.it.from == slot_clafer layout.slots i) ≡ true = ap (λ n. slot_clafer layout.slots n == slot_clafer layout.slots i) from_i ∙ itself (slot_clafer layout.slots i) in
    let other : (slot_clafer layout.slots w.it.from == slot_clafer layout.slots i) ≡ true = ap (λ n. slot_clafer layout.slots n == slot_clafer layout.slots i) from_j ∙ ap (λ n. n == slot_clafer layout.slots i) (sym same) ∙ itself (slot_clafer layout.slots i) in
    so_not (meet bits u.it w.it)
    (implied ((slot_clafer layout.slots u.it.from == slot_clafer layout.slots i) && (slot_clafer layout.slots w.it.from == slot_clafer layout.slots i)) (not (meet bits u.it w.it)) here (together (slot_clafer layout.slots u.it.from == slot_clafer layout.slots i) (slot_clafer layout.slots w.it.from == slot_clafer layout.slots i) mine other))
    (together ((u.it.to == w.it.to) && entry bits u.it.here) (entry bits w.it.here) (together (u.it.to == w.it.to) (entry bits u.it.here) (turned_same w.it.to u.it.to z.1) first.1) second.1))
  where
    turned_same : (a b : ℕ) → (a == b) ≡ true → (b == a) ≡ true
    turned_same a b t = grind (arith, common_steps)

-- targets differ exactly where those of nested clafers do, and no two edges of a top-level one meet
pub counted_told : (clafers : List Clafer) (layout : Layout) (bits : List Bool) → IsOrdered clafers layout
    → (each_two (nested_differ clafers layout bits) (numbers_below (length layout.slots)) && list_all (is_single_at clafers layout bits) (numbers_below (length clafers)))
    ≡ each_two (targets_differ clafers layout bits) (numbers_below (length layout.slots))
counted_told clafers layout bits o =
    same_truth (each_two (nested_differ clafers layout bits) (numbers_below (length layout.slots)) && list_all single (numbers_below (length clafers))) (each_two (targets_differ clafers layout bits) (numbers_below (length layout.slots)))
    (λ t. let p = both (each_two (nested_differ clafers layout bits) (numbers_below (length layout.slots))) (list_all single (numbers_below (length clafers))) t in
    each_from (targets_differ clafers layout bits) 0 (length layout.slots) (λ i j low before high. pick i j before (omega (arith, high)) p.1 (each_at (nested_differ clafers layout bits) 0 (length layout.slots) i j p.0 low before high) (parent_of clafers (slot_clafer layout.slots i)) refl))
    (λ t. together (each_two (nested_differ clafers layout bits) (numbers_below (length layout.slots))) (list_all single (numbers_below (length clafers)))
    (each_from (nested_differ clafers layout bits) 0 (length layout.slots) (λ i j low before high.
    implies (is_some (parent_of clafers (slot_clafer layout.slots i))) (targets_differ clafers layout bits i j) (λ s. each_at (targets_differ clafers layout bits) 0 (length layout.slots) i j t low before high)))
    (numbers_from single 0 (length clafers) (λ c low high. implies (is_counted clafers c) (are_single (edges c) bits) (λ s. single_is layout bits c ∙ counted_apart clafers layout bits c o s t))))
  where
    edges : ℕ → List Edge
    edges c = turned_by (clafer_from layout) layout.targets c

    single : ℕ → Bool
    single c = not (is_counted clafers c) || are_single (edges c) bits

    pick : (i j : ℕ) → i < j → j < length layout.slots → list_all single (numbers_below (length clafers)) ≡ true → nested_differ clafers layout bits i j ≡ true → (p : Option ℕ) → parent_of clafers (slot_clafer layout.slots i) ≡ p → targets_differ clafers layout bits i j ≡ true
    pick i j before high all nested None e =
        counted_differ clafers layout bits o (λ c l s. sym (single_is layout bits c) ∙ implied (is_counted clafers c) (are_single (edges c) bits) (numbers_at single 0 (length clafers) c all (omega arith) (omega (arith, l))) s) i j before high (ap is_none e)
    pick i j before high all nested (Some p) e = implied (is_some (parent_of clafers (slot_clafer layout.slots i))) (targets_differ clafers layout bits i j) nested (ap is_some e)

-- ---- the wires

pub counted_is : (clafers : List Clafer) (c : ℕ) (told : Bool) {b : Bool} → told ≡ is_counted clafers c → told ≡ b → is_counted clafers c ≡ b
counted_is clafers c told e f = sym e ∙ f

pub uncounted_value : (clafers : List Clafer) (layout : Layout) (c : ℕ) (all : Bool) → is_counted clafers c ≡ false → (bits : List Bool) → all ≡ (all && is_single_at clafers layout bits c)
uncounted_value clafers layout c all e bits = sym (ap (λ b. all && (not b || are_single (turned_by (clafer_from layout) layout.targets c) bits)) e ∙ and_true all)

pub counted_value : (clafers : List Clafer) (layout : Layout) (c : ℕ) (edges : List Edge) → is_counted clafers c ≡ true → edges ≡ turned_by (clafer_from layout) layout.targets c → (bits : List Bool) → are_single edges bits ≡ is_single_at clafers layout bits c
counted_value clafers layout c edges e same bits = ap (λ es. are_single es bits) same ∙ sym (ap (λ b. not b || are_single (turned_by (clafer_from layout) layout.targets c) bits) e)

pub singles_more : (old mid new : List Gate) (clafers : List Clafer) (layout : Layout) (n : ℕ) (all wire : Wire) → AreSingleSoFar old clafers layout n (singles_cost clafers layout n + 1) mid all → Extends mid new (single_cost clafers layout n) → IsWireOf new wire
    → ((bits : List Bool) → wire_value new wire bits ≡ (wire_value mid all bits && is_single_at clafers layout bits n)) → AreSingleSoFar old clafers layout (n + 1) (singles_cost clafers layout (n + 1) + 1) new wire
singles_more old mid new clafers layout n all wire s x w v = record {
  extends = cost_step old mid new (singles_cost clafers layout n) (single_cost clafers layout n) (singles_cost clafers layout (n + 1)) (let e = sum_below-push (single_cost clafers layout) n in omega (arith, e)) s.extends x;
  is_wire = w;
  value = λ bits.
      v bits ∙ ap (λ b. b && is_single_at clafers layout bits n) (s.value bits)
      ∙ sym (ap (list_all (is_single_at clafers layout bits)) (numbers-push n) ∙ list_all-push (is_single_at clafers layout bits) (numbers_below n) n);
}

pub whole_targets : (old first second new : List Gate) (clafers : List Clafer) (layout : Layout) (m n : ℕ) (nested single wire : Wire) → IsOrdered clafers layout → NestedDiffer old clafers layout m first nested → AreSingleSoFar first clafers layout (length clafers) n second single
    → ((bits : List Bool) → wire_value new wire bits ≡ (wire_value second nested bits && wire_value second single bits)) → (bits : List Bool) → wire_value new wire bits ≡ each_two (targets_differ clafers layout bits) (numbers_below (length layout.slots))
whole_targets old first second new clafers layout m n nested single wire o d e v bits =
    v bits ∙ ap (λ b. b && wire_value second single bits) (e.extends.keeps nested d.is_wire bits ∙ d.value bits)
    ∙ ap (λ b. each_two (nested_differ clafers layout bits) (numbers_below (length layout.slots)) && b) (e.value bits) ∙ counted_told clafers layout bits o
