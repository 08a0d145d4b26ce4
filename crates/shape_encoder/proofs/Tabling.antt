-- The possible children of slots, by a table.
use Rattle.std.proofs.Common.{◌≡◌, ℕ, zero, suc, ◌+◌, ◌<◌, Bool, true, false, cond, ◌&&◌, List, [], ◌∷◌, ◌++◌, length, map, take, get_or, set, Some, inl, inr, refl, sym, ap, ◌∙◌, subst, arith, append-nil}
use Rattle.std.specs.Prelude.{slice_get, ◌==◌}
use Rattle.std.specs.List.{All, filter}
use Rattle.std.proofs.lemmas.Bool.{cases_eq}
use Rattle.std.proofs.lemmas.Grind.{common_steps}
use Rattle.std.proofs.lemmas.Option.{get_or_from_slice_get}
use Rattle.std.proofs.lemmas.List.{get_or-set_same, get_or-set_other, length-set, map-append, length-map}
use Rattle.std.proofs.lemmas.List.Elements.{filter-append, All-map, All-filter}
use Rattle.std.proofs.lemmas.List.Sums.{length-filter}
use Rattle.bool_circuit.specs.declared.gate.Wire.{Wire}
use Rattle.bool_circuit.specs.declared.gate.Gate.{Gate}
use Rattle.bool_circuit.specs.Circuit.{entry}
use Rattle.integer_bits.specs.Totals.{count_true}
use Rattle.clf_tree.specs.declared.instance.Node.{Node}
use Rattle.set_bits.specs.declared.layout.Edge.{Edge}
use Rattle.set_bits.specs.declared.layout.Layout.{Layout}
use Rattle.set_bits.specs.Fitting.{slot_clafer}
use Rattle.shown_instance.specs.Bounds.{children_below}
use Rattle.shown_instance.proofs.Counts.{count-same, count-filter, count-map, count_true-map}
use Rattle.shape_encoder.specs.Reading.{IsBit}
use Rattle.shape_encoder.specs.declared.children.Child.{Child}
use Rattle.shape_encoder.specs.Counting.{child, children_at, AreChildren, counted_wires, child_slots}
use Rattle.shape_encoder.proofs.Steps.{take_item}

-- ---- the table grows by an edge

at_more : (slots : List Node) (edges : List Edge) (e : Edge) (s : ℕ) (b : Bool) → (e.to == s) ≡ b → children_at slots (edges ++ e ∷ []) s ≡ children_at slots edges s ++ cond b (child slots e ∷ []) []
at_more slots edges e s b h =
    ap (map (child slots)) (filter-append (λ (x : Edge). x.to == s) edges (e ∷ []) ∙ ap (λ c. filter (λ (x : Edge). x.to == s) edges ++ cond c (e ∷ []) []) h)
    ∙ map-append (child slots) (filter (λ (x : Edge). x.to == s) edges) (cond b (e ∷ []) []) ∙ ap (λ ys. children_at slots edges s ++ ys) (one b)
  where
    one : (c : Bool) → map (child slots) (cond c (e ∷ []) []) ≡ cond c (child slots e ∷ []) []
    one true = refl
    one false = refl

itself : (a b : ℕ) → a ≡ b → (a == b) ≡ true
itself a b h = grind (arith, common_steps)

apart : (a b : ℕ) → (b ≡ a → ⊥) → (a == b) ≡ false
apart a b h = grind (arith, common_steps)

pub child_more : (slots : List Node) (edges : List Edge) (table : List (List Child)) (e : Edge) (node : Node) (old new : List Child) → slice_get slots e.from ≡ Some node → e.to < length slots
    → old ≡ get_or table e.to old → new ≡ old ++ record { clafer = node.clafer; here = e.here } ∷ [] → AreChildren slots edges table → AreChildren slots (edges ++ e ∷ []) (set table e.to new)
child_more slots edges table e node old new from to was is t = record {
  len = length-set table e.to new ∙ t.len;
  at = λ s l. elim (cases_eq s e.to) [
    | inl same ↦
        ap (λ z. get_or (set table e.to new) z []) same ∙ get_or-set_same table e.to new [] within ∙ is ∙ ap (λ ys. ys ++ mine ∷ []) (read ∙ t.at e.to to) ∙ ap (λ c. children_at slots edges e.to ++ c ∷ []) told
        ∙ sym (at_more slots edges e e.to true (itself e.to e.to refl)) ∙ ap (children_at slots (edges ++ e ∷ [])) (sym same)
    | inr other ↦
        get_or-set_other table e.to s new [] other ∙ t.at s l ∙ sym (at_more slots edges e s false (apart e.to s other) ∙ append-nil (children_at slots edges s))
  ];
}
  where
    within : e.to < length table
    within = omega (arith, t.len, to)

    mine : Child
    mine = record { clafer = node.clafer; here = e.here }

    told : mine ≡ child slots e
    told = ap (λ (n : Node). record { clafer = n.clafer; here = e.here }) (sym (get_or_from_slice_get slots e.from node (record { clafer = 0; number = 0 }) from))

    read : old ≡ get_or table e.to []
    read = was ∙ default table e.to within
      where
        default : (xs : List (List Child)) (i : ℕ) → i < length xs → get_or xs i old ≡ get_or xs i []
        default [] i h = absurd (omega (arith, h))
        default (x ∷ xs) zero h = refl
        default (x ∷ xs) (suc i) h = default xs i (omega (arith, h))

pub children_step : (slots : List Node) (edges : List Edge) (at : ℕ) (e : Edge) (table : List (List Child)) → slice_get edges at ≡ Some e → AreChildren slots (take at edges ++ e ∷ []) table → AreChildren slots (take (at + 1) edges) table
children_step slots edges at e table get t = subst (λ es. AreChildren slots es table) (sym (take_item edges at e get)) t

-- ---- the children that are counted

counted_push : (asked : ℕ → Bool) (xs : List Child) (x : Child) (b : Bool) → asked x.clafer ≡ b → counted_wires asked (xs ++ x ∷ []) ≡ counted_wires asked xs ++ cond b (x.here ∷ []) []
counted_push asked [] x b h = ap (λ c. map (λ (y : Child). y.here) (cond c (x ∷ []) [])) h ∙ one b
  where
    one : (c : Bool) → map (λ (y : Child). y.here) (cond c (x ∷ []) []) ≡ cond c (x.here ∷ []) []
    one true = refl
    one false = refl
counted_push asked (y ∷ ys) x b h = more (asked y.clafer) (counted_push asked ys x b h)
  where
    more : (c : Bool) → counted_wires asked (ys ++ x ∷ []) ≡ counted_wires asked ys ++ cond b (x.here ∷ []) []
        → map (λ (z : Child). z.here) (cond c (y ∷ filter (λ (z : Child). asked z.clafer) (ys ++ x ∷ [])) (filter (λ (z : Child). asked z.clafer) (ys ++ x ∷ [])))
        ≡ map (λ (z : Child). z.here) (cond c (y ∷ filter (λ (z : Child). asked z.clafer) ys) (filter (λ (z : Child). asked z.clafer) ys)) ++ cond b (x.here ∷ []) []
    more true rest = ap (λ ws. y.here ∷ ws) rest
    more false rest = rest

pub wires_more : (asked : ℕ → Bool) (children : List Child) (at : ℕ) (x : Child) → slice_get children at ≡ Some x → asked x.clafer ≡ true → counted_wires asked (take at children) ++ x.here ∷ [] ≡ counted_wires asked (take (at + 1) children)
wires_more asked children at x get h = sym (counted_push asked (take at children) x true h) ∙ ap (counted_wires asked) (sym (take_item children at x get))

pub wires_same : (asked : ℕ → Bool) (children : List Child) (at : ℕ) (x : Child) → slice_get children at ≡ Some x → asked x.clafer ≡ false → counted_wires asked (take at children) ≡ counted_wires asked (take (at + 1) children)
wires_same asked children at x get h = sym (append-nil (counted_wires asked (take at children))) ∙ sym (counted_push asked (take at children) x false h) ∙ ap (counted_wires asked) (sym (take_item children at x get))

pub child_bits : (gates : List Gate) (slots : List Node) (edges : List Edge) (s : ℕ) → All (λ e. IsBit gates e.here) edges → All (λ x. IsBit gates x.here) (children_at slots edges s)
child_bits gates slots edges s h = All-map (λ (x : Child). IsBit gates x.here) (child slots) (filter (λ (e : Edge). e.to == s) edges) (All-filter (λ (e : Edge). e.to == s) (λ (e : Edge). IsBit gates e.here) edges h)

pub counted_kept : (P : Wire → Type 0) (asked : ℕ → Bool) (children : List Child) → All (λ x. P x.here) children → All P (counted_wires asked children)
counted_kept P asked children h = All-map P (λ (x : Child). x.here) (filter (λ (x : Child). asked x.clafer) children) (All-filter (λ (x : Child). asked x.clafer) (λ (x : Child). P x.here) children h)

-- as many wires as edges that lead to the slot from counted slots
pub child_slots_counted : (layout : Layout) (asked : ℕ → Bool) (s : ℕ) → length (counted_wires asked (children_at layout.slots layout.parents s)) ≡ child_slots layout asked s
child_slots_counted layout asked s =
    length-map (filter (λ (x : Child). asked x.clafer) (children_at layout.slots layout.parents s)) (λ (x : Child). x.here)
    ∙ length-filter (λ (x : Child). asked x.clafer) (children_at layout.slots layout.parents s)
    ∙ count-map (λ (x : Child). asked x.clafer) (child layout.slots) (filter (λ (e : Edge). e.to == s) layout.parents)
    ∙ count-filter (λ (e : Edge). asked (slot_clafer layout.slots e.from)) (λ (e : Edge). e.to == s) layout.parents

-- and as many of them true as such edges are taken
pub children_counted : (layout : Layout) (bits : List Bool) (asked : ℕ → Bool) (s : ℕ) → count_true (map (entry bits) (counted_wires asked (children_at layout.slots layout.parents s))) ≡ children_below layout bits asked s
children_counted layout bits asked s =
    count_true-map (entry bits) (counted_wires asked (children_at layout.slots layout.parents s))
    ∙ count-map (entry bits) (λ (x : Child). x.here) (filter (λ (x : Child). asked x.clafer) (children_at layout.slots layout.parents s))
    ∙ count-filter (λ (x : Child). entry bits x.here) (λ (x : Child). asked x.clafer) (children_at layout.slots layout.parents s)
    ∙ count-map (λ (x : Child). asked x.clafer && entry bits x.here) (child layout.slots) (filter (λ (e : Edge). e.to == s) layout.parents)
    ∙ count-filter (λ (e : Edge). asked (slot_clafer layout.slots e.from) && entry bits e.here) (λ (e : Edge). e.to == s) layout.parents
    ∙ count-same (λ (e : Edge). (e.to == s) && (asked (slot_clafer layout.slots e.from) && entry bits e.here)) (λ (e : Edge). ((e.to == s) && asked (slot_clafer layout.slots e.from)) && entry bits e.here) layout.parents (λ e. regroup (e.to == s) (asked (slot_clafer layout.slots e.from)) (entry bits e.here))
  where
    regroup : (a b c : Bool) → (a && (b && c)) ≡ ((a && b) && c)
    regroup true b c = refl
    regroup false b c = refl
