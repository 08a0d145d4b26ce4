-- The edges that are gathered reach what all reach.
use Rattle.std.proofs.Common.{◌≡◌, ℕ, ◌*◌, ◌≤◌, Bool, true, false, cond, ◌&&◌, ◌||◌, List, [], ◌∷◌, ◌++◌, length, map, refl, sym, ap, ◌∙◌, subst, arith, mul-le-mul_left}
use Rattle.std.specs.Prelude.{nat_eq, slice_index_or}
use Rattle.std.specs.List.{All, filter, flat_map, list_any, list_all, count_by}
use Rattle.std.proofs.lemmas.Bool.{eqb-true}
use Rattle.std.proofs.lemmas.Bool.Decides.{nat_tests}
use Rattle.std.proofs.lemmas.List.{length-append}
use Rattle.std.proofs.lemmas.List.Elements.{All-append, All-nil, All-filter, All-map, All-head, All-tail}
use Rattle.std.proofs.lemmas.List.Folds.{list_any-append}
use Rattle.bool_circuit.specs.declared.gate.Gate.{Gate}
use Rattle.bool_circuit.specs.Circuit.{wire_value, entry, IsWireOf}
use Rattle.clf_tree.specs.declared.model.Clafer.{Clafer}
use Rattle.clf_tree.specs.declared.scopes.Scopes.{Scopes}
use Rattle.set_bits.specs.declared.sets.Member.{Member}
use Rattle.set_bits.specs.declared.layout.Edge.{Edge}
use Rattle.set_bits.specs.declared.layout.Layout.{Layout}
use Rattle.set_bits.specs.Fitting.{Fits}
use Rattle.set_bits.specs.Sets.{is_in, is_reached, has_slot, leading}
use Rattle.set_bits.proofs.Distinct.{leading_all}
use Rattle.shape_encoder.specs.Reading.{IsBit, IsLaid}
use Rattle.shown_instance.proofs.Order.{together}
use Rattle.told_constraints.specs.Told.{all_slots, is_listed, is_led_to, turned}
use Rattle.node_encoder.specs.declared.gathering.Step.{Step}
use Rattle.node_encoder.specs.declared.gathering.Step.TheVariants as step
use Rattle.node_encoder.specs.Gathering.{edges_of, AreGathered}
use Rattle.node_encoder.specs.Listing.{room}
use Rattle.node_encoder.specs.Tables.{AreBySlot}
use Rattle.node_encoder.proofs.Counting.{AscendWithin, ascending_few, listed_few}
use Rattle.node_encoder.proofs.Ends.{far_ends, ascend_filter, steps_ascend}

-- ---- tests of lists

same-any : {X : Type 0} (p q : X → Bool) (xs : List X) → ((x : X) → p x ≡ q x) → list_any p xs ≡ list_any q xs
same-any p q [] h = refl
same-any p q (x ∷ xs) h = ap (λ b. b || list_any p xs) (h x) ∙ ap (λ b. q x || b) (same-any p q xs h)

any-none : {X : Type 0} (q : X → Bool) (xs : List X) → false ≡ list_any (λ x. false && q x) xs
any-none q [] = refl
any-none q (x ∷ xs) = any-none q xs

any-or : {X : Type 0} (a b h : X → Bool) (xs : List X) → (list_any (λ x. a x && h x) xs || list_any (λ x. b x && h x) xs) ≡ list_any (λ x. (a x || b x) && h x) xs
any-or a b h [] = refl
any-or a b h (x ∷ xs) = join (a x) (b x) (h x) (list_any (λ y. a y && h y) xs) (list_any (λ y. b y && h y) xs) ∙ ap (λ c. ((a x || b x) && h x) || c) (any-or a b h xs)
  where
    join : (a b h p q : Bool) → (((a && h) || p) || ((b && h) || q)) ≡ (((a || b) && h) || (p || q))
    join true true true p q = refl
    join true true false p q = refl
    join true false true p q = refl
    join true false false p q = refl
    join false true true true q = refl
    join false true true false q = refl
    join false true false p q = refl
    join false false h p q = refl

-- a test that only items which pass another one pass
any-kept : {X : Type 0} (l f h : X → Bool) (xs : List X) → ((x : X) → h x ≡ true → l x ≡ true) → list_any h (filter l (filter f xs)) ≡ list_any (λ x. f x && h x) xs
any-kept l f h [] k = refl
any-kept {X} l f h (x ∷ xs) k = by (f x) (any-kept l f h xs k)
  where
    rest : List X
    rest = filter l (filter f xs)

    inner : (c d : Bool) → l x ≡ c → h x ≡ d → list_any h (cond c (x ∷ rest) rest) ≡ (h x || list_any h rest)
    inner true d e g = refl
    inner false true e g = absurd (let t : l x ≡ true = k x g in cc)
    inner false false e g = sym (ap (λ b. b || list_any h rest) g)

    by : (b : Bool) → list_any h rest ≡ list_any (λ y. f y && h y) xs → list_any h (filter l (cond b (x ∷ filter f xs) (filter f xs))) ≡ ((b && h x) || list_any (λ y. f y && h y) xs)
    by true r = inner (l x) (h x) refl refl ∙ ap (λ b. h x || b) r
    by false r = r

-- ---- what is reached

hits : List Gate → List Member → List Bool → ℕ → Edge → Bool
hits gates of bits s e = nat_eq e.to s && (is_in gates of e.from bits && wire_value gates e.here bits)

reached_any : (gates : List Gate) (of : List Member) (edges : List Edge) (s : ℕ) (bits : List Bool) → is_reached gates of edges s bits ≡ list_any (hits gates of bits s) edges
unfolding hits
reached_any gates of [] s bits = refl
reached_any gates of (e ∷ es) s bits = ap (λ b. (nat_eq e.to s && (is_in gates of e.from bits && wire_value gates e.here bits)) || b) (reached_any gates of es s bits)

hits_there : (gates : List Gate) (of : List Member) (bits : List Bool) (s : ℕ) (e : Edge) → hits gates of bits s e ≡ true → e.to ≡ s
unfolding hits
hits_there gates of bits s e h = eqb-true e.to s (first (nat_eq e.to s) (is_in gates of e.from bits && wire_value gates e.here bits) h)
  where
    first : (a b : Bool) → (a && b) ≡ true → a ≡ true
    first true b h = refl
    first false b h = h

in_has : (gates : List Gate) (of : List Member) (s : ℕ) (bits : List Bool) → has_slot of s ≡ false → is_in gates of s bits ≡ false
in_has gates [] s bits h = refl
in_has gates (m ∷ ms) s bits h = by (nat_eq m.slot s) refl h (in_has gates ms s bits)
  where
    by : (b : Bool) → nat_eq m.slot s ≡ b → (b || has_slot ms s) ≡ false → (has_slot ms s ≡ false → is_in gates ms s bits ≡ false) → ((nat_eq m.slot s && wire_value gates m.here bits) || is_in gates ms s bits) ≡ false
    by true e f rest = absurd cc
    by false e f rest = ap (λ b. (b && wire_value gates m.here bits) || is_in gates ms s bits) e ∙ rest f

hits_has : (gates : List Gate) (of : List Member) (bits : List Bool) (s : ℕ) (e : Edge) → (has_slot of e.from && hits gates of bits s e) ≡ hits gates of bits s e
unfolding hits
hits_has gates of bits s e = by (has_slot of e.from) refl
  where
    none : (a b : Bool) → (a && (false && b)) ≡ false
    none true b = refl
    none false b = refl

    by : (b : Bool) → has_slot of e.from ≡ b → (b && (nat_eq e.to s && (is_in gates of e.from bits && wire_value gates e.here bits))) ≡ (nat_eq e.to s && (is_in gates of e.from bits && wire_value gates e.here bits))
    by true h = refl
    by false h = sym (ap (λ c. nat_eq e.to s && (c && wire_value gates e.here bits)) (in_has gates of e.from bits h) ∙ none (nat_eq e.to s) (wire_value gates e.here bits))

-- the edges of a member's row that lead to listed slots
abbrev row : Layout → List ℕ → List Edge → Member → List Edge
row layout ks edges m = filter (λ e. is_listed layout ks e.to) (filter (λ e. nat_eq e.from m.slot) edges)

any_rows : (layout : Layout) (ks : List ℕ) (edges : List Edge) (h : Edge → Bool) (ms : List Member) → ((e : Edge) → h e ≡ true → is_listed layout ks e.to ≡ true)
    → list_any h (flat_map (row layout ks edges) ms) ≡ list_any (λ e. has_slot ms e.from && h e) edges
any_rows layout ks edges h [] k = any-none h edges
any_rows layout ks edges h (m ∷ ms) k =
    list_any-append h (row layout ks edges m) (flat_map (row layout ks edges) ms)
    ∙ ap (λ b. b || list_any h (flat_map (row layout ks edges) ms)) (any-kept (λ (e : Edge). is_listed layout ks e.to) (λ (e : Edge). nat_eq e.from m.slot) h edges k ∙ same-any (λ (e : Edge). nat_eq e.from m.slot && h e) (λ (e : Edge). nat_eq m.slot e.from && h e) edges (λ e. ap (λ b. b && h e) (swapped e.from m.slot)))
    ∙ ap (λ b. list_any (λ (e : Edge). nat_eq m.slot e.from && h e) edges || b) (any_rows layout ks edges h ms k)
    ∙ any-or (λ (e : Edge). nat_eq m.slot e.from) (λ (e : Edge). has_slot ms e.from) h edges
  where
    swapped : (a b : ℕ) → nat_eq a b ≡ nat_eq b a
    swapped a b = grind (arith, nat_tests)

rows_reach : (layout : Layout) (ks : List ℕ) (edges : List Edge) (of : List Member) (gates : List Gate) (bits : List Bool) (s : ℕ) → is_listed layout ks s ≡ true → is_reached gates of (flat_map (row layout ks edges) of) s bits ≡ is_reached gates of edges s bits
rows_reach layout ks edges of gates bits s l =
    reached_any gates of (flat_map (row layout ks edges) of) s bits
    ∙ any_rows layout ks edges (hits gates of bits s) of (λ e h. ap (is_listed layout ks) (hits_there gates of bits s e h) ∙ l)
    ∙ same-any (λ e. has_slot of e.from && hits gates of bits s e) (hits gates of bits s) edges (hits_has gates of bits s)
    ∙ sym (reached_any gates of edges s bits)

-- ---- how many they are

listed_ends : (p : ℕ → Bool) (edges : List Edge) → length (filter (λ (e : Edge). p e.to) edges) ≡ length (filter p (map (λ (e : Edge). e.to) edges))
listed_ends p [] = refl
listed_ends p (e ∷ es) = by (p e.to) (listed_ends p es)
  where
    by : (b : Bool) → length (filter (λ (x : Edge). p x.to) es) ≡ length (filter p (map (λ (x : Edge). x.to) es))
        → length (cond b (e ∷ filter (λ (x : Edge). p x.to) es) (filter (λ (x : Edge). p x.to) es)) ≡ length (cond b (e.to ∷ filter p (map (λ (x : Edge). x.to) es)) (filter p (map (λ (x : Edge). x.to) es)))
    by true r = omega (arith, r)
    by false r = r

kept_pass : (p : ℕ → Bool) (xs : List ℕ) → list_all p (filter p xs) ≡ true
kept_pass p [] = refl
kept_pass p (x ∷ xs) = by (p x) refl (kept_pass p xs)
  where
    by : (b : Bool) → p x ≡ b → list_all p (filter p xs) ≡ true → list_all p (cond b (x ∷ filter p xs) (filter p xs)) ≡ true
    by true e r = together (p x) (list_all p (filter p xs)) e r
    by false e r = r

row_few : (layout : Layout) (ks : List ℕ) (edges : List Edge) (m : Member) → AscendWithin 0 (length layout.slots) (far_ends edges m.slot) → length (row layout ks edges m) ≤ count_by (is_listed layout ks) (all_slots layout)
row_few layout ks edges m h =
    let a = listed_ends (is_listed layout ks) (filter (λ (e : Edge). nat_eq e.from m.slot) edges) in
    let b = ascending_few (is_listed layout ks) (length layout.slots) 0 (length layout.slots) (filter (is_listed layout ks) (far_ends edges m.slot)) (omega arith)
    (ascend_filter (is_listed layout ks) 0 (length layout.slots) (far_ends edges m.slot) h) (kept_pass (is_listed layout ks) (far_ends edges m.slot)) in
    omega (arith, a, b)

rows_few : (layout : Layout) (ks : List ℕ) (edges : List Edge) (ms : List Member) → ((s : ℕ) → AscendWithin 0 (length layout.slots) (far_ends edges s)) → length (flat_map (row layout ks edges) ms) ≤ length ms * count_by (is_listed layout ks) (all_slots layout)
rows_few layout ks edges [] h = omega arith
rows_few layout ks edges (m ∷ ms) h =
    let a = length-append (row layout ks edges m) (flat_map (row layout ks edges) ms) in
    let b = row_few layout ks edges m (h m.slot) in
    let c = rows_few layout ks edges ms h in
    omega (arith, a, b, c)

-- ---- their wires

rows_all : (P : Edge → Type 0) (layout : Layout) (ks : List ℕ) (edges : List Edge) (ms : List Member) → All P edges → All P (flat_map (row layout ks edges) ms)
rows_all P layout ks edges [] h = All-nil P
rows_all P layout ks edges (m ∷ ms) h =
    All-append P (row layout ks edges m) (flat_map (row layout ks edges) ms)
    (All-filter (λ (e : Edge). is_listed layout ks e.to) P (filter (λ (e : Edge). nat_eq e.from m.slot) edges) (All-filter (λ (e : Edge). nat_eq e.from m.slot) P edges h)) (rows_all P layout ks edges ms h)

-- ---- all of it

same_rows : (layout : Layout) (ks : List ℕ) (edges : List Edge) (table : List (List Edge)) (ms : List Member) → AreBySlot edges table → flat_map (λ (m : Member). filter (λ (e : Edge). is_listed layout ks e.to) (slice_index_or table m.slot [])) ms ≡ flat_map (row layout ks edges) ms
same_rows layout ks edges table [] t = refl
same_rows layout ks edges table (m ∷ ms) t =
    ap (λ xs. filter (λ (e : Edge). is_listed layout ks e.to) xs ++ flat_map (λ (n : Member). filter (λ (e : Edge). is_listed layout ks e.to) (slice_index_or table n.slot [])) ms) (t.at m.slot)
    ∙ ap (λ xs. row layout ks edges m ++ xs) (same_rows layout ks edges table ms t)

rows_gathered : (layout : Layout) (ks : List ℕ) (edges : List Edge) (of : List Member) → ((s : ℕ) → AscendWithin 0 (length layout.slots) (far_ends edges s)) → AreGathered layout edges ks of (flat_map (row layout ks edges) of)
rows_gathered layout ks edges of h = record {
  reach = λ gates bits s l. rows_reach layout ks edges of gates bits s l;
  wires = λ gates k. rows_all (λ e. IsWireOf gates e.here) layout ks edges of (λ i d l. (k i d l).wire);
  few = rows_few layout ks edges of h;
}

pub are_gathered : (clafers : List Clafer) (scopes : Scopes) (layout : Layout) (to : Step) (ks : List ℕ) (of : List Member) (table : List (List Edge)) (found : List Edge) → Fits clafers scopes layout → AreBySlot (edges_of layout to) table
    → found ≡ flat_map (λ m. filter (λ e. is_listed layout ks e.to) (slice_index_or table m.slot [])) of → AreGathered layout (edges_of layout to) ks of found
are_gathered clafers scopes layout to ks of table found fit t e =
    subst (AreGathered layout (edges_of layout to) ks of) (sym (e ∙ same_rows layout ks (edges_of layout to) table of t)) (rows_gathered layout ks (edges_of layout to) of (λ s. steps_ascend clafers scopes layout to s fit))

-- ---- a step

pub step_bits : (gates : List Gate) (layout : Layout) (to : Step) → IsLaid gates layout → All (λ e. IsBit gates e.here) (edges_of layout to)
step_bits gates layout step.Down h = All-map (λ (e : Edge). IsBit gates e.here) turned layout.parents h.parents
step_bits gates layout step.Up h = h.parents
step_bits gates layout step.Follow h = h.targets

-- twice the edges that lead from members are no more wires than a step may add
pub step_room : (clafers : List Clafer) (scopes : Scopes) (layout : Layout) (edges : List Edge) (ks : List ℕ) (of : List Member) (found : List Edge) → Fits clafers scopes layout → AreGathered layout edges ks of found
    → 2 * leading of found ≤ 4 * (length of * room scopes ks)
step_room clafers scopes layout edges ks of found fit g =
    let a = leading_all of found in
    let b = g.few in
    let c = listed_few clafers scopes layout ks fit in
    let d = mul-le-mul_left (length of) c in
    omega (arith, a, b, d)

led_same : (gates : List Gate) (of : List Member) (edges : List Edge) (s : ℕ) (bits : List Bool) → All (λ e. IsBit gates e.here) edges → is_reached gates of edges s bits ≡ is_led_to bits edges (λ t. is_in gates of t bits) s
led_same gates of [] s bits h = refl
led_same gates of (e ∷ es) s bits h =
    ap (λ b. (nat_eq e.to s && (is_in gates of e.from bits && b)) || is_reached gates of es s bits) ((All-head (λ (x : Edge). IsBit gates x.here) e es h).value bits)
    ∙ ap (λ b. (nat_eq e.to s && (is_in gates of e.from bits && entry bits e.here)) || b) (led_same gates of es s bits (All-tail (λ (x : Edge). IsBit gates x.here) e es h))

-- a slot of the clafers is reached exactly where taken edges lead to it
pub step_value : (gates : List Gate) (layout : Layout) (to : Step) (ks : List ℕ) (of : List Member) (found : List Edge) (bits : List Bool) (s : ℕ) → IsLaid gates layout → AreGathered layout (edges_of layout to) ks of found
    → (is_listed layout ks s && is_reached gates of found s bits) ≡ (is_listed layout ks s && is_led_to bits (edges_of layout to) (λ t. is_in gates of t bits) s)
step_value gates layout to ks of found bits s laid g = by (is_listed layout ks s) refl
  where
    by : (b : Bool) → is_listed layout ks s ≡ b → (b && is_reached gates of found s bits) ≡ (b && is_led_to bits (edges_of layout to) (λ t. is_in gates of t bits) s)
    by true e = g.reach gates bits s e ∙ led_same gates of (edges_of layout to) s bits (step_bits gates layout to laid)
    by false e = refl
