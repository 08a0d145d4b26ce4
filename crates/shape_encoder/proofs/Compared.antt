-- Slots that are compared with each other, one after another.
use Rattle.std.proofs.Common.{◌≡◌, ℕ, zero, suc, ◌+◌, ◌<◌, ◌≤◌, Bool, true, false, cond, not, ◌&&◌, ◌||◌, List, [], ◌∷◌, length, map, take, get_or, Option, Some, None, refl, sym, ap, ◌∙◌, subst, arith, ◌⊎◌, inl, inr}
use Rattle.std.specs.Prelude.{slice_get, nat_eq, ◌==◌, is_some, is_none, IfSome}
use Rattle.std.specs.List.{All, filter, list_any, sum_by}
use Rattle.std.proofs.lemmas.Bool.{true≢false, cases_eq}
use Rattle.std.proofs.lemmas.Grind.{common_steps}
use Rattle.std.proofs.lemmas.List.{take_all, get_or_read}
use Rattle.std.proofs.lemmas.Option.{get_or_from_slice_get}
use Rattle.std.proofs.lemmas.List.Folds.{list_any-append}
use Rattle.std.proofs.lemmas.List.Elements.{All-head, All-tail, All-cons}
use Rattle.std.proofs.lemmas.List.Sums.{sum_by-append, sum_by-cons}
use Rattle.bool_circuit.specs.declared.gate.Wire.{Wire}
use Rattle.bool_circuit.specs.declared.gate.Gate.{Gate}
use Rattle.bool_circuit.specs.Circuit.{wire_value, entry, IsWireOf, Extends}
use Rattle.bool_circuit.proofs.Extending.{extends_trans, extends_within}
use Rattle.clf_tree.specs.declared.model.Clafer.{Clafer}
use Rattle.clf_tree.specs.declared.instance.Node.{Node}
use Rattle.clf_tree.specs.Lists.{numbers_below}
use Rattle.clf_tree.specs.Hierarchy.{parent_of}
use Rattle.set_bits.specs.declared.layout.Edge.{Edge}
use Rattle.set_bits.specs.declared.layout.Layout.{Layout}
use Rattle.set_bits.specs.Fitting.{slot_clafer}
use Rattle.set_bits.specs.Reaching.{wire_at, IsTableOf}
use Rattle.set_bits.specs.Sets.{is_here}
use Rattle.set_bits.proofs.Combining.{or_false, here_stays}
use Rattle.shown_instance.specs.Shown.{is_taken}
use Rattle.shown_instance.specs.Consistent.{has_taken}
use Rattle.shown_instance.specs.Distinct.{leads_there, lead_together, tells_apart, targets_differ}
use Rattle.shape_encoder.specs.Reading.{IsBit}
use Rattle.shape_encoder.specs.Taking.{AreTaken}
use Rattle.shape_encoder.specs.Comparing.{turned, turned_by, turned_from, HoldsBy, HoldsEdges, joins, meet, is_paired, nested_differ, IsJoinedSoFar, IsMadeOf, IsMadeSoFar, IsTiedBy}
use Rattle.shape_encoder.proofs.Steps.{numbers-push, all_item, take_item}

pub any_same : {X : Type 0} (f g : X → Bool) (xs : List X) → ((x : X) → f x ≡ g x) → list_any f xs ≡ list_any g xs
any_same f g [] h = refl
any_same f g (x ∷ xs) h = ap (λ b. b || list_any f xs) (h x) ∙ ap (λ b. g x || b) (any_same f g xs h)

-- the edges of a slot, turned round, tell what its own edges do
pub turned_any : (bits : List Bool) (leads : ℕ → Bool) (edges : List Edge) (i : ℕ) → list_any (λ (e : Edge). leads e.from && entry bits e.here) (turned_from edges i) ≡ list_any (λ (e : Edge). is_taken bits i e && leads e.to) edges
turned_any bits leads [] i = refl
turned_any bits leads (e ∷ es) i = by (e.from == i) (turned_any bits leads es i)
  where
    swap : (a b : Bool) → (a && b) ≡ (b && a)
    swap true true = refl
    swap true false = refl
    swap false true = refl
    swap false false = refl

    by : (b : Bool) → list_any (λ (x : Edge). leads x.from && entry bits x.here) (turned_from es i) ≡ list_any (λ (x : Edge). is_taken bits i x && leads x.to) es
        → list_any (λ (x : Edge). leads x.from && entry bits x.here) (map turned (cond b (e ∷ filter (λ (x : Edge). x.from == i) es) (filter (λ (x : Edge). x.from == i) es)))
        ≡ (((b && entry bits e.here) && leads e.to) || list_any (λ (x : Edge). is_taken bits i x && leads x.to) es)
    by true rest = ap (λ b. b || list_any (λ (x : Edge). leads x.from && entry bits x.here) (turned_from es i)) (swap (leads e.to) (entry bits e.here)) ∙ ap (λ b. (entry bits e.here && leads e.to) || b) rest
    by false rest = rest

-- the wires that are made of a slot's edges
pub tied_by : (old new : List Gate) (edges all : List Edge) (slot : ℕ) (table : List (Option Wire)) (single : Wire) → edges ≡ turned_from all slot → AreTaken old edges (length edges) new table single → IsTiedBy new all slot table
tied_by old new edges all slot table single same t = record {
  wires = t.wires;
  leads = λ bits k.
      t.taken bits k ∙ ap (λ es. has_taken es bits k) (take_all (length edges) edges (omega arith) ∙ same) ∙ turned_any bits (λ n. n == k) all slot;
}

pub wire_stays : (old new : List Gate) (n : ℕ) (o : Option Wire) → Extends old new n → IfSome o (IsWireOf old) → IfSome o (IsWireOf new)
wire_stays old new n None x i = i
wire_stays old new n (Some w) x i = omega (arith, i, x.at_least)

pub table_stays : (old new : List Gate) (n : ℕ) (table : List (Option Wire)) → Extends old new n → IsTableOf old table → IsTableOf new table
table_stays old new n table x t = record { wires = λ k. wire_stays old new n (wire_at table k) x (t.wires k) }

pub made_stays : (old new : List Gate) (n : ℕ) (edges : List Edge) (table : List (Option Wire)) → Extends old new n → IsMadeOf old edges table → IsMadeOf new edges table
made_stays old new n edges table x m = record {
  wires = table_stays old new n table x m.wires;
  leads = λ bits k. here_stays n old new (wire_at table k) bits x (m.wires.wires k) ∙ m.leads bits k;
}

-- a circuit adds nothing to itself
pub nothing_more : (gates : List Gate) → Extends gates gates 0
nothing_more gates = record { at_least = omega arith; at_most = omega arith; same_inputs = refl; keeps = λ w h bits. refl }

pub none_made : (old : List Gate) (edges : List Edge) (table : List (Option Wire)) → table ≡ [] → Extends old old 0 → IsMadeSoFar old edges 0 old table
none_made old edges table none x = rw none (record { extends = x; made = record { wires = record { wires = λ k. tt }; leads = λ bits k. refl } })

pub made_more : (old mid new : List Gate) (edges : List Edge) (n : ℕ) (e : Edge) (table next : List (Option Wire)) → All (λ x. IsBit old x.here) edges → slice_get edges n ≡ Some e → IsMadeSoFar old edges n mid table → Extends mid new 1 → IsTableOf new next
    → ((bits : List Bool) (k : ℕ) → is_here new (wire_at next k) bits ≡ (is_here mid (wire_at table k) bits || (nat_eq e.from k && wire_value mid e.here bits))) → IsMadeSoFar old edges (n + 1) new next
made_more old mid new edges n e table next all get s x t v = record {
  extends = extends_trans old mid new n 1 s.extends x;
  made = record {
    wires = t;
    leads = λ bits k.
        v bits k ∙ ap (λ b. b || (nat_eq e.from k && wire_value mid e.here bits)) (s.made.leads bits k)
        ∙ ap (λ b. has_taken (take n edges) bits k || (nat_eq e.from k && b)) (s.extends.keeps e.here mine.wire bits ∙ mine.value bits)
        ∙ sym (ap (λ es. has_taken es bits k) (take_item edges n e get) ∙ list_any-append (is_taken bits k) (take n edges) (e ∷ []) ∙ ap (λ b. has_taken (take n edges) bits k || b) (or_false (is_taken bits k e)));
  };
}
  where
    mine : IsBit old e.here
    mine = all_item (λ (y : Edge). IsBit old y.here) edges n e all get

pub whole_made : (old new : List Gate) (edges : List Edge) (table : List (Option Wire)) → IsMadeSoFar old edges (length edges) new table → IsMadeOf new edges table
whole_made old new edges table s = subst (λ es. IsMadeOf new es table) (take_all (length edges) edges (omega arith)) s.made

-- edges of a list that lead from where those of a table do
pub joined_meet : (gates : List Gate) (table : List (Option Wire)) (edges list : List Edge) (bits : List Bool) → IsMadeOf gates edges table → list_any (joins gates table bits) list ≡ meet bits list edges
joined_meet gates table edges list bits m =
    any_same (joins gates table bits) (λ (e : Edge). has_taken edges bits e.from && entry bits e.here) list (λ e. ap (λ b. b && entry bits e.here) (m.leads bits e.from))

-- edges that join two slots
pub joined_together : (gates : List Gate) (edges : List Edge) (j slot : ℕ) (table : List (Option Wire)) (list : List Edge) (bits : List Bool) → list ≡ turned_from edges j → IsTiedBy gates edges slot table → list_any (joins gates table bits) list ≡ lead_together edges bits j slot
joined_together gates edges j slot table list bits same t =
    ap (list_any (joins gates table bits)) same
    ∙ any_same (joins gates table bits) (λ (e : Edge). leads_there edges bits slot e.from && entry bits e.here) (turned_from edges j) (λ e. ap (λ b. b && entry bits e.here) (t.leads bits e.from))
    ∙ turned_any bits (leads_there edges bits slot) edges j

-- ---- two slots

pub all_joined : (old new : List Gate) (table : List (Option Wire)) (edges : List Edge) (wire : Wire) → IsJoinedSoFar old table edges (length edges) new wire → (bits : List Bool) → wire_value new wire bits ≡ list_any (joins old table bits) edges
all_joined old new table edges wire j bits = j.value bits ∙ ap (list_any (joins old table bits)) (take_all (length edges) edges (omega arith))

pub others_differ : (clafers : List Clafer) (layout : Layout) (bits : List Bool) (j i : ℕ) → (slot_clafer layout.slots j == slot_clafer layout.slots i) ≡ false → targets_differ clafers layout bits j i ≡ true
others_differ clafers layout bits j i e = ap (λ b. not (((b && tells_apart clafers (slot_clafer layout.slots j)) && (is_none (parent_of clafers (slot_clafer layout.slots j)) || lead_together layout.parents bits j i)) && lead_together layout.targets bits j i)) e

pub same_is : (a b : ℕ) → a ≡ b → (a == b) ≡ true
same_is a b e = grind (arith, common_steps)

pub same_number : (a b : ℕ) → (a == b) ≡ true → a ≡ b
same_number a b t = grind (arith, common_steps)

pub or_true : (b : Bool) → (b || true) ≡ true
or_true true = refl
or_true false = refl

-- slots of a clafer that is not to be compared by pairs, and of one that is
pub unpaired_differ : (clafers : List Clafer) (layout : Layout) (bits : List Bool) (i : ℕ) → is_paired clafers (slot_clafer layout.slots i) ≡ false → (j : ℕ) → nested_differ clafers layout bits j i ≡ true
unpaired_differ clafers layout bits i e j = at (slot_clafer layout.slots j == slot_clafer layout.slots i) refl
  where
    told : Bool
    told = tells_apart clafers (slot_clafer layout.slots j)

    some : Bool
    some = is_some (parent_of clafers (slot_clafer layout.slots j))

    rest : Bool
    rest = is_none (parent_of clafers (slot_clafer layout.slots j)) || lead_together layout.parents bits j i

    either : (t s : Bool) → (t && s) ≡ false → (not s || not (((true && t) && rest) && lead_together layout.targets bits j i)) ≡ true
    either t false h = refl
    either false true h = refl
    either true true h = absurd (true≢false h)

    at : (b : Bool) → (slot_clafer layout.slots j == slot_clafer layout.slots i) ≡ b → nested_differ clafers layout bits j i ≡ true
    at false t = ap (λ b. not some || b) (others_differ clafers layout bits j i t) ∙ or_true (not some)
    at true t =
        ap (λ b. not some || not (((b && told) && rest) && lead_together layout.targets bits j i)) t
        ∙ either told some (ap (is_paired clafers) (same_number (slot_clafer layout.slots j) (slot_clafer layout.slots i) t) ∙ e)

pub paired_differ : (clafers : List Clafer) (layout : Layout) (bits : List Bool) (c j i : ℕ) → is_paired clafers c ≡ true → slot_clafer layout.slots j ≡ c → slot_clafer layout.slots i ≡ c
    → not (lead_together layout.parents bits j i && lead_together layout.targets bits j i) ≡ nested_differ clafers layout bits j i
paired_differ clafers layout bits c j i e f g =
    nested told (parent_of clafers (slot_clafer layout.slots j)) (ap (is_paired clafers) f ∙ e)
    ∙ sym (ap (λ b. not (is_some (parent_of clafers (slot_clafer layout.slots j))) || not (((b && told) && (is_none (parent_of clafers (slot_clafer layout.slots j)) || beside)) && onto)) (same_is (slot_clafer layout.slots j) (slot_clafer layout.slots i) (f ∙ sym g)))
  where
    told : Bool
    told = tells_apart clafers (slot_clafer layout.slots j)

    beside : Bool
    beside = lead_together layout.parents bits j i

    onto : Bool
    onto = lead_together layout.targets bits j i

    nested : (t : Bool) (o : Option ℕ) → (t && is_some o) ≡ true → not (beside && onto) ≡ (not (is_some o) || not (((true && t) && (is_none o || beside)) && onto))
    nested true (Some p) h = refl
    nested true None h = absurd (true≢false (sym h))
    nested false o h = absurd (true≢false (sym h))

-- ---- costs

pub sum_below-push : (f : ℕ → ℕ) (n : ℕ) → sum_by f (numbers_below (n + 1)) ≡ sum_by f (numbers_below n) + f n
sum_below-push f n =
    let one = sum_by-cons f n [] in
    let more = sum_by-append f (numbers_below n) (n ∷ []) in
    let whole = ap (sum_by f) (numbers-push n) in
    omega (arith, one, more, whole)

pub sum_below-room : (f : ℕ → ℕ) (n k : ℕ) → n < k → sum_by f (numbers_below n) + f n ≤ sum_by f (numbers_below k)
sum_below-room f n zero h = absurd (omega (arith, h))
sum_below-room f n (suc k) h = by (cases_eq n k) (sum_below-room f n k)
  where
    next : sum_by f (numbers_below (suc k)) ≡ sum_by f (numbers_below k) + f k
    next = let e : suc k ≡ k + 1 = omega arith in ap (λ m. sum_by f (numbers_below m)) e ∙ sum_below-push f k

    less : (n k : ℕ) → n < suc k → (n ≡ k → ⊥) → n < k
    less n k h ne = grind (arith, common_steps)

    by : (n ≡ k) ⊎ (n ≡ k → ⊥) → (n < k → sum_by f (numbers_below n) + f n ≤ sum_by f (numbers_below k)) → sum_by f (numbers_below n) + f n ≤ sum_by f (numbers_below (suc k))
    by (inl s) rest = let e = ap (λ m. sum_by f (numbers_below m) + f m) s in omega (arith, next, e)
    by (inr ne) rest = let r = rest (less n k h ne) in omega (arith, next, r)

-- ---- the loops

pub cost_step : (old mid new : List Gate) (m n total : ℕ) → m + n ≤ total → Extends old mid (m + 1) → Extends mid new n → Extends old new (total + 1)
cost_step old mid new m n total h x y = extends_within old new ((m + 1) + n) (total + 1) (omega (arith, h)) (extends_trans old mid new (m + 1) n x y)

-- ---- one slot, and two

-- what a table of edges has at a place
pub list_by : (key : Edge → ℕ) (edges : List Edge) (count i : ℕ) (table : List (List Edge)) (list : List Edge) → HoldsBy key edges count table → i < count → list ≡ get_or table i list → list ≡ turned_by key edges i
list_by key edges count i table list h l e = get_or_read table i list (let s = h.len in omega (arith, l, s)) e [] ∙ h.at i l

pub list_is : (edges : List Edge) (count i : ℕ) (table : List (List Edge)) (list : List Edge) → HoldsEdges edges count table → i < count → list ≡ get_or table i list → list ≡ turned_from edges i
list_is edges count i table list h l e = list_by (λ x. x.from) edges count i table list h l e

turned_all : (P : Wire → Type 0) (key : Edge → ℕ) (edges : List Edge) (i : ℕ) → All (λ e. P e.here) edges → All (λ e. P e.here) (turned_by key edges i)
turned_all P key [] i h = λ k d l. absurd (omega (arith, l))
turned_all P key (e ∷ es) i h = by (key e == i) (turned_all P key es i (All-tail (λ (x : Edge). P x.here) e es h))
  where
    by : (b : Bool) → All (λ (x : Edge). P x.here) (turned_by key es i) → All (λ (x : Edge). P x.here) (map turned (cond b (e ∷ filter (λ (x : Edge). key x == i) es) (filter (λ (x : Edge). key x == i) es)))
    by true rest = All-cons (λ (x : Edge). P x.here) (turned e) (turned_by key es i) (All-head (λ (x : Edge). P x.here) e es h) rest
    by false rest = rest

pub bits_by : (key : Edge → ℕ) (gates : List Gate) (edges list : List Edge) (i : ℕ) → list ≡ turned_by key edges i → All (λ e. IsBit gates e.here) edges → All (λ e. IsBit gates e.here) list
bits_by key gates edges list i e h = subst (λ xs. All (λ (x : Edge). IsBit gates x.here) xs) (sym e) (turned_all (IsBit gates) key edges i h)

pub list_bits : (gates : List Gate) (edges list : List Edge) (i : ℕ) → list ≡ turned_from edges i → All (λ e. IsBit gates e.here) edges → All (λ e. IsBit gates e.here) list
list_bits gates edges list i e h = bits_by (λ x. x.from) gates edges list i e h

pub clafer_at : (layout : Layout) (i : ℕ) (n : Node) → slice_get layout.slots i ≡ Some n → slot_clafer layout.slots i ≡ n.clafer
clafer_at layout i n e = ap (λ (m : Node). m.clafer) (get_or_from_slice_get layout.slots i n (record { clafer = 0; number = 0 }) e)

pub clafers_same : (layout : Layout) (j i : ℕ) (m n : Node) → slice_get layout.slots j ≡ Some m → slice_get layout.slots i ≡ Some n → m.clafer ≡ n.clafer → slot_clafer layout.slots j ≡ slot_clafer layout.slots i
clafers_same layout j i m n e f same = clafer_at layout j m e ∙ same ∙ sym (clafer_at layout i n f)

pub told_slot : (clafers : List Clafer) (layout : Layout) (i : ℕ) (n : Node) (told : Bool) → slice_get layout.slots i ≡ Some n → told ≡ tells_apart clafers n.clafer → told ≡ true → tells_apart clafers (slot_clafer layout.slots i) ≡ true
told_slot clafers layout i n told get t f = ap (tells_apart clafers) (clafer_at layout i n get) ∙ sym t ∙ f

-- a cost under another name
pub costs_same : (old new : List Gate) (m n : ℕ) → m ≡ n → Extends old new m → Extends old new n
costs_same old new m n e x = subst (Extends old new) e x

-- one step more, within the cost of all
pub costs_within : (old mid new : List Gate) (m n total : ℕ) → m + n ≤ total → Extends old mid m → Extends mid new n → Extends old new total
costs_within old mid new m n total h x y = extends_within old new (m + n) total h (extends_trans old mid new m n x y)
