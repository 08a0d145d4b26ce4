-- Bits that show an instance are consistent.
use Rattle.std.proofs.Common.{◌≡◌, ℕ, zero, suc, ◌+◌, ◌<◌, ◌≤◌, Bool, true, false, cond, ◌&&◌, List, [], ◌∷◌, length, get_or, Option, Some, None, refl, sym, ap, ◌∙◌, arith}
use Rattle.std.specs.Prelude.{◌==◌, is_some, not}
use Rattle.std.specs.Option.{option_map_or, option_and_then}
use Rattle.std.specs.List.{list_all, count_by, All}
use Rattle.std.proofs.lemmas.Bool.{true≢false}
use Rattle.std.proofs.lemmas.Grind.{common_steps}
use Rattle.std.proofs.lemmas.List.Elements.{All-head, All-tail}
use Rattle.bool_circuit.specs.Circuit.{entry}
use Rattle.clf_tree.specs.declared.instance.Node.{Node}
use Rattle.clf_tree.specs.declared.instance.Entry.{Entry}
use Rattle.clf_tree.specs.Lists.{each_two}
use Rattle.clf_tree.specs.Nodes.{same_node, is_before, has_node, nodes_of, entry_of}
use Rattle.set_bits.specs.declared.layout.Edge.{Edge}
use Rattle.set_bits.specs.declared.layout.Layout.{Layout}
use Rattle.set_bits.specs.Fitting.{slot}
use Rattle.shown_instance.specs.Shown.{is_live, is_taken}
use Rattle.shown_instance.specs.Consistent.{are_single}
use Rattle.shown_instance.proofs.Order.{both, together, same_nodes}
use Rattle.shown_instance.proofs.Telling.{IsTold, slot_once}
use Rattle.shown_instance.proofs.Counts.{IsSound, count-cons}
use Rattle.shown_instance.proofs.Consistent.{has_entry}
use Rattle.shown_instance.proofs.Once.{is_earlier, earlier_irrefl}

-- a true bit leads from a live slot
pub told_sound : (layout : Layout) (bits : List Bool) (entries : List Entry) (of : Entry → Option Node) (edges : List Edge) → ((i : ℕ) → i < length layout.slots → is_live layout bits i ≡ has_node (nodes_of entries) (slot layout.slots i))
    → All (IsTold (λ n. option_and_then of (entry_of entries n)) layout.slots bits) edges → All (IsSound layout bits) edges
told_sound layout bits entries of edges live told = λ k d l. sound (get_or edges k d) (told k d l)
  where
    sound : (e : Edge) → IsTold (λ n. option_and_then of (entry_of entries n)) layout.slots bits e → IsSound layout bits e
    sound e t = record { from_in = t.from_in; to_in = t.to_in; lives = λ b. live e.from t.from_in ∙ has_entry entries (slot layout.slots e.from) ∙ by (entry_of entries (slot layout.slots e.from)) refl b }
      where
        by : (o : Option Entry) → entry_of entries (slot layout.slots e.from) ≡ o → entry bits e.here ≡ true → is_some (entry_of entries (slot layout.slots e.from)) ≡ true
        by (Some x) s b = ap is_some s
        by None s b = absurd (true≢false (sym b ∙ t.tied ∙ ap (λ o. option_map_or (same_node (slot layout.slots e.to)) (option_and_then of o) false) s))

count_zero : {X : Type 0} (p : X → Bool) (xs : List X) → ((k : ℕ) (d : X) → k < length xs → p (get_or xs k d) ≡ false) → count_by p xs ≡ 0
count_zero p [] h = refl
count_zero p (x ∷ xs) h =
    let rest = count_zero p xs (λ k d l. h (suc k) d (omega arith)) in
    count-cons p x xs ∙ ap (λ b. cond b 1 0 + count_by p xs) (h 0 x (omega arith)) ∙ omega (arith, rest)

pub all_at : {X : Type 0} (p : X → Bool) (xs : List X) (i : ℕ) (d : X) → list_all p xs ≡ true → i < length xs → p (get_or xs i d) ≡ true
all_at p [] i d a h = absurd (omega arith)
all_at p (x ∷ xs) zero d a h = (both (p x) (list_all p xs) a).0
all_at p (x ∷ xs) (suc i) d a h = all_at p xs i d (both (p x) (list_all p xs) a).1 (omega arith)

pub list_from : {X : Type 0} (p : X → Bool) (xs : List X) → ((k : ℕ) (d : X) → k < length xs → p (get_or xs k d) ≡ true) → list_all p xs ≡ true
list_from p [] h = refl
list_from p (x ∷ xs) h = together (p x) (list_all p xs) (h 0 x (omega arith)) (list_from p xs (λ k d l. h (suc k) d (omega arith)))

same_number : (a b : ℕ) → (a == b) ≡ true → a ≡ b
same_number a b h = grind (arith, common_steps)

number_same : (a b : ℕ) → a ≡ b → (a == b) ≡ true
number_same a b h = grind (arith, common_steps)

-- whether two edges are not both taken of one slot
abbrev are_apart : List Bool → Edge → Edge → Bool
are_apart bits e f = not (is_taken bits f.from e && entry bits f.here)

abbrev earlier : Edge → Edge → Bool
earlier x y = is_earlier (x.from, x.to) (y.from, y.to)

-- where no two edges of one slot are taken, one of each is at most
pub single_count : (bits : List Bool) (i : ℕ) (edges : List Edge) → are_single edges bits ≡ true → count_by (is_taken bits i) edges ≤ 1
single_count bits i [] h = omega arith
single_count bits i (x ∷ xs) h = by (is_taken bits i x) refl (single_count bits i xs (both (list_all (are_apart bits x) xs) (each_two (are_apart bits) xs) h).1)
  where
    apart : (y : Edge) → is_taken bits i x ≡ true → are_apart bits x y ≡ true → (b : Bool) → is_taken bits i y ≡ b → is_taken bits i y ≡ false
    apart y a n false s = s
    apart y a n true s =
        let p = both (x.from == i) (entry bits x.here) a in
        let q = both (y.from == i) (entry bits y.here) s in
        let same : (x.from == y.from) ≡ true = number_same x.from y.from (same_number x.from i p.0 ∙ sym (same_number y.from i q.0)) in
        absurd (true≢false (sym n ∙ ap not (together (is_taken bits y.from x) (entry bits y.here) (together (x.from == y.from) (entry bits x.here) same p.1) q.1)))

    by : (b : Bool) → is_taken bits i x ≡ b → count_by (is_taken bits i) xs ≤ 1 → count_by (is_taken bits i) (x ∷ xs) ≤ 1
    by true s rest =
        let none = count_zero (is_taken bits i) xs (λ k d l. apart (get_or xs k d) s (all_at (are_apart bits x) xs k d (both (list_all (are_apart bits x) xs) (each_two (are_apart bits) xs) h).0 l) (is_taken bits i (get_or xs k d)) refl) in
        let c : count_by (is_taken bits i) (x ∷ xs) ≡ 1 + count_by (is_taken bits i) xs = count-cons (is_taken bits i) x xs ∙ ap (λ b. cond b 1 0 + count_by (is_taken bits i) xs) s in
        omega (arith, none, c)
    by false s rest =
        let c : count_by (is_taken bits i) (x ∷ xs) ≡ 0 + count_by (is_taken bits i) xs = count-cons (is_taken bits i) x xs ∙ ap (λ b. cond b 1 0 + count_by (is_taken bits i) xs) s in
        omega (arith, c, rest)

-- no two edges of one slot are taken
pub told_single : (of : Node → Option Node) (slots : List Node) (bits : List Bool) (edges : List Edge) → each_two is_before slots ≡ true → each_two earlier edges ≡ true → All (IsTold of slots bits) edges → are_single edges bits ≡ true
told_single of slots bits [] asc order told = refl
told_single of slots bits (x ∷ xs) asc order told =
    let o = both (list_all (earlier x) xs) (each_two earlier xs) order in
    together (list_all (are_apart bits x) xs) (each_two (are_apart bits) xs)
    (list_from (are_apart bits x) xs (λ k d l. apart (get_or xs k d) (all_at (earlier x) xs k d o.0 l) (All-head (IsTold of slots bits) x xs told) (All-tail (IsTold of slots bits) x xs told k d l) (is_taken bits (get_or xs k d).from x && entry bits (get_or xs k d).here) refl))
    (told_single of slots bits xs asc o.1 (All-tail (IsTold of slots bits) x xs told))
  where
    to_same : (e : Edge) (i : ℕ) (o : Option Node) → of (slot slots i) ≡ o → IsTold of slots bits e → e.from ≡ i → entry bits e.here ≡ true → o ≡ Some (slot slots e.to)
    to_same e i None s t f b = absurd (true≢false (sym b ∙ t.tied ∙ ap (λ j. option_map_or (same_node (slot slots e.to)) (of (slot slots j)) false) f ∙ ap (λ o. option_map_or (same_node (slot slots e.to)) o false) s))
    to_same e i (Some p) s t f b = ap Some (sym (same_nodes (slot slots e.to) p (sym (t.tied ∙ ap (λ j. option_map_or (same_node (slot slots e.to)) (of (slot slots j)) false) f ∙ ap (λ o. option_map_or (same_node (slot slots e.to)) o false) s) ∙ b)))

    apart : (y : Edge) → earlier x y ≡ true → IsTold of slots bits x → IsTold of slots bits y → (b : Bool) → (is_taken bits y.from x && entry bits y.here) ≡ b → are_apart bits x y ≡ true
    apart y o tx ty false s = ap not s
    apart y o tx ty true s =
        let p = both (is_taken bits y.from x) (entry bits y.here) s in
        let q = both (x.from == y.from) (entry bits x.here) p.0 in
        let from : x.from ≡ y.from = same_number x.from y.from q.0 in
        let same : slot slots x.to ≡ slot slots y.to = ap (λ o. option_map_or (λ n. n) o (slot slots x.to)) (sym (to_same x y.from (of (slot slots y.from)) refl tx from q.1) ∙ to_same y y.from (of (slot slots y.from)) refl ty refl p.1) in
        absurd (true≢false (sym o ∙ earlier_irrefl x.from x.to y.from y.to from (slot_once slots x.to y.to asc tx.to_in ty.to_in same)))
