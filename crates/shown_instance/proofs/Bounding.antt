-- Multiplicities and group cardinalities of the entries that bits tell.
use Rattle.std.proofs.Common.{◌≡◌, ℕ, zero, suc, ◌+◌, ◌<◌, ◌≤◌, Bool, true, false, not, cond, ◌&&◌, ◌||◌, List, [], ◌∷◌, length, map, Option, Some, None, refl, sym, ap, ◌∙◌, arith}
use Rattle.std.specs.Prelude.{slice_get}
use Rattle.std.specs.Option.{option_map_or}
use Rattle.std.specs.List.{filter, list_all, range_with_len, count_by}
use Rattle.clf_tree.specs.declared.model.Clafer.{Clafer}
use Rattle.clf_tree.specs.declared.instance.Entry.{Entry}
use Rattle.clf_tree.specs.declared.scopes.Scopes.{Scopes}
use Rattle.clf_tree.specs.Lists.{numbers_below}
use Rattle.clf_tree.specs.Hierarchy.{is_a}
use Rattle.clf_tree.specs.Shape.{allows, is_child_of, instances, meets_times, meets_group}
use Rattle.set_bits.specs.declared.layout.Layout.{Layout}
use Rattle.set_bits.specs.Fitting.{slot_clafer, Fits}
use Rattle.shown_instance.specs.Shown.{shown, entry_at, is_live}
use Rattle.shown_instance.specs.Consistent.{is_consistent}
use Rattle.shown_instance.specs.Bounds.{is_declared_under, children_below, live_slots, each_live, have_times, have_group, have_bounds}
use Rattle.shown_instance.proofs.Counts.{count-same, count-filter, entries_counted}
use Rattle.shown_instance.proofs.Placing.{children_told}

-- what holds of each live slot of some clafers holds of their entries
chosen : (t : ℕ → Bool) (q : Entry → Bool) (r : ℕ → Bool) (layout : Layout) (bits : List Bool) (a m : ℕ) → ((i : ℕ) → a ≤ i → i < a + m → q (entry_at layout bits i) ≡ r i)
    → list_all (λ i. not (is_live layout bits i && t (slot_clafer layout.slots i)) || r i) (range_with_len a m) ≡ list_all q (filter (λ (e : Entry). t e.node.clafer) (map (entry_at layout bits) (filter (is_live layout bits) (range_with_len a m))))
chosen t q r layout bits a zero h = refl
chosen t q r layout bits a (suc m) h = by (is_live layout bits a) (chosen t q r layout bits (a + 1) m (λ i low high. h i (omega (arith, low)) (omega (arith, high))))
  where
    told : List Entry
    told = filter (λ (e : Entry). t e.node.clafer) (map (entry_at layout bits) (filter (is_live layout bits) (range_with_len (a + 1) m)))

    left : Bool
    left = list_all (λ i. not (is_live layout bits i && t (slot_clafer layout.slots i)) || r i) (range_with_len (a + 1) m)

    at : (c : Bool) → left ≡ list_all q told → ((not c || r a) && left) ≡ list_all q (cond c (entry_at layout bits a ∷ told) told)
    at true rest = ap (λ b. b && left) (sym (h a (omega arith) (omega arith))) ∙ ap (λ b. q (entry_at layout bits a) && b) rest
    at false rest = rest

    by : (b : Bool) → left ≡ list_all q told → ((not (b && t (slot_clafer layout.slots a)) || r a) && left)
        ≡ list_all q (filter (λ (e : Entry). t e.node.clafer) (map (entry_at layout bits) (cond b (a ∷ filter (is_live layout bits) (range_with_len (a + 1) m)) (filter (is_live layout bits) (range_with_len (a + 1) m)))))
    by true rest = at (t (slot_clafer layout.slots a)) rest
    by false rest = rest

pub times_told : (clafers : List Clafer) (scopes : Scopes) (layout : Layout) (bits : List Bool) → Fits clafers scopes layout → is_consistent scopes layout bits ≡ true → (c : ℕ) (k : Clafer) → have_times clafers layout bits c k ≡ meets_times clafers (shown layout bits) c k
times_told clafers scopes layout bits f co c k = by k.parent
  where
    asked : ℕ → Bool
    asked d = is_a clafers d c

    by : (o : Option ℕ) → option_map_or (λ p. each_live clafers layout bits p (λ s. allows k.times (children_below layout bits asked s))) o (allows k.times (live_slots layout bits asked))
        ≡ option_map_or (λ p. list_all (λ e. allows k.times (count_by (is_child_of e) (instances clafers (shown layout bits) c))) (instances clafers (shown layout bits) p)) o (allows k.times (length (instances clafers (shown layout bits) c)))
    by None = ap (allows k.times) (sym (entries_counted asked layout bits))
    by (Some p) =
        chosen (λ d. is_a clafers d p) (λ e. allows k.times (count_by (is_child_of e) (instances clafers (shown layout bits) c))) (λ s. allows k.times (children_below layout bits asked s)) layout bits 0 (length layout.slots)
        (λ i low high. ap (allows k.times) (children_told clafers scopes layout bits asked i f co (omega (arith, high))))

swapped : (a b : Bool) → (a && b) ≡ (b && a)
swapped true true = refl
swapped true false = refl
swapped false true = refl
swapped false false = refl

pub group_told : (clafers : List Clafer) (scopes : Scopes) (layout : Layout) (bits : List Bool) → Fits clafers scopes layout → is_consistent scopes layout bits ≡ true → (c : ℕ) (k : Clafer) → have_group clafers layout bits c k ≡ meets_group clafers (shown layout bits) c k
group_told clafers scopes layout bits f co c k =
    chosen (λ d. is_a clafers d c) (λ e. allows k.group (count_by (λ x. is_child_of e x && is_declared_under clafers c x.node.clafer) (shown layout bits))) (λ s. allows k.group (children_below layout bits (is_declared_under clafers c) s)) layout bits 0 (length layout.slots)
    (λ i low high. ap (allows k.group)
    (count-same (λ x. is_child_of (entry_at layout bits i) x && is_declared_under clafers c x.node.clafer) (λ x. is_declared_under clafers c x.node.clafer && is_child_of (entry_at layout bits i) x) (shown layout bits) (λ x. swapped (is_child_of (entry_at layout bits i) x) (is_declared_under clafers c x.node.clafer))
    ∙ sym (count-filter (is_child_of (entry_at layout bits i)) (λ (x : Entry). is_declared_under clafers c x.node.clafer) (shown layout bits))
    ∙ children_told clafers scopes layout bits (is_declared_under clafers c) i f co (omega (arith, high))))

tests_same : (f g : ℕ → Bool) (xs : List ℕ) → ((x : ℕ) → f x ≡ g x) → list_all f xs ≡ list_all g xs
tests_same f g [] h = refl
tests_same f g (x ∷ xs) h = ap (λ b. b && list_all f xs) (h x) ∙ ap (λ b. g x && b) (tests_same f g xs h)

pub bounds_told : (clafers : List Clafer) (scopes : Scopes) (layout : Layout) (bits : List Bool) → Fits clafers scopes layout → is_consistent scopes layout bits ≡ true
    → have_bounds clafers layout bits ≡ list_all (λ c. option_map_or (λ k. meets_times clafers (shown layout bits) c k && meets_group clafers (shown layout bits) c k) (slice_get clafers c) true) (numbers_below (length clafers))
bounds_told clafers scopes layout bits f co =
    tests_same (λ c. option_map_or (λ k. have_times clafers layout bits c k && have_group clafers layout bits c k) (slice_get clafers c) true)
    (λ c. option_map_or (λ k. meets_times clafers (shown layout bits) c k && meets_group clafers (shown layout bits) c k) (slice_get clafers c) true) (numbers_below (length clafers)) (λ c. by c (slice_get clafers c))
  where
    by : (c : ℕ) (o : Option Clafer) → option_map_or (λ k. have_times clafers layout bits c k && have_group clafers layout bits c k) o true ≡ option_map_or (λ k. meets_times clafers (shown layout bits) c k && meets_group clafers (shown layout bits) c k) o true
    by c None = refl
    by c (Some k) = ap (λ b. b && have_group clafers layout bits c k) (times_told clafers scopes layout bits f co c k) ∙ ap (λ b. meets_times clafers (shown layout bits) c k && b) (group_told clafers scopes layout bits f co c k)
