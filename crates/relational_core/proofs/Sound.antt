-- The relational expression of an expression is sound.
use Rattle.std.proofs.Common.{◌≡◌, ℕ, zero, suc, ◌<◌, ◌≤◌, Bool, true, false, not, ◌&&◌, List, [], ◌∷◌, ◌++◌, length, Option, Some, None, refl, ap, sym, subst, ◌∙◌, arith, ℤ, neg_ℤ}
use Rattle.std.specs.Prelude.{nat_le, is_some, replicate}
use Rattle.std.specs.Option.{option_map, option_and_then, option_to_list}
use Rattle.std.specs.List.{filter, list_all, list_any}
use Rattle.std.proofs.lemmas.Bool.{true≢false}
use Rattle.std.proofs.lemmas.Grind.{common_steps}
use Rattle.std.proofs.lemmas.List.{append_assoc}
use Rattle.std.proofs.lemmas.List.Folds.{list_all-append}
use Rattle.clf_tree.specs.declared.token.Word.{Word}
use Rattle.clf_tree.specs.declared.token.Word.TheVariants as word
use Rattle.clf_tree.specs.declared.model.Clafer.{Clafer}
use Rattle.clf_tree.specs.declared.scopes.Scopes.{Scopes}
use Rattle.clf_tree.specs.declared.bounds.Bounds.{Bounds}
use Rattle.clf_tree.specs.declared.instance.Node.{Node}
use Rattle.clf_tree.specs.declared.instance.Entry.{Entry}
use Rattle.clf_tree.specs.declared.kind.Within.{Within}
use Rattle.clf_tree.specs.declared.kind.Kind.{Kind}
use Rattle.clf_tree.specs.declared.kind.Kind.TheVariants as kinds
use Rattle.clf_tree.specs.declared.kind.Reading.{Reading}
use Rattle.clf_tree.specs.declared.kind.Reading.TheVariants.{ByValues, ByNodes}
use Rattle.clf_tree.specs.Tree as e
use Rattle.clf_tree.specs.Tree.{Tree}
use Rattle.clf_tree.specs.Lists.{from_end, has, each_pair}
use Rattle.clf_tree.specs.Hierarchy.{is_closed, is_one_of}
use Rattle.clf_tree.specs.IntervalsHold.{IntervalsHold, IsSituation, StandsFor, LiesIn, refers_once}
use Rattle.clf_tree.specs.Nodes.{has_node, nodes_of, is_ordered, is_within, is_tree}
use Rattle.clf_tree.specs.Shape.{has_shape}
use Rattle.clf_tree.specs.Kinds.{kind, clafers_of, bind_kinds, branch_kind, reading_of}
use Rattle.clf_tree.specs.Typed.{is_typed, fits_truth, fits_number, fits_nodes, fits_sum, fit_together, fit_choice, fit_reading, fit_sides}
use Rattle.clf_tree.specs.Meaning.{Value, Situation, value, number, nodes}
use Rattle.clf_tree.specs.Meaning as values
use Rattle.clf_tree.specs.Widths.{width}
use Rattle.clf_tree.specs.Intervals.{interval}
use Rattle.clf_tree.specs.Numerics.{Numeric, numeric, inside, is_narrow, all_narrow, is_integer, by_values, and_itself}
use Rattle.clf_tree.specs.Core.{Core}
use Rattle.clf_tree.specs.CoreMeaning.{meaning, integer_in}
use Rattle.clf_tree.specs.CoreSoundness.{Sort, Nodes, Number, Truth, sort, clafers_in, is_set, is_number, is_test, is_entry_of, are_entries, is_instance, is_well_made, holds_value, holds_integer, Holds, Sound}
use Rattle.relational_core.specs.Lowered.{as_truth, as_number, negative, negated, through, dref, follow, same, part, choice, quant, never, every, instances_of, kind_interval, lowered, lowered_law, lowered_goal}
use Rattle.relational_core.proofs.Passing.{and_parts, and_all, all_implied}
use Rattle.relational_core.proofs.Bindings.{pairs-append, pairs-end, bound_below}
use Rattle.relational_core.proofs.Constants.{NumberHolds, negated-means, negated-sort, negated-sound, added-sound, multiplied-sound}
use Rattle.relational_core.proofs.Instances.{all_fit}
use Rattle.relational_core.proofs.Listed.{safe, through-safe}
use Rattle.relational_core.proofs.Made.{is_made, made, possible-made}
use Rattle.relational_core.proofs.InKinds.{Inherited, kinds_in, lists_fit, in_kind, in_kinds, has-pass}
use Rattle.relational_core.proofs.CoreSorts.{sort_fits, sorted_core}
use Rattle.relational_core.proofs.WidthLaw.{held-narrow, held-opposite, within-held, opposite-within}
use Rattle.relational_core.proofs.Kept.{Placed, three, four, law, count}
use Rattle.relational_core.specs.Lowered as lower

-- of two parts of a test on a list
split-narrow : (xs ys : List Numeric) → list_all is_narrow (xs ++ ys) ≡ true → (list_all is_narrow xs ≡ true) × (list_all is_narrow ys ≡ true)
split-narrow xs ys h = and_parts (list_all is_narrow xs) (list_all is_narrow ys) (sym (list_all-append is_narrow xs ys) ∙ h)

-- a part that stands in integer position where a test says so
itself : (b : Bool) (n : Numeric) (ns : List Numeric) → list_all is_narrow (and_itself b n ns) ≡ true → (list_all is_narrow ns ≡ true) × (b ≡ true → is_narrow n ≡ true)
itself true n ns h = let j = and_parts (is_narrow n) (list_all is_narrow ns) h in (j.1, λ q. j.0)
itself false n ns h = (h, λ q. absurd (true≢false (sym q)))

-- kinds in their positions
truth-no_integer : (k : Option Kind) → fits_truth k ≡ true → is_integer k ≡ true → ⊥
truth-no_integer None f h = true≢false (sym h)
truth-no_integer (Some kinds.Truth) f h = true≢false (sym h)
truth-no_integer (Some kinds.Integer) f h = true≢false (sym f)
truth-no_integer (Some (kinds.Nodes ks)) f h = true≢false (sym h)
truth-no_integer (Some (kinds.Numbers ks)) f h = true≢false (sym h)

nodes-no_integer : (k : Option Kind) → fits_nodes k ≡ true → is_integer k ≡ true → ⊥
nodes-no_integer None f h = true≢false (sym h)
nodes-no_integer (Some kinds.Truth) f h = true≢false (sym h)
nodes-no_integer (Some kinds.Integer) f h = true≢false (sym f)
nodes-no_integer (Some (kinds.Nodes ks)) f h = true≢false (sym h)
nodes-no_integer (Some (kinds.Numbers ks)) f h = true≢false (sym h)

pub set-of : (k : Option Kind) (s : Sort) → fits_nodes k ≡ true → sort_fits k s ≡ true → is_set s ≡ true
set-of (Some (kinds.Nodes ks)) s f h = h
set-of None s f h = absurd (true≢false (sym f))
set-of (Some kinds.Truth) s f h = absurd (true≢false (sym f))
set-of (Some kinds.Integer) s f h = absurd (true≢false (sym f))
set-of (Some (kinds.Numbers ks)) s f h = absurd (true≢false (sym f))

pub sum-nodes : (clafers : List Clafer) (k : Option Kind) → fits_sum clafers k ≡ true → fits_nodes k ≡ true
sum-nodes clafers (Some (kinds.Nodes ks)) f = refl
sum-nodes clafers None f = f
sum-nodes clafers (Some kinds.Truth) f = f
sum-nodes clafers (Some kinds.Integer) f = f
sum-nodes clafers (Some (kinds.Numbers ks)) f = f

pub together-nodes : (clafers : List Clafer) (k l : Option Kind) → fit_together clafers k l ≡ true → (fits_nodes k ≡ true) × (fits_nodes l ≡ true)
together-nodes clafers (Some (kinds.Nodes ks)) (Some (kinds.Nodes ls)) h = (refl, refl)
together-nodes clafers (Some (kinds.Nodes ks)) None h = absurd (true≢false (sym h))
together-nodes clafers (Some (kinds.Nodes ks)) (Some kinds.Truth) h = absurd (true≢false (sym h))
together-nodes clafers (Some (kinds.Nodes ks)) (Some kinds.Integer) h = absurd (true≢false (sym h))
together-nodes clafers (Some (kinds.Nodes ks)) (Some (kinds.Numbers ls)) h = absurd (true≢false (sym h))
together-nodes clafers None l h = absurd (true≢false (sym h))
together-nodes clafers (Some kinds.Truth) l h = absurd (true≢false (sym h))
together-nodes clafers (Some kinds.Integer) l h = absurd (true≢false (sym h))
together-nodes clafers (Some (kinds.Numbers ks)) l h = absurd (true≢false (sym h))

number-no_test : (clafers : List Clafer) (k : Option Kind) (s : Sort) → fits_number clafers k ≡ true → sort_fits k s ≡ true → not (is_test s) ≡ true
number-no_test clafers None s f h = absurd (true≢false (sym f))
number-no_test clafers (Some kinds.Truth) s f h = absurd (true≢false (sym f))
number-no_test clafers (Some kinds.Integer) (Number w) f h = refl
number-no_test clafers (Some kinds.Integer) (Nodes ks) f h = absurd (true≢false (sym h))
number-no_test clafers (Some kinds.Integer) Truth f h = absurd (true≢false (sym h))
number-no_test clafers (Some (kinds.Nodes ls)) (Nodes ks) f h = refl
number-no_test clafers (Some (kinds.Nodes ls)) (Number w) f h = absurd (true≢false (sym h))
number-no_test clafers (Some (kinds.Nodes ls)) Truth f h = absurd (true≢false (sym h))
number-no_test clafers (Some (kinds.Numbers ls)) (Nodes ks) f h = refl
number-no_test clafers (Some (kinds.Numbers ls)) (Number w) f h = absurd (true≢false (sym h))
number-no_test clafers (Some (kinds.Numbers ls)) Truth f h = absurd (true≢false (sym h))

-- a choice of a number has numbers, a choice of nodes has nodes
abbrev pub kind_of_choice : Option Kind → Option Kind → Option Kind
kind_of_choice k l = option_and_then (λ x. option_map (branch_kind x) l) k

number-left : (clafers : List Clafer) (k l : Option Kind) → fit_choice clafers (kind_of_choice k l) k l ≡ true → is_integer k ≡ true → is_integer (kind_of_choice k l) ≡ true
number-left clafers (Some kinds.Integer) (Some kinds.Truth) f h = f
number-left clafers (Some kinds.Integer) (Some kinds.Integer) f h = refl
number-left clafers (Some kinds.Integer) (Some (kinds.Nodes ls)) f h = refl
number-left clafers (Some kinds.Integer) (Some (kinds.Numbers ls)) f h = refl
number-left clafers (Some kinds.Integer) None f h = f
number-left clafers None l f h = absurd (true≢false (sym h))
number-left clafers (Some kinds.Truth) l f h = absurd (true≢false (sym h))
number-left clafers (Some (kinds.Nodes ks)) l f h = absurd (true≢false (sym h))
number-left clafers (Some (kinds.Numbers ks)) l f h = absurd (true≢false (sym h))

number-right : (clafers : List Clafer) (k l : Option Kind) → fit_choice clafers (kind_of_choice k l) k l ≡ true → is_integer l ≡ true → is_integer (kind_of_choice k l) ≡ true
number-right clafers (Some kinds.Truth) (Some kinds.Integer) f h = f
number-right clafers (Some kinds.Integer) (Some kinds.Integer) f h = refl
number-right clafers (Some (kinds.Nodes ks)) (Some kinds.Integer) f h = refl
number-right clafers (Some (kinds.Numbers ks)) (Some kinds.Integer) f h = refl
number-right clafers None (Some kinds.Integer) f h = f
number-right clafers k None f h = absurd (true≢false (sym h))
number-right clafers k (Some kinds.Truth) f h = absurd (true≢false (sym h))
number-right clafers k (Some (kinds.Nodes ls)) f h = absurd (true≢false (sym h))
number-right clafers k (Some (kinds.Numbers ls)) f h = absurd (true≢false (sym h))

abbrev pub is_nodes : Option Kind → Bool
is_nodes (Some (kinds.Nodes ks)) = true
is_nodes _ = false

pub nodes-choice : (k l : Option Kind) → is_nodes (kind_of_choice k l) ≡ true → (fits_nodes k ≡ true) × (fits_nodes l ≡ true)
nodes-choice (Some (kinds.Nodes ks)) (Some (kinds.Nodes ls)) h = (refl, refl)
nodes-choice None l h = absurd (true≢false (sym h))
nodes-choice (Some j) None h = absurd (true≢false (sym h))
nodes-choice (Some kinds.Truth) (Some j) h = absurd (true≢false (sym h))
nodes-choice (Some kinds.Integer) (Some kinds.Truth) h = absurd (true≢false (sym h))
nodes-choice (Some kinds.Integer) (Some kinds.Integer) h = absurd (true≢false (sym h))
nodes-choice (Some kinds.Integer) (Some (kinds.Nodes ls)) h = absurd (true≢false (sym h))
nodes-choice (Some kinds.Integer) (Some (kinds.Numbers ls)) h = absurd (true≢false (sym h))
nodes-choice (Some (kinds.Numbers ks)) (Some kinds.Truth) h = absurd (true≢false (sym h))
nodes-choice (Some (kinds.Numbers ks)) (Some kinds.Integer) h = absurd (true≢false (sym h))
nodes-choice (Some (kinds.Numbers ks)) (Some (kinds.Nodes ls)) h = absurd (true≢false (sym h))
nodes-choice (Some (kinds.Numbers ks)) (Some (kinds.Numbers ls)) h = absurd (true≢false (sym h))
nodes-choice (Some (kinds.Nodes ks)) (Some kinds.Truth) h = absurd (true≢false (sym h))
nodes-choice (Some (kinds.Nodes ks)) (Some kinds.Integer) h = absurd (true≢false (sym h))
nodes-choice (Some (kinds.Nodes ks)) (Some (kinds.Numbers ls)) h = absurd (true≢false (sym h))

-- only two sets of nodes are compared by their nodes
abbrev pub is_by_nodes : Option Reading → Bool
is_by_nodes (Some (ByNodes left right)) = true
is_by_nodes _ = false

pub by-nodes : (clafers : List Clafer) (k l : Option Kind) → is_by_nodes (reading_of clafers k l) ≡ true → (fits_nodes k ≡ true) × (fits_nodes l ≡ true)
by-nodes clafers (Some (kinds.Nodes ks)) (Some (kinds.Nodes ls)) h = (refl, refl)
by-nodes clafers None l h = absurd (true≢false (sym h))
by-nodes clafers (Some kinds.Truth) None h = absurd (true≢false (sym h))
by-nodes clafers (Some kinds.Integer) None h = absurd (true≢false (sym h))
by-nodes clafers (Some (kinds.Nodes ks)) None h = absurd (true≢false (sym h))
by-nodes clafers (Some (kinds.Numbers ks)) None h = absurd (true≢false (sym h))
by-nodes clafers (Some kinds.Truth) (Some j) h = absurd (true≢false (sym h))
by-nodes clafers (Some kinds.Integer) (Some kinds.Truth) h = absurd (true≢false (sym h))
by-nodes clafers (Some kinds.Integer) (Some kinds.Integer) h = absurd (true≢false (sym h))
by-nodes clafers (Some kinds.Integer) (Some (kinds.Nodes ls)) h = absurd (true≢false (sym h))
by-nodes clafers (Some kinds.Integer) (Some (kinds.Numbers ls)) h = absurd (true≢false (sym h))
by-nodes clafers (Some (kinds.Numbers ks)) (Some kinds.Truth) h = absurd (true≢false (sym h))
by-nodes clafers (Some (kinds.Numbers ks)) (Some kinds.Integer) h = absurd (true≢false (sym h))
by-nodes clafers (Some (kinds.Numbers ks)) (Some (kinds.Nodes ls)) h = absurd (true≢false (sym h))
by-nodes clafers (Some (kinds.Numbers ks)) (Some (kinds.Numbers ls)) h = absurd (true≢false (sym h))
by-nodes clafers (Some (kinds.Nodes ks)) (Some kinds.Truth) h = absurd (true≢false (sym h))
by-nodes clafers (Some (kinds.Nodes ks)) (Some kinds.Integer) h = absurd (true≢false (sym h))
by-nodes clafers (Some (kinds.Nodes ks)) (Some (kinds.Numbers ls)) h = absurd (true≢false (sym h))

copies-fit : {X Y : Type 0} (test : X → Y → Bool) (n : ℕ) (x : X) (y : Y) → test x y ≡ true → each_pair test (replicate n x) (replicate n y) ≡ true
copies-fit test zero x y h = refl
copies-fit test (suc n) x y h = and_all (test x y) (each_pair test (replicate n x) (replicate n y)) h (copies-fit test n x y h)

copies-pass : {X : Type 0} (p : X → Bool) (n : ℕ) (x : X) → p x ≡ true → list_all p (replicate n x) ≡ true
copies-pass p zero x h = refl
copies-pass p (suc n) x h = and_all (p x) (list_all p (replicate n x)) h (copies-pass p n x h)

flip : {X Y : Type 0} (test : X → Y → Bool) (xs : List X) (ys : List Y) → each_pair test xs ys ≡ true → each_pair (λ y x. test x y) ys xs ≡ true
flip test [] [] h = refl
flip test [] (y ∷ ys) h = h
flip test (x ∷ xs) [] h = h
flip test (x ∷ xs) (y ∷ ys) h = let j = and_parts (test x y) (each_pair test xs ys) h in and_all (test x y) (each_pair (λ y x. test x y) ys xs) j.0 (flip test xs ys j.1)

module _ (clafers : List Clafer) (scopes : Scopes) (closed : is_closed clafers ≡ true) (once : refers_once clafers ≡ true) (inherited : Inherited clafers) (intervals_hold : IntervalsHold) where
  -- the lists of the bound nodes, with the kinds that they are of
  pub record Stands (w : Within) (g : List (List ℕ)) : Type 0 where
    pub fit : lists_fit clafers scopes closed inherited (kinds_in w) g ≡ true
    pub all_made : list_all (is_made clafers scopes) g ≡ true

  -- ---- sets
  pub record SetHolds (a : Core) (g : List (List ℕ)) : Type 0 where
    pub made : is_made clafers scopes (clafers_in (sort a)) ≡ true
    pub value : (entries : List Entry) → is_instance clafers scopes entries ≡ true → (bound : List Node) → are_entries entries g bound ≡ true → list_all (λ n. has (clafers_in (sort a)) n.clafer) (nodes (meaning entries a bound)) ≡ true

  listed : (entries : List Entry) (ks : List ℕ) (ns : List Node) → list_all (is_entry_of entries ks) ns ≡ true → list_all (λ n. has ks n.clafer) ns ≡ true
  listed entries ks ns h = all_implied (is_entry_of entries ks) (λ n. has ks n.clafer) ns (λ n j. (and_parts (has ks n.clafer) (has_node (nodes_of entries) n) j).0) h

  pub set-holds : (t : Tree) (w : Within) (g : List (List ℕ)) → Stands w g → SetHolds (lowered clafers scopes t w g) g
  set-holds t w g st = record {
    made = made clafers scopes t w g st.all_made;
    value = λ entries i bound are. listed entries (clafers_in (sort (lowered clafers scopes t w g))) (nodes (meaning entries (lowered clafers scopes t w g) bound)) (safe clafers scopes entries (all_fit clafers scopes entries i) t w g bound are);
  }

  pub through-made : (f : Bool) (a : Core) → is_made clafers scopes (clafers_in (sort a)) ≡ true → is_made clafers scopes (clafers_in (sort (through clafers scopes f a))) ≡ true
  through-made true a h = possible-made clafers scopes (λ d. list_any (λ x. lower.can_reach clafers x d) (clafers_in (sort a)))
  through-made false a h = h

  through-holds : (f : Bool) (t : Tree) (w : Within) (g : List (List ℕ)) → Stands w g → SetHolds (through clafers scopes f (lowered clafers scopes t w g)) g
  through-holds f t w g st = record {
    made = through-made f (lowered clafers scopes t w g) (made clafers scopes t w g st.all_made);
    value = λ entries i bound are. listed entries (clafers_in (sort (through clafers scopes f (lowered clafers scopes t w g)))) (nodes (meaning entries (through clafers scopes f (lowered clafers scopes t w g)) bound))
        (through-safe clafers scopes entries (all_fit clafers scopes entries i) f (lowered clafers scopes t w g) bound (safe clafers scopes entries (all_fit clafers scopes entries i) t w g bound are));
  }

  made-sort : (s : Sort) → is_set s ≡ true → is_made clafers scopes (clafers_in s) ≡ true → is_well_made clafers scopes s ≡ true
  made-sort (Nodes ks) h j = j
  made-sort (Number w) h j = absurd (true≢false (sym h))
  made-sort Truth h j = absurd (true≢false (sym h))

  value-sort : (s : Sort) (v : Value) → is_set s ≡ true → list_all (λ n. has (clafers_in s) n.clafer) (nodes v) ≡ true → holds_value s v ≡ true
  value-sort (Nodes ks) v h j = j
  value-sort (Number w) v h j = absurd (true≢false (sym h))
  value-sort Truth v h j = absurd (true≢false (sym h))

  pub to-holds : (a : Core) (g : List (List ℕ)) → is_set (sort a) ≡ true → SetHolds a g → Holds clafers scopes a g
  to-holds a g set h = record { well_made = made-sort (sort a) set h.made; value = λ entries i bound are. value-sort (sort a) (meaning entries a bound) set (h.value entries i bound are) }

  abbrev IsSound : Core → List (List ℕ) → Type 0
  IsSound a g = Sound clafers scopes a g

  through-sound : (f : Bool) (a : Core) (g : List (List ℕ)) → is_set (sort a) ≡ true → IsSound a g → SetHolds (through clafers scopes f a) g
      → (is_set (sort (through clafers scopes f a)) ≡ true) × IsSound (through clafers scopes f a) g
  through-sound true a g set s h = (refl, (set, s, to-holds (follow clafers scopes a) g refl h))
  through-sound false a g set s h = (set, s)

  dref-sound : (k : Option Kind) (a : Core) (g : List (List ℕ)) → is_set (sort a) ≡ true → IsSound a g → SetHolds (through clafers scopes true a) g → IsSound (dref clafers scopes k a) g
  dref-sound (Some (kinds.Numbers ks)) a g set s h = s
  dref-sound None a g set s h = (set, s, to-holds (follow clafers scopes a) g refl h)
  dref-sound (Some kinds.Truth) a g set s h = (set, s, to-holds (follow clafers scopes a) g refl h)
  dref-sound (Some kinds.Integer) a g set s h = (set, s, to-holds (follow clafers scopes a) g refl h)
  dref-sound (Some (kinds.Nodes ks)) a g set s h = (set, s, to-holds (follow clafers scopes a) g refl h)

  -- ---- truth position
  tested-sound : (k : Option Kind) (a : Core) (g : List (List ℕ)) → fits_truth k ≡ true → sort_fits k (sort a) ≡ true → IsSound a g
      → (is_test (sort (as_truth k a)) ≡ true) × IsSound (as_truth k a) g
  tested-sound (Some kinds.Truth) a g f h s = (h, s)
  tested-sound (Some (kinds.Nodes ks)) a g f h s = (refl, (omega arith, h, s))
  tested-sound None a g f h s = absurd (true≢false (sym f))
  tested-sound (Some kinds.Integer) a g f h s = absurd (true≢false (sym f))
  tested-sound (Some (kinds.Numbers ks)) a g f h s = absurd (true≢false (sym f))

  -- ---- integer position
  abbrev IntHolds : Core → List (List ℕ) → ℕ → Type 0
  IntHolds a g w = NumberHolds clafers scopes a g w

  counted-sound : (k : Option Kind) (z : Bounds) (a : Core) (g : List (List ℕ)) → fits_number clafers k ≡ true → sort_fits k (sort a) ≡ true → IsSound a g → IntHolds (as_number k z a) g (width z)
      → (is_number (sort (as_number k z a)) ≡ true) × IsSound (as_number k z a) g
  counted-sound (Some kinds.Integer) z a g f h s i = (h, s)
  counted-sound (Some (kinds.Nodes ks)) z a g f h s i = (refl, (h, s, record { well_made = i.sized; value = i.value }))
  counted-sound (Some (kinds.Numbers ks)) z a g f h s i = (refl, (h, s, record { well_made = i.sized; value = i.value }))
  counted-sound None z a g f h s i = absurd (true≢false (sym f))
  counted-sound (Some kinds.Truth) z a g f h s i = absurd (true≢false (sym f))

  -- a situation with the given bound nodes
  record Split (w : Within) (g : List (List ℕ)) (entries : List Entry) (bound : List Node) : Type 0 where
    this : Option Node
    vars : List Node
    is : option_to_list this ++ vars ≡ bound
    long : length vars ≡ length w.bound
    situated : IsSituation clafers entries (record { within = w; this = this; bound = vars })

  some_same : {X : Type 0} (x y : X) → Some x ≡ Some y → x ≡ y
  some_same x y h = (cc)

  stands-for : (entries : List Entry) (ks ls : List ℕ) (n : Node) → list_all (is_one_of clafers ks) ls ≡ true → is_entry_of entries ls n ≡ true → StandsFor clafers entries ks n
  stands-for entries ks ls n fit h =
      let j = and_parts (has ls n.clafer) (has_node (nodes_of entries) n) h in (j.1, has-pass clafers scopes closed inherited (is_one_of clafers ks) ls n.clafer fit j.0)

  -- each bound node stands for the kind at its place
  variable-at : (entries : List Entry) (kss g : List (List ℕ)) (vars : List Node) → lists_fit clafers scopes closed inherited kss g ≡ true → are_entries entries g vars ≡ true
      → (i : ℕ) (ks : List ℕ) → from_end kss i ≡ Some ks → (n : Node) × (from_end vars i ≡ Some n) × (StandsFor clafers entries ks n)
  variable-at entries kss g vars fit are i ks e =
      let p = pairs-end (λ l k. list_all (is_one_of clafers k) l) g kss i ks (flip (λ k l. list_all (is_one_of clafers k) l) kss g fit) e in
      let q = pairs-end (λ n l. is_entry_of entries l n) vars g i p.other (flip (is_entry_of entries) g vars are) p.at in
      (q.other, q.at, stands-for entries ks p.other q.other p.pass q.pass)

  pairs-long : {X Y : Type 0} (test : X → Y → Bool) (xs : List X) (ys : List Y) → each_pair test xs ys ≡ true → length ys ≡ length xs
  pairs-long test [] [] h = refl
  pairs-long test [] (y ∷ ys) h = absurd (true≢false (sym h))
  pairs-long test (x ∷ xs) [] h = absurd (true≢false (sym h))
  pairs-long test (x ∷ xs) (y ∷ ys) h = ap suc (pairs-long test xs ys (and_parts (test x y) (each_pair test xs ys) h).1)

  split : (this : Option ℕ) (kss g : List (List ℕ)) (entries : List Entry) (bound : List Node)
      → lists_fit clafers scopes closed inherited (option_to_list (option_map (λ c. c ∷ []) this) ++ kss) g ≡ true → are_entries entries g bound ≡ true
      → Split (record { this = this; bound = kss }) g entries bound
  split None kss g entries bound fit are = record {
    this = None;
    vars = bound;
    is = refl;
    long = pairs-long (is_entry_of entries) g bound are ∙ pairs-long (λ k l. list_all (is_one_of clafers k) l) kss g fit;
    situated = record { this_is = λ c h. absurd (none_some c h); variable_is = variable-at entries kss g bound fit are };
  }
    where
      none_some : (c : ℕ) → None ≡ Some c → ⊥
      none_some c h = (cc)
  split (Some c) kss [] entries bound fit are = absurd (true≢false (sym fit))
  split (Some c) kss (l ∷ g) entries [] fit are = absurd (true≢false (sym are))
  split (Some c) kss (l ∷ g) entries (n ∷ vars) fit are =
      let f = and_parts (list_all (is_one_of clafers (c ∷ [])) l) (lists_fit clafers scopes closed inherited kss g) fit in
      let a = and_parts (is_entry_of entries l n) (are_entries entries g vars) are in
      let here = stands-for entries (c ∷ []) l n f.0 a.0 in
      record {
        this = Some n;
        vars = vars;
        is = refl;
        long = pairs-long (is_entry_of entries) g vars a.1 ∙ pairs-long (λ k l. list_all (is_one_of clafers k) l) kss g f.1;
        situated = record {
          this_is = λ d h. (n, refl, subst (λ m. StandsFor clafers entries (m ∷ []) n) (some_same c d h) here);
          variable_is = variable-at entries kss g vars f.1 a.1;
        };
      }

  -- the integer of an expression in integer position, and its interval
  record Counts (t : Tree) (w : Within) (g : List (List ℕ)) (entries : List Entry) (bound : List Node) : Type 0 where
    number : ℤ
    is : meaning entries (as_number (kind clafers t w) (interval clafers scopes t w) (lowered clafers scopes t w g)) bound ≡ values.Integer number
    lies : LiesIn (interval clafers scopes t w) number

  counts : (t : Tree) (w : Within) (g : List (List ℕ)) → Stands w g → is_typed clafers t w ≡ true → fits_number clafers (kind clafers t w) ≡ true → all_narrow clafers scopes t w ≡ true
      → (entries : List Entry) → is_instance clafers scopes entries ≡ true → (bound : List Node) → are_entries entries g bound ≡ true → Counts t w g entries bound
  counts t w g st typed fits narrow entries i bound are =
      let shaped = and_parts (is_ordered entries && is_within clafers scopes entries && is_tree clafers entries) (has_shape clafers scopes entries) i in
      let treed = three (is_ordered entries) (is_within clafers scopes entries) (is_tree clafers entries) shaped.0 in
      let sp = split w.this w.bound g entries bound st.fit are in
      let s : Situation = record { within = w; this = sp.this; bound = sp.vars } in
      let all = all_fit clafers scopes entries i in
      let place : Placed entries g s = record { long = sp.long; here = ap (are_entries entries g) sp.is ∙ are } in
      record {
        number = number clafers entries (value clafers entries t s);
        is = ap (meaning entries (as_number (kind clafers t w) (interval clafers scopes t w) (lowered clafers scopes t w g))) (sym sp.is)
            ∙ count clafers scopes entries all t s g (and_all (is_typed clafers t w) (fits_number clafers (kind clafers t w)) typed fits) (λ h. law clafers scopes entries all t s g h place);
        lies = intervals_hold clafers scopes entries t s closed once treed.0 treed.1 treed.2 shaped.1 sp.situated typed fits narrow;
      }

  sized : (w : ℕ) → 1 ≤ w → w ≤ 64 → (nat_le 1 w && nat_le w 64) ≡ true
  sized w low high = and_all (nat_le 1 w) (nat_le w 64) (at 1 w low) (at w 64 high)
    where
      at : (m n : ℕ) → m ≤ n → nat_le m n ≡ true
      at m n h = grind (arith, common_steps)

  own-narrow : (t : Tree) (w : Within) → all_narrow clafers scopes t w ≡ true → nat_le (width (interval clafers scopes t w)) 62 ≡ true
  own-narrow t w h = (and_parts (is_narrow (numeric clafers scopes t w)) (list_all is_narrow (inside clafers scopes t w)) h).0

  integer-holds : (t : Tree) (w : Within) (g : List (List ℕ)) → Stands w g → is_typed clafers t w ≡ true → fits_number clafers (kind clafers t w) ≡ true → all_narrow clafers scopes t w ≡ true
      → IntHolds (as_number (kind clafers t w) (interval clafers scopes t w) (lowered clafers scopes t w g)) g (width (interval clafers scopes t w))
  integer-holds t w g st typed fits narrow =
      let held = held-narrow (interval clafers scopes t w) (own-narrow t w narrow) in
      record {
        sized = sized (width (interval clafers scopes t w)) held.first (wider held.most);
        value = λ entries i bound are.
            let n = counts t w g st typed fits narrow entries i bound are in
            ap (λ v. holds_integer (width (interval clafers scopes t w)) (integer_in v)) n.is
            ∙ within-held (interval clafers scopes t w) (width (interval clafers scopes t w)) n.number held.held n.lies.least n.lies.most;
      }
    where
      wider : {w : ℕ} → w ≤ 62 → w ≤ 64
      wider h = omega (arith, h)

  opposite-holds : (t : Tree) (w : Within) (g : List (List ℕ)) → Stands w g → is_typed clafers t w ≡ true → fits_number clafers (kind clafers t w) ≡ true → all_narrow clafers scopes t w ≡ true
      → IntHolds (negated (width (negative (interval clafers scopes t w))) (as_number (kind clafers t w) (interval clafers scopes t w) (lowered clafers scopes t w g))) g (width (negative (interval clafers scopes t w)))
  opposite-holds t w g st typed fits narrow =
      let b = interval clafers scopes t w in
      let held = held-opposite b (own-narrow t w narrow) in
      record {
        sized = sized (width (negative b)) held.first (wider held.most);
        value = λ entries i bound are.
            let n = counts t w g st typed fits narrow entries i bound are in
            let o = opposite-within b n.number (own-narrow t w narrow) n.lies.least n.lies.most in
            ap (λ v. holds_integer (width (negative b)) (integer_in v)) (negated-means entries bound (width (negative b)) (as_number (kind clafers t w) b (lowered clafers scopes t w g)))
            ∙ ap (λ v. holds_integer (width (negative b)) (neg_ℤ (integer_in v))) n.is
            ∙ within-held (negative b) (width (negative b)) (neg_ℤ n.number) held.held o.0 o.1;
      }
    where
      wider : {w : ℕ} → w ≤ 63 → w ≤ 64
      wider h = omega (arith, h)

  -- ---- comparisons
  abbrev PairSound : Option Reading → Core → Core → List (List ℕ) → Type 0
  PairSound (Some (ByNodes left right)) a b g =
      (is_set (sort (through clafers scopes left a)) ≡ true) × (is_set (sort (through clafers scopes right b)) ≡ true) × IsSound (through clafers scopes left a) g × IsSound (through clafers scopes right b) g
  PairSound (Some ByValues) a b g = (not (is_test (sort a)) ≡ true) × (not (is_test (sort b)) ≡ true) × IsSound a g × IsSound b g
  PairSound None a b g = ⊥

  same-sound : (r : Option Reading) (a b : Core) (g : List (List ℕ)) → PairSound r a b g → IsSound (same clafers scopes r a b) g
  same-sound None a b g h = absurd h
  same-sound (Some ByValues) a b g h = h
  same-sound (Some (ByNodes left right)) a b g h = h

  part-sound : (r : Option Reading) (a b : Core) (g : List (List ℕ)) → PairSound r a b g → IsSound (part clafers scopes r a b) g
  part-sound None a b g h = absurd h
  part-sound (Some ByValues) a b g h = h
  part-sound (Some (ByNodes left right)) a b g h = h

  pair-sound : (r : Option Reading) (a b : Tree) (w : Within) (g : List (List ℕ)) → Stands w g → reading_of clafers (kind clafers a w) (kind clafers b w) ≡ r
      → fit_reading clafers r (kind clafers a w) (kind clafers b w) ≡ true
      → list_all is_narrow (and_itself (by_values r) (numeric clafers scopes a w) (inside clafers scopes a w) ++ and_itself (by_values r) (numeric clafers scopes b w) (inside clafers scopes b w)) ≡ true
      → (list_all is_narrow (inside clafers scopes a w) ≡ true → (is_integer (kind clafers a w) ≡ true → is_narrow (numeric clafers scopes a w) ≡ true) → IsSound (lowered clafers scopes a w g) g)
      → (list_all is_narrow (inside clafers scopes b w) ≡ true → (is_integer (kind clafers b w) ≡ true → is_narrow (numeric clafers scopes b w) ≡ true) → IsSound (lowered clafers scopes b w g) g)
      → PairSound r (lowered clafers scopes a w g) (lowered clafers scopes b w g) g
  pair-sound None a b w g st e f narrow left right = absurd (true≢false (sym f))
  pair-sound (Some ByValues) a b w g st e f narrow left right =
      let k = kind clafers a w in let l = kind clafers b w in
      let n = split-narrow (numeric clafers scopes a w ∷ inside clafers scopes a w) (numeric clafers scopes b w ∷ inside clafers scopes b w) narrow in
      let p = and_parts (is_narrow (numeric clafers scopes a w)) (list_all is_narrow (inside clafers scopes a w)) n.0 in
      let q = and_parts (is_narrow (numeric clafers scopes b w)) (list_all is_narrow (inside clafers scopes b w)) n.1 in
      let fit = and_parts (fits_number clafers k) (fits_number clafers l) f in (
        number-no_test clafers k (sort (lowered clafers scopes a w g)) fit.0 (sorted_core clafers scopes a w g),
        number-no_test clafers l (sort (lowered clafers scopes b w g)) fit.1 (sorted_core clafers scopes b w g),
        left p.1 (λ h. p.0),
        right q.1 (λ h. q.0),
      )
  pair-sound (Some (ByNodes x y)) a b w g st e f narrow left right =
      let k = kind clafers a w in let l = kind clafers b w in
      let n = split-narrow (inside clafers scopes a w) (inside clafers scopes b w) narrow in
      let sets = by-nodes clafers k l (ap is_by_nodes e) in
      let p = through-sound x (lowered clafers scopes a w g) g (set-of k (sort (lowered clafers scopes a w g)) sets.0 (sorted_core clafers scopes a w g)) (left n.0 (λ h. absurd (nodes-no_integer k sets.0 h))) (through-holds x a w g st) in
      let q = through-sound y (lowered clafers scopes b w g) g (set-of l (sort (lowered clafers scopes b w g)) sets.1 (sorted_core clafers scopes b w g)) (right n.1 (λ h. absurd (nodes-no_integer l sets.1 h))) (through-holds y b w g st) in
      (p.0, q.0, p.1, q.1)

  -- ---- choices
  choice-sound : (kind k l : Option Kind) (z x y : Bounds) (t a b : Core) (g : List (List ℕ)) → fit_choice clafers kind k l ≡ true → (is_nodes kind ≡ true → (fits_nodes k ≡ true) × (fits_nodes l ≡ true))
      → is_test (sort t) ≡ true → IsSound t g → sort_fits k (sort a) ≡ true → sort_fits l (sort b) ≡ true → IsSound a g → IsSound b g
      → (is_integer kind ≡ true → fits_number clafers k ≡ true → IntHolds (as_number k x a) g (width x)) → (is_integer kind ≡ true → fits_number clafers l ≡ true → IntHolds (as_number l y b) g (width y))
      → SetHolds (choice clafers scopes kind z k l x y t a b) g
      → (is_integer kind ≡ true → IntHolds (choice clafers scopes kind z k l x y t a b) g (width z))
      → IsSound (choice clafers scopes kind z k l x y t a b) g
  choice-sound (Some kinds.Truth) k l z x y t a b g f sets test st ka lb sa sb ia ib holds ints =
      let fit = and_parts (fits_truth k) (fits_truth l) f in
      let p = tested-sound k a g fit.0 ka sa in let q = tested-sound l b g fit.1 lb sb in
      (test, p.0, q.0, st, p.1, q.1)
  choice-sound (Some kinds.Integer) k l z x y t a b g f sets test st ka lb sa sb ia ib holds ints =
      let fit = and_parts (fits_number clafers k) (fits_number clafers l) f in
      let p = counted-sound k x a g fit.0 ka sa (ia refl fit.0) in let q = counted-sound l y b g fit.1 lb sb (ib refl fit.1) in
      let i = ints refl in
      (test, p.0, q.0, st, p.1, q.1, record { well_made = i.sized; value = i.value })
  choice-sound (Some (kinds.Nodes ks)) k l z x y t a b g f sets test st ka lb sa sb ia ib holds ints =
      let both = sets refl in
      (test, set-of k (sort a) both.0 ka, set-of l (sort b) both.1 lb, st, sa, sb, to-holds (choice clafers scopes (Some (kinds.Nodes ks)) z k l x y t a b) g refl holds)
  choice-sound None k l z x y t a b g f sets test st ka lb sa sb ia ib holds ints = absurd (true≢false (sym f))
  choice-sound (Some (kinds.Numbers ks)) k l z x y t a b g f sets test st ka lb sa sb ia ib holds ints = absurd (true≢false (sym f))

  -- ---- quantifiers
  nothing-there : (xs : List Entry) → list_all (λ (n : Node). false) (nodes_of (filter (λ x. has [] x.node.clafer) xs)) ≡ true
  nothing-there [] = refl
  nothing-there (x ∷ xs) = nothing-there xs

  never-sound : (g : List (List ℕ)) → IsSound never g
  never-sound g = (omega arith, refl, record { well_made = refl; value = λ entries i bound are. nothing-there entries })

  quant-sound : (v : Word) (disj : Bool) (n : ℕ) (over body : Core) (g : List (List ℕ)) → is_set (sort over) ≡ true → is_test (sort body) ≡ true → IsSound over g
      → IsSound body (g ++ replicate n (clafers_in (sort over))) → IsSound (quant v disj n over body) g
  quant-sound word.All disj n over body g set test s b = (set, test, s, b)
  quant-sound word.Some disj n over body g set test s b = (set, test, s, b)
  quant-sound word.No disj n over body g set test s b = (refl, (set, test, s, b))
  quant-sound word.One disj n over body g set test s b = (set, test, s, b)
  quant-sound word.Lone disj n over body g set test s b = (set, test, s, b)
  quant-sound _ disj n over body g set test s b = never-sound g

  pub nodes-in : (k : Option Kind) (ls : List ℕ) → fits_nodes k ≡ true → in_kind clafers scopes closed inherited k ls ≡ true → list_all (is_one_of clafers (clafers_of k)) ls ≡ true
  nodes-in (Some (kinds.Nodes ks)) ls f h = h
  nodes-in None ls f h = absurd (true≢false (sym f))
  nodes-in (Some kinds.Truth) ls f h = absurd (true≢false (sym f))
  nodes-in (Some kinds.Integer) ls f h = absurd (true≢false (sym f))
  nodes-in (Some (kinds.Numbers ks)) ls f h = absurd (true≢false (sym f))

  pub within-stands : (over : Tree) (w : Within) (g : List (List ℕ)) (n : ℕ) → Stands w g → fits_nodes (kind clafers over w) ≡ true
      → Stands (bind_kinds (clafers_of (kind clafers over w)) n w) (g ++ replicate n (clafers_in (sort (lowered clafers scopes over w g))))
  within-stands over w g n st f =
      let ks = clafers_of (kind clafers over w) in
      let ls = clafers_in (sort (lowered clafers scopes over w g)) in
      let test : List ℕ → List ℕ → Bool = λ k l. list_all (is_one_of clafers k) l in
      record {
        fit = ap (λ kss. each_pair test kss (g ++ replicate n ls)) (sym (append_assoc (option_to_list (option_map (λ c. c ∷ []) w.this)) w.bound (replicate n ks)))
            ∙ pairs-append test (kinds_in w) g (replicate n ks) (replicate n ls) st.fit
            (copies-fit test n ks ls (nodes-in (kind clafers over w) ls f (in_kinds clafers scopes closed inherited over w g st.fit)));
        all_made = list_all-append (is_made clafers scopes) g (replicate n ls)
            ∙ and_all (list_all (is_made clafers scopes) g) (list_all (is_made clafers scopes) (replicate n ls)) st.all_made (copies-pass (is_made clafers scopes) n ls (made clafers scopes over w g st.all_made));
      }

  -- ---- the law
  abbrev Own : Tree → Within → Type 0
  Own t w = is_integer (kind clafers t w) ≡ true → is_narrow (numeric clafers scopes t w) ≡ true

  abbrev Narrow : Tree → Within → Type 0
  Narrow t w = list_all is_narrow (inside clafers scopes t w) ≡ true

  -- a part in truth position, with its soundness where its integers are narrow
  pub test-part : (t : Tree) (w : Within) (g : List (List ℕ)) → fits_truth (kind clafers t w) ≡ true → (Own t w → IsSound (lowered clafers scopes t w g) g)
      → (is_test (sort (as_truth (kind clafers t w) (lowered clafers scopes t w g))) ≡ true) × IsSound (as_truth (kind clafers t w) (lowered clafers scopes t w g)) g
  test-part t w g f s =
      tested-sound (kind clafers t w) (lowered clafers scopes t w g) g f (sorted_core clafers scopes t w g) (s (λ h. absurd (truth-no_integer (kind clafers t w) f h)))

  -- a part in integer position
  pub number-part : (t : Tree) (w : Within) (g : List (List ℕ)) → Stands w g → is_typed clafers t w ≡ true → fits_number clafers (kind clafers t w) ≡ true → all_narrow clafers scopes t w ≡ true
      → (Narrow t w → Own t w → IsSound (lowered clafers scopes t w g) g)
      → (is_number (sort (as_number (kind clafers t w) (interval clafers scopes t w) (lowered clafers scopes t w g))) ≡ true)
      × IsSound (as_number (kind clafers t w) (interval clafers scopes t w) (lowered clafers scopes t w g)) g
  number-part t w g st typed f narrow s =
      let n = and_parts (is_narrow (numeric clafers scopes t w)) (list_all is_narrow (inside clafers scopes t w)) narrow in
      counted-sound (kind clafers t w) (interval clafers scopes t w) (lowered clafers scopes t w g) g f (sorted_core clafers scopes t w g) (s n.1 (λ h. n.0)) (integer-holds t w g st typed f narrow)

  -- a set of nodes
  set-part : (t : Tree) (w : Within) (g : List (List ℕ)) → fits_nodes (kind clafers t w) ≡ true → (Own t w → IsSound (lowered clafers scopes t w g) g)
      → (is_set (sort (lowered clafers scopes t w g)) ≡ true) × IsSound (lowered clafers scopes t w g) g
  set-part t w g f s =
      (set-of (kind clafers t w) (sort (lowered clafers scopes t w g)) f (sorted_core clafers scopes t w g), s (λ h. absurd (nodes-no_integer (kind clafers t w) f h)))

  abbrev as_integer : Tree → Within → List (List ℕ) → Core
  as_integer t w g = as_number (kind clafers t w) (interval clafers scopes t w) (lowered clafers scopes t w g)

  pub sound : (t : Tree) (w : Within) (g : List (List ℕ)) → Stands w g → is_typed clafers t w ≡ true → Narrow t w → Own t w → IsSound (lowered clafers scopes t w g) g
  unfolding kind_interval
  sound (e.Literal at n) w g st f narrow own =
      let i = integer-holds (e.Literal at n) w g st f refl (and_all (is_narrow (numeric clafers scopes (e.Literal at n) w)) true (own refl) refl) in record { well_made = i.sized; value = i.value }
  sound (e.This at) w g st f narrow own = (this-below w.this w.bound g st.fit f, to-holds (lowered clafers scopes (e.This at) w g) g refl (set-holds (e.This at) w g st))
    where
      this-below : (this : Option ℕ) (kss g : List (List ℕ)) → lists_fit clafers scopes closed inherited (option_to_list (option_map (λ c. c ∷ []) this) ++ kss) g ≡ true
          → is_some (option_map (λ c. kinds.Nodes (c ∷ [])) this) ≡ true → length kss < length g
      this-below None kss g fit h = absurd (true≢false (sym h))
      this-below (Some c) kss g fit h = omega (arith, pairs-long (λ k l. list_all (is_one_of clafers k) l) ((c ∷ []) ∷ kss) g fit)
  sound (e.Variable at i) w g st f narrow own =
      (variable-below w.this w.bound g st.fit (from_end w.bound i) refl f, to-holds (lowered clafers scopes (e.Variable at i) w g) g refl (set-holds (e.Variable at i) w g st))
    where
      there : (o : Option (List ℕ)) → is_some (option_map (λ ks. kinds.Nodes ks) o) ≡ true → is_some o ≡ true
      there None h = h
      there (Some ks) h = refl

      variable-below : (this : Option ℕ) (kss g : List (List ℕ)) → lists_fit clafers scopes closed inherited (option_to_list (option_map (λ c. c ∷ []) this) ++ kss) g ≡ true
          → (o : Option (List ℕ)) → from_end kss i ≡ o → is_some (option_map (λ ks. kinds.Nodes ks) o) ≡ true → i < length g
      variable-below None kss g fit o e h =
          omega (arith, pairs-long (λ k l. list_all (is_one_of clafers k) l) kss g fit, bound_below kss i o e (there o h))
      variable-below (Some c) kss g fit o e h =
          omega (arith, pairs-long (λ k l. list_all (is_one_of clafers k) l) ((c ∷ []) ∷ kss) g fit, bound_below kss i o e (there o h))
  sound (e.Clafer at k) w g st f narrow own = to-holds (lowered clafers scopes (e.Clafer at k) w g) g refl (set-holds (e.Clafer at k) w g st)
  sound (e.Name _ _) w g st f narrow own = absurd (true≢false (sym f))
  sound (e.Join _ _ _) w g st f narrow own = absurd (true≢false (sym f))
  sound (e.Step at of into follow) w g st f narrow own =
      let h = and_parts (is_typed clafers of w) (fits_nodes (kind clafers of w)) f in
      let a = set-part of w g h.1 (λ o. sound of w g st h.0 narrow o) in
      let p = through-sound follow (lowered clafers scopes of w g) g a.0 a.1 (through-holds follow of w g st) in
      (p.0, p.1, to-holds (lowered clafers scopes (e.Step at of into follow) w g) g refl (set-holds (e.Step at of into follow) w g st))
  sound (e.Parent at a) w g st f narrow own =
      let h = three (is_typed clafers a w) (fits_nodes (kind clafers a w)) (is_some (kind clafers (e.Parent at a) w)) f in
      let p = set-part a w g h.1 (λ o. sound a w g st h.0 narrow o) in
      (p.0, p.1, to-holds (lowered clafers scopes (e.Parent at a) w g) g refl (set-holds (e.Parent at a) w g st))
  sound (e.Dref at a) w g st f narrow own =
      let h = three (is_typed clafers a w) (fits_nodes (kind clafers a w)) (is_some (kind clafers (e.Dref at a) w)) f in
      let p = set-part a w g h.1 (λ o. sound a w g st h.0 narrow o) in
      dref-sound (kind clafers (e.Dref at a) w) (lowered clafers scopes a w g) g p.0 p.1 (through-holds true a w g st)
  sound (e.Union at a b) w g st f narrow own =
      let h = four (is_typed clafers a w) (is_typed clafers b w) (fits_nodes (kind clafers a w)) (fits_nodes (kind clafers b w)) f in
      let n = split-narrow (inside clafers scopes a w) (inside clafers scopes b w) narrow in
      let p = set-part a w g h.2 (λ o. sound a w g st h.0 n.0 o) in let q = set-part b w g h.3 (λ o. sound b w g st h.1 n.1 o) in
      (p.0, q.0, p.1, q.1, to-holds (lowered clafers scopes (e.Union at a b) w g) g refl (set-holds (e.Union at a b) w g st))
  sound (e.Minus at a b) w g st f narrow own =
      let h = three (is_typed clafers a w) (is_typed clafers b w) (fit_together clafers (kind clafers a w) (kind clafers b w)) f in
      let s = together-nodes clafers (kind clafers a w) (kind clafers b w) h.2 in
      let n = split-narrow (inside clafers scopes a w) (inside clafers scopes b w) narrow in
      let p = set-part a w g s.0 (λ o. sound a w g st h.0 n.0 o) in let q = set-part b w g s.1 (λ o. sound b w g st h.1 n.1 o) in
      (p.0, q.0, p.1, q.1, to-holds (lowered clafers scopes (e.Minus at a b) w g) g refl (set-holds (e.Minus at a b) w g st))
  sound (e.Meet at a b) w g st f narrow own =
      let h = three (is_typed clafers a w) (is_typed clafers b w) (fit_together clafers (kind clafers a w) (kind clafers b w)) f in
      let s = together-nodes clafers (kind clafers a w) (kind clafers b w) h.2 in
      let n = split-narrow (inside clafers scopes a w) (inside clafers scopes b w) narrow in
      let p = set-part a w g s.0 (λ o. sound a w g st h.0 n.0 o) in let q = set-part b w g s.1 (λ o. sound b w g st h.1 n.1 o) in
      (p.0, q.0, p.1, q.1, to-holds (lowered clafers scopes (e.Meet at a b) w g) g refl (set-holds (e.Meet at a b) w g st))
  sound (e.If at t a b) w g st f narrow own =
      let k = kind clafers a w in let l = kind clafers b w in
      let h = and_parts (is_typed clafers t w && fits_truth (kind clafers t w) && is_typed clafers a w && is_typed clafers b w) (fit_choice clafers (kind_of_choice k l) k l) f in
      let j = four (is_typed clafers t w) (fits_truth (kind clafers t w)) (is_typed clafers a w) (is_typed clafers b w) h.0 in
      let last = split-narrow (inside clafers scopes t w ++ and_itself (is_integer (kind_of_choice k l)) (numeric clafers scopes a w) (inside clafers scopes a w)) (and_itself (is_integer (kind_of_choice k l)) (numeric clafers scopes b w) (inside clafers scopes b w)) narrow in
      let first = split-narrow (inside clafers scopes t w) (and_itself (is_integer (kind_of_choice k l)) (numeric clafers scopes a w) (inside clafers scopes a w)) last.0 in
      let na = itself (is_integer (kind_of_choice k l)) (numeric clafers scopes a w) (inside clafers scopes a w) first.1 in
      let nb = itself (is_integer (kind_of_choice k l)) (numeric clafers scopes b w) (inside clafers scopes b w) last.1 in
      let test = test-part t w g j.1 (λ o. sound t w g st j.0 first.0 o) in
      choice-sound (kind_of_choice k l) k l (interval clafers scopes (e.If at t a b) w) (interval clafers scopes a w) (interval clafers scopes b w) (as_truth (kind clafers t w) (lowered clafers scopes t w g))
      (lowered clafers scopes a w g) (lowered clafers scopes b w g) g h.1 (nodes-choice k l) test.0 test.1 (sorted_core clafers scopes a w g) (sorted_core clafers scopes b w g)
      (sound a w g st j.2 na.0 (λ q. na.1 (number-left clafers k l h.1 q))) (sound b w g st j.3 nb.0 (λ q. nb.1 (number-right clafers k l h.1 q)))
      (λ q fits. integer-holds a w g st j.2 fits (and_all (is_narrow (numeric clafers scopes a w)) (list_all is_narrow (inside clafers scopes a w)) (na.1 q) na.0))
      (λ q fits. integer-holds b w g st j.3 fits (and_all (is_narrow (numeric clafers scopes b w)) (list_all is_narrow (inside clafers scopes b w)) (nb.1 q) nb.0))
      (set-holds (e.If at t a b) w g st)
      (λ q. whole-number (kind_of_choice k l) q (λ fits. integer-holds (e.If at t a b) w g st f fits (and_all (is_narrow (numeric clafers scopes (e.If at t a b) w)) (list_all is_narrow (inside clafers scopes (e.If at t a b) w)) (own q) narrow)))
    where
      -- an integer stands as it is
      whole-number : (k : Option Kind) → is_integer k ≡ true
          → (fits_number clafers k ≡ true → IntHolds (as_number k (interval clafers scopes (e.If at t a b) w) (lowered clafers scopes (e.If at t a b) w g)) g (width (interval clafers scopes (e.If at t a b) w)))
          → IntHolds (lowered clafers scopes (e.If at t a b) w g) g (width (interval clafers scopes (e.If at t a b) w))
      whole-number (Some kinds.Integer) h i = i refl
      whole-number None h i = absurd (true≢false (sym h))
      whole-number (Some kinds.Truth) h i = absurd (true≢false (sym h))
      whole-number (Some (kinds.Nodes ks)) h i = absurd (true≢false (sym h))
      whole-number (Some (kinds.Numbers ks)) h i = absurd (true≢false (sym h))
  sound (e.Not _ a) w g st f narrow own =
      let h = and_parts (is_typed clafers a w) (fits_truth (kind clafers a w)) f in test-part a w g h.1 (λ o. sound a w g st h.0 narrow o)
  sound (e.And _ a b) w g st f narrow own =
      let h = four (is_typed clafers a w) (is_typed clafers b w) (fits_truth (kind clafers a w)) (fits_truth (kind clafers b w)) f in
      let n = split-narrow (inside clafers scopes a w) (inside clafers scopes b w) narrow in
      let p = test-part a w g h.2 (λ o. sound a w g st h.0 n.0 o) in let q = test-part b w g h.3 (λ o. sound b w g st h.1 n.1 o) in (p.0, q.0, p.1, q.1)
  sound (e.Or _ a b) w g st f narrow own =
      let h = four (is_typed clafers a w) (is_typed clafers b w) (fits_truth (kind clafers a w)) (fits_truth (kind clafers b w)) f in
      let n = split-narrow (inside clafers scopes a w) (inside clafers scopes b w) narrow in
      let p = test-part a w g h.2 (λ o. sound a w g st h.0 n.0 o) in let q = test-part b w g h.3 (λ o. sound b w g st h.1 n.1 o) in (p.0, q.0, p.1, q.1)
  sound (e.Xor _ a b) w g st f narrow own =
      let h = four (is_typed clafers a w) (is_typed clafers b w) (fits_truth (kind clafers a w)) (fits_truth (kind clafers b w)) f in
      let n = split-narrow (inside clafers scopes a w) (inside clafers scopes b w) narrow in
      let p = test-part a w g h.2 (λ o. sound a w g st h.0 n.0 o) in let q = test-part b w g h.3 (λ o. sound b w g st h.1 n.1 o) in (p.0, q.0, p.1, q.1)
  sound (e.Implies _ a b) w g st f narrow own =
      let h = four (is_typed clafers a w) (is_typed clafers b w) (fits_truth (kind clafers a w)) (fits_truth (kind clafers b w)) f in
      let n = split-narrow (inside clafers scopes a w) (inside clafers scopes b w) narrow in
      let p = test-part a w g h.2 (λ o. sound a w g st h.0 n.0 o) in let q = test-part b w g h.3 (λ o. sound b w g st h.1 n.1 o) in (refl, q.0, (p.0, p.1), q.1)
  sound (e.Iff _ a b) w g st f narrow own =
      let h = four (is_typed clafers a w) (is_typed clafers b w) (fits_truth (kind clafers a w)) (fits_truth (kind clafers b w)) f in
      let n = split-narrow (inside clafers scopes a w) (inside clafers scopes b w) narrow in
      let p = test-part a w g h.2 (λ o. sound a w g st h.0 n.0 o) in let q = test-part b w g h.3 (λ o. sound b w g st h.1 n.1 o) in (refl, (p.0, q.0, p.1, q.1))
  sound (e.Card at a) w g st f narrow own =
      let h = and_parts (is_typed clafers a w) (fits_nodes (kind clafers a w)) f in
      let p = set-part a w g h.1 (λ o. sound a w g st h.0 narrow o) in
      let i = integer-holds (e.Card at a) w g st f refl (and_all (is_narrow (numeric clafers scopes (e.Card at a) w)) (list_all is_narrow (inside clafers scopes a w)) (own refl) narrow) in
      (p.0, p.1, record { well_made = i.sized; value = i.value })
  sound (e.Sum at a) w g st f narrow own =
      let h = and_parts (is_typed clafers a w) (fits_sum clafers (kind clafers a w)) f in
      let p = set-part a w g (sum-nodes clafers (kind clafers a w) h.1) (λ o. sound a w g st h.0 narrow o) in
      let i = integer-holds (e.Sum at a) w g st f refl (and_all (is_narrow (numeric clafers scopes (e.Sum at a) w)) (list_all is_narrow (inside clafers scopes a w)) (own refl) narrow) in
      (p.0, p.1, record { well_made = i.sized; value = i.value })
  sound (e.Neg at a) w g st f narrow own =
      let h = and_parts (is_typed clafers a w) (fits_number clafers (kind clafers a w)) f in
      let p = number-part a w g st h.0 h.1 narrow (λ n o. sound a w g st h.0 n o) in
      let i = integer-holds (e.Neg at a) w g st f refl (and_all (is_narrow (numeric clafers scopes (e.Neg at a) w)) (list_all is_narrow (inside clafers scopes (e.Neg at a) w)) (own refl) narrow) in
      negated-sound clafers scopes (width (interval clafers scopes (e.Neg at a) w)) (as_integer a w g) g p.0 p.1 i
  sound (e.Add at a b) w g st f narrow own =
      let h = and_parts (is_typed clafers a w && fits_number clafers (kind clafers a w)) (is_typed clafers b w && fits_number clafers (kind clafers b w)) f in
      let x = and_parts (is_typed clafers a w) (fits_number clafers (kind clafers a w)) h.0 in let y = and_parts (is_typed clafers b w) (fits_number clafers (kind clafers b w)) h.1 in
      let n = split-narrow (numeric clafers scopes a w ∷ inside clafers scopes a w) (numeric clafers scopes b w ∷ inside clafers scopes b w) narrow in
      let p = number-part a w g st x.0 x.1 n.0 (λ m o. sound a w g st x.0 m o) in let q = number-part b w g st y.0 y.1 n.1 (λ m o. sound b w g st y.0 m o) in
      let i = integer-holds (e.Add at a b) w g st f refl (and_all (is_narrow (numeric clafers scopes (e.Add at a b) w)) (list_all is_narrow (inside clafers scopes (e.Add at a b) w)) (own refl) narrow) in
      added-sound clafers scopes (width (interval clafers scopes (e.Add at a b) w)) (as_integer a w g) (as_integer b w g) g p.0 q.0 p.1 q.1 i
  sound (e.Sub at a b) w g st f narrow own =
      let h = and_parts (is_typed clafers a w && fits_number clafers (kind clafers a w)) (is_typed clafers b w && fits_number clafers (kind clafers b w)) f in
      let x = and_parts (is_typed clafers a w) (fits_number clafers (kind clafers a w)) h.0 in let y = and_parts (is_typed clafers b w) (fits_number clafers (kind clafers b w)) h.1 in
      let n = split-narrow (numeric clafers scopes a w ∷ inside clafers scopes a w) (numeric clafers scopes b w ∷ inside clafers scopes b w) narrow in
      let p = number-part a w g st x.0 x.1 n.0 (λ m o. sound a w g st x.0 m o) in let q = number-part b w g st y.0 y.1 n.1 (λ m o. sound b w g st y.0 m o) in
      let j = opposite-holds b w g st y.0 y.1 n.1 in
      let i = integer-holds (e.Sub at a b) w g st f refl (and_all (is_narrow (numeric clafers scopes (e.Sub at a b) w)) (list_all is_narrow (inside clafers scopes (e.Sub at a b) w)) (own refl) narrow) in
      let bits = width (negative (interval clafers scopes b w)) in
      added-sound clafers scopes (width (interval clafers scopes (e.Sub at a b) w)) (as_integer a w g) (negated bits (as_integer b w g)) g p.0 (ap is_number (negated-sort bits (as_integer b w g))) p.1
      (negated-sound clafers scopes bits (as_integer b w g) g q.0 q.1 j) i
  sound (e.Mul at a b) w g st f narrow own =
      let h = and_parts (is_typed clafers a w && fits_number clafers (kind clafers a w)) (is_typed clafers b w && fits_number clafers (kind clafers b w)) f in
      let x = and_parts (is_typed clafers a w) (fits_number clafers (kind clafers a w)) h.0 in let y = and_parts (is_typed clafers b w) (fits_number clafers (kind clafers b w)) h.1 in
      let n = split-narrow (numeric clafers scopes a w ∷ inside clafers scopes a w) (numeric clafers scopes b w ∷ inside clafers scopes b w) narrow in
      let p = number-part a w g st x.0 x.1 n.0 (λ m o. sound a w g st x.0 m o) in let q = number-part b w g st y.0 y.1 n.1 (λ m o. sound b w g st y.0 m o) in
      let i = integer-holds (e.Mul at a b) w g st f refl (and_all (is_narrow (numeric clafers scopes (e.Mul at a b) w)) (list_all is_narrow (inside clafers scopes (e.Mul at a b) w)) (own refl) narrow) in
      multiplied-sound clafers scopes (width (interval clafers scopes (e.Mul at a b) w)) (as_integer a w g) (as_integer b w g) g p.0 q.0 p.1 q.1 i
  sound (e.Less _ a b) w g st f narrow own =
      let h = and_parts (is_typed clafers a w && fits_number clafers (kind clafers a w)) (is_typed clafers b w && fits_number clafers (kind clafers b w)) f in
      let x = and_parts (is_typed clafers a w) (fits_number clafers (kind clafers a w)) h.0 in let y = and_parts (is_typed clafers b w) (fits_number clafers (kind clafers b w)) h.1 in
      let n = split-narrow (numeric clafers scopes a w ∷ inside clafers scopes a w) (numeric clafers scopes b w ∷ inside clafers scopes b w) narrow in
      let p = number-part a w g st x.0 x.1 n.0 (λ m o. sound a w g st x.0 m o) in let q = number-part b w g st y.0 y.1 n.1 (λ m o. sound b w g st y.0 m o) in (p.0, q.0, p.1, q.1)
  sound (e.LessEqual _ a b) w g st f narrow own =
      let h = and_parts (is_typed clafers a w && fits_number clafers (kind clafers a w)) (is_typed clafers b w && fits_number clafers (kind clafers b w)) f in
      let x = and_parts (is_typed clafers a w) (fits_number clafers (kind clafers a w)) h.0 in let y = and_parts (is_typed clafers b w) (fits_number clafers (kind clafers b w)) h.1 in
      let n = split-narrow (numeric clafers scopes a w ∷ inside clafers scopes a w) (numeric clafers scopes b w ∷ inside clafers scopes b w) narrow in
      let p = number-part a w g st x.0 x.1 n.0 (λ m o. sound a w g st x.0 m o) in let q = number-part b w g st y.0 y.1 n.1 (λ m o. sound b w g st y.0 m o) in (refl, (q.0, p.0, q.1, p.1))
  sound (e.Greater _ a b) w g st f narrow own =
      let h = and_parts (is_typed clafers a w && fits_number clafers (kind clafers a w)) (is_typed clafers b w && fits_number clafers (kind clafers b w)) f in
      let x = and_parts (is_typed clafers a w) (fits_number clafers (kind clafers a w)) h.0 in let y = and_parts (is_typed clafers b w) (fits_number clafers (kind clafers b w)) h.1 in
      let n = split-narrow (numeric clafers scopes a w ∷ inside clafers scopes a w) (numeric clafers scopes b w ∷ inside clafers scopes b w) narrow in
      let p = number-part a w g st x.0 x.1 n.0 (λ m o. sound a w g st x.0 m o) in let q = number-part b w g st y.0 y.1 n.1 (λ m o. sound b w g st y.0 m o) in (q.0, p.0, q.1, p.1)
  sound (e.GreaterEqual _ a b) w g st f narrow own =
      let h = and_parts (is_typed clafers a w && fits_number clafers (kind clafers a w)) (is_typed clafers b w && fits_number clafers (kind clafers b w)) f in
      let x = and_parts (is_typed clafers a w) (fits_number clafers (kind clafers a w)) h.0 in let y = and_parts (is_typed clafers b w) (fits_number clafers (kind clafers b w)) h.1 in
      let n = split-narrow (numeric clafers scopes a w ∷ inside clafers scopes a w) (numeric clafers scopes b w ∷ inside clafers scopes b w) narrow in
      let p = number-part a w g st x.0 x.1 n.0 (λ m o. sound a w g st x.0 m o) in let q = number-part b w g st y.0 y.1 n.1 (λ m o. sound b w g st y.0 m o) in (refl, (p.0, q.0, p.1, q.1))
  sound (e.Equal _ a b) w g st f narrow own =
      let k = kind clafers a w in let l = kind clafers b w in
      let h = three (is_typed clafers a w) (is_typed clafers b w) (fit_sides clafers k l) f in
      same-sound (reading_of clafers k l) (lowered clafers scopes a w g) (lowered clafers scopes b w g) g
      (pair-sound (reading_of clafers k l) a b w g st refl h.2 narrow (λ n o. sound a w g st h.0 n o) (λ n o. sound b w g st h.1 n o))
  sound (e.In _ a b) w g st f narrow own =
      let k = kind clafers a w in let l = kind clafers b w in
      let h = three (is_typed clafers a w) (is_typed clafers b w) (fit_sides clafers k l) f in
      part-sound (reading_of clafers k l) (lowered clafers scopes a w g) (lowered clafers scopes b w g) g
      (pair-sound (reading_of clafers k l) a b w g st refl h.2 narrow (λ n o. sound a w g st h.0 n o) (λ n o. sound b w g st h.1 n o))
  sound (e.Some _ a) w g st f narrow own =
      let h = and_parts (is_typed clafers a w) (fits_nodes (kind clafers a w)) f in let p = set-part a w g h.1 (λ o. sound a w g st h.0 narrow o) in (omega arith, p.0, p.1)
  sound (e.No _ a) w g st f narrow own =
      let h = and_parts (is_typed clafers a w) (fits_nodes (kind clafers a w)) f in let p = set-part a w g h.1 (λ o. sound a w g st h.0 narrow o) in (omega arith, p.0, p.1)
  sound (e.One _ a) w g st f narrow own =
      let h = and_parts (is_typed clafers a w) (fits_nodes (kind clafers a w)) f in let p = set-part a w g h.1 (λ o. sound a w g st h.0 narrow o) in (omega arith, p.0, p.1)
  sound (e.Lone _ a) w g st f narrow own =
      let h = and_parts (is_typed clafers a w) (fits_nodes (kind clafers a w)) f in let p = set-part a w g h.1 (λ o. sound a w g st h.0 narrow o) in (omega arith, p.0, p.1)
  sound (e.Quant _ v disj names over body) w g st f narrow own =
      let inner = bind_kinds (clafers_of (kind clafers over w)) (length names) w in
      let lists = g ++ replicate (length names) (clafers_in (sort (lowered clafers scopes over w g))) in
      let h = four (is_typed clafers over w) (fits_nodes (kind clafers over w)) (is_typed clafers body inner) (fits_truth (kind clafers body inner)) f in
      let n = split-narrow (inside clafers scopes over w) (inside clafers scopes body inner) narrow in
      let p = set-part over w g h.1 (λ o. sound over w g st h.0 n.0 o) in
      let q = test-part body inner lists h.3 (λ o. sound body inner lists (within-stands over w g (length names) st h.1) h.2 n.1 o) in
      quant-sound v disj (length names) (lowered clafers scopes over w g) (as_truth (kind clafers body inner) (lowered clafers scopes body inner lists)) g p.0 q.0 p.1 q.1
