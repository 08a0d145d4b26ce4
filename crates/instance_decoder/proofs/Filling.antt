-- One slot, edge or integer more in the bits of an instance.
use Rattle.std.proofs.Common.{◌≡◌, ℕ, zero, suc, ◌+◌, ◌<◌, ◌≤◌, Bool, true, false, cond, ◌&&◌, ◌||◌, List, [], ◌∷◌, ◌++◌, length, map, take, drop, get_or, Option, Some, None, refl, sym, ap, ◌∙◌, subst, arith, append_assoc, append-nil}
use Rattle.std.specs.Prelude.{◌==◌, slice_get, nat_lt, is_some, ℤ, int_le, IfSome}
use Rattle.std.specs.Option.{option_map, option_map_or, option_and_then}
use Rattle.std.specs.List.{All, list_all, flat_map}
use Rattle.std.proofs.lemmas.Bool.{true≢false}
use Rattle.std.proofs.lemmas.Bool.Decides.{nat_tests}
use Rattle.std.proofs.lemmas.Grind.{flat_map-append}
use Rattle.std.proofs.lemmas.Option.{get_or_from_slice_get, slice_get-get_or, slice_get_within, slice_get-map}
use Rattle.std.proofs.lemmas.List.{length-map, map-append, take_more, take_all}
use Rattle.clf_tree.specs.declared.instance.Node.{Node}
use Rattle.clf_tree.specs.declared.instance.Entry.{Entry}
use Rattle.clf_tree.specs.declared.model.Clafer.{Clafer}
use Rattle.clf_tree.specs.declared.scopes.Scopes.{Scopes}
use Rattle.clf_tree.specs.Lists.{each_pair}
use Rattle.clf_tree.specs.Nodes.{same_node, entry_of, has_node, nodes_of, parent_in, is_in_range, fits_range}
use Rattle.clf_tree.specs.Widths.{width}
use Rattle.integer_bits.specs.Numbers.{FitsBits}
use Rattle.set_bits.specs.declared.layout.Edge.{Edge}
use Rattle.set_bits.specs.declared.layout.SlotBits.{SlotBits}
use Rattle.set_bits.specs.declared.layout.Layout.{Layout}
use Rattle.set_bits.specs.Fitting.{Fits, slot}
use Rattle.set_bits.specs.Showing.{is_tied, ties, target_in, is_value, integer_target_in, target_integer}
use Rattle.shown_instance.specs.Packed.{IsPacked, aligned, is_between}
use Rattle.shown_instance.proofs.Spelled.{entry_passes, ranged, from_le}
use Rattle.instance_decoder.specs.declared.packing.Tie.{Tie}
use Rattle.instance_decoder.specs.declared.packing.Tie.TheVariants.{Parent, Target as Referred}
use Rattle.instance_decoder.specs.Packing.{next_of, taken, end_at, end_in, integer_in_table, Adds, AddsNumbers}
use Rattle.instance_decoder.proofs.Widths.{width_holds}
use mir.Syntax.{w64}
use mir.Val.{SFits}

-- ---- the entries of the slots

drop_at : {X : Type 0} (xs : List X) (i : ℕ) (x : X) → slice_get xs i ≡ Some x → drop i xs ≡ x ∷ drop (i + 1) xs
drop_at [] i x at = absurd (true≢false (sym (ap is_some at)))
drop_at (y ∷ ys) zero x at = ap (λ o. option_map_or (λ z. z) o y ∷ ys) at
drop_at (y ∷ ys) (suc i) x at = let e : suc i + 1 ≡ suc (i + 1) = omega arith in rw e (drop_at ys i x at)

drop_none : {X : Type 0} (xs : List X) (i : ℕ) → slice_get xs i ≡ None → drop i xs ≡ []
drop_none [] zero e = refl
drop_none [] (suc i) e = refl
drop_none (x ∷ xs) zero e = absurd (true≢false (ap is_some e))
drop_none (x ∷ xs) (suc i) e = drop_none xs i e

pub aligned_step : (slots : List Node) (es : List Entry) (i k : ℕ) (n : Node) (o : Option Entry) → slice_get slots i ≡ Some n → o ≡ next_of es k n → aligned (drop i slots) (drop k es) ≡ o ∷ aligned (drop (i + 1) slots) (drop (k + taken o) es)
aligned_step slots es i k n o at e = ap (λ ns. aligned ns (drop k es)) (drop_at slots i n at) ∙ by (slice_get es k) refl
  where
    same : k + 0 ≡ k
    same = omega arith

    by : (x : Option Entry) → slice_get es k ≡ x → aligned (n ∷ drop (i + 1) slots) (drop k es) ≡ o ∷ aligned (drop (i + 1) slots) (drop (k + taken o) es)
    by None s =
        let none : o ≡ None = e ∙ ap (option_and_then (λ (y : Entry). cond (same_node n y.node) (Some y) None)) s in
        let gone : drop k es ≡ [] = drop_none es k s in
        rw (none, same, gone) refl
    by (Some y) s = split (same_node n y.node) refl
      where
        here : o ≡ cond (same_node n y.node) (Some y) None
        here = e ∙ ap (option_and_then (λ (z : Entry). cond (same_node n z.node) (Some z) None)) s

        split : (b : Bool) → same_node n y.node ≡ b → aligned (n ∷ drop (i + 1) slots) (drop k es) ≡ o ∷ aligned (drop (i + 1) slots) (drop (k + taken o) es)
        split true t =
            let found : o ≡ Some y = here ∙ ap (λ b. cond b (Some y) None) t in
            ap (aligned (n ∷ drop (i + 1) slots)) (drop_at es k y s) ∙ ap (λ b. cond b (Some y ∷ aligned (drop (i + 1) slots) (drop (k + 1) es)) (None ∷ aligned (drop (i + 1) slots) (y ∷ drop (k + 1) es))) t
            ∙ ap (λ p. p ∷ aligned (drop (i + 1) slots) (drop (k + taken p) es)) (sym found)
        split false t =
            let none : o ≡ None = here ∙ ap (λ b. cond b (Some y) None) t in
            ap (aligned (n ∷ drop (i + 1) slots)) (drop_at es k y s) ∙ ap (λ b. cond b (Some y ∷ aligned (drop (i + 1) slots) (drop (k + 1) es)) (None ∷ aligned (drop (i + 1) slots) (y ∷ drop (k + 1) es))) t
            ∙ ap (λ zs. None ∷ aligned (drop (i + 1) slots) zs) (sym (drop_at es k y s)) ∙ ap (λ j. None ∷ aligned (drop (i + 1) slots) (drop j es)) (sym same)
            ∙ ap (λ p. p ∷ aligned (drop (i + 1) slots) (drop (k + taken p) es)) (sym none)

pub aligned_more : (slots : List Node) (es : List Entry) (i k next : ℕ) (n : Node) (o : Option Entry) (table new : List (Option Entry)) → slice_get slots i ≡ Some n → o ≡ next_of es k n → next ≡ k + taken o → new ≡ table ++ o ∷ []
    → table ++ aligned (drop i slots) (drop k es) ≡ aligned slots es → new ++ aligned (drop (i + 1) slots) (drop next es) ≡ aligned slots es
aligned_more slots es i k next n o table new at e step push so =
    ap (λ t. t ++ aligned (drop (i + 1) slots) (drop next es)) push ∙ append_assoc table (o ∷ []) (aligned (drop (i + 1) slots) (drop next es))
    ∙ ap (λ j. table ++ o ∷ aligned (drop (i + 1) slots) (drop j es)) step ∙ ap (λ zs. table ++ zs) (sym (aligned_step slots es i k n o at e)) ∙ so

drop_all : {X : Type 0} (xs : List X) (i : ℕ) → length xs ≤ i → drop i xs ≡ []
drop_all [] zero l = refl
drop_all [] (suc i) l = refl
drop_all (x ∷ xs) zero l = absurd (omega (arith, l))
drop_all (x ∷ xs) (suc i) l = drop_all xs i (omega (arith, l))

pub aligned_all : (slots : List Node) (es : List Entry) (i k : ℕ) (table : List (Option Entry)) → length slots ≤ i → table ++ aligned (drop i slots) (drop k es) ≡ aligned slots es → table ≡ aligned slots es
aligned_all slots es i k table l so = sym (append-nil table) ∙ ap (λ ns. table ++ aligned ns (drop k es)) (sym (drop_all slots i l)) ∙ so

pub taken_few : (o : Option Entry) → taken o ≤ 1
taken_few None = omega arith
taken_few (Some e) = omega arith

-- ---- one bit more for each item

pub mapped_more : {X : Type 0} (f : X → Bool) (xs : List X) (i : ℕ) (x : X) (old bits new : List Bool) (b : Bool) → slice_get xs i ≡ Some x → b ≡ f x → bits ≡ old ++ map f (take i xs) → new ≡ bits ++ b ∷ [] → new ≡ old ++ map f (take (i + 1) xs)
mapped_more f xs i x old bits new b at v so e =
    let t : take (i + 1) xs ≡ take i xs ++ x ∷ [] = take_more xs i x (slice_get_within xs i x at) ∙ ap (λ y. take i xs ++ y ∷ []) (get_or_from_slice_get xs i x x at) in
    e ∙ ap (λ bs. bs ++ b ∷ []) so ∙ append_assoc old (map f (take i xs)) (b ∷ []) ∙ ap (λ c. old ++ (map f (take i xs) ++ c ∷ [])) v
    ∙ ap (λ bs. old ++ bs) (sym (map-append f (take i xs) (x ∷ []))) ∙ ap (λ ys. old ++ map f ys) (sym t)

pub mapped_all : {X : Type 0} (f : X → Bool) (xs : List X) (i : ℕ) (old new : List Bool) → length xs ≤ i → new ≡ old ++ map f (take i xs) → new ≡ old ++ map f xs
mapped_all f xs i old new l so = so ∙ ap (λ ys. old ++ map f ys) (take_all i xs l)

-- ---- ties

lt_of : (a b : ℕ) → nat_lt a b ≡ true → a < b
lt_of a b h = grind (arith, nat_tests)

both_parts : (a b : Bool) → (a && b) ≡ true → (a ≡ true) × (b ≡ true)
both_parts true b h = (refl, h)
both_parts false b h = absurd (true≢false (sym h))

pass_at : {X : Type 0} (p : X → Bool) (xs : List X) (i : ℕ) (x : X) → list_all p xs ≡ true → slice_get xs i ≡ Some x → p x ≡ true
pass_at p [] i x a at = absurd (true≢false (sym (ap is_some at)))
pass_at p (y ∷ ys) zero x a at = ap p (sym (ap (λ o. option_map_or (λ z. z) o y) at)) ∙ (both_parts (p y) (list_all p ys) a).0
pass_at p (y ∷ ys) (suc i) x a at = pass_at p ys i x (both_parts (p y) (list_all p ys) a).1 at

pub ends_in : (slots : List Node) (edges : List Edge) (i : ℕ) (e : Edge) → list_all (is_between slots) edges ≡ true → slice_get edges i ≡ Some e → (e.from < length slots) × (e.to < length slots)
ends_in slots edges i e a at =
    let p = both_parts (nat_lt e.from (length slots)) (nat_lt e.to (length slots)) (pass_at (is_between slots) edges i e a at) in
    (lt_of e.from (length slots) p.0, lt_of e.to (length slots) p.1)

some_same : {X : Type 0} (x y : X) → Some x ≡ Some y → x ≡ y
some_same x y e = ap (λ o. option_map_or (λ z. z) o x) e

table_at : (entries : List Entry) (slots : List Node) (table : List (Option Entry)) (i : ℕ) (o : Option Entry) → table ≡ map (entry_of entries) slots → slice_get table i ≡ Some o → o ≡ entry_of entries (slot slots i)
table_at entries slots table i o e at = by (slice_get slots i) refl
  where
    whole : option_map (entry_of entries) (slice_get slots i) ≡ Some o
    whole = sym (slice_get-map (entry_of entries) slots i) ∙ ap (λ t. slice_get t i) (sym e) ∙ at

    by : (x : Option Node) → slice_get slots i ≡ x → o ≡ entry_of entries (slot slots i)
    by None s = absurd (true≢false (sym (ap is_some (sym (ap (option_map (entry_of entries)) s) ∙ whole))))
    by (Some n) s =
        some_same o (entry_of entries n) (sym whole ∙ ap (option_map (entry_of entries)) s)
        ∙ ap (entry_of entries) (sym (get_or_from_slice_get slots i n (record { clafer = 0; number = 0 }) s))

pub tied_at : (tie : Tie) (entries : List Entry) (slots : List Node) (table : List (Option Entry)) (e : Edge) (entry : Option Entry) (node : Node) → table ≡ map (entry_of entries) slots → slice_get table e.from ≡ Some entry → slice_get slots e.to ≡ Some node
    → option_map_or (same_node node) (end_at tie entry) false ≡ is_tied (end_in tie entries) slots e
tied_at tie entries slots table e entry node t from to =
    ap (λ n. option_map_or (same_node n) (end_at tie entry) false) (sym (get_or_from_slice_get slots e.to node (record { clafer = 0; number = 0 }) to))
    ∙ ap (λ o. option_map_or (same_node (slot slots e.to)) (end_at tie o) false) (table_at entries slots table e.from entry t from)

-- a node is there where it has an entry
pub lives : (es : List Entry) (slots : List Node) → map is_some (map (entry_of es) slots) ≡ map (has_node (nodes_of es)) slots
lives es [] = refl
lives es (n ∷ ns) = ap (λ b. b ∷ map is_some (map (entry_of es) ns)) (here es) ∙ ap (λ bs. has_node (nodes_of es) n ∷ bs) (lives es ns)
  where
    here : (xs : List Entry) → is_some (entry_of xs n) ≡ has_node (nodes_of xs) n
    here [] = refl
    here (x ∷ xs) = by (same_node n x.node) (here xs)
      where
        by : (b : Bool) → is_some (entry_of xs n) ≡ has_node (nodes_of xs) n → is_some (cond b (Some x) (entry_of xs n)) ≡ (b || has_node (nodes_of xs) n)
        by true h = refl
        by false h = h

-- ---- integers

pairs_more : {X Y : Type 0} (t : X → Y → Bool) (xs : List X) (ys : List Y) (x : X) (y : Y) → each_pair t xs ys ≡ true → t x y ≡ true → each_pair t (xs ++ x ∷ []) (ys ++ y ∷ []) ≡ true
pairs_more t [] [] x y h here = ap (λ b. b && true) here
pairs_more t [] (v ∷ vs) x y h here = absurd (true≢false (sym h))
pairs_more t (u ∷ us) [] x y h here = absurd (true≢false (sym h))
pairs_more t (u ∷ us) (v ∷ vs) x y h here =
    let p = both_parts (t u v) (each_pair t us vs) h in
    ap (λ b. b && each_pair t (us ++ x ∷ []) (vs ++ y ∷ [])) p.0 ∙ pairs_more t us vs x y p.1 here

same_length : (a b : ℕ) → a ≡ b → (a == b) ≡ true
same_length a b e = grind (arith, nat_tests)

pub no_numbers : (entries : List Entry) (slots : List Node) (values : List SlotBits) (bits : List Bool) → AddsNumbers entries slots (take 0 values) bits bits
no_numbers entries slots values bits = record { numbers = []; whole = sym (append-nil bits); integers = refl }

pub numbers_more : (entries : List Entry) (slots : List Node) (table : List (Option Entry)) (values : List SlotBits) (i : ℕ) (v : SlotBits) (entry : Option Entry) (integer : Option ℤ) (old bits new : List Bool) → table ≡ map (entry_of entries) slots → slice_get values i ≡ Some v
    → slice_get table v.slot ≡ Some entry → integer ≡ option_and_then target_integer entry → AddsNumbers entries slots (take i values) old bits → Adds bits new (length v.bits) (λ bs. is_value integer bs ≡ true) → AddsNumbers entries slots (take (i + 1) values) old new
numbers_more entries slots table values i v entry integer old bits new t at there is s a =
    let test : SlotBits → List Bool → Bool = λ u bs. (length bs == length u.bits) && is_value (integer_target_in entries (slot slots u.slot)) bs in
    let told : integer ≡ integer_target_in entries (slot slots v.slot) = is ∙ ap (option_and_then target_integer) (table_at entries slots table v.slot entry t there) in
    let here : test v a.added ≡ true = ap (λ b. b && is_value (integer_target_in entries (slot slots v.slot)) a.added) (same_length (length a.added) (length v.bits) a.size) ∙ ap (λ o. is_value o a.added) (sym told) ∙ a.has in
    let more : take (i + 1) values ≡ take i values ++ v ∷ [] = take_more values i v (slice_get_within values i v at) ∙ ap (λ u. take i values ++ u ∷ []) (get_or_from_slice_get values i v v at) in
    record {
      numbers = s.numbers ++ a.added ∷ [];
      whole = a.whole ∙ ap (λ bs. bs ++ a.added) s.whole ∙ append_assoc old (flat_map (λ bs. bs) s.numbers) a.added
          ∙ ap (λ bs. old ++ bs) (ap (λ cs. flat_map (λ bs. bs) s.numbers ++ cs) (sym (append-nil a.added)) ∙ sym (flat_map-append (λ (bs : List Bool). bs) s.numbers (a.added ∷ [])));
      integers = ap (λ us. each_pair test us (s.numbers ++ a.added ∷ [])) more ∙ pairs_more test (take i values) s.numbers v a.added s.integers here;
    }

-- ---- the whole

pub whole_of : (entries : List Entry) (slots : List Node) (table : List (Option Entry)) (b0 b1 b2 b3 b4 parents targets numbers : List Bool) → table ≡ map (entry_of entries) slots → b0 ≡ [] → b1 ≡ b0 ++ map is_some table → b2 ≡ b1 ++ parents → b3 ≡ b2 ++ targets → b4 ≡ b3 ++ numbers
    → b4 ≡ map (has_node (nodes_of entries)) slots ++ (parents ++ (targets ++ numbers))
whole_of entries slots table b0 b1 b2 b3 b4 parents targets numbers t e0 e1 e2 e3 e4 =
    let first : b1 ≡ map (has_node (nodes_of entries)) slots = e1 ∙ ap (λ bs. bs ++ map is_some table) e0 ∙ ap (map is_some) t ∙ lives entries slots in
    e4 ∙ ap (λ bs. bs ++ numbers) (e3 ∙ ap (λ bs. bs ++ targets) (e2 ∙ ap (λ bs. bs ++ parents) first))
    ∙ append_assoc (map (has_node (nodes_of entries)) slots ++ parents) targets numbers ∙ append_assoc (map (has_node (nodes_of entries)) slots) parents (targets ++ numbers)

pub slot_in : (slots : List Node) (values : List SlotBits) (i : ℕ) (v : SlotBits) → list_all (λ u. nat_lt u.slot (length slots)) values ≡ true → slice_get values i ≡ Some v → v.slot < length slots
slot_in slots values i v a at = lt_of v.slot (length slots) (pass_at (λ (u : SlotBits). nat_lt u.slot (length slots)) values i v a at)

pub numbers_all : (entries : List Entry) (slots : List Node) (values : List SlotBits) (i : ℕ) (old new : List Bool) → length values ≤ i → AddsNumbers entries slots (take i values) old new → AddsNumbers entries slots values old new
numbers_all entries slots values i old new l s = subst (λ vs. AddsNumbers entries slots vs old new) (take_all i values l) s

-- ---- the integers have a spelling

pub all_at : {X : Type 0} (P : X → Type 0) (xs : List X) (i : ℕ) (x : X) → All P xs → slice_get xs i ≡ Some x → P x
all_at P xs i x a at = subst P (get_or_from_slice_get xs i x x at) (a i x (slice_get_within xs i x at))

pub if_some : (P : ℤ → Type 0) (o : Option ℤ) → ((z : ℤ) → o ≡ Some z → P z) → IfSome o P
if_some P None h = tt
if_some P (Some z) h = h z refl

-- the integer of an entry in a table
pub told_integer : (table : List (Option Entry)) (i : ℕ) (entry : Option Entry) (integer : Option ℤ) (z : ℤ) → slice_get table i ≡ Some entry → integer ≡ option_and_then target_integer entry → integer ≡ Some z → integer_in_table table i ≡ Some z
told_integer table i entry integer z there is e = ap (option_and_then target_integer) (get_or_from_slice_get table i entry None there) ∙ sym is ∙ e

integer_ranges : (scopes : Scopes) (entries : List Entry) (slots : List Node) (table : List (Option Entry)) (i : ℕ) (z : ℤ) → table ≡ map (entry_of entries) slots → is_in_range scopes entries ≡ true → integer_in_table table i ≡ Some z
    → i < length table → (int_le scopes.low z && int_le z scopes.high) ≡ true
integer_ranges scopes entries slots table i z t r e l = by (get_or table i None) refl (slice_get-get_or table i None l)
  where
    by : (o : Option Entry) → get_or table i None ≡ o → slice_get table i ≡ Some (get_or table i None) → (int_le scopes.low z && int_le z scopes.high) ≡ true
    by None g s = absurd (true≢false (sym (ap is_some (sym (ap (option_and_then target_integer) g) ∙ e))))
    by (Some x) g s =
        ranged scopes x z (entry_passes (λ (y : Entry). option_map_or (fits_range scopes) y.target true) entries (slot slots i) x r (sym (table_at entries slots table i (Some x) t (s ∙ ap Some g)))) (sym (ap (option_and_then target_integer) g) ∙ e)

in_width : (low high z : ℤ) → SFits w64 low → SFits w64 high → (int_le low z && int_le z high) ≡ true → FitsBits (width (record { low = low; high = high })) z
in_width low high z f g h =
    let p = both_parts (int_le low z) (int_le z high) h in
    (width_holds low high f g).1 z (from_le low z p.0) (from_le z high p.1)

pub some_bits : (clafers : List Clafer) (scopes : Scopes) (layout : Layout) → SFits w64 scopes.low → SFits w64 scopes.high → Fits clafers scopes layout → All (λ v. 0 < length v.bits) layout.values
some_bits clafers scopes layout low high f k d l = subst (λ n. 0 < n) (sym (f.widths k d l)) (width_holds scopes.low scopes.high low high).0

pub numbers_fit : (clafers : List Clafer) (scopes : Scopes) (layout : Layout) (entries : List Entry) (table : List (Option Entry)) → SFits w64 scopes.low → SFits w64 scopes.high → Fits clafers scopes layout
    → list_all (λ v. nat_lt v.slot (length layout.slots)) layout.values ≡ true → table ≡ map (entry_of entries) layout.slots → is_in_range scopes entries ≡ true
    → All (λ v. (z : ℤ) → integer_in_table table v.slot ≡ Some z → FitsBits (length v.bits) z) layout.values
numbers_fit clafers scopes layout entries table low high f inside t r k d l z e =
    let v : SlotBits = get_or layout.values k d in
    let here : v.slot < length layout.slots = slot_in layout.slots layout.values k v inside (slice_get-get_or layout.values k d l) in
    let there : v.slot < length table = subst (λ n. v.slot < n) (sym (ap length t ∙ length-map layout.slots (entry_of entries))) here in
    subst (λ n. FitsBits n z) (sym (f.widths k d l)) (in_width scopes.low scopes.high z low high (integer_ranges scopes entries layout.slots table v.slot z t r e there))

-- ---- the bits of an instance

pub packed : (entries : List Entry) (layout : Layout) (table : List (Option Entry)) (b0 b1 b2 b3 b4 : List Bool) → table ≡ map (entry_of entries) layout.slots → b0 ≡ [] → b1 ≡ b0 ++ map is_some table
    → b2 ≡ b1 ++ ties (end_in Parent entries) layout.slots layout.parents → b3 ≡ b2 ++ ties (end_in Referred entries) layout.slots layout.targets → AddsNumbers entries layout.slots layout.values b3 b4 → IsPacked layout entries b4
packed entries layout table b0 b1 b2 b3 b4 t e0 e1 e2 e3 a = record {
  numbers = a.numbers;
  integers = a.integers;
  whole = whole_of entries layout.slots table b0 b1 b2 b3 b4 (ties (parent_in entries) layout.slots layout.parents) (ties (target_in entries) layout.slots layout.targets) (flat_map (λ bs. bs) a.numbers) t e0 e1 e2 e3 a.whole;
}
