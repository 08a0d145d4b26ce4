-- One more entry in the tables.
use Rattle.std.proofs.Common.{◌≡◌, ℕ, zero, suc, ◌+◌, ◌<◌, ◌≤◌, Bool, true, false, ◌&&◌, ◌||◌, List, [], ◌∷◌, ◌++◌, length, replicate, take, get_or, set, Option, Some, None, cond, inl, inr, refl, ap, sym, subst, ◌∙◌, arith, append-nil}
use Rattle.std.specs.Prelude.{nat_lt, is_none, is_some, slice_get}
use Rattle.std.specs.Option.{option_or}
use Rattle.std.specs.List.{filter, list_all}
use Rattle.std.proofs.lemmas.Grind.{common_steps}
use Rattle.std.proofs.lemmas.Bool.{true≢false, cases_lt, cases_eq}
use Rattle.std.proofs.lemmas.List.{get_or-set_same, get_or-set_other, get_or_read, take_more, take_all}
use Rattle.std.proofs.lemmas.List.Folds.{find-append, list_any-append}
use Rattle.clf_tree.specs.declared.instance.Node.{Node}
use Rattle.clf_tree.specs.declared.instance.Entry.{Entry}
use Rattle.std.specs.Option.{option_map_or, option_to_list}
use Rattle.std.proofs.lemmas.List.Elements.{filter-append}
use Rattle.clf_tree.specs.declared.model.Clafer.{Clafer}
use Rattle.clf_tree.specs.declared.scopes.Scopes.{Scopes}
use Rattle.clf_tree.specs.Hierarchy.{is_concrete}
use Rattle.clf_tree.specs.Nodes.{same_node, has_node, entry_of, nodes_of, is_within, named_by, scope_of, target_node}
use Rattle.instance_tables.specs.Slots.{first_slot, slot_of}
use Rattle.instance_tables.specs.Tables.{HoldsEntries, HoldsChildren, HoldsMembers, NoneOutside}
use Rattle.instance_tables.specs.Children.{is_parent_of, children_of}
use Rattle.instance_tables.proofs.Numbering.{first_slot-before}

pub same_equal : (m n : Node) → same_node m n ≡ true → m ≡ n
same_equal m n h = grind (arith, common_steps)

pub equal_same : (m n : Node) → m ≡ n → same_node m n ≡ true
equal_same m n h = grind (arith, common_steps)

by_parts : (m n : Node) → m.clafer ≡ n.clafer → m.number ≡ n.number → m ≡ n
by_parts m n p q = same_equal m n (grind (arith, common_steps))

-- what the slot of a node tells
record AtSlot (scopes : List ℕ) (n : Node) (s : ℕ) : Type 0 where
  below : n.number < get_or scopes n.clafer 0
  is : s ≡ first_slot scopes n.clafer + n.number

slot_tells : (scopes : List ℕ) (n : Node) (s : ℕ) → slot_of scopes n ≡ Some s → AtSlot scopes n s
slot_tells scopes n s h = by (nat_lt n.number (get_or scopes n.clafer 0)) refl h
  where
    by : (b : Bool) → nat_lt n.number (get_or scopes n.clafer 0) ≡ b → cond b (Some (first_slot scopes n.clafer + n.number)) None ≡ Some s → AtSlot scopes n s
    by true e f = record { below = grind (arith, common_steps); is = cc }
    by false e f = cc

pub slot_apart : (scopes : List ℕ) (m n : Node) (s : ℕ) → slot_of scopes m ≡ Some s → slot_of scopes n ≡ Some s → m ≡ n
slot_apart scopes m n s p q =
    let a = slot_tells scopes m s p in
    let b = slot_tells scopes n s q in
    elim (cases_lt m.clafer n.clafer) [
      | inl lt ↦ absurd (omega (arith, first_slot-before scopes m.clafer n.clafer lt, a.below, a.is, b.is))
      | inr le ↦ elim (cases_lt n.clafer m.clafer) [
        | inl gt ↦ absurd (omega (arith, first_slot-before scopes n.clafer m.clafer gt, b.below, a.is, b.is))
        | inr ge ↦
            let same : m.clafer ≡ n.clafer = omega arith in
            by_parts m n same (omega (arith, ap (first_slot scopes) same, a.is, b.is))
      ]
    ]

not_same : (m n : Node) → (m ≡ n → ⊥) → same_node m n ≡ false
not_same m n apart = by (same_node m n) refl
  where
    by : (b : Bool) → same_node m n ≡ b → same_node m n ≡ false
    by true e = absurd (apart (same_equal m n e))
    by false e = e

-- an entry of another node changes nothing
entry_apart : (entries : List Entry) (e : Entry) (n : Node) → same_node n e.node ≡ false → entry_of (entries ++ e ∷ []) n ≡ entry_of entries n
entry_apart entries e n apart =
    find-append (λ (x : Entry). same_node n x.node) entries (e ∷ []) ∙ ap (λ b. option_or (entry_of entries n) (cond b (Some e) None)) apart ∙ nothing (entry_of entries n)
  where
    nothing : (o : Option Entry) → option_or o None ≡ o
    nothing None = refl
    nothing (Some x) = refl

-- where the node has an entry already, one more changes nothing
entry_kept : (entries : List Entry) (e x : Entry) (n : Node) → entry_of entries n ≡ Some x → entry_of (entries ++ e ∷ []) n ≡ Some x
entry_kept entries e x n has = find-append (λ (y : Entry). same_node n y.node) entries (e ∷ []) ∙ ap (λ o. option_or o (entry_of (e ∷ []) n)) has

entry_new : (entries : List Entry) (e : Entry) (n : Node) → entry_of entries n ≡ None → same_node n e.node ≡ true → entry_of (entries ++ e ∷ []) n ≡ Some e
entry_new entries e n has same =
    find-append (λ (y : Entry). same_node n y.node) entries (e ∷ []) ∙ ap (λ o. option_or o (entry_of (e ∷ []) n)) has ∙ ap (λ b. cond b (Some e) None) same

pub place_none : (scopes : List ℕ) (entries : List Entry) (places : List (Option Entry)) (e : Entry) → slot_of scopes e.node ≡ None
    → HoldsEntries scopes entries places → HoldsEntries scopes (entries ++ e ∷ []) places
place_none scopes entries places e none holds n s h = holds n s h ∙ sym (entry_apart entries e n (not_same n e.node (λ same. cc (ap (slot_of scopes) same))))

pub place_new : (scopes : List ℕ) (entries : List Entry) (places : List (Option Entry)) (e : Entry) (t : ℕ) → slot_of scopes e.node ≡ Some t → t < length places → get_or places t None ≡ None
    → HoldsEntries scopes entries places → HoldsEntries scopes (entries ++ e ∷ []) (set places t (Some e))
place_new scopes entries places e t at within free holds n s h =
    elim (cases_eq s t) [
      | inl same ↦
          let here : slot_of scopes n ≡ Some t = h ∙ ap (λ z. Some z) same in
          let node : n ≡ e.node = slot_apart scopes n e.node t here at in
          ap (λ z. get_or (set places t (Some e)) z None) same ∙ get_or-set_same places t (Some e) None within
          ∙ sym (entry_new entries e n (sym (holds n t here) ∙ free) (equal_same n e.node node))
      | inr other ↦
          get_or-set_other places t s (Some e) None other ∙ holds n s h
          ∙ sym (entry_apart entries e n (not_same n e.node (λ same. other (some_same s t (sym h ∙ ap (slot_of scopes) same ∙ at)))))
    ]
  where
    some_same : (a b : ℕ) → Some a ≡ Some b → a ≡ b
    some_same a b p = cc

pub place_kept : (scopes : List ℕ) (entries : List Entry) (places : List (Option Entry)) (e x : Entry) (t : ℕ) → slot_of scopes e.node ≡ Some t → get_or places t None ≡ Some x
    → HoldsEntries scopes entries places → HoldsEntries scopes (entries ++ e ∷ []) places
place_kept scopes entries places e x t at full holds n s h =
    elim (cases_eq s t) [
      | inl same ↦ ap (λ z. get_or places z None) same ∙ full ∙ sym (entry_kept entries e x n (sym (holds n s h) ∙ ap (λ z. get_or places z None) same ∙ full))
      | inr other ↦ holds n s h ∙ sym (entry_apart entries e n (not_same n e.node (λ same. other (some_same s t (sym h ∙ ap (slot_of scopes) same ∙ at)))))
    ]
  where
    some_same : (a b : ℕ) → Some a ≡ Some b → a ≡ b
    some_same a b p = cc

pub place_full : (scopes : List ℕ) (entries : List Entry) (places : List (Option Entry)) (e : Entry) (o : Option Entry) (t : ℕ) → slot_of scopes e.node ≡ Some t → t < length places → o ≡ get_or places t o → is_none o ≡ false
    → HoldsEntries scopes entries places → HoldsEntries scopes (entries ++ e ∷ []) places
place_full scopes entries places e None t at within read full = absurd (true≢false full)
place_full scopes entries places e (Some x) t at within read full = place_kept scopes entries places e x t at (sym (get_or_read places t (Some x) within read None))

-- at first no slot is taken
abbrev none_entry : Option Entry
none_entry = None

abbrev none_nodes : List Node
none_nodes = []

pub none_placed : (scopes : List ℕ) (k : ℕ) → HoldsEntries scopes [] (replicate k None)
none_placed scopes k n s h = at k s
  where
    at : (j i : ℕ) → get_or (replicate j none_entry) i none_entry ≡ none_entry
    at zero i = refl
    at (suc j) zero = refl
    at (suc j) (suc i) = at j i

pub none_below : (scopes : List ℕ) (k : ℕ) → HoldsChildren scopes [] (replicate k [])
none_below scopes k n s h = at k s
  where
    at : (j i : ℕ) → get_or (replicate j none_nodes) i none_nodes ≡ none_nodes
    at zero i = refl
    at (suc j) zero = refl
    at (suc j) (suc i) = at j i

pub ruleset place_steps = (place_none, place_new, place_kept)

-- the children with one more entry
children_more : (entries : List Entry) (e : Entry) (n : Node) (b : Bool) → is_parent_of n e ≡ b → children_of (entries ++ e ∷ []) n ≡ children_of entries n ++ cond b (e.node ∷ []) []
children_more entries e n b h =
    ap nodes_of (filter-append (is_parent_of n) entries (e ∷ [])) ∙ ap (λ c. nodes_of (filter (is_parent_of n) entries ++ cond c (e ∷ []) [])) h ∙ two b (filter (is_parent_of n) entries)
  where
    two : (c : Bool) (xs : List Entry) → nodes_of (xs ++ cond c (e ∷ []) []) ≡ nodes_of xs ++ cond c (e.node ∷ []) []
    two true [] = refl
    two false [] = refl
    two c (x ∷ xs) = ap (λ ys. x.node ∷ ys) (two c xs)

children_apart : (entries : List Entry) (e : Entry) (n : Node) → is_parent_of n e ≡ false → children_of (entries ++ e ∷ []) n ≡ children_of entries n
children_apart entries e n h = children_more entries e n false h ∙ append-nil (children_of entries n)

pub child_none : (scopes : List ℕ) (entries : List Entry) (below : List (List Node)) (e : Entry) → e.parent ≡ None
    → HoldsChildren scopes entries below → HoldsChildren scopes (entries ++ e ∷ []) below
child_none scopes entries below e none holds n s h = holds n s h ∙ sym (children_apart entries e n (ap (λ p. option_map_or (same_node n) p false) none))

pub child_outside : (scopes : List ℕ) (entries : List Entry) (below : List (List Node)) (e : Entry) (p : Node) → e.parent ≡ Some p → slot_of scopes p ≡ None
    → HoldsChildren scopes entries below → HoldsChildren scopes (entries ++ e ∷ []) below
child_outside scopes entries below e p up none holds n s h =
    holds n s h ∙ sym (children_apart entries e n (ap (λ q. option_map_or (same_node n) q false) up ∙ not_same n p (λ same. other (h) (ap (slot_of scopes) same ∙ none))))
  where
    other : slot_of scopes n ≡ Some s → slot_of scopes n ≡ None → ⊥
    other a b = cc

pub child_new : (scopes : List ℕ) (entries : List Entry) (below : List (List Node)) (e : Entry) (p : Node) (t : ℕ) (old new : List Node)
    → e.parent ≡ Some p → slot_of scopes p ≡ Some t → t < length below → old ≡ get_or below t [] → new ≡ old ++ e.node ∷ []
    → HoldsChildren scopes entries below → HoldsChildren scopes (entries ++ e ∷ []) (set below t new)
child_new scopes entries below e p t old new up at within was is holds n s h =
    elim (cases_eq s t) [
      | inl same ↦
          let here : slot_of scopes n ≡ Some t = h ∙ ap (λ z. Some z) same in
          let node : n ≡ p = slot_apart scopes n p t here at in
          ap (λ z. get_or (set below t new) z []) same ∙ get_or-set_same below t new [] within ∙ is ∙ ap (λ ns. ns ++ e.node ∷ []) (was ∙ holds n t here)
          ∙ sym (children_more entries e n true (ap (λ q. option_map_or (same_node n) q false) up ∙ equal_same n p node))
      | inr other ↦
          get_or-set_other below t s new [] other ∙ holds n s h
          ∙ sym (children_apart entries e n (ap (λ q. option_map_or (same_node n) q false) up ∙ not_same n p (λ same. other (some_same s t (sym h ∙ ap (slot_of scopes) same ∙ at)))))
    ]
  where
    some_same : (a b : ℕ) → Some a ≡ Some b → a ≡ b
    some_same a b q = cc

pub ruleset child_steps = (child_none, child_outside, child_new)

-- where each node that is named is within the scopes, a node without a slot is not named
scope_is : (xs : List ℕ) (c : ℕ) → option_map_or (λ n. n) (slice_get xs c) 0 ≡ get_or xs c 0
scope_is [] c = refl
scope_is (x ∷ xs) zero = refl
scope_is (x ∷ xs) (suc c) = scope_is xs c

both_left : (a b : Bool) → (a && b) ≡ true → a ≡ true
both_left true b h = refl
both_left false b h = h

both_right : (a b : Bool) → (a && b) ≡ true → b ≡ true
both_right true b h = h
both_right false b h = absurd (true≢false (sym h))

module _ (clafers : List Clafer) (scopes : Scopes) where
  inside : Node → Bool
  inside n = is_concrete clafers n.clafer && nat_lt n.number (scope_of scopes n.clafer)

  no_slot : (n : Node) → slot_of scopes.of n ≡ None → inside n ≡ true → ⊥
  unfolding inside
  no_slot n none h =
      let below : nat_lt n.number (get_or scopes.of n.clafer 0) ≡ true = ap (nat_lt n.number) (sym (scope_is scopes.of n.clafer)) ∙ both_right (is_concrete clafers n.clafer) (nat_lt n.number (scope_of scopes n.clafer)) h in
      apart (ap (λ b. cond b (Some (first_slot scopes.of n.clafer + n.number)) None) (sym below) ∙ none)
    where
      apart : {k : ℕ} → Some k ≡ None → ⊥
      apart e = cc

  other_inside : (n m : Node) → slot_of scopes.of n ≡ None → inside m ≡ true → same_node n m ≡ false
  other_inside n m none h = not_same n m (λ same. no_slot n none (ap inside same ∙ h))

  first_named : (e : Entry) → list_all inside (named_by e) ≡ true → inside e.node ≡ true
  first_named e h = both_left (inside e.node) (list_all inside (option_to_list e.parent ++ option_to_list (target_node e))) h

  parent_named : (n : Node) (up : Option Node) (rest : List Node) → slot_of scopes.of n ≡ None → list_all inside (option_to_list up ++ rest) ≡ true → option_map_or (same_node n) up false ≡ false
  parent_named n None rest none h = refl
  parent_named n (Some p) rest none h = other_inside n p none (both_left (inside p) (list_all inside rest) h)

  no_entry : (entries : List Entry) (n : Node) → list_all (λ e. list_all inside (named_by e)) entries ≡ true → slot_of scopes.of n ≡ None → entry_of entries n ≡ None
  no_entry [] n h none = refl
  no_entry (e ∷ es) n h none =
      ap (λ b. cond b (Some e) (entry_of es n)) (other_inside n e.node none (first_named e (both_left (list_all inside (named_by e)) (list_all (λ x. list_all inside (named_by x)) es) h)))
      ∙ no_entry es n (both_right (list_all inside (named_by e)) (list_all (λ x. list_all inside (named_by x)) es) h) none

  no_child : (entries : List Entry) (n : Node) → list_all (λ e. list_all inside (named_by e)) entries ≡ true → slot_of scopes.of n ≡ None → children_of entries n ≡ []
  no_child [] n h none = refl
  no_child (e ∷ es) n h none =
      ap (λ b. nodes_of (cond b (e ∷ filter (is_parent_of n) es) (filter (is_parent_of n) es)))
      (parent_named n e.parent (option_to_list (target_node e)) none (both_right (inside e.node) (list_all inside (option_to_list e.parent ++ option_to_list (target_node e))) (both_left (list_all inside (named_by e)) (list_all (λ x. list_all inside (named_by x)) es) h)))
      ∙ no_child es n (both_right (list_all inside (named_by e)) (list_all (λ x. list_all inside (named_by x)) es) h) none

  pub none_outside : (entries : List Entry) → is_within clafers scopes entries ≡ true → NoneOutside scopes.of entries
  unfolding inside
  none_outside entries h n none = (no_entry entries n h none, no_child entries n h none)

-- a node has an entry where it is among the nodes of the entries
pub entry_there : (entries : List Entry) (n : Node) → is_some (entry_of entries n) ≡ has_node (nodes_of entries) n
entry_there [] n = refl
entry_there (e ∷ es) n = by (same_node n e.node) (entry_there es n)
  where
    by : (b : Bool) → is_some (entry_of es n) ≡ has_node (nodes_of es) n → is_some (cond b (Some e) (entry_of es n)) ≡ (b || has_node (nodes_of es) n)
    by true rest = refl
    by false rest = rest

-- the entries so far and one more, and in the end all
first_more : (es xs : List Entry) (i : ℕ) (d : Entry) → xs ≡ es → i < length xs → take i es ++ get_or xs i d ∷ [] ≡ take (i + 1) es
first_more es xs i d e within = ap (λ zs. take i es ++ get_or zs i d ∷ []) e ∙ sym (take_more es i d (omega (arith, ap length e)))

pub entries_more : (scopes : List ℕ) (es xs : List Entry) (i : ℕ) (d : Entry) (places : List (Option Entry)) → xs ≡ es → i < length xs
    → HoldsEntries scopes (take i es ++ get_or xs i d ∷ []) places → HoldsEntries scopes (take (i + 1) es) places
entries_more scopes es xs i d places e within h = subst (λ ys. HoldsEntries scopes ys places) (first_more es xs i d e within) h

pub entries_all : (scopes : List ℕ) (es xs : List Entry) (i : ℕ) (places : List (Option Entry)) → xs ≡ es → length xs ≤ i → HoldsEntries scopes (take i es) places → HoldsEntries scopes es places
entries_all scopes es xs i places e over h = subst (λ ys. HoldsEntries scopes ys places) (take_all i es (omega (arith, ap length e))) h

pub children_so_far : (scopes : List ℕ) (es xs : List Entry) (i : ℕ) (d : Entry) (below : List (List Node)) → xs ≡ es → i < length xs
    → HoldsChildren scopes (take i es ++ get_or xs i d ∷ []) below → HoldsChildren scopes (take (i + 1) es) below
children_so_far scopes es xs i d below e within h = subst (λ ys. HoldsChildren scopes ys below) (first_more es xs i d e within) h

pub children_all : (scopes : List ℕ) (es xs : List Entry) (i : ℕ) (below : List (List Node)) → xs ≡ es → length xs ≤ i → HoldsChildren scopes (take i es) below → HoldsChildren scopes es below
children_all scopes es xs i below e over h = subst (λ ys. HoldsChildren scopes ys below) (take_all i es (omega (arith, ap length e))) h

or_nothing : (b : Bool) → (b || false) ≡ b
or_nothing true = refl
or_nothing false = refl

or_something : (b : Bool) → (b || true) ≡ true
or_something true = refl
or_something false = refl

-- one more member of a set of nodes
pub mark_none : (scopes : List ℕ) (ns : List Node) (marks : List Bool) (m : Node) → slot_of scopes m ≡ None → HoldsMembers scopes ns marks → HoldsMembers scopes (ns ++ m ∷ []) marks
mark_none scopes ns marks m none holds n s h =
    holds n s h ∙ sym (list_any-append (same_node n) ns (m ∷ []) ∙ ap (λ b. has_node ns n || (b || false)) (not_same n m (λ same. cc (ap (slot_of scopes) same))) ∙ or_nothing (has_node ns n))

pub mark_new : (scopes : List ℕ) (ns : List Node) (marks : List Bool) (m : Node) (t : ℕ) → slot_of scopes m ≡ Some t → t < length marks → HoldsMembers scopes ns marks → HoldsMembers scopes (ns ++ m ∷ []) (set marks t true)
mark_new scopes ns marks m t at within holds n s h =
    elim (cases_eq s t) [
      | inl same ↦
          let here : slot_of scopes n ≡ Some t = h ∙ ap (λ z. Some z) same in
          ap (λ z. get_or (set marks t true) z false) same ∙ get_or-set_same marks t true false within
          ∙ sym (list_any-append (same_node n) ns (m ∷ []) ∙ ap (λ b. has_node ns n || (b || false)) (equal_same n m (slot_apart scopes n m t here at)) ∙ or_something (has_node ns n))
      | inr other ↦
          get_or-set_other marks t s true false other ∙ holds n s h
          ∙ sym (list_any-append (same_node n) ns (m ∷ []) ∙ ap (λ b. has_node ns n || (b || false)) (not_same n m (λ same. other (some_same s t (sym h ∙ ap (slot_of scopes) same ∙ at)))) ∙ or_nothing (has_node ns n))
    ]
  where
    some_same : (a b : ℕ) → Some a ≡ Some b → a ≡ b
    some_same a b p = cc

pub ruleset mark_steps = (mark_none, mark_new)

nodes_more : (es xs : List Node) (i : ℕ) (d : Node) → xs ≡ es → i < length xs → take i es ++ get_or xs i d ∷ [] ≡ take (i + 1) es
nodes_more es xs i d e within = ap (λ zs. take i es ++ get_or zs i d ∷ []) e ∙ sym (take_more es i d (omega (arith, ap length e)))

pub members_more : (scopes : List ℕ) (es xs : List Node) (i : ℕ) (d : Node) (marks : List Bool) → xs ≡ es → i < length xs
    → HoldsMembers scopes (take i es ++ get_or xs i d ∷ []) marks → HoldsMembers scopes (take (i + 1) es) marks
members_more scopes es xs i d marks e within h = subst (λ ys. HoldsMembers scopes ys marks) (nodes_more es xs i d e within) h

pub members_all : (scopes : List ℕ) (es xs : List Node) (i : ℕ) (marks : List Bool) → xs ≡ es → length xs ≤ i → HoldsMembers scopes (take i es) marks → HoldsMembers scopes es marks
members_all scopes es xs i marks e over h = subst (λ ys. HoldsMembers scopes ys marks) (take_all i es (omega (arith, ap length e))) h
