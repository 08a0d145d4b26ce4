-- Steps along taken edges: to children, to parents and to targets.
use Rattle.std.proofs.Common.{◌≡◌, ℕ, ◌<◌, Bool, true, false, ◌&&◌, ◌||◌, List, [], ◌∷◌, map, length, get_or, Option, Some, None, refl, sym, ap, ◌∙◌, subst, arith}
use Rattle.std.specs.Prelude.{◌==◌, nat_eq, slice_get}
use Rattle.std.specs.List.{filter, find, list_any, All}
use Rattle.std.specs.Option.{option_map_or, option_and_then}
use Rattle.std.proofs.lemmas.Bool.{true≢false}
use Rattle.std.proofs.lemmas.List.Elements.{All-head, All-tail}
use Rattle.bool_circuit.specs.Circuit.{entry}
use Rattle.clf_tree.specs.declared.model.Clafer.{Clafer}
use Rattle.clf_tree.specs.declared.scopes.Scopes.{Scopes}
use Rattle.clf_tree.specs.declared.instance.Node.{Node}
use Rattle.clf_tree.specs.declared.instance.Entry.{Entry}
use Rattle.clf_tree.specs.Lists.{has}
use Rattle.clf_tree.specs.Nodes.{same_node, has_node, has_some, target_node}
use Rattle.clf_tree.specs.CoreMeaning.{those, parents_of, targets_of}
use Rattle.set_bits.specs.declared.layout.Edge.{Edge}
use Rattle.set_bits.specs.declared.layout.Layout.{Layout}
use Rattle.set_bits.specs.Fitting.{slot, slot_clafer}
use Rattle.shown_instance.specs.Shown.{shown, entry_at, is_live, is_taken, leads_to, integer_at}
use Rattle.shown_instance.proofs.Adapting.{any_passes}
use Rattle.shown_instance.proofs.Belonging.{any_map}
use Rattle.shown_instance.proofs.Counts.{IsSound, found_has}
use Rattle.shown_instance.proofs.Hinge.{target_node_back}
use Rattle.shown_instance.proofs.Order.{both}
use Rattle.shown_instance.proofs.Placing.{same_number}
use Rattle.shown_instance.proofs.Telling.{slot_at}
use Rattle.told_constraints.specs.Told.{all_slots, is_listed, is_led_to, turned}
use Rattle.told_constraints.proofs.Lists.{any_filter, any_range, any_key, any_single}
use Rattle.told_constraints.proofs.Setting.{Setting, AreSteps}
use Rattle.told_constraints.proofs.Sets.{Same, below_tells, equal_swap, and_swap, slots_same, told_has, those_same}

-- ---- lists

any_each : {X : Type 0} (p q : X → Bool) (xs : List X) → All (λ x. p x ≡ q x) xs → list_any p xs ≡ list_any q xs
any_each p q [] h = refl
any_each p q (x ∷ xs) h = ap (λ b. b || list_any p xs) (All-head (λ y. p y ≡ q y) x xs h)
    ∙ ap (λ b. q x || b) (any_each p q xs (All-tail (λ y. p y ≡ q y) x xs h))

any_or : {X : Type 0} (p q : X → Bool) (xs : List X) → list_any (λ x. p x || q x) xs ≡ (list_any p xs || list_any q xs)
any_or p q [] = refl
any_or p q (x ∷ xs) = ap (λ b. (p x || q x) || b) (any_or p q xs) ∙ cross (p x) (q x) (list_any p xs) (list_any q xs)
  where
    cross : (a b d e : Bool) → ((a || b) || (d || e)) ≡ ((a || d) || (b || e))
    cross true b d e = refl
    cross false true true e = refl
    cross false true false e = refl
    cross false false d e = refl

any_false : (p : ℕ → Bool) (xs : List ℕ) → ((i : ℕ) → p i ≡ false) → list_any p xs ≡ false
any_false p [] h = refl
any_false p (x ∷ xs) h = ap (λ b. b || list_any p xs) (h x) ∙ any_false p xs h

module _ (clafers : List Clafer) (scopes : Scopes) (layout : Layout) (bits : List Bool) (s : Setting clafers scopes layout bits) where
  -- ---- where the taken edge of a slot leads

  -- a test of the node to which a slot leads is one of the taken edge
  leads_any : (q : Node → Bool) (edges : List Edge) → AreSteps layout bits edges → (i : ℕ)
      → option_map_or q (leads_to layout.slots edges bits i) false ≡ list_any (λ e. is_taken bits i e && q (slot layout.slots e.to)) edges
  leads_any q edges a i = by (find (is_taken bits i) edges) refl
      ∙ sym (any_single (is_taken bits i) (λ (e : Edge). q (slot layout.slots e.to)) edges (a.single i))
    where
      through : Option Edge → Option Node
      through o = option_and_then (λ (e : Edge). slice_get layout.slots e.to) o

      by : (o : Option Edge) → find (is_taken bits i) edges ≡ o
          → option_map_or q (through (find (is_taken bits i) edges)) false
          ≡ option_map_or (λ (e : Edge). q (slot layout.slots e.to)) (find (is_taken bits i) edges) false
      by None t = ap (λ o. option_map_or q (through o) false) t
          ∙ sym (ap (λ o. option_map_or (λ (e : Edge). q (slot layout.slots e.to)) o false) t)
      by (Some f) t =
          let k = found_has (is_taken bits i) (IsSound layout bits) edges f t a.sound in
          ap (λ o. option_map_or q (through o) false) t ∙ ap (λ o. option_map_or q o false) (slot_at layout.slots f.to k.1.to_in)
          ∙ sym (ap (λ o. option_map_or (λ (e : Edge). q (slot layout.slots e.to)) o false) t)

  -- ---- children

  led_down : (edges : List Edge) (p : ℕ → Bool) (ns : List Node) → AreSteps layout bits edges → Same layout bits p ns → (i : ℕ)
      → is_led_to bits (map turned edges) p i ≡ option_map_or (has_node ns) (leads_to layout.slots edges bits i) false
  led_down edges p ns a same i =
      any_map (λ (e : Edge). nat_eq e.to i && (p e.from && entry bits e.here)) turned edges
      ∙ any_each (λ (e : Edge). nat_eq e.from i && (p e.to && entry bits e.here))
      (λ (e : Edge). is_taken bits i e && has_node ns (slot layout.slots e.to)) edges
      (λ k d l. let e : Edge = get_or edges k d in ap (λ b. nat_eq e.from i && (b && entry bits e.here))
      (sym (told_has clafers scopes layout bits s p ns same e.to (a.sound k d l).to_in))
      ∙ turn (nat_eq e.from i) (has_node ns (slot layout.slots e.to)) (entry bits e.here))
      ∙ sym (leads_any (has_node ns) edges a i)
    where
      turn : (a b c : Bool) → (a && (b && c)) ≡ ((a && c) && b)
      turn true b c = and_swap b c
      turn false b c = refl

  -- of the taken edges of a slot, each leads from a live one
  led_live : (edges : List Edge) (p : ℕ → Bool) → AreSteps layout bits edges → (i : ℕ) → is_led_to bits (map turned edges) p i ≡ true
      → is_live layout bits i ≡ true
  led_live edges p a i t =
      let r = any_passes (λ (e : Edge). nat_eq e.from i && (p e.to && entry bits e.here)) edges
      (sym (any_map (λ (e : Edge). nat_eq e.to i && (p e.from && entry bits e.here)) turned edges) ∙ t) in
      let e : Edge = r.it in
      let j = both (nat_eq e.from i) (p e.to && entry bits e.here) r.passes in
      let sound = subst (IsSound layout bits) r.there (a.sound r.place r.it r.within) in
      subst (λ k. is_live layout bits k ≡ true) (same_number e.from i j.0) (sound.lives (both (p e.to) (entry bits e.here) j.1).1)

  pub down_same : (ks : List ℕ) (p : ℕ → Bool) (ns : List Node) → Same layout bits p ns
      → Same layout bits (λ i. is_listed layout ks i && is_led_to bits (map turned layout.parents) p i)
      (those (shown layout bits) (λ x. has ks x.node.clafer && has_some ns x.parent))
  unfolding is_listed
  down_same ks p ns same =
      those_same clafers scopes layout bits s (λ x. has ks x.node.clafer && has_some ns x.parent)
      (λ i. is_listed layout ks i && is_led_to bits (map turned layout.parents) p i)
      (λ i l. ap (λ b. (b && has ks (slot_clafer layout.slots i)) && is_led_to bits (map turned layout.parents) p i)
      (below_tells i (length layout.slots) l)
      ∙ inside (is_live layout bits i) (has ks (slot_clafer layout.slots i)) (is_led_to bits (map turned layout.parents) p i)
      (led_live layout.parents p s.parents i)
      ∙ ap (λ b. is_live layout bits i && (has ks (slot_clafer layout.slots i) && b)) (led_down layout.parents p ns s.parents same i))
    where
      inside : (a b c : Bool) → (c ≡ true → a ≡ true) → (b && c) ≡ (a && (b && c))
      inside true b c h = refl
      inside false true true h = sym (h refl)
      inside false true false h = refl
      inside false false c h = refl

  -- ---- parents and targets

  -- from the live slots of a set, the taken edges among some of which one leads to the node of a slot
  abbrev leading : (ℕ → Bool) → ℕ → List Edge → ℕ → Bool
  leading p i edges j = is_live layout bits j && (p j && list_any
      (λ (e : Edge). is_taken bits j e && same_node (slot layout.slots i) (slot layout.slots e.to)) edges)

  led_one_by_one : (p : ℕ → Bool) (i : ℕ) → i < length layout.slots → (edges : List Edge) → All (IsSound layout bits) edges
      → list_any (leading p i edges) (all_slots layout) ≡ is_led_to bits edges p i
  led_one_by_one p i h [] sound = any_false (leading p i []) (all_slots layout) (λ j. none (is_live layout bits j) (p j))
    where
      none : (a b : Bool) → (a && (b && false)) ≡ false
      none true true = refl
      none true false = refl
      none false b = refl
  led_one_by_one p i h (e ∷ es) sound =
      any_range (leading p i (e ∷ es)) (λ j. ((e.from == j) && here j) || leading p i es j) 0 (length layout.slots)
      (λ j l u. split (is_live layout bits j) (p j) (e.from == j) (entry bits e.here)
      (same_node (slot layout.slots i) (slot layout.slots e.to))
      (list_any (λ (f : Edge). is_taken bits j f && same_node (slot layout.slots i) (slot layout.slots f.to)) es))
      ∙ any_or (λ j. (e.from == j) && here j) (leading p i es) (all_slots layout)
      ∙ ap (λ b. b || list_any (leading p i es) (all_slots layout))
      (any_key here e.from 0 (length layout.slots) (omega arith) (omega (arith, mine.from_in)) ∙ at_from)
      ∙ ap (λ b. (nat_eq e.to i && (p e.from && entry bits e.here)) || b)
      (led_one_by_one p i h es (All-tail (IsSound layout bits) e es sound))
    where
      mine : IsSound layout bits e
      mine = All-head (IsSound layout bits) e es sound

      here : ℕ → Bool
      here j = is_live layout bits j && (p j && (entry bits e.here && same_node (slot layout.slots i) (slot layout.slots e.to)))

      split : (a b c d f g : Bool) → (a && (b && (((c && d) && f) || g))) ≡ ((c && (a && (b && (d && f)))) || (a && (b && g)))
      split true true true d f g = refl
      split true true false d f g = refl
      split true false true d f g = refl
      split true false false d f g = refl
      split false b true d f g = refl
      split false b false d f g = refl

      order : (a b c d : Bool) → (c ≡ true → a ≡ true) → (a && (b && (c && d))) ≡ (d && (b && c))
      order true b c d q = turn b c d
        where
          turn : (b c d : Bool) → (b && (c && d)) ≡ (d && (b && c))
          turn true true true = refl
          turn true true false = refl
          turn true false true = refl
          turn true false false = refl
          turn false c true = refl
          turn false c false = refl
      order false b true d q = absurd (true≢false (sym (q refl)))
      order false true false true q = refl
      order false true false false q = refl
      order false false false true q = refl
      order false false false false q = refl

      at_from : here e.from ≡ (nat_eq e.to i && (p e.from && entry bits e.here))
      at_from =
          ap (λ b. is_live layout bits e.from && (p e.from && (entry bits e.here && b)))
          (slots_same clafers scopes layout bits s i e.to h mine.to_in ∙ equal_swap i e.to)
          ∙ order (is_live layout bits e.from) (p e.from) (entry bits e.here) (e.to == i) mine.lives

  -- a slot to which a taken edge leads is live
  led_to_live : (edges : List Edge) (p : ℕ → Bool) → AreSteps layout bits edges → (i : ℕ) → is_led_to bits edges p i ≡ true
      → is_live layout bits i ≡ true
  led_to_live edges p a i t =
      let r = any_passes (λ (e : Edge). nat_eq e.to i && (p e.from && entry bits e.here)) edges t in
      let e : Edge = r.it in
      let j = both (nat_eq e.to i) (p e.from && entry bits e.here) r.passes in
      let lands = subst (λ (x : Edge). entry bits x.here ≡ true → is_live layout bits x.to ≡ true) r.there
      (a.lands r.place r.it r.within) in
      subst (λ k. is_live layout bits k ≡ true) (same_number e.to i j.0) (lands (both (p e.from) (entry bits e.here) j.1).1)

  -- the entries that one of a list of nodes names
  step_same : (of : Entry → Option Node) (edges : List Edge) → AreSteps layout bits edges
      → ((i : ℕ) → of (entry_at layout bits i) ≡ leads_to layout.slots edges bits i) → (p : ℕ → Bool) (ns : List Node)
      → Same layout bits p ns
      → Same layout bits (is_led_to bits edges p) (those (shown layout bits)
      (λ y. list_any (λ x. has_node ns x.node && option_map_or (same_node y.node) (of x) false) (shown layout bits)))
  step_same of edges a leads p ns same =
      those_same clafers scopes layout bits s (λ y. list_any (λ x. has_node ns x.node && option_map_or (same_node y.node) (of x) false)
      (shown layout bits)) (is_led_to bits edges p)
      (λ i l. inside (is_live layout bits i) (is_led_to bits edges p i) (led_to_live edges p a i)
      ∙ ap (λ b. is_live layout bits i && b) (sym (told i l)))
    where
      inside : (a b : Bool) → (b ≡ true → a ≡ true) → b ≡ (a && b)
      inside true b h = refl
      inside false true h = sym (h refl)
      inside false false h = refl

      names : ℕ → Entry → Bool
      names i x = has_node ns x.node && option_map_or (same_node (slot layout.slots i)) (of x) false

      told : (i : ℕ) → i < length layout.slots → list_any (names i) (shown layout bits) ≡ is_led_to bits edges p i
      told i h =
          any_map (names i) (entry_at layout bits) (filter (is_live layout bits) (all_slots layout))
          ∙ any_filter (λ j. names i (entry_at layout bits j)) (is_live layout bits) (all_slots layout)
          ∙ any_range (λ j. is_live layout bits j && names i (entry_at layout bits j)) (leading p i edges) 0 (length layout.slots)
          (λ j l u. ap (λ b. is_live layout bits j && (b && option_map_or (same_node (slot layout.slots i))
          (of (entry_at layout bits j)) false)) (told_has clafers scopes layout bits s p ns same j (omega (arith, u)))
          ∙ ap (λ o. is_live layout bits j && (p j && option_map_or (same_node (slot layout.slots i)) o false)) (leads j)
          ∙ ap (λ b. is_live layout bits j && (p j && b)) (leads_any (same_node (slot layout.slots i)) edges a j))
          ∙ led_one_by_one p i h edges a.sound

  pub up_same : (p : ℕ → Bool) (ns : List Node) → Same layout bits p ns
      → Same layout bits (is_led_to bits layout.parents p) (parents_of (shown layout bits) ns)
  up_same p ns same = step_same (λ x. x.parent) layout.parents s.parents (λ i. refl) p ns same

  pub follow_same : (p : ℕ → Bool) (ns : List Node) → Same layout bits p ns
      → Same layout bits (is_led_to bits layout.targets p) (targets_of (shown layout bits) ns)
  follow_same p ns same =
      step_same target_node layout.targets s.targets (λ i. target_node_back (leads_to layout.slots layout.targets bits i)
      (integer_at layout.values bits i)) p ns same
