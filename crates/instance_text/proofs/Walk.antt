-- The lines of an instance's text, in their order.
use Rattle.std.proofs.Common.{◌≡◌, ℕ, zero, suc, ◌+◌, ◌-◌, ◌<◌, ◌≤◌, Bool, true, false, List, [], ◌∷◌, ◌++◌, length, map, take, cond, Option, Some, None, refl, ap, sym, subst, ◌∙◌, arith, append-nil, append_assoc, is_none, true≢false}
use Rattle.std.specs.Prelude.{slice_get, nat_le, if◌then◌else◌}
use Rattle.std.specs.Option.{option_map}
use Rattle.std.specs.List.{filter, flat_map, AllByRecursion}
use Rattle.std.proofs.lemmas.Grind.{common_steps}
use Rattle.std.proofs.lemmas.List.Concat.{flat_map-append}
use Rattle.clf_tree.specs.declared.model.Clafer.{Clafer}
use Rattle.clf_tree.specs.declared.instance.Node.{Node}
use Rattle.clf_tree.specs.declared.instance.Entry.{Entry}
use Rattle.clf_tree.specs.Nodes.{same_node}
use Rattle.clf_tree.specs.Shape.{is_child_of}
use Rattle.instance_text.specs.declared.lines.Line.{Line}
use Rattle.instance_text.specs.Show.{line, subtree}
use Rattle.instance_text.specs.Lines.{last_of, entry_below, entries_below}

-- an entry and how deep it stands
abbrev pub Place : Type 0
Place = ℕ × Entry

flat_map_nested : {X Y Z : Type 0} (f : X → List Z) (g : X → List Y) (h : Y → List Z) → ((x : X) → f x ≡ flat_map h (g x)) → (xs : List X) → flat_map f xs ≡ flat_map h (flat_map g xs)
flat_map_nested f g h e [] = refl
flat_map_nested f g h e (x ∷ xs) =
    ap (λ t. t ++ flat_map f xs) (e x) ∙ ap (λ t. flat_map h (g x) ++ t) (flat_map_nested f g h e xs) ∙ sym (flat_map-append h (g x) (flat_map g xs))

module _ (entries : List Entry) where
  abbrev pub walk : ℕ → ℕ → Entry → List Place
  walk zero depth e = []
  walk (suc n) depth e = (depth, e) ∷ flat_map (walk n (depth + 1)) (filter (is_child_of e) entries)

  abbrev pub roots : List Entry
  roots = filter (λ (e : Entry). is_none e.parent) entries

  abbrev pub whole : List Place
  whole = flat_map (walk (length entries) 0) roots

  abbrev pub line_at : List Clafer → Place → List ℕ
  line_at clafers p = line clafers p.0 p.1

  subtree_lines : (clafers : List Clafer) (n depth : ℕ) (e : Entry) → subtree clafers entries n depth e ≡ flat_map (line_at clafers) (walk n depth e)
  subtree_lines clafers zero depth e = refl
  subtree_lines clafers (suc n) depth e =
      ap (λ t. line clafers depth e ++ t) (flat_map_nested (subtree clafers entries n (depth + 1)) (walk n (depth + 1)) (line_at clafers) (subtree_lines clafers n (depth + 1)) (filter (is_child_of e) entries))

  pub shown_lines : (clafers : List Clafer) → flat_map (subtree clafers entries (length entries) 0) roots ≡ flat_map (line_at clafers) whole
  shown_lines clafers = flat_map_nested (subtree clafers entries (length entries) 0) (walk (length entries) 0) (line_at clafers) (subtree_lines clafers (length entries) 0) roots

-- ---- the parents of lines are those of the entries

abbrev pub line_of : Place → Line
line_of p = record { depth = p.0; node = p.1.node; target = p.1.target }

abbrev pub entry_of_place : Place → Entry
entry_of_place p = p.1

-- whatever stood deeper before, the lines that follow lead to this
abbrev LeadsTo : List Node → List Line → Option (List Entry) → Type 0
LeadsTo above ls r = (deeper : List Node) → entries_below (above ++ deeper) ls ≡ r

abbrev before : List Entry → Option (List Entry) → Option (List Entry)
before es r = option_map (λ fs. es ++ fs) r

before_none : (r : Option (List Entry)) → before [] r ≡ r
before_none None = refl
before_none (Some fs) = refl

before_two : (es fs : List Entry) (r : Option (List Entry)) → before es (before fs r) ≡ before (es ++ fs) r
before_two es fs None = refl
before_two es fs (Some gs) = ap (λ z. Some z) (sym (append_assoc es fs gs))

before_one : (e : Entry) (es : List Entry) (r : Option (List Entry)) → option_map (λ fs. e ∷ fs) (before es r) ≡ before (e ∷ es) r
before_one e es None = refl
before_one e es (Some gs) = refl

pub map_two : {X Y : Type 0} (f : X → Y) (xs ys : List X) → map f (xs ++ ys) ≡ map f xs ++ map f ys
map_two f [] ys = refl
map_two f (x ∷ xs) ys = ap (λ zs. f x ∷ zs) (map_two f xs ys)

shallow : (above deeper : List Node) → nat_le (length above) (length (above ++ deeper)) ≡ true
shallow above deeper = grind (arith, common_steps)

front : (above deeper : List Node) → take (length above) (above ++ deeper) ≡ above
front [] deeper = refl
front (n ∷ above) deeper = ap (λ ns. n ∷ ns) (front above deeper)

get_last : (above : List Node) (n : Node) → slice_get (above ++ n ∷ []) (length above) ≡ Some n
get_last [] n = refl
get_last (m ∷ above) n = get_last above n

last_is : (above : List Node) (n : Node) → last_of (above ++ n ∷ []) ≡ Some n
last_is above n = let e : length (above ++ n ∷ []) - 1 ≡ length above = grind (arith, common_steps) in ap (slice_get (above ++ n ∷ [])) e ∙ get_last above n

pub same_equal : (m n : Node) → same_node m n ≡ true → m ≡ n
same_equal m n h =
    let c : m.clafer ≡ n.clafer = grind (arith, common_steps) in
    let k : m.number ≡ n.number = grind (arith, common_steps) in
    ap (λ z. record m { clafer = z }) c ∙ ap (λ z. record n { number = z }) k

abbrev entry_with : Entry → Option Node → Entry
entry_with e p = record { node = e.node; parent = p; target = e.target }

abbrev HasParent : List Node → Entry → Type 0
HasParent above c = last_of above ≡ c.parent

child_parent : (above : List Node) (e c : Entry) → is_child_of e c ≡ true → HasParent (above ++ e.node ∷ []) c
child_parent above e c h = last_is above e.node ∙ by c.parent h
  where
    by : (o : Option Node) → Rattle.std.specs.Option.option_map_or (same_node e.node) o false ≡ true → Some e.node ≡ o
    by None k = absurd (true≢false (sym k))
    by (Some p) k = ap (λ z. Some z) (same_equal e.node p k)

root_parent : (c : Entry) → is_none c.parent ≡ true → HasParent [] c
root_parent c h = by c.parent h
  where
    by : (o : Option Node) → is_none o ≡ true → None ≡ o
    by None k = refl
    by (Some p) k = absurd (true≢false (sym k))

all_kept : (P : Entry → Type 0) (p : Entry → Bool) → ((c : Entry) → p c ≡ true → P c) → (cs : List Entry) → AllByRecursion P (filter p cs)
all_kept P p h [] = tt
all_kept P p h (c ∷ cs) = by (p c) refl (all_kept P p h cs)
  where
    by : (b : Bool) → p c ≡ b → AllByRecursion P (filter p cs) → AllByRecursion P (cond b (c ∷ filter p cs) (filter p cs))
    by true k rest = (h c k, rest)
    by false k rest = rest

module _ (entries : List Entry) where
  -- entries of one parent, each with what stands below it
  forest_parents : (above : List Node) (w : Entry → List Place)
      → ((c : Entry) (ls : List Line) (r : Option (List Entry)) → HasParent above c → LeadsTo above ls r → LeadsTo above (map line_of (w c) ++ ls) (before (map entry_of_place (w c)) r))
      → (cs : List Entry) → AllByRecursion (HasParent above) cs → (ls : List Line) (r : Option (List Entry)) → LeadsTo above ls r
      → LeadsTo above (map line_of (flat_map w cs) ++ ls) (before (map entry_of_place (flat_map w cs)) r)
  forest_parents above w step [] all ls r leads = λ deeper. leads deeper ∙ sym (before_none r)
  forest_parents above w step (c ∷ cs) all ls r leads =
      let rest = forest_parents above w step cs all.1 ls r leads in
      let here = step c (map line_of (flat_map w cs) ++ ls) (before (map entry_of_place (flat_map w cs)) r) all.0 rest in
      λ deeper.
      ap (λ k. entries_below (above ++ deeper) (k ++ ls)) (map_two line_of (w c) (flat_map w cs))
      ∙ ap (entries_below (above ++ deeper)) (append_assoc (map line_of (w c)) (map line_of (flat_map w cs)) ls)
      ∙ here deeper
      ∙ before_two (map entry_of_place (w c)) (map entry_of_place (flat_map w cs)) r
      ∙ ap (λ k. before k r) (sym (map_two entry_of_place (w c) (flat_map w cs)))

  tree_parents : (n depth : ℕ) (above : List Node) (e : Entry) (ls : List Line) (r : Option (List Entry)) → depth ≡ length above → HasParent above e → LeadsTo above ls r
      → LeadsTo above (map line_of (walk entries n depth e) ++ ls) (before (map entry_of_place (walk entries n depth e)) r)
  tree_parents zero depth above e ls r d parent leads = λ deeper. leads deeper ∙ sym (before_none r)
  tree_parents (suc n) depth above e ls r d parent leads =
      let cs = filter (is_child_of e) entries in
      let w = walk entries n (depth + 1) in
      let inner : List Node = above ++ e.node ∷ [] in
      let below : LeadsTo inner ls r = λ deeper. ap (λ k. entries_below k ls) (append_assoc above (e.node ∷ []) deeper) ∙ leads (e.node ∷ deeper) in
      let longer : depth + 1 ≡ length inner = longer_by depth above e.node d in
      let forest = forest_parents inner w (λ c ks q p l. tree_parents n (depth + 1) inner c ks q longer p l) cs (all_kept (HasParent inner) (is_child_of e) (child_parent above e) entries) ls r below in
      λ deeper.
      let l : Line = line_of (depth, e) in
      let ks = map line_of (flat_map w cs) ++ ls in
      let at : take depth (above ++ deeper) ≡ above = ap (λ k. take k (above ++ deeper)) d ∙ front above deeper in
      let fits : nat_le depth (length (above ++ deeper)) ≡ true = ap (λ k. nat_le k (length (above ++ deeper))) d ∙ shallow above deeper in
      ap (λ b. if b then option_map (λ es. entry_below (take depth (above ++ deeper)) l ∷ es) (entries_below (take depth (above ++ deeper) ++ e.node ∷ []) ks) else None) fits
      ∙ ap (λ k. option_map (λ es. entry_below k l ∷ es) (entries_below (k ++ e.node ∷ []) ks)) at
      ∙ ap (λ p. option_map (λ es. entry_with e p ∷ es) (entries_below inner ks)) parent
      ∙ ap (option_map (λ es. e ∷ es)) (ap (λ k. entries_below k ks) (sym (append-nil inner)) ∙ forest [])
      ∙ before_one e (map entry_of_place (flat_map w cs)) r
    where
      longer_by : (m : ℕ) (ns : List Node) (x : Node) → m ≡ length ns → m + 1 ≡ length (ns ++ x ∷ [])
      longer_by m ns x h = grind (arith, common_steps)

  -- the lines of the whole text give back the entries
  pub whole_parents : entries_below [] (map line_of (whole entries)) ≡ Some (map entry_of_place (whole entries))
  whole_parents =
      let forest = forest_parents [] (walk entries (length entries) 0) (λ c ls r p leads. tree_parents (length entries) 0 [] c ls r refl p leads) (roots entries)
      (all_kept (HasParent []) (λ (e : Entry). is_none e.parent) root_parent entries) [] (Some []) (λ deeper. refl) in
      ap (entries_below []) (sym (append-nil (map line_of (whole entries)))) ∙ forest [] ∙ ap (λ z. Some z) (append-nil (map entry_of_place (whole entries)))
