-- What is read is the instance whose text it is.
use Rattle.std.proofs.Common.{◌≡◌, ℕ, zero, suc, ◌+◌, ◌-◌, ◌^◌, ◌<◌, ◌≤◌, Bool, true, false, not, ◌&&◌, List, [], ◌∷◌, ◌++◌, length, map, take, get_or, Option, Some, None, refl, ap, sym, subst, ◌∙◌, arith, true≢false, inl, inr, ◌↔◌, All, IsPermutation}
use Rattle.std.specs.Prelude.{slice_get, nat_lt, nat_le, bytes_eq, is_none, if◌then◌else◌}
use Rattle.std.specs.Option.{option_map, option_map_or, option_and_then, option_to_list}
use Rattle.std.specs.List.{list_all, flat_map, AllByRecursion}
use Rattle.std.specs.List.Sorted.{IsSortedBy}
use Rattle.std.proofs.lemmas.Grind.{common_steps}
use Rattle.std.proofs.lemmas.List.Folds.{list_all-append}
use Rattle.std.proofs.lemmas.List.Sorted.{All-permutation, IsPermutation-sym}
use Rattle.clf_tree.specs.declared.model.Model.{Model}
use Rattle.clf_tree.specs.declared.model.Clafer.{Clafer}
use Rattle.clf_tree.specs.declared.instance.Node.{Node}
use Rattle.clf_tree.specs.declared.instance.Target.{Target}
use Rattle.clf_tree.specs.declared.instance.Target.TheVariants as target
use Rattle.clf_tree.specs.declared.instance.Entry.{Entry}
use Rattle.clf_tree.specs.Lists.{numbers_below}
use Rattle.clf_tree.specs.Named.{IsNamed}
use Rattle.clf_tree.specs.Hierarchy.{is_concrete}
use Rattle.clf_tree.specs.Nodes.{node_in, target_node, named_by, is_before, is_ordered, is_tree}
use Rattle.instance_text.specs.declared.lines.Line.{Line}
use Rattle.instance_text.specs.Names.{shown_clafer}
use Rattle.instance_text.specs.Show.{line, show}
use Rattle.instance_text.specs.Read.{is_held_node, is_held_target, is_held, Shows, FindsShown}
use Rattle.instance_text.specs.Lines.{last_of, entry_below, entries_below}
use Rattle.instance_text.specs.Placed.{names_concrete, has_owner, is_placed}
use Rattle.instance_text.specs.Reading.{lines_read, rises, rising, checked}
use Rattle.instance_text.proofs.Items.{In, first, later, and_left, and_right, and_both, all_in, all_from, in_map}
use Rattle.instance_text.proofs.Walk.{Place, whole, roots, line_at, line_of, entry_of_place, shown_lines, whole_parents}
use Rattle.instance_text.proofs.Reached.{tree_reached, tree_placed, tree_from_reached, whole_in, concrete_listed}
use Rattle.instance_text.proofs.Rising.{sorted_from, rising_is, rising_in}
use Rattle.instance_text.proofs.Pieces.{AreNames, IsGood, IsGoodNode, IsGoodTarget, Passes, passes_map, is_held_any, is_held_line, lines_read_back, lines_room, enough_turns, bytes_itself, bytes_same}
use Rattle.instance_text.proofs.ShownNames.{named_names}

some_same : {X : Type 0} (a b : X) → Some a ≡ Some b → a ≡ b
some_same a b q = (cc)

none_some : {X : Type 0} (a : X) → None ≡ Some a → ⊥
none_some a q = true≢false (ap is_none q)

less_from : (a b : ℕ) → nat_lt a b ≡ true → a < b
less_from a b h = grind (arith, common_steps)

-- ---- permutations keep items

get_in : {X : Type 0} (xs : List X) (k : ℕ) (d : X) → k < length xs → In (get_or xs k d) xs
get_in [] k d h = let no : ⊥ = omega (arith, h) in absurd no
get_in (x ∷ xs) zero d h = first
get_in (x ∷ xs) (suc k) d h = later (get_in xs k d (omega (arith, h)))

at_in : {X : Type 0} (P : X → Type 0) (xs : List X) (z : X) → All P xs → In z xs → P z
at_in P _ z all (first {xs = xs}) = all 0 z (omega arith)
at_in P _ z all (later {y = y} {xs = xs} i) = at_in P xs z (λ k d h. all (suc k) d (omega (arith, h))) i

moved : (xs ys : List Entry) → IsPermutation xs ys → (z : Entry) → In z xs → In z ys
moved xs ys perm z i = at_in (λ w. In w ys) xs z (All-permutation (λ w. In w ys) ys xs (IsPermutation-sym xs ys perm) (λ k d h. get_in ys k d h)) i

-- ---- entries that have room

good_node : (clafers : List Clafer) (n : Node) → is_concrete clafers n.clafer ≡ true → is_held_node n ≡ true → IsGoodNode clafers n
good_node clafers n concrete held = record {
  listed = concrete_listed clafers n.clafer concrete;
  clafer = less_from n.clafer (2 ^ 32) (and_left (nat_lt n.clafer (2 ^ 32)) (nat_lt n.number (2 ^ 32)) held);
  number = less_from n.number (2 ^ 32) (and_right (nat_lt n.clafer (2 ^ 32)) (nat_lt n.number (2 ^ 32)) held);
}

good_target : (clafers : List Clafer) (t : Option Target) → list_all (λ n. is_concrete clafers n.clafer) (option_to_list (option_and_then node_in t)) ≡ true → list_all is_held_node (option_to_list (option_and_then node_in t)) ≡ true
    → option_map_or is_held_target t true ≡ true → IsGoodTarget clafers t
good_target clafers None concrete held room = tt
good_target clafers (Some (target.Int z)) concrete held room = room
good_target clafers (Some (target.Node n)) concrete held room = good_node clafers n (and_left (is_concrete clafers n.clafer) true concrete) (and_left (is_held_node n) true held)

-- of the nodes that an entry names
named_node : (p : Node → Bool) (e : Entry) → list_all p (named_by e) ≡ true → p e.node ≡ true
named_node p e h = and_left (p e.node) (list_all p (option_to_list e.parent ++ option_to_list (target_node e))) h

named_target : (p : Node → Bool) (e : Entry) → list_all p (named_by e) ≡ true → list_all p (option_to_list (target_node e)) ≡ true
named_target p e h =
    and_right (list_all p (option_to_list e.parent)) (list_all p (option_to_list (target_node e)))
    (sym (list_all-append p (option_to_list e.parent) (option_to_list (target_node e))) ∙ and_right (p e.node) (list_all p (option_to_list e.parent ++ option_to_list (target_node e))) h)

entry_good : (clafers : List Clafer) (e : Entry) → names_concrete clafers e ≡ true → is_held e ≡ true → IsGood clafers e
entry_good clafers e concrete held =
    let nodes = and_left (list_all is_held_node (named_by e)) (option_map_or is_held_target e.target true) held in
    let room = and_right (list_all is_held_node (named_by e)) (option_map_or is_held_target e.target true) held in
    record {
      node = good_node clafers e.node (named_node (λ n. is_concrete clafers n.clafer) e concrete) (named_node is_held_node e nodes);
      target = good_target clafers e.target (named_target (λ n. is_concrete clafers n.clafer) e concrete) (named_target is_held_node e nodes) room;
    }

all_places : (P : Place → Type 0) (ps : List Place) → ((p : Place) → In p ps → P p) → AllByRecursion P ps
all_places P [] h = tt
all_places P (p ∷ ps) h = (h p first, all_places P ps (λ q i. h q (later i)))

-- ---- what is read of a text

abbrev entries_read : List (List ℕ) → List ℕ → Option (List Entry)
entries_read names text = option_and_then (entries_below []) (lines_read (length text) names text)

text_read : (model : Model) (names : List (List ℕ)) → AreNames model.clafers names → (es : List Entry) (text : List ℕ) → list_all is_held es ≡ true → list_all (is_placed model.clafers) es ≡ true → text ≡ show model es
    → entries_read names text ≡ Some (map entry_of_place (whole es))
text_read model names are es text held placed is =
    let clafers = model.clafers in
    let lines : text ≡ flat_map (line_at es clafers) (whole es) = is ∙ shown_lines es clafers in
    let good = all_places (λ p. IsGood clafers p.1) (whole es) (λ p i.
    let there = whole_in clafers es p.1 (in_map entry_of_place (whole es) p i) in
    entry_good clafers p.1 (and_left (names_concrete clafers p.1) (has_owner clafers p.1) (all_in (is_placed clafers) es p.1 there placed)) (all_in is_held es p.1 there held)) in
    ap (entries_read names) lines
    ∙ ap (option_and_then (entries_below [])) (lines_read_back clafers names are (whole es) (length (flat_map (line_at es clafers) (whole es))) good (enough_turns clafers names are (whole es)))
    ∙ whole_parents es

-- ---- what is read has room

all_two : {X : Type 0} (p : X → Bool) (xs ys : List X) → list_all p xs ≡ true → list_all p ys ≡ true → list_all p (xs ++ ys) ≡ true
all_two p [] ys h k = k
all_two p (x ∷ xs) ys h k = and_both (p x) (list_all p (xs ++ ys)) (and_left (p x) (list_all p xs) h) (all_two p xs ys (and_right (p x) (list_all p xs) h) k)

all_taken : (p : Node → Bool) (k : ℕ) (ns : List Node) → list_all p ns ≡ true → list_all p (take k ns) ≡ true
all_taken p zero ns h = refl
all_taken p (suc k) [] h = refl
all_taken p (suc k) (n ∷ ns) h = and_both (p n) (list_all p (take k ns)) (and_left (p n) (list_all p ns) h) (all_taken p k ns (and_right (p n) (list_all p ns) h))

all_got : (p : Node → Bool) (k : ℕ) (ns : List Node) → list_all p ns ≡ true → list_all p (option_to_list (slice_get ns k)) ≡ true
all_got p k [] h = refl
all_got p zero (n ∷ ns) h = and_both (p n) true (and_left (p n) (list_all p ns) h) refl
all_got p (suc k) (n ∷ ns) h = all_got p k ns (and_right (p n) (list_all p ns) h)

target_nodes : (t : Option Target) → option_map_or is_held_any t true ≡ true → list_all is_held_node (option_to_list (option_and_then node_in t)) ≡ true
target_nodes None h = refl
target_nodes (Some (target.Int z)) h = refl
target_nodes (Some (target.Node n)) h = and_both (is_held_node n) true h refl

target_ints : (t : Option Target) → option_map_or is_held_any t true ≡ true → option_map_or is_held_target t true ≡ true
target_ints None h = refl
target_ints (Some (target.Int z)) h = h
target_ints (Some (target.Node n)) h = refl

entry_room : (above : List Node) (l : Line) → list_all is_held_node above ≡ true → is_held_line l ≡ true → is_held (entry_below above l) ≡ true
entry_room above l h k =
    let node = and_left (is_held_node l.node) (option_map_or is_held_any l.target true) k in
    let room = and_right (is_held_node l.node) (option_map_or is_held_any l.target true) k in
    let parents = option_to_list (last_of above) in
    let targets = option_to_list (option_and_then node_in l.target) in
    and_both (is_held_node l.node && list_all is_held_node (parents ++ targets)) (option_map_or is_held_target l.target true)
    (and_both (is_held_node l.node) (list_all is_held_node (parents ++ targets)) node (all_two is_held_node parents targets (all_got is_held_node (length above - 1) above h) (target_nodes l.target room)))
    (target_ints l.target room)

entries_room : (ls : List Line) (above : List Node) → list_all is_held_node above ≡ true → list_all is_held_line ls ≡ true → Passes (list_all is_held) (entries_below above ls)
entries_room [] above h k = refl
entries_room (l ∷ ls) above h k =
    by (nat_le l.depth (length above))
    (entries_room ls (take l.depth above ++ l.node ∷ [])
    (all_two is_held_node (take l.depth above) (l.node ∷ []) (all_taken is_held_node l.depth above h) (and_both (is_held_node l.node) true (and_left (is_held_node l.node) (option_map_or is_held_any l.target true) (and_left (is_held_line l) (list_all is_held_line ls) k)) refl))
    (and_right (is_held_line l) (list_all is_held_line ls) k))
  where
    here : is_held (entry_below (take l.depth above) l) ≡ true
    here = entry_room (take l.depth above) l (all_taken is_held_node l.depth above h) (and_left (is_held_line l) (list_all is_held_line ls) k)

    by_rest : (o : Option (List Entry)) → Passes (list_all is_held) o → Passes (list_all is_held) (option_map (λ es. entry_below (take l.depth above) l ∷ es) o)
    by_rest None g = refl
    by_rest (Some es) g = and_both (is_held (entry_below (take l.depth above) l)) (list_all is_held es) here g

    by : (b : Bool) → Passes (list_all is_held) (entries_below (take l.depth above ++ l.node ∷ []) ls)
        → Passes (list_all is_held) (if b then option_map (λ es. entry_below (take l.depth above) l ∷ es) (entries_below (take l.depth above ++ l.node ∷ []) ls) else None)
    by true g = by_rest (entries_below (take l.depth above ++ l.node ∷ []) ls) g
    by false g = refl

read_room : (names : List (List ℕ)) (text : List ℕ) (ps : List Entry) → entries_read names text ≡ Some ps → list_all is_held ps ≡ true
read_room names text ps is = ap (λ o. option_map_or (list_all is_held) o true) (sym is) ∙ by (lines_read (length text) names text) (lines_room (length text) names text)
  where
    by : (o : Option (List Line)) → Passes (list_all is_held_line) o → Passes (list_all is_held) (option_and_then (entries_below []) o)
    by None h = refl
    by (Some ls) h = entries_room ls [] refl h

-- ---- the inverse

tree_held : (model : Model) (es : List Entry) (text : List ℕ) → Shows model es text → list_all (is_placed model.clafers) es ≡ true
tree_held model es text s = tree_placed model.clafers es s.tree

pub none_read : (model : Model) (names : List (List ℕ)) (text : List ℕ) → names ≡ map (shown_clafer model.clafers) (numbers_below (length model.clafers)) → None ≡ entries_read names text → IsNamed model
    → FindsShown model text None
none_read model names text are none named es = (
  λ s. let names_are : AreNames model.clafers names = subst (AreNames model.clafers) (sym are) (named_names model named) in
      absurd (none_some (map entry_of_place (whole es)) (none ∙ text_read model names names_are es text s.held (tree_held model es text s) s.is)),
  λ e. absurd (none_some es e),
)

module _ (model : Model) (names : List (List ℕ)) (text : List ℕ) (named : IsNamed model) (are : names ≡ map (shown_clafer model.clafers) (numbers_below (length model.clafers)))
    (ps ss : List Entry) (read : entries_read names text ≡ Some ps) (perm : IsPermutation ps ss) (up : IsSortedBy (λ (a b : Entry). is_before a.node b.node) ss) where
  names_are : AreNames model.clafers names
  names_are = subst (AreNames model.clafers) (sym are) (named_names model named)

  -- the entries that were read are those of each instance that the text shows
  same_places : (es : List Entry) → list_all is_held es ≡ true → list_all (is_placed model.clafers) es ≡ true → text ≡ show model es → ps ≡ map entry_of_place (whole es)
  same_places es held placed is = some_same ps (map entry_of_place (whole es)) (sym read ∙ text_read model names names_are es text held placed is)

  same_instance : (es : List Entry) → Shows model es text → rising None ss ≡ es
  same_instance es s =
      let places = same_places es s.held (tree_held model es text s) s.is in
      rising_is ss es None (sorted_from ss up) s.ordered (all_from (λ (e : Entry). rises None e.node) es (λ e i. refl))
      (λ e i. moved ps ss perm e (subst (In e) (sym places) (tree_reached model.clafers es s.ordered s.tree e i)))
      (λ z i. inl (whole_in model.clafers es z (subst (In z) places (moved ss ps (IsPermutation-sym ps ss perm) z i))))

  found_one : (es : List Entry) → Shows model es text → checked model text (rising None ss) ≡ Some es
  found_one es s =
      ap (checked model text) (same_instance es s)
      ∙ ap (λ b. if b then Some es else None)
      (and_both (list_all (is_placed model.clafers) es) (bytes_eq (show model es) text) (tree_held model es text s) (ap (bytes_eq (show model es)) s.is ∙ bytes_itself (show model es)))

  shows_rising : is_ordered (rising None ss) ≡ true → (list_all (is_placed model.clafers) (rising None ss) && bytes_eq (show model (rising None ss)) text) ≡ true → Shows model (rising None ss) text
  shows_rising ordered test =
      let es = rising None ss in
      let placed = and_left (list_all (is_placed model.clafers) es) (bytes_eq (show model es) text) test in
      let is : text ≡ show model es = sym (bytes_same (show model es) text (and_right (list_all (is_placed model.clafers) es) (bytes_eq (show model es) text) test)) in
      let there : (x : Entry) → In x es → In x ps = λ x i. moved ss ps (IsPermutation-sym ps ss perm) x (rising_in ss None x i) in
      let held : list_all is_held es ≡ true = all_from is_held es (λ x i. all_in is_held ps x (there x i) (read_room names text ps read)) in
      let places = same_places es held placed is in
      record {
        ordered = ordered;
        held = held;
        tree = tree_from_reached model.clafers es ordered placed (λ x i. subst (In x) places (there x i));
        is = is;
      }

  found_back : is_ordered (rising None ss) ≡ true → (es : List Entry) → checked model text (rising None ss) ≡ Some es → Shows model es text
  found_back ordered es found = by (list_all (is_placed model.clafers) (rising None ss) && bytes_eq (show model (rising None ss)) text) refl found
    where
      by : (b : Bool) → (list_all (is_placed model.clafers) (rising None ss) && bytes_eq (show model (rising None ss)) text) ≡ b → (if b then Some (rising None ss) else None) ≡ Some es → Shows model es text
      by true h f = subst (λ z. Shows model z text) (some_same (rising None ss) es f) (shows_rising ordered h)
      by false h f = absurd (none_some es f)

pub some_read : (model : Model) (names : List (List ℕ)) (text : List ℕ) (ps ss is : List Entry) (found : Option (List Entry)) → names ≡ map (shown_clafer model.clafers) (numbers_below (length model.clafers))
    → Some ps ≡ entries_read names text → IsPermutation ps ss → IsSortedBy (λ (a b : Entry). is_before a.node b.node) ss → is ≡ rising None ss → is_ordered is ≡ true → found ≡ checked model text is → IsNamed model
    → FindsShown model text found
some_read model names text ps ss is found are read perm up rise ordered same named es =
    let found_is : found ≡ checked model text (rising None ss) = same ∙ ap (checked model text) rise in (
      λ s. found_is ∙ found_one model names text named are ps ss (sym read) perm up es s,
      λ e. found_back model names text named are ps ss (sym read) perm up (ap is_ordered (sym rise) ∙ ordered) es (sym found_is ∙ e),
    )
