-- Where no clafer contains itself, following parents ends.
use Rattle.std.proofs.Common.{◌≡◌, ℕ, zero, suc, ◌+◌, ◌<◌, ◌≤◌, Bool, true, false, not, cond, ◌&&◌, ◌||◌, List, [], ◌∷◌, length, get_or, Option, Some, None, refl, sym, ap, ◌∙◌, subst, arith}
use Rattle.std.specs.Prelude.{◌==◌, is_none, count_by}
use Rattle.std.specs.Option.{option_map_or, option_and_then}
use Rattle.std.specs.List.{filter, list_any, All, range_with_len}
use Rattle.std.proofs.lemmas.Bool.{true≢false}
use Rattle.std.proofs.lemmas.Grind.{common_steps}
use Rattle.std.proofs.lemmas.Map.Views.{any-filter_same}
use Rattle.clf_tree.specs.declared.model.Clafer.{Clafer}
use Rattle.clf_tree.specs.declared.instance.Node.{Node}
use Rattle.clf_tree.specs.declared.instance.Entry.{Entry}
use Rattle.clf_tree.specs.Lists.{numbers_below, has}
use Rattle.clf_tree.specs.Hierarchy.{owners, parent_of, is_concrete, is_a, concrete_below}
use Rattle.clf_tree.specs.Named.{owners_of, is_outside, contains_itself}
use Rattle.clf_tree.specs.Nodes.{same_node, has_node, has_some, nodes_of, parent_in, has_its_parent, ends_within}
use Rattle.shown_instance.proofs.Order.{both, together, same_nodes}
use Rattle.shown_instance.proofs.Fitted.{concrete_within, or_right}
use Rattle.shown_instance.proofs.Belonging.{any_range}
use Rattle.shown_instance.proofs.Counts.{count-cons}
use Rattle.shown_instance.proofs.Telling.{EntryFound, entry_found}

same_number : (a b : ℕ) → (a == b) ≡ true → a ≡ b
same_number a b t = grind (arith, common_steps)

itself : (n : ℕ) → (n == n) ≡ true
itself n = grind (arith, common_steps)

-- ---- counts

count_less : {X : Type 0} (p q : X → Bool) (xs : List X) → ((x : X) → q x ≡ true → p x ≡ true) → count_by q xs ≤ count_by p xs
count_less p q [] h = omega arith
count_less p q (x ∷ xs) h =
    let a = count-cons p x xs in
    let b = count-cons q x xs in
    let c = count_less p q xs h in
    let d = at (p x) (q x) (h x) in
    omega (arith, a, b, c, d)
  where
    at : (a b : Bool) → (b ≡ true → a ≡ true) → cond b 1 0 ≤ cond a 1 0
    at true true f = omega arith
    at true false f = omega arith
    at false false f = omega arith
    at false true f = absurd (true≢false (sym (f refl)))

-- an item that only the first test passes makes its count greater
count_drops : {X : Type 0} (p q same : X → Bool) (xs : List X) → ((x : X) → q x ≡ true → p x ≡ true) → list_any same xs ≡ true → ((x : X) → same x ≡ true → (p x ≡ true) × (q x ≡ false)) → count_by q xs + 1 ≤ count_by p xs
count_drops {X = X} p q same [] h some this = absurd (true≢false (sym some))
count_drops {X = X} p q same (x ∷ xs) h some this = by (same x) refl (count_drops p q same xs h)
  where
    at : (a b : Bool) → (b ≡ true → a ≡ true) → cond b 1 0 ≤ cond a 1 0
    at true true f = omega arith
    at true false f = omega arith
    at false false f = omega arith
    at false true f = absurd (true≢false (sym (f refl)))

    by : (b : Bool) → same x ≡ b → (list_any same xs ≡ true → ((y : X) → same y ≡ true → (p y ≡ true) × (q y ≡ false)) → count_by q xs + 1 ≤ count_by p xs) → count_by q (x ∷ xs) + 1 ≤ count_by p (x ∷ xs)
    by true e rest =
        let w = this x e in
        let a : count_by p (x ∷ xs) ≡ 1 + count_by p xs = count-cons p x xs ∙ ap (λ b. cond b 1 0 + count_by p xs) w.0 in
        let b : count_by q (x ∷ xs) ≡ 0 + count_by q xs = count-cons q x xs ∙ ap (λ b. cond b 1 0 + count_by q xs) w.1 in
        let c = count_less p q xs h in
        omega (arith, a, b, c)
    by false e rest =
        let a = count-cons p x xs in
        let b = count-cons q x xs in
        let c = rest (sym (ap (λ b. b || list_any same xs) e) ∙ some) this in
        let d = at (p x) (q x) (h x) in
        omega (arith, a, b, c, d)

count_all : {X : Type 0} (p : X → Bool) (xs : List X) → count_by p xs ≤ length xs
count_all p [] = omega arith
count_all p (x ∷ xs) = let a = count-cons p x xs in let b = count_all p xs in let c = at (p x) in omega (arith, a, b, c)
  where
    at : (b : Bool) → cond b 1 0 ≤ 1
    at true = omega arith
    at false = omega arith

-- ---- going from owner to owner

has_kept : (p : ℕ → Bool) (xs : List ℕ) (d : ℕ) → has (filter p xs) d ≡ (p d && has xs d)
has_kept p xs d = any-filter_same (λ y. d == y) p (p d) (λ k s. ap p (sym (same_number d k s))) xs

any_has : (p : ℕ → Bool) (xs : List ℕ) (c : ℕ) → has xs c ≡ true → p c ≡ true → list_any p xs ≡ true
any_has p [] c h t = absurd (true≢false (sym h))
any_has p (x ∷ xs) c h t = by (c == x) refl (any_has p xs c)
  where
    by : (b : Bool) → (c == x) ≡ b → (has xs c ≡ true → p c ≡ true → list_any p xs ≡ true) → (p x || list_any p xs) ≡ true
    by true e rest = ap (λ b. b || list_any p xs) (ap p (sym (same_number c x e)) ∙ t)
    by false e rest = or_right (p x) (list_any p xs) (rest (sym (ap (λ b. b || has xs c) e) ∙ h) t)

owner_within : (clafers : List Clafer) (c d : ℕ) → has (owners clafers c) d ≡ true → d < length clafers
owner_within clafers c d h = by (parent_of clafers c) refl
  where
    by : (o : Option ℕ) → parent_of clafers c ≡ o → d < length clafers
    by None e = absurd (true≢false (sym (sym (ap (λ o. has (option_map_or (concrete_below clafers) o []) d) e) ∙ h)))
    by (Some p) e =
        let kept = sym (has_kept (λ k. is_concrete clafers k && is_a clafers k p) (numbers_below (length clafers)) d) ∙ sym (ap (λ o. has (option_map_or (concrete_below clafers) o []) d) e) ∙ h in
        concrete_within clafers d (both (is_concrete clafers d) (is_a clafers d p) (both (is_concrete clafers d && is_a clafers d p) (has (numbers_below (length clafers)) d) kept).0).0

owner_of : (clafers : List Clafer) (ds : List ℕ) (c d : ℕ) → has ds c ≡ true → has (owners clafers c) d ≡ true → has (owners_of clafers ds) d ≡ true
owner_of clafers ds c d h o =
    has_kept (λ y. list_any (λ x. has (owners clafers x) y) ds) (numbers_below (length clafers)) d
    ∙ together (list_any (λ x. has (owners clafers x) d) ds) (has (numbers_below (length clafers)) d) (any_has (λ x. has (owners clafers x) d) ds c h o)
    (any_range (λ y. d == y) 0 (length clafers) d (omega arith) (let w = owner_within clafers c d o in omega (arith, w)) (itself d))

at_once : (clafers : List Clafer) (n : ℕ) (ds : List ℕ) (c : ℕ) → has ds c ≡ true → is_outside clafers n ds c ≡ true
at_once clafers zero ds c h = h
at_once clafers (suc n) ds c h = ap (λ b. b || is_outside clafers n (owners_of clafers ds) c) h

one_step_more : (clafers : List Clafer) (n : ℕ) (ds : List ℕ) (c d : ℕ) → is_outside clafers n ds c ≡ true → has (owners clafers c) d ≡ true → is_outside clafers (suc n) ds d ≡ true
one_step_more clafers zero ds c d h o = or_right (has ds d) (has (owners_of clafers ds) d) (owner_of clafers ds c d h o)
one_step_more clafers (suc n) ds c d h o = by (has ds c) refl (λ t. one_step_more clafers n (owners_of clafers ds) c d t o)
  where
    by : (b : Bool) → has ds c ≡ b → (is_outside clafers n (owners_of clafers ds) c ≡ true → is_outside clafers (suc n) (owners_of clafers ds) d ≡ true) → is_outside clafers (suc (suc n)) ds d ≡ true
    by true e rest = or_right (has ds d) (is_outside clafers (suc n) (owners_of clafers ds) d) (at_once clafers (suc n) (owners_of clafers ds) d (owner_of clafers ds c d e o))
    by false e rest = or_right (has ds d) (is_outside clafers (suc n) (owners_of clafers ds) d) (rest (sym (ap (λ b. b || is_outside clafers n (owners_of clafers ds) c) e) ∙ h))

more_steps : (clafers : List Clafer) (n m : ℕ) (ds : List ℕ) (c : ℕ) → n ≤ m → is_outside clafers n ds c ≡ true → is_outside clafers m ds c ≡ true
more_steps clafers zero m ds c l h = at_once clafers m ds c h
more_steps clafers (suc n) zero ds c l h = absurd (omega (arith, l))
more_steps clafers (suc n) (suc m) ds c l h = by (has ds c) refl (λ t. more_steps clafers n m (owners_of clafers ds) c (omega (arith, l)) t)
  where
    by : (b : Bool) → has ds c ≡ b → (is_outside clafers n (owners_of clafers ds) c ≡ true → is_outside clafers m (owners_of clafers ds) c ≡ true) → (has ds c || is_outside clafers m (owners_of clafers ds) c) ≡ true
    by true e rest = ap (λ b. b || is_outside clafers m (owners_of clafers ds) c) e
    by false e rest = or_right (has ds c) (is_outside clafers m (owners_of clafers ds) c) (rest (sym (ap (λ b. b || is_outside clafers n (owners_of clafers ds) c) e) ∙ h))

-- each clafer of the way owns the next older one, and d the newest
abbrev IsWay : List Clafer → ℕ → List ℕ → Type 0
IsWay clafers d [] = Unit {0}
IsWay clafers d (c ∷ cs) = (has (owners clafers c) d ≡ true) × IsWay clafers c cs

-- a clafer of the way leads to its end
on_the_way : (clafers : List Clafer) (d x : ℕ) (path : List ℕ) → IsWay clafers d path → has path x ≡ true → is_outside clafers (length path) (owners clafers x) d ≡ true
on_the_way clafers d x [] w h = absurd (true≢false (sym h))
on_the_way clafers d x (c ∷ cs) w h = by (x == c) refl (on_the_way clafers c x cs w.1)
  where
    by : (b : Bool) → (x == c) ≡ b → (has cs x ≡ true → is_outside clafers (length cs) (owners clafers x) c ≡ true) → is_outside clafers (suc (length cs)) (owners clafers x) d ≡ true
    by true e rest = at_once clafers (suc (length cs)) (owners clafers x) d (subst (λ k. has (owners clafers k) d ≡ true) (sym (same_number x c e)) w.0)
    by false e rest = one_step_more clafers (length cs) (owners clafers x) c d (rest (sym (ap (λ b. b || has cs x) e) ∙ h)) w.0

-- ---- going from parent to parent

-- whether a clafer isn't on the way
abbrev is_fresh : List ℕ → ℕ → Bool
is_fresh path c = not (has path c)

fresh_more : (path : List ℕ) (c x : ℕ) → is_fresh (c ∷ path) x ≡ true → is_fresh path x ≡ true
fresh_more path c x h = at (x == c) (has path x) h
  where
    at : (a b : Bool) → not (a || b) ≡ true → not b ≡ true
    at true b t = absurd (true≢false (sym t))
    at false b t = t

-- the parent of an entry is an entry of an owner
parent_is : (clafers : List Clafer) (entries : List Entry) (x : Entry) (p : Node) → has_its_parent clafers entries x ≡ true → x.parent ≡ Some p → (has (owners clafers x.node.clafer) p.clafer ≡ true) × (has_node (nodes_of entries) p ≡ true)
parent_is clafers entries x p h e = by (parent_of clafers x.node.clafer) refl
  where
    owned : Node → Bool
    owned m = has (owners clafers x.node.clafer) m.clafer

    by : (o : Option ℕ) → parent_of clafers x.node.clafer ≡ o → (owned p ≡ true) × (has_node (nodes_of entries) p ≡ true)
    by None n = absurd (true≢false (sym (sym (ap (λ o. option_map_or (λ q. has_some (filter owned (nodes_of entries)) x.parent) o (is_none x.parent)) n ∙ ap is_none e) ∙ h)))
    by (Some q) n =
        both (owned p) (has_node (nodes_of entries) p)
        (sym (any-filter_same (same_node p) owned (owned p) (λ m s. ap owned (sym (same_nodes p m s))) (nodes_of entries))
        ∙ sym (ap (λ o. option_map_or (λ r. has_some (filter owned (nodes_of entries)) x.parent) o (is_none x.parent)) n ∙ ap (has_some (filter owned (nodes_of entries))) e) ∙ h)

has_clafer : (es : List Entry) (m : Node) → has_node (nodes_of es) m ≡ true → list_any (λ (e : Entry). e.node.clafer == m.clafer) es ≡ true
has_clafer [] m h = absurd (true≢false (sym h))
has_clafer (e ∷ es) m h = by (same_node m e.node) refl (has_clafer es m)
  where
    by : (b : Bool) → same_node m e.node ≡ b → (has_node (nodes_of es) m ≡ true → list_any (λ (x : Entry). x.node.clafer == m.clafer) es ≡ true) → ((e.node.clafer == m.clafer) || list_any (λ (x : Entry). x.node.clafer == m.clafer) es) ≡ true
    by true s rest = ap (λ b. b || list_any (λ (x : Entry). x.node.clafer == m.clafer) es) (ap (λ (n : Node). n.clafer == m.clafer) (sym (same_nodes m e.node s)) ∙ itself m.clafer)
    by false s rest = or_right (e.node.clafer == m.clafer) (list_any (λ (x : Entry). x.node.clafer == m.clafer) es) (rest (sym (ap (λ b. b || has_node (nodes_of es) m) s) ∙ h))

-- what is known on the way to a node
record IsOnWay (clafers : List Clafer) (entries : List Entry) (path : List ℕ) (m : Node) : Type 0 where
  there : has_node (nodes_of entries) m ≡ true
  within : m.clafer < length clafers
  way : IsWay clafers m.clafer path

ends : (clafers : List Clafer) (entries : List Entry) → ((c : ℕ) → c < length clafers → contains_itself clafers c ≡ false) → All (λ e. has_its_parent clafers entries e ≡ true) entries → (k : ℕ) (path : List ℕ) (o : Option Node)
    → count_by (λ (e : Entry). is_fresh path e.node.clafer) entries ≤ k → length path + count_by (is_fresh path) (numbers_below (length clafers)) ≤ length clafers → ((m : Node) → o ≡ Some m → IsOnWay clafers entries path m) → ends_within k entries o ≡ true
ends clafers entries free right zero path None few short on = refl
ends clafers entries free right (suc k) path None few short on = refl
ends clafers entries free right zero path (Some m) few short on = absurd (omega (arith, few, some))
  where
    w : IsOnWay clafers entries path m
    w = on m refl

    fresh : (b : Bool) → has path m.clafer ≡ b → is_fresh path m.clafer ≡ true
    fresh false e = ap not e
    fresh true e = absurd (true≢false (sym (more_steps clafers (length path) (length clafers) (owners clafers m.clafer) m.clafer (omega (arith, short)) (on_the_way clafers m.clafer m.clafer path w.way e)) ∙ free m.clafer w.within))

    some : 0 + 1 ≤ count_by (λ (e : Entry). is_fresh path e.node.clafer) entries
    some =
        let none = count_drops (λ (e : Entry). is_fresh path e.node.clafer) (λ e. false) (λ (e : Entry). e.node.clafer == m.clafer) entries (λ e t. absurd (true≢false (sym t))) (has_clafer entries m w.there)
        (λ e s. (ap (is_fresh path) (same_number e.node.clafer m.clafer s) ∙ fresh (has path m.clafer) refl, refl)) in
        omega (arith, none)
ends clafers entries free right (suc k) path (Some m) few short on =
    ends clafers entries free right k (m.clafer ∷ path) (parent_in entries m) (omega (arith, few, fewer)) (omega (arith, short, shorter)) next
  where
    w : IsOnWay clafers entries path m
    w = on m refl

    fresh : (b : Bool) → has path m.clafer ≡ b → is_fresh path m.clafer ≡ true
    fresh false e = ap not e
    fresh true e = absurd (true≢false (sym (more_steps clafers (length path) (length clafers) (owners clafers m.clafer) m.clafer (omega (arith, short)) (on_the_way clafers m.clafer m.clafer path w.way e)) ∙ free m.clafer w.within))

    stale : is_fresh (m.clafer ∷ path) m.clafer ≡ false
    stale = ap (λ b. not (b || has path m.clafer)) (itself m.clafer)

    fewer : count_by (λ (e : Entry). is_fresh (m.clafer ∷ path) e.node.clafer) entries + 1 ≤ count_by (λ (e : Entry). is_fresh path e.node.clafer) entries
    fewer = count_drops (λ (e : Entry). is_fresh path e.node.clafer) (λ (e : Entry). is_fresh (m.clafer ∷ path) e.node.clafer) (λ (e : Entry). e.node.clafer == m.clafer) entries (λ e t. fresh_more path m.clafer e.node.clafer t) (has_clafer entries m w.there)
        (λ e s. (ap (is_fresh path) (same_number e.node.clafer m.clafer s) ∙ fresh (has path m.clafer) refl, ap (is_fresh (m.clafer ∷ path)) (same_number e.node.clafer m.clafer s) ∙ stale))

    shorter : count_by (is_fresh (m.clafer ∷ path)) (numbers_below (length clafers)) + 1 ≤ count_by (is_fresh path) (numbers_below (length clafers))
    shorter = count_drops (is_fresh path) (is_fresh (m.clafer ∷ path)) (λ c. c == m.clafer) (numbers_below (length clafers)) (λ c t. fresh_more path m.clafer c t)
        (any_range (λ c. c == m.clafer) 0 (length clafers) m.clafer (omega arith) (let l = w.within in omega (arith, l)) (itself m.clafer))
        (λ c s. (ap (is_fresh path) (same_number c m.clafer s) ∙ fresh (has path m.clafer) refl, ap (is_fresh (m.clafer ∷ path)) (same_number c m.clafer s) ∙ stale))

    next : (p : Node) → parent_in entries m ≡ Some p → IsOnWay clafers entries (m.clafer ∷ path) p
    next p e =
        let f : EntryFound (λ x. has_its_parent clafers entries x ≡ true) entries m = entry_found (λ x. has_its_parent clafers entries x ≡ true) entries m right w.there in
        let q = parent_is clafers entries f.it p f.has (sym (ap (option_and_then (λ (x : Entry). x.parent)) f.found) ∙ e) in
        let owned : has (owners clafers m.clafer) p.clafer ≡ true = ap (λ (n : Node). has (owners clafers n.clafer) p.clafer) (sym f.node_is) ∙ q.0 in
        record { there = q.1; within = owner_within clafers m.clafer p.clafer owned; way = (owned, w.way) }

-- following the parents of an entry ends
pub parents_end : (clafers : List Clafer) (entries : List Entry) → ((c : ℕ) → c < length clafers → contains_itself clafers c ≡ false) → All (λ e. has_its_parent clafers entries e ≡ true) entries → All (λ e. ends_within (length entries) entries e.parent ≡ true) entries
parents_end clafers entries free right = λ k d l.
    let e : Entry = get_or entries k d in
    ends clafers entries free right (length entries) [] e.parent (count_all (λ (x : Entry). is_fresh [] x.node.clafer) entries) (start 0 (length clafers)) (λ p s.
    let q = parent_is clafers entries e p (right k d l) s in
    record { there = q.1; within = owner_within clafers e.node.clafer p.clafer q.0; way = tt })
  where
    start : (a n : ℕ) → 0 + count_by (is_fresh []) (range_with_len a n) ≤ n
    start a zero = omega arith
    start a (suc n) = let c = count-cons (is_fresh []) a (range_with_len (a + 1) n) in let r = start (a + 1) n in omega (arith, c, r)
