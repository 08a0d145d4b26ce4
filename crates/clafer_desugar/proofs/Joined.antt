-- Going on over lists of refusals, one after the other, and the set of those that stand before.
use Rattle.std.proofs.Common.{◌≡◌, ℕ, zero, suc, ◌+◌, ◌<◌, get_or, Bool, true, false, not, ◌&&◌, ◌||◌, List, [], ◌∷◌, ◌++◌, length, map, take, drop, Option, Some, None, refl, ap, sym, ◌∙◌, subst, arith, cond, append_assoc}
use Rattle.std.specs.Prelude.{slice_get, if◌then◌else◌, nat_eq, bytes_eq}
use Rattle.std.specs.Option.{option_eq}
use Rattle.std.specs.List.{list_any, flat_map}
use Rattle.std.specs.Cmp.{nat_eq_equiv}
use Rattle.std.specs.Cmp.Lexicographic.{options_equiv, nat_list_eq_equiv}
use Rattle.std.proofs.lemmas.List.Folds.{list_any-append}
use Rattle.clf_base.specs.declared.fault.Refusal.{Refusal}
use Rattle.refusal_order.specs.Order.{with_refusal, with_refusals, refused}
use Rattle.clf_tree.specs.declared.token.Title.{Title}
use Rattle.clf_tree.specs.declared.plain.PlainClafer.{PlainClafer}
use Rattle.clf_tree.specs.declared.module.Declared.{Declared, fold_out-Declared}
use Rattle.clf_tree.specs.declared.module.Item.{Item}
use Rattle.clf_tree.specs.Tree as e
use Rattle.clf_tree.specs.Tree.{Tree, tree}
use Rattle.clafer_desugar.specs.Refusals.{refused_if, in_item, in_declared, item_refusals, declared_refusals, items_refusals, stands_at, refusals_of, clafers_refusals, names_refusals, expr_refusals, in_tree}

pub with_refusals-append : (first : Option Refusal) (xs ys : List Refusal) → with_refusals first (xs ++ ys) ≡ with_refusals (with_refusals first xs) ys
with_refusals-append first [] ys = refl
with_refusals-append first (x ∷ xs) ys = with_refusals-append (with_refusal first x) xs ys

-- ---- items

flat_map-map : {X Y : Type 0} {Z : Type 0} (f : X → Y) (g : Y → List Z) (xs : List X) → flat_map g (map f xs) ≡ flat_map (λ x. g (f x)) xs
flat_map-map f g [] = refl
flat_map-map f g (x ∷ xs) = ap (λ ys. g (f x) ++ ys) (flat_map-map f g xs)

pub declared_parts : (d : Declared) → declared_refusals d ≡ items_refusals d.items true
declared_parts d =
    fold_out-Declared (Bool → List Refusal) (List Refusal) in_item in_declared d
    ∙ flat_map-map item_refusals (λ f. f true) d.items

-- ---- clafers

one_more : (a b : Bool) → cond a true b ≡ (b || (a || false))
one_more true true = refl
one_more true false = refl
one_more false true = refl
one_more false false = refl

record Cut {X : Type 0} (xs : List X) (i : ℕ) (x : X) : Type 0 where
  left : drop i xs ≡ x ∷ drop (suc i) xs
  done : take (suc i) xs ≡ take i xs ++ x ∷ []

cut : {X : Type 0} (xs : List X) (i : ℕ) (x : X) → slice_get xs i ≡ Some x → Cut xs i x
cut [] i x e = (cc)
cut (y ∷ xs) zero x e = let same : y ≡ x = (cc) in record { left = ap (λ z. z ∷ xs) same; done = ap (λ z. z ∷ []) same }
cut (y ∷ xs) (suc i) x e = let rest = cut xs i x e in record { left = rest.left; done = ap (λ ys. y ∷ ys) rest.done }

pub got : {X : Type 0} (xs : List X) (i : ℕ) (x : X) → i < length xs → x ≡ get_or xs i x → slice_get xs i ≡ Some x
got [] i x within e = absurd (omega (arith, within))
got (y ∷ xs) zero x within e = ap (λ z. Some z) (sym e)
got (y ∷ xs) (suc i) x within e = got xs i x (omega (arith, within)) e

-- an item of a list, and what is left of the list
pub each_left : {X : Type 0} (f : X → List Refusal) (first : Option Refusal) (xs : List X) (i : ℕ) (x : X) → slice_get xs i ≡ Some x
    → with_refusals (with_refusals first (f x)) (flat_map f (drop (i + 1) xs)) ≡ with_refusals first (flat_map f (drop i xs))
each_left f first xs i x e =
    let next : suc i ≡ i + 1 = omega arith in
    sym (with_refusals-append first (f x) (flat_map f (drop (i + 1) xs)))
    ∙ ap (λ (j : ℕ). with_refusals first (f x ++ flat_map f (drop j xs))) (sym next)
    ∙ ap (λ ys. with_refusals first (flat_map f ys)) (sym ((cut xs i x e).left))

pub not-not : (b : Bool) → not (not b) ≡ b
not-not true = refl
not-not false = refl

-- one more clafer is seen
seen_suc : (cs : List PlainClafer) (i : ℕ) (k : PlainClafer) → slice_get cs i ≡ Some k → (old new : Option ℕ → List ℕ → Bool)
    → ((p : Option ℕ) (n : List ℕ) → old p n ≡ list_any (stands_at p n) (take i cs))
    → ((p : Option ℕ) (n : List ℕ) → new p n ≡ cond (option_eq nat_eq k.parent p && bytes_eq k.title.name n) true (old p n))
    → (p : Option ℕ) (n : List ℕ) → new p n ≡ list_any (stands_at p n) (take (suc i) cs)
seen_suc cs i k e old new before more p n =
    let flip : (option_eq nat_eq k.parent p && bytes_eq k.title.name n) ≡ stands_at p n k =
    ap (λ b. b && bytes_eq k.title.name n) ((options_equiv nat_eq_equiv).symm k.parent p) ∙ ap (λ b. option_eq nat_eq p k.parent && b) (nat_list_eq_equiv.symm k.title.name n) in
    more p n ∙ ap (λ b. cond b true (old p n)) flip ∙ ap (λ b. cond (stands_at p n k) true b) (before p n)
    ∙ one_more (stands_at p n k) (list_any (stands_at p n) (take i cs))
    ∙ sym (list_any-append (stands_at p n) (take i cs) (k ∷ []))
    ∙ ap (λ ys. list_any (stands_at p n) ys) (sym ((cut cs i k e).done))

pub clafer_seen : (cs : List PlainClafer) (i : ℕ) (k : PlainClafer) → slice_get cs i ≡ Some k → (old new : Option ℕ → List ℕ → Bool)
    → ((p : Option ℕ) (n : List ℕ) → old p n ≡ list_any (stands_at p n) (take i cs))
    → ((p : Option ℕ) (n : List ℕ) → new p n ≡ cond (option_eq nat_eq k.parent p && bytes_eq k.title.name n) true (old p n))
    → (p : Option ℕ) (n : List ℕ) → new p n ≡ list_any (stands_at p n) (take (i + 1) cs)
clafer_seen cs i k e old new before more p n =
    let next : suc i ≡ i + 1 = omega arith in
    subst (λ (j : ℕ). new p n ≡ list_any (stands_at p n) (take j cs)) next (seen_suc cs i k e old new before more p n)

-- its refusals come next
left_suc : (first : Option Refusal) (cs : List PlainClafer) (i : ℕ) (k : PlainClafer) (repeats : Bool) → slice_get cs i ≡ Some k
    → repeats ≡ list_any (stands_at k.parent k.title.name) (take i cs)
    → with_refusals (with_refusals first (refusals_of repeats k)) (clafers_refusals (take (suc i) cs) (drop (suc i) cs)) ≡ with_refusals first (clafers_refusals (take i cs) (drop i cs))
left_suc first cs i k repeats e met =
    let c = cut cs i k e in
    sym (with_refusals-append first (refusals_of repeats k) (clafers_refusals (take (suc i) cs) (drop (suc i) cs)))
    ∙ ap (λ b. with_refusals first (refusals_of b k ++ clafers_refusals (take (suc i) cs) (drop (suc i) cs))) met
    ∙ ap (λ before. with_refusals first (refusals_of (list_any (stands_at k.parent k.title.name) (take i cs)) k ++ clafers_refusals before (drop (suc i) cs))) c.done
    ∙ ap (λ ks. with_refusals first (clafers_refusals (take i cs) ks)) (sym c.left)

pub clafers_left : (first : Option Refusal) (cs : List PlainClafer) (i : ℕ) (k : PlainClafer) (repeats : Bool) → slice_get cs i ≡ Some k
    → repeats ≡ list_any (stands_at k.parent k.title.name) (take i cs)
    → with_refusals (with_refusals first (refusals_of repeats k)) (clafers_refusals (take (i + 1) cs) (drop (i + 1) cs)) ≡ with_refusals first (clafers_refusals (take i cs) (drop i cs))
clafers_left first cs i k repeats e met =
    let next : suc i ≡ i + 1 = omega arith in
    subst (λ (j : ℕ). with_refusals (with_refusals first (refusals_of repeats k)) (clafers_refusals (take j cs) (drop j cs)) ≡ with_refusals first (clafers_refusals (take i cs) (drop i cs)))
    next (left_suc first cs i k repeats e met)

-- ---- names of a quantifier

abbrev pub named : List ℕ → Title → Bool
named n t = bytes_eq n t.name

name_seen_suc : (ts : List Title) (i : ℕ) (t : Title) → slice_get ts i ≡ Some t → (old new : List ℕ → Bool)
    → ((n : List ℕ) → old n ≡ list_any (named n) (take i ts))
    → ((n : List ℕ) → new n ≡ cond (bytes_eq t.name n) true (old n))
    → (n : List ℕ) → new n ≡ list_any (named n) (take (suc i) ts)
name_seen_suc ts i t e old new before more n =
    more n ∙ ap (λ b. cond b true (old n)) (nat_list_eq_equiv.symm t.name n) ∙ ap (λ b. cond (named n t) true b) (before n)
    ∙ one_more (named n t) (list_any (named n) (take i ts))
    ∙ sym (list_any-append (named n) (take i ts) (t ∷ []))
    ∙ ap (λ ys. list_any (named n) ys) (sym ((cut ts i t e).done))

pub name_seen : (ts : List Title) (i : ℕ) (t : Title) → slice_get ts i ≡ Some t → (old new : List ℕ → Bool)
    → ((n : List ℕ) → old n ≡ list_any (named n) (take i ts))
    → ((n : List ℕ) → new n ≡ cond (bytes_eq t.name n) true (old n))
    → (n : List ℕ) → new n ≡ list_any (named n) (take (i + 1) ts)
name_seen ts i t e old new before more n =
    let next : suc i ≡ i + 1 = omega arith in
    subst (λ (j : ℕ). new n ≡ list_any (named n) (take j ts)) next (name_seen_suc ts i t e old new before more n)

names_left_suc : (first : Option Refusal) (ts : List Title) (i : ℕ) (t : Title) (repeats : Bool) → slice_get ts i ≡ Some t
    → repeats ≡ list_any (named t.name) (take i ts)
    → with_refusals (with_refusals first (refused_if repeats 51 t.at)) (names_refusals (take (suc i) ts) (drop (suc i) ts)) ≡ with_refusals first (names_refusals (take i ts) (drop i ts))
names_left_suc first ts i t repeats e met =
    let c = cut ts i t e in
    sym (with_refusals-append first (refused_if repeats 51 t.at) (names_refusals (take (suc i) ts) (drop (suc i) ts)))
    ∙ ap (λ b. with_refusals first (refused_if b 51 t.at ++ names_refusals (take (suc i) ts) (drop (suc i) ts))) met
    ∙ ap (λ before. with_refusals first (refused_if (list_any (named t.name) (take i ts)) 51 t.at ++ names_refusals before (drop (suc i) ts))) c.done
    ∙ ap (λ us. with_refusals first (names_refusals (take i ts) us)) (sym c.left)

pub names_left : (first : Option Refusal) (ts : List Title) (i : ℕ) (t : Title) (repeats : Bool) → slice_get ts i ≡ Some t
    → repeats ≡ list_any (named t.name) (take i ts)
    → with_refusals (with_refusals first (refused_if repeats 51 t.at)) (names_refusals (take (i + 1) ts) (drop (i + 1) ts)) ≡ with_refusals first (names_refusals (take i ts) (drop i ts))
names_left first ts i t repeats e met =
    let next : suc i ≡ i + 1 = omega arith in
    subst (λ (j : ℕ). with_refusals (with_refusals first (refused_if repeats 51 t.at)) (names_refusals (take j ts) (drop j ts)) ≡ with_refusals first (names_refusals (take i ts) (drop i ts)))
    next (names_left_suc first ts i t repeats e met)

-- ---- expressions

joined_two : (first r s : Option Refusal) (xs ys : List Refusal) → r ≡ with_refusals first xs → s ≡ with_refusals r ys → s ≡ with_refusals first (xs ++ ys)
joined_two first r s xs ys e f = f ∙ ap (λ z. with_refusals z ys) e ∙ sym (with_refusals-append first xs ys)

joined_three : (first r s t : Option Refusal) (xs ys zs : List Refusal) → r ≡ with_refusals first xs → s ≡ with_refusals r ys → t ≡ with_refusals s zs → t ≡ with_refusals first (xs ++ (ys ++ zs))
joined_three first r s t xs ys zs e f g = joined_two first r t xs (ys ++ zs) e (joined_two r s t ys zs f g)

pair : (a b : Tree) → ((f : Option Refusal) → in_tree a f ≡ with_refusals f (expr_refusals a)) → ((f : Option Refusal) → in_tree b f ≡ with_refusals f (expr_refusals b))
    → (first : Option Refusal) → in_tree b (in_tree a first) ≡ with_refusals first (expr_refusals a ++ expr_refusals b)
pair a b ha hb first = joined_two first (in_tree a first) (in_tree b (in_tree a first)) (expr_refusals a) (expr_refusals b) (ha first) (hb (in_tree a first))

-- going on part by part finds the first of all that is refused
pub in_tree-is : (t : Tree) (first : Option Refusal) → in_tree t first ≡ with_refusals first (expr_refusals t)
in_tree-is (e.Join _ a _) first = in_tree-is a first
in_tree-is (e.Step _ a _ _) first = in_tree-is a first
in_tree-is (e.Parent _ a) first = in_tree-is a first
in_tree-is (e.Dref _ a) first = in_tree-is a first
in_tree-is (e.Not _ a) first = in_tree-is a first
in_tree-is (e.Card _ a) first = in_tree-is a first
in_tree-is (e.Sum _ a) first = in_tree-is a first
in_tree-is (e.Neg _ a) first = in_tree-is a first
in_tree-is (e.Some _ a) first = in_tree-is a first
in_tree-is (e.No _ a) first = in_tree-is a first
in_tree-is (e.One _ a) first = in_tree-is a first
in_tree-is (e.Lone _ a) first = in_tree-is a first
in_tree-is (e.Union _ a b) first = pair a b (in_tree-is a) (in_tree-is b) first
in_tree-is (e.Minus _ a b) first = pair a b (in_tree-is a) (in_tree-is b) first
in_tree-is (e.Meet _ a b) first = pair a b (in_tree-is a) (in_tree-is b) first
in_tree-is (e.And _ a b) first = pair a b (in_tree-is a) (in_tree-is b) first
in_tree-is (e.Or _ a b) first = pair a b (in_tree-is a) (in_tree-is b) first
in_tree-is (e.Xor _ a b) first = pair a b (in_tree-is a) (in_tree-is b) first
in_tree-is (e.Implies _ a b) first = pair a b (in_tree-is a) (in_tree-is b) first
in_tree-is (e.Iff _ a b) first = pair a b (in_tree-is a) (in_tree-is b) first
in_tree-is (e.Add _ a b) first = pair a b (in_tree-is a) (in_tree-is b) first
in_tree-is (e.Sub _ a b) first = pair a b (in_tree-is a) (in_tree-is b) first
in_tree-is (e.Mul _ a b) first = pair a b (in_tree-is a) (in_tree-is b) first
in_tree-is (e.Less _ a b) first = pair a b (in_tree-is a) (in_tree-is b) first
in_tree-is (e.LessEqual _ a b) first = pair a b (in_tree-is a) (in_tree-is b) first
in_tree-is (e.Greater _ a b) first = pair a b (in_tree-is a) (in_tree-is b) first
in_tree-is (e.GreaterEqual _ a b) first = pair a b (in_tree-is a) (in_tree-is b) first
in_tree-is (e.Equal _ a b) first = pair a b (in_tree-is a) (in_tree-is b) first
in_tree-is (e.In _ a b) first = pair a b (in_tree-is a) (in_tree-is b) first
in_tree-is (e.If _ c a b) first =
    joined_three first (in_tree c first) (in_tree a (in_tree c first)) (in_tree b (in_tree a (in_tree c first))) (expr_refusals c) (expr_refusals a) (expr_refusals b)
    (in_tree-is c first) (in_tree-is a (in_tree c first)) (in_tree-is b (in_tree a (in_tree c first)))
in_tree-is (e.Quant _ _ _ names over body) first =
    let told = with_refusals first (names_refusals [] names) in
    joined_three first told (in_tree over told) (in_tree body (in_tree over told)) (names_refusals [] names) (expr_refusals over) (expr_refusals body)
    refl (in_tree-is over told) (in_tree-is body (in_tree over told))
in_tree-is _ first = refl

pub tree-step : (t : Tree) (first : Option Refusal) (rest : List Refusal) → with_refusals (in_tree t first) rest ≡ with_refusals first (expr_refusals t ++ rest)
tree-step t first rest = ap (λ z. with_refusals z rest) (in_tree-is t first) ∙ sym (with_refusals-append first (expr_refusals t) rest)

pub ruleset joined_steps = (with_refusals-append, declared_parts, tree-step)
