-- Each clafer has a name token of its own.
use Rattle.std.proofs.Common.{◌≡◌, ℕ, ◌+◌, ◌≤◌, Bool, true, false, List, [], ◌∷◌, ◌++◌, length, map, sum, Option, Some, None, refl, ap, subst, arith, length-append}
use Rattle.std.proofs.lemmas.List.Sums.{sum_by_from}
use Rattle.clf_base.specs.declared.fault.Span.{Span}
use Rattle.clf_tree.specs.declared.token.Sign.TheVariants as s
use Rattle.clf_tree.specs.declared.token.Title.{Title}
use Rattle.clf_tree.specs.declared.token.Word.TheVariants as w
use Rattle.clf_tree.specs.declared.token.TokenKind.TheVariants as t
use Rattle.clf_tree.specs.declared.expr.Expr.{Expr}
use Rattle.clf_tree.specs.declared.module.Start.{Start}
use Rattle.clf_tree.specs.declared.module.Item.{Item}
use Rattle.clf_tree.specs.declared.module.Item.TheVariants as i
use Rattle.clf_tree.specs.declared.plain.Plain.{Plain}
use Rattle.clf_tree.specs.declared.plain.PlainClafer.{PlainClafer}
use Rattle.clafer_grammar.specs.declared.heads.Head.{Head}
use Rattle.clafer_grammar.specs.Symbols.{Symbol, tok}
use Rattle.clafer_grammar.specs.Trees.{title, clafer}
use Rattle.clafer_grammar.specs.Declarations.{SpellsHead}
use Rattle.clafer_grammar.specs.Modules.{SpellsMembers, SpellsItems}
use Rattle.clafer_desugar.specs.PlainModel.{Adds, add_item, one_by_one, any, times, group_of, times_of, is_grouping, with_clafer, with_rule, with_rules, with_start, enum_clafer, member_clafer, with_members, count_item}
use Rattle.written_modules.proofs.Tokens.{names_in, names_in-two}
use Rattle.written_modules.proofs.Added.{added_clafer, added_enum, added_constraint, added_goal, counted_clafer, counted_enum, counted_constraint, counted_goal}

-- ---- tokens

behind_one : (ts : List Symbol) (first : Symbol) (us : List Symbol) → names_in ts + names_in us ≤ names_in (ts ++ first ∷ us)
behind_one ts first us = let all = names_in-two ts (first ∷ us) in omega (arith, all)

head_has_one : {ts : List Symbol} {h : Head} → SpellsHead ts h → 1 ≤ names_in ts
head_has_one (SpellsHead.head_of at n {ts = ts} {us = us} {vs = vs} {ws = ws} v a r o) =
    let all = names_in-two ts (tok (t.Name n) at ∷ (us ++ (vs ++ ws))) in
    omega (arith, all)

members_few : {ts : List Symbol} {members : List Title} → SpellsMembers ts members → length members ≤ names_in ts
members_few SpellsMembers.one = omega arith
members_few (SpellsMembers.more z at n {ts = ts} {members = members} v) =
    let rest = members_few v in
    let longer = length-append members (title n at ∷ []) in
    let all = names_in-two ts (tok (t.Sign s.Bar) z ∷ tok (t.Name n) at ∷ []) in
    omega (arith, rest, longer, all)

-- ---- clafers of a plain model

pushed : (k : PlainClafer) (plain : Plain) → length (with_clafer k plain).clafers ≡ length plain.clafers + 1
pushed k plain = length-append plain.clafers (k ∷ [])

rules_add_none : (context : Option ℕ) (bodies : List Expr) (plain : Plain) → length (with_rules context bodies plain).clafers ≡ length plain.clafers
rules_add_none context [] plain = refl
rules_add_none context (x ∷ xs) plain = rules_add_none context xs (with_rule context x plain)

start_adds_none : (context : Option ℕ) (start : Option Start) (plain : Plain) → length (with_start context start plain).clafers ≡ length plain.clafers
start_adds_none context None plain = refl
start_adds_none context (Some start) plain = refl

members_added : (enum : Title) (titles : List Title) (plain : Plain) → length (with_members enum titles plain).clafers ≡ length plain.clafers + length titles
members_added enum [] plain = omega arith
members_added enum (x ∷ xs) plain =
    let rest = members_added enum xs (member_clafer enum x plain) in
    let one = pushed (record { at = x.at; title = x; is_abstract = false; parent = None; above = Some enum; group = any; times = times 1 1; reference = None }) plain in
    omega (arith, rest, one)

-- what adds to a plain model adds no more than n clafers
pub AddsFew : ℕ → Adds → Type 0
AddsFew n adds = (parent : Option ℕ) (grouped : Bool) (plain : Plain) → length (adds parent grouped plain).clafers ≤ length plain.clafers + n

pub few_from : (n : ℕ) (adds : Adds) (parent : Option ℕ) (grouped : Bool) (plain : Plain) → AddsFew n adds → length (adds parent grouped plain).clafers ≤ length plain.clafers + n
unfolding AddsFew
few_from n adds parent grouped plain few = few parent grouped plain

none_few : (n : ℕ) → AddsFew n (one_by_one [])
unfolding AddsFew
none_few n parent grouped plain = omega arith

wider : (n m : ℕ) (adds : Adds) → n ≤ m → AddsFew n adds → AddsFew m adds
unfolding AddsFew
wider n m adds le few parent grouped plain = let h = few parent grouped plain in omega (arith, le, h)

followed : (n m : ℕ) (add : Adds) (adds : List Adds) → AddsFew n add → AddsFew m (one_by_one adds) → AddsFew (n + m) (one_by_one (add ∷ adds))
unfolding AddsFew
followed n m add adds one rest parent grouped plain =
    let first = one parent grouped plain in
    let last = rest parent grouped (add parent grouped plain) in
    omega (arith, first, last)

clafer_few : (n : ℕ) (h : Head) (start : Option Start) (inner : List Item) → AddsFew n (one_by_one (map add_item inner)) → AddsFew (1 + n) (add_item (clafer h start inner))
unfolding AddsFew
clafer_few n h start inner rest parent grouped plain =
    let k : PlainClafer = record { at = h.at; title = h.title; is_abstract = h.is_abstract; parent = parent; above = h.above; group = group_of h.group; times = times_of h.times h.is_abstract grouped; reference = h.reference } in
    let same = ap (λ (p : Plain). length p.clafers) (added_clafer h start inner parent grouped plain) in
    let one = pushed k plain in
    let two = start_adds_none (Some (length plain.clafers)) start (with_clafer k plain) in
    let more = rest (Some (length plain.clafers)) (is_grouping (group_of h.group)) (with_start (Some (length plain.clafers)) start (with_clafer k plain)) in
    omega (arith, same, one, two, more)

enum_few : (at : Span) (name : Title) (members : List Title) → AddsFew (1 + length members) (add_item (i.Enum at name members))
unfolding AddsFew
enum_few at name members parent grouped plain =
    let same = ap (λ (p : Plain). length p.clafers) (added_enum at name members parent grouped plain) in
    let one = pushed (record { at = at; title = name; is_abstract = true; parent = None; above = None; group = any; times = any; reference = None }) plain in
    let more = members_added name members (enum_clafer at name plain) in
    omega (arith, same, one, more)

constraint_few : (at : Span) (parts : List Expr) → AddsFew 0 (add_item (i.Constraint at parts))
unfolding AddsFew
constraint_few at parts parent grouped plain =
    let same = ap (λ (p : Plain). length p.clafers) (added_constraint at parts parent grouped plain) in
    let none = rules_add_none parent parts plain in
    omega (arith, same, none)

goal_few : (at : Span) (least : Bool) (body : Expr) → AddsFew 0 (add_item (i.Goal at least body))
unfolding AddsFew
goal_few at least body parent grouped plain =
    let same : length (add_item (i.Goal at least body) parent grouped plain).clafers ≡ length plain.clafers = ap (λ (p : Plain). length p.clafers) (added_goal at least body parent grouped plain) in
    omega (arith, same)

-- ---- both

pub record Few (n : ℕ) (xs : List Item) : Type 0 where
  pub declared : sum (map count_item xs) ≤ n
  pub added : AddsFew n (one_by_one (map add_item xs))

-- an item, and further ones
both : (n m all : ℕ) (x : Item) (xs : List Item) → count_item x ≤ n → AddsFew n (add_item x) → Few m xs → n + m ≤ all → Few all (x ∷ xs)
both n m all x xs one adds rest le =
    let more = rest.declared in
    let total : sum (map count_item (x ∷ xs)) ≡ 0 + count_item x + sum (map count_item xs) = sum_by_from (λ (y : ℕ). y) (0 + count_item x) (map count_item xs) in
    record {
      declared = omega (arith, one, more, le, total);
      added = wider (n + m) all (one_by_one (map add_item (x ∷ xs))) le (followed n m (add_item x) (map add_item xs) adds rest.added);
    }

clafer_both : (n m all : ℕ) (h : Head) (start : Option Start) (inner xs : List Item) → Few n inner → Few m xs → 1 + n + m ≤ all → Few all (clafer h start inner ∷ xs)
clafer_both n m all h start inner xs below rest le =
    let count = counted_clafer h start inner in
    let more = below.declared in
    both (1 + n) m all (clafer h start inner) xs (omega (arith, count, more)) (clafer_few n h start inner below.added) rest le

nothing_few : (n : ℕ) → Few n []
nothing_few n = record { declared = omega arith; added = none_few n }

pub items_few : {ts : List Symbol} {xs : List Item} → SpellsItems ts xs → Few (names_in ts) xs
items_few SpellsItems.none = nothing_few 0
items_few (SpellsItems.next {at = at} {ts = ts} {xs = xs} v) = let same : names_in ts ≡ names_in (tok t.Next at ∷ ts) = omega arith in subst (λ (n : ℕ). Few n xs) same (items_few v)
items_few (SpellsItems.leaf {ts = ts} {us = us} {vs = vs} {h = h} {start = start} {xs = xs} v b g o) =
    let one = head_has_one v in
    let all = names_in-two ts (us ++ vs) in
    let rest = names_in-two us vs in
    clafer_both 0 (names_in vs) (names_in (ts ++ (us ++ vs))) h start [] xs (nothing_few 0) (items_few o) (omega (arith, one, all, rest))
items_few (SpellsItems.block a z {ts = ts} {us = us} {ws = ws} {vs = vs} {h = h} {start = start} {inner = inner} {xs = xs} v b p o) =
    let one = head_has_one v in
    let all = names_in-two ts (us ++ tok t.Open a ∷ (ws ++ tok t.Close z ∷ vs)) in
    let rest = behind_one us (tok t.Open a) (ws ++ tok t.Close z ∷ vs) in
    let last = behind_one ws (tok t.Close z) vs in
    clafer_both (names_in ws) (names_in vs) (names_in (ts ++ (us ++ tok t.Open a ∷ (ws ++ tok t.Close z ∷ vs)))) h start inner xs (items_few p) (items_few o) (omega (arith, one, all, rest, last))
items_few (SpellsItems.enumeration {at = at} {a = a} {z = z} {n = n} {ts = ts} {vs = vs} {members = members} {xs = xs} v o) =
    let some = members_few v in
    let all = names_in-two ts vs in
    let count = counted_enum at (title n a) members in
    both (1 + length members) (names_in vs) (names_in (tok (t.Word w.Enum) at ∷ tok (t.Name n) a ∷ tok (t.Sign s.Equal) z ∷ (ts ++ vs))) (i.Enum at (title n a) members) xs
    (omega (arith, count)) (enum_few at (title n a) members) (items_few o) (omega (arith, some, all))
items_few (SpellsItems.bracket z {at = at} {ts = ts} {us = us} {vs = vs} {first = first} {parts = others} {xs = xs} v m o) =
    let all = names_in-two ts (us ++ tok (t.Sign s.BracketClose) z ∷ vs) in
    let rest = behind_one us (tok (t.Sign s.BracketClose) z) vs in
    let count = counted_constraint at (first ∷ others) in
    both 0 (names_in vs) (names_in (tok (t.Sign s.BracketOpen) at ∷ (ts ++ (us ++ tok (t.Sign s.BracketClose) z ∷ vs)))) (i.Constraint at (first ∷ others)) xs
    (omega (arith, count)) (constraint_few at (first ∷ others)) (items_few o) (omega (arith, all, rest))
items_few (SpellsItems.goal z {at = at} {a = a} {kind = kind} {least = least} {ts = ts} {vs = vs} {x = x} {xs = xs} is v o) =
    let rest = behind_one ts (tok (t.Sign s.GoalClose) z) vs in
    let count = counted_goal at least x in
    both 0 (names_in vs) (names_in (tok (t.Sign s.GoalOpen) at ∷ tok kind a ∷ (ts ++ tok (t.Sign s.GoalClose) z ∷ vs))) (i.Goal at least x) xs
    (omega (arith, count)) (goal_few at least x) (items_few o) (omega (arith, rest))
