-- What tokens spell has names and written expressions in its plain model.
use Rattle.std.proofs.Common.{◌≡◌, ℕ, Bool, true, false, ◌&&◌, List, [], ◌∷◌, ◌++◌, length, map, Option, Some, None, refl, ap, sym, subst, ◌∙◌}
use Rattle.std.specs.List.{list_all}
use Rattle.std.proofs.lemmas.Bool.{and_parts, and_from}
use Rattle.std.proofs.lemmas.List.Concat.{flat_map-append}
use Rattle.std.proofs.lemmas.List.Folds.{list_all-append}
use Rattle.clf_base.specs.declared.fault.Span.{Span}
use Rattle.clf_tree.specs.declared.token.Sign.TheVariants as s
use Rattle.clf_tree.specs.declared.token.Title.{Title}
use Rattle.clf_tree.specs.declared.token.Word.TheVariants as w
use Rattle.clf_tree.specs.declared.token.TokenKind.TheVariants as t
use Rattle.clf_tree.specs.declared.expr.Expr.{Expr}
use Rattle.clf_tree.specs.declared.expr.Form.TheVariants as form
use Rattle.clf_tree.specs.declared.model.Rule.{Rule}
use Rattle.clf_tree.specs.declared.model.Goal.{Goal}
use Rattle.clf_tree.specs.declared.module.Start.{Start}
use Rattle.clf_tree.specs.declared.module.Item.{Item}
use Rattle.clf_tree.specs.declared.module.Item.TheVariants as i
use Rattle.clf_tree.specs.declared.plain.Plain.{Plain}
use Rattle.clf_tree.specs.declared.plain.PlainClafer.{PlainClafer}
use Rattle.clf_tree.specs.Named.{is_name, are_names}
use Rattle.clf_tree.specs.Tree as e
use Rattle.clf_tree.specs.Tree.{Tree, tree}
use Rattle.clafer_grammar.specs.declared.heads.Head.{Head}
use Rattle.clafer_grammar.specs.Symbols.{Symbol, tok}
use Rattle.clafer_grammar.specs.Trees.{title, node, clafer}
use Rattle.clafer_grammar.specs.Declarations.{SpellsHead}
use Rattle.clafer_grammar.specs.Modules.{SpellsMore, SpellsMembers, SpellsStart, SpellsItems}
use Rattle.clafer_desugar.specs.PlainModel.{Adds, add_item, one_by_one, any, times, group_of, times_of, is_grouping, with_clafer, with_rule, with_rules, with_start, starts_with, with_goal, enum_clafer, member_clafer, with_members, nothing}
use Rattle.clafer_desugar.specs.Refusals.{expr_refusals, rules_refusals, goals_refusals}
use Rattle.plain_models.specs.Written.{is_titled, rule_is_written, goal_is_written}
use Rattle.written_modules.proofs.Built as built
use Rattle.written_modules.proofs.Tokens.{AllRight, two_parts, behind_first, behind}
use Rattle.written_modules.proofs.Expressions.{Fine, NamesDiffer, both_none, one_more, name_right, fine}
use Rattle.written_modules.proofs.Added.{added_clafer, added_enum, added_constraint, added_goal}

-- ---- plain models

-- so far names are names, and in what isn't refused nothing is looked up yet
pub record Held (plain : Plain) : Type 0 where
  pub named : list_all is_titled plain.clafers ≡ true
  pub rules : rules_refusals plain.rules ≡ [] → list_all rule_is_written plain.rules ≡ true
  pub goals : goals_refusals plain.goals ≡ [] → list_all goal_is_written plain.goals ≡ true

held_clafer : (k : PlainClafer) (plain : Plain) → is_name k.title.name ≡ true → Held plain → Held (with_clafer k plain)
held_clafer k plain h held = record {
  named = list_all-append is_titled plain.clafers (k ∷ []) ∙ and_from (list_all is_titled plain.clafers) (is_titled k && true) held.named (and_from (is_titled k) true h refl);
  rules = held.rules;
  goals = held.goals;
}

held_rule : (context : Option ℕ) (body : Expr) (plain : Plain) → Fine (tree body) → Held plain → Held (with_rule context body plain)
held_rule context body plain h held =
    let rule : Rule = record { context = context; body = body } in
    record {
      named = held.named;
      rules = λ none.
          let parts = both_none (rules_refusals plain.rules) (rules_refusals (rule ∷ [])) (sym (flat_map-append (λ (r : Rule). expr_refusals (tree r.body)) plain.rules (rule ∷ [])) ∙ none) in
          let own = both_none (expr_refusals (tree body)) [] parts.1 in
          list_all-append rule_is_written plain.rules (rule ∷ [])
          ∙ and_from (list_all rule_is_written plain.rules) (rule_is_written rule && true) (held.rules parts.0) (and_from (rule_is_written rule) true (h own.0) refl);
      goals = held.goals;
    }

held_goal : (goal : Goal) (plain : Plain) → Fine (tree goal.body) → Held plain → Held (with_goal goal plain)
held_goal goal plain h held = record {
  named = held.named;
  rules = held.rules;
  goals = λ none.
      let parts = both_none (goals_refusals plain.goals) (goals_refusals (goal ∷ [])) (sym (flat_map-append (λ (g : Goal). expr_refusals (tree g.body)) plain.goals (goal ∷ [])) ∙ none) in
      let own = both_none (expr_refusals (tree goal.body)) [] parts.1 in
      list_all-append goal_is_written plain.goals (goal ∷ [])
      ∙ and_from (list_all goal_is_written plain.goals) (goal_is_written goal && true) (held.goals parts.0) (and_from (goal_is_written goal) true (h own.0) refl);
}

abbrev AllFine : List Expr → Type 0
AllFine [] = Unit {0}
AllFine (x ∷ xs) = Fine (tree x) × AllFine xs

held_rules : (context : Option ℕ) (bodies : List Expr) (plain : Plain) → AllFine bodies → Held plain → Held (with_rules context bodies plain)
held_rules context [] plain h held = held
held_rules context (x ∷ xs) plain h held = held_rules context xs (with_rule context x plain) h.1 (held_rule context x plain h.0 held)

abbrev FineStart : Option Start → Type 0
FineStart None = Unit {0}
FineStart (Some start) = Fine (tree start.body)

start_fine : (start : Start) → Fine (tree start.body) → Fine (tree (starts_with start))
start_fine start h =
    let this = node start.at form.This in
    let left : tree (node start.at (form.Dref this)) ≡ e.Dref start.at (e.This start.at) = built.dref start.at this ∙ ap (λ (z : Tree). e.Dref start.at z) (built.this start.at) in
    subst Fine (sym (built.equal start.at (node start.at (form.Dref this)) start.body ∙ ap (λ (z : Tree). e.Equal start.at z (tree start.body)) left)) h

held_start : (context : Option ℕ) (start : Option Start) (plain : Plain) → FineStart start → Held plain → Held (with_start context start plain)
held_start context None plain h held = held
held_start context (Some start) plain h held = held_rule context (starts_with start) plain (start_fine start h) held

held_members : (enum : Title) (titles : List Title) (plain : Plain) → are_names titles ≡ true → Held plain → Held (with_members enum titles plain)
held_members enum [] plain h held = held
held_members enum (x ∷ xs) plain h held =
    let parts = and_parts (is_name x.name) (are_names xs) h in
    held_members enum xs (member_clafer enum x plain) parts.1
    (held_clafer (record { at = x.at; title = x; is_abstract = false; parent = None; above = Some enum; group = any; times = times 1 1; reference = None }) plain parts.0 held)

-- what adds to a plain model keeps it so
pub Keeps : Adds → Type 0
Keeps adds = (parent : Option ℕ) (grouped : Bool) (plain : Plain) → Held plain → Held (adds parent grouped plain)

followed : (add : Adds) (adds : List Adds) → Keeps add → Keeps (one_by_one adds) → Keeps (one_by_one (add ∷ adds))
unfolding Keeps
followed add adds one rest parent grouped plain held = rest parent grouped (add parent grouped plain) (one parent grouped plain held)

clafer_keeps : (h : Head) (start : Option Start) (inner : List Item) → is_name h.title.name ≡ true → FineStart start → Keeps (one_by_one (map add_item inner))
    → Keeps (add_item (clafer h start inner))
unfolding Keeps
clafer_keeps h start inner right begun rest parent grouped plain held =
    let k : PlainClafer = record { at = h.at; title = h.title; is_abstract = h.is_abstract; parent = parent; above = h.above; group = group_of h.group; times = times_of h.times h.is_abstract grouped; reference = h.reference } in
    let first = held_clafer k plain right held in
    let second = held_start (Some (length plain.clafers)) start (with_clafer k plain) begun first in
    subst Held (sym (added_clafer h start inner parent grouped plain))
    (rest (Some (length plain.clafers)) (is_grouping (group_of h.group)) (with_start (Some (length plain.clafers)) start (with_clafer k plain)) second)

enum_keeps : (at : Span) (name : Title) (members : List Title) → is_name name.name ≡ true → are_names members ≡ true → Keeps (add_item (i.Enum at name members))
unfolding Keeps
enum_keeps at name members right all parent grouped plain held =
    subst Held (sym (added_enum at name members parent grouped plain))
    (held_members name members (enum_clafer at name plain) all
    (held_clafer (record { at = at; title = name; is_abstract = true; parent = None; above = None; group = any; times = any; reference = None }) plain right held))

constraint_keeps : (at : Span) (parts : List Expr) → AllFine parts → Keeps (add_item (i.Constraint at parts))
unfolding Keeps
constraint_keeps at parts all parent grouped plain held = subst Held (sym (added_constraint at parts parent grouped plain)) (held_rules parent parts plain all held)

goal_keeps : (at : Span) (least : Bool) (body : Expr) → Fine (tree body) → Keeps (add_item (i.Goal at least body))
unfolding Keeps
goal_keeps at least body h parent grouped plain held =
    subst Held (sym (added_goal at least body parent grouped plain)) (held_goal (record { at = at; least = least; body = body }) plain h held)

-- ---- tokens

head_named : {ts : List Symbol} {h : Head} → SpellsHead ts h → AllRight ts → is_name h.title.name ≡ true
head_named (SpellsHead.head_of at n {ts = ts} {us = us} {vs = vs} {ws = ws} v a r o) h = name_right n at (us ++ (vs ++ ws)) (two_parts ts (tok (t.Name n) at ∷ (us ++ (vs ++ ws))) h).1

started_fine : NamesDiffer → {ts : List Symbol} {start : Option Start} → SpellsStart ts start → AllRight ts → FineStart start
started_fine law SpellsStart.none h = tt
started_fine law (SpellsStart.start {at = at} {ts = ts} {x = x} v) h = fine law v (behind_first (tok (t.Sign s.Equal) at) ts h).1

more_fine : NamesDiffer → {ts : List Symbol} {xs : List Expr} → SpellsMore ts xs → AllRight ts → AllFine xs
more_fine law SpellsMore.none h = tt
more_fine law (SpellsMore.more {ts = ts} {us = us} {x = x} {xs = xs} n v o) h =
    let parts = two_parts ts us h in
    (fine law v parts.0, more_fine law o parts.1)

members_named : {ts : List Symbol} {members : List Title} → SpellsMembers ts members → AllRight ts → are_names members ≡ true
members_named (SpellsMembers.one {at = at} {n = n}) h = and_from (is_name n) true (name_right n at [] h) refl
members_named (SpellsMembers.more z at n {ts = ts} {members = members} v) h =
    let parts = behind ts (tok (t.Sign s.Bar) z) (tok (t.Name n) at ∷ []) h in
    one_more members (title n at) (members_named v parts.0) (name_right n at [] parts.1)

none_keeps : Keeps (one_by_one [])
unfolding Keeps
none_keeps parent grouped plain held = held

pub items_keep : NamesDiffer → {ts : List Symbol} {xs : List Item} → SpellsItems ts xs → AllRight ts → Keeps (one_by_one (map add_item xs))
items_keep law SpellsItems.none h = none_keeps
items_keep law (SpellsItems.next {at = at} {ts = ts} {xs = xs} v) h = items_keep law v (behind_first (tok t.Next at) ts h).1
items_keep law (SpellsItems.leaf {ts = ts} {us = us} {vs = vs} {h = head} {start = start} {xs = xs} v b g o) h =
    let parts = two_parts ts (us ++ vs) h in
    let rest = two_parts us vs parts.1 in
    followed (add_item (clafer head start [])) (map add_item xs)
    (clafer_keeps head start [] (head_named v parts.0) (started_fine law b rest.0) none_keeps) (items_keep law o rest.1)
items_keep law (SpellsItems.block a z {ts = ts} {us = us} {ws = ws} {vs = vs} {h = head} {start = start} {inner = inner} {xs = xs} v b p o) h =
    let parts = two_parts ts (us ++ tok t.Open a ∷ (ws ++ tok t.Close z ∷ vs)) h in
    let rest = behind us (tok t.Open a) (ws ++ tok t.Close z ∷ vs) parts.1 in
    let last = behind ws (tok t.Close z) vs rest.1 in
    followed (add_item (clafer head start inner)) (map add_item xs)
    (clafer_keeps head start inner (head_named v parts.0) (started_fine law b rest.0) (items_keep law p last.0)) (items_keep law o last.1)
items_keep law (SpellsItems.enumeration {at = at} {a = a} {z = z} {n = n} {ts = ts} {vs = vs} {members = members} {xs = xs} v o) h =
    let first = (behind_first (tok (t.Word w.Enum) at) (tok (t.Name n) a ∷ tok (t.Sign s.Equal) z ∷ (ts ++ vs)) h).1 in
    let second = (behind_first (tok (t.Name n) a) (tok (t.Sign s.Equal) z ∷ (ts ++ vs)) first).1 in
    let parts = two_parts ts vs (behind_first (tok (t.Sign s.Equal) z) (ts ++ vs) second).1 in
    followed (add_item (i.Enum at (title n a) members)) (map add_item xs)
    (enum_keeps at (title n a) members (name_right n a (tok (t.Sign s.Equal) z ∷ (ts ++ vs)) first) (members_named v parts.0)) (items_keep law o parts.1)
items_keep law (SpellsItems.bracket z {at = at} {ts = ts} {us = us} {vs = vs} {first = first} {parts = others} {xs = xs} v m o) h =
    let inner = (behind_first (tok (t.Sign s.BracketOpen) at) (ts ++ (us ++ tok (t.Sign s.BracketClose) z ∷ vs)) h).1 in
    let parts = two_parts ts (us ++ tok (t.Sign s.BracketClose) z ∷ vs) inner in
    let rest = behind us (tok (t.Sign s.BracketClose) z) vs parts.1 in
    followed (add_item (i.Constraint at (first ∷ others))) (map add_item xs)
    (constraint_keeps at (first ∷ others) (fine law v parts.0, more_fine law m rest.0)) (items_keep law o rest.1)
items_keep law (SpellsItems.goal z {at = at} {a = a} {kind = kind} {least = least} {ts = ts} {vs = vs} {x = x} {xs = xs} is v o) h =
    let first = (behind_first (tok (t.Sign s.GoalOpen) at) (tok kind a ∷ (ts ++ tok (t.Sign s.GoalClose) z ∷ vs)) h).1 in
    let inner = (behind_first (tok kind a) (ts ++ tok (t.Sign s.GoalClose) z ∷ vs) first).1 in
    let parts = behind ts (tok (t.Sign s.GoalClose) z) vs inner in
    followed (add_item (i.Goal at least x)) (map add_item xs) (goal_keeps at least x (fine law v parts.0)) (items_keep law o parts.1)

held_nothing : Held nothing
held_nothing = record { named = refl; rules = λ none. refl; goals = λ none. refl }

pub held_from : (adds : Adds) → Keeps adds → Held (adds None false nothing)
unfolding Keeps
held_from adds keeps = keeps None false nothing held_nothing
