-- How many clafers are added, and a clafer by its parts.
use Rattle.std.proofs.Common.{◌≡◌, ℕ, zero, suc, ◌+◌, Bool, List, [], ◌∷◌, ◌++◌, length, map, sum, Option, Some, None, refl, ap, sym, ◌∙◌, arith, length-append}
use Rattle.clf_tree.specs.declared.token.Title.{Title}
use Rattle.clf_tree.specs.declared.expr.Expr.{Expr}
use Rattle.clf_tree.specs.declared.module.Start.{Start}
use Rattle.clf_tree.specs.declared.module.Declared.{Declared, fold_out-Declared}
use Rattle.clf_tree.specs.declared.plain.Plain.{Plain}
use Rattle.clf_tree.specs.declared.plain.PlainClafer.{PlainClafer}
use Rattle.clafer_desugar.specs.PlainModel.{Adds, add_declared, add_items, item_step, declared_step, count_declared, count_items, item_count, declared_count, with_members, with_rules, with_rule, with_start, with_clafer, member_clafer, is_grouping, group_of, times_of, starts_with}

pub counted-one : (clafer : PlainClafer) (plain : Plain) → length (with_clafer clafer plain).clafers ≡ length plain.clafers + 1
counted-one clafer plain = length-append plain.clafers (clafer ∷ [])

pub counted-members : (enum : Title) (titles : List Title) (plain : Plain) → length (with_members enum titles plain).clafers ≡ length plain.clafers + length titles
counted-members enum [] plain = omega arith
counted-members enum (title ∷ titles) plain =
    let rest = counted-members enum titles (member_clafer enum title plain) in
    let here : length (member_clafer enum title plain).clafers ≡ length plain.clafers + 1 = length-append plain.clafers _ in
    omega (arith, rest, here)

pub counted-rules : (context : Option ℕ) (bodies : List Expr) (plain : Plain) → (with_rules context bodies plain).clafers ≡ plain.clafers
counted-rules context [] plain = refl
counted-rules context (body ∷ bodies) plain = counted-rules context bodies (with_rule context body plain)

pub counted-start : (context : Option ℕ) (start : Option Start) (plain : Plain) → (with_start context start plain).clafers ≡ plain.clafers
counted-start context None plain = refl
counted-start context (Some start) plain = refl

pub add_declared-parts : (d : Declared) (parent : Option ℕ) (grouped : Bool) (plain : Plain)
    → add_items d.items (Some (length plain.clafers)) (is_grouping (group_of d.group))
    (with_start (Some (length plain.clafers)) d.start
    (with_clafer (record {
      at = d.at;
      title = d.title;
      is_abstract = d.is_abstract;
      parent = parent;
      above = d.above;
      group = group_of d.group;
      times = times_of d.times d.is_abstract grouped;
      reference = d.reference;
    }) plain)) ≡ add_declared d parent grouped plain
add_declared-parts d parent grouped plain = ap (λ (f : Adds). f parent grouped plain) (sym (fold_out-Declared Adds Adds item_step declared_step d))

pub count_declared-parts : (d : Declared) → count_declared d ≡ 1 + count_items d.items
count_declared-parts d = fold_out-Declared ℕ ℕ item_count declared_count d

pub ruleset count_steps = (counted-members, counted-rules, counted-start, counted-one, count_declared-parts)
