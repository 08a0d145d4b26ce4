-- What each item adds to a plain model.
use Rattle.std.proofs.Common.{◌≡◌, ℕ, ◌+◌, Bool, List, length, map, sum, Option, Some, ap, sym, ◌∙◌}
use Rattle.clf_base.specs.declared.fault.Span.{Span}
use Rattle.clf_tree.specs.declared.token.Title.{Title}
use Rattle.clf_tree.specs.declared.expr.Expr.{Expr}
use Rattle.clf_tree.specs.declared.module.Start.{Start}
use Rattle.clf_tree.specs.declared.module.Declared.{Declared, roll-Declared, fold-roll-Declared}
use Rattle.clf_tree.specs.declared.module.Item.{Item, roll-Item, map-Item}
use Rattle.clf_tree.specs.declared.module.Item.TheFolds.{fold-roll-Item}
use Rattle.clf_tree.specs.declared.module.Item.TheVariants as i
use Rattle.clf_tree.specs.declared.module.Item.TheOpen as layer
use Rattle.clf_tree.specs.declared.module.Item.TheOpen.{Item-F, Declared-F}
use Rattle.clf_tree.specs.declared.plain.Plain.{Plain}
use Rattle.clafer_grammar.specs.declared.heads.Head.{Head}
use Rattle.clafer_grammar.specs.Trees.{clafer}
use Rattle.clafer_desugar.specs.PlainModel.{Adds, item_step, declared_step, add_item, add_declared, one_by_one, group_of, times_of, is_grouping, with_clafer, with_rules, with_start, with_goal, enum_clafer, with_members, item_count, declared_count, count_item, count_declared}

-- an item by its layer
added : (x : Item) (y : Item-F Item Declared) → roll-Item y ≡ x → add_item x ≡ item_step (map-Item Item Declared Adds Adds add_item add_declared y)
added x y is = ap add_item (sym is) ∙ fold-roll-Item Adds Adds item_step declared_step y

counted : (x : Item) (y : Item-F Item Declared) → roll-Item y ≡ x → count_item x ≡ item_count (map-Item Item Declared ℕ ℕ count_item count_declared y)
counted x y is = ap count_item (sym is) ∙ fold-roll-Item ℕ ℕ item_count declared_count y

abbrev layer_of : Head → Option Start → List Item → Declared-F Item Declared
layer_of h start items = record {
  at = h.at;
  is_abstract = h.is_abstract;
  group = h.group;
  title = h.title;
  above = h.above;
  reference = h.reference;
  times = h.times;
  start = start;
  items = items;
}

pub added_clafer : (h : Head) (start : Option Start) (inner : List Item) (parent : Option ℕ) (grouped : Bool) (plain : Plain)
    → add_item (clafer h start inner) parent grouped plain
    ≡ one_by_one (map add_item inner) (Some (length plain.clafers)) (is_grouping (group_of h.group))
    (with_start (Some (length plain.clafers)) start
    (with_clafer (record {
      at = h.at;
      title = h.title;
      is_abstract = h.is_abstract;
      parent = parent;
      above = h.above;
      group = group_of h.group;
      times = times_of h.times h.is_abstract grouped;
      reference = h.reference;
    }) plain))
added_clafer h start inner parent grouped plain =
    let d : Declared = roll-Declared (layer_of h start inner) in
    ap (λ (f : Adds). f parent grouped plain) (added (i.Clafer d) (layer.Clafer d) (i.rolls-Clafer d))
    ∙ ap (λ (f : Adds). f parent grouped plain) (fold-roll-Declared Adds Adds item_step declared_step (layer_of h start inner))

pub added_enum : (at : Span) (name : Title) (members : List Title) (parent : Option ℕ) (grouped : Bool) (plain : Plain)
    → add_item (i.Enum at name members) parent grouped plain ≡ with_members name members (enum_clafer at name plain)
added_enum at name members parent grouped plain = ap (λ (f : Adds). f parent grouped plain) (added (i.Enum at name members) (layer.Enum at name members) (i.rolls-Enum at name members))

pub added_constraint : (at : Span) (parts : List Expr) (parent : Option ℕ) (grouped : Bool) (plain : Plain)
    → add_item (i.Constraint at parts) parent grouped plain ≡ with_rules parent parts plain
added_constraint at parts parent grouped plain = ap (λ (f : Adds). f parent grouped plain) (added (i.Constraint at parts) (layer.Constraint at parts) (i.rolls-Constraint at parts))

pub added_goal : (at : Span) (least : Bool) (body : Expr) (parent : Option ℕ) (grouped : Bool) (plain : Plain)
    → add_item (i.Goal at least body) parent grouped plain ≡ with_goal (record { at = at; least = least; body = body }) plain
added_goal at least body parent grouped plain = ap (λ (f : Adds). f parent grouped plain) (added (i.Goal at least body) (layer.Goal at least body) (i.rolls-Goal at least body))

-- ---- how many clafers each item declares

pub counted_clafer : (h : Head) (start : Option Start) (inner : List Item) → count_item (clafer h start inner) ≡ 1 + sum (map count_item inner)
counted_clafer h start inner =
    let d : Declared = roll-Declared (layer_of h start inner) in
    counted (i.Clafer d) (layer.Clafer d) (i.rolls-Clafer d) ∙ fold-roll-Declared ℕ ℕ item_count declared_count (layer_of h start inner)

pub counted_enum : (at : Span) (name : Title) (members : List Title) → count_item (i.Enum at name members) ≡ 1 + length members
counted_enum at name members = counted (i.Enum at name members) (layer.Enum at name members) (i.rolls-Enum at name members)

pub counted_constraint : (at : Span) (parts : List Expr) → count_item (i.Constraint at parts) ≡ 0
counted_constraint at parts = counted (i.Constraint at parts) (layer.Constraint at parts) (i.rolls-Constraint at parts)

pub counted_goal : (at : Span) (least : Bool) (body : Expr) → count_item (i.Goal at least body) ≡ 0
counted_goal at least body = counted (i.Goal at least body) (layer.Goal at least body) (i.rolls-Goal at least body)
