-- The plain model of a text, item by item, in the order of the text.
use Rattle.std.specs.Prelude.{ℕ, zero, suc, ◌+◌, ◌==◌, ◌&&◌, Bool, true, false, not, List, [], ◌∷◌, ◌++◌, length, map, sum, Option, Some, None, if◌then◌else◌, is_none}
use Rattle.std.specs.Option.{option_map_or}
use Rattle.clf_base.specs.declared.fault.Span.{Span}
use Rattle.clf_tree.specs.declared.token.Title.{Title}
use Rattle.clf_tree.specs.declared.expr.Expr.{Expr, roll-Expr}
use Rattle.clf_tree.specs.declared.expr.Form.{Form}
use Rattle.clf_tree.specs.declared.expr.Form.TheVariants as form
use Rattle.clf_tree.specs.declared.model.Rule.{Rule}
use Rattle.clf_tree.specs.declared.model.Goal.{Goal}
use Rattle.clf_tree.specs.declared.module.Interval.{Interval}
use Rattle.clf_tree.specs.declared.module.Pointer.{Pointer}
use Rattle.clf_tree.specs.declared.module.Start.{Start}
use Rattle.clf_tree.specs.declared.module.Module.{Module}
use Rattle.clf_tree.specs.declared.module.Item.{Item, fold-Item}
use Rattle.clf_tree.specs.declared.module.Declared.{Declared, fold-Declared}
use Rattle.clf_tree.specs.declared.module.Item.TheOpen as item
use Rattle.clf_tree.specs.declared.module.Item.TheOpen.{Item-F, Declared-F}
use Rattle.clf_tree.specs.declared.plain.PlainClafer.{PlainClafer}
use Rattle.clf_tree.specs.declared.plain.Plain.{Plain}

abbrev pub any : Interval
any = record { low = 0; high = None }

abbrev pub times : ℕ → ℕ → Interval
times low high = record { low = low; high = Some high }

-- a group as it is written, or the default
abbrev pub group_of : Option Interval → Interval
group_of (Some written) = written
group_of None = any

-- whether the clafers directly under a clafer of this group are grouped
abbrev pub is_grouping : Interval → Bool
is_grouping group = not (group.low == 0 && is_none group.high)

-- a multiplicity as it is written, or the default of an abstract, of a grouped, and of any other clafer
abbrev pub times_of : Option Interval → Bool → Bool → Interval
times_of (Some written) is_abstract grouped = written
times_of None true grouped = any
times_of None false true = times 0 1
times_of None false false = times 1 1

abbrev pub node : Span → Form → Expr
node at form = roll-Expr (record { at = at; form = form })

-- `this.dref = body`
abbrev pub starts_with : Start → Expr
starts_with start = node start.at (form.Equal (node start.at (form.Dref (node start.at form.This))) start.body)

abbrev pub with_clafer : PlainClafer → Plain → Plain
with_clafer clafer plain = record plain { clafers = plain.clafers ++ clafer ∷ [] }

abbrev pub with_rule : Option ℕ → Expr → Plain → Plain
with_rule context body plain = record plain { rules = plain.rules ++ record { context = context; body = body } ∷ [] }

abbrev pub with_rules : Option ℕ → List Expr → Plain → Plain
with_rules context [] plain = plain
with_rules context (body ∷ bodies) plain = with_rules context bodies (with_rule context body plain)

abbrev pub with_start : Option ℕ → Option Start → Plain → Plain
with_start context None plain = plain
with_start context (Some start) plain = with_rule context (starts_with start) plain

abbrev pub with_goal : Goal → Plain → Plain
with_goal goal plain = record plain { goals = plain.goals ++ goal ∷ [] }

-- an enum is an abstract clafer, and each of its members a clafer that inherits from it, all at top level
abbrev pub enum_clafer : Span → Title → Plain → Plain
enum_clafer at title plain = with_clafer (record { at = at; title = title; is_abstract = true; parent = None; above = None; group = any; times = any; reference = None }) plain

abbrev pub member_clafer : Title → Title → Plain → Plain
member_clafer enum title plain = with_clafer (record { at = title.at; title = title; is_abstract = false; parent = None; above = Some enum; group = any; times = times 1 1; reference = None }) plain

abbrev pub with_members : Title → List Title → Plain → Plain
with_members enum [] plain = plain
with_members enum (title ∷ titles) plain = with_members enum titles (member_clafer enum title plain)

-- the plain model with one more item, under a clafer or at top level, whose clafers are grouped there or not
abbrev pub Adds : Type 0
Adds = Option ℕ → Bool → Plain → Plain

-- with all the items, one after the other
abbrev pub one_by_one : List Adds → Adds
one_by_one [] parent grouped plain = plain
one_by_one (add ∷ more) parent grouped plain = one_by_one more parent grouped (add parent grouped plain)

abbrev pub item_step : Item-F Adds Adds → Adds
item_step (item.Clafer d) parent grouped plain = d parent grouped plain
item_step (item.Enum at title members) parent grouped plain = with_members title members (enum_clafer at title plain)
item_step (item.Constraint at parts) parent grouped plain = with_rules parent parts plain
item_step (item.Goal at least body) parent grouped plain = with_goal (record { at = at; least = least; body = body }) plain

-- the clafer, then its `=` rule, then its items, whose parent has the number of the clafer
abbrev pub declared_step : Declared-F Adds Adds → Adds
declared_step d parent grouped plain =
    one_by_one d.items (Some (length plain.clafers)) (is_grouping (group_of d.group))
    (with_start (Some (length plain.clafers)) d.start
    (with_clafer (record {
      at = d.at;
      title = d.title;
      is_abstract = d.is_abstract;
      parent = parent;
      above = d.above;
      group = group_of d.group;
      times = times_of d.times d.is_abstract grouped;
      reference = d.reference;
    }) plain))

abbrev pub add_item : Item → Adds
add_item = fold-Item Adds Adds item_step declared_step

abbrev pub add_declared : Declared → Adds
add_declared = fold-Declared Adds Adds item_step declared_step

abbrev pub add_items : List Item → Adds
add_items items = one_by_one (map add_item items)

abbrev pub nothing : Plain
nothing = record { clafers = []; rules = []; goals = [] }

-- the plain model of a text
abbrev pub plain_of : Module → Plain
plain_of text = add_items text.items None false nothing

-- the number of clafers that an item stands for
abbrev pub item_count : Item-F ℕ ℕ → ℕ
item_count (item.Clafer d) = d
item_count (item.Enum at title members) = 1 + length members
item_count (item.Constraint at parts) = 0
item_count (item.Goal at least body) = 0

abbrev pub declared_count : Declared-F ℕ ℕ → ℕ
declared_count d = 1 + sum d.items

abbrev pub count_item : Item → ℕ
count_item = fold-Item ℕ ℕ item_count declared_count

abbrev pub count_declared : Declared → ℕ
count_declared = fold-Declared ℕ ℕ item_count declared_count

abbrev pub count_items : List Item → ℕ
count_items items = sum (map count_item items)
