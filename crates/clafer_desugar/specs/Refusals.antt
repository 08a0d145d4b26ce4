-- What is refused in a text before its names are looked up.
use Rattle.std.specs.Prelude.{ℕ, ◌&&◌, Bool, true, false, List, [], ◌∷◌, ◌++◌, map, Option, Some, None, ◌≡◌, is_some, nat_eq, bytes_eq, if◌then◌else◌}
use Rattle.std.specs.Option.{option_eq}
use Rattle.std.specs.List.{list_any, flat_map}
use Rattle.clf_base.specs.declared.fault.Span.{Span}
use Rattle.clf_base.specs.declared.fault.Refusal.{Refusal}
use Rattle.clf_base.specs.declared.fault.Fault.{Fault}
use Rattle.clf_base.specs.declared.fault.Fault.TheVariants as fault
use Rattle.refusal_order.specs.Order.{refused, with_refusals, first_refusal}
use Rattle.clf_tree.specs.declared.token.Title.{Title}
use Rattle.clf_tree.specs.declared.expr.Expr.{Expr}
use Rattle.clf_tree.specs.declared.model.Rule.{Rule}
use Rattle.clf_tree.specs.declared.model.Goal.{Goal}
use Rattle.clf_tree.specs.declared.plain.PlainClafer.{PlainClafer}
use Rattle.clf_tree.specs.declared.plain.Plain.{Plain}
use Rattle.clf_tree.specs.declared.module.Module.{Module}
use Rattle.clf_tree.specs.declared.module.Item.{Item, fold-Item}
use Rattle.clf_tree.specs.declared.module.Declared.{Declared, fold-Declared}
use Rattle.clf_tree.specs.declared.module.Item.TheOpen as item
use Rattle.clf_tree.specs.declared.module.Item.TheOpen.{Item-F, Declared-F}
use Rattle.clf_tree.specs.Named.{is_wrong}
use Rattle.clf_tree.specs.Tree as e
use Rattle.clf_tree.specs.Tree.{Tree, tree}
use Rattle.clafer_desugar.specs.PlainModel.{plain_of}

abbrev pub refused_if : Bool → ℕ → Span → List Refusal
refused_if met code at = if met then refused code at 0 ∷ [] else []

-- ---- items: an enum or a goal that stands below a clafer

abbrev pub in_item : Item-F (Bool → List Refusal) (List Refusal) → Bool → List Refusal
in_item (item.Clafer d) nested = d
in_item (item.Enum at title members) nested = refused_if nested 53 at
in_item (item.Constraint at parts) nested = []
in_item (item.Goal at least body) nested = refused_if nested 53 at

abbrev pub in_declared : Declared-F (Bool → List Refusal) (List Refusal) → List Refusal
in_declared d = flat_map (λ x. x true) d.items

abbrev pub item_refusals : Item → Bool → List Refusal
item_refusals = fold-Item (Bool → List Refusal) (List Refusal) in_item in_declared

abbrev pub declared_refusals : Declared → List Refusal
declared_refusals = fold-Declared (Bool → List Refusal) (List Refusal) in_item in_declared

-- the items of a list, all below a clafer or all at top level
abbrev pub items_refusals : List Item → Bool → List Refusal
items_refusals items nested = flat_map (λ x. item_refusals x nested) items

-- ---- clafers

-- a low bound above its high one, where that of the group comes first
abbrev pub bounds_refusals : PlainClafer → List Refusal
bounds_refusals k =
    if is_wrong k.group then refused 50 k.title.at k.group.low ∷ []
    else (if is_wrong k.times then refused 50 k.title.at k.times.low ∷ [] else [])

-- whether it has this parent, or none, and this name
abbrev pub stands_at : Option ℕ → List ℕ → PlainClafer → Bool
stands_at parent name k = option_eq nat_eq parent k.parent && bytes_eq name k.title.name

-- of a clafer, which repeats the parent and the name of an earlier one or not
abbrev pub refusals_of : Bool → PlainClafer → List Refusal
refusals_of repeats k = bounds_refusals k ++ (refused_if repeats 51 k.title.at ++ refused_if (k.is_abstract && is_some k.parent) 52 k.at)

-- of the clafers of a list, given those before it
abbrev pub clafers_refusals : List PlainClafer → List PlainClafer → List Refusal
clafers_refusals before [] = []
clafers_refusals before (k ∷ ks) = refusals_of (list_any (stands_at k.parent k.title.name) before) k ++ clafers_refusals (before ++ k ∷ []) ks

-- ---- expressions: a name of a quantifier that stands before among its names

abbrev pub names_refusals : List Title → List Title → List Refusal
names_refusals before [] = []
names_refusals before (t ∷ ts) =
    refused_if (list_any (λ u. bytes_eq t.name u.name) before) 51 t.at ++ names_refusals (before ++ t ∷ []) ts

-- in an expression
abbrev pub expr_refusals : Tree → List Refusal
expr_refusals (e.Join _ a _) = expr_refusals a
expr_refusals (e.Step _ a _ _) = expr_refusals a
expr_refusals (e.Parent _ a) = expr_refusals a
expr_refusals (e.Dref _ a) = expr_refusals a
expr_refusals (e.Union _ a b) = expr_refusals a ++ expr_refusals b
expr_refusals (e.Minus _ a b) = expr_refusals a ++ expr_refusals b
expr_refusals (e.Meet _ a b) = expr_refusals a ++ expr_refusals b
expr_refusals (e.If _ c a b) = expr_refusals c ++ (expr_refusals a ++ expr_refusals b)
expr_refusals (e.Not _ a) = expr_refusals a
expr_refusals (e.And _ a b) = expr_refusals a ++ expr_refusals b
expr_refusals (e.Or _ a b) = expr_refusals a ++ expr_refusals b
expr_refusals (e.Xor _ a b) = expr_refusals a ++ expr_refusals b
expr_refusals (e.Implies _ a b) = expr_refusals a ++ expr_refusals b
expr_refusals (e.Iff _ a b) = expr_refusals a ++ expr_refusals b
expr_refusals (e.Card _ a) = expr_refusals a
expr_refusals (e.Sum _ a) = expr_refusals a
expr_refusals (e.Neg _ a) = expr_refusals a
expr_refusals (e.Add _ a b) = expr_refusals a ++ expr_refusals b
expr_refusals (e.Sub _ a b) = expr_refusals a ++ expr_refusals b
expr_refusals (e.Mul _ a b) = expr_refusals a ++ expr_refusals b
expr_refusals (e.Less _ a b) = expr_refusals a ++ expr_refusals b
expr_refusals (e.LessEqual _ a b) = expr_refusals a ++ expr_refusals b
expr_refusals (e.Greater _ a b) = expr_refusals a ++ expr_refusals b
expr_refusals (e.GreaterEqual _ a b) = expr_refusals a ++ expr_refusals b
expr_refusals (e.Equal _ a b) = expr_refusals a ++ expr_refusals b
expr_refusals (e.In _ a b) = expr_refusals a ++ expr_refusals b
expr_refusals (e.Some _ a) = expr_refusals a
expr_refusals (e.No _ a) = expr_refusals a
expr_refusals (e.One _ a) = expr_refusals a
expr_refusals (e.Lone _ a) = expr_refusals a
expr_refusals (e.Quant _ _ _ names over body) = names_refusals [] names ++ (expr_refusals over ++ expr_refusals body)
expr_refusals _ = []

abbrev pub rules_refusals : List Rule → List Refusal
rules_refusals rules = flat_map (λ r. expr_refusals (tree r.body)) rules

abbrev pub goals_refusals : List Goal → List Refusal
goals_refusals goals = flat_map (λ g. expr_refusals (tree g.body)) goals

-- ---- the text

abbrev pub plain_refusals : Plain → List Refusal
plain_refusals plain = clafers_refusals [] plain.clafers ++ (rules_refusals plain.rules ++ goals_refusals plain.goals)

-- all that is refused in a text
abbrev pub refusals : Module → List Refusal
refusals text = items_refusals text.items false ++ plain_refusals (plain_of text)

-- why there is no plain model
abbrev pub Explains : Module → Fault → Type 0
Explains text (fault.Refused r) = first_refusal (refusals text) ≡ Some r
Explains text fault.NoMemory = Unit {0}

-- ---- going on over an expression, part by part

-- the first of the one that was found so far and those of an expression
abbrev pub in_tree : Tree → Option Refusal → Option Refusal
in_tree (e.Join _ a _) first = in_tree a first
in_tree (e.Step _ a _ _) first = in_tree a first
in_tree (e.Parent _ a) first = in_tree a first
in_tree (e.Dref _ a) first = in_tree a first
in_tree (e.Not _ a) first = in_tree a first
in_tree (e.Card _ a) first = in_tree a first
in_tree (e.Sum _ a) first = in_tree a first
in_tree (e.Neg _ a) first = in_tree a first
in_tree (e.Some _ a) first = in_tree a first
in_tree (e.No _ a) first = in_tree a first
in_tree (e.One _ a) first = in_tree a first
in_tree (e.Lone _ a) first = in_tree a first
in_tree (e.Union _ a b) first = in_tree b (in_tree a first)
in_tree (e.Minus _ a b) first = in_tree b (in_tree a first)
in_tree (e.Meet _ a b) first = in_tree b (in_tree a first)
in_tree (e.And _ a b) first = in_tree b (in_tree a first)
in_tree (e.Or _ a b) first = in_tree b (in_tree a first)
in_tree (e.Xor _ a b) first = in_tree b (in_tree a first)
in_tree (e.Implies _ a b) first = in_tree b (in_tree a first)
in_tree (e.Iff _ a b) first = in_tree b (in_tree a first)
in_tree (e.Add _ a b) first = in_tree b (in_tree a first)
in_tree (e.Sub _ a b) first = in_tree b (in_tree a first)
in_tree (e.Mul _ a b) first = in_tree b (in_tree a first)
in_tree (e.Less _ a b) first = in_tree b (in_tree a first)
in_tree (e.LessEqual _ a b) first = in_tree b (in_tree a first)
in_tree (e.Greater _ a b) first = in_tree b (in_tree a first)
in_tree (e.GreaterEqual _ a b) first = in_tree b (in_tree a first)
in_tree (e.Equal _ a b) first = in_tree b (in_tree a first)
in_tree (e.In _ a b) first = in_tree b (in_tree a first)
in_tree (e.If _ c a b) first = in_tree b (in_tree a (in_tree c first))
in_tree (e.Quant _ _ _ names over body) first = in_tree body (in_tree over (with_refusals first (names_refusals [] names)))
in_tree _ first = first
