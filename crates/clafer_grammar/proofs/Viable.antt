-- Every state of the reader has read what begins a module.
use Rattle.std.proofs.Common.{◌≡◌, ℕ, ◌≤◌, arith, Bool, true, false, refl, sym, ◌∙◌, ap, subst, Option, Some, None, List, [], ◌∷◌, ◌++◌, append_assoc, append-nil}
use Rattle.clf_base.specs.declared.fault.Span.{Span}
use Rattle.clf_tree.specs.declared.token.Sign.TheVariants as s
use Rattle.clf_tree.specs.declared.token.Title.{Title}
use Rattle.clf_tree.specs.declared.token.Word.{Word}
use Rattle.clf_tree.specs.declared.token.Word.TheVariants as w
use Rattle.clf_tree.specs.declared.token.TokenKind.TheVariants as t
use Rattle.clf_tree.specs.declared.expr.Expr.{Expr}
use Rattle.clf_tree.specs.declared.module.Interval.{Interval}
use Rattle.clf_tree.specs.declared.module.Item.{Item}
use Rattle.clafer_grammar.specs.declared.heads.Head.{Head}
use Rattle.clafer_grammar.specs.declared.heads.Lead.{Lead}
use Rattle.clafer_grammar.specs.declared.heads.Stage.{Stage}
use Rattle.clafer_grammar.specs.declared.operators.Infix.TheVariants as b
use Rattle.clafer_grammar.specs.declared.machine.Frame.{Frame}
use Rattle.clafer_grammar.specs.declared.machine.Frame.TheVariants as f
use Rattle.clafer_grammar.specs.Symbols.{Symbol, tok}
use Rattle.clafer_grammar.specs.Operators.{infix_kind, infix_rest, prefix_kind}
use Rattle.clafer_grammar.specs.Expressions.{is_quant, disj_part, SpellsNames, Spells, Begins}
use Rattle.clafer_grammar.specs.Declarations.{abstract_part, SpellsGroup, SpellsTimes, BeginsGroup, BeginsAbove, BeginsReference, BeginsTimes, BeginsHead}
use Rattle.clafer_grammar.specs.Modules.{NoMinus, SpellsMore, BeginsMore, SpellsMembers, SpellsStart, Ending, Follows, SpellsItems, BeginsItems, BeginsModule}
use Rattle.clafer_grammar.specs.Machine.{least, State}
use Rattle.clafer_grammar.proofs.Sound.{ItemsRead, FirstFollows, follows_more, all_begun, may_bracket, may_goal, may_enum, InBody, InExpr, FirstNotMinus, Guard, Fresh, PartsRead, NamesRead, MembersRead, Before, LeadRead, StageRead, Consumed, guard_more, guard_first, guard_any, guard_fresh, no_minus_of, least_high}

more_begin : {us vs : List Symbol} {xs : List Expr} → SpellsMore us xs → NoMinus vs → Begins 0 vs → BeginsMore (us ++ vs)
more_begin SpellsMore.none g d = BeginsMore.part g d
more_begin (SpellsMore.more h v o) g d = rw append_assoc (BeginsMore.more h v (more_begin o g d))

as_begun : {ts us : List Symbol} → ts ≡ us → BeginsModule ts → BeginsModule us
as_begun e d = subst (λ l. BeginsModule l) e d

-- Items that begin in the innermost body.
body_begun : {frames : List Frame} {ts : List Symbol} → Before frames ts → InBody frames → (us : List Symbol) → BeginsItems us → BeginsModule (ts ++ us)
body_begun Before.nothing j us d = BeginsModule.items d
body_begun (Before.block a {end = end} {hs = hs} {ss = ss} d k r v o g) j us p =
    as_begun (simp append_assoc) (body_begun d k _ (r.begins (hs ++ (ss ++ tok t.Open a ∷ us)) (follows_more end hs _ g) (BeginsItems.body a v o p)))
body_begun (Before.bracket d k r p) j us o = absurd j
body_begun (Before.goal kind a d k r e) j us o = absurd j
body_begun (Before.equal d k r v g) j us o = absurd j
body_begun (Before.binary a d k g l v) j us o = absurd j
body_begun (Before.unary d k g l) j us o = absurd j
body_begun (Before.paren a d k l) j us o = absurd j
body_begun (Before.condition d k l) j us o = absurd j
body_begun (Before.consequence a d k l v) j us o = absurd j
body_begun (Before.alternative a z d k l v p) j us o = absurd j
body_begun (Before.range e c d k l q v) j us o = absurd j
body_begun (Before.body e c z d k l q v p) j us o = absurd j

bracket_begun : {ws us : List Symbol} {parts : List Expr} (items : List Item) (frames : List Frame) (place : Span) → PartsRead ws parts →
    Guard (f.Bracket items place parts ∷ frames) us → Begins 0 us → BeginsItems (tok (t.Sign s.BracketOpen) place ∷ (ws ++ us))
bracket_begun items frames place PartsRead.none g d = BeginsItems.first d
bracket_begun {us = us} items frames place (PartsRead.some v o) g d =
    rw append_assoc (BeginsItems.parts v (more_begin o (no_minus_of us g) d))

-- An expression that begins in the innermost construct.
expr_begun : {frames : List Frame} {ts : List Symbol} → Before frames ts → InExpr frames → (us : List Symbol) → Guard frames us → Begins (least frames) us →
    BeginsModule (ts ++ us)
expr_begun Before.nothing j us g o = absurd j
expr_begun (Before.block a d k r v p q) j us g o = absurd j
expr_begun (Before.bracket {at = at} {end = end} {frames = frames} {items = items} d k r p) j us g o =
    as_begun (simp append_assoc) (body_begun d k _ (r.begins _ (may_bracket end) (bracket_begun items frames at p g o)))
expr_begun (Before.goal kind a {at = at} {end = end} d k r e) j us g o =
    as_begun (simp append_assoc) (body_begun d k _ (r.begins (tok (t.Sign s.GoalOpen) at ∷ tok kind a ∷ us) (may_goal end) (BeginsItems.goal_word e o)))
expr_begun (Before.equal {at = at} {end = end} {hs = hs} d k r v q) j us g o =
    as_begun (simp append_assoc) (body_begun d k _ (r.begins (hs ++ tok (t.Sign s.Equal) at ∷ us) (follows_more end hs _ q) (BeginsItems.start at v o)))
expr_begun (Before.binary a {at = at} {op = op} {frames = frames} {us = ys} d k h l v) j us g o =
    as_begun (simp append_assoc)
    (expr_begun d k _ (guard_more frames ys (tok (infix_kind op) at ∷ (infix_rest op a ++ us)) h) (Begins.looser l (Begins.binary op at a v o)))
expr_begun (Before.unary {at = at} {op = op} {frames = frames} d k h l) j us g o =
    as_begun (simp append_assoc) (expr_begun d k _ (guard_first frames (tok (prefix_kind op) at) us h) (Begins.looser l (Begins.unary op {at = at} o)))
expr_begun (Before.paren a {frames = frames} d k l) j us g o =
    as_begun (simp append_assoc) (expr_begun d k (tok (t.Sign s.ParenOpen) a ∷ us) (guard_any frames _ (λ q. cc)) (Begins.looser l (Begins.paren {a = a} o)))
expr_begun (Before.condition {at = at} {frames = frames} d k l) j us g o =
    as_begun (simp append_assoc) (expr_begun d k (tok (t.Word w.If) at ∷ us) (guard_any frames _ (λ q. cc)) (Begins.looser l (Begins.condition {at = at} o)))
expr_begun (Before.consequence a {at = at} {frames = frames} {us = ys} d k l v) j us g o =
    as_begun (simp append_assoc)
    (expr_begun d k (tok (t.Word w.If) at ∷ (ys ++ tok (t.Word w.Then) a ∷ us)) (guard_any frames _ (λ q. cc)) (Begins.looser l (Begins.consequence a {at = at} v o)))
expr_begun (Before.alternative a z {at = at} {frames = frames} {us = ys} {vs = vs} d k l v p) j us g o =
    as_begun (simp append_assoc)
    (expr_begun d k (tok (t.Word w.If) at ∷ (ys ++ tok (t.Word w.Then) a ∷ (vs ++ tok (t.Word w.Else) z ∷ us))) (guard_any frames _ (λ q. cc)) (Begins.looser l (Begins.alternative a z {at = at} v p o)))
expr_begun (Before.range e c {at = at} {word = word} {disj = disj} {frames = frames} {ns = ns} d k l q v) j us g o =
    as_begun (simp append_assoc)
    (expr_begun d k (tok (t.Word word) at ∷ (disj_part disj e ++ (ns ++ tok (t.Sign s.Colon) c ∷ us))) (guard_any frames _ (λ q. cc)) (Begins.looser l (Begins.range disj e c {at = at} q v o)))
expr_begun (Before.body e c z {at = at} {word = word} {disj = disj} {frames = frames} {ns = ns} {us = ys} d k l q v p) j us g o =
    as_begun (simp append_assoc)
    (expr_begun d k (tok (t.Word word) at ∷ (disj_part disj e ++ (ns ++ tok (t.Sign s.Colon) c ∷ (ys ++ tok (t.Sign s.Bar) z ∷ us)))) (guard_any frames _ (λ q. cc)) (Begins.looser l (Begins.body disj e c z {at = at} q v p o)))

-- An operand can come in a fresh construct, and nothing has begun it.
operand_begun : {frames : List Frame} {ts : List Symbol} → Before frames ts → InExpr frames → Fresh frames → BeginsModule ts
operand_begun {frames = frames} {ts = ts} d j h = as_begun (append-nil ts) (expr_begun d j [] (guard_fresh frames [] h) Begins.nothing)

-- ---- heads

lead_begun : {hs : List Symbol} {l : Lead} → LeadRead hs l → BeginsHead hs
lead_begun (LeadRead.abstract_word {a = a}) = BeginsHead.in_group true a (BeginsGroup.whole SpellsGroup.none)
lead_begun (LeadRead.low_bound is_abstract a z {low = low}) = BeginsHead.in_group is_abstract a BeginsGroup.low
lead_begun (LeadRead.dots_bound is_abstract a z d {low = low}) = BeginsHead.in_group is_abstract a BeginsGroup.dots
lead_begun (LeadRead.group_read is_abstract a z v) = BeginsHead.in_group is_abstract a (BeginsGroup.whole v)

stage_begun : {hs : List Symbol} {h : Head} {st : Stage} → StageRead hs h st → BeginsHead hs
stage_begun (StageRead.early_read z n l a r) = BeginsHead.in_reference z n l a (BeginsReference.whole r)
stage_begun (StageRead.colon_read z y n l) = BeginsHead.in_above z n l BeginsAbove.colon
stage_begun (StageRead.arrow_read z n arrow l a e) = BeginsHead.in_reference z n l a (BeginsReference.sign e)
stage_begun (StageRead.low_read z y n l a r) = BeginsHead.in_times z n l a r (BeginsTimes.whole SpellsTimes.exact)
stage_begun (StageRead.dots_read z y d n l a r) = BeginsHead.in_times z n l a r BeginsTimes.dots
stage_begun (StageRead.multiplied z n l a r v) = BeginsHead.in_times z n l a r (BeginsTimes.whole v)

-- what begins an item behind whole items
item_begun : {frames : List Frame} {ts us hs : List Symbol} {xs : List Item} {end : Ending} → Before frames ts → InBody frames → ItemsRead us xs end → FirstFollows end hs → BeginsItems hs →
    BeginsModule (ts ++ (us ++ hs))
item_begun {hs = hs} {end = end} d k r g v = body_begun d k _ (r.begins hs (subst (λ l. Follows end l) (append-nil hs) (follows_more end hs [] g)) v)

name_level : (frames : List Frame) → least frames ≤ 14
name_level frames = omega (arith, least_high frames)

pub consumed_begins : {v : State} {ts : List Symbol} → Consumed v ts → BeginsModule ts
consumed_begins (Consumed.of_items d k r) = body_begun d k _ (all_begun r)
consumed_begins (Consumed.of_lead d k r g v) = item_begun d k r g (BeginsItems.head (lead_begun v))
consumed_begins (Consumed.of_head d k r g v) = item_begun d k r g (BeginsItems.head (stage_begun v))
consumed_begins (Consumed.of_enum {end = end} d k r) = item_begun d k r (may_enum end) BeginsItems.enum_word
consumed_begins (Consumed.of_enum_title {end = end} d k r) = item_begun d k r (may_enum end) BeginsItems.enum_title
consumed_begins (Consumed.of_member z {at = at} {a = a} {n = n} {end = end} d k r MembersRead.none) = item_begun d k r (may_enum end) BeginsItems.enum_sign
consumed_begins (Consumed.of_member z {end = end} d k r (MembersRead.more c v)) = item_begun d k r (may_enum end) (BeginsItems.member c v)
consumed_begins (Consumed.of_members z {at = at} {a = a} {n = n} {end = end} {ts = ts} {us = us} {ms = ms} d k r v) =
    as_begun (ap (λ l. ts ++ (us ++ tok (t.Word w.Enum) at ∷ tok (t.Name n) a ∷ tok (t.Sign s.Equal) z ∷ l)) (append-nil ms))
    (item_begun d k r (may_enum end) (BeginsItems.enumeration v BeginsItems.none))
consumed_begins (Consumed.of_goal {end = end} d k r) = item_begun d k r (may_goal end) BeginsItems.goal_sign
consumed_begins (Consumed.of_operand d k h) = operand_begun d k h
consumed_begins (Consumed.of_in {at = at} {frames = frames} {us = us} d k g l v) = expr_begun d k _ (guard_more frames us _ g) (Begins.looser l (Begins.operator b.NotIn at v))
consumed_begins (Consumed.of_names e {at = at} {word = word} {disj = disj} {frames = frames} {ts = ts} d k l q NamesRead.none) =
    as_begun (ap (λ x. ts ++ tok (t.Word word) at ∷ x) (sym (append-nil (disj_part disj e)))) (expr_begun d k _ (guard_any frames _ (λ q. cc)) (Begins.looser l (Begins.quant disj e {at = at} q)))
consumed_begins (Consumed.of_names e {at = at} {disj = disj} {frames = frames} d k l q (NamesRead.more c v)) =
    expr_begun d k _ (guard_any frames _ (λ q. cc)) (Begins.looser l (Begins.further disj e c {at = at} q v))
consumed_begins (Consumed.of_listed e {at = at} {disj = disj} {frames = frames} d k l q v) = expr_begun d k _ (guard_any frames _ (λ q. cc)) (Begins.looser l (Begins.names disj e {at = at} q v))
consumed_begins (Consumed.of_named {frames = frames} d k) = expr_begun d k _ (guard_any frames _ (λ q. cc)) (Begins.looser (name_level frames) (Begins.whole Spells.name))
consumed_begins (Consumed.of_value d k g l v) = expr_begun d k _ g (Begins.looser l (Begins.whole v))
consumed_begins (Consumed.of_field a {frames = frames} {us = us} d k g l v) = expr_begun d k _ (guard_more frames us _ g) (Begins.looser l (Begins.dot a v))
consumed_begins (Consumed.of_done v) = BeginsModule.whole v
