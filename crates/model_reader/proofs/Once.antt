-- A text has one answer, since each stage has one.
use Rattle.std.proofs.Common.{◌≡◌, ◌∙◌, ℕ, true, false, Bool, List, [], ◌∷◌, map, Option, Some, None, Result, Ok, Err, refl, sym, ap, subst, true≢false}
use Rattle.std.specs.Prelude.{slice_get}
use Rattle.clf_base.specs.declared.fault.Span.{Span}
use Rattle.clf_base.specs.declared.fault.Refusal.{Refusal}
use Rattle.refusal_order.specs.Order.{first_refusal}
use Rattle.clf_tree.specs.declared.token.Token.{Token}
use Rattle.clf_tree.specs.declared.module.Item.{Item}
use Rattle.clf_tree.specs.declared.plain.Plain.{Plain}
use Rattle.clf_tree.specs.declared.model.Clafer.{Clafer}
use Rattle.clf_tree.specs.declared.model.Rule.{Rule}
use Rattle.clf_tree.specs.declared.model.Goal.{Goal}
use Rattle.clf_tree.specs.declared.model.Model.{Model}
use Rattle.clf_tree.specs.declared.scopes.Scopes.{Scopes}
use Rattle.clf_tree.specs.declared.scopes.Given.{Given}
use Rattle.clafer_lexer.specs.Cuts.{IsLexed, IsFirstRefusal as HasNoTokens}
use Rattle.clafer_lexer.specs.Layout.{laid}
use Rattle.clafer_grammar.specs.Symbols.{Symbol, symbols}
use Rattle.clafer_grammar.specs.Modules.{SpellsModule}
use Rattle.clafer_parser.specs.Limits.{AreFine, IsFirstRefusal as SpellsNoModule}
use Rattle.clafer_desugar.specs.PlainModel.{plain_of}
use Rattle.clafer_desugar.specs.Refusals.{refusals}
use Rattle.expression_names.specs.Models.{RuleTree, GoalTree, rule_tree, goal_tree, looked_rule, looked_goal}
use Rattle.model_resolver.specs.Resolved.{IsResolved, resolved_clafers, refusal_of}
use Rattle.type_checker.specs.Refusals.{model_refusal}
use Rattle.scope_table.specs.Refusals.{IsFirst, AreScopes, all_scopes, refusals as scope_refusals}
use Rattle.int_widths.specs.Weight.{model_weight}
use Rattle.model_weight.specs.Refusals.{refusal as weight_refusal}
use Rattle.model_reader.specs.Texts.{IsLaidText, SpellsItems, module_of, IsPlainText, HasNoModule}
use Rattle.model_reader.specs.Models.{IsNamedText, IsTypedText, HasNoModel}
use Rattle.model_reader.specs.declared.reader.Read.{Read}
use Rattle.model_reader.specs.Reading.{HasScopes, IsReadOf, IsRefused}
use Rattle.model_reader.proofs.Untree.{untree, tree_back, known_by}

-- the laws of the first stages
pub record Laws : Type 0 where
  pub tokens : (text : List ℕ) (some others : List Token) → IsLexed text some → IsLexed text others → some ≡ others
  pub lexed_refusal : (text : List ℕ) (some other : Refusal) → HasNoTokens text some → HasNoTokens text other → some ≡ other
  pub lexed_or_refused : (text : List ℕ) (some : List Token) (refusal : Refusal) → IsLexed text some → HasNoTokens text refusal → ⊥
  pub modules : (tokens : List Symbol) (some others : List Item) → SpellsModule tokens some → SpellsModule tokens others → some ≡ others
  pub parsed_refusal : (tokens : List Symbol) (some other : Refusal) → SpellsNoModule tokens some → SpellsNoModule tokens other → some ≡ other
  pub parsed_or_refused : (tokens : List Symbol) (refusal : Refusal) → AreFine tokens → SpellsNoModule tokens refusal → ⊥

abbrev value_or : List Token → Result (List Token) Refusal → List Token
value_or other (Ok tokens) = tokens
value_or other (Err refusal) = other

abbrev error_or : Refusal → Result (List Token) Refusal → Refusal
error_or other (Ok tokens) = other
error_or other (Err refusal) = refusal

abbrev is_laid : Result (List Token) Refusal → Bool
is_laid (Ok tokens) = true
is_laid (Err refusal) = false

laid_once : Laws → (text : List ℕ) (some others : List Token) → IsLaidText text some → IsLaidText text others → some ≡ others
laid_once laws text some others one other =
    ap (value_or some) (sym one.2 ∙ ap laid (laws.tokens text one.0 other.0 one.1 other.1) ∙ other.2)

laid_or_refused : Laws → (text : List ℕ) (out tokens : List Token) (refusal : Refusal) → IsLaidText text out → IsLexed text tokens → laid tokens ≡ Err refusal → ⊥
laid_or_refused laws text out tokens refusal one lexed e =
    true≢false (ap is_laid (sym one.2 ∙ ap laid (laws.tokens text one.0 tokens one.1 lexed) ∙ e))

-- ---- modules

no_module_once : Laws → (text : List ℕ) (some other : Refusal) → HasNoModule text some → HasNoModule text other → some ≡ other
no_module_once laws text some other (HasNoModule.no_tokens a) (HasNoModule.no_tokens b) = laws.lexed_refusal text some other a b
no_module_once laws text some other (HasNoModule.no_tokens a) (HasNoModule.no_layout {tokens = tokens} lexed e) = absurd (laws.lexed_or_refused text tokens some lexed a)
no_module_once laws text some other (HasNoModule.no_tokens a) (HasNoModule.not_spelled ready p) = absurd (laws.lexed_or_refused text ready.0 some ready.1 a)
no_module_once laws text some other (HasNoModule.no_layout {tokens = tokens} lexed e) (HasNoModule.no_tokens b) = absurd (laws.lexed_or_refused text tokens other lexed b)
no_module_once laws text some other (HasNoModule.no_layout {tokens = tokens} lexed e) (HasNoModule.no_layout {tokens = others} lexed_too f) =
    ap (error_or some) (sym e ∙ ap laid (laws.tokens text tokens others lexed lexed_too) ∙ f)
no_module_once laws text some other (HasNoModule.no_layout {tokens = tokens} lexed e) (HasNoModule.not_spelled {tokens = out} ready p) = absurd (laid_or_refused laws text out tokens some ready lexed e)
no_module_once laws text some other (HasNoModule.not_spelled ready p) (HasNoModule.no_tokens b) = absurd (laws.lexed_or_refused text ready.0 other ready.1 b)
no_module_once laws text some other (HasNoModule.not_spelled {tokens = out} ready p) (HasNoModule.no_layout {tokens = tokens} lexed f) = absurd (laid_or_refused laws text out tokens other ready lexed f)
no_module_once laws text some other (HasNoModule.not_spelled {tokens = tokens} ready p) (HasNoModule.not_spelled {tokens = others} ready_too q) =
    laws.parsed_refusal (symbols tokens) some other p (subst (λ ts. SpellsNoModule (symbols ts) other) (sym (laid_once laws text tokens others ready ready_too)) q)

spelled_or_refused : Laws → (text : List ℕ) (items : List Item) (refusal : Refusal) → SpellsItems text items → HasNoModule text refusal → ⊥
spelled_or_refused laws text items refusal s (HasNoModule.no_tokens a) = laws.lexed_or_refused text s.laid_text.0 refusal s.laid_text.1 a
spelled_or_refused laws text items refusal s (HasNoModule.no_layout {tokens = tokens} lexed e) = laid_or_refused laws text s.tokens tokens refusal s.laid_text lexed e
spelled_or_refused laws text items refusal s (HasNoModule.not_spelled {tokens = tokens} ready p) =
    laws.parsed_or_refused (symbols s.tokens) refusal s.fine (subst (λ ts. SpellsNoModule (symbols ts) refusal) (laid_once laws text tokens s.tokens ready s.laid_text) p)

module_once : Laws → (text : List ℕ) (some others : List Item) → SpellsItems text some → SpellsItems text others → some ≡ others
module_once laws text some others s o =
    laws.modules (symbols s.tokens) some others s.spelled (subst (λ ts. SpellsModule (symbols ts) others) (sym (laid_once laws text s.tokens o.tokens s.laid_text o.laid_text)) o.spelled)

-- ---- the later stages: an answer of no refusal and an answer that is one are not both there

both_ways : {X : Type 0} (f : X → Option Refusal) (x y : X) (r : Refusal) → x ≡ y → f x ≡ None → f y ≡ Some r → ⊥
both_ways f x y r same none some = none_some (sym none ∙ ap f same ∙ some)
  where
    none_some : {r : Refusal} → ◌≡◌ {A = Option Refusal} None (Some r) → ⊥
    none_some e = (cc)

same_some : {X : Type 0} (f : X → Option Refusal) (x y : X) (r s : Refusal) → x ≡ y → f x ≡ Some r → f y ≡ Some s → r ≡ s
same_some f x y r s same e g = inner (sym e ∙ ap f same ∙ g)
  where
    inner : {r s : Refusal} → ◌≡◌ {A = Option Refusal} (Some r) (Some s) → r ≡ s
    inner e = (cc)

plain_once : Laws → (text : List ℕ) (p q : Plain) → IsPlainText text p → IsPlainText text q → p ≡ q
plain_once laws text p q a b = a.model ∙ ap (λ xs. plain_of (module_of xs)) (module_once laws text a.items b.items a.spelled b.spelled) ∙ sym b.model

abbrev of_rule : RuleTree → Rule
of_rule t = record { context = t.context; body = untree t.body }

abbrev of_goal : GoalTree → Goal
of_goal t = record { at = t.at; least = t.least; body = untree t.body }

rule_back : (r : Rule) → of_rule (rule_tree r) ≡ r
rule_back r = λ i. record { context = r.context; body = tree_back r.body i }

goal_back : (g : Goal) → of_goal (goal_tree g) ≡ g
goal_back g = λ i. record { at = g.at; least = g.least; body = tree_back g.body i }

named_once : Laws → (text : List ℕ) (m n : Model) → IsNamedText text m → IsNamedText text n → m ≡ n
named_once laws text m n a b =
    let same : a.plain ≡ b.plain = plain_once laws text a.plain b.plain a.of_text b.of_text in
    let clafers : m.clafers ≡ n.clafers = a.resolved.clafers ∙ ap (λ (p : Plain). resolved_clafers p.clafers) same ∙ sym b.resolved.clafers in
    let rules : map rule_tree m.rules ≡ map rule_tree n.rules =
    a.resolved.rules ∙ ap (λ ks. map (looked_rule ks) a.plain.rules) clafers ∙ ap (λ (p : Plain). map (looked_rule n.clafers) p.rules) same ∙ sym b.resolved.rules in
    let goals : map goal_tree m.goals ≡ map goal_tree n.goals =
    a.resolved.goals ∙ ap (λ ks. map (looked_goal ks) a.plain.goals) clafers ∙ ap (λ (p : Plain). map (looked_goal n.clafers) p.goals) same ∙ sym b.resolved.goals in
    let all_rules : m.rules ≡ n.rules = known_by rule_tree of_rule rule_back m.rules n.rules rules in
    let all_goals : m.goals ≡ n.goals = known_by goal_tree of_goal goal_back m.goals n.goals goals in
    λ i. record { clafers = clafers i; rules = all_rules i; goals = all_goals i }

plain_or_refused : Laws → (text : List ℕ) (p : Plain) (items : List Item) (r : Refusal) → IsPlainText text p → SpellsItems text items → first_refusal (refusals (module_of items)) ≡ Some r → ⊥
plain_or_refused laws text p items r a s e =
    both_ways (λ xs. first_refusal (refusals (module_of xs))) a.items items r (module_once laws text a.items items a.spelled s) a.accepted e

named_or_refused : Laws → (text : List ℕ) (m : Model) (p : Plain) (r : Refusal) → IsNamedText text m → IsPlainText text p → refusal_of p ≡ Some r → ⊥
named_or_refused laws text m p r a b e = both_ways refusal_of a.plain p r (plain_once laws text a.plain p a.of_text b) a.accepted e

typed_or_refused : Laws → (text : List ℕ) (m : Model) (r : Refusal) → IsTypedText text m → HasNoModel text r → ⊥
typed_or_refused laws text m r a (HasNoModel.no_module h) = spelled_or_refused laws text a.named.of_text.items r a.named.of_text.spelled h
typed_or_refused laws text m r a (HasNoModel.no_plain {items = items} s e) = plain_or_refused laws text a.named.plain items r a.named.of_text s e
typed_or_refused laws text m r a (HasNoModel.no_names {plain = p} b e) = named_or_refused laws text m p r a.named b e
typed_or_refused laws text m r a (HasNoModel.no_kinds {model = n} b e) = both_ways model_refusal m n r (named_once laws text m n a.named b) a.accepted e

no_model_once : Laws → (text : List ℕ) (some other : Refusal) → HasNoModel text some → HasNoModel text other → some ≡ other
no_model_once laws text some other (HasNoModel.no_module a) (HasNoModel.no_module b) = no_module_once laws text some other a b
no_model_once laws text some other (HasNoModel.no_module a) (HasNoModel.no_plain {items = items} s e) = absurd (spelled_or_refused laws text items some s a)
no_model_once laws text some other (HasNoModel.no_module a) (HasNoModel.no_names {plain = p} b e) = absurd (spelled_or_refused laws text b.items some b.spelled a)
no_model_once laws text some other (HasNoModel.no_module a) (HasNoModel.no_kinds {model = n} b e) = absurd (spelled_or_refused laws text b.of_text.items some b.of_text.spelled a)
no_model_once laws text some other (HasNoModel.no_plain {items = items} s e) (HasNoModel.no_module b) = absurd (spelled_or_refused laws text items other s b)
no_model_once laws text some other (HasNoModel.no_plain {items = xs} s e) (HasNoModel.no_plain {items = ys} t f) =
    same_some (λ zs. first_refusal (refusals (module_of zs))) xs ys some other (module_once laws text xs ys s t) e f
no_model_once laws text some other (HasNoModel.no_plain {items = items} s e) (HasNoModel.no_names {plain = p} b f) = absurd (plain_or_refused laws text p items some b s e)
no_model_once laws text some other (HasNoModel.no_plain {items = items} s e) (HasNoModel.no_kinds {model = n} b f) = absurd (plain_or_refused laws text b.plain items some b.of_text s e)
no_model_once laws text some other (HasNoModel.no_names {plain = p} a e) (HasNoModel.no_module b) = absurd (spelled_or_refused laws text a.items other a.spelled b)
no_model_once laws text some other (HasNoModel.no_names {plain = p} a e) (HasNoModel.no_plain {items = items} s f) = absurd (plain_or_refused laws text p items other a s f)
no_model_once laws text some other (HasNoModel.no_names {plain = p} a e) (HasNoModel.no_names {plain = q} b f) = same_some refusal_of p q some other (plain_once laws text p q a b) e f
no_model_once laws text some other (HasNoModel.no_names {plain = p} a e) (HasNoModel.no_kinds {model = n} b f) = absurd (named_or_refused laws text n p some b a e)
no_model_once laws text some other (HasNoModel.no_kinds {model = m} a e) (HasNoModel.no_module b) = absurd (spelled_or_refused laws text a.of_text.items other a.of_text.spelled b)
no_model_once laws text some other (HasNoModel.no_kinds {model = m} a e) (HasNoModel.no_plain {items = items} s f) = absurd (plain_or_refused laws text a.plain items other a.of_text s f)
no_model_once laws text some other (HasNoModel.no_kinds {model = m} a e) (HasNoModel.no_names {plain = p} b f) = absurd (named_or_refused laws text m p other a b f)
no_model_once laws text some other (HasNoModel.no_kinds {model = m} a e) (HasNoModel.no_kinds {model = n} b f) = same_some model_refusal m n some other (named_once laws text m n a b) e f

-- ---- scopes and weight

scopes_once : Laws → (text : List ℕ) (given : Given) (m n : Model) (s t : Scopes) → HasScopes text given m s → HasScopes text given n t → (m ≡ n) × (s ≡ t)
scopes_once laws text given m n s t a b =
    let same : m ≡ n = named_once laws text m n a.typed.named b.typed.named in
    let of : s.of ≡ t.of = a.scopes_are.of ∙ ap (λ (k : Model). all_scopes k.clafers given) same ∙ sym b.scopes_are.of in
    let low : s.low ≡ t.low = a.scopes_are.low ∙ sym b.scopes_are.low in
    let high : s.high ≡ t.high = a.scopes_are.high ∙ sym b.scopes_are.high in
    (same, λ i. record { of = of i; low = low i; high = high i })

abbrev first_of : Given → Model → Option Refusal
first_of given m = slice_get (scope_refusals m.clafers given) 0

scoped_or_refused : Laws → (text : List ℕ) (given : Given) (m n : Model) (s : Scopes) (r : Refusal) → HasScopes text given m s → IsTypedText text n → IsFirst (scope_refusals n.clafers given) (Some r) → ⊥
scoped_or_refused laws text given m n s r a b e =
    both_ways (first_of given) m n r (named_once laws text m n a.typed.named b.named) (ap (λ rs. slice_get rs 0) a.accepted) e

abbrev refusal_by : Model × Scopes → Option Refusal
refusal_by (m, s) = weight_refusal s m

pub refusal_once : Laws → (text : List ℕ) (given : Given) (some other : Refusal) → IsRefused text given some → IsRefused text given other → some ≡ other
refusal_once laws text given some other (IsRefused.no_model a) (IsRefused.no_model b) = no_model_once laws text some other a b
refusal_once laws text given some other (IsRefused.no_model a) (IsRefused.no_scopes {model = n} b f) = absurd (typed_or_refused laws text n some b a)
refusal_once laws text given some other (IsRefused.no_model a) (IsRefused.too_heavy {model = n} b f) = absurd (typed_or_refused laws text n some b.typed a)
refusal_once laws text given some other (IsRefused.no_scopes {model = m} a e) (IsRefused.no_model b) = absurd (typed_or_refused laws text m other a b)
refusal_once laws text given some other (IsRefused.no_scopes {model = m} a e) (IsRefused.no_scopes {model = n} b f) = same_some (first_of given) m n some other (named_once laws text m n a.named b.named) e f
refusal_once laws text given some other (IsRefused.no_scopes {model = m} a e) (IsRefused.too_heavy {model = n} {scopes = t} b f) = absurd (scoped_or_refused laws text given n m t some b a e)
refusal_once laws text given some other (IsRefused.too_heavy {model = m} a e) (IsRefused.no_model b) = absurd (typed_or_refused laws text m other a.typed b)
refusal_once laws text given some other (IsRefused.too_heavy {model = m} {scopes = s} a e) (IsRefused.no_scopes {model = n} b f) = absurd (scoped_or_refused laws text given m n s other a b f)
refusal_once laws text given some other (IsRefused.too_heavy {model = m} {scopes = s} a e) (IsRefused.too_heavy {model = n} {scopes = t} b f) =
    let same = scopes_once laws text given m n s t a b in
    same_some refusal_by (m, s) (n, t) some other (λ i. (same.0 i, same.1 i)) e f

pub read_or_refused : Laws → (text : List ℕ) (given : Given) (read : Read) (r : Refusal) → IsReadOf text given read → IsRefused text given r → ⊥
read_or_refused laws text given read r a (IsRefused.no_model b) = typed_or_refused laws text read.model r a.has_scopes.typed b
read_or_refused laws text given read r a (IsRefused.no_scopes {model = n} b f) = scoped_or_refused laws text given read.model n read.scopes r a.has_scopes b f
read_or_refused laws text given read r a (IsRefused.too_heavy {model = n} {scopes = t} b f) =
    let same = scopes_once laws text given read.model n read.scopes t a.has_scopes b in
    both_ways refusal_by (read.model, read.scopes) (n, t) r (λ i. (same.0 i, same.1 i)) a.accepted f

pub read_once : Laws → (text : List ℕ) (given : Given) (some other : Read) → IsReadOf text given some → IsReadOf text given other → (some.model ≡ other.model) × (some.scopes ≡ other.scopes) × (some.weight ≡ other.weight)
read_once laws text given some other a b =
    let same = scopes_once laws text given some.model other.model some.scopes other.scopes a.has_scopes b.has_scopes in
    let weight : some.weight ≡ other.weight = a.weighs ∙ ap (λ s. model_weight s some.model) same.1 ∙ ap (λ m. model_weight other.scopes m) same.0 ∙ sym b.weighs in
    (same.0, same.1, weight)
