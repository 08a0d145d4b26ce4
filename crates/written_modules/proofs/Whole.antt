-- Of whole modules.
use Rattle.std.proofs.Common.{◌≡◌, ℕ, ◌≤◌, true, false, List, [], ◌∷◌, ◌++◌, length, map, None, Ok, subst, arith}
use Rattle.refusal_order.specs.Order.{first_refusal}
use Rattle.clf_tree.specs.declared.token.Token.{Token}
use Rattle.clf_tree.specs.declared.token.TokenKind.TheVariants as t
use Rattle.clf_tree.specs.declared.module.Item.{Item}
use Rattle.clf_tree.specs.declared.module.Module.{Module}
use Rattle.clafer_lexer.specs.Cuts.{IsLexed}
use Rattle.clafer_lexer.specs.Layout.{laid}
use Rattle.clafer_grammar.specs.Symbols.{Symbol, tok, symbols}
use Rattle.clafer_grammar.specs.Modules.{SpellsModule}
use Rattle.clafer_desugar.specs.PlainModel.{add_item, one_by_one, nothing, plain_of, count_items}
use Rattle.clafer_desugar.specs.Refusals.{clafers_refusals, rules_refusals, goals_refusals, refusals}
use Rattle.plain_models.specs.Known.{IsPlain}
use Rattle.plain_models.specs.Written.{IsWritten}
use Rattle.written_modules.specs.Names.{have_names}
use Rattle.written_modules.proofs.Tokens.{behind, names_in, names_in-two}
use Rattle.written_modules.proofs.Expressions.{NamesDiffer, both_none}
use Rattle.written_modules.proofs.Items.{Held, items_keep, held_from}
use Rattle.written_modules.proofs.Few.{Few, few_from, items_few}
use Rattle.written_modules.proofs.Texts.{StandInOrder, text_few}

held_module : NamesDiffer → {tokens : List Symbol} {items : List Item} → SpellsModule tokens items → have_names tokens ≡ true → Held (one_by_one (map add_item items) None false nothing)
held_module law (SpellsModule.module_of at {ts = ts} {xs = xs} v) h =
    held_from (one_by_one (map add_item xs)) (items_keep law v (behind ts (tok t.End at) [] h).0)

abbrev pub PlainIsKnown : Type 0
PlainIsKnown = (text : Module) → first_refusal (refusals text) ≡ None → IsPlain (plain_of text)

pub written : PlainIsKnown → NamesDiffer → (tokens : List Symbol) (read : Module) → SpellsModule tokens read.items → have_names tokens ≡ true → first_refusal (refusals read) ≡ None → IsWritten (plain_of read)
written known law tokens read spelled h none =
    let plain = known read none in
    let held : Held (plain_of read) = held_module law spelled h in
    let parts = both_none (clafers_refusals [] (plain_of read).clafers) (rules_refusals (plain_of read).rules ++ goals_refusals (plain_of read).goals) plain.unrefused in
    let rest = both_none (rules_refusals (plain_of read).rules) (goals_refusals (plain_of read).goals) parts.1 in
    record { known = plain; named = held.named; rules = held.rules rest.0; goals = held.goals rest.1 }

few_module : {tokens : List Symbol} {items : List Item} → SpellsModule tokens items → Few (names_in tokens) items
few_module (SpellsModule.module_of at {ts = ts} {xs = xs} v) =
    let all : names_in ts ≡ names_in (ts ++ tok t.End at ∷ []) = let two = names_in-two ts (tok t.End at ∷ []) in omega (arith, two) in
    subst (λ (n : ℕ). Few n xs) all (items_few v)

pub declared_few : StandInOrder → (text : List ℕ) (tokens out : List Token) (read : Module) → IsLexed text tokens → laid tokens ≡ Ok out → SpellsModule (symbols out) read.items → count_items read.items ≤ length text
declared_few law text tokens out read lexed is spelled =
    let few = (few_module spelled).declared in
    let names = text_few law text tokens out lexed is in
    omega (arith, few, names)

pub plain_few : StandInOrder → (text : List ℕ) (tokens out : List Token) (read : Module) → IsLexed text tokens → laid tokens ≡ Ok out → SpellsModule (symbols out) read.items → length (plain_of read).clafers ≤ length text
plain_few law text tokens out read lexed is spelled =
    let few = few_from (names_in (symbols out)) (one_by_one (map add_item read.items)) None false nothing (few_module spelled).added in
    let names = text_few law text tokens out lexed is in
    omega (arith, few, names)
