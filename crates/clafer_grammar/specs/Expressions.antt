-- Which tokens spell an expression, and which begin one.
use Rattle.std.specs.Prelude.{◌≡◌, ℕ, ◌≤◌, Bool, true, false, List, [], ◌∷◌, ◌++◌, Option, Some}
use Rattle.clf_base.specs.declared.fault.Span.{Span}
use Rattle.clf_tree.specs.declared.token.Sign.TheVariants as s
use Rattle.clf_tree.specs.declared.token.Title.{Title}
use Rattle.clf_tree.specs.declared.token.Word.{Word}
use Rattle.clf_tree.specs.declared.token.Word.TheVariants as w
use Rattle.clf_tree.specs.declared.token.TokenKind.{TokenKind}
use Rattle.clf_tree.specs.declared.token.TokenKind.TheVariants as t
use Rattle.clf_tree.specs.declared.expr.Expr.{Expr}
use Rattle.clafer_grammar.specs.declared.operators.Infix.{Infix}
use Rattle.clafer_grammar.specs.declared.operators.Prefix.{Prefix}
use Rattle.clafer_grammar.specs.Symbols.{Symbol, tok}
use Rattle.clafer_grammar.specs.Trees.{title, name_tree, atom_tree, field_tree, prefix_tree, infix_tree, if_tree, quant_tree}
use Rattle.clafer_grammar.specs.Operators.{infix_kind, infix_rest, infix_level, left_of, right_of, prefix_kind, prefix_level, operand_level}

-- ---- quantifiers

-- a word that brings in variables
abbrev pub is_quant : Word → Bool
is_quant w.All = true
is_quant w.Some = true
is_quant w.No = true
is_quant w.One = true
is_quant w.Lone = true
is_quant _ = false

-- `disj`, where it stands
abbrev pub disj_part : Bool → Span → List Symbol
disj_part true at = tok (t.Word w.Disj) at ∷ []
disj_part false at = []

-- The tokens spell variables, with `;` between two.
pub data SpellsNames : List Symbol → List Title → Type 0 where
  one : {at : Span} {n : List ℕ} → SpellsNames (tok (t.Name n) at ∷ []) (title n at ∷ [])
  more : (z at : Span) (n : List ℕ) {ts : List Symbol} {names : List Title} →
      SpellsNames ts names → SpellsNames (ts ++ tok (t.Sign s.Semicolon) z ∷ tok (t.Name n) at ∷ []) (names ++ title n at ∷ [])

-- ---- expressions

-- The tokens spell an expression of at least this level. Parentheses leave no trace in it.
pub data Spells : ℕ → List Symbol → Expr → Type 0 where
  looser : {j k : ℕ} {ts : List Symbol} {x : Expr} → k ≤ j → Spells j ts x → Spells k ts x
  name : {at : Span} {n : List ℕ} → Spells 14 (tok (t.Name n) at ∷ []) (name_tree (title n at))
  atom : {at : Span} {kind : TokenKind} {x : Expr} → atom_tree kind at ≡ Some x → Spells 14 (tok kind at ∷ []) x
  paren : {a : Span} (z : Span) {ts : List Symbol} {x : Expr} →
      Spells 0 ts x → Spells 14 (tok (t.Sign s.ParenOpen) a ∷ (ts ++ tok (t.Sign s.ParenClose) z ∷ [])) x
  join : (a at : Span) (kind : TokenKind) {ts : List Symbol} {x y : Expr} →
      Spells 13 ts x → field_tree x kind at ≡ Some y → Spells 13 (ts ++ tok (t.Sign s.Dot) a ∷ tok kind at ∷ []) y
  unary : (op : Prefix) {at : Span} {us : List Symbol} {x : Expr} →
      Spells (operand_level op) us x → Spells (prefix_level op) (tok (prefix_kind op) at ∷ us) (prefix_tree op at x)
  binary : (op : Infix) (at a : Span) {ts us : List Symbol} {x y : Expr} →
      Spells (left_of (infix_level op)) ts x → Spells (right_of (infix_level op)) us y →
      Spells (infix_level op) (ts ++ tok (infix_kind op) at ∷ (infix_rest op a ++ us)) (infix_tree op at x y)
  choice : (a z : Span) {at : Span} {ts us vs : List Symbol} {x y v : Expr} →
      Spells 0 ts x → Spells 0 us y → Spells 0 vs v →
      Spells 0 (tok (t.Word w.If) at ∷ (ts ++ tok (t.Word w.Then) a ∷ (us ++ tok (t.Word w.Else) z ∷ vs))) (if_tree at x y v)
  quant : (disj : Bool) (d c z : Span) {at : Span} {word : Word} {ns ts us : List Symbol} {names : List Title} {x y : Expr} →
      is_quant word ≡ true → SpellsNames ns names → Spells 11 ts x → Spells 0 us y →
      Spells 0 (tok (t.Word word) at ∷ (disj_part disj d ++ (ns ++ tok (t.Sign s.Colon) c ∷ (ts ++ tok (t.Sign s.Bar) z ∷ us)))) (quant_tree at word disj names x y)

-- The tokens begin an expression of at least this level: they are the parts before some part, and begin that part.
pub data Begins : ℕ → List Symbol → Type 0 where
  nothing : {k : ℕ} → Begins k []
  whole : {k : ℕ} {ts : List Symbol} {x : Expr} → Spells k ts x → Begins k ts
  looser : {j k : ℕ} {ts : List Symbol} → k ≤ j → Begins j ts → Begins k ts
  paren : {a : Span} {ts : List Symbol} → Begins 0 ts → Begins 14 (tok (t.Sign s.ParenOpen) a ∷ ts)
  dot : (a : Span) {ts : List Symbol} {x : Expr} → Spells 13 ts x → Begins 13 (ts ++ tok (t.Sign s.Dot) a ∷ [])
  unary : (op : Prefix) {at : Span} {us : List Symbol} →
      Begins (operand_level op) us → Begins (prefix_level op) (tok (prefix_kind op) at ∷ us)
  operator : (op : Infix) (at : Span) {ts : List Symbol} {x : Expr} →
      Spells (left_of (infix_level op)) ts x → Begins (infix_level op) (ts ++ tok (infix_kind op) at ∷ [])
  binary : (op : Infix) (at a : Span) {ts us : List Symbol} {x : Expr} →
      Spells (left_of (infix_level op)) ts x → Begins (right_of (infix_level op)) us →
      Begins (infix_level op) (ts ++ tok (infix_kind op) at ∷ (infix_rest op a ++ us))
  condition : {at : Span} {ts : List Symbol} → Begins 0 ts → Begins 0 (tok (t.Word w.If) at ∷ ts)
  consequence : (a : Span) {at : Span} {ts us : List Symbol} {x : Expr} →
      Spells 0 ts x → Begins 0 us → Begins 0 (tok (t.Word w.If) at ∷ (ts ++ tok (t.Word w.Then) a ∷ us))
  alternative : (a z : Span) {at : Span} {ts us vs : List Symbol} {x y : Expr} →
      Spells 0 ts x → Spells 0 us y → Begins 0 vs →
      Begins 0 (tok (t.Word w.If) at ∷ (ts ++ tok (t.Word w.Then) a ∷ (us ++ tok (t.Word w.Else) z ∷ vs)))
  quant : (disj : Bool) (d : Span) {at : Span} {word : Word} →
      is_quant word ≡ true → Begins 0 (tok (t.Word word) at ∷ disj_part disj d)
  names : (disj : Bool) (d : Span) {at : Span} {word : Word} {ns : List Symbol} {names : List Title} →
      is_quant word ≡ true → SpellsNames ns names → Begins 0 (tok (t.Word word) at ∷ (disj_part disj d ++ ns))
  further : (disj : Bool) (d c : Span) {at : Span} {word : Word} {ns : List Symbol} {names : List Title} →
      is_quant word ≡ true → SpellsNames ns names →
      Begins 0 (tok (t.Word word) at ∷ (disj_part disj d ++ (ns ++ tok (t.Sign s.Semicolon) c ∷ [])))
  range : (disj : Bool) (d c : Span) {at : Span} {word : Word} {ns ts : List Symbol} {names : List Title} →
      is_quant word ≡ true → SpellsNames ns names → Begins 11 ts →
      Begins 0 (tok (t.Word word) at ∷ (disj_part disj d ++ (ns ++ tok (t.Sign s.Colon) c ∷ ts)))
  body : (disj : Bool) (d c z : Span) {at : Span} {word : Word} {ns ts us : List Symbol} {names : List Title} {x : Expr} →
      is_quant word ≡ true → SpellsNames ns names → Spells 11 ts x → Begins 0 us →
      Begins 0 (tok (t.Word word) at ∷ (disj_part disj d ++ (ns ++ tok (t.Sign s.Colon) c ∷ (ts ++ tok (t.Sign s.Bar) z ∷ us))))
