-- What begins an expression is never refused.
use Rattle.std.proofs.Common.{◌≡◌, ℕ, ◌≤◌, Bool, true, false, refl, sym, ◌∙◌, ap, arith, lit≤, Some, List, [], ◌∷◌, ◌++◌, append_assoc}
use Rattle.clf_base.specs.declared.fault.Span.{Span}
use Rattle.clf_tree.specs.declared.token.Sign.TheVariants as s
use Rattle.clf_tree.specs.declared.token.Title.{Title}
use Rattle.clf_tree.specs.declared.token.Word.{Word}
use Rattle.clf_tree.specs.declared.token.Word.TheVariants as w
use Rattle.clf_tree.specs.declared.token.TokenKind.TheVariants as t
use Rattle.clafer_grammar.specs.declared.operators.Prefix.{Prefix}
use Rattle.clafer_grammar.specs.declared.operators.Prefix.TheVariants as u
use Rattle.clafer_grammar.specs.declared.machine.Frame.{Frame}
use Rattle.clafer_grammar.specs.declared.machine.Frame.TheVariants as f
use Rattle.clafer_grammar.specs.declared.machine.Mode.TheVariants as m
use Rattle.clafer_grammar.specs.Symbols.{Symbol, tok}
use Rattle.clafer_grammar.specs.Operators.{infix_kind, infix_level, prefix_kind}
use Rattle.clafer_grammar.specs.Expressions.{is_quant, disj_part, Begins}
use Rattle.clafer_grammar.specs.Machine.{counting_word, least, State, Step, after_infix, run}
use Rattle.clafer_grammar.proofs.Levels.{left_above}
use Rattle.clafer_grammar.proofs.Complete.{run_on, run_step, run_none, needs_sign, takes_infix, takes_dot, takes_prefix, takes_if, takes_paren, takes_disj, closes_condition, closes_consequence, closes_range, then_token, then_infix, first_token, all_runs, names_run, variables_run, free_then, free_else, free_bar, dot_needs, complete}

abbrev pub IsRunning : Step → Type 0
IsRunning o = (s : State) × (o ≡ Some s)

pub running_by : {o p : Step} → o ≡ p → IsRunning p → IsRunning o
running_by e (s, h) = (s, e ∙ h)

counted_quant : (frames : List Frame) (place : Span) (op : Prefix) (word : Word) (disj : Bool) (d : Span) → least frames ≤ 0 → counting_word op ≡ Some word → prefix_kind op ≡ t.Word word →
    IsRunning (run (frames, m.Operand) (tok (t.Word word) place ∷ disj_part disj d))
counted_quant frames place op word false d h e k = (
  (f.Unary place op ∷ frames, m.Operand),
  ap (λ kind. run (frames, m.Operand) (tok kind place ∷ [])) (sym k) ∙
      first_token frames (prefix_kind op) place (f.Unary place op ∷ frames, m.Operand) [] (takes_prefix frames place op (omega arith)) ∙ run_none _,
)
counted_quant frames place op word true d h e k = (
  (frames, m.Names place word true []),
  ap (λ kind. run (frames, m.Operand) (tok kind place ∷ tok (t.Word w.Disj) d ∷ [])) (sym k) ∙
      first_token frames (prefix_kind op) place (f.Unary place op ∷ frames, m.Operand) _ (takes_prefix frames place op (omega arith)) ∙
      first_token (f.Unary place op ∷ frames) (t.Word w.Disj) d (frames, m.Names place word true []) [] (takes_disj frames place d op word h e) ∙ run_none _,
)

all_part : (frames : List Frame) (place : Span) (disj : Bool) (d : Span) → least frames ≤ 0 →
    IsRunning (run (frames, m.Operand) (tok (t.Word w.All) place ∷ disj_part disj d))
all_part frames place false d h = ((frames, m.Names place w.All false []), all_runs frames place false d [] h ∙ run_none _)
all_part frames place true d h = ((frames, m.Names place w.All true []), all_runs frames place true d [] h ∙ run_none _)

quant_runs : (frames : List Frame) (place : Span) (word : Word) (disj : Bool) (d : Span) → least frames ≤ 0 → is_quant word ≡ true →
    IsRunning (run (frames, m.Operand) (tok (t.Word word) place ∷ disj_part disj d))
quant_runs frames place w.All disj d h q = all_part frames place disj d h
quant_runs frames place w.Some disj d h q = counted_quant frames place u.Some w.Some disj d h refl refl
quant_runs frames place w.No disj d h q = counted_quant frames place u.No w.No disj d h refl refl
quant_runs frames place w.One disj d h q = counted_quant frames place u.One w.One disj d h refl refl
quant_runs frames place w.Lone disj d h q = counted_quant frames place u.Lone w.Lone disj d h refl refl
quant_runs frames place _ disj d h q = cc

pub survives : {k : ℕ} {ts : List Symbol} → Begins k ts → (frames : List Frame) → least frames ≤ k → IsRunning (run (frames, m.Operand) ts)
survives Begins.nothing frames h = (_, run_none _)
survives (Begins.whole v) frames h = let r = complete v frames h in (r.state, r.runs)
survives (Begins.looser le v) frames h = survives v frames (omega arith)
survives (Begins.paren {a = a} v) frames h =
    running_by (first_token frames (t.Sign s.ParenOpen) a (f.Paren ∷ frames, m.Operand) _ (takes_paren frames a)) (survives v (f.Paren ∷ frames) (lit≤ tt))
survives (Begins.dot a {ts = ts} {x = x} v) frames h =
    let r = complete v frames h in
    ((frames, m.Field x), then_token frames 13 ts x r (t.Sign s.Dot) a (frames, m.Field x) [] dot_needs (takes_dot frames x r.level a h r.at_least) ∙ run_none _)
survives (Begins.unary op {at = at} {us = us} v) frames h =
    running_by (first_token frames (prefix_kind op) at (f.Unary at op ∷ frames, m.Operand) us (takes_prefix frames at op h))
    (survives v (f.Unary at op ∷ frames) (omega arith))
survives (Begins.operator op at {ts = ts} {x = x} v) frames h =
    let low = left_above (infix_level op) in
    let r = complete v frames (omega arith) in (
      (f.Binary at op x ∷ frames, after_infix op),
      then_token frames _ ts x r (infix_kind op) at (f.Binary at op x ∷ frames, after_infix op) [] (omega (arith, needs_sign op)) (takes_infix frames x r.level at op h r.at_least) ∙ run_none _,
    )
survives (Begins.binary op at a {ts = ts} {us = us} {x = x} v w) frames h =
    let low = left_above (infix_level op) in
    running_by (then_infix frames ts x op at a us (complete v frames (omega arith)) h)
    (survives w (f.Binary at op x ∷ frames) (omega arith))
survives (Begins.condition {at = at} v) frames h =
    running_by (first_token frames (t.Word w.If) at (f.Condition at ∷ frames, m.Operand) _ (takes_if frames at h)) (survives v (f.Condition at ∷ frames) (lit≤ tt))
survives (Begins.consequence a {at = at} {ts = ts} {us = us} {x = x} p v) frames h =
    let r = complete p (f.Condition at ∷ frames) (lit≤ tt) in
    running_by (first_token frames (t.Word w.If) at (f.Condition at ∷ frames, m.Operand) _ (takes_if frames at h) ∙
    then_token (f.Condition at ∷ frames) 0 ts x r (t.Word w.Then) a (f.Consequence at x ∷ frames, m.Operand) us free_then (closes_condition frames x r.level at a))
    (survives v (f.Consequence at x ∷ frames) (lit≤ tt))
survives (Begins.alternative a z {at = at} {ts = ts} {us = us} {vs = vs} {x = x} {y = y} p q v) frames h =
    let r = complete p (f.Condition at ∷ frames) (lit≤ tt) in
    let r2 = complete q (f.Consequence at x ∷ frames) (lit≤ tt) in
    running_by (first_token frames (t.Word w.If) at (f.Condition at ∷ frames, m.Operand) _ (takes_if frames at h) ∙
    then_token (f.Condition at ∷ frames) 0 ts x r (t.Word w.Then) a (f.Consequence at x ∷ frames, m.Operand) _ free_then (closes_condition frames x r.level at a) ∙
    then_token (f.Consequence at x ∷ frames) 0 us y r2 (t.Word w.Else) z (f.Alternative at x y ∷ frames, m.Operand) vs free_else (closes_consequence frames x y r2.level at z))
    (survives v (f.Alternative at x y ∷ frames) (lit≤ tt))
survives (Begins.quant disj d {at = at} {word = word} q) frames h = quant_runs frames at word disj d h q
survives (Begins.names disj d {at = at} {word = word} q v) frames h =
    let r = names_run v frames at word disj d h q in (r.0, r.1)
survives (Begins.further disj d c {at = at} {word = word} {ns = ns} {names = vars} q v) frames h =
    let r = names_run v frames at word disj d h q in (
      (frames, m.Names at word disj vars),
      ap (λ l. run (frames, m.Operand) (tok (t.Word word) at ∷ l)) (sym (append_assoc (disj_part disj d) ns _)) ∙
          run_on (frames, m.Operand) r.0 (tok (t.Word word) at ∷ (disj_part disj d ++ ns)) _ r.1 ∙
          run_step r.0 (frames, m.Names at word disj vars) (tok (t.Sign s.Semicolon) c) [] (r.2.further c) ∙ run_none _,
    )
survives (Begins.range disj d c {at = at} {word = word} {ns = ns} {names = vars} q v p) frames h =
    running_by (variables_run frames at word disj d c ns vars _ h q v) (survives p (f.Range at word disj vars ∷ frames) (lit≤ tt))
survives (Begins.body disj d c z {at = at} {word = word} {ns = ns} {ts = ts} {us = us} {names = vars} {x = x} q v p o) frames h =
    let r = complete p (f.Range at word disj vars ∷ frames) (lit≤ tt) in
    running_by (variables_run frames at word disj d c ns vars _ h q v ∙
    then_token (f.Range at word disj vars ∷ frames) 11 ts x r (t.Sign s.Bar) z (f.Body at word disj vars x ∷ frames, m.Operand) us free_bar (closes_range frames x r.level at z word disj vars))
    (survives o (f.Body at word disj vars x ∷ frames) (lit≤ tt))
