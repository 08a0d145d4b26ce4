-- A run of the reader over a whole list.
use Rattle.std.proofs.Common.{◌≡◌, ℕ, suc, ◌+◌, ◌≤◌, ◌<◌, Bool, true, false, refl, sym, ◌∙◌, ap, subst, arith, Option, Some, None, List, [], ◌∷◌, ◌++◌, length, map, get_or, take, drop, drop-cons}
use Rattle.std.proofs.lemmas.List.{take_more, take_all, take-append-drop, map-append}
use Rattle.std.proofs.lemmas.List.Sums.{fold-append}
use Rattle.clf_base.specs.declared.fault.Fault.{Fault}
use Rattle.clf_base.specs.declared.fault.Fault.TheVariants as fault
use Rattle.clf_base.specs.declared.fault.Refusal.{Refusal}
use Rattle.clf_base.specs.declared.fault.Span.{Span}
use Rattle.clf_tree.specs.declared.token.Token.{Token}
use Rattle.clf_tree.specs.declared.token.TokenKind.{TokenKind}
use Rattle.clf_tree.specs.declared.token.TokenKind.TheVariants as t
use Rattle.clf_tree.specs.declared.module.Item.{Item}
use Rattle.clafer_grammar.specs.declared.machine.Frame.{Frame}
use Rattle.clafer_grammar.specs.declared.machine.Mode.TheVariants as m
use Rattle.clafer_grammar.specs.Machine.{State, Step, step, then_run, run, start}
use Rattle.clafer_grammar.specs.Modules.{SpellsModule, BeginsModule}
use Rattle.clafer_grammar.specs.Symbols.{Symbol, tok, symbol, symbols}
use Rattle.clafer_parser.specs.declared.reading.Reader.{Reader}
use Rattle.clafer_parser.specs.Limits.{depth_after, depth_of, since_after, since_of, over, over_behind, is_left_out, refusal, IsKept, AreFine, Passes, IsFirstRefusal, WhenRefused, IsEnded}
use Rattle.clafer_parser.specs.Progress.{reader, stuck_at, Moves, Advances, Stops, IsDone}
use Rattle.clafer_parser.specs.declared.reading.Progress.{Progress}
use Rattle.clafer_parser.specs.declared.reading.Progress.TheVariants as p
use Rattle.clafer_parser.proofs.Ends.{end_done}

-- ---- what the grammar's laws say

pub record Laws : Type 0 where
  pub begun : (tokens : List Symbol) (state : State) → ◌≡◌ {A = Step} (run start tokens) (Some state) → BeginsModule tokens
  pub reached : (tokens : List Symbol) → BeginsModule tokens → (state : State) × ◌≡◌ {A = Step} (run start tokens) (Some state)
  pub spelled : (tokens : List Symbol) (frames : List Frame) (items : List Item) → ◌≡◌ {A = Step} (run start tokens) (Some (frames, m.Done items)) → SpellsModule tokens items

-- ---- runs

none_some : {v : State} → ◌≡◌ {A = Step} None (Some v) → ⊥
none_some h = cc

injective : {v w : State} → ◌≡◌ {A = Step} (Some v) (Some w) → v ≡ w
injective h = cc

run_nothing : (o : Step) → then_run o (λ v. run v []) ≡ o
unfolding run
run_nothing None = refl
run_nothing (Some v) = refl

run_push : (before : List Symbol) (token : Symbol) (v w : State) → ◌≡◌ {A = Step} (run v before) (Some w) → run v (before ++ token ∷ []) ≡ step w token
unfolding run
run_push [] token v w h = run_nothing (step v token) ∙ ap (λ u. step u token) (injective h)
run_push (first ∷ before) token v w h = go (step v first) h (λ u g. run_push before token u w g)
  where
    go : (o : Step) → ◌≡◌ {A = Step} (then_run o (λ u. run u before)) (Some w) →
        ((u : State) → ◌≡◌ {A = Step} (run u before) (Some w) → run u (before ++ token ∷ []) ≡ step w token) →
        then_run o (λ u. run u (before ++ token ∷ [])) ≡ step w token
    go None g each = absurd (none_some g)
    go (Some u) g each = each u g

run_dead : (xs ys : List Symbol) (v : State) → run v xs ≡ None → run v (xs ++ ys) ≡ None
unfolding run
run_dead [] ys v h = cc
run_dead (x ∷ xs) ys v h = go (step v x) h (λ w g. run_dead xs ys w g)
  where
    go : (o : Step) → then_run o (λ w. run w xs) ≡ None → ((w : State) → run w xs ≡ None → run w (xs ++ ys) ≡ None) →
        then_run o (λ w. run w (xs ++ ys)) ≡ None
    go None g each = refl
    go (Some w) g each = each w g

-- ---- what holds behind some tokens

-- the state behind the tokens, where modules may go on
abbrev pub Runs : List Symbol → Progress → Type 0
Runs before (p.Going state) = ◌≡◌ {A = Step} (run start before) (Some state)
Runs before (p.Stuck at) = Unit {0}

pub record Holds (before : List Symbol) (r : Reader) : Type 0 where
  pub passes : Passes before (stuck_at r.progress)
  pub runs : Runs before r.progress
  pub depth : r.depth ≡ depth_of before
  pub since : r.since ≡ since_of before
  pub depth_low : r.depth ≤ 64
  pub since_low : r.since ≤ 1000

depth_push : (before : List Symbol) (token : Symbol) → depth_of (before ++ token ∷ []) ≡ depth_after (depth_of before) token
depth_push before token = fold-append depth_after 0 before (token ∷ [])

since_push : (before : List Symbol) (token : Symbol) → since_of (before ++ token ∷ []) ≡ since_after (since_of before) token
since_push before token = fold-append since_after 0 before (token ∷ [])

limit_same : (before : List Symbol) (r : Reader) (token : Symbol) → Holds before r →
    over_behind before token.kind ≡ over r.depth r.since token.kind
limit_same before r token h =
    ap (λ d. over d (since_of before) token.kind) (sym h.depth) ∙ ap (λ n. over r.depth n token.kind) (sym h.since)

pub fine_of : (before : List Symbol) → Passes before None → AreFine before
fine_of _ (Passes.fine h) = h

dies : Laws → (before : List Symbol) (token : Symbol) (state : State) → ◌≡◌ {A = Step} (run start before) (Some state) → ◌≡◌ {A = Step} (step state token) None →
    BeginsModule (before ++ token ∷ []) → ⊥
dies laws before token state r e b = go (laws.reached (before ++ token ∷ []) b)
  where
    go : ((next : State) × ◌≡◌ {A = Step} (run start (before ++ token ∷ [])) (Some next)) → ⊥
    go (next, g) = none_some (sym (run_push before token start state r ∙ e) ∙ g)

record Moved (before : List Symbol) (token : Symbol) (next : Progress) : Type 0 where
  passes : Passes (before ++ token ∷ []) (stuck_at next)
  runs : Runs (before ++ token ∷ []) next

moved : Laws → (before : List Symbol) (token : Symbol) (progress next : Progress) → Passes before (stuck_at progress) → Runs before progress → IsKept before token →
    Moves progress token next → Moved before token next
moved laws before token _ _ h r k (Moves.goes {state} {next} e) =
    let runs : ◌≡◌ {A = Step} (run start (before ++ token ∷ [])) (Some next) = run_push before token start state r ∙ e in
    record { passes = Passes.fine (AreFine.more token (fine_of before h) k (laws.begun (before ++ token ∷ []) next runs)); runs = runs }
moved laws before token _ _ h r k (Moves.stops {state} e) =
    record { passes = Passes.stuck token (fine_of before h) k (dies laws before token state r e); runs = tt }
moved laws before token _ _ h r k Moves.stays = record { passes = Passes.same token h k; runs = tt }

pub holds_more : Laws → (before : List Symbol) (r next : Reader) (token : Symbol) → Holds before r → Advances r token next →
    Holds (before ++ token ∷ []) next
holds_more laws before r next token h a =
    let kept : IsKept before token = record { within = limit_same before r token h ∙ a.within; used = a.used } in
    let its : Moved before token next.progress = moved laws before token r.progress next.progress h.passes h.runs kept a.moves in
    record {
      passes = its.passes;
      runs = its.runs;
      depth = a.depth ∙ ap (λ d. depth_after d token) h.depth ∙ sym (depth_push before token);
      since = a.since ∙ ap (λ n. since_after n token) h.since ∙ sym (since_push before token);
      depth_low = a.depth_low;
      since_low = a.since_low;
    }

stopped : (before after : List Symbol) (r : Reader) (token : Symbol) (why : Refusal) → Holds before r → Stops r token why →
    IsFirstRefusal (before ++ token ∷ after) why
stopped before after r token _ h (Stops.too_deep may limit) = IsFirstRefusal.too_deep token after h.passes may (limit_same before r token h ∙ limit)
stopped before after r token _ h (Stops.too_long may limit) = IsFirstRefusal.too_long token after h.passes may (limit_same before r token h ∙ limit)
stopped before after r token _ h (Stops.left_out may limit used) = IsFirstRefusal.left_out token after h.passes may (limit_same before r token h ∙ limit) used
stopped before after r token _ h (Stops.unexpected at elsewhere) =
    IsFirstRefusal.unexpected (token ∷ after) (subst (λ place. Passes before place) at h.passes) elsewhere

refused : (tokens before after : List Symbol) (r : Reader) (token : Symbol) (why : Fault) → Holds before r →
    WhenRefused why (Stops r token) → before ++ token ∷ after ≡ tokens → WhenRefused why (IsFirstRefusal tokens)
refused tokens before after r token (fault.Refused why) h s cut = subst (λ l. IsFirstRefusal l why) cut (stopped before after r token why h s)
refused tokens before after r token fault.NoMemory h s cut = tt

append_nothing : (xs : List Symbol) → xs ++ [] ≡ xs
append_nothing [] = refl
append_nothing (x ∷ xs) = ap (λ l. x ∷ l) (append_nothing xs)

-- ---- the loop

pub begins : (state : State) → state ≡ start → Holds [] (reader (p.Going state) 0 0)
unfolding run
begins state e = record {
  passes = Passes.fine AreFine.none;
  runs = ap (λ v. Some v) (sym e);
  depth = refl;
  since = refl;
  depth_low = omega arith;
  since_low = omega arith;
}

more_symbols : (tokens : List Token) (j : ℕ) (d : Token) → j < length tokens →
    symbols (take (j + 1) tokens) ≡ symbols (take j tokens) ++ symbol (get_or tokens j d) ∷ []
more_symbols tokens j d lt = ap symbols (take_more tokens j d lt) ∙ map-append symbol (take j tokens) (get_or tokens j d ∷ [])

pub step_holds : Laws → (tokens : List Token) (j : ℕ) (item : Token) (r next : Reader) → item ≡ get_or tokens j item → j < length tokens →
    Holds (symbols (take j tokens)) r → Advances r (symbol item) next → Holds (symbols (take (j + 1) tokens)) next
step_holds laws tokens j item r next e lt h a =
    subst (λ l. Holds l next) (sym (more_symbols tokens j item lt))
    (holds_more laws (symbols (take j tokens)) r next (symbol (get_or tokens j item)) h (subst (λ i. Advances r (symbol i) next) e a))

pub refused_at : (tokens : List Token) (j : ℕ) (item : Token) (r : Reader) (why : Fault) → item ≡ get_or tokens j item → j < length tokens →
    Holds (symbols (take j tokens)) r → WhenRefused why (Stops r (symbol item)) → WhenRefused why (IsFirstRefusal (symbols tokens))
refused_at tokens j item r why e lt h s =
    refused (symbols tokens) (symbols (take j tokens)) (symbols (drop (suc j) tokens)) r (symbol (get_or tokens j item)) why h
    (subst (λ i. WhenRefused why (Stops r (symbol i))) e s)
    (sym (ap symbols (sym (take-append-drop j tokens) ∙ ap (λ l. take j tokens ++ l) (drop-cons tokens j item lt)) ∙
    map-append symbol (take j tokens) (get_or tokens j item ∷ drop (suc j) tokens)))

pub all_holds : (tokens : List Token) (j : ℕ) (r : Reader) → length tokens ≤ j → Holds (symbols (take j tokens)) r → Holds (symbols tokens) r
all_holds tokens j r le h = subst (λ l. Holds (symbols l) r) (take_all j tokens le) h

-- ---- the end

none_done : {v : State} → ◌≡◌ {A = Step} None (Some v) → IsDone v.1
none_done h = cc

at_end : (front : List Symbol) (last : Symbol) (state : State) → last.kind ≡ t.End → ◌≡◌ {A = Step} (run start (front ++ last ∷ [])) (Some state) → IsDone state.1
at_end front last state e h = go (run start front) refl
  where
    go : (o : Step) → run start front ≡ o → IsDone state.1
    go None g = none_done (sym (run_dead front (last ∷ []) start g) ∙ h)
    go (Some v) g = end_done v.0 v.1 last.at state (subst (λ k. ◌≡◌ {A = Step} (step v (tok k last.at)) (Some state)) e (sym (run_push front last start v g) ∙ h))

-- the reader has all tokens
going_runs : (tokens : List Symbol) (r : Reader) (state : State) → Holds tokens r → r.progress ≡ p.Going state → ◌≡◌ {A = Step} (run start tokens) (Some state)
going_runs tokens r state h e = subst (λ q. Runs tokens q) e h.runs

going_fine : (tokens : List Symbol) (r : Reader) (state : State) → Holds tokens r → r.progress ≡ p.Going state → AreFine tokens
going_fine tokens r state h e = fine_of tokens (subst (λ q. Passes tokens (stuck_at q)) e h.passes)

pub finished : (tokens : List Token) (r : Reader) → IsEnded tokens → Holds (symbols tokens) r → (state : State) → r.progress ≡ p.Going state → IsDone state.1
finished tokens r (front, (last, cut, e)) h state g =
    at_end (symbols front) (symbol last) state e
    (ap (λ l. run start l) (sym (ap symbols cut ∙ map-append symbol front (last ∷ []))) ∙ going_runs (symbols tokens) r state h g)

pub module_spelled : Laws → (tokens : List Symbol) (r : Reader) (frames : List Frame) (items : List Item) → Holds tokens r → r.progress ≡ p.Going (frames, m.Done items) →
    AreFine tokens × SpellsModule tokens items
module_spelled laws tokens r frames items h e =
    (going_fine tokens r (frames, m.Done items) h e, laws.spelled tokens frames items (going_runs tokens r (frames, m.Done items) h e))

pub module_refused : (tokens : List Symbol) (r : Reader) (at : Span) (why : Fault) → Holds tokens r → r.progress ≡ p.Stuck at → why ≡ fault.Refused (refusal 40 at 0) →
    WhenRefused why (IsFirstRefusal tokens)
module_refused tokens r at why h e g =
    subst (λ w. WhenRefused w (IsFirstRefusal tokens)) (sym g)
    (subst (λ l. IsFirstRefusal l (refusal 40 at 0)) (append_nothing tokens)
    (IsFirstRefusal.unexpected [] (subst (λ q. Passes tokens (stuck_at q)) e h.passes) tt))
