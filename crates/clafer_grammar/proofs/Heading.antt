-- What spells the head of a clafer is read as that head.
use Rattle.std.proofs.Common.{◌≡◌, ℕ, Bool, true, false, refl, sym, ◌∙◌, ap, Option, Some, None, List, [], ◌∷◌, ◌++◌}
use Rattle.clf_base.specs.declared.fault.Span.{Span}
use Rattle.clf_tree.specs.declared.token.Sign.TheVariants as s
use Rattle.clf_tree.specs.declared.token.Title.{Title}
use Rattle.clf_tree.specs.declared.token.Word.TheVariants as w
use Rattle.clf_tree.specs.declared.token.TokenKind.{TokenKind}
use Rattle.clf_tree.specs.declared.token.TokenKind.TheVariants as t
use Rattle.clf_tree.specs.declared.module.Interval.{Interval}
use Rattle.clf_tree.specs.declared.module.Pointer.{Pointer}
use Rattle.clf_tree.specs.declared.module.Item.{Item}
use Rattle.clafer_grammar.specs.declared.heads.Front.TheVariants as front
use Rattle.clafer_grammar.specs.declared.heads.Lead.{Lead}
use Rattle.clafer_grammar.specs.declared.heads.Head.{Head}
use Rattle.clafer_grammar.specs.declared.heads.Stage.{Stage}
use Rattle.clafer_grammar.specs.declared.heads.Stage.TheVariants as stage
use Rattle.clafer_grammar.specs.declared.machine.Frame.{Frame}
use Rattle.clafer_grammar.specs.declared.machine.Frame.TheVariants as f
use Rattle.clafer_grammar.specs.declared.machine.Mode.TheVariants as m
use Rattle.clafer_grammar.specs.Symbols.{Symbol, tok}
use Rattle.clafer_grammar.specs.Trees.{title, clafer}
use Rattle.clafer_grammar.specs.Declarations.{interval, pointer, abstract_part, group_of, bound_of, SpellsGroup, SpellsAbove, bag_of, target_of, SpellsReference, times_of, SpellsTimes, place_of, head, SpellsLead, SpellsHead, BeginsGroup, BeginsAbove, BeginsReference, BeginsTimes, BeginsHead}
use Rattle.clafer_grammar.specs.Modules.{Ending, bare, ending_of, MayFollow}
use Rattle.clafer_grammar.specs.Machine.{State, Step, grouped, item, bounded, lead_at, tail, with_times, times, high_times, low_times, with_arrow, refers, targeted, head_at, step_at, step, then_run, run}
use Rattle.clafer_grammar.proofs.Complete.{run_on, run_step, run_none}
use Rattle.clafer_grammar.proofs.Begun.{IsRunning, running_by}

-- ---- tokens that begin an item or end a body

unfoldable pub EndsItem : TokenKind → Type 0
EndsItem (t.Name n) = Unit {0}
EndsItem (t.Number n) = Unit {0}
EndsItem (t.Word w.Abstract) = Unit {0}
EndsItem (t.Word w.Xor) = Unit {0}
EndsItem (t.Word w.Or) = Unit {0}
EndsItem (t.Word w.Mux) = Unit {0}
EndsItem (t.Word w.Opt) = Unit {0}
EndsItem (t.Word w.Enum) = Unit {0}
EndsItem (t.Sign s.BracketOpen) = Unit {0}
EndsItem (t.Sign s.GoalOpen) = Unit {0}
EndsItem t.Next = Unit {0}
EndsItem t.Close = Unit {0}
EndsItem t.End = Unit {0}
EndsItem _ = ⊥

-- ---- before the name

item_group : (frames : List Frame) (items : List Item) (kind : TokenKind) (at : Span) (group : Interval) → group_of kind ≡ Some group →
    item frames items kind at ≡ Some (frames, m.Lead items (record { at = at; is_abstract = false; front = front.Grouped group }))
unfolding item grouped
item_group frames items (t.Word w.Xor) at group e = ap (grouped frames items at false) e
item_group frames items (t.Word w.Or) at group e = ap (grouped frames items at false) e
item_group frames items (t.Word w.Mux) at group e = ap (grouped frames items at false) e
item_group frames items (t.Word w.Opt) at group e = ap (grouped frames items at false) e
item_group frames items _ at group e = cc

abstract_group : (frames : List Frame) (items : List Item) (l : Lead) (kind : TokenKind) (at : Span) (group : Interval) → group_of kind ≡ Some group →
    lead_at frames items l front.Abstract kind at ≡ Some (frames, m.Lead items (record { at = l.at; is_abstract = l.is_abstract; front = front.Grouped group }))
unfolding lead_at grouped
abstract_group frames items l (t.Word w.Xor) at group e = ap (grouped frames items l.at l.is_abstract) e
abstract_group frames items l (t.Word w.Or) at group e = ap (grouped frames items l.at l.is_abstract) e
abstract_group frames items l (t.Word w.Mux) at group e = ap (grouped frames items l.at l.is_abstract) e
abstract_group frames items l (t.Word w.Opt) at group e = ap (grouped frames items l.at l.is_abstract) e
abstract_group frames items l _ at group e = cc

-- What stands before a name is read, and then the name.
pub record Leads (frames : List Frame) (items : List Item) (ts : List Symbol) (is_abstract : Bool) (group : Option Interval) : Type 0 where
  pub state : State
  pub runs : run (frames, m.Items items) ts ≡ Some state
  pub takes : (n : List ℕ) (at : Span) → step state (tok (t.Name n) at) ≡ Some (frames, m.Head items (head (place_of ts at) is_abstract group (title n at) None None None) stage.Titled)

bound_read : (frames : List Frame) (items : List Item) (l : Lead) (low : ℕ) (kind : TokenKind) (at : Span) (high : Option ℕ) → bound_of kind ≡ Some high →
    lead_at frames items l (front.Dots low) kind at ≡ Some (frames, m.Lead items (record l { front = front.Grouped (interval low high) }))
unfolding lead_at bounded
bound_read frames items l low kind at high e = ap (bounded frames items l low) e

pub leads : {ts : List Symbol} {is_abstract : Bool} {group : Option Interval} → SpellsLead ts is_abstract group → (frames : List Frame) (items : List Item) →
    Leads frames items ts is_abstract group
unfolding step_at item lead_at run
leads (SpellsLead.lead false a SpellsGroup.none) frames items = record {
  state = (frames, m.Items items);
  runs = refl;
  takes = λ n at. refl;
}
leads (SpellsLead.lead true a SpellsGroup.none) frames items = record {
  state = (frames, m.Lead items (record { at = a; is_abstract = true; front = front.Abstract }));
  runs = refl;
  takes = λ n at. refl;
}
leads (SpellsLead.lead false a (SpellsGroup.word {at = g} {kind = kind} {group = group} e)) frames items = record {
  state = (frames, m.Lead items (record { at = g; is_abstract = false; front = front.Grouped group }));
  runs = ap (λ o. then_run o (λ next. run next [])) (item_group frames items kind g group e);
  takes = λ n at. refl;
}
leads (SpellsLead.lead true a (SpellsGroup.word {at = g} {kind = kind} {group = group} e)) frames items = record {
  state = (frames, m.Lead items (record { at = a; is_abstract = true; front = front.Grouped group }));
  runs = ap (λ o. then_run o (λ next. run next [])) (abstract_group frames items (record { at = a; is_abstract = true; front = front.Abstract }) kind g group e);
  takes = λ n at. refl;
}
leads (SpellsLead.lead false a (SpellsGroup.range {at = g} {d = d} {z = z} {low = low} {kind = kind} {high = high} e)) frames items = record {
  state = (frames, m.Lead items (record { at = g; is_abstract = false; front = front.Grouped (interval low high) }));
  runs = ap (λ o. then_run o (λ next. run next [])) (bound_read frames items (record { at = g; is_abstract = false; front = front.Dots low }) low kind z high e);
  takes = λ n at. refl;
}
leads (SpellsLead.lead true a (SpellsGroup.range {at = g} {d = d} {z = z} {low = low} {kind = kind} {high = high} e)) frames items = record {
  state = (frames, m.Lead items (record { at = a; is_abstract = true; front = front.Grouped (interval low high) }));
  runs = ap (λ o. then_run o (λ next. run next [])) (bound_read frames items (record { at = a; is_abstract = true; front = front.Dots low }) low kind z high e);
  takes = λ n at. refl;
}

group_begun : {ts : List Symbol} → BeginsGroup ts → (is_abstract : Bool) (a : Span) (frames : List Frame) (items : List Item) →
    IsRunning (run (frames, m.Items items) (abstract_part is_abstract a ++ ts))
unfolding step_at item lead_at run
group_begun (BeginsGroup.whole v) is_abstract a frames items = let r = leads (SpellsLead.lead is_abstract a v) frames items in (r.state, r.runs)
group_begun BeginsGroup.low false a frames items = (_, refl)
group_begun BeginsGroup.low true a frames items = (_, refl)
group_begun BeginsGroup.dots false a frames items = (_, refl)
group_begun BeginsGroup.dots true a frames items = (_, refl)

-- ---- behind the name

unfoldable pub above_stage : Option Title → Stage
above_stage None = stage.Titled
above_stage (Some _) = stage.Above

unfoldable pub reference_stage : Option Title → Option Pointer → Stage
reference_stage above None = above_stage above
reference_stage above (Some _) = stage.Target

pub above_read : {us : List Symbol} {above : Option Title} → SpellsAbove us above →
    (frames : List Frame) (items : List Item) (at : Span) (is_abstract : Bool) (group : Option Interval) (name : Title) →
    run (frames, m.Head items (head at is_abstract group name None None None) stage.Titled) us ≡ Some (frames, m.Head items (head at is_abstract group name above None None) (above_stage above))
unfolding step_at head_at run above_stage
above_read SpellsAbove.none frames items at is_abstract group name = refl
above_read SpellsAbove.super frames items at is_abstract group name = refl

above_begun : {us : List Symbol} → BeginsAbove us →
    (frames : List Frame) (items : List Item) (at : Span) (is_abstract : Bool) (group : Option Interval) (name : Title) →
    IsRunning (run (frames, m.Head items (head at is_abstract group name None None None) stage.Titled) us)
unfolding step_at head_at run
above_begun (BeginsAbove.whole v) frames items at is_abstract group name = (_, above_read v frames items at is_abstract group name)
above_begun BeginsAbove.colon frames items at is_abstract group name = (_, refl)

arrow_step : (frames : List Frame) (items : List Item) (h : Head) (above : Option Title) (kind : TokenKind) (at : Span) (bag : Bool) → bag_of kind ≡ Some bag →
    head_at frames items h (above_stage above) kind at ≡ Some (frames, m.Head items h (stage.Arrow at bag))
unfolding head_at with_arrow above_stage
arrow_step frames items h None (t.Sign s.Arrow) at bag e = ap (with_arrow frames items h (t.Sign s.Arrow) at) e
arrow_step frames items h None (t.Sign s.BagArrow) at bag e = ap (with_arrow frames items h (t.Sign s.BagArrow) at) e
arrow_step frames items h None _ at bag e = cc
arrow_step frames items h (Some name) kind at bag e = ap (with_arrow frames items h kind at) e

target_step : (frames : List Frame) (items : List Item) (h : Head) (place : Span) (bag : Bool) (kind : TokenKind) (at : Span) (to : Option Title) → target_of kind at ≡ Some to →
    head_at frames items h (stage.Arrow place bag) kind at ≡ Some (frames, m.Head items (record h { reference = Some (pointer place bag to) }) stage.Target)
unfolding head_at targeted
target_step frames items h place bag kind at to e = ap (targeted frames items h place bag) e

pub reference_read : {vs : List Symbol} {reference : Option Pointer} → SpellsReference vs reference →
    (frames : List Frame) (items : List Item) (at : Span) (is_abstract : Bool) (group : Option Interval) (name : Title) (above : Option Title) →
    run (frames, m.Head items (head at is_abstract group name above None None) (above_stage above)) vs ≡
    Some (frames, m.Head items (head at is_abstract group name above reference None) (reference_stage above reference))
unfolding step_at reference_stage
reference_read SpellsReference.none frames items at is_abstract group name above = run_none _
reference_read (SpellsReference.arrow {a = a} {z = z} {arrow = arrow} {kind = kind} {bag = bag} {to = to} e g) frames items at is_abstract group name above =
    let h = head at is_abstract group name above None None in
    run_step (frames, m.Head items h (above_stage above)) (frames, m.Head items h (stage.Arrow a bag)) (tok arrow a) _ (arrow_step frames items h above arrow a bag e) ∙
    run_step (frames, m.Head items h (stage.Arrow a bag)) (frames, m.Head items (record h { reference = Some (pointer a bag to) }) stage.Target) (tok kind z) [] (target_step frames items h a bag kind z to g) ∙
    run_none _

reference_begun : {vs : List Symbol} → BeginsReference vs →
    (frames : List Frame) (items : List Item) (at : Span) (is_abstract : Bool) (group : Option Interval) (name : Title) (above : Option Title) →
    IsRunning (run (frames, m.Head items (head at is_abstract group name above None None) (above_stage above)) vs)
unfolding step_at
reference_begun (BeginsReference.whole v) frames items at is_abstract group name above = (_, reference_read v frames items at is_abstract group name above)
reference_begun (BeginsReference.sign {a = a} {arrow = arrow} {bag = bag} e) frames items at is_abstract group name above =
    let h = head at is_abstract group name above None None in (
      (frames, m.Head items h (stage.Arrow a bag)),
      run_step (frames, m.Head items h (above_stage above)) (frames, m.Head items h (stage.Arrow a bag)) (tok arrow a) [] (arrow_step frames items h above arrow a bag e) ∙ run_none _,
    )

-- ---- multiplicities

-- a stage at which a multiplicity may come
pub IsEarly : Stage → Type 0
IsEarly stage.Titled = Unit {0}
IsEarly stage.Above = Unit {0}
IsEarly stage.Target = Unit {0}
IsEarly _ = ⊥

early : (above : Option Title) (reference : Option Pointer) → IsEarly (reference_stage above reference)
unfolding IsEarly above_stage reference_stage
early None None = tt
early (Some name) None = tt
early above (Some to) = tt

sign_step : (frames : List Frame) (items : List Item) (h : Head) (st : Stage) (kind : TokenKind) (at : Span) (multiplicity : Interval) → IsEarly st → times_of kind ≡ Some multiplicity →
    head_at frames items h st kind at ≡ Some (frames, m.Head items (record h { times = Some multiplicity }) stage.Times)
unfolding head_at with_arrow times with_times IsEarly
sign_step frames items h stage.Titled (t.Sign s.Question) at multiplicity i e = ap (with_times frames items h (t.Sign s.Question) at) e
sign_step frames items h stage.Titled (t.Sign s.Star) at multiplicity i e = ap (with_times frames items h (t.Sign s.Star) at) e
sign_step frames items h stage.Titled (t.Sign s.Plus) at multiplicity i e = ap (with_times frames items h (t.Sign s.Plus) at) e
sign_step frames items h stage.Titled _ at multiplicity i e = cc
sign_step frames items h stage.Above (t.Sign s.Question) at multiplicity i e = ap (with_times frames items h (t.Sign s.Question) at) e
sign_step frames items h stage.Above (t.Sign s.Star) at multiplicity i e = ap (with_times frames items h (t.Sign s.Star) at) e
sign_step frames items h stage.Above (t.Sign s.Plus) at multiplicity i e = ap (with_times frames items h (t.Sign s.Plus) at) e
sign_step frames items h stage.Above _ at multiplicity i e = cc
sign_step frames items h stage.Target (t.Sign s.Question) at multiplicity i e = ap (with_times frames items h (t.Sign s.Question) at) e
sign_step frames items h stage.Target (t.Sign s.Star) at multiplicity i e = ap (with_times frames items h (t.Sign s.Star) at) e
sign_step frames items h stage.Target (t.Sign s.Plus) at multiplicity i e = ap (with_times frames items h (t.Sign s.Plus) at) e
sign_step frames items h stage.Target _ at multiplicity i e = cc
sign_step frames items h _ kind at multiplicity i e = absurd i

number_step : (frames : List Frame) (items : List Item) (h : Head) (st : Stage) (n : ℕ) (at : Span) → IsEarly st →
    head_at frames items h st (t.Number n) at ≡ Some (frames, m.Head items (record h { times = Some (interval n (Some n)) }) (stage.Low n))
unfolding head_at with_arrow times IsEarly
number_step frames items h stage.Titled n at i = refl
number_step frames items h stage.Above n at i = refl
number_step frames items h stage.Target n at i = refl
number_step frames items h _ n at i = absurd i

dots_step : (frames : List Frame) (items : List Item) (h : Head) (low : ℕ) (at : Span) →
    head_at frames items h (stage.Low low) (t.Sign s.DotDot) at ≡ Some (frames, m.Head items h (stage.Dots low))
unfolding head_at low_times
dots_step frames items h low at = refl

high_step : (frames : List Frame) (items : List Item) (h : Head) (low : ℕ) (kind : TokenKind) (at : Span) (high : Option ℕ) → bound_of kind ≡ Some high →
    head_at frames items h (stage.Dots low) kind at ≡ Some (frames, m.Head items (record h { times = Some (interval low high) }) stage.Times)
unfolding head_at high_times
high_step frames items h low kind at high e = ap (high_times frames items h low) e

-- ---- whole heads

tail_item : (frames : List Frame) (items : List Item) (h : Head) (kind : TokenKind) (at : Span) → EndsItem kind →
    tail frames items h kind at ≡ item frames (items ++ clafer h None [] ∷ []) kind at
unfolding tail EndsItem
tail_item frames items h (t.Sign s.Equal) at e = absurd e
tail_item frames items h t.Open at e = absurd e
tail_item frames items h kind at e = refl

times_tail : (frames : List Frame) (items : List Item) (h : Head) (kind : TokenKind) (at : Span) → EndsItem kind → MayFollow bare kind →
    times frames items h kind at ≡ tail frames items h kind at
unfolding times with_times EndsItem
times_tail frames items h (t.Number n) at e g = absurd g
times_tail frames items h (t.Sign s.Question) at e g = absurd e
times_tail frames items h (t.Sign s.Star) at e g = absurd e
times_tail frames items h (t.Sign s.Plus) at e g = absurd e
times_tail frames items h kind at e g = refl

refers_times : (frames : List Frame) (items : List Item) (h : Head) (kind : TokenKind) (at : Span) → EndsItem kind →
    refers frames items h kind at ≡ times frames items h kind at
unfolding with_arrow EndsItem
refers_times frames items h (t.Sign s.Arrow) at e = absurd e
refers_times frames items h (t.Sign s.BagArrow) at e = absurd e
refers_times frames items h kind at e = refl

titled_refers : (frames : List Frame) (items : List Item) (h : Head) (kind : TokenKind) (at : Span) → EndsItem kind →
    head_at frames items h stage.Titled kind at ≡ refers frames items h kind at
unfolding head_at EndsItem
titled_refers frames items h (t.Sign s.Colon) at e = absurd e
titled_refers frames items h kind at e = refl

low_tail : (frames : List Frame) (items : List Item) (h : Head) (low : ℕ) (kind : TokenKind) (at : Span) → EndsItem kind →
    low_times frames items h low kind at ≡ tail frames items h kind at
unfolding low_times EndsItem
low_tail frames items h low (t.Sign s.DotDot) at e = absurd e
low_tail frames items h low kind at e = refl

-- The head is whole: `=`, a block or the end of the clafer may follow.
pub record IsWhole (frames : List Frame) (items : List Item) (h : Head) (st : Stage) : Type 0 where
  pub equal : (a : Span) → head_at frames items h st (t.Sign s.Equal) a ≡ Some (f.Start items h a ∷ frames, m.Operand)
  pub opens : (a : Span) → head_at frames items h st t.Open a ≡ Some (f.Block items h None ∷ frames, m.Items [])
  pub ends : (kind : TokenKind) (at : Span) → EndsItem kind → MayFollow (ending_of h.times) kind → head_at frames items h st kind at ≡ item frames (items ++ clafer h None [] ∷ []) kind at

whole_bare : (frames : List Frame) (items : List Item) (at : Span) (is_abstract : Bool) (group : Option Interval) (name : Title) (above : Option Title) (reference : Option Pointer) →
    IsWhole frames items (head at is_abstract group name above reference None) (reference_stage above reference)
unfolding head_at with_arrow times with_times tail above_stage reference_stage
whole_bare frames items at is_abstract group name None None = record {
  equal = λ a. refl;
  opens = λ a. refl;
  ends = λ kind z e g. let h = head at is_abstract group name None None None in titled_refers frames items h kind z e ∙ refers_times frames items h kind z e ∙ times_tail frames items h kind z e g ∙ tail_item frames items h kind z e;
}
whole_bare frames items at is_abstract group name (Some above) None = record {
  equal = λ a. refl;
  opens = λ a. refl;
  ends = λ kind z e g. let h = head at is_abstract group name (Some above) None None in refers_times frames items h kind z e ∙ times_tail frames items h kind z e g ∙ tail_item frames items h kind z e;
}
whole_bare frames items at is_abstract group name above (Some to) = record {
  equal = λ a. refl;
  opens = λ a. refl;
  ends = λ kind z e g. let h = head at is_abstract group name above (Some to) None in times_tail frames items h kind z e g ∙ tail_item frames items h kind z e;
}

whole_low : (frames : List Frame) (items : List Item) (h : Head) (low : ℕ) → IsWhole frames items h (stage.Low low)
unfolding head_at low_times tail
whole_low frames items h low = record {
  equal = λ a. refl;
  opens = λ a. refl;
  ends = λ kind z e g. low_tail frames items h low kind z e ∙ tail_item frames items h kind z e;
}

whole_times : (frames : List Frame) (items : List Item) (h : Head) → IsWhole frames items h stage.Times
unfolding head_at tail
whole_times frames items h = record {
  equal = λ a. refl;
  opens = λ a. refl;
  ends = λ kind z e g. tail_item frames items h kind z e;
}

pub record HeadRead (frames : List Frame) (items : List Item) (from : State) (ts : List Symbol) (h : Head) : Type 0 where
  pub st : Stage
  pub runs : run from ts ≡ Some (frames, m.Head items h st)
  pub whole : IsWhole frames items h st

times_read : {ws : List Symbol} {multiplicity : Option Interval} → SpellsTimes ws multiplicity →
    (frames : List Frame) (items : List Item) (at : Span) (is_abstract : Bool) (group : Option Interval) (name : Title) (above : Option Title) (reference : Option Pointer) →
    HeadRead frames items (frames, m.Head items (head at is_abstract group name above reference None) (reference_stage above reference)) ws (head at is_abstract group name above reference multiplicity)
unfolding step_at
times_read SpellsTimes.none frames items at is_abstract group name above reference = record {
  st = reference_stage above reference;
  runs = run_none _;
  whole = whole_bare frames items at is_abstract group name above reference;
}
times_read (SpellsTimes.sign {at = z} {kind = kind} {times = multiplicity} e) frames items at is_abstract group name above reference = record {
  st = stage.Times;
  runs = let h = head at is_abstract group name above reference None in
      run_step (frames, m.Head items h (reference_stage above reference)) (frames, m.Head items (record h { times = Some multiplicity }) stage.Times) (tok kind z) [] (sign_step frames items h (reference_stage above reference) kind z multiplicity (early above reference) e) ∙ run_none _;
  whole = whole_times frames items _;
}
times_read (SpellsTimes.exact {at = z} {n = n}) frames items at is_abstract group name above reference = record {
  st = stage.Low n;
  runs = let h = head at is_abstract group name above reference None in
      run_step (frames, m.Head items h (reference_stage above reference)) (frames, m.Head items (record h { times = Some (interval n (Some n)) }) (stage.Low n)) (tok (t.Number n) z) [] (number_step frames items h (reference_stage above reference) n z (early above reference)) ∙ run_none _;
  whole = whole_low frames items _ n;
}
times_read (SpellsTimes.range {at = z} {d = d} {z = y} {low = low} {kind = kind} {high = high} e) frames items at is_abstract group name above reference = record {
  st = stage.Times;
  runs = let h = head at is_abstract group name above reference None in let h2 = record h { times = Some (interval low (Some low)) } in
      run_step (frames, m.Head items h (reference_stage above reference)) (frames, m.Head items h2 (stage.Low low)) (tok (t.Number low) z) _ (number_step frames items h (reference_stage above reference) low z (early above reference)) ∙
      run_step (frames, m.Head items h2 (stage.Low low)) (frames, m.Head items h2 (stage.Dots low)) (tok (t.Sign s.DotDot) d) _ (dots_step frames items h2 low d) ∙
      run_step (frames, m.Head items h2 (stage.Dots low)) (frames, m.Head items (record h2 { times = Some (interval low high) }) stage.Times) (tok kind y) [] (high_step frames items h2 low kind y high e) ∙
      run_none _;
  whole = whole_times frames items _;
}

times_begun : {ws : List Symbol} → BeginsTimes ws →
    (frames : List Frame) (items : List Item) (at : Span) (is_abstract : Bool) (group : Option Interval) (name : Title) (above : Option Title) (reference : Option Pointer) →
    IsRunning (run (frames, m.Head items (head at is_abstract group name above reference None) (reference_stage above reference)) ws)
unfolding step_at
times_begun (BeginsTimes.whole v) frames items at is_abstract group name above reference =
    let r = times_read v frames items at is_abstract group name above reference in (_, r.runs)
times_begun (BeginsTimes.dots {at = z} {d = d} {low = low}) frames items at is_abstract group name above reference =
    let h = head at is_abstract group name above reference None in let h2 = record h { times = Some (interval low (Some low)) } in (
      (frames, m.Head items h2 (stage.Dots low)),
      run_step (frames, m.Head items h (reference_stage above reference)) (frames, m.Head items h2 (stage.Low low)) (tok (t.Number low) z) _ (number_step frames items h (reference_stage above reference) low z (early above reference)) ∙
          run_step (frames, m.Head items h2 (stage.Low low)) (frames, m.Head items h2 (stage.Dots low)) (tok (t.Sign s.DotDot) d) [] (dots_step frames items h2 low d) ∙ run_none _,
    )

-- After what stands before a clafer's name, and the name.
name_read : (frames : List Frame) (items : List Item) (ts us : List Symbol) (is_abstract : Bool) (group : Option Interval) (n : List ℕ) (at : Span) → SpellsLead ts is_abstract group →
    run (frames, m.Items items) (ts ++ tok (t.Name n) at ∷ us) ≡ run (frames, m.Head items (head (place_of ts at) is_abstract group (title n at) None None None) stage.Titled) us
name_read frames items ts us is_abstract group n at v =
    let r = leads v frames items in
    run_on (frames, m.Items items) r.state ts (tok (t.Name n) at ∷ us) r.runs ∙
    run_step r.state (frames, m.Head items (head (place_of ts at) is_abstract group (title n at) None None None) stage.Titled) (tok (t.Name n) at) us (r.takes n at)

pub head_read : {ts : List Symbol} {h : Head} → SpellsHead ts h → (frames : List Frame) (items : List Item) → HeadRead frames items (frames, m.Items items) ts h
head_read (SpellsHead.head_of at n {ts = ts} {us = us} {vs = vs} {ws = ws} {is_abstract = is_abstract} {group = group} {above = above} {reference = reference} lead a r v) frames items =
    let place = place_of ts at in
    let name = title n at in
    let x = times_read v frames items place is_abstract group name above reference in
    record {
      st = x.st;
      runs = name_read frames items ts _ is_abstract group n at lead ∙
          run_on _ (frames, m.Head items (head place is_abstract group name above None None) (above_stage above)) us (vs ++ ws) (above_read a frames items place is_abstract group name) ∙
          run_on _ (frames, m.Head items (head place is_abstract group name above reference None) (reference_stage above reference)) vs ws (reference_read r frames items place is_abstract group name above) ∙
          x.runs;
      whole = x.whole;
    }

pub head_begun : {ts : List Symbol} → BeginsHead ts → (frames : List Frame) (items : List Item) → IsRunning (run (frames, m.Items items) ts)
head_begun (BeginsHead.in_group is_abstract a v) frames items = group_begun v is_abstract a frames items
head_begun (BeginsHead.in_above at n {ts = ts} {is_abstract = is_abstract} {group = group} lead v) frames items =
    running_by (name_read frames items ts _ is_abstract group n at lead) (above_begun v frames items (place_of ts at) is_abstract group (title n at))
head_begun (BeginsHead.in_reference at n {ts = ts} {us = us} {vs = vs} {is_abstract = is_abstract} {group = group} {above = above} lead a v) frames items =
    let place = place_of ts at in
    let name = title n at in
    running_by (name_read frames items ts _ is_abstract group n at lead ∙
    run_on _ (frames, m.Head items (head place is_abstract group name above None None) (above_stage above)) us vs (above_read a frames items place is_abstract group name))
    (reference_begun v frames items place is_abstract group name above)
head_begun (BeginsHead.in_times at n {ts = ts} {us = us} {vs = vs} {ws = ws} {is_abstract = is_abstract} {group = group} {above = above} {reference = reference} lead a r v) frames items =
    let place = place_of ts at in
    let name = title n at in
    running_by (name_read frames items ts _ is_abstract group n at lead ∙
    run_on _ (frames, m.Head items (head place is_abstract group name above None None) (above_stage above)) us (vs ++ ws) (above_read a frames items place is_abstract group name) ∙
    run_on _ (frames, m.Head items (head place is_abstract group name above reference None) (reference_stage above reference)) vs ws (reference_read r frames items place is_abstract group name above))
    (times_begun v frames items place is_abstract group name above reference)

-- ---- first tokens

unfoldable pub FirstEnds : List Symbol → Type 0
FirstEnds [] = Unit {0}
FirstEnds (first ∷ _) = EndsItem first.kind

unfoldable pub StartsEnding : List Symbol → Type 0
StartsEnding [] = ⊥
StartsEnding (first ∷ _) = EndsItem first.kind

pub first_ends : (ts us : List Symbol) → StartsEnding ts → FirstEnds (ts ++ us)
unfolding FirstEnds StartsEnding
first_ends [] us h = absurd h
first_ends (x ∷ ts) us h = h

group_ends : (kind : TokenKind) (group : Interval) → group_of kind ≡ Some group → EndsItem kind
unfolding EndsItem
group_ends (t.Word w.Xor) group e = tt
group_ends (t.Word w.Or) group e = tt
group_ends (t.Word w.Mux) group e = tt
group_ends (t.Word w.Opt) group e = tt
group_ends _ group e = cc

lead_first : {ts : List Symbol} {is_abstract : Bool} {group : Option Interval} → SpellsLead ts is_abstract group → (n : List ℕ) (at : Span) (us : List Symbol) → StartsEnding (ts ++ tok (t.Name n) at ∷ us)
unfolding StartsEnding EndsItem
lead_first (SpellsLead.lead true a v) n at us = tt
lead_first (SpellsLead.lead false a SpellsGroup.none) n at us = tt
lead_first (SpellsLead.lead false a (SpellsGroup.word {kind = kind} {group = group} e)) n at us = group_ends kind group e
lead_first (SpellsLead.lead false a (SpellsGroup.range e)) n at us = tt

pub head_first : {ts : List Symbol} {h : Head} → SpellsHead ts h → StartsEnding ts
head_first (SpellsHead.head_of at n lead a r v) = lead_first lead n at _

group_first : {ts : List Symbol} → BeginsGroup ts → (is_abstract : Bool) (a : Span) → FirstEnds (abstract_part is_abstract a ++ ts)
unfolding FirstEnds EndsItem
group_first v true a = tt
group_first (BeginsGroup.whole SpellsGroup.none) false a = tt
group_first (BeginsGroup.whole (SpellsGroup.word {kind = kind} {group = group} e)) false a = group_ends kind group e
group_first (BeginsGroup.whole (SpellsGroup.range e)) false a = tt
group_first BeginsGroup.low false a = tt
group_first BeginsGroup.dots false a = tt

first_of_starts : (ts : List Symbol) → StartsEnding ts → FirstEnds ts
unfolding FirstEnds StartsEnding
first_of_starts [] h = absurd h
first_of_starts (x ∷ ts) h = h

pub begun_first : {ts : List Symbol} → BeginsHead ts → FirstEnds ts
begun_first (BeginsHead.in_group is_abstract a v) = group_first v is_abstract a
begun_first (BeginsHead.in_above at n lead v) = first_of_starts _ (lead_first lead n at _)
begun_first (BeginsHead.in_reference at n lead a v) = first_of_starts _ (lead_first lead n at _)
begun_first (BeginsHead.in_times at n lead a r v) = first_of_starts _ (lead_first lead n at _)
