-- Behind the end the reader is done.
use Rattle.std.proofs.Common.{◌≡◌, ℕ, Bool, true, false, refl, sym, ◌∙◌, ap, List, [], ◌∷◌, ◌++◌, Option, Some, None}
use Rattle.clf_base.specs.declared.fault.Span.{Span}
use Rattle.clafer_parser.specs.Progress.{IsDone}
use Rattle.clf_tree.specs.declared.token.Title.{Title}
use Rattle.clf_tree.specs.declared.token.Word.{Word}
use Rattle.clf_tree.specs.declared.token.TokenKind.TheVariants as t
use Rattle.clf_tree.specs.declared.expr.Expr.{Expr}
use Rattle.clf_tree.specs.declared.module.Item.{Item}
use Rattle.clafer_grammar.specs.declared.heads.Front.{Front}
use Rattle.clafer_grammar.specs.declared.heads.Front.TheVariants as front
use Rattle.clafer_grammar.specs.declared.heads.Lead.{Lead}
use Rattle.clafer_grammar.specs.declared.heads.Head.{Head}
use Rattle.clafer_grammar.specs.declared.heads.Stage.{Stage}
use Rattle.clafer_grammar.specs.declared.heads.Stage.TheVariants as stage
use Rattle.clafer_grammar.specs.declared.machine.Frame.{Frame}
use Rattle.clafer_grammar.specs.declared.machine.Frame.TheVariants as f
use Rattle.clafer_grammar.specs.declared.machine.Mode.{Mode}
use Rattle.clafer_grammar.specs.declared.machine.Mode.TheVariants as m
use Rattle.clafer_grammar.specs.Operators.{infix_level, prefix_level}
use Rattle.clafer_grammar.specs.Trees.{name_tree, infix_tree, prefix_tree, if_tree, quant_tree, clafer, started}
use Rattle.clafer_grammar.specs.Machine.{State, Step, settle, reduce, goes_on, with_infix, operand, atom, prefixed, names, listed, close_paren, close_condition, close_consequence, close_range, close_bracket, close_goal, close_start, finish, item, grouped, bounded, lead_at, tail, with_times, times, high_times, low_times, with_arrow, refers, targeted, head_at, enum_word, enum_title, member, more_members, goal_word, named, valued, not_in, step_at}

none_done : {v : State} → ◌≡◌ {A = Step} None (Some v) → IsDone v.1
none_done h = cc

injective : {v w : State} → ◌≡◌ {A = Step} (Some v) (Some w) → v ≡ w
injective h = cc

finish_done : (frames : List Frame) (items : List Item) (v : State) → ◌≡◌ {A = Step} (finish frames items) (Some v) → IsDone v.1
unfolding finish
finish_done [] items v h = (items, ap (λ w. w.1) (sym (injective h)))
finish_done (x ∷ frames) items v h = none_done h

item_done : (frames : List Frame) (items : List Item) (at : Span) (v : State) → ◌≡◌ {A = Step} (item frames items t.End at) (Some v) → IsDone v.1
unfolding item
item_done frames items at v h = finish_done frames items v h

reduce_done : (frames : List Frame) (x : Expr) (level : ℕ) (at : Span) (v : State) → ◌≡◌ {A = Step} (reduce frames x level t.End at) (Some v) → IsDone v.1
unfolding reduce goes_on with_infix close_paren close_condition close_consequence close_range close_bracket close_goal close_start operand atom prefixed
reduce_done [] x level at v h = none_done h
reduce_done (f.Binary place op y ∷ below) x level at v h = reduce_done below (infix_tree op place y x) (infix_level op) at v h
reduce_done (f.Unary place op ∷ below) x level at v h = reduce_done below (prefix_tree op place x) (prefix_level op) at v h
reduce_done (f.Alternative place y z ∷ below) x level at v h = reduce_done below (if_tree place y z x) 0 at v h
reduce_done (f.Body place word disj vars y ∷ below) x level at v h = reduce_done below (quant_tree place word disj vars y x) 0 at v h
reduce_done (f.Paren ∷ below) x level at v h = none_done h
reduce_done (f.Condition place ∷ below) x level at v h = none_done h
reduce_done (f.Consequence place y ∷ below) x level at v h = none_done h
reduce_done (f.Range place word disj vars ∷ below) x level at v h = none_done h
reduce_done (f.Bracket before place parts ∷ below) x level at v h = none_done h
reduce_done (f.Goal before place is_least ∷ below) x level at v h = none_done h
reduce_done (f.Start before head place ∷ below) x level at v h = item_done below (before ++ clafer head (started place x) [] ∷ []) at v h
reduce_done (f.Block before head start ∷ below) x level at v h = none_done h

settle_done : (frames : List Frame) (x : Expr) (level : ℕ) (at : Span) (v : State) → ◌≡◌ {A = Step} (settle frames x level t.End at) (Some v) → IsDone v.1
unfolding goes_on with_infix
settle_done frames x level at v h = reduce_done frames x level at v h

lead_done : (frames : List Frame) (items : List Item) (lead : Lead) (its : Front) (at : Span) (v : State) → ◌≡◌ {A = Step} (lead_at frames items lead its t.End at) (Some v) → IsDone v.1
unfolding lead_at grouped bounded
lead_done frames items lead front.Abstract at v h = none_done h
lead_done frames items lead (front.Low low) at v h = none_done h
lead_done frames items lead (front.Dots low) at v h = none_done h
lead_done frames items lead (front.Grouped group) at v h = none_done h

head_done : (frames : List Frame) (items : List Item) (head : Head) (its : Stage) (at : Span) (v : State) → ◌≡◌ {A = Step} (head_at frames items head its t.End at) (Some v) → IsDone v.1
unfolding head_at with_arrow targeted times with_times high_times low_times tail
head_done frames items head stage.Titled at v h = item_done frames (items ++ clafer head None [] ∷ []) at v h
head_done frames items head stage.Colon at v h = none_done h
head_done frames items head stage.Above at v h = item_done frames (items ++ clafer head None [] ∷ []) at v h
head_done frames items head (stage.Arrow place bag) at v h = none_done h
head_done frames items head stage.Target at v h = item_done frames (items ++ clafer head None [] ∷ []) at v h
head_done frames items head (stage.Low low) at v h = item_done frames (items ++ clafer head None [] ∷ []) at v h
head_done frames items head (stage.Dots low) at v h = none_done h
head_done frames items head stage.Times at v h = item_done frames (items ++ clafer head None [] ∷ []) at v h

names_done : (frames : List Frame) (place : Span) (word : Word) (disj : Bool) (vars : List Title) (at : Span) (v : State) →
    ◌≡◌ {A = Step} (names frames place word disj vars t.End at) (Some v) → IsDone v.1
unfolding names
names_done frames place word true vars at v h = none_done h
names_done frames place word false [] at v h = none_done h
names_done frames place word false (x ∷ vars) at v h = none_done h

pub end_done : (frames : List Frame) (mode : Mode) (at : Span) (v : State) → ◌≡◌ {A = Step} (step_at frames mode t.End at) (Some v) → IsDone v.1
unfolding step_at operand atom prefixed enum_word enum_title member more_members goal_word listed named valued not_in
end_done frames (m.Items items) at v h = item_done frames items at v h
end_done frames (m.Lead items lead) at v h = lead_done frames items lead lead.front at v h
end_done frames (m.Head items head stage) at v h = head_done frames items head stage at v h
end_done frames (m.Enum items place) at v h = none_done h
end_done frames (m.EnumTitle items place name) at v h = none_done h
end_done frames (m.Member items place name members) at v h = none_done h
end_done frames (m.Members items place name members) at v h = item_done frames _ at v h
end_done frames (m.Goal items place) at v h = none_done h
end_done frames m.Operand at v h = none_done h
end_done frames m.In at v h = none_done h
end_done frames (m.Names place word disj vars) at v h = names_done frames place word disj vars at v h
end_done frames (m.Listed place word disj vars) at v h = none_done h
end_done frames (m.Named name) at v h = settle_done frames (name_tree name) 14 at v h
end_done frames (m.Value x level) at v h = settle_done frames x level at v h
end_done frames (m.Field x) at v h = none_done h
end_done frames (m.Done items) at v h = none_done h
