-- The states of the reader and the grammar.
use Rattle.std.proofs.Common.{◌≡◌, refl, sym, ◌∙◌, ap, Option, Some, None, List, [], ◌∷◌, ◌++◌}
use Rattle.clf_tree.specs.declared.module.Item.{Item}
use Rattle.clafer_grammar.specs.declared.machine.Frame.{Frame}
use Rattle.clafer_grammar.specs.declared.machine.Mode.TheVariants as m
use Rattle.clafer_grammar.specs.Symbols.{Symbol}
use Rattle.clafer_grammar.specs.Modules.{SpellsModule, BeginsModule}
use Rattle.clafer_grammar.specs.Machine.{State, Step, step, then_run, run, start}
use Rattle.clafer_grammar.proofs.Begun.{IsRunning}
use Rattle.clafer_grammar.proofs.Builds.{module_survives}
use Rattle.clafer_grammar.proofs.Sound.{run_sound, start_consumed, done_spells}
use Rattle.clafer_grammar.proofs.Viable.{consumed_begins}

pub run_dead : (xs ys : List Symbol) (v : State) → run v xs ≡ None → run v (xs ++ ys) ≡ None
unfolding run
run_dead [] ys v h = cc
run_dead (x ∷ xs) ys v h = go (step v x) h (λ w g. run_dead xs ys w g)
  where
    go : (o : Step) → then_run o (λ w. run w xs) ≡ None → ((w : State) → run w xs ≡ None → run w (xs ++ ys) ≡ None) →
        then_run o (λ w. run w (xs ++ ys)) ≡ None
    go None g each = refl
    go (Some w) g each = each w g

none_some : {v : State} → ◌≡◌ {A = Step} None (Some v) → ⊥
none_some q = cc

pub state_begins : (tokens : List Symbol) (state : State) → run start tokens ≡ Some state → BeginsModule tokens
state_begins tokens state h = consumed_begins (run_sound tokens start_consumed h)

pub shorter_begins : (front rest : List Symbol) → BeginsModule (front ++ rest) → BeginsModule front
shorter_begins front rest b = go (run start front) refl (module_survives b)
  where
    go : (o : Step) → run start front ≡ o → IsRunning (run start (front ++ rest)) → BeginsModule front
    go None e (v, h) = absurd (none_some (sym (run_dead front rest start e) ∙ h))
    go (Some v) e r = state_begins front v e

pub done_spelled : (tokens : List Symbol) (frames : List Frame) (items : List Item) → run start tokens ≡ Some (frames, m.Done items) → SpellsModule tokens items
done_spelled tokens frames items h = done_spells (run_sound tokens start_consumed h) items refl
