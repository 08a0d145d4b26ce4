-- The relational expressions of a whole model.
use Rattle.std.proofs.Common.{◌≡◌, ℕ, Bool, true, ◌&&◌, List, [], ◌∷◌, map, Some, None, refl, ap, sym, subst, ◌∙◌}
use Rattle.std.specs.List.{list_all, All, AllByRecursion}
use Rattle.std.proofs.lemmas.List.Folds.{list_all-map}
use Rattle.std.proofs.lemmas.List.Elements.{All-from_recursion}
use Rattle.std.proofs.lemmas.Bool.{true≢false}
use Rattle.clf_tree.specs.declared.model.Clafer.{Clafer}
use Rattle.clf_tree.specs.declared.model.Rule.{Rule}
use Rattle.clf_tree.specs.declared.model.Model.{Model}
use Rattle.clf_tree.specs.declared.scopes.Scopes.{Scopes}
use Rattle.clf_tree.specs.declared.instance.Entry.{Entry}
use Rattle.clf_tree.specs.declared.core_expr.CoreExpr.{CoreExpr}
use Rattle.clf_tree.specs.Tree.{Tree, tree}
use Rattle.clf_tree.specs.Hierarchy.{is_closed, is_one_of}
use Rattle.clf_tree.specs.IntervalsHold.{IntervalsHold, refers_once}
use Rattle.clf_tree.specs.Satisfies.{Law, laws_of, holds, value_outside, vector_of}
use Rattle.clf_tree.specs.Kinds.{kind}
use Rattle.clf_tree.specs.Typed.{is_typed, fits_truth, fits_number, IsTyped}
use Rattle.clf_tree.specs.Core.{Core, core}
use Rattle.clf_tree.specs.CoreMeaning.{meaning, truth_in, integer_in}
use Rattle.clf_tree.specs.CoreSoundness.{is_instance, IsSoundTruth, IsSoundGoal, Holds}
use Rattle.int_widths.specs.Narrow.{is_narrow_goal, is_narrow_law, is_narrow_model, within_context}
use Rattle.relational_core.specs.Conditions.{is_typed_law, is_typed_goal}
use Rattle.relational_core.specs.Lowered.{lowered_law, lowered_goal, instances_of, every}
use Rattle.relational_core.specs.Numberless.{has_no_number, is_without_integers, no_integers_in, refers_to_no_int}
use Rattle.relational_core.proofs.NoNumbers.{law-plain}
use Rattle.relational_core.proofs.Passing.{and_parts, and_all, map_agree, map_twice, all_both, all_implied}
use Rattle.relational_core.proofs.Instances.{all_fit}
use Rattle.relational_core.proofs.Possible.{all-possible}
use Rattle.relational_core.proofs.Made.{possible-made, is_made}
use Rattle.relational_core.proofs.InKinds.{Inherited}
use Rattle.relational_core.proofs.Kept.{law_kept, goal_kept}
use Rattle.relational_core.proofs.Sound.{Stands, sound, test-part, number-part}
use Rattle.clf_tree.specs.Tree as e

abbrev law_of : Rule → Law
law_of r = (r.context, tree r.body)

pub truths_kept : (model : Model) (scopes : Scopes) (truths : List CoreExpr) → map core truths ≡ map (λ r. lowered_law model.clafers scopes (r.context, tree r.body)) model.rules → IsTyped model
    → (entries : List Entry) → is_instance model.clafers scopes entries ≡ true
    → map (λ x. truth_in (meaning entries (core x) [])) truths ≡ map (holds model.clafers entries) (laws_of model)
truths_kept model scopes truths same typed entries is =
    let means = λ (a : Core). truth_in (meaning entries a []) in
    let all_typed : list_all (λ r. is_typed_law model.clafers (law_of r)) model.rules ≡ true = typed.rules in
    sym (map_twice means core truths) ∙ ap (map means) same
    ∙ map_twice means (λ r. lowered_law model.clafers scopes (law_of r)) model.rules
    ∙ map_agree (λ r. is_typed_law model.clafers (law_of r)) (λ r. means (lowered_law model.clafers scopes (law_of r))) (λ r. holds model.clafers entries (law_of r)) model.rules
    all_typed
    (λ r f. law_kept model.clafers scopes entries (all_fit model.clafers scopes entries is) (law_of r) f)
    ∙ sym (map_twice (holds model.clafers entries) law_of model.rules)

pub goals_kept : (model : Model) (scopes : Scopes) (goals : List CoreExpr) → map core goals ≡ map (λ g. lowered_goal model.clafers scopes (tree g.body)) model.goals → IsTyped model
    → (entries : List Entry) → is_instance model.clafers scopes entries ≡ true
    → map (λ x. integer_in (meaning entries (core x) [])) goals ≡ vector_of model entries
goals_kept model scopes goals same typed entries is =
    let means = λ (a : Core). integer_in (meaning entries a []) in
    let all_typed : list_all (λ g. is_typed_goal model.clafers (tree g.body)) model.goals ≡ true = typed.goals in
    sym (map_twice means core goals) ∙ ap (map means) same
    ∙ map_twice means (λ g. lowered_goal model.clafers scopes (tree g.body)) model.goals
    ∙ map_agree (λ g. is_typed_goal model.clafers (tree g.body)) (λ g. means (lowered_goal model.clafers scopes (tree g.body))) (λ g. value_outside model.clafers entries (tree g.body)) model.goals all_typed
    (λ g f. goal_kept model.clafers scopes entries (all_fit model.clafers scopes entries is) (tree g.body) f)

-- what holds of each expression that a list is mapped to holds of each of the list
each-mapped : {X : Type 0} (P : Core → Type 0) (f : X → Core) (given : X → Bool) (exprs : List CoreExpr) (xs : List X) → map core exprs ≡ map f xs → list_all given xs ≡ true
    → ((x : X) → given x ≡ true → P (f x)) → AllByRecursion (λ a. P (core a)) exprs
each-mapped P f given [] xs same all step = tt
each-mapped P f given (a ∷ exprs) [] same all step = absurd (some_none same)
  where
    some_none : core a ∷ map core exprs ≡ [] → ⊥
    some_none h = (cc)
each-mapped P f given (a ∷ exprs) (x ∷ xs) same all step =
    let j = and_parts (given x) (list_all given xs) all in
    (subst P (sym (head same)) (step x j.0), each-mapped P f given exprs xs (tail same) j.1 step)
  where
    head : core a ∷ map core exprs ≡ f x ∷ map f xs → core a ≡ f x
    head h = (cc)

    tail : core a ∷ map core exprs ≡ f x ∷ map f xs → map core exprs ≡ map f xs
    tail h = (cc)

module _ (clafers : List Clafer) (scopes : Scopes) (closed : is_closed clafers ≡ true) (once : refers_once clafers ≡ true) (inherited : Inherited clafers) (intervals_hold : IntervalsHold) where
  pub top-stands : Stands clafers scopes closed once inherited intervals_hold (within_context None) []
  top-stands = record { fit = refl; all_made = refl }

  pub context-stands : (k : ℕ) → Stands clafers scopes closed once inherited intervals_hold (within_context (Some k)) (instances_of clafers scopes (k ∷ []) ∷ [])
  context-stands k = record {
    fit = and_all (list_all (is_one_of clafers (k ∷ [])) (instances_of clafers scopes (k ∷ []))) true (all-possible clafers scopes (is_one_of clafers (k ∷ [])) (is_one_of clafers (k ∷ [])) (λ d p h. h)) refl;
    all_made = and_all (is_made clafers scopes (instances_of clafers scopes (k ∷ []))) true (possible-made clafers scopes (is_one_of clafers (k ∷ []))) refl;
  }

  law-sound : (l : Law) → is_typed_law clafers l ≡ true → is_narrow_law clafers scopes l ≡ true → IsSoundTruth clafers scopes (lowered_law clafers scopes l)
  law-sound (None, body) typed narrow =
      let w = within_context None in
      let f = and_parts (is_typed clafers body w) (fits_truth (kind clafers body w)) typed in
      test-part clafers scopes closed once inherited intervals_hold body w [] f.1 (λ own. sound clafers scopes closed once inherited intervals_hold body w [] top-stands f.0 narrow own)
  law-sound (Some k, body) typed narrow =
      let w = within_context (Some k) in
      let g = instances_of clafers scopes (k ∷ []) ∷ [] in
      let f = and_parts (is_typed clafers body w) (fits_truth (kind clafers body w)) typed in
      let p = test-part clafers scopes closed once inherited intervals_hold body w g f.1 (λ own. sound clafers scopes closed once inherited intervals_hold body w g (context-stands k) f.0 narrow own) in
      (refl, (refl, p.0, every-sound k, p.1))
    where
      every-sound : (k : ℕ) → Holds clafers scopes (every clafers scopes (k ∷ [])) []
      every-sound k = sound clafers scopes closed once inherited intervals_hold (e.Clafer (record { line = 0; column = 0 }) k) (within_context None) [] top-stands refl refl (λ h. absurd (true≢false (sym h)))

  goal-sound : (body : Tree) → is_typed_goal clafers body ≡ true → is_narrow_goal clafers scopes body ≡ true → IsSoundGoal clafers scopes (lowered_goal clafers scopes body)
  goal-sound body typed narrow =
      let w = within_context None in
      let f = and_parts (is_typed clafers body w) (fits_number clafers (kind clafers body w)) typed in
      number-part clafers scopes closed once inherited intervals_hold body w [] top-stands f.0 f.1 narrow (λ n own. sound clafers scopes closed once inherited intervals_hold body w [] top-stands f.0 n own)

pub truths_sound : (model : Model) (scopes : Scopes) (truths : List CoreExpr) → is_closed model.clafers ≡ true → refers_once model.clafers ≡ true → Inherited model.clafers → IntervalsHold
    → map core truths ≡ map (λ r. lowered_law model.clafers scopes (r.context, tree r.body)) model.rules → IsTyped model → is_narrow_model scopes model ≡ true
    → All (λ x. IsSoundTruth model.clafers scopes (core x)) truths
truths_sound model scopes truths closed once inherited intervals_hold same typed narrow =
    let all_typed : list_all (λ r. is_typed_law model.clafers (law_of r)) model.rules ≡ true = typed.rules in
    let all_narrow = (and_parts (list_all (is_narrow_law model.clafers scopes) (laws_of model)) (list_all (λ g. is_narrow_goal model.clafers scopes (tree g.body)) model.goals) narrow).0 in
    All-from_recursion (λ x. IsSoundTruth model.clafers scopes (core x)) truths
    (each-mapped (IsSoundTruth model.clafers scopes) (λ r. lowered_law model.clafers scopes (law_of r)) (λ r. is_typed_law model.clafers (law_of r) && is_narrow_law model.clafers scopes (law_of r)) truths model.rules same
    (all_both (λ r. is_typed_law model.clafers (law_of r)) (λ r. is_narrow_law model.clafers scopes (law_of r)) model.rules
    all_typed (sym (list_all-map (is_narrow_law model.clafers scopes) law_of model.rules) ∙ all_narrow))
    (λ r h. let j = and_parts (is_typed_law model.clafers (law_of r)) (is_narrow_law model.clafers scopes (law_of r)) h in
    law-sound model.clafers scopes closed once inherited intervals_hold (law_of r) j.0 j.1))

pub goals_sound : (model : Model) (scopes : Scopes) (goals : List CoreExpr) → is_closed model.clafers ≡ true → refers_once model.clafers ≡ true → Inherited model.clafers → IntervalsHold
    → map core goals ≡ map (λ g. lowered_goal model.clafers scopes (tree g.body)) model.goals → IsTyped model → is_narrow_model scopes model ≡ true
    → All (λ x. IsSoundGoal model.clafers scopes (core x)) goals
goals_sound model scopes goals closed once inherited intervals_hold same typed narrow =
    let all_typed : list_all (λ g. is_typed_goal model.clafers (tree g.body)) model.goals ≡ true = typed.goals in
    let all_narrow = (and_parts (list_all (is_narrow_law model.clafers scopes) (laws_of model)) (list_all (λ g. is_narrow_goal model.clafers scopes (tree g.body)) model.goals) narrow).1 in
    All-from_recursion (λ x. IsSoundGoal model.clafers scopes (core x)) goals
    (each-mapped (IsSoundGoal model.clafers scopes) (λ g. lowered_goal model.clafers scopes (tree g.body)) (λ g. is_typed_goal model.clafers (tree g.body) && is_narrow_goal model.clafers scopes (tree g.body)) goals model.goals same
    (all_both (λ g. is_typed_goal model.clafers (tree g.body)) (λ g. is_narrow_goal model.clafers scopes (tree g.body)) model.goals all_typed all_narrow)
    (λ g h. let j = and_parts (is_typed_goal model.clafers (tree g.body)) (is_narrow_goal model.clafers scopes (tree g.body)) h in
    goal-sound model.clafers scopes closed once inherited intervals_hold (tree g.body) j.0 j.1))

-- without integers there are no numbers in the truths
pub truths_plain : (model : Model) (scopes : Scopes) (truths : List CoreExpr) → map core truths ≡ map (λ r. lowered_law model.clafers scopes (r.context, tree r.body)) model.rules → IsTyped model
    → is_without_integers model ≡ true → list_all (λ x. has_no_number (core x)) truths ≡ true
truths_plain model scopes truths same typed plain =
    let all_typed : list_all (λ r. is_typed_law model.clafers (law_of r)) model.rules ≡ true = typed.rules in
    let none = and_parts (refers_to_no_int model.clafers) (list_all (no_integers_in model.clafers) (laws_of model)) plain in
    sym (list_all-map has_no_number core truths) ∙ ap (list_all has_no_number) same
    ∙ list_all-map has_no_number (λ r. lowered_law model.clafers scopes (law_of r)) model.rules
    ∙ all_implied (λ r. is_typed_law model.clafers (law_of r) && no_integers_in model.clafers (law_of r)) (λ r. has_no_number (lowered_law model.clafers scopes (law_of r))) model.rules
    (λ r h. let j = and_parts (is_typed_law model.clafers (law_of r)) (no_integers_in model.clafers (law_of r)) h in law-plain model.clafers scopes none.0 (law_of r) j.0 j.1)
    (all_both (λ r. is_typed_law model.clafers (law_of r)) (λ r. no_integers_in model.clafers (law_of r)) model.rules
    all_typed (sym (list_all-map (no_integers_in model.clafers) law_of model.rules) ∙ none.1))
