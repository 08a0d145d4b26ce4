-- What is known where nothing is refused, and both parts in their order.
use Rattle.std.proofs.Common.{◌≡◌, ◌≢◌, ℕ, zero, suc, ◌+◌, ◌-◌, ◌<◌, ◌≤◌, Bool, true, false, not, ◌&&◌, ◌||◌, List, [], ◌∷◌, ◌++◌, length, Option, Some, None, refl, ap, sym, ◌∙◌, arith, ◌⊎◌, inl, inr}
use Rattle.std.specs.Prelude.{slice_get, eqb, is_some, if◌then◌else◌}
use Rattle.std.specs.Option.{option_map_or, option_and_then, option_or}
use Rattle.std.specs.List.{flat_map, filter_map, cons_option, list_all, range_with_len}
use Rattle.std.proofs.lemmas.Bool.{true≢false, not-true, ne_eqb}
use Rattle.std.proofs.lemmas.Bool.Decides.{eqb_tells}
use Rattle.clf_base.specs.declared.fault.Span.{Span}
use Rattle.clf_base.specs.declared.fault.Refusal.{Refusal}
use Rattle.clf_base.specs.declared.fault.Fault.{Fault}
use Rattle.clf_base.specs.declared.fault.Fault.TheVariants as fault
use Rattle.refusal_order.specs.Order.{is_before, with_refusals, first_refusal}
use Rattle.clf_tree.specs.declared.model.Reference.{Reference}
use Rattle.clf_tree.specs.declared.model.Clafer.{Clafer}
use Rattle.clf_tree.specs.declared.plain.PlainClafer.{PlainClafer}
use Rattle.clf_tree.specs.Lists.{has, numbers_below}
use Rattle.clf_tree.specs.Hierarchy.{super_of, way_up, with_supers, is_a, own_reference, reference_of}
use Rattle.clf_tree.specs.Named.{contains_itself, repeats_inherited}
use Rattle.super_linker.specs.Supers.{refused_if, linked, supers_refusals, Explains as ExplainsSupers}
use Rattle.family_checks.specs.Families.{inherits_reference, reference_refusals, refusals_at, clafer_refusals, family_refusals, IsFamily, Explains, parts_refusal, ExplainsParts}
use Rattle.family_checks.proofs.Found.{get_below}
use Rattle.family_checks.proofs.WaysUp.{longer}

-- ---- nothing is refused

either : (x f : Refusal) (rs : List Refusal) (b : Bool) → ((y : Refusal) → with_refusals (Some y) rs ≡ None → ⊥) → with_refusals (if b then Some x else Some f) rs ≡ None → ⊥
either x f rs true go e = go x e
either x f rs false go e = go f e

stays : (rs : List Refusal) (f : Refusal) → with_refusals (Some f) rs ≡ None → ⊥
stays [] f e = (cc)
stays (x ∷ rs) f e = either x f rs (is_before x f) (λ y. stays rs y) e

none_refused : (rs : List Refusal) → first_refusal rs ≡ None → rs ≡ []
none_refused [] e = refl
none_refused (x ∷ rs) e = absurd (stays rs x e)

both_none : (xs ys : List Refusal) → xs ++ ys ≡ [] → (xs ≡ []) × (ys ≡ [])
both_none [] ys e = (refl, e)
both_none (x ∷ xs) ys e = (cc)

not_met : (met : Bool) (code : ℕ) (at : Span) → refused_if met code at ≡ [] → not met ≡ true
not_met true code at e = (cc)
not_met false code at e = refl

range_pass : (f : ℕ → List Refusal) (test : ℕ → Bool) (n a m : ℕ) → a + m ≤ n → ((c : ℕ) → c < n → f c ≡ [] → test c ≡ true) → flat_map f (range_with_len a m) ≡ [] → list_all test (range_with_len a m) ≡ true
range_pass f test n a zero within each e = refl
range_pass f test n a (suc m) within each e =
    let parts = both_none (f a) (flat_map f (range_with_len (a + 1) m)) e in
    ap (λ b. b && list_all test (range_with_len (a + 1) m)) (each a (omega (arith, within)) parts.0) ∙ range_pass f test n (a + 1) m (omega (arith, within)) each parts.1

all_true : (test : ℕ → Bool) → ((c : ℕ) → test c ≡ true) → (xs : List ℕ) → list_all test xs ≡ true
all_true test each [] = refl
all_true test each (x ∷ xs) = ap (λ b. b && list_all test xs) (each x) ∙ all_true test each xs

-- ---- a clafer of which nothing is refused

record Clear (clafers : List Clafer) (c : ℕ) : Type 0 where
  contained : not (contains_itself clafers c) ≡ true
  refers : is_some (own_reference clafers c) ≡ true → inherits_reference clafers c ≡ false
  repeats : not (repeats_inherited clafers c) ≡ true

reference_clear : (clafers : List Clafer) (c : ℕ) (r : Option Reference) → reference_refusals clafers c r ≡ [] → is_some r ≡ true → inherits_reference clafers c ≡ false
reference_clear clafers c None e some = absurd (true≢false (sym some))
reference_clear clafers c (Some r) e some = not-true (inherits_reference clafers c) (not_met (inherits_reference clafers c) 65 r.at e)

clear_at : (clafers : List Clafer) (c : ℕ) → c < length clafers → clafer_refusals clafers c ≡ [] → Clear clafers c
clear_at clafers c within e =
    let g = get_below clafers c within in
    let k = g.item in
    let ys = reference_refusals clafers c k.reference in
    let zs = refused_if (repeats_inherited clafers c) 68 k.title.at in
    let here : refusals_at clafers c k ≡ [] = ap (λ (z : Option Clafer). option_map_or (refusals_at clafers c) z []) (sym g.at) ∙ e in
    let parts = both_none (refused_if (contains_itself clafers c) 64 k.title.at) (ys ++ zs) here in
    let rest = both_none ys zs parts.1 in
    record {
      contained = not_met (contains_itself clafers c) 64 k.title.at parts.0;
      refers = λ some. reference_clear clafers c k.reference rest.0 (ap (λ (z : Option Clafer). is_some (option_and_then (λ x. x.reference) z)) (sym g.at) ∙ some);
      repeats = not_met (repeats_inherited clafers c) 68 k.title.at rest.1;
    }

-- ---- one reference

above_by : (f : ℕ → Option Reference) (xs : List ℕ) (x y : ℕ) (r : Option Reference) → f x ≡ r → is_some (f y) ≡ true → ((eqb y x ≡ true) × (y ≡ x)) ⊎ ((eqb y x ≡ false) × (y ≢ x))
    → (eqb y x || has xs y) ≡ true → (has xs y ≡ true → is_some (slice_get (filter_map f xs) 0) ≡ true) → is_some (slice_get (cons_option r (filter_map f xs)) 0) ≡ true
above_by f xs x y (Some r) e own tells met rest = refl
above_by f xs x y None e own (inl h) met rest = absurd (true≢false (sym own ∙ ap (λ (z : ℕ). is_some (f z)) h.1 ∙ ap is_some e))
above_by f xs x y None e own (inr h) met rest = rest (ap (λ b. b || has xs y) (sym h.0) ∙ met)

reference_above : (f : ℕ → Option Reference) (xs : List ℕ) (y : ℕ) → has xs y ≡ true → is_some (f y) ≡ true → is_some (slice_get (filter_map f xs) 0) ≡ true
reference_above f [] y met own = absurd (true≢false (sym met))
reference_above f (x ∷ xs) y met own = above_by f xs x y (f x) refl own (eqb_tells y x) met (λ m. reference_above f xs y m own)

through_super : (clafers : List Clafer) (z y m : ℕ) (next : Option ℕ) → length clafers ≡ suc m → super_of clafers z ≡ next → inherits_reference clafers z ≡ false → is_some (own_reference clafers y) ≡ true
    → has (option_map_or (way_up clafers m) next []) y ≡ true → ⊥
through_super clafers z y m None size e alone own met = true≢false (sym met)
through_super clafers z y m (Some s) size e alone own met =
    let up : has (with_supers clafers s) y ≡ true = ap (λ (n : ℕ). has (way_up clafers n s) y) size ∙ longer clafers (eqb y) m s met in
    let refers = reference_above (own_reference clafers) (with_supers clafers s) y up own in
    let none : is_some (reference_of clafers s) ≡ false = ap (λ (q : Option ℕ). option_map_or (λ x. is_some (reference_of clafers x)) q false) (sym e) ∙ alone in
    true≢false (sym refers ∙ none)

same_one : (clafers : List Clafer) (z y : ℕ) → z < length clafers → inherits_reference clafers z ≡ false → is_some (own_reference clafers y) ≡ true → is_a clafers z y ≡ true
    → ((eqb z y ≡ true) × (z ≡ y)) ⊎ ((eqb z y ≡ false) × (z ≢ y)) → eqb z y ≡ true
same_one clafers z y within alone own under (inl h) = h.0
same_one clafers z y within alone own under (inr h) =
    let m = length clafers - 1 in
    let size : length clafers ≡ suc m = omega (arith, within) in
    let longest : has (way_up clafers (suc m) z) y ≡ true = ap (λ (n : ℕ). has (way_up clafers n z) y) (sym size) ∙ under in
    let apart : eqb y z ≡ false = ne_eqb y z (λ e. h.1 (sym e)) in
    absurd (through_super clafers z y m (super_of clafers z) size refl alone own (ap (λ b. b || has (option_map_or (way_up clafers m) (super_of clafers z) []) y) (sym apart) ∙ longest))

by_parts : (a b c d : Bool) → (a ≡ true → b ≡ true → c ≡ true → d ≡ true) → (not (a && b && c) || d) ≡ true
by_parts true true true d f = f refl refl refl
by_parts true true false d f = refl
by_parts true false c d f = refl
by_parts false b c d f = refl

refers_test : (clafers : List Clafer) (z : ℕ) → z < length clafers → Clear clafers z → (y : ℕ)
    → (not (is_a clafers z y && is_some (own_reference clafers z) && is_some (own_reference clafers y)) || eqb z y) ≡ true
refers_test clafers z within clear y =
    by_parts (is_a clafers z y) (is_some (own_reference clafers z)) (is_some (own_reference clafers y)) (eqb z y)
    (λ under mine own. same_one clafers z y within (clear.refers mine) own under (eqb_tells z y))

-- ---- all of it

family_known : (clafers : List Clafer) → family_refusals clafers ≡ [] → IsFamily clafers
family_known clafers none =
    let n = length clafers in
    record {
      contains_no_cycle = range_pass (clafer_refusals clafers) (λ c. not (contains_itself clafers c)) n 0 n (omega arith) (λ c within e. (clear_at clafers c within e).contained) none;
      refers = range_pass (clafer_refusals clafers)
          (λ z. list_all (λ y. not (is_a clafers z y && is_some (own_reference clafers z) && is_some (own_reference clafers y)) || eqb z y) (numbers_below n)) n 0 n (omega arith)
          (λ z within e. all_true (λ y. not (is_a clafers z y && is_some (own_reference clafers z) && is_some (own_reference clafers y)) || eqb z y) (refers_test clafers z within (clear_at clafers z within e)) (numbers_below n)) none;
      inherits_apart = range_pass (clafer_refusals clafers) (λ c. not (repeats_inherited clafers c)) n 0 n (omega arith) (λ c within e. (clear_at clafers c within e).repeats) none;
    }

pub family_at : (clafers : List Clafer) (r : Option Refusal) → r ≡ first_refusal (family_refusals clafers) → r ≡ None → IsFamily clafers
family_at clafers r is none = family_known clafers (none_refused (family_refusals clafers) (sym is ∙ none))

-- ---- both parts

pub parts_first : (ks : List PlainClafer) (f : Fault) → ExplainsSupers ks f → ExplainsParts ks f
parts_first ks (fault.Refused r) e = ap (λ z. option_or z (first_refusal (family_refusals (linked ks)))) e
parts_first ks fault.NoMemory e = tt

pub parts_second : (ks : List PlainClafer) (cs : List Clafer) (f : Fault) → first_refusal (supers_refusals ks) ≡ None → cs ≡ linked ks → Explains cs f → ExplainsParts ks f
parts_second ks cs (fault.Refused r) none same e =
    ap (λ z. option_or z (first_refusal (family_refusals (linked ks)))) none ∙ ap (λ (ds : List Clafer). first_refusal (family_refusals ds)) (sym same) ∙ e
parts_second ks cs fault.NoMemory none same e = tt

pub parts_none : (ks : List PlainClafer) (cs : List Clafer) → first_refusal (supers_refusals ks) ≡ None → cs ≡ linked ks → first_refusal (family_refusals cs) ≡ None → parts_refusal ks ≡ None
parts_none ks cs none same e =
    ap (λ z. option_or z (first_refusal (family_refusals (linked ks)))) none ∙ ap (λ (ds : List Clafer). first_refusal (family_refusals ds)) (sym same) ∙ e

pub ruleset parts_facts = (parts_first, parts_second, parts_none)
