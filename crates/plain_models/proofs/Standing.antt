-- Where nothing is refused of a plain model, bounds are right, abstract clafers stand at top level, and names differ.
use Rattle.std.proofs.Common.{◌≡◌, ℕ, Bool, true, false, not, ◌&&◌, ◌||◌, List, [], ◌∷◌, ◌++◌, map, Option, Some, None, refl, ap, sym, ◌∙◌}
use Rattle.std.specs.Prelude.{nat_eq, bytes_eq, is_some, is_none, if◌then◌else◌}
use Rattle.std.specs.Option.{option_eq}
use Rattle.std.specs.List.{list_any, list_all}
use Rattle.std.specs.Cmp.{nat_eq_equiv}
use Rattle.std.specs.Cmp.Lexicographic.{options_equiv, nat_list_eq_equiv}
use Rattle.std.proofs.lemmas.Bool.{true≢false, and_from}
use Rattle.std.proofs.lemmas.List.Folds.{list_any-append}
use Rattle.clf_base.specs.declared.fault.Span.{Span}
use Rattle.clf_base.specs.declared.fault.Refusal.{Refusal}
use Rattle.refusal_order.specs.Order.{refused}
use Rattle.clf_tree.specs.declared.token.Title.{Title}
use Rattle.clf_tree.specs.declared.plain.Plain.{Plain}
use Rattle.clf_tree.specs.declared.plain.PlainClafer.{PlainClafer}
use Rattle.clf_tree.specs.Lists.{each_two}
use Rattle.clf_tree.specs.Named.{is_wrong, differ, has_bounds, is_placed, are_told_apart}
use Rattle.clafer_desugar.specs.Refusals.{refused_if, bounds_refusals, stands_at, refusals_of, clafers_refusals, names_refusals, rules_refusals, goals_refusals}
use Rattle.super_linker.specs.Supers.{linked_clafer, linked}
use Rattle.plain_models.specs.Known.{IsPlain, StandsWell}

both_none : (xs ys : List Refusal) → xs ++ ys ≡ [] → (xs ≡ []) × (ys ≡ [])
both_none [] ys e = (refl, e)
both_none (x ∷ xs) ys e = (cc)

not_met : (met : Bool) (code : ℕ) (at : Span) → refused_if met code at ≡ [] → met ≡ false
not_met true code at e = (cc)
not_met false code at e = refl

both_right : (a b : Bool) (r s : Refusal) → (if a then r ∷ [] else (if b then s ∷ [] else [])) ≡ [] → (not a && not b) ≡ true
both_right true b r s e = (cc)
both_right false true r s e = (cc)
both_right false false r s e = refl

bounds_right : (k : PlainClafer) → bounds_refusals k ≡ [] → (not (is_wrong k.group) && not (is_wrong k.times)) ≡ true
bounds_right k e = both_right (is_wrong k.group) (is_wrong k.times) (refused 50 k.title.at k.group.low) (refused 50 k.title.at k.times.low) e

placed_by : (abstract : Bool) (parent : Option ℕ) → (abstract && is_some parent) ≡ false → (not abstract || is_none parent) ≡ true
placed_by true None e = refl
placed_by true (Some p) e = (cc)
placed_by false parent e = refl

-- of one clafer, given those before it
record Right (before : List PlainClafer) (k : PlainClafer) : Type 0 where
  bounded : (not (is_wrong k.group) && not (is_wrong k.times)) ≡ true
  fresh : list_any (stands_at k.parent k.title.name) before ≡ false
  placed : (not k.is_abstract || is_none k.parent) ≡ true

right : (before : List PlainClafer) (k : PlainClafer) → refusals_of (list_any (stands_at k.parent k.title.name) before) k ≡ [] → Right before k
right before k e =
    let repeats = list_any (stands_at k.parent k.title.name) before in
    let nested : Bool = k.is_abstract && is_some k.parent in
    let parts = both_none (bounds_refusals k) (refused_if repeats 51 k.title.at ++ refused_if nested 52 k.at) e in
    let rest = both_none (refused_if repeats 51 k.title.at) (refused_if nested 52 k.at) parts.1 in
    record {
      bounded = bounds_right k parts.0;
      fresh = not_met repeats 51 k.title.at rest.0;
      placed = placed_by k.is_abstract k.parent (not_met nested 52 k.at rest.1);
    }

parted : (before : List PlainClafer) (k : PlainClafer) (ks : List PlainClafer) → clafers_refusals before (k ∷ ks) ≡ [] → Right before k × (clafers_refusals (before ++ k ∷ []) ks ≡ [])
parted before k ks e =
    let parts = both_none (refusals_of (list_any (stands_at k.parent k.title.name) before) k) (clafers_refusals (before ++ k ∷ []) ks) e in
    (right before k parts.0, parts.1)

all_bounded : (all before ks : List PlainClafer) → clafers_refusals before ks ≡ [] → list_all has_bounds (map (linked_clafer all) ks) ≡ true
all_bounded all before [] e = refl
all_bounded all before (k ∷ ks) e =
    let parts = parted before k ks e in
    and_from (has_bounds (linked_clafer all k)) (list_all has_bounds (map (linked_clafer all) ks)) parts.0.bounded (all_bounded all (before ++ k ∷ []) ks parts.1)

all_placed : (all before ks : List PlainClafer) → clafers_refusals before ks ≡ [] → list_all is_placed (map (linked_clafer all) ks) ≡ true
all_placed all before [] e = refl
all_placed all before (k ∷ ks) e =
    let parts = parted before k ks e in
    and_from (is_placed (linked_clafer all k)) (list_all is_placed (map (linked_clafer all) ks)) parts.0.placed (all_placed all (before ++ k ∷ []) ks parts.1)

-- ---- names

or_true : (b : Bool) → (b || true) ≡ true
or_true true = refl
or_true false = refl

-- what passes for x passes for one of those before
abbrev Among : List PlainClafer → PlainClafer → Type 0
Among before x = (p : Option ℕ) (n : List ℕ) → stands_at p n x ≡ true → list_any (stands_at p n) before ≡ true

among_more : (before : List PlainClafer) (x k : PlainClafer) → Among before x → Among (before ++ k ∷ []) x
among_more before x k in_before p n stands = list_any-append (stands_at p n) before (k ∷ []) ∙ ap (λ b. b || list_any (stands_at p n) (k ∷ [])) (in_before p n stands)

among_last : (before : List PlainClafer) (k : PlainClafer) → Among (before ++ k ∷ []) k
among_last before k p n stands =
    list_any-append (stands_at p n) before (k ∷ []) ∙ ap (λ b. list_any (stands_at p n) before || (b || false)) stands ∙ or_true (list_any (stands_at p n) before)

by_test : (before : List PlainClafer) (x k : PlainClafer) (b : Bool) → Among before x → list_any (stands_at k.parent k.title.name) before ≡ false → stands_at k.parent k.title.name x ≡ b → b ≡ false
by_test before x k false in_before fresh e = refl
by_test before x k true in_before fresh e = absurd (true≢false (sym (in_before k.parent k.title.name e) ∙ fresh))

apart : (before : List PlainClafer) (x k : PlainClafer) → Among before x → list_any (stands_at k.parent k.title.name) before ≡ false
    → not (option_eq nat_eq x.parent k.parent && bytes_eq x.title.name k.title.name) ≡ true
apart before x k in_before fresh =
    ap not (ap (λ b. b && bytes_eq x.title.name k.title.name) ((options_equiv nat_eq_equiv).symm x.parent k.parent) ∙ ap (λ b. option_eq nat_eq k.parent x.parent && b) (nat_list_eq_equiv.symm x.title.name k.title.name)
    ∙ by_test before x k (stands_at k.parent k.title.name x) in_before fresh refl)

later_apart : (all before ks : List PlainClafer) (x : PlainClafer) → Among before x → clafers_refusals before ks ≡ [] → list_all (are_told_apart (linked_clafer all x)) (map (linked_clafer all) ks) ≡ true
later_apart all before [] x in_before e = refl
later_apart all before (k ∷ ks) x in_before e =
    let parts = parted before k ks e in
    and_from (are_told_apart (linked_clafer all x) (linked_clafer all k)) (list_all (are_told_apart (linked_clafer all x)) (map (linked_clafer all) ks))
    (apart before x k in_before parts.0.fresh) (later_apart all (before ++ k ∷ []) ks x (among_more before x k in_before) parts.1)

all_apart : (all before ks : List PlainClafer) → clafers_refusals before ks ≡ [] → each_two are_told_apart (map (linked_clafer all) ks) ≡ true
all_apart all before [] e = refl
all_apart all before (k ∷ ks) e =
    let parts = parted before k ks e in
    and_from (list_all (are_told_apart (linked_clafer all k)) (map (linked_clafer all) ks)) (each_two are_told_apart (map (linked_clafer all) ks))
    (later_apart all (before ++ k ∷ []) ks k (among_last before k) parts.1) (all_apart all (before ++ k ∷ []) ks parts.1)

pub stands_well : (plain : Plain) → IsPlain plain → StandsWell (linked plain.clafers)
stands_well plain known =
    let none = (both_none (clafers_refusals [] plain.clafers) (rules_refusals plain.rules ++ goals_refusals plain.goals) known.unrefused).0 in
    record {
      bounded = all_bounded plain.clafers [] plain.clafers none;
      placed = all_placed plain.clafers [] plain.clafers none;
      told_apart = all_apart plain.clafers [] plain.clafers none;
    }

-- ---- names of a quantifier

abbrev HasName : List Title → Title → Type 0
HasName before x = (n : List ℕ) → bytes_eq n x.name ≡ true → list_any (λ u. bytes_eq n u.name) before ≡ true

name_more : (before : List Title) (x t : Title) → HasName before x → HasName (before ++ t ∷ []) x
name_more before x t has n same = list_any-append (λ u. bytes_eq n u.name) before (t ∷ []) ∙ ap (λ b. b || list_any (λ u. bytes_eq n u.name) (t ∷ [])) (has n same)

name_last : (before : List Title) (t : Title) → HasName (before ++ t ∷ []) t
name_last before t n same =
    list_any-append (λ u. bytes_eq n u.name) before (t ∷ []) ∙ ap (λ b. list_any (λ u. bytes_eq n u.name) before || (b || false)) same ∙ or_true (list_any (λ u. bytes_eq n u.name) before)

name_test : (before : List Title) (x t : Title) (b : Bool) → HasName before x → list_any (λ u. bytes_eq t.name u.name) before ≡ false → bytes_eq t.name x.name ≡ b → b ≡ false
name_test before x t false has fresh e = refl
name_test before x t true has fresh e = absurd (true≢false (sym (has t.name e) ∙ fresh))

later_differ : (before ts : List Title) (x : Title) → HasName before x → names_refusals before ts ≡ [] → list_all (differ x) ts ≡ true
later_differ before [] x has e = refl
later_differ before (t ∷ ts) x has e =
    let repeats = list_any (λ u. bytes_eq t.name u.name) before in
    let parts = both_none (refused_if repeats 51 t.at) (names_refusals (before ++ t ∷ []) ts) e in
    and_from (differ x t) (list_all (differ x) ts)
    (ap not (nat_list_eq_equiv.symm x.name t.name ∙ name_test before x t (bytes_eq t.name x.name) has (not_met repeats 51 t.at parts.0) refl))
    (later_differ (before ++ t ∷ []) ts x (name_more before x t has) parts.1)

all_differ : (before ts : List Title) → names_refusals before ts ≡ [] → each_two differ ts ≡ true
all_differ before [] e = refl
all_differ before (t ∷ ts) e =
    let parts = both_none (refused_if (list_any (λ u. bytes_eq t.name u.name) before) 51 t.at) (names_refusals (before ++ t ∷ []) ts) e in
    and_from (list_all (differ t) ts) (each_two differ ts) (later_differ (before ++ t ∷ []) ts t (name_last before t) parts.1) (all_differ (before ++ t ∷ []) ts parts.1)

pub names_apart : (names : List Title) → names_refusals [] names ≡ [] → each_two differ names ≡ true
names_apart names e = all_differ [] names e
