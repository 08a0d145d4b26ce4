-- The first refusal of all parts by the first of one, and what is made where there is none.
use Rattle.std.proofs.Common.{◌≡◌, ◌<◌, ◌^◌, List, length, Option, None, ap, sym, ◌∙◌, arith}
use Rattle.std.specs.Option.{option_or}
use Rattle.clf_base.specs.declared.fault.Refusal.{Refusal}
use Rattle.clf_base.specs.declared.fault.Fault.{Fault}
use Rattle.clf_base.specs.declared.fault.Fault.TheVariants as fault
use Rattle.refusal_order.specs.Order.{first_refusal}
use Rattle.clf_tree.specs.declared.model.Clafer.{Clafer}
use Rattle.clf_tree.specs.declared.plain.PlainClafer.{PlainClafer}
use Rattle.clf_tree.specs.declared.plain.Plain.{Plain}
use Rattle.super_linker.specs.Supers.{linked}
use Rattle.family_checks.specs.Families.{parts_refusal, ExplainsParts}
use Rattle.target_finder.specs.Targets as targets
use Rattle.target_finder.specs.Targets.{target_refusals, targeted}
use Rattle.expression_names.specs.Models as names
use Rattle.expression_names.specs.Models.{rule_tree, goal_tree, looked_rule, looked_goal, name_refusals}
use Rattle.model_resolver.specs.Resolved.{resolved_clafers, clafers_refusal, refusal_of, ExplainsClafers, Explains}
use Rattle.model_resolver.proofs.Carried.{as_many_linked, as_many_resolved}

pub in_parts : (ks : List PlainClafer) (f : Fault) → ExplainsParts ks f → ExplainsClafers ks f
in_parts ks (fault.Refused r) e = ap (λ (o : Option Refusal). option_or o (first_refusal (target_refusals (linked ks) ks))) e
in_parts ks fault.NoMemory e = tt

pub in_targets : (ks : List PlainClafer) (all : List Clafer) (f : Fault) → all ≡ linked ks → parts_refusal ks ≡ None → targets.Explains all ks f → ExplainsClafers ks f
in_targets ks all (fault.Refused r) same none e =
    ap (λ (o : Option Refusal). option_or o (first_refusal (target_refusals (linked ks) ks))) none
    ∙ ap (λ (cs : List Clafer). first_refusal (target_refusals cs ks)) (sym same) ∙ e
in_targets ks all fault.NoMemory same none e = tt

pub in_clafers : (plain : Plain) (f : Fault) → ExplainsClafers plain.clafers f → Explains plain f
in_clafers plain (fault.Refused r) e = ap (λ (o : Option Refusal). option_or o (first_refusal (name_refusals (resolved_clafers plain.clafers) plain.rules plain.goals))) e
in_clafers plain fault.NoMemory e = tt

pub in_names : (plain : Plain) (all : List Clafer) (f : Fault) → all ≡ resolved_clafers plain.clafers → clafers_refusal plain.clafers ≡ None
    → names.Explains all plain.rules plain.goals f → Explains plain f
in_names plain all (fault.Refused r) same none e =
    ap (λ (o : Option Refusal). option_or o (first_refusal (name_refusals (resolved_clafers plain.clafers) plain.rules plain.goals))) none
    ∙ ap (λ (cs : List Clafer). first_refusal (name_refusals cs plain.rules plain.goals)) (sym same) ∙ e
in_names plain all fault.NoMemory same none e = tt

-- ---- nothing is refused

pub clafers_pass : (ks : List PlainClafer) (made : List Clafer) → parts_refusal ks ≡ None → made ≡ linked ks → first_refusal (target_refusals made ks) ≡ None → clafers_refusal ks ≡ None
clafers_pass ks made none same e =
    ap (λ (o : Option Refusal). option_or o (first_refusal (target_refusals (linked ks) ks))) none
    ∙ ap (λ (cs : List Clafer). first_refusal (target_refusals cs ks)) (sym same) ∙ e

pub plain_passes : (plain : Plain) (all : List Clafer) → clafers_refusal plain.clafers ≡ None → all ≡ resolved_clafers plain.clafers → first_refusal (name_refusals all plain.rules plain.goals) ≡ None
    → refusal_of plain ≡ None
plain_passes plain all none same e =
    ap (λ (o : Option Refusal). option_or o (first_refusal (name_refusals (resolved_clafers plain.clafers) plain.rules plain.goals))) none
    ∙ ap (λ (cs : List Clafer). first_refusal (name_refusals cs plain.rules plain.goals)) (sym same) ∙ e

-- ---- what is made

pub as_resolved : (ks : List PlainClafer) (made all : List Clafer) → made ≡ linked ks → all ≡ targeted made ks → all ≡ resolved_clafers ks
as_resolved ks made all same e = e ∙ ap (λ (cs : List Clafer). targeted cs ks) same

pub few_linked : (ks : List PlainClafer) (made : List Clafer) → made ≡ linked ks → length ks < 2 ^ 32 → length made < 2 ^ 32
few_linked ks made same few = let long : length made ≡ length ks = ap length same ∙ as_many_linked ks in omega (arith, long, few)

pub same_many : (ks : List PlainClafer) (made : List Clafer) → made ≡ linked ks → length ks ≡ length made
same_many ks made same = sym (ap length same ∙ as_many_linked ks)

pub few_resolved : (ks : List PlainClafer) (all : List Clafer) → all ≡ resolved_clafers ks → length ks < 2 ^ 32 → length all < 2 ^ 32
few_resolved ks all same few = let long : length all ≡ length ks = ap length same ∙ as_many_resolved ks in omega (arith, long, few)
