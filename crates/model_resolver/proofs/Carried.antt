-- What is known of clafers without targets is known of them with their targets.
use Rattle.std.proofs.Common.{◌≡◌, ℕ, suc, ◌+◌, ◌≤◌, arith, ◌&&◌, Bool, true, false, List, [], ◌∷◌, length, map, Option, Some, None, refl, ap, sym, subst, ◌∙◌}
use Rattle.std.specs.Prelude.{IsTrue}
use Rattle.std.specs.Option.{option_map}
use Rattle.std.specs.List.{list_all}
use Rattle.std.proofs.lemmas.Bool.{true≢false, lt-ltb, ltb-true}
use Rattle.clf_tree.specs.declared.module.Pointer.{Pointer}
use Rattle.clf_tree.specs.declared.model.Clafer.{Clafer}
use Rattle.clf_tree.specs.declared.model.Reference.{Reference}
use Rattle.clf_tree.specs.declared.plain.PlainClafer.{PlainClafer}
use Rattle.clf_tree.specs.declared.plain.Plain.{Plain}
use Rattle.clf_tree.specs.Lists.{each_two}
use Rattle.clf_tree.specs.Hierarchy.{is_below, is_closed}
use Rattle.clf_tree.specs.Named.{has_name, has_bounds, is_placed, are_told_apart}
use Rattle.super_linker.specs.Supers.{parents_first, linked_clafer, linked, unlinked, InheritsWell}
use Rattle.family_checks.specs.Families.{untargeted, without_target, IsFamily}
use Rattle.plain_models.specs.Known.{IsPlain, StandsWell}
use Rattle.plain_models.specs.Written.{is_titled, IsWritten}
use Rattle.target_finder.specs.Targets.{refers_to, target_of, with_target, with_targets, targeted}
use Rattle.model_resolver.specs.Resolved.{resolved_clafers, IsModel}

pub both : (a b : Bool) → (a && b) ≡ true → (a ≡ true) × (b ≡ true)
both true b h = (refl, h)
both false b h = absurd (true≢false (sym h))

pub together : (a b : Bool) → a ≡ true → b ≡ true → (a && b) ≡ true
together a b p q = ap (λ z. z && b) p ∙ q

-- ---- a test that a target does not change

untouched : (p : Clafer → Bool) → ((t : Option ℕ) (k : Clafer) → p k ≡ p (with_target t k)) → (ts : List (Option ℕ)) (ks : List Clafer) → list_all p ks ≡ true
    → list_all p (with_targets ts ks) ≡ true
untouched p same [] ks met = met
untouched p same (t ∷ ts) [] met = refl
untouched p same (t ∷ ts) (k ∷ ks) met =
    let parts = both (p k) (list_all p ks) met in
    together (p (with_target t k)) (list_all p (with_targets ts ks)) (sym (same t k) ∙ parts.0) (untouched p same ts ks parts.1)

told_apart : (ts : List (Option ℕ)) (ks : List Clafer) → each_two are_told_apart ks ≡ true → each_two are_told_apart (with_targets ts ks) ≡ true
told_apart [] ks met = met
told_apart (t ∷ ts) [] met = refl
told_apart (t ∷ ts) (k ∷ ks) met =
    let parts = both (list_all (are_told_apart k) ks) (each_two are_told_apart ks) met in
    together (list_all (are_told_apart (with_target t k)) (with_targets ts ks)) (each_two are_told_apart (with_targets ts ks))
    (untouched (are_told_apart k) (λ s j. refl) ts ks parts.0) (told_apart ts ks parts.1)

titled : (all ks : List PlainClafer) → list_all is_titled ks ≡ true → list_all has_name (map (linked_clafer all) ks) ≡ true
titled all [] met = refl
titled all (k ∷ ks) met =
    let parts = both (is_titled k) (list_all is_titled ks) met in
    together (has_name (linked_clafer all k)) (list_all has_name (map (linked_clafer all) ks)) parts.0 (titled all ks parts.1)

-- ---- without its target, a clafer is as it was linked

unlinked_again : (t : Option ℕ) (o : Option Pointer) → option_map untargeted (option_map (refers_to t) (option_map unlinked o)) ≡ option_map unlinked o
unlinked_again t None = refl
unlinked_again t (Some p) = refl

unlinked_still : (o : Option Pointer) → option_map untargeted (option_map unlinked o) ≡ option_map unlinked o
unlinked_still None = refl
unlinked_still (Some p) = refl

as_linked : (all : List PlainClafer) (ts : List (Option ℕ)) (ks : List PlainClafer) → map without_target (with_targets ts (map (linked_clafer all) ks)) ≡ map (linked_clafer all) ks
as_linked all [] [] = refl
as_linked all (t ∷ ts) [] = refl
as_linked all [] (k ∷ ks) =
    ap (λ (o : Option Reference). record (linked_clafer all k) { reference = o } ∷ map without_target (map (linked_clafer all) ks)) (unlinked_still k.reference)
    ∙ ap (λ cs. linked_clafer all k ∷ cs) (as_linked all [] ks)
as_linked all (t ∷ ts) (k ∷ ks) =
    ap (λ (o : Option Reference). record (linked_clafer all k) { reference = o } ∷ map without_target (with_targets ts (map (linked_clafer all) ks))) (unlinked_again t k.reference)
    ∙ ap (λ cs. linked_clafer all k ∷ cs) (as_linked all ts ks)

-- ---- as many

linked_length : (all ks : List PlainClafer) → length (map (linked_clafer all) ks) ≡ length ks
linked_length all [] = refl
linked_length all (k ∷ ks) = ap suc (linked_length all ks)

as_long : (ts : List (Option ℕ)) (cs : List Clafer) → length (with_targets ts cs) ≡ length cs
as_long [] cs = refl
as_long (t ∷ ts) [] = refl
as_long (t ∷ ts) (c ∷ cs) = ap suc (as_long ts cs)

pub as_many_linked : (ks : List PlainClafer) → length (linked ks) ≡ length ks
as_many_linked ks = linked_length ks ks

pub as_many_resolved : (ks : List PlainClafer) → length (resolved_clafers ks) ≡ length ks
unfolding targeted
as_many_resolved ks = as_long (map (target_of (linked ks)) ks) (linked ks) ∙ linked_length ks ks

-- ---- all of it

abbrev pub KeepsInheritance : Type 0
KeepsInheritance = (clafers : List Clafer) → IsTrue (is_closed clafers) → InheritsWell (map without_target clafers) → InheritsWell clafers

abbrev pub KeepsFamily : Type 0
KeepsFamily = (clafers : List Clafer) → IsFamily (map without_target clafers) → IsFamily clafers

abbrev pub LinksStanding : Type 0
LinksStanding = (plain : Plain) → IsPlain plain → StandsWell (linked plain.clafers)

model_of : KeepsInheritance → KeepsFamily → LinksStanding → (plain : Plain) → IsWritten plain → IsTrue (is_closed (resolved_clafers plain.clafers)) → InheritsWell (linked plain.clafers)
    → IsFamily (linked plain.clafers) → IsModel (resolved_clafers plain.clafers)
unfolding targeted
model_of inherits family standing plain written closed well kin =
    let ks = plain.clafers in
    let ts = map (target_of (linked ks)) ks in
    let same = as_linked ks ts ks in
    let stands = standing plain written.known in
    record {
      inherits = inherits (with_targets ts (linked ks)) closed (subst (λ (cs : List Clafer). InheritsWell cs) (sym same) well);
      family = family (with_targets ts (linked ks)) (subst (λ (cs : List Clafer). IsFamily cs) (sym same) kin);
      stands = record {
        bounded = untouched has_bounds (λ t k. refl) ts (linked ks) stands.bounded;
        placed = untouched is_placed (λ t k. refl) ts (linked ks) stands.placed;
        told_apart = told_apart ts (linked ks) stands.told_apart;
      };
      named = untouched has_name (λ t k. refl) ts (linked ks) (titled ks ks written.named);
    }

pub is_model : KeepsInheritance → KeepsFamily → LinksStanding → (plain : Plain) → IsWritten plain → (made all : List Clafer) → made ≡ linked plain.clafers → all ≡ resolved_clafers plain.clafers
    → IsTrue (is_closed all) → InheritsWell made → IsFamily made → IsModel all
is_model inherits family standing plain written made all as_made as_all closed well kin =
    subst (λ (cs : List Clafer). IsModel cs) (sym as_all)
    (model_of inherits family standing plain written (subst (λ (cs : List Clafer). IsTrue (is_closed cs)) as_all closed) (subst (λ (cs : List Clafer). InheritsWell cs) as_made well)
    (subst (λ (cs : List Clafer). IsFamily cs) as_made kin))

-- ---- parents and contexts

wider : (n m : ℕ) (o : Option ℕ) → n ≤ m → is_below n o ≡ true → is_below m o ≡ true
wider n m None le h = refl
wider n m (Some d) le h = let low = ltb-true d n h in lt-ltb d m (omega (arith, low, le))

parents_in : (c n : ℕ) (ks : List PlainClafer) → c + length ks ≤ n → parents_first c ks ≡ true → list_all (λ k. is_below n k.parent) ks ≡ true
parents_in c n [] le h = refl
parents_in c n (k ∷ ks) le h =
    let parts = both (is_below c k.parent) (parents_first (c + 1) ks) h in
    together (is_below n k.parent) (list_all (λ j. is_below n j.parent) ks) (wider c n k.parent (omega (arith, le)) parts.0) (parents_in (c + 1) n ks (omega (arith, le)) parts.1)

-- the parent of each plain clafer is among the linked ones
pub parents_linked : (ks : List PlainClafer) (made : List Clafer) → made ≡ linked ks → IsTrue (parents_first 0 ks) → IsTrue (list_all (λ k. is_below (length made) k.parent) ks)
parents_linked ks made as_made first_ones =
    let same : length made ≡ length ks = ap length as_made ∙ as_many_linked ks in
    parents_in 0 (length made) ks (omega (arith, same)) first_ones

-- the context of each rule is among the resolved ones
pub contexts_resolved : (plain : Plain) (all : List Clafer) → all ≡ resolved_clafers plain.clafers → IsPlain plain → IsTrue (list_all (λ r. is_below (length all) r.context) plain.rules)
contexts_resolved plain all as_all known =
    let same : length plain.clafers ≡ length all = sym (as_many_resolved plain.clafers) ∙ ap length (sym as_all) in
    subst (λ (n : ℕ). list_all (λ r. is_below n r.context) plain.rules ≡ true) same known.contexts
