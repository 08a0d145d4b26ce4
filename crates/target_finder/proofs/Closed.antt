-- The targets are clafers of the model.
use Rattle.std.proofs.Common.{◌≡◌, ℕ, zero, suc, ◌-◌, ◌&&◌, Bool, true, false, List, [], ◌∷◌, length, map, Option, Some, None, refl, ap, sym, subst, ◌∙◌}
use Rattle.std.specs.Prelude.{slice_get, nat_lt, IsTrue}
use Rattle.std.specs.Option.{option_map, option_and_then}
use Rattle.std.specs.List.{list_all}
use Rattle.std.proofs.lemmas.Bool.{true≢false}
use Rattle.clf_tree.specs.declared.token.Title.{Title}
use Rattle.clf_tree.specs.declared.model.Clafer.{Clafer}
use Rattle.clf_tree.specs.declared.model.Reference.{Reference}
use Rattle.clf_tree.specs.declared.plain.PlainClafer.{PlainClafer}
use Rattle.clf_tree.specs.Hierarchy.{is_below, names_below, is_closed}
use Rattle.clf_tree.specs.Named.{each, follows_parent}
use Rattle.name_resolver.specs.declared.outside.Found.{Found}
use Rattle.name_resolver.specs.declared.outside.Found.TheVariants as found
use Rattle.name_resolver.specs.declared.steps.Meant.TheVariants as meant
use Rattle.name_resolver.specs.Meaning.{meaning_of, MeansOne, is_there, MeansThere}
use Rattle.target_finder.specs.Targets.{clafer_of, target_of, title_of, refers_to, with_target, with_targets, targeted}

both : (a b : Bool) → (a && b) ≡ true → (a ≡ true) × (b ≡ true)
both true b h = (refl, h)
both false b h = absurd (true≢false (sym h))

together : (a b : Bool) → a ≡ true → b ≡ true → (a && b) ≡ true
together a b p q = ap (λ z. z && b) p ∙ q

got_in : (n : ℕ) (xs : List ℕ) (i : ℕ) → list_all (λ d. nat_lt d n) xs ≡ true → is_below n (slice_get xs i) ≡ true
got_in n [] i all = refl
got_in n (x ∷ xs) zero all = (both (nat_lt x n) (list_all (λ d. nat_lt d n) xs) all).0
got_in n (x ∷ xs) (suc i) all = got_in n xs i (both (nat_lt x n) (list_all (λ d. nat_lt d n) xs) all).1

end_in : (n : ℕ) (f : Found) → is_there n f ≡ true → is_below n (clafer_of f) ≡ true
end_in n found.Nothing there = refl
end_in n found.Several there = refl
end_in n (found.Means (meant.Variable i)) there = refl
end_in n (found.Means (meant.Below out way)) there = got_in n way (length way - 1) there
end_in n (found.Means (meant.Top c)) there = there

target_in : MeansOne → MeansThere → (clafers : List Clafer) (k : PlainClafer) → is_below (length clafers) k.parent ≡ true → IsTrue (each clafers (follows_parent clafers))
    → is_below (length clafers) (target_of clafers k) ≡ true
target_in one there clafers k within all = by_title (title_of k.reference)
  where
    by_title : (o : Option Title) → is_below (length clafers) (option_and_then (λ t. clafer_of (meaning_of clafers k.parent t.name)) o) ≡ true
    by_title None = refl
    by_title (Some t) =
        end_in (length clafers) (meaning_of clafers k.parent t.name)
        (there clafers t.name k.parent 0 (meaning_of clafers k.parent t.name) ((one clafers k.parent t.name (meaning_of clafers k.parent t.name) within all).1 refl))

targets_in : MeansOne → MeansThere → (clafers : List Clafer) (ks : List PlainClafer) → list_all (λ k. is_below (length clafers) k.parent) ks ≡ true → IsTrue (each clafers (follows_parent clafers))
    → list_all (is_below (length clafers)) (map (target_of clafers) ks) ≡ true
targets_in one there clafers [] within all = refl
targets_in one there clafers (k ∷ ks) within all =
    let parts = both (is_below (length clafers) k.parent) (list_all (λ j. is_below (length clafers) j.parent) ks) within in
    together (is_below (length clafers) (target_of clafers k)) (list_all (is_below (length clafers)) (map (target_of clafers) ks)) (target_in one there clafers k parts.0 all)
    (targets_in one there clafers ks parts.1 all)

refers_in : (n : ℕ) (t : Option ℕ) (r : Option Reference) → is_below n t ≡ true → is_below n (option_and_then (λ r. r.to) (option_map (refers_to t) r)) ≡ true
refers_in n t None e = refl
refers_in n t (Some r) e = e

one_in : (n : ℕ) (t : Option ℕ) (k : Clafer) → is_below n t ≡ true → names_below n k ≡ true → names_below n (with_target t k) ≡ true
one_in n t k e met =
    let first = both (is_below n k.parent && is_below n k.above) (is_below n (option_and_then (λ r. r.to) k.reference)) met in
    together (is_below n k.parent && is_below n k.above) (is_below n (option_and_then (λ r. r.to) (option_map (refers_to t) k.reference))) first.0 (refers_in n t k.reference e)

all_in : (n : ℕ) (ts : List (Option ℕ)) (ks : List Clafer) → list_all (is_below n) ts ≡ true → list_all (names_below n) ks ≡ true → list_all (names_below n) (with_targets ts ks) ≡ true
all_in n [] ks es met = met
all_in n (t ∷ ts) [] es met = refl
all_in n (t ∷ ts) (k ∷ ks) es met =
    let e = both (is_below n t) (list_all (is_below n) ts) es in
    let m = both (names_below n k) (list_all (names_below n) ks) met in
    together (names_below n (with_target t k)) (list_all (names_below n) (with_targets ts ks)) (one_in n t k e.0 m.0) (all_in n ts ks e.1 m.1)

as_long : (ts : List (Option ℕ)) (ks : List Clafer) → length (with_targets ts ks) ≡ length ks
as_long [] ks = refl
as_long (t ∷ ts) [] = refl
as_long (t ∷ ts) (k ∷ ks) = ap suc (as_long ts ks)

pub targeted_closed : MeansOne → MeansThere → (clafers : List Clafer) (ks : List PlainClafer) → IsTrue (is_closed clafers) → IsTrue (each clafers (follows_parent clafers))
    → IsTrue (list_all (λ k. is_below (length clafers) k.parent) ks) → IsTrue (is_closed (targeted clafers ks))
unfolding targeted
targeted_closed one there clafers ks closed all within =
    let ts = map (target_of clafers) ks in
    subst (λ n. list_all (names_below n) (with_targets ts clafers) ≡ true) (sym (as_long ts clafers))
    (all_in (length clafers) ts clafers (targets_in one there clafers ks within all) closed)
