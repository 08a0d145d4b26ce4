-- The clafers of what a name means are of the model.
use Rattle.std.proofs.Common.{◌≡◌, ℕ, ◌+◌, ◌&&◌, Bool, true, false, List, [], ◌∷◌, length, Option, Some, None, refl, ap, ◌∙◌}
use Rattle.std.specs.Prelude.{slice_get, nat_lt}
use Rattle.std.specs.Option.{option_map_or}
use Rattle.std.specs.List.{list_all, filter}
use Rattle.std.proofs.lemmas.Bool.Decides.{Decides-ltb}
use Rattle.clf_tree.specs.declared.model.Clafer.{Clafer}
use Rattle.clf_tree.specs.Lists.{numbers_below}
use Rattle.clf_tree.specs.Hierarchy.{is_below}
use Rattle.name_resolver.specs.declared.outside.Found.TheVariants as found
use Rattle.name_resolver.specs.declared.steps.Meant.TheVariants as meant
use Rattle.name_resolver.specs.Ways.{Way, here, down}
use Rattle.name_resolver.specs.Outwards.{is_at_top, below, ambiguous, outside, top}
use Rattle.name_resolver.specs.Meaning.{is_there, MeansThere}
use Rattle.name_resolver.proofs.Members.{filter_below}
use Rattle.name_resolver.proofs.Straight.{child_below}

together : (a b : Bool) → a ≡ true → b ≡ true → (a && b) ≡ true
together a b p q = ap (λ z. z && b) p ∙ q

way_there : (clafers : List Clafer) (c : ℕ) (way : List ℕ) (d : ℕ) → Way clafers c way d → list_all (λ m. nat_lt m (length clafers)) way ≡ true
way_there clafers c _ _ here = refl
way_there clafers c _ d (down {m = m} {ms = ms} child w) =
    together (nat_lt m (length clafers)) (list_all (λ m. nat_lt m (length clafers)) ms) ((Decides-ltb m (length clafers)).1 (child_below clafers c m child)) (way_there clafers m ms d w)

head_there : (n : ℕ) (xs : List ℕ) → list_all (λ m. nat_lt m n) xs ≡ true → is_below n (slice_get xs 0) ≡ true
head_there n [] all = refl
head_there n (x ∷ xs) all = both (nat_lt x n) (list_all (λ m. nat_lt m n) xs) all
  where
    both : (a b : Bool) → (a && b) ≡ true → a ≡ true
    both true b h = refl
    both false b h = h

top_there : (n : ℕ) (o : Option ℕ) → is_below n o ≡ true → is_there n (option_map_or (λ c. found.Means (meant.Top c)) o found.Nothing) ≡ true
top_there n None e = refl
top_there n (Some c) e = e

pub means_there : MeansThere
means_there clafers name _ out _ (below {c = c} {d = d} {way = way} near taken) = way_there clafers c way d taken.leads
means_there clafers name _ out _ (ambiguous near) = refl
means_there clafers name _ out _ (outside {c = c} {p = p} {r = r} near e m) = means_there clafers name p (out + 1) r m
means_there clafers name _ out _ top =
    top_there (length clafers) (slice_get (filter (is_at_top clafers name) (numbers_below (length clafers))) 0)
    (head_there (length clafers) (filter (is_at_top clafers name) (numbers_below (length clafers))) (filter_below (is_at_top clafers name) (length clafers)))
