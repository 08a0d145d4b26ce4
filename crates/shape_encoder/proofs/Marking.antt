-- Which clafers are counted, by their marks.
use Rattle.std.proofs.Common.{◌≡◌, ℕ, zero, suc, ◌+◌, ◌<◌, ◌≤◌, Bool, true, false, ◌&&◌, ◌||◌, List, [], ◌∷◌, ◌++◌, length, map, Some, inl, inr, refl, sym, ap, ◌∙◌, arith}
use Rattle.std.proofs.Math.Path.{fun_ext}
use Rattle.std.specs.Prelude.{slice_get, ◌==◌, nat_lt}
use Rattle.std.specs.Option.{option_map_or, option_and_then}
use Rattle.std.proofs.lemmas.Bool.{cases_lt}
use Rattle.std.proofs.lemmas.Bool.Decides.{nat_tests}
use Rattle.std.proofs.lemmas.Grind.{common_steps}
use Rattle.std.proofs.lemmas.Option.{slice_get_past}
use Rattle.std.proofs.lemmas.List.{length-map, get_or_past}
use Rattle.std.proofs.lemmas.List.FromFn.{get_or-map-range_with_len, length-range_with_len, map-range_with_len_more}
use Rattle.clf_tree.specs.declared.model.Clafer.{Clafer}
use Rattle.clf_tree.specs.declared.model.Reference.{Reference}
use Rattle.clf_tree.specs.Lists.{numbers_below, has}
use Rattle.clf_tree.specs.Hierarchy.{way_up, is_a, is_below, names_below, is_closed}
use Rattle.shown_instance.specs.Bounds.{is_declared_under}
use Rattle.shown_instance.proofs.Order.{both}
use Rattle.shown_instance.proofs.Adapting.{all_pass}
use Rattle.shape_encoder.specs.Counting.{is_marked}
use Rattle.shape_encoder.proofs.Steps.{all_item}

marked_same : (f : ℕ → Bool) (n : ℕ) (marks : List Bool) → marks ≡ map f (numbers_below n) → ((d : ℕ) → n ≤ d → f d ≡ false) → is_marked marks ≡ f
marked_same f n marks e outside = fun_ext (λ d. ap (λ ms. is_marked ms d) e ∙ at d)
  where
    at : (d : ℕ) → is_marked (map f (numbers_below n)) d ≡ f d
    at d = elim (cases_lt d n) [
      | inl below ↦ get_or-map-range_with_len f 0 n d d false below (omega arith)
      | inr above ↦ get_or_past (map f (numbers_below n)) d false (sized above) ∙ sym (outside d above)
    ]
      where
        sized : n ≤ d → length (map f (numbers_below n)) ≤ d
        sized h = let s = length-map (numbers_below n) f in let r = length-range_with_len 0 n in omega (arith, s, r, h)

different : (c d n : ℕ) → c < n → n ≤ d → (c == d) ≡ false
different c d n l h = grind (arith, common_steps)

no_instances : (clafers : List Clafer) (c d : ℕ) → c < length clafers → length clafers ≤ d → is_a clafers d c ≡ false
no_instances clafers c d l h = ap (λ ks. has ks c) (alone (length clafers)) ∙ ap (λ b. b || false) (different c d (length clafers) l h)
  where
    alone : (n : ℕ) → way_up clafers n d ≡ d ∷ []
    alone zero = refl
    alone (suc n) = ap (λ o. d ∷ option_map_or (way_up clafers n) (option_and_then (λ (k : Clafer). k.above) o) []) (slice_get_past clafers d h)

pub marks_more : (p : ℕ → Bool) (n : ℕ) → map p (numbers_below (n + 1)) ≡ map p (numbers_below n) ++ p n ∷ []
marks_more p n = map-range_with_len_more p 0 n n (omega arith)

-- marks of all clafers tell of every number
pub instances_marked : (clafers : List Clafer) (c : ℕ) (marks : List Bool) → c < length clafers → marks ≡ map (λ d. is_a clafers d c) (numbers_below (length clafers)) → is_marked marks ≡ (λ d. is_a clafers d c)
instances_marked clafers c marks l e = marked_same (λ d. is_a clafers d c) (length clafers) marks e (λ d h. no_instances clafers c d l h)

pub declared_marked : (clafers : List Clafer) (c : ℕ) (marks : List Bool) → marks ≡ map (is_declared_under clafers c) (numbers_below (length clafers)) → is_marked marks ≡ is_declared_under clafers c
declared_marked clafers c marks e = marked_same (is_declared_under clafers c) (length clafers) marks e (λ d h. ap (λ o. option_map_or (λ p. p == c) (option_and_then (λ (k : Clafer). k.parent) o) false) (slice_get_past clafers d h))

-- the parent of a clafer of a closed model is in the model
pub parent_known : (clafers : List Clafer) (c p : ℕ) (k : Clafer) → is_closed clafers ≡ true → slice_get clafers c ≡ Some k → k.parent ≡ Some p → p < length clafers
parent_known clafers c p k closed get up = less p (length clafers) (sym (ap (is_below (length clafers)) up) ∙ (both (is_below (length clafers) k.parent) (is_below (length clafers) k.above) first.0).0)
  where
    less : (a b : ℕ) → nat_lt a b ≡ true → a < b
    less a b h = grind (arith, nat_tests)

    first : ((is_below (length clafers) k.parent && is_below (length clafers) k.above) ≡ true) × (is_below (length clafers) (option_and_then (λ (r : Reference). r.to) k.reference) ≡ true)
    first = both (is_below (length clafers) k.parent && is_below (length clafers) k.above) (is_below (length clafers) (option_and_then (λ (r : Reference). r.to) k.reference)) (all_item (λ (x : Clafer). names_below (length clafers) x ≡ true) clafers c k (all_pass (names_below (length clafers)) clafers closed) get)
