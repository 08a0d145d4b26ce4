-- Two lists whose items are related one by one, in some order.
use Rattle.std.proofs.Common.{◌≡◌, ℕ, Bool, List, length, map, ap, sym, ◌∙◌, ℤ}
use Rattle.std.specs.Prelude.{count_by}
use Rattle.std.specs.List.{filter, list_any, list_all}
use Rattle.std.proofs.lemmas.List.Sums.{length-filter}
use Rattle.clf_tree.specs.Lists.{each_two, tuples}
use Rattle.clf_tree.specs.Meaning.{total, all_in, same_set}
use Rattle.isomorphic_instances.proofs.Pairs.{Pairs, both, pairs_any, pairs_all, pairs_filter, pairs_length, pairs_map, pairs_tuples, pairs_each_two, pairs_equal}
use Rattle.isomorphic_instances.proofs.Shuffles.{Shuffled, unmoved, shuffled_any, shuffled_all, shuffled_filter, shuffled_length, shuffled_map, shuffled_tuples, shuffled_each_two, shuffled_total}

pub record Match {X Y : Type 0} (R : X → Y → Type 0) (xs : List X) (ys : List Y) : Type 0 where
  pub between : List Y
  pub pairs : Pairs R xs between
  pub shuffled : Shuffled between ys

pub in_order : {X Y : Type 0} (R : X → Y → Type 0) {xs : List X} {ys : List Y} → Pairs R xs ys → Match R xs ys
in_order R {ys = ys} ps = record { between = ys; pairs = ps; shuffled = unmoved ys }

module _ {X Y : Type 0} (R : X → Y → Type 0) where
  pub match_length : {xs : List X} {ys : List Y} → Match R xs ys → length xs ≡ length ys
  match_length m = pairs_length R m.pairs ∙ shuffled_length m.shuffled

  pub match_tuples : (n : ℕ) {xs : List X} {ys : List Y} → Match R xs ys → Match (Pairs R) (tuples n xs) (tuples n ys)
  match_tuples n m = record { between = tuples n m.between; pairs = pairs_tuples R n m.pairs; shuffled = shuffled_tuples n m.shuffled }

  module _ (p : X → Bool) (q : Y → Bool) (same : (x : X) (y : Y) → R x y → p x ≡ q y) where
    pub match_any : {xs : List X} {ys : List Y} → Match R xs ys → list_any p xs ≡ list_any q ys
    match_any m = pairs_any R p q same m.pairs ∙ shuffled_any q m.shuffled

    pub match_all : {xs : List X} {ys : List Y} → Match R xs ys → list_all p xs ≡ list_all q ys
    match_all m = pairs_all R p q same m.pairs ∙ shuffled_all q m.shuffled

    pub match_filter : {xs : List X} {ys : List Y} → Match R xs ys → Match R (filter p xs) (filter q ys)
    match_filter m = record { between = filter q m.between; pairs = pairs_filter R p q same m.pairs; shuffled = shuffled_filter q m.shuffled }

    pub match_count : {xs : List X} {ys : List Y} → Match R xs ys → count_by p xs ≡ count_by q ys
    match_count {xs} {ys} m = sym (length-filter p xs) ∙ match_length (match_filter m) ∙ length-filter q ys

  -- a test of each two that doesn't tell which of them comes first
  pub match_each_two : (p : X → X → Bool) (q : Y → Y → Bool) → ((x y : Y) → q x y ≡ q y x) → ((x x' : X) (y y' : Y) → R x y → R x' y' → p x x' ≡ q y y')
      → {xs : List X} {ys : List Y} → Match R xs ys → each_two p xs ≡ each_two q ys
  match_each_two p q symm same m = pairs_each_two R p q same m.pairs ∙ shuffled_each_two q symm m.shuffled

  -- each of the first is among the second
  module _ (p : X → X → Bool) (q : Y → Y → Bool) (same : (x x' : X) (y y' : Y) → R x y → R x' y' → p x x' ≡ q y y') where
    pub match_all_in : {xs us : List X} {ys vs : List Y} → Match R xs ys → Match R us vs → all_in p xs us ≡ all_in q ys vs
    match_all_in {us = us} {vs = vs} m n = match_all (λ x. list_any (p x) us) (λ y. list_any (q y) vs) (λ x y r. match_any (p x) (q y) (λ x' y' r'. same x x' y y' r r') n) m

    pub match_same_set : {xs us : List X} {ys vs : List Y} → Match R xs ys → Match R us vs → same_set p xs us ≡ same_set q ys vs
    match_same_set m n = both (match_all_in m n) (match_all_in n m)

pub match_map : {X Y U V : Type 0} (R : X → Y → Type 0) (S : U → V → Type 0) (f : X → U) (g : Y → V) → ((x : X) (y : Y) → R x y → S (f x) (g y))
    → {xs : List X} {ys : List Y} → Match R xs ys → Match S (map f xs) (map g ys)
match_map R S f g h m = record { between = map g m.between; pairs = pairs_map R S f g h m.pairs; shuffled = shuffled_map g m.shuffled }

-- integers that are the same in some order
pub match_total : {xs ys : List ℤ} → Match (λ (x y : ℤ). x ≡ y) xs ys → total xs ≡ total ys
match_total m = ap total (pairs_equal m.pairs) ∙ shuffled_total m.shuffled
