-- The slots of the tuples that are tried.
use Rattle.std.proofs.Common.{◌≡◌, ℕ, zero, suc, Bool, true, false, cond, ◌&&◌, List, [], ◌∷◌}
use Rattle.std.proofs.Common.{length, map, get_or, refl, sym, ap, ◌∙◌, arith}
use Rattle.std.specs.Prelude.{nat_eq, not}
use Rattle.std.specs.List.{All, list_all, filter, flat_map}
use Rattle.std.proofs.lemmas.Bool.Decides.{nat_tests}
use Rattle.std.proofs.lemmas.List.Folds.{list_all-append, list_all-map}
use Rattle.std.proofs.lemmas.List.Concat.{flat_map-cons}
use Rattle.bool_circuit.specs.declared.gate.Gate.{Gate}
use Rattle.clf_tree.specs.Lists.{each_two, tuples}
use Rattle.set_bits.specs.declared.sets.Member.{Member}
use Rattle.shown_instance.proofs.Adapting.{all_pass}
use Rattle.shown_instance.proofs.Order.{both, together}
use Rattle.told_constraints.specs.Told.{tried_slots}
use Rattle.quantifier_encoder.specs.declared.tuples.Tuple.{Tuple}
use Rattle.quantifier_encoder.specs.Tuples.{AreTuples, slots_of}

all_of_each : {X A : Type 0} (q : A → Bool) (f : X → List A) (ys : List X) → ((x : X) → list_all q (f x) ≡ true) →
    list_all q (flat_map f ys) ≡ true
all_of_each q f [] h = refl
all_of_each q f (y ∷ ys) h =
    ap (list_all q) (flat_map-cons f y ys) ∙ list_all-append q (f y) (flat_map f ys)
    ∙ ap (λ b. b && list_all q (flat_map f ys)) (h y) ∙ all_of_each q f ys h

all_of_some : {A : Type 0} (q p : A → Bool) (xs : List A) → list_all q xs ≡ true → list_all q (filter p xs) ≡ true
all_of_some q p [] h = refl
all_of_some q p (x ∷ xs) h = let parts = both (q x) (list_all q xs) h in by (p x) parts.0 (all_of_some q p xs parts.1)
  where
    by : (b : Bool) → q x ≡ true → list_all q (filter p xs) ≡ true → list_all q (cond b (x ∷ filter p xs) (filter p xs)) ≡ true
    by true e r = together (q x) (list_all q (filter p xs)) e r
    by false e r = r

-- a test of lengths that the length of the tuples passes
of_length : (g : ℕ → Bool) (n : ℕ) (xs : List ℕ) → g n ≡ true → list_all (λ ss. g (length ss)) (tuples n xs) ≡ true
of_length g zero xs h = ap (λ b. b && true) h
of_length g (suc n) xs h =
    all_of_each (λ ss. g (length ss)) (λ x. map (λ t. x ∷ t) (tuples n xs)) xs
    (λ x. list_all-map (λ ss. g (length ss)) (λ t. x ∷ t) (tuples n xs) ∙ of_length (λ k. g (suc k)) n xs h)

tried_of_length : (g : ℕ → Bool) (disj : Bool) (n : ℕ) (xs : List ℕ) → g n ≡ true →
    list_all (λ ss. g (length ss)) (tried_slots disj n xs) ≡ true
tried_of_length g true n xs h =
    all_of_some (λ ss. g (length ss)) (each_two (λ a b. not (nat_eq a b))) (tuples n xs) (of_length g n xs h)
tried_of_length g false n xs h = of_length g n xs h

same_length : (a b : ℕ) → nat_eq a b ≡ true → a ≡ b
same_length a b h = grind (arith, nat_tests)

itself : (n : ℕ) → nat_eq n n ≡ true
itself n = grind (arith, nat_tests)

pub named_each : (gates old : List Gate) (set : List Member) (disj : Bool) (names : ℕ) (ts : List Tuple) →
    AreTuples gates old set disj names ts → All (λ t. length t.slots ≡ names) ts
named_each gates old set disj names ts are = λ k d l.
    same_length (length (get_or ts k d).slots) names
    (all_pass (λ t. nat_eq (length t.slots) names) ts
    (sym (list_all-map (λ ss. nat_eq (length ss) names) (λ (t : Tuple). t.slots) ts)
    ∙ ap (list_all (λ ss. nat_eq (length ss) names)) are.slots
    ∙ tried_of_length (λ k. nat_eq k names) disj names (slots_of set) (itself names))
    k d l)
