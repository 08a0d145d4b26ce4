-- The parts of a formed form.
use Rattle.std.proofs.Common.{◌≡◌, ℕ, ◌+◌, ◌≤◌, Bool, true, not, ◌&&◌, refl, arith}
use Rattle.std.specs.Prelude.{nat_lt}
use Rattle.clf_tree.specs.declared.scopes.Scopes.{Scopes}
use Rattle.clf_tree.specs.CoreWeights.{core_weight, values_weight}
use Rattle.clf_tree.specs.Lists.{each_two}
use Rattle.clf_tree.specs.CoreSoundness.{sort, is_set, is_number, is_test}
use Rattle.clf_tree.specs.Core as c
use Rattle.clf_tree.specs.Core.{Core}
use Rattle.shown_instance.proofs.Order.{both}
use Rattle.told_constraints.specs.Formed.{is_formed, is_width}
use Rattle.constraint_encoder.specs.Operands.{has_two_numbers, has_two_sets, has_two_truths, is_choice, is_step}
use Rattle.constraint_encoder.specs.Operands.{is_value_test, left_of, right_of, step_from, test_of}

pub pair_parts : (p q f g : Bool) → (p && (q && (f && g))) ≡ true → ((p ≡ true) × (f ≡ true)) × ((q ≡ true) × (g ≡ true))
pair_parts p q f g h =
    let one = both p (q && (f && g)) h in
    let two = both q (f && g) one.1 in
    let three = both f g two.1 in
    ((one.0, three.0), (two.0, three.1))

pub choice_parts : (l t p q e f g : Bool) → (l && (t && (p && (q && (e && (f && g)))))) ≡ true →
    ((p ≡ true) × (f ≡ true)) × ((q ≡ true) × (g ≡ true))
choice_parts l t p q e f g h =
    let rest = (both t (p && (q && (e && (f && g)))) (both l (t && (p && (q && (e && (f && g))))) h).1).1 in
    let one = both p (q && (e && (f && g))) rest in
    let two = both q (e && (f && g)) one.1 in
    let three = both f g (both e (f && g) two.1).1 in
    ((one.0, three.0), (two.0, three.1))

-- the test of a choice
pub test_parts : (l t p q e f g : Bool) → (l && (t && (p && (q && (e && (f && g)))))) ≡ true → (t ≡ true) × (e ≡ true)
test_parts l t p q e f g h =
    let one = both t (p && (q && (e && (f && g)))) (both l (t && (p && (q && (e && (f && g))))) h).1 in
    (one.0, (both e (f && g) (both q (e && (f && g)) (both p (q && (e && (f && g))) one.1).1).1).0)

-- both operands of a form that has two
pub two_sets_parts : (x : Core) (n : ℕ) → has_two_sets x ≡ true → is_formed x n ≡ true →
    ((is_set (sort (left_of x)) ≡ true) × (is_formed (left_of x) n ≡ true))
    × ((is_set (sort (right_of x)) ≡ true) × (is_formed (right_of x) n ≡ true))
two_sets_parts (c.Union ks a b) n h f =
    pair_parts (is_set (sort a)) (is_set (sort b)) (is_formed a n) (is_formed b n)
    (both (each_two nat_lt ks) (is_set (sort a) && (is_set (sort b) && (is_formed a n && is_formed b n))) f).1
two_sets_parts (c.Minus ks a b) n h f =
    pair_parts (is_set (sort a)) (is_set (sort b)) (is_formed a n) (is_formed b n)
    (both (each_two nat_lt ks) (is_set (sort a) && (is_set (sort b) && (is_formed a n && is_formed b n))) f).1
two_sets_parts (c.Meet ks a b) n h f =
    pair_parts (is_set (sort a)) (is_set (sort b)) (is_formed a n) (is_formed b n)
    (both (each_two nat_lt ks) (is_set (sort a) && (is_set (sort b) && (is_formed a n && is_formed b n))) f).1
two_sets_parts (c.ChooseNodes ks t a b) n h f =
    choice_parts (each_two nat_lt ks) (is_test (sort t)) (is_set (sort a)) (is_set (sort b)) (is_formed t n)
    (is_formed a n) (is_formed b n) f
two_sets_parts (c.SameNodes a b) n h f = pair_parts (is_set (sort a)) (is_set (sort b)) (is_formed a n) (is_formed b n) f
two_sets_parts (c.WithinNodes a b) n h f = pair_parts (is_set (sort a)) (is_set (sort b)) (is_formed a n) (is_formed b n) f
two_sets_parts _ n h f = absurd (cc)

pub two_numbers_parts : (x : Core) (n : ℕ) → has_two_numbers x ≡ true → is_formed x n ≡ true →
    ((is_number (sort (left_of x)) ≡ true) × (is_formed (left_of x) n ≡ true))
    × ((is_number (sort (right_of x)) ≡ true) × (is_formed (right_of x) n ≡ true))
two_numbers_parts (c.Add w a b) n h f =
    pair_parts (is_number (sort a)) (is_number (sort b)) (is_formed a n) (is_formed b n)
    (both (is_width w) (is_number (sort a) && (is_number (sort b) && (is_formed a n && is_formed b n))) f).1
two_numbers_parts (c.Mul w a b) n h f =
    pair_parts (is_number (sort a)) (is_number (sort b)) (is_formed a n) (is_formed b n)
    (both (is_width w) (is_number (sort a) && (is_number (sort b) && (is_formed a n && is_formed b n))) f).1
two_numbers_parts (c.ChooseNumber w t a b) n h f =
    choice_parts (is_width w) (is_test (sort t)) (is_number (sort a)) (is_number (sort b)) (is_formed t n)
    (is_formed a n) (is_formed b n) f
two_numbers_parts (c.Less a b) n h f = pair_parts (is_number (sort a)) (is_number (sort b)) (is_formed a n) (is_formed b n) f
two_numbers_parts _ n h f = absurd (cc)

pub two_truths_parts : (x : Core) (n : ℕ) → has_two_truths x ≡ true → is_formed x n ≡ true →
    ((is_test (sort (left_of x)) ≡ true) × (is_formed (left_of x) n ≡ true))
    × ((is_test (sort (right_of x)) ≡ true) × (is_formed (right_of x) n ≡ true))
two_truths_parts (c.And a b) n h f = pair_parts (is_test (sort a)) (is_test (sort b)) (is_formed a n) (is_formed b n) f
two_truths_parts (c.Or a b) n h f = pair_parts (is_test (sort a)) (is_test (sort b)) (is_formed a n) (is_formed b n) f
two_truths_parts (c.Xor a b) n h f = pair_parts (is_test (sort a)) (is_test (sort b)) (is_formed a n) (is_formed b n) f
two_truths_parts (c.ChooseTruth t a b) n h f =
    choice_parts true (is_test (sort t)) (is_test (sort a)) (is_test (sort b)) (is_formed t n) (is_formed a n)
    (is_formed b n) f
two_truths_parts _ n h f = absurd (cc)

pub two_sides_parts : (x : Core) (n : ℕ) → is_value_test x ≡ true → is_formed x n ≡ true →
    ((not (is_test (sort (left_of x))) ≡ true) × (is_formed (left_of x) n ≡ true))
    × ((not (is_test (sort (right_of x))) ≡ true) × (is_formed (right_of x) n ≡ true))
two_sides_parts (c.SameValues a b) n h f =
    pair_parts (not (is_test (sort a))) (not (is_test (sort b))) (is_formed a n) (is_formed b n) f
two_sides_parts (c.WithinValues a b) n h f =
    pair_parts (not (is_test (sort a))) (not (is_test (sort b))) (is_formed a n) (is_formed b n) f
two_sides_parts _ n h f = absurd (cc)

pub two_sides_weight : (scopes : Scopes) (x : Core) → is_value_test x ≡ true →
    core_weight scopes x ≡ values_weight scopes (sort (left_of x)) (sort (right_of x))
    + core_weight scopes (left_of x) + core_weight scopes (right_of x)
two_sides_weight scopes (c.SameValues a b) h = refl
two_sides_weight scopes (c.WithinValues a b) h = refl
two_sides_weight scopes _ h = absurd (cc)

-- the set that a step goes from
from_parts : (l p f : Bool) → (l && (p && f)) ≡ true → (p ≡ true) × (f ≡ true)
from_parts l p f h = both p f (both l (p && f) h).1

pub step_parts : (x : Core) (n : ℕ) → is_step x ≡ true → is_formed x n ≡ true →
    (is_set (sort (step_from x)) ≡ true) × (is_formed (step_from x) n ≡ true)
step_parts (c.Down ks a) n h f = from_parts (each_two nat_lt ks) (is_set (sort a)) (is_formed a n) f
step_parts (c.Up ks a) n h f = from_parts (each_two nat_lt ks) (is_set (sort a)) (is_formed a n) f
step_parts (c.Follow ks a) n h f = from_parts (each_two nat_lt ks) (is_set (sort a)) (is_formed a n) f
step_parts _ n h f = absurd (cc)

pub step_light : (scopes : Scopes) (x : Core) → is_step x ≡ true → core_weight scopes (step_from x) ≤ core_weight scopes x
step_light scopes (c.Down ks a) h = omega arith
step_light scopes (c.Up ks a) h = omega arith
step_light scopes (c.Follow ks a) h = omega arith
step_light scopes _ h = absurd (cc)

pub choice_test_parts : (x : Core) (n : ℕ) → is_choice x ≡ true → is_formed x n ≡ true →
    (is_test (sort (test_of x)) ≡ true) × (is_formed (test_of x) n ≡ true)
choice_test_parts (c.ChooseNodes ks t a b) n h f =
    test_parts (each_two nat_lt ks) (is_test (sort t)) (is_set (sort a)) (is_set (sort b)) (is_formed t n)
    (is_formed a n) (is_formed b n) f
choice_test_parts (c.ChooseNumber w t a b) n h f =
    test_parts (is_width w) (is_test (sort t)) (is_number (sort a)) (is_number (sort b)) (is_formed t n)
    (is_formed a n) (is_formed b n) f
choice_test_parts (c.ChooseTruth t a b) n h f =
    test_parts true (is_test (sort t)) (is_test (sort a)) (is_test (sort b)) (is_formed t n) (is_formed a n)
    (is_formed b n) f
choice_test_parts _ n h f = absurd (cc)

pub choice_light : (scopes : Scopes) (x : Core) → is_choice x ≡ true → core_weight scopes (test_of x) ≤ core_weight scopes x
choice_light scopes (c.ChooseNodes ks t a b) h = omega arith
choice_light scopes (c.ChooseNumber w t a b) h = omega arith
choice_light scopes (c.ChooseTruth t a b) h = omega arith
choice_light scopes _ h = absurd (cc)
