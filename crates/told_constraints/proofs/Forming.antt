-- A sound expression is formed.
use Rattle.std.proofs.Common.{◌≡◌, ℕ, ◌+◌, ◌<◌, Bool, true, not, ◌&&◌, List, ◌++◌, length, ap, ◌∙◌, subst, arith}
use Rattle.std.specs.Prelude.{nat_lt, replicate}
use Rattle.std.specs.List.{list_all}
use Rattle.std.proofs.lemmas.List.{length-append, length-replicate}
use Rattle.clf_tree.specs.declared.model.Clafer.{Clafer}
use Rattle.clf_tree.specs.declared.scopes.Scopes.{Scopes}
use Rattle.clf_tree.specs.Lists.{each_two}
use Rattle.clf_tree.specs.Hierarchy.{is_concrete}
use Rattle.clf_tree.specs.Core as c
use Rattle.clf_tree.specs.Core.{Core}
use Rattle.clf_tree.specs.CoreSoundness.{Sound, sort, is_set, is_number, is_test, clafers_in}
use Rattle.shown_instance.proofs.Order.{both, together}
use Rattle.told_constraints.specs.Formed.{is_formed, is_width}

below_tells : (i n : ℕ) → i < n → nat_lt i n ≡ true
below_tells i n h = grind (arith)

-- two, and three, tests one in the other
with_three : (a b d : Bool) → a ≡ true → b ≡ true → d ≡ true → (a && (b && d)) ≡ true
with_three a b d h i j = together a (b && d) h (together b d i j)

with_four : (a b d e : Bool) → a ≡ true → b ≡ true → d ≡ true → e ≡ true → (a && (b && (d && e))) ≡ true
with_four a b d e h i j k = together a (b && (d && e)) h (with_three b d e i j k)

with_five : (a b d e f : Bool) → a ≡ true → b ≡ true → d ≡ true → e ≡ true → f ≡ true → (a && (b && (d && (e && f)))) ≡ true
with_five a b d e f h i j k l = together a (b && (d && (e && f))) h (with_four b d e f i j k l)

with_six : (a b d e f g : Bool) → a ≡ true → b ≡ true → d ≡ true → e ≡ true → f ≡ true → g ≡ true
    → (a && (b && (d && (e && (f && g))))) ≡ true
with_six a b d e f g h i j k l m = together a (b && (d && (e && (f && g)))) h (with_five b d e f g i j k l m)

with_seven : (a b d e f g o : Bool) → a ≡ true → b ≡ true → d ≡ true → e ≡ true → f ≡ true → g ≡ true → o ≡ true
    → (a && (b && (d && (e && (f && (g && o)))))) ≡ true
with_seven a b d e f g o h i j k l m n = together a (b && (d && (e && (f && (g && o))))) h (with_six b d e f g o i j k l m n)

module _ (clafers : List Clafer) (scopes : Scopes) where
  -- a list of a set ascends
  ascends : (ks : List ℕ) → (list_all (is_concrete clafers) ks && each_two nat_lt ks) ≡ true → each_two nat_lt ks ≡ true
  ascends ks h = (both (list_all (is_concrete clafers) ks) (each_two nat_lt ks) h).1

  lengthened : (given : List (List ℕ)) (names : ℕ) (ks : List ℕ) → length (given ++ replicate names ks) ≡ length given + names
  lengthened given names ks = length-append given (replicate names ks) ∙ ap (λ n. length given + n) (length-replicate names ks)

  pub formed : (a : Core) (given : List (List ℕ)) → Sound clafers scopes a given → is_formed a (length given) ≡ true
  formed (c.Bound ks i) given h = together (each_two nat_lt ks) (nat_lt i (length given)) (ascends ks h.1.well_made)
      (below_tells i (length given) h.0)
  formed (c.Every ks) given h = ascends ks h.well_made
  formed (c.Down ks a) given h = with_three (each_two nat_lt ks) (is_set (sort a)) (is_formed a (length given))
      (ascends ks h.2.well_made) h.0 (formed a given h.1)
  formed (c.Up ks a) given h = with_three (each_two nat_lt ks) (is_set (sort a)) (is_formed a (length given))
      (ascends ks h.2.well_made) h.0 (formed a given h.1)
  formed (c.Follow ks a) given h = with_three (each_two nat_lt ks) (is_set (sort a)) (is_formed a (length given))
      (ascends ks h.2.well_made) h.0 (formed a given h.1)
  formed (c.Union ks a b) given h =
      with_five (each_two nat_lt ks) (is_set (sort a)) (is_set (sort b)) (is_formed a (length given)) (is_formed b (length given))
      (ascends ks h.4.well_made) h.0 h.1 (formed a given h.2) (formed b given h.3)
  formed (c.Minus ks a b) given h =
      with_five (each_two nat_lt ks) (is_set (sort a)) (is_set (sort b)) (is_formed a (length given)) (is_formed b (length given))
      (ascends ks h.4.well_made) h.0 h.1 (formed a given h.2) (formed b given h.3)
  formed (c.Meet ks a b) given h =
      with_five (each_two nat_lt ks) (is_set (sort a)) (is_set (sort b)) (is_formed a (length given)) (is_formed b (length given))
      (ascends ks h.4.well_made) h.0 h.1 (formed a given h.2) (formed b given h.3)
  formed (c.ChooseNodes ks t a b) given h =
      with_seven (each_two nat_lt ks) (is_test (sort t)) (is_set (sort a)) (is_set (sort b)) (is_formed t (length given))
      (is_formed a (length given)) (is_formed b (length given))
      (ascends ks h.6.well_made) h.0 h.1 h.2 (formed t given h.3) (formed a given h.4) (formed b given h.5)
  formed (c.Const w z) given h = h.well_made
  formed (c.Count w a) given h = with_three (is_width w) (is_set (sort a)) (is_formed a (length given)) h.2.well_made h.0
      (formed a given h.1)
  formed (c.Total w a) given h = with_three (is_width w) (is_set (sort a)) (is_formed a (length given)) h.2.well_made h.0
      (formed a given h.1)
  formed (c.Neg w a) given h = with_three (is_width w) (is_number (sort a)) (is_formed a (length given)) h.2.well_made h.0
      (formed a given h.1)
  formed (c.Add w a b) given h =
      with_five (is_width w) (is_number (sort a)) (is_number (sort b)) (is_formed a (length given))
      (is_formed b (length given)) h.4.well_made h.0 h.1 (formed a given h.2) (formed b given h.3)
  formed (c.Mul w a b) given h =
      with_five (is_width w) (is_number (sort a)) (is_number (sort b)) (is_formed a (length given))
      (is_formed b (length given)) h.4.well_made h.0 h.1 (formed a given h.2) (formed b given h.3)
  formed (c.ChooseNumber w t a b) given h =
      with_seven (is_width w) (is_test (sort t)) (is_number (sort a)) (is_number (sort b)) (is_formed t (length given))
      (is_formed a (length given)) (is_formed b (length given))
      h.6.well_made h.0 h.1 h.2 (formed t given h.3) (formed a given h.4) (formed b given h.5)
  formed (c.Not a) given h = together (is_test (sort a)) (is_formed a (length given)) h.0 (formed a given h.1)
  formed (c.And a b) given h = with_four (is_test (sort a)) (is_test (sort b)) (is_formed a (length given))
      (is_formed b (length given)) h.0 h.1 (formed a given h.2) (formed b given h.3)
  formed (c.Or a b) given h = with_four (is_test (sort a)) (is_test (sort b)) (is_formed a (length given))
      (is_formed b (length given)) h.0 h.1 (formed a given h.2) (formed b given h.3)
  formed (c.Xor a b) given h = with_four (is_test (sort a)) (is_test (sort b)) (is_formed a (length given))
      (is_formed b (length given)) h.0 h.1 (formed a given h.2) (formed b given h.3)
  formed (c.ChooseTruth t a b) given h =
      with_six (is_test (sort t)) (is_test (sort a)) (is_test (sort b)) (is_formed t (length given)) (is_formed a (length given))
      (is_formed b (length given))
      h.0 h.1 h.2 (formed t given h.3) (formed a given h.4) (formed b given h.5)
  formed (c.SameNodes a b) given h = with_four (is_set (sort a)) (is_set (sort b)) (is_formed a (length given))
      (is_formed b (length given)) h.0 h.1 (formed a given h.2) (formed b given h.3)
  formed (c.WithinNodes a b) given h = with_four (is_set (sort a)) (is_set (sort b)) (is_formed a (length given))
      (is_formed b (length given)) h.0 h.1 (formed a given h.2) (formed b given h.3)
  formed (c.SameValues a b) given h =
      with_four (not (is_test (sort a))) (not (is_test (sort b))) (is_formed a (length given)) (is_formed b (length given)) h.0 h.1
      (formed a given h.2) (formed b given h.3)
  formed (c.WithinValues a b) given h =
      with_four (not (is_test (sort a))) (not (is_test (sort b))) (is_formed a (length given)) (is_formed b (length given)) h.0 h.1
      (formed a given h.2) (formed b given h.3)
  formed (c.Less a b) given h = with_four (is_number (sort a)) (is_number (sort b)) (is_formed a (length given))
      (is_formed b (length given)) h.0 h.1 (formed a given h.2) (formed b given h.3)
  formed (c.AtLeast k a) given h = with_three (nat_lt k 2) (is_set (sort a)) (is_formed a (length given)) (below_tells k 2 h.0) h.1
      (formed a given h.2)
  formed (c.AtMost k a) given h = with_three (nat_lt k 2) (is_set (sort a)) (is_formed a (length given)) (below_tells k 2 h.0) h.1
      (formed a given h.2)
  formed (c.Exactly k a) given h = with_three (nat_lt k 2) (is_set (sort a)) (is_formed a (length given)) (below_tells k 2 h.0) h.1
      (formed a given h.2)
  formed (c.Quant word disj names over body) given h =
      with_four (is_set (sort over)) (is_test (sort body)) (is_formed over (length given)) (is_formed body (length given + names)) h.0 h.1
      (formed over given h.2)
      (subst (λ n. is_formed body n ≡ true) (lengthened given names (clafers_in (sort over)))
      (formed body (given ++ replicate names (clafers_in (sort over))) h.3))
