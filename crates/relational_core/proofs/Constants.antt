-- A constant in place of a form: the same meaning, the same sort, as sound, and no heavier.
use Rattle.std.proofs.Common.{◌≡◌, ℕ, ◌+◌, ◌*◌, ◌≤◌, Bool, true, false, ◌&&◌, List, Option, Some, None, refl, ap, sym, ◌∙◌, arith, ℤ}
use Rattle.std.specs.Prelude.{neg_ℤ, ◌+ℤ◌, ◌*ℤ◌, nat_le, if◌then◌else◌}
use Rattle.std.proofs.lemmas.Nat.{mul-le}
use Rattle.clf_tree.specs.declared.model.Clafer.{Clafer}
use Rattle.clf_tree.specs.declared.scopes.Scopes.{Scopes}
use Rattle.clf_tree.specs.declared.instance.Node.{Node}
use Rattle.clf_tree.specs.declared.instance.Entry.{Entry}
use Rattle.clf_tree.specs.Meaning.{Integer}
use Rattle.clf_tree.specs.Core as c
use Rattle.clf_tree.specs.Core.{Core}
use Rattle.clf_tree.specs.CoreMeaning.{meaning, integer_in}
use Rattle.clf_tree.specs.CoreSoundness.{Number, sort, is_number, are_entries, is_instance, holds_integer, Sound}
use Rattle.clf_tree.specs.CoreWeights.{core_weight}
use Rattle.relational_core.specs.Lowered.{kept, of_one, of_two, folded, negated, added, multiplied}

no_some : {z : ℤ} {X : Type 0} → None ≡ Some z → X
no_some h = absurd (none_some h)
  where
    none_some : {z : ℤ} → None ≡ Some z → ⊥
    none_some k = (cc)

same_some : (x z : ℤ) → Some x ≡ Some z → x ≡ z
same_some x z h = (cc)

kept-is : (x z : ℤ) → kept x ≡ Some z → x ≡ z
kept-is x z h = pick (holds_integer 64 x) h
  where
    pick : (b : Bool) → (if b then Some x else None) ≡ Some z → x ≡ z
    pick true k = same_some x z k
    pick false k = no_some k

-- ---- meaning
module _ (entries : List Entry) (bound : List Node) where
  abbrev pub integer_of : Core → ℤ
  integer_of a = integer_in (meaning entries a bound)

  one-means : (f : ℤ → ℤ) (a : Core) (z : ℤ) → of_one f a ≡ Some z → f (integer_of a) ≡ z
  one-means f (c.Const w x) z h = kept-is (f x) z h
  one-means f _ z h = no_some h

  two-means : (f : ℤ → ℤ → ℤ) (a b : Core) (z : ℤ) → of_two f a b ≡ Some z → f (integer_of a) (integer_of b) ≡ z
  two-means f (c.Const w x) (c.Const v y) z h = kept-is (f x y) z h
  two-means f (c.Const w x) _ z h = no_some h
  two-means f _ b z h = no_some h

  folded-means : (w : ℕ) (o : Option ℤ) (a : Core) (x : ℤ) → meaning entries a bound ≡ Integer x → ((z : ℤ) → o ≡ Some z → x ≡ z) → meaning entries (folded w o a) bound ≡ Integer x
  folded-means w None a x h is = h
  folded-means w (Some z) a x h is = ap Integer (sym (is z refl))

  pub negated-means : (w : ℕ) (a : Core) → meaning entries (negated w a) bound ≡ Integer (neg_ℤ (integer_of a))
  unfolding negated
  negated-means w a = folded-means w (of_one neg_ℤ a) (c.Neg w a) (neg_ℤ (integer_of a)) refl (one-means neg_ℤ a)

  pub added-means : (w : ℕ) (a b : Core) → meaning entries (added w a b) bound ≡ Integer (integer_of a +ℤ integer_of b)
  unfolding added
  added-means w a b = folded-means w (of_two (λ x y. x +ℤ y) a b) (c.Add w a b) (integer_of a +ℤ integer_of b) refl (two-means (λ x y. x +ℤ y) a b)

  pub multiplied-means : (w : ℕ) (a b : Core) → meaning entries (multiplied w a b) bound ≡ Integer (integer_of a *ℤ integer_of b)
  unfolding multiplied
  multiplied-means w a b = folded-means w (of_two (λ x y. x *ℤ y) a b) (c.Mul w a b) (integer_of a *ℤ integer_of b) refl (two-means (λ x y. x *ℤ y) a b)

-- ---- sorts
folded-sort : (w : ℕ) (o : Option ℤ) (a : Core) → sort a ≡ Number w → sort (folded w o a) ≡ Number w
folded-sort w None a h = h
folded-sort w (Some z) a h = refl

pub negated-sort : (w : ℕ) (a : Core) → sort (negated w a) ≡ Number w
unfolding negated
negated-sort w a = folded-sort w (of_one neg_ℤ a) (c.Neg w a) refl

pub added-sort : (w : ℕ) (a b : Core) → sort (added w a b) ≡ Number w
unfolding added
added-sort w a b = folded-sort w (of_two (λ x y. x +ℤ y) a b) (c.Add w a b) refl

pub multiplied-sort : (w : ℕ) (a b : Core) → sort (multiplied w a b) ≡ Number w
unfolding multiplied
multiplied-sort w a b = folded-sort w (of_two (λ x y. x *ℤ y) a b) (c.Mul w a b) refl

-- ---- soundness
module _ (clafers : List Clafer) (scopes : Scopes) where
  -- the width holds the integer, in each instance
  pub record NumberHolds (a : Core) (g : List (List ℕ)) (w : ℕ) : Type 0 where
    pub sized : (nat_le 1 w && nat_le w 64) ≡ true
    pub value : (entries : List Entry) → is_instance clafers scopes entries ≡ true → (bound : List Node) → are_entries entries g bound ≡ true → holds_integer w (integer_in (meaning entries a bound)) ≡ true

  pub same-holds : (a b : Core) (g : List (List ℕ)) (w : ℕ) → ((entries : List Entry) (bound : List Node) → meaning entries b bound ≡ meaning entries a bound) → NumberHolds a g w → NumberHolds b g w
  same-holds a b g w same i = record { sized = i.sized; value = λ entries here bound are. ap (λ v. holds_integer w (integer_in v)) (same entries bound) ∙ i.value entries here bound are }

  folded-sound : (w : ℕ) (o : Option ℤ) (a : Core) (g : List (List ℕ)) → NumberHolds (folded w o a) g w → Sound clafers scopes a g → Sound clafers scopes (folded w o a) g
  folded-sound w None a g i s = s
  folded-sound w (Some z) a g i s = record { well_made = i.sized; value = i.value }

  pub negated-sound : (w : ℕ) (a : Core) (g : List (List ℕ)) → is_number (sort a) ≡ true → Sound clafers scopes a g → NumberHolds (negated w a) g w → Sound clafers scopes (negated w a) g
  unfolding negated
  negated-sound w a g p s i =
      let j = same-holds (negated w a) (c.Neg w a) g w (λ entries bound. sym (negated-means entries bound w a)) i in
      folded-sound w (of_one neg_ℤ a) (c.Neg w a) g i (p, s, record { well_made = j.sized; value = j.value })

  pub added-sound : (w : ℕ) (a b : Core) (g : List (List ℕ)) → is_number (sort a) ≡ true → is_number (sort b) ≡ true → Sound clafers scopes a g → Sound clafers scopes b g → NumberHolds (added w a b) g w → Sound clafers scopes (added w a b) g
  unfolding added
  added-sound w a b g p q s t i =
      let j = same-holds (added w a b) (c.Add w a b) g w (λ entries bound. sym (added-means entries bound w a b)) i in
      folded-sound w (of_two (λ x y. x +ℤ y) a b) (c.Add w a b) g i (p, q, s, t, record { well_made = j.sized; value = j.value })

  pub multiplied-sound : (w : ℕ) (a b : Core) (g : List (List ℕ)) → is_number (sort a) ≡ true → is_number (sort b) ≡ true → Sound clafers scopes a g → Sound clafers scopes b g → NumberHolds (multiplied w a b) g w
      → Sound clafers scopes (multiplied w a b) g
  unfolding multiplied
  multiplied-sound w a b g p q s t i =
      let j = same-holds (multiplied w a b) (c.Mul w a b) g w (λ entries bound. sym (multiplied-means entries bound w a b)) i in
      folded-sound w (of_two (λ x y. x *ℤ y) a b) (c.Mul w a b) g i (p, q, s, t, record { well_made = j.sized; value = j.value })

-- ---- weights
module _ (scopes : Scopes) where
  folded-light : (w : ℕ) (o : Option ℤ) (a : Core) → 2 ≤ core_weight scopes a → core_weight scopes (folded w o a) ≤ core_weight scopes a
  folded-light w None a h = omega arith
  folded-light w (Some z) a h = h

  times-some : (w : ℕ) → 2 ≤ 16 * (w + 1) * (w + 1)
  times-some w = mul-le 2 1 (16 * (w + 1)) (w + 1) (omega arith) (omega arith)

  one-some : (w x : ℕ) → 2 ≤ 16 * (w + 1) + x
  one-some w x = omega arith

  two-some : (w x y : ℕ) → 2 ≤ 16 * (w + 1) + x + y
  two-some w x y = omega arith

  product-some : (m x y : ℕ) → 2 ≤ m → 2 ≤ m + x + y
  product-some m x y h = omega (arith, h)

  pub negated-light : (w : ℕ) (a : Core) → core_weight scopes (negated w a) ≤ 16 * (w + 1) + core_weight scopes a
  unfolding negated
  negated-light w a = folded-light w (of_one neg_ℤ a) (c.Neg w a) (one-some w (core_weight scopes a))

  pub added-light : (w : ℕ) (a b : Core) → core_weight scopes (added w a b) ≤ 16 * (w + 1) + core_weight scopes a + core_weight scopes b
  unfolding added
  added-light w a b = folded-light w (of_two (λ x y. x +ℤ y) a b) (c.Add w a b) (two-some w (core_weight scopes a) (core_weight scopes b))

  pub multiplied-light : (w : ℕ) (a b : Core) → core_weight scopes (multiplied w a b) ≤ 16 * (w + 1) * (w + 1) + core_weight scopes a + core_weight scopes b
  unfolding multiplied
  multiplied-light w a b =
      folded-light w (of_two (λ x y. x *ℤ y) a b) (c.Mul w a b) (product-some (16 * (w + 1) * (w + 1)) (core_weight scopes a) (core_weight scopes b) (times-some w))
