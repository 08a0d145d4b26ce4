-- Scopes that aren't refused are small.
use Rattle.std.proofs.Common.{◌≡◌, ℕ, zero, suc, ◌+◌, ◌<◌, ◌≤◌, Bool, true, false, not, cond, List, [], ◌∷◌, ◌++◌, length, map, get_or, sum, ◌*◌, option_map, option_to_list, Option, Some, None, inl, inr, refl, ap, sym, ◌∙◌, arith, if◌then◌else◌}
use Rattle.std.specs.Prelude.{nat_lt, is_none, is_some}
use Rattle.std.specs.Option.{option_map_or}
use Rattle.std.specs.List.{find, flat_map, range_with_len}
use Rattle.std.proofs.lemmas.Grind.{common_steps}
use Rattle.std.proofs.lemmas.Bool.Decides.{leb_tells}
use Rattle.clf_base.specs.declared.fault.Refusal.{Refusal}
use Rattle.clf_tree.specs.declared.model.Clafer.{Clafer}
use Rattle.clf_tree.specs.declared.scopes.Given.{Given}
use Rattle.clf_tree.specs.declared.scopes.GivenScope.{GivenScope}
use Rattle.clf_tree.specs.Lists.{numbers_below}
use Rattle.clf_tree.specs.Hierarchy.{is_concrete, parent_of, owners}
use Rattle.scope_table.specs.Paths.{named_by, is_for, given_to}
use Rattle.scope_table.specs.Largest.{scope, scope_within, most_of, told}
use Rattle.scope_table.specs.Refusals.{known_refusal, given_refusal, given_refusals, large_refusals, all_scopes, sum_refusals}
use Rattle.scope_table.specs.Fitting.{Fit}
use Rattle.scope_table.specs.Steps.{AreLargest}
use Rattle.scope_table.proofs.Lists.{sum_few, of_exact}
use Rattle.scope_table.proofs.Rounds.{nothing_past}

empty_parts : {X : Type 0} (xs ys : List X) → xs ++ ys ≡ [] → (xs ≡ []) × (ys ≡ [])
empty_parts [] ys e = (refl, e)
empty_parts (x ∷ xs) ys e = (cc)

no_some : {X : Type 0} (x : X) → Some x ≡ None → ⊥
no_some x e = (cc)

not_cons : {X : Type 0} (o : Option X) → option_to_list o ≡ [] → o ≡ None
not_cons None e = refl
not_cons (Some x) e = (cc)

known_small : (clafers : List Clafer) (before : List GivenScope) (g : GivenScope) (c : ℕ) (a b d : Bool) → not (is_concrete clafers c) ≡ a → is_some (given_to clafers before c) ≡ b → nat_lt 256 g.most ≡ d
    → known_refusal clafers before g c ≡ None → d ≡ false
known_small clafers before g c true b d ea eb ed none = (cc)
known_small clafers before g c false true d ea eb ed none = absurd (no_some _ (rw (ea, eb) at none))
known_small clafers before g c false false true ea eb ed none = absurd (no_some _ (rw (ea, eb, ed) at none))
known_small clafers before g c false false false ea eb ed none = refl

not_more : (n : ℕ) → nat_lt 256 n ≡ false → n ≤ 256
not_more n h = grind (arith, common_steps)

own_small : (clafers : List Clafer) (before : List GivenScope) (g : GivenScope) (o : Option ℕ) → named_by clafers g.path ≡ o → given_refusal clafers before g ≡ None → g.most ≤ 256
own_small clafers before g None e none = absurd (no_some _ (rw e at none))
own_small clafers before g (Some c) e none =
    let known : known_refusal clafers before g c ≡ None = rw e at none in
    not_more g.most (known_small clafers before g c (not (is_concrete clafers c)) (is_some (given_to clafers before c)) (nat_lt 256 g.most) refl refl refl known)

same_some : (x y : ℕ) → Some x ≡ Some y → x ≡ y
same_some x y e = (cc)

first_small : (clafers : List Clafer) (before : List GivenScope) (g : GivenScope) (gs : List GivenScope) (c m : ℕ) (b : Bool) → is_for clafers c g ≡ b → given_refusal clafers before g ≡ None
    → given_to clafers (g ∷ gs) c ≡ Some m → (given_to clafers gs c ≡ Some m → m ≤ 256) → m ≤ 256
first_small clafers before g gs c m true e none found rest =
    let same : g.most ≡ m = same_some g.most m (sym (ap (λ b. option_map (λ (x : GivenScope). x.most) (cond b (Some g) (find (is_for clafers c) gs))) e) ∙ found) in
    rw (← same) (own_small clafers before g (named_by clafers g.path) refl none)
first_small clafers before g gs c m false e none found rest =
    rest (sym (ap (λ b. option_map (λ (x : GivenScope). x.most) (cond b (Some g) (find (is_for clafers c) gs))) e) ∙ found)

given_small : (clafers : List Clafer) (before gs : List GivenScope) (c m : ℕ) → given_refusals clafers before gs ≡ [] → given_to clafers gs c ≡ Some m → m ≤ 256
given_small clafers before [] c m none found = (cc)
given_small clafers before (g ∷ gs) c m none found =
    let parts = empty_parts (option_to_list (given_refusal clafers before g)) (given_refusals clafers (before ++ g ∷ []) gs) none in
    first_small clafers before g gs c m (is_for clafers c g) refl (not_cons (given_refusal clafers before g) parts.0) found (given_small clafers (before ++ g ∷ []) gs c m parts.1)

none_at : {X : Type 0} (f : ℕ → List X) (a n i : ℕ) → flat_map f (range_with_len a n) ≡ [] → i < n → f (a + i) ≡ []
none_at f a zero i e lt = absurd (omega (arith, lt))
none_at f a (suc n) zero e lt =
    let same : a + 0 ≡ a = omega arith in
    ap f same ∙ (empty_parts (f a) (flat_map f (range_with_len (a + 1) n)) e).0
none_at f a (suc n) (suc i) e lt =
    let same : a + suc i ≡ (a + 1) + i = omega arith in
    ap f same ∙ none_at f (a + 1) n i (empty_parts (f a) (flat_map f (range_with_len (a + 1) n)) e).1 (omega (arith, lt))

within_abstract : (clafers : List Clafer) (given : Given) (n c : ℕ) → is_concrete clafers c ≡ false → scope_within clafers given n c ≡ 0
within_abstract clafers given zero c e = refl
within_abstract clafers given (suc n) c e = rw e refl

over_at_most : (b : Bool) (o : Option ℕ) (m x : ℕ) → o ≡ Some m → (if b then option_map_or (λ z. z) o x else 0) ≤ m
over_at_most true o m x e = rw e (omega arith)
over_at_most false o m x e = omega arith

within_given : (clafers : List Clafer) (given : Given) (n c m : ℕ) → given_to clafers given.scopes c ≡ Some m → scope_within clafers given n c ≤ m
within_given clafers given zero c m e = omega arith
within_given clafers given (suc n) c m e =
    over_at_most (is_concrete clafers c) (given_to clafers given.scopes c) m
    (most_of clafers given c * (if is_none (parent_of clafers c) then 1 else sum (map (scope_within clafers given n) (owners clafers c)))) e

large_none : (clafers : List Clafer) (given : Given) (c : ℕ) (b d : Bool) → is_none (given_to clafers given.scopes c) ≡ b → nat_lt 256 (scope clafers given c) ≡ d → large_refusals clafers given c ≡ [] → b ≡ true → d ≡ false
large_none clafers given c b false eb ed none met = refl
large_none clafers given c b true eb ed none met = absurd (not_empty (rw (eb ∙ met, ed) at none))
  where
    not_empty : {x : Refusal} {xs : List Refusal} → x ∷ xs ≡ [] → ⊥
    not_empty e = (cc)

one_small : (clafers : List Clafer) (given : Given) (c : ℕ) (o : Option ℕ) → given_to clafers given.scopes c ≡ o → given_refusals clafers [] given.scopes ≡ [] → large_refusals clafers given c ≡ [] → scope clafers given c ≤ 256
one_small clafers given c (Some m) e fine none =
    let a = given_small clafers [] given.scopes c m fine e in
    let b = within_given clafers given (length clafers) c m e in
    omega (arith, a, b)
one_small clafers given c None e fine none =
    not_more (scope clafers given c) (large_none clafers given c (is_none (given_to clafers given.scopes c)) (nat_lt 256 (scope clafers given c)) refl refl none (ap is_none e))

each_small : (clafers : List Clafer) (given : Given) (c : ℕ) → given_refusals clafers [] given.scopes ≡ [] → flat_map (large_refusals clafers given) (numbers_below (length clafers)) ≡ [] → scope clafers given c ≤ 256
each_small clafers given c fine none =
    elim (leb_tells (length clafers) c) [
      | inl le ↦ let z = within_abstract clafers given (length clafers) c (past le.1) in omega (arith, z)
      | inr lt ↦ one_small clafers given c (given_to clafers given.scopes c) refl fine (at lt.1)
    ]
  where
    past : length clafers ≤ c → is_concrete clafers c ≡ false
    past le = rw (nothing_past clafers c le) refl

    at : c < length clafers → large_refusals clafers given c ≡ []
    at lt =
        let same : 0 + c ≡ c = omega arith in
        rw same at (none_at (large_refusals clafers given) 0 (length clafers) c none lt)

pub they_fit : (clafers : List Clafer) (given : Given) (of scopes : List ℕ) → length of ≡ length clafers → AreLargest clafers given of → given_refusals clafers [] given.scopes ≡ []
    → flat_map (large_refusals clafers given) (numbers_below (length clafers)) ≡ [] → sum_refusals clafers given ≡ [] → scopes ≡ of → Fit clafers scopes
they_fit clafers given of scopes long are fine none few same = record {
  one_each = ap length same ∙ long;
  abstract_none = λ c e. ap (λ xs. get_or xs c 0) same ∙ are c ∙ ap told (within_abstract clafers given (length clafers) c e);
  small = λ c.
      let e : get_or scopes c 0 ≡ told (scope clafers given c) = ap (λ xs. get_or xs c 0) same ∙ are c in
      let s = each_small clafers given c fine none in
      omega (arith, e, s);
  few =
      let e : sum scopes ≡ sum (all_scopes clafers given) = ap sum (same ∙ of_exact clafers given of long are few) in
      let s = sum_few clafers given of long are few in
      omega (arith, e, s);
}
