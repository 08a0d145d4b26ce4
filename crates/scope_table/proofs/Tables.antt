-- Tables of what is given.
use Rattle.std.proofs.Common.{◌≡◌, ◌≢◌, ℕ, zero, suc, ◌+◌, ◌<◌, ◌≤◌, Bool, true, false, cond, List, [], ◌∷◌, ◌++◌, length, get_or, set, take, drop, replicate, option_map, option_to_list, Option, Some, None, refl, ap, sym, ◌∙◌, arith, nat_eq, ◌⊎◌, inl, inr}
use Rattle.std.specs.Prelude.{slice_get, nat_lt, is_some}
use Rattle.std.specs.Option.{option_eq}
use Rattle.std.specs.List.{find}
use Rattle.std.proofs.lemmas.Grind.{common_steps}
use Rattle.std.proofs.lemmas.Bool.Decides.{eqb_tells}
use Rattle.std.proofs.lemmas.List.{get_or-set_same, get_or-set_other, take_more, drop_more, length-take}
use Rattle.clf_base.specs.declared.fault.Refusal.{Refusal}
use Rattle.clf_tree.specs.declared.model.Clafer.{Clafer}
use Rattle.clf_tree.specs.declared.scopes.GivenScope.{GivenScope}
use Rattle.scope_table.specs.Paths.{named_by, is_for, given_to}
use Rattle.scope_table.specs.Refusals.{given_refusal, given_refusals, refused, nowhere}
use Rattle.scope_table.specs.Steps.{IsGiven}

some_none : {X : Type 0} (x : X) → Some x ≡ None → ⊥
some_none x e = (cc)

none_step : {X : Type 0} (p : X → Bool) (x : X) (xs : List X) (y : X) (b : Bool) → p x ≡ b → find p (x ∷ xs) ≡ None → (find p xs ≡ None → find p (xs ++ y ∷ []) ≡ cond (p y) (Some y) None)
    → find p ((x ∷ xs) ++ y ∷ []) ≡ cond (p y) (Some y) None
none_step p x xs y true h e rest = absurd (some_none x (sym (ap (λ c. cond c (Some x) (find p xs)) h) ∙ e))
none_step p x xs y false h e rest = ap (λ c. cond c (Some x) (find p (xs ++ y ∷ []))) h ∙ rest (sym (ap (λ c. cond c (Some x) (find p xs)) h) ∙ e)

find_none : {X : Type 0} (p : X → Bool) (xs : List X) (y : X) → find p xs ≡ None → find p (xs ++ y ∷ []) ≡ cond (p y) (Some y) None
find_none p [] y e = refl
find_none p (x ∷ xs) y e = none_step p x xs y (p x) refl e (find_none p xs y)

find_other : {X : Type 0} (p : X → Bool) (xs : List X) (y : X) → p y ≡ false → find p (xs ++ y ∷ []) ≡ find p xs
find_other p [] y e = ap (λ c. cond c (Some y) None) e
find_other p (x ∷ xs) y e = ap (cond (p x) (Some x)) (find_other p xs y e)

mapped_none : {X Y : Type 0} (f : X → Y) (o : Option X) → option_map f o ≡ None → o ≡ None
mapped_none f None e = refl
mapped_none f (Some x) e = (cc)

number_same : (c : ℕ) → option_eq nat_eq (Some c) (Some c) ≡ true
number_same c = grind (arith, common_steps)

number_other : (a c : ℕ) → (a ≢ c) → option_eq nat_eq (Some a) (Some c) ≡ false
number_other a c ne = grind (arith, common_steps)

-- the next given scope goes into the table at its clafer
pub put : (clafers : List Clafer) (before : List GivenScope) (g : GivenScope) (table : List (Option ℕ)) (a most : ℕ)
    → IsGiven clafers before table → a < length table → named_by clafers g.path ≡ Some a → given_to clafers before a ≡ None → most ≡ g.most
    → IsGiven clafers (before ++ g ∷ []) (set table a (Some most))
put clafers before g table a most known lt own fresh same c = at (eqb_tells a c)
  where
    is_own : (c : ℕ) → is_for clafers c g ≡ option_eq nat_eq (Some a) (Some c)
    is_own c = ap (λ o. option_eq nat_eq o (Some c)) own

    at : ((nat_eq a c ≡ true) × (a ≡ c)) ⊎ ((nat_eq a c ≡ false) × (a ≢ c)) → get_or (set table a (Some most)) c None ≡ given_to clafers (before ++ g ∷ []) c
    at (inl h) =
        let mine : is_for clafers a g ≡ true = is_own a ∙ number_same a in
        let whole : given_to clafers (before ++ g ∷ []) a ≡ Some g.most =
        ap (option_map (λ (x : GivenScope). x.most)) (find_none (is_for clafers a) before g (mapped_none (λ (x : GivenScope). x.most) (find (is_for clafers a) before) fresh) ∙ ap (λ b. cond b (Some g) None) mine) in
        rw (← h.1) (get_or-set_same table a (Some most) None lt ∙ ap Some same ∙ sym whole)
    at (inr h) =
        get_or-set_other table a c (Some most) None (λ e. h.1 (sym e))
        ∙ known c
        ∙ sym (ap (option_map (λ (x : GivenScope). x.most)) (find_other (is_for clafers c) before g (is_own c ∙ number_other a c h.1)))

pub none_given : (clafers : List Clafer) (n c : ℕ) → get_or (replicate n None) c None ≡ given_to clafers [] c
none_given clafers zero c = refl
none_given clafers (suc n) zero = refl
none_given clafers (suc n) (suc c) = none_given clafers n c

-- ---- what is refused of a given scope

module _ (clafers : List Clafer) (before : List GivenScope) (g : GivenScope) (c : ℕ) (k : Clafer) (own : named_by clafers g.path ≡ Some c) (found : slice_get clafers c ≡ Some k) where
  pub abstract_refused : k.is_abstract ≡ true → given_refusal clafers before g ≡ Some (refused 81 nowhere (length before + 1))
  abstract_refused abs = rw (own, found, abs) refl

  pub again_refused : k.is_abstract ≡ false → is_some (given_to clafers before c) ≡ true → given_refusal clafers before g ≡ Some (refused 82 nowhere (length before + 1))
  again_refused concrete met = rw (own, found, concrete, met) refl

  pub large_refused : k.is_abstract ≡ false → is_some (given_to clafers before c) ≡ false → nat_lt 256 g.most ≡ true → given_refusal clafers before g ≡ Some (refused 83 nowhere g.most)
  large_refused concrete fresh large = rw (own, found, concrete, fresh, large) refl

  pub not_refused : k.is_abstract ≡ false → is_some (given_to clafers before c) ≡ false → nat_lt 256 g.most ≡ false → given_refusal clafers before g ≡ None
  not_refused concrete fresh small = rw (own, found, concrete, fresh, small) refl

pub unknown_refused : (clafers : List Clafer) (before : List GivenScope) (g : GivenScope) → named_by clafers g.path ≡ None → given_refusal clafers before g ≡ Some (refused 80 nowhere (length before + 1))
unknown_refused clafers before g none = rw none refl

pub is_none_of : (o : Option ℕ) → is_some o ≡ false → o ≡ None
is_none_of None e = refl
is_none_of (Some x) e = (cc)

pub above : (n : ℕ) → 256 < n → nat_lt 256 n ≡ true
above n h = grind (arith, common_steps)

pub not_above : (n : ℕ) → n ≤ 256 → nat_lt 256 n ≡ false
not_above n h = grind (arith, common_steps)

-- ---- the given scopes one after another

pub refusals_on : (clafers : List Clafer) (given : List GivenScope) (i : ℕ) (g : GivenScope) → i < length given → g ≡ get_or given i g → given_refusal clafers (take i given) g ≡ None
    → given_refusals clafers (take i given) (drop i given) ≡ given_refusals clafers (take (i + 1) given) (drop (i + 1) given)
refusals_on clafers given i g lt at fine =
    ap (given_refusals clafers (take i given)) (drop_more given i g lt ∙ ap (λ x. x ∷ drop (i + 1) given) (sym at))
    ∙ ap (λ o. option_to_list o ++ given_refusals clafers (take i given ++ g ∷ []) (drop (i + 1) given)) fine
    ∙ ap (λ xs. given_refusals clafers xs (drop (i + 1) given)) (sym (take_more given i g lt ∙ ap (λ x. take i given ++ x ∷ []) (sym at)))

pub refusals_here : (clafers : List Clafer) (given : List GivenScope) (i : ℕ) (g : GivenScope) (r : Refusal) → i < length given → g ≡ get_or given i g → given_refusal clafers (take i given) g ≡ Some r
    → slice_get (given_refusals clafers (take i given) (drop i given)) 0 ≡ Some r
refusals_here clafers given i g r lt at met =
    ap (λ xs. slice_get (given_refusals clafers (take i given) xs) 0) (drop_more given i g lt ∙ ap (λ x. x ∷ drop (i + 1) given) (sym at))
    ∙ ap (λ o. slice_get (option_to_list o ++ given_refusals clafers (take i given ++ g ∷ []) (drop (i + 1) given)) 0) met

pub put_next : (clafers : List Clafer) (given : List GivenScope) (i : ℕ) (g : GivenScope) (table : List (Option ℕ)) (a most : ℕ) → i < length given → g ≡ get_or given i g
    → IsGiven clafers (take i given) table → a < length table → named_by clafers g.path ≡ Some a → given_to clafers (take i given) a ≡ None → most ≡ g.most
    → IsGiven clafers (take (i + 1) given) (set table a (Some most))
put_next clafers given i g table a most lt at known small own fresh same c =
    put clafers (take i given) g table a most known small own fresh same c
    ∙ ap (λ xs. given_to clafers xs c) (sym (take_more given i g lt ∙ ap (λ x. take i given ++ x ∷ []) (sym at)))

pub take_long : {X : Type 0} (xs : List X) (i : ℕ) → i < length xs → length (take i xs) ≡ i
take_long xs i lt =
    let whole = length-take i xs in
    omega (arith, lt, whole)
