-- The first refusal is before or beside each other.
use Rattle.std.proofs.Common.{◌≡◌, ℕ, zero, suc, ◌+◌, ◌<◌, ◌≤◌, ◌==◌, ◌&&◌, ◌||◌, Bool, true, false, not, List, [], ◌∷◌, length, Option, Some, None, refl, ap, sym, ◌∙◌, subst, arith, ◌⊎◌, inl, inr, nat_lt, get_or}
use Rattle.std.specs.Prelude.{Contains, if◌then◌else◌, IsTrue}
use Rattle.std.specs.List.{list_all}
use Rattle.std.proofs.lemmas.Bool.Decides.{nat_tests}
use Rattle.std.proofs.lemmas.Bool.{true≢false}
use Rattle.clf_base.specs.declared.fault.Refusal.{Refusal}
use Rattle.refusal_order.specs.Order.{is_before, with_refusal, with_refusals, first_refusal, IsFirst, FindsFirst}

abbrev before : ℕ → ℕ → ℕ → ℕ → ℕ → ℕ → Bool
before l c k m d j = nat_lt l m || (l == m && (nat_lt c d || (c == d && nat_lt k j)))

irreflexive : (l c k : ℕ) → before l c k l c k ≡ false
irreflexive l c k = grind (arith, nat_tests)

later : (l c k m d j n e i : ℕ) → before l c k m d j ≡ true → before l c k n e i ≡ false → before m d j n e i ≡ false
later l c k m d j n e i p q = grind (arith, nat_tests)

stepwise : (l c k m d j n e i : ℕ) → before l c k m d j ≡ false → before m d j n e i ≡ false → before l c k n e i ≡ false
stepwise l c k m d j n e i p q = grind (arith, nat_tests)

both : (a b : Bool) → (a && b) ≡ true → (a ≡ true) × (b ≡ true)
both true b h = (refl, h)
both false b h = absurd (true≢false (sym h))

is_not : (b : Bool) → not b ≡ true → b ≡ false
is_not true h = (cc)
is_not false h = refl

together : (a b c : Bool) → a ≡ false → b ≡ false → c ≡ true → (not a && (not b && c)) ≡ true
together a b c p q r = ap (λ z. not z && (not b && c)) p ∙ ap (λ z. not z && c) q ∙ r

alone : (a : Bool) → a ≡ false → (not a && true) ≡ true
alone a p = ap (λ z. not z && true) p

further : (x r : Refusal) (rs : List Refusal) → Contains rs r → Contains (x ∷ rs) r
further x r rs (k, within, is) = (suc k, omega arith, is)

second : (f x r : Refusal) (rs : List Refusal) → Contains (f ∷ rs) r → Contains (f ∷ x ∷ rs) r
second f x r rs (zero, within, is) = (0, omega arith, is)
second f x r rs (suc k, within, is) = (suc (suc k), omega arith, is)

first_of : (x f r : Refusal) (rs : List Refusal) (b : Bool) → is_before x f ≡ b → with_refusals (if b then Some x else Some f) rs ≡ Some r
    → ((y : Refusal) → with_refusals (Some y) rs ≡ Some r → IsFirst (y ∷ rs) r) → IsFirst (f ∷ x ∷ rs) r
first_of x f r rs true met e go =
    let known = go x e in
    let parts = both (not (is_before x r)) (list_all (λ s. not (is_before s r)) rs) known.least in
    let mine = is_not (is_before x r) parts.0 in
    let other = later x.at.line x.at.column x.code f.at.line f.at.column f.code r.at.line r.at.column r.code met mine in
    record {
      among = further f r (x ∷ rs) known.among;
      least = together (is_before f r) (is_before x r) (list_all (λ s. not (is_before s r)) rs) other mine parts.1;
    }
first_of x f r rs false met e go =
    let known = go f e in
    let parts = both (not (is_before f r)) (list_all (λ s. not (is_before s r)) rs) known.least in
    let mine = is_not (is_before f r) parts.0 in
    let other = stepwise x.at.line x.at.column x.code f.at.line f.at.column f.code r.at.line r.at.column r.code met mine in
    record {
      among = second f x r rs known.among;
      least = together (is_before f r) (is_before x r) (list_all (λ s. not (is_before s r)) rs) mine other parts.1;
    }

go_on : (rs : List Refusal) (f r : Refusal) → with_refusals (Some f) rs ≡ Some r → IsFirst (f ∷ rs) r
go_on [] f r e =
    let same : f ≡ r = (cc) in
    subst (IsFirst (f ∷ [])) same (record { among = (0, omega arith, refl); least = alone (is_before f f) (irreflexive f.at.line f.at.column f.code) })
go_on (x ∷ rs) f r e = first_of x f r rs (is_before x f) refl e (λ y. go_on rs y r)

either : (x f : Refusal) (rs : List Refusal) (b : Bool) → ((y : Refusal) → with_refusals (Some y) rs ≡ None → ⊥) → with_refusals (if b then Some x else Some f) rs ≡ None → ⊥
either x f rs true go e = go x e
either x f rs false go e = go f e

found : (rs : List Refusal) (f : Refusal) → with_refusals (Some f) rs ≡ None → ⊥
found [] f e = (cc)
found (x ∷ rs) f e = either x f rs (is_before x f) (λ y. found rs y) e

pub finds_first : FindsFirst
finds_first [] = (λ r e. (cc), λ e. refl)
finds_first (x ∷ rs) = (λ r e. go_on rs x r e, λ e. absurd (found rs x e))
