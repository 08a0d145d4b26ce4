-- Parts of tests that are joined.
use Rattle.std.proofs.Common.{◌≡◌, Bool, true, false, ◌&&◌, ◌||◌, not, refl, sym}
use Rattle.std.proofs.lemmas.Bool.{true≢false}

pub differ : {P : Type 0} (b : Bool) → b ≡ true → b ≡ false → P
differ true p q = absurd (true≢false q)
differ false p q = absurd (true≢false (sym p))

pub or_left : (a b : Bool) → a ≡ true → (a || b) ≡ true
or_left true b h = refl
or_left false b h = absurd (true≢false (sym h))

pub or_right : (a b : Bool) → b ≡ true → (a || b) ≡ true
or_right true b h = refl
or_right false b h = h

pub or_first : (a b : Bool) → (a || b) ≡ false → a ≡ false
or_first true b h = h
or_first false b h = refl

pub or_second : (a b : Bool) → (a || b) ≡ false → b ≡ false
or_second true b h = absurd (true≢false h)
or_second false b h = h

pub or_none : (a b : Bool) → a ≡ false → b ≡ false → (a || b) ≡ false
or_none true b p q = p
or_none false b p q = q

pub or_rest : (a b : Bool) → a ≡ false → (a || b) ≡ b
or_rest true b h = absurd (true≢false h)
or_rest false b h = refl

pub or_either : {P : Type 0} (a b : Bool) → (a || b) ≡ true → (a ≡ true → P) → (b ≡ true → P) → P
or_either true b h first second = first refl
or_either false b h first second = second h

pub and_left : (a b : Bool) → (a && b) ≡ true → a ≡ true
and_left true b h = refl
and_left false b h = h

pub and_right : (a b : Bool) → (a && b) ≡ true → b ≡ true
and_right true b h = h
and_right false b h = absurd (true≢false (sym h))

pub and_rest : (a b : Bool) → a ≡ true → (a && b) ≡ b
and_rest true b h = refl
and_rest false b h = absurd (true≢false (sym h))

-- one of the two is false
pub and_none : (a b : Bool) → a ≡ false → (a && b) ≡ false
and_none true b h = absurd (true≢false h)
and_none false b h = refl

pub and_nor : (a b : Bool) → b ≡ false → (a && b) ≡ false
and_nor true b h = h
and_nor false b h = refl

pub both : (a b : Bool) → a ≡ true → b ≡ true → (a && b) ≡ true
both true b p q = q
both false b p q = absurd (true≢false (sym p))

pub not_false : (a : Bool) → not a ≡ true → a ≡ false
not_false true h = sym h
not_false false h = refl

pub not_true : (a : Bool) → a ≡ false → not a ≡ true
not_true true h = sym h
not_true false h = refl

-- it is true or false
pub by_truth : {P : Type 0} (b : Bool) → (b ≡ true → P) → (b ≡ false → P) → P
by_truth true yes_it_is it_is_not = yes_it_is refl
by_truth false yes_it_is it_is_not = it_is_not refl
