-- Tests of two numbers, bit by bit.
use Rattle.std.proofs.Common.{◌≡◌, ℕ, suc, zero, ◌+◌, ◌*◌, ◌^◌, ◌<◌, ◌≤◌, Bool, true, false, not, ◌&&◌, ◌||◌, if◌then◌else◌, List, [], ◌∷◌, ◌++◌, length, take, slice_get, Some, refl, sym, ap, ◌∙◌, subst, arith}
use Rattle.std.specs.Prelude.{ℤ, pos, ◌+ℤ◌, ◌*ℤ◌, int_lt, nat_lt, nat_eq, IsTrue, ◌↔◌}
use Rattle.std.proofs.lemmas.Int.{ints}
use Rattle.std.proofs.lemmas.Bool.{eqb-true, eq-eqb}
use Rattle.std.proofs.lemmas.Bool.Decides.{nat_tests}
use Rattle.std.proofs.lemmas.Option.{get_or_from_slice_get}
use Rattle.std.proofs.lemmas.List.{take_all, take_more, length-map, length-take-le}
use Rattle.bool_circuit.specs.declared.gate.Wire.{Wire}
use Rattle.bool_circuit.specs.declared.gate.Gate.{Gate}
use Rattle.bool_circuit.specs.Circuit.{bool_xor, wire_value, wire_values, IsWireOf, AreWiresOf, Extends}
use Rattle.bool_circuit.proofs.Extending.{extends_trans}
use Rattle.integer_bits.proofs.Congruent.{congruent_fits, congruent_trans, congruent_sym, congruent_same, natural_congruent, integer_fits, pow_suc}
use Rattle.integer_bits.proofs.Ripple.{natural_of-push, map-push}
use Rattle.integer_bits.proofs.Resizing.{length_resized, length_values, integer_of_resized_wires, fits_wider}
use Rattle.integer_bits.specs.Numbers.{bit, natural_of, integer_of, integer_at, FitsBits, IsCongruent, resized}
use Rattle.integer_bits.specs.Steps.{IsTestSoFar, is_below, differs}

pub natural_below : (bs : List Bool) → natural_of bs < 2 ^ length bs
natural_below [] = omega arith
natural_below (true ∷ bs) = omega (arith, natural_below bs, pow_suc (length bs))
natural_below (false ∷ bs) = omega (arith, natural_below bs, pow_suc (length bs))

lt_table : (x y : Bool) (m n p : ℕ) → m < p → n < p → nat_lt (m + bit x * p) (n + bit y * p) ≡ (if bool_xor x y then y else nat_lt m n)
lt_table true true m n p h k = grind (arith, nat_tests)
lt_table true false m n p h k = grind (arith, nat_tests)
lt_table false true m n p h k = grind (arith, nat_tests)
lt_table false false m n p h k = grind (arith, nat_tests)

eq_table : (x y : Bool) (m n p : ℕ) → m < p → n < p → nat_eq (m + bit x * p) (n + bit y * p) ≡ (nat_eq m n && not (bool_xor x y))
eq_table true true m n p h k = grind (arith, nat_tests)
eq_table true false m n p h k = grind (arith, nat_tests)
eq_table false true m n p h k = grind (arith, nat_tests)
eq_table false false m n p h k = grind (arith, nat_tests)

over_and : (t d : Bool) → not (t && not d) ≡ (not t || d)
over_and true true = refl
over_and true false = refl
over_and false true = refl
over_and false false = refl

differs_table : (x y : Bool) (m n p : ℕ) → m < p → n < p → not (nat_eq (m + bit x * p) (n + bit y * p)) ≡ (not (nat_eq m n) || bool_xor x y)
differs_table true true m n p h k = ap not (eq_table true true m n p h k) ∙ over_and (nat_eq m n) false
differs_table true false m n p h k = ap not (eq_table true false m n p h k) ∙ over_and (nat_eq m n) true
differs_table false true m n p h k = ap not (eq_table false true m n p h k) ∙ over_and (nat_eq m n) true
differs_table false false m n p h k = ap not (eq_table false false m n p h k) ∙ over_and (nat_eq m n) false

pub is_below-push : (xs ys : List Bool) (x y : Bool) → length xs ≡ length ys → is_below (xs ++ x ∷ []) (ys ++ y ∷ []) ≡ (if bool_xor x y then y else is_below xs ys)
is_below-push xs ys x y l =
    let p : 2 ^ length ys ≡ 2 ^ length xs = ap (λ k. 2 ^ k) (sym l) in
    let b : natural_of ys < 2 ^ length xs = rw p at (natural_below ys) in
    rw (natural_of-push xs x, natural_of-push ys y, p) (lt_table x y (natural_of xs) (natural_of ys) (2 ^ length xs) (natural_below xs) b)

pub differs-push : (xs ys : List Bool) (x y : Bool) → length xs ≡ length ys → differs (xs ++ x ∷ []) (ys ++ y ∷ []) ≡ (differs xs ys || bool_xor x y)
differs-push xs ys x y l =
    let p : 2 ^ length ys ≡ 2 ^ length xs = ap (λ k. 2 ^ k) (sym l) in
    let b : natural_of ys < 2 ^ length xs = rw p at (natural_below ys) in
    rw (natural_of-push xs x, natural_of-push ys y, p) (differs_table x y (natural_of xs) (natural_of ys) (2 ^ length xs) (natural_below xs) b)

-- ---- integers

top_step : (c b : Bool) (z : ℤ) (n p : ℕ) → z +ℤ pos (bit b * p) ≡ pos n → (pos (bit c) +ℤ pos 2 *ℤ z) +ℤ pos (bit b * (2 * p)) ≡ pos (bit c + 2 * n)
top_step c true z n p e = omega (arith, ints)
top_step c false z n p e = omega (arith, ints)

-- the last bit counts against the others
pub integer_of-push : (bs : List Bool) (b : Bool) → integer_of (bs ++ b ∷ []) +ℤ pos (bit b * 2 ^ length bs) ≡ pos (natural_of bs)
integer_of-push [] true = refl
integer_of-push [] false = refl
integer_of-push (c ∷ []) b = rw (pow_suc 0) (top_step c b (integer_of (b ∷ [])) 0 (2 ^ 0) (integer_of-push [] b))
integer_of-push (c ∷ d ∷ bs) b = rw (pow_suc (length (d ∷ bs))) (top_step c b (integer_of (d ∷ (bs ++ b ∷ []))) (natural_of (d ∷ bs)) (2 ^ length (d ∷ bs)) (integer_of-push (d ∷ bs) b))

int_lt_table : (x y : Bool) (u v : ℤ) (m n p : ℕ) → m < p → n < p → u +ℤ pos (bit x * p) ≡ pos m → v +ℤ pos (bit y * p) ≡ pos n → int_lt u v ≡ (if bool_xor y x then x else nat_lt m n)
int_lt_table true true u v m n p h k d e = grind (arith, ints, nat_tests)
int_lt_table true false u v m n p h k d e = grind (arith, ints, nat_tests)
int_lt_table false true u v m n p h k d e = grind (arith, ints, nat_tests)
int_lt_table false false u v m n p h k d e = grind (arith, ints, nat_tests)

pub int_lt-push : (xs ys : List Bool) (x y : Bool) → length xs ≡ length ys → int_lt (integer_of (xs ++ x ∷ [])) (integer_of (ys ++ y ∷ [])) ≡ (if bool_xor y x then x else is_below xs ys)
int_lt-push xs ys x y l =
    let p : 2 ^ length ys ≡ 2 ^ length xs = ap (λ k. 2 ^ k) (sym l) in
    let b : natural_of ys < 2 ^ length xs = rw p at (natural_below ys) in
    int_lt_table x y _ _ (natural_of xs) (natural_of ys) (2 ^ length xs) (natural_below xs) b (integer_of-push xs x) (rw p at (integer_of-push ys y))

-- ---- on wires

pub values_of_first : (gates : List Gate) (a : List Wire) (i : ℕ) (x : Wire) (bits : List Bool) → i < length a → slice_get a i ≡ Some x → wire_values gates (take (i + 1) a) bits ≡ wire_values gates (take i a) bits ++ wire_value gates x bits ∷ []
values_of_first gates a i x bits l e =
    ap (λ t. wire_values gates t bits) (take_more a i x l ∙ ap (λ y. take i a ++ y ∷ []) (get_or_from_slice_get a i x x e)) ∙ map-push (λ w. wire_value gates w bits) (take i a) x

pub length_of_first : (gates : List Gate) (a : List Wire) (i : ℕ) (bits : List Bool) → i ≤ length a → length (wire_values gates (take i a) bits) ≡ i
length_of_first gates a i bits l = length-map (take i a) (λ w. wire_value gates w bits) ∙ length-take-le i a l

pub wire_at : (gates : List Gate) (a : List Wire) (i : ℕ) (x : Wire) → AreWiresOf gates a → i < length a → slice_get a i ≡ Some x → IsWireOf gates x
wire_at gates a i x h l e = subst (IsWireOf gates) (get_or_from_slice_get a i x x e) (h i x l)

pub no_test : (test : List Bool → List Bool → Bool) (old new : List Gate) (a b : List Wire) (told : Wire) → Extends old new 1 → IsWireOf new told → ((bits : List Bool) → wire_value new told bits ≡ test [] []) → IsTestSoFar test old a b 0 new told
no_test test old new a b told e w v = record { extends = e; wire = w; value = v }

pub test_more : (test : List Bool → List Bool → Bool) (next : Bool → Bool → Bool → Bool) (law : (xs ys : List Bool) (x y : Bool) → length xs ≡ length ys → test (xs ++ x ∷ []) (ys ++ y ∷ []) ≡ next x y (test xs ys))
    (old mid new : List Gate) (a b : List Wire) (i : ℕ) (told x y more : Wire) → IsTestSoFar test old a b i mid told → i < length a → i < length b → AreWiresOf old a → AreWiresOf old b → slice_get a i ≡ Some x → slice_get b i ≡ Some y
    → Extends mid new 4 → IsWireOf new more → ((bits : List Bool) → wire_value new more bits ≡ next (wire_value mid x bits) (wire_value mid y bits) (wire_value mid told bits)) → IsTestSoFar test old a b (i + 1) new more
test_more test next law old mid new a b i told x y more t la lb wa wb ex ey ext ww v = record {
  extends = (let z : 4 * (i + 1) + 1 ≡ (4 * i + 1) + 4 = omega arith in rw z (extends_trans old mid new (4 * i + 1) 4 t.extends ext));
  wire = ww;
  value = λ bits.
      let vx : wire_value mid x bits ≡ wire_value old x bits = t.extends.keeps x (wire_at old a i x wa la ex) bits in
      let vy : wire_value mid y bits ≡ wire_value old y bits = t.extends.keeps y (wire_at old b i y wb lb ey) bits in
      let l : length (wire_values old (take i a) bits) ≡ length (wire_values old (take i b) bits) = length_of_first old a i bits (omega arith) ∙ sym (length_of_first old b i bits (omega arith)) in
      v bits ∙ ap (λ u. next u (wire_value mid y bits) (wire_value mid told bits)) vx ∙ ap (λ u. next (wire_value old x bits) u (wire_value mid told bits)) vy
      ∙ ap (next (wire_value old x bits) (wire_value old y bits)) (t.value bits)
      ∙ sym (law (wire_values old (take i a) bits) (wire_values old (take i b) bits) (wire_value old x bits) (wire_value old y bits) l)
      ∙ ap (λ u. test u (wire_values old (take i b) bits ++ wire_value old y bits ∷ [])) (sym (values_of_first old a i x bits la ex))
      ∙ ap (test (wire_values old (take (i + 1) a) bits)) (sym (values_of_first old b i y bits lb ey));
}

all_but_last : (gates : List Gate) (a : List Wire) (n : ℕ) (x : Wire) (bits : List Bool) → length a ≡ n + 1 → slice_get a n ≡ Some x → wire_values gates a bits ≡ wire_values gates (take n a) bits ++ wire_value gates x bits ∷ []
all_but_last gates a n x bits l e = ap (λ t. wire_values gates t bits) (sym (take_all (n + 1) a (omega arith))) ∙ values_of_first gates a n x bits (omega arith) e

pub less_exact : (old mid new : List Gate) (a b la lb : List Wire) (n w : ℕ) (told x y more : Wire) → w ≡ n + 1 → la ≡ resized w a → lb ≡ resized w b → 0 < length a → 0 < length b → ((bits : List Bool) → FitsBits w (integer_at old a bits)) → ((bits : List Bool) → FitsBits w (integer_at old b bits))
    → AreWiresOf old la → AreWiresOf old lb → IsTestSoFar is_below old la lb n mid told → slice_get la n ≡ Some x → slice_get lb n ≡ Some y
    → ((bits : List Bool) → wire_value new more bits ≡ (if bool_xor (wire_value mid y bits) (wire_value mid x bits) then wire_value mid x bits else wire_value mid told bits))
    → (bits : List Bool) → wire_value new more bits ≡ int_lt (integer_at old a bits) (integer_at old b bits)
less_exact old mid new a b la lb n w told x y more wn ea eb na nb sa sb wa wb t ex ey v bits =
    let size : length la ≡ n + 1 = length_resized w a la ea na ∙ wn in
    let size' : length lb ≡ n + 1 = length_resized w b lb eb nb ∙ wn in
    let vx : wire_value mid x bits ≡ wire_value old x bits = t.extends.keeps x (wire_at old la n x wa (omega arith) ex) bits in
    let vy : wire_value mid y bits ≡ wire_value old y bits = t.extends.keeps y (wire_at old lb n y wb (omega arith) ey) bits in
    let l : length (wire_values old (take n la) bits) ≡ length (wire_values old (take n lb) bits) = length_of_first old la n bits (omega arith) ∙ sym (length_of_first old lb n bits (omega arith)) in
    let told_is = t.value bits in
    let push = int_lt-push (wire_values old (take n la) bits) (wire_values old (take n lb) bits) (wire_value old x bits) (wire_value old y bits) l in
    let ia : integer_of (wire_values old (take n la) bits ++ wire_value old x bits ∷ []) ≡ integer_at old a bits = ap integer_of (sym (all_but_last old la n x bits size ex)) ∙ integer_of_resized_wires old w a la bits ea na (omega arith) (sa bits) in
    let ib : integer_of (wire_values old (take n lb) bits ++ wire_value old y bits ∷ []) ≡ integer_at old b bits = ap integer_of (sym (all_but_last old lb n y bits size' ey)) ∙ integer_of_resized_wires old w b lb bits eb nb (omega arith) (sb bits) in
    v bits
    ∙ ap (λ u. if bool_xor (wire_value mid y bits) u then u else wire_value mid told bits) vx
    ∙ ap (λ u. if bool_xor u (wire_value old x bits) then wire_value old x bits else wire_value mid told bits) vy
    ∙ ap (λ u. if bool_xor (wire_value old y bits) (wire_value old x bits) then wire_value old x bits else u) told_is
    ∙ sym push ∙ ap (λ u. int_lt u (integer_of (wire_values old (take n lb) bits ++ wire_value old y bits ∷ []))) ia ∙ ap (int_lt (integer_at old a bits)) ib

-- as many bits spell the same integer where they spell the same natural number
natural_apart : (x y p j k : ℕ) → x < p → y < p → x + j * p ≡ y + k * p → x ≡ y
natural_apart x y p zero zero h l e = omega arith
natural_apart x y p zero (suc k) h l e = (let m : suc k * p ≡ k * p + p = omega arith in omega arith)
natural_apart x y p (suc j) zero h l e = (let m : suc j * p ≡ j * p + p = omega arith in omega arith)
natural_apart x y p (suc j) (suc k) h l e = natural_apart x y p j k h l (let m : suc j * p ≡ j * p + p = omega arith in let n : suc k * p ≡ k * p + p = omega arith in omega arith)

congruent_naturals : (n x y : ℕ) → IsCongruent n (pos x) (pos y) → x < 2 ^ n → y < 2 ^ n → x ≡ y
congruent_naturals n x y c h l = natural_apart x y (2 ^ n) c.below c.above h l (let e = c.equal in omega (arith, ints))

pub same_integer : (xs ys : List Bool) → 0 < length xs → length xs ≡ length ys → natural_of xs ≡ natural_of ys → integer_of xs ≡ integer_of ys
same_integer xs ys h l e =
    congruent_fits (length xs) _ _ h
    (congruent_trans (length xs) _ _ _ (congruent_sym (length xs) _ _ (natural_congruent xs)) (congruent_trans (length xs) _ _ _ (congruent_same (length xs) _ _ (ap pos e)) (rw (sym l) at (natural_congruent ys))))
    (integer_fits xs h) (rw (sym l) at (integer_fits ys (omega arith)))

pub same_natural : (xs ys : List Bool) → length xs ≡ length ys → integer_of xs ≡ integer_of ys → natural_of xs ≡ natural_of ys
same_natural xs ys l e =
    congruent_naturals (length xs) _ _
    (congruent_trans (length xs) _ _ _ (natural_congruent xs) (congruent_trans (length xs) _ _ _ (congruent_same (length xs) _ _ e) (congruent_sym (length xs) _ _ (rw (sym l) at (natural_congruent ys)))))
    (natural_below xs) (rw (sym l) at (natural_below ys))

pub equal_exact : (old mid new : List Gate) (a b la lb : List Wire) (w : ℕ) (told same : Wire) → 0 < w → la ≡ resized w a → lb ≡ resized w b → 0 < length a → 0 < length b → ((bits : List Bool) → FitsBits w (integer_at old a bits)) → ((bits : List Bool) → FitsBits w (integer_at old b bits))
    → IsTestSoFar differs old la lb w mid told → ((bits : List Bool) → wire_value new same bits ≡ not (wire_value mid told bits))
    → (bits : List Bool) → IsTrue (wire_value new same bits) ↔ (integer_at old a bits ≡ integer_at old b bits)
equal_exact old mid new a b la lb w told same lw ea eb na nb sa sb t s bits =
    let size : length la ≡ w = length_resized w a la ea na in
    let size' : length lb ≡ w = length_resized w b lb eb nb in
    let va : wire_values old (take w la) bits ≡ wire_values old la bits = ap (λ t. wire_values old t bits) (take_all w la (omega arith)) in
    let vb : wire_values old (take w lb) bits ≡ wire_values old lb bits = ap (λ t. wire_values old t bits) (take_all w lb (omega arith)) in
    let v : wire_value new same bits ≡ nat_eq (natural_of (wire_values old la bits)) (natural_of (wire_values old lb bits)) =
    s bits ∙ ap not (t.value bits ∙ ap (λ u. differs u (wire_values old (take w lb) bits)) va ∙ ap (differs (wire_values old la bits)) vb) ∙ twice_not _ in
    let l : length (wire_values old la bits) ≡ length (wire_values old lb bits) = length_values old la bits ∙ size ∙ sym size' ∙ sym (length_values old lb bits) in
    let some : 0 < length (wire_values old la bits) = omega (arith, length_values old la bits) in
    let ia : integer_of (wire_values old la bits) ≡ integer_at old a bits = integer_of_resized_wires old w a la bits ea na lw (sa bits) in
    let ib : integer_of (wire_values old lb bits) ≡ integer_at old b bits = integer_of_resized_wires old w b lb bits eb nb lw (sb bits) in (
      λ t. sym ia ∙ same_integer (wire_values old la bits) (wire_values old lb bits) some l (eqb-true _ _ (sym v ∙ t)) ∙ ib,
      λ e. v ∙ eq-eqb _ _ (same_natural (wire_values old la bits) (wire_values old lb bits) l (ia ∙ e ∙ sym ib)),
    )
  where
    twice_not : (b : Bool) → not (not b) ≡ b
    twice_not true = refl
    twice_not false = refl

-- what needs so many wires fits at least as many
pub fits_all : (m n k : ℕ) (a : List Wire) → m ≤ n → ((gates : List Gate) (bits : List Bool) → FitsBits m (integer_at gates a bits)) → (gates : List Gate) (bits : List Bool) → FitsBits n (integer_at gates a bits)
fits_all m n k a h f gates bits = fits_wider m n _ h (f gates bits)
