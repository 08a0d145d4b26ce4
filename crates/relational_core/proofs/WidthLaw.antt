-- The least width that holds an interval holds its integers.
use Rattle.std.proofs.Common.{◌≡◌, ℕ, zero, suc, ◌+◌, ◌-◌, ◌^◌, ◌<◌, ◌≤◌, Bool, true, false, cond, ◌&&◌, Option, Some, None, refl, ap, sym, subst, ◌∙◌, arith, ℤ, pos, neg_ℤ, ◌⊎◌, inl, inr, ◌≤ℤ◌, ◌<ℤ◌, ◌+ℤ◌, ◌*ℤ◌, List}
use Rattle.std.specs.Prelude.{nat_le, int_le, int_lt}
use Rattle.std.specs.Int.{int_min, int_max}
use Rattle.std.specs.Option.{option_map_or}
use Rattle.std.specs.List.{find, range_with_len}
use Rattle.std.specs.Prelude.{leb}
use Rattle.std.proofs.lemmas.Bool.{true≢false}
use Rattle.std.proofs.lemmas.Bool.Decides.{leb_tells}
use Rattle.std.proofs.lemmas.Grind.{common_steps}
use Rattle.std.proofs.lemmas.Int.{ints, clamps}
use Rattle.std.proofs.Math.Nat.{pow-le-pow_right, two-pow-succ}
use Rattle.clf_tree.specs.declared.bounds.Bounds.{Bounds}
use Rattle.clf_tree.specs.declared.model.Clafer.{Clafer}
use Rattle.clf_tree.specs.Widths.{width, is_held}
use Rattle.clf_tree.specs.declared.scopes.Scopes.{Scopes}
use Rattle.clf_tree.specs.Intervals.{clamped, sum_between}
use Rattle.clf_tree.specs.CoreSoundness.{holds_integer}
use Rattle.relational_core.specs.Lowered.{negative}
use Rattle.relational_core.proofs.Passing.{and_parts, and_all}

-- what is found passes, at or after the first place
found : (p : ℕ → Bool) (a k n : ℕ) → find p (range_with_len a k) ≡ Some n → (p n ≡ true) × (a ≤ n)
found p a zero n h = absurd (none h)
  where
    none : None ≡ Some n → ⊥
    none e = (cc)
found p a (suc k) n h = pick (p a) refl h (found p (a + 1) k n)
  where
    same : Some a ≡ Some n → a ≡ n
    same e = (cc)

    pick : (b : Bool) → p a ≡ b → cond b (Some a) (find p (range_with_len (a + 1) k)) ≡ Some n → (find p (range_with_len (a + 1) k) ≡ Some n → (p n ≡ true) × (a + 1 ≤ n)) → (p n ≡ true) × (a ≤ n)
    pick true e f rest = (ap p (sym (same f)) ∙ e, omega (arith, same f))
    pick false e f rest = let r = rest f in (r.0, omega (arith, r.1))

-- something is found, at or before a place that passes
pub record Least (p : ℕ → Bool) (a k n : ℕ) : Type 0 where
  pub at : ℕ
  pub is : find p (range_with_len a k) ≡ Some at
  pub most : at ≤ n

least : (p : ℕ → Bool) (a k n : ℕ) → a ≤ n → n < a + k → p n ≡ true → Least p a k n
least p a zero n low high pass = absurd (omega (arith, low, high))
least p a (suc k) n low high pass = pick (p a) refl (λ more. least p (a + 1) k n more (omega (arith, high)) pass)
  where
    further : p a ≡ false → a + 1 ≤ n
    further e = omega (arith, low, other)
      where
        other : a ≡ n → ⊥
        other s = true≢false (sym pass ∙ ap p (sym s) ∙ e)

    pick : (b : Bool) → p a ≡ b → (a + 1 ≤ n → Least p (a + 1) k n) → Least p a (suc k) n
    pick true e rest = record { at = a; is = ap (λ c. cond c (Some a) (find p (range_with_len (a + 1) k))) e; most = low }
    pick false e rest =
        let r = rest (further e) in record { at = r.at; is = ap (λ c. cond c (Some a) (find p (range_with_len (a + 1) k))) e ∙ r.is; most = r.most }

-- the width of what some number of bits holds
pub record Held (b : Bounds) (n : ℕ) : Type 0 where
  pub held : is_held b (width b) ≡ true
  pub first : 1 ≤ width b
  pub most : width b ≤ n

pub held-by : (b : Bounds) (n : ℕ) → 1 ≤ n → n < 127 → is_held b n ≡ true → Held b n
unfolding width
held-by b n low high pass =
    let l = least (is_held b) 1 126 n low high pass in
    let f = found (is_held b) 1 126 l.at l.is in
    let same : option_map_or (λ bits. bits) (find (is_held b) (range_with_len 1 126)) 127 ≡ l.at = ap (λ o. option_map_or (λ bits. bits) o 127) l.is in
    record { held = ap (is_held b) same ∙ f.0; first = subst (λ m. 1 ≤ m) (sym same) f.1; most = subst (λ m. m ≤ n) (sym same) l.most }

narrow-at : (b : Bounds) (o : Option ℕ) → find (is_held b) (range_with_len 1 126) ≡ o → nat_le (option_map_or (λ bits. bits) o 127) 62 ≡ true
    → (is_held b (option_map_or (λ bits. bits) o 127) ≡ true) × (1 ≤ option_map_or (λ bits. bits) o 127) × (option_map_or (λ bits. bits) o 127 ≤ 62)
narrow-at b None e h = absurd (true≢false (sym h))
narrow-at b (Some n) e h = let f = found (is_held b) 1 126 n e in (f.0, f.1, below n h)
  where
    below : (m : ℕ) → nat_le m 62 ≡ true → m ≤ 62
    below m q = grind (arith, common_steps)

pub held-narrow : (b : Bounds) → nat_le (width b) 62 ≡ true → Held b 62
unfolding width
held-narrow b h = let n = narrow-at b (find (is_held b) (range_with_len 1 126)) refl h in record { held = n.0; first = n.1; most = n.2 }

low_of : (m : ℕ) (l z : ℤ) → int_le (neg_ℤ (pos m)) l ≡ true → l ≤ℤ z → int_le (neg_ℤ (pos m)) z ≡ true
low_of m l z h k = grind (arith, ints)

high_of : (m : ℕ) (l z : ℤ) → int_lt l (pos m) ≡ true → z ≤ℤ l → int_lt z (pos m) ≡ true
high_of m l z h k = grind (arith, ints)

-- an integer within the interval
pub within-held : (b : Bounds) (w : ℕ) (z : ℤ) → is_held b w ≡ true → b.low ≤ℤ z → z ≤ℤ b.high → holds_integer w z ≡ true
within-held b w z h low high =
    let j = and_parts (int_le (neg_ℤ (pos (2 ^ (w - 1)))) b.low) (int_lt b.high (pos (2 ^ (w - 1)))) h in
    and_all (int_le (neg_ℤ (pos (2 ^ (w - 1)))) z) (int_lt z (pos (2 ^ (w - 1)))) (low_of (2 ^ (w - 1)) b.low z j.0 low) (high_of (2 ^ (w - 1)) b.high z j.1 high)

-- what 62 bits hold is small, so that neither it nor its opposite is clamped
small : (b : Bounds) (bits : ℕ) → bits ≤ 62 → is_held b bits ≡ true → (neg_ℤ (pos (2 ^ 61)) ≤ℤ b.low) × (b.high <ℤ pos (2 ^ 61))
small b bits few h =
    let p = pow-le-pow_right {n = 2} (omega arith) {i = bits - 1} {j = 61} (omega (arith, few)) in
    let j = and_parts (int_le (neg_ℤ (pos (2 ^ (bits - 1)))) b.low) (int_lt b.high (pos (2 ^ (bits - 1)))) h in
    (low (2 ^ (bits - 1)) b.low p j.0, high (2 ^ (bits - 1)) b.high p j.1)
  where
    low : (m : ℕ) (z : ℤ) → m ≤ 2 ^ 61 → int_le (neg_ℤ (pos m)) z ≡ true → neg_ℤ (pos (2 ^ 61)) ≤ℤ z
    low m z p h = grind (arith, ints)

    high : (m : ℕ) (z : ℤ) → m ≤ 2 ^ 61 → int_lt z (pos m) ≡ true → z <ℤ pos (2 ^ 61)
    high m z p h = grind (arith, ints)

opposite-low : (x : ℤ) → x <ℤ pos (2 ^ 61) → int_le (neg_ℤ (pos (2 ^ 62))) (clamped (neg_ℤ x)) ≡ true
opposite-low x h = at (clamped (neg_ℤ x)) (omega (arith, ints, clamps))
  where
    at : (y : ℤ) → neg_ℤ (pos (2 ^ 62)) ≤ℤ y → int_le (neg_ℤ (pos (2 ^ 62))) y ≡ true
    at y k = grind (arith, ints)

opposite-high : (x : ℤ) → neg_ℤ (pos (2 ^ 61)) ≤ℤ x → int_lt (clamped (neg_ℤ x)) (pos (2 ^ 62)) ≡ true
opposite-high x h = at (clamped (neg_ℤ x)) (omega (arith, ints, clamps))
  where
    at : (y : ℤ) → y <ℤ pos (2 ^ 62) → int_lt y (pos (2 ^ 62)) ≡ true
    at y k = grind (arith, ints)

-- one bit more holds the opposite
pub held-opposite : (b : Bounds) → nat_le (width b) 62 ≡ true → Held (negative b) 63
held-opposite b h =
    let n = held-narrow b h in
    let s = small b (width b) n.most n.held in
    held-by (negative b) 63 (omega arith) (omega arith)
    (and_all (int_le (neg_ℤ (pos (2 ^ 62))) (clamped (neg_ℤ b.high))) (int_lt (clamped (neg_ℤ b.low)) (pos (2 ^ 62))) (opposite-low b.high s.1) (opposite-high b.low s.0))

pub opposite-within : (b : Bounds) (z : ℤ) → nat_le (width b) 62 ≡ true → b.low ≤ℤ z → z ≤ℤ b.high → ((negative b).low ≤ℤ neg_ℤ z) × (neg_ℤ z ≤ℤ (negative b).high)
opposite-within b z h low high =
    let n = held-narrow b h in
    let s = small b (width b) n.most n.held in
    (least-of b.high z s.1 high, most-of b.low z s.0 low)
  where
    least-of : (x y : ℤ) → x <ℤ pos (2 ^ 61) → y ≤ℤ x → clamped (neg_ℤ x) ≤ℤ neg_ℤ y
    least-of x y p q = omega (arith, ints, clamps)

    most-of : (x y : ℤ) → neg_ℤ (pos (2 ^ 61)) ≤ℤ x → x ≤ℤ y → neg_ℤ y ≤ℤ clamped (neg_ℤ x)
    most-of x y p q = omega (arith, ints, clamps)

-- ---- wider intervals

found_below : (p : ℕ → Bool) (a k n : ℕ) → find p (range_with_len a k) ≡ Some n → n < a + k
found_below p a zero n h = absurd (none h)
  where
    none : None ≡ Some n → ⊥
    none e = (cc)
found_below p a (suc k) n h = pick (p a) h (found_below p (a + 1) k n)
  where
    same : Some a ≡ Some n → a ≡ n
    same e = (cc)

    pick : (b : Bool) → cond b (Some a) (find p (range_with_len (a + 1) k)) ≡ Some n → (find p (range_with_len (a + 1) k) ≡ Some n → n < a + 1 + k) → n < a + suc k
    pick true f rest = omega (arith, same f)
    pick false f rest = omega (arith, rest f)

at_most : (b : Bounds) (o : Option ℕ) → find (is_held b) (range_with_len 1 126) ≡ o → option_map_or (λ bits. bits) o 127 ≤ 127
at_most b None e = omega arith
at_most b (Some n) e = omega (arith, found_below (is_held b) 1 126 n e)

width_most : (b : Bounds) → width b ≤ 127
unfolding width
width_most b = at_most b (find (is_held b) (range_with_len 1 126)) refl

-- an interval within another one needs no more bits
within_held : (b c : Bounds) (n : ℕ) → c.low ≤ℤ b.low → b.high ≤ℤ c.high → is_held c n ≡ true → is_held b n ≡ true
within_held b c n low high h =
    let j = and_parts (int_le (neg_ℤ (pos (2 ^ (n - 1)))) c.low) (int_lt c.high (pos (2 ^ (n - 1)))) h in
    and_all (int_le (neg_ℤ (pos (2 ^ (n - 1)))) b.low) (int_lt b.high (pos (2 ^ (n - 1)))) (low_of (2 ^ (n - 1)) c.low b.low j.0 low) (high_of (2 ^ (n - 1)) c.high b.high j.1 high)

more_at : (b c : Bounds) (o : Option ℕ) → c.low ≤ℤ b.low → b.high ≤ℤ c.high → find (is_held c) (range_with_len 1 126) ≡ o → width b ≤ option_map_or (λ bits. bits) o 127
more_at b c None low high e = width_most b
more_at b c (Some n) low high e =
    let f = found (is_held c) 1 126 n e in (held-by b n f.1 (found_below (is_held c) 1 126 n e) (within_held b c n low high f.0)).most

pub width_more : (b c : Bounds) → c.low ≤ℤ b.low → b.high ≤ℤ c.high → width b ≤ width c
unfolding width
width_more b c low high = more_at b c (find (is_held c) (range_with_len 1 126)) low high refl

-- the opposite of an interval needs at most one bit more
negative_low : (m : ℕ) (x : ℤ) → m + m ≤ 2 ^ 126 → int_lt x (pos m) ≡ true → int_le (neg_ℤ (pos (m + m))) (clamped (neg_ℤ x)) ≡ true
negative_low m x few h = at (clamped (neg_ℤ x)) (omega (arith, ints, clamps, below))
  where
    below : x <ℤ pos m
    below = grind (arith, ints)

    at : (y : ℤ) → neg_ℤ (pos (m + m)) ≤ℤ y → int_le (neg_ℤ (pos (m + m))) y ≡ true
    at y k = grind (arith, ints)

negative_high : (m : ℕ) (x : ℤ) → 1 ≤ m → int_le (neg_ℤ (pos m)) x ≡ true → int_lt (clamped (neg_ℤ x)) (pos (m + m)) ≡ true
negative_high m x some h = at (clamped (neg_ℤ x)) (omega (arith, ints, clamps, above, some))
  where
    above : neg_ℤ (pos m) ≤ℤ x
    above = grind (arith, ints)

    at : (y : ℤ) → y <ℤ pos (m + m) → int_lt y (pos (m + m)) ≡ true
    at y k = grind (arith, ints)

negative_held : (b : Bounds) (n : ℕ) → 1 ≤ n → n < 126 → is_held b n ≡ true → is_held (negative b) (n + 1) ≡ true
negative_held b n some few h =
    let m = 2 ^ (n - 1) in
    let j = and_parts (int_le (neg_ℤ (pos m)) b.low) (int_lt b.high (pos m)) h in
    subst (λ p. (int_le (neg_ℤ (pos p)) (clamped (neg_ℤ b.high)) && int_lt (clamped (neg_ℤ b.low)) (pos p)) ≡ true) double
    (and_all (int_le (neg_ℤ (pos (m + m))) (clamped (neg_ℤ b.high))) (int_lt (clamped (neg_ℤ b.low)) (pos (m + m))) (negative_low m b.high small_enough j.1) (negative_high m b.low one j.0))
  where
    twice : (k : ℕ) → 2 ^ k + 2 ^ k ≡ 2 ^ (k + 1)
    twice k = sym (two-pow-succ k) ∙ ap (λ j. 2 ^ j) (more k)
      where
        more : (j : ℕ) → suc j ≡ j + 1
        more j = omega arith

    double : 2 ^ (n - 1) + 2 ^ (n - 1) ≡ 2 ^ (n + 1 - 1)
    double = twice (n - 1) ∙ ap (λ k. 2 ^ k) (omega (arith, some))

    small_enough : 2 ^ (n - 1) + 2 ^ (n - 1) ≤ 2 ^ 126
    small_enough = subst (λ z. z ≤ 2 ^ 126) (sym (twice (n - 1))) (pow-le-pow_right {n = 2} (omega arith) {i = n - 1 + 1} {j = 126} (omega (arith, few)))

    one : 1 ≤ 2 ^ (n - 1)
    one = pow-le-pow_right {n = 2} (omega arith) {i = 0} {j = n - 1} (omega arith)

opposite_at : (b : Bounds) (o : Option ℕ) → find (is_held b) (range_with_len 1 126) ≡ o → width (negative b) ≤ option_map_or (λ bits. bits) o 127 + 1
opposite_at b None e = omega (arith, width_most (negative b))
opposite_at b (Some n) e =
    let f = found (is_held b) 1 126 n e in near (leb_tells n 125) f.0 f.1
  where
    near : ((leb n 125 ≡ true) × (n ≤ 125)) ⊎ ((leb n 125 ≡ false) × (125 < n)) → is_held b n ≡ true → 1 ≤ n → width (negative b) ≤ n + 1
    near (inl h) held some = (held-by (negative b) (n + 1) (omega arith) (omega (arith, h.1)) (negative_held b n some (omega (arith, h.1)) held)).most
    near (inr h) held some = omega (arith, h.1, width_most (negative b))

pub width_opposite : (b : Bounds) → width (negative b) ≤ width b + 1
unfolding width
width_opposite b = opposite_at b (find (is_held b) (range_with_len 1 126)) refl

-- the sum of more integers of the range lies in a wider interval
mul_suc : (n : ℕ) (z : ℤ) → pos (suc n) *ℤ z ≡ (z +ℤ (pos n *ℤ z))
mul_suc n z = omega (arith, ints)

same_le : (z : ℤ) → z ≤ℤ z
same_le z = omega (arith, ints)

up_step : (m d : ℕ) (a : ℤ) → pos 0 ≤ℤ a → (pos m *ℤ a) ≤ℤ (pos (m + d) *ℤ a)
up_step m zero a k = subst (λ z. (pos m *ℤ a) ≤ℤ (pos z *ℤ a)) (omega arith) (same_le (pos m *ℤ a))
up_step m (suc d) a k = subst (λ z. (pos m *ℤ a) ≤ℤ (pos z *ℤ a)) (omega arith) (more (pos m *ℤ a) (pos (m + d) *ℤ a) (pos (suc (m + d)) *ℤ a) (mul_suc (m + d) a) (up_step m d a k))
  where
    more : (x y z : ℤ) → z ≡ (a +ℤ y) → x ≤ℤ y → x ≤ℤ z
    more x y z e h = omega (arith, ints)

down_step : (m d : ℕ) (a : ℤ) → a ≤ℤ pos 0 → (pos (m + d) *ℤ a) ≤ℤ (pos m *ℤ a)
down_step m zero a k = subst (λ z. (pos z *ℤ a) ≤ℤ (pos m *ℤ a)) (omega arith) (same_le (pos m *ℤ a))
down_step m (suc d) a k = subst (λ z. (pos z *ℤ a) ≤ℤ (pos m *ℤ a)) (omega arith) (more (pos m *ℤ a) (pos (m + d) *ℤ a) (pos (suc (m + d)) *ℤ a) (mul_suc (m + d) a) (down_step m d a k))
  where
    more : (x y z : ℤ) → z ≡ (a +ℤ y) → y ≤ℤ x → z ≤ℤ x
    more x y z e h = omega (arith, ints)

clamped_more : (x y : ℤ) → x ≤ℤ y → clamped x ≤ℤ clamped y
clamped_more x y h = omega (arith, ints, clamps)

pub sum_width : (clafers others : List Clafer) (scopes : Scopes) (n m : ℕ) → n ≤ m → width (sum_between clafers scopes n) ≤ width (sum_between others scopes m)
sum_width clafers others scopes n m few =
    width_more (sum_between clafers scopes n) (sum_between others scopes m)
    (clamped_more (pos m *ℤ int_min (pos 0) scopes.low) (pos n *ℤ int_min (pos 0) scopes.low) (down (int_min (pos 0) scopes.low) (least_zero scopes.low)))
    (clamped_more (pos n *ℤ int_max (pos 0) scopes.high) (pos m *ℤ int_max (pos 0) scopes.high) (up (int_max (pos 0) scopes.high) (most_zero scopes.high)))
  where
    least_zero : (z : ℤ) → int_min (pos 0) z ≤ℤ pos 0
    least_zero z = omega (arith, ints, clamps)

    most_zero : (z : ℤ) → pos 0 ≤ℤ int_max (pos 0) z
    most_zero z = omega (arith, ints, clamps)

    down : (a : ℤ) → a ≤ℤ pos 0 → (pos m *ℤ a) ≤ℤ (pos n *ℤ a)
    down a k = subst (λ z. (pos z *ℤ a) ≤ℤ (pos n *ℤ a)) (omega (arith, few)) (down_step n (m - n) a k)

    up : (a : ℤ) → pos 0 ≤ℤ a → (pos n *ℤ a) ≤ℤ (pos m *ℤ a)
    up a k = subst (λ z. (pos n *ℤ a) ≤ℤ (pos z *ℤ a)) (omega (arith, few)) (up_step n (m - n) a k)
