-- The merge of two sets.
use Rattle.std.proofs.Common.{◌≡◌, ℕ, ◌+◌, ◌*◌, ◌<◌, ◌≤◌, Bool, true, false, ◌&&◌, ◌||◌, if◌then◌else◌, List, [], ◌∷◌, ◌++◌, length, Option, Some, None, refl, sym, ap, ◌∙◌, subst, inl, inr, arith}
use Rattle.std.specs.Prelude.{nat_eq, is_some, IfSome}
use Rattle.std.specs.List.{All}
use Rattle.std.proofs.lemmas.Bool.{eqb-true, cases_lt}
use Rattle.std.proofs.lemmas.Bool.Decides.{nat_tests}
use Rattle.std.proofs.lemmas.List.{length-append}
use Rattle.std.proofs.lemmas.List.Elements.{All-append, All-cons, All-nil, All-head, All-tail}
use Rattle.bool_circuit.specs.declared.gate.Wire.{Wire}
use Rattle.bool_circuit.specs.declared.gate.Gate.{Gate}
use Rattle.bool_circuit.specs.Circuit.{wire_value, IsWireOf, Extends}
use Rattle.bool_circuit.proofs.Values.{extends_none}
use Rattle.bool_circuit.proofs.Extending.{extends_trans, extends_within}
use Rattle.set_bits.specs.declared.sets.Member.{Member}
use Rattle.set_bits.specs.declared.sets.Operation.{Operation}
use Rattle.set_bits.specs.declared.sets.Operation.TheVariants.{Union, Meet, Minus, Differ}
use Rattle.set_bits.specs.Sets.{is_in, is_here, has_slot, AscendFrom, IsSetOf, combined, may_combine}
use Rattle.set_bits.specs.Merging.{lowest_slot, taken, others, members_at, AscendBetween, IsMerged, IsCombined}
use Rattle.set_bits.specs.Reaching.{present}

-- ---- truth

pub or_false : (b : Bool) → (b || false) ≡ b
or_false true = refl
or_false false = refl

pub and_false : (b : Bool) → (b && false) ≡ false
and_false true = refl
and_false false = refl

pub or_assoc : (a b c : Bool) → ((a || b) || c) ≡ (a || (b || c))
or_assoc true b c = refl
or_assoc false b c = refl

nothing_combined : (op : Operation) → combined op false false ≡ false
nothing_combined Union = refl
nothing_combined Meet = refl
nothing_combined Minus = refl
nothing_combined Differ = refl

-- ---- sets

-- no slot below the first
pub none_below : (gates : List Gate) (xs : List Member) (n k : ℕ) (bits : List Bool) → AscendFrom n xs → k < n → is_in gates xs k bits ≡ false
none_below gates [] n k bits h l = refl
none_below gates (m ∷ ms) n k bits h l =
    let e : nat_eq m.slot k ≡ false = differ m.slot k (let g = h.0 in omega arith) in
    ap (λ b. (b && wire_value gates m.here bits) || is_in gates ms k bits) e ∙ none_below gates ms (m.slot + 1) k bits h.1 (let g = h.0 in omega arith)
  where
    differ : (a b : ℕ) → b < a → nat_eq a b ≡ false
    differ a b h = grind (arith, nat_tests)

pub is_in-append : (gates : List Gate) (xs ys : List Member) (k : ℕ) (bits : List Bool) → is_in gates (xs ++ ys) k bits ≡ (is_in gates xs k bits || is_in gates ys k bits)
is_in-append gates [] ys k bits = refl
is_in-append gates (m ∷ ms) ys k bits = ap (λ b. (nat_eq m.slot k && wire_value gates m.here bits) || b) (is_in-append gates ms ys k bits) ∙ sym (or_assoc _ (is_in gates ms k bits) (is_in gates ys k bits))

pub is_in_stays : (n : ℕ) (old new : List Gate) (xs : List Member) (k : ℕ) (bits : List Bool) → Extends old new n → All (λ m. IsWireOf old m.here) xs → is_in new xs k bits ≡ is_in old xs k bits
is_in_stays n old new [] k bits e h = refl
is_in_stays n old new (m ∷ ms) k bits e h =
    let v = e.keeps m.here (All-head (λ m. IsWireOf old m.here) m ms h) bits in
    ap (λ b. (nat_eq m.slot k && b) || is_in new ms k bits) v ∙ ap (λ b. (nat_eq m.slot k && wire_value old m.here bits) || b) (is_in_stays n old new ms k bits e (All-tail (λ m. IsWireOf old m.here) m ms h))

pub members_stay : (n : ℕ) (old new : List Gate) (xs : List Member) → Extends old new n → All (λ m. IsWireOf old m.here) xs → All (λ m. IsWireOf new m.here) xs
members_stay n old new xs e h = λ k d l. (let w = h k d l in let g = e.at_least in omega arith)

pub is_in-members : (gates : List Gate) (s : ℕ) (o : Option Wire) (k : ℕ) (bits : List Bool) → is_in gates (members_at s o) k bits ≡ (nat_eq s k && is_here gates o bits)
is_in-members gates s None k bits = sym (and_false (nat_eq s k))
is_in-members gates s (Some w) k bits = or_false (nat_eq s k && wire_value gates w bits)

pub here_stays : (n : ℕ) (old new : List Gate) (o : Option Wire) (bits : List Bool) → Extends old new n → IfSome o (IsWireOf old) → is_here new o bits ≡ is_here old o bits
here_stays n old new None bits e h = refl
here_stays n old new (Some w) bits e h = e.keeps w h bits

-- ---- the first members

others_from : (s : ℕ) (xs : List Member) → AscendFrom s xs → AscendFrom (s + 1) (others s xs)
others_from s [] h = tt
others_from s (m ∷ ms) h = by (nat_eq m.slot s) refl
  where
    above : (a b : ℕ) → nat_eq a b ≡ false → b ≤ a → b + 1 ≤ a
    above a b e l = grind (arith, nat_tests)

    by : (b : Bool) → nat_eq m.slot s ≡ b → AscendFrom (s + 1) (if b then ms else m ∷ ms)
    by true e = subst (λ n. AscendFrom (n + 1) ms) (eqb-true m.slot s e) h.1
    by false e = (above m.slot s e h.0, h.1)

is_in_split : (gates : List Gate) (s : ℕ) (xs : List Member) (k : ℕ) (bits : List Bool) → is_in gates xs k bits ≡ ((nat_eq s k && is_here gates (taken s xs) bits) || is_in gates (others s xs) k bits)
is_in_split gates s [] k bits = sym (ap (λ b. b || false) (and_false (nat_eq s k)))
is_in_split gates s (m ∷ ms) k bits = by (nat_eq m.slot s) refl
  where
    by : (b : Bool) → nat_eq m.slot s ≡ b → is_in gates (m ∷ ms) k bits ≡ ((nat_eq s k && is_here gates (if b then Some m.here else None) bits) || is_in gates (if b then ms else m ∷ ms) k bits)
    by true e = ap (λ n. (nat_eq n k && wire_value gates m.here bits) || is_in gates ms k bits) (eqb-true m.slot s e)
    by false e = sym (ap (λ b. b || is_in gates (m ∷ ms) k bits) (and_false (nat_eq s k)))

pub taken_wire : (gates : List Gate) (s : ℕ) (xs : List Member) → All (λ m. IsWireOf gates m.here) xs → IfSome (taken s xs) (IsWireOf gates)
taken_wire gates s [] h = tt
taken_wire gates s (m ∷ ms) h = by (nat_eq m.slot s)
  where
    by : (b : Bool) → IfSome (if b then Some m.here else None) (IsWireOf gates)
    by true = All-head (λ m. IsWireOf gates m.here) m ms h
    by false = tt

others_wires : (gates : List Gate) (s : ℕ) (xs : List Member) → All (λ m. IsWireOf gates m.here) xs → All (λ m. IsWireOf gates m.here) (others s xs)
others_wires gates s [] h = h
others_wires gates s (m ∷ ms) h = by (nat_eq m.slot s)
  where
    by : (b : Bool) → All (λ m. IsWireOf gates m.here) (if b then ms else m ∷ ms)
    by true = All-tail (λ m. IsWireOf gates m.here) m ms h
    by false = h

length_others : (s : ℕ) (xs : List Member) → length (others s xs) ≤ length xs
length_others s [] = omega arith
length_others s (m ∷ ms) = by (nat_eq m.slot s)
  where
    by : (b : Bool) → length (if b then ms else m ∷ ms) ≤ length (m ∷ ms)
    by true = omega arith
    by false = omega arith

first_left_out : (s : ℕ) (m : Member) (ms : List Member) → m.slot ≡ s → length (others s (m ∷ ms)) ≡ length ms
first_left_out s m ms e = ap (λ b. length (if b then ms else m ∷ ms)) (same m.slot s e)
  where
    same : (a b : ℕ) → a ≡ b → nat_eq a b ≡ true
    same a b e = grind (arith, nat_tests)

-- ---- the lowest slot

the_same : {X : Type 0} {x y : X} → Some x ≡ Some y → x ≡ y
the_same e = cc

lowest_from : (n s : ℕ) (xs ys : List Member) → lowest_slot xs ys ≡ Some s → AscendFrom n xs → AscendFrom n ys → (n ≤ s) × AscendFrom s xs × AscendFrom s ys
lowest_from n s [] [] e f g = absurd cc
lowest_from n s (x ∷ xs) [] e f g = (let d = the_same e in let l = f.0 in (omega arith, (omega arith, f.1), tt))
lowest_from n s [] (y ∷ ys) e f g = (let d = the_same e in let l = g.0 in (omega arith, tt, (omega arith, g.1)))
lowest_from n s (x ∷ xs) (y ∷ ys) e f g = (let d = the_same e in let l = f.0 in let m = g.0 in (omega arith, (omega arith, f.1), (omega arith, g.1)))

one_less : (s : ℕ) (xs ys : List Member) → lowest_slot xs ys ≡ Some s → length (others s xs) + length (others s ys) + 1 ≤ length xs + length ys
one_less s [] [] e = absurd cc
one_less s (x ∷ xs) [] e = (let d = the_same e in let l = first_left_out s x xs d in omega arith)
one_less s [] (y ∷ ys) e = (let d = the_same e in let l = first_left_out s y ys d in omega arith)
one_less s (x ∷ xs) (y ∷ ys) e = (let d = the_same e in elim (cases_lt y.slot x.slot) [
  | inl l ↦ (let h = first_left_out s y ys (omega arith) in let k = length_others s (x ∷ xs) in omega arith)
  | inr l ↦ (let h = first_left_out s x xs (omega arith) in let k = length_others s (y ∷ ys) in omega arith)
])

both_ended : (xs ys : List Member) → lowest_slot xs ys ≡ None → (xs ≡ []) × (ys ≡ [])
both_ended [] [] e = (refl, refl)
both_ended (x ∷ xs) [] e = absurd cc
both_ended [] (y ∷ ys) e = absurd cc
both_ended (x ∷ xs) (y ∷ ys) e = absurd cc

-- ---- a slot more

ascend_wider : (m n k : ℕ) (xs : List Member) → AscendBetween m n xs → n ≤ k → AscendBetween m k xs
ascend_wider m n k [] h l = omega (arith, h)
ascend_wider m n k (x ∷ xs) h l = (h.0, ascend_wider (x.slot + 1) n k xs h.1 l)

pub ascend_pushed : (m n s : ℕ) (xs : List Member) (o : Option Wire) → AscendBetween m n xs → n ≤ s → AscendBetween m (s + 1) (xs ++ members_at s o)
ascend_pushed m n s [] None h l = omega (arith, h)
ascend_pushed m n s [] (Some w) h l = (omega (arith, h), omega arith)
ascend_pushed m n s (x ∷ xs) o h l = (h.0, ascend_pushed (x.slot + 1) n s xs o h.1 l)

pub ascend_from : (m n : ℕ) (xs : List Member) → AscendBetween m n xs → AscendFrom m xs
ascend_from m n [] h = tt
ascend_from m n (x ∷ xs) h = (h.0, ascend_from (x.slot + 1) n xs h.1)

pub member_wires : (gates : List Gate) (s : ℕ) (o : Option Wire) → IfSome o (IsWireOf gates) → All (λ m. IsWireOf gates m.here) (members_at s o)
member_wires gates s None h = All-nil (λ m. IsWireOf gates m.here)
member_wires gates s (Some w) h = All-cons (λ m. IsWireOf gates m.here) (record { slot = s; here = w }) [] h (All-nil (λ m. IsWireOf gates m.here))

length-members : (s : ℕ) (o : Option Wire) → length (members_at s o) ≤ 1
length-members s None = omega arith
length-members s (Some w) = omega arith

step : (f : Bool → Bool → Bool) (e set la lb oa ob : Bool) → f false false ≡ false → (e ≡ true → oa ≡ false) → (e ≡ true → ob ≡ false) → (set || f ((e && la) || oa) ((e && lb) || ob)) ≡ ((set || (e && f la lb)) || f oa ob)
step f false set la lb oa ob z g h = ap (λ b. b || f oa ob) (sym (or_false set))
step f true set la lb oa ob z g h =
    ap (λ x. set || f (la || x) (lb || ob)) (g refl) ∙ ap (λ x. set || f (la || false) (lb || x)) (h refl)
    ∙ ap (λ x. set || f x (lb || false)) (or_false la) ∙ ap (λ x. set || f la x) (or_false lb)
    ∙ sym (or_false (set || f la lb)) ∙ ap (λ x. (set || f la lb) || x) (sym z ∙ ap (λ x. f x false) (sym (g refl)) ∙ ap (f oa) (sym (h refl)))

-- more of either set may give no less
abbrev pub IsMonotone : (Bool → Bool → Bool) → Type 0
IsMonotone may = (a b c d : Bool) → (a ≡ true → c ≡ true) → (b ≡ true → d ≡ true) → may a b ≡ true → may c d ≡ true

pub either_monotone : IsMonotone (λ a b. a || b)
either_monotone true b c d f g h = ap (λ x. x || d) (f refl)
either_monotone false b true d f g h = refl
either_monotone false b false d f g h = g h

both_monotone : IsMonotone (λ a b. a && b)
both_monotone true b c d f g h = ap (λ x. x && d) (f refl) ∙ g h
both_monotone false b c d f g h = absurd cc

pub may_monotone : (op : Operation) → IsMonotone (may_combine op)
may_monotone Union = either_monotone
may_monotone Meet = both_monotone
may_monotone Minus = λ a b c d f g h. f h
may_monotone Differ = either_monotone

-- ---- slots

pub has_slot-append : (xs ys : List Member) (k : ℕ) → has_slot (xs ++ ys) k ≡ (has_slot xs k || has_slot ys k)
has_slot-append [] ys k = refl
has_slot-append (m ∷ ms) ys k = ap (λ b. nat_eq m.slot k || b) (has_slot-append ms ys k) ∙ sym (or_assoc (nat_eq m.slot k) (has_slot ms k) (has_slot ys k))

pub has_slot-members : (s : ℕ) (o : Option Wire) (k : ℕ) → has_slot (members_at s o) k ≡ (nat_eq s k && is_some o)
has_slot-members s None k = sym (and_false (nat_eq s k))
has_slot-members s (Some w) k = or_false (nat_eq s k) ∙ and_one (nat_eq s k)
  where
    and_one : (b : Bool) → b ≡ (b && true)
    and_one true = refl
    and_one false = refl

others_held : (s : ℕ) (xs : List Member) (k : ℕ) → has_slot (others s xs) k ≡ true → has_slot xs k ≡ true
others_held s [] k h = h
others_held s (m ∷ ms) k h = by (nat_eq m.slot s) h
  where
    behind : (b c : Bool) → c ≡ true → (b || c) ≡ true
    behind true c e = refl
    behind false c e = e

    by : (b : Bool) → has_slot (if b then ms else m ∷ ms) k ≡ true → has_slot (m ∷ ms) k ≡ true
    by true e = behind (nat_eq m.slot k) (has_slot ms k) e
    by false e = e

taken_held : (s : ℕ) (xs : List Member) → is_some (taken s xs) ≡ true → has_slot xs s ≡ true
taken_held s [] h = absurd cc
taken_held s (m ∷ ms) h = ap (λ b. b || has_slot ms s) (sym (told (nat_eq m.slot s)) ∙ h)
  where
    told : (b : Bool) → is_some (if b then Some m.here else None) ≡ b
    told true = refl
    told false = refl

-- a member for each wire that is taken
pub taken_spent : (s : ℕ) (xs : List Member) → present (taken s xs) + length (others s xs) ≤ length xs
taken_spent s [] = omega arith
taken_spent s (m ∷ ms) = by (nat_eq m.slot s)
  where
    by : (b : Bool) → present (if b then Some m.here else None) + length (if b then ms else m ∷ ms) ≤ length (m ∷ ms)
    by true = omega arith
    by false = omega arith

first_taken : (s : ℕ) (m : Member) (ms : List Member) → m.slot ≡ s → present (taken s (m ∷ ms)) ≡ 1
first_taken s m ms e = ap (λ b. present (if b then Some m.here else None)) (same m.slot s e)
  where
    same : (a b : ℕ) → a ≡ b → nat_eq a b ≡ true
    same a b e = grind (arith, nat_tests)

pub some_taken : (s : ℕ) (xs ys : List Member) → lowest_slot xs ys ≡ Some s → 0 < present (taken s xs) + present (taken s ys)
some_taken s [] [] e = absurd cc
some_taken s (x ∷ xs) [] e = (let d = the_same e in let l = first_taken s x xs d in omega arith)
some_taken s [] (y ∷ ys) e = (let d = the_same e in let l = first_taken s y ys d in omega arith)
some_taken s (x ∷ xs) (y ∷ ys) e = (let d = the_same e in elim (cases_lt y.slot x.slot) [
  | inl l ↦ (let h = first_taken s y ys (omega arith) in omega arith)
  | inr l ↦ (let h = first_taken s x xs (omega arith) in omega arith)
])

-- ---- the merge

pub none_merged : (made : List Bool → Bool → Bool → Bool) (may : Bool → Bool → Bool) (old : List Gate) (a b : List Member) → IsSetOf old a → IsSetOf old b → IsMerged made may old a b old [] a b
none_merged made may old a b sa sb = record {
  next = 0;
  steps = 0;
  extends = extends_none old (2 * 0);
  spent = omega arith;
  few = omega arith;
  ascending = omega arith;
  wires = All-nil (λ m. IsWireOf old m.here);
  from_a = sa.ascending;
  from_b = sb.ascending;
  wires_a = sa.wires;
  wires_b = sb.wires;
  value = λ bits k. refl;
  left_a = λ k h. h;
  left_b = λ k h. h;
  slots = λ k h. absurd cc;
}

pub merged_more : (made : List Bool → Bool → Bool → Bool) (may : Bool → Bool → Bool) (old mid new : List Gate) (a b set more rest_a rest_b ra rb : List Member) (s n : ℕ) (left right here : Option Wire) → ((bits : List Bool) → made bits false false ≡ false) → IsMonotone may
    → IsMerged made may old a b mid set rest_a rest_b → lowest_slot rest_a rest_b ≡ Some s → left ≡ taken s rest_a → ra ≡ others s rest_a → right ≡ taken s rest_b → rb ≡ others s rest_b
    → 0 < n → n + (length (others s rest_a) + length (others s rest_b)) ≤ length rest_a + length rest_b → Extends mid new (2 * n) → IfSome here (IsWireOf new)
    → ((bits : List Bool) → is_here new here bits ≡ made bits (is_here mid left bits) (is_here mid right bits)) → (is_some here ≡ true → may (is_some left) (is_some right) ≡ true) → more ≡ set ++ members_at s here → IsMerged made may old a b new more ra rb
merged_more made may old mid new a b set more rest_a rest_b ra rb s n left right here none mono c low el er_a er er_b some few ext hw v hs em =
    let l = lowest_from c.next s rest_a rest_b low c.from_a c.from_b in
    let wa : All (λ m. IsWireOf old m.here) (others s rest_a) = others_wires old s rest_a c.wires_a in
    let wb : All (λ m. IsWireOf old m.here) (others s rest_b) = others_wires old s rest_b c.wires_b in
    rw (em, er_a, er_b) (record {
      next = s + 1;
      steps = c.steps + n;
      extends = (let z : 2 * (c.steps + n) ≡ 2 * c.steps + 2 * n = omega arith in rw z (extends_trans old mid new (2 * c.steps) (2 * n) c.extends ext));
      spent = omega (arith, c.spent, few);
      few = omega (arith, c.few, length-append set (members_at s here), length-members s here);
      ascending = ascend_pushed 0 c.next s set here c.ascending l.0;
      wires = All-append (λ m. IsWireOf new m.here) set (members_at s here) (members_stay (2 * n) mid new set ext c.wires) (member_wires new s here hw);
      from_a = others_from s rest_a l.1;
      from_b = others_from s rest_b l.2;
      wires_a = wa;
      wires_b = wb;
      value = λ bits k.
          let f : Bool → Bool → Bool = made bits in
          let la : is_here mid left bits ≡ is_here old (taken s rest_a) bits = ap (λ o. is_here mid o bits) el ∙ here_stays (2 * c.steps) old mid (taken s rest_a) bits c.extends (taken_wire old s rest_a c.wires_a) in
          let lb : is_here mid right bits ≡ is_here old (taken s rest_b) bits = ap (λ o. is_here mid o bits) er ∙ here_stays (2 * c.steps) old mid (taken s rest_b) bits c.extends (taken_wire old s rest_b c.wires_b) in
          let h : is_here new here bits ≡ made bits (is_here old (taken s rest_a) bits) (is_here old (taken s rest_b) bits) = v bits ∙ ap (λ x. made bits x (is_here mid right bits)) la ∙ ap (made bits (is_here old (taken s rest_a) bits)) lb in
          let whole : is_in new (set ++ members_at s here) k bits ≡ (is_in mid set k bits || (nat_eq s k && made bits (is_here old (taken s rest_a) bits) (is_here old (taken s rest_b) bits))) =
          is_in-append new set (members_at s here) k bits ∙ ap (λ x. x || is_in new (members_at s here) k bits) (is_in_stays (2 * n) mid new set k bits ext c.wires) ∙ ap (λ x. is_in mid set k bits || x) (is_in-members new s here k bits ∙ ap (λ x. nat_eq s k && x) h) in
          c.value bits k
          ∙ ap (λ x. is_in mid set k bits || made bits x (is_in old rest_b k bits)) (is_in_split old s rest_a k bits)
          ∙ ap (λ x. is_in mid set k bits || made bits ((nat_eq s k && is_here old (taken s rest_a) bits) || is_in old (others s rest_a) k bits) x) (is_in_split old s rest_b k bits)
          ∙ step (made bits) (nat_eq s k) (is_in mid set k bits) (is_here old (taken s rest_a) bits) (is_here old (taken s rest_b) bits) (is_in old (others s rest_a) k bits) (is_in old (others s rest_b) k bits) (none bits)
          (λ e. none_below old (others s rest_a) (s + 1) k bits (others_from s rest_a l.1) (below k e)) (λ e. none_below old (others s rest_b) (s + 1) k bits (others_from s rest_b l.2) (below k e))
          ∙ ap (λ x. x || made bits (is_in old (others s rest_a) k bits) (is_in old (others s rest_b) k bits)) (sym whole);
      left_a = λ k h. c.left_a k (others_held s rest_a k h);
      left_b = λ k h. c.left_b k (others_held s rest_b k h);
      slots = λ k h. by k (has_slot set k) (nat_eq s k) (is_some here) refl refl refl (sym (has_slot-append set (members_at s here) k ∙ ap (λ b. has_slot set k || b) (has_slot-members s here k)) ∙ h);
    })
  where
    below : (k : ℕ) → nat_eq s k ≡ true → k < s + 1
    below k e = (let d = eqb-true s k e in omega arith)

    here_slot : may (is_some left) (is_some right) ≡ true → may (has_slot a s) (has_slot b s) ≡ true
    here_slot h = mono (is_some left) (is_some right) (has_slot a s) (has_slot b s) (λ e. c.left_a s (taken_held s rest_a (sym (ap is_some el) ∙ e))) (λ e. c.left_b s (taken_held s rest_b (sym (ap is_some er) ∙ e))) h

    by : (k : ℕ) (before same given : Bool) → has_slot set k ≡ before → nat_eq s k ≡ same → is_some here ≡ given → (before || (same && given)) ≡ true → may (has_slot a k) (has_slot b k) ≡ true
    by k true same given eb es eg h = c.slots k eb
    by k false true true eb es eg h = subst (λ j. may (has_slot a j) (has_slot b j) ≡ true) (eqb-true s k es) (here_slot (hs eg))
    by k false true false eb es eg h = absurd cc
    by k false false given eb es eg h = absurd cc

pub merged_set : (made : List Bool → Bool → Bool → Bool) (may : Bool → Bool → Bool) (old new : List Gate) (a b set rest_a rest_b : List Member) → IsMerged made may old a b new set rest_a rest_b → IsSetOf new set
merged_set made may old new a b set rest_a rest_b c = record { ascending = ascend_from 0 c.next set c.ascending; wires = c.wires }

pub merged_value : (made : List Bool → Bool → Bool → Bool) (may : Bool → Bool → Bool) (old new : List Gate) (a b set rest_a rest_b : List Member) → ((bits : List Bool) → made bits false false ≡ false) → IsMerged made may old a b new set rest_a rest_b → lowest_slot rest_a rest_b ≡ None
    → (bits : List Bool) (k : ℕ) → is_in new set k bits ≡ made bits (is_in old a k bits) (is_in old b k bits)
merged_value made may old new a b set rest_a rest_b none c e bits k =
    let z = both_ended rest_a rest_b e in
    sym (c.value bits k ∙ ap (λ t. is_in new set k bits || made bits (is_in old t k bits) (is_in old rest_b k bits)) z.0 ∙ ap (λ t. is_in new set k bits || made bits false (is_in old t k bits)) z.1
    ∙ ap (λ b. is_in new set k bits || b) (none bits) ∙ or_false (is_in new set k bits))

-- ---- an operation

pub none_combined : (op : Operation) (old : List Gate) (a b : List Member) → IsSetOf old a → IsSetOf old b → IsCombined op old a b old [] a b
none_combined op old a b sa sb = none_merged (λ bits. combined op) (may_combine op) old a b sa sb

pub combined_more : (op : Operation) (old mid new : List Gate) (a b set more rest_a rest_b ra rb : List Member) (s : ℕ) (left right here : Option Wire) → IsCombined op old a b mid set rest_a rest_b → lowest_slot rest_a rest_b ≡ Some s
    → left ≡ taken s rest_a → ra ≡ others s rest_a → right ≡ taken s rest_b → rb ≡ others s rest_b → Extends mid new 2 → IfSome here (IsWireOf new)
    → ((bits : List Bool) → is_here new here bits ≡ combined op (is_here mid left bits) (is_here mid right bits)) → (is_some here ≡ true → may_combine op (is_some left) (is_some right) ≡ true) → more ≡ set ++ members_at s here → IsCombined op old a b new more ra rb
combined_more op old mid new a b set more rest_a rest_b ra rb s left right here c low el er_a er er_b ext hw v hs em =
    merged_more (λ bits. combined op) (may_combine op) old mid new a b set more rest_a rest_b ra rb s 1 left right here (λ bits. nothing_combined op) (may_monotone op) c low el er_a er er_b (omega arith) (omega (arith, one_less s rest_a rest_b low)) ext hw v hs em

pub combined_value : (op : Operation) (old new : List Gate) (a b set rest_a rest_b : List Member) → IsCombined op old a b new set rest_a rest_b → lowest_slot rest_a rest_b ≡ None
    → (bits : List Bool) (k : ℕ) → is_in new set k bits ≡ combined op (is_in old a k bits) (is_in old b k bits)
combined_value op old new a b set rest_a rest_b c e = merged_value (λ bits. combined op) (may_combine op) old new a b set rest_a rest_b (λ bits. nothing_combined op) c e

pub combined_extends : (op : Operation) (old new : List Gate) (a b set rest_a rest_b : List Member) → IsCombined op old a b new set rest_a rest_b → Extends old new (4 * (length a + length b))
combined_extends op old new a b set rest_a rest_b c = extends_within old new (2 * c.steps) (4 * (length a + length b)) (omega (arith, c.spent)) c.extends

-- the first wire of a list that is left is one of the new circuit
pub taken_stays : (made : List Bool → Bool → Bool → Bool) (may : Bool → Bool → Bool) (old new : List Gate) (a b set rest_a rest_b rest : List Member) (s : ℕ) (o : Option Wire) → IsMerged made may old a b new set rest_a rest_b → All (λ m. IsWireOf old m.here) rest → o ≡ taken s rest → IfSome o (IsWireOf new)
taken_stays made may old new a b set rest_a rest_b rest s o c h e = subst (λ o. IfSome o (IsWireOf new)) (sym e) (stays (taken s rest) (taken_wire old s rest h))
  where
    stays : (o : Option Wire) → IfSome o (IsWireOf old) → IfSome o (IsWireOf new)
    stays None i = tt
    stays (Some v) i = omega (arith, i, c.extends.at_least)
