-- Counting by marks.
use Rattle.std.proofs.Common.{◌≡◌, ℕ, suc, zero, ◌+◌, ◌-◌, ◌*◌, ◌<◌, ◌≤◌, Bool, true, false, not, ◌&&◌, ◌||◌, cond, List, [], ◌∷◌, ◌++◌, length, map, take, get_or, slice_get, Some, refl, sym, ap, ◌∙◌, subst, arith}
use Rattle.std.specs.Prelude.{nat_lt, nat_le}
use Rattle.std.specs.List.{All}
use Rattle.std.proofs.lemmas.Bool.Decides.{nat_tests}
use Rattle.std.proofs.lemmas.Option.{get_or_from_slice_get, slice_get_within}
use Rattle.std.proofs.lemmas.List.{take_all, take_more, length-map, length_push}
use Rattle.std.proofs.lemmas.List.Elements.{All-push, All-head, All-tail}
use Rattle.std.proofs.Math.Nat.{mul-le-mul_left}
use Rattle.bool_circuit.specs.declared.gate.Wire.{Wire}
use Rattle.bool_circuit.specs.declared.gate.Gate.{Gate}
use Rattle.bool_circuit.specs.Circuit.{wire_value, wire_values, IsWireOf, AreWiresOf, Extends}
use Rattle.bool_circuit.proofs.Values.{extends_none}
use Rattle.bool_circuit.proofs.Extending.{extends_trans, extends_within, wires_stay, wire_values_stay}
use Rattle.set_bits.specs.Counts.{marks, next_marks, last_mark, IsMarkedSoFar, IsCountedSoFar}
use Rattle.integer_bits.specs.Totals.{count_true}

map-push : {X Y : Type 0} (f : X → Y) → (xs : List X) (x : X) → map f (xs ++ x ∷ []) ≡ map f xs ++ f x ∷ []
map-push f [] x = refl
map-push f (y ∷ xs) x = ap (λ t. f y ∷ t) (map-push f xs x)

next_marks-push : (w b : Bool) (xs : List Bool) (x : Bool) → next_marks w b (xs ++ x ∷ []) ≡ next_marks w b xs ++ (x || (last_mark b xs && w)) ∷ []
next_marks-push w b [] x = refl
next_marks-push w b (y ∷ xs) x = ap (λ t. (y || (b && w)) ∷ t) (next_marks-push w y xs x)

last_mark-push : (b : Bool) (xs : List Bool) (x : Bool) → last_mark b (xs ++ x ∷ []) ≡ x
last_mark-push b [] x = refl
last_mark-push b (y ∷ xs) x = last_mark-push y xs x

one_more : (w : Bool) (j n : ℕ) → (nat_lt j n || (nat_le j n && w)) ≡ nat_lt j (n + cond w 1 0)
one_more true j n = grind (arith, nat_tests)
one_more false j n = grind (arith, nat_tests)

le_lt : (j n : ℕ) → nat_lt j n ≡ nat_le (j + 1) n
le_lt j n = grind (arith, nat_tests)

-- one more is counted
pub next_marks-marks : (w : Bool) (k j n : ℕ) → next_marks w (nat_le j n) (marks k j n) ≡ marks k j (n + cond w 1 0)
next_marks-marks w zero j n = refl
next_marks-marks w (suc k) j n =
    let here = one_more w j n in
    let rest = next_marks-marks w k (j + 1) n in
    let e = le_lt j n in
    ap (λ t. t ∷ next_marks w (nat_lt j n) (marks k (j + 1) n)) here
    ∙ ap (λ b. nat_lt j (n + cond w 1 0) ∷ next_marks w b (marks k (j + 1) n)) e
    ∙ ap (λ t. nat_lt j (n + cond w 1 0) ∷ t) rest

pub none_marked : (old : List Gate) (ms : List Wire) (first wire : Wire) → IsWireOf old first → IsMarkedSoFar old ms first wire 0 old [] first
none_marked old ms first wire h = record { extends = extends_none old (2 * 0); size = refl; wires = λ k d l. absurd (omega arith); below_wire = h; below_last = λ bits. refl; values = λ bits. refl }

pub mark_more : (old mid new : List Gate) (ms : List Wire) (first wire : Wire) (i : ℕ) (next more : List Wire) (below x mark : Wire) → IsMarkedSoFar old ms first wire i mid next below → AreWiresOf old ms → IsWireOf old wire → i < length ms → slice_get ms i ≡ Some x
    → Extends mid new 2 → IsWireOf new mark → ((bits : List Bool) → wire_value new mark bits ≡ (wire_value mid x bits || (wire_value mid below bits && wire_value mid wire bits))) → more ≡ next ++ mark ∷ []
    → IsMarkedSoFar old ms first wire (i + 1) new more x
mark_more old mid new ms first wire i next more below x mark s wm ww l ex ext wk v e =
    let at : get_or ms i x ≡ x = get_or_from_slice_get ms i x x ex in
    let wx : IsWireOf old x = subst (IsWireOf old) at (wm i x l) in
    let t : take (i + 1) ms ≡ take i ms ++ x ∷ [] = take_more ms i x l ∙ ap (λ y. take i ms ++ y ∷ []) at in
    let tv : (bits : List Bool) → wire_values old (take (i + 1) ms) bits ≡ wire_values old (take i ms) bits ++ wire_value old x bits ∷ [] =
    λ bits. ap (λ t. wire_values old t bits) t ∙ map-push (λ w. wire_value old w bits) (take i ms) x in
    rw e (record {
      extends = (let z : 2 * (i + 1) ≡ 2 * i + 2 = omega arith in rw z (extends_trans old mid new (2 * i) 2 s.extends ext));
      size = length_push next mark ∙ ap (λ k. k + 1) s.size;
      wires = All-push (IsWireOf new) next mark (wires_stay mid new 2 next ext s.wires) wk;
      below_wire = wx;
      below_last = λ bits. sym (ap (last_mark (wire_value old first bits)) (tv bits) ∙ last_mark-push (wire_value old first bits) (wire_values old (take i ms) bits) (wire_value old x bits));
      values = λ bits.
          map-push (λ w. wire_value new w bits) next mark
          ∙ ap (λ t. t ++ wire_value new mark bits ∷ []) (wire_values_stay mid new 2 next bits ext s.wires ∙ s.values bits)
          ∙ ap (λ t. next_marks (wire_value old wire bits) (wire_value old first bits) (wire_values old (take i ms) bits) ++ t ∷ [])
          (v bits ∙ ap (λ u. u || (wire_value mid below bits && wire_value mid wire bits)) (s.extends.keeps x wx bits)
          ∙ ap (λ u. wire_value old x bits || (u && wire_value mid wire bits)) (s.extends.keeps below s.below_wire bits ∙ s.below_last bits)
          ∙ ap (λ u. wire_value old x bits || (last_mark (wire_value old first bits) (wire_values old (take i ms) bits) && u)) (s.extends.keeps wire ww bits))
          ∙ sym (ap (next_marks (wire_value old wire bits) (wire_value old first bits)) (tv bits) ∙ next_marks-push (wire_value old wire bits) (wire_value old first bits) (wire_values old (take i ms) bits) (wire_value old x bits));
    })

count_true-push : (xs : List Bool) (x : Bool) → count_true (xs ++ x ∷ []) ≡ count_true xs + cond x 1 0
count_true-push [] true = refl
count_true-push [] false = refl
count_true-push (true ∷ xs) x = omega (arith, count_true-push xs x)
count_true-push (false ∷ xs) x = omega (arith, count_true-push xs x)

count_le : (xs : List Bool) → count_true xs ≤ length xs
count_le [] = omega arith
count_le (true ∷ xs) = omega (arith, count_le xs)
count_le (false ∷ xs) = omega (arith, count_le xs)

-- ---- the loop over the wires

no_marks : (k j : ℕ) (ws : List Wire) (gates : List Gate) (off : Wire) (bits : List Bool) → length ws ≡ k → All (λ w. w ≡ off) ws → wire_value gates off bits ≡ false → wire_values gates ws bits ≡ marks k j 0
no_marks zero j [] gates off bits l h f = refl
no_marks zero j (w ∷ ws) gates off bits l h f = absurd (omega (arith, l))
no_marks (suc k) j [] gates off bits l h f = absurd (omega (arith, l))
no_marks (suc k) j (w ∷ ws) gates off bits l h f =
    let e : wire_value gates w bits ≡ false = ap (λ u. wire_value gates u bits) (All-head (λ w. w ≡ off) w ws h) ∙ f in
    let z : nat_lt j 0 ≡ false = grind (arith, nat_tests) in
    ap (λ b. b ∷ wire_values gates ws bits) (e ∙ sym z) ∙ ap (λ t. nat_lt j 0 ∷ t) (no_marks k (j + 1) ws gates off bits (omega (arith, l)) (All-tail (λ w. w ≡ off) w ws h) f)

same_wires : (gates : List Gate) (off : Wire) (ws : List Wire) → All (λ w. w ≡ off) ws → IsWireOf gates off → AreWiresOf gates ws
same_wires gates off ws h o = λ k d l. subst (IsWireOf gates) (sym (h k d l)) o

pub none_counted : (old mid new : List Gate) (ws ms : List Wire) (k : ℕ) (on off : Wire) → Extends old mid 1 → Extends mid new 1 → IsWireOf mid on → ((bits : List Bool) → wire_value mid on bits ≡ true) → IsWireOf new off → ((bits : List Bool) → wire_value new off bits ≡ false)
    → length ms ≡ k → All (λ w. w ≡ off) ms → IsCountedSoFar old ws k on 0 new ms
none_counted old mid new ws ms k on off e f o v p w l h = record {
  extends = extends_within old new (1 + 1) (2 * k * 0 + 2) (omega arith) (extends_trans old mid new 1 1 e f);
  size = l;
  wires = same_wires new off ms h p;
  first_wire = omega (arith, f.at_least);
  first_value = λ bits. f.keeps on o bits ∙ v bits;
  values = λ bits. no_marks k 0 ms new off bits l h (w bits);
}

le_zero : (n : ℕ) → true ≡ nat_le 0 n
le_zero n = grind (arith, nat_tests)

pub count_more : (old mid new : List Gate) (ws ms next : List Wire) (k i : ℕ) (first x last : Wire) → IsCountedSoFar old ws k first i mid ms → AreWiresOf old ws → i < length ws → slice_get ws i ≡ Some x
    → IsMarkedSoFar mid ms first x (length ms) new next last → IsCountedSoFar old ws k first (i + 1) new next
count_more old mid new ws ms next k i first x last s ww l ex t =
    let at : get_or ws i x ≡ x = get_or_from_slice_get ws i x x ex in
    let wx : IsWireOf old x = subst (IsWireOf old) at (ww i x l) in
    let n : (bits : List Bool) → ℕ = λ bits. count_true (wire_values old (take i ws) bits) in
    record {
      extends = (let z : 2 * k * (i + 1) + 2 ≡ (2 * k * i + 2) + 2 * k = omega arith in rw z (extends_trans old mid new (2 * k * i + 2) (2 * k) s.extends (subst (λ m. Extends mid new (2 * m)) s.size t.extends)));
      size = t.size ∙ s.size;
      wires = t.wires;
      first_wire = (let a = s.first_wire in let b = t.extends.at_least in omega arith);
      first_value = λ bits. t.extends.keeps first s.first_wire bits ∙ s.first_value bits;
      values = λ bits.
          t.values bits
          ∙ ap (λ u. next_marks (wire_value mid x bits) (wire_value mid first bits) (wire_values mid u bits)) (take_all (length ms) ms (omega arith))
          ∙ ap (λ u. next_marks (wire_value mid x bits) (wire_value mid first bits) u) (s.values bits)
          ∙ ap (λ u. next_marks (wire_value mid x bits) u (marks k 0 (n bits))) (s.first_value bits ∙ le_zero (n bits))
          ∙ next_marks-marks (wire_value mid x bits) k 0 (n bits)
          ∙ ap (λ u. marks k 0 (n bits + cond u 1 0)) (s.extends.keeps x wx bits)
          ∙ ap (marks k 0) (sym (ap (λ u. count_true (wire_values old u bits)) (take_more ws i x l ∙ ap (λ y. take i ws ++ y ∷ []) at) ∙ ap count_true (map-push (λ w. wire_value old w bits) (take i ws) x) ∙ count_true-push (wire_values old (take i ws) bits) (wire_value old x bits)));
    }

-- ---- the last mark

get_or-marks : (k j n i : ℕ) → i < k → get_or (marks k j n) i false ≡ nat_lt (j + i) n
get_or-marks zero j n i h = absurd (omega arith)
get_or-marks (suc k) j n zero h = let z : j + 0 ≡ j = omega arith in rw z refl
get_or-marks (suc k) j n (suc i) h = let z : j + suc i ≡ (j + 1) + i = omega arith in rw z (get_or-marks k (j + 1) n i (omega arith))

get_or-values : (gates : List Gate) (ws : List Wire) (i : ℕ) (x : Wire) (bits : List Bool) → slice_get ws i ≡ Some x → get_or (wire_values gates ws bits) i false ≡ wire_value gates x bits
get_or-values gates [] i x bits e = cc
get_or-values gates (w ∷ ws) zero x bits e = (let f : w ≡ x = grind arith in ap (λ u. wire_value gates u bits) f)
get_or-values gates (w ∷ ws) (suc i) x bits e = get_or-values gates ws i x bits e

pub at_least_exact : (old new : List Gate) (ws ms : List Wire) (k : ℕ) (first x : Wire) → 0 < k → IsCountedSoFar old ws k first (length ws) new ms → slice_get ms (k - 1) ≡ Some x → (bits : List Bool) → wire_value new x bits ≡ nat_le k (count_true (wire_values old ws bits))
at_least_exact old new ws ms k first x h s e bits =
    let n : ℕ = count_true (wire_values old ws bits) in
    let z : 0 + (k - 1) ≡ k - 1 = omega arith in
    let o : (k - 1) + 1 ≡ k = omega arith in
    sym (get_or-values new ms (k - 1) x bits e)
    ∙ ap (λ t. get_or t (k - 1) false) (s.values bits ∙ ap (λ u. marks k 0 (count_true (wire_values old u bits))) (take_all (length ws) ws (omega arith)))
    ∙ get_or-marks k 0 n (k - 1) (omega arith)
    ∙ ap (λ t. nat_lt t n) z ∙ le_lt (k - 1) n ∙ ap (λ t. nat_le t n) o

pub too_many : (gates : List Gate) (ws : List Wire) (k : ℕ) (bits : List Bool) → length ws < k → false ≡ nat_le k (count_true (wire_values gates ws bits))
too_many gates ws k bits h = let c = count_le (wire_values gates ws bits) in let l = length-map ws (λ w. wire_value gates w bits) in by k (count_true (wire_values gates ws bits)) (omega arith)
  where
    by : (k n : ℕ) → n < k → false ≡ nat_le k n
    by k n h = grind (arith, nat_tests)

pub enough : (gates : List Gate) (ws : List Wire) (k : ℕ) (bits : List Bool) → length ws ≤ k → true ≡ nat_le (count_true (wire_values gates ws bits)) k
enough gates ws k bits h = let c = count_le (wire_values gates ws bits) in let l = length-map ws (λ w. wire_value gates w bits) in by k (count_true (wire_values gates ws bits)) (omega arith)
  where
    by : (k n : ℕ) → n ≤ k → true ≡ nat_le n k
    by k n h = grind (arith, nat_tests)

pub not_more : (k n : ℕ) → not (nat_le (k + 1) n) ≡ nat_le n k
not_more k n = grind (arith, nat_tests)

pub at_least_none : (n : ℕ) → true ≡ nat_le 0 n
at_least_none n = le_zero n

pub room_for : (k l n : ℕ) → k ≤ n + 1 → 2 * k * l + 3 ≤ 2 * l * (n + 1) + 3
room_for k l n h = let p = mul-le-mul_left (2 * l) h in omega (arith, p)

pub wire_at : (gates : List Gate) (ws : List Wire) (i : ℕ) (x : Wire) → AreWiresOf gates ws → slice_get ws i ≡ Some x → IsWireOf gates x
wire_at gates ws i x h e = subst (IsWireOf gates) (get_or_from_slice_get ws i x x e) (h i x (slice_get_within ws i x e))
