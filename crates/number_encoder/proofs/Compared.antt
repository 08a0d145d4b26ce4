-- Integers compared, one after another.
use Rattle.std.proofs.Common.{◌≡◌, ℕ, ◌+◌, ◌*◌, ◌<◌, ◌≤◌, Bool, true, false, cond, not, ◌&&◌, ◌||◌, List, [], ◌∷◌, ◌++◌, length, take, max, min, get_or, Some, refl, sym, ap, ◌∙◌, arith, length-append, ℤ}
use Rattle.std.specs.Prelude.{slice_get}
use Rattle.std.specs.Ordering.{int_eq}
use Rattle.std.specs.List.{All, list_any}
use Rattle.std.proofs.Math.Nat.{max-le, le-max_left, le-max_right, mul-le-mul_left}
use Rattle.std.proofs.lemmas.List.{map-append, length-take, length-map}
use Rattle.std.proofs.lemmas.List.Elements.{All-cons, All-push}
use Rattle.std.proofs.lemmas.Nat.{row_fits as row_below}
use Rattle.std.proofs.lemmas.List.Folds.{list_any-append}
use Rattle.bool_circuit.specs.declared.gate.Wire.{Wire}
use Rattle.bool_circuit.specs.declared.gate.Gate.{Gate}
use Rattle.bool_circuit.specs.Circuit.{wire_value, wire_values, IsWireOf, AreWiresOf, Extends}
use Rattle.bool_circuit.proofs.Extending.{extends_trans, extends_within, wires_stay, wire_values_stay}
use Rattle.integer_bits.specs.declared.totals.Part.{Part}
use Rattle.integer_bits.specs.Numbers.{integer_at}
use Rattle.integer_bits.specs.Totals.{IsPartOf, ArePartsOf}
use Rattle.shape_encoder.proofs.Steps.{all_item, take_item}
use Rattle.number_encoder.specs.Values.{present_values, widest}
use Rattle.number_encoder.specs.Costs.{pair_cost, row_cost}
use Rattle.number_encoder.specs.Comparing.{is_among, seen_more, integers_of, all_marked, IsFoundSoFar, IsRowSoFar}
use Rattle.number_encoder.proofs.Standing.{part_stays, integer_stays}

-- ---- lists that grow by an item

pub present-append : (gates : List Gate) (ps qs : List Part) (bits : List Bool) → present_values gates (ps ++ qs) bits ≡ present_values gates ps bits ++ present_values gates qs bits
present-append gates [] qs bits = refl
present-append gates (p ∷ ps) qs bits = by (wire_value gates p.here bits) (present-append gates ps qs bits)
  where
    by : (b : Bool) → present_values gates (ps ++ qs) bits ≡ present_values gates ps bits ++ present_values gates qs bits
        → cond b (integer_at gates p.bits bits ∷ present_values gates (ps ++ qs) bits) (present_values gates (ps ++ qs) bits) ≡ cond b (integer_at gates p.bits bits ∷ present_values gates ps bits) (present_values gates ps bits) ++ present_values gates qs bits
    by true rest = ap (λ zs. integer_at gates p.bits bits ∷ zs) rest
    by false rest = rest

one-present : (gates : List Gate) (p : Part) (bits : List Bool) (test : ℤ → Bool) → list_any test (present_values gates (p ∷ []) bits) ≡ (wire_value gates p.here bits && test (integer_at gates p.bits bits))
one-present gates p bits test = by (wire_value gates p.here bits)
  where
    or_false : (t : Bool) → (t || false) ≡ t
    or_false true = refl
    or_false false = refl

    by : (b : Bool) → list_any test (cond b (integer_at gates p.bits bits ∷ []) []) ≡ (b && test (integer_at gates p.bits bits))
    by true = or_false (test (integer_at gates p.bits bits))
    by false = refl

pub among-push : (gates : List Gate) (ps : List Part) (p : Part) (bits : List Bool) (z : ℤ) → is_among gates (ps ++ p ∷ []) bits z ≡ (is_among gates ps bits z || (wire_value gates p.here bits && int_eq z (integer_at gates p.bits bits)))
among-push gates ps p bits z =
    ap (list_any (int_eq z)) (present-append gates ps (p ∷ []) bits) ∙ list_any-append (int_eq z) (present_values gates ps bits) (present_values gates (p ∷ []) bits)
    ∙ ap (λ b. is_among gates ps bits z || b) (one-present gates p bits (int_eq z))

pub seen-push : (here : Bool) (z : ℤ) (ss : List Bool) (s : Bool) (ys : List ℤ) (y : ℤ) → length ss ≡ length ys → seen_more here z (ss ++ s ∷ []) (ys ++ y ∷ []) ≡ seen_more here z ss ys ++ (s || (here && int_eq z y)) ∷ []
seen-push here z [] s [] y e = refl
seen-push here z [] s (x ∷ ys) y e = absurd (omega (arith, e))
seen-push here z (r ∷ ss) s [] y e = absurd (omega (arith, e))
seen-push here z (r ∷ ss) s (x ∷ ys) y e = ap (λ bs. (r || (here && int_eq z x)) ∷ bs) (seen-push here z ss s ys y (omega (arith, e)))

pub marked-push : (hs : List Bool) (h : Bool) (ss : List Bool) (s : Bool) → length hs ≡ length ss → all_marked (hs ++ h ∷ []) (ss ++ s ∷ []) ≡ (all_marked hs ss && (not h || s))
marked-push [] h [] s e = and_true (not h || s)
  where
    and_true : (b : Bool) → (b && true) ≡ (true && b)
    and_true true = refl
    and_true false = refl
marked-push [] h (x ∷ ss) s e = absurd (omega (arith, e))
marked-push (x ∷ hs) h [] s e = absurd (omega (arith, e))
marked-push (x ∷ hs) h (y ∷ ss) s e = ap (λ b. (not x || y) && b) (marked-push hs h ss s (omega (arith, e))) ∙ regroup (not x || y) (all_marked hs ss) (not h || s)
  where
    regroup : (a b c : Bool) → (a && (b && c)) ≡ ((a && b) && c)
    regroup true b c = refl
    regroup false b c = refl

-- ---- an integer among others

-- no part is wider than the widest
pub no_wider : (ps : List Part) (i : ℕ) (p : Part) → slice_get ps i ≡ Some p → length p.bits ≤ widest ps
no_wider ps i p get = all_item (λ (q : Part). length q.bits ≤ widest ps) ps i p (each ps) get
  where
    each : (qs : List Part) → All (λ (q : Part). length q.bits ≤ widest qs) qs
    each [] = λ k d l. absurd (omega (arith, l))
    each (q ∷ qs) = All-cons (λ (r : Part). length r.bits ≤ max (length q.bits) (widest qs)) q qs (le-max_left (length q.bits) (widest qs))
        (λ k d l. let h : length (get_or qs k d).bits ≤ widest qs = each qs k d l in omega (arith, h, le-max_right (length q.bits) (widest qs)))

-- two parts compared within the cost of a pair
pub pair_fits : (part : Part) (others : List Part) (i : ℕ) (other : Part) → slice_get others i ≡ Some other → 4 * (max (length part.bits) (length other.bits) + 1) + 4 ≤ pair_cost (max (length part.bits) (widest others))
pair_fits part others i other get =
    let w = max (length part.bits) (widest others) in
    let a : length part.bits ≤ w = le-max_left (length part.bits) (widest others) in
    let b : widest others ≤ w = le-max_right (length part.bits) (widest others) in
    let c = no_wider others i other get in
    let d : max (length part.bits) (length other.bits) ≤ w = max-le a (omega (arith, b, c)) in
    omega (arith, d)

-- a row of pairs within the cost of a row
pub row_fits : (parts others : List Part) (i : ℕ) (part : Part) → slice_get parts i ≡ Some part → length others * pair_cost (max (length part.bits) (widest others)) ≤ length others * pair_cost (max (widest parts) (widest others))
row_fits parts others i part get =
    let w = max (widest parts) (widest others) in
    let a : widest parts ≤ w = le-max_left (widest parts) (widest others) in
    let b : widest others ≤ w = le-max_right (widest parts) (widest others) in
    let c = no_wider parts i part get in
    let d : max (length part.bits) (widest others) ≤ w = max-le (omega (arith, a, c)) b in
    mul-le-mul_left (length others) (omega (arith, d))

-- some of n are within the cost of all
pub some_fit : (i n k : ℕ) → i < n → i * k + k ≤ n * k
some_fit i n k h = row_below i k n k h (omega arith)

pub none_found : (old : List Gate) (part : Part) (others : List Part) (w : ℕ) (none : Wire) → IsWireOf old none → ((bits : List Bool) → wire_value old none bits ≡ false) → IsFoundSoFar old part others w 0 old none
none_found old part others w none h v = record {
  extends = record { at_least = omega arith; at_most = omega arith; same_inputs = refl; keeps = λ u g bits. refl };
  wire = h;
  value = v;
}

-- the values that the next pair takes, in the old circuit
found_value : (old mid first new : List Gate) (part : Part) (others : List Part) (i m k : ℕ) (other : Part) (found same more : Wire) → IsPartOf old part → ArePartsOf old others → slice_get others i ≡ Some other → Extends old mid m → Extends mid first k → IsWireOf mid found
    → ((bits : List Bool) → wire_value mid found bits ≡ is_among old (take i others) bits (integer_at old part.bits bits))
    → ((bits : List Bool) → wire_value first same bits ≡ int_eq (integer_at mid part.bits bits) (integer_at mid other.bits bits))
    → ((bits : List Bool) → wire_value new more bits ≡ (wire_value first found bits || (wire_value first other.here bits && wire_value first same bits)))
    → (bits : List Bool) → wire_value new more bits ≡ is_among old (take (i + 1) others) bits (integer_at old part.bits bits)
found_value old mid first new part others i m k other found same more p ps get x y f fv sv v bits =
    let q = all_item (IsPartOf old) others i other ps get in
    v bits
    ∙ ap (λ b. b || (wire_value first other.here bits && wire_value first same bits)) (y.keeps found f bits ∙ fv bits)
    ∙ ap (λ b. is_among old (take i others) bits (integer_at old part.bits bits) || (b && wire_value first same bits)) ((extends_trans old mid first m k x y).keeps other.here q.here bits)
    ∙ ap (λ b. is_among old (take i others) bits (integer_at old part.bits bits) || (wire_value old other.here bits && b)) (same_value bits)
    ∙ sym (among-push old (take i others) other bits (integer_at old part.bits bits))
    ∙ ap (λ qs. is_among old qs bits (integer_at old part.bits bits)) (sym (take_item others i other get))
  where
    same_value : (bits : List Bool) → wire_value first same bits ≡ int_eq (integer_at old part.bits bits) (integer_at old other.bits bits)
    same_value bits =
        let q = all_item (IsPartOf old) others i other ps get in
        sv bits ∙ ap (λ z. int_eq z (integer_at mid other.bits bits)) (integer_stays old mid m part bits x p) ∙ ap (λ z. int_eq (integer_at old part.bits bits) z) (integer_stays old mid m other bits x q)

pub found_more : (old mid first new : List Gate) (part : Part) (others : List Part) (i : ℕ) (other : Part) (found same more : Wire) → IsPartOf old part → ArePartsOf old others → slice_get others i ≡ Some other
    → IsFoundSoFar old part others (max (length part.bits) (widest others)) i mid found
    → Extends mid first (4 * (max (length part.bits) (length other.bits) + 1)) → Extends first new 2 → IsWireOf new more
    → ((bits : List Bool) → wire_value first same bits ≡ int_eq (integer_at mid part.bits bits) (integer_at mid other.bits bits))
    → ((bits : List Bool) → wire_value new more bits ≡ (wire_value first found bits || (wire_value first other.here bits && wire_value first same bits)))
    → IsFoundSoFar old part others (max (length part.bits) (widest others)) (i + 1) new more
found_more old mid first new part others i other found same more p ps get f x y h sv v =
    let k = 4 * (max (length part.bits) (length other.bits) + 1) in
    let c = pair_cost (max (length part.bits) (widest others)) in
    let e = pair_fits part others i other get in
    let g : (i + 1) * c ≡ i * c + c = one_more i c in
    record {
      extends = extends_within old new ((i * c + k) + 2) ((i + 1) * c) (omega (arith, e, g)) (extends_trans old first new (i * c + k) 2 (extends_trans old mid first (i * c) k f.extends x) y);
      wire = h;
      value = found_value old mid first new part others i (i * c) k other found same more p ps get f.extends x f.wire f.value sv v;
    }
  where
    one_more : (i c : ℕ) → (i + 1) * c ≡ i * c + c
    one_more i c = omega arith

-- what was made on the way is within the cost of all
pub on_the_way : (old mid new : List Gate) (i n c k : ℕ) → i < n → k ≤ c → Extends old mid (i * c) → Extends mid new k → Extends old new (n * c)
on_the_way old mid new i n c k h l x y =
    let g = some_fit i n c h in
    extends_within old new (i * c + k) (n * c) (omega (arith, g, l)) (extends_trans old mid new (i * c) k x y)

pub room_left : (old mid : List Gate) (i n c k most : ℕ) → i < n → k ≤ c → Extends old mid (i * c) → length old + n * c ≤ most → length mid + k ≤ most
room_left old mid i n c k most h l x r = let g = some_fit i n c h in omega (arith, g, l, r, x.at_most)

-- ---- a row

pub none_seen : (old : List Gate) (part : Part) (others : List Part) (seen : List Wire) (w : ℕ) (none : Wire) → IsWireOf old none → ((bits : List Bool) → wire_value old none bits ≡ false) → IsRowSoFar old part others seen w 0 old none []
none_seen old part others seen w none h v = record { among = none_found old part others w none h v; size = refl; wires = λ k d l. absurd (omega (arith, l)); values = λ bits. refl }

pub row_more : (old mid first second new : List Gate) (part : Part) (others : List Part) (seen next : List Wire) (i : ℕ) (other : Part) (mark found same more marked : Wire) → IsPartOf old part → ArePartsOf old others → AreWiresOf old seen → length seen ≡ length others
    → slice_get others i ≡ Some other → slice_get seen i ≡ Some mark
    → IsRowSoFar old part others seen (max (length part.bits) (widest others)) i mid found next
    → Extends mid first (4 * (max (length part.bits) (length other.bits) + 1)) → Extends first second 2 → Extends second new 2 → IsWireOf first same → IsWireOf second more → IsWireOf new marked
    → ((bits : List Bool) → wire_value first same bits ≡ int_eq (integer_at mid part.bits bits) (integer_at mid other.bits bits))
    → ((bits : List Bool) → wire_value second more bits ≡ (wire_value first found bits || (wire_value first other.here bits && wire_value first same bits)))
    → ((bits : List Bool) → wire_value new marked bits ≡ (wire_value second mark bits || (wire_value second part.here bits && wire_value second same bits)))
    → IsRowSoFar old part others seen (max (length part.bits) (widest others)) (i + 1) new more (next ++ marked ∷ [])
row_more old mid first second new part others seen next i other mark found same more marked p ps ss len get got r x y z sw mw h sv v mv =
    let k = 4 * (max (length part.bits) (length other.bits) + 1) in
    let c = pair_cost (max (length part.bits) (widest others)) in
    let e = pair_fits part others i other get in
    let g : (i + 1) * c ≡ i * c + c = one_more i c in
    record {
      among = record {
        extends = extends_within old new (((i * c + k) + 2) + 2) ((i + 1) * c) (omega (arith, e, g)) (extends_trans old second new ((i * c + k) + 2) 2 (extends_trans old first second (i * c + k) 2 (extends_trans old mid first (i * c) k r.among.extends x) y) z);
        wire = omega (arith, mw, z.at_least);
        value = λ bits. z.keeps more mw bits ∙ found_value old mid first second part others i (i * c) k other found same more p ps get r.among.extends x r.among.wire r.among.value sv v bits;
      };
      size = length-append next (marked ∷ []) ∙ ap (λ n. n + 1) r.size;
      wires = All-push (IsWireOf new) next marked (wires_stay mid new (k + 2 + 2) next (later k x) r.wires) h;
      values = λ bits.
          map-append (λ u. wire_value new u bits) next (marked ∷ [])
          ∙ ap (λ bs. bs ++ wire_value new marked bits ∷ []) (wire_values_stay mid new (k + 2 + 2) next bits (later k x) r.wires ∙ r.values bits)
          ∙ ap (λ b. seen_more (wire_value old part.here bits) (integer_at old part.bits bits) (wire_values old (take i seen) bits) (integers_of old (take i others) bits) ++ b ∷ []) (mine bits)
          ∙ sym (seen-push (wire_value old part.here bits) (integer_at old part.bits bits) (wire_values old (take i seen) bits) (wire_value old mark bits) (integers_of old (take i others) bits) (integer_at old other.bits bits) (lengths bits))
          ∙ ap (λ bs. seen_more (wire_value old part.here bits) (integer_at old part.bits bits) bs (integers_of old (take i others) bits ++ integer_at old other.bits bits ∷ [])) (sym (ap (λ us. wire_values old us bits) (take_item seen i mark got) ∙ map-append (λ u. wire_value old u bits) (take i seen) (mark ∷ [])))
          ∙ ap (λ zs. seen_more (wire_value old part.here bits) (integer_at old part.bits bits) (wire_values old (take (i + 1) seen) bits) zs) (sym (ap (λ qs. integers_of old qs bits) (take_item others i other get) ∙ map-append (λ (q : Part). integer_at old q.bits bits) (take i others) (other ∷ [])));
    }
  where
    one_more : (i c : ℕ) → (i + 1) * c ≡ i * c + c
    one_more i c = omega arith

    later : (k : ℕ) → Extends mid first k → Extends mid new (k + 2 + 2)
    later k x = extends_trans mid second new (k + 2) 2 (extends_trans mid first second k 2 x y) z

    until : (k : ℕ) → Extends mid first k → (m : ℕ) → Extends old mid m → Extends old second (m + k + 2)
    until k x m w = extends_trans old first second (m + k) 2 (extends_trans old mid first m k w x) y

    same_value : (bits : List Bool) → wire_value second same bits ≡ int_eq (integer_at old part.bits bits) (integer_at old other.bits bits)
    same_value bits =
        let q = all_item (IsPartOf old) others i other ps get in
        let m = i * pair_cost (max (length part.bits) (widest others)) in
        y.keeps same sw bits ∙ sv bits ∙ ap (λ a. int_eq a (integer_at mid other.bits bits)) (integer_stays old mid m part bits r.among.extends p) ∙ ap (λ a. int_eq (integer_at old part.bits bits) a) (integer_stays old mid m other bits r.among.extends q)

    mine : (bits : List Bool) → wire_value new marked bits ≡ (wire_value old mark bits || (wire_value old part.here bits && int_eq (integer_at old part.bits bits) (integer_at old other.bits bits)))
    mine bits =
        let m = i * pair_cost (max (length part.bits) (widest others)) in
        let k = 4 * (max (length part.bits) (length other.bits) + 1) in
        let u = until k x m r.among.extends in
        mv bits
        ∙ ap (λ b. b || (wire_value second part.here bits && wire_value second same bits)) (u.keeps mark (all_item (IsWireOf old) seen i mark ss got) bits)
        ∙ ap (λ b. wire_value old mark bits || (b && wire_value second same bits)) (u.keeps part.here p.here bits)
        ∙ ap (λ b. wire_value old mark bits || (wire_value old part.here bits && b)) (same_value bits)

    lengths : (bits : List Bool) → length (wire_values old (take i seen) bits) ≡ length (integers_of old (take i others) bits)
    lengths bits =
        let a = length-map (take i seen) (λ u. wire_value old u bits) in
        let b = length-map (take i others) (λ (q : Part). integer_at old q.bits bits) in
        let c = length-take i seen in
        let d = length-take i others in
        a ∙ c ∙ ap (λ n. min i n) len ∙ sym d ∙ sym b

-- ---- what a loop needs on its way

pub other_here : (old mid first : List Gate) (ps : List Part) (i m k : ℕ) (p : Part) → ArePartsOf old ps → slice_get ps i ≡ Some p → Extends old mid m → Extends mid first k → IsWireOf first p.here
other_here old mid first ps i m k p h get x y = let w = (all_item (IsPartOf old) ps i p h get).here in omega (arith, w, x.at_least, y.at_least)

pub other_right : (old mid : List Gate) (ps : List Part) (i m : ℕ) (p : Part) → ArePartsOf old ps → slice_get ps i ≡ Some p → Extends old mid m → IsPartOf mid p
other_right old mid ps i m p h get x = part_stays old mid m p x (all_item (IsPartOf old) ps i p h get)

-- a pair has room
pub pair_room : (old mid : List Gate) (part : Part) (others : List Part) (i most : ℕ) (other : Part) → slice_get others i ≡ Some other → i < length others → Extends old mid (i * pair_cost (max (length part.bits) (widest others))) → length old + length others * pair_cost (max (length part.bits) (widest others)) ≤ most
    → length mid + (4 * (max (length part.bits) (length other.bits) + 1) + 4) ≤ most
pair_room old mid part others i most other get l x r =
    let e = pair_fits part others i other get in
    let g = room_left old mid i (length others) (pair_cost (max (length part.bits) (widest others))) (pair_cost (max (length part.bits) (widest others))) most l (omega arith) x r in
    omega (arith, e, g)

-- what a pair adds is within the whole
pub pair_within : (old mid new : List Gate) (part : Part) (others : List Part) (i k : ℕ) (other : Part) → slice_get others i ≡ Some other → i < length others → Extends old mid (i * pair_cost (max (length part.bits) (widest others))) → k ≤ 4 * (max (length part.bits) (length other.bits) + 1) + 4 → Extends mid new k
    → Extends old new (length others * pair_cost (max (length part.bits) (widest others)))
pair_within old mid new part others i k other get l x h y =
    let e = pair_fits part others i other get in
    on_the_way old mid new i (length others) (pair_cost (max (length part.bits) (widest others))) k l (omega (arith, e, h)) x y

-- a row has room
pub row_room : (old mid : List Gate) (parts others : List Part) (i most : ℕ) (part : Part) → slice_get parts i ≡ Some part → i < length parts → Extends old mid (i * row_cost (length others) (max (widest parts) (widest others))) → length old + length parts * row_cost (length others) (max (widest parts) (widest others)) ≤ most
    → length mid + (length others * pair_cost (max (length part.bits) (widest others)) + 3) ≤ most
row_room old mid parts others i most part get l x r =
    let e = row_fits parts others i part get in
    let g = room_left old mid i (length parts) (row_cost (length others) (max (widest parts) (widest others))) (row_cost (length others) (max (widest parts) (widest others))) most l (omega arith) x r in
    omega (arith, e, g)

-- what a row adds is within the whole
pub row_within : (old mid new : List Gate) (parts others : List Part) (i k : ℕ) (part : Part) → slice_get parts i ≡ Some part → i < length parts → Extends old mid (i * row_cost (length others) (max (widest parts) (widest others))) → k ≤ length others * pair_cost (max (length part.bits) (widest others)) + 3 → Extends mid new k
    → Extends old new (length parts * row_cost (length others) (max (widest parts) (widest others)))
row_within old mid new parts others i k part get l x h y =
    let e = row_fits parts others i part get in
    on_the_way old mid new i (length parts) (row_cost (length others) (max (widest parts) (widest others))) k l (omega (arith, e, h)) x y
