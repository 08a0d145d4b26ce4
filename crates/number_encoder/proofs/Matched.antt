-- All integers of one list looked for in another.
use Rattle.std.proofs.Common.{◌≡◌, ℕ, ◌+◌, ◌*◌, Bool, true, false, cond, not, ◌&&◌, ◌||◌, List, [], ◌∷◌, ◌++◌, length, take, max, min, Some, refl, sym, ap, ◌∙◌, arith, ℤ}
use Rattle.std.specs.Prelude.{slice_get, replicate}
use Rattle.std.specs.Ordering.{int_eq}
use Rattle.std.proofs.lemmas.Cmp.{int_eq_equiv}
use Rattle.std.specs.List.{list_any, list_all}
use Rattle.std.proofs.lemmas.List.{take_all, map-append, length-map, length-take, length-replicate}
use Rattle.std.proofs.lemmas.List.Elements.{All-head, All-tail, All-replicate}
use Rattle.std.proofs.lemmas.List.Folds.{list_all-append}
use Rattle.bool_circuit.specs.declared.gate.Wire.{Wire}
use Rattle.bool_circuit.specs.declared.gate.Gate.{Gate}
use Rattle.bool_circuit.specs.Circuit.{wire_value, wire_values, IsWireOf, AreWiresOf, Extends}
use Rattle.bool_circuit.proofs.Extending.{extends_trans, extends_within, wires_stay, wire_values_stay}
use Rattle.integer_bits.specs.declared.totals.Part.{Part}
use Rattle.integer_bits.specs.Numbers.{integer_at}
use Rattle.integer_bits.specs.Totals.{IsPartOf, ArePartsOf}
use Rattle.clf_tree.specs.Meaning.{all_in, same_set}
use Rattle.shape_encoder.proofs.Steps.{all_item, take_item}
use Rattle.number_encoder.specs.Values.{present_values, widest}
use Rattle.number_encoder.specs.Costs.{pair_cost, row_cost, values_cost}
use Rattle.number_encoder.specs.Comparing.{is_among, are_among, seen_more, integers_of, all_marked, are_here, IsFoundSoFar, IsRowSoFar, IsSeenSoFar, AreFoundSoFar, AreRowsSoFar}
use Rattle.number_encoder.proofs.Standing.{integer_stays, parts_stay, present_stays}
use Rattle.number_encoder.proofs.Compared.{present-append, among-push, row_fits, marked-push}

-- ---- all of some parts

all-push : (gates : List Gate) (ps : List Part) (p : Part) (bits : List Bool) (ys : List ℤ) → all_in int_eq (present_values gates (ps ++ p ∷ []) bits) ys ≡ (all_in int_eq (present_values gates ps bits) ys && (not (wire_value gates p.here bits) || list_any (int_eq (integer_at gates p.bits bits)) ys))
all-push gates ps p bits ys =
    ap (λ zs. all_in int_eq zs ys) (present-append gates ps (p ∷ []) bits) ∙ list_all-append (λ z. list_any (int_eq z) ys) (present_values gates ps bits) (present_values gates (p ∷ []) bits)
    ∙ ap (λ b. all_in int_eq (present_values gates ps bits) ys && b) (by (wire_value gates p.here bits))
  where
    and_true : (t : Bool) → (t && true) ≡ t
    and_true true = refl
    and_true false = refl

    by : (b : Bool) → list_all (λ z. list_any (int_eq z) ys) (cond b (integer_at gates p.bits bits ∷ []) []) ≡ (not b || list_any (int_eq (integer_at gates p.bits bits)) ys)
    by true = and_true (list_any (int_eq (integer_at gates p.bits bits)) ys)
    by false = refl

pub none_needed : (old : List Gate) (parts others : List Part) (w : ℕ) (first : Wire) → IsWireOf old first → ((bits : List Bool) → wire_value old first bits ≡ true) → AreFoundSoFar old parts others w 0 old first
none_needed old parts others w first h v = record {
  extends = record { at_least = omega arith; at_most = omega arith; same_inputs = refl; keeps = λ u g bits. refl };
  wire = h;
  value = v;
}

-- one part more that has to be found
pub needed_more : (old mid first new : List Gate) (parts others : List Part) (i : ℕ) (part : Part) (all found more : Wire) → ArePartsOf old parts → ArePartsOf old others → slice_get parts i ≡ Some part
    → AreFoundSoFar old parts others (max (widest parts) (widest others)) i mid all
    → IsFoundSoFar mid part others (max (length part.bits) (widest others)) (length others) first found
    → Extends first new 3 → IsWireOf new more
    → ((bits : List Bool) → wire_value new more bits ≡ (wire_value first all bits && (not (wire_value first part.here bits) || wire_value first found bits)))
    → AreFoundSoFar old parts others (max (widest parts) (widest others)) (i + 1) new more
needed_more old mid first new parts others i part all found more ps qs get a f x h v =
    let r = row_fits parts others i part get in
    let k = length others * pair_cost (max (length part.bits) (widest others)) in
    let c = row_cost (length others) (max (widest parts) (widest others)) in
    let g : (i + 1) * c ≡ i * c + c = one_more i c in
    record {
      extends = extends_within old new ((i * c + k) + 3) ((i + 1) * c) (omega (arith, r, g)) (extends_trans old first new (i * c + k) 3 (extends_trans old mid first (i * c) k a.extends f.extends) x);
      wire = h;
      value = λ bits.
          v bits
          ∙ ap (λ b. b && (not (wire_value first part.here bits) || wire_value first found bits)) (f.extends.keeps all a.wire bits ∙ a.value bits)
          ∙ ap (λ b. all_in int_eq (present_values old (take i parts) bits) (present_values old others bits) && (not b || wire_value first found bits)) ((extends_trans old mid first (i * c) k a.extends f.extends).keeps part.here mine.here bits)
          ∙ ap (λ b. all_in int_eq (present_values old (take i parts) bits) (present_values old others bits) && (not (wire_value old part.here bits) || b)) (found_old bits)
          ∙ sym (all-push old (take i parts) part bits (present_values old others bits))
          ∙ ap (λ qs. all_in int_eq (present_values old qs bits) (present_values old others bits)) (sym (take_item parts i part get));
    }
  where
    one_more : (i c : ℕ) → (i + 1) * c ≡ i * c + c
    one_more i c = omega arith

    mine : IsPartOf old part
    mine = all_item (IsPartOf old) parts i part ps get

    found_old : (bits : List Bool) → wire_value first found bits ≡ list_any (int_eq (integer_at old part.bits bits)) (present_values old others bits)
    found_old bits =
        let c = row_cost (length others) (max (widest parts) (widest others)) in
        f.value bits
        ∙ ap (λ us. list_any (int_eq (integer_at mid part.bits bits)) (present_values mid us bits)) (take_all (length others) others (omega arith))
        ∙ ap (λ zs. list_any (int_eq (integer_at mid part.bits bits)) zs) (present_stays old mid (i * c) others bits a.extends qs)
        ∙ ap (λ z. list_any (int_eq z) (present_values old others bits)) (integer_stays old mid (i * c) part bits a.extends mine)

-- ---- and what is seen of the others

same_items : (gates : List Gate) (qs : List Part) (none : Wire) (bits : List Bool) → wire_value gates none bits ≡ false → wire_values gates (replicate (length qs) none) bits ≡ are_among gates [] qs bits
same_items gates [] none bits e = refl
same_items gates (q ∷ qs) none bits e = ap (λ b. b ∷ wire_values gates (replicate (length qs) none) bits) e ∙ ap (λ bs. false ∷ bs) (same_items gates qs none bits e)

pub nothing_seen : (old : List Gate) (parts others : List Part) (w : ℕ) (none first : Wire) → IsWireOf old none → IsWireOf old first → ((bits : List Bool) → wire_value old none bits ≡ false) → ((bits : List Bool) → wire_value old first bits ≡ true)
    → AreRowsSoFar old parts others w 0 old first (replicate (length others) none)
nothing_seen old parts others w none first n h v u = record {
  found = none_needed old parts others w first h u;
  size = length-replicate (length others) none;
  wires = All-replicate (IsWireOf old) (length others) none n;
  values = λ bits. same_items old others none bits (v bits);
}

int_eq-sym : (x y : ℤ) → int_eq x y ≡ int_eq y x
int_eq-sym x y = int_eq_equiv.symm x y

seen_grows : (gates : List Gate) (ps : List Part) (p : Part) (qs : List Part) (bits : List Bool) → seen_more (wire_value gates p.here bits) (integer_at gates p.bits bits) (are_among gates ps qs bits) (integers_of gates qs bits) ≡ are_among gates (ps ++ p ∷ []) qs bits
seen_grows gates ps p [] bits = refl
seen_grows gates ps p (q ∷ qs) bits =
    ap (λ b. (is_among gates ps bits (integer_at gates q.bits bits) || (wire_value gates p.here bits && b)) ∷ seen_more (wire_value gates p.here bits) (integer_at gates p.bits bits) (are_among gates ps qs bits) (integers_of gates qs bits)) (int_eq-sym (integer_at gates p.bits bits) (integer_at gates q.bits bits))
    ∙ ap (λ b. b ∷ seen_more (wire_value gates p.here bits) (integer_at gates p.bits bits) (are_among gates ps qs bits) (integers_of gates qs bits)) (sym (among-push gates ps p bits (integer_at gates q.bits bits)))
    ∙ ap (λ bs. is_among gates (ps ++ p ∷ []) bits (integer_at gates q.bits bits) ∷ bs) (seen_grows gates ps p qs bits)

integers_stay : (old new : List Gate) (n : ℕ) (ps : List Part) (bits : List Bool) → Extends old new n → ArePartsOf old ps → integers_of new ps bits ≡ integers_of old ps bits
integers_stay old new n [] bits x h = refl
integers_stay old new n (p ∷ ps) bits x h =
    ap (λ z. z ∷ integers_of new ps bits) (integer_stays old new n p bits x (All-head (IsPartOf old) p ps h)) ∙ ap (λ zs. integer_at old p.bits bits ∷ zs) (integers_stay old new n ps bits x (All-tail (IsPartOf old) p ps h))

pub rows_more : (old mid first new : List Gate) (parts others : List Part) (i : ℕ) (part : Part) (all found more : Wire) (seen next : List Wire) → ArePartsOf old parts → ArePartsOf old others → slice_get parts i ≡ Some part
    → AreRowsSoFar old parts others (max (widest parts) (widest others)) i mid all seen
    → IsRowSoFar mid part others seen (max (length part.bits) (widest others)) (length others) first found next
    → Extends first new 3 → IsWireOf new more
    → ((bits : List Bool) → wire_value new more bits ≡ (wire_value first all bits && (not (wire_value first part.here bits) || wire_value first found bits)))
    → AreRowsSoFar old parts others (max (widest parts) (widest others)) (i + 1) new more next
rows_more old mid first new parts others i part all found more seen next ps qs get a r x h v =
    let c = row_cost (length others) (max (widest parts) (widest others)) in
    record {
      found = needed_more old mid first new parts others i part all found more ps qs get a.found r.among x h v;
      size = r.size;
      wires = wires_stay first new 3 next x r.wires;
      values = λ bits.
          wire_values_stay first new 3 next bits x r.wires
          ∙ r.values bits
          ∙ ap (λ us. seen_more (wire_value mid part.here bits) (integer_at mid part.bits bits) (wire_values mid us bits) (integers_of mid (take (length others) others) bits)) (take_all (length others) seen (omega (arith, a.size)))
          ∙ ap (λ bs. seen_more (wire_value mid part.here bits) (integer_at mid part.bits bits) bs (integers_of mid (take (length others) others) bits)) (a.values bits)
          ∙ ap (λ us. seen_more (wire_value mid part.here bits) (integer_at mid part.bits bits) (are_among old (take i parts) others bits) (integers_of mid us bits)) (take_all (length others) others (omega arith))
          ∙ ap (λ zs. seen_more (wire_value mid part.here bits) (integer_at mid part.bits bits) (are_among old (take i parts) others bits) zs) (integers_stay old mid (i * c) others bits a.found.extends qs)
          ∙ ap (λ b. seen_more b (integer_at mid part.bits bits) (are_among old (take i parts) others bits) (integers_of old others bits)) (a.found.extends.keeps part.here mine.here bits)
          ∙ ap (λ z. seen_more (wire_value old part.here bits) z (are_among old (take i parts) others bits) (integers_of old others bits)) (integer_stays old mid (i * c) part bits a.found.extends mine)
          ∙ seen_grows old (take i parts) part others bits
          ∙ ap (λ us. are_among old us others bits) (sym (take_item parts i part get));
    }
  where
    mine : IsPartOf old part
    mine = all_item (IsPartOf old) parts i part ps get

-- ---- all that are there have been seen

pub none_asked : (old : List Gate) (parts : List Part) (seen : List Wire) (first : Wire) → IsWireOf old first → IsSeenSoFar old parts seen first 0 old first
none_asked old parts seen first h = record {
  extends = record { at_least = omega arith; at_most = omega arith; same_inputs = refl; keeps = λ u g bits. refl };
  wire = h;
  value = λ bits. and_true (wire_value old first bits);
}
  where
    and_true : (b : Bool) → b ≡ (b && true)
    and_true true = refl
    and_true false = refl

pub asked_more : (old mid new : List Gate) (parts : List Part) (seen : List Wire) (i : ℕ) (part : Part) (first mark all more : Wire) → ArePartsOf old parts → AreWiresOf old seen → length seen ≡ length parts → slice_get parts i ≡ Some part → slice_get seen i ≡ Some mark
    → IsSeenSoFar old parts seen first i mid all → Extends mid new 3 → IsWireOf new more
    → ((bits : List Bool) → wire_value new more bits ≡ (wire_value mid all bits && (not (wire_value mid part.here bits) || wire_value mid mark bits)))
    → IsSeenSoFar old parts seen first (i + 1) new more
asked_more old mid new parts seen i part first mark all more ps ss len get got s x h v = record {
  extends = extends_within old new (3 * i + 3) (3 * (i + 1)) (omega arith) (extends_trans old mid new (3 * i) 3 s.extends x);
  wire = h;
  value = λ bits.
      v bits
      ∙ ap (λ b. b && (not (wire_value mid part.here bits) || wire_value mid mark bits)) (s.value bits)
      ∙ ap (λ b. (wire_value old first bits && all_marked (are_here old (take i parts) bits) (wire_values old (take i seen) bits)) && (not b || wire_value mid mark bits)) (s.extends.keeps part.here (all_item (IsPartOf old) parts i part ps get).here bits)
      ∙ ap (λ b. (wire_value old first bits && all_marked (are_here old (take i parts) bits) (wire_values old (take i seen) bits)) && (not (wire_value old part.here bits) || b)) (s.extends.keeps mark (all_item (IsWireOf old) seen i mark ss got) bits)
      ∙ regroup (wire_value old first bits) (all_marked (are_here old (take i parts) bits) (wire_values old (take i seen) bits)) (not (wire_value old part.here bits) || wire_value old mark bits)
      ∙ ap (λ b. wire_value old first bits && b) (sym (marked-push (are_here old (take i parts) bits) (wire_value old part.here bits) (wire_values old (take i seen) bits) (wire_value old mark bits) (lengths bits)))
      ∙ ap (λ hs. wire_value old first bits && all_marked hs (wire_values old (take i seen) bits ++ wire_value old mark bits ∷ [])) (sym (ap (λ qs. are_here old qs bits) (take_item parts i part get) ∙ map-append (λ (q : Part). wire_value old q.here bits) (take i parts) (part ∷ [])))
      ∙ ap (λ bs. wire_value old first bits && all_marked (are_here old (take (i + 1) parts) bits) bs) (sym (ap (λ us. wire_values old us bits) (take_item seen i mark got) ∙ map-append (λ u. wire_value old u bits) (take i seen) (mark ∷ [])));
}
  where
    regroup : (a b c : Bool) → ((a && b) && c) ≡ (a && (b && c))
    regroup true b c = refl
    regroup false b c = refl

    lengths : (bits : List Bool) → length (are_here old (take i parts) bits) ≡ length (wire_values old (take i seen) bits)
    lengths bits =
        let a = length-map (take i parts) (λ (q : Part). wire_value old q.here bits) in
        let b = length-map (take i seen) (λ u. wire_value old u bits) in
        a ∙ length-take i parts ∙ ap (λ n. min i n) (sym len) ∙ sym (length-take i seen) ∙ sym b

-- ---- the whole

marks_tell : (gates : List Gate) (ps qs : List Part) (bits : List Bool) → all_marked (are_here gates qs bits) (are_among gates ps qs bits) ≡ all_in int_eq (present_values gates qs bits) (present_values gates ps bits)
marks_tell gates ps [] bits = refl
marks_tell gates ps (q ∷ qs) bits = by (wire_value gates q.here bits) (marks_tell gates ps qs bits)
  where
    by : (b : Bool) → all_marked (are_here gates qs bits) (are_among gates ps qs bits) ≡ all_in int_eq (present_values gates qs bits) (present_values gates ps bits)
        → ((not b || is_among gates ps bits (integer_at gates q.bits bits)) && all_marked (are_here gates qs bits) (are_among gates ps qs bits)) ≡ all_in int_eq (cond b (integer_at gates q.bits bits ∷ present_values gates qs bits) (present_values gates qs bits)) (present_values gates ps bits)
    by true rest = ap (λ b. is_among gates ps bits (integer_at gates q.bits bits) && b) rest
    by false rest = rest

here_stays : (old new : List Gate) (n : ℕ) (ps : List Part) (bits : List Bool) → Extends old new n → ArePartsOf old ps → are_here new ps bits ≡ are_here old ps bits
here_stays old new n [] bits x h = refl
here_stays old new n (p ∷ ps) bits x h =
    ap (λ b. b ∷ are_here new ps bits) (x.keeps p.here (All-head (IsPartOf old) p ps h).here bits) ∙ ap (λ bs. wire_value old p.here bits ∷ bs) (here_stays old new n ps bits x (All-tail (IsPartOf old) p ps h))

among_stays : (old new : List Gate) (n : ℕ) (ps qs : List Part) (bits : List Bool) → Extends old new n → ArePartsOf old ps → ArePartsOf old qs → are_among new ps qs bits ≡ are_among old ps qs bits
among_stays old new n ps [] bits x g h = refl
among_stays old new n ps (q ∷ qs) bits x g h =
    ap (λ zs. list_any (int_eq (integer_at new q.bits bits)) zs ∷ are_among new ps qs bits) (present_stays old new n ps bits x g)
    ∙ ap (λ z. list_any (int_eq z) (present_values old ps bits) ∷ are_among new ps qs bits) (integer_stays old new n q bits x (All-head (IsPartOf old) q qs h))
    ∙ ap (λ bs. is_among old ps bits (integer_at old q.bits bits) ∷ bs) (among_stays old new n ps qs bits x g (All-tail (IsPartOf old) q qs h))

-- both ways, from the constants that the rows begin with to the last of the marks
pub same_told : (old base mid new : List Gate) (a b : List Part) (n w : ℕ) (all wire : Wire) (seen : List Wire) → ArePartsOf old a → ArePartsOf old b → Extends old base n → AreRowsSoFar base a b w (length a) mid all seen → IsSeenSoFar mid b seen all (length b) new wire
    → (bits : List Bool) → wire_value new wire bits ≡ same_set int_eq (present_values old a bits) (present_values old b bits)
same_told old base mid new a b n w all wire seen ha hb x r s bits =
    let later = parts_stay old base n b x hb in
    let c = length a * row_cost (length b) w in
    s.value bits
    ∙ ap (λ us. wire_value mid all bits && all_marked (are_here mid us bits) (wire_values mid (take (length b) seen) bits)) (take_all (length b) b (omega arith))
    ∙ ap (λ us. wire_value mid all bits && all_marked (are_here mid b bits) (wire_values mid us bits)) (take_all (length b) seen (omega (arith, r.size)))
    ∙ ap (λ t. wire_value mid all bits && all_marked (are_here mid b bits) t) (r.values bits)
    ∙ ap (λ us. wire_value mid all bits && all_marked (are_here mid b bits) (are_among base us b bits)) (take_all (length a) a (omega arith))
    ∙ ap (λ t. wire_value mid all bits && all_marked t (are_among base a b bits)) (here_stays base mid c b bits r.found.extends later)
    ∙ ap (λ t. wire_value mid all bits && t) (marks_tell base a b bits)
    ∙ ap (λ t. t && all_in int_eq (present_values base b bits) (present_values base a bits)) (r.found.value bits)
    ∙ ap (λ us. all_in int_eq (present_values base us bits) (present_values base b bits) && all_in int_eq (present_values base b bits) (present_values base a bits)) (take_all (length a) a (omega arith))
    ∙ ap (λ zs. all_in int_eq zs (present_values base b bits) && all_in int_eq (present_values base b bits) zs) (present_stays old base n a bits x ha)
    ∙ ap (λ zs. all_in int_eq (present_values old a bits) zs && all_in int_eq zs (present_values old a bits)) (present_stays old base n b bits x hb)

-- one way
pub within_told : (old base new : List Gate) (a b : List Part) (n w : ℕ) (wire : Wire) → ArePartsOf old a → ArePartsOf old b → Extends old base n → AreFoundSoFar base a b w (length a) new wire
    → (bits : List Bool) → wire_value new wire bits ≡ all_in int_eq (present_values old a bits) (present_values old b bits)
within_told old base new a b n w wire ha hb x f bits =
    f.value bits
    ∙ ap (λ us. all_in int_eq (present_values base us bits) (present_values base b bits)) (take_all (length a) a (omega arith))
    ∙ ap (λ zs. all_in int_eq zs (present_values base b bits)) (present_stays old base n a bits x ha)
    ∙ ap (λ zs. all_in int_eq (present_values old a bits) zs) (present_stays old base n b bits x hb)

-- ---- the costs

pub cost_is : (n m w : ℕ) → values_cost n m w ≡ n * row_cost m w + 3 * m + 3
unfolding values_cost
cost_is n m w = refl
