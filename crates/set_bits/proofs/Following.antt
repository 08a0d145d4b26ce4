-- Tables of wires by slot, and the image of a set.
use Rattle.std.proofs.Common.{◌≡◌, ℕ, suc, zero, ◌+◌, ◌*◌, ◌<◌, ◌≤◌, Bool, true, false, ◌&&◌, ◌||◌, if◌then◌else◌, List, [], ◌∷◌, ◌++◌, length, take, drop, slice_get, Option, Some, None, refl, sym, ap, ◌∙◌, subst, ◌⊎◌, inl, inr, arith}
use Rattle.std.specs.Prelude.{nat_eq, nat_lt, IfSome, is_some}
use Rattle.std.specs.List.{All}
use Rattle.std.proofs.lemmas.Bool.{eqb-true, cases_lt, cases_order}
use Rattle.std.proofs.lemmas.Bool.Decides.{nat_tests, eqb_tells}
use Rattle.std.proofs.lemmas.Option.{get_or_from_slice_get}
use Rattle.std.proofs.lemmas.List.{take_more, take_all, take-append-drop}
use Rattle.std.proofs.lemmas.Grind.{get_or-set_at}
use Rattle.std.proofs.Math.ListN.{set}
use Rattle.std.proofs.lemmas.List.{get_or-set_other}
use Rattle.std.proofs.lemmas.List.Elements.{All-append, All-nil}
use Rattle.bool_circuit.specs.declared.gate.Wire.{Wire}
use Rattle.bool_circuit.specs.declared.gate.Gate.{Gate}
use Rattle.bool_circuit.specs.Circuit.{wire_value, IsWireOf, Extends}
use Rattle.bool_circuit.proofs.Values.{extends_none}
use Rattle.bool_circuit.proofs.Extending.{extends_trans}
use Rattle.set_bits.specs.declared.sets.Member.{Member}
use Rattle.set_bits.specs.declared.layout.Edge.{Edge}
use Rattle.set_bits.specs.Sets.{is_in, is_here, is_reached, has_slot, leads_to, leading, AscendFrom, IsSetOf}
use Rattle.set_bits.specs.Merging.{members_at}
use Rattle.set_bits.specs.Reaching.{wire_at, IsTableOf, IsTabled, IsCollected, present, IsFollowed}
use Rattle.set_bits.proofs.Combining.{or_false, and_false, or_assoc, has_slot-append, has_slot-members, is_in-append, is_in-members, here_stays, ascend_pushed, ascend_from, member_wires}

-- ---- the table of a set

-- no earlier member has the slot of a later one
none_before : (gates : List Gate) (xs : List Member) (n i : ℕ) (m : Member) (bits : List Bool) → AscendFrom n xs → slice_get xs i ≡ Some m → (n ≤ m.slot) × (is_in gates (take i xs) m.slot bits ≡ false)
none_before gates [] n i m bits h e = absurd cc
none_before gates (x ∷ xs) n zero m bits h e = (let d : x ≡ m = the_same e in subst (λ y. n ≤ y.slot) d h.0, refl)
  where
    the_same : {x y : Member} → Some x ≡ Some y → x ≡ y
    the_same e = cc
none_before gates (x ∷ xs) n (suc i) m bits h e =
    let r = none_before gates xs (x.slot + 1) i m bits h.1 e in
    let l = h.0 in
    let k = r.0 in
    (omega arith, ap (λ b. (b && wire_value gates x.here bits) || is_in gates (take i xs) m.slot bits) (differ x.slot m.slot (omega arith)) ∙ r.1)
  where
    differ : (a b : ℕ) → a < b → nat_eq a b ≡ false
    differ a b h = grind (arith, nat_tests)

or_true : (b : Bool) → (b || true) ≡ true
or_true true = refl
or_true false = refl

at_place : (set : List Member) (i : ℕ) (m : Member) → slice_get set i ≡ Some m → i < length set → take (i + 1) set ≡ take i set ++ m ∷ []
at_place set i m e l = take_more set i m l ∙ ap (λ y. take i set ++ y ∷ []) (get_or_from_slice_get set i m m e)

pub none_tabled : (set : List Member) → IsTabled set 0 []
none_tabled set = record { wires = λ gates h. record { wires = λ slot. tt }; value = λ gates bits slot. refl; slots = λ slot. refl }

pub tabled_more : (set : List Member) (i : ℕ) (m : Member) (table new : List (Option Wire)) → AscendFrom 0 set → IsTabled set i table → slice_get set i ≡ Some m → i < length set
    → ((k : ℕ) → wire_at new k ≡ (if nat_eq m.slot k then Some m.here else wire_at table k)) → IsTabled set (i + 1) new
tabled_more set i m table new asc t e l h = record {
  wires = λ gates w. record { wires = λ k. subst (λ o. IfSome o (IsWireOf gates)) (sym (h k)) (by_wire gates k w (nat_eq m.slot k)) };
  value = λ gates bits k. ap (λ o. is_here gates o bits) (h k) ∙ by_value gates bits k (nat_eq m.slot k) refl ∙ sym (ap (λ t. is_in gates t k bits) (at_place set i m e l) ∙ is_in-append gates (take i set) (m ∷ []) k bits);
  slots = λ k. ap is_some (h k) ∙ by_slot k (nat_eq m.slot k) ∙ sym (ap (λ t. has_slot t k) (at_place set i m e l) ∙ has_slot-append (take i set) (m ∷ []) k);
}
  where
    by_wire : (gates : List Gate) (k : ℕ) → All (λ m. IsWireOf gates m.here) set → (b : Bool) → IfSome (if b then Some m.here else wire_at table k) (IsWireOf gates)
    by_wire gates k w true = subst (λ y. IsWireOf gates y.here) (get_or_from_slice_get set i m m e) (w i m l)
    by_wire gates k w false = (t.wires gates w).wires k

    by_value : (gates : List Gate) (bits : List Bool) (k : ℕ) → (b : Bool) → nat_eq m.slot k ≡ b → is_here gates (if b then Some m.here else wire_at table k) bits ≡ (is_in gates (take i set) k bits || ((nat_eq m.slot k && wire_value gates m.here bits) || false))
    by_value gates bits k true f =
        let none : is_in gates (take i set) k bits ≡ false = subst (λ n. is_in gates (take i set) n bits ≡ false) (eqb-true m.slot k f) (none_before gates set 0 i m bits asc e).1 in
        sym (ap (λ b. b || ((nat_eq m.slot k && wire_value gates m.here bits) || false)) none ∙ or_false (nat_eq m.slot k && wire_value gates m.here bits) ∙ ap (λ b. b && wire_value gates m.here bits) f)
    by_value gates bits k false f = t.value gates bits k ∙ sym (ap (λ b. is_in gates (take i set) k bits || ((b && wire_value gates m.here bits) || false)) f ∙ or_false (is_in gates (take i set) k bits))

    by_slot : (k : ℕ) → (b : Bool) → is_some (if b then Some m.here else wire_at table k) ≡ (has_slot (take i set) k || (b || false))
    by_slot k true = sym (or_true (has_slot (take i set) k))
    by_slot k false = t.slots k ∙ sym (or_false (has_slot (take i set) k))

-- ---- writing to a table

pub pushed_none : (table : List (Option Wire)) (k : ℕ) → wire_at (table ++ None ∷ []) k ≡ wire_at table k
pushed_none [] zero = refl
pushed_none [] (suc k) = refl
pushed_none (x ∷ xs) zero = refl
pushed_none (x ∷ xs) (suc k) = pushed_none xs k

pub written : (old table : List (Option Wire)) (i k : ℕ) (o : Option Wire) → i < length table → ((k : ℕ) → wire_at table k ≡ wire_at old k) → wire_at (set table i o) k ≡ (if nat_eq i k then o else wire_at old k)
written old table i k o l h = elim (eqb_tells i k) [
  | inl e ↦ (let d = e.1 in get_or-set_at table i k o None (sym d) l ∙ ap (λ b. if b then o else wire_at old k) (sym e.0))
  | inr e ↦ (get_or-set_other table i k o None (λ d. e.1 (sym d)) ∙ h k ∙ ap (λ b. if b then o else wire_at old k) (sym e.0))
]

-- ---- one edge

pub nothing_reached : (old : List Gate) (table : List (Option Wire)) (edge : Edge) (bits : List Bool) (k : ℕ) → is_here old (wire_at table k) bits ≡ (is_here old (wire_at table k) bits || (nat_eq edge.to k && (false && wire_value old edge.here bits)))
nothing_reached old table edge bits k = sym (ap (λ b. is_here old (wire_at table k) bits || b) (and_false (nat_eq edge.to k)) ∙ or_false (is_here old (wire_at table k) bits))

pub nothing_some : (table : List (Option Wire)) (edge : Edge) (k : ℕ) → is_some (wire_at table k) ≡ (is_some (wire_at table k) || (nat_eq edge.to k && false))
nothing_some table edge k = sym (ap (λ b. is_some (wire_at table k) || b) (and_false (nat_eq edge.to k)) ∙ or_false (is_some (wire_at table k)))

pub reached_some : (table more : List (Option Wire)) (to : ℕ) (wire : Wire) → ((k : ℕ) → wire_at more k ≡ (if nat_eq to k then Some wire else wire_at table k)) → (k : ℕ) → is_some (wire_at more k) ≡ (is_some (wire_at table k) || (nat_eq to k && true))
reached_some table more to wire h k = ap is_some (h k) ∙ by (nat_eq to k)
  where
    by : (b : Bool) → is_some (if b then Some wire else wire_at table k) ≡ (is_some (wire_at table k) || (b && true))
    by true = sym (or_true (is_some (wire_at table k)))
    by false = sym (or_false (is_some (wire_at table k)))

pub reached_wires : (n : ℕ) (old new : List Gate) (table more : List (Option Wire)) (to : ℕ) (wire : Wire) → Extends old new n → IsTableOf old table → IsWireOf new wire → ((k : ℕ) → wire_at more k ≡ (if nat_eq to k then Some wire else wire_at table k)) → IsTableOf new more
reached_wires n old new table more to wire e t w h = record { wires = λ k. subst (λ o. IfSome o (IsWireOf new)) (sym (h k)) (by k (nat_eq to k)) }
  where
    stays : (o : Option Wire) → IfSome o (IsWireOf old) → IfSome o (IsWireOf new)
    stays None i = tt
    stays (Some v) i = omega (arith, i, e.at_least)

    by : (k : ℕ) (b : Bool) → IfSome (if b then Some wire else wire_at table k) (IsWireOf new)
    by k true = w
    by k false = stays (wire_at table k) (t.wires k)

pub reached_value : (m n : ℕ) (old mid new : List Gate) (table more : List (Option Wire)) (start through wire : Wire) (edge : Edge) → Extends old mid m → Extends mid new n → IsTableOf old table
    → ((bits : List Bool) → wire_value mid through bits ≡ (wire_value old start bits && wire_value old edge.here bits))
    → ((bits : List Bool) → wire_value new wire bits ≡ (is_here mid (wire_at table edge.to) bits || wire_value mid through bits))
    → ((k : ℕ) → wire_at more k ≡ (if nat_eq edge.to k then Some wire else wire_at table k))
    → (bits : List Bool) (k : ℕ) → is_here new (wire_at more k) bits ≡ (is_here old (wire_at table k) bits || (nat_eq edge.to k && (wire_value old start bits && wire_value old edge.here bits)))
reached_value m n old mid new table more start through wire edge e f t vt vw h bits k = ap (λ o. is_here new o bits) (h k) ∙ by (nat_eq edge.to k) refl
  where
    by : (b : Bool) → nat_eq edge.to k ≡ b → is_here new (if b then Some wire else wire_at table k) bits ≡ (is_here old (wire_at table k) bits || (nat_eq edge.to k && (wire_value old start bits && wire_value old edge.here bits)))
    by true d =
        vw bits ∙ ap (λ x. x || wire_value mid through bits) (here_stays m old mid (wire_at table edge.to) bits e (t.wires edge.to)) ∙ ap (λ x. is_here old (wire_at table edge.to) bits || x) (vt bits)
        ∙ ap (λ j. is_here old (wire_at table j) bits || (wire_value old start bits && wire_value old edge.here bits)) (eqb-true edge.to k d)
        ∙ ap (λ b. is_here old (wire_at table k) bits || (b && (wire_value old start bits && wire_value old edge.here bits))) (sym d)
    by false d =
        here_stays n mid new (wire_at table k) bits f (stays (wire_at table k) (t.wires k)) ∙ here_stays m old mid (wire_at table k) bits e (t.wires k)
        ∙ sym (or_false (is_here old (wire_at table k) bits)) ∙ ap (λ b. is_here old (wire_at table k) bits || (b && (wire_value old start bits && wire_value old edge.here bits))) (sym d)
      where
        stays : (o : Option Wire) → IfSome o (IsWireOf old) → IfSome o (IsWireOf mid)
        stays None i = tt
        stays (Some v) i = omega (arith, i, e.at_least)

-- ---- all edges

is_reached-append : (gates : List Gate) (set : List Member) (xs ys : List Edge) (k : ℕ) (bits : List Bool) → is_reached gates set (xs ++ ys) k bits ≡ (is_reached gates set xs k bits || is_reached gates set ys k bits)
is_reached-append gates set [] ys k bits = refl
is_reached-append gates set (e ∷ es) ys k bits = ap (λ b. (nat_eq e.to k && (is_in gates set e.from bits && wire_value gates e.here bits)) || b) (is_reached-append gates set es ys k bits) ∙ sym (or_assoc _ (is_reached gates set es k bits) (is_reached gates set ys k bits))

leads_to-append : (set : List Member) (xs ys : List Edge) (k : ℕ) → leads_to set (xs ++ ys) k ≡ (leads_to set xs k || leads_to set ys k)
leads_to-append set [] ys k = refl
leads_to-append set (e ∷ es) ys k = ap (λ b. (nat_eq e.to k && has_slot set e.from) || b) (leads_to-append set es ys k) ∙ sym (or_assoc (nat_eq e.to k && has_slot set e.from) (leads_to set es k) (leads_to set ys k))

leading-append : (set : List Member) (xs ys : List Edge) → leading set (xs ++ ys) ≡ leading set xs + leading set ys
leading-append set [] ys = omega arith
leading-append set (e ∷ es) ys = omega (arith, leading-append set es ys)

pub none_followed : (old : List Gate) (from : List Member) → IsFollowed old from [] old []
none_followed old from = record { extends = extends_none old (2 * 0); wires = record { wires = λ slot. tt }; value = λ bits slot. refl; slots = λ slot. refl }

edges_at : (edges : List Edge) (i : ℕ) (e : Edge) → slice_get edges i ≡ Some e → i < length edges → take (i + 1) edges ≡ take i edges ++ e ∷ []
edges_at edges i e f l = take_more edges i e l ∙ ap (λ y. take i edges ++ y ∷ []) (get_or_from_slice_get edges i e e f)

present_slot : (o : Option Wire) (b : Bool) → is_some o ≡ b → present o ≡ (if b then 1 else 0)
present_slot None true e = absurd cc
present_slot None false e = refl
present_slot (Some w) true e = refl
present_slot (Some w) false e = absurd cc

pub leading_more : (from : List Member) (edges : List Edge) (i : ℕ) (e : Edge) (o : Option Wire) → slice_get edges i ≡ Some e → i < length edges → is_some o ≡ has_slot from e.from → leading from (take i edges) + present o ≡ leading from (take (i + 1) edges)
leading_more from edges i e o f l h =
    let p = present_slot o (has_slot from e.from) h in
    let t : leading from (take (i + 1) edges) ≡ leading from (take i edges) + leading from (e ∷ []) = ap (leading from) (edges_at edges i e f l) ∙ leading-append from (take i edges) (e ∷ []) in
    omega (arith, t, p)

pub followed_more : (old mid new : List Gate) (from : List Member) (edges : List Edge) (i : ℕ) (e : Edge) (starts reached more : List (Option Wire)) (o : Option Wire) → IsFollowed old from (take i edges) mid reached → All (λ m. IsWireOf old m.here) from → IsTabled from (length from) starts → o ≡ wire_at starts e.from
    → IsWireOf old e.here → slice_get edges i ≡ Some e → i < length edges → Extends mid new (2 * present o) → IsTableOf new more
    → ((bits : List Bool) (k : ℕ) → is_here new (wire_at more k) bits ≡ (is_here mid (wire_at reached k) bits || (nat_eq e.to k && (is_here mid o bits && wire_value mid e.here bits)))) → ((k : ℕ) → is_some (wire_at more k) ≡ (is_some (wire_at reached k) || (nat_eq e.to k && is_some o))) → IsFollowed old from (take (i + 1) edges) new more
followed_more old mid new from edges i e starts reached more o g wf t eo we f l ext w v hs = record {
  extends = (let z : 2 * leading from (take (i + 1) edges) ≡ 2 * leading from (take i edges) + 2 * present o = omega (arith, leading_more from edges i e o f l (ap is_some eo ∙ t.slots e.from ∙ ap (λ s. has_slot s e.from) (take_all (length from) from (omega arith)))) in
      rw z (extends_trans old mid new (2 * leading from (take i edges)) (2 * present o) g.extends ext));
  wires = w;
  value = λ bits k.
      let start : is_here mid o bits ≡ is_in old from e.from bits =
      ap (λ o. is_here mid o bits) eo ∙ here_stays (2 * leading from (take i edges)) old mid (wire_at starts e.from) bits g.extends ((t.wires old wf).wires e.from) ∙ t.value old bits e.from ∙ ap (λ s. is_in old s e.from bits) (take_all (length from) from (omega arith)) in
      let edge : wire_value mid e.here bits ≡ wire_value old e.here bits = g.extends.keeps e.here we bits in
      let more_reached : is_reached old from (take (i + 1) edges) k bits ≡ (is_reached old from (take i edges) k bits || ((nat_eq e.to k && (is_in old from e.from bits && wire_value old e.here bits)) || false)) =
      ap (λ t. is_reached old from t k bits) (edges_at edges i e f l) ∙ is_reached-append old from (take i edges) (e ∷ []) k bits in
      v bits k ∙ ap (λ x. x || (nat_eq e.to k && (is_here mid o bits && wire_value mid e.here bits))) (g.value bits k)
      ∙ ap (λ x. is_reached old from (take i edges) k bits || (nat_eq e.to k && (x && wire_value mid e.here bits))) start
      ∙ ap (λ x. is_reached old from (take i edges) k bits || (nat_eq e.to k && (is_in old from e.from bits && x))) edge
      ∙ ap (λ x. is_reached old from (take i edges) k bits || x) (sym (or_false (nat_eq e.to k && (is_in old from e.from bits && wire_value old e.here bits)))) ∙ sym more_reached;
  slots = λ k.
      let start : is_some o ≡ has_slot from e.from = ap is_some eo ∙ t.slots e.from ∙ ap (λ s. has_slot s e.from) (take_all (length from) from (omega arith)) in
      hs k ∙ ap (λ x. x || (nat_eq e.to k && is_some o)) (g.slots k) ∙ ap (λ x. leads_to from (take i edges) k || (nat_eq e.to k && x)) start
      ∙ ap (λ x. leads_to from (take i edges) k || x) (sym (or_false (nat_eq e.to k && has_slot from e.from))) ∙ sym (ap (λ t. leads_to from t k) (edges_at edges i e f l) ∙ leads_to-append from (take i edges) (e ∷ []) k);
}

-- ---- the set of a table

none_less : (n : ℕ) → nat_lt n 0 ≡ false
none_less n = grind (arith, nat_tests)

pub none_collected : (table : List (Option Wire)) → IsCollected table 0 []
none_collected table = record { ascending = omega arith; wires = λ gates h. All-nil (λ m. IsWireOf gates m.here); value = λ gates bits slot. sym (ap (λ b. if b then is_here gates (wire_at table slot) bits else false) (none_less slot)); slots = λ slot h. absurd cc }

pub collected_more : (table : List (Option Wire)) (n : ℕ) (set more : List Member) (o : Option Wire) → IsCollected table n set → o ≡ wire_at table n → more ≡ set ++ members_at n o → IsCollected table (n + 1) more
collected_more table n set more o c e em = rw (em, e) (record {
  ascending = ascend_pushed 0 n n set (wire_at table n) c.ascending (omega arith);
  wires = λ gates h. All-append (λ m. IsWireOf gates m.here) set (members_at n (wire_at table n)) (c.wires gates h) (member_wires gates n (wire_at table n) (h.wires n));
  value = λ gates bits k. is_in-append gates set (members_at n (wire_at table n)) k bits ∙ ap (λ x. x || is_in gates (members_at n (wire_at table n)) k bits) (c.value gates bits k)
      ∙ ap (λ x. (if nat_lt k n then is_here gates (wire_at table k) bits else false) || x) (is_in-members gates n (wire_at table n) k bits) ∙ by gates bits k (cases_order k n);
  slots = λ k h. held k (has_slot set k) (nat_eq n k) refl refl (sym (has_slot-append set (members_at n (wire_at table n)) k ∙ ap (λ b. has_slot set k || b) (has_slot-members n (wire_at table n) k)) ∙ h);
})
  where
    held : (k : ℕ) (b e : Bool) → has_slot set k ≡ b → nat_eq n k ≡ e → (b || (e && is_some (wire_at table n))) ≡ true → is_some (wire_at table k) ≡ true
    held k true e eb ee h = c.slots k eb
    held k false true eb ee h = ap (λ j. is_some (wire_at table j)) (sym (eqb-true n k ee)) ∙ h
    held k false false eb ee h = absurd cc

    less_here : (a b : ℕ) → a < b → nat_lt a b ≡ true
    less_here a b h = grind (arith, nat_tests)

    not_less : (a b : ℕ) → b ≤ a → nat_lt a b ≡ false
    not_less a b h = grind (arith, nat_tests)

    same_here : (a b : ℕ) → a ≡ b → nat_eq a b ≡ true
    same_here a b h = grind (arith, nat_tests)

    differ : (a b : ℕ) → (a < b) ⊎ (b < a) → nat_eq a b ≡ false
    differ a b (inl h) = grind (arith, nat_tests)
    differ a b (inr h) = grind (arith, nat_tests)

    by : (gates : List Gate) (bits : List Bool) (k : ℕ) → (k ≡ n) ⊎ ((k < n) ⊎ (n < k)) → ((if nat_lt k n then is_here gates (wire_at table k) bits else false) || (nat_eq n k && is_here gates (wire_at table n) bits)) ≡ (if nat_lt k (n + 1) then is_here gates (wire_at table k) bits else false)
    by gates bits k (inl d) =
        ap (λ b. (if b then is_here gates (wire_at table k) bits else false) || (nat_eq n k && is_here gates (wire_at table n) bits)) (not_less k n (omega arith))
        ∙ ap (λ b. b && is_here gates (wire_at table n) bits) (same_here n k (sym d)) ∙ ap (λ j. is_here gates (wire_at table j) bits) (sym d) ∙ sym (ap (λ b. if b then is_here gates (wire_at table k) bits else false) (less_here k (n + 1) (omega arith)))
    by gates bits k (inr (inl d)) =
        ap (λ b. (if b then is_here gates (wire_at table k) bits else false) || (nat_eq n k && is_here gates (wire_at table n) bits)) (less_here k n d)
        ∙ ap (λ b. is_here gates (wire_at table k) bits || (b && is_here gates (wire_at table n) bits)) (differ n k (inr d)) ∙ or_false (is_here gates (wire_at table k) bits) ∙ sym (ap (λ b. if b then is_here gates (wire_at table k) bits else false) (less_here k (n + 1) (omega arith)))
    by gates bits k (inr (inr d)) =
        ap (λ b. (if b then is_here gates (wire_at table k) bits else false) || (nat_eq n k && is_here gates (wire_at table n) bits)) (not_less k n (omega arith))
        ∙ ap (λ b. b && is_here gates (wire_at table n) bits) (differ n k (inl d)) ∙ sym (ap (λ b. if b then is_here gates (wire_at table k) bits else false) (not_less k (n + 1) (omega arith)))

past_table : (table : List (Option Wire)) (k : ℕ) → length table ≤ k → wire_at table k ≡ None
past_table [] k h = refl
past_table (x ∷ xs) zero h = absurd (omega arith)
past_table (x ∷ xs) (suc k) h = past_table xs k (omega arith)

pub image_set : (old new : List Gate) (from : List Member) (edges : List Edge) (reached : List (Option Wire)) (set : List Member) → IsFollowed old from edges new reached → IsCollected reached (length reached) set → IsSetOf new set
image_set old new from edges reached set f c = record { ascending = ascend_from 0 (length reached) set c.ascending; wires = c.wires new f.wires }

pub image_value : (old new : List Gate) (from : List Member) (edges : List Edge) (reached : List (Option Wire)) (set : List Member) → IsFollowed old from edges new reached → IsCollected reached (length reached) set
    → (bits : List Bool) (k : ℕ) → is_in new set k bits ≡ is_reached old from edges k bits
image_value old new from edges reached set f c bits k = c.value new bits k ∙ all_in (cases_lt k (length reached)) ∙ f.value bits k
  where
    less_here : (a b : ℕ) → a < b → nat_lt a b ≡ true
    less_here a b h = grind (arith, nat_tests)

    not_less : (a b : ℕ) → b ≤ a → nat_lt a b ≡ false
    not_less a b h = grind (arith, nat_tests)

    all_in : (k < length reached) ⊎ (length reached ≤ k) → (if nat_lt k (length reached) then is_here new (wire_at reached k) bits else false) ≡ is_here new (wire_at reached k) bits
    all_in (inl l) = ap (λ b. if b then is_here new (wire_at reached k) bits else false) (less_here k (length reached) l)
    all_in (inr l) = ap (λ b. if b then is_here new (wire_at reached k) bits else false) (not_less k (length reached) l) ∙ sym (ap (λ o. is_here new o bits) (past_table reached k l))

-- ---- what one edge more adds

pub leading_within : (from : List Member) (edges : List Edge) (n : ℕ) → leading from (take n edges) ≤ leading from edges
leading_within from edges n = omega (arith, ap (leading from) (take-append-drop n edges), leading-append from (take n edges) (drop n edges))

pub edge_more : (from : List Member) (edges : List Edge) (i : ℕ) (e : Edge) (starts : List (Option Wire)) (o : Option Wire) → o ≡ wire_at starts e.from → IsTabled from (length from) starts → slice_get edges i ≡ Some e → i < length edges
    → leading from (take i edges) + present o ≤ leading from edges
edge_more from edges i e starts o eo t f l =
    let h : is_some o ≡ has_slot from e.from = ap is_some eo ∙ t.slots e.from ∙ ap (λ s. has_slot s e.from) (take_all (length from) from (omega arith)) in
    omega (arith, leading_more from edges i e o f l h, leading_within from edges (i + 1))

pub start_wire : (n : ℕ) (old mid : List Gate) (from : List Member) (starts : List (Option Wire)) (o : Option Wire) (slot : ℕ) → o ≡ wire_at starts slot → IsTabled from (length from) starts → All (λ m. IsWireOf old m.here) from → Extends old mid n → IfSome o (IsWireOf mid)
start_wire n old mid from starts o slot eo t h e = subst (λ o. IfSome o (IsWireOf mid)) (sym eo) (stays (wire_at starts slot) ((t.wires old h).wires slot))
  where
    stays : (o : Option Wire) → IfSome o (IsWireOf old) → IfSome o (IsWireOf mid)
    stays None i = tt
    stays (Some v) i = omega (arith, i, e.at_least)

pub edge_wire : (old : List Gate) (edges : List Edge) (i : ℕ) (e : Edge) → All (λ e. IsWireOf old e.here) edges → slice_get edges i ≡ Some e → i < length edges → IsWireOf old e.here
edge_wire old edges i e h f l = subst (λ y. IsWireOf old y.here) (get_or_from_slice_get edges i e e f) (h i e l)
