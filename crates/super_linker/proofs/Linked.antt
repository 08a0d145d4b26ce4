-- What is known of clafers whose supers are linked.
use Rattle.std.proofs.Common.{◌≡◌, ℕ, zero, suc, ◌+◌, ◌<◌, ◌≤◌, Bool, true, false, not, ◌&&◌, List, [], ◌∷◌, ◌++◌, map, length, Option, Some, None, refl, ap, sym, ◌∙◌, subst, arith}
use Rattle.std.specs.Prelude.{slice_get, is_some, is_none, bytes_eq}
use Rattle.std.specs.Option.{option_map, option_map_or, option_and_then}
use Rattle.std.specs.List.{list_all, flat_map}
use Rattle.std.proofs.lemmas.List.{length-map}
use Rattle.std.proofs.lemmas.Bool.{and_parts, and_from, lt-ltb, ltb-true}
use Rattle.clf_base.specs.declared.fault.Refusal.{Refusal}
use Rattle.refusal_order.specs.Order.{first_refusal, with_refusals}
use Rattle.clf_tree.specs.declared.token.Title.{Title}
use Rattle.clf_tree.specs.declared.module.Pointer.{Pointer}
use Rattle.clf_tree.specs.declared.model.Clafer.{Clafer}
use Rattle.clf_tree.specs.declared.plain.PlainClafer.{PlainClafer}
use Rattle.clf_tree.specs.Lists.{numbers_below}
use Rattle.clf_tree.specs.Hierarchy.{is_below, names_below, is_closed, is_concrete, parent_of, super_of, is_a}
use Rattle.clf_tree.specs.Named.{follows_parent, has_right_super, inherits_itself}
use Rattle.super_linker.specs.Supers.{parents_first, super_number, super_named, unlinked, linked_clafer, linked, refused_if, lacks_super, super_refusals, supers_refusals, InheritsWell}
use Rattle.super_linker.proofs.Names.{found_at, get-map}
use Rattle.super_linker.proofs.Refused.{with_refusals-append, none_refused, both_none, not_met, all_pass, all_true}

-- ---- each number is there

wider : (n m : ℕ) (c : Option ℕ) → n ≤ m → is_below n c ≡ true → is_below m c ≡ true
wider n m None le h = refl
wider n m (Some d) le h = let low = ltb-true d n h in lt-ltb d m (omega (arith, low, le))

super_below : (all : List PlainClafer) (name : List ℕ) (found : Option ℕ) → super_number all name ≡ found → is_below (length all) found ≡ true
super_below all name None e = refl
super_below all name (Some s) e =
    let f = found_at name 0 s all e in
    let number = f.number in
    let within = f.within in
    lt-ltb s (length all) (omega (arith, number, within))

above_below : (all : List PlainClafer) (above : Option Title) → is_below (length all) (option_and_then (λ t. super_number all t.name) above) ≡ true
above_below all None = refl
above_below all (Some t) = super_below all t.name (super_number all t.name) refl

no_target : (n : ℕ) (reference : Option Pointer) → is_below n (option_and_then (λ r. r.to) (option_map unlinked reference)) ≡ true
no_target n None = refl
no_target n (Some p) = refl

closed_from : (all ks : List PlainClafer) (c : ℕ) → c + length ks ≤ length all → parents_first c ks ≡ true → list_all (names_below (length all)) (map (linked_clafer all) ks) ≡ true
closed_from all [] c within h = refl
closed_from all (k ∷ ks) c within h =
    let parts = and_parts (is_below c k.parent) (parents_first (c + 1) ks) h in
    let one = and_from _ _ (and_from _ _ (wider c (length all) k.parent (omega (arith, within)) parts.0) (above_below all k.above)) (no_target (length all) k.reference) in
    and_from (names_below (length all) (linked_clafer all k)) (list_all (names_below (length all)) (map (linked_clafer all) ks)) one
    (closed_from all ks (c + 1) (omega (arith, within)) parts.1)

pub linked_closed : (ks : List PlainClafer) → parents_first 0 ks ≡ true → is_closed (linked ks) ≡ true
linked_closed ks h =
    let same : length (linked ks) ≡ length ks = length-map ks (linked_clafer ks) in
    ap (λ (n : ℕ). list_all (names_below n) (linked ks)) same ∙ closed_from ks ks 0 (omega arith) h

-- ---- parents

parent_before : (ks : List PlainClafer) (b c : ℕ) (k : PlainClafer) → parents_first b ks ≡ true → slice_get ks c ≡ Some k → is_below (b + c) k.parent ≡ true
parent_before [] b c k h e = (cc)
parent_before (x ∷ ks) b zero k h e =
    let parts = and_parts (is_below b x.parent) (parents_first (b + 1) ks) h in
    let same : x ≡ k = (cc) in
    let place : b ≡ b + 0 = omega arith in
    subst (λ (n : ℕ). is_below n k.parent ≡ true) place (subst (λ (z : PlainClafer). is_below b z.parent ≡ true) same parts.0)
parent_before (x ∷ ks) b (suc c) k h e =
    let parts = and_parts (is_below b x.parent) (parents_first (b + 1) ks) h in
    let place : b + 1 + c ≡ b + suc c = omega arith in
    subst (λ (n : ℕ). is_below n k.parent ≡ true) place (parent_before ks (b + 1) c k parts.1 e)

follows : (ks : List PlainClafer) (c : ℕ) (k : Option PlainClafer) → parents_first 0 ks ≡ true → slice_get ks c ≡ k
    → is_below c (option_and_then (λ z. z.parent) (option_map (linked_clafer ks) k)) ≡ true
follows ks c None h e = refl
follows ks c (Some k) h e =
    let place : 0 + c ≡ c = omega arith in
    subst (λ (n : ℕ). is_below n k.parent ≡ true) place (parent_before ks 0 c k h e)

follows_at : (ks : List PlainClafer) → parents_first 0 ks ≡ true → (c : ℕ) → follows_parent (linked ks) c ≡ true
follows_at ks h c =
    ap (λ (k : Option Clafer). is_below c (option_and_then (λ z. z.parent) k)) (get-map (linked_clafer ks) ks c) ∙ follows ks c (slice_get ks c) h refl

-- ---- supers

right : (ks : List PlainClafer) (name : List ℕ) (s : Option ℕ) → super_number ks name ≡ s
    → option_map_or (λ z. not (is_concrete (linked ks) z) && is_none (parent_of (linked ks) z)) s true ≡ true
right ks name None e = refl
right ks name (Some s) e =
    let f = found_at name 0 s ks e in
    let number = f.number in
    let same : s ≡ f.index = omega (arith, number) in
    let abstract = and_parts f.clafer.is_abstract (is_none f.clafer.parent && bytes_eq name f.clafer.title.name) f.is in
    let top = and_parts (is_none f.clafer.parent) (bytes_eq name f.clafer.title.name) abstract.1 in
    let got : slice_get (linked ks) s ≡ Some (linked_clafer ks f.clafer) =
    get-map (linked_clafer ks) ks s ∙ ap (λ (i : ℕ). option_map (linked_clafer ks) (slice_get ks i)) same ∙ ap (option_map (linked_clafer ks)) f.at in
    and_from (not (is_concrete (linked ks) s)) (is_none (parent_of (linked ks) s))
    (ap (λ (k : Option Clafer). not (option_map_or (λ z. not z.is_abstract) k false)) got ∙ ap (λ b. not (not b)) abstract.0)
    (ap (λ (k : Option Clafer). is_none (option_and_then (λ z. z.parent) k)) got ∙ top.0)

right_named : (ks : List PlainClafer) (above : Option Title)
    → option_map_or (λ z. not (is_concrete (linked ks) z) && is_none (parent_of (linked ks) z)) (option_and_then (λ t. super_number ks t.name) above) true ≡ true
right_named ks None = refl
right_named ks (Some t) = right ks t.name (super_number ks t.name) refl

right_of : (ks : List PlainClafer) (k : Option PlainClafer)
    → option_map_or (λ z. not (is_concrete (linked ks) z) && is_none (parent_of (linked ks) z)) (option_and_then (λ z. z.above) (option_map (linked_clafer ks) k)) true ≡ true
right_of ks None = refl
right_of ks (Some k) = right_named ks k.above

right_at : (ks : List PlainClafer) (c : ℕ) → has_right_super (linked ks) c ≡ true
right_at ks c =
    ap (λ (k : Option Clafer). option_map_or (λ z. not (is_concrete (linked ks) z) && is_none (parent_of (linked ks) z)) (option_and_then (λ z. z.above) k) true) (get-map (linked_clafer ks) ks c)
    ∙ right_of ks (slice_get ks c)

-- ---- no cycle

no_cycle : (ks : List PlainClafer) (c : ℕ) (k : Option PlainClafer) → slice_get ks c ≡ k
    → option_map_or (λ z. refused_if (lacks_super ks z) 60 z.title.at ++ refused_if (inherits_itself (linked ks) c) 61 z.title.at) k [] ≡ [] → not (inherits_itself (linked ks) c) ≡ true
no_cycle ks c None at e =
    let got : slice_get (linked ks) c ≡ None = get-map (linked_clafer ks) ks c ∙ ap (option_map (linked_clafer ks)) at in
    ap (λ (k : Option Clafer). not (option_map_or (λ s. is_a (linked ks) s c) (option_and_then (λ z. z.above) k) false)) got
no_cycle ks c (Some k) at e =
    not_met (inherits_itself (linked ks) c) 61 k.title.at
    (both_none (refused_if (lacks_super ks k) 60 k.title.at) (refused_if (inherits_itself (linked ks) c) 61 k.title.at) e).1

pub linked_known : (ks : List PlainClafer) → parents_first 0 ks ≡ true → first_refusal (supers_refusals ks) ≡ None → InheritsWell (linked ks)
linked_known ks h none =
    let same : length (linked ks) ≡ length ks = length-map ks (linked_clafer ks) in
    let nothing : flat_map (super_refusals ks) (numbers_below (length ks)) ≡ [] = none_refused (supers_refusals ks) none in
    record {
      closed = linked_closed ks h;
      parents_first = all_true (follows_parent (linked ks)) (follows_at ks h) (numbers_below (length (linked ks)));
      inherits_abstract = all_true (has_right_super (linked ks)) (right_at ks) (numbers_below (length (linked ks)));
      inherits_no_cycle = ap (λ (n : ℕ). list_all (λ c. not (inherits_itself (linked ks) c)) (numbers_below n)) same
          ∙ all_pass (super_refusals ks) (λ c. not (inherits_itself (linked ks) c)) (λ c e. no_cycle ks c (slice_get ks c) refl e) (numbers_below (length ks)) nothing;
    }

pub closed_at : (ks : List PlainClafer) (cs : List Clafer) → cs ≡ linked ks → parents_first 0 ks ≡ true → is_closed cs ≡ true
closed_at ks cs e h = subst (λ (ds : List Clafer). is_closed ds ≡ true) (sym e) (linked_closed ks h)

pub known_at : (ks : List PlainClafer) (cs : List Clafer) → cs ≡ linked ks → parents_first 0 ks ≡ true → first_refusal (supers_refusals ks) ≡ None → InheritsWell cs
known_at ks cs e h none = subst InheritsWell (sym e) (linked_known ks h none)

pub ruleset linked_facts = (closed_at, known_at)

-- ---- one clafer

super_at : (ks : List PlainClafer) (c : ℕ) (k : PlainClafer) → slice_get ks c ≡ Some k → super_of (linked ks) c ≡ super_named ks k
super_at ks c k e = ap (option_and_then (λ z. z.above)) (get-map (linked_clafer ks) ks c ∙ ap (option_map (linked_clafer ks)) e)

pub in_one : (ks : List PlainClafer) (cs : List Clafer) (c : ℕ) (k : PlainClafer) (above : Option ℕ) (lacks : Bool) (first r s : Option Refusal) → cs ≡ linked ks → slice_get ks c ≡ Some k
    → above ≡ super_of cs c → lacks ≡ (is_some k.above && is_none above)
    → r ≡ with_refusals first (refused_if lacks 60 k.title.at) → s ≡ with_refusals r (refused_if (inherits_itself cs c) 61 k.title.at) → s ≡ with_refusals first (super_refusals ks c)
in_one ks cs c k above lacks first r s same at is none one two =
    let up : above ≡ super_named ks k = is ∙ ap (λ (ds : List Clafer). super_of ds c) same ∙ super_at ks c k at in
    let lack : lacks ≡ lacks_super ks k = none ∙ ap (λ a. is_some k.above && is_none a) up in
    two ∙ ap (λ (ds : List Clafer). with_refusals r (refused_if (inherits_itself ds c) 61 k.title.at)) same
    ∙ ap (λ z. with_refusals z (refused_if (inherits_itself (linked ks) c) 61 k.title.at)) (one ∙ ap (λ b. with_refusals first (refused_if b 60 k.title.at)) lack)
    ∙ sym (with_refusals-append first (refused_if (lacks_super ks k) 60 k.title.at) (refused_if (inherits_itself (linked ks) c) 61 k.title.at))
    ∙ ap (λ z. with_refusals first (option_map_or (λ z. refused_if (lacks_super ks z) 60 z.title.at ++ refused_if (inherits_itself (linked ks) c) 61 z.title.at) z [])) (sym at)

-- ---- a super is there

all_at : {X : Type 0} (p : X → Bool) (xs : List X) (i : ℕ) (x : X) → list_all p xs ≡ true → slice_get xs i ≡ Some x → p x ≡ true
all_at p [] i x all e = (cc)
all_at p (y ∷ xs) zero x all e =
    let parts = and_parts (p y) (list_all p xs) all in
    let same : y ≡ x = (cc) in
    ap p (sym same) ∙ parts.0
all_at p (y ∷ xs) (suc i) x all e = all_at p xs i x (and_parts (p y) (list_all p xs) all).1 e

super_by : (cs : List Clafer) (c s : ℕ) (k : Option Clafer) → is_closed cs ≡ true → slice_get cs c ≡ k → option_and_then (λ z. z.above) k ≡ Some s → s < length cs
super_by cs c s None closed at e = (cc)
super_by cs c s (Some k) closed at e =
    let named = all_at (names_below (length cs)) cs c k closed at in
    let above = (and_parts (is_below (length cs) k.parent) (is_below (length cs) k.above) (and_parts _ (is_below (length cs) (option_and_then (λ r. r.to) k.reference)) named).0).1 in
    ltb-true s (length cs) (ap (is_below (length cs)) (sym e) ∙ above)

pub super_in : (cs : List Clafer) (c s : ℕ) → is_closed cs ≡ true → super_of cs c ≡ Some s → s < length cs
super_in cs c s closed e = super_by cs c s (slice_get cs c) closed refl e
