-- The law of intervals, from the tests.
use Rattle.std.proofs.Common.{◌≡◌, ℕ, ◌<◌, Bool, true, false, not, ◌&&◌, ◌||◌, List, [], ◌∷◌, length, Option, Some, None, refl, sym, subst, ◌∙◌, arith, IsTrue}
use Rattle.std.specs.Prelude.{◌==◌, slice_get, is_some}
use Rattle.std.specs.Option.{option_and_then, option_map_or}
use Rattle.std.specs.List.{list_all}
use Rattle.std.proofs.lemmas.Bool.{true≢false}
use Rattle.std.proofs.lemmas.Option.{slice_get_within}
use Rattle.clf_tree.specs.declared.model.Clafer.{Clafer}
use Rattle.clf_tree.specs.declared.instance.Node.{Node}
use Rattle.clf_tree.specs.declared.instance.Entry.{Entry}
use Rattle.clf_tree.specs.Lists.{numbers_below, each_two}
use Rattle.clf_tree.specs.Hierarchy.{is_closed, is_a, own_reference}
use Rattle.clf_tree.specs.Nodes.{same_node, nodes_of, is_ordered, is_within, is_tree}
use Rattle.clf_tree.specs.Meaning.{Situation}
use Rattle.clf_tree.specs.declared.scopes.Scopes.{Scopes}
use Rattle.clf_tree.specs.Shape.{has_shape, meets_times, meets_group, meets_reference, differ}
use Rattle.clf_tree.specs.IntervalsHold.{refers_once, StandsFor, IsSituation, IntervalsHold}
use Rattle.clf_tree.proofs.Items.{In, found, all_in, and_left, and_right, in_range, image}
use Rattle.clf_tree.proofs.IsALaw.{is_a_from_closure}
use Rattle.clf_tree.proofs.SingleReference.{IsSingle}
use Rattle.clf_tree.proofs.Counts.{Belongs, same_equal}
use Rattle.clf_tree.proofs.SetsOfNodes.{IsSound, IsPlace}
use Rattle.clf_tree.proofs.IntervalLaw.{interval_law}

own_below : (clafers : List Clafer) (c : ℕ) (k : Option Clafer) → slice_get clafers c ≡ k → is_some (option_and_then (λ (x : Clafer). x.reference) k) ≡ true → c < length clafers
own_below clafers c None e h = absurd (true≢false (sym h))
own_below clafers c (Some k) e h = slice_get_within clafers c k e

-- the test of it
pub single : (clafers : List Clafer) → is_closed clafers ≡ true → refers_once clafers ≡ true → IsSingle clafers
single clafers closed once z y up a b =
    let test : ℕ → ℕ → Bool = λ p q. not (is_a clafers p q && is_some (own_reference clafers p) && is_some (own_reference clafers q)) || (p == q) in
    let zs = own_below clafers z (slice_get clafers z) refl a in
    let ys = own_below clafers y (slice_get clafers y) refl b in
    let row = all_in (λ p. list_all (test p) (numbers_below (length clafers))) (numbers_below (length clafers)) z (number_in (length clafers) z zs) once in
    last (is_a clafers z y) (is_some (own_reference clafers z)) (is_some (own_reference clafers y)) (is_a_from_closure clafers z y closed zs up) a b
    (all_in (test z) (numbers_below (length clafers)) y (number_in (length clafers) y ys) row)
  where
    number_in : (n i : ℕ) → i < n → In i (numbers_below n)
    number_in n i h = subst (λ q. In q (numbers_below n)) (omega arith) (in_range n 0 i h)

    last : (p q r : Bool) → p ≡ true → q ≡ true → r ≡ true → (not (p && q && r) || (z == y)) ≡ true → z ≡ y
    last true true true e f g h = equal z y h
      where
        equal : (m n : ℕ) → (m == n) ≡ true → m ≡ n
        equal m n k = grind arith
    last false q r e f g h = absurd (true≢false (sym e))
    last true false r e f g h = absurd (true≢false (sym f))
    last true true false e f g h = absurd (true≢false (sym g))

belongs : (clafers : List Clafer) (entries : List Entry) (ks : List ℕ) (n : Node) → StandsFor clafers entries ks n → Belongs clafers entries ks n
belongs clafers entries ks n s =
    let f = found (same_node n) (nodes_of entries) s.0 in
    let im = image (λ (x : Entry). x.node) entries f.item f.in_list in
    record { entry = im.item; there = im.in_list; same = im.same ∙ sym (same_equal n f.item f.pass); is_one = s.1 }

references : (clafers : List Clafer) (scopes : Scopes) (entries : List Entry) → has_shape clafers scopes entries ≡ true → list_all (meets_reference clafers entries scopes) entries ≡ true
references clafers scopes entries h =
    let first = and_left (list_all (λ c. option_map_or (λ k. meets_times clafers entries c k && meets_group clafers entries c k) (slice_get clafers c) true) (numbers_below (length clafers)) && list_all (meets_reference clafers entries scopes) entries) (each_two (differ clafers entries) entries) h in
    and_right (list_all (λ c. option_map_or (λ k. meets_times clafers entries c k && meets_group clafers entries c k) (slice_get clafers c) true) (numbers_below (length clafers))) (list_all (meets_reference clafers entries scopes) entries) first

pub sound_of : (clafers : List Clafer) (scopes : Scopes) (entries : List Entry)
    → IsTrue (is_closed clafers) → IsTrue (refers_once clafers)
    → IsTrue (is_ordered entries) → IsTrue (is_within clafers scopes entries) → IsTrue (is_tree clafers entries) → IsTrue (has_shape clafers scopes entries)
    → IsSound clafers scopes entries
sound_of clafers scopes entries closed once ordered within tree shape = record {
  closed = closed;
  single = single clafers closed once;
  ordered = ordered;
  within = within;
  tree = tree;
  references = references clafers scopes entries shape;
}

pub place_of : (clafers : List Clafer) (entries : List Entry) (s : Situation) → IsSituation clafers entries s → IsPlace clafers entries s
place_of clafers entries s place = record {
  this_node = λ c e. let f = place.this_is c e in (f.0, f.1, belongs clafers entries (c ∷ []) f.0 f.2);
  variable = λ i ks e. let f = place.variable_is i ks e in (f.0, f.1, belongs clafers entries ks f.0 f.2);
}

pub intervals_hold : IntervalsHold
intervals_hold clafers scopes entries t s closed once ordered within tree shape place typed fits narrow =
    let sound = sound_of clafers scopes entries closed once ordered within tree shape in
    let l = interval_law clafers scopes entries sound t s (place_of clafers entries s place) typed fits narrow in
    record { least = l.least; most = l.most }
