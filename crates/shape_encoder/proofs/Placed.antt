-- Slots and edges that are tied as they have to be, one after another.
use Rattle.std.proofs.Common.{◌≡◌, ℕ, ◌+◌, ◌*◌, ◌<◌, ◌≤◌, Bool, true, false, not, ◌&&◌, ◌||◌, List, [], ◌∷◌, ◌++◌, length, take, Option, Some, refl, sym, ap, ◌∙◌, arith}
use Rattle.std.specs.Prelude.{slice_get}
use Rattle.std.specs.Option.{option_map_or}
use Rattle.std.specs.List.{All, list_all}
use Rattle.std.proofs.lemmas.Option.{get_or_from_slice_get}
use Rattle.std.proofs.lemmas.List.{take_all}
use Rattle.bool_circuit.specs.declared.gate.Wire.{Wire}
use Rattle.bool_circuit.specs.declared.gate.Gate.{Gate}
use Rattle.bool_circuit.specs.Circuit.{wire_value, entry, IsWireOf, Extends}
use Rattle.bool_circuit.proofs.Extending.{extends_trans, extends_within}
use Rattle.clf_tree.specs.declared.instance.Node.{Node}
use Rattle.clf_tree.specs.Lists.{numbers_below}
use Rattle.set_bits.specs.declared.layout.Edge.{Edge}
use Rattle.set_bits.specs.declared.layout.Layout.{Layout}
use Rattle.set_bits.specs.Fitting.{slot, slot_clafer}
use Rattle.set_bits.specs.Sets.{is_here}
use Rattle.set_bits.specs.Reaching.{wire_at, IsTableOf}
use Rattle.set_bits.proofs.Combining.{here_stays}
use Rattle.shown_instance.specs.Shown.{is_live}
use Rattle.shown_instance.specs.Consistent.{has_taken}
use Rattle.shown_instance.specs.Placed.{have_taken, lead_to_live}
use Rattle.shape_encoder.specs.Reading.{IsBit}
use Rattle.shape_encoder.specs.Taking.{AreTaken}
use Rattle.shape_encoder.specs.Placing.{lands, HaveOneSoFar, LandSoFar}
use Rattle.shape_encoder.proofs.Steps.{all_item, take_item, list_all-push, numbers-push, all_same, bits_stay}

pub not_asked : (live taken : Bool) (asked : Bool) → asked ≡ false → true ≡ (not (live && asked) || taken)
not_asked true taken asked e = ap (λ b. not b || taken) (sym e)
not_asked false taken asked e = refl

pub one_more : (old mid next new : List Gate) (asked : ℕ → Bool) (layout : Layout) (table : List (Option Wire)) (n : ℕ) (node : Node) (live all right wire : Wire) → All (IsBit old) layout.live → IsTableOf old table → slice_get layout.slots n ≡ Some node → slice_get layout.live n ≡ Some live
    → HaveOneSoFar old asked layout table n mid all → Extends mid next 2 → Extends next new 1 → IsWireOf new wire
    → ((bits : List Bool) → wire_value next right bits ≡ (not (wire_value mid live bits && asked node.clafer) || is_here mid (wire_at table n) bits))
    → ((bits : List Bool) → wire_value new wire bits ≡ (wire_value next all bits && wire_value next right bits)) → HaveOneSoFar old asked layout table (n + 1) new wire
one_more old mid next new asked layout table n node live all right wire bit tb at get s x y w rv wv = record {
  extends = extends_within old new ((3 * n + 1) + (2 + 1)) (3 * (n + 1) + 1) (omega arith) (extends_trans old mid new (3 * n + 1) (2 + 1) s.extends (extends_trans mid next new 2 1 x y));
  is_wire = w;
  value = λ bits.
      wv bits ∙ ap (λ b. b && wire_value next right bits) (x.keeps all s.is_wire bits ∙ s.value bits)
      ∙ ap (λ b. list_all (has bits) (numbers_below n) && b)
      (rv bits ∙ ap (λ b. not (wire_value mid live bits && asked node.clafer) || b) (here_stays (3 * n + 1) old mid (wire_at table n) bits s.extends (tb.wires n))
      ∙ ap (λ b. not (b && asked node.clafer) || is_here old (wire_at table n) bits) (told bits)
      ∙ ap (λ m. not (is_live layout bits n && asked m.clafer) || is_here old (wire_at table n) bits) (sym here))
      ∙ sym (ap (list_all (has bits)) (numbers-push n) ∙ list_all-push (has bits) (numbers_below n) n);
}
  where
    has : List Bool → ℕ → Bool
    has bits i = not (is_live layout bits i && asked (slot_clafer layout.slots i)) || is_here old (wire_at table i) bits

    mine : IsBit old live
    mine = all_item (IsBit old) layout.live n live bit get

    here : slot layout.slots n ≡ node
    here = get_or_from_slice_get layout.slots n node (record { clafer = 0; number = 0 }) at

    told : (bits : List Bool) → wire_value mid live bits ≡ is_live layout bits n
    told bits = s.extends.keeps live mine.wire bits ∙ mine.value bits ∙ sym (ap (λ o. option_map_or (entry bits) o false) get)

pub land_more : (old mid next new : List Gate) (live : List Wire) (edges : List Edge) (n : ℕ) (e : Edge) (there all right wire : Wire) → All (IsBit old) live → All (λ x. IsBit old x.here) edges → slice_get edges n ≡ Some e → slice_get live e.to ≡ Some there
    → LandSoFar old live edges n mid all → Extends mid next 2 → Extends next new 1 → IsWireOf new wire
    → ((bits : List Bool) → wire_value next right bits ≡ (not (wire_value mid e.here bits) || wire_value mid there bits))
    → ((bits : List Bool) → wire_value new wire bits ≡ (wire_value next all bits && wire_value next right bits)) → LandSoFar old live edges (n + 1) new wire
land_more old mid next new live edges n e there all right wire bit ebit get at s x y w rv wv = record {
  extends = extends_within old new ((3 * n + 1) + (2 + 1)) (3 * (n + 1) + 1) (omega arith) (extends_trans old mid new (3 * n + 1) (2 + 1) s.extends (extends_trans mid next new 2 1 x y));
  is_wire = w;
  value = λ bits.
      wv bits ∙ ap (λ b. b && wire_value next right bits) (x.keeps all s.is_wire bits ∙ s.value bits)
      ∙ ap (λ b. list_all (lands live bits) (take n edges) && b)
      (rv bits ∙ ap (λ b. not b || wire_value mid there bits) (s.extends.keeps e.here mine.wire bits ∙ mine.value bits)
      ∙ ap (λ b. not (entry bits e.here) || b) (s.extends.keeps there other.wire bits ∙ other.value bits ∙ sym (ap (λ o. option_map_or (entry bits) o false) at)))
      ∙ sym (ap (list_all (lands live bits)) (take_item edges n e get) ∙ list_all-push (lands live bits) (take n edges) e);
}
  where
    mine : IsBit old e.here
    mine = all_item (λ (z : Edge). IsBit old z.here) edges n e ebit get

    other : IsBit old there
    other = all_item (IsBit old) live e.to there bit at

pub lands_known : (live : List Wire) (edges : List Edge) (n : ℕ) (e : Edge) → All (λ x. x.to < length live) edges → slice_get edges n ≡ Some e → e.to < length live
lands_known live edges n e all get = all_item (λ (z : Edge). z.to < length live) edges n e all get

pub tied_told : (old first second third new : List Gate) (asked : ℕ → Bool) (layout : Layout) (edges : List Edge) (table : List (Option Wire)) (single some landed wire : Wire) → length layout.live ≡ length layout.slots → AreTaken old edges (length edges) first table single
    → HaveOneSoFar first asked layout table (length layout.live) second some → LandSoFar second layout.live edges (length edges) third landed
    → ((bits : List Bool) → wire_value new wire bits ≡ (wire_value third some bits && wire_value third landed bits)) → (bits : List Bool) → wire_value new wire bits ≡ (have_taken asked layout edges bits && lead_to_live layout edges bits)
tied_told old first second third new asked layout edges table single some landed wire size t h l wv bits =
    wv bits ∙ ap (λ b. b && wire_value third landed bits)
    (l.extends.keeps some h.is_wire bits ∙ h.value bits ∙ ap (λ n. list_all (λ i. not (is_live layout bits i && asked (slot_clafer layout.slots i)) || is_here first (wire_at table i) bits) (numbers_below n)) size
    ∙ all_same (λ i. not (is_live layout bits i && asked (slot_clafer layout.slots i)) || is_here first (wire_at table i) bits) (λ i. not (is_live layout bits i && asked (slot_clafer layout.slots i)) || has_taken edges bits i) (numbers_below (length layout.slots))
    (λ i. ap (λ b. not (is_live layout bits i && asked (slot_clafer layout.slots i)) || b) (t.taken bits i ∙ ap (λ es. has_taken es bits i) whole)))
    ∙ ap (λ b. have_taken asked layout edges bits && b) (l.value bits ∙ ap (list_all (lands layout.live bits)) whole)
  where
    whole : take (length edges) edges ≡ edges
    whole = take_all (length edges) edges (omega arith)
