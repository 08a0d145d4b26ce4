-- Slots of which an edge is taken are live, one after another.
use Rattle.std.proofs.Common.{◌≡◌, ℕ, ◌+◌, ◌*◌, Bool, false, not, ◌&&◌, ◌||◌, List, length, take, Option, Some, sym, ap, ◌∙◌, arith}
use Rattle.std.specs.Prelude.{slice_get}
use Rattle.std.specs.Option.{option_map_or}
use Rattle.std.specs.List.{All, list_all}
use Rattle.std.proofs.lemmas.List.{take_all}
use Rattle.bool_circuit.specs.declared.gate.Wire.{Wire}
use Rattle.bool_circuit.specs.declared.gate.Gate.{Gate}
use Rattle.bool_circuit.specs.Circuit.{wire_value, entry, IsWireOf, Extends}
use Rattle.bool_circuit.proofs.Extending.{extends_trans, extends_within}
use Rattle.clf_tree.specs.Lists.{numbers_below}
use Rattle.set_bits.specs.declared.layout.Edge.{Edge}
use Rattle.set_bits.specs.declared.layout.Layout.{Layout}
use Rattle.set_bits.specs.Sets.{is_here}
use Rattle.set_bits.specs.Reaching.{wire_at, IsTableOf}
use Rattle.set_bits.proofs.Combining.{here_stays}
use Rattle.shown_instance.specs.Shown.{is_live}
use Rattle.shown_instance.specs.Consistent.{has_taken, are_single, are_edges, lead_from_live}
use Rattle.shape_encoder.specs.Reading.{IsBit}
use Rattle.shape_encoder.specs.Taking.{AreTaken, lead_below, IsLedSoFar}
use Rattle.shape_encoder.proofs.Steps.{all_item, list_all-push, numbers-push, all_same}

pub led_more : (old mid next new : List Gate) (table : List (Option Wire)) (live : List Wire) (n : ℕ) (here all right wire : Wire) → All (IsBit old) live → IsTableOf old table → slice_get live n ≡ Some here → IsLedSoFar old table live n mid all
    → Extends mid next 2 → Extends next new 1 → IsWireOf new wire → ((bits : List Bool) → wire_value next right bits ≡ (not (is_here mid (wire_at table n) bits) || wire_value mid here bits))
    → ((bits : List Bool) → wire_value new wire bits ≡ (wire_value next all bits && wire_value next right bits)) → IsLedSoFar old table live (n + 1) new wire
led_more old mid next new table live n here all right wire bit tb get s x y w rv wv = record {
  extends = extends_within old new ((3 * n + 1) + (2 + 1)) (3 * (n + 1) + 1) (omega arith) (extends_trans old mid new (3 * n + 1) (2 + 1) s.extends (extends_trans mid next new 2 1 x y));
  is_wire = w;
  value = λ bits.
      wv bits ∙ ap (λ b. b && wire_value next right bits) (x.keeps all s.is_wire bits ∙ s.value bits)
      ∙ ap (λ b. lead_below old table live bits n && b) (rv bits ∙ ap (λ b. not b || wire_value mid here bits) (here_stays (3 * n + 1) old mid (wire_at table n) bits s.extends (tb.wires n)) ∙ ap (λ b. not (is_here old (wire_at table n) bits) || b) (told bits))
      ∙ sym (ap (list_all (leads bits)) (numbers-push n) ∙ list_all-push (leads bits) (numbers_below n) n);
}
  where
    mine : IsBit old here
    mine = all_item (IsBit old) live n here bit get

    leads : List Bool → ℕ → Bool
    leads bits i = not (is_here old (wire_at table i) bits) || option_map_or (entry bits) (slice_get live i) false

    told : (bits : List Bool) → wire_value mid here bits ≡ option_map_or (entry bits) (slice_get live n) false
    told bits = s.extends.keeps here mine.wire bits ∙ mine.value bits ∙ sym (ap (λ o. option_map_or (entry bits) o false) get)

-- the edges of one kind
pub edges_told : (old mid next new : List Gate) (layout : Layout) (edges : List Edge) (table : List (Option Wire)) (single led wire : Wire) → length layout.live ≡ length layout.slots → AreTaken old edges (length edges) mid table single → IsLedSoFar mid table layout.live (length layout.live) next led
    → ((bits : List Bool) → wire_value new wire bits ≡ (wire_value next led bits && wire_value next single bits)) → (bits : List Bool) → wire_value new wire bits ≡ are_edges layout edges bits
edges_told old mid next new layout edges table single led wire size t l wv bits =
    wv bits ∙ ap (λ b. b && wire_value next single bits) (l.value bits ∙ ap (λ n. lead_below mid table layout.live bits n) size ∙ all_same _ (λ i. not (has_taken edges bits i) || is_live layout bits i) (numbers_below (length layout.slots)) (λ i. ap (λ b. not b || is_live layout bits i) (t.taken bits i ∙ ap (λ es. has_taken es bits i) whole)))
    ∙ ap (λ b. lead_from_live layout edges bits && b) (l.extends.keeps single t.single_wire bits ∙ t.apart bits ∙ ap (λ es. are_single es bits) whole)
  where
    whole : take (length edges) edges ≡ edges
    whole = take_all (length edges) edges (omega arith)
