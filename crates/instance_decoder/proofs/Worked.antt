-- The bits of the worked instance show it.
use Rattle.std.proofs.Common.{◌≡◌, List, [], ◌∷◌, length, refl, subst, sym}
use Rattle.std.proofs.lemmas.List.Elements.{All-cons, All-nil}
use Rattle.bool_circuit.specs.declared.gate.Wire.{Wire}
use Rattle.clf_tree.specs.declared.model.Clafer.{Clafer}
use Rattle.clf_tree.specs.declared.instance.Node.{Node}
use Rattle.clf_tree.specs.declared.instance.Entry.{Entry}
use Rattle.clf_tree.specs.declared.scopes.Scopes.{Scopes}
use Rattle.set_bits.specs.declared.layout.Edge.{Edge}
use Rattle.set_bits.specs.declared.layout.SlotBits.{SlotBits}
use Rattle.set_bits.specs.declared.layout.Layout.{Layout}
use Rattle.clf_tree.specs.Widths.{width}
use Rattle.set_bits.specs.Fitting.{Fits, value_width}
use Rattle.set_bits.specs.Showing.{Shows}
use Rattle.instance_decoder.specs.Worked.{clafers, scopes, layout, bits, entries, first_value, second_value}

pub worked_fits : Fits clafers scopes layout
unfolding width
worked_fits = record {
  slots = refl;
  live = refl;
  parents = refl;
  parent_wires = refl;
  targets = refl;
  target_wires = refl;
  values = refl;
  widths = All-cons (λ v. length v.bits ≡ value_width scopes) first_value (second_value ∷ []) refl (All-cons (λ v. length v.bits ≡ value_width scopes) second_value [] refl (All-nil (λ v. length v.bits ≡ value_width scopes)));
  integer_wires = refl;
}

pub worked_shows : Shows clafers scopes layout bits entries
worked_shows = record {
  within = refl;
  in_range = refl;
  ordered = refl;
  size = refl;
  live = refl;
  parents = refl;
  has_parents = refl;
  targets = refl;
  has_targets = refl;
  values = refl;
  has_values = refl;
}

pub fits_as : (cs : List Clafer) (s : Scopes) (l : Layout) → cs ≡ clafers → s ≡ scopes → l ≡ layout → Fits cs s l
fits_as cs s l a b c = subst (λ x. Fits x s l) (sym a) (subst (λ x. Fits clafers x l) (sym b) (subst (λ x. Fits clafers scopes x) (sym c) worked_fits))

pub shows_as : (cs : List Clafer) (s : Scopes) (l : Layout) → cs ≡ clafers → s ≡ scopes → l ≡ layout → (es : List Entry) × Shows cs s l bits es
shows_as cs s l a b c = (entries, subst (λ x. Shows x s l bits entries) (sym a) (subst (λ x. Shows clafers x l bits entries) (sym b) (subst (λ x. Shows clafers scopes x bits entries) (sym c) worked_shows)))

pub layout_as : (slots : List Node) (live : List Wire) (parents targets : List Edge) (values : List SlotBits) → slots ≡ layout.slots → live ≡ layout.live → parents ≡ layout.parents → targets ≡ layout.targets → values ≡ layout.values
    → record { slots = slots; live = live; parents = parents; targets = targets; values = values } ≡ layout
layout_as slots live parents targets values a b c d e = rw (a, b, c, d, e) refl
