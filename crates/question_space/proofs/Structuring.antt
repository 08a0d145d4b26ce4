-- A model on wires, from its layout to the conjunction of its constraints.
use Rattle.std.proofs.Common.{◌≡◌, ℕ, ◌+◌, ◌≤◌, Bool, true, ◌&&◌, not, List, length, map, take, sym, ap, subst, ◌∙◌, arith, IsTrue}
use Rattle.std.specs.Prelude.{◌≤ℤ◌, ◌<ℤ◌, ◌^◌, ℤ, pos, neg_ℤ, int_lt, ◌||◌}
use Rattle.std.specs.List.{list_all}
use Rattle.std.proofs.lemmas.Int.{ints}
use Rattle.std.proofs.lemmas.List.{take_all}
use Rattle.bool_circuit.specs.declared.gate.Gate.{Gate}
use Rattle.bool_circuit.specs.declared.gate.Wire.{Wire}
use Rattle.bool_circuit.specs.Circuit.{wire_value, wire_values, IsWireOf, Extends}
use Rattle.bool_circuit.proofs.Extending.{wires_stay, wire_values_stay}
use Rattle.canonical_encoder.specs.Slots.{are_canonical, canonical_cost}
use Rattle.clf_tree.specs.declared.core_expr.CoreModel.{CoreModel}
use Rattle.clf_tree.specs.declared.core_expr.CoreExpr.{CoreExpr}
use Rattle.clf_tree.specs.declared.instance.Entry.{Entry}
use Rattle.clf_tree.specs.declared.model.Clafer.{Clafer}
use Rattle.clf_tree.specs.declared.model.Model.{Model}
use Rattle.clf_tree.specs.declared.scopes.Scopes.{Scopes}
use Rattle.clf_tree.specs.CoreMeaning.{truths_in}
use Rattle.clf_tree.specs.CoreSoundness.{is_instance}
use Rattle.clf_tree.specs.Named.{each, contains_itself}
use Rattle.clf_tree.specs.Nodes.{is_ordered, is_tree, is_within}
use Rattle.clf_tree.specs.Satisfies.{holds, laws_of}
use Rattle.clf_tree.specs.Shape.{has_shape}
use Rattle.model_reader.specs.Ranges.{has_range}
use Rattle.scope_table.specs.Fitting.{Fit}
use Rattle.set_bits.specs.declared.layout.Layout.{Layout}
use Rattle.set_bits.specs.Fitting.{Fits, IsRead, size}
use Rattle.shape_encoder.specs.Reading.{IsLaid}
use Rattle.shown_instance.specs.Shaped.{is_shaped, ShowsShaped}
use Rattle.shown_instance.specs.Shown.{shown}
use Rattle.instance_encoder.specs.Shaping.{shape_cost}
use Rattle.question_space.specs.Encoding.{IsArranged, IsPlaced, IsWired, IsStructured, TellRules, all_hold}
use Rattle.question_space.specs.Wiring.{AreRulesSoFar, IsConjunctionSoFar, IsLowered, truths_cost, meanings}
use Rattle.question_space.proofs.Inputs.{inputs_are}
use Rattle.question_space.proofs.Known.{scopes_are_empty}
use Rattle.question_space.proofs.Shaped.{Laws, four_instance}

pub take_all_of : {A : Type 0} (xs : List A) → take (length xs) xs ≡ xs
take_all_of xs = take_all (length xs) xs (omega arith)

-- 64 bits hold the range
pub range_low : (scopes : Scopes) → IsTrue (has_range scopes) → neg_ℤ (pos (2 ^ 63)) ≤ℤ scopes.low
range_low scopes range = by scopes.low scopes.high range
  where
    by : (low high : ℤ) → not (int_lt high low || int_lt low (neg_ℤ (pos 32768)) || int_lt (pos 32767) high) ≡ true
        → neg_ℤ (pos (2 ^ 63)) ≤ℤ low
    by low high h = grind (arith, ints)

pub range_high : (scopes : Scopes) → IsTrue (has_range scopes) → scopes.high <ℤ pos (2 ^ 63)
range_high scopes range = by scopes.low scopes.high range
  where
    by : (low high : ℤ) → not (int_lt high low || int_lt low (neg_ℤ (pos 32768)) || int_lt (pos 32767) high) ≡ true → high <ℤ pos (2 ^ 63)
    by low high h = grind (arith, ints)

-- the wire of the structure over a layout that is there
pub framed_is : (model : Model) (scopes : Scopes) (cs : List Clafer) (layout : Layout) (before after : List Gate) (structure : Wire)
    → cs ≡ model.clafers → IsPlaced model scopes layout → IsRead before (size layout) → length before ≡ size layout
    → Extends before after (shape_cost cs scopes layout)
    → ((old new : List Gate) (n inputs : ℕ) → Extends old new n → IsRead old inputs → IsRead new inputs)
    → IsWireOf after structure → ((bits : List Bool) → wire_value after structure bits ≡ is_shaped cs scopes layout bits)
    → IsStructured model scopes layout after structure
framed_is model scopes cs layout before after structure same placed reads count grown stays known value = record {
  placed = placed;
  reads = stays before after (shape_cost cs scopes layout) (size layout) grown reads;
  inputs = grown.same_inputs ∙ inputs_are before (size layout) reads.count count;
  structure_in = known;
  structure_is = λ bits. value bits ∙ ap (λ (xs : List Clafer). is_shaped xs scopes layout bits) same;
  few =
      let cost : shape_cost cs scopes layout ≡ shape_cost model.clafers scopes layout =
      ap (λ (xs : List Clafer). shape_cost xs scopes layout) same in
      omega (arith, cost, grown.at_most, count);
}

-- the layout and the wire of the structure
pub structured_is : (model : Model) (scopes : Scopes) (cs : List Clafer) (layout : Layout) (before after : List Gate) (structure : Wire)
    → cs ≡ model.clafers → IsTrue (has_range scopes) → Fit model.clafers scopes.of
    → IsTrue (each model.clafers (λ c. not (contains_itself model.clafers c)))
    → Fits cs scopes layout → IsRead before (size layout) → length before ≡ size layout → Extends before after (shape_cost cs scopes layout)
    → ((old new : List Gate) (n inputs : ℕ) → Extends old new n → IsRead old inputs → IsRead new inputs)
    → IsWireOf after structure → ((bits : List Bool) → wire_value after structure bits ≡ is_shaped cs scopes layout bits)
    → IsStructured model scopes layout after structure
structured_is model scopes cs layout before after structure same range fit acyclic fits reads count grown stays known value =
    let placed : IsPlaced model scopes layout = record {
      fits = subst (λ (xs : List Clafer). Fits xs scopes layout) same fits;
      acyclic = acyclic;
      empty = scopes_are_empty model.clafers scopes fit;
      low = range_low scopes range;
      high = range_high scopes range;
    } in
    framed_is model scopes cs layout before after structure same placed reads count grown stays known value

-- the wire of the structure where it is canonical
pub arranged_is : (model : Model) (scopes : Scopes) (cs : List Clafer) (layout : Layout) (before after : List Gate)
    (structure arranged : Wire)
    → cs ≡ model.clafers → IsStructured model scopes layout before structure → Extends before after (canonical_cost layout)
    → ((old new : List Gate) (n inputs : ℕ) → Extends old new n → IsRead old inputs → IsRead new inputs)
    → IsWireOf after arranged → ((bits : List Bool) → wire_value after arranged bits ≡
    (wire_value before structure bits && are_canonical cs layout bits))
    → IsArranged model scopes layout after arranged
arranged_is model scopes cs layout before after structure arranged same start grown stays known value = record {
  placed = start.placed;
  reads = stays before after (canonical_cost layout) (size layout) grown start.reads;
  inputs = grown.same_inputs ∙ start.inputs;
  structure_in = known;
  structure_is = λ bits.
      value bits ∙ ap (λ (xs : List Clafer). wire_value before structure bits && are_canonical xs layout bits) same
      ∙ ap (λ b. b && are_canonical model.clafers layout bits) (start.structure_is bits);
  few = omega (arith, start.few, grown.at_most);
}

-- at shaped bits the wires of the truths tell which constraints hold
rules_tell : (known : Laws) (model : Model) (scopes : Scopes) (core_model : CoreModel) (layout : Layout) (old new : List Gate)
    (rules : List Wire)
    → IsPlaced model scopes layout → IsLowered model scopes core_model
    → AreRulesSoFar core_model.clafers scopes layout old core_model.truths (length core_model.truths) new rules
    → TellRules model scopes layout new rules
rules_tell known model scopes core_model layout old new rules placed lowered are bits count shaped =
    met ((known.shaped model.clafers scopes layout bits placed.fits placed.empty placed.acyclic count).0 shaped)
  where
    met : ShowsShaped model.clafers scopes layout bits → wire_values new rules bits ≡ map (holds model.clafers (shown layout bits))
        (laws_of model)
    met s =
        let told = known.alone model.clafers scopes layout bits s.entries placed.fits s.shows in
        let there : ShowsShaped core_model.clafers scopes layout bits =
        subst (λ (xs : List Clafer). ShowsShaped xs scopes layout bits) (sym lowered.same) s in
        let ok : is_instance model.clafers scopes s.entries ≡ true = four_instance (is_ordered s.entries)
        (is_within model.clafers scopes s.entries) (is_tree model.clafers s.entries)
        (has_shape model.clafers scopes s.entries) s.shows.ordered s.shows.within s.tree s.shape in
        are.tell bits there ∙ ap (λ (xs : List CoreExpr). meanings xs (shown layout bits)) (take_all_of core_model.truths)
        ∙ ap (truths_in core_model) (sym told) ∙ lowered.meaning_is s.entries ok
        ∙ ap (λ (es : List Entry). map (holds model.clafers es) (laws_of model)) told

-- there is room for the conjunction
pub conjunction_room : (model : Model) (scopes : Scopes) (weight : ℕ) (core_model : CoreModel) (layout : Layout)
    (first second : List Gate) (structure : Wire) (rules given : List Wire)
    → IsArranged model scopes layout first structure → AreRulesSoFar core_model.clafers scopes layout first core_model.truths
    (length core_model.truths) second rules
    → size layout + shape_cost model.clafers scopes layout + canonical_cost layout +
    (truths_cost scopes core_model.truths + length core_model.truths) ≤ weight → weight ≤ 8000000 → given ≡ rules
    → length second + length given ≤ 268435456
conjunction_room model scopes weight core_model layout first second structure rules given start are light small same =
    let cost : truths_cost scopes (take (length core_model.truths) core_model.truths) ≡ truths_cost scopes core_model.truths =
    ap (truths_cost scopes) (take_all_of core_model.truths) in
    let count : length given ≡ length core_model.truths = ap length same ∙ are.count in
    omega (arith, start.few, are.extends.at_most, cost, count, light, small)

-- structure, constraints and their conjunction
pub wired_is : (known : Laws) (model : Model) (scopes : Scopes) (weight : ℕ) (core_model : CoreModel) (layout : Layout)
    (first second last : List Gate) (structure : Wire) (rules : List Wire) (whole : Wire)
    → ((clafers : List Clafer) (sc : Scopes) (l : Layout) (gates : List Gate) → Fits clafers sc l → IsRead gates (size l) → IsLaid gates l)
    → ((old new : List Gate) (n inputs : ℕ) → Extends old new n → IsRead old inputs → IsRead new inputs)
    → IsLowered model scopes core_model → length core_model.truths ≡ length model.rules → IsArranged model scopes layout first structure
    → AreRulesSoFar core_model.clafers scopes layout first core_model.truths (length core_model.truths) second rules
    → IsConjunctionSoFar second structure rules (length rules) last whole
    → size layout + shape_cost model.clafers scopes layout + canonical_cost layout +
    (truths_cost scopes core_model.truths + length core_model.truths) ≤ weight
    → IsWired model scopes weight layout last structure rules whole
wired_is known model scopes weight core_model layout first second last structure rules whole laid stays lowered each_one start are conj
    light =
    let n : ℕ = length rules in
    let cost : ℕ = truths_cost scopes (take (length core_model.truths) core_model.truths) in
    let all : take (length core_model.truths) core_model.truths ≡ core_model.truths = take_all_of core_model.truths in
    let known_second : IsWireOf second structure = omega (arith, start.structure_in, are.extends.at_least) in
    let reads_last : IsRead last (size layout) = stays second last n (size layout) conj.extends
    (stays first second cost (size layout) are.extends start.reads) in
    let own : (bits : List Bool) → wire_value last structure bits ≡ wire_value first structure bits =
    λ bits. conj.extends.keeps structure known_second bits ∙ are.extends.keeps structure start.structure_in bits in
    let others : (bits : List Bool) → wire_values last rules bits ≡ wire_values second rules bits =
    λ bits. wire_values_stay second last n rules bits conj.extends are.known in
    let cost_is : cost ≡ truths_cost scopes core_model.truths = ap (truths_cost scopes) all in
    record {
      wires = record {
        placed = start.placed;
        laid = laid model.clafers scopes layout last start.placed.fits reads_last;
        inputs = conj.extends.same_inputs ∙ are.extends.same_inputs ∙ start.inputs;
        structure_in = omega (arith, known_second, conj.extends.at_least);
        rules_in = wires_stay second last n rules conj.extends are.known;
        count = are.count ∙ each_one;
        structure_is = λ bits. own bits ∙ start.structure_is bits;
        rules_are = λ bits count shaped. others bits ∙ rules_tell known model scopes core_model layout first second rules start.placed
            lowered are bits count shaped;
      };
      whole_in = conj.known;
      whole_is = λ bits.
          conj.value bits ∙ ap (λ (ws : List Wire). all_hold second structure ws bits) (take_all_of rules)
          ∙ ap (λ b. b && list_all (λ x. x) (wire_values second rules bits)) (sym (conj.extends.keeps structure known_second bits))
          ∙ ap (λ bs. wire_value last structure bits && list_all (λ x. x) bs) (sym (others bits));
      few = omega (arith, start.few, are.extends.at_most, conj.extends.at_most, cost_is, are.count, light);
    }
