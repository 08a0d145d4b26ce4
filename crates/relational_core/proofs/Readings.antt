-- The implied readings of sets and choices.
use Rattle.std.proofs.Common.{◌≡◌, ℕ, Bool, true, false, cond, List, [], ◌∷◌, length, Option, Some, None, refl, ap, sym, ◌∙◌, arith}
use Rattle.std.specs.Prelude.{nat_le}
use Rattle.std.specs.Option.{option_map, option_and_then}
use Rattle.std.specs.Ordering.{int_eq}
use Rattle.std.proofs.Math.IntN.{+ℤ_idr}
use Rattle.std.proofs.lemmas.Bool.{true≢false}
use Rattle.std.proofs.lemmas.Grind.{common_steps}
use Rattle.clf_tree.specs.declared.model.Clafer.{Clafer}
use Rattle.clf_tree.specs.declared.scopes.Scopes.{Scopes}
use Rattle.clf_tree.specs.declared.bounds.Bounds.{Bounds}
use Rattle.clf_tree.specs.declared.instance.Node.{Node}
use Rattle.clf_tree.specs.declared.instance.Entry.{Entry}
use Rattle.clf_tree.specs.declared.kind.Kind.{Kind}
use Rattle.clf_tree.specs.declared.kind.Kind.TheVariants as kinds
use Rattle.clf_tree.specs.declared.kind.Reading.{Reading}
use Rattle.clf_tree.specs.declared.kind.Reading.TheVariants.{ByValues, ByNodes}
use Rattle.clf_tree.specs.Nodes.{same_node}
use Rattle.clf_tree.specs.Kinds.{branch_kind}
use Rattle.clf_tree.specs.Typed.{fits_truth, fits_number, fits_nodes, fit_choice, fit_reading}
use Rattle.clf_tree.specs.Meaning.{Value, Truth, Integer, Nodes, nodes, is_true, number, total, integers, targets, same_set, all_in, equal, taken_as}
use Rattle.clf_tree.specs.Meaning as source
use Rattle.clf_tree.specs.Core as c
use Rattle.clf_tree.specs.Core.{Core}
use Rattle.clf_tree.specs.CoreMeaning.{meaning, truth_in, integer_in}
use Rattle.relational_core.specs.Lowered.{as_truth, as_number, through, dref, same, part, choice}
use Rattle.relational_core.proofs.Passing.{both, and_parts}
use Rattle.relational_core.proofs.Sorts.{has_sort}

module _ (clafers : List Clafer) (scopes : Scopes) (entries : List Entry) (bound : List Node) where
  -- what a relational expression means
  abbrev pub means : Core → Value
  means a = meaning entries a bound

  some-nodes : (ns : List Node) → nat_le 1 (length ns) ≡ is_true (Nodes ns)
  some-nodes [] = refl
  some-nodes (n ∷ ns) = grind (arith, common_steps)

  -- nodes as a truth value
  pub truth-reading : (k : Option Kind) (a : Core) (v : Value) → means a ≡ v → has_sort k v ≡ true → fits_truth k ≡ true → means (as_truth k a) ≡ Truth (is_true v)
  truth-reading None a v e h f = absurd (true≢false (sym f))
  truth-reading (Some kinds.Integer) a v e h f = absurd (true≢false (sym f))
  truth-reading (Some (kinds.Numbers ks)) a v e h f = absurd (true≢false (sym f))
  truth-reading (Some kinds.Truth) a (Truth b) e h f = e
  truth-reading (Some kinds.Truth) a (Integer z) e h f = absurd (true≢false (sym h))
  truth-reading (Some kinds.Truth) a (Nodes ns) e h f = absurd (true≢false (sym h))
  truth-reading (Some (kinds.Nodes ks)) a (Truth b) e h f = absurd (true≢false (sym h))
  truth-reading (Some (kinds.Nodes ks)) a (Integer z) e h f = absurd (true≢false (sym h))
  truth-reading (Some (kinds.Nodes ks)) a (Nodes ns) e h f = ap (λ v. Truth (nat_le 1 (length (nodes v)))) e ∙ ap Truth (some-nodes ns)

  -- nodes as the sum of their integers
  pub number-reading : (k : Option Kind) (z : Bounds) (a : Core) (v : Value) → means a ≡ v → has_sort k v ≡ true → fits_number clafers k ≡ true → means (as_number k z a) ≡ Integer (number clafers entries v)
  number-reading None z a v e h f = absurd (true≢false (sym f))
  number-reading (Some kinds.Truth) z a v e h f = absurd (true≢false (sym f))
  number-reading (Some kinds.Integer) z a (Integer n) e h f = e ∙ ap Integer (sym (+ℤ_idr n))
  number-reading (Some kinds.Integer) z a (Truth b) e h f = absurd (true≢false (sym h))
  number-reading (Some kinds.Integer) z a (Nodes ns) e h f = absurd (true≢false (sym h))
  number-reading (Some (kinds.Numbers ks)) z a (Nodes ns) e h f = ap (λ v. Integer (total (integers clafers entries (Nodes (nodes v))))) e
  number-reading (Some (kinds.Numbers ks)) z a (Truth b) e h f = absurd (true≢false (sym h))
  number-reading (Some (kinds.Numbers ks)) z a (Integer n) e h f = absurd (true≢false (sym h))
  number-reading (Some (kinds.Nodes ks)) z a (Nodes ns) e h f = ap (λ v. Integer (total (integers clafers entries (Nodes (nodes v))))) e
  number-reading (Some (kinds.Nodes ks)) z a (Truth b) e h f = absurd (true≢false (sym h))
  number-reading (Some (kinds.Nodes ks)) z a (Integer n) e h f = absurd (true≢false (sym h))

  -- a side that is followed, or a step that does
  pub through-reading : (follow : Bool) (a : Core) (v : Value) → means a ≡ v → nodes (means (through clafers scopes follow a)) ≡ source.through clafers entries follow (nodes v)
  through-reading true a v e = ap (λ v. targets clafers entries (nodes v)) e
  through-reading false a v e = ap nodes e

  -- a `dref`
  pub dref-reading : (k l : Option Kind) (a : Core) (v : Value) → means a ≡ v → has_sort k v ≡ true → fits_nodes k ≡ true → means (dref clafers scopes l a) ≡ Nodes (source.dref clafers entries l (nodes v))
  dref-reading (Some (kinds.Nodes ks)) (Some (kinds.Numbers ls)) a (Nodes ns) e h f = e
  dref-reading (Some (kinds.Nodes ks)) (Some (kinds.Numbers ls)) a (Truth b) e h f = absurd (true≢false (sym h))
  dref-reading (Some (kinds.Nodes ks)) (Some (kinds.Numbers ls)) a (Integer z) e h f = absurd (true≢false (sym h))
  dref-reading None (Some (kinds.Numbers ls)) a v e h f = absurd (true≢false (sym f))
  dref-reading (Some kinds.Truth) (Some (kinds.Numbers ls)) a v e h f = absurd (true≢false (sym f))
  dref-reading (Some kinds.Integer) (Some (kinds.Numbers ls)) a v e h f = absurd (true≢false (sym f))
  dref-reading (Some (kinds.Numbers ks)) (Some (kinds.Numbers ls)) a v e h f = absurd (true≢false (sym f))
  dref-reading k None a v e h f = ap (λ v. Nodes (targets clafers entries (nodes v))) e
  dref-reading k (Some kinds.Truth) a v e h f = ap (λ v. Nodes (targets clafers entries (nodes v))) e
  dref-reading k (Some kinds.Integer) a v e h f = ap (λ v. Nodes (targets clafers entries (nodes v))) e
  dref-reading k (Some (kinds.Nodes ls)) a v e h f = ap (λ v. Nodes (targets clafers entries (nodes v))) e

  -- two sides, by their values or by their nodes
  pub equal-reading : (r : Option Reading) (k l : Option Kind) (a b : Core) (u v : Value) → means a ≡ u → means b ≡ v → fit_reading clafers r k l ≡ true → means (same clafers scopes r a b) ≡ Truth (equal clafers entries r u v)
  equal-reading None k l a b u v d e h = absurd (true≢false (sym h))
  equal-reading (Some ByValues) k l a b u v d e h = both (λ u v. Truth (same_set int_eq (integers clafers entries u) (integers clafers entries v))) d e
  equal-reading (Some (ByNodes left right)) k l a b u v d e h =
      both (λ xs ys. Truth (same_set same_node xs ys)) (through-reading left a u d) (through-reading right b v e)

  pub part-reading : (r : Option Reading) (k l : Option Kind) (a b : Core) (u v : Value) → means a ≡ u → means b ≡ v → fit_reading clafers r k l ≡ true → means (part clafers scopes r a b) ≡ Truth (source.part clafers entries r u v)
  part-reading None k l a b u v d e h = absurd (true≢false (sym h))
  part-reading (Some ByValues) k l a b u v d e h = both (λ u v. Truth (all_in int_eq (integers clafers entries u) (integers clafers entries v))) d e
  part-reading (Some (ByNodes left right)) k l a b u v d e h =
      both (λ xs ys. Truth (all_in same_node xs ys)) (through-reading left a u d) (through-reading right b v e)

  -- a choice, of the sort that its kind has
  pub is-nodes : (k : Option Kind) (v : Value) → has_sort k v ≡ true → fits_nodes k ≡ true → Nodes (nodes v) ≡ v
  is-nodes None v h f = absurd (true≢false (sym f))
  is-nodes (Some kinds.Truth) v h f = absurd (true≢false (sym f))
  is-nodes (Some kinds.Integer) v h f = absurd (true≢false (sym f))
  is-nodes (Some (kinds.Numbers ks)) v h f = absurd (true≢false (sym f))
  is-nodes (Some (kinds.Nodes ks)) (Truth b) h f = absurd (true≢false (sym h))
  is-nodes (Some (kinds.Nodes ks)) (Integer z) h f = absurd (true≢false (sym h))
  is-nodes (Some (kinds.Nodes ks)) (Nodes ns) h f = refl

  choose-truth : (p : Bool) (t a b : Core) (u v : Value) → means t ≡ Truth p → means a ≡ Truth (is_true u) → means b ≡ Truth (is_true v) → means (c.ChooseTruth t a b) ≡ Truth (is_true (cond p u v))
  choose-truth true t a b u v h d e = ap (λ x. Truth (cond (truth_in x) (truth_in (means a)) (truth_in (means b)))) h ∙ ap (λ x. Truth (truth_in x)) d
  choose-truth false t a b u v h d e = ap (λ x. Truth (cond (truth_in x) (truth_in (means a)) (truth_in (means b)))) h ∙ ap (λ x. Truth (truth_in x)) e

  choose-number : (p : Bool) (w : ℕ) (t a b : Core) (u v : Value) → means t ≡ Truth p → means a ≡ Integer (number clafers entries u) → means b ≡ Integer (number clafers entries v)
      → means (c.ChooseNumber w t a b) ≡ Integer (number clafers entries (cond p u v))
  choose-number true w t a b u v h d e = ap (λ x. Integer (cond (truth_in x) (integer_in (means a)) (integer_in (means b)))) h ∙ ap (λ x. Integer (integer_in x)) d
  choose-number false w t a b u v h d e = ap (λ x. Integer (cond (truth_in x) (integer_in (means a)) (integer_in (means b)))) h ∙ ap (λ x. Integer (integer_in x)) e

  choose-nodes : (p : Bool) (ks : List ℕ) (t a b : Core) (u v : Value) → means t ≡ Truth p → means a ≡ u → means b ≡ v → Nodes (nodes u) ≡ u → Nodes (nodes v) ≡ v
      → means (c.ChooseNodes ks t a b) ≡ cond p u v
  choose-nodes true ks t a b u v h d e m n = ap (λ x. Nodes (cond (truth_in x) (nodes (means a)) (nodes (means b)))) h ∙ ap (λ x. Nodes (nodes x)) d ∙ m
  choose-nodes false ks t a b u v h d e m n = ap (λ x. Nodes (cond (truth_in x) (nodes (means a)) (nodes (means b)))) h ∙ ap (λ x. Nodes (nodes x)) e ∙ n

  abbrev kind_of_choice : Option Kind → Option Kind → Option Kind
  kind_of_choice k l = option_and_then (λ x. option_map (branch_kind x) l) k

  as-truth : (k l : Option Kind) (p : Bool) (t a b : Core) (u v : Value) → means t ≡ Truth p → means a ≡ u → means b ≡ v → has_sort k u ≡ true → has_sort l v ≡ true
      → fit_choice clafers (Some kinds.Truth) k l ≡ true → means (c.ChooseTruth t (as_truth k a) (as_truth l b)) ≡ Truth (is_true (cond p u v))
  as-truth k l p t a b u v h d e m n f =
      let fit = and_parts (fits_truth k) (fits_truth l) f in
      choose-truth p t (as_truth k a) (as_truth l b) u v h (truth-reading k a u d m fit.0) (truth-reading l b v e n fit.1)

  as-number : (k l : Option Kind) (z x y : Bounds) (p : Bool) (t a b : Core) (u v : Value) → means t ≡ Truth p → means a ≡ u → means b ≡ v → has_sort k u ≡ true → has_sort l v ≡ true
      → fit_choice clafers (Some kinds.Integer) k l ≡ true → means (choice clafers scopes (Some kinds.Integer) z k l x y t a b) ≡ Integer (number clafers entries (cond p u v))
  as-number k l z x y p t a b u v h d e m n f =
      let fit = and_parts (fits_number clafers k) (fits_number clafers l) f in
      choose-number p 0 t (as_number k x a) (as_number l y b) u v h (number-reading k x a u d m fit.0) (number-reading l y b v e n fit.1)

  pub choice-reading : (k l : Option Kind) (z x y : Bounds) (p : Bool) (t a b : Core) (u v : Value) → means t ≡ Truth p → means a ≡ u → means b ≡ v → has_sort k u ≡ true → has_sort l v ≡ true
      → fit_choice clafers (kind_of_choice k l) k l ≡ true → means (choice clafers scopes (kind_of_choice k l) z k l x y t a b) ≡ taken_as clafers entries (kind_of_choice k l) (cond p u v)
  choice-reading None l z x y p t a b u v h d e m n f = absurd (true≢false (sym f))
  choice-reading (Some j) None z x y p t a b u v h d e m n f = absurd (true≢false (sym f))
  choice-reading (Some kinds.Truth) (Some j) z x y p t a b u v h d e m n f = as-truth (Some kinds.Truth) (Some j) p t a b u v h d e m n f
  choice-reading (Some kinds.Integer) (Some kinds.Truth) z x y p t a b u v h d e m n f = as-truth (Some kinds.Integer) (Some kinds.Truth) p t a b u v h d e m n f
  choice-reading (Some kinds.Integer) (Some kinds.Integer) z x y p t a b u v h d e m n f = as-number (Some kinds.Integer) (Some kinds.Integer) z x y p t a b u v h d e m n f
  choice-reading (Some kinds.Integer) (Some (kinds.Nodes ls)) z x y p t a b u v h d e m n f = as-number (Some kinds.Integer) (Some (kinds.Nodes ls)) z x y p t a b u v h d e m n f
  choice-reading (Some kinds.Integer) (Some (kinds.Numbers ls)) z x y p t a b u v h d e m n f = as-number (Some kinds.Integer) (Some (kinds.Numbers ls)) z x y p t a b u v h d e m n f
  choice-reading (Some (kinds.Numbers ks)) (Some kinds.Truth) z x y p t a b u v h d e m n f = as-truth (Some (kinds.Numbers ks)) (Some kinds.Truth) p t a b u v h d e m n f
  choice-reading (Some (kinds.Numbers ks)) (Some kinds.Integer) z x y p t a b u v h d e m n f = as-number (Some (kinds.Numbers ks)) (Some kinds.Integer) z x y p t a b u v h d e m n f
  choice-reading (Some (kinds.Numbers ks)) (Some (kinds.Nodes ls)) z x y p t a b u v h d e m n f = as-number (Some (kinds.Numbers ks)) (Some (kinds.Nodes ls)) z x y p t a b u v h d e m n f
  choice-reading (Some (kinds.Numbers ks)) (Some (kinds.Numbers ls)) z x y p t a b u v h d e m n f = as-number (Some (kinds.Numbers ks)) (Some (kinds.Numbers ls)) z x y p t a b u v h d e m n f
  choice-reading (Some (kinds.Nodes ks)) (Some kinds.Truth) z x y p t a b u v h d e m n f = as-truth (Some (kinds.Nodes ks)) (Some kinds.Truth) p t a b u v h d e m n f
  choice-reading (Some (kinds.Nodes ks)) (Some kinds.Integer) z x y p t a b u v h d e m n f = as-number (Some (kinds.Nodes ks)) (Some kinds.Integer) z x y p t a b u v h d e m n f
  choice-reading (Some (kinds.Nodes ks)) (Some (kinds.Numbers ls)) z x y p t a b u v h d e m n f = as-number (Some (kinds.Nodes ks)) (Some (kinds.Numbers ls)) z x y p t a b u v h d e m n f
  choice-reading (Some (kinds.Nodes ks)) (Some (kinds.Nodes ls)) z x y p t a b u v h d e m n f =
      choose-nodes p [] t a b u v h d e (is-nodes (Some (kinds.Nodes ks)) u m refl) (is-nodes (Some (kinds.Nodes ls)) v n refl)
