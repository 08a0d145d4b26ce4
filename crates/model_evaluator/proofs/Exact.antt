-- Where the integers of a model are narrow, the code's values are those of the meaning.
use Rattle.std.proofs.Common.{◌≡◌, ℕ, Bool, true, false, not, cond, ◌&&◌, ◌||◌, List, [], ◌∷◌, ◌++◌, length, map, Option, Some, None, refl, ap, sym, subst, ◌∙◌, ℤ, pos, ◌+ℤ◌, ◌-ℤ◌, ◌*ℤ◌, neg_ℤ, arith, IsTrue}
use Rattle.std.specs.Prelude.{◌==◌, is_some, nat_lt, nat_le, int_lt, int_le, if◌then◌else◌}
use Rattle.std.specs.List.{filter, list_all}
use Rattle.std.proofs.lemmas.Grind.{common_steps}
use Rattle.std.proofs.lemmas.Bool.{true≢false}
use Rattle.clf_tree.specs.declared.token.Word.{Word}
use Rattle.clf_tree.specs.declared.model.Clafer.{Clafer}
use Rattle.clf_tree.specs.declared.model.Model.{Model}
use Rattle.clf_tree.specs.declared.model.Rule.{Rule}
use Rattle.clf_tree.specs.declared.model.Goal.{Goal}
use Rattle.clf_tree.specs.declared.instance.Node.{Node}
use Rattle.clf_tree.specs.declared.instance.Entry.{Entry}
use Rattle.clf_tree.specs.declared.scopes.Scopes.{Scopes}
use Rattle.clf_tree.specs.declared.kind.Within.{Within}
use Rattle.clf_tree.specs.declared.kind.Kind.{Kind}
use Rattle.clf_tree.specs.declared.kind.Kind.TheVariants as kinds
use Rattle.clf_tree.specs.Tree as e
use Rattle.clf_tree.specs.Tree.{Tree, tree}
use Rattle.clf_tree.specs.Hierarchy.{is_closed, is_a, is_one_of}
use Rattle.clf_tree.specs.Nodes.{same_node, has_node, nodes_of, is_ordered, is_within, is_tree}
use Rattle.clf_tree.specs.Shape.{has_shape, instances}
use Rattle.clf_tree.specs.Kinds.{kind, clafers_of, bind_kinds, reading_of}
use Rattle.clf_tree.specs.Typed.{is_typed, fits_truth, fits_number, fits_nodes, fits_sum, fit_together, fit_choice, fit_sides, rule_is_typed, goal_is_typed}
use Rattle.clf_tree.specs.Numerics.{Numeric, numeric, inside, is_narrow, all_narrow, is_integer, by_values, and_itself}
use Rattle.clf_tree.specs.Intervals.{clamped, interval}
use Rattle.clf_tree.specs.Meaning.{Value, Truth, Integer, Nodes, Situation, value, is_true, nodes, number, nodes_where, children, through, parents, dref, taken_as, equal, part, tried, quantified, bind}
use Rattle.clf_tree.specs.Satisfies.{Law, laws_of, holds, outside, at_instance, value_outside}
use Rattle.clf_tree.specs.IntervalsHold.{refers_once, IsSituation, IntervalsHold}
use Rattle.clf_tree.specs.KindsHold.{KindsHold}
use Rattle.model_evaluator.specs.Computed.{computed, computed_holds}
use Rattle.model_evaluator.specs.Parts.{stepped, joined, asked}
use Rattle.int_widths.specs.Narrow.{is_narrow_law, is_narrow_goal}
use Rattle.model_evaluator.proofs.BooleanTests.{both, and_parts, and_all, four, three, all_parts, all_agree, filter_all, or_left, or_right}
use Rattle.model_evaluator.proofs.Clamps.{IsSmall, small_in, neg_fits, add_fits, sub_fits, mul_fits}
use Rattle.model_evaluator.proofs.Same.{same_number, same_equal, same_part, same_taken, same_dref, stepped_is, joined_is, asked_is}
use Rattle.model_evaluator.proofs.Bound.{stands, inside_quantifier, value_stands, at_top, at_node}
use Rattle.model_evaluator.proofs.Tuples.{Fits, tried-fit, quantified-agree}

-- an instance within the scopes that is a tree of the right shape, and what kinds and intervals say of it
pub record IsKnown (clafers : List Clafer) (scopes : Scopes) (entries : List Entry) : Type 0 where
  pub closed : IsTrue (is_closed clafers)
  pub once : IsTrue (refers_once clafers)
  pub ordered : IsTrue (is_ordered entries)
  pub within : IsTrue (is_within clafers scopes entries)
  pub trees : IsTrue (is_tree clafers entries)
  pub shape : IsTrue (has_shape clafers scopes entries)
  pub kinds_law : KindsHold
  pub intervals_law : IntervalsHold

module _ (clafers : List Clafer) (scopes : Scopes) (entries : List Entry) (known : IsKnown clafers scopes entries) where
  abbrev pub Same : Tree → Situation → Type 0
  Same t s = computed clafers entries t s ≡ value clafers entries t s

  abbrev pub narrow : Tree → Within → Bool
  narrow t w = list_all is_narrow (inside clafers scopes t w)

  -- an operand of arithmetic
  small : (t : Tree) (s : Situation) → IsSituation clafers entries s → (is_typed clafers t s.within && fits_number clafers (kind clafers t s.within)) ≡ true
      → list_all is_narrow (numeric clafers scopes t s.within ∷ inside clafers scopes t s.within) ≡ true → IsSmall (number clafers entries (value clafers entries t s))
  small t s p f n =
      let h = and_parts (is_typed clafers t s.within) (fits_number clafers (kind clafers t s.within)) f in
      let j = and_parts (is_narrow (numeric clafers scopes t s.within)) (narrow t s.within) n in
      small_in (interval clafers scopes t s.within) (number clafers entries (value clafers entries t s)) j.0
      (known.intervals_law clafers scopes entries t s known.closed known.once known.ordered known.within known.trees known.shape p h.0 h.1 n)

  -- the integer of an operand
  as_number : (v w : Value) → v ≡ w → number [] entries v ≡ number clafers entries w
  as_number v w h = ap (number [] entries) h ∙ same_number clafers entries w

  itself : (b : Bool) (n : Numeric) (ns : List Numeric) → list_all is_narrow (and_itself b n ns) ≡ true → list_all is_narrow ns ≡ true
  itself true n ns h = (and_parts (is_narrow n) (list_all is_narrow ns) h).1
  itself false n ns h = h

  -- two parts as they are
  plain : {Z : Type 0} (f : Value → Value → Z) (a b : Tree) (s : Situation) → narrow a s.within ≡ true → narrow b s.within ≡ true
      → (narrow a s.within ≡ true → Same a s) → (narrow b s.within ≡ true → Same b s)
      → f (computed clafers entries a s) (computed clafers entries b s) ≡ f (value clafers entries a s) (value clafers entries b s)
  plain f a b s n m left right = both f (left n) (right m)

  -- two operands in truth position
  tests : (f : Bool → Bool → Bool) (a b : Tree) (s : Situation)
      → (is_typed clafers a s.within && is_typed clafers b s.within && fits_truth (kind clafers a s.within) && fits_truth (kind clafers b s.within)) ≡ true
      → list_all is_narrow (inside clafers scopes a s.within ++ inside clafers scopes b s.within) ≡ true
      → (is_typed clafers a s.within ≡ true → narrow a s.within ≡ true → Same a s) → (is_typed clafers b s.within ≡ true → narrow b s.within ≡ true → Same b s)
      → Truth (f (is_true (computed clafers entries a s)) (is_true (computed clafers entries b s))) ≡ Truth (f (is_true (value clafers entries a s)) (is_true (value clafers entries b s)))
  tests f a b s t n left right =
      let h = four (is_typed clafers a s.within) (is_typed clafers b s.within) (fits_truth (kind clafers a s.within)) (fits_truth (kind clafers b s.within)) t in
      let j = all_parts is_narrow (inside clafers scopes a s.within) (inside clafers scopes b s.within) n in
      both (λ u v. Truth (f (is_true u) (is_true v))) (left h.0 j.0) (right h.1 j.1)

  -- two operands in integer position
  record Pair (a b : Tree) (s : Situation) : Type 0 where
    left : number [] entries (computed clafers entries a s) ≡ number clafers entries (value clafers entries a s)
    right : number [] entries (computed clafers entries b s) ≡ number clafers entries (value clafers entries b s)
    left_small : IsSmall (number clafers entries (value clafers entries a s))
    right_small : IsSmall (number clafers entries (value clafers entries b s))

  pair : (a b : Tree) (s : Situation) → IsSituation clafers entries s
      → ((is_typed clafers a s.within && fits_number clafers (kind clafers a s.within)) && (is_typed clafers b s.within && fits_number clafers (kind clafers b s.within))) ≡ true
      → list_all is_narrow ((numeric clafers scopes a s.within ∷ inside clafers scopes a s.within) ++ (numeric clafers scopes b s.within ∷ inside clafers scopes b s.within)) ≡ true
      → (is_typed clafers a s.within ≡ true → narrow a s.within ≡ true → Same a s) → (is_typed clafers b s.within ≡ true → narrow b s.within ≡ true → Same b s) → Pair a b s
  pair a b s p t n left right =
      let h = and_parts (is_typed clafers a s.within && fits_number clafers (kind clafers a s.within)) (is_typed clafers b s.within && fits_number clafers (kind clafers b s.within)) t in
      let ha = and_parts (is_typed clafers a s.within) (fits_number clafers (kind clafers a s.within)) h.0 in
      let hb = and_parts (is_typed clafers b s.within) (fits_number clafers (kind clafers b s.within)) h.1 in
      let j = all_parts is_narrow (numeric clafers scopes a s.within ∷ inside clafers scopes a s.within) (numeric clafers scopes b s.within ∷ inside clafers scopes b s.within) n in
      let na = and_parts (is_narrow (numeric clafers scopes a s.within)) (narrow a s.within) j.0 in
      let nb = and_parts (is_narrow (numeric clafers scopes b s.within)) (narrow b s.within) j.1 in
      record {
        left = as_number (computed clafers entries a s) (value clafers entries a s) (left ha.0 na.1);
        right = as_number (computed clafers entries b s) (value clafers entries b s) (right hb.0 nb.1);
        left_small = small a s p h.0 j.0;
        right_small = small b s p h.1 j.1;
      }

  -- the body of a quantifier, at a tuple
  body-same : (body : Tree) (ks : List ℕ) (ns : List Node) (n : ℕ) (s : Situation)
      → is_typed clafers body (bind_kinds ks n s.within) ≡ true → narrow body (bind_kinds ks n s.within) ≡ true
      → (is_typed clafers body (bind_kinds ks (length ns) s.within) ≡ true → narrow body (bind_kinds ks (length ns) s.within) ≡ true → Same body (bind ks ns s))
      → length ns ≡ n
      → is_true (computed clafers entries body (record { within = bind_kinds ks n s.within; this = s.this; bound = s.bound ++ ns })) ≡ is_true (value clafers entries body (bind ks ns s))
  body-same body ks ns n s t m law len =
      subst (λ k. is_true (computed clafers entries body (record { within = bind_kinds ks k s.within; this = s.this; bound = s.bound ++ ns })) ≡ is_true (value clafers entries body (bind ks ns s))) len
      (ap is_true (law (subst (λ k. is_typed clafers body (bind_kinds ks k s.within) ≡ true) (sym len) t) (subst (λ k. narrow body (bind_kinds ks k s.within) ≡ true) (sym len) m)))

  quant-same : (w : Word) (disj : Bool) (n : ℕ) (over body : Tree) (s : Situation) → IsSituation clafers entries s
      → fits_nodes (kind clafers over s.within) ≡ true → Same over s
      → is_typed clafers body (bind_kinds (clafers_of (kind clafers over s.within)) n s.within) ≡ true → narrow body (bind_kinds (clafers_of (kind clafers over s.within)) n s.within) ≡ true
      → ((ns : List Node) → IsSituation clafers entries (bind (clafers_of (kind clafers over s.within)) ns s)
      → is_typed clafers body (bind_kinds (clafers_of (kind clafers over s.within)) (length ns) s.within) ≡ true
      → narrow body (bind_kinds (clafers_of (kind clafers over s.within)) (length ns) s.within) ≡ true → Same body (bind (clafers_of (kind clafers over s.within)) ns s))
      → quantified w (λ ns. is_true (computed clafers entries body (record { within = bind_kinds (clafers_of (kind clafers over s.within)) n s.within; this = s.this; bound = s.bound ++ ns }))) (tried disj n (nodes (computed clafers entries over s)))
      ≡ quantified w (λ ns. is_true (value clafers entries body (bind (clafers_of (kind clafers over s.within)) ns s))) (tried disj n (nodes (value clafers entries over s)))
  quant-same w disj n over body s p fits law t m below =
      let ks = clafers_of (kind clafers over s.within) in
      let all = value_stands clafers entries (kind clafers over s.within) (value clafers entries over s)
      (known.kinds_law clafers scopes entries over s known.closed known.once known.ordered known.within known.trees known.shape p) fits in
      ap (λ v. quantified w (λ ns. is_true (computed clafers entries body (record { within = bind_kinds ks n s.within; this = s.this; bound = s.bound ++ ns }))) (tried disj n (nodes v))) law
      ∙ quantified-agree (Fits (stands clafers entries ks) n) (λ ns. is_true (computed clafers entries body (record { within = bind_kinds ks n s.within; this = s.this; bound = s.bound ++ ns }))) (λ ns. is_true (value clafers entries body (bind ks ns s)))
      (λ ns f. body-same body ks ns n s t m (below ns (inside_quantifier clafers entries s ks ns f.1 p)) f.0) w (tried disj n (nodes (value clafers entries over s)))
      (tried-fit (stands clafers entries ks) disj n (nodes (value clafers entries over s)) all)

  pub law : (t : Tree) (s : Situation) → IsSituation clafers entries s → is_typed clafers t s.within ≡ true → narrow t s.within ≡ true → Same t s
  law (e.Literal _ n) s p t m = refl
  law (e.This _) s p t m = refl
  law (e.Variable _ i) s p t m = refl
  law (e.Clafer _ k) s p t m = refl
  law (e.Name _ _) s p t m = refl
  law (e.Join _ _ _) s p t m = refl
  law (e.Step _ of into follow) s p t m =
      ap (λ v. Nodes (stepped clafers entries into (through clafers entries follow (nodes v)))) (law of s p (and_parts (is_typed clafers of s.within) (fits_nodes (kind clafers of s.within)) t).0 m)
      ∙ ap Nodes (stepped_is clafers entries into (through clafers entries follow (nodes (value clafers entries of s))))
  law (e.Parent at a) s p t m =
      ap (λ v. Nodes (parents clafers entries (nodes v))) (law a s p (three (is_typed clafers a s.within) (fits_nodes (kind clafers a s.within)) (is_some (kind clafers (e.Parent at a) s.within)) t).0 m)
  law (e.Dref at a) s p t m =
      ap (λ v. Nodes (dref [] entries (kind clafers (e.Dref at a) s.within) (nodes v))) (law a s p (three (is_typed clafers a s.within) (fits_nodes (kind clafers a s.within)) (is_some (kind clafers (e.Dref at a) s.within)) t).0 m)
      ∙ ap Nodes (same_dref clafers entries (kind clafers (e.Dref at a) s.within) (nodes (value clafers entries a s)))
  law (e.Union at a b) s p t m =
      let h = four (is_typed clafers a s.within) (is_typed clafers b s.within) (fits_nodes (kind clafers a s.within)) (fits_nodes (kind clafers b s.within)) t in
      let j = all_parts is_narrow (inside clafers scopes a s.within) (inside clafers scopes b s.within) m in
      plain (λ u v. Nodes (joined entries (nodes u) (nodes v))) a b s j.0 j.1 (law a s p h.0) (law b s p h.1)
      ∙ ap Nodes (joined_is clafers entries (nodes (value clafers entries a s)) (nodes (value clafers entries b s)))
  law (e.Minus at a b) s p t m =
      let h = three (is_typed clafers a s.within) (is_typed clafers b s.within) (fit_together clafers (kind clafers a s.within) (kind clafers b s.within)) t in
      let j = all_parts is_narrow (inside clafers scopes a s.within) (inside clafers scopes b s.within) m in
      plain (λ u v. Nodes (filter (λ n. not (has_node (nodes v) n)) (nodes u))) a b s j.0 j.1 (law a s p h.0) (law b s p h.1)
  law (e.Meet at a b) s p t m =
      let h = three (is_typed clafers a s.within) (is_typed clafers b s.within) (fit_together clafers (kind clafers a s.within) (kind clafers b s.within)) t in
      let j = all_parts is_narrow (inside clafers scopes a s.within) (inside clafers scopes b s.within) m in
      plain (λ u v. Nodes (filter (has_node (nodes v)) (nodes u))) a b s j.0 j.1 (law a s p h.0) (law b s p h.1)
  law (e.If at c a b) s p t m =
      let w = s.within in
      let k = kind clafers (e.If at c a b) w in
      let h = four (is_typed clafers c w) (fits_truth (kind clafers c w)) (is_typed clafers a w) (is_typed clafers b w)
      (and_parts (is_typed clafers c w && fits_truth (kind clafers c w) && is_typed clafers a w && is_typed clafers b w) (fit_choice clafers k (kind clafers a w) (kind clafers b w)) t).0 in
      let na = and_itself (is_integer k) (numeric clafers scopes a w) (inside clafers scopes a w) in
      let nb = and_itself (is_integer k) (numeric clafers scopes b w) (inside clafers scopes b w) in
      let i = all_parts is_narrow (inside clafers scopes c w ++ na) nb m in
      let j = all_parts is_narrow (inside clafers scopes c w) na i.0 in
      let test = law c s p h.0 j.0 in
      let left = law a s p h.2 (itself (is_integer k) (numeric clafers scopes a w) (inside clafers scopes a w) j.1) in
      let right = law b s p h.3 (itself (is_integer k) (numeric clafers scopes b w) (inside clafers scopes b w) i.1) in
      ap (λ v. taken_as [] entries k (if is_true v then computed clafers entries a s else computed clafers entries b s)) test
      ∙ both (λ u v. taken_as [] entries k (if is_true (value clafers entries c s) then u else v)) left right
      ∙ same_taken clafers entries k (if is_true (value clafers entries c s) then value clafers entries a s else value clafers entries b s)
  law (e.Not _ a) s p t m = ap (λ v. Truth (not (is_true v))) (law a s p (and_parts (is_typed clafers a s.within) (fits_truth (kind clafers a s.within)) t).0 m)
  law (e.And _ a b) s p t m = tests (λ x y. x && y) a b s t m (law a s p) (law b s p)
  law (e.Or _ a b) s p t m = tests (λ x y. x || y) a b s t m (law a s p) (law b s p)
  law (e.Xor _ a b) s p t m = tests (λ x y. if x then not y else y) a b s t m (law a s p) (law b s p)
  law (e.Implies _ a b) s p t m = tests (λ x y. not x || y) a b s t m (law a s p) (law b s p)
  law (e.Iff _ a b) s p t m = tests (λ x y. if x then y else not y) a b s t m (law a s p) (law b s p)
  law (e.Card _ a) s p t m = ap (λ v. Integer (pos (length (nodes v)))) (law a s p (and_parts (is_typed clafers a s.within) (fits_nodes (kind clafers a s.within)) t).0 m)
  law (e.Sum _ a) s p t m =
      ap Integer (as_number (computed clafers entries a s) (value clafers entries a s) (law a s p (and_parts (is_typed clafers a s.within) (fits_sum clafers (kind clafers a s.within)) t).0 m))
  law (e.Neg _ a) s p t m =
      let same = law a s p (and_parts (is_typed clafers a s.within) (fits_number clafers (kind clafers a s.within)) t).0 (and_parts (is_narrow (numeric clafers scopes a s.within)) (narrow a s.within) m).1 in
      ap (λ z. Integer (clamped (neg_ℤ z))) (as_number (computed clafers entries a s) (value clafers entries a s) same)
      ∙ ap Integer (neg_fits (number clafers entries (value clafers entries a s)) (small a s p t m))
  law (e.Add _ a b) s p t m =
      let q = pair a b s p t m (law a s p) (law b s p) in
      both (λ y z. Integer (clamped (y +ℤ z))) q.left q.right ∙ ap Integer (add_fits (number clafers entries (value clafers entries a s)) (number clafers entries (value clafers entries b s)) q.left_small q.right_small)
  law (e.Sub _ a b) s p t m =
      let q = pair a b s p t m (law a s p) (law b s p) in
      both (λ y z. Integer (clamped (y -ℤ z))) q.left q.right ∙ ap Integer (sub_fits (number clafers entries (value clafers entries a s)) (number clafers entries (value clafers entries b s)) q.left_small q.right_small)
  law (e.Mul _ a b) s p t m =
      let q = pair a b s p t m (law a s p) (law b s p) in
      both (λ y z. Integer (clamped (y *ℤ z))) q.left q.right ∙ ap Integer (mul_fits (number clafers entries (value clafers entries a s)) (number clafers entries (value clafers entries b s)) q.left_small q.right_small)
  law (e.Less _ a b) s p t m = let q = pair a b s p t m (law a s p) (law b s p) in both (λ y z. Truth (int_lt y z)) q.left q.right
  law (e.LessEqual _ a b) s p t m = let q = pair a b s p t m (law a s p) (law b s p) in both (λ y z. Truth (int_le y z)) q.left q.right
  law (e.Greater _ a b) s p t m = let q = pair a b s p t m (law a s p) (law b s p) in both (λ y z. Truth (int_lt z y)) q.left q.right
  law (e.GreaterEqual _ a b) s p t m = let q = pair a b s p t m (law a s p) (law b s p) in both (λ y z. Truth (int_le z y)) q.left q.right
  law (e.Equal _ a b) s p t m =
      let w = s.within in
      let r = reading_of clafers (kind clafers a w) (kind clafers b w) in
      let h = three (is_typed clafers a w) (is_typed clafers b w) (fit_sides clafers (kind clafers a w) (kind clafers b w)) t in
      let j = all_parts is_narrow (and_itself (by_values r) (numeric clafers scopes a w) (inside clafers scopes a w)) (and_itself (by_values r) (numeric clafers scopes b w) (inside clafers scopes b w)) m in
      plain (λ u v. Truth (equal [] entries r u v)) a b s (itself (by_values r) (numeric clafers scopes a w) (inside clafers scopes a w) j.0) (itself (by_values r) (numeric clafers scopes b w) (inside clafers scopes b w) j.1) (law a s p h.0) (law b s p h.1)
      ∙ ap Truth (same_equal clafers entries r (value clafers entries a s) (value clafers entries b s))
  law (e.In _ a b) s p t m =
      let w = s.within in
      let r = reading_of clafers (kind clafers a w) (kind clafers b w) in
      let h = three (is_typed clafers a w) (is_typed clafers b w) (fit_sides clafers (kind clafers a w) (kind clafers b w)) t in
      let j = all_parts is_narrow (and_itself (by_values r) (numeric clafers scopes a w) (inside clafers scopes a w)) (and_itself (by_values r) (numeric clafers scopes b w) (inside clafers scopes b w)) m in
      plain (λ u v. Truth (part [] entries r u v)) a b s (itself (by_values r) (numeric clafers scopes a w) (inside clafers scopes a w) j.0) (itself (by_values r) (numeric clafers scopes b w) (inside clafers scopes b w) j.1) (law a s p h.0) (law b s p h.1)
      ∙ ap Truth (same_part clafers entries r (value clafers entries a s) (value clafers entries b s))
  law (e.Some _ a) s p t m = ap (λ v. Truth (nat_lt 0 (length (nodes v)))) (law a s p (and_parts (is_typed clafers a s.within) (fits_nodes (kind clafers a s.within)) t).0 m)
  law (e.No _ a) s p t m = ap (λ v. Truth (length (nodes v) == 0)) (law a s p (and_parts (is_typed clafers a s.within) (fits_nodes (kind clafers a s.within)) t).0 m)
  law (e.One _ a) s p t m = ap (λ v. Truth (length (nodes v) == 1)) (law a s p (and_parts (is_typed clafers a s.within) (fits_nodes (kind clafers a s.within)) t).0 m)
  law (e.Lone _ a) s p t m = ap (λ v. Truth (nat_le (length (nodes v)) 1)) (law a s p (and_parts (is_typed clafers a s.within) (fits_nodes (kind clafers a s.within)) t).0 m)
  law (e.Quant _ word disj names over body) s p t m =
      let ks = clafers_of (kind clafers over s.within) in
      let inner = bind_kinds ks (length names) s.within in
      let h = four (is_typed clafers over s.within) (fits_nodes (kind clafers over s.within)) (is_typed clafers body inner) (fits_truth (kind clafers body inner)) t in
      let j = all_parts is_narrow (inside clafers scopes over s.within) (inside clafers scopes body inner) m in
      ap Truth
      (asked_is word (λ i ns. is_true (computed clafers entries body (record { within = i; this = s.this; bound = s.bound ++ ns }))) inner (tried disj (length names) (nodes (computed clafers entries over s)))
      ∙ quant-same word disj (length names) over body s p h.1 (law over s p h.0 j.0) h.2 j.1 (λ ns place f n. law body (bind ks ns s) place f n))

  -- the nodes of the entries are nodes of the instance
  there : (x : Entry) (xs : List Entry) → has_node (nodes_of (x ∷ xs)) x.node ≡ true
  there x xs = or_left (same_node x.node x.node) (has_node (nodes_of xs) x.node) (same_self x.node)
    where
      same_self : (n : Node) → same_node n n ≡ true
      same_self n = grind (arith, common_steps)

  all_there : (xs : List Entry) → list_all (λ x. has_node (nodes_of xs) x.node) xs ≡ true
  all_there [] = refl
  all_there (x ∷ xs) =
      and_all (has_node (nodes_of (x ∷ xs)) x.node) (list_all (λ y. has_node (nodes_of (x ∷ xs)) y.node) xs) (there x xs)
      (weaker xs (all_there xs))
    where
      weaker : (ys : List Entry) → list_all (λ y. has_node (nodes_of xs) y.node) ys ≡ true → list_all (λ y. has_node (nodes_of (x ∷ xs)) y.node) ys ≡ true
      weaker [] h = refl
      weaker (y ∷ ys) h =
          let j = and_parts (has_node (nodes_of xs) y.node) (list_all (λ z. has_node (nodes_of xs) z.node) ys) h in
          and_all (has_node (nodes_of (x ∷ xs)) y.node) (list_all (λ z. has_node (nodes_of (x ∷ xs)) z.node) ys) (or_right (same_node y.node x.node) (has_node (nodes_of xs) y.node) j.0) (weaker ys j.1)

  -- a constraint
  pub rule_same : (r : Rule) → rule_is_typed clafers r ≡ true → is_narrow_law clafers scopes (r.context, tree r.body) ≡ true
      → computed_holds clafers entries (r.context, tree r.body) ≡ holds clafers entries (r.context, tree r.body)
  rule_same r t m = pick r.context t m
    where
      pick : (c : Option ℕ) → (is_typed clafers (tree r.body) (record { this = c; bound = [] }) && fits_truth (kind clafers (tree r.body) (record { this = c; bound = [] }))) ≡ true
          → list_all is_narrow (inside clafers scopes (tree r.body) (record { this = c; bound = [] })) ≡ true
          → computed_holds clafers entries (c, tree r.body) ≡ holds clafers entries (c, tree r.body)
      pick None f n =
          ap is_true (law (tree r.body) outside (at_top clafers entries) (and_parts (is_typed clafers (tree r.body) outside.within) (fits_truth (kind clafers (tree r.body) outside.within)) f).0 n)
      pick (Some c) f n =
          let typed = (and_parts (is_typed clafers (tree r.body) (record { this = Some c; bound = [] })) (fits_truth (kind clafers (tree r.body) (record { this = Some c; bound = [] }))) f).0 in
          all_agree (λ x. stands clafers entries (c ∷ []) x.node) (λ x. is_true (computed clafers entries (tree r.body) (at_instance c x.node))) (λ x. is_true (value clafers entries (tree r.body) (at_instance c x.node)))
          (instances clafers entries c)
          (filter_all (λ x. has_node (nodes_of entries) x.node) (λ x. is_a clafers x.node.clafer c) (λ x. stands clafers entries (c ∷ []) x.node) entries (all_there entries)
          (λ x h k. and_all (has_node (nodes_of entries) x.node) (is_one_of clafers (c ∷ []) x.node.clafer) h (or_left (is_a clafers x.node.clafer c) false k)))
          (λ x h. ap is_true (law (tree r.body) (at_instance c x.node) (at_node clafers entries c x.node h) typed n))

  pub rules_same : (rs : List Rule) → list_all (rule_is_typed clafers) rs ≡ true → list_all (is_narrow_law clafers scopes) (map (λ r. (r.context, tree r.body)) rs) ≡ true
      → list_all (λ r. computed_holds clafers entries (r.context, tree r.body)) rs ≡ list_all (holds clafers entries) (map (λ r. (r.context, tree r.body)) rs)
  rules_same [] t m = refl
  rules_same (r ∷ rs) t m =
      let h = and_parts (rule_is_typed clafers r) (list_all (rule_is_typed clafers) rs) t in
      let j = and_parts (is_narrow_law clafers scopes (r.context, tree r.body)) (list_all (is_narrow_law clafers scopes) (map (λ r. (r.context, tree r.body)) rs)) m in
      both (λ a b. a && b) (rule_same r h.0 j.0) (rules_same rs h.1 j.1)

  -- a goal
  pub goal_same : (g : Goal) → goal_is_typed clafers g ≡ true → is_narrow_goal clafers scopes (tree g.body) ≡ true
      → number [] entries (computed clafers entries (tree g.body) outside) ≡ value_outside clafers entries (tree g.body)
  goal_same g t m =
      as_number (computed clafers entries (tree g.body) outside) (value clafers entries (tree g.body) outside)
      (law (tree g.body) outside (at_top clafers entries) (and_parts (is_typed clafers (tree g.body) outside.within) (fits_number clafers (kind clafers (tree g.body) outside.within)) t).0
      (and_parts (is_narrow (numeric clafers scopes (tree g.body) outside.within)) (narrow (tree g.body) outside.within) m).1)

  pub goals_same : (gs : List Goal) → list_all (goal_is_typed clafers) gs ≡ true → list_all (λ g. is_narrow_goal clafers scopes (tree g.body)) gs ≡ true
      → map (λ g. number [] entries (computed clafers entries (tree g.body) outside)) gs ≡ map (λ g. value_outside clafers entries (tree g.body)) gs
  goals_same [] t m = refl
  goals_same (g ∷ gs) t m =
      let h = and_parts (goal_is_typed clafers g) (list_all (goal_is_typed clafers) gs) t in
      let j = and_parts (is_narrow_goal clafers scopes (tree g.body)) (list_all (λ g. is_narrow_goal clafers scopes (tree g.body)) gs) m in
      both (λ z zs. z ∷ zs) (goal_same g h.0 j.0) (goals_same gs h.1 j.1)
