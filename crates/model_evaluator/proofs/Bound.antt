-- The situation within a quantifier.
use Rattle.std.proofs.Common.{◌≡◌, ℕ, zero, suc, Bool, true, false, ◌&&◌, ◌||◌, List, [], ◌∷◌, ◌++◌, length, reverse, replicate, Option, Some, None, refl, ap, sym, subst, ◌∙◌, append_assoc, append-nil, arith, IsTrue}
use Rattle.std.specs.Prelude.{slice_get}
use Rattle.std.specs.List.{list_all}
use Rattle.std.proofs.lemmas.Grind.{common_steps}
use Rattle.std.proofs.lemmas.Bool.{true≢false}
use Rattle.std.proofs.lemmas.List.{reverse-append}
use Rattle.clf_tree.specs.declared.model.Clafer.{Clafer}
use Rattle.clf_tree.specs.declared.instance.Node.{Node}
use Rattle.clf_tree.specs.declared.instance.Entry.{Entry}
use Rattle.clf_tree.specs.declared.kind.Kind.{Kind}
use Rattle.clf_tree.specs.declared.kind.Kind.TheVariants as kinds
use Rattle.clf_tree.specs.Lists.{from_end}
use Rattle.clf_tree.specs.Hierarchy.{is_one_of}
use Rattle.clf_tree.specs.Nodes.{same_node, has_node, nodes_of}
use Rattle.clf_tree.specs.Kinds.{clafers_of}
use Rattle.clf_tree.specs.Typed.{fits_nodes}
use Rattle.clf_tree.specs.Meaning as meaning
use Rattle.clf_tree.specs.Meaning.{Value, Situation, nodes, bind}
use Rattle.clf_tree.specs.IntervalsHold.{StandsFor, IsSituation}
use Rattle.clf_tree.specs.KindsHold.{IsSetOf, IsOfKind}
use Rattle.model_evaluator.proofs.BooleanTests.{and_parts, and_all, or_left, or_right}

some_same : {X : Type 0} (a b : X) → Some a ≡ Some b → a ≡ b
some_same a b h = cc

module _ (clafers : List Clafer) (entries : List Entry) where
  -- the test of it
  abbrev pub stands : List ℕ → Node → Bool
  stands ks n = has_node (nodes_of entries) n && is_one_of clafers ks n.clafer

  -- the same `this`, with so many kinds and nodes of variables
  abbrev pub place : Situation → List (List ℕ) → List Node → Situation
  place s kss ns = record { within = record { this = s.within.this; bound = kss }; this = s.this; bound = ns }

  one_more : (s : Situation) (ks : List ℕ) (n : Node) (kss : List (List ℕ)) (ns : List Node) → stands ks n ≡ true
      → IsSituation clafers entries (place s kss ns) → IsSituation clafers entries (place s (kss ++ ks ∷ []) (ns ++ n ∷ []))
  one_more s ks n kss ns h p = record { this_is = p.this_is; variable_is = variable }
    where
      variable : (i : ℕ) (ls : List ℕ) → from_end (kss ++ ks ∷ []) i ≡ Some ls → (m : Node) × (from_end (ns ++ n ∷ []) i ≡ Some m) × (StandsFor clafers entries ls m)
      variable zero ls e =
          let same = some_same ks ls (sym (ap (λ xs. slice_get xs 0) (reverse-append kss (ks ∷ []))) ∙ e) in
          (n, ap (λ xs. slice_get xs 0) (reverse-append ns (n ∷ [])), subst (λ xs. StandsFor clafers entries xs n) same (and_parts (has_node (nodes_of entries) n) (is_one_of clafers ks n.clafer) h))
      variable (suc i) ls e =
          let f = p.variable_is i ls (sym (ap (λ xs. slice_get xs (suc i)) (reverse-append kss (ks ∷ []))) ∙ e) in
          (f.0, ap (λ xs. slice_get xs (suc i)) (reverse-append ns (n ∷ [])) ∙ f.1, f.2)

  all_more : (s : Situation) (ks : List ℕ) (new : List Node) (kss : List (List ℕ)) (ns : List Node) → list_all (stands ks) new ≡ true
      → IsSituation clafers entries (place s kss ns) → IsSituation clafers entries (place s (kss ++ replicate (length new) ks) (ns ++ new))
  all_more s ks [] kss ns h p =
      subst (λ xs. IsSituation clafers entries (place s xs (ns ++ []))) (sym (append-nil kss)) (subst (λ xs. IsSituation clafers entries (place s kss xs)) (sym (append-nil ns)) p)
  all_more s ks (n ∷ new) kss ns h p =
      let j = and_parts (stands ks n) (list_all (stands ks) new) h in
      subst (λ xs. IsSituation clafers entries (place s xs (ns ++ n ∷ new))) (append_assoc kss (ks ∷ []) (replicate (length new) ks))
      (subst (λ xs. IsSituation clafers entries (place s ((kss ++ ks ∷ []) ++ replicate (length new) ks) xs)) (append_assoc ns (n ∷ []) new)
      (all_more s ks new (kss ++ ks ∷ []) (ns ++ n ∷ []) j.1 (one_more s ks n kss ns j.0 p)))

  pub inside_quantifier : (s : Situation) (ks : List ℕ) (new : List Node) → list_all (stands ks) new ≡ true → IsSituation clafers entries s → IsSituation clafers entries (bind ks new s)
  inside_quantifier s ks new h p = all_more s ks new s.within.bound s.bound h p

  same_self : (n : Node) → same_node n n ≡ true
  same_self n = grind (arith, common_steps)

  each_member : (q : Node → Bool) (ns : List Node) → ((n : Node) → has_node ns n ≡ true → q n ≡ true) → list_all q ns ≡ true
  each_member q [] h = refl
  each_member q (n ∷ ns) h =
      and_all (q n) (list_all q ns) (h n (or_left (same_node n n) (has_node ns n) (same_self n))) (each_member q ns (λ m k. h m (or_right (same_node m n) (has_node ns m) k)))

  -- the nodes of a value of nodes stand for the clafers of its kind
  pub value_stands : (k : Option Kind) (v : Value) → IsOfKind clafers entries k v → fits_nodes k ≡ true → list_all (stands (clafers_of k)) (nodes v) ≡ true
  value_stands (Some (kinds.Nodes ks)) (meaning.Nodes ns) h fits =
      each_member (stands ks) ns (λ n k. let f = h.member n k in and_all (has_node (nodes_of entries) n) (is_one_of clafers ks n.clafer) f.0 f.1)
  value_stands (Some (kinds.Nodes ks)) (meaning.Truth b) h fits = absurd h
  value_stands (Some (kinds.Nodes ks)) (meaning.Integer z) h fits = absurd h
  value_stands (Some (kinds.Numbers ks)) v h fits = absurd (true≢false (sym fits))
  value_stands (Some kinds.Truth) v h fits = absurd (true≢false (sym fits))
  value_stands (Some kinds.Integer) v h fits = absurd (true≢false (sym fits))
  value_stands None v h fits = absurd (true≢false (sym fits))

  -- at top level, and at an instance of a clafer
  pub at_top : IsSituation clafers entries (record { within = record { this = None; bound = [] }; this = None; bound = [] })
  at_top = record { this_is = λ c e. absurd (none_some e); variable_is = λ i ks e. absurd (none_some e) }
    where
      none_some : {X : Type 0} {x : X} → None ≡ Some x → ⊥
      none_some h = cc

  pub at_node : (c : ℕ) (n : Node) → stands (c ∷ []) n ≡ true → IsSituation clafers entries (record { within = record { this = Some c; bound = [] }; this = Some n; bound = [] })
  at_node c n h = record {
    this_is = λ d e. (n, refl, subst (λ x. StandsFor clafers entries (x ∷ []) n) (some_same c d e) (and_parts (has_node (nodes_of entries) n) (is_one_of clafers (c ∷ []) n.clafer) h));
    variable_is = λ i ks e. absurd (none_some e);
  }
    where
      none_some : {X : Type 0} {x : X} → None ≡ Some x → ⊥
      none_some h = cc
