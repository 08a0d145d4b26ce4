-- The children of one node.
use Rattle.std.proofs.Common.{◌≡◌, ℕ, zero, suc, Bool, true, false, cond, ◌&&◌, ◌||◌, List, [], ◌∷◌, length, get_or, Option, Some, None, refl, ap, sym, ◌∙◌, arith}
use Rattle.std.specs.Option.{option_map_or}
use Rattle.std.specs.List.{filter}
use Rattle.std.proofs.lemmas.Grind.{common_steps}
use Rattle.clf_tree.specs.declared.model.Clafer.{Clafer}
use Rattle.clf_tree.specs.declared.instance.Node.{Node}
use Rattle.clf_tree.specs.declared.instance.Entry.{Entry}
use Rattle.clf_tree.specs.Hierarchy.{is_one_of}
use Rattle.clf_tree.specs.Nodes.{same_node, has_some, nodes_of}
use Rattle.clf_tree.specs.Meaning.{children}
use Rattle.instance_tables.specs.Children.{is_parent_of, children_of}

pub only_one : (ns : List Node) (d : Node) → length ns ≡ 1 → ns ≡ get_or ns 0 d ∷ []
only_one [] d h = absurd (omega (arith, h))
only_one (n ∷ []) d h = refl
only_one (n ∷ m ∷ ns) d h = absurd (omega (arith, h))

same_turned : (m n : Node) → same_node m n ≡ same_node n m
same_turned m n = grind (arith, common_steps)

or_false : (b : Bool) → (b || false) ≡ b
or_false true = refl
or_false false = refl

some_one : (n : Node) (p : Option Node) → has_some (n ∷ []) p ≡ option_map_or (same_node n) p false
some_one n None = refl
some_one n (Some p) = or_false (same_node p n) ∙ same_turned p n

pub children_below : (clafers : List Clafer) (entries : List Entry) (into : List ℕ) (n : Node)
    → children clafers entries into (n ∷ []) ≡ filter (λ m. is_one_of clafers into m.clafer) (children_of entries n)
children_below clafers [] into n = refl
children_below clafers (x ∷ xs) into n =
    pick (is_one_of clafers into x.node.clafer) refl (has_some (n ∷ []) x.parent) refl (is_parent_of n x) refl (some_one n x.parent) (children_below clafers xs into n)
  where
    test : Entry → Bool
    test e = is_one_of clafers into e.node.clafer && has_some (n ∷ []) e.parent

    pick : (a : Bool) → is_one_of clafers into x.node.clafer ≡ a → (b : Bool) → has_some (n ∷ []) x.parent ≡ b → (c : Bool) → is_parent_of n x ≡ c
        → has_some (n ∷ []) x.parent ≡ is_parent_of n x
        → nodes_of (filter test xs) ≡ filter (λ m. is_one_of clafers into m.clafer) (children_of xs n)
        → nodes_of (cond (a && b) (x ∷ filter test xs) (filter test xs))
        ≡ filter (λ m. is_one_of clafers into m.clafer) (nodes_of (cond c (x ∷ filter (is_parent_of n) xs) (filter (is_parent_of n) xs)))
    pick true e true f true g h rest = ap (λ ns. x.node ∷ ns) rest ∙ ap (λ b. cond b (x.node ∷ filter (λ m. is_one_of clafers into m.clafer) (children_of xs n)) (filter (λ m. is_one_of clafers into m.clafer) (children_of xs n))) (sym e)
    pick false e true f true g h rest = rest ∙ ap (λ b. cond b (x.node ∷ filter (λ m. is_one_of clafers into m.clafer) (children_of xs n)) (filter (λ m. is_one_of clafers into m.clafer) (children_of xs n))) (sym e)
    pick true e false f false g h rest = rest
    pick false e false f false g h rest = rest
    pick a e true f false g h rest = absurd (contra (sym f ∙ h ∙ g))
      where
        contra : true ≡ false → ⊥
        contra k = cc
    pick a e false f true g h rest = absurd (contra (sym f ∙ h ∙ g))
      where
        contra : false ≡ true → ⊥
        contra k = cc

pub ruleset child_steps = (children_below)
