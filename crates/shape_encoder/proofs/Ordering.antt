-- The edges of a layout that fits stand in the order of their ends.
use Rattle.std.proofs.Common.{◌≡◌, ℕ, zero, suc, ◌+◌, ◌<◌, ◌≤◌, true, ◌&&◌, List, [], ◌∷◌, length, map, get_or, refl, ap, ◌∙◌, arith}
use Rattle.std.specs.Prelude.{nat_lt}
use Rattle.std.specs.List.{flat_map, list_all, range_with_len}
use Rattle.std.proofs.lemmas.Bool.Decides.{nat_tests}
use Rattle.std.proofs.lemmas.List.Folds.{list_all-append}
use Rattle.clf_tree.specs.declared.model.Clafer.{Clafer}
use Rattle.clf_tree.specs.declared.scopes.Scopes.{Scopes}
use Rattle.clf_tree.specs.declared.instance.Node.{Node}
use Rattle.clf_tree.specs.Nodes.{scope_of}
use Rattle.set_bits.specs.declared.layout.Edge.{Edge}
use Rattle.set_bits.specs.declared.layout.Layout.{Layout}
use Rattle.set_bits.specs.Fitting.{Fits, nodes_below, referred}
use Rattle.shown_instance.proofs.Order.{both, together}
use Rattle.shown_instance.proofs.Adapting.{all_pass}
use Rattle.shown_instance.proofs.Fitted.{edges_between}
use Rattle.shown_instance.proofs.Once.{edges_ascend}
use Rattle.shape_encoder.specs.Comparing.{IsOrdered}

less : (a b : ℕ) → nat_lt a b ≡ true → a < b
less a b h = grind (arith, nat_tests)

lt : (a b : ℕ) → a < b → nat_lt a b ≡ true
lt a b h = grind (arith, nat_tests)

-- nodes within the scopes are of clafers of the model
known_below : (m c : ℕ) (ks : List ℕ) → c < m → list_all (λ (n : Node). nat_lt n.clafer m) (map (λ k. record { clafer = c; number = k }) ks) ≡ true
known_below m c [] h = refl
known_below m c (k ∷ ks) h = together (nat_lt c m) (list_all (λ (n : Node). nat_lt n.clafer m) (map (λ j. record { clafer = c; number = j }) ks)) (lt c m h) (known_below m c ks h)

known_all : (m : ℕ) (f : ℕ → ℕ) (a k : ℕ) → a + k ≤ m → list_all (λ (n : Node). nat_lt n.clafer m) (flat_map (λ c. nodes_below c (f c)) (range_with_len a k)) ≡ true
known_all m f a zero h = refl
known_all m f a (suc k) h =
    list_all-append (λ (n : Node). nat_lt n.clafer m) (nodes_below a (f a)) (flat_map (λ c. nodes_below c (f c)) (range_with_len (a + 1) k))
    ∙ together (list_all (λ (n : Node). nat_lt n.clafer m) (nodes_below a (f a))) (list_all (λ (n : Node). nat_lt n.clafer m) (flat_map (λ c. nodes_below c (f c)) (range_with_len (a + 1) k)))
    (known_below m a (range_with_len 0 (f a)) (omega (arith, h))) (known_all m f (a + 1) k (omega (arith, h)))

pub fitting_ordered : (clafers : List Clafer) (scopes : Scopes) (layout : Layout) → Fits clafers scopes layout → IsOrdered clafers layout
fitting_ordered clafers scopes layout f = record {
  from = λ k d l. less (get_or layout.targets k d).from (length layout.slots) (both (nat_lt (get_or layout.targets k d).from (length layout.slots)) (nat_lt (get_or layout.targets k d).to (length layout.slots))
      (all_pass (λ (e : Edge). nat_lt e.from (length layout.slots) && nat_lt e.to (length layout.slots)) layout.targets (edges_between (referred clafers) layout.slots layout.targets f.targets) k d l)).0;
  ascending = edges_ascend (referred clafers) layout.slots layout.targets f.targets;
  known = λ i l. less (get_or layout.slots i (record { clafer = 0; number = 0 })).clafer (length clafers)
      (all_pass (λ (n : Node). nat_lt n.clafer (length clafers)) layout.slots (ap (list_all (λ (n : Node). nat_lt n.clafer (length clafers))) f.slots ∙ known_all (length clafers) (scope_of scopes) 0 (length clafers) (omega arith)) i (record { clafer = 0; number = 0 }) l);
}
