-- What nodes lead to, by a list of it.
use Rattle.std.proofs.lemmas.List.{take_more}
use Rattle.std.proofs.Common.{◌≡◌, ℕ, ◌+◌, ◌<◌, Bool, true, false, cond, ◌&&◌, ◌||◌, List, [], ◌∷◌, ◌++◌, length, take, get_or, Option, Some, None, refl, ap, sym, ◌∙◌}
use Rattle.std.specs.Option.{option_map_or, option_to_list}
use Rattle.std.specs.List.{filter, filter_map, list_any, cons_option}
use Rattle.std.proofs.lemmas.List.Elements.{filter_map-append}
use Rattle.clf_tree.specs.declared.instance.Node.{Node}
use Rattle.clf_tree.specs.declared.instance.Entry.{Entry}
use Rattle.clf_tree.specs.Nodes.{same_node, has_node, nodes_of, target_node}
use Rattle.clf_tree.specs.Meaning.{parents, targets}
use Rattle.model_evaluator.specs.Sources.{reached}

led-to : (link : Entry → Option Node) (ns : List Node) (xs : List Entry) (p : Node)
    → list_any (λ x. has_node ns x.node && option_map_or (same_node p) (link x) false) xs ≡ has_node (reached link ns xs) p
led-to link ns [] p = refl
led-to link ns (x ∷ xs) p = pick (has_node ns x.node) (link x) (led-to link ns xs p)
  where
    pick : (b : Bool) (o : Option Node) → list_any (λ y. has_node ns y.node && option_map_or (same_node p) (link y) false) xs ≡ has_node (reached link ns xs) p
        → ((b && option_map_or (same_node p) o false) || list_any (λ y. has_node ns y.node && option_map_or (same_node p) (link y) false) xs)
        ≡ has_node (cons_option (cond b o None) (reached link ns xs)) p
    pick true (Some q) rest = ap (λ b. same_node p q || b) rest
    pick true None rest = rest
    pick false o rest = rest

filter-alike : (f g : Entry → Bool) → ((x : Entry) → f x ≡ g x) → (xs : List Entry) → filter f xs ≡ filter g xs
filter-alike f g alike [] = refl
filter-alike f g alike (x ∷ xs) = ap (λ b. cond b (x ∷ filter f xs) (filter f xs)) (alike x) ∙ ap (λ ys. cond (g x) (x ∷ ys) ys) (filter-alike f g alike xs)

pub parents_by_list : (ns : List Node) (entries : List Entry) → parents [] entries ns ≡ nodes_of (filter (λ p. has_node (reached (λ x. x.parent) ns entries) p.node) entries)
parents_by_list ns entries =
    ap nodes_of (filter-alike (λ p. list_any (λ x. has_node ns x.node && option_map_or (same_node p.node) x.parent false) entries) (λ p. has_node (reached (λ x. x.parent) ns entries) p.node)
    (λ p. led-to (λ x. x.parent) ns entries p.node) entries)

pub targets_by_list : (ns : List Node) (entries : List Entry) → targets [] entries ns ≡ nodes_of (filter (λ p. has_node (reached target_node ns entries) p.node) entries)
targets_by_list ns entries =
    ap nodes_of (filter-alike (λ t. list_any (λ x. has_node ns x.node && option_map_or (same_node t.node) (target_node x) false) entries) (λ t. has_node (reached target_node ns entries) t.node)
    (λ t. led-to target_node ns entries t.node) entries)

pub ruleset reached_steps = (parents_by_list, targets_by_list)

-- one more entry
pub reached_more : (link : Entry → Option Node) (ns : List Node) (xs : List Entry) (i : ℕ) (d : Entry) → i < length xs
    → reached link ns (take (i + 1) xs) ≡ reached link ns (take i xs) ++ option_to_list (cond (has_node ns (get_or xs i d).node) (link (get_or xs i d)) None)
reached_more link ns xs i d h =
    ap (reached link ns) (take_more xs i d h) ∙ filter_map-append (λ x. cond (has_node ns x.node) (link x) None) (take i xs) (get_or xs i d ∷ [])
    ∙ ap (λ ys. reached link ns (take i xs) ++ ys) (single (cond (has_node ns (get_or xs i d).node) (link (get_or xs i d)) None))
  where
    single : (o : Option Node) → cons_option o [] ≡ option_to_list o
    single None = refl
    single (Some n) = refl
