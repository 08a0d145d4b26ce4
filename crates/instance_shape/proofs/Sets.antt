-- Entries of no set.
use Rattle.std.proofs.Common.{◌≡◌, Bool, true, false, not, ◌&&◌, List, [], ◌∷◌, refl, ap, sym, ◌∙◌}
use Rattle.std.specs.Prelude.{◌==◌}
use Rattle.std.specs.List.{list_all}
use Rattle.clf_tree.specs.declared.model.Clafer.{Clafer}
use Rattle.clf_tree.specs.declared.instance.Entry.{Entry}
use Rattle.clf_tree.specs.Nodes.{same_node}
use Rattle.clf_tree.specs.Shape.{differ, is_set, same_option, same_target}

none : (a b s t : Bool) → s ≡ false → not (a && b && s && t) ≡ true
none true true s t h = ap (λ x. not (x && t)) h
none false b s t h = refl
none true false s t h = refl

pub no_set : (clafers : List Clafer) (entries : List Entry) (a : Entry) (xs : List Entry) → is_set clafers entries a.node.clafer ≡ false → list_all (differ clafers entries a) xs ≡ true
no_set clafers entries a [] h = refl
no_set clafers entries a (b ∷ xs) h =
    ap (λ t. t && list_all (differ clafers entries a) xs)
    (none (a.node.clafer == b.node.clafer) (same_option same_node a.parent b.parent) (is_set clafers entries a.node.clafer) (same_option same_target a.target b.target) h)
    ∙ no_set clafers entries a xs h
