-- Totals, one node at a time.
use Rattle.std.proofs.Common.{◌≡◌, ℕ, zero, suc, ◌+◌, ◌<◌, List, [], ◌∷◌, length, map, drop, get_or, refl, ap, ◌∙◌, arith, ℤ, ◌+ℤ◌}
use Rattle.clf_tree.specs.declared.instance.Node.{Node}
use Rattle.clf_tree.specs.Meaning.{total}

pub total_next : (f : Node → ℤ) (ns : List Node) (i : ℕ) (d : Node) → i < length ns → total (map f (drop i ns)) ≡ (f (get_or ns i d) +ℤ total (map f (drop (i + 1) ns)))
total_next f [] i d h = absurd (omega (arith, h))
total_next f (n ∷ ns) zero d h = refl
total_next f (n ∷ ns) (suc i) d h =
    let e : suc (i + 1) ≡ suc i + 1 = omega arith in
    total_next f ns i d (omega (arith, h)) ∙ ap (λ k. f (get_or ns i d) +ℤ total (map f (drop k (n ∷ ns)))) e
