-- One clafer without a super doesn't inherit itself.
use Rattle.std.proofs.Common.{◌≡◌, ℕ, true, false, not, ◌&&◌, List, length, Option, Some, None, refl, ap, ◌∙◌}
use Rattle.std.specs.Prelude.{slice_get, is_none}
use Rattle.std.specs.Option.{option_map_or}
use Rattle.std.specs.List.{list_all}
use Rattle.clf_tree.specs.declared.model.Clafer.{Clafer}
use Rattle.clf_tree.specs.Lists.{numbers_below}
use Rattle.clf_tree.specs.Hierarchy.{is_a}
use Rattle.clf_tree.specs.Named.{each, inherits_itself}
use Rattle.clf_tree.proofs.WaysUp.{super_of-at}

nothing : (o : Option ℕ) → is_none o ≡ true → o ≡ None
nothing None e = refl
nothing (Some c) e = (cc)

pub inherits_nothing : (clafers : List Clafer) (k : Clafer) → length clafers ≡ 1 → slice_get clafers 0 ≡ Some k → is_none k.above ≡ true → each clafers (λ c. not (inherits_itself clafers c)) ≡ true
inherits_nothing clafers k one first top =
    ap (λ n. list_all (λ c. not (inherits_itself clafers c)) (numbers_below n)) one
    ∙ ap (λ o. not (option_map_or (λ s. is_a clafers s 0) o false) && true) (super_of-at clafers 0 k first ∙ nothing k.above top)
