-- What marks by clafer tell.
use Rattle.std.specs.Prelude.{◌≡◌, ◌<◌, ℕ, Bool, false, List, length, get_or}
use Rattle.std.specs.List.{list_any}
use Rattle.clf_tree.specs.declared.model.Clafer.{Clafer}
use Rattle.clf_tree.specs.Hierarchy.{is_a}

-- marked are just the clafers that one of ms is-a
abbrev pub MarksAbove : List Clafer → List ℕ → List Bool → Type 0
MarksAbove clafers ms marks = (p : ℕ) → p < length clafers → get_or marks p false ≡ list_any (λ m. is_a clafers m p) ms
