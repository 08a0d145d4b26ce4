-- What marks by clafer tell.
use Rattle.std.specs.Prelude.{◌≡◌, ◌<◌, ℕ, ◌&&◌, Bool, false, List, length, get_or}
use Rattle.std.specs.List.{list_any}
use Rattle.clf_tree.specs.declared.model.Clafer.{Clafer}
use Rattle.clf_tree.specs.Hierarchy.{is_one_of}
use Rattle.clf_tree.specs.Kinds.{is_child}

-- marked are just the clafers under which one of cs is declared that is-a one of ks
abbrev pub MarksParents : List Clafer → List ℕ → List ℕ → List Bool → Type 0
MarksParents clafers ks cs marks = (p : ℕ) → p < length clafers → get_or marks p false ≡ list_any (λ c. is_child clafers p c && is_one_of clafers ks c) cs
