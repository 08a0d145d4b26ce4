-- The points of a front, and how the search for it ended.
use Rattle.std.specs.Prelude.{ℕ, ◌==◌, List, ◌++◌, length, codes, decimal, ℤ, if◌then◌else◌}
use Rattle.std.specs.Fmt.{signed_decimal}
use Rattle.std.specs.List.{flat_map}
use Rattle.clf_tree.specs.declared.model.Model.{Model}
use Rattle.clf_tree.specs.declared.vector.Point.{Point}
use Rattle.clf_tree.specs.declared.vector.Front.{Front}
use Rattle.clf_tree.specs.declared.vector.FrontEnd.{FrontEnd}
use Rattle.clf_tree.specs.declared.vector.FrontEnd.TheVariants as ends
use Rattle.instance_text.specs.Show.{show}

-- a word, then the values
abbrev pub values_line : List ℕ → List ℤ → List ℕ
values_line word values = word ++ flat_map (λ z. codes " " ++ signed_decimal z) values ++ codes "\n"

abbrev pub vector_line : List ℤ → List ℕ
vector_line values = values_line (codes "point") values

-- the vector, then the trees of the instance that has it
abbrev pub point_lines : Model → Point → List ℕ
point_lines model p = vector_line p.vector.values ++ show model p.witness.entries

-- a word, then a number
abbrev pub counted : List ℕ → ℕ → List ℕ
counted word n = word ++ decimal n ++ codes "\n"

abbrev pub claims_line : ℕ → List ℕ
claims_line n = counted (codes "claims ") n

-- how the search for a front ended, with so many points
abbrev pub ended_line : FrontEnd → ℕ → List ℕ
ended_line ends.Finished n = if n == 0 then codes "no instance\n" else counted (codes "front ") n
ended_line ends.Spent n = counted (codes "unfinished E100 ") n
ended_line (ends.Full further) n = counted (codes "unfinished E101 ") n

abbrev pub front_lines : Model → Front → List ℕ
front_lines model f = ended_line f.ended (length f.points) ++ flat_map (point_lines model) f.points ++ claims_line f.claims
