-- How many tuples a quantifier has to find.
use Rattle.std.specs.Prelude.{ℕ, ◌==◌, Bool, true, false, not, List, count_by, nat_lt, nat_le, if◌then◌else◌}
use Rattle.clf_tree.specs.declared.token.Word.{Word}
use Rattle.clf_tree.specs.declared.token.Word.TheVariants as word
use Rattle.clf_tree.specs.declared.instance.Node.{Node}

-- `all` looks for tuples that fail, each other word for those that pass
abbrev pub looks_for : Word → Bool
looks_for word.All = false
looks_for _ = true

-- so many settle the question
abbrev pub enough : Word → ℕ
enough word.One = 2
enough word.Lone = 2
enough _ = 1

-- what follows from having found so many, or enough
abbrev pub settled : Word → ℕ → Bool
settled word.All n = n == 0
settled word.Some n = nat_lt 0 n
settled word.No n = n == 0
settled word.One n = n == 1
settled word.Lone n = nat_le n 1
settled _ n = false

abbrev pub agrees : Bool → Bool → Bool
agrees wanted b = if wanted then b else not b

-- how many of the tuples pass, or fail
abbrev pub found_in : Bool → (List Node → Bool) → List (List Node) → ℕ
found_in wanted test ts = count_by (λ t. agrees wanted (test t)) ts
