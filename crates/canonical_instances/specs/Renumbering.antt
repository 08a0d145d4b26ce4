-- New numbers for the nodes of an instance, by which it becomes canonical.
use Rattle.std.specs.Prelude.{ℕ, zero, suc, List, length, map, Option, Some, if◌then◌else◌, count_by}
use Rattle.std.specs.declared.cmp.Ordering.{Ordering}
use Rattle.std.specs.declared.cmp.Ordering.TheVariants.{Equal}
use Rattle.std.specs.Ordering.{is_lt, nat_cmp, on, then_cmp}
use Rattle.std.specs.Option.{option_cmp}
use Rattle.clf_tree.specs.declared.instance.Node.{Node}
use Rattle.clf_tree.specs.declared.instance.Entry.{Entry}
use Rattle.clf_tree.specs.declared.scopes.Scopes.{Scopes}
use Rattle.clf_tree.specs.Lists.{numbers_below}
use Rattle.clf_tree.specs.Nodes.{has_node, nodes_of, parent_in, scope_of}

-- Two nodes, either of which may be missing, by clafer, then by their parents in the same way, then by number.
-- What is missing comes first, and only n nodes on the way up are looked at.
abbrev pub compare_up : ℕ → List Entry → Option Node → Option Node → Ordering
compare_up zero entries a b = option_cmp (λ m n. Equal) a b
compare_up (suc n) entries a b =
    option_cmp (then_cmp (on (λ m. m.clafer) nat_cmp)
    (then_cmp (on (parent_in entries) (compare_up n entries)) (on (λ m. m.number) nat_cmp)))
    a b

-- 0 for a node that is there, else 1
abbrev pub absence : List Entry → Node → ℕ
absence entries m = if has_node (nodes_of entries) m then 0 else 1

-- two numbers of one clafer: those that are there come first, then those with the earlier parent, then the smaller ones
abbrev pub compare_numbers : List Entry → ℕ → ℕ → ℕ → Ordering
compare_numbers entries c =
    then_cmp (on (λ k. absence entries (record { clafer = c; number = k })) nat_cmp)
    (on (λ k. Some (record { clafer = c; number = k })) (compare_up (suc (length entries)) entries))

-- how many numbers below n come before k
abbrev pub rank : (ℕ → ℕ → Ordering) → ℕ → ℕ → ℕ
rank order n k = count_by (λ j. is_lt (order j k)) (numbers_below n)

-- the new numbers of the nodes of one clafer with n numbers, and of all clafers
abbrev pub new_numbers : List Entry → ℕ → ℕ → List ℕ
new_numbers entries n c = map (rank (compare_numbers entries c) n) (numbers_below n)

abbrev pub renumbering : Scopes → List Entry → List (List ℕ)
renumbering scopes entries = map (λ c. new_numbers entries (scope_of scopes c) c) (numbers_below (length scopes.of))
