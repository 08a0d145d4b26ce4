use Rattle.std.proofs.Common.{List, map, IsPermutation, ap, sym, subst, ◌∙◌}
use Rattle.std.specs.List.Sorted.{IsSortedBy}
use Rattle.clf_tree.specs.declared.instance.Entry.{Entry}
use Rattle.clf_tree.specs.Nodes.{is_before}
use Rattle.clf_tree.specs.Renaming.{renamed}
use Rattle.instance_tables.proofs.Renamed.{renamed_ordered, isomorphic}
use Rattle.instance_tables.proofs.renaming.rename.Goals as goal

pub invariant_of-result : goal.invariant_of-result
invariant_of-result c =
    let es = c.args.instance.now.entries in
    let fs = c.from_vec.result in
    let numbers = c.args.numbers.now in
    let from_old : IsPermutation (map (renamed numbers) es) fs =
    subst (λ (xs : List Entry). IsPermutation (map (renamed numbers) es) xs) (sym c.from_vec.ensures)
    (subst (λ (xs : List Entry). IsPermutation xs c.sorted-entries.result.items) (c.in_ok-all_renamed.ensures ∙ ap (map (renamed numbers)) c.as_slice.ensures) c.sorted-entries.ensures.same) in
    let up = subst (λ (xs : List Entry). IsSortedBy (λ (a b : Entry). is_before a.node b.node) xs) (sym c.from_vec.ensures) c.sorted-entries.ensures.sorted in
    record { ordered = renamed_ordered c.args.scopes.now numbers c.requires.renaming es fs c.args.instance.now.ordered c.requires.below from_old up }

pub returns-clause-isomorphic : goal.returns-clause-isomorphic
returns-clause-isomorphic c =
    let es = c.args.instance.now.entries in
    let numbers = c.args.numbers.now in
    isomorphic c.args.scopes.now numbers c.requires.renaming es c.from_vec.result
    (subst (λ (xs : List Entry). IsPermutation (map (renamed numbers) es) xs) (sym c.from_vec.ensures)
    (subst (λ (xs : List Entry). IsPermutation xs c.sorted-entries.result.items) (c.in_ok-all_renamed.ensures ∙ ap (map (renamed numbers)) c.as_slice.ensures) c.sorted-entries.ensures.same))
