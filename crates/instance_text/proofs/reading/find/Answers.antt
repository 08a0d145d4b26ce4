use Rattle.std.proofs.Common.{◌≡◌, ◌∙◌, List, [], ℕ, Some, None, ap, sym, subst, map, length, IsPermutation, ◌++◌}
use Rattle.std.specs.Option.{option_map}
use Rattle.std.specs.List.Sorted.{IsSortedBy}
use Rattle.clf_tree.specs.declared.instance.Entry.{Entry}
use Rattle.clf_tree.specs.Lists.{numbers_below}
use Rattle.clf_tree.specs.Nodes.{is_before}
use Rattle.instance_text.specs.Names.{shown_clafer}
use Rattle.instance_text.proofs.Inverse.{none_read, some_read}
use Rattle.instance_text.proofs.reading.find.Goals as goal

pub returns-in-None : goal.returns-in-None
returns-in-None c =
    none_read c.args.model.now c.as_slice-2.result.now c.args.text.now
    (c.as_slice-2.ensures ∙ c.in_ok-names.ensures ∙ ap (λ cs. map (shown_clafer cs) (numbers_below (length cs))) c.as_slice.ensures) (ap (option_map (λ es. es.items)) (sym c.in-None.is) ∙ c.in_ok-entries_read.ensures)

pub returns : goal.returns
returns c =
    some_read c.args.model.now c.as_slice-2.result.now c.args.text.now c.in-Some.entries.items c.as_slice-in-Some.result.now c.in_ok-instance-in-Some.instance.entries (option_map (λ i. i.entries) c.in_ok-found-in-Some.found)
    (c.as_slice-2.ensures ∙ c.in_ok-names.ensures ∙ ap (λ cs. map (shown_clafer cs) (numbers_below (length cs))) c.as_slice.ensures) (ap (option_map (λ es. es.items)) (sym c.in-Some.is) ∙ c.in_ok-entries_read.ensures)
    (subst (λ (xs : List Entry). IsPermutation c.in-Some.entries.items xs) (sym c.as_slice-in-Some.ensures.value) c.sorted-sorted.ensures.same)
    (subst (λ (xs : List Entry). IsSortedBy (λ (a b : Entry). is_before a.node b.node) xs) (sym c.as_slice-in-Some.ensures.value) c.sorted-sorted.ensures.sorted) c.in_ok-instance-in-Some.ensures c.in_ok-instance-in-Some.instance.ordered
    c.in_ok-found-in-Some.ensures
