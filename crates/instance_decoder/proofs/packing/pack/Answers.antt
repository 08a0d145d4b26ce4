use Rattle.std.proofs.Common.{◌≡◌, map, ◌∙◌, List, rules}
use mir.Syntax.{w64}
use mir.Val.{SFits}
use Rattle.clf_tree.specs.declared.instance.Entry.{Entry}
use Rattle.clf_tree.specs.Nodes.{entry_of}
use Rattle.set_bits.specs.Showing.{Shows}
use Rattle.instance_decoder.proofs.Filling.{some_bits, numbers_fit, packed}
use Rattle.instance_decoder.proofs.packing.pack.Goals as goal

pub push_numbers-requires-clause-inside : goal.push_numbers-requires-clause-inside
push_numbers-requires-clause-inside c = c.edges_lie_between_slots.ensures.values c.args.core.now.clafers c.args.scopes.now c.args.layout.now c.requires.fits

pub push_numbers-requires-clause-some : goal.push_numbers-requires-clause-some
push_numbers-requires-clause-some c =
    let low : SFits w64 c.args.scopes.now.low = search rules in
    let high : SFits w64 c.args.scopes.now.high = search rules in
    some_bits c.args.core.now.clafers c.args.scopes.now c.args.layout.now low high c.requires.fits

pub push_numbers-requires-clause-fits : goal.push_numbers-requires-clause-fits
push_numbers-requires-clause-fits c =
    let low : SFits w64 c.args.scopes.now.low = search rules in
    let high : SFits w64 c.args.scopes.now.high = search rules in
    let entries : List Entry = c.args.instance.now.entries in
    numbers_fit c.args.core.now.clafers c.args.scopes.now c.args.layout.now entries c.in_ok-table.table low high c.requires.fits
    (c.edges_lie_between_slots.ensures.values c.args.core.now.clafers c.args.scopes.now c.args.layout.now c.requires.fits)
    (c.in_ok-table.ensures ∙ c.aligned_entries_are_found.ensures c.args.core.now.clafers c.args.scopes.now c.args.layout.now entries c.requires.fits c.requires.within c.args.instance.now.ordered)
    (c.integers_are_in_range.ensures c.args.core.now.clafers c.args.scopes.now entries c.requires.shape)

pub returns : goal.returns
returns c =
    let entries : List Entry = c.args.instance.now.entries in
    let t : c.in_ok-table.table ≡ map (entry_of entries) c.args.layout.now.slots =
    c.in_ok-table.ensures ∙ c.aligned_entries_are_found.ensures c.args.core.now.clafers c.args.scopes.now c.args.layout.now entries c.requires.fits c.requires.within c.args.instance.now.ordered in
    let p = packed entries c.args.layout.now c.in_ok-table.table c.new-bits.result c.push_lives.new.bits c.push_ties.new.bits c.push_ties-2.new.bits c.push_numbers.new.bits t
    c.new-bits.ensures c.in_ok-push_lives.ensures (c.in_ok-push_ties.ensures entries t) (c.in_ok-push_ties-2.ensures entries t) (c.in_ok-push_numbers.ensures entries t) in
    let s : Shows c.args.core.now.clafers c.args.scopes.now c.args.layout.now c.push_numbers.new.bits entries =
    c.packed_bits_show.ensures c.args.core.now.clafers c.args.scopes.now c.args.layout.now c.push_numbers.new.bits entries c.requires.fits c.requires.within c.args.instance.now.ordered c.requires.tree c.requires.shape p in
    record { shows = s; alone = λ others o. c.one_list_of_bits_shows.ensures c.args.core.now.clafers c.args.scopes.now c.args.layout.now others c.push_numbers.new.bits entries c.requires.fits o s }
