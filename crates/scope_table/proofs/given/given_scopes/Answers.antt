use Rattle.std.proofs.Common.{◌≡◌, ◌<◌, get_or, take, length, Some, None, ap, sym, ◌∙◌}
use Rattle.std.proofs.lemmas.List.{length-set}
use Rattle.clf_tree.specs.declared.scopes.GivenScope.{GivenScope}
use Rattle.scope_table.proofs.Firsts.{any_default}
use Rattle.scope_table.proofs.Tables.{put_next, refusals_on, take_long}
use Rattle.scope_table.proofs.given.given_scopes.Goals as goal

pub loop-place-preserved : goal.loop-place-preserved
loop-place-preserved c =
    let clafers = c.args.clafers.now in
    let given = c.args.given.now in
    let i = c.loop-place.place in
    let g = c.index-given-place.result in
    let h = c.index-given-place-in-Ok.result in
    let as_long : length (take i given) ≡ i = take_long given i c.loop-place-test.true in
    let own = c.in-Ok.ensures (take i given) as_long (λ x. ap (λ t. get_or t x None) c.as_slice.ensures.value ∙ c.loop-place.invariant.known x) in
    let fits : c.in-Ok.clafer < length c.loop-place.table.items = rw c.loop-place.invariant.long own.2 in
    let most = ap (λ (x : GivenScope). x.most) (any_default given i h g c.loop-place-test.true ∙ sym c.index-given-place.is) in
    record {
      long = length-set c.loop-place.table.items c.in-Ok.clafer (Some (get_or given i h).most) ∙ c.loop-place.invariant.long;
      known = put_next clafers given i g c.loop-place.table.items c.in-Ok.clafer (get_or given i h).most c.loop-place-test.true c.index-given-place.is c.loop-place.invariant.known fits own.1 own.3 most;
      left = c.loop-place.invariant.left ∙ refusals_on clafers given i g c.loop-place-test.true c.index-given-place.is own.0;
    }
