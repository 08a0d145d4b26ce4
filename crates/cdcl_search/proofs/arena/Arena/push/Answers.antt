use Rattle.std.proofs.Common.{◌≡◌, ◌+◌, ◌++◌, length, arith, ◌∙◌, ap, length-append}
use Rattle.std.proofs.lemmas.Grind.{common_steps}
use Rattle.cdcl_search.proofs.Arena_steps.{cut-append, AreEnds-push}
use Rattle.cdcl_search.proofs.arena.Arena.push.Goals as goal

pub invariant_of-self-in-Ok : goal.invariant_of-self-in-Ok
invariant_of-self-in-Ok c =
    let p : c.extend_from_slice.new.self.items ≡ c.self.inside.pool.items ++ c.args.clause.now = c.in_ok-extend_from_slice.ensures.items in
    let n : length c.extend_from_slice.new.self.items ≡ length c.self.inside.pool.items + length c.args.clause.now = ap length p ∙ length-append c.self.inside.pool.items c.args.clause.now in
    let m : c.len.result ≡ length c.extend_from_slice.new.self.items = grind (arith, common_steps) in
    rw (c.in-Ok.ensures.items, m) (AreEnds-push 0 (length c.self.inside.pool.items) (length c.extend_from_slice.new.self.items) c.self.inside.ends.items c.self.invariant (omega (arith, n)))

pub returns-in-Ok : goal.returns-in-Ok
returns-in-Ok c =
    let p : c.extend_from_slice.new.self.items ≡ c.self.inside.pool.items ++ c.args.clause.now = c.in_ok-extend_from_slice.ensures.items in
    let n : length c.extend_from_slice.new.self.items ≡ length c.self.inside.pool.items + length c.args.clause.now = ap length p ∙ length-append c.self.inside.pool.items c.args.clause.now in
    let m : c.len.result ≡ length c.extend_from_slice.new.self.items = grind (arith, common_steps) in
    rw (c.in-Ok.ensures.items, m, n, p, ← c.self.view_is) (cut-append c.self.inside.pool.items c.args.clause.now 0 c.self.inside.ends.items c.self.invariant)
