use Rattle.std.proofs.Common.{sym, ◌∙◌}
use Rattle.std.specs.Prelude.{bytes_eq}
use Rattle.std.specs.HashMap.{get_by}
use Rattle.super_linker.proofs.Names.{flipped, at_top}
use Rattle.super_linker.proofs.table.enter.Goals as goal

pub returns : goal.returns
returns c = λ n.
    flipped c.args.clafer.now n c.as_slice.result.now
    (get_by (λ k. bytes_eq n k.now) c.insert.new.self) (get_by (λ k. bytes_eq n k.now) c.args.table.now) c.args.number
    c.if-not-clafer.false (at_top c.args.clafer.now.parent (sym c.is_some.ensures ∙ c.if-is_some.false)) c.as_slice.ensures
    (c.in_ok-insert.ensures.updates.0 (record { ref_ptr = (0, 0); now = n }))
