use Rattle.std.proofs.Common.{◌&&◌}
use Rattle.std.specs.Prelude.{nat_eq, bytes_eq}
use Rattle.std.specs.Option.{option_eq}
use Rattle.std.specs.HashSet.{contains_by}
use Rattle.family_checks.proofs.Repeats.{name_known}
use Rattle.family_checks.proofs.children.declared_names.Goals as goal

pub loop-number-preserved : goal.loop-number-preserved
loop-number-preserved c =
    name_known c.args.clafers.now c.loop-number.number c.get-clafer.result.now c.as_slice.result.now c.get-clafer.ensures c.as_slice.ensures
    (λ p n. contains_by (λ k. option_eq nat_eq p k.0 && bytes_eq n k.1.now) c.loop-number.names)
    (λ p n. contains_by (λ k. option_eq nat_eq p k.0 && bytes_eq n k.1.now) c.insert.new.self)
    c.loop-number.invariant
    (λ p n. c.in_ok-insert.ensures.updates.0 (p, record { ref_ptr = (0, 0); now = n }))
