use Rattle.std.proofs.Common.{◌&&◌, sym, ◌∙◌}
use Rattle.std.specs.Prelude.{nat_eq, bytes_eq}
use Rattle.std.specs.Option.{option_eq}
use Rattle.std.specs.HashSet.{contains_by}
use Rattle.family_checks.proofs.Repeats.{looked_up}
use Rattle.family_checks.proofs.children.repeats_inherited.Goals as goal

pub returns-in-Some-super_of : goal.returns-in-Some-super_of
returns-in-Some-super_of c =
    looked_up c.args.clafers.now c.args.clafer c.in-Some.parent c.in-Some-super_of.above c.get-here.result.now c.as_slice.result.now
    (λ p n. contains_by (λ k. option_eq nat_eq p k.0 && bytes_eq n k.1.now) c.args.names.now)
    c.has_child.result c.get-here.ensures c.in-Some.is (sym c.super_of.ensures ∙ c.in-Some-super_of.is) c.as_slice.ensures c.requires.known c.has_child.ensures
