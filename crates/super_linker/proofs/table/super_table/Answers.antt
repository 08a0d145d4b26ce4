use Rattle.std.proofs.Common.{◌≡◌, ℕ, ◌+◌, ◌-◌, drop, subst, arith}
use Rattle.std.specs.Prelude.{bytes_eq}
use Rattle.std.specs.List.{position_from}
use Rattle.std.specs.HashMap.{get_by}
use Rattle.super_linker.specs.Supers.{is_super_named}
use Rattle.super_linker.proofs.Names.{entered}
use Rattle.super_linker.proofs.table.super_table.Goals as goal

pub loop-left-preserved : goal.loop-left-preserved
loop-left-preserved c =
    let ks = c.args.clafers.now in
    let i = c.loop-left.left - 1 in
    let back : c.loop-left.left ≡ i + 1 = omega (arith, c.loop-left-test.true) in
    record {
      within = omega (arith, c.loop-left.invariant.within);
      known = entered ks i c.get.result.now
          (λ n. get_by (λ k. bytes_eq n k.now) c.loop-left.table)
          (λ n. get_by (λ k. bytes_eq n k.now) c.enter.new.table)
          c.get.ensures
          (λ n. subst (λ (j : ℕ). get_by (λ k. bytes_eq n k.now) c.loop-left.table ≡ position_from (is_super_named n) j (drop j ks)) back (c.loop-left.invariant.known n))
          c.in_ok-enter.ensures;
    }
