use Rattle.std.proofs.Common.{◌≤◌, ◌∙◌, sym, subst, List, arith, rules}
use Rattle.std.specs.Prelude.{ℤ}
use Rattle.std.proofs.lemmas.Int.{to_z-of_z}
use mir.Syntax.{w64}
use mir.Val.{SFits, to_z, of_z}
use Rattle.clf_tree.specs.declared.instance.Entry.{Entry}
use Rattle.clf_tree.specs.Widths.{width}
use Rattle.set_bits.specs.Fitting.{value_width}
use Rattle.set_bits.specs.Showing.{Shows}
use Rattle.instance_decoder.proofs.unpack.decode.Goals as goal

pub entries-requires : goal.entries-requires
entries-requires c =
    let low : SFits w64 c.args.scopes.now.low = search rules in
    let high : SFits w64 c.args.scopes.now.high = search rules in
    let few : value_width c.args.scopes.now ≤ 64 =
    subst (λ (z : ℤ). width (record { low = c.args.scopes.now.low; high = z }) ≤ 64) (to_z-of_z w64 c.args.scopes.now.high high)
    (subst (λ (z : ℤ). width (record { low = z; high = to_z w64 (of_z w64 c.args.scopes.now.high) }) ≤ 64) (to_z-of_z w64 c.args.scopes.now.low low) c.widths_are_few.ensures) in
    λ k d l. omega (arith, c.requires.fits.widths k d l, few)

pub returns : goal.returns
returns c =
    let only = c.the_told_instance_alone_is_shown.ensures c.args.core.now.clafers c.args.scopes.now c.args.layout.now c.args.bits.now in
    record {
      shown = subst (λ (es : List Entry). Shows c.args.core.now.clafers c.args.scopes.now c.args.layout.now c.args.bits.now es) (only c.requires.shows.0 c.requires.fits c.requires.shows.1 ∙ sym c.in_ok-entries.ensures) c.requires.shows.1;
      alone = λ entries s. only entries c.requires.fits s ∙ sym c.in_ok-entries.ensures;
    }
