use Rattle.std.proofs.Common.{rules, subst, sym, ◌∙◌}
use Rattle.std.specs.Prelude.{Bool, List}
use Rattle.std.specs.Cmp.{booleans_Decides}
use Rattle.std.proofs.lemmas.Slice.Eq.{slice_eq-Decides}
use Rattle.set_bits.specs.Showing.{Shows}
use Rattle.shape_bench.proofs.comparing.is_shown.Goals as goal

pub returns : goal.returns
returns c = λ same.
    record {
      entries = c.args.instance.now.entries;
      shows = subst (λ (bs : List Bool). Shows c.args.encoded.now.core.clafers c.args.encoded.now.read.now.scopes c.args.encoded.now.layout bs c.args.instance.now.entries) (sym c.as_slice.ensures ∙ (slice_eq-Decides booleans_Decides c.as_slice.result.now c.args.bits.now c.eq.result c.eq.ensures).0 same) c.in_ok-packed.ensures.shows;
      tree = search rules;
      shape = search rules;
    }
