use Rattle.std.proofs.Common.{◌≡◌, ◌<◌, ◌^◌, length, subst, sym, arith}
use Rattle.clf_tree.specs.declared.plain.Plain.{Plain}
use Rattle.plain_models.specs.Written.{IsWritten}
use Rattle.resolver_bench.proofs.reading.read.Goals as goal

pub parse-requires : goal.parse-requires
parse-requires c = record { ended = c.laid_tokens_stand_in_order.ensures.ended _ _ _ c.in_ok-tokens.ensures.lexed c.in_ok-laid.ensures.laid }

pub plain-requires : goal.plain-requires
plain-requires c =
    let few = c.clafers_are_few.ensures.declared _ _ _ _ c.in_ok-tokens.ensures.lexed c.in_ok-laid.ensures.laid c.in_ok-module.ensures.spelled in
    omega (arith, few, c.requires)

pub resolve-requires : goal.resolve-requires
resolve-requires c =
    let few = c.clafers_are_few.ensures.plain _ _ _ _ c.in_ok-tokens.ensures.lexed c.in_ok-laid.ensures.laid c.in_ok-module.ensures.spelled in
    let names = c.names_are_names.ensures _ _ _ c.in_ok-tokens.ensures.lexed c.in_ok-laid.ensures.laid in
    record {
      few = subst (λ (p : Plain). length p.clafers < 2 ^ 32) (sym c.in_ok-plain.ensures.model) (omega (arith, few, c.requires));
      written = subst IsWritten (sym c.in_ok-plain.ensures.model) (c.modules_are_written.ensures _ _ c.in_ok-module.ensures.spelled names c.in_ok-plain.ensures.accepted);
    }
