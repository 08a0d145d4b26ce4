-- A line, then the claims.
use Rattle.std.proofs.Common.{◌++◌, ◌∙◌, ap, append_assoc}
use Rattle.std.specs.Prelude.{codes}
use Rattle.front_report.specs.Points.{claims_line}
use Rattle.front_report.proofs.texts.push_no_instance.Goals as goal

pub returns : goal.returns
returns c =
    c.in_ok-push_claims.ensures ∙ ap (λ l. l ++ claims_line 1) c.in_ok-extend.ensures.ok
    ∙ append_assoc c.args.text.now (codes "no instance\n") (claims_line 1)
