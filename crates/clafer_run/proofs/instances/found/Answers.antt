-- The instance is told.
use Rattle.clafer_run.proofs.instances.found.Goals as goal

pub returns-clause-outcome : goal.returns-clause-outcome
returns-clause-outcome c =
    rw c.bare.ensures (record { found = c.args.instance; instance = c.requires; told = c.in_ok-output.ensures })
