-- What the stage goes by.
use Rattle.model_resolver.proofs.Carried.{is_model}
use Rattle.model_resolver.proofs.Causes.{in_parts, in_targets, in_clafers, in_names, clafers_pass, plain_passes, as_resolved, few_linked, same_many, few_resolved}

pub ruleset resolved_facts = (in_parts, in_targets, in_clafers, in_names, clafers_pass, plain_passes, as_resolved, few_linked, same_many, few_resolved, is_model)
