-- The law of isomorphic instances.
use Rattle.isomorphic_instances.specs.Agree.{IsomorphicAgree}
use Rattle.isomorphic_instances.proofs.Renamings.{IsRenamed, alike, pair_below}
use Rattle.isomorphic_instances.proofs.Shapes.{satisfies_same, vector_same}

pub isomorphic_agree : IsomorphicAgree
isomorphic_agree model scopes a b ordered below iso =
    let r = alike scopes a b iso ordered below in
    record {
      satisfy = satisfies_same model (IsRenamed scopes iso.numbers) a b r scopes (pair_below scopes iso.numbers iso.renaming);
      goals = vector_same model (IsRenamed scopes iso.numbers) a b r;
    }
