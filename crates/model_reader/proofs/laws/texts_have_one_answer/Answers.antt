use Rattle.model_reader.proofs.Once.{Laws, read_once, refusal_once, read_or_refused}
use Rattle.model_reader.proofs.laws.texts_have_one_answer.Goals as goal

pub returns-clause-read_once : goal.returns-clause-read_once
returns-clause-read_once c =
    let laws : Laws = record {
      tokens = c.text_has_one_answer.ensures.tokens;
      lexed_refusal = c.text_has_one_answer.ensures.refusal;
      lexed_or_refused = c.text_has_one_answer.ensures.not_both;
      modules = c.tokens_have_one_answer.ensures.module_once;
      parsed_refusal = c.tokens_have_one_answer.ensures.refusal_once;
      parsed_or_refused = c.tokens_have_one_answer.ensures.not_both;
    } in
    read_once laws

pub returns-clause-refusal_once : goal.returns-clause-refusal_once
returns-clause-refusal_once c =
    let laws : Laws = record {
      tokens = c.text_has_one_answer.ensures.tokens;
      lexed_refusal = c.text_has_one_answer.ensures.refusal;
      lexed_or_refused = c.text_has_one_answer.ensures.not_both;
      modules = c.tokens_have_one_answer.ensures.module_once;
      parsed_refusal = c.tokens_have_one_answer.ensures.refusal_once;
      parsed_or_refused = c.tokens_have_one_answer.ensures.not_both;
    } in
    refusal_once laws

pub returns-clause-not_both : goal.returns-clause-not_both
returns-clause-not_both c =
    let laws : Laws = record {
      tokens = c.text_has_one_answer.ensures.tokens;
      lexed_refusal = c.text_has_one_answer.ensures.refusal;
      lexed_or_refused = c.text_has_one_answer.ensures.not_both;
      modules = c.tokens_have_one_answer.ensures.module_once;
      parsed_refusal = c.tokens_have_one_answer.ensures.refusal_once;
      parsed_or_refused = c.tokens_have_one_answer.ensures.not_both;
    } in
    read_or_refused laws
