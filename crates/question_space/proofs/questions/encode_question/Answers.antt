use Rattle.std.proofs.Common.{length, ap, ◌∙◌}
use Rattle.std.proofs.lemmas.List.FromFn.{length-range_with_len}
use Rattle.set_bits.specs.Fitting.{size}
use Rattle.question_space.proofs.questions.encode_question.Goals as goal

pub question_wires-requires-clause-count : goal.question_wires-requires-clause-count
question_wires-requires-clause-count c =
    c.inputs-count.ensures ∙ ap length c.requires.known.wired.wires.inputs ∙ length-range_with_len 0 (size c.args.layout.now)
