-- What a read gives is the front of what was left.
use Rattle.std.proofs.Common.{◌≡◌, length, min, ℕ, ◌-◌, arith, take, drop, sym, ◌∙◌, ap}
use Rattle.clf_base.specs.Memory.{SourceState}
use Rattle.clf_base.proofs.Reading.{read_bytes, rest_length}
use Rattle.std.proofs.lemmas.List.{length-drop}
use Rattle.clf_base.proofs.memory.MemorySourceSource.read.Goals as goal

pub returns-clause-bytes : goal.returns-clause-bytes
returns-clause-bytes c =
    let bytes = read_bytes c.self.inside.bytes c.as_slice-2.result.now c.args.out.now c.copy_from_slice.new.self c.self.inside.at c.min-count.result c.self.inside.step
    c.as_slice-2.ensures c.self.invariant.1 c.requires
    (c.min-count.ensures ∙ ap (λ (m : ℕ). min m (length (take (length c.as_slice-2.result.now - c.self.inside.at) (drop c.self.inside.at c.as_slice-2.result.now)))) c.min.ensures)
    c.copy_from_slice.ensures.after in (
      ap (λ (s : SourceState). s.rest) (sym c.self.view_is) ∙ bytes.0,
      λ none _. bytes.1 none,
    )

pub returns-clause-count : goal.returns-clause-count
returns-clause-count c =
    let long = rest_length c.self.inside.bytes c.as_slice-2.result.now c.self.inside.at c.as_slice-2.ensures in
    let rest : length c.args.self.now.rest ≡ length c.self.inside.bytes - c.self.inside.at = ap (λ (s : SourceState). length s.rest) (sym c.self.view_is) ∙ length-drop c.self.inside.at c.self.inside.bytes in
    let step : c.args.self.now.step ≡ c.self.inside.step = ap (λ (s : SourceState). s.step) (sym c.self.view_is) in
    omega (arith, c.min-count.ensures, c.min.ensures, long, rest, step)
