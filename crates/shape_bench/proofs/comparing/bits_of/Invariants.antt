use Rattle.std.proofs.Common.{◌≡◌, vec_len}
use Rattle.shape_bench.proofs.comparing.bits_of.Given as goal

abbrev pub invariant-loop : goal.invariant-loop
invariant-loop l = vec_len l.bits ≡ l.counter
