-- How long a text may be.
use Rattle.std.specs.Prelude.{ℕ}

-- the length of the longest text that is read, in bytes: 1 MiB
abbrev pub longest : ℕ
longest = 1048576
