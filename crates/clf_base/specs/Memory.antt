-- What the devices over memory are, and what one call makes of them.
use Rattle.std.specs.Prelude.{◌≡◌, ℕ, ◌-◌, min, List, length}
use Rattle.clf_base.specs.Causes.{next_count}

-- a source: the bytes that are left, the most bytes of one call, the numbers of the calls that fail, the number of the
-- next call, and how often one has failed
pub record SourceState : Type 0 where
  pub rest : List ℕ
  pub step : ℕ
  pub failing : List ℕ
  pub call : ℕ
  pub faults : ℕ

-- a sink: the bytes that it holds, the most that it has room for, and the rest as for a source
pub record SinkState : Type 0 where
  pub held : List ℕ
  pub room : ℕ
  pub step : ℕ
  pub failing : List ℕ
  pub call : ℕ
  pub faults : ℕ

-- how many bytes a read into a buffer of this length gives
abbrev pub given_count : SourceState → ℕ → ℕ
given_count s len = min (min s.step len) (length s.rest)

-- how many bytes a write of a piece of this length takes
abbrev pub taken_count : SinkState → ℕ → ℕ
taken_count s len = min (min s.step len) (s.room - length s.held)

-- a call counts itself and keeps the rest of the set-up
pub record IsNextCall (old new : SourceState) : Type 0 where
  pub step : new.step ≡ old.step
  pub failing : new.failing ≡ old.failing
  pub call : new.call ≡ next_count old.call

pub record IsNextSinkCall (old new : SinkState) : Type 0 where
  pub room : new.room ≡ old.room
  pub step : new.step ≡ old.step
  pub failing : new.failing ≡ old.failing
  pub call : new.call ≡ next_count old.call
