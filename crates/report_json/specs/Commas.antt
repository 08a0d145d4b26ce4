-- What stands before a part of a list.
use Rattle.std.specs.Prelude.{ℕ, ◌==◌, List, [], codes, if◌then◌else◌}

-- a comma, but before the first part
abbrev pub comma : ℕ → List ℕ
comma at = if at == 0 then [] else codes ","
