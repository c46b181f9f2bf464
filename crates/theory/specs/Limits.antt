-- The numbers that bound a table, a state and a run. Each stands here alone.
-- Assumes nothing.
use Rattle.std.specs.Prelude.{ℕ}

-- A state has this many entries, a table at most this many rules.
unfoldable pub entries : ℕ
entries = 1024

unfoldable pub most_charge : ℕ
most_charge = 65535

unfoldable pub most_capacity : ℕ
most_capacity = 1024

-- A request is refused where rounds stands here.
unfoldable pub most_rounds : ℕ
most_rounds = 16777215
