-- The tally: eight numbers that stand beside a state.
-- Assumes nothing.
use Rattle.std.specs.Prelude.{ℕ}

pub record Tally : Type 0 where
  -- requests accepted
  pub rounds : ℕ
  -- requests paid for
  pub paid : ℕ
  -- rules moved by fetches
  pub fetched : ℕ
  -- rules moved by evictions
  pub evicted : ℕ
  -- rules evicted by flushes
  pub flushed : ℕ
  -- the sum of all counters now
  pub standing : ℕ
  -- the sum of the counters just before each flush
  pub wiped : ℕ
  pub flushes : ℕ

-- All start at 0.
unfoldable pub all_zero : Tally
all_zero =
    record {
      rounds = 0;
      paid = 0;
      fetched = 0;
      evicted = 0;
      flushed = 0;
      standing = 0;
      wiped = 0;
      flushes = 0;
    }
