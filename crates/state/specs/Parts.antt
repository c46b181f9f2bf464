-- The parts of soundness, said of the columns of a lent state.
-- Assumes nothing.
use Rattle.std.specs.Prelude.{ℕ, ◌<◌, ◌≤◌, ◌≡◌, length, slice_index_or}
use Rattle.theory.specs.Limits.{entries}
use Rattle.theory.specs.Sets.{◌∈◌}
use Rattle.theory.specs.State as Theory
use Rattle.theory.specs.Sound.{InRounds, Sound}
use Rattle.state.specs.Columns.{read, told, Readable}
use Rattle.state.specs.declared.state.State.{State}
use Rattle.state.specs.declared.table.Table.{Table}
use Rattle.state.specs.declared.tally.Tally.{Tally}

-- From 1 to most.
pub record InRange (most x : ℕ) : Type 0 where
  pub low : 1 ≤ x
  pub high : x ≤ most

-- Rule 0 has no parent and every other rule has one with a smaller number.
pub record Placed (t : Table) : Type 0 where
  pub range : InRange entries t.n
  pub root : slice_index_or t.parent 0 65535 ≡ 65535
  pub smaller : (i : ℕ) → 1 ≤ i → i < t.n → slice_index_or t.parent i 65535 < i

-- Each entry from n on holds nothing.
abbrev pub Blanks : State → Type 0
Blanks s = (i : ℕ) → s.table.n ≤ i → i < entries → Theory.Blank (read s) i

-- The mark is one that a rule may have after so many rounds.
pub record Marked (rounds : ℕ) (s : State) (i : ℕ) : Type 0 where
  pub in_rounds : InRounds rounds ((read s).mark i)
  pub moved : i ∈ (read s).cached → (read s).mark i ≡ Theory.never → ⊥

-- Columns of 1,024 entries that are read in one way, as a sound state beside the tally.
pub record SoundColumns (s : State) (t : Tally) : Type 0 where
  pub parent_long : length s.table.parent ≡ entries
  pub cached_long : length s.cached ≡ entries
  pub counter_long : length s.counter ≡ entries
  pub kind_long : length s.kind ≡ entries
  pub round_long : length s.round ≡ entries
  pub readable : Readable s
  pub sound : Sound (read s) (told t)
