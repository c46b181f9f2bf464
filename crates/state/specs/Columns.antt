-- What a lent state and tally mean: one reading, for every bit pattern.
--
-- In order: an entry of each column; the columns; the state and the tally; what functions tell of an entry; the bit patterns that stand for one thing only;
-- a fresh state.
-- Not here: what makes a state sound (`Parts`).
-- Assumes nothing.
use Rattle.std.specs.Prelude.{ℕ, ◌<◌, ◌≤◌, Bool, if◌then◌else◌, List, ◌≡◌, ◌==◌, Option, Some, None, length, slice_index, slice_index_or}
use Rattle.theory.specs.Limits.{entries}
use Rattle.theory.specs.Sets.{Rules}
use Rattle.theory.specs.Tree.{Parent, no_parent, under, Parents}
use Rattle.theory.specs.State as Theory
use Rattle.theory.specs.Tally as Told
use Rattle.state.specs.declared.state.State.{State}
use Rattle.state.specs.declared.table.Table.{Table}
use Rattle.state.specs.declared.tally.Tally.{Tally}

-- ## An entry

-- 65535 stands for no parent.
abbrev pub parent_of : ℕ → Parent
parent_of x = if x == 65535 then no_parent else under x

-- 1 stands for yes.
abbrev pub flag : ℕ → Bool
flag x = x == 1

-- Kind 0 stands for never.
abbrev pub mark_of : ℕ → ℕ → Theory.Mark
mark_of kind round = if kind == 0 then Theory.never else Theory.moved round

-- ## A column

abbrev pub parents : List ℕ → Parents
parents l i = parent_of (slice_index_or l i 65535)

abbrev pub flagged : List ℕ → Rules
flagged l i = flag (slice_index l i)

abbrev pub numbers : List ℕ → ℕ → ℕ
numbers l i = slice_index l i

abbrev pub marks : List ℕ → List ℕ → ℕ → Theory.Mark
marks kind round i = mark_of (slice_index kind i) (slice_index round i)

-- ## The whole

abbrev pub read : State → Theory.State
read s =
    record {
      n = s.table.n;
      charge = s.table.charge;
      capacity = s.table.capacity;
      parent = parents s.table.parent;
      cached = flagged s.cached;
      counter = numbers s.counter;
      mark = marks s.kind s.round;
    }

abbrev pub told : Tally → Told.Tally
told t =
    record {
      rounds = t.rounds;
      paid = t.paid;
      fetched = t.fetched;
      evicted = t.evicted;
      flushed = t.flushed;
      standing = t.standing;
      wiped = t.wiped;
      flushes = t.flushes;
    }

-- A parent as a function tells it.
abbrev pub told_parent : Option ℕ → Parent
told_parent None = no_parent
told_parent (Some a) = under a

-- A mark as a function tells it: the round, if it is one.
abbrev pub told_mark : Option ℕ → Theory.Mark
told_mark None = Theory.never
told_mark (Some r) = Theory.moved r

-- Flags and kinds are 0 or 1, and never goes with a blank round: such a state is read in one way only.
pub record Readable (s : State) : Type 0 where
  pub flags : (i : ℕ) → i < entries → slice_index s.cached i ≤ 1
  pub kinds : (i : ℕ) → i < entries → slice_index s.kind i ≤ 1
  pub blank_rounds : (i : ℕ) → i < entries → slice_index s.kind i ≡ 0 → slice_index s.round i ≡ 0

-- Every entry of a column of 1,024 is 0.
pub record Zeros (l : List ℕ) : Type 0 where
  pub long : length l ≡ entries
  pub each : (i : ℕ) → i < entries → slice_index l i ≡ 0

-- The state s is of the table t, with an empty cache, all counters at 0 and all marks at never.
pub record Fresh (t : Table) (s : State) : Type 0 where
  pub same_table : s.table ≡ t
  pub no_cached : Zeros s.cached
  pub no_counter : Zeros s.counter
  pub no_kind : Zeros s.kind
  pub no_round : Zeros s.round
