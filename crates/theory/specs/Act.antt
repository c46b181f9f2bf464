-- The four acts, and what each does to the state and the tally.
--
-- In order: the acts; the act that carries out a choice; the rules that an act moves, marks and resets; the state after it; the tally after it.
-- Assumes nothing.
use Rattle.std.specs.Prelude.{ℕ, ◌+◌, true, false, cond, leb}
use Rattle.theory.specs.Limits.{entries}
use Rattle.theory.specs.Sets.{Rules, ∅, ◌∪◌, ◌∖◌, sum, size}
use Rattle.theory.specs.Changes.{positive, negative}
use Rattle.theory.specs.State.{State, moved}
use Rattle.theory.specs.Tally.{Tally}
use Rattle.theory.specs.Choice.{Choice, nothing, change}

-- An act, with the rules that it moves.
pub data Act : Type 0 where
  none : Act
  fetch : Rules → Act
  evict : Rules → Act
  flush : Rules → Act

-- A negative changeset is evicted. A positive one is fetched if the cached rules and it are at most the capacity; else every cached rule leaves.
abbrev pub act : State → Choice → Act
act s nothing = none
act s (change negative X) = evict X
act s (change positive X) = cond (leb (size entries s.cached + size entries X) s.capacity) (fetch X) (flush s.cached)

abbrev pub moves : Act → Rules
moves none = ∅
moves (fetch X) = X
moves (evict X) = X
moves (flush C) = C

-- The rules whose mark becomes the round: a flush leaves the marks.
abbrev pub marks : Act → Rules
marks none = ∅
marks (fetch X) = X
marks (evict X) = X
marks (flush C) = ∅

-- The rules whose counter becomes 0: at a flush every rule's.
abbrev pub resets : Act → Rules
resets none = ∅
resets (fetch X) = X
resets (evict X) = X
resets (flush C) = λ i. true

abbrev pub cached_after : Act → Rules → Rules
cached_after none C = C
cached_after (fetch X) C = C ∪ X
cached_after (evict X) C = C ∖ X
cached_after (flush F) C = ∅

-- The state after an act in a round.
unfoldable pub acted : Act → ℕ → State → State
acted a round s =
    record {
      n = s.n;
      charge = s.charge;
      capacity = s.capacity;
      parent = s.parent;
      cached = cached_after a s.cached;
      counter = λ i. elim (resets a i) [ true ↦ 0 | false ↦ s.counter i ];
      mark = λ i. elim (marks a i) [ true ↦ moved round | false ↦ s.mark i ];
    }

abbrev pub fetched_by : Act → ℕ
fetched_by none = 0
fetched_by (fetch X) = size entries X
fetched_by (evict X) = 0
fetched_by (flush C) = 0

abbrev pub evicted_by : Act → ℕ
evicted_by none = 0
evicted_by (fetch X) = 0
evicted_by (evict X) = size entries X
evicted_by (flush C) = 0

abbrev pub flushed_by : Act → ℕ
flushed_by none = 0
flushed_by (fetch X) = 0
flushed_by (evict X) = 0
flushed_by (flush C) = size entries C

-- x at a flush, else 0.
abbrev pub at_flush : Act → ℕ → ℕ
at_flush none x = 0
at_flush (fetch X) x = 0
at_flush (evict X) x = 0
at_flush (flush C) x = x

-- The tally after an act in state s.
unfoldable pub booked : Act → State → Tally → Tally
booked a s t =
    record {
      rounds = t.rounds;
      paid = t.paid;
      fetched = t.fetched + fetched_by a;
      evicted = t.evicted + evicted_by a;
      flushed = t.flushed + flushed_by a;
      standing = sum entries (acted a t.rounds s).counter;
      wiped = t.wiped + at_flush a (sum entries s.counter);
      flushes = t.flushes + at_flush a 1;
    }
