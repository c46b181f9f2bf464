-- When a lent state and tally are sound: document 01's clauses, in its order.
-- Assumes nothing.
use Rattle.std.specs.Prelude.{ℕ, ◌+◌, ◌*◌, ◌<◌, ◌≤◌, ◌≡◌}
use Rattle.theory.specs.Limits.{entries, most_charge, most_capacity, most_rounds}
use Rattle.theory.specs.Sets.{◌∈◌, ◌∉◌, sum, size}
use Rattle.theory.specs.Tree.{no_parent, under, Closed}
use Rattle.theory.specs.Changes.{Board, Quiet}
use Rattle.theory.specs.State.{State, Mark, never, moved, rules, board, Blank}
use Rattle.theory.specs.Tally.{Tally}

-- Sizes, charge, capacity and parents are in their ranges: what a table text has to give.
pub record Formed (s : State) : Type 0 where
  pub some_rule : 1 ≤ s.n
  pub few_rules : s.n ≤ entries
  pub some_charge : 1 ≤ s.charge
  pub small_charge : s.charge ≤ most_charge
  pub some_capacity : 1 ≤ s.capacity
  pub small_capacity : s.capacity ≤ most_capacity
  -- rule 0 is the root
  pub root : s.parent 0 ≡ no_parent
  -- every other rule has one parent, with a smaller number
  pub parents : (i : ℕ) → i ∈ rules s → 1 ≤ i → (a : ℕ) × (s.parent i ≡ under a) × (a < i)

-- A mark is never, or a round from 1 to the rounds so far.
abbrev pub InRounds : ℕ → Mark → Type 0
InRounds rounds never = Unit
InRounds rounds (moved r) = (1 ≤ r) × (r ≤ rounds)

-- All clauses, where Q is what is asked of the board's changesets.
pub record SoundWith (Q : Board → Type 0) (s : State) (t : Tally) : Type 0 where
  pub formed : Formed s
  pub blank : (i : ℕ) → i < entries → i ∉ rules s → Blank s i
  pub closed : Closed (rules s) s.parent s.cached
  pub within_capacity : size entries s.cached ≤ s.capacity
  pub changesets : Q (board s)
  pub rounds : t.rounds ≤ most_rounds
  pub paid : t.paid ≤ t.rounds
  pub standing : t.standing ≡ sum entries s.counter
  pub account : t.paid ≡ s.charge * (t.fetched + t.evicted) + t.standing + t.wiped
  -- cached rules = fetched − evicted − flushed, not below 0
  pub balance : size entries s.cached + t.evicted + t.flushed ≡ t.fetched
  pub reserve : t.flushes * s.charge * (s.capacity + 1) + s.charge * size entries s.cached + t.standing ≤ t.paid
  pub marks : (i : ℕ) → i ∈ rules s → InRounds t.rounds (s.mark i)
  pub cached_moved : (i : ℕ) → i ∈ rules s → i ∈ s.cached → s.mark i ≡ never → ⊥

-- No valid changeset is saturated, and all the rest.
abbrev pub Sound : State → Tally → Type 0
Sound = SoundWith Quiet
