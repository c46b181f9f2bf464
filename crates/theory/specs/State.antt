-- The table and the state, as mathematics: one entry for each of the numbers below `entries`.
--
-- In order: a table as its text gives it, with what a capacity of "-" means; marks; the state and which of its entries are rules; blank; fresh.
-- Not here: what makes a state sound (`Sound`), the tally (`Tally`).
-- Assumes nothing.
use Rattle.std.specs.Prelude.{ℕ, List, ◌≡◌, ltb, length, get_or}
use Rattle.theory.specs.Sets.{Rules, ◌∉◌, ∅}
use Rattle.theory.specs.Tree.{Parent, no_parent, Parents}
use Rattle.theory.specs.Changes.{Board}

-- A capacity as a text gives it: "-" or a number.
pub data Capacity : Type 0 where
  dash : Capacity
  given : ℕ → Capacity

-- The capacity in force over n rules: "-" means n.
unfoldable pub resolved : Capacity → ℕ → ℕ
resolved dash n = n
resolved (given k) n = k

-- What a table text gives: the parents of rules 0, 1, .. in order.
pub record Table : Type 0 where
  pub charge : ℕ
  pub capacity : Capacity
  pub parents : List Parent

-- When a rule last moved. Never is a mark of its own and no round.
pub data Mark : Type 0 where
  never : Mark
  moved : ℕ → Mark

pub record State : Type 0 where
  pub n : ℕ
  pub charge : ℕ
  pub capacity : ℕ
  pub parent : Parents
  pub cached : Rules
  pub counter : ℕ → ℕ
  pub mark : ℕ → Mark

-- The entries that are rules.
unfoldable pub rules : State → Rules
rules s i = ltb i s.n

-- What a changeset of the state is judged by.
abbrev pub board : State → Board
board s =
    record {
      rules = rules s;
      charge = s.charge;
      parent = s.parent;
      cached = s.cached;
      counter = s.counter;
    }

-- An entry that holds nothing.
pub record Blank (s : State) (i : ℕ) : Type 0 where
  pub parent : s.parent i ≡ no_parent
  pub uncached : i ∉ s.cached
  pub counter : s.counter i ≡ 0
  pub mark : s.mark i ≡ never

-- The state that a load leaves: an empty cache, all counters at 0, all marks at never.
unfoldable pub fresh : Table → State
fresh t =
    record {
      n = length t.parents;
      charge = t.charge;
      capacity = resolved t.capacity (length t.parents);
      parent = λ i. get_or t.parents i no_parent;
      cached = ∅;
      counter = λ i. 0;
      mark = λ i. never;
    }
