-- One request, whole: what is lent to it, what it answers, and what it leaves.
--
-- Payment, choice and act follow one another (`Payment`, `Choice`, `Act`); how a choice is found is not said here.
-- Assumes nothing.
use Rattle.std.specs.Prelude.{ℕ, ◌<◌, ◌≤◌, List, ◌++◌, ◌≡◌, length, drop}
use Rattle.theory.specs.Limits.{entries, most_rounds}
use Rattle.theory.specs.Sets.{Rules, ◌∈◌, ◌∉◌, listed}
use Rattle.theory.specs.State.{State, rules, board}
use Rattle.theory.specs.Tally.{Tally}
use Rattle.theory.specs.Sound.{Sound}
use Rattle.theory.specs.Refusals.{Refusal, not_a_rule, out_of_rounds, unsound}
use Rattle.theory.specs.Payment.{Request, Payment, payment, served, billed}
use Rattle.theory.specs.Choice.{Choice, Chooses}
use Rattle.theory.specs.Act.{Act, act, moves, acted, booked}

-- What is lent to a request: the state, the tally, and a list for the moved rules.
pub record Lent : Type 0 where
  pub state : State
  pub tally : Tally
  pub list : List ℕ

pub data Answer : Type 0 where
  refused : Refusal → Answer
  done : Payment → Act → Answer

-- State and tally are sound and the list has an entry for each rule that could move.
pub record Fit (l : Lent) : Type 0 where
  pub sound : Sound l.state l.tally
  pub long : entries ≤ length l.list

-- The members of X ascending at the front of a list, which keeps its entries past them.
unfoldable pub written : Rules → List ℕ → List ℕ
written X xs = listed entries X ++ drop (length (listed entries X)) xs

-- The act of an accepted request that makes Tree Caching choose c.
abbrev pub act_of : Lent → Request → Choice → Act
act_of l q c = act (served l.state q) c

-- What an accepted request leaves.
unfoldable pub after : Lent → Request → Choice → Lent
after l q c =
    let s = served l.state q in
    let t = billed l.state l.tally q in
    let a = act_of l q c in
    record {
      state = acted a t.rounds s;
      tally = booked a s t;
      list = written (moves a) l.list;
    }

-- `Step l q a m`: lent l, the request q answers a and leaves m. It checks 9, then 7, then 8.
pub data Step (l : Lent) (q : Request) : Answer → Lent → Type 0 where
  refused_9 : (Fit l → ⊥) → Step l q (refused unsound) l
  refused_7 : Fit l → q.rule ∉ rules l.state → Step l q (refused not_a_rule) l
  refused_8 : Fit l → q.rule ∈ rules l.state → l.tally.rounds ≡ most_rounds → Step l q (refused out_of_rounds) l
  accepted : Fit l → q.rule ∈ rules l.state → l.tally.rounds < most_rounds →
      (c : Choice) → Chooses (payment l.state.cached q) (board (served l.state q)) c →
      Step l q (done (payment l.state.cached q) (act_of l q c)) (after l q c)
