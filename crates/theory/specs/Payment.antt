-- What a request is, and whether it is paid for.
-- Assumes nothing.
use Rattle.std.specs.Prelude.{ℕ, suc, ◌+◌, Bool, true, false, eqb}
use Rattle.theory.specs.Limits.{entries}
use Rattle.theory.specs.Sets.{Rules, sum}
use Rattle.theory.specs.Changes.{Sign, positive, negative}
use Rattle.theory.specs.State.{State}
use Rattle.theory.specs.Tally.{Tally}

pub record Request : Type 0 where
  pub sign : Sign
  pub rule : ℕ

pub data Payment : Type 0 where
  free : Payment
  paid : Payment

-- A positive request to an uncached rule, or a negative one to a cached rule, is paid for.
abbrev pub payment_for : Sign → Bool → Payment
payment_for positive true = free
payment_for positive false = paid
payment_for negative true = paid
payment_for negative false = free

abbrev pub payment : Rules → Request → Payment
payment cached q = payment_for q.sign (cached q.rule)

abbrev pub cost : Payment → ℕ
cost free = 0
cost paid = 1

-- One more at v.
abbrev pub raise : ℕ → (ℕ → ℕ) → ℕ → ℕ
raise v c i = elim (eqb i v) [ true ↦ suc (c i) | false ↦ c i ]

-- The counters after a payment for rule v.
abbrev pub raised_by : Payment → ℕ → (ℕ → ℕ) → ℕ → ℕ
raised_by free v c = c
raised_by paid v c = raise v c

-- The state after the payment, before any act.
unfoldable pub served : State → Request → State
served s q =
    record {
      n = s.n;
      charge = s.charge;
      capacity = s.capacity;
      parent = s.parent;
      cached = s.cached;
      counter = raised_by (payment s.cached q) q.rule s.counter;
      mark = s.mark;
    }

-- The tally after it: the round number rises, paid or not.
unfoldable pub billed : State → Tally → Request → Tally
billed s t q =
    record {
      rounds = suc t.rounds;
      paid = t.paid + cost (payment s.cached q);
      fetched = t.fetched;
      evicted = t.evicted;
      flushed = t.flushed;
      standing = sum entries (served s q).counter;
      wiped = t.wiped;
      flushes = t.flushes;
    }
