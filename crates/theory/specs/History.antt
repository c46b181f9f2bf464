-- Histories: what was asked and answered since a load, and the amounts of demand 3 read off that alone.
--
-- In order: events; rounds, payments and moves; the cache; each rule's counter and what stands; what was wiped; the runs whose events are the step's.
-- A history holds its newest event first.
-- Assumes nothing.
use Rattle.std.specs.Prelude.{ℕ, ◌+◌, false, cond, List, [], ◌∷◌, eqb}
use Rattle.theory.specs.Limits.{entries}
use Rattle.theory.specs.Sets.{Rules, sum}
use Rattle.theory.specs.State.{Table, State, fresh}
use Rattle.theory.specs.Tally.{Tally, all_zero}
use Rattle.theory.specs.Sound.{Formed}
use Rattle.theory.specs.Payment.{Request, Payment, cost}
use Rattle.theory.specs.Act.{Act, resets, cached_after, fetched_by, evicted_by, flushed_by, at_flush}
use Rattle.theory.specs.Step.{Lent, Answer, refused, done, Step}

-- A request and its answer. A refused one did nothing.
pub data Event : Type 0 where
  asked : Request → Answer → Event

abbrev pub History : Type 0
History = List Event

-- The sum, over the accepted requests, of what each one's rule, payment and act give.
unfoldable pub total : (ℕ → Payment → Act → ℕ) → History → ℕ
total f [] = 0
total f (asked q (refused r) ∷ h) = total f h
total f (asked q (done p a) ∷ h) = total f h + f q.rule p a

abbrev pub rounds : History → ℕ
rounds = total (λ v p a. 1)

abbrev pub paid : History → ℕ
paid = total (λ v p a. cost p)

abbrev pub fetched : History → ℕ
fetched = total (λ v p a. fetched_by a)

abbrev pub evicted : History → ℕ
evicted = total (λ v p a. evicted_by a)

abbrev pub flushed : History → ℕ
flushed = total (λ v p a. flushed_by a)

abbrev pub flushes : History → ℕ
flushes = total (λ v p a. at_flush a 1)

-- The rules that the acts have left in the cache.
unfoldable pub cache : History → Rules
cache [] i = false
cache (asked q (refused r) ∷ h) i = cache h i
cache (asked q (done p a) ∷ h) i = cached_after a (cache h) i

-- The events since rule i last moved or was wiped.
unfoldable pub since : ℕ → History → History
since i [] = []
since i (asked q (refused r) ∷ h) = since i h
since i (asked q (done p a) ∷ h) = cond (resets a i) [] (asked q (done p a) ∷ since i h)

-- x if the two rules are the same, else 0.
abbrev pub if_same : ℕ → ℕ → ℕ → ℕ
if_same v i x = cond (eqb i v) x 0

-- A rule's paid requests since it last moved or was wiped.
abbrev pub counter : History → ℕ → ℕ
counter h i = total (λ v p a. if_same v i (cost p)) (since i h)

abbrev pub standing : History → ℕ
standing h = sum entries (counter h)

-- The counters just before each flush, the paying request's own step included.
unfoldable pub wiped : History → ℕ
wiped [] = 0
wiped (asked q (refused r) ∷ h) = wiped h
wiped (asked q (done p a) ∷ h) = wiped h + at_flush a (standing h + cost p)

-- `Run t h s y`: a load of t and then the requests of h, refused ones included, leave state s and tally y.
pub data Run (t : Table) : History → State → Tally → Type 0 where
  loaded : Formed (fresh t) → Run t [] (fresh t) all_zero
  then : {h : History} {l m : Lent} {q : Request} {a : Answer} → Run t h l.state l.tally → Step l q a m →
      Run t (asked q a ∷ h) m.state m.tally
