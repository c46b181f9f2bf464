-- The three demands on requests, as statements over the definitions and nothing else.
--
-- In order: every request is decided; its act is that of Tree Caching; what a run pays bounds what it moves.
-- Assumes nothing.
use Rattle.std.specs.Prelude.{ℕ, ◌+◌, ◌*◌, ◌<◌, ◌≤◌, ◌↔◌, ◌≡◌}
use Rattle.theory.specs.Limits.{entries}
use Rattle.theory.specs.Sets.{Rules, size}
use Rattle.theory.specs.Tree.{Closed}
use Rattle.theory.specs.Changes.{Sign, positive, negative, Board, Valid, Saturated, Quiet, Greatest}
use Rattle.theory.specs.State.{Table, State, fresh, rules, board}
use Rattle.theory.specs.Tally.{Tally}
use Rattle.theory.specs.Refusals.{Refusal}
use Rattle.theory.specs.Payment.{Request, Payment, served}
use Rattle.theory.specs.Act.{Act, none, fetch, evict, flush}
use Rattle.theory.specs.Step.{Lent, Answer, refused, done, Step}
use Rattle.theory.specs.History.{History, rounds, paid, fetched, evicted, flushed, flushes, cache, counter, standing, wiped, Run}

-- Every request has a result or a refusal, only one, and a refusal leaves all that was lent as it was.
pub record Decided : Type 0 where
  pub answered : (l : Lent) (q : Request) → (a : Answer) × (m : Lent) × Step l q a m
  pub one_answer : {l m m' : Lent} {q : Request} {a a' : Answer} → Step l q a m → Step l q a' m' → a ≡ a'
  pub one_result : {l m m' : Lent} {q : Request} {a a' : Answer} → Step l q a m → Step l q a' m' → m ≡ m'
  pub kept : {l m : Lent} {q : Request} {r : Refusal} → Step l q (refused r) m → m ≡ l

-- Some valid changeset of the board is saturated.
abbrev pub Asks : Board → Type 0
Asks b = (g : Sign) × (X : Rules) × Valid g b X × Saturated b X

-- The act is the one that Tree Caching takes on a state's board: nothing, or by the saturated changeset that contains all others.
abbrev pub Takes : State → Act → Type 0
Takes s none = Quiet (board s)
Takes s (fetch X) = Greatest (board s) positive X × (size entries s.cached + size entries X ≤ s.capacity)
Takes s (evict X) = Greatest (board s) negative X
Takes s (flush C) =
    (X : Rules) × Greatest (board s) positive X × (s.capacity < size entries s.cached + size entries X) × (C ≡ s.cached)

-- There is an act exactly when some valid changeset is saturated after the payment, it is that of Tree Caching, and the cache stays closed and within the capacity.
pub record TreeCaching (l : Lent) (q : Request) (a : Act) (m : Lent) : Type 0 where
  pub exactly : (a ≡ none → ⊥) ↔ Asks (board (served l.state q))
  pub takes : Takes (served l.state q) a
  pub closed : Closed (rules m.state) m.state.parent m.state.cached
  pub within : size entries m.state.cached ≤ m.state.capacity

-- What was paid accounts for the rules moved by changesets and the counters, and bounds all rules moved and the flushes.
pub record Quoted (s : State) (h : History) : Type 0 where
  pub account : paid h ≡ s.charge * (fetched h + evicted h) + standing h + wiped h
  pub moving : s.charge * (fetched h + evicted h + flushed h) ≤ 2 * paid h
  pub flushing : flushes h * s.charge * (s.capacity + 1) ≤ paid h

-- The tally's numbers, the cache and the counters are those that the history tells.
pub record Told (h : History) (s : State) (y : Tally) : Type 0 where
  pub rounds : y.rounds ≡ rounds h
  pub paid : y.paid ≡ paid h
  pub fetched : y.fetched ≡ fetched h
  pub evicted : y.evicted ≡ evicted h
  pub flushed : y.flushed ≡ flushed h
  pub standing : y.standing ≡ standing h
  pub wiped : y.wiped ≡ wiped h
  pub flushes : y.flushes ≡ flushes h
  pub cached : (i : ℕ) → s.cached i ≡ cache h i
  pub counter : (i : ℕ) → s.counter i ≡ counter h i

abbrev pub Demand1 : Type 0
Demand1 = Decided

abbrev pub Demand2 : Type 0
Demand2 = (l m : Lent) (q : Request) (p : Payment) (a : Act) → Step l q (done p a) m → TreeCaching l q a m

abbrev pub Demand3 : Type 0
Demand3 = (t : Table) (h : History) (s : State) (y : Tally) → Run t h s y → Quoted (fresh t) h × Told h s y
