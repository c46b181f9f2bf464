-- Along a run the state and the tally are what the history tells, and a sound end of a run gives the amounts of demand 3.
--
-- In order: what a payment adds to the counters; what a request's event adds to each amount; runs; the amounts.
-- Assumes nothing.
use Rattle.std.specs.Prelude.{ℕ, suc, ◌+◌, ◌*◌, ◌<◌, ◌≤◌, Bool, true, false, cond, not, ◌&&◌, ◌||◌, [], ◌∷◌, ◌≡◌, refl, eqb}
use Rattle.std.proofs.Common.{sym, ap, ◌∙◌, mul-add, mul-le-mul_left, arith}
use Rattle.theory.specs.Limits.{entries}
use Rattle.theory.specs.Sets.{Rules, sum}
use Rattle.theory.specs.State.{Table, State, fresh}
use Rattle.theory.specs.Tally.{Tally, all_zero}
use Rattle.theory.specs.Sound.{Sound}
use Rattle.theory.specs.Refusals.{Refusal, not_a_rule, out_of_rounds, unsound}
use Rattle.theory.specs.Payment.{Request, Payment, cost, payment, raised_by, served, billed}
use Rattle.theory.specs.Act.{Act, none, fetch, evict, flush, resets, cached_after, at_flush, acted, booked}
use Rattle.theory.specs.Step.{Lent, Answer, refused, done, act_of, after, Step, refused_9, refused_7, refused_8, accepted}
use Rattle.theory.specs.History.{History, asked, total, since, cache, if_same, counter, standing, wiped, Run, loaded, then}
use Rattle.theory.specs.Demands.{Quoted, Told}
use Rattle.theory.proofs.Laws.Sums.{sum_eq, sum_zero}
use Rattle.theory.proofs.Laws.Formed.{rules_within}
use Rattle.theory.proofs.Laws.Serving.{sum_raised}

-- ## A payment

-- A payment adds its cost to its own rule's counter.
pub raised : (p : Payment) (v : ℕ) (c : ℕ → ℕ) (i : ℕ) → raised_by p v c i ≡ c i + if_same v i (cost p)
raised Payment.free v c i = go (eqb i v)
  where
    go : (b : Bool) → c i ≡ c i + cond b 0 0
    go true = omega arith
    go false = omega arith
raised Payment.paid v c i = go (eqb i v)
  where
    go : (b : Bool) → elim b [ true ↦ suc (c i) | false ↦ c i ] ≡ c i + cond b 1 0
    go true = omega arith
    go false = omega arith

-- ## An event

cache_next : (a : Act) (C D : Rules) (i : ℕ) → C i ≡ D i → cached_after a C i ≡ cached_after a D i
cache_next none C D i e = e
cache_next (fetch X) C D i e = ap (λ b. b || X i) e
cache_next (evict X) C D i e = ap (λ b. b && not (X i)) e
cache_next (flush F) C D i e = refl

-- A reset counter is 0; another rises by the payment.
counter_next : (h : History) (s : State) (q : Request) (a : Act) (round i : ℕ) → s.counter i ≡ counter h i →
    (acted a round (served s q)).counter i ≡ counter (asked q (done (payment s.cached q) a) ∷ h) i
unfolding total since served acted
counter_next h s q a round i e = go (payment s.cached q) (resets a i)
  where
    own : ℕ → Payment → Act → ℕ
    own v p a = if_same v i (cost p)

    go : (p : Payment) (b : Bool) →
        elim b [ true ↦ 0 | false ↦ raised_by p q.rule s.counter i ] ≡ total own (cond b [] (asked q (done p a) ∷ since i h))
    go p true = refl
    go p false = raised p q.rule s.counter i ∙ ap (λ x. x + if_same q.rule i (cost p)) e

-- What a flush wipes: the counters that stood, and the payment.
wiped_next : (h : History) (p : Payment) (v : ℕ) (a : Act) (c : ℕ → ℕ) → v < entries → ((i : ℕ) → c i ≡ counter h i) →
    at_flush a (sum entries (raised_by p v c)) ≡ at_flush a (standing h + cost p)
wiped_next h p v a c l e =
    ap (at_flush a) (sum_raised entries p v c l ∙ ap (λ x. x + cost p) (sum_eq entries c (counter h) (λ i k. e i)))

-- An accepted request's event tells what the request did, whatever its act.
pub told_accepted : (h : History) (s : State) (y : Tally) (q : Request) (a : Act) → q.rule < entries → Told h s y →
    Told (asked q (done (payment s.cached q) a) ∷ h) (acted a (billed s y q).rounds (served s q))
    (booked a (served s q) (billed s y q))
unfolding total cache wiped served billed acted booked
told_accepted h s y q a l d =
    let p = payment s.cached q in
    let round = suc y.rounds in
    record {
      rounds = omega (arith, d.rounds);
      paid = rw d.paid;
      fetched = rw d.fetched;
      evicted = rw d.evicted;
      flushed = rw d.flushed;
      standing =
          sum_eq entries (acted a round (served s q)).counter (counter (asked q (done p a) ∷ h))
          (λ i k. counter_next h s q a round i (d.counter i));
      wiped = rw d.wiped (ap (λ x. wiped h + x) (wiped_next h p q.rule a s.counter l d.counter));
      flushes = rw d.flushes;
      cached = λ i. cache_next a s.cached (cache h) i (d.cached i);
      counter = λ i. counter_next h s q a round i (d.counter i);
    }

-- A refused request's event tells nothing new.
pub told_refused : (h : History) (s : State) (y : Tally) (q : Request) (r : Refusal) → Told h s y → Told (asked q (refused r) ∷ h) s y
unfolding total cache since wiped
told_refused h s y q r d =
    record {
      rounds = d.rounds;
      paid = d.paid;
      fetched = d.fetched;
      evicted = d.evicted;
      flushed = d.flushed;
      standing = d.standing;
      wiped = d.wiped;
      flushes = d.flushes;
      cached = d.cached;
      counter = d.counter;
    }

-- A step takes what the history tells to what the longer history tells.
pub told_step : {h : History} {l : Lent} {q : Request} {m : Lent} {a : Answer} → Step l q a m → Told h l.state l.tally →
    Told (asked q a ∷ h) m.state m.tally
unfolding after
told_step {h = h} {l = l} {q = q} (refused_9 f) d = told_refused h l.state l.tally q unsound d
told_step {h = h} {l = l} {q = q} (refused_7 f n) d = told_refused h l.state l.tally q not_a_rule d
told_step {h = h} {l = l} {q = q} (refused_8 f n e) d = told_refused h l.state l.tally q out_of_rounds d
told_step {h = h} {l = l} {q = q} (accepted f n e c k) d =
    told_accepted h l.state l.tally q (act_of l q c) (rules_within l.state f.sound.formed q.rule n) d

-- ## Runs

-- A load's empty history tells a fresh state and a tally of zeros.
pub told_loaded : (t : Table) → Told [] (fresh t) all_zero
unfolding total cache since wiped fresh all_zero
told_loaded t =
    record {
      rounds = refl;
      paid = refl;
      fetched = refl;
      evicted = refl;
      flushed = refl;
      standing = sym (sum_zero entries (counter []) (λ i l. refl));
      wiped = refl;
      flushes = refl;
      cached = λ i. refl;
      counter = λ i. refl;
    }

-- Along a run the state and the tally are what the history tells.
pub told : {t : Table} {h : History} {s : State} {y : Tally} → Run t h s y → Told h s y
told {t = t} (loaded f) = told_loaded t
told (then r k) = told_step k (told r)

-- Two states over one table: only cache, counters and marks may differ.
pub record SameTable (s u : State) : Type 0 where
  pub n : s.n ≡ u.n
  pub charge : s.charge ≡ u.charge
  pub capacity : s.capacity ≡ u.capacity
  pub parent : s.parent ≡ u.parent

pub table_refl : (s : State) → SameTable s s
table_refl s = record { n = refl; charge = refl; capacity = refl; parent = refl }

-- A step leaves the table as it is.
pub table_step : {l : Lent} {q : Request} {m : Lent} {a : Answer} → Step l q a m → SameTable m.state l.state
unfolding after served acted
table_step {l = l} (refused_9 f) = table_refl l.state
table_step {l = l} (refused_7 f n) = table_refl l.state
table_step {l = l} (refused_8 f n e) = table_refl l.state
table_step (accepted f n e c k) = record { n = refl; charge = refl; capacity = refl; parent = refl }

-- A run leaves the table as it was loaded.
pub same_table : {t : Table} {h : History} {s : State} {y : Tally} → Run t h s y → SameTable s (fresh t)
same_table {t = t} (loaded f) = table_refl (fresh t)
same_table (then r k) =
    let a = table_step k in
    let b = same_table r in
    record {
      n = a.n ∙ b.n;
      charge = a.charge ∙ b.charge;
      capacity = a.capacity ∙ b.capacity;
      parent = a.parent ∙ b.parent;
    }

-- ## The amounts

-- With at most as many rules flushed as were fetched, what pays for the changesets twice pays for all moves.
moved_twice : (k f e g p : ℕ) → g ≤ f → k * (f + e) ≤ p → k * (f + e + g) ≤ 2 * p
moved_twice k f e g p l b =
    let flushed : k * g ≤ k * (f + e) = mul-le-mul_left k (omega arith) in
    omega (arith, mul-add k (f + e) g)

-- A sound end of a history has the amounts of demand 3.
pub quoted : (s : State) (y : Tally) (h : History) → Sound s y → Told h s y → Quoted s h
quoted s y h o d =
    record {
      account = rw (← d.paid, ← d.fetched, ← d.evicted, ← d.standing, ← d.wiped) o.account;
      moving = rw (← d.paid, ← d.fetched, ← d.evicted, ← d.flushed)
          (moved_twice s.charge y.fetched y.evicted y.flushed y.paid (omega (arith, o.balance)) (omega (arith, o.account)));
      flushing = rw (← d.flushes, ← d.paid) (omega (arith, o.reserve));
    }

-- The same, of the state that the run began with.
pub quoted_fresh : {t : Table} {h : History} {s : State} {y : Tally} → Run t h s y → Sound s y → Quoted (fresh t) h
quoted_fresh {t = t} {h = h} {s = s} {y = y} r o =
    let e = same_table r in
    let u = quoted s y h o (told r) in
    record {
      account = rw e.charge at u.account;
      moving = rw e.charge at u.moving;
      flushing = rw (e.charge, e.capacity) at u.flushing;
    }
