-- From a sound state to the one between payment and act: sound as before, but for a board that is ready at the requested rule.
--
-- In order: the board after the payment; the state and tally after it; what a request's choice is there.
-- Assumes nothing.
use Rattle.std.specs.Prelude.{ℕ, suc, ◌+◌, ◌<◌, ◌≤◌, ◌≡◌, refl, ◌⊎◌}
use Rattle.std.proofs.Common.{sym, ◌∙◌, subst, inl, inr}
use native.Mathlib.Omega.{arith}
use Rattle.theory.specs.Limits.{entries, most_rounds}
use Rattle.theory.specs.Sets.{Rules, ◌∈◌, ◌∉◌, sum, size}
use Rattle.theory.specs.Changes.{Sign, Valid, Quiet, Ready}
use Rattle.theory.specs.State.{State, Mark, never, moved, rules, board, Blank}
use Rattle.theory.specs.Tally.{Tally}
use Rattle.theory.specs.Sound.{Formed, InRounds, SoundWith, Sound}
use Rattle.theory.specs.Payment.{Request, Payment, free, paid, payment, cost, raised_by, served, billed}
use Rattle.theory.specs.Choice.{Choice, nothing, Chosen, Chooses}
use Rattle.theory.specs.Search.{gain}
use Rattle.theory.proofs.Laws.Sums.{clash, sum_at}
use Rattle.theory.proofs.Laws.Parts.{Proper}
use Rattle.theory.proofs.Laws.Integers.{up}
use Rattle.theory.proofs.Laws.Gains.{quiet_gain, ready_gain}
use Rattle.theory.proofs.Laws.Formed.{rules_within, formed_over, sound_proper}
use Rattle.theory.proofs.Laws.Claim17.{paid_for, raise_at, raise_off, claim_17, quiet_ready}

-- ## The board after the payment

pub served_free : (s : State) (q : Request) → payment s.cached q ≡ free → board (served s q) ≡ board s
unfolding served rules
served_free s q e = rw e

pub served_paid : (s : State) (q : Request) → payment s.cached q ≡ paid → board (served s q) ≡ paid_for q.rule (board s)
unfolding served rules
served_paid s q e = rw e

free_or_paid : (p : Payment) → (p ≡ free) ⊎ (p ≡ paid)
free_or_paid free = inl refl
free_or_paid paid = inr refl

pub served_proper : (s : State) (t : Tally) (q : Request) → Sound s t → Proper (board (served s q)) (λ i. i)
unfolding served rules
served_proper s t q o =
    let p : Proper (board s) (λ i. i) = sound_proper o in
    record { within = p.within; ranked = p.ranked; held = p.held; closed = p.closed; some_charge = p.some_charge }

-- After a request's payment the board is ready at its rule.
pub served_ready : (s : State) (t : Tally) (q : Request) → Sound s t → q.rule ∈ rules s → Ready (board (served s q)) q.rule
served_ready s t q o m =
    elim (free_or_paid (payment s.cached q)) [
      | inl e ↦ rw (served_free s q e) (quiet_ready (board s) q.rule o.changesets)
      | inr e ↦ rw (served_paid s q e) (claim_17 (board s) q.rule (sound_proper o) o.changesets m)
    ]

-- In a sound state, and after one payment from one, a valid changeset's gain is at most its size.
pub sound_gain : (s : State) (t : Tally) → Sound s t → (g : Sign) (X : Rules) → Valid g (board s) X → up (gain (board s) X) ≤ size entries X
sound_gain s t o g X x = quiet_gain (board s) o.changesets g X x

pub served_gain : (s : State) (t : Tally) (q : Request) → Sound s t → q.rule ∈ rules s →
    (g : Sign) (X : Rules) → Valid g (board (served s q)) X → up (gain (board (served s q)) X) ≤ size entries X
served_gain s t q o m g X x = ready_gain (board (served s q)) q.rule (served_ready s t q o m) g X x

-- What a request makes Tree Caching choose is the choice of the board after the payment, free or paid.
pub chooses_chosen : (s : State) (t : Tally) (q : Request) (c : Choice) → Sound s t →
    Chooses (payment s.cached q) (board (served s q)) c → Chosen (board (served s q)) c
chooses_chosen s t q c o h =
    elim (free_or_paid (payment s.cached q)) [
      | inl e ↦
          let n : c ≡ nothing = subst (λ p. Chooses p (board (served s q)) c) e h in
          rw n (subst Quiet (sym (served_free s q e)) o.changesets)
      | inr e ↦ subst (λ p. Chooses p (board (served s q)) c) e h
    ]

pub chosen_chooses : (s : State) (q : Request) (c : Choice) → (payment s.cached q ≡ free → c ≡ nothing) →
    (payment s.cached q ≡ paid → Chosen (board (served s q)) c) → Chooses (payment s.cached q) (board (served s q)) c
chosen_chooses s q c f g =
    elim (free_or_paid (payment s.cached q)) [
      | inl e ↦ subst (λ p. Chooses p (board (served s q)) c) (sym e) (f e)
      | inr e ↦ subst (λ p. Chooses p (board (served s q)) c) (sym e) (g e)
    ]

-- ## The state and tally after it

pub raised_off : (p : Payment) (v : ℕ) (c : ℕ → ℕ) (i : ℕ) → (i ≡ v → ⊥) → raised_by p v c i ≡ c i
raised_off free v c i d = refl
raised_off paid v c i d = raise_off v c i d

-- The counters rise by what the request costs.
pub sum_raised : (n : ℕ) (p : Payment) (v : ℕ) (c : ℕ → ℕ) → v < n → sum n (raised_by p v c) ≡ sum n c + cost p
sum_raised n free v c l = omega arith
sum_raised n paid v c l =
    omega (arith, sum_at n v (raised_by paid v c) c l (λ i k d. raise_off v c i d), raise_at v c)

pub later : (a b : ℕ) (k : Mark) → a ≤ b → InRounds a k → InRounds b k
later a b never l h = tt
later a b (moved r) l (h, k) = (h, omega arith)

module _ (s : State) (t : Tally) (q : Request) (o : Sound s t) (m : q.rule ∈ rules s) where
  served_blank : (i : ℕ) → i < entries → i ∉ rules s → Blank (served s q) i
  unfolding served
  served_blank i l h =
      let b : Blank s i = o.blank i l h in
      record {
        parent = b.parent;
        uncached = b.uncached;
        counter =
            raised_off (payment s.cached q) q.rule s.counter i (λ e. clash (rules s i) (rw e m) h) ∙ b.counter;
        mark = b.mark;
      }

  served_formed : Formed (served s q)
  unfolding served
  served_formed = formed_over s o.formed _ _ _

  served_standing : sum entries (served s q).counter ≡ t.standing + cost (payment s.cached q)
  unfolding served
  served_standing =
      omega (
        arith,
        sum_raised entries (payment s.cached q) q.rule s.counter (rules_within s o.formed q.rule m),
        o.standing,
      )

  cost_most : (p : Payment) → cost p ≤ 1
  cost_most free = omega arith
  cost_most paid = omega arith

  -- Between payment and act all clauses hold, with a board that is ready at the rule.
  pub served_sound : t.rounds < most_rounds → SoundWith (λ b. Ready b q.rule) (served s q) (billed s t q)
  unfolding served rules billed
  served_sound l =
      record {
        formed = served_formed;
        blank = served_blank;
        closed = o.closed;
        within_capacity = o.within_capacity;
        changesets = served_ready s t q o m;
        rounds = l;
        paid = omega (arith, o.paid, cost_most (payment s.cached q));
        standing = refl;
        account = omega (arith, o.account, served_standing);
        balance = o.balance;
        reserve = omega (arith, o.reserve, served_standing);
        marks = λ i h. later t.rounds (suc t.rounds) (s.mark i) (omega arith) (o.marks i h);
        cached_moved = o.cached_moved;
      }
