-- From the state between payment and act to a sound one, whichever act is taken.
--
-- In order: the boards that acts leave; sums after an act; what all acts share; nothing, a changeset and a flush; the act that carries out a choice.
-- Assumes nothing.
use Prim.Native.Nat.{ℕ, ◌+◌, ◌*◌, ◌<◌, ◌≤◌}
use Rattle.std.specs.Prelude.{Bool, not, cond, ◌≡◌, ◌⊎◌, leb}
use Rattle.std.proofs.Math.Bool.{true, false}
use Rattle.std.proofs.Math.Path.{refl, ap}
use Rattle.std.proofs.Common.{sym, ◌∙◌, arith, leb-true, leb-false}
use Rattle.std.proofs.Math.Logic.{inl, inr}
use Rattle.std.proofs.Math.Nat.{mul-le-mul_left}
use Rattle.theory.specs.Limits.{entries}
use Rattle.theory.specs.Sets.{Rules, ◌∈◌, ◌∉◌, ◌⊆◌, ∅, ◌∪◌, ◌∩◌, ◌∖◌, sum, if_in, over, size}
use Rattle.theory.specs.Tree.{Closed}
use Rattle.theory.specs.Changes.{Sign, positive, negative, Board, Valid, Quiet, Ready, Greatest}
use Rattle.theory.specs.State.{State, never, moved, rules, board, Blank}
use Rattle.theory.specs.Tally.{Tally}
use Rattle.theory.specs.Sound.{Formed, InRounds, SoundWith, Sound}
use Rattle.theory.specs.Choice.{Choice, nothing, change, Chosen}
use Rattle.theory.specs.Act.{Act, none, fetch, evict, flush, act, marks, resets, cached_after, acted, booked, fetched_by, evicted_by, flushed_by, at_flush}
use Rattle.theory.proofs.Laws.Sums.{in_or_out, clash, and_both, or_one, sum_split, sum_zero, over_zero, over_cut, over_eq, over_disjoint}
use Rattle.theory.proofs.Laws.Lemma1.{lemma_1, left_by, emptied_quiet}
use Rattle.theory.proofs.Laws.Formed.{formed_over, sound_proper}

-- ## Sums after an act

-- What is reset and what is left make up the sum.
reset_sum : (n : ℕ) (X : Rules) (f : ℕ → ℕ) → sum n f ≡ sum n (λ i. elim (X i) [ true ↦ 0 | false ↦ f i ]) + over n X f
reset_sum n X f =
    sum_split n f (λ i. elim (X i) [ true ↦ 0 | false ↦ f i ]) (λ i. if_in (X i) (f i)) (λ i l. one i)
  where
    one : (i : ℕ) → f i ≡ elim (X i) [ true ↦ 0 | false ↦ f i ] + if_in (X i) (f i)
    one i = elim (in_or_out X i) [ inl m ↦ rw m (omega arith) | inr m ↦ rw m (omega arith) ]

-- ## What an act does to one rule

module _ (a : Act) (round : ℕ) (s : State) (i : ℕ) where
  pub counter_reset : i ∈ resets a → (acted a round s).counter i ≡ 0
  unfolding acted
  counter_reset m = rw (m, acted)

  pub counter_kept : i ∉ resets a → (acted a round s).counter i ≡ s.counter i
  unfolding acted
  counter_kept m = rw (m, acted)

  pub mark_set : i ∈ marks a → (acted a round s).mark i ≡ moved round
  unfolding acted
  mark_set m = rw (m, acted)

  pub mark_kept : i ∉ marks a → (acted a round s).mark i ≡ s.mark i
  unfolding acted
  mark_kept m = rw (m, acted)

-- ## What all acts share

-- A rule in the cache after the act was in it before, or its mark is the round.
abbrev Marked : Act → State → Type 0
Marked a s = (i : ℕ) → i ∈ cached_after a s.cached → (i ∈ marks a) ⊎ (i ∈ s.cached)

module _ (a : Act) {Q : Board → Type 0} {s : State} {t : Tally} (w : SoundWith Q s t) (one : 1 ≤ t.rounds)
    (inside : marks a ⊆ rules s) (marked : Marked a s) where
  acted_formed : Formed (acted a t.rounds s)
  unfolding acted
  acted_formed = formed_over s w.formed _ _ _

  unmarked : (i : ℕ) → i ∉ rules s → i ∉ marks a
  unmarked i h = elim (in_or_out (marks a) i) [ inl m ↦ absurd (clash (rules s i) (inside i m) h) | inr m ↦ m ]

  outside : (i : ℕ) → i ∉ rules s → i ∉ s.cached → i ∉ cached_after a s.cached
  outside i h u =
      elim (in_or_out (cached_after a s.cached) i) [
        | inl m ↦
            elim (marked i m) [
              | inl k ↦ absurd (clash (rules s i) (inside i k) h)
              | inr k ↦ absurd (clash (s.cached i) k u)
            ]
        | inr m ↦ m
      ]

  zero_stays : (i : ℕ) → s.counter i ≡ 0 → (acted a t.rounds s).counter i ≡ 0
  zero_stays i e =
      elim (in_or_out (resets a) i) [
        | inl m ↦ counter_reset a t.rounds s i m
        | inr m ↦ counter_kept a t.rounds s i m ∙ e
      ]

  acted_blank : (i : ℕ) → i < entries → i ∉ rules s → Blank (acted a t.rounds s) i
  unfolding acted
  acted_blank i l h =
      let b : Blank s i = w.blank i l h in
      record {
        parent = b.parent;
        uncached = outside i h b.uncached;
        counter = zero_stays i b.counter;
        mark = mark_kept a t.rounds s i (unmarked i h) ∙ b.mark;
      }

  acted_marks : (i : ℕ) → i ∈ rules s → InRounds t.rounds ((acted a t.rounds s).mark i)
  acted_marks i h =
      elim (in_or_out (marks a) i) [
        | inl m ↦ rw (mark_set a t.rounds s i m) (one, omega arith)
        | inr m ↦ rw (mark_kept a t.rounds s i m) (w.marks i h)
      ]

  acted_moved : (i : ℕ) → i ∈ rules s → i ∈ cached_after a s.cached → (acted a t.rounds s).mark i ≡ never → ⊥
  acted_moved i h k e =
      elim (in_or_out (marks a) i) [
        | inl m ↦ some_round (sym (mark_set a t.rounds s i m) ∙ e)
        | inr m ↦
            elim (marked i k) [
              | inl j ↦ clash (marks a i) j m
              | inr j ↦ w.cached_moved i h j (sym (mark_kept a t.rounds s i m) ∙ e)
            ]
      ]
    where
      some_round : moved t.rounds ≡ never → ⊥
      some_round e = let z : ◌≡◌ {A = ℕ} 0 1 = cc in omega arith

  -- What is left to show of one act: the cache, the changesets, and the tally's equations over the counters that stand.
  acted_with : (k : ℕ) → sum entries (acted a t.rounds s).counter ≡ k →
      Closed (rules s) s.parent (cached_after a s.cached) →
      size entries (cached_after a s.cached) ≤ s.capacity →
      Quiet (board (acted a t.rounds s)) →
      t.paid ≡
      s.charge * (t.fetched + fetched_by a + (t.evicted + evicted_by a)) + k + (t.wiped + at_flush a (sum entries s.counter)) →
      size entries (cached_after a s.cached) + (t.evicted + evicted_by a) + (t.flushed + flushed_by a) ≡ t.fetched + fetched_by a →
      (t.flushes + at_flush a 1) * s.charge * (s.capacity + 1) + s.charge * size entries (cached_after a s.cached) + k ≤ t.paid →
      Sound (acted a t.rounds s) (booked a s t)
  unfolding acted booked rules
  acted_with k e c n q account balance reserve =
      record {
        formed = acted_formed;
        blank = acted_blank;
        closed = c;
        within_capacity = n;
        changesets = q;
        rounds = w.rounds;
        paid = w.paid;
        standing = refl;
        account = rw e account;
        balance = balance;
        reserve = rw e reserve;
        marks = acted_marks;
        cached_moved = acted_moved;
      }

-- ## Nothing

none_sound : {v : ℕ} {s : State} {t : Tally} → SoundWith (λ b. Ready b v) s t → 1 ≤ t.rounds → Quiet (board s) →
    Sound (acted none t.rounds s) (booked none s t)
unfolding acted rules
none_sound {s = s} {t = t} w one q =
    acted_with none w one (λ i m. absurd (clash false m refl)) (λ i m. inr m) t.standing (sym w.standing) w.closed
    w.within_capacity q (omega (arith, w.account)) (omega (arith, w.balance)) (omega (arith, w.reserve))

-- ## A changeset

-- What holds of a changeset that is acted on, and of what then stands.
module _ {v : ℕ} {s : State} {t : Tally} (w : SoundWith (λ b. Ready b v) s t) (one : 1 ≤ t.rounds) {X : Rules} where
  exact : (g : Sign) → Greatest (board s) g X → over entries X s.counter ≡ size entries X * s.charge
  exact g x = (lemma_1 (board s) (sound_proper w) w.changesets g X x).exact

  stands : (g : Sign) → Greatest (board s) g X →
      t.standing ≡ sum entries (λ i. elim (X i) [ true ↦ 0 | false ↦ s.counter i ]) + size entries X * s.charge
  stands g x = omega (arith, w.standing, reset_sum entries X s.counter, exact g x)

  quiet : (g : Sign) → Greatest (board s) g X → Quiet (left_by g X (board s))
  quiet g x = (lemma_1 (board s) (sound_proper w) w.changesets g X x).quiet

  joined : Valid positive (board s) X → size entries (s.cached ∪ X) ≡ size entries s.cached + size entries X
  joined x =
      over_disjoint entries s.cached X (λ i. 1)
      (λ i m. elim (in_or_out X i) [ inl h ↦ absurd (clash (s.cached i) m (x.uncached i h)) | inr h ↦ h ])

  parted : Valid negative (board s) X → size entries s.cached ≡ size entries (s.cached ∖ X) + size entries X
  parted x =
      omega (
        arith,
        over_cut entries s.cached X (λ i. 1),
        over_eq entries (s.cached ∩ X) X (λ i. 1) (λ i. 1) (λ i m. (and_both (s.cached i) (X i) m).1)
            (λ i m. let c : i ∈ s.cached = x.cached i m in cc) (λ i l m. refl),
      )

  fetch_sound : Greatest (board s) positive X → size entries s.cached + size entries X ≤ s.capacity →
      Sound (acted (fetch X) t.rounds s) (booked (fetch X) s t)
  unfolding acted rules
  fetch_sound x fits =
      let z : Valid positive (board s) X = x.valid in
      let k : ℕ = sum entries (λ i. elim (X i) [ true ↦ 0 | false ↦ s.counter i ]) in
      acted_with (fetch X) w one z.within (λ i m. elim (or_one (s.cached i) (X i) m) [ inl h ↦ inr h | inr h ↦ inl h ]) k refl z.closed
      (omega (arith, joined z)) (quiet positive x) (omega (arith, w.account, stands positive x)) (omega (arith, w.balance, joined z))
      (omega (arith, w.reserve, stands positive x, ap (λ (n : ℕ). s.charge * n) (joined z)))

  evict_sound : Greatest (board s) negative X → Sound (acted (evict X) t.rounds s) (booked (evict X) s t)
  unfolding acted rules
  evict_sound x =
      let z : Valid negative (board s) X = x.valid in
      let k : ℕ = sum entries (λ i. elim (X i) [ true ↦ 0 | false ↦ s.counter i ]) in
      acted_with (evict X) w one z.within (λ i m. inr (and_both (s.cached i) (not (X i)) m).0) k refl z.closed
      (omega (arith, parted z, w.within_capacity)) (quiet negative x) (omega (arith, w.account, stands negative x))
      (omega (arith, w.balance, parted z)) (omega (arith, w.reserve, stands negative x, ap (λ (n : ℕ). s.charge * n) (parted z)))

  -- The changeset that had no room counted the charge for each rule above the capacity.
  flush_sound : Greatest (board s) positive X → s.capacity < size entries s.cached + size entries X →
      Sound (acted (flush s.cached) t.rounds s) (booked (flush s.cached) s t)
  unfolding acted rules
  flush_sound x full =
      let none_left : size entries ∅ ≡ 0 = over_zero entries ∅ (λ i. 1) (λ i l m. absurd (clash false m refl)) in
      let most : s.charge * (s.capacity + 1) ≤ s.charge * (size entries s.cached + size entries X) =
      mul-le-mul_left s.charge (omega arith) in
      acted_with (flush s.cached) w one (λ i m. absurd (clash false m refl)) (λ i m. absurd (clash false m refl)) 0
      (sum_zero entries (λ i. 0) (λ i l. refl)) (λ i j l m r. m) (omega arith) (emptied_quiet (board s) (sound_proper w))
      (omega (arith, w.account, w.standing)) (omega (arith, w.balance))
      (omega (arith, w.reserve, stands positive x, ap (λ (n : ℕ). s.charge * n) none_left))

-- ## The act that carries out a choice

pub act_sound : {v : ℕ} {s : State} {t : Tally} (c : Choice) → SoundWith (λ b. Ready b v) s t → 1 ≤ t.rounds → Chosen (board s) c →
    Sound (acted (act s c) t.rounds s) (booked (act s c) s t)
act_sound nothing w one q = none_sound w one q
act_sound (change negative X) w one x = evict_sound w one x
act_sound {s = s} {t = t} (change positive X) w one x = room (leb (size entries s.cached + size entries X) s.capacity) refl
  where
    room : (fits : Bool) → leb (size entries s.cached + size entries X) s.capacity ≡ fits →
        Sound (acted (cond fits (fetch X) (flush s.cached)) t.rounds s) (booked (cond fits (fetch X) (flush s.cached)) s t)
    room true e = fetch_sound w one x (leb-true (size entries s.cached + size entries X) s.capacity e)
    room false e = flush_sound w one x (omega (arith, leb-false (size entries s.cached + size entries X) s.capacity e))
