-- A fresh state with an all-zero tally is sound, and so is every state that a run reaches.
-- Assumes nothing.
use Rattle.std.specs.Prelude.{ℕ, ◌<◌, ◌≤◌, false, ◌≡◌, refl, length}
use Rattle.std.proofs.Common.{sym, arith}
use Rattle.std.proofs.Math.ListN.{get_or-eq_default}
use Rattle.theory.specs.Limits.{entries}
use Rattle.theory.specs.Sets.{◌∉◌, ∅, sum, size}
use Rattle.theory.specs.Tree.{no_parent}
use Rattle.theory.specs.Changes.{Quiet}
use Rattle.theory.specs.State.{Table, State, rules, board, Blank, fresh}
use Rattle.theory.specs.Tally.{Tally, all_zero}
use Rattle.theory.specs.Sound.{Formed, Sound}
use Rattle.theory.specs.History.{History, Run, loaded, then}
use Rattle.theory.proofs.Laws.Sums.{clash, sum_zero, over_zero}
use Rattle.theory.proofs.Laws.Lemma1.{emptied_quiet}
use Rattle.theory.proofs.Laws.Formed.{rule_is, formed_proper}
use Rattle.theory.proofs.Laws.Stepping.{step_sound}

fresh_blank : (t : Table) (i : ℕ) → i ∉ rules (fresh t) → Blank (fresh t) i
unfolding fresh
fresh_blank t i h =
    record {
      parent =
          get_or-eq_default t.parents no_parent
          (past (length t.parents) i (λ l. clash (rules (fresh t) i) ((rule_is (fresh t) i).1 l) h));
      uncached = refl;
      counter = refl;
      mark = refl;
    }
  where
    past : (a b : ℕ) → (b < a → ⊥) → a ≤ b
    past a b f = omega (arith, f)

fresh_quiet : (t : Table) → Formed (fresh t) → Quiet (board (fresh t))
unfolding fresh
fresh_quiet t f = emptied_quiet (board (fresh t)) (formed_proper (fresh t) f (λ i l h. fresh_blank t i h) (λ i j l m r. m))

-- What a load leaves is sound.
pub fresh_sound : (t : Table) → Formed (fresh t) → Sound (fresh t) all_zero
unfolding fresh all_zero
fresh_sound t f =
    let none : size entries ∅ ≡ 0 = over_zero entries ∅ (λ i. 1) (λ i l m. absurd (clash false m refl)) in
    let zeros : sum entries (λ i. 0) ≡ 0 = sum_zero entries (λ i. 0) (λ i l. refl) in
    record {
      formed = f;
      blank = λ i l h. fresh_blank t i h;
      closed = λ i j l m r. m;
      within_capacity = omega (arith, f.some_capacity);
      changesets = fresh_quiet t f;
      rounds = omega arith;
      paid = omega arith;
      standing = sym zeros;
      account = omega arith;
      balance = omega arith;
      reserve = rw none (omega arith);
      marks = λ i m. tt;
      cached_moved = λ i h m e. clash false m refl;
    }

-- After a load and any requests, refused ones included, state and tally are sound.
pub run_sound : {t : Table} {h : History} {s : State} {y : Tally} → Run t h s y → Sound s y
run_sound {t = t} (loaded f) = fresh_sound t f
run_sound (then r k) = step_sound k (run_sound r)
