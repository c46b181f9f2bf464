-- The executable twin is the step: it answers every request, as the step allows.
-- Assumes nothing.
use Rattle.std.specs.Prelude.{ℕ, ◌<◌, ◌≤◌, Bool, true, false, ◌≡◌, refl, eqb}
use Rattle.std.proofs.Common.{sym, arith, eqb-true}
use Rattle.std.proofs.Math.Path.{subst}
use Rattle.std.proofs.lemmas.Bool.{eqb-false}
use Rattle.theory.specs.Limits.{most_rounds}
use Rattle.theory.specs.Sets.{◌∈◌, ◌∉◌}
use Rattle.theory.specs.State.{rules, board}
use Rattle.theory.specs.Refusals.{not_a_rule, out_of_rounds, unsound}
use Rattle.theory.specs.Payment.{Request, free, paid, payment, served}
use Rattle.theory.specs.Choice.{Choice, nothing, Chosen}
use Rattle.theory.specs.Step.{Lent, Answer, refused, done, Fit, act_of, after, Step, refused_9, refused_7, refused_8, accepted}
use Rattle.theory.specs.Twin.{Result, fit, chosen, step}
use Rattle.theory.proofs.Laws.Sums.{clash}
use Rattle.theory.proofs.Laws.Stepping.{one_step}
use Rattle.theory.proofs.Laws.Soundness.{fit_decides}
use Rattle.theory.proofs.Laws.Deciding.{chosen_is}
use Rattle.theory.proofs.Laws.Serving.{served_proper, served_ready, chosen_chooses}

-- ## The twin's results

module _ (l : Lent) (q : Request) where
  -- What the twin chooses for a request.
  abbrev choice : Choice
  choice = chosen (payment l.state.cached q) (board (served l.state q)) q.rule

  step_9 : fit l ≡ false → step l q ≡ record { answer = refused unsound; left = l }
  unfolding step
  step_9 e = rw (e, step)

  step_7 : fit l ≡ true → q.rule ∉ rules l.state → step l q ≡ record { answer = refused not_a_rule; left = l }
  unfolding step
  step_7 e m = rw (e, m, step)

  step_8 : fit l ≡ true → q.rule ∈ rules l.state → eqb l.tally.rounds most_rounds ≡ true →
      step l q ≡ record { answer = refused out_of_rounds; left = l }
  unfolding step
  step_8 e m k = rw (e, m, k, step)

  step_on : fit l ≡ true → q.rule ∈ rules l.state → eqb l.tally.rounds most_rounds ≡ false →
      step l q ≡ record { answer = done (payment l.state.cached q) (act_of l q choice); left = after l q choice }
  unfolding step
  step_on e m k = rw (e, m, k, step)

  -- ## The twin's results are the step's

  choice_free : payment l.state.cached q ≡ free → choice ≡ nothing
  unfolding chosen
  choice_free e = rw e

  choice_paid : Fit l → q.rule ∈ rules l.state → payment l.state.cached q ≡ paid → Chosen (board (served l.state q)) choice
  unfolding served rules
  choice_paid f m e =
      subst (λ p. Chosen (board (served l.state q)) (chosen p (board (served l.state q)) q.rule)) (sym e)
      (chosen_is (board (served l.state q)) (λ i. i) (served_proper l.state l.tally q f.sound) q.rule m
      (served_ready l.state l.tally q f.sound m))

  allowed : (r : Result) → step l q ≡ r → Step l q r.answer r.left → Step l q (step l q).answer (step l q).left
  allowed r e k = subst (λ x. Step l q x.answer x.left) (sym e) k

  fitting : Fit l → fit l ≡ true → (b : Bool) → rules l.state q.rule ≡ b → (c : Bool) → eqb l.tally.rounds most_rounds ≡ c →
      Step l q (step l q).answer (step l q).left
  fitting f e false m c k = allowed (record { answer = refused not_a_rule; left = l }) (step_7 e m) (refused_7 f m)
  fitting f e true m true k =
      allowed (record { answer = refused out_of_rounds; left = l }) (step_8 e m k)
      (refused_8 f m (eqb-true l.tally.rounds most_rounds k))
  fitting f e true m false k =
      allowed (record { answer = done (payment l.state.cached q) (act_of l q choice); left = after l q choice }) (step_on e m k)
      (accepted f m (below f.sound.rounds (eqb-false l.tally.rounds most_rounds k)) choice
      (chosen_chooses l.state q choice choice_free (choice_paid f m)))
    where
      below : {a b : ℕ} → a ≤ b → (a ≡ b → ⊥) → a < b
      below l d = omega (arith, d)

  unfitting : (x : Bool) → fit l ≡ x → Step l q (step l q).answer (step l q).left
  unfitting true e =
      fitting ((fit_decides l).0 e) e (rules l.state q.rule) refl (eqb l.tally.rounds most_rounds) refl
  unfitting false e =
      allowed (record { answer = refused unsound; left = l }) (step_9 e)
      (refused_9 (λ f. clash (fit l) ((fit_decides l).1 f) e))

-- The twin's answer and what it leaves are those of the step.
pub twin_steps : (l : Lent) (q : Request) → Step l q (step l q).answer (step l q).left
twin_steps l q = unfitting l q (fit l) refl

-- Whatever the step allows is what the twin computes.
pub twin_is : {l m : Lent} {q : Request} {a : Answer} → Step l q a m → (a ≡ (step l q).answer) × (m ≡ (step l q).left)
twin_is {l = l} {q = q} k = one_step k (twin_steps l q)
