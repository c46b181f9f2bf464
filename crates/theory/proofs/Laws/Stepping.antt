-- A step has one answer and one result, and keeps what is sound.
--
-- In order: one choice; one step; soundness along a step.
-- Assumes nothing.
use Rattle.std.specs.Prelude.{ℕ, ◌≡◌, refl}
use Rattle.std.proofs.Common.{sym, ap, ap₂, ◌∙◌, inl, inr, arith}
use Rattle.std.proofs.Math.Path.{fun_ext}
use Rattle.theory.specs.Sets.{Rules, ◌∈◌, ◌⊆◌}
use Rattle.theory.specs.Changes.{Sign, positive, negative, Board, Valid, Greatest}
use Rattle.theory.specs.State.{rules, board}
use Rattle.theory.specs.Sound.{Sound}
use Rattle.theory.specs.Refusals.{Refusal}
use Rattle.theory.specs.Payment.{Request, Payment, free, paid, payment, served, billed}
use Rattle.theory.specs.Choice.{Choice, nothing, change, Chooses}
use Rattle.theory.specs.Step.{Lent, Answer, refused, done, act_of, after, Step, refused_9, refused_7, refused_8, accepted}
use Rattle.theory.proofs.Laws.Sums.{in_or_out, clash}
use Rattle.theory.proofs.Laws.Serving.{served_sound, chooses_chosen}
use Rattle.theory.proofs.Laws.Acting.{act_sound}

-- ## One choice

-- Valid changesets that meet have one sign.
one_sign : (g h : Sign) (b : Board) (X Y : Rules) (i : ℕ) → Valid g b X → Valid h b Y → i ∈ X → i ∈ Y → g ≡ h
one_sign positive positive b X Y i x y m k = refl
one_sign positive negative b X Y i x y m k = absurd (clash (b.cached i) (y.cached i k) (x.uncached i m))
one_sign negative positive b X Y i x y m k = absurd (clash (b.cached i) (x.cached i m) (y.uncached i k))
one_sign negative negative b X Y i x y m k = refl

pub same_set : (X Y : Rules) → X ⊆ Y → Y ⊆ X → X ≡ Y
same_set X Y s t = fun_ext (λ i. one i)
  where
    one : (i : ℕ) → X i ≡ Y i
    one i =
        elim (in_or_out X i) [
          | inl m ↦ m ∙ sym (s i m)
          | inr m ↦ elim (in_or_out Y i) [ inl k ↦ absurd (clash (X i) (t i k) m) | inr k ↦ m ∙ sym k ]
        ]

a_member : (g : Sign) (b : Board) (X : Rules) → Valid g b X → (i : ℕ) × (i ∈ X)
a_member positive b X x = x.some
a_member negative b X x = x.some

pub one_greatest : (g h : Sign) (b : Board) (X Y : Rules) → Greatest b g X → Greatest b h Y → (g ≡ h) × (X ≡ Y)
one_greatest g h b X Y x y =
    let s : X ⊆ Y = y.greatest g X x.valid x.saturated in
    let t : Y ⊆ X = x.greatest h Y y.valid y.saturated in
    let (i, m) = a_member g b X x.valid in
    (one_sign g h b X Y i x.valid y.valid m (s i m), same_set X Y s t)

pub one_choice : (p : Payment) (b : Board) (c d : Choice) → Chooses p b c → Chooses p b d → c ≡ d
one_choice free b c d h k = h ∙ sym k
one_choice paid b nothing nothing h k = refl
one_choice paid b nothing (change g X) h k = absurd (h g X k.valid k.saturated)
one_choice paid b (change g X) nothing h k = absurd (k g X h.valid h.saturated)
one_choice paid b (change g X) (change f Y) h k = let (e, s) = one_greatest g f b X Y h k in ap₂ change e s

-- ## One step

pub one_step : {l : Lent} {q : Request} {m m' : Lent} {a a' : Answer} → Step l q a m → Step l q a' m' → (a ≡ a') × (m ≡ m')
one_step (refused_9 f) (refused_9 g) = (refl, refl)
one_step (refused_9 f) (refused_7 g n) = absurd (f g)
one_step (refused_9 f) (refused_8 g n e) = absurd (f g)
one_step (refused_9 f) (accepted g n e c k) = absurd (f g)
one_step (refused_7 f n) (refused_9 g) = absurd (g f)
one_step (refused_7 f n) (refused_7 g k) = (refl, refl)
one_step {l = l} {q = q} (refused_7 f n) (refused_8 g k e) = absurd (clash (rules l.state q.rule) k n)
one_step {l = l} {q = q} (refused_7 f n) (accepted g k e c h) = absurd (clash (rules l.state q.rule) k n)
one_step (refused_8 f n e) (refused_9 g) = absurd (g f)
one_step {l = l} {q = q} (refused_8 f n e) (refused_7 g k) = absurd (clash (rules l.state q.rule) n k)
one_step (refused_8 f n e) (refused_8 g k d) = (refl, refl)
one_step (refused_8 f n e) (accepted g k d c h) = absurd (omega arith)
one_step (accepted f n e c k) (refused_9 g) = absurd (g f)
one_step {l = l} {q = q} (accepted f n e c k) (refused_7 g h) = absurd (clash (rules l.state q.rule) n h)
one_step (accepted f n e c k) (refused_8 g h d) = absurd (omega arith)
one_step {l = l} {q = q} (accepted f n e c k) (accepted g h j d i) =
    let same : c ≡ d = one_choice (payment l.state.cached q) (board (served l.state q)) c d k i in
    (ap (λ x. done (payment l.state.cached q) (act_of l q x)) same, ap (after l q) same)

-- A refusal leaves all as it was.
pub refusal_kept : {l m : Lent} {q : Request} {r : Refusal} → Step l q (refused r) m → m ≡ l
refusal_kept (refused_9 f) = refl
refusal_kept (refused_7 f n) = refl
refusal_kept (refused_8 f n e) = refl

-- ## Soundness

-- What a request leaves is sound if what it was lent was.
pub step_sound : {l : Lent} {q : Request} {m : Lent} {a : Answer} → Step l q a m → Sound l.state l.tally → Sound m.state m.tally
unfolding after billed
step_sound (refused_9 f) o = o
step_sound (refused_7 f n) o = o
step_sound (refused_8 f n e) o = o
step_sound {l = l} {q = q} (accepted f n e c k) o =
    act_sound c (served_sound l.state l.tally q o n e) (omega arith) (chooses_chosen l.state l.tally q c o k)
