-- The negative side: the best sets decide which changesets are saturated, and which one is the greatest.
--
-- In order: quiet boards; ready boards, and the greatest set.
-- Not here: which sets every saturated changeset holds (`Least`).
-- Assumes nothing.
use Rattle.std.specs.Prelude.{ℕ, true, false, ◌≡◌, ◌↔◌, pos}
use Rattle.std.proofs.Common.{inl, inr, lt_of_not-le, arith}
use Rattle.std.specs.Int.Signed.{lt_z}
use Rattle.theory.specs.Limits.{entries}
use Rattle.theory.specs.Sets.{Rules, ◌∈◌}
use Rattle.theory.specs.Changes.{Sign, positive, negative, Board, Valid, Saturated, Quiet, Ready, Greatest}
use Rattle.theory.specs.Search.{gain, best}
use Rattle.theory.proofs.Laws.Sums.{in_or_out, clash, and_both}
use Rattle.theory.proofs.Laws.Parts.{Proper, side, valid_part, part_valid}
use Rattle.theory.proofs.Laws.Climbs.{AtOrBelow}
use Rattle.theory.proofs.Laws.Topmost.{Topmost, topmost_same, best_part, best_gains, best_below, saturated_best}

module _ (b : Board) {rank : ℕ → ℕ} (o : Proper b rank) where
  best_valid : (r : ℕ) → Topmost b r → Valid negative b (best b entries r)
  best_valid r t = part_valid b o negative (best b entries r) (best_part b o r t)

  -- No negative changeset is saturated exactly where no best set of a topmost rule gains.
  pub negative_quiet : ((X : Rules) → Valid negative b X → Saturated b X → ⊥) ↔
      ((r : ℕ) → Topmost b r → lt_z (pos 0) (gain b (best b entries r)) ≡ false)
  negative_quiet = (there, back)
    where
      there : ((X : Rules) → Valid negative b X → Saturated b X → ⊥) →
          (r : ℕ) → Topmost b r → lt_z (pos 0) (gain b (best b entries r)) ≡ false
      there q r t =
          elim (in_or_out (λ r. lt_z (pos 0) (gain b (best b entries r))) r) [
            | inl g ↦ absurd (q (best b entries r) (best_valid r t) ((best_gains b o r t).0 g))
            | inr g ↦ g
          ]

      back : ((r : ℕ) → Topmost b r → lt_z (pos 0) (gain b (best b entries r)) ≡ false) →
          (X : Rules) → Valid negative b X → Saturated b X → ⊥
      back q X v f =
          let x = valid_part b o negative X v in
          let no : (r : ℕ) → Topmost b r → Saturated b (best b entries r) → ⊥ =
          λ r t g. clash (lt_z (pos 0) (gain b (best b entries r))) ((best_gains b o r t).1 g) (q r t) in
          let (t, n, g, m) =
          saturated_best b o (λ r t. omega (arith, lt_of_not-le (no r t))) X x f x.some.0 x.some.1 in
          no t n g

  -- ## A ready board

  module _ {v : ℕ} (y : Ready b v) (m : v ∈ side negative b) where
    -- What is saturated is negative, and each of its members is in a best set that gains, whose rule v is at or below.
    ready_best : (g : Sign) (X : Rules) → Valid g b X → Saturated b X → (i : ℕ) → i ∈ X →
        (t : ℕ) × Topmost b t × AtOrBelow b.parent v t × (lt_z (pos 0) (gain b (best b entries t)) ≡ true) × (i ∈ best b entries t)
    ready_best positive X w f i k =
        absurd (clash (b.cached v) (and_both (b.rules v) (b.cached v) m).1 (w.uncached v (y.holds positive X w f)))
    ready_best negative X w f i k =
        let (t, n, g, j) =
        saturated_best b o (λ r d. y.at_most negative (best b entries r) (best_valid r d)) X (valid_part b o negative X w) f i k in
        let h : v ∈ best b entries t = y.holds negative (best b entries t) (best_valid t n) g in
        (t, n, best_below b o t v n h, (best_gains b o t n).1 g, j)

    -- The best set of the topmost rule above v is the greatest changeset, if it gains.
    pub best_greatest : (r : ℕ) → Topmost b r → AtOrBelow b.parent v r → lt_z (pos 0) (gain b (best b entries r)) ≡ true →
        Greatest b negative (best b entries r)
    best_greatest r t a g =
        record {
          valid = best_valid r t;
          saturated = (best_gains b o r t).0 g;
          greatest =
              λ s Y w f i k.
              let (u, n, vu, h, j) = ready_best s Y w f i k in
              let same : u ≡ r = topmost_same b o v u r n t vu a in
              rw same at j;
        }

    -- If it does not gain, the board is quiet.
    pub best_none : (r : ℕ) → Topmost b r → AtOrBelow b.parent v r → lt_z (pos 0) (gain b (best b entries r)) ≡ false → Quiet b
    best_none r t a g s X w f =
        let x = valid_part b o s X w in
        let (u, n, vu, h, j) = ready_best s X w f x.some.0 x.some.1 in
        let same : u ≡ r = topmost_same b o v u r n t vu a in
        clash (lt_z (pos 0) (gain b (best b entries r))) (rw same at h) g
