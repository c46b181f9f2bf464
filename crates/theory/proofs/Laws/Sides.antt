-- A board is quiet, or ready at v, exactly where the sets P of its uncached rules and the best sets of its topmost cached rules say so.
-- Assumes nothing.
use Rattle.std.specs.Prelude.{ℕ, ◌*◌, ◌≤◌, false, ◌≡◌, ◌↔◌, pos}
use Rattle.std.specs.Int.Signed.{lt_z}
use Rattle.theory.specs.Limits.{entries}
use Rattle.theory.specs.Sets.{Rules, ◌∈◌, size}
use Rattle.theory.specs.Changes.{Sign, positive, negative, Board, Valid, count, Saturated, Quiet, Ready}
use Rattle.theory.specs.Search.{uncached, P, gain, best}
use Rattle.theory.proofs.Laws.Parts.{Proper}
use Rattle.theory.proofs.Laws.Fetching.{positive_quiet, positive_ready}
use Rattle.theory.proofs.Laws.Topmost.{Topmost}
use Rattle.theory.proofs.Laws.Least.{least, negative_ready}
use Rattle.theory.proofs.Laws.Evicting.{negative_quiet}

by_sign : (Q : Sign → Type 0) → Q positive → Q negative → (g : Sign) → Q g
by_sign Q x y positive = x
by_sign Q x y negative = y

-- A set's count is at most its size times the charge, and it holds v where it counts that much.
abbrev pub Fair : Board → ℕ → Rules → Type 0
Fair b v X = (count b X ≤ size entries X * b.charge) × (Saturated b X → v ∈ X)

module _ (b : Board) {rank : ℕ → ℕ} (o : Proper b rank) where
  -- No valid changeset is saturated exactly when no P is, and no best set of a topmost rule gains.
  pub quiet_is : Quiet b ↔
      (((u : ℕ) → u ∈ uncached b → Saturated b (P b u) → ⊥) ×
      ((r : ℕ) → Topmost b r → lt_z (pos 0) (gain b (best b entries r)) ≡ false))
  quiet_is = (
    (λ q. ((positive_quiet b o).0 (q positive), (negative_quiet b o).0 (q negative))),
    (λ h. by_sign (λ g. (X : Rules) → Valid g b X → Saturated b X → ⊥) ((positive_quiet b o).1 h.0) ((negative_quiet b o).1 h.1)),
  )

  -- The same with "at most, and equal only through v", where the least saturated set of a topmost rule has to hold v.
  pub ready_is : (v : ℕ) → Ready b v ↔
      (((u : ℕ) → u ∈ uncached b → Fair b v (P b u)) ×
      ((r : ℕ) → Topmost b r →
      (count b (best b entries r) ≤ size entries (best b entries r) * b.charge) × (Saturated b (best b entries r) → v ∈ least b r)))
  ready_is v = (
    (λ y. (
      (positive_ready b o v).0 (λ X x. (y.at_most positive X x, y.holds positive X x)),
      (negative_ready b o v).0 (λ X x. (y.at_most negative X x, y.holds negative X x)),
    )),
    (λ h.
        let each = by_sign (λ g. (X : Rules) → Valid g b X → Fair b v X) ((positive_ready b o v).1 h.0) ((negative_ready b o v).1 h.1) in
        record { at_most = λ g X x. (each g X x).0; holds = λ g X x. (each g X x).1 }),
  )
