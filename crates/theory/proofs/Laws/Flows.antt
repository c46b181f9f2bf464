-- Values that are passed up the tree, one step at a time: they are determined, and there are such.
-- Assumes nothing.
use Prim.Native.Nat.{ℕ, zero, suc, ◌+◌, ◌<◌, ◌≤◌}
use Rattle.std.specs.Prelude.{◌≡◌, refl}
use Rattle.std.proofs.Math.Path.{ap}
use Rattle.std.proofs.Common.{arith}
use Rattle.theory.specs.Limits.{entries}
use Rattle.theory.specs.Sets.{Rules, ◌∈◌, ◌⊆◌, over}
use Rattle.theory.specs.Tree.{Parents, Ranked}
use Rattle.theory.proofs.Laws.Sums.{over_same}
use Rattle.theory.proofs.Laws.Children.{children, child_out}

-- The value of a rule of D is its own w, with φ of each child's value.
abbrev pub Flow : Parents → Rules → (ℕ → ℕ) → (ℕ → ℕ) → (ℕ → ℕ) → Type 0
Flow p D φ w t = (u : ℕ) → u ∈ D → t u ≡ w u + over entries (children p D u) (λ i. φ (t i))

-- That value, for trees of at most f levels.
unfoldable pub flow : Parents → Rules → (ℕ → ℕ) → (ℕ → ℕ) → ℕ → ℕ → ℕ
flow p D φ w zero u = w u
flow p D φ w (suc f) u = w u + over entries (children p D u) (λ i. φ (flow p D φ w f i))

module _ {R : Rules} {p : Parents} {rank : ℕ → ℕ} (o : Ranked entries R p rank) (D : Rules) (s : D ⊆ R) (φ : ℕ → ℕ) where
  child_rises : (u i : ℕ) → i ∈ children p D u → (i ∈ D) × (rank u < rank i)
  child_rises u i m = let (d, e) = child_out p D u i m in (d, o.falls i u (s i d) e)

  unique_by : (w t v : ℕ → ℕ) → Flow p D φ w t → Flow p D φ w v → (f u : ℕ) → entries ≤ f + rank u → u ∈ D → t u ≡ v u
  unique_by w t v a b zero u h m = absurd (omega (arith, o.below u (s u m)))
  unique_by w t v a b (suc f) u h m =
      omega (
        arith,
        a u m,
        b u m,
        over_same entries (children p D u) (children p D u) (λ i. φ (t i)) (λ i. φ (v i)) (λ i k. refl)
            (λ i k g. let (d, e) = child_rises u i g in ap φ (unique_by w t v a b f i (omega arith) d)),
      )

  -- Two flows agree.
  pub flow_unique : (w t v : ℕ → ℕ) → Flow p D φ w t → Flow p D φ w v → (u : ℕ) → u ∈ D → t u ≡ v u
  flow_unique w t v a b u m = unique_by w t v a b entries u (omega arith) m

  -- More levels change nothing.
  flow_stable : (w : ℕ → ℕ) (f g u : ℕ) → entries ≤ f + rank u → entries ≤ g + rank u → u ∈ D →
      flow p D φ w f u ≡ flow p D φ w g u
  unfolding flow
  flow_stable w zero g u a b m = absurd (omega (arith, o.below u (s u m)))
  flow_stable w (suc f) zero u a b m = absurd (omega (arith, o.below u (s u m)))
  flow_stable w (suc f) (suc g) u a b m =
      ap (λ x. w u + x)
      (over_same entries (children p D u) (children p D u) (λ i. φ (flow p D φ w f i)) (λ i. φ (flow p D φ w g i))
      (λ i k. refl)
      (λ i k h. let (d, e) = child_rises u i h in ap φ (flow_stable w f g i (omega arith) (omega arith) d)))

  flow_step : (w : ℕ → ℕ) (f u : ℕ) → u ∈ D → entries ≤ f →
      flow p D φ w f u ≡ w u + over entries (children p D u) (λ i. φ (flow p D φ w f i))
  unfolding flow
  flow_step w zero u m h = absurd (omega (arith, o.below u (s u m)))
  flow_step w (suc f) u m h =
      ap (λ x. w u + x)
      (over_same entries (children p D u) (children p D u) (λ i. φ (flow p D φ w f i)) (λ i. φ (flow p D φ w (suc f) i))
      (λ i k. refl)
      (λ i k g. let (d, e) = child_rises u i g in ap φ (flow_stable w f (suc f) i (omega arith) (omega arith) d)))

  -- There is a flow.
  pub flow_is : (w : ℕ → ℕ) → Flow p D φ w (flow p D φ w entries)
  flow_is w u m = flow_step w entries u m (omega arith)
