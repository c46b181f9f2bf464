-- What the search for the highest saturated P finds.
-- Assumes nothing.
use Rattle.std.specs.Prelude.{ℕ, zero, suc, ◌*◌, ◌<◌, Bool, true, false, ◌≡◌, refl}
use Rattle.std.proofs.Math.Option.{Option, none, some}
use Rattle.std.proofs.Common.{inl, inr, arith, leb-true, le-leb}
use Rattle.theory.specs.Limits.{entries}
use Rattle.theory.specs.Sets.{◌∈◌, size}
use Rattle.theory.specs.Tree.{Parent, no_parent, under, Below, child}
use Rattle.theory.specs.Changes.{positive, Board, count, Saturated}
use Rattle.theory.specs.Search.{of_parent, uncached, P, saturated, highest}
use Rattle.theory.proofs.Laws.Sums.{clash}
use Rattle.theory.proofs.Laws.Parts.{Proper, side_rules}
use Rattle.theory.proofs.Laws.Climbs.{AtOrBelow, below_at, below_step}
use Rattle.theory.proofs.Laws.Fetching.{uncached_up}

-- ## One step

-- What is found above, or else u if the test holds.
abbrev pick : Bool → ℕ → Option ℕ → Option ℕ
pick s u (some a) = some a
pick s u none = elim s [ true ↦ some u | false ↦ none ]

highest_step : (b : Board) (f u : ℕ) →
    highest b (suc f) u ≡ pick (saturated b (P b u)) u (of_parent none (λ a. highest b f a) (b.parent u))
unfolding highest
highest_step b f u = go (of_parent none (λ a. highest b f a) (b.parent u)) refl
  where
    go : (x : Option ℕ) → of_parent none (λ a. highest b f a) (b.parent u) ≡ x →
        highest b (suc f) u ≡ pick (saturated b (P b u)) u (of_parent none (λ a. highest b f a) (b.parent u))
    go none e = rw (e, highest)
    go (some a) e = rw (e, highest)

-- ## What is found

-- Rule u is uncached and has a saturated P, as no rule above it has.
pub record Highest (b : Board) (u : ℕ) : Type 0 where
  pub uncached_rule : u ∈ uncached b
  pub full : Saturated b (P b u)
  pub alone : (a : ℕ) → a ∈ b.rules → Below b.parent u a → Saturated b (P b a) → ⊥

-- What may be found at or above v.
abbrev Found : Board → ℕ → Option ℕ → Type 0
Found b v none = (a : ℕ) → a ∈ b.rules → AtOrBelow b.parent v a → Saturated b (P b a) → ⊥
Found b v (some u) = AtOrBelow b.parent v u × Highest b u

-- What may be found above v.
abbrev Above : Board → ℕ → Option ℕ → Type 0
Above b v none = (a : ℕ) → a ∈ b.rules → Below b.parent v a → Saturated b (P b a) → ⊥
Above b v (some u) = Below b.parent v u × Highest b u

picked : (b : Board) (v : ℕ) → v ∈ uncached b → (s : Bool) → saturated b (P b v) ≡ s → (x : Option ℕ) → Above b v x →
    Found b v (pick s v x)
picked b v m s e (some u) h = (inr h.0, h.1)
picked b v m true e none h =
    (inl refl, record { uncached_rule = m; full = leb-true (size entries (P b v) * b.charge) (count b (P b v)) e; alone = h })
picked b v m false e none h =
    λ a l r f.
    elim r [
      | inl q ↦ clash (saturated b (P b v)) (le-leb (size entries (P b v) * b.charge) (count b (P b v)) (rw q f)) e
      | inr s ↦ h a l s f
    ]

-- Above v is at or above its parent.
above : (b : Board) (a v : ℕ) (x : Option ℕ) → b.parent v ≡ under a → Found b a x → Above b v x
above b a v (some u) e h = (below_at (child e) h.0, h.1)
above b a v none e h =
    λ c l r f.
    let (d, g, s) = below_step r in
    let q : d ≡ a = cc in
    h c l (rw q at s) f

above_by : (b : Board) (v : ℕ) (f : ℕ → Option ℕ) (q : Parent) → b.parent v ≡ q →
    ((a : ℕ) → b.parent v ≡ under a → Found b a (f a)) → Above b v (of_parent none f q)
above_by b v f no_parent e h = λ c l r s. let (d, g, t) = below_step r in let z : ◌≡◌ {A = ℕ} 0 1 = cc in omega arith
above_by b v f (under a) e h = above b a v (f a) e (h a e)

module _ (b : Board) {rank : ℕ → ℕ} (o : Proper b rank) where
  found : (f v : ℕ) → rank v < f → v ∈ uncached b → Found b v (highest b f v)
  found zero v l m = absurd (omega arith)
  found (suc f) v l m =
      rw highest_step
      (picked b v m (saturated b (P b v)) refl (of_parent none (λ a. highest b f a) (b.parent v))
      (above_by b v (λ a. highest b f a) (b.parent v) refl
      (λ a e. found f a (omega (arith, o.ranked.falls v a (side_rules positive b v m) e)) (uncached_up b o v a m e))))

  -- Where the search finds a rule, it is the highest at or above v with a saturated P.
  pub highest_found : (v u : ℕ) → v ∈ uncached b → highest b entries v ≡ some u → AtOrBelow b.parent v u × Highest b u
  highest_found v u m e = rw e at (found entries v (o.ranked.below v (side_rules positive b v m)) m)

  -- Where the search finds none, no P at or above v is saturated.
  pub highest_none : (v : ℕ) → v ∈ uncached b → highest b entries v ≡ none →
      (a : ℕ) → a ∈ b.rules → AtOrBelow b.parent v a → Saturated b (P b a) → ⊥
  highest_none v m e = rw e at (found entries v (o.ranked.below v (side_rules positive b v m)) m)
