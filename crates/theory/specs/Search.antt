-- How the set to act on may be found (document 01; source 001, sections 6.1 and 6.2).
--
-- In order: what hangs on a rule; P(u); the gain of a set; best sets; the two searches.
-- Nothing that says what is right speaks of these.
-- Assumes nothing.
use Rattle.std.specs.Prelude.{ℕ, zero, suc, ◌+◌, ◌*◌, Bool, true, false, eqb, leb, ℤ, pos, ◌+ℤ◌, ◌-ℤ◌, ◌*ℤ◌}
use Rattle.std.proofs.Math.Option.{Option, none, some}
use Rattle.std.specs.Int.Signed.{lt_z}
use Rattle.theory.specs.Limits.{entries}
use Rattle.theory.specs.Sets.{Rules, ◌∖◌, size}
use Rattle.theory.specs.Tree.{Parent, no_parent, under, Parents}
use Rattle.theory.specs.Changes.{Board, count}

-- What f says of the parent, or d where there is none.
abbrev pub of_parent {ℓ} : {A : Type ℓ} → A → (ℕ → A) → Parent → A
of_parent d f no_parent = d
of_parent d f (under a) = f a

-- j is i, or j's parent hangs on i and j is in G; for at most f steps up.
unfoldable pub hangs : Parents → Rules → ℕ → ℕ → ℕ → Bool
hangs p G zero j i = eqb j i
hangs p G (suc f) j i =
    elim (eqb j i) [
      | true ↦ true
      | false ↦ elim (of_parent false (λ a. hangs p G f a i) (p j)) [ true ↦ G j | false ↦ false ]
    ]

abbrev pub uncached : Board → Rules
uncached b = b.rules ∖ b.cached

-- P(u): u with all uncached rules below it.
abbrev pub P : Board → ℕ → Rules
P b u i = elim (uncached b i) [ true ↦ hangs b.parent (λ w. true) entries i u | false ↦ false ]

-- The test that the count is at least the size times the charge.
abbrev pub saturated : Board → Rules → Bool
saturated b X = leb (size entries X * b.charge) (count b X)

-- (count − size × charge) × (n + 1) + size, where n counts the rules.
abbrev pub gain : Board → Rules → ℤ
gain b X = (pos (count b X) -ℤ pos (size entries X * b.charge)) *ℤ pos (size entries b.rules + 1) +ℤ pos (size entries X)

-- A cached rule's best set: itself with the best set of each child whose gain is above nothing; for at most f levels.
unfoldable pub best : Board → ℕ → ℕ → Rules
best b zero u i = eqb i u
best b (suc f) u i =
    hangs b.parent (λ w. elim (b.cached w) [ true ↦ lt_z (pos 0) (gain b (best b f w)) | false ↦ false ]) entries i u

-- The rule found above u, or else u if P(u) is saturated.
nearest : Board → ℕ → Option ℕ → Option ℕ
nearest b u (some a) = some a
nearest b u none = elim (saturated b (P b u)) [ true ↦ some u | false ↦ none ]

-- The ancestor of u, itself included, that is nearest the root and has P saturated; among at most f rules.
unfoldable pub highest : Board → ℕ → ℕ → Option ℕ
unfolding nearest
highest b zero u = none
highest b (suc f) u = nearest b u (of_parent none (λ a. highest b f a) (b.parent u))

-- The topmost cached rule above or at the cached rule u, by at most f steps up.
unfoldable pub topmost : Board → ℕ → ℕ → ℕ
topmost b zero u = u
topmost b (suc f) u = of_parent u (λ a. elim (b.cached a) [ true ↦ topmost b f a | false ↦ u ]) (b.parent u)
