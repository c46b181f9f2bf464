-- Changesets, and the one that Tree Caching acts on (source 001, sections 3 and 4).
--
-- In order: the board, which is all that a changeset is judged by; valid changesets of the two signs; saturated; quiet; ready; greatest.
-- Assumes nothing.
use Rattle.std.specs.Prelude.{ℕ, ◌*◌, ◌≤◌}
use Rattle.theory.specs.Limits.{entries}
use Rattle.theory.specs.Sets.{Rules, ◌∈◌, ◌∉◌, ◌⊆◌, ◌∪◌, ◌∖◌, NonEmpty, over, size}
use Rattle.theory.specs.Tree.{Parents, Closed}

pub data Sign : Type 0 where
  positive : Sign
  negative : Sign

pub record Board : Type 0 where
  pub rules : Rules
  pub charge : ℕ
  pub parent : Parents
  pub cached : Rules
  pub counter : ℕ → ℕ

-- A non-empty set of uncached rules whose union with the cache is closed.
pub record Valid⁺ (b : Board) (X : Rules) : Type 0 where
  pub some : NonEmpty X
  pub within : X ⊆ b.rules
  pub uncached : (i : ℕ) → i ∈ X → i ∉ b.cached
  pub closed : Closed b.rules b.parent (b.cached ∪ X)

-- A non-empty set of cached rules whose removal leaves the cache closed.
pub record Valid⁻ (b : Board) (X : Rules) : Type 0 where
  pub some : NonEmpty X
  pub within : X ⊆ b.rules
  pub cached : X ⊆ b.cached
  pub closed : Closed b.rules b.parent (b.cached ∖ X)

abbrev pub Valid : Sign → Board → Rules → Type 0
Valid positive b X = Valid⁺ b X
Valid negative b X = Valid⁻ b X

-- The sum of a set's counters.
abbrev pub count : Board → Rules → ℕ
count b X = over entries X b.counter

-- The count is at least the size times the charge.
abbrev pub Saturated : Board → Rules → Type 0
Saturated b X = size entries X * b.charge ≤ count b X

-- No valid changeset, of either sign, is saturated.
abbrev pub Quiet : Board → Type 0
Quiet b = (g : Sign) (X : Rules) → Valid g b X → Saturated b X → ⊥

-- No valid changeset counts more than its size times the charge, and each saturated one holds rule v.
pub record Ready (b : Board) (v : ℕ) : Type 0 where
  pub at_most : (g : Sign) (X : Rules) → Valid g b X → count b X ≤ size entries X * b.charge
  pub holds : (g : Sign) (X : Rules) → Valid g b X → Saturated b X → v ∈ X

-- A saturated valid changeset of sign g that contains every saturated valid changeset of either sign.
pub record Greatest (b : Board) (g : Sign) (X : Rules) : Type 0 where
  pub valid : Valid g b X
  pub saturated : Saturated b X
  pub greatest : (h : Sign) (Y : Rules) → Valid h b Y → Saturated b Y → Y ⊆ X
