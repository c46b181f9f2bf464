-- Laws about columns.
-- Assumes nothing.
use Rattle.std.specs.Prelude.{ℕ, replicate}
use Rattle.std.proofs.lemmas.List.{length-replicate, get_or-replicate}
use Rattle.theory.specs.Limits.{entries}
use Rattle.state.specs.Columns.{Zeros}

-- A column as `[0; 1024]` makes it.
pub zeros : Zeros (replicate 1024 0)
unfolding entries
zeros = record { long = length-replicate {A = ℕ} 1024 0; each = λ i l. get_or-replicate {A = ℕ} 1024 i 0 0 l }
