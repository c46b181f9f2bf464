-- Answers in document 01's words and numbers: what a caller is told, and what the program writes of a request.
-- Assumes nothing.
use Rattle.std.specs.Prelude.{ℕ, List}
use Rattle.theory.specs.Limits.{entries}
use Rattle.theory.specs.Sets.{listed}
use Rattle.theory.specs.Refusals.{number, Place, line}
use Rattle.theory.specs.Payment.{cost}
use Rattle.theory.specs.Act.{Act, moves}
use Rattle.theory.specs.Step.{Answer}

pub data Word : Type 0 where
  none fetch evict flush : Word

abbrev pub word : Act → Word
word Act.none = none
word (Act.fetch X) = fetch
word (Act.evict X) = evict
word (Act.flush C) = flush

pub data Reply : Type 0 where
  -- the refusal's number and its line
  refused : ℕ → ℕ → Reply
  -- what was paid, 0 or 1, the act, and the rules moved, ascending
  done : ℕ → Word → List ℕ → Reply

abbrev pub reply : Place → Answer → Reply
reply p (Answer.refused r) = refused (number r) (line r p)
reply p (Answer.done c a) = done (cost c) (word a) (listed entries (moves a))
