-- What a request makes Tree Caching choose, over all valid changesets.
-- Assumes nothing.
use Rattle.std.specs.Prelude.{◌≡◌}
use Rattle.theory.specs.Sets.{Rules}
use Rattle.theory.specs.Changes.{Sign, Board, Quiet, Greatest}
use Rattle.theory.specs.Payment.{Payment, free, paid}

pub data Choice : Type 0 where
  nothing : Choice
  change : Sign → Rules → Choice

-- Nothing where no valid changeset is saturated; else the saturated one that contains all others.
abbrev pub Chosen : Board → Choice → Type 0
Chosen b nothing = Quiet b
Chosen b (change g X) = Greatest b g X

-- A request that is free makes it choose nothing.
abbrev pub Chooses : Payment → Board → Choice → Type 0
Chooses free b c = c ≡ nothing
Chooses paid b c = Chosen b c
