-- The refusals: their numbers, and the line that each gives.
--
-- In order: the refusals by name; their numbers; where a refusal arises; the one rule for its line.
-- Not here: when each is given (`Step` for a request).
-- Assumes nothing.
use Rattle.std.specs.Prelude.{ℕ}

pub data Refusal : Type 0 where
  -- a line isn't as laid out, or a text lacks the line it must have
  layout : Refusal
  -- a rule's number isn't the next one
  numbering : Refusal
  -- rule 0 has a parent, or another rule has "-" or a parent not below its own number
  parentage : Refusal
  -- a rule line follows 1,024 accepted rules
  crowded : Refusal
  -- the settings line is good and no rule line follows
  no_rules : Refusal
  -- charge or capacity outside its range
  out_of_range : Refusal
  -- a named rule's number is not below n
  not_a_rule : Refusal
  -- rounds stands at its limit
  out_of_rounds : Refusal
  -- the lent state or tally is not sound, or a list lent for moved rules is too short
  unsound : Refusal
  -- the program's input is too long
  too_long : Refusal

abbrev pub number : Refusal → ℕ
number layout = 1
number numbering = 2
number parentage = 3
number crowded = 4
number no_rules = 5
number out_of_range = 6
number not_a_rule = 7
number out_of_rounds = 8
number unsound = 9
number too_long = 10

-- Where a refusal arises: at a line of a text, or in a call that reads none.
pub data Place : Type 0 where
  in_call : Place
  at_line : ℕ → Place

abbrev pub line_there : Place → ℕ
line_there in_call = 0
line_there (at_line k) = k

-- A text gives its line, else the line is 0; 9 and 10 always give 0.
abbrev pub line : Refusal → Place → ℕ
line layout p = line_there p
line numbering p = line_there p
line parentage p = line_there p
line crowded p = line_there p
line no_rules p = line_there p
line out_of_range p = line_there p
line not_a_rule p = line_there p
line out_of_rounds p = line_there p
line unsound p = 0
line too_long p = 0
