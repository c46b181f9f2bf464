-- The executable twin of the step: the same answers, by computing.
--
-- In order: tests over the entries; soundness, part by part; the choice; one request.
-- Each part of `Sound` has its test here under the same name.
-- Assumes nothing.
use Rattle.std.specs.Prelude.{ℕ, zero, suc, ◌+◌, ◌*◌, Bool, true, false, not, ◌&&◌, ◌||◌, List, [], ◌∷◌, eqb, leb, ltb, pos, length}
use Rattle.std.proofs.Math.Option.{Option, none, some}
use Rattle.std.specs.Int.Signed.{lt_z}
use Rattle.theory.specs.Limits.{entries, most_charge, most_capacity, most_rounds}
use Rattle.theory.specs.Sets.{Rules, sum, size, listed}
use Rattle.theory.specs.Tree.{Parent, no_parent, under}
use Rattle.theory.specs.Changes.{positive, negative, Board}
use Rattle.theory.specs.State.{State, Mark, never, moved, rules, board}
use Rattle.theory.specs.Tally.{Tally}
use Rattle.theory.specs.Refusals.{Refusal, not_a_rule, out_of_rounds, unsound}
use Rattle.theory.specs.Payment.{Request, Payment, free, paid, payment, served}
use Rattle.theory.specs.Choice.{Choice, nothing, change}
use Rattle.theory.specs.Step.{Lent, Answer, refused, done, act_of, after}
use Rattle.theory.specs.Search.{of_parent, P, saturated, gain, best, highest, topmost}

-- f holds of every number below n.
unfoldable pub all : ℕ → (ℕ → Bool) → Bool
all zero f = true
all (suc n) f = elim (f n) [ true ↦ all n f | false ↦ false ]

-- f holds of every member of X below n.
abbrev pub all_of : ℕ → Rules → (ℕ → Bool) → Bool
all_of n X f = all n (λ i. elim (X i) [ true ↦ f i | false ↦ true ])

-- ## Soundness

-- n is from 1 to k.
abbrev pub from_one : ℕ → ℕ → Bool
from_one k n = leb 1 n && leb n k

-- The rule i has the parent that a table may give it.
abbrev pub well_placed : ℕ → Parent → Bool
well_placed i no_parent = eqb i 0
well_placed i (under a) = ltb a i

abbrev pub formed : State → Bool
formed s =
    from_one entries s.n && from_one most_charge s.charge && from_one most_capacity s.capacity &&
    all_of entries (rules s) (λ i. well_placed i (s.parent i))

abbrev pub is_never : Mark → Bool
is_never never = true
is_never (moved r) = false

abbrev pub blank : State → Bool
blank s =
    all_of entries (λ i. not (rules s i))
    (λ i. of_parent true (λ a. false) (s.parent i) && not (s.cached i) && eqb (s.counter i) 0 && is_never (s.mark i))

-- Each child of a cached rule is cached.
abbrev pub closed : State → Bool
closed s = all_of entries (rules s) (λ i. of_parent true (λ a. not (s.cached a) || s.cached i) (s.parent i))

-- Neither an uncached rule's P nor a topmost cached rule's best set is saturated.
abbrev pub quiet : Board → Bool
quiet b =
    all_of entries b.rules
    (λ u.
    elim (b.cached u) [
      | true ↦ elim (of_parent false b.cached (b.parent u)) [ true ↦ true | false ↦ not (lt_z (pos 0) (gain b (best b entries u))) ]
      | false ↦ not (saturated b (P b u))
    ])

abbrev pub in_rounds : ℕ → Mark → Bool
in_rounds rounds never = true
in_rounds rounds (moved r) = from_one rounds r

-- The tally's own clauses, over the cached rules' number c and the counters' sum k.
abbrev pub agrees : State → Tally → ℕ → ℕ → Bool
agrees s t c k =
    leb t.rounds most_rounds && leb t.paid t.rounds && eqb t.standing k &&
    eqb t.paid (s.charge * (t.fetched + t.evicted) + t.standing + t.wiped) &&
    eqb (c + t.evicted + t.flushed) t.fetched &&
    leb (t.flushes * s.charge * (s.capacity + 1) + s.charge * c + t.standing) t.paid

abbrev pub marks : State → Tally → Bool
marks s t =
    all_of entries (rules s) (λ i. in_rounds t.rounds (s.mark i) && not (s.cached i && is_never (s.mark i)))

-- Parents are tested before what is worked out along them.
unfoldable pub sound : State → Tally → Bool
sound s t =
    elim (formed s) [
      | true ↦
          blank s && closed s && leb (size entries s.cached) s.capacity && quiet (board s) &&
          agrees s t (size entries s.cached) (sum entries s.counter) && marks s t
      | false ↦ false
    ]

abbrev pub fit : Lent → Bool
fit l = sound l.state l.tally && leb entries (length l.list)

-- ## The choice

-- i is in the list.
unfoldable pub member : ℕ → List ℕ → Bool
member i [] = false
member i (x ∷ xs) = elim (eqb i x) [ true ↦ true | false ↦ member i xs ]

-- X, worked out once and kept as a list.
abbrev pub kept : Rules → Rules
kept X = let xs = listed entries X in λ i. member i xs

abbrev pub fetching : Board → Option ℕ → Choice
fetching b none = nothing
fetching b (some u) = change positive (kept (P b u))

abbrev pub evicting : Board → ℕ → Choice
evicting b r =
    elim (lt_z (pos 0) (gain b (best b entries r))) [
      | true ↦ change negative (kept (best b entries r))
      | false ↦ nothing
    ]

-- What a request to rule v makes Tree Caching choose, b being the board after its payment.
unfoldable pub chosen : Payment → Board → ℕ → Choice
chosen free b v = nothing
chosen paid b v =
    elim (b.cached v) [
      | true ↦ evicting b (topmost b entries v)
      | false ↦ fetching b (highest b entries v)
    ]

-- ## One request

pub record Result : Type 0 where
  pub answer : Answer
  pub left : Lent

abbrev refuse : Refusal → Lent → Result
refuse r l = record { answer = refused r; left = l }

abbrev accept : Lent → Request → Choice → Result
accept l q c = record { answer = done (payment l.state.cached q) (act_of l q c); left = after l q c }

unfoldable pub step : Lent → Request → Result
step l q =
    elim (fit l) [
      | false ↦ refuse unsound l
      | true ↦
          elim (rules l.state q.rule) [
            | false ↦ refuse not_a_rule l
            | true ↦
                elim (eqb l.tally.rounds most_rounds) [
                  | true ↦ refuse out_of_rounds l
                  | false ↦
                      let c = chosen (payment l.state.cached q) (board (served l.state q)) q.rule in
                      accept l q c
                ]
          ]
    ]
