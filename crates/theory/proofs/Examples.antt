-- Runs A and B of document 01, computed by the twin act for act, and a request for each refusal.
-- Assumes nothing.
use Rattle.std.specs.Prelude.{ℕ, List, [], ◌∷◌, ◌≡◌, refl, get_or, replicate}
use Rattle.theory.specs.Limits.{entries, most_charge, most_capacity, most_rounds}
use Rattle.theory.specs.Sets.{sum, listed}
use Rattle.theory.specs.Tree.{no_parent, under}
use Rattle.theory.specs.Changes.{positive, negative}
use Rattle.theory.specs.State.{given, resolved, Table, Mark, never, moved, rules, fresh}
use Rattle.theory.specs.Tally.{Tally, all_zero}
use Rattle.theory.specs.Refusals.{in_call}
use Rattle.theory.specs.Payment.{Request, served, billed}
use Rattle.theory.specs.Act.{acted, booked}
use Rattle.theory.specs.Step.{Lent, written, after}
use Rattle.theory.specs.Replies.{none, fetch, evict, flush, Reply, refused, done, reply}
use Rattle.theory.specs.Search.{hangs, best, highest, topmost}
use Rattle.theory.specs.Twin.{all, sound, member, chosen, step}

-- The eight tally numbers in the order of the total line.
total : Tally → List ℕ
total t = t.rounds ∷ t.paid ∷ t.fetched ∷ t.evicted ∷ t.flushed ∷ t.standing ∷ t.wiped ∷ t.flushes ∷ []

pub record Played : Type 0 where
  pub replies : List Reply
  pub total : List ℕ

-- A reply for each request, in order, and the total. Whoever unfolds this can compute it.
played_on : Lent → List Request → Played
unfolding total entries most_charge most_capacity most_rounds sum listed resolved rules fresh all_zero served billed acted booked written after hangs best highest topmost all sound member chosen step
played_on l [] = record { replies = []; total = total l.tally }
played_on l (q ∷ qs) =
    let r = step l q in
    let rest = played_on r.left qs in
    record { replies = reply in_call r.answer ∷ rest.replies; total = rest.total }

played : Table → List Request → Played
unfolding played_on
played t qs = played_on (record { state = fresh t; tally = all_zero; list = replicate entries 0 }) qs

abbrev plus : ℕ → Request
plus v = record { sign = positive; rule = v }

abbrev minus : ℕ → Request
minus v = record { sign = negative; rule = v }

-- ## Runs A and B

abbrev A : Table
A = record { charge = 1; capacity = given 1; parents = no_parent ∷ under 0 ∷ [] }

run_a : played A (plus 1 ∷ plus 0 ∷ minus 1 ∷ []) ≡
    record {
      replies = done 1 fetch (1 ∷ []) ∷ done 1 flush (1 ∷ []) ∷ done 0 none [] ∷ [];
      total = 3 ∷ 2 ∷ 1 ∷ 0 ∷ 1 ∷ 0 ∷ 1 ∷ 1 ∷ [];
    }
unfolding played
run_a = refl

abbrev B : ℕ → Table
B capacity = record { charge = 2; capacity = given capacity; parents = no_parent ∷ under 0 ∷ under 0 ∷ under 1 ∷ [] }

requests_b : List Request
requests_b =
    plus 3 ∷ plus 3 ∷ plus 3 ∷
    plus 1 ∷ plus 2 ∷ plus 1 ∷
    minus 3 ∷ minus 1 ∷ minus 3 ∷ minus 1 ∷
    plus 3 ∷ plus 3 ∷
    plus 0 ∷ plus 0 ∷ plus 0 ∷ plus 0 ∷ plus 0 ∷ []

-- The replies, row for row, with the last one still to say.
replies_b : Reply → List Reply
replies_b last =
    done 1 none [] ∷ done 1 fetch (3 ∷ []) ∷ done 0 none [] ∷
    done 1 none [] ∷ done 1 none [] ∷ done 1 fetch (1 ∷ []) ∷
    done 1 none [] ∷ done 1 none [] ∷ done 1 none [] ∷ done 1 evict (1 ∷ 3 ∷ []) ∷
    done 1 none [] ∷ done 1 fetch (3 ∷ []) ∷
    done 1 none [] ∷ done 1 none [] ∷ done 1 none [] ∷ done 1 none [] ∷ last ∷ []

run_b : played (B 3) requests_b ≡
    record { replies = replies_b (done 1 flush (3 ∷ [])); total = 17 ∷ 16 ∷ 3 ∷ 2 ∷ 1 ∷ 0 ∷ 6 ∷ 1 ∷ [] }
unfolding played requests_b replies_b
run_b = refl

run_b_capacity_4 : played (B 4) requests_b ≡
    record { replies = replies_b (done 1 fetch (0 ∷ 1 ∷ 2 ∷ [])); total = 17 ∷ 16 ∷ 6 ∷ 2 ∷ 0 ∷ 0 ∷ 0 ∷ 0 ∷ [] }
unfolding played requests_b replies_b
run_b_capacity_4 = refl

-- At round 4 the sets of 1 and of 0 with 1 are both saturated: the greater one is fetched.
both_saturated : played (record { charge = 2; capacity = given 2; parents = no_parent ∷ under 0 ∷ [] }) (plus 0 ∷ plus 0 ∷ plus 1 ∷ plus 1 ∷ []) ≡
    record {
      replies = done 1 none [] ∷ done 1 none [] ∷ done 1 none [] ∷ done 1 fetch (0 ∷ 1 ∷ []) ∷ [];
      total = 4 ∷ 4 ∷ 2 ∷ 0 ∷ 0 ∷ 0 ∷ 0 ∷ 0 ∷ [];
    }
unfolding played
both_saturated = refl

-- ## Refusals

-- The reply to a positive request to rule v over A as loaded, but for its rules' marks, the rounds and the length of the list.
asked : Mark → ℕ → ℕ → ℕ → Reply
unfolding played_on
asked mark rounds long v =
    reply in_call
    (step
    (record {
      state =
          record {
            n = (fresh A).n;
            charge = (fresh A).charge;
            capacity = (fresh A).capacity;
            parent = (fresh A).parent;
            cached = (fresh A).cached;
            counter = (fresh A).counter;
            mark = λ i. get_or (mark ∷ mark ∷ []) i never;
          };
      tally =
          record {
            rounds = rounds;
            paid = 0;
            fetched = 0;
            evicted = 0;
            flushed = 0;
            standing = 0;
            wiped = 0;
            flushes = 0;
          };
      list = replicate long 0;
    })
    (plus v)).answer

refusals : List Reply
unfolding asked
refusals =
    -- a short list; never held as round 0; both before a rule that is none
    asked never 0 1023 1 ∷ asked (moved 0) 0 1024 1 ∷ asked never 0 1023 2 ∷
    -- a rule that is none, with rounds left and without
    asked never 0 1024 2 ∷ asked never most_rounds 1024 2 ∷
    -- no round left, and one left
    asked never most_rounds 1024 1 ∷ asked never 16777214 1024 1 ∷ []

refusals_in_order : refusals ≡ refused 9 0 ∷ refused 9 0 ∷ refused 9 0 ∷ refused 7 0 ∷ refused 7 0 ∷ refused 8 0 ∷ done 1 fetch (1 ∷ []) ∷ []
unfolding refusals
refusals_in_order = refl
