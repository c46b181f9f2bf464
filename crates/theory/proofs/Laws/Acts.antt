-- The act of an accepted request is the one that Tree Caching takes.
-- Assumes nothing.
use Rattle.std.specs.Prelude.{ℕ, ◌+◌, Bool, true, false, cond, ◌↔◌, ◌≡◌, refl, leb}
use Rattle.std.proofs.Common.{ap, arith, leb-true, leb-false}
use Rattle.theory.specs.Limits.{entries}
use Rattle.theory.specs.Sets.{Rules, size}
use Rattle.theory.specs.Changes.{positive, negative}
use Rattle.theory.specs.State.{State, board}
use Rattle.theory.specs.Sound.{Sound}
use Rattle.theory.specs.Payment.{Request, Payment, served}
use Rattle.theory.specs.Choice.{Choice, nothing, change, Chosen}
use Rattle.theory.specs.Act.{Act, none, fetch, evict, flush, act}
use Rattle.theory.specs.Step.{Lent, done, Step, accepted}
use Rattle.theory.specs.Demands.{Asks, Takes, TreeCaching}
use Rattle.theory.proofs.Laws.Serving.{chooses_chosen}
use Rattle.theory.proofs.Laws.Stepping.{step_sound}

-- 0 for none, 1 for another act.
acts : Act → ℕ
acts none = 0
acts (fetch X) = 1
acts (evict X) = 1
acts (flush C) = 1

some_act : (a : Act) → acts a ≡ 1 → a ≡ none → ⊥
unfolding acts
some_act a h e = omega (arith, ap acts e)

act_positive : (fits : Bool) (X C : Rules) → acts (cond fits (fetch X) (flush C)) ≡ 1
unfolding acts
act_positive true X C = refl
act_positive false X C = refl

takes : (s : State) (c : Choice) → Chosen (board s) c → Takes s (act s c)
takes s nothing h = h
takes s (change negative X) h = h
takes s (change positive X) h = room (leb (size entries s.cached + size entries X) s.capacity) refl
  where
    room : (fits : Bool) → leb (size entries s.cached + size entries X) s.capacity ≡ fits →
        Takes s (cond fits (fetch X) (flush s.cached))
    room true e = (h, leb-true (size entries s.cached + size entries X) s.capacity e)
    room false e = (X, h, leb-false (size entries s.cached + size entries X) s.capacity e, refl)

exactly : (s : State) (c : Choice) → Chosen (board s) c → (act s c ≡ none → ⊥) ↔ Asks (board s)
unfolding acts
exactly s nothing h = (λ f. absurd (f refl), λ (g, X, x, f) e. h g X x f)
exactly s (change negative X) h =
    (λ f. (negative, X, h.valid, h.saturated), λ a. some_act (evict X) refl)
exactly s (change positive X) h = (
  λ f. (positive, X, h.valid, h.saturated),
  λ a. some_act (act s (change positive X)) (act_positive (leb (size entries s.cached + size entries X) s.capacity) X s.cached),
)

pub tree_caching : {l : Lent} {q : Request} {m : Lent} {p : Payment} {a : Act} → Step l q (done p a) m → TreeCaching l q a m
tree_caching {l = l} {q = q} {m = m} (accepted f n e c k) =
    let chosen : Chosen (board (served l.state q)) c = chooses_chosen l.state l.tally q c f.sound k in
    let after : Sound m.state m.tally = step_sound (accepted f n e c k) f.sound in
    record {
      exactly = exactly (served l.state q) c chosen;
      takes = takes (served l.state q) c chosen;
      closed = after.closed;
      within = after.within_capacity;
    }
