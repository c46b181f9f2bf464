-- The three demands on requests, proved. What they say is in `Demands`.
-- Assumes nothing.
use Rattle.theory.specs.Demands.{Demand1, Demand2, Demand3}
use Rattle.theory.specs.Twin.{step}
use Rattle.theory.proofs.Laws.Stepping.{one_step, refusal_kept}
use Rattle.theory.proofs.Laws.Acts.{tree_caching}
use Rattle.theory.proofs.Laws.Starting.{run_sound}
use Rattle.theory.proofs.Laws.Histories.{told, quoted_fresh}
use Rattle.theory.proofs.Laws.Twins.{twin_steps}

-- Every request is decided.
pub demand_1 : Demand1
demand_1 =
    record {
      answered = λ l q. ((step l q).answer, (step l q).left, twin_steps l q);
      one_answer = λ j k. (one_step j k).0;
      one_result = λ j k. (one_step j k).1;
      kept = refusal_kept;
    }

-- The act of an accepted request is that of Tree Caching.
pub demand_2 : Demand2
demand_2 l m q p a k = tree_caching k

-- What a run paid bounds what it moved, and state and tally are what the history tells.
pub demand_3 : Demand3
demand_3 t h s y r = (quoted_fresh r (run_sound r), told r)
