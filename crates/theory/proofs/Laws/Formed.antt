-- The tree of a formed state: its rules' numbers rank them.
-- Assumes nothing.
use Rattle.std.specs.Prelude.{ℕ, ◌<◌, ◌↔◌, ◌≡◌}
use Rattle.std.proofs.Common.{inl, inr, arith, ltb-true, lt-ltb}
use Rattle.std.proofs.Math.Decide.{ℕ_discrete}
use Rattle.theory.specs.Limits.{entries}
use Rattle.theory.specs.Sets.{Rules, ◌∈◌, ◌∉◌, Within}
use Rattle.theory.specs.Tree.{no_parent, under, Closed, Ranked}
use Rattle.theory.specs.Changes.{Board}
use Rattle.theory.specs.State.{State, Mark, rules, board, Blank}
use Rattle.theory.specs.Tally.{Tally}
use Rattle.theory.specs.Sound.{Formed, SoundWith}
use Rattle.theory.proofs.Laws.Sums.{in_or_out, clash}
use Rattle.theory.proofs.Laws.Parts.{Proper}

pub rule_is : (s : State) (i : ℕ) → (i ∈ rules s) ↔ (i < s.n)
unfolding rules
rule_is s i = (ltb-true i s.n, lt-ltb i s.n)

pub rules_within : (s : State) → Formed s → Within entries (rules s)
rules_within s f i m = omega (arith, (rule_is s i).0 m, f.few_rules)

-- A rule's parent stands before it.
formed_falls : (s : State) → Formed s → (i a : ℕ) → i ∈ rules s → s.parent i ≡ under a → a < i
formed_falls s f i a m e =
    elim (ℕ_discrete i 0) [
      | yes q ↦ absurd (let r : s.parent 0 ≡ no_parent = f.root in let z : ◌≡◌ {A = ℕ} 0 1 = cc in omega arith)
      | no d ↦
          let (k, p, l) = f.parents i m (omega (arith, d)) in
          let q : a ≡ k = cc in
          omega arith
    ]

pub formed_ranked : (s : State) → Formed s → Ranked entries (rules s) s.parent (λ i. i)
formed_ranked s f =
    record {
      below = rules_within s f;
      parent_rule =
          λ i a m e. (rule_is s a).1 (omega (arith, formed_falls s f i a m e, (rule_is s i).0 m));
      falls = formed_falls s f;
    }

-- Whether a state is formed does not depend on cache, counters and marks.
pub formed_over : (s : State) → Formed s → (C : Rules) (c : ℕ → ℕ) (m : ℕ → Mark) →
    Formed
    (record { n = s.n; charge = s.charge; capacity = s.capacity; parent = s.parent; cached = C; counter = c; mark = m })
unfolding rules
formed_over s f C c m =
    record {
      some_rule = f.some_rule;
      few_rules = f.few_rules;
      some_charge = f.some_charge;
      small_charge = f.small_charge;
      some_capacity = f.some_capacity;
      small_capacity = f.small_capacity;
      root = f.root;
      parents = f.parents;
    }

-- Entries that are no rules hold nothing.
abbrev pub Blanks : State → Type 0
Blanks s = (i : ℕ) → i < entries → i ∉ rules s → Blank s i

pub formed_proper : (s : State) → Formed s → Blanks s → Closed (rules s) s.parent s.cached → Proper (board s) (λ i. i)
formed_proper s f b c =
    record {
      within = rules_within s f;
      ranked = formed_ranked s f;
      held =
          λ i l m.
          elim (in_or_out (rules s) i) [ inl h ↦ h | inr h ↦ absurd (clash (s.cached i) m (b i l h).uncached) ];
      closed = c;
      some_charge = f.some_charge;
    }

pub sound_proper : {Q : Board → Type 0} {s : State} {t : Tally} → SoundWith Q s t → Proper (board s) (λ i. i)
sound_proper {s = s} o = formed_proper s o.formed o.blank o.closed
