-- The twin's test decides `Sound`, part by part and whole.
--
-- In order: a formed state; blank entries; the closed cache; marks; the tally's clauses; all of it.
-- Assumes nothing.
use Rattle.std.specs.Prelude.{ℕ, ◌+◌, ◌*◌, ◌<◌, ◌≤◌, Bool, true, false, not, ◌&&◌, ◌||◌, ◌↔◌, ◌≡◌, refl, eqb, length}
use Rattle.std.proofs.Common.{inl, inr, arith, ltb-true, eqb-true, lt-ltb}
use Rattle.std.proofs.Math.Decide.{ℕ_discrete}
use Rattle.theory.specs.Limits.{entries, most_charge, most_capacity, most_rounds}
use Rattle.theory.specs.Sets.{Rules, ◌∈◌, ◌∉◌, sum, size}
use Rattle.theory.specs.Tree.{Parent, no_parent, under, Closed}
use Rattle.theory.specs.Changes.{Quiet}
use Rattle.theory.specs.State.{State, Mark, never, moved, rules, board, Blank}
use Rattle.theory.specs.Tally.{Tally}
use Rattle.theory.specs.Sound.{Formed, InRounds, Sound}
use Rattle.theory.specs.Step.{Lent, Fit}
use Rattle.theory.specs.Search.{of_parent}
use Rattle.theory.specs.Twin as Twin
use Rattle.theory.proofs.Laws.Sums.{in_or_out, clash, and_both, or_one, not_true}
use Rattle.theory.proofs.Laws.Climbs.{closed_iff}
use Rattle.theory.proofs.Laws.Formed.{rule_is, rules_within, formed_ranked, Blanks, formed_proper}
use Rattle.theory.proofs.Laws.Deciding.{quiet_decides}
use Rattle.theory.proofs.Laws.Tests.{leb_is, eqb_is, not_is, and-true, and_then, and_is, guard_is, from_one_is, all_of_is, all_of_decides}

-- ## Formed

root_placed : (p : Parent) → (Twin.well_placed 0 p ≡ true) ↔ (p ≡ no_parent)
root_placed no_parent = ((λ h. refl), (λ h. refl))
root_placed (under a) = ((λ h. absurd (omega (arith, ltb-true a 0 h))), (λ h. absurd (let z : ◌≡◌ {A = ℕ} 0 1 = cc in omega arith)))

other_placed : (i : ℕ) (p : Parent) → 1 ≤ i → (Twin.well_placed i p ≡ true) ↔ ((a : ℕ) × (p ≡ under a) × (a < i))
other_placed i no_parent l =
    ((λ h. absurd (omega (arith, eqb-true i 0 h))), (λ h. absurd (let z : ◌≡◌ {A = ℕ} 0 1 = cc h.1 in omega arith)))
other_placed i (under a) l =
    ((λ h. (a, refl, ltb-true a i h)), (λ h. lt-ltb a i (let e : a ≡ h.0 = cc h.1 in omega (arith, h.2))))

-- Every rule is where a table may put it.
abbrev placed : State → Bool
placed s = Twin.all_of entries (rules s) (λ i. Twin.well_placed i (s.parent i))

abbrev Placed : State → Type 0
Placed s = (s.parent 0 ≡ no_parent) × ((i : ℕ) → i ∈ rules s → 1 ≤ i → (a : ℕ) × (s.parent i ≡ under a) × (a < i))

placed_decides : (s : State) → 1 ≤ s.n → s.n ≤ entries → (placed s ≡ true) ↔ Placed s
placed_decides s some few = (onward, back)
  where
    each : (placed s ≡ true) ↔ ((i : ℕ) → i < entries → i ∈ rules s → Twin.well_placed i (s.parent i) ≡ true)
    each = all_of_is entries (rules s) (λ i. Twin.well_placed i (s.parent i))

    onward : placed s ≡ true → Placed s
    onward h = (
      (root_placed (s.parent 0)).0 (each.0 h 0 (omega arith) ((rule_is s 0).1 some)),
      (λ i m l. (other_placed i (s.parent i) l).0 (each.0 h i (omega (arith, (rule_is s i).0 m)) m)),
    )

    back : Placed s → placed s ≡ true
    back h =
        each.1
        (λ i l m.
        elim (ℕ_discrete i 0) [
          | yes q ↦ rw q ((root_placed (s.parent 0)).1 h.0)
          | no d ↦ (other_placed i (s.parent i) (omega (arith, d))).1 (h.1 i m (omega (arith, d)))
        ])

-- n, charge and capacity are in their ranges.
abbrev ranges : State → Bool
ranges s = Twin.from_one entries s.n && Twin.from_one most_charge s.charge && Twin.from_one most_capacity s.capacity

abbrev Ranges : State → Type 0
Ranges s =
    (((1 ≤ s.n) × (s.n ≤ entries)) × ((1 ≤ s.charge) × (s.charge ≤ most_charge))) ×
    ((1 ≤ s.capacity) × (s.capacity ≤ most_capacity))

ranges_decides : (s : State) → (ranges s ≡ true) ↔ Ranges s
ranges_decides s =
    and_is _ _
    (and_is _ _ (from_one_is entries s.n) (from_one_is most_charge s.charge))
    (from_one_is most_capacity s.capacity)

pub formed_decides : (s : State) → (Twin.formed s ≡ true) ↔ Formed s
formed_decides s = (onward, back)
  where
    onward : Twin.formed s ≡ true → Formed s
    onward h =
        let (g, e) = and_both (ranges s) (placed s) h in
        let (((some, few), (charge, small)), (room, bounded)) = (ranges_decides s).0 g in
        let (root, parents) = (placed_decides s some few).0 e in
        record {
          some_rule = some;
          few_rules = few;
          some_charge = charge;
          small_charge = small;
          some_capacity = room;
          small_capacity = bounded;
          root = root;
          parents = parents;
        }

    back : Formed s → Twin.formed s ≡ true
    back f =
        and-true (ranges s) (placed s)
        ((ranges_decides s).1
        (((f.some_rule, f.few_rules), (f.some_charge, f.small_charge)), (f.some_capacity, f.small_capacity)))
        ((placed_decides s f.some_rule f.few_rules).1 (f.root, f.parents))

-- ## Blank entries

no_parent_is : (p : Parent) → (of_parent true (λ a. false) p ≡ true) ↔ (p ≡ no_parent)
no_parent_is no_parent = ((λ h. refl), (λ h. refl))
no_parent_is (under a) = ((λ h. absurd (clash false h refl)), (λ h. absurd (let z : ◌≡◌ {A = ℕ} 0 1 = cc in omega arith)))

never_is : (m : Mark) → (Twin.is_never m ≡ true) ↔ (m ≡ never)
never_is never = ((λ h. refl), (λ h. refl))
never_is (moved r) = ((λ h. absurd (clash false h refl)), (λ h. absurd (let z : ◌≡◌ {A = ℕ} 0 1 = cc in omega arith)))

-- The entry i holds nothing.
abbrev empty : State → ℕ → Bool
empty s i = of_parent true (λ a. false) (s.parent i) && not (s.cached i) && eqb (s.counter i) 0 && Twin.is_never (s.mark i)

empty_decides : (s : State) (i : ℕ) → (empty s i ≡ true) ↔ Blank s i
empty_decides s i = (
  (λ h. let (((p, u), k), m) = each.0 h in record { parent = p; uncached = u; counter = k; mark = m }),
  (λ h. each.1 (((h.parent, h.uncached), h.counter), h.mark)),
)
  where
    each : (empty s i ≡ true) ↔
        ((((s.parent i ≡ no_parent) × (i ∉ s.cached)) × (s.counter i ≡ 0)) × (s.mark i ≡ never))
    each =
        and_is _ _
        (and_is _ _ (and_is _ _ (no_parent_is (s.parent i)) (not_is (s.cached i))) (eqb_is (s.counter i) 0))
        (never_is (s.mark i))

pub blank_decides : (s : State) → (Twin.blank s ≡ true) ↔ Blanks s
blank_decides s =
    ((λ h i l m. each.0 h i l (rw m)), (λ h. each.1 (λ i l m. h i l (not_true (rules s i) m))))
  where
    each : (Twin.blank s ≡ true) ↔ ((i : ℕ) → i < entries → not (rules s i) ≡ true → Blank s i)
    each = all_of_decides entries (λ i. not (rules s i)) (empty s) (Blank s) (empty_decides s)

-- ## The closed cache

-- Rule j is in C if its parent is.
kept_decides : (C : Rules) (j : ℕ) (p : Parent) →
    (of_parent true (λ a. not (C a) || C j) p ≡ true) ↔ ((a : ℕ) → p ≡ under a → a ∈ C → j ∈ C)
kept_decides C j no_parent = ((λ h a e. absurd (let z : ◌≡◌ {A = ℕ} 0 1 = cc in omega arith)), (λ h. refl))
kept_decides C j (under k) = (
  (λ h a e m.
      let q : k ≡ a = cc in
      elim (or_one (not (C k)) (C j) h) [ inl n ↦ absurd (clash (C a) m (rw q at (not_true (C k) n))) | inr n ↦ n ]),
  (λ h. elim (in_or_out C k) [ inl m ↦ rw (m, h k refl m) | inr m ↦ rw m ]),
)

pub closed_decides : (s : State) → Formed s → (Twin.closed s ≡ true) ↔ Closed (rules s) s.parent s.cached
closed_decides s f = (
  (λ h. steps.1 (λ i j m c e. each.0 h j (rules_within s f j m) m i e c)),
  (λ h. each.1 (λ j l m a e c. steps.0 h a j m c e)),
)
  where
    each : (Twin.closed s ≡ true) ↔
        ((j : ℕ) → j < entries → j ∈ rules s → (a : ℕ) → s.parent j ≡ under a → a ∈ s.cached → j ∈ s.cached)
    each = all_of_decides entries (rules s) _ _ (λ j. kept_decides s.cached j (s.parent j))

    steps : Closed (rules s) s.parent s.cached ↔
        ((i j : ℕ) → j ∈ rules s → i ∈ s.cached → s.parent j ≡ under i → j ∈ s.cached)
    steps = closed_iff (formed_ranked s f)

-- ## Marks

mark_decides : (rounds : ℕ) (m : Mark) → (Twin.in_rounds rounds m ≡ true) ↔ InRounds rounds m
mark_decides rounds never = ((λ h. tt), (λ h. refl))
mark_decides rounds (moved r) = from_one_is rounds r

-- A cached rule has moved.
moved_decides : (x : Bool) (m : Mark) → (not (x && Twin.is_never m) ≡ true) ↔ (x ≡ true → m ≡ never → ⊥)
moved_decides true never = ((λ h. absurd (clash false h refl)), (λ h. absurd (h refl refl)))
moved_decides true (moved r) = ((λ h e q. let z : ◌≡◌ {A = ℕ} 0 1 = cc in omega arith), (λ h. refl))
moved_decides false m = ((λ h e. absurd (clash false e refl)), (λ h. refl))

-- The two clauses of `Sound` on marks.
abbrev pub Marked : State → Tally → Type 0
Marked s t =
    ((i : ℕ) → i ∈ rules s → InRounds t.rounds (s.mark i)) ×
    ((i : ℕ) → i ∈ rules s → i ∈ s.cached → s.mark i ≡ never → ⊥)

pub marks_decides : (s : State) (t : Tally) → Formed s → (Twin.marks s t ≡ true) ↔ Marked s t
marks_decides s t f = (
  (λ h. ((λ i m. (each.0 h i (rules_within s f i m) m).0), (λ i m. (each.0 h i (rules_within s f i m) m).1))),
  (λ h. each.1 (λ i l m. (h.0 i m, h.1 i m))),
)
  where
    each : (Twin.marks s t ≡ true) ↔
        ((i : ℕ) → i < entries → i ∈ rules s →
        InRounds t.rounds (s.mark i) × (i ∈ s.cached → s.mark i ≡ never → ⊥))
    each =
        all_of_decides entries (rules s) _ _
        (λ i. and_is _ _ (mark_decides t.rounds (s.mark i)) (moved_decides (s.cached i) (s.mark i)))

-- ## The tally

-- The tally's own clauses of `Sound`, over the cached rules' number c and the counters' sum k.
pub record Agrees (s : State) (t : Tally) (c k : ℕ) : Type 0 where
  pub rounds : t.rounds ≤ most_rounds
  pub paid : t.paid ≤ t.rounds
  pub standing : t.standing ≡ k
  pub account : t.paid ≡ s.charge * (t.fetched + t.evicted) + t.standing + t.wiped
  pub balance : c + t.evicted + t.flushed ≡ t.fetched
  pub reserve : t.flushes * s.charge * (s.capacity + 1) + s.charge * c + t.standing ≤ t.paid

pub agrees_decides : (s : State) (t : Tally) (c k : ℕ) → (Twin.agrees s t c k ≡ true) ↔ Agrees s t c k
agrees_decides s t c k =
    let each =
    and_is _ _
    (and_is _ _
    (and_is _ _
    (and_is _ _ (and_is _ _ (leb_is t.rounds most_rounds) (leb_is t.paid t.rounds)) (eqb_is t.standing k))
    (eqb_is t.paid (s.charge * (t.fetched + t.evicted) + t.standing + t.wiped)))
    (eqb_is (c + t.evicted + t.flushed) t.fetched))
    (leb_is (t.flushes * s.charge * (s.capacity + 1) + s.charge * c + t.standing) t.paid) in (
      (λ h.
          let (((((r, p), u), a), b), v) = each.0 h in
          record { rounds = r; paid = p; standing = u; account = a; balance = b; reserve = v }),
      (λ h. each.1 (((((h.rounds, h.paid), h.standing), h.account), h.balance), h.reserve)),
    )

-- ## Whole

-- The clauses of `Sound` in the order in which the twin tests them.
abbrev Clauses : State → Tally → Type 0
Clauses s t =
    Formed s ×
    ((((((Blanks s × Closed (rules s) s.parent s.cached) ×
    (size entries s.cached ≤ s.capacity)) × Quiet (board s)) ×
    Agrees s t (size entries s.cached) (sum entries s.counter))) × Marked s t)

clauses_sound : (s : State) (t : Tally) → Clauses s t → Sound s t
clauses_sound s t (f, (((((b, c), w), q), a), (m, v))) =
    record {
      formed = f;
      blank = b;
      closed = c;
      within_capacity = w;
      changesets = q;
      rounds = a.rounds;
      paid = a.paid;
      standing = a.standing;
      account = a.account;
      balance = a.balance;
      reserve = a.reserve;
      marks = m;
      cached_moved = v;
    }

sound_clauses : (s : State) (t : Tally) → Sound s t → Clauses s t
sound_clauses s t o = (
  o.formed,
  (
    (
      (((o.blank, o.closed), o.within_capacity), o.changesets),
      record {
        rounds = o.rounds;
        paid = o.paid;
        standing = o.standing;
        account = o.account;
        balance = o.balance;
        reserve = o.reserve;
      },
    ),
    (o.marks, o.cached_moved),
  ),
)

-- The clauses, in the order of their tests.
clauses_decide : (s : State) (t : Tally) → (Twin.sound s t ≡ true) ↔ Clauses s t
unfolding Twin.sound
clauses_decide s t =
    guard_is (Twin.formed s) _ (formed_decides s)
    (λ f.
    and_is _ _
    (and_is _ _
    (and_then _ _
    (and_is _ _ (and_is _ _ (blank_decides s) (closed_decides s f)) (leb_is (size entries s.cached) s.capacity))
    (λ a. quiet_decides (board s) (λ i. i) (formed_proper s f a.0.0 a.0.1)))
    (agrees_decides s t (size entries s.cached) (sum entries s.counter)))
    (marks_decides s t f))

pub sound_decides : (s : State) (t : Tally) → (Twin.sound s t ≡ true) ↔ Sound s t
sound_decides s t =
    ((λ h. clauses_sound s t ((clauses_decide s t).0 h)), (λ h. (clauses_decide s t).1 (sound_clauses s t h)))

pub fit_decides : (l : Lent) → (Twin.fit l ≡ true) ↔ Fit l
fit_decides l =
    ((λ h. let (o, k) = each.0 h in record { sound = o; long = k }), (λ h. each.1 (h.sound, h.long)))
  where
    each : (Twin.fit l ≡ true) ↔ (Sound l.state l.tally × (entries ≤ length l.list))
    each = and_is _ _ (sound_decides l.state l.tally) (leb_is entries (length l.list))
