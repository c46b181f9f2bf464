-- Lemma 1 of source 001: what holds of a changeset that Tree Caching acts on, and of the board it leaves; and what a flush leaves.
--
-- In order: the boards left; the sides of a cache that was acted on; the side that lost the changeset; the side that gained it; the lemma; a flush.
-- Assumes nothing.
use Rattle.std.specs.Prelude.{ℕ, ◌+◌, ◌*◌, ◌<◌, ◌≤◌, true, false, not, ◌&&◌, ◌||◌, ◌≡◌, refl, ◌⊎◌}
use Rattle.std.proofs.Common.{ap, inl, inr, lt_of_not-le, not-le_of_lt, mul-le-mul_right, arith}
use Rattle.std.proofs.Math.Nat.{one-le-mul}
use Rattle.theory.specs.Limits.{entries}
use Rattle.theory.specs.Sets.{Rules, ◌∈◌, ◌∉◌, ◌⊆◌, ∅, ◌∪◌, ◌∩◌, ◌∖◌, Within, over, size}
use Rattle.theory.specs.Tree.{Closed}
use Rattle.theory.specs.Changes.{Sign, positive, negative, Board, Valid, count, Saturated, Quiet, Ready, Greatest}
use Rattle.theory.proofs.Laws.Sums.{in_or_out, some_or_none, clash, and_both, or_one, not_true, over_cut, over_le, over_mono, over_eq, over_same, over_zero, over_disjoint, size_pos}
use Rattle.theory.proofs.Laws.Parts.{Part, part_join, part_cut, half, side, toward, PartOf, Proper, side_rules, valid_part, part_valid}
use Rattle.theory.proofs.Laws.Claim17.{saturated_exact, saturated_side}

-- The cache after a changeset.
abbrev pub changed : Sign → Rules → Rules → Rules
changed positive C X = C ∪ X
changed negative C X = C ∖ X

-- The board after a changeset: its rules changed sides, with counters at 0.
abbrev pub left_by : Sign → Rules → Board → Board
left_by g X b =
    record {
      rules = b.rules;
      charge = b.charge;
      parent = b.parent;
      cached = changed g b.cached X;
      counter = λ i. elim (X i) [ true ↦ 0 | false ↦ b.counter i ];
    }

-- The board after a flush.
abbrev pub emptied : Board → Board
emptied b =
    record {
      rules = b.rules;
      charge = b.charge;
      parent = b.parent;
      cached = ∅;
      counter = λ i. 0;
    }

-- No part of D is saturated, k being the charge and c the counters.
abbrev Calm : ℕ → (ℕ → ℕ → Type 0) → Rules → (ℕ → ℕ) → Type 0
Calm k R D c = (Y : Rules) → Part R D Y → over entries Y c < size entries Y * k

abbrev CalmOf : Sign → Board → Type 0
CalmOf g b = Calm b.charge (toward g b.parent) (side g b) b.counter

-- ## The sides of a cache that was acted on

abbrev flip : Sign → Sign
flip positive = negative
flip negative = positive

gone : (g : Sign) (R C X : Rules) (y : ℕ) → y ∈ half g R (changed g C X) → y ∉ X
gone positive R C X y m =
    let n : C y || X y ≡ false = not_true (C y || X y) (and_both (R y) (not (C y || X y)) m).1 in
    elim (in_or_out X y) [ inl k ↦ elim (in_or_out C y) [ inl j ↦ cc | inr j ↦ cc ] | inr k ↦ k ]
gone negative R C X y m = not_true (X y) (and_both (C y) (not (X y)) (and_both (R y) (C y && not (X y)) m).1).1

smaller : (g : Sign) (R C X : Rules) → half g R (changed g C X) ⊆ half g R C
smaller positive R C X y m =
    let (r, n) = and_both (R y) (not (C y || X y)) m in
    elim (in_or_out C y) [ inl j ↦ cc | inr j ↦ cc ]
smaller negative R C X y m =
    let (r, n) = and_both (R y) (C y && not (X y)) m in
    let (c, x) = and_both (C y) (not (X y)) n in
    cc

kept : (g : Sign) (R C X : Rules) (y : ℕ) → y ∈ half g R C → y ∉ X → y ∈ half g R (changed g C X)
kept positive R C X y m k =
    let (r, n) = and_both (R y) (not (C y)) m in
    let j : C y ≡ false = not_true (C y) n in
    cc
kept negative R C X y m k = let (r, n) = and_both (R y) (C y) m in cc

larger : (g : Sign) (R C X : Rules) → half (flip g) R C ⊆ half (flip g) R (changed g C X)
larger positive R C X y m = let (r, n) = and_both (R y) (C y) m in cc
larger negative R C X y m =
    let (r, n) = and_both (R y) (not (C y)) m in
    let j : C y ≡ false = not_true (C y) n in
    cc

gained : (g : Sign) (R C X : Rules) (y : ℕ) → y ∈ half (flip g) R (changed g C X) → y ∉ half (flip g) R C → y ∈ X
gained positive R C X y m k =
    let (r, n) = and_both (R y) (C y || X y) m in
    elim (or_one (C y) (X y) n) [ inl c ↦ cc | inr x ↦ x ]
gained negative R C X y m k =
    let (r, n) = and_both (R y) (not (C y && not (X y))) m in
    elim (in_or_out X y) [ inl x ↦ x | inr x ↦ elim (in_or_out C y) [ inl c ↦ cc | inr c ↦ cc ] ]

apart : (g : Sign) (R C : Rules) (y : ℕ) → y ∈ half g R C → y ∈ half (flip g) R C → ⊥
apart positive R C y m k =
    clash (C y) (and_both (R y) (C y) k).1 (not_true (C y) (and_both (R y) (not (C y)) m).1)
apart negative R C y m k =
    clash (C y) (and_both (R y) (C y) m).1 (not_true (C y) (and_both (R y) (not (C y)) k).1)

-- ## Two sums

-- The side that lost X: a saturated part of what is left would, with X, be saturated before.
calm_same : (k : ℕ) {R : ℕ → ℕ → Type 0} {D E X : Rules} {d e : ℕ → ℕ} →
    Part R D X → size entries X * k ≤ over entries X d →
    ((Y : Rules) → Part R D Y → size entries Y * k ≤ over entries Y d → Y ⊆ X) →
    E ⊆ D → ((y : ℕ) → y ∈ D → y ∉ X → y ∈ E) → ((y : ℕ) → y ∈ E → y ∉ X) →
    ((y : ℕ) → y ∉ X → e y ≡ d y) → Calm k R E e
calm_same k {R} {D} {E} {X} {d} {e} x f g s t u w Z z =
    lt_of_not-le
    (λ h.
    let j : Part R D (X ∪ Z) = part_join x z s t in
    let out : (i : ℕ) → i ∈ Z → i ∉ X = λ i m. u i (z.inside i m) in
    let same : over entries Z e ≡ over entries Z d = over_eq entries Z Z e d (λ i m. m) (λ i m. m) (λ i l m. w i (out i m)) in
    let apart : (i : ℕ) → i ∈ X → i ∉ Z = λ i m. elim (in_or_out Z i) [ inl o ↦ absurd (clash (X i) m (out i o)) | inr o ↦ o ] in
    let full : size entries (X ∪ Z) * k ≤ over entries (X ∪ Z) d =
    omega (arith, ap (λ (s : ℕ). s * k) (over_disjoint entries X Z (λ i. 1) apart), over_disjoint entries X Z d apart) in
    let m : z.some.0 ∈ Z = z.some.1 in
    let o : z.some.0 ∉ X = out z.some.0 m in
    clash (X z.some.0) (g (X ∪ Z) j full z.some.0 (cc)) o)

-- The side that gained X: X counts nothing, and without it nothing was saturated.
calm_other : (k : ℕ) {R : ℕ → ℕ → Type 0} {D E X : Rules} {d e : ℕ → ℕ} →
    Calm k R D d → 1 ≤ k → Within entries E → D ⊆ E → ((y : ℕ) → y ∈ E → y ∉ D → y ∈ X) →
    ((y : ℕ) → e y ≤ d y) → ((y : ℕ) → y ∈ X → e y ≡ 0) → Calm k R E e
calm_other k {R} {D} {E} {X} {d} {e} q p n s t u w Z z =
    let rest : over entries (Z ∖ D) e ≡ 0 =
    over_zero entries (Z ∖ D) e
    (λ i l m. w i (t i (z.inside i (and_both (Z i) (not (D i)) m).0) (not_true (D i) (and_both (Z i) (not (D i)) m).1))) in
    let cut : over entries Z e ≡ over entries (Z ∩ D) e + over entries (Z ∖ D) e = over_cut entries Z D e in
    elim (some_or_none entries (Z ∩ D)) [
      | inl h ↦
          omega (
            arith,
            q (Z ∩ D) (part_cut z s h),
            over_le entries (Z ∩ D) (Z ∩ D) e d (λ i m. m) (λ i l m. u i),
            mul-le-mul_right k (over_mono entries (Z ∩ D) Z (λ i. 1) (λ i m. (and_both (Z i) (D i) m).0)),
          )
      | inr h ↦
          omega (
            arith,
            over_zero entries (Z ∩ D) e (λ i l m. absurd (clash (Z i && D i) m (h i l))),
            one-le-mul (size_pos entries Z (λ i m. n i (z.inside i m)) z.some) p,
          )
    ]

-- ## The lemma

cleared_off : (X : Rules) (b : Board) (g : Sign) (y : ℕ) → y ∉ X → (left_by g X b).counter y ≡ b.counter y
cleared_off X b g y m = rw m

cleared_on : (X : Rules) (b : Board) (g : Sign) (y : ℕ) → y ∈ X → (left_by g X b).counter y ≡ 0
cleared_on X b g y m = rw m

cleared_le : (X : Rules) (b : Board) (g : Sign) (y : ℕ) → (left_by g X b).counter y ≤ b.counter y
cleared_le X b g y =
    elim (in_or_out X y) [
      | inl m ↦ omega (arith, cleared_on X b g y m)
      | inr m ↦ omega (arith, cleared_off X b g y m)
    ]

-- After a valid changeset the cache is closed.
pub changed_closed : (g : Sign) (b : Board) (X : Rules) → Valid g b X → Closed b.rules b.parent (changed g b.cached X)
changed_closed positive b X x = x.closed
changed_closed negative b X x = x.closed

-- What is cached after a changeset was cached before or is in it.
changed_from : (g : Sign) (C X : Rules) (i : ℕ) → i ∈ changed g C X → (i ∈ C) ⊎ (i ∈ X)
changed_from positive C X i m = or_one (C i) (X i) m
changed_from negative C X i m = inl (and_both (C i) (not (X i)) m).0

valid_rules : (g : Sign) (b : Board) (X : Rules) → Valid g b X → X ⊆ b.rules
valid_rules positive b X x = x.within
valid_rules negative b X x = x.within

pub left_proper : (g : Sign) (b : Board) (X : Rules) {rank : ℕ → ℕ} → Proper b rank → Valid g b X → Proper (left_by g X b) rank
left_proper g b X o x =
    record {
      within = o.within;
      ranked = o.ranked;
      held = λ i l m. elim (changed_from g b.cached X i m) [ inl h ↦ o.held i l h | inr h ↦ valid_rules g b X x i h ];
      closed = changed_closed g b X x;
      some_charge = o.some_charge;
    }

calm_quiet : (b : Board) {rank : ℕ → ℕ} → Proper b rank → ((g : Sign) → CalmOf g b) → Quiet b
calm_quiet b o q g Y y = not-le_of_lt (q g Y (valid_part b o g Y y))

both : (Q : Sign → Type 0) (g : Sign) → Q g → Q (flip g) → (h : Sign) → Q h
both Q positive a c positive = a
both Q positive a c negative = c
both Q negative a c positive = c
both Q negative a c negative = a

module _ (b : Board) {rank : ℕ → ℕ} {v : ℕ} (o : Proper b rank) (r : Ready b v) (g : Sign) (X : Rules) (x : Greatest b g X) where
  same : CalmOf g (left_by g X b)
  same =
      calm_same b.charge (valid_part b o g X x.valid) x.saturated
      (λ Y y f. x.greatest g Y (part_valid b o g Y y) f)
      (smaller g b.rules b.cached X) (kept g b.rules b.cached X) (gone g b.rules b.cached X) (cleared_off X b g)

  -- v is in X, so no part of the other side is saturated.
  before : CalmOf (flip g) b
  before Y y =
      lt_of_not-le
      (λ f. apart g b.rules b.cached v (saturated_side b o r g X x.valid x.saturated)
      (y.inside v (r.holds (flip g) Y (part_valid b o (flip g) Y y) f)))

  other : CalmOf (flip g) (left_by g X b)
  other =
      calm_other b.charge before o.some_charge (λ i m. o.within i (side_rules (flip g) (left_by g X b) i m))
      (larger g b.rules b.cached X) (gained g b.rules b.cached X) (cleared_le X b g) (cleared_on X b g)

  quiet_after : Quiet (left_by g X b)
  quiet_after =
      calm_quiet (left_by g X b) (left_proper g b X o x.valid) (both (λ h. CalmOf h (left_by g X b)) g same other)

  -- A union of two disjoint valid changesets would hold v twice.
  whole_before : (Y Z : Rules) → Valid g b Y → Valid g b Z → ((i : ℕ) → i ∈ Y → i ∉ Z) → ((i : ℕ) → X i ≡ Y i || Z i) → ⊥
  whole_before Y Z y z d e =
      let c : count b X ≡ count b Y + count b Z =
      omega (
        arith,
        over_disjoint entries Y Z b.counter d,
        over_same entries X (Y ∪ Z) b.counter b.counter (λ i l. e i) (λ i l m. refl),
      ) in
      let s : size entries X ≡ size entries Y + size entries Z =
      omega (arith, over_disjoint entries Y Z (λ i. 1) d, over_same entries X (Y ∪ Z) (λ i. 1) (λ i. 1) (λ i l. e i) (λ i l m. refl)) in
      let f : size entries X * b.charge ≤ count b X = x.saturated in
      let h : size entries X * b.charge ≡ (size entries Y + size entries Z) * b.charge = ap (λ (s : ℕ). s * b.charge) s in
      let a : Saturated b Y = omega (arith, r.at_most g Z z) in
      let k : Saturated b Z = omega (arith, r.at_most g Y y) in
      clash (Z v) (r.holds g Z z k) (d v (r.holds g Y y a))

-- What holds of the changeset X that Tree Caching acts on after a payment for v.
pub record Applied (b : Board) (v : ℕ) (g : Sign) (X : Rules) : Type 0 where
  pub holds : v ∈ X
  pub exact : count b X ≡ size entries X * b.charge
  pub quiet : Quiet (left_by g X b)
  pub whole : (Y Z : Rules) → Valid g b Y → Valid g b Z → ((i : ℕ) → i ∈ Y → i ∉ Z) → ((i : ℕ) → X i ≡ Y i || Z i) → ⊥

-- Lemma 1.
pub lemma_1 : (b : Board) {rank : ℕ → ℕ} {v : ℕ} → Proper b rank → Ready b v → (g : Sign) (X : Rules) → Greatest b g X →
    Applied b v g X
lemma_1 b o r g X x =
    record {
      holds = r.holds g X x.valid x.saturated;
      exact = saturated_exact b o r g X x.valid x.saturated;
      quiet = quiet_after b o r g X x;
      whole = whole_before b o r g X x;
    }

-- ## A flush

pub emptied_proper : (b : Board) {rank : ℕ → ℕ} → Proper b rank → Proper (emptied b) rank
emptied_proper b o =
    record {
      within = o.within;
      ranked = o.ranked;
      held = λ i l m. absurd (clash false m refl);
      closed = λ i j l m s. m;
      some_charge = o.some_charge;
    }

pub emptied_quiet : (b : Board) {rank : ℕ → ℕ} → Proper b rank → Quiet (emptied b)
emptied_quiet b o g Y y f =
    let p : PartOf g (emptied b) Y = valid_part (emptied b) (emptied_proper b o) g Y y in
    omega (
      arith,
      over_zero entries Y (λ i. 0) (λ i l m. refl),
      one-le-mul (size_pos entries Y (λ i m. o.within i (side_rules g (emptied b) i (p.inside i m))) p.some) o.some_charge,
    )
