-- Claim 17 of source 001: what one paid request can fill.
--
-- In order: boards after a payment; the claim; what a ready board says of its saturated changesets.
-- Assumes nothing.
use Rattle.std.specs.Prelude.{ℕ, suc, ◌*◌, ◌<◌, ◌≤◌, ◌≡◌, refl}
use Rattle.std.proofs.Common.{ap, inl, inr, lt_of_not-le, arith, eq-eqb, ne_eqb}
use Rattle.theory.specs.Limits.{entries}
use Rattle.theory.specs.Sets.{Rules, ◌∈◌, ◌∉◌, ◌∪◌, ◌∩◌, over, size}
use Rattle.theory.specs.Changes.{Sign, Board, Valid, count, Saturated, Quiet, Ready}
use Rattle.theory.specs.Payment.{raise}
use Rattle.theory.proofs.Laws.Sums.{in_or_out, clash, over_union, over_eq, over_at}
use Rattle.theory.proofs.Laws.Parts.{part_union, part_meet, side, PartOf, Proper, valid_part, part_valid}

-- The board after a payment for rule v.
abbrev pub paid_for : ℕ → Board → Board
paid_for v b =
    record {
      rules = b.rules;
      charge = b.charge;
      parent = b.parent;
      cached = b.cached;
      counter = raise v b.counter;
    }

pub paid_proper : {b : Board} {rank : ℕ → ℕ} (v : ℕ) → Proper b rank → Proper (paid_for v b) rank
paid_proper v o = record { within = o.within; ranked = o.ranked; held = o.held; closed = o.closed; some_charge = o.some_charge }

-- One more at v, and nowhere else.
pub raise_at : (v : ℕ) (c : ℕ → ℕ) → raise v c v ≡ suc (c v)
raise_at v c = rw (eq-eqb v v refl, raise)

pub raise_off : (v : ℕ) (c : ℕ → ℕ) (i : ℕ) → (i ≡ v → ⊥) → raise v c i ≡ c i
raise_off v c i d = rw (ne_eqb i v d, raise)

pub raised_out : (n v : ℕ) (c : ℕ → ℕ) (Y : Rules) → v ∉ Y → over n Y (raise v c) ≡ over n Y c
raised_out n v c Y o =
    over_eq n Y Y (raise v c) c (λ i m. m) (λ i m. m) (λ i j m. raise_off v c i (λ p. clash (Y v) (rw p at m) o))

pub raised_in : (n v : ℕ) (c : ℕ → ℕ) (Y : Rules) → v < n → v ∈ Y → over n Y (raise v c) ≡ suc (over n Y c)
raised_in n v c Y l m = omega (arith, over_at n Y (raise v c) c v l m (raise_off v c), raise_at v c)

-- Claim 17: from a quiet board, a payment for v leaves one that is ready at v.
pub claim_17 : (b : Board) {rank : ℕ → ℕ} (v : ℕ) → Proper b rank → Quiet b → v ∈ b.rules → Ready (paid_for v b) v
claim_17 b v o q m = record { at_most = at_most; holds = holds }
  where
    before : (g : Sign) (Y : Rules) → Valid g (paid_for v b) Y → count b Y < size entries Y * b.charge
    before g Y y = lt_of_not-le (q g Y (part_valid b o g Y (valid_part (paid_for v b) (paid_proper v o) g Y y)))

    at_most : (g : Sign) (Y : Rules) → Valid g (paid_for v b) Y → count (paid_for v b) Y ≤ size entries Y * b.charge
    at_most g Y y =
        elim (in_or_out Y v) [
          | inl h ↦ omega (arith, raised_in entries v b.counter Y (o.within v m) h, before g Y y)
          | inr h ↦ omega (arith, raised_out entries v b.counter Y h, before g Y y)
        ]

    holds : (g : Sign) (Y : Rules) → Valid g (paid_for v b) Y → Saturated (paid_for v b) Y → v ∈ Y
    holds g Y y f =
        elim (in_or_out Y v) [
          | inl h ↦ h
          | inr h ↦ absurd (omega (arith, raised_out entries v b.counter Y h, before g Y y))
        ]

-- A quiet board is ready at any rule: a request that was free leaves it so.
pub quiet_ready : (b : Board) (v : ℕ) → Quiet b → Ready b v
quiet_ready b v q =
    record {
      at_most = λ g X x. let h : count b X < size entries X * b.charge = lt_of_not-le (q g X x) in omega arith;
      holds = λ g X x f. absurd (q g X x f);
    }

module _ (b : Board) {rank : ℕ → ℕ} {v : ℕ} (o : Proper b rank) (r : Ready b v) where
  -- A saturated changeset counts exactly its size times the charge.
  pub saturated_exact : (g : Sign) (X : Rules) → Valid g b X → Saturated b X → count b X ≡ size entries X * b.charge
  saturated_exact g X x f = omega (arith, r.at_most g X x)

  -- It has the sign of v's side.
  pub saturated_side : (g : Sign) (X : Rules) → Valid g b X → Saturated b X → v ∈ side g b
  saturated_side g X x f = (valid_part b o g X x).inside v (r.holds g X x f)

  -- Two of them make one.
  pub saturated_union : (g : Sign) (X Y : Rules) → Valid g b X → Valid g b Y → Saturated b X → Saturated b Y →
      Valid g b (X ∪ Y) × Saturated b (X ∪ Y)
  saturated_union g X Y x y f h =
      let px : PartOf g b X = valid_part b o g X x in
      let py : PartOf g b Y = valid_part b o g Y y in
      let i : v ∈ X = r.holds g X x f in
      let j : v ∈ Y = r.holds g Y y h in
      let z : PartOf g b (X ∩ Y) = part_meet px py (v, cc) in (
        part_valid b o g (X ∪ Y) (part_union px py),
        omega (
          arith,
          ap (λ (s : ℕ). s * b.charge) (over_union entries X Y (λ i. 1)),
          over_union entries X Y b.counter,
          r.at_most g (X ∩ Y) (part_valid b o g (X ∩ Y) z),
        ),
      )
