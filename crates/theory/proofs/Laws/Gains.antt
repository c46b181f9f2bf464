-- Facts on the gain of a set.
--
-- In order: the gain as a difference of naturals; its sign; its additivity; its bounds; the gain of one rule.
-- Assumes nothing.
use Rattle.std.specs.Prelude.{ℕ, suc, ◌+◌, ◌*◌, ◌-◌, ◌<◌, ◌≤◌, true, ◌↔◌, ◌≡◌, refl, eqb, ℤ, pos, ◌+ℤ◌, ◌-ℤ◌, ◌*ℤ◌}
use Rattle.std.proofs.Common.{ap, ap₂, ◌∙◌, arith, eqb-true, eq-eqb}
use Rattle.std.proofs.Math.Nat as NatL
use Rattle.std.proofs.Math.Decide.{dec_le}
use Rattle.std.proofs.Math.IntN.{sub_ℕ}
use Rattle.std.specs.Int.Signed.{lt_z}
use Rattle.theory.specs.Limits.{entries, most_charge}
use Rattle.theory.specs.Sets.{Rules, ◌∈◌, ◌∉◌, ◌⊆◌, ◌∪◌, Within, NonEmpty, over, size}
use Rattle.theory.specs.Changes.{Sign, Board, Valid, count, Saturated, Quiet, Ready}
use Rattle.theory.specs.Search.{gain}
use Rattle.theory.proofs.Laws.Sums.{over_mono, size_pos, over_one, over_disjoint, size_at_most}
use Rattle.theory.proofs.Laws.Integers.{up, down, sub_up, sub_down, pos_sub, sub_sum, sub_add, sub_mul, above_is}

-- A gain, of count c, size s, charge k and scale m, is a difference of naturals.
difference : (c s k m : ℕ) → (pos c -ℤ pos (s * k)) *ℤ pos m +ℤ pos s ≡ sub_ℕ (c * m + s) (s * k * m)
difference c s k m =
    ap (λ (z : ℤ). z *ℤ pos m +ℤ pos s) (pos_sub c (s * k)) ∙ ap (λ (z : ℤ). z +ℤ pos s) (sub_mul c (s * k) m) ∙
    sub_add (c * m) (s * k * m) s

-- The gain's parts are truncated differences.
module _ (b : Board) (X : Rules) where
  pub gain_is : gain b X ≡
      sub_ℕ (count b X * (size entries b.rules + 1) + size entries X) (size entries X * b.charge * (size entries b.rules + 1))
  gain_is = difference (count b X) (size entries X) b.charge (size entries b.rules + 1)

  pub gain_up : up (gain b X) ≡
      count b X * (size entries b.rules + 1) + size entries X - size entries X * b.charge * (size entries b.rules + 1)
  gain_up = ap up gain_is ∙ sub_up _ _

  pub gain_down : down (gain b X) ≡
      size entries X * b.charge * (size entries b.rules + 1) - (count b X * (size entries b.rules + 1) + size entries X)
  gain_down = ap down gain_is ∙ sub_down _ _

-- ## The sign

-- The gain's sign is that of the surplus, 0 counted as above: the scale n + 1 outweighs the size.
kept_above : (c w s n : ℕ) → 1 ≤ s → w ≤ c → 0 < c * (n + 1) + s - w * (n + 1)
kept_above c w s n l h = omega (arith, NatL.mul-le-mul_right {m = w} {n = c} (n + 1) h)

lost_below : (c w s n : ℕ) → s ≤ n → c < w → c * (n + 1) + s < w * (n + 1)
lost_below c w s n l h = omega (arith, NatL.mul-le-mul_right {m = suc c} {n = w} (n + 1) h, NatL.suc-mul c (n + 1))

module _ (b : Board) (X : Rules) (w : Within entries b.rules) (s : X ⊆ b.rules) (e : NonEmpty X) where
  some_size : 1 ≤ size entries X
  some_size = size_pos entries X (λ i m. w i (s i m)) e

  few_size : size entries X ≤ size entries b.rules
  few_size = over_mono entries X b.rules (λ i. 1) s

  -- A set's gain is above 0 exactly when it is saturated.
  pub gain_saturated : (lt_z (pos 0) (gain b X) ≡ true) ↔ Saturated b X
  gain_saturated = (onward, back)
    where
      onward : lt_z (pos 0) (gain b X) ≡ true → Saturated b X
      onward h =
          elim (dec_le (size entries X * b.charge) (count b X)) [
            | yes l ↦ l
            | no d ↦
                absurd
                (omega (
                  arith,
                  (above_is (gain b X)).0 h,
                  gain_up b X,
                  lost_below (count b X) (size entries X * b.charge) (size entries X) (size entries b.rules) few_size
                      (omega (arith, d)),
                ))
          ]

      back : Saturated b X → lt_z (pos 0) (gain b X) ≡ true
      back h =
          (above_is (gain b X)).1
          (omega (
            arith,
            gain_up b X,
            kept_above (count b X) (size entries X * b.charge) (size entries X) (size entries b.rules) some_size h,
          ))

  -- No such gain is 0.
  pub gain_not_zero : gain b X ≡ pos 0 → ⊥
  gain_not_zero z =
      elim (dec_le (size entries X * b.charge) (count b X)) [
        | yes l ↦
            omega (
              arith,
              ap up z,
              gain_up b X,
              kept_above (count b X) (size entries X * b.charge) (size entries X) (size entries b.rules) some_size l,
            )
        | no d ↦
            omega (
              arith,
              ap down z,
              gain_down b X,
              lost_below (count b X) (size entries X * b.charge) (size entries X) (size entries b.rules) few_size
                  (omega (arith, d)),
            )
      ]

-- ## Sums

-- The gain of two sets without a common member.
pub gain_additive : (b : Board) (X Y : Rules) → ((i : ℕ) → i ∈ X → i ∉ Y) → gain b (X ∪ Y) ≡ gain b X +ℤ gain b Y
gain_additive b X Y d =
    rw (over_disjoint entries X Y b.counter d, over_disjoint entries X Y (λ i. 1) d)
    (added (count b X) (count b Y) (size entries X) (size entries Y) b.charge (size entries b.rules + 1))
  where
    added : (x y p q k m : ℕ) →
        (pos (x + y) -ℤ pos ((p + q) * k)) *ℤ pos m +ℤ pos (p + q) ≡
        ((pos x -ℤ pos (p * k)) *ℤ pos m +ℤ pos p) +ℤ ((pos y -ℤ pos (q * k)) *ℤ pos m +ℤ pos q)
    added x y p q k m =
        let e : (x + y) * m + (p + q) ≡ x * m + p + (y * m + q) = omega arith in
        let f : (p + q) * k * m ≡ p * k * m + q * k * m = omega arith in
        rw (difference (x + y) (p + q) k m, difference x p k m, difference y q k m, sub_sum (x * m + p) (p * k * m) (y * m + q) (q * k * m))
        (ap₂ sub_ℕ e f)

-- ## Bounds

-- Where the count is at most the size times the charge the gain is at most the size.
pub gain_at_most : (b : Board) (X : Rules) → count b X ≤ size entries X * b.charge → up (gain b X) ≤ size entries X
gain_at_most b X h =
    omega (
      arith,
      gain_up b X,
      NatL.mul-le-mul_right {m = count b X} {n = size entries X * b.charge} (size entries b.rules + 1) h,
    )

pub ready_gain : (b : Board) (v : ℕ) → Ready b v → (g : Sign) (X : Rules) → Valid g b X → up (gain b X) ≤ size entries X
ready_gain b v r g X a = gain_at_most b X (r.at_most g X a)

pub quiet_gain : (b : Board) → Quiet b → (g : Sign) (X : Rules) → Valid g b X → up (gain b X) ≤ size entries X
quiet_gain b q g X a =
    gain_at_most b X
    (elim (dec_le (size entries X * b.charge) (count b X)) [ yes l ↦ absurd (q g X a l) | no d ↦ omega (arith, d) ])

-- The two limits as numbers.
few : (X : Rules) → size entries X ≤ 1024
unfolding entries
few X = size_at_most entries X

small : (k : ℕ) → k ≤ most_charge → k ≤ 65535
unfolding most_charge
small k l = l

-- With s = 1024, k = 65535, n = 1024 and no count.
deepest : (c s k n : ℕ) → s ≤ 1024 → k ≤ 65535 → n ≤ 1024 → s * k * (n + 1) - (c * (n + 1) + s) ≤ 68785534976
deepest c s k n h l o =
    let q : k * (n + 1) ≤ 67173375 = NatL.mul-le-mul {n₁ = k} {m₁ = n + 1} {n₂ = 65535} {m₂ = 1025} l (omega arith) in
    let p : s * (k * (n + 1)) ≤ s * 67173375 = NatL.mul-le-mul_left s q in
    omega (arith, NatL.mul_assoc s k (n + 1))

pub gain_at_least : (b : Board) (X : Rules) → Within entries b.rules → X ⊆ b.rules → b.charge ≤ most_charge →
    down (gain b X) ≤ 68785534976
gain_at_least b X w s k =
    omega (
      arith,
      gain_down b X,
      deepest (count b X) (size entries X) b.charge (size entries b.rules) (few X) (small b.charge k)
          (few b.rules),
    )

-- ## One rule

-- The gain of the set of u alone.
pub gain_one : (b : Board) (u : ℕ) → u < entries →
    gain b (λ i. eqb i u) ≡ (pos (b.counter u) -ℤ pos b.charge) *ℤ pos (size entries b.rules + 1) +ℤ pos 1
gain_one b u l = alone _ _ _ _ _ (only b.counter) (only (λ i. 1))
  where
    only : (f : ℕ → ℕ) → over entries (λ i. eqb i u) f ≡ f u
    only f = over_one entries (λ i. eqb i u) f u l (eq-eqb u u refl) (λ i k m. eqb-true i u m)

    alone : (c d s k m : ℕ) → c ≡ d → s ≡ 1 →
        (pos c -ℤ pos (s * k)) *ℤ pos m +ℤ pos s ≡ (pos d -ℤ pos k) *ℤ pos m +ℤ pos 1
    alone c d s k m e f = rw (e, f, NatL.one-mul k)
