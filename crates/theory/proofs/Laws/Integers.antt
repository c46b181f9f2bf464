-- Integers by naturals: each integer z is `up z - down z`, its positive and its negative part, so that arithmetic in ℕ can do the reasoning.
--
-- In order: the two parts; a difference of naturals; sums; products; the sign.
-- Assumes nothing.
use Rattle.std.specs.Prelude.{ℕ, zero, suc, ◌+◌, ◌*◌, ◌-◌, ◌<◌, ◌≤◌, Bool, true, false, not, cond, ◌↔◌, ◌≡◌, refl, T, ltb, ℤ, pos, negsuc, neg_ℤ, ◌+ℤ◌, ◌-ℤ◌, ◌*ℤ◌}
use Rattle.std.proofs.Common.{sym, ap, ◌∙◌, arith, ltb→lt, nltb→le, ltb-true, lt-ltb}
use Rattle.std.proofs.Math.Nat as NatL
use Rattle.std.proofs.Math.IntN.{sub_ℕ}
use Rattle.std.specs.Int.Signed.{lt_z}

-- The positive part, max(0, z).
abbrev pub up : ℤ → ℕ
up (pos n) = n
up (negsuc n) = 0

-- The negative part, max(0, -z).
abbrev pub down : ℤ → ℕ
down (pos n) = 0
down (negsuc n) = suc n

-- Two integers are equal where their parts say so.
pub ext : (x y : ℤ) → up x + down y ≡ up y + down x → x ≡ y
ext (pos a) (pos b) e = let h : a ≡ b = omega arith in ap pos h
ext (pos a) (negsuc b) e = absurd (let h : ⊥ = omega arith in h)
ext (negsuc a) (pos b) e = absurd (let h : ⊥ = omega arith in h)
ext (negsuc a) (negsuc b) e = let h : a ≡ b = omega arith in ap negsuc h

-- ## Differences of naturals

by_test : (c : Bool) (x y : ℤ) (P : ℤ → Type 0) → (T c → P x) → (T (not c) → P y) → P (cond c x y)
by_test true x y P f g = f tt
by_test false x y P f g = g tt

-- What holds of a − b, by a test of the two.
sub_case : (a b : ℕ) (P : ℤ → Type 0) → (a < b → P (negsuc (b - suc a))) → (b ≤ a → P (pos (a - b))) → P (sub_ℕ a b)
sub_case a b P f g = by_test (ltb a b) (negsuc (b - suc a)) (pos (a - b)) P (λ t. f (ltb→lt a b t)) (λ t. g (nltb→le a b t))

-- The parts of a difference are truncated differences.
pub sub_up : (a b : ℕ) → up (sub_ℕ a b) ≡ a - b
sub_up a b = sub_case a b (λ z. up z ≡ a - b) (λ h. omega arith) (λ h. refl)

pub sub_down : (a b : ℕ) → down (sub_ℕ a b) ≡ b - a
sub_down a b = sub_case a b (λ z. down z ≡ b - a) (λ h. omega arith) (λ h. omega arith)

pub pos_sub : (a b : ℕ) → pos a -ℤ pos b ≡ sub_ℕ a b
pos_sub a zero = ext (pos (a + 0)) (sub_ℕ a 0) (omega (arith, sub_up a 0, sub_down a 0))
pos_sub a (suc b) = refl

-- ## Sums

-- The parts of a sum: one equation in ℕ.
pub add_parts : (x y : ℤ) → up (x +ℤ y) + (down x + down y) ≡ up x + up y + down (x +ℤ y)
add_parts (pos a) (pos b) = omega arith
add_parts (pos a) (negsuc b) = omega (arith, sub_up a (suc b), sub_down a (suc b))
add_parts (negsuc a) (pos b) = omega (arith, sub_up b (suc a), sub_down b (suc a))
add_parts (negsuc a) (negsuc b) = omega arith

-- A sum of two differences.
pub sub_sum : (a b c d : ℕ) → sub_ℕ a b +ℤ sub_ℕ c d ≡ sub_ℕ (a + c) (b + d)
sub_sum a b c d =
    ext _ _
    (omega (
      arith,
      add_parts (sub_ℕ a b) (sub_ℕ c d),
      sub_up a b,
      sub_down a b,
      sub_up c d,
      sub_down c d,
      sub_up (a + c) (b + d),
      sub_down (a + c) (b + d),
    ))

pub sub_add : (a b c : ℕ) → sub_ℕ a b +ℤ pos c ≡ sub_ℕ (a + c) b
sub_add a b c =
    ext _ _ (omega (arith, add_parts (sub_ℕ a b) (pos c), sub_up a b, sub_down a b, sub_up (a + c) b, sub_down (a + c) b))

-- ## Products

neg_parts : (m : ℕ) → (up (neg_ℤ (pos m)) ≡ 0) × (down (neg_ℤ (pos m)) ≡ m)
neg_parts zero = (refl, refl)
neg_parts (suc m) = (refl, refl)

pub sub_mul : (a b m : ℕ) → sub_ℕ a b *ℤ pos m ≡ sub_ℕ (a * m) (b * m)
sub_mul a b m =
    sub_case a b (λ z. z *ℤ pos m ≡ sub_ℕ (a * m) (b * m))
    (λ h.
    ext _ _
    (omega (
      arith,
      neg_parts (suc (b - suc a) * m),
      sub_up (a * m) (b * m),
      sub_down (a * m) (b * m),
      whole (suc (b - suc a)) a b (omega arith),
    )))
    (λ h. ext _ _ (omega (arith, sub_up (a * m) (b * m), sub_down (a * m) (b * m), whole (a - b) b a (omega arith))))
  where
    whole : (x y z : ℕ) → x + y ≡ z → x * m + y * m ≡ z * m
    whole x y z e = sym (NatL.add-mul x y m) ∙ ap (λ (k : ℕ). k * m) e

-- ## The sign

-- An integer is above 0 where its positive part is.
pub above_is : (z : ℤ) → (lt_z (pos 0) z ≡ true) ↔ (0 < up z)
above_is (pos n) = (ltb-true 0 n, lt-ltb 0 n)
above_is (negsuc n) = ((λ h. absurd (let e : ◌≡◌ {A = ℕ} 0 1 = cc in omega arith)), (λ h. absurd (omega arith)))
