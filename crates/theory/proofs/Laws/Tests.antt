-- What the twin's tests over the entries say, and small facts on tests.
--
-- In order: single tests; two tests; tests over the entries.
-- Assumes nothing.
use Rattle.std.specs.Prelude.{ℕ, zero, suc, ◌<◌, ◌≤◌, Bool, true, false, not, ◌&&◌, ◌↔◌, ◌≡◌, refl, eqb, leb}
use Rattle.std.proofs.Common.{inl, inr, arith, leb-true, eqb-true, le-leb, eq-eqb}
use Rattle.std.proofs.Math.Decide.{ℕ_discrete}
use Rattle.theory.specs.Sets.{Rules, ◌∈◌}
use Rattle.theory.specs.Twin.{all, all_of, from_one}
use Rattle.theory.proofs.Laws.Sums.{in_or_out, clash, and_both, not_true}

-- ## Single tests

pub leb_is : (a b : ℕ) → (leb a b ≡ true) ↔ (a ≤ b)
leb_is a b = (leb-true a b, le-leb a b)

pub eqb_is : (a b : ℕ) → (eqb a b ≡ true) ↔ (a ≡ b)
eqb_is a b = (eqb-true a b, eq-eqb a b)

pub not_is : (x : Bool) → (not x ≡ true) ↔ (x ≡ false)
not_is x = (not_true x, λ h. rw h)

pub and-true : (x y : Bool) → x ≡ true → y ≡ true → x && y ≡ true
and-true x y p q = cc

-- Two tests say what their two facts say; the second may lean on the first fact.
pub and_then : {A B : Type 0} (x y : Bool) → (x ≡ true) ↔ A → (A → (y ≡ true) ↔ B) → (x && y ≡ true) ↔ (A × B)
and_then x y f g = (
  (λ h. let a = f.0 (and_both x y h).0 in (a, (g a).0 (and_both x y h).1)),
  (λ h. and-true x y (f.1 h.0) ((g h.0).1 h.1)),
)

pub and_is : {A B : Type 0} (x y : Bool) → (x ≡ true) ↔ A → (y ≡ true) ↔ B → (x && y ≡ true) ↔ (A × B)
and_is x y f g = and_then x y f (λ a. g)

-- A test that is made only where another passes.
pub guard_is : {A B : Type 0} (x y : Bool) → (x ≡ true) ↔ A → (A → (y ≡ true) ↔ B) →
    (elim x [ true ↦ y | false ↦ false ] ≡ true) ↔ (A × B)
guard_is true y f g = and_then true y f g
guard_is false y f g = and_then false y f g

pub from_one_is : (k n : ℕ) → (from_one k n ≡ true) ↔ ((1 ≤ n) × (n ≤ k))
from_one_is k n = and_is (leb 1 n) (leb n k) (leb_is 1 n) (leb_is n k)

-- ## Tests over the entries

pub all_is : (n : ℕ) (f : ℕ → Bool) → (all n f ≡ true) ↔ ((i : ℕ) → i < n → f i ≡ true)
unfolding all
all_is n f = (each n, every n)
  where
    each : (n : ℕ) → all n f ≡ true → (i : ℕ) → i < n → f i ≡ true
    each zero h i l = absurd (omega arith)
    each (suc n) h i l =
        elim (in_or_out f n) [
          | inl m ↦ elim (ℕ_discrete i n) [ yes q ↦ rw q m | no d ↦ each n (rw (m, all) at h) i (omega (arith, d)) ]
          | inr m ↦ absurd (clash false (rw (m, all) at h) refl)
        ]

    every : (n : ℕ) → ((i : ℕ) → i < n → f i ≡ true) → all n f ≡ true
    every zero h = refl
    every (suc n) h = rw (h n (omega arith), all) (every n (λ i l. h i (omega arith)))

pub all_of_is : (n : ℕ) (X : Rules) (f : ℕ → Bool) → (all_of n X f ≡ true) ↔ ((i : ℕ) → i < n → i ∈ X → f i ≡ true)
all_of_is n X f = (each, every)
  where
    each : all_of n X f ≡ true → (i : ℕ) → i < n → i ∈ X → f i ≡ true
    each h i l m = rw m at ((all_is n (λ i. elim (X i) [ true ↦ f i | false ↦ true ])).0 h i l)

    every : ((i : ℕ) → i < n → i ∈ X → f i ≡ true) → all_of n X f ≡ true
    every h =
        (all_is n (λ i. elim (X i) [ true ↦ f i | false ↦ true ])).1
        (λ i l. elim (in_or_out X i) [ inl m ↦ rw m (h i l m) | inr m ↦ rw m ])

-- The same where each test decides a fact.
pub all_of_decides : (n : ℕ) (X : Rules) (f : ℕ → Bool) (A : ℕ → Type 0) → ((i : ℕ) → (f i ≡ true) ↔ A i) →
    (all_of n X f ≡ true) ↔ ((i : ℕ) → i < n → i ∈ X → A i)
all_of_decides n X f A d =
    ((λ h i l m. (d i).0 ((all_of_is n X f).0 h i l m)), (λ h. (all_of_is n X f).1 (λ i l m. (d i).1 (h i l m))))
