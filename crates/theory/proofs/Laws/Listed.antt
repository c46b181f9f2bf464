-- Laws of listed sets: what is in the list of a set's members, how long it is, and which sets have the same list.
-- Assumes nothing.
use Rattle.std.specs.Prelude.{ℕ, zero, suc, ◌<◌, ◌≤◌, Bool, true, false, ◌&&◌, ◌||◌, List, [], ◌∷◌, ◌++◌, ◌↔◌, ◌≡◌, refl, eqb, length}
use Rattle.std.proofs.Math.Bool.{and-true, and-false, or-false}
use Rattle.std.proofs.Common.{inl, inr, sym, ap, ◌∙◌, arith, length-append, eq-eqb, ne_eqb}
use Rattle.std.proofs.Math.Path.{fun_ext}
use Rattle.std.proofs.Math.Decide.{ℕ_discrete, dec_lt}
use Rattle.theory.specs.Limits.{entries}
use Rattle.theory.specs.Sets.{Rules, ◌∈◌, ◌∉◌, Within, sum, size, listed}
use Rattle.theory.specs.Twin.{member, kept}
use Rattle.theory.proofs.Laws.Sums.{in_or_out, clash}

-- A member of the set comes at the end.
pub listed_in : (n : ℕ) (X : Rules) → n ∈ X → listed (suc n) X ≡ listed n X ++ n ∷ []
unfolding listed
listed_in n X e = rw (e, listed)

pub listed_out : (n : ℕ) (X : Rules) → n ∉ X → listed (suc n) X ≡ listed n X
unfolding listed
listed_out n X e = rw (e, listed)

-- ## Members

pub member_append : (i : ℕ) (xs ys : List ℕ) → member i (xs ++ ys) ≡ member i xs || member i ys
unfolding member
member_append i [] ys = refl
member_append i (x ∷ xs) ys = go (eqb i x) (member_append i xs ys)
  where
    go : (b : Bool) → member i (xs ++ ys) ≡ member i xs || member i ys →
        elim b [ true ↦ true | false ↦ member i (xs ++ ys) ] ≡ elim b [ true ↦ true | false ↦ member i xs ] || member i ys
    go true e = refl
    go false e = e

pub member_one : (i x : ℕ) → member i (x ∷ []) ≡ eqb i x
unfolding member
member_one i x = go (eqb i x)
  where
    go : (b : Bool) → elim b [ true ↦ true | false ↦ false ] ≡ b
    go true = refl
    go false = refl

-- The list holds what it held below n, and n if the set does.
pub member_next : (n : ℕ) (X : Rules) (i : ℕ) → member i (listed (suc n) X) ≡ member i (listed n X) || (eqb i n && X n)
member_next n X i =
    elim (in_or_out X n) [
      | inl h ↦ ap (member i) (listed_in n X h) ∙ member_append i (listed n X) (n ∷ []) ∙ rw (member_one, h, and-true)
      | inr h ↦ ap (member i) (listed_out n X h) ∙ rw (h, and-false, or-false)
    ]

-- No number from n on is in the list below n.
pub listed_past : (n : ℕ) (X : Rules) (i : ℕ) → n ≤ i → member i (listed n X) ≡ false
unfolding listed member
listed_past zero X i l = refl
listed_past (suc n) X i l = rw (member_next, listed_past n X i (omega arith), ne_eqb i n (λ q. omega arith))

-- Below n the list holds what the set holds.
pub listed_at : (n : ℕ) (X : Rules) (i : ℕ) → i < n → member i (listed n X) ≡ X i
listed_at zero X i l = absurd (omega arith)
listed_at (suc n) X i l =
    elim (ℕ_discrete i n) [
      | yes q ↦ rw (member_next, listed_past n X i (omega arith), eq-eqb i n q, q)
      | no d ↦ rw (member_next, listed_at n X i (omega (arith, d)), ne_eqb i n d, or-false)
    ]

pub member_listed : (n : ℕ) (X : Rules) (i : ℕ) → member i (listed n X) ≡ true ↔ (i < n) × (i ∈ X)
member_listed n X i = (there, λ h. listed_at n X i h.0 ∙ h.1)
  where
    there : member i (listed n X) ≡ true → (i < n) × (i ∈ X)
    there m =
        elim (dec_lt i n) [
          | yes l ↦ (l, sym (listed_at n X i l) ∙ m)
          | no d ↦ absurd (clash (member i (listed n X)) m (listed_past n X i (omega (arith, d))))
        ]

-- Keeping a set as a list leaves it the same set.
pub kept_is : (X : Rules) → Within entries X → kept X ≡ X
kept_is X w = fun_ext one
  where
    one : (i : ℕ) → member i (listed entries X) ≡ X i
    one i =
        elim (dec_lt i entries) [
          | yes l ↦ listed_at entries X i l
          | no d ↦
              elim (in_or_out X i) [
                | inl m ↦ absurd (omega (arith, d, w i m))
                | inr m ↦ listed_past entries X i (omega (arith, d)) ∙ sym m
              ]
        ]

-- ## Lists

pub listed_length : (n : ℕ) (X : Rules) → length (listed n X) ≡ size n X
unfolding listed sum
listed_length zero X = refl
listed_length (suc n) X =
    elim (in_or_out X n) [
      | inl h ↦ rw (listed_in n X h, length-append, listed_length n X, h)
      | inr h ↦ rw (listed_out n X h, listed_length n X, h) (omega arith)
    ]

-- Sets that agree below n have the same list.
pub listed_same : (n : ℕ) (X Y : Rules) → ((i : ℕ) → i < n → X i ≡ Y i) → listed n X ≡ listed n Y
unfolding listed
listed_same zero X Y e = refl
listed_same (suc n) X Y e =
    let same : listed n X ≡ listed n Y = listed_same n X Y (λ i l. e i (omega arith)) in
    let last : X n ≡ Y n = e n (omega arith) in
    elim (in_or_out X n) [
      | inl h ↦ listed_in n X h ∙ ap (λ xs. xs ++ n ∷ []) same ∙ sym (listed_in n Y (sym last ∙ h))
      | inr h ↦ listed_out n X h ∙ same ∙ sym (listed_out n Y (sym last ∙ h))
    ]
