-- Laws of sums over sets of rules.
--
-- In order: membership; sums; sums over sets; sizes.
-- Assumes nothing.
use Rattle.std.specs.Prelude.{ℕ, zero, suc, ◌+◌, ◌*◌, ◌<◌, ◌≤◌, Bool, true, false, not, ◌&&◌, ◌||◌, ◌≡◌, refl, ◌⊎◌}
use Rattle.std.proofs.Common.{ap, inl, inr, arith}
use Rattle.std.proofs.Math.Decide.{ℕ_discrete}
use Rattle.theory.specs.Sets.{Rules, ◌∈◌, ◌∉◌, ◌⊆◌, ◌∪◌, ◌∩◌, ◌∖◌, Within, NonEmpty, sum, if_in, over, size}

-- ## Membership

pub in_or_out : (X : Rules) (i : ℕ) → (i ∈ X) ⊎ (i ∉ X)
in_or_out X i = go (X i) refl
  where
    go : (x : Bool) → X i ≡ x → (i ∈ X) ⊎ (i ∉ X)
    go true e = inl e
    go false e = inr e

-- Below n a set has a member or none.
pub some_or_none : (n : ℕ) (X : Rules) → NonEmpty X ⊎ ((i : ℕ) → i < n → i ∉ X)
some_or_none zero X = inr (λ i l. absurd (omega arith))
some_or_none (suc n) X =
    elim (in_or_out X n) [
      | inl m ↦ inl (n, m)
      | inr m ↦
          elim (some_or_none n X) [
            | inl e ↦ inl e
            | inr h ↦
                inr (λ i l. elim (ℕ_discrete i n) [ yes q ↦ rw q m | no d ↦ h i (omega (arith, d)) ])
          ]
    ]

pub clash : (x : Bool) → x ≡ true → x ≡ false → ⊥
clash x p q = let z : ◌≡◌ {A = ℕ} 0 1 = cc in omega arith

pub and_both : (x y : Bool) → x && y ≡ true → (x ≡ true) × (y ≡ true)
and_both true y h = (refl, h)
and_both false y h = absurd (clash false h refl)

pub or_one : (x y : Bool) → x || y ≡ true → (x ≡ true) ⊎ (y ≡ true)
or_one true y h = inl refl
or_one false y h = inr h

pub not_true : (x : Bool) → not x ≡ true → x ≡ false
not_true true h = absurd (clash false h refl)
not_true false h = refl

-- ## Sums

-- Sums are compared term by term; the laws below need no other induction than these.
pub sum_le : (n : ℕ) (f g : ℕ → ℕ) → ((i : ℕ) → i < n → f i ≤ g i) → sum n f ≤ sum n g
unfolding sum
sum_le zero f g h = omega arith
sum_le (suc n) f g h = omega (arith, sum_le n f g (λ i l. h i (omega arith)), h n (omega arith))

-- The same of two sums and two others.
pub sum_trade : (n : ℕ) (f g h k : ℕ → ℕ) → ((i : ℕ) → i < n → f i + g i ≡ h i + k i) →
    sum n f + sum n g ≡ sum n h + sum n k
unfolding sum
sum_trade zero f g h k e = refl
sum_trade (suc n) f g h k e =
    omega (arith, sum_trade n f g h k (λ i l. e i (omega arith)), e n (omega arith))

pub sum_zero : (n : ℕ) (f : ℕ → ℕ) → ((i : ℕ) → i < n → f i ≡ 0) → sum n f ≡ 0
unfolding sum
sum_zero zero f h = refl
sum_zero (suc n) f h = omega (arith, sum_zero n f (λ i l. h i (omega arith)), h n (omega arith))

pub sum_eq : (n : ℕ) (f g : ℕ → ℕ) → ((i : ℕ) → i < n → f i ≡ g i) → sum n f ≡ sum n g
sum_eq n f g h = omega (arith, sum_le n f g (λ i l. omega (arith, h i l)), sum_le n g f (λ i l. omega (arith, h i l)))

pub sum_split : (n : ℕ) (f g h : ℕ → ℕ) → ((i : ℕ) → i < n → f i ≡ g i + h i) → sum n f ≡ sum n g + sum n h
sum_split n f g h e =
    omega (arith, sum_trade n f (λ i. 0) g h (λ i l. omega (arith, e i l)), sum_zero n (λ i. 0) (λ i l. refl))

pub sum_scale : (n : ℕ) (f : ℕ → ℕ) (c : ℕ) → sum n (λ i. f i * c) ≡ sum n f * c
unfolding sum
sum_scale zero f c = omega arith
sum_scale (suc n) f c = omega (arith, sum_scale n f c)

-- Two functions that differ at one place only.
pub sum_at : (n v : ℕ) (f g : ℕ → ℕ) → v < n → ((i : ℕ) → i < n → (i ≡ v → ⊥) → f i ≡ g i) →
    sum n f + g v ≡ sum n g + f v
unfolding sum
sum_at zero v f g l e = absurd (omega arith)
sum_at (suc n) v f g l e =
    elim (ℕ_discrete n v) [
      | yes q ↦ let s : sum n f ≡ sum n g = sum_eq n f g (λ i k. e i (omega arith) (λ p. omega arith)) in
          omega (arith, ap f q, ap g q)
      | no d ↦ omega (arith, sum_at n v f g (omega (arith, d)) (λ i k. e i (omega arith)), e n (omega arith) d)
    ]

-- All terms but one are 0.
pub sum_one : (n v : ℕ) (f : ℕ → ℕ) → v < n → ((i : ℕ) → i < n → (i ≡ v → ⊥) → f i ≡ 0) → sum n f ≡ f v
sum_one n v f l e = omega (arith, sum_at n v f (λ i. 0) l e, sum_zero n (λ i. 0) (λ i l. refl))

-- A term is at most the sum.
pub sum_term : (n v : ℕ) (f : ℕ → ℕ) → v < n → f v ≤ sum n f
unfolding sum
sum_term zero v f l = absurd (omega arith)
sum_term (suc n) v f l =
    elim (ℕ_discrete n v) [
      | yes q ↦ omega (arith, ap f q)
      | no d ↦ omega (arith, sum_term n v f (omega (arith, d)))
    ]

-- Where no term is above the other's and the sums are equal, the terms are.
pub sum_tight : (n : ℕ) (f g : ℕ → ℕ) → ((i : ℕ) → i < n → f i ≤ g i) → sum n g ≤ sum n f →
    (v : ℕ) → v < n → g v ≤ f v
unfolding sum
sum_tight zero f g h e v l = absurd (omega arith)
sum_tight (suc n) f g h e v l =
    let a : sum n f ≤ sum n g = sum_le n f g (λ i k. h i (omega arith)) in
    let b : f n ≤ g n = h n (omega arith) in
    elim (ℕ_discrete n v) [
      | yes q ↦ omega (arith, ap f q, ap g q)
      | no d ↦ sum_tight n f g (λ i k. h i (omega arith)) (omega arith) v (omega (arith, d))
    ]

-- The order of two sums does not matter.
pub sum_swap : (n m : ℕ) (f : ℕ → ℕ → ℕ) → sum n (λ a. sum m (λ w. f a w)) ≡ sum m (λ w. sum n (λ a. f a w))
unfolding sum
sum_swap zero m f = omega (arith, sum_zero m (λ w. 0) (λ i l. refl))
sum_swap (suc n) m f =
    omega (arith, sum_swap n m f, sum_split m (λ w. sum n (λ a. f a w) + f n w) (λ w. sum n (λ a. f a w)) (λ w. f n w) (λ i l. refl))

-- ## Sums over sets

pub over_union : (n : ℕ) (X Y : Rules) (f : ℕ → ℕ) →
    over n (X ∪ Y) f + over n (X ∩ Y) f ≡ over n X f + over n Y f
over_union n X Y f =
    sum_trade n (λ i. if_in (X i || Y i) (f i)) (λ i. if_in (X i && Y i) (f i)) (λ i. if_in (X i) (f i))
    (λ i. if_in (Y i) (f i)) (λ i l. one (X i) (Y i) (f i))
  where
    one : (x y : Bool) (a : ℕ) → if_in (x || y) a + if_in (x && y) a ≡ if_in x a + if_in y a
    one true true a = refl
    one true false a = refl
    one false true a = omega arith
    one false false a = refl

pub over_cut : (n : ℕ) (X Y : Rules) (f : ℕ → ℕ) → over n X f ≡ over n (X ∩ Y) f + over n (X ∖ Y) f
over_cut n X Y f =
    sum_split n (λ i. if_in (X i) (f i)) (λ i. if_in (X i && Y i) (f i)) (λ i. if_in (X i && not (Y i)) (f i))
    (λ i l. one (X i) (Y i) (f i))
  where
    one : (x y : Bool) (a : ℕ) → if_in x a ≡ if_in (x && y) a + if_in (x && not y) a
    one true true a = omega arith
    one true false a = omega arith
    one false true a = refl
    one false false a = refl

pub over_le : (n : ℕ) (X Y : Rules) (f g : ℕ → ℕ) → X ⊆ Y → ((i : ℕ) → i < n → i ∈ X → f i ≤ g i) →
    over n X f ≤ over n Y g
over_le n X Y f g s h =
    sum_le n (λ i. if_in (X i) (f i)) (λ i. if_in (Y i) (g i)) (λ i l. one (X i) (Y i) (f i) (g i) (s i) (h i l))
  where
    one : (x y : Bool) (a b : ℕ) → (x ≡ true → y ≡ true) → (x ≡ true → a ≤ b) → if_in x a ≤ if_in y b
    one true true a b s h = h refl
    one true false a b s h = absurd (clash false (s refl) refl)
    one false true a b s h = omega arith
    one false false a b s h = omega arith

pub over_tight : (n : ℕ) (X : Rules) (f g : ℕ → ℕ) → ((i : ℕ) → i < n → i ∈ X → f i ≤ g i) → over n X g ≤ over n X f →
    (v : ℕ) → v < n → v ∈ X → g v ≤ f v
over_tight n X f g h e v l m =
    rw m at
    (sum_tight n (λ i. if_in (X i) (f i)) (λ i. if_in (X i) (g i)) (λ i k. one (X i) (f i) (g i) (h i k)) e v l)
  where
    one : (x : Bool) (a b : ℕ) → (x ≡ true → a ≤ b) → if_in x a ≤ if_in x b
    one true a b h = h refl
    one false a b h = omega arith

pub over_mono : (n : ℕ) (X Y : Rules) (f : ℕ → ℕ) → X ⊆ Y → over n X f ≤ over n Y f
over_mono n X Y f s = over_le n X Y f f s (λ i l h. omega arith)

pub over_eq : (n : ℕ) (X Y : Rules) (f g : ℕ → ℕ) → X ⊆ Y → Y ⊆ X → ((i : ℕ) → i < n → i ∈ X → f i ≡ g i) →
    over n X f ≡ over n Y g
over_eq n X Y f g s t h =
    omega (
      arith,
      over_le n X Y f g s (λ i l m. omega (arith, h i l m)),
      over_le n Y X g f t (λ i l m. omega (arith, h i l (t i m))),
    )

-- The same set and function, below n.
pub over_same : (n : ℕ) (X Y : Rules) (f g : ℕ → ℕ) → ((i : ℕ) → i < n → X i ≡ Y i) →
    ((i : ℕ) → i < n → i ∈ X → f i ≡ g i) → over n X f ≡ over n Y g
over_same n X Y f g s h =
    sum_eq n (λ i. if_in (X i) (f i)) (λ i. if_in (Y i) (g i))
    (λ i l. one (X i) (Y i) (f i) (g i) (s i l) (h i l))
  where
    one : (x y : Bool) (a b : ℕ) → x ≡ y → (x ≡ true → a ≡ b) → if_in x a ≡ if_in y b
    one true y a b e h = rw (← e) (h refl)
    one false y a b e h = rw (← e)

pub over_add : (n : ℕ) (X : Rules) (f g : ℕ → ℕ) → over n X (λ i. f i + g i) ≡ over n X f + over n X g
over_add n X f g =
    sum_split n (λ i. if_in (X i) (f i + g i)) (λ i. if_in (X i) (f i)) (λ i. if_in (X i) (g i))
    (λ i l. one (X i) (f i) (g i))
  where
    one : (x : Bool) (a b : ℕ) → if_in x (a + b) ≡ if_in x a + if_in x b
    one true a b = refl
    one false a b = refl

pub over_scale : (n : ℕ) (X : Rules) (f : ℕ → ℕ) (c : ℕ) → over n X (λ i. f i * c) ≡ over n X f * c
over_scale n X f c =
    omega (
      arith,
      sum_scale n (λ i. if_in (X i) (f i)) c,
      sum_eq n (λ i. if_in (X i) (f i * c)) (λ i. if_in (X i) (f i) * c) (λ i l. one (X i) (f i)),
    )
  where
    one : (x : Bool) (a : ℕ) → if_in x (a * c) ≡ if_in x a * c
    one true a = refl
    one false a = omega arith

pub over_const : (n : ℕ) (X : Rules) (c : ℕ) → over n X (λ i. c) ≡ size n X * c
over_const n X c =
    omega (
      arith,
      over_scale n X (λ i. 1) c,
      over_same n X X (λ i. c) (λ i. 1 * c) (λ i l. refl) (λ i l m. omega arith),
    )

pub over_zero : (n : ℕ) (X : Rules) (f : ℕ → ℕ) → ((i : ℕ) → i < n → i ∈ X → f i ≡ 0) → over n X f ≡ 0
over_zero n X f h = sum_zero n (λ i. if_in (X i) (f i)) (λ i l. one (X i) (f i) (h i l))
  where
    one : (x : Bool) (a : ℕ) → (x ≡ true → a ≡ 0) → if_in x a ≡ 0
    one true a h = h refl
    one false a h = refl

pub over_term : (n : ℕ) (X : Rules) (f : ℕ → ℕ) (v : ℕ) → v < n → v ∈ X → f v ≤ over n X f
over_term n X f v l m = rw m at (sum_term n v (λ i. if_in (X i) (f i)) l)

pub size_pos : (n : ℕ) (X : Rules) → Within n X → NonEmpty X → 1 ≤ size n X
size_pos n X w e = over_term n X (λ i. 1) e.0 (w e.0 e.1) e.1

-- Two functions that differ at one member of the set only.
pub over_at : (n : ℕ) (X : Rules) (f g : ℕ → ℕ) (v : ℕ) → v < n → v ∈ X →
    ((i : ℕ) → (i ≡ v → ⊥) → f i ≡ g i) → over n X f + g v ≡ over n X g + f v
over_at n X f g v l m e =
    rw m at (sum_at n v (λ i. if_in (X i) (f i)) (λ i. if_in (X i) (g i)) l (λ i k d. ap (if_in (X i)) (e i d)))

-- The sum over a set in which only v counts.
pub over_one : (n : ℕ) (X : Rules) (f : ℕ → ℕ) (v : ℕ) → v < n → v ∈ X →
    ((i : ℕ) → i < n → i ∈ X → i ≡ v) → over n X f ≡ f v
over_one n X f v l m e =
    rw m at
    (sum_one n v (λ i. if_in (X i) (f i)) l
    (λ i k d. one i k d))
  where
    one : (i : ℕ) → i < n → (i ≡ v → ⊥) → if_in (X i) (f i) ≡ 0
    one i k d = elim (in_or_out X i) [ inl h ↦ absurd (d (e i k h)) | inr h ↦ rw h ]

pub over_disjoint : (n : ℕ) (X Y : Rules) (f : ℕ → ℕ) → ((i : ℕ) → i ∈ X → i ∉ Y) →
    over n (X ∪ Y) f ≡ over n X f + over n Y f
over_disjoint n X Y f d =
    omega (
      arith,
      over_union n X Y f,
      over_zero n (X ∩ Y) f (λ i l m. absurd (clash (Y i) (and_both (X i) (Y i) m).1 (d i (and_both (X i) (Y i) m).0))),
    )

-- ## Sizes

-- A set has at most n members below n.
pub size_at_most : (n : ℕ) (X : Rules) → size n X ≤ n
unfolding sum
size_at_most zero X = omega arith
size_at_most (suc n) X = omega (arith, size_at_most n X, one (X n))
  where
    one : (x : Bool) → if_in x 1 ≤ 1
    one true = omega arith
    one false = omega arith
