-- Children and tops of a set of rules, and the sum over the children of a set's members.
--
-- In order: the tests; the sum over all children; the top above a member.
-- Assumes nothing.
use Rattle.std.specs.Prelude.{ℕ, zero, suc, ◌≤◌, Bool, true, false, not, ◌&&◌, ◌≡◌, refl, eqb}
use Rattle.std.proofs.Common.{sym, ap, ◌∙◌, inl, inr, arith, eq-eqb, eqb-true, ne_eqb}
use Rattle.std.proofs.Math.Decide.{ℕ_discrete}
use Rattle.theory.specs.Sets.{Rules, ◌∈◌, ◌∉◌, ◌⊆◌, Within, sum, if_in, over}
use Rattle.theory.specs.Tree.{Parent, no_parent, under, Parents, Ranked}
use Rattle.theory.specs.Search.{of_parent}
use Rattle.theory.proofs.Laws.Sums.{in_or_out, clash, and_both, not_true, sum_eq, sum_zero, sum_one, sum_swap}
use Rattle.theory.proofs.Laws.Climbs.{Linked, here, up, hung}

-- The test that a parent is the rule a.
abbrev pub is_under : Parent → ℕ → Bool
is_under no_parent a = false
is_under (under b) a = eqb b a

-- The test that there is a parent, in A.
abbrev pub parent_in : Parent → Rules → Bool
parent_in q A = of_parent false A q

-- The children of a in D.
abbrev pub children : Parents → Rules → ℕ → Rules
children p D a w = D w && is_under (p w) a

-- The members of D whose parent is in X.
abbrev pub hanging : Parents → Rules → Rules → Rules
hanging p D X w = D w && parent_in (p w) X

-- The members whose parent is no member.
abbrev pub tops : Parents → Rules → Rules
tops p X w = X w && not (parent_in (p w) X)

is_under_true : (q : Parent) (a : ℕ) → is_under q a ≡ true → q ≡ under a
is_under_true no_parent a m = absurd (clash false m refl)
is_under_true (under b) a m = ap under (eqb-true b a m)

pub child_out : (p : Parents) (D : Rules) (u i : ℕ) → i ∈ children p D u → (i ∈ D) × (p i ≡ under u)
child_out p D u i m =
    let (d, k) = and_both (D i) (is_under (p i) u) m in
    (d, is_under_true (p i) u k)

pub child_in : (p : Parents) (D : Rules) (u i : ℕ) → i ∈ D → p i ≡ under u → i ∈ children p D u
child_in p D u i d e = rw (d, e) (eq-eqb u u refl)

pub top_out : (p : Parents) (X : Rules) (i : ℕ) → i ∈ tops p X → (i ∈ X) × (parent_in (p i) X ≡ false)
top_out p X i m =
    let (a, b) = and_both (X i) (not (parent_in (p i) X)) m in
    (a, not_true (parent_in (p i) X) b)

-- ## The sum over all children

if_in_zero : (x : Bool) → if_in x 0 ≡ 0
if_in_zero true = refl
if_in_zero false = refl

if_in_sum : (n : ℕ) (x : Bool) (g : ℕ → ℕ) → if_in x (sum n g) ≡ sum n (λ w. if_in x (g w))
if_in_sum n true g = refl
if_in_sum n false g = sym (sum_zero n (λ w. 0) (λ i l. refl))

-- Of all a at most the parent of one child counts.
column : (n : ℕ) (A : Rules) → Within n A → (d : Bool) (q : Parent) (y : ℕ) →
    sum n (λ a. if_in (A a) (if_in (d && is_under q a) y)) ≡ if_in (d && parent_in q A) y
column n A w false q y = sum_zero n (λ a. if_in (A a) 0) (λ a l. if_in_zero (A a))
column n A w true no_parent y = sum_zero n (λ a. if_in (A a) 0) (λ a l. if_in_zero (A a))
column n A w true (under b) y =
    elim (in_or_out A b) [
      | inl m ↦
          let e : eqb b b ≡ true = eq-eqb b b refl in
          sum_one n b (λ a. if_in (A a) (if_in (eqb b a) y)) (w b m)
          (λ i l d. rw (ne_eqb b i (λ p. d (sym p))) (if_in_zero (A i))) ∙
          cc
      | inr m ↦ sum_zero n (λ a. if_in (A a) (if_in (eqb b a) y)) (λ i l. other m i) ∙ cc
    ]
  where
    other : b ∉ A → (i : ℕ) → if_in (A i) (if_in (eqb b i) y) ≡ 0
    other m i =
        elim (ℕ_discrete b i) [
          | yes q ↦ let k : A i ≡ false = ap A (sym q) ∙ m in rw k
          | no d ↦ rw (ne_eqb b i d) (if_in_zero (A i))
        ]

-- Summing over each member's children is summing over those whose parent is a member.
pub exchange : (n : ℕ) (p : Parents) (A D : Rules) (f : ℕ → ℕ) → Within n A →
    over n A (λ a. over n (children p D a) f) ≡ over n (hanging p D A) f
exchange n p A D f h =
    sum_eq n (λ a. if_in (A a) (sum n (λ w. if_in (D w && is_under (p w) a) (f w))))
    (λ a. sum n (λ w. if_in (A a) (if_in (D w && is_under (p w) a) (f w))))
    (λ a l. if_in_sum n (A a) (λ w. if_in (D w && is_under (p w) a) (f w))) ∙
    sum_swap n n (λ a w. if_in (A a) (if_in (D w && is_under (p w) a) (f w))) ∙
    sum_eq n (λ w. sum n (λ a. if_in (A a) (if_in (D w && is_under (p w) a) (f w))))
    (λ w. if_in (D w && parent_in (p w) A) (f w)) (λ w l. column n A h (D w) (p w) (f w))

-- ## The top above a member

module _ {n : ℕ} {R : Rules} {p : Parents} {rank : ℕ → ℕ} (o : Ranked n R p rank) {Y : Rules} (s : Y ⊆ R) where
  climb_by : (f i : ℕ) → rank i ≤ f → i ∈ Y → (t : ℕ) × (t ∈ tops p Y) × Linked p Y i t
  climb_by zero i h m =
      elim (in_or_out (λ w. parent_in (p w) Y) i) [
        | inl k ↦ let (a, e, j) = hung (p i) Y k in absurd (omega (arith, o.falls i a (s i m) e))
        | inr k ↦ (i, cc, here)
      ]
  climb_by (suc f) i h m =
      elim (in_or_out (λ w. parent_in (p w) Y) i) [
        | inl k ↦
            let (a, e, j) = hung (p i) Y k in
            let (t, c, d) = climb_by f a (omega (arith, o.falls i a (s i m) e)) j in
            (t, c, up m e d)
        | inr k ↦ (i, cc, here)
      ]

  pub climb : (i : ℕ) → i ∈ Y → (t : ℕ) × (t ∈ tops p Y) × Linked p Y i t
  climb i m = climb_by (rank i) i (omega arith) m
