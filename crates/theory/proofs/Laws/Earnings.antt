-- What a cached rule earns: its counter, with what its children earn beyond the charge.
--
-- In order: earnings; the account of a set; the family of a rule among those that earn the charge.
-- Assumes nothing.
use Rattle.std.specs.Prelude.{ℕ, ◌+◌, ◌*◌, ◌-◌, ◌≤◌, Bool, true, false, not, ◌&&◌, ◌≡◌, refl, leb}
use Rattle.std.proofs.Common.{inl, inr, arith, leb-true, leb-false, le-leb}
use Rattle.theory.specs.Limits.{entries}
use Rattle.theory.specs.Sets.{Rules, ◌∈◌, ◌∉◌, ◌⊆◌, ◌∩◌, ◌∖◌, Within, over, size}
use Rattle.theory.specs.Tree.{Parents, Ranked}
use Rattle.theory.proofs.Laws.Sums.{in_or_out, clash, and_both, not_true, over_cut, over_same, over_add, over_const, over_zero}
use Rattle.theory.proofs.Laws.Climbs.{Linked, here, up, linked_in, hung}
use Rattle.theory.proofs.Laws.Children.{parent_in, children, hanging, tops, exchange}
use Rattle.theory.proofs.Laws.Flows.{flow, flow_is}
use Rattle.theory.proofs.Laws.Totals.{family, family_out, family_in, parent_outside, tops_sum}

-- The count at u, and what its children in C earn beyond k.
abbrev pub Earned : Parents → Rules → ℕ → (ℕ → ℕ) → (ℕ → ℕ) → Type 0
Earned p C k c e = (u : ℕ) → u ∈ C → e u ≡ c u + over entries (children p C u) (λ w. e w - k)

pub earned_exist : {R : Rules} {p : Parents} {rank : ℕ → ℕ} → Ranked entries R p rank → (C : Rules) → C ⊆ R → (k : ℕ) (c : ℕ → ℕ) →
    (e : ℕ → ℕ) × Earned p C k c e
earned_exist {R} {p} o C s k c = (flow p C (λ x. x - k) c entries, flow_is o C s (λ x. x - k) c)

-- The rules of C that earn the charge.
abbrev pub earning : Rules → ℕ → (ℕ → ℕ) → Rules
earning C k e w = C w && leb k (e w)

pub earning_in : (C : Rules) (k : ℕ) (e : ℕ → ℕ) (w : ℕ) → w ∈ C → k ≤ e w → w ∈ earning C k e
earning_in C k e w m l = let t : leb k (e w) ≡ true = le-leb k (e w) l in cc

pub earning_out : (C : Rules) (k : ℕ) (e : ℕ → ℕ) (w : ℕ) → w ∈ earning C k e → (w ∈ C) × (k ≤ e w)
earning_out C k e w m = let (a, t) = and_both (C w) (leb k (e w)) m in (a, leb-true k (e w) t)

pub earning_rest : (C : Rules) (k : ℕ) (e : ℕ → ℕ) (w : ℕ) → w ∈ C → w ∉ earning C k e → e w ≤ k
earning_rest C k e w m out =
    elim (in_or_out (λ w. leb k (e w)) w) [
      | inl t ↦ absurd (clash (earning C k e w) (earning_in C k e w m (leb-true k (e w) t)) out)
      | inr t ↦ omega (arith, leb-false k (e w) t)
    ]

-- ## The account of a set

module _ (p : Parents) (C : Rules) (k : ℕ) (c e : ℕ → ℕ) (h : Earned p C k c e) where
  gross : (X : Rules) → Within entries X → X ⊆ C →
      over entries X c + over entries (hanging p C X) (λ w. e w - k) + over entries X (λ w. k - e w) ≡
      size entries X * k + over entries X (λ w. e w - k)
  gross X w s =
      omega (
        arith,
        over_same entries X X (λ u. c u + over entries (children p C u) (λ w. e w - k) + (k - e u)) (λ u. k + (e u - k))
            (λ i l. refl) (λ i l m. omega (arith, h i (s i m))),
        over_add entries X (λ u. c u + over entries (children p C u) (λ w. e w - k)) (λ u. k - e u),
        over_add entries X c (λ u. over entries (children p C u) (λ w. e w - k)),
        over_add entries X (λ u. k) (λ u. e u - k),
        over_const entries X k,
        exchange entries p X C (λ w. e w - k) w,
      )

  -- What a set counts, its members lack and the children left out earn beyond the charge is its charge with what its tops earn beyond theirs.
  pub account : (X : Rules) → Within entries X → X ⊆ C →
      over entries X c + over entries X (λ w. k - e w) + over entries (hanging p C X ∖ X) (λ w. e w - k) ≡
      size entries X * k + over entries (tops p X) (λ w. e w - k)
  account X w s =
      omega (
        arith,
        gross X w s,
        over_cut entries X (λ i. parent_in (p i) X) (λ w. e w - k),
        over_cut entries (hanging p C X) X (λ w. e w - k),
        over_same entries (hanging p C X ∩ X) (hanging p X X) (λ w. e w - k) (λ w. e w - k)
            (λ i l. meet (C i) (parent_in (p i) X) (X i) (s i)) (λ i l m. refl),
      )
    where
      meet : (x y z : Bool) → (z ≡ true → x ≡ true) → x && y && z ≡ z && y
      meet true true true f = refl
      meet true true false f = refl
      meet true false true f = refl
      meet true false false f = refl
      meet false y true f = absurd (clash false (f refl) refl)
      meet false y false f = refl

-- ## The account of a family

-- G holds the rules of C that earn more than the charge, and of the others only such as earn it.
module _ {R : Rules} {p : Parents} {rank : ℕ → ℕ} (o : Ranked entries R p rank) (l : Within entries R) (C : Rules) (s : C ⊆ R)
    (k : ℕ) (c e : ℕ → ℕ) (h : Earned p C k c e) (G : Rules) (part : G ⊆ C) (earns : (w : ℕ) → w ∈ G → k ≤ e w)
    (rest : (w : ℕ) → w ∈ C → w ∉ G → e w ≤ k) (u : ℕ) (m : u ∈ C) where
  rules_of : G ⊆ R
  rules_of i g = s i (part i g)

  inside : family p G u ⊆ C
  inside i g = linked_in part m (family_out p G u i g)

  left_out : (w : ℕ) → w ∈ hanging p C (family p G u) ∖ family p G u → e w ≤ k
  left_out w f =
      let (hangs, out) = and_both (hanging p C (family p G u) w) (not (family p G u w)) f in
      let (n, q) = and_both (C w) (parent_in (p w) (family p G u)) hangs in
      let (a, t, j) = hung (p w) (family p G u) q in
      elim (in_or_out G w) [
        | inl g ↦
            absurd
            (clash (family p G u w) (family_in o G rules_of u w (s u m) (up g t (family_out p G u a j)))
            (not_true (family p G u w) out))
        | inr g ↦ rest w n g
      ]

  linked_earns : (w : ℕ) → Linked p G w u → parent_in (p w) (family p G u) ≡ true → k ≤ e w
  linked_earns w here f =
      let (a, q, j) = hung (p w) (family p G u) f in
      absurd (parent_outside o G rules_of u a (s u m) q (family_out p G u a j))
  linked_earns w (up g q r) f = earns w g

  -- The rule's family counts its charge, with what the rule earns beyond its own, or less what it lacks.
  pub family_account : over entries (family p G u) c + (k - e u) ≡ size entries (family p G u) * k + (e u - k)
  family_account =
      omega (
        arith,
        account p C k c e h (family p G u) (λ i g. l i (s i (inside i g))) inside,
        over_zero entries (hanging p C (family p G u) ∖ family p G u) (λ w. e w - k) (λ i n f. omega (arith, left_out i f)),
        over_cut entries (family p G u) (λ i. parent_in (p i) (family p G u)) (λ w. k - e w),
        over_zero entries (hanging p (family p G u) (family p G u)) (λ w. k - e w)
            (λ i n f.
            let (g, q) = and_both (family p G u i) (parent_in (p i) (family p G u)) f in
            omega (arith, linked_earns i (family_out p G u i g) q)),
        tops_sum o G rules_of u (s u m) (l u (s u m)) (λ w. k - e w),
        tops_sum o G rules_of u (s u m) (l u (s u m)) (λ w. e w - k),
      )
