-- Climbing the tree: what is at or below a rule, and what is linked to it by rules of a set.
--
-- In order: below, and chains of it; closed sets, one step at a time; links; the test `hangs`.
-- Assumes nothing.
use Prim.Native.Nat.{ℕ, zero, suc, ◌<◌, ◌≤◌}
use Rattle.std.specs.Prelude.{Bool, true, ◌&&◌, ◌||◌, ◌≡◌, ◌⊎◌, ◌↔◌, eqb}
use Rattle.std.proofs.Math.Bool.{false}
use Rattle.std.proofs.Math.Path.{refl}
use Rattle.std.proofs.Math.Logic.{inl, inr}
use Rattle.std.proofs.Common.{arith}
use borrow.Author.Tests.{eq-eqb, eqb-true}
use Rattle.theory.specs.Sets.{Rules, ◌∈◌, ◌⊆◌}
use Rattle.theory.specs.Tree.{Parent, no_parent, under, Parents, Below, child, deeper, Closed, Ranked}
use Rattle.theory.specs.Search.{of_parent, hangs}
use Rattle.theory.proofs.Laws.Sums.{in_or_out, clash, and_both, or_one}
use Rattle.theory.proofs.Laws.Parts.{above_rule}

-- ## Below

abbrev pub AtOrBelow : Parents → ℕ → ℕ → Type 0
AtOrBelow p j i = (j ≡ i) ⊎ Below p j i

pub below_trans : {p : Parents} {k j i : ℕ} → Below p k j → Below p j i → Below p k i
below_trans (child e) r = deeper e r
below_trans (deeper e s) r = deeper e (below_trans s r)

pub below_at : {p : Parents} {k j i : ℕ} → Below p k j → AtOrBelow p j i → Below p k i
below_at {p} {k} {j} {i} s (inl q) = rw q at s
below_at s (inr r) = below_trans s r

pub at_trans : {p : Parents} {k j i : ℕ} → AtOrBelow p k j → AtOrBelow p j i → AtOrBelow p k i
at_trans (inl q) r = rw q r
at_trans (inr s) r = inr (below_at s r)

-- The first step up.
pub below_step : {p : Parents} {j i : ℕ} → Below p j i → (a : ℕ) × (p j ≡ under a) × AtOrBelow p a i
below_step {i = i} (child e) = (i, e, inl refl)
below_step (deeper {k = k} e r) = (k, e, inr r)

below_chain : {p : Parents} {j a b : ℕ} → Below p j a → Below p j b → AtOrBelow p a b ⊎ Below p b a
below_chain {p} {j} {a} {b} (child e) s =
    let (c, f, t) = below_step s in
    let q : c ≡ a = cc in
    inl (rw q at t)
below_chain {p} {j} {a} {b} (deeper {k = k} e r) s =
    let (c, f, t) = below_step s in
    let q : c ≡ k = cc in
    elim t [
      | inl h ↦ let g : k ≡ b = cc in inr (rw g at r)
      | inr h ↦ below_chain r (rw q at h)
    ]

-- Of two rules at or above one, one is at or above the other.
pub chain : {p : Parents} {j a b : ℕ} → AtOrBelow p j a → AtOrBelow p j b → AtOrBelow p a b ⊎ Below p b a
chain {p} {j} {a} {b} (inl q) s = inl (rw q at s)
chain {p} {j} {a} {b} (inr r) (inl q) = inr (rw q at r)
chain {p} {j} {a} {b} (inr r) (inr s) = below_chain r s

module _ {n : ℕ} {R : Rules} {p : Parents} {rank : ℕ → ℕ} (o : Ranked n R p rank) where
  -- Whatever a rule is at or below is a rule.
  pub at_rule : {j i : ℕ} → j ∈ R → AtOrBelow p j i → i ∈ R
  at_rule {j} {i} m (inl q) = rw q at m
  at_rule m (inr s) = above_rule o m s

  -- The rank falls on the way up.
  pub below_falls : {j i : ℕ} → j ∈ R → Below p j i → rank i < rank j
  below_falls {j} {i} m (child e) = o.falls j i m e
  below_falls {j} {i} m (deeper {k = k} e r) =
      omega (arith, o.falls j k m e, below_falls (o.parent_rule j k m e) r)

  pub closed_by_children : {X : Rules} → ((i j : ℕ) → j ∈ R → i ∈ X → p j ≡ under i → j ∈ X) → Closed R p X
  closed_by_children h i j l m (child e) = h i j l m e
  closed_by_children h i j l m (deeper {k = k} e r) =
      h k j l (closed_by_children h i k (o.parent_rule j k l e) m r) e

  -- A set is closed exactly when it holds each child of a member.
  pub closed_iff : {X : Rules} → Closed R p X ↔ ((i j : ℕ) → j ∈ R → i ∈ X → p j ≡ under i → j ∈ X)
  closed_iff = (λ h i j l m e. h i j l m (child e), closed_by_children)

-- ## Links

-- j is i, or j and every rule between is in G, up to i.
pub data Linked (p : Parents) (G : Rules) : ℕ → ℕ → Type 0 where
  here : {i : ℕ} → Linked p G i i
  up : {j a i : ℕ} → j ∈ G → p j ≡ under a → Linked p G a i → Linked p G j i

pub linked_below : {p : Parents} {G : Rules} {j i : ℕ} → Linked p G j i → AtOrBelow p j i
linked_below here = inl refl
linked_below (up g e r) = inr (below_at (child e) (linked_below r))

pub linked_map : {p : Parents} {G H : Rules} {j i : ℕ} → G ⊆ H → Linked p G j i → Linked p H j i
linked_map s here = here
linked_map s (up {j = j} g e r) = up (s j g) e (linked_map s r)

-- Only what is below i has to change its set.
pub linked_move : {p : Parents} {G H : Rules} {j i : ℕ} → ((w : ℕ) → w ∈ G → Below p w i → w ∈ H) → Linked p G j i → Linked p H j i
linked_move s here = here
linked_move s (up {j = j} g e r) = up (s j g (below_at (child e) (linked_below r))) e (linked_move s r)

pub linked_trans : {p : Parents} {G : Rules} {k j i : ℕ} → Linked p G k j → Linked p G j i → Linked p G k i
linked_trans here s = s
linked_trans (up g e r) s = up g e (linked_trans r s)

-- What is linked to a rule of D by rules of D is in D.
pub linked_in : {p : Parents} {G D : Rules} {j i : ℕ} → G ⊆ D → i ∈ D → Linked p G j i → j ∈ D
linked_in s m here = m
linked_in s m (up {j = j} g e r) = s j g

-- ## The test

-- From the test to the parent.
pub hung : (q : Parent) (X : Rules) → of_parent false X q ≡ true → (a : ℕ) × (q ≡ under a) × (a ∈ X)
hung no_parent X m = absurd (clash false m refl)
hung (under a) X m = (a, refl, m)

-- A test that is made only where another passes.
pub when_is : (x y : Bool) → (elim x [ true ↦ y | false ↦ false ] ≡ true) ↔ ((x ≡ true) × (y ≡ true))
when_is true y = ((λ h. (refl, h)), (λ h. h.1))
when_is false y = ((λ h. absurd (clash false h refl)), (λ h. h.0))

either : (x y g : Bool) → elim x [ true ↦ true | false ↦ elim y [ true ↦ g | false ↦ false ] ] ≡ x || y && g
either true y g = refl
either false true g = refl
either false false g = refl

module _ (p : Parents) (G : Rules) where
  hangs_step : (f j i : ℕ) → hangs p G (suc f) j i ≡ eqb j i || of_parent false (λ a. hangs p G f a i) (p j) && G j
  unfolding hangs
  hangs_step f j i = either (eqb j i) (of_parent false (λ a. hangs p G f a i) (p j)) (G j)

  pub hangs_self : (f i : ℕ) → hangs p G f i i ≡ true
  unfolding hangs
  hangs_self zero i = eq-eqb i i refl
  hangs_self (suc f) i = rw (hangs_step, eq-eqb i i refl)

  pub hangs_linked : (f j i : ℕ) → hangs p G f j i ≡ true → Linked p G j i
  unfolding hangs
  hangs_linked zero j i m = rw (eqb-true j i m) here
  hangs_linked (suc f) j i m =
      elim (or_one (eqb j i) (of_parent false (λ a. hangs p G f a i) (p j) && G j) (rw hangs_step at m)) [
        | inl h ↦ rw (eqb-true j i h) here
        | inr h ↦
            let (k, g) = and_both (of_parent false (λ a. hangs p G f a i) (p j)) (G j) h in
            let (a, e, l) = hung (p j) (λ a. hangs p G f a i) k in
            up g e (hangs_linked f a i l)
      ]

  pub linked_hangs : {n : ℕ} {R : Rules} {rank : ℕ → ℕ} → Ranked n R p rank → (f : ℕ) {j i : ℕ} → j ∈ R → rank j ≤ f →
      Linked p G j i → hangs p G f j i ≡ true
  linked_hangs o f {j} {i} l h here = hangs_self f j
  linked_hangs o zero {j} {i} l h (up {a = a} g e r) = absurd (omega (arith, o.falls j a l e))
  linked_hangs o (suc f) {j} {i} l h (up {a = a} g e r) =
      let k : hangs p G f a i ≡ true = linked_hangs o f (o.parent_rule j a l e) (omega (arith, o.falls j a l e)) r in
      elim (in_or_out (λ x. eqb x i) j) [ inl q ↦ rw (hangs_step, q) | inr q ↦ rw (hangs_step, q, e, k) g ]

  -- The test decides, in as many steps as there are ranks.
  pub hangs_decides : {n : ℕ} {R : Rules} {rank : ℕ → ℕ} → Ranked n R p rank → (j i : ℕ) → j ∈ R →
      (hangs p G n j i ≡ true) ↔ Linked p G j i
  hangs_decides {n} o j i m = (hangs_linked n j i, linked_hangs o n m (omega (arith, o.below j m)))
