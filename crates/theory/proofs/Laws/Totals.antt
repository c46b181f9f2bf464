-- The family of a rule, and totals: sums over families, said one step at a time.
--
-- In order: families; totals, which are determined and exist; a set's sum is the totals of its tops; totals are sums over families.
-- Assumes nothing.
use Rattle.std.specs.Prelude.{ℕ, ◌+◌, ◌<◌, Bool, true, false, ◌&&◌, ◌≡◌, refl}
use Rattle.std.proofs.Common.{sym, ◌∙◌, inl, inr, arith}
use Rattle.theory.specs.Limits.{entries}
use Rattle.theory.specs.Sets.{Rules, ◌∈◌, ◌⊆◌, Within, over}
use Rattle.theory.specs.Tree.{under, Parents, Ranked}
use Rattle.theory.specs.Search.{hangs}
use Rattle.theory.proofs.Laws.Sums.{in_or_out, clash, over_cut, over_same, over_eq, over_add, over_one}
use Rattle.theory.proofs.Laws.Climbs.{below_falls, Linked, here, up, linked_below, linked_in, linked_trans, hung, hangs_linked, linked_hangs}
use Rattle.theory.proofs.Laws.Children.{parent_in, children, child_out, child_in, hanging, tops, top_out, exchange}
use Rattle.theory.proofs.Laws.Flows.{flow, flow_unique, flow_is}

-- ## Families

-- u, with what is linked to it by rules of G.
abbrev pub family : Parents → Rules → ℕ → Rules
family p G u w = hangs p G entries w u

pub family_out : (p : Parents) (G : Rules) (u w : ℕ) → w ∈ family p G u → Linked p G w u
family_out p G u w m = hangs_linked p G entries w u m

module _ {R : Rules} {p : Parents} {rank : ℕ → ℕ} (o : Ranked entries R p rank) (G : Rules) (s : G ⊆ R) where
  pub family_in : (u w : ℕ) → u ∈ R → Linked p G w u → w ∈ family p G u
  family_in u w m r =
      let l : w ∈ R = linked_in s m r in
      linked_hangs p G o entries l (omega (arith, o.below w l)) r

  pub family_rules : (u : ℕ) → u ∈ R → family p G u ⊆ R
  family_rules u m w f = linked_in s m (family_out p G u w f)

  -- A rule's parent is not in its family.
  pub parent_outside : (u a : ℕ) → u ∈ R → p u ≡ under a → Linked p G a u → ⊥
  parent_outside u a m e r =
      let l : rank a < rank u = o.falls u a m e in
      elim (linked_below r) [
        | inl q ↦ omega (arith, rw q at l)
        | inr b ↦ omega (arith, below_falls o (o.parent_rule u a m e) b)
      ]

  family_top : (u : ℕ) → u ∈ R → u ∈ tops p (family p G u)
  family_top u m =
      let f : u ∈ family p G u = family_in u u m here in
      elim (in_or_out (λ w. parent_in (p w) (family p G u)) u) [
        | inl h ↦
            let (a, e, k) = hung (p u) (family p G u) h in
            absurd (parent_outside u a m e (family_out p G u a k))
        | inr h ↦ cc
      ]

  linked_top : (u i : ℕ) → u ∈ R → parent_in (p i) (family p G u) ≡ false → Linked p G i u → i ≡ u
  linked_top u i m h here = refl
  linked_top u i m h (up {a = a} g e r) =
      absurd (clash (parent_in (p i) (family p G u)) (rw e (family_in u a m r)) h)

  -- The one top of a family is its rule.
  pub family_tops : (u i : ℕ) → u ∈ R → i ∈ tops p (family p G u) → i ≡ u
  family_tops u i m h =
      let (f, g) = top_out p (family p G u) i h in
      linked_top u i m g (family_out p G u i f)

  pub tops_sum : (u : ℕ) → u ∈ R → u < entries → (t : ℕ → ℕ) → over entries (tops p (family p G u)) t ≡ t u
  tops_sum u m l t =
      over_one entries (tops p (family p G u)) t u l (family_top u m) (λ i k h. family_tops u i m h)

-- ## Totals

-- The total of a rule of D is its own w, with its children's totals.
abbrev pub Totals : Parents → Rules → (ℕ → ℕ) → (ℕ → ℕ) → Type 0
Totals p D w t = (u : ℕ) → u ∈ D → t u ≡ w u + over entries (children p D u) t

module _ {R : Rules} {p : Parents} {rank : ℕ → ℕ} (o : Ranked entries R p rank) (D : Rules) (s : D ⊆ R) where
  pub totals_unique : (w t v : ℕ → ℕ) → Totals p D w t → Totals p D w v → (u : ℕ) → u ∈ D → t u ≡ v u
  totals_unique w t v a b u m = flow_unique o D s (λ x. x) w t v a b u m

  pub totals_exist : (w : ℕ → ℕ) → (t : ℕ → ℕ) × Totals p D w t
  totals_exist w = (flow p D (λ x. x) w entries, flow_is o D s (λ x. x) w)

-- ## A set's sum is the totals of its tops

module _ (p : Parents) (D X : Rules) (l : Within entries X) (s : X ⊆ D)
    (down : (i a : ℕ) → i ∈ D → a ∈ X → p i ≡ under a → i ∈ X) where
  inner : (i : ℕ) → i < entries → hanging p D X i ≡ hanging p X X i
  inner i l =
      elim (in_or_out (λ w. parent_in (p w) X) i) [
        | inl h ↦
            let (a, e, m) = hung (p i) X h in
            elim (in_or_out X i) [
              | inl k ↦ let j : i ∈ D = s i k in cc
              | inr k ↦
                  elim (in_or_out D i) [
                    | inl j ↦ absurd (clash (X i) (down i a j m e) k)
                    | inr j ↦ cc
                  ]
            ]
        | inr h ↦ none (D i) (X i) (parent_in (p i) X) h
      ]
    where
      none : (x y z : Bool) → z ≡ false → x && z ≡ y && z
      none true true z h = refl
      none true false z h = h
      none false true z h = sym h
      none false false z h = refl

  pub telescope : (w t : ℕ → ℕ) → Totals p D w t → over entries X w ≡ over entries (tops p X) t
  telescope w t h =
      omega (
        arith,
        over_same entries X X t (λ u. w u + over entries (children p D u) t) (λ i k. refl) (λ i k m. h i (s i m)),
        over_add entries X w (λ u. over entries (children p D u) t),
        exchange entries p X D t l,
        over_same entries (hanging p D X) (hanging p X X) t t inner (λ i k m. refl),
        over_cut entries X (λ i. parent_in (p i) X) t,
      )

-- ## Totals are sums over families

module _ {R : Rules} {p : Parents} {rank : ℕ → ℕ} (o : Ranked entries R p rank) (l : Within entries R) (G : Rules) (s : G ⊆ R) where
  -- A family within another, at a child.
  inside_down : (u c : ℕ) → u ∈ R → c ∈ children p G u →
      (i a : ℕ) → i ∈ family p G u → a ∈ family p G c → p i ≡ under a → i ∈ family p G c
  inside_down u c m k i a f g e = go (family_out p G u i f) e
    where
      c_rule : c ∈ R
      c_rule = s c (child_out p G u c k).0

      go : {i : ℕ} → Linked p G i u → p i ≡ under a → i ∈ family p G c
      go here e =
          absurd (parent_outside o G s u a m e (linked_trans (family_out p G c a g) (up (child_out p G u c k).0 (child_out p G u c k).1 here)))
      go {i} (up h e' r) e = family_in o G s c i c_rule (up h e (family_out p G c a g))

  inside : (u c : ℕ) → u ∈ R → c ∈ children p G u → family p G c ⊆ family p G u
  inside u c m k i f =
      let (g, e) = child_out p G u c k in
      family_in o G s u i m (linked_trans (family_out p G c i f) (up g e here))

  -- The sum over a family is the rule's own, with the sums over its children's families.
  pub family_step : (u : ℕ) → u ∈ R → (w : ℕ → ℕ) →
      over entries (family p G u) w ≡ w u + over entries (children p G u) (λ c. over entries (family p G c) w)
  family_step u m w =
      let (t, h) = totals_exist o X xr w in
      omega (
        arith,
        telescope p X X (λ i f. l i (xr i f)) (λ i f. f) (λ i a f g e. f) w t h,
        tops_sum o G s u m (l u m) t,
        h u (family_in o G s u u m here),
        over_eq entries (children p X u) (children p G u) t (λ c. over entries (family p G c) w) less more
            (λ c k f. part t h c (less c f)),
      )
    where
      X : Rules
      X = family p G u

      xr : X ⊆ R
      xr = family_rules o G s u m

      less : children p X u ⊆ children p G u
      less c f = let (x, e) = child_out p X u c f in go c e (family_out p G u c x)
        where
          go : (c : ℕ) → p c ≡ under u → Linked p G c u → c ∈ children p G u
          go c e here = absurd (parent_outside o G s u u m e here)
          go c e (up g e' r) = child_in p G u c g e

      more : children p G u ⊆ children p X u
      more c f =
          let (g, e) = child_out p G u c f in
          child_in p X u c (family_in o G s u c m (up g e here)) e

      part : (t : ℕ → ℕ) → Totals p X w t → (c : ℕ) → c ∈ children p G u → t c ≡ over entries (family p G c) w
      part t h c f =
          let q : c ∈ R = s c (child_out p G u c f).0 in
          sym
          (telescope p X (family p G c) (λ i k. l i (family_rules o G s c q i k)) (inside u c m f) (inside_down u c m f) w t h ∙
          tops_sum o G s c q (l c q) t)

  -- Totals are the sums over families.
  pub family_total : (w t : ℕ → ℕ) → Totals p G w t → (u : ℕ) → u ∈ G → over entries (family p G u) w ≡ t u
  family_total w t h u m =
      totals_unique o G s w (λ u. over entries (family p G u) w) t (λ u m. family_step u (s u m) w) h u m
