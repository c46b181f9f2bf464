-- The positive side: the sets P decide which changesets are saturated, and which one is the greatest.
--
-- In order: what P holds; its sums; quiet and ready boards; the greatest set.
-- Not here: what the search for it finds (`Highest`).
-- Assumes nothing.
use Rattle.std.specs.Prelude.{ℕ, ◌*◌, ◌≤◌, Bool, true, not, ◌≡◌, refl, ◌↔◌}
use Rattle.std.proofs.Common.{ap, inl, inr, lt_of_not-le, arith}
use Rattle.theory.specs.Limits.{entries}
use Rattle.theory.specs.Sets.{Rules, ◌∈◌, ◌∉◌, ◌⊆◌, Within, over, size}
use Rattle.theory.specs.Tree.{under, Parents, Below, child, deeper}
use Rattle.theory.specs.Changes.{Sign, positive, negative, Board, Valid, count, Saturated, Quiet, Ready, Greatest}
use Rattle.theory.specs.Search.{hangs, uncached, P}
use Rattle.theory.proofs.Laws.Sums.{in_or_out, clash, and_both, not_true, over_same, over_eq, over_le, over_scale, over_tight}
use Rattle.theory.proofs.Laws.Parts.{PartOf, Proper, side_rules, valid_part, part_valid}
use Rattle.theory.proofs.Laws.Climbs.{AtOrBelow, below_at, at_trans, chain, Linked, here, up, linked_below, linked_in, when_is, hangs_linked, linked_hangs}
use Rattle.theory.proofs.Laws.Children.{children, child_out, tops, top_out, climb}
use Rattle.theory.proofs.Laws.Totals.{family, family_out, family_in, family_step, Totals, totals_unique, telescope}

-- Links by all rules are no bond.
at_linked : {p : Parents} {j i : ℕ} → AtOrBelow p j i → Linked p (λ w. true) j i
at_linked {p} {j} {i} (inl q) = rw q here
at_linked (inr (child e)) = up refl e here
at_linked (inr (deeper e r)) = up refl e (at_linked (inr r))

module _ (b : Board) {rank : ℕ → ℕ} (o : Proper b rank) where
  rule_of : uncached b ⊆ b.rules
  rule_of = side_rules positive b

  -- The rules outside the cache hold their parents.
  pub uncached_up : (i a : ℕ) → i ∈ uncached b → b.parent i ≡ under a → a ∈ uncached b
  uncached_up i a m e =
      let (l, n) = and_both (b.rules i) (not (b.cached i)) m in
      let k : a ∈ b.rules = o.ranked.parent_rule i a l e in
      elim (in_or_out b.cached a) [
        | inl h ↦ absurd (clash (b.cached i) (o.closed a i l h (child e)) (not_true (b.cached i) n))
        | inr h ↦ rw (k, h)
      ]

  pub uncached_above : (i a : ℕ) → i ∈ uncached b → AtOrBelow b.parent i a → a ∈ uncached b
  uncached_above i a m (inl q) = rw q at m
  uncached_above i a m (inr (child e)) = uncached_up i a m e
  uncached_above i a m (inr (deeper {k = k} e r)) = uncached_above k a (uncached_up i k m e) (inr r)

  -- P(u) holds the uncached rules at or below u.
  pub P_is : (u i : ℕ) → (i ∈ P b u) ↔ ((i ∈ uncached b) × AtOrBelow b.parent i u)
  P_is u i = (there, back)
    where
      test : Bool
      test = hangs b.parent (λ w. true) entries i u

      there : i ∈ P b u → (i ∈ uncached b) × AtOrBelow b.parent i u
      there m =
          let (d, h) = (when_is (uncached b i) test).0 m in
          (d, linked_below (hangs_linked b.parent (λ w. true) entries i u h))

      back : (i ∈ uncached b) × AtOrBelow b.parent i u → i ∈ P b u
      back (d, r) =
          let l : i ∈ b.rules = rule_of i d in
          let h : test ≡ true =
          linked_hangs b.parent (λ w. true) o.ranked entries l (omega (arith, o.ranked.below i l)) (at_linked r) in
          (when_is (uncached b i) test).1 (d, h)

  pub P_part : (u : ℕ) → u ∈ uncached b → PartOf positive b (P b u)
  P_part u m =
      record {
        some = (u, (P_is u u).1 (m, inl refl));
        inside = λ i h. ((P_is u i).0 h).0;
        onward = λ x y h d r. (P_is u y).1 (d, inr (below_at r ((P_is u x).0 h).1));
      }

  -- ## Sums over P

  linked_uncached : {i u : ℕ} → i ∈ uncached b → AtOrBelow b.parent i u → Linked b.parent (uncached b) i u
  linked_uncached {i} {u} m (inl q) = rw q here
  linked_uncached m (inr (child e)) = up m e here
  linked_uncached {i} {u} m (inr (deeper {k = k} e r)) = up m e (linked_uncached (uncached_up i k m e) (inr r))

  P_sum : (u : ℕ) → u ∈ uncached b → (w : ℕ → ℕ) →
      over entries (P b u) w ≡ over entries (family b.parent (uncached b) u) w
  P_sum u m w =
      over_eq entries (P b u) (family b.parent (uncached b) u) w w
      (λ i h. let (d, r) = (P_is u i).0 h in family_in o.ranked (uncached b) rule_of u i (rule_of u m) (linked_uncached d r))
      (λ i h. let r = family_out b.parent (uncached b) u i h in (P_is u i).1 (linked_in (λ j k. k) m r, linked_below r))
      (λ i l h. refl)

  -- The sums over the sets P are totals.
  pub P_totals : (w : ℕ → ℕ) → Totals b.parent (uncached b) w (λ u. over entries (P b u) w)
  P_totals w u m =
      omega (
        arith,
        P_sum u m w,
        family_step o.ranked o.within (uncached b) rule_of u (rule_of u m) w,
        over_same entries (children b.parent (uncached b) u) (children b.parent (uncached b) u)
            (λ c. over entries (P b c) w) (λ c. over entries (family b.parent (uncached b) c) w) (λ i l. refl)
            (λ c l k. P_sum c (child_out b.parent (uncached b) u c k).0 w),
      )

  pub P_total : (w t : ℕ → ℕ) → Totals b.parent (uncached b) w t → (u : ℕ) → u ∈ uncached b → over entries (P b u) w ≡ t u
  P_total w t h u m =
      totals_unique o.ranked (uncached b) rule_of w (λ u. over entries (P b u) w) t (P_totals w) h u m

  module _ (X : Rules) (x : PartOf positive b X) where
    part_within : Within entries X
    part_within i m = o.within i (rule_of i (x.inside i m))

    -- The sum over a part is that over the sets P of its tops.
    part_sum : (w : ℕ → ℕ) → over entries X w ≡ over entries (tops b.parent X) (λ u. over entries (P b u) w)
    part_sum w =
        telescope b.parent (uncached b) X part_within x.inside (λ i a d m e. x.onward a i m d (child e)) w
        (λ u. over entries (P b u) w) (P_totals w)

    part_size : size entries X * b.charge ≡ over entries (tops b.parent X) (λ u. size entries (P b u) * b.charge)
    part_size =
        omega (
          arith,
          ap (λ s. s * b.charge) (part_sum (λ i. 1)),
          over_scale entries (tops b.parent X) (λ u. size entries (P b u)) b.charge,
        )

    top_uncached : (t : ℕ) → t ∈ tops b.parent X → t ∈ uncached b
    top_uncached t m = x.inside t (top_out b.parent X t m).0

    top_above : (i : ℕ) → i ∈ X → (t : ℕ) × (t ∈ tops b.parent X) × AtOrBelow b.parent i t
    top_above i m =
        let (t, h, r) = climb o.ranked (λ j k. rule_of j (x.inside j k)) i m in
        (t, h, linked_below r)

  -- ## Saturated changesets

  -- Where no P counts too much, above each member of a saturated part there is a member whose P is saturated.
  saturated_top : ((u : ℕ) → u ∈ uncached b → count b (P b u) ≤ size entries (P b u) * b.charge) →
      (X : Rules) → PartOf positive b X → Saturated b X → (i : ℕ) → i ∈ X →
      (t : ℕ) × (t ∈ X) × AtOrBelow b.parent i t × Saturated b (P b t)
  saturated_top h X x f i m =
      let (t, tt, r) = top_above X x i m in
      let tx : t ∈ X = (top_out b.parent X t tt).0 in
      let full : Saturated b (P b t) =
      over_tight entries (tops b.parent X) (λ u. count b (P b u)) (λ u. size entries (P b u) * b.charge)
      (λ j l k. h j (top_uncached X x j k)) (omega (arith, part_sum X x b.counter, part_size X x)) t (part_within X x t tx) tt in
      (t, tx, r, full)

  -- No positive changeset is saturated exactly where no P is.
  pub positive_quiet : ((X : Rules) → Valid positive b X → Saturated b X → ⊥) ↔
      ((u : ℕ) → u ∈ uncached b → Saturated b (P b u) → ⊥)
  positive_quiet = (λ q u m. q (P b u) (part_valid b o positive (P b u) (P_part u m)), back)
    where
      back : ((u : ℕ) → u ∈ uncached b → Saturated b (P b u) → ⊥) → (X : Rules) → Valid positive b X → Saturated b X → ⊥
      back q X v f =
          let x : PartOf positive b X = valid_part b o positive X v in
          let (t, tx, r, g) =
          saturated_top (λ u m. omega (arith, lt_of_not-le (q u m))) X x f x.some.0 x.some.1 in
          q t (x.inside t tx) g

  -- The positive changesets count at most their size times the charge, and hold v where they count that much, exactly where the P do.
  pub positive_ready : (v : ℕ) →
      ((X : Rules) → Valid positive b X → (count b X ≤ size entries X * b.charge) × (Saturated b X → v ∈ X)) ↔
      ((u : ℕ) → u ∈ uncached b → (count b (P b u) ≤ size entries (P b u) * b.charge) × (Saturated b (P b u) → v ∈ P b u))
  positive_ready v = (λ h u m. h (P b u) (part_valid b o positive (P b u) (P_part u m)), back)
    where
      back : ((u : ℕ) → u ∈ uncached b → (count b (P b u) ≤ size entries (P b u) * b.charge) × (Saturated b (P b u) → v ∈ P b u)) →
          (X : Rules) → Valid positive b X → (count b X ≤ size entries X * b.charge) × (Saturated b X → v ∈ X)
      back h X w = (most, holds)
        where
          x : PartOf positive b X
          x = valid_part b o positive X w

          most : count b X ≤ size entries X * b.charge
          most =
              omega (
                arith,
                part_sum X x b.counter,
                part_size X x,
                over_le entries (tops b.parent X) (tops b.parent X) (λ u. count b (P b u))
                    (λ u. size entries (P b u) * b.charge) (λ j k. k) (λ j l k. (h j (top_uncached X x j k)).0),
              )

          holds : Saturated b X → v ∈ X
          holds f =
              let (t, tx, r, g) = saturated_top (λ u m. (h u m).0) X x f x.some.0 x.some.1 in
              let (d, s) = (P_is t v).0 ((h t (x.inside t tx)).1 g) in
              elim s [ inl q ↦ rw q tx | inr s ↦ x.onward t v tx d s ]

  -- ## A ready board

  module _ {v : ℕ} (y : Ready b v) (m : v ∈ uncached b) where
    -- What is saturated is positive, and above each of its members and v there is one whose P is saturated.
    ready_top : (g : Sign) (X : Rules) → Valid g b X → Saturated b X → (i : ℕ) → i ∈ X →
        (i ∈ uncached b) × (t : ℕ) × (t ∈ uncached b) × AtOrBelow b.parent i t × AtOrBelow b.parent v t × Saturated b (P b t)
    ready_top negative X w f i k =
        let n : v ∉ b.cached = not_true (b.cached v) (and_both (b.rules v) (not (b.cached v)) m).1 in
        absurd (clash (b.cached v) (w.cached v (y.holds negative X w f)) n)
    ready_top positive X w f i k =
        let x : PartOf positive b X = valid_part b o positive X w in
        let (t, tx, r, g) =
        saturated_top (λ u d. y.at_most positive (P b u) (part_valid b o positive (P b u) (P_part u d))) X x f i k in
        let d : t ∈ uncached b = x.inside t tx in
        let h : v ∈ P b t = y.holds positive (P b t) (part_valid b o positive (P b t) (P_part t d)) g in
        (x.inside i k, t, d, r, ((P_is t v).0 h).1, g)

    -- The highest saturated P above v is the greatest changeset.
    pub highest_greatest : (u : ℕ) → u ∈ uncached b → AtOrBelow b.parent v u → Saturated b (P b u) →
        ((a : ℕ) → a ∈ b.rules → Below b.parent u a → Saturated b (P b a) → ⊥) → Greatest b positive (P b u)
    highest_greatest u d r f high =
        record {
          valid = part_valid b o positive (P b u) (P_part u d);
          saturated = f;
          greatest =
              λ g Y w s i k.
              let (id, t, td, it, vt, h) = ready_top g Y w s i k in
              elim (chain vt r) [
                | inl tu ↦ (P_is u i).1 (id, at_trans it tu)
                | inr ut ↦ absurd (high t (rule_of t td) ut h)
              ];
        }

    -- Where no P at or above v is saturated, the board is quiet.
    pub none_high : ((a : ℕ) → a ∈ b.rules → AtOrBelow b.parent v a → Saturated b (P b a) → ⊥) → Quiet b
    none_high low g X w f =
        let x = valid_part b o g X w in
        let (id, t, td, it, vt, h) = ready_top g X w f x.some.0 x.some.1 in
        low t (rule_of t td) vt h
