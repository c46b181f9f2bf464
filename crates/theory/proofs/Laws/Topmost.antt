-- Topmost cached rules: above each member of a negative changeset there is one, and its best set is a changeset.
--
-- In order: topmost rules; their best sets, by what the rules earn; the same, without earnings; the search for one.
-- Assumes nothing.
use Prim.Native.Nat.{ℕ, zero, suc, ◌+◌, ◌*◌, ◌-◌, ◌<◌, ◌≤◌}
use Rattle.std.specs.Prelude.{true, false, ◌≡◌, ◌↔◌, pos}
use Rattle.std.proofs.Math.Path.{refl}
use Rattle.std.proofs.Common.{sym, ap, ◌∙◌, inl, inr, arith}
use Rattle.std.specs.Int.Signed.{lt_z}
use Rattle.theory.specs.Limits.{entries}
use Rattle.theory.specs.Sets.{Rules, ◌∈◌, ◌⊆◌, ◌∖◌, over, size}
use Rattle.theory.specs.Tree.{Parent, no_parent, under, Below, child}
use Rattle.theory.specs.Changes.{negative, Board, count, Saturated}
use Rattle.theory.specs.Search.{of_parent, gain, best, topmost}
use Rattle.theory.proofs.Laws.Sums.{in_or_out, clash, and_both, over_zero, over_term}
use Rattle.theory.proofs.Laws.Parts.{PartOf, Proper, side, side_rules}
use Rattle.theory.proofs.Laws.Gains.{gain_saturated}
use Rattle.theory.proofs.Laws.Climbs.{AtOrBelow, below_at, below_step, chain, Linked, here, up, linked_below, linked_map, linked_in, hung}
use Rattle.theory.proofs.Laws.Children.{parent_in, hanging, tops, top_out, climb}
use Rattle.theory.proofs.Laws.Totals.{family, family_out, family_in}
use Rattle.theory.proofs.Laws.Earnings.{Earned, earned_exist, account, earning_in, earning_out}
use Rattle.theory.proofs.Laws.Best.{earners, good_rules, best_is, best_account}

-- A cached rule whose parent, if it has one, is uncached.
abbrev pub Topmost : Board → ℕ → Type 0
Topmost b r = (r ∈ side negative b) × (of_parent false b.cached (b.parent r) ≡ false)

module _ (b : Board) {rank : ℕ → ℕ} (o : Proper b rank) where
  cached_of : (i : ℕ) → i ∈ side negative b → i ∈ b.cached
  cached_of i m = (and_both (b.rules i) (b.cached i) m).1

  -- A topmost cached rule is below no cached rule.
  topmost_high : (t y : ℕ) → Topmost b t → y ∈ side negative b → Below b.parent t y → ⊥
  topmost_high t y (m, top) d s =
      let (a, e, r) = below_step s in
      let l : a ∈ b.rules = o.ranked.parent_rule t a (side_rules negative b t m) e in
      let c : a ∈ b.cached = elim r [ inl q ↦ rw q (cached_of y d) | inr s ↦ o.closed y a l (cached_of y d) s ] in
      clash (of_parent false b.cached (b.parent t)) (rw e c) top

  -- At or above a rule there is at most one.
  pub topmost_same : (v t r : ℕ) → Topmost b t → Topmost b r → AtOrBelow b.parent v t → AtOrBelow b.parent v r → t ≡ r
  topmost_same v t r tt tr x y =
      elim (chain x y) [
        | inl h ↦ elim h [ inl q ↦ q | inr s ↦ absurd (topmost_high t r tt tr.0 s) ]
        | inr s ↦ absurd (topmost_high r t tr tt.0 s)
      ]

  -- The tops of a part are topmost.
  pub part_top : (Y : Rules) → PartOf negative b Y → (t : ℕ) → t ∈ tops b.parent Y → Topmost b t
  part_top Y y t m =
      let (a, out) = top_out b.parent Y t m in
      let d : t ∈ side negative b = y.inside t a in
      elim (in_or_out (λ w. of_parent false b.cached (b.parent w)) t) [
        | inl h ↦
            let (i, e, c) = hung (b.parent t) b.cached h in
            let l : i ∈ b.rules = o.ranked.parent_rule t i (side_rules negative b t d) e in
            absurd (clash (parent_in (b.parent t) Y) (rw e (y.onward t i a (cc) (child e))) out)
        | inr h ↦ (d, h)
      ]

  linked_up : (G : Rules) (r x y : ℕ) → Topmost b r → y ∈ side negative b → Linked b.parent G x r → Below b.parent x y →
      Linked b.parent G y r
  linked_up G r x y t m here s = absurd (topmost_high r y t m s)
  linked_up G r x y t m (up {a = a} g f q) s =
      let (c, f', u) = below_step s in
      let same : c ≡ a = cc in
      elim u [
        | inl w ↦ let z : y ≡ a = cc in rw z q
        | inr w ↦ linked_up G r a y t m q (rw same at w)
      ]

  -- The family of a topmost rule is a part.
  pub topmost_part : (G : Rules) → G ⊆ side negative b → (r : ℕ) → Topmost b r → PartOf negative b (family b.parent G r)
  topmost_part G s r t =
      record {
        some = (r, fam r here);
        inside = λ i f. linked_in s t.0 (family_out b.parent G r i f);
        onward = λ x y f d q. fam y (linked_up G r x y t d (family_out b.parent G r x f) q);
      }
    where
      fam : (i : ℕ) → Linked b.parent G i r → i ∈ family b.parent G r
      fam i q =
          family_in o.ranked G (λ w g. side_rules negative b w (s w g)) r i (side_rules negative b r t.0) q

  -- ## What the rules earn

  module _ (e : ℕ → ℕ) (h : Earned b.parent (side negative b) b.charge b.counter e) where
    best_out : (r i : ℕ) → r ∈ side negative b → i ∈ best b entries r → Linked b.parent (earners b e) i r
    best_out r i m f = family_out b.parent (earners b e) r i (sym (ap (λ X. X i) (best_is b o e h r m)) ∙ f)

    best_in : (r i : ℕ) → r ∈ side negative b → Linked b.parent (earners b e) i r → i ∈ best b entries r
    best_in r i m f =
        ap (λ X. X i) (best_is b o e h r m) ∙
        family_in o.ranked (earners b e) (good_rules b o e h) r i (side_rules negative b r m) f

    best_part_by : (r : ℕ) → Topmost b r → PartOf negative b (best b entries r)
    best_part_by r t =
        rw (best_is b o e h r t.0)
        (topmost_part (earners b e) (λ w g. (earning_out (side negative b) b.charge e w g).0) r t)

    module _ (low : (r : ℕ) → Topmost b r → e r ≤ b.charge) (X : Rules) (x : PartOf negative b X) where
      -- Where no topmost rule earns more than the charge, what a part counts and lacks is its charge.
      pub part_account : count b X + over entries X (λ w. b.charge - e w) +
          over entries (hanging b.parent (side negative b) X ∖ X) (λ w. e w - b.charge) ≡
          size entries X * b.charge
      part_account =
          omega (
            arith,
            account b.parent (side negative b) b.charge b.counter e h X
                (λ j k. o.within j (side_rules negative b j (x.inside j k))) x.inside,
            over_zero entries (tops b.parent X) (λ w. e w - b.charge) (λ t g n. omega (arith, low t (part_top X x t n))),
          )

      -- Each member of a saturated part then earns the charge.
      pub member_earns : Saturated b X → (j : ℕ) → j ∈ X → b.charge ≤ e j
      member_earns f j k =
          omega (
            arith,
            part_account,
            over_term entries X (λ w. b.charge - e w) j (o.within j (side_rules negative b j (x.inside j k))) k,
          )

      -- And it is in the best set of a topmost rule that earns it.
      earning_top : Saturated b X → (i : ℕ) → i ∈ X → (t : ℕ) × Topmost b t × (b.charge ≤ e t) × (i ∈ best b entries t)
      earning_top f i m =
          let good : X ⊆ earners b e =
          λ j k. earning_in (side negative b) b.charge e j (x.inside j k) (member_earns f j k) in
          let (t, n, r) = climb o.ranked (λ j k. side_rules negative b j (x.inside j k)) i m in
          let tx : t ∈ X = (top_out b.parent X t n).0 in
          (t, part_top X x t n, member_earns f t tx, best_in t i (x.inside t tx) (linked_map good r))

  -- ## The same, without earnings

  earns : (e : ℕ → ℕ) × Earned b.parent (side negative b) b.charge b.counter e
  earns = earned_exist o.ranked (side negative b) (side_rules negative b) b.charge b.counter

  -- The best set of a topmost rule is a negative changeset.
  pub best_part : (r : ℕ) → Topmost b r → PartOf negative b (best b entries r)
  best_part r t = best_part_by earns.0 earns.1 r t

  pub best_gains : (r : ℕ) → Topmost b r → (lt_z (pos 0) (gain b (best b entries r)) ≡ true) ↔ Saturated b (best b entries r)
  best_gains r t =
      let x = best_part r t in
      gain_saturated b (best b entries r) o.within (λ i m. side_rules negative b i (x.inside i m)) x.some

  -- Whatever is in it is at or below the rule.
  pub best_below : (r i : ℕ) → Topmost b r → i ∈ best b entries r → AtOrBelow b.parent i r
  best_below r i t m = linked_below (best_out earns.0 earns.1 r i t.0 m)

  low : ((r : ℕ) → Topmost b r → count b (best b entries r) ≤ size entries (best b entries r) * b.charge) →
      (r : ℕ) → Topmost b r → earns.0 r ≤ b.charge
  low h r t = omega (arith, h r t, best_account b o earns.0 earns.1 r t.0)

  -- Where no best set counts too much, each member of a saturated part is in a saturated best set.
  pub saturated_best : ((r : ℕ) → Topmost b r → count b (best b entries r) ≤ size entries (best b entries r) * b.charge) →
      (X : Rules) → PartOf negative b X → Saturated b X → (i : ℕ) → i ∈ X →
      (t : ℕ) × Topmost b t × Saturated b (best b entries t) × (i ∈ best b entries t)
  saturated_best h X x f i m =
      let (t, n, k, j) = earning_top earns.0 earns.1 (low h) X x f i m in
      (t, n, omega (arith, best_account b o earns.0 earns.1 t n.0), j)

  -- Where no best set counts too much, no part does.
  pub best_at_most : ((r : ℕ) → Topmost b r → count b (best b entries r) ≤ size entries (best b entries r) * b.charge) →
      (X : Rules) → PartOf negative b X → count b X ≤ size entries X * b.charge
  best_at_most h X x = omega (arith, part_account earns.0 earns.1 (low h) X x)

  -- ## The search

  topmost_by : (f : ℕ → ℕ) (u : ℕ) → u ∈ side negative b →
      ((a : ℕ) → a ∈ side negative b → b.parent u ≡ under a → Topmost b (f a) × AtOrBelow b.parent a (f a)) →
      (q : Parent) → b.parent u ≡ q → (t : ℕ) → of_parent u (λ a. elim (b.cached a) [ true ↦ f a | false ↦ u ]) q ≡ t →
      Topmost b t × AtOrBelow b.parent u t
  topmost_by f u m h no_parent e t q = rw (← q) ((m, rw e), inl refl)
  topmost_by f u m h (under a) e t q =
      elim (in_or_out b.cached a) [
        | inl c ↦
            let l : a ∈ b.rules = o.ranked.parent_rule u a (side_rules negative b u m) e in
            let (n, r) = h a (cc) e in
            let same : f a ≡ t = rw c at q in
            rw (← same) (n, inr (below_at (child e) r))
        | inr c ↦
            let same : u ≡ t = rw c at q in
            rw (← same) ((m, rw e c), inl refl)
      ]

  topmost_in : (f u : ℕ) → rank u < f → u ∈ side negative b → Topmost b (topmost b f u) × AtOrBelow b.parent u (topmost b f u)
  unfolding topmost
  topmost_in zero u l m = absurd (omega arith)
  topmost_in (suc f) u l m =
      topmost_by (topmost b f) u m
      (λ a n e. topmost_in f a (omega (arith, o.ranked.falls u a (side_rules negative b u m) e)) n) (b.parent u) refl
      (topmost b (suc f) u) refl

  -- The search finds the topmost rule at or above a cached one.
  pub topmost_is : (v : ℕ) → v ∈ side negative b → Topmost b (topmost b entries v) × AtOrBelow b.parent v (topmost b entries v)
  topmost_is v m = topmost_in entries v (o.ranked.below v (side_rules negative b v m)) m
