-- Best sets: the best set of a cached rule is its family among the cached rules that earn the charge.
--
-- In order: one level; all levels, and what a best set counts; sums over best sets.
-- Assumes nothing.
use Prim.Native.Nat.{ℕ, zero, suc, ◌+◌, ◌*◌, ◌-◌, ◌<◌, ◌≤◌}
use Rattle.std.specs.Prelude.{Bool, true, false, ◌&&◌, ◌≡◌, refl, ◌↔◌, pos}
use Rattle.std.proofs.Common.{sym, ap, ◌∙◌, arith, eqb-true}
use Rattle.std.proofs.Math.Path.{fun_ext}
use Rattle.std.proofs.Math.Decide.{dec_lt}
use Rattle.std.specs.Int.Signed.{lt_z}
use Rattle.theory.specs.Limits.{entries}
use Rattle.theory.specs.Sets.{Rules, ◌∈◌, ◌⊆◌, over, size}
use Rattle.theory.specs.Tree.{Below}
use Rattle.theory.specs.Changes.{negative, Board, count, Saturated}
use Rattle.theory.specs.Search.{gain, best}
use Rattle.theory.proofs.Laws.Sums.{and_both, over_zero, over_eq}
use Rattle.theory.proofs.Laws.Parts.{side, side_rules, Proper}
use Rattle.theory.proofs.Laws.Integers.{above_is}
use Rattle.theory.proofs.Laws.Gains.{gain_up, gain_saturated}
use Rattle.theory.proofs.Laws.Climbs.{below_falls, at_rule, Linked, here, up, linked_below, linked_move, when_is}
use Rattle.theory.proofs.Laws.Children.{children, child_out, child_in}
use Rattle.theory.proofs.Laws.Totals.{family, family_out, family_in, family_rules, family_step}
use Rattle.theory.proofs.Laws.Earnings.{Earned, earned_exist, earning, earning_in, earning_out, earning_rest, family_account}

-- The cached rules that earn the charge.
abbrev pub earners : Board → (ℕ → ℕ) → Rules
earners b e = earning (side negative b) b.charge e

same_test : (x y : Bool) → (x ≡ true → y ≡ true) → (y ≡ true → x ≡ true) → x ≡ y
same_test true y f g = sym (f refl)
same_test false true f g = g refl
same_test false false f g = refl

-- The cached rules whose best set, for f levels, gains.
abbrev gaining : Board → ℕ → Rules
gaining b f w = elim (b.cached w) [ true ↦ lt_z (pos 0) (gain b (best b f w)) | false ↦ false ]

best_next : (b : Board) (f u : ℕ) → best b (suc f) u ≡ family b.parent (gaining b f) u
unfolding best
best_next b f u = refl

module _ (b : Board) {rank : ℕ → ℕ} (o : Proper b rank) where
  linked_near : (f : ℕ) {i w : ℕ} → i < entries → Linked b.parent (gaining b f) i w → w < entries
  linked_near f l here = l
  linked_near f {i} l (up g e r) =
      let m : i ∈ b.rules = o.held i l ((when_is (b.cached i) (lt_z (pos 0) (gain b (best b f i)))).0 g).0 in
      o.within _ (at_rule o.ranked m (linked_below (up g e r)))

  near : (f i w : ℕ) → i < entries → i ∈ best b f w → w < entries
  unfolding best
  near zero i w l m = rw (eqb-true i w m) at l
  near (suc f) i w l m = linked_near f l (family_out b.parent (gaining b f) w i m)

  -- A set that gains has an entry.
  gain_near : (f w : ℕ) → lt_z (pos 0) (gain b (best b f w)) ≡ true → w < entries
  gain_near f w g =
      elim (dec_lt w entries) [
        | yes l ↦ l
        | no d ↦
            let none : (h : ℕ → ℕ) → over entries (best b f w) h ≡ 0 =
            λ h. over_zero entries (best b f w) h (λ i l m. absurd (d (near f i w l m))) in
            absurd
            (omega (
              arith,
              (above_is (gain b (best b f w))).0 g,
              gain_up b (best b f w),
              ap (λ x. x * (size entries b.rules + 1)) (none b.counter),
              none (λ i. 1),
            ))
      ]

  gaining_side : (f : ℕ) → gaining b f ⊆ side negative b
  gaining_side f w g =
      let (c, h) = (when_is (b.cached w) (lt_z (pos 0) (gain b (best b f w)))).0 g in
      let m : w ∈ b.rules = o.held w (gain_near f w h) c in
      cc

  -- ## Best sets are families

  module _ (e : ℕ → ℕ) (h : Earned b.parent (side negative b) b.charge b.counter e) where
    pub good_rules : earners b e ⊆ b.rules
    good_rules i g = side_rules negative b i (earning_out (side negative b) b.charge e i g).0

    earners_account : (u : ℕ) → u ∈ side negative b →
        count b (family b.parent (earners b e) u) + (b.charge - e u) ≡
        size entries (family b.parent (earners b e) u) * b.charge + (e u - b.charge)
    earners_account u m =
        family_account o.ranked o.within (side negative b) (side_rules negative b) b.charge b.counter e h (earners b e)
        (λ w g. (earning_out (side negative b) b.charge e w g).0) (λ w g. (earning_out (side negative b) b.charge e w g).1)
        (earning_rest (side negative b) b.charge e) u m

    -- The family of a rule gains exactly when the rule earns the charge.
    family_gain : (u : ℕ) → u ∈ side negative b →
        (lt_z (pos 0) (gain b (family b.parent (earners b e) u)) ≡ true) ↔ (b.charge ≤ e u)
    family_gain u m =
        let r : u ∈ b.rules = side_rules negative b u m in
        let X : Rules = family b.parent (earners b e) u in
        let a = earners_account u m in
        let g : (lt_z (pos 0) (gain b X) ≡ true) ↔ Saturated b X =
        gain_saturated b X o.within (family_rules o.ranked (earners b e) good_rules u r)
        (u, family_in o.ranked (earners b e) good_rules u u r here) in
        ((λ t. let f : Saturated b X = g.0 t in omega arith), (λ l. g.1 (omega arith)))

    -- With levels to spare for w, its best set gains exactly when it earns the charge.
    gaining_is : (f : ℕ) → ((u : ℕ) → u ∈ side negative b → entries ≤ f + rank u → best b f u ≡ family b.parent (earners b e) u) →
        (w : ℕ) → w ∈ side negative b → entries ≤ f + rank w → (w ∈ gaining b f) ↔ (w ∈ earners b e)
    gaining_is f is w m l = (there, back)
      where
        there : w ∈ gaining b f → w ∈ earners b e
        there g =
            let t : lt_z (pos 0) (gain b (best b f w)) ≡ true = ((when_is (b.cached w) (lt_z (pos 0) (gain b (best b f w)))).0 g).1 in
            earning_in (side negative b) b.charge e w m ((family_gain w m).0 (sym (ap (λ X. lt_z (pos 0) (gain b X)) (is w m l)) ∙ t))

        back : w ∈ earners b e → w ∈ gaining b f
        back g =
            let t = (family_gain w m).1 (earning_out (side negative b) b.charge e w g).1 in
            (when_is (b.cached w) (lt_z (pos 0) (gain b (best b f w)))).1
            ((and_both (b.rules w) (b.cached w) m).1, ap (λ X. lt_z (pos 0) (gain b X)) (is w m l) ∙ t)

    best_by : (f u : ℕ) → u ∈ side negative b → entries ≤ f + rank u → best b f u ≡ family b.parent (earners b e) u
    best_by zero u m l = absurd (omega (arith, o.ranked.below u (side_rules negative b u m)))
    best_by (suc f) u m l = best_next b f u ∙ fun_ext (λ i. same u m l (best_by f) i)
      where
        same : (u : ℕ) → u ∈ side negative b → entries ≤ suc f + rank u →
            ((u : ℕ) → u ∈ side negative b → entries ≤ f + rank u → best b f u ≡ family b.parent (earners b e) u) →
            (i : ℕ) → family b.parent (gaining b f) u i ≡ family b.parent (earners b e) u i
        same u m l is i =
            same_test (family b.parent (gaining b f) u i) (family b.parent (earners b e) u i)
            (λ g.
            family_in o.ranked (earners b e) good_rules u i r
            (linked_move (λ w k s. let d = gaining_side f w k in (gaining_is f is w d (spare w d s)).0 k)
            (family_out b.parent (gaining b f) u i g)))
            (λ g.
            family_in o.ranked (gaining b f) (λ w k. side_rules negative b w (gaining_side f w k)) u i r
            (linked_move
            (λ w k s. let d = (earning_out (side negative b) b.charge e w k).0 in (gaining_is f is w d (spare w d s)).1 k)
            (family_out b.parent (earners b e) u i g)))
          where
            r : u ∈ b.rules
            r = side_rules negative b u m

            spare : (w : ℕ) → w ∈ side negative b → Below b.parent w u → entries ≤ f + rank w
            spare w d s = omega (arith, below_falls o.ranked (side_rules negative b w d) s)

    -- The best set of a cached rule is its family among those that earn the charge.
    pub best_is : (u : ℕ) → u ∈ side negative b → best b entries u ≡ family b.parent (earners b e) u
    best_is u m = best_by entries u m (omega arith)

    -- It counts its charge, with what the rule earns beyond its own, or less what it lacks.
    pub best_account : (u : ℕ) → u ∈ side negative b →
        count b (best b entries u) + (b.charge - e u) ≡ size entries (best b entries u) * b.charge + (e u - b.charge)
    best_account u m = rw (best_is u m) (earners_account u m)

    -- It gains exactly when the rule earns the charge.
    pub best_earns : (u : ℕ) → u ∈ side negative b → (lt_z (pos 0) (gain b (best b entries u)) ≡ true) ↔ (b.charge ≤ e u)
    best_earns u m = rw (best_is u m) (family_gain u m)

  -- ## Sums over best sets

  -- The sum over a best set is the rule's own, with the sums over the best sets that gain of its cached children.
  pub best_gain : (u : ℕ) → u ∈ side negative b → (f : ℕ → ℕ) →
      over entries (best b entries u) f ≡
      f u +
      over entries (λ w. children b.parent (side negative b) u w && lt_z (pos 0) (gain b (best b entries w)))
      (λ w. over entries (best b entries w) f)
  best_gain u m f =
      let (e, h) = earned_exist o.ranked (side negative b) (side_rules negative b) b.charge b.counter in
      let r : u ∈ b.rules = side_rules negative b u m in
      rw (best_is e h u m)
      (family_step o.ranked o.within (earners b e) (good_rules e h) u r f ∙
      ap (λ x. f u + x)
      (over_eq entries (children b.parent (earners b e) u)
      (λ w. children b.parent (side negative b) u w && lt_z (pos 0) (gain b (best b entries w)))
      (λ w. over entries (family b.parent (earners b e) w) f) (λ w. over entries (best b entries w) f)
      (λ w k.
      let (g, q) = child_out b.parent (earners b e) u w k in
      let (d, l) = earning_out (side negative b) b.charge e w g in
      let c : w ∈ children b.parent (side negative b) u = child_in b.parent (side negative b) u w d q in
      let t : lt_z (pos 0) (gain b (best b entries w)) ≡ true = (best_earns e h w d).1 l in
      rw (c, t))
      (λ w k.
      let (c, t) = and_both (children b.parent (side negative b) u w) (lt_z (pos 0) (gain b (best b entries w))) k in
      let (d, q) = child_out b.parent (side negative b) u w c in
      child_in b.parent (earners b e) u w (earning_in (side negative b) b.charge e w d ((best_earns e h w d).0 t)) q)
      (λ w l k.
      let (g, q) = child_out b.parent (earners b e) u w k in
      ap (λ X. over entries X f) (sym (best_is e h w (earning_out (side negative b) b.charge e w g).0)))))
