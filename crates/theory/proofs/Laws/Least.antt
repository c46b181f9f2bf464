-- The least saturated set at a topmost cached rule: what every saturated negative changeset with that top holds.
-- Assumes nothing.
use Rattle.std.specs.Prelude.{ℕ, ◌*◌, ◌-◌, ◌<◌, ◌≤◌, true, not, ◌&&◌, ◌≡◌, ◌↔◌, ltb}
use Rattle.std.proofs.Common.{inl, inr, arith, ltb-true, ltb-false}
use Rattle.theory.specs.Limits.{entries}
use Rattle.theory.specs.Sets.{Rules, ◌∈◌, ◌∉◌, ◌⊆◌, ◌∖◌, size}
use Rattle.theory.specs.Changes.{negative, Board, Valid, count, Saturated}
use Rattle.theory.specs.Search.{best}
use Rattle.theory.proofs.Laws.Sums.{in_or_out, clash, and_both, over_term}
use Rattle.theory.proofs.Laws.Parts.{PartOf, Proper, side, side_rules, valid_part, part_valid}
use Rattle.theory.proofs.Laws.Climbs.{Linked, here, up}
use Rattle.theory.proofs.Laws.Children.{parent_in, hanging, top_out, climb}
use Rattle.theory.proofs.Laws.Totals.{family, family_out}
use Rattle.theory.proofs.Laws.Earnings.{Earned, earned_exist, family_account}
use Rattle.theory.proofs.Laws.Best.{best_account}
use Rattle.theory.proofs.Laws.Topmost.{Topmost, part_top, topmost_part, part_account, member_earns, best_part, best_at_most}

-- The cached rules whose best set counts more than its size times the charge.
abbrev pub surplus : Board → Rules
surplus b w = side negative b w && ltb (size entries (best b entries w) * b.charge) (count b (best b entries w))

-- A rule with what hangs on it by such rules.
abbrev pub least : Board → ℕ → Rules
least b r = family b.parent (surplus b) r

surplus_side : (b : Board) → surplus b ⊆ side negative b
surplus_side b w g =
    (and_both (side negative b w) (ltb (size entries (best b entries w) * b.charge) (count b (best b entries w))) g).0

module _ (b : Board) {rank : ℕ → ℕ} (o : Proper b rank)
    (e : ℕ → ℕ) (h : Earned b.parent (side negative b) b.charge b.counter e) where
  surplus_earns : (w : ℕ) → w ∈ surplus b → b.charge < e w
  surplus_earns w g =
      let (m, t) =
      and_both (side negative b w) (ltb (size entries (best b entries w) * b.charge) (count b (best b entries w))) g in
      omega (
        arith,
        ltb-true (size entries (best b entries w) * b.charge) (count b (best b entries w)) t,
        best_account b o e h w m,
      )

  surplus_rest : (w : ℕ) → w ∈ side negative b → w ∉ surplus b → e w ≤ b.charge
  surplus_rest w m out =
      elim (in_or_out (λ w. ltb (size entries (best b entries w) * b.charge) (count b (best b entries w))) w) [
        | inl t ↦ absurd (clash (surplus b w) (cc) out)
        | inr t ↦
            omega (
              arith,
              ltb-false (size entries (best b entries w) * b.charge) (count b (best b entries w)) t,
              best_account b o e h w m,
            )
      ]

  -- The least set is saturated where the best set is.
  least_saturated : (r : ℕ) → r ∈ side negative b → Saturated b (best b entries r) → Saturated b (least b r)
  least_saturated r m f =
      omega (
        arith,
        best_account b o e h r m,
        family_account o.ranked o.within (side negative b) (side_rules negative b) b.charge b.counter e h (surplus b)
            (surplus_side b) (λ w g. omega (arith, surplus_earns w g)) surplus_rest r m,
      )

  module _ (low : (r : ℕ) → Topmost b r → e r ≤ b.charge) (X : Rules) (x : PartOf negative b X) (f : Saturated b X) where
    -- A saturated part leaves out no child that earns more than the charge.
    left_out : (w : ℕ) → w ∈ hanging b.parent (side negative b) X ∖ X → e w ≤ b.charge
    left_out w m =
        let (d, q) = and_both (hanging b.parent (side negative b) X w) (not (X w)) m in
        let n : w ∈ side negative b = (and_both (side negative b w) (parent_in (b.parent w) X) d).0 in
        omega (
          arith,
          part_account b o e h low X x,
          over_term entries (hanging b.parent (side negative b) X ∖ X) (λ w. e w - b.charge) w
              (o.within w (side_rules negative b w n)) m,
        )

    holds_linked : (t : ℕ) → t ∈ X → {j : ℕ} → Linked b.parent (surplus b) j t → j ∈ X
    holds_linked t m here = m
    holds_linked t m {j} (up {a = a} g q r) =
        let k : a ∈ X = holds_linked t m r in
        elim (in_or_out X j) [
          | inl i ↦ i
          | inr i ↦
              let n : j ∈ side negative b = surplus_side b j g in
              let p : parent_in (b.parent j) X ≡ true = rw q k in
              absurd (omega (arith, surplus_earns j g, left_out j (rw (n, p, i))))
        ]

    -- A saturated part holds the least set of a topmost rule whose best set is saturated.
    holds_least : (t : ℕ) × Topmost b t × Saturated b (best b entries t) × (least b t ⊆ X)
    holds_least =
        let (t, n, r) = climb o.ranked (λ j k. side_rules negative b j (x.inside j k)) x.some.0 x.some.1 in
        let m : t ∈ X = (top_out b.parent X t n).0 in (
          t,
          part_top b o X x t n,
          omega (arith, member_earns b o e h low X x f t m, best_account b o e h t (x.inside t m)),
          λ j g. holds_linked t m (family_out b.parent (surplus b) t j g),
        )

-- The negative changesets count at most their size times the charge, and hold v where they count that much,
-- exactly where the best sets count at most that, and the least sets hold v where the best ones count it.
pub negative_ready : (b : Board) {rank : ℕ → ℕ} → Proper b rank → (v : ℕ) →
    ((X : Rules) → Valid negative b X → (count b X ≤ size entries X * b.charge) × (Saturated b X → v ∈ X)) ↔
    ((r : ℕ) → Topmost b r →
    (count b (best b entries r) ≤ size entries (best b entries r) * b.charge) × (Saturated b (best b entries r) → v ∈ least b r))
negative_ready b o v = (there, back)
  where
    earned : (e : ℕ → ℕ) × Earned b.parent (side negative b) b.charge b.counter e
    earned = earned_exist o.ranked (side negative b) (side_rules negative b) b.charge b.counter

    there : ((X : Rules) → Valid negative b X → (count b X ≤ size entries X * b.charge) × (Saturated b X → v ∈ X)) →
        (r : ℕ) → Topmost b r →
        (count b (best b entries r) ≤ size entries (best b entries r) * b.charge) × (Saturated b (best b entries r) → v ∈ least b r)
    there h r t = (
      (h (best b entries r) (part_valid b o negative (best b entries r) (best_part b o r t))).0,
      λ f.
          (h (least b r) (part_valid b o negative (least b r) (topmost_part b o (surplus b) (surplus_side b) r t))).1
          (least_saturated b o earned.0 earned.1 r t.0 f),
    )

    back : ((r : ℕ) → Topmost b r →
        (count b (best b entries r) ≤ size entries (best b entries r) * b.charge) × (Saturated b (best b entries r) → v ∈ least b r)) →
        (X : Rules) → Valid negative b X → (count b X ≤ size entries X * b.charge) × (Saturated b X → v ∈ X)
    back h X w = (
      best_at_most b o (λ r t. (h r t).0) X (valid_part b o negative X w),
      λ f.
          let low : (r : ℕ) → Topmost b r → earned.0 r ≤ b.charge =
          λ r t. omega (arith, (h r t).0, best_account b o earned.0 earned.1 r t.0) in
          let (t, n, g, s) = holds_least b o earned.0 earned.1 low X (valid_part b o negative X w) f in
          s v ((h t n).1 g),
    )
