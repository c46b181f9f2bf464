-- The twin decides what it should: whether a board is quiet, and what a paid request makes Tree Caching choose.
-- Assumes nothing.
use Rattle.std.specs.Prelude.{ℕ, ◌*◌, ◌<◌, Bool, true, false, not, ◌≡◌, refl, ◌↔◌, pos}
use Rattle.std.proofs.Math.Option.{Option, none, some}
use Rattle.std.proofs.Common.{inl, inr}
use Rattle.std.specs.Int.Signed.{lt_z}
use Rattle.theory.specs.Limits.{entries}
use Rattle.theory.specs.Sets.{Rules, ◌∈◌, ◌∉◌, size}
use Rattle.theory.specs.Changes.{Sign, positive, negative, Board, count, Saturated, Quiet, Ready}
use Rattle.theory.specs.Payment.{paid}
use Rattle.theory.specs.Choice.{nothing, change, Chosen}
use Rattle.theory.specs.Search.{of_parent, P, uncached, saturated, gain, best, highest, topmost}
use Rattle.theory.specs.Twin.{quiet, kept, fetching, evicting, chosen}
use Rattle.theory.proofs.Laws.Sums.{in_or_out, clash, and_both, not_true}
use Rattle.theory.proofs.Laws.Parts.{side, side_rules, Proper, PartOf}
use Rattle.theory.proofs.Laws.Tests.{leb_is, all_of_is}
use Rattle.theory.proofs.Laws.Listed.{kept_is}
use Rattle.theory.proofs.Laws.Climbs.{AtOrBelow}
use Rattle.theory.proofs.Laws.Fetching.{P_part, highest_greatest, none_high}
use Rattle.theory.proofs.Laws.Highest.{highest_found, highest_none}
use Rattle.theory.proofs.Laws.Topmost.{Topmost, best_part, topmost_is}
use Rattle.theory.proofs.Laws.Evicting.{best_greatest, best_none}
use Rattle.theory.proofs.Laws.Sides.{quiet_is}

-- ## Quiet

-- The test that no set to look at for rule u is saturated.
abbrev calm : Board → ℕ → Bool
calm b u =
    elim (b.cached u) [
      | true ↦ elim (of_parent false b.cached (b.parent u)) [ true ↦ true | false ↦ not (lt_z (pos 0) (gain b (best b entries u))) ]
      | false ↦ not (saturated b (P b u))
    ]

-- A cached rule with no cached parent is asked s, an uncached one t.
asked : (x y s t : Bool) →
    (elim x [ true ↦ elim y [ true ↦ true | false ↦ not s ] | false ↦ not t ] ≡ true) ↔
    ((x ≡ true → y ≡ false → s ≡ false) × (x ≡ false → t ≡ false))
asked true true s t = (
  λ h. ((λ p q. absurd (clash true refl q)), (λ p. absurd (clash true refl p))),
  λ h. refl,
)
asked true false s t = (
  λ h. ((λ p q. not_true s h), (λ p. absurd (clash true refl p))),
  λ h. rw (h.0 refl refl),
)
asked false y s t = (
  λ h. ((λ p. absurd (clash false p refl)), (λ p. not_true t h)),
  λ h. rw (h.1 refl),
)

calm_is : (b : Board) (u : ℕ) →
    (calm b u ≡ true) ↔
    ((u ∈ b.cached → of_parent false b.cached (b.parent u) ≡ false → lt_z (pos 0) (gain b (best b entries u)) ≡ false) ×
    (u ∉ b.cached → saturated b (P b u) ≡ false))
calm_is b u =
    asked (b.cached u) (of_parent false b.cached (b.parent u)) (lt_z (pos 0) (gain b (best b entries u)))
    (saturated b (P b u))

-- A board's test says that it is quiet.
pub quiet_decides : (b : Board) (rank : ℕ → ℕ) → Proper b rank → (quiet b ≡ true) ↔ Quiet b
quiet_decides b rank o = (there, back)
  where
    tests : (quiet b ≡ true) ↔ ((u : ℕ) → u < entries → u ∈ b.rules → calm b u ≡ true)
    tests = all_of_is entries b.rules (calm b)

    full : (u : ℕ) → (saturated b (P b u) ≡ true) ↔ Saturated b (P b u)
    full u = leb_is (size entries (P b u) * b.charge) (count b (P b u))

    there : quiet b ≡ true → Quiet b
    there h =
        let each : (u : ℕ) → u ∈ b.rules → calm b u ≡ true = λ u m. tests.0 h u (o.within u m) m in
        (quiet_is b o).1 (
          (λ u m f.
              let (l, n) = and_both (b.rules u) (not (b.cached u)) m in
              clash (saturated b (P b u)) ((full u).1 f) (((calm_is b u).0 (each u l)).1 (not_true (b.cached u) n))),
          (λ r t.
              let (l, c) = and_both (b.rules r) (b.cached r) t.0 in
              ((calm_is b r).0 (each r l)).0 c t.1),
        )

    back : Quiet b → quiet b ≡ true
    back q =
        let (low, still) = (quiet_is b o).0 q in
        tests.1
        (λ u k l.
        (calm_is b u).1 (
          (λ c top. still u ((cc), top)),
          (λ n.
              elim (in_or_out (λ u. saturated b (P b u)) u) [ inl f ↦ absurd (low u (rw (l, n)) ((full u).0 f)) | inr f ↦ f ]),
        ))

-- ## The choice

module _ (b : Board) {rank : ℕ → ℕ} (o : Proper b rank) {v : ℕ} (y : Ready b v) where
  kept_part : (g : Sign) (X : Rules) → PartOf g b X → kept X ≡ X
  kept_part g X x = kept_is X (λ i m. o.within i (side_rules g b i (x.inside i m)))

  fetching_is : v ∈ uncached b → (x : Option ℕ) → highest b entries v ≡ x → Chosen b (fetching b x)
  fetching_is m none e = none_high b o y m (highest_none b o v m e)
  fetching_is m (some u) e =
      let (r, h) = highest_found b o v u m e in
      rw (kept_part positive (P b u) (P_part b o u h.uncached_rule))
      (highest_greatest b o y m u h.uncached_rule r h.full h.alone)

  evicting_is : v ∈ side negative b → (r : ℕ) → Topmost b r × AtOrBelow b.parent v r → Chosen b (evicting b r)
  evicting_is m r (t, a) = go (lt_z (pos 0) (gain b (best b entries r))) refl
    where
      go : (x : Bool) → lt_z (pos 0) (gain b (best b entries r)) ≡ x →
          Chosen b (elim x [ true ↦ change negative (kept (best b entries r)) | false ↦ nothing ])
      go true g = rw (kept_part negative (best b entries r) (best_part b o r t)) (best_greatest b o y m r t a g)
      go false g = best_none b o y m r t a g

-- What the twin chooses at a paid request is what Tree Caching chooses.
pub chosen_is : (b : Board) (rank : ℕ → ℕ) → Proper b rank → (v : ℕ) → v ∈ b.rules → Ready b v → Chosen b (chosen paid b v)
unfolding chosen
chosen_is b rank o v m y =
    elim (in_or_out b.cached v) [
      | inl c ↦
          let d : v ∈ side negative b = rw (m, c) in
          rw (c, chosen) (evicting_is b o y d (topmost b entries v) (topmost_is b o v d))
      | inr c ↦ rw (c, chosen) (fetching_is b o y (rw (m, c)) (highest b entries v) refl)
    ]
