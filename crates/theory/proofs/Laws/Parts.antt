-- What valid changesets of the two signs share: each is a part of its side, closed under one relation.
--
-- In order: parts; one part from two; the two sides; valid changesets are the parts of a side.
-- Assumes nothing.
use Rattle.std.specs.Prelude.{ℕ, ◌<◌, ◌≤◌, false, not, ◌≡◌}
use Rattle.std.proofs.Common.{inl, inr}
use Rattle.theory.specs.Limits.{entries}
use Rattle.theory.specs.Sets.{Rules, ◌∈◌, ◌∉◌, ◌⊆◌, ◌∪◌, ◌∩◌, ◌∖◌, Within, NonEmpty}
use Rattle.theory.specs.Tree.{Parents, Below, child, deeper, Closed, Ranked}
use Rattle.theory.specs.Changes.{Sign, positive, negative, Board, Valid}
use Rattle.theory.proofs.Laws.Sums.{in_or_out, clash, and_both, or_one, not_true}

-- A non-empty set of members of D that holds, with x, each member y of D with R x y.
pub record Part (R : ℕ → ℕ → Type 0) (D X : Rules) : Type 0 where
  pub some : NonEmpty X
  pub inside : X ⊆ D
  pub onward : (x y : ℕ) → x ∈ X → y ∈ D → R x y → y ∈ X

module _ {R : ℕ → ℕ → Type 0} where
  pub part_union : {D X Y : Rules} → Part R D X → Part R D Y → Part R D (X ∪ Y)
  part_union {D} {X} {Y} a b =
      record {
        some = let m : a.some.0 ∈ X = a.some.1 in (a.some.0, cc);
        inside = λ i m. elim (or_one (X i) (Y i) m) [ inl h ↦ a.inside i h | inr h ↦ b.inside i h ];
        onward =
            λ x y m d r.
            elim (or_one (X x) (Y x) m) [
              | inl h ↦ let k : y ∈ X = a.onward x y h d r in cc
              | inr h ↦ let k : y ∈ Y = b.onward x y h d r in elim (in_or_out X y) [ inl k ↦ cc | inr j ↦ cc ]
            ];
      }

  pub part_meet : {D X Y : Rules} → Part R D X → Part R D Y → NonEmpty (X ∩ Y) → Part R D (X ∩ Y)
  part_meet {D} {X} {Y} a b e =
      record {
        some = e;
        inside = λ i m. a.inside i (and_both (X i) (Y i) m).0;
        onward =
            λ x y m d r.
            let k : y ∈ X = a.onward x y (and_both (X x) (Y x) m).0 d r in
            let j : y ∈ Y = b.onward x y (and_both (X x) (Y x) m).1 d r in
            cc;
      }

  -- A part of what X leaves of D, joined to X.
  pub part_join : {D E X Z : Rules} → Part R D X → Part R E Z → E ⊆ D →
      ((y : ℕ) → y ∈ D → y ∉ X → y ∈ E) → Part R D (X ∪ Z)
  part_join {D} {E} {X} {Z} a b s t =
      record {
        some = let m : a.some.0 ∈ X = a.some.1 in (a.some.0, cc);
        inside = λ i m. elim (or_one (X i) (Z i) m) [ inl h ↦ a.inside i h | inr h ↦ s i (b.inside i h) ];
        onward =
            λ x y m d r.
            elim (in_or_out X y) [
              | inl k ↦ cc
              | inr k ↦
                  elim (or_one (X x) (Z x) m) [
                    | inl h ↦ absurd (clash (X y) (a.onward x y h d r) k)
                    | inr h ↦ let j : y ∈ Z = b.onward x y h (t y d k) r in cc
                  ]
            ];
      }

  -- A part, cut down to a smaller field.
  pub part_cut : {D E Z : Rules} → Part R E Z → D ⊆ E → NonEmpty (Z ∩ D) → Part R D (Z ∩ D)
  part_cut {D} {E} {Z} b s e =
      record {
        some = e;
        inside = λ i m. (and_both (Z i) (D i) m).1;
        onward =
            λ x y m d r.
            let j : y ∈ Z = b.onward x y (and_both (Z x) (D x) m).0 (s y d) r in
            cc;
      }

-- ## The two signs

-- The rules of R outside the cache C, or those in it.
abbrev pub half : Sign → Rules → Rules → Rules
half positive R C = R ∖ C
half negative R C = R ∩ C

-- The rules that a changeset of a sign is made of.
abbrev pub side : Sign → Board → Rules
side g b = half g b.rules b.cached

-- What a changeset of a sign has to hold besides x.
abbrev pub toward : Sign → Parents → ℕ → ℕ → Type 0
toward positive p x y = Below p y x
toward negative p x y = Below p x y

abbrev pub PartOf : Sign → Board → Rules → Type 0
PartOf g b X = Part (toward g b.parent) (side g b) X

-- What every law asks of a board: rules that stand in the entries and in a tree, a closed cache of rules, a charge of at least 1.
pub record Proper (b : Board) (rank : ℕ → ℕ) : Type 0 where
  pub within : Within entries b.rules
  pub ranked : Ranked entries b.rules b.parent rank
  pub held : (i : ℕ) → i < entries → i ∈ b.cached → i ∈ b.rules
  pub closed : Closed b.rules b.parent b.cached
  pub some_charge : 1 ≤ b.charge

pub side_rules : (g : Sign) (b : Board) → side g b ⊆ b.rules
side_rules positive b i m = (and_both (b.rules i) (not (b.cached i)) m).0
side_rules negative b i m = (and_both (b.rules i) (b.cached i) m).0

-- Whatever a rule is below is a rule.
pub above_rule : {n : ℕ} {R : Rules} {p : Parents} {j i : ℕ} {rank : ℕ → ℕ} → Ranked n R p rank → j ∈ R → Below p j i → i ∈ R
above_rule {j = j} {i = i} r m (child e) = r.parent_rule j i m e
above_rule {j = j} {i = i} r m (deeper {k = k} e s) = above_rule r (r.parent_rule j k m e) s

module _ (b : Board) {rank : ℕ → ℕ} (o : Proper b rank) where
  pub valid_part : (g : Sign) (X : Rules) → Valid g b X → PartOf g b X
  valid_part positive X v =
      record {
        some = v.some;
        inside = λ i m. rw (v.within i m, v.uncached i m);
        onward =
            λ x y m d r.
            let (l, n) = and_both (b.rules y) (not (b.cached y)) d in
            let u : b.cached y ≡ false = not_true (b.cached y) n in
            let k : x ∈ (b.cached ∪ X) = elim (in_or_out b.cached x) [ inl k ↦ cc | inr k ↦ cc ] in
            let j : y ∈ (b.cached ∪ X) = v.closed x y l k r in
            cc;
      }
  valid_part negative X v =
      record {
        some = v.some;
        inside = λ i m. rw (v.within i m, v.cached i m);
        onward =
            λ x y m d r.
            let (l, c) = and_both (b.rules y) (b.cached y) d in
            elim (in_or_out X y) [
              | inl k ↦ k
              | inr k ↦
                  absurd
                  (clash (X x) m
                  (not_true (X x) (and_both (b.cached x) (not (X x)) (v.closed y x (v.within x m) (cc) r)).1))
            ];
      }

  pub part_valid : (g : Sign) (X : Rules) → PartOf g b X → Valid g b X
  part_valid positive X v =
      record {
        some = v.some;
        within = λ i m. side_rules positive b i (v.inside i m);
        uncached = λ i m. not_true (b.cached i) (and_both (b.rules i) (not (b.cached i)) (v.inside i m)).1;
        closed =
            λ i j l m r.
            elim (in_or_out b.cached j) [
              | inl k ↦ cc
              | inr k ↦
                  elim (or_one (b.cached i) (X i) m) [
                    | inl h ↦ absurd (clash (b.cached j) (o.closed i j l h r) k)
                    | inr h ↦ let q : j ∈ X = v.onward i j h (rw (l, k)) r in cc
                  ]
            ];
      }
  part_valid negative X v =
      record {
        some = v.some;
        within = λ i m. side_rules negative b i (v.inside i m);
        cached = λ i m. (and_both (b.rules i) (b.cached i) (v.inside i m)).1;
        closed =
            λ i j l m r.
            let (ci, n) = and_both (b.cached i) (not (X i)) m in
            let li : i ∈ b.rules = above_rule o.ranked l r in
            let cj : j ∈ b.cached = o.closed i j l ci r in
            elim (in_or_out X j) [
              | inl k ↦ absurd (clash (X i) (v.onward j i k (rw (li, ci)) r) (not_true (X i) n))
              | inr k ↦ cc
            ];
      }
