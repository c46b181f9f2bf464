-- Two results that a contract allows are one.
--
-- In order: a fresh state; an entry's parent, flag, counter and mark.
-- Assumes nothing.
use Rattle.std.specs.Prelude.{ℕ, Bool, true, false, List, Option, Some, None, ◌↔◌, ◌≡◌, refl, IsTrue}
use Rattle.std.proofs.Common.{sym, ◌∙◌, arith}
use Rattle.std.proofs.lemmas.List.{ext_get_or}
use Rattle.theory.specs.Sets.{◌∈◌}
use Rattle.state.specs.Columns.{read, told_parent, told_mark, Zeros, Fresh}
use Rattle.state.specs.declared.state.State.{State}
use Rattle.state.specs.declared.table.Table.{Table}

-- ## A fresh state

one_column : (l k : List ℕ) → Zeros l → Zeros k → l ≡ k
one_column l k z y =
    ext_get_or 0 l k (z.long ∙ sym y.long) (λ i b. z.each i (omega (arith, b, z.long)) ∙ sym (y.each i (omega (arith, b, z.long))))

-- The state of a table and four columns.
abbrev made : Table → List ℕ → List ℕ → List ℕ → List ℕ → State
made t cached counter kind round = record { table = t; cached = cached; counter = counter; kind = kind; round = round }

pub one_fresh : (t : Table) (s r : State) → Fresh t s → Fresh t r → s ≡ r
one_fresh t s r f g =
    let table : s.table ≡ r.table = f.same_table ∙ sym g.same_table in
    let cached : s.cached ≡ r.cached = one_column s.cached r.cached f.no_cached g.no_cached in
    let counter : s.counter ≡ r.counter = one_column s.counter r.counter f.no_counter g.no_counter in
    let kind : s.kind ≡ r.kind = one_column s.kind r.kind f.no_kind g.no_kind in
    let round : s.round ≡ r.round = one_column s.round r.round f.no_round g.no_round in
    let whole : made s.table s.cached s.counter s.kind s.round ≡ made r.table r.cached r.counter r.kind r.round = cc in
    whole

-- ## An entry

pub one_parent : (s : State) (i : ℕ) (a b : Option ℕ) → told_parent a ≡ (read s).parent i → told_parent b ≡ (read s).parent i → a ≡ b
one_parent s i None None h k = refl
one_parent s i (Some x) (Some y) h k = cc (h, k)
one_parent s i None (Some y) h k = cc (h, k)
one_parent s i (Some x) None h k = cc (h, k)

pub one_flag : (s : State) (i : ℕ) (a b : Bool) → IsTrue a ↔ (i ∈ (read s).cached) → IsTrue b ↔ (i ∈ (read s).cached) → a ≡ b
one_flag s i true true h k = refl
one_flag s i false false h k = refl
one_flag s i true false h k = cc (k.1 (h.0 refl))
one_flag s i false true h k = cc (h.1 (k.0 refl))

pub one_counter : (s : State) (i a b : ℕ) → a ≡ (read s).counter i → b ≡ (read s).counter i → a ≡ b
one_counter s i a b h k = h ∙ sym k

pub one_mark : (s : State) (i : ℕ) (a b : Option ℕ) → told_mark a ≡ (read s).mark i → told_mark b ≡ (read s).mark i → a ≡ b
one_mark s i None None h k = refl
one_mark s i (Some x) (Some y) h k = cc (h, k)
one_mark s i None (Some y) h k = cc (h, k)
one_mark s i (Some x) None h k = cc (h, k)
