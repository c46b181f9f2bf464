-- The tree of rules: parents, what is below a rule, closed sets, and the order that makes it a tree.
-- Assumes nothing.
use Rattle.std.specs.Prelude.{ℕ, ◌<◌, ◌≡◌}
use Rattle.theory.specs.Sets.{Rules, ◌∈◌}

-- A rule's parent, if it has one.
pub data Parent : Type 0 where
  no_parent : Parent
  under : ℕ → Parent

abbrev pub Parents : Type 0
Parents = ℕ → Parent

-- `Below p j i`: rule j is below rule i, by one step or more.
pub data Below (p : Parents) : ℕ → ℕ → Type 0 where
  child : {j i : ℕ} → p j ≡ under i → Below p j i
  deeper : {j k i : ℕ} → p j ≡ under k → Below p k i → Below p j i

-- With each rule the set holds all rules below it. R is the set of all rules.
abbrev pub Closed : Rules → Parents → Rules → Type 0
Closed R p X = (i j : ℕ) → j ∈ R → i ∈ X → Below p j i → j ∈ X

-- A rank below n that falls from each rule to its parent, which is a rule: whoever climbs comes to an end.
pub record Ranked (n : ℕ) (R : Rules) (p : Parents) (rank : ℕ → ℕ) : Type 0 where
  pub below : (i : ℕ) → i ∈ R → rank i < n
  pub parent_rule : (i a : ℕ) → i ∈ R → p i ≡ under a → a ∈ R
  pub falls : (i a : ℕ) → i ∈ R → p i ≡ under a → rank a < rank i
