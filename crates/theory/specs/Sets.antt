-- Sets of rules: what they hold, what they add up to, how they are listed.
--
-- In order: membership; one set from two; sums over the entries below a bound; the members as a list.
-- Not here: which entries are rules (`State`).
-- Assumes nothing.
use Rattle.std.specs.Prelude.{ℕ, zero, suc, ◌+◌, ◌<◌, Bool, true, false, not, ◌&&◌, ◌||◌, List, [], ◌∷◌, ◌++◌, ◌≡◌}

infix 4 ◌∈◌ ◌∉◌ ◌⊆◌
infixl 6 ◌∪◌ ◌∩◌ ◌∖◌
-- A set of rules, by its test of membership.
abbrev pub Rules : Type 0
Rules = ℕ → Bool

abbrev pub ◌∈◌ : ℕ → Rules → Type 0
i ∈ X = X i ≡ true

abbrev pub ◌∉◌ : ℕ → Rules → Type 0
i ∉ X = X i ≡ false

abbrev pub ◌⊆◌ : Rules → Rules → Type 0
X ⊆ Y = (i : ℕ) → i ∈ X → i ∈ Y

abbrev pub NonEmpty : Rules → Type 0
NonEmpty X = (i : ℕ) × (i ∈ X)

-- Every member stands below n.
abbrev pub Within : ℕ → Rules → Type 0
Within n X = (i : ℕ) → i ∈ X → i < n

abbrev pub ∅ : Rules
∅ i = false

abbrev pub ◌∪◌ : Rules → Rules → Rules
(X ∪ Y) i = X i || Y i

abbrev pub ◌∩◌ : Rules → Rules → Rules
(X ∩ Y) i = X i && Y i

abbrev pub ◌∖◌ : Rules → Rules → Rules
(X ∖ Y) i = X i && not (Y i)

-- f 0 + .. + f (n - 1).
unfoldable pub sum : ℕ → (ℕ → ℕ) → ℕ
sum zero f = zero
sum (suc n) f = sum n f + f n

-- x for a member, 0 for another.
abbrev pub if_in : Bool → ℕ → ℕ
if_in true x = x
if_in false x = 0

-- The sum of f over the members of X below n.
abbrev pub over : ℕ → Rules → (ℕ → ℕ) → ℕ
over n X f = sum n (λ i. if_in (X i) (f i))

-- How many members X has below n.
abbrev pub size : ℕ → Rules → ℕ
size n X = over n X (λ i. 1)

-- The members of X below n, ascending.
unfoldable pub listed : ℕ → Rules → List ℕ
listed zero X = []
listed (suc n) X = elim (X n) [ true ↦ listed n X ++ n ∷ [] | false ↦ listed n X ]
