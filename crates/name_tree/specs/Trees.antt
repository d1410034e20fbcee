-- Numbers in a binary tree of entries, in lent memory: entry j stands at base + 8 * j, its number in four bytes, then its two children in two bytes each. Entry 0 is the root; a child of 0 is none.
-- Interface: variable_at, entry_of, Tree, Added; inside the crate child_at, Way, Written, Ended.
-- Assumes nothing.
use Rattle.std.specs.Prelude.{ℕ, ◌+◌, ◌*◌, ◌<◌, ◌≤◌, ◌/◌, ◌%◌, ◌^◌, ◌≡◌, List, length, Result, Ok, Err, eqb}
use Rattle.memory.specs.Lists.{first_from}
use Rattle.memory.specs.Fields.{u16_at, u32_at}
use Rattle.memory.specs.Frames.{KeptOutside}
use Rattle.name_tree.specs.declared.Open.{Open}

-- The number of entry j, and its child for bit b.
abbrev pub variable_at : List ℕ → ℕ → ℕ → ℕ
variable_at w base j = u32_at w (base + 8 * j)

abbrev pub child_at : List ℕ → ℕ → ℕ → ℕ → ℕ
child_at w base j b = u16_at w (base + 8 * j + 4 + 2 * b)

-- The first of n entries that has the number x; n if none has.
abbrev pub entry_of : List ℕ → ℕ → ℕ → ℕ → ℕ
entry_of w base n x = first_from 0 n (λ j. eqb (variable_at w base j) x)

-- From entry i with the bits of x left to entry j with those of y left, each step to the child for the lowest bit left.
pub data Way (w : List ℕ) (base : ℕ) : ℕ → ℕ → ℕ → ℕ → Type 0 where
  here : {i x : ℕ} → Way w base i x i x
  down : {i x j y : ℕ} → ¬ (child_at w base i (x % 2) ≡ 0) → Way w base (child_at w base i (x % 2)) (x / 2) j y → Way w base i x j y

-- The n entries make a tree.
pub record Tree (w : List ℕ) (base n : ℕ) : Type 0 where
  pub fits : base + 8 * n ≤ length w
  pub few : n < 2 ^ 16
  -- children stand later, and among the entries
  pub later : (j b : ℕ) → j < n → b < 2 → ¬ (child_at w base j b ≡ 0) → (j < child_at w base j b) × (child_at w base j b < n)
  -- each entry is on the way to its number, and no number is there twice
  pub reached : (j : ℕ) → j < n → (y : ℕ) × Way w base 0 (variable_at w base j) j y
  pub distinct : (i j : ℕ) → i < j → j < n → ¬ (variable_at w base i ≡ variable_at w base j)

-- The number x has become entry n; what stands outside the entries stays.
pub record Added (w : List ℕ) (base n x : ℕ) (w' : List ℕ) : Type 0 where
  pub tree : Tree w' base (n + 1)
  pub kept : (j : ℕ) → j < n → variable_at w' base j ≡ variable_at w base j
  pub new : variable_at w' base n ≡ x
  pub outside : KeptOutside base (base + 8 * (n + 1)) w w'

-- Entry n has the number x, and no children.
pub record Written (w : List ℕ) (base n x : ℕ) (w' : List ℕ) : Type 0 where
  pub new : variable_at w' base n ≡ x
  pub childless : (b : ℕ) → b < 2 → child_at w' base n b ≡ 0
  pub outside : KeptOutside (base + 8 * n) (base + 8 * n + 8) w w'

-- How far the way to x goes: to its entry, or to one without a child for the next bit, and then no entry has x.
pub record Missed (w : List ℕ) (base n x i b : ℕ) : Type 0 where
  pub inside : i < n
  pub bit : b < 2
  pub way : (y : ℕ) × ((y % 2 ≡ b) × Way w base 0 x i y)
  pub ends : child_at w base i b ≡ 0
  pub absent : (j : ℕ) → j < n → ¬ (variable_at w base j ≡ x)

abbrev pub Ended : List ℕ → ℕ → ℕ → ℕ → Result ℕ Open → Type 0
Ended w base n x (Ok j) = (j < n) × (variable_at w base j ≡ x)
Ended w base n x (Err o) = Missed w base n x o.entry o.bit
