-- A slot for each row: its mark, and the list of the rows found so far.
-- Assumes nothing.
use Rattle.std.specs.Prelude.{ℕ, ◌%◌, ◌^◌, ◌<◌, ◌≤◌, ◌≡◌, ◌≢◌, Bool, true, List, leb}
use Rattle.memory.specs.Lists.{tabulate, count_if}
use Rattle.memory.specs.Slots.{slot_at}
use Rattle.netlist.specs.WellFormed.{EachBelow}
use Rattle.netlist.specs.Rows.{fanin_nodes}
use Rattle.abstraction.specs.Compaction.{is_cone_root, mark_all}
use Rattle.blockfile.specs.RowsStand.{held_row}

-- Each of the first n rows of f names rows below n.
abbrev pub HeldInside : List ℕ → ℕ → Type 0
HeldInside f n = (j : ℕ) → j < n → EachBelow n (fanin_nodes (held_row f j))

-- Bit 15 of slot j is the mark of row j.
abbrev pub mark_at : List ℕ → ℕ → Bool
mark_at w j = leb (2 ^ 15) (slot_at w j)

abbrev pub marks_in : List ℕ → ℕ → List Bool
marks_in w n = tabulate n (mark_at w)

-- The other bits of slot k are the row that was found as number k.
abbrev pub found_at : List ℕ → ℕ → ℕ
found_at w k = slot_at w k % 2 ^ 15

-- Row j is marked besides.
pub record RowMarked (w : List ℕ) (j : ℕ) (w' : List ℕ) : Type 0 where
  pub is : mark_at w' j ≡ true
  pub others : (x : ℕ) → x ≢ j → mark_at w' x ≡ mark_at w x
  pub founds : (x : ℕ) → found_at w' x ≡ found_at w x

-- Row r is found as number k.
pub record RowListed (w : List ℕ) (k r : ℕ) (w' : List ℕ) : Type 0 where
  pub is : found_at w' k ≡ r
  pub others : (x : ℕ) → x ≢ k → found_at w' x ≡ found_at w x
  pub marks : (x : ℕ) → mark_at w' x ≡ mark_at w x

-- Of n rows the t found ones are those that are marked.
pub record Found (w : List ℕ) (n t : ℕ) : Type 0 where
  pub counted : t ≡ count_if (λ b. b) (marks_in w n)
  pub marked : (k : ℕ) → k < t → (found_at w k < n) × (mark_at w (found_at w k) ≡ true)
  pub listed : (j : ℕ) → j < n → mark_at w j ≡ true → (k : ℕ) × (k < t) × (found_at w k ≡ j)

-- The rows js were found besides: those of them that are new follow the t that were there.
pub record Pushed (w : List ℕ) (n t : ℕ) (js w' : List ℕ) (t' : ℕ) : Type 0 where
  pub found : Found w' n t'
  pub more : t ≤ t'
  pub before : (k : ℕ) → k < t → found_at w' k ≡ found_at w k
  pub marks : marks_in w' n ≡ mark_all (marks_in w n) js

-- Of the first n rows of f the roots are marked, and no others.
abbrev pub RootsMarked : List ℕ → List ℕ → ℕ → Type 0
RootsMarked f w n = (j : ℕ) → j < n → mark_at w j ≡ is_cone_root (held_row f j)
