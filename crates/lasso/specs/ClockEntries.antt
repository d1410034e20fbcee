-- The clock list's entries: the scope paper, "Operations and lent memory".
-- Interface: ClockEntry, clock_entries; EntryWords and ClockListWords say the same in the paper's words.
-- Assumes nothing.
use Rattle.std.specs.Prelude.{ℕ, zero, suc, ◌+◌, ◌*◌, ◌<◌, ◌/◌, ◌%◌, ◌^◌, ◌≡◌, true, cond, List, [], ◌∷◌, length, get_or}
use Rattle.memory.specs.Lists.{join_below, tabulate, count_if}
use Rattle.ternary.specs.Ternary.{Ternary, hi, equal3, is_known}
use Rattle.netlist.specs.Rows.{Row, row_at, is_register, label_of}
use Rattle.lasso.specs.LassoSearch.{Lasso}
use Rattle.lasso.specs.Generators.{state_value, is_used, clock_value, IsPeriod}

-- 1 for the value 1, and 0 for 0 and X.
abbrev pub value_bit : Ternary → ℕ
value_bit v = cond (equal3 v hi) 1 0

-- Bit k of the word is the value at phase k, k below n.
unfoldable pub clock_word : (ℕ → Ternary) → ℕ → ℕ
clock_word f zero = 0
clock_word f (suc k) = clock_word f k + value_bit (f k) * 2 ^ k

-- How many of a word's lowest n bits are set.
unfoldable pub bits_set : ℕ → ℕ → ℕ
bits_set word zero = 0
bits_set word (suc k) = bits_set word k + word / 2 ^ k % 2

pub record ClockEntry : Type 0 where
  pub label : ℕ
  pub period : ℕ
  pub word : ℕ
  pub ones : ℕ

-- The entry of row i.
unfoldable pub clock_entry : List Row → List ℕ → ℕ → ℕ → ClockEntry
clock_entry rows ps N i =
    let word = clock_word (clock_value rows ps N i) N in
    record { label = label_of (row_at rows i); period = get_or ps i 0; word = word; ones = bits_set word N }

-- One entry for each used generator, in row order.
unfoldable pub clock_entries : List Row → List ℕ → ℕ → List ClockEntry
clock_entries rows ps N = join_below (length rows) (λ i. cond (is_used N (get_or ps i 0)) (clock_entry rows ps N i ∷ []) [])

-- ---- in the paper's words

-- e is the entry of a used generator: row i is a register, whose label and period it has, and the period divides N. Bit k of the word is the value at phase k, k below N, which is never X; no other bit is set. Ones is how many of these phases have the value 1.
pub record EntryWords (rows : List Row) (z : Lasso) (N i : ℕ) (e : ClockEntry) : Type 0 where
  pub of-register : is_register (row_at rows i) ≡ true
  pub label : e.label ≡ label_of (row_at rows i)
  pub period : IsPeriod rows z i e.period
  pub divides : N % e.period ≡ 0
  pub known : (k : ℕ) → k < N → is_known (state_value rows i (k % e.period)) ≡ true
  pub bits : (k : ℕ) → k < N → e.word / 2 ^ k % 2 ≡ value_bit (state_value rows i (k % e.period))
  pub no-other-bit : e.word < 2 ^ N
  pub ones : e.ones ≡ count_if (λ v. equal3 v hi) (tabulate N (λ k. state_value rows i (k % e.period)))

-- Entry j; past the end one of zeros.
abbrev pub entry_at : List ClockEntry → ℕ → ClockEntry
entry_at entries j = get_or entries j (record { label = 0; period = 0; word = 0; ones = 0 })

-- One entry per used generator, in row order: entry j is that of row `row j`, and every register with a period that divides N has one.
pub record ClockListWords (rows : List Row) (z : Lasso) (N : ℕ) (entries : List ClockEntry) : Type 0 where
  pub row : ℕ → ℕ
  pub within : (j : ℕ) → j < length entries → row j < length rows
  pub ascending : (j k : ℕ) → j < k → k < length entries → row j < row k
  pub entry : (j : ℕ) → j < length entries → EntryWords rows z N (row j) (entry_at entries j)
  pub complete : (i p : ℕ) → i < length rows → is_register (row_at rows i) ≡ true → IsPeriod rows z i p → N % p ≡ 0 → (j : ℕ) × (j < length entries) × (row j ≡ i)
