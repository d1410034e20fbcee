-- Fold's work memory, one map for all stages: where each stage's bytes stand. The same numbers for code are in src/lib.rt.
-- Interface: the offsets, known_in, entries_in, MapRight.
-- Assumes nothing.
use Rattle.std.specs.Prelude.{ℕ, suc, ◌+◌, ◌-◌, ◌*◌, ◌≤◌, ◌/◌, ◌%◌, ◌^◌, ◌≡◌, cond, List, eqb}
use Rattle.memory.specs.Lists.{tabulate}
use Rattle.memory.specs.Fields.{byte_at, u16_at, u32_at}
use Rattle.ternary.specs.Ternary.{Ternary, lo, hi, X}
use Rattle.netlist.specs.Limits.{most_phases, most_original_rows, most_original_registers, most_folded_rows, fold_work_bytes, fold_clock_entries, last_state}
use Rattle.lasso.specs.ClockEntries.{ClockEntry}

-- ---- while the lasso is sought

-- Row i has a byte: its value in a step, later its period.
abbrev pub value_offset : ℕ → ℕ
value_offset i = 0 + i

-- The next-value literal of register j has two bytes from here on.
abbrev pub next_offset : ℕ → ℕ
next_offset j = value_offset most_original_rows + 2 * j

-- State t has 64 bytes from here on, four registers to a byte.
abbrev pub state_bytes : ℕ
state_bytes = most_original_registers / 4

abbrev pub state_offset : ℕ → ℕ
state_offset t = next_offset most_original_registers + state_bytes * t

-- ---- the unrolling: the images start the memory

-- The images of all rows in one phase, two bytes each.
abbrev pub phase_bytes : ℕ
phase_bytes = 2 * most_original_rows

-- ---- the compaction: a slot of two bytes for each row made

abbrev pub slots_start : ℕ
slots_start = 16384

abbrev pub slots_end : ℕ
slots_end = slots_start + 2 * most_folded_rows

-- ---- from the lasso on

-- Row i has two bytes from here on: the first is 0 if nothing is known of the row, and bit k of the second is its value in phase k.
abbrev pub known_offset : ℕ → ℕ
known_offset i = fold_work_bytes - 2 * most_original_rows + 2 * i

abbrev pub known_in : List ℕ → ℕ → ℕ → Ternary
known_in w i k = cond (eqb (byte_at w (known_offset i)) 0) X (cond (eqb (byte_at w (known_offset i + 1) / 2 ^ k % 2) 0) lo hi)

-- Clock entry e has eight bytes from here on: label in two, period, word, ones in four.
abbrev pub entry_offset : ℕ → ℕ
entry_offset e = known_offset 0 - 8 * fold_clock_entries + 8 * e

abbrev pub entry_in : List ℕ → ℕ → ClockEntry
entry_in w e = let p = entry_offset e in record { label = u16_at w p; period = byte_at w (p + 2); word = byte_at w (p + 3); ones = u32_at w (p + 4) }

-- The first n entries.
abbrev pub entries_in : List ℕ → ℕ → List ClockEntry
entries_in w n = tabulate n (entry_in w)

-- ---- what is in use at one time stands apart

pub record MapRight : Type 0 where
  -- the states end before the entries, which are put while states are read
  pub lasso : state_offset (suc last_state) ≤ entry_offset 0
  -- the images end before the slots, so that both end before the entries and the known values
  pub images : phase_bytes * most_phases ≤ slots_start
  pub slots : slots_end ≤ entry_offset 0
  -- the entries end where the known values start, and these end the memory
  pub entries : entry_offset fold_clock_entries ≡ known_offset 0
  pub known : known_offset most_original_rows ≡ fold_work_bytes
