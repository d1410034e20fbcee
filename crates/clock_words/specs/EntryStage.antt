-- The clock entries, as they are put in the work memory one after the other.
-- Interface: KnownRegisters, EntryPart.
-- Assumes nothing.
use Rattle.std.specs.Prelude.{ℕ, ◌+◌, ◌<◌, ◌≤◌, ◌≡◌, true, cond, List, [], ◌∷◌, ◌++◌, eqb, length}
use Rattle.std.proofs.lemmas.List.Edits.{sets}
use Rattle.std.specs.Int.Count.{ones}
use Rattle.memory.specs.Lists.{join_below}
use Rattle.memory.specs.Fields.{byte_at, u16_bytes, u32_bytes}
use Rattle.memory.specs.Frames.{KeptOutside}
use Rattle.netlist.specs.Limits.{fold_work_bytes, fold_clock_entries}
use Rattle.netlist.specs.Rows.{Row, row_at, label_of, is_register}
use Rattle.netlist.specs.FileFormat.{netlist_of}
use Rattle.netlist.specs.WellFormed.{FoldableRows}
use Rattle.lasso.specs.ClockEntries.{ClockEntry}
use Rattle.blockfile.specs.Ready.{Ready}
use Rattle.ternary_step.specs.StateMap.{registers_before}
use Rattle.fold_memory.specs.WorkMap.{known_offset, entry_offset, entries_in}

-- The eight bytes of an entry.
abbrev pub entry_bytes : ℕ → ℕ → ℕ → List ℕ
entry_bytes label period word = u16_bytes label ++ period ∷ word ∷ u32_bytes (ones word)

-- A row of which something is known is a register.
abbrev pub KnownRegisters : List Row → List ℕ → Type 0
KnownRegisters rows w = (x : ℕ) → x < length rows → (byte_at w (known_offset x) ≡ 0 → ⊥) → is_register (row_at rows x) ≡ true

-- What putting the entry of row i as entry e asks, and what it leaves.
pub record EntryReady (f : List ℕ) (n : ℕ) (w : List ℕ) (i e : ℕ) : Type 0 where
  pub ready : Ready FoldableRows f n
  pub within : i < n
  pub room : fold_work_bytes ≤ length w
  pub few : e ≤ registers_before (netlist_of f) i
  pub registers : KnownRegisters (netlist_of f) w

abbrev pub entry_put : List Row → List ℕ → ℕ → ℕ → List ℕ
entry_put rows w i e =
    cond (eqb (byte_at w (known_offset i)) 0) w
    (sets w (entry_offset e) (entry_bytes (label_of (row_at rows i)) (byte_at w (known_offset i)) (byte_at w (known_offset i + 1))))

-- The entry of row i by its known bytes, and the entries of the first i rows.
abbrev pub entry_from : List Row → List ℕ → ℕ → ClockEntry
entry_from rows w i = record { label = label_of (row_at rows i); period = byte_at w (known_offset i); word = byte_at w (known_offset i + 1); ones = ones (byte_at w (known_offset i + 1)) }

unfoldable pub entries_from : List Row → List ℕ → ℕ → List ClockEntry
entries_from rows w i = join_below i (λ x. cond (eqb (byte_at w (known_offset x)) 0) [] (entry_from rows w x ∷ []))

-- The e entries of the first i rows are put. w is the memory before, w' after.
pub record EntryPart (rows : List Row) (w w' : List ℕ) (i e : ℕ) : Type 0 where
  pub entries : entries_in w' e ≡ entries_from rows w i
  pub few : e ≤ registers_before rows i
  pub kept : KeptOutside (entry_offset 0) (entry_offset fold_clock_entries) w w'
