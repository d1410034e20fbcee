-- The clock entries: what is put is read again, the entries before it stay, and all of them are the definition's.
-- Assumes nothing.
use Prim.Native.Nat.{ℕ, zero, suc, ◌+◌, ◌<◌, ◌≤◌, ◌/◌, ◌%◌, ◌^◌}
use mathlib.Core.Path.{◌≡◌, refl, sym, ap, ap₂, ◌∙◌, subst}
use mathlib.Core.Bool.{Bool, true, false, cond, true≢false}
use mathlib.Core.List.{List, [], ◌∷◌, ◌++◌, append-nil}
use native.Mathlib.Omega.{arith}
use native.Mathlib.Numerals.{add-one}
use native.Mathlib.Nat.{div-one, div-div-eq-div-mul, div-eq_of_lt, pow-suc, zero-add, add_assoc, add-zero}
use borrow.Author.Tests.{eq-eqb, ne_eqb, eqb-true}
use lib.Dec.{eqb}
use lib.Count.{ones, ones_step, ones-le}
use lib.ListN.{length, set}
use lib.Seq.{sets}
use Rattle.memory.specs.Fields.{IsBytes, byte_at, u16_bytes, u32_bytes}
use Rattle.memory.specs.Frames.{KeptOutside}
use Rattle.memory.proofs.ListLaws.{tabulate-length, join-cong, tabulate-cong, count_next, count-place, count-some-le}
use Rattle.memory.proofs.FieldLaws.{u16-read, u32-read}
use Rattle.memory.proofs.BufferLaws.{sets-join}
use Rattle.memory.proofs.FrameLaws.{kept-none, kept-join, kept_sets, sets-at}
use Rattle.netlist.specs.Limits.{most_phases, fold_work_bytes, fold_clock_entries}
use Rattle.netlist.specs.Rows.{Row, row_at, label_of, is_register, decode_row, constant}
use Rattle.netlist.specs.FileFormat.{read_fields, netlist_of}
use Rattle.netlist.proofs.FileLaws.{file-labels}
use Rattle.netlist.specs.WellFormed.{FoldableRows}
use Rattle.lasso.specs.Generators.{periods_of, is_used, used_count, clock_value}
use Rattle.lasso.specs.ClockEntries.{ClockEntry, clock_word, bits_set, clock_entry, clock_entries}
use Rattle.lasso.proofs.ClockLaws.{word_lt, entries-count}
use Rattle.lasso.proofs.GeneratorLaws.{periods-length}
use Rattle.blockfile.specs.RowCode.{fields_in}
use Rattle.blockfile.specs.declared.Fields.{Fields}
use Rattle.blockfile.specs.Ready.{Ready}
use Rattle.ternary_step.specs.StateMap.{registers_before, AtRow}
use Rattle.ternary_step.proofs.StepLaws.{row_within, number_small, register-is, register-at}
use Rattle.period_finder.specs.PeriodStage.{lasso_in}
use Rattle.fold_memory.specs.WorkMap.{known_offset, entry_offset, entry_in, entries_in}
use Rattle.clock_words.specs.KnownStage.{period_at, known_bytes, KnownPart}
use Rattle.clock_words.specs.EntryStage.{entry_bytes, KnownRegisters, EntryReady, entry_put, entry_from, entries_from, EntryPart}
use Rattle.clock_words.proofs.KnownLaws.{known-first, is-register, positive}

-- ---- the set bits

ones_split : (w k : ℕ) → ones w ≡ bits_set w k + ones (w / 2 ^ k)
unfolding bits_set
ones_split w zero = sym (zero-add (ones (w / 1)) ∙ ap ones (div-one w))
ones_split w (suc k) =
    ones_split w k
    ∙ ap (λ (n : ℕ). bits_set w k + n) (ones_step (w / 2 ^ k) ∙ ap (λ (n : ℕ). w / 2 ^ k % 2 + ones n) (div-div-eq-div-mul w (2 ^ k) 2 ∙ ap (λ (n : ℕ). w / n) (sym (pow-suc 2 k))))
    ∙ sym (add_assoc (bits_set w k) (w / 2 ^ k % 2) (ones (w / 2 ^ suc k)))

-- The language's count is that of the lowest n bits, if there are no others.
ones-bits : (w n : ℕ) → w < 2 ^ n → ones w ≡ bits_set w n
unfolding ones
ones-bits w n h = ones_split w n ∙ ap (λ (m : ℕ). bits_set w n + ones m) (div-eq_of_lt h) ∙ add-zero (bits_set w n)

-- ---- one entry

-- Its four fields put one after the other are its eight bytes.
pub entry-put : (w w₁ w₂ : List ℕ) (p label period word : ℕ) → w₁ ≡ sets w p (u16_bytes label) → w₂ ≡ sets (set (set w₁ (p + 2) period) (p + 3) word) (p + 4) (u32_bytes (ones word)) → w₂ ≡ sets w p (entry_bytes label period word)
entry-put w w₁ w₂ p label period word e h =
    let a : p + 3 ≡ suc (p + 2) = omega arith in
    let b : p + 4 ≡ suc (suc (p + 2)) = omega arith in
    h ∙ rw (a, b) (ap (λ (l : List ℕ). sets l (p + 2) (period ∷ word ∷ u32_bytes (ones word))) e) ∙ sets-join (u16_bytes label) (period ∷ word ∷ u32_bytes (ones word)) w p

-- It is read again.
entry_read : (w : List ℕ) (e label period word : ℕ) → label < 2 ^ 16 → word < 2 ^ 8 → entry_offset e + 8 ≤ length w
    → entry_in (sets w (entry_offset e) (entry_bytes label period word)) e ≡ record { label = label; period = period; word = word; ones = ones word }
entry_read w e label period word a b room =
    let w' = sets w (entry_offset e) (entry_bytes label period word) in
    let at : (d : ℕ) → d < 8 → byte_at w' (entry_offset e + d) ≡ byte_at (entry_bytes label period word) d = λ d h. sets-at (entry_bytes label period word) w (entry_offset e) d h room in
    let first : byte_at w' (entry_offset e) ≡ byte_at (entry_bytes label period word) 0 = ap (byte_at w') (sym (add-zero (entry_offset e))) ∙ at 0 (omega arith) in
    let small : ones word < 2 ^ 32 = omega (arith, ones-le 8 word b) in
    same (u16-read w' (entry_offset e) label a first (at 1 (omega arith))) (at 2 (omega arith)) (at 3 (omega arith))
    (u32-read w' (entry_offset e + 4) (ones word) small (λ d h.
    let q : entry_offset e + 4 + d ≡ entry_offset e + (4 + d) = omega arith in
    let s : 4 + d ≡ suc (suc (suc (suc d))) = omega arith in
    ap (byte_at w') q ∙ at (4 + d) (omega arith) ∙ rw s refl))
  where
    same : {l l' p p' x x' n n' : ℕ} → l ≡ l' → p ≡ p' → x ≡ x' → n ≡ n' → ◌≡◌ {A = ClockEntry} (record { label = l; period = p; word = x; ones = n }) (record { label = l'; period = p'; word = x'; ones = n' })
    same p q s t = cc (p, q, s, t)

-- It is read from its eight bytes.
pub entry_kept : (w w' : List ℕ) (e : ℕ) → ((x : ℕ) → entry_offset e ≤ x → x < entry_offset e + 8 → byte_at w' x ≡ byte_at w x) → entry_in w' e ≡ entry_in w e
entry_kept w w' e s =
    let p = entry_offset e in
    rw (
      s p (omega arith) (omega arith),
      s (p + 1) (omega arith) (omega arith),
      s (p + 2) (omega arith) (omega arith),
      s (p + 3) (omega arith) (omega arith),
      s (p + 4) (omega arith) (omega arith),
      s (p + 4 + 1) (omega arith) (omega arith),
      s (p + 4 + 2) (omega arith) (omega arith),
      s (p + 4 + 2 + 1) (omega arith) (omega arith),
    )
    refl

-- ---- lists of entries

module _ (rows : List Row) (w : List ℕ) (i : ℕ) where
  from-none : byte_at w (known_offset i) ≡ 0 → entries_from rows w (i + 1) ≡ entries_from rows w i
  unfolding entries_from
  from-none e = rw (add-one i, e) (append-nil _)

  from_more : (byte_at w (known_offset i) ≡ 0 → ⊥) → entries_from rows w (i + 1) ≡ entries_from rows w i ++ (entry_from rows w i ∷ [])
  unfolding entries_from
  from_more e = rw (add-one i, ne_eqb (byte_at w (known_offset i)) 0 e) refl

pub entries-start : (rows : List Row) (w : List ℕ) → EntryPart rows w w 0 0
unfolding entries_from
entries-start rows w = record { entries = refl; few = omega arith; kept = kept-none (entry_offset 0) (entry_offset fold_clock_entries) w }

pub entries-all : (rows : List Row) (w w' : List ℕ) (i n e : ℕ) → i ≤ n → n ≤ i → EntryPart rows w w' i e → EntryPart rows w w' n e
entries-all rows w w' i n e a b E = let q : i ≡ n = omega arith in subst (λ (k : ℕ). EntryPart rows w w' k e) q E

module _ {f : List ℕ} {n : ℕ} (R : Ready FoldableRows f n) {w w' : List ℕ} {i e : ℕ} (within : i < n) (room : fold_work_bytes ≤ length w) (registers : KnownRegisters (netlist_of f) w) (E : EntryPart (netlist_of f) w w' i e) where
  -- The known bytes stay.
  known-stay : (x : ℕ) → known_offset 0 ≤ x → byte_at w' x ≡ byte_at w x
  known-stay x h = E.kept.after x (omega arith)

  pub entry-asks : EntryReady f n w' i e
  entry-asks =
      let k = E.kept.long in
      record {
        ready = R;
        within = within;
        room = omega arith;
        few = E.few;
        registers = λ x h z. registers x h (λ q. z (known-stay (known_offset x) (omega arith) ∙ q));
      }

  inside : i < length (netlist_of f)
  inside = let c = R.file.count in omega arith

  none_more : byte_at w (known_offset i) ≡ 0 → EntryPart (netlist_of f) w w' (i + 1) e
  none_more z = record {
    entries = E.entries ∙ sym (from-none (netlist_of f) w i z);
    few = let s = count_next is_register constant (netlist_of f) i inside in let h = E.few in omega arith;
    kept = E.kept;
  }

  -- The memory with the entry of row i put.
  abbrev put : List ℕ
  put = sets w' (entry_offset e) (entry_bytes (label_of (row_at (netlist_of f) i)) (byte_at w (known_offset i)) (byte_at w (known_offset i + 1)))

  module _ (known : byte_at w (known_offset i) ≡ 0 → ⊥) (labels : IsBytes f) (bytes : IsBytes w) where
    one_more : registers_before (netlist_of f) (i + 1) ≡ registers_before (netlist_of f) i + 1
    one_more = count_next is_register constant (netlist_of f) i inside ∙ ap (λ (b : Bool). registers_before (netlist_of f) i + cond b 1 0) (registers i inside known)

    some_more : EntryPart (netlist_of f) w put (i + 1) (e + 1)
    some_more =
        let vs = entry_bytes (label_of (row_at (netlist_of f) i)) (byte_at w (known_offset i)) (byte_at w (known_offset i + 1)) in
        let h = E.few in
        let s = one_more in
        let b = (count-some-le is_register constant (netlist_of f) (i + 1)).1 in
        let most = R.rows.registers in
        let k = E.kept.long in
        let K : KeptOutside (entry_offset e) (entry_offset e + 8) w' put = kept_sets (entry_offset e) (entry_offset e + 8) vs w' (entry_offset e) (omega arith) (omega arith) in
        let old : entries_in put e ≡ entries_in w' e = tabulate-cong e (entry_in put) (entry_in w') (λ x b. entry_kept w' put x (λ y c d. K.before y (omega arith))) in
        let new : entry_in put e ≡ entry_from (netlist_of f) w i =
        entry_read w' e (label_of (row_at (netlist_of f) i)) (byte_at w (known_offset i)) (byte_at w (known_offset i + 1)) (file-labels f labels i inside) (bytes (known_offset i + 1)) (omega arith) in
        record {
          entries = rw (add-one e) (ap₂ (λ xs x. xs ++ (x ∷ [])) (old ∙ E.entries) new) ∙ sym (from_more (netlist_of f) w i known);
          few = let s = one_more in omega arith;
          kept = kept-join (entry_offset 0) (entry_offset fold_clock_entries) w w' put E.kept K (omega arith) (omega arith) (omega arith) (omega arith);
        }

  pub entry_more : IsBytes f → IsBytes w → (w'' : List ℕ) (r : ℕ) → r ≡ e + cond (eqb (byte_at w' (known_offset i)) 0) 0 1 → w'' ≡ entry_put (netlist_of f) w' i e → EntryPart (netlist_of f) w w'' (i + 1) r
  entry_more labels bytes w'' r p q = by-test (eqb (byte_at w (known_offset i)) 0) refl
    where
      first : byte_at w' (known_offset i) ≡ byte_at w (known_offset i)
      first = known-stay (known_offset i) (omega arith)

      second : byte_at w' (known_offset i + 1) ≡ byte_at w (known_offset i + 1)
      second = known-stay (known_offset i + 1) (omega arith)

      by-test : (b : Bool) → eqb (byte_at w (known_offset i)) 0 ≡ b → EntryPart (netlist_of f) w w'' (i + 1) r
      by-test true z =
          let a : r ≡ e = p ∙ rw (first, z) (omega arith) in
          let b : w'' ≡ w' = q ∙ rw (first, z) refl in
          rw (a, b) (none_more (eqb-true (byte_at w (known_offset i)) 0 z))
      by-test false z =
          let a : r ≡ e + 1 = p ∙ rw (first, z) refl in
          let known : byte_at w (known_offset i) ≡ 0 → ⊥ = λ (c : byte_at w (known_offset i) ≡ 0). true≢false (sym (eq-eqb (byte_at w (known_offset i)) 0 c) ∙ z) in
          let b : w'' ≡ put = q ∙ rw (first, second, z) refl in
          subst (λ (k : ℕ). EntryPart (netlist_of f) w w'' (i + 1) k) (sym a) (subst (λ (v : List ℕ). EntryPart (netlist_of f) w v (i + 1) (e + 1)) (sym b) (some_more known labels bytes))

-- ---- the entry of row i

-- A row without an entry: nothing is put.
pub none-counted : (w : List ℕ) (i e : ℕ) → byte_at w (known_offset i) ≡ 0 → e ≡ e + cond (eqb (byte_at w (known_offset i)) 0) 0 1
none-counted w i e z = rw z (omega arith)

pub none-put : (rows : List Row) (w : List ℕ) (i e : ℕ) → byte_at w (known_offset i) ≡ 0 → w ≡ entry_put rows w i e
none-put rows w i e z = rw z refl

module _ {f : List ℕ} {n : ℕ} {w : List ℕ} {i e : ℕ} (R : EntryReady f n w i e) where
  pub entry_row : AtRow f n i (registers_before (netlist_of f) i)
  entry_row = record { ready = R.ready; within = R.within; number = refl }

  pub entry-fits : e + 1 < 2 ^ 64
  entry-fits = let h = R.few in let s = number_small entry_row in omega arith

  module _ (known : byte_at w (known_offset i) ≡ 0 → ⊥) where
    pub entry-few : e < fold_clock_entries
    entry-few =
        let h = R.few in
        let l = row_within entry_row in
        omega (arith, R.ready.rows.registers, count-place is_register constant (netlist_of f) i l (R.registers i l known))

    -- A register's label is field b.
    pub entry-some : (r : Fields) → fields_in r ≡ read_fields f i → (w' : List ℕ) → w' ≡ sets w (entry_offset e) (entry_bytes r.b (byte_at w (known_offset i)) (byte_at w (known_offset i + 1)))
        → (e + 1 ≡ e + cond (eqb (byte_at w (known_offset i)) 0) 0 1) × (w' ≡ entry_put (netlist_of f) w i e)
    entry-some r read w' h =
        let q = ne_eqb (byte_at w (known_offset i)) 0 known in
        let is : is_register (decode_row (fields_in r)) ≡ true = sym (register-is entry_row r read) ∙ R.registers i (row_within entry_row) known in
        let b : r.b ≡ label_of (row_at (netlist_of f) i) = sym (ap label_of (register-at entry_row r read is)) in
        (rw q refl, h ∙ rw (q, b) refl)

-- ---- the definition's entries

module _ {rows : List Row} {n : ℕ} {w : List ℕ} (from : 1 ≤ n) (to : n ≤ most_phases) (P : KnownPart rows n w (length rows)) where
  -- The bytes of row i, by whether its generator is used.
  used-bytes : (i : ℕ) → i < length rows → is_used n (period_at rows i) ≡ true → (byte_at w (known_offset i) ≡ period_at rows i) × (byte_at w (known_offset i + 1) ≡ clock_word (clock_value rows (periods_of rows (lasso_in rows)) n i) n)
  used-bytes i h e = (known-first w i (known_bytes rows n i) (P.known i h) ∙ rw e refl, P.known i h 1 (omega arith) ∙ rw e refl)

  unused-byte : (i : ℕ) → i < length rows → is_used n (period_at rows i) ≡ false → byte_at w (known_offset i) ≡ 0
  unused-byte i h e = known-first w i (known_bytes rows n i) (P.known i h) ∙ rw e refl

  pub known-registers : KnownRegisters rows w
  known-registers i h z = by-test (is_used n (period_at rows i)) refl
    where
      by-test : (b : Bool) → is_used n (period_at rows i) ≡ b → is_register (row_at rows i) ≡ true
      by-test true e = is-register P.part h from to e
      by-test false e = absurd (z (unused-byte i h e))

  entry-same : (i : ℕ) → i < length rows → (b : Bool) → is_used n (period_at rows i) ≡ b
      → cond (eqb (byte_at w (known_offset i)) 0) [] (entry_from rows w i ∷ []) ≡ cond b (clock_entry rows (periods_of rows (lasso_in rows)) n i ∷ []) []
  unfolding clock_entry
  entry-same i h true e =
      let k = used-bytes i h e in
      let f = clock_value rows (periods_of rows (lasso_in rows)) n i in
      let p = positive P.part h from to e in
      rw (k.0, k.1, ne_eqb (period_at rows i) 0 (λ (z : period_at rows i ≡ 0). omega arith), ones-bits (clock_word f n) n (word_lt f n)) refl
  entry-same i h false e = rw (unused-byte i h e) refl

  entries-same : entries_from rows w (length rows) ≡ clock_entries rows (periods_of rows (lasso_in rows)) n
  unfolding entries_from clock_entries
  entries-same = join-cong (length rows) _ _ (λ i h. entry-same i h (is_used n (period_at rows i)) refl)

  module _ {m : ℕ} (count : m ≡ length rows) {w' : List ℕ} {r : ℕ} (E : EntryPart rows w w' m r) where
    pub entries-are : entries_in w' r ≡ clock_entries rows (periods_of rows (lasso_in rows)) n
    entries-are = E.entries ∙ ap (entries_from rows w) count ∙ entries-same

    pub entries-number : r ≡ used_count (periods_of rows (lasso_in rows)) n
    entries-number =
        sym (tabulate-length r (entry_in w')) ∙ ap length entries-are
        ∙ entries-count rows (periods_of rows (lasso_in rows)) n (periods-length rows (lasso_in rows))
