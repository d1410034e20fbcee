-- The marks of question 8: a bit set in a byte, the bits of names, and the marks of one row more.
-- Assumes nothing.
use Prim.Native.Nat.{ℕ, zero, suc, ◌+◌, ◌*◌, ◌<◌, ◌/◌, ◌%◌, ◌^◌}
use mathlib.Core.Path.{◌≡◌, sym, refl, ap, ◌∙◌, subst}
use mathlib.Core.Bool.{Bool, true, false, false≢true}
use mathlib.Core.List.{List}
use native.Mathlib.Omega.{arith}
use native.Mathlib.Decide.{ℕ_discrete}
use native.Mathlib.Nat.{div_self}
use lib.ListN.{length, length-set}
use lib.Seq.{get_or-set_same, get_or-set_other}
use lib.Dec.{eqb}
use lib.Bits.{bit_or, or_shr, or_mod, or_comm}
use lib.Pow.{pow_pos}
use borrow.Author.Tests.{eqb-true}
use Rattle.memory.specs.Fields.{byte_at}
use Rattle.memory.proofs.TestLaws.{last_or}
use Rattle.netlist.specs.Rows.{Row, row_at, has_name}
use Rattle.netlist.proofs.RowLaws.{named-alike}
use Rattle.questions.specs.Questions.{label_is_new}
use Rattle.questions.proofs.PlainWords.{label_is_new-iff}
use Rattle.row_questions.specs.Slots.{all_slots, slot_of}
use Rattle.row_questions.proofs.NameLaws.{same-slot}
use Rattle.name_marks.specs.Marks.{mark_bytes, bit_of_slot, taken_bit, with_bit, NamesMarked}

-- ---- bits

-- A bit that is set in a byte stays set when others are.
or-one : (n : ℕ) → n < 2 → bit_or 1 n ≡ 1
or-one zero h = refl
or-one (suc zero) h = refl
or-one (suc (suc n)) h = absurd (omega arith)

or_left : (b m j : ℕ) → b / 2 ^ j % 2 ≡ 1 → bit_or b m / 2 ^ j % 2 ≡ 1
or_left b m j h = ap (λ (n : ℕ). n % 2) (or_shr b m j) ∙ or_mod (b / 2 ^ j) (m / 2 ^ j) 1 ∙ ap (λ (n : ℕ). bit_or n (m / 2 ^ j % 2)) h ∙ or-one (m / 2 ^ j % 2) (omega arith)

-- The mark has the bit set.
mark-bit : (k : ℕ) → 2 ^ k / 2 ^ k % 2 ≡ 1
mark-bit k = ap (λ (n : ℕ). n % 2) (div_self (pow_pos k))

module _ (marks : List ℕ) (s : ℕ) (inside : s / 8 < length marks) where
  abbrev mark : ℕ
  mark = 2 ^ (s % 8)

  abbrev byte : ℕ
  byte = bit_or (byte_at marks (s / 8)) mark

  byte-is : byte_at (with_bit marks s) (s / 8) ≡ byte
  byte-is = get_or-set_same marks (s / 8) byte 0 inside

  -- The bit is set, and no other is cleared.
  bit-here : taken_bit (with_bit marks s) s ≡ 1
  bit-here = ap (λ (b : ℕ). b / 2 ^ (s % 8) % 2) (byte-is ∙ or_comm (byte_at marks (s / 8)) mark) ∙ or_left mark (byte_at marks (s / 8)) (s % 8) (mark-bit (s % 8))

  bits-kept : (t : ℕ) → taken_bit marks t ≡ 1 → taken_bit (with_bit marks s) t ≡ 1
  bits-kept t h = elim (ℕ_discrete (s / 8) (t / 8)) [
    | yes e ↦
        subst (λ (x : ℕ). byte_at marks x / 2 ^ (t % 8) % 2 ≡ 1 → byte_at (with_bit marks s) x / 2 ^ (t % 8) % 2 ≡ 1) e
        (λ g. ap (λ (b : ℕ). b / 2 ^ (t % 8) % 2) byte-is ∙ or_left (byte_at marks (s / 8)) mark (t % 8) g) h
    | no n ↦ ap (λ (b : ℕ). b / 2 ^ (t % 8) % 2) (get_or-set_other marks (s / 8) (t / 8) byte 0 (λ q. n (sym q))) ∙ h
  ]

-- ---- the bits of names

bit-inside : (few : Bool) (slot n : ℕ) → slot < all_slots → n ≡ mark_bytes few → bit_of_slot few slot < 8 * n
bit-inside true slot n h e = omega arith
bit-inside false slot n h e = omega arith

-- ---- the marks of the first rows

pub marks-none : (few : Bool) (rows : List Row) (marks : List ℕ) → length marks ≡ mark_bytes few → NamesMarked few rows 0 marks
marks-none few rows marks size = record { size = size; taken = λ j l. absurd (omega arith) }

module _ {few : Bool} {rows : List Row} {i : ℕ} {marks : List ℕ} (M : NamesMarked few rows i marks) where
  -- The marks of one row more: no bit was cleared, and its name's is set.
  marks-more : (after : List ℕ) → length after ≡ length marks → ((t : ℕ) → taken_bit marks t ≡ 1 → taken_bit after t ≡ 1) → (has_name (row_at rows i) ≡ true → taken_bit after (bit_of_slot few (slot_of (row_at rows i))) ≡ 1) → NamesMarked few rows (i + 1) after
  marks-more after size kept here = record { size = size ∙ M.size; taken = λ j l. go j (omega (arith, l)) }
    where
      go : (j : ℕ) → j < suc i → has_name (row_at rows j) ≡ true → taken_bit after (bit_of_slot few (slot_of (row_at rows j))) ≡ 1
      go j l h = last_or j i l (λ m. kept (bit_of_slot few (slot_of (row_at rows j))) (M.taken j m h)) (λ e. rw e (here (rw e at h)))

  -- A row without a name: its name is not taken, and the marks may stay.
  module _ {named : Bool} (named-is : named ≡ has_name (row_at rows i)) (none : named ≡ false) where
    unnamed : has_name (row_at rows i) ≡ true → ⊥
    unnamed e = false≢true (sym none ∙ named-is ∙ e)

    pub label-none : true ≡ label_is_new rows i
    label-none = sym ((label_is_new-iff rows i).1 (λ j l e. unnamed e.0))

    pub marks-same : NamesMarked few rows (i + 1) marks
    marks-same = marks-more marks refl (λ t h. h) (λ e. absurd (unnamed e))

  -- A row with a name: its bit is set afterwards; if it was free, the name is new.
  module _ {slot : ℕ} (slot_is : slot ≡ slot_of (row_at rows i)) {bit : ℕ} (bit_is : bit ≡ bit_of_slot few slot) where
    bit-of-name : bit ≡ bit_of_slot few (slot_of (row_at rows i))
    bit-of-name = bit_is ∙ ap (bit_of_slot few) slot_is

    pub name-inside : slot < all_slots → bit < 8 * length marks
    name-inside h = omega (arith, bit_is, bit-inside few slot (length marks) h M.size)

    pub marks-named : slot < all_slots → {after : List ℕ} → after ≡ with_bit marks bit → NamesMarked few rows (i + 1) after
    marks-named h e =
        let inside : bit / 8 < length marks = omega (arith, name-inside h) in
        rw e (marks-more (with_bit marks bit) (length-set marks (bit / 8) _) (bits-kept marks bit inside) (λ _. subst (λ (b : ℕ). taken_bit (with_bit marks bit) b ≡ 1) bit-of-name (bit-here marks bit inside)))

    pub label-free : {free : Bool} → free ≡ eqb (taken_bit marks bit) 0 → free ≡ true → true ≡ label_is_new rows i
    label-free r e =
        let z = eqb-true (taken_bit marks bit) 0 (sym r ∙ e) in
        sym ((label_is_new-iff rows i).1 (λ j l n.
        let t = M.taken j l (named-alike (row_at rows i) (row_at rows j) n.1.kind n.0) in
        let q = ap (taken_bit marks) (bit-of-name ∙ ap (bit_of_slot few) (same-slot (row_at rows i) (row_at rows j) n.1)) in
        omega (arith, z, t, q)))
