-- Rows numbered, and the slots in the work memory.
-- Assumes nothing.
use Prim.Native.Nat.{ℕ, ◌+◌, ◌-◌, ◌*◌, ◌<◌, ◌≤◌, ◌/◌, ◌^◌}
use mathlib.Core.Path.{◌≡◌, refl, sym, ap, ◌∙◌}
use mathlib.Core.Bool.{Bool, true, false}
use mathlib.Core.List.{List, ◌++◌}
use native.Mathlib.Omega.{arith}
use native.Mathlib.Numerals.{add-one}
use lib.ListN.{length, take, drop, get_or-append}
use lib.Seq.{length-take-le, drop_at, get_or-take, get_or-drop}
use lib.Dec.{leb}
use borrow.Author.Tests.{leb-true, leb-false}
use borrow.Rule.Slice.PartMut.{mid_of, post_of, put_mid, same_len_mid, mid_len, take_put, drop_put}
use Rattle.memory.specs.Fields.{byte_at}
use Rattle.memory.specs.Frames.{KeptOutside}
use Rattle.memory.specs.Slots.{slot_at, set_slot}
use Rattle.memory.proofs.TestLaws.{last_or}
use Rattle.memory.proofs.SlotLaws.{slot_same, slot-other}
use Rattle.netlist.specs.Limits.{most_folded_rows, fold_work_bytes}
use Rattle.abstraction.specs.Compaction.{is_marked, new_index}
use Rattle.abstraction.proofs.CompactionLaws.{index-none, index-suc, index-le}
use Rattle.cone_search.specs.FoundRows.{mark_at, marks_in}
use Rattle.cone_search.proofs.MarkLaws.{marked-in}
use Rattle.fold_memory.specs.WorkMap.{slots_start, slots_end}
use Rattle.compaction.specs.Slots.{read_end, mark_bit, new_number, Numbered}

-- ---- rows numbered

bit_is : (w : List ℕ) (j : ℕ) → slot_at w j < 2 ^ 16 → slot_at w j / 2 ^ 15 ≡ mark_bit (mark_at w j)
bit_is w j h = go (mark_at w j) refl
  where
    go : (t : Bool) → leb (2 ^ 15) (slot_at w j) ≡ t → slot_at w j / 2 ^ 15 ≡ mark_bit t
    go true e = omega (arith, leb-true (2 ^ 15) (slot_at w j) e)
    go false e = omega (arith, leb-false (2 ^ 15) (slot_at w j) e)

pub bit_le : (t : Bool) → mark_bit t ≤ 1
bit_le true = omega arith
bit_le false = omega arith

-- The slots before i have their numbers, and the others are as they were.
pub record Numbering (w₀ w : List ℕ) (n i t : ℕ) : Type 0 where
  pub count : t ≡ new_index (marks_in w₀ n) i
  pub before : (j : ℕ) → j < i → slot_at w j ≡ new_number (marks_in w₀ n) j
  pub after : (j : ℕ) → i ≤ j → slot_at w j ≡ slot_at w₀ j

pub numbering-none : (w : List ℕ) (n : ℕ) → Numbering w w n 0 0
numbering-none w n = record { count = sym (index-none (marks_in w n)); before = λ j h. absurd (omega arith); after = λ j h. refl }

numbering-le : (w₀ w : List ℕ) (n i t : ℕ) → Numbering w₀ w n i t → t ≤ i
numbering-le w₀ w n i t N = omega (arith, N.count, index-le (marks_in w₀ n) i)

pub numbering-fits : (w₀ w : List ℕ) (n i t : ℕ) → i < n → n ≤ most_folded_rows → Numbering w₀ w n i t → t < 2 ^ 15
numbering-fits w₀ w n i t h few N = omega (arith, numbering-le w₀ w n i t N)

pub numbering-more : (w₀ w w' : List ℕ) (n i t r : ℕ) → i < n → n ≤ most_folded_rows → 2 * n ≤ length w₀ → length w ≡ length w₀ → Numbering w₀ w n i t
    → r ≡ t + mark_bit (mark_at w i) → w' ≡ set_slot w i (t + 2 ^ 15 * mark_bit (mark_at w i)) → Numbering w₀ w' n (i + 1) r
numbering-more w₀ w w' n i t r h few room long N er ew =
    let m = marks_in w₀ n in
    let v = t + 2 ^ 15 * mark_bit (mark_at w i) in
    let e : is_marked m i ≡ mark_at w i = marked-in w₀ n i h ∙ ap (leb (2 ^ 15)) (sym (N.after i (omega arith))) in
    let b : mark_bit (is_marked m i) ≡ mark_bit (mark_at w i) = ap mark_bit e in
    let l = numbering-le w₀ w n i t N in
    record {
      count = rw add-one (omega (arith, index-suc m i, N.count));
      before = λ j g. rw ew (last_or j i (omega arith)
          (λ q. slot-other w i v j (λ z. omega arith) ∙ N.before j q)
          (λ q. rw q (slot_same w i v (omega arith) (omega (arith, bit_le (mark_at w i))) ∙ omega (arith, N.count))));
      after = λ j g. rw ew (slot-other w i v j (λ z. omega arith) ∙ N.after j (omega arith));
    }

-- A row's slot v as the code numbers it.
module _ (w : List ℕ) (i t v : ℕ) (e : v ≡ slot_at w i) (h : v < 2 ^ 16) where
  bit : v / 2 ^ 15 ≡ mark_bit (mark_at w i)
  bit = ap (λ x. x / 2 ^ 15) e ∙ bit_is w i (omega arith)

  pub number-next : t + v / 2 ^ 15 ≡ t + mark_bit (mark_at w i)
  number-next = ap (λ x. t + x) bit

-- ---- the slots in the work memory

same-outside : (w w' : List ℕ) (lo hi : ℕ) → length w' ≡ length w → take lo w' ≡ take lo w → drop hi w' ≡ drop hi w → KeptOutside lo hi w w'
same-outside w w' lo hi n p q = record {
  long = n;
  before = λ i h. sym (get_or-take lo w' i 0 h) ∙ ap (λ l. byte_at l i) p ∙ get_or-take lo w i 0 h;
  after = λ i h.
      let e : i ≡ hi + (i - hi) = omega arith in
      ap (byte_at w') e ∙ sym (get_or-drop hi w' (i - hi) 0) ∙ ap (λ l. byte_at l (i - hi)) q ∙ get_or-drop hi w (i - hi) 0 ∙ ap (byte_at w) (sym e);
}

-- The work memory w after its slots were lent and came back as ys, and the part of it that is read then.
abbrev pub work_after : List ℕ → List ℕ → List ℕ
work_after w ys = put_mid slots_start (slots_end - slots_start) w ys

abbrev pub slots_after : List ℕ → List ℕ → List ℕ
slots_after w ys = take (read_end - slots_start) (drop slots_start (work_after w ys))

module _ (w ys : List ℕ) (room : fold_work_bytes ≤ length w) (l : length ys ≡ length (mid_of slots_start (slots_end - slots_start) w)) where
  size : length ys ≡ slots_end - slots_start
  size = l ∙ mid_len slots_start slots_end w (omega arith)

  pub slots-outside : KeptOutside slots_start slots_end w (work_after w ys)
  slots-outside =
      same-outside w (work_after w ys) slots_start slots_end (same_len_mid slots_start (slots_end - slots_start) w ys l) (take_put slots_start (slots_end - slots_start) w ys (omega arith)) (drop_put slots_start slots_end w ys (omega arith) (omega arith) size)

  byte-after : (i : ℕ) → i < slots_end - slots_start → byte_at (slots_after w ys) i ≡ byte_at ys i
  byte-after i h =
      get_or-take (read_end - slots_start) (drop slots_start (work_after w ys)) i 0 (omega arith)
      ∙ ap (λ x. byte_at x i) (drop_at (take slots_start w) (ys ++ post_of slots_start (slots_end - slots_start) w) slots_start (length-take-le slots_start w (omega arith)))
      ∙ get_or-append ys (post_of slots_start (slots_end - slots_start) w) 0 i (omega (arith, size))

  pub slots-numbered : (n : ℕ) (m : List Bool) → n ≤ most_folded_rows → Numbered ys n m → Numbered (slots_after w ys) n m
  slots-numbered n m few N j h = omega (arith, byte-after (2 * j) (omega arith), byte-after (2 * j + 1) (omega arith), N j h)
