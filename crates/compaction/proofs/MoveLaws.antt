-- Rows moved down in place: what stands in front after each of them, and the whole.
-- Assumes nothing.
use Prim.Native.Nat.{ℕ, ◌+◌, ◌-◌, ◌<◌, ◌≤◌, ◌/◌, ◌%◌, ◌^◌}
use mathlib.Core.Path.{◌≡◌, refl, sym, ap, ◌∙◌, subst}
use mathlib.Core.Bool.{Bool, true, false, cond}
use mathlib.Core.List.{List, [], ◌∷◌, ◌++◌, append-nil}
use native.Mathlib.Omega.{arith}
use native.Mathlib.Numerals.{add-one}
use lib.ListN.{length}
use lib.Seq.{sets}
use borrow.Author.Tests.{le-leb, lt-leb}
use borrow.Rule.Slice.PartMut.{mid_of}
use Rattle.memory.specs.Fields.{byte_at}
use Rattle.memory.specs.Slots.{slot_at}
use Rattle.memory.proofs.ListLaws.{tabulate-at}
use Rattle.memory.proofs.FrameLaws.{kept_sets}
use Rattle.netlist.specs.Limits.{most_folded_rows, fold_result_bytes, fold_work_bytes}
use Rattle.netlist.specs.Rows.{Row, RowFields, constant, encode_row, row_at}
use Rattle.netlist.specs.FileFormat.{row_offset, read_fields, field_bytes, row_bytes}
use Rattle.netlist.proofs.FileLaws.{fields_read}
use Rattle.abstraction.specs.Compaction.{is_marked, cone_of_influence, new_index, renumber_literal, compact_up_to, compact}
use Rattle.abstraction.proofs.CompactionLaws.{renumbered, compact-length, index-none, index-suc, index-le}
use Rattle.blockfile.specs.RowsStand.{RowsStand, held_row, held_rows}
use Rattle.blockfile.specs.Renumbering.{renumber_fields, renumber_in}
use Rattle.blockfile.proofs.StandLaws.{row_room, row_next, stand-more, held-are}
use Rattle.blockfile.proofs.KindLaws.{encode-map, map_same}
use Rattle.cone_search.specs.FoundRows.{HeldInside, mark_at}
use Rattle.fold_memory.specs.WorkMap.{slots_start, slots_end}
use Rattle.compaction.specs.Compactable.{Compactable}
use Rattle.compaction.specs.Slots.{slot_count, mark_bit, Numbered}
use Rattle.compaction.specs.Moves.{move_row, RowKept, Movable, MovedTo}
use Rattle.compaction.proofs.NumberLaws.{bit_le, slots_after, slots-numbered}

-- ---- rows moved

pub row_moved : (f f' w : List ℕ) (i t : ℕ) (u v : RowFields) → u ≡ read_fields f i → v ≡ renumber_fields (renumber_in w slot_count) u → f' ≡ sets f (row_offset t) (field_bytes v) → f' ≡ move_row f w i t
row_moved f f' w i t u v e q h = h ∙ ap (λ (x : RowFields). sets f (row_offset t) (field_bytes x)) (q ∙ ap (renumber_fields (renumber_in w slot_count)) e)

-- Of the n rows in f₀ the first i are moved, t of them to the front; the later ones still stand.
pub record Moving (f₀ f w : List ℕ) (n i t : ℕ) : Type 0 where
  pub low : t ≤ i
  pub rest : (j d : ℕ) → i ≤ j → j < n → d < 8 → byte_at f (row_offset j + d) ≡ byte_at f₀ (row_offset j + d)
  pub moved : MovedTo f₀ w n i f t

pub moving-none : (f w : List ℕ) (n : ℕ) → Moving f f w n 0 0
moving-none f w n = record {
  low = omega arith;
  rest = λ j d a b l. refl;
  moved = λ rs m G. (sym (index-none m), λ i d h l. absurd (omega (arith, compact-length rs m 0, index-none m)));
}

module _ (f₀ f f' w : List ℕ) (n i t t' : ℕ) (h : i < n) (few : n ≤ most_folded_rows) (room : fold_result_bytes ≤ length f₀) (long : length f ≡ length f₀) (M : Moving f₀ f w n i t) (K : RowKept f w i t f' t') where
  rest_more : (j d : ℕ) → i + 1 ≤ j → j < n → d < 8 → byte_at f' (row_offset j + d) ≡ byte_at f₀ (row_offset j + d)
  rest_more j d a b l = rw K.bytes (go (mark_at w i))
    where
      go : (x : Bool) → byte_at (cond x (move_row f w i t) f) (row_offset j + d) ≡ byte_at f₀ (row_offset j + d)
      go true =
          (kept_sets (row_offset t) (row_offset t + 8) (field_bytes (renumber_fields (renumber_in w slot_count) (read_fields f i))) f (row_offset t) (omega arith) (omega arith)).after (row_offset j + d) (omega (arith, row_next t j (omega (arith, M.low))))
          ∙ M.rest j d (omega arith) b l
      go false = M.rest j d (omega arith) b l

  module _ (rs : List Row) (m : List Bool) (G : Movable f₀ w n rs m) where
    mark-is : mark_at w i ≡ is_marked m i
    mark-is = go (is_marked m i) refl
      where
        go : (x : Bool) → is_marked m i ≡ x → mark_at w i ≡ x
        go true e = le-leb (2 ^ 15) (slot_at w i) (omega (arith, G.numbers i h, ap mark_bit e))
        go false e = lt-leb (2 ^ 15) (slot_at w i) (omega (arith, G.numbers i h, ap mark_bit e, index-le m i))

    renumber-is : (l : ℕ) → l / 2 < n → renumber_in w slot_count l ≡ renumber_literal m l
    renumber-is l b =
        let d : l / 2 % 2 ^ 13 ≡ l / 2 = omega arith in
        let e : slot_at w (l / 2) % 2 ^ 15 ≡ new_index m (l / 2) = omega (arith, G.numbers (l / 2) b, index-le m (l / 2)) in
        rw (d, e)

    inside : i < length rs
    inside = rw G.size h

    fields-are : read_fields f i ≡ encode_row (row_at rs i)
    fields-are = fields_read f i (encode_row (row_at rs i)) (G.right.fits i inside) (λ d l. M.rest i d (omega arith) h l ∙ G.stand i d inside l)

    row_is : field_bytes (renumber_fields (renumber_in w slot_count) (read_fields f i)) ≡ row_bytes (renumbered m (row_at rs i))
    row_is =
        ap field_bytes (ap (renumber_fields (renumber_in w slot_count)) fields-are
        ∙ sym (encode-map (renumber_in w slot_count) (row_at rs i))
        ∙ ap encode_row (map_same (renumber_in w slot_count) (renumber_literal m) n renumber-is (row_at rs i) (rw G.size at (G.right.inside i inside))))

    before : RowsStand (compact_up_to rs m i) f
    before = (M.moved rs m G).1

    front : t ≡ length (compact_up_to rs m i)
    front = (M.moved rs m G).0 ∙ sym (compact-length rs m i)

    moved-bytes : sets f (row_offset (length (compact_up_to rs m i))) (row_bytes (renumbered m (row_at rs i))) ≡ move_row f w i t
    moved-bytes = ap (λ x. sets f (row_offset x) (row_bytes (renumbered m (row_at rs i)))) (sym front) ∙ ap (sets f (row_offset t)) (sym row_is)

    rows_next : compact_up_to rs m (i + 1) ≡ compact_up_to rs m i ++ cond (is_marked m i) (renumbered m (row_at rs i) ∷ []) []
    unfolding compact_up_to
    rows_next = ap (compact_up_to rs m) (add-one i)

    bytes_next : f' ≡ cond (is_marked m i) (move_row f w i t) f
    bytes_next = K.bytes ∙ ap (λ x. cond x (move_row f w i t) f) mark-is

    stand-next : RowsStand (compact_up_to rs m (i + 1)) f'
    stand-next = subst (λ (x : List Row). RowsStand x f') (sym rows_next) (subst (RowsStand (compact_up_to rs m i ++ cond (is_marked m i) (renumbered m (row_at rs i) ∷ []) [])) (sym bytes_next) (go (is_marked m i)))
      where
        go : (x : Bool) → RowsStand (compact_up_to rs m i ++ cond x (renumbered m (row_at rs i) ∷ []) []) (cond x (move_row f w i t) f)
        go true =
            subst (RowsStand (compact_up_to rs m i ++ (renumbered m (row_at rs i) ∷ []))) moved-bytes
            (stand-more (compact_up_to rs m i) f (length (compact_up_to rs m i)) (renumbered m (row_at rs i)) refl (omega (arith, room, long, row_room (length (compact_up_to rs m i)) (omega (arith, front, M.low)))) before)
        go false = subst (λ (xs : List Row). RowsStand xs f) (sym (append-nil (compact_up_to rs m i))) before

    moved-next : (t' ≡ new_index m (i + 1)) × RowsStand (compact_up_to rs m (i + 1)) f'
    moved-next = (rw (add-one i) (omega (arith, K.count, (M.moved rs m G).0, index-suc m i, ap mark_bit mark-is)), stand-next)

  pub moving-next : Moving f₀ f' w n (i + 1) t'
  moving-next = record { low = omega (arith, K.count, M.low, bit_le (mark_at w i)); rest = rest_more; moved = moved-next }

pub moving-done : (f₀ f w : List ℕ) (n i t : ℕ) → i ≤ n → n ≤ i → Moving f₀ f w n i t → MovedTo f₀ w n n f t
moving-done f₀ f w n i t h k M = let e : i ≡ n = omega arith in subst (λ (x : ℕ). MovedTo f₀ w n x f t) e M.moved

-- ---- the whole

compact-is : (f f' w : List ℕ) (n r : ℕ) → (HeldInside f n → Numbered w n (cone_of_influence (held_rows f n))) → MovedTo f w n n f' r
    → (rs : List Row) → length rs ≡ n → RowsStand rs f → Compactable rs → (r ≡ length (compact rs)) × RowsStand (compact rs) f'
unfolding compact
compact-is f f' w n r numbers moved rs size s c =
    let held = held-are f n rs size s c.fits in
    let inside : HeldInside f n = λ j h.
    let l : j < length rs = rw size h in
    let q : held_row f j ≡ row_at rs j = sym (tabulate-at n (held_row f) j constant h) ∙ ap (λ x. row_at x j) held in
    rw (q, ← size) (c.inside j l)
    in
    let m = cone_of_influence rs in
    let k = moved rs m (record { size = size; stand = s; right = c; numbers = subst (λ x. Numbered w n (cone_of_influence x)) held (numbers inside) }) in
    let e : compact_up_to rs m n ≡ compact_up_to rs m (length rs) = ap (compact_up_to rs m) (sym size) in
    (k.0 ∙ sym (compact-length rs m n) ∙ ap length e, subst (λ (x : List Row). RowsStand x f') e k.1)

-- The work memory w was lent for its slots, and these came back as ys.
module _ (f f' w ys : List ℕ) (n r : ℕ) (few : n ≤ most_folded_rows) (room : fold_work_bytes ≤ length w) (long : length ys ≡ length (mid_of slots_start (slots_end - slots_start) w))
    (numbers : HeldInside f n → Numbered ys n (cone_of_influence (held_rows f n))) (moved : MovedTo f (slots_after w ys) n n f' r) (rs : List Row) (size : length rs ≡ n) (stand : RowsStand rs f) (right : Compactable rs)
  where
    whole : (r ≡ length (compact rs)) × RowsStand (compact rs) f'
    whole = compact-is f f' (slots_after w ys) n r (λ h. slots-numbered w ys room long n (cone_of_influence (held_rows f n)) few (numbers h)) moved rs size stand right

    pub compact-count : r ≡ length (compact rs)
    compact-count = whole.0

    pub compact-stands : RowsStand (compact rs) f'
    compact-stands = whole.1
