-- The written file: byte by byte what a block has, each block's sum, and the file read back.
-- Assumes nothing.
use Prim.Native.Nat.{ℕ, zero, suc, ◌+◌, ◌-◌, ◌*◌, ◌<◌, ◌≤◌, ◌/◌, ◌%◌, ◌^◌, min}
use mathlib.Core.Path.{◌≡◌, refl, sym, ap, ap₂, ◌∙◌}
use mathlib.Core.List.{List, ◌∷◌, ◌++◌, map}
use native.Mathlib.Omega.{arith}
use native.Mathlib.Decide.{dec_lt}
use lib.ListN.{length, drop, replicate, length-append, length-map, length-take, length-drop, length-replicate, get_or-replicate, get_or-append, get_or-map, get_or-eq_default}
use lib.Seq.{get_or-append-add, get_or-take, get_or-drop, ext_get_or}
use lib.Dec.{eqb}
use borrow.Author.Tests.{eq-eqb, ne_eqb}
use Rattle.memory.specs.Lists.{join_below, tabulate}
use Rattle.memory.specs.Fields.{IsBytes, byte_at, u32_at, u16_bytes, u32_bytes}
use Rattle.memory.proofs.TestLaws.{cond-case}
use Rattle.memory.proofs.ListLaws.{join-length, join-at, tabulate-length, tabulate-at}
use Rattle.memory.proofs.FieldLaws.{u16-small, u16-read, u16-write, u32-read, bytes-cons, bytes-append, bytes-join, bytes-zeros, u16-is-bytes, u32-is-bytes}
use Rattle.netlist.specs.Limits.{most_phases}
use Rattle.netlist.specs.Rows.{Row, RowFields, encode_row, decode_row, row_from_fields, constant, row_at, label_of, input, register, and_gate, xor_gate, mux_gate, output, phase_of}
use Rattle.netlist.specs.FileFormat.{last_mark, low_byte, high_byte, word_sum, block_count, block_at, row_offset, read_fields, row_count, fields_of, fields_at, netlist_of, field_bytes, row_bytes, block_body, check_word, block_bytes, block_rows, blocks_for, file_of}
use Rattle.netlist.proofs.RowLaws.{decode-rows, kind-le}
use Rattle.netlist.specs.WellFormed.{EachRow, FieldsFit, OperandsBelow, NextBelow}

-- ---- byte 0

pub mark-last : (k : ℕ) → last_mark (suc k) k ≡ 2
mark-last k = rw (eq-eqb (suc k) (suc k) refl)

pub mark-other : (k B : ℕ) → suc B < k → last_mark k B ≡ 1
mark-other k B h = rw (ne_eqb (suc B) k (λ e. omega arith))

-- ---- sums

pub sum-suc : (b : List ℕ) (n : ℕ) → word_sum b (suc n) ≡ word_sum b n + u32_at b (4 * n)
unfolding word_sum
sum-suc b n = refl

-- A sum depends on its bytes alone.
pub sum-cong : (b c : List ℕ) (n : ℕ) → ((i : ℕ) → i < 4 * n → byte_at b i ≡ byte_at c i) → word_sum b n ≡ word_sum c n
unfolding word_sum
sum-cong b c zero e = refl
sum-cong b c (suc n) e =
    omega (
      arith,
      sum-cong b c n (λ i h. e i (omega arith)),
      e (4 * n) (omega arith),
      e (4 * n + 1) (omega arith),
      e (4 * n + 2) (omega arith),
      e (4 * n + 2 + 1) (omega arith),
    )

-- ---- block B of a file

pub block-at : (f : List ℕ) (B o : ℕ) → o < 512 → byte_at (block_at f B) o ≡ byte_at f (512 * B + o)
block-at f B o h = get_or-take 512 (drop (512 * B) f) o 0 h ∙ get_or-drop (512 * B) f o 0

pub block_size : (f : List ℕ) (B : ℕ) → 512 * B + 512 ≤ length f → length (block_at f B) ≡ 512
block_size f B h = simp (length-take, length-drop) (omega arith)

-- ---- a row

-- A row whose operands name rows below j, its next value a row below n, and whose label and phase are in range.
pub row_fits : (j n : ℕ) → j ≤ 2 ^ 15 → n ≤ 2 ^ 15 → (r : Row) → OperandsBelow j r → NextBelow n r → label_of r < 2 ^ 16 → phase_of r < most_phases → FieldsFit (encode_row r)
row_fits j n h k constant b c l p = record { a-fits = omega arith; b-fits = omega arith; c-fits = omega arith }
row_fits j n h k (input _ _) b c l p = record { a-fits = l; b-fits = omega (arith, p); c-fits = omega arith }
row_fits j n h k (register _ _ _) b c l p = record { a-fits = omega (arith, c); b-fits = l; c-fits = omega arith }
row_fits j n h k (and_gate _ _) b c l p = record { a-fits = omega (arith, b.0); b-fits = omega (arith, b.1); c-fits = omega arith }
row_fits j n h k (xor_gate _ _) b c l p = record { a-fits = omega (arith, b.0); b-fits = omega (arith, b.1); c-fits = omega arith }
row_fits j n h k (mux_gate _ _ _) b c l p = record { a-fits = omega (arith, b.0); b-fits = omega (arith, b.1); c-fits = omega (arith, b.2) }
row_fits j n h k (output _ _ _) b c l p = record { a-fits = omega (arith, b); b-fits = l; c-fits = omega (arith, p) }

-- What is written as row i is read again, if it fits.
pub fields_read : (f : List ℕ) (i : ℕ) (w : RowFields) → FieldsFit w → ((d : ℕ) → d < 8 → byte_at f (row_offset i + d) ≡ byte_at (field_bytes w) d) → read_fields f i ≡ w
fields_read f i w t h =
    let byte : (d x : ℕ) → x ≡ row_offset i + d → d < 8 → byte_at f x ≡ byte_at (field_bytes w) d = λ d x q l. ap (byte_at f) q ∙ h d l in
    let a = u16-read f (row_offset i + 2) w.a t.a-fits (h 2 (omega arith)) (byte 3 (row_offset i + 2 + 1) (omega arith) (omega arith)) in
    let b = u16-read f (row_offset i + 4) w.b t.b-fits (h 4 (omega arith)) (byte 5 (row_offset i + 4 + 1) (omega arith) (omega arith)) in
    let c = u16-read f (row_offset i + 6) w.c t.c-fits (h 6 (omega arith)) (byte 7 (row_offset i + 6 + 1) (omega arith) (omega arith)) in
    same (byte 0 (row_offset i) (omega arith) (omega arith)) (h 1 (omega arith)) a b c
  where
    same : {k k' r r' a a' b b' c c' : ℕ} → k ≡ k' → r ≡ r' → a ≡ a' → b ≡ b' → c ≡ c'
        → ◌≡◌ {A = RowFields} (record { kind = k; reset = r; a = a; b = b; c = c }) (record { kind = k'; reset = r'; a = a'; b = b'; c = c' })
    same p q s t u = cc (p, q, s, t, u)

-- What is read of bytes is written as the same bytes.
pub fields-write : (f : List ℕ) → IsBytes f → (i d : ℕ) → d < 8 → byte_at (field_bytes (read_fields f i)) d ≡ byte_at f (row_offset i + d)
fields-write f b i zero l = let e : row_offset i ≡ row_offset i + 0 = omega arith in ap (byte_at f) e
fields-write f b i (suc zero) l = refl
fields-write f b i (suc (suc zero)) l = (u16-write f (row_offset i + 2) b).0
fields-write f b i (suc (suc (suc zero))) l = let e : row_offset i + 2 + 1 ≡ row_offset i + 3 = omega arith in (u16-write f (row_offset i + 2) b).1 ∙ ap (byte_at f) e
fields-write f b i (suc (suc (suc (suc zero)))) l = (u16-write f (row_offset i + 4) b).0
fields-write f b i (suc (suc (suc (suc (suc zero))))) l = let e : row_offset i + 4 + 1 ≡ row_offset i + 5 = omega arith in (u16-write f (row_offset i + 4) b).1 ∙ ap (byte_at f) e
fields-write f b i (suc (suc (suc (suc (suc (suc zero)))))) l = (u16-write f (row_offset i + 6) b).0
fields-write f b i (suc (suc (suc (suc (suc (suc (suc zero))))))) l = let e : row_offset i + 6 + 1 ≡ row_offset i + 7 = omega arith in (u16-write f (row_offset i + 6) b).1 ∙ ap (byte_at f) e
fields-write f b i (suc (suc (suc (suc (suc (suc (suc (suc d)))))))) l = absurd (omega arith)

row-is-bytes : (r : Row) → (encode_row r).reset < 2 ^ 8 → IsBytes (row_bytes r)
row-is-bytes r h =
    let w = encode_row r in
    let bc = u16_bytes w.b ++ u16_bytes w.c in
    let abc = u16_bytes w.a ++ bc in
    bytes-cons w.kind (w.reset ∷ abc) (omega (arith, kind-le r))
    (bytes-cons w.reset abc h
    (bytes-append (u16_bytes w.a) bc (u16-is-bytes w.a)
    (bytes-append (u16_bytes w.b) (u16_bytes w.c) (u16-is-bytes w.b) (u16-is-bytes w.c))))

-- ---- a block of at most 63 rows

module _ (k B : ℕ) (rs : List Row) (small : length rs ≤ 63) where
  -- The rows' bytes, and all that stands between head and check.
  abbrev written : List ℕ
  written = join_below (length rs) (λ i. row_bytes (row_at rs i))

  abbrev places : List ℕ
  places = drop 4 (block_body k B rs)

  written-length : length written ≡ 8 * length rs
  written-length = join-length 8 (λ i. row_bytes (row_at rs i)) (length rs) (λ j l. refl)

  pub body-length : length (block_body k B rs) ≡ 508
  unfolding block_body
  body-length = simp (length-append, length-replicate) (omega (arith, written-length))

  pub block-length : length (block_bytes k B rs) ≡ 512
  unfolding block_bytes
  block-length = simp length-append (omega (arith, body-length))

  block-body : (o : ℕ) → o < 508 → byte_at (block_bytes k B rs) o ≡ byte_at (block_body k B rs) o
  unfolding block_bytes
  block-body o h = get_or-append (block_body k B rs) _ 0 o (omega (arith, body-length))

  block-places : (x : ℕ) → x < 504 → byte_at (block_bytes k B rs) (4 + x) ≡ byte_at places x
  block-places x h = block-body (4 + x) (omega arith) ∙ sym (get_or-drop 4 (block_body k B rs) x 0)

  pub block-head : (byte_at (block_bytes k B rs) 0 ≡ last_mark k B) × (byte_at (block_bytes k B rs) 1 ≡ low_byte B) × (byte_at (block_bytes k B rs) 2 ≡ length rs) × (byte_at (block_bytes k B rs) 3 ≡ high_byte B)
  unfolding block_body
  block-head = (block-body 0 (omega arith), block-body 1 (omega arith), block-body 2 (omega arith), block-body 3 (omega arith))

  -- Byte d of row j.
  pub block_row : (j d : ℕ) → j < length rs → d < 8 → byte_at (block_bytes k B rs) (4 + (8 * j + d)) ≡ byte_at (row_bytes (row_at rs j)) d
  unfolding block_body
  block_row j d h l =
      block-places (8 * j + d) (omega arith)
      ∙ get_or-append written _ 0 (8 * j + d) (omega (arith, written-length))
      ∙ join-at 8 (λ i. row_bytes (row_at rs i)) (length rs) (λ i m. refl) j d 0 h l

  pub block-unused : (i : ℕ) → i < 504 - 8 * length rs → byte_at (block_bytes k B rs) (4 + (8 * length rs + i)) ≡ 0
  unfolding block_body
  block-unused i h =
      let e : 8 * length rs + i ≡ length written + i = omega (arith, written-length) in
      block-places (8 * length rs + i) (omega arith)
      ∙ ap (byte_at places) e
      ∙ get_or-append-add written (replicate (504 - 8 * length rs) 0) i 0
      ∙ get_or-replicate (504 - 8 * length rs) i 0 0 h

  pub block-check : (d : ℕ) → byte_at (block_bytes k B rs) (508 + d) ≡ byte_at (u32_bytes (check_word (block_body k B rs))) d
  unfolding block_bytes
  block-check d =
      let e : 508 + d ≡ length (block_body k B rs) + d = omega (arith, body-length) in
      ap (byte_at (block_body k B rs ++ u32_bytes (check_word (block_body k B rs)))) e ∙ get_or-append-add (block_body k B rs) (u32_bytes (check_word (block_body k B rs))) d 0

  pub check-small : check_word (block_body k B rs) < 2 ^ 32
  unfolding check_word
  check-small = omega arith

  pub check-word : u32_at (block_bytes k B rs) 508 ≡ check_word (block_body k B rs)
  check-word = u32-read (block_bytes k B rs) 508 (check_word (block_body k B rs)) check-small (λ d l. block-check d)

  -- The sum of a block's words is right.
  pub block-sum : word_sum (block_bytes k B rs) 128 % 2 ^ 32 ≡ 2 ^ 32 - 1
  unfolding check_word
  block-sum =
      let S = word_sum (block_body k B rs) 127 in
      let e : word_sum (block_bytes k B rs) 127 ≡ S = sum-cong (block_bytes k B rs) (block_body k B rs) 127 (λ i h. block-body i (omega arith)) in
      ap (λ (n : ℕ). n % 2 ^ 32) (sum-suc (block_bytes k B rs) 127 ∙ ap₂ ◌+◌ e check-word) ∙ right S (check_word (block_body k B rs)) refl
    where
      right : (S c : ℕ) → c ≡ (2 ^ 32 - 1 - S % 2 ^ 32) % 2 ^ 32 → (S + c) % 2 ^ 32 ≡ 2 ^ 32 - 1
      right S c e = omega arith

  -- The block is bytes, where its rows' resets are.
  pub block-is-bytes : EachRow (λ r. (encode_row r).reset < 2 ^ 8) rs → IsBytes (block_bytes k B rs)
  unfolding block_bytes block_body
  block-is-bytes resets =
      let mark : last_mark k B < 2 ^ 8 = cond-case (λ n. n < 2 ^ 8) (eqb (suc B) k) 2 1 (λ _. omega arith) (λ _. omega arith) in
      let rows = bytes-join (length rs) (λ i. row_bytes (row_at rs i)) (λ i l. row-is-bytes (row_at rs i) (resets i l)) in
      bytes-append (block_body k B rs) (u32_bytes (check_word (block_body k B rs)))
      (bytes-cons (last_mark k B) (low_byte B ∷ length rs ∷ high_byte B ∷ places) mark
      (bytes-cons (low_byte B) (length rs ∷ high_byte B ∷ places) (omega arith)
      (bytes-cons (length rs) (high_byte B ∷ places) (omega arith)
      (bytes-cons (high_byte B) places (omega arith) (bytes-append written (replicate (504 - 8 * length rs) 0) rows (bytes-zeros (504 - 8 * length rs)))))))
      (u32-is-bytes (check_word (block_body k B rs)))

-- ---- a file

-- The rows of block B.
pub part_length : (rs : List Row) (B : ℕ) → length (block_rows rs B) ≡ min 63 (length rs - 63 * B)
part_length rs B = simp (length-take, length-drop)

pub part_small : (rs : List Row) (B : ℕ) → length (block_rows rs B) ≤ 63
part_small rs B = omega (arith, part_length rs B)

pub part_at : (rs : List Row) (B j : ℕ) → j < 63 → row_at (block_rows rs B) j ≡ row_at rs (63 * B + j)
part_at rs B j h = get_or-take 63 (drop (63 * B) rs) j constant h ∙ get_or-drop (63 * B) rs j constant

module _ (rs : List Row) where
  -- The number of blocks, and block B.
  abbrev k : ℕ
  k = blocks_for (length rs)

  abbrev pub written_block : ℕ → List ℕ
  written_block B = block_bytes (blocks_for (length rs)) B (block_rows rs B)

  each-512 : (B : ℕ) → B < k → length (written_block B) ≡ 512
  each-512 B h = block-length k B (block_rows rs B) (part_small rs B)

  pub file-length : length (file_of rs) ≡ 512 * blocks_for (length rs)
  unfolding file_of
  file-length = join-length 512 written_block k each-512

  pub file-blocks : block_count (file_of rs) ≡ blocks_for (length rs)
  file-blocks = omega (arith, file-length)

  -- Byte o of block B.
  pub file-at : (B o : ℕ) → B < blocks_for (length rs) → o < 512 → byte_at (file_of rs) (512 * B + o) ≡ byte_at (written_block B) o
  unfolding file_of
  file-at B o h l = join-at 512 written_block k each-512 B o 0 h l

  -- Block B, read.
  pub block_back : (B : ℕ) → B < blocks_for (length rs) → block_at (file_of rs) B ≡ written_block B
  block_back B h =
      let n = block_size (file_of rs) B (omega (arith, file-length)) in
      ext_get_or 0 (block_at (file_of rs) B) (written_block B) (n ∙ sym (each-512 B h)) (λ o l. block-at (file_of rs) B o (omega arith) ∙ file-at B o h (omega arith))

  pub file-count : (B : ℕ) → B < blocks_for (length rs) → byte_at (file_of rs) (512 * B + 2) ≡ min 63 (length rs - 63 * B)
  file-count B h = file-at B 2 h (omega arith) ∙ (block-head k B (block_rows rs B) (part_small rs B)).2 ∙ part_length rs B

  file-rows : row_count (file_of rs) ≡ length rs
  file-rows = elim (dec_lt 0 (length rs)) [
    | yes h ↦
        (let e = file-blocks in
        let c = ap (λ (n : ℕ). byte_at (file_of rs) (512 * (n - 1) + 2)) e ∙ file-count (k - 1) (omega arith) in
        omega (arith, e, c))
    | no h ↦
        (let e = file-blocks in
        let c : byte_at (file_of rs) (512 * (block_count (file_of rs) - 1) + 2) ≡ 0 = get_or-eq_default (file_of rs) 0 (omega (arith, file-length)) in
        omega (arith, e, c))
  ]

  -- Byte d of row i.
  pub file-row : (i d : ℕ) → i < length rs → d < 8 → byte_at (file_of rs) (row_offset i + d) ≡ byte_at (row_bytes (row_at rs i)) d
  file-row i d h l =
      let b : i / 63 < k = omega arith in
      let e : row_offset i + d ≡ 512 * (i / 63) + (4 + (8 * (i % 63) + d)) = omega arith in
      let w : 63 * (i / 63) + i % 63 ≡ i = omega arith in
      ap (byte_at (file_of rs)) e
      ∙ file-at (i / 63) (4 + (8 * (i % 63) + d)) b (omega arith)
      ∙ block_row k (i / 63) (block_rows rs (i / 63)) (part_small rs (i / 63)) (i % 63) d (omega (arith, part_length rs (i / 63))) l
      ∙ ap (λ (r : Row). byte_at (row_bytes r) d) (part_at rs (i / 63) (i % 63) (omega arith) ∙ ap (row_at rs) w)

  module _ (fits : EachRow (λ r. FieldsFit (encode_row r)) rs) where
    -- The rows' fields are read back, and so are the rows.
    pub fields_back : fields_of (file_of rs) ≡ map encode_row rs
    unfolding fields_of
    fields_back =
        let f = file_of rs in
        let n : length (tabulate (row_count f) (read_fields f)) ≡ length rs = tabulate-length (row_count f) (read_fields f) ∙ file-rows in
        ext_get_or (encode_row constant) (tabulate (row_count f) (read_fields f)) (map encode_row rs) (n ∙ sym (length-map rs encode_row)) (λ i h.
        let l : i < length rs = omega (arith, h, n) in
        tabulate-at (row_count f) (read_fields f) i (encode_row constant) (omega (arith, l, file-rows))
        ∙ fields_read f i (encode_row (row_at rs i)) (fits i l) (λ d m. file-row i d l m)
        ∙ sym (get_or-map encode_row rs i constant))

    pub read_back : netlist_of (file_of rs) ≡ rs
    unfolding netlist_of
    read_back = ap (map decode_row) fields_back ∙ decode-rows rs

  -- Of rows whose resets are bytes, the file is bytes.
  pub file-is-bytes : EachRow (λ r. (encode_row r).reset < 2 ^ 8) rs → IsBytes (file_of rs)
  unfolding file_of
  file-is-bytes resets =
      bytes-join k written_block (λ B h.
      block-is-bytes k B (block_rows rs B) (part_small rs B) (λ j l.
      let i : 63 * B + j < length rs = omega (arith, l, part_length rs B) in
      rw (part_at rs B j (omega (arith, l, part_small rs B))) (resets (63 * B + j) i)))

-- ---- reading a file

label_small : (k r a b c : ℕ) → a < 2 ^ 16 → b < 2 ^ 16 → label_of (row_from_fields k r a b c) < 2 ^ 16
label_small zero r a b c h l = omega arith
label_small (suc zero) r a b c h l = h
label_small (suc (suc zero)) r a b c h l = l
label_small (suc (suc (suc zero))) r a b c h l = omega arith
label_small (suc (suc (suc (suc zero)))) r a b c h l = omega arith
label_small (suc (suc (suc (suc (suc zero))))) r a b c h l = omega arith
label_small (suc (suc (suc (suc (suc (suc zero)))))) r a b c h l = l
label_small (suc (suc (suc (suc (suc (suc (suc k))))))) r a b c h l = omega arith

module _ (f : List ℕ) where
  pub read_length : length (netlist_of f) ≡ row_count f
  unfolding netlist_of fields_of
  read_length = length-map (tabulate (row_count f) (read_fields f)) decode_row ∙ tabulate-length (row_count f) (read_fields f)

  pub read_at : (i : ℕ) → i < row_count f → fields_at (fields_of f) i ≡ read_fields f i
  unfolding fields_of
  read_at i h = tabulate-at (row_count f) (read_fields f) i (encode_row constant) h

  pub row-at : (i : ℕ) → i < row_count f → row_at (netlist_of f) i ≡ decode_row (read_fields f i)
  unfolding netlist_of
  row-at i h = get_or-map decode_row (fields_of f) i (encode_row constant) ∙ ap decode_row (read_at i h)

  -- The labels of a file of bytes have 16 bits.
  pub file-labels : IsBytes f → EachRow (λ r. label_of r < 2 ^ 16) (netlist_of f)
  file-labels b i h =
      let w = read_fields f i in
      rw (row-at i (omega (arith, read_length)))
      (label_small w.kind w.reset w.a w.b w.c (u16-small f (row_offset i + 2) b) (u16-small f (row_offset i + 4) b))
