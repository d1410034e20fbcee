-- What the writer leaves, step by step: a sum, a block around its rows, the blocks so far, the file.
-- Assumes nothing.
use Rattle.std.proofs.Common.{◌≡◌, ℕ, ◌+◌, ◌-◌, ◌*◌, ◌/◌, ◌%◌, ◌^◌, ◌<◌, ◌≤◌, min, List, [], ◌∷◌, ◌++◌, length, take, drop, replicate, sym, refl, ap, ◌∙◌, append_assoc, append-nil, add-one, arith, length-append, length-drop, drop_of_length-le, length-take, length-take-le, get_or-drop, take_all, get_or-take, drop-drop, take_at, ext_get_or, take-add, drop_at}
use native.Mathlib.Nat.{mod-add-mod}
use lib.ListN.{replicate-append-replicate, get_or-append}
use lib.Seq.{sets, sets-eq, take-append-add}
use borrow.Rule.Slice.PartMut.{mid_of, post_of, put_mid, mid_len, Post-is}
use Rattle.memory.specs.Lists.{join_below}
use Rattle.memory.specs.Fields.{byte_at, u32_at, u32_bytes}
use Rattle.memory.proofs.ListLaws.{join-length, join-at}
use Rattle.netlist.specs.Rows.{Row, row_at}
use Rattle.netlist.specs.FileFormat.{last_mark, low_byte, high_byte, word_sum, right_sum, block_at, row_offset, row_bytes, block_body, check_word, block_bytes, block_rows, blocks_for, file_of}
use Rattle.netlist.proofs.FileLaws.{sum-suc, sum-cong, block-at, block_back, part_length, part_at, file-length, body-length}
use Rattle.blockfile.specs.RowsStand.{RowsStand}

-- ---- sums

pub sum-none : (b : List ℕ) → 0 ≡ word_sum b 0 % 2 ^ 32
unfolding word_sum
sum-none b = refl

pub sum_more : (b : List ℕ) (i s w r : ℕ) → s ≡ word_sum b i % 2 ^ 32 → w ≡ u32_at b (4 * i) → r ≡ (s + w) % 2 ^ 32 → r ≡ word_sum b (i + 1) % 2 ^ 32
sum_more b i s w r hs hw hr = rw (add-one i, sum-suc b i, hr, hs, hw) (mod-add-mod (word_sum b i) (2 ^ 32) (u32_at b (4 * i)))

pub sum-all : (b : List ℕ) (n i s : ℕ) → i ≤ n → n ≤ i → s ≡ word_sum b i % 2 ^ 32 → s ≡ word_sum b n % 2 ^ 32
sum-all b n i s h l e = let q : i ≡ n = omega arith in rw q at e

-- The complement of the sum, written, is the check.
pub check-written : (b r : List ℕ) (s : ℕ) → s ≡ word_sum b 127 % 2 ^ 32 → r ≡ sets b 508 (u32_bytes (right_sum - s)) → r ≡ sets b 508 (u32_bytes (check_word b))
unfolding check_word
check-written b r s e f = let c : right_sum - s ≡ check_word b = omega arith in f ∙ rw c

-- ---- a block around its rows

-- A check depends on the first 508 bytes alone.
check-front : (b c : List ℕ) → length b ≡ 508 → check_word (b ++ c) ≡ check_word b
unfolding check_word
check-front b c n = ap (λ z. (right_sum - z % 2 ^ 32) % 2 ^ 32) (sum-cong (b ++ c) b 127 (λ i h. get_or-append b c 0 i (omega arith)))

-- The rows' bytes, one row after the other.
abbrev rows_bytes : List Row → List ℕ
rows_bytes rs = join_below (length rs) (λ i. row_bytes (row_at rs i))

rows-joined : (rs : List Row) (p : List ℕ) → 512 ≤ length p → length rs ≤ 63 → RowsStand rs p → take (8 * length rs) (drop 4 p) ≡ rows_bytes rs
rows-joined rs p sized few stand =
    let m : length (take (8 * length rs) (drop 4 p)) ≡ 8 * length rs = simp (length-take, length-drop) (omega arith) in
    ext_get_or 0 (take (8 * length rs) (drop 4 p)) (rows_bytes rs) (m ∙ sym (join-length 8 (λ i. row_bytes (row_at rs i)) (length rs) (λ j l. refl))) (λ x h. at x (omega (arith, h, m)))
  where
    at : (x : ℕ) → x < 8 * length rs → byte_at (take (8 * length rs) (drop 4 p)) x ≡ byte_at (rows_bytes rs) x
    at x l =
        let o : 4 + x ≡ row_offset (x / 8) + x % 8 = omega arith in
        let y : 8 * (x / 8) + x % 8 ≡ x = omega arith in
        get_or-take (8 * length rs) (drop 4 p) x 0 l
        ∙ get_or-drop 4 p x 0
        ∙ ap (byte_at p) o
        ∙ stand (x / 8) (x % 8) (omega arith) (omega arith)
        ∙ sym (join-at 8 (λ i. row_bytes (row_at rs i)) (length rs) (λ j l. refl) (x / 8) (x % 8) 0 (omega arith) (omega arith))
        ∙ ap (byte_at (rows_bytes rs)) y

module _ (k B n : ℕ) (p : List ℕ) (sized : 512 ≤ length p) (few : n ≤ 63) (rs : List Row) (count : length rs ≡ n) (stand : RowsStand rs p) where
  -- Where the unused bytes start, and how many there are with the four of the check.
  abbrev unused : ℕ
  unused = 4 + 8 * n

  abbrev left : ℕ
  left = 512 - unused

  -- Headed and cleared: the body, four zeros where the check comes, and what follows.
  cleared-is : (m : ℕ) (q y : List ℕ) → m ≡ last_mark k B → q ≡ sets p 0 (m ∷ low_byte B ∷ n ∷ high_byte B ∷ []) → y ≡ replicate (length (mid_of unused left q)) 0 → put_mid unused left q y ≡ (block_body k B rs ++ replicate 4 0) ++ drop 512 p
  unfolding block_body
  cleared-is m q y g e f =
      let head : List ℕ = m ∷ low_byte B ∷ n ∷ high_byte B ∷ [] in
      let w : q ≡ head ++ drop 4 p = e ∙ sets-eq head p 0 (omega arith) in
      let j : take (8 * n) (drop 4 p) ≡ rows_bytes rs = ap (λ (x : ℕ). take (8 * x) (drop 4 p)) (sym count) ∙ rows-joined rs p sized (omega arith) stand in
      let t : take unused q ≡ head ++ rows_bytes rs = ap (take unused) w ∙ take-append-add head (drop 4 p) (8 * n) ∙ ap (λ z. head ++ z) j in
      let l : 512 ≤ length q = omega (arith, ap length w, length-drop 4 p) in
      let z : length (mid_of unused left q) ≡ 504 - 8 * n + 4 = mid_len unused 512 q l ∙ omega arith in
      let d : post_of unused left q ≡ drop 512 p = Post-is unused 512 q (omega arith) ∙ ap (drop 512) w ∙ drop-drop 508 4 p in
      let zeros : List ℕ = replicate (504 - 8 * length rs) 0 in
      rw (t, d, f, z, ← replicate-append-replicate {A = ℕ} (504 - 8 * n) 4 0, g, ← count) (
      sym (append_assoc (last_mark k B ∷ low_byte B ∷ length rs ∷ high_byte B ∷ rows_bytes rs) (zeros ++ replicate 4 0) (drop 512 p))
      ∙ ap (λ x. x ++ drop 512 p) (sym (append_assoc (last_mark k B ∷ low_byte B ∷ length rs ∷ high_byte B ∷ rows_bytes rs) zeros (replicate 4 0)))
      )

  -- Its check written: the block.
  checked-is : (r s : List ℕ) → r ≡ (block_body k B rs ++ replicate 4 0) ++ drop 512 p → s ≡ sets r 508 (u32_bytes (check_word r)) → s ≡ block_bytes k B rs ++ drop 512 p
  unfolding block_bytes
  checked-is r s e f =
      let b = block_body k B rs in
      let l : length b ≡ 508 = body-length k B rs (omega arith) in
      let h : length (b ++ replicate 4 0) ≡ 512 = simp length-append (omega arith) in
      let o : r ≡ b ++ (replicate 4 0 ++ drop 512 p) = e ∙ append_assoc b (replicate 4 0) (drop 512 p) in
      let m : 512 ≤ length r = omega (arith, ap length e, length-append (b ++ replicate 4 0) (drop 512 p)) in
      let t : take 508 r ≡ b = ap (take 508) o ∙ take_at b (replicate 4 0 ++ drop 512 p) 508 l in
      let d : drop 512 r ≡ drop 512 p = ap (drop 512) e ∙ drop_at (b ++ replicate 4 0) (drop 512 p) 512 h in
      let c : check_word r ≡ check_word b = ap check_word o ∙ check-front b (replicate 4 0 ++ drop 512 p) l in
      f ∙ sets-eq (u32_bytes (check_word r)) r 508 (omega arith) ∙ rw (t, d, c) refl

  pub block_written : (m : ℕ) (q y s : List ℕ) → m ≡ last_mark k B → q ≡ sets p 0 (m ∷ low_byte B ∷ n ∷ high_byte B ∷ []) → y ≡ replicate (length (mid_of unused left q)) 0 → s ≡ sets (put_mid unused left q y) 508 (u32_bytes (check_word (put_mid unused left q y)))
      → s ≡ block_bytes k B rs ++ drop 512 p
  block_written m q y s g e f h = checked-is (put_mid unused left q y) s (cleared-is m q y g e f) h

-- ---- the blocks so far

-- The rows of block B stand in its 512 bytes.
part-stands : (rs : List Row) (f : List ℕ) (B : ℕ) → RowsStand rs f → RowsStand (block_rows rs B) (block_at f B)
part-stands rs f B stand i d h l =
    let n = part_length rs B in
    let e : 512 * B + (row_offset i + d) ≡ row_offset (63 * B + i) + d = omega arith in
    block-at f B (row_offset i + d) (omega arith)
    ∙ ap (byte_at f) e
    ∙ stand (63 * B + i) d (omega arith) l
    ∙ ap (λ (r : Row). byte_at (row_bytes r) d) (sym (part_at rs B i (omega arith)))

-- Of the n rows that stand in f₀, g has the file's first B blocks and is else as f₀.
abbrev pub BlocksWritten : List ℕ → ℕ → ℕ → List ℕ → Type 0
BlocksWritten f₀ n B g = (rs : List Row) → length rs ≡ n → RowsStand rs f₀ → g ≡ take (512 * B) (file_of rs) ++ drop (512 * B) f₀

pub blocks-none : (f : List ℕ) (n : ℕ) → BlocksWritten f n 0 f
blocks-none f n rs e stand = refl

-- Block B is written in its part of g.
pub blocks_more : (f₀ g y : List ℕ) (n B c : ℕ) → B < blocks_for n → 512 * blocks_for n ≤ length f₀ → BlocksWritten f₀ n B g → c ≡ min 63 (n - 63 * B)
    → ((rs : List Row) → length rs ≡ c → RowsStand rs (take (512 * B + 512 - 512 * B) (drop (512 * B) g)) → y ≡ block_bytes (blocks_for n) B rs ++ drop 512 (take (512 * B + 512 - 512 * B) (drop (512 * B) g)))
    → BlocksWritten f₀ n (B + 1) (take (512 * B) g ++ (y ++ drop (512 * B + 512 - 512 * B) (drop (512 * B) g)))
blocks_more f₀ g y n B c h fits before few w rs count stand =
    let F = file_of rs in
    let a : ℕ = 512 * B in
    let s : a + 512 - a ≡ 512 = omega arith in
    let v : 512 * (B + 1) ≡ a + 512 = omega arith in
    let e = before rs count stand in
    let m : length (take a F) ≡ a = length-take-le a F (omega (arith, file-length rs)) in
    let t : take a g ≡ take a F = ap (take a) e ∙ take_at (take a F) (drop a f₀) a m in
    let d : drop a g ≡ drop a f₀ = ap (drop a) e ∙ drop_at (take a F) (drop a f₀) a m in
    let z : drop 512 (take (a + 512 - a) (drop a g)) ≡ [] = drop_of_length-le (take (a + 512 - a) (drop a g)) {i = 512} (simp length-take (omega arith)) in
    let q : y ≡ block_bytes (blocks_for n) B (block_rows rs B) = w (block_rows rs B) (part_length rs B ∙ rw (count, few)) (rw (s, d) (part-stands rs f₀ B stand)) ∙ ap (λ x. block_bytes (blocks_for n) B (block_rows rs B) ++ x) z ∙ append-nil (block_bytes (blocks_for n) B (block_rows rs B)) in
    let b : y ≡ take 512 (drop a F) = q ∙ rw (← count) (sym (block_back rs B (omega arith))) in
    rw (s, v, t, d, b, take-add a 512 F, ← drop-drop 512 a f₀) (sym (append_assoc (take a F) (take 512 (drop a F)) (drop 512 (drop a f₀))))

-- ---- the file

-- Every block is written, and what comes after is cleared.
pub file-written : (f₀ g r : List ℕ) (n B : ℕ) → blocks_for n ≤ B → B ≤ blocks_for n → length g ≡ length f₀ → BlocksWritten f₀ n B g
    → r ≡ take (512 * blocks_for n) g ++ replicate (length g - 512 * blocks_for n) 0 → (rs : List Row) → length rs ≡ n → RowsStand rs f₀
    → r ≡ file_of rs ++ replicate (length f₀ - 512 * blocks_for n) 0
file-written f₀ g r n B h l same before e rs count stand =
    let F = file_of rs in
    let a : ℕ = 512 * blocks_for n in
    let q : B ≡ blocks_for n = omega arith in
    let m : length F ≡ a = rw (← count) (file-length rs) in
    let w : take a F ≡ F = take_all a F (omega arith) in
    let t : take a g ≡ F = ap (take a) (rw q at (before rs count stand)) ∙ rw w (take_at F (drop a f₀) a m) in
    e ∙ rw (t, same)
