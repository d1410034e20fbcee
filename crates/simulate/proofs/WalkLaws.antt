-- The walk over the rows of a block in a step, and over the blocks: what each row asks, and what stands after one row more.
-- Assumes nothing.
use Prim.Native.Nat.{ℕ, ◌+◌, ◌*◌, ◌<◌, ◌≤◌, ◌/◌, ◌^◌}
use mathlib.Core.Path.{◌≡◌, refl, sym, ap, ◌∙◌, subst}
use mathlib.Core.Bool.{cond}
use mathlib.Core.List.{List}
use native.Mathlib.Omega.{arith}
use lib.Dec.{eqb}
use lib.ListN.{length, set, length-set}
use lib.Seq.{sets}
use Rattle.memory.specs.Fields.{byte_at}
use Rattle.memory.proofs.ListLaws.{count-some-le}
use Rattle.netlist.specs.Rows.{constant, row_at, is_input}
use Rattle.netlist.specs.FileFormat.{row_offset, netlist_of}
use Rattle.netlist.specs.RunLayout.{place_among}
use Rattle.netlist.specs.WellFormed.{CheckedRows}
use Rattle.blockfile.specs.RowCode.{if_known}
use Rattle.blockfile.specs.BlockRows.{BlockRows}
use Rattle.blockfile.specs.Ready.{Ready}
use Rattle.blockfile.proofs.RowCodeLaws.{kind-known}
use Rattle.blockfile.proofs.BlockRowsLaws.{RowsWalked, walk_none, walk-within, walk-offset, walk-small, walk_more, walk-all}
use Rattle.row_values.specs.Values.{bit_byte, bit_bytes, no_value, value_in, RowInStep}
use Rattle.row_values.specs.declared.Step.{Step}
use Rattle.row_values.proofs.BitLaws.{byte-most, binary-bytes}
use Rattle.simulate.specs.StepValues.{values_before, step_from}
use Rattle.simulate.specs.Steps.{TwoHalves, InputsFit, ValuesStand}
use Rattle.simulate.proofs.PassLaws.{row-ready, next-below, input-there, input-next, halves_set, halves-written, evaluate-none, evaluate-more, evaluate-all}

-- The walk over rows start to stop - 1 of a block, which stand from `first` on, has come to `row`: memory was w₀ and is w.
pub record Walked (f inputs : List ℕ) (s : Step) (start stop first : ℕ) (w₀ w : List ℕ) (row offset used : ℕ) : Type 0 where
  pub rows : RowsWalked start stop first row offset
  pub used-is : used ≡ place_among is_input (netlist_of f) row
  pub room : length w ≡ length w₀
  pub halves : TwoHalves (length (netlist_of f)) s w
  pub values : (v : List ℕ) → ValuesStand f inputs s v start w₀ → ValuesStand f inputs s v row w

module _ {f inputs : List ℕ} {s : Step} {start stop first : ℕ} {w₀ : List ℕ} (N : Ready CheckedRows f (length (netlist_of f))) (B : BlockRows (length (netlist_of f)) start stop first) where
  pub walked_none : {before : ℕ} → before ≡ place_among is_input (netlist_of f) start → TwoHalves (length (netlist_of f)) s w₀ → Walked f inputs s start stop first w₀ w₀ start first before
  walked_none e H = record { rows = walk_none B; used-is = e; room = refl; halves = H; values = λ v h. h }

  module _ {w : List ℕ} {row offset used : ℕ} (U : Walked f inputs s start stop first w₀ w row offset used) where
    pub walked-small : offset + 8 < 2 ^ 64
    walked-small = omega (arith, walk-small B U.rows, N.file.few)

    pub walked-used : (o : ℕ) → o ≤ 1 → used + o < 2 ^ 64
    walked-used o h = omega (arith, U.used-is, (count-some-le is_input constant (netlist_of f) row).0, U.rows.upto, B.within, N.file.few)

    module _ (less : row < stop) where
      in-netlist : row < length (netlist_of f)
      in-netlist = walk-within B U.rows less

      at_row : offset ≡ row_offset row
      at_row = walk-offset B U.rows less

      pub walked-inside : offset < length f
      walked-inside = omega (arith, at_row, N.file.inside row in-netlist)

      pub walked-asks : InputsFit f inputs s → RowInStep f row offset (byte_at f offset) inputs used w s
      walked-asks I =
          let n = length (netlist_of f) in
          let H = U.halves in
          record {
            row = row-ready f n N row in-netlist;
            offset-is = at_row;
            kind-is = refl;
            inputs-fit = omega (arith, I.count, U.used-is, (count-some-le is_input constant (netlist_of f) row).1);
            input = input-there f n N row offset in-netlist at_row used U.used-is inputs s I;
            inputs-binary = I.binary;
            current-fits = omega (arith, in-netlist, H.current-fits);
            previous-fits = omega (arith, in-netlist, H.previous-fits);
            next = next-below f n N s.previous (length w) row H.previous-fits in-netlist;
            binary = H.binary;
          }

      -- Its kind is one that there is.
      known : byte_at f offset ≤ 6
      known = subst (λ (p : ℕ). byte_at f p ≤ 6) (sym at_row) (N.known row in-netlist)

      pub walked-target : s.current + row < length w
      walked-target = omega (arith, in-netlist, U.halves.current-fits)

      -- One row more.
      pub walked_more : {o x : ℕ} → o ≡ cond (eqb (byte_at f offset) 1) 1 0 → x ≡ if_known (byte_at f offset) (bit_byte (value_in w inputs s used row (row_at (netlist_of f) row))) no_value
          → Walked f inputs s start stop first w₀ (set w (s.current + row) x) (row + 1) (offset + 8) (used + o)
      walked_more {o} {x} eo answer =
          let n = length (netlist_of f) in
          let y = value_in w inputs s used row (row_at (netlist_of f) row) in
          let ex : x ≡ bit_byte y = answer ∙ kind-known (byte_at f offset) (bit_byte y) no_value known in
          record {
            rows = walk_more U.rows less;
            used-is = input-next f n N row offset in-netlist at_row used U.used-is o eo;
            room = length-set w (s.current + row) x ∙ U.room;
            halves = halves_set n s w (s.current + row) x U.halves (subst (λ (z : ℕ). z ≤ 1) (sym ex) (byte-most y));
            values = λ v h. evaluate-more f n N inputs s v row w U.halves (U.values v h) in-netlist used x U.used-is ex;
          }

    -- All rows of the block.
    module _ (last : stop ≤ row) where
      pub walked-count : used ≡ place_among is_input (netlist_of f) stop
      walked-count = U.used-is ∙ ap (place_among is_input (netlist_of f)) (walk-all U.rows last)

      pub walked-values : (v : List ℕ) → ValuesStand f inputs s v start w₀ → ValuesStand f inputs s v stop w
      walked-values v h = subst (λ (i : ℕ). ValuesStand f inputs s v i w) (walk-all U.rows last) (U.values v h)

-- ---- block by block

pub ready-all : {f : List ℕ} {n : ℕ} → Ready CheckedRows f n → Ready CheckedRows f (length (netlist_of f))
ready-all {f} N = subst (Ready CheckedRows f) N.file.count N

-- The walk over the blocks has come to block k: memory was v and is w.
pub record BlocksWalked (f inputs : List ℕ) (s : Step) (v w : List ℕ) (k used : ℕ) : Type 0 where
  pub used-is : used ≡ place_among is_input (netlist_of f) (63 * k)
  pub room : length w ≡ length v
  pub values : ValuesStand f inputs s v (63 * k) w

module _ {f : List ℕ} {n : ℕ} (N : Ready CheckedRows f n) where
  -- The rows of a whole block, and those of the rest.
  pub block-rows : (k : ℕ) → k < n / 63 → BlockRows (length (netlist_of f)) (63 * k) (63 * k + 63) (4 + 512 * k)
  block-rows k less = record {
    block = record { starts = omega arith; offset = omega arith };
    from = omega arith;
    few = omega arith;
    within = omega (arith, N.file.count);
  }

  pub rest-rows : BlockRows (length (netlist_of f)) (63 * (n / 63)) n (4 + 512 * (n / 63))
  rest-rows = record {
    block = record { starts = omega arith; offset = omega arith };
    from = omega arith;
    few = omega arith;
    within = omega (arith, N.file.count);
  }

  pub block-small : (k : ℕ) → k ≤ n / 63 → 4 + 512 * k < 2 ^ 64
  block-small k h = omega (arith, N.file.few)

module _ {f inputs : List ℕ} {n : ℕ} {s : Step} {v : List ℕ} (N : Ready CheckedRows f n) (H : TwoHalves n s v) where
  pub blocks-none : BlocksWalked f inputs s v v 0 0
  blocks-none = record { used-is = refl; room = refl; values = evaluate-none f n N inputs s v }

  module _ {w : List ℕ} {k used : ℕ} (U : BlocksWalked f inputs s v w k used) where
    pub blocks-halves : TwoHalves (length (netlist_of f)) s w
    blocks-halves =
        let xs = values_before (netlist_of f) inputs v s (63 * k) in
        subst (λ (m : ℕ). TwoHalves m s w) N.file.count (halves-written n s v w s.current (bit_bytes xs) H (binary-bytes xs) U.values.values)

    -- One block more.
    pub blocks_more : {w' : List ℕ} {more : ℕ} → length w' ≡ length w → more ≡ place_among is_input (netlist_of f) (63 * k + 63) → ((u : List ℕ) → ValuesStand f inputs s u (63 * k) w → ValuesStand f inputs s u (63 * k + 63) w')
        → BlocksWalked f inputs s v w' (k + 1) more
    blocks_more {w'} e em put =
        let next : 63 * k + 63 ≡ 63 * (k + 1) = omega arith in
        record {
          used-is = em ∙ ap (place_among is_input (netlist_of f)) next;
          room = e ∙ U.room;
          values = subst (λ (i : ℕ). ValuesStand f inputs s v i w') next (put v U.values);
        }

    -- The rest too.
    pub blocks-all : k ≤ n / 63 → n / 63 ≤ k → {w' : List ℕ} → ((u : List ℕ) → ValuesStand f inputs s u (63 * (n / 63)) w → ValuesStand f inputs s u n w') → w' ≡ sets v s.current (bit_bytes (step_from (netlist_of f) inputs v s))
    blocks-all upto last {w'} put =
        let e : k ≡ n / 63 = omega arith in
        evaluate-all f n N inputs s v w' (put v (subst (λ (i : ℕ). ValuesStand f inputs s v (63 * i) w) e U.values))
