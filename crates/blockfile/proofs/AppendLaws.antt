-- A row that stands; rows appended: none, one, those of two steps, and those of a loop.
-- Assumes nothing.
use Prim.Native.Nat.{ℕ, zero, suc, ◌+◌, ◌<◌, ◌≤◌}
use mathlib.Core.Path.{◌≡◌, sym, ap, ◌∙◌, subst}
use mathlib.Core.List.{List, [], ◌∷◌, ◌++◌, append_assoc, append-nil}
use native.Mathlib.Omega.{arith}
use native.Mathlib.Numerals.{add-one}
use lib.ListN.{length, length-append}
use lib.Seq.{sets}
use Rattle.memory.specs.Lists.{join_below}
use Rattle.memory.specs.Fields.{byte_at}
use Rattle.memory.proofs.TestLaws.{last_or}
use Rattle.netlist.specs.Rows.{Row, RowFields, encode_row, kind_of}
use Rattle.netlist.specs.FileFormat.{row_offset, field_bytes}
use Rattle.blockfile.specs.RowsStand.{RowsStand}
use Rattle.blockfile.specs.Appending.{RowStands, Appended}
use Rattle.blockfile.proofs.StandLaws.{stand-more}

-- The first byte of a row that stands is its kind.
pub kind-byte : (r : Row) (j : ℕ) (f : List ℕ) → RowStands r j f → byte_at f (row_offset j) ≡ kind_of r
kind-byte r j f s = let e : row_offset j + 0 ≡ row_offset j = omega arith in rw e at (s 0 (omega arith))

-- ---- rows appended

pub append-none : (buffer : List ℕ) (m : ℕ) → Appended [] buffer buffer m m
append-none buffer m = record { counted = omega arith; stands = λ rows e s. subst (λ (z : List Row). RowsStand z buffer) (sym (append-nil rows)) s }

-- What `append_row` does, of the fields of the row r.
pub append-one : (r : Row) (fields : RowFields) (buffer buffer' : List ℕ) (m n : ℕ) → fields ≡ encode_row r → row_offset m + 8 ≤ length buffer → (buffer' ≡ sets buffer (row_offset m) (field_bytes fields)) × (n ≡ m + 1)
    → Appended (r ∷ []) buffer buffer' m n
append-one r fields buffer buffer' m n e h t = record {
  counted = t.1;
  stands = λ rows q s. subst (RowsStand (rows ++ (r ∷ []))) (sym (t.0 ∙ ap (λ (z : RowFields). sets buffer (row_offset m) (field_bytes z)) e)) (stand-more rows buffer m r q h s);
}

pub append-more : (xs ys : List Row) (buffer buffer' buffer'' : List ℕ) (m m' m'' : ℕ) → Appended xs buffer buffer' m m' → Appended ys buffer' buffer'' m' m'' → Appended (xs ++ ys) buffer buffer'' m m''
append-more xs ys buffer buffer' buffer'' m m' m'' A B = record {
  counted = omega (arith, A.counted, B.counted, length-append xs ys);
  stands = λ rows e s.
      let l = length-append rows xs in
      subst (λ (z : List Row). RowsStand z buffer'') (append_assoc rows xs ys) (B.stands (rows ++ xs) (omega (arith, A.counted)) (A.stands rows e s));
}

-- ---- a loop that appends f i in its i-th turn

join-grows : (f : ℕ → List Row) (i n : ℕ) → i ≤ n → length (join_below i f) ≤ length (join_below n f)
join-grows f i zero h = let e : i ≡ 0 = omega arith in rw e (omega arith)
join-grows f i (suc n) h =
    last_or i (suc n) (omega arith) (λ l. omega (arith, join-grows f i n (omega arith), length-append (join_below n f) (f n))) (λ e. rw e (omega arith))

module _ (f : ℕ → List Row) (i : ℕ) (buffer₀ buffer : List ℕ) (count m : ℕ) (A : Appended (join_below i f) buffer₀ buffer count m) where
  -- Where there is room for all turns, there is for this one.
  pub join-fits : (n most : ℕ) → i < n → count + length (join_below n f) ≤ most → m + length (f i) ≤ most
  join-fits n most h l = omega (arith, A.counted, join-grows f (suc i) n h, length-append (join_below i f) (f i))

  pub join_more : (buffer' : List ℕ) (m' : ℕ) → Appended (f i) buffer buffer' m m' → Appended (join_below (i + 1) f) buffer₀ buffer' count m'
  join_more buffer' m' B = rw (add-one i) (append-more (join_below i f) (f i) buffer₀ buffer buffer' count m m' A B)

  -- After the last turn.
  pub join-all : (turns n : ℕ) → turns ≡ n → i ≤ turns → turns ≤ i → Appended (join_below n f) buffer₀ buffer count m
  join-all turns n e a b = let q : i ≡ n = omega arith in subst (λ (z : ℕ). Appended (join_below z f) buffer₀ buffer count m) q A
