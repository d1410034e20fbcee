-- Rows by their layout: sources made of a file and of pairs, and what is known of a row of either.
-- Assumes nothing.
use Prim.Native.Nat.{ℕ, ◌+◌, ◌*◌, ◌<◌, ◌≤◌}
use mathlib.Core.Path.{◌≡◌, refl, sym, ap, ◌∙◌, subst}
use mathlib.Core.List.{List}
use native.Mathlib.Omega.{arith}
use lib.ListN.{length}
use Rattle.memory.specs.Fields.{byte_at}
use Rattle.memory.proofs.ListLaws.{tabulate-length, tabulate-at}
use Rattle.netlist.specs.Limits.{most_rows}
use Rattle.netlist.specs.Rows.{Row, RowFields, constant, encode_row, row_at, kind_of}
use Rattle.netlist.specs.FileFormat.{row_offset, read_fields, fields_of, netlist_of}
use Rattle.netlist.specs.WellFormed.{ResetIn, UnorderedRows}
use Rattle.netlist.proofs.FileLaws.{read_at, read_length}
use Rattle.questions.specs.Questions.{no_refusal, names_anywhere, unordered_refusal}
use Rattle.questions.proofs.QuestionLaws.{number-none}
use Rattle.questions.proofs.AcceptedFiles.{file-right, file-rows, rows-fields}
use Rattle.blockfile.specs.Ready.{Ready}
use Rattle.gate_rows.specs.Sources.{pair_count, pair_row, pair_rows, source_rows, FileStands, Stands, PairStands, Source}
use Rattle.gate_rows.specs.declared.Pairs.{Pairs}
use Rattle.gate_rows.specs.declared.Layout.{Layout}
use Rattle.gate_rows.specs.declared.Layout.TheVariants as layout

-- ---- the rows

pub file-is : (s : List ℕ) → source_rows layout.File s ≡ netlist_of s
unfolding source_rows
file-is s = refl

pub pairs-are : (c : Pairs) (s : List ℕ) → source_rows (layout.Pairs c) s ≡ pair_rows c s
unfolding source_rows
pairs-are c s = refl

pub pair-rows-length : (c : Pairs) (s : List ℕ) → length (pair_rows c s) ≡ pair_count c
pair-rows-length c s = tabulate-length (pair_count c) (pair_row c s)

pub pair-row-at : (c : Pairs) (s : List ℕ) (r : ℕ) → r < pair_count c → row_at (pair_rows c s) r ≡ pair_row c s r
pair-row-at c s r h = tabulate-at (pair_count c) (pair_row c s) r constant h

-- ---- sources

-- A file that passes questions 1 to 10, where gates may stand in any order.
pub file-source : (s : List ℕ) (n : ℕ) → Ready UnorderedRows s n → unordered_refusal s ≡ no_refusal → Source layout.File s n
unfolding source_rows netlist_of
file-source s n R e =
    let F = file-right names_anywhere s (number-none (unordered_refusal s) e) in
    record {
      stand = record {
        inside = λ i h. R.file.inside i (omega (arith, R.file.count, h));
        fields = λ i h. rows-fields names_anywhere (fields_of s) (file-rows names_anywhere s F) i h ∙ read_at s i (omega (arith, h, read_length s));
      };
      count = R.file.count;
      few = R.file.few;
      rows = R.rows;
    }

pub pairs-source : (c : Pairs) (s : List ℕ) (n : ℕ) → n ≡ pair_count c → n ≤ most_rows → 4 * n ≤ length s → UnorderedRows (pair_rows c s) → Source (layout.Pairs c) s n
unfolding source_rows
pairs-source c s n e few room U = record { stand = omega (arith, e, room); count = e ∙ sym (pair-rows-length c s); few = few; rows = U }

-- ---- a row of a source

module _ (l : Layout) (s : List ℕ) (row : ℕ) (S : Source l s (length (source_rows l s))) (h : row < length (source_rows l s)) where
  pub row-few : row < most_rows
  row-few = omega (arith, S.few, h)

  module _ (e : l ≡ layout.File) where
    as-file : source_rows l s ≡ netlist_of s
    as-file = ap (λ (x : Layout). source_rows x s) e ∙ file-is s

    stands : FileStands s
    stands = subst (λ (x : Layout). Stands x s) e S.stand

    in-file : row < length (netlist_of s)
    in-file = subst (λ (rows : List Row). row < length rows) as-file h

    pub file-inside : row_offset row + 8 ≤ length s
    file-inside = stands.inside row in-file

    pub file-fields : encode_row (row_at (source_rows l s) row) ≡ read_fields s row
    file-fields = ap (λ (rows : List Row). encode_row (row_at rows row)) as-file ∙ stands.fields row in-file

    pub file-row : (w : RowFields) → w ≡ read_fields s row → w ≡ encode_row (row_at (source_rows l s) row)
    file-row w q = q ∙ sym file-fields

    pub kind-inside : (o : ℕ) → o ≡ row_offset row → o < length s
    kind-inside o p = omega (arith, file-inside, p)

    pub file-kind : (o k : ℕ) → o ≡ row_offset row → k ≡ byte_at s o → k ≡ kind_of (row_at (source_rows l s) row)
    file-kind o k p q = q ∙ ap (byte_at s) p ∙ sym (ap (λ (w : RowFields). w.kind) file-fields)

  module _ (c : Pairs) (e : l ≡ layout.Pairs c) where
    as-pairs : source_rows l s ≡ pair_rows c s
    as-pairs = ap (λ (x : Layout). source_rows x s) e ∙ pairs-are c s

    pair_inside : row < pair_count c
    pair_inside = omega (arith, h, ap length as-pairs, pair-rows-length c s)

    pub pairs-few : pair_count c ≤ most_rows
    pairs-few = omega (arith, S.few, ap length as-pairs, pair-rows-length c s)

    pub pair_is : row_at (source_rows l s) row ≡ pair_row c s row
    pair_is = ap (λ (rows : List Row). row_at rows row) as-pairs ∙ pair-row-at c s row pair_inside

    pub pair-row : (w : RowFields) → w ≡ encode_row (pair_row c s row) → w ≡ encode_row (row_at (source_rows l s) row)
    pair-row w q = q ∙ sym (ap encode_row pair_is)

    pair-room : 4 * pair_count c ≤ length s
    pair-room = subst (λ (x : Layout). Stands x s) e S.stand

    pub pair-stands : PairStands c s row
    pair-stands = record {
      few = pairs-few;
      inside = pair_inside;
      room = omega (arith, pair-room, pair_inside);
      reset = subst ResetIn pair_is (S.rows.resets row h);
    }
