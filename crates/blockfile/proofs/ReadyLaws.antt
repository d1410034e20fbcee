-- An accepted file has rows, and is ready.
-- Assumes nothing.
use Prim.Native.Nat.{ℕ, ◌<◌, ◌≤◌}
use mathlib.Core.Path.{◌≡◌, refl, sym, subst}
use mathlib.Core.List.{List, map}
use native.Mathlib.Omega.{arith}
use lib.ListN.{length, length-map}
use Rattle.netlist.specs.Rows.{Row, RowFields, decode_row}
use Rattle.netlist.specs.FileFormat.{read_fields, fields_of, netlist_of}
use Rattle.netlist.proofs.FileLaws.{read_length, read_at, row-at}
use Rattle.questions.specs.Questions.{no_refusal, names_earlier, file_refusal}
use Rattle.questions.proofs.QuestionLaws.{number-none}
use Rattle.questions.proofs.PlainWords.{kind_right-iff}
use Rattle.questions.proofs.AcceptedFiles.{Operand, FileRight, file-right, last-count, rows-of-file}
use Rattle.blockfile.specs.Ready.{HasRows, Ready}

-- Question 6 of row i: its kind is one that there is.
known_at : (operand : Operand) (f : List ℕ) → FileRight operand f → (i : ℕ) → i < length (netlist_of f) → (read_fields f i).kind ≤ 6
unfolding netlist_of
known_at operand f F i h =
    subst (λ (w : RowFields). w.kind ≤ 6) (read_at f i (omega (arith, read_length f)))
    ((kind_right-iff (fields_of f) (map decode_row (fields_of f)) i).0 (F.rows i (omega (arith, length-map (fields_of f) decode_row))).kind).known

-- Whatever the operands of gates may name.
pub has-rows : (operand : Operand) (f : List ℕ) → FileRight operand f → HasRows f (length (netlist_of f))
has-rows operand f F =
    let s = F.size in
    let c = last-count f F.size F.blocks in
    let n = read_length f in
    record { count = refl; few = (rows-of-file operand f F).1; inside = λ i h. omega arith; row_is = λ i h. row-at f i (omega arith) }

pub ready-right : (operand : Operand) (P : List Row → Type 0) (f : List ℕ) → FileRight operand f → P (netlist_of f) → (n : ℕ) → n ≡ length (netlist_of f) → Ready P f n
ready-right operand P f F rows n e = subst (Ready P f) (sym e) (record { file = has-rows operand f F; known = known_at operand f F; rows = rows })

pub rows_of : (f : List ℕ) → file_refusal f ≡ no_refusal → HasRows f (length (netlist_of f))
rows_of f e = has-rows names_earlier f (file-right names_earlier f (number-none (file_refusal f) e))

pub rows-by : (f : List ℕ) (n : ℕ) → file_refusal f ≡ no_refusal → n ≡ length (netlist_of f) → HasRows f n
rows-by f n e q = subst (HasRows f) (sym q) (rows_of f e)
