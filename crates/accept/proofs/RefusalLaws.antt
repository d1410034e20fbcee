-- The refusals of Check's parts: the first no of blocks or rows asked in turn, and of the parts one after the other.
-- Assumes nothing.
use Prim.Native.Nat.{ℕ, zero, suc, ◌+◌, ◌-◌, ◌*◌, ◌<◌, ◌≤◌}
use mathlib.Core.Path.{◌≡◌, refl, sym, ap, ap₂, ◌∙◌}
use mathlib.Core.Bool.{Bool, true, false, cond, not}
use mathlib.Core.List.{List, [], ◌∷◌}
use native.Mathlib.Omega.{arith}
use lib.ListN.{length, take, drop}
use lib.Dec.{ltb}
use borrow.Author.Count.{below_more}
use borrow.Author.Tests.{lt-ltb, le-ltb, not-true, not-false}
use Rattle.memory.proofs.ListLaws.{first_found}
use Rattle.netlist.specs.Limits.{most_rows}
use Rattle.netlist.specs.Rows.{Row}
use Rattle.netlist.specs.FileFormat.{block_count, fields_of, netlist_of}
use Rattle.netlist.specs.WellFormed.{UnorderedRows}
use Rattle.questions.specs.Questions.{Refusal, Counts, counts_of, no_refusal, first_refusal, item_questions, length_right, block_questions, names_anywhere, rows_refusal, file_refusal_with, file_refusal, unordered_refusal}
use Rattle.questions.proofs.QuestionLaws.{list-next, list-stop, number-none, items-yes, list-yes}
use Rattle.blockfile.specs.Ready.{HasRows, Ready}
use Rattle.blockfile.specs.CountCode.{counts_in, EachAtMost}
use Rattle.blockfile.proofs.ReadyLaws.{ready-right, rows-by}
use Rattle.blockfile.proofs.CountLaws.{counts-small, most-more, counts_all}
use Rattle.questions.proofs.AcceptedFiles.{Operand, file-right, file-unordered}
use Rattle.std.specs.Prelude.{Result, Ok, Err, IsErrAnd}
use Rattle.blocks.specs.declared.BlockRefusal.{BlockRefusal}
use Rattle.blocks.specs.declared.BlockRefusal.TheVariants as block
use Rattle.blocks.specs.BlockCode.{question_of, block_number}
use Rattle.accept.specs.declared.FileRefusal.{FileRefusal}
use Rattle.accept.specs.declared.FileRefusal.TheVariants.{Length, Sum, Header, RowCount, Unused, Kind, Field, Label, Literal, NoOutput}
use Rattle.accept.specs.declared.Accepted.{Accepted}
use Rattle.accept.specs.Refusals.{number_of, refusal_in, accept_refusal, Answered, CheckedUnordered}
use Rattle.accept.specs.Parts.{part_refusal, refusal_at, block_asked, blocks_refusal}

pub number-positive : (x : FileRefusal) → 0 < number_of x
number-positive Length = omega arith
number-positive (Sum _) = omega arith
number-positive (Header _) = omega arith
number-positive (RowCount _) = omega arith
number-positive (Unused _) = omega arith
number-positive (Kind _) = omega arith
number-positive (Field _) = omega arith
number-positive (Label _) = omega arith
number-positive (Literal _) = omega arith
number-positive NoOutput = omega arith

question-positive : (x : BlockRefusal) → 0 < question_of x
question-positive block.Sum = omega arith
question-positive block.Header = omega arith
question-positive block.RowCount = omega arith
question-positive block.Unused = omega arith

-- ---- items asked in turn: all before item i are right

module _ (n : ℕ) (f : ℕ → ℕ) (i : ℕ) (more : i < n) (before : (j : ℕ) → j < i → f j ≡ 0) where
  items_at : 0 < f i → item_questions n f ≡ record { number = f i; place = i }
  items_at p =
      let t : ℕ → Bool = λ j. ltb 0 (f j) in
      let e = first_found 0 n t i (omega arith) (omega arith) (λ j _ k. le-ltb 0 (f j) (omega (arith, before j k))) (lt-ltb 0 (f i) p) in
      ap (λ (j : ℕ). cond (ltb j n) (record { number = f j; place = j }) no_refusal) e ∙ ap (λ (b : Bool). cond b (record { number = f i; place = i }) no_refusal) (lt-ltb i n more)

  module _ (a : Result Unit FileRefusal) (asked : part_refusal a ≡ refusal_at (f i) i) where
    -- A refusal of item i is the items' first.
    pub items-stop : (x : FileRefusal) → a ≡ Err x → refusal_in x ≡ item_questions n f
    items-stop x e = go (f i) refl (sym (ap part_refusal e) ∙ asked)
      where
        go : (m : ℕ) → f i ≡ m → refusal_in x ≡ refusal_at m i → refusal_in x ≡ item_questions n f
        go zero q r = absurd (omega (arith, number-positive x, number-none (refusal_in x) r))
        go (suc m) q r = r ∙ ap (λ (k : ℕ). record { number = k; place = i }) (sym q) ∙ sym (items_at (omega (arith, q)))

    -- Else item i is right too.
    pub items-again : (u : Unit) → a ≡ Ok u → (j : ℕ) → j < i + 1 → f j ≡ 0
    items-again u e = below_more (λ j. f j ≡ 0) i before (go (f i) refl (sym (ap part_refusal e) ∙ asked))
      where
        go : (m : ℕ) → f i ≡ m → no_refusal ≡ refusal_at m i → f i ≡ 0
        go zero q r = q
        go (suc m) q r = absurd (omega (arith, number-none (refusal_at (suc m) i) (sym r)))

-- ---- blocks asked in turn: the part that is handed to the check is the block

module _ (f : List ℕ) (blocks : ℕ) (size : length f ≡ 512 * blocks) where
  pub blocks_end : (n : ℕ) → blocks ≤ n → ((B : ℕ) → B < n → block_asked f B ≡ 0) → no_refusal ≡ blocks_refusal f
  blocks_end n l before = sym (items-yes (block_count f) (block_asked f) (λ B k. before B (omega arith)))

  module _ (n : ℕ) (more : n < blocks) (before : (B : ℕ) → B < n → block_asked f B ≡ 0) (b : Result Unit BlockRefusal) (found : block_number b ≡ block_questions blocks n (take (512 * n + 512 - 512 * n) (drop (512 * n) f))) where
    block-found : block_number b ≡ block_asked f n
    block-found =
        let e : 512 * n + 512 - 512 * n ≡ 512 = omega arith in
        let k : blocks ≡ block_count f = omega arith in
        found ∙ ap₂ (λ (k m : ℕ). block_questions k n (take m (drop (512 * n) f))) k e

    pub blocks-stop : (r : BlockRefusal) → b ≡ Err r → (x : FileRefusal) → refusal_in x ≡ record { number = question_of r; place = n } → refusal_in x ≡ blocks_refusal f
    blocks-stop r e x told =
        let q : question_of r ≡ block_asked f n = sym (ap block_number e) ∙ block-found in
        told ∙ ap (λ (k : ℕ). record { number = k; place = n }) q ∙ sym (items_at (block_count f) (block_asked f) n (omega arith) before (omega (arith, q, question-positive r)))

    pub blocks-again : (u : Unit) → b ≡ Ok u → (B : ℕ) → B < n + 1 → block_asked f B ≡ 0
    blocks-again u e = below_more (λ B. block_asked f B ≡ 0) n before (sym block-found ∙ ap block_number e)

-- ---- the answer, refused or accepted

-- What `?` hands on.
pub handed-on : {T E : Type 0} {x : E} (r : Result T E) → IsErrAnd r (λ y. y ≡ x) → r ≡ Err x
handed-on (Err y) e = ap Err e
handed-on (Ok _) e = absurd e

not-both : {x : FileRefusal} {y : Accepted} → Err x ≡ Ok y → ⊥
not-both {x = x} e = omega (arith, number-positive x, ap (λ (a : Result Accepted FileRefusal). (accept_refusal a).number) e)

pub answered-no : (q : Refusal) (rows : List Row) (x : FileRefusal) → refusal_in x ≡ q → Answered q rows (Err x)
answered-no q rows x e = record { refusal = e; count = λ y h. absurd (not-both h); counts = λ y h. absurd (not-both h) }

pub answered-yes : (q : Refusal) (rows : List Row) (y : Accepted) → no_refusal ≡ q → y.rows ≡ length rows → counts_in y.counts ≡ counts_of rows → Answered q rows (Ok y)
answered-yes q rows y e count counts = record { refusal = e; count = λ z h. sym (ap rows_in h) ∙ count; counts = λ z h. sym (ap sorts_in h) ∙ counts }
  where
    rows_in : Result Accepted FileRefusal → ℕ
    rows_in (Ok z) = z.rows
    rows_in (Err x) = 0

    sorts_in : Result Accepted FileRefusal → Counts
    sorts_in (Ok z) = counts_in z.counts
    sorts_in (Err x) = counts_of []

-- ---- the parts of Check, one after the other

-- What Check answers, whatever the operands of gates may name.
abbrev Check : Operand → List ℕ → Result Accepted FileRefusal → Type 0
Check operand f a = Answered (file_refusal_with operand f) (netlist_of f) a

-- Question 1 was answered with b, then the blocks' with a.
module _ (operand : Operand) (f : List ℕ) (b : Bool) (told : b ≡ length_right f) where
  pub length-no : not b ≡ true → Check operand f (Err Length)
  unfolding file_refusal_with
  length-no h = answered-no (file_refusal_with operand f) (netlist_of f) Length (rw (← told, not-true b h))

  module _ (h : not b ≡ false) (a : Result Unit FileRefusal) (asked : part_refusal a ≡ blocks_refusal f) where
    right : length_right f ≡ true
    right = sym told ∙ not-false b h

    pub blocks-no : (x : FileRefusal) → a ≡ Err x → Check operand f (Err x)
    unfolding file_refusal_with
    blocks-no x e =
        let q : refusal_in x ≡ blocks_refusal f = sym (ap part_refusal e) ∙ asked in
        let p : 0 < (blocks_refusal f).number = omega (arith, number-positive x, ap (λ (y : Refusal). y.number) q) in
        answered-no (file_refusal_with operand f) (netlist_of f) x
        (q ∙ sym (list-yes 1 (length_right f) (blocks_refusal f ∷ rows_refusal operand (fields_of f) ∷ []) right ∙ list-stop (blocks_refusal f) (rows_refusal operand (fields_of f) ∷ []) p))

    pub rows_last : (u : Unit) → a ≡ Ok u → (b : Result Accepted FileRefusal) → Answered (rows_refusal operand (fields_of f)) (netlist_of f) b → Check operand f b
    unfolding file_refusal_with
    rows_last u e b A =
        let none : (blocks_refusal f).number ≡ 0 = number-none (blocks_refusal f) (sym asked ∙ ap part_refusal e) in
        let first =
        list-yes 1 (length_right f) (blocks_refusal f ∷ rows_refusal operand (fields_of f) ∷ []) right
        ∙ list-next (blocks_refusal f) (rows_refusal operand (fields_of f) ∷ []) none
        ∙ ap (λ (q : Refusal). first_refusal (q ∷ [])) (sym A.refusal)
        ∙ last b in
        record { refusal = sym first; count = A.count; counts = A.counts }
      where
        last : (b : Result Accepted FileRefusal) → first_refusal (accept_refusal b ∷ []) ≡ accept_refusal b
        last (Ok _) = refl
        last (Err x) = list-stop (refusal_in x) [] (number-positive x)

-- ---- what Check's answer says of the file

module _ (file : List ℕ) (a : Result Accepted FileRefusal) (A : Answered (file_refusal file) (netlist_of file) a) where
  pub refused-is : (x : FileRefusal) → a ≡ Err x → refusal_in x ≡ file_refusal file
  refused-is x e = sym (ap accept_refusal e) ∙ A.refusal

  pub file-stops : (qs : List Refusal) (x : FileRefusal) → a ≡ Err x → first_refusal (file_refusal file ∷ qs) ≡ refusal_in x
  file-stops qs x e = let q = refused-is x e in list-stop (file_refusal file) qs (omega (arith, number-positive x, ap (λ (y : Refusal). y.number) q)) ∙ sym q

  module _ (y : Accepted) (e : a ≡ Ok y) where
    pub accepted-none : file_refusal file ≡ no_refusal
    accepted-none = sym A.refusal ∙ ap accept_refusal e

    -- In a list of questions that begins with those of the file.
    pub file-passes : (qs : List Refusal) → first_refusal (file_refusal file ∷ qs) ≡ first_refusal qs
    file-passes qs = list-next (file_refusal file) qs (number-none (file_refusal file) accepted-none)

    pub accepted-rows : HasRows file y.rows
    accepted-rows = rows-by file y.rows accepted-none (A.count y e)

    pub accepted-counts : counts_in y.counts ≡ counts_of (netlist_of file)
    accepted-counts = A.counts y e

    pub accepted-few : EachAtMost (counts_in y.counts) most_rows
    accepted-few = most-more (counts_in y.counts) y.rows most_rows accepted-rows.few (counts-small (netlist_of file) y.rows (counts_in y.counts) (accepted-counts ∙ sym (counts_all (netlist_of file) y.rows (A.count y e))))

-- The same of a file whose gates may stand in any order: it is ready.
pub unordered-ready : (file : List ℕ) (a : Result Accepted FileRefusal) → CheckedUnordered file a → (y : Accepted) → a ≡ Ok y → Ready UnorderedRows file y.rows
unordered-ready file a A y e =
    let F = file-right names_anywhere file (number-none (unordered_refusal file) (sym A.refusal ∙ ap accept_refusal e)) in
    ready-right names_anywhere UnorderedRows file F (file-unordered file F) y.rows (A.count y e)
