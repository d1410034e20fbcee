-- The answers as the scope paper's refusals, number and place, and what an acceptance says.
-- Interface: accept_refusal, Answered, Checked, CheckedUnordered.
-- Assumes nothing.
use Rattle.std.specs.Prelude.{ℕ, ◌≡◌, List, length, Result, Ok, Err}
use Rattle.netlist.specs.Rows.{Row}
use Rattle.netlist.specs.FileFormat.{netlist_of}
use Rattle.questions.specs.Questions.{Refusal, no_refusal, file_refusal, unordered_refusal, counts_of}
use Rattle.blockfile.specs.CountCode.{counts_in}
use Rattle.accept.specs.declared.FileRefusal.{FileRefusal}
use Rattle.accept.specs.declared.FileRefusal.TheVariants.{Length, Sum, Header, RowCount, Unused, Kind, Field, Label, Literal, NoOutput}
use Rattle.accept.specs.declared.Accepted.{Accepted}

-- The question answered with no.
abbrev pub number_of : FileRefusal → ℕ
number_of Length = 1
number_of (Sum b) = 2
number_of (Header b) = 3
number_of (RowCount b) = 4
number_of (Unused b) = 5
number_of (Kind r) = 6
number_of (Field r) = 7
number_of (Label r) = 8
number_of (Literal r) = 9
number_of NoOutput = 10

-- The block or the row; 0 where neither is asked.
abbrev pub place_of : FileRefusal → ℕ
place_of Length = 0
place_of (Sum b) = b
place_of (Header b) = b
place_of (RowCount b) = b
place_of (Unused b) = b
place_of (Kind r) = r
place_of (Field r) = r
place_of (Label r) = r
place_of (Literal r) = r
place_of NoOutput = 0

abbrev pub refusal_in : FileRefusal → Refusal
refusal_in r = record { number = number_of r; place = place_of r }

abbrev pub accept_refusal : Result Accepted FileRefusal → Refusal
accept_refusal (Ok _) = no_refusal
accept_refusal (Err r) = refusal_in r

-- The answer to questions of which q is the first no, about a file of these rows.
pub record Answered (q : Refusal) (rows : List Row) (answer : Result Accepted FileRefusal) : Type 0 where
  pub refusal : accept_refusal answer ≡ q
  pub count : (a : Accepted) → answer ≡ Ok a → a.rows ≡ length rows
  pub counts : (a : Accepted) → answer ≡ Ok a → counts_in a.counts ≡ counts_of rows

-- The entire outcome of Check, for all files.
abbrev pub Checked : List ℕ → Result Accepted FileRefusal → Type 0
Checked file answer = Answered (file_refusal file) (netlist_of file) answer

-- The same where gates may stand in any order.
abbrev pub CheckedUnordered : List ℕ → Result Accepted FileRefusal → Type 0
CheckedUnordered file answer = Answered (unordered_refusal file) (netlist_of file) answer
