-- The entire outcome of Count, for all arguments: the scope paper, "Operations and lent memory".
-- Interface: count_refusal, counts_answered, Counted.
-- Assumes nothing.
use Rattle.std.specs.Prelude.{ℕ, ◌≡◌, List, Result, Ok, Err}
use Rattle.netlist.specs.FileFormat.{netlist_of}
use Rattle.questions.specs.Questions.{Refusal, no_refusal, file_refusal, Counts, counts_of}
use Rattle.blockfile.specs.CountCode.{counts_in}
use Rattle.accept.specs.Refusals.{refusal_in}
use Rattle.blockfile.specs.declared.count.Counts as code
use Rattle.accept.specs.declared.FileRefusal.{FileRefusal}

abbrev pub count_refusal : Result code.Counts FileRefusal → Refusal
count_refusal (Ok _) = no_refusal
count_refusal (Err r) = refusal_in r

-- The counts that are answered; none for a refusal.
abbrev pub counts_answered : Result code.Counts FileRefusal → Counts
counts_answered (Ok c) = counts_in c
counts_answered (Err _) = record { nodes = 0; inputs = 0; registers = 0; unknown = 0; outputs = 0 }

pub record Counted (file : List ℕ) (answer : Result code.Counts FileRefusal) : Type 0 where
  pub refusal : count_refusal answer ≡ file_refusal file
  pub counts : file_refusal file ≡ no_refusal → counts_answered answer ≡ counts_of (netlist_of file)
