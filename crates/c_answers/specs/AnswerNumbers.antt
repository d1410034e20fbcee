-- The answers that C callers get, as numbers: those of the scope paper, "Questions, in order" and "Operations and lent memory".
-- Interface: interface_number, refusal_numbers, accepted_counts, refused_counts, folded_numbers, written_numbers, traced_numbers.
-- Assumes nothing.
use Rattle.std.specs.Prelude.{ℕ, Result}
use Rattle.questions.specs.Questions.{Refusal, Counts}
use Rattle.fold_answers.specs.FoldAnswers.{folding_refusal, numbers_in}
use Rattle.fold_answers.specs.declared.FoldNumbers.{FoldNumbers}
use Rattle.fold_refusals.specs.declared.FoldRefusal.{FoldRefusal}
use Rattle.trace_answers.specs.TraceAnswers.{tracing_refusal, steps_in}
use Rattle.trace_answers.specs.declared.TraceRefusal.{TraceRefusal}
use Rattle.c_answers.specs.declared.PfRefusal.{PfRefusal}
use Rattle.c_answers.specs.declared.PfCounts.{PfCounts}
use Rattle.c_answers.specs.declared.PfFolded.{PfFolded}
use Rattle.c_answers.specs.declared.PfWritten.{PfWritten}
use Rattle.c_answers.specs.declared.PfTraced.{PfTraced}

-- Another number for every change of what C callers are compiled with: PF_VERSION of the header.
abbrev pub interface_number : ℕ
interface_number = 6

abbrev pub refusal_numbers : Refusal → PfRefusal
refusal_numbers q = record { number = q.number; place = q.place }

-- The counts of an accepted file; the refusal and zeros of any other.
abbrev pub accepted_counts : Counts → PfCounts
accepted_counts c = record { number = 0; place = 0; nodes = c.nodes; inputs = c.inputs; registers = c.registers; unknown = c.unknown; outputs = c.outputs }

abbrev pub refused_counts : Refusal → PfCounts
refused_counts q = record { number = q.number; place = q.place; nodes = 0; inputs = 0; registers = 0; unknown = 0; outputs = 0 }

-- The refusal's number and place, and the fold's numbers.
abbrev pub folded_numbers : Result FoldNumbers FoldRefusal → PfFolded
folded_numbers a =
    let q = folding_refusal a in
    let n = numbers_in a in
    record { number = q.number; place = q.place; stem = n.stem; cycle = n.cycle; phases = n.phases; used = n.used; before = n.before; after = n.after }

-- The refusal, and the rows of the file that was written.
abbrev pub written_numbers : Refusal → ℕ → PfWritten
written_numbers q n = record { number = q.number; place = q.place; rows = n }

-- The refusal, and the steps of the trace.
abbrev pub traced_numbers : Result ℕ TraceRefusal → PfTraced
traced_numbers a = let q = tracing_refusal a in record { number = q.number; place = q.place; steps = steps_in a }
