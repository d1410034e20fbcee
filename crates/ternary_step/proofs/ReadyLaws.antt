-- What the run asks follows from questions 1 to 13, and from a work memory that is long enough and cleared.
-- Assumes nothing.
use Prim.Native.Nat.{ℕ, ◌+◌, ◌≤◌}
use mathlib.Core.Path.{◌≡◌}
use mathlib.Core.List.{List, []}
use native.Mathlib.Omega.{arith}
use lib.ListN.{length, replicate}
use Rattle.memory.proofs.FieldLaws.{zeros-at}
use Rattle.netlist.specs.Limits.{fold_work_bytes}
use Rattle.netlist.specs.Rows.{Row}
use Rattle.netlist.specs.FileFormat.{netlist_of}
use Rattle.netlist.specs.WellFormed.{FoldableRows}
use Rattle.questions.specs.Questions.{names_earlier}
use Rattle.questions.proofs.AcceptedFiles.{FileRight, file-checked}
use Rattle.fold_questions.proofs.FoldAccepted.{OriginalRight, rows-foldable}
use Rattle.blockfile.specs.Ready.{Ready}
use Rattle.blockfile.proofs.ReadyLaws.{ready-right}
use Rattle.fold_memory.specs.WorkMap.{value_offset, state_offset}
use Rattle.ternary_step.specs.StateMap.{ClearedWork, Packed, state_codes, Started}
use Rattle.ternary_step.proofs.CodeLaws.{packed_none}

pub analysis-ready : (f : List ℕ) → FileRight names_earlier f → (n : ℕ) → n ≡ length (netlist_of f) → OriginalRight (netlist_of f) → Ready FoldableRows f n
analysis-ready f F n e O = ready-right names_earlier FoldableRows f F (rows-foldable (netlist_of f) (file-checked f F) O) n e

pub work-ready-of : (w : List ℕ) (n : ℕ) → w ≡ replicate n 0 → fold_work_bytes ≤ length w → ClearedWork w
work-ready-of w n e h = record { room = h; zero = λ x. rw e (zeros-at n x) }

zeros-packed : (w : List ℕ) → ClearedWork w → (t : ℕ) → Packed w (state_offset t) []
zeros-packed w R t = packed_none w (state_offset t) (λ k h. R.zero (state_offset t + k))

pub start-part : (rows : List Row) (w : List ℕ) → ClearedWork w → Started rows w 0
unfolding state_codes
start-part rows w R = let r = R.room in record {
  room = omega arith;
  coded = record { room = omega arith; code = λ x h. rw (R.zero (value_offset x)) (omega arith) };
  part = zeros-packed w R 0;
  nexts = λ x h e. absurd (omega arith);
  clear = λ t h l. zeros-packed w R t;
}
