-- What Run was given, where it refuses nothing, is what its steps are given.
-- Assumes nothing.
use Prim.Native.Nat.{ℕ}
use mathlib.Core.Path.{◌≡◌}
use mathlib.Core.Bool.{not, true}
use mathlib.Core.List.{List}
use native.Mathlib.Omega.{arith}
use native.Mathlib.Decide.{dec_lt}
use lib.ListN.{length, replicate, get_or-eq_default}
use borrow.Author.Tests.{leb-true}
use Rattle.memory.specs.Lists.{count_if}
use Rattle.memory.specs.Fields.{byte_at}
use Rattle.memory.proofs.TestLaws.{and-true}
use Rattle.memory.proofs.FieldLaws.{zeros-at}
use Rattle.netlist.specs.Limits.{most_steps}
use Rattle.netlist.specs.Rows.{is_input, is_output}
use Rattle.netlist.specs.FileFormat.{netlist_of}
use Rattle.netlist.specs.WellFormed.{CheckedRows}
use Rattle.questions.specs.Questions.{all_binary, names_earlier}
use Rattle.questions.proofs.PlainWords.{value_lists_right-iff, all_binary-iff, run_memory_right-iff}
use Rattle.questions.proofs.AcceptedFiles.{RunRight, file-checked}
use Rattle.blockfile.proofs.ReadyLaws.{ready-right}
use Rattle.row_values.specs.Values.{IsBinary}
use Rattle.simulate.specs.Steps.{Given}

-- Question 19 of a list.
pub binary-of : (vs : List ℕ) → all_binary vs ≡ true → IsBinary vs
binary-of vs e = record {
  each = λ i. elim (dec_lt i (length vs)) [
    | yes l ↦ (all_binary-iff vs).0 e i l
    | no l ↦ (let z : byte_at vs i ≡ 0 = get_or-eq_default vs 0 {n = i} (omega arith) in omega arith)
  ];
}

-- Cleared memory.
pub binary-zeros : (n : ℕ) → IsBinary (replicate n 0)
binary-zeros n = record { each = λ i. omega (arith, zeros-at n i) }

pub given-of : (f : List ℕ) (n nodes ins T : ℕ) (choices inputs result : List ℕ) (room : ℕ) → RunRight f T choices inputs (length result) room → n ≡ length (netlist_of f) → nodes ≡ count_if (λ r. not (is_output r)) (netlist_of f) → ins ≡ count_if is_input (netlist_of f) → Given f n nodes ins T choices inputs result
given-of f n nodes ins T choices inputs result room R er en ei =
    let lists = (value_lists_right-iff (netlist_of f) T choices inputs).0 R.lists in
    let values = and-true (all_binary choices) (all_binary inputs) R.values in
    record {
      netlist = ready-right names_earlier CheckedRows f R.file-right (file-checked f R.file-right) n er;
      few-steps = leb-true T most_steps R.steps;
      nodes-are = en;
      inputs_are = ei;
      choice-count = lists.0;
      choice-values = binary-of choices values.0;
      input-count = rw ei lists.1;
      input-values = binary-of inputs values.1;
      result-holds = ((run_memory_right-iff (netlist_of f) T (length result) room).0 R.memory).0;
    }
