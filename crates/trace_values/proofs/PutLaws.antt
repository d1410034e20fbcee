-- What is written is what the original is given.
-- Assumes nothing.
use Prim.Native.Nat.{ℕ, ◌+◌, ◌*◌, ◌≤◌}
use mathlib.Core.Path.{◌≡◌, sym, ap, ◌∙◌, subst}
use mathlib.Core.Bool.{true, false}
use mathlib.Core.List.{List, ◌++◌}
use native.Mathlib.Omega.{arith}
use native.Mathlib.Decide.{dec_lt}
use native.Mathlib.Nat.{mul-le-mul}
use lib.ListN.{length, length-append, drop, get_or-eq_default}
use lib.Seq.{sets, sets-eq}
use Rattle.memory.specs.Lists.{join_below, count_if}
use Rattle.memory.specs.Slots.{slot_at}
use Rattle.netlist.specs.Rows.{is_input, is_unknown}
use Rattle.netlist.specs.FileFormat.{netlist_of}
use Rattle.netlist.specs.RunLayout.{values_from_bytes, choice_bytes, input_bytes}
use Rattle.questions.specs.Questions.{all_binary}
use Rattle.questions.proofs.PlainWords.{all_binary-iff}
use Rattle.netlist.specs.Simulation.{RunValues}
use Rattle.netlist.proofs.LayoutLaws.{choices-length, inputs-length}
use Rattle.memory.proofs.BufferLaws.{sets-join}
use Rattle.traces.specs.Trace.{traced_values, trace_bytes}
use Rattle.traces.specs.TraceAnswer.{trace_after}
use Rattle.trace_columns.specs.Columns.{LabelsListed, ColumnsOf}
use Rattle.trace_columns.specs.TraceValues.{values_in, step_in, ValuesReady, StepsReady}
use Rattle.trace_values.specs.Pairs.{FoldedPair, Mapped, ChoicesGiven, InputsGiven, TraceGiven}
use Rattle.trace_values.proofs.KeptLaws.{few-labels, few-rows}
use Rattle.trace_values.proofs.TakenLaws.{Bits, choices-taken, inputs-taken, columns-kept}

all-bits : (vs : List ℕ) → all_binary vs ≡ true → Bits vs
all-bits vs h d = elim (dec_lt d (length vs)) [
  | yes l ↦ (all_binary-iff vs).0 h d l
  | no l ↦ omega (arith, get_or-eq_default vs 0 {n = d} (omega arith))
]

module _ (file folded : List ℕ) (n m N : ℕ) (F : FoldedPair file folded n m N) (labels columns : List ℕ) (count : ℕ) where
  module _ (M : Mapped file folded n m N true labels columns count) (choices trace : List ℕ) (G : ChoicesGiven (netlist_of file) (netlist_of folded) choices trace) where
    abbrev columns_at : ColumnsOf is_unknown (netlist_of folded) (length (netlist_of folded)) 1 labels (count_if is_unknown (netlist_of file)) columns
    columns_at = subst (λ (z : ℕ). ColumnsOf is_unknown (netlist_of folded) z 1 labels (count_if is_unknown (netlist_of file)) columns) F.kept.count (subst (λ (z : ℕ). ColumnsOf is_unknown (netlist_of folded) m 1 labels z columns) M.count-is M.maps)

    pub values-ready : ValuesReady columns 0 count choices 0 trace 0
    values-ready = record {
      slots = omega (arith, M.room, M.count-is, few-labels file folded n m N F true);
      there = λ x l.
          let e : 0 + x ≡ x = omega arith in
          let z : 1 * count_if is_unknown (netlist_of file) ≡ count_if is_unknown (netlist_of file) = omega arith in
          let k = columns-kept is_unknown (netlist_of folded) 1 labels (count_if is_unknown (netlist_of file)) columns columns_at x (omega (arith, M.count-is, z)) in
          omega (arith, ap (slot_at columns) e, k, G.count);
      room = omega (arith, M.count-is, G.room);
    }

    pub choices-put : (trace' : List ℕ) → trace' ≡ sets trace 0 (values_in columns 0 count choices 0) → (inputs : List ℕ) → trace' ≡ sets trace 0 (choice_bytes (netlist_of file) (traced_values N (netlist_of folded) (values_from_bytes (netlist_of folded) choices inputs)))
    choices-put trace' e inputs =
        e ∙ ap (λ (z : ℕ). sets trace 0 (values_in columns 0 z choices 0)) M.count-is
        ∙ ap (λ (w : List ℕ). sets trace 0 w) (sym (choices-taken (netlist_of folded) N choices inputs (netlist_of file) labels columns F.kept-unique (all-bits choices G.binary) (subst (λ (z : ℕ). LabelsListed is_unknown (netlist_of file) z labels) F.original.count M.lists) columns_at))

  module _ (M : Mapped file folded n m N false labels columns count) (kept T : ℕ) (inputs trace : List ℕ) (to : ℕ) (G : InputsGiven (netlist_of file) (netlist_of folded) N kept T inputs trace to) where
    abbrev inputs_at : ColumnsOf is_input (netlist_of folded) (length (netlist_of folded)) N labels (count_if is_input (netlist_of file)) columns
    inputs_at = subst (λ (z : ℕ). ColumnsOf is_input (netlist_of folded) z N labels (count_if is_input (netlist_of file)) columns) F.kept.count (subst (λ (z : ℕ). ColumnsOf is_input (netlist_of folded) m N labels z columns) M.count-is M.maps)

    pub steps-ready : StepsReady columns count N kept T inputs trace to
    steps-ready = record {
      some-phase = F.phases.0;
      slots = omega (arith, M.room, mul-le-mul F.phases.1 (few-labels file folded n m N F false), ap (λ (z : ℕ). N * z) M.count-is);
      kept-columns = λ j l. omega (arith, columns-kept is_input (netlist_of folded) N labels (count_if is_input (netlist_of file)) columns inputs_at j (omega (arith, l, ap (λ (z : ℕ). N * z) M.count-is)), G.kept-is);
      groups = G.groups;
      room = omega (arith, G.room, ap (λ (z : ℕ). T * z) M.count-is);
      few-each = omega (arith, M.count-is, few-labels file folded n m N F false);
      few-kept = omega (arith, G.kept-is, few-rows file folded n m N F);
      few-phases = F.phases.1;
      few-steps = G.few-steps;
      few-before = G.few-before;
    }

    pub inputs-put : (trace' : List ℕ) → trace' ≡ sets trace to (join_below T (step_in columns count N kept inputs)) → (choices : List ℕ) → trace' ≡ sets trace to (input_bytes (netlist_of file) (traced_values N (netlist_of folded) (values_from_bytes (netlist_of folded) choices inputs)) T)
    inputs-put trace' e choices =
        e ∙ ap (λ (z : ℕ). sets trace to (join_below T (step_in columns z N kept inputs))) M.count-is
        ∙ ap (λ (z : ℕ). sets trace to (join_below T (step_in columns (count_if is_input (netlist_of file)) N z inputs))) G.kept-is
        ∙ ap (λ (w : List ℕ). sets trace to w) (sym (inputs-taken (netlist_of folded) N choices inputs (netlist_of file) labels columns (all-bits inputs G.binary) F.phases.0 (subst (λ (z : ℕ). LabelsListed is_input (netlist_of file) z labels) F.original.count M.lists) inputs_at T))

-- ---- choices, then inputs

module _ (file folded : List ℕ) (n m N : ℕ) (F : FoldedPair file folded n m N) (kept T : ℕ) (choices inputs trace : List ℕ) (to : ℕ) (G : TraceGiven (netlist_of file) (netlist_of folded) N kept T choices inputs trace to) where
  abbrev run : RunValues
  run = traced_values N (netlist_of folded) (values_from_bytes (netlist_of folded) choices inputs)

  pub trace-put : (t t' : List ℕ)
      → ((is : List ℕ) → t ≡ sets trace 0 (choice_bytes (netlist_of file) (traced_values N (netlist_of folded) (values_from_bytes (netlist_of folded) choices is))))
      → ((cs : List ℕ) → t' ≡ sets t to (input_bytes (netlist_of file) (traced_values N (netlist_of folded) (values_from_bytes (netlist_of folded) cs inputs)) T))
      → t' ≡ trace_after (trace_bytes (netlist_of file) N (netlist_of folded) T choices inputs) trace
  unfolding trace_bytes
  trace-put t t' e e' =
      let C = choice_bytes (netlist_of file) run in
      let I = input_bytes (netlist_of file) run T in
      let c : length C ≡ count_if is_unknown (netlist_of file) = choices-length (netlist_of file) run in
      let i : length I ≡ T * count_if is_input (netlist_of file) = inputs-length (netlist_of file) run T in
      let p : to ≡ 0 + length C = omega (arith, c, G.before) in
      let z : 0 + length (C ++ I) ≡ length (C ++ I) = omega arith in
      let fits : 0 + length (C ++ I) ≤ length trace = omega (arith, length-append C I, c, i, G.before, G.inputs-given.room) in
      e' choices ∙ ap (λ (w : List ℕ). sets w to I) (e inputs) ∙ ap (λ (k : ℕ). sets (sets trace 0 C) k I) p ∙ sets-join C I trace 0
      ∙ sets-eq (C ++ I) trace 0 fits ∙ ap (λ (k : ℕ). (C ++ I) ++ drop k trace) z
