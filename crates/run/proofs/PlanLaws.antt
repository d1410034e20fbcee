-- Run's questions by the counts, in order.
-- Assumes nothing.
use Prim.Native.Nat.{ℕ, ◌+◌, ◌*◌, ◌^◌, ◌<◌, ◌≤◌}
use mathlib.Core.Path.{◌≡◌, refl, sym, ap, ◌∙◌}
use mathlib.Core.Bool.{Bool, true, false, not, ◌&&◌}
use mathlib.Core.List.{List, [], ◌∷◌}
use native.Mathlib.Omega.{arith}
use native.Mathlib.Nat.{mul-le-mul_right}
use native.Mathlib.Numerals.{add-one}
use lib.Dec.{eqb, leb}
use lib.ListN.{length}
use borrow.Author.Tests.{le-leb, lt-leb, not-true, not-false}
use Rattle.memory.specs.Lists.{all_below}
use Rattle.memory.specs.Fields.{byte_at}
use Rattle.netlist.specs.Limits.{most_rows, most_steps, row_work_bytes}
use Rattle.netlist.specs.Rows.{Row, constant, is_output}
use Rattle.netlist.specs.FileFormat.{netlist_of}
use Rattle.questions.specs.Questions.{Refusal, first_refusal, question, file_refusal, Counts, counts_of, value_lists_right, all_binary, run_memory_right, run_refusal}
use Rattle.questions.proofs.QuestionLaws.{list-yes, list-no}
use Rattle.blockfile.specs.CountCode.{counts_in}
use Rattle.accept.specs.Refusals.{Answered}
use Rattle.accept.specs.declared.FileRefusal.{FileRefusal}
use Rattle.std.specs.Prelude.{Result, Ok, Err}
use Rattle.accept.specs.declared.Accepted.{Accepted}
use Rattle.accept.proofs.RefusalLaws.{file-passes, file-stops, accepted-counts}
use Rattle.simulate.proofs.PlaceLaws.{count-parts}
use Rattle.run_answers.specs.RunAnswers.{run_refusal_in}
use Rattle.run_answers.specs.declared.RunRefusal.{RunRefusal}
use Rattle.run_answers.specs.declared.RunRefusal.TheVariants.{File, Steps, Lists, Value, Memory}
use Rattle.run.specs.RunPlans.{steps_refusal, StepsPlanned, RunPlanned}
use Rattle.simulate.specs.declared.Sizes.{Sizes}

-- A number of steps times a count of rows is no large number.
pub product-fits : (T n : ℕ) → T ≤ most_steps → n ≤ most_rows → T * n < 2 ^ 64
product-fits T n h k = omega (arith, mul-le-mul_right n h, mul-le-mul_right most_steps k)

-- Each of the first i values is 0 or 1.
unfoldable pub binary_before : List ℕ → ℕ → Bool
binary_before vs i = all_below i (λ k. leb (byte_at vs k) 1)

module _ (vs : List ℕ) where
  pub binary-none : true ≡ binary_before vs 0
  unfolding binary_before
  binary-none = refl

  pub binary-more : (i : ℕ) (b r : Bool) → b ≡ binary_before vs i → r ≡ b && leb (byte_at vs i) 1 → r ≡ binary_before vs (i + 1)
  unfolding binary_before
  binary-more i b r e h = h ∙ rw (e, add-one i) refl

  pub binary-all : (i : ℕ) (b : Bool) → i ≤ length vs → length vs ≤ i → b ≡ binary_before vs i → b ≡ all_binary vs
  unfolding binary_before
  binary-all i b h l e = let q : i ≡ length vs = omega arith in e ∙ ap (λ (n : ℕ). all_below n (λ k. leb (byte_at vs k) 1)) q

-- Tests by the counts are tests of the rows.
module _ (rows : List Row) (c : Counts) (e : c ≡ counts_of rows) (T : ℕ) (r : Bool) where
  pub lists-by : (choices inputs : List ℕ) → r ≡ eqb (length choices) c.unknown && eqb (length inputs) (T * c.inputs) → r ≡ value_lists_right rows T choices inputs
  lists-by choices inputs h = h ∙ rw e refl

  pub memory-by : (result work : ℕ) → (least : ℕ) → least ≡ row_work_bytes (c.nodes + c.outputs) → r ≡ leb (T * c.outputs) result && leb least work → r ≡ run_memory_right rows T result work
  memory-by result work least l h = h ∙ rw (l, e, count-parts is_output constant rows) refl

-- ---- plans

stop-not-go : (r : RunRefusal) {s : Sizes} → Err r ≡ Ok s → ⊥
stop-not-go r e = omega (arith, ap is_go e)
  where
    is_go : Result Sizes RunRefusal → ℕ
    is_go (Ok _) = 1
    is_go (Err _) = 0

-- ---- 17 to 20

module _ (n : ℕ) (c : Counts) (T : ℕ) (choices inputs : List ℕ) (result work : ℕ) where
  -- What is asked from 20, 19 and 18 on.
  abbrev from20 : List Row → List Refusal
  from20 rows = question 20 (run_memory_right rows T result work) ∷ []

  abbrev from19 : List Row → List Refusal
  from19 rows = question 19 (all_binary choices && all_binary inputs) ∷ from20 rows

  abbrev from18 : List Row → List Refusal
  from18 rows = question 18 (value_lists_right rows T choices inputs) ∷ from19 rows

  abbrev asked : List Row → Refusal
  asked rows = steps_refusal rows T choices inputs result work

  abbrev Planned : Result Sizes RunRefusal → Type 0
  Planned plan = StepsPlanned n c T choices inputs result work plan

  -- The lists and the memory, as told by the counts.
  abbrev pub ListsTold : Bool → Type 0
  ListsTold t = (rows : List Row) → c ≡ counts_of rows → t ≡ value_lists_right rows T choices inputs

  abbrev pub MemoryTold : Bool → Type 0
  MemoryTold t = (rows : List Row) → c ≡ counts_of rows → t ≡ run_memory_right rows T result work

  stopped : (r : RunRefusal) → ((rows : List Row) → c ≡ counts_of rows → run_refusal_in r ≡ asked rows) → Planned (Err r)
  stopped r h = record { refusal = h; go = λ s e. absurd (stop-not-go r e) }

  pub stops-17 : most_steps < T → Planned (Err Steps)
  unfolding steps_refusal
  stops-17 h = stopped Steps (λ rows e. sym (list-no 16 (leb T most_steps) (from18 rows) (lt-leb T most_steps h)))

  module _ (few : T ≤ most_steps) (lists : Bool) (lists-told : ListsTold lists) where
    after-17 : (rows : List Row) → asked rows ≡ first_refusal (from18 rows)
    unfolding steps_refusal
    after-17 rows = list-yes 17 (leb T most_steps) (from18 rows) (le-leb T most_steps few)

    pub stops-18 : not lists ≡ true → Planned (Err Lists)
    stops-18 h = stopped Lists (λ rows e. sym (after-17 rows ∙ list-no 17 (value_lists_right rows T choices inputs) (from19 rows) (sym (lists-told rows e) ∙ not-true lists h)))

    module _ (lists-right : not lists ≡ false) (values : Bool) (values-are : values ≡ all_binary choices && all_binary inputs) where
      after-18 : (rows : List Row) → c ≡ counts_of rows → asked rows ≡ first_refusal (from19 rows)
      after-18 rows e = after-17 rows ∙ list-yes 18 (value_lists_right rows T choices inputs) (from19 rows) (sym (lists-told rows e) ∙ not-false lists lists-right)

      pub stops-19 : not values ≡ true → Planned (Err Value)
      stops-19 h = stopped Value (λ rows e. sym (after-18 rows e ∙ list-no 18 (all_binary choices && all_binary inputs) (from20 rows) (sym values-are ∙ not-true values h)))

      module _ (values-right : not values ≡ false) (memory : Bool) (memory-told : MemoryTold memory) where
        after-19 : (rows : List Row) → c ≡ counts_of rows → asked rows ≡ first_refusal (from20 rows)
        after-19 rows e = after-18 rows e ∙ list-yes 19 (all_binary choices && all_binary inputs) (from20 rows) (sym values-are ∙ not-false values values-right)

        pub stops-20 : not memory ≡ true → Planned (Err Memory)
        stops-20 h = stopped Memory (λ rows e. sym (after-19 rows e ∙ list-no 19 (run_memory_right rows T result work) [] (sym (memory-told rows e) ∙ not-true memory h)))

        pub goes : not memory ≡ false → Planned (Ok (record { rows = n; nodes = c.nodes; inputs = c.inputs }))
        goes h =
            record {
              refusal = λ rows e. sym (after-19 rows e ∙ list-yes 20 (run_memory_right rows T result work) [] (sym (memory-told rows e) ∙ not-false memory h));
              go = λ s e. (sym (ap (λ p. (sizes_in p).rows) e), (sym (ap (λ p. (sizes_in p).nodes) e), sym (ap (λ p. (sizes_in p).inputs) e)));
            }
          where
            sizes_in : Result Sizes RunRefusal → Sizes
            sizes_in (Ok s) = s
            sizes_in (Err _) = record { rows = 0; nodes = 0; inputs = 0 }

-- ---- all of Run's questions

module _ (file : List ℕ) (T : ℕ) (choices inputs : List ℕ) (result work : ℕ) (a : Result Accepted FileRefusal) (checked : Answered (file_refusal file) (netlist_of file) a) where
  abbrev later : List Refusal
  later = question 17 (leb T most_steps) ∷ from18 0 (counts_of (netlist_of file)) T choices inputs result work (netlist_of file)

  pub planned-by : (y : Accepted) → a ≡ Ok y → (plan : Result Sizes RunRefusal) → StepsPlanned y.rows (counts_in y.counts) T choices inputs result work plan → RunPlanned file T choices inputs result work plan
  unfolding run_refusal steps_refusal
  planned-by y e plan P =
      let k = accepted-counts file a checked y e in
      record {
        refusal = P.refusal (netlist_of file) k ∙ sym (file-passes file a checked y e later);
        go = λ s g. ((P.go s g).0 ∙ checked.count y e, ((P.go s g).1.0 ∙ ap (λ (x : Counts). x.nodes) k, (P.go s g).1.1 ∙ ap (λ (x : Counts). x.inputs) k));
      }

  pub planned-refused : (r : FileRefusal) → a ≡ Err r → RunPlanned file T choices inputs result work (Err (File r))
  unfolding run_refusal
  planned-refused r e =
      record {
        refusal = sym (file-stops file a checked later r e);
        go = λ s g. absurd (stop-not-go (File r) g);
      }
