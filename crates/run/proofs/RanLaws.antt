-- Run's outcome by its plan, and that the steps are given what they ask.
-- Assumes nothing.
use Prim.Native.Nat.{ℕ}
use mathlib.Core.Path.{◌≡◌, sym, ap, ◌∙◌}
use mathlib.Core.List.{List}
use native.Mathlib.Omega.{arith}
use lib.ListN.{length, replicate, length-replicate}
use Rattle.netlist.specs.FileFormat.{netlist_of}
use Rattle.netlist.proofs.WorkLaws.{work-holds}
use Rattle.questions.specs.Questions.{names_earlier, no_refusal, run_refusal}
use Rattle.questions.proofs.QuestionLaws.{number-none}
use Rattle.questions.proofs.PlainWords.{run_memory_right-iff}
use Rattle.questions.proofs.AcceptedFiles.{RunRight, run-accepted}
use Rattle.blockfile.proofs.ReadyLaws.{has-rows}
use Rattle.simulate.specs.Steps.{ValuesRoom, Given}
use Rattle.simulate.proofs.GivenLaws.{binary-zeros, given-of}
use Rattle.run_answers.specs.Ran.{ran_bytes, Ran}
use Rattle.run_answers.specs.declared.RunRefusal.{RunRefusal}
use Rattle.std.specs.Prelude.{Result, Ok, Err}
use Rattle.run_answers.proofs.RanLaws.{ran-refused, ran-done}
use Rattle.run.specs.RunPlans.{plan_refusal, RunPlanned}
use Rattle.simulate.specs.declared.Sizes.{Sizes}

-- Memory that kept its length is cleared.
pub cleared-again : (v w w' : List ℕ) → length w ≡ length v → w' ≡ replicate (length w) 0 → w' ≡ replicate (length v) 0
cleared-again v w w' l e = e ∙ ap (λ (n : ℕ). replicate n 0) l

module _ (file : List ℕ) (T : ℕ) (choices inputs result work : List ℕ) (plan : Result Sizes RunRefusal) (planned : RunPlanned file T choices inputs (length result) (length work) plan) where
  pub stopped_by : (r : RunRefusal) (work' : List ℕ) → plan ≡ Err r → work' ≡ replicate (length work) 0 → Ran file T choices inputs result result work work' (Err r)
  stopped_by r work' e h = ran-refused file T choices inputs result work work' h r (sym (ap plan_refusal e) ∙ planned.refusal)

  module _ (s : Sizes) (e : plan ≡ Ok s) where
    none : no_refusal ≡ run_refusal file T choices inputs (length result) (length work)
    none = sym (ap plan_refusal e) ∙ planned.refusal

    right : RunRight file T choices inputs (length result) (length work)
    right = run-accepted file T choices inputs (length result) (length work) (number-none (run_refusal file T choices inputs (length result) (length work)) (sym none))

    pub given_by : Given file s.rows s.nodes s.inputs T choices inputs result
    given_by =
        let g = planned.go s e in
        given-of file s.rows s.nodes s.inputs T choices inputs result (length work) right g.0 g.1.0 g.1.1

    -- The cleared memory has a byte for each row twice.
    pub room_by : (work' : List ℕ) → work' ≡ replicate (length work) 0 → ValuesRoom s.rows work'
    room_by work' q =
        let room = ((run_memory_right-iff (netlist_of file) T (length result) (length work)).0 right.memory).1 in
        let few = (has-rows names_earlier file right.file-right).few in
        let twice = work-holds (length (netlist_of file)) few in
        let count = (planned.go s e).0 in
        let l : length work' ≡ length work = rw q (length-replicate (length work) 0) in
        record { fits = omega arith; binary = rw q (binary-zeros (length work)) }

    pub done-by : (result' work₁ work' : List ℕ) → result' ≡ ran_bytes (netlist_of file) T choices inputs result → length work₁ ≡ length work → work' ≡ replicate (length work₁) 0 → Ran file T choices inputs result result' work work' (Ok tt)
    done-by result' work₁ work' w l c = ran-done file T choices inputs result work work' (cleared-again work work₁ work' l c) result' none w
