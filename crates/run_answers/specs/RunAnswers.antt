-- Run's answers as the scope paper's refusals: number and place.
-- Interface: run_refusal_in, run_answered.
-- Assumes nothing.
use Rattle.std.specs.Prelude.{Result, Ok, Err}
use Rattle.questions.specs.Questions.{Refusal, no_refusal}
use Rattle.accept.specs.Refusals.{refusal_in}
use Rattle.run_answers.specs.declared.RunRefusal.{RunRefusal}
use Rattle.run_answers.specs.declared.RunRefusal.TheVariants.{File, Steps, Lists, Value, Memory}

abbrev pub run_refusal_in : RunRefusal → Refusal
run_refusal_in (File r) = refusal_in r
run_refusal_in Steps = record { number = 17; place = 0 }
run_refusal_in Lists = record { number = 18; place = 0 }
run_refusal_in Value = record { number = 19; place = 0 }
run_refusal_in Memory = record { number = 20; place = 0 }

abbrev pub run_answered : Result Unit RunRefusal → Refusal
run_answered (Ok _) = no_refusal
run_answered (Err r) = run_refusal_in r
