-- What Fold is refused for, as the scope paper's numbers and places, and the first refusal of questions 1 to 15.
-- Interface: fold_refusal_in; early_refusal, asked_refusal, Questioned.
-- Assumes nothing.
use Rattle.std.specs.Prelude.{ℕ, ◌≡◌, List, ◌∷◌, length, Result, Ok, Err}
use Rattle.netlist.specs.FileFormat.{netlist_of}
use Rattle.questions.specs.Questions.{Refusal, no_refusal, first_refusal, file_refusal}
use Rattle.fold_questions.specs.FoldQuestions.{original_refusal, argument_questions}
use Rattle.accept.specs.Refusals.{refusal_in}
use Rattle.fold_refusals.specs.declared.FoldRefusal.{FoldRefusal}
use Rattle.fold_refusals.specs.declared.FoldRefusal.TheVariants.{File, Rows, Registers, Phase, Wish, Memory, NoLasso}

abbrev pub fold_refusal_in : FoldRefusal → Refusal
fold_refusal_in (File r) = refusal_in r
fold_refusal_in Rows = record { number = 11; place = 0 }
fold_refusal_in Registers = record { number = 12; place = 0 }
fold_refusal_in (Phase row) = record { number = 13; place = row }
fold_refusal_in Wish = record { number = 14; place = 0 }
fold_refusal_in Memory = record { number = 15; place = 0 }
fold_refusal_in NoLasso = record { number = 16; place = 0 }

-- ---- questions 1 to 15

-- The first no of questions 1 to 15.
unfoldable pub early_refusal : List ℕ → ℕ → ℕ → ℕ → ℕ → Refusal
early_refusal file wish result work clocks = first_refusal (file_refusal file ∷ original_refusal (netlist_of file) ∷ argument_questions wish result work clocks)

abbrev pub asked_refusal : Result ℕ FoldRefusal → Refusal
asked_refusal (Ok n) = no_refusal
asked_refusal (Err r) = fold_refusal_in r

-- The questions are asked; a file that passed them has n rows.
pub record Questioned (file : List ℕ) (wish result work clocks : ℕ) (asked : Result ℕ FoldRefusal) : Type 0 where
  pub refusal : asked_refusal asked ≡ early_refusal file wish result work clocks
  pub rows : (n : ℕ) → asked ≡ Ok n → n ≡ length (netlist_of file)
