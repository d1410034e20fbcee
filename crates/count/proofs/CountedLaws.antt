-- The outcomes of Count, by an answer of Check.
-- Assumes nothing.
use Prim.Native.Nat.{ℕ}
use mathlib.Core.Path.{◌≡◌, sym, ap, ◌∙◌}
use mathlib.Core.List.{List}
use native.Mathlib.Omega.{arith}
use Rattle.questions.specs.Questions.{Refusal}
use Rattle.accept.specs.declared.FileRefusal.{FileRefusal}
use Rattle.std.specs.Prelude.{Result, Ok, Err}
use Rattle.accept.specs.declared.Accepted.{Accepted}
use Rattle.accept.proofs.RefusalLaws.{number-positive, accepted-none, accepted-counts, refused-is}
use Rattle.accept.specs.Refusals.{Checked}
use Rattle.count.specs.CountOutcome.{Counted}

module _ (file : List ℕ) (a : Result Accepted FileRefusal) (checked : Checked file a) where
  pub count-refused : (r : FileRefusal) → a ≡ Err r → Counted file (Err r)
  count-refused r e = record { refusal = refused-is file a checked r e; counts = λ n. absurd (omega (arith, number-positive r, ap (λ (q : Refusal). q.number) (refused-is file a checked r e ∙ n))) }

  pub count-answered : (y : Accepted) → a ≡ Ok y → Counted file (Ok y.counts)
  count-answered y e = record { refusal = sym (accepted-none file a checked y e); counts = λ _. accepted-counts file a checked y e }
