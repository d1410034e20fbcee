-- No file cut short of its end is accepted: the last block of what is left has byte 0 as it is in the file, 1, and would have to have 2.
-- Assumes nothing.
use Prim.Native.Nat.{ℕ, suc, ◌+◌, ◌-◌, ◌*◌}
use mathlib.Core.Path.{◌≡◌, sym, ◌∙◌}
use mathlib.Core.List.{List}
use native.Mathlib.Omega.{arith}
use lib.ListN.{length, take, length-take}
use lib.Seq.{get_or-take}
use borrow.Author.Tests.{eq-eqb, ne_eqb}
use Rattle.netlist.specs.FileFormat.{last_mark, block_count}
use Rattle.netlist.proofs.FileLaws.{block-at}
use Rattle.questions.specs.Questions.{names_earlier}
use Rattle.questions.specs.RefusalWords.{PrefixesRefused}
use Rattle.questions.proofs.QuestionLaws.{number-none}
use Rattle.questions.proofs.AcceptedFiles.{file-right}

last-marked : (k B : ℕ) → suc B ≡ k → last_mark k B ≡ 2
last-marked k B e = rw (eq-eqb (suc B) k e)

other-marked : (k B : ℕ) → ¬ (suc B ≡ k) → last_mark k B ≡ 1
other-marked k B n = rw (ne_eqb (suc B) k n)

pub prefix-refused : (file : List ℕ) → PrefixesRefused file
prefix-refused file accepted n short cut =
    let part = take n file in
    let F = file-right names_earlier file (number-none _ accepted) in
    let G = file-right names_earlier part (number-none _ cut) in
    let whole = F.size.whole in
    let left = G.size.whole in
    let some_left = G.size.some-blocks in
    let long : length part ≡ n = simp length-take (omega arith) in
    let B = block_count part - 1 in
    let is-two = (G.blocks B (omega arith)).mark in
    let is_one = (F.blocks B (omega arith)).mark in
    let same = block-at part B 0 (omega arith) ∙ get_or-take n file (512 * B + 0) 0 (omega arith) ∙ sym (block-at file B 0 (omega arith)) in
    omega (arith, last-marked (block_count part) B (omega arith), other-marked (block_count file) B (λ e. omega arith))
