-- A row's sort by its fields, and the counts of rows.
-- Assumes nothing.
use Prim.Native.Nat.{ℕ, zero, suc, ◌≤◌}
use mathlib.Core.Path.{◌≡◌, refl, sym, ap, ◌∙◌}
use mathlib.Core.Bool.{false, not, ◌&&◌}
use mathlib.Core.List.{List}
use native.Mathlib.Omega.{arith}
use lib.Dec.{eqb}
use lib.ListN.{length, take}
use lib.Seq.{take-length}
use borrow.Author.Tests.{ne_eqb}
use Rattle.memory.proofs.ListLaws.{count-some-le}
use Rattle.netlist.specs.Rows.{Row, constant, row_from_fields, is_input, is_register, is_unknown, is_output}
use Rattle.questions.specs.Questions.{Counts, counts_of}
use Rattle.blockfile.specs.CountCode.{EachAtMost}

-- ---- a row's sort by its fields

pub record SortsBy (kind reset : ℕ) (r : Row) : Type 0 where
  pub input-if : is_input r ≡ eqb kind 1
  pub register-if : is_register r ≡ eqb kind 2
  pub unknown-if : is_unknown r ≡ eqb kind 2 && eqb reset 2
  pub output-if : is_output r ≡ eqb kind 6

pub sorts-by : (k r a b c : ℕ) → SortsBy k r (row_from_fields k r a b c)
sorts-by zero r a b c = record { input-if = refl; register-if = refl; unknown-if = refl; output-if = refl }
sorts-by (suc zero) r a b c = record { input-if = refl; register-if = refl; unknown-if = refl; output-if = refl }
sorts-by (suc (suc zero)) r a b c = record { input-if = refl; register-if = refl; unknown-if = refl; output-if = refl }
sorts-by (suc (suc (suc zero))) r a b c = record { input-if = refl; register-if = refl; unknown-if = refl; output-if = refl }
sorts-by (suc (suc (suc (suc zero)))) r a b c = record { input-if = refl; register-if = refl; unknown-if = refl; output-if = refl }
sorts-by (suc (suc (suc (suc (suc zero))))) r a b c = record { input-if = refl; register-if = refl; unknown-if = refl; output-if = refl }
sorts-by (suc (suc (suc (suc (suc (suc zero)))))) r a b c = record { input-if = refl; register-if = refl; unknown-if = refl; output-if = refl }
sorts-by (suc (suc (suc (suc (suc (suc (suc k))))))) r a b c =
    let other : (n : ℕ) → n ≤ 6 → eqb (suc (suc (suc (suc (suc (suc (suc k))))))) n ≡ false = λ n h. ne_eqb _ n (λ e. omega arith) in
    record { input-if = sym (other 1 (omega arith)); register-if = sym (other 2 (omega arith)); unknown-if = rw (other 2 (omega arith)) refl; output-if = sym (other 6 (omega arith)) }

-- ---- counts

pub counts-small : (rows : List Row) (i : ℕ) (c : Counts) → c ≡ counts_of (take i rows) → EachAtMost c i
counts-small rows i c e =
    rw e (record {
      nodes = (count-some-le (λ r. not (is_output r)) constant rows i).0;
      inputs = (count-some-le is_input constant rows i).0;
      registers = (count-some-le is_register constant rows i).0;
      unknown = (count-some-le is_unknown constant rows i).0;
      outputs = (count-some-le is_output constant rows i).0;
    })

pub most-more : (c : Counts) (i m : ℕ) → i ≤ m → EachAtMost c i → EachAtMost c m
most-more c i m h s = record { nodes = omega (arith, s.nodes); inputs = omega (arith, s.inputs); registers = omega (arith, s.registers); unknown = omega (arith, s.unknown); outputs = omega (arith, s.outputs) }

pub counts_all : (rows : List Row) (n : ℕ) → n ≡ length rows → counts_of (take n rows) ≡ counts_of rows
counts_all rows n e = ap counts_of (ap (λ (k : ℕ). take k rows) e ∙ take-length rows)
