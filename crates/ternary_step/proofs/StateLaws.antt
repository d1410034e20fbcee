-- The memory's bytes as values of rows and as states of the three-valued run: each function's step from row to row.
-- Assumes nothing.
use Prim.Native.Nat.{ℕ, zero, suc, ◌<◌, ◌/◌, ◌%◌}
use mathlib.Core.Path.{◌≡◌, refl, ap, ◌∙◌}
use mathlib.Core.List.{List}
use native.Mathlib.Omega.{arith}
use Rattle.memory.specs.Fields.{byte_at}
use Rattle.ternary.specs.Ternary.{Ternary, not3, and3, xor3, mux3, code_of, value_of}
use Rattle.ternary.proofs.RuleLaws.{value-of-code, code_below}
use Rattle.netlist.specs.Limits.{most_original_rows, most_original_registers}
use Rattle.netlist.specs.Rows.{row_from_fields, is_register}
use Rattle.netlist.specs.Simulation.{complement_if}
use Rattle.lasso.specs.TernaryRun.{ternary_logic}
use Rattle.netlist.specs.WellFormed.{OperandsBelow}
use Rattle.blockfile.specs.RowCode.{if_known}
use Rattle.blockfile.specs.declared.Fields.{Fields}
use Rattle.fold_memory.specs.WorkMap.{value_offset}
use Rattle.ternary_step.specs.StateMap.{code_at, value_in, literal_in, RowToEvaluate, row_in, no_code}

-- ---- codes

pub no-code : (v : Ternary) → code_of v ≡ no_code → ⊥
no-code v e = omega (arith, code_below v)

-- r is the code of v, and so below 3.
abbrev pub IsCode : ℕ → Ternary → Type 0
IsCode r v = (r ≡ code_of v) × (r < 3)

is_code : (r : ℕ) (v : Ternary) → r ≡ code_of v → IsCode r v
is_code r v e = (e, rw e (code_below v))

-- ---- a literal, and a gate of literals

-- The XOR with 1 inverts, and that with 0 does not.
pub literal-by : (w : List ℕ) (l r : ℕ) → r ≡ code_of (xor3 (value_of (l % 2)) (value_of (byte_at w (value_offset (l / 2))))) → IsCode r (literal_in w l)
unfolding xor3
literal-by w l r h = go (l % 2) (omega arith) h
  where
    go : (b : ℕ) → b < 2 → r ≡ code_of (xor3 (value_of b) (value_in w (l / 2))) → IsCode r (complement_if ternary_logic b (value_in w (l / 2)))
    go zero k e = is_code r (value_in w (l / 2)) e
    go (suc zero) k e = is_code r (not3 (value_in w (l / 2))) e
    go (suc (suc b)) k e = absurd (omega arith)

gate-of-two : (g : Ternary → Ternary → Ternary) (a b : Ternary) (x y r : ℕ) → IsCode x a → IsCode y b → r ≡ code_of (g (value_of x) (value_of y)) → r ≡ code_of (g a b)
gate-of-two g a b x y r p q h = h ∙ rw (p.0, q.0, value-of-code a, value-of-code b) refl

gate-of-three : (g : Ternary → Ternary → Ternary → Ternary) (a b c : Ternary) (x y z r : ℕ) → IsCode x a → IsCode y b → IsCode z c → r ≡ code_of (g (value_of x) (value_of y) (value_of z)) → r ≡ code_of (g a b c)
gate-of-three g a b c x y z r p q s h = h ∙ rw (p.0, q.0, s.0, value-of-code a, value-of-code b, value-of-code c) refl

pub and-of : (w : List ℕ) (l m x y r : ℕ) → IsCode x (literal_in w l) → IsCode y (literal_in w m) → r ≡ code_of (and3 (value_of x) (value_of y)) → r ≡ code_of (and3 (literal_in w l) (literal_in w m))
and-of w l m = gate-of-two and3 (literal_in w l) (literal_in w m)

pub xor-of : (w : List ℕ) (l m x y r : ℕ) → IsCode x (literal_in w l) → IsCode y (literal_in w m) → r ≡ code_of (xor3 (value_of x) (value_of y)) → r ≡ code_of (xor3 (literal_in w l) (literal_in w m))
xor-of w l m = gate-of-two xor3 (literal_in w l) (literal_in w m)

pub mux-of : (w : List ℕ) (l m n x y z r : ℕ) → IsCode x (literal_in w l) → IsCode y (literal_in w m) → IsCode z (literal_in w n) → r ≡ code_of (mux3 (value_of x) (value_of y) (value_of z))
    → r ≡ code_of (mux3 (literal_in w l) (literal_in w m) (literal_in w n))
mux-of w l m n = gate-of-three mux3 (literal_in w l) (literal_in w m) (literal_in w n)

-- ---- a row, by kind

module _ (w : List ℕ) (r : Fields) (base j : ℕ) (R : RowToEvaluate w r base j) where
  operands-of : (k : ℕ) → r.kind ≡ k → OperandsBelow R.bound (row_from_fields k r.reset r.a r.b r.c)
  operands-of k e = rw e at R.operands

  below : (l : ℕ) → l / 2 < R.bound → l / 2 < most_original_rows
  below l h = let f = R.few in omega arith

  is_held : r.kind ≡ 2 → (j < most_original_registers) × (code_at w base j < 3)
  is_held e = R.held (ap (λ (k : ℕ). is_register (row_from_fields k r.reset r.a r.b r.c)) e)

  -- What is answered for the row.
  abbrev IsValue : ℕ → Type 0
  IsValue x = x ≡ if_known r.kind (code_of (row_in w r base j)) no_code

  pub row_output : (x : ℕ) → r.kind ≡ 6 → x ≡ code_of (literal_in w r.a) → IsValue x
  row_output x e h = rw e h
