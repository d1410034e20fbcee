-- The three-valued run covers every concrete run: what it knows holds.
-- Assumes nothing.
use Prim.Native.Nat.{ℕ, zero, suc, ◌/◌, ◌%◌}
use mathlib.Core.Bool.{Bool}
use mathlib.Core.List.{List, [], ◌∷◌, ◌++◌, map}
use lib.ListN.{length}
use Rattle.ternary.specs.Ternary.{Ternary, X}
use Rattle.ternary.proofs.RuleLaws.{Covers, is-lo, any, not3-covers, and3-covers, xor3-covers, mux3-covers}
use Rattle.netlist.specs.Rows.{Row, constant, input, register, and_gate, xor_gate, mux_gate, output, row_at}
use Rattle.netlist.specs.Simulation.{bool_logic, complement_if, literal_value, row_value, value_at, reset_value, next_value, values_up_to, step_values, run_state}
use Rattle.lasso.specs.TernaryRun.{ternary_logic, ternary_state}

complement-covers : (k : ℕ) {q : Ternary} {b : Bool} → Covers q b → Covers (complement_if ternary_logic k q) (complement_if bool_logic k b)
complement-covers zero h = h
complement-covers (suc k) h = not3-covers h

literal-covers : (w3 : ℕ → Ternary) (w : ℕ → Bool) → ((j : ℕ) → Covers (w3 j) (w j)) → (l : ℕ) → Covers (literal_value ternary_logic w3 l) (literal_value bool_logic w l)
literal-covers w3 w h l = complement-covers (l % 2) (h (l / 2))

row-covers : {h3 : Ternary} {h : Bool} (i : ℕ → ℕ → Bool) (w3 : ℕ → Ternary) (w : ℕ → Bool) → Covers h3 h → ((j : ℕ) → Covers (w3 j) (w j))
    → (r : Row) → Covers (row_value ternary_logic h3 (λ l p. X) w3 r) (row_value bool_logic h i w r)
row-covers i w3 w ch cw constant = is-lo
row-covers i w3 w ch cw (input l p) = any
row-covers i w3 w ch cw (register r n l) = ch
row-covers i w3 w ch cw (and_gate a b) = and3-covers (literal-covers w3 w cw a) (literal-covers w3 w cw b)
row-covers i w3 w ch cw (xor_gate a b) = xor3-covers (literal-covers w3 w cw a) (literal-covers w3 w cw b)
row-covers i w3 w ch cw (mux_gate a b c) = mux3-covers (literal-covers w3 w cw a) (literal-covers w3 w cw b) (literal-covers w3 w cw c)
row-covers i w3 w ch cw (output a l p) = literal-covers w3 w cw a

reset-covers : (c : ℕ → Bool) (r : Row) → Covers (reset_value ternary_logic (λ l. X) r) (reset_value bool_logic c r)
reset-covers c constant = is-lo
reset-covers c (input l p) = is-lo
reset-covers c (register zero n l) = is-lo
reset-covers c (register (suc zero) n l) = not3-covers is-lo
reset-covers c (register (suc (suc r)) n l) = any
reset-covers c (and_gate a b) = is-lo
reset-covers c (xor_gate a b) = is-lo
reset-covers c (mux_gate a b d) = is-lo
reset-covers c (output a l p) = is-lo

next-covers : (w3 : ℕ → Ternary) (w : ℕ → Bool) → ((j : ℕ) → Covers (w3 j) (w j)) → (r : Row) → Covers (next_value ternary_logic w3 r) (next_value bool_logic w r)
next-covers w3 w cw constant = is-lo
next-covers w3 w cw (input l p) = is-lo
next-covers w3 w cw (register r n l) = literal-covers w3 w cw n
next-covers w3 w cw (and_gate a b) = is-lo
next-covers w3 w cw (xor_gate a b) = is-lo
next-covers w3 w cw (mux_gate a b c) = is-lo
next-covers w3 w cw (output a l p) = is-lo

-- The same of lists, place by place.
data CoversEach : List Ternary → List Bool → Type 0 where
  nil : CoversEach [] []
  cons : {q : Ternary} {b : Bool} {qs : List Ternary} {bs : List Bool} → Covers q b → CoversEach qs bs → CoversEach (q ∷ qs) (b ∷ bs)

each_at : {qs : List Ternary} {bs : List Bool} → CoversEach qs bs → (j : ℕ) → Covers (value_at ternary_logic qs j) (value_at bool_logic bs j)
each_at nil j = is-lo
each_at (cons h t) zero = h
each_at (cons h t) (suc j) = each_at t j

each_snoc : {qs : List Ternary} {bs : List Bool} {q : Ternary} {b : Bool} → CoversEach qs bs → Covers q b → CoversEach (qs ++ (q ∷ [])) (bs ++ (b ∷ []))
each_snoc nil h = cons h nil
each_snoc (cons k t) h = cons k (each_snoc t h)

each_map : (f : Row → Ternary) (g : Row → Bool) → ((r : Row) → Covers (f r) (g r)) → (rows : List Row) → CoversEach (map f rows) (map g rows)
each_map f g h [] = nil
each_map f g h (r ∷ rs) = cons (h r) (each_map f g h rs)

module _ (rows : List Row) where
  values-cover : (s3 : List Ternary) (s : List Bool) (i : ℕ → ℕ → Bool) → CoversEach s3 s → (n : ℕ) → CoversEach (values_up_to ternary_logic rows s3 (λ l p. X) n) (values_up_to bool_logic rows s i n)
  unfolding values_up_to
  values-cover s3 s i h zero = nil
  values-cover s3 s i h (suc n) =
      let v = values-cover s3 s i h n in
      each_snoc v (row-covers i _ _ (each_at h n) (each_at v) (row_at rows n))

  state-each : (c : ℕ → Bool) (i : ℕ → ℕ → ℕ → Bool) (t : ℕ) → CoversEach (ternary_state rows t) (run_state bool_logic rows c i t)
  unfolding run_state step_values
  state-each c i zero = each_map _ _ (reset-covers c) rows
  state-each c i (suc t) = each_map _ _ (next-covers _ _ (each_at (values-cover (ternary_state rows t) (run_state bool_logic rows c i t) (i t) (state-each c i t) (length rows)))) rows

  -- Every concrete run is covered by the three-valued run at every step.
  pub state-covers : (c : ℕ → Bool) (i : ℕ → ℕ → ℕ → Bool) (t j : ℕ) → Covers (value_at ternary_logic (ternary_state rows t) j) (value_at bool_logic (run_state bool_logic rows c i t) j)
  state-covers c i t j = each_at (state-each c i t) j
