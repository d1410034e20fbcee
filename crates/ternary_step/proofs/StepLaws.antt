-- One step of the three-valued run in the memory: the values row by row, the next state register by register, and what stays as it was.
-- Assumes nothing.
use Prim.Native.Nat.{ℕ, zero, ◌+◌, ◌*◌, ◌<◌, ◌≤◌, ◌/◌, ◌%◌, ◌^◌}
use mathlib.Core.Path.{◌≡◌, refl, sym, ap, ◌∙◌, subst}
use mathlib.Core.Bool.{Bool, true, false, cond, false≢true}
use mathlib.Core.List.{List, [], ◌∷◌, ◌++◌}
use native.Mathlib.Omega.{arith}
use native.Mathlib.Decide.{ℕ_discrete}
use native.Mathlib.Nat.{mul-le-mul_right, pow-le-pow_right}
use lib.Pow.{pow-add, shl_exact}
use lib.Dec.{eqb}
use borrow.Author.Tests.{eq-eqb, ne_eqb}
use lib.ListN.{length, set}
use lib.Seq.{sets, get_or-set_same, get_or-set_other}
use Rattle.memory.specs.Lists.{count_if}
use Rattle.memory.specs.Fields.{IsBytes, byte_at, u16_bytes}
use Rattle.memory.specs.Frames.{KeptOutside}
use Rattle.memory.proofs.TestLaws.{last_or}
use Rattle.memory.proofs.FrameLaws.{kept_set, kept_at, kept-join, kept_sets, u16-kept, u16-back}
use Rattle.memory.proofs.ListLaws.{count_next, count-place, count-some-le}
use Rattle.ternary.specs.Ternary.{Ternary, X, code_of, value_of}
use Rattle.ternary.proofs.RuleLaws.{value-of-code, code_below}
use Rattle.netlist.specs.Limits.{most_rows, most_original_rows, most_original_registers}
use Rattle.netlist.specs.Rows.{Row, RowFields, register, decode_row, row_at, on_register, is_register, constant}
use Rattle.netlist.specs.FileFormat.{row_offset, read_fields, netlist_of}
use Rattle.netlist.specs.Simulation.{row_value}
use Rattle.lasso.specs.TernaryRun.{ternary_logic}
use Rattle.netlist.specs.WellFormed.{OperandsBelow}
use Rattle.netlist.proofs.SimulationLaws.{row-cong}
use Rattle.lasso.specs.Generators.{state_value}
use Rattle.blockfile.specs.RowCode.{fields_in, fields_from, if_known}
use Rattle.blockfile.proofs.RowCodeLaws.{kind-known}
use Rattle.blockfile.specs.declared.Fields.{Fields}
use Rattle.blockfile.proofs.CountLaws.{sorts-by}
use Rattle.fold_memory.specs.WorkMap.{value_offset, next_offset, state_bytes, state_offset}
use Rattle.ternary_step.specs.StateMap.{code_at, Packed, registers_before, state_codes, value_in, step_value, Coded, RowToEvaluate, row_in, no_code, AtRow, Evaluated, NextsListed, Started}
use Rattle.ternary_step.proofs.CodeLaws.{packed-at, packed-small, packed_more, packed-kept}
use Rattle.ternary_step.proofs.RegisterLaws.{register-row, before-all, reset-code, row-held, before-less, codes-register, codes-other, codes-length, codes_at, state-held, step-value}

-- ---- the parts of the memory

-- The values' part, and the part of state t.
abbrev pub ValuesKept : List ℕ → List ℕ → Type 0
ValuesKept w w' = KeptOutside (value_offset 0) (value_offset most_original_rows) w w'

abbrev pub StateKept : ℕ → List ℕ → List ℕ → Type 0
StateKept t w w' = KeptOutside (state_offset t) (state_offset t + state_bytes) w w'

-- The part of the list and of state 0.
abbrev pub StartKept : List ℕ → List ℕ → Type 0
StartKept w w' = KeptOutside (next_offset 0) (state_offset 1) w w'

-- States stay while values change, and while another state does.
pub packed-values : (w w' : List ℕ) (t : ℕ) (cs : List ℕ) → ValuesKept w w' → Packed w (state_offset t) cs → Packed w' (state_offset t) cs
packed-values w w' t cs K P = packed-kept w (state_offset t) cs P w' (λ k l. K.after (state_offset t + k) (omega arith))

pub packed-state : (w w' : List ℕ) (m t : ℕ) (cs : List ℕ) → (t ≡ m → ⊥) → StateKept m w w' → Packed w (state_offset t) cs → Packed w' (state_offset t) cs
packed-state w w' m t cs n K P = packed-kept w (state_offset t) cs P w' (λ k l. kept_at K (state_offset t + k) (λ a b. n (omega arith)))

-- Values stay while a state changes.
pub value-kept : (w w' : List ℕ) (t x : ℕ) → x < most_original_rows → StateKept t w w' → byte_at w' (value_offset x) ≡ byte_at w (value_offset x)
value-kept w w' t x l K = K.before (value_offset x) (omega arith)

pub coded_kept : (w w' : List ℕ) (t : ℕ) → StateKept t w w' → Coded w → Coded w'
coded_kept w w' t K C = let r = C.room in record { room = omega (arith, K.long); code = λ x l. rw (value-kept w w' t x l K) (C.code x l) }

-- Both stay while the list changes.
module _ {lo hi : ℕ} {w w' : List ℕ} (K : KeptOutside lo hi w w') (from : next_offset 0 ≤ lo) (to : hi ≤ state_offset 0) where
  coded-listed : Coded w → Coded w'
  coded-listed C = let r = C.room in record { room = omega (arith, K.long); code = λ x l. rw (K.before (value_offset x) (omega arith)) (C.code x l) }

  packed-listed : (t : ℕ) (cs : List ℕ) → Packed w (state_offset t) cs → Packed w' (state_offset t) cs
  packed-listed t cs P = packed-kept w (state_offset t) cs P w' (λ k l. K.after (state_offset t + k) (omega arith))

-- Register j's code fits behind the bits of those before it.
put-exact : (x j : ℕ) → x < 3 → (x * 2 ^ (j % 4 * 2)) % 2 ^ 8 ≡ x * 2 ^ (j % 4 * 2)
put-exact x j h = shl_exact 2 (j % 4 * 2) 8 (omega arith) (omega arith)

pub put-fits : (b x j : ℕ) → x < 3 → b < 2 ^ (j % 4 * 2) → b + (x * 2 ^ (j % 4 * 2)) % 2 ^ 8 < 2 ^ 8
put-fits b x j h s =
    let d = j % 4 in
    let D = 2 ^ (d * 2) in
    let f : x * D ≤ 2 * D = mul-le-mul_right D (omega arith) in
    let g : 2 ^ (d * 2 + 2) ≤ 2 ^ 8 = pow-le-pow_right {n = 2} (omega arith) {i = d * 2 + 2} {j = 8} (omega arith) in
    omega (arith, put-exact x j h, pow-add 2 (d * 2) 2)

pub code_put : (w : List ℕ) (p x j : ℕ) → x < 3 → set w p (byte_at w p + (x * 2 ^ (j % 4 * 2)) % 2 ^ 8) ≡ set w p (byte_at w p + x * 2 ^ (j % 4 * 2))
code_put w p x j h = ap (λ (n : ℕ). set w p (byte_at w p + n)) (put-exact x j h)

-- All n rows are done, since the first i are no fewer.
pub count-all : (rows : List Row) (i n j : ℕ) → i ≤ n → n ≤ i → n ≡ length rows → j ≡ registers_before rows i → j ≡ count_if is_register rows
count-all rows i n j a b count e = let q : i ≡ length rows = omega arith in e ∙ ap (registers_before rows) q ∙ before-all rows

-- ---- row i of a ready file

module _ {f : List ℕ} {n i j : ℕ} (A : AtRow f n i j) where
  abbrev rows : List Row
  rows = netlist_of f

  pub row_within : i < length (netlist_of f)
  row_within = let e = A.ready.file.count in let h = A.within in omega arith

  pub row_small : i < most_original_rows
  row_small = let s = A.ready.rows.small in let h = row_within in omega arith

  pub read-asks : (i < most_rows) × (row_offset i + 8 ≤ length f)
  read-asks = let s = row_small in (omega arith, A.ready.file.inside i A.within)

  pub number_small : j ≤ most_original_registers
  number_small = let h = row_within in omega (arith, A.number, A.ready.rows.registers, (count-some-le is_register constant (netlist_of f) i).1)

  pub number_fits : j < 2 ^ 32
  number_fits = let h = number_small in omega arith

  pub count_fits : j + 1 < 2 ^ 64
  count_fits = let h = number_small in omega arith

  -- Its value changes no other byte.
  pub values-set : (w : List ℕ) (x : ℕ) → ValuesKept w (set w (value_offset i) x)
  values-set w x = let s = row_small in kept_set (value_offset 0) (value_offset most_original_rows) (value_offset i) x w (omega arith) (omega arith)

  module _ (r : Fields) (read : fields_in r ≡ read_fields f i) where
    row_is : row_at (netlist_of f) i ≡ decode_row (fields_in r)
    row_is = A.ready.file.row_is i A.within ∙ ap decode_row (sym read)

    pub register-is : is_register (row_at (netlist_of f) i) ≡ is_register (decode_row (fields_in r))
    register-is = ap is_register row_is

    pub register-small : is_register (decode_row (fields_in r)) ≡ true → j < most_original_registers
    register-small e = omega (arith, A.number, A.ready.rows.registers, count-place is_register constant (netlist_of f) i row_within (register-is ∙ e))

    -- The number of registers after row i.
    pub number-next : (k : ℕ) → k ≡ j + cond (eqb r.kind 2) 1 0 → k ≡ registers_before (netlist_of f) (i + 1)
    number-next k e =
        e ∙ ap (λ (b : Bool). j + cond b 1 0) (sym (sorts-by r.kind r.reset r.a r.b r.c).register-if ∙ sym register-is)
        ∙ ap (λ (m : ℕ). m + cond (is_register (row_at (netlist_of f) i)) 1 0) A.number ∙ sym (count_next is_register constant (netlist_of f) i row_within)

    -- By its kind, which is one that there is.
    kind-is : r.kind ≤ 6
    kind-is = subst (λ (x : RowFields). x.kind ≤ 6) (sym read) (A.ready.known i A.within)

    pub register-yes : r.kind ≡ 2 → is_register (decode_row (fields_in r)) ≡ true
    register-yes e = (sorts-by r.kind r.reset r.a r.b r.c).register-if ∙ eq-eqb r.kind 2 e

    pub register-no : (r.kind ≡ 2 → ⊥) → is_register (decode_row (fields_in r)) ≡ false
    register-no e = (sorts-by r.kind r.reset r.a r.b r.c).register-if ∙ ne_eqb r.kind 2 e

    pub number-yes : r.kind ≡ 2 → j + 1 ≡ registers_before (netlist_of f) (i + 1)
    number-yes e = number-next (j + 1) (rw (eq-eqb r.kind 2 e) refl)

    pub number-no : (r.kind ≡ 2 → ⊥) → j ≡ registers_before (netlist_of f) (i + 1)
    number-no e = number-next j (rw (ne_eqb r.kind 2 e) (omega arith))

    -- ---- its value

    module _ {w : List ℕ} {t base : ℕ} (E : Evaluated (netlist_of f) w t i) (at-state : base ≡ state_offset t) where
      -- What the memory holds of a register.
      held-code : is_register (row_at (netlist_of f) i) ≡ true → code_at w base j ≡ code_of (state_value (netlist_of f) i t)
      held-code e =
          let s = number_small in
          rw (at-state, A.number)
          (packed-at w (state_offset t) (state_codes (netlist_of f) t (length (netlist_of f))) E.state (registers_before (netlist_of f) i) (omega (arith, A.ready.rows.registers, count-place is_register constant (netlist_of f) i row_within e))
          ∙ codes_at (netlist_of f) t (length (netlist_of f)) i (omega arith) row_within e)

      pub row-asks : RowToEvaluate w r base j
      row-asks =
          let s = row_small in record {
            coded = E.coded;
            bound = i;
            few = omega arith;
            operands = subst (OperandsBelow i) row_is (A.ready.rows.checked.operands i row_within);
            room = rw at-state E.room;
            held = λ e. (register-small e, rw (held-code (register-is ∙ e)) (code_below (state_value (netlist_of f) i t)));
          }

      value-held : (b : Bool) → is_register (row_at (netlist_of f) i) ≡ b
          → row_value ternary_logic (value_of (code_at w base j)) (λ l p. X) (value_in w) (row_at (netlist_of f) i) ≡ row_value ternary_logic (state_value (netlist_of f) i t) (λ l p. X) (value_in w) (row_at (netlist_of f) i)
      value-held true e = ap (λ (v : Ternary). row_value ternary_logic v (λ l p. X) (value_in w) (row_at (netlist_of f) i)) (ap value_of (held-code e) ∙ value-of-code (state_value (netlist_of f) i t))
      value-held false e = row-held ternary_logic (value_of (code_at w base j)) (state_value (netlist_of f) i t) (λ l p. X) (value_in w) (row_at (netlist_of f) i) e

      -- The value worked out is the run's.
      row-value-is : row_in w r base j ≡ step_value (netlist_of f) t i
      row-value-is =
          let o = A.ready.rows.checked.operands in
          ap (row_value ternary_logic (value_of (code_at w base j)) (λ l p. X) (value_in w)) (sym row_is)
          ∙ value-held (is_register (row_at (netlist_of f) i)) refl
          ∙ row-cong ternary_logic (state_value (netlist_of f) i t) (λ l p. X) (value_in w) (step_value (netlist_of f) t) i (λ x h. ap value_of (E.values x h) ∙ value-of-code (step_value (netlist_of f) t x)) (row_at (netlist_of f) i) (o i row_within)
          ∙ sym (step-value (netlist_of f) o t i row_within)

      evaluated-more : (x : ℕ) → x ≡ if_known r.kind (code_of (row_in w r base j)) no_code → Evaluated (netlist_of f) (set w (value_offset i) x) t (i + 1)
      evaluated-more x e =
          let s = row_small in
          let K : ValuesKept w (set w (value_offset i) x) = values-set w x in
          let c = E.coded.room in
          let here : byte_at (set w (value_offset i) x) (value_offset i) ≡ x = get_or-set_same w (value_offset i) x 0 (omega arith) in
          let v : x ≡ code_of (step_value (netlist_of f) t i) = e ∙ kind-known r.kind (code_of (row_in w r base j)) no_code kind-is ∙ ap code_of row-value-is in
          record {
            coded = record {
              room = omega (arith, K.long);
              code = λ y l. at-or y
                  (λ q. rw (q, here, v) (code_below (step_value (netlist_of f) t i)))
                  (λ q. rw q (E.coded.code y l));
            };
            room = rw K.long E.room;
            state = packed-values w (set w (value_offset i) x) t (state_codes (netlist_of f) t (length (netlist_of f))) K E.state;
            values = λ y l. last_or y i (omega arith)
                (λ b. get_or-set_other w (value_offset i) (value_offset y) x 0 (λ (q : value_offset y ≡ value_offset i). omega arith) ∙ E.values y b)
                (λ q. rw q (here ∙ v));
          }
        where
          at-or : {P : Type 0} (y : ℕ) → (y ≡ i → P) → (byte_at (set w (value_offset i) x) (value_offset y) ≡ byte_at w (value_offset y) → P) → P
          at-or y p q = elim (ℕ_discrete y i) [ yes k ↦ p k | no k ↦ q (get_or-set_other w (value_offset i) (value_offset y) x 0 (λ (z : value_offset y ≡ value_offset i). k (omega arith))) ]

    -- ---- it is put in state 0 and in the list

    module _ (is-register : is_register (decode_row (fields_in r)) ≡ true) where
      pub register-at : row_at (netlist_of f) i ≡ register r.reset r.a r.b
      register-at = row_is ∙ register-row r.kind r.reset r.a r.b r.c is-register

      -- What holds of a register's fields, said of the row.
      on-register {ℓ} : {T : Type ℓ} (d : T) (g : ℕ → ℕ → ℕ → T) → on_register d g (row_at (netlist_of f) i) ≡ g r.reset r.a r.b
      on-register d g = ap (on_register d g) register-at

      reset-in : r.reset ≤ 2
      reset-in = subst (λ (T : Type 0). T) (on-register (Unit {0}) (λ s a l. s ≤ 2)) (A.ready.rows.checked.resets i row_within)

      -- The reset is the code in state 0.
      reset-is : r.reset ≡ code_of (state_value (netlist_of f) i 0)
      reset-is = reset-code r.reset reset-in ∙ sym (ap code_of (state-held (netlist_of f) zero i ∙ on-register _ _))

      module _ {w : List ℕ} (S : Started (netlist_of f) w i) (bytes : IsBytes w) where
        number_is : length (state_codes (netlist_of f) 0 i) ≡ j
        number_is = let l = row_within in codes-length (netlist_of f) 0 i (omega arith) ∙ sym A.number

        put_small : byte_at w (state_offset 0 + j / 4) < 2 ^ (j % 4 * 2)
        put_small =
            rw (← number_is)
            (packed-small w (state_offset 0) (state_codes (netlist_of f) 0 i) S.part bytes (omega (arith, number_is, register-small is-register)))

        pub put-asks : ((j < most_original_registers) × (state_offset 0 + state_bytes ≤ length w)) × ((r.reset < 3) × (byte_at w (state_offset 0 + j / 4) < 2 ^ (j % 4 * 2)))
        put-asks = let h = reset-in in ((register-small is-register, S.room), (omega arith, put_small))

        module _ {w₁ : List ℕ} (put : w₁ ≡ set w (state_offset 0 + j / 4) (byte_at w (state_offset 0 + j / 4) + r.reset * 2 ^ (j % 4 * 2))) where
          put-kept : StateKept 0 w w₁
          put-kept = let s = register-small is-register in rw put (kept_set (state_offset 0) (state_offset 0 + state_bytes) (state_offset 0 + j / 4) _ w (omega arith) (omega arith))

          pub list-asks : (j < most_original_registers) × (state_offset 0 ≤ length w₁)
          list-asks = let c = S.coded.room in (register-small is-register, omega (arith, put-kept.long))

          put-packed : Packed w₁ (state_offset 0) (state_codes (netlist_of f) 0 (i + 1))
          put-packed =
              let s = register-small is-register in
              let c = S.room in
              let h = reset-in in
              let q : state_codes (netlist_of f) 0 i ++ (r.reset ∷ []) ≡ state_codes (netlist_of f) 0 (i + 1) =
              ap (λ (y : ℕ). state_codes (netlist_of f) 0 i ++ (y ∷ [])) reset-is ∙ sym (codes-register (netlist_of f) 0 i (register-is ∙ is-register)) in
              subst (Packed w₁ (state_offset 0)) q
              (rw (put, ← number_is)
              (packed_more w (state_offset 0) (state_codes (netlist_of f) 0 i) S.part r.reset (omega arith) (omega (arith, number_is)) (omega arith)
              (rw number_is put_small)))

          module _ {w₂ : List ℕ} (small : r.a < 2 ^ 16) (listed : w₂ ≡ sets w₁ (next_offset j) (u16_bytes r.a)) where
            list-kept : KeptOutside (next_offset j) (next_offset (j + 1)) w₁ w₂
            list-kept = rw listed (kept_sets (next_offset j) (next_offset (j + 1)) (u16_bytes r.a) w₁ (next_offset j) (omega arith) (omega arith))

            nexts-more : NextsListed (netlist_of f) w₂ (i + 1)
            nexts-more x h e =
                last_or x i (omega arith)
                (λ l.
                let less = before-less (netlist_of f) i x (let k = row_within in omega arith) l e in
                let k = A.number in
                let s = register-small is-register in
                u16-kept list-kept (next_offset (registers_before (netlist_of f) x)) (λ y a b c d. omega arith)
                ∙ u16-kept put-kept (next_offset (registers_before (netlist_of f) x)) (λ y a b c d. omega arith)
                ∙ S.nexts x l e)
                (λ q.
                let s = register-small is-register in
                let c = S.coded.room in
                let k = put-kept.long in
                rw (q, ← A.number, listed) (u16-back w₁ (next_offset j) r.a small (omega arith) ∙ sym (on-register 0 (λ s a l. a))))

            pub started-more : StartKept w w₂ × Started (netlist_of f) w₂ (i + 1)
            started-more =
                let s = register-small is-register in (
                  kept-join (next_offset 0) (state_offset 1) w w₁ w₂ put-kept list-kept (omega arith) (omega arith) (omega arith) (omega arith),
                  record {
                    coded = coded-listed list-kept (omega arith) (omega arith) (coded_kept w w₁ 0 put-kept S.coded);
                    room = rw (list-kept.long, put-kept.long) S.room;
                    part = packed-listed list-kept (omega arith) (omega arith) 0 (state_codes (netlist_of f) 0 (i + 1)) put-packed;
                    nexts = nexts-more;
                    clear = λ t h l. packed-listed list-kept (omega arith) (omega arith) t [] (packed-state w w₁ 0 t [] (λ (e : t ≡ 0). omega arith) put-kept (S.clear t h l));
                  },
                )

    pub started-other : (w : List ℕ) → is_register (decode_row (fields_in r)) ≡ false → Started (netlist_of f) w i → Started (netlist_of f) w (i + 1)
    started-other w e S = record {
      coded = S.coded;
      room = S.room;
      part = subst (Packed w (state_offset 0)) (sym (codes-other (netlist_of f) 0 i (register-is ∙ e))) S.part;
      nexts = λ x h q. last_or x i (omega arith) (λ l. S.nexts x l q)
          (λ k. absurd (false≢true (sym (register-is ∙ e) ∙ ap (λ (y : ℕ). is_register (row_at (netlist_of f) y)) (sym k) ∙ q)));
      clear = S.clear;
    }

  -- ---- the row by the offset at which it stands

  module _ {offset : ℕ} (at_row : offset ≡ row_offset i) where
    module _ {r : Fields} (read : fields_in r ≡ fields_from f offset) {w : List ℕ} {t base : ℕ} (E : Evaluated (netlist_of f) w t i) (at-state : base ≡ state_offset t) where
      row_read : fields_in r ≡ read_fields f i
      row_read = read ∙ ap (fields_from f) at_row

      pub value-asks : RowToEvaluate w r base j
      value-asks = row-asks r row_read E at-state

      pub value-number : {k : ℕ} → k ≡ j + cond (eqb r.kind 2) 1 0 → k ≡ registers_before (netlist_of f) (i + 1)
      value-number {k} n = number-next r row_read k n

      pub value-put : {x : ℕ} → x ≡ if_known r.kind (code_of (row_in w r base j)) no_code → Evaluated (netlist_of f) (set w (value_offset i) x) t (i + 1)
      value-put {x} e = evaluated-more r row_read E at-state x e
