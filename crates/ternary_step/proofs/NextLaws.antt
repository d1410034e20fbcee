-- From a state to the next: what the listed next-value literals show in a step is the next state.
-- Assumes nothing.
use Prim.Native.Nat.{ℕ, zero, suc, ◌+◌, ◌-◌, ◌*◌, ◌<◌, ◌≤◌, ◌/◌, ◌%◌, ◌^◌}
use mathlib.Core.Path.{◌≡◌, refl, sym, ap, ap₂, ◌∙◌, subst}
use mathlib.Core.Bool.{Bool, true, false}
use mathlib.Core.List.{List, [], ◌∷◌, ◌++◌}
use native.Mathlib.Omega.{arith}
use native.Mathlib.Numerals.{add-one}
use lib.ListN.{length, set}
use Rattle.memory.specs.Lists.{count_if}
use Rattle.memory.specs.Fields.{IsBytes, byte_at, u16_at}
use Rattle.memory.specs.Frames.{KeptOutside}
use Rattle.memory.proofs.TestLaws.{last_or}
use Rattle.memory.proofs.ListLaws.{tabulate-length, count-place}
use Rattle.memory.proofs.FrameLaws.{kept_set, kept-join, u16-kept}
use Rattle.ternary.specs.Ternary.{code_of, value_of}
use Rattle.ternary.proofs.RuleLaws.{value-of-code}
use Rattle.netlist.specs.Limits.{most_original_registers, last_state}
use Rattle.netlist.specs.Rows.{Row, row_at, is_register, constant}
use Rattle.netlist.specs.Simulation.{literal_value}
use Rattle.lasso.specs.TernaryRun.{ternary_logic}
use Rattle.netlist.specs.WellFormed.{FoldableRows}
use Rattle.netlist.proofs.SimulationLaws.{literal-cong}
use Rattle.lasso.specs.Generators.{state_value}
use Rattle.fold_memory.specs.WorkMap.{value_offset, next_offset, state_bytes, state_offset}
use Rattle.ternary_step.specs.StateMap.{Packed, registers_before, next_of, state_codes, Stored, value_in, step_value, Valued, literal_in, Evaluated, NextsListed, NextReady, shown_codes, Searched}
use Rattle.ternary_step.proofs.CodeLaws.{packed-small, packed_more}
use Rattle.ternary_step.proofs.RegisterLaws.{on-next, before-yes, before-no, before-all, codes-register, codes-other, state-held}
use Rattle.ternary_step.proofs.StateLaws.{IsCode}
use Rattle.ternary_step.proofs.StepLaws.{ValuesKept, StateKept, packed-values, packed-state, value-kept, coded_kept}

-- ---- the packing of state m, register by register: w is the memory before, w₁ with j registers put

module _ {w : List ℕ} {n m : ℕ} (R : NextReady w n m) {w₁ : List ℕ} {j : ℕ} (less : j < n) (K : StateKept m w w₁) where
  list_same : (k : ℕ) → k < most_original_registers → u16_at w₁ (next_offset k) ≡ u16_at w (next_offset k)
  list_same k h = u16-kept K (next_offset k) (λ x a b c d. omega arith)

  module _ {next : ℕ} (listed : next ≡ u16_at w₁ (next_offset j)) where
    next-is : next ≡ u16_at w (next_offset j)
    next-is = let f = R.few in listed ∙ list_same j (omega arith)

    module _ {code : ℕ} (shown : IsCode code (literal_in w₁ next)) where
      shown-is : code ≡ code_of (literal_in w (u16_at w (next_offset j)))
      shown-is =
          shown.0 ∙ rw next-is
          (ap code_of (literal-cong ternary_logic (value_in w₁) (value_in w) (u16_at w (next_offset j)) (ap value_of (value-kept w w₁ m (u16_at w (next_offset j) / 2) (R.literals j less) K))))

      module _ (P : Packed w₁ (state_offset m) (shown_codes w j)) {base : ℕ} (at-state : base ≡ state_offset m) (bytes : IsBytes w₁) where
        number_is : length (shown_codes w j) ≡ j
        number_is = tabulate-length j (λ k. code_of (literal_in w (u16_at w (next_offset k))))

        put_small : byte_at w₁ (base + j / 4) < 2 ^ (j % 4 * 2)
        put_small =
            let f = R.few in
            let q = packed-small w₁ (state_offset m) (shown_codes w j) P bytes (omega (arith, number_is)) in
            subst (λ (b : ℕ). byte_at w₁ (b + j / 4) < 2 ^ (j % 4 * 2)) (sym at-state) (subst (λ (k : ℕ). byte_at w₁ (state_offset m + k / 4) < 2 ^ (k % 4 * 2)) number_is q)

        pub next-put-asks : ((j < most_original_registers) × (base + state_bytes ≤ length w₁)) × ((code < 3) × (byte_at w₁ (base + j / 4) < 2 ^ (j % 4 * 2)))
        next-put-asks =
            let f = R.few in
            let r = R.room in
            let l = K.long in
            ((omega arith, omega arith), (shown.1, put_small))

        pub next-packed : {w₂ : List ℕ} → w₂ ≡ set w₁ (base + j / 4) (byte_at w₁ (base + j / 4) + code * 2 ^ (j % 4 * 2)) → StateKept m w w₂ × Packed w₂ (state_offset m) (shown_codes w (j + 1))
        next-packed {w₂} put =
            let f = R.few in
            let r = R.room in
            let l = K.long in
            let c = shown.1 in
            let room : base + state_bytes ≤ length w₁ = omega arith in
            let L : StateKept m w₁ w₂ = rw put (kept_set (state_offset m) (state_offset m + state_bytes) (base + j / 4) _ w₁ (omega arith) (omega arith)) in
            let q : shown_codes w j ++ (code ∷ []) ≡ shown_codes w (j + 1) = rw (add-one j, shown-is) refl in
            let P₁ : Packed w₁ base (shown_codes w j) = subst (λ (b : ℕ). Packed w₁ b (shown_codes w j)) (sym at-state) P in
            let p = packed_more w₁ base (shown_codes w j) P₁ code (omega arith) (omega (arith, number_is)) room
            (subst (λ (k : ℕ). byte_at w₁ (base + k / 4) < 2 ^ (k % 4 * 2)) (sym number_is) put_small) in (
              kept-join (state_offset m) (state_offset m + state_bytes) w w₁ w₂ K L (omega arith) (omega arith) (omega arith) (omega arith),
              subst (λ (v : List ℕ). Packed v (state_offset m) (shown_codes w (j + 1))) (sym put)
                  (subst (λ (b : ℕ). Packed (set w₁ (base + j / 4) (byte_at w₁ (base + j / 4) + code * 2 ^ (j % 4 * 2))) b (shown_codes w (j + 1))) at-state
                  (subst (Packed (set w₁ (base + j / 4) (byte_at w₁ (base + j / 4) + code * 2 ^ (j % 4 * 2))) base) q
                  (subst (λ (k : ℕ). Packed (set w₁ (base + k / 4) (byte_at w₁ (base + k / 4) + code * 2 ^ (k % 4 * 2))) base (shown_codes w j ++ (code ∷ []))) number_is p))),
            )

-- ---- what is shown in step u is state u + 1

module _ {rows : List Row} (accepted : FoldableRows rows) where
  next-below : (x : ℕ) → x < length rows → is_register (row_at rows x) ≡ true → next_of (row_at rows x) / 2 < length rows
  next-below x h e = subst (λ (T : Type 0). T) (on-next (Unit {0}) (λ a. a / 2 < length rows) (row_at rows x) e) (accepted.checked.nexts x h)

  module _ (w : List ℕ) (nexts : NextsListed rows w (length rows)) where
    listed_below : (i : ℕ) → i ≤ length rows → (j : ℕ) → j < registers_before rows i → u16_at w (next_offset j) / 2 < length rows
    listed_below zero h j l = absurd (omega arith)
    listed_below (suc i) h j l = by_kind (is_register (row_at rows i)) refl (listed_below i (omega arith) j)
      where
        by_kind : (b : Bool) → is_register (row_at rows i) ≡ b → (j < registers_before rows i → u16_at w (next_offset j) / 2 < length rows) → u16_at w (next_offset j) / 2 < length rows
        by_kind true e before =
            last_or j (registers_before rows i) (omega (arith, before-yes rows i h e))
            before
            (λ q. rw (q, nexts i h e) (next-below i h e))
        by_kind false e before = before (omega (arith, before-no rows i h e))

    module _ (u : ℕ) (values : Valued rows w u (length rows)) where
      shown-state : (i : ℕ) → i < length rows → is_register (row_at rows i) ≡ true → code_of (literal_in w (u16_at w (next_offset (registers_before rows i)))) ≡ code_of (state_value rows i (suc u))
      shown-state i h e =
          let l = next_of (row_at rows i) in
          rw (nexts i h e)
          (ap code_of
          (literal-cong ternary_logic (value_in w) (step_value rows u) l (ap value_of (values (l / 2) (next-below i h e)) ∙ value-of-code (step_value rows u (l / 2)))
          ∙ sym (state-held rows (suc u) i ∙ on-next _ (literal_value ternary_logic (step_value rows u)) (row_at rows i) e)))

      shown-part : (i : ℕ) → i ≤ length rows → shown_codes w (registers_before rows i) ≡ state_codes rows (suc u) i
      unfolding state_codes
      shown-part zero h = refl
      shown-part (suc i) h = by_kind (is_register (row_at rows i)) refl (shown-part i (omega arith))
        where
          by_kind : (b : Bool) → is_register (row_at rows i) ≡ b → shown_codes w (registers_before rows i) ≡ state_codes rows (suc u) i → shown_codes w (registers_before rows (suc i)) ≡ state_codes rows (suc u) (suc i)
          by_kind true e before =
              ap (shown_codes w) (before-yes rows i h e)
              ∙ ap₂ (λ (cs : List ℕ) (c : ℕ). cs ++ (c ∷ [])) before (shown-state i h e)
              ∙ sym (codes-register rows (suc u) i e) ∙ ap (state_codes rows (suc u)) (add-one i)
          by_kind false e before =
              ap (shown_codes w) (before-no rows i h e) ∙ before
              ∙ sym (codes-other rows (suc u) i e) ∙ ap (state_codes rows (suc u)) (add-one i)

      shown-all : shown_codes w (count_if is_register rows) ≡ state_codes rows (suc u) (length rows)
      shown-all = ap (shown_codes w) (sym (before-all rows)) ∙ shown-part (length rows) (omega arith)

-- ---- from state m - 1 to state m

module _ {rows : List Row} {w : List ℕ} {m : ℕ} (from : 1 ≤ m) (to : m ≤ last_state) (S : Searched rows w m) where
  module _ {n registers : ℕ} {w₁ : List ℕ} (accepted : FoldableRows rows) (few : count_if is_register rows ≤ most_original_registers) (count : n ≡ length rows) (number : registers ≡ count_if is_register rows) (room : state_offset (m + 1) ≤ length w) (K : ValuesKept w w₁) (E : Evaluated rows w₁ (m - 1) n) where
    nexts-valued : NextsListed rows w₁ (length rows)
    nexts-valued x h e = u16-kept K (next_offset (registers_before rows x)) (λ y p q c d. omega arith) ∙ S.nexts x h e

    pub pack-asks : NextReady w₁ registers m
    pack-asks =
        let s = accepted.small in
        let b = before-all rows in
        let k = K.long in record {
          coded = E.coded;
          few = omega arith;
          known-state = to;
          room = omega arith;
          literals = λ j l. (let q = listed_below accepted w₁ nexts-valued (length rows) (omega arith) j (omega arith) in omega arith);
          clear = packed-values w w₁ m [] K (S.clear m (omega arith) to);
        }

    module _ {w₂ : List ℕ} (L : StateKept m w₁ w₂) (P : Packed w₂ (state_offset m) (shown_codes w₁ registers)) where
      pub advance-kept : KeptOutside (value_offset 0) (state_offset (m + 1)) w w₂
      advance-kept = kept-join (value_offset 0) (state_offset (m + 1)) w w₁ w₂ K L (omega arith) (omega arith) (omega arith) (omega arith)

      other-kept : (t : ℕ) (cs : List ℕ) → (t ≡ m → ⊥) → Packed w (state_offset t) cs → Packed w₂ (state_offset t) cs
      other-kept t cs q C = packed-state w₁ w₂ m t cs q L (packed-values w w₁ t cs K C)

      new-stored : Stored rows w₂ m
      new-stored =
          let e : suc (m - 1) ≡ m = omega arith in
          subst (Packed w₂ (state_offset m))
          (ap (shown_codes w₁) number ∙ shown-all accepted w₁ nexts-valued (m - 1) (λ x h. E.values x (omega arith)) ∙ ap (λ (t : ℕ). state_codes rows t (length rows)) e) P

      pub advance-done : Searched rows w₂ (m + 1)
      advance-done =
          let k = K.long in
          let l = L.long in record {
            coded = coded_kept w₁ w₂ m L E.coded;
            room = omega arith;
            stored = λ t h. last_or t m (omega arith)
                (λ l. other-kept t (state_codes rows t (length rows)) (λ (e : t ≡ m). omega arith) (S.stored t l))
                (λ e. subst (Stored rows w₂) (sym e) new-stored);
            clear = λ t h l. other-kept t [] (λ (e : t ≡ m). omega arith) (S.clear t (omega arith) l);
            nexts = λ x h e. let s = count-place is_register constant rows x h e in u16-kept L (next_offset (registers_before rows x)) (λ y p r c d. omega arith) ∙ nexts-valued x h e;
          }
