-- The passes over the rows: what each asks of a row and leaves after one row more.
-- Assumes nothing.
use Prim.Native.Nat.{ℕ, ◌+◌, ◌-◌, ◌<◌, ◌≤◌, ◌/◌, ◌^◌}
use mathlib.Core.Path.{◌≡◌, refl, sym, ap, ◌∙◌}
use mathlib.Core.Bool.{Bool, true, false, cond}
use mathlib.Core.Logic.{⊎_elim}
use mathlib.Core.List.{List, [], ◌∷◌, ◌++◌, map, map-append}
use native.Mathlib.Omega.{arith}
use native.Mathlib.Numerals.{add-one}
use lib.Dec.{eqb}
use lib.ListN.{length, set, take, length-map, length-set, get_or-map}
use lib.Seq.{sets, length-sets, take_all}
use borrow.Author.Tests.{eq-eqb}
use Rattle.memory.specs.Lists.{count_if}
use Rattle.memory.specs.Fields.{byte_at}
use Rattle.memory.proofs.ListLaws.{tabulate-at, count_next, count-some-le, count-place}
use Rattle.memory.proofs.FrameLaws.{kept_sets, sets-at}
use Rattle.netlist.specs.Rows.{Row, constant, input, register, and_gate, xor_gate, mux_gate, output, row_at, is_input, is_unknown}
use Rattle.netlist.specs.FileFormat.{row_offset, netlist_of}
use Rattle.netlist.specs.Simulation.{bool_logic, start_by, row_value, reset_value, next_value, value_at, values_up_to, step_values}
use Rattle.netlist.specs.RunLayout.{place_among}
use Rattle.netlist.specs.WellFormed.{NextBelow, CheckedRows}
use Rattle.netlist.proofs.RowLaws.{next-wider}
use Rattle.netlist.proofs.SimulationLaws.{literal-cong, row-cong, values_length}
use Rattle.blockfile.specs.Ready.{Ready}
use Rattle.row_values.specs.Values.{IsBinary, bit, truth_at, bit_from, bit_byte, bit_bytes, held_in, value_in, RowToRun}
use Rattle.row_values.specs.declared.Step.{Step}
use Rattle.row_values.proofs.BitLaws.{bytes-at, bits_at, binary-set, binary-sets}
use Rattle.row_values.proofs.RowValueLaws.{input-is}
use Rattle.simulate.specs.StepValues.{state_from, step_inputs, reset_choices, values_before, step_from}
use Rattle.simulate.specs.Steps.{ValuesRoom, TwoHalves, InputsFit, ValuesStand}
use Rattle.simulate.proofs.WriteLaws.{put_last, put_next}
use Rattle.simulate.proofs.PlaceLaws.{input-place, register-place}

-- ---- what a row depends on

-- What a row takes next is read among the rows below m.
pub next-cong : (w z : ℕ → Bool) (m : ℕ) → ((j : ℕ) → j < m → w j ≡ z j) → (r : Row) → NextBelow m r → next_value bool_logic w r ≡ next_value bool_logic z r
next-cong w z m e constant b = refl
next-cong w z m e (input _ _) b = refl
next-cong w z m e (register _ l _) b = literal-cong bool_logic w z l (e (l / 2) b)
next-cong w z m e (and_gate _ _) b = refl
next-cong w z m e (xor_gate _ _) b = refl
next-cong w z m e (mux_gate _ _ _) b = refl
next-cong w z m e (output _ _ _) b = refl

-- A row's value depends on the inputs where it is one, and what it starts as on the choices where it is a register.
input-cong : (h : Bool) (u u' : ℕ → ℕ → Bool) (w : ℕ → Bool) (r : Row) → ((l p : ℕ) → r ≡ input l p → u l p ≡ u' l p) → row_value bool_logic h u w r ≡ row_value bool_logic h u' w r
input-cong h u u' w constant e = refl
input-cong h u u' w (input l p) e = e l p refl
input-cong h u u' w (register _ _ _) e = refl
input-cong h u u' w (and_gate _ _) e = refl
input-cong h u u' w (xor_gate _ _) e = refl
input-cong h u u' w (mux_gate _ _ _) e = refl
input-cong h u u' w (output _ _ _) e = refl

choice-cong : (u u' : ℕ → Bool) (r : Row) → ((s n l : ℕ) → r ≡ register s n l → u l ≡ u' l) → reset_value bool_logic u r ≡ reset_value bool_logic u' r
choice-cong u u' constant e = refl
choice-cong u u' (input _ _) e = refl
choice-cong u u' (register s n l) e = ap (start_by bool_logic s) (e s n l refl)
choice-cong u u' (and_gate _ _) e = refl
choice-cong u u' (xor_gate _ _) e = refl
choice-cong u u' (mux_gate _ _ _) e = refl
choice-cong u u' (output _ _ _) e = refl

-- ---- memory

-- Written with values, memory is as ready as it was.
pub room-written : (n : ℕ) (v w : List ℕ) (o : ℕ) (xs : List ℕ) → ValuesRoom n v → IsBinary xs → w ≡ sets v o xs → ValuesRoom n w
room-written n v w o xs W b e = rw e (record { fits = omega (arith, W.fits, length-sets v o xs); binary = binary-sets v o xs W.binary b })

pub halves_set : (n : ℕ) (s : Step) (v : List ℕ) (i x : ℕ) → TwoHalves n s v → x ≤ 1 → TwoHalves n s (set v i x)
halves_set n s v i x H h = record { current-fits = omega (arith, H.current-fits, length-set v i x); previous-fits = omega (arith, H.previous-fits, length-set v i x); apart = H.apart; binary = binary-set v i x H.binary h }

pub halves-written : (n : ℕ) (s : Step) (v w : List ℕ) (o : ℕ) (xs : List ℕ) → TwoHalves n s v → IsBinary xs → w ≡ sets v o xs → TwoHalves n s w
halves-written n s v w o xs H b e = rw e (record { current-fits = omega (arith, H.current-fits, length-sets v o xs); previous-fits = omega (arith, H.previous-fits, length-sets v o xs); apart = H.apart; binary = binary-sets v o xs H.binary b })

module _ (f : List ℕ) (n : ℕ) (N : Ready CheckedRows f n) where
  in_rows : (i : ℕ) → i < n → i < length (netlist_of f)
  in_rows i h = omega (arith, N.file.count)

  pub row-ready : (i : ℕ) → i < n → RowToRun f i
  row-ready i h = record {
    few = omega (arith, N.file.few);
    inside = N.file.inside i h;
    row_is = N.file.row_is i h;
    operands = N.rows.operands i (in_rows i h);
    reset = N.rows.resets i (in_rows i h);
  }

  -- ---- evaluate

  module _ (i offset : ℕ) (h : i < n) (eo : offset ≡ row_offset i) where
    kind-input : is_input (row_at (netlist_of f) i) ≡ eqb (byte_at f offset) 1
    kind-input = input-is f i (row-ready i h) offset eo

    -- k inputs stand before row i.
    module _ (k : ℕ) (ek : k ≡ place_among is_input (netlist_of f) i) where
      pub input-there : (inputs : List ℕ) (s : Step) → InputsFit f inputs s → byte_at f offset ≡ 1 → s.base + k < length inputs
      input-there inputs s I e = omega (arith, I.count, count-place is_input constant (netlist_of f) i (in_rows i h) (kind-input ∙ eq-eqb (byte_at f offset) 1 e))

      pub input-next : (o : ℕ) → o ≡ cond (eqb (byte_at f offset) 1) 1 0 → k + o ≡ place_among is_input (netlist_of f) (i + 1)
      input-next o e =
          let q : o ≡ cond {A = ℕ} (is_input (row_at (netlist_of f) i)) 1 0 = e ∙ ap (λ (b : Bool). cond {A = ℕ} b 1 0) (sym kind-input) in
          omega (arith, count_next is_input constant (netlist_of f) i (in_rows i h))

  pub next-below : (o m i : ℕ) → o + n ≤ m → i < n → NextBelow (m - o) (row_at (netlist_of f) i)
  next-below o m i fits h = next-wider (length (netlist_of f)) (m - o) (omega (arith, N.file.count)) (row_at (netlist_of f) i) (N.rows.nexts i (in_rows i h))

  -- Memory v at the start of the step s.
  module _ (inputs : List ℕ) (s : Step) (v : List ℕ) where
    abbrev values : ℕ → List Bool
    values i = values_before (netlist_of f) inputs v s i

    pub evaluate-none : ValuesStand f inputs s v 0 v
    unfolding values_up_to
    evaluate-none = record { values = refl }

    -- Memory w after i rows.
    module _ (i : ℕ) (w : List ℕ) (H : TwoHalves n s w) (Q : ValuesStand f inputs s v i w) where
      same-room : length w ≡ length v
      same-room = ap length Q.values ∙ length-sets v s.current (bit_bytes (values i))

      written : length (bit_bytes (values i)) ≡ i
      written = length-map (values i) bit_byte ∙ values_length bool_logic (netlist_of f) (state_from (netlist_of f) v s) (step_inputs (netlist_of f) inputs s.base) i

      module _ (h : i < n) where
        fits : s.current + length (bit_bytes (values i)) ≤ length v
        fits = omega (arith, written, same-room, H.current-fits)

        -- The last step's values stay.
        previous-is : (j : ℕ) → j < n → bit_from w s.previous j ≡ bit_from v s.previous j
        previous-is j l =
            ap bit (ap (λ (l : List ℕ). byte_at l (s.previous + j)) Q.values
            ∙ ⊎_elim
            (λ (a : s.current + n ≤ s.previous). (kept_sets s.current (s.current + length (bit_bytes (values i))) (bit_bytes (values i)) v s.current (omega arith) (omega arith)).after (s.previous + j) (omega (arith, written)))
            (λ (a : s.previous + n ≤ s.current). (kept_sets s.current (s.current + length (bit_bytes (values i))) (bit_bytes (values i)) v s.current (omega arith) (omega arith)).before (s.previous + j) (omega arith))
            H.apart)

        held-is : held_in w s i (row_at (netlist_of f) i) ≡ value_at bool_logic (state_from (netlist_of f) v s) i
        held-is =
            held-cong s.initial
            ∙ sym (tabulate-at (length (netlist_of f)) (λ j. held_in v s j (row_at (netlist_of f) j)) i false (in_rows i h))
          where
            held : List ℕ → Bool → Bool
            held u t = cond t (bit_from u s.previous i) (next_value bool_logic (bit_from u s.previous) (row_at (netlist_of f) i))

            held-cong : (t : Bool) → held w t ≡ held v t
            held-cong true = previous-is i h
            held-cong false = next-cong (bit_from w s.previous) (bit_from v s.previous) (length (netlist_of f)) (λ j l. previous-is j (omega (arith, N.file.count))) (row_at (netlist_of f) i) (N.rows.nexts i (in_rows i h))

        value-is : (j : ℕ) → j < i → bit_from w s.current j ≡ value_at bool_logic (values i) j
        value-is j l = ap bit (ap (λ (l : List ℕ). byte_at l (s.current + j)) Q.values ∙ sets-at (bit_bytes (values i)) v s.current j (omega (arith, written)) fits) ∙ bits_at (values i) j

        input-is-at : (k : ℕ) → k ≡ place_among is_input (netlist_of f) i → (l p : ℕ) → row_at (netlist_of f) i ≡ input l p → truth_at inputs (s.base + k) ≡ step_inputs (netlist_of f) inputs s.base l p
        input-is-at k ek l p e = ap (bit_from inputs s.base) (ek ∙ ap (place_among is_input (netlist_of f)) (sym (input-place (netlist_of f) N.rows.unique i (in_rows i h) l p e)))

        pub evaluate-more : (k x : ℕ) → k ≡ place_among is_input (netlist_of f) i → x ≡ bit_byte (value_in w inputs s k i (row_at (netlist_of f) i)) → ValuesStand f inputs s v (i + 1) (set w (s.current + i) x)
        unfolding values_up_to
        evaluate-more k x ek ex =
            let rows = netlist_of f in
            let r = row_at rows i in
            let t = state_from rows v s in
            let u = step_inputs rows inputs s.base in
            let y = row_value bool_logic (value_at bool_logic t i) u (value_at bool_logic (values i)) r in
            let value : value_in w inputs s k i r ≡ y =
            ap (λ (b : Bool). row_value bool_logic b (λ l p. truth_at inputs (s.base + k)) (bit_from w s.current) r) held-is
            ∙ input-cong (value_at bool_logic t i) (λ l p. truth_at inputs (s.base + k)) u (bit_from w s.current) r (input-is-at k ek)
            ∙ row-cong bool_logic (value_at bool_logic t i) u (bit_from w s.current) (value_at bool_logic (values i)) i value-is r (N.rows.operands i (in_rows i h)) in
            record {
              values = put_last w v (bit_bytes (values i)) s.current (s.current + i) x Q.values (omega (arith, written))
                  ∙ ap (λ (z : ℕ). sets v s.current (bit_bytes (values i) ++ (z ∷ []))) (ex ∙ ap bit_byte value)
                  ∙ ap (λ (l : List ℕ). sets v s.current l) (sym (map-append bit_byte (values i) (y ∷ [])))
                  ∙ ap (λ (m : ℕ). sets v s.current (bit_bytes (values m))) (sym (add-one i));
            }

    -- All rows.
    pub evaluate-all : (w : List ℕ) → ValuesStand f inputs s v n w → w ≡ sets v s.current (bit_bytes (step_from (netlist_of f) inputs v s))
    unfolding step_values
    evaluate-all w Q = Q.values ∙ ap (λ (m : ℕ). sets v s.current (bit_bytes (values m))) N.file.count

  -- ---- start

  module _ (i : ℕ) (h : i < n) (k : ℕ) (ek : k ≡ place_among is_unknown (netlist_of f) i) where
    pub choice-there : (choices : List ℕ) → count_if is_unknown (netlist_of f) ≤ length choices → is_unknown (row_at (netlist_of f) i) ≡ true → k < length choices
    choice-there choices fit e = omega (arith, count-place is_unknown constant (netlist_of f) i (in_rows i h) e)

    pub choice-next : (o : ℕ) → o ≡ cond (is_unknown (row_at (netlist_of f) i)) 1 0 → k + o ≡ place_among is_unknown (netlist_of f) (i + 1)
    choice-next o eo = omega (arith, count_next is_unknown constant (netlist_of f) i (in_rows i h))

    pub choice-small : (o : ℕ) → o ≤ 1 → k + o < 2 ^ 64
    choice-small o l = omega (arith, (count-some-le is_unknown constant (netlist_of f) i).0, N.file.few)

  module _ (choices : List ℕ) where
    -- What each row starts as.
    abbrev start_in : Row → Bool
    start_in = reset_value bool_logic (reset_choices (netlist_of f) choices)

    abbrev start_bytes : List ℕ
    start_bytes = bit_bytes (map start_in (netlist_of f))

    bytes-length : length start_bytes ≡ n
    bytes-length = length-map (map start_in (netlist_of f)) bit_byte ∙ length-map (netlist_of f) start_in ∙ sym N.file.count

    byte-is : (i : ℕ) → byte_at start_bytes i ≡ bit_byte (start_in (row_at (netlist_of f) i))
    byte-is i = bytes-at (map start_in (netlist_of f)) i ∙ ap bit_byte (get_or-map start_in (netlist_of f) i constant)

    -- Memory w, which was v, has the bytes of the first i rows from n on.
    module _ (v w : List ℕ) (i : ℕ) (ew : w ≡ sets v n (take i start_bytes)) where
      pub start-more : i < n → (k x : ℕ) → k ≡ place_among is_unknown (netlist_of f) i → x ≡ bit_byte (reset_value bool_logic (λ l. truth_at choices k) (row_at (netlist_of f) i)) → set w (n + i) x ≡ sets v n (take (i + 1) start_bytes)
      start-more h k x ek ex =
          put_next w v start_bytes n i (n + i) x ew (omega (arith, bytes-length)) refl
          (ex
          ∙ ap bit_byte (choice-cong (λ l. truth_at choices k) (reset_choices (netlist_of f) choices) (row_at (netlist_of f) i) (λ s m l e. ap (truth_at choices) (ek ∙ ap (place_among is_unknown (netlist_of f)) (sym (register-place (netlist_of f) N.rows.unique i (in_rows i h) s m l e)))))
          ∙ sym (byte-is i))

      -- All rows.
      pub start-all : i ≤ n → n ≤ i → w ≡ sets v n start_bytes
      start-all h last = ew ∙ ap (λ (l : List ℕ). sets v n l) (take_all i start_bytes (omega (arith, bytes-length)))
