-- One step of the run from its two passes, and the run after one step more.
-- Assumes nothing.
use Prim.Native.Nat.{ℕ, zero, suc, ◌+◌, ◌-◌, ◌*◌, ◌<◌, ◌≤◌, ◌^◌}
use mathlib.Core.Path.{◌≡◌, refl, sym, ap, ◌∙◌, subst}
use mathlib.Core.Bool.{Bool, true, false, cond, not, true≢false}
use mathlib.Core.List.{List, [], ◌∷◌, ◌++◌, map}
use mathlib.Core.Logic.{inl, inr, ⊎_elim}
use native.Mathlib.Omega.{arith}
use native.Mathlib.Numerals.{add-one}
use native.Mathlib.Nat.{zero-mul, suc-mul, mul_comm, mul-le-mul_right}
use lib.ListN.{length, take, drop, length-append, length-drop, length-map, get_or-map}
use lib.Seq.{sets, length-sets, get_or-drop, take-suc, take-length, ext_get_or}
use Rattle.memory.specs.Lists.{count_if, join_below, tabulate}
use Rattle.memory.specs.Fields.{byte_at}
use Rattle.memory.proofs.ListLaws.{join-length, tabulate-length, tabulate-at, count_next}
use Rattle.memory.proofs.BufferLaws.{sets-join}
use Rattle.memory.proofs.FrameLaws.{sets-at}
use Rattle.netlist.specs.Limits.{most_rows, most_steps}
use Rattle.netlist.specs.Rows.{Row, constant, input, register, and_gate, xor_gate, mux_gate, output, row_at, is_input, is_output, on_output}
use Rattle.netlist.specs.FileFormat.{netlist_of}
use Rattle.netlist.specs.Simulation.{bool_logic, reset_value, next_value, value_at, step_values, run_state, run_value}
use Rattle.netlist.specs.RunLayout.{values_from_bytes, step_bytes, run_bytes}
use Rattle.netlist.proofs.RowLaws.{output-is}
use Rattle.netlist.proofs.SimulationLaws.{values_length}
use Rattle.netlist.specs.WellFormed.{CheckedRows}
use Rattle.blockfile.specs.Ready.{Ready}
use Rattle.row_values.specs.Values.{bit, bit_from, bit_byte, bit_bytes}
use Rattle.row_values.specs.declared.Step.{Step}
use Rattle.row_values.proofs.BitLaws.{bit-byte, bytes-at, bits_at, binary-bytes}
use Rattle.simulate.specs.StepValues.{state_from, next_step, step_inputs, reset_choices, step_from, shown_bytes}
use Rattle.simulate.specs.Steps.{ValuesRoom, TwoHalves, Given, StepReady, Stepped}
use Rattle.simulate.proofs.WriteLaws.{write-front}
use Rattle.simulate.proofs.PlaceLaws.{node-before, output-from, count-parts}
use Rattle.simulate.proofs.PassLaws.{next-cong, room-written, halves-written}

-- The initial step of a run over n rows.
abbrev first_step : ℕ → Step
first_step n = record { base = 0; current = 0; previous = n; initial = true }

-- ---- numbers

-- Step t of T has room for its k values.
step_fits : (t T k base room : ℕ) → t < T → base ≡ t * k → T * k ≤ room → base + k ≤ room
step_fits t T k base room h e l = omega (arith, mul-le-mul_right k h, suc-mul t k)

step-next : (t k base : ℕ) → base ≡ t * k → base + k ≡ (t + 1) * k
step-next t k base e = rw (add-one t) (omega (arith, suc-mul t k))

-- A number of steps times a count of rows is no large number.
product_small : (T m : ℕ) → T ≤ most_steps → m ≤ most_rows → T * m ≤ most_steps * most_rows
product_small T m h k = omega (arith, mul-le-mul_right m h, mul-le-mul_right most_steps k)

-- ---- lists

join-none : (F : ℕ → List ℕ) (m : ℕ) → ((j : ℕ) → j < m → F j ≡ []) → join_below m F ≡ []
join-none F zero h = refl
join-none F (suc m) h = rw (join-none F m (λ j l. h j (omega arith)), h m (omega arith))

-- Lists that are empty before m, and from m on one byte each of w, from o on.
join-tail : (F : ℕ → List ℕ) (w : List ℕ) (m o d : ℕ) → o + d ≤ length w → ((j : ℕ) → j < m → F j ≡ []) → ((j : ℕ) → j < d → F (m + j) ≡ byte_at w (o + j) ∷ []) → join_below (m + d) F ≡ take d (drop o w)
join-tail F w m o zero h none one = let z : m + 0 ≡ m = omega arith in rw z (join-none F m none)
join-tail F w m o (suc d) h none one =
    let z : m + suc d ≡ suc (m + d) = omega arith in
    rw z
    (ap (λ (l : List ℕ). l ++ F (m + d)) (join-tail F w m o d (omega arith) none (λ j l. one j (omega arith)))
    ∙ ap (λ (l : List ℕ). take d (drop o w) ++ l) (one d (omega arith) ∙ ap (λ (x : ℕ). x ∷ []) (sym (get_or-drop o w d 0)))
    ∙ sym (take-suc (drop o w) d 0 (omega (arith, length-drop o w))))

-- ---- what the outputs show

shown-node : (x : ℕ) (r : Row) → is_output r ≡ false → on_output [] (λ a l p. x ∷ []) r ≡ []
shown-node x constant e = refl
shown-node x (input _ _) e = refl
shown-node x (register _ _ _) e = refl
shown-node x (and_gate _ _) e = refl
shown-node x (xor_gate _ _) e = refl
shown-node x (mux_gate _ _ _) e = refl
shown-node x (output _ _ _) e = absurd (true≢false e)

shown-output : (x : ℕ) (r : Row) → is_output r ≡ true → on_output [] (λ a l p. x ∷ []) r ≡ x ∷ []
shown-output x r e = rw (output-is r e).3

module _ (rows : List Row) (vs : List Bool) where
  -- What row i shows.
  abbrev shown_at : ℕ → List ℕ
  shown_at i = on_output [] (λ a l p. bit_byte (value_at bool_logic vs i) ∷ []) (row_at rows i)

  shown-upto : (m : ℕ) → m ≤ length rows → length (join_below m shown_at) ≡ count_if is_output (take m rows)
  shown-upto zero h = refl
  shown-upto (suc m) h = length-append (join_below m shown_at) (shown_at m) ∙ go (is_output (row_at rows m)) refl (shown-upto m (omega arith)) (count_next is_output constant rows m (omega arith))
    where
      go : (t : Bool) → is_output (row_at rows m) ≡ t → length (join_below m shown_at) ≡ count_if is_output (take m rows) → count_if is_output (take (m + 1) rows) ≡ count_if is_output (take m rows) + cond (is_output (row_at rows m)) 1 0
          → length (join_below m shown_at) + length (shown_at m) ≡ count_if is_output (take (suc m) rows)
      go true e ih q = rw (shown-output (bit_byte (value_at bool_logic vs m)) (row_at rows m) e, sym (add-one m)) (omega (arith, ap (λ (b : Bool). cond {A = ℕ} b 1 0) e))
      go false e ih q = rw (shown-node (bit_byte (value_at bool_logic vs m)) (row_at rows m) e, sym (add-one m)) (omega (arith, ap (λ (b : Bool). cond {A = ℕ} b 1 0) e))

  pub shown-length : length (shown_bytes rows vs) ≡ count_if is_output rows
  unfolding shown_bytes
  shown-length = shown-upto (length rows) (omega arith) ∙ ap (count_if is_output) (take-length rows)

module _ (f : List ℕ) (n : ℕ) (N : Ready CheckedRows f n) where
  abbrev nodes : ℕ
  nodes = count_if (λ r. not (is_output r)) (netlist_of f)

  outputs-are : (nds : ℕ) → nds ≡ nodes → n - nds ≡ count_if is_output (netlist_of f)
  outputs-are nds e = omega (arith, count-parts is_output constant (netlist_of f), N.file.count)

  nodes-most : nodes ≤ n
  nodes-most = omega (arith, count-parts is_output constant (netlist_of f), N.file.count)

  -- The bytes of the outputs, where the rows' bytes stand from o on.
  shown-is : (vs : List Bool) (w : List ℕ) (o : ℕ) → o + n ≤ length w → ((j : ℕ) → j < n → byte_at w (o + j) ≡ bit_byte (value_at bool_logic vs j)) → take (n - nodes) (drop (o + nodes) w) ≡ shown_bytes (netlist_of f) vs
  unfolding shown_bytes
  shown-is vs w o room bytes =
      let rows = netlist_of f in
      let m = nodes-most in
      let z : nodes + (n - nodes) ≡ length rows = omega (arith, N.file.count) in
      sym
      (ap (λ (k : ℕ). join_below k (shown_at rows vs)) (sym z)
      ∙ join-tail (shown_at rows vs) w nodes (o + nodes) (n - nodes) (omega arith)
      (λ j l. shown-node (bit_byte (value_at bool_logic vs j)) (row_at rows j) (node-before rows N.rows.nodes-first j l))
      (λ j l.
      let q : o + nodes + j ≡ o + (nodes + j) = omega arith in
      shown-output (bit_byte (value_at bool_logic vs (nodes + j))) (row_at rows (nodes + j)) (output-from rows N.rows.nodes-first (nodes + j) (omega (arith, N.file.count)) (omega arith))
      ∙ ap (λ (x : ℕ). x ∷ []) (sym (ap (byte_at w) q ∙ bytes (nodes + j) (omega arith)))))

  -- ---- states

  -- The state that was written for the initial step.
  state-written : (v w : List ℕ) → ValuesRoom n v → (ss : List Bool) → length ss ≡ length (netlist_of f) → w ≡ sets v n (bit_bytes ss) → state_from (netlist_of f) w (first_step n) ≡ ss
  state-written v w W ss e ew =
      let m = length (netlist_of f) in
      let k = length-map ss bit_byte in
      let fits : n + length (bit_bytes ss) ≤ length v = omega (arith, N.file.count, W.fits) in
      ext_get_or false (tabulate m (bit_from w n)) ss (tabulate-length m (bit_from w n) ∙ sym e) (λ j l.
      let b : j < m = omega (arith, l, tabulate-length m (bit_from w n)) in
      tabulate-at m (bit_from w n) j false b
      ∙ ap bit (ap (λ (l : List ℕ). byte_at l (n + j)) ew ∙ sets-at (bit_bytes ss) v n j (omega arith) fits)
      ∙ bits_at ss j)

  -- Values vs that were written from o on.
  module _ (o : ℕ) (v w : List ℕ) (vs : List Bool) (room : o + n ≤ length v) (count : length vs ≡ n) (ew : w ≡ sets v o (bit_bytes vs)) where
    values-written : (j : ℕ) → j < n → byte_at w (o + j) ≡ bit_byte (value_at bool_logic vs j)
    values-written j l =
        let k = length-map vs bit_byte in
        ap (λ (l : List ℕ). byte_at l (o + j)) ew ∙ sets-at (bit_bytes vs) v o j (omega arith) (omega arith) ∙ bytes-at vs j

    -- The state that the next step begins with.
    next-all : tabulate (length (netlist_of f)) (λ i. next_value bool_logic (bit_from w o) (row_at (netlist_of f) i)) ≡ map (next_value bool_logic (value_at bool_logic vs)) (netlist_of f)
    next-all =
        let rows = netlist_of f in
        let m = length rows in
        let held : ℕ → Bool = λ i. next_value bool_logic (bit_from w o) (row_at rows i) in
        let next : Row → Bool = next_value bool_logic (value_at bool_logic vs) in
        ext_get_or false (tabulate m held) (map next rows) (tabulate-length m held ∙ sym (length-map rows next)) (λ j l.
        let b : j < m = omega (arith, l, tabulate-length m held) in
        tabulate-at m held j false b
        ∙ next-cong (bit_from w o) (value_at bool_logic vs) m (λ i h. ap bit (values-written i (omega (arith, N.file.count))) ∙ bit-byte (value_at bool_logic vs i)) (row_at rows j) (N.rows.nexts j b)
        ∙ sym (get_or-map next rows j constant))

    state-next : (s : Step) (base : ℕ) → s.current ≡ o → state_from (netlist_of f) w (next_step s base) ≡ map (next_value bool_logic (value_at bool_logic vs)) (netlist_of f)
    state-next s base eo = ap (λ (p : ℕ). tabulate (length (netlist_of f)) (λ i. next_value bool_logic (bit_from w p) (row_at (netlist_of f) i))) eo ∙ next-all

  values-count : (inputs v : List ℕ) (s : Step) → length (step_from (netlist_of f) inputs v s) ≡ n
  unfolding step_values
  values-count inputs v s = values_length bool_logic (netlist_of f) (state_from (netlist_of f) v s) (step_inputs (netlist_of f) inputs s.base) (length (netlist_of f)) ∙ sym N.file.count

  -- ---- a step

  module _ (nds : ℕ) (en : nds ≡ nodes) where
    pub step-outputs : nds ≤ n
    step-outputs = omega (arith, nodes-most)

    module _ (s : Step) (v : List ℕ) (H : TwoHalves n s v) where
      pub step-shown : length v < 2 ^ 64 → s.current + nds < 2 ^ 64
      step-shown l = omega (arith, nodes-most, H.current-fits)

      pub step-copies : (w : List ℕ) → length w ≡ length v → s.current + nds + (n - nds) ≤ length w
      step-copies w e = omega (arith, nodes-most, H.current-fits)

      -- The two passes are a step.
      pub step_of : (inputs : List ℕ) (to : ℕ) (w r₀ r : List ℕ) → w ≡ sets v s.current (bit_bytes (step_from (netlist_of f) inputs v s)) → r ≡ sets r₀ to (take (n - nds) (drop (s.current + nds) w)) → Stepped f inputs s to v w r₀ r
      step_of inputs to w r₀ r ew er =
          let vs = step_from (netlist_of f) inputs v s in
          let room : s.current + n ≤ length w = omega (arith, H.current-fits, ap length ew ∙ length-sets v s.current (bit_bytes vs)) in
          record {
            values = ew;
            shown = er ∙ rw en (ap (λ (l : List ℕ). sets r₀ to l) (shown-is vs w s.current room (values-written s.current v w vs H.current-fits (values-count inputs v s) ew)));
          }

-- ---- the run after t steps: memory was w₀ before the first and is w, result was r₀ and is r

pub record Running (f : List ℕ) (n nds ins T : ℕ) (choices inputs w₀ r₀ : List ℕ) (s : Step) (to t : ℕ) (w r : List ℕ) : Type 0 where
  pub given : Given f n nds ins T choices inputs r₀
  pub upto : t ≤ T
  pub base-is : s.base ≡ t * ins
  pub base-small : s.base ≤ most_steps * most_rows
  pub inputs-few : ins ≤ most_rows
  pub to_is : to ≡ t * (n - nds)
  pub room : length w ≡ length w₀
  pub result-room : length r ≡ length r₀
  pub work : TwoHalves n s w
  pub state : state_from (netlist_of f) w s ≡ run_state bool_logic (netlist_of f) (values_from_bytes (netlist_of f) choices inputs).choices (values_from_bytes (netlist_of f) choices inputs).inputs t
  pub shown : r ≡ sets r₀ 0 (run_bytes (netlist_of f) choices inputs t)

module _ (f : List ℕ) (n : ℕ) (N : Ready CheckedRows f n) (choices inputs : List ℕ) where
  step-bytes : (vs : List Bool) (t : ℕ) → vs ≡ step_values bool_logic (netlist_of f) (run_state bool_logic (netlist_of f) (values_from_bytes (netlist_of f) choices inputs).choices (values_from_bytes (netlist_of f) choices inputs).inputs t) ((values_from_bytes (netlist_of f) choices inputs).inputs t)
      → shown_bytes (netlist_of f) vs ≡ step_bytes (netlist_of f) (values_from_bytes (netlist_of f) choices inputs) t
  unfolding shown_bytes step_bytes run_value
  step-bytes vs t e = ap (shown_bytes (netlist_of f)) e

  run_length : (t : ℕ) → length (run_bytes (netlist_of f) choices inputs t) ≡ t * count_if is_output (netlist_of f)
  unfolding run_bytes
  run_length t =
      join-length (count_if is_output (netlist_of f)) (step_bytes (netlist_of f) (values_from_bytes (netlist_of f) choices inputs)) t
      (λ j l. sym (ap length (step-bytes _ j refl)) ∙ shown-length (netlist_of f) _)
      ∙ mul_comm (count_if is_output (netlist_of f)) t

module _ {f : List ℕ} {n nds ins T : ℕ} {choices inputs r₀ : List ℕ} (G : Given f n nds ins T choices inputs r₀) where
  pub run-outputs : nds ≤ n
  run-outputs = step-outputs f n G.netlist nds G.nodes-are

  outputs-count : n - nds ≡ count_if is_output (netlist_of f)
  outputs-count = outputs-are f n G.netlist nds G.nodes-are

  pub run_none : {v w : List ℕ} → ValuesRoom n v → w ≡ sets v n (bit_bytes (map (reset_value bool_logic (reset_choices (netlist_of f) choices)) (netlist_of f))) → Running f n nds ins T choices inputs w r₀ (first_step n) 0 0 w r₀
  unfolding run_state run_bytes values_from_bytes
  run_none {v} {w} R e =
      let first = map (reset_value bool_logic (reset_choices (netlist_of f) choices)) (netlist_of f) in
      let W = room-written n v w n (bit_bytes first) R (binary-bytes first) e in
      record {
        given = G;
        upto = omega arith;
        base-is = sym (zero-mul ins);
        base-small = omega arith;
        inputs-few = omega (arith, G.inputs_are, count-parts is_input constant (netlist_of f), G.netlist.file.count, G.netlist.file.few);
        to_is = sym (zero-mul (n - nds));
        room = refl;
        result-room = refl;
        work = record { current-fits = omega (arith, W.fits); previous-fits = omega (arith, W.fits); apart = inl (omega arith); binary = W.binary };
        state = state-written f n G.netlist v w R first (length-map (netlist_of f) (reset_value bool_logic (reset_choices (netlist_of f) choices))) e;
        shown = refl;
      }

module _ {f : List ℕ} {n nds ins T : ℕ} {choices inputs w₀ r₀ : List ℕ} {s : Step} {to t : ℕ} {w r : List ℕ} (U : Running f n nds ins T choices inputs w₀ r₀ s to t w r) where
  abbrev G : Given f n nds ins T choices inputs r₀
  G = U.given

  module _ (less : t < T) where
    base-fits : s.base + ins ≤ length inputs
    base-fits = step_fits t T ins s.base (length inputs) less U.base-is (omega (arith, G.input-count))

    to-fits : to + (n - nds) ≤ length r
    to-fits = step_fits t T (n - nds) to (length r) less U.to_is (rw (outputs-count G) (omega (arith, G.result-holds, U.result-room)))

    pub run-ready : StepReady f n nds inputs r to w s
    run-ready = record { netlist = G.netlist; nodes-are = G.nodes-are; inputs-fit = record { count = omega (arith, base-fits, G.inputs_are); binary = G.input-values }; result_fits = to-fits; halves = U.work }

    -- No number of bytes is large.
    base-small : s.base + ins ≤ most_steps * most_rows
    base-small = step_fits t T ins s.base (most_steps * most_rows) less U.base-is (product_small T ins G.few-steps U.inputs-few)

    pub run-to : to + (n - nds) < 2 ^ 64
    run-to = omega (arith, step_fits t T (n - nds) to (most_steps * most_rows) less U.to_is (product_small T (n - nds) G.few-steps (omega (arith, G.netlist.file.few))))

    -- One step more.
    pub run_more : {s' : Step} {w' r' : List ℕ} → Stepped f inputs s to w w' r r' → s' ≡ next_step s (s.base + ins) → Running f n nds ins T choices inputs w₀ r₀ s' (to + (n - nds)) (t + 1) w' r'
    unfolding run_state run_bytes values_from_bytes
    run_more {s'} {w'} {r'} S es =
        let rows = netlist_of f in
        let outs = n - nds in
        let vs = step_from rows inputs w s in
        let run = values_from_bytes rows choices inputs in
        let state = run_state bool_logic rows run.choices run.inputs t in
        let same : vs ≡ step_values bool_logic rows state (run.inputs t) =
        ap (λ (u : List Bool). step_values bool_logic rows u (step_inputs rows inputs s.base)) U.state
        ∙ ap (λ (b : ℕ). step_values bool_logic rows state (step_inputs rows inputs b)) (U.base-is ∙ ap (λ (k : ℕ). t * k) G.inputs_are) in
        let front : to ≡ 0 + length (run_bytes rows choices inputs t) = omega (arith, U.to_is ∙ ap (λ (k : ℕ). t * k) (outputs-count G), run_length f n G.netlist choices inputs t) in
        let H = halves-written n s w w' s.current (bit_bytes vs) U.work (binary-bytes vs) S.values in
        subst (λ (u : Step). Running f n nds ins T choices inputs w₀ r₀ u (to + (n - nds)) (t + 1) w' r') (sym es)
        (record {
          given = G;
          upto = omega arith;
          base-is = step-next t ins s.base U.base-is;
          base-small = base-small;
          inputs-few = U.inputs-few;
          to_is = step-next t outs to U.to_is;
          room = ap length S.values ∙ length-sets w s.current (bit_bytes vs) ∙ U.room;
          result-room = ap length S.shown ∙ length-sets r to (shown_bytes rows vs) ∙ U.result-room;
          work = record { current-fits = H.previous-fits; previous-fits = H.current-fits; apart = ⊎_elim inr inl H.apart; binary = H.binary };
          state = state-next f n G.netlist s.current w w' vs U.work.current-fits (values-count f n G.netlist inputs w s) S.values s (s.base + ins) refl
              ∙ ap (λ (l : List Bool). map (next_value bool_logic (value_at bool_logic l)) rows) same
              ∙ ap (run_state bool_logic rows run.choices run.inputs) (sym (add-one t));
          shown = S.shown
              ∙ ap (λ (l : List ℕ). sets l to (shown_bytes rows vs)) U.shown
              ∙ ap (λ (k : ℕ). sets (sets r₀ 0 (run_bytes rows choices inputs t)) k (shown_bytes rows vs)) front
              ∙ sets-join (run_bytes rows choices inputs t) (shown_bytes rows vs) r₀ 0
              ∙ ap (λ (l : List ℕ). sets r₀ 0 (run_bytes rows choices inputs t ++ l)) (step-bytes f n G.netlist choices inputs vs t same)
              ∙ ap (λ (k : ℕ). sets r₀ 0 (run_bytes rows choices inputs k)) (sym (add-one t));
        })

  pub run_end : T ≤ t → r ≡ run_bytes (netlist_of f) choices inputs T ++ drop (T * count_if is_output (netlist_of f)) r₀
  run_end last =
      let run = run_bytes (netlist_of f) choices inputs T in
      let e : t ≡ T = omega (arith, U.upto) in
      let l = run_length f n G.netlist choices inputs T in
      U.shown ∙ ap (λ (k : ℕ). sets r₀ 0 (run_bytes (netlist_of f) choices inputs k)) e ∙ write-front r₀ run (omega (arith, G.result-holds)) ∙ ap (λ (k : ℕ). run ++ drop k r₀) l
