-- The unrolled netlist, before the cone is taken, run beside the original, group after group.
-- Assumes nothing.
use Prim.Native.Nat.{ℕ, zero, suc, ◌+◌, ◌-◌, ◌*◌, ◌<◌, ◌≤◌, ◌/◌, ◌%◌}
use mathlib.Core.Path.{◌≡◌, refl, sym, ap, ◌∙◌}
use mathlib.Core.Bool.{Bool, false}
use mathlib.Core.List.{List, ◌++◌, map}
use native.Mathlib.Omega.{arith}
use native.Mathlib.Decide.{dec_lt}
use native.Mathlib.Nat.{suc-mul, add-zero, add-suc, zero-mul}
use lib.Arith.{digits_mod}
use lib.ListN.{length, get_or, length-append, length-map, get_or-append, get_or-map}
use lib.Seq.{get_or-append-add}
use Rattle.memory.specs.Lists.{join_below}
use Rattle.ternary.specs.Ternary.{Ternary}
use Rattle.ternary.proofs.RuleLaws.{Covers}
use Rattle.netlist.specs.Rows.{Row, constant, input, register, and_gate, xor_gate, mux_gate, output, row_at}
use Rattle.netlist.specs.Simulation.{bool_logic, literal_value, row_value, value_at, reset_value, run_state, run_value}
use Rattle.netlist.proofs.RowLaws.{each-one, each-join, RowIn, in_right, in-join}
use Rattle.netlist.specs.WellFormed.{EachRow, OperandsBelow, Ordered, WellFormed}
use Rattle.netlist.proofs.SimulationLaws.{held, state-at, value-at}
use Rattle.abstraction.specs.Unrolling.{image_literal, patch_next, phase_output, unroll_phases, phase_outputs, unrolled_netlist}
use Rattle.abstraction.proofs.BuilderLaws.{Satisfies}
use Rattle.abstraction.proofs.UnrollLaws.{unroll-formed, unroll-grows, unroll-satisfies, unroll-zero}
use Rattle.abstraction.proofs.GroupLaws.{ImagesCarry, image-carries, unroll-carries}

module _ (clock : ℕ → ℕ → Ternary) (rows : List Row) where
  -- A row of the outputs: that of phase k for the original's output at row x.
  pub record OutputOf (N : ℕ) (r : Row) : Type 0 where
    pub phase : ℕ
    pub small : phase < N
    pub source : ℕ
    pub within : source < length rows
    pub literal : ℕ
    pub label : ℕ
    pub before : ℕ
    pub from : row_at rows source ≡ output literal label before
    pub to : r ≡ output (get_or (unroll_phases clock rows (suc phase)).images source 0) label phase

  output-each : (N k x : ℕ) → k < N → x < length rows → (r : Row) → row_at rows x ≡ r → EachRow (OutputOf N) (phase_output k (get_or (unroll_phases clock rows (suc k)).images x 0) r)
  output-each N k x h l constant e i b = absurd (omega arith)
  output-each N k x h l (input _ _) e i b = absurd (omega arith)
  output-each N k x h l (register _ _ _) e i b = absurd (omega arith)
  output-each N k x h l (and_gate _ _) e i b = absurd (omega arith)
  output-each N k x h l (xor_gate _ _) e i b = absurd (omega arith)
  output-each N k x h l (mux_gate _ _ _) e i b = absurd (omega arith)
  output-each N k x h l (output a m p) e i b = each-one (OutputOf N) _ (record { phase = k; small = h; source = x; within = l; literal = a; label = m; before = p; from = e; to = refl }) i b

  pub outputs-each : (N : ℕ) → EachRow (OutputOf N) (join_below N (phase_outputs clock rows))
  unfolding phase_outputs
  outputs-each N = each-join (OutputOf N) (phase_outputs clock rows) N (λ k h. each-join (OutputOf N) _ (length rows) (λ x l. output-each N k x h l (row_at rows x) refl))

  outputs-have : (N k x a l p : ℕ) → k < N → x < length rows → row_at rows x ≡ output a l p → RowIn (join_below N (phase_outputs clock rows)) (output (get_or (unroll_phases clock rows (suc k)).images x 0) l k)
  unfolding phase_outputs
  outputs-have N k x a l p h b e =
      in-join (phase_outputs clock rows) N k _ h
      (in-join (λ i. phase_output k (get_or (unroll_phases clock rows (suc k)).images i 0) (row_at rows i)) (length rows) x _ b (rw e (record { place = 0; within = omega arith; is = refl })))

  below-patch : (j : ℕ) (img : List ℕ) (r : Row) → OperandsBelow j r → OperandsBelow j (patch_next img r)
  below-patch j img constant h = h
  below-patch j img (input _ _) h = h
  below-patch j img (register _ _ _) h = h
  below-patch j img (and_gate _ _) h = h
  below-patch j img (xor_gate _ _) h = h
  below-patch j img (mux_gate _ _ _) h = h
  below-patch j img (output _ _ _) h = h

  module _ (N : ℕ) where
    abbrev made : List Row
    made = (unroll_phases clock rows N).made

    abbrev last : List ℕ
    last = (unroll_phases clock rows N).images

    length_front : length (map (patch_next last) made) ≡ length made
    length_front = length-map made (patch_next last)

    pub whole-front : (j : ℕ) → j < length made → row_at (unrolled_netlist clock rows N) j ≡ patch_next last (row_at made j)
    unfolding unrolled_netlist
    whole-front j h = get_or-append (map (patch_next last) made) _ constant j (omega (arith, length_front)) ∙ get_or-map (patch_next last) made j constant

    -- Each phase has its outputs.
    pub whole_has : (k x a l p : ℕ) → k < N → x < length rows → row_at rows x ≡ output a l p → RowIn (unrolled_netlist clock rows N) (output (get_or (unroll_phases clock rows (suc k)).images x 0) l k)
    unfolding unrolled_netlist
    whole_has k x a l p h b e = in_right (map (patch_next last) made) (join_below N (phase_outputs clock rows)) _ (outputs-have N k x a l p h b e)

    pub whole_back : (j : ℕ) → length made ≤ j → j < length (unrolled_netlist clock rows N) → OutputOf N (row_at (unrolled_netlist clock rows N) j)
    unfolding unrolled_netlist
    whole_back j h b =
        let f = map (patch_next last) made in
        let o = join_below N (phase_outputs clock rows) in
        let d = j - length f in
        let e : j ≡ length f + d = omega (arith, length_front) in
        let l : d < length o = omega (arith, length_front, b, length-append f o) in
        rw (ap (row_at (f ++ o)) e ∙ get_or-append-add f o d constant) (outputs-each N d l)

    pub ordered-whole : Ordered (unrolled_netlist clock rows N)
    ordered-whole j h = elim (dec_lt j (length made)) [
      | yes l ↦ rw (whole-front j l) (below-patch j last (row_at made j) ((unroll-formed clock rows N).ordered j l))
      | no l ↦
          (let o = whole_back j (omega arith) h in
          rw o.to (omega (arith, (unroll-formed clock rows (suc o.phase)).range o.source, unroll-grows clock rows (suc o.phase) N o.small)))
    ]

    -- The values of the whole netlist are values of the rows made, each register taken with the old next value.
    patch-val : (h : Bool) (i : ℕ → ℕ → Bool) (w : ℕ → Bool) (r : Row) → row_value bool_logic h i w (patch_next last r) ≡ row_value bool_logic h i w r
    patch-val h i w constant = refl
    patch-val h i w (input _ _) = refl
    patch-val h i w (register _ _ _) = refl
    patch-val h i w (and_gate _ _) = refl
    patch-val h i w (xor_gate _ _) = refl
    patch-val h i w (mux_gate _ _ _) = refl
    patch-val h i w (output _ _ _) = refl

    pub length_whole : length made ≤ length (unrolled_netlist clock rows N)
    unfolding unrolled_netlist
    length_whole = omega (arith, length-append (map (patch_next last) made) (join_below N (phase_outputs clock rows)), length_front)

    module _ (c : ℕ → Bool) (i : ℕ → ℕ → ℕ → Bool) (g : ℕ) where
      abbrev held_by_old : Row → Bool
      held_by_old r = held bool_logic (unrolled_netlist clock rows N) c i g (patch_next last r)

      pub whole-satisfies : Satisfies (run_value bool_logic (unrolled_netlist clock rows N) c i g) held_by_old (i g) made
      whole-satisfies j h =
          let W = run_value bool_logic (unrolled_netlist clock rows N) c i g in
          (rw (whole-front j h) at (value-at bool_logic (unrolled_netlist clock rows N) c i ordered-whole g j (omega (arith, length_whole))))
          ∙ patch-val (held_by_old (row_at made j)) (i g) W (row_at made j)

  reset-patch : (c : ℕ → Bool) (r n n' l : ℕ) → reset_value bool_logic c (register r n l) ≡ reset_value bool_logic c (register r n' l)
  reset-patch c zero n n' l = refl
  reset-patch c (suc zero) n n' l = refl
  reset-patch c (suc (suc r)) n n' l = refl

  -- The original's run, by the choices c and the inputs u, and that of the whole netlist of N phases, by the same choices and the inputs i.
  module _ (formed : WellFormed rows) (M : ℕ) (c : ℕ → Bool) (u i : ℕ → ℕ → ℕ → Bool)
      (covered : (t x : ℕ) → Covers (clock x (t % suc M)) (value_at bool_logic (run_state bool_logic rows c u t) x))
      (fed : (g k l : ℕ) → k < suc M → i g l k ≡ u (g * suc M + k) l 0)
    where
      abbrev N : ℕ
      N = suc M

      abbrev W : ℕ → ℕ → Bool
      W g = run_value bool_logic (unrolled_netlist clock rows N) c i g

      abbrev HeldAlike : ℕ → Type 0
      HeldAlike g = (r n l : ℕ) → n / 2 < length rows → held_by_old N c i g (register r n l) ≡ held bool_logic rows c u (g * N) (register r n l)

      group-carries : (g : ℕ) → HeldAlike g → (k : ℕ) → k < N → ImagesCarry (W g) (unroll_phases clock rows (suc k)).images (run_value bool_logic rows c u (g * N + k)) (length rows)
      group-carries g alike k h =
          let m = whole-satisfies N c i g in
          unroll-carries clock rows formed N (λ k. run_value bool_logic rows c u (g * N + k)) (λ k. held bool_logic rows c u (g * N + k)) (λ k. u (g * N + k))
          (λ k x b. value-at bool_logic rows c u formed.ordered (g * N + k) x b)
          (λ k r. ap (λ t. held bool_logic rows c u t r) (add-suc (g * N) k))
          (λ k x b. rw (digits_mod g b, state-at bool_logic rows c u (g * N + k) x) at (covered (g * N + k) x))
          (W g) (unroll-zero clock rows (W g) (held_by_old N c i g) (i g) N m) (held_by_old N c i g) (i g)
          (λ r n l b. alike r n l b ∙ ap (λ t. held bool_logic rows c u t (register r n l)) (sym (add-zero (g * N))))
          (λ k l b. fed g k l b)
          k h (unroll-satisfies clock rows (W g) (held_by_old N c i g) (i g) (suc k) N h m)

      zero_is : (g : ℕ) → W g 0 ≡ false
      zero_is g = unroll-zero clock rows (W g) (held_by_old N c i g) (i g) N (whole-satisfies N c i g)

      pub held_at : (g : ℕ) → HeldAlike g
      held_at zero r n l h = reset-patch c r (image_literal (last N) n) n l ∙ ap (λ t. held bool_logic rows c u t (register r n l)) (sym (zero-mul N))
      held_at (suc g) r n l h =
          let e : suc g * N ≡ suc (g * N + M) = suc-mul g N ∙ add-suc (g * N) M in
          image-carries (W g) (zero_is g) (last N) (run_value bool_logic rows c u (g * N + M)) (length rows) (group-carries g (held_at g) M (omega arith)) n h
          ∙ ap (λ t. held bool_logic rows c u t (register r n l)) (sym e)

      -- The image of row x in phase k has in group g the value of row x at step g × N + k.
      pub image-value : (g k : ℕ) → k < N → (x : ℕ) → x < length rows → literal_value bool_logic (W g) (get_or (unroll_phases clock rows (suc k)).images x 0) ≡ run_value bool_logic rows c u (g * N + k) x
      image-value g k h x b = group-carries g (held_at g) k h x b

      -- An output of the whole netlist shows in group g what its source shows at step g × N + its phase.
      pub output-value : (g j : ℕ) (b : j < length (unrolled_netlist clock rows N)) (o : OutputOf N (row_at (unrolled_netlist clock rows N) j)) → W g j ≡ run_value bool_logic rows c u (g * N + o.phase) o.source
      output-value g j b o =
          (rw o.to at (value-at bool_logic (unrolled_netlist clock rows N) c i (ordered-whole N) g j b)) ∙ image-value g o.phase o.small o.source o.within
