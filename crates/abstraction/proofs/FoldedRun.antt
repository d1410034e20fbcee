-- The folded netlist beside the original, for runs that agree on what is kept at every step; and where its rows come from.
-- Assumes nothing.
use Prim.Native.Nat.{ℕ, suc, ◌+◌, ◌*◌, ◌<◌, ◌%◌}
use mathlib.Core.Path.{◌≡◌, refl, sym, ap, ◌∙◌, subst}
use mathlib.Core.Bool.{Bool, true, false, false≢true}
use mathlib.Core.List.{List}
use native.Mathlib.Omega.{arith}
use native.Mathlib.Decide.{dec_lt}
use lib.Dec.{eqb}
use lib.ListN.{length, get_or}
use Rattle.ternary.specs.Ternary.{Ternary}
use Rattle.ternary.proofs.RuleLaws.{Covers}
use Rattle.netlist.specs.Rows.{Row, constant, input, register, and_gate, xor_gate, mux_gate, output, encode_row, row_at, kind_of, label_of, phase_of, has_name, is_register, is_output, on_register, on_output, fanin_nodes}
use Rattle.netlist.specs.Simulation.{bool_logic, value_at, run_state, run_value}
use Rattle.netlist.proofs.RowLaws.{named-alike, RowIn, next-wider, Alike, alike, map-alike}
use Rattle.netlist.specs.WellFormed.{OperandsBelow, Ordered, NextBelow, WellFormed, EachBelow}
use Rattle.netlist.proofs.SimulationLaws.{held, state-at}
use Rattle.abstraction.specs.Unrolling.{image_literal, patch_next, unroll_phases, unrolled_netlist}
use Rattle.abstraction.specs.Compaction.{is_cone_root, is_marked, cone_of_influence, new_index, renumber_literal}
use Rattle.abstraction.proofs.BuilderLaws.{image-below}
use Rattle.abstraction.proofs.UnrollLaws.{unroll-formed}
use Rattle.abstraction.proofs.UnrolledRun.{whole-front, whole_back, whole_has, ordered-whole, length_whole, held_at, output-value}
use Rattle.abstraction.proofs.Provenance.{Source, phase-before, unroll-named, unroll-nodes}
use Rattle.abstraction.proofs.CompactionLaws.{renumbered, ClosedUnderFanin, KeptRow, kept, kept_at, kept-lt, kept_from, register-same, value_same}
use Rattle.abstraction.proofs.ConeLaws.{cone-length, cone-closed, cone-root}

pub patch-alike : (images : List ℕ) (r : Row) → Alike (patch_next images r) r
patch-alike images constant = alike _ _ refl refl refl
patch-alike images (input _ _) = alike _ _ refl refl refl
patch-alike images (register r n l) = alike (register r (image_literal images n) l) (register r n l) refl refl refl
patch-alike images (and_gate _ _) = alike _ _ refl refl refl
patch-alike images (xor_gate _ _) = alike _ _ refl refl refl
patch-alike images (mux_gate _ _ _) = alike _ _ refl refl refl
patch-alike images (output _ _ _) = alike _ _ refl refl refl

module _ (clock : ℕ → ℕ → Ternary) (rows : List Row) (M : ℕ) where
  abbrev pub N : ℕ
  N = suc M

  -- The unrolled netlist, its rows made, and the images in the last phase.
  abbrev pub whole : List Row
  whole = unrolled_netlist clock rows N

  abbrev pub made : List Row
  made = (unroll_phases clock rows N).made

  abbrev pub last : List ℕ
  last = (unroll_phases clock rows N).images

  -- The nodes that a row of the unrolled netlist names are there.
  fanin-below : (j n : ℕ) → j < n → (r : Row) → OperandsBelow j r → NextBelow n r → EachBelow n (fanin_nodes r)
  fanin-below j n h constant b k = tt
  fanin-below j n h (input _ _) b k = tt
  fanin-below j n h (register _ _ _) b k = (k, tt)
  fanin-below j n h (and_gate _ _) b k = (omega (arith, b.0), (omega (arith, b.1), tt))
  fanin-below j n h (xor_gate _ _) b k = (omega (arith, b.0), (omega (arith, b.1), tt))
  fanin-below j n h (mux_gate _ _ _) b k = (omega (arith, b.0), (omega (arith, b.1), (omega (arith, b.2), tt)))
  fanin-below j n h (output _ _ _) b k = (omega (arith, b), tt)

  -- A new register's next value names a node.
  pub patch-next : (r : Row) → NextBelow (length made) (patch_next last r)
  patch-next constant = tt
  patch-next (input _ _) = tt
  patch-next (register _ n _) = image-below (length made) last (unroll-formed clock rows N).range n
  patch-next (and_gate _ _) = tt
  patch-next (xor_gate _ _) = tt
  patch-next (mux_gate _ _ _) = tt
  patch-next (output _ _ _) = tt

  pub whole-next : (j : ℕ) → j < length whole → NextBelow (length made) (row_at whole j)
  whole-next j h = elim (dec_lt j (length made)) [
    | yes l ↦ rw (whole-front clock rows N j l) (patch-next (row_at made j))
    | no l ↦ (let o = whole_back clock rows N j (omega arith) h in rw o.to tt)
  ]

  pub ordered : Ordered whole
  ordered = ordered-whole clock rows N

  pub whole-fanin : (j : ℕ) → j < length whole → EachBelow (length whole) (fanin_nodes (row_at whole j))
  whole-fanin j h = fanin-below j (length whole) h (row_at whole j) (ordered j h) (next-wider (length made) (length whole) (length_whole clock rows N) (row_at whole j) (whole-next j h))

  pub closed : ClosedUnderFanin whole (cone_of_influence whole)
  closed = cone-closed whole whole-fanin

  abbrev pub cone : List Bool
  cone = cone_of_influence whole

  -- The folded netlist.
  abbrev pub folded : List Row
  folded = kept whole cone

  pub folded-at : (j : ℕ) → is_marked cone j ≡ true → row_at folded (new_index cone j) ≡ renumbered cone (row_at whole j)
  folded-at = kept_at whole cone (cone-length whole) ordered closed

  pub folded-lt : (j : ℕ) → is_marked cone j ≡ true → new_index cone j < length folded
  folded-lt = kept-lt whole cone (cone-length whole) ordered closed

  pub folded_from : (y : ℕ) → y < length folded → KeptRow cone (length whole) y
  folded_from = kept_from whole cone (cone-length whole) ordered closed

  pub folded-is : (y : ℕ) (h : y < length folded) → row_at folded y ≡ renumbered cone (row_at whole (folded_from y h).source)
  folded-is y h = let k = folded_from y h in ap (row_at folded) (sym k.is) ∙ folded-at k.source k.mark

  -- Each output of the original has one of each phase.
  pub output-kept : (x a l p k : ℕ) → k < N → x < length rows → row_at rows x ≡ output a l p → (a' : ℕ) × RowIn folded (output a' l k)
  output-kept x a l p k h b e =
      let o = whole_has clock rows N k x a l p h b e in
      let q = cone-root whole o.place o.within (ap is_cone_root o.is) in (
        renumber_literal cone (get_or (unroll_phases clock rows (suc k)).images x 0),
        record { place = new_index cone o.place; within = folded-lt o.place q; is = folded-at o.place q ∙ ap (renumbered cone) o.is },
      )

  -- ---- where a row comes from

  -- The original's row that r stands for: of its kind, label and reset, in a phase below N.
  pub record Origin (r : Row) : Type 0 where
    pub row : ℕ
    pub within : row < length rows
    pub kind : kind_of r ≡ kind_of (row_at rows row)
    pub label : label_of r ≡ label_of (row_at rows row)
    pub reset : (encode_row r).reset ≡ (encode_row (row_at rows row)).reset
    pub phase : phase_of r < N

  origin-alike : (r s : Row) → Alike r s → Origin s → Origin r
  origin-alike r s a o = record {
    row = o.row;
    within = o.within;
    kind = a.name.kind ∙ o.kind;
    label = a.name.label ∙ o.label;
    reset = a.reset ∙ o.reset;
    phase = omega (arith, a.name.phase, o.phase);
  }

  -- A row that is no register has reset 0.
  reset-zero : (r : Row) → is_register r ≡ false → (encode_row r).reset ≡ 0
  reset-zero constant h = refl
  reset-zero (input _ _) h = refl
  reset-zero (register _ _ _) h = absurd (false≢true (sym h))
  reset-zero (and_gate _ _) h = refl
  reset-zero (xor_gate _ _) h = refl
  reset-zero (mux_gate _ _ _) h = refl
  reset-zero (output _ _ _) h = refl

  made-origin : (j : ℕ) → j < length made → has_name (row_at made j) ≡ true → Origin (row_at made j)
  made-origin j h t =
      let s = (unroll-named rows clock N).sourced j h t in
      record { row = s.row; within = s.within; kind = s.kind; label = s.label; reset = same-reset (is_register (row_at made j)) refl s; phase = phase-before s.earlier }
    where
      same-reset : (t : Bool) → is_register (row_at made j) ≡ t → (s : Source rows N 0 (row_at made j)) → (encode_row (row_at made j)).reset ≡ (encode_row (row_at rows s.row)).reset
      same-reset true e s = ap (λ (x : Row). (encode_row x).reset) (s.same e)
      same-reset false e s = reset-zero (row_at made j) e ∙ sym (reset-zero (row_at rows s.row) (ap (λ (n : ℕ). eqb n 2) (sym s.kind) ∙ e))

  whole-origin : (j : ℕ) → j < length whole → has_name (row_at whole j) ≡ true → Origin (row_at whole j)
  whole-origin j b t = elim (dec_lt j (length made)) [
    | yes l ↦
        (let a : Alike (row_at whole j) (row_at made j) = subst (λ (r : Row). Alike r (row_at made j)) (sym (whole-front clock rows N j l)) (patch-alike last (row_at made j)) in
        origin-alike (row_at whole j) (row_at made j) a (made-origin j l (named-alike (row_at whole j) (row_at made j) a.name.kind t)))
    | no l ↦
        (let o = whole_back clock rows N j (omega arith) b in
        record {
          row = o.source;
          within = o.within;
          kind = ap kind_of o.to ∙ sym (ap kind_of o.from);
          label = ap label_of o.to ∙ sym (ap label_of o.from);
          reset = ap (λ (x : Row). (encode_row x).reset) o.to ∙ sym (ap (λ (x : Row). (encode_row x).reset) o.from);
          phase = omega (arith, ap phase_of o.to, o.small);
        })
  ]

  pub folded-alike : (y : ℕ) (h : y < length folded) → Alike (row_at folded y) (row_at whole (folded_from y h).source)
  folded-alike y h =
      let j = (folded_from y h).source in
      subst (λ (r : Row). Alike r (row_at whole (folded_from y h).source)) (sym (folded-is y h)) (map-alike (renumber_literal cone) (row_at whole (folded_from y h).source))

  pub origin : (y : ℕ) → y < length folded → has_name (row_at folded y) ≡ true → Origin (row_at folded y)
  origin y h t =
      let k = folded_from y h in
      let a = folded-alike y h in
      origin-alike (row_at folded y) (row_at whole k.source) a (whole-origin k.source k.below (named-alike (row_at folded y) (row_at whole k.source) a.name.kind t))

  -- ---- what a row shows

  module _ (formed : WellFormed rows) (c c' : ℕ → Bool) (u u' : ℕ → ℕ → ℕ → Bool)
      (covered : (t x : ℕ) → Covers (clock x (t % N)) (value_at bool_logic (run_state bool_logic rows c u t) x))
      (choices : (r n l : ℕ) → RowIn folded (register (suc (suc r)) n l) → c' l ≡ c l)
      (inputs : (g l k : ℕ) → RowIn folded (input l k) → u' g l k ≡ u (g * N + k) l 0)
    where
      -- The inputs of the unrolled netlist, by the original's.
      abbrev i : ℕ → ℕ → ℕ → Bool
      i g l k = u (g * N + k) l 0

      -- A kept register holds, and an output shows, in each group what one of the original's of its label does at the group's step.
      abbrev pub Follows : ℕ → Row → Type 0
      Follows y r =
          on_register (Unit {0}) (λ s n l. (x n' : ℕ) × (x < length rows) × (row_at rows x ≡ register s n' l) × ((g : ℕ) → value_at bool_logic (run_state bool_logic folded c' u' g) y ≡ value_at bool_logic (run_state bool_logic rows c u (g * N)) x)) r
          × on_output (Unit {0}) (λ a l k. (x a' p : ℕ) × (x < length rows) × (row_at rows x ≡ output a' l p) × ((g : ℕ) → run_value bool_logic folded c' u' g y ≡ run_value bool_logic rows c u (g * N + k) x)) r

      made-follows : (j : ℕ) → j < length made → is_marked cone j ≡ true → (r : Row) → row_at made j ≡ r → is_output r ≡ false → Follows (new_index cone j) (renumbered cone (patch_next last r))
      made-follows j b q constant e o = (tt, tt)
      made-follows j b q (input _ _) e o = (tt, tt)
      made-follows j b q (register r n l) e o =
          let s = (unroll-named rows clock N).sourced j b (ap has_name e) in
          let f : row_at rows s.row ≡ register r n l = sym (s.same (ap is_register e)) ∙ e in (
            (
              s.row,
              n,
              s.within,
              f,
              λ g.
                  state-at bool_logic folded c' u' g (new_index cone j)
                  ∙ ap (held bool_logic folded c' u' g) (folded-at j q)
                  ∙ register-same whole cone (cone-length whole) ordered closed c c' i u' choices inputs g j q
                  ∙ ap (held bool_logic whole c i g) (whole-front clock rows N j b ∙ ap (patch_next last) e)
                  ∙ held_at clock rows formed M c u i covered (λ g k l _. refl) g r n l (rw f at (formed.nexts s.row s.within))
                  ∙ ap (held bool_logic rows c u (g * N)) (sym f)
                  ∙ sym (state-at bool_logic rows c u (g * N) s.row),
            ),
            tt,
          )
      made-follows j b q (and_gate _ _) e o = (tt, tt)
      made-follows j b q (xor_gate _ _) e o = (tt, tt)
      made-follows j b q (mux_gate _ _ _) e o = (tt, tt)
      made-follows j b q (output _ _ _) e o = absurd (false≢true (sym o))

      whole-follows : (j : ℕ) → j < length whole → is_marked cone j ≡ true → Follows (new_index cone j) (renumbered cone (row_at whole j))
      whole-follows j b q = elim (dec_lt j (length made)) [
        | yes l ↦ rw (whole-front clock rows N j l) (made-follows j l q (row_at made j) refl ((unroll-nodes rows clock N).node j l))
        | no l ↦
            (let o = whole_back clock rows N j (omega arith) b in
            subst (λ (r : Row). Follows (new_index cone j) (renumbered cone r)) (sym o.to)
            (tt, (o.source, o.literal, o.before, o.within, o.from, λ g. value_same whole cone (cone-length whole) ordered closed c c' i u' choices inputs g j q ∙ output-value clock rows formed M c u i covered (λ g k l _. refl) g j b o)))
      ]

      pub follows : (y : ℕ) → y < length folded → Follows y (row_at folded y)
      follows y h =
          let k = folded_from y h in
          subst (λ (z : ℕ). Follows z (row_at folded z)) k.is (rw (folded-at k.source k.mark) (whole-follows k.source k.below k.mark))
