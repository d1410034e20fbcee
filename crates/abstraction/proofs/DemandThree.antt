-- Demand 3, proved: the folded netlist shows what the original shows, for every accepted fold, whatever the wish and whatever the number of steps.
-- From step T on, the original is given what the folded netlist is given: then both runs agree at every step, and the first T steps do not see it.
-- Assumes nothing.
use Prim.Native.Nat.{ℕ, zero, suc, ◌+◌, ◌*◌, ◌<◌, ◌/◌, ◌%◌}
use mathlib.Core.Path.{◌≡◌, refl, sym, ap, ◌∙◌, subst}
use mathlib.Core.Bool.{Bool, true, cond, ◌&&◌, ◌||◌}
use mathlib.Core.List.{List}
use mathlib.Core.Option.{some}
use native.Mathlib.Omega.{arith}
use native.Mathlib.Nat.{div-add-mod', mod-lt}
use lib.Arith.{digits_div, digits_mod}
use lib.Dec.{eqb, ltb}
use lib.ListN.{length}
use borrow.Author.Tests.{ltb-true, lt-ltb}
use Rattle.memory.proofs.TestLaws.{cond-case}
use Rattle.ternary.specs.Ternary.{Ternary}
use Rattle.ternary.proofs.RuleLaws.{Covers}
use Rattle.netlist.specs.Rows.{Row, constant, input, register, and_gate, xor_gate, mux_gate, output, encode_row, row_at, kind_of, label_of, phase_of, has_name, is_unknown, is_named, row_named, first_row, HasRow, HasInput, HasRegister, HasUnknown, HasOutput}
use Rattle.netlist.specs.Simulation.{bool_logic, value_at, run_state, run_value, RunValues, output_shows, register_holds}
use Rattle.netlist.proofs.RowLaws.{RowIn, well-formed, named-is, named-of, named-input, named-register, named-output, unknown-is, unknown-of, has-at, has_of}
use Rattle.netlist.specs.WellFormed.{ResetIn, FoldableRows}
use Rattle.netlist.proofs.SimulationLaws.{state-prefix, value-prefix}
use Rattle.lasso.specs.LassoSearch.{Lasso, find_lasso}
use Rattle.lasso.specs.Generators.{periods_of, clock_value}
use Rattle.lasso.proofs.LassoLaws.{lasso-is}
use Rattle.lasso.proofs.GeneratorLaws.{clock-covers}
use Rattle.abstraction.specs.Compaction.{compact}
use Rattle.abstraction.specs.Fold.{fold_with}
use Rattle.abstraction.specs.SameBehaviour.{FedAlike, AgreeOnKept, SameBehaviour, StandsFor}
use Rattle.abstraction.proofs.FoldedRun.{folded, origin, output-kept, Follows, follows}

-- A row of an accepted original, by its kind and label.
module _ (rows : List Row) (ok : FoldableRows rows) where
  one-row : (k l x y : ℕ) → x < length rows → y < length rows → is_named k l 0 (row_at rows x) ≡ true → kind_of (row_at rows y) ≡ k → label_of (row_at rows y) ≡ l → has_name (row_at rows y) ≡ true → y ≡ x
  one-row k l x y h h' e a b t =
      let n = named-is k l 0 (row_at rows x) e in
      ok.checked.unique y x h' h t (record { kind = a ∙ sym n.0; label = b ∙ sym n.1; phase = ok.unphased y h' ∙ sym n.2 })

  -- The kind and the label are enough, since every phase is 0.
  has_named : (k l y : ℕ) → y < length rows → kind_of (row_at rows y) ≡ k → label_of (row_at rows y) ≡ l → HasRow (is_named k l 0) rows
  has_named k l y h a b = has_of (is_named k l 0) rows y h (named-of k l 0 (row_at rows y) a b (ok.unphased y h))

module _ (rows : List Row) (ok : FoldableRows rows) (M : ℕ) (clock : ℕ → ℕ → Ternary)
    (covered : (c : ℕ → Bool) (u : ℕ → ℕ → ℕ → Bool) (t x : ℕ) → Covers (clock x (t % suc M)) (value_at bool_logic (run_state bool_logic rows c u t) x))
  where
    abbrev N : ℕ
    N = suc M

    abbrev new : List Row
    new = folded clock rows M

    module _ (T : ℕ) (steps groups : RunValues) (fed : FedAlike N new T steps groups) where
      -- The original's inputs, from step T on by what the folded netlist is given.
      abbrev extended : ℕ → ℕ → ℕ → Bool
      extended t l p = cond (ltb t T) (steps.inputs t l p) (groups.inputs (t / N) l (t % N))

      extended-is : (t : ℕ) → t < T → extended t ≡ steps.inputs t
      extended-is t h = ap {B = ℕ → ℕ → Bool} (λ b l p. cond b (steps.inputs t l p) (groups.inputs (t / N) l (t % N))) (lt-ltb t T h)

      choices_alike : (r n l : ℕ) → RowIn new (register (suc (suc r)) n l) → groups.choices l ≡ steps.choices l
      choices_alike r n l h =
          let o = origin clock rows M h.place h.within (ap has_name h.is) in
          let z : (encode_row (row_at rows o.row)).reset ≡ suc (suc r) = sym o.reset ∙ ap (λ (x : Row). (encode_row x).reset) h.is in
          let k : kind_of (row_at rows o.row) ≡ 2 = sym o.kind ∙ ap kind_of h.is in
          let e : r ≡ 0 = unknown-reset (row_at rows o.row) k z (ok.checked.resets o.row o.within) in
          fed.choices l (has_of (λ x. is_unknown x && eqb (label_of x) l) new h.place h.within (unknown-of n l (row_at new h.place) (h.is ∙ ap (λ (x : ℕ). register (suc (suc x)) n l) e)))
        where
          unknown-reset : (s : Row) → kind_of s ≡ 2 → (encode_row s).reset ≡ suc (suc r) → ResetIn s → r ≡ 0
          unknown-reset constant k e i = absurd (omega arith)
          unknown-reset (input _ _) k e i = absurd (omega arith)
          unknown-reset (register _ _ _) k e i = omega (arith, e, i)
          unknown-reset (and_gate _ _) k e i = absurd (omega arith)
          unknown-reset (xor_gate _ _) k e i = absurd (omega arith)
          unknown-reset (mux_gate _ _ _) k e i = absurd (omega arith)
          unknown-reset (output _ _ _) k e i = absurd (omega arith)

      inputs-alike : (g l k : ℕ) → RowIn new (input l k) → groups.inputs g l k ≡ extended (g * N + k) l 0
      inputs-alike g l k h =
          let o = origin clock rows M h.place h.within (ap has_name h.is) in
          let b : k < N = subst (λ (x : Row). phase_of x < N) h.is o.phase in
          cond-case (λ (v : Bool). groups.inputs g l k ≡ v) (ltb (g * N + k) T) _ _
          (λ e. fed.inputs g l k (has_of (is_named 1 l k) new h.place h.within (ap (is_named 1 l k) h.is ∙ named-of 1 l k (input l k) refl refl refl)) (ltb-true (g * N + k) T e))
          (λ e. rw (digits_div g b, digits_mod g b))

      -- What row y of the folded netlist follows.
      abbrev FollowsOriginal : ℕ → Row → Type 0
      FollowsOriginal = Follows clock rows M (well-formed rows ok) steps.choices groups.choices extended groups.inputs (covered steps.choices extended) choices_alike inputs-alike

      row-follows : (y : ℕ) → y < length new → (r : Row) → row_at new y ≡ r → FollowsOriginal y r
      row-follows y h r e =
          subst (FollowsOriginal y) e (follows clock rows M (well-formed rows ok) steps.choices groups.choices extended groups.inputs (covered steps.choices extended) choices_alike inputs-alike y h)

      outputs-alike : (t l : ℕ) → t < T → HasOutput rows l 0 → HasOutput new l (t % N) → output_shows new groups l (t % N) (t / N) ≡ output_shows rows steps l 0 t
      outputs-alike t l h has has' =
          let x = row_named 6 l 0 rows in
          let hx = has-at (is_named 6 l 0) rows has in
          let y = row_named 6 l (t % N) new in
          let hy = has-at (is_named 6 l (t % N)) new has' in
          let o = named-output l (t % N) (row_at new y) hy.1 in
          let f = (row-follows y hy.0 (output o.0 l (t % N)) o.1).1 in
          let q : f.0 ≡ x = one-row rows ok 6 l x f.0 hx.0 f.3 hx.1 (ap kind_of f.4) (ap label_of f.4) (ap has_name f.4) in
          f.5 (t / N)
          ∙ ap (λ (k : ℕ). run_value bool_logic rows steps.choices extended k f.0) (div-add-mod' t N)
          ∙ ap (run_value bool_logic rows steps.choices extended t) q
          ∙ value-prefix rows steps.choices extended steps.inputs T extended-is t h x

      registers-alike : (G l : ℕ) → T ≡ G * N → HasRegister new l → register_holds new groups l G ≡ register_holds rows steps l T
      registers-alike G l w has =
          let y = row_named 2 l 0 new in
          let hy = has-at (is_named 2 l 0) new has in
          let o = named-register l (row_at new y) hy.1 in
          let f = (row-follows y hy.0 (register o.0 o.1 l) o.2).0 in
          let x = row_named 2 l 0 rows in
          let hx = has-at (is_named 2 l 0) rows (has_named rows ok 2 l f.0 f.2 (ap kind_of f.3) (ap label_of f.3)) in
          let q : f.0 ≡ x = one-row rows ok 2 l x f.0 hx.0 f.2 hx.1 (ap kind_of f.3) (ap label_of f.3) (ap has_name f.3) in
          f.4 G
          ∙ ap (λ (t : ℕ). value_at bool_logic (run_state bool_logic rows steps.choices extended t) f.0) (sym w)
          ∙ ap (value_at bool_logic (run_state bool_logic rows steps.choices extended T)) q
          ∙ ap (λ (v : List Bool). value_at bool_logic v x) (state-prefix rows steps.choices extended steps.inputs T extended-is T (omega arith))

    outputs-present : (l k : ℕ) → HasOutput rows l 0 → k < N → HasOutput new l k
    outputs-present l k has h =
        let hx = has-at (is_named 6 l 0) rows has in
        let o = named-output l 0 (row_at rows (row_named 6 l 0 rows)) hx.1 in
        let y = output-kept clock rows M (row_named 6 l 0 rows) o.0 l 0 k h hx.0 o.1 in
        has_of (is_named 6 l k) new y.1.place y.1.within (ap (is_named 6 l k) y.1.is ∙ named-of 6 l k (output y.0 l k) refl refl refl)

    -- Two runs of the original that agree on what is kept feed one run of the folded netlist.
    runs-agree : (T : ℕ) (run₁ run₂ : RunValues) → AgreeOnKept N new T run₁ run₂ → (t l : ℕ) → t < T → HasOutput rows l 0 → output_shows rows run₁ l 0 t ≡ output_shows rows run₂ l 0 t
    runs-agree T run₁ run₂ agree t l h has =
        let groups : RunValues = record { choices = run₁.choices; inputs = λ g m k. run₁.inputs (g * N + k) m 0 } in
        let fed₁ : FedAlike N new T run₁ groups = record { choices = λ m k. refl; inputs = λ g m k i q. refl } in
        let fed₂ : FedAlike N new T run₂ groups = record {
          choices = agree.choices;
          inputs = λ g m k i q.
              let hy = has-at (is_named 1 m k) new i in
              let e = named-input m k (row_at new (row_named 1 m k new)) hy.1 in
              let b : k < N = subst (λ (x : Row). phase_of x < N) e (origin clock rows M (row_named 1 m k new) hy.0 (ap has_name e)).phase in
              agree.inputs (g * N + k) m q (subst (HasInput new m) (sym (digits_mod g b)) i);
        } in
        let present = outputs-present l (t % N) has (mod-lt t (omega arith)) in
        sym (outputs-alike T run₁ groups fed₁ t l h has present) ∙ outputs-alike T run₂ groups fed₂ t l h has present

    folded-behaves : SameBehaviour rows N new
    folded-behaves = record {
      present = outputs-present;
      outputs = λ T steps groups fed t l h has. outputs-alike T steps groups fed t l h has (outputs-present l (t % N) has (mod-lt t (omega arith)));
      registers = registers-alike;
      agree = runs-agree;
    }

-- Each named row of the folded netlist stands for one of the original.
module _ (rows : List Row) (ok : FoldableRows rows) (M : ℕ) (clock : ℕ → ℕ → Ternary) where
  abbrev result : List Row
  result = folded clock rows M

  named-origin : (k l p : ℕ) → eqb k 1 || eqb k 2 || eqb k 6 ≡ true → HasRow (is_named k l p) result → HasRow (is_named k l 0) rows × (p < suc M)
  named-origin k l p t has =
      let hy = has-at (is_named k l p) result has in
      let n = named-is k l p (row_at result (first_row (is_named k l p) result)) hy.1 in
      let o = origin clock rows M (first_row (is_named k l p) result) hy.0 (ap (λ (x : ℕ). eqb x 1 || eqb x 2 || eqb x 6) n.0 ∙ t) in
      (has_named rows ok k l o.row o.within (sym o.kind ∙ n.0) (sym o.label ∙ n.1), omega (arith, n.2, o.phase))

  unknown-by : (l : ℕ) (s : Row) → kind_of s ≡ 2 → label_of s ≡ l → (encode_row s).reset ≡ 2 → is_unknown s && eqb (label_of s) l ≡ true
  unknown-by l constant k e z = absurd (omega arith)
  unknown-by l (input _ _) k e z = absurd (omega arith)
  unknown-by l (register r n m) k e z = unknown-of n l (register r n m) (cc (z, e))
  unknown-by l (and_gate _ _) k e z = absurd (omega arith)
  unknown-by l (xor_gate _ _) k e z = absurd (omega arith)
  unknown-by l (mux_gate _ _ _) k e z = absurd (omega arith)
  unknown-by l (output _ _ _) k e z = absurd (omega arith)

  unknown-origin : (l : ℕ) → HasUnknown result l → HasUnknown rows l
  unknown-origin l has =
      let f : Row → Bool = λ r. is_unknown r && eqb (label_of r) l in
      let y = first_row (λ r. is_unknown r && eqb (label_of r) l) result in
      let hy = has-at (λ r. is_unknown r && eqb (label_of r) l) result has in
      let e = unknown-is l (row_at result y) hy.1 in
      let o = origin clock rows M y hy.0 (ap has_name e.1) in
      has_of (λ r. is_unknown r && eqb (label_of r) l) rows o.row o.within
      (unknown-by l (row_at rows o.row) (sym o.kind ∙ ap kind_of e.1) (sym o.label ∙ ap label_of e.1) (sym o.reset ∙ ap (λ (x : Row). (encode_row x).reset) e.1))

  folded-stands : StandsFor rows (suc M) result
  folded-stands = record {
    inputs = λ l k h. named-origin 1 l k refl h;
    registers = λ l h. (named-origin 2 l 0 refl h).0;
    unknowns = unknown-origin;
    outputs = λ l k h. named-origin 6 l k refl h;
  }

-- ---- of the fold

pub fold-stands : (clock : ℕ → ℕ → Ternary) (rows : List Row) → FoldableRows rows → (N : ℕ) → 0 < N → StandsFor rows N (fold_with clock rows N)
unfolding fold_with compact
fold-stands clock rows ok zero h = absurd (omega arith)
fold-stands clock rows ok (suc M) h = folded-stands rows ok M clock

-- Demand 3 for N phases and the clocks that the lasso gives.
pub fold-behaves : (rows : List Row) → FoldableRows rows → (z : Lasso) → find_lasso rows ≡ some z → (N : ℕ) → 0 < N → SameBehaviour rows N (fold_with (clock_value rows (periods_of rows z) N) rows N)
unfolding fold_with compact
fold-behaves rows ok z q zero h = absurd (omega arith)
fold-behaves rows ok z q (suc M) h = folded-behaves rows ok M (clock_value rows (periods_of rows z) (suc M)) (λ c u t x. clock-covers rows z (lasso-is rows z q) (suc M) x t c u)
