-- One group: the image of a row in phase k has the value that the row has at the group's step k.
-- Assumes nothing.
use Prim.Native.Nat.{ℕ, zero, suc, ◌<◌, ◌≤◌, ◌/◌, ◌%◌}
use mathlib.Core.Path.{◌≡◌, refl, sym, ap, ◌∙◌}
use mathlib.Core.Bool.{Bool, false}
use mathlib.Core.List.{List}
use native.Mathlib.Omega.{arith}
use lib.ListN.{length, get_or}
use Rattle.ternary.specs.Ternary.{Ternary}
use Rattle.ternary.proofs.RuleLaws.{Covers, is-lo, is-hi, any}
use Rattle.netlist.specs.Rows.{Row, constant, input, register, and_gate, xor_gate, mux_gate, output, row_at, phase_of}
use Rattle.netlist.specs.Simulation.{bool_logic, complement_if, literal_value, row_value, next_value}
use Rattle.netlist.specs.WellFormed.{OperandsBelow, NextBelow, WellFormed}
use Rattle.abstraction.specs.Unrolling.{image_literal, register_image, row_image, image_at, unroll_phase, unroll_phases}
use Rattle.abstraction.proofs.GateLaws.{literal-one, literal-by, Makes, and-makes, xor-makes, mux-makes}
use Rattle.abstraction.proofs.BuilderLaws.{Satisfies, add-rows, added-satisfies, add-literal, add-each}
use Rattle.abstraction.proofs.UnrollLaws.{images-length, unroll-satisfies}

-- The literals of `images` have the values v, for the first n rows.
abbrev pub ImagesCarry : (ℕ → Bool) → List ℕ → (ℕ → Bool) → ℕ → Type 0
ImagesCarry w images v n = (x : ℕ) → x < n → literal_value bool_logic w (get_or images x 0) ≡ v x

pub image-carries : (w : ℕ → Bool) (w0 : w 0 ≡ false) (images : List ℕ) (v : ℕ → Bool) (n : ℕ) → ImagesCarry w images v n → (l : ℕ) → l / 2 < n → literal_value bool_logic w (image_literal images l) ≡ literal_value bool_logic v l
image-carries w w0 images v n g l h = literal-by w w0 (l % 2) (get_or images (l / 2) 0) ∙ ap (complement_if bool_logic (l % 2)) (g (l / 2) h)

-- A group of the original's steps, and one step of the folded netlist.
module _ (clock : ℕ → ℕ → Ternary) (rows : List Row) (formed : WellFormed rows) (N : ℕ)
    -- the original: values, what registers hold, inputs, by the group's step
    (v : ℕ → ℕ → Bool) (ho : ℕ → Row → Bool) (io : ℕ → ℕ → ℕ → Bool)
    (equations : (k x : ℕ) → x < length rows → v k x ≡ row_value bool_logic (ho k (row_at rows x)) (io k) (v k) (row_at rows x))
    (later : (k : ℕ) (r : Row) → ho (suc k) r ≡ next_value bool_logic (v k) r)
    (covered : (k x : ℕ) → k < N → Covers (clock x k) (ho k (row_at rows x)))
    -- the folded netlist: values, what registers hold (by the row with the old next value), inputs
    (w : ℕ → Bool) (w0 : w 0 ≡ false) (hf : Row → Bool) (jf : ℕ → ℕ → Bool)
    (holds : (r n l : ℕ) → n / 2 < length rows → hf (register r n l) ≡ ho 0 (register r n l))
    (fed : (k l : ℕ) → k < N → jf l k ≡ io k l 0)
  where
    abbrev PreviousCarry : ℕ → List ℕ → Type 0
    PreviousCarry zero previous = Unit {0}
    PreviousCarry (suc k) previous = ImagesCarry w previous (v k) (length rows)

    register-makes : (k : ℕ) (previous : List ℕ) → PreviousCarry k previous → (r n l : ℕ) → n / 2 < length rows → {q : Ternary} {b : Bool} → Covers q b → ho k (register r n l) ≡ b → Makes w w0 hf jf b (register_image q k previous r n l)
    register-makes k previous g r n l h is-lo e = w0
    register-makes k previous g r n l h is-hi e = literal-one w w0
    register-makes zero previous g r n l h any e = (omega arith, holds r n l h ∙ e)
    register-makes (suc k) previous g r n l h any e = image-carries w w0 previous (v k) (length rows) g n h ∙ sym (later k (register r n l)) ∙ e

    image-makes : (k : ℕ) → k < N → (previous : List ℕ) → PreviousCarry k previous → (images : List ℕ) (x : ℕ) → ImagesCarry w images (v k) x
        → (r : Row) → OperandsBelow x r → NextBelow (length rows) r → phase_of r ≡ 0 → Covers (clock x k) (ho k r) → Makes w w0 hf jf (row_value bool_logic (ho k r) (io k) (v k) r) (row_image (clock x k) k previous images r)
    image-makes k k_n previous pg images x g constant b n p c = w0
    image-makes k k_n previous pg images x g (input l p') b n p c = (omega arith, fed k l k_n ∙ ap (io k l) (sym p))
    image-makes k k_n previous pg images x g (register r m l) b n p c = register-makes k previous pg r m l n c refl
    image-makes k k_n previous pg images x g (and_gate y z) b n p c =
        rw (← image-carries w w0 images (v k) x g y b.0, ← image-carries w w0 images (v k) x g z b.1) (and-makes w w0 hf jf (image_literal images y) (image_literal images z))
    image-makes k k_n previous pg images x g (xor_gate y z) b n p c =
        rw (← image-carries w w0 images (v k) x g y b.0, ← image-carries w w0 images (v k) x g z b.1) (xor-makes w w0 hf jf (image_literal images y) (image_literal images z))
    image-makes k k_n previous pg images x g (mux_gate y z u) b n p c =
        rw (← image-carries w w0 images (v k) x g y b.0, ← image-carries w w0 images (v k) x g z b.1, ← image-carries w w0 images (v k) x g u b.2) (mux-makes w w0 hf jf (image_literal images y) (image_literal images z) (image_literal images u))
    image-makes k k_n previous pg images x g (output y l p') b n p c = image-carries w w0 images (v k) x g y b

    phase-carries : (k : ℕ) → k < N → (base : List Row) (previous : List ℕ) → PreviousCarry k previous → (n : ℕ) → n ≤ length rows
        → Satisfies w hf jf (unroll_phase clock rows k base previous n).made → ImagesCarry w (unroll_phase clock rows k base previous n).images (v k) n
    unfolding unroll_phase
    phase-carries k k_n base previous pg zero h m = λ x l. absurd (omega arith)
    phase-carries k k_n base previous pg (suc n) h m =
        let q = unroll_phase clock rows k base previous n in
        let i = image_at clock rows k previous q n in
        let g = phase-carries k k_n base previous pg n (omega arith) (added-satisfies w hf jf (add-rows q i) m) in
        add-each (λ (x l : ℕ). literal_value bool_logic w l ≡ v k x) q i n (images-length clock rows k base previous n) g
        ((add-literal q i).value w w0 hf jf (v k n) m
        (rw (equations k n h) (image-makes k k_n previous pg q.images n g (row_at rows n) (formed.ordered n h) (formed.nexts n h) (formed.phases n h) (covered k n k_n))))

    -- The image of row x in phase k has the value of row x at the group's step k.
    pub unroll-carries : (k : ℕ) → k < N → Satisfies w hf jf (unroll_phases clock rows (suc k)).made → ImagesCarry w (unroll_phases clock rows (suc k)).images (v k) (length rows)
    unfolding unroll_phases
    unroll-carries zero h m = phase-carries zero h (unroll_phases clock rows zero).made (unroll_phases clock rows zero).images tt (length rows) (omega arith) m
    unroll-carries (suc k) h m =
        phase-carries (suc k) h (unroll_phases clock rows (suc k)).made (unroll_phases clock rows (suc k)).images
        (unroll-carries k (omega arith) (unroll-satisfies clock rows w hf jf (suc k) (suc (suc k)) (omega arith) m)) (length rows) (omega arith) m
