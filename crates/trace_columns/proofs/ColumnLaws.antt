-- Columns set row by row.
-- Assumes nothing.
use Prim.Native.Nat.{ℕ, suc, ◌+◌, ◌*◌, ◌<◌, ◌≤◌, ◌/◌, ◌%◌, ◌^◌}
use mathlib.Core.Path.{◌≡◌, refl, sym, ap, ◌∙◌, subst}
use mathlib.Core.Bool.{Bool, true, false, not, ◌&&◌, false≢true}
use mathlib.Core.List.{List}
use native.Mathlib.Omega.{arith}
use native.Mathlib.Decide.{dec_lt, ℕ_discrete}
use native.Mathlib.Nat.{zero-add, mul-le-mul_right, suc-mul}
use native.Mathlib.Numerals.{add-one}
use lib.Arith.{digits_div, digits_mod}
use lib.ListN.{length, replicate}
use lib.Dec.{eqb}
use borrow.Author.Tests.{not-false, eqb-true, eq-eqb, lt-ltb, le-ltb}
use Rattle.memory.specs.Lists.{first_from}
use Rattle.memory.specs.Slots.{slot_at}
use Rattle.memory.proofs.TestLaws.{and-true, fails, last_or}
use Rattle.memory.proofs.ListLaws.{first-is, first_found, first-none, count_next, count-some-le}
use Rattle.memory.proofs.SlotLaws.{slot_same, slot-other, slots-cleared}
use Rattle.netlist.specs.Rows.{Row, constant, decode_row, row_at, label_of, phase_of}
use Rattle.netlist.specs.FileFormat.{read_fields, netlist_of}
use Rattle.netlist.specs.RunLayout.{place_among}
use Rattle.blockfile.specs.Ready.{HasRows}
use Rattle.trace_columns.specs.declared.Name.{Name}
use Rattle.trace_columns.specs.Columns.{wanted_row, NameIs, is_called, column_of, ColumnsOf, RowThere, RowMapped, MapReady}

-- ---- one row

slot-below : (phases count p x : ℕ) → p < phases → x < count → p * count + x < phases * count
slot-below phases count p x l b = let m : suc p ≤ phases = omega arith in omega (arith, mul-le-mul_right count m, suc-mul p count)

-- There is a slot for the name of a row that is asked for.
pub slot-inside : (r : Row) (u : Bool) (name : Name) → NameIs r u name → (phases : ℕ) (labels : List ℕ) (count : ℕ) (columns : List ℕ) → RowThere r u phases labels count columns → not name.wanted ≡ false → (x : ℕ) → x < count → 2 * (name.phase * count + x) + 2 ≤ length columns
slot-inside r u name N phases labels count columns R h x b =
    let t : wanted_row u r ≡ true = sym N.wanted ∙ not-false name.wanted h in
    omega (arith, slot-below phases count name.phase x (omega (arith, N.phase t, R.phased t)) b, R.columns-fit)

-- ---- the column of a name, one row more

module _ (f : Row → Bool) (rows : List Row) (l p : ℕ) where
  column-none : column_of f rows 0 l p ≡ 0
  unfolding column_of
  column-none = refl

  -- A row of another name.
  column-same : (y : ℕ) → is_called f rows l p y ≡ false → column_of f rows (suc y) l p ≡ column_of f rows y l p
  unfolding column_of
  column-same y e =
      let g = is_called f rows l p in
      let a = first_from 0 y g in
      let F = first-is 0 y g in
      elim (dec_lt a y) [
        | yes k ↦
            (let q : first_from 0 (suc y) g ≡ a = first_found 0 (suc y) g a (omega arith) (omega arith) F.before (F.holds (omega arith)) in
            rw (q, lt-ltb a (suc y) (omega arith), lt-ltb a y k) refl)
        | no k ↦
            (let n : first_from 0 (suc y) g ≡ suc y = first-none 0 (suc y) g (λ j b c. last_or j y (omega arith) (λ d. F.before j b (omega arith)) (λ d. ap g d ∙ e)) ∙ zero-add (suc y) in
            rw (n, le-ltb (suc y) (suc y) (omega arith), le-ltb a y (omega arith)) refl)
      ]

  -- The first row of this name.
  column-new : (y : ℕ) → is_called f rows l p y ≡ true → ((j : ℕ) → j < y → is_called f rows l p j ≡ false) → column_of f rows (suc y) l p ≡ place_among f rows y + 1
  unfolding column_of
  column-new y e before =
      let q = first_found 0 (suc y) (is_called f rows l p) y (omega arith) (omega arith) (λ j _ b. before j b) e in
      rw (q, lt-ltb y (suc y) (omega arith)) refl

called_is : (f : Row → Bool) (rows : List Row) (l p i : ℕ) → is_called f rows l p i ≡ true → (f (row_at rows i) ≡ true) × (label_of (row_at rows i) ≡ l) × (phase_of (row_at rows i) ≡ p)
called_is f rows l p i h =
    let a = and-true (f (row_at rows i) && eqb (label_of (row_at rows i)) l) _ h in
    let b = and-true (f (row_at rows i)) _ a.0 in
    (b.0, eqb-true _ l b.1, eqb-true _ p a.1)

called_of : (f : Row → Bool) (rows : List Row) (l p i : ℕ) → f (row_at rows i) ≡ true → label_of (row_at rows i) ≡ l → phase_of (row_at rows i) ≡ p → is_called f rows l p i ≡ true
called_of f rows l p i a b c = rw (a, eq-eqb (label_of (row_at rows i)) l b, eq-eqb (phase_of (row_at rows i)) p c) refl

-- ---- the columns, one row more

module _ (u : Bool) (folded : List Row) (phases : ℕ) (labels : List ℕ) (count : ℕ) (columns₀ : List ℕ) (R : MapReady (wanted_row u) folded phases labels count columns₀) where
  abbrev f : Row → Bool
  f = wanted_row u

  module _ (y : ℕ) (h : y < length folded) (columns columns' : List ℕ) (long : length columns ≡ length columns₀) (c d : ℕ) (few : c < 2 ^ 15) (counts : c ≡ place_among f folded y) (P : RowMapped (row_at folded y) u labels count columns columns' c d) (old : ColumnsOf f folded y phases labels count columns) where
    columns-more : ColumnsOf f folded (suc y) phases labels count columns'
    columns-more p x bp bx = go (f (row_at folded y)) refl
      where
        slot : ℕ
        slot = p * count + x

        go : (t : Bool) → f (row_at folded y) ≡ t → slot_at columns' (p * count + x) ≡ column_of f folded (suc y) (slot_at labels x) p
        go false w =
            ap (λ (z : List ℕ). slot_at z slot) (P.kept w) ∙ old p x bp bx
            ∙ sym (column-same f folded (slot_at labels x) p y (fails (is_called f folded (slot_at labels x) p y) (λ e. false≢true (sym w ∙ (called_is f folded (slot_at labels x) p y e).0))))
        go true w = elim (ℕ_discrete slot (phase_of (row_at folded y) * count + (P.put w).0)) [
          | yes e ↦ new e
          | no e ↦ other e
        ]
          where
            q : ℕ
            q = phase_of (row_at folded y)

            z : ℕ
            z = (P.put w).0

            new : slot ≡ q * count + z → slot_at columns' (p * count + x) ≡ column_of f folded (suc y) (slot_at labels x) p
            new e =
                let ep : p ≡ q = sym (digits_div p bx) ∙ ap (λ (k : ℕ). k / count) e ∙ digits_div q (P.put w).1 in
                let ex : x ≡ z = sym (digits_mod p bx) ∙ ap (λ (k : ℕ). k % count) e ∙ digits_mod q (P.put w).1 in
                let l : label_of (row_at folded y) ≡ slot_at labels x = sym (P.put w).2 ∙ ap (slot_at labels) (sym ex) in
                let room : 2 * (q * count + z) + 2 ≤ length columns = omega (arith, long, R.columns-fit, slot-below phases count q z (R.phased y h w) (P.put w).1) in
                ap (slot_at columns') e ∙ ap (λ (k : List ℕ). slot_at k (q * count + z)) (P.put w).3 ∙ slot_same columns (q * count + z) (c + 1) room (omega arith)
                ∙ ap (λ (k : ℕ). k + 1) counts
                ∙ sym (column-new f folded (slot_at labels x) p y (called_of f folded (slot_at labels x) p y w l (sym ep)) (λ j b. fails (is_called f folded (slot_at labels x) p j) (λ t. let k = called_is f folded (slot_at labels x) p j t in let s : j ≡ y = R.unique j y (omega arith) h k.0 w (k.1 ∙ sym l) (k.2 ∙ ep) in omega arith)))

            other : ¬ (slot ≡ q * count + z) → slot_at columns' (p * count + x) ≡ column_of f folded (suc y) (slot_at labels x) p
            other e =
                ap (λ (k : List ℕ). slot_at k slot) (P.put w).3 ∙ slot-other columns (q * count + z) (c + 1) slot e ∙ old p x bp bx
                ∙ sym (column-same f folded (slot_at labels x) p y (fails (is_called f folded (slot_at labels x) p y) (λ t. let k = called_is f folded (slot_at labels x) p y t in e (ap (λ (m : ℕ). m * count + x) (sym k.2) ∙ ap (λ (m : ℕ). q * count + m) (R.distinct x z bx (P.put w).1 (sym k.1 ∙ sym (P.put w).2))))))

-- ---- all rows

-- After y rows: `column` columns are set, and the next label is sought from `from` on.
pub record Mapping (file : List ℕ) (u : Bool) (phases : ℕ) (labels : List ℕ) (count : ℕ) (columns₀ : List ℕ) (y column from : ℕ) (columns : List ℕ) : Type 0 where
  pub few : column ≤ y
  pub counts : column ≡ place_among (wanted_row u) (netlist_of file) y
  pub from-few : from ≤ count
  pub long : length columns ≡ length columns₀
  pub maps : ColumnsOf (wanted_row u) (netlist_of file) y phases labels count columns

pub mapping-none : (file : List ℕ) (u : Bool) (phases : ℕ) (labels : List ℕ) (count : ℕ) (columns : List ℕ) → columns ≡ replicate (length columns) 0 → Mapping file u phases labels count columns 0 0 0 columns
mapping-none file u phases labels count columns zeros = record {
  few = omega arith;
  counts = refl;
  from-few = omega arith;
  long = refl;
  maps = λ p x bp bx. slots-cleared columns (length columns) zeros (p * count + x) ∙ sym (column-none (wanted_row u) (netlist_of file) (slot_at labels x) p);
}

module _ (file : List ℕ) (n : ℕ) (H : HasRows file n) (u : Bool) (phases : ℕ) (labels : List ℕ) (count : ℕ) (columns₀ : List ℕ) (R : MapReady (wanted_row u) (netlist_of file) phases labels count columns₀) (y column from : ℕ) (columns : List ℕ) (M : Mapping file u phases labels count columns₀ y column from columns) where
  module _ (h : y < n) where
    inside : y < length (netlist_of file)
    inside = omega (arith, H.count)

    read_is : row_at (netlist_of file) y ≡ decode_row (read_fields file y)
    read_is = H.row_is y h

    pub mapping-more : (columns' : List ℕ) (d next : ℕ) → RowMapped (decode_row (read_fields file y)) u labels count columns columns' column d → next ≤ count → Mapping file u phases labels count columns₀ (y + 1) d next columns'
    mapping-more columns' d next P l =
        let Q : RowMapped (row_at (netlist_of file) y) u labels count columns columns' column d = subst (λ (r : Row). RowMapped r u labels count columns columns' column d) (sym read_is) P in
        let c : d ≡ place_among (wanted_row u) (netlist_of file) (y + 1) = omega (arith, Q.counted, M.counts, count_next (wanted_row u) constant (netlist_of file) y inside) in
        record {
          few = omega (arith, c, (count-some-le (wanted_row u) constant (netlist_of file) (y + 1)).0);
          counts = c;
          from-few = l;
          long = P.long ∙ M.long;
          maps = subst (λ (m : ℕ). ColumnsOf (wanted_row u) (netlist_of file) m phases labels count columns') (sym (add-one y)) (columns-more u (netlist_of file) phases labels count columns₀ R y inside columns columns' M.long column d (omega (arith, M.few, H.few)) M.counts Q M.maps);
        }
