-- The labels of the original's rows, and that each row that the fold kept has one of them.
-- Assumes nothing.
use Prim.Native.Nat.{ℕ, zero, suc, ◌+◌, ◌*◌, ◌<◌, ◌≤◌}
use mathlib.Core.Path.{◌≡◌, refl, sym, ap, ◌∙◌, subst}
use mathlib.Core.Bool.{Bool, true, false, cond, ◌||◌}
use mathlib.Core.List.{List}
use native.Mathlib.Omega.{arith}
use native.Mathlib.Nat.{mul-le-mul}
use native.Mathlib.Numerals.{add-one}
use lib.ListN.{length}
use lib.Seq.{take-length}
use lib.Dec.{eqb}
use borrow.Author.Tests.{eqb-true, eq-eqb}
use Rattle.memory.specs.Lists.{count_if}
use Rattle.memory.specs.Slots.{slot_at}
use Rattle.memory.proofs.TestLaws.{last_or}
use Rattle.memory.proofs.ListLaws.{count_next, count-some-le, count-place}
use Rattle.netlist.specs.Limits.{most_rows, most_original_rows, most_phases, fold_work_bytes}
use Rattle.netlist.specs.Rows.{Row, constant, row_at, kind_of, label_of, phase_of, has_name, is_named, is_unknown_named, is_input, is_unknown, row_named, first_row}
use Rattle.netlist.specs.FileFormat.{netlist_of}
use Rattle.netlist.specs.RunLayout.{place_among}
use Rattle.netlist.specs.WellFormed.{NamesUnique}
use Rattle.netlist.proofs.RowLaws.{named-is, named-of, unknown-is, has-at, has_of}
use Rattle.trace_columns.specs.Columns.{wanted_row, LabelsListed, MapReady}
use Rattle.trace_values.specs.Pairs.{FoldedPair, phases_of}

-- The row at place i of those that f counts.
abbrev AtPlace : (Row → Bool) → List Row → ℕ → ℕ → Type 0
AtPlace f rows n i = (r : ℕ) × (r < n) × (f (row_at rows r) ≡ true) × (place_among f rows r ≡ i)

nth-next : (f : Row → Bool) (rows : List Row) (n : ℕ) → n < length rows → (i : ℕ) → i < place_among f rows (suc n) → (i < place_among f rows n → AtPlace f rows n i) → AtPlace f rows (suc n) i
nth-next f rows n h i l before = go (f (row_at rows n)) refl
  where
    more : place_among f rows (suc n) ≡ place_among f rows n + cond (f (row_at rows n)) 1 0
    more = ap (place_among f rows) (sym (add-one n)) ∙ count_next f constant rows n h

    earlier : i < place_among f rows n → AtPlace f rows (suc n) i
    earlier k = let e = before k in (e.0, omega (arith, e.1), e.2, e.3)

    go : (t : Bool) → f (row_at rows n) ≡ t → AtPlace f rows (suc n) i
    go true e =
        let o : place_among f rows (suc n) ≡ place_among f rows n + 1 = more ∙ ap (λ (t : Bool). place_among f rows n + cond t 1 0) e in
        last_or i (place_among f rows n) (omega (arith, o)) earlier (λ q. (n, omega arith, e, sym q))
    go false e = let o : place_among f rows (suc n) ≡ place_among f rows n + 0 = more ∙ ap (λ (t : Bool). place_among f rows n + cond t 1 0) e in earlier (omega (arith, o))

nth-upto : (f : Row → Bool) (rows : List Row) (n : ℕ) → n ≤ length rows → (i : ℕ) → i < place_among f rows n → AtPlace f rows n i
nth-upto f rows zero h i l = absurd (omega arith)
nth-upto f rows (suc n) h i l = nth-next f rows n h i l (λ k. nth-upto f rows n (omega arith) i k)

nth : (f : Row → Bool) (rows : List Row) (i : ℕ) → i < count_if f rows → (r : ℕ) × (r < length rows) × (f (row_at rows r) ≡ true) × (place_among f rows r ≡ i)
nth f rows i l = nth-upto f rows (length rows) (omega arith) i (omega (arith, ap (count_if f) (take-length rows)))

-- What is asked for: its kind, and that it has a name; an X register has phase 0.
abbrev wanted_kind : Bool → ℕ
wanted_kind true = 2
wanted_kind false = 1

unknown-row : (r : Row) → is_unknown r ≡ true → (kind_of r ≡ 2) × (phase_of r ≡ 0)
unknown-row r h =
    let u = unknown-is (label_of r) r (rw (h, eq-eqb (label_of r) (label_of r) refl) refl) in
    (ap kind_of u.1, ap phase_of u.1)

wanted-kind : (u : Bool) (r : Row) → wanted_row u r ≡ true → kind_of r ≡ wanted_kind u
wanted-kind true r h = (unknown-row r h).0
wanted-kind false r h = eqb-true (kind_of r) 1 h

kind-named : (u : Bool) (r : Row) → kind_of r ≡ wanted_kind u → has_name r ≡ true
kind-named true r e = ap (λ (n : ℕ). eqb n 1 || eqb n 2 || eqb n 6) e
kind-named false r e = ap (λ (n : ℕ). eqb n 1 || eqb n 2 || eqb n 6) e

wanted-unique : (u : Bool) (rows : List Row) → NamesUnique rows → (x y : ℕ) → x < length rows → y < length rows → wanted_row u (row_at rows x) ≡ true → wanted_row u (row_at rows y) ≡ true → label_of (row_at rows x) ≡ label_of (row_at rows y) → phase_of (row_at rows x) ≡ phase_of (row_at rows y) → x ≡ y
wanted-unique u rows unique x y a b e f l p =
    let k = wanted-kind u (row_at rows x) e in
    unique x y a b (kind-named u (row_at rows x) k) (record { kind = k ∙ sym (wanted-kind u (row_at rows y) f); label = l; phase = p })

module _ (file folded : List ℕ) (n m N : ℕ) (F : FoldedPair file folded n m N) where
  abbrev original : List Row
  original = netlist_of file

  abbrev kept : List Row
  kept = netlist_of folded

  pub few-rows : count_if is_input kept ≤ most_rows
  few-rows = omega (arith, (count-some-le is_input constant kept (length kept)).0, ap (count_if is_input) (take-length kept), F.kept.count, F.kept.few)

  pub few-labels : (u : Bool) → count_if (wanted_row u) original ≤ most_original_rows
  few-labels u = omega (arith, (count-some-le (wanted_row u) constant original (length original)).0, ap (count_if (wanted_row u)) (take-length original), F.original.count, F.small)

  pub labels-room : (u : Bool) (labels : List ℕ) → 2016 ≤ length labels → 2 * count_if (wanted_row u) original ≤ length labels
  labels-room u labels e = omega (arith, few-labels u)

  -- A kept row stands for one of the original.
  origin : (u : Bool) (y : ℕ) → y < length kept → wanted_row u (row_at kept y) ≡ true → (r : ℕ) × (r < length original) × (wanted_row u (row_at original r) ≡ true) × (label_of (row_at original r) ≡ label_of (row_at kept y))
  origin true y h w =
      let l = label_of (row_at kept y) in
      let has = F.stands.unknowns l (has_of (is_unknown_named l) kept y h (rw (w, eq-eqb l l refl) refl)) in
      let a = has-at (is_unknown_named l) original has in
      let q = unknown-is l (row_at original (first_row (is_unknown_named l) original)) a.1 in
      (first_row (is_unknown_named l) original, a.0, ap is_unknown q.1, ap label_of q.1)
  origin false y h w =
      let l = label_of (row_at kept y) in
      let p = phase_of (row_at kept y) in
      let has = (F.stands.inputs l p (has_of (is_named 1 l p) kept y h (named-of 1 l p (row_at kept y) (eqb-true (kind_of (row_at kept y)) 1 w) refl refl))).0 in
      let a = has-at (is_named 1 l 0) original has in
      let q = named-is 1 l 0 (row_at original (row_named 1 l 0 original)) a.1 in
      (row_named 1 l 0 original, a.0, eq-eqb (kind_of (row_at original (row_named 1 l 0 original))) 1 q.0, q.1)

  phased : (u : Bool) (y : ℕ) → y < length kept → wanted_row u (row_at kept y) ≡ true → phase_of (row_at kept y) < phases_of u N
  phased true y h w = omega (arith, (unknown-row (row_at kept y) w).1)
  phased false y h w =
      let l = label_of (row_at kept y) in
      let p = phase_of (row_at kept y) in
      (F.stands.inputs l p (has_of (is_named 1 l p) kept y h (named-of 1 l p (row_at kept y) (eqb-true (kind_of (row_at kept y)) 1 w) refl refl))).1

  phases-few : (u : Bool) → phases_of u N ≤ most_phases
  phases-few true = omega arith
  phases-few false = F.phases.1

  module _ (u : Bool) (labels : List ℕ) (L : LabelsListed (wanted_row u) original n labels) (long : 2016 ≤ length labels) (columns : List ℕ) (room : fold_work_bytes ≤ length columns) (count : ℕ) (c : count ≡ count_if (wanted_row u) original) where
    listed : (r : ℕ) → r < length original → wanted_row u (row_at original r) ≡ true → slot_at labels (place_among (wanted_row u) original r) ≡ label_of (row_at original r)
    listed r h w = L r (omega (arith, F.original.count)) w

    ready : MapReady (wanted_row u) kept (phases_of u N) labels count columns
    ready = record {
      distinct = λ i j a b e.
          let x = nth (wanted_row u) original i (omega (arith, c)) in
          let y = nth (wanted_row u) original j (omega (arith, c)) in
          let lx = ap (slot_at labels) (sym x.3) ∙ listed x.0 x.1 x.2 in
          let ly = ap (slot_at labels) (sym y.3) ∙ listed y.0 y.1 y.2 in
          let q = wanted-unique u original F.unique x.0 y.0 x.1 y.1 x.2 y.2 (sym lx ∙ e ∙ ly) (F.unphased x.0 x.1 ∙ sym (F.unphased y.0 y.1)) in
          sym x.3 ∙ ap (place_among (wanted_row u) original) q ∙ y.3;
      there = λ y h w.
          let o = origin u y h w in
          (place_among (wanted_row u) original o.0, omega (arith, c, count-place (wanted_row u) constant original o.0 o.1 o.2), listed o.0 o.1 o.2 ∙ o.3);
      phased = phased u;
      unique = λ x y a b e f l p. wanted-unique u kept F.kept-unique x y a b e f l p;
      labels-fit = omega (arith, c, few-labels u);
      columns-fit = omega (arith, mul-le-mul (phases-few u) (few-labels u), ap (λ (z : ℕ). phases_of u N * z) c);
      few = omega (arith, mul-le-mul (phases-few u) (few-labels u), ap (λ (z : ℕ). phases_of u N * z) c);
    }

  module _ (u : Bool) (labels columns : List ℕ) (long : 2016 ≤ length labels) (room : fold_work_bytes ≤ length columns) (count : ℕ) (L : LabelsListed (wanted_row u) original n labels) (c : count ≡ count_if (wanted_row u) original) where
    pub columns-ready : (p : ℕ) → p ≡ phases_of u N → MapReady (wanted_row u) kept p labels count columns
    columns-ready p e = subst (λ (q : ℕ). MapReady (wanted_row u) kept q labels count columns) (sym e) (ready u labels L long columns room count c)
