-- Rows counted by their names, and their labels listed.
-- Assumes nothing.
use Prim.Native.Nat.{ℕ, zero, suc, ◌+◌, ◌*◌, ◌<◌, ◌≤◌}
use mathlib.Core.Path.{◌≡◌, refl, sym, ap, ◌∙◌}
use mathlib.Core.Bool.{Bool, true, false, cond}
use mathlib.Core.List.{List}
use mir.Val.{bool_byte}
use native.Mathlib.Omega.{arith}
use native.Mathlib.Numerals.{add-one}
use lib.ListN.{length}
use Rattle.memory.specs.Lists.{count_if}
use Rattle.memory.specs.Slots.{slot_at}
use Rattle.memory.proofs.TestLaws.{last_or}
use Rattle.memory.proofs.SlotLaws.{slot_same, slot-other}
use Rattle.memory.proofs.ListLaws.{count_next, count-some-le, count-place}
use Rattle.netlist.specs.Rows.{Row, constant, decode_row, row_at, label_of}
use Rattle.netlist.specs.FileFormat.{read_fields, netlist_of}
use Rattle.netlist.specs.RunLayout.{place_among}
use Rattle.blockfile.specs.Ready.{HasRows}
use Rattle.trace_columns.specs.Columns.{wanted_row, LabelPut, LabelsListed}

-- A row that is counted stands before those after it.
pub place-lt : (f : Row → Bool) (rows : List Row) (a b : ℕ) → a < b → b ≤ length rows → f (row_at rows a) ≡ true → place_among f rows a < place_among f rows b
place-lt f rows a zero l h e = absurd (omega arith)
place-lt f rows a (suc b) l h e =
    let n : place_among f rows (suc b) ≡ place_among f rows b + cond (f (row_at rows b)) 1 0 = ap (place_among f rows) (sym (add-one b)) ∙ count_next f constant rows b h in
    last_or a b l
    (λ k. omega (arith, n, place-lt f rows a b k (omega arith) e))
    (λ k. let o : cond {A = ℕ} (f (row_at rows b)) 1 0 ≡ 1 = rw (← k, e) refl in omega (arith, n, o, ap (place_among f rows) k))

module _ (file : List ℕ) (n : ℕ) (H : HasRows file n) (i : ℕ) (h : i < n) where
  abbrev rows : List Row
  rows = netlist_of file

  read_is : row_at rows i ≡ decode_row (read_fields file i)
  read_is = H.row_is i h

  inside : i < length rows
  inside = omega (arith, H.count)

  module _ (u : Bool) (count : ℕ) (so_far : count ≡ place_among (wanted_row u) rows i) where
    counted-next : (t : Bool) → t ≡ wanted_row u (decode_row (read_fields file i)) → count + bool_byte t ≡ place_among (wanted_row u) rows (i + 1)
    counted-next t e = so_far-and t (e ∙ ap (wanted_row u) (sym read_is))
      where
        so_far-and : (t : Bool) → t ≡ wanted_row u (row_at rows i) → count + bool_byte t ≡ place_among (wanted_row u) rows (i + 1)
        so_far-and true q = rw (so_far, count_next (wanted_row u) constant rows i inside, ← q) refl
        so_far-and false q = rw (so_far, count_next (wanted_row u) constant rows i inside, ← q) refl

    pub counted-more : (t : Bool) → t ≡ wanted_row u (decode_row (read_fields file i)) → (count + bool_byte t ≤ i + 1) × (count + bool_byte t ≡ place_among (wanted_row u) rows (i + 1))
    counted-more t e = let n = counted-next t e in (omega (arith, (count-some-le (wanted_row u) constant rows (i + 1)).0), n)

    -- There is a slot for the label.
    label-room : (labels : List ℕ) → 2 * count_if (wanted_row u) rows ≤ length labels → wanted_row u (decode_row (read_fields file i)) ≡ true → 2 * count + 2 ≤ length labels
    label-room labels r e = omega (arith, count-place (wanted_row u) constant rows i inside (ap (wanted_row u) read_is ∙ e))

    listed_more : (labels labels' : List ℕ) (m : ℕ) → 2 * count_if (wanted_row u) rows ≤ length labels → LabelsListed (wanted_row u) rows i labels → LabelPut (decode_row (read_fields file i)) u labels labels' count m → LabelsListed (wanted_row u) rows (i + 1) labels'
    listed_more labels labels' m r L P j l e =
        last_or j i (omega arith)
        (λ k. go (wanted_row u (decode_row (read_fields file i))) refl k)
        (λ k. new k)
      where
        earlier : j < i → ¬ (place_among (wanted_row u) rows j ≡ count)
        earlier k q = omega (arith, place-lt (wanted_row u) rows j i k (omega (arith, inside)) e)

        go : (t : Bool) → wanted_row u (decode_row (read_fields file i)) ≡ t → j < i → slot_at labels' (place_among (wanted_row u) rows j) ≡ label_of (row_at rows j)
        go true w k = ap (λ (x : List ℕ). slot_at x (place_among (wanted_row u) rows j)) (P.put w) ∙ slot-other labels count (label_of (decode_row (read_fields file i))) (place_among (wanted_row u) rows j) (earlier k) ∙ L j k e
        go false w k = ap (λ (x : List ℕ). slot_at x (place_among (wanted_row u) rows j)) (P.kept w) ∙ L j k e

        new : j ≡ i → slot_at labels' (place_among (wanted_row u) rows j) ≡ label_of (row_at rows j)
        new k =
            let w : wanted_row u (decode_row (read_fields file i)) ≡ true = ap (wanted_row u) (sym read_is) ∙ ap (λ (x : ℕ). wanted_row u (row_at rows x)) (sym k) ∙ e in
            let p : place_among (wanted_row u) rows j ≡ count = ap (place_among (wanted_row u) rows) k ∙ sym so_far in
            ap (slot_at labels') p ∙ ap (λ (x : List ℕ). slot_at x count) (P.put w) ∙ slot_same labels count (label_of (decode_row (read_fields file i))) (label-room labels r w) (P.fits w) ∙ ap label_of (sym read_is ∙ ap (row_at rows) (sym k))

    listed-count : (labels labels' : List ℕ) (m : ℕ) → LabelPut (decode_row (read_fields file i)) u labels labels' count m → m ≡ place_among (wanted_row u) rows (i + 1)
    listed-count labels labels' m P =
        let q : ◌≡◌ {A = ℕ} (cond (wanted_row u (decode_row (read_fields file i))) 1 0) (cond (wanted_row u (row_at rows i)) 1 0) = ap (λ (r : Row). cond (wanted_row u r) 1 0) (sym read_is) in
        omega (arith, P.counted, count_next (wanted_row u) constant rows i inside)

-- After i rows: `count` labels are listed.
pub record Listing (file : List ℕ) (u : Bool) (labels₀ : List ℕ) (i count : ℕ) (labels : List ℕ) : Type 0 where
  pub few : count ≤ i
  pub counts : count ≡ place_among (wanted_row u) (netlist_of file) i
  pub long : length labels ≡ length labels₀
  pub lists : LabelsListed (wanted_row u) (netlist_of file) i labels

module _ (file : List ℕ) (n : ℕ) (H : HasRows file n) (u : Bool) (labels₀ : List ℕ) (room : 2 * count_if (wanted_row u) (netlist_of file) ≤ length labels₀) (i count : ℕ) (labels : List ℕ) (L : Listing file u labels₀ i count labels) where
  pub listing-room : i < n → wanted_row u (decode_row (read_fields file i)) ≡ true → 2 * count + 2 ≤ length labels
  listing-room h = label-room file n H i h u count L.counts labels (omega (arith, L.long))

  pub listing-more : i < n → (labels' : List ℕ) (m : ℕ) → LabelPut (decode_row (read_fields file i)) u labels labels' count m → Listing file u labels₀ (i + 1) m labels'
  listing-more h labels' m P =
      let c = listed-count file n H i h u count L.counts labels labels' m P in
      record {
        few = omega (arith, c, (count-some-le (wanted_row u) constant (netlist_of file) (i + 1)).0);
        counts = c;
        long = P.long ∙ L.long;
        lists = listed_more file n H i h u count L.counts labels labels' m (omega (arith, L.long)) L.lists P;
      }
