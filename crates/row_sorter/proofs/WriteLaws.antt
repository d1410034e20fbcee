-- Rows written at their new places: each one stands there once it is written, and in the end they are the sorted netlist's.
-- Assumes nothing.
use Prim.Native.Nat.{ℕ, ◌+◌, ◌*◌, ◌<◌, ◌≤◌, ◌/◌, ◌%◌, ◌^◌}
use mathlib.Core.Path.{◌≡◌, sym, ap, ◌∙◌, subst}
use mathlib.Core.List.{List, map}
use native.Mathlib.Omega.{arith}
use native.Mathlib.Decide.{dec_lt, ℕ_discrete}
use native.Mathlib.Nat.{mod-eq_of_lt}
use lib.ListN.{length, get_or}
use lib.Seq.{sets}
use Rattle.memory.specs.Fields.{byte_at}
use Rattle.memory.specs.Slots.{slot_at}
use Rattle.memory.proofs.FrameLaws.{kept_sets, sets-at}
use Rattle.netlist.specs.Limits.{most_rows}
use Rattle.netlist.specs.Rows.{Row, RowFields, constant, input, register, and_gate, xor_gate, mux_gate, output, encode_row, row_at, literals_of}
use Rattle.netlist.specs.FileFormat.{row_offset, field_bytes, row_bytes, blocks_for}
use Rattle.netlist.specs.WellFormed.{NamesNode, OnLiterals, EachBelow}
use Rattle.ordering.specs.GateOrder.{gate_order, new_number, sorted_order, renumber_by, sorted_netlist, IsGateOrder}
use Rattle.ordering.proofs.PlacingLaws.{order_is}
use Rattle.ordering.proofs.LoopLaws.{passes-all}
use Rattle.ordering.proofs.OrderLaws.{number_of, order-once, order-every, number_lt, sorted-at, sorted-from}
use Rattle.ordering.proofs.InOrder.{sorted-rows}
use Rattle.blockfile.specs.RowsStand.{RowsStand}
use Rattle.blockfile.specs.Renumbering.{renumber_fields, renumber_in, HasSlots}
use Rattle.blockfile.proofs.StandLaws.{row_next}
use Rattle.blockfile.proofs.KindLaws.{encode-map, map_same}
use Rattle.gate_rows.specs.Sources.{source_rows, Source}
use Rattle.gate_rows.specs.declared.Layout.{Layout}
use Rattle.row_sorter.specs.Placing.{Placeable, row_placed}

literals-below : (rows : List Row) (r : Row) → OnLiterals (NamesNode rows) (NamesNode rows) r → EachBelow (length rows) (map (λ (l : ℕ). l / 2) (literals_of r))
literals-below rows constant w = tt
literals-below rows (input _ _) w = tt
literals-below rows (register _ _ _) w = (w.0, tt)
literals-below rows (and_gate _ _) w = (w.0.0, (w.1.0, tt))
literals-below rows (xor_gate _ _) w = (w.0.0, (w.1.0, tt))
literals-below rows (mux_gate _ _ _) w = (w.0.0.0, (w.0.1.0, (w.1.0, tt)))
literals-below rows (output _ _ _) w = (w.0, tt)

abbrev new_row : List Row → ℕ → ℕ
new_row rows i = new_number (sorted_order rows) i

-- The first i rows stand at their new places.
abbrev Written : List Row → ℕ → List ℕ → Type 0
Written rows i result = (j d : ℕ) → j < i → d < 8 → byte_at result (row_offset (new_row rows j) + d) ≡ byte_at (row_bytes (row_at (sorted_netlist rows) (new_row rows j))) d

pub record Writing (rows : List Row) (n : ℕ) (result : List ℕ) (i : ℕ) : Type 0 where
  pub some-rows : i ≤ n
  pub room : 512 * blocks_for n ≤ length result
  pub written : Written rows i result

-- Each of n rows has its place in the blocks of n rows.
place_inside : (n i : ℕ) → i < n → row_offset i + 8 ≤ 512 * blocks_for n
place_inside n i h = omega arith

module _ (layout : Layout) (s w : List ℕ) (n : ℕ) (P : Placeable layout s w n) where
  abbrev R : List Row
  R = source_rows layout s

  S : Source layout s n
  S = P.source

  O : IsGateOrder R (gate_order R)
  O = order_is R (passes-all R P.passed)

  number-few : (i : ℕ) → i < n → new_row R i < n
  number-few i l = omega (arith, number_lt R O i (omega (arith, l, S.count)), sorted-rows R O, S.count)

  slot_is : (i : ℕ) → i < n → slot_at w i % 2 ^ 15 ≡ new_row R i
  slot_is i l = omega (arith, P.numbers.slots i (omega (arith, l, S.count)), number-few i l, S.few)

  renumber-is : (l : ℕ) → l / 2 < n → renumber_in w n l ≡ renumber_by (sorted_order R) l
  renumber-is l h = rw (mod-eq_of_lt h, slot_is (l / 2) h)

  -- The bytes of row i, renumbered.
  bytes-are : (i : ℕ) → i < n → field_bytes (renumber_fields (renumber_in w n) (encode_row (row_at R i))) ≡ row_bytes (row_at (sorted_netlist R) (new_row R i))
  bytes-are i l =
      let h : i < length R = omega (arith, l, S.count) in
      ap field_bytes (sym (encode-map (renumber_in w n) (row_at R i))
      ∙ ap encode_row (map_same (renumber_in w n) (renumber_by (sorted_order R)) n renumber-is (row_at R i) (subst (λ (m : ℕ). EachBelow m (map (λ (x : ℕ). x / 2) (literals_of (row_at R i)))) (sym S.count) (literals-below R (row_at R i) (S.rows.operands i h)))
      ∙ sym (sorted-at R O i h)))

  -- Two rows have two places.
  places-apart : (i j : ℕ) → i < n → j < n → new_row R i ≡ new_row R j → i ≡ j
  places-apart i j a b e = sym (back i a) ∙ ap (λ (x : ℕ). get_or (sorted_order R) x 0) e ∙ back j b
    where
      back : (x : ℕ) → x < n → get_or (sorted_order R) (new_row R x) 0 ≡ x
      back x l = (number_of (sorted_order R) (order-once R O) x (order-every R O x (omega (arith, l, S.count)))).1

  -- ---- one row

  module _ (i : ℕ) (l : i < n) where
    pub slots-room : HasSlots w n
    slots-room = (omega arith, P.room)

    pub row_moved : (u v : RowFields) → u ≡ encode_row (row_at R i) → v ≡ renumber_fields (renumber_in w n) u → v ≡ renumber_fields (renumber_in w n) (encode_row (row_at R i))
    row_moved u v x y = y ∙ ap (renumber_fields (renumber_in w n)) x

    module _ (result : List ℕ) (to slot : ℕ) (e : slot ≡ slot_at w i) (q : to ≡ slot % 2 ^ 15) where
      to_is : to ≡ new_row R i
      to_is = q ∙ ap (λ (x : ℕ). x % 2 ^ 15) e ∙ slot_is i l

      pub to-few : to < most_rows
      to-few = omega (arith, to_is, number-few i l, S.few)

      pub to_room : 512 * blocks_for n ≤ length result → row_offset to + 8 ≤ length result
      to_room room = subst (λ (x : ℕ). row_offset x + 8 ≤ length result) (sym to_is) (omega (arith, place_inside n (new_row R i) (number-few i l), room))

  -- ---- all rows

  module _ (result result' : List ℕ) (i : ℕ) (l : i < n) (long : 512 * blocks_for n ≤ length result) (z : result' ≡ row_placed R w n i result) where
    abbrev new : List ℕ
    new = row_bytes (row_at (sorted_netlist R) (new_row R i))

    after_is : result' ≡ sets result (row_offset (new_row R i)) new
    after_is = z ∙ ap (λ (t : ℕ). sets result (row_offset t) (field_bytes (renumber_fields (renumber_in w n) (encode_row (row_at R i))))) (slot_is i l) ∙ ap (sets result (row_offset (new_row R i))) (bytes-are i l)

    written_next : Written R i result → Written R (i + 1) result'
    written_next W j d k b = rw after_is (elim (ℕ_discrete j i) [
      | yes same ↦
          subst (λ (t : ℕ). byte_at (sets result (row_offset (new_row R i)) new) (row_offset (new_row R t) + d) ≡ byte_at (row_bytes (row_at (sorted_netlist R) (new_row R t))) d) (sym same)
          (sets-at new result (row_offset (new_row R i)) d (omega arith) (omega (arith, place_inside n (new_row R i) (number-few i l), long)))
      | no other ↦
          kept (λ p. other (places-apart j i (omega arith) l p)) ∙ W j d (omega arith) b
    ])
      where
        kept : (new_row R j ≡ new_row R i → ⊥) → byte_at (sets result (row_offset (new_row R i)) new) (row_offset (new_row R j) + d) ≡ byte_at result (row_offset (new_row R j) + d)
        kept apart =
            let K = kept_sets (row_offset (new_row R i)) (row_offset (new_row R i) + 8) new result (row_offset (new_row R i)) (omega arith) (omega arith) in
            elim (dec_lt (new_row R j) (new_row R i)) [
              | yes h ↦ K.before (row_offset (new_row R j) + d) (omega (arith, row_next (new_row R j) (new_row R i) h))
              | no h ↦ K.after (row_offset (new_row R j) + d) (omega (arith, row_next (new_row R i) (new_row R j) (let ne : new_row R j ≡ new_row R i → ⊥ = apart in omega (arith, h, ne))))
            ]

  pub writing-next : (result result' : List ℕ) (i : ℕ) → i < n → Writing R n result i → result' ≡ row_placed R w n i result → length result' ≡ length result → Writing R n result' (i + 1)
  writing-next result result' i l W z long = record { some-rows = omega arith; room = omega (arith, W.room, long); written = written_next result result' i l W.room z W.written }

  pub writing-done : (result : List ℕ) (i : ℕ) → n ≤ i → Writing R n result i → RowsStand (sorted_netlist R) result
  writing-done result i b W y d h k =
      let s = sorted-from R O y h in
      subst (λ (t : ℕ). byte_at result (row_offset t + d) ≡ byte_at (row_bytes (row_at (sorted_netlist R) t)) d) s.2 (W.written s.0 d (omega (arith, s.1, b, S.count)) k)
