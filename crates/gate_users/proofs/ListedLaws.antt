-- The lists of users, made row by row: the heads that a row finds become its entries, then the row becomes the head.
-- Assumes nothing.
use Prim.Native.Nat.{ℕ, ◌+◌, ◌*◌, ◌<◌, ◌≤◌, ◌^◌}
use mathlib.Core.Path.{◌≡◌, refl, sym, ap, ◌∙◌, subst}
use mathlib.Core.Bool.{Bool, true, false, cond, ◌||◌}
use mathlib.Core.List.{List, [], ◌∷◌, ◌++◌}
use native.Mathlib.Omega.{arith}
use native.Mathlib.Decide.{ℕ_discrete}
use native.Mathlib.Numerals.{add-one}
use lib.ListN.{length, get_or, take, drop, replicate, length-replicate, get_or-append}
use lib.Seq.{sets, take-suc, length-take-le}
use lib.Dec.{eqb}
use borrow.Author.Tests.{eq-eqb, ne_eqb}
use Rattle.memory.specs.Fields.{byte_at, u16_at, u16_bytes}
use Rattle.memory.specs.Slots.{slot_at, set_slot}
use Rattle.memory.proofs.TestLaws.{last_or}
use Rattle.memory.proofs.FieldLaws.{zeros-at}
use Rattle.memory.proofs.FrameLaws.{kept-join, kept_sets, u16-kept, u16-back}
use Rattle.memory.proofs.SlotLaws.{slot_same, slot-other}
use Rattle.netlist.specs.Rows.{Row, constant, input, register, and_gate, xor_gate, mux_gate, output, row_at}
use Rattle.ordering.specs.GateOrder.{is_in, operands_of}
use Rattle.ordering.proofs.PlacingLaws.{in_is, at_of}
use Rattle.gate_rows.specs.Sources.{source_rows, Source}
use Rattle.gate_rows.specs.declared.Layout.{Layout}
use Rattle.gate_rows.proofs.RowLaws.{operand_row, row_inside}
use Rattle.gate_users.specs.Users.{uses, last_user, Listed, HeadsKept, HeadsSet}
use Rattle.gate_users.proofs.UserLaws.{last_more}

-- ---- operands

operands-few : (r : Row) → length (operands_of r) ≤ 3
operands-few constant = omega arith
operands-few (input _ _) = omega arith
operands-few (register _ _ _) = omega arith
operands-few (and_gate _ _) = omega arith
operands-few (xor_gate _ _) = omega arith
operands-few (mux_gate _ _ _) = omega arith
operands-few (output _ _ _) = omega arith

-- ---- the heads that a row finds

-- One more entry is written.
keep-more :
    (rows : List Row) (x m : ℕ) (u u' : List ℕ) (node v : ℕ)
    → x < length rows
    → m < 3
    → 8 * length rows ≤ length u
    → HeadsKept rows x m u u'
    → node < length rows
    → node ≡ get_or (operands_of (row_at rows x)) m 0
    → v ≡ slot_at u' node
    → v < 2 ^ 16
    → HeadsKept rows x (m + 1) u (sets u' (2 * length rows + 6 * x + 2 * m) (u16_bytes v))
keep-more rows x m u u' node v h few room H below n e small =
    let base = 2 * length rows + 6 * x in
    let K = kept_sets (base + 2 * m) (base + 2 * m + 2) (u16_bytes v) u' (base + 2 * m) (omega arith) (omega arith) in
    let head : slot_at u' node ≡ slot_at u node = u16-kept H.others (2 * node) (λ y a b c d. omega arith) in
    record {
      entries = λ k l.
          last_or k m (omega arith)
          (λ q. u16-kept K (base + 2 * k) (λ y a b c d. omega arith) ∙ H.entries k q)
          (λ q. rw q (u16-back u' (base + 2 * m) v small (omega (arith, H.others.long)) ∙ e ∙ head ∙ ap (slot_at u) n));
      others = kept-join base (base + 6) u u' (sets u' (base + 2 * m) (u16_bytes v)) H.others K (omega arith) (omega arith) (omega arith) (omega arith);
    }

-- ---- the row becomes the head

in-last : (y z : ℕ) (ys : List ℕ) → is_in y (ys ++ (z ∷ [])) ≡ is_in y ys || eqb y z
in-last y z [] = or-none (eqb y z)
  where
    or-none : (b : Bool) → b || false ≡ b
    or-none true = refl
    or-none false = refl
in-last y z (j ∷ ys) = ap (λ (b : Bool). eqb y j || b) (in-last y z ys) ∙ or-group (eqb y j)
  where
    or-group : (a : Bool) → a || (is_in y ys || eqb y z) ≡ (a || is_in y ys) || eqb y z
    or-group true = refl
    or-group false = refl

set_last :
    (rows : List Row) (x : ℕ) (ys : List ℕ) (u u' : List ℕ) (node : ℕ)
    → x < 2 ^ 16
    → 2 * length rows ≤ length u
    → HeadsSet rows x ys u u'
    → node < length rows
    → HeadsSet rows x (ys ++ (node ∷ [])) u (set_slot u' node x)
set_last rows x ys u u' node h room H below = record {
  heads = λ y l.
      elim (ℕ_discrete y node) [
        | yes e ↦ rw (e, in-last node node ys, eq-eqb node node refl) (slot_same u' node x (omega (arith, H.others.long)) h ∙ sym (always (is_in node ys) (slot_at u node)))
        | no d ↦ rw (in-last y node ys, ne_eqb y node d) (slot-other u' node x y d ∙ H.heads y l ∙ sym (never (is_in y ys) (slot_at u y)))
      ];
  others = kept-join 0 (2 * length rows) u u' (set_slot u' node x) H.others
      (kept_sets (2 * node) (2 * node + 2) (u16_bytes x) u' (2 * node) (omega arith) (omega arith))
      (omega arith) (omega arith) (omega arith) (omega arith);
}
  where
    always : (b : Bool) (z : ℕ) → cond (b || true) x z ≡ x
    always true z = refl
    always false z = refl

    never : (b : Bool) (z : ℕ) → cond (b || false) x z ≡ cond b x z
    never true z = refl
    never false z = refl

-- ---- rows of a source

module _ (layout : Layout) (f : List ℕ) (n : ℕ) (F : Source layout f n) where
  abbrev rows : List Row
  rows = source_rows layout f

  pub ready-all : Source layout f (length (source_rows layout f))
  ready-all = subst (Source layout f) F.count F

  -- Row x, which has `count` operands.
  module _ (x : ℕ) (h : x < n) (count : ℕ) (c : count ≡ length (operands_of (row_at (source_rows layout f) x))) where
    abbrev operands : List ℕ
    operands = operands_of (row_at rows x)

    pub index_in : (k : ℕ) → k < count → k < length (operands_of (row_at (source_rows layout f) x))
    index_in k l = omega arith

    node-below : (k node : ℕ) → k < count → node ≡ get_or operands k 0 → node < length rows
    node-below k node l e = omega (arith, e, operand_row rows F.rows x k (row_inside layout f n F x h) (index_in k l))

    pub node-room : (k node : ℕ) (u u' : List ℕ) → k < count → node ≡ get_or (operands_of (row_at (source_rows layout f) x)) k 0 → 8 * n ≤ length u → length u' ≡ length u → 2 * node + 2 ≤ length u'
    node-room k node u u' l e room long = omega (arith, node-below k node l e, F.count)

    few : count ≤ 3
    few = omega (arith, operands-few (row_at rows x))

    pub keep-next :
        (u u' u'' : List ℕ) (k node v o : ℕ)
        → 8 * n ≤ length u
        → k < count
        → HeadsKept (source_rows layout f) x k u u'
        → node ≡ get_or (operands_of (row_at (source_rows layout f) x)) k 0
        → v ≡ slot_at u' node
        → v < 2 ^ 16
        → o ≡ 2 * n + 6 * x + 2 * k
        → u'' ≡ sets u' o (u16_bytes v)
        → HeadsKept (source_rows layout f) x (k + 1) u u''
    keep-next u u' u'' k node v o room l H p e small q w =
        let at : o ≡ 2 * length rows + 6 * x + 2 * k = omega (arith, F.count) in
        rw (w, at) (keep-more rows x k u u' node v (row_inside layout f n F x h) (omega (arith, few)) (omega (arith, F.count)) H (node-below k node l p) p e small)

    pub set_next :
        (u u' u'' : List ℕ) (k node : ℕ)
        → 8 * n ≤ length u
        → k < count
        → HeadsSet (source_rows layout f) x (take k (operands_of (row_at (source_rows layout f) x))) u u'
        → node ≡ get_or (operands_of (row_at (source_rows layout f) x)) k 0
        → u'' ≡ set_slot u' node x
        → HeadsSet (source_rows layout f) x (take (k + 1) (operands_of (row_at (source_rows layout f) x))) u u''
    set_next u u' u'' k node room l H p w =
        rw (w, add-one k, take-suc operands k 0 (index_in k l), ← p)
        (set_last rows x (take k operands) u u' node (omega (arith, F.few)) (omega (arith, F.count)) H (node-below k node l p))

-- ---- the lists of the first rows

-- The heads of all rows, as a part of the memory, and the memory once they are cleared.
module _ (n : ℕ) (u : List ℕ) (room : 8 * n ≤ length u) where
  pub part-long : 2 * n ≡ length (take (2 * n) u)
  part-long = sym (length-take-le (2 * n) u (omega arith))

  module _ (p : List ℕ) (e : p ≡ replicate (length (take (2 * n) u)) 0) where
    cleared_at : (i : ℕ) → i < 2 * n → byte_at (p ++ drop (2 * n) u) i ≡ 0
    cleared_at i h =
        get_or-append p (drop (2 * n) u) 0 i (omega (arith, ap length e, length-replicate {A = ℕ} (length (take (2 * n) u)) 0, part-long))
        ∙ ap (λ (l : List ℕ). byte_at l i) e ∙ zeros-at (length (take (2 * n) u)) i

    pub cleared-listed : (layout : Layout) (f : List ℕ) → Source layout f n → Listed (source_rows layout f) (p ++ drop (2 * n) u) 0
    unfolding last_user
    cleared-listed layout f F = record {
      heads = λ y h.
          let l : y < n = omega (arith, F.count) in
          omega (arith, cleared_at (2 * y) (omega arith), cleared_at (2 * y + 1) (omega arith));
      entries = λ x k h. absurd (omega arith);
    }

-- One row more: the heads that it finds become its entries, then it becomes the head.
module _ (layout : Layout) (f : List ℕ) (n m : ℕ) (u v w : List ℕ)
    (S : HeadsSet (source_rows layout f) m (operands_of (row_at (source_rows layout f) m)) v w)
    (H : HeadsKept (source_rows layout f) m (length (operands_of (row_at (source_rows layout f) m))) u v)
    (L : Listed (source_rows layout f) u m)
    (F : Source layout f n)
    (h : m < n) where
  abbrev listed : List Row
  listed = source_rows layout f

  head : (y : ℕ) → y < length listed → slot_at w y ≡ last_user listed y (m + 1)
  head y l = S.heads y l ∙ ap (cond (uses listed m y) m) (u16-kept H.others (2 * y) (λ z a b c d. omega arith) ∙ L.heads y l) ∙ sym (last_more listed y m)

  entry-stays : (x k : ℕ) → u16_at w (2 * length listed + 6 * x + 2 * k) ≡ u16_at v (2 * length listed + 6 * x + 2 * k)
  entry-stays x k = u16-kept S.others (2 * length listed + 6 * x + 2 * k) (λ y a b c d. omega arith)

  earlier : (x k : ℕ) → x < m → k < length (operands_of (row_at listed x)) → u16_at w (2 * length listed + 6 * x + 2 * k) ≡ last_user listed (get_or (operands_of (row_at listed x)) k 0) x
  earlier x k l b =
      entry-stays x k ∙ u16-kept H.others (2 * length listed + 6 * x + 2 * k) (λ z a t c d. omega (arith, operands-few (row_at listed x)))
      ∙ L.entries x k l b

  own : (k : ℕ) → k < length (operands_of (row_at listed m)) → u16_at w (2 * length listed + 6 * m + 2 * k) ≡ last_user listed (get_or (operands_of (row_at listed m)) k 0) m
  own k b =
      entry-stays m k ∙ H.entries k b
      ∙ L.heads (get_or (operands_of (row_at listed m)) k 0) (operand_row listed F.rows m k (row_inside layout f n F m h) b)

  pub listed_more : Listed (source_rows layout f) w (m + 1)
  listed_more = record {
    heads = head;
    entries = λ x k l b. last_or x m (omega arith) (λ q. earlier x k q b) (λ q. rw q (own k (rw q at b)));
  }

-- ---- the lists read

-- The first k operands are not the node.
abbrev pub NotAmong : List ℕ → ℕ → ℕ → Type 0
NotAmong ys k node = (i : ℕ) → i < k → get_or ys i 0 ≡ node → ⊥

pub among_none : (ys : List ℕ) (node : ℕ) → NotAmong ys 0 node
among_none ys node i h = absurd (omega arith)

module _ (layout : Layout) (f : List ℕ) (n : ℕ) (F : Source layout f n) (u : List ℕ) (L : Listed (source_rows layout f) u n) where
  module _ (x : ℕ) (h : x < n) (count : ℕ) (c : count ≡ length (operands_of (row_at (source_rows layout f) x))) (k : ℕ) (node : ℕ) where
    -- Some operand is the node.
    pub user-has : (z : ℕ) → NotAmong (operands_of (row_at (source_rows layout f) x)) k node → count ≤ k → uses (source_rows layout f) x node ≡ true → z ≡ last_user (source_rows layout f) node x
    user-has z a l e =
        let i = at_of node (operands_of (row_at (source_rows layout f) x)) (in_is node (operands_of (row_at (source_rows layout f) x)) e) in
        absurd (a i.0 (omega (arith, i.1)) i.2)
