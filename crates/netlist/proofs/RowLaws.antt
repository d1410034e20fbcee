-- Rows and their fields, and what a row's name says of it.
-- Assumes nothing.
use Prim.Native.Nat.{ℕ, zero, suc, ◌+◌, ◌-◌, ◌<◌, ◌≤◌}
use mathlib.Core.Path.{◌≡◌, refl, sym, ap, ◌∙◌, subst}
use mathlib.Core.Bool.{Bool, true, false, ◌&&◌, ◌||◌, false≢true, true≢false}
use mathlib.Core.List.{List, [], ◌∷◌, ◌++◌, map}
use native.Mathlib.Omega.{arith}
use native.Mathlib.Decide.{dec_lt}
use borrow.Author.Tests.{ltb-true, lt-ltb, eqb-true, eq-eqb}
use lib.Dec.{eqb}
use lib.ListN.{length, length-append, get_or-append}
use lib.Seq.{get_or-append-add}
use Rattle.memory.proofs.TestLaws.{and-true, last_or}
use Rattle.memory.specs.Lists.{join_below}
use Rattle.memory.proofs.ListLaws.{first-is, first-least}
use Rattle.netlist.specs.Rows.{Row, constant, input, register, and_gate, xor_gate, mux_gate, output, encode_row, decode_row, row_at, kind_of, name_of, label_of, phase_of, has_name, is_named, is_output, is_unknown, first_row, row_named, HasRow, row_from_fields, map_literals}
use Rattle.netlist.specs.WellFormed.{EachRow, NextBelow, ResetIn, SameName, NamesUnique, WellFormed, FoldableRows}

-- ---- fields

pub decode-row : (r : Row) → decode_row (encode_row r) ≡ r
decode-row constant = refl
decode-row (input _ _) = refl
decode-row (register _ _ _) = refl
decode-row (and_gate _ _) = refl
decode-row (xor_gate _ _) = refl
decode-row (mux_gate _ _ _) = refl
decode-row (output _ _ _) = refl

pub decode-rows : (rows : List Row) → map decode_row (map encode_row rows) ≡ rows
decode-rows [] = refl
decode-rows (r ∷ rs) = cc (decode-row r, decode-rows rs)

pub kind-le : (r : Row) → kind_of r ≤ 6
kind-le constant = omega arith
kind-le (input _ _) = omega arith
kind-le (register _ _ _) = omega arith
kind-le (and_gate _ _) = omega arith
kind-le (xor_gate _ _) = omega arith
kind-le (mux_gate _ _ _) = omega arith
kind-le (output _ _ _) = omega arith

-- Fields of a kind above 6 are read as a constant.
pub other-kind : (d s a b c : ℕ) → (d ≡ 0 → ⊥) → (d ≡ 1 → ⊥) → (d ≡ 2 → ⊥) → (d ≡ 3 → ⊥) → (d ≡ 4 → ⊥) → (d ≡ 5 → ⊥) → (d ≡ 6 → ⊥) → row_from_fields d s a b c ≡ constant
other-kind zero s a b c n0 n1 n2 n3 n4 n5 n6 = refl
other-kind (suc zero) s a b c n0 n1 n2 n3 n4 n5 n6 = absurd (n1 refl)
other-kind (suc (suc zero)) s a b c n0 n1 n2 n3 n4 n5 n6 = absurd (n2 refl)
other-kind (suc (suc (suc zero))) s a b c n0 n1 n2 n3 n4 n5 n6 = absurd (n3 refl)
other-kind (suc (suc (suc (suc zero)))) s a b c n0 n1 n2 n3 n4 n5 n6 = absurd (n4 refl)
other-kind (suc (suc (suc (suc (suc zero))))) s a b c n0 n1 n2 n3 n4 n5 n6 = absurd (n5 refl)
other-kind (suc (suc (suc (suc (suc (suc zero)))))) s a b c n0 n1 n2 n3 n4 n5 n6 = absurd (n6 refl)
other-kind (suc (suc (suc (suc (suc (suc (suc d))))))) s a b c n0 n1 n2 n3 n4 n5 n6 = refl

pub output-is : (r : Row) → is_output r ≡ true → (a l p : ℕ) × (r ≡ output a l p)
output-is constant h = absurd (false≢true h)
output-is (input _ _) h = absurd (false≢true h)
output-is (register _ _ _) h = absurd (false≢true h)
output-is (and_gate _ _) h = absurd (false≢true h)
output-is (xor_gate _ _) h = absurd (false≢true h)
output-is (mux_gate _ _ _) h = absurd (false≢true h)
output-is (output a l p) h = (a, l, p, refl)

-- ---- names

-- Rows of one kind have names alike.
pub named-alike : (r s : Row) → kind_of r ≡ kind_of s → has_name r ≡ true → has_name s ≡ true
named-alike r s k t = ap (λ (n : ℕ). eqb n 1 || eqb n 2 || eqb n 6) (sym k) ∙ t

-- A row that has no name has label and phase 0.
pub unnamed : (r : Row) → has_name r ≡ false → name_of r ≡ (0, 0)
unnamed constant h = refl
unnamed (input _ _) h = absurd (true≢false h)
unnamed (register _ _ _) h = absurd (true≢false h)
unnamed (and_gate _ _) h = refl
unnamed (xor_gate _ _) h = refl
unnamed (mux_gate _ _ _) h = refl
unnamed (output _ _ _) h = absurd (true≢false h)

pub named-is : (k l p : ℕ) (r : Row) → is_named k l p r ≡ true → (kind_of r ≡ k) × (label_of r ≡ l) × (phase_of r ≡ p)
named-is k l p r h =
    let a = and-true (eqb (kind_of r) k && eqb (label_of r) l) _ h in
    let b = and-true (eqb (kind_of r) k) _ a.0 in
    (eqb-true _ k b.0, eqb-true _ l b.1, eqb-true _ p a.1)

pub named-of : (k l p : ℕ) (r : Row) → kind_of r ≡ k → label_of r ≡ l → phase_of r ≡ p → is_named k l p r ≡ true
named-of k l p r a b c = rw (eq-eqb (kind_of r) k a, eq-eqb (label_of r) l b, eq-eqb (phase_of r) p c)

-- The rows of the three kinds that have names.
pub named-input : (l p : ℕ) (r : Row) → is_named 1 l p r ≡ true → r ≡ input l p
named-input l p constant h = absurd (false≢true h)
named-input l p (input m q) h = let n = named-is 1 l p (input m q) h in cc (n.1, n.2)
named-input l p (register _ _ _) h = absurd (false≢true h)
named-input l p (and_gate _ _) h = absurd (false≢true h)
named-input l p (xor_gate _ _) h = absurd (false≢true h)
named-input l p (mux_gate _ _ _) h = absurd (false≢true h)
named-input l p (output _ _ _) h = absurd (false≢true h)

pub named-register : (l : ℕ) (r : Row) → is_named 2 l 0 r ≡ true → (s n : ℕ) × (r ≡ register s n l)
named-register l constant h = absurd (false≢true h)
named-register l (input _ _) h = absurd (false≢true h)
named-register l (register s n m) h = (s, n, ap (register s n) (named-is 2 l 0 (register s n m) h).1)
named-register l (and_gate _ _) h = absurd (false≢true h)
named-register l (xor_gate _ _) h = absurd (false≢true h)
named-register l (mux_gate _ _ _) h = absurd (false≢true h)
named-register l (output _ _ _) h = absurd (false≢true h)

pub named-output : (l p : ℕ) (r : Row) → is_named 6 l p r ≡ true → (a : ℕ) × (r ≡ output a l p)
named-output l p r h =
    let n = named-is 6 l p r h in
    let o = output-is r (eq-eqb (kind_of r) 6 n.0) in
    let el : o.1 ≡ l = sym (ap label_of o.3) ∙ n.1 in
    let ep : o.2 ≡ p = sym (ap phase_of o.3) ∙ n.2 in
    (o.0, o.3 ∙ cc (el, ep))

pub unknown-is : (l : ℕ) (r : Row) → is_unknown r && eqb (label_of r) l ≡ true → (n : ℕ) × (r ≡ register 2 n l)
unknown-is l constant h = absurd (false≢true h)
unknown-is l (input _ _) h = absurd (false≢true h)
unknown-is l (register s n m) h =
    let a = and-true (eqb s 2) _ h in
    let e = eqb-true s 2 a.0 in
    let f = eqb-true m l a.1 in
    (n, cc (e, f))
unknown-is l (and_gate _ _) h = absurd (false≢true h)
unknown-is l (xor_gate _ _) h = absurd (false≢true h)
unknown-is l (mux_gate _ _ _) h = absurd (false≢true h)
unknown-is l (output _ _ _) h = absurd (false≢true h)

pub unknown-of : (n l : ℕ) (r : Row) → r ≡ register 2 n l → is_unknown r && eqb (label_of r) l ≡ true
unknown-of n l r e = rw (e, eq-eqb l l refl)

-- ---- the first row that passes a test

module _ (f : Row → Bool) (rows : List Row) where
  pub has-at : HasRow f rows → (first_row f rows < length rows) × (f (row_at rows (first_row f rows)) ≡ true)
  has-at h = let l = ltb-true (first_row f rows) (length rows) h in (l, (first-is 0 (length rows) (λ i. f (row_at rows i))).holds (omega arith))

  pub has_of : (x : ℕ) → x < length rows → f (row_at rows x) ≡ true → HasRow f rows
  has_of x h e = lt-ltb (first_row f rows) (length rows) (omega (arith, first-least 0 (length rows) (λ i. f (row_at rows i)) x (omega arith) e))

-- Where names are unique, row i is the one of its name.
module _ (rows : List Row) (unique : NamesUnique rows) (i : ℕ) (h : i < length rows) where
  pub named-place : (k l p : ℕ) → has_name (row_at rows i) ≡ true → kind_of (row_at rows i) ≡ k → label_of (row_at rows i) ≡ l → phase_of (row_at rows i) ≡ p → row_named k l p rows ≡ i
  named-place k l p t a b c =
      let f = has-at (is_named k l p) rows (has_of (is_named k l p) rows i h (named-of k l p (row_at rows i) a b c)) in
      let n = named-is k l p (row_at rows (row_named k l p rows)) f.1 in
      sym (unique i (row_named k l p rows) h f.0 t (record { kind = a ∙ sym n.0; label = b ∙ sym n.1; phase = c ∙ sym n.2 }))

-- ---- lists of rows

-- The list has the row r.
pub record RowIn (xs : List Row) (r : Row) : Type 0 where
  pub place : ℕ
  pub within : place < length xs
  pub is : row_at xs place ≡ r

pub in_left : (xs ys : List Row) (r : Row) → RowIn xs r → RowIn (xs ++ ys) r
in_left xs ys r h = record { place = h.place; within = omega (arith, h.within, length-append xs ys); is = get_or-append xs ys constant h.place h.within ∙ h.is }

pub in_right : (xs ys : List Row) (r : Row) → RowIn ys r → RowIn (xs ++ ys) r
in_right xs ys r h = record { place = length xs + h.place; within = omega (arith, h.within, length-append xs ys); is = get_or-append-add xs ys h.place constant ∙ h.is }

pub each_append : (P : Row → Type 0) (xs ys : List Row) → EachRow P xs → EachRow P ys → EachRow P (xs ++ ys)
each_append P xs ys f g i h = elim (dec_lt i (length xs)) [
  | yes l ↦ rw (get_or-append xs ys constant i l) (f i l)
  | no l ↦
      (let e : i ≡ length xs + (i - length xs) = omega arith in
      let k : i - length xs < length ys = omega (arith, h, length-append xs ys) in
      rw (e, get_or-append-add xs ys (i - length xs) constant) (g (i - length xs) k))
]

pub each-one : (P : Row → Type 0) (r : Row) → P r → EachRow P (r ∷ [])
each-one P r p zero h = p
each-one P r p (suc j) h = absurd (omega arith)

-- The lists f 0, .., f (n - 1), joined: each of their rows has P, and a row of one of them is a row of the whole.
pub each-join : (P : Row → Type 0) (f : ℕ → List Row) (n : ℕ) → ((j : ℕ) → j < n → EachRow P (f j)) → EachRow P (join_below n f)
each-join P f zero h i b = absurd (omega arith)
each-join P f (suc n) h i b = each_append P (join_below n f) (f n) (each-join P f n (λ j l. h j (omega arith))) (h n (omega arith)) i b

pub in-join : (f : ℕ → List Row) (n j : ℕ) (r : Row) → j < n → RowIn (f j) r → RowIn (join_below n f) r
in-join f zero j r h x = absurd (omega arith)
in-join f (suc n) j r h x =
    last_or j n h (λ l. in_left (join_below n f) (f n) r (in-join f n j r l x)) (λ e. in_right (join_below n f) (f n) r (subst (λ (k : ℕ). RowIn (f k) r) e x))

-- ---- next values

pub next-wider : (m n : ℕ) → m ≤ n → (r : Row) → NextBelow m r → NextBelow n r
next-wider m n h constant b = tt
next-wider m n h (input _ _) b = tt
next-wider m n h (register _ _ _) b = omega (arith, b)
next-wider m n h (and_gate _ _) b = tt
next-wider m n h (xor_gate _ _) b = tt
next-wider m n h (mux_gate _ _ _) b = tt
next-wider m n h (output _ _ _) b = tt

-- ---- what an accepted netlist is

pub well-formed : (rows : List Row) → FoldableRows rows → WellFormed rows
well-formed rows F = record { ordered = F.checked.operands; nexts = F.checked.nexts; phases = F.unphased }

-- ---- rows that differ in their literals alone

pub record Alike (r s : Row) : Type 0 where
  pub name : SameName r s
  pub reset : (encode_row r).reset ≡ (encode_row s).reset

pub alike : (r s : Row) → kind_of r ≡ kind_of s → name_of r ≡ name_of s → (encode_row r).reset ≡ (encode_row s).reset → Alike r s
alike r s k n z = record { name = record { kind = k; label = ap (λ (x : ℕ × ℕ). x.0) n; phase = ap (λ (x : ℕ × ℕ). x.1) n }; reset = z }

pub map-alike : (f : ℕ → ℕ) (r : Row) → Alike (map_literals f r) r
map-alike f constant = alike _ _ refl refl refl
map-alike f (input _ _) = alike _ _ refl refl refl
map-alike f (register r n l) = alike (register r (f n) l) (register r n l) refl refl refl
map-alike f (and_gate a b) = alike (and_gate (f a) (f b)) (and_gate a b) refl refl refl
map-alike f (xor_gate a b) = alike (xor_gate (f a) (f b)) (xor_gate a b) refl refl refl
map-alike f (mux_gate a b c) = alike (mux_gate (f a) (f b) (f c)) (mux_gate a b c) refl refl refl
map-alike f (output a l p) = alike (output (f a) l p) (output a l p) refl refl refl

-- A reset is in range if it is that of a row whose reset is.
pub reset-alike : (r s : Row) → kind_of r ≡ kind_of s → (encode_row r).reset ≡ (encode_row s).reset → ResetIn s → ResetIn r
reset-alike constant s k e h = tt
reset-alike (input _ _) s k e h = tt
reset-alike (register r n l) constant k e h = absurd (omega arith)
reset-alike (register r n l) (input _ _) k e h = absurd (omega arith)
reset-alike (register r n l) (register r' n' l') k e h = omega (arith, e, h)
reset-alike (register r n l) (and_gate _ _) k e h = absurd (omega arith)
reset-alike (register r n l) (xor_gate _ _) k e h = absurd (omega arith)
reset-alike (register r n l) (mux_gate _ _ _) k e h = absurd (omega arith)
reset-alike (register r n l) (output _ _ _) k e h = absurd (omega arith)
reset-alike (and_gate _ _) s k e h = tt
reset-alike (xor_gate _ _) s k e h = tt
reset-alike (mux_gate _ _ _) s k e h = tt
reset-alike (output _ _ _) s k e h = tt

-- Rows that have the names of two rows with one name.
pub same_names : (r r' s s' : Row) → SameName r r' → SameName s s' → SameName r s → SameName r' s'
same_names r r' s s' a b e = record { kind = sym a.kind ∙ e.kind ∙ b.kind; label = sym a.label ∙ e.label ∙ b.label; phase = sym a.phase ∙ e.phase ∙ b.phase }
