-- The laws of `add_image` and of a row's image. All that stands above goes by these: an image adds one literal, and at most one row, which is the new row.
-- Assumes nothing.
use Prim.Native.Nat.{ℕ, zero, suc, ◌+◌, ◌*◌, ◌<◌, ◌≤◌, ◌/◌, ◌%◌}
use mathlib.Core.Path.{◌≡◌, refl, sym, ap, ◌∙◌}
use mathlib.Core.Bool.{Bool, true, false, ◌||◌, false≢true}
use mathlib.Core.List.{List, [], ◌∷◌, ◌++◌}
use native.Mathlib.Omega.{arith}
use lib.Dec.{eqb}
use lib.ListN.{length, get_or, length-append, get_or-append}
use lib.Seq.{get_or_at}
use Rattle.memory.proofs.TestLaws.{last_or}
use Rattle.ternary.specs.Ternary.{Ternary, lo, hi, X}
use Rattle.netlist.specs.Rows.{Row, constant, input, register, and_gate, xor_gate, mux_gate, output, row_at, kind_of, label_of, phase_of, has_name, is_register, is_output}
use Rattle.netlist.specs.Simulation.{bool_logic, complement_if, literal_value, row_value}
use Rattle.netlist.proofs.RowLaws.{unnamed}
use Rattle.netlist.specs.WellFormed.{OperandsBelow, Ordered}
use Rattle.abstraction.specs.GateMaking.{Image, existing, new_row, Unrolling, add_image}
use Rattle.abstraction.specs.Unrolling.{complement_by, image_literal, register_image, row_image}
use Rattle.abstraction.proofs.GateLaws.{Makes, GateOver, and-over, xor-over, mux-over}

-- ---- what is made of the original's row r in phase k

-- A new row f carries the kind and the label of r, and phase k if it has a name; a new register is r itself; it is a node, and not the constant.
pub record NewRow (k : ℕ) (r f : Row) : Type 0 where
  pub kind : kind_of f ≡ kind_of r
  pub label : label_of f ≡ label_of r
  pub phase : has_name f ≡ true → phase_of f ≡ k
  pub same : is_register f ≡ true → f ≡ r
  pub solid : 0 < kind_of f
  pub node : is_output f ≡ false

-- The image names rows below m, and a new row is made of r in phase k.
abbrev pub ImageOver : ℕ → ℕ → Row → Image → Type 0
ImageOver m k r (existing l) = l / 2 < m
ImageOver m k r (new_row f b) = NewRow k r f × OperandsBelow m f × (b < 2)

-- A gate's image.
gate-image : (m k kind : ℕ) (r : Row) → kind_of r ≡ kind → eqb kind 1 || eqb kind 2 || eqb kind 6 ≡ false → eqb kind 2 ≡ false → 0 < kind → eqb kind 6 ≡ false → label_of r ≡ 0 → (i : Image) → GateOver m kind i → ImageOver m k r i
gate-image m k kind r e named reg pos out lab (existing l) g = g
gate-image m k kind r e named reg pos out lab (new_row f b) g =
    let none : has_name f ≡ false = ap (λ (n : ℕ). eqb n 1 || eqb n 2 || eqb n 6) g.0 ∙ named in (
      record {
        kind = g.0 ∙ sym e;
        label = ap (λ (n : ℕ × ℕ). n.0) (unnamed f none) ∙ sym lab;
        phase = λ h. absurd (false≢true (sym none ∙ h));
        same = λ h. absurd (false≢true (sym reg ∙ sym (ap (λ (n : ℕ). eqb n 2) g.0) ∙ h));
        solid = omega (arith, g.0);
        node = ap (λ (n : ℕ). eqb n 6) g.0 ∙ out;
      },
      g.1,
      g.2,
    )

-- Each image names a row below m.
abbrev pub LiteralsBelow : List ℕ → ℕ → Type 0
LiteralsBelow images m = (x : ℕ) → get_or images x 0 / 2 < m

by-below : (m k l : ℕ) → l / 2 < m → complement_by k l / 2 < m
by-below m zero l h = h
by-below m (suc k) l h = omega arith

pub image-below : (m : ℕ) (images : List ℕ) → LiteralsBelow images m → (l : ℕ) → image_literal images l / 2 < m
image-below m images h l = by-below m (l % 2) (get_or images (l / 2) 0) (h (l / 2))

module _ (m : ℕ) (some-row : 0 < m) where
  register-over : (v : Ternary) (k : ℕ) (previous : List ℕ) (r n l : ℕ) → LiteralsBelow previous m → ImageOver m k (register r n l) (register_image v k previous r n l)
  register-over lo k previous r n l h = some-row
  register-over hi k previous r n l h = omega arith
  register-over X zero previous r n l h = (record { kind = refl; label = refl; phase = λ _. refl; same = λ _. refl; solid = omega arith; node = refl }, tt, omega arith)
  register-over X (suc k) previous r n l h = image-below m previous h n

  pub image-over : (v : Ternary) (k : ℕ) (previous images : List ℕ) → LiteralsBelow previous m → LiteralsBelow images m → (r : Row) → ImageOver m k r (row_image v k previous images r)
  image-over v k previous images h g constant = some-row
  image-over v k previous images h g (input l p) = (record { kind = refl; label = refl; phase = λ _. refl; same = λ e. absurd (false≢true e); solid = omega arith; node = refl }, tt, omega arith)
  image-over v k previous images h g (register r n l) = register-over v k previous r n l h
  image-over v k previous images h g (and_gate a b) = gate-image m k 3 (and_gate a b) refl refl refl (omega arith) refl refl (row_image v k previous images (and_gate a b)) (and-over m some-row _ _ (image-below m images g a) (image-below m images g b))
  image-over v k previous images h g (xor_gate a b) = gate-image m k 4 (xor_gate a b) refl refl refl (omega arith) refl refl (row_image v k previous images (xor_gate a b)) (xor-over m some-row _ _ (image-below m images g a) (image-below m images g b))
  image-over v k previous images h g (mux_gate a b c) = gate-image m k 5 (mux_gate a b c) refl refl refl (omega arith) refl refl (row_image v k previous images (mux_gate a b c)) (mux-over m some-row _ _ _ (image-below m images g a) (image-below m images g b) (image-below m images g c))
  image-over v k previous images h g (output a l p) = image-below m images g a

-- ---- the rows

-- What an image adds to the rows made: nothing, or the new row.
pub data Added (made : List Row) : Image → List Row → Type 0 where
  none : {i : Image} → Added made i made
  one : {r : Row} {b : ℕ} → Added made (new_row r b) (made ++ (r ∷ []))

pub add-rows : (q : Unrolling) (i : Image) → Added q.made i (add_image q i).made
unfolding add_image
add-rows q (existing l) = none
add-rows q (new_row r b) = one

pub added-length : {made : List Row} {i : Image} {made' : List Row} → Added made i made' → (length made ≤ length made') × (length made' ≤ suc (length made))
added-length none = (omega arith, omega arith)
added-length {made} (one {r} {b}) = let e = length-append made (r ∷ []) in (omega arith, omega arith)

-- The values w are those of the rows made: h is what a register holds, i the inputs.
abbrev pub Satisfies : (ℕ → Bool) → (Row → Bool) → (ℕ → ℕ → Bool) → List Row → Type 0
Satisfies w h i made = (j : ℕ) → j < length made → w j ≡ row_value bool_logic (h (row_at made j)) i w (row_at made j)

module _ (w : ℕ → Bool) (h : Row → Bool) (i : ℕ → ℕ → Bool) where
  pub added-satisfies : {made : List Row} {m : Image} {made' : List Row} → Added made m made' → Satisfies w h i made' → Satisfies w h i made
  added-satisfies none s j l = s j l
  added-satisfies {made} (one {r} {b}) s j l =
      let e : row_at (made ++ (r ∷ [])) j ≡ row_at made j = get_or-append made (r ∷ []) constant j l in
      rw e at (s j (simp length-append (omega arith)))

  last-satisfies : (made : List Row) (r : Row) → Satisfies w h i (made ++ (r ∷ [])) → w (length made) ≡ row_value bool_logic (h r) i w r
  last-satisfies made r s =
      let e : row_at (made ++ (r ∷ [])) (length made) ≡ r = get_or_at made r [] constant (length made) refl in
      rw e at (s (length made) (simp length-append (omega arith)))

pub added-ordered : (k : ℕ) (s : Row) {made : List Row} {i : Image} {made' : List Row} → Added made i made' → ImageOver (length made) k s i → Ordered made → Ordered made'
added-ordered k s none g o j h = o j h
added-ordered k s {made} (one {r} {b}) g o j h =
    last_or j (length made) (omega (arith, h, length-append made (r ∷ [])))
    (λ l. rw (get_or-append made (r ∷ []) constant j l) (o j l))
    (λ e. rw (e, get_or_at made r [] constant (length made) refl) g.1)

-- ---- the literal

-- The literal that an image adds: it names a row that is made, and has the image's value.
pub record Literal (q : Unrolling) (m : Image) : Type 0 where
  pub literal : ℕ
  pub images : (add_image q m).images ≡ q.images ++ (literal ∷ [])
  pub below : (k : ℕ) (r : Row) → ImageOver (length q.made) k r m → literal / 2 < length (add_image q m).made
  pub value : (w : ℕ → Bool) (w0 : w 0 ≡ false) (h : Row → Bool) (i : ℕ → ℕ → Bool) (v : Bool) → Satisfies w h i (add_image q m).made → Makes w w0 h i v m → literal_value bool_logic w literal ≡ v

pub add-literal : (q : Unrolling) (m : Image) → Literal q m
unfolding add_image
add-literal q (existing l) = record { literal = l; images = refl; below = λ k r g. g; value = λ w w0 h i v s e. e }
add-literal q (new_row f b) = record {
  literal = 2 * length q.made + b;
  images = refl;
  below = λ k r g. omega (arith, g.2, length-append q.made (f ∷ []));
  value = λ w w0 h i v s e.
      let p : (2 * length q.made + b) / 2 ≡ length q.made = omega (arith, e.0) in
      let p' : (2 * length q.made + b) % 2 ≡ b = omega (arith, e.0) in
      rw (p, p') (ap (complement_if bool_logic b) (last-satisfies w h i q.made f s) ∙ e.1);
}

pub add-images : (q : Unrolling) (m : Image) → length (add_image q m).images ≡ suc (length q.images)
add-images q m = let l = add-literal q m in rw l.images (omega (arith, length-append q.images (l.literal ∷ [])))

-- A property of each image so far that the new one has too.
pub add-each : (P : ℕ → ℕ → Type 0) (q : Unrolling) (m : Image) (n : ℕ) → length q.images ≡ n → ((x : ℕ) → x < n → P x (get_or q.images x 0)) → P n (add-literal q m).literal → (x : ℕ) → x < suc n → P x (get_or (add_image q m).images x 0)
add-each P q m n e f g x h =
    let l = add-literal q m in
    rw l.images
    (last_or x n h
    (λ k. rw (get_or-append q.images (l.literal ∷ []) 0 x (omega arith)) (f x k))
    (λ k. rw (k, get_or_at q.images l.literal [] 0 n e) g))
