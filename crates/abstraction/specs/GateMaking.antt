-- How a new gate is made from two or three literals: the scope paper, "The fold". No other rule is used.
-- The rules and `add_image` stay shut: what stands above goes by the laws in `proofs/GateLaws` and `proofs/BuilderLaws`.
-- Interface: complement, Image, make_and, make_xor, make_mux, Unrolling, add_image.
-- Assumes nothing.
use Rattle.std.specs.Prelude.{ℕ, ◌+◌, ◌*◌, ◌-◌, ◌/◌, ◌%◌, min, max, cond, ◌||◌, List, [], ◌∷◌, ◌++◌, length, eqb}
use Rattle.netlist.specs.Rows.{Row, and_gate, xor_gate, mux_gate}

-- The complement of a literal, and the literal without one.
abbrev pub complement : ℕ → ℕ
complement l = 2 * (l / 2) + (1 - l % 2)

abbrev pub positive : ℕ → ℕ
positive l = 2 * (l / 2)

-- An image: a literal that is there, or a new row, complemented if the number is 1.
pub data Image : Type 0 where
  existing : ℕ → Image
  new_row : Row → ℕ → Image

unfoldable pub make_and : ℕ → ℕ → Image
make_and a b =
    cond (eqb a 0 || eqb b 0 || eqb a (complement b)) (existing 0)
    (cond (eqb a 1) (existing b)
    (cond (eqb b 1) (existing a)
    (cond (eqb a b) (existing a)
    (new_row (and_gate (min a b) (max a b)) 0))))

unfoldable pub make_xor : ℕ → ℕ → Image
make_xor a b =
    cond (eqb a b) (existing 0)
    (cond (eqb a (complement b)) (existing 1)
    (cond (eqb a 0) (existing b)
    (cond (eqb b 0) (existing a)
    (cond (eqb a 1) (existing (complement b))
    (cond (eqb b 1) (existing (complement a))
    (new_row (xor_gate (min (positive a) (positive b)) (max (positive a) (positive b))) ((a + b) % 2)))))))

unfoldable pub make_mux : ℕ → ℕ → ℕ → Image
make_mux a b c =
    cond (eqb a 0) (existing c)
    (cond (eqb a 1) (existing b)
    (cond (eqb b c) (existing b)
    (cond (eqb (a % 2) 0) (new_row (mux_gate a b c) 0)
    (new_row (mux_gate (complement a) c b) 0))))

-- An unrolling under way: the rows made, and the image literal of each original row in the phase under way.
pub record Unrolling : Type 0 where
  pub made : List Row
  pub images : List ℕ

-- The next original row's image: its literal is added to the images, and a new row to the rows made.
unfoldable pub add_image : Unrolling → Image → Unrolling
add_image q (existing l) = record { made = q.made; images = q.images ++ (l ∷ []) }
add_image q (new_row r b) = record { made = q.made ++ (r ∷ []); images = q.images ++ ((2 * length q.made + b) ∷ []) }
