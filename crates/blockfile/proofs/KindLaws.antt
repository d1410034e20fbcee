-- What a row's kind says of its fields: how many of them are literals, and the row with these renumbered.
-- Assumes nothing.
use Prim.Native.Nat.{ℕ, zero, suc, ◌<◌, ◌/◌}
use mathlib.Core.Path.{◌≡◌, refl}
use mathlib.Core.List.{[], ◌∷◌, map}
use lib.ListN.{take}
use Rattle.netlist.specs.Rows.{Row, constant, input, register, and_gate, xor_gate, mux_gate, output, encode_row, row_from_fields, literals_of, map_literals}
use Rattle.netlist.specs.WellFormed.{EachBelow}
use Rattle.blockfile.specs.Renumbering.{literal_count, renumber_fields}

-- ---- the literals of a row

-- f of a row's literals: of its first fields.
pub literals-are : (f : ℕ → ℕ) (k r a b c : ℕ) → map f (literals_of (row_from_fields k r a b c)) ≡ take (literal_count k) (f a ∷ f b ∷ f c ∷ [])
literals-are f zero r a b c = refl
literals-are f (suc zero) r a b c = refl
literals-are f (suc (suc zero)) r a b c = refl
literals-are f (suc (suc (suc zero))) r a b c = refl
literals-are f (suc (suc (suc (suc zero)))) r a b c = refl
literals-are f (suc (suc (suc (suc (suc zero))))) r a b c = refl
literals-are f (suc (suc (suc (suc (suc (suc zero)))))) r a b c = refl
literals-are f (suc (suc (suc (suc (suc (suc (suc k))))))) r a b c = refl

-- ---- the fields of a renumbered row

pub encode-map : (g : ℕ → ℕ) (r : Row) → encode_row (map_literals g r) ≡ renumber_fields g (encode_row r)
encode-map g constant = refl
encode-map g (input _ _) = refl
encode-map g (register _ _ _) = refl
encode-map g (and_gate _ _) = refl
encode-map g (xor_gate _ _) = refl
encode-map g (mux_gate _ _ _) = refl
encode-map g (output _ _ _) = refl

-- Two renumberings that agree on the rows below n.
pub map_same : (g h : ℕ → ℕ) (n : ℕ) → ((l : ℕ) → l / 2 < n → g l ≡ h l) → (r : Row) → EachBelow n (map (λ l. l / 2) (literals_of r)) → map_literals g r ≡ map_literals h r
map_same g h n e constant b = refl
map_same g h n e (input _ _) b = refl
map_same g h n e (register _ x _) b = cc (e x b.0)
map_same g h n e (and_gate x y) b = cc (e x b.0, e y b.1.0)
map_same g h n e (xor_gate x y) b = cc (e x b.0, e y b.1.0)
map_same g h n e (mux_gate x y z) b = cc (e x b.0, e y b.1.0, e z b.1.1.0)
map_same g h n e (output x _ _) b = cc (e x b.0)
