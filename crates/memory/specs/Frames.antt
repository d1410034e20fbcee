-- What stays of a run of bytes while a part of it is written.
-- Interface: KeptOutside.
-- Assumes nothing.
use Rattle.std.specs.Prelude.{ℕ, ◌<◌, ◌≤◌, ◌≡◌, List, length}
use Rattle.memory.specs.Fields.{byte_at}

-- w' is w but for the bytes from lo to hi - 1.
pub record KeptOutside (lo hi : ℕ) (w w' : List ℕ) : Type 0 where
  pub long : length w' ≡ length w
  pub before : (x : ℕ) → x < lo → byte_at w' x ≡ byte_at w x
  pub after : (x : ℕ) → hi ≤ x → byte_at w' x ≡ byte_at w x
