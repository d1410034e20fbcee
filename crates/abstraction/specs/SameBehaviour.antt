-- Demand 3 as a statement: the scope paper, "What demand 3 compares". A group is one step of the folded netlist's run.
-- Interface: FedAlike, AgreeOnKept, SameBehaviour, StandsFor.
-- Assumes nothing.
use Rattle.std.specs.Prelude.{ℕ, ◌+◌, ◌*◌, ◌<◌, ◌/◌, ◌%◌, ◌≡◌, List}
use Rattle.netlist.specs.Rows.{Row, HasInput, HasRegister, HasUnknown, HasOutput}
use Rattle.netlist.specs.Simulation.{RunValues, output_shows, register_holds}

-- The folded netlist's run is fed as T steps of the original's run are: an X register that it kept starts alike, and in group g an input that it kept in phase k has the value of step g × N + k, if that is below T; else it is free.
pub record FedAlike (N : ℕ) (folded : List Row) (T : ℕ) (steps groups : RunValues) : Type 0 where
  pub choices : (l : ℕ) → HasUnknown folded l → groups.choices l ≡ steps.choices l
  pub inputs : (g l k : ℕ) → HasInput folded l k → g * N + k < T → groups.inputs g l k ≡ steps.inputs (g * N + k) l 0

-- Two runs of the original agree over T steps on the reset choices and the inputs that are kept.
pub record AgreeOnKept (N : ℕ) (folded : List Row) (T : ℕ) (run₁ run₂ : RunValues) : Type 0 where
  pub choices : (l : ℕ) → HasUnknown folded l → run₁.choices l ≡ run₂.choices l
  pub inputs : (t l : ℕ) → t < T → HasInput folded l (t % N) → run₁.inputs t l 0 ≡ run₂.inputs t l 0

-- Demand 3, of an original, a phase count N and a folded netlist. T is any number.
pub record SameBehaviour (original : List Row) (N : ℕ) (folded : List Row) : Type 0 where
  -- each output of the original is there in each phase
  pub present : (l k : ℕ) → HasOutput original l 0 → k < N → HasOutput folded l k
  -- phase t mod N of group t div N shows what the original shows at step t, for every t below T
  pub outputs : (T : ℕ) (steps groups : RunValues) → FedAlike N folded T steps groups
      → (t l : ℕ) → t < T → HasOutput original l 0 → output_shows folded groups l (t % N) (t / N) ≡ output_shows original steps l 0 t
  -- where T is G groups, each kept register then holds what the original's holds
  pub registers : (T : ℕ) (steps groups : RunValues) → FedAlike N folded T steps groups
      → (G l : ℕ) → T ≡ G * N → HasRegister folded l → register_holds folded groups l G ≡ register_holds original steps l T
  -- two runs of the original that agree on what is kept agree on every output at every step below T
  pub agree : (T : ℕ) (run₁ run₂ : RunValues) → AgreeOnKept N folded T run₁ run₂
      → (t l : ℕ) → t < T → HasOutput original l 0 → output_shows original run₁ l 0 t ≡ output_shows original run₂ l 0 t

-- Each input, register and output of the folded netlist stands for one of the original, in a phase below N, and an X register for an X register.
pub record StandsFor (original : List Row) (N : ℕ) (folded : List Row) : Type 0 where
  pub inputs : (l k : ℕ) → HasInput folded l k → HasInput original l 0 × (k < N)
  pub registers : (l : ℕ) → HasRegister folded l → HasRegister original l
  pub unknowns : (l : ℕ) → HasUnknown folded l → HasUnknown original l
  pub outputs : (l k : ℕ) → HasOutput folded l k → HasOutput original l 0 × (k < N)
