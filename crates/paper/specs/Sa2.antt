-- 004, section 3: SA2, for duties whose share of a block, T·C/D, is not a whole number of units. (004 counts blocks and tasks from 1, we
-- from 0; its n processors are m engines here.)
--
-- A need r is a fraction over the duty's period D. It may be below zero, and is never down to -1: step 4 takes less than a unit from a
-- share. So what is held is r + 1 counted in D-ths, a whole number, the *raised* need. Nothing is rounded.
use Rattle.std.specs.Prelude.{ℕ, zero, suc, ◌+◌, ◌*◌, ◌-◌, ◌/◌, ◌%◌, Bool, ◌&&◌, List, ltb, length, get_or}
use Rattle.laws.specs.Choice.{pick, one_if}
use Rattle.laws.specs.Sum.{sum_to}
use Rattle.laws.specs.Lists.{tab}
use Rattle.paper.specs.declared.Duty.{Duty}
use Rattle.paper.specs.declared.Run.{Run}
use Rattle.paper.specs.Duties.{duty_at}
use Rattle.paper.specs.Sa1.{lay}

-- whose blocks are shared out: the block length T, the engines, the duties
pub record Sharing : Type 0 where
  pub ticks : ℕ
  pub engines : ℕ
  pub duties : List Duty

abbrev pub sharing : ℕ → ℕ → List Duty → Sharing
sharing t m ds = record { ticks = t; engines = m; duties = ds }

-- how many duties, and one of them
abbrev pub duty_count : Sharing → ℕ
duty_count s = length s.duties

abbrev pub duty_of : Sharing → ℕ → Duty
duty_of s i = duty_at s.duties i

-- ---- a need

-- a duty's share of a block, "T * C_i / D_i = N_i + F_i", in D-ths
abbrev pub share_of : Sharing → ℕ → ℕ
share_of s i = s.ticks * (duty_of s i).service

-- "r_k = T * C_k / D_k .. at the start of the first block", raised
abbrev pub first_need : Sharing → ℕ → ℕ
first_need s i = share_of s i + (duty_of s i).period

-- "r_k = n_k + f_k, where n_k = ⌊r_k⌋": of raised needs ws, duty i's n, raised by 1 too, and its f in D-ths
abbrev pub whole_of : Sharing → List ℕ → ℕ → ℕ
whole_of s ws i = get_or ws i 0 / (duty_of s i).period

abbrev pub part_of : Sharing → List ℕ → ℕ → ℕ
part_of s ws i = get_or ws i 0 % (duty_of s i).period

-- ---- the steps of one block, from raised needs ws

-- 1: "F ← n * T - Σ n_i", the free units; each n is raised by 1, so the duties are counted in. Where F is below 0, it is 0 here: nobody is
-- chosen either way
unfoldable pub free : Sharing → List ℕ → ℕ
free s ws = s.engines * s.ticks + duty_count s - sum_to (duty_count s) (whole_of s ws)

-- 2: "tasks having current f_i > 0, and n_i < T"
unfoldable pub wants : Sharing → List ℕ → ℕ → Bool
wants s ws i = ltb 0 (part_of s ws i) && ltb (whole_of s ws i) (s.ticks + 1)

-- how many of these there are before duty i
unfoldable pub wanting_to : Sharing → List ℕ → ℕ → ℕ
wanting_to s ws i = sum_to i (λ j. one_if (wants s ws j))

-- "Choose the first F tasks from the list"
unfoldable pub chosen : Sharing → List ℕ → ℕ → Bool
chosen s ws i = wants s ws i && ltb (wanting_to s ws i) (free s ws)

-- "Allot to these chosen tasks (n_i + 1) time units, and to all other tasks n_i units": raised by 1, so that 0 stands for -1 units
unfoldable pub raised_units : Sharing → List ℕ → ℕ → ℕ
raised_units s ws i = whole_of s ws i + one_if (chosen s ws i)

-- 4: "If task Γ_i is allotted (n_i + 1) time units in step (2) then r_i = (N_i + F_i) - (1 - f_i) else r_i = (N_i + F_i) + f_i", raised
unfoldable pub next_need : Sharing → List ℕ → ℕ → ℕ
next_need s ws i = share_of s i + part_of s ws i + pick (chosen s ws i) 0 (duty_of s i).period

-- ---- block after block

-- the raised needs of all duties before block b
unfoldable pub needs_at : Sharing → ℕ → List ℕ
needs_at s zero = tab (duty_count s) (first_need s)
needs_at s (suc b) = tab (duty_count s) (next_need s (needs_at s b))

-- the units that each duty is allotted in block b (a duty that would get -1 has 0 here: such a block is refused)
unfoldable pub allotments : Sharing → ℕ → List ℕ
allotments s b = tab (duty_count s) (λ i. raised_units s (needs_at s b) i - 1)

-- 3: "Apply algorithm SA1 using integer time units of tasks so computed": the runs of block b
unfoldable pub laid_out : Sharing → ℕ → List Run
laid_out s b = lay s.ticks (allotments s b) 0 0 0
