-- What each engine runs at each tick. Service and loads are those of any schedule. Nothing here knows of blocks, rows or the rotation.
use Rattle.std.specs.Prelude.{ℕ, zero, suc, ◌+◌, Bool, not, ◌&&◌}
use Rattle.laws.specs.Choice.{one_if}
use Rattle.laws.specs.Sum.{sum_to}
use Rattle.paper.specs.declared.Engine.{Engine}
use Rattle.std.specs.Prelude.{Some}
use Rattle.paper.specs.Duties.{Held, engine, same, busy}

-- idle or a duty, for each engine and tick
abbrev pub Schedule : Type 0
Schedule = Engine → ℕ → Held

-- on how many of m engines duty i runs at tick k
unfoldable pub given : ℕ → Schedule → ℕ → ℕ → ℕ
given m s i k = sum_to m (λ e. one_if (same (s (engine e) k) (Some i)))

-- the service that duty i gets in the n ticks from k on
unfoldable pub served : ℕ → Schedule → ℕ → ℕ → ℕ → ℕ
served m s i k n = sum_to n (λ j. given m s i (k + j))

-- "A load is an engine with a tick at which it runs a duty, and either the tick is 0 or the same engine did not run the same duty one tick
-- earlier. Idle ticks are no loads."
unfoldable pub load : Schedule → Engine → ℕ → Bool
load s e zero = busy (s e zero)
load s e (suc k) = busy (s e (suc k)) && not (same (s e (suc k)) (s e k))

-- the loads on m engines in the first n ticks
unfoldable pub loads_in : ℕ → Schedule → ℕ → ℕ
loads_in m s n = sum_to n (λ k. sum_to m (λ e. one_if (load s (engine e) k)))
