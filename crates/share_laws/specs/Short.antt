-- When a block of SA2 comes short: what is left of refusal 23's causes once it is known which never come up alone.
use Rattle.std.specs.Prelude.{ℕ, ◌+◌, ◌*◌, Bool, ◌||◌, List, ltb, eqb}
use Rattle.laws.specs.Search.{any}
use Rattle.laws.specs.Sum.{sum_to}
use Rattle.paper.specs.Sa2.{Sharing, duty_count, whole_of, raised_units}

-- duty i would get -1 units
unfoldable pub lacks : Sharing → List ℕ → ℕ → Bool
lacks s ws i = eqb (raised_units s ws i) 0

-- the needs' whole units are more than the engines have; each is raised by 1, so the duties are counted in
unfoldable pub overfull : Sharing → List ℕ → Bool
overfull s ws = ltb (s.engines * s.ticks + duty_count s) (sum_to (duty_count s) (whole_of s ws))

unfoldable pub short : Sharing → List ℕ → Bool
short s ws = any (lacks s ws) (duty_count s) || overfull s ws
