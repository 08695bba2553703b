-- `handed`: the state beside a refusal is none.
use mathlib.Core.Path.{refl}
use Rattle.laws.specs.Lists.{tab}
use Rattle.dispatch_state.proofs.handed.Goals as goal

pub returns-in-Err : goal.returns-in-Err
unfolding tab
returns-in-Err c = rw c.in-Err.is (record { said = refl; holds = refl })
