-- `row_in`: the closed form of the rotation, by the engine's chain in the block.
use mathlib.Core.Path.{◌∙◌}
use Rattle.rotation.proofs.Turns.{row_turned}
use Rattle.rotation.proofs.row_in.Goals as goal

pub returns : goal.returns
returns g c = c.row_of.ensures ∙ row_turned c.turned_at.ensures
