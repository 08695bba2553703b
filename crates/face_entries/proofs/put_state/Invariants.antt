use mathlib.Core.Path.{◌≡◌}
use Prim.Native.Nat.{◌+◌, ◌≤◌}
use mathlib.Core.List.{◌∷◌}
use lib.ListN.{length, drop, get_or}
use Rattle.laws.proofs.Writing.{Wrote}
use Rattle.paper.specs.Limits.{most_engines, state_room}
use Rattle.paper.specs.Words.{row_numbers}
use Rattle.face_entries.proofs.put_state.Given as goal

abbrev pub invariant-loop-e : goal.invariant-loop-e
invariant-loop-e l =
    (l.e ≤ most_engines) × (length l.rows ≡ most_engines) × (state_room ≤ length l.initial.state)
    × (length l.state ≡ length l.initial.state)
    × Wrote (get_or l.initial.state 0 0 ∷ row_numbers l.rows) l.initial.state (drop l.e (row_numbers l.rows)) l.state (l.e + 1)
