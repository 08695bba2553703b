-- What a state comes to, where every test on the way was passed; one of them is whether it is the one for its block.
-- Assumes nothing.
use Prim.Native.Nat.{ℕ, ◌+◌, ◌<◌}
use mathlib.Core.Path.{◌≡◌}
use mathlib.Core.Bool.{Bool, false, not}
use borrow.Author.Tests.{lt-ltb, ne_eqb, not-false}
use Rattle.paper.specs.declared.Engine.{Engine}
use Rattle.paper.specs.declared.State.{State}
use Rattle.paper.specs.Limits.{last_block}
use Rattle.paper.specs.Rotation.{row_at}
use Rattle.paper.specs.Outcome.{answer}
use Rattle.paper.specs.Answers.{state_at, is_state, next_by, row_by}

module _ (c : ℕ → Bool) (m : ℕ) (s : State) {own : Bool} (is : own ≡ is_state c m s) where
  -- the next state
  pub next_is : not own ≡ false → (s.block ≡ last_block → ⊥) → answer (state_at c m (s.block + 1)) ≡ next_by c m s
  next_is h p = rw (← is, not-false own h, ne_eqb s.block last_block p)

  -- an engine's row
  pub row_told_lem : (e : Engine) → e.0 < m → not own ≡ false → row_by c m s e ≡ answer (row_at c s.block e)
  row_told_lem e l h = rw (lt-ltb e.0 m l, ← is, not-false own h)
