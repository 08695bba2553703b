-- The chain of a row is at hand for it and for the next.
-- Assumes nothing.
use Prim.Native.Nat.{ℕ, ◌+◌}
use mathlib.Core.Bool.{Bool}
use native.Mathlib.Omega.{arith}
use Rattle.rotation.specs.declared.Turned.{Turned}
use Rattle.rotation.specs.Turning.{IsTurned}
use Rattle.rotation.proofs.Turns.{turned_other}
use Rattle.dispatch_rows.specs.AtHand.{AtHand}

pub own_at_hand : {c : ℕ → Bool} {b r : ℕ} {x : Turned} → IsTurned c b r x → AtHand c b r x
own_at_hand t = record { most = t.most; reaches = λ h. t }

pub next_at_hand : {c : ℕ → Bool} {b r : ℕ} {x : Turned} → IsTurned c b r x → AtHand c b (r + 1) x
next_at_hand {c} {b} {r} {x} t = record { most = t.most; reaches = λ h. turned_other t (r + 1) (omega (arith, t.chained)) h }
