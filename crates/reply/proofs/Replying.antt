-- The reply by what code has at hand: the row of the tick's block, and what holds the tick's unit on that row.
-- Assumes nothing.
use Prim.Native.Nat.{ℕ, ◌/◌, ◌%◌, ◌<◌}
use mathlib.Core.Path.{◌≡◌, sym, ◌∙◌}
use borrow.Author.Tests.{lt-ltb}
use Rattle.paper.specs.declared.Row.{Row}
use Rattle.paper.specs.declared.Engine.{Engine}
use Rattle.paper.specs.declared.Reply.{Reply}
use Rattle.paper.specs.Duties.{Held}
use Rattle.paper.specs.Words.{Table, held_in}
use Rattle.paper.specs.Rotation.{link, row_at}
use Rattle.paper.specs.Walk.{walk}
use Rattle.paper.specs.Outcome.{Outcome, answer}
use Rattle.paper.specs.Answers.{replied}
use Rattle.walk_laws.proofs.Page.{walk_is}

-- what holds the tick's unit on the row of the tick's block is what the engine runs
pub reply_is : (t : Table) (e : Engine) (k : ℕ) {r : Row} {h : Held} → e.0 < t.engines → r ≡ row_at (link t) (k / t.ticks) e
    → h ≡ held_in t.runs r (k % t.ticks)
    → ◌≡◌ {A = Outcome Reply} (answer (record { held = h; row = r })) (replied t e k)
reply_is t e k {r} {h} l p q =
    let held-is : h ≡ walk t e k = q ∙ rw p (sym (walk_is t e k)) in
    rw (lt-ltb e.0 t.engines l) (cc)
