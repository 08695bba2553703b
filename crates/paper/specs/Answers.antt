-- What is asked of an accepted table: the direct question, the dispatcher, the count of loads. "The question,
-- the dispatcher and the count take table bytes and judge them first." What needs no more of a table than which rows are chained and how
-- many engines there are takes these two.
use Rattle.std.specs.Prelude.{ℕ, ◌+◌, ◌/◌, ◌≡◌, Bool, List, ltb, eqb}
use Rattle.laws.specs.Choice.{pick}
use Rattle.laws.specs.Lists.{tab, same_list}
use Rattle.paper.specs.declared.Row.{Row}
use Rattle.paper.specs.declared.Engine.{Engine}
use Rattle.paper.specs.declared.Reply.{Reply}
use Rattle.paper.specs.declared.State.{State}
use Rattle.paper.specs.declared.Dispatched.{Dispatched}
use Rattle.paper.specs.Duties.{engine}
use Rattle.paper.specs.Words.{row, row_numbers, Table}
use Rattle.paper.specs.Rotation.{link, row_at}
use Rattle.paper.specs.Walk.{walk, loads}
use Rattle.paper.specs.Outcome.{Outcome, refused, answer, and_then, verdict_as}
use Rattle.paper.specs.Limits.{most_engines, most_blocks, last_block}
use Rattle.paper.specs.Rules.{accepted}

-- 18 "no such engine", of m engines
abbrev pub of_engine : {A : Type 0} → ℕ → Engine → Outcome A → Outcome A
of_engine m e rest = pick (ltb e.0 m) rest (refused 18 0)

-- ---- the question

-- "The question answers the duty and row, or idle with the row": what a table's walk says of the engine at the tick
abbrev pub reply_of : Table → Engine → ℕ → Reply
reply_of t e k = record { held = walk t e k; row = row_at (link t) (k / t.ticks) e }

abbrev pub replied : Table → Engine → ℕ → Outcome Reply
replied t e k = of_engine t.engines e (answer (reply_of t e k))

abbrev pub question : List ℕ → Engine → ℕ → Outcome Reply
question b e k = and_then (accepted b) (λ t. replied t e k)

-- ---- the dispatcher, of links c and m engines

-- "The dispatcher's state is a block number and 32 row numbers, one for each engine, 0 past the last engine."
unfoldable pub rows_at : (ℕ → Bool) → ℕ → ℕ → List Row
rows_at c m b = tab most_engines (λ e. pick (ltb e m) (row_at c b (engine e)) (row 0))

abbrev pub state_at : (ℕ → Bool) → ℕ → ℕ → State
state_at c m b = record { block = b; rows = rows_at c m b }

-- "where the answer has room for a dispatcher's state, it holds block 0 and rows all 0"
abbrev pub no_state : State
no_state = record { block = 0; rows = tab most_engines (λ e. row 0) }

abbrev pub state_left : Outcome State → State
state_left (refused n p) = no_state
state_left (answer s) = s

-- what a dispatcher hands back: the verdict, and the state beside it
pub record Hands (o : Outcome State) (r : Dispatched) : Type 0 where
  pub said : verdict_as r.verdict r.state ≡ o
  pub holds : r.state ≡ state_left o

-- 20 "dispatcher state not the one for its block"
abbrev pub is_state : (ℕ → Bool) → ℕ → State → Bool
is_state c m s = same_list (row_numbers s.rows) (row_numbers (rows_at c m s.block))

abbrev pub of_state : {A : Type 0} → (ℕ → Bool) → ℕ → State → Outcome A → Outcome A
of_state c m s rest = pick (is_state c m s) rest (refused 20 0)

-- "It .. tells an engine's row": 18, then 20
abbrev pub row_by : (ℕ → Bool) → ℕ → State → Engine → Outcome Row
row_by c m s e = of_engine m e (of_state c m s (answer (row_at c s.block e)))

-- ".. and hands back the state of the next one": 20, then 21 "dispatcher at block 2^64 - 1"
abbrev pub next_by : (ℕ → Bool) → ℕ → State → Outcome State
next_by c m s = of_state c m s (pick (eqb s.block last_block) (refused 21 0) (answer (state_at c m (s.block + 1))))

-- of table bytes
abbrev pub by_links : {A : Type 0} → List ℕ → ((ℕ → Bool) → ℕ → Outcome A) → Outcome A
by_links b f = and_then (accepted b) (λ t. f (link t) t.engines)

-- "It starts at any named block"
abbrev pub start : List ℕ → ℕ → Outcome State
start b k = by_links b (λ c m. answer (state_at c m k))

abbrev pub row_told : List ℕ → State → Engine → Outcome Row
row_told b s e = by_links b (λ c m. row_by c m s e)

abbrev pub advanced : List ℕ → State → Outcome State
advanced b s = by_links b (λ c m. next_by c m s)

-- ---- the count

-- 19 "too many blocks"; else the loads of the first n blocks
abbrev pub count_of : Table → ℕ → Outcome ℕ
count_of t n = pick (ltb most_blocks n) (refused 19 0) (answer (loads t n))

abbrev pub counted : List ℕ → ℕ → Outcome ℕ
counted b n = and_then (accepted b) (λ t. count_of t n)
