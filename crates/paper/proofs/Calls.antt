-- What is asked of an accepted table, and what comes back. The table in the bytes is the judge's answer, so each call goes on with it; a
-- state made for a block has that block's rows, so it passes its test and the next is made for the next block.
-- Assumes nothing.
use Prim.Native.Nat.{ℕ, zero, suc, ◌+◌, ◌^◌, ◌≤◌, ◌<◌}
use mathlib.Core.Path.{◌≡◌, refl, ap}
use mathlib.Core.Bool.{true, false}
use mathlib.Core.List.{List, [], ◌∷◌}
use native.Mathlib.Omega.{arith}
use borrow.Author.Tests.{lt-ltb, le-ltb, ne_eqb}
use Rattle.laws.proofs.Lists.{same_list_refl, same_list_not}
use Rattle.laws.specs.Lists.{same_list}
use Rattle.paper.specs.declared.Row.{Row}
use Rattle.paper.specs.declared.Engine.{Engine}
use Rattle.paper.specs.Words.{row, row_numbers, Table}
use Rattle.paper.specs.Rotation.{link, row_at}
use Rattle.paper.specs.Walk.{loads}
use Rattle.paper.specs.Outcome.{Outcome, refused, answer, and_then}
use Rattle.paper.specs.Rules.{accepted}
use Rattle.paper.specs.declared.State.{State}
use Rattle.paper.specs.declared.Dispatched.{Dispatched}
use Rattle.paper.specs.Limits.{most_blocks, last_block}
use Rattle.paper.specs.Answers.{Hands, reply_of, rows_at, state_at, question, start, row_told, advanced, counted}

-- rows with the same numbers are the same rows
rows_one : (rs ss : List Row) → row_numbers rs ≡ row_numbers ss → rs ≡ ss
rows_one [] [] e = refl
rows_one [] (s ∷ ss) e = let z : ◌≡◌ {A = ℕ} 0 1 = cc in absurd (omega arith)
rows_one (r ∷ rs) [] e = let z : ◌≡◌ {A = ℕ} 0 1 = cc in absurd (omega arith)
rows_one (r ∷ rs) (s ∷ ss) e = let z : rs ≡ ss = rows_one rs ss (cc) in let y : r.0 ≡ s.0 = cc in rw z (ap (λ n. row n ∷ ss) y)

-- so a state's test tells whether the rows are the block's
own_rows : (rs : List Row) → same_list (row_numbers rs) (row_numbers rs) ≡ true
own_rows rs = same_list_refl (row_numbers rs)

strange_rows : (rs ss : List Row) → (rs ≡ ss → ⊥) → same_list (row_numbers rs) (row_numbers ss) ≡ false
strange_rows rs ss n = same_list_not (row_numbers rs) (row_numbers ss) (λ e. n (rows_one rs ss e))

-- what a dispatcher hands back for an outcome it hands back for an equal one
pub hands_same : {o o' : Outcome State} {r : Dispatched} → Hands o r → o ≡ o' → Hands o' r
hands_same h e = rw e at h

-- the state after n boundaries more
unfoldable pub advanced_by : List ℕ → ℕ → State → Outcome State
advanced_by b zero s = answer s
advanced_by b (suc n) s = and_then (advanced_by b n s) (advanced b)

module _ (b : List ℕ) (t : Table) (h : accepted b ≡ answer t) where
  -- the question tells what the walk runs, and the row
  pub question_is : (e : Engine) (k : ℕ) → e.0 < t.engines → question b e k ≡ answer (reply_of t e k)
  question_is e k l = rw (h, lt-ltb e.0 t.engines l)

  -- 18 where there is no such engine
  pub question_none : (e : Engine) (k : ℕ) → t.engines ≤ e.0 → question b e k ≡ refused 18 0
  question_none e k l = rw (h, le-ltb e.0 t.engines l)

  -- the dispatcher starts at any block with that block's rows
  pub start_is : (k : ℕ) → start b k ≡ answer (state_at (link t) t.engines k)
  start_is k = rw h

  -- tells an engine's row from them
  pub row_is : (k : ℕ) (e : Engine) → e.0 < t.engines → row_told b (state_at (link t) t.engines k) e ≡ answer (row_at (link t) k e)
  row_is k e l = rw (h, lt-ltb e.0 t.engines l, own_rows (rows_at (link t) t.engines k))

  pub row_none : (s : State) (e : Engine) → t.engines ≤ e.0 → row_told b s e ≡ refused 18 0
  row_none s e l = rw (h, le-ltb e.0 t.engines l)

  -- and hands back the state of the next block, ..
  pub next_is : (k : ℕ) → k < last_block → advanced b (state_at (link t) t.engines k) ≡ answer (state_at (link t) t.engines (k + 1))
  next_is k l = rw (h, own_rows (rows_at (link t) t.engines k), ne_eqb k (last_block) (λ e. omega arith))

  -- .. but for the last
  pub next_none : advanced b (state_at (link t) t.engines (last_block)) ≡ refused 21 0
  next_none = rw (h, own_rows (rows_at (link t) t.engines last_block))

  -- a state whose rows are not its block's is refused
  pub row_strange : (s : State) (e : Engine) → e.0 < t.engines → (s.rows ≡ rows_at (link t) t.engines s.block → ⊥) → row_told b s e
      ≡ refused 20 0
  row_strange s e l n = rw (h, lt-ltb e.0 t.engines l, strange_rows s.rows (rows_at (link t) t.engines s.block) n)

  pub next_strange : (s : State) → (s.rows ≡ rows_at (link t) t.engines s.block → ⊥) → advanced b s ≡ refused 20 0
  next_strange s n = rw (h, strange_rows s.rows (rows_at (link t) t.engines s.block) n)

  -- n boundaries from block k on: the state of block k + n
  pub next_all : (n k : ℕ) → k + n < 2 ^ 64 → advanced_by b n (state_at (link t) t.engines k)
      ≡ answer (state_at (link t) t.engines (k + n))
  unfolding advanced_by
  next_all zero k l = let e : k + 0 ≡ k = omega arith in rw e
  next_all (suc n) k l =
      let e : k + suc n ≡ k + n + 1 = omega arith in
      rw (e, next_all n k (omega arith)) (next_is (k + n) (omega arith))

  -- the count is that of the loads
  pub counted_is : (n : ℕ) → n ≤ most_blocks → counted b n ≡ answer (loads t n)
  counted_is n l = rw (h, le-ltb most_blocks n l)

  pub counted_none : (n : ℕ) → most_blocks < n → counted b n ≡ refused 19 0
  counted_none n l = rw (h, lt-ltb most_blocks n l)
