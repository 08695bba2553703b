-- The three demands, as theorems on the definitions. Each is a citation; the arguments stand in the files named in the `use`
-- lines. What the code does is tied to these definitions by the contracts, each of which is an equation with one of them. Plans of shares
-- have a page of their own, `ShareDemands`, and what refusal 7 means has `CapacityDemands`.
-- Assumes nothing.
use Prim.Native.Nat.{ℕ, ◌+◌, ◌*◌, ◌/◌, ◌%◌, ◌^◌, ◌≤◌, ◌<◌, ◌∣◌}
use mathlib.Core.Path.{◌≡◌, refl}
use mathlib.Core.List.{List, map}
use mathlib.Core.Logic.{◌↔◌, ◌⊎◌, inl, inr}
use lib.ListN.{length}
use Rattle.laws.specs.Choice.{one_if}
use Rattle.laws.specs.Sum.{sum_to}
use Rattle.laws.proofs.Digits.{AreBytes}
use Rattle.paper.specs.declared.Engine.{Engine}
use Rattle.paper.specs.declared.Duty.{Duty}
use Rattle.std.specs.Prelude.{Some}
use Rattle.paper.specs.Duties.{engine, job_start, duty_at}
use Rattle.paper.specs.Words.{row, block_length_of, Table, held_in}
use Rattle.paper.specs.Sa1.{sa1}
use Rattle.paper.specs.Rotation.{link, next_of, row_at, chains}
use Rattle.paper.specs.Walk.{walk, loads}
use Rattle.paper.specs.Schedule.{given, served, load, loads_in}
use Rattle.paper.specs.Outcome.{Outcome, refused, answer, and_then, leaves}
use Rattle.paper.specs.Limits.{small, most_blocks}
use Rattle.paper.specs.Bytes.{bytes_of}
use Rattle.paper.specs.Wanted.{Wanted, wanted_of, duty_set, taken}
use Rattle.paper.specs.Builder.{plan_at, length_meant, plan, build}
use Rattle.paper.specs.Rules.{accepted, judged}
use Rattle.paper.specs.Statements.{Ranged, Meets}
use Rattle.paper.specs.declared.State.{State}
use Rattle.paper.specs.Answers.{reply_of, rows_at, state_at, question, start, row_told, advanced, counted}
use Rattle.paper.specs.Text.{input}
use Rattle.paper.proofs.Outcomes.{refused_leaves}
use Rattle.walk_laws.proofs.Page.{row_start, row_after_lem, walk_is, served_jobs}
use Rattle.walk_laws.proofs.Page as page
use Rattle.paper.proofs.Passed.{From}
use Rattle.plan_laws.proofs.TakenWhen.{WhenTaken, taken_when}
use Rattle.plan_laws.proofs.PlanWhen.{When, plan_when, plan_greatest}
use Rattle.plan_laws.proofs.Planned.{planned_sa1, planned_ticks, planned_wanted, WhenBuilt, built_when, built, built-accepted}
use Rattle.table_laws.proofs.Rules.{Whole, Wholes}
use Rattle.table_laws.proofs.Whole.{whole_longer}
use Rattle.table_laws.proofs.AcceptedBytes.{accepted_ranged, accepted_meets, accepted_when}
use Rattle.plan_laws.proofs.Shorter.{enlarged, runs_enlarged, chains_enlarged, walk_slowed}
use Rattle.plan_laws.proofs.Listed.{Listed, build_listed, judged_listed, question_listed, start_listed, row_listed, next_listed}
use Rattle.plan_laws.proofs.Listed.{BuildNumber, counted_listed, input_listed}
use Rattle.paper.proofs.Calls.{advanced_by, question_is, start_is, row_is, row_strange, next_strange, next_all, counted_is}

-- ---- Demand 1. "Every call takes whatever numbers and bytes arrive, ends, and either answers or refuses with the number document 01
-- ---- lists. A refused call changes no byte of the caller's."
-- That a call takes everything and ends is in its contract, which has no `requires`; here: what the outcomes are.

-- an outcome is an answer or a refusal
pub settled : {A : Type 0} (o : Outcome A) → ((a : A) × (o ≡ answer a)) ⊎ ((n : ℕ) × (p : ℕ) × (o ≡ refused n p))
settled (refused n p) = inr (n, p, refl)
settled (answer a) = inl (a, refl)

-- the numbers of each call's refusals; each fits a byte, and each place is within the bound on places
pub refusals_listed :
    ((wish : ℕ) (x : Wanted) (room : ℕ) → Listed BuildNumber (build wish x room))
    × ((b : List ℕ) → Listed (From 10 17) (judged b))
    × ((b : List ℕ) (e : Engine) (k : ℕ) → Listed (From 10 18) (question b e k))
    × ((b : List ℕ) (k : ℕ) → Listed (From 10 17) (start b k))
    × ((b : List ℕ) (s : State) (e : Engine) → Listed (λ n. From 10 18 n ⊎ (n ≡ 20)) (row_told b s e))
    × ((b : List ℕ) (s : State) → Listed (λ n. From 10 17 n ⊎ From 20 21 n) (advanced b s))
    × ((b : List ℕ) (k : ℕ) → Listed (λ n. From 10 17 n ⊎ (n ≡ 19)) (counted b k))
    × ((b : List ℕ) → Listed (λ n. n ≡ 9) (input b))
refusals_listed = (build_listed, judged_listed, question_listed, start_listed, row_listed, next_listed, counted_listed, input_listed)

-- "Refusals write nothing"
pub refusal_writes_nothing : (n p : ℕ) (buffer : List ℕ) → leaves (refused n p) buffer ≡ buffer
refusal_writes_nothing = refused_leaves

-- ---- Demand 2. "The plan is SA1's; every duty gets exactly its service in each period, no engine two duties in a tick, no duty two
-- ---- engines. A table is accepted, whoever wrote it, exactly when it meets document 01's rules."

-- the plan is SA1's, in blocks of the length that the wish means: "0 meaning the greatest common divisor", else itself
pub plan-sa1 :
    (wish : ℕ) (x : Wanted) (t : Table) → plan wish x ≡ answer t → t ≡ sa1 (length_meant wish (duty_set x)) x.engines (duty_set x)
plan-sa1 = planned_sa1

-- with 0 it is the plan of document 01: 24 is never given
pub plan_as_before : (x : Wanted) → plan 0 x ≡ and_then (taken x) (λ ds. plan_at (block_length_of ds) x.engines ds)
plan_as_before = plan_greatest

-- what is wanted is taken, or one of refusals 1 to 5 with its place, exactly where the document says so; the same with 24, 6 and 7 for the
-- plan, and with 8 for the bytes
pub taken_exactly : (x : Wanted) (o : Outcome (List Duty)) → (taken x ≡ o) ↔ WhenTaken x o
taken_exactly = taken_when

pub plan_exactly : (wish : ℕ) (x : Wanted) (o : Outcome Table) → (plan wish x ≡ o) ↔ When wish x o
plan_exactly = plan_when

pub build_exactly : (wish : ℕ) (x : Wanted) (room : ℕ) (o : Outcome (List ℕ)) → (build wish x room ≡ o) ↔ WhenBuilt wish x room o
build_exactly = built_when

-- a shorter block never makes a slice whole that was not: what is whole for T is whole for every multiple of T
pub shorter_never_mends : (t u : ℕ) (ds : List Duty) (i : ℕ) → t ∣ u → Whole t ds i → Whole u ds i
shorter_never_mends = whole_longer

-- and where slices are whole for T, the plan in blocks of k·T is the one in blocks of T, k times as slow: the same runs in large, the same
-- chains, and at tick n each engine runs what it runs at tick n/k with the shorter blocks
pub shorter_is_quicker :
    (k t m : ℕ) (ds : List Duty) → 1 ≤ k → 1 ≤ t → Wholes t ds
    → ((sa1 (k * t) m ds).runs ≡ map (enlarged k) (sa1 t m ds).runs) × (chains (sa1 (k * t) m ds) ≡ chains (sa1 t m ds))
    × ((e : Engine) (n : ℕ) → walk (sa1 (k * t) m ds) e n ≡ walk (sa1 t m ds) e (n / k))
shorter_is_quicker k t m ds a b w = (runs_enlarged k a t m ds b w, chains_enlarged k a t m ds b w, walk_slowed k a t m ds b w)

-- what the builder writes is accepted and reads back as the plan of what was wanted, in blocks of the length that was meant
pub record ReadsBack (wish : ℕ) (x : Wanted) (b : List ℕ) : Type 0 where
  pub table : Table
  pub is_plan : plan wish x ≡ answer table
  pub is_read : accepted b ≡ answer table
  pub is_wanted : wanted_of table.engines table.duties ≡ x
  pub is_long : table.ticks ≡ length_meant wish (duty_set x)

pub build_reads_back : (wish : ℕ) (x : Wanted) (room : ℕ) (b : List ℕ) → build wish x room ≡ answer b → ReadsBack wish x b
build_reads_back wish x room b h =
    let r = built wish x room b h in
    record {
      table = r.table;
      is_plan = r.plans;
      is_read = built-accepted wish x room b h;
      is_wanted = planned_wanted wish x r.table r.plans;
      is_long = planned_ticks wish x r.table r.plans;
    }

-- bytes are accepted as a table exactly when they are its bytes, every field is in range and rules 11 to 17 are met: T may be any common
-- divisor of the periods, and what follows holds for each
pub accepted_exactly : (b : List ℕ) (t : Table) → AreBytes b → (accepted b ≡ answer t) ↔ ((bytes_of t ≡ b) × Ranged small t × Meets t)
accepted_exactly = accepted_when

module _ (b : List ℕ) (t : Table) (h : accepted b ≡ answer t) where
  -- service: in its ticks each job of each duty runs for the duty's service
  pub jobs_served :
      (i : ℕ) → i < length t.duties → (q : ℕ)
      → served t.engines (walk t) i (job_start (duty_at t.duties i) q) (duty_at t.duties i).period ≡ (duty_at t.duties i).service
  jobs_served = served_jobs small t (accepted_ranged b t h) (accepted_meets b t h)

  -- exclusion: at each tick a duty runs on one engine at most. (And an engine runs one duty at most: a schedule is a function.)
  pub not_twice : (i k : ℕ) → given t.engines (walk t) i k ≤ 1
  not_twice = page.not_twice small t (accepted_ranged b t h) (accepted_meets b t h)

  pub same_engine : (i k e d : ℕ) → walk t (engine e) k ≡ Some i → walk t (engine d) k ≡ Some i → e ≡ d
  same_engine = page.same_engine small t (accepted_ranged b t h) (accepted_meets b t h)

  -- ---- Demand 3. "For every accepted table, engine and tick, the direct answer is the one found by walking from block 0 with the
  -- ---- published rotation; the dispatcher's rows are that walk's; the loads reported equal those counted tick by tick, up to
  -- ---- 1,000,000,000,000 blocks."

  -- the walk: in block 0 engine i runs row i, and from each block to the next an engine takes the row next in the chain to the one it had;
  -- at a tick it runs what stands on its row at the tick's unit
  pub walk_rows :
      ((e : Engine) → row_at (link t) 0 e ≡ row e.0)
      × ((n : ℕ) (e : Engine) → row_at (link t) (n + 1) e ≡ row (next_of (link t) (row_at (link t) n e).0))
      × ((e : Engine) (k : ℕ) → walk t e k ≡ held_in t.runs (row_at (link t) (k / t.ticks) e) (k % t.ticks))
  walk_rows = (row_start (link t), row_after_lem (link t), walk_is t)

  -- the question
  pub question_walks : (e : Engine) (k : ℕ) → e.0 < t.engines → question b e k ≡ answer (reply_of t e k)
  question_walks = question_is b t h

  -- the dispatcher: started at block k and taken over n boundaries it is at block k + n ..
  pub dispatcher_walks : (k n : ℕ) → k + n < 2 ^ 64 → and_then (start b k) (advanced_by b n) ≡ answer (state_at (link t) t.engines (k + n))
  dispatcher_walks k n l = rw (start_is b t h k) (next_all b t h n k l)

  -- .. and tells each engine's row there, the one that the question tells at each tick of that block
  pub dispatcher_agrees :
      (k n : ℕ) (e : Engine) (j : ℕ) → k + n < 2 ^ 64 → e.0 < t.engines → j / t.ticks ≡ k + n
      → and_then (and_then (start b k) (advanced_by b n)) (λ s. row_told b s e) ≡ and_then (question b e j) (λ r. answer r.row)
  dispatcher_agrees k n e j l a q = rw (dispatcher_walks k n l, question_is b t h e j a, q) (row_is b t h (k + n) e a)

  -- a state that is not its block's is refused
  pub strange_refused :
      (s : State) → (s.rows ≡ rows_at (link t) t.engines s.block → ⊥)
      → ((e : Engine) → e.0 < t.engines → row_told b s e ≡ refused 20 0) × (advanced b s ≡ refused 20 0)
  strange_refused s n = ((λ e l. row_strange b t h s e l n), next_strange b t h s n)

  -- the count: every engine at every tick of the blocks
  pub count_walks : (n : ℕ) → n ≤ most_blocks → counted b n ≡ answer
      (sum_to (n * t.ticks) (λ k. sum_to t.engines (λ e. one_if (load (walk t) (engine e) k))))
  unfolding loads loads_in
  count_walks = counted_is b t h
