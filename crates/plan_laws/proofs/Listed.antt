-- Each call comes to an answer or to a refusal whose number the documents list for that call, and whose place is within the bound on
-- places: it is a duty, a run or a line, of which there are few, or an offset or a length within a table of few duties and runs.
-- Assumes nothing.
use Prim.Native.Nat.{ℕ, ◌+◌, ◌*◌, ◌≤◌, ◌<◌}
use mathlib.Core.Path.{◌≡◌, refl, sym, ap}
use mathlib.Core.Bool.{Bool, true, false, not, ◌&&◌}
use mathlib.Core.List.{List, [], ◌∷◌}
use mathlib.Core.Logic.{◌⊎◌, inl, inr}
use native.Mathlib.Omega.{arith}
use lib.Dec.{ltb, eqb}
use lib.ListN.{length}
use borrow.Author.Tests.{ltb-true, ltb-false, not-true, not-false}
use Rattle.laws.specs.Choice.{pick}
use Rattle.laws.specs.Lists.{sum_of}
use Rattle.laws.proofs.Search.{first-le}
use Rattle.laws.proofs.Cases.{and_right}
use Rattle.paper.specs.declared.Engine.{Engine}
use Rattle.paper.specs.declared.Duty.{Duty}
use Rattle.paper.specs.Words.{Table, undivided}
use Rattle.paper.specs.Limits.{most_place, small, end_length, most_blocks, last_block, most_duties, most_input}
use Rattle.paper.specs.Outcome.{Outcome, refused, answer, and_then}
use Rattle.paper.specs.Bytes.{encode, run_place, duty_place, duties_in, head_good, end_good, run_good, bad_duty, good_runs, table_in}
use Rattle.paper.specs.Bytes.{after_runs}
use Rattle.paper.specs.Bytes.{after_head, parse}
use Rattle.paper.specs.Wanted.{Wanted, wanted_of, duty_set, taken}
use Rattle.paper.specs.Builder.{plan_for, bad_slice, plan_at, plan, build}
use Rattle.paper.specs.declared.State.{State}
use Rattle.paper.specs.Answers.{state_at, is_state, question, start, row_told, advanced, counted}
use Rattle.paper.specs.Rotation.{link}
use Rattle.paper.specs.Walk.{loads}
use Rattle.paper.specs.Sa1.{slices}
use Rattle.table_laws.proofs.Accepted.{duties_same}
use Rattle.paper.specs.Rules.{fault, judged, reading_of, lowest, overlaps, joins, twice, bad_sum, bad_order, judge_runs, judge_duties}
use Rattle.paper.specs.Rules.{judge_table, accepted}
use Rattle.paper.specs.Text.{Lines, none, line, lines_of, engine_line_good, engines_read, duty_line_good, duty_read, duties_from}
use Rattle.paper.specs.Text.{input_of, input}
use Rattle.paper.specs.Statements.{Ranged}
use Rattle.paper.proofs.Outcomes.{answered, refused_one}
use Rattle.table_laws.proofs.Bytes.{length-encode}
use Rattle.paper.proofs.Passed.{From, head_told}
use Rattle.table_laws.proofs.Read.{parse_ranged}
use Rattle.plan_laws.proofs.TakenWhen.{Counts, WhenTaken, engines_out, lengths_differ, duties_out, period_out, service_out}
use Rattle.plan_laws.proofs.TakenWhen.{all_taken, taken_when, taken_told}
use Rattle.plan_laws.proofs.Planned.{length_duties, planned_ranged}

-- ---- refusals with listed numbers

-- a listed number, which fits a byte, and a place
pub record InList (P : ℕ → Type 0) (n p : ℕ) : Type 0 where
  pub listed : P n
  pub byte : n < 256
  pub place : p ≤ most_place

-- whatever is refused is refused so
abbrev pub Listed : {A : Type 0} → (ℕ → Type 0) → Outcome A → Type 0
Listed P o = (n p : ℕ) → o ≡ refused n p → InList P n p

module _ {A : Type 0} (P : ℕ → Type 0) where
  -- an answer is not refused
  listed_answer : (a : A) → Listed P (answer a)
  listed_answer a n p e = answered a n p e

  -- a refusal
  listed_refused : (n p : ℕ) → P n → n < 256 → p ≤ most_place → Listed {A = A} P (refused n p)
  listed_refused n p l b h k q e =
      let z = refused_one n p k q e in
      record { listed = rw (← z.0) l; byte = omega (arith, z.0); place = omega (arith, z.1) }

  -- one of two, by a test
  listed_pick : (b : Bool) (x y : Outcome A) → (b ≡ true → Listed P x) → (b ≡ false → Listed P y) → Listed P (pick b x y)
  listed_pick true x y f g = f refl
  listed_pick false x y f g = g refl

  -- a refusal without a place where a test fails
  listed_else : (b : Bool) (x : Outcome A) (n : ℕ) → P n → n < 256 → Listed P x → Listed P (pick b x (refused n 0))
  listed_else b x n l h r = listed_pick b x (refused n 0) (λ p. r) (λ p. listed_refused n 0 l h (omega arith))

  -- a fault at one of few places
  listed_fault : (number place count : ℕ) (rest : Outcome A) → P number → number < 256 → count ≤ most_place → Listed P rest
      → Listed P (fault number place count rest)
  listed_fault number place count rest l b c r =
      listed_pick (ltb place count) (refused number place) rest
      (λ h. listed_refused number place l b (omega (arith, ltb-true place count h)))
      (λ h. r)

-- one outcome after another
listed_then : {A B : Type 0} (P : ℕ → Type 0) (o : Outcome A) (f : A → Outcome B) → Listed P o → ((a : A) → o ≡ answer a → Listed P (f a))
    → Listed P (and_then o f)
listed_then P (refused k q) f l g n p e = let z = refused_one k q n p e in l n p (rw (z.0, z.1))
listed_then P (answer a) f l g n p e = g a refl n p e

-- more numbers
listed_more : {A : Type 0} {P Q : ℕ → Type 0} → ((n : ℕ) → P n → Q n) → (o : Outcome A) → Listed P o → Listed Q o
listed_more i o l n p e = let z = l n p e in record { listed = i n z.listed; byte = z.byte; place = z.place }

-- ---- the judge

-- at most 128 runs are read
runs_few : (b : List ℕ) (n : ℕ) → good_runs small b n ≤ 128
runs_few b n = first-le (λ k. not (run_good small b (run_place small n k))) 128

-- 10
parse_listed : (b : List ℕ) → Listed (From 10 17) (parse small b)
unfolding parse after_head after_runs
parse_listed b =
    let P = From 10 17 in
    let n = duties_in small b in
    let k = good_runs small b n in
    listed_pick P (not (head_good small b)) (refused 10 0) (after_head small b n) (λ h. form 0 (omega arith))
    (λ h. let few = (head_told small b (not-false (head_good small b) h)).duties.1 in
    listed_pick P (ltb (bad_duty small b n) n) _ _
    (λ l. form (duty_place small (bad_duty small b n)) (omega (arith, ltb-true (bad_duty small b n) n l, few)))
    (λ l. listed_pick P (not (end_good b (run_place small n k) k)) _ _
    (λ g. form (run_place small n k) (omega (arith, runs_few b n, few)))
    (λ g. listed_pick P (ltb (run_place small n k + end_length) (length b)) _ _
    (λ m. form (run_place small n k + end_length) (omega (arith, runs_few b n, few)))
    (λ m. listed_answer P (table_in small b n k)))))
  where
    form : (p : ℕ) → p ≤ most_place → Listed {A = Table} (From 10 17) (refused 10 p)
    form p h = listed_refused (From 10 17) 10 p (omega arith) (omega arith) h

-- 11 and 12
duties_listed : (t : Table) → Ranged small t → Listed (From 10 17) (judge_duties t)
unfolding judge_duties
duties_listed t r =
    let P = From 10 17 in
    listed_pick P (undivided t.ticks t.duties) _ _
    (λ h. listed_refused P 11 0 (omega arith) (omega arith) (omega arith))
    (λ h. listed_fault P 12 (bad_slice t.ticks t.duties) (length t.duties) _ (omega arith) (omega arith)
    (omega (arith, r.duties_most))
    (listed_answer P t))

-- 13 to 17
runs_listed : (t : Table) → Ranged small t → Listed (From 10 17) (judge_runs t)
unfolding judge_runs
runs_listed t r =
    let P = From 10 17 in
    let xs = length t.runs in
    let ds = length t.duties in
    let runs : xs ≤ most_place = omega (arith, r.runs_most) in
    let duties : ds ≤ most_place = omega (arith, r.duties_most) in
    (listed_fault P 13 (bad_order t) xs _ (omega arith) (omega arith) runs
    (listed_fault P 14 (lowest overlaps t.runs) xs _ (omega arith) (omega arith) runs
    (listed_fault P 15 (lowest joins t.runs) xs _ (omega arith) (omega arith) runs
    (listed_fault P 16 (lowest twice t.runs) xs _ (omega arith) (omega arith) runs
    (listed_fault P 17 (bad_sum t) ds _ (omega arith) (omega arith) duties
    (listed_answer P t))))))

judge_listed : (t : Table) → Ranged small t → Listed (From 10 17) (judge_table t)
unfolding judge_table
judge_listed t r =
    listed_then (From 10 17) (judge_duties t) judge_runs (duties_listed t r) (λ s e. rw (duties_same t s e) (runs_listed t r))

pub accepted_listed : (b : List ℕ) → Listed (From 10 17) (accepted b)
unfolding accepted
accepted_listed b = listed_then (From 10 17) (parse small b) judge_table (parse_listed b) (λ t e. judge_listed t (parse_ranged small b t e))

-- 10 to 17 for the judge
pub judged_listed : (b : List ℕ) → Listed (From 10 17) (judged b)
judged_listed b = listed_then (From 10 17) (accepted b) (λ t. answer (reading_of t)) (accepted_listed b)
    (λ t e. listed_answer (From 10 17) (reading_of t))

-- ---- the builder

-- 1 to 5 for what is wanted
pub taken_listed : (x : Wanted) → Listed (From 1 5) (taken x)
taken_listed x n p e = go ((taken_when x (refused n p)).0 e)
  where
    told : (k q : ℕ) → From 1 5 k → q ≤ most_place → ◌≡◌ {A = Outcome (List Duty)} (refused n p) (refused k q) → InList (From 1 5) n p
    told k q l h e = listed_refused {A = List Duty} (From 1 5) k q l (omega arith) h n p (sym e)

    low : (d : ℕ) → Counts x → d < length (duty_set x) → d ≤ most_place
    low d c h = omega (arith, c.duties, length_duties x.services x.periods)

    go : WhenTaken x (refused n p) → InList (From 1 5) n p
    go (engines_out q f) = told 1 0 (omega arith) (omega arith) q
    go (lengths_differ q a f) = told 2 0 (omega arith) (omega arith) q
    go (duties_out q a b f) = told 3 0 (omega arith) (omega arith) q
    go (period_out d q c l f) = told 4 d (omega arith) (low d c l.0) q
    go (service_out d q c l f) = told 5 d (omega arith) (low d c l.0) q
    go (all_taken q c) = answered (duty_set x) n p (sym q)

-- 1 to 7 and 24 for a plan
abbrev pub PlanNumber : ℕ → Type 0
PlanNumber n = From 1 7 n ⊎ (n ≡ 24)

-- 24, 6 and 7 where the duties are few
plan_for_listed : (t m : ℕ) (ds : List Duty) → length ds ≤ most_place → Listed PlanNumber (plan_for t m ds)
unfolding plan_at
plan_for_listed t m ds few =
    listed_pick PlanNumber (undivided t ds) _ _ (λ h. listed_refused PlanNumber 24 0 (inr refl) (omega arith) (omega arith))
    (λ h. listed_fault PlanNumber 6 (bad_slice t ds) (length ds) _ (inl (omega arith)) (omega arith) few
    (listed_pick PlanNumber (ltb (m * t) (sum_of (slices t ds))) _ _
    (λ k. listed_refused PlanNumber 7 0 (inl (omega arith)) (omega arith) (omega arith))
    (λ k. listed_answer PlanNumber _)))

pub plan_listed : (wish : ℕ) (x : Wanted) → Listed PlanNumber (plan wish x)
unfolding plan
plan_listed wish x =
    listed_then PlanNumber (taken x) _ (listed_more (λ n l. inl (omega arith)) (taken x) (taken_listed x))
    (λ ds e. let z = taken_told x ds e in
    plan_for_listed _ _ ds (omega (arith, ap length z.1, z.0.counts.duties, length_duties x.services x.periods)))

-- 8 besides for its bytes
abbrev pub BuildNumber : ℕ → Type 0
BuildNumber n = From 1 8 n ⊎ (n ≡ 24)

plan-build : (n : ℕ) → PlanNumber n → BuildNumber n
plan-build n (inl l) = inl (omega arith)
plan-build n (inr e) = inr e

pub build_listed : (wish : ℕ) (x : Wanted) (room : ℕ) → Listed BuildNumber (build wish x room)
build_listed wish x room =
    listed_then BuildNumber (plan wish x) _ (listed_more plan-build (plan wish x) (plan_listed wish x))
    (λ t e.
    let r = planned_ranged wish x t e in
    listed_pick BuildNumber (ltb room (length (encode small t))) _ _
    (λ h. listed_refused BuildNumber 8 (length (encode small t)) (inl (omega arith)) (omega arith)
    (omega (arith, length-encode small t, r.duties_most, r.runs_most)))
    (λ h. listed_answer BuildNumber (encode small t)))

-- ---- what is asked of a table

-- 10 to 17, then what the call adds
after_judge : {A : Type 0} (P : ℕ → Type 0) → ((n : ℕ) → From 10 17 n → P n) → (b : List ℕ) (f : Table → Outcome A)
    → ((t : Table) → Listed P (f t)) → Listed P (and_then (accepted b) f)
after_judge P i b f g = listed_then P (accepted b) f (listed_more i (accepted b) (accepted_listed b)) (λ t e. g t)

-- 10 to 18 for the question
pub question_listed : (b : List ℕ) (e : Engine) (k : ℕ) → Listed (From 10 18) (question b e k)
question_listed b e k =
    after_judge (From 10 18) (λ n l. omega arith) b _
    (λ t. listed_else (From 10 18) (ltb e.0 t.engines) _ 18 (omega arith) (omega arith) (listed_answer (From 10 18) _))

-- 10 to 17 for a dispatcher's start
pub start_listed : (b : List ℕ) (k : ℕ) → Listed (From 10 17) (start b k)
start_listed b k = after_judge (From 10 17) (λ n l. l) b _ (λ t. listed_answer (From 10 17) (state_at (link t) t.engines k))

-- 10 to 18 and 20 for an engine's row
pub row_listed : (b : List ℕ) (s : State) (e : Engine) → Listed (λ n. From 10 18 n ⊎ (n ≡ 20)) (row_told b s e)
row_listed b s e =
    let P : ℕ → Type 0 = λ n. From 10 18 n ⊎ (n ≡ 20) in
    after_judge P (λ n l. inl (omega arith)) b _ (λ t. listed_else P (ltb e.0 t.engines) _ 18 (inl (omega arith)) (omega arith)
    (listed_else P (is_state (link t) t.engines s) _ 20 (inr refl) (omega arith) (listed_answer P _)))

-- 10 to 17, 20 and 21 for the next state
pub next_listed : (b : List ℕ) (s : State) → Listed (λ n. From 10 17 n ⊎ From 20 21 n) (advanced b s)
next_listed b s =
    let P : ℕ → Type 0 = λ n. From 10 17 n ⊎ From 20 21 n in
    after_judge P (λ n l. inl l) b _ (λ t. listed_else P (is_state (link t) t.engines s) _ 20 (inr (omega arith)) (omega arith)
    (listed_pick P (eqb s.block last_block) _ _ (λ h. listed_refused P 21 0 (inr (omega arith)) (omega arith) (omega arith))
    (λ h. listed_answer P (state_at (link t) t.engines (s.block + 1)))))

-- 10 to 17 and 19 for the count
pub counted_listed : (b : List ℕ) (n : ℕ) → Listed (λ n. From 10 17 n ⊎ (n ≡ 19)) (counted b n)
counted_listed b k =
    let P : ℕ → Type 0 = λ n. From 10 17 n ⊎ (n ≡ 19) in
    after_judge P (λ n l. inl l) b _ (λ t.
    listed_pick P (ltb most_blocks k) _ _ (λ h. listed_refused P 19 0 (inr refl) (omega arith) (omega arith))
    (λ h. listed_answer P (loads t k)))

-- ---- the program's input

-- 9 for the duties' lines: line 66 is faulty, so none after it is looked at
lines_listed : (n : ℕ) (ls : Lines) → n ≤ 66 → Listed (λ k. k ≡ 9) (duties_from n ls)
unfolding duties_from
lines_listed n none h = listed_answer (λ k. k ≡ 9) []
lines_listed n (line c ended ls) h =
    let P : ℕ → Type 0 = λ k. k ≡ 9 in
    listed_pick P (ended && duty_line_good c && not (ltb (most_duties + 1) n)) _ _
    (λ g. listed_then P (duties_from (n + 1) ls) _ (lines_listed (n + 1) ls
    (omega (arith, ltb-false (most_duties + 1) n (not-true (ltb (most_duties + 1) n) (and_right (ended && duty_line_good c) _ g)))))
    (λ ds e. listed_answer P (duty_read c ∷ ds)))
    (λ g. listed_refused P 9 n refl (omega arith) (omega arith))

-- 9 for the input
pub input_listed : (b : List ℕ) → Listed (λ k. k ≡ 9) (input b)
unfolding input
input_listed b = listed_pick (λ k. k ≡ 9) (ltb most_input (length b)) _ _
    (λ h. listed_refused (λ k. k ≡ 9) 9 0 refl (omega arith) (omega arith)) (λ h. go (lines_of b))
  where
    go : (ls : Lines) → Listed (λ k. k ≡ 9) (input_of ls)
    go none = listed_refused (λ k. k ≡ 9) 9 1 refl (omega arith) (omega arith)
    go (line c ended ls) =
        let P : ℕ → Type 0 = λ k. k ≡ 9 in
        listed_pick P (ended && engine_line_good c) _ _
        (λ h. listed_then P (duties_from 2 ls) _ (lines_listed 2 ls (omega arith))
        (λ ds e. listed_answer P (wanted_of (engines_read c) ds)))
        (λ h. listed_refused P 9 1 refl (omega arith) (omega arith))
