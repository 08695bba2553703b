-- Overload means impossible (document 02, request 7), as theorems on the definitions, each a few lines. "Chip planning buys engines by
-- refusal 7. Show that, when the builder gives 7, these duties have no schedule on that many engines .. Say the converse too: where none of
-- 1 to 7 and not 24 applies, one exists, and it is ours." What a schedule is that meets duties, and when they are possible at all, is
-- `paper/specs/Capacity.antt`, which knows of no blocks, rows or slices.
-- Assumes nothing.
use Prim.Native.Nat.{ℕ, suc, ◌+◌, ◌*◌, ◌≤◌, ◌<◌, ◌∣◌}
use mathlib.Core.Path.{◌≡◌}
use mathlib.Core.List.{List, [], ◌∷◌}
use mathlib.Core.Logic.{◌↔◌, ◌⊎◌, inl, inr}
use native.Mathlib.Omega.{arith}
use borrow.Author.Tests.{le-ltb}
use lib.ListN.{length}
use Rattle.paper.specs.declared.Duty.{Duty}
use Rattle.paper.specs.declared.Engine.{Engine}
use Rattle.std.specs.Prelude.{Some}
use Rattle.paper.specs.Duties.{Held, engine, duty, duty_at, asked_in}
use Rattle.paper.specs.Words.{Table}
use Rattle.paper.specs.Walk.{walk}
use Rattle.paper.specs.Schedule.{Schedule, given}
use Rattle.paper.specs.Capacity.{MeetsDuties, Possible, FewestEngines}
use Rattle.paper.specs.Limits.{small, most_engines}
use Rattle.paper.specs.Outcome.{refused, answer}
use Rattle.paper.specs.Bytes.{bytes_of}
use Rattle.paper.specs.Wanted.{Wanted, wanted, duties_of, duty_set}
use Rattle.paper.specs.Builder.{plan, build}
use Rattle.paper.specs.Rules.{accepted}
use Rattle.paper.specs.Sa2.{Sharing}
use Rattle.paper.specs.Shares.{share_schedule, share_plan, share_question}
use Rattle.paper.proofs.Passed.{From}
use Rattle.paper.proofs.Capacity.{once_when, meets_most}
use Rattle.table_laws.proofs.AcceptedBytes.{accepted_ranged, accepted_meets}
use Rattle.walk_laws.proofs.Page.{walk_meets}
use Rattle.plan_laws.proofs.Listed.{PlanNumber, plan_listed}
use Rattle.plan_laws.proofs.Overload.{build-overloaded, plan_impossible, WholeSlices, LeastWithout7}
use Rattle.share_laws.proofs.Overload.{shares_impossible, question_impossible, shares_meet, question_meets}
use Rattle.share_laws.proofs.Blocks.{sharing_of}
use Rattle.demands.proofs.Demands.{settled}
use Rattle.demands.proofs.EnginesNeeded.{more_possible, walk_of_plan, enough_possible, least_fewest, fewest_least}
use Rattle.demands.proofs.YetPossible.{refused_24, refused_6, refused_22, refused_23}

-- ---- the definition, read once more

-- "a duty at most one engine" is a count there; it says that two engines which have the duty in one tick are one
pub one_engine_says :
    (m : ℕ) (s : Schedule) (i k : ℕ)
    → (given m s i k ≤ 1) ↔ ((e d : ℕ) → e < m → d < m → s (engine e) k ≡ Some i → s (engine d) k ≡ Some i → e ≡ d)
one_engine_says = once_when

-- what is possible on m engines is possible on more
pub more_engines_possible : (m more : ℕ) (ds : List Duty) → Possible m ds → Possible (m + more) ds
more_engines_possible = more_possible

-- ---- 7 is a proof of overload

-- the builder gives 7, whatever length was wanted and whatever room there is: on so many engines, or on fewer, no schedule meets the duties
pub overloaded_impossible :
    (wish : ℕ) (x : Wanted) (room p : ℕ) → build wish x room ≡ refused 7 p → (k : ℕ) → k ≤ x.engines → Possible k (duty_set x) → ⊥
overloaded_impossible wish x room p h = plan_impossible wish x p (build-overloaded wish x room p h)

-- the builder of shares gives 7, or its question does
pub shares_overloaded_impossible :
    (x : Wanted) (room p : ℕ) → share_plan x room ≡ refused 7 p → (k : ℕ) → k ≤ x.engines → Possible k (duty_set x) → ⊥
shares_overloaded_impossible x room p h k few y = shares_impossible x k few y room p h

pub question-overloaded_impossible :
    (x : Wanted) (e : Engine) (j p : ℕ) → share_question x e j ≡ refused 7 p → (k : ℕ) → k ≤ x.engines → Possible k (duty_set x) → ⊥
question-overloaded_impossible x e j p h k few y = question_impossible x k few y e j p h

-- ---- else there is a schedule, and it is ours

-- the walk of the plan, which gives each job exactly its service (`jobs_served`)
pub plan_meets : (wish : ℕ) (x : Wanted) (t : Table) → plan wish x ≡ answer t → MeetsDuties x.engines (duty_set x) (walk t)
plan_meets = walk_of_plan

-- none of 1 to 7 and not 24: there is a plan, the builder writes it where there is room, and its walk meets the duties
pub record Ours (wish : ℕ) (x : Wanted) : Type 0 where
  pub table : Table
  pub is_plan : plan wish x ≡ answer table
  pub is_written : (room : ℕ) → length (bytes_of table) ≤ room → build wish x room ≡ answer (bytes_of table)
  pub meets : MeetsDuties x.engines (duty_set x) (walk table)

pub else_ours : (wish : ℕ) (x : Wanted) → ((n p : ℕ) → PlanNumber n → plan wish x ≡ refused n p → ⊥) → Ours wish x
else_ours wish x none = go (settled (plan wish x))
  where
    go : ((t : Table) × (plan wish x ≡ answer t)) ⊎ ((n : ℕ) × (p : ℕ) × (plan wish x ≡ refused n p)) → Ours wish x
    go (inl (t, h)) = record {
      table = t;
      is_plan = h;
      is_written = λ room l. rw (h, le-ltb room (length (bytes_of t)) l);
      meets = plan_meets wish x t h;
    }
    go (inr (n, p, h)) = absurd (none n p (plan_listed wish x n p h).listed h)

-- every table that is accepted, whoever wrote it, shows that its duties are possible on its engines
pub accepted_meets_duties : (b : List ℕ) (t : Table) → accepted b ≡ answer t → MeetsDuties t.engines t.duties (walk t)
accepted_meets_duties b t h = walk_meets small t (accepted_ranged b t h) (accepted_meets b t h)

-- the schedule of a plan of shares, and of one that is asked
pub shares_plan_meets :
    (x : Wanted) (room : ℕ) (s : Sharing) → share_plan x room ≡ answer s → MeetsDuties x.engines (duty_set x) (share_schedule s)
shares_plan_meets = shares_meet

pub shares_question_meets :
    (x : Wanted) (e : Engine) (k : ℕ) (a : Held) → share_question x e k ≡ answer a
    → MeetsDuties x.engines (duty_set x) (share_schedule (sharing_of x))
shares_question_meets = question_meets

-- ---- one engine fewer

-- either builder gives 7 for these lists on m engines, or has a plan
pub data Gets7 (m : ℕ) (ss ps : List ℕ) : Type 0 where
  7-of-tables : (wish room p : ℕ) → build wish (wanted m ss ps) room ≡ refused 7 p → Gets7 m ss ps
  7-of-shares : (room p : ℕ) → share_plan (wanted m ss ps) room ≡ refused 7 p → Gets7 m ss ps

pub data GetsPlan (m : ℕ) (ss ps : List ℕ) : Type 0 where
  plan_of_tables : (wish : ℕ) (t : Table) → plan wish (wanted m ss ps) ≡ answer t → GetsPlan m ss ps
  plan_of_shares : (room : ℕ) (s : Sharing) → share_plan (wanted m ss ps) room ≡ answer s → GetsPlan m ss ps

-- with 7 there is no schedule on m engines or on fewer, with a plan there is one
pub none_with_7 : (m : ℕ) (ss ps : List ℕ) → Gets7 m ss ps → (k : ℕ) → k ≤ m → Possible k (duties_of ss ps) → ⊥
none_with_7 m ss ps (7-of-tables wish room p h) = overloaded_impossible wish (wanted m ss ps) room p h
none_with_7 m ss ps (7-of-shares room p h) = shares_overloaded_impossible (wanted m ss ps) room p h

pub one_with_plan : (m : ℕ) (ss ps : List ℕ) → GetsPlan m ss ps → Possible m (duties_of ss ps)
one_with_plan m ss ps (plan_of_tables wish t h) = record { schedule = walk t; meets = plan_meets wish (wanted m ss ps) t h }
one_with_plan m ss ps (plan_of_shares room s h) = record { schedule = share_schedule s; meets = shares_meet (wanted m ss ps) room s h }

-- 7 on m engines and a plan on one more: those are the fewest engines on which any schedule exists
pub one_engine_fewer : (m : ℕ) (ss ps : List ℕ) → Gets7 m ss ps → GetsPlan (suc m) ss ps → FewestEngines (suc m) (duties_of ss ps)
one_engine_fewer m ss ps o p =
    record { possible = one_with_plan (suc m) ss ps p; none_below = λ k l. none_with_7 m ss ps o k (omega arith) }

-- for any duties, below the least number that the builder of shares does not refuse with 7 there is no schedule
pub none_below_least :
    (m : ℕ) (ss ps : List ℕ) (room : ℕ) → ((k : ℕ) → 1 ≤ k → k < m → share_plan (wanted k ss ps) room ≡ refused 7 0)
    → (k : ℕ) → 1 ≤ k → k < m → Possible k (duties_of ss ps) → ⊥
none_below_least m ss ps room below k a b = shares_overloaded_impossible (wanted k ss ps) room 0 (below k a b) k (omega arith)

-- for duties whose slices are whole, the least number of engines, of 1 to 32, that the builder does not refuse with 7 is the fewest on
-- which any schedule exists, and the other way round
pub least_is_fewest :
    (wish : ℕ) (ss ps : List ℕ) → WholeSlices wish ss ps → (m : ℕ)
    → LeastWithout7 wish ss ps m ↔ (FewestEngines m (duties_of ss ps) × (m ≤ most_engines))
least_is_fewest wish ss ps s m = (least_fewest wish ss ps s m, fewest_least wish ss ps s m)

-- ---- by hand

-- h is any number above 0 that every period divides. In h ticks a duty asks for C·(h/D), and m engines have m·h; that all duties ask for no
-- more is to say that the C/D add up to m at most. Where they add up to more, no schedule meets the duties, whatever is refused ..
pub sum_above_impossible :
    (m : ℕ) (ds : List Duty) (h : ℕ) → ((i : ℕ) → i < length ds → (duty_at ds i).period ∣ h)
    → m * h < asked_in h ds → Possible m ds → ⊥
sum_above_impossible m ds h d l y = omega (arith, meets_most m ds y.schedule y.meets h d)

-- .. and where the slices are whole and they do not, on 1 to 32 engines, one does
pub sum_within_possible :
    (wish : ℕ) (ss ps : List ℕ) → WholeSlices wish ss ps → (m : ℕ) → From 1 most_engines m → (h : ℕ) → 0 < h
    → ((i : ℕ) → i < length (duties_of ss ps) → (duty_at (duties_of ss ps) i).period ∣ h)
    → asked_in h (duties_of ss ps) ≤ m * h → Possible m (duties_of ss ps)
sum_within_possible wish ss ps s m few h some d = enough_possible wish ss ps s m h some d few

-- ---- what is no proof of overload

-- 24, 6, 22 and 23: for each a set that is refused so, on engines on which it has a schedule
pub no_proof_of_overload :
    ((plan 3 (wanted 1 (1 ∷ []) (2 ∷ [])) ≡ refused 24 0) × Possible 1 (duty 1 2 ∷ []))
    × ((plan 0 (wanted 1 (1 ∷ 1 ∷ []) (2 ∷ 3 ∷ [])) ≡ refused 6 0) × Possible 1 (duty 1 2 ∷ duty 1 3 ∷ []))
    × ((share_plan (wanted 2 (1 ∷ 1 ∷ []) (1 ∷ 4097 ∷ [])) 0 ≡ refused 22 0) × Possible 2 (duty 1 1 ∷ duty 1 4097 ∷ []))
    × ((share_plan (wanted 1 (1 ∷ 1 ∷ 1 ∷ []) (2 ∷ 6 ∷ 3 ∷ [])) 18 ≡ refused 23 2) × Possible 1 (duty 1 2 ∷ duty 1 6 ∷ duty 1 3 ∷ []))
no_proof_of_overload = (refused_24, refused_6, refused_22, refused_23)
