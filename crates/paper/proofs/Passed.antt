-- What the tests of a table's records say, each taken apart into the statements that it is made of.
-- Assumes nothing.
use Prim.Native.Nat.{ℕ, ◌+◌, ◌≤◌, ◌<◌}
use mathlib.Core.Path.{◌≡◌}
use mathlib.Core.Bool.{true, ◌&&◌}
use mathlib.Core.List.{List}
use lib.Dec.{leb, ltb, eqb}
use lib.ListN.{length, get_or}
use borrow.Author.Tests.{le-leb, leb-true, ltb-true, eqb-true}
use Rattle.laws.specs.Digits.{num_at}
use Rattle.laws.proofs.Cases.{and_left, and_right, and_both}
use Rattle.laws.proofs.Decides.{Decides}
use Rattle.paper.specs.declared.Duty.{Duty}
use Rattle.paper.specs.Duties.{duty_at}
use Rattle.paper.specs.Words.{stop}
use Rattle.paper.specs.Limits.{Width, most_ticks, head_length, duty_length, run_length, end_length}
use Rattle.paper.specs.Bytes.{within, stands, ticks_in, engines_in, duties_in, duty_in, duty_ranged, run_in, head_good, duty_good, run_good}
use Rattle.paper.specs.Bytes.{end_good}
use Rattle.paper.specs.Statements.{DutyRanged, RunRanged}

-- the number is from low to high
abbrev pub From : (low high v : ℕ) → Type 0
From low high v = (low ≤ v) × (v ≤ high)

-- a number passes exactly where it is
pub within-told : (low high v : ℕ) → within low high v ≡ true → From low high v
within-told low high v h =
    (leb-true low v (and_left (leb low v) (leb v high) h), leb-true v high (and_right (leb low v) (leb v high) h))

pub within_decides : (low high v : ℕ) → Decides (within low high v) (From low high v)
within_decides low high v = (within-told low high v, (λ r. and_both (leb low v) (leb v high) (le-leb low v r.0) (le-leb v high r.1)))

-- a record of its kind, not cut short
pub record Standing (b : List ℕ) (at kind size : ℕ) : Type 0 where
  pub room : at + size ≤ length b
  pub kind_is : get_or b at 0 ≡ kind

-- a place that passed
pub standing : (b : List ℕ) (at kind size : ℕ) → stands b at kind size ≡ true → Standing b at kind size
unfolding stands
standing b at kind size h =
    record {
      room = leb-true (at + size) (length b) (and_left (leb (at + size) (length b)) (eqb (get_or b at 0) kind) h);
      kind_is = eqb-true (get_or b at 0) kind (and_right (leb (at + size) (length b)) (eqb (get_or b at 0) kind) h);
    }

-- the head's numbers are in range
pub record HeadTold (w : Width) (b : List ℕ) : Type 0 where
  pub here : Standing b 0 w.head_kind (head_length w)
  pub ticks : From 1 most_ticks (ticks_in b)
  pub engines : From 1 w.most_engines (engines_in b)
  pub duties : From 1 w.most_duties (duties_in w b)

-- a head that passed
pub head_told : (w : Width) (b : List ℕ) → head_good w b ≡ true → HeadTold w b
head_told w b h =
    let s = stands b 0 w.head_kind (head_length w) in
    let x = within 1 most_ticks (ticks_in b) in
    let y = within 1 w.most_engines (engines_in b) in
    let z = within 1 w.most_duties (duties_in w b) in
    let sxy = and_left (s && x && y) z h in
    let sx = and_left (s && x) y sxy in
    record {
      here = standing b 0 w.head_kind (head_length w) (and_left s x sx);
      ticks = within-told 1 most_ticks (ticks_in b) (and_right s x sx);
      engines = within-told 1 w.most_engines (engines_in b) (and_right (s && x) y sxy);
      duties = within-told 1 w.most_duties (duties_in w b) (and_right (s && x && y) z h);
    }

-- a duty passes exactly where it is in range
pub duty_ranged_lem : (x : Duty) → duty_ranged x ≡ true → DutyRanged x
duty_ranged_lem x h =
    let p = within 1 most_ticks x.period in
    let c = within 1 x.period x.service in
    let period = within-told 1 most_ticks x.period (and_left p c h) in
    let service = within-told 1 x.period x.service (and_right p c h) in
    record { period_least = period.0; period_most = period.1; service_least = service.0; service_most = service.1 }

pub duty_decides : (x : Duty) → Decides (duty_ranged x) (DutyRanged x)
duty_decides x = (
  duty_ranged_lem x,
  (λ r. and_both _ _ ((within_decides 1 most_ticks x.period).1 (r.period_least, r.period_most))
      ((within_decides 1 x.period x.service).1 (r.service_least, r.service_most))),
)

-- what 4 and 5 ask of duty i, and of all duties
abbrev pub InRange : List Duty → ℕ → Type 0
InRange ds i = DutyRanged (duty_at ds i)

abbrev pub Ranges : List Duty → Type 0
Ranges ds = (i : ℕ) → i < length ds → InRange ds i

-- a duty's record that passed
pub duty-told : (b : List ℕ) (at : ℕ) → duty_good b at ≡ true → Standing b at 2 duty_length × DutyRanged (duty_in b at)
duty-told b at h =
    let s = stands b at 2 duty_length in
    let r = duty_ranged (duty_in b at) in
    (standing b at 2 duty_length (and_left s r h), duty_ranged_lem (duty_in b at) (and_right s r h))

-- a run's record that passed
pub run-told : (w : Width) (b : List ℕ) (at : ℕ) → run_good w b at ≡ true
    → Standing b at w.run_kind (run_length w) × RunRanged (ticks_in b) (engines_in b) (duties_in w b) (run_in w b at)
run-told w b at h =
    let s = stands b at w.run_kind (run_length w) in
    let x = run_in w b at in
    let i = ltb x.row.0 (engines_in b) in
    let j = ltb x.duty (duties_in w b) in
    let k = leb 1 x.length in
    let l = leb (stop x) (ticks_in b) in
    let ijkl = and_right s (i && j && k && l) h in
    let ijk = and_left (i && j && k) l ijkl in
    let ij = and_left (i && j) k ijk in (
      standing b at w.run_kind (run_length w) (and_left s (i && j && k && l) h),
      record {
        row_below = ltb-true x.row.0 (engines_in b) (and_left i j ij);
        duty_below = ltb-true x.duty (duties_in w b) (and_right i j ij);
        some_units = leb-true 1 x.length (and_right (i && j) k ijk);
        inside = leb-true (stop x) (ticks_in b) (and_right (i && j && k) l ijkl);
      },
    )

-- an end record that passed
pub end_told : (b : List ℕ) (at n : ℕ) → end_good b at n ≡ true → Standing b at 4 end_length × (num_at 2 b (at + 1) ≡ n)
end_told b at n h =
    let s = stands b at 4 end_length in
    let e = eqb (num_at 2 b (at + 1)) n in
    (standing b at 4 end_length (and_left s e h), eqb-true (num_at 2 b (at + 1)) n (and_right s e h))
