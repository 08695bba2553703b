-- What is stated of the sets of shares holds: the steps are computed, block by block.
-- Assumes nothing.
use Prim.Native.Nat.{ℕ, ◌*◌, ◌-◌, ◌≤◌, ◌<◌}
use mathlib.Core.Path.{◌≡◌, refl}
use mathlib.Core.List.{◌++◌}
use mathlib.Core.Logic.{◌⊎◌, inl}
use native.Mathlib.Omega.{arith}
use lib.ListN.{length}
use Rattle.laws.specs.Search.{first}
use Rattle.laws.specs.Sum.{sum_to}
use Rattle.laws.specs.Divisor.{gcd, gcd_of, euclid, lcm, lcm_of}
use Rattle.laws.specs.Lists.{tab, sum_of}
use Rattle.laws.proofs.Cases.{not_both}
use Rattle.laws.proofs.Search.{Clear}
use Rattle.laws.proofs.Each.{Each, each_append, each_at}
use Rattle.paper.specs.declared.Duty.{Duty}
use Rattle.paper.specs.Duties.{duty, same}
use Rattle.paper.specs.Words.{held_in, covers, block_length_of}
use Rattle.paper.specs.Sa1.{lay, lay_one, row_after, unit_after}
use Rattle.paper.specs.Schedule.{load, loads_in}
use Rattle.paper.specs.Outcome.{refused, answer}
use Rattle.paper.specs.Wanted.{duties_of, in_range, taken}
use Rattle.paper.specs.Sa2.{Sharing, free, wants, wanting_to, chosen, raised_units, next_need, needs_at, allotments, laid_out}
use Rattle.paper.specs.Shares.{common, blocks, share_schedule, share_loads, overloaded, off_range, too_full, job_units, off_service}
use Rattle.paper.specs.Shares.{block_fails}
use Rattle.paper.specs.Shares.{failing, sharable, share_plan}
use Rattle.paper.specs.ShareCases.{SaysShares, HoldsShares, Condition33, Condition34, sharing_in, wanted_in, table3_needs}
use Rattle.paper.specs.ShareCases.{table3_units, table3_ticks, table3, p5_shared, smallest23, against33, fullest23, too_long}
use Rattle.paper.specs.ShareCases.{too_much, too_short, share_cases, share_case_at}

-- ---- which of them are given, and which refused

given-told : (share_plan (wanted_in table3) 36 ≡ answer (sharing_in table3))
    × (share_plan (wanted_in p5_shared) 12 ≡ answer (sharing_in p5_shared))
unfolding taken in_range duties_of block_length_of gcd_of gcd euclid lcm_of lcm common blocks sharable overloaded failing block_fails
    off_range
    too_full job_units off_service first sum_of free wants wanting_to chosen raised_units next_need needs_at allotments tab sum_to
given-told = (refl, refl)

refused_told :
    (share_plan (wanted_in smallest23) 18 ≡ refused 23 2) × (share_plan (wanted_in against33) 18 ≡ refused 23 2)
    × (share_plan (wanted_in fullest23) 48 ≡ refused 23 11) × (share_plan (wanted_in too_long) 0 ≡ refused 22 0)
    × (share_plan (wanted_in too_much) 0 ≡ refused 7 0) × (share_plan (wanted_in too_short) 17 ≡ refused 8 18)
unfolding taken in_range duties_of block_length_of gcd_of gcd euclid lcm_of lcm common blocks sharable overloaded failing block_fails
    off_range
    too_full job_units off_service first sum_of free wants wanting_to chosen raised_units next_need needs_at allotments tab sum_to
refused_told = (refl, refl, refl, refl, refl, refl)

-- ---- 004's conditions

-- theorem 3.3's, of one duty
abbrev Low : ℕ → Duty → Type 0
Low t x = (t * x.service ≤ (t - 1) * x.period) ⊎ (x.service ≡ x.period)

met_33 : Condition33 (sharing_in table3) × Condition33 (sharing_in against33)
unfolding overloaded block_length_of gcd_of gcd euclid lcm_of lcm common sum_to
met_33 = (
  (
    refl,
    each_at (Low 10) (duty 0 0) table3.duties
        (inl (omega arith), (inl (omega arith), (inl (omega arith), (inl (omega arith), (inl (omega arith), (inl (omega arith), tt)))))),
  ),
  (refl, each_at (Low 3) (duty 0 0) against33.duties (inl (omega arith), (inl (omega arith), (inl (omega arith), tt)))),
)

met_34 : Condition34 (sharing_in smallest23) × Condition34 (sharing_in against33)
unfolding overloaded block_length_of gcd_of gcd euclid lcm_of lcm common sum_to
met_34 = ((refl, omega arith), (refl, omega arith))

-- ---- all that is stated

-- table 3's needs, units and ticks
figures_table3 : Each (SaysShares table3) table3_needs × Each (SaysShares table3) table3_units
unfolding free wants wanting_to chosen raised_units next_need needs_at allotments tab sum_to block_length_of gcd_of gcd euclid
figures_table3 = ((refl, (refl, (refl, (refl, (refl, (refl, tt)))))), (refl, (refl, (refl, (refl, (refl, (refl, tt)))))))

ticks_table3 : Each (SaysShares table3) table3_ticks
unfolding share_schedule laid_out lay lay_one row_after unit_after held_in covers free wants wanting_to chosen raised_units next_need
    needs_at
    allotments tab sum_to blocks lcm_of lcm common block_length_of gcd_of gcd euclid
ticks_table3 = (refl, (refl, (refl, (refl, (refl, tt)))))

hold_table3 : HoldsShares table3
unfolding blocks lcm_of lcm common block_length_of gcd_of gcd euclid
hold_table3 =
    let says = SaysShares table3 in
    let figures = each_append says table3_needs table3_units figures_table3.0 figures_table3.1 in
    ((given-told.0, refl, refl), (met_33.0, each_append says (table3_needs ++ table3_units) table3_ticks figures ticks_table3))

hold_p5 : HoldsShares p5_shared
unfolding share_loads loads_in load same free wants wanting_to chosen raised_units next_need needs_at allotments tab sum_to share_schedule
    laid_out
    lay lay_one row_after unit_after held_in covers blocks lcm_of lcm common block_length_of gcd_of gcd euclid
hold_p5 = ((given-told.1, refl, refl), (refl, (refl, (refl, (refl, (refl, (refl, (refl, (refl, (refl, (refl, tt)))))))))))

hold_23 : HoldsShares smallest23 × HoldsShares against33 × HoldsShares fullest23
unfolding free wants wanting_to chosen raised_units next_need needs_at allotments tab sum_to too_full sum_of block_length_of gcd_of gcd
    euclid
hold_23 = (
  (refused_told.0, (met_34.0, (refl, (refl, (refl, tt))))),
  (refused_told.1, (met_33.1, (met_34.1, (refl, (refl, (refl, tt)))))),
  (refused_told.2, (refl, (refl, (refl, tt)))),
)

share_cases_each : Each HoldsShares share_cases
share_cases_each = (
  hold_table3,
  (
    hold_p5,
    (
      hold_23.0,
      (
        hold_23.1,
        (
          hold_23.2,
          ((refused_told.3, tt), ((refused_told.4, tt), ((refused_told.5, tt), tt))),
        ),
      ),
    ),
  ),
)

-- what is stated of the sets holds
pub share_cases_hold : (i : ℕ) → i < length share_cases → HoldsShares (share_case_at i)
share_cases_hold = each_at HoldsShares table3 share_cases share_cases_each

-- ---- 004's theorems put right

-- a set may meet theorem 3.3's condition, or 3.4's, and come to a block that fails: as they are printed, neither holds
pub not_33 : ((s : Sharing) → Condition33 s → Clear (block_fails s) (blocks s)) → ⊥
unfolding block_fails off_range too_full job_units off_service first sum_of blocks block_length_of gcd_of gcd euclid lcm_of lcm common
    free wants
    wanting_to chosen raised_units next_need needs_at allotments tab sum_to
not_33 h = not_both refl (h (sharing_in against33) met_33.1 2 (omega arith))

pub not_34 : ((s : Sharing) → Condition34 s → Clear (block_fails s) (blocks s)) → ⊥
unfolding block_fails off_range too_full job_units off_service first sum_of blocks block_length_of gcd_of gcd euclid lcm_of lcm common
    free wants
    wanting_to chosen raised_units next_need needs_at allotments tab sum_to
not_34 h = not_both refl (h (sharing_in smallest23) met_34.0 2 (omega arith))
