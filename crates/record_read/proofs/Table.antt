-- The table in bytes of good form, by its parts: its counts are those of the reading, its duties and runs those that stand in the bytes.
-- Assumes nothing.
use Prim.Native.Nat.{ℕ, ◌<◌}
use mathlib.Core.Path.{◌≡◌, refl, sym, ap, ◌∙◌}
use mathlib.Core.List.{List}
use native.Mathlib.Omega.{arith}
use lib.ListN.{length}
use Rattle.laws.specs.Lists.{tab}
use Rattle.laws.proofs.Lists.{length-tab, get_or-tab}
use Rattle.paper.specs.declared.Reading.{Reading}
use Rattle.paper.specs.Duties.{duty, duty_at}
use Rattle.paper.specs.Words.{Table, run, run_at}
use Rattle.paper.specs.Limits.{small}
use Rattle.paper.specs.Bytes.{ticks_in, engines_in, duty_place, run_place, duty_in, run_in, table_in}
use Rattle.paper.specs.Rules.{reading_of}
use Rattle.paper.specs.Statements.{Ranged}
use Rattle.record_read.specs.Formed.{Formed, table_of}

-- the table with n duties and k runs in the bytes, by its parts
abbrev by_parts : List ℕ → ℕ → ℕ → Table
by_parts b n k =
    record {
      ticks = ticks_in b;
      engines = engines_in b;
      duties = tab n (λ d. duty_in b (duty_place small d));
      runs = tab k (λ j. run_in small b (run_place small n j));
    }

parts : (b : List ℕ) (n k : ℕ) → table_in small b n k ≡ by_parts b n k
unfolding table_in
parts b n k = refl

pub table_runs : (b : List ℕ) (rd : Reading) → length (table_of b rd).runs ≡ rd.runs
table_runs b rd = ap (λ x. length x.runs) (parts b rd.duties rd.runs) ∙ length-tab rd.runs _

-- where the table in the bytes is t: its reading is the one told, and a duty or a run of it is what stands in the bytes at its place
module _ {b : List ℕ} {rd : Reading} {t : Table} (F : Formed b rd) (seen : table_of b rd ≡ t) where
  is : t ≡ by_parts b rd.duties rd.runs
  is = sym seen ∙ parts b rd.duties rd.runs

  pub duties_seen : length t.duties ≡ rd.duties
  duties_seen = ap (λ x. length x.duties) is ∙ length-tab rd.duties _

  pub runs_seen : length t.runs ≡ rd.runs
  runs_seen = ap (λ x. length x.runs) is ∙ length-tab rd.runs _

  pub seen_reading : rd ≡ reading_of t
  seen_reading = rw (duties_seen, runs_seen, is, ← F.ticks, ← F.engines) refl

  pub seen_ranged : Ranged small t
  seen_ranged = rw seen at F.ranged

  pub seen_duty : (d : ℕ) → d < length t.duties → duty_in b (duty_place small d) ≡ duty_at t.duties d
  seen_duty d h = sym (ap (λ x. duty_at x.duties d) is ∙ get_or-tab rd.duties _ (duty 0 0) d (omega (arith, h, duties_seen)))

  pub seen_run : (k : ℕ) → k < length t.runs → run_in small b (run_place small rd.duties k) ≡ run_at t.runs k
  seen_run k h = sym (ap (λ x. run_at x.runs k) is ∙ get_or-tab rd.runs _ (run 0 0 0 0) k (omega (arith, h, runs_seen)))
