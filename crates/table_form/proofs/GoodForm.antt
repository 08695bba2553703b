-- What the tests of a table's bytes come to, one after another: each that fails is the reader's fault, and where none fails the bytes are
-- in good form. `l` is the bytes once more, as the value that has a good head is seen.
-- Assumes nothing.
use Prim.Native.Nat.{ℕ, ◌+◌, ◌≤◌, ◌<◌}
use mathlib.Core.Path.{◌≡◌, refl, sym, ap, ◌∙◌}
use mathlib.Core.Bool.{true, false, not}
use mathlib.Core.List.{List}
use native.Mathlib.Omega.{arith}
use lib.ListN.{length}
use borrow.Author.Tests.{lt-ltb, le-ltb}
use Rattle.paper.specs.declared.Reading.{Reading}
use Rattle.paper.specs.Limits.{small, end_length}
use Rattle.paper.specs.Outcome.{refused, answer}
use Rattle.paper.specs.Bytes.{ticks_in, engines_in, duties_in, head_good, end_good, bad_duty, good_runs, duty_place, run_place, after_runs}
use Rattle.paper.specs.Bytes.{table_in, read_table}
use Rattle.table_laws.proofs.Forms.{head_bad, head_good_lem, duty_bad, duties_good, end_bad, more_bytes, all_good}
use Rattle.table_laws.proofs.Read.{InForm, parsed, parse_ranged}
use Rattle.record_read.specs.Formed.{Formed}

-- bytes that read as the table in them are in good form
in_form : (b : List ℕ) (rd : Reading) → rd.block_length ≡ ticks_in b → rd.engines ≡ engines_in b → rd.duties ≡ duties_in small b
    → rd.runs ≡ good_runs small b (duties_in small b)
    → read_table b ≡ answer (table_in small b (duties_in small b) (good_runs small b (duties_in small b))) → Formed b rd
in_form b rd t m d k p =
    let F : InForm small b (duties_in small b) (good_runs small b (duties_in small b)) = (parsed small b _ p).0 in
    record {
      ticks = t;
      engines = m;
      parsed = rw (d, k) p;
      ranged = rw (d, k) (parse_ranged small b _ p);
      long = rw (d, k) (omega (arith, F.last.0.room, F.no_more));
    }

-- where a head that is no good is met
pub head_fault : (b : List ℕ) → head_good small b ≡ false → refused 10 0 ≡ read_table b
head_fault b h = sym (head_bad small b (ap not h))

module _ {b l : List ℕ} (head : (l ≡ b) × (head_good small b ≡ true)) where
  -- a duty record that is no good
  pub duty_fault : {n d : ℕ} → n ≡ duties_in small l → d ≡ bad_duty small l (duties_in small l) → d < n
      → refused 10 (duty_place small d) ≡ read_table b
  duty_fault {n} {d} e f h =
      let found : d ≡ bad_duty small b (duties_in small b) = rw head.0 at f in
      let before : bad_duty small b (duties_in small b) < duties_in small b = omega (arith, found, rw head.0 at e) in
      rw (head_good_lem small b (ap not head.1), duty_bad small b _ (lt-ltb _ _ before)) (ap (λ i. refused 10 (duty_place small i)) found)

  module _ {n d k : ℕ} (count : n ≡ duties_in small l) (found : d ≡ bad_duty small l (duties_in small l)) (none : n ≤ d)
      (runs : k ≡ good_runs small l (duties_in small l)) where
    -- what is read where every duty record is good
    ended : read_table b ≡ after_runs small b (duties_in small b) k
    ended =
        let past : duties_in small b ≤ bad_duty small b (duties_in small b) =
        omega (arith, none, rw head.0 at found, rw head.0 at count) in
        head_good_lem small b (ap not head.1) ∙ duties_good small b _ (le-ltb _ _ past) ∙ rw (rw head.0 at runs) refl

    -- an end record that is no good
    pub end_fault : end_good l (run_place small (duties_in small l) k) k ≡ false
        → refused 10 (run_place small (duties_in small l) k) ≡ read_table b
    end_fault h = rw ended (sym (rw head.0 (end_bad small b _ k (ap not (rw head.0 at h)))))

    module _ (last : end_good l (run_place small (duties_in small l) k) k ≡ true) where
      -- bytes after it
      pub length_fault : run_place small (duties_in small l) k + end_length < length b
          → refused 10 (run_place small (duties_in small l) k + end_length) ≡ read_table b
      length_fault h = rw ended (sym (rw head.0 (more_bytes small b _ k (ap not (rw head.0 at last)) (lt-ltb _ _ (rw head.0 at h)))))

      -- none
      pub all_told : length b ≤ run_place small (duties_in small l) k + end_length
          → read_table b ≡ answer (table_in small b (duties_in small b) k)
      all_told h = ended ∙ all_good small b _ k (ap not (rw head.0 at last)) (le-ltb _ _ (rw head.0 at h))

      -- and what is read of them is their form
      pub formed : (rd : Reading) → rd.block_length ≡ ticks_in l → rd.engines ≡ engines_in l → rd.duties ≡ duties_in small l → rd.runs ≡ k
          → length b ≤ run_place small (duties_in small l) k + end_length → Formed b rd
      formed rd t m i r h =
          let all : k ≡ good_runs small b (duties_in small b) = rw head.0 at runs in
          in_form b rd (rw head.0 at t) (rw head.0 at m) (rw head.0 at i) (r ∙ all) (rw (← all) (all_told h))
