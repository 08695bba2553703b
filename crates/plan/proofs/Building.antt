-- What the builder leaves in a buffer that has room for every table: the plan's bytes, which the judge accepts and reads as the plan, or
-- nothing and the plan's refusal.
-- Assumes nothing.
use Prim.Native.Nat.{ℕ, ◌≤◌}
use mathlib.Core.Path.{◌≡◌, sym, ap, ◌∙◌}
use mathlib.Core.List.{List}
use native.Mathlib.Omega.{arith}
use lib.ListN.{length, take}
use Rattle.paper.specs.declared.Refusal.{Refusal}
use Rattle.std.specs.Prelude.{Result, Ok, Err}
use Rattle.paper.specs.Outcome.{answer, refused_as, outcome_of, number_of, place_of, leaves, Writes}
use Rattle.paper.specs.Limits.{small, most_table}
use Rattle.paper.specs.Bytes.{encode}
use Rattle.paper.specs.Wanted.{Wanted}
use Rattle.paper.specs.Builder.{plan, build}
use Rattle.paper.specs.Rules.{accepted}
use Rattle.paper.proofs.Outcomes.{answered, answer_one, refused_one, then_refused, then_answer}
use Rattle.table_laws.proofs.Bytes.{length-encode}
use Rattle.plan_laws.proofs.Planned.{planned_ranged, WhenBuilt, not_planned, too_short, written, built_when, built, built-accepted}
use Rattle.line_print.proofs.Line.{puts_fits}
use Rattle.plan_text.proofs.Fitting.{front_is}

module _ (x : Wanted) {r : Result ℕ Refusal} {l xs : List ℕ} (w : Writes (build 0 x most_table) r l xs) where
  -- what is built is within the buffer, and cut to the length that is told it is accepted as the plan
  pub built_bytes : {size : ℕ} → r ≡ Ok size → (size ≤ length xs) × (accepted (take size xs) ≡ plan 0 x)
  built_bytes {size} told =
      let whole = then_answer (build 0 x most_table) (λ b. answer (length b)) size (sym w.said ∙ ap outcome_of told) in
      let bytes = whole.0 in
      let long = sym (answer_one (length bytes) size whole.2) in
      let laid = w.left ∙ ap (λ o. leaves o l) whole.1 in
      let front = front_is size bytes l xs long laid in
      let plans = (built 0 x most_table bytes whole.1).plans in
      (puts_fits bytes l xs size (long, laid), ap accepted front ∙ built-accepted 0 x most_table bytes whole.1 ∙ sym plans)

  -- a refusal is the plan's: every table has room
  pub built_refused : {why : Refusal} → r ≡ Err why → plan 0 x ≡ refused_as why
  built_refused {why} told =
      go ((built_when 0 x most_table (refused_as why)).0
      (then_refused (build 0 x most_table) length (number_of why) (place_of why) (sym w.said ∙ ap outcome_of told)))
    where
      go : WhenBuilt 0 x most_table (refused_as why) → plan 0 x ≡ refused_as why
      go (not_planned n p h q) = let z = refused_one (number_of why) (place_of why) n p q in rw (z.0, z.1) h
      go (too_short t h m q) =
          let g = planned_ranged 0 x t h in
          absurd (omega (arith, m, length-encode small t, g.duties_most, g.runs_most))
      go (written t h m q) = answered (encode small t) (number_of why) (place_of why) (sym q)
