-- What `read_input` hands back loses nothing of what document 01 makes of the bytes: no more than 64 duties are read, since line 66 is
-- faulty, so the two lists have room for all. So no two outcomes have the same answer.
-- Assumes nothing.
use Prim.Native.Nat.{ℕ, ◌+◌, ◌-◌, ◌≤◌}
use mathlib.Core.Path.{◌≡◌, refl, sym, ap, ◌∙◌}
use mathlib.Core.Bool.{Bool, true, false, not, ◌&&◌}
use mathlib.Core.List.{List, ◌∷◌}
use native.Mathlib.Omega.{arith}
use lib.Dec.{ltb}
use lib.ListN.{length, get_or, take, length-map}
use borrow.Author.Tests.{ltb-false, not-true}
use Rattle.laws.specs.Choice.{pick}
use Rattle.laws.proofs.Cases.{and_right}
use Rattle.laws.proofs.Lists.{length-tab, get_or-tab, tab_ext, tab-get_or, tab-take}
use Rattle.paper.specs.declared.Duty.{Duty}
use Rattle.paper.specs.declared.Input.{Input}
use Rattle.paper.specs.Outcome.{Outcome, refused, answer, and_then}
use Rattle.paper.specs.Wanted.{Wanted, wanted_of}
use Rattle.paper.specs.Limits.{most_duties, most_input}
use Rattle.paper.specs.Text.{Lines, none, line, lines_of, duty_line_good, duty_read, duties_from, engine_line_good, engines_read}
use Rattle.paper.specs.Text.{input_of, input}
use Rattle.paper.specs.Text.{roomy, input_for, input_read}
use Rattle.paper.proofs.Outcomes.{answered, answer_one, then_answer, past}
use Rattle.plan_input.proofs.Lines.{duties_first, duties_none, input_is}
use Rattle.plan_input.specs.AsWanted.{with_engines, wanted_in, HasRoom}

-- an answer where a failed test is refused
kept : {A : Type 0} (t : Bool) (n p : ℕ) (o : Outcome A) (a : A) → pick t o (refused n p) ≡ answer a → (t ≡ true) × (o ≡ answer a)
kept true n p o a e = (refl, e)
kept false n p o a e = answered a n p (sym e)

-- from line n on there are at most 66 - n duties
few_from : (n : ℕ) (ls : Lines) (ds : List Duty) → duties_from n ls ≡ answer ds → length ds ≤ most_duties + 2 - n
few_from n none ds e = rw (← answer_one _ ds (sym (duties_none n) ∙ e)) (omega arith)
few_from n (line c ended ls) ds e =
    let late = ltb (most_duties + 1) n in
    let all = and_then (duties_from (n + 1) ls) (λ xs. answer (duty_read c ∷ xs)) in
    let good = kept (ended && duty_line_good c && not late) 9 n all ds (sym (duties_first n c ended ls) ∙ e) in
    let rest = then_answer (duties_from (n + 1) ls) (λ xs. answer (duty_read c ∷ xs)) ds good.1 in
    let here = ltb-false (most_duties + 1) n (not-true late (and_right (ended && duty_line_good c) (not late) good.0)) in
    rw (← answer_one _ ds rest.2) (omega (arith, here, few_from (n + 1) ls rest.0 rest.1))

-- as many services as periods, and room for all
pub record FewPairs (x : Wanted) : Type 0 where
  pub few : length x.services ≤ most_duties
  pub even : length x.periods ≡ length x.services

few_of : (m : ℕ) (ds : List Duty) → length ds ≤ most_duties → FewPairs (wanted_of m ds)
few_of m ds h =
    let n = length-map ds (λ x. x.service) in
    record { few = omega (arith, n); even = length-map ds (λ x. x.period) ∙ sym n }

-- so is whatever is read
pub input_few : (b : List ℕ) (x : Wanted) → input b ≡ answer x → FewPairs x
input_few b x e = lines (lines_of b) (past (ltb most_input (length b)) 9 0 (input_of (lines_of b)) x (sym (input_is b) ∙ e)).1
  where
    lines : (ls : Lines) → input_of ls ≡ answer x → FewPairs x
    lines none q = answered x 9 1 (sym q)
    lines (line c ended ls) q =
        let good = kept (ended && engine_line_good c) 9 1 (with_engines (engines_read c) (duties_from 2 ls)) x q in
        let read = then_answer (duties_from 2 ls) (λ ds. answer (wanted_of (engines_read c) ds)) x good.1 in
        rw (← answer_one _ x read.2) (few_of (engines_read c) read.0 (few_from 2 ls read.0 read.1))

-- a list with room for it, cut to its length
roomy-back : (l : List ℕ) (n : ℕ) → length l ≡ n → n ≤ most_duties → take n (roomy l) ≡ l
roomy-back l n e h =
    sym (tab-take n (roomy l) (rw length-tab h))
    ∙ tab_ext n (λ k. get_or (roomy l) k 0) (λ k. get_or l k 0) (λ k q. get_or-tab most_duties (λ j. get_or l j 0) 0 k (omega arith))
    ∙ rw (← e) (tab-get_or l 0)

-- no more duties are read than there is room for
pub read-room : (b : List ℕ) {i : Input} → answer i ≡ input_read (input b) → HasRoom i
read-room b {i} e = go (input b) refl e
  where
    go : (o : Outcome Wanted) → input b ≡ o → answer i ≡ input_read o → HasRoom i
    go (refused n p) q h = answered i n p h
    go (answer x) q h =
        let few = (input_few b x q).few in
        rw (answer_one i (input_for x) h) (rw length-tab few, rw length-tab few)

-- what an answer tells of the bytes
abbrev pub told : Outcome Input → Outcome Wanted
told o = and_then o (λ i. answer (wanted_in i))

-- it is what they mean
pub read_told : (b : List ℕ) → told (input_read (input b)) ≡ input b
read_told b = go (input b) refl
  where
    go : (o : Outcome Wanted) → input b ≡ o → told (input_read o) ≡ o
    go (refused n p) e = refl
    go (answer x) e =
        let s = input_few b x e in
        let n = length x.services in
        rw (roomy-back x.services n refl s.few, roomy-back x.periods n s.even s.few)

-- equal answers are of bytes that mean the same
pub input_one : (a b : List ℕ) → input_read (input a) ≡ input_read (input b) → input a ≡ input b
input_one a b e = sym (read_told a) ∙ ap told e ∙ read_told b
