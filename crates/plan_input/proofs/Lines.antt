-- A text's first line ends at its first line feed; with none the whole text is one line that is not ended. So the duties of
-- a text are told by where the first line feed stands, what stands before it and what is left after it.
-- Assumes nothing.
use Prim.Native.Nat.{ℕ, zero, suc, ◌+◌, ◌≤◌, ◌<◌}
use mathlib.Core.Path.{◌≡◌, refl, ap, ◌∙◌}
use mathlib.Core.Bool.{Bool, true, false, not, ◌&&◌, and-true, and-false}
use mathlib.Core.List.{List, [], ◌∷◌}
use native.Mathlib.Nat.{not-suc-le-zero, le_of_suc-le-suc}
use native.Mathlib.Numerals.{add-one}
use native.Mathlib.Omega.{arith}
use lib.Dec.{ltb, eqb}
use lib.ListN.{length, get_or, take, drop}
use borrow.Author.Tests.{ltb-true, lt-ltb, le-ltb}
use Rattle.laws.specs.Choice.{pick}
use Rattle.laws.specs.Search.{first}
use Rattle.laws.proofs.Cases.{lt_or_le, and_left, and_right}
use Rattle.laws.proofs.Search.{Clear, first_clear, first_holds, first-le}
use Rattle.paper.specs.Outcome.{refused, answer, and_then}
use Rattle.paper.specs.Limits.{most_duties, most_input}
use Rattle.paper.specs.Text.{Lines, none, line, onto, lines_of, duty_line_good, duty_read, duties_from}
use Rattle.paper.specs.Text.{engine_line_good, engines_read, input_of, input}
use Rattle.line_read.specs.Line.{first_good, line_good}
use Rattle.plan_input.specs.AsWanted.{with_engines}

-- the byte at k is a line feed
abbrev pub feed_at : List ℕ → ℕ → Bool
feed_at xs k = eqb (get_or xs k 0) 10

-- the place of the first line feed, or the length
abbrev pub feed_in : List ℕ → ℕ
feed_in xs = first (feed_at xs) (length xs)

-- the lines of a text by its first byte, and of none
lines_first : (x : ℕ) (xs : List ℕ) (t : Bool) → eqb x 10 ≡ t → lines_of (x ∷ xs)
    ≡ pick t (line [] true (lines_of xs)) (onto x (lines_of xs))
unfolding lines_of
lines_first x xs t e = rw (← e)

pub lines_none : lines_of [] ≡ none
unfolding lines_of
lines_none = refl

ended_at : (xs : List ℕ) (k : ℕ) → k < length xs → Clear (feed_at xs) k → feed_at xs k ≡ true
    → lines_of xs ≡ line (take k xs) true (lines_of (drop (suc k) xs))
ended_at [] k h c p = absurd (not-suc-le-zero h)
ended_at (x ∷ xs) zero h c p = lines_first x xs true p
ended_at (x ∷ xs) (suc k) h c p =
    lines_first x xs false (c 0 (omega arith))
    ∙ ap (onto x) (ended_at xs k (le_of_suc-le-suc h) (λ j l. c (suc j) (omega arith)) p)

-- with a line feed: the line before it, and the lines of what is left
pub lines_ended : (xs : List ℕ) (k : ℕ) → k ≡ feed_in xs → k < length xs → lines_of xs ≡ line (take k xs) true (lines_of (drop (k + 1) xs))
lines_ended xs k e h =
    rw (add-one k)
    (ended_at xs k h (rw e (first_clear (feed_at xs) (length xs))) (rw e (first_holds (feed_at xs) (length xs) (rw (← e) h))))

unended_all : (xs : List ℕ) → 0 < length xs → Clear (feed_at xs) (length xs) → lines_of xs ≡ line xs false none
unended_all [] h c = absurd (not-suc-le-zero h)
unended_all (x ∷ []) h c = lines_first x [] false (c 0 (omega arith)) ∙ ap (onto x) lines_none
unended_all (x ∷ (y ∷ ys)) h c =
    lines_first x (y ∷ ys) false (c 0 (omega arith))
    ∙ ap (onto x) (unended_all (y ∷ ys) (omega arith) (λ j l. c (suc j) (omega arith)))

-- without one: the whole text as a line that is not ended
pub lines_unended : (xs : List ℕ) → 0 < length xs → length xs ≤ feed_in xs → lines_of xs ≡ line xs false none
lines_unended xs h l =
    let e : feed_in xs ≡ length xs = omega (arith, first-le (feed_at xs) (length xs)) in
    unended_all xs h (λ j m. first_clear (feed_at xs) (length xs) j (rw e m))

-- ---- the duties of a text, from the line of duty i on

-- what a good line has: its end, its place among the duties, and two numbers
pub good-parts : (i : ℕ) (xs : List ℕ) (k : ℕ) → line_good i xs k ≡ true
    → (k < length xs) × (i < most_duties) × (duty_line_good (take k xs) ≡ true)
good-parts i xs k p =
    let ended = ltb k (length xs) in
    let room = ltb i most_duties in
    let q = and_left (ended && room) (duty_line_good (take k xs)) p in (
      ltb-true k (length xs) (and_left ended room q),
      ltb-true i most_duties (and_right ended room q),
      and_right (ended && room) (duty_line_good (take k xs)) p,
    )

-- the duties of lines by their first, and of none
pub duties_first : (n : ℕ) (c : List ℕ) (ended : Bool) (ls : Lines)
    → duties_from n (line c ended ls)
    ≡ pick (ended && duty_line_good c && not (ltb (most_duties + 1) n))
    (and_then (duties_from (n + 1) ls) (λ ds. answer (duty_read c ∷ ds)))
    (refused 9 n)
unfolding duties_from
duties_first n c ended ls = refl

pub duties_none : (n : ℕ) → duties_from n none ≡ answer []
unfolding duties_from
duties_none n = refl

-- a good line is a duty before the others; any other is the faulty one
pub duties_line :
    (i : ℕ) (xs : List ℕ) (k : ℕ) (t : Bool) → k ≡ feed_in xs → 0 < length xs → line_good i xs k ≡ t
    → duties_from (i + 2) (lines_of xs)
    ≡ pick t (and_then (duties_from (i + 1 + 2) (lines_of (drop (k + 1) xs))) (λ ds. answer (duty_read (take k xs) ∷ ds)))
    (refused 9 (i + 2))
duties_line i xs k t e h p =
    rw (← p)
    (lt_or_le k (length xs)
    (λ l. let n : i + 2 + 1 ≡ i + 1 + 2 = omega arith in
    rw (lines_ended xs k e l, lt-ltb k (length xs) l) (duties_first (i + 2) (take k xs) true (lines_of (drop (k + 1) xs)) ∙ rw (tests, n)))
    (λ l. rw (lines_unended xs h (rw (← e) l), le-ltb k (length xs) l) (duties_first (i + 2) xs false none)))
  where
    tests : duty_line_good (take k xs) && not (ltb (most_duties + 1) (i + 2)) ≡ ltb i most_duties && duty_line_good (take k xs)
    tests =
        let good = duty_line_good (take k xs) in
        lt_or_le i most_duties (λ m. rw (lt-ltb i most_duties m, le-ltb (most_duties + 1) (i + 2) (omega arith), and-true good))
        (λ m. rw (le-ltb i most_duties m, lt-ltb (most_duties + 1) (i + 2) (omega arith), and-false good))

-- ---- the whole text

-- a missing first line, and one that is not ended
input_unended : (xs : List ℕ) → length xs ≤ feed_in xs → input_of (lines_of xs) ≡ refused 9 1
input_unended [] h = ap input_of lines_none
input_unended (x ∷ xs) h = ap input_of (lines_unended (x ∷ xs) (omega arith) h)

pub input_is : (b : List ℕ) → input b ≡ pick (ltb most_input (length b)) (refused 9 0) (input_of (lines_of b))
unfolding input
input_is b = refl

-- of at most 4,096 bytes, after a good first line come the duties; any other first line is faulty
pub input-line :
    (xs : List ℕ) (k : ℕ) (t : Bool) → length xs ≤ most_input → k ≡ feed_in xs → first_good xs k ≡ t
    → input xs ≡ pick t (with_engines (engines_read (take k xs)) (duties_from 2 (lines_of (drop (k + 1) xs)))) (refused 9 1)
input-line xs k t h e p =
    rw (input_is xs, le-ltb most_input (length xs) h, ← p)
    (lt_or_le k (length xs) (λ l. rw (lines_ended xs k e l, lt-ltb k (length xs) l))
    (λ l. input_unended xs (rw (← e) l) ∙ rw (le-ltb k (length xs) l)))

-- a good first line has its end, and names the engines
abbrev pub FirstParts : List ℕ → ℕ → Type 0
FirstParts xs k = (k + 1 ≤ length xs) × (engine_line_good (take k xs) ≡ true)

pub first-parts : (xs : List ℕ) (k : ℕ) → first_good xs k ≡ true → FirstParts xs k
first-parts xs k p =
    let l = ltb-true k (length xs) (and_left (ltb k (length xs)) (engine_line_good (take k xs)) p) in
    (omega arith, and_right (ltb k (length xs)) (engine_line_good (take k xs)) p)

-- more bytes are faulty
pub input_long : (b : List ℕ) → most_input < length b → input b ≡ refused 9 0
input_long b h = rw (input_is b, lt-ltb most_input (length b) h)
