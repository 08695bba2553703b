-- Document 01, "The plan program": the text that it reads and the text that it prints, as bytes.
use Rattle.std.specs.Prelude.{ℕ, zero, suc, ◌+◌, ◌-◌, ◌*◌, ◌/◌, ◌%◌, Bool, true, false, not, ◌&&◌, ◌||◌, List, [], ◌∷◌, ◌++◌, ltb}
use Rattle.std.specs.Prelude.{eqb, length, get_or, take, drop}
use Rattle.laws.specs.Choice.{pick}
use Rattle.laws.specs.Search.{first}
use Rattle.laws.specs.Lists.{tab, flat, same_list}
use Rattle.paper.specs.declared.Duty.{Duty}
use Rattle.paper.specs.declared.Run.{Run}
use Rattle.paper.specs.declared.Chain.{Chain}
use Rattle.paper.specs.declared.Input.{Input}
use Rattle.paper.specs.Duties.{duty, duty_at}
use Rattle.paper.specs.Words.{Table}
use Rattle.paper.specs.Rotation.{chains}
use Rattle.paper.specs.Walk.{loads}
use Rattle.paper.specs.Outcome.{Outcome, refused, answer, and_then}
use Rattle.paper.specs.Limits.{most_duties, most_input, most_digits, default_engines, word_digits}
use Rattle.paper.specs.Bytes.{within}
use Rattle.paper.specs.Wanted.{Wanted, wanted_of}
use Rattle.paper.specs.Builder.{plan, fitted}
use Rattle.paper.specs.Rules.{accepted}

-- ---- characters, as bytes

abbrev pub line_feed : ℕ
line_feed = 10

abbrev pub space : ℕ
space = 32

abbrev pub dash : ℕ
dash = 45

abbrev pub zero_digit : ℕ
zero_digit = 48

abbrev pub nine_digit : ℕ
nine_digit = 57

-- ---- reading

-- a text by its lines; the last may lack its line feed
pub data Lines : Type 0 where
  none : Lines
  line : List ℕ → (ended : Bool) → Lines → Lines

-- a byte before the first line
abbrev pub onto : ℕ → Lines → Lines
onto x none = line (x ∷ []) false none
onto x (line c ended ls) = line (x ∷ c) ended ls

unfoldable pub lines_of : List ℕ → Lines
lines_of [] = none
lines_of (x ∷ xs) = pick (eqb x line_feed) (line [] true (lines_of xs)) (onto x (lines_of xs))

-- "Numbers have 1 to 9 digits and no leading zero, save `0` itself."
unfoldable pub all_digits : List ℕ → Bool
all_digits [] = true
all_digits (x ∷ xs) = within zero_digit nine_digit x && all_digits xs

abbrev pub is_number : List ℕ → Bool
is_number c = within 1 most_digits (length c) && all_digits c && (eqb (length c) 1 || not (eqb (get_or c 0 0) zero_digit))

-- the number that the digits write, after those that make up v
unfoldable pub value_from : ℕ → List ℕ → ℕ
value_from v [] = v
value_from v (x ∷ xs) = value_from (v * 10 + (x - zero_digit)) xs

abbrev pub value : List ℕ → ℕ
value c = value_from 0 c

-- "a line with the engines (or `-`, which means 4)"
abbrev pub is_dash : List ℕ → Bool
is_dash c = same_list c (dash ∷ [])

abbrev pub engine_line_good : List ℕ → Bool
engine_line_good c = is_dash c || is_number c

abbrev pub engines_read : List ℕ → ℕ
engines_read c = pick (is_dash c) default_engines (value c)

-- "a line `service period` for each duty, one space between": what stands before the first space, and after it
abbrev pub space_in : List ℕ → ℕ
space_in c = first (λ k. eqb (get_or c k 0) space) (length c)

abbrev pub duty_line_good : List ℕ → Bool
duty_line_good c = is_number (take (space_in c) c) && is_number (drop (space_in c + 1) c)

abbrev pub duty_read : List ℕ → Duty
duty_read c = duty (value (take (space_in c) c)) (value (drop (space_in c + 1) c))

-- "Every line ends in a line feed. .. the first faulty line; .. line 66, if present, is faulty": the duties from line n on
unfoldable pub duties_from : ℕ → Lines → Outcome (List Duty)
duties_from n none = answer []
duties_from n (line c ended ls) =
    pick (ended && duty_line_good c && not (ltb (most_duties + 1) n)) (and_then (duties_from (n + 1) ls) (λ ds. answer (duty_read c ∷ ds)))
    (refused 9 n)

-- "a missing first line is line 1"
abbrev pub input_of : Lines → Outcome Wanted
input_of none = refused 9 1
input_of (line c ended ls) =
    pick (ended && engine_line_good c) (and_then (duties_from 2 ls) (λ ds. answer (wanted_of (engines_read c) ds))) (refused 9 1)

-- "at most 4,096 bytes .. Longer input is fault 9 with place 0"
unfoldable pub input : List ℕ → Outcome Wanted
input b = pick (ltb most_input (length b)) (refused 9 0) (input_of (lines_of b))

-- what reading it hands back: two lists with room for every duty, 0 past the last; a refusal holds none
abbrev pub roomy : List ℕ → List ℕ
roomy l = tab most_duties (λ k. get_or l k 0)

abbrev pub input_for : Wanted → Input
input_for x = record { engines = x.engines; duties = length x.services; services = roomy x.services; periods = roomy x.periods }

abbrev pub input_read : Outcome Wanted → Outcome Input
input_read o = and_then o (λ x. answer (input_for x))

-- ---- printing

-- a number in decimal, of at most k digits
unfoldable pub decimal_in : ℕ → ℕ → List ℕ
decimal_in zero n = []
decimal_in (suc k) n = pick (ltb n 10) ((zero_digit + n) ∷ []) (decimal_in k (n / 10) ++ ((zero_digit + n % 10) ∷ []))

-- so many digits hold every 64-bit number
abbrev pub decimal : ℕ → List ℕ
decimal n = decimal_in word_digits n

-- a printed line: a word, and each number after a space; "each line ended by a line feed"
unfoldable pub print_line : List ℕ → List ℕ → List ℕ
print_line word numbers = word ++ flat (λ n. space ∷ decimal n) numbers ++ (line_feed ∷ [])

-- the words plan, duty, run, chain, loads and refused
abbrev pub plan_word : List ℕ
plan_word = 112 ∷ 108 ∷ 97 ∷ 110 ∷ []

abbrev pub duty_word : List ℕ
duty_word = 100 ∷ 117 ∷ 116 ∷ 121 ∷ []

abbrev pub run_word : List ℕ
run_word = 114 ∷ 117 ∷ 110 ∷ []

abbrev pub chain_word : List ℕ
chain_word = 99 ∷ 104 ∷ 97 ∷ 105 ∷ 110 ∷ []

abbrev pub loads_word : List ℕ
loads_word = 108 ∷ 111 ∷ 97 ∷ 100 ∷ 115 ∷ []

abbrev pub refused_word : List ℕ
refused_word = 114 ∷ 101 ∷ 102 ∷ 117 ∷ 115 ∷ 101 ∷ 100 ∷ []

-- "`plan` block length, engines, duties"
abbrev pub plan_line : Table → List ℕ
plan_line t = print_line plan_word (t.ticks ∷ t.engines ∷ length t.duties ∷ [])

-- "`duty` number, service, period; one each"
abbrev pub duty_line : List Duty → ℕ → List ℕ
duty_line ds i = print_line duty_word (i ∷ (duty_at ds i).service ∷ (duty_at ds i).period ∷ [])

-- "`run` row, duty, first unit, length; in table order"
abbrev pub run_line : Run → List ℕ
run_line x = print_line run_word (x.row.0 ∷ x.duty ∷ x.first ∷ x.length ∷ [])

-- "`chain` first row, length; by first row"
abbrev pub chain_line : Chain → List ℕ
chain_line x = print_line chain_word (x.first.0 ∷ x.length ∷ [])

-- "`loads` in block 0, in each later block"
abbrev pub loads_line : Table → List ℕ
loads_line t = print_line loads_word (loads t 1 ∷ (loads t 2 - loads t 1) ∷ [])

unfoldable pub plan_text : Table → List ℕ
plan_text t =
    plan_line t ++ flat (duty_line t.duties) (tab (length t.duties) (λ i. i)) ++ flat run_line t.runs ++ flat chain_line (chains t)
    ++ loads_line t

-- the text of a table in bytes, for a buffer with room for so many: 10 to 17, then 8 where the text is longer
abbrev pub text_for : List ℕ → ℕ → Outcome (List ℕ)
text_for b room = and_then (accepted b) (λ t. fitted room (plan_text t))

-- "It prints .. `refused NUMBER PLACE`, or" the plan
abbrev pub printed : Outcome Table → List ℕ
printed (refused n p) = print_line refused_word (n ∷ p ∷ [])
printed (answer t) = plan_text t

-- the program: from what it reads to what it prints; "the program looks for 9 before all others". Its input names no block length: 0
abbrev pub program : List ℕ → List ℕ
program b = printed (and_then (input b) (plan 0))
