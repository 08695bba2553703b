-- A table's bytes: how long they are, which record stands where, and that they are bytes. Records of one kind are equally long, so the
-- place of each is computed from its number.
-- Assumes nothing.
use Prim.Native.Nat.{ℕ, ◌+◌, ◌*◌, ◌<◌}
use mathlib.Core.Path.{◌≡◌, ◌∙◌}
use mathlib.Core.List.{List, [], ◌∷◌, ◌++◌}
use native.Mathlib.Omega.{arith}
use lib.ListN.{length, length-append}
use Rattle.laws.specs.Lists.{flat}
use Rattle.laws.specs.Digits.{digits}
use Rattle.laws.proofs.Lists.{length-flat}
use Rattle.laws.proofs.Digits.{AreBytes, length_digits, bytes_one, bytes_append, bytes_field, bytes_flat}
use Rattle.laws.proofs.Parts.{HasPart, holds_all, holds_at, holds_left, holds_right, holds_flat}
use Rattle.paper.specs.declared.Duty.{Duty}
use Rattle.paper.specs.declared.Run.{Run}
use Rattle.paper.specs.Duties.{duty, duty_at}
use Rattle.paper.specs.Words.{run, Table, run_at}
use Rattle.paper.specs.Limits.{Width, head_length, duty_length, run_length, end_length}
use Rattle.paper.specs.Bytes.{head_bytes, duty_bytes, run_bytes, end_bytes, encode, duty_place, run_place}

-- ---- lengths

-- the head's length
pub length_head : (w : Width) (t : Table) → length (head_bytes w t) ≡ head_length w
unfolding head_bytes
length_head w t = simp (length-append, length_digits) (omega arith)

-- a duty record's length
pub length-duty : (x : Duty) → length (duty_bytes x) ≡ duty_length
unfolding duty_bytes
length-duty x = simp (length-append, length_digits)

-- a run record's length
pub length_run : (w : Width) (x : Run) → length (run_bytes w x) ≡ run_length w
unfolding run_bytes
length_run w x = simp (length-append, length_digits) (omega arith)

-- the end record's length
pub length_end : (n : ℕ) → length (end_bytes n) ≡ end_length
unfolding end_bytes
length_end n = simp length_digits

-- up to the runs, and up to the end record
abbrev front : Width → Table → List ℕ
front w t = head_bytes w t ++ flat duty_bytes t.duties

abbrev body : Width → Table → List ℕ
body w t = front w t ++ flat (run_bytes w) t.runs

-- up to the runs they are as long as the place of the first says
length_front : (w : Width) (t : Table) → length (front w t) ≡ head_length w + duty_length * length t.duties
length_front w t = length-append (head_bytes w t) (flat duty_bytes t.duties)
    ∙ omega (arith, length_head w t, length-flat duty_bytes duty_length length-duty t.duties)

-- up to the end record they are as long as its place says
length-body :
    (w : Width) (t : Table)
    → length (body w t) ≡ run_place w (length t.duties) (length t.runs)
length-body w t =
    length-append (front w t) (flat (run_bytes w) t.runs)
    ∙ omega (arith, length_front w t, length-flat (run_bytes w) (run_length w) (length_run w) t.runs)

-- all of them
pub length-encode : (w : Width) (t : Table) → length (encode w t)
    ≡ head_length w + duty_length * length t.duties + run_length w * length t.runs + end_length
unfolding encode
length-encode w t =
    length-append (body w t) (end_bytes (length t.runs))
    ∙ omega (arith, length-body w t, length_end (length t.runs))

-- ---- what stands where

-- all but the end record stands at the front
body-stands : (w : Width) (t : Table) → HasPart (encode w t) 0 (body w t)
unfolding encode
body-stands w t = holds_left (body w t) (end_bytes (length t.runs)) (holds_all (encode w t))

-- and so does all before the runs
front-stands : (w : Width) (t : Table) → HasPart (encode w t) 0 (front w t)
front-stands w t = holds_left (front w t) (flat (run_bytes w) t.runs) (body-stands w t)

-- the head stands at 0
pub head_stands : (w : Width) (t : Table) → HasPart (encode w t) 0 (head_bytes w t)
head_stands w t = holds_left (head_bytes w t) (flat duty_bytes t.duties) (front-stands w t)

-- each duty's record stands at its place
pub duty-stands : (w : Width) (t : Table) (d : ℕ) → d < length t.duties
    → HasPart (encode w t) (duty_place w d) (duty_bytes (duty_at t.duties d))
duty-stands w t d h =
    holds_flat duty_bytes duty_length length-duty (duty 0 0) t.duties (head_length w) d h
    (holds_at (0 + length (head_bytes w t)) (head_length w) (omega (arith, length_head w t))
    (holds_right (head_bytes w t) (flat duty_bytes t.duties) (front-stands w t)))

-- each run's record stands at its place
pub run-stands :
    (w : Width) (t : Table) (k : ℕ) → k < length t.runs → HasPart (encode w t) (run_place w (length t.duties) k)
    (run_bytes w (run_at t.runs k))
run-stands w t k h =
    holds_flat (run_bytes w) (run_length w) (length_run w) (run 0 0 0 0) t.runs (head_length w + duty_length * length t.duties) k h
    (holds_at (0 + length (front w t)) (head_length w + duty_length * length t.duties) (omega (arith, length_front w t))
    (holds_right (front w t) (flat (run_bytes w) t.runs) (body-stands w t)))

-- the end record stands after the last run's
pub end_stands : (w : Width) (t : Table) → HasPart (encode w t) (run_place w (length t.duties) (length t.runs))
    (end_bytes (length t.runs))
unfolding encode
end_stands w t =
    holds_at (0 + length (body w t)) (run_place w (length t.duties) (length t.runs)) (omega (arith, length-body w t))
    (holds_right (body w t) (end_bytes (length t.runs)) (holds_all (encode w t)))

-- ---- they are bytes

-- the head's, where its kind is a byte
head_bytes_lem : (w : Width) (t : Table) → w.head_kind < 256 → AreBytes (head_bytes w t)
unfolding head_bytes
head_bytes_lem w t h =
    let kind = w.head_kind ∷ [] in
    let ticks = kind ++ digits 4 t.ticks in
    bytes_field (ticks ++ digits 1 t.engines) w.duty_field (length t.duties)
    (bytes_field ticks 1 t.engines (bytes_field kind 4 t.ticks (bytes_one w.head_kind h)))

-- a duty's
duty_bytes_lem : (x : Duty) → AreBytes (duty_bytes x)
unfolding duty_bytes
duty_bytes_lem x =
    bytes_field (2 ∷ digits 4 x.service) 4 x.period (bytes_field (2 ∷ []) 4 x.service (bytes_one 2 (omega arith)))

-- a run's, where its kind is a byte
run_bytes_lem : (w : Width) (x : Run) → w.run_kind < 256 → AreBytes (run_bytes w x)
unfolding run_bytes
run_bytes_lem w x h =
    let kind = w.run_kind ∷ [] in
    let row = kind ++ digits 1 x.row.0 in
    let duty = row ++ digits w.duty_field x.duty in
    bytes_field (duty ++ digits 4 x.first) 4 x.length
    (bytes_field duty 4 x.first (bytes_field row w.duty_field x.duty (bytes_field kind 1 x.row.0 (bytes_one w.run_kind h))))

-- the end record's
end_bytes_lem : (n : ℕ) → AreBytes (end_bytes n)
unfolding end_bytes
end_bytes_lem n = bytes_field (4 ∷ []) 2 n (bytes_one 4 (omega arith))

-- and all of them
pub encode_bytes : (w : Width) (t : Table) → w.head_kind < 256 → w.run_kind < 256 → AreBytes (encode w t)
unfolding encode
encode_bytes w t h r =
    bytes_append (body w t) (end_bytes (length t.runs))
    (bytes_append (front w t) (flat (run_bytes w) t.runs)
    (bytes_append (head_bytes w t) (flat duty_bytes t.duties) (head_bytes_lem w t h) (bytes_flat duty_bytes duty_bytes_lem t.duties))
    (bytes_flat (run_bytes w) (λ x. run_bytes_lem w x r) t.runs))
    (end_bytes_lem (length t.runs))
