-- SA1's table as its writer has it: the records one after the other, and how long they are together.
-- Assumes nothing.
use Prim.Native.Nat.{ℕ, ◌+◌, ◌*◌, ◌-◌}
use mathlib.Core.Path.{◌≡◌, refl, ap, ◌∙◌}
use mathlib.Core.List.{List, [], ◌++◌, append_assoc, append-nil}
use native.Mathlib.Omega.{arith}
use lib.ListN.{length, take, drop, length-append}
use Rattle.laws.specs.Lists.{flat, over}
use Rattle.laws.proofs.Lists.{length-flat}
use Rattle.laws.proofs.Digits.{length_digits}
use Rattle.laws.proofs.Writing.{begun, more, moved, done}
use Rattle.paper.specs.declared.Duty.{Duty}
use Rattle.paper.specs.Sa1.{slices, sa1}
use Rattle.paper.specs.Limits.{small, head_length, duty_length, table_length}
use Rattle.paper.specs.Bytes.{head_bytes, duty_bytes, end_bytes, encode, bytes_of}
use Rattle.table_laws.proofs.Bytes.{length-duty, length_end}
use Rattle.record_write.specs.Head.{head_of}
use Rattle.sa1_runs.specs.Laying.{laid_from, corner}
use Rattle.sa1_table.specs.RunBytes.{runs_bytes, records_bytes, records_length}
use Rattle.sa1_table.proofs.RunBytes.{runs_bytes_lem}

-- four parts, joined from either side
four_parts : (a b c d : List ℕ) → ((a ++ b) ++ c) ++ d ≡ a ++ ((b ++ c) ++ (d ++ []))
four_parts a b c d = simp (append_assoc, append-nil)

-- the records in their order, the head by its fields: n duties, k runs
pub table_is :
    (t m n k : ℕ) (ds : List Duty) → n ≡ length ds → k ≡ length (laid_from t (slices t ds) 0 corner)
    → bytes_of (sa1 t m ds) ≡ head_of t m n ++ (records_bytes t ds ++ (end_bytes k ++ []))
unfolding encode sa1 head_bytes
table_is t m n k ds p q =
    let laid = laid_from t (slices t ds) 0 corner in
    rw (p, q) (four_parts (head_of t m (length ds)) (flat duty_bytes ds) (runs_bytes laid) (end_bytes (length laid)))

-- how long they are, by themselves ..
pub head_of_length : (t m n : ℕ) → length (head_of t m n) ≡ head_length small
head_of_length t m n = simp (length-append, length_digits)

pub duties_bytes : (ds : List Duty) → length (flat duty_bytes ds) ≡ duty_length * length ds
duties_bytes ds = length-flat duty_bytes duty_length length-duty ds

pub records_length_lem : (t : ℕ) (ds : List Duty) → length (records_bytes t ds) ≡ records_length t ds
records_length_lem t ds =
    let laid = laid_from t (slices t ds) 0 corner in
    length-append (flat duty_bytes ds) (runs_bytes laid) ∙ omega (arith, duties_bytes ds, runs_bytes_lem laid)

-- .. and together
pub sa1-length :
    (t m : ℕ) (ds : List Duty) → length (bytes_of (sa1 t m ds))
    ≡ table_length small (length ds) (length (laid_from t (slices t ds) 0 corner))
sa1-length t m ds =
    let n = length ds in
    let k = length (laid_from t (slices t ds) 0 corner) in
    ap length (table_is t m n k ds refl refl) ∙ length-append (head_of t m n) (records_bytes t ds ++ (end_bytes k ++ []))
    ∙ omega (
      arith,
      head_of_length t m n,
      length-append (records_bytes t ds) (end_bytes k ++ []),
      records_length_lem t ds,
      ap length (append-nil (end_bytes k)),
      length_end k,
    )

-- what is lent of a buffer from the place a on, and the buffer once that has come back as ys
abbrev pub lent : ℕ → List ℕ → List ℕ
lent a xs = take (length xs - a) (drop a xs)

abbrev pub back : ℕ → List ℕ → List ℕ → List ℕ
back a xs ys = take a xs ++ (ys ++ drop (length xs - a) (drop a xs))

-- three parts, the first over the whole buffer and each other one where the last one stopped, are all of them over the front
pub parts-written :
    (h d e l x y z : List ℕ) (a b : ℕ) → length h ≡ a → a + length d ≡ b → x ≡ over h l → y ≡ over d (lent a x)
    → z ≡ over e (lent b (back a x y)) → back b (back a x y) z ≡ over (h ++ (d ++ (e ++ []))) l
parts-written h d e l x y z a b p q f g i =
    let whole = h ++ (d ++ (e ++ [])) in
    let headed = moved p (begun l (d ++ (e ++ [])) h x f) in
    let filled = moved q (more whole l (e ++ []) x d y a headed g) in
    done whole l (back b (back a x y) z) (b + length e) (more whole l [] (back a x y) e z b filled i)
