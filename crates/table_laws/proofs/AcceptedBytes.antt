-- A table is accepted, whoever wrote it, exactly when it meets document 01's rules: the bytes are those of a table that is in form and
-- meets rules 11 to 17. Bytes that read as a table are its bytes and the table is in form; and the judge passes a table in form exactly
-- where it meets the rules.
-- Assumes nothing.
use Prim.Native.Nat.{ℕ}
use mathlib.Core.Path.{◌≡◌}
use mathlib.Core.List.{List}
use mathlib.Core.Logic.{◌↔◌}
use Rattle.laws.proofs.Digits.{AreBytes}
use Rattle.paper.specs.Words.{Table}
use Rattle.paper.specs.Outcome.{answer}
use Rattle.paper.specs.Limits.{small}
use Rattle.paper.specs.Bytes.{encode}
use Rattle.paper.specs.Rules.{accepted}
use Rattle.paper.specs.Statements.{Ranged, Meets}
use Rattle.table_laws.proofs.Accepted.{ranged_long, accepted_iff, accepted-read, read-accepted}
use Rattle.table_laws.proofs.Written.{small_sound, parse_encode}
use Rattle.table_laws.proofs.Read.{parse_ranged, parse-told}

-- the table in accepted bytes is in form
pub accepted_ranged : (b : List ℕ) (t : Table) → accepted b ≡ answer t → Ranged small t
accepted_ranged b t h = parse_ranged small b t (accepted-read b t h).0

-- and meets the rules
pub accepted_meets : (b : List ℕ) (t : Table) → accepted b ≡ answer t → Meets t
accepted_meets b t h = (accepted_iff t (ranged_long (accepted_ranged b t h))).0 (accepted-read b t h).1

-- accepted bytes are the table's
pub accepted-encode : (b : List ℕ) (t : Table) → AreBytes b → accepted b ≡ answer t → encode small t ≡ b
accepted-encode b t y h = (parse-told small b t y (accepted-read b t h).0).0

-- the bytes of a table that is in form and meets the rules are accepted
pub meets_accepted : (t : Table) → Ranged small t → Meets t → accepted (encode small t) ≡ answer t
meets_accepted t r m = read-accepted (encode small t) t (parse_encode small t small_sound r) ((accepted_iff t (ranged_long r)).1 m)

-- so bytes are accepted as a table exactly when they are its bytes, it is in form and it meets the rules
pub accepted_when : (b : List ℕ) (t : Table) → AreBytes b → (accepted b ≡ answer t) ↔ ((encode small t ≡ b) × Ranged small t × Meets t)
accepted_when b t y = (
  (λ h. (accepted-encode b t y h, accepted_ranged b t h, accepted_meets b t h)),
  (λ w. rw w.0 at (meets_accepted t w.1 w.2)),
)
