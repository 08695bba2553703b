-- What bytes that begin with a good head give to those who read on.
use Rattle.std.specs.Prelude.{ℕ, ◌≡◌, true, List}
use Rattle.paper.specs.Limits.{small}
use Rattle.paper.specs.Bytes.{head_good}
use Rattle.record_read.specs.declared.Head.{Head}
use Rattle.record_read.specs.Formed.{IsHead}

-- the head is good, and these are its fields
pub record GoodHead (b : List ℕ) (h : Head) : Type 0 where
  pub good : head_good small b ≡ true
  pub told : IsHead b h
