-- A link, by its row's number: what one is below the last row that there may be, and that there is none past it. Of edges as codes it is
-- that the codes of the two edges are the same and not idle.
-- Assumes nothing.
use Prim.Native.Nat.{ℕ, ◌+◌, ◌≤◌, ◌<◌}
use mathlib.Core.Path.{◌≡◌, refl}
use mathlib.Core.Bool.{Bool, false, ◌&&◌}
use mathlib.Core.List.{List}
use Rattle.std.specs.Prelude.{ltb}
use borrow.Author.Tests.{lt-ltb, le-ltb}
use Rattle.paper.specs.Limits.{most_engines}
use Rattle.row_edges.specs.Links.{link_by, same_code, first_code, last_code, codes_go_on}

module _ (goes_on : ℕ → ℕ → Bool) {r : ℕ} where
  -- nothing is chained to a row past the last that there may be
  pub link_past : most_engines ≤ r → link_by goes_on r ≡ false
  unfolding link_by
  link_past h = rw (le-ltb r most_engines)

  -- below, one duty at both edges is a link
  pub link_at : r < most_engines → goes_on r (r + 1) ≡ link_by goes_on r
  unfolding link_by
  link_at h = rw (lt-ltb r most_engines)

-- a link by codes
pub link_codes : (codes : List ℕ) (r : ℕ)
    → link_by (codes_go_on codes) r ≡ (ltb r most_engines && same_code (last_code codes r) (first_code codes (r + 1)))
unfolding link_by
link_codes codes r = refl
