-- Blocks written one after the other: each has one entry for each duty, so the next has room where all of them have.
-- Assumes nothing.
use Prim.Native.Nat.{ℕ, ◌+◌, ◌-◌, ◌*◌, ◌≤◌, ◌<◌}
use mathlib.Core.Path.{◌≡◌, sym, ap, ◌∙◌}
use mathlib.Core.List.{List, ◌++◌}
use native.Mathlib.Omega.{arith}
use lib.ListN.{length, get_or, take, drop}
use Rattle.laws.specs.Lists.{tab, over}
use Rattle.laws.proofs.Lists.{length-tab, get_or-tab, length-flat}
use Rattle.laws.proofs.Listing.{Listing, listing_start, listing_room, listing_more, listing_end}
use Rattle.paper.specs.Sa2.{Sharing, duty_count, allotments}
use Rattle.share_block.specs.Paced.{Pace, pace}
use Rattle.share_pass.specs.Passing.{allotted}
use Rattle.share_laws.proofs.OnLine.{allotments-length}

-- the numbers of the blocks
abbrev pub numbers : ℕ → List ℕ
numbers n = tab n (λ b. b)

-- b of the blocks are written over the front of `before`, up to the place `at`
pub record Putting (s : Sharing) (blocks : ℕ) (before : List ℕ) (b at : ℕ) (q : Pace) (list : List ℕ) : Type 0 where
  pub paced : q ≡ pace s b
  pub listing : Listing (allotments s) (numbers blocks) before list at b

pub putting_none : (p : Pace) (blocks : ℕ) (list : List ℕ) → p.block ≡ 0 → Putting p.sharing blocks list 0 0 p list
putting_none p blocks list e =
    record { paced = ap (pace p.sharing) e; listing = listing_start (allotments p.sharing) (numbers blocks) list }

-- the next block is its number's
next_is : (s : Sharing) (blocks b : ℕ) → b < blocks → allotments s b ≡ allotments s (get_or (numbers blocks) b 0)
next_is s blocks b h = ap (allotments s) (sym (get_or-tab blocks (λ k. k) 0 b h))

module _ {s : Sharing} {blocks b at : ℕ} {before list : List ℕ} {q : Pace} (p : Putting s blocks before b at q list) where
  pub putting_room : b < blocks → blocks * duty_count s ≤ length before → at + duty_count s ≤ length list
  putting_room h r =
      let n = duty_count s in
      let h' : b < length (numbers blocks) = rw (length-tab blocks (λ k. k)) h in
      let each = length-flat (allotments s) n (λ k. allotments-length s k) (numbers blocks) in
      let all : length (allotted s blocks) ≡ n * blocks = each ∙ ap (λ (k : ℕ). n * k) (length-tab blocks (λ k. k)) in
      omega (arith, listing_room 0 (allotments s b) (next_is s blocks b h) p.listing h', allotments-length s b, all, p.listing.long)

  pub putting_more :
      (n : ℕ) (q' : Pace) (ys : List ℕ) → b < blocks → n ≡ duty_count s → q' ≡ pace q.sharing (q.block + 1)
      → ys ≡ over (allotments q.sharing q.block) (take (length list - at) (drop at list))
      → length (take at list ++ (ys ++ drop (length list - at) (drop at list))) ≡ length before
      → Putting s blocks before (b + 1) (at + n) q' (take at list ++ (ys ++ drop (length list - at) (drop at list)))
  putting_more n q' ys h e f w g =
      let h' : b < length (numbers blocks) = rw (length-tab blocks (λ k. k)) h in
      let gives = rw p.paced at w in
      record {
        paced = rw p.paced at f;
        listing = listing_more 0 (allotments s b) ys n (next_is s blocks b h) p.listing h' (e ∙ sym (allotments-length s b)) gives g;
      }

  pub putting_end : blocks ≤ b → list ≡ over (allotted s blocks) before
  putting_end h = (listing_end p.listing (rw (length-tab blocks (λ k. k)) h)).1
