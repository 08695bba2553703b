-- A pass over the blocks on its way. Each block writes its units over the same front of the list, so whatever is laid there next stands as
-- if it were laid over the list as it was lent: what the last block gave is all that is left of them.
-- Assumes nothing.
use Prim.Native.Nat.{ℕ, ◌+◌, ◌≤◌, ◌<◌}
use mathlib.Core.Path.{◌≡◌, refl, sym, ◌∙◌}
use mathlib.Core.Bool.{true, false}
use mathlib.Core.List.{List}
use native.Mathlib.Omega.{arith}
use lib.ListN.{length, set}
use Rattle.laws.specs.Lists.{over}
use Rattle.laws.proofs.Cases.{lt_or_le}
use Rattle.laws.proofs.Turned.{over_again}
use Rattle.paper.specs.declared.Refusal.TheVariants.{ShareBlock}
use Rattle.paper.specs.Sa2.{duty_count, allotments}
use Rattle.share_laws.proofs.OnLine.{allotments-length}
use Rattle.share_laws.specs.Cut.{cut_at}
use Rattle.share_block.specs.Paced.{Pace, pace, short_at}
use Rattle.share_pass.specs.Passing.{CutsKept, Stopped}
use Rattle.share_pass.proofs.Keeping.{kept_more}

-- the blocks from the next of p to before b are passed
pub record Passing (p : Pace) (to : ℕ) (units cuts : List ℕ) (b : ℕ) (q : Pace) (units' cuts' : List ℕ) : Type 0 where
  pub least : p.block ≤ b
  pub most : b ≤ to
  pub clear : (k : ℕ) → p.block ≤ k → k < b → short_at p.sharing k ≡ false
  pub paced : q ≡ pace p.sharing b
  pub alike : (l : List ℕ) → length l ≡ duty_count p.sharing → over l units' ≡ over l units
  pub last : (k : ℕ) → k + 1 ≡ b → p.block ≤ k → units' ≡ over (allotments p.sharing k) units
  pub kept : CutsKept p.sharing p.block b cuts cuts'

module _ {p : Pace} {to b : ℕ} {q : Pace} {units cuts units' cuts' : List ℕ} (g : Passing p to units cuts b q units' cuts') where
  -- one block more that does not come short
  pub passing_more :
      {cut : ℕ} {q' : Pace} {units'' : List ℕ} → short_at q.sharing q.block ≡ false → cut ≡ cut_at q.sharing q.block
      → q' ≡ pace q.sharing (q.block + 1) → units'' ≡ over (allotments q.sharing q.block) units' → b < to → b < length cuts'
      → Passing p to units cuts (b + 1) q' units'' (set cuts' b cut)
  passing_more {cut} {q'} {units''} goes cut_is next gave h l =
      let s = p.sharing in
      let good : short_at s b ≡ false = rw g.paced at goes in
      let gives : units'' ≡ over (allotments s b) units' = rw g.paced at gave in
      record {
        least = omega (arith, g.least);
        most = omega arith;
        clear = λ k x y. lt_or_le k b (g.clear k x) (λ z. let e : k ≡ b = omega arith in rw e good);
        paced = rw g.paced at next;
        alike = λ l n. rw gives (over_again l (allotments s b) units' (n ∙ sym (allotments-length s b)) ∙ g.alike l n);
        last = λ k x y. let e : k ≡ b = omega arith in rw e (gives ∙ g.alike (allotments s b) (allotments-length s b));
        kept = kept_more cut g.kept g.least l (rw g.paced at cut_is);
      }

  -- or the next one does come short, and is the first
  pub passing_stopped :
      {q' : Pace} → short_at q.sharing q.block ≡ true → q' ≡ pace q.sharing (q.block + 1) → b < to
      → Stopped p to cuts (ShareBlock b) q' cuts'
  passing_stopped short next h =
      record {
        block = b;
        least = g.least;
        told = refl;
        most = h;
        clear = g.clear;
        stopped = rw g.paced at short;
        paced = rw g.paced at next;
        kept = g.kept;
      }
