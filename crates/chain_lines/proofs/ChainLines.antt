-- The lines of the chains, written from chain to chain: where row k begins a chain, the chains that begin below k are written, and past k's
-- chain that one is written too. And the loads of a table, by its runs and what is carried.
-- Assumes nothing.
use Prim.Native.Nat.{ℕ, ◌+◌, ◌*◌, ◌-◌, ◌≤◌, ◌<◌}
use mathlib.Core.Path.{◌≡◌, refl, sym, ap, ◌∙◌, subst}
use mathlib.Core.Bool.{Bool}
use mathlib.Core.List.{List, [], ◌∷◌, ◌++◌, append-nil}
use native.Mathlib.Omega.{arith}
use lib.ListN.{length, take, drop}
use Rattle.laws.specs.Lists.{flat, over}
use Rattle.laws.proofs.Lists.{flat_append, flat_step, flat_end}
use Rattle.laws.proofs.Writing.{Wrote, written, grown, all_written, over_nothing}
use Rattle.paper.specs.declared.Chain.{Chain}
use Rattle.paper.specs.Limits.{small, chain_line_room}
use Rattle.paper.specs.Words.{Table}
use Rattle.paper.specs.Statements.{Ranged, Meets}
use Rattle.paper.specs.Outcome.{Puts}
use Rattle.paper.specs.Rotation.{first_of, chains_below}
use Rattle.paper.specs.Walk.{loads}
use Rattle.paper.specs.Text.{print_line, chain_line, loads_word, loads_line}
use Rattle.walk_laws.proofs.Page.{first_zero, InChain, onward, chains_onward, chains_none, carried, loads_are}
use Rattle.chain_lines.specs.Parts.{lines_below}

pub record Chained (c : ℕ → Bool) (m : ℕ) (l xs : List ℕ) (at k : ℕ) : Type 0 where
  pub within : k ≤ m
  pub begins : first_of c k ≡ k
  pub long : length xs ≡ length l
  pub most : at ≤ chain_line_room * k
  pub wrote : Wrote (lines_below c m k) l [] xs at

pub chained_start : (c : ℕ → Bool) (m : ℕ) (l : List ℕ) → Chained c m l l 0 0
chained_start c m l =
    let none : lines_below c m 0 ≡ [] = ap (flat chain_line) (chains_none c m) ∙ flat_end chain_line in
    record {
      within = omega arith;
      begins = first_zero c;
      long = refl;
      most = omega arith;
      wrote = rw none (written [] l l 0 (sym (over_nothing l)) refl);
    }

module _
    (c : ℕ → Bool) (m : ℕ) (closed : first_of c m ≡ m) {l xs : List ℕ} {at k : ℕ} {x : Chain} (s : Chained c m l xs at k) (h : k < m)
    (i : InChain c k x)
  where
    -- past k's chain its line is one more
    lines_more : lines_below c m (k + x.length) ≡ lines_below c m k ++ chain_line x
    lines_more =
        let line : flat chain_line (x ∷ []) ≡ chain_line x ++ [] =
        flat_step chain_line x [] ∙ ap (λ (t : List ℕ). chain_line x ++ t) (flat_end chain_line) in
        ap (flat chain_line) (chains_onward c (onward c m closed s.begins i h))
        ∙ flat_append chain_line (chains_below c m k) (x ∷ [])
        ∙ ap (λ (t : List ℕ). lines_below c m k ++ t) (line ∙ append-nil (chain_line x))

    pub chained_more : (ys : List ℕ) (n : ℕ) → n ≡ length (chain_line x) → ys ≡ over (chain_line x) (take (length xs - at) (drop at xs))
        → n ≤ chain_line_room → length (take at xs ++ (ys ++ drop (length xs - at) (drop at xs))) ≡ length l
        → Chained c m l (take at xs ++ (ys ++ drop (length xs - at) (drop at xs))) (at + n) (k + x.length)
    chained_more ys n p q r g =
        let on = onward c m closed s.begins i h in
        record {
          within = on.within;
          begins = on.begins;
          long = g;
          most = omega (arith, s.most, i);
          wrote = rw lines_more (grown (chain_line x) ys n s.wrote p q);
        }

-- at the end all are written
pub chained_end : (c : ℕ → Bool) (m : ℕ) {l xs : List ℕ} {at k : ℕ} → Chained c m l xs at k → m ≤ k
    → Puts (lines_below c m m) l xs at × (at ≤ chain_line_room * m)
chained_end c m {l} {xs} {at} {k} s h =
    let z : k ≡ m = omega (arith, s.within) in
    let all : Wrote (lines_below c m m) l [] xs at = subst (λ j. Wrote (lines_below c m j) l [] xs at) z s.wrote in
    (all_written all, omega (arith, s.most))

-- the loads of a judged table, in block 0 one for each run, in a later block those but for the carried
pub loads_told : (t : Table) → Ranged small t → Meets t → {runs kept : ℕ} → runs ≡ length t.runs → kept ≡ carried t
    → print_line loads_word (runs ∷ (runs - kept) ∷ []) ≡ loads_line t
loads_told t g o {runs} {kept} e f =
    let one : loads t 1 ≡ length t.runs = loads_are small t g o 1 ∙ omega arith in
    let two : loads t 2 ≡ length t.runs + (length t.runs - carried t) = loads_are small t g o 2 ∙ omega arith in
    let later : loads t 2 - loads t 1 ≡ runs - kept = omega arith in
    rw (later, one, e) refl

-- a text laid over a buffer is laid there by another name too
pub by_name : (l : List ℕ) {w v xs : List ℕ} → xs ≡ over w l → w ≡ v → xs ≡ over v l
by_name l e f = e ∙ ap (λ (z : List ℕ). over z l) f
