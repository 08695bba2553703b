-- A block on its way. Below duty i the lists hold what the next block begins with, and what the duties get; from i on, what this block
-- began with. A turn by plain numbers is a turn of SA2: the share's two numbers add up to T·C, so step 4 is the same, and a duty
-- before
-- the cut is one before which fewer than F want a unit. With it go the sum of the next whole units, and whether a duty lacked.
-- Assumes nothing.
use Prim.Native.Nat.{ℕ, ◌+◌, ◌-◌, ◌*◌, ◌/◌, ◌%◌, ◌≤◌, ◌<◌}
use mathlib.Core.Path.{◌≡◌, refl, sym, ap, ◌∙◌}
use mathlib.Core.Bool.{Bool, true, false, not, ◌&&◌, ◌||◌}
use mathlib.Core.List.{List}
use native.Mathlib.Nat.{div-add-mod', div-le_of_le-mul, mod-lt, mul-le-mul_left}
use native.Mathlib.Numerals.{add-one}
use native.Mathlib.Omega.{arith}
use lib.Dec.{ltb, eqb}
use lib.ListN.{length, get_or, set}
use borrow.Author.Tests.{lt-ltb, le-ltb}
use Rattle.laws.specs.Choice.{pick, one_if}
use Rattle.laws.specs.Search.{any}
use Rattle.laws.specs.Sum.{sum_to}
use Rattle.laws.specs.Lists.{tab, over}
use Rattle.std.specs.Prelude.{Option, None, Some, SomeIff, is_some}
use Rattle.std.specs.Option.{unwrap_or}
use Rattle.laws.proofs.Cases.{lt_or_le, not_both}
use Rattle.laws.proofs.Sum.{sum_none, sum_more}
use Rattle.laws.proofs.Turned.{Turned, turned_any, turned_here, turned_more, turned_over, any_none, any-more}
use Rattle.paper.specs.Limits.{most_ticks, most_duties}
use Rattle.paper.specs.Sa2.{Sharing, duty_count, duty_of, share_of, whole_of, part_of, free, wants, chosen, raised_units, next_need}
use Rattle.paper.specs.Sa2.{needs_at}
use Rattle.paper.specs.Sa2.{allotments}
use Rattle.share_laws.specs.Short.{lacks, overfull, short}
use Rattle.share_laws.specs.Cut.{cut_of, cut_at}
use Rattle.share_laws.proofs.Steps.{need_next, whole_most}
use Rattle.share_laws.proofs.CutFinds.{chosen_by_cut}
use Rattle.share_turn.specs.Taking.{chosen_by, next_by}
use Rattle.share_common.specs.Common.{Shareable}
use Rattle.share_block.specs.declared.Lists.{Lists}
use Rattle.share_block.specs.Paced.{Pace, Rated, Needed, Paced, free_at, lack_at, short_at}
use Rattle.share_block.proofs.Cutting.{wants_by_lem}

or_true : (a : Bool) → a || true ≡ true
or_true true = refl
or_true false = refl

or_false : (a : Bool) → a || false ≡ a
or_false true = refl
or_false false = refl

-- the whole units and the part before block b, the units given there
abbrev wholes_of : Sharing → ℕ → ℕ → ℕ
wholes_of s b = whole_of s (needs_at s b)

abbrev parts_of : Sharing → ℕ → ℕ → ℕ
parts_of s b = part_of s (needs_at s b)

abbrev given_in : Sharing → ℕ → ℕ → ℕ
given_in s b i = raised_units s (needs_at s b) i - 1

-- i duties had their turn; the lists at the block's begin, and now; `before` is the list that the units are written to
pub record Going (s : Sharing) (b : ℕ) (whole₀ part₀ before : List ℕ) (i total : ℕ) (lacking : Bool) (whole part units : List ℕ) : Type 0
  where
    pub wholes : Turned (wholes_of s (b + 1)) (λ k. get_or whole₀ k 0) most_duties i whole
    pub parts : Turned (parts_of s (b + 1)) (λ k. get_or part₀ k 0) most_duties i part
    pub given : Turned (given_in s b) (λ k. get_or before k 0) (length before) i units
    pub sum : total ≡ sum_to i (wholes_of s (b + 1))
    pub lacked : lacking ≡ any (lacks s (needs_at s b)) i
    pub most : total ≤ (most_ticks + 2) * i

pub going_none :
    (s : Sharing) (b : ℕ) (whole part units : List ℕ) → length whole ≡ most_duties → length part ≡ most_duties
    → Going s b whole part units 0 0 false whole part units
going_none s b whole part units e f =
    record {
      wholes = turned_any (wholes_of s (b + 1)) most_duties whole e;
      parts = turned_any (parts_of s (b + 1)) most_duties part f;
      given = turned_any (given_in s b) (length units) units refl;
      sum = sym (sum_none (wholes_of s (b + 1)));
      lacked = sym (any_none (lacks s (needs_at s b)));
      most = omega arith;
    }

-- ---- a turn

-- what duty i's turn comes to
pub record Took (s : Sharing) (ws : List ℕ) (i units whole part : ℕ) (lacking : Bool) : Type 0 where
  pub given : units ≡ raised_units s ws i - 1
  pub whole_next : whole ≡ next_need s ws i / (duty_of s i).period
  pub part_next : part ≡ next_need s ws i % (duty_of s i).period
  pub lacked : lacking ≡ lacks s ws i

-- by plain numbers that are the duty's
pub took :
    (s : Sharing) (ws : List ℕ) (i d rate rest whole part cut u w p : ℕ) (c l : Bool) → i < duty_count s
    → d ≡ (duty_of s i).period → rate ≡ share_of s i / (duty_of s i).period → rest ≡ share_of s i % (duty_of s i).period
    → whole ≡ whole_of s ws i → part ≡ part_of s ws i → cut ≡ cut_of s ws
    → c ≡ chosen_by s.ticks whole part i cut → u ≡ whole + one_if c - 1
    → w ≡ next_by d rate rest part c / d → p ≡ next_by d rate rest part c % d → l ≡ eqb (whole + one_if c) 0
    → Took s ws i u w p l
unfolding raised_units next_need lacks
took s ws i d rate rest whole part cut u w p c l h ed er eq ew ep ec hc hu hw hp hl =
    let by-cut : chosen_by s.ticks whole part i cut ≡ wants s ws i && ltb i (cut_of s ws) = rw (ew, ep, ec, wants_by_lem s ws i) in
    let pick' : c ≡ chosen s ws i = hc ∙ by-cut ∙ sym (chosen_by_cut s ws i h) in
    let need : next_by d rate rest part c ≡ next_need s ws i =
    rw (pick', er, eq, ep, ed)
    (ap (λ (k : ℕ). k + part_of s ws i + pick (chosen s ws i) 0 (duty_of s i).period) (div-add-mod' (share_of s i) (duty_of s i).period)) in
    record {
      given = hu ∙ rw (pick', ew);
      whole_next = hw ∙ rw (need, ed);
      part_next = hp ∙ rw (need, ed);
      lacked = hl ∙ rw (pick', ew);
    }

-- ---- the lists at a turn

-- the numbers are in range at duty i: its share is at most T, its need at most one unit more
module _ {s : Sharing} {b : ℕ} {periods rate rest whole part : List ℕ} (k : Shareable s) (r : Rated s periods rate rest)
    (n : Needed s b whole part) where
  ready :
      (i : ℕ) → i < duty_count s
      → (get_or periods i 0 ≤ most_ticks) × (get_or rate i 0 ≤ most_ticks) × (get_or rest i 0 < get_or periods i 0)
      × (get_or whole i 0 ≤ most_ticks + 1) × (get_or part i 0 < get_or periods i 0)
  ready i l =
      let h = k.in_blocks.ranges i l in
      let some : 0 < (duty_of s i).period = h.period_least in
      let share : share_of s i / (duty_of s i).period ≤ s.ticks =
      div-le_of_le-mul (duty_of s i).period (omega (arith, mul-le-mul_left s.ticks h.service_most)) in
      rw (r.periods_are i l, r.rates i l, r.rests i l, n.wholes i l, n.parts i l) (
        h.period_most,
        omega (arith, k.ticks_most),
        mod-lt (share_of s i) some,
        omega (arith, k.ticks_most, whole_most s i l b some h.service_most),
        mod-lt (get_or (needs_at s b) i 0) some,
      )

  module _ {i next : ℕ} {lacking : Bool} {before whole' part' units : List ℕ}
      (g : Going s b whole part before i next lacking whole' part' units) (l : i < duty_count s) where
    -- what stands at duty i is still what stood there
    here : (get_or whole' i 0 ≡ get_or whole i 0) × (get_or part' i 0 ≡ get_or part i 0)
    here =
        let l' : i < most_duties = omega (arith, k.few) in
        (turned_here g.wholes l', turned_here g.parts l')

    pub ready_now :
        (get_or periods i 0 ≤ most_ticks) × (get_or rate i 0 ≤ most_ticks) × (get_or rest i 0 < get_or periods i 0)
        × (get_or whole' i 0 ≤ most_ticks + 1) × (get_or part' i 0 < get_or periods i 0)
    ready_now = rw (here.0, here.1) (ready i l)

    -- the turn by what stands in the lists is SA2's
    pub turn_taken :
        (cut u w q : ℕ) (c m : Bool) → cut ≡ cut_at s b → c ≡ chosen_by s.ticks (get_or whole' i 0) (get_or part' i 0) i cut
        → (let need = next_by (get_or periods i 0) (get_or rate i 0) (get_or rest i 0) (get_or part' i 0) c in
        u ≡ get_or whole' i 0 + one_if c - 1 → w ≡ need / get_or periods i 0 → q ≡ need % get_or periods i 0
        → m ≡ eqb (get_or whole' i 0 + one_if c) 0 → Took s (needs_at s b) i u w q m)
    turn_taken cut u w q c m e =
        took s (needs_at s b) i _ _ _ _ _ cut u w q c m l (r.periods_are i l) (r.rates i l) (r.rests i l)
        (here.0 ∙ n.wholes i l) (here.1 ∙ n.parts i l) e

    -- one duty more
    pub going_more :
        (u w q : ℕ) (m : Bool) → Took s (needs_at s b) i u w q m → w ≤ most_ticks + 2 → duty_count s ≤ length before
        → Going s b whole part before (i + 1) (next + w) (lacking || m) (set whole' i w) (set part' i q) (set units i u)
    going_more u w q m t a h =
        let l' : i < most_duties = omega (arith, k.few) in
        let after : get_or (needs_at s (b + 1)) i 0 ≡ next_need s (needs_at s b) i = rw (add-one b) (need_next s i l b) in
        let whole_is : w ≡ wholes_of s (b + 1) i = t.whole_next ∙ rw after in
        record {
          wholes = turned_more w g.wholes l' whole_is;
          parts = turned_more q g.parts l' (t.part_next ∙ rw after);
          given = turned_more u g.given (omega arith) t.given;
          sum = omega (arith, g.sum, whole_is, sum_more i (wholes_of s (b + 1)));
          lacked = rw (g.lacked, t.lacked) (sym (any-more (lacks s (needs_at s b)) i));
          most = omega (arith, g.most);
        }

  -- all of them: whether some duty lacked, what the block gave, the next block's needs
  module _ {i next : ℕ} {lacking : Bool} {before whole' part' units : List ℕ}
      (g : Going s b whole part before i next lacking whole' part' units) (e : i ≡ duty_count s) where
    pub going_lacked : lacking ≡ lack_at s b
    going_lacked = g.lacked ∙ ap (any (lacks s (needs_at s b))) e

    pub going_written : duty_count s ≤ length before → units ≡ over (allotments s b) before
    unfolding allotments
    going_written h =
        turned_over before g.given refl (omega arith) ∙ ap (λ (j : ℕ). over (tab j (given_in s b)) before) e

pub going_paced :
    {s : Sharing} {b i next : ℕ} {lacking : Bool} {whole part before units : List ℕ} (l : Lists)
    → Shareable s → Rated s l.periods l.rate l.rest → Going s b whole part before i next lacking l.whole l.part units → i ≡ duty_count s
    → Paced s (b + 1) next l
going_paced {s} {b} l k r g e =
    record {
      shareable = k;
      rated = r;
      needed = record { wholes = λ j h. g.wholes.done j (omega arith); parts = λ j h. g.parts.done j (omega arith) };
      long = (g.wholes.long, g.parts.long);
      sum = g.sum ∙ ap (λ (j : ℕ). sum_to j (wholes_of s (b + 1))) e;
    }

-- what stands in paces, by what they are seen as
pub opened : {p q : Pace} {t : ℕ} {l : Lists} → p ≡ q → Paced p.sharing p.block t l → Paced q.sharing q.block t l
opened e k = rw (← e) k

pub closed : {p q : Pace} {t : ℕ} {l : Lists} → p ≡ q → Paced q.sharing (q.block + 1) t l → Paced p.sharing (p.block + 1) t l
closed e k = rw e k

pub count : {p q : Pace} → p ≡ q → duty_count p.sharing ≡ duty_count q.sharing
count = ap (λ (p : Pace). duty_count p.sharing)

-- ---- step 1, and the end of a block

-- the free units, where the needs' whole units are no more than the engines have; else the block comes short
module _ {s : Sharing} {b total : ℕ} {l : Lists} (p : Paced s b total l) where
  module _ (n : ℕ) (e : n ≡ duty_count s) where
    pub free_is : (f : ℕ) → f ≡ s.engines * s.ticks + n - total → f ≡ free_at s b
    unfolding free
    free_is f h = h ∙ rw (e, p.sum)

    not_over : total ≤ s.engines * s.ticks + n → overfull s (needs_at s b) ≡ false
    unfolding overfull
    not_over h = le-ltb (s.engines * s.ticks + duty_count s) (sum_to (duty_count s) (wholes_of s b)) (omega (arith, p.sum))

    pub over_short : (total ≤ s.engines * s.ticks + n → ⊥) → short_at s b ≡ true
    unfolding short overfull
    over_short h =
        lt_or_le (s.engines * s.ticks + n) total
        (λ l. rw (lt-ltb (s.engines * s.ticks + duty_count s) (sum_to (duty_count s) (wholes_of s b)) (omega (arith, p.sum)))
        (or_true (lack_at s b)))
        (λ l. absurd (h l))

    pub lack_tells : (lacking : Bool) → lacking ≡ lack_at s b → total ≤ s.engines * s.ticks + n → short_at s b ≡ lacking
    unfolding short
    lack_tells lacking l h = rw (not_over h, l) (or_false (lack_at s b))

    -- by what step 1 answers, which is none where the needs are too many: its free units, and whether the block comes short
    pub free_or : (r : Option ℕ) → SomeIff r (total ≤ s.engines * s.ticks + n) (s.engines * s.ticks + n - total)
        → unwrap_or r 0 ≡ free_at s b
    free_or None h =
        lt_or_le (s.engines * s.ticks + n) total (λ l. free_is 0 (omega arith)) (λ l. absurd (h l))
    free_or (Some f) h = free_is f h.1

    pub short_or :
        (r : Option ℕ) (lacking none : Bool) → SomeIff r (total ≤ s.engines * s.ticks + n) (s.engines * s.ticks + n - total)
        → lacking ≡ lack_at s b → is_some r ≡ not none → lacking || none ≡ short_at s b
    short_or None lacking true h l i = or_true lacking ∙ sym (over_short h)
    short_or None lacking false h l i = not_both i refl
    short_or (Some f) lacking true h l i = not_both refl i
    short_or (Some f) lacking false h l i = or_false lacking ∙ sym (lack_tells lacking l h.0)
