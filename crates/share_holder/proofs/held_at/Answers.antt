-- `held_at`: what is left of the place after the duties before duty i tells whether the place is duty i's; where it is not, the duties
-- after it have the place if any has.
use Prim.Native.Nat.{ℕ, ◌+◌, ◌-◌, ◌≤◌, ◌<◌}
use mathlib.Core.Path.{◌≡◌, sym, ap, ◌∙◌}
use mathlib.Core.List.{List, ◌∷◌}
use native.Mathlib.Omega.{arith}
use lib.ListN.{length}
use borrow.Author.Rules.{rules}
use Rattle.std.specs.Prelude.{Some}
use Rattle.plan_laws.proofs.Line.{on_line, first_has, first_not, none_has}
use Rattle.share_holder.proofs.held_at.Goals as goal

-- where `left` of the place p is left for a duty of n units and the duties after it
has : (n : ℕ) (ns : List ℕ) (i left p : ℕ) → left ≤ p → left < n → on_line (n ∷ ns) i (p - left) p ≡ Some i
has n ns i left p a h = first_has n ns i (p - left) p (omega arith) (omega arith)

not : (n : ℕ) (ns : List ℕ) (i left p : ℕ) → left ≤ p → n ≤ left → on_line (n ∷ ns) i (p - left) p ≡ on_line ns (i + 1) (p - (left - n)) p
not n ns i left p a h =
    let e : p - left + n ≡ p - (left - n) = omega arith in
    rw (← e) (first_not n ns i (p - left) p (omega arith) (omega arith))

pub returns-then-left-n : goal.returns-then-left-n
returns-then-left-n c =
    let step = c.in-Some.ensures.steps in
    rw (step.0.0) (sym (rw step.1 (has c.in-Some.n.now _ _ c.loop-i.left _ (search rules) (search rules))) ∙ c.loop-i.invariant.2)

pub loop-i-preserved : goal.loop-i-preserved
loop-i-preserved c =
    let args = c.args in
    let loop = c.loop-i in
    let next = c.next.new.self in
    let step = c.in-Some.ensures.steps in
    let a = loop.invariant.0 in
    let l = ap length step.1 in
    let n = c.in-Some.n.now in
    let m : on_line (n ∷ next.b.rest.now) c.in-Some.i (args.place - loop.left) args.place ≡ on_line args.units.now 0 0 args.place
    = rw (← step.1, step.0.0) loop.invariant.2 in (
      omega arith,
      omega (arith, step.0, l, loop.invariant.1),
      rw step.0.1 (sym (not n next.b.rest.now c.in-Some.i loop.left args.place a (search rules)) ∙ m),
    )

pub returns : goal.returns
returns c =
    let loop = c.loop-i in
    sym (none_has loop.i-iterator.b.rest.now loop.i-iterator.a.start _ _ (search rules)) ∙ loop.invariant.2
