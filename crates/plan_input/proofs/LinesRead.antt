-- The duties on their way: those read so far stand in the two lists, and with those of the lines that are left they are the
-- duties of the whole text. A good line adds one duty at the end; a faulty line makes the whole text faulty there.
-- Assumes nothing.
use Prim.Native.Nat.{ℕ, ◌+◌, ◌-◌, ◌≤◌, ◌<◌}
use mathlib.Core.Path.{◌≡◌, refl, sym, ap, ◌∙◌}
use mathlib.Core.Bool.{true, false}
use mathlib.Core.List.{List, [], ◌∷◌, ◌++◌, map, append_assoc, append-nil, map-append}
use native.Mathlib.Nat.{add_assoc}
use native.Mathlib.Omega.{arith}
use lib.ListN.{length, get_or, take, drop, set, replicate, length-append, length-drop, length-map, drop_of_length-le}
use lib.ListN.{get_or-append, get_or-eq_default}
use lib.Seq.{drop-drop, get_or-append_seam}
use Rattle.laws.proofs.Cases.{lt_or_le}
use Rattle.laws.proofs.Lists.{set-tab, tab_zeros}
use Rattle.laws.proofs.Writing.{length-lent}
use Rattle.paper.specs.declared.Duty.{Duty}
use Rattle.paper.specs.declared.Input.{Input}
use Rattle.paper.specs.Duties.{services_of, periods_of}
use Rattle.paper.specs.Outcome.{Outcome, refused, answer, and_then}
use Rattle.paper.specs.Limits.{most_duties}
use Rattle.paper.specs.Text.{lines_of, duty_line_good, duty_read, duties_from, roomy, input_read}
use Rattle.line_read.specs.Line.{line_good}
use Rattle.plan_input.specs.AsWanted.{with_engines}
use Rattle.plan_input.proofs.Lines.{feed_in, lines_none, good-parts, duties_none, duties_line}

-- services and periods: the two lists after i duties; at: where the lines that are left start
pub record LinesRead (b services periods : List ℕ) (i at : ℕ) : Type 0 where
  pub read : List Duty
  pub many : length read ≡ i
  pub service : services ≡ roomy (services_of read)
  pub period : periods ≡ roomy (periods_of read)
  pub left : and_then (duties_from (i + 2) (lines_of (drop at b))) (λ ds. answer (read ++ ds)) ≡ duties_from 2 (lines_of b)

then_same : (o : Outcome (List Duty)) → and_then o (λ ds. answer ds) ≡ o
then_same (refused n p) = refl
then_same (answer ds) = refl

-- no duty is read yet: zeros are two lists with none
pub roomy_none : replicate most_duties 0 ≡ roomy []
roomy_none = tab_zeros most_duties (λ k. 0) (λ k. refl)

pub none_read : (b : List ℕ) → LinesRead b (replicate most_duties 0) (replicate most_duties 0) 0 0
none_read b = record { read = []; many = refl; service = roomy_none; period = roomy_none; left = then_same (duties_from 2 (lines_of b)) }

-- a duty after those read is one before those that are left
then_next : (read : List Duty) (x : Duty) (o : Outcome (List Duty))
    → and_then o (λ ds. answer ((read ++ (x ∷ [])) ++ ds)) ≡ and_then (and_then o (λ ds. answer (x ∷ ds))) (λ ds. answer (read ++ ds))
then_next read x (refused n p) = refl
then_next read x (answer ds) = ap answer (append_assoc read (x ∷ []) ds)

-- one more entry changes no other
at_other : (l : List ℕ) (v k : ℕ) → (k ≡ length l → ⊥) → get_or l k 0 ≡ get_or (l ++ (v ∷ [])) k 0
at_other l v k h =
    lt_or_le k (length l) (λ q. sym (get_or-append l (v ∷ []) 0 k q))
    (λ q. get_or-eq_default l 0 q ∙ sym (get_or-eq_default (l ++ (v ∷ [])) 0 (rw length-append (past q (λ e. h e)))))
  where
    past : length l ≤ k → (k ≡ length l → ⊥) → length l + 1 ≤ k
    past q n = omega arith

-- a number stored behind those that are there
roomy-more : (l : List ℕ) (v i : ℕ) → length l ≡ i → i < most_duties → set (roomy l) i v ≡ roomy (l ++ (v ∷ []))
roomy-more l v i e h =
    set-tab most_duties i v (λ k. get_or l k 0) (λ k. get_or (l ++ (v ∷ [])) k 0) h (rw (← e) (sym (get_or-append_seam l v [] 0)))
    (λ k n. at_other l v k (λ p. n (p ∙ e)))

-- .. which are those of the duties read
field_more : (f : Duty → ℕ) (ds : List Duty) (x : Duty) (i : ℕ) {l : List ℕ} → length ds ≡ i → i < most_duties → l ≡ roomy (map f ds)
    → set l i (f x) ≡ roomy (map f (ds ++ (x ∷ [])))
field_more f ds x i e h p = rw (p, map-append f ds (x ∷ [])) (roomy-more (map f ds) (f x) i (length-map ds f ∙ e) h)

-- after a good line, whose line feed stands at k of the rest
pub one_more :
    (b services periods : List ℕ) (i at : ℕ) (xs : List ℕ) (k : ℕ) (x : Duty) → LinesRead b services periods i at → xs ≡ drop at b
    → k ≡ feed_in xs → line_good i xs k ≡ true → x ≡ duty_read (take k xs)
    → LinesRead b (set services i x.service) (set periods i x.period) (i + 1) (at + k + 1)
one_more b services periods i at xs k x r e f g d =
    record {
      read = r.read ++ (x ∷ []);
      many = length-append r.read (x ∷ []) ∙ omega (arith, r.many);
      service = field_more (λ y. y.service) r.read x i r.many (good-parts i xs k g).1 r.service;
      period = field_more (λ y. y.period) r.read x i r.many (good-parts i xs k g).1 r.period;
      left = then_next r.read x (duties_from (i + 1 + 2) (lines_of (drop (at + k + 1) b)))
          ∙ ap (λ (o : Outcome (List Duty)). and_then o (λ ds. answer (r.read ++ ds))) (sym here) ∙ r.left;
    }
  where
    here :
        duties_from (i + 2) (lines_of (drop at b))
        ≡ and_then (duties_from (i + 1 + 2) (lines_of (drop (at + k + 1) b))) (λ ds. answer (x ∷ ds))
    here =
        let after : drop (k + 1) xs ≡ drop (at + k + 1) b =
        ap (drop (k + 1)) e ∙ drop-drop (k + 1) at b ∙ ap (λ (n : ℕ). drop n b) (sym (add_assoc at k 1)) in
        let long : 0 < length xs = omega (arith, (good-parts i xs k g).0) in
        rw (← e) (duties_line i xs k true f long g ∙ rw (after, d))

-- the text that is lent on, from `at`
abbrev pub rest : List ℕ → ℕ → List ℕ
rest b at = take (length b - at) (drop at b)

-- a good line is a duty's, there is room for it, and what is left starts further on within the text
abbrev pub Ahead : List ℕ → (i at k : ℕ) → Type 0
Ahead b i at k =
    (duty_line_good (take k (rest b at)) ≡ true) × (i < most_duties) × (at + k + 1 ≤ length b) × (length b - (at + k + 1) < length b - at)

pub ahead : (b : List ℕ) (i at k : ℕ) → at < length b → line_good i (rest b at) k ≡ true → Ahead b i at k
ahead b i at k h g =
    let p = good-parts i (rest b at) k g in
    (p.2, p.1, omega (arith, p.0, length-lent at b), omega (arith, p.0, length-lent at b))

-- at a faulty line
pub broken :
    (b services periods : List ℕ) (e i at : ℕ) (xs : List ℕ) (k : ℕ) → LinesRead b services periods i at → xs ≡ drop at b
    → k ≡ feed_in xs → at < length b → line_good i xs k ≡ false
    → refused 9 (i + 2) ≡ input_read (with_engines e (duties_from 2 (lines_of b)))
broken b services periods e i at xs k r d f h g =
    let long : 0 < length xs = rw (d, length-drop) (omega arith) in
    let bad = duties_line i xs k false f long g in
    rw (← r.left, ← d, bad)

-- at the end of the text
pub finished :
    (b services periods : List ℕ) (e i at : ℕ) → LinesRead b services periods i at → length b ≤ at
    → ◌≡◌ {A = Outcome Input} (answer (record { engines = e; duties = i; services = services; periods = periods }))
    (input_read (with_engines e (duties_from 2 (lines_of b))))
finished b services periods e i at r h =
    let whole : duties_from 2 (lines_of b) ≡ answer r.read =
    sym r.left ∙ rw (drop_of_length-le b h, lines_none, duties_none (i + 2), append-nil) in
    rw (whole, r.service, r.period, length-map, ← r.many)
