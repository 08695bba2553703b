-- What looking through all blocks comes to.
use Rattle.std.specs.Prelude.{ℕ, ◌≡◌, Result, Ok, Err, ⊤, List}
use Rattle.laws.specs.Lists.{over}
use Rattle.paper.specs.declared.Refusal.{Refusal}
use Rattle.paper.specs.Outcome.{answer, refused_as}
use Rattle.paper.specs.Sa2.{Sharing, allotments}
use Rattle.paper.specs.Shares.{blocks, steady}
use Rattle.share_laws.specs.Cut.{HasCuts}

-- no block comes short: what block `keep` gives is laid over the list that was `before`, and all blocks' cuts are kept
pub record Looked (s : Sharing) (keep : ℕ) (before after cuts : List ℕ) : Type 0 where
  pub good : steady s ≡ answer s
  pub kept : after ≡ over (allotments s keep) before
  pub cut : HasCuts s 0 (blocks s) cuts

-- or 23
abbrev pub Looks : Sharing → (keep : ℕ) → Result ⊤ Refusal → (before after cuts : List ℕ) → Type 0
Looks s keep (Ok u) before after cuts = Looked s keep before after cuts
Looks s keep (Err why) before after cuts = steady s ≡ refused_as why
