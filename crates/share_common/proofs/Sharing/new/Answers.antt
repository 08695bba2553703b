-- `Sharing::new`: without a common multiple there are too many blocks, and past that the overload is told by it.
use mathlib.Core.Path.{sym}
use Rattle.share_common.proofs.Counting.{counted, many, much, fits}
use Rattle.share_common.proofs.Sharing.new.Goals as goal

pub common_of-requires : goal.common_of-requires
common_of-requires c = (c.requires.in_blocks.ticks_some, c.requires.ticks_most)

pub is_overload-requires : goal.is_overload-requires
is_overload-requires c = c.requires.engines_most

pub nonzero_div-result : goal.nonzero_div-result
nonzero_div-result c = c.requires.in_blocks.ticks_some

pub returns-in_default : goal.returns-in_default
returns-in_default c = sym (many _ c.requires c.in_default.ensures)

pub returns-then-is_overload : goal.returns-then-is_overload
returns-then-is_overload c =
    let common = c.in-Some.ensures in
    sym (much _ c.requires _ common.1 common.0 _ c.is_overload.ensures c.if-is_overload.true)

pub invariant_of-result : goal.invariant_of-result
invariant_of-result c =
    let common = c.in-Some.ensures in
    counted _ c.requires _ common.1 common.0

pub returns : goal.returns
returns c =
    let common = c.in-Some.ensures in
    sym (fits _ c.requires _ common.1 common.0 _ c.is_overload.ensures c.if-is_overload.false)
