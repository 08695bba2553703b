-- `survey`: two passes one after the other.
use native.Mathlib.Omega.{arith}
use Rattle.std.proofs.lemmas.Result.{err_from_is_err_and}
use Rattle.share_survey.proofs.Found.{look_stopped, look_ended}
use Rattle.share_survey.proofs.survey.Goals as goal

pub returns-in_err-pass_blocks : goal.returns-in_err-pass_blocks
returns-in_err-pass_blocks c =
    let told = err_from_is_err_and c.from_residual.result c.from_residual.ensures.1 in
    let begin = c.begin-paces.ensures in
    let stopped = c.in_err-pass_blocks.ensures in
    rw (told.1, told.2) (look_stopped begin.shareable.in_blocks begin.paced stopped (omega (arith, c.requires.keep_below)))

pub returns : goal.returns
returns c =
    let begin = c.begin-paces.ensures in
    let blocks = c.blocks-blocks.ensures.value in
    look_ended begin.shareable.in_blocks begin.paced _ _ _ _ _ c.in_ok-pass_blocks.ensures blocks
    (omega (arith, c.requires.keep_below, blocks)) c.pass_blocks-2.ensures
