-- `frames_checkpoint::kind::commit` meets its contract.
use native.Mathlib.Omega.{arith}
use Rattle.frames.proofs.KindLaws.{commit_step}
use Rattle.record.proofs.Held.{held}
use Rattle.record.proofs.NoneLaws.{emptied_none}
use Rattle.frames_checkpoint.proofs.kind.commit.Goals as goal

pub overflow_add-s : goal.overflow_add-s
overflow_add-s c = omega (arith, (held c.args.s.now c.requires.together).commit_limit c.requires.pending)

pub returns : goal.returns
returns c =
    let s = c.args.s.now in
    let r = c.requires in
    let first = c.pending_ring.ensures.first in
    commit_step s (held s r.together) r.none_waits r.pending _ _ first (emptied_none s.pending)
