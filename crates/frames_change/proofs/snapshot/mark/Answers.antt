-- `frames_change::snapshot::mark` meets its contract.
use Rattle.frames.proofs.MarkLaws.{mark_done}
use Rattle.record.proofs.NoneLaws.{emptied, emptied_none}
use Rattle.frames_change.proofs.snapshot.mark.Goals as goal

pub returns : goal.returns
returns c =
    let s = c.args.s.now in
    let r = c.requires in
    mark_done s (emptied s.current) (emptied_none s.current)
    (r.together, (r.none_pending, (r.changed, r.commit_low)))
