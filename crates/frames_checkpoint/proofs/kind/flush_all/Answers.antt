-- `frames_checkpoint::kind::flush_all` meets its contract.
use Rattle.frames.proofs.KindLaws.{flush_step}
use Rattle.record.proofs.Held.{held}
use Rattle.frames_checkpoint.proofs.kind.flush_all.Goals as goal

pub returns : goal.returns
returns c =
    let r = c.requires in
    flush_step c.args.s.now (held c.args.s.now r.together) r.writing r.pending r.tail_down r.all_home
