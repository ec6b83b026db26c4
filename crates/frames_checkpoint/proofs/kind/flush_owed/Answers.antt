-- `frames_checkpoint::kind::flush_owed` meets its contract.
use Rattle.frames.proofs.KindLaws.{owed_step}
use Rattle.record.proofs.Held.{held}
use Rattle.frames_checkpoint.proofs.kind.flush_owed.Goals as goal

pub returns : goal.returns
returns c = owed_step c.args.s.now (held c.args.s.now c.requires.together) c.requires.owed
