-- `frames_advance::advance::pass` meets its contract.
use Rattle.frames.proofs.KindLaws.{pass_holds}
use Rattle.record.proofs.Held.{held}
use Rattle.frames_advance.proofs.advance.pass.Goals as goal

pub returns-clause-together : goal.returns-clause-together
returns-clause-together c =
    let s = c.args.s.now in
    let r = c.requires in
    pass_holds s (held s r.together) c.args.passed r.forward r.inside r.calm
