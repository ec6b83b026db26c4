-- `record_hold::hold::listed` meets its contract.
use Rattle.record.proofs.HoldTests.{counts_tell, spans_small}
use Rattle.record_hold.proofs.hold.listed.Goals as goal

pub committed_listed-requires : goal.committed_listed-requires
committed_listed-requires c =
    let small = spans_small c.args.s.now c.requires.counts c.requires.spans in
    record { area = small.area; entries = small.committed; taken = small.pages }

pub changes_hold-requires : goal.changes_hold-requires
changes_hold-requires c =
    let s = c.args.s.now in
    let small = spans_small s c.requires.counts c.requires.spans in
    record { area = small.area; entries = (counts_tell s c.requires.counts).pending; taken = small.pending_taken }

pub changes_hold-requires-then-changes_hold : goal.changes_hold-requires-then-changes_hold
changes_hold-requires-then-changes_hold c =
    let s = c.args.s.now in
    let small = spans_small s c.requires.counts c.requires.spans in
    record { area = small.area; entries = (counts_tell s c.requires.counts).current; taken = small.current_taken }
