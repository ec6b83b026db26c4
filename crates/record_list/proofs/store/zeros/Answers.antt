-- `record_list::store::zeros` meets its contract: each field is its type's default.
use Rattle.record.proofs.ListLaws.{zeros_are}
use Rattle.record.proofs.NoneLaws.{zero_changes_are}
use Rattle.record.specs.Meaning.{zero_store}
use Rattle.record_list.proofs.store.zeros.Goals as goal

pub returns : goal.returns
unfolding zero_store
returns c =
    let head = c.default.ensures.1 in
    let geometry = head.1.0 in
    let commit = head.1.1 in
    let pages = commit.1.1.1 in
    let committed = pages.1.0 in
    let migrated = pages.1.1 in
    let pending = migrated.1.0 in
    let tail = migrated.1.1 in
    let current = tail.1 in
    let ranges = zeros_are _ 16 geometry.1.1.1.long (λ k. geometry.1.1.1.at k 0) in
    let frames = zeros_are _ 256 committed.1.0.long (λ k. committed.1.0.at k 0) in
    let places = zeros_are _ 256 committed.1.1.long (λ k. committed.1.1.at k 0) in
    let none = zero_changes_are _ pending.0 pending.1.0 pending.1.1.0
    (zeros_are _ 256 pending.1.1.1.0.long (λ k. pending.1.1.1.0.at k 0))
    (zeros_are _ 256 pending.1.1.1.1.long (λ k. pending.1.1.1.1.at k 0)) in
    let fresh = zero_changes_are _ current.0 current.1.0 current.1.1.0
    (zeros_are _ 256 current.1.1.1.0.long (λ k. current.1.1.1.0.at k 0))
    (zeros_are _ 256 current.1.1.1.1.long (λ k. current.1.1.1.1.at k 0)) in
    λ i. record {
      frames = c.default.ensures.0 i;
      head = head.0 i;
      geometry = record { blocks = geometry.0 i; area = geometry.1.0 i; count = geometry.1.1.0 i; ranges = ranges i };
      commit = commit.0 i;
      phase = commit.1.0 i;
      first = commit.1.1.0 i;
      pages = pages.0 i;
      committed = record { count = committed.0 i; frames = frames i; places = places i };
      migrated = migrated.0 i;
      pending = none i;
      tail = tail.0 i;
      current = fresh i;
    }
