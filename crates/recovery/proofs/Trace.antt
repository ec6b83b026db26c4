-- The whole run of document 01 with document 02's flushes (#110), of the definitions, and two more snapshots behind
-- it: area 8, one range of 1 page (home block 10, its pot 9), 11 blocks, memory of 4 frames.
-- Assumes nothing.
use lib.Dec.{eqb}
use mathlib.Core.Bool.{Bool, false}
use Prim.Native.Nat.{ℕ, zero, suc}
use mathlib.Core.List.{List, [], ◌∷◌}
use mathlib.Core.Option.{Option, none, some}
use mathlib.Core.Path.{◌≡◌, refl}
use Rattle.card.specs.Question.{first_no}
use Rattle.card.specs.Ring.{ring_at, generation_size}
use Rattle.recovery.specs.Directory.{note_change, insert_by_frame, by_frame, down_entries, dir_of, turn_of}
use Rattle.recovery.specs.Questions.{snapshot_asks, page_out_asks}
use Rattle.recovery.specs.State.{places, State, size, directory_of, empty, owed}
use Rattle.recovery.specs.Step.{queued, change_frame, change_frames, after_change, after_snapshot, Kind, page, directory, trailer, migration, header, flush, oldest_bytes, out_of, trailer_block_no, next_migration, kind_write, after_kind, migration_due, advance_due, page_out_write, after_page_out, pass_to, migrating}
use Rattle.recovery.specs.Sums.{leading, passed_to, moves_of, moves_left, remaining_writes, commit_writes, forecast}

record Line : Type 0 where
  kind : Kind
  block : ℕ

line : Kind → ℕ → Line
line k n = record { kind = k; block = n }

-- the advances that are done, at most n: kind and block
traced : (State → List Line) → Option Kind → State → List Line
traced rest none s = []
traced rest (some k) s = record { kind = k; block = (kind_write k s []).block } ∷ rest (after_kind k s)

trace : ℕ → State → List Line
trace zero s = []
trace (suc n) s = traced (trace n) (advance_due s) s

-- as a start leaves it, and after the write and the snapshot
began : State
began = record {
  blocks = 11;
  area = 8;
  ranges = record { oid = 100; pages = 1 } ∷ [];
  memory_frames = 4;
  commit = 0;
  committed = record { first = 1; places = 0; entries = [] };
  migrated = 0;
  pending = empty 1;
  tail_down = 0;
  current = empty 1;
  phase = owed;
}

wrote : State
unfolding began
wrote = after_snapshot (after_change (record { frame = 10; bytes = [] } ∷ record { frame = 9; bytes = [] } ∷ []) began)

whole_run : trace 12 wrote
    ≡ line flush 0 ∷ line page 1 ∷ line page 2 ∷ line directory 3 ∷ line trailer 4 ∷ line flush 0 ∷ line header 0
    ∷ line flush 0 ∷ line migration 9 ∷ line migration 10 ∷ []
unfolding trace traced line wrote began advance_due migration_due kind_write after_kind after_change change_frames
    change_frame queued turn_of note_change after_snapshot out_of places size generation_size empty directory_of dir_of
    down_entries by_frame insert_by_frame next_migration trailer_block_no ring_at
whole_run = refl

-- the directory that goes to the card
down : State
unfolding wrote
down = after_kind page (after_kind page (after_kind flush wrote))

whole_directory : directory_of 8 down.pending
    ≡ record { frame = 9; block = 2 } ∷ record { frame = 10; block = 1 } ∷ []
unfolding down wrote began after_kind after_change change_frames change_frame queued turn_of note_change after_snapshot out_of
    places size generation_size empty directory_of dir_of down_entries by_frame insert_by_frame ring_at
whole_directory = refl

-- while the flush after a start is due page-out is refused 28; then, with nothing that waits, 19
owed_refuses : (first_no (page_out_asks began) ≡ 28) × (first_no (page_out_asks (after_kind flush began)) ≡ 19)
unfolding began page_out_asks after_kind empty first_no
owed_refuses = (refl, refl)

-- the flush before a header write is made once: a page-out after it brings no second one
covered : State
unfolding down
covered =
    after_page_out (after_change (record { frame = 10; bytes = [] } ∷ [])
    (after_kind flush (after_kind trailer (after_kind directory down))))

flushed_once : trace 5 covered ≡ line header 0 ∷ line flush 0 ∷ line migration 9 ∷ line migration 10 ∷ []
unfolding covered down trace traced line wrote began advance_due migration_due kind_write after_kind after_change
    change_frames change_frame queued turn_of note_change after_snapshot after_page_out out_of places size generation_size
    empty directory_of dir_of down_entries by_frame insert_by_frame next_migration trailer_block_no ring_at
flushed_once = refl

-- a frame that waits and changes again keeps its turn: of 10, 9 and 10 again the first page-out puts down 10 with its
-- newest bytes, the second 9
again : State
unfolding began
again =
    after_change (record { frame = 10; bytes = 8 ∷ [] } ∷ [])
    (after_change (record { frame = 9; bytes = 6 ∷ [] } ∷ [])
    (after_change (record { frame = 10; bytes = 7 ∷ [] } ∷ []) (after_kind flush began)))

turn_kept : (page_out_write again ≡ record { block = 1; bytes = 8 ∷ [] })
    × (page_out_write (after_page_out again) ≡ record { block = 2; bytes = 6 ∷ [] })
unfolding again began page_out_write after_page_out out_of oldest_bytes after_kind after_change change_frames change_frame
    queued turn_of note_change places empty ring_at
turn_kept = (refl, refl)

-- a change after a snapshot leaves the bytes that wait for it
waiting_kept : page_out_write (after_change (record { frame = 10; bytes = 5 ∷ [] } ∷ []) (after_snapshot again))
    ≡ record { block = 1; bytes = 8 ∷ [] }
unfolding again began page_out_write oldest_bytes after_kind after_change change_frames change_frame queued turn_of note_change
    after_snapshot places size generation_size empty ring_at
waiting_kept = refl

-- a snapshot is refused 17 while nothing has changed, done after a change, and refused 16 while one is pending
snapshot_asked : (first_no (snapshot_asks began) ≡ 17) × (first_no (snapshot_asks again) ≡ 0)
    × (first_no (snapshot_asks (after_snapshot again)) ≡ 16)
unfolding again began snapshot_asks after_kind after_change change_frames change_frame queued turn_of note_change
    after_snapshot places size generation_size empty ring_at first_no
snapshot_asked = (refl, refl, refl)

-- a second snapshot once M 9 is made: what is left of migration comes after the trailer, before flush and header
second : State
unfolding down
second =
    after_snapshot (after_change (record { frame = 10; bytes = [] } ∷ [])
    (after_kind migration (after_kind flush (after_kind header
    (after_kind flush (after_kind trailer (after_kind directory down)))))))

second_run : trace 12 second
    ≡ line page 5 ∷ line directory 6 ∷ line trailer 7 ∷ line migration 10 ∷ line flush 0 ∷ line header 0
    ∷ line flush 0 ∷ line migration 10 ∷ []
unfolding second down trace traced line wrote began advance_due migration_due kind_write after_kind after_change
    change_frames change_frame queued turn_of note_change after_snapshot out_of places size generation_size empty directory_of
    dir_of down_entries by_frame insert_by_frame next_migration trailer_block_no ring_at
second_run = refl

-- a third right after the header, whose flush is still due: after block 8 of the area comes block 1
third : State
unfolding second
third =
    after_snapshot (after_change (record { frame = 9; bytes = [] } ∷ [])
    (after_kind header (after_kind flush (after_kind migration
    (after_kind trailer (after_kind directory (after_kind page second)))))))

third_run : trace 12 third
    ≡ line flush 0 ∷ line page 8 ∷ line directory 1 ∷ line trailer 2 ∷ line migration 10 ∷ line flush 0
    ∷ line header 0 ∷ line flush 0 ∷ line migration 9 ∷ []
unfolding third second down trace traced line wrote began advance_due migration_due kind_write after_kind after_change
    change_frames change_frame queued turn_of note_change after_snapshot out_of places size generation_size empty directory_of
    dir_of down_entries by_frame insert_by_frame next_migration trailer_block_no ring_at
third_run = refl

-- ---- empty pages stay out of home (#104)

-- the advances that are done where frames that `over` tells are passed over
trace_past : (ℕ → Bool) → ℕ → State → List Line
trace_past over zero s = []
trace_past over (suc n) s = traced (trace_past over n) (advance_due (pass_to (passed_to over s) s)) (pass_to (passed_to over s) s)

is_page : ℕ → Bool
is_page f = eqb f 10

-- first write, rescind, snapshot: M for the pot only
rescinded : State
unfolding began
rescinded =
    after_snapshot (after_change (record { frame = 9; bytes = [] } ∷ [])
    (after_change (record { frame = 10; bytes = [] } ∷ record { frame = 9; bytes = [] } ∷ []) began))

pot_only : trace_past is_page 12 rescinded
    ≡ line flush 0 ∷ line page 1 ∷ line page 2 ∷ line directory 3 ∷ line trailer 4 ∷ line flush 0 ∷ line header 0
    ∷ line flush 0 ∷ line migration 9 ∷ []
unfolding trace_past is_page rescinded traced line began advance_due migration_due migrating leading passed_to kind_write after_kind after_change
    change_frames change_frame queued turn_of note_change after_snapshot out_of places size generation_size empty directory_of
    dir_of down_entries by_frame insert_by_frame next_migration trailer_block_no ring_at
pot_only = refl

-- the next snapshot does not wait for what is passed over
rescinded_home : State
unfolding rescinded
rescinded_home =
    after_snapshot (after_change (record { frame = 9; bytes = [] } ∷ [])
    (after_kind migration (after_kind flush (after_kind header (after_kind flush
    (after_kind trailer (after_kind directory (after_kind page (after_kind page (after_kind flush rescinded))))))))))

none_waited_for : trace_past is_page 12 rescinded_home
    ≡ line page 5 ∷ line directory 6 ∷ line trailer 7 ∷ line flush 0 ∷ line header 0 ∷ line flush 0
    ∷ line migration 9 ∷ []
unfolding trace_past is_page rescinded_home rescinded traced line began advance_due migration_due migrating leading passed_to kind_write after_kind after_change
    change_frames change_frame queued turn_of note_change after_snapshot out_of places size generation_size empty directory_of
    dir_of down_entries by_frame insert_by_frame next_migration trailer_block_no ring_at
none_waited_for = refl

-- ---- the forecast (#102)

-- before each of n advances
counted : (State → List ℕ) → Option Kind → State → List ℕ
counted rest none s = []
counted rest (some k) s = rest (after_kind k s)

countdown : (ℕ → Bool) → ℕ → State → List ℕ
countdown over zero s = []
countdown over (suc n) s =
    forecast over s
    ∷ counted (countdown over n) (advance_due (pass_to (passed_to over s) s)) (pass_to (passed_to over s) s)

none_passed : ℕ → Bool
none_passed f = false

-- along the whole run, its first F not made at the snapshot: 1 after the start, 8 after the snapshot, 0 from the F
-- after H on, while M goes on
whole-forecast : (forecast none_passed began ≡ 1)
    × (countdown none_passed 10 wrote ≡ 8 ∷ 7 ∷ 6 ∷ 5 ∷ 4 ∷ 3 ∷ 2 ∷ 1 ∷ 0 ∷ 0 ∷ [])
unfolding countdown counted none_passed forecast commit_writes remaining_writes moves_left moves_of wrote began advance_due
    migration_due migrating leading passed_to after_kind after_change change_frames change_frame queued turn_of note_change
    after_snapshot out_of places size generation_size empty directory_of dir_of down_entries by_frame insert_by_frame ring_at
whole-forecast = (refl, refl)

-- of the second snapshot with the M that is left, and of the one that does not wait for an empty page
second_forecast : (forecast none_passed second ≡ 7) × (forecast is_page rescinded_home ≡ 6)
unfolding none_passed is_page rescinded_home rescinded second down forecast commit_writes remaining_writes moves_left moves_of
    wrote began after_kind after_change change_frames change_frame queued turn_of note_change after_snapshot out_of places size
    generation_size empty directory_of dir_of down_entries by_frame insert_by_frame ring_at
second_forecast = (refl, refl)
