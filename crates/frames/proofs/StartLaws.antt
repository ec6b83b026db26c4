-- The record that start makes of a card: what it means, and that it holds together.
-- Assumes nothing.
use Prim.Native.Nat.{ℕ, ◌/◌, ◌≤◌, ◌<◌}
use borrow.Author.Tests.{ne_eqb}
use lib.ListN.{length}
use mathlib.Core.Bool.{true}
use mathlib.Core.List.{List, [], ◌∷◌}
use mathlib.Core.Path.{◌≡◌, refl, ap, sym, ◌∙◌}
use native.Mathlib.Decide.{ℕ_discrete}
use native.Mathlib.Nat.{add-zero}
use native.Mathlib.Omega.{arith}
use Rattle.card.proofs.AllLaws.{tab_all}
use Rattle.card.proofs.BytesLaws.{tab_length}
use Rattle.card.proofs.CheckpointLaws.{whole_tells, uncommitted_is}
use Rattle.card.proofs.DirectoryLaws.{entries_length}
use Rattle.card.proofs.QuestionLaws.{passed_both, header_tells, trailer_tells, groups_passed, header_numbered}
use Rattle.card.proofs.RangeLaws.{geometry_tells}
use Rattle.card.proofs.RingLaws.{size_some}
use Rattle.card.specs.Block.{block_at, whole}
use Rattle.card.specs.Checkpoint.{HeaderPassed}
use Rattle.card.specs.Directory.{entry_in, entries_of, read_dir}
use Rattle.card.specs.Header.{header_on}
use Rattle.card.specs.Question.{ask, first_no, header_ranges, header_asks, trailer_fits, entries_fit, committed_on, entries_on, generation_asks, card_asks}
use Rattle.card.specs.Range.{geometry_fits}
use Rattle.card.specs.Ring.{ring_at, half, generation_size}
use Rattle.card.specs.declared.checkpoint.Checkpoint.{Checkpoint}
use Rattle.card.specs.declared.directory.Entry.{Entry}
use Rattle.card.specs.declared.trailer.Trailer.{Trailer}
use Rattle.frames.proofs.RisingLaws.{frames_rise}
use Rattle.frames.specs.Parts.{Startable, Started}
use Rattle.record.proofs.Held.{Filed, Held, together}
use Rattle.record.proofs.NoneLaws.{NoChange, none_means, none_size, none_listed}
use Rattle.record.proofs.SoundLaws.{committed_size_lem}
use Rattle.record.specs.Meaning.{waits, committed_of, pending_first, current_first, phase_of, state_of}
use Rattle.record.specs.declared.store.Changes.{Changes}
use Rattle.record.specs.declared.store.Store.{Store}
use Rattle.recovery.proofs.Accept.{entries_told}
use Rattle.recovery.specs.Sound.{Home}
use Rattle.recovery.specs.State.{committed_size, empty, owed}
use Rattle.recovery.specs.Step.{start_committed, start_state}

-- the record of what was read, with p pending and q current
abbrev start_store : List ℕ → List ℕ → Checkpoint → Changes → Changes → Store
start_store memory card c p q = record {
  frames = length memory / 512;
  head = 0;
  geometry = record { blocks = length card / 512; area = c.header.area; count = c.header.count; ranges = c.header.ranges };
  commit = c.header.commit;
  first = c.trailer.first;
  pages = c.trailer.pages;
  committed = c.directory;
  migrated = 0;
  pending = p;
  tail = 0;
  current = q;
  phase = 2;
}

module _ (memory card : List ℕ) (c : Checkpoint) (ok : Startable memory card c) where
  header_is : c.header ≡ header_on (block_at card 0)
  header_is = ok.read.read.header_is

  trailer_is : c.trailer ≡ committed_on card
  trailer_is = ok.read.read.trailer_is

  -- its entries, as the record has them
  abbrev entries : List Entry
  entries = entries_of c.header.area c.trailer.first c.directory.frames c.directory.places c.directory.count

  entries_is : entries ≡ entries_on card
  entries_is = ok.read.read.entries_is

  count_is : c.directory.count ≡ c.trailer.entries
  unfolding entries_on read_dir
  count_is = sym (entries_length c.header.area c.trailer.first c.directory.frames c.directory.places c.directory.count) ∙ ap length entries_is ∙ tab_length _ 0 (committed_on card).entries ∙ ap (λ (t : Trailer). t.entries) (sym trailer_is)

  -- ---- what was asked

  asked : HeaderPassed card c.header × (first_no (generation_asks card) ≡ 0)
  unfolding card_asks
  asked =
      let q = passed_both 2 (whole 11 65536 (length card)) _ (sym ok.read.number) in
      let r = groups_passed (header_asks (length card / 512) (header_on (block_at card 0))) (generation_asks card) (header_numbered (length card / 512) (header_on (block_at card 0))) q.1 in
      (record { card_whole = q.0; header_is = header_is; passed = rw header_is r.0 }, r.1)

  -- of the committed generation, be there one or not
  record Told : Type 0 where
    first_low : 1 ≤ c.trailer.first
    first_high : c.trailer.first ≤ c.header.area
    none : c.header.commit ≡ 0 → (c.directory.count ≡ 0) × (c.trailer.pages ≡ 0) × (c.trailer.first ≡ 1)
    some : 0 < c.header.commit → 1 ≤ c.directory.count
    few : c.directory.count ≤ c.trailer.pages
    half_fits : generation_size c.trailer.pages c.directory.count ≤ half c.header.area
    filed : Filed c.header.area (length card / 512) c.trailer.pages c.directory.frames c.directory.places c.directory.count

  geometry : geometry_fits (length card / 512) c.header.area (header_ranges c.header) ≡ true
  geometry = (header_tells (length card / 512) c.header asked.0.passed).geometry

  -- question 8 in the record's arrays
  fits_filed : entries_fit (length card / 512) c.header.area c.trailer.first c.trailer.pages c.header.area entries ≡ true
      → Filed c.header.area (length card / 512) c.trailer.pages c.directory.frames c.directory.places c.directory.count
  unfolding entries_of
  fits_filed e =
      let area = c.header.area in
      let t = entries_told (length card / 512) area c.trailer.first c.trailer.pages area entries (omega arith) e in
      record {
        home = λ i l. tab_all (Home area (length card / 512)) (entry_in area c.trailer.first c.directory.frames c.directory.places) 0 c.directory.count t.1.0 i (omega arith) (omega arith);
        rises = frames_rise area c.trailer.first c.directory.frames c.directory.places c.directory.count t.1.1.1;
        taken = ok.read.read.places_are;
      }

  told : Told
  unfolding generation_asks generation_size
  told = go (ℕ_discrete c.header.commit 0)
    where
      go : Dec (c.header.commit ≡ 0) → Told
      go (yes z) =
          let t : c.trailer ≡ record { commit = 0; first = 1; pages = 0; entries = 0 } = trailer_is ∙ uncommitted_is asked.0 z in
          let area : 8 ≤ c.header.area = (geometry_tells _ _ _ geometry).area_low in
          let count : c.directory.count ≡ 0 = count_is ∙ ap (λ (t : Trailer). t.entries) t in
          let first : c.trailer.first ≡ 1 = ap (λ (t : Trailer). t.first) t in
          record {
            first_low = omega (arith, first);
            first_high = omega (arith, first, area);
            none = λ e. (count, ap (λ (t : Trailer). t.pages) t, first);
            some = λ l. absurd (omega arith);
            few = omega (arith, count);
            half_fits = rw count (omega arith);
            filed = record { home = λ i l. absurd (omega (arith, count)); rises = λ i j l k. absurd (omega (arith, count)); taken = λ i l. absurd (omega (arith, count)) };
          }
      go (no d) =
          let rest : first_no (ask 7 (trailer_fits c.header c.trailer) ∷ ask 8 (entries_fit (length card / 512) c.header.area c.trailer.first c.trailer.pages c.header.area entries) ∷ []) ≡ 0 =
          rw (← header_is, ← trailer_is, ← entries_is, ne_eqb c.header.commit 0 d) at asked.1 in
          let q = passed_both 6 (trailer_fits c.header c.trailer) _ rest in
          let t = trailer_tells c.header c.trailer q.0 in
          record {
            first_low = t.first_low;
            first_high = t.first_high;
            none = λ e. absurd (d e);
            some = λ l. rw count_is t.some;
            few = rw count_is t.few;
            half_fits = rw (count_is, size_some c.trailer.pages c.trailer.entries t.some) t.size;
            filed = fits_filed (passed_both 7 _ _ q.1).0;
          }

  module _ (p q : Changes) (p-none : NoChange p) (q-none : NoChange q) where
    start_meaning : state_of (start_store memory card c p q) memory ≡ start_state memory card
    unfolding start_state start_committed phase_of
    start_meaning = λ i. record {
      blocks = length card / 512;
      area = (header_is i).area;
      ranges = header_ranges (header_is i);
      memory_frames = length memory / 512;
      commit = (header_is i).commit;
      committed = committed i;
      migrated = 0;
      pending = pending i;
      tail_down = 0;
      current = current i;
      phase = owed;
    }
      where
        committed : committed_of (start_store memory card c p q) ≡ start_committed card
        committed = λ i. record { first = (trailer_is i).first; places = (trailer_is i).pages; entries = entries_is i }

        first : pending_first (start_store memory card c p q) ≡ ring_at (header_on (block_at card 0)).area (start_committed card).first (committed_size (start_committed card))
        first = ap (λ (n : ℕ). ring_at c.header.area c.trailer.first n) (sym (committed_size_lem (start_store memory card c p q))) ∙ λ i. ring_at (header_is i).area (committed i).first (committed_size (committed i))

        pending : (state_of (start_store memory card c p q) memory).pending ≡ empty (ring_at (header_on (block_at card 0)).area (start_committed card).first (committed_size (start_committed card)))
        pending = none_means p p-none _ 0 _ ∙ ap empty first

        behind : current_first (start_store memory card c p q) ≡ pending_first (start_store memory card c p q)
        behind = rw (none_size p p-none, add-zero) refl

        current : (state_of (start_store memory card c p q) memory).current ≡ empty (ring_at (header_on (block_at card 0)).area (start_committed card).first (committed_size (start_committed card)))
        current = none_means q q-none _ (waits p) _ ∙ ap empty (behind ∙ first)

    start_held : Held (start_store memory card c p q)
    start_held =
        let p-size = none_size p p-none in
        let q-size = none_size q q-none in
        let long = whole_tells 4 64 (length memory) ok.memory_whole in
        record {
          geometry = geometry;
          first_low = told.first_low;
          first_high = told.first_high;
          none_committed = told.none;
          some_committed = told.some;
          committed_few = told.few;
          commit_limit = λ l. absurd (omega (arith, p-none.count));
          pending_few = omega (arith, p-none.count);
          pending_down_lem = omega (arith, p-none.down);
          none_pending = λ z. p-none.taken;
          current_few = omega (arith, q-none.count);
          current_down_lem = omega (arith, q-none.down);
          half_committed = told.half_fits;
          half_pending = omega (arith, p-size);
          half_current = omega (arith, q-size);
          room = omega (arith, told.half_fits, p-size, q-size);
          migrated_within = omega arith;
          tail_within = omega arith;
          tail_after = λ l. absurd (omega arith);
          phase_known = omega arith;
          flushed_after = λ o. absurd (omega (arith, o));
          owed_before = λ o. (refl, refl);
          head_low = omega (arith, long.1.0);
          seated = omega (arith, p-none.taken, q-none.taken);
          committed = told.filed;
          pending = none_listed p p-none c.header.area (length card / 512);
          current = none_listed q q-none c.header.area (length card / 512);
        }

    pub started : Started memory card (start_store memory card c p q)
    started = record { meaning = start_meaning; together = together (start_store memory card c p q) start_held }
