-- DEMAND 3: from a formatted card, after any list of calls and cuts, a start is done and writes nothing, and key and read show what the book keeps.
-- Assumes nothing.
use Prim.Native.Nat.{ℕ, zero, suc, ◌+◌, ◌/◌, ◌<◌}
use borrow.Author.Tests.{eq-eqb}
use lib.Dec.{eqb}
use lib.ListN.{length}
use mathlib.Core.Bool.{true, false, false≢true, or-false}
use mathlib.Core.List.{List, [], ◌∷◌}
use mathlib.Core.Option.{none, some}
use mathlib.Core.Path.{◌≡◌, refl, ap, sym, ◌∙◌}
use native.Mathlib.Omega.{arith}
use Rattle.card.proofs.AddressLaws.{located}
use Rattle.card.proofs.QuestionLaws.{none_asked, asked_yes, group_yes}
use Rattle.card.specs.Block.{block_at, whole}
use Rattle.card.specs.Header.{header_on}
use Rattle.card.specs.Question.{ask, first_no, header_ranges}
use Rattle.card.specs.Range.{locate, Lookup, Located}
use Rattle.card.specs.declared.range.Address.{Address}
use Rattle.frames.proofs.ReadyLaws.{has_frames}
use Rattle.frames.proofs.Recovery.{frames_recover}
use Rattle.frames.proofs.Run.{start_lent, stays, first_world, Serves}
use Rattle.frames.specs.Promise.{Lent, lent, meaning_of, common, FrameAnswer, FrameKept}
use Rattle.pages.proofs.AnswerLaws.{asked_own, on_located, asks-numbered, change_none, block_done, kept_done, lowered}
use Rattle.pages.proofs.FormatLaws.{format_area, format_ranges, format_accepted, format_shows, format_done}
use Rattle.pages.proofs.RunLaws.{Beside, serves, address_is, page_shown, called_beside, run_beside, spoilt_run, needs}
use Rattle.pages.specs.Book.{Book, Event, format_book, is_done, is_flush, told, book_after}
use Rattle.pages.specs.Call.{PageCall, key, read, start, on, Answer, done, counted, filled, page_asks, edits, page_answer}
use Rattle.pages.specs.Change.{applied, at_place, edit_frames}
use Rattle.pages.specs.Demand3.{World, Run, OfRanges, Shows, Demand3, Demand3Spoilt}
use Rattle.pages.specs.Page.{empty_page, page_of, format_card}
use Rattle.pages.specs.Promise.{address_of, present_page, call_frames, asks, frame_call, done_answer, outcome, Kept, ranges_in, format_asks, FormatKept}
use Rattle.record.specs.Meaning.{zero_store}
use Rattle.recovery.proofs.FrameTheorem.{all_needed, accepted_stored, stored_long}
use Rattle.recovery.specs.Questions.{start_asks}
use Rattle.recovery.specs.State.{State, read_frame}
use Rattle.recovery.specs.Step.{start_state}
use Rattle.recovery.specs.Write.{Drive, put_all, seen, Left, Spoilt}
use Rattle.frames.proofs.KeepLaws as keep
use Rattle.frames.specs.Promise as frames

-- the place of an OID by a card's header
abbrev place_on : List ℕ → ℕ → Lookup
place_on card o = locate (header_ranges (header_on (block_at card 0))) (1 + (header_on (block_at card 0)).area) o

module _ (m₀ card₀ : List ℕ) (accepted : first_no (start_asks m₀ card₀) ≡ 0) where
  -- ---- what key and read answer where a record is held

  module _ (w : World) (b : Book) (s : Beside m₀ card₀ accepted w b) (l : Lent) (held : w.held ≡ some l) (low : 0 < l.store.frames)
      (o : ℕ) (p : Address) (at_p : place_on card₀ o ≡ Located p) where
    passes : first_no (common l) ≡ 0
    passes = (serves m₀ card₀ accepted w b s l held low).passes

    place_is : address_of l o ≡ Located p
    place_is = address_is m₀ card₀ accepted w b s l held low o ∙ at_p

    page_is : present_page l p ≡ b.present o
    page_is = page_shown m₀ card₀ accepted w b s l held low o p at_p

    -- a call that changes no frame, and passes what is asked of the page
    passes_on : (c : PageCall) → edits o c ≡ [] → first_no (page_asks c (b.present o)) ≡ 0 → first_no (asks (on o c) l) ≡ 0
    unfolding call_frames edit_frames
    passes_on c nothing ok = asked_own (on o c) l tt passes ∙ on_located o c l p place_is
        ∙ rw (nothing, page_is) (group_yes (page_asks c (b.present o)) _ (asks-numbered c (b.present o)) ok ∙ (change_none (meaning_of l)).0)

    answers_on : (c : PageCall) → first_no (asks (on o c) l) ≡ 0 → (a : Answer) (l' : Lent) → Kept (on o c) l a l' → a ≡ page_answer c (b.present o)
    unfolding done_answer at_place
    answers_on c ok a l' k = (kept_done (on o c) l l' a k ok).0 ∙ rw place_is (ap (page_answer c) page_is)

    key_passes : first_no (asks (on o key) l) ≡ 0
    unfolding edits page_asks
    key_passes = passes_on key refl none_asked

    key_shows : (a : Answer) (l' : Lent) → Kept (on o key) l a l' → (a ≡ counted (b.present o).count) × (0 < l'.store.frames)
    unfolding page_answer frame_call call_frames edits edit_frames frames.after
    key_shows a l' k =
        let frames-is : l'.store.frames ≡ l.store.frames = ap (λ (x : State). x.memory_frames) (k.meaning key_passes ∙ (change_none (meaning_of l)).1) in
        (answers_on key key_passes a l' k, omega (arith, frames-is, low))

    read_shows : (buffer : List ℕ) → length buffer ≡ 512 → (a : Answer) (l' : Lent) → Kept (on o (read (b.present o).count buffer)) l a l' → a ≡ filled 0 (b.present o).bytes
    unfolding page_answer edits page_asks
    read_shows buffer long a l' k =
        let n = (b.present o).count in
        let ok = asked_yes 10 (eqb n n) (ask 11 (eqb (length buffer) 512) ∷ []) (eq-eqb n n refl) ∙ asked_yes 11 _ [] (eq-eqb _ _ long) ∙ none_asked in
        answers_on (read n buffer) (passes_on (read n buffer) refl ok) a l' k

  -- ---- a start

  module _ (w : World) (b : Book) (s : Beside m₀ card₀ accepted w b) (m : List ℕ) (memory : whole 4 64 (length m) ≡ true) where
    recovers : (a : FrameAnswer) (l : Lent) → FrameKept (frames.start m) (start_lent m (seen w.drive)) a l → (a ≡ frames.done) × (l.card ≡ seen w.drive) × Serves card₀ l
    recovers a l k = let q = frames_recover (needs m₀ card₀ accepted) m₀ card₀ accepted s.frames s.run m memory a l (rw s.seen_is k) in (q.0, q.1 ∙ s.seen_is, q.2)

    -- a refused start would keep the frame layer's promise too, and the frame theorem says of every start that keeps it that it is done
    start_passes : first_no (asks (start m) (lent zero_store m (seen w.drive))) ≡ 0
    unfolding asks frames.asks
    start_passes = go (first_no (start_asks m (seen w.drive))) refl
      where
        go : (n : ℕ) → first_no (start_asks m (seen w.drive)) ≡ n → first_no (start_asks m (seen w.drive)) ≡ 0
        go zero e = e
        go (suc n) e =
            let d : frames.refused (suc n) ≡ frames.done = (recovers _ _ (keep.kept_refused (frames.start m) (start_lent m (seen w.drive)) (suc n) e (λ q. omega (arith, q)))).0 in
            let z : ◌≡◌ {A = ℕ} 0 1 = cc in
            absurd (omega arith)

    module _ (a : Answer) (l : Lent) (k : Kept (start m) (lent zero_store m (seen w.drive)) a l) where
      start_done : a ≡ done
      unfolding done_answer
      start_done = (kept_done (start m) (lent zero_store m (seen w.drive)) l a k start_passes).0

      started : (l.card ≡ seen w.drive) × Serves card₀ l
      unfolding frame_call frames.done_answer
      started = let q = recovers _ l (lowered (start m) (lent zero_store m (seen w.drive)) l a k start_passes) in (q.1, q.2)

      -- the world after it, and its book: what is kept is present
      after_start : Beside m₀ card₀ accepted (record { drive = w.drive; held = some l; complete = w.complete }) (record { present = b.kept; marked = none; kept = b.kept; before = b.before })
      unfolding told is_done is_flush frame_call frames.done_write
      after_start = rw (start_done, none_written, or-false w.complete) at (called_beside m₀ card₀ accepted w b s (start m) a _ l refl k)
        where
          none_written : (outcome (start m) (lent zero_store m (seen w.drive))).write ≡ none
          none_written = block_done (start m) (lent zero_store m (seen w.drive)) start_passes

      start_shows : (o : ℕ) (p : Address) → place_on card₀ o ≡ Located p → Shows l o (b.kept o)
      unfolding told is_done edits applied
      start_shows o p at_p x y l₁ l₂ buffer long kx ky =
          let q = key_shows _ _ after_start l refl (has_frames l started.1.passes) o p at_p x l₁ kx in
          let after-key = rw q.0 at (called_beside m₀ card₀ accepted _ _ after_start (on o key) x l l₁ refl kx) in
          (q.0, read_shows _ _ after-key l₁ refl q.1 o p at_p buffer long y l₂ ky)

-- ---- a formatted card

module _ (area : ℕ) (numbers before card : List ℕ) (k : FormatKept area numbers before done card) where
  format_passes : first_no (format_asks area numbers before) ≡ 0
  format_passes = (format_done area numbers before card k).0

  card_is : card ≡ format_card area (ranges_in numbers) before
  card_is = (format_done area numbers before card k).1

  -- its header tells the geometry that was asked for
  place_same : (o : ℕ) → place_on card o ≡ locate (ranges_in numbers) (1 + area) o
  place_same o = rw (card_is, format_ranges area numbers before format_passes, format_area area numbers before format_passes)

  -- every OID of them has a place by it
  place_of : (o : ℕ) → OfRanges numbers o → (p : Address) × (place_on card o ≡ Located p)
  place_of o r = let q = located numbers (length numbers / 2) (1 + area) o r.0 r.1 r.2 r.3 in (q.0, place_same o ∙ q.1)

  module _ (m : List ℕ) (memory : whole 4 64 (length m) ≡ true) where
    formatted : first_no (start_asks m card) ≡ 0
    formatted = rw card_is (format_accepted area numbers before format_passes m memory)

    first_pages : (o : ℕ) (p : Address) → place_on card o ≡ Located p → page_of (read_frame (start_state m card) card) p ≡ empty_page
    first_pages o p e = rw card_is (format_shows area numbers before format_passes o p (sym (place_same o) ∙ e) m)

    first_long : (f : ℕ) → (header_on (block_at card 0)).area < f → f < length card / 512 → length (read_frame (start_state m card) card f) ≡ 512
    first_long f a b = stored_long {needed = all_needed} _ _ _ card _ (accepted_stored m card formatted) f a b refl

    first_beside : (v : Drive) → seen v ≡ card → Beside m card formatted (record { drive = v; held = none; complete = false }) format_book
    unfolding put_all
    first_beside v e =
        record {
          frames = first_world m card;
          run = stays _;
          seen_is = sym e;
          drive_is = λ q. absurd (false≢true q);
          held_is = refl;
          same = record { long_present = first_long; long_marked = first_long; long_kept = first_long; present_is = first_pages; marked_is = first_pages; kept_is = first_pages; both_marked = tt };
          before_is = tt;
        }

    reached : (v : Drive) → seen v ≡ card → (es : List Event) (w : World) → Run Spoilt es (record { drive = v; held = none; complete = false }) w → Beside m card formatted w (book_after es format_book)
    reached v e es w run = run_beside m card formatted es _ w format_book run (first_beside v e)

pub demand_3_spoilt : Demand3Spoilt
demand_3_spoilt area numbers before card k v e es w run m memory a l p =
    let s = reached area numbers before card k m memory v e es w run in (
      start_done m card _ w _ s m memory a l p,
      (started m card _ w _ s m memory a l p).0,
      (λ o r. let q = place_of area numbers before card k o r in start_shows m card _ w _ s m memory a l p o q.0 q.1),
    )

pub demand_3 : Demand3
demand_3 area numbers before card k v e es w run m memory a l p = demand_3_spoilt area numbers before card k v e es w (spoilt_run es _ w run) m memory a l p

-- start accepts every card that a finished format and later calls wrote, cut off or not
pub start_accepts : (area : ℕ) (numbers before card : List ℕ) → FormatKept area numbers before done card → (v : Drive) → seen v ≡ card → (es : List Event) (w : World)
    → Run Left es (record { drive = v; held = none; complete = false }) w
    → (m : List ℕ) → whole 4 64 (length m) ≡ true → (a : Answer) (l : Lent) → Kept (start m) (lent zero_store m (seen w.drive)) a l → a ≡ done
start_accepts area numbers before card k v e es w run m memory a l p = (demand_3 area numbers before card k v e es w run m memory a l p).0
