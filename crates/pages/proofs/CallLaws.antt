-- The page layer's calls keep their promise: a law for each way in which a call ends.
-- Assumes nothing.
use Prim.Native.Nat.{ℕ, ◌+◌, ◌<◌}
use borrow.Author.Tests.{ltb-true, eq-eqb, ne_eqb}
use lib.Dec.{leb, ltb, eqb}
use lib.ListN.{length}
use mathlib.Core.Bool.{true, false}
use mathlib.Core.List.{List, [], ◌∷◌, ◌++◌}
use mathlib.Core.Logic.{◌≢◌}
use mathlib.Core.Path.{◌≡◌, refl, ap, sym, ◌∙◌, subst}
use native.Mathlib.Omega.{arith}
use Rattle.std.specs.Prelude.{Ok, Err}
use Rattle.card.specs.Refusal.{number}
use Rattle.card.specs.declared.refusal.Refusal.{Refusal}
use Rattle.card.specs.Range.{Located}
use Rattle.card.specs.Bytes.{patch}
use Rattle.card.specs.Pot.{count_at, flags_at, put_flags, is_zero, clear_zero}
use Rattle.card.specs.Question.{Question, first_no}
use Rattle.card.specs.declared.range.Address.{Address}
use Rattle.frames.proofs.KeepLaws.{numbered_no, numbered-done}
use Rattle.frames.proofs.ReadyLaws.{common_passed, common_refused, ready}
use Rattle.frames.specs.Parts.{frames_with, ChangeKept, Foretells}
use Rattle.frames.specs.Promise.{Lent, lent, meaning_of, common, FrameAnswer, FrameKept, numbered}
use Rattle.pages.proofs.AnswerLaws.{change_none, keeps_no, keeps_same, lifted}
use Rattle.pages.proofs.EditLaws.{frames_one}
use Rattle.pages.proofs.NamedLaws.{positive, Found, found_together, one_frame, two_frames, Stops, rest_asked, present_count, key_asks, Keyed, keyed_asks}
use Rattle.pages.specs.Call.{PageCall, key, read, write, rescind, start, on, snapshot, page_out, advance, forecast, refused, done, counted, filled, page_asks, edits, page_answer, page_refusal}
use Rattle.pages.specs.Change.{put, empty, write_frames, rescind_pot, changed_frames, at_place, edit_frames}
use Rattle.pages.specs.Page.{page_bytes, page_of}
use Rattle.pages.specs.Promise.{answered, counted_as, foretold_as, address_of, present_frames, present_page, call_frames, asks, frame_call, done_answer, refusal, Kept, over, passed_of}
use Rattle.record.specs.declared.store.Store.{Store}
use Rattle.recovery.specs.Contents.{FrameBytes}
use Rattle.recovery.specs.Questions.{room_asks}
use Rattle.recovery.specs.Sums as sums
use Rattle.frames.specs.Promise as frames

-- ---- calls that are the frame layer's

module _ (l l' : Lent) (a : FrameAnswer) where
  pub start_kept : (m : List ℕ) → FrameKept (frames.start m) l a l' → Kept (start m) l (answered a) l'
  unfolding asks frames.asks frame_call done_answer frames.done_answer refusal answered
  start_kept m k = lifted (start m) l l' a k refl refl (λ n. refl)

  pub snapshot_kept : FrameKept frames.snapshot l a l' → Kept snapshot l (answered a) l'
  unfolding asks frames.asks frame_call done_answer frames.done_answer refusal answered
  snapshot_kept k = lifted snapshot l l' a k refl refl (λ n. refl)

  pub page_out_kept : FrameKept frames.page_out l a l' → Kept page_out l (answered a) l'
  unfolding asks frames.asks frame_call done_answer frames.done_answer refusal answered
  page_out_kept k = lifted page_out l l' a k refl refl (λ n. refl)

  pub advance_kept : FrameKept (frames.advance (passed_of l)) l a l' → Kept advance l (answered a) l'
  unfolding asks frames.asks frame_call done_answer refusal answered
  advance_kept k = lifted advance l l' a k refl refl (λ n. refl)

-- advance asks 1 to 3 itself, and tells the frame layer how many entries are home or passed over
pub advance_refused : (l : Lent) (r : Refusal) → number r ≡ first_no (common l) → Kept advance l (answered (frames.refused (number r))) l
unfolding asks frame_call refusal answered
advance_refused l r e = keeps_no advance l (number r) (common_refused l.store (length l.memory) (length l.card) _ (λ q. positive r (e ∙ q)) ∙ sym e) (positive r)

pub advance_kept_by : (l l' : Lent) (a : FrameAnswer) (n : ℕ) → n ≡ passed_of l → FrameKept (frames.advance n) l a l' → Kept advance l (answered a) l'
advance_kept_by l l' a n e k = advance_kept l l' a (subst (λ (m : ℕ). FrameKept (frames.advance m) l a l') e k)

-- ---- forecast

pub forecast_refused : (l : Lent) (r : Refusal) → number r ≡ first_no (common l) → Kept forecast l (foretold_as (Err r)) l
unfolding asks frame_call refusal foretold_as
forecast_refused l r e = keeps_no forecast l (number r) (sym e) (positive r)

pub forecast-done : (l : Lent) (n : ℕ) → first_no (common l) ≡ 0 → (moves : ℕ) → (0 < l.store.pending.count → moves ≡ sums.moves_left (over l) (meaning_of l)) → Foretells l.store moves n
    → Kept forecast l (foretold_as (Ok n)) l
unfolding foretold_as done_answer
forecast-done l n h moves e f = rw (f (over l) l.memory e)
    (keeps_same forecast l (unfold asks in h) (unfold frame_call in refl) (ready l.store (length l.memory) (length l.card) h).together)

-- ---- the frames that a call on a page changes, in document 01's words

module _ (l : Lent) (o : ℕ) where
  -- key, read and a write of length 0: none
  pub key_frames : call_frames o key l ≡ []
  unfolding call_frames edits edit_frames
  key_frames = refl

  pub read_frames : (count : ℕ) (x : List ℕ) → call_frames o (read count x) l ≡ []
  unfolding call_frames edits edit_frames
  read_frames count x = refl

  pub nothing_frames : (count at : ℕ) (new : List ℕ) → length new ≡ 0 → call_frames o (write count at new) l ≡ []
  unfolding call_frames edits edit_frames
  nothing_frames count at new e = rw (eq-eqb (length new) 0 e)

  module _ (p : Address) (at_p : address_of l o ≡ Located p) where
    -- any other write: the page, then, if the flag was set, the pot, equal bytes or not
    pub write_frames_lem : (count at : ℕ) (new : List ℕ) → length new ≢ 0 → call_frames o (write count at new) l ≡ write_frames (present_frames l) p at new
    unfolding call_frames edits changed_frames
    write_frames_lem count at new some = rw (ne_eqb (length new) 0 some) (frames_one (address_of l) o p at_p (put at new) (present_frames l))

    -- a rescind: the pot alone
    pub rescind_frames : (count : ℕ) → call_frames o (rescind count) l ≡ record { frame = p.pot; bytes = rescind_pot (present_frames l p.pot) p.entry } ∷ []
    unfolding call_frames edits changed_frames
    rescind_frames count = frames_one (address_of l) o p at_p empty (present_frames l)

-- 12 to 14 over them are asked last
abbrev pub rest_asks : ℕ → PageCall → Lent → List Question
rest_asks o c l = room_asks (call_frames o c l) (meaning_of l)

-- a call that changes none
looked : (l : Lent) (o : ℕ) (c : PageCall) → call_frames o c l ≡ [] → {p : Address} → Found l o p → first_no (asks (on o c) l) ≡ first_no (rest_asks o c l) → Kept (on o c) l (done_answer (on o c) l) l
unfolding frame_call
looked l o c none f e = keeps_same (on o c) l (e ∙ rw none (change_none (meaning_of l)).0) (ap frames.change none) (found_together l o _ f)

-- ---- key

module _ (l : Lent) (o : ℕ) where
  pub key_refused : (r : Refusal) → Stops l o (λ p. rest_asks o key l) (number r) → Kept (on o key) l (counted_as (Err r)) l
  unfolding asks page_asks frame_call refusal page_refusal counted_as
  key_refused r q = keeps_no (on o key) l (number r) q.number_is q.some

  pub key_done : (p : Address) → Found l o p → {pot : List ℕ} → pot ≡ present_frames l p.pot → {count : ℕ} → count ≡ count_at pot p.entry → Kept (on o key) l (counted_as (Ok count)) l
  unfolding asks page_asks done_answer page_answer counted_as at_place page_of
  key_done p f pot_is {count} count_is =
      let answer : done_answer (on o key) l ≡ counted count = rw f.place_is (ap counted (sym (count_is ∙ ap (λ (x : List ℕ). count_at x p.entry) pot_is))) in
      rw (← answer) (looked l o key (key_frames l o) f (rest_asked l o (λ q. rest_asks o key l) p f))

-- ---- read

module _ (l : Lent) (o count : ℕ) (x : List ℕ) where
  pub read_refused : {n : ℕ} → Stops l o (λ p. key_asks (present_count l p) count 11 (eqb (length x) 512) ++ rest_asks o (read count x) l) n → Kept (on o (read count x)) l (filled n x) l
  unfolding asks page_asks frame_call refusal page_refusal page_of
  read_refused {n} q = keeps_no (on o (read count x)) l n q.number_is q.some

  pub read_done : (p : Address) (pot : List ℕ) → Keyed l o count p pot (eqb (length x) 512) → {y : List ℕ} → y ≡ page_bytes (present_frames l) p → Kept (on o (read count x)) l (filled 0 y) l
  unfolding asks page_asks done_answer page_answer at_place page_of
  read_done p pot k {y} e =
      let answer : done_answer (on o (read count x)) l ≡ filled 0 y = rw k.found.place_is (ap (filled 0) (sym e)) in
      rw (← answer) (looked l o (read count x) (read_frames l o count x) k.found (keyed_asks l o count p pot 11 (eqb (length x) 512) (λ q. rest_asks o (read count x) l) k))

-- ---- calls on a page that answer by number, in a record `d` with the store that they leave

answered-done : answered (numbered 0) ≡ done
unfolding answered
answered-done = rw numbered-done

module _ (l : Lent) (o : ℕ) (c : PageCall) (numbers : (n : ℕ) → page_refusal c n ≡ refused n) where
  -- refused: all is as it was
  on_refused : (n : ℕ) → Stops l o (λ p. page_asks c (present_page l p) ++ rest_asks o c l) n
      → Kept (on o c) l (answered (numbered n)) l
  unfolding asks frame_call refusal answered
  on_refused n q = rw (numbered_no n q.some, ← numbers n) (keeps_no (on o c) l n q.number_is q.some)

  module _ (p : Address) (f : Found l o p) (ends : page_answer c (present_page l p) ≡ done) (asked : first_no (asks (on o c) l) ≡ first_no (rest_asks o c l)) where
    ends_done : done_answer (on o c) l ≡ done
    unfolding done_answer at_place
    ends_done = rw f.place_is ends

    -- done, and no frame changes
    on_nothing : call_frames o c l ≡ [] → (n : ℕ) → n ≡ 0
        → Kept (on o c) l (answered (numbered n)) l
    on_nothing none n z = rw (z, answered-done, ← ends_done) (looked l o c none f asked)

    -- its frames go to the frame layer, which asks 12 to 14
    on_changed : (names bytes : List ℕ) → frames_with names bytes ≡ call_frames o c l → (n : ℕ) {t : Store} {after : List ℕ} → ChangeKept l.store l.memory names bytes n t after
        → Kept (on o c) l (answered (numbered n)) (lent t after l.card)
    unfolding frame_call refusal frames.asks frames.done_answer answered
    on_changed names bytes are n {t} {after} k =
        (lifted (on o c) l (lent t after l.card) (numbered n) (rw (← are) (k l.card f.passed))
        (asked ∙ sym (common_passed l.store (length l.memory) (length l.card) (rest_asks o c l) f.passed)) ends_done numbers)

-- ---- rescind

module _ (l : Lent) (o count : ℕ) where
  pub rescind_refused : (n : ℕ) → Stops l o (λ p. key_asks (present_count l p) count 15 (ltb count 4294967295) ++ rest_asks o (rescind count) l) n
      → Kept (on o (rescind count)) l (answered (numbered n)) l
  unfolding page_asks page_refusal page_of
  rescind_refused n q = on_refused l o (rescind count) (λ n. refl) n q

  module _ (p : Address) (pot : List ℕ) (k : Keyed l o count p pot (ltb count 4294967295)) where
    -- the count can rise
    pub rescind_few : count_at pot p.entry < 4294967295
    rescind_few = omega (arith, k.count_is, ltb-true count 4294967295 k.own_is)

    pub rescind_done : {f : ℕ} → f ≡ p.pot → (x : List ℕ) → length x ≡ 512 → x ≡ rescind_pot pot p.entry → (n : ℕ) {t : Store} {after : List ℕ}
        → ChangeKept l.store l.memory (f ∷ []) x n t after
        → Kept (on o (rescind count)) l (answered (numbered n)) (lent t after l.card)
    unfolding asks page_asks page_answer page_refusal page_of
    rescind_done {f} name x long x-is n c =
        on_changed l o (rescind count) (λ n. refl) p k.found refl (keyed_asks l o count p pot 15 _ (λ q. rest_asks o (rescind count) l) k)
        (f ∷ []) x (one_frame f x long ∙ pot_named ∙ sym (rescind_frames l o p k.found.place_is count)) n c
      where
        pot_named : ◌≡◌ {A = List FrameBytes} (record { frame = f; bytes = x } ∷ []) (record { frame = p.pot; bytes = rescind_pot (present_frames l p.pot) p.entry } ∷ [])
        pot_named = rw (name, x-is, k.pot_is) refl

-- ---- write

module _ (l : Lent) (o count at : ℕ) (new : List ℕ) where
  pub write_refused : (n : ℕ) → Stops l o (λ p. key_asks (present_count l p) count 11 (leb (at + length new) 512) ++ rest_asks o (write count at new) l) n
      → Kept (on o (write count at new)) l (answered (numbered n)) l
  unfolding page_asks page_refusal page_of
  write_refused n q = on_refused l o (write count at new) (λ n. refl) n q

  module _ (p : Address) (pot : List ℕ) (k : Keyed l o count p pot (leb (at + length new) 512)) where
    write_room : first_no (asks (on o (write count at new)) l) ≡ first_no (rest_asks o (write count at new) l)
    unfolding asks page_asks page_of
    write_room = keyed_asks l o count p pot 11 _ (λ q. rest_asks o (write count at new) l) k

    -- no bytes: no frame changes
    pub write_nothing : length new ≡ 0 → (n : ℕ) → n ≡ 0
        → Kept (on o (write count at new)) l (answered (numbered n)) l
    unfolding page_answer page_refusal
    write_nothing e n z = on_nothing l o (write count at new) (λ n. refl) p k.found refl write_room (nothing_frames l o count at new e) n z

    module _ (some : length new ≢ 0) (x : List ℕ) (x-long : length x ≡ 512) (x-is : x ≡ patch (page_bytes (present_frames l) p) at new) (n : ℕ) {t : Store} {after : List ℕ} where
      write_kept : (names bytes : List ℕ) → frames_with names bytes ≡ write_frames (present_frames l) p at new → ChangeKept l.store l.memory names bytes n t after
          → Kept (on o (write count at new)) l (answered (numbered n)) (lent t after l.card)
      unfolding page_answer page_refusal
      write_kept names bytes are c =
          on_changed l o (write count at new) (λ n. refl) p k.found refl write_room names bytes (are ∙ sym (write_frames_lem l o p k.found.place_is count at new some)) n c

      -- the flag is clear: the page alone
      pub write_page : is_zero (flags_at pot p.entry) ≡ false → {f : ℕ} → f ≡ p.page → ChangeKept l.store l.memory (f ∷ []) x n t after
          → Kept (on o (write count at new)) l (answered (numbered n)) (lent t after l.card)
      unfolding write_frames
      write_page flag {f} name c = write_kept (f ∷ []) x (one_frame f x x-long ∙ rw (name, x-is, ← k.pot_is, flag) refl) c

      -- it is set: the page, then the pot
      pub write_both : is_zero (flags_at pot p.entry) ≡ true → (y : List ℕ) → length y ≡ 512 → y ≡ put_flags pot p.entry (clear_zero (flags_at pot p.entry))
          → {f g : ℕ} → f ≡ p.page → g ≡ p.pot → {both : List ℕ} → both ≡ x ++ y → ChangeKept l.store l.memory (f ∷ g ∷ []) both n t after
          → Kept (on o (write count at new)) l (answered (numbered n)) (lent t after l.card)
      unfolding write_frames
      write_both flag y y-long y-is {f} {g} name other {both} both_is c =
          write_kept (f ∷ g ∷ []) both (ap (frames_with (f ∷ g ∷ [])) both_is ∙ two_frames f g x y x-long y-long ∙ rw (name, other, x-is, y-is, ← k.pot_is, flag) refl) c
