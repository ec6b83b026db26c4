-- The ledger keeps step with the state: asked, changed and written on alike, with bytes or without.
-- Assumes nothing.
use Prim.Native.Nat.{ℕ, zero, suc, ◌+◌}
use lib.Dec.{ltb}
use lib.ListN.{length, replicate, drop, set, length-set, length-append, length-replicate}
use mathlib.Core.Bool.{Bool, true, false, cond}
use mathlib.Core.List.{List, [], ◌∷◌, ◌++◌, tail}
use mathlib.Core.Option.{Option, none, some}
use mathlib.Core.Path.{◌≡◌, refl, ap, ◌∙◌}
use native.Mathlib.Omega.{arith}
use Rattle.card.specs.Ring.{generation_size}
use Rattle.pages.specs.Plain.{blank_generation, blank, touched}
use Rattle.recovery.specs.Contents.{FrameBytes}
use Rattle.recovery.specs.Directory.{note_change, turn_of}
use Rattle.recovery.specs.Questions.{new_places, room_asks, advance_asks}
use Rattle.recovery.specs.Sound.{Rises}
use Rattle.recovery.specs.State.{Generation, State, places, entry_count, size, directory_of, empty}
use Rattle.recovery.specs.Step.{pending_to, current_to, queued, change_frame, change_frames, after_change, after_snapshot, Kind, page, directory, trailer, migration, header, flush, out_of, after_kind, migration_due, advance_due, migrating, after_page_out}
use Rattle.recovery.specs.Sums.{leading, passed_to, moves_left, commit_sum}

-- changed frames by their numbers
unfoldable pub blank_frames : List FrameBytes → List FrameBytes
blank_frames [] = []
blank_frames (w ∷ ws) = touched w.frame ∷ blank_frames ws

abbrev blanks : ℕ → List (List ℕ)
blanks n = replicate n []

long_blanks : (n : ℕ) → length (blanks n) ≡ n
long_blanks n = length-replicate {A = List ℕ} n []

-- ---- a generation

pub blank-waits : (g : Generation) → length (blank_generation g).waiting ≡ length g.waiting
unfolding blank_generation
blank-waits g = long_blanks (length g.waiting)

blank-places : (g : Generation) → places (blank_generation g) ≡ places g
unfolding places blank_generation
blank-places g = omega (arith, long_blanks (length g.waiting))

blank-size : (g : Generation) → size (blank_generation g) ≡ size g
unfolding size
blank-size g = ap (λ (n : ℕ). generation_size n (entry_count (blank_generation g))) (blank-places g) ∙ (unfold blank_generation in refl)

more_blanks : (n : ℕ) → blanks n ++ ([] ∷ []) ≡ blanks (suc n)
more_blanks zero = refl
more_blanks (suc n) = ap (λ (l : List (List ℕ)). [] ∷ l) (more_blanks n)

set-blanks : (n i : ℕ) → set (blanks n) i [] ≡ blanks n
set-blanks zero i = refl
set-blanks (suc n) zero = refl
set-blanks (suc n) (suc i) = ap (λ (l : List (List ℕ)). [] ∷ l) (set-blanks n i)

blank-queued : (t : Option ℕ) (w : FrameBytes) (g : Generation) → queued t (touched w.frame) (blank_generation g) ≡ blank_generation (queued t w g)
unfolding queued blank_generation
blank-queued none w g =
    let p : places (record { first = g.first; pages_down = g.pages_down; entries = g.entries; waiting = blanks (length g.waiting) }) ≡ places g = blank-places g in
    let n : length (g.waiting ++ (w.bytes ∷ [])) ≡ suc (length g.waiting) = omega (arith, length-append g.waiting (w.bytes ∷ [])) in
    rw (p, n) (ap (λ (l : List (List ℕ)). record { first = g.first; pages_down = g.pages_down; entries = note_change (record { frame = w.frame; place = places g }) g.entries; waiting = l }) (more_blanks (length g.waiting)))
blank-queued (some i) w g =
    rw (length-set g.waiting i w.bytes) (ap (λ (l : List (List ℕ)). record { first = g.first; pages_down = g.pages_down; entries = g.entries; waiting = l }) (set-blanks (length g.waiting) i))

blank_changes : (ws : List FrameBytes) (g : Generation) → change_frames (blank_frames ws) (blank_generation g) ≡ blank_generation (change_frames ws g)
unfolding change_frames blank_frames
blank_changes [] g = refl
blank_changes (w ∷ ws) g = ap (change_frames (blank_frames ws)) one ∙ blank_changes ws (change_frame w g)
  where
    one : change_frame (touched w.frame) (blank_generation g) ≡ blank_generation (change_frame w g)
    one = unfold change_frame blank_generation in (blank-queued (turn_of w.frame g.pages_down g.entries) w g)

blank-empty : (first : ℕ) → blank_generation (empty first) ≡ empty first
unfolding blank_generation empty
blank-empty first = refl

blank_out : (g : Generation) → out_of (blank_generation g) ≡ blank_generation (out_of g)
unfolding out_of blank_generation
blank_out g = ap (λ (l : List (List ℕ)). record { first = g.first; pages_down = suc g.pages_down; entries = g.entries; waiting = l }) (go g.waiting)
  where
    go : (xs : List (List ℕ)) → tail (blanks (length xs)) ≡ blanks (length (tail xs))
    go [] = refl
    go (x ∷ xs) = refl

module _ (s : State) where
  -- ---- what the ledger is asked

  pub blank_room : (ws : List FrameBytes) → room_asks (blank_frames ws) (blank s) ≡ room_asks ws s
  unfolding room_asks new_places after_change blank
  blank_room ws =
      rw (blank_changes ws s.current, blank-places (change_frames ws s.current), blank-places s.current, blank-size (change_frames ws s.current), blank-size s.pending, blank-waits s.pending, blank-waits s.current)

  pub blank_due : advance_due (blank s) ≡ advance_due s
  unfolding advance_due migration_due blank blank_generation
  blank_due = rw (long_blanks (length s.pending.waiting))

  blank-migrating : migrating (blank s) ≡ migrating s
  unfolding migrating blank blank_generation
  blank-migrating = rw (long_blanks (length s.pending.waiting))

  pub blank_passed : (over : ℕ → Bool) → passed_to over (blank s) ≡ passed_to over s
  unfolding passed_to blank
  blank_passed over = ap (λ (t : Bool). s.migrated + cond t (leading over (drop s.migrated s.committed.entries)) 0) blank-migrating

  pub blank-sum : (over : ℕ → Bool) → commit_sum over (blank s) ≡ commit_sum over s
  unfolding commit_sum moves_left blank blank_generation
  blank-sum over = rw (long_blanks (length s.pending.waiting))

  pub blank-advance_asks : advance_asks (blank s) ≡ advance_asks s
  unfolding advance_asks
  blank-advance_asks = rw blank_due

  pub blank_rises : Rises s.current.entries → Rises (blank s).current.entries
  unfolding blank blank_generation
  blank_rises up = up

  -- ---- what a call makes of it

  pub blank_change : (ws : List FrameBytes) → after_change (blank_frames ws) (blank s) ≡ blank (after_change ws s)
  unfolding after_change blank
  blank_change ws = rw (blank_changes ws s.current)

  pub blank_snapshot : after_snapshot (blank s) ≡ blank (after_snapshot s)
  unfolding after_snapshot blank
  blank_snapshot = rw (blank-size s.current, blank-empty) (unfold blank_generation in refl)

  pub blank_page_out : after_page_out (blank s) ≡ blank (after_page_out s)
  unfolding after_page_out blank
  blank_page_out = rw (blank-waits s.pending) (go (ltb 0 (length s.pending.waiting)))
    where
      go : (t : Bool) → cond t (pending_to (out_of (blank_generation s.pending)) s.tail_down (blank s)) (current_to (out_of (blank_generation s.current)) (blank s))
          ≡ blank (cond t (pending_to (out_of s.pending) s.tail_down s) (current_to (out_of s.current) s))
      go true = rw (blank_out s.pending)
      go false = rw (blank_out s.current)

  pub blank_kind : (k : Kind) → after_kind k (blank s) ≡ blank (after_kind k s)
  unfolding after_kind blank
  blank_kind page = rw (blank_out s.pending)
  blank_kind directory = refl
  blank_kind trailer = refl
  blank_kind migration = refl
  blank_kind header = rw blank-empty (unfold blank_generation directory_of in refl)
  blank_kind flush = refl
