-- Room for a change: what questions 12 to 14 tell of the state after it, and that room asked once over a list of frames is room for its frames one after the other.
-- Assumes nothing.
use Prim.Native.Nat.{ℕ, suc, ◌+◌, ◌-◌, ◌/◌, ◌≤◌, ◌<◌}
use borrow.Author.Tests.{leb-true, eqb-true, eqb-false, le-leb, ne_eqb}
use lib.Dec.{leb, eqb}
use lib.ListN.{length, length-append, length-set}
use mathlib.Core.Bool.{Bool, true, false, cond}
use mathlib.Core.List.{List, [], ◌∷◌}
use mathlib.Core.Logic.{◌≢◌, ◌⊎◌, inl, inr}
use mathlib.Core.Option.{Option, none, some}
use mathlib.Core.Path.{◌≡◌, refl, ap, sym, ◌∙◌}
use native.Mathlib.Nat.{add_assoc}
use native.Mathlib.Omega.{arith}
use Rattle.card.proofs.QuestionLaws.{none_asked, asked_yes, passed_both}
use Rattle.card.proofs.RingLaws.{size_more}
use Rattle.card.proofs.Test.{by_test}
use Rattle.card.specs.Question.{ask, first_no}
use Rattle.card.specs.Ring.{generation_size}
use Rattle.recovery.proofs.SumLaws.{Distinct, one_place, one_entry, one_down, others-places, others_entries, same_room, one_rises}
use Rattle.recovery.specs.Contents.{FrameBytes}
use Rattle.recovery.specs.Directory.{turn_of}
use Rattle.recovery.specs.Questions.{new_places, room_asks}
use Rattle.recovery.specs.State.{Generation, State, places, entry_count, size, committed_size}
use Rattle.recovery.specs.Step.{queued, change_frame, change_frames, after_change}
use Rattle.recovery.specs.Sums.{waits_in, places_needed, entries_needed, size_after, room_sums}
use Rattle.recovery.specs.Sound.{Rises}

-- ---- how a change grows a generation, and what room tells of the state after it

grows_one : (w : FrameBytes) (g : Generation) → (places (change_frame w g) ≡ suc (places g)) ⊎ ((places (change_frame w g) ≡ places g) × ((change_frame w g).entries ≡ g.entries))
unfolding change_frame
grows_one w g = go (turn_of w.frame g.pages_down g.entries)
  where
    go : (t : Option ℕ) → (places (queued t w g) ≡ suc (places g)) ⊎ ((places (queued t w g) ≡ places g) × ((queued t w g).entries ≡ g.entries))
    go none = unfold queued places in (inl (omega (arith, length-append g.waiting (w.bytes ∷ []))))
    go (some i) = unfold queued places in (inr (omega (arith, length-set g.waiting i w.bytes), refl))

-- it loses no place, puts nothing down, and enters nothing if it takes no place
pub grows : (ws : List FrameBytes) (g : Generation) → (places g ≤ places (change_frames ws g)) × ((change_frames ws g).pages_down ≡ g.pages_down) × (places (change_frames ws g) ≡ places g → (change_frames ws g).entries ≡ g.entries)
unfolding change_frames
grows [] g = (omega arith, refl, λ e. refl)
grows (w ∷ ws) g = go (grows_one w g) (grows ws (change_frame w g))
  where
    go : (places (change_frame w g) ≡ suc (places g)) ⊎ ((places (change_frame w g) ≡ places g) × ((change_frame w g).entries ≡ g.entries))
        → (places (change_frame w g) ≤ places (change_frames ws (change_frame w g))) × ((change_frames ws (change_frame w g)).pages_down ≡ (change_frame w g).pages_down) × (places (change_frames ws (change_frame w g)) ≡ places (change_frame w g) → (change_frames ws (change_frame w g)).entries ≡ (change_frame w g).entries)
        → (places g ≤ places (change_frames ws (change_frame w g))) × ((change_frames ws (change_frame w g)).pages_down ≡ g.pages_down) × (places (change_frames ws (change_frame w g)) ≡ places g → (change_frames ws (change_frame w g)).entries ≡ g.entries)
    go (inl p) r = (omega arith, r.1 ∙ one_down w g, λ e. absurd (omega (arith, r.0)))
    go (inr p) r = (omega arith, r.1 ∙ one_down w g, λ e. r.2 (e ∙ sym p.0) ∙ p.1)

-- the sums of 12 to 14, after a change
abbrev pub Room : Generation → State → Type 0
Room g s = (size g ≤ s.area / 2) × (committed_size s.committed + size s.pending + size g ≤ s.area) × (length s.pending.waiting + length g.waiting ≤ s.memory_frames)

waiting_grows : (ws : List FrameBytes) (g : Generation) → length (change_frames ws g).waiting ≡ length g.waiting + (places (change_frames ws g) - places g)
unfolding places
waiting_grows ws g = let r = grows ws g in omega (arith, r.0, r.1)

size-told : (g h : Generation) → places g ≡ places h → g.entries ≡ h.entries → size g ≡ size h
unfolding size
size-told g h p e = cc (p, ap length e)

room_kept : (ws : List FrameBytes) (s : State) → places (change_frames ws s.current) - places s.current ≡ 0 → Room s.current s → Room (change_frames ws s.current) s
room_kept ws s e r =
    let q = grows ws s.current in
    let same : places (change_frames ws s.current) ≡ places s.current = omega (arith, q.0) in
    let entries-same : (change_frames ws s.current).entries ≡ s.current.entries = q.2 same in
    let size_same : size (change_frames ws s.current) ≡ size s.current = size-told (change_frames ws s.current) s.current same entries-same in
    (omega (arith, size_same), omega (arith, size_same), omega (arith, waiting_grows ws s.current))

-- what 12 to 14 keep is kept
pub room_told : (ws : List FrameBytes) (s : State) → first_no (room_asks ws s) ≡ 0 → Room s.current s → Room (change_frames ws s.current) s
unfolding room_asks new_places after_change
room_told ws s = go (eqb (places (change_frames ws s.current) - places s.current) 0) refl
  where
    go : (b : Bool) → eqb (places (change_frames ws s.current) - places s.current) 0 ≡ b
        → first_no (cond b [] (ask 12 (leb (size (change_frames ws s.current)) (s.area / 2))
        ∷ ask 13 (leb (committed_size s.committed + size s.pending + size (change_frames ws s.current)) s.area)
        ∷ ask 14 (leb (length s.pending.waiting + length s.current.waiting + (places (change_frames ws s.current) - places s.current)) s.memory_frames) ∷ [])) ≡ 0
        → Room s.current s → Room (change_frames ws s.current) s
    go true e h r = room_kept ws s (eqb-true _ 0 e) r
    go false e h r =
        let q = passed_both 11 (leb (size (change_frames ws s.current)) (s.area / 2)) _ h in
        let q' = passed_both 12 (leb (committed_size s.committed + size s.pending + size (change_frames ws s.current)) s.area) _ q.1 in
        let q'' = passed_both 13 (leb (length s.pending.waiting + length s.current.waiting + (places (change_frames ws s.current) - places s.current)) s.memory_frames) [] q'.1 in
        (leb-true _ _ q.0, leb-true _ _ q'.0, omega (arith, waiting_grows ws s.current, leb-true (length s.pending.waiting + length s.current.waiting + (places (change_frames ws s.current) - places s.current)) s.memory_frames q''.0))

-- ---- room for each in turn

-- questions 12 to 14 as facts: nothing is asked where no new place is needed
abbrev Enough : List FrameBytes → State → Type 0
Enough ws s = 0 < places_needed ws s.current
    → (size_after ws s ≤ s.area / 2)
    × (generation_size s.committed.places (length s.committed.entries) + generation_size (places s.pending) (entry_count s.pending) + size_after ws s ≤ s.area)
    × (length s.pending.waiting + length s.current.waiting + places_needed ws s.current ≤ s.memory_frames)

module _ (ws : List FrameBytes) (s : State) (d : Distinct ws) (o : Rises s.current.entries) where
  room_tells : first_no (room_asks ws s) ≡ 0 → Enough ws s
  unfolding room_sums
  room_tells h l =
      let p = passed_both 11 (leb (size_after ws s) (s.area / 2)) _ (rw (same_room ws s d o, ne_eqb (places_needed ws s.current) 0 (omega arith)) at h) in
      let q = passed_both 12 _ _ p.1 in
      let r = passed_both 13 _ _ q.1 in
      (leb-true _ _ p.0, leb-true _ _ q.0, leb-true _ _ r.0)

  room_given : Enough ws s → first_no (room_asks ws s) ≡ 0
  unfolding room_sums
  room_given h = rw (same_room ws s d o) (by_test (λ qs. first_no qs ≡ 0) (eqb (places_needed ws s.current) 0)
      (λ z. none_asked)
      (λ z. let some : places_needed ws s.current ≢ 0 = eqb-false _ _ z in let e = h (omega arith) in
      asked_yes 12 _ _ (le-leb _ _ e.0) ∙ asked_yes 13 _ _ (le-leb _ _ e.1) ∙ asked_yes 14 _ _ (le-leb _ _ e.2) ∙ none_asked))

pub after_change_then : (w : FrameBytes) (ws : List FrameBytes) (s : State) → after_change (w ∷ ws) s ≡ after_change ws (after_change (w ∷ []) s)
unfolding after_change change_frames
after_change_then w ws s = refl

-- a change puts nothing down, so each place that it takes waits
one_waits : (w : FrameBytes) (g : Generation) → length (change_frame w g).waiting ≡ length g.waiting + cond (waits_in w.frame g) 0 1
unfolding places
one_waits w g = omega (arith, one_place w g, one_down w g)

module _ (w : FrameBytes) (ws : List FrameBytes) (s : State) (d : Distinct (w ∷ ws)) (o : Rises s.current.entries) (h : first_no (room_asks (w ∷ ws) s) ≡ 0) where
  -- for the first, and for the rest after it
  pub room_first : first_no (room_asks (w ∷ []) s) ≡ 0
  unfolding places_needed entries_needed
  room_first = room_given (w ∷ []) s (tt, tt) o (λ l.
      let e = room_tells (w ∷ ws) s d o h (omega arith) in
      let less : size_after (w ∷ []) s ≤ size_after (w ∷ ws) s = size_more _ _ _ _ (omega arith) (omega arith) in
      (omega (arith, e.0, less), omega (arith, e.1, less), omega (arith, e.2)))

  pub room_rest : first_no (room_asks ws (after_change (w ∷ []) s)) ≡ 0
  unfolding places_needed entries_needed after_change change_frames
  room_rest =
      let g = s.current in
      let k = others-places w g ws d.0 in
      let same : size_after ws (after_change (w ∷ []) s) ≡ size_after (w ∷ ws) s = rw (k, others_entries w g ws d.0, one_place w g, one_entry w g o, add_assoc (places g) _ _, add_assoc (entry_count g) _ _) refl in
      room_given ws (after_change (w ∷ []) s) d.1 (one_rises w g o) (λ l.
      let e = room_tells (w ∷ ws) s d o h (omega (arith, k)) in
      (omega (arith, e.0, same), omega (arith, e.1, same), omega (arith, e.2, k, one_waits w g)))
