-- Where a frame's newest bytes are, told by the first entry of the frame in each generation.
-- Assumes nothing.
use Prim.Native.Nat.{ℕ, suc, ◌+◌, ◌-◌, ◌≤◌, ◌<◌}
use borrow.Author.Tests.{ltb-true, ltb-false}
use lib.Dec.{ltb}
use lib.ListN.{length, get_or, take, get_or-eq_default}
use mathlib.Core.Bool.{true}
use mathlib.Core.List.{List, [], ◌∷◌}
use mathlib.Core.Logic.{◌≢◌, ⊎_elim}
use mathlib.Core.Path.{◌≡◌, refl, ap, sym, ◌∙◌}
use native.Mathlib.Omega.{arith}
use Rattle.std.specs.Prelude.{Ok, Err}
use Rattle.card.proofs.AllLaws.{all_map, all_tab}
use Rattle.card.proofs.BlockLaws.{block_length}
use Rattle.card.proofs.BytesLaws.{tab_get_d}
use Rattle.card.proofs.RingLaws.{ring_high, size_above}
use Rattle.card.proofs.Test.{by_test, le_or_lt}
use Rattle.card.specs.Block.{block_at}
use Rattle.card.specs.Bytes.{All}
use Rattle.card.specs.Directory.{entry_in, entries_of}
use Rattle.card.specs.Ring.{ring_at}
use Rattle.card.specs.declared.directory.Directory.{Directory}
use Rattle.card.specs.declared.directory.Entry.{Entry}
use Rattle.frames.proofs.ReadyLaws.{Ready, firsts}
use Rattle.frames.specs.Parts.{Located, CommittedParts, PartsHeld, CommittedBlock, placed_at, committed_bytes}
use Rattle.frames.specs.declared.answer.Place.{Place}
use Rattle.frames.specs.declared.answer.Place.TheVariants.{Memory, Card}
use Rattle.record.proofs.Held.{Filed, Listed, Held, held, bounds}
use Rattle.record.proofs.ListLaws.{first_none, first_found}
use Rattle.record.proofs.SearchLaws.{take_rises, found_first, found_inside, absent_first}
use Rattle.record.proofs.SeatLaws.{seat_low}
use Rattle.record.proofs.SoundLaws.{frame_is, same_index, queue_length, place_low, entry_inside, sound}
use Rattle.record.specs.Holds.{holds_together}
use Rattle.record.specs.Lists.{Rises, First, Sought}
use Rattle.record.specs.Meaning.{waits, note_in, notes_of, seat_at, queue_of, generation_of, committed_of, pending_first, current_first, state_of}
use Rattle.record.specs.declared.store.Changes.{Changes}
use Rattle.record.specs.declared.store.Store.{Store}
use Rattle.recovery.proofs.ContentsLaws.{overlay_without, overlay-whole, stored_whole, all_by_frame}
use Rattle.recovery.proofs.NoteLaws.{lookup-by_frame, lookup_hit, lookup_miss, shown, overlay-lookup}
use Rattle.recovery.proofs.PlaceLaws.{lookup_other, lookup_down, down_inside}
use Rattle.recovery.proofs.Sorted.{lookup}
use Rattle.recovery.proofs.WaitLaws.{wait_without, overlay_turn}
use Rattle.recovery.specs.Book.{WholeFrame}
use Rattle.recovery.specs.Contents.{Contents, overlay, stored_frames}
use Rattle.recovery.specs.Directory.{Note, down_entries, dir_of, frame_of}
use Rattle.recovery.specs.Sound.{Between}
use Rattle.recovery.specs.State.{Generation, directory_of, waiting_frames, read_frame}

-- ---- what a generation shows of a frame

module _ {area blocks : ℕ} {g : Changes} (h : Listed area blocks g) (first : ℕ) (w : List (List ℕ)) (long : length w ≡ waits g) (card : List ℕ) (base : Contents) (f i : ℕ) (found : First g.frames g.count f i) where
  abbrev generation : Generation
  generation = generation_of first w g

  abbrev stored : Contents
  stored = overlay (stored_frames card (directory_of area generation)) base

  -- the entry of a frame that waits
  entry_of : (j : ℕ) → g.down ≤ j → j < g.down + length w → f ≡ frame_of j (notes_of g) → (t : ℕ) × (t < g.count) × (get_or g.frames t 0 ≡ f) × (get_or g.places t 0 ≡ j)
  entry_of j l m e =
      let p = h.stands j l (omega arith) in
      (p.0, p.1, sym (e ∙ frame_is h j p.0 l (omega arith) p.1 p.2), p.2)

  -- its place is the one that was found
  place_of : i < g.count → (j : ℕ) → g.down ≤ j → j < g.down + length w → f ≡ frame_of j (notes_of g) → get_or g.places i 0 ≡ j
  place_of c j l m e =
      let p = entry_of j l m e in
      ap (λ (t : ℕ). get_or g.places t 0) (same_index h i p.0 c p.1 (found.is c ∙ sym p.2)) ∙ p.3

  not_queued : ((j : ℕ) → g.down ≤ j → j < g.down + length w → f ≢ frame_of j (notes_of g)) → overlay (waiting_frames generation) stored f ≡ stored f
  unfolding waiting_frames
  not_queued n = overlay_without _ stored f (wait_without (notes_of g) f g.down w n)

  looked_up : (n : ℕ) → lookup f (down_entries area first g.down (notes_of g)) ≡ n → stored f ≡ shown card (base f) n
  unfolding directory_of dir_of
  looked_up n e = overlay-lookup card _ base f ∙ ap (shown card (base f)) (lookup-by_frame f _ ∙ e)

  over_other : (n j : ℕ) → j < i → f ≢ get_or g.frames j 0 → (xs : List Note) → lookup f (down_entries area first g.down xs) ≡ n
      → lookup f (down_entries area first g.down (note_in g.frames g.places j ∷ xs)) ≡ n
  over_other n j l d xs e = lookup_other area first g.down f _ xs d ∙ e

  shows_none : i ≡ g.count → overlay (waiting_frames generation) stored f ≡ base f
  unfolding down_entries lookup
  shows_none e =
      not_queued (λ j l m q. let p = entry_of j l m q in found.before p.0 (omega (arith, p.1)) p.2)
      ∙ looked_up 0 (first_none (λ j xs. lookup f (down_entries area first g.down xs) ≡ 0) (note_in g.frames g.places) g.frames g.count f i found (over_other 0) e refl)

  shows_down : i < g.count → get_or g.places i 0 < g.down → overlay (waiting_frames generation) stored f ≡ block_at card (ring_at area first (get_or g.places i 0))
  shows_down c l =
      let n : ℕ = suc (ring_at area first (get_or g.places i 0)) in
      not_queued (λ j a b q. absurd (omega (arith, place_of c j a b q)))
      ∙ looked_up n (first_found (λ j xs. lookup f (down_entries area first g.down xs) ≡ n) (note_in g.frames g.places) g.frames g.count f i found (over_other n) c
      (λ xs. rw (← found.is c) (lookup_down area first g.down (note_in g.frames g.places i) xs l)))

  shows_waiting : i < g.count → g.down ≤ get_or g.places i 0 → overlay (waiting_frames generation) stored f ≡ get_or w (get_or g.places i 0 - g.down) []
  unfolding waiting_frames
  shows_waiting c l =
      let m : get_or g.places i 0 < g.taken = h.filed.taken i c in
      let e : g.down + (get_or g.places i 0 - g.down) ≡ get_or g.places i 0 = omega arith in
      overlay_turn (notes_of g) stored f (get_or g.places i 0 - g.down) g.down w (omega arith) (rw e (frame_is h (get_or g.places i 0) i l m c refl ∙ found.is c))
      (λ j a b q. absurd (omega (arith, place_of c j a (omega arith) q)))

-- ---- of a record

-- a place of the card, and one of memory
at_card : (s : Store) (bytes : List ℕ → List ℕ → List ℕ) (n : ℕ) → n < s.geometry.blocks → ((card memory : List ℕ) → block_at card n ≡ bytes card memory) → Located s bytes (Card n)
at_card s bytes n h e = record { there = e; inside = h }

at_memory : (s : Store) (bytes : List ℕ → List ℕ → List ℕ) (n : ℕ) → n < s.frames → ((card memory : List ℕ) → block_at memory n ≡ bytes card memory) → Located s bytes (Memory n)
at_memory s bytes n h e = record { there = e; inside = h }

-- committed, over home
module _ (s : Store) {f i : ℕ} (found : First s.committed.frames s.committed.count f i) where
  over-entry : (n j : ℕ) → j < i → f ≢ get_or s.committed.frames j 0 → (xs : List Entry) → lookup f xs ≡ n → lookup f (entry_in s.geometry.area s.first s.committed.frames s.committed.places j ∷ xs) ≡ n
  over-entry n j l d xs e = lookup_miss f _ xs d ∙ e

  -- no entry: the home block
  pub at_home : (n : ℕ) → i ≡ s.committed.count → n ≡ f → f < s.geometry.blocks → Located s (committed_bytes s f) (Card n)
  unfolding entries_of lookup
  at_home n e q l = at_card s (committed_bytes s f) n (omega arith) (λ card memory. ap (block_at card) q ∙ sym (overlay-lookup card (committed_of s).entries (block_at card) f ∙ ap (shown card (block_at card f))
      (first_none (λ j xs. lookup f xs ≡ 0) (entry_in s.geometry.area s.first s.committed.frames s.committed.places) s.committed.frames s.committed.count f i found (over-entry 0) e refl)))

  -- an entry: its place is one of the ring
  pub committed_fits : Held s → i ≢ s.committed.count → {place : ℕ} → place ≡ get_or s.committed.places i 0
      → (s.geometry.area ≤ 512) × ((s.first ≤ s.geometry.area) × (place ≤ s.geometry.area))
  committed_fits h d e = ((bounds s h).area_high, (h.first_high, omega (arith, e, place_low s h i (omega (arith, found.most)))))

  -- and its area block
  pub at_committed : Held s → (n : ℕ) → i ≢ s.committed.count → n ≡ ring_at s.geometry.area s.first (get_or s.committed.places i 0) → Located s (committed_bytes s f) (Card n)
  unfolding entries_of
  at_committed h n d q =
      let c : i < s.committed.count = omega (arith, found.most) in
      let inside = entry_inside s h i c in
      let b : ℕ = ring_at s.geometry.area s.first (get_or s.committed.places i 0) in
      at_card s (committed_bytes s f) n (omega (arith, inside.0, (bounds s h).area_inside)) (λ card memory. ap (block_at card) q ∙ sym (overlay-lookup card (committed_of s).entries (block_at card) f ∙ ap (shown card (block_at card f))
      (first_found (λ j xs. lookup f xs ≡ suc b) (entry_in s.geometry.area s.first s.committed.frames s.committed.places) s.committed.frames s.committed.count f i found (over-entry (suc b)) c
      (λ xs. rw (← found.is c) (lookup_hit (entry_in s.geometry.area s.first s.committed.frames s.committed.places i) xs)))))

-- by the parts of the record
module _ {area first : ℕ} {d : Directory} where
  pub parts_small : PartsHeld area first d → d.count ≤ 256
  parts_small k = omega (arith, ap (λ (x : Directory). x.count) k.parts.directory_is, (bounds k.store (held k.store k.together)).committed_small)

  pub parts_filed : (k : PartsHeld area first d) → Filed k.store.geometry.area k.store.geometry.blocks k.store.pages d.frames d.places d.count
  parts_filed k = rw k.parts.directory_is (held k.store k.together).committed

  module _ {f i : ℕ} (found : First d.frames d.count f i) where
    found_in : (s : Store) → CommittedParts s area first d → First s.committed.frames s.committed.count f i
    found_in s p = rw (← p.directory_is) found

    pub parts_home : (n : ℕ) → i ≡ d.count → n ≡ f → CommittedBlock area first d f n
    parts_home n e q = λ s p h l. at_home s (found_in s p) n (rw (← p.directory_is) e) q l

    pub parts_fit : PartsHeld area first d → i ≢ d.count → {place : ℕ} → place ≡ get_or d.places i 0 → (area ≤ 512) × ((first ≤ area) × (place ≤ area))
    parts_fit k n e =
        let p = k.parts in
        let fits = committed_fits k.store (found_in k.store p) (held k.store k.together) (rw (← p.directory_is) n) (e ∙ ap (λ (x : Directory). get_or x.places i 0) p.directory_is) in
        (omega (arith, p.area_is, fits.0), (omega (arith, p.area_is, p.first_is, fits.1.0), omega (arith, p.area_is, fits.1.1)))

    pub parts_entry : (n : ℕ) → i ≢ d.count → n ≡ ring_at area first (get_or d.places i 0) → CommittedBlock area first d f n
    parts_entry n o q = λ s p h l. at_committed s (found_in s p) (held s h) n (rw (← p.directory_is) o) (q ∙ (rw (p.area_is, p.first_is, p.directory_is) refl))

-- a generation whose first block is `first`, and before whose waiting frames `ahead` others wait
pub record Placed (s : Store) (g : Changes) (first ahead : ℕ) : Type 0 where
  pub together : Held s
  pub listed : Listed s.geometry.area s.geometry.blocks g
  pub few : g.count ≤ 256
  pub first_in : first ≤ s.geometry.area
  pub inside : g.count ≢ 0 → g.taken ≤ s.geometry.area
  pub seated : ahead + waits g ≤ s.frames

pub pending_placed : (s : Store) → holds_together s ≡ true → Placed s s.pending (pending_first s) 0
pending_placed s q =
    let h = held s q in
    record {
      together = h;
      listed = h.pending;
      few = (bounds s h).pending_small;
      first_in = (firsts s h).pending_in.1;
      inside = λ z. omega (arith, size_above s.pending.taken s.pending.count (omega arith), h.half_pending);
      seated = omega (arith, h.seated);
    }

pub current_placed : (s : Store) → holds_together s ≡ true → Placed s s.current (current_first s) (waits s.pending)
current_placed s q =
    let h = held s q in
    record {
      together = h;
      listed = h.current;
      few = (bounds s h).current_small;
      first_in = (firsts s h).current_in.1;
      inside = λ z. omega (arith, size_above s.current.taken s.current.count (omega arith), h.half_current);
      seated = h.seated;
    }

module _ {s : Store} {g : Changes} {first ahead : ℕ} (placed : Placed s g first ahead) {f i : ℕ} (found : First g.frames g.count f i) where
  -- what it shows, over what lies below
  abbrev over : (List ℕ → List ℕ → Contents) → List ℕ → List ℕ → List ℕ
  over below card memory =
      let gen = generation_of first (queue_of s memory ahead (waits g)) g in
      overlay (waiting_frames gen) (overlay (stored_frames card (directory_of s.geometry.area gen)) (below card memory)) f

  long : (memory : List ℕ) → length (queue_of s memory ahead (waits g)) ≡ waits g
  long memory = queue_length s memory ahead (waits g)

  -- no entry
  pub under : (below : List ℕ → List ℕ → Contents) (r : Place) → i ≡ g.count → Located s (λ card memory. below card memory f) r → Located s (over below) r
  under below r e l = record {
    there = λ card memory. l.there card memory ∙ sym (shows_none placed.listed first (queue_of s memory ahead (waits g)) (long memory) card (below card memory) f i found e);
    inside = l.inside;
  }

  -- an entry, and its place
  module _ (some : i ≢ g.count) where
    inner : i < g.count
    inner = omega (arith, found.most)

    module _ {place : ℕ} (is : place ≡ get_or g.places i 0) where
      place_in : (place < g.taken) × (place ≤ s.geometry.area)
      place_in = let l = placed.listed.filed.taken i inner in (omega arith, omega (arith, placed.inside (omega (arith, inner))))

      pub place_inside : place ≤ s.geometry.area
      place_inside = place_in.1

      pub turn_in : g.down ≤ place → ahead + (place - g.down) ≤ s.frames
      turn_in l = omega (arith, place_in.0, placed.seated)

      -- one that is down: its area block
      at_block : (below : List ℕ → List ℕ → Contents) → place < g.down → Located s (over below) (Card (ring_at s.geometry.area first place))
      at_block below l =
          at_card s (over below) _ (omega (arith, ring_high s.geometry.area first place placed.first_in place_in.1, (bounds s placed.together).area_inside))
          (λ card memory. ap (λ (k : ℕ). block_at card (ring_at s.geometry.area first k)) is
          ∙ sym (shows_down placed.listed first (queue_of s memory ahead (waits g)) (long memory) card (below card memory) f i found inner (rw is at l)))

      -- one that waits: its memory frame
      at_turn : (below : List ℕ → List ℕ → Contents) → g.down ≤ place → Located s (over below) (Memory (seat_at s.frames s.head (ahead + (place - g.down))))
      at_turn below l =
          at_memory s (over below) _ (omega (arith, seat_low s.frames s.head (ahead + (place - g.down)) placed.together.head_low (turn_in l)))
          (λ card memory.
          sym (shows_waiting placed.listed first (queue_of s memory ahead (waits g)) (long memory) card (below card memory) f i found inner (rw is at l)
          ∙ rw (← is) (tab_get_d (λ k. block_at memory (seat_at s.frames s.head k)) ahead (waits g) (place - g.down) [] (omega (arith, place_in.0)))))

      pub at_place : (below : List ℕ → List ℕ → Contents) {p : Place} → p ≡ placed_at s s.geometry.area first g.down ahead place → Located s (over below) p
      at_place below e =
          rw e (by_test (Located s (over below)) (ltb place g.down) (λ t. at_block below (ltb-true place g.down t)) (λ t. at_turn below (ltb-false place g.down t)))

-- ---- a frame's newest bytes are a whole block

module _ (s : Store) (m c : List ℕ) (r : Ready s (length m) (length c)) (f : ℕ) (inside : f < s.geometry.blocks) where
  low : s.geometry.area < s.geometry.blocks
  low = (bounds s (held s r.together)).area_inside

  -- of a generation, over a whole block
  over-whole : {g : Changes} {first ahead : ℕ} → Placed s g first ahead → (w : List (List ℕ)) → All (WholeFrame s.geometry.area s.geometry.blocks) (waiting_frames (generation_of first w g))
      → (base : Contents) → length (base f) ≡ 512 → length (overlay (waiting_frames (generation_of first w g)) (overlay (stored_frames c (directory_of s.geometry.area (generation_of first w g))) base) f) ≡ 512
  unfolding directory_of dir_of
  over-whole {g} {first} p w whole base below =
      let area = s.geometry.area in
      let taken : All (λ e. e.place ≤ area) (notes_of g) = all_tab _ (note_in g.frames g.places) 0 g.count (λ k a b. omega (arith, p.listed.filed.taken k (omega (arith, b)), p.inside (omega (arith, b)))) in
      let down = down_inside area first p.first_in g.down (notes_of g) taken in
      let stored = stored_whole c area _ r.card_is low (dir_of area first g.down (notes_of g)) (all_by_frame (λ e. e.block ≤ area) (down_entries area first g.down (notes_of g)) down) in
      let waiting = all_map (WholeFrame area s.geometry.blocks) (λ x. length x.bytes ≡ 512) (waiting_frames (generation_of first w g)) (λ x h. h.0) whole in
      overlay-whole _ _ f waiting (overlay-whole _ base f stored below)

  pub newest_whole : length (read_frame (state_of s m) c f) ≡ 512
  unfolding read_frame
  newest_whole =
      let n = sound s m r.together r.memory_is in
      let entries = (committed_of s).entries in
      let stored = stored_whole c s.geometry.area _ r.card_is low entries (all_map (Between s.geometry.area s.first 0 s.pages) (λ e. e.block ≤ s.geometry.area) entries (λ e h. h.1) n.committed_inside) in
      let committed = overlay-whole (stored_frames c entries) (block_at c) f stored (block_length c f (omega (arith, r.card_is))) in
      over-whole (current_placed s r.together) _ n.current_home.1 _ (over-whole (pending_placed s r.together) _ n.pending_home.1 _ committed)

-- ---- what a search of a directory's entries finds

module _ {area blocks p n : ℕ} {frames spots : List ℕ} (d : Filed area blocks p frames spots n) where
  -- they lie within the array, since each is above 0
  pub filed_long : n ≤ length frames
  filed_long = ⊎_elim (λ h. h) (λ h. absurd (omega (arith, d.home (length frames) h, get_or-eq_default frames 0 {n = length frames} (omega arith)))) (le_or_lt n (length frames))

  pub filed_rises : Rises (take n frames) (length (take n frames))
  filed_rises = take_rises frames n filed_long d.rises

  module _ {f i : ℕ} where
    pub filed_found : Sought (take n frames) f (Ok i) → First frames n f i
    filed_found s = found_first frames n filed_long f i s

    pub filed_inside : Sought (take n frames) f (Ok i) → i ≢ n
    filed_inside s = let l = found_inside frames n filed_long f i s in omega (arith, l)

    pub filed_none : Sought (take n frames) f (Err i) → First frames n f n
    filed_none s = absent_first frames n filed_long f i s
