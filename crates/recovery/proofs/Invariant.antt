-- The crash invariant.
--
-- Of a card alone (`Recoverable`):
--   1. It has as many blocks as its geometry says, and the geometry passes question 5.
--   2. The header says layout 1, the commit number, the area and the ranges.
--   3. With commit 0 nothing is committed: the trailer block is 0, there is no entry, and the first stretch starts at block 1.
--   4. With commit above 0 the header names the committed generation's trailer, and trailer and directory read back as its numbers and entries.
--   5. Committed entries rise, name home frames, and have their blocks among the p page blocks of a stretch of at most half the area.
--   6. Every needed home frame's kept bytes are at its entry's block, or at home where it has none.
-- With a state and the book (`Invariant`):
--   7. The card is such a one, with the state's committed generation.
--   8. The three stretches follow each other, each at most half the area, together at most the area.
--   9. Of the pending and the current generation (`GenerationFits`): what is down rises, names home frames, and lies in its own stretch below what is not down;
--      what waits are whole home frames, each once, and none of them is among those down.
--  10. All that waits fits memory.
--  11. If one is pending, the commit number has a next.
--  12. What is down of the pending directory and trailer is what will be read back, and none of it is down while a pending frame waits.
--  13. Of the entries that are copied home or passed over, those of needed frames are at home as kept.
--  14. Pending over kept is marked, or kept where nothing is marked; also over other bytes where a frame is needed
--      in marked and not in kept.
--  15. Current over that is present; also over other bytes where a frame is needed in present and not in marked.
-- Assumes nothing.
use Prim.Native.Nat.{ℕ, suc, ◌+◌, ◌*◌, ◌/◌, ◌≤◌, ◌<◌}
use lib.ListN.{length, take}
use mathlib.Core.Bool.{Bool, true, false, cond, false≢true}
use mathlib.Core.List.{List, []}
use mathlib.Core.Path.{◌≡◌, refl, sym, ◌∙◌}
use Rattle.card.specs.Block.{block_at}
use Rattle.card.specs.Bytes.{All}
use Rattle.card.specs.Directory.{read_dir}
use Rattle.card.specs.Header.{header_on}
use Rattle.card.specs.Question.{header_ranges}
use Rattle.card.specs.Range.{Range, geometry_fits}
use Rattle.card.specs.Ring.{ring_at}
use Rattle.card.specs.Trailer.{trailer_on}
use Rattle.recovery.proofs.Sorted.{Once, Absent, SortedGeneration, count_of, size_of, Sorted, sorted_empty, trailer_of, tail_block, trailer_at}
use Rattle.recovery.specs.Book.{FrameBook, marked_or, WholeFrame, Needs}
use Rattle.recovery.specs.Contents.{Contents, overlay, stored_frames}
use Rattle.recovery.specs.Sound.{Rising, Home, Between}

-- what the header says, the trailer's block apart
pub record Headed (c : List ℕ) (commit area : ℕ) (ranges : List Range) : Type 0 where
  pub layout_is : (header_on (block_at c 0)).layout ≡ 1
  pub commit_is : (header_on (block_at c 0)).commit ≡ commit
  pub area_is : (header_on (block_at c 0)).area ≡ area
  pub ranges_is : header_ranges (header_on (block_at c 0)) ≡ ranges

-- the trailer and the directory, as they are read from the card
pub record Tail (c : List ℕ) (area commit : ℕ) (g : SortedGeneration) : Type 0 where
  pub some_named : 1 ≤ length g.dir
  pub place_is : (header_on (block_at c 0)).trailer ≡ trailer_at area g
  pub trailer_is : trailer_on (block_at c (trailer_at area g)) ≡ trailer_of commit g
  pub dir_is : read_dir c area g.first g.pages_down (length g.dir) ≡ g.dir

-- a card that shows kept when it is started
pub record Recoverable (needed : Needs) (blocks area : ℕ) (ranges : List Range) (commit : ℕ) (g : SortedGeneration) (c : List ℕ) (kept : Contents) : Type 0 where
  pub whole : length c ≡ 512 * blocks  -- 1
  pub home : area < blocks  -- 1
  pub many : 11 ≤ blocks  -- 1
  pub small : blocks ≤ 65536  -- 1
  pub geo : geometry_fits blocks area ranges ≡ true  -- 1
  pub low : 1 ≤ g.first  -- 5
  pub high : g.first ≤ area  -- 5
  pub fits : size_of g ≤ area  -- 5
  pub quiet : g.waiting ≡ []  -- 5
  pub inside : All (Between area g.first 0 g.pages_down) g.dir  -- 5
  pub named : All (Home area blocks) g.dir  -- 5
  pub rising : Rising g.dir  -- 5
  pub half : size_of g ≤ area / 2  -- 5
  pub few : length g.dir ≤ g.pages_down  -- 5
  pub any : 1 ≤ g.pages_down → 1 ≤ count_of g  -- 5
  pub head : Headed c commit area ranges  -- 2
  pub unset : commit ≡ 0 → (header_on (block_at c 0)).trailer ≡ 0  -- 3
  pub fresh : commit ≡ 0 → g ≡ sorted_empty 1  -- 3
  pub there : 0 < commit → Tail c area commit g  -- 4
  pub view : (f : ℕ) → area < f → f < blocks → needed kept f ≡ true → overlay (stored_frames c g.dir) (block_at c) f ≡ kept f  -- 6

-- a generation whose stretch starts lo places on from first
pub record GenerationFits (blocks area first lo : ℕ) (g : SortedGeneration) : Type 0 where
  pub inside : All (Between area first lo (lo + g.pages_down)) g.dir
  pub named : All (Home area blocks) g.dir
  pub rising : Rising g.dir
  pub few : length g.dir ≤ g.pages_down
  pub any : 1 ≤ g.pages_down → 1 ≤ count_of g
  pub once : Once g.waiting
  pub held : All (WholeFrame area blocks) g.waiting
  pub apart : All (λ w. Absent w.frame g.dir) g.waiting

-- needed in the second table and not in the first
unfoldable pub fresh : Needs → Contents → Contents → ℕ → Bool
fresh needed u v f = cond (needed u f) false (needed v f)

-- a state, by its sorted form, with its card and the book
pub record Invariant (needed : Needs) (blocks : ℕ) (s : Sorted) (c : List ℕ) (b : FrameBook) : Type 0 where
  pub recoverable : Recoverable needed blocks s.area s.ranges s.commit s.committed c b.kept  -- 7
  pub half_pending : size_of s.pending ≤ s.area / 2  -- 8
  pub half_current : size_of s.current ≤ s.area / 2  -- 8
  pub seated : length s.pending.waiting + length s.current.waiting ≤ s.memory_frames  -- 10
  pub pending_ok : GenerationFits blocks s.area s.committed.first (size_of s.committed) s.pending  -- 9
  pub current_ok : GenerationFits blocks s.area s.committed.first (size_of s.committed + size_of s.pending) s.current  -- 9
  pub pending_first_lem : s.pending.first ≡ ring_at s.area s.committed.first (size_of s.committed)  -- 8
  pub current_first_lem : s.current.first ≡ ring_at s.area s.committed.first (size_of s.committed + size_of s.pending)  -- 8
  pub room : size_of s.committed + size_of s.pending + size_of s.current ≤ s.area  -- 8
  pub limit : 0 < count_of s.pending → s.commit < 4294967295  -- 11
  pub tail_down_fits : s.pending.pages_down + s.tail_down ≤ size_of s.pending  -- 12
  pub tail_down_after : 0 < s.tail_down → s.pending.waiting ≡ []  -- 12
  pub tail_down_ok : (j : ℕ) → j < s.tail_down → block_at c (ring_at s.area s.pending.first (s.pending.pages_down + j)) ≡ tail_block (suc s.commit) s.pending j  -- 12
  pub migrated_ok : All (λ e. needed b.kept e.frame ≡ true → block_at c e.frame ≡ b.kept e.frame) (take s.migrated s.committed.dir)  -- 13
  pub mark : (u : Contents) (f : ℕ) → s.area < f → f < blocks → (fresh needed b.kept (marked_or b) f ≡ false → u f ≡ b.kept f)
      → overlay s.pending.waiting (overlay (stored_frames c s.pending.dir) u) f ≡ marked_or b f  -- 14
  pub now : (u : Contents) (f : ℕ) → s.area < f → f < blocks → (fresh needed (marked_or b) b.present f ≡ false → u f ≡ marked_or b f)
      → overlay s.current.waiting (overlay (stored_frames c s.current.dir) u) f ≡ b.present f  -- 15

-- ---- laws of `fresh`

pub fresh_same : (needed : Needs) (v : Contents) (f : ℕ) → fresh needed v v f ≡ false
unfolding fresh
fresh_same needed v f = go (needed v f)
  where
    go : (t : Bool) → cond t false t ≡ false
    go true = refl
    go false = refl

-- needed in the second and not fresh: needed in the first
pub fresh-needed : (needed : Needs) (u v : Contents) (f : ℕ) → fresh needed u v f ≡ false → needed v f ≡ true → needed u f ≡ true
unfolding fresh
fresh-needed needed u v f h e = go (needed u f) h
  where
    go : (t : Bool) → cond t false (needed v f) ≡ false → t ≡ true
    go true q = refl
    go false q = absurd (false≢true (sym q ∙ e))

-- what is not needed, or needed in the first table, is not fresh
pub fresh-told : (needed : Needs) (u v : Contents) (f : ℕ) → (needed v f ≡ true → needed u f ≡ true) → fresh needed u v f ≡ false
unfolding fresh
fresh-told needed u v f h = go (needed u f) (needed v f) refl refl
  where
    go : (s t : Bool) → needed u f ≡ s → needed v f ≡ t → cond s false t ≡ false
    go true t p q = refl
    go false true p q = absurd (false≢true (sym p ∙ h q))
    go false false p q = refl
