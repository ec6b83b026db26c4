-- A sorted generation's places, count and size: with an entry and without, quiet, and over a page-out.
-- Assumes nothing.
use Prim.Native.Nat.{ℕ, zero, suc, ◌+◌, ◌≤◌, ◌<◌}
use lib.ListN.{length}
use mathlib.Core.List.{List, [], ◌∷◌, tail}
use mathlib.Core.Path.{◌≡◌, refl, ap, ◌∙◌}
use native.Mathlib.Omega.{arith}
use Rattle.card.proofs.BytesLaws.{none_long}
use Rattle.card.proofs.RingLaws.{size_some, size_none, size_above}
use Rattle.card.specs.Ring.{ring_at, dir_blocks, generation_size}
use Rattle.recovery.proofs.ContentsLaws.{length-insert_by_frame_new}
use Rattle.recovery.proofs.Sorted.{Absent, SortedGeneration, places_of, count_of, size_of, sorted_empty, oldest, paged_out}
use Rattle.recovery.specs.Contents.{FrameBytes}

pub oldest-first : (ws : List FrameBytes) → 0 < length ws → ws ≡ oldest ws ∷ tail ws
unfolding oldest
oldest-first [] h = absurd (omega arith)
oldest-first (w ∷ ws) h = refl

-- a page-out leaves a generation's size
pub paged_out_pages : (area : ℕ) (g : SortedGeneration) → 0 < length g.waiting → places_of (paged_out area g) ≡ places_of g
unfolding places_of paged_out
paged_out_pages area g h = omega (arith, ap length (oldest-first g.waiting h))

pub paged_out_count : (area : ℕ) (g : SortedGeneration) → 0 < length g.waiting → Absent (oldest g.waiting).frame g.dir → count_of (paged_out area g) ≡ count_of g
unfolding count_of paged_out
paged_out_count area g h new = omega (arith, ap length (oldest-first g.waiting h), length-insert_by_frame_new (record { frame = (oldest g.waiting).frame; block = ring_at area g.first g.pages_down }) g.dir new)

pub paged_out-size : (area : ℕ) (g : SortedGeneration) → 0 < length g.waiting → Absent (oldest g.waiting).frame g.dir → size_of (paged_out area g) ≡ size_of g
unfolding size_of
paged_out-size area g h new = cc (paged_out_pages area g h, paged_out_count area g h new)

pub pages_below : (g : SortedGeneration) → (1 ≤ g.pages_down → 1 ≤ count_of g) → places_of g ≤ size_of g
unfolding size_of
pages_below g any = go (count_of g) refl
  where
    idle : count_of g ≡ 0 → places_of g ≡ 0
    idle e = go2 g.pages_down refl
      where
        go2 : (u : ℕ) → g.pages_down ≡ u → places_of g ≡ 0
        go2 zero q = unfold places_of count_of in (omega arith)
        go2 (suc u) q = absurd (omega (arith, any (omega arith)))

    go : (n : ℕ) → count_of g ≡ n → places_of g ≤ generation_size (places_of g) (count_of g)
    go zero e = omega (arith, idle e)
    go (suc n) e = omega (arith, size_above (places_of g) (count_of g) (omega arith))

-- of one of which no frame waits
pub quiet_pages : (g : SortedGeneration) → g.waiting ≡ [] → places_of g ≡ g.pages_down
unfolding places_of
quiet_pages g h = omega (arith, ap length h)

pub quiet_count : (g : SortedGeneration) → g.waiting ≡ [] → count_of g ≡ length g.dir
unfolding count_of
quiet_count g h = omega (arith, ap length h)

pub quiet_size : (g : SortedGeneration) → g.waiting ≡ [] → 1 ≤ length g.dir → size_of g ≡ g.pages_down + dir_blocks (length g.dir) + 1
unfolding size_of
quiet_size g h k = size_some (places_of g) (count_of g) (omega (arith, quiet_count g h)) ∙ rw (quiet_pages g h, quiet_count g h)

pub empty-size : (first : ℕ) → size_of (sorted_empty first) ≡ 0
unfolding size_of generation_size count_of
empty-size first = refl

pub pages_down_below : (g : SortedGeneration) → (1 ≤ g.pages_down → 1 ≤ count_of g) → g.pages_down ≤ size_of g
unfolding places_of
pages_down_below g any = omega (arith, pages_below g any)

-- one with no entry: nothing is named, no frame waits, and it has no size
pub idle_dir : (g : SortedGeneration) → count_of g ≡ 0 → g.dir ≡ []
unfolding count_of
idle_dir g h = none_long g.dir (omega arith)

pub idle_waiting : (g : SortedGeneration) → count_of g ≡ 0 → g.waiting ≡ []
unfolding count_of
idle_waiting g h = none_long g.waiting (omega arith)

pub idle_size : (g : SortedGeneration) → count_of g ≡ 0 → size_of g ≡ 0
unfolding size_of
idle_size g h = size_none (places_of g) (count_of g) h
