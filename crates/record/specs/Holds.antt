-- Question 2: does the record hold together?
-- Assumes nothing.
use Rattle.std.specs.Prelude.{ℕ, ◌+◌, leb, ltb, eqb, Bool, true, false, cond, ◌&&◌, List}
use Rattle.card.specs.Range.{ranges_of, geometry_fits}
use Rattle.card.specs.Ring.{half, dir_blocks}
use Rattle.record.specs.Lists.{cells, all_alone, all_within, all_rising}
use Rattle.record.specs.Meaning.{waits, size_of, committed_size_of}
use Rattle.record.specs.declared.store.Changes.{Changes}
use Rattle.record.specs.declared.store.Geometry.{Geometry}
use Rattle.record.specs.declared.store.Store.{Store}

-- geometry passes 5
unfoldable pub geometry_holds : Geometry → Bool
geometry_holds g = geometry_fits g.blocks g.area (ranges_of g.ranges g.count)

-- Commit is 0 if and only if there is no committed generation, and then the first stretch starts at block 1. A committed generation has 1 ≤ e ≤ p.
unfoldable pub committed_holds : ℕ → ℕ → ℕ → ℕ → ℕ → Bool
committed_holds commit area first p e = cond (eqb commit 0) (eqb e 0 && (eqb p 0 && eqb first 1)) (leb 1 e && (leb e p && (leb 1 first && leb first area)))

-- Commit is below its limit if a generation is pending. That one has 1 ≤ e ≤ p, or there is none; no more places are down than are taken.
unfoldable pub pending_holds : ℕ → ℕ → ℕ → ℕ → Bool
pending_holds commit p e down = leb down p && cond (eqb e 0) (eqb p 0) (leb e p && ltb commit 4294967295)

-- the current generation has e ≤ p
unfoldable pub current_holds : ℕ → ℕ → ℕ → Bool
current_holds p e down = leb e p && leb down p

-- the stretches are each at most H, and together at most A; they adjoin by construction
unfoldable pub sizes_hold : ℕ → ℕ → ℕ → ℕ → Bool
sizes_hold area a b c = leb a (half area) && (leb b (half area) && (leb c (half area) && leb (a + b + c) area))

-- directory and trailer blocks of a generation of e entries
unfoldable pub tail_for : ℕ → ℕ
tail_for e = cond (eqb e 0) 0 (dir_blocks e + 1)

-- What advance has put down or copied is within its count and in its order: no directory block is down while a pending frame waits. The blocks down of
-- directory and trailer are counted from the first on, so no trailer is down before all of them.
unfoldable pub tail_holds : ℕ → ℕ → Bool
tail_holds tail waiting = cond (eqb tail 0) true (eqb waiting 0)

-- The flush just before a header write comes after all that it is to cover: a snapshot is pending, its directory and
-- trailer are down, and all of the committed generation is home or passed over.
unfoldable pub flushed_holds : ℕ → ℕ → ℕ → ℕ → Bool
flushed_holds migrated committed tail pending = cond (eqb pending 0) false (eqb tail (tail_for pending) && leb committed migrated)

-- 0: writing; 1: flushed for the header write; 2: the flush after a header write or a start is owed, and comes before
-- any directory block, trailer or migration.
unfoldable pub phase_holds : ℕ → ℕ → ℕ → ℕ → ℕ → Bool
phase_holds phase migrated committed tail pending =
    cond (eqb phase 0) true (cond (eqb phase 1) (flushed_holds migrated committed tail pending) (eqb phase 2 && (eqb migrated 0 && eqb tail 0)))

unfoldable pub order_holds : ℕ → ℕ → ℕ → ℕ → ℕ → ℕ → Bool
order_holds migrated committed tail pending waiting phase =
    leb migrated committed && (leb tail (tail_for pending) && (tail_holds tail waiting && phase_holds phase migrated committed tail pending))

-- all that wait fit memory
unfoldable pub memory_holds : ℕ → ℕ → ℕ → Bool
memory_holds frames head waiting = ltb head frames && leb waiting frames

-- geometry, commit number, and each generation's counts
unfoldable pub counts_hold : Store → Bool
counts_hold s =
    geometry_holds s.geometry
    && (committed_holds s.commit s.geometry.area s.first s.pages s.committed.count
    && (pending_holds s.commit s.pending.taken s.pending.count s.pending.down && current_holds s.current.taken s.current.count s.current.down))

-- the stretches, advance's work, and memory
unfoldable pub spans_hold : Store → Bool
spans_hold s =
    sizes_hold s.geometry.area (committed_size_of s) (size_of s.pending) (size_of s.current)
    && (order_holds s.migrated s.committed.count s.tail s.pending.count (waits s.pending) s.phase && memory_holds s.frames s.head (waits s.pending + waits s.current))

-- A directory of n entries names home blocks, by rising frame (#109), so none twice, and its blocks are among the p
-- page blocks of its own stretch.
unfoldable pub directory_holds : ℕ → ℕ → ℕ → List ℕ → List ℕ → ℕ → Bool
directory_holds area blocks p frames places n = all_rising (area + 1) blocks (cells frames 0 n) && all_within 0 p (cells places 0 n)

-- each of a generation's waiting frames stands once in its directory; every other entry has its block
unfoldable pub changes_hold : ℕ → ℕ → Changes → Bool
changes_hold area blocks g = directory_holds area blocks g.taken g.frames g.places g.count && all_alone (cells g.places 0 g.count) g.down (waits g)

unfoldable pub holds_together : Store → Bool
holds_together s =
    counts_hold s
    && (spans_hold s
    && (directory_holds s.geometry.area s.geometry.blocks s.pages s.committed.frames s.committed.places s.committed.count
    && (changes_hold s.geometry.area s.geometry.blocks s.pending && changes_hold s.geometry.area s.geometry.blocks s.current)))
