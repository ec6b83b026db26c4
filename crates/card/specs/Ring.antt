-- The checkpoint area, blocks 1 to A, as a ring: after A comes 1. And how much of it a generation takes.
-- Assumes nothing.
use Rattle.std.specs.Prelude.{cond, ℕ, ◌+◌, ◌-◌, ◌/◌, leb, eqb}

-- the block i places on from first, for i at most A
unfoldable pub ring_at : ℕ → ℕ → ℕ → ℕ
ring_at area first i = cond (leb (first + i) area) (first + i) (first + i - area)

-- how many places on from first the block n stands
unfoldable pub ring_offset : ℕ → ℕ → ℕ → ℕ
ring_offset area first n = cond (leb first n) (n - first) (n + area - first)

-- H
abbrev pub half : ℕ → ℕ
half area = area / 2

-- the blocks of a directory of e entries: 64 fill a block
abbrev pub dir_blocks : ℕ → ℕ
dir_blocks e = (e + 63) / 64

-- the size of a generation of p page blocks and e entries: pages, directory, trailer; 0 without changes
unfoldable pub generation_size : ℕ → ℕ → ℕ
generation_size p e = cond (eqb e 0) 0 (p + dir_blocks e + 1)
