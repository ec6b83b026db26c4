-- The queue of waiting frames, as a ring of memory frames.
-- Assumes nothing.
use Prim.Native.Nat.{ℕ, zero, suc, ◌+◌, ◌-◌, ◌*◌, ◌≤◌, ◌<◌}
use lib.ListN.{length, set}
use mathlib.Core.List.{List, [], ◌∷◌, ◌++◌, tail}
use mathlib.Core.Logic.{◌≢◌}
use mathlib.Core.Path.{◌≡◌, refl, ap, sym, ◌∙◌}
use native.Mathlib.Omega.{arith}
use Rattle.card.proofs.BlockLaws.{put_length, put_same, put_other}
use Rattle.card.proofs.BytesLaws.{tab_tail, tab_shift, tab_same, tab_add, tab_set}
use Rattle.card.specs.Block.{block_at, put_block}
use Rattle.card.specs.Bytes.{tabulate}
use Rattle.record.proofs.SeatLaws.{seat_apiece, seat_fits, seat_here, seat_next}
use Rattle.record.specs.Meaning.{seat_at}
use Rattle.recovery.specs.Step.{oldest_bytes}

-- the bytes of n that wait, from the i-th on
abbrev pub bytes_from : List ℕ → ℕ → ℕ → ℕ → ℕ → List (List ℕ)
bytes_from m frames head i n = tabulate (λ k. block_at m (seat_at frames head k)) i n

-- ---- the oldest goes

module _ (m : List ℕ) (frames head next : ℕ) (low : head < frames) (turn : next ≡ seat_at frames head 1) where
  -- those behind it stand one nearer
  pub queue_next : (i n : ℕ) → i + n < frames → bytes_from m frames next i n ≡ bytes_from m frames head (i + 1) n
  queue_next i n h = tab_shift _ _ i (i + 1) n (λ k l.
      let e : i + 1 + k ≡ i + k + 1 = omega arith in
      rw (e, turn) (ap (block_at m) (seat_next frames head low (i + k) (omega arith))))

  pub queue_tail : (p d : ℕ) → d < p → p - d ≤ frames → bytes_from m frames next 0 (p - (d + 1)) ≡ tail (bytes_from m frames head 0 (p - d))
  queue_tail p d h l =
      let e : p - d ≡ suc (p - (d + 1)) = omega arith in
      rw e (queue_next 0 (p - (d + 1)) (omega arith) ∙ sym (tab_tail (λ k. block_at m (seat_at frames head k)) 0 (p - (d + 1))))

-- the oldest one's bytes
pub queue_oldest : (m : List ℕ) (frames head n : ℕ) → head < frames → 0 < n → oldest_bytes (bytes_from m frames head 0 n) ≡ block_at m head
unfolding oldest_bytes tabulate
queue_oldest m frames head zero low h = absurd (omega arith)
queue_oldest m frames head (suc n) low h = ap (block_at m) (seat_here frames head low)

-- ---- bytes put into the memory frame of one turn

-- `after` is m with b in the memory frame of that turn
pub record Put (m b after : List ℕ) (frames head turn : ℕ) : Type 0 where
  pub long : length m ≡ 512 * frames
  pub whole : length b ≡ 512
  pub low : head < frames
  pub inside : turn < frames
  pub put : after ≡ put_block m (seat_at frames head turn) b

module _ {m b after : List ℕ} {frames head turn : ℕ} (x : Put m b after frames head turn) where
  fits : 512 * seat_at frames head turn + 512 ≤ length m
  fits = seat_fits m frames head turn (seat_at frames head turn) x.long x.low (omega (arith, x.inside)) refl

  there : block_at after (seat_at frames head turn) ≡ b
  there = rw x.put (put_same m (seat_at frames head turn) b x.whole fits)

  elsewhere : (j : ℕ) → j < frames → j ≢ turn → block_at after (seat_at frames head j) ≡ block_at m (seat_at frames head j)
  elsewhere j l d = rw x.put (put_other m (seat_at frames head turn) b x.whole fits (seat_at frames head j) (λ e. d (seat_apiece frames head j turn l x.inside e)))

  pub put_long : length after ≡ length m
  put_long = rw x.put (put_length m (seat_at frames head turn) b x.whole fits)

  -- what waits before that turn, up to it, and over it
  pub queue_kept : (i n : ℕ) → i + n ≤ turn → bytes_from after frames head i n ≡ bytes_from m frames head i n
  queue_kept i n h = tab_same _ _ i n (λ j a l. elsewhere j (omega (arith, x.inside)) (omega arith))

  pub queue_added : (i n : ℕ) → i + n ≡ turn → bytes_from after frames head i (suc n) ≡ bytes_from m frames head i n ++ (b ∷ [])
  queue_added i n e = tab_add _ _ i n b (rw e there) (λ j a l. elsewhere j (omega (arith, x.inside)) (omega arith))

  pub queue_again : (i n k : ℕ) → i + n ≤ frames → k < n → i + k ≡ turn → bytes_from after frames head i n ≡ set (bytes_from m frames head i n) k b
  queue_again i n k h l e = tab_set _ _ i n k b l (rw e there) (λ j a c d. elsewhere j (omega arith) (rw (← e) d))
