-- A drive of which every cut leaves a card that shows what is kept, or, where a header write is not flushed and is
-- found old, what was kept before it.
--
--   1. The card that the calls see shows what is kept.
--   2. Every write that is not flushed is a whole block of the card.
--   3. All but header writes do no harm to the committed generation: they lie outside its stretch, or at the home of
--      a frame that it names.
--   4. If no header write is to be feared, there is none among them.
--   5. If one is: with the header as it was at the last flush the card shows what was kept before; the other writes
--      do no harm to the generation of that header either; and every header write among them has the bytes that block
--      0 is seen to have.
-- Assumes nothing.
use Prim.Native.Nat.{ℕ, ◌+◌, ◌*◌, ◌≤◌}
use lib.ListN.{length}
use mathlib.Core.List.{List, [], ◌∷◌}
use mathlib.Core.Logic.{◌≢◌, ◌⊎◌, inl, inr, ⊎_elim}
use mathlib.Core.Option.{Option, none, some, get_or}
use mathlib.Core.Path.{◌≡◌, refl, ap, sym, ◌∙◌, subst}
use native.Mathlib.Omega.{arith}
use Rattle.card.proofs.AllLaws.{all_join, all_map}
use Rattle.card.proofs.BlockLaws.{put_length, put_same, put_other, block_length}
use Rattle.card.specs.Block.{block_at, put_block}
use Rattle.card.specs.Bytes.{All}
use Rattle.card.specs.Range.{Range}
use Rattle.recovery.proofs.DriveLaws.{seen-written, all_down, left_spoilt, head_is, header_last}
use Rattle.recovery.proofs.Follows.{Stored}
use Rattle.recovery.proofs.Harmless.{Harmless, harmless_low, harmless_left, harmless_write}
use Rattle.recovery.proofs.Invariant.{Recoverable}
use Rattle.recovery.proofs.Sorted.{SortedGeneration}
use Rattle.recovery.specs.Book.{Needs}
use Rattle.recovery.specs.Contents.{Contents}
use Rattle.recovery.specs.Write.{BlockWrite, Drive, put_all, seen, settled, written, Proper, Unwritten, AnyBytes, Spoilt, header_among, HeaderIs, Reached}

-- all but header writes do no harm to a generation
abbrev pub Apart : ℕ → ℕ → SortedGeneration → List BlockWrite → Type 0
Apart blocks area g ws = All (λ w. 1 ≤ w.block → Harmless blocks area g w.block) ws

-- the card that is seen, but with the header of the last flush
abbrev pub old_head : Drive → List ℕ
old_head v = put_block (seen v) 0 (block_at v.flushed 0)

-- a header write that is not flushed, and what was kept before it
abbrev pub Earlier : Needs → ℕ → ℕ → List Range → Drive → Option Contents → Type 0
Earlier needed blocks area ranges v none = All (λ w. 1 ≤ w.block) v.since
Earlier needed blocks area ranges v (some k) = (commit : ℕ) × (g : SortedGeneration) × Recoverable needed blocks area ranges commit g (old_head v) k × Apart blocks area g v.since
    × All (λ w. w.block ≡ 0 → w.bytes ≡ block_at (seen v) 0) v.since × (header_among none v.since ≡ some (block_at (seen v) 0))

pub record Durable (needed : Needs) (blocks area : ℕ) (ranges : List Range) (commit : ℕ) (g : SortedGeneration) (v : Drive) (kept : Contents) (before : Option Contents) : Type 0 where
  pub card : Recoverable needed blocks area ranges commit g (seen v) kept  -- 1
  pub whole : length v.flushed ≡ 512 * blocks  -- 2
  pub proper : All (Proper blocks) v.since  -- 2
  pub apart : Apart blocks area g v.since  -- 3
  pub earlier : Earlier needed blocks area ranges v before  -- 4, 5

-- ---- cuts

module _ (blocks area : ℕ) (ranges : List Range) (v : Drive) (whole : length v.flushed ≡ 512 * blocks) (proper : All (Proper blocks) v.since) where
  -- all that is written may be down
  abbrev seen_left : AnyBytes (seen v) v.since v.flushed
  seen_left = left_spoilt (seen v) v.since v.flushed (all_down v.since v.flushed) blocks whole proper

  seen_long : length (seen v) ≡ 512 * blocks
  seen_long = seen_left.long ∙ whole

  -- what is not written stands
  pub seen_other : (n : ℕ) → Unwritten n v.since → block_at (seen v) n ≡ block_at v.flushed n
  seen_other n un = seen_left.others n un

  module _ (c' : List ℕ) (l : Spoilt c' v.since v.flushed) where
    cut_long : length c' ≡ 512 * blocks
    cut_long = (l blocks whole proper).long ∙ whole

    cut_unwritten : (n : ℕ) → Unwritten n v.since → block_at c' n ≡ block_at (seen v) n
    cut_unwritten n un = (l blocks whole proper).others n un ∙ sym (seen_other n un)

    -- all that could do harm is as it is seen
    cut_other : (g : SortedGeneration) → Apart blocks area g v.since → (n : ℕ) → 1 ≤ n → (Harmless blocks area g n → ⊥) → block_at c' n ≡ block_at (seen v) n
    cut_other g apart n low bad = cut_unwritten n
        (all_map (λ w. 1 ≤ w.block → Harmless blocks area g w.block) (λ w. n ≢ w.block) v.since (λ w h e. bad (subst (Harmless blocks area g) (sym e) (h (omega (arith, low, e))))) apart)

    -- the header as it is seen
    cut_new : {needed : Needs} (commit : ℕ) (g : SortedGeneration) (kept : Contents) → Recoverable needed blocks area ranges commit g (seen v) kept → Apart blocks area g v.since → block_at c' 0 ≡ block_at (seen v) 0
        → Stored needed blocks area ranges c' kept
    cut_new commit g kept k apart e = (commit, g, harmless_left blocks area ranges commit g (seen v) kept k c' (cut_long ∙ sym seen_long) e (λ n low bad need. cut_other g apart n low bad))

    -- the header of the last flush
    cut_old : {needed : Needs} (commit : ℕ) (g : SortedGeneration) (kept : Contents) → Recoverable needed blocks area ranges commit g (old_head v) kept → Apart blocks area g v.since → block_at c' 0 ≡ block_at v.flushed 0
        → Stored needed blocks area ranges c' kept
    cut_old commit g kept k apart e =
        let many : 11 ≤ blocks = k.many in
        let long : length (block_at v.flushed 0) ≡ 512 = block_length v.flushed 0 (omega (arith, whole, many)) in
        let fits : 512 * 0 + 512 ≤ length (seen v) = omega (arith, seen_long, many) in (
          commit,
          g,
          harmless_left blocks area ranges commit g (old_head v) kept k c' (cut_long ∙ sym (put_length (seen v) 0 (block_at v.flushed 0) long fits ∙ seen_long))
              (e ∙ sym (put_same (seen v) 0 (block_at v.flushed 0) long fits))
              (λ n low bad need. cut_other g apart n low bad ∙ sym (put_other (seen v) 0 (block_at v.flushed 0) long fits n (omega (arith, low)))),
        )

pub durable_cut : {needed : Needs} (blocks area : ℕ) (ranges : List Range) (commit : ℕ) (g : SortedGeneration) (v : Drive) (kept : Contents) (before : Option Contents) → Durable needed blocks area ranges commit g v kept before
    → (c' : List ℕ) → Spoilt c' v.since v.flushed
    → (Reached v.since c' → Stored needed blocks area ranges c' kept) × ((Reached v.since c' → ⊥) → Stored needed blocks area ranges c' (get_or before kept))
durable_cut {needed = needed} blocks area ranges commit g v kept none d c' l =
    let un : Unwritten 0 v.since = all_map (λ w. 1 ≤ w.block) (λ w. 0 ≢ w.block) v.since (λ w h. omega (arith, h)) d.earlier in
    let k : Stored needed blocks area ranges c' kept = cut_new blocks area ranges v d.whole d.proper c' l commit g kept d.card d.apart (cut_unwritten blocks area ranges v d.whole d.proper c' l 0 un) in
    ((λ r. k), (λ r. k))
durable_cut {needed = needed} blocks area ranges commit g v kept (some k) d c' l =
    let e = d.earlier in
    let found : (block_at c' 0 ≡ block_at v.flushed 0) ⊎ (block_at c' 0 ≡ block_at (seen v) 0) =
    head_is (λ x. (x ≡ block_at v.flushed 0) ⊎ (x ≡ block_at (seen v) 0)) (block_at v.flushed 0) (block_at c' 0) v.since (l blocks d.whole d.proper).head (inl refl)
    (all_map (λ w. w.block ≡ 0 → w.bytes ≡ block_at (seen v) 0) (λ w. w.block ≡ 0 → (w.bytes ≡ block_at v.flushed 0) ⊎ (w.bytes ≡ block_at (seen v) 0)) v.since (λ w h z. inr (h z)) e.4) in (
      (λ r. cut_new blocks area ranges v d.whole d.proper c' l commit g kept d.card d.apart (subst (λ (o : Option (List ℕ)). HeaderIs o c') e.5 r)),
      (λ n. ⊎_elim (λ old. cut_old blocks area ranges v d.whole d.proper c' l e.0 e.1 k e.2 e.3 old)
          (λ new. absurd (n (subst (λ (o : Option (List ℕ)). HeaderIs o c') (sym e.5) new))) found),
    )

-- ---- flushes and writes

-- nothing that is not flushed
pub settled_durable : {needed : Needs} (blocks area : ℕ) (ranges : List Range) (commit : ℕ) (g : SortedGeneration) (c : List ℕ) (kept : Contents) → Recoverable needed blocks area ranges commit g c kept
    → Durable needed blocks area ranges commit g (settled c) kept none
unfolding put_all
settled_durable blocks area ranges commit g c kept k = record { card = k; whole = k.whole; proper = tt; apart = tt; earlier = tt }

module _ {needed : Needs} (blocks area : ℕ) (ranges : List Range) (commit : ℕ) (g : SortedGeneration) (v : Drive) (kept : Contents) (d : Durable needed blocks area ranges commit g v kept none) (w : BlockWrite) (long : length w.bytes ≡ 512) where
  -- a write that does no harm
  pub write_durable : Harmless blocks area g w.block → Durable needed blocks area ranges commit g (written (some w) v) kept none
  write_durable safe =
      let low = harmless_low blocks area g w.block d.card.home safe in
      record {
        card = rw (seen-written v w) (harmless_write blocks area ranges commit g (seen v) kept d.card w.block safe w.bytes long);
        whole = d.whole;
        proper = all_join (Proper blocks) v.since (w ∷ []) d.proper ((long, low.1), tt);
        apart = all_join (λ u. 1 ≤ u.block → Harmless blocks area g u.block) v.since (w ∷ []) d.apart ((λ h. safe), tt);
        earlier = all_join (λ u. 1 ≤ u.block) v.since (w ∷ []) d.earlier (low.0, tt);
      }

  -- a header write, where all that is not flushed does no harm to the new generation either
  pub header_durable : w.block ≡ 0 → (commit' : ℕ) (g' : SortedGeneration) (kept' : Contents) → Recoverable needed blocks area ranges commit' g' (put_block (seen v) w.block w.bytes) kept'
      → All (λ u. Harmless blocks area g' u.block) v.since → Durable needed blocks area ranges commit' g' (written (some w) v) kept' (some kept)
  header_durable zero commit' g' kept' new clear =
      let un : Unwritten 0 v.since = all_map (λ u. 1 ≤ u.block) (λ u. 0 ≢ u.block) v.since (λ u h. omega (arith, h)) d.earlier in
      let old-head : block_at (seen v) 0 ≡ block_at v.flushed 0 = seen_other blocks area ranges v d.whole d.proper 0 un in
      let fits : 512 * w.block + 512 ≤ length (seen v) = omega (arith, d.card.whole, d.card.many, zero) in
      let seen_is = seen-written v w in
      let head_is : block_at (seen (written (some w) v)) 0 ≡ w.bytes = ap (λ (c : List ℕ). block_at c 0) seen_is ∙ ap (block_at (put_block (seen v) w.block w.bytes)) (sym zero) ∙ put_same (seen v) w.block w.bytes long fits in
      record {
        card = rw seen_is new;
        whole = d.whole;
        proper = all_join (Proper blocks) v.since (w ∷ []) d.proper ((long, omega (arith, zero, d.card.many)), tt);
        apart = all_join (λ u. 1 ≤ u.block → Harmless blocks area g' u.block) v.since (w ∷ [])
            (all_map (λ u. Harmless blocks area g' u.block) (λ u. 1 ≤ u.block → Harmless blocks area g' u.block) v.since (λ u h low. h) clear) ((λ h. absurd (omega (arith, h, zero))), tt);
        earlier = (
          commit,
          g,
          old_recoverable old-head fits,
          all_join (λ u. 1 ≤ u.block → Harmless blocks area g u.block) v.since (w ∷ []) d.apart ((λ h. absurd (omega (arith, h, zero))), tt),
          all_join (λ u. u.block ≡ 0 → u.bytes ≡ block_at (seen (written (some w) v)) 0) v.since (w ∷ [])
              (all_map (λ u. 1 ≤ u.block) (λ u. u.block ≡ 0 → u.bytes ≡ block_at (seen (written (some w) v)) 0) v.since (λ u h z. absurd (omega (arith, h, z))) d.earlier) ((λ z. sym head_is), tt),
          header_last none v.since w zero ∙ ap some (sym head_is),
        );
      }
    where
      -- with the header of the last flush it is the card from before the write
      old_recoverable : block_at (seen v) 0 ≡ block_at v.flushed 0 → 512 * w.block + 512 ≤ length (seen v) → Recoverable needed blocks area ranges commit g (old_head (written (some w) v)) kept
      old_recoverable old fits =
          let c : List ℕ = seen v in
          let h : List ℕ = block_at v.flushed 0 in
          let c₁ : List ℕ = put_block c w.block w.bytes in
          let h_long : length h ≡ 512 = block_length v.flushed 0 (omega (arith, d.whole, d.card.many)) in
          let c₁-long : length c₁ ≡ length c = put_length c w.block w.bytes long fits in
          let fits₁ : 512 * 0 + 512 ≤ length c₁ = omega (arith, c₁-long, d.card.whole, d.card.many) in
          rw (seen-written v w)
          (harmless_left blocks area ranges commit g c kept d.card (put_block c₁ 0 h) (put_length c₁ 0 h h_long fits₁ ∙ c₁-long) (put_same c₁ 0 h h_long fits₁ ∙ sym old)
          (λ n low bad need. put_other c₁ 0 h h_long fits₁ n (omega (arith, low)) ∙ put_other c w.block w.bytes long fits n (omega (arith, low, zero))))
