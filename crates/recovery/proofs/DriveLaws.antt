-- A drive that puts writes down in an order of its own: what a cut leaves is a case of what the stronger drive may
-- leave, which gives every block that was written since the last flush any bytes, but block 0.
-- Assumes nothing.
use Prim.Native.Nat.{ℕ, ◌+◌, ◌*◌, ◌≤◌}
use borrow.Author.Tests.{eq-eqb, ne_eqb}
use lib.Dec.{eqb}
use lib.ListN.{length}
use mathlib.Core.Bool.{cond}
use mathlib.Core.List.{List, [], ◌∷◌, ◌++◌, append_assoc}
use mathlib.Core.Logic.{◌≢◌, inl, inr}
use mathlib.Core.Option.{Option, some}
use mathlib.Core.Path.{◌≡◌, refl, ap, sym, ◌∙◌, subst}
use native.Mathlib.Decide.{ℕ_discrete}
use native.Mathlib.Omega.{arith}
use Rattle.card.proofs.AllLaws.{all_join, all_left, all_right, all_map}
use Rattle.card.proofs.BlockLaws.{put_length, put_same, put_other}
use Rattle.card.specs.Block.{block_at, put_block}
use Rattle.card.specs.Bytes.{All}
use Rattle.recovery.specs.Write.{BlockWrite, Drive, put_all, seen, written, Left, stopped, put, torn, Proper, Unwritten, OldOrNew, Spoilt, header_among}

-- all put down in their order
pub put_joined : (ws us : List BlockWrite) (c : List ℕ) → put_all (ws ++ us) c ≡ put_all us (put_all ws c)
unfolding put_all
put_joined [] us c = refl
put_joined (w ∷ ws) us c = put_joined ws us (put_block c w.block w.bytes)

pub seen-written : (v : Drive) (w : BlockWrite) → seen (written (some w) v) ≡ put_block (seen v) w.block w.bytes
unfolding put_all
seen-written v w = put_joined v.since (w ∷ []) v.flushed

pub all_one : (P : BlockWrite → Type 0) (us vs : List BlockWrite) (w : BlockWrite) → All P (us ++ (w ∷ vs)) → P w × All P (us ++ vs)
all_one P us vs w h = let r = all_right P us (w ∷ vs) h in (r.0, all_join P us vs (all_left P us (w ∷ vs) h) r.1)

-- a cut may also leave every write down
pub all_down : (ws : List BlockWrite) (c : List ℕ) → Left (put_all ws c) ws c
unfolding put_all
all_down [] c = stopped [] c refl
all_down (w ∷ ws) c = put (w ∷ ws) [] ws w c refl (all_down ws (put_block c w.block w.bytes))

module _ (blocks : ℕ) where
  -- the same blocks, but for those that were written
  pub left_long : (c' : List ℕ) (ws : List BlockWrite) (c : List ℕ) → length c ≡ 512 * blocks → All (Proper blocks) ws → Left c' ws c → length c' ≡ 512 * blocks
  left_long c' ws c h p (stopped us d e) = rw e h
  left_long c' ws c h p (put xs us vs w d e l) =
      let q = all_one (Proper blocks) us vs w (subst (All (Proper blocks)) e p) in
      left_long c' (us ++ vs) (put_block c w.block w.bytes) (put_length c w.block w.bytes q.0.0 (omega (arith, q.0.1)) ∙ h) q.1 l
  left_long c' ws c h p (torn xs us vs w d x e low long is) =
      let q = all_one (Proper blocks) us vs w (subst (All (Proper blocks)) e p) in
      rw is (put_length c w.block x long (omega (arith, q.0.1)) ∙ h)

  pub left_other : (c' : List ℕ) (ws : List BlockWrite) (c : List ℕ) → length c ≡ 512 * blocks → All (Proper blocks) ws → Left c' ws c → (n : ℕ) → Unwritten n ws → block_at c' n ≡ block_at c n
  left_other c' ws c h p (stopped us d e) n un = rw e refl
  left_other c' ws c h p (put xs us vs w d e l) n un =
      let q = all_one (Proper blocks) us vs w (subst (All (Proper blocks)) e p) in
      let r = all_one (λ (u : BlockWrite). n ≢ u.block) us vs w (subst (Unwritten n) e un) in
      let fits : 512 * w.block + 512 ≤ length c = omega (arith, q.0.1) in
      left_other c' (us ++ vs) (put_block c w.block w.bytes) (put_length c w.block w.bytes q.0.0 fits ∙ h) q.1 l n r.1 ∙ put_other c w.block w.bytes q.0.0 fits n r.0
  left_other c' ws c h p (torn xs us vs w d x e low long is) n un =
      let q = all_one (Proper blocks) us vs w (subst (All (Proper blocks)) e p) in
      let r = all_one (λ (u : BlockWrite). n ≢ u.block) us vs w (subst (Unwritten n) e un) in
      rw is (put_other c w.block x long (omega (arith, q.0.1)) n r.0)

  -- block 0 is as it was, or as one of them writes it
  pub left_head : (P : List ℕ → Type 0) (c' : List ℕ) (ws : List BlockWrite) (c : List ℕ) → length c ≡ 512 * blocks → All (Proper blocks) ws → Left c' ws c
      → P (block_at c 0) → All (λ w. w.block ≡ 0 → P w.bytes) ws → P (block_at c' 0)
  left_head P c' ws c h p (stopped us d e) old new = rw e old
  left_head P c' ws c h p (put xs us vs w d e l) old new =
      let q = all_one (Proper blocks) us vs w (subst (All (Proper blocks)) e p) in
      let r = all_one (λ (u : BlockWrite). u.block ≡ 0 → P u.bytes) us vs w (subst (All (λ u. u.block ≡ 0 → P u.bytes)) e new) in
      let fits : 512 * w.block + 512 ≤ length c = omega (arith, q.0.1) in
      left_head P c' (us ++ vs) (put_block c w.block w.bytes) (put_length c w.block w.bytes q.0.0 fits ∙ h) q.1 l (next q.0.0 fits r.0 (ℕ_discrete w.block 0)) r.1
    where
      next : length w.bytes ≡ 512 → 512 * w.block + 512 ≤ length c → (w.block ≡ 0 → P w.bytes) → Dec (w.block ≡ 0) → P (block_at (put_block c w.block w.bytes) 0)
      next long fits f (yes z) = subst P (sym (put_same c w.block w.bytes long fits) ∙ ap (block_at (put_block c w.block w.bytes)) z) (f z)
      next long fits f (no d) = subst P (sym (put_other c w.block w.bytes long fits 0 (λ z. d (sym z)))) old
  left_head P c' ws c h p (torn xs us vs w d x e low long is) old new =
      let q = all_one (Proper blocks) us vs w (subst (All (Proper blocks)) e p) in
      rw is (subst P (sym (put_other c w.block x long (omega (arith, q.0.1)) 0 (omega arith))) old)

-- ---- every cut that document 02's drive may make is one of the stronger one's

-- each write of a list is one of it
among : (ts ws : List BlockWrite) → All (λ w. (us : List BlockWrite) × (vs : List BlockWrite) × (ts ++ ws ≡ us ++ (w ∷ vs))) ws
among ts [] = tt
among ts (w ∷ ws) = (
  (ts, ws, refl),
  all_map _ _ ws (λ u r. (r.0, r.1, sym (append_assoc ts (w ∷ []) ws) ∙ r.2)) (among (ts ++ (w ∷ [])) ws),
)

pub left_spoilt : (c' : List ℕ) (ws : List BlockWrite) (c : List ℕ) → Left c' ws c → Spoilt c' ws c
left_spoilt c' ws c l blocks whole proper = record {
  long = left_long blocks c' ws c whole proper l ∙ sym whole;
  others = left_other blocks c' ws c whole proper l;
  head = left_head blocks (OldOrNew (block_at c 0) ws) c' ws c whole proper l (inl refl)
      (all_map _ _ ws (λ w r z. inr (r.0, r.1, w, r.2, z, refl)) (among [] ws));
}

-- what holds of block 0 as it was, and of every header write, holds of it after a cut
pub head_is : (P : List ℕ → Type 0) (old x : List ℕ) (ws : List BlockWrite) → OldOrNew old ws x → P old
    → All (λ w. w.block ≡ 0 → P w.bytes) ws → P x
head_is P old x ws (inl e) was new = subst P (sym e) was
head_is P old x ws (inr (us, vs, w, e, z, is)) was new =
    let q = all_one (λ u. u.block ≡ 0 → P u.bytes) us vs w (subst (All (λ u. u.block ≡ 0 → P u.bytes)) e new) in
    subst P (sym is) (q.0 z)

-- ---- header writes among them

pub no_header : (o : Option (List ℕ)) (ws : List BlockWrite) → All (λ w. 1 ≤ w.block) ws → header_among o ws ≡ o
unfolding header_among
no_header o [] h = refl
no_header o (w ∷ ws) h = rw (ne_eqb w.block 0 (omega (arith, h.0))) (no_header o ws h.1)

pub header_last : (o : Option (List ℕ)) (ws : List BlockWrite) (w : BlockWrite) → w.block ≡ 0 → header_among o (ws ++ (w ∷ [])) ≡ some w.bytes
unfolding header_among
header_last o [] w z = rw (eq-eqb w.block 0 z)
header_last o (x ∷ xs) w z = header_last (cond (eqb x.block 0) (some x.bytes) o) xs w z
