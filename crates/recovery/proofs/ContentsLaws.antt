-- Laws of layers: waiting frames and directories laid over what lies below, and entries put in by frame or taken out.
-- Assumes nothing.
use Prim.Native.Nat.{ℕ, zero, suc, ◌*◌, ◌≤◌, ◌<◌}
use borrow.Author.Tests.{eqb-true, eqb-false, eq-eqb, ne_eqb}
use lib.Dec.{ltb, eqb}
use lib.ListN.{length, take, get_or}
use mathlib.Core.Bool.{true, false, cond}
use mathlib.Core.List.{List, [], ◌∷◌}
use mathlib.Core.Logic.{◌≢◌}
use mathlib.Core.Path.{◌≡◌, refl, ap, sym, ◌∙◌}
use native.Mathlib.Omega.{arith}
use Rattle.card.proofs.BlockLaws.{block_length}
use Rattle.card.proofs.Test.{by_test, tests_swap, tests_twice}
use Rattle.card.specs.Block.{block_at}
use Rattle.card.specs.Bytes.{All}
use Rattle.card.specs.declared.directory.Entry.{Entry}
use Rattle.recovery.proofs.Sorted.{without_frame, queue_change, Without, Once, Absent, oldest}
use Rattle.recovery.specs.Contents.{Contents, FrameBytes, overlay, stored_frames}
use Rattle.recovery.specs.Directory.{insert_by_frame, by_frame}

-- the base counts only at the frame asked for
pub overlay_base : (ws : List FrameBytes) (a b : Contents) (f : ℕ) → a f ≡ b f → overlay ws a f ≡ overlay ws b f
unfolding overlay
overlay_base [] a b f h = h
overlay_base (w ∷ ws) a b f h = ap (cond (eqb f w.frame) w.bytes) (overlay_base ws a b f h)

-- a queue that has the frame hides what lies below
pub overlay_hides : (ws : List FrameBytes) (a b : Contents) (f : ℕ) → (Without f ws → ⊥) → overlay ws a f ≡ overlay ws b f
unfolding overlay
overlay_hides [] a b f h = absurd (h tt)
overlay_hides (w ∷ ws) a b f h =
    elim (eqb f w.frame) as (λ t. eqb f w.frame ≡ t → cond t w.bytes (overlay ws a f) ≡ cond t w.bytes (overlay ws b f)) [
      | true ↦ λ e. refl
      | false ↦ λ e. overlay_hides ws a b f (λ k. h (eqb-false f w.frame e, k))
    ] refl

-- a queue that has not the frame shows what lies below
pub overlay_without : (ws : List FrameBytes) (base : Contents) (f : ℕ) → Without f ws → overlay ws base f ≡ base f
unfolding overlay
overlay_without [] base f h = refl
overlay_without (w ∷ ws) base f h = rw (ne_eqb f w.frame h.0) (overlay_without ws base f h.1)

-- a member whose frame stands once can be taken last
pub overlay_last : (w : FrameBytes) (ws : List FrameBytes) (a : Contents) (f : ℕ) → Without w.frame ws → overlay (w ∷ ws) a f ≡ overlay ws (overlay (w ∷ []) a) f
unfolding overlay
overlay_last w [] a f h = refl
overlay_last w (x ∷ xs) a f h = tests_swap f w.frame x.frame w.bytes x.bytes (overlay xs a f) h.0 ∙ ap (cond (eqb f x.frame) x.bytes) (overlay_last w xs a f h.1)

-- the first member is found
pub overlay-first : (ws : List FrameBytes) (v : Contents) → 0 < length ws → overlay ws v (oldest ws).frame ≡ (oldest ws).bytes
unfolding overlay oldest
overlay-first [] v h = absurd (omega arith)
overlay-first (w ∷ ws) v h = rw (eq-eqb w.frame w.frame refl)

-- an entry put in by frame shows as one put in front
pub overlay-insert_by_frame : (c : List ℕ) (e : Entry) (es : List Entry) (a : Contents) (f : ℕ) → overlay (stored_frames c (insert_by_frame e es)) a f ≡ overlay (stored_frames c (e ∷ es)) a f
unfolding overlay stored_frames insert_by_frame
overlay-insert_by_frame c e [] a f = refl
overlay-insert_by_frame c e (x ∷ xs) a f =
    by_test (λ l. overlay (stored_frames c l) a f ≡ overlay (stored_frames c (e ∷ x ∷ xs)) a f) (ltb e.frame x.frame)
    (λ p. refl)
    (λ p. by_test (λ l. overlay (stored_frames c l) a f ≡ overlay (stored_frames c (e ∷ x ∷ xs)) a f) (eqb e.frame x.frame)
    (λ q. sym (tests_twice f e.frame x.frame _ _ _ (eqb-true _ _ q)))
    (λ q. ap (cond (eqb f x.frame) (block_at c x.block)) (overlay-insert_by_frame c e xs a f)
    ∙ sym (tests_swap f e.frame x.frame _ _ _ (eqb-false _ _ q))))

-- so does a change that joins the queue
pub overlay-queue_change : (w : FrameBytes) (ws : List FrameBytes) (a : Contents) (f : ℕ) → overlay (queue_change w ws) a f ≡ overlay (w ∷ ws) a f
unfolding overlay queue_change
overlay-queue_change w [] a f = refl
overlay-queue_change w (x ∷ xs) a f =
    by_test (λ l. overlay l a f ≡ overlay (w ∷ x ∷ xs) a f) (eqb w.frame x.frame)
    (λ q. sym (tests_twice f w.frame x.frame _ _ _ (eqb-true _ _ q)))
    (λ q. ap (cond (eqb f x.frame) x.bytes) (overlay-queue_change w xs a f) ∙ sym (tests_swap f w.frame x.frame _ _ _ (eqb-false _ _ q)))

-- the queue still names each frame once
pub without_queue_change : (g : ℕ) (w : FrameBytes) (ws : List FrameBytes) → g ≢ w.frame → Without g ws → Without g (queue_change w ws)
unfolding queue_change
without_queue_change g w [] n h = (n, tt)
without_queue_change g w (x ∷ xs) n h =
    by_test (λ l. Without g l) (eqb w.frame x.frame) (λ q. (n, h.1)) (λ q. (h.0, without_queue_change g w xs n h.1))

pub once-queue_change : (w : FrameBytes) (ws : List FrameBytes) → Once ws → Once (queue_change w ws)
unfolding queue_change
once-queue_change w [] h = (tt, tt)
once-queue_change w (x ∷ xs) h =
    by_test (λ l. Once l) (eqb w.frame x.frame)
    (λ q. (rw (← (eqb-true w.frame x.frame q)) at h.0, h.1))
    (λ q. (without_queue_change x.frame w xs (λ k. eqb-false _ _ q (sym k)) h.0, once-queue_change w xs h.1))

-- what holds of an entry and of all members holds of all after it is put in
pub all_insert_by_frame : (P : Entry → Type 0) (e : Entry) (es : List Entry) → P e → All P es → All P (insert_by_frame e es)
unfolding insert_by_frame
all_insert_by_frame P e [] p h = (p, tt)
all_insert_by_frame P e (x ∷ xs) p h =
    by_test (All P) (ltb e.frame x.frame) (λ q. (p, h))
    (λ q. by_test (All P) (eqb e.frame x.frame) (λ r. (p, h.1)) (λ r. (h.0, all_insert_by_frame P e xs p h.1)))

pub all_by_frame : (P : Entry → Type 0) (es : List Entry) → All P es → All P (by_frame es)
unfolding by_frame
all_by_frame P [] h = tt
all_by_frame P (e ∷ es) h = all_insert_by_frame P e (by_frame es) h.0 (all_by_frame P es h.1)

-- a directory whose blocks hold the same bytes shows the same
pub stored_frames_same : (c d : List ℕ) (es : List Entry) → All (λ e. block_at d e.block ≡ block_at c e.block) es → stored_frames d es ≡ stored_frames c es
unfolding stored_frames
stored_frames_same c d [] h = refl
stored_frames_same c d (e ∷ es) h = cc (h.0, stored_frames_same c d es h.1)

-- whole blocks over a whole block show one
pub overlay-whole : (ws : List FrameBytes) (base : Contents) (f : ℕ) → All (λ w. length w.bytes ≡ 512) ws → length (base f) ≡ 512 → length (overlay ws base f) ≡ 512
unfolding overlay
overlay-whole [] base f h l = l
overlay-whole (w ∷ ws) base f h l = by_test (λ (x : List ℕ). length x ≡ 512) (eqb f w.frame) (λ q. h.0) (λ q. overlay-whole ws base f h.1 l)

-- a directory whose blocks lie in the area has whole ones
pub stored_whole : (c : List ℕ) (area blocks : ℕ) → length c ≡ 512 * blocks → area < blocks → (es : List Entry) → All (λ e. e.block ≤ area) es → All (λ w. length w.bytes ≡ 512) (stored_frames c es)
unfolding stored_frames
stored_whole c area blocks long home [] h = tt
stored_whole c area blocks long home (e ∷ es) h = (block_length c e.block (omega (arith, h.0)), stored_whole c area blocks long home es h.1)

-- ---- an entry removed

-- other frames show as before
pub overlay_remove : (c : List ℕ) (f : ℕ) (es : List Entry) (a : Contents) (x : ℕ) → x ≢ f → overlay (stored_frames c (without_frame f es)) a x ≡ overlay (stored_frames c es) a x
unfolding overlay stored_frames without_frame
overlay_remove c f [] a x d = refl
overlay_remove c f (e ∷ es) a x d =
    by_test (λ l. overlay (stored_frames c l) a x ≡ overlay (stored_frames c (e ∷ es)) a x) (eqb f e.frame)
    (λ q. let n : x ≢ e.frame = λ k. d (k ∙ sym (eqb-true f e.frame q)) in rw (ne_eqb x e.frame n) (overlay_remove c f es a x d))
    (λ q. ap (cond (eqb x e.frame) (block_at c e.block)) (overlay_remove c f es a x d))

pub all_remove : (P : Entry → Type 0) (f : ℕ) (es : List Entry) → All P es → All P (without_frame f es)
unfolding without_frame
all_remove P f [] h = tt
all_remove P f (e ∷ es) h = by_test (All P) (eqb f e.frame) (λ q. all_remove P f es h.1) (λ q. (h.0, all_remove P f es h.1))

pub remove_absent : (f : ℕ) (es : List Entry) → Absent f (without_frame f es)
unfolding without_frame
remove_absent f [] = tt
remove_absent f (e ∷ es) = by_test (Absent f) (eqb f e.frame) (λ q. remove_absent f es) (λ q. (eqb-false f e.frame q, remove_absent f es))

pub length_remove : (f : ℕ) (es : List Entry) → length (without_frame f es) ≤ length es
unfolding without_frame
length_remove f [] = omega arith
length_remove f (e ∷ es) =
    by_test (λ (l : List Entry). length l ≤ suc (length es)) (eqb f e.frame) {x = without_frame f es} {y = e ∷ without_frame f es} (λ q. omega (arith, length_remove f es)) (λ q. omega (arith, length_remove f es))

pub length-insert_by_frame_new : (e : Entry) (es : List Entry) → Absent e.frame es → length (insert_by_frame e es) ≡ suc (length es)
unfolding insert_by_frame
length-insert_by_frame_new e [] h = refl
length-insert_by_frame_new e (x ∷ xs) h =
    by_test (λ (l : List Entry). length l ≡ suc (suc (length xs))) (ltb e.frame x.frame) (λ p. refl)
    (λ p. rw (ne_eqb e.frame x.frame h.0) (ap suc (length-insert_by_frame_new e xs h.1)))

-- what holds of the first m members, and of each one from there up to n, holds of the first n
pub all_on : {A : Type 0} (P : A → Type 0) (m n : ℕ) (xs : List A) (last : A) → All P (take m xs) → ((j : ℕ) → m ≤ j → j < n → j < length xs → P (get_or xs j last)) → All P (take n xs)
all_on P m zero xs last h g = tt
all_on P m (suc n) [] last h g = tt
all_on P zero (suc n) (x ∷ xs) last h g = (g 0 (omega arith) (omega arith) (omega arith), all_on P zero n xs last tt (λ j l k e. g (suc j) (omega arith) (omega arith) (omega arith)))
all_on P (suc m) (suc n) (x ∷ xs) last h g = (h.0, all_on P m n xs last h.1 (λ j l k e. g (suc j) (omega arith) (omega arith) (omega arith)))
