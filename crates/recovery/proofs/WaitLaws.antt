-- The queue of a generation: what a change and a page-out do to it, and what it shows.
-- Assumes nothing.
use Prim.Native.Nat.{ℕ, zero, suc, ◌+◌, ◌≤◌, ◌<◌}
use borrow.Author.Tests.{eqb-true, eq-eqb, ne_eqb}
use lib.Dec.{ltb, eqb}
use lib.ListN.{length, set, get_or}
use mathlib.Core.Bool.{cond}
use mathlib.Core.List.{List, [], ◌∷◌, ◌++◌}
use mathlib.Core.Logic.{◌≢◌}
use mathlib.Core.Path.{◌≡◌, refl, ap, sym}
use native.Mathlib.Omega.{arith}
use Rattle.card.proofs.Test.{by_test}
use Rattle.card.specs.Bytes.{All}
use Rattle.recovery.proofs.Sorted.{queue_change, Without, oldest}
use Rattle.recovery.specs.Contents.{Contents, FrameBytes, overlay}
use Rattle.recovery.specs.Directory.{Note, note_change, frame_of, waiting_from}
use Rattle.recovery.specs.State.{Generation, waiting_frames}

same_held : {f g : ℕ} {a b : List ℕ} → f ≡ g → a ≡ b → ◌≡◌ {A = FrameBytes} (record { frame = f; bytes = a }) (record { frame = g; bytes = b })
same_held p q = λ i. record { frame = p i; bytes = q i }

pub length_waiting : (es : List Note) (k : ℕ) (xs : List (List ℕ)) → length (waiting_from es k xs) ≡ length xs
unfolding waiting_from
length_waiting es k [] = refl
length_waiting es k (x ∷ xs) = ap suc (length_waiting es (suc k) xs)

pub wait_same : (es fs : List Note) (k : ℕ) (xs : List (List ℕ)) → ((j : ℕ) → k ≤ j → j < k + length xs → frame_of j es ≡ frame_of j fs) → waiting_from es k xs ≡ waiting_from fs k xs
unfolding waiting_from
wait_same es fs k [] h = refl
wait_same es fs k (x ∷ xs) h = cc (same_held {b = x} (h k (omega arith) (omega arith)) refl, wait_same es fs (suc k) xs (λ j l m. h j (omega arith) (omega arith)))

pub wait_last : (es : List Note) (k : ℕ) (xs : List (List ℕ)) (x : List ℕ)
    → waiting_from es k (xs ++ (x ∷ [])) ≡ waiting_from es k xs ++ (record { frame = frame_of (k + length xs) es; bytes = x } ∷ [])
unfolding waiting_from
wait_last es k [] x = let e : k + 0 ≡ k = omega arith in rw e
wait_last es k (y ∷ xs) x =
    let e : k + suc (length xs) ≡ suc k + length xs = omega arith in
    rw e (ap (λ (l : List FrameBytes). record { frame = frame_of k es; bytes = y } ∷ l) (wait_last es (suc k) xs x))

-- a change of a frame that does not wait comes last
pub queue_new : (w : FrameBytes) (q : List FrameBytes) → Without w.frame q → queue_change w q ≡ q ++ (w ∷ [])
unfolding queue_change
queue_new w [] h = refl
queue_new w (x ∷ xs) h = rw (ne_eqb w.frame x.frame h.0) (ap (λ (l : List FrameBytes). x ∷ l) (queue_new w xs h.1))

pub wait_without : (es : List Note) (f k : ℕ) (xs : List (List ℕ)) → ((j : ℕ) → k ≤ j → j < k + length xs → f ≢ frame_of j es) → Without f (waiting_from es k xs)
unfolding waiting_from
wait_without es f k [] h = tt
wait_without es f k (x ∷ xs) h = (h k (omega arith) (omega arith), wait_without es f (suc k) xs (λ j l m. h j (omega arith) (omega arith)))

-- the frame waits at turn i: its bytes change there, and it keeps its turn
pub wait_again : (es : List Note) (f i k : ℕ) (xs : List (List ℕ)) (x : List ℕ) → i < length xs → frame_of (k + i) es ≡ f → ((j : ℕ) → k ≤ j → j < k + i → f ≢ frame_of j es)
    → waiting_from es k (set xs i x) ≡ queue_change (record { frame = f; bytes = x }) (waiting_from es k xs)
unfolding waiting_from queue_change
wait_again es f i k [] x h is un = absurd (omega arith)
wait_again es f zero k (y ∷ xs) x h is un =
    let e : k + 0 ≡ k = omega arith in
    let at : frame_of k es ≡ f = rw e at is in
    rw (eq-eqb f (frame_of k es) (sym at)) (cc (same_held {b = x} at refl))
wait_again es f (suc i) k (y ∷ xs) x h is un =
    let e : k + suc i ≡ suc k + i = omega arith in
    rw (ne_eqb f (frame_of k es) (un k (omega arith) (omega arith)))
    (ap (λ (l : List FrameBytes). record { frame = frame_of k es; bytes = y } ∷ l) (wait_again es f i (suc k) xs x (omega arith) (rw e at is) (λ j l m. un j (omega arith) (omega arith))))

-- the frame waits at turn i: its bytes are shown
pub overlay_turn : (es : List Note) (base : Contents) (f i k : ℕ) (xs : List (List ℕ)) → i < length xs → frame_of (k + i) es ≡ f → ((j : ℕ) → k ≤ j → j < k + i → f ≢ frame_of j es)
    → overlay (waiting_from es k xs) base f ≡ get_or xs i []
unfolding overlay waiting_from
overlay_turn es base f i k [] h is un = absurd (omega arith)
overlay_turn es base f zero k (x ∷ xs) h is un =
    let e : k + 0 ≡ k = omega arith in
    rw (eq-eqb f (frame_of k es) (sym (rw e at is)))
overlay_turn es base f (suc i) k (x ∷ xs) h is un =
    let e : k + suc i ≡ suc k + i = omega arith in
    rw (ne_eqb f (frame_of k es) (un k (omega arith) (omega arith))) (overlay_turn es base f i (suc k) xs (omega arith) (rw e at is) (λ j l m. un j (omega arith) (omega arith)))

-- ---- places

-- the frame at the new place, and at the others
pub frame_new : (f p : ℕ) (es : List Note) → All (λ e. e.place < p) es → frame_of p (note_change (record { frame = f; place = p }) es) ≡ f
unfolding frame_of note_change
frame_new f p [] h = rw (eq-eqb p p refl)
frame_new f p (e ∷ es) h = by_test (λ l. frame_of p l ≡ f) (ltb f e.frame) (λ l. rw (eq-eqb p p refl))
    (λ l. by_test (λ l. frame_of p l ≡ f) (eqb f e.frame) (λ q. rw (eq-eqb p p refl))
    (λ q. rw (ne_eqb p e.place (omega (arith, h.0))) (frame_new f p es h.1)))

pub frame_other : (f p j : ℕ) (es : List Note) → j ≢ p → All (λ e. e.frame ≡ f → e.place ≢ j) es → frame_of j (note_change (record { frame = f; place = p }) es) ≡ frame_of j es
unfolding frame_of note_change
frame_other f p j [] d h = rw (ne_eqb j p d)
frame_other f p j (e ∷ es) d h = by_test (λ l. frame_of j l ≡ frame_of j (e ∷ es)) (ltb f e.frame) (λ l. rw (ne_eqb j p d))
    (λ l. by_test (λ l. frame_of j l ≡ frame_of j (e ∷ es)) (eqb f e.frame)
    (λ q. rw (ne_eqb j p d, ne_eqb j e.place (λ k. h.0 (sym (eqb-true f e.frame q)) (sym k))))
    (λ q. ap (cond (eqb j e.place) e.frame) (frame_other f p j es d h.1)))

-- the oldest one holds the next place
pub oldest_frame : (g : Generation) → 0 < length g.waiting → (oldest (waiting_frames g)).frame ≡ frame_of g.pages_down g.entries
unfolding waiting_frames
oldest_frame g h = go g.waiting h
  where
    go : (xs : List (List ℕ)) → 0 < length xs → (oldest (waiting_from g.entries g.pages_down xs)).frame ≡ frame_of g.pages_down g.entries
    go [] k = absurd (omega arith)
    go (x ∷ xs) k = unfold oldest waiting_from in refl
