-- A generation whose record has (frame, last place) for each frame: what a change and a page-out do to its directory.
-- Assumes nothing.
use Prim.Native.Nat.{ℕ, suc, ◌≤◌, ◌<◌}
use borrow.Author.Tests.{ltb-true, eqb-true, eqb-false, lt-ltb, le-ltb, eq-eqb, ne_eqb}
use lib.Dec.{ltb, eqb}
use mathlib.Core.Bool.{Bool, true, false, cond}
use mathlib.Core.List.{List, [], ◌∷◌}
use mathlib.Core.Logic.{◌≢◌}
use mathlib.Core.Path.{◌≡◌, refl, ap, sym, ◌∙◌}
use native.Mathlib.Decide.{dec_lt, ℕ_discrete}
use native.Mathlib.Omega.{arith}
use Rattle.card.proofs.RingLaws.{ring_high}
use Rattle.card.proofs.Test.{by_test}
use Rattle.card.specs.Bytes.{All}
use Rattle.card.specs.Ring.{ring_at}
use Rattle.card.specs.declared.directory.Entry.{Entry}
use Rattle.recovery.proofs.Calls.{rising_remove}
use Rattle.recovery.proofs.GenerationLaws.{rising_insert_by_frame}
use Rattle.recovery.proofs.NoteLaws.{lookup-insert_by_frame, lookup-by_frame, rising_by_frame, rising_ext, rises_single, below_unnoted}
use Rattle.recovery.proofs.Sorted.{without_frame, lookup}
use Rattle.recovery.specs.Directory.{Note, note_change, insert_by_frame, by_frame, down_entries, dir_of}
use Rattle.recovery.specs.Sound.{Unnoted, Rises, Holds}

remove_hit : (f : ℕ) (es : List Entry) → lookup f (without_frame f es) ≡ 0
unfolding lookup without_frame
remove_hit f [] = refl
remove_hit f (e ∷ es) = by_test (λ l. lookup f l ≡ 0) (eqb f e.frame) (λ q. remove_hit f es) (λ q. rw q (remove_hit f es))

remove_miss : (x f : ℕ) (es : List Entry) → x ≢ f → lookup x (without_frame f es) ≡ lookup x es
unfolding lookup without_frame
remove_miss x f [] d = refl
remove_miss x f (e ∷ es) d = by_test (λ l. lookup x l ≡ lookup x (e ∷ es)) (eqb f e.frame)
    (λ q. let n : x ≢ e.frame = λ k. d (k ∙ sym (eqb-true f e.frame q)) in rw (ne_eqb x e.frame n) (remove_miss x f es d))
    (λ q. ap (cond (eqb x e.frame) (suc e.block)) (remove_miss x f es d))

same_test : (a n : ℕ) → a ≢ n → ltb a (suc n) ≡ ltb a n
same_test a n d = go (dec_lt a n)
  where
    go : Dec (a < n) → ltb a (suc n) ≡ ltb a n
    go (yes h) = lt-ltb a (suc n) (omega arith) ∙ sym (lt-ltb a n h)
    go (no h) = le-ltb a (suc n) (omega arith) ∙ sym (le-ltb a n (omega arith))

module _ (area first : ℕ) where
  -- a head that is not of frame x does not count
  pub lookup_other : (put x : ℕ) (e : Note) (es : List Note) → x ≢ e.frame → lookup x (down_entries area first put (e ∷ es)) ≡ lookup x (down_entries area first put es)
  unfolding down_entries lookup
  lookup_other put x e es d = by_test (λ l. lookup x l ≡ lookup x (down_entries area first put es)) (ltb e.place put) (λ q. rw (ne_eqb x e.frame d)) (λ q. refl)

  -- nor does one that lookup_waiting
  pub lookup_waiting : (put x : ℕ) (e : Note) (es : List Note) → put ≤ e.place → lookup x (down_entries area first put (e ∷ es)) ≡ lookup x (down_entries area first put es)
  unfolding down_entries
  lookup_waiting put x e es h = rw (le-ltb e.place put h)

  -- one that is down, of this frame
  pub lookup_down : (put : ℕ) (e : Note) (es : List Note) → e.place < put → lookup e.frame (down_entries area first put (e ∷ es)) ≡ suc (ring_at area first e.place)
  unfolding down_entries lookup
  lookup_down put e es h = rw (lt-ltb e.place put h, eq-eqb e.frame e.frame refl)

  -- the blocks of places that are down lie in the area
  pub down_inside : first ≤ area → (put : ℕ) (es : List Note) → All (λ e. e.place ≤ area) es → All (λ e. e.block ≤ area) (down_entries area first put es)
  unfolding down_entries
  down_inside l put [] h = tt
  down_inside l put (e ∷ es) h =
      by_test (All (λ x. x.block ≤ area)) (ltb e.place put) (λ q. (ring_high area first e.place l h.0, down_inside l put es h.1)) (λ q. down_inside l put es h.1)

  pub lookup_none : (put x : ℕ) (es : List Note) → Unnoted x es → lookup x (down_entries area first put es) ≡ 0
  unfolding lookup down_entries
  lookup_none put x [] h = refl
  lookup_none put x (e ∷ es) h = lookup_other put x e es h.0 ∙ lookup_none put x es h.1

  cons_same : (m n x : ℕ) (e : Note) (xs ys : List Note) → ltb e.place m ≡ ltb e.place n → lookup x (down_entries area first m xs) ≡ lookup x (down_entries area first n ys)
      → lookup x (down_entries area first m (e ∷ xs)) ≡ lookup x (down_entries area first n (e ∷ ys))
  unfolding down_entries lookup
  cons_same m n x e xs ys t k = rw t (go (ltb e.place n))
    where
      go : (u : Bool) → lookup x (cond u (record { frame = e.frame; block = ring_at area first e.place } ∷ down_entries area first m xs) (down_entries area first m xs))
          ≡ lookup x (cond u (record { frame = e.frame; block = ring_at area first e.place } ∷ down_entries area first n ys) (down_entries area first n ys))
      go true = ap (cond (eqb x e.frame) (suc (ring_at area first e.place))) k
      go false = k

  -- ---- a frame that takes a place which is not down lookup_waiting

  change_hit : (put f n : ℕ) (es : List Note) → put ≤ n → Rises es → lookup f (down_entries area first put (note_change (record { frame = f; place = n }) es)) ≡ 0
  unfolding note_change
  change_hit put f n [] h s = lookup_waiting put f (record { frame = f; place = n }) [] h ∙ lookup_none put f [] tt
  change_hit put f n (e ∷ es) h s = by_test (λ l. lookup f (down_entries area first put l) ≡ 0) (ltb f e.frame)
      (λ l. lookup_waiting put f (record { frame = f; place = n }) (e ∷ es) h ∙ lookup_none put f (e ∷ es) (below_unnoted f e es (ltb-true _ _ l) s))
      (λ l. by_test (λ l. lookup f (down_entries area first put l) ≡ 0) (eqb f e.frame)
      (λ q. lookup_waiting put f (record { frame = f; place = n }) es h ∙ lookup_none put f es (rw (← (eqb-true f e.frame q)) at (rises_single (e ∷ es) s).0))
      (λ q. lookup_other put f e _ (eqb-false f e.frame q) ∙ change_hit put f n es h s.1))

  change_miss : (put x f n : ℕ) (es : List Note) → x ≢ f → lookup x (down_entries area first put (note_change (record { frame = f; place = n }) es)) ≡ lookup x (down_entries area first put es)
  unfolding note_change
  change_miss put x f n [] d = lookup_other put x (record { frame = f; place = n }) [] d
  change_miss put x f n (e ∷ es) d = by_test (λ l. lookup x (down_entries area first put l) ≡ lookup x (down_entries area first put (e ∷ es))) (ltb f e.frame)
      (λ l. lookup_other put x (record { frame = f; place = n }) (e ∷ es) d)
      (λ l. by_test (λ l. lookup x (down_entries area first put l) ≡ lookup x (down_entries area first put (e ∷ es))) (eqb f e.frame)
      (λ q. lookup_other put x (record { frame = f; place = n }) es d ∙ sym (lookup_other put x e es (λ k. d (k ∙ sym (eqb-true f e.frame q)))))
      (λ q. cons_same put put x e (note_change (record { frame = f; place = n }) es) es refl (change_miss put x f n es d)))

  -- ---- the frame whose place is the next is put down

  out_hit : (put f : ℕ) (es : List Note) → Holds f put es → (Unnoted f es → ⊥) → lookup f (down_entries area first (suc put) es) ≡ suc (ring_at area first put)
  out_hit put f [] h n = absurd (n tt)
  out_hit put f (e ∷ es) h n = go (ℕ_discrete e.frame f) (λ k. out_hit put f es h.1 k)
    where
      go : Dec (e.frame ≡ f) → ((Unnoted f es → ⊥) → lookup f (down_entries area first (suc put) es) ≡ suc (ring_at area first put)) → lookup f (down_entries area first (suc put) (e ∷ es)) ≡ suc (ring_at area first put)
      go (yes q) rec =
          let at : e.place ≡ put = h.0.0 q in
          rw (← q) (lookup_down (suc put) e es (omega arith) ∙ ap (λ (k : ℕ). suc (ring_at area first k)) at)
      go (no d) rec = lookup_other (suc put) f e es (λ k. d (sym k)) ∙ rec (λ a. n (λ k. d (sym k), a))

  out_miss : (put x f : ℕ) (es : List Note) → Holds f put es → x ≢ f → lookup x (down_entries area first (suc put) es) ≡ lookup x (down_entries area first put es)
  unfolding down_entries
  out_miss put x f [] h d = refl
  out_miss put x f (e ∷ es) h d = go (ℕ_discrete e.frame f) (out_miss put x f es h.1 d)
    where
      go : Dec (e.frame ≡ f) → lookup x (down_entries area first (suc put) es) ≡ lookup x (down_entries area first put es) → lookup x (down_entries area first (suc put) (e ∷ es)) ≡ lookup x (down_entries area first put (e ∷ es))
      go (yes q) rec =
          let n : x ≢ e.frame = λ k. d (k ∙ q) in
          lookup_other (suc put) x e es n ∙ rec ∙ sym (lookup_other put x e es n)
      go (no n) rec = cons_same (suc put) put x e es es (same_test e.place put (λ k. n (h.0.1 k))) rec

  -- ---- the directory of the record

  -- a changed frame has no entry until it is put down
  pub dir_change : (put f n : ℕ) (es : List Note) → put ≤ n → Rises es → dir_of area first put (note_change (record { frame = f; place = n }) es) ≡ without_frame f (dir_of area first put es)
  unfolding dir_of
  dir_change put f n es h s = rising_ext _ _ (rising_by_frame _) (rising_remove f _ (rising_by_frame (down_entries area first put es))) (λ x. go x (ℕ_discrete x f))
    where
      go : (x : ℕ) → Dec (x ≡ f) → lookup x (by_frame (down_entries area first put (note_change (record { frame = f; place = n }) es))) ≡ lookup x (without_frame f (by_frame (down_entries area first put es)))
      go x (yes e) = rw e (lookup-by_frame f _ ∙ change_hit put f n es h s ∙ sym (remove_hit f _))
      go x (no d) = lookup-by_frame x _ ∙ change_miss put x f n es d ∙ sym (remove_miss x f _ d ∙ lookup-by_frame x _)

  -- then it has that of its place
  pub dir_out : (put f : ℕ) (es : List Note) → Holds f put es → (Unnoted f es → ⊥)
      → dir_of area first (suc put) es ≡ insert_by_frame (record { frame = f; block = ring_at area first put }) (dir_of area first put es)
  unfolding dir_of
  dir_out put f es h n = rising_ext _ _ (rising_by_frame _) (rising_insert_by_frame _ _ (rising_by_frame (down_entries area first put es))) (λ x. go x (ℕ_discrete x f))
    where
      new : Entry
      new = record { frame = f; block = ring_at area first put }

      go : (x : ℕ) → Dec (x ≡ f) → lookup x (by_frame (down_entries area first (suc put) es)) ≡ lookup x (insert_by_frame new (by_frame (down_entries area first put es)))
      go x (yes e) = rw e (lookup-by_frame f _ ∙ out_hit put f es h n ∙ sym (lookup-insert_by_frame f new _ ∙ rw (eq-eqb f f refl)))
      go x (no d) = lookup-by_frame x _ ∙ out_miss put x f es h d ∙ sym (lookup-insert_by_frame x new _ ∙ rw (ne_eqb x f d) (lookup-by_frame x _))
