-- The steps of a generation with its entries by rising frame are the steps of the sorted one, and question 2's facts
-- about its entries are kept.
-- Assumes nothing.
use Prim.Native.Nat.{ℕ, zero, suc, ◌+◌, ◌-◌, ◌≤◌, ◌<◌}
use borrow.Author.Tests.{ltb-true, ltb-false, eqb-true, eqb-false, lt-ltb, le-ltb, ne_eqb}
use lib.Dec.{ltb, eqb}
use lib.ListN.{length, set, length-append, length-set}
use mathlib.Core.Bool.{Bool, true, false, cond}
use mathlib.Core.List.{List, [], ◌∷◌, ◌++◌}
use mathlib.Core.Logic.{◌≢◌}
use mathlib.Core.Option.{Option, none, some}
use mathlib.Core.Path.{◌≡◌, refl, ap, sym, ◌∙◌, subst}
use native.Mathlib.Decide.{ℕ_discrete}
use native.Mathlib.Omega.{arith}
use Rattle.card.proofs.AllLaws.{all_map, all_both}
use Rattle.card.proofs.BytesLaws.{length_tail}
use Rattle.card.proofs.Test.{by_test}
use Rattle.card.specs.Bytes.{All}
use Rattle.card.specs.declared.directory.Entry.{Entry}
use Rattle.recovery.proofs.ContentsLaws.{length-insert_by_frame_new}
use Rattle.recovery.proofs.NoteLaws.{Single, lookup-by_frame, rises_single, below_unnoted, all_note, rises_note}
use Rattle.recovery.proofs.PlaceLaws.{lookup_other, dir_change, dir_out}
use Rattle.recovery.proofs.SizeLaws.{paged_out_count}
use Rattle.recovery.proofs.Sorted.{without_frame, queue_change, Absent, lookup, SortedGeneration, places_of, count_of, size_of, sorted_generation, oldest, paged_out, queue_all, without_all}
use Rattle.recovery.proofs.WaitLaws.{length_waiting, wait_same, wait_last, queue_new, wait_without, wait_again, frame_new, frame_other}
use Rattle.recovery.specs.Contents.{FrameBytes}
use Rattle.recovery.specs.Directory.{Note, note_change, by_frame, down_entries, dir_of, frame_of, waiting_from, turn_of}
use Rattle.recovery.specs.Sound.{Unnoted, Rises, Holds, Ordered}
use Rattle.recovery.specs.State.{places, Generation, entry_count, size, directory_of, waiting_frames}
use Rattle.recovery.specs.Step.{queued, change_frame, change_frames, oldest_bytes, out_of}

-- ---- the frame of the next place has no entry

lookup_absent : (f : ℕ) (es : List Entry) → lookup f es ≡ 0 → Absent f es
unfolding lookup
lookup_absent f [] = λ h. tt
lookup_absent f (e ∷ es) = go (eqb f e.frame) refl (lookup_absent f es)
  where
    go : (t : Bool) → eqb f e.frame ≡ t → (lookup f es ≡ 0 → Absent f es) → cond t (suc e.block) (lookup f es) ≡ 0 → Absent f (e ∷ es)
    go true q rec h = absurd (omega arith)
    go false q rec h = (eqb-false f e.frame q, rec h)

module _ (area first : ℕ) where
  lookup-waits : (put f : ℕ) (es : List Note) → Holds f put es → lookup f (down_entries area first put es) ≡ 0
  unfolding down_entries lookup
  lookup-waits put f [] h = refl
  lookup-waits put f (e ∷ es) h = go (ℕ_discrete f e.frame) (lookup-waits put f es h.1)
    where
      go : Dec (f ≡ e.frame) → lookup f (down_entries area first put es) ≡ 0 → lookup f (down_entries area first put (e ∷ es)) ≡ 0
      go (yes q) rec = rw (le-ltb e.place put (omega (arith, h.0.0 (sym q)))) rec
      go (no d) rec = lookup_other area first put f e es d ∙ rec

  waits_absent : (put f : ℕ) (es : List Note) → Holds f put es → Absent f (dir_of area first put es)
  unfolding dir_of
  waits_absent put f es h = lookup_absent f _ (lookup-by_frame f _ ∙ lookup-waits put f es h)

  -- ---- where none waits every entry is in the directory

  pub down_absent : (put f : ℕ) (es : List Note) → Unnoted f es → Absent f (dir_of area first put es)
  unfolding dir_of
  down_absent put f es h = lookup_absent f _ (lookup-by_frame f _ ∙ go es h)
    where
      go : (xs : List Note) → Unnoted f xs → lookup f (down_entries area first put xs) ≡ 0
      go [] k = unfold down_entries lookup in refl
      go (e ∷ xs) k = lookup_other area first put f e xs k.0 ∙ go xs k.1

  length_down : (put : ℕ) (es : List Note) → Single es → All (λ e. e.place < put) es → length (dir_of area first put es) ≡ length es
  unfolding dir_of down_entries by_frame
  length_down put [] s h = refl
  length_down put (e ∷ es) s h =
      rw (lt-ltb e.place put h.0) (length-insert_by_frame_new _ (by_frame (down_entries area first put es)) (down_absent put e.frame es s.0) ∙ ap suc (length_down put es s.1 h.1))

-- ---- a page-out

out_same : (area first put : ℕ) (es : List Note) (x : List ℕ) (xs : List (List ℕ)) → Holds (frame_of put es) put es → (Unnoted (frame_of put es) es → ⊥)
    → sorted_generation area (out_of (record { first = first; pages_down = put; entries = es; waiting = x ∷ xs })) ≡ paged_out area (sorted_generation area (record { first = first; pages_down = put; entries = es; waiting = x ∷ xs }))
unfolding out_of paged_out directory_of waiting_frames waiting_from oldest
out_same area first put es x xs h n = λ i. record { first = first; pages_down = suc put; dir = dir_out area first put (frame_of put es) es h n i; waiting = waiting_from es (suc put) xs }

module _ (area : ℕ) where
  -- a page-out is one of the sorted form
  pub sorted_out : (g : Generation) → Ordered g → 0 < length g.waiting → sorted_generation area (out_of g) ≡ paged_out area (sorted_generation area g)
  sorted_out g o k = go g.waiting refl
    where
      first-waits : Holds (frame_of g.pages_down g.entries) g.pages_down g.entries × (Unnoted (frame_of g.pages_down g.entries) g.entries → ⊥)
      first-waits = o.waits g.pages_down (omega arith) (unfold places in (omega arith))

      go : (xs : List (List ℕ)) → g.waiting ≡ xs → sorted_generation area (out_of g) ≡ paged_out area (sorted_generation area g)
      go [] e = absurd (omega (arith, ap length e))
      go (x ∷ xs) e =
          let is : g ≡ record { first = g.first; pages_down = g.pages_down; entries = g.entries; waiting = x ∷ xs } = λ i. record { first = g.first; pages_down = g.pages_down; entries = g.entries; waiting = e i } in
          subst (λ (z : Generation). sorted_generation area (out_of z) ≡ paged_out area (sorted_generation area z)) (sym is)
          (out_same area g.first g.pages_down g.entries x xs first-waits.0 first-waits.1)

  pub oldest_is : (g : Generation) → oldest_bytes g.waiting ≡ (oldest (waiting_frames g)).bytes
  unfolding oldest_bytes oldest waiting_frames waiting_from
  oldest_is g = go g.waiting
    where
      go : (xs : List (List ℕ)) → oldest_bytes xs ≡ (oldest (waiting_from g.entries g.pages_down xs)).bytes
      go [] = refl
      go (x ∷ xs) = refl

pub out_places : (g : Generation) → 0 < length g.waiting → places (out_of g) ≡ places g
unfolding places out_of
out_places g h = omega (arith, length_tail g.waiting h)

pub out_ordered : (g : Generation) → Ordered g → 0 < length g.waiting → Ordered (out_of g)
unfolding out_of
out_ordered g o h =
    let e : places (out_of g) ≡ places g = out_places g h in
    record { rises = o.rises; taken = rw e o.taken; waits = λ k l m. o.waits k (omega arith) (omega (arith, e)) }

out_waiting : (g : Generation) → 0 < length g.waiting → suc (length (out_of g).waiting) ≡ length g.waiting
unfolding out_of
out_waiting g h = length_tail g.waiting h

next_taken : (g : Generation) → 0 < length g.waiting → g.pages_down < places g
unfolding places
next_taken g h = omega arith

pub long_waiting : (g : Generation) → length (waiting_frames g) ≡ length g.waiting
unfolding waiting_frames
long_waiting g = length_waiting g.entries g.pages_down g.waiting

pub some_waiting : (g : Generation) → 0 < length g.waiting → 0 < length (waiting_frames g)
some_waiting g h = omega (arith, long_waiting g)

-- ---- e and the size

module _ (area : ℕ) where
  pub same_places : (g : Generation) → places g ≡ places_of (sorted_generation area g)
  unfolding places places_of waiting_frames
  same_places g = omega (arith, length_waiting g.entries g.pages_down g.waiting)

  count_none : (g : Generation) → length g.waiting ≡ 0 → Ordered g → entry_count g ≡ count_of (sorted_generation area g)
  unfolding count_of places waiting_frames directory_of
  count_none g h o =
      let all : length (dir_of area g.first g.pages_down g.entries) ≡ length g.entries =
      length_down area g.first g.pages_down g.entries (rises_single g.entries o.rises) (all_map (λ e. e.place < places g) (λ e. e.place < g.pages_down) g.entries (λ e l. omega arith) o.taken) in
      omega (arith, all, length_waiting g.entries g.pages_down g.waiting)

  count_out : (g : Generation) → 0 < length g.waiting → Ordered g → entry_count (out_of g) ≡ count_of (sorted_generation area (out_of g)) → entry_count g ≡ count_of (sorted_generation area g)
  unfolding out_of directory_of waiting_frames
  count_out g more o rec =
      let w = o.waits g.pages_down (omega arith) (next_taken g more) in
      let front : (oldest (waiting_from g.entries g.pages_down g.waiting)).frame ≡ frame_of g.pages_down g.entries = first_frame g.waiting more in
      let new : Absent (oldest (waiting_frames g)).frame (directory_of area g) = rw front (waits_absent area g.first g.pages_down (frame_of g.pages_down g.entries) g.entries w.0) in
      rec ∙ ap count_of (sorted_out area g o more) ∙ paged_out_count area (sorted_generation area g) (omega (arith, long_waiting g)) new
    where
      first_frame : (xs : List (List ℕ)) → 0 < length xs → (oldest (waiting_from g.entries g.pages_down xs)).frame ≡ frame_of g.pages_down g.entries
      first_frame [] k = absurd (omega arith)
      first_frame (x ∷ xs) k = unfold oldest waiting_from in refl

  count_go : (n : ℕ) (g : Generation) → length g.waiting ≡ n → Ordered g → entry_count g ≡ count_of (sorted_generation area g)
  count_go zero g h o = count_none g h o
  count_go (suc n) g h o = count_out g (omega arith) o (count_go n (out_of g) (omega (arith, out_waiting g (omega arith))) (out_ordered g o (omega arith)))

  -- the sorted form has as many entries, and the same size
  pub same_count : (g : Generation) → Ordered g → entry_count g ≡ count_of (sorted_generation area g)
  same_count g o = count_go (length g.waiting) g refl o

  pub same_size : (g : Generation) → Ordered g → size g ≡ size_of (sorted_generation area g)
  unfolding size size_of
  same_size g o = cc (same_places g, same_count g o)

-- ---- a change

module _ (f put : ℕ) where
  turn_none : (es : List Note) → Single es → turn_of f put es ≡ none → All (λ e. e.frame ≡ f → e.place < put) es
  unfolding turn_of
  turn_none [] s = λ h. tt
  turn_none (e ∷ es) s = go (eqb f e.frame) (ltb e.place put) refl refl (turn_none es s.1)
    where
      go : (t u : Bool) → eqb f e.frame ≡ t → ltb e.place put ≡ u → (turn_of f put es ≡ none → All (λ x. x.frame ≡ f → x.place < put) es)
          → cond t (cond u none (some (e.place - put))) (turn_of f put es) ≡ none → All (λ x. x.frame ≡ f → x.place < put) (e ∷ es)
      go true true q r rec h = ((λ k. ltb-true _ _ r), all_map (λ x. e.frame ≢ x.frame) (λ x. x.frame ≡ f → x.place < put) es (λ x d k. absurd (d (sym (k ∙ eqb-true f e.frame q)))) s.0)
      go true false q r rec h = let z : ◌≡◌ {A = ℕ} 0 1 = cc in absurd (omega arith)
      go false u q r rec h = ((λ k. absurd (eqb-false f e.frame q (sym k))), rec h)

  -- what holds of every entry holds of the one that has the turn
  turn_some : (es : List Note) (i : ℕ) (P : Note → Type 0) → turn_of f put es ≡ some i → All P es → P (record { frame = f; place = put + i })
  unfolding turn_of
  turn_some [] i P = λ h a. let z : ◌≡◌ {A = ℕ} 0 1 = cc in absurd (omega arith)
  turn_some (e ∷ es) i P = go (eqb f e.frame) (ltb e.place put) refl refl (turn_some es i P)
    where
      go : (t u : Bool) → eqb f e.frame ≡ t → ltb e.place put ≡ u → (turn_of f put es ≡ some i → All P es → P (record { frame = f; place = put + i }))
          → cond t (cond u none (some (e.place - put))) (turn_of f put es) ≡ some i → All P (e ∷ es) → P (record { frame = f; place = put + i })
      go true true q r rec h a = let z : ◌≡◌ {A = ℕ} 0 1 = cc in absurd (omega arith)
      go true false q r rec h a =
          let i-is : e.place - put ≡ i = cc in
          let place_is : e.place ≡ put + i = omega (arith, ltb-false e.place put r) in
          let is : e ≡ record { frame = f; place = put + i } = λ j. record { frame = sym (eqb-true f e.frame q) j; place = place_is j } in
          subst P is a.0
      go false u q r rec h a = rec h a.1

  -- a frame that is not there has no turn
  unturned : (es : List Note) → Unnoted f es → turn_of f put es ≡ none
  unfolding turn_of
  unturned [] h = refl
  unturned (x ∷ es) h = rw (ne_eqb f x.frame h.0) (unturned es h.1)

  -- its entry stays as it is
  turn_same : (es : List Note) (i : ℕ) → Rises es → turn_of f put es ≡ some i → note_change (record { frame = f; place = put + i }) es ≡ es
  unfolding turn_of note_change
  turn_same [] i s = λ h. let z : ◌≡◌ {A = ℕ} 0 1 = cc in absurd (omega arith)
  turn_same (e ∷ es) i s = go (ltb f e.frame) (eqb f e.frame) (ltb e.place put) refl refl refl (turn_same es i s.1)
    where
      go : (v t u : Bool) → ltb f e.frame ≡ v → eqb f e.frame ≡ t → ltb e.place put ≡ u → (turn_of f put es ≡ some i → note_change (record { frame = f; place = put + i }) es ≡ es)
          → cond t (cond u none (some (e.place - put))) (turn_of f put es) ≡ some i
          → cond v (record { frame = f; place = put + i } ∷ e ∷ es) (cond t (record { frame = f; place = put + i } ∷ es) (e ∷ note_change (record { frame = f; place = put + i }) es)) ≡ e ∷ es
      go true true u l q r rec h = absurd (omega (arith, ltb-true f e.frame l, eqb-true f e.frame q))
      go true false u l q r rec h =
          let no : turn_of f put es ≡ none = unturned es (below_unnoted f e es (ltb-true f e.frame l) s).1 in
          let h' : none ≡ some i = sym no ∙ h in
          let z : ◌≡◌ {A = ℕ} 0 1 = cc in
          absurd (omega arith)
      go false true true l q r rec h = let z : ◌≡◌ {A = ℕ} 0 1 = cc in absurd (omega arith)
      go false true false l q r rec h =
          let i-is : e.place - put ≡ i = cc in
          let place_is : e.place ≡ put + i = omega (arith, ltb-false e.place put r) in
          let is : record { frame = f; place = put + i } ≡ e = λ j. record { frame = eqb-true f e.frame q j; place = sym place_is j } in
          ap (λ (x : Note). x ∷ es) is
      go false false u l q r rec h = ap (λ (l : List Note). e ∷ l) (rec h)

holds_new : (f p : ℕ) (es : List Note) → Rises es → All (λ e. e.place < p) es → Holds f p (note_change (record { frame = f; place = p }) es)
unfolding note_change
holds_new f p [] s h = (((λ k. refl), (λ k. refl)), tt)
holds_new f p (e ∷ es) s h = by_test (Holds f p) (ltb f e.frame)
    (λ l. (
      ((λ k. refl), (λ k. refl)),
      all_both (λ x. f ≢ x.frame) (λ x. x.place < p) (λ x. (x.frame ≡ f → x.place ≡ p) × (x.place ≡ p → x.frame ≡ f)) (e ∷ es)
          (λ x a m. ((λ k. absurd (a (sym k))), (λ k. absurd (omega arith)))) (below_unnoted f e es (ltb-true f e.frame l) s) h,
    ))
    (λ l. by_test (Holds f p) (eqb f e.frame)
    (λ q. (
      ((λ k. refl), (λ k. refl)),
      all_both (λ x. e.frame < x.frame) (λ x. x.place < p) (λ x. (x.frame ≡ f → x.place ≡ p) × (x.place ≡ p → x.frame ≡ f)) es
          (λ x a m. ((λ k. absurd (omega (arith, k, eqb-true f e.frame q))), (λ k. absurd (omega arith)))) s.0 h.1,
    ))
    (λ q. (((λ k. absurd (eqb-false f e.frame q (sym k))), (λ k. absurd (omega (arith, h.0)))), holds_new f p es s.1 h.1)))

noted : (f p : ℕ) (es : List Note) → Unnoted f (note_change (record { frame = f; place = p }) es) → ⊥
unfolding note_change
noted f p [] = λ h. h.0 refl
noted f p (e ∷ es) = by_test (λ l. Unnoted f l → ⊥) (ltb f e.frame) (λ l h. h.0 refl) (λ l. by_test (λ l. Unnoted f l → ⊥) (eqb f e.frame) (λ q h. h.0 refl) (λ q h. noted f p es h.1))

unnoted_back : (x f p : ℕ) (es : List Note) → x ≢ f → Unnoted x (note_change (record { frame = f; place = p }) es) → Unnoted x es
unfolding note_change
unnoted_back x f p [] d = λ h. tt
unnoted_back x f p (e ∷ es) d = by_test (λ l. Unnoted x l → Unnoted x (e ∷ es)) (ltb f e.frame) (λ l h. h.1) (λ l. by_test (λ l. Unnoted x l → Unnoted x (e ∷ es)) (eqb f e.frame)
    (λ q h. ((λ k. d (k ∙ sym (eqb-true f e.frame q))), h.1)) (λ q h. (h.0, unnoted_back x f p es d h.1)))

module _ (area : ℕ) (w : FrameBytes) (g : Generation) (o : Ordered g) where
  f : ℕ
  f = w.frame

  es : List Note
  es = g.entries

  abbrev Goal : Generation → Type 0
  Goal h = Ordered h × (sorted_generation area h ≡ record {
    first = g.first;
    pages_down = g.pages_down;
    dir = without_frame w.frame (directory_of area g);
    waiting = queue_change w (waiting_frames g);
  })

  -- the frame waits
  change_again : (i : ℕ) → turn_of w.frame g.pages_down g.entries ≡ some i → Goal (queued (some i) w g)
  unfolding queued directory_of waiting_frames
  change_again i e =
      let under : g.pages_down + i < places g = turn_some w.frame g.pages_down g.entries i (λ x. x.place < places g) e o.taken in
      let short : i < length g.waiting = unfold places in (omega arith) in
      let held = o.waits (g.pages_down + i) (omega arith) under in
      let is : w.frame ≡ frame_of (g.pages_down + i) g.entries =
      (turn_some w.frame g.pages_down g.entries i (λ x. (x.frame ≡ frame_of (g.pages_down + i) g.entries → x.place ≡ g.pages_down + i) × (x.place ≡ g.pages_down + i → x.frame ≡ frame_of (g.pages_down + i) g.entries)) e held.0).1 refl in
      let before : (j : ℕ) → g.pages_down ≤ j → j < g.pages_down + i → w.frame ≢ frame_of j g.entries =
      λ j l m k. (let h : g.pages_down + i ≡ j = (turn_some w.frame g.pages_down g.entries i (λ x. (x.frame ≡ frame_of j g.entries → x.place ≡ j) × (x.place ≡ j → x.frame ≡ frame_of j g.entries)) e (o.waits j l (omega arith)).0).0 k in omega arith) in
      let dir_is : dir_of area g.first g.pages_down g.entries ≡ without_frame w.frame (dir_of area g.first g.pages_down g.entries) =
      ap (dir_of area g.first g.pages_down) (sym (turn_same w.frame g.pages_down g.entries i o.rises e)) ∙ dir_change area g.first g.pages_down w.frame (g.pages_down + i) g.entries (omega arith) o.rises in
      let wait-is = wait_again g.entries w.frame i g.pages_down g.waiting w.bytes short (sym is) before in
      let same : places (record { first = g.first; pages_down = g.pages_down; entries = g.entries; waiting = set g.waiting i w.bytes }) ≡ places g = unfold places in (omega (arith, length-set g.waiting i w.bytes)) in (
        record { rises = o.rises; taken = rw same o.taken; waits = λ k l m. o.waits k l (omega (arith, same)) },
        λ j. record { first = g.first; pages_down = g.pages_down; dir = dir_is j; waiting = wait-is j },
      )

  -- it does not: it takes the next place
  change_new : turn_of w.frame g.pages_down g.entries ≡ none → Goal (queued none w g)
  unfolding queued directory_of waiting_frames
  change_new e =
      let p : ℕ = places g in
      let p-is : places g ≡ g.pages_down + length g.waiting = unfold places in refl in
      let new : Note = record { frame = w.frame; place = places g } in
      let old = turn_none w.frame g.pages_down g.entries (rises_single g.entries o.rises) e in
      let away : (j : ℕ) → g.pages_down ≤ j → All (λ x. x.frame ≡ w.frame → x.place ≢ j) g.entries =
      λ j l. all_map (λ x. x.frame ≡ w.frame → x.place < g.pages_down) (λ x. x.frame ≡ w.frame → x.place ≢ j) g.entries (λ x h k. omega (arith, h k)) old in
      let un : (j : ℕ) → g.pages_down ≤ j → j < places g → w.frame ≢ frame_of j g.entries =
      λ j l m k. (let q = o.waits j l m in q.1 (rw (← k) (unheld g.entries old j l (rw (← k) at q.0)))) in
      let dir_is = dir_change area g.first g.pages_down w.frame (places g) g.entries (omega (arith, p-is)) o.rises in
      let front : waiting_from (note_change new g.entries) g.pages_down g.waiting ≡ waiting_from g.entries g.pages_down g.waiting =
      wait_same (note_change new g.entries) g.entries g.pages_down g.waiting (λ j l m. frame_other w.frame (places g) j g.entries (omega (arith, p-is)) (away j l)) in
      let last : frame_of (g.pages_down + length g.waiting) (note_change new g.entries) ≡ w.frame = rw (← p-is) (frame_new w.frame (places g) g.entries o.taken) in
      let wait-is : waiting_from (note_change new g.entries) g.pages_down (g.waiting ++ (w.bytes ∷ [])) ≡ queue_change w (waiting_from g.entries g.pages_down g.waiting) =
      wait_last (note_change new g.entries) g.pages_down g.waiting w.bytes
      ∙ cc (front, same_bytes last)
      ∙ sym (queue_new w (waiting_from g.entries g.pages_down g.waiting) (wait_without g.entries w.frame g.pages_down g.waiting (λ j l m. un j l (omega (arith, p-is))))) in
      let more : places (record { first = g.first; pages_down = g.pages_down; entries = note_change new g.entries; waiting = g.waiting ++ (w.bytes ∷ []) }) ≡ suc (places g) =
      unfold places in (omega (arith, length-append g.waiting (w.bytes ∷ []))) in (
        record {
          rises = rises_note new g.entries o.rises;
          taken = rw more (all_note (λ x. x.place < suc (places g)) new g.entries (omega arith) (all_map (λ x. x.place < places g) (λ x. x.place < suc (places g)) g.entries (λ x h. omega arith) o.taken));
          waits = λ k l m. waits-after new k l (omega (arith, more)) (ℕ_discrete k (places g)) old un (away k l);
        },
        λ j. record { first = g.first; pages_down = g.pages_down; dir = dir_is j; waiting = wait-is j },
      )
    where
      same_bytes : {a b : ℕ} → a ≡ b → ◌≡◌ {A = FrameBytes} (record { frame = a; bytes = w.bytes }) (record { frame = b; bytes = w.bytes })
      same_bytes q = λ j. record { frame = q j; bytes = w.bytes }

      unheld : (xs : List Note) → All (λ x. x.frame ≡ w.frame → x.place < g.pages_down) xs → (j : ℕ) → g.pages_down ≤ j → Holds w.frame j xs → Unnoted w.frame xs
      unheld [] a j l h = tt
      unheld (x ∷ xs) a j l h = ((λ k. omega (arith, a.0 (sym k), h.0.0 (sym k))), unheld xs a.1 j l h.1)

      waits-after : (new : Note) (k : ℕ) → g.pages_down ≤ k → k < suc (places g) → Dec (k ≡ places g) → All (λ x. x.frame ≡ w.frame → x.place < g.pages_down) g.entries
          → ((j : ℕ) → g.pages_down ≤ j → j < places g → w.frame ≢ frame_of j g.entries) → All (λ x. x.frame ≡ w.frame → x.place ≢ k) g.entries
          → Holds (frame_of k (note_change (record { frame = w.frame; place = places g }) g.entries)) k (note_change (record { frame = w.frame; place = places g }) g.entries)
          × (Unnoted (frame_of k (note_change (record { frame = w.frame; place = places g }) g.entries)) (note_change (record { frame = w.frame; place = places g }) g.entries) → ⊥)
      waits-after new k l m (yes e) old un away =
          rw (e, frame_new w.frame (places g) g.entries o.taken) (holds_new w.frame (places g) g.entries o.rises o.taken, noted w.frame (places g) g.entries)
      waits-after new k l m (no d) old un away =
          let under : k < places g = omega arith in
          let q = o.waits k l under in
          rw (frame_other w.frame (places g) k g.entries d away) (
            all_note (λ x. (x.frame ≡ frame_of k g.entries → x.place ≡ k) × (x.place ≡ k → x.frame ≡ frame_of k g.entries)) (record { frame = w.frame; place = places g }) g.entries
                ((λ h. absurd (un k l under h)), (λ h. absurd (d (sym h)))) q.0,
            λ h. q.1 (unnoted_back (frame_of k g.entries) w.frame (places g) g.entries (λ h. un k l under (sym h)) h),
          )

  pub change_one : Goal (change_frame w g)
  unfolding change_frame
  change_one = go (turn_of w.frame g.pages_down g.entries) refl
    where
      go : (t : Option ℕ) → turn_of w.frame g.pages_down g.entries ≡ t → Goal (queued t w g)
      go none e = change_new e
      go (some i) e = change_again i e

-- changes are changes of the sorted form
pub change_many : (area : ℕ) (ws : List FrameBytes) (g : Generation) → Ordered g → Ordered (change_frames ws g) × (sorted_generation area (change_frames ws g) ≡ record {
  first = g.first;
  pages_down = g.pages_down;
  dir = without_all ws (directory_of area g);
  waiting = queue_all ws (waiting_frames g);
})
unfolding change_frames without_all queue_all
change_many area [] g o = (o, refl)
change_many area (w ∷ ws) g o =
    let one = change_one area w g o in
    let rest = change_many area ws (change_frame w g) one.0 in
    (rest.0, rest.1 ∙ ap (λ (x : SortedGeneration). record { first = x.first; pages_down = x.pages_down; dir = without_all ws x.dir; waiting = queue_all ws x.waiting }) one.1)
