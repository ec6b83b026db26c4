-- Entries by rising frame tell what entries in order of first change told, for any list of changes and page-outs
-- (document 02, #109).
-- Assumes nothing.
use Prim.Native.Nat.{ℕ, suc, ◌+◌, ◌-◌, ◌≤◌, ◌<◌}
use borrow.Author.Tests.{ltb-true, eqb-true, eqb-false, eq-eqb, ne_eqb}
use lib.Dec.{ltb, eqb}
use lib.ListN.{length, set}
use mathlib.Core.Bool.{Bool, true, false, cond}
use mathlib.Core.List.{List, [], ◌∷◌, ◌++◌, tail}
use mathlib.Core.Logic.{◌≢◌}
use mathlib.Core.Option.{Option, none, some}
use mathlib.Core.Path.{◌≡◌, refl, ap, sym, ◌∙◌, subst}
use native.Mathlib.Omega.{arith}
use Rattle.card.proofs.AllLaws.{all_map, all_both}
use Rattle.card.proofs.Test.{by_test, tests_swap, tests_twice}
use Rattle.card.specs.Block.{block_at}
use Rattle.card.specs.Bytes.{All}
use Rattle.card.specs.Directory.{dir_block}
use Rattle.card.specs.Ring.{ring_at}
use Rattle.card.specs.declared.directory.Entry.{Entry}
use Rattle.recovery.proofs.Follows.{empty_ordered}
use Rattle.recovery.proofs.NoteLaws.{Single, lookup-by_frame, rising_by_frame, rising_ext, rises_single}
use Rattle.recovery.proofs.OrderedLaws.{change_one, out_ordered}
use Rattle.recovery.proofs.PlaceLaws.{lookup_none}
use Rattle.recovery.proofs.Sorted.{lookup}
use Rattle.recovery.proofs.SumLaws.{one_entry}
use Rattle.recovery.proofs.WaitLaws.{wait_same}
use Rattle.recovery.specs.Contents.{Contents, FrameBytes, overlay, stored_frames}
use Rattle.recovery.specs.Directory.{Note, note_change, down_entries, dir_of, frame_of, turn_of}
use Rattle.recovery.specs.FirstChange.{note_first, queued_first, Change, changed, down, down_if_any, held_first, held_by_frame, shows, Alike, SameAsFirst, SameReads}
use Rattle.recovery.specs.Sound.{Unnoted, Holds, Ordered}
use Rattle.recovery.specs.State.{Generation, places, entry_count, empty, directory_of, waiting_frames, read_frame}
use Rattle.recovery.specs.Step.{queued, change_frame, out_of}
use Rattle.recovery.specs.Sums.{noted_in}

-- ---- what entries say of a frame: the place of its first entry

unfoldable place_in : ℕ → List Note → Option ℕ
place_in f [] = none
place_in f (e ∷ es) = cond (eqb f e.frame) (some e.place) (place_in f es)

-- both ways to note a change say the same of every frame

says_first : (f : ℕ) (e : Note) (es : List Note) → place_in f (note_first e es) ≡ cond (eqb f e.frame) (some e.place) (place_in f es)
unfolding place_in note_first
says_first f e [] = refl
says_first f e (x ∷ xs) = by_test (λ l. place_in f l ≡ place_in f (e ∷ x ∷ xs)) (eqb e.frame x.frame)
    (λ q. sym (tests_twice f e.frame x.frame _ _ _ (eqb-true _ _ q)))
    (λ q. ap (cond (eqb f x.frame) (some x.place)) (says_first f e xs) ∙ sym (tests_swap f e.frame x.frame _ _ _ (eqb-false _ _ q)))

says_by_frame : (f : ℕ) (e : Note) (es : List Note) → place_in f (note_change e es) ≡ cond (eqb f e.frame) (some e.place) (place_in f es)
unfolding place_in note_change
says_by_frame f e [] = refl
says_by_frame f e (x ∷ xs) = by_test (λ l. place_in f l ≡ place_in f (e ∷ x ∷ xs)) (ltb e.frame x.frame) (λ p. refl)
    (λ p. by_test (λ l. place_in f l ≡ place_in f (e ∷ x ∷ xs)) (eqb e.frame x.frame)
    (λ q. sym (tests_twice f e.frame x.frame _ _ _ (eqb-true _ _ q)))
    (λ q. ap (cond (eqb f x.frame) (some x.place)) (says_by_frame f e xs) ∙ sym (tests_swap f e.frame x.frame _ _ _ (eqb-false _ _ q))))

-- ---- every lookup goes by it

abbrev turn_by : ℕ → Option ℕ → Option ℕ
turn_by put none = none
turn_by put (some p) = cond (ltb p put) none (some (p - put))

turn_by_lem : (f put : ℕ) (es : List Note) → turn_of f put es ≡ turn_by put (place_in f es)
unfolding turn_of place_in
turn_by_lem f put [] = refl
turn_by_lem f put (e ∷ es) = go (eqb f e.frame) (turn_by_lem f put es)
  where
    go : (t : Bool) → turn_of f put es ≡ turn_by put (place_in f es)
        → cond t (cond (ltb e.place put) none (some (e.place - put))) (turn_of f put es) ≡ turn_by put (cond t (some e.place) (place_in f es))
    go true h = refl
    go false h = h

abbrev noted_by : Option ℕ → Bool
noted_by none = false
noted_by (some p) = true

noted_by_lem : (f : ℕ) (es : List Note) → noted_in f es ≡ noted_by (place_in f es)
unfolding noted_in place_in
noted_by_lem f [] = refl
noted_by_lem f (e ∷ es) = go (eqb f e.frame) (noted_by_lem f es)
  where
    go : (t : Bool) → noted_in f es ≡ noted_by (place_in f es) → cond t true (noted_in f es) ≡ noted_by (cond t (some e.place) (place_in f es))
    go true h = refl
    go false h = h

-- one more than the block of a frame that is down, else 0
abbrev block_by : ℕ → ℕ → ℕ → Option ℕ → ℕ
block_by area first put none = 0
block_by area first put (some p) = cond (ltb p put) (suc (ring_at area first p)) 0

block_by_lem : (area first put f : ℕ) (es : List Note) → Single es → lookup f (down_entries area first put es) ≡ block_by area first put (place_in f es)
unfolding lookup down_entries place_in
block_by_lem area first put f [] s = refl
block_by_lem area first put f (e ∷ es) s = go (eqb f e.frame) (ltb e.place put) refl refl (block_by_lem area first put f es s.1)
  where
    go : (t u : Bool) → eqb f e.frame ≡ t → ltb e.place put ≡ u → lookup f (down_entries area first put es) ≡ block_by area first put (place_in f es)
        → lookup f (cond u (record { frame = e.frame; block = ring_at area first e.place } ∷ down_entries area first put es) (down_entries area first put es))
        ≡ block_by area first put (cond t (some e.place) (place_in f es))
    go true true q r h = rw (q, r)
    go true false q r h = rw r (lookup_none area first put f es (rw (← (eqb-true f e.frame q)) at s.0))
    go false true q r h = rw q h
    go false false q r h = h

-- two lists without a frame twice that say the same of every frame give one directory
same_dir : (area first put : ℕ) (xs ys : List Note) → Single xs → Single ys → ((f : ℕ) → place_in f xs ≡ place_in f ys) → dir_of area first put xs ≡ dir_of area first put ys
unfolding dir_of
same_dir area first put xs ys s t h = rising_ext _ _ (rising_by_frame _) (rising_by_frame _)
    (λ f. lookup-by_frame f _ ∙ block_by_lem area first put f xs s ∙ ap (block_by area first put) (h f) ∙ sym (lookup-by_frame f _ ∙ block_by_lem area first put f ys t))

-- ---- whose is a place

-- each entry is what is said of its frame
members : (es : List Note) → Single es → All (λ e. place_in e.frame es ≡ some e.place) es
unfolding place_in
members [] s = tt
members (e ∷ es) s = (
  rw (eq-eqb e.frame e.frame refl),
  all_both (λ x. e.frame ≢ x.frame) (λ x. place_in x.frame es ≡ some x.place) (λ x. cond (eqb x.frame e.frame) (some e.place) (place_in x.frame es) ≡ some x.place) es
      (λ x d h. rw (ne_eqb x.frame e.frame (λ k. d (sym k))) h) s.0 (members es s.1),
)

held_place : (f k : ℕ) (es : List Note) → Holds f k es → (Unnoted f es → ⊥) → place_in f es ≡ some k
unfolding place_in
held_place f k [] h n = absurd (n tt)
held_place f k (e ∷ es) h n = go (eqb f e.frame) refl (held_place f k es h.1)
  where
    go : (t : Bool) → eqb f e.frame ≡ t → ((Unnoted f es → ⊥) → place_in f es ≡ some k) → cond t (some e.place) (place_in f es) ≡ some k
    go true q rec = ap (λ (p : ℕ). some p) (h.0.0 (sym (eqb-true f e.frame q)))
    go false q rec = rec (λ u. n (eqb-false f e.frame q, u))

place_held : (f k x : ℕ) (es : List Note) → Holds x k es → place_in f es ≡ some k → f ≡ x
unfolding place_in
place_held f k x [] h = λ e. let z : ◌≡◌ {A = ℕ} 0 1 = cc in absurd (omega arith)
place_held f k x (e ∷ es) h = go (eqb f e.frame) refl (place_held f k x es h.1)
  where
    go : (t : Bool) → eqb f e.frame ≡ t → (place_in f es ≡ some k → f ≡ x) → cond t (some e.place) (place_in f es) ≡ some k → f ≡ x
    go true q rec p = let at : e.place ≡ k = cc in eqb-true f e.frame q ∙ h.0.1 at
    go false q rec p = rec p

frame_found : (f k : ℕ) (es : List Note) → place_in f es ≡ some k → All (λ e. e.place ≡ k → e.frame ≡ f) es → frame_of k es ≡ f
unfolding place_in frame_of
frame_found f k [] = λ p h. let z : ◌≡◌ {A = ℕ} 0 1 = cc in absurd (omega arith)
frame_found f k (e ∷ es) = go (eqb f e.frame) (eqb k e.place) refl refl (frame_found f k es)
  where
    go : (t u : Bool) → eqb f e.frame ≡ t → eqb k e.place ≡ u → (place_in f es ≡ some k → All (λ x. x.place ≡ k → x.frame ≡ f) es → frame_of k es ≡ f)
        → cond t (some e.place) (place_in f es) ≡ some k → All (λ x. x.place ≡ k → x.frame ≡ f) (e ∷ es) → cond u e.frame (frame_of k es) ≡ f
    go t true q r rec p h = h.0 (sym (eqb-true k e.place r))
    go true false q r rec p h = let at : e.place ≡ k = cc in absurd (eqb-false k e.place r (sym at))
    go false false q r rec p h = rec p h.1

-- ---- one after the other

all_first : (P : Note → Type 0) (e : Note) (es : List Note) → P e → All P es → All P (note_first e es)
unfolding note_first
all_first P e [] p h = (p, tt)
all_first P e (x ∷ xs) p h = by_test (All P) (eqb e.frame x.frame) (λ q. (p, h.1)) (λ q. (h.0, all_first P e xs p h.1))

single_first : (e : Note) (es : List Note) → Single es → Single (note_first e es)
unfolding note_first
single_first e [] s = (tt, tt)
single_first e (x ∷ xs) s = by_test Single (eqb e.frame x.frame)
    (λ q. (rw (← (eqb-true e.frame x.frame q)) at s.0, s.1))
    (λ q. (all_first (λ y. x.frame ≢ y.frame) e xs (λ k. eqb-false e.frame x.frame q (sym k)) s.0, single_first e xs s.1))

first_long : (e : Note) (es : List Note) → length (note_first e es) ≡ length es + cond (noted_in e.frame es) 0 1
unfolding noted_in note_first
first_long e [] = refl
first_long e (x ∷ xs) = go (eqb e.frame x.frame) (first_long e xs)
  where
    go : (t : Bool) → length (note_first e xs) ≡ length xs + cond (noted_in e.frame xs) 0 1 → length (cond t (e ∷ xs) (x ∷ note_first e xs)) ≡ suc (length xs) + cond (cond t true (noted_in e.frame xs)) 0 1
    go true h = omega arith
    go false h = omega (arith, h)

record Beside (a b : Generation) : Type 0 where
  first_is : b.first ≡ a.first
  down_is : b.pages_down ≡ a.pages_down
  waiting_is : b.waiting ≡ a.waiting
  count_is : entry_count b ≡ entry_count a
  says : (f : ℕ) → place_in f b.entries ≡ place_in f a.entries
  single : Single a.entries
  ordered : Ordered b

module _ (a b : Generation) (h : Beside a b) where
  turns : (f : ℕ) → turn_of f b.pages_down b.entries ≡ turn_of f a.pages_down a.entries
  turns f = turn_by_lem f b.pages_down b.entries ∙ ap (turn_by b.pages_down) (h.says f) ∙ ap (λ (n : ℕ). turn_by n (place_in f a.entries)) h.down_is ∙ sym (turn_by_lem f a.pages_down a.entries)

  places_are : places b ≡ places a
  unfolding places
  places_are = rw (h.down_is, h.waiting_is)

  module _ (w : FrameBytes) where
    step_none : Ordered (queued none w b) → entry_count (queued none w b) ≡ entry_count b + cond (noted_in w.frame b.entries) 0 1 → Beside (queued_first none w a) (queued none w b)
    unfolding queued queued_first
    step_none o n = record {
      first_is = h.first_is;
      down_is = h.down_is;
      waiting_is = ap (λ (l : List (List ℕ)). l ++ (w.bytes ∷ [])) h.waiting_is;
      count_is = n ∙ (rw (noted_by_lem w.frame b.entries, h.says w.frame, ← (noted_by_lem w.frame a.entries), h.count_is) (sym (first_long (record { frame = w.frame; place = places a }) a.entries)));
      says = λ f. says_by_frame f _ b.entries ∙ (rw (places_are, h.says f) (sym (says_first f (record { frame = w.frame; place = places a }) a.entries)));
      single = single_first _ a.entries h.single;
      ordered = o;
    }

    step_some : (i : ℕ) → Ordered (queued (some i) w b) → Beside (queued_first (some i) w a) (queued (some i) w b)
    unfolding queued queued_first
    step_some i o = record {
      first_is = h.first_is;
      down_is = h.down_is;
      waiting_is = ap (λ (l : List (List ℕ)). set l i w.bytes) h.waiting_is;
      count_is = h.count_is;
      says = h.says;
      single = h.single;
      ordered = o;
    }

    step_change : Beside (queued_first (turn_of w.frame a.pages_down a.entries) w a) (change_frame w b)
    unfolding change_frame
    step_change = subst (λ (t : Option ℕ). Beside (queued_first t w a) (queued (turn_of w.frame b.pages_down b.entries) w b)) (turns w.frame)
        (go (turn_of w.frame b.pages_down b.entries) (change_one 8 w b h.ordered).0 (one_entry w b h.ordered.rises))
      where
        go : (t : Option ℕ) → Ordered (queued t w b) → entry_count (queued t w b) ≡ entry_count b + cond (noted_in w.frame b.entries) 0 1 → Beside (queued_first t w a) (queued t w b)
        go none o n = step_none o n
        go (some i) o n = step_some i o

  step_down : Beside (down_if_any a) (down_if_any b)
  unfolding down_if_any
  step_down = subst (λ (n : ℕ). Beside (cond (ltb 0 n) (out_of a) a) (cond (ltb 0 (length b.waiting)) (out_of b) b)) (ap length h.waiting_is) (go (ltb 0 (length b.waiting)) refl)
    where
      go : (t : Bool) → ltb 0 (length b.waiting) ≡ t → Beside (cond t (out_of a) a) (cond t (out_of b) b)
      go true e = unfold out_of in (record {
        first_is = h.first_is;
        down_is = ap suc h.down_is;
        waiting_is = ap (λ (l : List (List ℕ)). tail l) h.waiting_is;
        count_is = h.count_is;
        says = h.says;
        single = h.single;
        ordered = out_ordered b h.ordered (ltb-true 0 (length b.waiting) e);
      })
      go false e = h

  -- ---- so they are alike

  frames_are : (k : ℕ) → a.pages_down ≤ k → k < places a → frame_of k b.entries ≡ frame_of k a.entries
  frames_are k l m =
      let w = h.ordered.waits k (rw h.down_is l) (rw places_are m) in
      let x : ℕ = frame_of k b.entries in
      sym (frame_found x k a.entries (sym (h.says x) ∙ held_place x k b.entries w.0 w.1)
      (all_map (λ e. place_in e.frame a.entries ≡ some e.place) (λ e. e.place ≡ k → e.frame ≡ x) a.entries
      (λ e p q. place_held e.frame k x b.entries w.0 (h.says e.frame ∙ p ∙ ap (λ (n : ℕ). some n) q)) (members a.entries h.single)))

  directories_are : (area first put : ℕ) → dir_of area first put b.entries ≡ dir_of area first put a.entries
  directories_are area first put = same_dir area first put b.entries a.entries (rises_single b.entries h.ordered.rises) h.single h.says

  directory_is : (area : ℕ) → directory_of area b ≡ directory_of area a
  unfolding directory_of
  directory_is area = rw (h.first_is, h.down_is) (directories_are area a.first a.pages_down)

  waits_are : waiting_frames b ≡ waiting_frames a
  waits_are = unfold waiting_frames places in (rw (h.down_is, h.waiting_is) (wait_same b.entries a.entries a.pages_down a.waiting (λ j l m. frames_are j l (unfold places in m))))

  alike : Alike a b
  alike = record {
    first_is = h.first_is;
    down_is = h.down_is;
    waiting_is = h.waiting_is;
    count_is = h.count_is;
    noted_is = λ f. noted_by_lem f b.entries ∙ ap noted_by (h.says f) ∙ sym (noted_by_lem f a.entries);
    turn_is = λ f put. turn_by_lem f put b.entries ∙ ap (turn_by put) (h.says f) ∙ sym (turn_by_lem f put a.entries);
    frame_is = frames_are;
    waits_is = waits_are;
    dir_is = directories_are;
    block_is = λ area j. ap (λ (es : List Entry). dir_block es j) (directory_is area);
    shows_is = λ area c below. rw (waits_are, directory_is area);
  }

besides : (cs : List Change) (first : ℕ) → Beside (held_first cs first) (held_by_frame cs first)
unfolding held_first held_by_frame
besides [] first = unfold empty in (record { first_is = refl; down_is = refl; waiting_is = refl; count_is = refl; says = λ f. refl; single = tt; ordered = empty_ordered first })
besides (changed w ∷ cs) first = step_change (held_first cs first) (held_by_frame cs first) (besides cs first) w
besides (down ∷ cs) first = step_down (held_first cs first) (held_by_frame cs first) (besides cs first)

pub same_as_first : SameAsFirst
same_as_first cs first = alike (held_first cs first) (held_by_frame cs first) (besides cs first)

pub same_reads : SameReads
unfolding read_frame
same_reads s c cs ps first next =
    let committed : Contents = overlay (stored_frames c s.committed.entries) (block_at c) in
    (same_as_first cs first).shows_is s.area c (shows s.area (held_by_frame ps next) c committed)
    ∙ ap (shows s.area (held_first cs first) c) ((same_as_first ps next).shows_is s.area c committed)

-- ---- the two forms differ: of 10, 9 and, put down, 10 again the older one has 10 first, with its last place

changes : List Change
changes = changed (record { frame = 10; bytes = [] }) ∷ down ∷ changed (record { frame = 9; bytes = [] }) ∷ changed (record { frame = 10; bytes = [] }) ∷ []

held_first_lem : (held_first changes 1).entries ≡ record { frame = 10; place = 2 } ∷ record { frame = 9; place = 1 } ∷ []
unfolding changes held_first queued_first note_first down_if_any out_of turn_of places empty
held_first_lem = refl

held_by_frame_lem : (held_by_frame changes 1).entries ≡ record { frame = 9; place = 1 } ∷ record { frame = 10; place = 2 } ∷ []
unfolding changes held_by_frame change_frame queued note_change down_if_any out_of turn_of places empty
held_by_frame_lem = refl
