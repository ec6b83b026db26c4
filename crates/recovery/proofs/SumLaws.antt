-- The questions are the plain sums, and the write that is due is the first that remains.
-- Assumes nothing.
use lib.Seq.{get_or-drop}
use native.Mathlib.Nat.{add-zero}
use Prim.Native.Nat.{ℕ, zero, suc, ◌+◌, ◌-◌, ◌≤◌, ◌<◌}
use borrow.Author.Tests.{ltb-true, ltb-false, eqb-true, eqb-false, lt-ltb, le-ltb, eq-eqb, ne_eqb}
use lib.Dec.{ltb, eqb}
use lib.ListN.{length, replicate, drop, get_or, length-append, length-set, length-drop}
use mathlib.Core.Bool.{Bool, true, false, cond, not, ◌&&◌, ◌||◌}
use mathlib.Core.List.{List, [], ◌∷◌, ◌++◌}
use mathlib.Core.Logic.{◌≢◌}
use mathlib.Core.Option.{Option, none, some}
use mathlib.Core.Path.{◌≡◌, refl, ap, sym, ◌∙◌, subst}
use native.Mathlib.Omega.{arith}
use Rattle.card.proofs.Test.{by_test}
use Rattle.card.specs.Bytes.{All}
use Rattle.card.specs.Ring.{dir_blocks}
use Rattle.card.specs.declared.directory.Entry.{Entry}
use Rattle.recovery.proofs.NoteLaws.{below_unnoted, rises_note}
use Rattle.recovery.specs.Contents.{FrameBytes}
use Rattle.recovery.specs.Directory.{Note, note_change, turn_of}
use Rattle.recovery.specs.Questions.{new_places, room_asks, given, advance_asks}
use Rattle.recovery.specs.Sound.{Unnoted, Rises}
use Rattle.recovery.specs.State.{Generation, State, places, entry_count, size, committed_size, is_owed, is_flushed}
use Rattle.recovery.specs.Step.{queued, change_frame, change_frames, after_change, Kind, page, directory, trailer, migration, header, flush, migration_due, advance_due, migrating, pass_to, next_migration}
use Rattle.recovery.specs.Sums.{is_some, waits_in, noted_in, places_needed, entries_needed, remaining_writes, first_of, room_sums, advance_sums, leading, moves_of, passed_to, moves_left}

-- no frame twice
abbrev pub Distinct : List FrameBytes → Type 0
Distinct [] = Unit {0}
Distinct (w ∷ ws) = All (λ x. x.frame ≢ w.frame) ws × Distinct ws

turn_other : (x f p put : ℕ) (es : List Note) → x ≢ f → turn_of x put (note_change (record { frame = f; place = p }) es) ≡ turn_of x put es
unfolding turn_of note_change
turn_other x f p put [] d = rw (ne_eqb x f d)
turn_other x f p put (e ∷ es) d = by_test (λ l. turn_of x put l ≡ turn_of x put (e ∷ es)) (ltb f e.frame) (λ l. rw (ne_eqb x f d))
    (λ l. by_test (λ l. turn_of x put l ≡ turn_of x put (e ∷ es)) (eqb f e.frame)
    (λ q. let n : x ≢ e.frame = λ k. d (k ∙ sym (eqb-true f e.frame q)) in rw (ne_eqb x f d, ne_eqb x e.frame n))
    (λ q. ap (cond (eqb x e.frame) (cond (ltb e.place put) none (some (e.place - put)))) (turn_other x f p put es d)))

noted_other : (x f p : ℕ) (es : List Note) → x ≢ f → noted_in x (note_change (record { frame = f; place = p }) es) ≡ noted_in x es
unfolding noted_in note_change
noted_other x f p [] d = rw (ne_eqb x f d)
noted_other x f p (e ∷ es) d = by_test (λ l. noted_in x l ≡ noted_in x (e ∷ es)) (ltb f e.frame) (λ l. rw (ne_eqb x f d))
    (λ l. by_test (λ l. noted_in x l ≡ noted_in x (e ∷ es)) (eqb f e.frame)
    (λ q. let n : x ≢ e.frame = λ k. d (k ∙ sym (eqb-true f e.frame q)) in rw (ne_eqb x f d, ne_eqb x e.frame n))
    (λ q. ap (cond (eqb x e.frame) true) (noted_other x f p es d)))

unnoted_in : (f : ℕ) (es : List Note) → Unnoted f es → noted_in f es ≡ false
unfolding noted_in
unnoted_in f [] h = refl
unnoted_in f (e ∷ es) h = rw (ne_eqb f e.frame h.0) (unnoted_in f es h.1)

noted_long : (f p : ℕ) (es : List Note) → Rises es → length (note_change (record { frame = f; place = p }) es) ≡ length es + cond (noted_in f es) 0 1
unfolding note_change
noted_long f p [] s = unfold noted_in in refl
noted_long f p (e ∷ es) s = go (ltb f e.frame) (eqb f e.frame) refl refl (noted_long f p es s.1)
  where
    -- the rest, by the test of the first
    there : (t : Bool) → eqb f e.frame ≡ t → noted_in f (e ∷ es) ≡ cond t true (noted_in f es)
    there t q = unfold noted_in in (rw q)

    go : (u t : Bool) → ltb f e.frame ≡ u → eqb f e.frame ≡ t → length (note_change (record { frame = f; place = p }) es) ≡ length es + cond (noted_in f es) 0 1
        → length (cond u (record { frame = f; place = p } ∷ e ∷ es) (cond t (record { frame = f; place = p } ∷ es) (e ∷ note_change (record { frame = f; place = p }) es))) ≡ suc (length es) + cond (noted_in f (e ∷ es)) 0 1
    go true t l q h = rw (unnoted_in f (e ∷ es) (below_unnoted f e es (ltb-true f e.frame l) s)) (omega arith)
    go false true l q h = rw (there true q) (omega arith)
    go false false l q h = rw (there false q) (omega (arith, h))

turn_noted : (f put i : ℕ) (es : List Note) → turn_of f put es ≡ some i → noted_in f es ≡ true
unfolding turn_of noted_in
turn_noted f put i [] = λ h. let z : ◌≡◌ {A = ℕ} 0 1 = cc in absurd (omega arith)
turn_noted f put i (e ∷ es) = go (eqb f e.frame) (turn_noted f put i es)
  where
    go : (t : Bool) → (turn_of f put es ≡ some i → noted_in f es ≡ true) → cond t (cond (ltb e.place put) none (some (e.place - put))) (turn_of f put es) ≡ some i → cond t true (noted_in f es) ≡ true
    go true rec h = refl
    go false rec h = rec h

-- one frame
module _ (w : FrameBytes) (g : Generation) where
  -- a frame takes a place unless it waits, and an entry unless it has one
  pub one_place : places (change_frame w g) ≡ places g + cond (waits_in w.frame g) 0 1
  unfolding change_frame waits_in
  one_place = go (turn_of w.frame g.pages_down g.entries)
    where
      go : (t : Option ℕ) → places (queued t w g) ≡ places g + cond (is_some t) 0 1
      go none = unfold queued places in (omega (arith, length-append g.waiting (w.bytes ∷ [])))
      go (some i) = unfold queued places in (omega (arith, length-set g.waiting i w.bytes))

  pub one_entry : Rises g.entries → entry_count (change_frame w g) ≡ entry_count g + cond (noted_in w.frame g.entries) 0 1
  unfolding change_frame
  one_entry s = go (turn_of w.frame g.pages_down g.entries) refl
    where
      go : (t : Option ℕ) → turn_of w.frame g.pages_down g.entries ≡ t → entry_count (queued t w g) ≡ entry_count g + cond (noted_in w.frame g.entries) 0 1
      go none e = unfold queued in (noted_long w.frame (places g) g.entries s)
      go (some i) e = unfold queued in (rw (turn_noted w.frame g.pages_down i g.entries e) (omega arith))

  -- entries still rise
  pub one_rises : Rises g.entries → Rises (change_frame w g).entries
  unfolding change_frame
  one_rises s = go (turn_of w.frame g.pages_down g.entries)
    where
      go : (t : Option ℕ) → Rises (queued t w g).entries
      go none = unfold queued in (rises_note _ g.entries s)
      go (some i) = unfold queued in s

  -- a change puts nothing down
  pub one_down : (change_frame w g).pages_down ≡ g.pages_down
  unfolding change_frame
  one_down = go (turn_of w.frame g.pages_down g.entries)
    where
      go : (t : Option ℕ) → (queued t w g).pages_down ≡ g.pages_down
      go none = unfold queued in refl
      go (some i) = unfold queued in refl

  other_waits : (x : ℕ) → x ≢ w.frame → waits_in x (change_frame w g) ≡ waits_in x g
  unfolding change_frame waits_in
  other_waits x d = go (turn_of w.frame g.pages_down g.entries)
    where
      go : (t : Option ℕ) → is_some (turn_of x (queued t w g).pages_down (queued t w g).entries) ≡ is_some (turn_of x g.pages_down g.entries)
      go none = unfold queued in (ap is_some (turn_other x w.frame (places g) g.pages_down g.entries d))
      go (some i) = unfold queued in refl

  other_noted : (x : ℕ) → x ≢ w.frame → noted_in x (change_frame w g).entries ≡ noted_in x g.entries
  unfolding change_frame
  other_noted x d = go (turn_of w.frame g.pages_down g.entries)
    where
      go : (t : Option ℕ) → noted_in x (queued t w g).entries ≡ noted_in x g.entries
      go none = unfold queued in (noted_other x w.frame (places g) g.entries d)
      go (some i) = unfold queued in refl

  -- what other frames need is the same after it
  pub others-places : (ws : List FrameBytes) → All (λ x. x.frame ≢ w.frame) ws → places_needed ws (change_frame w g) ≡ places_needed ws g
  unfolding places_needed
  others-places [] h = refl
  others-places (x ∷ xs) h = rw (other_waits x.frame h.0, others-places xs h.1)

  pub others_entries : (ws : List FrameBytes) → All (λ x. x.frame ≢ w.frame) ws → entries_needed ws (change_frame w g) ≡ entries_needed ws g
  unfolding entries_needed
  others_entries [] h = refl
  others_entries (x ∷ xs) h = rw (other_noted x.frame h.0, others_entries xs h.1)

all_places : (ws : List FrameBytes) (g : Generation) → Distinct ws → places (change_frames ws g) ≡ places g + places_needed ws g
unfolding change_frames places_needed
all_places [] g d = omega arith
all_places (w ∷ ws) g d = all_places ws (change_frame w g) d.1 ∙ (rw (others-places w g ws d.0, one_place w g) (omega arith))

all_entries : (ws : List FrameBytes) (g : Generation) → Distinct ws → Rises g.entries → entry_count (change_frames ws g) ≡ entry_count g + entries_needed ws g
unfolding change_frames entries_needed
all_entries [] g d s = omega arith
all_entries (w ∷ ws) g d s = all_entries ws (change_frame w g) d.1 (one_rises w g s) ∙ (rw (others_entries w g ws d.0, one_entry w g s) (omega arith))

pub same_room : (ws : List FrameBytes) (s : State) → Distinct ws → Rises s.current.entries → room_asks ws s ≡ room_sums ws s
unfolding room_asks room_sums new_places after_change size committed_size
same_room ws s d o =
    let k : places (change_frames ws s.current) - places s.current ≡ places_needed ws s.current = omega (arith, all_places ws s.current d) in
    rw (k, all_places ws s.current d, all_entries ws s.current d o)

-- ---- advance

repeated : (n : ℕ) (k : Kind) (rest : List Kind) → first_of (replicate n k ++ rest) ≡ cond (ltb 0 n) (some k) (first_of rest)
unfolding first_of
repeated zero k rest = refl
repeated (suc n) k rest = rw (lt-ltb 0 (suc n) (omega arith))

same_test : (a b : ℕ) → ltb 0 (b - a) ≡ ltb a b
same_test a b = go (ltb a b) refl
  where
    go : (t : Bool) → ltb a b ≡ t → ltb 0 (b - a) ≡ t
    go true e = lt-ltb 0 (b - a) (omega (arith, ltb-true a b e))
    go false e = le-ltb 0 (b - a) (omega (arith, ltb-false a b e))

same_suc : (a b : ℕ) → ltb (suc a) (suc b) ≡ ltb a b
same_suc a b = go (ltb a b) refl
  where
    go : (t : Bool) → ltb a b ≡ t → ltb (suc a) (suc b) ≡ t
    go true e = lt-ltb (suc a) (suc b) (omega (arith, ltb-true a b e))
    go false e = le-ltb (suc a) (suc b) (omega (arith, ltb-false a b e))

shift_test : (m a n : ℕ) → ltb (m + a) n ≡ ltb a (n - m)
shift_test m a n = go (ltb a (n - m)) refl
  where
    go : (t : Bool) → ltb a (n - m) ≡ t → ltb (m + a) n ≡ t
    go true e = lt-ltb (m + a) n (omega (arith, ltb-true a (n - m) e))
    go false e = le-ltb (m + a) n (omega (arith, ltb-false a (n - m) e))

repeated_only : (n : ℕ) (k : Kind) → first_of (replicate n k) ≡ cond (ltb 0 n) (some k) none
unfolding first_of
repeated_only zero k = refl
repeated_only (suc n) k = rw (lt-ltb 0 (suc n) (omega arith))

tail_test : (a b : ℕ) (x y z : Option Kind) → cond (ltb a b) x (cond (ltb 0 (1 - (a - b))) y z) ≡ cond (ltb a b) x (cond (eqb a b) y z)
tail_test a b x y z = go (ltb a b) refl
  where
    same : b ≤ a → (t : Bool) → eqb a b ≡ t → ltb 0 (1 - (a - b)) ≡ t
    same h true e = lt-ltb 0 (1 - (a - b)) (omega (arith, eqb-true a b e))
    same h false e = le-ltb 0 (1 - (a - b)) (omega (arith, eqb-false a b e))

    go : (t : Bool) → ltb a b ≡ t → cond t x (cond (ltb 0 (1 - (a - b))) y z) ≡ cond t x (cond (eqb a b) y z)
    go true e = refl
    go false e = ap (λ (t : Bool). cond t y z) (same (ltb-false a b e) (eqb a b) refl)

-- of what is passed over

leading_test : (over : ℕ → Bool) (es : List Entry) → ltb (leading over es) (length es) ≡ ltb 0 (moves_of over es)
unfolding leading moves_of
leading_test over [] = refl
leading_test over (e ∷ es) = go (over e.frame) (leading_test over es)
  where
    go : (t : Bool) → ltb (leading over es) (length es) ≡ ltb 0 (moves_of over es)
        → ltb (cond t (suc (leading over es)) 0) (suc (length es)) ≡ ltb 0 (cond t (moves_of over es) (suc (moves_of over es)))
    go true h = same_suc (leading over es) (length es) ∙ h
    go false h = lt-ltb 0 (suc (length es)) (omega arith) ∙ sym (lt-ltb 0 (suc (moves_of over es)) (omega arith))

leading-within : (over : ℕ → Bool) (es : List Entry) → leading over es ≤ length es
unfolding leading
leading-within over [] = omega arith
leading-within over (e ∷ es) = by_test (λ (n : ℕ). n ≤ suc (length es)) (over e.frame) {x = suc (leading over es)} {y = 0} (λ t. omega (arith, leading-within over es)) (λ t. omega arith)

leading-over : (over : ℕ → Bool) (es : List Entry) (last : Entry) (j : ℕ) → j < leading over es → over (get_or es j last).frame ≡ true
unfolding leading
leading-over over [] last j = λ h. absurd (omega arith)
leading-over over (e ∷ es) last j = go (leading-over over es last) (over e.frame) refl j
  where
    go : ((i : ℕ) → i < leading over es → over (get_or es i last).frame ≡ true) → (t : Bool) → over e.frame ≡ t → (j : ℕ) → j < cond t (suc (leading over es)) 0 → over (get_or (e ∷ es) j last).frame ≡ true
    go rec false q j h = absurd (omega arith)
    go rec true q zero h = q
    go rec true q (suc j) h = rec j (omega arith)

leading_next : (over : ℕ → Bool) (es : List Entry) (last : Entry) → leading over es < length es → over (get_or es (leading over es) last).frame ≡ false
unfolding leading
leading_next over [] last = λ h. absurd (omega arith)
leading_next over (e ∷ es) last = go (leading_next over es last) (over e.frame) refl
  where
    go : (leading over es < length es → over (get_or es (leading over es) last).frame ≡ false) → (t : Bool) → over e.frame ≡ t → cond t (suc (leading over es)) 0 < suc (length es) → over (get_or (e ∷ es) (cond t (suc (leading over es)) 0) last).frame ≡ false
    go rec false q h = q
    go rec true q h = rec (omega arith)

drop-over : (over : ℕ → Bool) (m : ℕ) (es : List Entry) (last : Entry) (j : ℕ) → m ≤ j → j < m + leading over (drop m es) → over (get_or es j last).frame ≡ true
drop-over over m es last j l h =
    let e : m + (j - m) ≡ j = omega arith in
    rw (get_or-drop m es (j - m) last, e) at (leading-over over (drop m es) last (j - m) (omega arith))

drop_next : (over : ℕ → Bool) (m : ℕ) (es : List Entry) (last : Entry) → m + leading over (drop m es) < length es → over (get_or es (m + leading over (drop m es)) last).frame ≡ false
drop_next over m es last h = rw (get_or-drop m es (leading over (drop m es)) last) at (leading_next over (drop m es) last (omega (arith, length-drop m es)))

at_most : (t : Bool) (n : ℕ) → cond t n 0 ≤ n
at_most true n = omega arith
at_most false n = omega arith

module _ (over : ℕ → Bool) (s : State) where
  -- how far it is where advance has come to migration
  reach : ℕ
  reach = s.migrated + leading over (drop s.migrated s.committed.entries)

  within_reach : passed_to over s ≤ reach
  unfolding passed_to reach
  within_reach = omega (arith, at_most (migrating s) (leading over (drop s.migrated s.committed.entries)))

  passed_migrating : (t : Bool) → migrating s ≡ t → passed_to over s ≡ s.migrated + cond t (leading over (drop s.migrated s.committed.entries)) 0
  unfolding passed_to
  passed_migrating t e = ap (λ (x : Bool). s.migrated + cond x (leading over (drop s.migrated s.committed.entries)) 0) e

  -- no entry that is home comes back, and none is passed over before advance has come to migration
  pub passed_more : s.migrated ≤ passed_to over s
  unfolding passed_to
  passed_more = omega arith

  pub passed_early : migrating s ≡ false → passed_to over s ≡ s.migrated
  passed_early e = passed_migrating false e ∙ add-zero s.migrated

  pub passed_owed : is_owed s.phase ≡ true → passed_to over s ≡ s.migrated
  unfolding migrating
  passed_owed due = passed_early (ap (λ (t : Bool). not t && (eqb (entry_count s.pending) 0 || (not (ltb 0 (length s.pending.waiting)) && ltb (dir_blocks (entry_count s.pending)) s.tail_down))) due)

  -- entries that are passed over, and the one that is not
  pub passed_over : (j : ℕ) → s.migrated ≤ j → j < passed_to over s → over (next_migration (pass_to j s)).frame ≡ true
  unfolding reach next_migration
  passed_over j l h = drop-over over s.migrated s.committed.entries _ j l (omega (arith, h, within_reach))

  pub passed_within : s.migrated ≤ length s.committed.entries → passed_to over s ≤ length s.committed.entries
  unfolding reach
  passed_within h = omega (arith, within_reach, leading-within over (drop s.migrated s.committed.entries), length-drop s.migrated s.committed.entries)

  reach_next : reach < length s.committed.entries → over (next_migration (pass_to reach s)).frame ≡ false
  unfolding reach next_migration
  reach_next h = drop_next over s.migrated s.committed.entries _ h

  pub passed_next : migrating s ≡ true → passed_to over s < length s.committed.entries → over (next_migration (pass_to (passed_to over s) s)).frame ≡ false
  unfolding reach
  passed_next e h = subst (λ (n : ℕ). over (next_migration (pass_to n s)).frame ≡ false) (sym (passed_migrating true e)) (reach_next (omega (arith, h, passed_migrating true e)))

  -- a copy is due exactly where one is left
  moves_test : ltb reach (length s.committed.entries) ≡ ltb 0 (moves_left over s)
  unfolding reach moves_left
  moves_test =
      shift_test s.migrated (leading over (drop s.migrated s.committed.entries)) (length s.committed.entries)
      ∙ ap (ltb (leading over (drop s.migrated s.committed.entries))) (sym (length-drop s.migrated s.committed.entries))
      ∙ leading_test over (drop s.migrated s.committed.entries)

  -- the first that remains, by document 01's order: P, D, T, M, F, H with a snapshot pending, else only M
  moves : List Kind
  moves = replicate (moves_left over s) migration

  ends : List Kind
  ends = cond (is_flushed s.phase) [] (flush ∷ []) ++ (header ∷ flush ∷ [])

  first_end : first_of ends ≡ some (cond (is_flushed s.phase) header flush)
  unfolding ends
  first_end = go (is_flushed s.phase)
    where
      go : (t : Bool) → first_of (cond t [] (flush ∷ []) ++ (header ∷ flush ∷ [])) ≡ some (cond t header flush)
      go true = unfold first_of in refl
      go false = unfold first_of in refl

  abbrev moved : Option Kind → Option Kind
  moved other = cond (ltb reach (length s.committed.entries)) (some migration) other

  last : first_of (moves ++ ends) ≡ moved (some (cond (is_flushed s.phase) header flush))
  unfolding moves
  last = repeated (moves_left over s) migration ends ∙ (rw first_end (ap (λ (t : Bool). cond t (some migration) (some (cond (is_flushed s.phase) header flush))) (sym moves_test)))

  writes : List Kind
  writes = replicate (length s.pending.waiting) page
      ++ (replicate (dir_blocks (entry_count s.pending) - s.tail_down) directory ++ (replicate (1 - (s.tail_down - dir_blocks (entry_count s.pending))) trailer ++ (moves ++ ends)))

  rest : first_of writes ≡ cond (ltb 0 (length s.pending.waiting)) (some page) (cond (ltb s.tail_down (dir_blocks (entry_count s.pending))) (some directory)
      (cond (eqb s.tail_down (dir_blocks (entry_count s.pending))) (some trailer) (moved (some (cond (is_flushed s.phase) header flush)))))
  unfolding writes
  rest =
      repeated (length s.pending.waiting) page _
      ∙ ap (cond (ltb 0 (length s.pending.waiting)) (some page))
      (repeated (dir_blocks (entry_count s.pending) - s.tail_down) directory _
      ∙ (rw (same_test s.tail_down (dir_blocks (entry_count s.pending)))
      (ap (cond (ltb s.tail_down (dir_blocks (entry_count s.pending))) (some directory))
      (repeated (1 - (s.tail_down - dir_blocks (entry_count s.pending))) trailer _ ∙ ap (cond (ltb 0 (1 - (s.tail_down - dir_blocks (entry_count s.pending)))) (some trailer)) last)
      ∙ tail_test s.tail_down (dir_blocks (entry_count s.pending)) (some directory) (some trailer) _)))

  idle : first_of moves ≡ moved none
  unfolding moves
  idle = repeated_only (moves_left over s) migration ∙ ap (λ (t : Bool). cond t (some migration) none) (sym moves_test)

  abbrev due_by : Bool → Bool → ℕ → Option Kind
  due_by z w n = cond z (cond (ltb n (length s.committed.entries)) (some migration) none)
      (cond w (some page) (cond (ltb s.tail_down (dir_blocks (entry_count s.pending))) (some directory)
      (cond (eqb s.tail_down (dir_blocks (entry_count s.pending))) (some trailer)
      (cond (ltb n (length s.committed.entries)) (some migration) (some (cond (is_flushed s.phase) header flush))))))

  abbrev due_at : ℕ → Option Kind
  due_at n = due_by (eqb (entry_count s.pending) 0) (ltb 0 (length s.pending.waiting)) n

  due_reach : first_of (cond (eqb (entry_count s.pending) 0) moves writes) ≡ due_at reach
  due_reach = go (eqb (entry_count s.pending) 0)
    where
      go : (t : Bool) → first_of (cond t moves writes) ≡ cond t (moved none) (cond (ltb 0 (length s.pending.waiting)) (some page) (cond (ltb s.tail_down (dir_blocks (entry_count s.pending))) (some directory)
          (cond (eqb s.tail_down (dir_blocks (entry_count s.pending))) (some trailer) (moved (some (cond (is_flushed s.phase) header flush))))))
      go true = idle
      go false = rest

  -- before advance has come to migration, how far that is does not matter
  same_late : (d : Bool) → ltb s.tail_down (dir_blocks (entry_count s.pending)) ≡ d → ltb (dir_blocks (entry_count s.pending)) s.tail_down ≡ false → (x y : Option Kind)
      → cond d (some directory) (cond (eqb s.tail_down (dir_blocks (entry_count s.pending))) (some trailer) x) ≡ cond d (some directory) (cond (eqb s.tail_down (dir_blocks (entry_count s.pending))) (some trailer) y)
  same_late true low high x y = refl
  same_late false low high x y =
      rw (eq-eqb s.tail_down (dir_blocks (entry_count s.pending)) (omega (arith, ltb-false s.tail_down (dir_blocks (entry_count s.pending)) low, ltb-false (dir_blocks (entry_count s.pending)) s.tail_down high)))

  same_at : (z w t : Bool) → ltb (dir_blocks (entry_count s.pending)) s.tail_down ≡ t
      → due_by z w reach ≡ due_by z w (s.migrated + cond (z || (not w && t)) (leading over (drop s.migrated s.committed.entries)) 0)
  unfolding reach
  same_at true w t e = refl
  same_at false true t e = refl
  same_at false false true e = refl
  same_at false false false e = same_late (ltb s.tail_down (dir_blocks (entry_count s.pending))) refl e _ _

  pub same_due : first_of (remaining_writes over s) ≡ advance_due (pass_to (passed_to over s) s)
  unfolding remaining_writes advance_due migration_due passed_to migrating moves ends writes
  same_due = go (is_owed s.phase)
    where
      go : (o : Bool) → first_of (cond o (flush ∷ []) [] ++ cond (eqb (entry_count s.pending) 0) moves writes)
          ≡ cond o (some flush) (due_at (s.migrated + cond (not o && (eqb (entry_count s.pending) 0 || (not (ltb 0 (length s.pending.waiting)) && ltb (dir_blocks (entry_count s.pending)) s.tail_down))) (leading over (drop s.migrated s.committed.entries)) 0))
      go true = unfold first_of in refl
      go false = due_reach ∙ same_at (eqb (entry_count s.pending) 0) (ltb 0 (length s.pending.waiting)) (ltb (dir_blocks (entry_count s.pending)) s.tail_down) refl

-- an advance is due exactly where a write remains
pub given-first : (ks : List Kind) → given (first_of ks) ≡ ltb 0 (length ks)
unfolding first_of
given-first [] = refl
given-first (k ∷ ks) = sym (lt-ltb 0 (suc (length ks)) (omega arith))

pub same_advance : (over : ℕ → Bool) (s : State) → advance_asks (pass_to (passed_to over s) s) ≡ advance_sums over s
unfolding advance_asks advance_sums
same_advance over s = rw (← (given-first (remaining_writes over s)), same_due over s)
