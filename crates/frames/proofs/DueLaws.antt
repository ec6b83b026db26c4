-- Advance keeps its promise: which write is due, told by the record's numbers.
-- Assumes nothing.
use lib.Dec.{ltb, eqb}
use Prim.Native.Nat.{ℕ, ◌≤◌, ◌<◌}
use borrow.Author.Tests.{lt-ltb, le-ltb, eq-eqb, ne_eqb}
use lib.ListN.{length}
use mathlib.Core.Bool.{Bool, true, false, cond}
use mathlib.Core.List.{List, []}
use mathlib.Core.Logic.{◌≢◌}
use mathlib.Core.Option.{Option, none, some}
use mathlib.Core.Path.{◌≡◌, refl, ap, sym, ◌∙◌, subst}
use native.Mathlib.Omega.{arith}
use Rattle.card.proofs.DirectoryLaws.{entries_length}
use Rattle.card.proofs.QuestionLaws.{none_asked, asked_yes, asked_no}
use Rattle.card.proofs.Test.{by_test}
use Rattle.card.specs.Question.{first_no}
use Rattle.card.specs.Ring.{dir_blocks}
use Rattle.frames.proofs.KeepLaws.{kept_refused, kept_done, done_tells}
use Rattle.frames.proofs.ReadyLaws.{common_passed, ready}
use Rattle.frames.specs.Promise.{lent, common_asks, advance, refused, wrote, asks, advance_answer, advance_write, advanced, done_answer, done_write, after, FrameKept, passing, FrameAnswer}
use Rattle.frames.specs.Parts.{WriteDone, StepDone}
use Rattle.record.proofs.Held.{Held}
use Rattle.record.proofs.SoundLaws.{notes_length, queue_length, phase_owed}
use Rattle.record.specs.Holds.{holds_together}
use Rattle.record.specs.Meaning.{waits, notes_of, committed_of, phase_of, state_of}
use Rattle.record.specs.declared.store.Store.{Store}
use Rattle.recovery.specs.Questions.{given, advance_asks}
use Rattle.recovery.specs.Step.{Kind, page, directory, trailer, migration, header, flush, kind_write, kind_put, after_kind, migration_due, advance_due, migrating}
use Rattle.recovery.specs.State.{is_owed, is_flushed, State, entry_count}
use Rattle.recovery.specs.Write.{BlockWrite, put_down}

module _ (s : Store) (m c : List ℕ) where
  module _ (passed : first_no (common_asks s (length m) (length c)) ≡ 0) where
    own : first_no (asks (advance s.migrated) (lent s m c)) ≡ first_no (advance_asks (state_of s m))
    unfolding asks
    own = common_passed s (length m) (length c) (advance_asks (state_of s m)) passed

    pub advance_done : (k : Kind) → ((w : BlockWrite) → kind_put k w ≡ some w) → (b : ℕ) (t : Store) (card' : List ℕ) → advance_due (state_of s m) ≡ some k → WriteDone (kind_write k (state_of s m) c) (after_kind k (state_of s m)) m c b t card'
        → FrameKept (advance s.migrated) (lent s m c) (wrote k b) (lent t m card')
    unfolding done_answer done_write after advance_answer advance_write advanced
    advance_done k puts b t card' d w = kept_done (advance s.migrated) (lent s m c) (lent t m card') (wrote k b) (own ∙ yes) (answer (advance_due (state_of s m)) d) (card (advance_due (state_of s m)) d)
        (state (advance_due (state_of s m)) d) w.together refl
      where
        yes : first_no (advance_asks (state_of s m)) ≡ 0
        yes = unfold advance_asks in (asked_yes 20 (given (advance_due (state_of s m))) [] (ap given d) ∙ none_asked)

        answer : (o : Option Kind) → o ≡ some k → wrote k b ≡ advance_answer o (lent s m c)
        answer o e = rw e (ap (wrote k) w.block_is)

        card : (o : Option Kind) → o ≡ some k → card' ≡ put_down (advance_write o (lent s m c)) c
        card o e = rw (e, puts (kind_write k (state_of s m) c)) w.card_is

        state : (o : Option Kind) → o ≡ some k → state_of t m ≡ advanced o (state_of s m)
        state o e = rw e w.meaning

    -- a flush writes nothing
    pub advance_flushed : (t : Store) → advance_due (state_of s m) ≡ some flush → StepDone (after_kind flush) s t → FrameKept (advance s.migrated) (lent s m c) (wrote flush 0) (lent t m c)
    unfolding done_answer done_write after advance_answer advance_write advanced
    advance_flushed t d w = kept_done (advance s.migrated) (lent s m c) (lent t m c) (wrote flush 0) (own ∙ yes) (answer (advance_due (state_of s m)) d) (card (advance_due (state_of s m)) d) (state (advance_due (state_of s m)) d) w.together refl
      where
        yes : first_no (advance_asks (state_of s m)) ≡ 0
        yes = unfold advance_asks in (asked_yes 20 (given (advance_due (state_of s m))) [] (ap given d) ∙ none_asked)

        answer : (o : Option Kind) → o ≡ some flush → wrote flush 0 ≡ advance_answer o (lent s m c)
        answer o e = rw e (unfold kind_write in refl)

        card : (o : Option Kind) → o ≡ some flush → c ≡ put_down (advance_write o (lent s m c)) c
        card o e = rw e (unfold kind_put in refl)

        state : (o : Option Kind) → o ≡ some flush → state_of t m ≡ advanced o (state_of s m)
        state o e = rw e (w.meaning m)

-- every kind but a flush puts its block down
pub page_put : (w : BlockWrite) → kind_put page w ≡ some w
unfolding kind_put
page_put w = refl

pub directory_put : (w : BlockWrite) → kind_put directory w ≡ some w
unfolding kind_put
directory_put w = refl

pub trailer_put : (w : BlockWrite) → kind_put trailer w ≡ some w
unfolding kind_put
trailer_put w = refl

pub migration_put : (w : BlockWrite) → kind_put migration w ≡ some w
unfolding kind_put
migration_put w = refl

pub header_put : (w : BlockWrite) → kind_put header w ≡ some w
unfolding kind_put
header_put w = refl

-- no flush is owed
pub not_owed : (s : Store) → s.phase ≢ 2 → Held s → is_owed (phase_of s.phase) ≡ false
not_owed s calm h = go (is_owed (phase_of s.phase)) refl
  where
    go : (t : Bool) → is_owed (phase_of s.phase) ≡ t → t ≡ false
    go true e = absurd (calm (phase_owed s.phase h.phase_known e))
    go false e = refl

-- ---- which write is due

module _ (s : Store) (m : List ℕ) where
  e_is : length (notes_of s.pending) ≡ s.pending.count
  e_is = notes_length s.pending

  committed_is : length (committed_of s).entries ≡ s.committed.count
  committed_is = entries_length s.geometry.area s.first s.committed.frames s.committed.places s.committed.count

  left : (other : Option Kind) → s.migrated < s.committed.count → migration_due (state_of s m) other ≡ some migration
  unfolding migration_due
  left other h = rw (committed_is, lt-ltb _ _ h)

  done_all : (other : Option Kind) → s.committed.count ≤ s.migrated → migration_due (state_of s m) other ≡ other
  unfolding migration_due
  done_all other h = rw (committed_is, le-ltb _ _ h)

  pub due_owed : s.phase ≡ 2 → advance_due (state_of s m) ≡ some flush
  unfolding advance_due phase_of
  due_owed o = rw o refl

  module _ (calm : is_owed (phase_of s.phase) ≡ false) (p : s.pending.count ≡ 0) where
    pub due_idle : s.migrated < s.committed.count → advance_due (state_of s m) ≡ some migration
    unfolding advance_due
    due_idle h = rw (calm, e_is, eq-eqb _ _ p) (left none h)

    pub due_nothing : s.committed.count ≤ s.migrated → advance_due (state_of s m) ≡ none
    unfolding advance_due
    due_nothing h = rw (calm, e_is, eq-eqb _ _ p) (done_all none h)

  module _ (calm : is_owed (phase_of s.phase) ≡ false) (p : s.pending.count ≢ 0) where
    pub due_page : s.pending.down < s.pending.taken → advance_due (state_of s m) ≡ some page
    unfolding advance_due
    due_page h = rw (calm, e_is, ne_eqb _ _ p, queue_length s m 0 (waits s.pending), lt-ltb 0 (waits s.pending) (omega (arith, h)))

    module _ (q : waits s.pending ≡ 0) where
      pub due_directory : s.tail < dir_blocks s.pending.count → advance_due (state_of s m) ≡ some directory
      unfolding advance_due
      due_directory h = rw (calm, e_is, ne_eqb _ _ p, queue_length s m 0 (waits s.pending), le-ltb 0 (waits s.pending) (omega (arith, q)), lt-ltb _ _ h)

      pub due_trailer : s.tail ≡ dir_blocks s.pending.count → advance_due (state_of s m) ≡ some trailer
      unfolding advance_due
      due_trailer h = rw (
        calm,
        e_is,
        ne_eqb _ _ p,
        queue_length s m 0 (waits s.pending),
        le-ltb 0 (waits s.pending) (omega (arith, q)),
        le-ltb s.tail (dir_blocks s.pending.count) (omega (arith, h)),
        eq-eqb _ _ h,
      )

      module _ (t : dir_blocks s.pending.count < s.tail) where
        behind : advance_due (state_of s m) ≡ migration_due (state_of s m) (some (cond (is_flushed (phase_of s.phase)) header flush))
        unfolding advance_due
        behind = rw (
          calm,
          e_is,
          ne_eqb _ _ p,
          queue_length s m 0 (waits s.pending),
          le-ltb 0 (waits s.pending) (omega (arith, q)),
          le-ltb s.tail (dir_blocks s.pending.count) (omega (arith, t)),
          ne_eqb s.tail (dir_blocks s.pending.count) (λ e. omega (arith, e, t)),
        )

        pub due_migration : s.migrated < s.committed.count → advance_due (state_of s m) ≡ some migration
        due_migration h = behind ∙ left _ h

        -- all is down: the flush, then the header
        pub due_flush : s.committed.count ≤ s.migrated → s.phase ≡ 0 → advance_due (state_of s m) ≡ some flush
        due_flush h z = behind ∙ done_all _ h ∙ ap (λ (t : Bool). some (cond t header flush)) early
          where
            early : is_flushed (phase_of s.phase) ≡ false
            early = unfold phase_of in (rw z refl)

        pub due_header : s.committed.count ≤ s.migrated → s.phase ≡ 1 → advance_due (state_of s m) ≡ some header
        due_header h o = behind ∙ done_all _ h ∙ ap (λ (t : Bool). some (cond t header flush)) late
          where
            late : is_flushed (phase_of s.phase) ≡ true
            late = unfold phase_of in (rw o refl)

-- ---- whether advance has come to migration

pub migrating_owed : (s : Store) → s.phase ≡ 2 → (m : List ℕ) → false ≡ migrating (state_of s m)
unfolding migrating phase_of
migrating_owed s o m = rw o refl

module _ (s : Store) (calm : is_owed (phase_of s.phase) ≡ false) where
  pub migrating_idle : s.pending.count ≡ 0 → (m : List ℕ) → true ≡ migrating (state_of s m)
  unfolding migrating
  migrating_idle p m = rw (calm, e_is s m, eq-eqb _ _ p)

  module _ (p : s.pending.count ≢ 0) where
    pub migrating-waits : s.pending.down < s.pending.taken → (m : List ℕ) → false ≡ migrating (state_of s m)
    unfolding migrating
    migrating-waits h m = rw (calm, e_is s m, ne_eqb _ _ p, queue_length s m 0 (waits s.pending), lt-ltb 0 (waits s.pending) (omega (arith, h)))

    pub migrating_tail : s.pending.taken ≤ s.pending.down → (t : Bool) → t ≡ ltb (dir_blocks s.pending.count) s.tail → (m : List ℕ) → t ≡ migrating (state_of s m)
    unfolding migrating
    migrating_tail h t e m = rw (calm, e_is s m, ne_eqb _ _ p, queue_length s m 0 (waits s.pending), le-ltb 0 (waits s.pending) (omega (arith, h))) e

-- ---- with entries passed over

-- with a snapshot pending a write or a flush is due
due_header_or : (s : State) → given (migration_due s (some (cond (is_flushed s.phase) header flush))) ≡ true
unfolding migration_due
due_header_or s = by_test (λ (o : Option Kind). given o ≡ true) (ltb s.migrated (length s.committed.entries)) (λ e. refl) (λ e. refl)

pub commit_given : (s : State) → entry_count s.pending ≢ 0 → given (advance_due s) ≡ true
unfolding advance_due
commit_given s p = by_test (λ (o : Option Kind). given o ≡ true) (is_owed s.phase) (λ e. refl) (λ e. rw (ne_eqb _ _ p)
    (by_test (λ (o : Option Kind). given o ≡ true) (ltb 0 (length s.pending.waiting)) (λ e. refl)
    (λ e. by_test (λ (o : Option Kind). given o ≡ true) (ltb s.tail_down (dir_blocks (entry_count s.pending))) (λ e. refl)
    (λ e. by_test (λ (o : Option Kind). given o ≡ true) (eqb s.tail_down (dir_blocks (entry_count s.pending))) (λ e. refl) (λ e. due_header_or s)))))

asks_yes : (s : State) → given (advance_due s) ≡ true → first_no (advance_asks s) ≡ 0
unfolding advance_asks
asks_yes s d = asked_yes 20 (given (advance_due s)) [] d ∙ none_asked

pub idle_given : (s : Store) (m : List ℕ) → is_owed (phase_of s.phase) ≡ false → s.pending.count ≡ 0 → s.migrated < s.committed.count → given (advance_due (state_of s m)) ≡ true
idle_given s m calm p h = ap given (due_idle s m calm p h)

module _ (s : Store) (m c : List ℕ) (passed : first_no (common_asks s (length m) (length c)) ≡ 0) (n : ℕ) where
  asked : first_no (asks (advance n) (lent s m c)) ≡ first_no (advance_asks (state_of (passing n s) m))
  unfolding asks
  asked = common_passed s (length m) (length c) (advance_asks (state_of (passing n s) m)) passed

  -- the record that is passed on is asked 1 to 3 with the same answer
  same_common : holds_together (passing n s) ≡ true → first_no (common_asks (passing n s) (length m) (length c)) ≡ 0
  same_common h = rw h (rw (ready s (length m) (length c) passed).together at passed)

  same_asked : holds_together (passing n s) ≡ true → first_no (asks (advance n) (lent (passing n s) m c)) ≡ first_no (advance_asks (state_of (passing n s) m))
  unfolding asks
  same_asked h = common_passed (passing n s) (length m) (length c) (advance_asks (state_of (passing n s) m)) (same_common h)

  -- what is done with it is done with the record that was lent
  same_kept : holds_together (passing n s) ≡ true → given (advance_due (state_of (passing n s) m)) ≡ true → (a : FrameAnswer) (u : Store) (c' : List ℕ)
      → FrameKept (advance n) (lent (passing n s) m c) a (lent u m c') → FrameKept (advance n) (lent s m c) a (lent u m c')
  unfolding done_answer done_write after
  same_kept h d a u c' k =
      let yes : first_no (advance_asks (state_of (passing n s) m)) ≡ 0 = asks_yes (state_of (passing n s) m) d in
      let own' : first_no (asks (advance n) (lent (passing n s) m c)) ≡ 0 = same_asked h ∙ yes in
      let q = done_tells (first_no (asks (advance n) (lent (passing n s) m c))) (done_answer (advance n) (lent (passing n s) m c)) _ (done_write (advance n) (lent (passing n s) m c)) (after (advance n) (lent (passing n s) m c)) k own' in
      kept_done (advance n) (lent s m c) (lent u m c') a (asked ∙ yes) q.0 q.1 (k.meaning own') (k.sound_is own') refl

  module _ (t : Store) (t-is : t ≡ passing n s) (together : holds_together t ≡ true) where
    pub pass_common : first_no (common_asks t (length m) (length c)) ≡ 0
    pass_common = subst (λ (x : Store). first_no (common_asks x (length m) (length c)) ≡ 0) (sym t-is) (same_common (subst (λ (x : Store). holds_together x ≡ true) t-is together))

    pub pass_kept : given (advance_due (state_of t m)) ≡ true → (a : FrameAnswer) (u : Store) (c' : List ℕ) → FrameKept (advance t.migrated) (lent t m c) a (lent u m c') → FrameKept (advance n) (lent s m c) a (lent u m c')
    pass_kept = subst (λ (x : Store). given (advance_due (state_of x m)) ≡ true → (a : FrameAnswer) (u : Store) (c' : List ℕ) → FrameKept (advance x.migrated) (lent x m c) a (lent u m c') → FrameKept (advance n) (lent s m c) a (lent u m c'))
        (sym t-is) (same_kept (subst (λ (x : Store). holds_together x ≡ true) t-is together))

  -- none is due: 20
  pub pass_none : is_owed (phase_of s.phase) ≡ false → s.pending.count ≡ 0 → s.committed.count ≤ n → FrameKept (advance n) (lent s m c) (refused 20) (lent s m c)
  pass_none calm p h = kept_refused (advance n) (lent s m c) 20 (asked ∙ no) (λ e. omega (arith, e))
    where
      no : first_no (advance_asks (state_of (passing n s) m)) ≡ 20
      no = unfold advance_asks in (asked_no 20 (given (advance_due (state_of (passing n s) m))) [] (ap given (due_nothing (passing n s) m calm p h)))
