-- Page-out, snapshot and start keep their promise.
-- Assumes nothing.
use Prim.Native.Nat.{ℕ, ◌+◌, ◌≤◌, ◌<◌}
use borrow.Author.Tests.{lt-ltb, le-ltb, eq-eqb, ne_eqb}
use lib.Dec.{ltb, eqb}
use lib.ListN.{length}
use mathlib.Core.Bool.{not, Bool, true, false}
use mathlib.Core.List.{List, []}
use mathlib.Core.Logic.{◌≢◌}
use mathlib.Core.Path.{◌≡◌, refl, ap, sym, ◌∙◌}
use native.Mathlib.Omega.{arith}
use Rattle.card.proofs.QuestionLaws.{none_asked, asked_yes, asked_no}
use Rattle.card.specs.Question.{first_no}
use Rattle.frames.proofs.KeepLaws.{kept_done, kept_refused, numbered-done, refused_by}
use Rattle.frames.proofs.ReadyLaws.{common_passed, common_refused}
use Rattle.frames.specs.Promise.{lent, common_asks, start, snapshot, page_out, refused, wrote, asks, done_answer, done_write, after, FrameKept, numbered}
use Rattle.frames.specs.Parts.{WriteDone, StepDone, Started}
use Rattle.record.proofs.SoundLaws.{notes_length, queue_length}
use Rattle.record.specs.Meaning.{waits, notes_of, queue_of, phase_of, state_of, zero_store}
use Rattle.record.specs.declared.store.Store.{Store}
use Rattle.recovery.specs.Questions.{start_asks, snapshot_asks, page_out_asks}
use Rattle.recovery.specs.State.{is_owed}
use Rattle.recovery.specs.Step.{page, pending_to, current_to, after_snapshot, out_write, out_of, page_out_write, after_page_out}

-- ---- page-out

module _ (s : Store) (m c : List ℕ) where
  pub page_out_common : (n : ℕ) → n ≡ first_no (common_asks s (length m) (length c)) → n ≢ 0 → FrameKept page_out (lent s m c) (refused n) (lent s m c)
  page_out_common n e z = kept_refused page_out (lent s m c) n (unfold asks in (common_refused s (length m) (length c) _ (λ q. z (e ∙ q)) ∙ sym e)) z

  module _ (passed : first_no (common_asks s (length m) (length c)) ≡ 0) where
    asked : first_no (asks page_out (lent s m c)) ≡ first_no (page_out_asks (state_of s m))
    unfolding asks
    asked = common_passed s (length m) (length c) (page_out_asks (state_of s m)) passed

    waiting : length (queue_of s m 0 (waits s.pending)) ≡ waits s.pending
    waiting = queue_length s m 0 (waits s.pending)

    behind : length (queue_of s m (waits s.pending) (waits s.current)) ≡ waits s.current
    behind = queue_length s m (waits s.pending) (waits s.current)

    -- a flush is owed: 28
    pub page_out_owed : s.phase ≡ 2 → FrameKept page_out (lent s m c) (refused 28) (lent s m c)
    page_out_owed o = kept_refused page_out (lent s m c) 28 (asked ∙ no) (λ e. omega (arith, e))
      where
        no : first_no (page_out_asks (state_of s m)) ≡ 28
        no = unfold page_out_asks phase_of in (asked_no 28 _ _ (rw o refl))

    module _ (calm : is_owed (phase_of s.phase) ≡ false) where
      none_owed : not (is_owed (phase_of s.phase)) ≡ true
      none_owed = rw calm refl

      -- none waits: 19
      pub page_out_none : s.pending.taken ≤ s.pending.down → s.current.taken ≤ s.current.down → FrameKept page_out (lent s m c) (refused 19) (lent s m c)
      page_out_none p q = kept_refused page_out (lent s m c) 19 (asked ∙ no) (λ e. omega (arith, e))
        where
          no : first_no (page_out_asks (state_of s m)) ≡ 19
          no = unfold page_out_asks in (asked_yes 28 _ _ none_owed ∙ asked_no 19 _ [] (le-ltb 0 (length (queue_of s m 0 (waits s.pending)) + length (queue_of s m (waits s.pending) (waits s.current))) (omega (arith, waiting, behind, p, q))))

      yes : 0 < waits s.pending + waits s.current → first_no (asks page_out (lent s m c)) ≡ 0
      yes h = asked ∙ (unfold page_out_asks in (asked_yes 28 _ _ none_owed ∙ asked_yes 19 _ [] (lt-ltb 0 (length (queue_of s m 0 (waits s.pending)) + length (queue_of s m (waits s.pending) (waits s.current))) (omega (arith, waiting, behind, h))) ∙ none_asked))

      -- done: the block and the state are page-out's
      out_done : (b : ℕ) (t : Store) (card' : List ℕ) → 0 < waits s.pending + waits s.current → WriteDone (page_out_write (state_of s m)) (after_page_out (state_of s m)) m c b t card'
          → FrameKept page_out (lent s m c) (wrote page b) (lent t m card')
      unfolding done_answer done_write after
      out_done b t card' h w = kept_done page_out (lent s m c) (lent t m card') (wrote page b) (yes h) (ap (wrote page) w.block_is) w.card_is w.meaning w.together refl

      pub page_out_pending : (b : ℕ) (t : Store) (card' : List ℕ) → s.pending.down < s.pending.taken
          → WriteDone (out_write s.geometry.area (state_of s m).pending) (pending_to (out_of (state_of s m).pending) s.tail (state_of s m)) m c b t card'
          → FrameKept page_out (lent s m c) (wrote page b) (lent t m card')
      page_out_pending b t card' p w = out_done b t card' (omega arith) (due (lt-ltb 0 (length (queue_of s m 0 (waits s.pending))) (omega (arith, waiting, p))))
        where
          due : ltb 0 (length (queue_of s m 0 (waits s.pending))) ≡ true → WriteDone (page_out_write (state_of s m)) (after_page_out (state_of s m)) m c b t card'
          due t = unfold page_out_write after_page_out in (rw t w)

      pub page_out_current : (b : ℕ) (t : Store) (card' : List ℕ) → s.pending.taken ≤ s.pending.down → s.current.down < s.current.taken
          → WriteDone (out_write s.geometry.area (state_of s m).current) (current_to (out_of (state_of s m).current) (state_of s m)) m c b t card'
          → FrameKept page_out (lent s m c) (wrote page b) (lent t m card')
      page_out_current b t card' p q w = out_done b t card' (omega arith) (due (le-ltb 0 (length (queue_of s m 0 (waits s.pending))) (omega (arith, waiting, p))))
        where
          due : ltb 0 (length (queue_of s m 0 (waits s.pending))) ≡ false → WriteDone (page_out_write (state_of s m)) (after_page_out (state_of s m)) m c b t card'
          due t = unfold page_out_write after_page_out in (rw t w)

-- ---- snapshot

module _ (s : Store) (m c : List ℕ) where
  pub snapshot_common : (n : ℕ) → n ≡ first_no (common_asks s (length m) (length c)) → n ≢ 0 → FrameKept snapshot (lent s m c) (numbered n) (lent s m c)
  snapshot_common n e z = refused_by snapshot (lent s m c) n (unfold asks in (common_refused s (length m) (length c) _ (λ q. z (e ∙ q)) ∙ sym e)) z

  module _ (passed : first_no (common_asks s (length m) (length c)) ≡ 0) where
    own : first_no (asks snapshot (lent s m c)) ≡ first_no (snapshot_asks (state_of s m))
    unfolding asks
    own = common_passed s (length m) (length c) (snapshot_asks (state_of s m)) passed

    abbrev none_pending : Bool
    none_pending = eqb (length (notes_of s.pending)) 0

    abbrev some_changed : Bool
    some_changed = ltb 0 (length (notes_of s.current))

    pub snapshot_16 : s.pending.count ≢ 0 → FrameKept snapshot (lent s m c) (numbered 16) (lent s m c)
    snapshot_16 p = refused_by snapshot (lent s m c) 16 (own ∙ no) (λ e. omega (arith, e))
      where
        no : first_no (snapshot_asks (state_of s m)) ≡ 16
        no = unfold snapshot_asks in (asked_no 16 none_pending _ (ne_eqb _ _ (λ e. p (sym (notes_length s.pending) ∙ e))))

    module _ (p : s.pending.count ≡ 0) where
      clear : none_pending ≡ true
      clear = eq-eqb _ _ (notes_length s.pending ∙ p)

      pub snapshot_17 : s.current.count ≡ 0 → FrameKept snapshot (lent s m c) (numbered 17) (lent s m c)
      snapshot_17 q = refused_by snapshot (lent s m c) 17 (own ∙ no) (λ e. omega (arith, e))
        where
          no : first_no (snapshot_asks (state_of s m)) ≡ 17
          no = unfold snapshot_asks in (asked_yes 16 none_pending _ clear ∙ asked_no 17 some_changed _ (le-ltb 0 (length (notes_of s.current)) (omega (arith, notes_length s.current, q))))

      module _ (q : s.current.count ≢ 0) where
        changed : some_changed ≡ true
        changed = lt-ltb 0 (length (notes_of s.current)) (omega (arith, notes_length s.current, q))

        pub snapshot_18 : 4294967295 ≤ s.commit → FrameKept snapshot (lent s m c) (numbered 18) (lent s m c)
        snapshot_18 r = refused_by snapshot (lent s m c) 18 (own ∙ no) (λ e. omega (arith, e))
          where
            no : first_no (snapshot_asks (state_of s m)) ≡ 18
            no = unfold snapshot_asks in (asked_yes 16 none_pending _ clear ∙ asked_yes 17 some_changed _ changed ∙ asked_no 18 _ _ (le-ltb s.commit 4294967295 r))

        pub snapshot_done : (t : Store) → s.commit < 4294967295 → StepDone after_snapshot s t → FrameKept snapshot (lent s m c) (numbered 0) (lent t m c)
        unfolding done_answer done_write after
        snapshot_done t r d = kept_done snapshot (lent s m c) (lent t m c) (numbered 0) (own ∙ yes) numbered-done refl (d.meaning m) d.together refl
          where
            yes : first_no (snapshot_asks (state_of s m)) ≡ 0
            yes = unfold snapshot_asks in (asked_yes 16 none_pending _ clear ∙ asked_yes 17 some_changed _ changed ∙ asked_yes 18 _ _ (lt-ltb s.commit 4294967295 r) ∙ none_asked)

-- ---- start

module _ (m c : List ℕ) where
  pub start_refused : (n : ℕ) → n ≡ first_no (start_asks m c) → n ≢ 0 → FrameKept (start m) (lent zero_store m c) (numbered n) (lent zero_store m c)
  start_refused n e z = refused_by (start m) (lent zero_store m c) n (unfold asks in (sym e)) z

  pub start_done : (t : Store) → 0 ≡ first_no (start_asks m c) → Started m c t → FrameKept (start m) (lent zero_store m c) (numbered 0) (lent t m c)
  unfolding done_answer done_write after
  start_done t e d = kept_done (start m) (lent zero_store m c) (lent t m c) (numbered 0) (unfold asks in (sym e)) numbered-done refl d.meaning d.together refl
