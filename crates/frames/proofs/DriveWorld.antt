-- What a call or a cut in it leaves of what a world may hold: a drive, and a record that persists on it or that of
-- zeros.
-- Assumes nothing.
use Prim.Native.Nat.{ℕ, zero, suc}
use lib.ListN.{length}
use mathlib.Core.Bool.{Bool}
use mathlib.Core.List.{List, ◌++◌}
use mathlib.Core.Logic.{◌≢◌}
use mathlib.Core.Option.{Option, none, some}
use mathlib.Core.Path.{◌≡◌, refl, sym, ◌∙◌, subst}
use native.Mathlib.Omega.{arith}
use Rattle.card.specs.Bytes.{All}
use Rattle.card.specs.Question.{Question, first_no}
use Rattle.card.specs.Range.{Range}
use Rattle.frames.proofs.KeepLaws.{outcome-done, outcome_refused, refused_tells}
use Rattle.frames.proofs.ReadyLaws.{common_both}
use Rattle.frames.proofs.Run.{told, before_told, drive_told, Asked}
use Rattle.frames.proofs.WorldLaws.{done_keeps, told_refused, zeros_refused, advance_due_lem, Standing, idle, live, LentOk, done-common}
use Rattle.frames.specs.Promise.{Lent, lent, meaning_of, common, FrameCall, start, change, snapshot, page_out, advance, FrameAnswer, refused, asks, advance_answer, advance_write, advanced, done_answer, done_write, after, outcome, handed_back, FrameKept, past}
use Rattle.record.specs.Meaning.{zero_store}
use Rattle.recovery.proofs.DriveLaws.{seen-written}
use Rattle.recovery.proofs.Persists.{Preserved, Persists, seen_drive, persists_preserved, preserved_stored, persists_start, preserved_cut, persists_change, persists_snapshot, persists_pass, persists_advance, cut_advance, persists_out, cut_out}
use Rattle.recovery.specs.Book.{FrameBook, book_cut, WholeFrame, Needs, Brings}
use Rattle.recovery.specs.Contents.{Contents}
use Rattle.recovery.specs.Questions.{room_asks, snapshot_asks, page_out_asks, advance_asks}
use Rattle.recovery.specs.Step.{Kind, kind_write, advance_due, page_out_write}
use Rattle.recovery.specs.Write.{BlockWrite, put_down, Drive, seen, settled, written, Spoilt, Cut, ReachedIs}

-- the record of zeros, or one that persists and passes questions 1 to 3
pub data Stands (needed : Needs) (blocks area : ℕ) (ranges : List Range) (l : Lent) (v : Drive) (b : FrameBook) (before : Option Contents) : Type 0 where
  vacant : l.store ≡ zero_store → Preserved needed blocks area ranges v b.kept before → Stands needed blocks area ranges l v b before
  serving : Persists needed blocks area ranges (meaning_of l) v b before → first_no (common l) ≡ 0 → Stands needed blocks area ranges l v b before

module _ (needed : Needs) (blocks area : ℕ) (ranges : List Range) where
  pub stands_preserved : (l : Lent) (v : Drive) (b : FrameBook) (before : Option Contents) → Stands needed blocks area ranges l v b before → Preserved needed blocks area ranges v b.kept before
  stands_preserved l v b before (vacant z k) = k
  stands_preserved l v b before (serving p h) = persists_preserved blocks area ranges (meaning_of l) v b before p

  pub stands_persists : (l : Lent) (v : Drive) (b : FrameBook) (before : Option Contents) → Stands needed blocks area ranges l v b before → first_no (common l) ≡ 0 → Persists needed blocks area ranges (meaning_of l) v b before
  stands_persists l v b before (vacant z k) h = absurd (zeros_refused l z h)
  stands_persists l v b before (serving p q) h = p

  -- the card that is lent is the one that is seen
  stands_standing : (l : Lent) (v : Drive) (b : FrameBook) (before : Option Contents) → l.card ≡ seen v → Stands needed blocks area ranges l v b before → Standing needed blocks area ranges l b
  stands_standing l v b before e (vacant z k) = idle z (rw e (preserved_stored blocks area ranges v b.kept before k))
  stands_standing l v b before e (serving p h) = live (rw e p.follows) h

  -- start is lent a card without a record, every other call what is held
  abbrev pub LentOn : FrameCall → Lent → Drive → FrameBook → Option Contents → Type 0
  LentOn (start m) l v b before = (l.memory ≡ m) × Preserved needed blocks area ranges v b.kept before
  LentOn (change ws) l v b before = Stands needed blocks area ranges l v b before
  LentOn snapshot l v b before = Stands needed blocks area ranges l v b before
  LentOn page_out l v b before = Stands needed blocks area ranges l v b before
  LentOn (advance n) l v b before = Stands needed blocks area ranges l v b before

  module _ (l : Lent) (v : Drive) (b : FrameBook) (before : Option Contents) (e : l.card ≡ seen v) where
    lent_ok : (c : FrameCall) → LentOn c l v b before → LentOk needed blocks area ranges c l b
    lent_ok (start m) o = (o.0, rw e (preserved_stored blocks area ranges v b.kept before o.1))
    lent_ok (change ws) o = stands_standing l v b before e o
    lent_ok snapshot o = stands_standing l v b before e o
    lent_ok page_out o = stands_standing l v b before e o
    lent_ok (advance n) o = stands_standing l v b before e o

    lent_preserved : (c : FrameCall) → LentOn c l v b before → Preserved needed blocks area ranges v b.kept before
    lent_preserved (start m) o = o.1
    lent_preserved (change ws) o = stands_preserved l v b before o
    lent_preserved snapshot o = stands_preserved l v b before o
    lent_preserved page_out o = stands_preserved l v b before o
    lent_preserved (advance n) o = stands_preserved l v b before o

    -- refused
    lent_back : (c : FrameCall) → LentOn c l v b before → ((handed_back c l).card ≡ seen v) × Stands needed blocks area ranges (handed_back c l) v b before
    lent_back (start m) o = (e, vacant refl o.1)
    lent_back (change ws) o = (e, o)
    lent_back snapshot o = (e, o)
    lent_back page_out o = (e, o)
    lent_back (advance n) o = (e, o)

    own_persists : (own : List Question) → Stands needed blocks area ranges l v b before → first_no (common l ++ own) ≡ 0 → Persists needed blocks area ranges (meaning_of l) v b before × (first_no own ≡ 0)
    own_persists own o h = let q = common_both l.store (length l.memory) (length l.card) own h in (stands_persists l v b before o q.0, q.1)

    -- ---- advance, on the card that is seen

    abbrev upon : List ℕ → Lent
    upon x = lent l.store l.memory x

    module _ (n : ℕ) where
      abbrev Advanced : List ℕ → Type 0
      Advanced x = Persists needed blocks area ranges (after (advance n) (upon x)) (drive_told (done_answer (advance n) (upon x)) (done_write (advance n) (upon x)) v) (told (advance n) (done_answer (advance n) (upon x)) b)
          (before_told (done_answer (advance n) (upon x)) b before)

      advance_done : (k : Kind) → advance_due (meaning_of (past n l)) ≡ some k → Persists needed blocks area ranges (meaning_of (past n l)) v b before → Advanced (seen v)
      unfolding after done_write done_answer told advanced advance_write advance_answer
      advance_done k d p = rw d (persists_advance blocks area ranges (meaning_of (past n l)) v b before p k d)

      abbrev Seen : List ℕ → Type 0
      Seen x = put_down (done_write (advance n) (upon x)) x ≡ seen (drive_told (done_answer (advance n) (upon x)) (done_write (advance n) (upon x)) v)

      advance_seen : (k : Kind) → advance_due (meaning_of (past n l)) ≡ some k → Seen (seen v)
      unfolding done_write done_answer advance_write advance_answer
      advance_seen k d = rw d (sym (seen_drive k (kind_write k (meaning_of (past n l)) (seen v)) v))

      advance_cut : (k : Kind) → advance_due (meaning_of (past n l)) ≡ some k → Persists needed blocks area ranges (meaning_of (past n l)) v b before → (c' : List ℕ) (reached : Bool) → Cut Spoilt v (done_write (advance n) (upon (seen v))) c'
          → ReachedIs (written (done_write (advance n) (upon (seen v))) v).since c' reached → Preserved needed blocks area ranges (settled c') (book_cut before reached b).kept none
      unfolding done_write advance_write
      advance_cut k d p c' reached left r = cut_advance blocks area ranges (meaning_of (past n l)) v b before p k d c' (rw d at left) reached (rw d at r)

    -- done
    lent-done : (c : FrameCall) → LentOn c l v b before → Asked needed c l b → first_no (asks c l) ≡ 0
        → Persists needed blocks area ranges (after c l) (drive_told (done_answer c l) (done_write c l) v) (told c (done_answer c l) b) (before_told (done_answer c l) b before)
    unfolding asks after done_write done_answer told advanced advance_write advance_answer
    lent-done (start m) o asked h = rw e (persists_start blocks area ranges v b before o.1 m)
    lent-done (change ws) o asked h =
        let q = own_persists (room_asks ws (meaning_of l)) o h in
        persists_change blocks area ranges (meaning_of l) v b before q.0 ws
        (subst (λ (n : ℕ). All (WholeFrame n blocks) ws) q.0.follows.area_is (subst (λ (n : ℕ). All (WholeFrame l.store.geometry.area n) ws) q.0.follows.blocks_is asked.0))
        (subst (λ (n : ℕ). Brings needed n blocks ws b.present) q.0.follows.area_is (subst (λ (n : ℕ). Brings needed l.store.geometry.area n ws b.present) q.0.follows.blocks_is asked.1)) q.1
    lent-done snapshot o asked h =
        let q = own_persists (snapshot_asks (meaning_of l)) o h in
        persists_snapshot blocks area ranges (meaning_of l) v b before q.0 q.1
    lent-done page_out o asked h =
        let q = own_persists (page_out_asks (meaning_of l)) o h in
        persists_out blocks area ranges (meaning_of l) v b before q.0 q.1
    lent-done (advance n) o asked h =
        let q = own_persists (advance_asks (meaning_of (past n l))) o h in
        let d = advance_due_lem (meaning_of (past n l)) q.1 in
        subst (Advanced n) (sym e) (advance_done n d.0 d.1 (persists_pass blocks area ranges (meaning_of l) v b before q.0 n asked))

    -- the card after it is the one that is seen then
    seen_done : (c : FrameCall) → first_no (asks c l) ≡ 0 → put_down (done_write c l) l.card ≡ seen (drive_told (done_answer c l) (done_write c l) v)
    unfolding asks done_write done_answer advance_write advance_answer
    seen_done (start m) h = e
    seen_done (change ws) h = e
    seen_done snapshot h = e
    seen_done page_out h = rw e (sym (seen-written v (page_out_write (meaning_of l))))
    seen_done (advance n) h =
        let q = common_both l.store (length l.memory) (length l.card) (advance_asks (meaning_of (past n l))) h in
        let d = advance_due_lem (meaning_of (past n l)) q.1 in
        subst (Seen n) (sym e) (advance_seen n d.0 d.1)

    -- cut off
    lent_cut : (c : FrameCall) → LentOn c l v b before → Asked needed c l b → first_no (asks c l) ≡ 0 → (c' : List ℕ) (reached : Bool) → Cut Spoilt v (done_write c l) c' → ReachedIs (written (done_write c l) v).since c' reached
        → Preserved needed blocks area ranges (settled c') (book_cut before reached b).kept none
    unfolding asks done_write advance_write
    lent_cut (start m) o asked h c' reached left r = preserved_cut blocks area ranges v b before o.1 c' left reached r
    lent_cut (change ws) o asked h c' reached left r = preserved_cut blocks area ranges v b before (lent_preserved (change ws) o) c' left reached r
    lent_cut snapshot o asked h c' reached left r = preserved_cut blocks area ranges v b before (lent_preserved snapshot o) c' left reached r
    lent_cut page_out o asked h c' reached left r =
        let q = own_persists (page_out_asks (meaning_of l)) o h in
        cut_out blocks area ranges (meaning_of l) v b before q.0 q.1 c' left reached r
    lent_cut (advance n) o asked h c' reached left r =
        let q = own_persists (advance_asks (meaning_of (past n l))) o h in
        let d = advance_due_lem (meaning_of (past n l)) q.1 in
        advance_cut n d.0 d.1 (persists_pass blocks area ranges (meaning_of l) v b before q.0 n asked) c' reached (subst (λ (x : List ℕ). Cut Spoilt v (done_write (advance n) (upon x)) c') e left)
        (subst (λ (x : List ℕ). ReachedIs (written (done_write (advance n) (upon x)) v).since c' reached) e r)

    -- ---- with its promise

    module _ (c : FrameCall) (o : LentOn c l v b before) where
      -- what a call hands back
      pub called_on : Asked needed c l b → (l' : Lent) (a : FrameAnswer) → FrameKept c l a l'
          → (l'.card ≡ seen (drive_told a (outcome c l).write v)) × Stands needed blocks area ranges l' (drive_told a (outcome c l).write v) (told c a b) (before_told a b before)
      called_on asked l' a p = go (first_no (asks c l)) refl
        where
          go : (n : ℕ) → first_no (asks c l) ≡ n
              → (l'.card ≡ seen (drive_told a (outcome c l).write v)) × Stands needed blocks area ranges l' (drive_told a (outcome c l).write v) (told c a b) (before_told a b before)
          go zero q =
              let d = done_keeps c l l' a p q in
              let w : (outcome c l).write ≡ done_write c l = (outcome-done _ (done_answer c l) (refused (first_no (asks c l))) _ (after c l) q).1 in
              let next : Persists needed blocks area ranges (meaning_of l') (drive_told (done_answer c l) (done_write c l) v) (told c (done_answer c l) b) (before_told (done_answer c l) b before) = rw (p.meaning q) (lent-done c o asked q) in
              rw (w, d.0) (d.1 ∙ seen_done c q, serving next (done-common needed blocks area ranges l b c (lent_ok c o) asked l' a p q))
          go (suc k) q =
              let z : first_no (asks c l) ≢ 0 = λ r. omega (arith, q, r) in
              let r = refused_tells (first_no (asks c l)) (done_answer c l) (refused (first_no (asks c l))) (done_write c l) (after c l) p z in
              let w : (outcome c l).write ≡ none = (outcome_refused _ (done_answer c l) (refused (first_no (asks c l))) (done_write c l) (after c l) z).1 in
              rw (w, r.0, told_refused c (first_no (asks c l)) b, r.1) (lent_back c o)

      -- what a cut in it leaves
      pub cut_on : Asked needed c l b → (c' : List ℕ) (reached : Bool) → Cut Spoilt v (outcome c l).write c' → ReachedIs (written (outcome c l).write v).since c' reached → Preserved needed blocks area ranges (settled c') (book_cut before reached b).kept none
      cut_on asked c' reached left r = go (first_no (asks c l)) refl
        where
          go : (n : ℕ) → first_no (asks c l) ≡ n → Preserved needed blocks area ranges (settled c') (book_cut before reached b).kept none
          go zero q =
              let w : (outcome c l).write ≡ done_write c l = (outcome-done _ (done_answer c l) (refused (first_no (asks c l))) _ (after c l) q).1 in
              lent_cut c o asked q c' reached (subst (λ (x : Option BlockWrite). Cut Spoilt v x c') w left) (subst (λ (x : Option BlockWrite). ReachedIs (written x v).since c' reached) w r)
          go (suc k) q =
              let z : first_no (asks c l) ≢ 0 = λ x. omega (arith, q, x) in
              let w : (outcome c l).write ≡ none = (outcome_refused _ (done_answer c l) (refused (first_no (asks c l))) (done_write c l) (after c l) z).1 in
              preserved_cut blocks area ranges v b before (lent_preserved c o) c' (subst (λ (x : Option BlockWrite). Cut Spoilt v x c') w left) reached (subst (λ (x : Option BlockWrite). ReachedIs (written x v).since c' reached) w r)
