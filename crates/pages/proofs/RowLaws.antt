-- A change makes of its own page's row what the machine says, and leaves the others; of a pot it leaves the seven other flag bits and every byte outside the page's entry.
-- Assumes nothing.
use Prim.Native.Nat.{ℕ, suc, ◌+◌, ◌*◌, ◌/◌, ◌≤◌, ◌<◌}
use lib.ListN.{length, get_or}
use mathlib.Core.Bool.{Bool, true, false, cond}
use mathlib.Core.List.{List, [], ◌∷◌}
use mathlib.Core.Logic.{◌≢◌}
use mathlib.Core.Path.{◌≡◌, refl, ap, sym, ◌∙◌}
use native.Mathlib.Decide.{ℕ_discrete}
use native.Mathlib.Omega.{arith}
use Rattle.card.proofs.AddressLaws.{PlacesApart}
use Rattle.card.proofs.PotLaws.{set_is, clear_is, set_keeps, clear_keeps, flags_same, flags_other, flags_count, put_count-length, count_same, count_other, count_flags, flags_outside, count_outside}
use Rattle.card.proofs.Test.{by_test}
use Rattle.card.specs.Bytes.{patch, zeros, All}
use Rattle.card.specs.Pot.{count_at, flags_at, put_count, put_flags, is_zero, set_zero, clear_zero}
use Rattle.card.specs.declared.range.Address.{Address}
use Rattle.pages.specs.Change.{Change, put, empty, changed, write_frames, rescind_pot, changed_frames}
use Rattle.pages.specs.Page.{flagged, page_bytes, page_of}
use Rattle.pages.specs.Plain.{Row, row_of, zero_after, row_after}
use Rattle.recovery.proofs.ContentsLaws.{overlay_without, overlay-first}
use Rattle.recovery.proofs.Sorted.{oldest}
use Rattle.recovery.specs.Book.{apply_changes}
use Rattle.recovery.specs.Contents.{Contents, FrameBytes, overlay}

-- one frame changed
hit : (w : FrameBytes) (v : Contents) → overlay (w ∷ []) v w.frame ≡ w.bytes
unfolding oldest
hit w v = overlay-first (w ∷ []) v (omega arith)

miss : (w : FrameBytes) (v : Contents) (x : ℕ) → x ≢ w.frame → overlay (w ∷ []) v x ≡ v x
miss w v x d = overlay_without (w ∷ []) v x (d, tt)

abbrev row_with : List ℕ → ℕ → Bool → Row
row_with b n z = record { page = record { bytes = b; count = n }; zero = z }

same_row : {a b : List ℕ} {m n : ℕ} {t u : Bool} → a ≡ b → m ≡ n → t ≡ u → row_with a m t ≡ row_with b n u
same_row p q r = λ i. row_with (p i) (q i) (r i)

-- a row is told by the page's own frame and its entry in the pot
row_told : (u v : Contents) (p : Address) → flags_at (u p.pot) p.entry ≡ flags_at (v p.pot) p.entry → count_at (u p.pot) p.entry ≡ count_at (v p.pot) p.entry
    → u p.page ≡ v p.page → row_of u p ≡ row_of v p
unfolding row_of page_of page_bytes
row_told u v p f c b = same_row (cc) c (ap is_zero f)

-- the row of another page, after a change of p's two frames that leaves the other entries of p's pot
module _ (v u : Contents) (p q : Address) (apart : PlacesApart p q)
    (flags : (k : ℕ) → p.entry ≢ k → flags_at (u p.pot) k ≡ flags_at (v p.pot) k) (counts : (k : ℕ) → p.entry ≢ k → count_at (u p.pot) k ≡ count_at (v p.pot) k)
    (else : (x : ℕ) → x ≢ p.pot → x ≢ p.page → u x ≡ v x) where
  other_row : row_of u q ≡ row_of v q
  other_row = go (ℕ_discrete q.pot p.pot)
    where
      page_is : u q.page ≡ v q.page
      page_is = else q.page (λ e. apart.pot_page (sym e)) (λ e. apart.pages (sym e))

      go : Dec (q.pot ≡ p.pot) → row_of u q ≡ row_of v q
      go (yes e) = row_told u v q (rw e (flags q.entry (apart.entries (sym e)))) (rw e (counts q.entry (apart.entries (sym e)))) page_is
      go (no d) =
          let pot_is : u q.pot ≡ v q.pot = else q.pot d (λ e. apart.page_pot (sym e)) in
          row_told u v q (ap (λ (l : List ℕ). flags_at l q.entry) pot_is) (ap (λ (l : List ℕ). count_at l q.entry) pot_is) page_is

-- of a frame that a call changes, where it is the pot of p
abbrev pub KeepsPot : Contents → Address → FrameBytes → Type 0
KeepsPot v p w = w.frame ≡ p.pot
    → (flags_at w.bytes p.entry / 2 ≡ flags_at (v p.pot) p.entry / 2) × ((i : ℕ) → (5 * p.entry ≤ i → i < 5 * p.entry + 5 → ⊥) → get_or w.bytes i 0 ≡ get_or (v p.pot) i 0)

module _ (v : Contents) (p : Address) (two : p.page ≢ p.pot) (long : length (v p.pot) ≡ 512) (in_pot : p.entry < 102) where
  abbrev pot : List ℕ
  pot = v p.pot

  abbrev flags : ℕ
  flags = flags_at pot p.entry

  abbrev count : ℕ
  count = count_at pot p.entry

  -- a change can be made
  abbrev pub CanMake : Change → Type 0
  CanMake (put at new) = Unit {0}
  CanMake empty = suc count < 4294967296

  -- ---- page and pot after a change

  abbrev cleared : List ℕ
  cleared = put_flags pot p.entry (clear_zero flags)

  abbrev pot_after : Change → List ℕ
  pot_after (put at new) = cond (flagged v p) cleared pot
  pot_after empty = rescind_pot pot p.entry

  abbrev page_after : Change → List ℕ
  page_after (put at new) = patch (page_bytes v p) at new
  page_after empty = v p.page

  abbrev pub after : Change → Contents
  after c = apply_changes (changed_frames c v p) v

  abbrev first : ℕ → List ℕ → FrameBytes
  first at new = record { frame = p.page; bytes = patch (page_bytes v p) at new }

  abbrev second : FrameBytes
  second = record { frame = p.pot; bytes = cleared }

  after_page : (c : Change) → after c p.page ≡ page_after c
  unfolding changed_frames write_frames apply_changes
  after_page (put at new) = by_test (λ (ws : List FrameBytes). apply_changes (first at new ∷ ws) v p.page ≡ patch (page_bytes v p) at new) (flagged v p)
      (λ e. miss second _ p.page two ∙ hit (first at new) v) (λ e. hit (first at new) v)
  after_page empty = miss _ v p.page two

  after_pot : (c : Change) → after c p.pot ≡ pot_after c
  unfolding changed_frames write_frames apply_changes
  after_pot (put at new) = go (flagged v p)
    where
      go : (t : Bool) → apply_changes (first at new ∷ cond t (second ∷ []) []) v p.pot ≡ cond t cleared pot
      go true = unfold apply_changes in (hit second _)
      go false = unfold apply_changes in (miss (first at new) v p.pot (λ e. two (sym e)))
  after_pot empty = hit _ v

  after_else : (c : Change) (x : ℕ) → x ≢ p.pot → x ≢ p.page → after c x ≡ v x
  unfolding changed_frames write_frames apply_changes
  after_else (put at new) x d e = by_test (λ (ws : List FrameBytes). apply_changes (first at new ∷ ws) v x ≡ v x) (flagged v p)
      (λ k. miss second _ x d ∙ miss (first at new) v x e) (λ k. miss (first at new) v x e)
  after_else empty x d e = miss _ v x d

  -- ---- the pot's entries after it: its own, and the others

  abbrev counted : List ℕ
  counted = put_count pot p.entry (suc count)

  counted_long : length counted ≡ 512
  counted_long = put_count-length pot p.entry long in_pot _

  zero_is : (c : Change) → is_zero (flags_at (pot_after c) p.entry) ≡ zero_after c
  unfolding zero_after rescind_pot
  zero_is (put at new) = by_test (λ (l : List ℕ). is_zero (flags_at l p.entry) ≡ false) (flagged v p)
      (λ e. ap is_zero (flags_same pot p.entry long in_pot (clear_zero flags)) ∙ clear_is flags) (λ e. e)
  zero_is empty = ap is_zero (flags_same counted p.entry counted_long in_pot (set_zero flags)) ∙ set_is flags

  count_is : (c : Change) → CanMake c → count_at (pot_after c) p.entry ≡ (changed c (page_of v p)).count
  unfolding rescind_pot changed page_of
  count_is (put at new) h = by_test (λ (l : List ℕ). count_at l p.entry ≡ count) (flagged v p) (λ e. flags_count pot p.entry long in_pot (clear_zero flags) p.entry) (λ e. refl)
  count_is empty h = flags_count counted p.entry counted_long in_pot (set_zero flags) p.entry ∙ count_same pot p.entry long in_pot _ h

  flags_stay : (c : Change) (k : ℕ) → p.entry ≢ k → flags_at (pot_after c) k ≡ flags_at pot k
  unfolding rescind_pot
  flags_stay (put at new) k d = by_test (λ (l : List ℕ). flags_at l k ≡ flags_at pot k) (flagged v p) (λ e. flags_other pot p.entry long in_pot (clear_zero flags) k d) (λ e. refl)
  flags_stay empty k d = flags_other counted p.entry counted_long in_pot (set_zero flags) k d ∙ count_flags pot p.entry long in_pot _ k

  count_stays : (c : Change) (k : ℕ) → p.entry ≢ k → count_at (pot_after c) k ≡ count_at pot k
  unfolding rescind_pot
  count_stays (put at new) k d = by_test (λ (l : List ℕ). count_at l k ≡ count_at pot k) (flagged v p) (λ e. flags_count pot p.entry long in_pot (clear_zero flags) k) (λ e. refl)
  count_stays empty k d = flags_count counted p.entry counted_long in_pot (set_zero flags) k ∙ count_other pot p.entry long in_pot _ k d

  pub change_keeps : (c : Change) → All (KeepsPot v p) (changed_frames c v p)
  unfolding changed_frames write_frames rescind_pot
  change_keeps (put at new) = ((λ e. absurd (two e)), by_test (All (KeepsPot v p)) (flagged v p) (λ q. (kept, tt)) (λ q. tt))
    where
      kept : KeepsPot v p (record { frame = p.pot; bytes = cleared })
      kept e = (ap (λ (n : ℕ). n / 2) (flags_same pot p.entry long in_pot (clear_zero flags)) ∙ clear_keeps flags, flags_outside pot p.entry long in_pot (clear_zero flags))
  change_keeps empty = (
    (λ e. (
      ap (λ (n : ℕ). n / 2) (flags_same counted p.entry counted_long in_pot (set_zero flags)) ∙ set_keeps flags,
      λ i out. flags_outside counted p.entry counted_long in_pot (set_zero flags) i out ∙ count_outside pot p.entry long in_pot _ i out,
    )),
    tt,
  )

  -- ---- rows after a change

  pub flag_after : (c : Change) → flagged (after c) p ≡ zero_after c
  flag_after c = ap (λ (l : List ℕ). is_zero (flags_at l p.entry)) (after_pot c) ∙ zero_is c

  -- what is shown: zeros where the flag is set afterwards
  shown : (c : Change) → cond (zero_after c) zeros (page_after c) ≡ (changed c (page_of v p)).bytes
  unfolding zero_after changed page_of
  shown (put at new) = refl
  shown empty = refl

  bytes_after : (c : Change) → page_bytes (after c) p ≡ (changed c (page_of v p)).bytes
  bytes_after c = seen ∙ shown c
    where
      seen : page_bytes (after c) p ≡ cond (zero_after c) zeros (page_after c)
      seen = unfold page_bytes in (rw (flag_after c, after_page c))

  pub own_row : (c : Change) → CanMake c → row_of (after c) p ≡ row_after c (row_of v p)
  unfolding row_of
  own_row c h = paged (bytes_after c) (ap (λ (l : List ℕ). count_at l p.entry) (after_pot c) ∙ count_is c h)
    where
      paged : page_bytes (after c) p ≡ (changed c (page_of v p)).bytes → count_at (after c p.pot) p.entry ≡ (changed c (page_of v p)).count → row_of (after c) p ≡ row_after c (row_of v p)
      paged e f = unfold row_of page_of in (same_row e f (flag_after c))

  pub other_rows : (c : Change) (q : Address) → PlacesApart p q → row_of (after c) q ≡ row_of v q
  other_rows c q a = other_row v (after c) p q a
      (λ k d. ap (λ (l : List ℕ). flags_at l k) (after_pot c) ∙ flags_stay c k d) (λ k d. ap (λ (l : List ℕ). count_at l k) (after_pot c) ∙ count_stays c k d) (after_else c)
