-- A list of changes of pages: the frames behind it are whole home frames, they touch what the rows say, and the rows and pages after it are the tables'.
-- Assumes nothing.
use Prim.Native.Nat.{ℕ, suc, ◌+◌, ◌≤◌, ◌<◌}
use borrow.Author.Tests.{eq-eqb, ne_eqb}
use lib.Dec.{eqb}
use lib.ListN.{length}
use mathlib.Core.Bool.{Bool, true, false, cond, not}
use mathlib.Core.List.{List, [], ◌∷◌, ◌++◌, append-nil}
use mathlib.Core.Logic.{◌≢◌, ◌⊎◌, inl, inr, ⊎_elim}
use mathlib.Core.Path.{◌≡◌, refl, ap, sym, ◌∙◌}
use native.Mathlib.Decide.{ℕ_discrete}
use native.Mathlib.Omega.{arith}
use Rattle.card.proofs.AddressLaws.{Within, lies, places-apart}
use Rattle.card.proofs.AllLaws.{all_join, all_left, all_right}
use Rattle.card.proofs.BytesLaws.{patch-length, zeros-length}
use Rattle.card.proofs.PotLaws.{put_flags-length, put_count-length}
use Rattle.card.proofs.Test.{by_test}
use Rattle.card.specs.Bytes.{patch, zeros, All}
use Rattle.card.specs.Range.{Range, locate, all_blocks, Lookup, Located}
use Rattle.card.specs.declared.range.Address.{Address}
use Rattle.pages.proofs.BlankLaws.{blank_frames}
use Rattle.pages.proofs.NeededLaws.{page_at, oid_needed, change_brings}
use Rattle.pages.proofs.RowLaws.{CanMake, after, own_row, other_rows}
use Rattle.pages.specs.Change.{Change, put, empty, Edit, edit, update, changed, applied, write_frames, rescind_pot, changed_frames, at_place, edit_frames}
use Rattle.pages.specs.Needed.{needed}
use Rattle.pages.specs.Page.{Page, flagged, page_bytes, page_of}
use Rattle.pages.specs.Plain.{Row, row_of, touched, touches, row_after, row_changed, rows_after, edit_touches}
use Rattle.recovery.proofs.Calls.{apply_changes_same}
use Rattle.recovery.proofs.ContentsLaws.{overlay_hides}
use Rattle.recovery.specs.Book.{apply_changes, WholeFrame, Brings}
use Rattle.recovery.specs.Contents.{Contents, FrameBytes, overlay}

-- ---- lists of changed frames

changes_join : (ws us : List FrameBytes) (v : Contents) → apply_changes (ws ++ us) v ≡ apply_changes us (apply_changes ws v)
unfolding apply_changes
changes_join [] us v = refl
changes_join (w ∷ ws) us v = changes_join ws us (overlay (w ∷ []) v)

-- a list of frames hides one, or has not got it
changes_cases : (ws : List FrameBytes) (f : ℕ) → All (λ (w : FrameBytes). f ≢ w.frame) ws ⊎ ((u v : Contents) → apply_changes ws u f ≡ apply_changes ws v f)
unfolding apply_changes
changes_cases [] f = inl tt
changes_cases (w ∷ ws) f = go (ℕ_discrete f w.frame) (changes_cases ws f)
  where
    go : Dec (f ≡ w.frame) → All (λ (x : FrameBytes). f ≢ x.frame) ws ⊎ ((u v : Contents) → apply_changes ws u f ≡ apply_changes ws v f)
        → All (λ (x : FrameBytes). f ≢ x.frame) (w ∷ ws) ⊎ ((u v : Contents) → apply_changes ws (overlay (w ∷ []) u) f ≡ apply_changes ws (overlay (w ∷ []) v) f)
    go (yes e) r = inr (λ u v. apply_changes_same ws _ _ f (overlay_hides (w ∷ []) u v f (λ n. n.0 e)))
    go (no d) (inl k) = inl (d, k)
    go (no d) (inr k) = inr (λ u v. k (overlay (w ∷ []) u) (overlay (w ∷ []) v))

blank_join : (ws us : List FrameBytes) → blank_frames (ws ++ us) ≡ blank_frames ws ++ blank_frames us
unfolding blank_frames
blank_join [] us = refl
blank_join (w ∷ ws) us = ap (λ (l : List FrameBytes). touched w.frame ∷ l) (blank_join ws us)

-- a list of one change, of an OID with a place
module _ (place : ℕ → Lookup) (o : ℕ) (p : Address) (at_p : place o ≡ Located p) (c : Change) where
  pub frames_one : (v : Contents) → edit_frames place (edit o c ∷ []) v ≡ changed_frames c v p
  unfolding edit_frames at_place
  frames_one v = rw at_p (append-nil _)

  pub touches_one : (rows : ℕ → Row) → edit_touches place (edit o c ∷ []) rows ≡ touches c (rows o) p
  unfolding edit_touches at_place
  touches_one rows = rw at_p (append-nil _)

-- the pages of the rows after it are the table's
pub pages_after : (es : List Edit) (rows : ℕ → Row) (u : ℕ) → (rows_after es rows u).page ≡ applied es (λ o. (rows o).page) u
unfolding rows_after applied
pages_after [] rows u = refl
pages_after (e ∷ es) rows u = pages_after es (row_changed e rows) u ∙ ap (λ (t : ℕ → Page). applied es t u) (λ i o. one o i)
  where
    one : (o : ℕ) → (row_changed e rows o).page ≡ update e.oid (changed e.change (rows e.oid).page) (λ x. (rows x).page) o
    one o = unfold update in (go (eqb o e.oid))
      where
        go : (t : Bool) → (cond t (row_after e.change (rows e.oid)) (rows o)).page ≡ cond t (changed e.change (rows e.oid).page) (rows o).page
        go true = refl
        go false = refl

-- ---- the pages of a card

-- the place of an OID by ranges and area
abbrev pub place_on : List Range → ℕ → ℕ → Lookup
place_on rs area o = locate rs (1 + area) o

module _ (rs : List Range) (blocks area : ℕ) (full : blocks ≡ 1 + area + all_blocks rs) where
  -- what the frames show of each OID's page is as the table has it
  abbrev pub AsTable : {A : Type 0} → (Contents → Address → A) → Contents → (ℕ → A) → Type 0
  AsTable of v t = (oid : ℕ) (p : Address) → place_on rs area oid ≡ Located p → of v p ≡ t oid

  -- the frames show each OID's page, with its flag, as the rows have it
  abbrev pub SameRows : Contents → (ℕ → Row) → Type 0
  SameRows v rows = AsTable row_of v rows

  -- every home frame has a block of bytes
  abbrev pub Long : Contents → Type 0
  Long v = (f : ℕ) → area < f → f < blocks → length (v f) ≡ 512

  pub in_p : (o : ℕ) (p : Address) → place_on rs area o ≡ Located p → Within (1 + area) blocks p
  in_p o p at_p = rw full (lies rs (1 + area) o p at_p)

  pub changes_long : (ws : List FrameBytes) (v : Contents) → All (WholeFrame area blocks) ws → Long v → Long (apply_changes ws v)
  unfolding apply_changes overlay
  changes_long [] v a l = l
  changes_long (w ∷ ws) v a l = changes_long ws (overlay (w ∷ []) v) a.1
      (λ f m h. by_test (λ (x : List ℕ). length x ≡ 512) (eqb f w.frame) (λ e. a.0.0) (λ e. l f m h))

  -- ---- two contents that agree on what is needed

  abbrev pub Alike : Contents → Contents → Type 0
  Alike u v = (f : ℕ) → area < f → f < blocks → needed rs area v f ≡ true → u f ≡ v f

  -- the pot, and the page's own frame where the flag is clear
  both_alike : (u v : Contents) → Alike u v → (o : ℕ) (p : Address) → place_on rs area o ≡ Located p → (u p.pot ≡ v p.pot) × (flagged v p ≡ false → u p.page ≡ v p.page)
  both_alike u v h o p at_p =
      let inside = in_p o p at_p in
      let needs = oid_needed rs area blocks full v o p at_p in
      (h p.pot (omega (arith, inside)) (omega (arith, inside)) needs.1, λ z. h p.page (omega (arith, inside)) (omega (arith, inside)) (needs.0 ∙ ap not z))

  bytes_alike : (u v : Contents) (p : Address) → (u p.pot ≡ v p.pot) × (flagged v p ≡ false → u p.page ≡ v p.page) → page_bytes u p ≡ page_bytes v p
  unfolding page_bytes
  bytes_alike u v p e = rw e.0 (go (flagged v p) e.1)
    where
      go : (t : Bool) → (t ≡ false → u p.page ≡ v p.page) → cond t zeros (u p.page) ≡ cond t zeros (v p.page)
      go true h = refl
      go false h = h refl

  pub page_alike : (u v : Contents) → Alike u v → (o : ℕ) (p : Address) → place_on rs area o ≡ Located p → page_of u p ≡ page_of v p
  unfolding page_of
  page_alike u v h o p at_p = let e = both_alike u v h o p at_p in rw (bytes_alike u v p e, e.0)

  change_alike : (c : Change) (u v : Contents) (p : Address) → (u p.pot ≡ v p.pot) × (flagged v p ≡ false → u p.page ≡ v p.page) → changed_frames c u p ≡ changed_frames c v p
  unfolding changed_frames write_frames
  change_alike (put at new) u v p e = rw (bytes_alike u v p e, e.0)
  change_alike empty u v p e = rw e.0

  -- a change keeps it that hands down what it makes needed
  changes_alike : (ws : List FrameBytes) (u v : Contents) → Brings (needed rs area) area blocks ws v → Alike u v → Alike (apply_changes ws u) (apply_changes ws v)
  changes_alike ws u v b h f low high t = ⊎_elim (λ k. apply_changes_same ws u v f (h f low high (b f low high k t))) (λ same. same u v) (changes_cases ws f)

  -- ---- changes that can be made

  -- of a row
  abbrev pub CanChange : Change → Row → Type 0
  CanChange (put at new) r = at + length new ≤ 512
  CanChange empty r = suc r.page.count < 4294967296

  -- each of a list, of an OID with a place, on the rows that the one before left
  abbrev pub CanAll : List Edit → (ℕ → Row) → Type 0
  CanAll [] rows = Unit {0}
  CanAll (e ∷ es) rows = ((p : Address) × (place_on rs area e.oid ≡ Located p)) × CanChange e.change (rows e.oid) × CanAll es (row_changed e rows)

  -- ---- one change

  module _ (v : Contents) (rows : ℕ → Row) (same : SameRows v rows) (long : Long v) (o : ℕ) (p : Address) (at_p : place_on rs area o ≡ Located p) where
    inside : Within (1 + area) blocks p
    inside = in_p o p at_p

    pot_long : length (v p.pot) ≡ 512
    pot_long = long p.pot (omega (arith, inside)) (omega (arith, inside))

    two : p.page ≢ p.pot
    two = omega (arith, inside)

    change_whole : (c : Change) → CanChange c (rows o) → All (WholeFrame area blocks) (changed_frames c v p)
    unfolding changed_frames write_frames rescind_pot
    change_whole (put at new) h = (
      (patch-length (page_bytes v p) at new (omega (arith, bytes_long)) ∙ bytes_long, omega (arith, inside), omega (arith, inside)),
      by_test (All (WholeFrame area blocks)) (flagged v p) (λ e. ((put_flags-length (v p.pot) p.entry pot_long inside.entry_high _, omega (arith, inside), omega (arith, inside)), tt)) (λ e. tt),
    )
      where
        page_long : length (v p.page) ≡ 512
        page_long = long p.page (omega (arith, inside)) (omega (arith, inside))

        bytes_long : length (page_bytes v p) ≡ 512
        bytes_long = unfold page_bytes in (by_test (λ (l : List ℕ). length l ≡ 512) (flagged v p) (λ e. zeros-length) (λ e. page_long))
    change_whole empty h = (
      (put_flags-length _ p.entry (put_count-length (v p.pot) p.entry pot_long inside.entry_high _) inside.entry_high _, omega (arith, inside), omega (arith, inside)),
      tt,
    )

    changed_brings : (c : Change) → Brings (needed rs area) area blocks (changed_frames c v p) v
    changed_brings c = change_brings rs area blocks full v p (page_at rs (1 + area) o p at_p) two pot_long inside.entry_high c

    change_touches : (c : Change) → blank_frames (changed_frames c v p) ≡ touches c (rows o) p
    unfolding changed_frames write_frames touches blank_frames
    change_touches (put at new) = rw (← zero_same) (go p.page p.pot (patch (page_bytes v p) at new) _ (flagged v p))
      where
        zero_same : flagged v p ≡ (rows o).zero
        zero_same = unfold row_of in (ap (λ (r : Row). r.zero) (same o p at_p))

        go : (f g : ℕ) (x y : List ℕ) (t : Bool) → blank_frames (record { frame = f; bytes = x } ∷ cond t (record { frame = g; bytes = y } ∷ []) []) ≡ touched f ∷ cond t (touched g ∷ []) []
        go f g x y true = unfold blank_frames in refl
        go f g x y false = unfold blank_frames in refl
    change_touches empty = refl

    can_make : (c : Change) → CanChange c (rows o) → CanMake v p two pot_long inside.entry_high c
    can_make (put at new) h = tt
    can_make empty h = unfold row_of page_of in (omega (arith, h, ap (λ (r : Row). r.page.count) (same o p at_p)))

    rows_after_lem : (c : Change) → CanChange c (rows o) → SameRows (apply_changes (changed_frames c v p) v) (row_changed (edit o c) rows)
    unfolding update
    rows_after_lem c h u q at-q = go (ℕ_discrete u o)
      where
        go : Dec (u ≡ o) → row_of (after v p two pot_long inside.entry_high c) q ≡ cond (eqb u o) (row_after c (rows o)) (rows u)
        go (yes d) =
            let q-is : q ≡ p = cc in
            rw (eq-eqb u o d, q-is) (own_row v p two pot_long inside.entry_high c (can_make c h) ∙ ap (row_after c) (same o p at_p))
        go (no d) = rw (ne_eqb u o d) (other_rows v p two pot_long inside.entry_high c q (places-apart rs (1 + area) o u p q (λ k. d (sym k)) at_p at-q) ∙ same u q at-q)

  -- ---- a list of changes

  pub record Made (es : List Edit) (v : Contents) (rows : ℕ → Row) : Type 0 where
    pub rows_are : SameRows (apply_changes (edit_frames (place_on rs area) es v) v) (rows_after es rows)
    pub whole : All (WholeFrame area blocks) (edit_frames (place_on rs area) es v)
    pub brings : Brings (needed rs area) area blocks (edit_frames (place_on rs area) es v) v
    pub alike : (u : Contents) → Alike u v → edit_frames (place_on rs area) es u ≡ edit_frames (place_on rs area) es v
    pub touches_are : blank_frames (edit_frames (place_on rs area) es v) ≡ edit_touches (place_on rs area) es rows

  none_made : (v : Contents) (rows : ℕ → Row) → SameRows v rows → Made [] v rows
  unfolding edit_frames rows_after edit_touches blank_frames apply_changes
  none_made v rows same = record { rows_are = same; whole = tt; brings = λ f l h k t. t; alike = λ u h. refl; touches_are = refl }

  module _ (e : Edit) (es : List Edit) (v : Contents) (rows : ℕ → Row) (p : Address) (at_p : place_on rs area e.oid ≡ Located p) where
    abbrev ws : List FrameBytes
    ws = changed_frames e.change v p

    pub frames_more : (u : Contents) → edit_frames (place_on rs area) (e ∷ es) u ≡ changed_frames e.change u p ++ edit_frames (place_on rs area) es (apply_changes (changed_frames e.change u p) u)
    unfolding edit_frames at_place
    frames_more u = rw at_p

    touches_more : edit_touches (place_on rs area) (e ∷ es) rows ≡ touches e.change (rows e.oid) p ++ edit_touches (place_on rs area) es (row_changed e rows)
    unfolding edit_touches at_place
    touches_more = rw at_p

    more_made : SameRows v rows → Long v → CanChange e.change (rows e.oid) → Made es (apply_changes ws v) (row_changed e rows) → Made (e ∷ es) v rows
    unfolding rows_after
    more_made same long can m = record {
      rows_are = rw (frames_more v, changes_join ws (edit_frames (place_on rs area) es (apply_changes ws v)) v) m.rows_are;
      whole = rw (frames_more v) (all_join (WholeFrame area blocks) ws _ (change_whole v rows same long e.oid p at_p e.change can) m.whole);
      brings = rw (frames_more v) (λ f low high without t. brings f low high (all_left _ ws _ without)
          (m.brings f low high (all_right _ ws _ without) (rw (changes_join ws (edit_frames (place_on rs area) es (apply_changes ws v)) v) at t)));
      alike = λ u h. frames_more u ∙ alike_more u h ∙ sym (frames_more v);
      touches_are = ap blank_frames (frames_more v) ∙ blank_join ws _ ∙ rw (change_touches v rows same long e.oid p at_p e.change, m.touches_are) (sym touches_more);
    }
      where
        brings : Brings (needed rs area) area blocks ws v
        brings = changed_brings v rows same long e.oid p at_p e.change

        alike_more : (u : Contents) → Alike u v
            → changed_frames e.change u p ++ edit_frames (place_on rs area) es (apply_changes (changed_frames e.change u p) u) ≡ ws ++ edit_frames (place_on rs area) es (apply_changes ws v)
        alike_more u h = rw (change_alike e.change u v p (both_alike u v h e.oid p at_p))
            (ap (λ (l : List FrameBytes). ws ++ l) (m.alike (apply_changes ws u) (changes_alike ws u v brings h)))

  pub edits_made : (es : List Edit) (v : Contents) (rows : ℕ → Row) → SameRows v rows → Long v → CanAll es rows → Made es v rows
  edits_made [] v rows same long can = none_made v rows same
  edits_made (e ∷ es) v rows same long can =
      let p = can.0.0 in
      let at_p = can.0.1 in
      let frames = changed_frames e.change v p in
      more_made e es v rows p at_p same long can.1
      (edits_made es (apply_changes frames v) (row_changed e rows) (rows_after_lem v rows same long e.oid p at_p e.change can.1)
      (changes_long frames v (change_whole v rows same long e.oid p at_p e.change can.1) long) can.2)
