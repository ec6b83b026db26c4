-- What the code asks of a committed entry's frame, how many entries are passed over, and how many are to be copied.
-- Assumes nothing.
use Prim.Native.Nat.{ℕ, zero, suc, ◌+◌, ◌-◌, ◌≤◌, ◌<◌}
use lib.ListN.{length, get_or, take, drop, length-drop}
use lib.Seq.{drop-cons, get_or-take, get_or-drop}
use mathlib.Core.Bool.{Bool, true, false, cond, not}
use mathlib.Core.List.{List, [], ◌∷◌}
use mathlib.Core.Path.{◌≡◌, refl, ap, sym, ◌∙◌, subst}
use native.Mathlib.Nat.{zero-add, add-zero}
use native.Mathlib.Omega.{arith}
use Rattle.std.specs.Prelude.{Some, None, count_by}
use Rattle.std.proofs.lemmas.List.{length-take, get_or_default}
use Rattle.std.proofs.lemmas.List.Sums.{sum_by-cons}
use Rattle.card.proofs.BytesLaws.{tab_length, tab_get_d, none_long}
use Rattle.card.proofs.DirectoryLaws.{entries_length}
use Rattle.card.proofs.RangeLaws.{geometry_tells}
use Rattle.card.specs.Directory.{entry_in, entries_of}
use Rattle.card.specs.Pot.{flags_at, is_zero}
use Rattle.card.specs.Range.{range_in, ranges_of, all_blocks}
use Rattle.card.specs.declared.directory.Entry.{Entry}
use Rattle.card.specs.declared.range.Address.{Address}
use Rattle.frames.specs.Parts.{Readable, MigratingIs}
use Rattle.frames.specs.Promise.{lent, meaning_of, LoadsCommitted}
use Rattle.pages.proofs.NeededLaws.{At, at_tells, pot_needed, page_needed}
use Rattle.pages.specs.Needed.{frame_at}
use Rattle.pages.specs.Page.{flagged}
use Rattle.pages.specs.Promise.{committed_frames, over, passed_of, OverIs, PassedIs, MovesIs}
use Rattle.record.proofs.Held.{held, bounds}
use Rattle.record.specs.Holds.{holds_together}
use Rattle.record.specs.Meaning.{committed_of, phase_of}
use Rattle.record.specs.declared.store.Store.{Store}
use Rattle.recovery.proofs.SumLaws.{passed_within, passed_more, passed_early, passed_owed}
use Rattle.recovery.specs.Sums.{leading, moves_of, moves_left, passed_to}

not_not : (t : Bool) → t ≡ not (not t)
not_not true = refl
not_not false = refl

module _ (s : Store) (card : List ℕ) (w : Readable s card) where
  -- its geometry
  pub home_full : s.geometry.blocks ≡ 1 + s.geometry.area + all_blocks (ranges_of s.geometry.ranges s.geometry.count)
  home_full = (geometry_tells s.geometry.blocks s.geometry.area (ranges_of s.geometry.ranges s.geometry.count) (held s w.together).geometry).full

  pub home_searchable : (s.geometry.area ≤ 512) × (s.geometry.count ≤ 8)
  unfolding ranges_of
  home_searchable =
      let g = held s w.together in
      let few = (geometry_tells s.geometry.blocks s.geometry.area (ranges_of s.geometry.ranges s.geometry.count) g.geometry).few in
      ((bounds s g).area_high, rw (tab_length (range_in s.geometry.ranges) 0 s.geometry.count) at few)

  -- its committed entries fit their arrays
  pub committed_few : s.committed.count ≤ 256
  committed_few = (bounds s (held s w.together)).committed_small

  -- those that are home are some of them
  pub migrated_inside : s.migrated ≤ s.committed.count
  migrated_inside = (held s w.together).migrated_within

  module _ (f : ℕ) where
    -- a pot is not passed over
    pub over_none : frame_at (ranges_of s.geometry.ranges s.geometry.count) (1 + s.geometry.area) f ≡ None → OverIs s card f false
    over_none e = λ memory. sym (ap not (pot_needed (ranges_of s.geometry.ranges s.geometry.count) s.geometry.area s.geometry.blocks home_full (committed_frames (lent s memory card)) f e))

    module _ (p : Address) (e : frame_at (ranges_of s.geometry.ranges s.geometry.count) (1 + s.geometry.area) f ≡ Some p) where
      told : At (ranges_of s.geometry.ranges s.geometry.count) (1 + s.geometry.area) (1 + s.geometry.area + all_blocks (ranges_of s.geometry.ranges s.geometry.count)) f p
      told = at_tells (ranges_of s.geometry.ranges s.geometry.count) (1 + s.geometry.area) f p e

      pub pot_inside : p.pot < s.geometry.blocks
      pot_inside = omega (arith, told.pot_high, home_full)

      pub entry_inside : p.entry < 102
      entry_inside = told.entry_high

      -- a page is where its flag is set in the committed view of its pot
      pub over_some : (pot : List ℕ) → ((memory : List ℕ) → LoadsCommitted (lent s memory card) p.pot pot) → (r : Bool) → r ≡ is_zero (flags_at pot p.entry) → OverIs s card f r
      over_some pot is r q = λ memory. q ∙ ap (λ (x : List ℕ). is_zero (flags_at x p.entry)) (is memory) ∙ not_not (flagged (committed_frames (lent s memory card)) p)
          ∙ sym (ap not (page_needed (ranges_of s.geometry.ranges s.geometry.count) s.geometry.area s.geometry.blocks home_full (committed_frames (lent s memory card)) f p e))

-- ---- how many are passed over

add_suc : (a b : ℕ) → a + suc b ≡ suc a + b
add_suc a b = omega arith

-- the i-th entry on are still to be looked at
abbrev pub PassedFrom : Store → List ℕ → ℕ → Type 0
PassedFrom s card i = (memory : List ℕ) → passed_of (lent s memory card) ≡ i + leading (over (lent s memory card)) (drop i (committed_of s).entries)

-- none is passed over before advance has come to migration
pub passed_start : (s : Store) (card : List ℕ) (t : Bool) → MigratingIs s t → t ≡ true → PassedFrom s card s.migrated
unfolding passed_of passed_to
passed_start s card t is e = λ memory.
    ap (λ (x : Bool). s.migrated + cond x (leading (over (lent s memory card)) (drop s.migrated (committed_of s).entries)) 0) (sym (is memory) ∙ e)

pub passed_none : (s : Store) (card : List ℕ) (t : Bool) → MigratingIs s t → t ≡ false → PassedIs s card s.migrated
unfolding passed_of
passed_none s card t is e = λ memory. sym (passed_early (over (lent s memory card)) (meaning_of (lent s memory card)) (sym (is memory) ∙ e))

module _ (s : Store) (card : List ℕ) where
  entries_long : length (committed_of s).entries ≡ s.committed.count
  entries_long = entries_length s.geometry.area s.first s.committed.frames s.committed.places s.committed.count

  none : Entry
  none = record { frame = 0; block = 0 }

  module _ (i : ℕ) (more : i < s.committed.count) where
    -- its frame
    frame_is : (get_or (committed_of s).entries i none).frame ≡ get_or s.committed.frames i 0
    unfolding entries_of
    frame_is = rw (tab_get_d (entry_in s.geometry.area s.first s.committed.frames s.committed.places) 0 s.committed.count i none more, zero-add i) refl

    next_is : drop i (committed_of s).entries ≡ get_or (committed_of s).entries i none ∷ drop (suc i) (committed_of s).entries
    next_is = drop-cons (committed_of s).entries i none (omega (arith, more, entries_long))

    pub frame_home : holds_together s ≡ true → (s.geometry.area < get_or s.committed.frames i 0) × (get_or s.committed.frames i 0 < s.geometry.blocks)
    frame_home q = (held s q).committed.home i more

    leads : (o : ℕ → Bool) (t : Bool) → t ≡ o (get_or s.committed.frames i 0)
        → leading o (drop i (committed_of s).entries) ≡ cond t (suc (leading o (drop (suc i) (committed_of s).entries))) 0
    unfolding leading
    leads o t e = rw (next_is, frame_is, ← e) refl

    pub passed_stop : (f : ℕ) → f ≡ get_or s.committed.frames i 0 → (r : Bool) → OverIs s card f r → r ≡ false → PassedFrom s card i → PassedIs s card i
    passed_stop f e r o z p = λ memory. sym (p memory ∙ ap (λ (n : ℕ). i + n) (leads (over (lent s memory card)) false (sym z ∙ o memory ∙ ap (over (lent s memory card)) e)) ∙ omega arith)

    pub passed_next : (f : ℕ) → f ≡ get_or s.committed.frames i 0 → (r : Bool) → OverIs s card f r → r ≡ true → PassedFrom s card i → PassedFrom s card (i + 1)
    passed_next f e r o z p = λ memory.
        let one : suc i ≡ i + 1 = omega arith in
        p memory ∙ ap (λ (n : ℕ). i + n) (leads (over (lent s memory card)) true (sym z ∙ o memory ∙ ap (over (lent s memory card)) e))
        ∙ add_suc i (leading (over (lent s memory card)) (drop (suc i) (committed_of s).entries))
        ∙ ap (λ (k : ℕ). k + leading (over (lent s memory card)) (drop k (committed_of s).entries)) one

  pub passed_end : (i : ℕ) → s.committed.count ≤ i → PassedFrom s card i → PassedIs s card i
  unfolding leading
  passed_end i h p = λ memory. sym (p memory ∙ ap (λ (l : List Entry). i + leading (over (lent s memory card)) l) ends ∙ omega arith)
    where
      ends : drop i (committed_of s).entries ≡ []
      ends = none_long (drop i (committed_of s).entries) (omega (arith, length-drop i (committed_of s).entries, entries_long, h))

  -- no entry that is home comes back
  pub passed_low : (i : ℕ) (memory : List ℕ) → PassedIs s card i → s.migrated ≤ i
  unfolding passed_of
  passed_low i memory p = omega (arith, p memory, passed_more (over (lent s memory card)) (meaning_of (lent s memory card)))

  -- none is passed over while a flush is owed
  pub passed_due : (i : ℕ) (memory : List ℕ) → s.phase ≡ 2 → PassedIs s card i → i ≡ s.migrated
  unfolding passed_of phase_of
  passed_due i memory o p = p memory ∙ passed_owed (over (lent s memory card)) (meaning_of (lent s memory card)) (rw o refl)

  -- it is no more than there are
  pub passed_few : (i : ℕ) (memory : List ℕ) → holds_together s ≡ true → PassedIs s card i → i ≤ s.committed.count
  unfolding passed_of
  passed_few i memory q p = omega (arith, p memory, passed_within (over (lent s memory card)) (meaning_of (lent s memory card)) (omega (arith, entries_long, (held s q).migrated_within)), entries_long)

-- ---- how many are to be copied

-- the frames of the entries that are not home
abbrev pub rest_frames : Store → List ℕ
rest_frames s = take (s.committed.count - s.migrated) (drop s.migrated s.committed.frames)

module _ (s : Store) (card : List ℕ) (w : Readable s card) (long : length s.committed.frames ≡ 256) where
  -- each is a home frame
  module _ (x k : ℕ) (more : k < length (rest_frames s)) (is : x ≡ get_or (rest_frames s) k x) where
    low : k < s.committed.count - s.migrated
    low = omega (arith, more, length-take (s.committed.count - s.migrated) (drop s.migrated s.committed.frames))

    rest_is : x ≡ get_or s.committed.frames (s.migrated + k) 0
    rest_is =
        is ∙ get_or-take _ (drop s.migrated s.committed.frames) k x low ∙ get_or-drop s.migrated s.committed.frames k x
        ∙ get_or_default s.committed.frames (s.migrated + k) x 0 (omega (arith, low, long, committed_few s card w))

    rest_home : (s.geometry.area < get_or s.committed.frames (s.migrated + k) 0) × (get_or s.committed.frames (s.migrated + k) 0 < s.geometry.blocks)
    rest_home = frame_home s card (s.migrated + k) (omega (arith, low)) w.together

    pub rest_low : s.geometry.area < x
    rest_low = rw rest_is rest_home.0

    pub rest_high : x < s.geometry.blocks
    rest_high = rw rest_is rest_home.1

  -- of the entries from the i-th on those that are not passed over are to be copied
  counts : (o : ℕ → Bool) (n i : ℕ) → i + n ≡ s.committed.count → moves_of o (drop i (committed_of s).entries) ≡ count_by (λ (f : ℕ). not (o f)) (take n (drop i s.committed.frames))
  unfolding moves_of
  counts o zero i e = rw (none_long (drop i (committed_of s).entries) (omega (arith, length-drop i (committed_of s).entries, entries_long s card, e)))
  counts o (suc n) i e =
      let more : i < s.committed.count = omega (arith, e) in
      let x = get_or s.committed.frames i 0 in
      let one = sum_by-cons (λ (f : ℕ). cond (not (o f)) 1 0) x (take n (drop (suc i) s.committed.frames)) in
      rw (next_is s card i more, frame_is s card i more, drop-cons s.committed.frames i 0 (omega (arith, more, long, committed_few s card w)))
      (go (o x) (counts o n (suc i) (omega (arith, e))) ∙ sym one)
    where
      go : (t : Bool) → {a b : ℕ} → a ≡ b → cond t a (suc a) ≡ cond (not t) 1 0 + b
      go true e = omega (arith, e)
      go false e = omega (arith, e)

  pub moves_counted : (n : ℕ) → ((memory : List ℕ) → n ≡ count_by (λ (f : ℕ). not (over (lent s memory card) f)) (rest_frames s)) → MovesIs s card n
  unfolding moves_left
  moves_counted n e = λ memory any. e memory ∙ sym (counts (over (lent s memory card)) (s.committed.count - s.migrated) s.migrated (omega (arith, migrated_inside s card w)))

-- ---- the same, entry by entry

-- n are counted, and the i-th entry on are still to be looked at
abbrev pub MovesFrom : Store → List ℕ → ℕ → ℕ → Type 0
MovesFrom s card n i = (memory : List ℕ) → moves_left (over (lent s memory card)) (meaning_of (lent s memory card)) ≡ n + moves_of (over (lent s memory card)) (drop i (committed_of s).entries)

pub moves_start : (s : Store) (card : List ℕ) → MovesFrom s card 0 s.migrated
unfolding moves_left
moves_start s card = λ memory. sym (zero-add (moves_of (over (lent s memory card)) (drop s.migrated (committed_of s).entries)))

module _ (s : Store) (card : List ℕ) where
  module _ (i : ℕ) (more : i < s.committed.count) where
    this_counts : (o : ℕ → Bool) → moves_of o (drop i (committed_of s).entries) ≡ cond (o (get_or s.committed.frames i 0)) 0 1 + moves_of o (drop (i + 1) (committed_of s).entries)
    unfolding moves_of
    this_counts o = rw (next_is s card i more, frame_is s card i more) (go (o (get_or s.committed.frames i 0)) (let one : suc i ≡ i + 1 = omega arith in ap (λ (k : ℕ). moves_of o (drop k (committed_of s).entries)) one))
      where
        go : (t : Bool) → {x y : ℕ} → x ≡ y → cond t x (suc x) ≡ cond t 0 1 + y
        go true e = e ∙ omega arith
        go false e = omega (arith, e)

    -- one that is passed over is not counted, any other is
    moves_by : (n f : ℕ) → f ≡ get_or s.committed.frames i 0 → (r : Bool) → OverIs s card f r → (k : ℕ) → k ≡ cond r 0 1 → MovesFrom s card n i → MovesFrom s card (n + k) (i + 1)
    moves_by n f e r q k is p = λ memory.
        let o = over (lent s memory card) in
        let k-is : k ≡ cond (o (get_or s.committed.frames i 0)) 0 1 = is ∙ ap (λ (t : Bool). cond t 0 1) (q memory ∙ ap o e) in
        omega (arith, p memory, this_counts o, k-is)

    pub moves_over : (n f : ℕ) → f ≡ get_or s.committed.frames i 0 → (r : Bool) → OverIs s card f r → r ≡ true → MovesFrom s card n i → MovesFrom s card n (i + 1)
    moves_over n f e r q t p = subst (λ (m : ℕ). MovesFrom s card m (i + 1)) (add-zero n) (moves_by n f e r q 0 (sym (ap (λ (x : Bool). cond x 0 1) t)) p)

    pub moves_one : (n f : ℕ) → f ≡ get_or s.committed.frames i 0 → (r : Bool) → OverIs s card f r → r ≡ false → MovesFrom s card n i → MovesFrom s card (n + 1) (i + 1)
    moves_one n f e r q t p = moves_by n f e r q 1 (sym (ap (λ (x : Bool). cond x 0 1) t)) p

  pub moves_end : (n i : ℕ) → s.committed.count ≤ i → MovesFrom s card n i → MovesIs s card n
  unfolding moves_of
  moves_end n i h p = λ memory any. sym (p memory ∙ ap (λ (l : List Entry). n + moves_of (over (lent s memory card)) l) ends ∙ omega arith)
    where
      ends : drop i (committed_of s).entries ≡ []
      ends = none_long (drop i (committed_of s).entries) (omega (arith, length-drop i (committed_of s).entries, entries_long s card, h))
