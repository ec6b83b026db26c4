-- Start accepts a card exactly where the card is recoverable.
-- Assumes nothing.
use Prim.Native.Nat.{ℕ, zero, suc, ◌+◌, ◌-◌, ◌*◌, ◌/◌, ◌≤◌, ◌<◌}
use borrow.Author.Tests.{eqb-true, lt-ltb, le-leb, eq-eqb, ne_eqb}
use lib.ListN.{length}
use mathlib.Core.Bool.{true}
use mathlib.Core.List.{List, [], ◌∷◌}
use mathlib.Core.Path.{◌≡◌, refl, sym, ◌∙◌}
use native.Mathlib.Nat.{add-zero}
use native.Mathlib.Omega.{arith}
use Rattle.card.proofs.AllLaws.{all_map}
use Rattle.card.proofs.BytesLaws.{tab_length}
use Rattle.card.proofs.CheckpointLaws.{whole_tells, whole_is}
use Rattle.card.proofs.QuestionLaws.{none_asked, asked_yes, passed_both, HeaderTells, entry_tells, trailer_tells, header_numbered, groups_passed, header_tells}
use Rattle.card.proofs.RangeLaws.{Geometry, geometry_tells}
use Rattle.card.proofs.RingLaws.{on_in, size_some}
use Rattle.card.proofs.Test.{both, joined}
use Rattle.card.specs.Block.{block_at, whole}
use Rattle.card.specs.Bytes.{tabulate, All}
use Rattle.card.specs.Directory.{read_dir}
use Rattle.card.specs.Header.{header_on}
use Rattle.card.specs.Question.{ask, first_no, header_ranges, commit_fits, header_asks, ends_at, trailer_fits, entry_fits, entries_fit, committed_on, entries_on, generation_asks, card_asks}
use Rattle.card.specs.Range.{Range}
use Rattle.card.specs.Ring.{dir_blocks, generation_size}
use Rattle.card.specs.Trailer.{trailer_on}
use Rattle.card.specs.declared.directory.Entry.{Entry}
use Rattle.recovery.proofs.Invariant.{Headed, Tail, Recoverable}
use Rattle.recovery.proofs.SizeLaws.{quiet_size, empty-size}
use Rattle.recovery.proofs.Sorted.{SortedGeneration, places_of, count_of, size_of, sorted_empty, trailer_at, sorted_committed_on, recovered}
use Rattle.recovery.specs.Book.{Needs}
use Rattle.recovery.specs.Contents.{Contents, overlay, stored_frames}
use Rattle.recovery.specs.Questions.{start_asks}
use Rattle.recovery.specs.Sound.{Rising, Home, Between}
use Rattle.recovery.specs.Step.{start_committed}

-- entries that lie where they may, by rising frame, pass question 8
pub entries_ok : (blocks area first p low : ℕ) (es : List Entry) → All (λ e. low < e.frame) es → All (Home area blocks) es → All (Between area first 0 p) es → Rising es
    → entries_fit blocks area first p low es ≡ true
unfolding entries_fit entry_fits
entries_ok blocks area first p low [] a h b r = refl
entries_ok blocks area first p low (e ∷ es) a h b r =
    joined (entry_fits blocks area first p low e) _
    (joined _ _ (lt-ltb _ _ a.0) (joined _ _ (lt-ltb _ _ h.0.1) (joined _ _ (le-leb _ _ b.0.0) (joined _ _ (le-leb _ _ b.0.1) (lt-ltb _ _ b.0.3)))))
    (entries_ok blocks area first p e.frame es r.0 h.1 b.1 r.1)

-- ---- a recoverable card is accepted

module _ {needed : Needs} (blocks area : ℕ) (ranges : List Range) (commit : ℕ) (g : SortedGeneration) (c : List ℕ) (kept : Contents) (k : Recoverable needed blocks area ranges commit g c kept) where
  trailer_in : Tail c area commit g → (1 ≤ trailer_at area g) × (trailer_at area g ≤ area)
  unfolding trailer_at
  trailer_in t = on_in area g.first k.low k.high (g.pages_down + dir_blocks (length g.dir)) (omega (arith, k.fits, quiet_size g k.quiet t.some_named))

  commit_ok : (m : ℕ) → commit ≡ m → commit_fits commit (header_on (block_at c 0)).trailer area ≡ true
  unfolding commit_fits
  commit_ok zero e = rw (eq-eqb commit 0 e) (eq-eqb _ 0 (k.unset e))
  commit_ok (suc m) e =
      let t = k.there (omega arith) in
      let inn = trailer_in t in
      rw (ne_eqb commit 0 (omega arith), t.place_is) (joined _ _ (le-leb _ _ inn.0) (le-leb _ _ inn.1))

  generation_ok : (m : ℕ) → commit ≡ m → first_no (generation_asks c) ≡ 0
  unfolding generation_asks committed_on entries_on trailer_fits ends_at trailer_at
  generation_ok zero e = rw (k.head.commit_is, eq-eqb commit 0 e) none_asked
  generation_ok (suc m) e =
      let t = k.there (omega arith) in
      let long : size_of g ≡ g.pages_down + dir_blocks (length g.dir) + 1 = quiet_size g k.quiet t.some_named in
      let size : generation_size g.pages_down (length g.dir) ≡ g.pages_down + dir_blocks (length g.dir) + 1 = size_some g.pages_down (length g.dir) t.some_named in
      let last : generation_size g.pages_down (length g.dir) - 1 ≡ g.pages_down + dir_blocks (length g.dir) = omega arith in
      let half : generation_size g.pages_down (length g.dir) ≤ area / 2 = omega (arith, k.half) in
      let blocks_is : length c / 512 ≡ blocks = omega (arith, k.whole) in
      rw (k.head.commit_is, ne_eqb commit 0 (omega arith), t.place_is, t.trailer_is, k.head.area_is, t.dir_is, last, blocks_is)
      (asked_yes 7 _ _ (joined _ _ (eq-eqb commit commit refl) (joined _ _ (le-leb _ _ k.low) (joined _ _ (le-leb _ _ k.high)
      (joined _ _ (le-leb _ _ t.some_named) (joined _ _ (le-leb _ _ k.few) (joined _ _ (le-leb _ _ half) (eq-eqb (trailer_at area g) (trailer_at area g) refl)))))))
      ∙ asked_yes 8 _ _ (entries_ok blocks area g.first g.pages_down area g.dir (all_map (Home area blocks) (λ e. area < e.frame) g.dir (λ e h. h.0) k.named) k.named k.inside k.rising)
      ∙ none_asked)

  pub start_accepts : (m : List ℕ) → whole 4 64 (length m) ≡ true → first_no (start_asks m c) ≡ 0
  unfolding start_asks card_asks header_asks
  start_accepts m memory =
      let blocks_is : length c / 512 ≡ blocks = omega (arith, k.whole) in
      asked_yes 1 _ _ memory
      ∙ asked_yes 3 _ _ (whole_is 11 65536 blocks (length c) k.whole k.many k.small)
      ∙ asked_yes 4 _ _ (eq-eqb _ 1 k.head.layout_is)
      ∙ asked_yes 5 _ _ (rw (blocks_is, k.head.area_is, k.head.ranges_is) k.geo)
      ∙ asked_yes 6 _ _ (rw (k.head.commit_is, k.head.area_is) (commit_ok commit refl))
      ∙ generation_ok commit refl

-- ---- an accepted card is recoverable

-- what question 8 tells
pub entries_told : (blocks area first p low : ℕ) (es : List Entry) → area ≤ low → entries_fit blocks area first p low es ≡ true
    → All (λ e. low < e.frame) es × (All (Home area blocks) es × (All (Between area first 0 p) es × Rising es))
unfolding entries_fit
entries_told blocks area first p low [] l e = (tt, (tt, (tt, tt)))
entries_told blocks area first p low (x ∷ xs) l e =
    let a = both (entry_fits blocks area first p low x) _ e in
    let t = entry_tells blocks area first p low x a.0 in
    let up : low < x.frame = t.above in
    let r = entries_told blocks area first p x.frame xs (omega arith) a.1 in (
      (up, all_map (λ y. x.frame < y.frame) (λ y. low < y.frame) xs (λ y h. omega arith) r.0),
      (((omega arith, t.home), r.1.0), (((t.least, t.most, omega arith, t.near), r.1.1.0), (r.0, r.1.1.1))),
    )

-- without a commit there is no trailer
unset_told : (trailer area : ℕ) → commit_fits 0 trailer area ≡ true → trailer ≡ 0
unfolding commit_fits
unset_told trailer area e = eqb-true trailer 0 e

module _ (m c : List ℕ) (ok : first_no (start_asks m c) ≡ 0) where
  -- what questions 1 and 3 to 6 tell
  pub record Told : Type 0 where
    pub memory : whole 4 64 (length m) ≡ true
    pub whole_card : length c ≡ 512 * (length c / 512)
    pub many : 11 ≤ length c / 512
    pub small : length c / 512 ≤ 65536
    pub head : HeaderTells (length c / 512) (header_on (block_at c 0))
    pub rest : first_no (generation_asks c) ≡ 0

  pub told : Told
  unfolding start_asks card_asks
  told =
      let h = header_on (block_at c 0) in
      let q = passed_both 0 (whole 4 64 (length m)) _ ok in
      let r = passed_both 2 (whole 11 65536 (length c)) _ q.1 in
      let w = whole_tells 11 65536 (length c) r.0 in
      let g = groups_passed (header_asks (length c / 512) h) (generation_asks c) (header_numbered (length c / 512) h) r.1 in
      record { memory = q.0; whole_card = w.0; many = w.1.0; small = w.1.1; head = header_tells (length c / 512) h g.0; rest = g.1 }

  abbrev Goal : Needs → SortedGeneration → Type 0
  Goal needed g = Recoverable needed (length c / 512) (header_on (block_at c 0)).area (header_ranges (header_on (block_at c 0))) (header_on (block_at c 0)).commit g c (overlay (stored_frames c g.dir) (block_at c))

  geometry : Geometry (length c / 512) (header_on (block_at c 0)).area (header_ranges (header_on (block_at c 0)))
  geometry = geometry_tells _ _ _ told.head.geometry

  headed : Headed c (header_on (block_at c 0)).commit (header_on (block_at c 0)).area (header_ranges (header_on (block_at c 0)))
  headed = record { layout_is = told.head.layout; commit_is = refl; area_is = refl; ranges_is = refl }

  unset_card : {needed : Needs} → (header_on (block_at c 0)).commit ≡ 0 → Goal needed (sorted_empty 1)
  unfolding count_of
  unset_card z = record {
    whole = told.whole_card;
    home = omega (arith, geometry.full);
    many = told.many;
    small = told.small;
    geo = told.head.geometry;
    low = omega arith;
    high = omega (arith, geometry.area_low);
    fits = omega (arith, empty-size 1);
    quiet = refl;
    inside = tt;
    named = tt;
    rising = tt;
    half = omega (arith, empty-size 1);
    few = omega arith;
    any = λ k. absurd (omega arith);
    head = headed;
    unset = λ e. unset_told _ (header_on (block_at c 0)).area (rw z at told.head.commit);
    fresh = λ e. refl;
    there = λ k. absurd (omega arith);
    view = λ f l k t. refl;
  }

  unset_is : (header_on (block_at c 0)).commit ≡ 0 → sorted_committed_on c ≡ sorted_empty 1
  unfolding sorted_committed_on start_committed committed_on entries_on read_dir tabulate
  unset_is z = rw z

  module _ (set : 0 < (header_on (block_at c 0)).commit) where
    trailer_read : committed_on c ≡ trailer_on (block_at c (header_on (block_at c 0)).trailer)
    unfolding committed_on
    trailer_read = rw (ne_eqb (header_on (block_at c 0)).commit 0 (omega arith))

    asked : (trailer_fits (header_on (block_at c 0)) (committed_on c) ≡ true)
        × (entries_fit (length c / 512) (header_on (block_at c 0)).area (committed_on c).first (committed_on c).pages (header_on (block_at c 0)).area (entries_on c) ≡ true)
    unfolding generation_asks
    asked =
        let rest : first_no (ask 7 (trailer_fits (header_on (block_at c 0)) (committed_on c))
        ∷ ask 8 (entries_fit (length c / 512) (header_on (block_at c 0)).area (committed_on c).first (committed_on c).pages (header_on (block_at c 0)).area (entries_on c)) ∷ []) ≡ 0 =
        rw (ne_eqb (header_on (block_at c 0)).commit 0 (omega arith)) at told.rest in
        let q7 = passed_both 6 _ _ rest in
        (q7.0, (passed_both 7 _ _ q7.1).0)

    long : length (entries_on c) ≡ (committed_on c).entries
    unfolding entries_on read_dir
    long = tab_length _ 0 (committed_on c).entries

    set_card : {needed : Needs} → Goal needed (sorted_committed_on c)
    unfolding sorted_committed_on start_committed count_of size_of places_of trailer_at
    set_card =
        let h = header_on (block_at c 0) in
        let t = committed_on c in
        let q = trailer_tells h t asked.0 in
        let es = entries_told (length c / 512) h.area t.first t.pages h.area (entries_on c) (omega arith) asked.1 in
        let full : size_of (sorted_committed_on c) ≡ t.pages + dir_blocks t.entries + 1 = rw (add-zero t.pages, add-zero (length (entries_on c)), long) (size_some t.pages t.entries q.some) in
        let spot : trailer_at h.area (sorted_committed_on c) ≡ h.trailer = rw long q.last in
        record {
          whole = told.whole_card;
          home = omega (arith, geometry.full);
          many = told.many;
          small = told.small;
          geo = told.head.geometry;
          low = q.first_low;
          high = q.first_high;
          fits = omega (arith, full, q.size);
          quiet = refl;
          inside = es.1.1.0;
          named = es.1.0;
          rising = es.1.1.1;
          half = omega (arith, full, q.size);
          few = omega (arith, long, q.few);
          any = λ k. omega (arith, long, q.some);
          head = headed;
          unset = λ z. absurd (omega arith);
          fresh = λ z. absurd (omega arith);
          there = λ k. record {
            some_named = omega (arith, long, q.some);
            place_is = sym spot;
            trailer_is = rw spot (sym trailer_read ∙ λ i. record { commit = q.commit i; first = t.first; pages = t.pages; entries = sym long i });
            dir_is = rw long (unfold entries_on in refl);
          };
          view = λ f l k t. refl;
        }

  pub accepted_card : {needed : Needs} → Recoverable needed (length c / 512) (header_on (block_at c 0)).area (header_ranges (header_on (block_at c 0))) (header_on (block_at c 0)).commit (sorted_committed_on c) c (recovered c)
  unfolding recovered
  accepted_card {needed} = go (header_on (block_at c 0)).commit refl
    where
      go : (n : ℕ) → (header_on (block_at c 0)).commit ≡ n → Goal needed (sorted_committed_on c)
      go zero e = rw (unset_is e) (unset_card e)
      go (suc n) e = set_card (omega arith)
