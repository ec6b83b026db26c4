-- What questions 3 to 8 come to, one after the other, as a card is read.
-- Assumes nothing.
use Prim.Native.Nat.{ℕ, ◌+◌, ◌*◌, ◌/◌, ◌%◌, ◌≤◌, ◌<◌}
use borrow.Author.Tests.{leb-true, eqb-true, le-leb, eq-eqb, ne_eqb}
use lib.Dec.{leb, eqb}
use lib.ListN.{length}
use mathlib.Core.Bool.{Bool, true, false, cond}
use mathlib.Core.List.{List, [], ◌∷◌}
use mathlib.Core.Logic.{◌≢◌}
use mathlib.Core.Path.{◌≡◌, sym, ◌∙◌}
use native.Mathlib.Omega.{arith}
use Rattle.std.specs.Prelude.{Err}
use Rattle.card.proofs.QuestionLaws.{none_asked, asked_yes, asked_no, group_yes, group_no, header_tells, commit_tells, trailer_tells, header_numbered}
use Rattle.card.proofs.RangeLaws.{geometry_tells}
use Rattle.card.proofs.Test.{both, joined}
use Rattle.card.specs.Block.{block_at, whole}
use Rattle.card.specs.Bytes.{tabulate}
use Rattle.card.specs.Checkpoint.{Recovered, HeaderPassed}
use Rattle.card.specs.Directory.{entries_of, read_dir}
use Rattle.card.specs.Header.{header_on}
use Rattle.card.specs.Question.{ask, first_no, header_asks, trailer_fits, entries_fit, committed_on, entries_on, generation_asks, card_asks}
use Rattle.card.specs.Refusal.{number}
use Rattle.card.specs.Ring.{dir_blocks}
use Rattle.card.specs.Trailer.{trailer_on}
use Rattle.card.specs.declared.directory.Directory.{Directory}
use Rattle.card.specs.declared.header.Header.{Header}
use Rattle.card.specs.declared.refusal.Refusal.{Refusal}
use Rattle.card.specs.declared.trailer.Trailer.{Trailer}

-- what question 3 tells
pub whole_tells : (low high n : ℕ) → whole low high n ≡ true → (n ≡ 512 * (n / 512)) × ((low ≤ n / 512) × (n / 512 ≤ high))
unfolding whole
whole_tells low high n e =
    let a = both (eqb (n % 512) 0) _ e in
    let b = both (leb low (n / 512)) _ a.1 in
    let z : n % 512 ≡ 0 = eqb-true _ _ a.0 in
    (omega arith, (leb-true _ _ b.0, leb-true _ _ b.1))

-- and what passes it
pub whole_is : (low high k n : ℕ) → n ≡ 512 * k → low ≤ k → k ≤ high → whole low high n ≡ true
unfolding whole
whole_is low high k n e l h =
    joined _ _ (eq-eqb (n % 512) 0 (omega arith)) (joined _ _ (le-leb low (n / 512) (omega arith)) (le-leb (n / 512) high (omega arith)))

-- a refusal by the first "no"
pub refusal_is : {c : List ℕ} (r : Refusal) → first_no (card_asks c) ≡ number r → Recovered c (Err r)
refusal_is r f = record { number = sym f; read = tt }

pub refuse_3 : (c : List ℕ) → whole 11 65536 (length c) ≡ false → first_no (card_asks c) ≡ 3
unfolding card_asks
refuse_3 c e = asked_no 3 (whole 11 65536 (length c)) _ e

-- 4 to 6
pub refuse_header : (c : List ℕ) (h : Header) (n : ℕ) → whole 11 65536 (length c) ≡ true → h ≡ header_on (block_at c 0) → n ≡ first_no (header_asks (length c / 512) h) → n ≢ 0
    → first_no (card_asks c) ≡ n
unfolding card_asks
refuse_header c h n w e f ne =
    asked_yes 3 (whole 11 65536 (length c)) _ w
    ∙ rw (← e) (group_no (header_asks (length c / 512) h) (generation_asks c) (λ z. ne (f ∙ z)) ∙ sym f)

module _ {c : List ℕ} {h : Header} (ok : HeaderPassed c h) where
  asked : first_no (card_asks c) ≡ first_no (generation_asks c)
  unfolding card_asks
  asked =
      asked_yes 3 (whole 11 65536 (length c)) _ ok.card_whole
      ∙ rw (← ok.header_is) (group_yes (header_asks (length c / 512) h) (generation_asks c) (header_numbered (length c / 512) h) ok.passed)

  pub passed_area : (h.area ≤ 512) × (512 * h.area + 512 ≤ length c)
  passed_area =
      let g = geometry_tells _ _ _ (header_tells (length c / 512) h ok.passed).geometry in
      let w = whole_tells 11 65536 (length c) ok.card_whole in
      (g.area_high, omega (arith, g.full, w.0))

  pub passed_trailer : 0 < h.commit → 512 * h.trailer + 512 ≤ length c
  passed_trailer k = omega (arith, passed_area.1, (commit_tells _ _ _ (header_tells (length c / 512) h ok.passed).commit k).1)

  -- with commit 0 there is no more to ask
  pub uncommitted_asked : h.commit ≡ 0 → first_no (card_asks c) ≡ 0
  unfolding generation_asks
  uncommitted_asked z = asked ∙ rw (← ok.header_is, z) none_asked

  pub uncommitted_is : h.commit ≡ 0 → committed_on c ≡ record { commit = 0; first = 1; pages = 0; entries = 0 }
  unfolding committed_on
  uncommitted_is z = rw (← ok.header_is, z)

  pub uncommitted_entries : h.commit ≡ 0 → entries_on c ≡ []
  unfolding entries_on read_dir tabulate
  uncommitted_entries z = rw (uncommitted_is z)

  module _ (some : 0 < h.commit) {t : Trailer} (t-is : t ≡ trailer_on (block_at c h.trailer)) where
    pub committed_is : committed_on c ≡ t
    unfolding committed_on
    committed_is = rw (← ok.header_is, ne_eqb h.commit 0 (omega arith), t-is)

    entries_are : entries_on c ≡ read_dir c h.area t.first t.pages t.entries
    unfolding entries_on
    entries_are = rw (← ok.header_is, committed_is)

    -- 7 and 8
    committed_asked : first_no (card_asks c)
        ≡ first_no (ask 7 (trailer_fits h t) ∷ ask 8 (entries_fit (length c / 512) h.area t.first t.pages h.area (read_dir c h.area t.first t.pages t.entries)) ∷ [])
    unfolding generation_asks
    committed_asked = asked ∙ rw (entries_are, ← ok.header_is, ne_eqb h.commit 0 (omega arith), committed_is)

    pub refuse_7 : trailer_fits h t ≡ false → first_no (card_asks c) ≡ 7
    refuse_7 e = committed_asked ∙ asked_no 7 (trailer_fits h t) _ e

    pub directory_bounds : trailer_fits h t ≡ true → (t.first ≤ h.area) × ((t.pages + dir_blocks t.entries ≤ h.area) × ((t.entries ≤ 256) × (t.pages ≤ 256)))
    directory_bounds q = omega (arith, trailer_tells h t q, passed_area.0)

    -- 8 is asked last
    pub last_asked : (b : Bool) → trailer_fits h t ≡ true → entries_fit (length c / 512) h.area t.first t.pages h.area (read_dir c h.area t.first t.pages t.entries) ≡ b
        → first_no (card_asks c) ≡ cond b 0 8
    unfolding first_no
    last_asked b q f = committed_asked ∙ rw (q, f)

    -- the directory that the trailer tells of, as code reads it
    pub directory_is : (d : Directory) → d.count ≡ t.entries → entries_of h.area t.first d.frames d.places t.entries ≡ read_dir c h.area t.first t.pages t.entries
        → entries_of h.area t.first d.frames d.places d.count ≡ entries_on c
    directory_is d count read = rw count (read ∙ sym entries_are)
