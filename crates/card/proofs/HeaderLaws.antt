-- The header: its length, how it is put, and that it is read back.
-- Assumes nothing.
use Prim.Native.Nat.{ℕ, zero, suc, ◌+◌, ◌*◌, ◌/◌, ◌%◌, ◌≤◌, ◌<◌}
use lib.ListN.{length, take, drop, get_or}
use lib.Seq.{drop-cons, take_all}
use mathlib.Core.List.{List, [], ◌∷◌, ◌++◌}
use mathlib.Core.Path.{◌≡◌, refl, ap, sym, ◌∙◌}
use native.Mathlib.Nat.{zero-add}
use native.Mathlib.Omega.{arith}
use Rattle.card.proofs.BytesLaws.{patch_on, tab_length, tab_get_d, tab_same, tab_list, U32, words-length, words_append, read_words_lem, pairs-length, pairs_fit, pairs_first, pairs_second, pad-length, zeros-length, zeros-patch}
use Rattle.card.specs.Bytes.{patch, tabulate, All, pairs, get_u32, words, read_words, pad, zeros}
use Rattle.card.specs.Header.{range_numbers, header_block, header_on}
use Rattle.card.specs.Question.{header_ranges}
use Rattle.card.specs.Range.{Range, range_in, ranges_of}
use Rattle.card.specs.declared.header.Header.{Header}

pub ranges_length : (ns : List ℕ) (n : ℕ) → length (ranges_of ns n) ≡ n
unfolding ranges_of
ranges_length ns n = tab_length (range_in ns) 0 n

abbrev oid_of : Range → ℕ
oid_of r = r.oid

abbrev pages_of : Range → ℕ
pages_of r = r.pages

-- numbers from the i-th range on
numbers_from : (ns : List ℕ) (i n : ℕ) → 2 * i + 2 * n ≤ length ns → range_numbers (tabulate (range_in ns) i n) ≡ take (2 * n) (drop (2 * i) ns)
unfolding pairs tabulate
numbers_from ns i zero h = refl
numbers_from ns i (suc n) h =
    let e : 2 * suc n ≡ suc (suc (2 * n)) = omega arith in
    let s : suc (suc (2 * i)) ≡ 2 * suc i = omega arith in
    let o : suc (2 * i) ≡ 2 * i + 1 = omega arith in
    let d : drop (2 * i) ns ≡ get_or ns (2 * i) 0 ∷ get_or ns (2 * i + 1) 0 ∷ drop (2 * suc i) ns =
    drop-cons ns (2 * i) 0 (omega arith) ∙ ap (λ (l : List ℕ). get_or ns (2 * i) 0 ∷ l) (drop-cons ns (suc (2 * i)) 0 (omega arith) ∙ rw (o, ← o, s)) in
    rw (e, d) (ap (λ (l : List ℕ). get_or ns (2 * i) 0 ∷ get_or ns (2 * i + 1) 0 ∷ l) (numbers_from ns (suc i) n (omega arith)))

pub numbers_of : (ns : List ℕ) (n : ℕ) → 2 * n ≤ length ns → range_numbers (ranges_of ns n) ≡ take (2 * n) ns
unfolding ranges_of
numbers_of ns n h = numbers_from ns 0 n (omega arith)

-- ---- how it is put

module _ (commit trailer area : ℕ) where
  pub header_put : (ns : List ℕ) → length ns % 2 ≡ 0 → length ns ≤ 16
      → patch (patch zeros 0 (words (1 ∷ commit ∷ trailer ∷ area ∷ length ns / 2 ∷ []))) 20 (words ns) ≡ header_block commit trailer area (ranges_of ns (length ns / 2))
  unfolding header_block
  header_put ns h k =
      let n = length ns / 2 in
      let fixed : List ℕ = 1 ∷ commit ∷ trailer ∷ area ∷ n ∷ [] in
      let all : take (2 * n) ns ≡ ns = take_all (2 * n) ns (omega arith) in
      patch_on zeros (words fixed) (words ns) 20 (words-length fixed) (omega (arith, words-length ns, zeros-length))
      ∙ zeros-patch (words fixed ++ words ns)
      ∙ ap pad (sym (words_append fixed ns))
      ∙ rw (ranges_length, numbers_of ns n (omega arith), all)

  pub header_length : (rs : List Range) → length rs ≤ 8 → length (header_block commit trailer area rs) ≡ 512
  unfolding header_block
  header_length rs h = pad-length _ (simp words-length (omega (arith, pairs-length oid_of pages_of rs)))

-- ---- that it is read back

-- first OID and n in 32 bits
abbrev pub FitsRange : Range → Type 0
FitsRange r = U32 r.oid × U32 r.pages

-- h says what was put
pub record HeaderBack (commit trailer area : ℕ) (rs : List Range) (h : Header) : Type 0 where
  pub layout_is : h.layout ≡ 1
  pub commit_is : h.commit ≡ commit
  pub trailer_is : h.trailer ≡ trailer
  pub area_is : h.area ≡ area
  pub count_is : h.count ≡ length rs
  pub ranges_is : header_ranges h ≡ rs

module _ (commit trailer area : ℕ) (rs : List Range) (c-fits : U32 commit) (t-fits : U32 trailer) (a-fits : U32 area) (r-fits : All FitsRange rs) (few : length rs ≤ 8) where
  all : List ℕ
  all = 1 ∷ commit ∷ trailer ∷ area ∷ length rs ∷ range_numbers rs

  all_fit : All U32 all
  unfolding all
  all_fit = (omega arith, (c-fits, (t-fits, (a-fits, (omega arith, pairs_fit oid_of pages_of rs r-fits)))))

  all_length : length all ≡ 5 + 2 * length rs
  unfolding all
  all_length = omega (arith, pairs-length oid_of pages_of rs)

  word : (k : ℕ) → k < 5 + 2 * length rs → get_u32 (header_block commit trailer area rs) (4 * k) ≡ get_or all k 0
  unfolding header_block pad all
  word k h = read_words_lem all k _ all_fit (omega (arith, all_length))

  range_word : (k : ℕ) → k < 2 * length rs → get_u32 (header_block commit trailer area rs) (20 + 4 * k) ≡ get_or (range_numbers rs) k 0
  unfolding all
  range_word k h = let e : 20 + 4 * k ≡ 4 * suc (suc (suc (suc (suc k)))) = omega arith in rw e (word (suc (suc (suc (suc (suc k))))) (omega arith))

  stored : ℕ → ℕ
  stored k = get_u32 (header_block commit trailer area rs) (20 + 4 * k)

  range_back : (i : ℕ) → i < length rs → range_in (read_words (header_block commit trailer area rs) 20 16) i ≡ get_or rs i (record { oid = 0; pages = 0 })
  unfolding read_words stored
  range_back i h =
      let none : Range = record { oid = 0; pages = 0 } in
      let p = tab_get_d stored 0 16 (2 * i) 0 (omega arith) ∙ ap stored (zero-add (2 * i)) ∙ range_word (2 * i) (omega arith) ∙ pairs_first oid_of pages_of rs i none h in
      let q = tab_get_d stored 0 16 (2 * i + 1) 0 (omega arith) ∙ ap stored (zero-add (2 * i + 1)) ∙ range_word (2 * i + 1) (omega arith) ∙ pairs_second oid_of pages_of rs i none h in
      λ j. record { oid = p j; pages = q j }

  pub header_back : HeaderBack commit trailer area rs (header_on (header_block commit trailer area rs))
  unfolding header_on all ranges_of
  header_back = record {
    layout_is = word 0 (omega arith);
    commit_is = word 1 (omega arith);
    trailer_is = word 2 (omega arith);
    area_is = word 3 (omega arith);
    count_is = word 4 (omega arith);
    ranges_is = ap (λ (n : ℕ). tabulate (range_in (read_words (header_block commit trailer area rs) 20 16)) 0 n) (word 4 (omega arith))
        ∙ tab_same (range_in (read_words (header_block commit trailer area rs) 20 16)) (λ i. get_or rs i (record { oid = 0; pages = 0 })) 0 (length rs) (λ i p q. range_back i (omega arith))
        ∙ tab_list (record { oid = 0; pages = 0 }) rs;
  }
