-- Directories: how a block is put, and that the whole directory is read back from its blocks.
-- Assumes nothing.
use Prim.Native.Nat.{ℕ, ◌+◌, ◌-◌, ◌*◌, ◌/◌, ◌%◌, ◌≤◌, ◌<◌, min}
use lib.ListN.{length, take, drop, get_or, set, replicate, length-take, length-drop}
use lib.Seq.{take_all, length-take-le, get_or-take, get_or-drop, get_or-set_same, get_or-set_other}
use mathlib.Core.List.{List, [], ◌∷◌, ◌++◌}
use mathlib.Core.Logic.{◌⊎◌, inl, inr, ⊎_elim}
use mathlib.Core.Path.{◌≡◌, ap, sym, ◌∙◌}
use native.Mathlib.Nat.{zero-add}
use native.Mathlib.Numerals.{add-one}
use native.Mathlib.Omega.{arith}
use Rattle.card.proofs.AllLaws.{all_take, all_drop}
use Rattle.card.proofs.BytesLaws.{patch_on, tab_length, tab_more, tab_snoc, tab_drop, tab_take, tab_same, tab_list, Filled, U32, words-length, words_append, read_words_lem, pairs-length, pairs-append, pairs_fit, pairs_first, pairs_second, pad-length, zeros-length, zeros-patch}
use Rattle.card.proofs.Test.{le_or_lt}
use Rattle.card.specs.Block.{block_at}
use Rattle.card.specs.Bytes.{patch, tabulate, All, pairs, get_u32, words, pad, zeros}
use Rattle.card.specs.Directory.{entry_in, entries_of, PlacesBelow, entry_numbers, dir_block, read_entry, entry_on, read_dir}
use Rattle.card.specs.Ring.{ring_at, dir_blocks}
use Rattle.card.specs.declared.directory.Entry.{Entry}

pub entries_length : (area first : ℕ) (fs ps : List ℕ) (n : ℕ) → length (entries_of area first fs ps n) ≡ n
unfolding entries_of
entries_length area first fs ps n = tab_length (entry_in area first fs ps) 0 n

abbrev frame_of : Entry → ℕ
frame_of e = e.frame

abbrev block_of : Entry → ℕ
block_of e = e.block

pub dir_block-length : (es : List Entry) (j : ℕ) → length (dir_block es j) ≡ 512
unfolding dir_block
dir_block-length es j = pad-length _ (simp (words-length, pairs-length frame_of block_of, length-take, length-drop) (omega arith))

-- ---- how a block is put

module _ (area first : ℕ) (fs ps : List ℕ) (from : ℕ) where
  -- the bytes of k entries
  abbrev pub front_bytes : ℕ → List ℕ
  front_bytes k = words (entry_numbers (tabulate (entry_in area first fs ps) from k))

  front_length : (k : ℕ) → length (front_bytes k) ≡ 8 * k
  front_length k = words-length (entry_numbers (tabulate (entry_in area first fs ps) from k)) ∙ omega (arith, pairs-length frame_of block_of (tabulate (entry_in area first fs ps) from k), tab_length (entry_in area first fs ps) from k)

  -- one turn of the loop that puts them
  pub front_more : (k f b : ℕ) → k < 64 → f ≡ get_or fs (from + k) 0 → b ≡ ring_at area first (get_or ps (from + k) 0) → patch (patch zeros 0 (front_bytes k)) (8 * k) (words (f ∷ b ∷ [])) ≡ patch zeros 0 (front_bytes (k + 1))
  unfolding pairs
  front_more k f b h p q =
      let long : length (words (f ∷ b ∷ [])) ≡ 8 = words-length (f ∷ b ∷ []) in
      patch_on zeros (front_bytes k) (words (f ∷ b ∷ [])) (8 * k) (front_length k) (omega (arith, zeros-length))
      ∙ ap (patch zeros 0) (sym (words_append (entry_numbers (tabulate (entry_in area first fs ps) from k)) (f ∷ b ∷ []))
      ∙ ap words (rw (p, q, add-one, tab_snoc (entry_in area first fs ps) from k) (sym (pairs-append frame_of block_of (tabulate (entry_in area first fs ps) from k) (entry_in area first fs ps (from + k) ∷ [])))))

-- its end
pub front_all : (area first : ℕ) (fs ps : List ℕ) (count j : ℕ) → 64 * j ≤ count → patch zeros 0 (front_bytes area first fs ps (64 * j) (min 64 (count - 64 * j))) ≡ dir_block (entries_of area first fs ps count) j
unfolding dir_block entries_of
front_all area first fs ps count j h =
    zeros-patch (front_bytes area first fs ps (64 * j) (min 64 (count - 64 * j)))
    ∙ ap (λ (l : List Entry). pad (words (entry_numbers l))) (sym (rw (tab_drop (entry_in area first fs ps) 0 count (64 * j) h, zero-add) (taken (le_or_lt 64 (count - 64 * j)))))
  where
    taken : (64 ≤ count - 64 * j) ⊎ (count - 64 * j < 64) → take 64 (tabulate (entry_in area first fs ps) (64 * j) (count - 64 * j)) ≡ tabulate (entry_in area first fs ps) (64 * j) (min 64 (count - 64 * j))
    taken (inl k) = let e : min 64 (count - 64 * j) ≡ 64 = omega arith in rw e (tab_take (entry_in area first fs ps) (64 * j) (count - 64 * j) 64 k)
    taken (inr k) =
        let e : min 64 (count - 64 * j) ≡ count - 64 * j = omega arith in
        rw e (take_all 64 (tabulate (entry_in area first fs ps) (64 * j) (count - 64 * j)) (omega (arith, tab_length (entry_in area first fs ps) (64 * j) (count - 64 * j))))

-- entries that stand in the first n of two arrays, and their places
pub entries_of_front : (area first : ℕ) (fs ps : List ℕ) (n : ℕ) → n ≤ length fs
    → entries_of area first (take n fs) (take n ps) (length (take n fs)) ≡ entries_of area first fs ps n
unfolding entries_of
entries_of_front area first fs ps n h =
    let long : length (take n fs) ≡ n = length-take-le n fs h in
    rw long (tab_same (entry_in area first (take n fs) (take n ps)) (entry_in area first fs ps) 0 n
    (λ k a b. cc (get_or-take n fs k 0 (omega arith), get_or-take n ps k 0 (omega arith))))

pub places_front : (p n : ℕ) (ps : List ℕ) → n ≤ length ps → PlacesBelow p n ps → PlacesBelow p (length (take n ps)) (take n ps)
places_front p n ps h below i l = let k : i < n = omega (arith, length-take-le n ps h) in rw (get_or-take n ps i 0 k) (below i k)

-- ---- that it is read back

-- frame and block in 32 bits
abbrev pub FitsEntry : Entry → Type 0
FitsEntry e = U32 e.frame × U32 e.block

-- the default of a list of entries
abbrev pub no_entry : Entry
no_entry = record { frame = 0; block = 0 }

read_entry_lem : (es : List Entry) (k : ℕ) (t : List ℕ) → All FitsEntry es → k < length es → read_entry (words (entry_numbers es) ++ t) k ≡ get_or es k no_entry
unfolding read_entry
read_entry_lem es k t fit h =
    let p : 8 * k ≡ 4 * (2 * k) = omega arith in
    let q : 8 * k + 4 ≡ 4 * (2 * k + 1) = omega arith in
    let f : get_u32 (words (entry_numbers es) ++ t) (8 * k) ≡ (get_or es k no_entry).frame =
    rw p (read_words_lem (entry_numbers es) (2 * k) t (pairs_fit frame_of block_of es fit) (omega (arith, pairs-length frame_of block_of es)) ∙ pairs_first frame_of block_of es k no_entry h) in
    let b : get_u32 (words (entry_numbers es) ++ t) (8 * k + 4) ≡ (get_or es k no_entry).block =
    rw q (read_words_lem (entry_numbers es) (2 * k + 1) t (pairs_fit frame_of block_of es fit) (omega (arith, pairs-length frame_of block_of es)) ∙ pairs_second frame_of block_of es k no_entry h) in
    λ i. record { frame = f i; block = b i }

-- entry i is read back from its directory block
pub read_dir_block : (es : List Entry) (i : ℕ) → All FitsEntry es → i < length es → read_entry (dir_block es (i / 64)) (i % 64) ≡ get_or es i no_entry
unfolding dir_block pad
read_dir_block es i fit h =
    let part : List Entry = take 64 (drop (64 * (i / 64)) es) in
    let long : i % 64 < length part = simp (length-take, length-drop) (omega arith) in
    let back : 64 * (i / 64) + i % 64 ≡ i = omega arith in
    read_entry_lem part (i % 64) (replicate (512 - length (words (entry_numbers part))) 0) (all_take FitsEntry 64 (drop (64 * (i / 64)) es) (all_drop FitsEntry (64 * (i / 64)) es fit)) long
    ∙ get_or-take 64 (drop (64 * (i / 64)) es) (i % 64) no_entry (omega arith) ∙ get_or-drop (64 * (i / 64)) es (i % 64) no_entry ∙ ap (λ (k : ℕ). get_or es k no_entry) back

-- the whole directory, from a card that has its blocks
pub read_back : (c : List ℕ) (area first p : ℕ) (es : List Entry) → All FitsEntry es
    → ((j : ℕ) → j < dir_blocks (length es) → block_at c (ring_at area first (p + j)) ≡ dir_block es j)
    → read_dir c area first p (length es) ≡ es
unfolding read_dir entry_on
read_back c area first p es fit on =
    tab_same (entry_on c area first p) (λ i. get_or es i no_entry) 0 (length es)
    (λ i a b. rw (on (i / 64) (omega arith)) (read_dir_block es i fit (omega arith)))
    ∙ tab_list no_entry es

-- what is read depends on the directory's blocks alone
pub read_dir_same : (c d : List ℕ) (area first p n : ℕ) → ((j : ℕ) → j < dir_blocks n → block_at d (ring_at area first (p + j)) ≡ block_at c (ring_at area first (p + j)))
    → read_dir d area first p n ≡ read_dir c area first p n
unfolding read_dir entry_on
read_dir_same c d area first p n same =
    tab_same (entry_on d area first p) (entry_on c area first p) 0 n (λ i a b. ap (λ (x : List ℕ). read_entry x (i % 64)) (same (i / 64) (omega arith)))

-- ---- code's directory, read and asked about

-- the places of the first n entries: below p, and each that of the entry's block
abbrev pub PlacesFilled : ℕ → ℕ → ℕ → (ℕ → Entry) → ℕ → List ℕ → Type 0
PlacesFilled area first p f n ps = (i : ℕ) → i < n → (ring_at area first (get_or ps i 0) ≡ (f i).block) × (get_or ps i 0 < p)

module _ (area first p : ℕ) (f : ℕ → Entry) where
  pub places_more : (n : ℕ) (ps : List ℕ) (x : ℕ) → n < length ps → ring_at area first x ≡ (f n).block → x < p → PlacesFilled area first p f n ps → PlacesFilled area first p f (n + 1) (set ps n x)
  places_more n ps x h e l given i q = ⊎_elim
      (λ k. let s : i ≡ n = omega arith in rw (s, get_or-set_same ps n x 0 h) (e, l))
      (λ k. rw (get_or-set_other ps n i x 0 (omega arith)) (given i k))
      (le_or_lt n i)

  pub entries_filled : (fs ps : List ℕ) (n : ℕ) → Filled (λ i. (f i).frame) n fs → PlacesFilled area first p f n ps → entries_of area first fs ps n ≡ tabulate f 0 n
  unfolding entries_of
  entries_filled fs ps n frames places = tab_same (entry_in area first fs ps) f 0 n
      (λ i a b. let x = frames i (omega arith) in let y = (places i (omega arith)).0 in λ j. record { frame = x j; block = y j })

-- one turn of a loop over entries
pub entry_next : (f : ℕ → Entry) (i n x y : ℕ) → i < n → x ≡ (f i).frame → y ≡ (f i).block → tabulate f i (n - i) ≡ record { frame = x; block = y } ∷ tabulate f (i + 1) (n - (i + 1))
entry_next f i n x y h p q = rw (p, q) (tab_more f i n h)
