-- A page that a call names: its place, the frames that are changed for it, and how its questions follow.
-- Assumes nothing.
use Prim.Native.Nat.{ℕ, suc, ◌+◌, ◌*◌, ◌≤◌, ◌<◌}
use borrow.Author.Tests.{eqb-true, eq-eqb, lt-ltb, le-leb}
use lib.Dec.{leb, eqb}
use lib.ListN.{length, length-append}
use mathlib.Core.Bool.{Bool, true, false}
use mathlib.Core.List.{List, [], ◌∷◌, ◌++◌, append-nil}
use mathlib.Core.Logic.{◌≢◌}
use mathlib.Core.Path.{◌≡◌, refl, ap, sym, ◌∙◌}
use native.Mathlib.Decide.{ℕ_discrete}
use native.Mathlib.Omega.{arith}
use Rattle.card.proofs.AddressLaws.{Within, lies_home}
use Rattle.card.proofs.BlockLaws.{block_first, block_second}
use Rattle.card.proofs.BytesLaws.{tab_length}
use Rattle.card.proofs.QuestionLaws.{none_asked, asked_yes, passed_both, group_no}
use Rattle.card.proofs.RangeLaws.{geometry_tells}
use Rattle.card.proofs.RefusalLaws.{number_some}
use Rattle.card.proofs.Test.{joined}
use Rattle.card.specs.Block.{block_at}
use Rattle.card.specs.Bytes.{tabulate, zeros}
use Rattle.card.specs.Pot.{count_at, flags_at, is_zero}
use Rattle.card.specs.Question.{Question, ask, first_no}
use Rattle.card.specs.Range.{range_in, ranges_of, Lookup, Located, Gap, Outside}
use Rattle.card.specs.Refusal.{number}
use Rattle.card.specs.declared.range.Address.{Address}
use Rattle.card.specs.declared.refusal.Refusal.{Refusal}
use Rattle.frames.proofs.LoadLaws.{newest_whole}
use Rattle.frames.proofs.ReadyLaws.{Ready, ready, common_passed, common_refused}
use Rattle.frames.specs.Parts.{frames_with, Changing}
use Rattle.frames.specs.Promise.{Lent, meaning_of, common_asks, common}
use Rattle.pages.proofs.AnswerLaws.{placed_located, placed_gap, placed_outside}
use Rattle.pages.specs.Page.{page_bytes}
use Rattle.pages.specs.Promise.{address_of, present_frames, placed, PotFound}
use Rattle.record.proofs.Held.{held, bounds}
use Rattle.record.proofs.ListLaws.{elem_miss, elem_end, once-first, once_end, within_yes, within_end}
use Rattle.record.specs.Holds.{holds_together}
use Rattle.record.specs.Lists.{elem, once, within, all_within}
use Rattle.record.specs.declared.store.Store.{Store}
use Rattle.recovery.specs.Contents.{Contents}

-- ---- its place

-- the ranges of a record that passes 1 to 3 can be searched
pub searchable : (l : Lent) → first_no (common l) ≡ 0 → (l.store.geometry.area ≤ 512) × (l.store.geometry.count ≤ 8)
unfolding ranges_of
searchable l h =
    let s = l.store in
    let g = held s (ready s (length l.memory) (length l.card) h).together in
    let few = (geometry_tells s.geometry.blocks s.geometry.area (ranges_of s.geometry.ranges s.geometry.count) g.geometry).few in
    ((bounds s g).area_high, rw (tab_length (range_in s.geometry.ranges) 0 s.geometry.count) at few)

-- 1 to 3, 21 and 9 are passed
pub record Found (l : Lent) (oid : ℕ) (p : Address) : Type 0 where
  pub passed : first_no (common l) ≡ 0
  pub place_is : address_of l oid ≡ Located p

-- as the code finds it
pub found_by : {l : Lent} {oid : ℕ} {p : Address} {pot : List ℕ} → PotFound l oid p pot → Found l oid p
found_by f = record { passed = f.passed; place_is = f.place_is }

-- ---- its frames changed

lies_within : (low high f : ℕ) → low ≤ f → f < high → within low high f ≡ true
unfolding within
lies_within low high f a b = joined (leb low f) _ (le-leb low f a) (lt-ltb f high b)

module _ (s : Store) (memory : List ℕ) (card : ℕ) (passed : first_no (common_asks s (length memory) card) ≡ 0) where
  changing : (names bytes : List ℕ) → length names ≤ 256 → once names ≡ true → all_within (s.geometry.area + 1) s.geometry.blocks names ≡ true
      → length bytes ≡ 512 * length names → Changing s memory names bytes
  changing names bytes few single home long =
      let q = ready s (length memory) card passed in
      record {
        together = q.together;
        memory_long = q.memory_is;
        memory_few = q.frames_high;
        card_few = q.blocks_high;
        few = few;
        named_once = single;
        home = home;
        bytes_long = long;
      }

  -- one home frame
  changing_one : (f : ℕ) (x : List ℕ) → 1 + s.geometry.area ≤ f → f < s.geometry.blocks → length x ≡ 512 → Changing s memory (f ∷ []) x
  changing_one f x a b long =
      let single : once (f ∷ []) ≡ true = once-first f (f ∷ []) [] refl (elem_end f [] refl) ∙ once_end [] refl in
      let home : all_within (s.geometry.area + 1) s.geometry.blocks (f ∷ []) ≡ true =
      within_yes _ _ f (f ∷ []) [] refl (lies_within _ _ f (omega arith) b) ∙ within_end _ _ [] refl in
      changing (f ∷ []) x (omega arith) single home (omega (arith, long))

  -- a page and its pot
  changing_two : (p : Address) (x y : List ℕ) → Within (1 + s.geometry.area) s.geometry.blocks p → length x ≡ 512 → length y ≡ 512
      → Changing s memory (p.page ∷ p.pot ∷ []) (x ++ y)
  changing_two p x y w m n =
      let names = p.page ∷ p.pot ∷ [] in
      let pot = changing_one p.pot y w.pot_low w.pot_high n in
      let other : elem p.page (p.pot ∷ []) ≡ false = elem_miss p.page p.pot (p.pot ∷ []) [] refl (omega (arith, w.pot_before)) ∙ elem_end p.page [] refl in
      let single : once names ≡ true = once-first p.page names (p.pot ∷ []) refl other ∙ pot.named_once in
      let home : all_within (s.geometry.area + 1) s.geometry.blocks names ≡ true =
      within_yes _ _ p.page names (p.pot ∷ []) refl (lies_within _ _ p.page (omega (arith, w.page_low)) w.page_high) ∙ pot.home in
      changing names (x ++ y) (omega arith) single home (simp length-append (omega (arith, m, n)))

-- ---- a page that is found

module _ (l : Lent) (oid : ℕ) (p : Address) (f : Found l oid p) where
  found_ready : Ready l.store (length l.memory) (length l.card)
  found_ready = ready l.store (length l.memory) (length l.card) f.passed

  pub found_together : holds_together l.store ≡ true
  found_together = found_ready.together

  -- it lies among the home blocks
  found_within : Within (1 + l.store.geometry.area) l.store.geometry.blocks p
  found_within = lies_home l.store.geometry.blocks l.store.geometry.area (meaning_of l).ranges oid p (held l.store found_together).geometry f.place_is

  -- its frames can be read
  pub page_readable : (first_no (common l) ≡ 0) × (p.page < l.store.geometry.blocks)
  page_readable = (f.passed, found_within.page_high)

  pub pot_readable : (first_no (common l) ≡ 0) × (p.pot < l.store.geometry.blocks)
  pot_readable = (f.passed, found_within.pot_high)

  -- its page is a whole block
  pub page_whole : length (present_frames l p.page) ≡ 512
  page_whole = newest_whole l.store l.memory l.card found_ready p.page found_within.page_high

  -- they are small numbers
  pub small : (p.page < 65536) × (p.pot < 65536)
  small = (omega (arith, found_within.page_high, found_ready.blocks_high), omega (arith, found_within.pot_high, found_ready.blocks_high))

  -- its page, its pot, or both can be changed
  pub page_changing : {name : ℕ} → name ≡ p.page → (x : List ℕ) → length x ≡ 512 → Changing l.store l.memory (name ∷ []) x
  page_changing e x long = rw e (changing_one l.store l.memory (length l.card) f.passed p.page x found_within.page_low found_within.page_high long)

  pub pot_changing : {name : ℕ} → name ≡ p.pot → (x : List ℕ) → length x ≡ 512 → Changing l.store l.memory (name ∷ []) x
  pot_changing e x long = rw e (changing_one l.store l.memory (length l.card) f.passed p.pot x found_within.pot_low found_within.pot_high long)

  pub both_changing : {page pot : ℕ} → page ≡ p.page → pot ≡ p.pot → (x y : List ℕ) → length x ≡ 512 → length y ≡ 512 → {both : List ℕ} → both ≡ x ++ y
      → Changing l.store l.memory (page ∷ pot ∷ []) both
  both_changing e h x y x-long y-long both_is =
      rw (e, h, both_is) (changing_two l.store l.memory (length l.card) f.passed p x y found_within x-long y-long)

-- ---- frames with their bytes

pub one_frame : (f : ℕ) (x : List ℕ) → length x ≡ 512 → frames_with (f ∷ []) x ≡ record { frame = f; bytes = x } ∷ []
unfolding tabulate
one_frame f x h =
    let e : block_at x 0 ≡ x = ap (λ (z : List ℕ). block_at z 0) (sym (append-nil x)) ∙ block_first x [] h in
    rw e

pub two_frames : (f g : ℕ) (x y : List ℕ) → length x ≡ 512 → length y ≡ 512
    → frames_with (f ∷ g ∷ []) (x ++ y) ≡ record { frame = f; bytes = x } ∷ record { frame = g; bytes = y } ∷ []
unfolding tabulate
two_frames f g x y h k = rw (block_first x y h, block_second x y h k)

-- ---- its bytes

-- zeros or those of its frame, as its pot says
pub page_full : (v : Contents) (p : Address) (pot : List ℕ) → pot ≡ v p.pot → is_zero (flags_at pot p.entry) ≡ false → page_bytes v p ≡ v p.page
unfolding page_bytes
page_full v p pot e h = rw (← e, h)

pub page_empty : (v : Contents) (p : Address) (pot : List ℕ) → pot ≡ v p.pot → is_zero (flags_at pot p.entry) ≡ true → page_bytes v p ≡ zeros
unfolding page_bytes
page_empty v p pot e h = rw (← e, h)

-- ---- its questions

-- 1 to 3, 21, 9, and the rest of its place
abbrev pub named_asks : Lent → ℕ → (Address → List Question) → List Question
named_asks l oid rest = common l ++ placed (address_of l oid) rest

-- n is the number of the first "no"
pub record Stops (l : Lent) (oid : ℕ) (rest : Address → List Question) (n : ℕ) : Type 0 where
  pub number_is : first_no (named_asks l oid rest) ≡ n
  pub some : n ≢ 0

placed_stop : (a : Lookup) (rest : Address → List Question) → first_no (placed a (λ p. [])) ≢ 0 → first_no (placed a rest) ≡ first_no (placed a (λ p. []))
placed_stop (Located p) rest z = absurd (z (placed_located p (λ q. []) ∙ none_asked))
placed_stop Gap rest z = placed_gap rest ∙ sym (placed_gap (λ q. []))
placed_stop Outside rest z = placed_outside rest ∙ sym (placed_outside (λ q. []))

-- no refusal has number 0
pub positive : (r : Refusal) → number r ≢ 0
positive r e = omega (arith, number_some r, e)

module _ (l : Lent) (oid : ℕ) (rest : Address → List Question) where
  -- by any of 1 to 3, 21 and 9
  pub named_stops : (r : Refusal) → number r ≡ first_no (named_asks l oid (λ p. [])) → Stops l oid rest (number r)
  named_stops r e = go (ℕ_discrete (first_no (common l)) 0)
    where
      go : Dec (first_no (common l) ≡ 0) → Stops l oid rest (number r)
      go (yes h) =
          let passed : (x : List Question) → first_no (common l ++ x) ≡ first_no x = λ x. common_passed l.store (length l.memory) (length l.card) x h in
          record { number_is = passed _ ∙ placed_stop (address_of l oid) rest (λ k. positive r (e ∙ passed _ ∙ k)) ∙ sym (passed _) ∙ sym e; some = positive r }
      go (no h) =
          let stops : (x : List Question) → first_no (common l ++ x) ≡ first_no (common l) = λ x. common_refused l.store (length l.memory) (length l.card) x h in
          record { number_is = stops _ ∙ sym (stops _) ∙ sym e; some = positive r }

  pub rest_asked : (p : Address) → Found l oid p → first_no (named_asks l oid rest) ≡ first_no (rest p)
  rest_asked p f = common_passed l.store (length l.memory) (length l.card) _ f.passed ∙ ap (λ (a : Lookup). first_no (placed a rest)) f.place_is ∙ placed_located p rest

-- the present count of a page
abbrev pub present_count : Lent → Address → ℕ
present_count l p = count_at (present_frames l p.pot) p.entry

-- 10, and a question of the call's own
abbrev pub key_asks : (present count number : ℕ) (own : Bool) → List Question
key_asks present count number own = ask 10 (eqb present count) ∷ ask number own ∷ []

-- these are passed too
pub record Keyed (l : Lent) (oid count : ℕ) (p : Address) (pot : List ℕ) (own : Bool) : Type 0 where
  pub found : Found l oid p
  pub pot_is : pot ≡ present_frames l p.pot
  pub count_is : count_at pot p.entry ≡ count
  pub own_is : own ≡ true

module _ (l : Lent) (oid count : ℕ) (p : Address) (f : Found l oid p) (pot : List ℕ) (pot_is : pot ≡ present_frames l p.pot) (m : ℕ) (own : Bool) {number : ℕ}
    (number_is : number ≡ first_no (key_asks (count_at pot p.entry) count (suc m) own)) where
  pub key_stops : (rest : Address → List Question) → number ≢ 0 → Stops l oid (λ q. key_asks (present_count l q) count (suc m) own ++ rest q) number
  key_stops rest z =
      let asked : number ≡ first_no (key_asks (present_count l p) count (suc m) own) = number_is ∙ ap (λ (x : List ℕ). first_no (key_asks (count_at x p.entry) count (suc m) own)) pot_is in
      record { number_is = rest_asked l oid _ p f ∙ group_no (key_asks (present_count l p) count (suc m) own) (rest p) (λ e. z (asked ∙ e)) ∙ sym asked; some = z }

  pub key_passes : number ≡ 0 → Keyed l oid count p pot own
  key_passes h =
      let fits = passed_both 9 _ _ (sym number_is ∙ h) in
      record { found = f; pot_is = pot_is; count_is = eqb-true _ count fits.0; own_is = (passed_both m own [] fits.1).0 }

-- the rest counts
pub keyed_asks : (l : Lent) (oid count : ℕ) (p : Address) (pot : List ℕ) (number : ℕ) (own : Bool) (rest : Address → List Question) → Keyed l oid count p pot own
    → first_no (named_asks l oid (λ q. key_asks (present_count l q) count number own ++ rest q)) ≡ first_no (rest p)
keyed_asks l oid count p pot number own rest k =
    let present : present_count l p ≡ count = ap (λ (x : List ℕ). count_at x p.entry) (sym k.pot_is) ∙ k.count_is in
    rest_asked l oid _ p k.found ∙ asked_yes 10 _ _ (eq-eqb _ _ present) ∙ asked_yes number own _ k.own_is
