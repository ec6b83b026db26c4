-- The forecast is document 02's sum (#102). An advance takes the first off its list while there is one, a change leaves
-- it; the last but one is the header write, and no other is.
-- Assumes nothing.
use Prim.Native.Nat.{ℕ, suc, ◌+◌, ◌-◌, ◌≤◌, ◌<◌}
use borrow.Author.Tests.{ltb-true, ltb-false, eqb-true, eqb-false, lt-ltb, le-ltb, eq-eqb, ne_eqb}
use lib.Dec.{ltb, eqb}
use lib.ListN.{length, drop, get_or, replicate, length-append, length-replicate, length-drop}
use lib.Seq.{drop-cons, drop-drop}
use mathlib.Core.Bool.{Bool, true, false, cond, ◌||◌, false≢true}
use mathlib.Core.List.{List, [], ◌∷◌, ◌++◌, tail}
use mathlib.Core.Logic.{◌⊎◌, inl, inr}
use mathlib.Core.Option.{Option, none, some}
use mathlib.Core.Path.{◌≡◌, refl, ap, sym, ◌∙◌, subst}
use native.Mathlib.Decide.{ℕ_discrete}
use native.Mathlib.Nat.{add-zero}
use native.Mathlib.Omega.{arith}
use Rattle.card.proofs.BytesLaws.{length_tail, none_long}
use Rattle.card.proofs.Test.{by_test}
use Rattle.card.specs.Ring.{dir_blocks}
use Rattle.card.specs.declared.directory.Entry.{Entry}
use Rattle.recovery.proofs.SumLaws.{passed_next}
use Rattle.recovery.specs.Contents.{FrameBytes}
use Rattle.recovery.specs.State.{State, entry_count, empty, Phase, writing, flushed, owed, is_owed, is_flushed}
use Rattle.recovery.specs.Step.{after_change, Kind, page, directory, trailer, migration, header, flush, out_of, after_flush, after_kind, migration_due, advance_due, migrating, pass_to, next_migration}
use Rattle.recovery.specs.Sums.{leading, moves_of, passed_to, moves_left, remaining_writes, commit_writes, forecast, commit_sum}

-- ---- what a commit makes, by whether a flush is owed, whether the one before the header is made, and four numbers:
-- frames that wait, directory blocks, blocks down behind the pages, entries to copy home

abbrev ends_of : Bool → List Kind
ends_of f = cond f [] (flush ∷ []) ++ (header ∷ flush ∷ [])

abbrev work_of : Bool → ℕ → ℕ → ℕ → ℕ → List Kind
work_of f w d t m = replicate w page ++ (replicate (d - t) directory ++ (replicate (1 - (t - d)) trailer ++ (replicate m migration ++ ends_of f)))

abbrev writes_of : Bool → Bool → ℕ → ℕ → ℕ → ℕ → List Kind
writes_of o f w d t m = cond o (flush ∷ []) [] ++ work_of f w d t m

ends_long : (f : Bool) → length (ends_of f) ≡ cond f 0 1 + 2
ends_long true = refl
ends_long false = refl

work_long : (f : Bool) (w d t m : ℕ) → length (work_of f w d t m) ≡ w + (d - t) + (1 - (t - d)) + m + (cond f 0 1 + 2)
work_long f w d t m =
    length-append (replicate w page) _
    ∙ (rw (
      length-replicate w page,
      length-append (replicate (d - t) directory) (replicate (1 - (t - d)) trailer ++ (replicate m migration ++ ends_of f)),
      length-replicate (d - t) directory,
      length-append (replicate (1 - (t - d)) trailer) (replicate m migration ++ ends_of f),
      length-replicate (1 - (t - d)) trailer,
      length-append (replicate m migration) (ends_of f),
      length-replicate m migration,
      ends_long f,
    ) (omega arith))

trailer_left : (d t : ℕ) → 1 - (t - d) ≡ cond (ltb d t) 0 1
trailer_left d t = by_test (λ (n : ℕ). 1 - (t - d) ≡ n) (ltb d t) (λ e. omega (arith, ltb-true d t e)) (λ e. omega (arith, ltb-false d t e))

writes_long : (o f : Bool) (w d t m : ℕ) → length (writes_of o f w d t m) ≡ cond o 1 0 + (w + (d - t) + cond (ltb d t) 0 1 + m + 1) + cond f 0 1 + 1
writes_long o f w d t m = go o
  where
    go : (o : Bool) → length (writes_of o f w d t m) ≡ cond o 1 0 + (w + (d - t) + cond (ltb d t) 0 1 + m + 1) + cond f 0 1 + 1
    go true = omega (arith, work_long f w d t m, trailer_left d t)
    go false = omega (arith, work_long f w d t m, trailer_left d t)

-- of two the first is the header
two_of : (o f : Bool) (w d t m : ℕ) → length (writes_of o f w d t m) ≡ 2 → writes_of o f w d t m ≡ header ∷ flush ∷ []
two_of true f w d t m e = absurd (omega (arith, work_long f w d t m, e))
two_of false false w d t m e = absurd (omega (arith, work_long false w d t m, e))
two_of false true w d t m e =
    let n = work_long true w d t m in
    let a : w ≡ 0 = omega (arith, n, e) in
    let b : d - t ≡ 0 = omega (arith, n, e) in
    let c : 1 - (t - d) ≡ 0 = omega (arith, n, e) in
    let g : m ≡ 0 = omega (arith, n, e) in
    rw (a, b, c, g) refl

-- what one advance takes off

less_directory : (f : Bool) (d t m : ℕ) → t < d → work_of f 0 d t m ≡ directory ∷ work_of f 0 d (suc t) m
less_directory f d t m h =
    let e : d - t ≡ suc (d - suc t) = omega arith in
    let g : t - d ≡ 0 = omega arith in
    let k : suc t - d ≡ 0 = omega arith in
    rw (e, g, k)

less_trailer : (f : Bool) (d t m : ℕ) → t ≡ d → work_of f 0 d t m ≡ trailer ∷ work_of f 0 d (suc t) m
less_trailer f d t m h =
    let e : d - t ≡ 0 = omega arith in
    let g : t - d ≡ 0 = omega arith in
    let k : suc t - d ≡ 1 = omega arith in
    let j : d - suc t ≡ 0 = omega arith in
    rw (e, g, k, j)

less_migration : (f : Bool) (d t m n : ℕ) → d < t → m ≡ suc n → work_of f 0 d t m ≡ migration ∷ work_of f 0 d t n
less_migration f d t m n h q =
    let e : d - t ≡ 0 = omega arith in
    let g : 1 - (t - d) ≡ 0 = omega arith in
    rw (e, g, q)

less_all : (f : Bool) (d t m : ℕ) → d < t → m ≡ 0 → work_of f 0 d t m ≡ ends_of f
less_all f d t m h q =
    let e : d - t ≡ 0 = omega arith in
    let g : 1 - (t - d) ≡ 0 = omega arith in
    rw (e, g, q)

-- ---- a flush

after_owed : (p : Phase) → is_owed p ≡ true → (is_owed (after_flush p) ≡ false) × (is_flushed (after_flush p) ≡ is_flushed p)
after_owed writing e = absurd (false≢true e)
after_owed flushed e = absurd (false≢true e)
after_owed owed e = (refl, refl)

after_made : (p : Phase) → is_owed p ≡ false → is_flushed p ≡ false → (is_owed (after_flush p) ≡ false) × (is_flushed (after_flush p) ≡ true)
after_made writing e f = (refl, refl)
after_made flushed e f = absurd (false≢true (sym f))
after_made owed e f = absurd (false≢true (sym e))

-- ---- what the tests that choose a kind tell, with a snapshot pending

module _ (over : ℕ → Bool) (s : State) where
  abbrev w : ℕ
  w = length s.pending.waiting

  abbrev d : ℕ
  d = dir_blocks (entry_count s.pending)

  abbrev left : ℕ
  left = moves_left over s

  abbrev Calm : Type 0
  Calm = is_owed s.phase ≡ false

  abbrev Down : Type 0
  Down = (w ≡ 0) × (d < s.tail_down)

  -- the numbers where a kind is due
  abbrev Numbers : Kind → Type 0
  Numbers page = Calm × (0 < w)
  Numbers directory = Calm × (w ≡ 0) × (s.tail_down < d)
  Numbers trailer = Calm × (w ≡ 0) × (s.tail_down ≡ d)
  Numbers migration = Calm × Down × (s.migrated < length s.committed.entries)
  Numbers header = Calm × Down × (length s.committed.entries ≤ s.migrated) × (is_flushed s.phase ≡ true)
  Numbers flush = (is_owed s.phase ≡ true) ⊎ (Calm × Down × (length s.committed.entries ≤ s.migrated) × (is_flushed s.phase ≡ false))

  abbrev NumbersOf : Option Kind → Type 0
  NumbersOf none = ⊥
  NumbersOf (some k) = Numbers k

  at_migration : Calm → Down → migrating s ≡ true
  unfolding migrating
  at_migration calm down = rw (calm, le-ltb 0 w (omega (arith, down.0)), lt-ltb d s.tail_down down.1) (go (eqb (entry_count s.pending) 0))
    where
      go : (t : Bool) → t || true ≡ true
      go true = refl
      go false = refl

  module _ (any : 0 < entry_count s.pending) where
    -- with a snapshot pending one is always due
    numbers : NumbersOf (advance_due s)
    unfolding advance_due migration_due
    numbers = by_test NumbersOf (is_owed s.phase) (λ o. inl o)
        (λ calm. rw (ne_eqb (entry_count s.pending) 0 (omega arith))
        (by_test NumbersOf (ltb 0 w) (λ p. (calm, ltb-true _ _ p))
        (λ p. let still : w ≡ 0 = omega (arith, ltb-false 0 w p) in
        by_test NumbersOf (ltb s.tail_down d) (λ q. (calm, still, ltb-true _ _ q))
        (λ q. by_test NumbersOf (eqb s.tail_down d) (λ r. (calm, still, eqb-true _ _ r))
        (λ r. let down : d < s.tail_down = omega (arith, eqb-false s.tail_down d r, ltb-false s.tail_down d q) in
        by_test NumbersOf (ltb s.migrated (length s.committed.entries)) (λ m. (calm, (still, down), ltb-true _ _ m))
        (λ m. by_test Numbers (is_flushed s.phase) (λ f. (calm, (still, down), ltb-false _ _ m, f)) (λ f. inr (calm, (still, down), ltb-false _ _ m, f))))))))

    writes_are : commit_writes over s ≡ writes_of (is_owed s.phase) (is_flushed s.phase) w d s.tail_down left
    unfolding commit_writes remaining_writes
    writes_are = rw (ne_eqb (entry_count s.pending) 0 (omega arith))

    -- header and flush at least are left
    pub forecast_two : 2 ≤ forecast over s
    unfolding forecast
    forecast_two = omega (arith, ap length writes_are, writes_long (is_owed s.phase) (is_flushed s.phase) w d s.tail_down left)

    last_two : forecast over s ≡ 2 → commit_writes over s ≡ header ∷ flush ∷ []
    unfolding forecast
    last_two e = writes_are ∙ two_of (is_owed s.phase) (is_flushed s.phase) w d s.tail_down left (sym (ap length writes_are) ∙ e)

  -- none pending: the flush that is owed, if one is
  commit_none : entry_count s.pending ≡ 0 → commit_writes over s ≡ cond (is_owed s.phase) (flush ∷ []) []
  unfolding commit_writes
  commit_none e = rw (eq-eqb _ _ e)

  pub forecast_none : entry_count s.pending ≡ 0 → forecast over s ≡ cond (is_owed s.phase) 1 0
  unfolding forecast
  forecast_none e = ap length (commit_none e) ∙ go (is_owed s.phase)
    where
      go : (t : Bool) → length {A = Kind} (cond t (flush ∷ []) []) ≡ cond t 1 0
      go true = refl
      go false = refl

  -- THE SUM
  pub forecast-sum : forecast over s ≡ commit_sum over s
  unfolding forecast commit_sum
  forecast-sum = go (ℕ_discrete (entry_count s.pending) 0)
    where
      go : Dec (entry_count s.pending ≡ 0) → length (commit_writes over s) ≡ commit_sum over s
      go (yes e) = unfold forecast commit_sum in (rw (eq-eqb (entry_count s.pending) 0 e) (forecast_none e))
      go (no z) = unfold commit_sum in (rw (ne_eqb (entry_count s.pending) 0 z)
          (ap length (writes_are (omega (arith, z))) ∙ writes_long (is_owed s.phase) (is_flushed s.phase) w d s.tail_down left))

-- ---- steps

-- what changes only the current generation leaves it
pub commit_change : (over : ℕ → Bool) (ws : List FrameBytes) (s : State) → commit_writes over (after_change ws s) ≡ commit_writes over s
unfolding commit_writes remaining_writes moves_left after_change
commit_change over ws s = refl

-- ---- entries that are passed over

moves_cons : (over : ℕ → Bool) (m : ℕ) (es : List Entry) (last : Entry) → m < length es → over (get_or es m last).frame ≡ false → moves_of over (drop m es) ≡ suc (moves_of over (drop (suc m) es))
unfolding moves_of
moves_cons over m es last h e = rw (drop-cons es m last h, e) refl

moves_end : (over : ℕ → Bool) (m : ℕ) (es : List Entry) → length es ≤ m → moves_of over (drop m es) ≡ 0
unfolding moves_of
moves_end over m es h = rw (none_long (drop m es) (omega (arith, length-drop m es))) refl

moves_past : (over : ℕ → Bool) (es : List Entry) → moves_of over (drop (leading over es) es) ≡ moves_of over es
unfolding moves_of leading
moves_past over [] = refl
moves_past over (e ∷ es) = go (over e.frame) refl (moves_past over es)
  where
    go : (t : Bool) → over e.frame ≡ t → moves_of over (drop (leading over es) es) ≡ moves_of over es
        → moves_of over (drop (cond t (suc (leading over es)) 0) (e ∷ es)) ≡ cond t (moves_of over es) (suc (moves_of over es))
    go true q h = h
    go false q h = unfold moves_of in (rw q refl)

moves_passed : (over : ℕ → Bool) (m : ℕ) (es : List Entry) (t : Bool) → moves_of over (drop (m + cond t (leading over (drop m es)) 0) es) ≡ moves_of over (drop m es)
moves_passed over m es true = ap (moves_of over) (sym (drop-drop (leading over (drop m es)) m es)) ∙ moves_past over (drop m es)
moves_passed over m es false = ap (λ (n : ℕ). moves_of over (drop n es)) (add-zero m)

-- the state as an advance finds it: where it has come to migration, the next entry is not passed over
abbrev pub settled : (ℕ → Bool) → State → State
settled over s = pass_to (passed_to over s) s

-- what remains is the same
left_settled : (over : ℕ → Bool) (s : State) → moves_left over (settled over s) ≡ moves_left over s
unfolding moves_left passed_to
left_settled over s = moves_passed over s.migrated s.committed.entries (migrating s)

commit_settled : (over : ℕ → Bool) (s : State) → commit_writes over (settled over s) ≡ commit_writes over s
unfolding commit_writes remaining_writes
commit_settled over s = rw (left_settled over s) refl

-- a kind that is due is the first of the list, and leaves the rest
module _ (over : ℕ → Bool) (s : State) (any : 0 < entry_count s.pending) (next : migrating s ≡ true → s.migrated < length s.committed.entries → over (next_migration s).frame ≡ false) where
  abbrev Next : Kind → Type 0
  Next k = commit_writes over s ≡ k ∷ commit_writes over (after_kind k s)

  abbrev f : Bool
  f = is_flushed s.phase

  -- with no flush owed, then with no frame waiting
  calm_writes : (o : Bool) (w d t m : ℕ) → o ≡ false → writes_of o f w d t m ≡ work_of f w d t m
  calm_writes o w d t m e = rw e refl

  work : is_owed s.phase ≡ false → commit_writes over s ≡ work_of f (w over s) (d over s) s.tail_down (left over s)
  work calm = writes_are over s any ∙ calm_writes (is_owed s.phase) (w over s) (d over s) s.tail_down (left over s) calm

  quiet : is_owed s.phase ≡ false → w over s ≡ 0 → commit_writes over s ≡ work_of f 0 (d over s) s.tail_down (left over s)
  quiet calm h = work calm ∙ ap (λ (n : ℕ). work_of f n (d over s) s.tail_down (left over s)) h

  left_next : migrating s ≡ true → s.migrated < length s.committed.entries → moves_left over s ≡ suc (moves_left over (after_kind migration s))
  unfolding moves_left after_kind next_migration
  left_next m h = moves_cons over s.migrated s.committed.entries _ h (next m h)

  left_none : length s.committed.entries ≤ s.migrated → moves_left over s ≡ 0
  unfolding moves_left
  left_none h = moves_end over s.migrated s.committed.entries h

  after_header : commit_writes over (after_kind header s) ≡ flush ∷ []
  unfolding commit_writes after_kind empty
  after_header = refl

  step_one : (k : Kind) → Numbers over s k → Next k
  unfolding after_kind out_of moves_left
  step_one page h =
      let more : w over s ≡ suc (length (tail s.pending.waiting)) = sym (length_tail s.pending.waiting h.1) in
      let after = writes_are over (after_kind page s) any ∙ calm_writes (is_owed s.phase) (length (tail s.pending.waiting)) (d over s) s.tail_down (left over s) h.0 in
      work h.0 ∙ ap (λ (n : ℕ). work_of f n (d over s) s.tail_down (left over s)) more ∙ ap (λ (ks : List Kind). page ∷ ks) (sym after)
  step_one directory h =
      let after = writes_are over (after_kind directory s) any ∙ calm_writes (is_owed s.phase) (w over s) (d over s) (suc s.tail_down) (left over s) h.0
      ∙ ap (λ (n : ℕ). work_of f n (d over s) (suc s.tail_down) (left over s)) h.1 in
      quiet h.0 h.1 ∙ less_directory f (d over s) s.tail_down (left over s) h.2 ∙ ap (λ (ks : List Kind). directory ∷ ks) (sym after)
  step_one trailer h =
      let after = writes_are over (after_kind trailer s) any ∙ calm_writes (is_owed s.phase) (w over s) (d over s) (suc s.tail_down) (left over s) h.0
      ∙ ap (λ (n : ℕ). work_of f n (d over s) (suc s.tail_down) (left over s)) h.1 in
      quiet h.0 h.1 ∙ less_trailer f (d over s) s.tail_down (left over s) h.2 ∙ ap (λ (ks : List Kind). trailer ∷ ks) (sym after)
  step_one migration h =
      let rest : ℕ = moves_left over (after_kind migration s) in
      let after = writes_are over (after_kind migration s) any ∙ calm_writes (is_owed s.phase) (w over s) (d over s) s.tail_down rest h.0 ∙ ap (λ (n : ℕ). work_of f n (d over s) s.tail_down rest) h.1.0 in
      quiet h.0 h.1.0 ∙ less_migration f (d over s) s.tail_down (left over s) rest h.1.1 (left_next (at_migration over s h.0 h.1) h.2) ∙ ap (λ (ks : List Kind). migration ∷ ks) (sym after)
  step_one header h =
      quiet h.0 h.1.0 ∙ less_all f (d over s) s.tail_down (left over s) h.1.1 (left_none h.2) ∙ ap ends_of h.3 ∙ ap (λ (ks : List Kind). header ∷ ks) (sym after_header)
  step_one flush (inl o) =
      let p = after_owed s.phase o in
      let after = writes_are over (after_kind flush s) any ∙ calm p.0 p.1 in
      writes_are over s any ∙ ap (λ (t : Bool). writes_of t f (w over s) (d over s) s.tail_down (left over s)) o ∙ ap (λ (ks : List Kind). flush ∷ ks) (sym after)
    where
      calm : {a b : Bool} → a ≡ false → b ≡ f → writes_of a b (w over s) (d over s) s.tail_down (left over s) ≡ work_of f (w over s) (d over s) s.tail_down (left over s)
      calm e q = rw (e, q) refl
  step_one flush (inr h) =
      let p = after_made s.phase h.0 h.3 in
      let after = writes_are over (after_kind flush s) any ∙ ended p.0 p.1 in
      quiet h.0 h.1.0 ∙ less_all f (d over s) s.tail_down (left over s) h.1.1 (left_none h.2) ∙ ap ends_of h.3 ∙ ap (λ (ks : List Kind). flush ∷ ks) (sym after)
    where
      ended : {a b : Bool} → a ≡ false → b ≡ true → writes_of a b (w over s) (d over s) s.tail_down (left over s) ≡ header ∷ flush ∷ []
      ended e q = rw (e, q, h.1.0) (less_all true (d over s) s.tail_down (left over s) h.1.1 (left_none h.2))

  commit_next : (k : Kind) → advance_due s ≡ some k → Next k
  commit_next k e = step_one k (subst (NumbersOf over s) e (numbers over s any))

-- with none pending: the flush that is owed
module _ (over : ℕ → Bool) (s : State) (idle : entry_count s.pending ≡ 0) (due : is_owed s.phase ≡ true) where
  owed_first : advance_due s ≡ some flush
  unfolding advance_due
  owed_first = rw due refl

  owed_next : commit_writes over s ≡ flush ∷ commit_writes over (after_kind flush s)
  unfolding after_kind
  owed_next = commit_none over s idle ∙ ap (λ (t : Bool). cond t (flush ∷ []) []) due
      ∙ ap (λ (ks : List Kind). flush ∷ ks) (sym (commit_none over (after_kind flush s) idle ∙ ap (λ (t : Bool). cond t (flush ∷ []) []) (after_owed s.phase due).0))

-- ---- an advance, which works on the settled state, while the forecast is above 0

module _ (over : ℕ → Bool) (s : State) (above : 0 < forecast over s) where
  -- with none pending it tells that a flush is owed
  owed_told : entry_count s.pending ≡ 0 → is_owed s.phase ≡ true
  owed_told idle = go (is_owed s.phase) refl
    where
      go : (t : Bool) → is_owed s.phase ≡ t → t ≡ true
      go true e = refl
      go false e = absurd (omega (arith, above, forecast_none over s idle ∙ ap (λ (t : Bool). cond t 1 0) e))

  pub commit_due : (k : Kind) × (advance_due (settled over s) ≡ some k)
  commit_due = go (ℕ_discrete (entry_count s.pending) 0)
    where
      some_due : (o : Option Kind) → advance_due (settled over s) ≡ o → NumbersOf over (settled over s) o → (k : Kind) × (advance_due (settled over s) ≡ some k)
      some_due none e n = absurd n
      some_due (some k) e n = (k, e)

      go : Dec (entry_count s.pending ≡ 0) → (k : Kind) × (advance_due (settled over s) ≡ some k)
      go (yes idle) = (flush, owed_first over (settled over s) idle (owed_told idle))
      go (no z) = some_due (advance_due (settled over s)) refl (numbers over (settled over s) (omega (arith, z)))

  module _ (k : Kind) (e : advance_due (settled over s) ≡ some k) where
    -- it takes the first off the list
    pub commit_step : commit_writes over s ≡ k ∷ commit_writes over (after_kind k (settled over s))
    unfolding migrating
    commit_step = sym (commit_settled over s) ∙ go (ℕ_discrete (entry_count s.pending) 0)
      where
        same : (o : Option Kind) → o ≡ some k → o ≡ some flush → k ≡ flush
        same o p q = cc

        go : Dec (entry_count s.pending ≡ 0) → commit_writes over (settled over s) ≡ k ∷ commit_writes over (after_kind k (settled over s))
        go (yes idle) =
            let due = owed_told idle in
            let k-is : k ≡ flush = same (advance_due (settled over s)) e (owed_first over (settled over s) idle due) in
            rw k-is (owed_next over (settled over s) idle due)
        go (no z) = commit_next over (settled over s) (omega (arith, z)) (passed_next over s) k e

    -- the header write is the last but one, and the last is a flush
    pub last_flush : forecast over s ≡ 1 → k ≡ flush
    last_flush one = go (ℕ_discrete (entry_count s.pending) 0)
      where
        go : Dec (entry_count s.pending ≡ 0) → k ≡ flush
        go (yes idle) =
            let l : k ∷ commit_writes over (after_kind k (settled over s)) ≡ flush ∷ [] = sym commit_step ∙ commit_none over s idle ∙ ap (λ (t : Bool). cond t (flush ∷ []) []) (owed_told idle) in
            cc
        go (no z) = absurd (omega (arith, one, forecast_two over s (omega (arith, z))))

    pub last_header : forecast over s ≡ 2 → k ≡ header
    last_header two = go (ℕ_discrete (entry_count s.pending) 0)
      where
        few : (t : Bool) → cond t 1 0 ≤ 1
        few true = omega arith
        few false = omega arith

        go : Dec (entry_count s.pending ≡ 0) → k ≡ header
        go (yes idle) = absurd (omega (arith, two, forecast_none over s idle, few (is_owed s.phase)))
        go (no z) = let l : k ∷ commit_writes over (after_kind k (settled over s)) ≡ header ∷ flush ∷ [] = sym commit_step ∙ last_two over s (omega (arith, z)) two in cc

    pub only_header : k ≡ header → forecast over s ≡ 2
    unfolding forecast
    only_header h = ap length (commit_step ∙ ap (λ (j : Kind). j ∷ commit_writes over (after_kind j (settled over s))) h) ∙ after
      where
        after : length (header ∷ commit_writes over (after_kind header (settled over s))) ≡ 2
        after = unfold commit_writes after_kind empty in refl
