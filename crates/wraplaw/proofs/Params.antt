-- The parameters that a wrapper or a lender takes after the record and hands on, as a list. The wrapper takes the record by `&mut`, so its signature has one lifetime more, the first: what is numbered j in the by-value function's signature is numbered j + 1 in the wrapper's.
--     Param m          a parameter, at a by-value signature of m lifetimes.  `number`, `flag`, `shared`, `mutable`
--     raised           the list, as the wrapper takes it.        slots       its types
--     machine, args    the machine values that are passed (`Args.antt`), which are all that are (`passing`)
--     Same, Sames      two types of the same values, and two lists of such: they differ in the numbers of their lifetimes alone.  `down` and `up`: from the wrapper's list to the by-value one's, and back
-- Assumes nothing.
use mathlib.Core.Path.{◌≡◌, refl}
use Prim.Native.Nat.{ℕ, suc}
use mathlib.Core.List.{List, [], ◌∷◌, ◌++◌}
use lib.Dec.{eqb_refl}
use lib.ListN.{length}
use mir.Syntax.{Lifetime, named, imm, Width, w8, ty_bool, ty_int, ty_ref}
use mir.Val.{Val, bytes, vbool, vint}
use base.Fml.{Lft, fsep}
use contract.Lifetimes.{Lfts, Within}
use denote.Builtin.{u8, SliceRef, SliceRefMut}
use denote.Exit.{Last, left, yes}
use denote.Laws.{Is, Ises, Are, Spells, Tells, Tellss, valss}
use denote.Plain.{UInt, uint_vals, uint_Tells, Boolean, bool_vals, bool_Tells}
use denote.RattleType.{RattleType, Denots, Valss, flat, owns}
use denote.Signature.{Slot, plain, types_at}
use denote.Slice.{MutSlice, ShrSlice, slice_ty, slice_val, shr_slice_vals, mut_slice_vals}
use denote.Triple.End.{all, Fins, lasts_of}
use Rattle.wraplaw.proofs.Args.{Arg, direct, lent, vals}

-- an unsigned number; a bool; a `&'j [u8]`; a `&'j mut [u8]`
pub data Param (m : ℕ) : Type 0 where
  number : Width → Param m
  flag : Param m
  shared : (j : ℕ) → Within m j → Param m
  mutable : (j : ℕ) → Within m j → Param m

abbrev pub raised : {m : ℕ} → List (Param m) → List (Param (suc m))
raised [] = []
raised (number w ∷ ps) = number w ∷ raised ps
raised (flag ∷ ps) = flag ∷ raised ps
raised (shared j ok ∷ ps) = shared (suc j) ok ∷ raised ps
raised (mutable j ok ∷ ps) = mutable (suc j) ok ∷ raised ps

module _ {m : ℕ} where
  abbrev slot : Param m → Slot m
  slot (number w) = plain (λ _. UInt w)
  slot flag = plain (λ _. Boolean)
  slot (shared j ok) = SliceRef j ok u8 tt
  slot (mutable j ok) = SliceRefMut j ok u8 tt

  abbrev spell : (p : Param m) (κs : Lfts m) → ((slot p).row κs).Denot → List Val
  spell (number w) κs = uint_vals w
  spell flag κs = bool_vals
  spell (shared j ok) κs = shr_slice_vals
  spell (mutable j ok) κs = mut_slice_vals

  tells : (p : Param m) (κs : Lfts m) → Tells ((slot p).row κs) (Is ((slot p).row κs)) (spell p κs)
  tells (number w) κs = uint_Tells w
  tells flag κs = bool_Tells
  tells (shared j ok) κs = λ z vs is. is.0.0
  tells (mutable j ok) κs = λ z vs is. is.0.0

  abbrev arg : (p : Param m) (κs : Lfts m) (z : ((slot p).row κs).Denot) → Is ((slot p).row κs) z (spell p κs z) → Arg
  arg (number w) κs z is = direct (ty_int w) (vint w z) (eqb_refl (bytes w), record { fits = is.1 })
  arg flag κs z is = direct ty_bool (vbool z) (tt, tt)
  arg (shared j ok) κs z is = direct (slice_ty (ty_ref (named j) imm (ty_int w8))) (slice_val z.ref_ptr (length z.now)) (tt, (tt, (record { fits = is.0.1.0 }, tt)))
  arg (mutable j ok) κs z is = lent (named j) (ty_int w8) z.ref_ptr.0 z.ref_ptr.1 (length z.now) is.0.1.0

  passed : (p : Param m) (κs : Lfts m) (z : ((slot p).row κs).Denot) (is : Is ((slot p).row κs) z (spell p κs z)) → spell p κs z ≡ vals (arg p κs z is ∷ [])
  passed (number w) κs z is = refl
  passed flag κs z is = refl
  passed (shared j ok) κs z is = refl
  passed (mutable j ok) κs z is = refl

  -- ---- the same of a list
  abbrev pub slots : List (Param m) → List (Slot m)
  slots [] = []
  slots (p ∷ ps) = slot p ∷ slots ps

  abbrev pub spells : (ps : List (Param m)) (κs : Lfts m) → Spells (types_at (slots ps) κs)
  spells [] κs = tt
  spells (p ∷ ps) κs = (spell p κs, spells ps κs)

  pub all_tell : (ps : List (Param m)) (κs : Lfts m) → Tellss (types_at (slots ps) κs) (Ises (types_at (slots ps) κs)) (spells ps κs)
  all_tell [] κs = tt
  all_tell (p ∷ ps) κs = (tells p κs, all_tell ps κs)

  abbrev pub machine : (ps : List (Param m)) (κs : Lfts m) → Denots (types_at (slots ps) κs) → Valss (types_at (slots ps) κs)
  machine ps κs = valss (types_at (slots ps) κs) (spells ps κs)

  -- they are values of their types
  abbrev pub Passed : (ps : List (Param m)) (κs : Lfts m) → Denots (types_at (slots ps) κs) → Type 0
  Passed ps κs bs = Are (types_at (slots ps) κs) (Ises (types_at (slots ps) κs)) bs (machine ps κs bs)

  abbrev pub args : (ps : List (Param m)) (κs : Lfts m) (bs : Denots (types_at (slots ps) κs)) → Passed ps κs bs → List Arg
  args [] κs bs are = []
  args (p ∷ ps) κs bs are = arg p κs bs.0 are.0 ∷ args ps κs bs.1 are.1

  pub passing : (ps : List (Param m)) (κs : Lfts m) (bs : Denots (types_at (slots ps) κs)) (are : Passed ps κs bs) → flat (types_at (slots ps) κs) (machine ps κs bs) ≡ vals (args ps κs bs are)
  passing [] κs bs are = refl
  passing (p ∷ ps) κs bs are = λ i. passed p κs bs.0 are.0 i ++ passing ps κs bs.1 are.1 i

-- ---- two types of the same values: what is owned, bound and said at exit is the same
pub record Same (R R' : RattleType) : Type 1 where
  pub to : R.Denot → R'.Denot
  pub owned : (z : R.Denot) (vs : List Val) → R.own_val z vs ≡ R'.own_val (to z) vs
  pub bound : (z : R.Denot) → Last (R'.exit yes) (to z) → Last (R.exit yes) z
  pub said : (z : R.Denot) (w : Last (R'.exit yes) (to z)) → left (R'.exit yes) (to z) w ≡ left (R.exit yes) z (bound z w)

abbrev itself : (R : RattleType) → Same R R
itself R = record { to = λ z. z; owned = λ z vs. refl; bound = λ z w. w; said = λ z w. refl }

-- a slice reference's type, at another number of its lifetime
abbrev same_shared : (a b : Lifetime) (κ : Lft) → Same (ShrSlice a κ u8) (ShrSlice b κ u8)
same_shared a b κ = record { to = λ z. z; owned = λ z vs. refl; bound = λ z w. w; said = λ z w. refl }

abbrev same_mutable : (a b : Lifetime) (κ : Lft) → Same (MutSlice a κ u8) (MutSlice b κ u8)
same_mutable a b κ = record { to = λ z. z; owned = λ z vs. refl; bound = λ z w. w; said = λ z w. refl }

pub data Sames {m n : ℕ} (κs : Lfts m) (κs' : Lfts n) : List (Slot m) → List (Slot n) → Type 2 where
  none : Sames κs κs' [] []
  both : (s : Slot m) (s' : Slot n) (ss : List (Slot m)) (ss' : List (Slot n)) → Same (s.row κs) (s'.row κs') → Sames κs κs' ss ss' → Sames κs κs' (s ∷ ss) (s' ∷ ss')

module _ {m : ℕ} (κs : Lfts (suc m)) where
  abbrev pub down : (ps : List (Param m)) → Sames κs κs.1 (slots (raised ps)) (slots ps)
  down [] = none
  down (number w ∷ ps) = both _ _ _ _ (itself (UInt w)) (down ps)
  down (flag ∷ ps) = both _ _ _ _ (itself Boolean) (down ps)
  down (shared j ok ∷ ps) = both _ _ _ _ (same_shared (named (suc j)) (named j) _) (down ps)
  down (mutable j ok ∷ ps) = both _ _ _ _ (same_mutable (named (suc j)) (named j) _) (down ps)

  abbrev pub up : (ps : List (Param m)) → Sames κs.1 κs (slots ps) (slots (raised ps))
  up [] = none
  up (number w ∷ ps) = both _ _ _ _ (itself (UInt w)) (up ps)
  up (flag ∷ ps) = both _ _ _ _ (itself Boolean) (up ps)
  up (shared j ok ∷ ps) = both _ _ _ _ (same_shared (named j) (named (suc j)) _) (up ps)
  up (mutable j ok ∷ ps) = both _ _ _ _ (same_mutable (named j) (named (suc j)) _) (up ps)

module _ {m n : ℕ} {κs : Lfts m} {κs' : Lfts n} where
  abbrev pub values : {ss : List (Slot m)} {ss' : List (Slot n)} → Sames κs κs' ss ss' → Denots (types_at ss κs) → Denots (types_at ss' κs')
  values none bs = tt
  values (both s s' ss ss' p ps) bs = (p.to bs.0, values ps bs.1)

  abbrev pub words : {ss : List (Slot m)} {ss' : List (Slot n)} → Sames κs κs' ss ss' → Valss (types_at ss κs) → Valss (types_at ss' κs')
  words none vss = tt
  words (both s s' ss ss' p ps) vss = (vss.0, words ps vss.1)

  pub same_words : {ss : List (Slot m)} {ss' : List (Slot n)} (ps : Sames κs κs' ss ss') (vss : Valss (types_at ss κs)) → flat (types_at ss κs) vss ≡ flat (types_at ss' κs') (words ps vss)
  same_words none vss = refl
  same_words (both s s' ss ss' p ps) vss = λ i. vss.0 ++ same_words ps vss.1 i

  pub same_owned : {ss : List (Slot m)} {ss' : List (Slot n)} (ps : Sames κs κs' ss ss') (bs : Denots (types_at ss κs)) (vss : Valss (types_at ss κs)) → owns (types_at ss κs) bs vss ≡ owns (types_at ss' κs') (values ps bs) (words ps vss)
  same_owned none bs vss = refl
  same_owned (both s s' ss ss' p ps) bs vss = λ i. fsep (p.owned bs.0 vss.0 i) (same_owned ps bs.1 vss.1 i)

  -- the last values, back
  abbrev pub finals : {ss : List (Slot m)} {ss' : List (Slot n)} (ps : Sames κs κs' ss ss') (bs : Denots (types_at ss κs)) → Fins κs' ss' (all yes ss') (values ps bs) → Fins κs ss (all yes ss) bs
  finals none bs ws = tt
  finals (both s s' ss ss' p ps) bs ws = (p.bound bs.0 ws.0, finals ps bs.1 ws.1)

  pub same_said : {ss : List (Slot m)} {ss' : List (Slot n)} (ps : Sames κs κs' ss ss') (bs : Denots (types_at ss κs)) (ws : Fins κs' ss' (all yes ss') (values ps bs)) → lasts_of κs' ss' (all yes ss') (values ps bs) ws ≡ lasts_of κs ss (all yes ss) bs (finals ps bs ws)
  same_said none bs ws = refl
  same_said (both s s' ss ss' p ps) bs ws = λ i. fsep (p.said bs.0 ws.0 i) (same_said ps bs.1 ws.1 i)
