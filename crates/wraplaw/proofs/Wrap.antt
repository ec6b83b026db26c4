-- The laws of wrappers. A wrapper takes a record by `&mut` and calls a function that takes it by value. It either stores back the record that the function returns in a struct beside the answer, or only reads it:
--     pub fn w(s: &mut S, p.., q..) -> R { let d = f(*s, p.., q..); *s = d.store; d.answer }        wrapper
--     pub fn w(s: &mut S, p.., q..) -> R { f(*s, p.., q..) }                                        reader
-- They hold of any crate: the record S is any declared type of plain data, the answer of a wrapper any plain data and that of a reader any type of one machine value that holds no reference, and the other parameters are those of `Params.antt`.
-- Both functions have no `requires` and one `ensures`, a fact. The wrapper's may speak of the record at entry and at exit, where a reader's is the same.
--     Promise          what such a contract promises.        Keeping      the contract, as a triple
--     Core, Wrapper    the two signatures: the by-value function's, and the wrapper's, at one lifetime more
--     calls_core       the walk that both kinds share, from the copy of the record to the call's result
--     reads, wraps     the walk of a reader's MIR, and of a wrapper's, whatever the parameters
--     Answering        how the by-value function of a wrapper answers
--     reader, wrapper  the laws: a function with this MIR, whose promise follows from its callee's, meets its contract
-- Assumes `Logic`.
-- what a wrapper's proof names of the libraries, passed on
pub use mathlib.Core.Path.{refl}
pub use mathlib.Core.List.{List, [], ◌∷◌}
pub use mir.Syntax.{w8, w16, w32, w64}
pub use denote.Builtin.{u32}
pub use denote.Plain.{uint_Lawful}
pub use denote.Struct.Laws.{lawful as Struct-Lawful}
pub use denote.Enum.Laws.{lawful as Enum-Lawful}
pub use Rattle.wraplaw.proofs.Params.{Param, number, flag, shared, mutable}
use mathlib.Core.List.{◌++◌}
use mathlib.Core.Path.{ap, ◌≡◌, sym, ◌∙◌, subst}
use Prim.Native.Nat.{ℕ, zero, suc}
use lib.Dec.{T as Holds}
use lib.ListN.{get_or}
use base.Fraction.{full_share}
use seplogic.Ra.Ura.{Ura}
use mir.Fields.{get_v}
use mir.Syntax.{named, mut, Ty, ty_ref, Callee as Called, Fn, Local, local, value_local, field, deref, Place, place, copy, rv_opd, Body as Code, seq, assign, call, return}
use mir.Val.{Val, WT, has_ty, vptr, of_list}
use base.Fml.{Lft, Share, Fml, fsep, fat, froom, fdies, flft, fobs, fauth, fres, fbor, fobor}
use base.Logic.{SProp, emp, id⊢, ent, sep, ex, via, fst∗}
use prog.Memory.{field_at}
use prog.Model.{Model}
use prog.Routine.{Routine, Env as REnv}
use prog.Wp.{Calls, Loops, WpFn, Env, Closed}
use types.Logic.{Logic, sem}
use contract.Lifetimes.{Lfts, Shares, toks}
use contract.Monad.{fact_i, fact}
use contract.Running.{Running, tables, tables_of}
use types.Kit.{Go, Item, runs, lands, at_ret, Post, Goal, Soaks, Seq, Step, step, ‵, raw, some, later, ◌⊛◌, mean, ⋆, nth, del, pull, frees, prop, aim, ◌$◌, ◌∵◌, !, qed, by, move, drop, use0, use1, split, split3, join, pick, regoal, fsplit, fsplit3, fjoin, fjoin3, show, frame, await, updating, now as at_once, done}
use types.Part.{whole, sub, look_in}
use types.Run.{look, look_raw, init, store_raw, stop, hop, fld, from, load, of_opd, and_then, assigns, land, returns, free0}
use types.SemTy.{Body}
use sound.WpLaws.{FmC, fm_of, fm→mono_c}
use denote.Exit.{unchanged, yes}
use denote.Laws.{valss, Is, Ises, Are, Spells, Tellss, Typed, Lawful, shows}
use denote.Memory.{mem, cell_at, pointee}
use denote.RattleType.{RattleType, Denots, Valss, mirs, flat, owns}
use denote.Ref.{MutBor, MutRef, mut_vals, mut_Tells}
use denote.Shadow.{Pure, makes_shadow}
use denote.Signature.{types_at, Slot, plain, mut_ref_to}
use denote.Steps.{only, peeks, opens, closes, owned, facts, heard, said}
use denote.Struct.Declared.{Declared, fields, shape, row}
use denote.Struct.Laws as LL
use denote.Struct.Steps.{spelt}
use denote.Struct.Struct.{Plains, AreAll, layout, to_tys, typeds}
use denote.Triple.Call.{calls_from}
use denote.Triple.Clauses.{Ended, Clauses, Lasts, lasts, AtExit, at_exit, closing, ensured}
use denote.Triple.End.{all, Fins, lasts_of}
use denote.Triple.Entry.{Args, Res, on_entry}
use denote.Triple.Spec.{triple_of, Back}
use denote.Triple.Statement.{Triple, Contract}
use denote.Triple.Table.{entered, cited}
use Rattle.wraplaw.proofs.Walk.{onto, reads_as}
use Rattle.wraplaw.proofs.Args.{Arg, no_local, Blocks, env, skip, At, get_skip, vals, locals, params, temps, operands, lends, rooms, cells, finds_at, free_all, enters, readable, operands_read, lends_all}
use Rattle.wraplaw.proofs.Params.{raised, slots, spells, all_tell, machine, Passed, args, passing, down, values, words, same_words, same_owned, finals, same_said}

-- contracts of one fact and no `requires`, which is what a wrapper's and its callee's are: φ is what is promised
abbrev pub Promise : Ended → Type 1
Promise T = (κs : Lfts T.signature.lifetimes) → Args T.signature κs → Res T.signature κs → AtExit T κs → Type 0

abbrev pub promised : {M : Type 1} (𝓤 : Ura M) (T : Ended) → Promise T → Clauses 𝓤 T
promised 𝓤 T φ κs a = record { ghost = Unit {0}; requires = λ g. emp 𝓤; ensures = λ g r e. fact 𝓤 (φ κs a r e) }

abbrev pub Cited : {M : Type 1} {𝓤 : Ura M} (𝓛 : Logic 𝓤) (T : Ended) → Clauses 𝓤 T → Contract 𝓤
Cited 𝓛 T c = triple_of 𝓛 T.signature (closing 𝓛 T c)

abbrev pub Keeping : {M : Type 1} {𝓤 : Ura M} (𝓛 : Logic 𝓤) (T : Ended) → Promise T → Contract 𝓤
Keeping {𝓤 = 𝓤} 𝓛 T φ = Cited 𝓛 T (promised 𝓤 T φ)

-- a local that holds a value is freed
module _ {M : Type 1} {𝓤 : Ura M} {𝓛 : Logic 𝓤} {K : Type 0} {Γ : List (Item 𝓤)} where
  open 𝓛 use {H}

  pub gone : K → (n : ℕ) {τ : Ty} {b : ℕ} {v : Val} {E : Env 𝓤 H} {g : Goal 𝓤 H} → nth 𝓛 n Γ ≡ ‵ (fat full_share τ b zero v) → nth 𝓛 n (del 𝓛 n Γ) ≡ ‵ (fdies τ b)
      → Step K 𝓛 (del 𝓛 n (del 𝓛 n Γ)) (frees E g) Γ (frees ((τ, b) ∷ E) g)
  gone t n {τ} {b} {v} {E} {g} e e' = step (λ s. by t (qed 𝓛 (raw (⋆ 𝓛 Γ) ∷ []) ∵
      use1 𝓛 (‵ (fat full_share τ b zero v) ⊛ raw (⋆ 𝓛 (del 𝓛 n Γ))) (subst (λ (i : Item 𝓤). ent 𝓤 (⋆ 𝓛 Γ) (sep 𝓤 (mean 𝓛 i) (⋆ 𝓛 (del 𝓛 n Γ)))) e (pull 𝓛 n Γ)) $ split ! $
      use1 𝓛 (‵ (froom τ b zero)) (𝓛.laws.at_room τ b zero v) $ move ! (1 ∷ []) $
      use1 𝓛 (‵ (fdies τ b) ⊛ raw (⋆ 𝓛 (del 𝓛 n (del 𝓛 n Γ)))) (subst (λ (i : Item 𝓤). ent 𝓤 (⋆ 𝓛 (del 𝓛 n Γ)) (sep 𝓤 (mean 𝓛 i) (⋆ 𝓛 (del 𝓛 n (del 𝓛 n Γ))))) e' (pull 𝓛 n (del 𝓛 n Γ))) $ split ! $
      move ! (1 ∷ []) $ use1 𝓛 (raw (aim 𝓤 H (frees E g))) s.prf $ move ! (2 ∷ 1 ∷ []) $ join ! $ done !))

module _ (S : Declared) (L : LL.Laws S) (pl : Plains (fields S)) where
  -- the borrow, once it is open: what closing it takes
  abbrev Held : Lft → Share → MutBor S.D → Fml
  Held κ q x = fsep (fobor κ q (Body (mem (row S)) x.ref_ptr.0 x.ref_ptr.1 x.ghost_name)) (fsep (fobs x.ghost_name ((row S).coded.code x.now)) (fauth x.ghost_name ((row S).coded.code x.now)))

  -- what is left of the borrow at the end, where the record is then h: that h is the last value, and the borrow, shut. It is what the type of a `&mut` says at exit
  abbrev pub Settled : Lft → MutBor S.D → S.D → Fml
  Settled κ x h = fsep (fres x.ghost_name ((row S).coded.code h)) (fbor κ (Body (mem (row S)) x.ref_ptr.0 x.ref_ptr.1 x.ghost_name))

  -- the two signatures: the by-value function's, of m lifetimes, and the wrapper's, of one more. Their results hold no reference, so that all last values are settled at exit
  abbrev pub Core : (m : ℕ) → List (Slot m) → RattleType → Ended
  Core m ss R = record { signature = record { lifetimes = m; outlives = []; params = plain (λ _. row S) ∷ ss; result = plain (λ _. R) }; kept = (yes, all yes ss) }

  abbrev pub Wrapper : (m : ℕ) → List (Slot (suc m)) → RattleType → Ended
  Wrapper m ss R = record { signature = record { lifetimes = suc m; outlives = []; params = mut_ref_to (0 ∷ []) tt (plain (λ _. row S)) ∷ ss; result = plain (λ _. R) }; kept = (yes, all yes ss) }

  -- what a callee leaves at the machine value v: a result r z, and Out z
  abbrev GivenBack : {M : Type 1} {𝓤 : Ura M} (𝓛 : Logic 𝓤) (R : RattleType) (Z : Type 0) → (Z → R.Denot) → (Z → SProp 𝓤) → Val → SProp 𝓤
  GivenBack {𝓤 = 𝓤} 𝓛 R Z r Out v = 𝓛.H.⇛ (ex 𝓤 (λ (z : Z). sep 𝓤 (sem 𝓛 (R.own_val (r z) (v ∷ []))) (Out z)))

  module _ {M : Type 1} {𝓤 : Ura M} {𝓛 : Logic 𝓤} {K : Type 0} {Γ : List (Item 𝓤)} {G : Goal 𝓤 𝓛.H} where
    -- it is opened, and the record's cell is had; and shut, at whatever record the cell then holds
    opened : K → Soaks G → {κ : Lft} {q : Share} (x : MutBor S.D) {vs : List Val}
        → (Is (row S) x.now (LL.vals S L x.now) → Seq K 𝓛 (‵ (cell_at full_share (row S).mir (LL.vals S L x.now) x.ref_ptr.0 x.ref_ptr.1) ∷ ‵ (Held κ q x) ∷ Γ) G)
        → Seq K 𝓛 (‵ ((MutRef (named 0) κ (row S)).own_val x vs) ∷ ‵ (flft κ q) ∷ Γ) G
    opened t z x k =
        fsplit3 t $ drop t $ opens t z (row S) x.ref_ptr.0 x.ref_ptr.1 (λ us. spelt t (row S) (Is (row S)) (shows 𝓛 (row S)) (LL.vals S L) (LL.tells S L) full_share x.now us x.ref_ptr.0 x.ref_ptr.1 $
        move t (1 ∷ []) $ facts t (row S) (Is (row S)) (shows 𝓛 (row S)) x.now (LL.vals S L x.now) (λ is. move t (1 ∷ 2 ∷ 3 ∷ []) $ fjoin3 t $ move t (1 ∷ 0 ∷ []) $ k is))

    shut : K → Soaks G → {κ : Lft} {q : Share} (x : MutBor S.D) (h : S.D) → Is (row S) h (LL.vals S L h)
        → Step K 𝓛 (‵ (Settled κ x h) ∷ ‵ (flft κ q) ∷ Γ) G (‵ (cell_at full_share (row S).mir (LL.vals S L h) x.ref_ptr.0 x.ref_ptr.1) ∷ ‵ (Held κ q x) ∷ Γ) G
    shut t z x h is =
        step (λ s. move t (1 ∷ []) $ fsplit3 t $ owned t (row S) (Is (row S)) (LL.makes S pl 𝓛) h (LL.vals S L h) is $ move t (4 ∷ 0 ∷ []) $ closes t z (row S) h (LL.vals S L h) x.ref_ptr.0 x.ref_ptr.1 $
        use1 𝓛 (‵ (fres x.ghost_name ((row S).coded.code h))) (𝓛.names.obs-res x.ghost_name ((row S).coded.code h)) $ fjoin t $ s)

  -- ---- the callee, whose result is at R
  module _ (R : RattleType) (m : ℕ) (ss : List (Slot m)) {M : Type 1} {𝓤 : Ura M} (𝓛 : Logic 𝓤) (φ : Promise (Core m ss R)) (κs : Lfts m) (qs : Shares m) (h : S.D) (bs : Denots (types_at ss κs)) (vss : Valss (types_at ss κs)) where
    open 𝓛 use {H}

    abbrev T : Ended
    T = Core m ss R

    abbrev asks : (Keeping 𝓛 T φ).Ghost
    asks = ((κs, qs, tt, (h, bs), (LL.vals S L h, vss)), tt)

    -- a result and last values
    abbrev Came : Type 0
    Came = R.Denot × Lasts T κs (h, bs)

    -- what the callee leaves beside its result: what says the others' last values, the other tokens, and its promise
    abbrev Left : Came → SProp 𝓤
    Left z = sep 𝓤 (sem 𝓛 (lasts_of κs ss (all yes ss) bs z.1.1)) (sep 𝓤 (toks 𝓛 m κs qs) (fact 𝓤 (φ κs (h, bs) z.0 (at_exit T κs (h, bs) z.1))))

    abbrev After : Val → SProp 𝓤
    After = GivenBack 𝓛 R Came (λ z. z.0) Left

    came : (v : Val) → ent 𝓤 ((Keeping 𝓛 T φ).post asks v) (After v)
    came v =
        qed 𝓛 (later (some (λ (r : R.Denot). (raw (toks 𝓛 m κs qs) ⊛ ‵ (R.own_val r (v ∷ []))) ⊛ some (λ (ws : Lasts T κs (h, bs)). ‵ (lasts T κs (h, bs) ws) ⊛ raw (fact 𝓤 (φ κs (h, bs) r (at_exit T κs (h, bs) ws)))))) ∷ []) ∵ updating ! $ await ! tt $ pick ! (λ r.
        split ! $ split ! $ move ! (2 ∷ []) $ pick ! (λ ws. split ! $ fsplit ! $ drop ! $ at_once ! $
        -- [the others' last values; the promise; the other tokens; what the result owns]
        show ! (λ (z : Came). sep 𝓤 (sem 𝓛 (R.own_val z.0 (v ∷ []))) (Left z)) (r, ws) $ move ! (3 ∷ 0 ∷ 2 ∷ 1 ∷ []) $ done !))

    handed : (C : Calls 𝓤 H) → FmC 𝓤 H 𝓛.laws C → (j : Called) → Triple 𝓤 (C j) (Keeping 𝓛 T φ) → Is (row S) h (LL.vals S L h)
        → ent 𝓤 (sep 𝓤 (toks 𝓛 m κs qs) (sem 𝓛 (owns (types_at ss κs) bs vss))) (C j (LL.val S L h ∷ flat (types_at ss κs) vss) After)
    handed C fm j known was =
        via 𝓤 ((Keeping 𝓛 T φ).pre asks)
        (qed 𝓛 (raw (toks 𝓛 m κs qs) ∷ ‵ (owns (types_at ss κs) bs vss) ∷ []) ∵ move ! (1 ∷ []) $ owned ! (row S) (Is (row S)) (LL.makes S pl 𝓛) h (LL.vals S L h) was $ fjoin ! $ move ! (1 ∷ 0 ∷ []) $ join ! $ frame ! $ use0 𝓛 (raw (emp 𝓤)) (id⊢ 𝓤 (emp 𝓤)) $ done !)
        (via 𝓤 (C j (LL.val S L h ∷ flat (types_at ss κs) vss) ((Keeping 𝓛 T φ).post asks)) (known asks)
        (fm→mono_c 𝓤 H 𝓛.laws C fm j (LL.val S L h ∷ flat (types_at ss κs) vss) ((Keeping 𝓛 T φ).post asks) After came))

  -- ---- the wrapper, whose result is at R
  module _ (m : ℕ) (ss : List (Slot (suc m))) (R : RattleType) {M : Type 1} {𝓤 : Ura M} (𝓛 : Logic 𝓤) (φ : Promise (Wrapper m ss R)) where
    open 𝓛 use {H}

    abbrev T' : Ended
    T' = Wrapper m ss R

    module _ (κs : Lfts (suc m)) (qs : Shares (suc m)) (x : MutBor S.D) (bs : Denots (types_at ss κs)) (vss : Valss (types_at ss κs)) where
      abbrev bound : (Keeping 𝓛 T' φ).Ghost
      bound = ((κs, qs, tt, (x, bs), (mut_vals x, vss)), tt)

      abbrev Said : R.Denot → Lasts T' κs (x, bs) → Type 0
      Said r ws = φ κs (x, bs) r (at_exit T' κs (x, bs) ws)

      ends : (v : Val) (h : S.D) (r : R.Denot) (ws : Fins κs ss (all yes ss) bs) (Ls : Fml) → Ls ≡ lasts_of κs ss (all yes ss) bs ws → (ψ : Type 0) → (ψ → Said r (h, ws))
          → ent 𝓤 (⋆ 𝓛 (‵ (Settled κs.0 x h) ∷ ‵ (flft κs.0 qs.0) ∷ ‵ (R.own_val r (v ∷ [])) ∷ raw (sep 𝓤 (sem 𝓛 Ls) (sep 𝓤 (toks 𝓛 m κs.1 qs.1) (fact 𝓤 ψ))) ∷ [])) ((Keeping 𝓛 T' φ).post bound v)
      ends v h r ws Ls ls ψ says =
          qed 𝓛 (‵ (Settled κs.0 x h) ∷ ‵ (flft κs.0 qs.0) ∷ ‵ (R.own_val r (v ∷ [])) ∷ (‵ Ls ⊛ raw (toks 𝓛 m κs.1 qs.1) ⊛ raw (fact 𝓤 ψ)) ∷ []) ∵ updating ! $ at_once ! $
          show ! (λ (r' : R.Denot). sep 𝓤 (Back 𝓛 T'.signature bound.0 v r') (ensured 𝓛 T' (promised 𝓤 T' φ) κs (x, bs) tt r')) r $ move ! (3 ∷ []) $ split3 ! $
          -- [the others' last values; their tokens; the callee's promise; the record's last value; its token; what the result owns]
          move ! (4 ∷ 1 ∷ 5 ∷ []) $ join ! $ join ! $ frame ! $
          show ! (λ (ws' : Lasts T' κs (x, bs)). sep 𝓤 (sem 𝓛 (lasts T' κs (x, bs) ws')) (fact 𝓤 (Said r ws'))) (h, ws) $
          use1 𝓛 (‵ (lasts_of κs ss (all yes ss) bs ws)) (subst (λ (P : Fml). ent 𝓤 (sem 𝓛 Ls) (sem 𝓛 P)) ls (id⊢ 𝓤 _)) $ move ! (1 ∷ []) $ heard ! ψ (λ y. move ! (1 ∷ 0 ∷ []) $ fjoin ! $ use0 𝓛 (raw (fact 𝓤 (Said r (h, ws)))) (fact_i 𝓤 (Said r (h, ws)) (emp 𝓤) (says y)) $ move ! (1 ∷ 0 ∷ []) $ done !)

    begins : (C : Calls 𝓤 H) (Λ : Loops 𝓤 H) (fn : Fn) (sp : (κs : Lfts (suc m)) → Spells (types_at ss κs)) → ((κs : Lfts (suc m)) → Tellss (types_at ss κs) (Ises (types_at ss κs)) (sp κs))
        → ((κs : Lfts (suc m)) (qs : Shares (suc m)) (x : MutBor S.D) (bs : Denots (types_at ss κs)) → Are (types_at ss κs) (Ises (types_at ss κs)) bs (valss (types_at ss κs) (sp κs) bs)
        → Seq (Go {0}) 𝓛 (‵ ((MutRef (named 0) κs.0 (row S)).own_val x (mut_vals x)) ∷ ‵ (flft κs.0 qs.0) ∷ raw (toks 𝓛 m κs.1 qs.1) ∷ ‵ (owns (types_at ss κs) bs (valss (types_at ss κs) (sp κs) bs)) ∷ [])
        (prop (WpFn 𝓤 H C Λ fn (vptr x.ref_ptr.0 x.ref_ptr.1 ∷ flat (types_at ss κs) (valss (types_at ss κs) (sp κs) bs)) ((Keeping 𝓛 T' φ).post (bound κs qs x bs (valss (types_at ss κs) (sp κs) bs))))))
        → Triple 𝓤 (WpFn 𝓤 H C Λ fn) (Keeping 𝓛 T' φ)
    begins C Λ fn sp tl k y =
        let κs : Lfts (suc m) = y.0.0 in
        let x : MutBor S.D = y.0.3.0 in
        let bs : Denots (types_at ss κs) = y.0.3.1 in
        let us : Valss (types_at ss κs) = valss (types_at ss κs) (sp κs) bs in
        via 𝓤 (on_entry 𝓛 T'.signature κs y.0.1 (x, bs) y.0.4) (fst∗ 𝓤 (on_entry 𝓛 T'.signature κs y.0.1 (x, bs) y.0.4) (emp 𝓤))
        (said 𝓛 T'.signature κs y.0.1 (mut_vals, sp κs) (mut_Tells (named 0) κs.0 (row S), tl κs) (x, bs)
        (λ ws. WpFn 𝓤 H C Λ fn (flat (types_at T'.signature.params κs) ws) ((Keeping 𝓛 T' φ).post ((κs, y.0.1, tt, (x, bs), ws), y.1))) y.0.4
        (λ are. qed 𝓛 ((‵ (flft κs.0 y.0.1.0) ⊛ raw (toks 𝓛 m κs.1 y.0.1.1)) ∷ ‵ (fsep ((MutRef (named 0) κs.0 (row S)).own_val x (mut_vals x)) (owns (types_at ss κs) bs us)) ∷ []) ∵ split ! $ move ! (2 ∷ []) $ fsplit ! $ move ! (0 ∷ 2 ∷ 3 ∷ []) $
        k κs y.0.1 x bs are.1))

  -- ---- the record is copied out of its cell, the slices are lent, and the callee is called: the way that both kinds of wrapper go. n is the local of *s, and t the first of what is lent
  abbrev asked_body : Called → List Arg → ℕ → ℕ → Place → Code → Code
  asked_body j as₀ n t d last = seq (assign (place n []) (rv_opd (copy (place 1 (deref (layout (shape S)) ∷ []))))) (lends 2 t as₀ (seq (call j (copy (place n []) ∷ operands 2 t as₀) d) last))

  abbrev ref_ty : Ty
  ref_ty = ty_ref (named 0) mut (pointee (row S).written)

  abbrev reader_locals : Ty → List Arg → List Local
  reader_locals τ₀ as₀ = local τ₀ value_local ∷ local ref_ty value_local ∷ (locals (params as₀) ++ (local (layout (shape S)) value_local ∷ (locals (temps as₀) ++ [])))

  abbrev reader_body : Called → List Arg → Code
  reader_body j as₀ = asked_body j as₀ (suc (suc (skip (locals (params as₀)) 0))) (suc (suc (skip (locals (params as₀)) 1))) (place 0 []) return

  module _ {M : Type 1} {𝓤 : Ura M} (𝓛 : Logic 𝓤) (C : Calls 𝓤 𝓛.H) (Λ : Loops 𝓤 𝓛.H) (fm : FmC 𝓤 𝓛.H 𝓛.laws C) (R : RattleType) (j : Called) (as₀ : List Arg) (κ : Lft) (q : Share) (x : MutBor S.D) (Toks : SProp 𝓤) (Owns : Fml) (Z : Type 0) (r : Z → R.Denot) (Out : Z → SProp 𝓤) where
    -- what the callee does with the record, once it is known to be one
    open 𝓛 use {H}

    abbrev Calling : Type 1
    Calling = Is (row S) x.now (LL.vals S L x.now) → ent 𝓤 (sep 𝓤 Toks (sem 𝓛 Owns)) (C j (LL.val S L x.now ∷ vals as₀) (GivenBack 𝓛 R Z r Out))

    -- _1, room for _0, and what the function was handed
    abbrev entered_with : Ty → ℕ → ℕ → List (Item 𝓤)
    entered_with τ₀ l₀ l₁ = ‵ (fat full_share ref_ty l₁ zero (vptr x.ref_ptr.0 x.ref_ptr.1)) ∷ ‵ (fdies ref_ty l₁) ∷ ‵ (froom τ₀ l₀ zero) ∷ ‵ (fdies τ₀ l₀) ∷ ‵ ((MutRef (named 0) κ (row S)).own_val x (mut_vals x)) ∷ ‵ (flft κ q) ∷ raw Toks ∷ ‵ Owns ∷ []

    -- what the callee gives, the record's cell, what closing takes, _1, room for _0, and *s
    abbrev answered_with : Ty → ℕ → ℕ → ℕ → Val → Z → List (Item 𝓤)
    answered_with τ₀ l₀ l₁ lˢ v z = ‵ (R.own_val (r z) (v ∷ [])) ∷ raw (Out z) ∷ ‵ (cell_at full_share (row S).mir (LL.vals S L x.now) x.ref_ptr.0 x.ref_ptr.1) ∷ ‵ (Held κ q x)
        ∷ ‵ (fat full_share ref_ty l₁ zero (vptr x.ref_ptr.0 x.ref_ptr.1)) ∷ ‵ (fdies ref_ty l₁) ∷ ‵ (froom τ₀ l₀ zero) ∷ ‵ (fdies τ₀ l₀) ∷ ‵ (fat full_share (layout (shape S)) lˢ zero (LL.val S L x.now)) ∷ ‵ (fdies (layout (shape S)) lˢ) ∷ []

    calls_core : Calling → (n t : ℕ) (d : Place) (last : Code) (E : Env 𝓤 H) (p : Post 𝓤 H) (τ₀ : Ty) (l₀ l₁ lˢ : ℕ) (bs : Blocks (locals (params as₀))) (ts : Blocks (locals (temps as₀)))
        → get_or E 1 no_local ≡ (ref_ty, l₁) → get_or E n no_local ≡ (layout (shape S), lˢ) → At E 2 (locals (params as₀)) bs → At E t (locals (temps as₀)) ts → (Δ : List (Item 𝓤))
        → (Is (row S) x.now (LL.vals S L x.now) → (v : Val) (z : Z) → Seq (Go {0}) 𝓛 (answered_with τ₀ l₀ l₁ lˢ v z ++ (Δ ++ onto (cells (temps as₀) ts) (onto (cells (params as₀) bs) []))) (lands C Λ E d v last p))
        → Seq (Go {0}) 𝓛 (entered_with τ₀ l₀ l₁ ++ (‵ (froom (layout (shape S)) lˢ zero) ∷ ‵ (fdies (layout (shape S)) lˢ) ∷ (Δ ++ onto (rooms (locals (temps as₀)) ts) (onto (cells (params as₀) bs) [])))) (runs C Λ E (asked_body j as₀ n t d last) p)
    calls_core calls n t d last E p τ₀ l₀ l₁ lˢ bs ts at₁ atₙ at tat Δ k =
        let σ : Ty = layout (shape S) in
        let one : List (Item 𝓤) = ‵ (fat full_share ref_ty l₁ zero (vptr x.ref_ptr.0 x.ref_ptr.1)) ∷ ‵ (fdies ref_ty l₁) ∷ ‵ (froom τ₀ l₀ zero) ∷ ‵ (fdies τ₀ l₀) ∷ [] in
        let had : List (Item 𝓤) = ‵ (fat full_share σ lˢ zero (LL.val S L x.now)) ∷ ‵ (fdies σ lˢ) ∷ Δ in
        move ! (4 ∷ 5 ∷ []) $ opened ! tt x (λ was.
        -- [the record's cell; what closing takes; _1; …; room for _0; …; the other tokens; what the others own; room for *s; …]
        assigns ! (of_opd ! (load ! (finds_at ! at₁ (hop ! (look ! 2 refl) (stop !))) (look_raw ! 0 refl))) (finds_at ! atₙ (stop !)) (init ! 8 refl ((LL.lawful S L 𝓛).typed x.now _ was).0) $
        lends_all 𝓛 (Go {0}) (‵ (cell_at full_share (row S).mir (LL.vals S L x.now) x.ref_ptr.0 x.ref_ptr.1) ∷ ‵ (Held κ q x) ∷ one ++ (raw Toks ∷ ‵ Owns ∷ had))
        E ! C Λ p (seq (call j (copy (place n []) ∷ operands 2 t as₀) d) last) 2 t as₀ bs ts (onto (cells (params as₀) bs) []) at tat (readable 𝓛 (Go {0}) ! as₀ bs []) (
        move ! (6 ∷ 7 ∷ []) $ join ! $ calls_from ! fm (raw Toks ⊛ ‵ Owns) (LL.val S L x.now ∷ vals as₀) (GivenBack 𝓛 R Z r Out) (calls was)
        (and_then ! (load ! (finds_at ! atₙ (stop !)) (look ! 7 refl))
        (operands_read 𝓛 (Go {0}) ((raw Toks ⊛ ‵ Owns) ∷ ‵ (cell_at full_share (row S).mir (LL.vals S L x.now) x.ref_ptr.0 x.ref_ptr.1) ∷ ‵ (Held κ q x) ∷ one ++ had)
        E ! 2 t as₀ bs ts (onto (cells (params as₀) bs) []) at tat (readable 𝓛 (Go {0}) ! as₀ bs []))) (λ v.
        use1 𝓛 (later (some (λ (z : Z). ‵ (R.own_val (r z) (v ∷ [])) ⊛ raw (Out z)))) (id⊢ 𝓤 _) $ await ! tt $ pick ! (λ z. split ! $ k was v z))))

    -- ---- a wrapper that stores nothing back. Its locals are _0, _1, the other parameters, *s, and what the parameters that are lent take
    reads : Calling → (τ₀ : Ty) → ((a : R.Denot) (v : Val) → Is R a (v ∷ []) → Holds (has_ty τ₀ v) × WT v) → (fn : Fn) → fn.locals ≡ reader_locals τ₀ as₀ → fn.body ≡ reader_body j as₀
        → (Kf : Val → SProp 𝓤) → ((v : Val) (z : Z) → ent 𝓤 (⋆ 𝓛 (‵ (Settled κ x x.now) ∷ ‵ (flft κ q) ∷ ‵ (R.own_val (r z) (v ∷ [])) ∷ raw (Out z) ∷ [])) (Kf v))
        → Seq (Go {0}) 𝓛 (‵ ((MutRef (named 0) κ (row S)).own_val x (mut_vals x)) ∷ ‵ (flft κ q) ∷ raw Toks ∷ ‵ Owns ∷ []) (prop (WpFn 𝓤 H C Λ fn (vptr x.ref_ptr.0 x.ref_ptr.1 ∷ vals as₀) Kf))
    reads calls τ₀ typed fn e e' Kf leaves =
        let σ : Ty = layout (shape S) in
        let ls : List Local = locals (params as₀) in
        enters ! C Λ fn τ₀ ref_ty as₀ (local σ value_local ∷ []) [] (reader_body j as₀) e e' (vptr x.ref_ptr.0 x.ref_ptr.1) (tt, tt) _ Kf (λ l₀ l₁ bs ns ts os at tat.
        let lˢ : ℕ = ns.0 in
        let E'' : List (Ty × ℕ) = (σ, lˢ) ∷ env (locals (temps as₀)) ts [] in
        let E : List (Ty × ℕ) = (τ₀, l₀) ∷ (ref_ty, l₁) ∷ env ls bs E'' in
        calls_core calls (suc (suc (skip ls 0))) (suc (suc (skip ls 1))) (place 0 []) return E (at_ret E Kf) τ₀ l₀ l₁ lˢ bs ts refl (get_skip ls bs E'' 0) at tat [] (λ was v z.
        peeks ! R (Is R) (shows 𝓛 R) (r z) (v ∷ []) (λ is.
        land ! (from ! (stop !)) (init ! 6 refl (typed (r z) v is)) $ move ! (2 ∷ 3 ∷ []) $ shut ! tt x x.now was $
        -- [what says the record's last value; its token; what the result owns; what the callee leaves; _1; …; _0; …; *s; …; the further locals; the others]
        returns ! (look ! 6 refl) $ gone ! 6 refl refl $ gone ! 4 refl refl $
        free_all ! (‵ (Settled κ x x.now) ∷ ‵ (flft κ q) ∷ ‵ (R.own_val (r z) (v ∷ [])) ∷ raw (Out z) ∷ ‵ (fat full_share σ lˢ zero (LL.val S L x.now)) ∷ ‵ (fdies σ lˢ) ∷ []) (cells (temps as₀) ts) [] E'' (params as₀) bs (
        gone ! 4 refl refl $ free_all ! (‵ (Settled κ x x.now) ∷ ‵ (flft κ q) ∷ ‵ (R.own_val (r z) (v ∷ [])) ∷ raw (Out z) ∷ []) [] [] [] (temps as₀) ts (free0 ! $ by ! (leaves v z))))))

  -- ---- how a by-value function answers: by a struct D, whose field 0 is the answer, at R, and field 1 the record
  -- the machine values of d's fields, and what D's type relates of them
  abbrev pub fields_of : (D : Declared) → LL.Laws D → D.D → Valss (fields D)
  fields_of D LD d = valss (fields D) (LL.spells D.parts LD) (D.to d)

  abbrev pub Related : (D : Declared) → LL.Laws D → D.D → Type 0
  Related D LD d = AreAll (fields D) (D.to d) (fields_of D LD d)

  abbrev pub first_of : (D : Declared) → LL.Laws D → D.D → Val
  first_of D LD d = get_v (of_list (flat (fields D) (fields_of D LD d))) 0

  pub record Answering : Type 2 where
    pub D : Declared
    pub laws : LL.Laws D
    pub plains : Plains (fields D)
    pub R : RattleType
    pub τ : Ty
    pub mir_is : mirs (fields D) ≡ τ ∷ layout (shape S) ∷ []
    pub answer : D.D → R.Denot
    pub store : D.D → S.D
    pub make : R.Denot → S.D → D.D
    -- d's fields are its answer and its record; the answer owns only facts; and an answer and a record are the fields of what they make
    pub parts : (d : D.D) → Related D laws d → (flat (fields D) (fields_of D laws d) ≡ first_of D laws d ∷ LL.val S L (store d) ∷ []) × Is R (answer d) (first_of D laws d ∷ []) × Is (row S) (store d) (LL.vals S L (store d))
    pub pure : (d : D.D) (vs : List Val) → Pure (R.own_val (answer d) vs)
    pub whole : (a : R.Denot) (w : S.D) (v : Val) → Is R a (v ∷ []) → Is (row S) w (LL.vals S L w) → (vss : Valss (fields D)) × ((flat (fields D) vss ≡ v ∷ LL.val S L w ∷ []) × AreAll (fields D) (D.to (make a w)) vss)
    -- and a record that is passed by value is seen at exit as it was passed
    pub still : (row S).exit yes ≡ unchanged

  -- ---- a wrapper that stores back
  module _ (ans : Answering) where
    -- its locals are _0, _1, the other parameters, d, *s, what the parameters that are lent take, and u, which takes d's record before it is stored
    abbrev wrapper_locals : List Arg → List Local
    wrapper_locals as₀ = local ans.τ value_local ∷ local ref_ty value_local ∷ (locals (params as₀) ++ (local (layout (shape ans.D)) value_local ∷ local (layout (shape S)) value_local ∷ (locals (temps as₀) ++ (local (layout (shape S)) value_local ∷ []))))

    abbrev u_local : List Arg → ℕ
    u_local as₀ = suc (suc (skip (locals (params as₀)) (suc (suc (skip (locals (temps as₀)) 0)))))

    abbrev last_part : List Arg → Code
    last_part as₀ =
        let d = suc (suc (skip (locals (params as₀)) 0)) in
        seq (assign (place (u_local as₀) []) (rv_opd (copy (place d (field 1 ∷ []))))) (seq (assign (place 1 (deref (layout (shape S)) ∷ [])) (rv_opd (copy (place (u_local as₀) []))))
        (seq (assign (place 0 []) (rv_opd (copy (place d (field 0 ∷ []))))) return))

    abbrev wrapper_body : Called → List Arg → Code
    wrapper_body j as₀ = asked_body j as₀ (suc (suc (skip (locals (params as₀)) 1))) (suc (suc (skip (locals (params as₀)) 2))) (place (suc (suc (skip (locals (params as₀)) 0))) []) (last_part as₀)

    module _ {M : Type 1} {𝓤 : Ura M} (𝓛 : Logic 𝓤) (C : Calls 𝓤 𝓛.H) (Λ : Loops 𝓤 𝓛.H) (fm : FmC 𝓤 𝓛.H 𝓛.laws C) (j : Called) (as₀ : List Arg) (κ : Lft) (q : Share) (x : MutBor S.D) (Toks : SProp 𝓤) (Owns : Fml) (Z : Type 0) (r : Z → ans.D.D) (Out : Z → SProp 𝓤) where
      open 𝓛 use {H}

      abbrev D : Declared
      D = ans.D

      typed : (d : D.D) → Related D ans.laws d → Typed (ans.τ ∷ layout (shape S) ∷ []) (first_of D ans.laws d ∷ LL.val S L (ans.store d) ∷ [])
      typed d p =
          subst (λ (vs : List Val). Typed (ans.τ ∷ layout (shape S) ∷ []) vs) (ans.parts d p).0
          (subst (λ (τs : List Ty). Typed τs (flat (fields D) (fields_of D ans.laws d))) ans.mir_is (typeds 𝓛 (fields D) (LL.lawfuls 𝓛 D.parts ans.laws) (D.to d) (fields_of D ans.laws d) p))

      wraps : Calling 𝓛 C Λ fm (row D) j as₀ κ q x Toks Owns Z r Out → (fn : Fn) → fn.locals ≡ wrapper_locals as₀ → fn.body ≡ wrapper_body j as₀
          → (Kf : Val → SProp 𝓤) → ((z : Z) → Related D ans.laws (r z) → ent 𝓤 (⋆ 𝓛 (‵ (Settled κ x (ans.store (r z))) ∷ ‵ (flft κ q) ∷ raw (Out z) ∷ [])) (Kf (first_of D ans.laws (r z))))
          → Seq (Go {0}) 𝓛 (‵ ((MutRef (named 0) κ (row S)).own_val x (mut_vals x)) ∷ ‵ (flft κ q) ∷ raw Toks ∷ ‵ Owns ∷ []) (prop (WpFn 𝓤 H C Λ fn (vptr x.ref_ptr.0 x.ref_ptr.1 ∷ vals as₀) Kf))
      wraps calls fn e e' Kf leaves =
          let σ : Ty = layout (shape S) in
          let τ₀ : Ty = ans.τ in
          let δ : Ty = layout (shape D) in
          let ls : List Local = locals (params as₀) in
          enters ! C Λ fn τ₀ ref_ty as₀ (local δ value_local ∷ local σ value_local ∷ []) (local σ value_local ∷ []) (wrapper_body j as₀) e e' (vptr x.ref_ptr.0 x.ref_ptr.1) (tt, tt) _ Kf (λ l₀ l₁ bs ns ts os at tat.
          let lᵈ : ℕ = ns.0 in
          let lˢ : ℕ = ns.1.0 in
          let lᵘ : ℕ = os.0 in
          let E'' : List (Ty × ℕ) = (δ, lᵈ) ∷ (σ, lˢ) ∷ env (locals (temps as₀)) ts ((σ, lᵘ) ∷ []) in
          let E : List (Ty × ℕ) = (τ₀, l₀) ∷ (ref_ty, l₁) ∷ env ls bs E'' in
          let d : ℕ = suc (suc (skip ls 0)) in
          let uat : get_or E (u_local as₀) no_local ≡ (σ, lᵘ) = get_skip ls bs E'' (suc (suc (skip (locals (temps as₀)) 0))) ∙ get_skip (locals (temps as₀)) ts ((σ, lᵘ) ∷ []) 0 in
          move ! (0 ∷ 1 ∷ 2 ∷ 3 ∷ 4 ∷ 5 ∷ 6 ∷ 7 ∷ 10 ∷ 11 ∷ 12 ∷ 13 ∷ []) $
          calls_core 𝓛 C Λ fm (row D) j as₀ κ q x Toks Owns Z r Out calls (suc (suc (skip ls 1))) (suc (suc (skip ls 2))) (place d []) (last_part as₀) E (at_ret E Kf) τ₀ l₀ l₁ lˢ bs ts refl (get_skip ls bs E'' 1) at tat (‵ (froom δ lᵈ zero) ∷ ‵ (fdies δ lᵈ) ∷ ‵ (froom σ lᵘ zero) ∷ ‵ (fdies σ lᵘ) ∷ []) (λ was v z.
          facts ! (row D) (Is (row D)) (shows 𝓛 (row D)) (r z) (v ∷ []) (λ is.
          let p : Related D ans.laws (r z) = LL.owed D ans.laws (r z) (v ∷ []) is in
          let h : S.D = ans.store (r z) in
          regoal ! (λ (u : Val). lands C Λ E (place d []) u (last_part as₀) (at_ret E Kf)) (ap only (LL.tells D ans.laws (r z) (v ∷ []) is)) refl $
          -- [what the callee leaves; the record's cell; what closing takes; _1; …; room for _0; …; *s; …; room for d; …; room for u; …; the further locals; the others]
          land ! (finds_at ! (get_skip ls bs E'' 0) (stop !)) (init ! 9 refl ((LL.lawful D ans.laws 𝓛).typed (r z) _ (LL.owes D ans.laws (r z) p)).0) $
          assigns ! (of_opd ! (load ! (finds_at ! (get_skip ls bs E'' 0) (fld ! (ap (λ (τs : List Ty). field_at zero (to_tys τs) 1) ans.mir_is) (stop !))) (reads_as (ap (λ (vs : List Val). get_v (of_list vs) 1) (ans.parts (r z) p).0) (look_in ! 9 (sub ! 1 (ap (λ (τs : List Ty). field_at zero (to_tys τs) 1) ans.mir_is) (whole !))))))
          (finds_at ! uat (stop !)) (init ! 11 refl (typed (r z) p).1.0) $
          assigns ! (of_opd ! (load ! (finds_at ! uat (stop !)) (look ! 11 refl))) (from ! (hop ! (look ! 3 refl) (stop !))) (store_raw ! 1 refl (typed (r z) p).1.0) $
          assigns ! (of_opd ! (load ! (finds_at ! (get_skip ls bs E'' 0) (fld ! (ap (λ (τs : List Ty). field_at zero (to_tys τs) 0) ans.mir_is) (stop !))) (look_in ! 9 (sub ! 0 (ap (λ (τs : List Ty). field_at zero (to_tys τs) 0) ans.mir_is) (whole !))))) (from ! (stop !)) (init ! 5 refl (typed (r z) p).0) $
          move ! (1 ∷ 2 ∷ []) $ shut ! tt x h (ans.parts (r z) p).2 $
          -- [what says the record's last value; its token; what the callee leaves; _1; …; _0; …; *s; …; d; …; u; …; the further locals; the others]
          returns ! (look ! 5 refl) $ gone ! 5 refl refl $ gone ! 3 refl refl $
          free_all ! (‵ (Settled κ x h) ∷ ‵ (flft κ q) ∷ raw (Out z) ∷ ‵ (fat full_share σ lˢ zero (LL.val S L x.now)) ∷ ‵ (fdies σ lˢ) ∷ ‵ (fat full_share δ lᵈ zero (LL.val D ans.laws (r z))) ∷ ‵ (fdies δ lᵈ) ∷ ‵ (fat full_share σ lᵘ zero (LL.val S L h)) ∷ ‵ (fdies σ lᵘ) ∷ []) (cells (temps as₀) ts) [] E'' (params as₀) bs (
          gone ! 5 refl refl $ gone ! 3 refl refl $ free_all ! (‵ (Settled κ x h) ∷ ‵ (flft κ q) ∷ raw (Out z) ∷ ‵ (fat full_share σ lᵘ zero (LL.val S L h)) ∷ ‵ (fdies σ lᵘ) ∷ []) [] [] ((σ, lᵘ) ∷ []) (temps as₀) ts (gone ! 3 refl refl $ free0 ! $ by ! (leaves z p))))))

-- a walk of a function's MIR, over any tables in which its callee keeps its promise, makes the statement
pub meets : {M : Type 1} {𝓤 : Ura M} (𝓛 : Logic 𝓤) (𝓜 : Model 𝓤 𝓛.H) (𝓡 : Running 𝓤 𝓛.H 𝓜) (env : REnv) (k : Called) (fn : Fn) → Closed 𝓤 𝓛.H (tables 𝓤 𝓛.H 𝓜 𝓡 env).C (tables 𝓤 𝓛.H 𝓜 𝓡 env).Λ k fn → (j : Called) (f : Routine) → env j ≡ f
    → (T T' : Ended) (φ : Promise T) (φ' : Promise T') (c : Clauses 𝓤 T) (c' : Clauses 𝓤 T') → c ≡ promised 𝓤 T φ → c' ≡ promised 𝓤 T' φ' → Triple 𝓤 (𝓡.run f) (Cited 𝓛 T' c')
    → ((C : Calls 𝓤 𝓛.H) (Λ : Loops 𝓤 𝓛.H) → FmC 𝓤 𝓛.H 𝓛.laws C → Triple 𝓤 (C j) (Keeping 𝓛 T' φ') → Triple 𝓤 (WpFn 𝓤 𝓛.H C Λ fn) (Keeping 𝓛 T φ)) → Triple 𝓤 ((tables 𝓤 𝓛.H 𝓜 𝓡 env).C k) (Cited 𝓛 T c)
unfolding tables_of
meets {𝓤 = 𝓤} 𝓛 𝓜 𝓡 env k fn closed j f e T T' φ φ' c c' is is' met walk =
    subst (λ (d : Clauses 𝓤 T). Triple 𝓤 ((tables 𝓤 𝓛.H 𝓜 𝓡 env).C k) (Cited 𝓛 T d)) (sym is)
    (entered 𝓤 𝓛.H (Keeping 𝓛 T φ) (tables 𝓤 𝓛.H 𝓜 𝓡 env).C (tables 𝓤 𝓛.H 𝓜 𝓡 env).Λ k fn closed
    (walk (tables 𝓤 𝓛.H 𝓜 𝓡 env).C (tables 𝓤 𝓛.H 𝓜 𝓡 env).Λ (fm_of 𝓤 𝓛.H 𝓛.laws (tables_of 𝓤 𝓛.H 𝓜 (tables 𝓤 𝓛.H 𝓜 𝓡 env)))
    (cited 𝓤 𝓛.H (Keeping 𝓛 T' φ') 𝓜 𝓡 env j f e (subst (λ (d : Clauses 𝓤 T'). Triple 𝓤 (𝓡.run f) (Cited 𝓛 T' d)) is' met))))

-- that a function's MIR is a law's, whatever it is handed
abbrev pub IsCode : {n : ℕ} → List (Param n) → Fn → (List Arg → List Local) → (List Arg → Code) → Type 0
IsCode {n} ps fn ls body = (κs : Lfts n) (bs : Denots (types_at (slots ps) κs)) (are : Passed ps κs bs) → (fn.locals ≡ ls (args ps κs bs are)) × (fn.body ≡ body (args ps κs bs are))

-- ---- the laws, for a callee with a contract. The parameters after the record are ps, numbered as the callee takes them; φ is what the wrapper promises, and φ' what the callee does
module _ (S : Declared) (L : LL.Laws S) (pl : Plains (fields S)) {m : ℕ} (ps : List (Param m)) where
  abbrev pub Callee : RattleType → Ended
  Callee R = Core S L pl m (slots ps) R

  abbrev pub Caller : RattleType → Ended
  Caller R = Wrapper S L pl m (slots (raised ps)) R

  -- what the wrapper hands on
  abbrev handed_on : (κs : Lfts (suc m)) → S.D → Denots (types_at (slots (raised ps)) κs) → (R : RattleType) → Args (Callee R).signature κs.1
  handed_on κs h bs R = (h, values (down κs ps) bs)

  module _ {M : Type 1} {𝓤 : Ura M} (𝓛 : Logic 𝓤) where
    open 𝓛 use {H}

    module _ (R : RattleType) (φ' : Promise (Callee R)) (κs : Lfts (suc m)) (qs : Shares (suc m)) (x : MutBor S.D) (bs : Denots (types_at (slots (raised ps)) κs)) where
      abbrev us : Valss (types_at (slots (raised ps)) κs)
      us = machine (raised ps) κs bs

      -- what the callee leaves
      abbrev Leaves : Came S L pl R m (slots ps) 𝓛 φ' κs.1 qs.1 x.now (values (down κs ps) bs) (words (down κs ps) us) → SProp 𝓤
      Leaves = Left S L pl R m (slots ps) 𝓛 φ' κs.1 qs.1 x.now (values (down κs ps) bs) (words (down κs ps) us)

      hands_on : (C : Calls 𝓤 H) (Λ : Loops 𝓤 H) (fm : FmC 𝓤 H 𝓛.laws C) (j : Called) → Triple 𝓤 (C j) (Keeping 𝓛 (Callee R) φ') → (are : Passed (raised ps) κs bs)
          → Calling S L pl 𝓛 C Λ fm R j (args (raised ps) κs bs are) κs.0 qs.0 x (toks 𝓛 m κs.1 qs.1) (owns (types_at (slots (raised ps)) κs) bs us) (R.Denot × Lasts (Callee R) κs.1 (handed_on κs x.now bs R)) (λ z. z.0) Leaves
      hands_on C Λ fm j known are was =
          let vss : Valss (types_at (slots ps) κs.1) = words (down κs ps) us in
          let Af : Val → SProp 𝓤 = After S L pl R m (slots ps) 𝓛 φ' κs.1 qs.1 x.now (values (down κs ps) bs) vss in
          subst (λ (vs : List Val). ent 𝓤 (sep 𝓤 (toks 𝓛 m κs.1 qs.1) (sem 𝓛 (owns (types_at (slots (raised ps)) κs) bs us))) (C j (LL.val S L x.now ∷ vs) Af)) (sym (same_words (down κs ps) us) ∙ passing (raised ps) κs bs are)
          (subst (λ (P : Fml). ent 𝓤 (sep 𝓤 (toks 𝓛 m κs.1 qs.1) (sem 𝓛 P)) (C j (LL.val S L x.now ∷ flat (types_at (slots ps) κs.1) vss) Af)) (sym (same_owned (down κs ps) bs us))
          (handed S L pl R m (slots ps) 𝓛 φ' κs.1 qs.1 x.now (values (down κs ps) bs) vss C fm j known was))

    module _ (𝓜 : Model 𝓤 H) (𝓡 : Running 𝓤 H 𝓜) (env : REnv) (k : Called) (fn : Fn) (closed : Closed 𝓤 H (tables 𝓤 H 𝓜 𝓡 env).C (tables 𝓤 H 𝓜 𝓡 env).Λ k fn) (j : Called) (f : Routine) (e : env j ≡ f) where
      -- that the wrapper's promise follows from the callee's, where the callee gives d, of which the wrapper returns r and leaves the record h
      abbrev Follows : (R' R : RattleType) → Promise (Callee R') → Promise (Caller R) → (R'.Denot → R.Denot) → (S.D → R'.Denot → S.D) → Type 0
      Follows R' R φ' φ r h = (κs : Lfts (suc m)) (x : MutBor S.D) (bs : Denots (types_at (slots (raised ps)) κs)) (d : R'.Denot) (ws : Lasts (Callee R') κs.1 (handed_on κs x.now bs R'))
          → φ' κs.1 (handed_on κs x.now bs R') d (at_exit (Callee R') κs.1 (handed_on κs x.now bs R') ws) → φ κs (x, bs) (r d) (at_exit (Caller R) κs (x, bs) (h x.now d, finals (down κs ps) bs ws.1))

      -- what is to be said at exit
      abbrev AtEnd : (R : RattleType) (φ : Promise (Caller R)) (κs : Lfts (suc m)) (qs : Shares (suc m)) (x : MutBor S.D) (bs : Denots (types_at (slots (raised ps)) κs)) → Val → SProp 𝓤
      AtEnd R φ κs qs x bs = (Keeping 𝓛 (Caller R) φ).post (bound S L pl m (slots (raised ps)) R 𝓛 φ κs qs x bs (machine (raised ps) κs bs))

      -- a walk from what the wrapper is handed to what is to be said at exit, over any tables in which the callee keeps its promise, makes the statement
      keeps : (R R' : RattleType) (φ : Promise (Caller R)) (φ' : Promise (Callee R')) (c : Clauses 𝓤 (Caller R)) (c' : Clauses 𝓤 (Callee R')) → c ≡ promised 𝓤 (Caller R) φ → c' ≡ promised 𝓤 (Callee R') φ' → Triple 𝓤 (𝓡.run f) (Cited 𝓛 (Callee R') c')
          → ((C : Calls 𝓤 H) (Λ : Loops 𝓤 H) (fm : FmC 𝓤 H 𝓛.laws C) → Triple 𝓤 (C j) (Keeping 𝓛 (Callee R') φ') → (κs : Lfts (suc m)) (qs : Shares (suc m)) (x : MutBor S.D) (bs : Denots (types_at (slots (raised ps)) κs)) (are : Passed (raised ps) κs bs)
          → Seq (Go {0}) 𝓛 (‵ ((MutRef (named 0) κs.0 (row S)).own_val x (mut_vals x)) ∷ ‵ (flft κs.0 qs.0) ∷ raw (toks 𝓛 m κs.1 qs.1) ∷ ‵ (owns (types_at (slots (raised ps)) κs) bs (machine (raised ps) κs bs)) ∷ [])
          (prop (WpFn 𝓤 H C Λ fn (vptr x.ref_ptr.0 x.ref_ptr.1 ∷ vals (args (raised ps) κs bs are)) (AtEnd R φ κs qs x bs))))
          → Triple 𝓤 ((tables 𝓤 H 𝓜 𝓡 env).C k) (Cited 𝓛 (Caller R) c)
      keeps R R' φ φ' c c' is is' met go =
          meets 𝓛 𝓜 𝓡 env k fn closed j f e (Caller R) (Callee R') φ φ' c c' is is' met (λ C Λ fm known.
          begins S L pl m (slots (raised ps)) R 𝓛 φ C Λ fn (spells (raised ps)) (all_tell (raised ps)) (λ κs qs x bs are.
          regoal ! (λ (vs : List Val). prop (WpFn 𝓤 H C Λ fn (vptr x.ref_ptr.0 x.ref_ptr.1 ∷ vs) (AtEnd R φ κs qs x bs))) (passing (raised ps) κs bs are) refl $ go C Λ fm known κs qs x bs are))

      -- `pub fn w(s: &mut S, p.., q..) -> R { f(*s, p.., q..) }`
      pub reader : {R : RattleType} {τ₀ : Ty} → R.mir ≡ τ₀ ∷ [] → (Lawful 𝓛 R) → {φ : Promise (Caller R)} {φ' : Promise (Callee R)} (c : Clauses 𝓤 (Caller R)) (c' : Clauses 𝓤 (Callee R)) → c ≡ promised 𝓤 (Caller R) φ → c' ≡ promised 𝓤 (Callee R) φ' → Triple 𝓤 (𝓡.run f) (Cited 𝓛 (Callee R) c')
          → IsCode (raised ps) fn (reader_locals S L pl τ₀) (reader_body S L pl j) → Follows R R φ' φ (λ r. r) (λ h r. h) → Triple 𝓤 ((tables 𝓤 H 𝓜 𝓡 env).C k) (Cited 𝓛 (Caller R) c)
      reader {R} {τ₀} mir lawful {φ} {φ'} c c' is is' met code says =
          keeps R R φ φ' c c' is is' met (λ C Λ fm known κs qs x bs are.
          reads S L pl 𝓛 C Λ fm R j (args (raised ps) κs bs are) κs.0 qs.0 x (toks 𝓛 m κs.1 qs.1) (owns (types_at (slots (raised ps)) κs) bs (machine (raised ps) κs bs)) _ (λ z. z.0) (Leaves R φ' κs qs x bs) (hands_on R φ' κs qs x bs C Λ fm j known are) τ₀ (λ b v p. (subst (λ (τs : List Ty). Typed τs (v ∷ [])) mir (lawful.typed b (v ∷ []) p)).0)
          fn (code κs bs are).0 (code κs bs are).1 (AtEnd R φ κs qs x bs) (λ v z. ends S L pl m (slots (raised ps)) R 𝓛 φ κs qs x bs (machine (raised ps) κs bs) v x.now z.0 (finals (down κs ps) bs z.1.1) _ (same_said (down κs ps) bs z.1.1) _ (says κs x bs z.0 z.1)))

      -- `pub fn w(s: &mut S, p.., q..) -> R { let d = f(*s, p.., q..); *s = d.store; d.answer }`
      pub wrapper : (ans : Answering S L pl) {φ : Promise (Caller ans.R)} {φ' : Promise (Callee (row ans.D))} (c : Clauses 𝓤 (Caller ans.R)) (c' : Clauses 𝓤 (Callee (row ans.D))) → c ≡ promised 𝓤 (Caller ans.R) φ → c' ≡ promised 𝓤 (Callee (row ans.D)) φ'
          → Triple 𝓤 (𝓡.run f) (Cited 𝓛 (Callee (row ans.D)) c') → IsCode (raised ps) fn (wrapper_locals S L pl ans) (wrapper_body S L pl ans j) → Follows (row ans.D) ans.R φ' φ ans.answer (λ h d. ans.store d) → Triple 𝓤 ((tables 𝓤 H 𝓜 𝓡 env).C k) (Cited 𝓛 (Caller ans.R) c)
      wrapper ans {φ} {φ'} c c' is is' met code says =
          let R : RattleType = ans.R in
          let D : Declared = ans.D in
          keeps R (row D) φ φ' c c' is is' met (λ C Λ fm known κs qs x bs are.
          wraps S L pl ans 𝓛 C Λ fm j (args (raised ps) κs bs are) κs.0 qs.0 x (toks 𝓛 m κs.1 qs.1) (owns (types_at (slots (raised ps)) κs) bs (machine (raised ps) κs bs)) _ (λ z. z.0) (Leaves (row D) φ' κs qs x bs) (hands_on (row D) φ' κs qs x bs C Λ fm j known are)
          fn (code κs bs are).0 (code κs bs are).1 (AtEnd R φ κs qs x bs) (λ z p.
          let v : Val = first_of S L pl D ans.laws z.0 in
          let r : R.Denot = ans.answer z.0 in
          let h : S.D = ans.store z.0 in
          qed 𝓛 (‵ (Settled S L pl κs.0 x h) ∷ ‵ (flft κs.0 qs.0) ∷ raw (Leaves (row D) φ' κs qs x bs z) ∷ []) ∵
          use0 𝓛 (‵ (R.own_val r (v ∷ []))) (makes_shadow 𝓛 (R.own_val r (v ∷ [])) (ans.pure z.0 (v ∷ [])) (ans.parts z.0 p).1) $ move ! (1 ∷ 2 ∷ 0 ∷ []) $
          by ! (ends S L pl m (slots (raised ps)) R 𝓛 φ κs qs x bs (machine (raised ps) κs bs) v h r (finals (down κs ps) bs z.1.1) _ (same_said (down κs ps) bs z.1.1) _ (says κs x bs z.0 z.1))))
