-- One law for every lender. A lender takes a record by value, keeps it in a local, lends it to a wrapper (`Wrap.antt`), and returns the wrapper's answer beside the record:
--     pub fn l(s: S, p.., q..) -> D { let mut t = s; let c = w(&mut t, p.., q..); D { answer: c, store: t } }
-- Its contract is by value, so whoever calls it needs no walk. The local is lent for a lifetime that is made for the call; once the lifetime is over, the local is had again at the wrapper's last value.
-- It holds of any crate: the record S is any declared type of plain data, the answer any plain data, and the other parameters are those of `Params.antt`. Both functions have no `requires` and one `ensures`, a fact.
--     lends        the walk of the lender's MIR, whatever its parameters
--     lender       the law: a function with this MIR, whose promise follows from its callee's, meets its contract
-- Assumes `Logic`.
-- what a lender's proof names of the law of wrappers, passed on
pub use Rattle.wraplaw.proofs.Wrap.{refl, List, [], ◌∷◌, w8, w16, w32, w64, u32, Param, number, flag, shared, mutable}
use mathlib.Core.Path.{◌≡◌, sym, ◌∙◌, subst, ap}
use Prim.Native.Nat.{ℕ, zero, suc}
use mathlib.Core.List.{◌++◌}
use lib.ListN.{get_or}
use seplogic.Ra.Ura.{Ura}
use base.Fraction.{full_share}
use mir.Syntax.{named, erased, mut, Ty, ty_ref, Callee as Called, Fn, Local, local, value_local, memory_slot, place, copy, rv_opd, addr_of, aggregate, Body as Code, seq, assign, call, return}
use mir.Val.{Val, vptr, vstruct, of_list}
use base.Logic.{SProp, id⊢, ent, sep, emp, ex, via, fst∗}
use base.Fml.{GName, Fml, fsep, fat, froom, fdies, flft, fres, flent}
use prog.Model.{Model}
use prog.Routine.{Routine, Env as REnv}
use prog.Wp.{Calls, Loops, WpFn, Closed}
use types.Logic.{Logic, sem}
use contract.Monad.{fact, fact_i}
use contract.Lifetimes.{Lfts, Shares, toks}
use contract.Running.{Running, tables}
use types.Kit.{Go, Item, at_ret, Seq, ‵, raw, some, later, ◌⊛◌, prop, ◌$◌, ◌∵◌, !, qed, by, move, drop, use0, use1, use3, split, split3, join, group, pick, regoal, fsplit, fjoin, fpick, fpack, show, frame, await, updating, now as at_once, done}
use types.Run.{look, init, stop, from, load, addr, of_opd, and_then, no_more, assigns, land, returns, free0}
use types.Part.{agg}
use types.SemTy.{Body}
use types.Tokens.{lft_new, lft_end}
use sound.WpLaws.{FmC, fm→mono_c}
use denote.RattleType.{RattleType, Denots, Valss, flat, owns}
use denote.Memory.{mem, cell_at, pointee, part_of}
use denote.Exit.{Exit, unchanged, Last, left, yes}
use denote.Laws.{Is, Ises, Are, Spells, valss, Tellss, Typed, shows}
use denote.Lend.{lends_ref, ref_back}
use denote.Ref.{MutBor, MutRef, mut_vals}
use denote.Signature.{Slot, types_at}
use denote.Steps.{owned, facts, heard, said}
use denote.Struct.Declared.{Declared, fields, shape, row}
use denote.Struct.Laws as LL
use denote.Struct.Steps.{spelt}
use denote.Struct.Struct.{Plains, layout, typeds}
use denote.Triple.Call.{calls_from}
use denote.Triple.Clauses.{Ended, Clauses, Lasts, lasts, at_exit, ensured}
use denote.Triple.End.{all, Fins, lasts_of}
use denote.Triple.Entry.{on_entry}
use denote.Triple.Spec.{Back}
use denote.Triple.Statement.{Triple}
use Rattle.wraplaw.proofs.Walk.{onto}
use Rattle.wraplaw.proofs.Args.{Arg, no_local, env, skip, get_skip, vals, locals, params, temps, operands, lends as lends-slices, cells, finds_at, free_all, enters, readable, operands_read, lends_all}
use Rattle.wraplaw.proofs.Params.{raised, slots, spells, all_tell, machine, args, passing, up, values, words, same_words, same_owned, finals, same_said}
use Rattle.wraplaw.proofs.Wrap.{Promise, promised, Answering, Cited, Keeping, Settled, Core, Wrapper, gone, meets, IsCode}

-- a value that a function's exit does not change: what is said of it there is had for nothing
pub unmoved : {M : Type 1} {𝓤 : Ura M} (𝓛 : Logic 𝓤) {X : Type 0} (e : Exit X) → e ≡ unchanged → (x : X) → (w : Last e x) × ent 𝓤 (emp 𝓤) (sem 𝓛 (left e x w))
unmoved {𝓤 = 𝓤} 𝓛 {X} e q x = subst (λ (e' : Exit X). (w : Last e' x) × ent 𝓤 (emp 𝓤) (sem 𝓛 (left e' x w))) (sym q) (tt, id⊢ 𝓤 (emp 𝓤))

module _ (S : Declared) (L : LL.Laws S) (pl : Plains (fields S)) where
  -- the borrow of the local at block l, under the name γ
  abbrev pub lent : S.D → ℕ → GName → MutBor S.D
  lent h l γ = record { ref_ptr = (l, zero); ghost_name = γ; now = h }

  -- what lends it to the callee for the lifetime ν: the lifetime's token, the borrow, the other tokens and what the others own
  abbrev Asked : {M : Type 1} {𝓤 : Ura M} (𝓛 : Logic 𝓤) → S.D → ℕ → ℕ → GName → SProp 𝓤 → Fml → SProp 𝓤
  Asked {𝓤 = 𝓤} 𝓛 h ν l γ Toks Owns = sep 𝓤 (𝓛.A.lft (ν ∷ []) full_share) (sep 𝓤 (sem 𝓛 ((MutRef (named 0) (ν ∷ []) (row S)).own_val (lent h l γ) (mut_vals (lent h l γ)))) (sep 𝓤 Toks (sem 𝓛 Owns)))

  -- what the callee leaves at the machine value v: a result r z, the record's last value w z, the lifetime's token and Out z
  abbrev GivenBack : {M : Type 1} {𝓤 : Ura M} (𝓛 : Logic 𝓤) (R : RattleType) → ℕ → GName → (Z : Type 0) → (Z → R.Denot) → (Z → S.D) → (Z → SProp 𝓤) → Val → SProp 𝓤
  GivenBack {𝓤 = 𝓤} 𝓛 R ν γ Z r w Out v = 𝓛.H.⇛ (ex 𝓤 (λ (z : Z). sep 𝓤 (fact 𝓤 (Is R (r z) (v ∷ []))) (sep 𝓤 (𝓛.A.res γ ((row S).coded.code (w z))) (sep 𝓤 (𝓛.A.lft (ν ∷ []) full_share) (Out z)))))

  -- the callee, whose result is at R, where it is lent the local at block l for the lifetime ν
  module _ (R : RattleType) (m : ℕ) (ss : List (Slot (suc m))) {M : Type 1} {𝓤 : Ura M} (𝓛 : Logic 𝓤) (φ : Promise (Wrapper S L pl m ss R)) (κs : Lfts m) (qs : Shares m) (h : S.D) (ν l : ℕ) (γ : GName)
      (bs : Denots (types_at ss (ν ∷ [], κs))) (vss : Valss (types_at ss (ν ∷ [], κs))) where
    open 𝓛 use {H, A}

    abbrev T : Ended
    T = Wrapper S L pl m ss R

    abbrev x : MutBor S.D
    x = lent h l γ

    abbrev κs' : Lfts (suc m)
    κs' = (ν ∷ [], κs)

    abbrev asks : (Keeping 𝓛 T φ).Ghost
    asks = ((κs', (full_share, qs), tt, (x, bs), (mut_vals x, vss)), tt)

    -- a result and last values
    abbrev Came : Type 0
    Came = R.Denot × Lasts T κs' (x, bs)

    -- what the callee leaves beside the record: what says the others' last values, the other tokens, and its promise
    abbrev Left : Came → SProp 𝓤
    Left z = sep 𝓤 (sem 𝓛 (lasts_of κs' ss (all yes ss) bs z.1.1)) (sep 𝓤 (toks 𝓛 m κs qs) (fact 𝓤 (φ κs' (x, bs) z.0 (at_exit T κs' (x, bs) z.1))))

    abbrev After : Val → SProp 𝓤
    After = GivenBack 𝓛 R ν γ Came (λ z. z.0) (λ z. z.1.0) Left

    came : (v : Val) → ent 𝓤 ((Keeping 𝓛 T φ).post asks v) (After v)
    came v =
        qed 𝓛 (later (some (λ (r : R.Denot). ((‵ (flft (ν ∷ []) full_share) ⊛ raw (toks 𝓛 m κs qs)) ⊛ ‵ (R.own_val r (v ∷ []))) ⊛ some (λ (ws : Lasts T κs' (x, bs)). ‵ (fsep (Settled S L pl (ν ∷ []) x ws.0) (lasts_of κs' ss (all yes ss) bs ws.1)) ⊛ raw (fact 𝓤 (φ κs' (x, bs) r (at_exit T κs' (x, bs) ws)))))) ∷ []) ∵
        updating ! $ await ! tt $ pick ! (λ r. split ! $ split ! $ split ! $ move ! (2 ∷ []) $ use1 𝓛 (raw (fact 𝓤 (Is R r (v ∷ [])))) (shows 𝓛 R r (v ∷ [])) $ move ! (3 ∷ []) $ pick ! (λ ws. split ! $ fsplit ! $ fsplit ! $ move ! (1 ∷ []) $ drop ! $ at_once ! $
        show ! (λ (z : Came). sep 𝓤 (fact 𝓤 (Is R z.0 (v ∷ []))) (sep 𝓤 (A.res γ ((row S).coded.code z.1.0)) (sep 𝓤 (A.lft (ν ∷ []) full_share) (Left z)))) (r, ws) $
        -- [the record's last value; the others'; the promise; what the result's type relates; the loan's token; the other tokens]
        move ! (3 ∷ 0 ∷ 4 ∷ 1 ∷ 5 ∷ 2 ∷ []) $ done !))

    lent_to : (C : Calls 𝓤 H) → FmC 𝓤 H 𝓛.laws C → (j : Called) → Triple 𝓤 (C j) (Keeping 𝓛 T φ) → ent 𝓤 (Asked 𝓛 h ν l γ (toks 𝓛 m κs qs) (owns (types_at ss κs') bs vss)) (C j (vptr l zero ∷ flat (types_at ss κs') vss) After)
    lent_to C fm j known =
        via 𝓤 ((Keeping 𝓛 T φ).pre asks)
        (qed 𝓛 (‵ (flft (ν ∷ []) full_share) ∷ ‵ ((MutRef (named 0) (ν ∷ []) (row S)).own_val x (mut_vals x)) ∷ raw (toks 𝓛 m κs qs) ∷ ‵ (owns (types_at ss κs') bs vss) ∷ []) ∵
        move ! (1 ∷ 3 ∷ []) $ fjoin ! $ move ! (1 ∷ 2 ∷ []) $ join ! $ join ! $ frame ! $ use0 𝓛 (raw (emp 𝓤)) (id⊢ 𝓤 (emp 𝓤)) $ done !)
        (via 𝓤 (C j (vptr l zero ∷ flat (types_at ss κs') vss) ((Keeping 𝓛 T φ).post asks)) (known asks) (fm→mono_c 𝓤 H 𝓛.laws C fm j (vptr l zero ∷ flat (types_at ss κs') vss) ((Keeping 𝓛 T φ).post asks) After came))

  -- the lender, whose result is the struct D
  module _ (ans : Answering S L pl) where
    abbrev D : Declared
    D = ans.D

    abbrev R : RattleType
    R = ans.R

    module _ (m : ℕ) (ss : List (Slot m)) {M : Type 1} {𝓤 : Ura M} (𝓛 : Logic 𝓤) (φ : Promise (Core S L pl m ss (row D))) where
      open 𝓛 use {H}

      abbrev T' : Ended
      T' = Core S L pl m ss (row D)

      module _ (κs : Lfts m) (qs : Shares m) (h : S.D) (bs : Denots (types_at ss κs)) (vss : Valss (types_at ss κs)) where
        abbrev bound : (Keeping 𝓛 T' φ).Ghost
        bound = ((κs, qs, tt, (h, bs), (LL.vals S L h, vss)), tt)

        abbrev Said : D.D → Lasts T' κs (h, bs) → Type 0
        Said r ws = φ κs (h, bs) r (at_exit T' κs (h, bs) ws)

        ends : (v : Val) (r : D.D) → Is (row D) r (v ∷ []) → (ws : Fins κs ss (all yes ss) bs) (Ls : Fml) → Ls ≡ lasts_of κs ss (all yes ss) bs ws → (ψ : Type 0) → (ψ → Said r ((unmoved 𝓛 ((row S).exit yes) ans.still h).0, ws))
            → ent 𝓤 (sep 𝓤 (sem 𝓛 Ls) (sep 𝓤 (toks 𝓛 m κs qs) (fact 𝓤 ψ))) ((Keeping 𝓛 T' φ).post bound v)
        ends v r is ws Ls ls ψ says =
            let u : (w : Last ((row S).exit yes) h) × ent 𝓤 (emp 𝓤) (sem 𝓛 (left ((row S).exit yes) h w)) = unmoved 𝓛 ((row S).exit yes) ans.still h in
            qed 𝓛 (‵ Ls ∷ raw (toks 𝓛 m κs qs) ∷ raw (fact 𝓤 ψ) ∷ []) ∵ updating ! $ at_once ! $
            show ! (λ (r' : D.D). sep 𝓤 (Back 𝓛 T'.signature bound.0 v r') (ensured 𝓛 T' (promised 𝓤 T' φ) κs (h, bs) tt r')) r $
            owned ! (row D) (Is (row D)) (LL.makes D ans.plains 𝓛) r (v ∷ []) is $ move ! (2 ∷ 0 ∷ []) $ join ! $ frame ! $
            show ! (λ (ws' : Lasts T' κs (h, bs)). sep 𝓤 (sem 𝓛 (lasts T' κs (h, bs) ws')) (fact 𝓤 (Said r ws'))) (u.0, ws) $
            use1 𝓛 (‵ (lasts_of κs ss (all yes ss) bs ws)) (subst (λ (P : Fml). ent 𝓤 (sem 𝓛 Ls) (sem 𝓛 P)) ls (id⊢ 𝓤 _)) $ use0 𝓛 (‵ (left ((row S).exit yes) h u.0)) u.1 $ fjoin ! $ move ! (1 ∷ []) $
            heard ! ψ (λ y. use0 𝓛 (raw (fact 𝓤 (Said r (u.0, ws)))) (fact_i 𝓤 (Said r (u.0, ws)) (emp 𝓤) (says y)) $ move ! (1 ∷ 0 ∷ []) $ done !)

      begins : (C : Calls 𝓤 H) (Λ : Loops 𝓤 H) (fn : Fn) (sp : (κs : Lfts m) → Spells (types_at ss κs)) → ((κs : Lfts m) → Tellss (types_at ss κs) (Ises (types_at ss κs)) (sp κs))
          → ((κs : Lfts m) (qs : Shares m) (h : S.D) (bs : Denots (types_at ss κs)) → Is (row S) h (LL.vals S L h) → Are (types_at ss κs) (Ises (types_at ss κs)) bs (valss (types_at ss κs) (sp κs) bs)
          → Seq (Go {0}) 𝓛 (raw (toks 𝓛 m κs qs) ∷ ‵ (owns (types_at ss κs) bs (valss (types_at ss κs) (sp κs) bs)) ∷ [])
          (prop (WpFn 𝓤 H C Λ fn (LL.val S L h ∷ flat (types_at ss κs) (valss (types_at ss κs) (sp κs) bs)) ((Keeping 𝓛 T' φ).post (bound κs qs h bs (valss (types_at ss κs) (sp κs) bs))))))
          → Triple 𝓤 (WpFn 𝓤 H C Λ fn) (Keeping 𝓛 T' φ)
      begins C Λ fn sp tl k y =
          let κs : Lfts m = y.0.0 in
          let h : S.D = y.0.3.0 in
          let bs : Denots (types_at ss κs) = y.0.3.1 in
          let us : Valss (types_at ss κs) = valss (types_at ss κs) (sp κs) bs in
          via 𝓤 (on_entry 𝓛 T'.signature κs y.0.1 (h, bs) y.0.4) (fst∗ 𝓤 (on_entry 𝓛 T'.signature κs y.0.1 (h, bs) y.0.4) (emp 𝓤))
          (said 𝓛 T'.signature κs y.0.1 (LL.vals S L, sp κs) (LL.tells S L, tl κs) (h, bs)
          (λ ws. WpFn 𝓤 H C Λ fn (flat (types_at T'.signature.params κs) ws) ((Keeping 𝓛 T' φ).post ((κs, y.0.1, tt, (h, bs), ws), y.1))) y.0.4
          (λ are. qed 𝓛 (raw (toks 𝓛 m κs y.0.1) ∷ ‵ (fsep ((row S).own_val h (LL.vals S L h)) (owns (types_at ss κs) bs us)) ∷ []) ∵ move ! (1 ∷ []) $ fsplit ! $ drop ! $ move ! (1 ∷ 0 ∷ []) $
          k κs y.0.1 h bs are.0 are.1))

    -- ---- the law, for an answer at R, whose MIR type is τ
    -- the lender's MIR: its locals are _0, _1, the other parameters, t, c, &mut t, what the parameters that are lent take, and u, which takes what t holds at the end
    abbrev lender_locals : List Arg → List Local
    lender_locals as₀ =
        local (layout (shape D)) value_local ∷ local (layout (shape S)) value_local
        ∷ (locals (params as₀) ++ (local (layout (shape S)) memory_slot ∷ local ans.τ value_local ∷ local (ty_ref erased mut (pointee (row S).written)) value_local ∷ (locals (temps as₀) ++ (local (layout (shape S)) value_local ∷ []))))

    -- the local n after the other parameters
    abbrev after : List Arg → ℕ → ℕ
    after as₀ n = suc (suc (skip (locals (params as₀)) n))

    abbrev u_local : List Arg → ℕ
    u_local as₀ = after as₀ (suc (suc (suc (skip (locals (temps as₀)) 0))))

    abbrev last_part : List Arg → Code
    last_part as₀ = seq (assign (place (u_local as₀) []) (rv_opd (copy (place (after as₀ 0) [])))) (seq (assign (place 0 []) (aggregate (copy (place (after as₀ 1) []) ∷ copy (place (u_local as₀) []) ∷ []))) return)

    abbrev call_part : Called → List Arg → Code
    call_part j as₀ = seq (call j (copy (place (after as₀ 2) []) ∷ operands 2 (after as₀ 3) as₀) (place (after as₀ 1) [])) (last_part as₀)

    abbrev lender_body : Called → List Arg → Code
    lender_body j as₀ = seq (assign (place (after as₀ 0) []) (rv_opd (copy (place 1 [])))) (seq (assign (place (after as₀ 2) []) (addr_of (place (after as₀ 0) []))) (lends-slices 2 (after as₀ 3) as₀ (call_part j as₀)))

    module _ {M : Type 1} {𝓤 : Ura M} (𝓛 : Logic 𝓤) (C : Calls 𝓤 𝓛.H) (Λ : Loops 𝓤 𝓛.H) (fm : FmC 𝓤 𝓛.H 𝓛.laws C) where
      -- the struct's machine value
      open 𝓛 use {H}

      abbrev whole : Val → S.D → Val
      whole v w = vstruct (of_list (v ∷ LL.val S L w ∷ []))

      relates : (a : R.Denot) (w : S.D) (v : Val) → Is R a (v ∷ []) → Is (row S) w (LL.vals S L w) → Is (row D) (ans.make a w) (whole v w ∷ [])
      relates a w v p q = let k = ans.whole a w v p q in (k.0, (ap (λ (us : List Val). vstruct (of_list us) ∷ []) (sym k.1.0), k.1.1))

      typed : (a : R.Denot) (w : S.D) (v : Val) → Is R a (v ∷ []) → Is (row S) w (LL.vals S L w) → Typed (ans.τ ∷ layout (shape S) ∷ []) (v ∷ LL.val S L w ∷ [])
      typed a w v p q =
          let k = ans.whole a w v p q in
          subst (λ (us : List Val). Typed (ans.τ ∷ layout (shape S) ∷ []) us) k.1.0 (subst (λ (τs : List Ty). Typed τs (flat (fields D) k.0)) ans.mir_is (typeds 𝓛 (fields D) (LL.lawfuls 𝓛 D.parts ans.laws) (D.to (ans.make a w)) k.0 k.1.1))

      lends : (fn : Fn) (j : Called) (as₀ : List Arg) → fn.locals ≡ lender_locals as₀ → fn.body ≡ lender_body j as₀ → (h : S.D) → Is (row S) h (LL.vals S L h) → (Toks : SProp 𝓤) (Owns : Fml)
          → (Z : ℕ → ℕ → GName → Type 0) (r : (ν l : ℕ) (γ : GName) → Z ν l γ → R.Denot) (w : (ν l : ℕ) (γ : GName) → Z ν l γ → S.D) (Out : (ν l : ℕ) (γ : GName) → Z ν l γ → SProp 𝓤)
          → ((ν l : ℕ) (γ : GName) → ent 𝓤 (Asked 𝓛 h ν l γ Toks Owns) (C j (vptr l zero ∷ vals as₀) (GivenBack 𝓛 R ν γ (Z ν l γ) (r ν l γ) (w ν l γ) (Out ν l γ))))
          → (Kf : Val → SProp 𝓤) → ((ν l : ℕ) (γ : GName) (z : Z ν l γ) (v : Val) → Is (row D) (ans.make (r ν l γ z) (w ν l γ z)) (v ∷ []) → ent 𝓤 (Out ν l γ z) (Kf v))
          → Seq (Go {0}) 𝓛 (raw Toks ∷ ‵ Owns ∷ []) (prop (WpFn 𝓤 H C Λ fn (LL.val S L h ∷ vals as₀) Kf))
      unfolding part_of
      lends fn j as₀ e e' h was Toks Owns Z r w Out calls Kf leaves =
          let τ : Ty = ans.τ in
          let σ : Ty = layout (shape S) in
          let δ : Ty = layout (shape D) in
          let ρ : Ty = ty_ref erased mut (pointee (row S).written) in
          let ls : List Local = locals (params as₀) in
          enters ! C Λ fn δ σ as₀ (local σ memory_slot ∷ local τ value_local ∷ local ρ value_local ∷ []) (local σ value_local ∷ []) (lender_body j as₀) e e' (LL.val S L h) ((LL.lawful S L 𝓛).typed h _ was).0 (raw Toks ∷ ‵ Owns ∷ []) Kf (λ l₀ l₁ bs ns ts os at tat.
          let lᵗ : ℕ = ns.0 in
          let lᶜ : ℕ = ns.1.0 in
          let lʳ : ℕ = ns.1.1.0 in
          let lᵘ : ℕ = os.0 in
          let E'' : List (Ty × ℕ) = (σ, lᵗ) ∷ (τ, lᶜ) ∷ (ρ, lʳ) ∷ env (locals (temps as₀)) ts ((σ, lᵘ) ∷ []) in
          let E : List (Ty × ℕ) = (δ, l₀) ∷ (σ, l₁) ∷ env ls bs E'' in
          let top : List (Item 𝓤) = ‵ (froom σ lᵘ zero) ∷ ‵ (fdies σ lᵘ) ∷ [] in
          let old : List (Item 𝓤) = ‵ (fat full_share σ l₁ zero (LL.val S L h)) ∷ ‵ (fdies σ l₁) ∷ ‵ (froom δ l₀ zero) ∷ ‵ (fdies δ l₀) ∷ raw Toks ∷ ‵ Owns ∷ [] in
          move ! (6 ∷ 7 ∷ 8 ∷ 9 ∷ 10 ∷ 11 ∷ 12 ∷ 13 ∷ []) $
          -- [room for u; …; room for &mut t; …; room for c; …; room for t; …; _1; …; room for _0; …; the tokens; what the others own; the further locals; the others]
          assigns ! (of_opd ! (load ! (from ! (stop !)) (look ! 8 refl))) (finds_at ! (get_skip ls bs E'' 0) (stop !)) (init ! 6 refl ((LL.lawful S L 𝓛).typed h _ was).0) $
          assigns ! (addr ! (finds_at ! (get_skip ls bs E'' 0) (stop !))) (finds_at ! (get_skip ls bs E'' 2) (stop !)) (init ! 2 refl (tt, tt)) $
          lends_all 𝓛 (Go {0}) (top ++ (‵ (fat full_share ρ lʳ zero (vptr lᵗ zero)) ∷ ‵ (fdies ρ lʳ) ∷ ‵ (froom τ lᶜ zero) ∷ ‵ (fdies τ lᶜ) ∷ ‵ (fat full_share σ lᵗ zero (LL.val S L h)) ∷ ‵ (fdies σ lᵗ) ∷ old))
          E ! C Λ (at_ret E Kf) (call_part j as₀) 2 (after as₀ 3) as₀ bs ts (onto (cells (params as₀) bs) []) at tat (readable 𝓛 (Go {0}) ! as₀ bs []) (
          -- t is lent
          lft_new ! tt (λ ν. move ! (7 ∷ []) $ use1 𝓛 (‵ (cell_at full_share (row S).mir (LL.vals S L h) lᵗ zero)) (𝓛.laws.at_raw full_share σ lᵗ zero (LL.val S L h)) $
          owned ! (row S) (Is (row S)) (LL.makes S pl 𝓛) h (LL.vals S L h) was $ move ! (1 ∷ 0 ∷ []) $ fjoin ! $ fpack ! (List Val) (λ us. fsep (cell_at full_share (row S).mir us lᵗ zero) ((row S).own_val h us)) (LL.vals S L h) $
          use1 𝓛 (later (some (λ (γ : GName). ‵ ((MutRef (named 0) (ν ∷ []) (row S)).own_val (lent h lᵗ γ) (mut_vals (lent h lᵗ γ))) ⊛ ‵ (flent (ν ∷ []) (Body (mem (row S)) lᵗ zero γ))))) (lends_ref 𝓛 (row S) (named 0) (ν ∷ []) h lᵗ zero) $ await ! tt $ pick ! (λ γ. split ! $
          -- [the borrow; the lender's part; the lifetime's token; room for u; …; &mut t; …; room for c; …; t's end; _1; …; room for _0; …; the tokens; what the others own; the further locals; the others]
          move ! (2 ∷ 0 ∷ 14 ∷ 15 ∷ []) $ group ! 4 $
          calls_from ! fm (‵ (flft (ν ∷ []) full_share) ⊛ (‵ ((MutRef (named 0) (ν ∷ []) (row S)).own_val (lent h lᵗ γ) (mut_vals (lent h lᵗ γ))) ⊛ (raw Toks ⊛ ‵ Owns))) (vptr lᵗ zero ∷ vals as₀) (GivenBack 𝓛 R ν γ (Z ν lᵗ γ) (r ν lᵗ γ) (w ν lᵗ γ) (Out ν lᵗ γ)) (calls ν lᵗ γ)
          (and_then ! (load ! (finds_at ! (get_skip ls bs E'' 2) (stop !)) (look ! 4 refl))
          (operands_read 𝓛 (Go {0}) ((‵ (flft (ν ∷ []) full_share) ⊛ (‵ ((MutRef (named 0) (ν ∷ []) (row S)).own_val (lent h lᵗ γ) (mut_vals (lent h lᵗ γ))) ⊛ (raw Toks ⊛ ‵ Owns))) ∷ ‵ (flent (ν ∷ []) (Body (mem (row S)) lᵗ zero γ)) ∷ top
          ++ (‵ (fat full_share ρ lʳ zero (vptr lᵗ zero)) ∷ ‵ (fdies ρ lʳ) ∷ ‵ (froom τ lᶜ zero) ∷ ‵ (fdies τ lᶜ) ∷ ‵ (fdies σ lᵗ) ∷ ‵ (fat full_share σ l₁ zero (LL.val S L h)) ∷ ‵ (fdies σ l₁) ∷ ‵ (froom δ l₀ zero) ∷ ‵ (fdies δ l₀) ∷ []))
          E ! 2 (after as₀ 3) as₀ bs ts (onto (cells (params as₀) bs) []) at tat (readable 𝓛 (Go {0}) ! as₀ bs []))) (λ v.
          use1 𝓛 (later (some (λ (z : Z ν lᵗ γ). raw (fact 𝓤 (Is R (r ν lᵗ γ z) (v ∷ []))) ⊛ (‵ (fres γ ((row S).coded.code (w ν lᵗ γ z))) ⊛ (‵ (flft (ν ∷ []) full_share) ⊛ raw (Out ν lᵗ γ z)))))) (id⊢ 𝓤 _) $ await ! tt $ pick ! (λ z. split ! $ heard ! (Is R (r ν lᵗ γ z) (v ∷ [])) (λ is. split3 ! $
          let h' : S.D = w ν lᵗ γ z in
          land ! (finds_at ! (get_skip ls bs E'' 1) (stop !)) (init ! 8 refl (typed (r ν lᵗ γ z) h v is was).0) $
          -- the lifetime is over, and t is had again
          move ! (1 ∷ []) $ lft_end ! tt $ move ! (0 ∷ 3 ∷ 1 ∷ []) $ use3 𝓛 (later (‵ ((mem (row S)).own_at h' lᵗ zero))) (ref_back 𝓛 (row S) (ν ∷ []) γ h' lᵗ zero) $ await ! tt $ fpick ! (λ us. fsplit ! $
          spelt ! (row S) (Is (row S)) (shows 𝓛 (row S)) (LL.vals S L) (LL.tells S L) full_share h' us lᵗ zero $ use1 𝓛 (‵ (fat full_share σ lᵗ zero (LL.val S L h'))) (𝓛.laws.raw_at full_share σ lᵗ zero (LL.val S L h')) $
          move ! (1 ∷ []) $ facts ! (row S) (Is (row S)) (shows 𝓛 (row S)) h' (LL.vals S L h') (λ is'. move ! (0 ∷ 8 ∷ []) $
          -- [t; …; what the callee leaves; room for u; …; &mut t; …; c; …; _1; …; room for _0; …; the further locals; the others]
          let uat : get_or E (u_local as₀) no_local ≡ (σ, lᵘ) = get_skip ls bs E'' (suc (suc (suc (skip (locals (temps as₀)) 0)))) ∙ get_skip (locals (temps as₀)) ts ((σ, lᵘ) ∷ []) 0 in
          assigns ! (of_opd ! (load ! (finds_at ! (get_skip ls bs E'' 0) (stop !)) (look ! 0 refl))) (finds_at ! uat (stop !)) (init ! 3 refl ((LL.lawful S L 𝓛).typed h' _ is').0) $
          assigns ! (agg ! (and_then ! (load ! (finds_at ! (get_skip ls bs E'' 1) (stop !)) (look ! 7 refl)) (and_then ! (load ! (finds_at ! uat (stop !)) (look ! 3 refl)) (no_more !)))) (from ! (stop !))
          (init ! 11 refl ((LL.lawful D ans.laws 𝓛).typed (ans.make (r ν lᵗ γ z) h') _ (relates (r ν lᵗ γ z) h' v is is')).0) $
          returns ! (look ! 11 refl) $ gone ! 11 refl refl $ gone ! 9 refl refl $
          free_all ! (‵ (fat full_share σ lᵗ zero (LL.val S L h')) ∷ ‵ (fdies σ lᵗ) ∷ raw (Out ν lᵗ γ z) ∷ ‵ (fat full_share σ lᵘ zero (LL.val S L h')) ∷ ‵ (fdies σ lᵘ) ∷ ‵ (fat full_share ρ lʳ zero (vptr lᵗ zero)) ∷ ‵ (fdies ρ lʳ) ∷ ‵ (fat full_share τ lᶜ zero v) ∷ ‵ (fdies τ lᶜ) ∷ [])
          (cells (temps as₀) ts) [] E'' (params as₀) bs (gone ! 0 refl refl $ gone ! 5 refl refl $ gone ! 3 refl refl $
          free_all ! (raw (Out ν lᵗ γ z) ∷ ‵ (fat full_share σ lᵘ zero (LL.val S L h')) ∷ ‵ (fdies σ lᵘ) ∷ []) [] [] ((σ, lᵘ) ∷ []) (temps as₀) ts (gone ! 1 refl refl $ free0 ! $
          by ! (leaves ν lᵗ γ z (whole v h') (relates (r ν lᵗ γ z) h' v is is')))))))))))))

    -- ---- the same for a callee with a contract. The parameters after the record are ps; φ is what the lender promises, and φ' what the callee does
    module _ {m : ℕ} (ps : List (Param m)) {M : Type 1} {𝓤 : Ura M} (𝓛 : Logic 𝓤) (𝓜 : Model 𝓤 𝓛.H) (𝓡 : Running 𝓤 𝓛.H 𝓜) (env' : REnv) (k : Called) (fn : Fn) (closed : Closed 𝓤 𝓛.H (tables 𝓤 𝓛.H 𝓜 𝓡 env').C (tables 𝓤 𝓛.H 𝓜 𝓡 env').Λ k fn) (j : Called) (f : Routine) (e : env' j ≡ f) where
      open 𝓛 use {H}

      abbrev Callee : Ended
      Callee = Wrapper S L pl m (slots (raised ps)) R

      abbrev Caller : Ended
      Caller = Core S L pl m (slots ps) (row D)

      -- that the lender's promise follows from the callee's, where the callee answers b and leaves the record w
      abbrev Follows : Promise Callee → Promise Caller → Type 0
      Follows φ' φ = (κs : Lfts m) (h : S.D) (bs : Denots (types_at (slots ps) κs)) (ν l : ℕ) (γ : GName) (b : R.Denot) (w : S.D) (ws : Fins (ν ∷ [], κs) (slots (raised ps)) (all yes (slots (raised ps))) (values (up (ν ∷ [], κs) ps) bs))
          → φ' (ν ∷ [], κs) (lent h l γ, values (up (ν ∷ [], κs) ps) bs) b (at_exit Callee (ν ∷ [], κs) (lent h l γ, values (up (ν ∷ [], κs) ps) bs) (w, ws)) → φ κs (h, bs) (ans.make b w) (at_exit Caller κs (h, bs) ((unmoved 𝓛 ((row S).exit yes) ans.still h).0, finals (up (ν ∷ [], κs) ps) bs ws))

      pub lender : {φ : Promise Caller} {φ' : Promise Callee} (c : Clauses 𝓤 Caller) (c' : Clauses 𝓤 Callee) → c ≡ promised 𝓤 Caller φ → c' ≡ promised 𝓤 Callee φ' → Triple 𝓤 (𝓡.run f) (Cited 𝓛 Callee c')
          → IsCode ps fn lender_locals (lender_body j) → Follows φ' φ → Triple 𝓤 ((tables 𝓤 H 𝓜 𝓡 env').C k) (Cited 𝓛 Caller c)
      lender {φ} {φ'} c c' is is' met code says =
          meets 𝓛 𝓜 𝓡 env' k fn closed j f e Caller Callee φ φ' c c' is is' met (λ C Λ fm known.
          begins m (slots ps) 𝓛 φ C Λ fn (spells ps) (all_tell ps) (λ κs qs h bs was are.
          let as₀ : List Arg = args ps κs bs are in
          let us : Valss (types_at (slots ps) κs) = machine ps κs bs in
          let Kf : Val → SProp 𝓤 = (Keeping 𝓛 Caller φ).post (bound m (slots ps) 𝓛 φ κs qs h bs us) in
          let bs' : (ν : ℕ) → Denots (types_at (slots (raised ps)) (ν ∷ [], κs)) = (λ ν. values (up (ν ∷ [], κs) ps) bs) in
          let us' : (ν : ℕ) → Valss (types_at (slots (raised ps)) (ν ∷ [], κs)) = (λ ν. words (up (ν ∷ [], κs) ps) us) in
          regoal ! (λ (vs : List Val). prop (WpFn 𝓤 H C Λ fn (LL.val S L h ∷ vs) Kf)) (passing ps κs bs are) refl $
          lends 𝓛 C Λ fm fn j as₀ (code κs bs are).0 (code κs bs are).1 h was (toks 𝓛 m κs qs) (owns (types_at (slots ps) κs) bs us)
          (λ ν l γ. Came R m (slots (raised ps)) 𝓛 φ' κs qs h ν l γ (bs' ν) (us' ν)) (λ ν l γ z. z.0) (λ ν l γ z. z.1.0) (λ ν l γ. Left R m (slots (raised ps)) 𝓛 φ' κs qs h ν l γ (bs' ν) (us' ν))
          (λ ν l γ.
          let Af : Val → SProp 𝓤 = After R m (slots (raised ps)) 𝓛 φ' κs qs h ν l γ (bs' ν) (us' ν) in
          subst (λ (vs : List Val). ent 𝓤 (Asked 𝓛 h ν l γ (toks 𝓛 m κs qs) (owns (types_at (slots ps) κs) bs us)) (C j (vptr l zero ∷ vs) Af)) (sym (same_words (up (ν ∷ [], κs) ps) us) ∙ passing ps κs bs are)
          (subst (λ (P : Fml). ent 𝓤 (Asked 𝓛 h ν l γ (toks 𝓛 m κs qs) P) (C j (vptr l zero ∷ flat (types_at (slots (raised ps)) (ν ∷ [], κs)) (us' ν)) Af)) (sym (same_owned (up (ν ∷ [], κs) ps) bs us))
          (lent_to R m (slots (raised ps)) 𝓛 φ' κs qs h ν l γ (bs' ν) (us' ν) C fm j known))) Kf
          (λ ν l γ z v r-is. ends m (slots ps) 𝓛 φ κs qs h bs us v (ans.make z.0 z.1.0) r-is (finals (up (ν ∷ [], κs) ps) bs z.1.1) _ (same_said (up (ν ∷ [], κs) ps) bs z.1.1) _ (says κs h bs ν l γ z.0 z.1.0 z.1.1))))
