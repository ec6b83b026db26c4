-- The parameters that a wrapper or a lender hands on, as a list, and the MIR that hands them on. By recursion on the list: they are passed, lent and read as operands.
--     Arg              `direct`: a parameter of one machine value that is handed on as it is, as a number or a `&[T]`.  `lent`: a `&mut [T]`, of which a part that is all of it is handed on: two further locals hold its pointer, and the pointer with the count
--     Blocks, env      the blocks of a list of locals, and the environment that they make.        At      they are there, from a number on.        skip      the number of a local that comes n after them
--     rooms, cells     what a context has of them: room, or a value each
--     params, temps    the locals of the list, and the further ones of what is lent, with what they hold
--     operands i t     the operands of the call, where the list's locals begin at i and the further ones at t.        lends i t       the statements before the call
--     enters           a function of a first parameter and the list's is entered
-- Assumes `Logic`.
use mathlib.Core.Path.{◌≡◌, refl, sym, subst}
use Prim.Native.Nat.{ℕ, zero, suc, ◌<◌, ◌^◌}
use mathlib.Core.List.{List, [], ◌∷◌, ◌++◌}
use lib.Dec.{T}
use lib.ListN.{get_or}
use seplogic.Ra.Ura.{Ura}
use base.Fraction.{full_share}
use mir.Syntax.{Lifetime, erased, mut, w64, Ty, ty_int, ty_ref, ty_enum, ttnil, Local, local, value_local, Step as PStep, field, deref, place, Opd as Operand, copy, addr_of, aggregate, Fn, Body, seq, assign}
use mir.Val.{Val, WT, has_ty, vint, vptr}
use base.Logic.{SProp}
use base.Fml.{froom, fdies, fat}
use prog.Wp.{Env, Spot, Calls, Loops, WpFn}
use types.Logic.{Logic}
use types.Kit.{Item, Goal, Post, Seq, ◌$◌, ‵, runs, params', at_ret, allocs, passes, frees, prop, regoal}
use types.Run.{Reads, Writes, Walks, Finds, Opds, look, init, stop, hop, fld, from, load, addr, and_then, no_more, assigns, enter, alloc1, alloc0, params1, pass1, pass0}
use types.Part.{agg, whole, sub, look_in}
use denote.Slice.{slice_ty, slice_val}
use Rattle.wraplaw.proofs.Walk.{onto, over_reads, up_reads, up_writes, up_takes, in_reads, in_writes, in_takes, take_head, frees_it, rearranged, settled}

pub data Arg : Type 0 where
  direct : (τ : Ty) (v : Val) → T (has_ty τ v) × WT v → Arg
  lent : (ℓ : Lifetime) (ρ : Ty) (b o n : ℕ) → n < 2 ^ 64 → Arg

abbrev ty_of : Arg → Ty
ty_of (direct τ v t) = τ
ty_of (lent ℓ ρ b o n t) = slice_ty (ty_ref ℓ mut ρ)

abbrev val_of : Arg → Val
val_of (direct τ v t) = v
val_of (lent ℓ ρ b o n t) = slice_val (b, o) n

abbrev typed : (a : Arg) → T (has_ty (ty_of a) (val_of a)) × WT (val_of a)
typed (direct τ v t) = t
typed (lent ℓ ρ b o n t) = (tt, (tt, (record { fits = t }, tt)))

abbrev pub vals : List Arg → List Val
vals [] = []
vals (a ∷ as₁) = val_of a ∷ vals as₁

-- ---- a list of locals: their blocks, and where each is in the environment
abbrev pub Blocks : List Local → Type 0
Blocks [] = Unit {0}
Blocks (local τ h ∷ ls) = ℕ × Blocks ls

abbrev pub env : (ls : List Local) → Blocks ls → List (Ty × ℕ) → List (Ty × ℕ)
env [] bs E = E
env (local τ h ∷ ls) bs E = (τ, bs.0) ∷ env ls bs.1 E

abbrev pub skip : List Local → ℕ → ℕ
skip [] n = n
skip (l ∷ ls) n = suc (skip ls n)

-- what `get_or` says past the end, as the machine has it
abbrev pub no_local : Ty × ℕ
no_local = (ty_enum [] ttnil, zero)

abbrev pub At : List (Ty × ℕ) → ℕ → (ls : List Local) → Blocks ls → Type 0
At E i [] bs = Unit {0}
At E i (local τ h ∷ ls) bs = (get_or E i no_local ≡ (τ, bs.0)) × At E (suc i) ls bs.1

at_next : (e : Ty × ℕ) (E : List (Ty × ℕ)) (i : ℕ) (ls : List Local) (bs : Blocks ls) → At E i ls bs → At (e ∷ E) (suc i) ls bs
at_next e E i [] bs h = tt
at_next e E i (local τ k ∷ ls) bs h = (h.0, at_next e E (suc i) ls bs.1 h.1)

at_first : (ls : List Local) (bs : Blocks ls) (E : List (Ty × ℕ)) → At (env ls bs E) zero ls bs
at_first [] bs E = tt
at_first (local τ k ∷ ls) bs E = (refl, at_next (τ, bs.0) (env ls bs.1 E) zero ls bs.1 (at_first ls bs.1 E))

at_skip : (ls : List Local) (bs : Blocks ls) (E : List (Ty × ℕ)) (n : ℕ) (ls' : List Local) (bs' : Blocks ls') → At E n ls' bs' → At (env ls bs E) (skip ls n) ls' bs'
at_skip [] bs E n ls' bs' h = h
at_skip (local τ k ∷ ls) bs E n ls' bs' h = at_next (τ, bs.0) (env ls bs.1 E) (skip ls n) ls' bs' (at_skip ls bs.1 E n ls' bs' h)

pub get_skip : (ls : List Local) (bs : Blocks ls) (E : List (Ty × ℕ)) (n : ℕ) → get_or (env ls bs E) (skip ls n) no_local ≡ get_or E n no_local
get_skip [] bs E n = refl
get_skip (local τ h ∷ ls) bs E n = get_skip ls bs.1 E n

-- ---- locals that hold values
abbrev pub locals : List (Ty × Val) → List Local
locals [] = []
locals (c ∷ cs) = local c.0 value_local ∷ locals cs

abbrev pub params : List Arg → List (Ty × Val)
params [] = []
params (a ∷ as₁) = (ty_of a, val_of a) ∷ params as₁

abbrev pub temps : List Arg → List (Ty × Val)
temps [] = []
temps (direct τ v t ∷ as₁) = temps as₁
temps (lent ℓ ρ b o n t ∷ as₁) = (ty_ref erased mut ρ, vptr b o) ∷ (slice_ty (ty_ref erased mut ρ), slice_val (b, o) n) ∷ temps as₁

-- ---- the MIR
abbrev pub operands : ℕ → ℕ → List Arg → List Operand
operands i t [] = []
operands i t (direct τ v p ∷ as₁) = copy (place i []) ∷ operands (suc i) t as₁
operands i t (lent ℓ ρ b o n p ∷ as₁) = copy (place (suc t) []) ∷ operands (suc i) (suc (suc t)) as₁

abbrev pub lends : ℕ → ℕ → List Arg → Body → Body
lends i t [] body = body
lends i t (direct τ v p ∷ as₁) body = lends (suc i) t as₁ body
lends i t (lent ℓ ρ b o n p ∷ as₁) body =
    seq (assign (place t []) (addr_of (place i (field 0 ∷ deref ρ ∷ [])))) (seq (assign (place (suc t) []) (aggregate (copy (place t []) ∷ copy (place i (field 1 ∷ [])) ∷ []))) (lends (suc i) (suc (suc t)) as₁ body))

-- ---- their entries in a context
module _ {M : Type 1} {𝓤 : Ura M} where
  abbrev pub rooms : (ls : List Local) → Blocks ls → List (Item 𝓤 × Item 𝓤)
  rooms [] bs = []
  rooms (local τ h ∷ ls) bs = (‵ (froom τ bs.0 zero), ‵ (fdies τ bs.0)) ∷ rooms ls bs.1

  abbrev pub cells : (cs : List (Ty × Val)) → Blocks (locals cs) → List (Item 𝓤 × Item 𝓤)
  cells [] bs = []
  cells (c ∷ cs) bs = (‵ (fat full_share c.0 bs.0 zero c.1), ‵ (fdies c.0 bs.0)) ∷ cells cs bs.1

module _ {M : Type 1} {𝓤 : Ura M} {𝓛 : Logic 𝓤} {K : Type 0} where
  open 𝓛 use {H}

  pub finds_at : K → {E : Env 𝓤 H} {Γ : List (Item 𝓤)} {i : ℕ} {st : List PStep} {sp : Spot 𝓤 H} {e : Ty × ℕ} → get_or E i no_local ≡ e → Walks K 𝓛 Γ E (e.0, e.1, zero) st sp → Finds K 𝓛 Γ E (place i st) sp
  finds_at t {E} {Γ} {i} {st} {sp} h w = from t (subst (λ (z : Ty × ℕ). Walks K 𝓛 Γ E (z.0, z.1, zero) st sp) (sym h) w)

  -- ---- allocated
  alloc_all : K → {Γ : List (Item 𝓤)} (ls ls' : List Local) (Kt : Env 𝓤 H → Goal 𝓤 H) → ((bs : Blocks ls) → Seq K 𝓛 (onto (rooms ls bs) Γ) (allocs ls' (λ E. Kt (env ls bs E)))) → Seq K 𝓛 Γ (allocs (ls ++ ls') Kt)
  alloc_all t {Γ = Γ} [] ls' Kt k = k tt
  alloc_all t {Γ = Γ} (local τ h ∷ ls) ls' Kt k = alloc1 t (λ b. alloc_all t {Γ = ‵ (froom τ b zero) ∷ ‵ (fdies τ b) ∷ Γ} ls ls' (λ E. Kt ((τ, b) ∷ E)) (λ bs. k (b, bs)))

  -- ---- passed, within whatever stands in front
  pass_args : K → (F : List (Item 𝓤) → List (Item 𝓤)) → ((Γ Γ' : List (Item 𝓤)) (τ : Ty) (b : ℕ) (v : Val) → Writes K 𝓛 Γ τ b zero v Γ' → Writes K 𝓛 (F Γ) τ b zero v (F Γ')) → (Γ : List (Item 𝓤)) (E : Env 𝓤 H) {g : Goal 𝓤 H} (as₀ : List Arg) (bs : Blocks (locals (params as₀)))
      → Seq K 𝓛 (F (onto (cells (params as₀) bs) Γ)) g → Seq K 𝓛 (F (onto (rooms (locals (params as₀)) bs) Γ)) (passes (env (locals (params as₀)) bs E) (vals as₀) g)
  pass_args t F f Γ E [] bs k = pass0 t $ k
  pass_args t F f Γ E (a ∷ as₁) bs k =
      pass1 t (f _ _ _ _ _ (up_writes (rooms (locals (params as₁)) bs.1) (init t 0 refl (typed a)))) $ pass_args t F f (‵ (fat full_share (ty_of a) bs.0 zero (val_of a)) ∷ ‵ (fdies (ty_of a) bs.0) ∷ Γ) E as₁ bs.1 k

  -- ---- freed
  pub free_all : K → (Δ : List (Item 𝓤)) (ps : List (Item 𝓤 × Item 𝓤)) (Γ : List (Item 𝓤)) (E : Env 𝓤 H) {g : Goal 𝓤 H} (cs : List (Ty × Val)) (bs : Blocks (locals cs))
      → Seq K 𝓛 (Δ ++ onto ps Γ) (frees E g) → Seq K 𝓛 (Δ ++ onto ps (onto (cells cs bs) Γ)) (frees (env (locals cs) bs E) g)
  free_all t Δ ps Γ E [] bs k = k
  free_all t Δ ps Γ E (c ∷ cs) bs k = frees_it t (in_takes Δ ps (up_takes (cells cs bs.1) take_head)) $ free_all t Δ ps Γ E cs bs.1 k

  -- ---- A function of a first parameter and the list's is entered. Its locals are _0, _1, the other parameters, ms, the further ones of what is lent, and us.
  -- Then a context has _1, room for _0, what it had, room for us, for ms, and for the further ones, and the other parameters
  pub enters : K → (C : Calls 𝓤 H) (Λ : Loops 𝓤 H) (fn : Fn) (τ₀ τ₁ : Ty) (as₀ : List Arg) (ms us : List Local) (body : Body) → fn.locals ≡ local τ₀ value_local ∷ local τ₁ value_local ∷ (locals (params as₀) ++ (ms ++ (locals (temps as₀) ++ (us ++ [])))) → fn.body ≡ body
      → (v₁ : Val) → T (has_ty τ₁ v₁) × WT v₁ → (Γ : List (Item 𝓤)) (Kf : Val → SProp 𝓤)
      → ((l₀ l₁ : ℕ) (bs : Blocks (locals (params as₀))) (ns : Blocks ms) (ts : Blocks (locals (temps as₀))) (os : Blocks us)
      → let E : List (Ty × ℕ) = (τ₀, l₀) ∷ (τ₁, l₁) ∷ env (locals (params as₀)) bs (env ms ns (env (locals (temps as₀)) ts (env us os []))) in
      At E 2 (locals (params as₀)) bs → At E (suc (suc (skip (locals (params as₀)) (skip ms 0)))) (locals (temps as₀)) ts
      → Seq K 𝓛 (‵ (fat full_share τ₁ l₁ zero v₁) ∷ ‵ (fdies τ₁ l₁) ∷ ‵ (froom τ₀ l₀ zero) ∷ ‵ (fdies τ₀ l₀) ∷ (Γ ++ onto (rooms us os) (onto (rooms ms ns) (onto (rooms (locals (temps as₀)) ts) (onto (cells (params as₀) bs) []))))) (runs C Λ E body (at_ret E Kf)))
      → Seq K 𝓛 Γ (prop (WpFn 𝓤 H C Λ fn (v₁ ∷ vals as₀) Kf))
  enters t C Λ fn τ₀ τ₁ as₀ ms us body e e' v₁ typed₁ Γ Kf k =
      let vs : List Val = v₁ ∷ vals as₀ in
      enter t C Λ fn vs Kf $ regoal t (λ (z : List Local × Body). allocs z.0 (λ E. params' E vs (runs C Λ E z.1 (at_ret E Kf)))) (λ i. (e i, e' i)) refl $
      alloc1 t (λ l₀. alloc1 t (λ l₁.
      let Kt : Env 𝓤 H → Goal 𝓤 H = (λ E. params' ((τ₀, l₀) ∷ (τ₁, l₁) ∷ E) vs (runs C Λ ((τ₀, l₀) ∷ (τ₁, l₁) ∷ E) body (at_ret ((τ₀, l₀) ∷ (τ₁, l₁) ∷ E) Kf))) in
      let ls : List Local = locals (params as₀) in
      let ts' : List Local = locals (temps as₀) in
      alloc_all t ls (ms ++ (ts' ++ (us ++ []))) Kt (λ bs. alloc_all t ms (ts' ++ (us ++ [])) (λ E. Kt (env ls bs E)) (λ ns. alloc_all t ts' (us ++ []) (λ E. Kt (env ls bs (env ms ns E))) (λ ts. alloc_all t us [] (λ E. Kt (env ls bs (env ms ns (env ts' ts E)))) (λ os. alloc0 t $
      let E' : List (Ty × ℕ) = env ms ns (env ts' ts (env us os [])) in
      let F : List (Item 𝓤) → List (Item 𝓤) = (λ Γ'. onto (rooms us os) (onto (rooms ts' ts) (onto (rooms ms ns) Γ'))) in
      let f : (Γ₁ Γ₂ : List (Item 𝓤)) (τ : Ty) (b : ℕ) (v : Val) → Writes K 𝓛 Γ₁ τ b zero v Γ₂ → Writes K 𝓛 (F Γ₁) τ b zero v (F Γ₂) = (λ Γ₁ Γ₂ τ b v w. up_writes (rooms us os) (up_writes (rooms ts' ts) (up_writes (rooms ms ns) w))) in
      let old : List (Item 𝓤) = ‵ (fat full_share τ₁ l₁ zero v₁) ∷ ‵ (fdies τ₁ l₁) ∷ ‵ (froom τ₀ l₀ zero) ∷ ‵ (fdies τ₀ l₀) ∷ Γ in
      params1 t $ pass1 t (f _ _ _ _ _ (up_writes (rooms ls bs) (init t 0 refl typed₁))) $ pass_args t F f old E' as₀ bs (
      rearranged t (F (onto (cells (params as₀) bs) old)) (old ++ onto (rooms us os) (onto (rooms ms ns) (onto (rooms ts' ts) (onto (cells (params as₀) bs) []))))
      (settled 𝓛 (rooms us os) (rooms ts' ts) (rooms ms ns) (cells (params as₀) bs) old) $
      k l₀ l₁ bs ns ts os (at_next (τ₀, l₀) ((τ₁, l₁) ∷ env ls bs E') 1 ls bs (at_next (τ₁, l₁) (env ls bs E') 0 ls bs (at_first ls bs E')))
      (at_next (τ₀, l₀) ((τ₁, l₁) ∷ env ls bs E') (suc (skip ls (skip ms 0))) ts' ts (at_next (τ₁, l₁) (env ls bs E') (skip ls (skip ms 0)) ts' ts (at_skip ls bs E' (skip ms 0) ts' ts (at_skip ms ns (env ts' ts (env us os [])) 0 ts' ts (at_first ts' ts (env us os [])))))))))))))

-- ---- what a context lets one read of each
module _ {M : Type 1} {𝓤 : Ura M} (𝓛 : Logic 𝓤) (K : Type 0) where
  open 𝓛 use {H}

  abbrev Readable : List (Item 𝓤) → (as₀ : List Arg) → Blocks (locals (params as₀)) → Type 2
  Readable Γ [] bs = Unit {2}
  Readable Γ (direct τ v p ∷ as₁) bs = Reads K 𝓛 Γ τ bs.0 zero v × Readable Γ as₁ bs.1
  Readable Γ (lent ℓ ρ b o n p ∷ as₁) bs = Reads K 𝓛 Γ (ty_ref ℓ mut ρ) bs.0 zero (vptr b o) × (Reads K 𝓛 Γ (ty_int w64) bs.0 8 (vint w64 n) × Readable Γ as₁ bs.1)

  over_readable : (i : Item 𝓤) (Γ : List (Item 𝓤)) (as₀ : List Arg) (bs : Blocks (locals (params as₀))) → Readable Γ as₀ bs → Readable (i ∷ Γ) as₀ bs
  over_readable i Γ [] bs r = tt
  over_readable i Γ (direct τ v p ∷ as₁) bs r = (over_reads i r.0, over_readable i Γ as₁ bs.1 r.1)
  over_readable i Γ (lent ℓ ρ b o n p ∷ as₁) bs r = (over_reads i r.0, (over_reads i r.1.0, over_readable i Γ as₁ bs.1 r.1.1))

  pub readable : K → (as₀ : List Arg) (bs : Blocks (locals (params as₀))) (Γ : List (Item 𝓤)) → Readable (onto (cells (params as₀) bs) Γ) as₀ bs
  readable t [] bs Γ = tt
  readable t (direct τ v p ∷ as₁) bs Γ = (up_reads (cells (params as₁) bs.1) (look t 0 refl), readable t as₁ bs.1 (‵ (fat full_share τ bs.0 zero v) ∷ ‵ (fdies τ bs.0) ∷ Γ))
  readable t (lent ℓ ρ b o n p ∷ as₁) bs Γ =
      (up_reads (cells (params as₁) bs.1) (look_in t 0 (sub t 0 refl (whole t))), (up_reads (cells (params as₁) bs.1) (look_in t 0 (sub t 1 refl (whole t))), readable t as₁ bs.1 (‵ (fat full_share (slice_ty (ty_ref ℓ mut ρ)) bs.0 zero (slice_val (b, o) n)) ∷ ‵ (fdies (slice_ty (ty_ref ℓ mut ρ)) bs.0) ∷ Γ)))

  module _ (Δ : List (Item 𝓤)) (E : Env 𝓤 H) where
    -- what stands in front once a slice is lent
    abbrev Lent : Ty → ℕ → ℕ → ℕ → ℕ → ℕ → List (Item 𝓤)
    Lent ρ b o n c d = ‵ (fat full_share (slice_ty (ty_ref erased mut ρ)) d zero (slice_val (b, o) n)) ∷ ‵ (fdies (slice_ty (ty_ref erased mut ρ)) d) ∷ ‵ (fat full_share (ty_ref erased mut ρ) c zero (vptr b o)) ∷ ‵ (fdies (ty_ref erased mut ρ) c) ∷ []

    over-lent : (ρ : Ty) (b o n c d : ℕ) (Γ : List (Item 𝓤)) (as₀ : List Arg) (bs : Blocks (locals (params as₀))) → Readable Γ as₀ bs → Readable (Lent ρ b o n c d ++ Γ) as₀ bs
    over-lent ρ b o n c d Γ as₀ bs r = over_readable _ _ as₀ bs (over_readable _ _ as₀ bs (over_readable _ _ as₀ bs (over_readable _ _ as₀ bs r)))

    -- ---- the operands of the call
    pub operands_read : K → (i t : ℕ) (as₀ : List Arg) (bs : Blocks (locals (params as₀))) (ts : Blocks (locals (temps as₀))) (Γ : List (Item 𝓤)) → At E i (locals (params as₀)) bs → At E t (locals (temps as₀)) ts → Readable Γ as₀ bs → Opds K 𝓛 (Δ ++ onto (cells (temps as₀) ts) Γ) E (operands i t as₀) (vals as₀)
    operands_read z i t [] bs ts Γ at tat r = no_more z
    operands_read z i t (direct τ v p ∷ as₁) bs ts Γ at tat r = and_then z (load z (finds_at z at.0 (stop z)) (in_reads Δ (cells (temps as₁) ts) r.0)) (operands_read z (suc i) t as₁ bs.1 ts Γ at.1 tat r.1)
    operands_read z i t (lent ℓ ρ b o n p ∷ as₁) bs ts Γ at tat r =
        and_then z (load z (finds_at z tat.1.0 (stop z)) (in_reads Δ (cells (temps as₁) ts.1.1) (look z 0 refl)))
        (operands_read z (suc i) (suc (suc t)) as₁ bs.1 ts.1.1 (Lent ρ b o n ts.0 ts.1.0 ++ Γ) at.1 tat.1.1 (over-lent ρ b o n ts.0 ts.1.0 Γ as₁ bs.1 r.1.1))

    -- ---- lent
    pub lends_all : K → (C : Calls 𝓤 H) (Λ : Loops 𝓤 H) (q : Post 𝓤 H) (body : Body) (i t : ℕ) (as₀ : List Arg) (bs : Blocks (locals (params as₀))) (ts : Blocks (locals (temps as₀))) (Γ : List (Item 𝓤)) → At E i (locals (params as₀)) bs → At E t (locals (temps as₀)) ts → Readable Γ as₀ bs
        → Seq K 𝓛 (Δ ++ onto (cells (temps as₀) ts) Γ) (runs C Λ E body q) → Seq K 𝓛 (Δ ++ onto (rooms (locals (temps as₀)) ts) Γ) (runs C Λ E (lends i t as₀ body) q)
    lends_all z C Λ q body i t [] bs ts Γ at tat r k = k
    lends_all z C Λ q body i t (direct τ v p ∷ as₁) bs ts Γ at tat r k = lends_all z C Λ q body (suc i) t as₁ bs.1 ts Γ at.1 tat r.1 k
    lends_all z C Λ q body i t (lent ℓ ρ b o n p ∷ as₁) bs ts Γ at tat r k =
        assigns z (addr z (finds_at z at.0 (fld z refl (hop z (in_reads Δ (rooms (locals (temps as₁)) ts.1.1) (over_reads _ (over_reads _ (over_reads _ (over_reads _ r.0))))) (stop z))))) (finds_at z tat.0 (stop z)) (in_writes Δ (rooms (locals (temps as₁)) ts.1.1) (init z 2 refl (tt, tt))) $
        assigns z (agg z (and_then z (load z (finds_at z tat.0 (stop z)) (in_reads Δ (rooms (locals (temps as₁)) ts.1.1) (look z 2 refl))) (and_then z (load z (finds_at z at.0 (fld z refl (stop z))) (in_reads Δ (rooms (locals (temps as₁)) ts.1.1) (over_reads _ (over_reads _ (over_reads _ (over_reads _ r.1.0)))))) (no_more z))))
        (finds_at z tat.1.0 (stop z)) (in_writes Δ (rooms (locals (temps as₁)) ts.1.1) (init z 0 refl (tt, (tt, (record { fits = p }, tt))))) $
        lends_all z C Λ q body (suc i) (suc (suc t)) as₁ bs.1 ts.1.1 (Lent ρ b o n ts.0 ts.1.0 ++ Γ) at.1 tat.1.1 (over-lent ρ b o n ts.0 ts.1.0 Γ as₁ bs.1 r.1.1) k
