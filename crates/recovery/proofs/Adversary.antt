-- A cut may do no less than document 02 says (#110). Of the writes since the last flush any are down, in any order, and
-- the last of these is torn; a header write among them is found old or new. The stronger drive leaves any bytes in every
-- block written since then, and block 0 old or new. So nobody can narrow the drives unseen.
-- Assumes nothing.
use Prim.Native.Nat.{ℕ, ◌+◌, ◌*◌, ◌≤◌}
use borrow.Author.Tests.{eqb-true, eqb-false}
use lib.Dec.{eqb}
use lib.ListN.{length}
use mathlib.Core.Bool.{Bool, true, false, cond}
use mathlib.Core.List.Permᴰ
use mathlib.Core.List.{List, [], ◌∷◌, ◌++◌, Permᴰ, List-discrete}
use mathlib.Core.Logic.{◌≢◌, ◌⊎◌, inl, inr}
use mathlib.Core.Option.{Option, none, some}
use mathlib.Core.Path.{◌≡◌, refl, ap, sym, ◌∙◌, subst}
use native.Mathlib.Decide.{ℕ_discrete}
use native.Mathlib.Omega.{arith}
use Rattle.card.proofs.AllLaws.{all_map}
use Rattle.card.proofs.BlockLaws.{put_length, put_same, put_other}
use Rattle.card.proofs.Test.{by_test}
use Rattle.card.specs.Block.{block_at, put_block}
use Rattle.card.specs.Bytes.{All}
use Rattle.recovery.proofs.DriveLaws.{all_one, all_down, left_spoilt}
use Rattle.recovery.specs.Write.{BlockWrite, Drive, put_all, seen, Left, stopped, put, torn, Proper, Unwritten, AnyBytes, Spoilt, Cut, header_among, HeaderIs, ReachedIs}

abbrev first : BlockWrite → List BlockWrite → BlockWrite
first w [] = w
first w (x ∷ xs) = x

abbrev others : List BlockWrite → List BlockWrite
others [] = []
others (x ∷ xs) = xs

-- where a write stands in another order, and that the others are the same there
abbrev Stands : BlockWrite → List BlockWrite → List BlockWrite → Type 0
Stands w rest ws = (us : List BlockWrite) × (vs : List BlockWrite) × (ws ≡ us ++ (w ∷ vs)) × Permᴰ rest (us ++ vs)

stands : {l ws : List BlockWrite} → Permᴰ l ws → (as' bs : List BlockWrite) (w : BlockWrite) → l ≡ as' ++ (w ∷ bs) → Stands w (as' ++ bs) ws
stands Permᴰ.nil [] bs w e = let z : ◌≡◌ {A = ℕ} 0 1 = cc in absurd (omega arith)
stands Permᴰ.nil (x ∷ as') bs w e = let z : ◌≡◌ {A = ℕ} 0 1 = cc in absurd (omega arith)
stands (Permᴰ.cons {b = b} {l₂ = l₂} h d) [] bs w e =
    ([], l₂, ap (λ (x : BlockWrite). x ∷ l₂) (sym h ∙ ap (first w) e), subst (λ (l : List BlockWrite). Permᴰ l l₂) (ap others e) d)
stands (Permᴰ.cons {b = b} h d) (x ∷ as') bs w e =
    let r = stands d as' bs w (ap others e) in
    (b ∷ r.0, r.1, ap (λ (l : List BlockWrite). b ∷ l) r.2, Permᴰ.cons (sym (ap (first w) e) ∙ h) r.3)
stands (Permᴰ.swap {a' = a'} {b' = b'} {l = l} h k) [] bs w e = (
  a' ∷ [],
  l,
  ap (λ (x : BlockWrite). a' ∷ x ∷ l) (sym h ∙ ap (first w) e),
  subst (λ (t : List BlockWrite). Permᴰ t (a' ∷ l)) (ap others e) (Permᴰ.cons k (Permᴰ.refl l)),
)
stands (Permᴰ.swap {a' = a'} {b' = b'} {l = l} h k) (x ∷ []) bs w e = (
  [],
  b' ∷ l,
  ap (λ (y : BlockWrite). y ∷ b' ∷ l) (sym k ∙ ap (first w) (ap others e)),
  subst (λ (t : List BlockWrite). Permᴰ (x ∷ t) (b' ∷ l)) (ap others (ap others e)) (Permᴰ.cons (sym (ap (first w) e) ∙ h) (Permᴰ.refl l)),
)
stands (Permᴰ.swap {a' = a'} {b' = b'} {l = l} h k) (x ∷ y ∷ as') bs w e = (
  a' ∷ b' ∷ as',
  bs,
  ap (λ (t : List BlockWrite). a' ∷ b' ∷ t) (ap others (ap others e)),
  Permᴰ.swap (sym (ap (first w) e) ∙ h) (sym (ap (first w) (ap others e)) ∙ k),
)
stands (Permᴰ.trans d k) as' bs w e =
    let r = stands d as' bs w e in
    let t = stands k r.0 r.1 w r.2 in
    (t.0, t.1, t.2, Permᴰ.trans r.3 t.3)

-- the order in which they were made does not matter
any_order : (c' : List ℕ) {us ws : List BlockWrite} (c : List ℕ) → Permᴰ us ws → Left c' us c → Left c' ws c
any_order c' {us} {ws} c p (stopped xs d e) = stopped ws c e
any_order c' {us} {ws} c p (put xs as' bs w d e l) =
    let r = stands p as' bs w e in
    put ws r.0 r.1 w c r.2 (any_order c' (put_block c w.block w.bytes) r.3 l)
any_order c' {us} {ws} c p (torn xs as' bs w d x e low long is) = let r = stands p as' bs w e in torn ws r.0 r.1 w c x r.2 low long is

-- the first ones of a list are put down
put_first : (c' : List ℕ) (ts rs : List BlockWrite) (c : List ℕ) → Left c' rs (put_all ts c) → Left c' (ts ++ rs) c
unfolding put_all
put_first c' [] rs c l = l
put_first c' (w ∷ ts) rs c l = put (w ∷ (ts ++ rs)) [] (ts ++ rs) w c refl (put_first c' ts rs (put_block c w.block w.bytes) l)

-- ---- what a cut may leave of writes ws that are not flushed

-- any of them, in any order: ts are down, rs are not
pub left_any : (ws ts rs : List BlockWrite) (c : List ℕ) → Permᴰ (ts ++ rs) ws → Left (put_all ts c) ws c
left_any ws ts rs c p = any_order (put_all ts c) c p (put_first (put_all ts c) ts rs c (stopped rs (put_all ts c) refl))

-- and after them one that is torn, with any bytes, unless it is block 0
pub left_torn : (ws ts rs : List BlockWrite) (w : BlockWrite) (c x : List ℕ) → Permᴰ (ts ++ (w ∷ rs)) ws → 1 ≤ w.block → length x ≡ 512
    → Left (put_block (put_all ts c) w.block x) ws c
left_torn ws ts rs w c x p low long =
    let c' = put_block (put_all ts c) w.block x in
    any_order c' c p (put_first c' ts (w ∷ rs) c (torn (w ∷ rs) [] rs w (put_all ts c) x refl (omega (arith, low)) long refl))

-- all but one, or one alone: a header write too, which is found old in the first case and new in the second
module _ (us vs : List BlockWrite) (h : BlockWrite) (c : List ℕ) where
  pub all_but_one : Left (put_all (us ++ vs) c) (us ++ (h ∷ vs)) c
  all_but_one = left_any (us ++ (h ∷ vs)) (us ++ vs) (h ∷ []) c
      (Permᴰ.trans (Permᴰ.middle h (us ++ vs) []) (Permᴰ.trans (Permᴰ.cons refl (Permᴰ.append-nil (us ++ vs))) (Permᴰ.symm (Permᴰ.middle h us vs))))

  pub one_alone : Left (put_block c h.block h.bytes) (us ++ (h ∷ vs)) c
  unfolding put_all
  one_alone = left_any (us ++ (h ∷ vs)) (h ∷ []) (us ++ vs) c (Permᴰ.symm (Permᴰ.middle h us vs))

-- ---- what a cut may leave of a drive

module _ (v : Drive) where
  -- between calls: nothing since the last flush is down
  pub none_down : Cut Left v none v.flushed
  none_down = stopped v.since v.flushed refl

  -- in a call that writes w: this one alone is down; or all before it are, and it is torn
  module _ (w : BlockWrite) where
    pub made_alone : Cut Left v (some w) (put_block v.flushed w.block w.bytes)
    made_alone = one_alone v.since [] w v.flushed

    pub made_torn : (x : List ℕ) → 1 ≤ w.block → length x ≡ 512 → Cut Left v (some w) (put_block (seen v) w.block x)
    made_torn x low long = left_torn (v.since ++ (w ∷ [])) v.since [] w v.flushed x (Permᴰ.refl (v.since ++ (w ∷ []))) low long

-- whatever a cut leaves, a header write has reached the card or has not
pub either_way : (ws : List BlockWrite) (c' : List ℕ) → (reached : Bool) × ReachedIs ws c' reached
either_way ws c' = go (header_among none ws)
  where
    go : (o : Option (List ℕ)) → (reached : Bool) × ((HeaderIs o c' × (reached ≡ true)) ⊎ ((HeaderIs o c' → ⊥) × (reached ≡ false)))
    go none = (false, inr ((λ z. z), refl))
    go (some x) = found (List-discrete ℕ_discrete (block_at c' 0) x)
      where
        found : Dec (block_at c' 0 ≡ x) → (reached : Bool) × (((block_at c' 0 ≡ x) × (reached ≡ true)) ⊎ ((block_at c' 0 ≡ x → ⊥) × (reached ≡ false)))
        found (yes e) = (true, inl (e, refl))
        found (no n) = (false, inr (n, refl))

-- ---- what the stronger drive may leave

-- the writes with other bytes, but those of block 0
unfoldable pub spoil : (ℕ → List ℕ) → List BlockWrite → List BlockWrite
spoil x [] = []
spoil x (w ∷ ws) = cond (eqb w.block 0) (spoil x ws) (record { block = w.block; bytes = x w.block } ∷ spoil x ws)

module _ (blocks : ℕ) (x : ℕ → List ℕ) (long : (n : ℕ) → length (x n) ≡ 512) where
  -- what holds of all of them but those of block 0 holds of the spoilt ones
  spoil_all : (P : ℕ → Type 0) (ws : List BlockWrite) → All (λ w. w.block ≢ 0 → P w.block) ws
      → All (λ w. P w.block) (spoil x ws)
  unfolding spoil
  spoil_all P [] h = tt
  spoil_all P (w ∷ ws) h = by_test (All (λ w. P w.block)) (eqb w.block 0)
      (λ e. spoil_all P ws h.1) (λ e. (h.0 (eqb-false _ _ e), spoil_all P ws h.1))

  spoil_proper : (ws : List BlockWrite) → All (Proper blocks) ws → All (Proper blocks) (spoil x ws)
  unfolding spoil
  spoil_proper [] h = tt
  spoil_proper (w ∷ ws) h = by_test (All (Proper blocks)) (eqb w.block 0)
      (λ e. spoil_proper ws h.1) (λ e. ((long w.block, h.0.1), spoil_proper ws h.1))

  -- every block that was written, but block 0, has its bytes
  abbrev Has : List ℕ → List BlockWrite → Type 0
  Has c ws = All (λ w. 1 ≤ w.block → block_at c w.block ≡ x w.block) ws

  -- a block that has its bytes keeps them, and each one gets them
  spoil_keeps : (ws : List BlockWrite) (c : List ℕ) → length c ≡ 512 * blocks → All (Proper blocks) ws
      → (n : ℕ) → block_at c n ≡ x n → block_at (put_all (spoil x ws) c) n ≡ x n
  unfolding spoil put_all
  spoil_keeps [] c whole p n e = e
  spoil_keeps (w ∷ ws) c whole p n e = by_test (λ (us : List BlockWrite). block_at (put_all us c) n ≡ x n) (eqb w.block 0)
      (λ z. spoil_keeps ws c whole p.1 n e)
      (λ z. spoil_keeps ws (put_block c w.block (x w.block)) long₁ p.1 n (has (ℕ_discrete n w.block)))
    where
      fits : 512 * w.block + 512 ≤ length c
      fits = omega (arith, p.0.1, whole)

      long₁ : length (put_block c w.block (x w.block)) ≡ 512 * blocks
      long₁ = put_length c w.block (x w.block) (long w.block) fits ∙ whole

      has : Dec (n ≡ w.block) → block_at (put_block c w.block (x w.block)) n ≡ x n
      has (yes q) = rw q (put_same c w.block (x w.block) (long w.block) fits)
      has (no q) = put_other c w.block (x w.block) (long w.block) fits n q ∙ e

  spoil-has : (ws : List BlockWrite) (c : List ℕ) → length c ≡ 512 * blocks → All (Proper blocks) ws → Has (put_all (spoil x ws) c) ws
  unfolding spoil put_all
  spoil-has [] c whole p = tt
  spoil-has (w ∷ ws) c whole p = by_test (λ (us : List BlockWrite). Has (put_all us c) (w ∷ ws)) (eqb w.block 0)
      (λ z. ((λ low. absurd (omega (arith, low, eqb-true w.block 0 z))), spoil-has ws c whole p.1))
      (λ z. (
        (λ low. spoil_keeps ws c₁ whole₁ p.1 w.block (put_same c w.block (x w.block) (long w.block) fits)),
        spoil-has ws c₁ whole₁ p.1,
      ))
    where
      fits : 512 * w.block + 512 ≤ length c
      fits = omega (arith, p.0.1, whole)

      c₁ : List ℕ
      c₁ = put_block c w.block (x w.block)

      whole₁ : length (put_block c w.block (x w.block)) ≡ 512 * blocks
      whole₁ = put_length c w.block (x w.block) (long w.block) fits ∙ whole

  module _ (c : List ℕ) (ws : List BlockWrite) (whole : length c ≡ 512 * blocks) (proper : All (Proper blocks) ws) where
    abbrev spoilt_card : List ℕ
    spoilt_card = put_all (spoil x ws) c

    spoilt_left : AnyBytes spoilt_card (spoil x ws) c
    spoilt_left = left_spoilt spoilt_card (spoil x ws) c (all_down (spoil x ws) c) blocks whole (spoil_proper ws proper)

    others_stand : (n : ℕ) → Unwritten n ws → block_at spoilt_card n ≡ block_at c n
    others_stand n un = spoilt_left.others n
        (spoil_all (λ m. n ≢ m) ws (all_map (λ w. n ≢ w.block) (λ w. w.block ≢ 0 → n ≢ w.block) ws (λ w h z. h) un))

    head_stands : block_at spoilt_card 0 ≡ block_at c 0
    head_stands = spoilt_left.others 0
        (spoil_all (λ m. 0 ≢ m) ws (all_map (Proper blocks) (λ w. w.block ≢ 0 → 0 ≢ w.block) ws (λ w h z e. z (sym e)) proper))

    -- every block written has the bytes that one likes, and block 0 is old
    pub spoilt_old : Spoilt spoilt_card ws c × Has spoilt_card ws × (block_at spoilt_card 0 ≡ block_at c 0)
    spoilt_old = (
      (λ b h p. record { long = spoilt_left.long; others = others_stand; head = inl head_stands }),
      spoil-has ws c whole proper,
      head_stands,
    )

    -- or as any header write among them has it
    module _ (us vs : List BlockWrite) (h : BlockWrite) (e : ws ≡ us ++ (h ∷ vs)) (zero : h.block ≡ 0) where
      abbrev new_card : List ℕ
      new_card = put_block spoilt_card 0 h.bytes

      h_proper : Proper blocks h
      h_proper = (all_one (Proper blocks) us vs h (subst (All (Proper blocks)) e proper)).0

      fits : 512 * 0 + 512 ≤ length spoilt_card
      fits = omega (arith, spoilt_left.long, whole, h_proper.1, zero)

      above : (n : ℕ) → 1 ≤ n → block_at new_card n ≡ block_at spoilt_card n
      above n low = put_other spoilt_card 0 h.bytes h_proper.0 fits n (omega (arith, low))

      new_others : (n : ℕ) → Unwritten n ws → block_at new_card n ≡ block_at c n
      new_others n un =
          let off : n ≢ h.block = (all_one (λ w. n ≢ w.block) us vs h (subst (Unwritten n) e un)).0 in
          above n (omega (arith, off, zero)) ∙ others_stand n un

      head_new : block_at new_card 0 ≡ h.bytes
      head_new = put_same spoilt_card 0 h.bytes h_proper.0 fits

      new_long : length new_card ≡ length c
      new_long = put_length spoilt_card 0 h.bytes h_proper.0 fits ∙ spoilt_left.long

      pub spoilt_new : Spoilt new_card ws c × Has new_card ws × (block_at new_card 0 ≡ h.bytes)
      spoilt_new = (
        (λ b k p. record { long = new_long; others = new_others; head = inr (us, vs, h, e, zero, head_new) }),
        all_map (λ w. 1 ≤ w.block → block_at spoilt_card w.block ≡ x w.block)
            (λ w. 1 ≤ w.block → block_at new_card w.block ≡ x w.block) ws (λ w k low. above w.block low ∙ k low)
            (spoil-has ws c whole proper),
        head_new,
      )
