-- Is there a range that passes a test? What `any` over a slice's pairs answers.
-- Assumes nothing.
use Prim.Native.Nat.{ℕ, ◌/◌}
use denote.Param.Members.{Mut}
use denote.Ref.{Bor}
use lib.ListN.{length, get_or}
use mathlib.Core.Bool.{Bool, true, false}
use mathlib.Core.List.{List, [], ◌∷◌}
use mathlib.Core.Path.{◌≡◌, ap, sym, subst, ◌∙◌}
use native.Mathlib.Omega.{arith}
use Rattle.card.proofs.RangeLaws.{pair_next, pair_end}
use Rattle.card.specs.Range.{Range, ranges_of}
use Rattle.std.specs.Fn.{Called}
use Rattle.std.specs.Iterator.{Yields, YieldsThen}
use Rattle.std.specs.List.{FoldsTo}
use Rattle.std.specs.Option.{MatchOption}
use Rattle.std.specs.Slice.Iter.{chunks_exact_rest, chunks_exact_size, chunks_exact_steps}
use Rattle.std.specs.declared.option.Option.{Option}
use Rattle.std.specs.declared.option.Option.TheVariants.{None, Some}
use Rattle.std.specs.declared.slice.ChunksExact.{ChunksExact}

-- a pair's range, and the ranges that an iterator has still to give
abbrev pub range_of : Bor (List ℕ) → Range
range_of x = record { oid = get_or x.now 0 0; pages = get_or x.now 1 0 }

abbrev left : ChunksExact ℕ → List Range
left s = ranges_of (chunks_exact_rest s) (length (chunks_exact_rest s) / 2)

-- the closure's answer at the item that came last, if one came
abbrev pub Last : {F : Type 0} → Mut F (Bor (List ℕ) × Unit {0}) Bool → Bool → F → Option (Bor (List ℕ)) → Type 0
Last {F} g r j o = MatchOption o (r ≡ false) (λ x. (r ≡ true) × ((h : F) × Called g j (x, tt) true h))

module _ {F : Type 0} {g : Mut F (Bor (List ℕ) × Unit {0}) Bool} (f : F) (u : ChunksExact ℕ) (some : List Range → Bool) (r : Bool) where
  module _
      (none : some [] ≡ false)
      (here : (x : Bor (List ℕ)) (q : F) → Called g f (x, tt) true q → (rs : List Range) → some (range_of x ∷ rs) ≡ true)
      (later : (x : Bor (List ℕ)) (q : F) → Called g f (x, tt) false q → (q ≡ f) × ((rs : List Range) → some (range_of x ∷ rs) ≡ some rs)) where
    last : (o : Option (Bor (List ℕ))) (t : ChunksExact ℕ) → chunks_exact_size t ≡ 2 → chunks_exact_steps t o u → Last g r f o → r ≡ some (left t)
    last None t two e m = m ∙ sym (ap some (pair_end (chunks_exact_rest t) (omega (arith, e.1.0, two))) ∙ none)
    last (Some x) t two e m = m.0 ∙ sym (ap some (pair_next (chunks_exact_rest t) x.now (chunks_exact_rest u) e.1.0 (e.1.1 ∙ two)) ∙ here x m.1.0 m.1.1 _)

    all : (xs : List (Bor (List ℕ))) (s t : ChunksExact ℕ) (o : Option (Bor (List ℕ))) (j : F) → chunks_exact_size s ≡ 2 → Yields chunks_exact_steps s xs t → chunks_exact_steps t o u
        → FoldsTo (λ p x q. Called g p (x, tt) false q) f xs j → Last g r j o → r ≡ some (left s)
    all [] s t o j two y e fold m =
        subst (λ (z : ChunksExact ℕ). r ≡ some (left z)) (sym y) (last o t (ap chunks_exact_size (sym y) ∙ two) e (subst (λ (k : F). Last g r k o) (sym fold) m))
    all (x ∷ xs) s t o j two y e fold m =
        let pass = later x fold.0 fold.1 in
        let go = subst (λ (k : F). FoldsTo (λ p x q. Called g p (x, tt) false q) k xs j) pass.0 fold.2 in
        all xs y.0 t o j (y.1.0 ∙ two) y.2 e go m
        ∙ sym (ap some (pair_next (chunks_exact_rest s) x.now (chunks_exact_rest y.0) y.1.1.0 (y.1.1.1 ∙ two)) ∙ pass.1 _)

  pub any_pair : (s : ChunksExact ℕ) (ns : List ℕ)
      → (xs : List (Bor (List ℕ))) × (o : Option (Bor (List ℕ))) × (j : F) × YieldsThen chunks_exact_steps s xs o u × FoldsTo (λ p x q. Called g p (x, tt) false q) f xs j × Last g r j o
      → chunks_exact_size s ≡ 2 → chunks_exact_rest s ≡ ns → some [] ≡ false
      → ((x : Bor (List ℕ)) (q : F) → Called g f (x, tt) true q → (rs : List Range) → some (range_of x ∷ rs) ≡ true)
      → ((x : Bor (List ℕ)) (q : F) → Called g f (x, tt) false q → (q ≡ f) × ((rs : List Range) → some (range_of x ∷ rs) ≡ some rs))
      → r ≡ some (ranges_of ns (length ns / 2))
  any_pair s ns d two e none here later =
      subst (λ (l : List ℕ). r ≡ some (ranges_of l (length l / 2))) e (all none here later d.0 s d.3.0 d.1 d.2 two d.3.1 d.3.2 d.4 d.5)
