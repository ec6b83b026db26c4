-- A generation without a change: what it means, and that it holds together.
-- Assumes nothing.
use Prim.Native.Nat.{ℕ}
use lib.ListN.{replicate}
use mathlib.Core.List.{List, []}
use mathlib.Core.Path.{◌≡◌, refl, ap}
use native.Mathlib.Omega.{arith}
use Rattle.card.proofs.BytesLaws.{tab_none}
use Rattle.card.proofs.RingLaws.{size_none}
use Rattle.card.specs.Bytes.{tabulate}
use Rattle.record.proofs.Held.{Listed}
use Rattle.record.specs.Meaning.{size_of, waits, notes_of, generation_of, zero_changes}
use Rattle.record.specs.declared.store.Changes.{Changes}
use Rattle.recovery.specs.State.{empty}

pub record NoChange (g : Changes) : Type 0 where
  pub count : g.count ≡ 0
  pub taken : g.taken ≡ 0
  pub down : g.down ≡ 0

pub none_is : (g : Changes) → g ≡ zero_changes → NoChange g
none_is g e = record { count = ap (λ (x : Changes). x.count) e; taken = ap (λ (x : Changes). x.taken) e; down = ap (λ (x : Changes). x.down) e }

-- a generation that is emptied: its arrays stay as they were
abbrev pub emptied : Changes → Changes
emptied g = record { count = 0; taken = 0; down = 0; frames = g.frames; places = g.places }

pub emptied_none : (g : Changes) → NoChange (emptied g)
emptied_none g = record { count = refl; taken = refl; down = refl }

module _ (g : Changes) (none : NoChange g) where
  pub none_waits : waits g ≡ 0
  none_waits = omega (arith, none.taken)

  pub none_means : (first i : ℕ) (at : ℕ → List ℕ) → generation_of first (tabulate at i (waits g)) g ≡ empty first
  unfolding empty
  none_means first i at = λ k. record { first = first; pages_down = none.down k; entries = entries k; waiting = waiting k }
    where
      entries : notes_of g ≡ []
      entries = rw none.count (tab_none _ 0)

      waiting : tabulate at i (waits g) ≡ []
      waiting = rw none_waits (tab_none _ i)

  pub none_size : size_of g ≡ 0
  none_size = size_none g.taken g.count none.count

  pub none_listed : (area blocks : ℕ) → Listed area blocks g
  none_listed area blocks = record {
    filed = record {
      home = λ i l. absurd (omega (arith, none.count));
      rises = λ i j l k. absurd (omega (arith, none.count));
      taken = λ i l. absurd (omega (arith, none.count));
    };
    stands = λ k l h. absurd (omega (arith, none.taken));
  }

-- ---- records of zeros, field by field

pub zero_changes_are : (g : Changes) → g.count ≡ 0 → g.taken ≡ 0 → g.down ≡ 0 → g.frames ≡ replicate 256 0 → g.places ≡ replicate 256 0 → g ≡ zero_changes
zero_changes_are g count taken down frames places = λ i. record { count = count i; taken = taken i; down = down i; frames = frames i; places = places i }
