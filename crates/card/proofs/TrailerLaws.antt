-- The trailer: its length, how it is put, and that it is read back.
-- Assumes nothing.
use Prim.Native.Nat.{ℕ, ◌+◌, ◌*◌, ◌<◌}
use lib.ListN.{length, get_or, replicate, length-replicate}
use mathlib.Core.List.{List, [], ◌∷◌, ◌++◌, append-nil}
use mathlib.Core.Path.{◌≡◌, ap, sym, ◌∙◌}
use native.Mathlib.Omega.{arith}
use Rattle.card.proofs.BytesLaws.{patch_last, get_u32_behind, U32, words-length, read_words_lem, zeros-length, zeros_front}
use Rattle.card.specs.Bytes.{patch, get_u32, words, zeros}
use Rattle.card.specs.Trailer.{trailer_block, trailer_on}
use Rattle.card.specs.declared.trailer.Trailer.{Trailer}

numbers : Trailer → List ℕ
numbers t = t.commit ∷ t.first ∷ t.pages ∷ t.entries ∷ []

pub trailer_length : (t : Trailer) → length (trailer_block t) ≡ 512
unfolding trailer_block
trailer_length t = simp (words-length)

pub trailer_put : (t : Trailer) → patch zeros 496 (words (t.commit ∷ t.first ∷ t.pages ∷ t.entries ∷ [])) ≡ trailer_block t
unfolding trailer_block numbers
trailer_put t =
    patch_last zeros 496 (words (numbers t)) (omega (arith, words-length (numbers t), zeros-length))
    ∙ ap (λ (l : List ℕ). l ++ words (numbers t)) (zeros_front 496 (omega arith))

module _ (t : Trailer) (c-fits : U32 t.commit) (f-fits : U32 t.first) (p-fits : U32 t.pages) (e-fits : U32 t.entries) where
  word : (k : ℕ) → k < 4 → get_u32 (trailer_block t) (496 + 4 * k) ≡ get_or (numbers t) k 0
  unfolding trailer_block numbers
  word k h =
      get_u32_behind (replicate 496 0) (words (numbers t)) 496 (4 * k) (length-replicate {A = ℕ} 496 0)
      ∙ ap (λ (l : List ℕ). get_u32 l (4 * k)) (sym (append-nil (words (numbers t))))
      ∙ read_words_lem (numbers t) k [] (c-fits, (f-fits, (p-fits, (e-fits, tt)))) h

  pub trailer_back : trailer_on (trailer_block t) ≡ t
  unfolding trailer_on numbers
  trailer_back =
      let c = word 0 (omega arith) in
      let f = word 1 (omega arith) in
      let p = word 2 (omega arith) in
      let e = word 3 (omega arith) in
      λ i. record { commit = c i; first = f i; pages = p i; entries = e i }
