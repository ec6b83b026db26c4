-- A generation's trailer, its last block (document 01, 'A generation').
--
--   bytes          what
--   0 to 495       zero
--   496 to 499     commit number
--   500 to 503     first block of the generation
--   504 to 507     p, page blocks
--   508 to 511     e, directory entries
-- Assumes nothing.
use Rattle.std.specs.Prelude.{List, [], ◌∷◌, ◌++◌, ℕ, replicate}
use Rattle.card.specs.Bytes.{words, get_u32}
use Rattle.card.specs.declared.trailer.Trailer.{Trailer}

unfoldable pub trailer_block : Trailer → List ℕ
trailer_block t = replicate 496 0 ++ words (t.commit ∷ t.first ∷ t.pages ∷ t.entries ∷ [])

unfoldable pub trailer_on : List ℕ → Trailer
trailer_on t = record { commit = get_u32 t 496; first = get_u32 t 500; pages = get_u32 t 504; entries = get_u32 t 508 }
