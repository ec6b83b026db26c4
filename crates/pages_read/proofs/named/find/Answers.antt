-- `pages_read::named::find` meets its contract.
use Rattle.std.proofs.Common.{ℕ, [], ◌≡◌, refl, ap, sym, ◌∙◌, arith}
use Rattle.card.proofs.AddressLaws.{lies}
use Rattle.card.proofs.QuestionLaws.{none_asked}
use Rattle.card.proofs.RangeLaws.{ranges_of_front}
use Rattle.card.specs.Question.{first_no}
use Rattle.card.specs.Range.{ranges_of, place_or, Lookup, Located, Gap, Outside}
use Rattle.pages.proofs.AnswerLaws.{placed_located, placed_gap, placed_outside}
use Rattle.pages.specs.Promise.{placed, place_in, NamedIs}
use Rattle.record.specs.declared.store.Geometry.{Geometry}
use Rattle.pages_read.proofs.named.find.Goals as goal

module _ (g : Geometry) (oid : ℕ) where
  asked : {a : Lookup} → place_in g oid ≡ a → first_no (placed a (λ p. []))
      ≡ first_no (placed (place_in g oid) (λ p. []))
  asked e = ap (λ (b : Lookup). first_no (placed b (λ p. []))) (sym e)

  named : (a : Lookup) → place_in g oid ≡ a → NamedIs g oid (place_or a)
  named (Located p) e = record {
    refusal_is = sym (placed_located p (λ q. []) ∙ none_asked) ∙ asked e;
    place_is = e;
    entry_high = (lies (ranges_of g.ranges g.count) _ oid p e).entry_high;
  }
  named Gap e = record { refusal_is = sym (placed_gap (λ p. [])) ∙ asked e; place_is = tt; entry_high = tt }
  named Outside e = record { refusal_is = sym (placed_outside (λ p. [])) ∙ asked e; place_is = tt; entry_high = tt }

pub returns : goal.returns
returns c =
    let g = c.args.g.now in
    let oid = c.args.oid in
    rw (c.find.ensures, ranges_of_front g.ranges g.count (omega arith)) (named g oid (place_in g oid) refl)
