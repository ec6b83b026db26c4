-- `card_checkpoint::checkpoint::committed` meets its contract.
use Rattle.std.proofs.Common.{true, false, Some, None, ◌≡◌, ap, sym, ◌∙◌, arith}
use Rattle.std.proofs.lemmas.Result.{err_from_is_err_and}
use Rattle.card.proofs.CheckpointLaws.{whole_tells, refusal_is, passed_area, passed_trailer, committed_is}
use Rattle.card.proofs.CheckpointLaws.{refuse_7, directory_bounds, directory_is, last_asked}
use Rattle.card.specs.Trailer.{trailer_on}
use Rattle.card.specs.declared.refusal.Refusal.TheVariants as refusals
use Rattle.card_checkpoint.proofs.checkpoint.committed.Goals as goal

pub at-requires : goal.at-requires
at-requires c = omega (arith, passed_trailer c.requires.passed c.requires.some)

pub fits-requires : goal.fits-requires
fits-requires c = (passed_area c.requires.passed).0

pub returns-then-not-fits : goal.returns-then-not-fits
returns-then-not-fits c =
    let trailer = c.read-trailer.ensures ∙ ap trailer_on c.at.ensures in
    let no = sym c.fits.ensures ∙ c.if-not-fits.true in
    refusal_is refusals.Trailer (refuse_7 c.requires.passed c.requires.some trailer no)

pub invariant_of-ring : goal.invariant_of-ring
invariant_of-ring c =
    let passed = c.requires.passed in
    let trailer = c.read-trailer.ensures ∙ ap trailer_on c.at.ensures in
    let yes = sym c.fits.ensures ∙ c.if-not-fits.false in
    record {
      area_high = (passed_area passed).0;
      first_inside = (directory_bounds passed c.requires.some trailer yes).0;
    }

pub read-found-requires : goal.read-found-requires
read-found-requires c =
    let passed = c.requires.passed in
    let blocks = whole_tells 11 65536 _ passed.card_whole in
    let trailer = c.read-trailer.ensures ∙ ap trailer_on c.at.ensures in
    let yes = sym c.fits.ensures ∙ c.if-not-fits.false in
    let bounds = directory_bounds passed c.requires.some trailer yes in
    record {
      card = (passed_area passed).1;
      blocks = blocks.1.1;
      inside = bounds.1.0;
      entries = bounds.1.1.0;
      pages = bounds.1.1.1;
    }

pub returns-in_err-directory : goal.returns-in_err-directory
returns-in_err-directory c =
    let trailer = c.read-trailer.ensures ∙ ap trailer_on c.at.ensures in
    let yes = sym c.fits.ensures ∙ c.if-not-fits.false in
    let none : c.read-found.result ≡ None = grind arith in
    let refusal : c.in_err-directory.field-0.0 ≡ refusals.Directory = grind arith in
    let no = sym (rw none at c.read-found.ensures.fits) in
    let p = err_from_is_err_and c.from_residual.result c.from_residual.ensures.1 in
    rw (p.1, p.2, refusal)
    (refusal_is refusals.Directory (last_asked c.requires.passed c.requires.some trailer false yes no))

pub returns : goal.returns
returns c =
    let passed = c.requires.passed in
    let some = c.requires.some in
    let trailer = c.read-trailer.ensures ∙ ap trailer_on c.at.ensures in
    let yes = sym c.fits.ensures ∙ c.if-not-fits.false in
    let directory = c.in_ok-directory.directory in
    let e : c.read-found.result ≡ Some directory = grind arith in
    let count = rw e at c.read-found.ensures.count in
    record {
      number = sym (last_asked passed some trailer true yes (sym (rw e at c.read-found.ensures.fits)));
      read = record {
        header_is = passed.header_is;
        trailer_is = sym (committed_is passed some trailer);
        entries_is = directory_is passed some trailer directory count (rw e at c.read-found.ensures.entries);
        places_are = rw count (rw e at c.read-found.ensures.places);
      };
    }
