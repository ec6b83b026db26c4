-- `card_checkpoint::checkpoint::read` meets its contract.
use Rattle.std.proofs.Common.{◌≢◌, ap, sym, ◌∙◌, arith}
use Rattle.std.proofs.lemmas.Result.{err_from_is_err_and}
use Rattle.card.proofs.CheckpointLaws.{whole_tells, refusal_is, refuse_3, refuse_header}
use Rattle.card.proofs.CheckpointLaws.{uncommitted_asked, uncommitted_is, uncommitted_entries}
use Rattle.card.proofs.RefusalLaws.{number_some}
use Rattle.card.specs.Bytes.{tabulate}
use Rattle.card.specs.Checkpoint.{HeaderPassed}
use Rattle.card.specs.Directory.{entries_of}
use Rattle.card.specs.Header.{header_on}
use Rattle.card.specs.Refusal.{number}
use Rattle.card.specs.declared.refusal.Refusal.TheVariants as refusals
use Rattle.card_checkpoint.proofs.checkpoint.read.Goals as goal

pub returns-then-not-is_whole : goal.returns-then-not-is_whole
returns-then-not-is_whole c = refusal_is refusals.Card (refuse_3 _ (sym c.is_whole.ensures ∙ c.if-not-is_whole.true))

pub at-requires : goal.at-requires
at-requires c =
    let blocks = whole_tells 11 65536 _ (sym c.is_whole.ensures ∙ c.if-not-is_whole.false) in
    omega (arith, blocks.0, blocks.1.0)

pub returns-in_err-question : goal.returns-in_err-question
returns-in_err-question c =
    let whole = sym c.is_whole.ensures ∙ c.if-not-is_whole.false in
    let header = c.read-header.ensures ∙ ap header_on c.at.ensures in
    let refusal = c.in_err-question.field-0.0 in
    let some : number refusal ≢ 0 = omega (arith, number_some refusal) in
    let asked = refuse_header c.args.card.now c.read-header.result _ whole header c.in_err-question.ensures some in
    let p = err_from_is_err_and c.from_residual.result c.from_residual.ensures.1 in
    rw (p.1, p.2) (refusal_is refusal asked)

pub returns : goal.returns
unfolding entries_of tabulate
returns c =
    let whole = sym c.is_whole.ensures ∙ c.if-not-is_whole.false in
    let header = c.read-header.ensures ∙ ap header_on c.at.ensures in
    let passed = sym c.in_ok-question.ensures in
    let ok : HeaderPassed c.args.card.now c.read-header.result =
    record { card_whole = whole; header_is = header; passed = passed } in
    record {
      number = sym (uncommitted_asked ok c.if-header-ne0.false);
      read = record {
        header_is = ok.header_is;
        trailer_is = sym (uncommitted_is ok c.if-header-ne0.false);
        entries_is = rw c.empty.ensures.count (sym (uncommitted_entries ok c.if-header-ne0.false));
        places_are = λ i l. absurd (omega (arith, c.empty.ensures.count));
      };
    }
