-- `card_checkpoint::directory::read` meets its contract. The loop has read the first i entries, and leaves those
-- from the i-th on to be asked about.
use Rattle.std.proofs.Common.{ℕ, ◌<◌, ◌≡◌, ap, sym, ◌∙◌, arith}
use lib.ListN.{length-set}
use Rattle.card.proofs.BytesLaws.{tab_start, tab_end, filled_more}
use Rattle.card.proofs.DirectoryLaws.{PlacesFilled, places_more, entries_filled, entry_next}
use Rattle.card.proofs.RingLaws.{on_from}
use Rattle.card.proofs.QuestionLaws.{fit_more, fit_stops, fit_end, entry_tells}
use Rattle.card.specs.Directory.{entry_on, read_dir}
use Rattle.card.specs.Question.{entries_fit}
use Rattle.card.specs.Ring.{ring_at}
use Rattle.card.specs.declared.directory.Entry.{Entry}
use Rattle.card_checkpoint.proofs.directory.read.Goals as goal

pub loop-i-init : goal.loop-i-init
unfolding read_dir
loop-i-init c =
    let a = c.args in
    let r = a.ring in
    let d = c.empty-directory.ensures in
    let start = tab_start (entry_on a.card.now r.area r.first a.p) a.e in
    record {
      rest = ap (entries_fit _ r.area r.first a.p r.area) start;
      frames_long = d.frames;
      frames = λ i h. absurd (omega arith);
      places_long = d.places;
      places = λ i h. absurd (omega arith);
    }

pub returns-then-not-entry_fits-clause-fits : goal.returns-then-not-entry_fits-clause-fits
returns-then-not-entry_fits-clause-fits c =
    let a = c.args in
    let r = a.ring in
    let l = c.loop-i in
    let f : ℕ → Entry = entry_on a.card.now r.area r.first a.p in
    let x = c.entry_on-x in
    let frame = ap (λ (x : Entry). x.frame) x.ensures in
    let block = ap (λ (x : Entry). x.block) x.ensures in
    let next = entry_next f l.i a.e _ _ (omega arith) frame block in
    let no = sym c.entry_fits.ensures ∙ c.if-not-entry_fits.true in
    sym (fit_stops _ r.area r.first a.p l.low _ _ _ next no) ∙ l.invariant.rest

pub overflow_cast-directory : goal.overflow_cast-directory
overflow_cast-directory c =
    let a = c.args in
    let fits = sym c.entry_fits.ensures ∙ c.if-not-entry_fits.false in
    let told = entry_tells _ a.ring.area a.ring.first a.p c.loop-i.low _ fits in
    omega arith

pub offset-requires : goal.offset-requires
offset-requires c =
    let a = c.args in
    let fits = sym c.entry_fits.ensures ∙ c.if-not-entry_fits.false in
    let told = entry_tells _ a.ring.area a.ring.first a.p c.loop-i.low _ fits in
    told.most

pub overflow_cast-directory-in-loop-i : goal.overflow_cast-directory-in-loop-i
overflow_cast-directory-in-loop-i c =
    let a = c.args in
    let fits = sym c.entry_fits.ensures ∙ c.if-not-entry_fits.false in
    let told = entry_tells _ a.ring.area a.ring.first a.p c.loop-i.low _ fits in
    omega (arith, c.offset.ensures, told.near)

pub loop-i-preserved : goal.loop-i-preserved
loop-i-preserved c =
    let a = c.args in
    let r = a.ring in
    let l = c.loop-i in
    let inv = l.invariant in
    let f : ℕ → Entry = entry_on a.card.now r.area r.first a.p in
    let x = c.entry_on-x in
    let frame = ap (λ (x : Entry). x.frame) x.ensures in
    let block = ap (λ (x : Entry). x.block) x.ensures in
    let next = entry_next f l.i a.e _ _ (omega arith) frame block in
    let fits = sym c.entry_fits.ensures ∙ c.if-not-entry_fits.false in
    let told = entry_tells _ r.area r.first a.p l.low _ fits in
    let place = c.offset.ensures in
    let back = on_from r.area r.first x.result.block r.first_inside told.least told.most in
    let seat = ap (ring_at r.area r.first) place ∙ back ∙ block in
    let near : c.offset.result < a.p = omega (arith, place, told.near) in
    record {
      rest = sym (fit_more _ r.area r.first a.p l.low _ _ _ next fits) ∙ inv.rest;
      frames_long = simp length-set inv.frames_long;
      frames = filled_more (λ i. (f i).frame) l.i l.directory.frames _ (omega arith) frame inv.frames;
      places_long = simp length-set inv.places_long;
      places = places_more r.area r.first a.p f l.i l.directory.places _ (omega arith) seat near inv.places;
    }

pub returns-clause-fits : goal.returns-clause-fits
returns-clause-fits c =
    let a = c.args in
    let r = a.ring in
    let l = c.loop-i in
    let end = tab_end (entry_on a.card.now r.area r.first a.p) l.i a.e (omega arith) in
    sym (fit_end _ r.area r.first a.p l.low _ end) ∙ l.invariant.rest

pub returns-clause-entries : goal.returns-clause-entries
unfolding read_dir
returns-clause-entries c =
    let a = c.args in
    let r = a.ring in
    let l = c.loop-i in
    let f : ℕ → Entry = entry_on a.card.now r.area r.first a.p in
    let e : l.i ≡ a.e = omega arith in
    let frames = rw e at l.invariant.frames in
    let places : PlacesFilled r.area r.first a.p f a.e l.directory.places = rw e at l.invariant.places in
    entries_filled r.area r.first a.p f l.directory.frames l.directory.places a.e frames places
