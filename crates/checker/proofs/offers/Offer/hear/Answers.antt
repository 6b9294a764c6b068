use Rattle.std.proofs.Common.{sym, true≢false}
use Rattle.std.proofs.lemmas.Option.{slice_get_within}
use Rattle.lemmas.proofs.Results.{if_ok_then}
use Rattle.checker.proofs.HearingLemmas.{heard_lost, heard_on, hears_on}
use Rattle.checker.proofs.offers.Offer.hear.Goals as goal

pub note_came-requires : goal.note_came-requires
note_came-requires c =
    let h = c.requires.hears.2 in
    slice_get_within c.args.self.now.wanted.items c.args.piece h.wanted h.there

pub read_on-requires-clause-is : goal.read_on-requires-clause-is
read_on-requires-clause-is c = (
  c.requires.hears.0,
  c.requires.hears.1,
  hears_on c.args.cap.now c.args.self.now c.note_came.new.self c.args.reading.now c.args.piece c.args.bytes c.note_came.ensures c.requires.hears.0 c.requires.hears.1 c.requires.hears.2,
)

pub read_on-requires-clause-waits : goal.read_on-requires-clause-waits
read_on-requires-clause-waits c = λ _. c.standing_of.ensures.waits c.in-Waits.is

pub read_on-requires-clause-came : goal.read_on-requires-clause-came
read_on-requires-clause-came c = λ e. absurd (true≢false e)

pub read_on-requires-in-Came-clause-is : goal.read_on-requires-in-Came-clause-is
read_on-requires-in-Came-clause-is c = (
  c.requires.hears.0,
  c.requires.hears.1,
  hears_on c.args.cap.now c.args.self.now c.note_came.new.self c.args.reading.now c.args.piece c.args.bytes c.note_came.ensures c.requires.hears.0 c.requires.hears.1 c.requires.hears.2,
)

pub read_on-requires-in-Came-clause-waits : goal.read_on-requires-in-Came-clause-waits
read_on-requires-in-Came-clause-waits c = λ e. absurd (true≢false (sym e))

pub read_on-requires-in-Came-clause-came : goal.read_on-requires-in-Came-clause-came
read_on-requires-in-Came-clause-came c = λ _. c.standing_of.ensures.came c.in-Came.is

pub returns-in-Waits : goal.returns-in-Waits
returns-in-Waits c =
    if_ok_then c.read_on.result _ _ c.read_on.ensures
    (λ next on. heard_on c.args.cap.now c.args.self.now c.note_came.new.self c.args.reading.now c.args.piece c.args.bytes c.note_came.ensures c.read_on.new.self next on)

pub returns-in-Came : goal.returns-in-Came
returns-in-Came c =
    if_ok_then c.read_on-in-Came.result _ _ c.read_on-in-Came.ensures
    (λ next on. heard_on c.args.cap.now c.args.self.now c.note_came.new.self c.args.reading.now c.args.piece c.args.bytes c.note_came.ensures c.read_on-in-Came.new.self next on)

pub returns-in-Lost : goal.returns-in-Lost
returns-in-Lost c =
    let lost = c.standing_of.ensures.lost c.in-Lost.is in
    heard_lost c.args.cap.now c.args.self.now c.note_came.new.self c.args.reading.now c.args.piece c.args.bytes c.note_came.ensures c.end.new.self lost.0 lost.1 c.end.ensures
