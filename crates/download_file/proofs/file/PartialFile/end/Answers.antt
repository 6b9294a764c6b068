use Rattle.std.proofs.Common.{ℕ, List, subst, sym}
use Rattle.download_file.specs.State.{FileState, IsHeard, ReaderState, file_state, without}
use Rattle.download_file.proofs.EndFileLemmas.{AreAskedUpBut, HasEnded, can_give, ended_itself, itself_asked_up}
use Rattle.download_file.proofs.StateLemmas.{asks_itself, heard_there}
use Rattle.download_file.proofs.Fields.{seen}
use Rattle.download_file.proofs.file.PartialFile.end.Goals as goal

pub end_reader-requires-clause-found : goal.end_reader-requires-clause-found
end_reader-requires-clause-found c =
    let f : FileState = seen c.self.inside in
    heard_there f c.args.reader c.self.invariant.0 (subst (λ (s : FileState). IsHeard s c.args.reader) (sym c.self.view_is) c.requires.heard)

pub end_reader-requires-clause-gives : goal.end_reader-requires-clause-gives
end_reader-requires-clause-gives c = λ position s among at.
    let f : FileState = seen c.self.inside in
    can_give f position s c.self.invariant.0 at

abbrev then : goal.After-end_reader → FileState
then c = file_state c.self.inside.handout c.self.inside.plan.first c.self.inside.plan.end c.self.inside.taken c.end_reader.new.readers.items c.end_reader.new.live.items c.end_reader.new.aside.items c.self.inside.groups.items

ended : (c : goal.After-end_reader) → (r : ReaderState) × HasEnded c.args.self.now c.args.reader r.supply r.supply (then c)
ended c =
    let f : FileState = seen c.self.inside in
    let k = ended_itself f c.args.reader c.end_reader.new.readers.items c.self.invariant.0
    (subst (λ (s : FileState). IsHeard s c.args.reader) (sym c.self.view_is) c.requires.heard) c.end_reader.ensures.ends in (
      k.0,
      subst (λ (s : FileState). HasEnded s c.args.reader k.0.supply k.0.supply (then c)) c.self.view_is
          (subst (λ (l : List ℕ). HasEnded f c.args.reader k.0.supply k.0.supply (record f { readers = c.end_reader.new.readers.items; live = l; aside = c.end_reader.new.aside.items })) (sym c.end_reader.ensures.live)
          (subst (λ (l : List ℕ). HasEnded f c.args.reader k.0.supply k.0.supply (record f { readers = c.end_reader.new.readers.items; live = without c.args.reader f.live; aside = l })) (sym c.end_reader.ensures.aside) k.1)),
    )

asked_up : (c : goal.After-end_reader) → AreAskedUpBut c.args.self.now (then c) c.args.reader
asked_up c =
    let f : FileState = seen c.self.inside in
    let k = itself_asked_up f c.args.reader c.end_reader.new.readers.items c.self.invariant.0
    (subst (λ (s : FileState). IsHeard s c.args.reader) (sym c.self.view_is) c.requires.heard) c.end_reader.ensures.ends in
    subst (λ (s : FileState). AreAskedUpBut s (then c) c.args.reader) c.self.view_is
    (subst (λ (l : List ℕ). AreAskedUpBut f (record f { readers = c.end_reader.new.readers.items; live = l; aside = c.end_reader.new.aside.items }) c.args.reader) (sym c.end_reader.ensures.live)
    (subst (λ (l : List ℕ). AreAskedUpBut f (record f { readers = c.end_reader.new.readers.items; live = without c.args.reader f.live; aside = l }) c.args.reader) (sym c.end_reader.ensures.aside) k))

pub invariant_of-self : goal.invariant_of-self
invariant_of-self c = ((ended c).1.right, c.self.invariant.1)

pub returns-clause-right : goal.returns-clause-right
returns-clause-right c = (ended c).1.right

pub returns-clause-copies : goal.returns-clause-copies
returns-clause-copies c = (ended c).1.same_copies

pub returns-clause-none : goal.returns-clause-none
returns-clause-none c = (ended c).1.none

pub returns-clause-others : goal.returns-clause-others
returns-clause-others c = (ended c).1.others

pub returns-clause-asked : goal.returns-clause-asked
returns-clause-asked c = (ended c).1.asked (asks_itself (ended c).0.supply)

pub returns-clause-asked_up : goal.returns-clause-asked_up
returns-clause-asked_up c = asked_up c

pub returns-clause-reads : goal.returns-clause-reads
returns-clause-reads c = (ended c).1.reads

pub returns-clause-same : goal.returns-clause-same
returns-clause-same c = (ended c).1.same
