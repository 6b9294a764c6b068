use Rattle.std.proofs.Common.{ℕ, List, Contains, arith, sym, subst}
use Rattle.std.proofs.lemmas.List.{take_all}
use Rattle.std.proofs.lemmas.List.Elements.{Contains-get_or}
use Rattle.download_core.specs.Reading.{IsGone}
use Rattle.download_core.proofs.Listed.{none_more}
use Rattle.download_core.proofs.file_reading.FileReading.gone_among.Goals as goal

pub is_gone-requires-clause-live : goal.is_gone-requires-clause-live
is_gone-requires-clause-live c = c.requires.heard _ (Contains-get_or c.args.readers.now c.loop-reader.reader-index 0 c.loop-reader-test.true)

pub loop-reader-preserved : goal.loop-reader-preserved
loop-reader-preserved c =
    none_more {P = IsGone c.args.beginnings.now c.args.self.now} c.args.readers.now c.loop-reader.reader-index 0 c.loop-reader-test.true c.loop-reader.invariant
    (c.is_gone.ensures.left c.if-is_gone.false)

pub returns-clause-none : goal.returns-clause-none
returns-clause-none c reader among gone =
    c.loop-reader.invariant reader (subst (λ (l : List ℕ). Contains l reader) (sym (take_all c.loop-reader.reader-index c.args.readers.now (let t = c.loop-reader-test.false in omega (arith, t)))) among) gone
