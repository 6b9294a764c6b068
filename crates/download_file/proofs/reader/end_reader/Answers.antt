use Rattle.std.proofs.Common.{◌≡◌, ◌∙◌, ◌<◌, ℕ, List, All, Some, ap, arith, refl, subst, sym, length, slice_get, slice_set}
use Rattle.std.proofs.lemmas.List.{length-set}
use Rattle.std.proofs.lemmas.List.Elements.{All-weaker}
use Rattle.lemmas.proofs.Positions.{get_other, got}
use Rattle.download_file.specs.State.{ReaderState}
use Rattle.download_file.specs.Steps.{Leaves}
use Rattle.download_file.proofs.LiveLemmas.{from_without}
use Rattle.download_file.proofs.reader.end_reader.Goals as goal

pub leave-requires-clause-there : goal.leave-requires-clause-there
leave-requires-clause-there c =
    let long = length-set c.args.readers.now.items c.args.reader c.stop.new.self in
    All-weaker (λ position. position < length c.args.readers.now.items) (λ position. position < length (slice_set c.args.readers.now.items c.args.reader c.stop.new.self))
    (λ position low. omega (arith, low, long)) c.args.live.now.items c.requires.there

pub leave-requires-clause-gives : goal.leave-requires-clause-gives
leave-requires-clause-gives c = λ position r among at.
    let left = from_without c.args.reader position c.args.live.now.items among in
    c.requires.gives position r left.0 (sym (get_other c.args.readers.now.items c.args.reader position c.stop.new.self left.1) ∙ at)

pub returns-clause-ends : goal.returns-clause-ends
returns-clause-ends c = record {
  r = c.index_mut.result.now;
  there = got c.args.readers.now.items c.args.reader c.index_mut.result.now c.requires.found c.index_mut.ensures.value;
  leaves = subst (λ (q : ReaderState). Leaves (slice_set c.args.readers.now.items c.args.reader q) c.args.live.now.items c.args.taken.now c.args.reader c.leave.new.readers.items) c.stop.ensures c.leave.ensures.leaves;
}
