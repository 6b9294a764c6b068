use Rattle.std.proofs.lemmas.Bool.{false≢true}
use Rattle.catalogues.proofs.NameLaws.{written_more, written_rest, not_written}
use Rattle.catalogues.proofs.PieceLaws.{is_some}
use Rattle.catalogues.proofs.name.is_written.Goals as goal

pub returns-in_default : goal.returns-in_default
returns-in_default c = (
  λ no. absurd (false≢true no),
  λ w. absurd (not_written c.loop-rest.rest.now (is_some c.is_empty.result c.loop-rest.rest.now c.is_empty.ensures c.loop-rest-test.true) c.in_default.ensures (c.loop-rest.invariant.rest w)),
)

pub loop-rest-preserved : goal.loop-rest-preserved
loop-rest-preserved c =
    let has = c.in-Some.ensures in record {
      whole = λ w. c.loop-rest.invariant.whole (written_more c.loop-rest.rest.now c.in-Some.after.now c.in-Some.field-0-0 has.0 has.1 w);
      rest = λ w. written_rest c.loop-rest.rest.now c.in-Some.after.now c.in-Some.field-0-0 has.1 (c.loop-rest.invariant.rest w);
    }
