use Rattle.share_verify.proofs.UebFaults.{refused_by}
use Rattle.std.proofs.Common.{sym, ◌∙◌}
use Rattle.share_verify.proofs.reading.read_for.Goals as goal

pub returns-clause-refused : goal.returns-clause-refused
returns-clause-refused c =
    λ error.
    let cap = c.args.cap.now in
    let block = c.args.extension_block.now in
    let expect = c.expect_of-expect.result in
    let says = c.expect_of-expect.ensures in
    let read = c.read_expected.ensures.refused error in (
      λ is. record { expect = expect; needed = says.needed; total = says.total; size = says.size; refused = read.0 is },
      λ held. read.1 (refused_by cap block error expect says.needed says.total says.size held),
    )

pub returns-clause-complete : goal.returns-clause-complete
returns-clause-complete c =
    λ u held.
    let says = c.expect_of-expect.ensures in
    c.read_expected.ensures.complete u held.grammar record {
      needed_shares = held.needed ∙ sym says.needed;
      total_shares = held.total ∙ sym says.total;
      size = held.size ∙ sym says.size;
    }
