use Rattle.std.proofs.Common.{◌∙◌, ap, arith}
use Rattle.ueb.specs.Shape.{Contents}
use Rattle.ueb.proofs.Refusals.{numbers_made, agrees_made, size_made, disagrees_at, is_read}
use Rattle.ueb.proofs.reading.verdict.Goals as goal

pub returns-in-Some-first_to_differ : goal.returns-in-Some-first_to_differ
returns-in-Some-first_to_differ c =
    let scanned = c.in_ok-scan.ensures.ok in
    let e = c.new-block.ensures.contents in
    let numbers = numbers_made c.args.expect.now c.in-Some-segment_size_in.segment_size _ _ _ c.new-block.result e in
    let has = size_made c.args.expect.now c.in-Some-segment_size_in.segment_size _ _ _ c.new-block.result scanned.0 e (c.in-Some-segment_size_in.ensures scanned.0 scanned.1) in (
      omega arith,
      disagrees_at c.args.expect.now c.args.bytes.now scanned.0 c.new-block.result c.in-Some-first_to_differ.key scanned.1
          (c.in_default.ensures scanned.0 scanned.1) has numbers (c.in-Some-first_to_differ.ensures scanned.0 scanned.1),
    )

pub returns-in-None : goal.returns-in-None
returns-in-None c =
    let scanned = c.in_ok-scan.ensures.ok in
    let e = c.new-block.ensures.contents in (
      is_read c.args.bytes.now scanned.0 c.new-block.result (omega arith) scanned.1 c.new-block.ensures.valid
          (record {
            crypttext_hash = λ value there long. ap (λ (x : Contents). x.crypttext_hash) e ∙ c.hash_in.ensures scanned.0 value scanned.1 there long;
            crypttext_root_hash = λ value there long. ap (λ (x : Contents). x.crypttext_root_hash) e ∙ c.hash_in-2.ensures scanned.0 value scanned.1 there long;
            share_root_hash = λ value there long. ap (λ (x : Contents). x.share_root_hash) e ∙ c.hash_in-3.ensures scanned.0 value scanned.1 there long;
          })
          (c.in-None.ensures scanned.0 scanned.1),
      agrees_made c.args.expect.now c.in-Some-segment_size_in.segment_size _ _ _ c.new-block.result e,
    )
