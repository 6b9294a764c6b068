use Rattle.std.proofs.Common.{◌≡◌, ◌+◌, get_or, ap, ◌∙◌, arith, bit_xor, w8}
use Rattle.std.proofs.lemmas.Simd.{chunk-fits, below_from_Fits, length-zip2, get_or-chunk, length-chunk}
use lib.Lanes.{chunk}
use Rattle.zfec_code.specs.Field.{product}
use Rattle.zfec_code.proofs.LaneLemmas.{lookups_sum}
use Rattle.zfec_code.proofs.lanes.Factor.times.Goals as goal

pub by_low_nibble-requires : goal.by_low_nibble-requires
by_low_nibble-requires c = length-chunk c.args.at 32 c.args.src.now c.requires

pub by_high_nibble-requires-clause-long : goal.by_high_nibble-requires-clause-long
by_high_nibble-requires-clause-long c = length-chunk c.args.at 32 c.args.src.now c.requires

pub by_high_nibble-requires-clause-fit : goal.by_high_nibble-requires-clause-fit
by_high_nibble-requires-clause-fit c = below_from_Fits w8 _ (chunk-fits w8 c.args.at 32 c.args.src.now c.type_inv.src)

pub returns-clause-size : goal.returns-clause-size
returns-clause-size c =
    length-zip2 bit_xor c.by_low_nibble.result c.by_high_nibble.result (omega (arith, c.by_low_nibble.ensures.size, c.by_high_nibble.ensures.size)) ∙ c.by_low_nibble.ensures.size

pub returns-clause-each : goal.returns-clause-each
returns-clause-each c j within =
    let bytes = chunk c.args.at 32 c.args.src.now in
    let byte : get_or bytes j 0 ≡ get_or c.args.src.now (c.args.at + j) 0 = get_or-chunk c.args.at 32 c.args.src.now j 0 within in
    let f = c.args.self.now in
    lookups_sum c.by_low_nibble.result c.by_high_nibble.result bytes f.low f.high f.value c.by_low_nibble.ensures.size c.by_high_nibble.ensures.size
    f.low_nibbles f.high_nibbles c.by_low_nibble.ensures.lanes c.by_high_nibble.ensures.lanes j within
    (omega (arith, byte, (c.type_inv.src (c.args.at + j)).fits))
    ∙ ap (product f.value) byte
