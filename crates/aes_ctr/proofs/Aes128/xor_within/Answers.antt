use Rattle.std.proofs.Common.{◌≡◌, ◌+◌, ◌-◌, ◌%◌, length, ◌∙◌, arith, rules}
use Rattle.aes_ctr.proofs.StreamLemmas.{xored_from-piece}
use Rattle.aes_ctr.proofs.Aes128.xor_within.Goals as goal

pub returns-else-len-eq-STREAM_LEN : goal.returns-else-len-eq-STREAM_LEN
returns-else-len-eq-STREAM_LEN c =
    let text = c.args.part.now in
    let skip = c.args.offset % 256 in
    let len : skip + length text - skip ≡ length text = omega arith in
    let full : length c.stream-stream.result ≡ 256 = search rules in
    c.add_bytes.ensures ∙ rw len (xored_from-piece c.args.self.now c.stream-stream.result c.args.offset text c.requires full c.stream-stream.ensures)
