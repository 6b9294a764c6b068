use Rattle.std.proofs.Common.{map, rules}
use Rattle.file_encoding.proofs.reading.read_ciphertext.Goals as goal

pub returns-in_err-decode_shares-clause-inconsistent :
    goal.returns-in_err-decode_shares-clause-inconsistent
returns-in_err-decode_shares-clause-inconsistent c = λ is. c.in_err-decode_shares.ensures.inconsistent (search rules)

pub returns-clause-ciphertext : goal.returns-clause-ciphertext
returns-clause-ciphertext c =
    c.into_ciphertext.ensures c.args.cap.now (map (λ s. s.0) c.args.shares.now) (map (λ s. s.1.now) c.args.shares.now) c.in_ok-decode_shares.ensures.decoded
