use Rattle.std.proofs.Common.{List, ℕ, map, ap, subst, ◌∙◌, rules}
use Rattle.aes_ctr.specs.CounterMode.{xored}
use Rattle.cap_text.specs.Cap.{VerifyCapValue}
use Rattle.file_encoding.specs.Reading.{AreInconsistent, GivesCiphertext}
use Rattle.file_encoding.proofs.Reread.{read_is}
use Rattle.file_encoding.proofs.reading.read_from.Goals as goal

pub returns-clause-file : goal.returns-clause-file
returns-clause-file c =
    read_is c.args.cap.now (map (λ s. s.0) c.args.shares.now) (map (λ s. s.1.now) c.args.shares.now) c.in_ok-ciphertext.ciphertext.items _
    (subst (λ (v : VerifyCapValue). GivesCiphertext v (map (λ s. s.0) c.args.shares.now) (map (λ s. s.1.now) c.args.shares.now) c.in_ok-ciphertext.ciphertext.items) c.to_verify-verify_cap.ensures
    c.in_ok-ciphertext.ensures.ciphertext)
    (c.crypt.ensures.value ∙ ap (λ (k : List ℕ). xored k c.in_ok-ciphertext.ciphertext.items) c.key.ensures.value)

pub returns-in_err-ciphertext-clause-inconsistent : goal.returns-in_err-ciphertext-clause-inconsistent
returns-in_err-ciphertext-clause-inconsistent c is =
    subst (λ (v : VerifyCapValue). AreInconsistent v (map (λ s. s.0) c.args.shares.now) (map (λ s. s.1.now) c.args.shares.now)) c.to_verify-verify_cap.ensures
    (c.in_err-ciphertext.ensures.inconsistent (search rules))
