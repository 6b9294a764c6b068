use Rattle.std.proofs.Common.{◌≡◌, List, ℕ, ap, ◌∙◌}
use Rattle.aes_ctr.specs.CounterMode.{xored}
use Rattle.cap_text.specs.declared.cap.Cap.TheVariants.{Chk}
use Rattle.tagged_hash.specs.ConvergentKey.{convergent_key_of}
use Rattle.file_encoding.specs.Encoding.{Encoding, ciphertext_encoding, encoding_of}
use Rattle.file_encoding.specs.Params.{parameters_of}
use Rattle.file_encoding.proofs.Whole.{encoding_from}
use Rattle.file_encoding.proofs.encoding.encode_all.Goals as goal

encoding_is : (c : goal.In_ok-encode_ciphertext)
    → ciphertext_encoding c.in_ok-geometry.geometry c.convergent_key-key.result c.crypt-ciphertext.result.items
    ≡ encoding_of c.args.file.now c.args.secret.now (parameters_of c.args.params.now)
encoding_is c =
    encoding_from c.args.file.now c.args.secret.now (parameters_of c.args.params.now) c.in_ok-geometry.geometry c.convergent_key-key.result c.crypt-ciphertext.result.items
    c.in_ok-geometry.ensures.given
    (c.convergent_key-key.ensures
    ∙ λ i. convergent_key_of (c.needed.ensures.value i) (c.total.ensures.value i) (c.segment_size.ensures.value i) c.args.secret.now c.args.file.now)
    (c.crypt-ciphertext.ensures.value ∙ ap (λ (t : List ℕ). xored c.convergent_key-key.result t) c.in_ok-from_slice.ensures.items)

pub returns-clause-cap : goal.returns-clause-cap
returns-clause-cap c = λ _. c.in_ok-encode_ciphertext.ensures.cap ∙ ap (λ (e : Encoding). Chk e.cap) (encoding_is c)

pub returns-clause-shares : goal.returns-clause-shares
returns-clause-shares c = λ _. c.in_ok-encode_ciphertext.ensures.shares ∙ ap (λ (e : Encoding). e.shares) (encoding_is c)
