use Rattle.std.proofs.Common.{◌≡◌, Err}
use Rattle.ueb.specs.Reading.{IsRefused}
use Rattle.ueb.specs.declared.error.UebError.{UebError}
use Rattle.ueb.specs.declared.error.UebError.TheVariants.{OutOfMemory, Malformed, KeyOrder, MissingKey, Disagrees, TooLong}
use Rattle.share_verify.proofs.reading.read_expected.Goals as goal

pub returns-clause-refused : goal.returns-clause-refused
returns-clause-refused c =
    λ error.
    let f = c.read.ensures in
    let bytes = c.args.extension_block.now in
    let expect = c.args.expect.now in
    elim error as (λ (e : UebError). (c.read.result ≡ Err e → IsRefused bytes expect e) × (IsRefused bytes expect e → c.read.result ≡ Err e)) [
      | OutOfMemory ↦ (λ is. f.memory is, λ no. absurd no)
      | Malformed ↦ f.malformed
      | KeyOrder ↦ f.key_order
      | MissingKey key ↦ f.missing_key key
      | Disagrees key ↦ f.disagrees key
      | TooLong ↦ f.too_long
    ]
