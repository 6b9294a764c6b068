use Rattle.std.proofs.Common.{ℕ, take, ap, sym, subst, ◌∙◌}
use Rattle.file_encoding.specs.Decoded.{DecodedState, IsWholeText}
use Rattle.file_encoding.specs.Reading.{GivesCiphertext}
use Rattle.file_encoding.proofs.DecodedFiles.{gives_ciphertext}
use Rattle.file_encoding.proofs.decoded.DecodedFile.into_ciphertext.Goals as goal

pub returns : goal.returns
returns c = λ cap numbers strings from.
    let cut = c.truncate.ensures.items ∙ ap (λ (n : ℕ). take n c.self.inside.text.items) c.size.ensures.value ∙ ap (λ (d : DecodedState). take d.geometry.size d.text) c.self.view_is in
    subst (GivesCiphertext cap numbers strings) (sym cut) (gives_ciphertext cap numbers strings c.args.self (subst IsWholeText c.self.view_is c.self.invariant) from)
