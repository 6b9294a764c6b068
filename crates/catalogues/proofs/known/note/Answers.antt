use Rattle.std.proofs.Common.{◌∙◌, List, ℕ, Some, ap, cond}
use Rattle.std.specs.Str.{bytes_eq}
use Rattle.catalogues.specs.Known.{cap_under}
use Rattle.catalogues.proofs.KnownLaws.{noted}
use Rattle.catalogues.proofs.known.note.Goals as goal

pub returns : goal.returns
returns c = λ name. noted c.in_ok-to_vec.field-0.items c.args.caps.now c.insert.new.self (Some c.args.line.cap) c.in_ok-insert.ensures.updates name
    ∙ ap (λ (bs : List ℕ). cond (bytes_eq bs name) (Some c.args.line.cap) (cap_under c.args.caps.now name)) c.in_ok-to_vec.ensures.value
