use Rattle.std.proofs.Common.{◌≡◌, rules, refl}
use Rattle.tagged_hash.specs.TaggedHash.{tagged_hash}
use Rattle.tagged_hash.specs.declared.tag.Tag.TheVariants.{ExtensionBlock}
use Rattle.share_verify.proofs.UebFaults.{ueb_accepted, ueb_refused}
use Rattle.share_verify.proofs.reading.read_ueb.Goals as goal

pub returns-in-Ok-clause-complete : goal.returns-in-Ok-clause-complete
returns-in-Ok-clause-complete c = λ u held. let read = c.read_for.ensures.complete u held in let is = c.in-Ok.is in cc

pub returns-in-Ok-clause-refused : goal.returns-in-Ok-clause-refused
returns-in-Ok-clause-refused c =
    let cap = c.args.cap.now in
    let block = c.args.extension_block.now in
    let hash : tagged_hash ExtensionBlock block ≡ cap.ueb_hash = search rules in
    ueb_accepted cap block hash c.read_for.result _ c.read_for.ensures.refused c.in-Ok.ueb c.in-Ok.is refl

pub returns-in-Err-clause-complete : goal.returns-in-Err-clause-complete
returns-in-Err-clause-complete c = λ u held. let read = c.read_for.ensures.complete u held in let is = c.in-Err.is in cc

pub returns-in-Err-clause-refused : goal.returns-in-Err-clause-refused
returns-in-Err-clause-refused c =
    let cap = c.args.cap.now in
    let block = c.args.extension_block.now in
    let hash : tagged_hash ExtensionBlock block ≡ cap.ueb_hash = search rules in
    ueb_refused cap block hash c.read_for.result _ c.read_for.ensures.refused c.in-Err.error c.in-Err.is refl
