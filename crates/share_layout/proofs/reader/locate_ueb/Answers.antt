use Rattle.std.proofs.Common.{◌≡◌, sym, ◌∙◌}
use Rattle.share_layout.specs.Offsets.{HasOwnOffsets, LocatesUeb, offsets_in}
use Rattle.share_layout.specs.Reading.{IsLocateFault}
use Rattle.share_layout.proofs.ShareLemmas.{located_tail, located_whole}
use Rattle.share_layout.proofs.Verdicts.{no_fault, no_refusal, one_fault, refusal}
use Rattle.share_layout.proofs.reader.locate_ueb.Goals as goal

pub returns-clause-complete : goal.returns-clause-complete
returns-clause-complete c block l =
    let bytes = c.args.bytes.now in
    no_refusal (λ found. LocatesUeb bytes found.now) (λ found. found.now ≡ block) (IsLocateFault bytes) c.locate.result c.locate.ensures
    (no_fault (HasOwnOffsets bytes) (Unit {0}) (offsets_in bytes) bytes (located_whole bytes block l) tt)
    (λ found m. (located_tail bytes found.now m).tail ∙ sym (located_tail bytes block l).tail)

pub returns-clause-refused : goal.returns-clause-refused
returns-clause-refused c =
    let bytes = c.args.bytes.now in
    refusal (λ found. LocatesUeb bytes found.now) (IsLocateFault bytes) c.locate.result c.locate.ensures
    (λ found m. no_fault (HasOwnOffsets bytes) (Unit {0}) (offsets_in bytes) bytes (located_whole bytes found.now m) tt)
    (one_fault (HasOwnOffsets bytes) (Unit {0}) (offsets_in bytes) bytes)
