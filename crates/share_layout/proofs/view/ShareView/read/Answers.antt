use Rattle.std.proofs.Common.{◌≡◌}
use Rattle.share_layout.specs.Share.{IsShare}
use Rattle.share_layout.specs.Layout.{offsets_of}
use Rattle.share_layout.specs.Reading.{sections_in, HasHeader, HasNumbers, IsReadFault}
use Rattle.share_layout.proofs.ShareLemmas.{one_reading, share_numbers, share_whole}
use Rattle.share_layout.proofs.Verdicts.{no_fault, no_refusal, one_fault, refusal}
use Rattle.share_layout.proofs.view.ShareView.read.Goals as goal

pub returns-clause-complete : goal.returns-clause-complete
returns-clause-complete c s is =
    let bytes = c.args.bytes.now in
    let g = c.args.geometry.now in
    let n = c.args.number in
    no_refusal (λ view. IsShare g n bytes (sections_in view)) (λ view. sections_in view ≡ s) (IsReadFault g n bytes) c.read_share.result c.read_share.ensures
    (no_fault (HasHeader g bytes) (HasNumbers g n bytes) (offsets_of g) bytes (share_whole g n bytes s is) (share_numbers g n bytes s is))
    (λ view found. one_reading g n n bytes (sections_in view) s found is)

pub returns-clause-refused : goal.returns-clause-refused
returns-clause-refused c =
    let bytes = c.args.bytes.now in
    let g = c.args.geometry.now in
    let n = c.args.number in
    refusal (λ view. IsShare g n bytes (sections_in view)) (IsReadFault g n bytes) c.read_share.result c.read_share.ensures
    (λ view found. no_fault (HasHeader g bytes) (HasNumbers g n bytes) (offsets_of g) bytes
    (share_whole g n bytes (sections_in view) found) (share_numbers g n bytes (sections_in view) found))
    (one_fault (HasHeader g bytes) (HasNumbers g n bytes) (offsets_of g) bytes)
