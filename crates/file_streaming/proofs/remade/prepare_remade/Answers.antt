use Rattle.std.proofs.Common.{◌≡◌, ℕ, ◌*◌, ◌<◌, ◌≤◌, List, length, refl, ap, subst, sym, ◌∙◌, arith}
use Rattle.std.specs.Prelude.{None}
use Rattle.std.specs.Vec.{with_items}
use Rattle.ueb.specs.Shape.{Contents, rounded_up}
use Rattle.zfec_code.specs.Shares.{Parameters as Code}
use Rattle.share_layout.specs.Geometry.{Geometry, IsGeometry, segment_count, with_padding}
use Rattle.share_layout.proofs.GeometryLemmas.{padding_count}
use Rattle.share_verify.specs.CapBlock.{geometry_by}
use Rattle.sources.specs.Source.{IsPass}
use Rattle.block_making.proofs.MadeBlocks.{begins-before}
use Rattle.block_making.specs.declared.encoder.Encoder.{Encoder}
use Rattle.share_gathering.specs.Buffers.{AreBuffers}
use Rattle.share_gathering.specs.Kept.{IsKept}
use Rattle.file_streaming.specs.Remaking.{IsRemaking}
use Rattle.share_gathering.specs.declared.finishing.Finished.{Finished}
use Rattle.share_gathering.specs.declared.buffers.Buffers.{Buffers}
use Rattle.file_streaming.specs.declared.remaking.Remaking.{Remaking}
use Rattle.file_streaming.specs.Remade.{IsTextOf}
use Rattle.file_streaming.proofs.RemadeKept.{is_kept, kept_by, kept_is}
use Rattle.file_streaming.proofs.RemadeLaws.{texts_pass}
use Rattle.file_streaming.proofs.RemadeOwn.{all_own}
use Rattle.file_streaming.proofs.RemakePass.{told-again}
use Rattle.share_gathering.proofs.Sections.{texts_of}
use Rattle.file_streaming.proofs.remade.prepare_remade.Goals as goal

pub remake-requires-clause-plain : goal.remake-requires-clause-plain
remake-requires-clause-plain g c = λ number there.
    let file : Geometry = c.geometry_of-file.result in
    let same : c.padded-geometry.result ≡ with_padding file = c.padded-geometry.ensures.value in
    let within : number < segment_count file = omega (arith, there, ap segment_count same, padding_count file c.size.ensures.valid) in
    let low : number * file.segment_size < file.size = begins-before file number c.size.ensures.valid within in
    subst (λ n. number * n ≤ c.size.result) (sym (ap (λ (h : Geometry). h.segment_size) same)) (omega (arith, low, c.size.ensures.value))

pub returns-in_err-behind-clause-inconsistent : goal.returns-in_err-behind-clause-inconsistent
returns-in_err-behind-clause-inconsistent g c = λ e.
    let u : Contents = c.args.ueb.now in
    let same : c.padded-geometry.result ≡ with_padding (geometry_by u) = c.padded-geometry.ensures.value ∙ ap with_padding c.geometry_of-file.ensures in
    let size : c.size.result ≡ u.size = c.size.ensures.value ∙ ap (λ (h : Geometry). h.size) c.geometry_of-file.ensures in
    let read = c.in_ok-remaking.ensures.remade in
    let is : IsRemaking c.padded-geometry.result u.size read.text c.in_ok-remaking.remaking =
    subst (λ n. IsRemaking c.padded-geometry.result n read.text c.in_ok-remaking.remaking) size read.is in
    record {
      text = read.text;
      pass = subst (λ (h : Geometry). IsPass g.S.Source.gives h.size c.args.source.now read.text c.remake.new.source) same read.pass;
      other = c.in_err-behind.ensures.inconsistent read.text is (told-again c.from_residual-in_err-behind.result _ _ c.from_residual-in_err-behind.ensures.1 e);
    }

pub invariant_of-kept : goal.invariant_of-kept
invariant_of-kept g c =
    let u : Contents = c.args.ueb.now in
    let file : Geometry = c.geometry_of-file.result in
    let valid : IsGeometry (geometry_by u) = subst IsGeometry c.geometry_of-file.ensures c.size.ensures.valid in
    let same : c.padded-geometry.result ≡ with_padding (geometry_by u) = c.padded-geometry.ensures.value ∙ ap with_padding c.geometry_of-file.ensures in
    let size : c.size.result ≡ u.size = c.size.ensures.value ∙ ap (λ (h : Geometry). h.size) c.geometry_of-file.ensures in
    let read = c.in_ok-remaking.ensures.remade in
    let x : Remaking = c.in_ok-remaking.remaking in
    let is : IsRemaking c.padded-geometry.result u.size read.text x = subst (λ n. IsRemaking c.padded-geometry.result n read.text x) size read.is in
    let long : length read.text ≡ rounded_up u.size u.needed_shares = is.long ∙ ap (λ (h : Geometry). h.size) same in
    let f : Finished = c.in_ok-behind.field-0 in
    let finished = c.in_ok-behind.ensures.finished read.text is in
    let old : Buffers = c.in_ok-buffers.buffers in
    let are : AreBuffers c.padded-geometry.result old = c.in_ok-buffers.ensures in
    let b : Buffers = record { segments = with_items old.segments c.remake.new.segments; lanes = with_items old.lanes c.remake.new.lanes } in
    let buffers : AreBuffers c.padded-geometry.result b = record {
      segments = sym (with_items old.segments c.remake.new.segments).ok.0 ∙ old.segments.ok.0 ∙ are.segments;
      lanes = sym (with_items old.lanes c.remake.new.lanes).ok.0 ∙ old.lanes.ok.0 ∙ are.lanes;
    } in
    let e : Encoder = record { code = c.in_ok-code.code; cipher = None } in
    let code = c.in_ok-code.ensures in
    let needed : c.in_ok-code.code.k ≡ u.needed_shares = ap (λ (k : Code). k.k) code ∙ ap (λ (h : Geometry). h.needed) same in
    let total : c.in_ok-code.code.n ≡ u.total_shares = ap (λ (k : Code). k.n) code ∙ ap (λ (h : Geometry). h.total) same in
    let kept = is_kept u valid read.text c.args.extension_block.items long c.requires.ueb.grammar.short f finished e b refl needed total
    (subst (λ (h : Geometry). AreBuffers h b) same buffers) in
    record {
      kept = subst (λ (h : Geometry). IsKept (kept_by u valid read.text c.args.extension_block.items long c.requires.ueb.grammar.short f finished h)
          (texts_of f.behind.share_hashes.items) e b) (sym same) kept;
      verified = c.in_ok-file_slots.ensures f.behind.block_trees.items;
    }

pub returns-clause-remade : goal.returns-clause-remade
returns-clause-remade g c =
    let u : Contents = c.args.ueb.now in
    let valid : IsGeometry (geometry_by u) = subst IsGeometry c.geometry_of-file.ensures c.size.ensures.valid in
    let same : c.padded-geometry.result ≡ with_padding (geometry_by u) = c.padded-geometry.ensures.value ∙ ap with_padding c.geometry_of-file.ensures in
    let size : c.size.result ≡ u.size = c.size.ensures.value ∙ ap (λ (h : Geometry). h.size) c.geometry_of-file.ensures in
    let read = c.in_ok-remaking.ensures.remade in
    let x : Remaking = c.in_ok-remaking.remaking in
    let is : IsRemaking c.padded-geometry.result u.size read.text x = subst (λ n. IsRemaking c.padded-geometry.result n read.text x) size read.is in
    let long : length read.text ≡ rounded_up u.size u.needed_shares = is.long ∙ ap (λ (h : Geometry). h.size) same in
    let f : Finished = c.in_ok-behind.field-0 in
    let finished = c.in_ok-behind.ensures.finished read.text is in
    let block : List ℕ = c.args.extension_block.items in
    let by = kept_by u valid read.text block long c.requires.ueb.grammar.short f finished in
    let of : IsTextOf c.args.cap.now block u read.text =
    record { ueb = c.requires.ueb; size = long; ciphertext_root = finished.ciphertext_root; share_root = finished.share_root } in
    record {
      text = read.text;
      pass = subst (λ (h : Geometry). IsPass g.S.Source.gives h.size c.args.source.now read.text c.remake.new.source) same read.pass;
      of = of;
      is = λ i. record {
        cap = c.args.cap.now;
        kept = (ap by same ∙ kept_is u valid read.text block long c.requires.ueb.grammar.short f finished c.args.cap.now) i;
      };
      passes = texts_pass c.args.cap.now block u read.text of;
      own = λ file secret p are. all_own file secret p c.args.cap.now block u read.text of are;
    }
