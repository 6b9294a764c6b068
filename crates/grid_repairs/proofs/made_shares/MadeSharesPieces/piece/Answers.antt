use Rattle.std.proofs.Common.{◌≡◌, IfErr, OnOk, Err, subst, sym, refl, ap, ◌∙◌}
use Rattle.share_source.specs.Decoded.{Decoding, GivesDecoded}
use Rattle.carried_operations.specs.Fetched.{FetchedState, IsReadOver, IsUnread}
use Rattle.file_upload.specs.RemadeStream.{GaveNoRemade, GaveRemade}
use Rattle.upload_core.specs.declared.pieces.PieceFault.{PieceFault}
use Rattle.grid_repairs.specs.Remaking.{GaveNonePlaced, lacks_memory, told_by}
use Rattle.grid_repairs.proofs.MadeAnew.{told}
use Rattle.grid_repairs.proofs.made_shares.MadeSharesPieces.piece.Goals.{in-Ok, in-Err}
use Rattle.grid_repairs.proofs.made_shares.MadeSharesPieces.piece.Goals as goal

pub returns-clause-ok : goal.returns-clause-ok
returns-clause-ok g c =
    let gives = GivesDecoded (IsReadOver g.G.Outside.calls) (IsUnread g.G.Outside.calls) in
    elim c.match-piece.branch [
      | in-Ok w ↦ subst (λ r. OnOk r (GaveRemade gives c.args.self.now c.args.share c.args.offset c.piece.new.out c.piece.new.self)) (sym w.result-is)
          (subst (λ s. GaveRemade gives s c.args.share c.args.offset c.piece.new.out c.piece.new.self) c.self.view_is w.in-Ok.ensures.ok)
      | in-Err w ↦ subst (λ r. OnOk r (GaveRemade gives c.args.self.now c.args.share c.args.offset c.piece.new.out c.piece.new.self)) (sym w.result-is) tt
    ]

pub returns-clause-err : goal.returns-clause-err
returns-clause-err g c =
    let gives = GivesDecoded (IsReadOver g.G.Outside.calls) (IsUnread g.G.Outside.calls) in
    let failures = λ (d : Decoding (FetchedState g.row.G.Denot)). d.failures in
    elim c.match-piece.branch [
      | in-Ok w ↦ subst (λ r. IfErr r (λ fault. GaveNonePlaced gives failures lacks_memory c.args.self.now fault c.piece.new.self)) (sym w.result-is) tt
      | in-Err w ↦
          let is : w.told_by.result ≡ told_by (lacks_memory c.piece.new.self.source) w.in-Err.fault =
          w.told_by.ensures ∙ ap (λ b. told_by b w.in-Err.fault) (w.lacks_memory.ensures ∙ ap lacks_memory w.source.ensures) in
          subst (λ r. IfErr r (λ fault. GaveNonePlaced gives failures lacks_memory c.args.self.now fault c.piece.new.self)) (sym (w.result-is ∙ ap (λ (f : PieceFault). Err f) is))
          (told gives failures lacks_memory c.args.self.now c.piece.new.self (lacks_memory c.piece.new.self.source) refl w.in-Err.fault
          (subst (λ s. GaveNoRemade gives failures s w.in-Err.fault c.piece.new.self) c.self.view_is w.in-Err.ensures.err))
    ]
