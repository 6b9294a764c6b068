use Rattle.std.proofs.Common.{◌≡◌, ℕ, List, sym, subst, inl, inr, ◌∙◌}
use Rattle.std.specs.Prelude.{OnOk, ◌⊎◌}
use Rattle.share_store.specs.Shelf.{at}
use Rattle.share_folders.specs.Folder.{length_at, lengths_of}
use Rattle.share_folders.specs.Names.{open_name}
use Rattle.share_folders.specs.Stored.{WasWritten}
use Rattle.share_folders.proofs.Written.{begun_anew, ready_before}
use Rattle.share_folders.proofs.kept.DiskStore.begin_at.Goals as goal
use Rattle.share_folders.proofs.kept.DiskStore.begin_at.Goals.{then-offset-eq0-via-then-offset-eq0, then-offset-eq0-via-else-offset-eq0+then-written_length-eq0}

pub returns-then-offset-eq0-clause-begun : goal.returns-then-offset-eq0-clause-begun
returns-then-offset-eq0-clause-begun g c honest before ready =
    let anew : (c.args.offset ≡ 0) ⊎ (length_at c.args.name.now.key (lengths_of c.args.self.now.opened.entries) ≡ 0) =
    elim c.then-offset-eq0.branch [
      | then-offset-eq0-via-then-offset-eq0 w ↦ inl w.if-offset-eq0.true
      | then-offset-eq0-via-else-offset-eq0+then-written_length-eq0 w ↦ inr (sym w.written_length.ensures ∙ w.if-written_length-eq0.true)
    ] in
    let none = ready_before g.D.Disk.inode c.args.offset (g.D.Disk.folder c.args.self.now.disk) (open_name c.args.name.now.key c.args.name.now.own) c.args.self.now.opened.entries c.args.name.now.key before anew ready in
    subst (λ (b : List ℕ). OnOk c.begin.result (WasWritten g.D.Disk.inode (g.D.Disk.folder c.begin.new.self.disk) (open_name c.args.name.now.key c.args.name.now.own) (at c.args.name.now.key c.begin.new.self.opened.entries) b))
    (sym (begun_anew c.args.offset before none)) (c.begin.ensures.begun honest)
