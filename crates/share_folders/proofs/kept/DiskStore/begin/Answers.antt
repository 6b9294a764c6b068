use Rattle.std.proofs.Common.{◌∙◌, refl}
use Rattle.std.specs.Prelude.{⊤}
use Rattle.share_folders.proofs.OpenLaws.{open_begun, open_removed}
use Rattle.share_folders.proofs.kept.DiskStore.begin.Goals as goal

pub returns-in_err-share-clause-beside : goal.returns-in_err-share-clause-beside
returns-in_err-share-clause-beside g c honest =
    open_removed g.D.Disk.inode c.args.name.now.own c.args.name.now.key ⊤ c.from_residual-in_err-share.result c.as_str.result.now _ _ c.args.self.now.opened.entries c.args.self.now.opened.entries
    c.from_residual-in_err-share.ensures.0 (c.as_str.ensures.value ∙ c.in_ok-text.ensures.text) refl (c.begin_share.ensures.others honest)

pub returns-clause-beside : goal.returns-clause-beside
returns-clause-beside g c honest =
    open_begun g.D.Disk.inode c.args.name.now.own c.args.name.now.key ⊤ c.as_str.result.now c.in_ok-share.share c.put_begun.result _ _ c.args.self.now.opened.entries c.put_begun.new.opened.entries
    (c.as_str.ensures.value ∙ c.in_ok-text.ensures.text) c.put_begun.ensures.there c.put_begun.ensures.err c.put_begun.ensures.others (c.begin_share.ensures.others honest) (c.in_ok-share.ensures.apart honest)
