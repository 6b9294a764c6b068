use Rattle.std.proofs.Common.{◌≡◌, refl, sym, ◌∙◌, ap, subst, true}
use Rattle.disks.specs.Names.{Name, lasts}
use Rattle.disks.specs.Folder.{HasBytes}
use Rattle.share_folders.specs.Names.{closed_name}
use Rattle.share_folders.proofs.Holding.{kept_at, kept_noted, kept_same, known_right, none_right, one_digest, right_noted, some_right}
use Rattle.share_folders.proofs.FolderLaws.{gone_all, noted_all}
use Rattle.share_folders.proofs.lengths.look_at.Goals as goal

pub returns-in_default-clause-right : goal.returns-in_default-clause-right
returns-in_default-clause-right g c honest digest bytes kept = known_right c.args.closed.now.entries c.args.key.now digest bytes c.in_default.ensures.known kept.noted

pub returns-in-Some-2-clause-seen : goal.returns-in-Some-2-clause-seen
returns-in-Some-2-clause-seen g c =
    noted_all c.note_length.result c.args.key.now c.in-Some.digest c.in-Some-2.length c.args.closed.now.entries c.note_length.new.closed.entries
    c.in-Some.ensures.unknown c.note_length.ensures.noted c.note_length.ensures.others c.note_length.ensures.err

pub returns-clause-seen : goal.returns-clause-seen
returns-clause-seen g c =
    gone_all c.args.key.now c.in-Some.digest c.args.closed.now.entries c.forget_closed.new.closed.entries c.in-Some.ensures.unknown c.forget_closed.ensures.gone c.forget_closed.ensures.others

pub returns-in-Some-2-clause-right : goal.returns-in-Some-2-clause-right
returns-in-Some-2-clause-right g c honest digest bytes kept =
    let s = g.D.Disk.folder c.args.disk.now in
    let same : c.in-Some.digest ≡ digest = one_digest c.args.closed.now.entries c.args.key.now c.in-Some.digest digest bytes _ c.in-Some.ensures.unknown kept.noted in
    let name : c.as_str.result.now ≡ closed_name c.args.key.now digest = c.as_str.ensures.value ∙ c.in_ok-name.ensures.text ∙ ap (closed_name c.args.key.now) same in
    let lasting : lasts c.as_str.result.now ≡ true = ap lasts c.as_str.ensures.value ∙ c.in_ok-name.ensures.lasting in
    let relies = subst (λ (n : Name). g.D.Disk.relied n bytes ≡ true) (sym name) kept.relies in
    let there = subst (λ (n : Name). HasBytes s bytes (s.found n)) (sym name) kept.stands in
    right_noted c.note_length.result c.in-Some-2.length c.in-Some.digest digest bytes _ same
    (some_right c.in-Some-2.length c.in_ok-length.field-0 bytes c.in-Some-2.is (c.in_ok-length.ensures.right honest bytes (lasting, relies) there))
    c.note_length.ensures.noted

pub returns-in-Some-2-clause-kept : goal.returns-in-Some-2-clause-kept
returns-in-Some-2-clause-kept g c honest =
    kept_noted _ _ c.args.closed.now.entries c.note_length.new.closed.entries c.args.key.now c.note_length.result (c.in_ok-length.ensures.held honest)
    (returns-in-Some-2-clause-right g c honest) c.note_length.ensures.err c.note_length.ensures.others

pub returns-in_err-length-clause-kept : goal.returns-in_err-length-clause-kept
returns-in_err-length-clause-kept g c honest = kept_same _ _ c.args.closed.now.entries c.args.closed.now.entries (c.regular_length.ensures.held honest) refl

pub returns-clause-kept : goal.returns-clause-kept
returns-clause-kept g c honest =
    let s = g.D.Disk.folder c.args.disk.now in
    kept_at s (g.D.Disk.folder c.regular_length.new.disk) c.args.closed.now.entries c.forget_closed.new.closed.entries c.args.key.now (c.in_ok-length.ensures.held honest)
    (λ digest bytes kept.
    let same : c.in-Some.digest ≡ digest = one_digest c.args.closed.now.entries c.args.key.now c.in-Some.digest digest bytes _ c.in-Some.ensures.unknown kept.noted in
    let name : c.as_str.result.now ≡ closed_name c.args.key.now digest = c.as_str.ensures.value ∙ c.in_ok-name.ensures.text ∙ ap (closed_name c.args.key.now) same in
    let lasting : lasts c.as_str.result.now ≡ true = ap lasts c.as_str.ensures.value ∙ c.in_ok-name.ensures.lasting in
    let relies = subst (λ (n : Name). g.D.Disk.relied n bytes ≡ true) (sym name) kept.relies in
    let there = subst (λ (n : Name). HasBytes s bytes (s.found n)) (sym name) kept.stands in
    none_right c.in_ok-length.field-0 bytes c.in-None.is (c.in_ok-length.ensures.right honest bytes (lasting, relies) there))
    c.forget_closed.ensures.others
