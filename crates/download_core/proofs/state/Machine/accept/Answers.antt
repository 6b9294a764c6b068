use Rattle.std.proofs.Common.{◌≡◌, ◌∙◌, ◌<◌, List, ℕ, ap, subst, sym}
use Rattle.download_file.specs.State.{new_file}
use Rattle.cap_text.specs.Cap.{VerifyCapValue}
use Rattle.share_layout.specs.Geometry.{Geometry}
use Rattle.download_shares.specs.Causes.{AddsBlames}
use Rattle.download_core.proofs.Results.{on_both}
use Rattle.download_core.proofs.Going.{found_moves, found_way, moves_none}
use Rattle.download_core.proofs.state.Machine.accept.Goals.{After-accept}
use Rattle.download_core.proofs.state.Machine.accept.Goals as goal

file_is : (c : After-accept) → c.in_ok-reading.reading.file ≡ new_file c.args.self.now.cap.key c.args.opened.now.ueb c.args.opened.now.geometry c.args.self.now.from c.args.self.now.to
file_is c = c.in_ok-reading.ensures.file ∙ ap (λ (key : List ℕ). new_file key c.args.opened.now.ueb c.args.opened.now.geometry c.args.self.now.from c.args.self.now.to) c.key.ensures.value

pub returns-clause-way : goal.returns-clause-way
returns-clause-way c =
    let m = c.args.self.now in
    let t = c.accept.new.self in
    let b = c.requires.block in
    let e = c.accept.ensures in
    let total = e.count ∙ c.requires.count ∙ sym (ap (λ (v : VerifyCapValue). v.total) c.requires.wanted.verify) ∙ sym b.block.total ∙ ap (λ (g : Geometry). g.total) (sym b.geometry) in
    on_both c.accept.result e.known e.compared
    (λ known compared. found_way m t c.args.position c.args.opened.now c.in_ok-reading.reading c.requires.none c.requires.wanted b e.goes e.requests (file_is (goal.at.returns-clause-way c).After-accept)
    (c.in_ok-reading.ensures.reading t known compared total))

pub returns-clause-moves : goal.returns-clause-moves
returns-clause-moves c =
    let e = c.accept.ensures in
    found_moves c.args.self.now c.accept.new.self c.args.position c.args.opened.now c.in_ok-reading.reading c.requires.none c.requires.wanted c.requires.block e.goes e.requests
    (file_is (goal.at.returns-clause-moves c).After-accept) e.causes
    (subst (λ n. AddsBlames (λ b. b.share < n) c.args.self.now.beginnings.holdings.blamed c.accept.new.self.holdings.blamed) c.requires.count e.low)

pub returns-in_err-reading-clause-moves : goal.returns-in_err-reading-clause-moves
returns-in_err-reading-clause-moves c = moves_none c.args.self.now
