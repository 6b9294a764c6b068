use Rattle.std.proofs.Common.{◌≡◌, refl, rules, ap, ◌∙◌}
use Rattle.grid_serving.specs.Places.{ClientState}
use Rattle.grid_serving.specs.declared.client.TurnFault.TheVariants as why
use Rattle.grid_serving.proofs.Steps.{answers_turn, breaks_at_once, breaks_on, breaks_served, heard_bytes, heard_gives, heard_nothing, moves_now_on, moves_turn}
use Rattle.grid_serving.proofs.client.Client.step.Goals as goal

came_of : {W : Type 0} (a b : ClientState W) → a ≡ b → a.came ≡ b.came
came_of {W} a b same = ap (λ (x : ClientState W). x.came) same

moved_of : {W : Type 0} (a b : ClientState W) → a ≡ b → a.moved ≡ b.moved
moved_of {W} a b same = ap (λ (x : ClientState W). x.moved) same

pub returns-in_err-send-clause-err : goal.returns-in_err-send-clause-err
returns-in_err-send-clause-err g c =
    let broken = breaks_at_once g.W.Wire.calls g.S.Store.calls c.args.node c.args.now c.in_err-send.field-0.0 c.args.self.now.connection c.args.server.now in
    search (rules, broken)

pub returns-in_err-message-clause-err : goal.returns-in_err-message-clause-err
returns-in_err-message-clause-err g c =
    let broken = breaks_at_once g.W.Wire.calls g.S.Store.calls c.args.node c.args.now c.in_err-message.field-0.0 c.args.self.now.connection c.args.server.now in
    search (rules, broken)

pub returns-in_err-answer-in-Message-clause-err : goal.returns-in_err-answer-in-Message-clause-err
returns-in_err-answer-in-Message-clause-err g c =
    let inner : ClientState g.row.W.Denot = record { connection = c.self.inside.connection; came = c.self.inside.came; moved = c.self.inside.moved; is_ready = c.self.inside.is_ready } in
    let gives = heard_gives g.W.Wire.calls c.args.now inner c.args.self.now c.hear.new.self c.in_ok-message.field-0 c.in-Message.message c.self.view_is c.in-Message.is c.in_ok-message.ensures.heard in
    let broken = breaks_served g.W.Wire.calls g.S.Store.calls c.args.node c.args.now c.in_err-answer-in-Message.field-0.0 c.args.self.now.connection c.hear.new.self c.in-Message.message c.args.server.now c.answer.new.server gives
    c.in_err-answer-in-Message.ensures.err in
    search (rules, broken)

pub returns-in_err-send-in-Nothing-clause-err : goal.returns-in_err-send-in-Nothing-clause-err
returns-in_err-send-in-Nothing-clause-err g c =
    let inner : ClientState g.row.W.Denot = record { connection = c.self.inside.connection; came = c.self.inside.came; moved = c.self.inside.moved; is_ready = c.self.inside.is_ready } in
    let mid : ClientState g.row.W.Denot = record inner { connection = c.hear.new.self } in
    let moves = heard_nothing g.W.Wire.calls c.args.now inner c.args.self.now mid c.in_ok-message.field-0 c.self.view_is c.in-Nothing.is c.in_ok-message.ensures.heard refl refl in
    let turn = moves_turn g.W.Wire.calls g.S.Store.calls c.args.node c.args.now c.args.self.now mid c.args.server.now moves in
    let fault = c.in_err-send-in-Nothing.field-0.0 in
    let broken = breaks_on g.W.Wire.calls g.S.Store.calls c.args.node c.args.now (why.Ended fault) c.args.self.now.connection c.hear.new.self c.args.server.now c.args.server.now c.args.server.now
    turn.serving (breaks_at_once g.W.Wire.calls g.S.Store.calls c.args.node c.args.now fault c.hear.new.self c.args.server.now) in
    search (rules, broken)

pub returns-in_ok-answer-in-Message-clause-ok : goal.returns-in_ok-answer-in-Message-clause-ok
returns-in_ok-answer-in-Message-clause-ok g c =
    let inner : ClientState g.row.W.Denot = record { connection = c.self.inside.connection; came = c.self.inside.came; moved = c.self.inside.moved; is_ready = c.self.inside.is_ready } in
    let gives = heard_gives g.W.Wire.calls c.args.now inner c.args.self.now c.hear.new.self c.in_ok-message.field-0 c.in-Message.message c.self.view_is c.in-Message.is c.in_ok-message.ensures.heard in
    answers_turn g.W.Wire.calls g.S.Store.calls c.args.node c.args.now c.args.self.now c.answer.new.self c.hear.new.self c.in-Message.message c.args.server.now c.answer.new.server gives c.in_ok-answer-in-Message.ensures.ok
    (came_of _ _ c.in_ok-answer-in-Message.ensures.others ∙ came_of _ _ c.self.view_is)
    (moved_of _ _ c.in_ok-answer-in-Message.ensures.others ∙ moved_of _ _ c.self.view_is)

pub returns-in-Bytes-clause-ok : goal.returns-in-Bytes-clause-ok
returns-in-Bytes-clause-ok g c =
    let inner : ClientState g.row.W.Denot = record { connection = c.self.inside.connection; came = c.self.inside.came; moved = c.self.inside.moved; is_ready = c.self.inside.is_ready } in
    let new : ClientState g.row.W.Denot = record inner { connection = c.hear.new.self; moved = c.args.now } in
    let moves = heard_bytes g.W.Wire.calls c.args.now inner c.args.self.now new c.in_ok-message.field-0 c.self.view_is c.in-Bytes.is c.in_ok-message.ensures.heard refl refl in
    moves_turn g.W.Wire.calls g.S.Store.calls c.args.node c.args.now c.args.self.now new c.args.server.now moves

pub returns-after-branch-clause-ok : goal.returns-after-branch-clause-ok
returns-after-branch-clause-ok g c =
    let inner : ClientState g.row.W.Denot = record { connection = c.self.inside.connection; came = c.self.inside.came; moved = c.self.inside.moved; is_ready = c.self.inside.is_ready } in
    let mid : ClientState g.row.W.Denot = record inner { connection = c.hear.new.self } in
    let heard = heard_nothing g.W.Wire.calls c.args.now inner c.args.self.now mid c.in_ok-message.field-0 c.self.view_is c.in-Nothing.is c.in_ok-message.ensures.heard refl refl in
    let moves = moves_now_on g.W.Wire.calls c.args.now c.args.self.now mid c.send-in-Nothing.new.self heard c.in_ok-send-in-Nothing.ensures in
    moves_turn g.W.Wire.calls g.S.Store.calls c.args.node c.args.now c.args.self.now c.send-in-Nothing.new.self c.args.server.now moves

pub returns-then-is_full-clause-ok : goal.returns-then-is_full-clause-ok
returns-then-is_full-clause-ok g c = moves_turn g.W.Wire.calls g.S.Store.calls c.args.node c.args.now c.args.self.now c.send.new.self c.args.server.now c.in_ok-send.ensures
