use Rattle.std.proofs.Common.{◌≡◌, ◌∙◌, ◌≤◌, ◌*◌, List, ℕ, min, ap, sym, refl, arith}
use Rattle.request_record.specs.declared.requests.Asked.{Asked}
use Rattle.request_record.specs.Record.{asked_all}
use Rattle.upload_core.specs.State.{Goal}
use Rattle.upload_core.specs.Moves.{asks_of_server}
use Rattle.upload_core.specs.Transfers.{pieces_from}
use Rattle.upload_core.proofs.Asks.{pieces_more, pieces_take}
use Rattle.upload_core.proofs.windows.ask_pieces.Goals as goal

pub loop-index-init : goal.loop-index-init
loop-index-init c = refl

pub loop-index-preserved : goal.loop-index-preserved
loop-index-preserved c =
    let g : Goal = c.args.goal.now in
    let sent : c.min-sent.result ≡ min (c.loop-index.index * 32768) g.share_length = omega (arith, c.min-sent.ensures, c.from.ensures, c.get-length.ensures.value, c.share_length.ensures) in
    c.in_ok-ask_piece.ensures.ok
    ∙ ap (asked_all (asks_of_server c.args.server (pieces_from g 1 c.args.share c.min-sent.result))) c.loop-index.invariant
    ∙ pieces_more g c.args.server c.args.share c.loop-index.index c.min-sent.result c.args.requests.now sent

pub returns-in_err-ask_piece-clause-some : goal.returns-in_err-ask_piece-clause-some
returns-in_err-ask_piece-clause-some c =
    let g : Goal = c.args.goal.now in
    let k : ℕ = c.loop-index.index in
    let le : k ≤ g.ahead = omega (arith, c.loop-index-test.true, c.ahead-index-end.ensures.value) in
    (k, c.in_err-ask_piece.ensures.err ∙ c.loop-index.invariant ∙ ap (λ (l : List Asked). asked_all (asks_of_server c.args.server l) c.args.requests.now) (sym (pieces_take g c.args.share k g.ahead 0 le)))

pub returns-clause-ok : goal.returns-clause-ok
returns-clause-ok c =
    let g : Goal = c.args.goal.now in
    let end : c.loop-index.index ≡ g.ahead = omega (arith, c.loop-index-test.false, c.loop-index.auto.index-end, c.ahead-index-end.ensures.value) in
    c.loop-index.invariant ∙ ap (λ (n : ℕ). asked_all (asks_of_server c.args.server (pieces_from g n c.args.share 0)) c.args.requests.now) end

pub returns-clause-some : goal.returns-clause-some
returns-clause-some c =
    let g : Goal = c.args.goal.now in
    let end : c.loop-index.index ≡ g.ahead = omega (arith, c.loop-index-test.false, c.loop-index.auto.index-end, c.ahead-index-end.ensures.value) in
    let le : g.ahead ≤ g.ahead = omega arith in (
      g.ahead,
      c.loop-index.invariant ∙ ap (λ (n : ℕ). asked_all (asks_of_server c.args.server (pieces_from g n c.args.share 0)) c.args.requests.now) end
          ∙ ap (λ (l : List Asked). asked_all (asks_of_server c.args.server l) c.args.requests.now) (sym (pieces_take g c.args.share g.ahead g.ahead 0 le)),
    )
