use Rattle.std.proofs.Common.{◌∙◌, ℕ, take, sym, ap, subst}
use Rattle.std.specs.Prelude.{option_to_list}
use Rattle.request_record.specs.declared.requests.Asked.{Asked}
use Rattle.request_record.specs.Record.{RequestsState, asked_all}
use Rattle.upload_core.specs.State.{UploadState, with_record}
use Rattle.upload_core.specs.Course.{IsCourse}
use Rattle.upload_core.specs.Transfers.{carried_on}
use Rattle.upload_core.specs.Moves.{asks_of_server}
use Rattle.upload_core.proofs.Asks.{all_begun}
use Rattle.upload_core.proofs.Fields.{seen}
use Rattle.upload_core.proofs.state.Course.ask_more.Goals as goal

pub invariant_of-self : goal.invariant_of-self
invariant_of-self c =
    let u : UploadState = seen c.self.inside in
    let k : ℕ = c.ask_pieces.ensures.some.0 in
    let right : IsCourse (with_record u (asked_all (asks_of_server c.args.server (take k (carried_on u.goal u.requests.entries c.args.server c.args.asked.now))) u.requests)) =
    subst (λ (s : UploadState). IsCourse (with_record s (asked_all (asks_of_server c.args.server (take k (carried_on s.goal s.requests.entries c.args.server c.args.asked.now))) s.requests))) (sym c.self.view_is) (c.requires k) in
    subst (λ (q : RequestsState). IsCourse (with_record u q)) (sym c.ask_pieces.ensures.some.1)
    (subst (λ (a : Asked). IsCourse (with_record u (asked_all (asks_of_server c.args.server (take k (carried_on u.goal u.requests.entries c.args.server a))) u.requests))) c.in-Allocation.is right)

pub ask_next-requires : goal.ask_next-requires
ask_next-requires c =
    let v : UploadState = c.args.self.now in
    all_begun v c.args.server (carried_on v.goal v.requests.entries c.args.server c.args.asked.now) (option_to_list c.next_after-next.result)
    (c.next_after-next.ensures ∙ sym (ap (carried_on v.goal v.requests.entries c.args.server) c.in-Writing.is)) c.requires
