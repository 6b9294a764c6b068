use Rattle.std.proofs.Common.{◌≡◌, Option, inl, inr, sym, ap, subst, ◌∙◌}
use Rattle.std.specs.Prelude.{option_to_list}
use Rattle.lemmas.proofs.Results.{on_ok, settled_by}
use Rattle.request_record.specs.declared.requests.Asked.{Asked}
use Rattle.request_record.specs.Record.{RequestsState, asked_all, asked_more}
use Rattle.upload_core.specs.State.{UploadState, with_record}
use Rattle.upload_core.specs.Course.{IsCourse}
use Rattle.upload_core.specs.Moves.{Stops, asks_of_server}
use Rattle.upload_core.proofs.Goes.{stops_none}
use Rattle.upload_core.proofs.Records.{on_err}
use Rattle.upload_core.proofs.Fields.{seen}
use Rattle.upload_core.proofs.state.Course.ask_next.Goals as goal

pub invariant_of-self : goal.invariant_of-self
invariant_of-self c =
    let u : UploadState = seen c.self.inside in
    let right : IsCourse (with_record u (asked_more c.args.server c.in-Some.asked u.requests)) =
    subst (λ (s : UploadState). IsCourse (with_record s (asked_more c.args.server c.in-Some.asked s.requests))) (sym c.self.view_is)
    (subst (λ (o : Option Asked). IsCourse (with_record c.args.self.now (asked_all (asks_of_server c.args.server (option_to_list o)) c.args.self.now.requests))) c.in-Some.is c.requires) in
    elim (settled_by c.ask.result (c.ask.new.self ≡ asked_more c.args.server c.in-Some.asked u.requests) (c.ask.new.self ≡ u.requests) c.ask.ensures.ok c.ask.ensures.err) [
      | inl n ↦ subst (λ (q : RequestsState). IsCourse (with_record u q)) (sym n) right
      | inr n ↦ subst (λ (q : RequestsState). IsCourse (with_record u q)) (sym n) c.self.invariant
    ]

pub returns-in-Some-clause-ok : goal.returns-in-Some-clause-ok
returns-in-Some-clause-ok c =
    let u : UploadState = seen c.self.inside in
    on_ok c.ask.result _ _ (λ n. subst (λ (o : Option Asked). with_record u c.ask.new.self ≡ with_record c.args.self.now (asked_all (asks_of_server c.args.server (option_to_list o)) c.args.self.now.requests)) (sym c.in-Some.is)
    (ap (with_record u) n ∙ ap (λ (s : UploadState). with_record s (asked_more c.args.server c.in-Some.asked s.requests)) c.self.view_is)) c.ask.ensures.ok

pub returns-in-Some-clause-err : goal.returns-in-Some-clause-err
returns-in-Some-clause-err c =
    let u : UploadState = seen c.self.inside in
    on_err c.ask.result _ _ (λ n. subst (λ (s : UploadState). Stops s.requests s (with_record u c.ask.new.self)) c.self.view_is (stops_none u (with_record u c.ask.new.self) (ap (with_record u) n))) c.ask.ensures.err
