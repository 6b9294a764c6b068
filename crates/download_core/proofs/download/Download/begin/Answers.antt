use Rattle.std.proofs.Common.{◌∙◌, ◌<◌, ◌≤◌, ℕ, List, ap, arith, subst, sym}
use Rattle.std.specs.Prelude.{nat_eq}
use Rattle.std.specs.List.{IsDistinct}
use Rattle.cap_text.specs.Cap.{ReadCapValue, verify_cap_of}
use Rattle.request_record.specs.Asking.{begun}
use Rattle.download_shares.specs.Opening.{nobody}
use Rattle.download_core.specs.Moves.{asked_servers}
use Rattle.download_core.specs.Steps.{AreOpened}
use Rattle.download_core.proofs.BeginLemmas.{BeginsAs, begins_as, distinct_asked, kept_begun}
use Rattle.download_core.proofs.download.Download.begin.Goals as goal

pub begin-requires : goal.begin-requires
begin-requires c = record { distinct = subst (IsDistinct nat_eq) (sym c.servers_to_ask-asked.ensures) (distinct_asked c.args.from c.args.to c.args.servers.now c.requires.distinct) }

pub invariant_of-result : goal.invariant_of-result
invariant_of-result c =
    let m = c.in_ok-machine.machine in
    let e = c.in_ok-machine.ensures in
    let s = c.first_status.ensures in
    let begins : BeginsAs c.args.from c.args.to (asked_servers c.args.from c.args.to c.args.servers.now) c.first_status.result = begins_as c.args.from c.args.to c.args.servers.now c.first_status.result s.is_done s.is_running s.is_alone s.others in
    kept_begun m (asked_servers c.args.from c.args.to c.args.servers.now) c.args.session c.args.now c.first_status.result
    (e.verify ∙ ap verify_cap_of (sym e.cap))
    (omega (arith, e.from_is, e.to_is, c.requires.ordered))
    (subst (λ (x : ReadCapValue). m.to ≤ x.size) (sym e.cap) (omega (arith, e.to_is, c.requires.within)))
    (subst (λ (x : ReadCapValue). 0 < x.needed) (sym e.cap) e.needed)
    (e.requests ∙ ap (λ (l : List ℕ). begun l c.args.session c.args.now) c.servers_to_ask-asked.ensures)
    e.blamed
    (subst (λ (x : ReadCapValue). AreOpened x.total nobody m.beginnings) (sym e.cap) e.opened)
    e.found
    (subst (λ (n : ℕ). BeginsAs n m.to (asked_servers c.args.from c.args.to c.args.servers.now) c.first_status.result) (sym e.from_is)
    (subst (λ (n : ℕ). BeginsAs c.args.from n (asked_servers c.args.from c.args.to c.args.servers.now) c.first_status.result) (sym e.to_is) begins))
