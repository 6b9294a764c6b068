use Rattle.std.proofs.Common.{◌≡◌, ◌∙◌, ◌++◌, List, ℕ, ap, eqb, false, filter, map, not, true}
use Rattle.std.specs.Set.{is_member}
use Rattle.lemmas.proofs.Results.{if_ok_then}
use Rattle.request_record.specs.declared.entries.Entry.{Entry}
use Rattle.request_record.specs.declared.requests.Request.{Request}
use Rattle.upload_core.specs.Rounds.{answered_as, has_answered_as}
use Rattle.upload_core.specs.Transfers.{failed_servers, has_failed}
use Rattle.upload_core.proofs.Telling.{told_all, told_on}
use Rattle.upload_core.proofs.rounds.servers_of.Goals as goal

-- the request of an entry
abbrev of : Entry → Request
of e = e.request

pub loop-entry-preserved : goal.loop-entry-preserved
loop-entry-preserved c =
    let g = c.args.goal.now in
    let xs = c.args.entries.now in
    let i = c.loop-entry.entry-index in
    let r = c.entry-item.result in
    let lt = c.loop-entry-test.true in
    let k = c.loop-entry.invariant in
    let e = c.in_ok-note.ensures in
    record {
      failed = told_on of (has_failed g) xs i r c.loop-entry.told.failed.items c.note.new.self.failed.items lt c.entry-item.is e.failed k.failed;
      taking = told_on of (has_answered_as false) xs i r c.loop-entry.told.taking.items c.note.new.self.taking.items lt c.entry-item.is e.taking k.taking;
      closed = told_on of (has_answered_as true) xs i r c.loop-entry.told.closed.items c.note.new.self.closed.items lt c.entry-item.is e.closed k.closed;
    }

pub returns-clause-writable : goal.returns-clause-writable
returns-clause-writable c =
    let g = c.args.goal.now in
    let xs = c.args.entries.now in
    let es : List Request = map of xs in
    let t = c.loop-entry.told in
    let end = c.loop-entry-test.false in
    let failed : t.failed.items ≡ failed_servers g es = told_all of (has_failed g) xs c.loop-entry.entry-index t.failed.items end c.loop-entry.invariant.failed in
    let ones : t.taking.items ≡ answered_as false es = told_all of (has_answered_as false) xs c.loop-entry.entry-index t.taking.items end c.loop-entry.invariant.taking in
    if_ok_then c.into_servers.result _ _ c.into_servers.ensures.writable
    (λ s e. e ∙ ap (λ (l : List ℕ). filter (λ (x : ℕ). not (is_member eqb l x)) t.taking.items) failed ∙ ap (filter (λ (x : ℕ). not (is_member eqb (failed_servers g es) x))) ones)

pub returns-clause-readonly : goal.returns-clause-readonly
returns-clause-readonly c =
    let g = c.args.goal.now in
    let xs = c.args.entries.now in
    let es : List Request = map of xs in
    let t = c.loop-entry.told in
    let end = c.loop-entry-test.false in
    let failed : t.failed.items ≡ failed_servers g es = told_all of (has_failed g) xs c.loop-entry.entry-index t.failed.items end c.loop-entry.invariant.failed in
    let ones : t.taking.items ≡ answered_as false es = told_all of (has_answered_as false) xs c.loop-entry.entry-index t.taking.items end c.loop-entry.invariant.taking in
    let closed : t.closed.items ≡ answered_as true es = told_all of (has_answered_as true) xs c.loop-entry.entry-index t.closed.items end c.loop-entry.invariant.closed in
    if_ok_then c.into_servers.result _ _ c.into_servers.ensures.readonly
    (λ s e. e ∙ ap (λ (l : List ℕ). l ++ filter (λ (x : ℕ). is_member eqb t.failed.items x) t.taking.items) closed
    ∙ ap (λ (l : List ℕ). answered_as true es ++ filter (λ (x : ℕ). is_member eqb l x) t.taking.items) failed
    ∙ ap (λ (l : List ℕ). answered_as true es ++ filter (λ (x : ℕ). is_member eqb (failed_servers g es) x) l) ones)
