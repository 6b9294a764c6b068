use Rattle.std.proofs.Common.{◌≡◌, ◌∙◌, length, sym, subst, ap, arith}
use Rattle.download_shares.specs.Known.{AreBegun}
use Rattle.download_shares.specs.Opening.{AreOpening, nobody}
use Rattle.download_shares.specs.BeginningState.{BeginningsState, beginnings_state}
use Rattle.download_shares.proofs.Bringing.{brings_bytes}
use Rattle.download_shares.proofs.Hearing.{becomes, known_heard, opening_heard}
use Rattle.download_shares.proofs.Fields.{seen_beginnings}
use Rattle.download_shares.proofs.beginnings.Beginnings.take_answer.Goals as goal

pub returns-clause-bytes : goal.returns-clause-bytes
returns-clause-bytes c known =
    let s : BeginningsState = seen_beginnings c.self.inside in
    let u : BeginningsState = beginnings_state c.take_answer.new.self c.begin_more.new.begun.items in
    let k : AreBegun s = subst AreBegun (sym c.self.view_is) known in
    brings_bytes s u c.args.from c.args.message c.args.now c.in_ok-heard.heard k.right c.in_ok-heard.ensures.hears c.news_of.result (c.news_of.ensures u (sym c.deref.ensures.value))

pub returns-clause-known : goal.returns-clause-known
returns-clause-known c known =
    let s : BeginningsState = seen_beginnings c.self.inside in
    let u : BeginningsState = beginnings_state c.take_answer.new.self c.begin_more.new.begun.items in
    let k : AreBegun s = subst AreBegun (sym c.self.view_is) known in
    let f = c.in_ok-begin_more.ensures in
    let b = becomes s u c.args.from c.args.message c.args.now c.in_ok-heard.heard k c.in_ok-heard.ensures.hears c.in_ok-heard.ensures.right in
    let counted : length u.begun ≡ length u.holdings.table.holdings =
    f.long (let m = b.more in let e = k.counted in let l = ap length c.holdings.ensures.value in omega (arith, m, e, l)) ∙ ap length c.holdings.ensures.value in
    known_heard s u c.args.from c.args.message c.args.now c.in_ok-heard.heard k c.in_ok-heard.ensures.hears c.in_ok-heard.ensures.right f.more f.is counted

pub returns-clause-opening : goal.returns-clause-opening
returns-clause-opening c known opening =
    let s : BeginningsState = seen_beginnings c.self.inside in
    let u : BeginningsState = beginnings_state c.take_answer.new.self c.begin_more.new.begun.items in
    let k : AreBegun s = subst AreBegun (sym c.self.view_is) known in
    let f = c.in_ok-begin_more.ensures in
    let b = becomes s u c.args.from c.args.message c.args.now c.in_ok-heard.heard k c.in_ok-heard.ensures.hears c.in_ok-heard.ensures.right in
    let counted : length u.begun ≡ length u.holdings.table.holdings =
    f.long (let m = b.more in let e = k.counted in let l = ap length c.holdings.ensures.value in omega (arith, m, e, l)) ∙ ap length c.holdings.ensures.value in
    opening_heard s u c.args.from c.args.message c.args.now c.in_ok-heard.heard k c.in_ok-heard.ensures.hears c.in_ok-heard.ensures.right f.more f.is counted
    (subst (AreOpening nobody) (sym c.self.view_is) opening) c.holdings.ensures.table c.news_of.result (c.news_of.ensures u (sym c.deref.ensures.value))
