use Rattle.std.proofs.Common.{List, subst, sym}
use Rattle.download_supply.specs.declared.wanted.Wanted.{Wanted}
use Rattle.download_file.specs.Steps.{Asks}
use Rattle.download_file.proofs.AskLemmas.{asks_giver}
use Rattle.download_file.proofs.reader.ask_giver.Goals as goal

pub returns-clause-asks : goal.returns-clause-asks
returns-clause-asks c =
    let one = c.in_ok-wanted.ensures in
    let two = c.in_ok-more.ensures in
    subst (λ (l : List Wanted). Asks c.args.supply.now _ c.args.last l c.wanted_ciphertext.new.self) (sym c.in_ok-append.ensures.items)
    (asks_giver c.args.supply.now c.wanted.new.self c.wanted_ciphertext.new.self c.args.last c.in_ok-wanted.wanted.items c.in_ok-more.more.items one.only one.asks two.asks one.exact two.exact)
