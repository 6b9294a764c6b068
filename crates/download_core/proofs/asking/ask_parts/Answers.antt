use Rattle.download_shares.specs.HoldingState.{HoldingsState}
use Rattle.std.proofs.Common.{ap, ◌∙◌, get_or, refl, sym, subst}
use Rattle.download_shares.specs.HoldingMoves.{Asks, IsUnasked}
use Rattle.download_shares.proofs.Opened.{goes_asked, goes_none, goes_trans}
use Rattle.download_parts.specs.declared.part.Part.TheVariants.{ShareHashes}
use Rattle.download_supply.specs.declared.wanted.Wanted.{Wanted}
use Rattle.download_shares.proofs.Caused.{reads_asked, reads_none, reads_trans}
use Rattle.download_file.specs.Asked.{IsOneOf}
use Rattle.download_shares.specs.Reads.{AddsReads}
use Rattle.download_shares.specs.BeginningState.{BeginningsState}
use Rattle.download_core.proofs.Awaited.{goes_stays}
use Rattle.download_core.proofs.Parts.{keeps_asked, keeps_none, keeps_trans, next_asked, next_unasked, none_asked, one_of}
use Rattle.download_core.proofs.asking.ask_parts.Goals as goal

abbrev nothing : Wanted
nothing = record { part = ShareHashes; read = record { offset = 0; length = 0 } }

pub loop-part-init : goal.loop-part-init
loop-part-init c = record {
  asks = none_asked c.args.holding c.args.wanted.now c.args.beginnings.now c.requires.known;
  goes = goes_none c.args.beginnings.now c.args.beginnings.now refl refl;
  grows = keeps_none c.args.beginnings.now c.args.beginnings.now refl;
  blamed = refl;
  adds = reads_none (λ server share offset len. IsOneOf c.args.wanted.now offset len) c.args.beginnings.now.holdings.requests.entries c.args.beginnings.now.holdings.requests.entries refl;
}

pub ask-requires-clause-unasked : goal.ask-requires-clause-unasked
ask-requires-clause-unasked c =
    subst (λ n. IsUnasked c.loop-part.beginnings.holdings c.args.holding (get_or c.args.wanted.now c.loop-part.part-index nothing).read.offset n) (sym c.length_of.ensures)
    (next_unasked c.args.holding c.args.wanted.now c.args.beginnings.now c.loop-part.beginnings c.loop-part.part-index nothing c.loop-part-test.true c.loop-part.invariant.asks c.requires.fresh c.requires.apart)

pub loop-part-preserved : goal.loop-part-preserved
loop-part-preserved c =
    let w = get_or c.args.wanted.now c.loop-part.part-index nothing in
    let a : Asks c.args.holding w.read.offset w.read.length c.loop-part.beginnings.holdings c.ask.new.self.holdings =
    subst (λ n. Asks c.args.holding w.read.offset n c.loop-part.beginnings.holdings c.ask.new.self.holdings) c.length_of.ensures c.in_ok-ask.ensures.asks in
    record {
      asks = next_asked c.args.holding c.args.wanted.now c.args.beginnings.now c.loop-part.beginnings c.loop-part.part-index nothing c.loop-part-test.true c.loop-part.invariant.asks c.ask.new.self
          (c.in_ok-ask.ensures.known c.loop-part.invariant.asks.known) a c.in_ok-ask.ensures.begun;
      goes = goes_trans c.args.beginnings.now c.loop-part.beginnings c.ask.new.self c.loop-part.invariant.goes (goes_asked c.loop-part.beginnings c.ask.new.self c.args.holding w.read.offset w.read.length a);
      grows = keeps_trans c.args.beginnings.now c.loop-part.beginnings c.ask.new.self c.loop-part.invariant.grows (keeps_asked c.loop-part.beginnings c.ask.new.self c.args.holding w.read.offset w.read.length a);
      blamed = ap (λ (h : HoldingsState). h.blamed) a.2 ∙ c.loop-part.invariant.blamed;
      adds = reads_trans (λ server share offset len. IsOneOf c.args.wanted.now offset len) c.args.beginnings.now.holdings.requests.entries c.loop-part.beginnings.holdings.requests.entries c.ask.new.self.holdings.requests.entries
          (goes_stays c.loop-part.beginnings c.ask.new.self (goes_asked c.loop-part.beginnings c.ask.new.self c.args.holding w.read.offset w.read.length a)) c.loop-part.invariant.adds
          (reads_asked (λ server share offset len. IsOneOf c.args.wanted.now offset len) c.loop-part.beginnings.holdings c.ask.new.self.holdings c.args.holding w.read.offset w.read.length a (one_of c.args.wanted.now c.loop-part.part-index nothing c.loop-part-test.true));
    }

pub returns-in_err-ask-clause-adds : goal.returns-in_err-ask-clause-adds
returns-in_err-ask-clause-adds c =
    subst (λ (x : BeginningsState). AddsReads (λ server share offset len. IsOneOf c.args.wanted.now offset len) c.args.beginnings.now.holdings.requests.entries x.holdings.requests.entries) (sym c.in_err-ask.ensures.err) c.loop-part.invariant.adds
