use Rattle.std.proofs.Common.{◌∙◌, ℕ, ◌⊎◌, length, refl, sym, subst, ap, arith}
use Rattle.download_shares.proofs.Opened.{goes_none}
use Rattle.download_file.specs.State.{IsHeard, without}
use Rattle.download_core.specs.Reading.{AreAwaited, AreKept, IsGone, IsReadNow}
use Rattle.download_core.specs.ReadingState.{ReadingState, reading_state}
use Rattle.download_core.specs.ReadingSteps.{Continues}
use Rattle.download_core.proofs.Awaited.{ended_awaits}
use Rattle.download_core.proofs.Ended.{adds_none, all_live, asks_none, continues_none, continues_trans, ended_kept, fewer_heard, still_live}
use Rattle.download_core.proofs.Fields.{seen}
use Rattle.download_core.proofs.file_reading.FileReading.end_gone.Goals as goal

pub loop-reader-init : goal.loop-reader-init
loop-reader-init c = record { kept = c.requires.kept; live = c.requires.live; continues = continues_none c.args.beginnings.now c.args.self.now; awaits = λ but a. a; holdings = refl; handout = refl }

pub loop-reader-smaller : goal.loop-reader-smaller
loop-reader-smaller c =
    let less = fewer_heard c.loop-reader.self.file c.in-Some.reader c.in-Some.ensures.live in
    let live = ap length (c.end.ensures.live ∙ ap (λ (x : ReadingState). without c.in-Some.reader x.file.live) c.self.view_is) in
    let aside = ap length (c.end.ensures.aside ∙ ap (λ (x : ReadingState). without c.in-Some.reader x.file.aside) c.self.view_is) in
    omega (arith, less, live, aside)

pub loop-reader-preserved : goal.loop-reader-preserved
loop-reader-preserved c =
    let bs = c.args.beginnings.now in
    let r : ReadingState = seen c.self.inside in
    let kept : AreKept bs r = subst (AreKept bs) (sym c.self.view_is) c.loop-reader.invariant.kept in
    let gone : IsGone bs r c.in-Some.reader = subst (λ (x : ReadingState). IsGone bs x c.in-Some.reader) (sym c.self.view_is) c.in-Some.ensures.gone in
    let live = subst (λ (x : ReadingState). (q : ℕ) → IsHeard x.file q → IsReadNow bs x q ⊎ IsGone bs x q) (sym c.self.view_is) c.loop-reader.invariant.live in
    let k = c.end.ensures in
    let q : ReadingState = reading_state c.end.new.self c.self.inside.holdings.items in
    let more : Continues bs r bs q = record { goes = goes_none bs bs refl refl; same = k.same; pieces = adds_none r.file.handout c.end.new.self.handout k.handout; answers = λ a. k.reads bs.holdings.requests.entries a; reads = asks_none r.file bs bs refl } in
    record {
      kept = ended_kept bs r c.end.new.self c.in-Some.reader kept gone k.live k.aside k.copies k.asked k.reads k.right k.same.geometry;
      live = still_live bs r c.end.new.self c.in-Some.reader kept gone k.live k.aside k.copies k.asked k.reads k.right k.same.geometry live;
      continues = continues_trans bs bs bs c.args.self.now c.loop-reader.self q c.loop-reader.invariant.continues (subst (λ (x : ReadingState). Continues bs x bs q) c.self.view_is more);
      awaits = λ but a.
          ended_awaits but bs r c.end.new.self c.in-Some.reader
          (subst (AreAwaited but bs) (sym c.self.view_is) (c.loop-reader.invariant.awaits but a)) k.live k.aside k.others;
      holdings = ap (λ (x : ReadingState). x.holdings) c.self.view_is ∙ c.loop-reader.invariant.holdings;
      handout = k.handout ∙ ap (λ (x : ReadingState). x.file.handout) c.self.view_is ∙ c.loop-reader.invariant.handout;
    }

pub returns-clause-linked : goal.returns-clause-linked
returns-clause-linked c =
    all_live c.args.beginnings.now c.loop-reader.self c.loop-reader.invariant.kept c.loop-reader.invariant.live c.in_default.ensures.none
