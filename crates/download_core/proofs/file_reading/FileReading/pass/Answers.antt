use Rattle.std.proofs.Common.{◌≡◌, ◌∙◌, None, Result, Ok, Err, OnOk, sym, true, true≢false}
use Rattle.download_core.proofs.Busy.{busy_file}
use Rattle.download_core.proofs.Ended.{continues_trans}
use Rattle.download_core.proofs.Ticked.{ticked_awaits, ticked_busy, ticked_kept, ticked_live}
use Rattle.download_core.proofs.file_reading.FileReading.pass.Goals as goal

pub end_gone-requires-clause-kept : goal.end_gone-requires-clause-kept
end_gone-requires-clause-kept c =
    let k = c.requires.ticked in
    ticked_kept k.before c.args.beginnings.now c.args.self.now k.now k.reading k.ticks k.begun k.known

pub end_gone-requires-clause-live : goal.end_gone-requires-clause-live
end_gone-requires-clause-live c =
    let k = c.requires.ticked in
    ticked_live k.before c.args.beginnings.now c.args.self.now k.now k.reading k.ticks k.begun k.known

pub press-requires : goal.press-requires
press-requires c =
    let k = c.requires.ticked in
    let e = c.end_gone.ensures in
    record {
      reading = record {
        linked = e.linked;
        awaits = e.awaits None (ticked_awaits k.before c.args.beginnings.now c.args.self.now k.now k.reading k.ticks k.begun k.known);
        busy = busy_file None c.args.beginnings.now c.args.self.now c.end_gone.new.self e.holdings
            (ticked_busy k.before c.args.beginnings.now c.args.self.now k.now k.reading k.ticks k.begun k.known);
      };
    }

pub returns-then-not-pressing-clause-reading : goal.returns-then-not-pressing-clause-reading
returns-then-not-pressing-clause-reading c =
    let k = c.requires.ticked in
    let e = c.end_gone.ensures in
    record {
      linked = e.linked;
      awaits = e.awaits None (ticked_awaits k.before c.args.beginnings.now c.args.self.now k.now k.reading k.ticks k.begun k.known);
      busy = busy_file None c.args.beginnings.now c.args.self.now c.end_gone.new.self e.holdings
          (ticked_busy k.before c.args.beginnings.now c.args.self.now k.now k.reading k.ticks k.begun k.known);
    }

pub returns-then-not-pressing-clause-pressed : goal.returns-then-not-pressing-clause-pressed
returns-then-not-pressing-clause-pressed c = λ yes. absurd (true≢false (sym yes ∙ c.if-not-pressing.true))

pub returns-clause-continues : goal.returns-clause-continues
returns-clause-continues c =
    let bs = c.args.beginnings.now in
    continues_trans bs bs bs c.args.self.now c.end_gone.new.self c.press.new.self c.end_gone.ensures.continues c.press.ensures.continues

-- what holds needs no more
if_asked : {X E : Type 0} (r : Result X E) (P Q : Type 0) → OnOk r P → OnOk r (Q → P)
if_asked (Ok x) P Q is = λ _. is
if_asked (Err e) P Q is = tt

pub returns-clause-pressed : goal.returns-clause-pressed
returns-clause-pressed c = if_asked c.press.result _ (c.args.pressing ≡ true) c.press.ensures.pressed
