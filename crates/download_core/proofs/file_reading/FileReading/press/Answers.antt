use Rattle.std.proofs.Common.{inl, inr, refl}
use Rattle.download_core.proofs.Ended.{continues_none, continues_trans}
use Rattle.download_core.proofs.file_reading.FileReading.press.Goals as goal

pub loop-self-init : goal.loop-self-init
loop-self-init c = record { reading = c.requires.reading; continues = continues_none c.args.beginnings.now c.args.self.now }

pub loop-self-preserved : goal.loop-self-preserved
loop-self-preserved c =
    let bs = c.args.beginnings.now in
    record {
      reading = c.in_ok-put_aside.ensures.reading;
      continues = continues_trans bs bs bs c.args.self.now c.loop-self.self c.put_aside.new.self c.loop-self.invariant.continues c.in_ok-put_aside.ensures.continues;
    }

pub returns-in_err-put_aside-clause-continues : goal.returns-in_err-put_aside-clause-continues
returns-in_err-put_aside-clause-continues c =
    let bs = c.args.beginnings.now in
    continues_trans bs bs bs c.args.self.now c.loop-self.self c.put_aside.new.self c.loop-self.invariant.continues c.in_err-put_aside.ensures.continues

pub returns-in_default-clause-pressed : goal.returns-in_default-clause-pressed
returns-in_default-clause-pressed c = inl c.in_default.ensures.none

pub returns-clause-pressed : goal.returns-clause-pressed
returns-clause-pressed c = inr (c.loop-self-test.ensures refl)
