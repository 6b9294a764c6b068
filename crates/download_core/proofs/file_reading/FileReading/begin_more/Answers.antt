use Rattle.std.proofs.Common.{rules, ◌∙◌, length, refl, ap, arith}
use Rattle.share_layout.specs.Geometry.{Geometry}
use Rattle.download_segments.specs.State.{HandoutState}
use Rattle.download_core.specs.ReadingState.{ReadingState}
use Rattle.download_core.proofs.Ended.{continues_none, continues_trans}
use Rattle.download_core.proofs.file_reading.FileReading.begin_more.Goals as goal

pub loop-self-init : goal.loop-self-init
loop-self-init c = record { reading = c.requires.reading; handout = refl; blamed = refl; held = refl; continues = continues_none c.args.beginnings.now c.args.self.now }

pub returns-then-not-branch-clause-continues : goal.returns-then-not-branch-clause-continues
returns-then-not-branch-clause-continues c = continues_trans c.args.beginnings.now c.loop-self.beginnings c.begin_one.new.beginnings c.args.self.now c.loop-self.self c.begin_one.new.self c.loop-self.invariant.continues c.in_ok-begin_one.ensures.continues

pub loop-self-smaller : goal.loop-self-smaller
loop-self-smaller c =
    let same = ap (λ (h : HandoutState). h.geometry.needed) c.in_ok-begin_one.ensures.handout in
    let more = c.in_ok-begin_one.ensures.live (search rules) in
    let live = ap length (c.live.ensures.value ∙ ap (λ (x : ReadingState). x.file.live) c.self.view_is) in
    let needed = c.needed.ensures.value ∙ ap (λ (g : Geometry). g.needed) (c.geometry.ensures.value ∙ ap (λ (x : ReadingState). x.file.handout.geometry) c.self.view_is) in
    let wide = c.from.ensures in
    let test = c.loop-self-test.true in
    omega (arith, same, more, live, needed, wide, test)

pub loop-self-preserved : goal.loop-self-preserved
loop-self-preserved c = record {
  reading = c.in_ok-begin_one.ensures.reading;
  handout = c.in_ok-begin_one.ensures.handout ∙ c.loop-self.invariant.handout;
  blamed = c.in_ok-begin_one.ensures.blamed ∙ c.loop-self.invariant.blamed;
  held = c.in_ok-begin_one.ensures.held ∙ c.loop-self.invariant.held;
  continues = continues_trans c.args.beginnings.now c.loop-self.beginnings c.begin_one.new.beginnings c.args.self.now c.loop-self.self c.begin_one.new.self c.loop-self.invariant.continues c.in_ok-begin_one.ensures.continues;
}

pub returns-in_err-begin_one-clause-continues : goal.returns-in_err-begin_one-clause-continues
returns-in_err-begin_one-clause-continues c = continues_trans c.args.beginnings.now c.loop-self.beginnings c.begin_one.new.beginnings c.args.self.now c.loop-self.self c.begin_one.new.self c.loop-self.invariant.continues c.in_err-begin_one.ensures.continues
