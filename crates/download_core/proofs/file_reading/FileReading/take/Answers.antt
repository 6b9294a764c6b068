use Rattle.download_shares.proofs.Caused.{adds_none}
use Rattle.download_core.specs.ReadingCauses.{IsPartFault}
use Rattle.download_core.proofs.Causes.{taken_causes}
use Rattle.std.proofs.Common.{rules, ◌≡◌, ◌∙◌, ℕ, ◌<◌, List, [], ◌∷◌, drop, length, Some, None, refl, sym, ap, arith}
use Rattle.download_file.specs.State.{first_position, first_waiting, waiting_at}
use Rattle.download_file.specs.declared.reader.Waiting.{Waiting}
use Rattle.download_core.specs.ReadingState.{ReadingState}
use Rattle.download_core.proofs.Awaited.{awaits_last}
use Rattle.download_core.proofs.Ended.{continues_none, continues_trans}
use Rattle.download_core.proofs.file_reading.FileReading.take.Goals as goal

pub loop-position-init : goal.loop-position-init
loop-position-init c = record { reading = c.requires.reading; live = c.requires.live; requests = refl; causes = adds_none (IsPartFault c.args.beginnings.now.holdings.requests.entries c.args.self.now.file) c.args.beginnings.now.holdings.blamed c.args.beginnings.now.holdings.blamed refl; continues = continues_none c.args.beginnings.now c.args.self.now }

pub returns-in_err-take_one-clause-continues : goal.returns-in_err-take_one-clause-continues
returns-in_err-take_one-clause-continues c = continues_trans c.args.beginnings.now c.loop-position.beginnings c.take_one.new.beginnings c.args.self.now c.loop-position.self c.take_one.new.self c.loop-position.invariant.continues c.in_err-take_one.ensures.continues

-- one less waits
less : (ws : List Waiting) (position : ℕ) → first_position ws ≡ Some position → length (drop 1 ws) < length ws
less [] position e = absurd cc
less (w ∷ ws) position e = omega arith

pub loop-position-smaller : goal.loop-position-smaller
loop-position-smaller c =
    let waits : first_waiting c.loop-position.self.file c.args.reader ≡ Some c.in-Some.position = ap (λ (x : ReadingState). first_waiting x.file c.args.reader) (sym c.self.view_is) ∙ sym c.in-Some.ensures.value in
    let few = less (waiting_at c.loop-position.self.file c.args.reader) c.in-Some.position waits in
    let now = ap length (c.in_ok-take_one.ensures.taken (search rules)) in
    omega (arith, few, now)

pub loop-position-preserved : goal.loop-position-preserved
loop-position-preserved c = record {
  reading = c.in_ok-take_one.ensures.next (search rules);
  live = c.in_ok-take_one.ensures.live (search rules);
  requests = c.in_ok-take_one.ensures.requests ∙ c.loop-position.invariant.requests;
  causes = taken_causes c.args.beginnings.now c.loop-position.beginnings c.take_one.new.beginnings c.args.self.now c.loop-position.self c.take_one.new.self c.loop-position.invariant.continues c.take_one.ensures.continues c.loop-position.invariant.requests c.loop-position.invariant.causes c.take_one.ensures.causes;
  continues = continues_trans c.args.beginnings.now c.loop-position.beginnings c.take_one.new.beginnings c.args.self.now c.loop-position.self c.take_one.new.self c.loop-position.invariant.continues c.in_ok-take_one.ensures.continues;
}

pub returns-then-not-branch-clause-continues : goal.returns-then-not-branch-clause-continues
returns-then-not-branch-clause-continues c = continues_trans c.args.beginnings.now c.loop-position.beginnings c.take_one.new.beginnings c.args.self.now c.loop-position.self c.take_one.new.self c.loop-position.invariant.continues c.in_ok-take_one.ensures.continues

pub returns-clause-reading : goal.returns-clause-reading
returns-clause-reading c =
    let before = c.loop-position.invariant.reading in
    record {
      linked = before.linked;
      awaits = awaits_last c.loop-position.beginnings c.loop-position.self c.args.reader before.awaits
          (λ position h k first. (
          let two : None ≡ Some position = c.in_default.ensures.value ∙ ap (λ (x : ReadingState). first_waiting x.file c.args.reader) c.self.view_is ∙ first in
          absurd cc));
      busy = before.busy;
    }

pub returns-in_err-take_one-clause-requests : goal.returns-in_err-take_one-clause-requests
returns-in_err-take_one-clause-requests c = c.take_one.ensures.requests ∙ c.loop-position.invariant.requests

pub returns-in_err-take_one-clause-causes : goal.returns-in_err-take_one-clause-causes
returns-in_err-take_one-clause-causes c =
    taken_causes c.args.beginnings.now c.loop-position.beginnings c.take_one.new.beginnings c.args.self.now c.loop-position.self c.take_one.new.self c.loop-position.invariant.continues c.take_one.ensures.continues c.loop-position.invariant.requests c.loop-position.invariant.causes c.take_one.ensures.causes

pub returns-then-not-branch-clause-requests : goal.returns-then-not-branch-clause-requests
returns-then-not-branch-clause-requests c = c.take_one.ensures.requests ∙ c.loop-position.invariant.requests

pub returns-then-not-branch-clause-causes : goal.returns-then-not-branch-clause-causes
returns-then-not-branch-clause-causes c =
    taken_causes c.args.beginnings.now c.loop-position.beginnings c.take_one.new.beginnings c.args.self.now c.loop-position.self c.take_one.new.self c.loop-position.invariant.continues c.take_one.ensures.continues c.loop-position.invariant.requests c.loop-position.invariant.causes c.take_one.ensures.causes
