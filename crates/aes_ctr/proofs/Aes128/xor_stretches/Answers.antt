use Rattle.std.proofs.Common.{refl, arith, rules}
use Rattle.aes_ctr.proofs.StreamLemmas.{all_added, more_added}
use Rattle.aes_ctr.proofs.Aes128.xor_stretches.Goals as goal

pub loop-done-init : goal.loop-done-init
loop-done-init c = record { within = omega arith; is = record { added = refl; left = refl } }

pub loop-done-preserved : goal.loop-done-preserved
loop-done-preserved c =
    let l = c.loop-done in record {
      within = omega arith;
      is = more_added c.args.self.now c.args.text.now l.text c.xor_within_stretch.new.part c.args.offset l.done c.min-count.result (omega arith) (search rules) c.xor_within_stretch.ensures l.invariant.is;
    }

pub returns : goal.returns
returns c = let l = c.loop-done in all_added c.args.self.now c.args.offset l.done c.args.text.now l.text (omega arith) (omega arith) l.invariant.is
