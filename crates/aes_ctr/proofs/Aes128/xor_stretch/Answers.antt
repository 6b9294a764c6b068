use Rattle.std.proofs.Common.{refl, ◌≡◌, ◌+◌, ◌-◌, ◌*◌, take, drop, ap, ap₂, ◌∙◌, arith, rules}
use Rattle.aes_ctr.specs.Aes.{rounds, xor_bytes}
use Rattle.aes_ctr.specs.CounterMode.{xored_from}
use Rattle.aes_ctr.specs.Differences.{counter_round}
use Rattle.aes_ctr.proofs.FirstRound.{counter_round_sum}
use Rattle.aes_ctr.proofs.StreamLemmas.{all_added, more_added}
use Rattle.aes_ctr.proofs.Aes128.xor_stretch.Goals as goal

pub loop-g-preserved : goal.loop-g-preserved
loop-g-preserved c =
    let key = c.args.self.now in
    let l = c.loop-g in
    let index = c.args.index in
    let old = c.args.stretch.now in
    let done = 256 * l.g in
    let new = c.add_stream.new.piece in
    let offset : 256 * (16 * index + l.g) ≡ 4096 * index + done = omega arith in
    let next : done + 256 ≡ 256 * (l.g + 1) = omega arith in
    let part = c.add_stream.ensures (16 * index + l.g) (λ j low.
    let number : 16 * (16 * index) + (16 * l.g + j) ≡ 16 * (16 * index + l.g) + j = omega arith in
    c.add.ensures.blocks j
    ∙ ap₂ xor_bytes (c.first_round-first.ensures.blocks j low ∙ ap (λ b. rounds key b 1) (c.counters.ensures.blocks j low)) ((c.requires.table l.g c.loop-g-test.true).blocks j low)
    ∙ counter_round_sum key (16 * (16 * index)) (16 * l.g + j) j (omega arith) (omega arith) (omega arith) (omega arith)
    ∙ ap (counter_round key) number) ∙ ap (λ p. xored_from key p (take (done + 256 - done) (drop done l.stretch))) offset in
    rw (← next) (more_added key old l.stretch new (4096 * index) done 256 (omega arith) (search rules) part l.invariant)

pub loop-g-init : goal.loop-g-init
loop-g-init c = record { added = refl; left = refl }

pub returns : goal.returns
returns c =
    let l = c.loop-g in
    all_added c.args.self.now (4096 * c.args.index) (256 * l.g) c.args.stretch.now l.stretch (omega arith) (omega arith) l.invariant
