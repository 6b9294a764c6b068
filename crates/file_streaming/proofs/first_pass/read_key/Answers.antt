use Rattle.std.proofs.Common.{◌≡◌, ℕ, ◌+◌, ◌≤◌, List, ◌++◌, length, drop, take, subst, arith}
use Rattle.std.proofs.lemmas.List.{length-take, take_at}
use Rattle.tagged_hash.specs.TaggedHasher.{HoldsFile}
use Rattle.sources.proofs.PartReading.{err-again}
use Rattle.block_making.proofs.ReadRuns.{ended-later}
use Rattle.file_streaming.proofs.KeyReading.{pass-more}
use Rattle.file_streaming.proofs.first_pass.read_key.Goals as goal

pub loop-done-preserved : goal.loop-done-preserved
loop-done-preserved g c =
    let count : ℕ = c.min-count.result in
    let part : List ℕ = c.read_part.new.out in
    let rest : List ℕ = drop count c.loop-done.buffer in
    let long : length part ≡ count = omega (arith, c.read_part.auto.out, length-take count c.loop-done.buffer, c.min-count.ensures) in
    let low : c.loop-done.done + count ≤ c.args.size = omega (arith, c.min-count.ensures, c.loop-done-test.true) in
    pass-more g.S.Source.gives g.S.Source.size g.S.Source.failures c.args.size c.args.source.now c.loop-done.source c.read_part.new.source c.args.hasher c.loop-done.hasher
    c.update.new.self c.loop-done.done count part c.loop-done.invariant long low c.in-Ok.ensures.ok
    (λ k n s secret given h.
    subst (λ (p : List ℕ). HoldsFile c.update.new.self k n s secret (given ++ p)) (take_at part rest count long) (c.update.ensures k n s secret given h))
    c.in-Ok.ensures.size c.in-Ok.ensures.failures

pub returns-in-Err-clause-ended : goal.returns-in-Err-clause-ended
returns-in-Err-clause-ended g c = λ e.
    let far = c.loop-done.invariant in
    let count : ℕ = c.min-count.result in
    ended-later g.S.Source.gives c.args.source.now c.loop-done.source c.read_part.new.source 0 (c.loop-done.done + length (take count c.loop-done.buffer)) c.args.size
    far.file far.read (c.in-Err.ensures.ended (err-again c.in-Err.fault _ e))
    (omega (arith, c.min-count.ensures, c.loop-done-test.true, length-take count c.loop-done.buffer))
