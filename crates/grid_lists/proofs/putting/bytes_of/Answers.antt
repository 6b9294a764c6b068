use Rattle.std.proofs.Common.{Bor, List, ℕ, map, ap, ◌∙◌}
use Rattle.std.proofs.lemmas.List.{take_all}
use Rattle.grid_lists.proofs.ListLemmas.{bytes_more}
use Rattle.grid_lists.proofs.putting.bytes_of.Goals as goal

pub loop-text-preserved : goal.loop-text-preserved
loop-text-preserved c =
    bytes_more c.args.texts.now c.loop-text.text-index c.loop-text.bytes.items c.push.new.self.items c.as_bytes.result _ c.loop-text-test.true c.loop-text.invariant c.in_ok-push.ensures.items c.as_bytes.ensures.value

pub returns : goal.returns
returns c = c.loop-text.invariant ∙ ap (map (λ (t : Bor (List ℕ)). t.now)) (take_all c.loop-text.text-index c.args.texts.now c.loop-text-test.false)
