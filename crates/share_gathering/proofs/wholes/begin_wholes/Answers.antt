use Rattle.std.proofs.Common.{ℕ, ◌+◌, List, [], ap, length, subst, sym, ◌∙◌, arith}
use Rattle.std.proofs.lemmas.List.{length_push}
use Rattle.share_layout.specs.Layout.{header}
use Rattle.tagged_hash.specs.Wholes.{AreGiven, IsGivenAt}
use Rattle.tagged_hash.proofs.GivenBytes.{given-push}
use Rattle.share_gathering.proofs.wholes.begin_wholes.Goals as goal

pub loop-group-preserved : goal.loop-group-preserved
loop-group-preserved c =
    let total : ℕ = c.args.geometry.now.total in
    let bytes : List ℕ = header c.args.geometry.now in
    record {
      count = ap length c.in_ok-push.ensures.items ∙ length_push c.loop-group.wholes.items c.update_all.new.self ∙ ap (λ n. n + 1) c.loop-group.invariant.count;
      held =
          subst (AreGiven total (λ i. bytes)) (sym c.in_ok-push.ensures.items)
          (given-push total (λ i. bytes) c.loop-group.wholes.items c.update_all.new.self c.loop-group.invariant.held
          (λ j low within. subst (IsGivenAt c.update_all.new.self j) c.header-length.ensures.header
          (c.update_all.ensures j [] low (c.new-whole.ensures j low (omega (arith, within, c.loop-group.invariant.count))))));
    }
