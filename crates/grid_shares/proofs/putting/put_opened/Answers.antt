use Rattle.std.proofs.Common.{ℕ, ◌≤◌, ap, sym, subst}
use Rattle.std.specs.Prelude.{is_some}
use Rattle.std.proofs.lemmas.Result.{IfOk-weaker}
use Rattle.ueb.specs.Limits.{min_file_size}
use Rattle.sources.specs.Opened.{Opened}
use Rattle.grid_shares.proofs.ByWords.{opened_told, said_as, under}
use Rattle.grid_shares.proofs.putting.put_opened.Goals as goal

pub returns-clause-put : goal.returns-clause-put
returns-clause-put g c = IfOk-weaker c.put_source.result _ _
    (λ outcome told. opened_told _ _ c.args.putting.now.words.now (is_some c.args.kept.now) c.new-source.result c.deref.result.now _ c.args.putting.now.params.now (under _ _ (said_as _ _ c.args.putting.now.said c.deref.ensures.value c.in_ok-secret.ensures.said)) c.requires.numbers
    (subst (λ (n : ℕ). min_file_size ≤ n) (sym (ap (λ (s : Opened _). s.size) c.new-source.ensures)) c.requires.not_small) outcome told.0 told.1 told.2)
    c.put_source.ensures.put
