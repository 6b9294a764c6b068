use Rattle.std.proofs.Common.{ℕ, length, ◌≤◌, ap, sym, subst}
use Rattle.std.specs.Prelude.{is_some}
use Rattle.std.proofs.lemmas.Result.{IfOk-weaker}
use Rattle.ueb.specs.Limits.{min_file_size}
use Rattle.file_upload.specs.Prepared.{prepared_of}
use Rattle.grid_shares.proofs.Placed.{encoded_as, held_put}
use Rattle.grid_shares.proofs.putting.put_held.Goals as goal

pub returns-in-Shares-clause-stored : goal.returns-in-Shares-clause-stored
returns-in-Shares-clause-stored g c = λ many. IfOk-weaker c.place.result _ _
    (λ outcome put. (
      c.in_ok-secret.secret.items,
      c.in_ok-secret.ensures.said (subst (λ (n : ℕ). min_file_size ≤ n) (ap length (sym c.as_slice-size.ensures.value)) many),
      held_put _ c.args.putting.now.words.now.grid.now (is_some c.args.kept.now) c.args.putting.now.words.now.mend c.in_ok-upload.field-0 c.in-Shares.upload (prepared_of c.args.file.items c.in_ok-secret.secret.items c.args.putting.now.params.now) c.into_upload.result _
          c.in-Shares.is (encoded_as c.encode-2.result c.in_ok-upload.field-0 _ _ _ _ c.in_ok-upload.was c.deref.ensures.value (c.encode-2.ensures.shares many)) c.into_upload.ensures c.cap.ensures outcome put,
    ))
    c.place.ensures.put
