-- A tick of a download that ended.
use Rattle.std.proofs.Common.{◌≡◌, ◌≢◌, ℕ, [], inl, Result, Ok, Err, OnErr, Option, Some, None, refl, sym, subst}
use Rattle.std.proofs.lemmas.List.{append-nil}
use Rattle.download_core.specs.declared.status.DownloadStatus.TheVariants.{Running}
use Rattle.download_core.specs.Moves.{StaysAccepted, StopsAt}
use Rattle.download_core.specs.State.{DownloadState, accepted, ready}
use Rattle.download_core.proofs.Going.{plans_none}
use Rattle.download_core.proofs.HashedLemmas.{hashed_itself, stays_itself}
use Rattle.download_core.proofs.TestedLemmas.{tested_itself}

accepted_itself : (o : Option ℕ) → StaysAccepted o o
accepted_itself None = tt
accepted_itself (Some position) = refl

-- it finds no memory, and is as it was
stands : (now : ℕ) (d : DownloadState) → d.status ≢ Running → StopsAt now d d
stands now d ended = record {
  same = record {
    cap = refl;
    range = (refl, refl);
    servers = refl;
    given = refl;
    more = [];
    made = sym (append-nil (ready d));
    others = [];
    blamed = sym (append-nil d.blamed);
    head = accepted_itself (accepted d);
    stays = stays_itself d d refl;
    hashed = hashed_itself d d refl;
    tested = tested_itself d d refl;
  };
  requests = inl refl;
  later = plans_none d.found d.requests.entries d.requests.entries refl;
  failed = λ runs. absurd (ended runs);
  ended = λ _. refl;
}

pub stands_by : {X E : Type 0} (r : Result X E) (now : ℕ) (old new : DownloadState) → old.status ≢ Running → OnErr r (new ≡ old) → OnErr r (StopsAt now old new)
stands_by (Ok x) now old new ended same = tt
stands_by (Err x) now old new ended same = subst (StopsAt now old) (sym same) (stands now old ended)
