-- A reader that is put aside or read again, or for which no memory was found.
use Rattle.std.proofs.Common.{◌≡◌, ◌<◌, ◌++◌, ◌∷◌, [], ℕ, List, Result, Ok, Err, OnOk, OnErr, length, refl, sym, subst}
use Rattle.std.specs.declared.alloc.AllocError.{AllocError}
use Rattle.download_file.specs.Changes.{StaysAskedUp}
use Rattle.download_file.specs.Right.{IsFile}
use Rattle.download_file.specs.State.{FileState, IsAside, IsLive, ReaderState, without}
use Rattle.download_file.specs.Steps.{Resumes}
use Rattle.download_file.proofs.EndFileLemmas.{has_resumed, resumed_asked_up}
use Rattle.download_file.proofs.MoveLemmas.{HasMoved, moved_none}

-- what holds of a file after a reader was to be read again
pub record HasResumed (f : FileState) (r : Result (Unit {0}) AllocError) (g : FileState) : Type 0 where
  pub moved : HasMoved f g
  pub asked_up : (other : ℕ) → IsLive f other → StaysAskedUp f g other
  pub unchanged : OnErr r (g ≡ f)

still_resumed : (f g : FileState) (r : Result (Unit {0}) AllocError) → IsFile f → g ≡ f → HasResumed f r g
still_resumed f g r is same = record {
  moved = subst (HasMoved f) (sym same) (moved_none f is);
  asked_up = λ other live. subst (λ (s : FileState). StaysAskedUp f s other) (sym same) (λ up. up);
  unchanged = on_err r;
} where
  on_err : (x : Result (Unit {0}) AllocError) → OnErr x (g ≡ f)
  on_err (Ok u) = tt
  on_err (Err e) = same

pub by_result : (f : FileState) (reader : ℕ) (r : Result (Unit {0}) AllocError) (rs : List ReaderState) (live aside : List ℕ) → IsFile f → IsAside f reader → length f.live < f.handout.geometry.needed
    → OnOk r (live ≡ f.live ++ reader ∷ []) → OnOk r (aside ≡ without reader f.aside) → OnOk r (Resumes f.readers f.live f.taken reader rs)
    → OnErr r (live ≡ f.live) → OnErr r (aside ≡ f.aside) → OnErr r (rs ≡ f.readers) → HasResumed f r (record f { readers = rs; live = live; aside = aside })
by_result f reader (Ok u) rs live aside is put few lives asides resumes same_live same_aside same_readers =
    subst (λ (l : List ℕ). HasResumed f (Ok u) (record f { readers = rs; live = l; aside = aside })) (sym lives)
    (subst (λ (l : List ℕ). HasResumed f (Ok u) (record f { readers = rs; live = f.live ++ reader ∷ []; aside = l })) (sym asides) (record {
      moved = has_resumed f reader is rs put few resumes;
      asked_up = resumed_asked_up f reader is rs put few resumes;
      unchanged = tt;
    }))
by_result f reader (Err e) rs live aside is put few lives asides resumes same_live same_aside same_readers =
    still_resumed f (record f { readers = rs; live = live; aside = aside }) (Err e) is
    (λ i. record f { readers = same_readers i; live = same_live i; aside = same_aside i })
