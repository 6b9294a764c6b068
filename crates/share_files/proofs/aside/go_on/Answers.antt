use Rattle.std.proofs.Common.{List, sym, subst}
use Rattle.share_files.specs.declared.acts.Act.{Act}
use Rattle.share_files.specs.declared.aside.Went.{Went}
use Rattle.share_files.specs.Going.{Goes, aside_by}
use Rattle.share_files.proofs.aside.go_on.Goals.{in-SetAside+in_ok-went-in-SetAside, in-Keep+in_ok-went-in-Keep}
use Rattle.share_files.proofs.aside.go_on.Goals as goal

pub returns : goal.returns
returns g c = λ wanted of fate. elim c.match-fate.branch [
  | in-SetAside+in_ok-went-in-SetAside w ↦ subst (λ (x : Went). Goes wanted (aside_by x) 0 c.args.files.now c.match-fate.files) (sym w.went-is)
      (subst (λ (acts : List Act). Goes wanted (aside_by w.in_ok-went-in-SetAside.went) 0 c.args.files.now acts) (sym w.files-is) (w.in_ok-went-in-SetAside.ensures wanted of (rw w.in-SetAside.is at fate)))
  | in-Keep+in_ok-went-in-Keep w ↦ subst (λ (x : Went). Goes wanted (aside_by x) 0 c.args.files.now c.match-fate.files) (sym w.went-is)
      (subst (λ (acts : List Act). Goes wanted (aside_by w.in_ok-went-in-Keep.went) 0 c.args.files.now acts) (sym w.files-is) (w.in_ok-went-in-Keep.ensures wanted of (rw w.in-Keep.is at fate)))
]
