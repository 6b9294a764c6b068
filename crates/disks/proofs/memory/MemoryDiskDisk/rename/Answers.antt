use Rattle.std.specs.String.{string_bytes}
use Rattle.std.proofs.Common.{◌≡◌, List, ℕ, refl, sym, subst, inl, rules}
use Rattle.std.specs.Prelude.{Some}
use Rattle.disks.specs.Replay.{replay}
use Rattle.disks.specs.Steps.{Renames}
use Rattle.disks.specs.Changed.{renamed}
use Rattle.disks.proofs.Alone.{alone, does_noted, passes_noted, does_failed}
use Rattle.disks.proofs.Changes.{renames}
use Rattle.disks.proofs.memory.MemoryDiskDisk.rename.Goals as goal

pub returns-in_err-bytes-clause-gives : goal.returns-in_err-bytes-clause-gives
returns-in_err-bytes-clause-gives c = λ honest. does_failed _ _ c.from_residual.result _ _ c.from_residual.ensures.0 (alone _ _ _ (inl refl))

pub returns-then-number-file-clause-gives : goal.returns-then-number-file-clause-gives
returns-then-number-file-clause-gives c = λ honest. alone _ _ _ (inl refl)

pub returns-in_default-clause-gives : goal.returns-in_default-clause-gives
returns-in_default-clause-gives c = λ honest. alone _ _ _ (inl refl)

pub returns-in_err-from-clause-gives : goal.returns-in_err-from-clause-gives
returns-in_err-from-clause-gives c = λ honest. does_failed _ _ c.from_residual-in_err-from.result _ _ c.from_residual-in_err-from.ensures.0 (alone _ _ _ (inl refl))

pub returns-in_err-to-clause-gives : goal.returns-in_err-to-clause-gives
returns-in_err-to-clause-gives c = λ honest. does_failed _ _ c.from_residual-in_err-to.result _ _ c.from_residual-in_err-to.ensures.0 (alone _ _ _ (inl refl))

pub returns-clause-gives : goal.returns-clause-gives
returns-clause-gives c = λ honest.
    let s = replay c.args.self.now.events.items in
    let was : s.found c.args.from.now ≡ Some c.in-Some.number = search rules in
    let step = subst (λ (n : List ℕ). Renames c.args.from.now c.args.to.now s (renamed n (string_bytes c.in_ok-to.to) c.in-Some.number s)) (sym c.in_ok-from.ensures.ok)
    (subst (λ (n : List ℕ). Renames c.args.from.now c.args.to.now s (renamed c.args.from.now n c.in-Some.number s)) (sym c.in_ok-to.ensures.ok)
    (renames c.args.from.now c.args.to.now c.in-Some.number s c.requires was)) in
    does_noted _ _ _ c.note.result _ _ _ c.note.ensures.ok c.note.ensures.err step (inl refl)

pub returns-clause-passes : goal.returns-clause-passes
returns-clause-passes c = λ honest. passes_noted _ c.note.result _ _ _ c.note.ensures.ok c.note.ensures.err
