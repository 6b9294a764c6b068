use Rattle.std.proofs.Common.{◌≡◌, List, ℕ, refl, sym, subst, inl, rules}
use Rattle.std.specs.Prelude.{Some, None}
use Rattle.disks.specs.Replay.{replay}
use Rattle.disks.specs.Steps.{Links}
use Rattle.disks.specs.Changed.{linked}
use Rattle.disks.proofs.Alone.{alone, does_noted, passes_noted, does_failed, none_of}
use Rattle.disks.proofs.Changes.{links}
use Rattle.disks.proofs.memory.MemoryDiskDisk.link.Goals as goal

pub returns-in_default-clause-gives : goal.returns-in_default-clause-gives
returns-in_default-clause-gives c = λ honest. alone _ _ _ (inl refl)

pub returns-then-is_some-clause-gives : goal.returns-then-is_some-clause-gives
returns-then-is_some-clause-gives c = λ honest. alone _ _ _ (inl refl)

pub returns-in_err-to-clause-gives : goal.returns-in_err-to-clause-gives
returns-in_err-to-clause-gives c = λ honest. does_failed _ _ c.from_residual.result _ _ c.from_residual.ensures.0 (alone _ _ _ (inl refl))

pub returns-clause-gives : goal.returns-clause-gives
returns-clause-gives c = λ honest.
    let s = replay c.args.self.now.events.items in
    let was : s.found c.args.from.now ≡ Some c.in-Some.number = search rules in
    let free : s.found c.args.to.now ≡ None = none_of _ (search rules) in
    let step = subst (λ (n : List ℕ). Links c.args.from.now c.args.to.now s (linked n c.in-Some.number s)) (sym c.in_ok-to.ensures.ok)
    (links c.args.from.now c.args.to.now c.in-Some.number s was free) in
    does_noted _ _ _ c.note.result _ _ _ c.note.ensures.ok c.note.ensures.err step (inl refl)

pub returns-clause-passes : goal.returns-clause-passes
returns-clause-passes c = λ honest. passes_noted _ c.note.result _ _ _ c.note.ensures.ok c.note.ensures.err
