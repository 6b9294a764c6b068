use Rattle.std.proofs.Common.{◌<◌, ℕ, map}
use Rattle.file_encoding.specs.Reading.{IsSoundAt}
use Rattle.file_encoding.proofs.selection.first_sound.Given as goal

-- none passed so far
abbrev pub invariant-loop-position : goal.invariant-loop-position
invariant-loop-position l =
    (other : ℕ) → other < l.position → ¬ IsSoundAt l.cap (map (λ s. s.0) l.shares) (map (λ s. s.1.now) l.shares) l.number other
