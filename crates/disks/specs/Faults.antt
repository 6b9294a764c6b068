-- What the system says of a call of a disk that failed.
use Rattle.std.specs.Prelude.{◌≡◌, ◌⊎◌, Some, pos}
use Rattle.std.specs.IoError.{error_kind, raw_os_error}
use Rattle.std.specs.declared.io.Error.{Error}
use Rattle.std.specs.declared.io.ErrorKind.TheVariants as kinds
use Rattle.disks.specs.declared.error.DiskError.{DiskError}
use Rattle.disks.specs.declared.error.DiskError.TheVariants.{OutOfMemory, AlreadyExists, NotFound}
use Rattle.disks.specs.declared.error.DiskError.TheVariants.{System, Failed}

-- a link failed so because the disk has none
abbrev pub IsWithoutLinks : DiskError → Type 0
IsWithoutLinks OutOfMemory = ⊥
IsWithoutLinks AlreadyExists = ⊥
IsWithoutLinks NotFound = ⊥
IsWithoutLinks (System error) =
    (error_kind error ≡ kinds.Unsupported) ⊎ (error_kind error ≡ kinds.PermissionDenied)
IsWithoutLinks Failed = ⊥

-- The system's error says the same: 17 and 2 are its numbers where something stands there, and
-- where nothing does.
abbrev pub IsReason : DiskError → Error → Type 0
IsReason OutOfMemory reason = error_kind reason ≡ kinds.OutOfMemory
IsReason AlreadyExists reason = raw_os_error reason ≡ Some (pos 17)
IsReason NotFound reason = raw_os_error reason ≡ Some (pos 2)
IsReason (System error) reason = reason ≡ error
IsReason Failed reason = error_kind reason ≡ kinds.Other
