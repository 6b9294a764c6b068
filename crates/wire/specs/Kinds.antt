-- The kinds of message and their numbers.
use Rattle.std.specs.Prelude.{ℕ, ◌==◌, List, [], ◌∷◌, Option, find}
use Rattle.wire.specs.declared.message.Body.{Body}
use Rattle.wire.specs.declared.message.Body.TheVariants.{Ask, Have, Allocate, Granted, Already}
use Rattle.wire.specs.declared.message.Body.TheVariants.{Busy, Full, Write, Wrote, WrongOffset}
use Rattle.wire.specs.declared.message.Body.TheVariants.{Close, Closed, NotComplete, Abort, Read}
use Rattle.wire.specs.declared.message.Body.TheVariants.{Data, NoShare}
use Rattle.wire.specs.declared.kind.Kind.{Kind}
use Rattle.wire.specs.declared.kind.Kind.TheVariants as kinds

abbrev pub number_of : Kind → ℕ
number_of kinds.Ask = 1
number_of kinds.Have = 2
number_of kinds.Allocate = 3
number_of kinds.Granted = 4
number_of kinds.Already = 5
number_of kinds.Busy = 6
number_of kinds.Full = 7
number_of kinds.Write = 8
number_of kinds.Wrote = 9
number_of kinds.WrongOffset = 10
number_of kinds.Close = 11
number_of kinds.Closed = 12
number_of kinds.NotComplete = 13
number_of kinds.Abort = 14
number_of kinds.Read = 15
number_of kinds.Data = 16
number_of kinds.NoShare = 17

abbrev pub all_kinds : List Kind
all_kinds =
    kinds.Ask ∷ kinds.Have ∷ kinds.Allocate ∷ kinds.Granted ∷ kinds.Already ∷ kinds.Busy
    ∷ kinds.Full ∷ kinds.Write ∷ kinds.Wrote ∷ kinds.WrongOffset ∷ kinds.Close ∷ kinds.Closed
    ∷ kinds.NotComplete ∷ kinds.Abort ∷ kinds.Read ∷ kinds.Data ∷ kinds.NoShare ∷ []

-- the kind of a number, where there is one
abbrev pub kind_named : ℕ → Option Kind
kind_named n = find (λ k. number_of k == n) all_kinds

-- the kind of what a message says
abbrev pub kind_of : Body → Kind
kind_of (Ask index) = kinds.Ask
kind_of (Have readonly held) = kinds.Have
kind_of (Allocate id len) = kinds.Allocate
kind_of Granted = kinds.Granted
kind_of (Already digest) = kinds.Already
kind_of Busy = kinds.Busy
kind_of Full = kinds.Full
kind_of (Write id offset bytes) = kinds.Write
kind_of (Wrote next) = kinds.Wrote
kind_of (WrongOffset written) = kinds.WrongOffset
kind_of (Close id) = kinds.Close
kind_of (Closed digest) = kinds.Closed
kind_of (NotComplete written) = kinds.NotComplete
kind_of (Abort id) = kinds.Abort
kind_of (Read id offset len) = kinds.Read
kind_of (Data bytes) = kinds.Data
kind_of NoShare = kinds.NoShare
