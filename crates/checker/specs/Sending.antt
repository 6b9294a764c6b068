-- What a check sends.
use Rattle.std.specs.Prelude.{◌≡◌, ℕ, Option, Some, None, slice_get}
use Rattle.wire.specs.declared.message.Message.{Message}
use Rattle.request_record.specs.Asking.{IsFrame, one_sent}
use Rattle.checker.specs.State.{CheckState, with_record}

-- the position of the request that is sent next
abbrev pub first_to_send : CheckState → Option ℕ
first_to_send c = slice_get c.requests.outgoing 0

-- the first request to send is sent, if there is one
abbrev pub Takes : CheckState → Option (ℕ × Message) → CheckState → Type 0
Takes old None new = (first_to_send old ≡ None) × (new ≡ old)
Takes old (Some f) new = (position : ℕ) × (first_to_send old ≡ Some position)
    × IsFrame old.cap.storage_index old.requests position f.0 f.1
    × (new ≡ with_record old (one_sent old.requests))
