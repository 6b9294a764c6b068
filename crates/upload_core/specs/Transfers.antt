-- A transfer of a share to a server: Allocate, Writes of its pieces in order, and Close. The pieces
-- that wait for their answers lie in a window of `ahead` pieces, which goes on with each answer:
-- with 1 each piece comes after the answer to the one before it.
use Rattle.std.specs.Prelude.{ℕ, zero, suc, ◌+◌, ◌-◌, ◌*◌, ◌==◌, min, nat_lt, nat_le}
use Rattle.std.specs.Prelude.{List, [], ◌∷◌, Bool, true, false, not, ◌&&◌, ◌||◌}
use Rattle.std.specs.Prelude.{if◌then◌else◌, map, filter}
use Rattle.std.specs.List.{list_any}
use Rattle.wire.specs.declared.message.Body.{Body}
use Rattle.wire.specs.declared.message.Body.TheVariants.{Already, Closed}
use Rattle.wire.specs.declared.message.Body.TheVariants.{Granted, Wrote, WrongOffset}
use Rattle.request_record.specs.declared.requests.Asked.{Asked}
use Rattle.request_record.specs.declared.requests.Asked.TheVariants.{Holdings, Allocation, Writing}
use Rattle.request_record.specs.declared.requests.Asked.TheVariants.{Closing}
use Rattle.request_record.specs.declared.requests.Asked.TheVariants.{Reading, Aborting}
use Rattle.request_record.specs.declared.requests.Outcome.{Outcome}
use Rattle.request_record.specs.declared.requests.Outcome.TheVariants.{Unawaited, Outstanding}
use Rattle.request_record.specs.declared.requests.Outcome.TheVariants.{Answered, Lost}
use Rattle.request_record.specs.declared.requests.Request.{Request}
use Rattle.request_record.specs.Record.{is_outstanding}
use Rattle.wire.specs.Limits.{most_data}
use Rattle.upload_core.specs.declared.transfers.Effect.{Effect}
use Rattle.upload_core.specs.declared.transfers.Effect.TheVariants.{Fails, Carries, Rests}
use Rattle.upload_core.specs.State.{Goal}
use Rattle.upload_core.specs.Acknowledged.{is_digest_of}

-- ---- pieces

-- the piece of a share from an offset on
abbrev pub piece_at : Goal → ℕ → ℕ → Asked
piece_at g share offset = Writing share offset (min most_data (g.share_length - offset))

-- after so many bytes of a share: the next piece, or Close
abbrev pub next_of : Goal → ℕ → ℕ → Asked
next_of g share sent = if sent == g.share_length then Closing share else piece_at g share sent

-- how far a share is sent while no piece before this offset waits: `ahead` pieces from there on
abbrev pub sent_from : Goal → ℕ → ℕ
sent_from g offset = min (offset + g.ahead * most_data) g.share_length

-- so many pieces from an offset on, or those up to the end of the share
abbrev pub pieces_from : Goal → ℕ → ℕ → ℕ → List Asked
pieces_from g zero share offset = []
pieces_from g (suc count) share offset =
    if offset == g.share_length
    then []
    else piece_at g share offset
    ∷ pieces_from g count share (min (offset + most_data) g.share_length)

-- ---- what an answer does to a transfer

-- Does an answer carry on? Granted, and an answer to a piece that names its end, so far as the
-- share is written then. WrongOffset also where it names a later place up to which the share was
-- sent: the piece was written before, and the answer that said so was lost.
abbrev pub carries : Goal → Asked → Body → Bool
carries g (Allocation share len) Granted = true
carries g (Writing share offset len) (Wrote next) = next == offset + len
carries g (Writing share offset len) (WrongOffset next) =
    (next == offset + len) || (nat_lt (offset + len) next && nat_le next (sent_from g offset))
carries g asked body = false

-- does the answer acknowledge the share of a transfer?
abbrev pub is_acknowledged : Goal → Asked → Body → Bool
is_acknowledged g (Allocation share len) (Already digest) = is_digest_of g share digest
is_acknowledged g (Writing share offset len) (Already digest) = is_digest_of g share digest
is_acknowledged g (Closing share) (Closed digest) = is_digest_of g share digest
is_acknowledged g asked body = false

-- is it a request of a transfer?
abbrev pub is_transfer : Asked → Bool
is_transfer Holdings = false
is_transfer (Allocation share len) = true
is_transfer (Writing share offset len) = true
is_transfer (Closing share) = true
is_transfer (Reading share offset len) = false
is_transfer (Aborting share) = false

-- does a transfer fail by this outcome? By a loss, and by an answer that neither carries on nor
-- acknowledges.
abbrev pub fails : Goal → Asked → Outcome → Bool
fails g asked Unawaited = false
fails g asked Outstanding = false
fails g asked Lost = is_transfer asked
fails g asked (Answered body) =
    is_transfer asked && not (carries g asked body) && not (is_acknowledged g asked body)

abbrev pub has_failed : Goal → Request → Bool
has_failed g r = fails g r.asked r.outcome

abbrev pub carries_by : Goal → Asked → Outcome → Bool
carries_by g asked Unawaited = false
carries_by g asked Outstanding = false
carries_by g asked (Answered body) = carries g asked body
carries_by g asked Lost = false

abbrev pub effect_of : Goal → Asked → Outcome → Effect
effect_of g asked outcome =
    if fails g asked outcome then Fails else (if carries_by g asked outcome then Carries else Rests)

-- ---- what is asked then

-- is it a piece of this share that begins before an offset?
abbrev pub is_piece_before : ℕ → ℕ → Asked → Bool
is_piece_before share end (Writing n offset len) = (n == share) && nat_lt offset end
is_piece_before share end asked = false

-- does such a piece wait for its answer from a server?
abbrev pub waits_before : List Request → ℕ → ℕ → ℕ → Bool
waits_before entries server share end =
    list_any
    (λ (r : Request).
    (r.server == server) && is_piece_before share end r.asked && is_outstanding r.outcome) entries

-- is it the Abort of the transfer of such a request?
abbrev pub is_abort_of : Asked → Asked → Bool
is_abort_of (Allocation share len) (Aborting n) = n == share
is_abort_of (Writing share offset len) (Aborting n) = n == share
is_abort_of (Closing share) (Aborting n) = n == share
is_abort_of asked other = false

-- was the transfer of such a request to a server given up?
abbrev pub is_given_up : List Request → ℕ → Asked → Bool
is_given_up entries server asked =
    list_any (λ (r : Request). (r.server == server) && is_abort_of asked r.asked) entries

-- what is asked where a transfer failed: Abort, where room was granted
abbrev pub given_up : Asked → List Asked
given_up (Writing share offset len) = Aborting share ∷ []
given_up (Closing share) = Aborting share ∷ []
given_up asked = []

-- what the answer to the piece at an offset carries on to: the next one that was not sent, or, once
-- all were sent and none waits any more, Close
abbrev pub on_piece : Goal → List Request → ℕ → ℕ → ℕ → List Asked
on_piece g entries server share offset =
    if (sent_from g offset == g.share_length) && waits_before entries server share g.share_length
    then []
    else next_of g share (sent_from g offset) ∷ []

-- what an answer carries on to: Granted to the first pieces
abbrev pub carried_on : Goal → List Request → ℕ → Asked → List Asked
carried_on g entries server (Allocation share len) = pieces_from g g.ahead share 0
carried_on g entries server (Writing share offset len) = on_piece g entries server share offset
carried_on g entries server asked = []

-- What is asked of a server at once after its answer to a request, or the loss of it. Nothing, once
-- its transfer was given up: so there is one Abort.
abbrev pub asked_after : Goal → List Request → ℕ → Asked → Effect → List Asked
asked_after g entries server asked Rests = []
asked_after g entries server asked Fails =
    if is_given_up entries server asked then [] else given_up asked
asked_after g entries server asked Carries =
    if is_given_up entries server asked then [] else carried_on g entries server asked

abbrev pub follow_ups : Goal → List Request → Request → List Asked
follow_ups g entries r = asked_after g entries r.server r.asked (effect_of g r.asked r.outcome)

-- the servers at which a transfer failed
abbrev pub failed_servers : Goal → List Request → List ℕ
failed_servers g entries = map (λ (r : Request). r.server) (filter (has_failed g) entries)
