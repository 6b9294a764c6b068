-- Sending all that there is to send, and handing out all that was made, one after another.
use Rattle.std.proofs.Common.{◌≡◌, ◌∙◌, ℕ, ◌+◌, ◌<◌, true, List, [], ◌∷◌, ◌++◌, length, Some, refl, sym, ap, subst, inl, inr, false, arith}
use Rattle.std.specs.Prelude.{drop, slice_get}
use Rattle.std.proofs.lemmas.List.{append_assoc}
use Rattle.std.proofs.lemmas.List.Elements.{Contains-push_cases}
use Rattle.wire.specs.declared.message.Message.{Message}
use Rattle.wire.specs.Frames.{IsMessage}
use Rattle.upload_core.specs.declared.status.UploadStatus.{UploadStatus}
use Rattle.upload_core.specs.declared.status.UploadStatus.TheVariants as uploads
use Rattle.upload_core.specs.State.{UploadState}
use Rattle.upload_core.specs.Sending as upload_sends
use Rattle.download_core.specs.declared.status.DownloadStatus.{DownloadStatus}
use Rattle.download_core.specs.declared.status.DownloadStatus.TheVariants as downloads
use Rattle.download_core.specs.Sending as download_sends
use Rattle.download_core.specs.State.{DownloadState, ready}
use Rattle.download_segments.specs.declared.piece.Piece.{Piece}
use Rattle.checker.specs.State.{CheckState}
use Rattle.world_operations.specs.declared.message.Sent.{Sent}
use Rattle.world_operations.specs.declared.operation.Operation.{Operation}
use Rattle.world_operations.specs.declared.task.Task.{Task}
use Rattle.world_operations.specs.declared.task.Task.TheVariants.{Uploading, Downloading, Checking, Gone}
use Rattle.world_operations.specs.Given.{AreGivenBy, IsGivenBy}
use Rattle.world_operations.specs.Tasks.{requests_of}
use Rattle.world_operations.specs.Moves.{HandsOne, HandsOut, HandsSome, IsFlushed, Sends, SendsAll, SendsOne, Takes, TakesPiece, sent_to}
use Rattle.world_operations.specs.UploadPieces.{fails, gives}
use Rattle.world_operations.specs.declared.upload_pieces.UploadPieces.{UploadPieces}
use Rattle.request_record.specs.Follow.{Nothing, Said}
use Rattle.world_operations.specs.Follow.{GoesOn, IsSameOperation, Moves, SendsSome}
use Rattle.world_operations.proofs.Positions.{append_none}
use Rattle.world_operations.proofs.Frames.{sends_none, sends_on}
use Rattle.world_operations.proofs.TaskMoves.{by_taking, goes_nowhere, goes_on, handed}

-- ---- messages

pub record IsSending (node : ℕ) (first now : Task) (before after : List Sent) : Type 0 where
  pub some : SendsSome Nothing node first now before after
  pub more : List Sent
  pub appended : after ≡ before ++ more
  pub sends : Sends node first more now

pub sending_begins : (node : ℕ) (t : Task) (sent : List Sent) → IsSending node t t sent sent
sending_begins node t sent = record { some = sends_none Nothing node t t sent (goes_nowhere Nothing t); more = []; appended = sym (append_none sent); sends = refl }

sends_push : (node : ℕ) (xs : List Sent) (first now next : Task) (to : ℕ) (m : Message) → Sends node first xs now → Takes now (Some (to, m)) next → IsMessage m
    → Sends node first (xs ++ sent_to node to m ∷ []) next
sends_push node [] first now next to m s t spoken = (to, m, next, subst (λ (x : Task). Takes x (Some (to, m)) next) s t, spoken, refl, refl)
sends_push node (x ∷ xs) first now next to m s t spoken = (s.0, s.1, s.2, s.3, s.4, s.5, sends_push node xs s.2 now next to m s.6 t spoken)

pub sending_more : (node : ℕ) (first now next : Task) (before mid after : List Sent) → IsSending node first now before mid → SendsSome Nothing node now next mid after
    → SendsOne node now mid true next after → IsSending node first next before after
sending_more node first now next before mid after i some one = record {
  some = sends_on Nothing node first now next before mid after i.some some;
  more = i.more ++ sent_to node one.0 one.1 ∷ [];
  appended = one.4 ∙ ap (λ (l : List Sent). l ++ sent_to node one.0 one.1 ∷ []) i.appended ∙ append_assoc before i.more (sent_to node one.0 one.1 ∷ []);
  sends = sends_push node i.more first now next one.0 one.1 i.sends one.2 one.3;
}

pub sending_ends : (node : ℕ) (first now next : Task) (before mid after : List Sent) → IsSending node first now before mid → SendsOne node now mid false next after
    → (more : List Sent) × (after ≡ before ++ more) × SendsAll node first more next
sending_ends node first now next before mid after i one = (i.more, one.1 ∙ i.appended, (now, i.sends, one.0))

dropped : (xs ys : List ℕ) (position : ℕ) → slice_get xs 0 ≡ Some position → ys ≡ drop 1 xs → length ys < length xs
dropped [] ys position e f = absurd cc
dropped (x ∷ xs) ys position e f = (let same : length ys ≡ length xs = ap length f in omega (arith, same))

upload_dropped : (s : UploadStatus) (xs ys : List ℕ) (position : ℕ) → upload_sends.first_of s xs ≡ Some position → ys ≡ drop 1 xs → length ys < length xs
upload_dropped uploads.Running xs ys position e f = dropped xs ys position e f
upload_dropped (uploads.Happy pairs) xs ys position e f = dropped xs ys position e f
upload_dropped (uploads.Unhappy reached blocking) xs ys position e f = dropped xs ys position e f
upload_dropped (uploads.Failed fault) xs ys position e f = absurd cc

download_dropped : (s : DownloadStatus) (xs ys : List ℕ) (position : ℕ) → download_sends.first_of s xs ≡ Some position → ys ≡ drop 1 xs → length ys < length xs
download_dropped downloads.Running xs ys position e f = dropped xs ys position e f
download_dropped downloads.Done xs ys position e f = dropped xs ys position e f
download_dropped downloads.NotEnoughShares xs ys position e f = dropped xs ys position e f
download_dropped downloads.Inconsistent xs ys position e f = dropped xs ys position e f
download_dropped downloads.Failed xs ys position e f = absurd cc

upload_less : (u v : upload_sends.Uploading UploadPieces) (f : ℕ × Message) → upload_sends.Takes gives fails u (Some f) v
    → length v.course.requests.outgoing < length u.course.requests.outgoing
upload_less u v f (upload_sends.nothing first none is) = absurd cc
upload_less u v f (upload_sends.ceases position server asked fault running first there faults none is) = absurd cc
upload_less u v f (upload_sends.sends position server asked body first there tells some is) =
    upload_dropped u.course.status u.course.requests.outgoing v.course.requests.outgoing position first (ap (λ (x : UploadState). x.requests.outgoing) is)

-- one less is to be sent
taken_less : (old new : Task) (f : ℕ × Message) → Takes old (Some f) new → length (requests_of new).outgoing < length (requests_of old).outgoing
taken_less old new f t =
    by_taking (Some f) (λ (a b : Task). length (requests_of b).outgoing < length (requests_of a).outgoing) (λ u v t. upload_less u v f t)
    (λ d e t. download_dropped d.status d.requests.outgoing e.requests.outgoing t.0 t.1 (ap (λ (x : DownloadState). x.requests.outgoing) t.3))
    (λ c e t. dropped c.requests.outgoing e.requests.outgoing t.0 t.1 (ap (λ (x : CheckState). x.requests.outgoing) t.3)) (λ n new none is. absurd cc) old new t

pub sending_less : (node : ℕ) (old new : Task) (before after : List Sent) → SendsOne node old before true new after
    → length (requests_of new).outgoing < length (requests_of old).outgoing
sending_less node old new before after one = taken_less old new (one.0, one.1) one.2

-- ---- pieces

-- how many pieces wait to be handed out
abbrev pub waiting : Task → ℕ
waiting (Downloading d) = length (ready d)
waiting (Uploading u) = 0
waiting (Checking c) = 0
waiting (Gone number) = 0

pub record IsHanding (first now : Task) (before after : List Piece) : Type 0 where
  pub goes : GoesOn Nothing first now
  pub given : AreGivenBy first before → AreGivenBy now after
  pub pieces : List Piece
  pub appended : after ≡ before ++ pieces
  pub hands : HandsSome first pieces now

pub handing_begins : (t : Task) (given : List Piece) → IsHanding t t given given
handing_begins t given = record { goes = goes_nowhere Nothing t; given = λ all. all; pieces = []; appended = sym (append_none given); hands = refl }

hands_push : (ps : List Piece) (first now next : Task) (p : Piece) → HandsSome first ps now → TakesPiece now (Some p) next → HandsSome first (ps ++ p ∷ []) next
hands_push [] first now next p s t = (next, subst (λ (x : Task). TakesPiece x (Some p) next) s t, refl)
hands_push (q ∷ qs) first now next p s t = (s.0, s.1, hands_push qs s.0 now next p s.2 t)

pub handing_more : (first now next : Task) (before mid after : List Piece) → IsHanding first now before mid → HandsOne now mid true next after → (AreGivenBy now mid → AreGivenBy next after)
    → IsHanding first next before after
handing_more first now next before mid after i one given = record {
  goes = goes_on Nothing first now next i.goes (handed now next (Some one.0) one.1);
  given = λ all. given (i.given all);
  pieces = i.pieces ++ one.0 ∷ [];
  appended = one.2 ∙ ap (λ (l : List Piece). l ++ one.0 ∷ []) i.appended ∙ append_assoc before i.pieces (one.0 ∷ []);
  hands = hands_push i.pieces first now next one.0 i.hands one.1;
}

pub handing_ends : (first now next : Task) (before mid after : List Piece) → IsHanding first now before mid → HandsOne now mid false next after
    → (pieces : List Piece) × (after ≡ before ++ pieces) × HandsOut first pieces next
handing_ends first now next before mid after i one = (i.pieces, one.1 ∙ i.appended, (now, i.hands, one.0))

pub handing_less : (old new : Task) (before after : List Piece) → HandsOne old before true new after → waiting new < waiting old
handing_less (Downloading d) (Downloading e) before after one = (let t = one.1 in (let same : length (ready d) ≡ length (ready e) + 1 = ap length t.0 ∙ omega arith in omega (arith, same)))
handing_less (Uploading u) new before after one = absurd cc
handing_less (Checking c) new before after one = absurd cc
handing_less (Gone number) new before after one = absurd cc
handing_less (Downloading d) (Uploading e) before after one = absurd one.1
handing_less (Downloading d) (Checking e) before after one = absurd one.1
handing_less (Downloading d) (Gone n) before after one = absurd one.1

-- whatever became of the last piece
pub more_pieces : (before mid after first second : List Piece) → mid ≡ before ++ first → after ≡ mid ++ second → (pieces : List Piece) × (after ≡ before ++ pieces)
more_pieces before mid after first second e f = (first ++ second, f ∙ ap (λ (l : List Piece). l ++ second) e ∙ append_assoc before first second)

-- ---- operations

pub flushed : (old : Operation) (handed last : Task) (given : List Piece) (before after : List Sent) → (pieces : List Piece) × (given ≡ old.given ++ pieces) × HandsOut old.task pieces handed
    → (more : List Sent) × (after ≡ before ++ more) × SendsAll old.node handed more last
    → (more : List Sent) × (after ≡ before ++ more) × IsFlushed old more (record old { task = last; given = given })
flushed old handed last given before after h s = (
  s.0,
  s.1,
  record {
    pieces = h.0;
    handed = handed;
    last = last;
    hands = h.2;
    sends = s.2;
    is = ap (λ (g : List Piece). record old { task = last; given = g }) h.1;
  },
)

-- first it goes on, and then it hands out and sends
pub moves_by : (New : Said) (old new : Operation) (mid : Task) (before after : List Sent) → GoesOn New old.task mid → IsSameOperation (record old { task = mid }) new
    → (AreGivenBy mid old.given → AreGivenBy new.task new.given) → SendsSome Nothing old.node mid new.task before after → Moves New old new before after
moves_by New old new mid before after goes same given some = record {
  given = λ all. given (λ p among. goes.given p (all p among));
  same = record { node = same.node; job = same.job; sent_before = same.sent_before; life = same.life; pieces = same.pieces; given = same.given };
  task = sends_on New old.node old.task mid new.task before before after (sends_none New old.node old.task mid before goes) some;
}

-- it stays as it is
pub moves_nowhere : (New : Said) (op : Operation) (sent : List Sent) → Moves New op op sent sent
moves_nowhere New op sent = record {
  given = λ all. all;
  same = record { node = refl; job = refl; sent_before = refl; life = refl; pieces = []; given = sym (append_none op.given) };
  task = sends_none New op.node op.task op.task sent (goes_nowhere New op.task);
}

-- its machine goes on, and no more is done
pub moves_on : (New : Said) (old new : Operation) (sent : List Sent) → new ≡ record old { task = new.task } → GoesOn New old.task new.task → Moves New old new sent sent
moves_on New old new sent same goes = subst (λ (op : Operation). Moves New old op sent sent) (sym same) (record {
  same = record { node = refl; job = refl; sent_before = refl; life = refl; pieces = []; given = sym (append_none old.given) };
  task = sends_none New old.node old.task new.task sent goes;
  given = λ all p among. goes.given p (all p among);
})

-- a piece more is given
pub given_more : (task : Task) (given : List Piece) (p : Piece) → AreGivenBy task given → IsGivenBy task p → AreGivenBy task (given ++ p ∷ [])
given_more task given p all own q among = elim (Contains-push_cases given p q among) [
  | inl old ↦ all q old
  | inr new ↦ subst (IsGivenBy task) new own
]
