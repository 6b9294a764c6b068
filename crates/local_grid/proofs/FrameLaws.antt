-- What a frame is read as.
use Rattle.std.proofs.Common.{◌≡◌, List, ℕ, [], Option, Some, None, Result, Ok, Err, sym, ap, ◌∙◌, append-nil}
use Rattle.std.specs.Prelude.{◌≢◌, IfNone, IfOk, IfSome}
use Rattle.wire.specs.declared.message.Message.{Message}
use Rattle.wire.specs.Frames.{IsMessage, frame}
use Rattle.wire.proofs.StreamLaws.{no_frame_begins_another}

-- a frame's message comes of it
came_of : (m : Message) (came : Option Message) (bytes : List ℕ) → IsMessage m → bytes ≡ frame m → IfSome came (λ n. IsMessage n × (bytes ≡ frame n))
    → IfNone came ((n : Message) → IsMessage n → bytes ≢ frame n) → came ≡ Some m
came_of m (Some n) bytes fits is some none =
    ap Some (sym (no_frame_begins_another m n [] [] fits some.0 (append-nil (frame m) ∙ sym is ∙ some.1 ∙ sym (append-nil (frame n)))).0)
came_of m None bytes fits is some none = absurd (none m fits is)

pub read_of : {E : Type 0} (m : Message) (r : Result (Option Message) E) (bytes : List ℕ) → IsMessage m → bytes ≡ frame m
    → IfOk r (λ came. IfSome came (λ n. IsMessage n × (bytes ≡ frame n)))
    → IfOk r (λ came. IfNone came ((n : Message) → IsMessage n → bytes ≢ frame n)) → IfOk r (λ came. came ≡ Some m)
read_of m (Ok came) bytes fits is some none = came_of m came bytes fits is some none
read_of m (Err e) bytes fits is some none = tt
