-- How long fields and bodies are.
use Rattle.std.proofs.Common.{◌≡◌, ℕ, ◌*◌, ◌≤◌, List, [], ◌∷◌, ◌++◌, length, refl, ap, ◌∙◌, arith}
use Rattle.std.specs.Int.{w16, w32, w64, to_be_bytes}
use Rattle.std.specs.List.{flat_map, AllByRecursion}
use Rattle.std.proofs.lemmas.List.{length-append}
use Rattle.std.proofs.lemmas.List.Elements.{recursion_from_All}
use Rattle.std.proofs.lemmas.List.Concat.{flat_map-cons}
use Rattle.wire.specs.declared.message.Body.{Body}
use Rattle.wire.specs.declared.message.Body.TheVariants.{Ask, Have, Allocate, Granted, Already, Busy, Full, Write, Wrote, WrongOffset, Close, Closed, NotComplete, Abort, Read, Data, NoShare}
use Rattle.wire.specs.declared.message.Message.{Message}
use Rattle.wire.specs.declared.message.ShareId.{ShareId}
use Rattle.wire.specs.declared.message.HeldShare.{HeldShare}
use Rattle.wire.specs.Held.{IsHeldShare}
use Rattle.wire.specs.Frames.{share_id, held_share, fields, spelling, IsShareId, IsBody, IsMessage}

-- a held share has 34 bytes
pub held_len : (held : List HeldShare) → AllByRecursion IsHeldShare held → length (flat_map held_share held) ≡ 34 * length held
held_len [] each = refl
held_len (h ∷ hs) each =
    let others = held_len hs each.1 in
    let first : length (held_share h) ≡ 34 = omega (arith, length-append (to_be_bytes w16 h.share) h.digest, each.0.1) in
    ap length (flat_map-cons held_share h hs) ∙ omega (arith, length-append (held_share h) (flat_map held_share hs), others, first)

pub id_len : (id : ShareId) → IsShareId id → length (share_id id) ≡ 18
id_len id fits = omega (arith, length-append id.index (to_be_bytes w16 id.share), fits.0)

pub fields_len : (body : Body) → IsBody body → length (fields body) ≤ 40000
fields_len (Ask index) fits = omega (arith, fits)
fields_len (Have readonly held) fits = omega (arith, length-append (to_be_bytes w16 (length held)) (flat_map held_share held), held_len held (recursion_from_All IsHeldShare held fits.2), fits.0)
fields_len (Allocate id len) fits = omega (arith, length-append (share_id id) (to_be_bytes w64 len), id_len id fits.0)
fields_len Granted fits = omega arith
fields_len (Already digest) fits = omega (arith, fits)
fields_len Busy fits = omega arith
fields_len Full fits = omega arith
fields_len (Write id offset bytes) fits = omega (arith, length-append (share_id id ++ to_be_bytes w64 offset) bytes, length-append (share_id id) (to_be_bytes w64 offset), id_len id fits.0, fits.3)
fields_len (Wrote next) fits = omega arith
fields_len (WrongOffset written) fits = omega arith
fields_len (Close id) fits = omega (arith, id_len id fits)
fields_len (Closed digest) fits = omega (arith, fits)
fields_len (NotComplete written) fits = omega arith
fields_len (Abort id) fits = omega (arith, id_len id fits)
fields_len (Read id offset len) fits = omega (arith, length-append (share_id id ++ to_be_bytes w64 offset) (to_be_bytes w32 len), length-append (share_id id) (to_be_bytes w64 offset), id_len id fits.0)
fields_len (Data bytes) fits = omega (arith, fits)
fields_len NoShare fits = omega arith

pub record IsShort (bytes : List ℕ) : Type 0 where
  pub some : 1 ≤ length bytes
  pub most : length bytes ≤ 65536

-- the length of a frame's body is in its range
pub spelling_len : (m : Message) → IsMessage m → IsShort (spelling m)
spelling_len m fits =
    let body = fields_len m.body fits.body in
    record { some = omega arith; most = omega (arith, length-append (to_be_bytes w64 m.session ++ to_be_bytes w64 m.number) (fields m.body), body) }
