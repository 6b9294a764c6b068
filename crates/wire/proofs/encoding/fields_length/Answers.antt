use Rattle.std.proofs.Common.{◌≡◌, ◌*◌, length, arith}
use Rattle.std.specs.Int.{w16, to_be_bytes}
use Rattle.std.specs.List.{flat_map}
use Rattle.std.proofs.lemmas.List.{length-append}
use Rattle.std.proofs.lemmas.List.Elements.{recursion_from_All}
use Rattle.wire.specs.Held.{IsHeldShare}
use Rattle.wire.specs.Frames.{held_share}
use Rattle.wire.proofs.LengthLaws.{held_len}
use Rattle.wire.proofs.encoding.fields_length.Goals as goal

pub returns-in-Have-clause-value : goal.returns-in-Have-clause-value
returns-in-Have-clause-value c =
    let held = c.in-Have.held in
    let shares : length (flat_map held_share held) ≡ 34 * length held = held_len held (recursion_from_All IsHeldShare held c.as_slice.ensures.held.2) in
    rw (c.in-Have.is, c.as_slice.ensures.value) (omega (arith, shares, length-append (to_be_bytes w16 (length held)) (flat_map held_share held)))
