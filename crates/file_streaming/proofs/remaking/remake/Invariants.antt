use Rattle.std.proofs.Common.{◌≡◌, ◌*◌, length, min}
use Rattle.std.specs.Int.{div_ceil}
use Rattle.share_layout.specs.Geometry.{segment_count}
use Rattle.share_gathering.specs.Groups.{at_once}
use Rattle.file_streaming.proofs.RemakePass.{IsRemadeTo}
use Rattle.file_streaming.proofs.remaking.remake.Given as goal

abbrev pub invariant-loop-number : goal.invariant-loop-number
invariant-loop-number g l = record {
  to : IsRemadeTo g.S.Source.gives l.fn.source l.geometry l.size (min (at_once l.geometry * l.number) (segment_count l.geometry)) l.remaking l.source;
  shares : length l.remaking.shares.items ≡ l.geometry.total;
  wholes : length l.remaking.wholes.items ≡ div_ceil l.geometry.total 7;
  size : g.S.Source.size l.source ≡ g.S.Source.size l.fn.source;
  failures : g.S.Source.failures l.source ≡ g.S.Source.failures l.fn.source;
}
