use Rattle.std.proofs.Common.{◌≡◌, length, map, ap, subst, ◌∙◌, arith}
use Rattle.std.proofs.lemmas.List.{length-map}
use Rattle.zfec_code.specs.Field.{point_of}
use Rattle.zfec_code.specs.Tables.{AppendsRow}
use Rattle.zfec_code.proofs.RowLemmas.{AreDecodingRows-given, AreDecodingRows-more}
use Rattle.zfec_code.proofs.ShareLists.{given_point}
use Rattle.zfec_code.proofs.decoding.push_row.Goals as goal

pub push_row-requires : goal.push_row-requires
push_row-requires c = record {
  no_node = λ m h e.
      c.if-is_given.ensures (given_point c.args.numbers.now c.args.nodes.now.points.items c.args.primary m c.requires.points c.requires.small c.requires.byte h (e ∙ c.point.ensures));
}

pub returns-in_ok-resize : goal.returns-in_ok-resize
returns-in_ok-resize c =
    let kept = c.in_ok-resize.ensures.by_index in
    AreDecodingRows-given c.args.numbers.now c.args.primary c.args.rows.now.items _ c.if-is_given.ensures
    (omega (arith, c.in_ok-resize.ensures.len, c.len.ensures)) (λ i h. kept.0 i 0 (omega (arith, c.len.ensures, h)) (omega (arith, h))) c.requires.before

pub returns-in_ok-push_row : goal.returns-in_ok-push_row
returns-in_ok-push_row c =
    let size : length c.args.nodes.now.points.items ≡ length c.args.numbers.now = ap length c.requires.points ∙ length-map c.args.numbers.now point_of in
    AreDecodingRows-more c.args.numbers.now c.args.primary c.args.rows.now.items _ c.requires.before
    (subst (λ n. AppendsRow (map point_of c.args.numbers.now) (point_of c.args.primary) n c.args.rows.now.items c.push_row.new.rows.items) size
    (subst (λ x. AppendsRow (map point_of c.args.numbers.now) x (length c.args.nodes.now.points.items) c.args.rows.now.items c.push_row.new.rows.items) c.point.ensures
    (subst (λ ns. AppendsRow ns c.point.result (length c.args.nodes.now.points.items) c.args.rows.now.items c.push_row.new.rows.items) c.requires.points
    c.in_ok-push_row.ensures)))
