use Rattle.std.proofs.Common.{◌≡◌, ◌∙◌, get_or}
use Rattle.ueb.specs.declared.key.Key.TheVariants.{CodecName}
use Rattle.ueb.specs.declared.key.TheConstants.Key.{ALL}
use Rattle.ueb.specs.Value.{value_bytes}
use Rattle.ueb.specs.Key.{key_name}
use Rattle.ueb.specs.Block.{value_text}
use Rattle.ueb.proofs.Written.{text_more, text_whole}
use Rattle.ueb.proofs.block.Ueb.text.Goals as goal

pub loop-key-preserved : goal.loop-key-preserved
loop-key-preserved c =
    let value : value_bytes c.value.result ≡ value_text c.args.self.now (get_or ALL c.loop-key.key-index CodecName) = c.value.ensures in
    let name : c.name.result.now ≡ key_name (get_or ALL c.loop-key.key-index CodecName) = c.name.ensures in
    text_more c.args.self.now c.loop-key.key-index c.loop-key.text.items c.push_field.new.text.items c.as_bytes.result.now c.deref.result.now c.loop-key-test.true
    (c.as_bytes.ensures.value ∙ name) (c.deref.ensures.value ∙ c.in_ok-value.ensures ∙ value) c.loop-key.invariant c.in_ok-push_field.ensures.ok

pub returns : goal.returns
returns c = text_whole c.args.self.now c.loop-key.text.items c.loop-key.key-index c.loop-key-test.false c.loop-key.invariant
