use Rattle.std.proofs.Common.{◌≡◌, ◌∙◌, refl, arith, rules, length}
use Rattle.aes_ctr.specs.Aes.{round_key}
use Rattle.aes_ctr.proofs.KeyLemmas.{listed, round_key_is}
use Rattle.aes_ctr.proofs.key.round_keys.Goals as goal

pub returns-clause-keys : goal.returns-clause-keys
returns-clause-keys c =
    let key = c.args.key.now in
    let words = c.expanded-words.result in
    let full : length words ≡ 44 = search rules in
    let built = c.expanded-words.ensures.words in
    record {
      eleven = refl;
      each = listed (round_key key) c.round_key.result c.round_key-2.result c.round_key-3.result c.round_key-4.result c.round_key-5.result c.round_key-6.result c.round_key-7.result c.round_key-8.result c.round_key-9.result c.round_key-10.result c.round_key-11.result
          (c.round_key.ensures ∙ round_key_is key words 0 full built (omega arith))
          (c.round_key-2.ensures ∙ round_key_is key words 1 full built (omega arith))
          (c.round_key-3.ensures ∙ round_key_is key words 2 full built (omega arith))
          (c.round_key-4.ensures ∙ round_key_is key words 3 full built (omega arith))
          (c.round_key-5.ensures ∙ round_key_is key words 4 full built (omega arith))
          (c.round_key-6.ensures ∙ round_key_is key words 5 full built (omega arith))
          (c.round_key-7.ensures ∙ round_key_is key words 6 full built (omega arith))
          (c.round_key-8.ensures ∙ round_key_is key words 7 full built (omega arith))
          (c.round_key-9.ensures ∙ round_key_is key words 8 full built (omega arith))
          (c.round_key-10.ensures ∙ round_key_is key words 9 full built (omega arith))
          (c.round_key-11.ensures ∙ round_key_is key words 10 full built (omega arith));
    }

pub returns-clause-first : goal.returns-clause-first
returns-clause-first c = c.round_key.ensures ∙ c.expanded-words.ensures.key
