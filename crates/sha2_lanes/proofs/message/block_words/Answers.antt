use Rattle.std.proofs.Common.{◌≡◌, ◌+◌, ◌-◌, ◌*◌, ◌/◌, ◌++◌, ℕ, List, length, get_or, take, drop, sym, ap, ◌∙◌, arith}
use Rattle.sha2.specs.Sha256.{padded_message}
use Rattle.sha2_lanes.specs.Lanes.{message, text}
use Rattle.sha2_lanes.proofs.Padding.{byte_text, length_padded, same_part, same_words}
use Rattle.sha2_lanes.proofs.message.block_words.Goals as goal

pub words-requires-clause-in_range : goal.words-requires-clause-in_range
words-requires-clause-in_range c = omega arith

pub edge_words-requires-clause-within : goal.edge_words-requires-clause-within
edge_words-requires-clause-within c j below = omega (arith, c.requires.messages j below)

pub returns-then-start-prefix : goal.returns-then-start-prefix
returns-then-start-prefix c =
    let p = c.args.prefix.now in
    let ms = c.args.messages.now in
    let b = c.args.b in
    same_words (λ j. take 64 (drop (64 * b - length p) (text ms j))) (λ j. take 64 (drop (b * 64) (padded_message (message p ms j)))) _
    (λ j below.
    let t : List ℕ = text ms j in
    let l : length t ≡ c.args.len = c.requires.messages j below in
    let all : length (padded_message (p ++ t)) ≡ (length p + length t + 72) / 64 * 64 = length_padded p t in
    same_part t (padded_message (p ++ t)) (64 * b - length p) (b * 64) (omega arith) (omega arith)
    (λ i low.
    let offset : 64 * b - length p + i ≡ b * 64 + i - length p = omega arith in
    ap (λ (q : ℕ). get_or t q 0) offset ∙ sym (byte_text p t (b * 64 + i) (omega arith) (omega arith))))
    c.words.ensures

pub returns-else-prefix-start : goal.returns-else-prefix-start
returns-else-prefix-start c =
    let p = c.args.prefix.now in
    let ms = c.args.messages.now in
    let at : 64 * c.args.b ≡ c.args.b * 64 = omega arith in
    same_words (λ j. take 64 (drop (64 * c.args.b) (padded_message (message p ms j)))) (λ j. take 64 (drop (c.args.b * 64) (padded_message (message p ms j)))) _
    (λ j below. ap (λ (k : ℕ). take 64 (drop k (padded_message (message p ms j)))) at) c.edge_words.ensures
