use Rattle.std.proofs.Common.{◌≡◌, ◌++◌, ◌+◌, ◌∷◌, [], get_or, length, length-append, take, drop, ap, sym, ◌∙◌, rules, arith}
use Rattle.std.proofs.lemmas.List.{take_all}
use Rattle.merkle.specs.Tree.{needed_numbers}
use Rattle.merkle.proofs.NumberLemmas.{length-needed_numbers}
use Rattle.download_parts.specs.Offers.{numbered}
use Rattle.download_parts.proofs.OfferLemmas.{numbered_more}
use Rattle.download_parts.proofs.offers.chained.Goals as goal

pub loop-position-preserved : goal.loop-position-preserved
loop-position-preserved c =
    let i = c.loop-position.position in
    let ns = needed_numbers c.args.height c.args.leaf in
    let entries = c.as_chunks.result.0.now in
    let pushed : c.push.new.self.items ≡ numbered (take i ns) (take i entries) ++ (get_or ns i 0, drop 2 (get_or entries i [])) ∷ [] =
    search (rules, c.loop-position.invariant.offers) in
    let pushed' : c.push.new.self.items ≡ c.loop-position.offers.items ++ (c.needed_number.result, c.hash_of-hash.result) ∷ [] = search rules in
    record {
      offers = pushed ∙ sym (numbered_more ns entries i (omega (arith, length-needed_numbers c.args.height c.args.leaf)) (omega arith));
      count = ap length pushed' ∙ length-append c.loop-position.offers.items _ ∙ omega (arith, c.loop-position.invariant.count);
    }

pub returns-clause-offers : goal.returns-clause-offers
returns-clause-offers c =
    let ns = needed_numbers c.args.height c.args.leaf in
    let entries = c.as_chunks.result.0.now in
    let position = c.loop-position.position in
    let whole : length entries ≡ c.args.height + 1 = omega arith in
    c.loop-position.invariant.offers
    ∙ ap (λ l. numbered l (take position entries)) (take_all position ns (omega (arith, length-needed_numbers c.args.height c.args.leaf)))
    ∙ ap (numbered ns) (take_all position entries (omega arith) ∙ search rules)
