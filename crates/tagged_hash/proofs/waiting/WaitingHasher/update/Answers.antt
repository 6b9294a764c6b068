use Rattle.std.proofs.Common.{Bool, List, ℕ, cond, ap, ◌++◌, ◌∙◌}
use Rattle.sha2_lanes.specs.Stream.{Taken, with_more}
use Rattle.tagged_hash.specs.TaggedHasher.{input_of}
use Rattle.tagged_hash.proofs.WaitingLemmas.{given_more, hashed, more_of, none_more}
use Rattle.tagged_hash.proofs.waiting.WaitingHasher.update.Goals as goal

pub invariant_of-self : goal.invariant_of-self
invariant_of-self c = given_more _ _ _ (given_more _ _ _ c.self.invariant c.hash_waiting.ensures.given) c.update.ensures

pub invariant_of-self-else-is_err : goal.invariant_of-self-else-is_err
invariant_of-self-else-is_err c = given_more _ _ _ c.self.invariant c.hash_waiting.ensures.given

pub returns-then-is_err-clause-more : goal.returns-then-is_err-clause-more
returns-then-is_err-clause-more c =
    let once = given_more _ _ _ c.self.invariant c.hash_waiting.ensures.given in
    let was : List ℕ = c.hash_waiting.new.waiting.items in
    none_more _ _ (given_more _ _ _ once c.update.ensures)
    (c.extend_from_slice.ensures.items ∙ ap (λ (b : Bool). cond b (was ++ c.args.piece.now) was) c.if-is_err.ensures.negation ∙ c.hash_waiting.ensures.none)
    ∙ hashed _ _ _ once c.update.ensures
    ∙ ap (λ (t : Taken). with_more t c.args.piece.now) (hashed _ _ _ c.self.invariant c.hash_waiting.ensures.given ∙ c.self.view_is)

pub returns-else-is_err-clause-more : goal.returns-else-is_err-clause-more
returns-else-is_err-clause-more c =
    let was : List ℕ = c.hash_waiting.new.waiting.items in
    ap (with_more (input_of c.hash_waiting.new.hasher))
    (c.extend_from_slice.ensures.items ∙ ap (λ (b : Bool). cond b (was ++ c.args.piece.now) was) c.if-is_err.ensures.negation
    ∙ ap (λ (l : List ℕ). l ++ c.args.piece.now) c.hash_waiting.ensures.none)
    ∙ ap (λ (t : Taken). with_more t c.args.piece.now) (hashed _ _ _ c.self.invariant c.hash_waiting.ensures.given ∙ c.self.view_is)

pub returns-then-is_err-clause-given : goal.returns-then-is_err-clause-given
returns-then-is_err-clause-given c = λ tag given is.
    returns-then-is_err-clause-more c ∙ ap (λ (t : Taken). with_more t c.args.piece.now) is ∙ more_of tag given c.args.piece.now

pub returns-else-is_err-clause-given : goal.returns-else-is_err-clause-given
returns-else-is_err-clause-given c = λ tag given is.
    returns-else-is_err-clause-more c ∙ ap (λ (t : Taken). with_more t c.args.piece.now) is ∙ more_of tag given c.args.piece.now
