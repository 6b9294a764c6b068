use Rattle.std.proofs.Common.{ℕ, List, ◌++◌, sym, subst}
use Rattle.ueb.specs.Shape.{Contents}
use Rattle.share_layout.specs.Geometry.{block_size}
use Rattle.share_verify.specs.CapBlock.{geometry_by}
use Rattle.share_verify.specs.Hashed.{BeginsWith}
use Rattle.share_verify.specs.Judging.{HasTaken}
use Rattle.share_verify.proofs.JudgingLemmas.{begins_more, with_err, with_ok}
use Rattle.share_verify.proofs.judging.Judging.take.Goals as goal

pub returns-clause-ok : goal.returns-clause-ok
returns-clause-ok c =
    let mid = c.hash_groups.new.self in
    let bytes : List ℕ = c.args.bytes.now in
    let bs : ℕ = block_size (geometry_by mid.ueb) in
    with_ok
    ((u : Contents) → (taken : List ℕ) → HasTaken c.args.self.now u taken → HasTaken (record mid { kept = c.extend_from_slice.new.self }) u (taken ++ bytes))
    c.extend_from_slice.new.self.items mid.kept.items bytes c.extend_from_slice.result c.extend_from_slice.ensures.items
    (λ is u taken had.
    let has = c.hash_groups.ensures u taken had in
    record {
      ueb = has.ueb;
      begins = subst (λ (l : List ℕ). BeginsWith bs (taken ++ bytes) mid.hashes.items l) (sym is) (begins_more bs taken mid.kept.items mid.hashes.items has.begins bytes);
      within = has.within;
    })

pub returns-clause-err : goal.returns-clause-err
returns-clause-err c =
    let mid = c.hash_groups.new.self in
    let bytes : List ℕ = c.args.bytes.now in
    let bs : ℕ = block_size (geometry_by mid.ueb) in
    with_err
    ((u : Contents) → (taken : List ℕ) → HasTaken c.args.self.now u taken → HasTaken (record mid { kept = c.extend_from_slice.new.self }) u taken)
    c.extend_from_slice.new.self.items mid.kept.items bytes c.extend_from_slice.result c.extend_from_slice.ensures.items
    (λ is u taken had.
    let has = c.hash_groups.ensures u taken had in
    record {
      ueb = has.ueb;
      begins = subst (λ (l : List ℕ). BeginsWith bs taken mid.hashes.items l) (sym is) has.begins;
      within = has.within;
    })
