use Rattle.std.proofs.Common.{ℕ, List, subst, sym, Result, Ok, Err, OnOk}
use Rattle.download_parts.specs.declared.part.Part.{Part}
use Rattle.download_file.specs.Steps.{TakesPart}
use Rattle.download_file.proofs.TakingLemmas.{took_nodes}
use Rattle.download_file.proofs.taking.take_nodes.Goals as goal

on_ok : {X E : Type 0} (x : Result X E) (P Q R : Type 0) → OnOk x P → OnOk x Q → (P → Q → R) → OnOk x R
on_ok (Ok v) P Q R p q f = f p q
on_ok (Err e) P Q R p q f = tt

pub returns-clause-taken : goal.returns-clause-taken
returns-clause-taken c =
    let h = c.args.handout.now in
    let r = c.args.reader.now in
    let a = c.args.plan.now.first in
    let b = c.args.plan.now.end in
    let w = c.args.first.now in
    on_ok c.take_nodes.result _ _ _ c.take_nodes.ensures.taken c.take_nodes.ensures.waiting (λ takes waiting. λ (taken : List ℕ).
    subst (λ (q : Part). TakesPart h r taken a b q w.position h c.take_nodes.new.self taken) (sym c.requires.part)
    (took_nodes h r taken a b w c.requires.taker c.take_nodes.new.self c.args.piece.now c.args.bytes.now c.take_nodes.ensures.server c.take_nodes.ensures.share waiting takes c.take_nodes.ensures.right))
