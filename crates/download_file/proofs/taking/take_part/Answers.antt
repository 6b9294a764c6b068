use Rattle.std.proofs.Common.{◌≡◌, ℕ, List, OnErr, OnOk, Result, Ok, Err, refl}
use Rattle.download_parts.specs.declared.error.TreeFault.{TreeFault}
use Rattle.download_file.specs.Steps.{TakesPart}
use Rattle.download_file.proofs.taking.take_part.Goals as goal

-- what holds of any list holds of one
of_any : (r : Result (Unit {0}) TreeFault) (P : List ℕ → Type 0) (l : List ℕ) → OnOk r ((t : List ℕ) → P t) → OnOk r (P l)
of_any (Ok u) P l h = h l
of_any (Err e) P l h = h

-- what is not touched stays
stays : {A : Type 0} → (r : Result (Unit {0}) TreeFault) (x : A) → OnErr r (x ≡ x)
stays (Ok u) x = tt
stays (Err e) x = refl

-- ---- the share hashes

pub returns-in-ShareHashes-clause-taken : goal.returns-in-ShareHashes-clause-taken
returns-in-ShareHashes-clause-taken c =
    let w = c.args.first.now in
    of_any c.take_hashes.result (λ t. TakesPart c.args.handout.now c.args.reader.now t c.args.plan.now.first c.args.plan.now.end w.wanted.part w.position c.take_hashes.new.handout c.take_hashes.new.reader t) c.args.taken.now c.take_hashes.ensures.taken

pub returns-in-ShareHashes-clause-refused : goal.returns-in-ShareHashes-clause-refused
returns-in-ShareHashes-clause-refused c = c.take_hashes.ensures.refused

pub returns-in-ShareHashes-clause-handout : goal.returns-in-ShareHashes-clause-handout
returns-in-ShareHashes-clause-handout c = c.take_hashes.ensures.handout

pub returns-in-ShareHashes-clause-reader : goal.returns-in-ShareHashes-clause-reader
returns-in-ShareHashes-clause-reader c = c.take_hashes.ensures.reader

pub returns-in-ShareHashes-clause-pieces : goal.returns-in-ShareHashes-clause-pieces
returns-in-ShareHashes-clause-pieces c = stays c.take_hashes.result c.args.taken.now

-- ---- a piece of the block tree

pub returns-in-BlockTree-clause-taken : goal.returns-in-BlockTree-clause-taken
returns-in-BlockTree-clause-taken c =
    let w = c.args.first.now in
    of_any c.take_nodes.result (λ t. TakesPart c.args.handout.now c.args.reader.now t c.args.plan.now.first c.args.plan.now.end w.wanted.part w.position c.args.handout.now c.take_nodes.new.reader t) c.args.taken.now c.take_nodes.ensures.taken

pub returns-in-BlockTree-clause-refused : goal.returns-in-BlockTree-clause-refused
returns-in-BlockTree-clause-refused c = c.take_nodes.ensures.refused

pub returns-in-BlockTree-clause-handout : goal.returns-in-BlockTree-clause-handout
returns-in-BlockTree-clause-handout c = stays c.take_nodes.result c.args.handout.now

pub returns-in-BlockTree-clause-reader : goal.returns-in-BlockTree-clause-reader
returns-in-BlockTree-clause-reader c = c.take_nodes.ensures.reader

pub returns-in-BlockTree-clause-pieces : goal.returns-in-BlockTree-clause-pieces
returns-in-BlockTree-clause-pieces c = stays c.take_nodes.result c.args.taken.now

-- ---- a piece of the ciphertext tree

pub returns-in-CiphertextTree : goal.returns-in-CiphertextTree
returns-in-CiphertextTree c = c.take_ciphertext.ensures

-- ---- a piece of the data

pub returns-in-Data-clause-taken : goal.returns-in-Data-clause-taken
returns-in-Data-clause-taken c =
    let w = c.args.first.now in
    of_any c.take_data.result (λ t. TakesPart c.args.handout.now c.args.reader.now t c.args.plan.now.first c.args.plan.now.end w.wanted.part w.position c.args.handout.now c.take_data.new.reader t) c.args.taken.now c.take_data.ensures.taken

pub returns-in-Data-clause-refused : goal.returns-in-Data-clause-refused
returns-in-Data-clause-refused c = λ check is. absurd (c.take_data.ensures.refused check is)

pub returns-in-Data-clause-handout : goal.returns-in-Data-clause-handout
returns-in-Data-clause-handout c = stays c.take_data.result c.args.handout.now

pub returns-in-Data-clause-reader : goal.returns-in-Data-clause-reader
returns-in-Data-clause-reader c = c.take_data.ensures.reader

pub returns-in-Data-clause-pieces : goal.returns-in-Data-clause-pieces
returns-in-Data-clause-pieces c = stays c.take_data.result c.args.taken.now
