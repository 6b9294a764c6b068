use Rattle.std.proofs.lemmas.Simd.{get_or-put_chunk_below}
use Rattle.aes_ctr.proofs.StreamLemmas.{above_kept, vector_added}
use Rattle.aes_ctr.proofs.add_vector.Goals as goal

pub returns-clause-below : goal.returns-clause-below
returns-clause-below c k before = get_or-put_chunk_below c.args.at c.args.text.now _ k 0 before

pub returns-clause-added : goal.returns-clause-added
returns-clause-added c = vector_added c.args.text.now c.args.vector c.args.at c.requires.within c.requires.long

pub returns-clause-above : goal.returns-clause-above
returns-clause-above c = above_kept c.args.text.now c.args.vector c.args.at c.requires.within c.requires.long
