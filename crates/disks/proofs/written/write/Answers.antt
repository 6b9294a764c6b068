use Rattle.disks.proofs.Writing.{begun_spared, change_begun, change_moments, written_so}
use Rattle.disks.proofs.written.write.Goals as goal

pub returns-clause-written : goal.returns-clause-written
returns-clause-written g c honest begun own before writing =
    written_so begun own _ _ before c.args.bytes.now c.append.result _ _ c.append.ensures.same writing (c.append.ensures.gives honest)

pub returns-clause-begun : goal.returns-clause-begun
returns-clause-begun g c honest begun own before writing = change_begun begun own _ before _ _ c.append.result _ _ writing (c.append.ensures.gives honest)

pub returns-clause-spared : goal.returns-clause-spared
returns-clause-spared g c honest begun own before writing =
    begun_spared begun own _ (change_begun begun own _ before _ _ c.append.result _ _ writing (c.append.ensures.gives honest))

pub returns-clause-any_moment : goal.returns-clause-any_moment
returns-clause-any_moment g c honest begun own before writing = change_moments begun own _ before _ _ _ _ _ writing (c.append.ensures.passes honest)
