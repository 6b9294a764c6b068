use Rattle.std.proofs.Common.{inl, refl}
use Rattle.grid_gets.proofs.FileLemmas.{err_then, some_each, some_is}
use Rattle.grid_gets.proofs.WordLemmas.{begun_by, file_by, part_by}
use Rattle.grid_gets.proofs.range.get.Goals as goal

pub returns-in_err-asked-clause-part : goal.returns-in_err-asked-clause-part
returns-in_err-asked-clause-part g c = some_each c.args.words.now.output _ (λ path. err_then _ _ (inl refl))

pub returns-in_err-may_get-clause-part : goal.returns-in_err-may_get-clause-part
returns-in_err-may_get-clause-part g c = some_each c.args.words.now.output _ (λ path. err_then _ _ (inl refl))

pub returns-in-None-clause-begun : goal.returns-in-None-clause-begun
returns-in-None-clause-begun g c = λ none.
    begun_by _ c.args.words.now c.in_ok-asked.asked.cap c.in_ok-asked.asked.range c.in_ok-asked.ensures.spelled c.in_ok-asked.ensures.range c.in_ok-asked.ensures.within c.write_bytes.result _ _ c.write_bytes.ensures.err

pub returns-clause-file : goal.returns-clause-file
returns-clause-file g c = some_is c.args.words.now.output c.in-Some.path _ c.in-Some.is
    (file_by _ c.args.words.now c.in_ok-asked.asked.cap c.in_ok-asked.asked.range c.in_ok-asked.ensures.spelled c.in_ok-asked.ensures.range c.in_ok-asked.ensures.within _ _ _ c.write_file.result c.write_file.ensures.ok)

pub returns-clause-part : goal.returns-clause-part
returns-clause-part g c = some_is c.args.words.now.output c.in-Some.path _ c.in-Some.is
    (part_by _ c.args.words.now c.in_ok-asked.asked.cap c.in_ok-asked.asked.range c.in_ok-asked.ensures.spelled c.in_ok-asked.ensures.range c.in_ok-asked.ensures.within _ _ _ c.write_file.result c.write_file.ensures.err)
