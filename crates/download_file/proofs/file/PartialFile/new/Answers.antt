use Rattle.std.proofs.Common.{◌≡◌, ◌∙◌, List, [], ◌∷◌, ap, subst, sym}
use Rattle.request_record.specs.declared.requests.Request.{Request}
use Rattle.download_segments.specs.State.{HandoutState, IsHandout}
use Rattle.download_file.specs.State.{FileState, new_file, file_state}
use Rattle.download_file.specs.Answers.{IsRead}
use Rattle.download_file.specs.Right.{IsFile}
use Rattle.download_file.proofs.NewLemmas.{file_new, read_new}
use Rattle.download_file.proofs.file.PartialFile.new.Goals as goal

abbrev made : goal.After-new-5 → FileState
made c = file_state c.in_ok-new.field-0 c.plan_of.result.first c.plan_of.result.end (0 ∷ 0 ∷ 0 ∷ []) c.new-2.result.items c.new-3.result.items c.new-4.result.items c.new-5.result.items

is_new : (c : goal.After-new-5) → made c ≡ new_file c.args.key.now c.args.ueb.now c.args.geometry.now c.args.from c.args.to
is_new c = λ i. file_state (c.in_ok-new.ensures.handout i) (c.plan_of.ensures.first i) (c.plan_of.ensures.end i) (0 ∷ 0 ∷ 0 ∷ []) (c.new-2.ensures.items i) (c.new-3.ensures.items i) (c.new-4.ensures.items i) (c.new-5.ensures.items i)

right : (c : goal.After-new-5) → IsFile (made c)
right c = subst IsFile (sym (is_new c))
    (file_new c.args.key.now c.args.ueb.now c.args.geometry.now c.args.from c.args.to c.requires.some c.requires.inside
    (subst IsHandout c.in_ok-new.ensures.handout c.in_ok-new.ensures.right))

pub invariant_of-result : goal.invariant_of-result
invariant_of-result c = (right c, c.plan_of.ensures.geometry ∙ sym (ap (λ (h : HandoutState). h.geometry) c.in_ok-new.ensures.handout))

pub returns-clause-right : goal.returns-clause-right
returns-clause-right c = right c

pub returns-clause-reads : goal.returns-clause-reads
returns-clause-reads c = subst (λ (f : FileState). (entries : List Request) → IsRead entries f) (sym (is_new c))
    (read_new c.args.key.now c.args.ueb.now c.args.geometry.now c.args.from c.args.to c.requires.some c.requires.inside
    (subst IsHandout c.in_ok-new.ensures.handout c.in_ok-new.ensures.right))
