use Rattle.std.proofs.Common.{◌≡◌, ℕ, ◌-◌, Ok, Err, refl, ap, ◌∙◌, arith}
use Rattle.std.specs.List.{flat_map}
use Rattle.catalogues.specs.Catalogues.{Reading, entry_text}
use Rattle.catalogues.proofs.WholeLaws.{begun, one_line, all_read, no_more, no_catalogue}
use Rattle.catalogues.proofs.reading.entry_count.Goals as goal

pub returns-in_err-catalogue-clause-only : goal.returns-in_err-catalogue-clause-only
returns-in_err-catalogue-clause-only c = λ head entries catalogue.
    absurd (c.in_err-catalogue.ensures.only head (flat_map entry_text entries) (record { is_head = catalogue.is_head; is = catalogue.is }))

pub loop-catalogue-init : goal.loop-catalogue-init
loop-catalogue-init c =
    let opened = c.in_ok-catalogue.ensures in
    begun c.args.text.now c.in_ok-catalogue.catalogue opened.head opened.lines (λ head rest begins. (opened.only head rest begins).1)

pub loop-catalogue-preserved : goal.loop-catalogue-preserved
loop-catalogue-preserved c =
    let read = rw c.in-Ok-Some.field-0-is at c.in-Ok-Some.ensures in
    one_line c.args.text.now c.loop-catalogue.catalogue c.next_line.new.self c.in-Ok-Some.field-0-0.cap c.in-Ok-Some.field-0-0.name
    read.line read.lines read.head (λ cap name rest begins. (read.only cap name rest begins).1) c.loop-catalogue.invariant

pub overflow_sub-result : goal.overflow_sub-result
overflow_sub-result c =
    let told = rw c.in-Ok-None.field-0-is at c.in-Ok-None.ensures in
    let lines : c.lines.result ≡ c.loop-catalogue.catalogue.lines = c.lines.ensures ∙ ap (λ (r : Reading). r.lines) told.still in
    omega (arith, lines, c.loop-catalogue.invariant.count)

pub returns-in-Ok-None-clause-whole : goal.returns-in-Ok-None-clause-whole
returns-in-Ok-None-clause-whole c =
    let told = rw c.in-Ok-None.field-0-is at c.in-Ok-None.ensures in
    let lines : c.lines.result ≡ c.loop-catalogue.catalogue.lines = c.lines.ensures ∙ ap (λ (r : Reading). r.lines) told.still in
    let so_far = c.loop-catalogue.invariant in (
      c.loop-catalogue.catalogue.head,
      (so_far.entries, (all_read c.args.text.now c.loop-catalogue.catalogue (told.end.0 refl) so_far, omega (arith, lines, so_far.count))),
    )

pub returns-in-Ok-None-clause-only : goal.returns-in-Ok-None-clause-only
returns-in-Ok-None-clause-only c = λ head entries catalogue.
    let told = rw c.in-Ok-None.field-0-is at c.in-Ok-None.ensures in
    let lines : c.lines.result ≡ c.loop-catalogue.catalogue.lines = c.lines.ensures ∙ ap (λ (r : Reading). r.lines) told.still in
    ap (λ (n : ℕ). Ok n) (ap (λ (n : ℕ). n - 1) lines
    ∙ no_more c.args.text.now c.loop-catalogue.catalogue entries (told.end.0 refl) (c.loop-catalogue.invariant.only head entries catalogue))

pub returns-in-Err-clause-only : goal.returns-in-Err-clause-only
returns-in-Err-clause-only c = λ head entries catalogue.
    let refused = c.in-Err.ensures.refused.0 (ap Err c.in-Err.ensures.fault) in
    absurd (no_catalogue c.args.text.now c.loop-catalogue.catalogue entries refused.0 refused.1 (c.loop-catalogue.invariant.only head entries catalogue))
