use Rattle.std.proofs.Common.{Bool, List, ℕ, [], ◌∷◌, ◌≡◌, ◌-◌, ◌∙◌, ap, append-nil, drop, length, subst, sym, take}
use Rattle.std.proofs.lemmas.List.{take_rest}
use Rattle.catalogues.specs.Patterns.{taken}
use Rattle.catalogues.specs.Rows.{TellsAll}
use Rattle.catalogues.proofs.PatternLaws.{behind_left, cut_last, end_told, long_more, row_begun, row_more}
use Rattle.catalogues.proofs.patterns.row_before.Goals as goal

pub loop-x-init : goal.loop-x-init
loop-x-init c = (
  [],
  sym (append-nil c.args.pattern.now),
  ap length c.in_ok-row.ensures.items,
  λ name told. row_begun _ (c.args.byte ∷ name) _ c.in_ok-row.ensures.items (c.ends_at.ensures name (told c.args.pattern.now [] (sym (append-nil c.args.pattern.now)))),
)

pub loop-x-preserved : goal.loop-x-preserved
loop-x-preserved c =
    let so_far = c.loop-x.invariant in
    let end = so_far.0 in
    let x = c.in-Some.x.now in
    let left = c.loop-x.left.now in
    let whole = cut_last c.args.pattern.now left end c.in-Some.before.now x so_far.1 c.in-Some.ensures.cases.0 in
    let same : take (length c.args.pattern.now - length left) (drop (length left) c.args.pattern.now) ≡ end = take_rest c.args.pattern.now (length left) ∙ behind_left c.args.pattern.now left end so_far.1 in (
      x ∷ end,
      whole,
      long_more c.loop-x.row.items _ end x _ c.in_ok-push.ensures.items so_far.2,
      λ name told.
          let row = so_far.3 name told in
          let rows : TellsAll c.as_slice.result.now (c.args.byte ∷ name) end = subst (λ (r : List Bool). TellsAll r (c.args.byte ∷ name) end) (sym c.as_slice.ensures.value) row in
          let old : TellsAll c.args.old.now name (x ∷ end) = end_told c.args.old.now name c.args.pattern.now c.in-Some.before.now (x ∷ end) whole told in
          let is : c.is_taken.result ≡ taken (c.args.byte ∷ name) (x ∷ end) =
          (subst (λ (e : List ℕ). TellsAll c.as_slice.result.now (c.args.byte ∷ name) e → TellsAll c.args.old.now name (x ∷ e) → c.is_taken.result ≡ taken (c.args.byte ∷ name) (x ∷ e)) same (c.is_taken.ensures name)) rows old in
          row_more c.loop-x.row.items _ (c.args.byte ∷ name) end x _ c.in_ok-push.ensures.items so_far.2 row is,
    )
