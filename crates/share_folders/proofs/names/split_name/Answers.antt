use Rattle.std.proofs.Common.{rules, ◌∙◌, ◌-◌, ℕ, List, length, take, drop, sym, ap}
use mathlib.Core.Bool.{true≢false}
use Rattle.share_folders.proofs.NameLaws.{long_enough, index_part, share_part, end_part}
use Rattle.share_folders.proofs.names.split_name.Goals as goal

pub returns-then-name-end_letters-clause-only : goal.returns-then-name-end_letters-clause-only
returns-then-name-end_letters-clause-only c = λ key end placed len is. long_enough c.args.name.now key c.args.end_letters end placed len is c.if-name-end_letters.true

pub returns-in_err-share-clause-only : goal.returns-in_err-share-clause-only
returns-in_err-share-clause-only c = λ key end placed len is.
    let text = c.split_at-2.ensures.front ∙ ap (λ (xs : List ℕ). take (length xs - c.args.end_letters) xs) c.split_at.ensures.back
    ∙ share_part c.args.name.now key c.args.end_letters end placed len is in
    absurd (true≢false (sym (rw c.in_err-share.was at (c.read_between.ensures.only key.1 placed.1 text))))

pub returns-then-not-from_base32-clause-only : goal.returns-then-not-from_base32-clause-only
returns-then-not-from_base32-clause-only c = λ key end placed len is.
    let text = c.split_at.ensures.front ∙ index_part c.args.name.now key end placed is in
    let yes = (c.from_base32.ensures.only key.0 placed.0 text).0 in
    search rules

pub returns-clause-only : goal.returns-clause-only
returns-clause-only c = λ key end placed len is.
    c.split_at-2.ensures.back ∙ ap (λ (xs : List ℕ). drop (length xs - c.args.end_letters) xs) c.split_at.ensures.back
    ∙ end_part c.args.name.now key c.args.end_letters end placed len is
