use Rattle.std.proofs.Common.{◌≡◌}
use Rattle.std.specs.List.{list_any}
use Rattle.catalogues.specs.Names.{is_escaped, written}
use Rattle.catalogues.proofs.LineLaws.{behind_mark, words_is, unmarked_first, has_blank, cap_cut}
use Rattle.catalogues.proofs.lines.read_words.Goals as goal

pub returns-in_default-clause-only : goal.returns-in_default-clause-only
returns-in_default-clause-only c = λ cap name words.
    let first = c.unmarked-marked.ensures.only (list_any is_escaped name) (behind_mark cap name) (unmarked_first cap name) (words_is c.args.text.now cap name words) in
    absurd (has_blank _ cap name first.1 c.in_default.ensures)

pub returns-in_default-behind-clause-only : goal.returns-in_default-behind-clause-only
returns-in_default-behind-clause-only c = λ cap name words.
    let first = c.unmarked-marked.ensures.only (list_any is_escaped name) (behind_mark cap name) (unmarked_first cap name) (words_is c.args.text.now cap name words) in
    let second = cap_cut _ c.in-Some.cap.now c.in-Some.rest.now cap name words.is_cap first.1 c.in-Some.ensures.0 c.in-Some.ensures.1 in
    absurd (c.in_default-behind.ensures (written name) second.1)

pub returns-in_default-read-clause-only : goal.returns-in_default-read-clause-only
returns-in_default-read-clause-only c = λ cap name words.
    let first = c.unmarked-marked.ensures.only (list_any is_escaped name) (behind_mark cap name) (unmarked_first cap name) (words_is c.args.text.now cap name words) in
    let second = cap_cut _ c.in-Some.cap.now c.in-Some.rest.now cap name words.is_cap first.1 c.in-Some.ensures.0 c.in-Some.ensures.1 in
    let third : c.in-Some-behind.written.now ≡ written name = cc (second.1, c.in-Some-behind.ensures) in
    c.in_default-read.ensures.only name words.is_name third first.0

pub returns-in-Ok-clause-only : goal.returns-in-Ok-clause-only
returns-in-Ok-clause-only c = λ cap name words.
    let first = c.unmarked-marked.ensures.only (list_any is_escaped name) (behind_mark cap name) (unmarked_first cap name) (words_is c.args.text.now cap name words) in
    let second = cap_cut _ c.in-Some.cap.now c.in-Some.rest.now cap name words.is_cap first.1 c.in-Some.ensures.0 c.in-Some.ensures.1 in
    let third : c.in-Some-behind.written.now ≡ written name = cc (second.1, c.in-Some-behind.ensures) in
    let read = (c.in-Ok.ensures.cap cap).1 (words.is_cap, second.0) in
    (cc read, c.in-Some-read.ensures.only name words.is_name third first.0)

pub returns-in-Err-clause-only : goal.returns-in-Err-clause-only
returns-in-Err-clause-only c = λ cap name words.
    let first = c.unmarked-marked.ensures.only (list_any is_escaped name) (behind_mark cap name) (unmarked_first cap name) (words_is c.args.text.now cap name words) in
    let second = cap_cut _ c.in-Some.cap.now c.in-Some.rest.now cap name words.is_cap first.1 c.in-Some.ensures.0 c.in-Some.ensures.1 in
    let read = (c.in-Err.ensures.cap cap).1 (words.is_cap, second.0) in
    cc read
