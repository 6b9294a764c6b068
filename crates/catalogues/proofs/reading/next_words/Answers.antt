use Rattle.catalogues.proofs.LineLaws.{line_cut}
use Rattle.catalogues.proofs.reading.next_words.Goals as goal

pub returns-in_default-read_words-clause-only : goal.returns-in_default-read_words-clause-only
returns-in_default-read_words-clause-only c = λ cap name rest begins.
    let both = line_cut c.args.text.now _ _ rest cap name begins c.in-Some.ensures.0 c.in-Some.ensures.1 in
    c.in_default-read_words.ensures.only cap name both.0

pub returns-clause-only : goal.returns-clause-only
returns-clause-only c = λ cap name rest begins.
    let both = line_cut c.args.text.now _ _ rest cap name begins c.in-Some.ensures.0 c.in-Some.ensures.1 in
    let read = c.in-Some-read_words.ensures.only cap name both.0 in
    (read.0, read.1, both.1)
