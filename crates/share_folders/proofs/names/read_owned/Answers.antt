use Rattle.std.proofs.Common.{rules, ◌≡◌, ◌∙◌, ◌++◌, List, ℕ, ap}
use Rattle.std.specs.Prelude.{codes}
use Rattle.cap_text.specs.Base32.{base32}
use Rattle.share_folders.specs.Names.{named_by}
use Rattle.share_folders.proofs.NameLaws.{letters_16, before_open, stem_is}
use Rattle.share_folders.proofs.names.read_owned.Goals as goal

pub returns-in_err-key-clause-only : goal.returns-in_err-key-clause-only
returns-in_err-key-clause-only c = λ key own placed sized is.
    let stem = stem_is c.args.name.now c.in_ok-strip_suffix.field-0.now (named_by key (base32 own)) c.in_ok-strip_suffix.ensures.cases.1 is in
    absurd (rw c.in_err-key.was at (c.split_name.ensures.only key (base32 own) placed (letters_16 own sized.len) stem))

pub returns-then-not-from_base32-clause-only : goal.returns-then-not-from_base32-clause-only
returns-then-not-from_base32-clause-only c = λ key own placed sized is.
    let stem = stem_is c.args.name.now c.in_ok-strip_suffix.field-0.now (named_by key (base32 own)) c.in_ok-strip_suffix.ensures.cases.1 is in
    let text : c.in_ok-key.own_text.now ≡ base32 own = rw c.in_ok-key.was at (c.split_name.ensures.only key (base32 own) placed (letters_16 own sized.len) stem) in
    let yes = (c.from_base32.ensures.only own sized text).0 in
    search rules

pub returns-clause-value : goal.returns-clause-value
returns-clause-value c =
    before_open c.args.name.now c.in_ok-strip_suffix.field-0.now c.in_ok-strip_suffix.ensures.cases.0 c.in_ok-strip_suffix.ensures.cases.1
    ∙ ap (λ (xs : List ℕ). xs ++ codes ".open") (c.in_ok-key.ensures.value ∙ ap (named_by c.in_ok-key.key) c.if-not-from_base32.ensures.spells.1)
