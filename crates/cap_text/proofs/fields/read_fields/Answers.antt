use Rattle.std.proofs.Common.{length, refl, ap, rules}
use Rattle.std.proofs.lemmas.Bool.{false≢true}
use Rattle.cap_text.proofs.FieldLemmas.{has_base32, no_numbers, are_numbers, fields_join}
use Rattle.cap_text.proofs.fields.read_fields.Goals as goal

pub returns-in_default-read_decimal : goal.returns-in_default-read_decimal
returns-in_default-read_decimal c =
    let same = c.in-Some.ensures in (
      ap length same,
      has_base32 c.args.text.now _ _ _ _ _ same (_, c.if-not-from_base32.ensures.spells.0, c.if-not-from_base32.ensures.spells.1)
          (_, c.if-not-from_base32-2.ensures.spells.0, c.if-not-from_base32-2.ensures.spells.1),
      no_numbers c.args.text.now _ _ _ _ _ same (λ needed _ _. c.in_default-read_decimal.ensures.none needed),
    )

pub returns-in_default-read_decimal-2 : goal.returns-in_default-read_decimal-2
returns-in_default-read_decimal-2 c =
    let same = c.in-Some.ensures in (
      ap length same,
      has_base32 c.args.text.now _ _ _ _ _ same (_, c.if-not-from_base32.ensures.spells.0, c.if-not-from_base32.ensures.spells.1)
          (_, c.if-not-from_base32-2.ensures.spells.0, c.if-not-from_base32-2.ensures.spells.1),
      no_numbers c.args.text.now _ _ _ _ _ same (λ _ total _. c.in_default-read_decimal-2.ensures.none total),
    )

pub returns-in_default-read_decimal-3 : goal.returns-in_default-read_decimal-3
returns-in_default-read_decimal-3 c =
    let same = c.in-Some.ensures in (
      ap length same,
      has_base32 c.args.text.now _ _ _ _ _ same (_, c.if-not-from_base32.ensures.spells.0, c.if-not-from_base32.ensures.spells.1)
          (_, c.if-not-from_base32-2.ensures.spells.0, c.if-not-from_base32-2.ensures.spells.1),
      no_numbers c.args.text.now _ _ _ _ _ same (λ _ _ size. c.in_default-read_decimal-3.ensures.none size),
    )

pub returns-then-not-are_parameters : goal.returns-then-not-are_parameters
returns-then-not-are_parameters c =
    let same = c.in-Some.ensures in (
      ap length same,
      has_base32 c.args.text.now _ _ _ _ _ same (_, c.if-not-from_base32.ensures.spells.0, c.if-not-from_base32.ensures.spells.1)
          (_, c.if-not-from_base32-2.ensures.spells.0, c.if-not-from_base32-2.ensures.spells.1),
      (
        c.in-Some-read_decimal.needed,
        c.in-Some-read_decimal-2.total,
        c.in-Some-read_decimal-3.size,
        are_numbers c.args.text.now _ _ _ _ _ _ _ _ same (search rules) (search rules) (search rules)
            c.in-Some-read_decimal.ensures.value c.in-Some-read_decimal-2.ensures.value c.in-Some-read_decimal-3.ensures.value,
        λ fit. false≢true (c.if-not-are_parameters.ensures.1 fit),
      ),
    )

pub returns : goal.returns
returns c =
    let same = c.in-Some.ensures in (
      record {
        first = c.if-not-from_base32.ensures.spells.0;
        ueb_hash = c.if-not-from_base32-2.ensures.spells.0;
        parameters = c.if-not-are_parameters.ensures.0 refl;
      },
      fields_join c.args.text.now _ _ _ _ _ _ same c.if-not-from_base32.ensures.spells.1 c.if-not-from_base32-2.ensures.spells.1
          c.in-Some-read_decimal.ensures.value c.in-Some-read_decimal-2.ensures.value c.in-Some-read_decimal-3.ensures.value,
    )
