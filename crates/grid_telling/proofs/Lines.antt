-- The lines that tell how far a command is are short.
use Rattle.std.proofs.Common.{◌≡◌, ℕ, ◌+◌, ◌^◌, ◌<◌, ◌≤◌, ◌/◌, ◌%◌, List, ◌++◌, length, length-append, arith, lit<}
use Rattle.std.proofs.Common.{Result, Ok, Err, String, Global, IfOk, string_bytes, subst, sym}
use Rattle.std.specs.Prelude.{codes, decimal}
use Rattle.std.proofs.lemmas.Fmt.{length-decimal-le}
use Rattle.grid_telling.specs.ProgressLine.{bytes_line, encoding_line, files_line, left_text}
use Rattle.grid_telling.specs.ProgressLine.{verb_text, waits_text}
use Rattle.grid_faults.specs.Servers.{server_name}
use Rattle.grid_telling.specs.declared.progress_lines.FileCount.{FileCount}
use Rattle.grid_telling.specs.declared.progress_lines.Verb.{Verb}
use Rattle.grid_telling.specs.declared.progress_lines.Verb.TheVariants.{Put, Get, Check}
use Rattle.grid_telling.specs.declared.progress_lines.Verb.TheVariants.{Repair, Scrub, Verify}

-- so many thousand bytes
thousands : (n : ℕ) → n < 2 ^ 64 → length (decimal (n / 1000)) ≤ 17
thousands n fits =
    length-decimal-le 17 (n / 1000) (lit< tt) (omega (arith, fits)) (omega (arith, fits))

-- so many million bytes
millions : (n : ℕ) → n < 2 ^ 64 → length (decimal (n / 1000000)) ≤ 14
millions n fits =
    length-decimal-le 14 (n / 1000000) (lit< tt) (omega (arith, fits)) (omega (arith, fits))

few : (n : ℕ) → n < 2 ^ 32 → length (decimal n) ≤ 10
few n fits = length-decimal-le 10 n (lit< tt) (omega (arith, fits)) (omega (arith, fits))

large : (n : ℕ) → n < 2 ^ 64 → length (decimal n) ≤ 20
large n fits = length-decimal-le 20 n (lit< tt) (omega (arith, fits)) fits

digit : (n : ℕ) → n < 10 → length (decimal n) ≤ 1
digit n fits = length-decimal-le 1 n (lit< tt) (omega (arith, fits)) (omega (arith, fits))

hundreds : (n : ℕ) → n < 2 ^ 16 → length (decimal (n / 100)) ≤ 3
hundreds n fits =
    length-decimal-le 3 (n / 100) (lit< tt) (omega (arith, fits)) (omega (arith, fits))

-- a number among words: all of it is so long
with_number : (word : List ℕ) (n : ℕ) (rest : List ℕ)
    → length (word ++ (decimal n ++ rest)) ≡ length word + (length (decimal n) + length rest)
with_number word n rest = simp (length-append)

verb_short : (verb : Verb) → length (verb_text verb) ≤ 6
verb_short Put = omega arith
verb_short Get = omega arith
verb_short Check = omega arith
verb_short Verify = omega arith
verb_short Repair = omega arith
verb_short Scrub = omega arith

name_short : (n : ℕ) → n < 2 ^ 16 → length (server_name n) ≤ 12
name_short n fits =
    omega (
      arith,
      hundreds n fits,
      digit (n / 10 % 10) (omega arith),
      digit (n % 10) (omega arith),
      with_number (codes "server-") (n / 100) (decimal (n / 10 % 10) ++ decimal (n % 10)),
      length-append (decimal (n / 10 % 10)) (decimal (n % 10)),
    )

pub left_short : (seconds : ℕ) → seconds < 2 ^ 64 → length (left_text seconds) ≤ 29
left_short seconds fits =
    omega (arith, large seconds fits, with_number (codes ", ") seconds (codes " s left"))

pub waits_short : (server : ℕ) → server < 2 ^ 16 → length (waits_text server) ≤ 29
waits_short server fits =
    omega (
      arith,
      name_short server fits,
      length-append (codes ", waiting for ") (server_name server),
    )

pub bytes_short : (verb : Verb) (done total : ℕ) (remark : List ℕ) → done < 2 ^ 64
    → total < 2 ^ 64 → length remark ≤ 29 → length (bytes_line verb done total remark) < 80
bytes_short verb done total remark a b c =
    omega (
      arith,
      verb_short verb,
      thousands done a,
      thousands total b,
      c,
      length-append (verb_text verb) (codes ": " ++ (decimal (done / 1000) ++ (codes " of "
          ++ (decimal (total / 1000) ++ (codes " kB" ++ remark))))),
      with_number (codes ": ") (done / 1000)
          (codes " of " ++ (decimal (total / 1000) ++ (codes " kB" ++ remark))),
      with_number (codes " of ") (total / 1000) (codes " kB" ++ remark),
      length-append (codes " kB") remark,
    )

pub files_short : (verb : Verb) (files : FileCount) (remark : List ℕ) → files.done < 2 ^ 32
    → files.total < 2 ^ 32 → files.bytes < 2 ^ 64 → length remark ≤ 29
    → length (files_line verb files remark) < 80
files_short verb files remark a b c d =
    omega (
      arith,
      verb_short verb,
      few files.done a,
      few files.total b,
      millions files.bytes c,
      d,
      length-append (verb_text verb) (codes " " ++ (decimal files.done ++ (codes " of "
          ++ (decimal files.total ++ (codes ": " ++ (decimal (files.bytes / 1000000)
          ++ (codes " MB" ++ remark))))))),
      with_number (codes " ") files.done (codes " of " ++ (decimal files.total ++ (codes ": "
          ++ (decimal (files.bytes / 1000000) ++ (codes " MB" ++ remark))))),
      with_number (codes " of ") files.total
          (codes ": " ++ (decimal (files.bytes / 1000000) ++ (codes " MB" ++ remark))),
      with_number (codes ": ") (files.bytes / 1000000) (codes " MB" ++ remark),
      length-append (codes " MB") remark,
    )

-- a text that is told is as short as what it is to be
pub told_within : {E : Type 0} (r : Result (String Global) E) (text : List ℕ) (n : ℕ)
    → length text ≤ n → IfOk r (λ s. string_bytes s ≡ text)
    → IfOk r (λ s. length (string_bytes s) ≤ n)
told_within (Ok s) text n low is = subst (λ (t : List ℕ). length t ≤ n) (sym is) low
told_within (Err e) text n low is = tt

pub told_below : {E : Type 0} (r : Result (String Global) E) (text : List ℕ) (n : ℕ)
    → length text < n → IfOk r (λ s. string_bytes s ≡ text)
    → IfOk r (λ s. length (string_bytes s) < n)
told_below (Ok s) text n low is = subst (λ (t : List ℕ). length t < n) (sym is) low
told_below (Err e) text n low is = tt

pub encoding_short : (verb : Verb) (size : ℕ) → size < 2 ^ 64
    → length (encoding_line verb size) < 80
encoding_short verb size a =
    omega (
      arith,
      verb_short verb,
      thousands size a,
      length-append (verb_text verb)
          (codes ": encoding " ++ (decimal (size / 1000) ++ codes " kB")),
      with_number (codes ": encoding ") (size / 1000) (codes " kB"),
    )
