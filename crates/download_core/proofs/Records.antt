-- What stays true as the record goes on.
use Rattle.std.proofs.Common.{◌≡◌, ℕ, zero, suc, ◌+◌, ◌<◌, Bool, true, false, cond, List, [], ◌∷◌, map, max, Option, Some, None, refl, sym, ap, subst, ◌∙◌, arith}
use Rattle.std.specs.Prelude.{slice_get}
use Rattle.std.proofs.lemmas.List.Sums.{sum_by-cons}
use Rattle.cap_text.specs.Cap.{ReadCapValue, VerifyCapValue, verify_cap_of}
use Rattle.ueb.specs.Shape.{Contents}
use Rattle.wire.specs.declared.message.Message.{Message}
use Rattle.request_record.specs.declared.requests.Request.{Request}
use Rattle.request_record.specs.Record.{RequestsState, counts_at, is_outstanding, outstanding_count, ticked_one}
use Rattle.request_record.specs.Asking.{after_message, after_tick}
use Rattle.request_record.proofs.RecordLaws.{counts_is}
use Rattle.download_shares.proofs.Records.{AskedAlike, StaysTo, alike_message, alike_tick, stays_message, stays_tick, uncounted}
use Rattle.download_file.specs.Answers.{KeepsAnswers}
use Rattle.download_file.proofs.GrowLemmas.{inconsistent_keeps, reads_keep}
use Rattle.download_core.specs.Ends.{HasNoCodeWord}
use Rattle.download_core.specs.Given.{IsFileIfFound, IsHead}
use Rattle.download_core.specs.State.{Found}

-- ---- nothing is outstanding

-- one request waits or not
abbrev waiting_one : Request → ℕ
waiting_one r = cond (is_outstanding r.outcome) 1 0

count_cons : (r : Request) (rs : List Request) → outstanding_count (r ∷ rs) ≡ waiting_one r + outstanding_count rs
count_cons r rs = sum_by-cons waiting_one r rs

-- one that waits is counted
pub some_waits : (es : List Request) (i : ℕ) (r : Request) → slice_get es i ≡ Some r → is_outstanding r.outcome ≡ true → 0 < outstanding_count es
some_waits [] i r e waits = absurd cc
some_waits (x ∷ xs) zero r e waits =
    let one : x ≡ r = cc in
    let k : waiting_one x ≡ 1 = ap waiting_one one ∙ ap (λ (b : Bool). cond b 1 0) waits in
    omega (arith, k, count_cons x xs)
some_waits (x ∷ xs) (suc i) r e waits = let k = some_waits xs i r e waits in omega (arith, k, count_cons x xs)

no_one : (r : Request) → waiting_one r ≡ 0 → is_outstanding r.outcome ≡ false
no_one r none = by (is_outstanding r.outcome) refl
  where
    by : (b : Bool) → is_outstanding r.outcome ≡ b → b ≡ false
    by true e = (let one : waiting_one r ≡ 1 = ap (λ (c : Bool). cond c 1 0) e in absurd (omega (arith, one, none)))
    by false e = refl

one_quiet : (now : ℕ) (r : Request) → is_outstanding r.outcome ≡ false → ticked_one now r ≡ r
one_quiet now r quiet = rw quiet refl

quiet_ticked : (now : ℕ) (es : List Request) → outstanding_count es ≡ 0 → map (ticked_one now) es ≡ es
quiet_ticked now [] none = refl
quiet_ticked now (x ∷ xs) none =
    let c = count_cons x xs in
    let head : ticked_one now x ≡ x = one_quiet now x (no_one x (omega (arith, c, none))) in
    let tail : map (ticked_one now) xs ≡ xs = quiet_ticked now xs (omega (arith, c, none)) in
    ap (λ (y : Request). y ∷ map (ticked_one now) xs) head ∙ ap (λ (l : List Request). x ∷ l) tail

quiet_message : (from : ℕ) (m : Message) (now : ℕ) (s : RequestsState) → outstanding_count s.entries ≡ 0 → (after_message from m now s).entries ≡ s.entries
quiet_message from m now s none = by (counts_at from m s) refl
  where
    by : (o : Option ℕ) → counts_at from m s ≡ o → (after_message from m now s).entries ≡ s.entries
    by None e = uncounted from m now s e
    by (Some k) e = (let a = counts_is from m s k e in let w = some_waits s.entries k a.request a.there a.waits in absurd (omega (arith, w, none)))

-- ---- what a record that goes on keeps

pub record GoesFrom (es ns : List Request) : Type 0 where
  pub stays : StaysTo es ns
  pub alike : AskedAlike es ns
  pub quiet : outstanding_count es ≡ 0 → ns ≡ es

pub from_message : (from : ℕ) (m : Message) (now : ℕ) (r s : RequestsState) → s ≡ after_message from m now r → GoesFrom r.entries s.entries
from_message from m now r s e =
    subst (λ (x : RequestsState). GoesFrom r.entries x.entries) (sym e)
    (record { stays = stays_message from m now r; alike = alike_message from m now r; quiet = quiet_message from m now r })

pub from_tick : (now : ℕ) (r s : RequestsState) → s ≡ after_tick now r → GoesFrom r.entries s.entries
from_tick now r s e =
    subst (λ (x : RequestsState). GoesFrom r.entries x.entries) (sym e)
    (record { stays = stays_tick now r; alike = alike_tick now r; quiet = quiet_ticked (max r.clock now) r.entries })

pub from_same : (es ns : List Request) → ns ≡ es → GoesFrom es ns
from_same es ns e =
    subst (GoesFrom es) (sym e)
    (record { stays = λ i r there quiet. there; alike = λ i n there. record { request = n; there = there; same = refl; of_server = refl }; quiet = λ none. refl })

-- ---- the file

pub keeps_answers : (es ns : List Request) → StaysTo es ns → KeepsAnswers es ns
keeps_answers es ns stays position r body there answer = stays position r there (ap is_outstanding answer)

pub head_stays : (cap : VerifyCapValue) (es ns : List Request) (position : ℕ) (u : Contents) → StaysTo es ns → IsHead cap es position u → IsHead cap ns position u
head_stays cap es ns position u stays h = record {
  request = h.request;
  there = stays position h.request h.there (ap is_outstanding h.answer);
  share = h.share;
  offset = h.offset;
  len = h.len;
  asked = h.asked;
  text = h.text;
  answer = h.answer;
  whole = h.whole;
  block = h.block;
}

pub file_stays : (cap : ReadCapValue) (from to : ℕ) (es ns : List Request) (f : Option Found) → StaysTo es ns → IsFileIfFound cap from to es f → IsFileIfFound cap from to ns f
file_stays cap from to es ns None stays k = tt
file_stays cap from to es ns (Some f) stays k = record {
  head = head_stays (verify_cap_of cap) es ns f.position f.file.handout.ueb stays k.head;
  key = k.key;
  first = k.first;
  to_is = k.to_is;
  answers = reads_keep es ns f.file (keeps_answers es ns stays) k.answers;
}

pub no_code_stays : (cap : ReadCapValue) (from to : ℕ) (es ns : List Request) (f : Option Found) → StaysTo es ns → IsFileIfFound cap from to es f → HasNoCodeWord es f → HasNoCodeWord ns f
no_code_stays cap from to es ns None stays file k = k
no_code_stays cap from to es ns (Some f) stays file k = (inconsistent_keeps es ns f.file (keeps_answers es ns stays) file.answers k.0, k.1)
