use Rattle.std.proofs.Common.{ℕ, List, Option, Some, None, IfNone}
use Rattle.std.proofs.lemmas.Option.{IfSome_then}
use Rattle.request_record.specs.declared.requests.Request.{Request}
use Rattle.request_record.specs.Kept.{IsDataAt}
use Rattle.download_shares.specs.Reads.{IsAnsweredBy}
use Rattle.download_shares.proofs.answers.bytes_at.Goals as goal

answered_by : (entries : List Request) (position : ℕ) (bytes : List ℕ) → IsDataAt entries position bytes → IsAnsweredBy entries position bytes
answered_by entries position bytes d = record { request = d.request; there = d.there; answer = d.answer }

data_at : (entries : List Request) (position : ℕ) (bytes : List ℕ) → IsAnsweredBy entries position bytes → IsDataAt entries position bytes
data_at entries position bytes a = record { request = a.request; there = a.there; answer = a.answer }

none_then : {X : Type 0} (r : Option X) {P Q : Type 0} → IfNone r P → (P → Q) → IfNone r Q
none_then None p f = f p
none_then (Some x) p f = tt

pub returns-clause-some : goal.returns-clause-some
returns-clause-some c =
    IfSome_then c.bytes_at.result c.bytes_at.ensures.some (λ bytes found. answered_by c.args.requests.now.entries c.args.position bytes.now found)

pub returns-clause-none : goal.returns-clause-none
returns-clause-none c =
    none_then c.bytes_at.result c.bytes_at.ensures.none (λ none bytes found. none bytes (data_at c.args.requests.now.entries c.args.position bytes found))
