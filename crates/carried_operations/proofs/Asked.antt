-- What a fetch asks, at its positions.
use Rattle.lemmas.proofs.Positions.{get_map, got}
use Rattle.std.proofs.Common.{◌≡◌, ℕ, ◌+◌, ◌<◌, List, [], ◌∷◌, ◌++◌, Some, map, refl, sym, subst, ap, ◌∙◌, append_assoc, zero-add, arith}
use Rattle.std.specs.Prelude.{slice_get}
use Rattle.std.specs.List.{range_with_len}
use Rattle.std.proofs.lemmas.List.{append-nil}
use Rattle.std.proofs.lemmas.Option.{same_Some}
use Rattle.std.proofs.lemmas.List.FromFn.{get_or-range_with_len, length-range_with_len, map-range_with_len_more}
use Rattle.request_record.specs.declared.requests.Asked.{Asked}
use Rattle.request_record.specs.declared.requests.Request.{Request}
use Rattle.wire.specs.declared.message.Message.{Message}
use Rattle.wire.specs.declared.message.Body.TheVariants.{Data}
use Rattle.request_record.specs.declared.requests.Outcome.TheVariants.{Answered}
use Rattle.request_record.specs.Asking.{after_message, after_tick, fresh}
use Rattle.request_record.specs.Follow.{Follows, IsSaid, Nothing, Said}
use Rattle.request_record.specs.Kept.{IsDataAt}
use Rattle.request_record.proofs.FollowLaws.{follows_message, follows_tick}
use Rattle.request_record.specs.Record.{RequestsState, asked_all, asked_more, first_request}
use Rattle.request_record.proofs.StepLaws.{asked_joined}
use Rattle.carried_operations.specs.Fetches.{AreAsked, IsAskedAt, IsReadBy}
use Rattle.carried_operations.specs.Ranges.{read_at, read_count, reads_of}
use Rattle.carried_operations.specs.declared.range.ShareRange.{ShareRange}

-- the requests of a record that asked these one after another
entries_asked : (asks : List (ℕ × Asked)) (r : RequestsState) → (asked_all asks r).entries ≡ r.entries ++ map (λ (ask : ℕ × Asked). first_request ask.0 ask.1 r.clock) asks
entries_asked [] r = sym (append-nil r.entries)
entries_asked (ask ∷ asks) r = entries_asked asks (asked_more ask.0 ask.1 r) ∙ append_assoc r.entries (first_request ask.0 ask.1 r.clock ∷ []) (map (λ (a : ℕ × Asked). first_request a.0 a.1 r.clock) asks)

-- the first so many reads of a range
abbrev pub first_reads : ShareRange → ℕ → List (ℕ × Asked)
first_reads r n = map (λ number. (r.place.server, read_at r number)) (range_with_len 0 n)

-- one more read is asked
pub asked_next : (r : ShareRange) (n session now : ℕ) (old new : RequestsState) → old ≡ asked_all (first_reads r n) (fresh session now) → new ≡ asked_more r.place.server (read_at r n) old
    → new ≡ asked_all (first_reads r (n + 1)) (fresh session now)
asked_next r n session now old new was is =
    let one : List (ℕ × Asked) = (r.place.server, read_at r n) ∷ [] in
    let more : first_reads r (n + 1) ≡ first_reads r n ++ one = map-range_with_len_more (λ number. (r.place.server, read_at r number)) 0 n n (omega arith) in
    is ∙ ap (asked_more r.place.server (read_at r n)) was ∙ sym (asked_joined (first_reads r n) one (fresh session now)) ∙ ap (λ (l : List (ℕ × Asked)). asked_all l (fresh session now)) (sym more)

-- a range of numbers has each at its position
nth : (a n i : ℕ) → i < n → slice_get (range_with_len a n) i ≡ Some (a + i)
nth a n i here = got (range_with_len a n) i (a + i) (rw length-range_with_len here) (sym (get_or-range_with_len a n i (a + i) here))

-- all reads are asked, each at its position
pub asked_reads : (r : ShareRange) (session now : ℕ) (s : RequestsState) → s ≡ asked_all (reads_of r) (fresh session now) → AreAsked r s.entries
asked_reads r session now s is number here =
    let make : ℕ → Request = λ n. first_request r.place.server (read_at r n) now in
    let asks = reads_of r in
    let one : slice_get (range_with_len 0 (read_count r.length)) number ≡ Some number = nth 0 (read_count r.length) number here ∙ ap (λ (n : ℕ). Some n) (zero-add number) in
    let two : slice_get asks number ≡ Some (r.place.server, read_at r number) = get_map (λ n. (r.place.server, read_at r n)) (range_with_len 0 (read_count r.length)) number number one in
    let three : slice_get s.entries number ≡ Some (make number) = ap (λ (x : RequestsState). slice_get x.entries number) is ∙ ap (λ (l : List Request). slice_get l number) (entries_asked asks (fresh session now)) ∙ get_map (λ (ask : ℕ × Asked). first_request ask.0 ask.1 now) asks number (r.place.server, read_at r number) two in
    record { request = make number; there = three; server = refl; asked = refl }

-- what was asked stays asked
pub asked_still : (New : Said) (r : ShareRange) (old new : RequestsState) → Follows New old new → AreAsked r old.entries → AreAsked r new.entries
asked_still New r old new f all number here =
    let was = all number here in
    let is = f.keeps number was.request was.there in
    record { request = is.request; there = is.at; server = is.server ∙ was.server; asked = is.asked ∙ was.asked }

-- how the record goes on after a message, and after a tick
pub follows_heard : (from now : ℕ) (m : Message) (old new : RequestsState) → new ≡ after_message from m now old → Follows (IsSaid from m old.session) old new
follows_heard from now m old new is = subst (Follows (IsSaid from m old.session) old) (sym is) (follows_message from now m old)

pub follows_ticked : (now : ℕ) (old new : RequestsState) → new ≡ after_tick now old → Follows Nothing old new
follows_ticked now old new is = subst (Follows Nothing old) (sym is) (follows_tick now old)

-- a read that was asked and answered
pub read_by : (r : ShareRange) (entries : List Request) (number : ℕ) (bytes : List ℕ) → IsAskedAt r entries number → IsDataAt entries number bytes → IsReadBy r entries number bytes
read_by r entries number bytes a d =
    let same : a.request ≡ d.request = same_Some a.request d.request (sym a.there ∙ d.there) in
    record { request = a.request; there = a.there; server = a.server; asked = a.asked; answer = ap (λ (q : Request). q.outcome) same ∙ d.answer }

pub read_has : (r : ShareRange) (entries : List Request) (number : ℕ) (bytes : List ℕ) → IsReadBy r entries number bytes → IsDataAt entries number bytes
read_has r entries number bytes b = record { request = b.request; there = b.there; answer = b.answer }

-- a read was answered by these bytes alone
pub one_answer : (entries : List Request) (number : ℕ) (bytes others : List ℕ) → IsDataAt entries number bytes → IsDataAt entries number others → bytes ≡ others
one_answer entries number bytes others a b =
    let same : a.request ≡ b.request = same_Some a.request b.request (sym a.there ∙ b.there) in
    let is : Answered (Data bytes) ≡ Answered (Data others) = sym a.answer ∙ ap (λ (q : Request). q.outcome) same ∙ b.answer in
    cc
