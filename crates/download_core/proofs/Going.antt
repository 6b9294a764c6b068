-- How a download goes on, step by step.
use Rattle.std.proofs.Common.{◌≡◌, ℕ, ◌/◌, ◌<◌, ◌≤◌, ◌⊎◌, inl, inr, arith, List, [], ◌++◌, length, Option, Some, None, refl, sym, ap, subst, ◌∙◌}
use Rattle.std.specs.Prelude.{slice_get, slice_index_or}
use Rattle.std.proofs.lemmas.Bool.{cases_lt}
use Rattle.std.proofs.lemmas.Option.{slice_get-get_or, slice_get_within}
use Rattle.std.proofs.lemmas.List.{append-nil, append_assoc}
use Rattle.cap_text.specs.Cap.{ReadCapValue, VerifyCapValue, verify_cap_of}
use Rattle.ueb.specs.Shape.{Contents}
use Rattle.share_layout.specs.Geometry.{Geometry}
use Rattle.request_record.specs.declared.requests.Request.{Request}
use Rattle.request_record.specs.Record.{RequestsState, asked_all}
use Rattle.download_shares.specs.declared.holding.Blame.{Blame}
use Rattle.download_shares.proofs.Records.{AskedAlike, StaysTo, stays_asked}
use Rattle.placement.proofs.Members.{Contains-nil}
use Rattle.download_shares.specs.Causes.{AddsBlames, IsOpeningFault, IsOtherHeader}
use Rattle.download_shares.specs.BeginningMoves.{GoesOn, IsBlockAt}
use Rattle.download_shares.specs.Reads.{AddsReads, IsInBeginning}
use Rattle.download_shares.specs.Opening.{IsToldOf, nobody}
use Rattle.download_shares.specs.declared.beginnings.News.{News}
use Rattle.download_shares.specs.declared.beginnings.News.TheVariants as news
use Rattle.download_shares.specs.BeginningState.{BeginningsState}
use Rattle.download_shares.proofs.Caused.{reads_none, reads_trans}
use Rattle.download_shares.proofs.Opened.{goes_none, goes_trans}
use Rattle.download_segments.specs.declared.piece.Piece.{Piece}
use Rattle.download_segments.specs.State.{HandoutState}
use Rattle.share_reading.specs.declared.block.Opened.{Opened}
use Rattle.download_file.specs.Answers as file
use Rattle.download_file.specs.Answers.{AnsweredWith, IsRead}
use Rattle.download_file.specs.Hashed.{IsHashedWith}
use Rattle.download_file.specs.Tested.{IsTested}
use Rattle.download_file.proofs.GivenLemmas.{hashed_stay}
use Rattle.download_file.proofs.TestedLemmas.{tested_stay}
use Rattle.download_file.specs.State.{FileState, new_file}
use Rattle.download_file.proofs.GrowLemmas.{given_keep, same_itself, same_two}
use Rattle.download_core.specs.Reading.{AreReading}
use Rattle.download_core.specs.ReadingState.{ReadingState}
use Rattle.download_core.specs.ReadingSteps.{AddsPieces, Continues}
use Rattle.download_file.specs.Asked.{IsPlannedRead}
use Rattle.download_core.proofs.Awaited.{goes_stays}
use Rattle.download_core.specs.declared.state.FoundFile.{FoundFile}
use Rattle.download_core.specs.declared.state.Machine.{Machine}
use Rattle.download_core.specs.declared.status.DownloadStatus.{DownloadStatus}
use Rattle.download_core.specs.declared.status.DownloadStatus.TheVariants.{Running}
use Rattle.download_core.specs.Given.{IsFileIfFound, IsHead}
use Rattle.download_core.specs.Moves.{IsSame, StaysAccepted}
use Rattle.download_core.specs.Moves as moves
use Rattle.download_core.specs.Hashed.{IsGivenIn}
use Rattle.download_core.specs.Reads.{PlansMore}
use Rattle.download_core.specs.State.{Found, accepted_in, handed_in, ready_in}
use Rattle.download_core.specs.Causes.{IsCause}
use Rattle.download_core.specs.Steps.{AreOpened, FoundGrows, IsFair, IsFor, IsInPhase, IsUnderWay, MovesOn, entries_of, found_of, state_of}
use Rattle.download_core.proofs.FairLemmas.{fair_accepted, fair_grows, fair_on, fair_opened, planned_on, reads_for}
use Rattle.download_core.proofs.Records.{file_stays, keeps_answers}

-- ---- pieces

pub pieces_none : (h : HandoutState) → AddsPieces h h
pieces_none h = record { handed = refl; more = []; ready = sym (append-nil h.ready) }

pub pieces_trans : (x y z : HandoutState) → AddsPieces x y → AddsPieces y z → AddsPieces x z
pieces_trans x y z first second = record {
  handed = second.handed ∙ first.handed;
  more = first.more ++ second.more;
  ready = second.ready ∙ ap (λ (l : List Piece). l ++ second.more) first.ready ∙ append_assoc x.ready first.more second.more;
}

-- ---- the file

pub grows_none : (from : ℕ) (f : Option FoundFile) → FoundGrows from f f
grows_none from None = tt
grows_none from (Some f) = record { position = refl; same = same_itself f.reading.file; pieces = pieces_none f.reading.file.handout }

pub grows_trans : (from : ℕ) (x y z : Option FoundFile) → FoundGrows from x y → FoundGrows from y z → FoundGrows from x z
grows_trans from None None None first second = tt
grows_trans from None None (Some c) first second = second
grows_trans from None (Some b) None first second = absurd second
grows_trans from None (Some b) (Some c) first second = second.pieces.handed ∙ first
grows_trans from (Some a) None z first second = absurd first
grows_trans from (Some a) (Some b) None first second = absurd second
grows_trans from (Some a) (Some b) (Some c) first second = record {
  position = second.position ∙ first.position;
  same = same_two a.reading.file b.reading.file c.reading.file first.same second.same;
  pieces = pieces_trans a.reading.file.handout b.reading.file.handout c.reading.file.handout first.pieces second.pieces;
}

-- ---- what more is read

abbrev reads_planned : FileState → ℕ → ℕ → ℕ → ℕ → Type 0
reads_planned f server share offset len = IsPlannedRead f offset len

pub plans_none : (f : Option Found) (es ns : List Request) → ns ≡ es → PlansMore f es ns
plans_none None es ns same = tt
plans_none (Some f) es ns same = reads_none (reads_planned f.file) es ns same

plans_trans : (from : ℕ) (es ns ms : List Request) (f g : Option FoundFile) → ((i : ℕ) (r : Request) → slice_get ns i ≡ Some r → slice_get ms i ≡ Some r) → FoundGrows from f g
    → ((f ≡ None → g ≡ None) ⊎ (ns ≡ es)) → PlansMore (found_of f) es ns → PlansMore (found_of g) ns ms → PlansMore (found_of g) es ms
plans_trans from es ns ms None None stays grows still first second = tt
plans_trans from es ns ms None (Some g) stays grows (inl none) first second = (let e : Some g ≡ None = none refl in absurd cc)
plans_trans from es ns ms None (Some g) stays grows (inr same) first second = subst (λ (l : List Request). PlansMore (found_of (Some g)) l ms) same second
plans_trans from es ns ms (Some f) None stays grows still first second = absurd grows
plans_trans from es ns ms (Some f) (Some g) stays grows still first second =
    reads_trans (reads_planned g.reading.file) es ns ms stays
    (λ position r share offset len there le asked. planned_on f.reading.file g.reading.file offset len grows.same (first position r share offset len there le asked))
    second

-- as many requests were there before the record went on
pub plans_from : (f : Option Found) (es ns ms : List Request) → AskedAlike es ns → PlansMore f ns ms → PlansMore f es ms
plans_from None es ns ms alike more = tt
plans_from (Some f) es ns ms alike more = λ position r share offset len there le asked. elim (cases_lt position (length ns)) [
  | inl lt ↦ (let w = alike position (slice_index_or ns position r) (slice_get-get_or ns position r lt) in let l = slice_get_within es position w.request w.there in absurd (omega (arith, l, le)))
  | inr ge ↦ more position r share offset len there ge asked
]

-- ---- the whole

pub moves_none : (m : Machine) → MovesOn m m
moves_none m = record { cap = refl; verify = refl; from_is = refl; to_is = refl; goes = goes_none m.beginnings m.beginnings refl refl; found = grows_none m.from m.found; file = λ k. k; fair = λ k. k; later = plans_none (found_of m.found) (entries_of m) (entries_of m) refl }

-- an extension block is found by a step before which nothing more was asked
pub moves_trans : (x y z : Machine) → MovesOn x y → MovesOn y z → ((y.found ≡ None → z.found ≡ None) ⊎ (entries_of y ≡ entries_of x)) → MovesOn x z
moves_trans x y z first second still = record {
  cap = second.cap ∙ first.cap;
  verify = second.verify ∙ first.verify;
  from_is = second.from_is ∙ first.from_is;
  to_is = second.to_is ∙ first.to_is;
  goes = goes_trans x.beginnings y.beginnings z.beginnings first.goes second.goes;
  found = grows_trans x.from x.found y.found z.found first.found (subst (λ (n : ℕ). FoundGrows n y.found z.found) first.from_is second.found);
  file = λ k. second.file (first.file k);
  fair = λ k. second.fair (first.fair k);
  later = plans_trans y.from (entries_of x) (entries_of y) (entries_of z) y.found z.found (goes_stays y.beginnings z.beginnings second.goes) second.found still first.later second.later;
}

stays_on : (s t : BeginningsState) → GoesOn s t → StaysTo s.holdings.requests.entries t.holdings.requests.entries
stays_on s t goes = subst (λ (r : RequestsState). StaysTo s.holdings.requests.entries r.entries) (sym goes.requests) (stays_asked goes.asks s.holdings.requests)

-- shares are opened
pub moves_asked : (m : Machine) (t : BeginningsState) → GoesOn m.beginnings t → AddsBlames (IsOpeningFault (verify_cap_of m.cap) (entries_of m)) m.beginnings.holdings.blamed t.holdings.blamed
    → AddsBlames (λ b. b.share < m.cap.total) m.beginnings.holdings.blamed t.holdings.blamed
    → AddsReads (IsInBeginning t.holdings.requests.entries) (entries_of m) t.holdings.requests.entries → m.found ≡ None → MovesOn m (record m { beginnings = t })
moves_asked m t goes blames low reads none = record {
  cap = refl;
  verify = refl;
  from_is = refl;
  to_is = refl;
  goes = goes;
  found = grows_none m.from m.found;
  file = λ k. file_stays m.cap m.from m.to (entries_of m) t.holdings.requests.entries (found_of m.found) (stays_on m.beginnings t goes) k;
  fair = λ k.
      let cap = verify_cap_of m.cap in
      subst (λ (f : Option FoundFile). IsFair cap t (found_of f)) (sym none)
      (fair_opened cap m.beginnings t goes blames low reads (subst (λ (f : Option FoundFile). IsFair cap m.beginnings (found_of f)) none k));
  later = subst (λ (f : Option FoundFile). PlansMore (found_of f) (entries_of m) t.holdings.requests.entries) (sym none) tt;
}

-- a file goes on
pub moves_read : (m : Machine) (f : FoundFile) (t : BeginningsState) (r : ReadingState) → m.found ≡ Some f → Continues m.beginnings f.reading t r
    → AddsBlames (IsCause (verify_cap_of m.cap) t.holdings.requests.entries (found_of (Some (record f { reading = r })))) m.beginnings.holdings.blamed t.holdings.blamed → MovesOn m (record m { beginnings = t; found = Some (record f { reading = r }) })
moves_read m f t r is on blames = record {
  cap = refl;
  verify = refl;
  from_is = refl;
  to_is = refl;
  goes = on.goes;
  found = subst (λ (o : Option FoundFile). FoundGrows m.from o (Some (record f { reading = r }))) (sym is) (record { position = refl; same = on.same; pieces = on.pieces });
  file = λ k. file (subst (λ (o : Option FoundFile). IsFileIfFound m.cap m.from m.to (entries_of m) (found_of o)) is k);
  fair = λ k. fair (subst (λ (o : Option FoundFile). IsFair (verify_cap_of m.cap) m.beginnings (found_of o)) is k);
  later = λ position q share offset len there le asked. planned_on f.reading.file r.file offset len on.same (on.reads position q share offset len there le asked);
}
  where
    fair : IsFair (verify_cap_of m.cap) m.beginnings (found_of (Some f)) → IsFair (verify_cap_of m.cap) t (found_of (Some (record f { reading = r })))
    fair k =
        let old : Found = record { position = f.position; file = f.reading.file } in
        let new : Found = record { position = f.position; file = r.file } in
        fair_grows (verify_cap_of m.cap) m.beginnings t (Some new) on.goes blames
        (reads_for t.holdings.requests.entries new (entries_of m) t.holdings.requests.entries
        (λ position q share offset len there le asked. planned_on f.reading.file r.file offset len on.same (on.reads position q share offset len there le asked)))
        (fair_on (verify_cap_of m.cap) m.beginnings old new on.same k)

    file : IsFileIfFound m.cap m.from m.to (entries_of m) (found_of (Some f)) → IsFileIfFound m.cap m.from m.to t.holdings.requests.entries (found_of (Some (record f { reading = r })))
    file k =
        let more = file_stays m.cap m.from m.to (entries_of m) t.holdings.requests.entries (found_of (Some f)) (stays_on m.beginnings t on.goes) k in
        record {
          head = subst (λ (u : Contents). IsHead (verify_cap_of m.cap) t.holdings.requests.entries f.position u) (sym on.same.ueb) more.head;
          key = on.same.key ∙ k.key;
          first = on.same.first ∙ k.first ∙ ap (λ (g : Geometry). m.from / g.segment_size) (sym on.same.geometry);
          to_is = on.same.to ∙ k.to_is;
          answers = on.answers k.answers;
        }

-- an extension block is accepted
moves_found : (m : Machine) (t : BeginningsState) (g : FoundFile) → m.found ≡ None → GoesOn m.beginnings t → g.reading.file.handout.handed ≡ m.from
    → t.holdings.requests ≡ m.beginnings.holdings.requests → AddsBlames (IsOtherHeader g.reading.file.handout.geometry (entries_of m)) m.beginnings.holdings.blamed t.holdings.blamed
    → m.cap.total ≡ g.reading.file.handout.geometry.total → AddsBlames (λ b. b.share < m.cap.total) m.beginnings.holdings.blamed t.holdings.blamed
    → IsFileIfFound m.cap m.from m.to t.holdings.requests.entries (found_of (Some g)) → MovesOn m (record m { beginnings = t; found = Some g })
moves_found m t g is goes handed same blames total low file = record {
  cap = refl;
  verify = refl;
  from_is = refl;
  to_is = refl;
  goes = goes;
  found = subst (λ (o : Option FoundFile). FoundGrows m.from o (Some g)) (sym is) handed;
  file = λ k. file;
  fair = λ k. fair_accepted (verify_cap_of m.cap) m.beginnings t g.reading.file.handout.geometry (record { position = g.position; file = g.reading.file }) goes same refl total blames low
      (subst (λ (f : Option FoundFile). IsFair (verify_cap_of m.cap) m.beginnings (found_of f)) is k);
  later = plans_none (found_of (Some g)) (entries_of m) t.holdings.requests.entries (ap (λ (r : RequestsState). r.entries) same);
}

-- ---- while it runs

-- a file is read on
pub read_on : (m : Machine) (f : FoundFile) (t : BeginningsState) (r : ReadingState) → m.found ≡ Some f → IsFor m → IsFileIfFound m.cap m.from m.to (entries_of m) (found_of m.found)
    → Continues m.beginnings f.reading t r → AddsBlames (IsCause (verify_cap_of m.cap) t.holdings.requests.entries (found_of (Some (record f { reading = r })))) m.beginnings.holdings.blamed t.holdings.blamed → AreReading t r → IsUnderWay (record m { beginnings = t; found = Some (record f { reading = r }) })
read_on m f t r is wanted file on blames reading = record {
  wanted = record { verify = wanted.verify; some = wanted.some; inside = wanted.inside };
  file = (moves_read m f t r is on blames).file file;
  phase = reading;
}

-- shares are opened on
pub opened_on : (m : Machine) (t : BeginningsState) → m.found ≡ None → IsFor m → AreOpened m.cap.total nobody t → IsUnderWay (record m { beginnings = t })
opened_on m t is wanted opened = record {
  wanted = record { verify = wanted.verify; some = wanted.some; inside = wanted.inside };
  file = subst (λ (f : Option FoundFile). IsFileIfFound m.cap m.from m.to t.holdings.requests.entries (found_of f)) (sym is) tt;
  phase = subst (λ (f : Option FoundFile). IsInPhase m.cap.total t f) (sym is) opened;
}

-- it is for the same
pub for_on : (m n : Machine) → MovesOn m n → IsFor m → IsFor n
for_on m n on wanted = record {
  verify = on.verify ∙ wanted.verify ∙ ap verify_cap_of (sym on.cap);
  some = (let lt = wanted.some in let f = on.from_is in let t = on.to_is in omega (arith, lt, f, t));
  inside = subst (λ (c : ReadCapValue). n.to ≤ c.size) (sym on.cap) (let le = wanted.inside in let t = on.to_is in omega (arith, le, t));
}

-- nothing came to the shares that are opened
pub opened_still : (total : ℕ) (s : BeginningsState) (told : News) → ((holding position : ℕ) → told ≡ news.Beginning holding position → ⊥) → AreOpened total (IsToldOf told) s → AreOpened total nobody s
opened_still total s news.Nothing other k = record { known = k.known; opening = k.opening; count = k.count }
opened_still total s (news.Gone holding) other k = record { known = k.known; opening = k.opening; count = k.count }
opened_still total s (news.Bytes holding position) other k = record { known = k.known; opening = k.opening; count = k.count }
opened_still total s (news.Beginning holding position) other k = absurd (other holding position refl)

-- an extension block is accepted, and nothing of its file is read yet
module _ (m : Machine) (t : BeginningsState) (position : ℕ) (o : Opened) (r : ReadingState) (none : m.found ≡ None) (wanted : IsFor m) (block : IsBlockAt m.verify (entries_of m) position o)
    (goes : GoesOn m.beginnings t) (same : t.holdings.requests ≡ m.beginnings.holdings.requests) (file : r.file ≡ new_file m.cap.key o.ueb o.geometry m.from m.to) where
  head : IsHead (verify_cap_of m.cap) t.holdings.requests.entries position o.ueb
  head = subst (λ (q : RequestsState). IsHead (verify_cap_of m.cap) q.entries position o.ueb) (sym same)
      (subst (λ (c : VerifyCapValue). IsHead c (entries_of m) position o.ueb) wanted.verify
      (record { request = block.request; there = block.there; share = block.share; offset = block.offset; len = block.len; asked = block.asked; text = block.text; answer = block.answer; whole = block.whole; block = block.block }))

  nothing_read : IsRead t.holdings.requests.entries (new_file m.cap.key o.ueb o.geometry m.from m.to)
  nothing_read = record {
    held = λ position r at. absurd cc;
    made = λ group number among. absurd (Contains-nil group among);
    ready = λ p among. absurd (Contains-nil p among);
  }

  file_of : IsFileIfFound m.cap m.from m.to t.holdings.requests.entries (found_of (Some (record { position = position; reading = r })))
  file_of = record {
    head = subst (λ (f : FileState). IsHead (verify_cap_of m.cap) t.holdings.requests.entries position f.handout.ueb) (sym file) head;
    key = ap (λ (f : FileState). f.handout.key) file;
    first = ap (λ (f : FileState). f.first) file ∙ ap (λ (f : FileState). m.from / f.handout.geometry.segment_size) (sym file);
    to_is = ap (λ (f : FileState). f.handout.to) file;
    answers = subst (IsRead t.holdings.requests.entries) (sym file) nothing_read;
  }

  pub found_way : AreReading t r → IsUnderWay (record m { beginnings = t; found = Some (record { position = position; reading = r }) })
  found_way reading = record { wanted = record { verify = wanted.verify; some = wanted.some; inside = wanted.inside }; file = file_of; phase = reading }

  total_is : m.cap.total ≡ o.geometry.total
  total_is = sym (ap (λ (v : VerifyCapValue). v.total) wanted.verify) ∙ sym block.block.total ∙ ap (λ (g : Geometry). g.total) (sym block.geometry)

  pub found_moves : AddsBlames (IsOtherHeader o.geometry (entries_of m)) m.beginnings.holdings.blamed t.holdings.blamed
      → AddsBlames (λ b. b.share < m.cap.total) m.beginnings.holdings.blamed t.holdings.blamed → MovesOn m (record m { beginnings = t; found = Some (record { position = position; reading = r }) })
  found_moves blames low = moves_found m t (record { position = position; reading = r }) none goes (ap (λ (f : FileState). f.handout.handed) file) same
      (subst (λ (f : FileState). AddsBlames (IsOtherHeader f.handout.geometry (entries_of m)) m.beginnings.holdings.blamed t.holdings.blamed) (sym file) blames)
      (total_is ∙ ap (λ (f : FileState). f.handout.geometry.total) (sym file)) low file_of

-- ---- what contracts see of it

head_grows : (from : ℕ) (f g : Option FoundFile) → FoundGrows from f g → StaysAccepted (accepted_in (found_of f)) (accepted_in (found_of g))
head_grows from None g more = tt
head_grows from (Some a) None more = absurd more
head_grows from (Some a) (Some b) more = ap Some more.position

handed_grows : (from : ℕ) (f g : Option FoundFile) → FoundGrows from f g → handed_in from (found_of g) ≡ handed_in from (found_of f)
handed_grows from None None more = refl
handed_grows from None (Some b) more = more
handed_grows from (Some a) None more = absurd more
handed_grows from (Some a) (Some b) more = more.pieces.handed

pub record IsReadier (old new : List Piece) : Type 0 where
  pub more : List Piece
  pub is : new ≡ old ++ more

ready_grows : (from : ℕ) (f g : Option FoundFile) → FoundGrows from f g → IsReadier (ready_in (found_of f)) (ready_in (found_of g))
ready_grows from None None more = record { more = []; is = refl }
ready_grows from None (Some b) more = record { more = b.reading.file.handout.ready; is = refl }
ready_grows from (Some a) None more = absurd more
ready_grows from (Some a) (Some b) more = record { more = more.pieces.more; is = more.pieces.ready }

-- what was given stays given, where answers stay and the file goes on
given_grows : (from : ℕ) (es ns : List Request) (f g : Option FoundFile) (cap : ReadCapValue) (to : ℕ) → StaysTo es ns → IsFileIfFound cap from to es (found_of f) → FoundGrows from f g
    → (p : Piece) (found : Found) → found_of f ≡ Some found → file.IsGivenBy es found.file p → IsGivenIn ns (found_of g) p
given_grows from es ns None g cap to stays has more p found there given = absurd cc
given_grows from es ns (Some a) None cap to stays has more p found there given = absurd more
given_grows from es ns (Some a) (Some b) cap to stays has more p found there given =
    let same : record { position = a.position; file = a.reading.file } ≡ found = cc in
    let here : file.IsGivenBy es a.reading.file p = subst (λ (x : Found). file.IsGivenBy es x.file p) (sym same) given in
    record {
      found = record { position = b.position; file = b.reading.file };
      there = refl;
      given = more.same.given ns p (given_keep es ns a.reading.file p (keeps_answers es ns stays) has.answers here);
    }

-- what was hashed stays so, where answers stay and the file goes on
pub record HashesStill (ns : List Request) (o : Option Found) (block input : List ℕ) : Type 0 where
  pub found : Found
  pub there : o ≡ Some found
  pub answer : AnsweredWith ns found.position block
  pub hashed : IsHashedWith ns found.file block input

hashed_grows : (from : ℕ) (es ns : List Request) (f g : Option FoundFile) (cap : ReadCapValue) (to : ℕ) → StaysTo es ns → IsFileIfFound cap from to es (found_of f) → FoundGrows from f g
    → (block input : List ℕ) (found : Found) → found_of f ≡ Some found → AnsweredWith es found.position block → IsHashedWith es found.file block input → HashesStill ns (found_of g) block input
hashed_grows from es ns None g cap to stays has more block input found there answer hashed = absurd cc
hashed_grows from es ns (Some a) None cap to stays has more block input found there answer hashed = absurd more
hashed_grows from es ns (Some a) (Some b) cap to stays has more block input found there answer hashed =
    let same : record { position = a.position; file = a.reading.file } ≡ found = cc in
    let here : AnsweredWith es a.position block = subst (λ (x : Found). AnsweredWith es x.position block) (sym same) answer in
    let own : IsHashedWith es a.reading.file block input = subst (λ (x : Found). IsHashedWith es x.file block input) (sym same) hashed in
    record {
      found = record { position = b.position; file = b.reading.file };
      there = refl;
      answer = subst (λ (n : ℕ). AnsweredWith ns n block) (sym more.position)
          (record { request = here.request; there = keeps_answers es ns stays a.position here.request _ here.there here.answer; answer = here.answer });
      hashed = elim own [
        | inl is ↦ inl is
        | inr k ↦ inr (hashed_stay es ns a.reading.file b.reading.file input (keeps_answers es ns stays) has.answers more.same k)
      ];
    }

-- so does what was tested
pub record TestsStill (ns : List Request) (o : Option Found) (input : List ℕ) : Type 0 where
  pub found : Found
  pub there : o ≡ Some found
  pub tested : IsTested ns found.file input

tested_grows : (from : ℕ) (es ns : List Request) (f g : Option FoundFile) (cap : ReadCapValue) (to : ℕ) → StaysTo es ns → IsFileIfFound cap from to es (found_of f) → FoundGrows from f g
    → (input : List ℕ) (found : Found) → found_of f ≡ Some found → IsTested es found.file input → TestsStill ns (found_of g) input
tested_grows from es ns None g cap to stays has more input found there tested = absurd cc
tested_grows from es ns (Some a) None cap to stays has more input found there tested = absurd more
tested_grows from es ns (Some a) (Some b) cap to stays has more input found there tested =
    let same : record { position = a.position; file = a.reading.file } ≡ found = cc in
    let own : IsTested es a.reading.file input = subst (λ (x : Found). IsTested es x.file input) (sym same) tested in
    record {
      found = record { position = b.position; file = b.reading.file };
      there = refl;
      tested = tested_stay es ns a.reading.file b.reading.file input (keeps_answers es ns stays) has.answers more.same own;
    }

-- what a download is for stays, where its record went on before
pub same_on : (m n : Machine) (t : BeginningsState) (status ended : DownloadStatus) → t.holdings.blamed ≡ m.beginnings.holdings.blamed → StaysTo (entries_of m) t.holdings.requests.entries
    → IsFileIfFound m.cap m.from m.to (entries_of m) (found_of m.found) → MovesOn (record m { beginnings = t }) n
    → (servers : List ℕ) → IsSame (state_of m servers status) (state_of n servers ended)
same_on m n t status ended blamed stays file on servers =
    let ready = ready_grows m.from m.found n.found on.found in
    record {
      cap = on.cap;
      range = (on.from_is, on.to_is);
      servers = refl;
      given = ap (λ (from : ℕ). handed_in from (found_of n.found)) on.from_is ∙ handed_grows m.from m.found n.found on.found;
      more = ready.more;
      made = ready.is;
      others = on.goes.more;
      blamed = on.goes.blamed ∙ ap (λ (l : List Blame). l ++ on.goes.more) blamed;
      head = head_grows m.from m.found n.found on.found;
      stays = λ p g.
          let k = given_grows m.from (entries_of m) (entries_of n) m.found n.found m.cap m.to (λ i r there quiet. stays_on t n.beginnings on.goes i r (stays i r there quiet) quiet)
          file on.found p g.found g.there g.given in
          record { found = k.found; there = k.there; given = k.given };
      hashed = λ input h.
          let k = hashed_grows m.from (entries_of m) (entries_of n) m.found n.found m.cap m.to (λ i r there quiet. stays_on t n.beginnings on.goes i r (stays i r there quiet) quiet)
          file on.found h.block input h.found h.there h.answer h.hashed in
          record { found = k.found; there = k.there; block = h.block; answer = k.answer; hashed = k.hashed };
      tested = λ input was.
          let k = tested_grows m.from (entries_of m) (entries_of n) m.found n.found m.cap m.to (λ i r there quiet. stays_on t n.beginnings on.goes i r (stays i r there quiet) quiet)
          file on.found input was.found was.there was.tested in
          record { found = k.found; there = k.there; tested = k.tested };
    }

-- a download that runs goes on from a record
pub goes_on : (m n : Machine) (t : BeginningsState) (r : RequestsState) (status ended : DownloadStatus) → t.holdings.requests ≡ r → t.holdings.blamed ≡ m.beginnings.holdings.blamed
    → StaysTo (entries_of m) t.holdings.requests.entries → IsFileIfFound m.cap m.from m.to (entries_of m) (found_of m.found) → status ≡ Running
    → MovesOn (record m { beginnings = t }) n → (servers : List ℕ) → moves.GoesOn r (state_of m servers status) (state_of n servers ended)
goes_on m n t r status ended requests blamed stays file running on servers = record {
  same = same_on m n t status ended blamed stays file on servers;
  asks = on.goes.asks;
  requests = on.goes.requests ∙ ap (asked_all on.goes.asks) requests;
  later = subst (λ (x : RequestsState). PlansMore (found_of n.found) x.entries (entries_of n)) requests on.later;
  ended = λ other. absurd (other running);
}

-- nothing changes but the record
pub stands_still : (m : Machine) (t : BeginningsState) (r : RequestsState) (status : DownloadStatus) → t.holdings.requests ≡ r → t.holdings.blamed ≡ m.beginnings.holdings.blamed
    → StaysTo (entries_of m) t.holdings.requests.entries → IsFileIfFound m.cap m.from m.to (entries_of m) (found_of m.found)
    → (servers : List ℕ) → moves.GoesOn r (state_of m servers status) (state_of (record m { beginnings = t }) servers status)
stands_still m t r status requests blamed stays file servers =
    subst (λ (x : RequestsState). moves.GoesOn x (state_of m servers status) (state_of (record m { beginnings = t }) servers status)) requests
    (record {
      same = same_on m (record m { beginnings = t }) t status status blamed stays file (moves_none (record m { beginnings = t })) servers;
      asks = [];
      requests = refl;
      later = plans_none (found_of m.found) t.holdings.requests.entries t.holdings.requests.entries refl;
      ended = λ other. ended;
    })
  where
    ended : state_of (record m { beginnings = t }) servers status ≡ record (state_of m servers status) { requests = t.holdings.requests }
    ended = ap (λ (l : List Blame). record (state_of m servers status) { requests = t.holdings.requests; blamed = l }) blamed
