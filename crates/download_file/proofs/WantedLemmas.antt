-- A file of which a reader is asked for more.
use Rattle.std.proofs.Common.{◌≡◌, ◌≢◌, ℕ, ◌+◌, ◌<◌, ◌≤◌, ◌⊎◌, inl, inr, All, Bool, true, false, Contains, List, [], ◌∷◌, ◌++◌, length, get_or, Option, Some, refl, sym, ap, subst, ◌∙◌, arith}
use Rattle.std.specs.Prelude.{slice_get, slice_set}
use Rattle.std.proofs.Math.ListN.{get_or-map}
use Rattle.std.proofs.lemmas.List.{append-nil, length-map, length-set, map-append}
use Rattle.std.proofs.lemmas.List.Elements.{All-append, All-contains, All-weaker}
use Rattle.lemmas.proofs.Options.{one_there}
use Rattle.lemmas.proofs.Positions.{get_set, get_other, set_cases}
use Rattle.lemmas.proofs.Members.{contains_head, contains_tail, contains_map, contains_cases, contains_none}
use Rattle.share_layout.specs.Geometry.{Geometry}
use Rattle.download_parts.specs.PlanLaws.{AreApart}
use Rattle.download_parts.specs.Plan.{IsPlanned, length_of, max_read, offset_of}
use Rattle.download_parts.specs.declared.part.Part.{Part}
use Rattle.download_parts.specs.declared.part.Part.TheVariants.{ShareHashes, BlockTree, CiphertextTree, Data}
use Rattle.download_supply.specs.Asking.{IsAsked, IsReadOf, IsWanted, IsWantedCiphertext, OnlyAsks, parts_of}
use Rattle.download_supply.specs.Cursors.{IsPassed, LeadOn, cursor_at}
use Rattle.download_supply.specs.Supply.{IsPartOf, IsSupply, SupplyState, first_of}
use Rattle.download_supply.specs.Upper.{UpperComeFirst}
use Rattle.download_supply.specs.declared.cursors.Cursors.{Cursors}
use Rattle.download_supply.specs.declared.wanted.Wanted.{Wanted}
use Rattle.download_supply.proofs.LawLemmas.{lead_append, parts_apart, plans_grow}
use Rattle.download_supply.proofs.UpperLemmas.{upper_append}
use Rattle.download_segments.specs.Handout.{next_segment}
use Rattle.download_segments.proofs.TreeLemmas.{grow_none}
use Rattle.download_parts.proofs.TreeLemmas.{knows_itself}
use Rattle.download_file.specs.State.{FileState, IsHeard, IsReader, ReaderState, copy, copy_of, giver, waiting_from, copies, waiting_at, waiting_in, waiting_parts}
use Rattle.download_file.specs.Answers.{HoldsAnswers, HoldsFor}
use Rattle.download_file.specs.Asked.{AsksParts, HasAsked, IsAskedUp, IsOneOf, IsPlannedRead}
use Rattle.download_file.specs.Changes.{GoesOn, IsSameFile, OthersWait, ReadersGoOn, StaysAskedUp, StaysRead}
use Rattle.download_file.specs.Right.{AreLive, IsFile, IsGroup, IsReaderOf, TellsRoot, WaitsByLevels}
use Rattle.download_file.specs.Steps.{Asks}
use Rattle.download_file.specs.declared.reader.Waiting.{Waiting}
use Rattle.download_file.proofs.ListLemmas.{All-from_contains, from_map, get_cases, map_set}
use Rattle.download_file.proofs.GrowLemmas.{goes_same, group_stays, holds_as, read_stays, same_file, tree_same}
use Rattle.download_file.proofs.StateLemmas.{Follows, GrowsAsks, asked_up_stays, ciphertext_back, grows_itself, reader_stays, same_reader, wanted_back}

-- ---- parts

pub asked_passed : (s : SupplyState) (part : Part) → IsAsked s part → IsPassed s.asked part
asked_passed s ShareHashes h = h
asked_passed s (BlockTree p) h = h
asked_passed s (CiphertextTree p) h = h.1
asked_passed s (Data i) h = h

-- what is wanted for a segment is wanted for those up to a later one
wanted_more : (s : SupplyState) (number last : ℕ) (part : Part) → number ≤ last → last < s.end → IsWanted s number part → IsWanted s last part
wanted_more s number last ShareHashes order before h = (let from = h.0.from in record { from = omega (arith, from, order); before = before }, tt)
wanted_more s number last (BlockTree p) order before h =
    (let from = h.0.from in record { from = omega (arith, from, order); before = before }, (plans_grow s.geometry s.first (number + 1) (last + 1) (BlockTree p) (omega (arith, order)) h.1).0)
wanted_more s number last (CiphertextTree p) order before h = absurd h
wanted_more s number last (Data i) order before h =
    (let from = h.0.from in record { from = omega (arith, from, order); before = before }, (plans_grow s.geometry s.first (number + 1) (last + 1) (Data i) (omega (arith, order)) h.1).0)

ciphertext_more : (s : SupplyState) (number last : ℕ) (part : Part) → number ≤ last → last < s.end → IsWantedCiphertext s number part → IsWantedCiphertext s last part
ciphertext_more s number last ShareHashes order before h = h
ciphertext_more s number last (BlockTree p) order before h = h
ciphertext_more s number last (CiphertextTree p) order before h =
    (let from = h.0 in omega (arith, from, order), before, h.2, (plans_grow s.geometry s.start (number + 1) (last + 1) (CiphertextTree p) (omega (arith, order)) h.3).0)
ciphertext_more s number last (Data i) order before h = h

-- the first segment of the plan that a part is of is one of those that are wanted
first_within : (s : SupplyState) (part : Part) → IsSupply s → (s.start ≤ first_of s part) × (first_of s part < s.end)
first_within s ShareHashes is = (is.begins, is.range.some)
first_within s (BlockTree p) is = (is.begins, is.range.some)
first_within s (CiphertextTree p) is = (omega arith, (let begins = is.begins in let some = is.range.some in omega (arith, begins, some)))
first_within s (Data i) is = (is.begins, is.range.some)

-- ---- parts that wait

waiting_from_parts : (position : ℕ) (wanted : List Wanted) → waiting_parts (waiting_from position wanted) ≡ parts_of wanted
waiting_from_parts position [] = refl
waiting_from_parts position (w ∷ ws) = ap (λ (l : List Part). w.part ∷ l) (waiting_from_parts (position + 1) ws)

waiting_from_all : (P : Wanted → Type 0) (position : ℕ) (wanted : List Wanted) → ((w : Wanted) → Contains wanted w → P w) → (v : Waiting) → Contains (waiting_from position wanted) v → P v.wanted
waiting_from_all P position [] each v among = absurd (contains_none v among)
waiting_from_all P position (w ∷ ws) each v among = elim (contains_cases (record { position = position; wanted = w }) v (waiting_from (position + 1) ws) among) [
  | inl e ↦ subst (λ (u : Waiting). P u.wanted) e (each w (contains_head w ws))
  | inr more ↦ waiting_from_all P (position + 1) ws (λ u k. each u (contains_tail w u ws k)) v more
]

-- ---- the file

pub record HasWanted (f : FileState) (reader position last : ℕ) (wanted : List Wanted) (g : FileState) : Type 0 where
  pub right : IsFile g
  pub asks : AsksParts f reader wanted g
  pub waits : waiting_at g reader ≡ waiting_at f reader ++ waiting_from position wanted
  pub asked_up : (next : ℕ) → next_segment f.handout ≡ Some next → next ≤ last → last < f.end → IsAskedUp g reader
  pub others_asked_up : (other : ℕ) → StaysAskedUp f g other
  pub copies_are : copies g ≡ copies f
  pub others : OthersWait f reader g
  pub reads : StaysRead f g
  pub same : IsSameFile f g

module _ (f : FileState) (reader : ℕ) (r r' : ReaderState) (gives : Bool) (last position : ℕ) (wanted : List Wanted) (is : IsFile f) (heard : IsHeard f reader)
    (at : slice_get f.readers reader ≡ Some r) (server : r'.server ≡ r.server) (share : r'.share ≡ r.share) (only : OnlyAsks r.supply r'.supply) (right : IsSupply r'.supply)
    (asks : Asks r.supply gives last wanted r'.supply) (giver_is : giver f ≡ Some reader → gives ≡ true)
    (waits : r'.waiting ≡ r.waiting ++ waiting_from position wanted) where
  abbrev pub asked_file : FileState
  asked_file = record f { readers = slice_set f.readers reader r' }

  follows : Follows f asked_file
  follows = record { geometry = refl; ueb = refl; first = refl; end = refl; shares = knows_itself f.handout.trees.shares; later = λ number next. (number, next, omega arith) }

  goes : GoesOn r.supply r'.supply
  goes = record {
    geometry = ap (λ (s : SupplyState). s.geometry) only;
    start = ap (λ (s : SupplyState). s.start) only;
    first = ap (λ (s : SupplyState). s.first) only;
    end = ap (λ (s : SupplyState). s.end) only;
    tree = tree_same r.supply.tree r'.supply.tree (ap (λ (s : SupplyState). s.tree) only);
    more = [];
    held = ap (λ (s : SupplyState). s.held) only ∙ sym (append-nil r.supply.held);
  }

  grows : GrowsAsks r.supply r'.supply
  grows = record {
    geometry = goes.geometry;
    start = goes.start;
    first = goes.first;
    end = goes.end;
    given = ap (λ (s : SupplyState). s.given) only;
    asked = λ part was. (asks.now.asked part).1 (inl was);
  }

  is_asked : IsReaderOf asked_file r'
  is_asked = reader_stays f asked_file r r' follows (is.readers reader r at) share right goes.geometry goes.start goes.first goes.end
      (subst (λ (s : SupplyState). TellsRoot f.handout.trees.shares r.share s.tree) (sym only) (is.readers reader r at).root)

  grow : ReadersGoOn f.readers (slice_set f.readers reader r')
  grow other q there = elim (get_cases f.readers reader other r' r q at there) [
    | inl k ↦ record {
      now = r';
      there = k.2;
      server = server ∙ ap (λ (x : ReaderState). x.server) k.1;
      share = share ∙ ap (λ (x : ReaderState). x.share) k.1;
      supply = subst (λ (x : ReaderState). GoesOn x.supply r'.supply) k.1 goes;
    }
    | inr k ↦ record { now = q; there = k.1; server = refl; share = refl; supply = goes_same q.supply }
  ]

  share_was : (other : ℕ) (q : ReaderState) → IsReader asked_file other q → (o : ReaderState) × (IsReader f other o) × (q.share ≡ o.share)
  share_was other q there = elim (set_cases f.readers reader other r' q there) [
    | inl k ↦ (r, ap (slice_get f.readers) k.0 ∙ at, sym (ap (λ (x : ReaderState). x.share) k.1) ∙ share)
    | inr k ↦ (q, k.1, refl)
  ]

  parts : waiting_parts r'.waiting ≡ waiting_parts r.waiting ++ parts_of wanted
  parts = ap waiting_parts waits ∙ map-append (λ (w : Waiting). w.wanted.part) r.waiting (waiting_from position wanted)
      ∙ ap (λ (l : List Part). waiting_parts r.waiting ++ l) (waiting_from_parts position wanted)

  leads_on : LeadOn r'.supply.taken (waiting_parts r'.waiting) r'.supply.asked
  leads_on =
      let taken : r'.supply.taken ≡ r.supply.taken = ap (λ (s : SupplyState). s.taken) only in
      subst (λ (l : List Part). LeadOn r'.supply.taken l r'.supply.asked) (sym parts)
      (subst (λ (c : Cursors). LeadOn c (waiting_parts r.waiting ++ parts_of wanted) r'.supply.asked) (sym taken)
      (lead_append r.supply.taken r.supply.asked r'.supply.asked (waiting_parts r.waiting) (parts_of wanted) (is.live.waits reader r heard at) asks.now.in_order))

  upper_on : WaitsByLevels r'
  upper_on =
      let both : List Part = waiting_parts r.waiting ++ parts_of wanted in
      subst (λ (l : List Part). UpperComeFirst r'.supply.geometry (first_of r'.supply) r'.supply.taken l) (sym parts)
      (subst (λ (s : SupplyState). UpperComeFirst s.geometry (first_of s) s.taken both) (sym only)
      (upper_append r.supply.geometry (first_of r.supply) r.supply.taken r.supply.asked (waiting_parts r.waiting) (parts_of wanted)
      (is.live.waits reader r heard at) (is.live.upper reader r heard at) asks.now.upper))

  reads_on : All (λ v. IsReadOf r'.supply v.wanted) r'.waiting
  reads_on =
      subst (λ (l : List Waiting). All (λ v. IsReadOf r'.supply v.wanted) l) (sym waits)
      (subst (λ (s : SupplyState). All (λ v. IsReadOf s v.wanted) (r.waiting ++ waiting_from position wanted)) (sym only)
      (All-append (λ v. IsReadOf r.supply v.wanted) r.waiting (waiting_from position wanted) (is.live.reads reader r heard at)
      (All-from_contains (λ v. IsReadOf r.supply v.wanted) (waiting_from position wanted)
      (waiting_from_all (IsReadOf r.supply) position wanted (λ w among. All-contains (IsReadOf r.supply) wanted w asks.now.reads among)))))

  live_asked : AreLive asked_file
  live_asked =
      let long : length (slice_set f.readers reader r') ≡ length f.readers = length-set f.readers reader r' in
      record {
        once = is.live.once;
        apart = is.live.apart;
        there = All-weaker (λ p. p < length f.readers) (λ p. p < length (slice_set f.readers reader r')) (λ p low. omega (arith, low, long)) f.live is.live.there;
        asides = All-weaker (λ p. p < length f.readers) (λ p. p < length (slice_set f.readers reader r')) (λ p low. omega (arith, low, long)) f.aside is.live.asides;
        few = is.live.few;
        different = λ i j x y one two order at_one at_two same.
            let a = share_was i x at_one in
            let b = share_was j y at_two in
            is.live.different i j a.0 b.0 one two order a.1 b.1 (sym a.2 ∙ same ∙ b.2);
        waits = λ other q among there. elim (set_cases f.readers reader other r' q there) [
          | inl k ↦ subst (λ (x : ReaderState). LeadOn x.supply.taken (waiting_parts x.waiting) x.supply.asked) k.1 leads_on
          | inr k ↦ is.live.waits other q among k.1
        ];
        upper = λ other q among there. elim (set_cases f.readers reader other r' q there) [
          | inl k ↦ subst WaitsByLevels k.1 upper_on
          | inr k ↦ is.live.upper other q among k.1
        ];
        reads = λ other q among there. elim (set_cases f.readers reader other r' q there) [
          | inl k ↦ subst (λ (x : ReaderState). All (λ v. IsReadOf x.supply v.wanted) x.waiting) k.1 reads_on
          | inr k ↦ is.live.reads other q among k.1
        ];
      }

  pub file_asked : IsFile asked_file
  file_asked = record {
    handout = is.handout;
    range = is.range;
    last = is.last;
    next = is.next;
    readers = λ other q there. elim (set_cases f.readers reader other r' q there) [
      | inl k ↦ subst (IsReaderOf asked_file) k.1 is_asked
      | inr k ↦ same_reader f asked_file q follows (is.readers other q k.1)
    ];
    live = live_asked;
    ciphertext = record {
      levels = is.ciphertext.levels;
      pieces = is.ciphertext.pieces;
      known = is.ciphertext.known;
      behind = λ other level q among there. elim (set_cases f.readers reader other r' q there) [
        | inl k ↦ subst (λ (x : ReaderState). cursor_at x.supply.taken.ciphertext_tree level ≤ cursor_at f.taken level) k.1
            (subst (λ (s : SupplyState). cursor_at s.taken.ciphertext_tree level ≤ cursor_at f.taken level) (sym only) (is.ciphertext.behind reader level r heard at))
        | inr k ↦ is.ciphertext.behind other level q among k.1
      ];
    };
    groups = All-weaker (IsGroup f.handout f.readers) (IsGroup f.handout (slice_set f.readers reader r'))
        (λ group own. group_stays f.handout f.handout f.readers (slice_set f.readers reader r') group refl grow own) f.groups is.groups;
    in_order = is.in_order;
  }

  pub read_asked : StaysRead f asked_file
  read_asked entries read = read_stays entries f asked_file refl refl refl (grow_none f.handout.trees) grow is.groups refl (λ p among. among)
      (λ other q there. elim (set_cases f.readers reader other r' q there) [
        | inl k ↦ subst (λ (x : ReaderState). HoldsAnswers entries x) k.1 (subst (HoldsFor entries r'.server r'.share) (sym only) (holds_as entries r.server r.share r'.server r'.share r.supply server share (read.held reader r at)))
        | inr k ↦ read.held other q k.1
      ])
      read

  pub same_asked : IsSameFile f asked_file
  same_asked = same_file f asked_file refl refl refl refl refl refl (grow_none f.handout.trees) grow is.groups refl

  pub copies_asked : copies asked_file ≡ copies f
  copies_asked = map_set (λ (q : ReaderState). copy_of q) f.readers reader r' r at (λ i. copy (server i) (share i))

  pub waiting_asked : waiting_at asked_file reader ≡ waiting_at f reader ++ waiting_from position wanted
  waiting_asked = ap waiting_in (get_set f.readers reader r' r at) ∙ waits ∙ sym (ap (λ (o : Option ReaderState). waiting_in o ++ waiting_from position wanted) at)

  pub others_asked : OthersWait f reader asked_file
  others_asked other not = ap waiting_in (get_other f.readers reader other r' not)

  pub still_up : (other : ℕ) → StaysAskedUp f asked_file other
  still_up other = asked_up_stays f asked_file other refl (λ now. now) (λ q there. elim (set_cases f.readers reader other r' q there) [
    | inl k ↦ (r, ap (slice_get f.readers) k.0 ∙ at, subst (λ (x : ReaderState). GrowsAsks r.supply x.supply) k.1 grows)
    | inr k ↦ (q, k.1, grows_itself q.supply)
  ])

  -- all that is wanted up to the next segment is asked
  pub now_up : (next : ℕ) → next_segment f.handout ≡ Some next → next ≤ last → last < f.end → IsAskedUp asked_file reader
  now_up next next_is order before =
      let own = is.readers reader r at in
      let end = own.end in
      let low : last < r.supply.end = omega (arith, before, end) in
      record {
        own = λ q number part there is_next wants.
            let one : q ≡ r' = one_there (slice_get (slice_set f.readers reader r') reader) q r' there (get_set f.readers reader r' r at) in
            let same : number ≡ next = one_there (next_segment f.handout) number next is_next next_is in
            subst (λ (x : ReaderState). IsAsked x.supply part) (sym one)
            (asks.own part (wanted_more r.supply next last part order low (subst (λ (n : ℕ). IsWanted r.supply n part) same
            (wanted_back r.supply r'.supply number part grows (subst (λ (x : ReaderState). IsWanted x.supply number part) one wants)))));
        ciphertext = λ q number part first there is_next wants.
            let one : q ≡ r' = one_there (slice_get (slice_set f.readers reader r') reader) q r' there (get_set f.readers reader r' r at) in
            let same : number ≡ next = one_there (next_segment f.handout) number next is_next next_is in
            subst (λ (x : ReaderState). IsAsked x.supply part) (sym one)
            (asks.ciphertext (giver_is first) part (ciphertext_more r.supply next last part order low (subst (λ (n : ℕ). IsWantedCiphertext r.supply n part) same
            (ciphertext_back r.supply r'.supply number part grows (subst (λ (x : ReaderState). IsWantedCiphertext x.supply number part) one wants)))));
      }

  -- ---- what is asked

  -- of two parts that are not one no byte is read twice
  apart_from : (p q : Part) (o l : ℕ) (w : Wanted) → IsPartOf r.supply p → IsReadOf r.supply w → q ≡ w.part → p ≢ q
      → o ≡ offset_of r.supply.geometry (first_of r.supply p) r.supply.end p → l ≡ length_of r.supply.geometry (first_of r.supply p) r.supply.end p
      → AreApart o l w.read.offset w.read.length
  apart_from p q o l w one read same other begin_is long_is = elim (parts_apart r.supply p w.part (is.readers reader r at).supply one read.part) [
    | inl e ↦ absurd (other (e ∙ sym same))
    | inr k ↦ subst (λ (n : ℕ). AreApart n l w.read.offset w.read.length) (sym begin_is)
        (subst (λ (n : ℕ). AreApart (offset_of r.supply.geometry (first_of r.supply p) r.supply.end p) n w.read.offset w.read.length) (sym long_is)
        (subst (λ (n : ℕ). AreApart (offset_of r.supply.geometry (first_of r.supply p) r.supply.end p) (length_of r.supply.geometry (first_of r.supply p) r.supply.end p) n w.read.length) (sym read.offset)
        (subst (λ (n : ℕ). AreApart (offset_of r.supply.geometry (first_of r.supply p) r.supply.end p) (length_of r.supply.geometry (first_of r.supply p) r.supply.end p)
        (offset_of r.supply.geometry (first_of r.supply w.part) r.supply.end w.part) n) (sym read.length) k)))
  ]

  planned_read : (w : Wanted) → IsReadOf r.supply w → IsPlannedRead f w.read.offset w.read.length
  planned_read w read =
      let own = is.readers reader r at in
      let within = first_within r.supply w.part own.supply in
      let from = within.0 in
      let before = within.1 in
      let start = own.start in
      let end = own.end in
      record {
        from = first_of r.supply w.part;
        begins = omega (arith, from, start);
        before = omega (arith, before, end);
        planned = subst (λ (g : Geometry). IsPlanned g (first_of r.supply w.part) f.end w.read.offset w.read.length) own.geometry
            (subst (λ (n : ℕ). IsPlanned r.supply.geometry (first_of r.supply w.part) n w.read.offset w.read.length) own.end
            (record { part = w.part; is = read.part; begin_is = read.offset; len_is = read.length }));
      }

  pub asks_parts : AsksParts f reader wanted asked_file
  asks_parts = record {
    planned = All-weaker (IsReadOf r.supply) (λ w. IsPlannedRead f w.read.offset w.read.length) planned_read wanted asks.now.reads;
    few = All-weaker (IsReadOf r.supply) (λ w. (0 < w.read.length) × (w.read.length ≤ max_read)) (λ w read. (read.some, read.few)) wanted asks.now.reads;
    apart = λ i j d order low.
        let one = asks.now.reads i d (omega (arith, order, low)) in
        let two = asks.now.reads j d low in
        apart_from (get_or wanted i d).part (get_or wanted j d).part _ _ (get_or wanted j d) one.part two refl
        (different i j d order low) one.offset one.length;
    fresh = λ offset len has.
        let same : has.r ≡ r = one_there (slice_get f.readers reader) has.r r has.there at in
        All-from_contains (λ w. AreApart offset len w.read.offset w.read.length) wanted (λ w among.
        let asked : IsAsked r.supply has.part = subst (λ (x : ReaderState). IsAsked x.supply has.part) same has.asked in
        let read = All-contains (IsReadOf r.supply) wanted w asks.now.reads among in
        apart_from has.part w.part offset len w ((is.readers reader r at).supply.parts has.part (asked_passed r.supply has.part asked)) read refl
        (λ e. asks.now.fresh w.part (among_parts w among) (subst (IsAsked r.supply) e asked))
        (subst (λ (x : ReaderState). offset ≡ offset_of x.supply.geometry (first_of x.supply has.part) x.supply.end has.part) same has.offset_is)
        (subst (λ (x : ReaderState). len ≡ length_of x.supply.geometry (first_of x.supply has.part) x.supply.end has.part) same has.long));
    asked = λ other offset len. (to other offset len, from other offset len);
  } where
    among_parts : (w : Wanted) → Contains wanted w → Contains (parts_of wanted) w.part
    among_parts w among = contains_map (λ (x : Wanted). x.part) wanted w among

    different : (i j : ℕ) (d : Wanted) → i < j → j < length wanted → (get_or wanted i d).part ≢ (get_or wanted j d).part
    different i j d order low =
        let part : Wanted → Part = λ x. x.part in
        let k = asks.now.different i j d.part order (let long = length-map wanted part in omega (arith, low, long)) in
        λ e. k (get_or-map part wanted i d ∙ e ∙ sym (get_or-map part wanted j d))

    to : (other offset len : ℕ) → HasAsked asked_file other offset len → HasAsked f other offset len ⊎ ((other ≡ reader) × IsOneOf wanted offset len)
    to other offset len has = elim (set_cases f.readers reader other r' has.r has.there) [
      | inr k ↦ inl (record { r = has.r; there = k.1; part = has.part; asked = has.asked; offset_is = has.offset_is; long = has.long })
      | inl k ↦
          let begin_is : offset ≡ offset_of r.supply.geometry (first_of r.supply has.part) r.supply.end has.part =
          subst (λ (s : SupplyState). offset ≡ offset_of s.geometry (first_of s has.part) s.end has.part) only
          (subst (λ (x : ReaderState). offset ≡ offset_of x.supply.geometry (first_of x.supply has.part) x.supply.end has.part) (sym k.1) has.offset_is) in
          let long_is : len ≡ length_of r.supply.geometry (first_of r.supply has.part) r.supply.end has.part =
          subst (λ (s : SupplyState). len ≡ length_of s.geometry (first_of s has.part) s.end has.part) only
          (subst (λ (x : ReaderState). len ≡ length_of x.supply.geometry (first_of x.supply has.part) x.supply.end has.part) (sym k.1) has.long) in
          elim ((asks.now.asked has.part).0 (subst (λ (x : ReaderState). IsAsked x.supply has.part) (sym k.1) has.asked)) [
            | inl old ↦ inl (record { r = r; there = ap (slice_get f.readers) k.0 ∙ at; part = has.part; asked = old; offset_is = begin_is; long = long_is })
            | inr new ↦
                let w = from_map (λ (x : Wanted). x.part) wanted has.part new in
                let read = All-contains (IsReadOf r.supply) wanted w.0 asks.now.reads w.1 in
                inr (
                  k.0,
                  record {
                    one = w.0;
                    among = w.1;
                    offset_is = begin_is ∙ sym (read.offset ∙ ap (λ (p : Part). offset_of r.supply.geometry (first_of r.supply p) r.supply.end p) w.2);
                    long = long_is ∙ sym (read.length ∙ ap (λ (p : Part). length_of r.supply.geometry (first_of r.supply p) r.supply.end p) w.2);
                  },
                )
          ]
    ]

    -- what was asked of a reader before
    still : (other offset len : ℕ) → HasAsked f other offset len → HasAsked asked_file other offset len
    still other offset len has = elim (get_cases f.readers reader other r' r has.r at has.there) [
      | inr k ↦ record { r = has.r; there = k.1; part = has.part; asked = has.asked; offset_is = has.offset_is; long = has.long }
      | inl k ↦ record {
        r = r';
        there = k.2;
        part = has.part;
        asked = grows.asked has.part (subst (λ (x : ReaderState). IsAsked x.supply has.part) (sym k.1) has.asked);
        offset_is = subst (λ (s : SupplyState). offset ≡ offset_of s.geometry (first_of s has.part) s.end has.part) (sym only)
            (subst (λ (x : ReaderState). offset ≡ offset_of x.supply.geometry (first_of x.supply has.part) x.supply.end has.part) (sym k.1) has.offset_is);
        long = subst (λ (s : SupplyState). len ≡ length_of s.geometry (first_of s has.part) s.end has.part) (sym only)
            (subst (λ (x : ReaderState). len ≡ length_of x.supply.geometry (first_of x.supply has.part) x.supply.end has.part) (sym k.1) has.long);
      }
    ]

    from : (other offset len : ℕ) → (HasAsked f other offset len ⊎ ((other ≡ reader) × IsOneOf wanted offset len)) → HasAsked asked_file other offset len
    from other offset len (inl old) = still other offset len old
    from other offset len (inr new) =
        let one = new.1 in
        let read = All-contains (IsReadOf r.supply) wanted one.one asks.now.reads one.among in
        record {
          r = r';
          there = ap (slice_get (slice_set f.readers reader r')) new.0 ∙ get_set f.readers reader r' r at;
          part = one.one.part;
          asked = (asks.now.asked one.one.part).1 (inr (among_parts one.one one.among));
          offset_is = subst (λ (s : SupplyState). offset ≡ offset_of s.geometry (first_of s one.one.part) s.end one.one.part) (sym only) (one.offset_is ∙ read.offset);
          long = subst (λ (s : SupplyState). len ≡ length_of s.geometry (first_of s one.one.part) s.end one.one.part) (sym only) (one.long ∙ read.length);
        }

  pub has_wanted : HasWanted f reader position last wanted asked_file
  has_wanted = record {
    right = file_asked;
    asks = asks_parts;
    waits = waiting_asked;
    asked_up = now_up;
    others_asked_up = still_up;
    copies_are = copies_asked;
    others = others_asked;
    reads = read_asked;
    same = same_asked;
  }
