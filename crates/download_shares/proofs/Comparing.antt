-- An extension block is accepted: what was read of each header is compared.
use Rattle.std.proofs.Common.{◌≡◌, ℕ, ◌+◌, ◌<◌, ◌≤◌, ◌⊎◌, inl, inr, Bool, true, false, List, length, Option, Some, None, refl, sym, ap, subst, ◌∙◌, arith, true≢false}
use Rattle.std.specs.Prelude.{slice_get, slice_set}
use Rattle.std.proofs.lemmas.Bool.{cases_eq, cases_lt}
use Rattle.std.proofs.lemmas.Option.{slice_get_within}
use Rattle.lemmas.proofs.Positions.{get_set, get_other, set_cases}
use Rattle.lemmas.proofs.Options.{one_there}
use Rattle.share_layout.specs.Geometry.{Geometry, IsGeometry}
use Rattle.share_reading.specs.Opening.{Agrees}
use Rattle.share_reading.specs.declared.opening.Opening.{Opening}
use Rattle.request_record.specs.declared.requests.Asked.TheVariants.{Reading}
use Rattle.request_record.specs.Record.{RequestsState}
use Rattle.download_shares.specs.Numbers.{released, without_position}
use Rattle.download_shares.specs.HoldingState.{NumberState, TableState}
use Rattle.download_shares.specs.Table.{IsHolding, IsNumber, IsTable, Releases, Retires, Suspends}
use Rattle.download_shares.specs.declared.holding.Holding.{Holding}
use Rattle.download_shares.proofs.Lists.{released_at, released_else}
use Rattle.download_shares.specs.Known.{AreBegun}
use Rattle.download_shares.specs.Opening.{AreCompared, AreComparedUpTo, IsCompared, IsFound, IsOut, IsTaken}
use Rattle.download_shares.specs.Reads.{IsBeginning, IsBeside, IsOutAt, IsReadAt}
use Rattle.download_shares.specs.BeginningState.{BeginningsState, IsBegun}
use Rattle.download_shares.specs.declared.begun.Begun.{Begun}
use Rattle.download_shares.proofs.Falling.{falls_one}
use Rattle.download_shares.proofs.Reading.{beside}

-- one is not read any more, and the others are as they were
pub record Unreads (holding : ℕ) (t u : TableState) : Type 0 where
  pub others : (position : ℕ) (h : Holding) → IsHolding u position h → (position ≡ holding → ⊥) → IsHolding t position h
  pub taken : (position : ℕ) (h : Holding) → (position ≡ holding → ⊥) → IsTaken t position h → IsTaken u position h
  pub reading : (share position : ℕ) (n : NumberState) → IsNumber u share n → n.reading ≡ Some position
      → (m : NumberState) × IsNumber t share m × (m.reading ≡ Some position)
  pub unread : (share : ℕ) (n : NumberState) → IsNumber u share n → n.reading ≡ Some holding → ⊥

-- a number after its holding was released
released_from : (holding position : ℕ) (o : Option ℕ) → released holding o ≡ Some position → (o ≡ Some position) × (position ≡ holding → ⊥)
released_from holding position None e = absurd cc
released_from holding position (Some q) e = elim (cases_eq q holding) [
  | inl same ↦ (let two : None ≡ Some position = sym (released_at holding q same) ∙ e in absurd cc)
  | inr other ↦ (
      let two : Some q ≡ Some position = sym (released_else holding q other) ∙ e in
      let one : q ≡ position = cc in
      (two, λ f. other (one ∙ f)))
]

pub unreads_released : (holding : ℕ) (t u : TableState) → Releases holding t u → IsTable u → Unreads holding t u
unreads_released holding t u k right = record {
  others = λ position h is other. sym (ap (λ (l : List Holding). slice_get l position) k.2) ∙ is;
  taken = λ position h other t. taken position h other t (cases_eq h.share k.0.share);
  reading = λ share position n is reads. (elim (number share n is) [
    | inl here ↦ (
        let r = released_from holding position k.3.number.reading (here.1 ∙ reads) in
        (k.3.number, ap (slice_get t.numbers) here.0 ∙ k.3.is, r.0))
    | inr old ↦ (n, old, reads)
  ]);
  unread = λ share n is reads. (
      let p = right.positions share holding n is (right.reading share holding n is reads) in
      let held : IsHolding u holding k.0 = ap (λ (l : List Holding). slice_get l holding) k.2 ∙ k.1 in
      let one : p.0 ≡ k.0 = one_there (slice_get u.holdings holding) p.0 k.0 p.1 held in
      let at : share ≡ k.0.share = sym p.2 ∙ ap (λ (h : Holding). h.share) one in
      elim (number share n is) [
        | inl here ↦ (let r = released_from holding holding k.3.number.reading (here.1 ∙ reads) in r.1 refl)
        | inr old ↦ (
            let now : slice_get u.numbers share ≡ Some (record k.3.number { reading = released holding k.3.number.reading }) =
            ap (λ (l : List NumberState). slice_get l share) k.3.numbers ∙ ap (slice_get (slice_set t.numbers k.0.share (record k.3.number { reading = released holding k.3.number.reading }))) at ∙ get_set t.numbers k.0.share (record k.3.number { reading = released holding k.3.number.reading }) k.3.number k.3.is in
            let same = one_there (slice_get u.numbers share) (record k.3.number { reading = released holding k.3.number.reading }) n now is in
            let r = released_from holding holding k.3.number.reading (ap (λ (x : NumberState). x.reading) same ∙ reads) in
            r.1 refl)
      ]);
}
  where
    number : (share : ℕ) (n : NumberState) → IsNumber u share n → ((share ≡ k.0.share) × (released holding k.3.number.reading ≡ n.reading)) ⊎ IsNumber t share n
    number share n is = elim (set_cases t.numbers k.0.share share (record k.3.number { reading = released holding k.3.number.reading }) n (sym (ap (λ (l : List NumberState). slice_get l share) k.3.numbers) ∙ is)) [
      | inl here ↦ inl (here.0, ap (λ (x : NumberState). x.reading) here.1)
      | inr old ↦ inr old.1
    ]

    taken : (position : ℕ) (h : Holding) → (position ≡ holding → ⊥) → (t0 : IsTaken t position h) → (h.share ≡ k.0.share) ⊎ (h.share ≡ k.0.share → ⊥) → IsTaken u position h
    taken position h other t0 (inl here) =
        let one : t0.number ≡ k.3.number = one_there (slice_get t.numbers h.share) t0.number k.3.number t0.there (ap (slice_get t.numbers) here ∙ k.3.is) in
        record {
          number = record k.3.number { reading = released holding k.3.number.reading };
          there = ap (λ (l : List NumberState). slice_get l h.share) k.3.numbers ∙ ap (slice_get (slice_set t.numbers k.0.share (record k.3.number { reading = released holding k.3.number.reading }))) here ∙ get_set t.numbers k.0.share (record k.3.number { reading = released holding k.3.number.reading }) k.3.number k.3.is;
          reading = ap (released holding) (sym (ap (λ (n : NumberState). n.reading) one) ∙ t0.reading) ∙ released_else holding position other;
        }
    taken position h other t0 (inr else) = record {
      number = t0.number;
      there = ap (λ (l : List NumberState). slice_get l h.share) k.3.numbers ∙ get_other t.numbers k.0.share h.share (record k.3.number { reading = released holding k.3.number.reading }) else ∙ t0.there;
      reading = t0.reading;
    }

pub unreads_suspended : (holding : ℕ) (suspended : Bool) (t u v : TableState) → Unreads holding t u → Suspends suspended holding u v → Unreads holding t v
unreads_suspended holding suspended t u v f k = record {
  others = λ position h is other. f.others position h (elim (set_cases u.holdings holding position (record k.1.0 { suspended = suspended }) h (sym (ap (λ (l : List Holding). slice_get l position) k.1.1.holdings) ∙ is)) [
    | inl here ↦ absurd (other here.0)
    | inr old ↦ old.1
  ]) other;
  taken = λ position h other t0. (
      let t1 = f.taken position h other t0 in
      record { number = t1.number; there = ap (λ (l : List NumberState). slice_get l h.share) k.0 ∙ t1.there; reading = t1.reading });
  reading = λ share position n is. f.reading share position n (sym (ap (λ (l : List NumberState). slice_get l share) k.0) ∙ is);
  unread = λ share n is. f.unread share n (sym (ap (λ (l : List NumberState). slice_get l share) k.0) ∙ is);
}

pub unreads_retired : (holding : ℕ) (t u v : TableState) → Unreads holding t u → Retires holding u v → Unreads holding t v
unreads_retired holding t u v f r =
    let falls = falls_one holding u v r in
    record {
      others = λ position h is other. f.others position h (elim (set_cases u.holdings holding position (record r.0 { left = false }) h (sym (ap (λ (l : List Holding). slice_get l position) r.1.holdings) ∙ is)) [
        | inl here ↦ absurd (other here.0)
        | inr old ↦ old.1
      ]) other;
      taken = λ position h other t0. taken position h other (f.taken position h other t0) (cases_eq h.share r.0.share);
      reading = λ share position n is reads. (let m = falls.reading share position n is reads in f.reading share position m.0 m.1 m.2);
      unread = λ share n is reads. (let m = falls.reading share holding n is reads in f.unread share m.0 m.1 m.2);
    }
  where
    taken : (position : ℕ) (h : Holding) → (position ≡ holding → ⊥) → (t0 : IsTaken u position h) → (h.share ≡ r.0.share) ⊎ (h.share ≡ r.0.share → ⊥) → IsTaken v position h
    taken position h other t0 (inl here) =
        let one : t0.number ≡ r.2.number = one_there (slice_get u.numbers h.share) t0.number r.2.number t0.there (ap (slice_get u.numbers) here ∙ r.2.is) in
        record {
          number = without_position holding r.2.number;
          there = ap (λ (l : List NumberState). slice_get l h.share) r.2.numbers ∙ ap (slice_get (slice_set u.numbers r.0.share (without_position holding r.2.number))) here ∙ get_set u.numbers r.0.share (without_position holding r.2.number) r.2.number r.2.is;
          reading = ap (released holding) (sym (ap (λ (n : NumberState). n.reading) one) ∙ t0.reading) ∙ released_else holding position other;
        }
    taken position h other t0 (inr else) = record {
      number = t0.number;
      there = ap (λ (l : List NumberState). slice_get l h.share) r.2.numbers ∙ get_other u.numbers r.0.share h.share (without_position holding r.2.number) else ∙ t0.there;
      reading = t0.reading;
    }

-- ---- one more is compared

out_same : (s u : BeginningsState) (position : ℕ) → u.holdings.requests ≡ s.holdings.requests → u.begun ≡ s.begun → IsOut s position → IsOut u position
out_same s u position e same out = record {
  begun = out.begun;
  is = ap (λ (l : List Begun). slice_get l position) same ∙ out.is;
  request = out.request;
  waiting = out.waiting;
  out = subst (λ (r : RequestsState). IsOutAt r.entries out.request) (sym e) out.out;
}

module _ (g : Geometry) (found holding : ℕ) (s u : BeginningsState) (before : AreComparedUpTo g found holding s) (e : u.holdings.requests ≡ s.holdings.requests) (same : u.begun ≡ s.begun)
    (unreads : Unreads holding s.holdings.table u.holdings.table) where
  was_begun : (position : ℕ) (b : Begun) → IsBegun u position b → IsBegun s position b
  was_begun position b is = sym (ap (λ (l : List Begun). slice_get l position) same) ∙ is

  was_read : (h : Holding) (i offset len : ℕ) → IsReadAt u.holdings.requests.entries h i offset len → IsReadAt s.holdings.requests.entries h i offset len
  was_read h i offset len = subst (λ (r : RequestsState). IsReadAt r.entries h i offset len → IsReadAt s.holdings.requests.entries h i offset len) (sym e) (λ r. r)

  pub compared_next : ((h : Holding) (b : Begun) → IsHolding u.holdings.table holding h → IsBegun u holding b → IsCompared g u holding h b) → AreComparedUpTo g found (holding + 1) u
  compared_next this = record {
    compared = λ position h b is there lt. compared position h b is there lt (cases_eq position holding);
    opening = λ position h b is there le. (
        let other : position ≡ holding → ⊥ = λ f. omega (arith, le, f) in
        let old = before.opening position h b (unreads.others position h is other) (was_begun position b there) (omega (arith, le)) in
        record {
          reads = λ i offset len read. old.reads i offset len (was_read h i offset len read);
          taken = λ some. elim (old.taken some) [ inl gone ↦ inl gone | inr t ↦ inr (unreads.taken position h other t) ];
          unread = old.unread;
          choosable = old.choosable;
        });
    works = λ share position n is reads. (
        let m = unreads.reading share position n is reads in
        let w = before.works share position m.0 m.1 m.2 in
        let other : position ≡ holding → ⊥ = λ f. unreads.unread share n is (reads ∙ ap Some f) in
        (above position w.0 other, elim w.1 [ inl here ↦ inl here | inr out ↦ inr (out_same s u position e same out) ]));
    quiet = λ b is. before.quiet b (was_begun found b is);
  }
    where
      above : (position : ℕ) → holding ≤ position → (position ≡ holding → ⊥) → holding + 1 ≤ position
      above position le other = elim (cases_lt holding position) [ inl lt ↦ omega (arith, lt) | inr ge ↦ absurd (other (omega (arith, le, ge))) ]

      compared : (position : ℕ) (h : Holding) (b : Begun) → IsHolding u.holdings.table position h → IsBegun u position b → position < holding + 1 → (position ≡ holding) ⊎ (position ≡ holding → ⊥) → IsCompared g u position h b
      compared position h b is there lt (inl here) = subst (λ p. IsCompared g u p h b) (sym here) (this h b (subst (λ p. IsHolding u.holdings.table p h) here is) (subst (λ p. IsBegun u p b) here there))
      compared position h b is there lt (inr other) =
          let low : position < holding = elim (cases_lt position holding) [ inl l ↦ l | inr ge ↦ absurd (other (omega (arith, lt, ge))) ] in
          let old = before.compared position h b (unreads.others position h is other) (was_begun position b there) low in
          record {
            beside = λ left i offset len read. old.beside left i offset len (was_read h i offset len read);
            unread = old.unread;
            out = λ left suspended. out_same s u position e same (old.out left suspended);
          }

  -- it is not left
  pub compared_gone : (h : Holding) (b : Begun) → ((x : Holding) → IsHolding s.holdings.table holding x → ⊥) ⊎ (h.left ≡ true → ⊥) → (y : Holding) → IsHolding s.holdings.table holding y → IsBegun u holding b → IsCompared g u holding h b
  compared_gone h b (inl none) y was there = absurd (none y was)
  compared_gone h b (inr gone) y was there = record {
    beside = λ left. absurd (gone left);
    unread = (before.opening holding y b was (was_begun holding b there) (omega arith)).unread;
    out = λ left. absurd (gone left);
  }

  -- it is as it was, and its header agrees where it is left
  pub compared_kept : (h y : Holding) (b : Begun) → IsGeometry g → IsHolding s.holdings.table holding y → IsBegun u holding b → h.server ≡ y.server → h.share ≡ y.share → (h.left ≡ true → y.left ≡ true)
      → (h.left ≡ true → (o : Opening) → b.opening ≡ Some o → Agrees g o)
      → (h.left ≡ true → h.suspended ≡ true → (b.opening ≡ None → ⊥) × ((b.waiting ≡ None) → ⊥)) → IsCompared g u holding h b
  compared_kept h y b valid was there servers shares lefts agrees outs =
      let old = before.opening holding y b was (was_begun holding b there) (omega arith) in
      record {
        beside = λ left i offset len read. by b.opening refl (agrees left) offset len (old.reads i offset len (read_moved (was_read h i offset len read)));
        unread = old.unread;
        out = λ left suspended. out left (outs left suspended) (old.taken (outs left suspended).0);
      }
    where
      read_moved : {i offset len : ℕ} → IsReadAt s.holdings.requests.entries h i offset len → IsReadAt s.holdings.requests.entries y i offset len
      read_moved {i} {offset} {len} r = record { request = r.request; there = r.there; of_server = r.of_server ∙ servers; asked = subst (λ n. r.request.asked ≡ Reading n offset len) shares r.asked }

      by : (o : Option Opening) → b.opening ≡ o → ((p : Opening) → b.opening ≡ Some p → Agrees g p) → (offset len : ℕ) → IsBeginning b.opening offset len → IsBeside g offset len
      by None f agree offset len r = absurd (subst (λ (q : Option Opening). IsBeginning q offset len) f r)
      by (Some p) f agree offset len r = beside g p offset len valid (agree p f) (subst (λ (q : Option Opening). IsBeginning q offset len) f r)

      out : h.left ≡ true → (b.opening ≡ None → ⊥) × ((b.waiting ≡ None) → ⊥) → (y.left ≡ false) ⊎ IsTaken s.holdings.table holding y → IsOut u holding
      out left some (inl gone) = absurd (true≢false (sym (lefts left) ∙ gone))
      out left some (inr t) = elim (before.works y.share holding t.number t.there t.reading).1 [
        | inl here ↦ absurd (some.1 (before.quiet b (subst (λ p. IsBegun s p b) here (was_begun holding b there))))
        | inr o ↦ out_same s u holding e same o
      ]

-- ---- all of them

pub compared_none : (g : Geometry) (found : ℕ) (s : BeginningsState) → IsFound s found → AreComparedUpTo g found 0 s
compared_none g found s f = record {
  compared = λ position h b is there lt. absurd (omega (arith, lt));
  opening = λ position h b is there le. f.others.each position h b is there;
  works = λ share position n is reads. (
    omega arith,
    elim (cases_eq position found) [
      | inl here ↦ inl here
      | inr other ↦ inr (f.others.works share position n is reads other)
    ],
  );
  quiet = f.quiet;
}

pub compared_all : (g : Geometry) (found end : ℕ) (s : BeginningsState) → AreBegun s → found < length s.begun → length s.begun ≤ end → AreComparedUpTo g found end s → AreCompared g s
compared_all g found end s known inside le up = record {
  each = λ position h b is there. up.compared position h b is there (let lt = slice_get_within s.begun position b there in omega (arith, lt, le));
  unread = λ share n is. by share n is n.reading refl;
}
  where
    by : (share : ℕ) (n : NumberState) → IsNumber s.holdings.table share n → (o : Option ℕ) → n.reading ≡ o → n.reading ≡ None
    by share n is None e = e
    by share n is (Some position) e =
        let w = up.works share position n is e in
        let low = w.0 in
        elim w.1 [
          | inl here ↦ absurd (omega (arith, low, inside, here, le))
          | inr out ↦ (let lt = slice_get_within s.begun position out.begun out.is in absurd (omega (arith, lt, low, le)))
        ]
