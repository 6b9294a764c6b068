-- Nothing is read yet.
use Rattle.std.proofs.lemmas.Option.{slice_get-get_or, slice_get_within}
use Rattle.std.proofs.Common.{◌≡◌, ℕ, zero, suc, ◌<◌, inl, inr, List, [], ◌∷◌, length, arith, Some, None, refl, sym, ◌∙◌}
use Rattle.std.specs.Prelude.{slice_get, slice_index_or}
use Rattle.placement.proofs.Members.{Contains-nil}
use Rattle.request_record.specs.declared.requests.Request.{Request}
use Rattle.share_layout.specs.Geometry.{Geometry}
use Rattle.ueb.specs.Shape.{Contents}
use Rattle.download_shares.specs.Known.{AreBegun}
use Rattle.download_shares.specs.Opening.{AreCompared}
use Rattle.download_shares.specs.BeginningState.{BeginningsState, IsBegun, unbegun}
use Rattle.download_shares.specs.declared.begun.Begun.{Begun}
use Rattle.download_shares.specs.Table.{IsHolding}
use Rattle.download_shares.specs.declared.holding.Holding.{Holding}
use Rattle.download_file.specs.Answers.{IsRead}
use Rattle.download_file.specs.Right.{IsFile}
use Rattle.download_file.specs.State.{IsHeard, new_file}
use Rattle.download_core.specs.Reading.{AreLinked, AreReading}
use Rattle.download_core.specs.ReadingState.{ReadingState}

pub held_at : (s : BeginningsState) (x : ℕ) (b : Begun) → AreBegun s → IsBegun s x b → (h : Holding) × IsHolding s.holdings.table x h
held_at s x b known there = some s.holdings.table.holdings x (let w = slice_get_within s.begun x b there in let c = known.counted in omega (arith, w, c))
  where
    some : (xs : List Holding) (i : ℕ) → i < length xs → (h : Holding) × (slice_get xs i ≡ Some h)
    some [] i lt = absurd (omega (arith, lt))
    some (h ∷ hs) zero lt = (h, refl)
    some (h ∷ hs) (suc i) lt = some hs i (omega (arith, lt))

module _ (s : BeginningsState) (key : List ℕ) (u : Contents) (g : Geometry) (from to : ℕ) (right : IsFile (new_file key u g from to)) (known : AreBegun s) (compared : AreCompared g s)
    (total : length s.holdings.table.numbers ≡ g.total) (reads : (entries : List Request) → IsRead entries (new_file key u g from to)) where
  no_reader : (x q : ℕ) (b : Begun) → IsBegun s x b → b.reader ≡ Some q → ⊥
  no_reader x q b there e = by (held_at s x b known there)
    where
      by : (h : Holding) × IsHolding s.holdings.table x h → ⊥
      by k = (let two : None ≡ Some q = sym (compared.each x k.0 b k.1 there).unread ∙ e in absurd cc)

  abbrev pub nothing_read : ReadingState
  nothing_read = record { file = new_file key u g from to; holdings = [] }

  no_heard : (q : ℕ) → IsHeard nothing_read.file q → ⊥
  no_heard q (inl live) = Contains-nil q live
  no_heard q (inr aside) = Contains-nil q aside

  started_linked : AreLinked s nothing_read
  started_linked = record {
    kept = record {
      known = known;
      right = right;
      total = total;
      linked = refl;
      forth = λ q x of. absurd cc;
      back = λ x q b there e. absurd (no_reader x q b there e);
      alive = λ x q h b is there e left. absurd (no_reader x q b there e);
      reads = λ x i offset len h b is there left read. inl ((compared.each x h b is there).beside left i offset len read);
      answers = reads s.holdings.requests.entries;
    };
    live = λ q heard. absurd (no_heard q heard);
  }

  begun_there : (x : ℕ) (h : Holding) → IsHolding s.holdings.table x h → (b : Begun) × IsBegun s x b
  begun_there x h is = (slice_index_or s.begun x unbegun, slice_get-get_or s.begun x unbegun (let w = slice_get_within s.holdings.table.holdings x h is in let c = known.counted in omega (arith, w, c)))

  pub started : AreReading s nothing_read
  started = record {
    linked = started_linked;
    awaits = record {
      asked = λ q h w k among. absurd (no_heard q k.live);
      first = λ q position h k other e. absurd (no_heard q k.live);
    };
    busy = record {
      suspended = λ x h is left busy other. (let b = begun_there x h is in (compared.each x h b.0 is b.1).out left busy);
      taken = λ share x n is reads. (let two : None ≡ Some x = sym (compared.unread share n is) ∙ reads in absurd cc);
    };
  }
