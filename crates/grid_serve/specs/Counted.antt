-- A store that counts the bytes of the shares that are closed in it.
use Rattle.std.specs.Prelude.{◌≡◌, ◌+◌, ◌-◌, ◌^◌, ◌⊎◌, ℕ, List, [], Option, Result, Ok, Err, false}
use Rattle.std.specs.Prelude.{length, min, unwrap_or}
use Rattle.wire.specs.declared.message.ShareId.{ShareId}
use Rattle.share_store.specs.declared.error.StoreError.{StoreError}
use Rattle.share_store.specs.declared.error.StoreError.TheVariants.{OutOfMemory}
use Rattle.share_store.specs.Calls.{Calls}
use Rattle.share_store.specs.Shelf.{ShareKey, at, key_of, same_key}

-- the store below, the bytes of the shares that were closed, and how many each open share has
pub record CountedState (S : Type 0) : Type 0 where
  pub store : S
  pub used : ℕ
  pub lengths : List (ShareKey × ℕ)

-- how many bytes an open share has: none where none is noted
abbrev pub length_at : ShareId → List (ShareKey × ℕ) → ℕ
length_at id lengths = unwrap_or (at (key_of id) lengths) 0

-- what is noted of all other shares is as it was
abbrev pub AreOthers : ShareKey → List (ShareKey × ℕ) → List (ShareKey × ℕ) → Type 0
AreOthers key old new =
    (other : ShareKey) → same_key key other ≡ false → at other new ≡ at other old

-- as a count of 64 bits
abbrev pub capped : ℕ → ℕ
capped n = min n (2 ^ 64 - 1)

-- Nothing but the store below changes.
pub record PassesOn {S : Type 0} (old : CountedState S) (gives : S → S → Type 0)
    (new : CountedState S) : Type 0 where
  pub store : gives old.store new.store
  pub used : new.used ≡ old.used
  pub lengths : new.lengths ≡ old.lengths

-- The store below writes, or fails to, and the share's length is noted.
pub record Writes {S : Type 0} (calls : Calls S) (old : CountedState S) (id : ShareId)
    (offset : ℕ) (bytes : List ℕ) (r : Result Unit StoreError) (new : CountedState S) : Type 0
  where
    pub store : calls.write_gives old.store id offset bytes r new.store
    pub used : new.used ≡ old.used
    pub noted : length_at id new.lengths ≡ capped (offset + length bytes)
    pub others : AreOthers (key_of id) old.lengths new.lengths

-- A share is closed below, so that its bytes are counted and nothing is noted of it any more.
pub record Counts {S : Type 0} (old : CountedState S) (id : ShareId) (new : CountedState S)
    : Type 0 where
  pub used : new.used ≡ capped (old.used + length_at id old.lengths)
  pub none : length_at id new.lengths ≡ 0
  pub others : AreOthers (key_of id) old.lengths new.lengths

abbrev pub Closes : {S : Type 0} → Calls S → CountedState S → ShareId → List ℕ
    → Result Unit StoreError → CountedState S → Type 0
Closes calls old id digest (Ok u) new =
    calls.close_gives old.store id digest (Ok u) new.store × Counts old id new
Closes calls old id digest (Err e) new =
    PassesOn old (λ s t. calls.close_gives s id digest (Err e) t) new

-- Nothing is noted any more of a share that the store below lets go of.
pub record LetsGo {S : Type 0} (calls : Calls S) (old : CountedState S) (id : ShareId)
    (new : CountedState S) : Type 0 where
  pub store : calls.let_go_gives old.store id new.store
  pub used : new.used ≡ old.used
  pub none : length_at id new.lengths ≡ 0
  pub others : AreOthers (key_of id) old.lengths new.lengths

pub record Restarts {S : Type 0} (calls : Calls S) (old new : CountedState S) : Type 0 where
  pub store : calls.restart_gives old.store new.store
  pub used : new.used ≡ old.used
  pub lengths : new.lengths ≡ []

-- What its calls give, by those of the store below. A write may find no memory to note a length:
-- then nothing is written.
abbrev pub counted_calls : {S : Type 0} → Calls S → Calls (CountedState S)
counted_calls calls =
    record {
      told = λ c id. calls.told c.store id;
      used = λ c. c.used;
      write_gives = λ old id offset bytes r new.
          ((r ≡ Err OutOfMemory) × (new ≡ old)) ⊎ Writes calls old id offset bytes r new;
      close_gives = λ old id digest r new. Closes calls old id digest r new;
      read_gives = λ old id offset len r new.
          PassesOn old (λ s t. calls.read_gives s id offset len r t) new;
      list_gives = λ old index r new. PassesOn old (λ s t. calls.list_gives s index r t) new;
      let_go_gives = λ old id new. LetsGo calls old id new;
      restart_gives = λ old new. Restarts calls old new;
    }
