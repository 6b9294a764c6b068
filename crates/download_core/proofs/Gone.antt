-- What is known where nothing more is made.
use Rattle.std.proofs.Common.{◌≡◌, ℕ, ◌<◌, ◌≤◌, ◌⊎◌, inl, inr, Bool, List, [], Contains, length, sym, ap, subst, ◌∙◌, arith}
use Rattle.std.specs.Prelude.{slice_get}
use Rattle.download_shares.specs.Table.{NoneIsFree}
use Rattle.download_shares.specs.BeginningState.{BeginningsState}
use Rattle.download_segments.specs.State.{HandoutState}
use Rattle.download_segments.specs.Handout.{next_segment}
use Rattle.download_file.specs.Asked.{AreAskedUp, IsAskedUp}
use Rattle.download_file.specs.Making.{CanNotGoOn, MustWait, SomeWaits}
use Rattle.download_file.specs.State.{FileState, IsComplete, IsLive, ReaderState, first_position, waiting_in}
use Rattle.download_core.specs.ReadingPrompt.{IsPrompt}
use Rattle.download_core.specs.Reading.{AreReading}
use Rattle.download_core.specs.ReadingState.{ReadingState}
use Rattle.download_core.specs.ReadingSteps.{IsStill, IsStuck, NoneIsLeft, left_count, work}

-- the same is to be made, and as many are left
pub same_work : (s t : BeginningsState) (r q : ReadingState) → q.file.handout ≡ r.file.handout → t.holdings.table.holdings ≡ s.holdings.table.holdings → work t q ≡ work s r
same_work s t r q same held =
    let to = ap (λ (h : HandoutState). h.to) same in
    let reached = ap (λ (h : HandoutState). h.reached) same in
    let left = ap left_count held in
    omega (arith, to, reached, left)

-- more readers were begun, all were asked, and no segment was made
module _ (a b d : BeginningsState) (x y z : ReadingState) (enough : (x.file.handout.geometry.needed ≤ length x.file.live) ⊎ NoneIsLeft a x) (table : b.holdings.table ≡ a.holdings.table) (live : y.file.live ≡ x.file.live) (aside : y.file.aside ≡ x.file.aside)
    (handout : y.file.handout ≡ x.file.handout) (asked : (reader : ℕ) → IsLive y.file reader → IsAskedUp y.file reader) (more : ¬ IsComplete y.file) (still : IsStill b y d z) (same : z.file.handout ≡ y.file.handout) where
  moved : SomeWaits y.file → SomeWaits z.file
  moved w = record {
    reader = w.reader;
    live = subst (λ (l : List ℕ). Contains l w.reader) (sym still.live) w.live;
    position = w.position;
    first = ap (λ (l : List ReaderState). first_position (waiting_in (slice_get l w.reader))) still.readers ∙ w.first;
  }

  left_still : NoneIsLeft a x → NoneIsLeft d z
  left_still none =
      let listed : z.file.aside ≡ [] = still.aside ∙ aside ∙ none.1 in
      (subst NoneIsFree (sym (ap (λ (s : BeginningsState). s.holdings.table) still.same ∙ table)) none.0, listed)

  few : length y.file.live < y.file.handout.geometry.needed → (x.file.handout.geometry.needed ≤ length x.file.live) ⊎ NoneIsLeft a x → IsStuck d z
  few lt (inl all) =
      let l = ap length live in
      let g = ap (λ (h : HandoutState). h.geometry.needed) handout in
      absurd (omega (arith, lt, all, l, g))
  few lt (inr none) =
      let l = ap length still.live in
      let g = ap (λ (h : HandoutState). h.geometry.needed) same in
      inl (omega (arith, lt, l, g), left_still none)

  pub stuck : CanNotGoOn y.file → IsStuck d z
  stuck (inl complete) = absurd (more complete)
  stuck (inr (inl lt)) = few lt enough
  stuck (inr (inr waits)) = inr (moved (waits asked))

-- all that is wanted stays asked where nothing is handed out, and the readers are the same
pub asked_still : (f g : FileState) → g.handout ≡ f.handout → g.live ≡ f.live → g.readers ≡ f.readers → AreAskedUp f → AreAskedUp g
asked_still f g handout lives readers asked reader live =
    let k = asked reader (subst (λ (l : List ℕ). Contains l reader) lives live) in
    record {
      own = λ r number part at next. k.own r number part (sym (ap (λ (rs : List ReaderState). slice_get rs reader) readers) ∙ at) (sym (ap next_segment handout) ∙ next);
      ciphertext = λ r number part gives at next. k.ciphertext r number part (sym (ap (λ (l : List ℕ). slice_get l 0) lives) ∙ gives)
          (sym (ap (λ (rs : List ReaderState). slice_get rs reader) readers) ∙ at) (sym (ap next_segment handout) ∙ next);
    }

pub prompt_now : (patient : Bool) (s : BeginningsState) (r : ReadingState) → AreReading s r → MustWait patient r.file → AreAskedUp r.file → IsPrompt patient s.holdings.requests.entries r.file
prompt_now patient s r reading waits asked = record {
  waits = waits;
  asked = asked;
  out = λ reader position live first.
      let k = reading.linked.live reader (inl live) in
      reading.awaits.first reader position k.held (record { live = inl live; holding = k.holding; of = k.of; is = k.is; left = k.left }) (λ e. cc) first;
}
