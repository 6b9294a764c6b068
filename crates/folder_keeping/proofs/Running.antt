-- One step after another.
use Rattle.std.proofs.Common.{◌≡◌, ℕ, List, [], ◌∷◌, ◌++◌, refl, sym, ap, ◌∙◌, subst}
use Rattle.std.specs.Prelude.{Some, Ok, Err, All, true, unwrap_or, IsSome, Result}
use Rattle.std.proofs.lemmas.List.Elements.{All-cons, All-head, All-nil, All-tail}
use Rattle.disks.specs.Laws.{DurableOutlasts}
use Rattle.wire.specs.declared.message.ShareId.{ShareId}
use Rattle.share_store.specs.declared.error.StoreError.{StoreError}
use Rattle.share_store.specs.Shelf.{ShareKey, key_of}
use Rattle.share_folders.specs.Names.{closed_name}
use Rattle.folder_keeping.specs.Store.{Facts, StoreState, Has, IsSyncing, Goes}
use Rattle.folder_keeping.specs.Steps.{Step, Does, Runs}
use Rattle.folder_keeping.specs.Steps.{Wrote, Closed, Read, Listed, Went, Restarted, Opened}
use Rattle.folder_keeping.specs.Kept.{AreOpen, AreOrderly, ConfirmedStay, Contents, IsFoundAlone, IsOrderly, IsSafe, IsTold, SafeStay, StaysSafe}
use Rattle.folder_keeping.specs.Kept.{contents_after, contents_by, nothing_known}
use Rattle.folder_keeping.proofs.Keys.{some_is}
use Rattle.folder_keeping.proofs.OpenShares.{none_open, open_closed, open_looked, open_unwritten, open_went, open_written, write_ready}
use Rattle.folder_keeping.proofs.SafeShares.{safe_beside, safe_closed, safe_held, safe_looked, safe_opened}

-- ---- single steps

honest_before : {D F : Type 0} (d : Facts D F) (step : Step) (s t : StoreState D F) → Does d step s t → d.honest t.disk → d.honest s.disk
honest_before d (Wrote id offset bytes r) s t does honest = does.goes.so_far honest
honest_before d (Closed id digest r) s t does honest = does.1.goes.so_far honest
honest_before d (Read id offset count r) s t does honest = does.goes.so_far honest
honest_before d (Listed index r) s t does honest = does.goes.so_far honest
honest_before d (Went id) s t does honest = does.so_far honest
honest_before d Restarted s t does honest = subst d.honest (ap (λ (w : StoreState _ _). w.disk) does) honest
honest_before d (Opened names) s t does honest = does.honest

going : {D F A : Type 0} (d : Facts D F) (s : StoreState D F) (r : Result A StoreError) (t : StoreState D F) → Goes d s r t → IsSyncing s → IsSyncing t
going d s r t goes synced taking = goes.durability ∙ synced (subst IsSome goes.own taking)

synced_after : {D F : Type 0} (d : Facts D F) (step : Step) (s t : StoreState D F) → Does d step s t → IsSyncing s → IsSyncing t
synced_after d (Wrote id offset bytes r) s t does synced = going d s r t does.goes synced
synced_after d (Closed id digest r) s t does synced = going d s r t does.1.goes synced
synced_after d (Read id offset count r) s t does synced = going d s r t does.goes synced
synced_after d (Listed index r) s t does synced = going d s r t does.goes synced
synced_after d (Went id) s t does synced = λ taking. does.durability ∙ synced (subst IsSome does.own taking)
synced_after {D} {F} d Restarted s t does synced = subst (λ (w : StoreState D F). IsSyncing w) (sym does) synced
synced_after d (Opened names) s t does synced = does.syncing

open_after : {D F : Type 0} (d : Facts D F) (step : Step) (s t : StoreState D F) (known : Contents) → Does d step s t → d.honest t.disk → AreOpen d s known → IsOrderly known step
    → AreOpen d t (contents_after known step)
open_after d (Wrote id offset bytes (Ok u)) s t known does honest shares orderly = open_written d s t id offset bytes u known does honest shares orderly.0 orderly.1
open_after d (Wrote id offset bytes (Err e)) s t known does honest shares orderly = open_unwritten d s t id offset bytes e known does honest shares orderly.0 orderly.1
open_after d (Closed id digest r) s t known does honest shares orderly = open_closed d s t id digest r known does.1 honest shares (orderly.0.0, orderly.0.1) orderly.1
open_after d (Read id offset count r) s t known does honest shares orderly = open_looked d s t known does.goes.own does.stays.opened (does.stays.beside honest) shares
open_after d (Listed index r) s t known does honest shares orderly = open_looked d s t known does.goes.own does.stays.opened (does.stays.beside honest) shares
open_after d (Went id) s t known does honest shares orderly = open_went d s t id known does honest shares orderly
open_after d Restarted s t known does honest shares orderly = none_open d t
open_after d (Opened names) s t known does honest shares orderly = none_open d t

safe_after : {D F : Type 0} → DurableOutlasts → (d : Facts D F) (step : Step) (s t : StoreState D F) (known : Contents) (key : ShareKey) (digest bytes : List ℕ) → Does d step s t → d.honest t.disk → AreOpen d s known
    → IsOrderly known step → IsFoundAlone key digest step → IsSafe d s key digest bytes → IsSafe d t key digest bytes
safe_after outlasts d (Wrote id offset written r) s t known key digest bytes does honest shares orderly alone safe =
    safe_held d s t key digest bytes does.closed does.recent (does.held honest _ (write_ready d s known (key_of id) offset shares orderly.0 orderly.1)) safe
safe_after outlasts d (Closed id other r) s t known key digest bytes does honest shares orderly alone safe =
    safe_beside d s t id other r _ key digest bytes does.1 honest does.0 orderly.0
    (shares.written (key_of id) (unwrap_or (known (key_of id)) []) (orderly.0.0, orderly.0.1) (some_is (known (key_of id)) [] orderly.1)) safe
safe_after outlasts d (Read id offset count r) s t known key digest bytes does honest shares orderly alone safe = safe_looked d s t key digest bytes does.stays honest safe
safe_after outlasts d (Listed index r) s t known key digest bytes does honest shares orderly alone safe = safe_looked d s t key digest bytes does.stays honest safe
safe_after outlasts d (Went id) s t known key digest bytes does honest shares orderly alone safe =
    safe_held d s t key digest bytes does.closed does.recent (does.held honest) safe
safe_after {D} {F} outlasts d Restarted s t known key digest bytes does honest shares orderly alone safe =
    subst (λ (w : StoreState D F). IsSafe d w key digest bytes) (sym does) (record { valid = safe.valid; has = safe.has; durable = safe.durable })
safe_after outlasts d (Opened names) s t known key digest bytes does honest shares orderly alone safe = safe_opened outlasts d s t names key digest bytes does honest alone safe

told_by : {D F : Type 0} (d : Facts D F) (step : Step) (s t : StoreState D F) (key : ShareKey) (digest bytes : List ℕ) → Does d step s t → d.honest t.disk
    → IsSafe d s key digest bytes → IsTold key digest bytes step
told_by d (Wrote id offset written r) s t key digest bytes does honest safe = tt
told_by d (Closed id other r) s t key digest bytes does honest safe = tt
told_by d (Read id offset count r) s t key digest bytes does honest safe = λ same.
    does.given honest digest bytes (subst (λ (k : ShareKey). Has d s k digest bytes) (sym same) safe.has)
told_by d (Listed index r) s t key digest bytes does honest safe = λ under. does.each honest key digest bytes safe.has under
told_by d (Went id) s t key digest bytes does honest safe = tt
told_by d Restarted s t key digest bytes does honest safe = tt
told_by d (Opened names) s t key digest bytes does honest safe = tt

-- ---- runs

pub honest_first : {D F : Type 0} (d : Facts D F) (steps : List Step) (s t : StoreState D F) → Runs d steps s t → d.honest t.disk → d.honest s.disk
honest_first d [] s t runs honest = subst d.honest (ap (λ (w : StoreState _ _). w.disk) runs) honest
honest_first d (step ∷ steps) s t runs honest = honest_before d step s runs.0 runs.1 (honest_first d steps runs.0 t runs.2 honest)

pub safe_stay : {D F : Type 0} → DurableOutlasts → (d : Facts D F) → SafeStay d
safe_stay outlasts d [] s t known runs honest synced shares orderly key digest bytes safe alone = record {
  safe = subst (λ (w : StoreState _ _). IsSafe d w key digest bytes) (sym runs) safe;
  told = All-nil (IsTold key digest bytes);
}
safe_stay outlasts d (step ∷ steps) s t known runs honest synced shares orderly key digest bytes safe alone =
    let m = runs.0 in
    let here = honest_first d steps m t runs.2 honest in
    let then = safe_stay outlasts d steps m t (contents_after known step) runs.2 honest (synced_after d step s m runs.1 synced) (open_after d step s m known runs.1 here shares orderly.0) orderly.1 key digest bytes
    (safe_after outlasts d step s m known key digest bytes runs.1 here shares orderly.0 (All-head (IsFoundAlone key digest) step steps alone) safe) (All-tail (IsFoundAlone key digest) step steps alone) in
    record { safe = then.safe; told = All-cons (IsTold key digest bytes) step steps (told_by d step s m key digest bytes runs.1 here safe) then.told }

-- a share is closed after some steps
closed_after : {D F : Type 0} → DurableOutlasts → (d : Facts D F) (before after : List Step) (id : ShareId) (digest bytes : List ℕ) (s t : StoreState D F) (known : Contents) → Runs d (before ++ Closed id digest (Ok tt) ∷ after) s t
    → d.honest t.disk → IsSyncing s → AreOpen d s known → AreOrderly known (before ++ Closed id digest (Ok tt) ∷ after) → contents_by before known (key_of id) ≡ Some bytes
    → d.relied (closed_name (key_of id) digest) bytes ≡ true → All (IsFoundAlone (key_of id) digest) after → StaysSafe d after t (key_of id) digest bytes
closed_after outlasts d [] after id digest bytes s t known runs honest synced shares orderly is relies alone =
    let m = runs.0 in
    let here = honest_first d after m t runs.2 honest in
    let close = Closed id digest (Ok tt) in
    safe_stay outlasts d after m t (contents_after known close) runs.2 honest (synced_after d close s m runs.1 synced) (open_after d close s m known runs.1 here shares orderly.0) orderly.1 (key_of id) digest bytes
    (safe_closed d s m id digest bytes tt runs.1.1 here synced orderly.0.0 (shares.written (key_of id) bytes (orderly.0.0.0, orderly.0.0.1) is) relies) alone
closed_after outlasts d (step ∷ before) after id digest bytes s t known runs honest synced shares orderly is relies alone =
    let m = runs.0 in
    let here = honest_first d (before ++ Closed id digest (Ok tt) ∷ after) m t runs.2 honest in
    closed_after outlasts d before after id digest bytes m t (contents_after known step) runs.2 honest (synced_after d step s m runs.1 synced) (open_after d step s m known runs.1 here shares orderly.0) orderly.1 is relies alone

pub confirmed_stay : {D F : Type 0} → DurableOutlasts → (d : Facts D F) → ConfirmedStay d
confirmed_stay outlasts d before after id digest bytes s t runs honest synced orderly is relies alone =
    closed_after outlasts d before after id digest bytes s t nothing_known runs honest synced (none_open d s) orderly is relies alone

-- ---- what a run leaves

pub synced_run : {D F : Type 0} (d : Facts D F) (steps : List Step) (s t : StoreState D F) → Runs d steps s t → IsSyncing s → IsSyncing t
synced_run d [] s t runs synced = subst (λ (w : StoreState _ _). IsSyncing w) (sym runs) synced
synced_run d (step ∷ steps) s t runs synced = synced_run d steps runs.0 t runs.2 (synced_after d step s runs.0 runs.1 synced)

pub open_run : {D F : Type 0} (d : Facts D F) (steps : List Step) (s t : StoreState D F) (known : Contents) → Runs d steps s t → d.honest t.disk → AreOpen d s known → AreOrderly known steps
    → AreOpen d t (contents_by steps known)
open_run d [] s t known runs honest shares orderly = subst (λ (w : StoreState _ _). AreOpen d w known) (sym runs) shares
open_run d (step ∷ steps) s t known runs honest shares orderly =
    open_run d steps runs.0 t (contents_after known step) runs.2 honest (open_after d step s runs.0 known runs.1 (honest_first d steps runs.0 t runs.2 honest) shares orderly.0) orderly.1

pub runs_on : {D F : Type 0} (d : Facts D F) (xs ys : List Step) (s m t : StoreState D F) → Runs d xs s m → Runs d ys m t → Runs d (xs ++ ys) s t
runs_on d [] ys s m t first then = subst (λ (w : StoreState _ _). Runs d ys w t) first then
runs_on d (x ∷ xs) ys s m t first then = (first.0, first.1, runs_on d xs ys first.0 m t first.2 then)

pub orderly_on : (known : Contents) (xs ys : List Step) → AreOrderly known xs → AreOrderly (contents_by xs known) ys → AreOrderly known (xs ++ ys)
orderly_on known [] ys first then = then
orderly_on known (x ∷ xs) ys first then = (first.0, orderly_on (contents_after known x) xs ys first.1 then)

pub contents_on : (known : Contents) (xs ys : List Step) → contents_by (xs ++ ys) known ≡ contents_by ys (contents_by xs known)
contents_on known [] ys = refl
contents_on known (x ∷ xs) ys = contents_on (contents_after known x) xs ys
