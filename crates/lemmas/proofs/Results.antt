-- What holds of results.
use Rattle.std.proofs.Common.{◌⊎◌, inl, inr, Result, Ok, Err, IfOk, OnOk, OnErr}

-- What follows from what a success says.
pub on_ok : {X E : Type 0} (r : Result X E) (P Q : Type 0) → (P → Q) → OnOk r P → OnOk r Q
on_ok (Ok x) P Q f p = f p
on_ok (Err e) P Q f p = p

-- The same, with what is said before what follows from it.
pub on_ok_then : {X E : Type 0} (r : Result X E) (P Q : Type 0) → OnOk r P → (P → Q) → OnOk r Q
on_ok_then r P Q p f = on_ok r P Q f p

-- What follows from what a success says of its value.
pub if_ok_then : {X E : Type 0} (r : Result X E) (P Q : X → Type 0) → IfOk r P → ((x : X) → P x → Q x) → IfOk r Q
if_ok_then (Ok x) P Q p f = f x p
if_ok_then (Err e) P Q p f = tt

-- What follows from each clause follows from both.
pub by_result : {X E : Type 0} (r : Result X E) (P Q C : Type 0) → OnOk r P → OnErr r Q → (P → C) → (Q → C) → C
by_result (Ok x) P Q C p q f g = f p
by_result (Err e) P Q C p q f g = g q

-- One of the two clauses says something.
pub settled_by : {X E : Type 0} (r : Result X E) (P Q : Type 0) → OnOk r P → OnErr r Q → P ⊎ Q
settled_by (Ok x) P Q p q = inl p
settled_by (Err e) P Q p q = inr q
