-- What a result is known by.
use Rattle.std.proofs.Common.{Result, Ok, Err, IfOk, OnErr, OnOk}

pub if_any : {X E : Type 0} (r : Result X E) (Q : X → Type 0) → ((x : X) → Q x) → IfOk r Q
if_any (Ok x) Q f = f x
if_any (Err e) Q f = tt

pub on_any : {X E : Type 0} (r : Result X E) (Q : Type 0) → Q → OnErr r Q
on_any (Ok x) Q q = tt
on_any (Err e) Q q = q

pub on_both : {X E : Type 0} {P Q R : Type 0} (r : Result X E) → OnOk r P → OnOk r Q → (P → Q → R) → OnOk r R
on_both (Ok x) p q f = f p q
on_both (Err e) p q f = tt

pub on_err_then : {X E : Type 0} (r : Result X E) (P Q : Type 0) → OnErr r P → (P → Q) → OnErr r Q
on_err_then (Ok x) P Q p f = tt
on_err_then (Err e) P Q p f = f p
