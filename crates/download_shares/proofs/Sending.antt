-- The first request to send is sent: only what is still to be sent changes.
use Rattle.std.proofs.Common.{◌≡◌, ℕ, List, Option, Some, None, refl, sym, ap, subst}
use Rattle.wire.specs.declared.message.Message.{Message}
use Rattle.request_record.specs.Asking.{SendsFirst}
use Rattle.request_record.specs.Record.{RequestsState}

pub sent_is : (index : List ℕ) (old new : RequestsState) (o : Option (ℕ × Message)) → SendsFirst index old o new → new ≡ record old { outgoing = new.outgoing }
sent_is index old new None s = subst (λ (q : RequestsState). q ≡ record old { outgoing = q.outgoing }) (sym s.0) refl
sent_is index old new (Some f) s = subst (λ (q : RequestsState). q ≡ record old { outgoing = q.outgoing }) (sym s.3) refl

pub sent_entries : (index : List ℕ) (old new : RequestsState) (o : Option (ℕ × Message)) → SendsFirst index old o new → new.entries ≡ old.entries
sent_entries index old new o s = ap (λ (r : RequestsState). r.entries) (sent_is index old new o s)
