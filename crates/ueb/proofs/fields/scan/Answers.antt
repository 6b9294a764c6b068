use Rattle.std.proofs.Common.{rules}
use Rattle.ueb.proofs.Walk.{no_value, goes_on}
use Rattle.ueb.proofs.fields.scan.Goals as goal

pub returns-in_default-split_netstring-clause-fault : goal.returns-in_default-split_netstring-clause-fault
returns-in_default-split_netstring-clause-fault c =
    no_value c.args.bytes.now c.fields.last.now c.fields.rest.now c.in-Some.key.now c.in-Some.after.now c.fields.invariant (search rules) c.in-Some.ensures.key c.in-Some.ensures.found (c.precedes.ensures.0 c.if-not-precedes.false) c.in_default-split_netstring.ensures.none

pub fields-preserved : goal.fields-preserved
fields-preserved c =
    goes_on c.args.bytes.now c.fields.last.now c.fields.rest.now c.in-Some.key.now c.in-Some.after.now c.in-Some-split_netstring.field-0-0.now c.in-Some-split_netstring.after.now c.fields.invariant c.in-Some.ensures.key c.in-Some.ensures.found (c.precedes.ensures.0 c.if-not-precedes.false) c.in-Some-split_netstring.ensures.found
