use Rattle.std.proofs.Common.{◌↔◌, IsTrue, List, ℕ, Option, Some, sym, subst}
use Rattle.cap_text.specs.Cap.{ReadCapValue}
use Rattle.world_operations.specs.declared.job.Job.{Job}
use Rattle.world_operations.specs.declared.job.Job.TheVariants.{Upload}
use Rattle.world_script.specs.Agreeing.{AgreesAs, AllHave}
use Rattle.world_script.specs.Plans.{IsUploadCap}
use Rattle.world_script.proofs.agreement.agree_with.Goals as goal

pub returns-in-Download : goal.returns-in-Download
returns-in-Download c = subst (λ (j : Job). IsTrue c.have_pieces.result ↔ AgreesAs j c.args.operation.now c.args.operations.now) (sym c.in-Download.is) c.have_pieces.ensures

pub returns-in-Some : goal.returns-in-Some
returns-in-Some c =
    let file : List ℕ = c.in-Upload.file in
    let secret : List ℕ = c.in-Upload.field-1 in
    let made : IsUploadCap (Upload file secret c.in-Upload.field-2) (Some c.in-Some.cap) = subst (λ (o : Option ReadCapValue). IsUploadCap (Upload file secret c.in-Upload.field-2) o) c.in-Some.is (subst (λ (j : Job). IsUploadCap j c.in_ok-cap-in-Upload.field-0) c.in-Upload.is c.in_ok-cap-in-Upload.ensures) in
    let says : IsTrue c.have_bytes.result ↔ AllHave c.in-Some.cap 0 file c.args.operations.now = subst (λ (b : List ℕ). IsTrue c.have_bytes.result ↔ AllHave c.in-Some.cap 0 b c.args.operations.now) c.as_slice.ensures c.have_bytes.ensures in
    let is : IsTrue c.have_bytes.result ↔ AgreesAs (Upload file secret c.in-Upload.field-2) c.args.operation.now c.args.operations.now = (
      λ t happy upload. subst (λ (k : ReadCapValue). AllHave k 0 file c.args.operations.now) made.1 (says.0 t),
      λ with. says.1 (subst (λ (k : ReadCapValue). AllHave k 0 file c.args.operations.now) (sym made.1) (with (c.is_happy.ensures.0 c.if-is_happy.true) made.0)),
    ) in
    subst (λ (j : Job). IsTrue c.have_bytes.result ↔ AgreesAs j c.args.operation.now c.args.operations.now) (sym c.in-Upload.is) is
