use Rattle.std.proofs.Common.{refl}
use Rattle.grid_commands.proofs.RunLemmas.{check_files_run, check_run, describe_run, get_files_run, get_run, init_run, put_run, repair_files_run, repair_run, scrub_run, status_run, verify_files_run, verify_run, world_run}
use Rattle.grid_commands.proofs.run.Goals as goal

pub returns-in-Init : goal.returns-in-Init
returns-in-Init g c = init_run _ _ c.args.request.now c.printed.result _ _ _ _ refl c.in-Init.words c.init.result c.in-Init.is c.init.ensures c.printed.ensures.done c.printed.ensures.undone

pub returns-in-Put : goal.returns-in-Put
returns-in-Put g c = put_run _ _ c.args.request.now c.put.result _ _ _ _ refl c.in-Put.words c.in-Put.is c.put.ensures.done c.put.ensures.undone

pub returns-in-Get : goal.returns-in-Get
returns-in-Get g c = get_run _ _ c.args.request.now c.got.result _ _ _ _ c.in-Get.words c.in-Get.is c.got.ensures.done c.got.ensures.undone c.got.ensures.filed

pub returns-in-GetFiles : goal.returns-in-GetFiles
returns-in-GetFiles g c = get_files_run _ _ c.args.request.now c.get_files.result _ _ _ _ c.in-GetFiles.words c.in-GetFiles.is refl c.get_files.ensures.done c.get_files.ensures.undone

pub returns-in-Check : goal.returns-in-Check
returns-in-Check g c = check_run _ _ c.args.request.now c.told.result _ _ _ _ refl c.in-Check.words c.checked.result c.in-Check.is c.checked.ensures c.told.ensures.done c.told.ensures.undone

pub returns-in-Verify : goal.returns-in-Verify
returns-in-Verify g c = verify_run _ _ c.args.request.now c.told-in-Verify.result _ _ _ _ refl c.in-Verify.words c.verified.result c.in-Verify.is c.verified.ensures c.told-in-Verify.ensures.done c.told-in-Verify.ensures.undone

pub returns-in-VerifyFiles : goal.returns-in-VerifyFiles
returns-in-VerifyFiles g c = verify_files_run _ _ c.args.request.now c.verify_files.result _ _ _ _ refl c.in-VerifyFiles.words c.args.environment.now.secret_file c.in-VerifyFiles.is c.verify_files.ensures.done c.verify_files.ensures.undone

pub returns-in-Repair : goal.returns-in-Repair
returns-in-Repair g c = repair_run _ _ c.args.request.now c.told-in-Repair.result _ _ _ _ refl c.in-Repair.words c.repaired.result c.in-Repair.is c.repaired.ensures c.told-in-Repair.ensures.done c.told-in-Repair.ensures.undone

pub returns-in-CheckFiles : goal.returns-in-CheckFiles
returns-in-CheckFiles g c = check_files_run _ _ c.args.request.now c.check_files.result _ _ _ _ refl c.in-CheckFiles.words c.in-CheckFiles.is c.check_files.ensures.done c.check_files.ensures.undone

pub returns-in-RepairFiles : goal.returns-in-RepairFiles
returns-in-RepairFiles g c = repair_files_run _ _ c.args.request.now c.repair_files.result _ _ _ _ refl c.in-RepairFiles.words c.in-RepairFiles.is c.repair_files.ensures.done c.repair_files.ensures.undone

pub returns-in-Scrub : goal.returns-in-Scrub
returns-in-Scrub g c = scrub_run _ _ c.args.request.now c.scrub.result _ _ _ _ refl c.in-Scrub.words c.in-Scrub.is c.scrub.ensures

pub returns-in-Status : goal.returns-in-Status
returns-in-Status g c = status_run _ _ c.args.request.now c.told-in-Status.result _ _ _ _ refl c.in-Status.words c.status.result c.in-Status.is c.status.ensures c.told-in-Status.ensures.done c.told-in-Status.ensures.undone

pub returns-in-World : goal.returns-in-World
returns-in-World g c = world_run _ _ c.args.request.now c.world.result _ _ _ _ refl c.in-World.path c.in-World.is c.world.ensures.done c.world.ensures.undone

pub returns-in-Describe : goal.returns-in-Describe
returns-in-Describe g c = describe_run _ _ c.args.request.now c.printed-in-Describe.result _ _ _ _ refl c.in-Describe.text c.describe.result c.in-Describe.is c.describe.ensures c.printed-in-Describe.ensures.done c.printed-in-Describe.ensures.undone
