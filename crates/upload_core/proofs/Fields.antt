-- The fields of a course, as contracts see them.
use Rattle.upload_core.specs.State.{UploadState, upload_state}
use Rattle.upload_core.specs.declared.state.Course.TheInside.{Inside}

abbrev pub seen : Inside → UploadState
seen c = upload_state c.goal c.happy c.servers.items c.requests c.round c.status
