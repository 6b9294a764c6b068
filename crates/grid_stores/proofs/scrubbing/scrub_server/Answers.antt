use Rattle.grid_stores.proofs.ScrubLemmas.{read_looked, unread_looked}
use Rattle.grid_stores.proofs.scrubbing.scrub_server.Goals as goal

pub returns-in_ok-scrub_files-in-Ok : goal.returns-in_ok-scrub_files-in-Ok
returns-in_ok-scrub_files-in-Ok g c = read_looked c.args.words.now.json c.args.server c.args.counted.now c.scrub_files.new.counted _ _ c.in_ok-scrub_files-in-Ok.ensures

pub returns-in_ok-tell_folder-in-Err : goal.returns-in_ok-tell_folder-in-Err
returns-in_ok-tell_folder-in-Err g c = unread_looked c.args.words.now.json c.args.server c.args.counted.now _ _ c.in_ok-tell_folder-in-Err.ensures
